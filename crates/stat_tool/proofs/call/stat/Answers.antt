use Rattle.std.proofs.Common.{map, string_bytes}
use Rattle.stat_desk.specs.Change.{change}
use Rattle.stat_words.specs.Words.{asked}
use Rattle.stat_tool.proofs.Determined.{all_determined}
use Rattle.stat_tool.proofs.call.stat.Goals as goal

pub returns-clause-determined : goal.returns-clause-determined
returns-clause-determined g c =
    all_determined (asked (map string_bytes c.args.words.now)) (change g.D.Desk.seen c.args.desk.now c.run.new.desk)
    (change g.O.Sink.seen c.args.out.now c.run.new.out) (change g.J.Sink.seen c.args.journal.now c.run.new.journal)
    c.run.result.journal c.run.result.status c.run.ensures.answered

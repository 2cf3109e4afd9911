use Rattle.std.proofs.Common.{map, refl, string_bytes, subst, sym}
use Rattle.std.specs.Prelude.{Result}
use Rattle.stat_desk.specs.Change.{change}
use Rattle.stat_words.specs.Words.{Asked, asked, asked_of}
use Rattle.stat_words.specs.declared.words.WordFault.{WordFault}
use Rattle.stat_tool.specs.Call.{Answered}
use Rattle.stat_tool.specs.Views.{output_view}
use Rattle.stat_tool.proofs.Explained.{explained, words_need_memory}
use Rattle.stat_tool.proofs.call.run.Goals as goal

pub returns-in-Err-OutOfMemory-clause-answered : goal.returns-in-Err-OutOfMemory-clause-answered
returns-in-Err-OutOfMemory-clause-answered g c =
    words_need_memory (asked (map string_bytes c.args.words.now)) (g.D.Desk.seen c.args.desk.now)
    (change g.O.Sink.seen c.args.out.now c.args.out.now) (change g.J.Sink.seen c.args.journal.now c.args.journal.now)
    c.stopped-in-Err-OutOfMemory.result.journal c.stopped-in-Err-OutOfMemory.result.status c.stopped-in-Err-OutOfMemory.ensures.status
    (record { took = refl; contents = refl }) (record { took = refl; contents = refl }) c.stopped-in-Err-OutOfMemory.ensures.journal

pub returns-in-Ok-prepare-clause-answered : goal.returns-in-Ok-prepare-clause-answered
returns-in-Ok-prepare-clause-answered g c =
    let desk = change g.D.Desk.seen c.args.desk.now c.prepare.new.desk in
    let out = change g.O.Sink.seen c.args.out.now c.deliver.new.out in
    let journal = change g.J.Sink.seen c.args.journal.now c.deliver.new.journal in
    subst (λ (words : Result Asked WordFault). Answered words desk out journal c.deliver.result.journal c.deliver.result.status) (sym c.in-Ok.ensures.reads)
    (explained (asked_of c.in-Ok.command) desk out journal c.deliver.result.journal (output_view c.in-Ok-prepare.output) c.deliver.result.status
    c.in-Ok-prepare.ensures.ok c.deliver.ensures.written c.deliver.ensures.events)

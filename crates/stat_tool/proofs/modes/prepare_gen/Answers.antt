use Rattle.std.proofs.Common.{[], refl, sym, append-nil}
use Rattle.stat_words.specs.Words.{Gen}
use Rattle.job_files.specs.Tasks.{GenTask}
use Rattle.job_files.specs.NextStep.{next_step}
use Rattle.stat_tool.proofs.Prepared.{not_asked}
use Rattle.stat_tool.proofs.modes.prepare_gen.Goals as goal

pub returns-in-Ok-clause-ok : goal.returns-in-Ok-clause-ok
returns-in-Ok-clause-ok g c = record {
  results = [];
  read = not_asked (next_step (Gen c.args.size c.args.seed)) (g.D.Desk.seen c.args.desk.now);
  all_read = sym (append-nil (g.D.Desk.seen c.args.desk.now).reads);
  task = GenTask c.args.size c.args.seed;
  step = refl;
  is_output = c.in-Ok.ensures;
}

pub returns-in-Err-clause-err : goal.returns-in-Err-clause-err
returns-in-Err-clause-err g c = ([], (not_asked (next_step (Gen c.args.size c.args.seed)) (g.D.Desk.seen c.args.desk.now), tt))

use Rattle.std.proofs.Common.{◌≡◌, ◌++◌, drop}
use Rattle.stat_plan.specs.Plans.{serves}
use Rattle.wave_resend.specs.Books.{AreUntouched, keys_of}
use Rattle.wave_resend.proofs.Starting.{passing_waves}
use Rattle.wave_resend.proofs.start.entries_of.Given as goal

abbrev pub invariant-loop-stream : goal.invariant-loop-stream
invariant-loop-stream l = record {
  keys : keys_of l.entries.items ++ passing_waves (serves l.plan l.n) (drop l.stream-index l.stream-items) ≡ passing_waves (serves l.plan l.n) l.stream-items;
  untouched : AreUntouched l.entries.items;
}

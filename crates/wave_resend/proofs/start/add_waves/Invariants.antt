use Rattle.std.proofs.Common.{◌≡◌, ◌++◌}
use Rattle.wave_resend.specs.Books.{AreUntouched, first_waves, keys_of}
use Rattle.wave_resend.proofs.start.add_waves.Given as goal

abbrev pub invariant-loop-w : goal.invariant-loop-w
invariant-loop-w l = record {
  keys : keys_of l.entries.items ≡ keys_of l.fn.entries.items ++ first_waves l.s l.w;
  untouched : AreUntouched l.entries.items;
}

-- The mode of a stream.
use Rattle.std.proofs.Common.{◌≡◌, ℕ, Option, Some, None, sym, ap}
use Rattle.overlay_setup.specs.Scripts.{Stream}
use Rattle.overlay_setup.specs.declared.script.Mode.{Mode}
use Rattle.overlay_setup.specs.declared.script.Mode.TheVariants.{WaitForAll}
use Rattle.stat_plan.specs.Plans.{Plan, mode, stream_of}

pub mode_at : (p : Plan) (s : ℕ) (x : Stream) → stream_of p s ≡ Some x → x.mode ≡ mode p s
unfolding mode
mode_at p s x is = sym (ap (λ (o : Option Stream). elim o as (λ _. Mode) [ None ↦ WaitForAll | (Some x) ↦ x.mode ]) is)

use Rattle.std.proofs.Common.{rules, ◌<◌, ◌+◌, ◌^◌, ℕ, List, length, sym, ap, ◌∙◌, arith}
use Rattle.std.specs.Bool.{◌==◌}
use Rattle.packet_frame.proofs.Feeds.{ends_short, some_bytes}
use Rattle.packet_frame.proofs.feeder.Feeder.finish.Goals as goal

pub overflow_add-result : goal.overflow_add-result
overflow_add-result g c = let lt : c.self.inside.before + c.self.inside.waiting < 2 ^ 64 = omega (arith, c.self.invariant.fits, c.self.invariant.within) in search rules

pub returns : goal.returns
returns g c = ends_short c.args.self.now c.self.inside.before c.self.inside.rest.items c.self.inside.waiting c.self.inside.refusal c.self.inside.reader (sym c.self.view_is) c.self.invariant c.in_default.is (some_bytes c.self.inside.rest.items (c.if-is_empty.ensures ∙ ap (λ (xs : List ℕ). length xs == 0) c.as_slice.ensures.value))

use Rattle.std.proofs.Common.{sym, ◌∙◌}
use Rattle.wave_resend.proofs.Order.{halfway, search_begin, search_high, search_low}
use Rattle.wave_resend.proofs.find.count_to.Goals as goal

pub loop-low-init : goal.loop-low-init
loop-low-init c = search_begin (c.args.s, c.args.w) c.args.entries.now

pub loop-low-preserved-then-is_after : goal.loop-low-preserved-then-is_after
loop-low-preserved-then-is_after c =
    search_low (c.args.s, c.args.w) c.args.entries.now c.loop-low.low c.loop-low.high _ c.index-entries-middle.result c.loop-low.invariant (halfway c.loop-low.low c.loop-low.high c.loop-low-test.true) c.index-entries-middle.is (sym c.is_after.ensures ∙ c.if-is_after.true)

pub loop-low-preserved : goal.loop-low-preserved
loop-low-preserved c =
    search_high (c.args.s, c.args.w) c.args.entries.now c.loop-low.low c.loop-low.high _ c.index-entries-middle.result c.requires c.loop-low.invariant (halfway c.loop-low.low c.loop-low.high c.loop-low-test.true) c.index-entries-middle.is (sym c.is_after.ensures ∙ c.if-is_after.false)

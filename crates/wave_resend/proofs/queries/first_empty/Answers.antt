use Rattle.std.proofs.Common.{ℕ, Some, sym, ap, ◌∙◌, ◌==◌, ◌&&◌, option_map}
use Rattle.wave_resend.specs.Books.{WaveAt}
use Rattle.stat_plan.specs.Machine.Waves.{is_empty_open}
use Rattle.wave_resend.proofs.Looking.{find_here, find_step}
use Rattle.wave_resend.proofs.queries.first_empty.Goals as goal

pub loop-entry-preserved : goal.loop-entry-preserved
loop-entry-preserved c =
    find_step (λ (e : WaveAt). (e.stream == c.args.s) && is_empty_open e.state) c.args.entries.now c.loop-entry.entry-index c.entry-item.result c.loop-entry-test.true c.entry-item.is (sym c.is_empty_of.ensures ∙ c.if-is_empty_of.false) c.loop-entry.invariant

pub returns-then-is_empty_of : goal.returns-then-is_empty_of
returns-then-is_empty_of c =
    ap (λ (k : ℕ × ℕ). Some k.1) c.key.ensures
    ∙ ap (option_map (λ (e : WaveAt). e.wave))
    (sym (find_here (λ (e : WaveAt). (e.stream == c.args.s) && is_empty_open e.state) c.args.entries.now c.loop-entry.entry-index c.entry-item.result c.loop-entry-test.true c.entry-item.is (sym c.is_empty_of.ensures ∙ c.if-is_empty_of.true) c.loop-entry.invariant))

use Rattle.std.proofs.Common.{Some, sym, ap, ◌∙◌, option_map}
use Rattle.stat_plan.specs.Machine.Waves.{is_open}
use Rattle.wave_resend.specs.Books.{WaveAt, key_of}
use Rattle.wave_resend.proofs.Looking.{find_here, find_step}
use Rattle.wave_resend.proofs.queries.first_open.Goals as goal

pub loop-entry-preserved : goal.loop-entry-preserved
loop-entry-preserved c =
    find_step (λ (e : WaveAt). is_open e.state) c.args.entries.now c.loop-entry.entry-index c.entry-item.result c.loop-entry-test.true c.entry-item.is (sym c.is_open.ensures ∙ c.if-is_open.false) c.loop-entry.invariant

pub returns-then-is_open : goal.returns-then-is_open
returns-then-is_open c =
    ap Some c.key.ensures
    ∙ ap (option_map key_of)
    (sym (find_here (λ (e : WaveAt). is_open e.state) c.args.entries.now c.loop-entry.entry-index c.entry-item.result c.loop-entry-test.true c.entry-item.is (sym c.is_open.ensures ∙ c.if-is_open.true) c.loop-entry.invariant))

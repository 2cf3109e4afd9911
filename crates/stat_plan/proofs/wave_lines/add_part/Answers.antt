use Rattle.std.proofs.Common.{[], ◌∷◌, sym, subst, refl, ◌∙◌}
use Rattle.stat_plan.specs.OwnLines.{GainSeen}
use Rattle.stat_plan.proofs.WaveRows.{gain_line, gain_nothing, none_at, none_in_common}
use Rattle.stat_plan.proofs.wave_lines.add_part.Goals as goal

pub returns-then-not-contains : goal.returns-then-not-contains
returns-then-not-contains c = gain_nothing c.args.times.samples c.args.times.wave c.args.own.now c.args.line.now c.args.lines.now.items (none_at c.args.times.samples c.args.times.wave c.args.own.now c.args.line.now (sym c.contains.ensures ∙ c.if-not-contains.true))

pub returns-then-is_empty : goal.returns-then-is_empty
returns-then-is_empty c =
    gain_nothing c.args.times.samples c.args.times.wave c.args.own.now c.args.line.now c.args.lines.now.items
    (none_in_common c.args.times.samples c.args.times.wave c.args.own.now c.args.line.now c.in_ok-ranks.ranks (sym c.is_empty.ensures ∙ c.if-is_empty.true) c.in_ok-ranks.ensures)

pub returns : goal.returns
returns c =
    let line = c.args.line.now in
    subst (GainSeen c.args.times.samples c.args.times.wave c.args.own.now (line ∷ []) c.args.lines.now.items) (sym c.in_ok-push.ensures.items)
    (gain_line c.args.times.samples c.args.times.wave c.args.own.now line (record { time = line.time; ranks = c.in_ok-ranks.ranks; path = line.path }) c.args.lines.now.items refl refl c.in_ok-ranks.ensures)

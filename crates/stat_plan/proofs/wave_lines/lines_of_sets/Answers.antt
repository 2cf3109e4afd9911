use Rattle.std.proofs.Common.{◌≡◌, arith, inl, inr, length, sym, subst, refl, ◌∙◌}
use Rattle.std.proofs.lemmas.Bool.{true≢false, cases_lt}
use Rattle.stat_plan.proofs.Gathering.{AreLinesFrom, lines_from_all, lines_from_more, lines_from_none, lines_from_skip}
use Rattle.stat_plan.proofs.wave_lines.lines_of_sets.Goals as goal

pub loop-ranks-init : goal.loop-ranks-init
loop-ranks-init c = lines_from_none c.args.sets.items c.args.time c.new-lines.result.items c.new-lines.ensures.items

pub loop-ranks-preserved-in-Continue-1 : goal.loop-ranks-preserved-in-Continue-1
loop-ranks-preserved-in-Continue-1 c =
    subst (AreLinesFrom c.args.sets.items c.args.time c.pop.new.self.items) (sym c.in_ok-push-in-Ok.ensures.items)
    (lines_from_more c.args.sets.items c.args.time c.loop-ranks.left.items c.pop.new.self.items c.loop-ranks.lines.items c.in-Some.ranks c.loop-ranks.invariant c.in-Some.ensures.items (record { time = c.args.time; ranks = c.in-Some.ranks; path = c.in-Ok.path }) refl (let a = c.in-Ok.ensures in let b = c.len.ensures in let d = c.pop.new.self.ok.0 in omega (arith, a, b, d)) refl)

pub loop-ranks-preserved-else-not-is_empty : goal.loop-ranks-preserved-else-not-is_empty
loop-ranks-preserved-else-not-is_empty c =
    lines_from_skip c.args.sets.items c.args.time c.loop-ranks.left.items c.pop.new.self.items c.loop-ranks.lines.items c.in-Some.ranks c.loop-ranks.invariant c.in-Some.ensures.items (sym c.is_empty.ensures ∙ c.if-not-is_empty.false)

pub loop-ranks-preserved-else-not-is_empty-2 : goal.loop-ranks-preserved-else-not-is_empty-2
loop-ranks-preserved-else-not-is_empty-2 c =
    lines_from_skip c.args.sets.items c.args.time c.loop-ranks.left.items c.pop.new.self.items c.loop-ranks.lines.items c.in-Some.ranks c.loop-ranks.invariant c.in-Some.ensures.items (sym c.is_empty.ensures ∙ c.if-not-is_empty.false)

pub loop-ranks-preserved-else-not-is_empty-3 : goal.loop-ranks-preserved-else-not-is_empty-3
loop-ranks-preserved-else-not-is_empty-3 c =
    lines_from_skip c.args.sets.items c.args.time c.loop-ranks.left.items c.pop.new.self.items c.loop-ranks.lines.items c.in-Some.ranks c.loop-ranks.invariant c.in-Some.ensures.items (sym c.is_empty.ensures ∙ c.if-not-is_empty.false)

pub loop-ranks-preserved : goal.loop-ranks-preserved
loop-ranks-preserved c =
    lines_from_skip c.args.sets.items c.args.time c.loop-ranks.left.items c.pop.new.self.items c.loop-ranks.lines.items c.in-Some.ranks c.loop-ranks.invariant c.in-Some.ensures.items (sym c.is_empty.ensures ∙ c.if-not-is_empty.false)

pub returns : goal.returns
returns c =
    let left = c.loop-ranks.left in
    let empty : length left.items ≡ 0 = elim (cases_lt 0 (length left.items)) [
      | (inl some) ↦ absurd (true≢false (sym (c.in_default.ensures.variant.1 (let d = left.ok.0 in omega (arith, d, some)))))
      | (inr none) ↦ omega (arith, none)
    ] in
    lines_from_all c.args.sets.items c.args.time left.items c.loop-ranks.lines.items empty c.loop-ranks.invariant

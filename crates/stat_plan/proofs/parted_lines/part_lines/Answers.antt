use Rattle.std.proofs.Common.{◌≡◌, ◌<◌, ◌++◌, ◌∷◌, ◌∙◌, ◌+◌, ℕ, List, Some, [], sym, ap, subst, arith, length, take}
use Rattle.std.specs.Prelude.{slice_get}
use Rattle.std.proofs.lemmas.List.{take_more}
use Rattle.std.proofs.lemmas.Option.{get_or_from_slice_get}
use Rattle.overlay_setup.specs.NodeSets.{In}
use Rattle.stat_plan.specs.LineLists.{line_view}
use Rattle.stat_plan.specs.OwnLines.{AreParted}
use Rattle.overlay_setup.specs.Tables.{rows_view}
use Rattle.stat_plan.specs.declared.samples.StackLine.{StackLine}
use Rattle.stat_plan.proofs.FirstOver.{all_in}
use Rattle.stat_plan.proofs.InLists.{in_at}
use Rattle.stat_plan.proofs.Sharing.{parted_none}
use Rattle.stat_plan.proofs.parted_lines.part_lines.Goals as goal

listed : (lines : List StackLine) (i : ℕ) (line : StackLine) → i < length lines → slice_get lines i ≡ Some line → In line lines
listed lines i line lt is = subst (λ l. In l lines) (get_or_from_slice_get lines i line line is) (in_at lines i line lt)

taken : (lines : List StackLine) (i : ℕ) (line : StackLine) → i < length lines → slice_get lines i ≡ Some line → take (i + 1) lines ≡ take i lines ++ line ∷ []
taken lines i line lt is = take_more lines i line lt ∙ ap (λ l. take i lines ++ l ∷ []) (get_or_from_slice_get lines i line line is)

pub loop-i-init : goal.loop-i-init
loop-i-init c = record {
  keys = c.new-spread.ensures.keys;
  parted = parted_none c.args.placed.now c.new-spread.result.lines.items (rows_view c.args.rows.now) c.new-spread.ensures.empty c.requires.empty;
}

pub part_line-requires-clause-not_empty : goal.part_line-requires-clause-not_empty
part_line-requires-clause-not_empty c =
    (all_in _ c.args.lines.now (line_view c.line.result) c.requires.lines (listed c.args.lines.now c.loop-i.i (line_view c.line.result) (let len = c.len-i-end.ensures in let lt = c.loop-i-test.true in omega (arith, len, lt)) c.line.ensures.line)).0

pub part_line-requires-clause-placed : goal.part_line-requires-clause-placed
part_line-requires-clause-placed c =
    (all_in _ c.args.lines.now (line_view c.line.result) c.requires.lines (listed c.args.lines.now c.loop-i.i (line_view c.line.result) (let len = c.len-i-end.ensures in let lt = c.loop-i-test.true in omega (arith, len, lt)) c.line.ensures.line)).1

pub loop-i-preserved : goal.loop-i-preserved
loop-i-preserved c = record {
  keys = c.in_ok-part_line.ensures.keys;
  parted = subst (λ ls. AreParted c.args.placed.now ls c.part_line.new.spread.lines.items (rows_view c.part_line.new.rows))
      (sym (taken c.args.lines.now c.loop-i.i (line_view c.line.result) (let len = c.len-i-end.ensures in let lt = c.loop-i-test.true in omega (arith, len, lt)) c.line.ensures.line))
      (c.in_ok-part_line.ensures.parted (take c.loop-i.i c.args.lines.now) c.loop-i.invariant.parted);
}

use Rattle.std.proofs.Common.{◌≡◌, [], sym, ap, subst, ◌∙◌, Vec, Global}
use Rattle.std.proofs.lemmas.List.{get_or_default}
use Rattle.rank_set.specs.Ranks.{Has, is_empty, none}
use Rattle.stat_plan.specs.OwnLines.{AreNodeLines, GainSeen, ranks_at, ranks_of_lines, row_at}
use Rattle.overlay_setup.specs.Tables.{rows_view}
use Rattle.stat_plan.specs.declared.samples.StackLine.{StackLine}
use Rattle.stat_plan.proofs.Indexing.{row_here}
use Rattle.stat_plan.proofs.WaveRows.{node_lines_kept, node_lines_made, node_lines_sorted, none_spread}
use Rattle.stat_plan.proofs.wave_lines.node_lines.Goals as goal

pub returns-then-is_empty : goal.returns-then-is_empty
returns-then-is_empty c =
    let parted = c.args.parted.now in
    let n = c.args.n in
    let row : c.as_slice.result.now ≡ row_at (rows_view parted.rows.items) n = c.as_slice.ensures.value ∙ ap (λ (r : Vec StackLine Global). r.items) c.index-row.ensures ∙ row_here parted.rows.items n c.index-row.result.now c.requires.rows in
    let numbers : c.index-numbers.result.now ≡ ranks_at parted.numbers.items n = c.index-numbers.ensures ∙ get_or_default parted.numbers.items n c.index-numbers.result.now none c.requires.numbers in
    subst (AreNodeLines c.args.times.samples c.args.times.wave c.args.own.now (row_at (rows_view parted.rows.items) n) parted.spread.items) (sym row)
    (node_lines_kept c.args.times.samples c.args.times.wave c.args.own.now (row_at (rows_view parted.rows.items) n) parted.spread.items c.requires.own
    (none_spread c.args.times.samples c.args.times.wave c.args.own.now (ranks_at parted.numbers.items n) parted.spread.items c.requires.indexed (ap is_empty (sym numbers) ∙ sym c.is_empty.ensures ∙ c.if-is_empty.true)))

pub add_spread-requires : goal.add_spread-requires
add_spread-requires c = λ i r own there.
    subst (Has i) (sym (c.index-numbers.ensures ∙ get_or_default c.args.parted.now.numbers.items c.args.n c.index-numbers.result.now none c.requires.numbers))
    (c.requires.indexed i r own (subst (λ ls. Has r (ranks_at (ranks_of_lines ls) i)) c.as_slice-3.ensures.value there))

pub returns : goal.returns
returns c =
    let parted = c.args.parted.now in
    let n = c.args.n in
    let k = c.args.times.samples in
    let w = c.args.times.wave in
    let row : c.as_slice-2.result.now ≡ row_at (rows_view parted.rows.items) n = c.as_slice-2.ensures.value ∙ ap (λ (r : Vec StackLine Global). r.items) c.index-row.ensures ∙ row_here parted.rows.items n c.index-row.result.now c.requires.rows in
    node_lines_sorted k w c.args.own.now (row_at (rows_view parted.rows.items) n) parted.spread.items c.add_spread.new.lines.items c.sort_row.new.row.items c.in_ok-sort_row.ensures
    (node_lines_made k w c.args.own.now (row_at (rows_view parted.rows.items) n) parted.spread.items c.add_parts.new.lines.items c.add_spread.new.lines.items
    (subst (λ ls. GainSeen k w c.args.own.now ls [] c.add_parts.new.lines.items) row (subst (λ old. GainSeen k w c.args.own.now c.as_slice-2.result.now old c.add_parts.new.lines.items) c.new-lines.ensures.items c.in_ok-add_parts.ensures))
    (subst (λ ls. GainSeen k w c.args.own.now ls c.add_parts.new.lines.items c.add_spread.new.lines.items) c.as_slice-3.ensures.value c.in_ok-add_spread.ensures))

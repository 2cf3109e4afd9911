use Rattle.std.proofs.Common.{◌≡◌, ◌<◌, ℕ, length, get_or, take, sym, ap, subst, ◌∙◌, ◌+◌, Vec, Global}
use Rattle.std.specs.List.{AllByRecursion}
use Rattle.std.proofs.lemmas.List.{get_or_default, length-map, with_items_is}
use Rattle.rank_set.specs.Ranks.{none}
use Rattle.overlay_setup.specs.NodeSets.{In, up_to}
use Rattle.stat_plan.specs.OwnLines.{GainRanksSeen, ranks_at, row_at}
use Rattle.overlay_setup.specs.Tables.{rows_view}
use Rattle.stat_plan.specs.declared.samples.StackLine.{StackLine}
use Rattle.stat_plan.proofs.Gathering.{AreRowsSeen, rows_seen_more, rows_seen_none}
use Rattle.stat_plan.proofs.Indexing.{row_here}
use Rattle.stat_plan.proofs.InLists.{in_at}
use Rattle.overlay_setup.proofs.UpTo.{length-up_to, at_table}
use Rattle.stat_plan.proofs.wave_lines.ranks_seen.Goals as goal

pub loop-d-init : goal.loop-d-init
loop-d-init c =
    rows_seen_none c.args.wanted.times.samples c.args.wanted.times.wave c.args.wanted.ranks.now (rows_view c.args.parted.now.rows.items) c.args.count c.in_ok-sets.sets.items
    (ap length c.in_ok-sets.ensures ∙ length-map (up_to c.args.count) (λ (_ : ℕ). none) ∙ length-up_to c.args.count)
    (λ p below. ap (λ xs. ranks_at xs p) c.in_ok-sets.ensures ∙ at_table (λ _. none) c.args.count p none below)

pub bounds-rows-d : goal.bounds-rows-d
bounds-rows-d c =
    subst (λ n. get_or c.args.wanted.daemons.now c.loop-d.d-index 0 < n) (ap length (sym c.as_slice-rows.ensures.value)) (c.requires.nodes (get_or c.args.wanted.daemons.now c.loop-d.d-index 0) (in_at c.args.wanted.daemons.now c.loop-d.d-index 0 c.loop-d-test.true))

pub gather-requires : goal.gather-requires
gather-requires c =
    let d = get_or c.args.wanted.daemons.now c.loop-d.d-index 0 in
    let there : In d c.args.wanted.daemons.now = in_at c.args.wanted.daemons.now c.loop-d.d-index 0 c.loop-d-test.true in
    let row : c.as_slice.result.now ≡ row_at (rows_view c.args.parted.now.rows.items) d = c.as_slice.ensures.value ∙ ap (λ (r : Vec StackLine Global). r.items) (c.index-rows-d.is ∙ ap (λ rs. get_or rs d c.index-rows-d.result) c.as_slice-rows.ensures.value) ∙ row_here c.args.parted.now.rows.items d c.index-rows-d.result (c.requires.nodes d there) in
    subst (λ ls. AllByRecursion (λ line. line.path < length c.deref_mut.result.now) ls) (sym row)
    (subst (λ n. AllByRecursion (λ line. line.path < n) (row_at (rows_view c.args.parted.now.rows.items) d)) (sym (ap length c.deref_mut.ensures.value ∙ c.loop-d.invariant.long)) (c.requires.rows d there))

pub loop-d-preserved : goal.loop-d-preserved
loop-d-preserved c =
    let d = get_or c.args.wanted.daemons.now c.loop-d.d-index 0 in
    let there : In d c.args.wanted.daemons.now = in_at c.args.wanted.daemons.now c.loop-d.d-index 0 c.loop-d-test.true in
    let row : c.as_slice.result.now ≡ row_at (rows_view c.args.parted.now.rows.items) d = c.as_slice.ensures.value ∙ ap (λ (r : Vec StackLine Global). r.items) (c.index-rows-d.is ∙ ap (λ rs. get_or rs d c.index-rows-d.result) c.as_slice-rows.ensures.value) ∙ row_here c.args.parted.now.rows.items d c.index-rows-d.result (c.requires.nodes d there) in
    let gain = subst (λ xs. GainRanksSeen c.args.wanted.times.samples c.args.wanted.times.wave c.args.wanted.ranks.now c.as_slice.result.now xs c.gather.new.sets) c.deref_mut.ensures.value c.in_ok-gather.ensures in
    let count : length c.gather.new.sets ≡ c.loop-d.sets.len = c.gather.auto.sets ∙ c.deref_mut.ensures.len in
    subst (AreRowsSeen c.args.wanted.times.samples c.args.wanted.times.wave c.args.wanted.ranks.now (rows_view c.args.parted.now.rows.items) (take (c.loop-d.d-index + 1) c.args.wanted.daemons.now) c.args.count)
    (sym (with_items_is c.loop-d.sets c.gather.new.sets count))
    (rows_seen_more c.args.wanted.times.samples c.args.wanted.times.wave c.args.wanted.ranks.now (rows_view c.args.parted.now.rows.items) c.args.count c.args.wanted.daemons.now c.loop-d.d-index d c.as_slice.result.now c.loop-d.sets.items c.gather.new.sets c.loop-d-test.true (get_or_default c.args.wanted.daemons.now c.loop-d.d-index 0 d c.loop-d-test.true) row c.loop-d.invariant gain)

pub gather-requires-2 : goal.gather-requires-2
gather-requires-2 c =
    subst (λ ls. AllByRecursion (λ line. line.path < length c.deref_mut-2.result.now) ls) (sym c.as_slice-2.ensures.value)
    (subst (λ n. AllByRecursion (λ line. line.path < n) c.args.parted.now.spread.items) (sym (ap length c.deref_mut-2.ensures.value ∙ c.loop-d.invariant.long)) c.requires.spread)

use Rattle.std.proofs.Common.{◌≡◌, ℕ, ◌<◌, List, get_or, length, map, sym, ap, subst, ◌∙◌}
use Rattle.std.specs.List.{AllByRecursion}
use Rattle.std.proofs.lemmas.List.{get_or_default}
use Rattle.rank_set.specs.Ranks.{Has, IsSubset, Ranks, none}
use Rattle.call_path.specs.Functions.{func}
use Rattle.stat_plan.specs.OwnLines.{AreNodeLines, AreWaveLines, ranks_at, row_at}
use Rattle.stat_plan.specs.Plans.{Sampled}
use Rattle.stat_plan.specs.Shown.{held_lines}
use Rattle.stat_plan.specs.StackLines.{PathIndicesInRange, lines_of}
use Rattle.overlay_setup.specs.Tables.{rows_view}
use Rattle.stat_plan.proofs.OwnPaths.{row_in_range, row_within, spread_in_range, wave_lines_are}
use Rattle.stat_plan.proofs.WaveRows.{node_samples}
use Rattle.stat_plan.proofs.samples.Samples.own_lines.Goals as goal

-- a node's ranks, as they are lent
own_is : (placed : List Ranks) (n : ℕ) (own : Ranks) → n < length placed → own ≡ get_or placed n own → own ≡ ranks_at placed n
own_is placed n own below is = is ∙ get_or_default placed n own none below

pub node_lines-requires-clause-indexed : goal.node_lines-requires-clause-indexed
node_lines-requires-clause-indexed c = λ i r own there.
    let a = c.self.inside in
    let below : c.args.n < length a.placed.items = subst (λ (s : Sampled). c.args.n < length s.placed) (sym c.self.view_is) c.requires in
    c.self.invariant.5.each c.args.n i r (subst (Has r) (own_is a.placed.items c.args.n c.index-own.result.now below c.index-own.ensures) own) there

pub node_lines-requires-clause-own : goal.node_lines-requires-clause-own
node_lines-requires-clause-own c =
    let a = c.self.inside in
    let below : c.args.n < length a.placed.items = subst (λ (s : Sampled). c.args.n < length s.placed) (sym c.self.view_is) c.requires in
    subst (λ own. AllByRecursion (λ line. IsSubset line.ranks own) (row_at (rows_view a.parted.rows.items) c.args.n)) (sym (own_is a.placed.items c.args.n c.index-own.result.now below c.index-own.ensures))
    (row_within a.placed.items a.paths.items a.lines.value a.parted.spread.items (rows_view a.parted.rows.items) c.self.invariant.4 c.self.invariant.0 c.args.n below)

pub returns-clause-samples : goal.returns-clause-samples
returns-clause-samples c =
    let a = c.self.inside in
    let n = c.args.n in
    let k = c.args.times.samples in
    let w = c.args.times.wave in
    let some = held_lines c.in_ok-lines.lines in
    let below : n < length a.placed.items = subst (λ (s : Sampled). n < length s.placed) (sym c.self.view_is) c.requires in
    let are = subst (λ own. AreNodeLines k w own (row_at (rows_view a.parted.rows.items) n) a.parted.spread.items some) (own_is a.placed.items n c.index-own.result.now below c.index-own.ensures) c.in_ok-lines.ensures in
    subst (λ paths. AreWaveLines k w (ranks_at c.args.self.now.placed n) c.args.self.now.lines (lines_of paths some)) (sym c.as_slice.ensures.value)
    (subst (λ (s : Sampled). AreWaveLines k w (ranks_at s.placed n) s.lines (lines_of a.paths.items some)) c.self.view_is
    (wave_lines_are k w (ranks_at a.placed.items n) a.paths.items a.lines.value some (node_samples a.placed.items a.lines.value a.parted.spread.items (rows_view a.parted.rows.items) c.self.invariant.4 k w n some below are)))

pub returns-clause-numbered : goal.returns-clause-numbered
returns-clause-numbered c =
    let a = c.self.inside in
    let n = c.args.n in
    let below : n < length a.placed.items = subst (λ (s : Sampled). n < length s.placed) (sym c.self.view_is) c.requires in
    let row = row_in_range a.placed.items a.paths.items a.lines.value a.parted.spread.items (rows_view a.parted.rows.items) c.self.invariant.4 c.self.invariant.0 n below in
    let spread = spread_in_range a.placed.items a.paths.items a.lines.value a.parted.spread.items (rows_view a.parted.rows.items) c.self.invariant.4 c.self.invariant.0 in
    record {
      in_range = subst (λ paths. PathIndicesInRange paths (held_lines c.in_ok-lines.lines)) (sym c.as_slice.ensures.value) (c.in_ok-lines.ensures.numbered (length a.paths.items) row spread);
      functions_are = c.as_slice-2.ensures.value ∙ c.self.invariant.2 ∙ ap (map (map func)) (sym c.as_slice.ensures.value);
    }

use Rattle.std.proofs.Common.{◌<◌, length, map, sym, ap, subst, ◌∙◌}
use Rattle.std.specs.List.{AllByRecursion}
use Rattle.call_path.specs.Functions.{func}
use Rattle.stat_plan.specs.OwnLines.{AreWaveLines, row_at}
use Rattle.stat_plan.specs.Plans.{Sampled}
use Rattle.stat_plan.specs.StackLines.{PathIndicesInRange, lines_of}
use Rattle.overlay_setup.specs.Tables.{rows_view}
use Rattle.stat_plan.specs.declared.samples.StackLine.{StackLine}
use Rattle.stat_plan.specs.OwnLines.{HasRankOn}
use Rattle.stat_plan.proofs.OwnPaths.{row_in_range, spread_in_range, wave_lines_are}
use Rattle.std.proofs.lemmas.List.{length-map}
use Rattle.std.proofs.Common.{Vec, Global, arith}
use Rattle.stat_plan.proofs.WaveRows.{united_samples}
use Rattle.stat_plan.proofs.samples.Samples.wave_lines.Goals as goal

pub united_lines-requires-clause-nodes : goal.united_lines-requires-clause-nodes
united_lines-requires-clause-nodes c = λ d there.
    let a = c.self.inside in
    subst (λ k. d < k) (sym (sym (length-map a.parted.rows.items (λ (r : Vec StackLine Global). r.items)) ∙ c.self.invariant.4.paired)) (subst (λ (s : Sampled). d < length s.placed) (sym c.self.view_is) (c.requires.daemons d there))

pub united_lines-requires-clause-rows : goal.united_lines-requires-clause-rows
united_lines-requires-clause-rows c = λ d there.
    let a = c.self.inside in
    subst (λ k. AllByRecursion (λ line. line.path < k) (row_at (rows_view a.parted.rows.items) d)) (let d = a.paths.ok.0 in let b = c.len-count.ensures in omega (arith, d, b))
    (row_in_range a.placed.items a.paths.items a.lines.value a.parted.spread.items (rows_view a.parted.rows.items) c.self.invariant.4 c.self.invariant.0 d (subst (λ (s : Sampled). d < length s.placed) (sym c.self.view_is) (c.requires.daemons d there)))

pub united_lines-requires-clause-spread : goal.united_lines-requires-clause-spread
united_lines-requires-clause-spread c =
    let a = c.self.inside in
    subst (λ k. AllByRecursion (λ line. line.path < k) a.parted.spread.items) (let d = a.paths.ok.0 in let b = c.len-count.ensures in omega (arith, d, b))
    (spread_in_range a.placed.items a.paths.items a.lines.value a.parted.spread.items (rows_view a.parted.rows.items) c.self.invariant.4 c.self.invariant.0)

pub returns-clause-samples : goal.returns-clause-samples
returns-clause-samples c =
    let a = c.self.inside in
    let wanted = c.args.wanted in
    let k = wanted.times.samples in
    let w = wanted.times.wave in
    let some = c.in_ok-lines.lines.items in
    let rows = united_samples a.placed.items a.lines.value a.parted.spread.items (rows_view a.parted.rows.items) c.self.invariant.4 k w wanted.daemons.now wanted.ranks.now c.len-count.result some
    (λ d there. subst (λ (s : Sampled). d < length s.placed) (sym c.self.view_is) (c.requires.daemons d there))
    (λ r own. subst (λ (s : Sampled). HasRankOn s.placed wanted.daemons.now r) (sym c.self.view_is) (c.requires.ranks r own))
    c.in_ok-lines.ensures in
    subst (λ paths. AreWaveLines k w wanted.ranks.now c.args.self.now.lines (lines_of paths some)) (sym c.as_slice.ensures.value)
    (subst (λ (s : Sampled). AreWaveLines k w wanted.ranks.now s.lines (lines_of a.paths.items some)) c.self.view_is
    (wave_lines_are k w wanted.ranks.now a.paths.items a.lines.value some rows))

pub returns-clause-numbered : goal.returns-clause-numbered
returns-clause-numbered c = record {
  in_range = subst (λ paths. PathIndicesInRange paths c.in_ok-lines.lines.items) (sym c.as_slice.ensures.value) (subst (λ k. AllByRecursion (λ (line : StackLine). line.path < k) c.in_ok-lines.lines.items) (let d = c.self.inside.paths.ok.0 in let b = c.len-count.ensures in omega (arith, d, b)) c.in_ok-lines.ensures.numbered);
  functions_are = c.as_slice-2.ensures.value ∙ c.self.invariant.2 ∙ ap (map (map func)) (sym c.as_slice.ensures.value);
}

use Rattle.std.proofs.Common.{◌≡◌, ◌<◌, ◌∙◌, List, ap, length, map, nat_le, sym, subst, Vec, Global}
use Rattle.std.specs.List.{AllByRecursion, flat_map}
use Rattle.std.specs.Set.{distinct_count}
use Rattle.std.proofs.lemmas.List.{length-map, take_all}
use Rattle.call_path.specs.Pairs.{prefixes}
use Rattle.call_path.specs.Path.{Path, is_path}
use Rattle.overlay_setup.specs.declared.script.Grain.{Grain}
use Rattle.stat_plan.specs.OwnLines.{row_at}
use Rattle.stat_plan.specs.PathOrder.{has_rank, numbered, seen_paths}
use Rattle.stat_plan.specs.Samples.{path_by}
use Rattle.overlay_setup.specs.Tables.{rows_view}
use Rattle.stat_plan.specs.declared.samples.StackLine.{StackLine}
use Rattle.stat_plan.proofs.OwnPaths.{row_in_range, spread_in_range}
use Rattle.stat_plan.proofs.SeenPaths.{seen_by_sets}
use Rattle.stat_plan.proofs.WavePrefixes.{wave_count}
use Rattle.stat_plan.proofs.limit.wave_is_within.Goals as goal

-- as many paths as a stream sees
as_many : (paths seen : List Path) (g : Grain) → seen ≡ map (path_by g) paths → length seen ≡ length paths
as_many paths seen g is = ap length is ∙ length-map paths (path_by g)

pub ranks_seen-requires-clause-nodes : goal.ranks_seen-requires-clause-nodes
ranks_seen-requires-clause-nodes c d there =
    subst (λ k. d < k) (sym (sym (length-map c.args.all.parted.now.rows.items (λ (r : Vec StackLine Global). r.items)) ∙ c.requires.parted.paired)) (c.requires.nodes d there)

pub ranks_seen-requires-clause-rows : goal.ranks_seen-requires-clause-rows
ranks_seen-requires-clause-rows c d there =
    let all = c.args.all in
    subst (λ k. AllByRecursion (λ (line : StackLine). line.path < k) (row_at (rows_view all.parted.now.rows.items) d)) (sym (as_many all.paths.now c.paths_by-paths.result.now c.args.grain c.paths_by-paths.ensures))
    (row_in_range all.placed.now all.paths.now all.lines.now.value all.parted.now.spread.items (rows_view all.parted.now.rows.items) c.requires.parted c.requires.numbered d (c.requires.nodes d there))

pub ranks_seen-requires-clause-spread : goal.ranks_seen-requires-clause-spread
ranks_seen-requires-clause-spread c =
    let all = c.args.all in
    subst (λ k. AllByRecursion (λ (line : StackLine). line.path < k) all.parted.now.spread.items) (sym (as_many all.paths.now c.paths_by-paths.result.now c.args.grain c.paths_by-paths.ensures))
    (spread_in_range all.placed.now all.paths.now all.lines.now.value all.parted.now.spread.items (rows_view all.parted.now.rows.items) c.requires.parted c.requires.numbered)

pub returns : goal.returns
returns c =
    let all = c.args.all in
    let paths = all.paths.now in
    let lines = all.lines.now.value in
    let w = c.args.wanted in
    let g = c.args.grain in
    let sets = c.in_ok-sets.sets.items in
    let spread = all.parted.now.spread.items in
    let rows = rows_view all.parted.now.rows.items in
    let items : c.deref-ranks-items.result.now ≡ sets = c.deref-ranks-items.ensures.value in
    let bits : c.deref.result.now ≡ map has_rank sets =
    c.deref.ensures.value ∙ c.loop-ranks.invariant ∙ ap (map has_rank) (take_all c.loop-ranks.ranks-index c.deref-ranks-items.result.now c.loop-ranks-test.false ∙ items) in
    let long : length (map has_rank sets) ≡ length paths = length-map sets has_rank ∙ c.in_ok-sets.ensures.length ∙ as_many paths c.paths_by-paths.result.now g c.paths_by-paths.ensures in
    let seen = seen_by_sets all.placed.now lines spread rows w.times.samples w.times.wave w.daemons.now w.ranks.now sets c.requires.parted c.requires.nodes c.requires.ranks c.in_ok-sets.ensures.seen in
    c.is_within.ensures
    ∙ ap (λ ps. nat_le (distinct_count is_path (flat_map prefixes (seen_paths (numbered ps c.args.order.now) c.deref.result.now))) 2048) c.paths_by-paths.ensures
    ∙ ap (λ bs. nat_le (distinct_count is_path (flat_map prefixes (seen_paths (numbered (map (path_by g) paths) c.args.order.now) bs))) 2048) bits
    ∙ ap (λ n. nat_le n 2048) (wave_count paths lines w.times.samples w.times.wave g w.ranks.now c.requires.numbered c.args.order.now (map has_rank sets) c.requires.order long seen)

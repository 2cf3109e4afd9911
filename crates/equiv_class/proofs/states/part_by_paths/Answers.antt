use Rattle.std.proofs.Common.{◌≡◌, ◌<◌, ◌+◌, List, length, get_or, drop, refl, ap, arith, ◌∙◌}
use Rattle.equiv_class.specs.declared.SeenPath.{SeenPath}
use Rattle.equiv_class.specs.SeenPaths.{entry_of, entries_view}
use Rattle.equiv_class.proofs.Cuts.{next_path}
use Rattle.equiv_class.proofs.LedPaths.{led_start, led_step, path_here}
use Rattle.equiv_class.proofs.Parting.{parting_start, parting_step}
use Rattle.equiv_class.proofs.states.part_by_paths.Goals as goal

pub loop-i-init : goal.loop-i-init
loop-i-init c = record {
  long = refl;
  tables = c.requires.tables;
  origins = c.requires.origins;
  same = parting_start (entries_view c.args.seen.now) c.args.states.now c.requires.start;
  paths = led_start (entries_view c.args.seen.now) c.args.origins.now.items c.args.states.now c.requires.start;
}

pub loop-i-preserved : goal.loop-i-preserved
loop-i-preserved c =
    let seen : List SeenPath = c.args.seen.now in
    let i = c.loop-i.i in
    let path : SeenPath = get_or seen i c.index-seen-i.result in
    let is : path ≡ get_or seen i path = ap (λ (d : SeenPath). get_or seen i d) c.index-seen-i.is in
    let h = c.loop-i.invariant in
    let inside : i < length seen = omega (arith, c.loop-i-test.true, c.requires.count) in
    let first = next_path seen i path inside is in
    record {
      long = c.in_ok-part.ensures.length ∙ h.long;
      tables = c.in_ok-part.ensures.tables;
      origins = c.in_ok-part.ensures.origins;
      same = parting_step (entry_of path) _ _ _ c.loop-i.states c.part.new.states first c.in_ok-part.ensures.parted h.same;
      paths = led_step (entries_view seen) path.ranks.now i c.loop-i.states c.part.new.states c.loop-i.next.items c.part.new.next.items c.loop-i.origins.items c.part.new.origins.items h.origins
          c.in_ok-part.ensures.origins h.tables (λ r member. c.in_ok-part.ensures.moved r member) c.in_ok-part.ensures.noted (entry_of path) (entries_view (drop i seen)) (entries_view (drop (i + 1) seen)) refl
          (path_here seen i path inside is) first h.paths;
    }

-- The text of a report: its releases in order, and then what came of each fault that is to be shown.
use Rattle.std.specs.Prelude.{◌≡◌, ℕ, Bool, true, false, List, [], ◌∷◌, ◌++◌, codes}
use Rattle.std.specs.Fmt.{decimal}
use Rattle.std.specs.List.{AllByRecursion, flat_map, IsDistinct}
use Rattle.std.specs.List.Sorted.{IsPermutation, IsStrictlySortedBy}
use Rattle.std.specs.Ordering.{nat_cmp, ordering_then, eq_by_cmp}
use Rattle.std.specs.declared.cmp.Ordering.{Ordering}
use Rattle.prefix_tree.specs.Tree.{tree_of}
use Rattle.equiv_class.specs.Classes.{classes_of}
use Rattle.overlay_setup.specs.Names.{name_of}
use Rattle.overlay_setup.specs.NodeSets.{In, member}
use Rattle.stat_plan.specs.Plans.{Plan, mode, samples, waves_of}
use Rattle.overlay_setup.specs.declared.script.Fault.{Fault}
use Rattle.overlay_setup.specs.declared.script.Mode.TheVariants.{WaitForAll}
use Rattle.overlay_event.specs.declared.event.Event.{Event}
use Rattle.overlay_core.specs.Runs.{IsWhole, after}
use Rattle.overlay_core.specs.TreeReleases.{AreNumberedInOrder, TreeRelease, bare_releases}
use Rattle.front_end.specs.ReleaseText.{classes_in, release_text}

-- by stream, then by wave, then by number
abbrev pub release_cmp : TreeRelease → TreeRelease → Ordering
release_cmp a b = ordering_then (ordering_then (nat_cmp a.stream b.stream) (nat_cmp a.wave b.wave)) (nat_cmp a.number b.number)

-- no two of the releases have the same stream, wave and number
abbrev pub AreDistinct : List TreeRelease → Type 0
AreDistinct releases = IsDistinct (eq_by_cmp release_cmp) releases

-- the given releases in the order in which they are printed: the stream, the wave and the number increase
pub record IsSortedCopy (given ordered : List TreeRelease) : Type 0 where
  pub same : IsPermutation given ordered
  pub increasing : IsStrictlySortedBy release_cmp ordered

-- a fault happened after this many events of its node, or the node had fewer events
abbrev pub fate_text : Bool → Fault → List ℕ
fate_text true fault = codes " lost after " ++ decimal fault.after
fate_text false fault = codes " not reached"

-- the line of a fault
abbrev pub fault_line : Plan → List ℕ → Fault → List ℕ
fault_line p lost fault = codes "fault " ++ name_of p.names fault.node ++ fate_text (member fault.node lost) fault ++ 10 ∷ []

-- the whole text of releases in order, with a line for each of these faults
unfoldable pub report_text : Plan → List Fault → List ℕ → List TreeRelease → List ℕ
report_text p faults lost ordered = flat_map (release_text p) ordered ++ flat_map (fault_line p lost) faults ++ codes "end\n"

-- the text is the report of these releases of a plan and of these faults, where these nodes were lost
pub record IsReport (p : Plan) (faults : List Fault) (given : List TreeRelease) (lost text : List ℕ) : Type 0 where
  pub ordered : List TreeRelease
  pub in_order : IsSortedCopy given ordered
  pub is : text ≡ report_text p faults lost ordered

-- a release's tree and classes are those of the wave's samples, merged directly over exactly the ranks that it covers
pub record IsDirect (p : Plan) (r : TreeRelease) : Type 0 where
  pub tree : r.tree ≡ tree_of (samples p r.stream r.wave) r.tree.coverage
  pub classes : classes_in r.tree ≡ classes_of (samples p r.stream r.wave) r.tree.coverage

-- The releases are those of the machine after a whole journal, with their numbers within their waves, and each is the
-- direct merge of its wave's samples over the ranks that it covers.
pub record AreReleasesOf (p : Plan) (journal : List Event) (releases : List TreeRelease) : Type 0 where
  pub whole : IsWhole p journal
  pub reached : bare_releases releases ≡ (after p journal).releases
  pub numbered : AreNumberedInOrder [] releases
  pub direct : AllByRecursion (IsDirect p) releases

-- every wave of the plan is of a stream that waits for all its daemons
abbrev pub AllStreamsWait : Plan → Type 0
AllStreamsWait p = (s w : ℕ) → In (s, w) (waves_of p.streams) → mode p s ≡ WaitForAll

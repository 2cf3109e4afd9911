-- The report as JSON: the compact text of a value, and a line feed. The keys of an object stand in byte order.
use Rattle.std.specs.Prelude.{◌≡◌, ℕ, Bool, true, false, not, List, [], ◌∷◌, ◌++◌, codes, filter, map}
use Rattle.serde_json.specs.Data.{Data, string}
use Rattle.serde_json.specs.Written.{compact_text}
use Rattle.rank_set.specs.Ranks.{Ranks, is_empty}
use Rattle.overlay_setup.specs.Names.{name_of}
use Rattle.overlay_setup.specs.NodeSets.{member as is_listed}
use Rattle.overlay_setup.specs.declared.script.Fault.{Fault}
use Rattle.stat_plan.specs.Plans.{Plan, daemons}
use Rattle.overlay_core.specs.TreeReleases.{TreeRelease}
use Rattle.front_end.specs.ReleaseText.{classes_in, kind_text, missing}
use Rattle.front_end.specs.Report.{IsSortedCopy}
use Rattle.front_end.specs.JsonValues.{classes_data, tree_data}
use Rattle.json_text.specs.Values.{count, list_of, object_of, ranks_data}

-- the node of a fault was lost, or it had too few events
abbrev pub fate_state : Bool → List ℕ
fate_state true = codes "lost"
fate_state false = codes "not reached"

-- after how many events of which node a fault comes, and what came of it
abbrev pub fault_data : Plan → List ℕ → Fault → Data
fault_data p lost fault = object_of (
    (codes "after", count fault.after)
    ∷ (codes "node", string (name_of p.names fault.node))
    ∷ (codes "state", string (fate_state (is_listed fault.node lost))) ∷ [])

-- missing ranks are lost with their daemon, or are still to come
abbrev pub missing_state : Bool → List ℕ
missing_state true = codes "lost"
missing_state false = codes "pending"

-- whether some ranks of a daemon are not covered
abbrev pub has_missing : Plan → Ranks → ℕ → Bool
has_missing p covered daemon = not (is_empty (missing p covered daemon))

-- a daemon with missing ranks
abbrev pub missing_data : Plan → Ranks → List ℕ → ℕ → Data
missing_data p covered lost daemon = object_of (
    (codes "daemon", string (name_of p.names daemon))
    ∷ (codes "ranks", ranks_data (missing p covered daemon))
    ∷ (codes "state", string (missing_state (is_listed daemon lost))) ∷ [])

-- the daemons with missing ranks among these, in their order
abbrev pub all_missing_data : Plan → Ranks → List ℕ → List ℕ → Data
all_missing_data p covered lost daemons =
    list_of (map (missing_data p covered lost) (filter (has_missing p covered) daemons))

-- all that a release says
unfoldable pub release_data : Plan → TreeRelease → Data
release_data p r = object_of (
    (codes "classes", classes_data (classes_in r.tree))
    ∷ (codes "covered", ranks_data r.tree.coverage)
    ∷ (codes "kind", string (kind_text r.kind))
    ∷ (codes "missing", all_missing_data p r.tree.coverage r.lost (daemons p r.stream))
    ∷ (codes "number", count r.number)
    ∷ (codes "stream", count r.stream)
    ∷ (codes "tree", tree_data r.tree)
    ∷ (codes "wave", count r.wave) ∷ [])

-- the releases in order, and these faults
unfoldable pub report_data : Plan → List Fault → List ℕ → List TreeRelease → Data
report_data p faults lost ordered = object_of (
    (codes "faults", list_of (map (fault_data p lost) faults))
    ∷ (codes "releases", list_of (map (release_data p) ordered)) ∷ [])

-- the text is the JSON report of these releases of a plan and of these faults, where these nodes were lost
pub record IsJsonReport (p : Plan) (faults : List Fault) (given : List TreeRelease) (lost text : List ℕ) : Type 0 where
  pub ordered : List TreeRelease
  pub in_order : IsSortedCopy given ordered
  pub is : text ≡ compact_text (report_data p faults lost ordered) ++ 10 ∷ []

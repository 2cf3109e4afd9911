-- Worked rows: lines of a report, and whole reports, as text and as JSON, computed.
use Rattle.std.specs.Prelude.{◌≡◌, refl, ℕ, List, [], ◌∷◌, ◌++◌, length, codes, map, Some, None}
use Rattle.std.specs.Fmt.{digits}
use Rattle.std.specs.FinMap as finmap
use Rattle.std.specs.List.{flat_map}
use Rattle.std.proofs.Common.{sym, ap, ◌∙◌, arith}
use Rattle.std.specs.declared.cmp.Ordering.TheVariants.{Less, Greater}
use Rattle.json.specs.Print.{escape_byte}
use Rattle.serde_json.specs.Data.{Data, string}
use Rattle.serde_json.specs.Written.{compact_text}
use Rattle.rank_set.specs.Ranks.{Ranks, none, has, with_rank, union, those, set_of, in_order}
use Rattle.call_path.specs.Path.{Path, path_cmp, path_cmp_total}
use Rattle.call_path.specs.Pairs.{Pairs, pairs_at, prefixes_of}
use Rattle.prefix_tree.specs.Tree.{Tree, Marks, rows_at, tree_of}
use Rattle.equiv_class.specs.Classes.{classes_of}
use Rattle.stat_plan.specs.Plans.{Plan, daemons, ranks, samples, sample_count, grain, stream_of, stream_ranks}
use Rattle.overlay_setup.specs.Scripts.{stream}
use Rattle.overlay_setup.specs.declared.script.Grain.TheVariants.{Line}
use Rattle.overlay_setup.specs.declared.script.Fault.{Fault}
use Rattle.overlay_setup.specs.declared.script.Mode.TheVariants.{WaitForAll}
use Rattle.overlay_core.specs.TreeReleases.{TreeRelease}
use Rattle.overlay_core.specs.declared.release.Kind.{Kind}
use Rattle.overlay_core.specs.declared.release.Kind.TheVariants.{Partial, Final}
use Rattle.tree_text.specs.TreeText.{row_text}
use Rattle.front_end.specs.ClassText.{classes_text}
use Rattle.tree_view.specs.Views.{OfEachClass, WithFrame}
use Rattle.front_end.specs.ViewReport.{view_line}
use Rattle.front_end.specs.ReleaseText.{heading, kind_text, missing_line, missing_lines, release_text, ranks_line}
use Rattle.front_end.specs.JsonValues.{classes_data, row_data}
use Rattle.json_text.specs.Values.{count, list_of, object_of, ranks_data}
use Rattle.front_end.specs.JsonReport.{all_missing_data, fault_data, missing_data, release_data, report_data}
use Rattle.front_end.specs.Report.{fault_line, release_cmp, report_text}
use Rattle.wide_merge.specs.Waves.{direct_releases}

-- the loss of b:0, before any event of its own
abbrev loss : Fault
loss = record { node = 2; after = 0; keep = 0 }

-- ranks 0 and 1 on a:0, which is node 1, and ranks 2 and 3 on b:0, which is node 2; both stand under fe:0
abbrev two_daemons : List Fault → Plan
two_daemons faults = record {
  names = codes "fe:0" ∷ codes "a:0" ∷ codes "b:0" ∷ [];
  parents = None ∷ Some 0 ∷ Some 0 ∷ [];
  placed = none ∷ set_of (0 ∷ 1 ∷ []) ∷ set_of (2 ∷ 3 ∷ []) ∷ [];
  lines = [];
  streams = stream 0 WaitForAll 1 1 Line (1 ∷ 2 ∷ []) ∷ [];
  faults = faults;
}

-- some release
abbrev release : ℕ → ℕ → ℕ → Kind → Tree → List ℕ → TreeRelease
release stream wave number kind tree lost = record { stream = stream; wave = wave; number = number; kind = kind; tree = tree; lost = lost }

-- lines

final_heading : (t : Tree) → heading (release 0 0 1 Final t []) ≡ codes "stream 0 wave 0 release 1 final\n"
unfolding digits
final_heading t = refl

partial_heading : (t : Tree) → heading (release 7 15 12 Partial t []) ≡ codes "stream 7 wave 15 release 12 partial\n"
unfolding digits
partial_heading t = refl

all_ranks_covered : missing_line (two_daemons []) (set_of (0 ∷ 1 ∷ [])) [] 1 ≡ []
unfolding ranks those has with_rank
all_ranks_covered = refl

ranks_pending : missing_line (two_daemons []) (set_of (0 ∷ 1 ∷ [])) [] 2 ≡ codes "pending b:0 2:[2-3]\n"
unfolding ranks those has with_rank digits
ranks_pending = refl

ranks_lost : missing_line (two_daemons []) (set_of (0 ∷ 1 ∷ [])) (2 ∷ []) 2 ≡ codes "lost b:0 2:[2-3]\n"
unfolding ranks those has with_rank digits
ranks_lost = refl

some_ranks_pending : missing_line (two_daemons []) (set_of (0 ∷ 2 ∷ [])) [] 2 ≡ codes "pending b:0 1:[3]\n"
unfolding ranks those has with_rank digits
some_ranks_pending = refl

fault_reached : fault_line (two_daemons (loss ∷ [])) (2 ∷ []) loss ≡ codes "fault b:0 lost after 0\n"
unfolding digits
fault_reached = refl

fault_not_reached : fault_line (two_daemons (loss ∷ [])) [] loss ≡ codes "fault b:0 not reached\n"
unfolding digits
fault_not_reached = refl

-- the line of a view
view_of_a_frame : view_line (WithFrame (codes "f g")) (codes "f g") ≡ codes "view frame f g\n"
view_of_a_frame = refl

view_of_representatives : view_line (OfEachClass 8) (codes "08") ≡ codes "view reps 08\n"
view_of_representatives = refl

-- whole reports

-- rows put in order, the last first
abbrev in_order_of : List (Path × Marks) → List (Path × Marks)
in_order_of [] = []
in_order_of (e ∷ es) = finmap.put path_cmp e.0 e.1 (in_order_of es)

-- a list of no length
no_rows : (es : List (Path × Marks)) → length es ≡ 0 → es ≡ []
no_rows [] e = refl
no_rows (x ∷ es) e = absurd (omega arith)

-- the entries of a map are the rows put in order
entries_in_order : (es : List (Path × Marks)) → finmap.entries (finmap.from_entries {R = path_cmp} es) ≡ in_order_of es
entries_in_order [] = no_rows _ (sym (finmap.len-entries (finmap.empty {X = Marks} {R = path_cmp})) ∙ finmap.len-empty path_cmp Marks)
entries_in_order (e ∷ es) = finmap.entries-insert path_cmp_total (finmap.from_entries es) e.0 e.1 ∙ ap (finmap.put path_cmp e.0 e.1) (entries_in_order es)

-- the text of a release of a tree that has these rows below its root
abbrev text_of_rows : Plan → TreeRelease → List (Path × Marks) → List ℕ
text_of_rows p r rows =
    heading r ++ ranks_line (codes "covered ") r.tree.coverage ++ missing_lines p r
    ++ (codes "tree\n" ++ flat_map row_text (([], (r.tree.coverage, none)) ∷ rows) ++ codes "classes\n" ++ classes_text (classes_of (flat_map (λ e. pairs_at (in_order e.1.1) e.0) rows) r.tree.coverage))

-- a release of merged samples, by a function that computes
computed : (p : Plan) (wave number : ℕ) (kind : Kind) (samples : Pairs) (covered : Ranks) (lost : List ℕ)
    → release_text p (release 0 wave number kind (tree_of samples covered) lost) ≡ text_of_rows p (release 0 wave number kind (tree_of samples covered) lost) (in_order_of (rows_at samples covered (prefixes_of samples)))
unfolding release_text tree_of
computed p wave number kind samples covered lost =
    ap (text_of_rows p (release 0 wave number kind (tree_of samples covered) lost)) (entries_in_order (rows_at samples covered (prefixes_of samples)))

-- ranks at a barrier, and one that computes
abbrev stuck : List ℕ → Pairs
stuck waiting = pairs_at waiting (codes "main" ∷ codes "MPI_Barrier" ∷ []) ++ pairs_at (1 ∷ []) (codes "main" ∷ codes "compute" ∷ [])

-- all four ranks
abbrev everyone : Ranks
everyone = set_of (0 ∷ 1 ∷ 2 ∷ 3 ∷ [])

-- the ranks of a:0
abbrev on_a : Ranks
on_a = set_of (0 ∷ 1 ∷ [])

-- a final release of all four
abbrev all_four : ℕ → TreeRelease
all_four number = release 0 0 number Final (tree_of (stuck (0 ∷ 2 ∷ 3 ∷ [])) everyone) []

-- a release of those of a:0
abbrev only_a : Kind → List ℕ → TreeRelease
only_a kind lost = release 0 0 1 kind (tree_of (stuck (0 ∷ [])) on_a) lost

-- the report whose releases say this
abbrev report_with : Plan → List ℕ → List ℕ → List ℕ
report_with p lost text = text ++ flat_map (fault_line p lost) p.faults ++ codes "end\n"

all_is_covered : report_text (two_daemons []) [] [] (all_four 1 ∷ [])
    ≡ codes "stream 0 wave 0 release 1 final\ncovered 4:[0-3]\ntree\n4:[0-3] - /\n  4:[0-3] - main\n    3:[0,2-3] 3:[0,2-3] MPI_Barrier\n    1:[1] 1:[1] compute\n"
    ++ codes "classes\nclass 3:[0,2-3] paths 1\n  main;MPI_Barrier\nclass 1:[1] paths 1\n  main;compute\nend\n"
unfolding report_text tree_of classes_of ranks stream_of daemons those has with_rank digits
all_is_covered = ap (λ ys. report_with (two_daemons []) [] (ys ++ [])) (computed (two_daemons []) 0 1 Final (stuck (0 ∷ 2 ∷ 3 ∷ [])) everyone [])

a_daemon_is_lost : report_text (two_daemons (loss ∷ [])) (loss ∷ []) (2 ∷ []) (only_a Final (2 ∷ []) ∷ [])
    ≡ codes "stream 0 wave 0 release 1 final\ncovered 2:[0-1]\nlost b:0 2:[2-3]\ntree\n2:[0-1] - /\n  2:[0-1] - main\n    1:[0] 1:[0] MPI_Barrier\n    1:[1] 1:[1] compute\n"
    ++ codes "classes\nclass 1:[0] paths 1\n  main;MPI_Barrier\nclass 1:[1] paths 1\n  main;compute\nfault b:0 lost after 0\nend\n"
unfolding report_text tree_of classes_of ranks stream_of daemons those has with_rank digits
a_daemon_is_lost =
    ap (λ ys. report_with (two_daemons (loss ∷ [])) (2 ∷ []) (ys ++ [])) (computed (two_daemons (loss ∷ [])) 0 1 Final (stuck (0 ∷ [])) on_a (2 ∷ []))

-- the ranks of b:0 come in after the first release, and its fault is not reached
a_daemon_is_late : report_text (two_daemons (loss ∷ [])) (loss ∷ []) [] (only_a Partial [] ∷ all_four 2 ∷ [])
    ≡ codes "stream 0 wave 0 release 1 partial\ncovered 2:[0-1]\npending b:0 2:[2-3]\ntree\n2:[0-1] - /\n  2:[0-1] - main\n    1:[0] 1:[0] MPI_Barrier\n    1:[1] 1:[1] compute\n"
    ++ codes "classes\nclass 1:[0] paths 1\n  main;MPI_Barrier\nclass 1:[1] paths 1\n  main;compute\n"
    ++ codes "stream 0 wave 0 release 2 final\ncovered 4:[0-3]\ntree\n4:[0-3] - /\n  4:[0-3] - main\n    3:[0,2-3] 3:[0,2-3] MPI_Barrier\n    1:[1] 1:[1] compute\n"
    ++ codes "classes\nclass 3:[0,2-3] paths 1\n  main;MPI_Barrier\nclass 1:[1] paths 1\n  main;compute\nfault b:0 not reached\nend\n"
unfolding report_text tree_of classes_of ranks stream_of daemons those has with_rank digits
a_daemon_is_late = λ i.
    report_with (two_daemons (loss ∷ [])) [] (computed (two_daemons (loss ∷ [])) 0 1 Partial (stuck (0 ∷ [])) on_a [] i ++ (computed (two_daemons (loss ∷ [])) 0 2 Final (stuck (0 ∷ 2 ∷ 3 ∷ [])) everyone [] i ++ []))

-- a report as JSON

-- the value of a release of a tree that has these rows below its root
abbrev data_of_rows : Plan → TreeRelease → List (Path × Marks) → Data
data_of_rows p r rows = object_of (
    (codes "classes", classes_data (classes_of (flat_map (λ e. pairs_at (in_order e.1.1) e.0) rows) r.tree.coverage))
    ∷ (codes "covered", ranks_data r.tree.coverage)
    ∷ (codes "kind", string (kind_text r.kind))
    ∷ (codes "missing", all_missing_data p r.tree.coverage r.lost (daemons p r.stream))
    ∷ (codes "number", count r.number)
    ∷ (codes "stream", count r.stream)
    ∷ (codes "tree", list_of (map row_data (([], (r.tree.coverage, none)) ∷ rows)))
    ∷ (codes "wave", count r.wave) ∷ [])

-- a release of merged samples, by a function that computes
computed_data : (p : Plan) (kind : Kind) (samples : Pairs) (covered : Ranks) (lost : List ℕ)
    → release_data p (release 0 0 1 kind (tree_of samples covered) lost) ≡ data_of_rows p (release 0 0 1 kind (tree_of samples covered) lost) (in_order_of (rows_at samples covered (prefixes_of samples)))
unfolding release_data tree_of
computed_data p kind samples covered lost =
    ap (data_of_rows p (release 0 0 1 kind (tree_of samples covered) lost)) (entries_in_order (rows_at samples covered (prefixes_of samples)))

-- the line of a report of one release
abbrev json_line : Plan → List Fault → List ℕ → Data → List ℕ
json_line p faults lost value = compact_text (object_of ((codes "faults", list_of (map (fault_data p lost) faults)) ∷ (codes "releases", list_of (value ∷ [])) ∷ [])) ++ 10 ∷ []

-- rank 0 on a:0, which is node 1 and the only daemon
abbrev one_daemon : Plan
one_daemon = record {
  names = codes "fe:0" ∷ codes "a:0" ∷ [];
  parents = None ∷ Some 0 ∷ [];
  placed = none ∷ set_of (0 ∷ []) ∷ [];
  lines = [];
  streams = stream 0 WaitForAll 1 1 Line (1 ∷ []) ∷ [];
  faults = [];
}

one_rank_as_json : compact_text (report_data one_daemon [] [] (release 0 0 1 Final (tree_of [] (set_of (0 ∷ []))) [] ∷ [])) ++ 10 ∷ []
    ≡ codes "{\"faults\":[],\"releases\":[{\"classes\":[{\"paths\":[],\"ranks\":\"1:[0]\"}],\"covered\":\"1:[0]\",\"kind\":\"final\",\"missing\":[],\"number\":1,\"stream\":0,"
    ++ codes "\"tree\":[{\"depth\":0,\"ends\":\"0:[]\",\"frame\":\"/\",\"label\":\"1:[0]\"}],\"wave\":0}]}\n"
unfolding report_data tree_of classes_of ranks stream_of daemons those has with_rank digits escape_byte
one_rank_as_json = ap (json_line one_daemon [] []) (computed_data one_daemon Final [] (set_of (0 ∷ [])) [])

lost_daemon_as_json : compact_text (report_data (two_daemons (loss ∷ [])) (loss ∷ []) (2 ∷ []) (only_a Final (2 ∷ []) ∷ [])) ++ 10 ∷ []
    ≡ codes "{\"faults\":[{\"after\":0,\"node\":\"b:0\",\"state\":\"lost\"}],\"releases\":[{\"classes\":[{\"paths\":[\"main;MPI_Barrier\"],\"ranks\":\"1:[0]\"},{\"paths\":[\"main;compute\"],\"ranks\":\"1:[1]\"}],"
    ++ codes "\"covered\":\"2:[0-1]\",\"kind\":\"final\",\"missing\":[{\"daemon\":\"b:0\",\"ranks\":\"2:[2-3]\",\"state\":\"lost\"}],\"number\":1,\"stream\":0,"
    ++ codes "\"tree\":[{\"depth\":0,\"ends\":\"0:[]\",\"frame\":\"/\",\"label\":\"2:[0-1]\"},{\"depth\":1,\"ends\":\"0:[]\",\"frame\":\"main\",\"label\":\"2:[0-1]\"},"
    ++ codes "{\"depth\":2,\"ends\":\"1:[0]\",\"frame\":\"MPI_Barrier\",\"label\":\"1:[0]\"},{\"depth\":2,\"ends\":\"1:[1]\",\"frame\":\"compute\",\"label\":\"1:[1]\"}],\"wave\":0}]}\n"
unfolding report_data tree_of classes_of ranks stream_of daemons those has with_rank digits escape_byte
lost_daemon_as_json = ap (json_line (two_daemons (loss ∷ [])) (loss ∷ []) (2 ∷ [])) (computed_data (two_daemons (loss ∷ [])) Final (stuck (0 ∷ [])) on_a (2 ∷ []))

-- missing ranks that can still come, and a fault that is not reached
ranks_pending_as_json : compact_text (missing_data (two_daemons []) (set_of (0 ∷ 1 ∷ [])) [] 2) ≡ codes "{\"daemon\":\"b:0\",\"ranks\":\"2:[2-3]\",\"state\":\"pending\"}"
unfolding ranks those has with_rank digits escape_byte
ranks_pending_as_json = refl

fault_not_reached_as_json : compact_text (fault_data (two_daemons (loss ∷ [])) [] loss) ≡ codes "{\"after\":0,\"node\":\"b:0\",\"state\":\"not reached\"}"
unfolding digits escape_byte
fault_not_reached_as_json = refl

-- the order of a report

-- a release of no samples
abbrev bare : ℕ → ℕ → ℕ → TreeRelease
bare stream wave number = release stream wave number Final (tree_of [] none) []

a_stream_goes_first : release_cmp (bare 0 1 2) (bare 1 0 1) ≡ Less
a_stream_goes_first = refl

then_the_wave : release_cmp (bare 1 1 1) (bare 1 0 2) ≡ Greater
then_the_wave = refl

then_the_number : release_cmp (bare 1 0 1) (bare 1 0 2) ≡ Less
then_the_number = refl

-- the direct merge of a plan

-- two waves of one sample time each: rank 1 was seen in main at the first and nobody at the second; time 2 is of no wave
abbrev two_waves : Plan
two_waves = record {
  names = (two_daemons []).names;
  parents = (two_daemons []).parents;
  placed = (two_daemons []).placed;
  lines = record { time = 0; ranks = set_of (1 ∷ []); path = codes "main" ∷ [] } ∷ record { time = 2; ranks = set_of (3 ∷ []); path = codes "main" ∷ [] } ∷ [];
  streams = stream 0 WaitForAll 2 1 Line (1 ∷ 2 ∷ []) ∷ [];
  faults = [];
}

one_for_each_wave : direct_releases two_waves ≡ release 0 0 1 Final (tree_of (pairs_at (1 ∷ []) (codes "main" ∷ [])) everyone) [] ∷ release 0 1 1 Final (tree_of [] everyone) [] ∷ []
unfolding samples sample_count grain stream_ranks stream_of daemons ranks union with_rank those has
one_for_each_wave = refl

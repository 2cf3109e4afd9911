-- A report, put together from the pieces of its releases and the report of none.
use Rattle.std.proofs.Common.{◌≡◌, ◌-◌, ◌+◌, ℕ, true, false, List, [], ◌∷◌, ◌++◌, drop, length, map, take, refl, sym, ap, subst, ◌∙◌, append_assoc, arith}
use Rattle.std.specs.Prelude.{codes}
use Rattle.std.specs.List.{flat_map}
use Rattle.std.specs.List.Sorted.{IsStrictlySortedBy}
use Rattle.std.proofs.Math.Seq.{take-append_seam}
use Rattle.std.proofs.lemmas.Grind.{flat_map-append}
use Rattle.std.proofs.lemmas.List.{length-append, map-append, take-append-drop}
use Rattle.std.proofs.lemmas.List.Sorted.{IsPermutation-refl}
use Rattle.json.specs.Print.{quoted}
use Rattle.serde_json.specs.Data.{Data}
use Rattle.serde_json.specs.View.{items_of}
use Rattle.serde_json.specs.Written.{compact_text, items_text}
use Rattle.overlay_setup.specs.declared.script.Fault.{Fault}
use Rattle.stat_plan.specs.Plans.{Plan}
use Rattle.prefix_tree.specs.Tree.{Tree}
use Rattle.overlay_core.specs.TreeReleases.{TreeRelease, release_view, releases_view}
use Rattle.overlay_core.specs.declared.release.Release.{Release}
use Rattle.front_end.specs.JsonReport.{IsJsonReport, fault_data, release_data, report_data}
use Rattle.json_text.specs.Values.{list_of}
use Rattle.front_end.specs.ReleaseText.{release_text}
use Rattle.front_end.specs.Report.{AreDistinct, IsReport, IsSortedCopy, fault_line, report_text}
use Rattle.front_end.proofs.Numbered.{distinct_where_numbered}
use Rattle.front_end.proofs.Orders.{json_reports_same, reports_same}
use Rattle.wide_report.specs.Pieces.{json_front, json_text, piece}
use Rattle.wide_report.specs.declared.parts.Form.TheVariants.{Text, Json}

-- the text of releases stands before that of none
pub text_of_pieces : (p : Plan) (faults : List Fault) (lost : List ℕ) (rs : List TreeRelease) → flat_map (piece Text p) rs ++ report_text p faults lost [] ≡ report_text p faults lost rs
unfolding report_text
text_of_pieces p faults lost rs = regroup (flat_map (release_text p) rs) (flat_map (fault_line p lost) faults) (codes "end\n")
  where
    regroup : (a b c : List ℕ) → a ++ (b ++ c) ≡ a ++ b ++ c
    regroup a b c = sym (append_assoc a b c)

-- values that come after others in a list
later_items : (f : TreeRelease → Data) (rs : List TreeRelease) → items_text true (items_of (map f rs)) ≡ flat_map (λ r. 44 ∷ compact_text (f r)) rs ++ 93 ∷ []
later_items f [] = refl
later_items f (r ∷ rs) = ap (λ ys. 44 ∷ (compact_text (f r) ++ ys)) (later_items f rs) ∙ ap (λ ys. 44 ∷ ys) (sym (append_assoc (compact_text (f r)) (flat_map (λ r. 44 ∷ compact_text (f r)) rs) (93 ∷ [])))

-- all values of a list
all_items : (f : TreeRelease → Data) (rs : List TreeRelease) → items_text false (items_of (map f rs)) ≡ drop 1 (flat_map (λ r. 44 ∷ compact_text (f r)) rs) ++ 93 ∷ []
all_items f [] = refl
all_items f (r ∷ rs) = ap (λ ys. compact_text (f r) ++ ys) (later_items f rs) ∙ sym (append_assoc (compact_text (f r)) (flat_map (λ r. 44 ∷ compact_text (f r)) rs) (93 ∷ []))

-- the JSON of releases
pub json_of_pieces : (p : Plan) (faults : List Fault) (lost : List ℕ) (rs : List TreeRelease) → json_text p faults lost (drop 1 (flat_map (piece Json p) rs)) ≡ compact_text (report_data p faults lost rs) ++ 10 ∷ []
unfolding report_data
json_of_pieces p faults lost rs =
    let first : List ℕ = compact_text (list_of (map (fault_data p lost) faults)) in
    regroup (123 ∷ quoted (codes "faults")) (58 ∷ []) first (44 ∷ quoted (codes "releases")) (58 ∷ 91 ∷ []) (drop 1 (flat_map (piece Json p) rs))
    ∙ ap (λ ys. (123 ∷ (quoted (codes "faults") ++ 58 ∷ (first ++ 44 ∷ (quoted (codes "releases") ++ 58 ∷ 91 ∷ (ys ++ 125 ∷ []))))) ++ 10 ∷ []) (sym (all_items (release_data p) rs))
  where
    regroup : (a b c d e f : List ℕ) → (a ++ (b ++ (c ++ (d ++ e)))) ++ (f ++ codes "]}\n") ≡ (a ++ (b ++ (c ++ (d ++ (e ++ ((f ++ 93 ∷ []) ++ 125 ∷ [])))))) ++ 10 ∷ []
    regroup a b c d e f = simp append_assoc

none_in_order : IsSortedCopy [] []
unfolding IsStrictlySortedBy
none_in_order = record { same = IsPermutation-refl []; increasing = tt }

-- the text of no releases
pub text_of_none : (p : Plan) (faults : List Fault) (lost text : List ℕ) → IsReport p faults [] lost text → text ≡ report_text p faults lost []
text_of_none p faults lost text is = reports_same p faults [] lost text (report_text p faults lost []) is (record { ordered = []; in_order = none_in_order; is = refl })

-- the JSON of no releases
json_of_none : (p : Plan) (faults : List Fault) (lost text : List ℕ) → IsJsonReport p faults [] lost text → text ≡ json_front p faults lost ++ codes "]}\n"
json_of_none p faults lost text is =
    json_reports_same p faults [] lost text (compact_text (report_data p faults lost []) ++ 10 ∷ []) is (record { ordered = []; in_order = none_in_order; is = refl }) ∙ sym (json_of_pieces p faults lost [])

-- releases put into the JSON of none
pub json_built : (p : Plan) (faults : List Fault) (lost end releases cut full whole : List ℕ) (n : ℕ) → IsJsonReport p faults [] lost end → n ≡ length end - 3 → cut ≡ take n end → full ≡ cut ++ releases → whole ≡ full ++ codes "]}\n"
    → whole ≡ json_text p faults lost releases
json_built p faults lost end releases cut full whole n is less taken filled closed =
    let front : List ℕ = json_front p faults lost in
    let ends : end ≡ front ++ codes "]}\n" = json_of_none p faults lost end is in
    let long : length end ≡ length front + 3 = ap length ends ∙ length-append front (codes "]}\n") in
    let counted : length end - 3 ≡ length front = omega (arith, long) in
    let first : cut ≡ front = taken ∙ ap (λ k. take k end) (less ∙ counted) ∙ ap (λ ys. take (length front) ys) ends ∙ take-append_seam front (codes "]}\n") in
    closed ∙ ap (λ ys. ys ++ codes "]}\n") (filled ∙ ap (λ ys. ys ++ releases) first) ∙ append_assoc front releases (codes "]}\n")

-- the pieces of both halves are those of the whole
pub both_pieces : {X : Type 0} (tree : X → Tree) (f : TreeRelease → List ℕ) (all front back : List (Release X)) (n : ℕ) (a b text : List ℕ) → front ≡ take n all → back ≡ drop n all
    → a ≡ flat_map f (releases_view tree front) → b ≡ flat_map f (releases_view tree back) → text ≡ a ++ b → text ≡ flat_map f (releases_view tree all)
both_pieces {X} tree f all front back n a b text is_front is_back is_a is_b joined =
    let view : List (Release X) → List TreeRelease = releases_view tree in
    joined ∙ (λ i. is_a i ++ is_b i) ∙ sym (flat_map-append f (view front) (view back)) ∙ ap (flat_map f) (sym (map-append (release_view tree) front back))
    ∙ ap (λ rs. flat_map f (view rs)) ((λ i. is_front i ++ is_back i) ∙ take-append-drop n all)

-- no releases are distinct
pub none_distinct : {X : Type 0} (tree : X → Tree) (rs : List (Release X)) → rs ≡ [] → AreDistinct (releases_view tree rs)
none_distinct {X} tree rs none = subst (λ (qs : List (Release X)). AreDistinct (releases_view tree qs)) (sym none) (distinct_where_numbered [] refl)

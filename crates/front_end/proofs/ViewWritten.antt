-- The report of a view, written piece by piece.
use Rattle.std.proofs.Common.{◌≡◌, ℕ, List, [], ◌∷◌, ◌++◌, map, refl, sym, ap, ◌∙◌, append_assoc, inl, inr}
use Rattle.std.specs.Prelude.{codes}
use Rattle.std.specs.List.{flat_map}
use Rattle.json.specs.Print.{print}
use Rattle.json.specs.Token.{Token, begin_object, end_object, key}
use Rattle.serde_json.specs.Data.{Data, string}
use Rattle.serde_json.specs.Written.{compact_text}
use Rattle.serde_json.proofs.Texts.{print-outline}
use Rattle.rank_set.specs.Ranks.{Ranks}
use Rattle.rank_set.specs.Text.{text_of}
use Rattle.call_path.specs.Pairs.{HasNoEmptyPath, Pairs}
use Rattle.prefix_tree.specs.Tree.{IsTree, Tree, pairs_of, tree_of}
use Rattle.prefix_tree.proofs.TreeLemmas.{IsTree-tree_of, coverage-tree_of}
use Rattle.equiv_class.proofs.SamePairs.{classes_of_tree}
use Rattle.overlay_setup.specs.NodeSets.{In}
use Rattle.stat_plan.proofs.FirstOver.{all_in}
use Rattle.overlay_core.specs.TreeReleases.{TreeRelease}
use Rattle.tree_view.specs.Reading.{by_of, by_word}
use Rattle.tree_view.specs.Views.{TreeView, viewed_classes, viewed_pairs, viewed_ranks, viewed_tree}
use Rattle.tree_view.proofs.SameViews.{none_empty, own_none_empty, same_viewed_classes, same_viewed_ranks, same_viewed_tree}
use Rattle.front_end.specs.ReleaseText.{classes_in, heading, kind_text, ranks_line, tree_and_classes}
use Rattle.front_end.specs.JsonValues.{classes_data, tree_data}
use Rattle.json_text.specs.Values.{count, list_of, object_of, ranks_data}
use Rattle.json_text.specs.Tokens.{member_tokens, value_tokens}
use Rattle.front_end.specs.ViewReport.{HavePairs, IsViewReport, own_pairs, view_line, view_report_text, viewed_text}
use Rattle.front_end.specs.JsonViewReport.{IsJsonViewReport, view_data, view_report_data, viewed_data}
use Rattle.front_end.proofs.Orders.{in_permutation}

-- the line of a view
pub view_written : (v : TreeView) (argument word out a b c d e : List ℕ) → word ≡ by_word (by_of v) → a ≡ out ++ codes "view " → b ≡ a ++ word → c ≡ b ++ 32 ∷ [] → d ≡ c ++ argument → e ≡ d ++ 10 ∷ [] → e ≡ out ++ view_line v argument
view_written v argument word out a b c d e is pa pb pc pd pe =
    pe ∙ ap (λ ys. ys ++ 10 ∷ []) (pd ∙ ap (λ ys. ys ++ argument) (pc ∙ ap (λ ys. ys ++ 32 ∷ []) (pb ∙ ap (λ ys. ys ++ word) pa)))
    ∙ regroup out (codes "view ") word argument
    ∙ ap (λ w. out ++ (codes "view " ++ w ++ 32 ∷ argument ++ 10 ∷ [])) is
  where
    regroup : (out a b d : List ℕ) → ((((out ++ a) ++ b) ++ 32 ∷ []) ++ d) ++ 10 ∷ [] ≡ out ++ (a ++ b ++ 32 ∷ d ++ 10 ∷ [])
    regroup out a b d = simp append_assoc

-- the classes of a viewed tree are those of the viewed pairs
pub classes_viewed : (v : TreeView) (u t : Tree) → IsTree u → t ≡ viewed_tree v (pairs_of u) u.coverage → classes_in t ≡ viewed_classes v (pairs_of u) u.coverage
classes_viewed v u t tree is = classes_of_tree (viewed_pairs v (pairs_of u)) (viewed_ranks v (pairs_of u) u.coverage) t (none_empty v (pairs_of u) (own_none_empty u tree)) is

-- all that is said of a release in a view
pub viewed_written : (v : TreeView) (argument : List ℕ) (r : TreeRelease) (t : Tree) (covered kept : Ranks) (out a b c d : List ℕ) → IsTree r.tree → t ≡ viewed_tree v (pairs_of r.tree) r.tree.coverage
    → covered ≡ r.tree.coverage → kept ≡ t.coverage → a ≡ out ++ heading r → b ≡ a ++ ranks_line (codes "covered ") covered → c ≡ b ++ view_line v argument → d ≡ c ++ ranks_line (codes "kept ") kept
    → d ++ tree_and_classes t (classes_in t) ≡ out ++ viewed_text v argument (own_pairs r) r
unfolding viewed_text
viewed_written v argument r t covered kept out a b c d tree is is_covered is_kept pa pb pc pd =
    let rest : List ℕ = tree_and_classes t (classes_in t) in
    let ranks : kept ≡ viewed_ranks v (pairs_of r.tree) r.tree.coverage = is_kept ∙ ap (λ (u : Tree). u.coverage) is ∙ coverage-tree_of _ _ in
    ap (λ ys. ys ++ rest) (pd ∙ ap (λ ys. ys ++ ranks_line (codes "kept ") kept) (pc ∙ ap (λ ys. ys ++ view_line v argument) (pb ∙ ap (λ ys. ys ++ ranks_line (codes "covered ") covered) pa)))
    ∙ regroup out (heading r) (ranks_line (codes "covered ") covered) (view_line v argument) (ranks_line (codes "kept ") kept) rest
    ∙ (λ i. out ++ (heading r ++ ranks_line (codes "covered ") (is_covered i) ++ view_line v argument ++ ranks_line (codes "kept ") (ranks i) ++ tree_and_classes (is i) (classes_viewed v r.tree t tree is i)))
  where
    regroup : (out a b c d e : List ℕ) → ((((out ++ a) ++ b) ++ c) ++ d) ++ e ≡ out ++ (a ++ b ++ c ++ d ++ e)
    regroup out a b c d e = simp append_assoc

-- the whole report
pub report_of_view : (v : TreeView) (argument : List ℕ) (ordered : List TreeRelease) (a b c : List ℕ) → a ≡ [] → b ≡ a ++ flat_map (λ r. viewed_text v argument (own_pairs r) r) ordered → c ≡ b ++ codes "end\n"
    → c ≡ view_report_text v argument own_pairs ordered
unfolding view_report_text
report_of_view v argument ordered a b c pa pb pc = pc ∙ ap (λ ys. ys ++ codes "end\n") (pb ∙ ap (λ ys. ys ++ flat_map (λ r. viewed_text v argument (own_pairs r) r) ordered) pa)

-- ---- JSON

-- the object of a view
pub view_object : (v : TreeView) (argument word : List ℕ) (out a b c : List Token) → word ≡ by_word (by_of v) → a ≡ out ++ begin_object ∷ [] → b ≡ a ++ member_tokens (codes "argument") (string argument)
    → c ≡ b ++ member_tokens (codes "by") (string word) → c ++ end_object ∷ [] ≡ out ++ value_tokens (view_data v argument)
view_object v argument word out a b c is pa pb pc =
    let first = member_tokens (codes "argument") (string argument) in
    ap (λ ts. ts ++ end_object ∷ []) (pc ∙ ap (λ ts. ts ++ member_tokens (codes "by") (string word)) (pb ∙ ap (λ ts. ts ++ first) pa))
    ∙ regroup out (begin_object ∷ []) first (member_tokens (codes "by") (string word)) (end_object ∷ [])
    ∙ ap (λ w. out ++ value_tokens (object_of ((codes "argument", string argument) ∷ (codes "by", string w) ∷ []))) is
  where
    regroup : (out a b c d : List Token) → (((out ++ a) ++ b) ++ c) ++ d ≡ out ++ (a ++ (b ++ (c ++ d)))
    regroup out a b c d = simp append_assoc

-- the members of the object of a release
members_written : (classes covered kept kind number stream tree view wave : Data) (out a b c d e f g h i j k l m : List Token)
    → a ≡ out ++ begin_object ∷ [] → b ≡ a ++ key (codes "classes") ∷ [] → c ≡ b ++ value_tokens classes → d ≡ c ++ member_tokens (codes "covered") covered → e ≡ d ++ member_tokens (codes "kept") kept
    → f ≡ e ++ member_tokens (codes "kind") kind → g ≡ f ++ member_tokens (codes "number") number → h ≡ g ++ member_tokens (codes "stream") stream → i ≡ h ++ key (codes "tree") ∷ [] → j ≡ i ++ value_tokens tree
    → k ≡ j ++ key (codes "view") ∷ [] → l ≡ k ++ value_tokens view → m ≡ l ++ member_tokens (codes "wave") wave
    → m ++ end_object ∷ [] ≡ out ++ value_tokens (object_of (
    (codes "classes", classes) ∷ (codes "covered", covered) ∷ (codes "kept", kept) ∷ (codes "kind", kind) ∷ (codes "number", number) ∷ (codes "stream", stream) ∷ (codes "tree", tree) ∷ (codes "view", view) ∷ (codes "wave", wave) ∷ []))
members_written classes covered kept kind number stream tree view wave out a b c d e f g h i j k l m pa pb pc pd pe pf pg ph pi pj pk pl pm =
    ap (λ ts. ts ++ end_object ∷ []) (pm ∙ ap (λ ts. ts ++ member_tokens (codes "wave") wave) (pl ∙ ap (λ ts. ts ++ value_tokens view) (pk ∙ ap (λ ts. ts ++ key (codes "view") ∷ []) (pj ∙ ap (λ ts. ts ++ value_tokens tree) (pi
    ∙ ap (λ ts. ts ++ key (codes "tree") ∷ []) (ph ∙ ap (λ ts. ts ++ member_tokens (codes "stream") stream) (pg ∙ ap (λ ts. ts ++ member_tokens (codes "number") number) (pf ∙ ap (λ ts. ts ++ member_tokens (codes "kind") kind) (pe
    ∙ ap (λ ts. ts ++ member_tokens (codes "kept") kept) (pd ∙ ap (λ ts. ts ++ member_tokens (codes "covered") covered) (pc ∙ ap (λ ts. ts ++ value_tokens classes) (pb ∙ ap (λ ts. ts ++ key (codes "classes") ∷ []) pa))))))))))))
    ∙ regroup out (begin_object ∷ key (codes "classes") ∷ []) (value_tokens classes) (member_tokens (codes "covered") covered) (member_tokens (codes "kept") kept) (member_tokens (codes "kind") kind) (member_tokens (codes "number") number)
    (member_tokens (codes "stream") stream) (key (codes "tree") ∷ []) (value_tokens tree) (key (codes "view") ∷ []) (value_tokens view) (member_tokens (codes "wave") wave) (end_object ∷ [])
  where
    regroup : (out a b c d e f g h i j k l m : List Token) → ((((((((((((out ++ begin_object ∷ []) ++ key (codes "classes") ∷ []) ++ b) ++ c) ++ d) ++ e) ++ f) ++ g) ++ h) ++ i) ++ j) ++ k) ++ l ++ m
        ≡ out ++ ((begin_object ∷ key (codes "classes") ∷ []) ++ (b ++ (c ++ (d ++ (e ++ (f ++ (g ++ (h ++ (i ++ (j ++ (k ++ (l ++ m))))))))))))
    regroup out a b c d e f g h i j k l m = simp append_assoc

-- the object of a release in a view
pub viewed_object : (v : TreeView) (argument : List ℕ) (r : TreeRelease) (t : Tree) (classes : Data) (covered kept : Ranks) (text other kind : List ℕ) (number stream wave : ℕ) (out a b c d e f g h i j k l m : List Token)
    → IsTree r.tree → t ≡ viewed_tree v (pairs_of r.tree) r.tree.coverage → classes ≡ classes_data (classes_in t) → covered ≡ r.tree.coverage → kept ≡ t.coverage → text ≡ text_of covered → other ≡ text_of kept
    → kind ≡ kind_text r.kind → number ≡ r.number → stream ≡ r.stream → wave ≡ r.wave
    → a ≡ out ++ begin_object ∷ [] → b ≡ a ++ key (codes "classes") ∷ [] → c ≡ b ++ value_tokens classes → d ≡ c ++ member_tokens (codes "covered") (string text) → e ≡ d ++ member_tokens (codes "kept") (string other)
    → f ≡ e ++ member_tokens (codes "kind") (string kind) → g ≡ f ++ member_tokens (codes "number") (count number) → h ≡ g ++ member_tokens (codes "stream") (count stream) → i ≡ h ++ key (codes "tree") ∷ [] → j ≡ i ++ value_tokens (tree_data t)
    → k ≡ j ++ key (codes "view") ∷ [] → l ≡ k ++ value_tokens (view_data v argument) → m ≡ l ++ member_tokens (codes "wave") (count wave)
    → m ++ end_object ∷ [] ≡ out ++ value_tokens (viewed_data v argument (own_pairs r) r)
unfolding viewed_data
viewed_object v argument r t classes covered kept text other kind number stream wave out a b c d e f g h i j k l m tree is is_classes is_covered is_kept is_text is_other is_kind is_number is_stream is_wave pa pb pc pd pe pf pg ph pi pj pk pl pm =
    let ranks : kept ≡ viewed_ranks v (pairs_of r.tree) r.tree.coverage = is_kept ∙ ap (λ (u : Tree). u.coverage) is ∙ coverage-tree_of _ _ in
    let all_classes = is_classes ∙ ap classes_data (classes_viewed v r.tree t tree is) in
    members_written classes (string text) (string other) (string kind) (count number) (count stream) (tree_data t) (view_data v argument) (count wave) out a b c d e f g h i j k l m pa pb pc pd pe pf pg ph pi pj pk pl pm
    ∙ (λ x. out ++ value_tokens (object_of (
    (codes "classes", all_classes x) ∷ (codes "covered", string ((is_text ∙ ap text_of is_covered) x)) ∷ (codes "kept", string ((is_other ∙ ap text_of ranks) x)) ∷ (codes "kind", string (is_kind x))
    ∷ (codes "number", count (is_number x)) ∷ (codes "stream", count (is_stream x)) ∷ (codes "tree", tree_data (is x)) ∷ (codes "view", view_data v argument) ∷ (codes "wave", count (is_wave x)) ∷ [])))

-- the line of the whole report
pub view_report_line : (v : TreeView) (argument : List ℕ) (ordered : List TreeRelease) (line : List ℕ) (out a b c d : List Token) → out ≡ [] → a ≡ out ++ begin_object ∷ [] → b ≡ a ++ key (codes "releases") ∷ []
    → c ≡ b ++ value_tokens (list_of (map (λ r. viewed_data v argument (own_pairs r) r) ordered)) → d ≡ c ++ end_object ∷ []
    → line ≡ print d ++ 10 ∷ [] → line ≡ compact_text (view_report_data v argument own_pairs ordered) ++ 10 ∷ []
unfolding view_report_data
view_report_line v argument ordered line out a b c d none pa pb pc pd is =
    let first = value_tokens (list_of (map (λ r. viewed_data v argument (own_pairs r) r) ordered)) in
    let all : d ≡ value_tokens (view_report_data v argument own_pairs ordered)
    = pd ∙ ap (λ ts. ts ++ end_object ∷ []) (pc ∙ ap (λ ts. ts ++ first) (pb ∙ ap (λ ts. ts ++ key (codes "releases") ∷ []) (pa ∙ ap (λ ts. ts ++ begin_object ∷ []) none))) in
    is ∙ ap (λ ts. print ts ++ 10 ∷ []) all ∙ ap (λ ys. ys ++ 10 ∷ []) (print-outline (view_report_data v argument own_pairs ordered))

-- ---- other pairs that the trees are of

module _ (v : TreeView) (argument : List ℕ) (P : Pairs) (r : TreeRelease) (some : HasNoEmptyPath P) (is : r.tree ≡ tree_of P r.tree.coverage) where
  own : IsTree r.tree
  own = Rattle.std.proofs.Common.subst IsTree (sym is) (IsTree-tree_of P r.tree.coverage)

  -- a release in a view says the same of them
  same_text : viewed_text v argument (own_pairs r) r ≡ viewed_text v argument P r
  unfolding viewed_text
  same_text =
      let C = r.tree.coverage in
      let Q = pairs_of r.tree in
      λ i. heading r ++ ranks_line (codes "covered ") C ++ view_line v argument ++ ranks_line (codes "kept ") (same_viewed_ranks r.tree Q P C own is (own_none_empty r.tree own) some v i)
      ++ tree_and_classes (same_viewed_tree r.tree Q P C own is (own_none_empty r.tree own) some v i) (same_viewed_classes r.tree Q P C own is (own_none_empty r.tree own) some v i)

  same_data : viewed_data v argument (own_pairs r) r ≡ viewed_data v argument P r
  unfolding viewed_data
  same_data =
      let C = r.tree.coverage in
      let Q = pairs_of r.tree in
      λ i. object_of (
      (codes "classes", classes_data (same_viewed_classes r.tree Q P C own is (own_none_empty r.tree own) some v i))
      ∷ (codes "covered", ranks_data C)
      ∷ (codes "kept", ranks_data (same_viewed_ranks r.tree Q P C own is (own_none_empty r.tree own) some v i))
      ∷ (codes "kind", string (kind_text r.kind))
      ∷ (codes "number", count r.number)
      ∷ (codes "stream", count r.stream)
      ∷ (codes "tree", tree_data (same_viewed_tree r.tree Q P C own is (own_none_empty r.tree own) some v i))
      ∷ (codes "view", view_data v argument)
      ∷ (codes "wave", count r.wave) ∷ [])

abbrev IsOf : (TreeRelease → Pairs) → TreeRelease → Type 0
IsOf pairs r = HasNoEmptyPath (pairs r) × (r.tree ≡ tree_of (pairs r) r.tree.coverage)

-- functions that agree on a list give the same of it
pub same_map : {X Y : Type 0} (f g : X → Y) (xs : List X) → ((x : X) → In x xs → f x ≡ g x) → map f xs ≡ map g xs
same_map f g [] each = refl
same_map f g (x ∷ xs) each = λ i. each x (inl refl) i ∷ same_map f g xs (λ y there. each y (inr there)) i

pub same_texts : {X : Type 0} (f g : X → List ℕ) (xs : List X) → ((x : X) → In x xs → f x ≡ g x) → flat_map f xs ≡ flat_map g xs
same_texts f g [] each = refl
same_texts f g (x ∷ xs) each = λ i. each x (inl refl) i ++ same_texts f g xs (λ y there. each y (inr there)) i

-- so a report is one of any pairs that the trees are of
pub report_of_pairs : (v : TreeView) (argument : List ℕ) (releases : List TreeRelease) (text : List ℕ) → IsViewReport v argument own_pairs releases text
    → (pairs : TreeRelease → Pairs) → HavePairs pairs releases → IsViewReport v argument pairs releases text
unfolding view_report_text
report_of_pairs v argument releases text report pairs are = record {
  ordered = report.ordered;
  in_order = report.in_order;
  is = report.is ∙ ap (λ ys. ys ++ codes "end\n") (same_texts (λ r. viewed_text v argument (own_pairs r) r) (λ r. viewed_text v argument (pairs r) r) report.ordered (λ r there.
      let of = all_in (IsOf pairs) releases r are (in_permutation releases report.ordered report.in_order.same r there) in
      same_text v argument (pairs r) r of.0 of.1));
}

pub json_of_pairs : (v : TreeView) (argument : List ℕ) (releases : List TreeRelease) (text : List ℕ) → IsJsonViewReport v argument own_pairs releases text
    → (pairs : TreeRelease → Pairs) → HavePairs pairs releases → IsJsonViewReport v argument pairs releases text
unfolding view_report_data
json_of_pairs v argument releases text report pairs are = record {
  ordered = report.ordered;
  in_order = report.in_order;
  is = report.is ∙ ap (λ ds. compact_text (object_of ((codes "releases", list_of ds) ∷ [])) ++ 10 ∷ []) (same_map (λ r. viewed_data v argument (own_pairs r) r) (λ r. viewed_data v argument (pairs r) r) report.ordered (λ r there.
      let of = all_in (IsOf pairs) releases r are (in_permutation releases report.ordered report.in_order.same r there) in
      same_data v argument (pairs r) r of.0 of.1));
}

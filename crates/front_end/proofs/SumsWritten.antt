-- The report of sums, written piece by piece.
use Rattle.std.proofs.Common.{◌≡◌, ℕ, pos, negsuc, List, [], ◌∷◌, ◌++◌, Option, Some, map, refl, ap, ◌∙◌, append_assoc}
use Rattle.std.specs.Prelude.{codes}
use Rattle.std.specs.Fmt.{signed_decimal}
use Rattle.std.specs.List.{flat_map}
use Rattle.std.proofs.Math.IntN.{ℤ}
use Rattle.json.specs.Print.{print}
use Rattle.json.specs.Token.{Token, begin_object, end_object, key, number as number_token}
use Rattle.serde_json.specs.Data.{Data, string}
use Rattle.serde_json.specs.Written.{compact_text}
use Rattle.serde_json.proofs.Texts.{print-outline}
use Rattle.rank_set.specs.Ranks.{Ranks}
use Rattle.rank_set.specs.Text.{text_of}
use Rattle.overlay_setup.specs.NodeSets.{In}
use Rattle.stat_plan.proofs.Elements.{all_from}
use Rattle.stat_plan.proofs.FirstOver.{all_in}
use Rattle.overlay_core.specs.TreeReleases.{TreeRelease}
use Rattle.rank_sums.specs.PartTrees.{SaysNumbersWithin}
use Rattle.rank_sums.specs.Words.{fold_word}
use Rattle.rank_sums.specs.declared.fold.Fold.{Fold}
use Rattle.front_end.specs.ReleaseText.{kind_text, release_words}
use Rattle.front_end.specs.Report.{IsSortedCopy}
use Rattle.json_text.specs.Values.{count, list_of, object_of, value_data}
use Rattle.json_text.specs.Tokens.{member_tokens, value_tokens}
use Rattle.front_end.specs.SumsReport.{IsSumsReport, SayNumbers, sum_line, sums_report_text, tree_value, value_text}
use Rattle.front_end.specs.JsonSumsReport.{IsJsonSumsReport, sum_data, sums_report_data}
use Rattle.front_end.proofs.Orders.{in_permutation}
use Rattle.front_end.proofs.ViewWritten.{same_map, same_texts}

-- releases whose trees say numbers are such in each order
pub say_in_order : (f : Fold) (given ordered : List TreeRelease) → IsSortedCopy given ordered → SayNumbers f given → SayNumbers f ordered
say_in_order f given ordered sorted say =
    all_from (λ (r : TreeRelease). SaysNumbersWithin f r.tree) ordered (λ r there. all_in (λ (r : TreeRelease). SaysNumbersWithin f r.tree) given r say (in_permutation given ordered sorted.same r there))

-- ---- text

-- the line of a release
pub sum_written : (f : Fold) (r : TreeRelease) (covered : Ranks) (word value out a b c d e g h i : List ℕ) → covered ≡ r.tree.coverage → word ≡ fold_word f → value ≡ value_text (tree_value f r)
    → a ≡ out ++ release_words r → b ≡ a ++ codes " covered " → c ≡ b ++ text_of covered → d ≡ c ++ 32 ∷ [] → e ≡ d ++ word → g ≡ e ++ 32 ∷ [] → h ≡ g ++ value → i ≡ h ++ 10 ∷ []
    → i ≡ out ++ sum_line f (tree_value f) r
unfolding sum_line
sum_written f r covered word value out a b c d e g h i is_covered is_word is_value pa pb pc pd pe pg ph pi =
    pi ∙ ap (λ ys. ys ++ 10 ∷ []) (ph ∙ ap (λ ys. ys ++ value) (pg ∙ ap (λ ys. ys ++ 32 ∷ []) (pe ∙ ap (λ ys. ys ++ word) (pd ∙ ap (λ ys. ys ++ 32 ∷ []) (pc ∙ ap (λ ys. ys ++ text_of covered) (pb ∙ ap (λ ys. ys ++ codes " covered ") pa))))))
    ∙ regroup out (release_words r) (codes " covered ") (text_of covered) word value
    ∙ (λ j. out ++ (release_words r ++ codes " covered " ++ text_of (is_covered j) ++ 32 ∷ is_word j ++ 32 ∷ is_value j ++ 10 ∷ []))
  where
    regroup : (out a b c d e : List ℕ) → (((((((out ++ a) ++ b) ++ c) ++ 32 ∷ []) ++ d) ++ 32 ∷ []) ++ e) ++ 10 ∷ [] ≡ out ++ (a ++ b ++ c ++ 32 ∷ d ++ 32 ∷ e ++ 10 ∷ [])
    regroup out a b c d e = simp append_assoc

-- the whole report
pub report_of_sums : (f : Fold) (ordered : List TreeRelease) (a b c : List ℕ) → a ≡ [] → b ≡ a ++ flat_map (sum_line f (tree_value f)) ordered → c ≡ b ++ codes "end\n" → c ≡ sums_report_text f (tree_value f) ordered
unfolding sums_report_text
report_of_sums f ordered a b c pa pb pc = pc ∙ ap (λ ys. ys ++ codes "end\n") (pb ∙ ap (λ ys. ys ++ flat_map (sum_line f (tree_value f)) ordered) pa)

-- the values of the releases may be told in another way
pub sums_of_values : (f : Fold) (value : TreeRelease → Option ℤ) (releases : List TreeRelease) (text : List ℕ) → ((r : TreeRelease) → In r releases → tree_value f r ≡ value r)
    → IsSumsReport f (tree_value f) releases text → IsSumsReport f value releases text
unfolding sums_report_text sum_line
sums_of_values f value releases text same report = record {
  ordered = report.ordered;
  in_order = report.in_order;
  is = report.is ∙ ap (λ ys. ys ++ codes "end\n") (same_texts (sum_line f (tree_value f)) (sum_line f value) report.ordered (λ r there.
      ap (λ (o : Option ℤ). sum_line f (λ _. o) r) (same r (in_permutation releases report.ordered report.in_order.same r there))));
}

-- ---- JSON

-- a value is that of its text
pub signed_tokens : (z : ℤ) → number_token (signed_decimal z) ∷ [] ≡ value_tokens (value_data (Some z))
signed_tokens (pos n) = refl
signed_tokens (negsuc n) = refl

-- the members of the object of a release
members_written : (covered fold kind nth stream value wave : Data) (out a b c d e f g h : List Token)
    → a ≡ out ++ begin_object ∷ [] → b ≡ a ++ member_tokens (codes "covered") covered → c ≡ b ++ member_tokens (codes "fold") fold → d ≡ c ++ member_tokens (codes "kind") kind → e ≡ d ++ member_tokens (codes "number") nth
    → f ≡ e ++ member_tokens (codes "stream") stream → g ≡ f ++ member_tokens (codes "value") value → h ≡ g ++ member_tokens (codes "wave") wave
    → h ++ end_object ∷ [] ≡ out ++ value_tokens (object_of (
    (codes "covered", covered) ∷ (codes "fold", fold) ∷ (codes "kind", kind) ∷ (codes "number", nth) ∷ (codes "stream", stream) ∷ (codes "value", value) ∷ (codes "wave", wave) ∷ []))
members_written covered fold kind nth stream value wave out a b c d e f g h pa pb pc pd pe pf pg ph =
    ap (λ ts. ts ++ end_object ∷ []) (ph ∙ ap (λ ts. ts ++ member_tokens (codes "wave") wave) (pg ∙ ap (λ ts. ts ++ member_tokens (codes "value") value) (pf ∙ ap (λ ts. ts ++ member_tokens (codes "stream") stream) (pe
    ∙ ap (λ ts. ts ++ member_tokens (codes "number") nth) (pd ∙ ap (λ ts. ts ++ member_tokens (codes "kind") kind) (pc ∙ ap (λ ts. ts ++ member_tokens (codes "fold") fold) (pb ∙ ap (λ ts. ts ++ member_tokens (codes "covered") covered) pa)))))))
    ∙ regroup out (begin_object ∷ []) (member_tokens (codes "covered") covered) (member_tokens (codes "fold") fold) (member_tokens (codes "kind") kind) (member_tokens (codes "number") nth)
    (member_tokens (codes "stream") stream) (member_tokens (codes "value") value) (member_tokens (codes "wave") wave) (end_object ∷ [])
  where
    regroup : (out a b c d e f g h i : List Token) → ((((((((out ++ a) ++ b) ++ c) ++ d) ++ e) ++ f) ++ g) ++ h) ++ i ≡ out ++ (a ++ (b ++ (c ++ (d ++ (e ++ (f ++ (g ++ (h ++ i))))))))
    regroup out a b c d e f g h i = simp append_assoc

-- the object of a release
pub sum_object : (f : Fold) (r : TreeRelease) (covered : Ranks) (text word kind : List ℕ) (number stream wave : ℕ) (value : Option ℤ) (out a b c d e g h i : List Token)
    → covered ≡ r.tree.coverage → text ≡ text_of covered → word ≡ fold_word f → kind ≡ kind_text r.kind → number ≡ r.number → stream ≡ r.stream → wave ≡ r.wave → value ≡ tree_value f r
    → a ≡ out ++ begin_object ∷ [] → b ≡ a ++ member_tokens (codes "covered") (string text) → c ≡ b ++ member_tokens (codes "fold") (string word) → d ≡ c ++ member_tokens (codes "kind") (string kind)
    → e ≡ d ++ member_tokens (codes "number") (count number) → g ≡ e ++ member_tokens (codes "stream") (count stream) → h ≡ g ++ member_tokens (codes "value") (value_data value) → i ≡ h ++ member_tokens (codes "wave") (count wave)
    → i ++ end_object ∷ [] ≡ out ++ value_tokens (sum_data f (tree_value f) r)
unfolding sum_data
sum_object f r covered text word kind number stream wave value out a b c d e g h i is_covered is_text is_word is_kind is_number is_stream is_wave is_value pa pb pc pd pe pg ph pi =
    members_written (string text) (string word) (string kind) (count number) (count stream) (value_data value) (count wave) out a b c d e g h i pa pb pc pd pe pg ph pi
    ∙ (λ x. out ++ value_tokens (object_of (
    (codes "covered", string ((is_text ∙ ap text_of is_covered) x)) ∷ (codes "fold", string (is_word x)) ∷ (codes "kind", string (is_kind x)) ∷ (codes "number", count (is_number x))
    ∷ (codes "stream", count (is_stream x)) ∷ (codes "value", value_data (is_value x)) ∷ (codes "wave", count (is_wave x)) ∷ [])))

-- the line of the whole report
pub sums_report_line : (f : Fold) (ordered : List TreeRelease) (line : List ℕ) (out a b c d : List Token) → out ≡ [] → a ≡ out ++ begin_object ∷ [] → b ≡ a ++ key (codes "releases") ∷ []
    → c ≡ b ++ value_tokens (list_of (map (sum_data f (tree_value f)) ordered)) → d ≡ c ++ end_object ∷ []
    → line ≡ print d ++ 10 ∷ [] → line ≡ compact_text (sums_report_data f (tree_value f) ordered) ++ 10 ∷ []
unfolding sums_report_data
sums_report_line f ordered line out a b c d none pa pb pc pd is =
    let first = value_tokens (list_of (map (sum_data f (tree_value f)) ordered)) in
    let all : d ≡ value_tokens (sums_report_data f (tree_value f) ordered)
    = pd ∙ ap (λ ts. ts ++ end_object ∷ []) (pc ∙ ap (λ ts. ts ++ first) (pb ∙ ap (λ ts. ts ++ key (codes "releases") ∷ []) (pa ∙ ap (λ ts. ts ++ begin_object ∷ []) none))) in
    is ∙ ap (λ ts. print ts ++ 10 ∷ []) all ∙ ap (λ ys. ys ++ 10 ∷ []) (print-outline (sums_report_data f (tree_value f) ordered))

pub json_of_values : (f : Fold) (value : TreeRelease → Option ℤ) (releases : List TreeRelease) (text : List ℕ) → ((r : TreeRelease) → In r releases → tree_value f r ≡ value r)
    → IsJsonSumsReport f (tree_value f) releases text → IsJsonSumsReport f value releases text
unfolding sums_report_data sum_data
json_of_values f value releases text same report = record {
  ordered = report.ordered;
  in_order = report.in_order;
  is = report.is ∙ ap (λ ds. compact_text (object_of ((codes "releases", list_of ds) ∷ [])) ++ 10 ∷ []) (same_map (sum_data f (tree_value f)) (sum_data f value) report.ordered (λ r there.
      ap (λ (o : Option ℤ). sum_data f (λ _. o) r) (same r (in_permutation releases report.ordered report.in_order.same r there))));
}

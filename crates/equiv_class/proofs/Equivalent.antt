-- Alike ranks are those that were seen in the same paths.
use Rattle.std.proofs.Common.{◌≡◌, ℕ, Bool, true, false, ◌&&◌, eqb, inl, inr, [], ◌∷◌, refl, sym, ap, ◌∙◌}
use Rattle.std.specs.List.{list_all}
use Rattle.std.specs.Cmp.{both_ways}
use Rattle.std.proofs.lemmas.Bool.{true≢false, and_parts, and_from, or_cases}
use Rattle.call_path.specs.Path.{Path, is_path}
use Rattle.call_path.specs.Pairs.{Pairs, is_pair}
use Rattle.call_path.proofs.PathLemmas.{is_path-exact}
use Rattle.equiv_class.specs.Classes.{same_answer, equivalent}

-- equal answers are the same answer
pub same_from_equal : (a b : Bool) → a ≡ b → same_answer a b ≡ true
same_from_equal true b e = sym e
same_from_equal false true e = absurd (true≢false (sym e))
same_from_equal false false e = refl

-- and the other way round
pub equal_from_same : (a b : Bool) → same_answer a b ≡ true → a ≡ b
equal_from_same true b e = sym e
equal_from_same false true e = absurd (true≢false (sym e))
equal_from_same false false e = refl

all_same : (P Q : Pairs) (r s : ℕ) → ((p : Path) → is_pair P r p ≡ is_pair P s p) → list_all (λ e. same_answer (is_pair P r e.1) (is_pair P s e.1)) Q ≡ true
all_same P [] r s same = refl
all_same P (e ∷ Q) r s same = and_from (same_answer (is_pair P r e.1) (is_pair P s e.1)) _ (same_from_equal _ _ (same e.1)) (all_same P Q r s same)

-- ranks that were seen in the same paths are equivalent
pub equivalent-from_paths : (P : Pairs) (r s : ℕ) → ((p : Path) → is_pair P r p ≡ is_pair P s p) → equivalent P r s ≡ true
equivalent-from_paths P r s same = all_same P P r s same

-- what holds at each path of the pairs
one_of : (P Q : Pairs) (r s : ℕ) → list_all (λ e. same_answer (is_pair P r e.1) (is_pair P s e.1)) Q ≡ true → (q : ℕ) (p : Path) → is_pair Q q p ≡ true → is_pair P r p ≡ is_pair P s p
one_of P [] r s each q p there = absurd (true≢false (sym there))
one_of P (e ∷ Q) r s each q p there =
    let parts = and_parts (same_answer (is_pair P r e.1) (is_pair P s e.1)) (list_all (λ x. same_answer (is_pair P r x.1) (is_pair P s x.1)) Q) each in
    elim (or_cases (eqb e.0 q && is_path p e.1) (is_pair Q q p) there) [
      | inl here ↦
          let same = is_path-exact p e.1 ((and_parts (eqb e.0 q) (is_path p e.1) here).1) in
          ap (is_pair P r) same ∙ equal_from_same _ _ parts.0 ∙ ap (is_pair P s) (sym same)
      | inr later ↦ one_of P Q r s parts.1 q p later
    ]

-- equivalent ranks were seen in the same paths
pub paths-from_equivalent : (P : Pairs) (r s : ℕ) → equivalent P r s ≡ true → (p : Path) → is_pair P r p ≡ is_pair P s p
paths-from_equivalent P r s each p = both_ways (is_pair P r p) (is_pair P s p)
    (λ one. sym (one_of P P r s each r p one) ∙ one)
    (λ one. one_of P P r s each s p one ∙ one)

-- A letter in front of a name that begins with `M`: it says a module of Fortran where the rest does.
use Rattle.std.proofs.Common.{◌≡◌, ◌∙◌, ℕ, suc, Bool, true, false, cond, List, ◌∷◌, length, take, drop, refl, sym, ap, arith}
use Rattle.std.specs.Prelude.{Option, None, Some, ◌&&◌, not, option_map, codes}
use Rattle.std.specs.Option.{option_and_then, option_or}
use Rattle.std.proofs.lemmas.Bool.{and_parts, and_from, ne_eqb}
use Rattle.std.proofs.lemmas.Option.{none-some}
use Rattle.symbol_name.specs.Texts.{behind, before, offset_of, cut_at, is_word}
use Rattle.symbol_name.specs.Modules.{both_pass, ifort_parts, module_parts}
use Rattle.symbol_name.proofs.Ends.{before_cons}
use Rattle.symbol_name.proofs.Letters.{letter, no_head}

abbrev cut_front : List ℕ × List ℕ → List ℕ × List ℕ
cut_front cut = (letter ∷ cut.0, cut.1)

moved : (n : ℕ) (text : List ℕ) (o : Option (List ℕ)) →
    option_map {U = List ℕ × List ℕ} (λ rest. (letter ∷ take n text, rest)) o
    ≡ option_map cut_front (option_map {U = List ℕ × List ℕ} (λ rest. (take n text, rest)) o)
moved n text None = refl
moved n text (Some rest) = refl

cut_letter : (text : List ℕ) → cut_at (codes "_mp_") (letter ∷ text) ≡ option_map cut_front (cut_at (codes "_mp_") text)
unfolding offset_of
cut_letter text =
    moved (offset_of (codes "_mp_") text) text (behind (codes "_mp_") (drop (offset_of (codes "_mp_") text) text))

word_letter : (text : List ℕ) → is_word text ≡ true → is_word (letter ∷ text) ≡ true
word_letter text e =
    let some : (suc (length text) ≡ 0) → ⊥ = λ z. absurd (omega (arith, z)) in
    and_from _ _ (ap not (ne_eqb (suc (length text)) 0 some)) (and_parts _ _ e).1

not_both : (cut : List ℕ × List ℕ) (t : Bool) → (is_word cut.0 && is_word cut.1) ≡ t → both_pass is_word (cut_front cut) ≡ None →
    both_pass is_word cut ≡ None
not_both cut false f e = ap (λ b. cond b (Some cut) None) f
not_both cut true f e =
    let two = and_parts (is_word cut.0) (is_word cut.1) f in
    let both = and_from _ _ (word_letter cut.0 two.0) two.1 in
    absurd (none-some (cut_front cut) (sym e ∙ ap (λ b. cond b (Some (cut_front cut)) None) both))

no_parts : (o : Option (List ℕ × List ℕ)) → option_and_then (both_pass is_word) (option_map cut_front o) ≡ None →
    option_and_then (both_pass is_word) o ≡ None
no_parts None e = refl
no_parts (Some cut) e = not_both cut (is_word cut.0 && is_word cut.1) refl e

no_rest : (o : Option (List ℕ)) →
    option_and_then (both_pass is_word) (option_and_then (cut_at (codes "_mp_")) (option_map (λ t. letter ∷ t) o)) ≡ None →
    option_and_then (both_pass is_word) (option_and_then (cut_at (codes "_mp_")) o) ≡ None
no_rest None e = refl
no_rest (Some text) e = no_parts (cut_at (codes "_mp_") text) (sym (ap (option_and_then (both_pass is_word)) (cut_letter text)) ∙ e)

no_ifort : (text : List ℕ) → ifort_parts (letter ∷ text) ≡ None → ifort_parts text ≡ None
no_ifort text e =
    no_rest (before (codes "_") text)
    (sym (ap (λ o. option_and_then (both_pass is_word) (option_and_then (cut_at (codes "_mp_")) o)) (before_cons (codes "_") letter text (no_head 95 _ _ refl))) ∙ e)

first_none : {X : Type 0} (o : Option X) → option_or o None ≡ None → o ≡ None
first_none None e = refl
first_none (Some x) e = e

-- a name that begins with `M` says a module only as ifort does
pub no_module : (text : List ℕ) → ifort_parts (77 ∷ text) ≡ None → module_parts (77 ∷ text) ≡ None
no_module text e = ap (λ o. option_or o None) e

pub no_module_behind : (text : List ℕ) → module_parts (letter ∷ 77 ∷ text) ≡ None → module_parts (77 ∷ text) ≡ None
no_module_behind text e = no_module text (no_ifort (77 ∷ text) (first_none (ifort_parts (letter ∷ 77 ∷ text)) e))

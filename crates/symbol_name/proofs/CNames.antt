-- The names in C that are made of words in Fortran.
use Rattle.std.proofs.Common.{◌≡◌, ◌∙◌, inl, inr, ℕ, Bool, true, false, cond, eqb, List, [], ◌∷◌, ◌++◌, length, map, drop, get_or, refl, sym, ap, arith}
use Rattle.std.specs.Prelude.{Option, None, Some, not, option_map, is_some, unwrap_or, codes}
use Rattle.std.specs.Char.{is_ascii_uppercase, to_ascii_lowercase, to_ascii_uppercase}
use Rattle.std.specs.List.{list_all}
use Rattle.std.specs.Option.{option_and_then, option_or}
use Rattle.std.proofs.lemmas.Bool.{and_parts, and_from, and_left, and_right, eqb-false, false≢true}
use Rattle.std.proofs.lemmas.Bool.Decides.{nat_tests}
use Rattle.std.proofs.lemmas.List.{append-nil}
use Rattle.std.proofs.lemmas.List.Folds.{list_all-map}
use Rattle.std.proofs.lemmas.Option.{none-some, option_and_then_some, same_Some}
use Rattle.symbol_name.specs.Texts.{behind, before, is_word_byte}
use Rattle.symbol_name.specs.Mpi.{is_lower_word, is_upper_word, kept, before_f08, without_f08, without_underscores, mangled_word, tail_word, open_mpi_word, capital_word, plain_word, fortran_word, capitalized}
use Rattle.symbol_name.proofs.Ends.{let_through, passed, behind_is, before_is, before_append, before_cons}
use Rattle.symbol_name.proofs.Shorter.{either_some}
use Rattle.symbol_name.proofs.WordTexts.{AreWords, implied, f08_end, small_words, capital_words}

-- bytes in the other case
lower_byte : (b : ℕ) → is_word_byte b ≡ true → is_word_byte (to_ascii_lowercase b) ≡ true
lower_byte b h = grind (arith, nat_tests)

upper_byte : (b : ℕ) → is_word_byte b ≡ true → is_word_byte (to_ascii_uppercase b) ≡ true
upper_byte b h = grind (arith, nat_tests)

lower_low : (b : ℕ) → to_ascii_lowercase b ≡ 95 → b ≡ 95
lower_low b h = grind (arith, nat_tests)

upper_low : (b : ℕ) → to_ascii_uppercase b ≡ 95 → b ≡ 95
upper_low b h = grind (arith, nat_tests)

lower_not_upper : (b : ℕ) → is_ascii_uppercase (to_ascii_lowercase b) ≡ false
lower_not_upper b = grind (arith, nat_tests)

-- a word in other case is of letters, digits and `_` too
pub capitalized_words : (word : List ℕ) → AreWords word → AreWords (capitalized word)
capitalized_words [] w = refl
capitalized_words (b ∷ rest) w =
    let parts = and_parts (is_word_byte b) (list_all is_word_byte rest) w in
    and_from _ _ (upper_byte b parts.0)
    (list_all-map is_word_byte to_ascii_lowercase rest ∙ implied is_word_byte (λ y. is_word_byte (to_ascii_lowercase y)) lower_byte rest parts.1)

-- a text that doesn't end with `_`
abbrev pub NoLow : List ℕ → Type 0
NoLow text = before (codes "_") text ≡ None

longer : (b c : ℕ) (text : List ℕ) → b ∷ c ∷ text ≡ codes "_" → ⊥
longer b c text e = absurd (omega (arith, ap length e))

pub low_behind : (b : ℕ) (text : List ℕ) → (b ∷ text ≡ codes "_" → ⊥) → NoLow text → NoLow (b ∷ text)
low_behind b text other none = before_cons (codes "_") b text other ∙ ap (option_map (λ t. b ∷ t)) none

rest_none : (b : ℕ) (o : Option (List ℕ)) → option_map (λ t. b ∷ t) o ≡ None → o ≡ None
rest_none b None e = refl
rest_none b (Some left) e = absurd (none-some (b ∷ left) (sym e))

low_rest : (b c : ℕ) (text : List ℕ) → NoLow (b ∷ c ∷ text) → NoLow (c ∷ text)
low_rest b c text none = rest_none b (before (codes "_") (c ∷ text)) (sym (before_cons (codes "_") b (c ∷ text) (longer b c text)) ∙ none)

one_low : (b : ℕ) → NoLow (b ∷ []) → b ≡ 95 → ⊥
one_low b none e = none-some [] (sym none ∙ ap (λ c. before (codes "_") (c ∷ [])) e ∙ before_append (codes "_") [])

no_low : (b : ℕ) → (b ≡ 95 → ⊥) → NoLow (b ∷ [])
no_low b other = low_behind b [] (λ e. other (ap (λ t. get_or t 0 0) e)) refl

lower_no_low : (text : List ℕ) → NoLow text → NoLow (map to_ascii_lowercase text)
lower_no_low [] none = refl
lower_no_low (b ∷ []) none = no_low (to_ascii_lowercase b) (λ e. one_low b none (lower_low b e))
lower_no_low (b ∷ c ∷ text) none =
    low_behind (to_ascii_lowercase b) (map to_ascii_lowercase (c ∷ text)) (longer _ _ _) (lower_no_low (c ∷ text) (low_rest b c text none))

capitalized_no_low : (word : List ℕ) → NoLow word → NoLow (capitalized word)
capitalized_no_low [] none = refl
capitalized_no_low (b ∷ []) none = no_low (to_ascii_uppercase b) (λ e. one_low b none (upper_low b e))
capitalized_no_low (b ∷ c ∷ text) none =
    low_behind (to_ascii_uppercase b) (map to_ascii_lowercase (c ∷ text)) (longer _ _ _) (lower_no_low (c ∷ text) (low_rest b c text none))

-- the first byte is upper case, and the second is not
second_small : (word : List ℕ) → is_ascii_uppercase (get_or (capitalized word) 1 0) ≡ false
second_small [] = refl
second_small (b ∷ []) = refl
second_small (b ∷ c ∷ rest) = lower_not_upper c

-- a word that Fortran writes: it is some, of letters, digits and `_`, and doesn't end with `_`
pub record IsWritten (word : List ℕ) : Type 0 where
  pub some : word ≡ [] → ⊥
  pub words : AreWords word
  pub no_low_end : NoLow word

none_of : (o : Option (List ℕ)) → not (is_some o) ≡ true → o ≡ None
none_of None e = refl
none_of (Some left) e = absurd (false≢true e)

small_written : (word : List ℕ) → is_lower_word word ≡ true → IsWritten word
small_written word e = record {
  some = (λ none. false≢true (sym (ap is_lower_word none) ∙ e));
  words = small_words word e;
  no_low_end = none_of (before (codes "_") word) (and_parts _ _ e).1;
}

capital_written : (word : List ℕ) → is_upper_word word ≡ true → IsWritten word
capital_written word e = record {
  some = (λ none. false≢true (sym (ap is_upper_word none) ∙ e));
  words = capital_words word e;
  no_low_end = none_of (before (codes "_") word) (and_parts _ _ e).1;
}

-- what is kept passes
keeps : (passes : List ℕ → Bool) (text word : List ℕ) → kept passes text ≡ Some word → passes word ≡ true
keeps passes text word e = ap passes (sym (same_Some text word (let_through _ _ word e))) ∙ passed _ _ word e

mangled_written : (name word : List ℕ) → mangled_word name ≡ Some word → IsWritten word
mangled_written name word e =
    option_and_then_some (λ rest. kept is_lower_word (without_underscores rest)) (option_or (behind (codes "mpi_") name) (behind (codes "pmpi_") name)) word e
    (λ rest is k. small_written word (keeps is_lower_word (without_underscores rest) word k))

tail_written : (name word : List ℕ) → tail_word name ≡ Some word → IsWritten word
tail_written name word e =
    option_and_then_some (kept is_lower_word) (behind (codes "ompi_mpi_") name) word e (λ rest is k. small_written word (keeps is_lower_word rest word k))

open_mpi_written : (name word : List ℕ) → open_mpi_word name ≡ Some word → IsWritten word
open_mpi_written name word e =
    option_and_then_some (kept is_lower_word) (option_and_then (before (codes "_f")) (behind (codes "ompi_") name)) word e
    (λ rest is k. small_written word (keeps is_lower_word rest word k))

capital_word_written : (name word : List ℕ) → capital_word name ≡ Some word → IsWritten word
capital_word_written name word e =
    option_and_then_some (kept is_upper_word) (behind (codes "MPI_") name) word e (λ rest is k. capital_written word (keeps is_upper_word rest word k))

plain_written : (name word : List ℕ) → plain_word name ≡ Some word → IsWritten word
plain_written name word e =
    elim (either_some (mangled_word name) (option_or (tail_word name) (option_or (open_mpi_word name) (capital_word name))) word e) [
      | inl mangled ↦ mangled_written name word mangled
      | inr other ↦ elim (either_some (tail_word name) (option_or (open_mpi_word name) (capital_word name)) word other) [
        | inl tail ↦ tail_written name word tail
        | inr more ↦ elim (either_some (open_mpi_word name) (capital_word name) word more) [
          | inl open_mpi ↦ open_mpi_written name word open_mpi
          | inr capital ↦ capital_word_written name word capital
        ]
      ]
    ]

pub written : (name word : List ℕ) → fortran_word name ≡ Some word → IsWritten word
written name word e = plain_written (without_f08 name) word e

-- the name in C of such a word
module _ (word : List ℕ) (is : IsWritten word) where
  pub c_words : AreWords (codes "MPI_" ++ capitalized word)
  c_words = capitalized_words word is.words

  not_alone : (text : List ℕ) → (text ≡ [] → ⊥) → 95 ∷ text ≡ codes "_" → ⊥
  not_alone text some e = some (ap (drop 1) e)

  some_capitals : (word : List ℕ) → capitalized word ≡ [] → word ≡ []
  some_capitals [] e = refl
  some_capitals (b ∷ rest) e = absurd (omega (arith, ap length e))

  other : (b : ℕ) (text : List ℕ) → eqb b 95 ≡ false → b ∷ text ≡ codes "_" → ⊥
  other b text not_low e = eqb-false b 95 not_low (ap (λ t. get_or t 0 0) e)

  pub c_no_low : NoLow (codes "MPI_" ++ capitalized word)
  c_no_low =
      let c = capitalized word in
      low_behind 77 (80 ∷ 73 ∷ 95 ∷ c) (other 77 (80 ∷ 73 ∷ 95 ∷ c) refl)
      (low_behind 80 (73 ∷ 95 ∷ c) (other 80 (73 ∷ 95 ∷ c) refl)
      (low_behind 73 (95 ∷ c) (other 73 (95 ∷ c) refl)
      (low_behind 95 c (not_alone c (λ e. is.some (some_capitals word e))) (capitalized_no_low word is.no_low_end))))

-- no such name is one of Fortran's
module _ (word : List ℕ) where
  -- a part of the capitalized word, from its first byte on, isn't in upper case alone
  not_capital : (part end : List ℕ) → capitalized word ≡ part ++ end → is_upper_word part ≡ false
  not_capital [] end e = refl
  not_capital (b ∷ []) end e = and_left _ _ (and_left _ _ (and_right (is_ascii_uppercase b) false refl))
  not_capital (b ∷ c ∷ part) end e =
      and_left _ _ (and_left _ _ (and_right (is_ascii_uppercase b) (is_ascii_uppercase c)
      (sym (ap (λ t. is_ascii_uppercase (get_or t 1 0)) e) ∙ second_small word)))

  capital_none : (front end : List ℕ) (o : Option (List ℕ)) → behind (codes "MPI_") front ≡ o → codes "MPI_" ++ capitalized word ≡ front ++ end →
      option_and_then (kept is_upper_word) o ≡ None
  capital_none front end None e f = refl
  capital_none front end (Some part) e f =
      ap (λ t. cond t (Some part) None)
      (not_capital part end (ap (drop 4) f ∙ ap (λ t. drop 4 (t ++ end)) (behind_is (codes "MPI_") front part e)))

  plain_none : (front end : List ℕ) → codes "MPI_" ++ capitalized word ≡ front ++ end → plain_word front ≡ None
  plain_none [] end e = refl
  plain_none (b ∷ front) end e =
      let first : b ≡ 77 = sym (ap (λ t. get_or t 0 0) e) in
      ap (λ c. plain_word (c ∷ front)) first
      ∙ capital_none (77 ∷ front) end _ refl (e ∙ ap (λ c. c ∷ (front ++ end)) first)

  cut_none : (name : List ℕ) (o : Option (List ℕ)) → ((left : List ℕ) → o ≡ Some left → plain_word left ≡ None) → plain_word name ≡ None →
      plain_word (unwrap_or o name) ≡ None
  cut_none name None h whole = whole
  cut_none name (Some left) h whole = h left refl

  pub c_no_fortran : fortran_word (codes "MPI_" ++ capitalized word) ≡ None
  c_no_fortran =
      let name : List ℕ = codes "MPI_" ++ capitalized word in
      cut_none name (before_f08 name)
      (λ left e. let cut = f08_end name left e in plain_none left cut.end (before_is cut.end name left cut.ends))
      (plain_none name [] (sym (append-nil name)))

-- A letter in front of a name: marks at its end are those of the rest.
use Rattle.std.proofs.Common.{◌≡◌, ◌∙◌, ◌-◌, ◌+◌, ◌<◌, ◌≤◌, inl, inr, ℕ, zero, suc, Bool, true, false, cond, eqb, get_or, List, [], ◌∷◌, length, take, drop, reverse, refl, sym, ap, arith, eq-eqb}
use Rattle.std.specs.Prelude.{Option, None, Some, option_map, codes}
use Rattle.std.specs.List.{prefix_len, suffix_len}
use Rattle.std.specs.Option.{option_and_then, option_or}
use Rattle.std.proofs.lemmas.Bool.{eqb-false, ne_eqb, cases_lt}
use Rattle.std.proofs.lemmas.List.{length-reverse, reverse-append}
use Rattle.std.proofs.lemmas.List.Folds.{prefix_len-append}
use Rattle.std.proofs.lemmas.List.Sums.{suffix_len-le-length}
use Rattle.std.proofs.lemmas.Option.{none-some}
use Rattle.symbol_name.specs.Texts.{before, before_run, end_run, is_word_byte}
use Rattle.symbol_name.specs.Repeats.{settled}
use Rattle.symbol_name.specs.Copies.{is_number, is_copy_word, is_version_byte, is_version, without_number, without_copy_word, without_part, without_parts, without_bracket, without_version, unless_empty, without_mark}
use Rattle.symbol_name.proofs.Ends.{none_through, before_cons}
use Rattle.symbol_name.proofs.Repeating.{Shortens, settled_none, settled_some}
use Rattle.symbol_name.proofs.Shorter.{number_shortens, part_shortens}

-- a text with a byte in front, if there is one
abbrev pub with_front : ℕ → Option (List ℕ) → Option (List ℕ)
with_front b o = option_map (λ t. b ∷ t) o

run_of : (p : ℕ → Bool) (b : ℕ) (text : List ℕ) →
    suffix_len p (b ∷ text) ≡ cond (eqb (suffix_len p text) (length text)) (length text + cond (p b) (1 + 0) 0) (suffix_len p text)
run_of p b text =
    ap (prefix_len p) (reverse-append (b ∷ []) text) ∙ prefix_len-append p (reverse text) (b ∷ [])
    ∙ ap (λ n. cond (eqb (suffix_len p text) n) (n + cond (p b) (1 + 0) 0) (suffix_len p text)) (length-reverse text)

-- the run at the end ends before the byte in front, or takes it in
module _ (p : ℕ → Bool) (b : ℕ) (text : List ℕ) where
  part_len : suffix_len p text < length text → suc (length text) - suffix_len p (b ∷ text) ≡ suc (length text - suffix_len p text)
  part_len less =
      let other : suffix_len p text ≡ length text → ⊥ = λ e. absurd (omega (arith, e, less)) in
      let same : suffix_len p (b ∷ text) ≡ suffix_len p text =
      run_of p b text ∙ ap (λ t. cond t (length text + cond (p b) (1 + 0) 0) (suffix_len p text)) (ne_eqb _ _ other) in
      omega (arith, same, less)

  pub part_front : suffix_len p text < length text → before_run p (b ∷ text) ≡ b ∷ before_run p text
  part_front less = ap (λ n. take n (b ∷ text)) (part_len less)

  pub part_end : suffix_len p text < length text → end_run p (b ∷ text) ≡ end_run p text
  part_end less = ap (λ n. drop n (b ∷ text)) (part_len less)

  whole_len : p b ≡ true → length text ≤ suffix_len p text → suc (length text) - suffix_len p (b ∷ text) ≡ 0
  whole_len passes all =
      let same : suffix_len p text ≡ length text = omega (arith, suffix_len-le-length p text, all) in
      let longer : suffix_len p (b ∷ text) ≡ length text + (1 + 0) =
      run_of p b text
      ∙ ap (λ t. cond t (length text + cond (p b) (1 + 0) 0) (suffix_len p text)) (eq-eqb _ _ same)
      ∙ ap (λ t. length text + cond t (1 + 0) 0) passes in
      omega (arith, longer)

  pub whole_front : p b ≡ true → length text ≤ suffix_len p text → before_run p (b ∷ text) ≡ []
  whole_front passes all = ap (λ n. take n (b ∷ text)) (whole_len passes all)

  pub whole_rest : length text ≤ suffix_len p text → before_run p text ≡ []
  whole_rest all =
      let none : length text - suffix_len p text ≡ 0 = omega (arith, all) in ap (λ n. take n text) none

-- a test does the same before and behind
through : (b : ℕ) (t : Bool) (o : Option (List ℕ)) → cond t (with_front b o) None ≡ with_front b (cond t o None)
through b true o = refl
through b false o = refl

-- the letter that stands in front of `MPI_X` in `PMPI_X`
abbrev pub letter : ℕ
letter = 80

pub no_head : (e : ℕ) (text end : List ℕ) → eqb letter e ≡ false → letter ∷ text ≡ e ∷ end → ⊥
no_head e text end other same = eqb-false letter e other (ap (λ t. get_or t 0 0) same)

-- a text without the `.` and the word at its end, if the word passes
abbrev dotted : (List ℕ → Bool) → List ℕ → Option (List ℕ)
dotted q text = cond (q (end_run is_word_byte text)) (before (codes ".") (before_run is_word_byte text)) None

dotted_letter : (q : List ℕ → Bool) (text : List ℕ) → dotted q (letter ∷ text) ≡ with_front letter (dotted q text)
dotted_letter q text =
    elim (cases_lt (suffix_len is_word_byte text) (length text)) [
      | inl less ↦
          (λ i. cond (q (part_end is_word_byte letter text less i)) (before (codes ".") (part_front is_word_byte letter text less i)) None)
          ∙ ap (λ o. cond (q (end_run is_word_byte text)) o None) (before_cons (codes ".") letter (before_run is_word_byte text) (no_head 46 _ _ refl))
          ∙ through letter (q (end_run is_word_byte text)) (before (codes ".") (before_run is_word_byte text))
      | inr all ↦
          none_through (q (end_run is_word_byte (letter ∷ text))) _ (ap (before (codes ".")) (whole_front is_word_byte letter text refl all))
          ∙ sym (ap (with_front letter) (none_through (q (end_run is_word_byte text)) _ (ap (before (codes ".")) (whole_rest is_word_byte letter text all))))
    ]

-- steps that do the same behind a letter
module _ (step : List ℕ → Option (List ℕ)) (shortens : Shortens step)
    (local : (text : List ℕ) → step (letter ∷ text) ≡ with_front letter (step text)) where
  letter_step : (text : List ℕ) (o : Option (List ℕ)) → step text ≡ o →
      ((left : List ℕ) → length left < length text → settled step (letter ∷ left) ≡ letter ∷ settled step left) →
      settled step (letter ∷ text) ≡ letter ∷ settled step text
  letter_step text None e rest =
      settled_none step shortens (letter ∷ text) (local text ∙ ap (with_front letter) e)
      ∙ ap (λ t. letter ∷ t) (sym (settled_none step shortens text e))
  letter_step text (Some left) e rest =
      settled_some step shortens (letter ∷ text) (letter ∷ left) (local text ∙ ap (with_front letter) e)
      ∙ rest left (shortens.less text left e)
      ∙ ap (λ t. letter ∷ t) (sym (settled_some step shortens text left e))

  letter_within : (n : ℕ) (text : List ℕ) → length text ≤ n → settled step (letter ∷ text) ≡ letter ∷ settled step text
  letter_within zero text l = letter_step text (step text) refl (λ left less. absurd (omega (arith, l, less)))
  letter_within (suc n) text l = letter_step text (step text) refl (λ left less. letter_within n left (omega (arith, l, less)))

  pub settled_letter : (text : List ℕ) → settled step (letter ∷ text) ≡ letter ∷ settled step text
  settled_letter text = letter_within (length text) text (omega arith)

part_letter : (text : List ℕ) → without_part (letter ∷ text) ≡ with_front letter (without_part text)
part_letter text =
    ap without_copy_word (settled_letter without_number number_shortens (dotted_letter is_number) text)
    ∙ dotted_letter is_copy_word (settled without_number text)

mapped_letter : (o : Option (List ℕ)) → option_map (settled without_part) (with_front letter o) ≡ with_front letter (option_map (settled without_part) o)
mapped_letter None = refl
mapped_letter (Some left) = ap (λ t. Some t) (settled_letter without_part part_shortens part_letter left)

parts_letter : (text : List ℕ) → without_parts (letter ∷ text) ≡ with_front letter (without_parts text)
parts_letter text = ap (option_map (settled without_part)) (part_letter text) ∙ mapped_letter (without_part text)

clone_letter : (o : Option (List ℕ)) →
    option_and_then (before (codes " [clone ")) (with_front letter o) ≡ with_front letter (option_and_then (before (codes " [clone ")) o)
clone_letter None = refl
clone_letter (Some inner) = before_cons (codes " [clone ") letter inner (no_head 32 _ _ refl)

inner_letter : (o : Option (List ℕ)) →
    option_and_then (before (codes " [clone ")) (option_and_then without_parts (with_front letter o))
    ≡ with_front letter (option_and_then (before (codes " [clone ")) (option_and_then without_parts o))
inner_letter None = refl
inner_letter (Some text) = ap (option_and_then (before (codes " [clone "))) (parts_letter text) ∙ clone_letter (without_parts text)

bracket_letter : (text : List ℕ) → without_bracket (letter ∷ text) ≡ with_front letter (without_bracket text)
bracket_letter text =
    ap (λ o. option_and_then (before (codes " [clone ")) (option_and_then without_parts o)) (before_cons (codes "]") letter text (no_head 93 _ _ refl))
    ∙ inner_letter (before (codes "]") text)

either_letter : (o p : Option (List ℕ)) → option_or (with_front letter o) (with_front letter p) ≡ with_front letter (option_or o p)
either_letter None p = refl
either_letter (Some left) p = refl

-- a version, by what stands before it and its own text
abbrev version_of : List ℕ → List ℕ → Option (List ℕ)
version_of front version = option_or (before (codes "@@") front) (cond (is_version version) (before (codes "@") front) None)

version_behind : (front version : List ℕ) → version_of (letter ∷ front) version ≡ with_front letter (version_of front version)
version_behind front version =
    (λ i. option_or (before_cons (codes "@@") letter front (no_head 64 _ _ refl) i)
    (cond (is_version version) (before_cons (codes "@") letter front (no_head 64 _ _ refl) i) None))
    ∙ ap (option_or (with_front letter (before (codes "@@") front))) (through letter (is_version version) (before (codes "@") front))
    ∙ either_letter (before (codes "@@") front) (cond (is_version version) (before (codes "@") front) None)

no_version : (front version : List ℕ) → front ≡ [] → version_of front version ≡ None
no_version front version e = ap (λ f. version_of f version) e ∙ none_through (is_version version) None refl

version_letter : (text : List ℕ) → without_version (letter ∷ text) ≡ with_front letter (without_version text)
version_letter text =
    elim (cases_lt (suffix_len is_version_byte text) (length text)) [
      | inl less ↦
          (λ i. version_of (part_front is_version_byte letter text less i) (part_end is_version_byte letter text less i))
          ∙ version_behind (before_run is_version_byte text) (end_run is_version_byte text)
      | inr all ↦
          no_version _ (end_run is_version_byte (letter ∷ text)) (whole_front is_version_byte letter text refl all)
          ∙ sym (ap (with_front letter) (no_version _ (end_run is_version_byte text) (whole_rest is_version_byte letter text all)))
    ]

abbrev any_mark : List ℕ → Option (List ℕ)
any_mark text = option_or (without_bracket text) (option_or (without_part text) (without_version text))

any_letter : (text : List ℕ) → any_mark (letter ∷ text) ≡ with_front letter (any_mark text)
any_letter text =
    (λ i. option_or (bracket_letter text i) (option_or (part_letter text i) (version_letter text i)))
    ∙ ap (option_or (with_front letter (without_bracket text))) (either_letter (without_part text) (without_version text))
    ∙ either_letter (without_bracket text) (option_or (without_part text) (without_version text))

none_behind : (text : List ℕ) (o : Option (List ℕ)) → any_mark text ≡ o → without_mark (letter ∷ text) ≡ None → without_mark text ≡ None
none_behind text None e none = ap (option_and_then unless_empty) e
none_behind text (Some left) e none =
    absurd (none-some (letter ∷ left) (sym none ∙ ap (option_and_then unless_empty) (any_letter text ∙ ap (with_front letter) e)))

-- a text without a mark at its end has none behind the letter
pub no_mark_behind : (text : List ℕ) → without_mark (letter ∷ text) ≡ None → without_mark text ≡ None
no_mark_behind text none = none_behind text (any_mark text) refl none

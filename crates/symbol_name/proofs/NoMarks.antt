-- Texts of letters, digits, `_` and `:` have no mark at their end.
use Rattle.std.proofs.Common.{◌≡◌, ◌∙◌, ◌-◌, ℕ, Bool, true, false, cond, List, [], ◌∷◌, length, take, drop, refl, sym, ap, arith}
use Rattle.std.specs.Prelude.{Option, None, Some, ◌||◌, not, nat_eq, codes}
use Rattle.std.specs.List.{list_all, suffix_len}
use Rattle.std.specs.Option.{option_and_then, option_or}
use Rattle.std.proofs.lemmas.Bool.{and_parts, eqb-true, true≢false, false≢true}
use Rattle.std.proofs.lemmas.List.{take-append-drop}
use Rattle.std.proofs.lemmas.List.Folds.{list_all-append}
use Rattle.std.proofs.lemmas.List.Sums.{AllPass-from_list_all, suffix_len_is}
use Rattle.symbol_name.specs.Texts.{before, before_run, end_run, is_word_byte}
use Rattle.symbol_name.specs.Copies.{is_version_byte, is_version, without_number, without_copy_word, without_part, without_parts, without_bracket, without_version, unless_empty, without_mark}
use Rattle.symbol_name.proofs.Ends.{none_through, before_is}
use Rattle.symbol_name.proofs.Repeating.{settled_none}
use Rattle.symbol_name.proofs.Shorter.{number_shortens}
use Rattle.symbol_name.proofs.WordTexts.{implied}

-- letters, digits, `_` and `:`
abbrev pub is_name_byte : ℕ → Bool
is_name_byte b = is_word_byte b || nat_eq b 58

-- no end of a byte that doesn't pass
pub ends_not : (p : ℕ → Bool) (text : List ℕ) (b : ℕ) → list_all p text ≡ true → p b ≡ false → (o : Option (List ℕ)) →
    before (b ∷ []) text ≡ o → o ≡ None
ends_not p text b all fails None e = refl
ends_not p text b all fails (Some left) e =
    let both = sym (list_all-append p left (b ∷ [])) ∙ ap (list_all p) (sym (before_is (b ∷ []) text left e)) ∙ all in
    absurd (true≢false (sym (and_parts (p b) true (and_parts _ _ both).1).0 ∙ fails))

pub all_front : (p : ℕ → Bool) (n : ℕ) (text : List ℕ) → list_all p text ≡ true → list_all p (take n text) ≡ true
all_front p n text all =
    (and_parts _ _ (sym (list_all-append p (take n text) (drop n text)) ∙ ap (list_all p) (take-append-drop n text) ∙ all)).0

-- where all bytes pass, nothing stands before the run at the end
no_front : (p : ℕ → Bool) (text : List ℕ) → list_all p text ≡ true → before_run p text ≡ []
no_front p text all =
    let len : suffix_len p text ≡ length text - 0 =
    suffix_len_is p text 0 0 (omega arith) (λ k from below. AllPass-from_list_all p text all k 0 below) (λ some. absurd (omega (arith, some))) in
    let none : length text - suffix_len p text ≡ 0 = omega (arith, len) in
    ap (λ n. take n text) none

version_byte : (b : ℕ) (x y : Bool) → nat_eq b 32 ≡ x → nat_eq b 64 ≡ y → is_name_byte b ≡ true → not (x || y) ≡ true
version_byte b true y e f h = absurd (false≢true (sym (ap is_name_byte (eqb-true b 32 e)) ∙ h))
version_byte b false true e f h = absurd (false≢true (sym (ap is_name_byte (eqb-true b 64 f)) ∙ h))
version_byte b false false e f h = refl

pub no_marks : (text : List ℕ) → list_all is_name_byte text ≡ true → without_mark text ≡ None
no_marks text all =
    let open_end : before (codes "]") text ≡ None = ends_not is_name_byte text 93 all refl _ refl in
    let bracket : without_bracket text ≡ None =
    ap (λ o. option_and_then (before (codes " [clone ")) (option_and_then without_parts o)) open_end in
    let no_dot : before (codes ".") (before_run is_word_byte text) ≡ None =
    ends_not is_name_byte (before_run is_word_byte text) 46 (all_front is_name_byte (length text - suffix_len is_word_byte text) text all) refl _ refl in
    let number : without_number text ≡ None = none_through _ _ no_dot in
    let part : without_part text ≡ None =
    ap without_copy_word (settled_none without_number number_shortens text number) ∙ none_through _ _ no_dot in
    let front : before_run is_version_byte text ≡ [] =
    no_front is_version_byte text (implied is_name_byte is_version_byte (λ b h. version_byte b _ _ refl refl h) text all) in
    let version : without_version text ≡ None =
    ap (λ f. option_or (before (codes "@@") f) (cond (is_version (end_run is_version_byte text)) (before (codes "@") f) None)) front
    ∙ none_through (is_version (end_run is_version_byte text)) None refl in
    ap (λ o. option_and_then unless_empty (option_or o (option_or (without_part text) (without_version text)))) bracket
    ∙ ap (λ o. option_and_then unless_empty (option_or o (without_version text))) part
    ∙ ap (option_and_then unless_empty) version

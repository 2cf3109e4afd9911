-- Steps that shorten a text.
use Rattle.std.proofs.Common.{◌≡◌, ◌<◌, ◌≤◌, ◌-◌, ◌⊎◌, inl, inr, ℕ, Bool, List, [], ◌∷◌, length, refl, ap, arith, lit<, subst, length-take}
use Rattle.std.specs.Prelude.{Option, None, Some, option_map, codes}
use Rattle.std.specs.Option.{option_or}
use Rattle.std.specs.List.{suffix_len}
use Rattle.std.proofs.lemmas.Option.{same_Some, none-some, option_and_then_some}
use Rattle.symbol_name.specs.Texts.{before, before_run, is_word_byte}
use Rattle.symbol_name.specs.Repeats.{settled}
use Rattle.symbol_name.specs.Copies.{without_number, without_copy_word, without_part, without_parts, without_bracket, is_version_byte, unless_empty, without_version, without_mark}
use Rattle.symbol_name.proofs.Ends.{let_through, before_length}
use Rattle.symbol_name.proofs.Repeating.{Shortens, settled_not_longer}

-- one of two
pub either_some : {X : Type 0} (a b : Option X) (x : X) → option_or a b ≡ Some x → (a ≡ Some x) ⊎ (b ≡ Some x)
either_some None b x e = inr e
either_some (Some y) b x e = inl e

pub mapped_some : {X : Type 0} (f : X → X) (o : Option X) (x : X) → option_map f o ≡ Some x → (y : X) × (o ≡ Some y) × (f y ≡ x)
mapped_some f None x e = absurd (none-some x e)
mapped_some f (Some y) x e = (y, refl, same_Some (f y) x e)

run_length : (passes : ℕ → Bool) (text : List ℕ) → length (before_run passes text) ≤ length text
run_length passes text = omega (arith, length-take (length text - suffix_len passes text) text)

run_less : (passes : ℕ → Bool) (end text left : List ℕ) → before end (before_run passes text) ≡ Some left → 0 < length end →
    length left < length text
run_less passes end text left e some =
    omega (arith, before_length end (before_run passes text) left e, run_length passes text)

number_less : (text left : List ℕ) → without_number text ≡ Some left → length left < length text
number_less text left e = run_less is_word_byte (codes ".") text left (let_through _ _ left e) (lit< tt)

pub number_shortens : Shortens without_number
number_shortens = record { less = number_less }

word_less : (text left : List ℕ) → without_copy_word text ≡ Some left → length left < length text
word_less text left e = run_less is_word_byte (codes ".") text left (let_through _ _ left e) (lit< tt)

part_less : (text left : List ℕ) → without_part text ≡ Some left → length left < length text
part_less text left e =
    omega (arith, word_less (settled without_number text) left e, settled_not_longer without_number number_shortens text)

pub part_shortens : Shortens without_part
part_shortens = record { less = part_less }

parts_less : (text left : List ℕ) → without_parts text ≡ Some left → length left < length text
parts_less text left e =
    let m = mapped_some (settled without_part) (without_part text) left e in
    omega (arith, part_less text m.0 m.1, settled_not_longer without_part part_shortens m.0, ap length m.2)

bracket_less_of : (text parts inner left : List ℕ) → before (codes "]") text ≡ Some parts → without_parts parts ≡ Some inner →
    before (codes " [clone ") inner ≡ Some left → length left < length text
bracket_less_of text parts inner left ends less last =
    omega (arith, before_length (codes " [clone ") inner left last, parts_less parts inner less, before_length (codes "]") text parts ends)

bracket_less : (text left : List ℕ) → without_bracket text ≡ Some left → length left < length text
bracket_less text left e =
    option_and_then_some (before (codes " [clone ")) _ left e (λ inner is last.
    option_and_then_some without_parts _ inner is (λ parts ends less.
    bracket_less_of text parts inner left ends less last))

version_less : (text left : List ℕ) → without_version text ≡ Some left → length left < length text
version_less text left e =
    elim (either_some _ _ left e) [
      | inl two ↦ run_less is_version_byte (codes "@@") text left two (lit< tt)
      | inr one ↦ run_less is_version_byte (codes "@") text left (let_through _ _ left one) (lit< tt)
    ]

any_less : (text left : List ℕ) → option_or (without_bracket text) (option_or (without_part text) (without_version text)) ≡ Some left →
    length left < length text
any_less text left e =
    elim (either_some _ _ left e) [
      | inl bracket ↦ bracket_less text left bracket
      | inr other ↦ elim (either_some _ _ left other) [
        | inl part ↦ part_less text left part
        | inr version ↦ version_less text left version
      ]
    ]

not_empty : (name left : List ℕ) → unless_empty name ≡ Some left → name ≡ left
not_empty [] left e = absurd (none-some left e)
not_empty (b ∷ name) left e = same_Some (b ∷ name) left e

mark_less : (text left : List ℕ) → without_mark text ≡ Some left → length left < length text
mark_less text left e =
    option_and_then_some unless_empty _ left e (λ name is stays. subst (λ t. length t < length text) (not_empty name left stays) (any_less text name is))

pub mark_shortens : Shortens without_mark
mark_shortens = record { less = mark_less }

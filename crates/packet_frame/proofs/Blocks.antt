-- A list that is tested block by block, and its last block first.
use Rattle.std.proofs.Common.{◌≡◌, ℕ, ◌+◌, ◌-◌, ◌≤◌, ◌<◌, Bool, true, false, ◌&&◌, List, length, take, drop, refl, sym, ap, ◌∙◌, arith}
use Rattle.std.specs.List.{list_all}
use Rattle.std.proofs.lemmas.List.{drop-drop, length-drop, take-append-drop}
use Rattle.std.proofs.lemmas.List.Folds.{list_all-append}

-- the last block was tested, and all that stands before the rest
pub record IsTested (p : ℕ → Bool) (width : ℕ) (all rest : List ℕ) (so_far : Bool) : Type 0 where
  pub front : (so_far && list_all p rest) ≡ list_all p all
  pub last : (so_far && list_all p (drop (length all - width) all)) ≡ so_far
  pub left : rest ≡ drop (length all - length rest) all
  pub within : length rest ≤ length all

by_parts : (p : ℕ → Bool) (n : ℕ) (xs : List ℕ) → list_all p xs ≡ (list_all p (take n xs) && list_all p (drop n xs))
by_parts p n xs = ap (list_all p) (sym (take-append-drop n xs)) ∙ list_all-append p (take n xs) (drop n xs)

also : (a b : Bool) → (b && (a && b)) ≡ (a && b)
also true true = refl
also true false = refl
also false true = refl
also false false = refl

end_of_all : (p : ℕ → Bool) (n : ℕ) (xs : List ℕ) → (list_all p (drop n xs) && list_all p xs) ≡ list_all p xs
end_of_all p n xs = ap (λ (b : Bool). list_all p (drop n xs) && b) (by_parts p n xs) ∙ also (list_all p (take n xs)) (list_all p (drop n xs)) ∙ sym (by_parts p n xs)

twice : (a : Bool) → (a && a) ≡ a
twice true = refl
twice false = refl

pub tested_last : (p : ℕ → Bool) (width : ℕ) (all : List ℕ) → IsTested p width all all (list_all p (drop (length all - width) all))
tested_last p width all = let none : 0 ≡ length all - length all = omega arith in record {
  front = end_of_all p (length all - width) all;
  last = twice (list_all p (drop (length all - width) all));
  left = ap (λ (n : ℕ). drop n all) none;
  within = omega arith;
}

grouped : (a b c : Bool) → ((a && b) && c) ≡ (a && (b && c))
grouped true b c = refl
grouped false b c = refl

kept : (a b c : Bool) → (a && c) ≡ a → ((a && b) && c) ≡ (a && b)
kept true true c e = e
kept true false c e = refl
kept false b c e = refl

tested_more : (p : ℕ → Bool) (width : ℕ) (all rest : List ℕ) (so_far : Bool) → IsTested p width all rest so_far → width ≤ length rest → IsTested p width all (drop width rest) (so_far && list_all p (take width rest))
tested_more p width all rest so_far tested enough =
    let len : length (drop width rest) ≡ length rest - width = length-drop width rest in
    let at : (length all - length rest) + width ≡ length all - length (drop width rest) = omega (arith, len, enough, tested.within) in
    record {
      front = grouped so_far (list_all p (take width rest)) (list_all p (drop width rest)) ∙ ap (λ (b : Bool). so_far && b) (sym (by_parts p width rest)) ∙ tested.front;
      last = kept so_far (list_all p (take width rest)) (list_all p (drop (length all - width) all)) tested.last;
      left = ap (drop width) tested.left ∙ drop-drop width (length all - length rest) all ∙ ap (λ (n : ℕ). drop n all) at;
      within = omega (arith, len, tested.within);
    }

in_last : (so_far rest last : Bool) → (so_far && last) ≡ so_far → (rest && last) ≡ last → (so_far && rest) ≡ so_far
in_last false rest last e f = refl
in_last true true last e f = refl
in_last true false last e f = f ∙ e

pub tested_all : (p : ℕ → Bool) (width : ℕ) (all rest : List ℕ) (so_far : Bool) → IsTested p width all rest so_far → length rest < width → width ≤ length all → so_far ≡ list_all p all
tested_all p width all rest so_far tested few enough =
    let at : length all - length rest ≡ (length all - width) + (width - length rest) = omega (arith, few, enough) in
    let is : rest ≡ drop (width - length rest) (drop (length all - width) all) = tested.left ∙ ap (λ (n : ℕ). drop n all) at ∙ sym (drop-drop (width - length rest) (length all - width) all) in
    let within_last : (list_all p rest && list_all p (drop (length all - width) all)) ≡ list_all p (drop (length all - width) all) = ap (λ (xs : List ℕ). list_all p xs && list_all p (drop (length all - width) all)) is ∙ end_of_all p (width - length rest) (drop (length all - width) all) in
    sym (in_last so_far (list_all p rest) (list_all p (drop (length all - width) all)) tested.last within_last) ∙ tested.front

-- a block more, where all before is fine
pub tested_next : (p : ℕ → Bool) (width : ℕ) (all rest : List ℕ) (so_far : Bool) → IsTested p width all rest so_far → so_far ≡ true → width ≤ length rest → IsTested p width all (drop width rest) (list_all p (take width rest))
tested_next p width all rest true tested e enough = tested_more p width all rest true tested enough
tested_next p width all rest false tested e enough = absurd cc

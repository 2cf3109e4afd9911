-- Words of which a part was written anew.
use Rattle.std.proofs.Common.{◌≡◌, ℕ, ◌+◌, ◌-◌, ◌<◌, ◌≤◌, List, ◌++◌, length, get_or, take, drop, ap, ◌∙◌, arith}
use Rattle.std.proofs.lemmas.List.{get_or_append_left, get_or-append_right, get_or-take, get_or-drop, length-take-le, length-drop}

-- the words of the part, by their places among all
pub part_word : (a k : ℕ) (xs : List ℕ) (j : ℕ) → a ≤ j → j < a + k → get_or (take k (drop a xs)) (j - a) 0 ≡ get_or xs j 0
part_word a k xs j le lt =
    get_or-take k (drop a xs) (j - a) 0 (omega arith) ∙ get_or-drop a xs (j - a) 0 ∙ (let e : a + (j - a) ≡ j = omega arith in ap (λ n. get_or xs n 0) e)

pub part_len : (a k : ℕ) (xs : List ℕ) → a + k ≤ length xs → length (take k (drop a xs)) ≡ k
part_len a k xs inside = length-take-le k (drop a xs) (omega (arith, inside, length-drop a xs))

module _ (a k : ℕ) (xs ys : List ℕ) (inside : a + k ≤ length xs) (long : length ys ≡ k) where
  -- all words, with ys in the place of the k words from place a on
  abbrev pub written : List ℕ
  written = take a xs ++ (ys ++ drop k (drop a xs))

  start : length (take a xs) ≡ a
  start = length-take-le a xs (omega (arith, inside))

  pub before_part : (j : ℕ) → j < a → get_or written j 0 ≡ get_or xs j 0
  before_part j lt = get_or_append_left (take a xs) (ys ++ drop k (drop a xs)) 0 j (omega (arith, lt, start)) ∙ get_or-take a xs j 0 lt

  pub within_part : (j : ℕ) → a ≤ j → j < a + k → get_or written j 0 ≡ get_or ys (j - a) 0
  within_part j le lt = get_or-append_right (take a xs) (ys ++ drop k (drop a xs)) a j 0 start le ∙ get_or_append_left ys (drop k (drop a xs)) 0 (j - a) (omega (arith, le, lt, long))

  pub behind_part : (j : ℕ) → a + k ≤ j → get_or written j 0 ≡ get_or xs j 0
  behind_part j le =
      let e : a + (k + (j - a - k)) ≡ j = omega (arith, le) in
      get_or-append_right (take a xs) (ys ++ drop k (drop a xs)) a j 0 start (omega (arith, le)) ∙ get_or-append_right ys (drop k (drop a xs)) k (j - a) 0 long (omega (arith, le))
      ∙ get_or-drop k (drop a xs) (j - a - k) 0 ∙ get_or-drop a xs (k + (j - a - k)) 0 ∙ ap (λ n. get_or xs n 0) e

-- Counts by place, and the place of the i-th of all that is counted.
use Rattle.std.specs.Prelude.{◌≡◌, ◌<◌, ℕ, suc, ◌-◌, Bool, false, cond, nat_lt, List, [], ◌∷◌, length, map, slice_get, Option, None, Some}
use Rattle.std.specs.Option.{option_map}

-- where thing i is when the things are ordered by place: its place, and its number among the things of that place
abbrev pub place_of : List ℕ → ℕ → Option (ℕ × ℕ)
place_of [] i = None
place_of (c ∷ cs) i = cond (nat_lt i c) (Some (0, i)) (option_map (λ x. (suc x.0, x.1)) (place_of cs (i - c)))

-- the counts where each x has a list of things
abbrev pub lengths : {X Y : Type 0} → (X → List Y) → List X → List ℕ
lengths f xs = map (λ x. length (f x)) xs

-- each place has a count, which is how many things are listed there, but for the places whose count is stale
pub record AreCountsBut {Y : Type 0} (is_stale : ℕ → Bool) (listed : ℕ → List Y) (places : ℕ) (counts : List ℕ) : Type 0 where
  pub place_count : length counts ≡ places
  pub things : (n : ℕ) → n < places → is_stale n ≡ false → slice_get counts n ≡ Some (length (listed n))

-- Roots and reach, one node at a time.
use Rattle.std.proofs.Common.{◌≡◌, ℕ, zero, suc, ◌+◌, ◌-◌, ◌<◌, ◌≤◌, true, false, is_some, List, [], ◌∷◌, length, drop, Option, None, Some, refl, sym, ap, ◌∙◌, arith}
use Rattle.overlay_setup.specs.Trees.{parent_of}
use Rattle.topology_text.specs.Whole.{first_beyond, is_within, roots_from}

root_at : (ps : List (Option ℕ)) (n m : ℕ) → n < length ps → parent_of ps n ≡ None → roots_from m (drop n ps) ≡ m ∷ roots_from (suc m) (drop (suc n) ps)
root_at [] n m lt e = absurd (omega arith)
root_at (None ∷ ps) zero m lt e = refl
root_at (Some p ∷ ps) zero m lt e = cc
root_at (None ∷ ps) (suc n) m lt e = root_at ps n m (omega arith) e
root_at (Some p ∷ ps) (suc n) m lt e = root_at ps n m (omega arith) e

other_at : (ps : List (Option ℕ)) (n m p : ℕ) → n < length ps → parent_of ps n ≡ Some p → roots_from m (drop n ps) ≡ roots_from (suc m) (drop (suc n) ps)
other_at [] n m p lt e = absurd (omega arith)
other_at (None ∷ ps) zero m p lt e = cc
other_at (Some q ∷ ps) zero m p lt e = refl
other_at (None ∷ ps) (suc n) m p lt e = other_at ps n m p (omega arith) e
other_at (Some q ∷ ps) (suc n) m p lt e = other_at ps n m p (omega arith) e

-- a node without a parent is the next root
pub root_here : (ps : List (Option ℕ)) (n : ℕ) → n < length ps → is_some (parent_of ps n) ≡ false → roots_from n (drop n ps) ≡ n ∷ roots_from (n + 1) (drop (n + 1) ps)
root_here ps n lt e = root_at ps n n lt (none (parent_of ps n) e) ∙ (let s : suc n ≡ n + 1 = omega arith in ap (λ k. n ∷ roots_from k (drop k ps)) s)
  where
    none : (o : Option ℕ) → is_some o ≡ false → o ≡ None
    none None h = refl
    none (Some x) h = cc

-- a node with a parent is none
pub other_here : (ps : List (Option ℕ)) (n : ℕ) → n < length ps → is_some (parent_of ps n) ≡ true → roots_from (n + 1) (drop (n + 1) ps) ≡ roots_from n (drop n ps)
other_here ps n lt e = by (parent_of ps n) refl e
  where
    by : (o : Option ℕ) → parent_of ps n ≡ o → is_some o ≡ true → roots_from (n + 1) (drop (n + 1) ps) ≡ roots_from n (drop n ps)
    by None is h = cc
    by (Some p) is h = (let s : n + 1 ≡ suc n = omega arith in ap (λ k. roots_from k (drop k ps)) s) ∙ sym (other_at ps n n p lt is)

-- no root comes after the last node
pub past_roots : (ps : List (Option ℕ)) (n m : ℕ) → length ps ≤ n → roots_from m (drop n ps) ≡ []
past_roots [] zero m le = refl
past_roots [] (suc n) m le = refl
past_roots (p ∷ ps) zero m le = absurd (omega arith)
past_roots (p ∷ ps) (suc n) m le = past_roots ps n m (omega arith)

module _ (ps : List (Option ℕ)) (links n : ℕ) where
  -- a node that is not within the links is the first beyond
  pub beyond_here : n < length ps → is_within ps links n ≡ false → first_beyond ps links n (length ps - n) ≡ Some n
  unfolding first_beyond
  beyond_here lt e = (let s : length ps - n ≡ suc (length ps - n - 1) = omega arith in ap (first_beyond ps links n) s) ∙ rw (e, first_beyond) refl

  -- one that is within them is passed
  pub within_here : n < length ps → is_within ps links n ≡ true → first_beyond ps links (n + 1) (length ps - (n + 1)) ≡ first_beyond ps links n (length ps - n)
  unfolding first_beyond
  within_here lt e =
      (let s : n + 1 ≡ suc n = omega arith in ap (λ k. first_beyond ps links k (length ps - (n + 1))) s)
      ∙ sym ((let s : length ps - n ≡ suc (length ps - (n + 1)) = omega arith in ap (first_beyond ps links n) s) ∙ rw (e, first_beyond) refl)

  -- no node comes after the last
  pub none_beyond : length ps ≤ n → first_beyond ps links n (length ps - n) ≡ None
  unfolding first_beyond
  none_beyond le = let s : length ps - n ≡ 0 = omega arith in ap (first_beyond ps links n) s

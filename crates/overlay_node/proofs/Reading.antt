-- What a book finds of a node's waves.
use Rattle.std.proofs.Common.{◌≡◌, ℕ, Bool, true, false, cond, ◌&&◌, ◌==◌, List, [], ◌∷◌, filter, find, option_map, Some, refl, sym, ap, ◌∙◌, eqb-true}
use Rattle.std.proofs.lemmas.Bool.{and_parts}
use Rattle.stat_plan.specs.Plans.{Plan, serves, waves_at, waves_of}
use Rattle.stat_plan.specs.Machine.Waves.{Book, is_empty_open}
use Rattle.wave_resend.specs.Books.{next_empty}

-- what passes a test is found among those that pass a weaker one
find-filter : {X : Type 0} (f q : X → Bool) (xs : List X) → ((x : X) → f x ≡ true → q x ≡ true) → find f (filter q xs) ≡ find f xs
find-filter f q [] h = refl
find-filter {X} f q (x ∷ xs) h = go (f x) (q x) refl refl (find-filter f q xs h)
  where
    go : (a b : Bool) → f x ≡ a → q x ≡ b → find f (filter q xs) ≡ find f xs → find f (cond b (x ∷ filter q xs) (filter q xs)) ≡ cond a (Some x) (find f xs)
    go true true e k ih = ap (λ c. cond c (Some x) (find f (filter q xs))) e
    go false true e k ih = ap (λ c. cond c (Some x) (find f (filter q xs))) e ∙ ih
    go true false e k ih = absurd (differ (sym k ∙ h x e))
      where
        differ : false ≡ true → ⊥
        differ z = cc
    go false false e k ih = ih

-- the next sample of a node by its book is the first of its waves that is open and empty
pub next_is : (p : Plan) (n s : ℕ) (keys : List (ℕ × ℕ)) (book : Book) → keys ≡ waves_at p n → serves p n s ≡ true
    → next_empty s keys book ≡ option_map (λ (v : ℕ × ℕ). v.1) (find (λ v. (v.0 == s) && is_empty_open (book v.0 v.1)) (waves_of p.streams))
unfolding waves_at
next_is p n s keys book k there =
    ap (λ (vs : List (ℕ × ℕ)). next_empty s vs book) k
    ∙ ap (option_map (λ (v : ℕ × ℕ). v.1)) (find-filter (λ v. (v.0 == s) && is_empty_open (book v.0 v.1)) (λ v. serves p n v.0) (waves_of p.streams) (λ v t. ap (serves p n) (eqb-true v.0 s (and_parts (v.0 == s) (is_empty_open (book v.0 v.1)) t).0) ∙ there))

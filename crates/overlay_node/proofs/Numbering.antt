-- Releases that come one after another, and their numbers.
use Rattle.std.proofs.Common.{◌≡◌, ℕ, suc, Bool, true, false, cond, ◌&&◌, ◌==◌, List, [], ◌∷◌, ◌++◌, length, refl, sym, ap, ◌∙◌, append_assoc}
use Rattle.std.proofs.lemmas.List.{append-nil, map-append}
use Rattle.overlay_core.specs.Nodes.{Release}
use Rattle.overlay_core.specs.History.{of_wave}
use Rattle.overlay_core.specs.Releases.{next_release}
use Rattle.overlay_core.specs.TreeReleases.{AreNumberedInOrder, TreeRelease, bare_release, bare_releases, numbers_after}

-- how many releases a wave has, with one more
pub count_more : (s w : ℕ) (rs : List Release) (r : Release) → length (of_wave s w (rs ++ r ∷ [])) ≡ cond ((r.stream == s) && (r.wave == w)) (suc (length (of_wave s w rs))) (length (of_wave s w rs))
count_more s w [] r = by ((r.stream == s) && (r.wave == w))
  where
    by : (b : Bool) → length (cond b (r ∷ []) []) ≡ cond b 1 0
    by true = refl
    by false = refl
count_more s w (x ∷ xs) r = by ((x.stream == s) && (x.wave == w)) ((r.stream == s) && (r.wave == w)) (count_more s w xs r)
  where
    by : (a b : Bool) → length (of_wave s w (xs ++ r ∷ [])) ≡ cond b (suc (length (of_wave s w xs))) (length (of_wave s w xs))
        → length (cond a (x ∷ of_wave s w (xs ++ r ∷ [])) (of_wave s w (xs ++ r ∷ []))) ≡ cond b (suc (length (cond a (x ∷ of_wave s w xs) (of_wave s w xs)))) (length (cond a (x ∷ of_wave s w xs) (of_wave s w xs)))
    by true true ih = ap suc ih
    by true false ih = ap suc ih
    by false true ih = ih
    by false false ih = ih

-- the numbers of releases, with one more
pub numbers_more : (earlier rs : List Release) (r : Release) → numbers_after earlier (rs ++ r ∷ []) ≡ numbers_after earlier rs ++ next_release r.stream r.wave (earlier ++ rs) ∷ []
numbers_more earlier [] r = ap (λ l. next_release r.stream r.wave l ∷ []) (sym (append-nil earlier))
numbers_more earlier (x ∷ xs) r =
    ap (λ l. next_release x.stream x.wave earlier ∷ l) (numbers_more (earlier ++ x ∷ []) xs r ∙ ap (λ l. numbers_after (earlier ++ x ∷ []) xs ++ next_release r.stream r.wave l ∷ []) (append_assoc earlier (x ∷ []) xs))

-- a release more has its number
pub numbered_more : (earlier : List Release) (rs : List TreeRelease) (r : TreeRelease) → AreNumberedInOrder earlier rs → r.number ≡ next_release r.stream r.wave (earlier ++ bare_releases rs) → AreNumberedInOrder earlier (rs ++ r ∷ [])
numbered_more earlier rs r h e =
    map-append (λ (x : TreeRelease). x.number) rs (r ∷ [])
    ∙ (λ i. h i ++ e i ∷ [])
    ∙ sym (numbers_more earlier (bare_releases rs) (bare_release r))
    ∙ ap (numbers_after earlier) (sym (map-append bare_release rs (r ∷ [])))

-- releases with one more, after earlier ones
pub after_more : (earlier : List Release) (rs : List TreeRelease) (r : TreeRelease) → earlier ++ bare_releases (rs ++ r ∷ []) ≡ (earlier ++ bare_releases rs) ++ bare_release r ∷ []
after_more earlier rs r = ap (λ l. earlier ++ l) (map-append bare_release rs (r ∷ [])) ∙ sym (append_assoc earlier (bare_releases rs) (bare_release r ∷ []))

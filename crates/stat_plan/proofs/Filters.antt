-- What tests keep of a list.
use Rattle.std.proofs.Common.{◌≡◌, inl, inr, ℕ, Bool, true, false, cond, List, [], ◌∷◌, map, filter, refl, ap, ◌∙◌, ◌<◌}
use Rattle.overlay_setup.specs.NodeSets.{In, IsStrictlyIncreasing, up_to}
use Rattle.stat_plan.proofs.InLists.{in_filter, in_from_filter, up_to_below, up_to_in}
use Rattle.stat_plan.proofs.Ascending.{filter_increases, same_increasing, up_to_increases}

-- tests that agree keep the same
pub filter_same : {X : Type 0} (f g : X → Bool) (xs : List X) → ((x : X) → In x xs → f x ≡ g x) → filter f xs ≡ filter g xs
filter_same f g [] h = refl
filter_same {X} f g (x ∷ xs) h = ap (λ (b : Bool). cond b (x ∷ filter f xs) (filter f xs)) (h x (inl refl)) ∙ ap (λ (ys : List X). cond (g x) (x ∷ ys) ys) (filter_same f g xs (λ y i. h y (inr i)))

-- a filter by a test that no element passes is empty
pub filter_none : {X : Type 0} (f : X → Bool) (xs : List X) → ((x : X) → In x xs → f x ≡ false) → filter f xs ≡ []
filter_none f [] h = refl
filter_none {X} f (x ∷ xs) h = ap (λ (b : Bool). cond b (x ∷ filter f xs) (filter f xs)) (h x (inl refl)) ∙ filter_none f xs (λ y i. h y (inr i))

-- a test of a function's results
pub filter_mapped : {X Y : Type 0} (test : Y → Bool) (f : X → Y) (xs : List X) → filter test (map f xs) ≡ map f (filter (λ x. test (f x)) xs)
filter_mapped test f [] = refl
filter_mapped {X} {Y} test f (x ∷ xs) = ap (λ (ys : List Y). cond (test (f x)) (f x ∷ ys) ys) (filter_mapped test f xs) ∙ go (test (f x))
  where
    go : (b : Bool) → cond b (f x ∷ map f (filter (λ z. test (f z)) xs)) (map f (filter (λ z. test (f z)) xs)) ≡ map f (cond b (x ∷ filter (λ z. test (f z)) xs) (filter (λ z. test (f z)) xs))
    go true = refl
    go false = refl

-- the numbers below n that pass a test, if they are those of an ascending list
pub filter_up_to : (test : ℕ → Bool) (n : ℕ) (xs : List ℕ) → IsStrictlyIncreasing xs → ((m : ℕ) → In m xs → (m < n) × (test m ≡ true)) → ((m : ℕ) → m < n → test m ≡ true → In m xs) → filter test (up_to n) ≡ xs
filter_up_to test n xs increasing each all =
    same_increasing (filter test (up_to n)) xs (filter_increases test (up_to n) (up_to_increases n)) increasing
    (λ m i. let r = in_from_filter test m (up_to n) i in all m (up_to_below n m r.0) r.1)
    (λ m i. let r = each m i in in_filter test m (up_to n) (up_to_in n m r.0) r.1)

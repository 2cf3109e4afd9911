-- Paths that a sort has put in order.
use Rattle.std.proofs.Common.{◌≡◌, ℕ, ◌+◌, ◌<◌, Bool, List, [], ◌∷◌, get_or, length, map, sym, ap, subst, ◌∙◌, arith, inl, inr}
use Rattle.std.specs.Borrow.{Bor}
use Rattle.std.specs.List.Sorted.{IsPermutation, IsSortedBy}
use Rattle.std.specs.Ordering.{is_lt}
use Rattle.std.proofs.lemmas.List.{get_or-map, length-map}
use Rattle.std.proofs.lemmas.List.Sorted.{IsPermutation-map, IsPermutation-sym, length_permutation}
use Rattle.call_path.specs.Path.{Path, path_cmp}
use Rattle.overlay_setup.specs.NodeSets.{In, up_to}
use Rattle.stat_plan.specs.PathOrder.{AreInOrder, IsOrderOf, numbered}
use Rattle.stat_plan.proofs.InLists.{in_from_map, in_map, in_permuted, up_to_below, up_to_in}
use Rattle.overlay_setup.proofs.UpTo.{length-up_to}

-- a list that is sorted by what f gives is sorted where f gave it
pub sorted_map : {X Y : Type 0} (f : X → Y) (lt : Y → Y → Bool) (xs : List X) → IsSortedBy (λ x y. lt (f x) (f y)) xs → IsSortedBy lt (map f xs)
sorted_map f lt [] up k d low high = absurd (omega arith)
sorted_map f lt (x ∷ xs) up k d low high =
    let within : k + 1 < length (x ∷ xs) = omega (arith, length-map (x ∷ xs) f) in
    let later : get_or (map f (x ∷ xs)) (k + 1) d ≡ f (get_or (x ∷ xs) (k + 1) x) = get_or-map f (x ∷ xs) (k + 1) x d within in
    let here : get_or (map f (x ∷ xs)) k d ≡ f (get_or (x ∷ xs) k x) = get_or-map f (x ∷ xs) k x d (omega arith) in
    (λ i. lt (later i) (here i)) ∙ up k x (omega arith) within

-- path i, with its number
abbrev pub path_at : List Path → ℕ → Path × ℕ
path_at paths i = (get_or paths i [], i)

-- what references to paths with numbers show
abbrev pub numbered_view : List (Bor Path × ℕ) → List (Path × ℕ)
numbered_view keyed = map (λ e. (e.0.now, e.1)) keyed

in_order_view : (paths : List Path) (given sorted : List (Bor Path × ℕ)) → numbered_view given ≡ map (path_at paths) (up_to (length paths)) → IsPermutation given sorted
    → IsSortedBy (λ (a b : Bor Path × ℕ). is_lt (path_cmp a.0.now b.0.now)) sorted → AreInOrder paths (numbered_view sorted)
in_order_view paths given sorted are moved up =
    let view : Bor Path × ℕ → Path × ℕ = λ e. (e.0.now, e.1) in
    let same : IsPermutation (numbered_view given) (numbered_view sorted) = IsPermutation-map view given sorted moved in
    let all : IsPermutation (map (path_at paths) (up_to (length paths))) (numbered_view sorted) = subst (λ es. IsPermutation es (numbered_view sorted)) are same in
    record {
      numbered = λ e there.
          let from = in_from_map (path_at paths) (up_to (length paths)) e (in_permuted e (numbered_view sorted) (map (path_at paths) (up_to (length paths))) (IsPermutation-sym _ _ all) there) in
          let number : e.1 ≡ from.0 = ap (λ (d : Path × ℕ). d.1) from.1.1 in
          (subst (λ i. i < length paths) (sym number) (up_to_below (length paths) from.0 from.1.0), ap (λ (d : Path × ℕ). d.0) from.1.1 ∙ ap (λ i. get_or paths i []) (sym number));
      complete = λ i lt. in_permuted (path_at paths i) (map (path_at paths) (up_to (length paths))) (numbered_view sorted) all (in_map (path_at paths) i (up_to (length paths)) (up_to_in (length paths) i lt));
      paired = length_permutation _ _ all ∙ length-map (up_to (length paths)) (path_at paths) ∙ length-up_to (length paths);
      in_order = sorted_map view (λ (d e : Path × ℕ). is_lt (path_cmp d.0 e.0)) sorted up;
    }

-- numbers that stand with the right paths
shown : (paths : List Path) (es : List (Bor Path × ℕ)) → ((e : Path × ℕ) → In e (numbered_view es) → e.0 ≡ get_or paths e.1 []) → numbered paths (map (λ e. e.1) es) ≡ numbered_view es
shown paths [] right = λ i. []
shown paths (e ∷ es) right = λ i. (sym (right (e.0.now, e.1) (inl (λ j. (e.0.now, e.1)))) i, e.1) ∷ shown paths es (λ d there. right d (inr there)) i

-- the numbers that a sort by path leaves are the paths' order
pub in_order_from : (paths : List Path) (given sorted : List (Bor Path × ℕ)) (numbers : List ℕ) → numbered_view given ≡ map (path_at paths) (up_to (length paths)) → IsPermutation given sorted
    → IsSortedBy (λ (a b : Bor Path × ℕ). is_lt (path_cmp a.0.now b.0.now)) sorted → numbers ≡ map (λ e. e.1) sorted → IsOrderOf paths numbers
in_order_from paths given sorted numbers are moved up is =
    let all = in_order_view paths given sorted are moved up in
    subst (AreInOrder paths) (sym (shown paths sorted (λ e there. (all.numbered e there).1)) ∙ ap (numbered paths) (sym is)) all

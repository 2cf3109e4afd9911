-- Classes: the blocks of covered ranks that were seen in the same paths.
use Rattle.std.specs.Prelude.{◌≡◌, ℕ, suc, nat_eq, nat_lt, Bool, true, false, not, cond, ◌&&◌, List, [], ◌∷◌, map}
use Rattle.std.specs.List.{list_any, list_all, filter, AllByRecursion}
use Rattle.std.specs.Ordering.{is_lt}
use Rattle.rank_set.specs.Ranks.{Ranks, has, in_order, those}
use Rattle.call_path.specs.Path.{Path, path_cmp, is_path}
use Rattle.call_path.specs.Pairs.{Pairs, is_pair}

-- both are true, or both are false
abbrev pub same_answer : Bool → Bool → Bool
same_answer true b = b
same_answer false b = not b

-- two ranks were seen in the same paths
abbrev pub equivalent : Pairs → ℕ → ℕ → Bool
equivalent P r s = list_all (λ e. same_answer (is_pair P r e.1) (is_pair P s e.1)) P

-- a path in its place of a list in order, once
abbrev pub put_path : Path → List Path → List Path
put_path p [] = p ∷ []
put_path p (q ∷ qs) = cond (is_lt (path_cmp p q)) (p ∷ q ∷ qs) (cond (is_path p q) (q ∷ qs) (q ∷ put_path p qs))

-- the paths that the rank was seen in, in their order, each once
abbrev pub paths_of : Pairs → ℕ → List Path
paths_of [] r = []
paths_of (e ∷ P) r = cond (nat_eq e.0 r) (put_path e.1 (paths_of P r)) (paths_of P r)

-- no lesser rank of C is equivalent
abbrev pub is_least : Pairs → Ranks → ℕ → Bool
is_least P C r = not (list_any (λ s. nat_lt s r && equivalent P r s) (in_order C))

-- the blocks of equivalent ranks of C by their least ranks, each with its paths in order
unfoldable pub classes_of : Pairs → Ranks → List (Ranks × List Path)
classes_of P C = map (λ r. (those (equivalent P r) C, paths_of P r)) (filter (is_least P C) (in_order C))

-- in how many classes a rank stands
abbrev pub classes_with : ℕ → List (Ranks × List Path) → ℕ
classes_with r [] = 0
classes_with r (k ∷ ks) = cond (has k.0 r) (suc (classes_with r ks)) (classes_with r ks)

-- the paths of each class are those of each of its ranks
abbrev pub HaveOwnPaths : Pairs → List (Ranks × List Path) → Type 0
HaveOwnPaths P ks = AllByRecursion (λ k. (r : ℕ) → has k.0 r ≡ true → k.1 ≡ paths_of P r) ks

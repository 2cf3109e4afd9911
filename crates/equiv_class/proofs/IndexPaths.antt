-- Paths by their indices.
use Rattle.std.proofs.Common.{◌≡◌, ℕ, zero, suc, ◌<◌, List, [], ◌∷◌, ◌++◌, length, get_or, map, reverse, refl, sym, ap, ◌∙◌, subst, arith}
use Rattle.std.specs.List.{AllByRecursion}
use Rattle.std.proofs.lemmas.List.{append-nil, map-append, reverse-append}
use Rattle.rank_set.specs.Ranks.{Ranks}
use Rattle.call_path.specs.Path.{Path}
use Rattle.equiv_class.specs.ClassList.{class_views, path_of}
use Rattle.equiv_class.specs.SeenPaths.{entries_view}
use Rattle.equiv_class.specs.StateBlocks.{block_view}
use Rattle.equiv_class.specs.declared.Class.{Class}
use Rattle.equiv_class.specs.declared.SeenPath.{SeenPath}
use Rattle.equiv_class.specs.declared.rank_blocks.Block.{Block}
use Rattle.equiv_class.specs.declared.states.Origin.{Origin}

-- a list turned round has what f gives of the others turned round
pub map-reverse : {X Y : Type 0} (f : X → Y) (xs : List X) → map f (reverse xs) ≡ reverse (map f xs)
map-reverse f [] = refl
map-reverse f (x ∷ xs) =
    ap (map f) (reverse-append (x ∷ []) xs) ∙ map-append f (reverse xs) (x ∷ []) ∙ ap (λ ys. ys ++ f x ∷ []) (map-reverse f xs) ∙ sym (reverse-append (f x ∷ []) (map f xs))

-- what holds of each of two lists holds of each of both together
pub all_append : {X : Type 0} (P : X → Type 0) (xs ys : List X) → AllByRecursion P xs → AllByRecursion P ys → AllByRecursion P (xs ++ ys)
all_append P [] ys h k = k
all_append P (x ∷ xs) ys h k = (h.0, all_append P xs ys h.1 k)

-- what holds of each of a list holds of each of it turned round
pub all_reverse : {X : Type 0} (P : X → Type 0) (xs : List X) → AllByRecursion P xs → AllByRecursion P (reverse xs)
all_reverse P [] h = tt
all_reverse P (x ∷ xs) h = subst (AllByRecursion P) (sym (reverse-append (x ∷ []) xs)) (all_append P (reverse xs) (x ∷ []) (all_reverse P xs h.1) (h.0, tt))

-- the path that an index gives
pub path_of-index : (seen : List SeenPath) (i : ℕ) (x : SeenPath) → i < length seen → path_of (entries_view seen) i ≡ (get_or seen i x).path
path_of-index [] i x lt = absurd (omega (arith, lt))
path_of-index (y ∷ seen) zero x lt = refl
path_of-index (y ∷ seen) (suc i) x lt = path_of-index seen i x (omega (arith, lt))

-- at the end no block is left
pub class_end : (es : List (Path × Ranks)) (origins : List Origin) (all : List Class) (rest : List Block) (total : List (Ranks × List Path)) → length rest ≡ 0 → class_views es all ++ map (block_view es origins) rest ≡ total
    → class_views es all ≡ total
class_end es origins all [] total none_left so_far = sym (append-nil (class_views es all)) ∙ so_far
class_end es origins all (b ∷ bs) total none_left so_far = absurd (omega (arith, none_left))

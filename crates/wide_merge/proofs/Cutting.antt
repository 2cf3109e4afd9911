-- Ranks cut in two, and the classes of both.
use Rattle.std.proofs.Common.{◌≡◌, Bool, true, false, not, cond, ◌&&◌, ◌||◌, List, [], ◌∷◌, map, refl, sym, subst, ◌∙◌, T}
use Rattle.std.specs.List.{AllByRecursion, filter}
use Rattle.std.specs.List.Sorted.{IsStrictlySortedBy}
use Rattle.std.specs.FinMap as finmap
use Rattle.std.specs.declared.cmp.Ordering.TheVariants.{Less}
use Rattle.rank_set.specs.Ranks.{Ranks, has, has-those, has-union, same_ranks, those, union}
use Rattle.call_path.specs.Path.{Path, path_cmp, path_cmp_total}
use Rattle.prefix_tree.specs.Tree.{Marks, Tree, pairs_of}
use Rattle.prefix_tree.proofs.Rows.{first, second, less}
use Rattle.equiv_class.specs.SeenPaths.{ends_at, has_ends, seen_in}
use Rattle.equiv_class.specs.declared.Class.{Class}
use Rattle.wide_merge.specs.Joining.{AreClassesOver, AreClassesSeen, ArePathsInOrder, AreUnited}

-- what is in a set, and what is not
pub cut_parts : (s below low high : Ranks) → low ≡ those (has below) s → high ≡ those (λ r. not (has below r)) s → union low high ≡ s
cut_parts s below low high is_low is_high = same_ranks (union low high) s (λ r.
    has-union low high r
    ∙ (λ i. has (is_low i) r || has (is_high i) r)
    ∙ (λ i. has-those (has below) s r i || has-those (λ q. not (has below q)) s r i)
    ∙ by (has s r) (has below r))
  where
    by : (c b : Bool) → ((c && b) || (c && not b)) ≡ c
    by true true = refl
    by true false = refl
    by false b = refl

-- ---- the paths in which ranks were seen stand in order

later : (x y : Path) → path_cmp x y ≡ Less → (zs : List Path) → AllByRecursion (λ z. path_cmp y z ≡ Less) zs → AllByRecursion (λ z. path_cmp x z ≡ Less) zs
later x y lt [] h = tt
later x y lt (z ∷ zs) h = (path_cmp_total.trans x y z lt h.0, later x y lt zs h.1)

all_later : (es : List (Path × Marks)) (e : Path × Marks) → T (finmap.is_sorted path_cmp (e ∷ es)) → AllByRecursion (λ y. path_cmp e.0 y ≡ Less) (map (λ x. x.0) es)
all_later [] e up = tt
all_later (f ∷ es) e up = let lt = less _ (first _ _ (first _ _ up)) in (lt, later e.0 f.0 lt (map (λ x. x.0) es) (all_later es f (second _ _ up)))

kept_later : (x : Path) (es : List (Path × Marks)) → AllByRecursion (λ y. path_cmp x y ≡ Less) (map (λ e. e.0) es) → AllByRecursion (λ y. path_cmp x y ≡ Less) (map (λ e. e.0) (map ends_at (filter has_ends es)))
kept_later x [] h = tt
kept_later x (e ∷ es) h = by (has_ends e) (kept_later x es h.1)
  where
    by : (b : Bool) → AllByRecursion (λ y. path_cmp x y ≡ Less) (map (λ e. e.0) (map ends_at (filter has_ends es)))
        → AllByRecursion (λ y. path_cmp x y ≡ Less) (map (λ e. e.0) (map ends_at (cond b (e ∷ filter has_ends es) (filter has_ends es))))
    by true rest = (h.0, rest)
    by false rest = rest

kept_sorted : (es : List (Path × Marks)) → T (finmap.is_sorted path_cmp es) → ArePathsInOrder (map ends_at (filter has_ends es))
unfolding IsStrictlySortedBy
kept_sorted [] up = tt
kept_sorted (e ∷ es) up = by (has_ends e) (kept_sorted es (second _ _ up))
  where
    by : (b : Bool) → ArePathsInOrder (map ends_at (filter has_ends es)) → ArePathsInOrder (map ends_at (cond b (e ∷ filter has_ends es) (filter has_ends es)))
    by true rest = (kept_later e.0 es (all_later es e up), rest)
    by false rest = rest

seen_sorted : (t : Tree) → ArePathsInOrder (seen_in t)
seen_sorted t = kept_sorted (finmap.entries t.below) (finmap.entries_sorted t.below)

-- the classes of both parts, united, are those of all
pub whole_classes : (es : List (Path × Ranks)) (ranks low high : Ranks) (one other all : List Class) → union low high ≡ ranks → AreClassesSeen es low one → AreClassesSeen es high other
    → AreUnited one other all → AreClassesSeen es ranks all
whole_classes es ranks low high one other all cut ones others united t is =
    subst (λ C. AreClassesOver es (pairs_of t) C all) cut (united es (pairs_of t) low high (subst ArePathsInOrder (sym is) (seen_sorted t)) (ones t is) (others t is))

-- Worked rows: pairs of ranks and paths, covered ranks, and their classes.
use Rattle.std.specs.Prelude.{◌≡◌, ℕ, List, [], ◌∷◌, ◌++◌, codes, refl}
use Rattle.rank_set.specs.Ranks.{set_of, has, those, with_rank}
use Rattle.call_path.specs.Path.{Path}
use Rattle.call_path.specs.Pairs.{Pairs, pairs_at}
use Rattle.equiv_class.specs.Classes.{classes_of}

-- the path of a frame under main
abbrev under_main : List ℕ → Path
under_main frame = codes "main" ∷ frame ∷ []

-- the path of two frames under main
abbrev twice_under_main : List ℕ → List ℕ → Path
twice_under_main frame inner = codes "main" ∷ frame ∷ inner ∷ []

-- Ranks 0, 2 and 3 wait, and rank 1 computes: two classes, by their least ranks.
one_computes : classes_of (pairs_at (0 ∷ 2 ∷ 3 ∷ []) (under_main (codes "MPI_Barrier")) ++ pairs_at (1 ∷ []) (under_main (codes "compute"))) (set_of (0 ∷ 1 ∷ 2 ∷ 3 ∷ []))
    ≡ (set_of (0 ∷ 2 ∷ 3 ∷ []), under_main (codes "MPI_Barrier") ∷ []) ∷ (set_of (1 ∷ []), under_main (codes "compute") ∷ []) ∷ []
unfolding classes_of those has with_rank
one_computes = refl

-- A path and a longer one part two ranks that pass the same frames but the last.
one_is_deeper : classes_of ((0, under_main (codes "a")) ∷ (1, twice_under_main (codes "a") (codes "b")) ∷ []) (set_of (0 ∷ 1 ∷ []))
    ≡ (set_of (0 ∷ []), under_main (codes "a") ∷ []) ∷ (set_of (1 ∷ []), twice_under_main (codes "a") (codes "b") ∷ []) ∷ []
unfolding classes_of those has with_rank
one_is_deeper = refl

-- The pairs of two ranks, each sampled three times.
abbrev sampled_thrice : Pairs
sampled_thrice =
    (0, under_main (codes "a")) ∷ (1, under_main (codes "b")) ∷ (0, under_main (codes "b")) ∷ (1, under_main (codes "a")) ∷ (0, under_main (codes "a")) ∷ (1, under_main (codes "b")) ∷ []

-- Ranks that were seen in the same paths are one class, however often and when; each path counts once.
same_paths_at_other_times : classes_of sampled_thrice (set_of (0 ∷ 1 ∷ [])) ≡ (set_of (0 ∷ 1 ∷ []), under_main (codes "a") ∷ under_main (codes "b") ∷ []) ∷ []
unfolding classes_of those has with_rank
same_paths_at_other_times = refl

-- A covered rank without a path is a class with no path.
one_without_path : classes_of [] (set_of (0 ∷ [])) ≡ (set_of (0 ∷ []), []) ∷ []
unfolding classes_of those has with_rank
one_without_path = refl

-- No rank is covered: there is no class, whatever the pairs.
none_covered : classes_of sampled_thrice (set_of []) ≡ []
unfolding classes_of those has with_rank
none_covered = refl

-- What makes a list of blocks the classes of pairs over some ranks.
use Rattle.std.specs.Prelude.{◌≡◌, ℕ, ◌<◌, Bool, true, ◌&&◌, List, [], ◌∷◌, get_or}
use Rattle.std.specs.List.{list_any, AllByRecursion}
use Rattle.std.specs.Ordering.{eq_by_cmp}
use Rattle.std.specs.Cmp.Lexicographic.{slice_cmp}
use Rattle.rank_set.specs.Ranks.{Ranks, has, in_order}
use Rattle.call_path.specs.Path.{Path, path_cmp}
use Rattle.call_path.specs.Pairs.{Pairs}
use Rattle.equiv_class.specs.Classes.{paths_of}

-- some ranks, and paths
abbrev pub Block : Type 0
Block = Ranks × List Path

-- two lists of paths are the same
abbrev pub are_paths : List Path → List Path → Bool
are_paths ps qs = eq_by_cmp (slice_cmp path_cmp) ps qs

-- the least rank of a block
abbrev pub least : Block → ℕ
least k = get_or (in_order k.0) 0 0

-- some block has the rank
abbrev pub any_has : ℕ → List Block → Bool
any_has r ks = list_any (λ k. has k.0 r) ks

-- just those ranks of C that were seen in the block's paths, and there is one
pub record IsClass (P : Pairs) (C : Ranks) (k : Block) : Type 0 where
  pub member : ℕ
  pub some : has k.0 member ≡ true
  pub each : (r : ℕ) → has k.0 r ≡ (has C r && are_paths k.1 (paths_of P r))

-- each block is a class, and they stand by their least ranks
abbrev pub AreInOrder : Pairs → Ranks → List Block → Type 0
AreInOrder P C [] = Unit {0}
AreInOrder P C (k ∷ ks) = IsClass P C k × (AllByRecursion (λ l. least k < least l) ks × AreInOrder P C ks)

-- and together they have the ranks of C
pub record AreClasses (P : Pairs) (C : Ranks) (ks : List Block) : Type 0 where
  pub in_order : AreInOrder P C ks
  pub all : (r : ℕ) → any_has r ks ≡ has C r

-- Covers, ranks and places, and what the definitions say of them. Each row is computed.
use Rattle.std.specs.Prelude.{◌≡◌, refl, [], ◌∷◌}
use Rattle.rank_set.specs.Ranks.{set_of, has, with_rank, those}
use Rattle.rank_places.specs.Places.{place, to_places, from_places}

second_and_fourth : to_places (set_of (3 ∷ 5 ∷ 6 ∷ 9 ∷ [])) (set_of (5 ∷ 9 ∷ [])) ≡ set_of (1 ∷ 3 ∷ [])
unfolding to_places place those with_rank
second_and_fourth = refl

at_second_and_fourth : from_places (set_of (3 ∷ 5 ∷ 6 ∷ 9 ∷ [])) (set_of (1 ∷ 3 ∷ [])) ≡ set_of (5 ∷ 9 ∷ [])
unfolding from_places place those has with_rank
at_second_and_fourth = refl

-- Counts, and where the definition says that the things are. Each row is computed.
use Rattle.std.specs.Prelude.{◌≡◌, refl, [], ◌∷◌, None, Some}
use Rattle.std.specs.List.{sum}
use Rattle.count_tree.specs.Places.{place_of}

first_thing : place_of (2 ∷ 0 ∷ 4 ∷ []) 0 ≡ Some (0, 0)
first_thing = refl

last_of_first_place : place_of (2 ∷ 0 ∷ 4 ∷ []) 1 ≡ Some (0, 1)
last_of_first_place = refl

after_an_empty_place : place_of (2 ∷ 0 ∷ 4 ∷ []) 2 ≡ Some (2, 0)
after_an_empty_place = refl

last_thing : place_of (2 ∷ 0 ∷ 4 ∷ []) 5 ≡ Some (2, 3)
last_thing = refl

past_the_last : place_of (2 ∷ 0 ∷ 4 ∷ []) 6 ≡ None
past_the_last = refl

no_places : place_of [] 0 ≡ None
no_places = refl

three_places : sum (2 ∷ 0 ∷ 4 ∷ []) ≡ 6
three_places = refl

use Rattle.std.proofs.Common.{◌≡◌, ℕ, [], ◌∷◌}
use Rattle.std.specs.List.{IsDistinct}
use Rattle.std.specs.Ordering.{eq_by_cmp, is_eq, nat_cmp, ordering_then}
use Rattle.overlay_core.specs.TreeReleases.{TreeRelease}
use Rattle.front_end.specs.Report.{AreDistinct, release_cmp}
use Rattle.text_tests.proofs.front_end_tests.puts_releases_in_order.Goals as goal

-- a release of this stream, wave and number
record Is (r : TreeRelease) (stream wave number : ℕ) : Type 0 where
  of_stream : r.stream ≡ stream
  of_wave : r.wave ≡ wave
  of_number : r.number ≡ number

same_test : (a b : TreeRelease) (s w n t v m : ℕ) → Is a s w n → Is b t v m → eq_by_cmp release_cmp a b ≡ is_eq (ordering_then (ordering_then (nat_cmp s t) (nat_cmp w v)) (nat_cmp n m))
same_test a b s w n t v m x y = λ i. is_eq (ordering_then (ordering_then (nat_cmp (x.of_stream i) (y.of_stream i)) (nat_cmp (x.of_wave i) (y.of_wave i))) (nat_cmp (x.of_number i) (y.of_number i)))

four_distinct : (a b c d : TreeRelease) → Is a 1 0 1 → Is b 0 1 1 → Is c 0 0 2 → Is d 0 0 1 → AreDistinct (a ∷ b ∷ c ∷ d ∷ [])
unfolding IsDistinct
four_distinct a b c d x y z w =
    ((same_test a b 1 0 1 0 1 1 x y, (same_test a c 1 0 1 0 0 2 x z, (same_test a d 1 0 1 0 0 1 x w, tt))), ((same_test b c 0 1 1 0 0 2 y z, (same_test b d 0 1 1 0 0 1 y w, tt)), ((same_test c d 0 0 2 0 0 1 z w, tt), (tt, tt))))

pub direct_text-requires-clause-distinct : goal.direct_text-requires-clause-distinct
direct_text-requires-clause-distinct g c κs =
    four_distinct _ _ _ _ (record { of_stream = c.release.ensures.stream; of_wave = c.release.ensures.wave; of_number = c.release.ensures.number })
    (record { of_stream = c.release-2.ensures.stream; of_wave = c.release-2.ensures.wave; of_number = c.release-2.ensures.number })
    (record { of_stream = c.release-3.ensures.stream; of_wave = c.release-3.ensures.wave; of_number = c.release-3.ensures.number })
    (record { of_stream = c.release-4.ensures.stream; of_wave = c.release-4.ensures.wave; of_number = c.release-4.ensures.number })

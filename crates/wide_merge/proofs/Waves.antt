-- Waves of a plan, listed one after another, and their direct releases.
use Rattle.std.proofs.Common.{◌≡◌, ◌<◌, ◌≤◌, ◌+◌, ℕ, suc, List, [], ◌∷◌, ◌++◌, map, length, drop, sym, ap, subst, ◌∙◌, arith}
use Rattle.std.proofs.lemmas.List.{append_assoc, drop_more, map-append}
use Rattle.std.specs.Prelude.{get_or}
use Rattle.prefix_tree.specs.Tree.{Tree}
use Rattle.overlay_setup.specs.NodeSets.{In, up_to}
use Rattle.overlay_setup.specs.Scripts.{Stream}
use Rattle.stat_plan.specs.Plans.{Plan, waves_of}
use Rattle.stat_plan.proofs.InLists.{append_left, append_right}
use Rattle.merge_filter.specs.Contributions.{HasWave}
use Rattle.overlay_core.specs.TreeReleases.{release_view, releases_view}
use Rattle.overlay_core.specs.declared.release.Release.{Release}
use Rattle.wide_merge.specs.Waves.{direct_release}
use Rattle.wide_merge.specs.Waves.{MayMergeWaves}

-- one wave more of a stream
pub one_more : (s n : ℕ) (before old new : List (ℕ × ℕ)) → old ≡ before ++ map (λ w. (s, w)) (up_to n) → new ≡ old ++ (s, n) ∷ [] → new ≡ before ++ map (λ w. (s, w)) (up_to (n + 1))
one_more s n before old new so_far pushed =
    let own : List ℕ → List (ℕ × ℕ) = map (λ w. (s, w)) in
    let next : n + 1 ≡ suc n = omega arith in
    let pair : List (ℕ × ℕ) = (s, n) ∷ [] in
    pushed ∙ ap (λ vs. vs ++ pair) so_far ∙ append_assoc before (own (up_to n)) pair
    ∙ ap (λ vs. before ++ vs) (sym (map-append (λ w. (s, w)) (up_to n) (n ∷ []))) ∙ ap (λ k. before ++ own (up_to k)) (sym next)

-- one stream more of a plan
pub one_stream_more : (xs : List Stream) (i : ℕ) (x : Stream) (old new : List (ℕ × ℕ)) → i < length xs → x ≡ get_or xs i x → new ≡ old ++ map (λ w. (x.number, w)) (up_to x.waves)
    → old ++ waves_of (drop i xs) ≡ waves_of xs → new ++ waves_of (drop (i + 1) xs) ≡ waves_of xs
one_stream_more xs i x old new within is pushed so_far =
    let rest = waves_of (drop (i + 1) xs) in
    let own = map (λ w. (x.number, w)) (up_to x.waves) in
    let here : drop i xs ≡ x ∷ drop (i + 1) xs = drop_more xs i x within ∙ ap (λ (y : Stream). y ∷ drop (i + 1) xs) (sym is) in
    ap (λ vs. vs ++ rest) pushed ∙ append_assoc old own rest ∙ ap (λ (ys : List Stream). old ++ waves_of ys) (sym here) ∙ so_far

-- all waves of a plan are waves of it
pub all_are_waves : (p : Plan) (vs : List (ℕ × ℕ)) → vs ≡ waves_of p.streams → (v : ℕ × ℕ) → In v vs → HasWave p v.0 v.1
all_are_waves p vs is v i = subst (In v) is i

-- both halves of some waves may be merged
pub front_may : (p : Plan) (vs fs bs : List (ℕ × ℕ)) (workers fewer : ℕ) → MayMergeWaves p vs workers → vs ≡ fs ++ bs → 1 ≤ fewer → fewer ≤ workers → MayMergeWaves p fs fewer
front_may p vs fs bs workers fewer may is some less = record {
  has = λ v i. may.has v (subst (In v) (sym is) (append_left v fs bs i));
  some = some;
  few = omega (arith, less, may.few);
}

pub back_may : (p : Plan) (vs fs bs : List (ℕ × ℕ)) (workers more : ℕ) → MayMergeWaves p vs workers → vs ≡ fs ++ bs → 1 ≤ more → more ≤ workers → MayMergeWaves p bs more
back_may p vs fs bs workers more may is some less = record {
  has = λ v i. may.has v (subst (In v) (sym is) (append_right v fs bs i));
  some = some;
  few = omega (arith, less, may.few);
}

module _ {X : Type 0} (tree : X → Tree) (p : Plan) where
  -- the releases of both halves are those of the whole
  pub both_halves : (vs fs bs : List (ℕ × ℕ)) (front back all : List (Release X)) → vs ≡ fs ++ bs → releases_view tree front ≡ map (direct_release p) fs → releases_view tree back ≡ map (direct_release p) bs
      → all ≡ front ++ back → releases_view tree all ≡ map (direct_release p) vs
  both_halves vs fs bs front back all is one other joined =
      ap (releases_view tree) joined ∙ map-append (release_view tree) front back ∙ (λ i. one i ++ other i)
      ∙ sym (map-append (direct_release p) fs bs) ∙ ap (map (direct_release p)) (sym is)

  -- one release more
  pub one_release_more : (vs : List (ℕ × ℕ)) (i : ℕ) (d : ℕ × ℕ) (old new : List (Release X)) (r : Release X) → i < length vs → release_view tree r ≡ direct_release p (get_or vs i d) → new ≡ old ++ r ∷ []
      → releases_view tree old ++ map (direct_release p) (drop i vs) ≡ map (direct_release p) vs → releases_view tree new ++ map (direct_release p) (drop (i + 1) vs) ≡ map (direct_release p) vs
  one_release_more vs i d old new r within made pushed so_far =
      let rest = map (direct_release p) (drop (i + 1) vs) in
      let here : drop i vs ≡ get_or vs i d ∷ drop (i + 1) vs = drop_more vs i d within in
      ap (λ rs. releases_view tree rs ++ rest) pushed ∙ ap (λ rs. rs ++ rest) (map-append (release_view tree) old (r ∷ []))
      ∙ append_assoc (releases_view tree old) (release_view tree r ∷ []) rest
      ∙ ap (λ q. releases_view tree old ++ q ∷ rest) made ∙ ap (λ us. releases_view tree old ++ map (direct_release p) us) (sym here) ∙ so_far

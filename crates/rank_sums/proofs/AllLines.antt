-- The lines that are made are those of the plan of parts.
use Rattle.std.proofs.Common.{◌≡◌, inl, inr, ℕ, ◌<◌, ◌*◌, List, [], ◌∷◌, ◌++◌, map, ap, refl, sym, ◌∙◌, subst, Option, Some, None, length, get_or}
use Rattle.std.proofs.Math.IntN.{ℤ}
use Rattle.std.specs.Prelude.{slice_index_or}
use Rattle.std.specs.List.{flat_map}
use Rattle.std.proofs.lemmas.List.{length-map}
use Rattle.std.proofs.lemmas.Grind.{flat_map-append}
use Rattle.std.proofs.lemmas.Option.{slice_get-get_or}
use Rattle.std.proofs.lemmas.List.Folds.{flat_map-map}
use Rattle.call_path.specs.Path.{Path}
use Rattle.overlay_setup.specs.NodeSets.{In, up_to}
use Rattle.overlay_setup.specs.Scripts.{Stream}
use Rattle.stat_plan.specs.Plans.{Plan, nodes, daemons, sample_count, stream_of, waves_of}
use Rattle.stat_plan.specs.Invariants.{IsJob, IsPlan}
use Rattle.stat_plan.specs.StackLines.{lines_of}
use Rattle.stat_plan.specs.declared.samples.StackLine.{StackLine}
use Rattle.overlay_setup.proofs.UpTo.{length-up_to, at_table}
use Rattle.stat_plan.proofs.FirstOver.{stream_found}
use Rattle.stat_plan.proofs.InLists.{place_of}
use Rattle.stat_plan.proofs.LookupLemmas.{daemons_at}
use Rattle.merge_filter.proofs.Daemons.{daemon_is_node}
use Rattle.rank_sums.specs.declared.fold.Fold.{Fold}
use Rattle.value_text.specs.Numbers.{Numbers}
use Rattle.rank_sums.specs.Parts.{part_at}
use Rattle.rank_sums.specs.PartTrees.{leader}
use Rattle.rank_sums.specs.PartPlans.{AreOwnStreams, all_parts, line_if, line_with, part_line, part_lines, paths_of, stream_lines, wave_lines_with, wave_parts}

flat-same : {X Y : Type 0} (f g : X → List Y) (xs : List X) → ((x : X) → In x xs → f x ≡ g x) → flat_map f xs ≡ flat_map g xs
flat-same f g [] same = refl
flat-same f g (x ∷ xs) same = ap (λ l. l ++ flat_map f xs) (same x (inl refl)) ∙ ap (λ l. g x ++ l) (flat-same f g xs (λ y i. same y (inr i)))

module _ (p : Plan) (v : Numbers) (f : Fold) (parts : List (Option ℤ)) (are : parts ≡ all_parts p v f) where
  -- each part by its number
  each_part : (d : ℕ) → d < nodes p → slice_index_or parts d None ≡ part_at p v f d
  each_part d lt = ap (λ l. slice_index_or l d None) are ∙ at_table (part_at p v f) (nodes p) d None lt

  one_wave : (x : Stream) (w : ℕ) → stream_of p x.number ≡ Some x → ((d : ℕ) → In d x.daemons → d < nodes p) → wave_lines_with p parts x w ≡ wave_parts p v f (x.number, w)
  unfolding daemons sample_count
  one_wave x w found below =
      flat-same (line_with p parts (w * x.samples)) (part_line p v f (w * x.samples)) x.daemons (λ d i. ap (line_if (w * x.samples) (leader p d)) (each_part d (below d i)))
      ∙ ap (λ (o : Option Stream). flat_map (part_line p v f (w * elim o [ None ↦ 0 | Some y ↦ y.samples ])) (elim o [ None ↦ [] | Some y ↦ y.daemons ])) (sym found)

  pub lines_are : (xs : List Stream) → AreOwnStreams p xs → flat_map (stream_lines p parts) xs ≡ flat_map (wave_parts p v f) (waves_of xs)
  lines_are [] own = refl
  lines_are (x ∷ xs) own =
      ap (λ l. l ++ flat_map (stream_lines p parts) xs) (flat-same (wave_lines_with p parts x) (λ w. wave_parts p v f (x.number, w)) (up_to x.waves) (λ w i. one_wave x w (own.found x (inl refl)) (λ d. own.on_nodes x d (inl refl))))
      ∙ ap (λ l. flat_map (λ w. wave_parts p v f (x.number, w)) (up_to x.waves) ++ l) (lines_are xs (record { found = λ y i. own.found y (inr i); on_nodes = λ y d i. own.on_nodes y d (inr i) }))
      ∙ ap (λ l. l ++ flat_map (wave_parts p v f) (waves_of xs)) (sym (flat_map-map (wave_parts p v f) (λ w. (x.number, w)) (up_to x.waves)))
      ∙ sym (flat_map-append (wave_parts p v f) (map (λ w. (x.number, w)) (up_to x.waves)) (waves_of xs))

-- a stream of the plan is the one of its number
stream_is : (p : Plan) (x : Stream) → IsPlan p → In x p.streams → stream_of p x.number ≡ Some x
stream_is p x plan there =
    let job : IsJob p = record { topology = plan.topology; samples = plan.samples; script = plan.script; samples_fit = plan.samples_fit; script_fits = plan.script_fits } in
    let at = place_of x p.streams there in
    let same : get_or p.streams at.0 x ≡ x = some_same (sym (slice_get-get_or p.streams at.0 x at.1.0) ∙ at.1.1) in
    subst (λ y. stream_of p y.number ≡ Some y) same (stream_found p at.0 x job at.1.0)
  where
    some_same : {y z : Stream} → ◌≡◌ {A = Option Stream} (Some y) (Some z) → y ≡ z
    some_same e = cc

-- the streams of a plan are its own
own_streams : (p : Plan) → IsPlan p → AreOwnStreams p p.streams
own_streams p plan = record {
  found = λ x i. stream_is p x plan i;
  on_nodes = λ x d i there. daemon_is_node p x.number d plan (subst (In d) (daemons_at p x.number x (stream_is p x plan i)) there);
}

-- the lines that are made of the parts are those of the plan of parts
pub made_are_part_lines : (p : Plan) (v : Numbers) (f : Fold) (parts : List (Option ℤ)) (paths : List Path) (lines : List StackLine) → IsPlan p → parts ≡ all_parts p v f → paths ≡ paths_of parts
    → lines_of (paths_of parts) lines ≡ flat_map (stream_lines p parts) p.streams → lines_of paths lines ≡ part_lines p v f
made_are_part_lines p v f parts paths lines plan are is made =
    ap (λ q. lines_of q lines) is ∙ made ∙ lines_are p v f parts are p.streams (own_streams p plan)

-- there is a part for each node
pub parts_paired : (p : Plan) (v : Numbers) (f : Fold) → length (all_parts p v f) ≡ nodes p
parts_paired p v f = length-map (up_to (nodes p)) (part_at p v f) ∙ length-up_to (nodes p)

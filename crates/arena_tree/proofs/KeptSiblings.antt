-- Later siblings stay later siblings in a merge.
use Rattle.std.proofs.Common.{◌≡◌, ◌⊎◌, inl, inr, ℕ, suc, ◌+◌, true, true≢false, List, [], ◌∷◌, refl, sym, ◌∙◌}
use Rattle.std.proofs.lemmas.List.Elements.{All-weaker}
use Rattle.std.specs.declared.cmp.Ordering.{Ordering}
use Rattle.std.specs.declared.cmp.Ordering.TheVariants.{Less, Equal, Greater}
use Rattle.std.specs.Ordering.{is_eq}
use Rattle.rank_set.specs.Ranks.{none}
use Rattle.call_path.specs.Path.{Path}
use Rattle.prefix_tree.specs.Tree.{Marks}
use Rattle.prefix_tree.specs.Owned.{by_order}
use Rattle.arena_tree.specs.declared.trail.Hint.{Hint}
use Rattle.arena_tree.specs.RowForest.{frame_cmp}
use Rattle.arena_tree.specs.ChainForest.{ChainForest, no_chains, chain_node, count_nodes, FrameSplit, split_frames, cut_count}
use Rattle.arena_tree.specs.ChainMerge.{new_nodes, merge_sides, merge_chains}
use Rattle.arena_tree.specs.Steps.{rest_over}
use Rattle.arena_tree.specs.Trail.{IsAmong, IsLaterSibling, AreHints}
use Rattle.arena_tree.proofs.MergingChains.{IsParted, parted}

in_right : {A B C : Type 0} → A ⊎ B → (B → C) → A ⊎ C
in_right (inl a) go = inl a
in_right (inr b) go = inr (go b)

in_each : {A B C D E F : Type 0} → A ⊎ (B ⊎ C) → (A → D) → (B → E) → (C → F) → D ⊎ (E ⊎ F)
in_each (inl a) one two three = inl (one a)
in_each (inr (inl b)) one two three = inr (inl (two b))
in_each (inr (inr c)) one two three = inr (inr (three c))

by_three : (P : ChainForest → Type 0) (r : Ordering) (a b c : ChainForest) → P a → (is_eq r ≡ true → P b) → P c → P (by_order r a b c)
by_three P Less a b c one two three = one
by_three P Equal a b c one two three = two refl
by_three P Greater a b c one two three = three

among_kept : (t n p : ℕ) (fs : Path) (m : Marks) (k : ChainForest) (gs : Path) (w : Marks) (c : ChainForest) → IsAmong t (rest_over p fs m k) → IsParted fs gs → IsAmong t (merge_sides n p fs m k gs w c)
among_kept t n p [] m no_chains gs w c i off = absurd i
among_kept t n p [] m0 (chain_node a f fs m b s) [] w no_chains i off = i
among_kept t n p [] m0 (chain_node a f fs m b s) [] w0 (chain_node x g gs w c u) i off =
    let z : FrameSplit = split_frames fs gs in
    by_three (IsAmong t) (frame_cmp g f) _ _ _
    (inr (among_kept t (suc n + count_nodes c) 0 [] (none, none) (chain_node a f fs m b s) [] (none, none) u i tt))
    (λ e. in_right i (λ j. among_kept t (cut_count z.own + n + new_nodes z.own b z.other c) 0 [] (none, none) s [] (none, none) u j tt))
    (in_right i (λ j. among_kept t n 0 [] (none, none) s [] (none, none) (chain_node x g gs w c u) j tt))
among_kept t n p [] m0 (chain_node a f fs m b s) (g ∷ gs) w c i off =
    by_three (IsAmong t) (frame_cmp g f) _ _ _
    (inr i)
    (λ e. i)
    (in_right i (λ j. among_kept t n 0 [] (none, none) s (g ∷ gs) w c j tt))
among_kept t n p (f ∷ fs) m b [] w0 no_chains i off = i
among_kept t n p (f ∷ fs) m b [] w0 (chain_node x g gs w c u) i off =
    by_three (IsAmong t) (frame_cmp g f) _ _ _
    (inr (among_kept t (suc n + count_nodes c) p (f ∷ fs) m b [] (none, none) u i tt))
    (λ e. in_right i (λ j. absurd j))
    (in_right i (λ j. absurd j))
among_kept t n p (f ∷ fs) m b (g ∷ gs) w c i off =
    by_three (IsAmong t) (frame_cmp g f) _ _ _
    (inr i)
    (λ e. absurd (true≢false (sym e ∙ off)))
    (in_right i (λ j. absurd j))

below_rest : (x t n : ℕ) (fs : Path) (m : Marks) (b : ChainForest) → IsLaterSibling b x t → IsLaterSibling (rest_over n fs m b) x t
below_rest x t n [] m b i = i
below_rest x t n (f ∷ fs) m b i = inr (inl i)

later_kept : (x t n p : ℕ) (fs : Path) (m : Marks) (k : ChainForest) (gs : Path) (w : Marks) (c : ChainForest) → IsLaterSibling (rest_over p fs m k) x t → IsParted fs gs → IsLaterSibling (merge_sides n p fs m k gs w c) x t
later_kept x t n p [] m no_chains gs w c i off = absurd i
later_kept x t n p [] m0 (chain_node a f fs m b s) [] w no_chains i off = i
later_kept x t n p [] m0 (chain_node a f fs m b s) [] w0 (chain_node y g gs w c u) i off =
    let z : FrameSplit = split_frames fs gs in
    by_three (λ k. IsLaterSibling k x t) (frame_cmp g f) _ _ _
    (inr (inr (later_kept x t (suc n + count_nodes c) 0 [] (none, none) (chain_node a f fs m b s) [] (none, none) u i tt)))
    (λ e. in_each i
    (λ j. (j.0, in_right j.1 (λ v. among_kept t (cut_count z.own + n + new_nodes z.own b z.other c) 0 [] (none, none) s [] (none, none) u v tt)))
    (λ j. later_kept x t (cut_count z.own + n) n z.own m b z.other w c (below_rest x t n z.own m b j) (parted fs gs))
    (λ j. later_kept x t (cut_count z.own + n + new_nodes z.own b z.other c) 0 [] (none, none) s [] (none, none) u j tt))
    (in_each i
    (λ j. (j.0, in_right j.1 (λ v. among_kept t n 0 [] (none, none) s [] (none, none) (chain_node y g gs w c u) v tt)))
    (λ j. j)
    (λ j. later_kept x t n 0 [] (none, none) s [] (none, none) (chain_node y g gs w c u) j tt))
later_kept x t n p [] m0 (chain_node a f fs m b s) (g ∷ gs) w c i off =
    let z : FrameSplit = split_frames fs gs in
    by_three (λ k. IsLaterSibling k x t) (frame_cmp g f) _ _ _
    (inr (inr i))
    (λ e. in_each i
    (λ j. j)
    (λ j. later_kept x t (cut_count z.own + n) n z.own m b z.other w c (below_rest x t n z.own m b j) (parted fs gs))
    (λ j. j))
    (in_each i
    (λ j. (j.0, in_right j.1 (λ v. among_kept t n 0 [] (none, none) s (g ∷ gs) w c v tt)))
    (λ j. j)
    (λ j. later_kept x t n 0 [] (none, none) s (g ∷ gs) w c j tt))
later_kept x t n p (f ∷ fs) m b [] w0 no_chains i off = i
later_kept x t n p (f ∷ fs) m b [] w0 (chain_node y g gs w c u) i off =
    let z : FrameSplit = split_frames fs gs in
    by_three (λ k. IsLaterSibling k x t) (frame_cmp g f) _ _ _
    (inr (inr (later_kept x t (suc n + count_nodes c) p (f ∷ fs) m b [] (none, none) u i tt)))
    (λ e. in_each i
    (λ j. (j.0, in_right j.1 (λ v. absurd v)))
    (λ j. later_kept x t (cut_count z.own + n) n z.own m b z.other w c (below_rest x t n z.own m b j) (parted fs gs))
    (λ j. absurd j))
    (in_each i (λ j. (j.0, in_right j.1 (λ v. absurd v))) (λ j. j) (λ j. absurd j))
later_kept x t n p (f ∷ fs) m b (g ∷ gs) w c i off =
    by_three (λ k. IsLaterSibling k x t) (frame_cmp g f) _ _ _
    (inr (inr i))
    (λ e. absurd (true≢false (sym e ∙ off)))
    (in_each i (λ j. (j.0, in_right j.1 (λ v. absurd v))) (λ j. j) (λ j. absurd j))

-- hints stay right
pub hints_kept : (n : ℕ) (k o : ChainForest) (hs : List Hint) → AreHints k hs → AreHints (merge_chains n k o) hs
hints_kept n k o hs = All-weaker (λ h. IsLaterSibling k h.first h.later) (λ h. IsLaterSibling (merge_chains n k o) h.first h.later) (λ h i. later_kept h.first h.later n 0 [] (none, none) k [] (none, none) o i tt) hs

-- The ends of a view's rows lie in what the view covers.
use Rattle.std.proofs.Common.{◌≡◌, ℕ, zero, suc, ◌<◌, Bool, true, false, cond, ◌&&◌, List, [], ◌∷◌, get_or, length, refl, sym, ap, ◌∙◌, arith, eqb, inl, inr}
use Rattle.std.specs.List.{list_any}
use Rattle.std.specs.FinMap as finmap
use Rattle.std.specs.Cmp.{both_ways}
use Rattle.std.proofs.lemmas.Bool.{true≢false, and_parts, and_from, or_cases, or_left, or_right}
use Rattle.rank_set.specs.Ranks.{Ranks, none, has, those, has-none, has-those, same_ranks}
use Rattle.call_path.specs.Path.{Path, is_path}
use Rattle.call_path.specs.Pairs.{Pairs, is_pair, passes, is_below}
use Rattle.call_path.proofs.PathLemmas.{is_path-exact, is_path-itself}
use Rattle.prefix_tree.specs.Tree.{Marks, Tree}
use Rattle.prefix_tree.specs.Joined.{IsTreeOf, ended, in_rows, labelled}
use Rattle.prefix_tree.proofs.Rows.{in_rows-entries}
use Rattle.tree_view.specs.Views.{has_frame, ranks_with, was_in}
use Rattle.tree_view.specs.Selections.{LieIn, closes, fold_ends, no_entry}

-- a row is there
pub in_rows_at : (test : Marks → Bool) (es : List (Path × Marks)) (k : ℕ) → k < length es → test (get_or es k no_entry).1 ≡ true → in_rows test es (get_or es k no_entry).0 ≡ true
in_rows_at test [] k lt h = absurd (omega (arith, lt))
in_rows_at test (e ∷ es) zero lt h = or_left (is_path e.0 e.0 && test e.1) (in_rows test es e.0) (and_from (is_path e.0 e.0) (test e.1) (is_path-itself e.0) h)
in_rows_at test (e ∷ es) (suc k) lt h = or_right (is_path (get_or es k no_entry).0 e.0 && test e.1) (in_rows test es (get_or es k no_entry).0) (in_rows_at test es k (omega (arith, lt)) h)

module _ (P : Pairs) (C : Ranks) (t : Tree) (is : IsTreeOf P C t) where
  -- the ends are covered
  end_covered : (k : ℕ) → k < length (finmap.entries t.below) → (r : ℕ) → has (get_or (finmap.entries t.below) k no_entry).1.1 r ≡ true → (has C r ≡ true) × (is_pair P r (get_or (finmap.entries t.below) k no_entry).0 ≡ true)
  end_covered k lt r h =
      let p = (get_or (finmap.entries t.below) k no_entry).0 in
      let there = sym (is.ends p r) ∙ sym (in_rows-entries (ended r) t.below p) ∙ in_rows_at (ended r) (finmap.entries t.below) k lt h in
      and_parts (has C r) (is_pair P r p) ((and_parts (is_below p) (has C r && is_pair P r p) there).1)

  -- and so are the labels
  label_covered : (k : ℕ) → k < length (finmap.entries t.below) → (r : ℕ) → has (get_or (finmap.entries t.below) k no_entry).1.0 r ≡ true → has C r ≡ true
  label_covered k lt r h =
      let p = (get_or (finmap.entries t.below) k no_entry).0 in
      let there = sym (is.labels p r) ∙ sym (in_rows-entries (labelled r) t.below p) ∙ in_rows_at (labelled r) (finmap.entries t.below) k lt h in
      (and_parts (has C r) (passes P r p) ((and_parts (is_below p) (has C r && passes P r p) there).1)).0

  pub ranks_lie : (A D : Ranks) → D ≡ those (has A) C → LieIn (λ p m. those (has A) m.1) t D
  ranks_lie A D is_D k lt r h =
      let e = get_or (finmap.entries t.below) k no_entry in
      let parts = and_parts (has e.1.1 r) (has A r) (sym (has-those (has A) e.1.1 r) ∙ h) in
      ap (λ (S : Ranks). has S r) is_D ∙ has-those (has A) C r ∙ and_from (has C r) (has A r) (end_covered k lt r parts.0).0 parts.1

  pub fold_lie : (f : List ℕ) (D : Ranks) → D ≡ C → LieIn (fold_ends f) t D
  fold_lie f D is_D k lt r h =
      let e = get_or (finmap.entries t.below) k no_entry in
      ap (λ (S : Ranks). has S r) is_D ∙ by (closes f e.0) (has_frame f e.0) h
    where
      by : (a b : Bool) → has (cond a (get_or (finmap.entries t.below) k no_entry).1.0 (cond b none (get_or (finmap.entries t.below) k no_entry).1.1)) r ≡ true → has C r ≡ true
      by true b h = label_covered k lt r h
      by false true h = absurd (true≢false (sym h ∙ has-none r))
      by false false h = (end_covered k lt r h).0

  pub in_pairs : (Q : Pairs) (f : List ℕ) (r : ℕ) (p : Path) → is_pair Q r p ≡ true → has_frame f p ≡ true → was_in Q f r ≡ true
  in_pairs [] f r p one framed = absurd (true≢false (sym one))
  in_pairs (x ∷ Q) f r p one framed = elim (or_cases (eqb x.0 r && is_path p x.1) (is_pair Q r p) one) [
    | inl here ↦
        let parts = and_parts (eqb x.0 r) (is_path p x.1) here in
        or_left (eqb x.0 r && has_frame f x.1) (was_in Q f r) (and_from (eqb x.0 r) (has_frame f x.1) parts.0 (ap (has_frame f) (sym (is_path-exact p x.1 parts.1)) ∙ framed))
    | inr later ↦ or_right (eqb x.0 r && has_frame f x.1) (was_in Q f r) (in_pairs Q f r p later framed)
  ]

  pub frame_lie : (f : List ℕ) (D : Ranks) → D ≡ ranks_with f P C → LieIn (λ p m. cond (has_frame f p) m.1 none) t D
  frame_lie f D is_D k lt r h =
      let e = get_or (finmap.entries t.below) k no_entry in
      ap (λ (S : Ranks). has S r) is_D ∙ by (has_frame f e.0) refl h
    where
      by : (b : Bool) → has_frame f (get_or (finmap.entries t.below) k no_entry).0 ≡ b → has (cond b (get_or (finmap.entries t.below) k no_entry).1.1 none) r ≡ true → has (ranks_with f P C) r ≡ true
      by true framed h = let both = end_covered k lt r h in has-those (was_in P f) C r ∙ and_from (has C r) (was_in P f r) both.0 (in_pairs P f r (get_or (finmap.entries t.below) k no_entry).0 both.1 framed)
      by false framed h = absurd (true≢false (sym h ∙ has-none r))

  -- ---- the ranks with a path that has a frame

  abbrev ends_framed : List ℕ → ℕ → List (Path × Marks) → Bool
  ends_framed f r es = list_any (λ e. has_frame f e.0 && has e.1.1 r) es

  pub has_pair : (f : List ℕ) (r : ℕ) (Q : Pairs) → was_in Q f r ≡ true → (p : Path) × ((is_pair Q r p ≡ true) × (has_frame f p ≡ true))
  has_pair f r [] one = absurd (true≢false (sym one))
  has_pair f r (x ∷ Q) one = elim (or_cases (eqb x.0 r && has_frame f x.1) (was_in Q f r) one) [
    | inl here ↦
        let parts = and_parts (eqb x.0 r) (has_frame f x.1) here in
        (x.1, (or_left (eqb x.0 r && is_path x.1 x.1) (is_pair Q r x.1) (and_from (eqb x.0 r) (is_path x.1 x.1) parts.0 (is_path-itself x.1)), parts.1))
    | inr later ↦ let rest = has_pair f r Q later in (rest.0, (or_right (eqb x.0 r && is_path rest.0 x.1) (is_pair Q r rest.0) rest.1.0, rest.1.1))
  ]

  framed_below : (f : List ℕ) (p : Path) → has_frame f p ≡ true → is_below p ≡ true
  framed_below f [] h = absurd (true≢false (sym h))
  framed_below f (g ∷ p) h = refl

  end_framed : (f : List ℕ) (r : ℕ) (p : Path) (es : List (Path × Marks)) → in_rows (ended r) es p ≡ true → has_frame f p ≡ true → ends_framed f r es ≡ true
  end_framed f r p [] one framed = absurd (true≢false (sym one))
  end_framed f r p (e ∷ es) one framed = elim (or_cases (is_path p e.0 && has e.1.1 r) (in_rows (ended r) es p) one) [
    | inl here ↦
        let parts = and_parts (is_path p e.0) (has e.1.1 r) here in
        or_left (has_frame f e.0 && has e.1.1 r) (ends_framed f r es) (and_from (has_frame f e.0) (has e.1.1 r) (ap (has_frame f) (sym (is_path-exact p e.0 parts.0)) ∙ framed) parts.1)
    | inr later ↦ or_right (has_frame f e.0 && has e.1.1 r) (ends_framed f r es) (end_framed f r p es later framed)
  ]

  some_end : (f : List ℕ) (r : ℕ) (es : List (Path × Marks)) → ends_framed f r es ≡ true → (p : Path) × ((in_rows (ended r) es p ≡ true) × (has_frame f p ≡ true))
  some_end f r [] one = absurd (true≢false (sym one))
  some_end f r (e ∷ es) one = elim (or_cases (has_frame f e.0 && has e.1.1 r) (ends_framed f r es) one) [
    | inl here ↦
        let parts = and_parts (has_frame f e.0) (has e.1.1 r) here in
        (e.0, (or_left (is_path e.0 e.0 && has e.1.1 r) (in_rows (ended r) es e.0) (and_from (is_path e.0 e.0) (has e.1.1 r) (is_path-itself e.0) parts.1), parts.0))
    | inr later ↦ let rest = some_end f r es later in (rest.0, (or_right (is_path rest.0 e.0 && has e.1.1 r) (in_rows (ended r) es rest.0) rest.1.0, rest.1.1))
  ]

  pub framed_ranks : (f : List ℕ) (U : Ranks) → ((r : ℕ) → has U r ≡ ends_framed f r (finmap.entries t.below)) → U ≡ ranks_with f P C
  framed_ranks f U each = same_ranks U (ranks_with f P C) (λ r. each r ∙ both_ways _ _
      (λ one.
      let found = some_end f r (finmap.entries t.below) one in
      let all = sym (is.ends found.0 r) ∙ sym (in_rows-entries (ended r) t.below found.0) ∙ found.1.0 in
      let parts = and_parts (has C r) (is_pair P r found.0) ((and_parts (is_below found.0) (has C r && is_pair P r found.0) all).1) in
      has-those (was_in P f) C r ∙ and_from (has C r) (was_in P f r) parts.0 (in_pairs P f r found.0 parts.1 found.1.1))
      (λ one.
      let parts = and_parts (has C r) (was_in P f r) (sym (has-those (was_in P f) C r) ∙ one) in
      let pair = has_pair f r P parts.1 in
      end_framed f r pair.0 (finmap.entries t.below) (in_rows-entries (ended r) t.below pair.0 ∙ is.ends pair.0 r ∙ (λ i. framed_below f pair.0 pair.1.1 i && (parts.0 i && pair.1.0 i))) pair.1.1))

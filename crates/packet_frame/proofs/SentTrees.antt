-- The rows of a tree may be sent, and give the tree again.
use Rattle.std.proofs.Common.{◌≡◌, ℕ, zero, suc, ◌+◌, ◌-◌, ◌<◌, ◌≤◌, Bool, true, false, not, ◌||◌, ◌&&◌, nat_eq, List, [], ◌∷◌, ◌++◌, length, take, drop, map, Ok, refl, sym, ap, subst, ◌∙◌, arith, ◌⊎◌, inl, inr, T}
use Rattle.std.specs.Prelude.{All, IsTrue, slice_get}
use Rattle.std.specs.Str.{is_utf8}
use Rattle.std.specs.Ordering.{is_eq, is_gt, is_lt, nat_cmp, eq_by_cmp, ordering_then}
use Rattle.std.specs.declared.cmp.Ordering.{Ordering}
use Rattle.std.specs.declared.cmp.Ordering.TheVariants.{Less, Equal, Greater}
use Rattle.std.specs.Cmp.{Equal-is, tied_itself}
use Rattle.std.specs.Cmp.Lexicographic.{slice_cmp, nat_list_cmp_total}
use Rattle.std.specs.FinMap as finmap
use Rattle.std.specs.List.{flat_map}
use Rattle.std.proofs.lemmas.Bool.{true≢false, and_parts, cases_lt, eqb-true}
use Rattle.std.proofs.lemmas.List.{take-append-drop, length-take, length-map}
use Rattle.std.proofs.lemmas.List.Concat.{flat_map-cons}
use Rattle.std.proofs.lemmas.List.Elements.{All-head, All-tail}
use Rattle.rank_set.specs.Ranks.{Ranks, none, has, Has, in_order, size, is_empty, has-none, none_from_size}
use Rattle.call_path.specs.Path.{Path, path_cmp, is_path, is_prefix, path_cmp_total}
use Rattle.call_path.specs.Good.{is_good_frame, IsGoodPath}
use Rattle.call_path.specs.Pairs.{pairs_at, passes, is_pair, is_below}
use Rattle.call_path.proofs.PathLemmas.{is_path-exact}
use Rattle.prefix_tree.specs.Tree.{Tree, Marks, IsTree, tree_of, pairs_of, frame_of}
use Rattle.prefix_tree.specs.Joined.{in_rows, seen, labelled, ended, IsTreeOf}
use Rattle.prefix_tree.specs.Walk.{Follows, parent}
use Rattle.prefix_tree.proofs.Rows.{in_rows-entries, own_row, none_from, first, second, less, turned}
use Rattle.prefix_tree.proofs.PairLemmas.{pair_from_passes}
use Rattle.prefix_tree.proofs.TreeLemmas.{IsTreeOf-from_equal, below_from_prefix, passes-from_here}
use Rattle.prefix_tree.proofs.GoodPaths.{good_in}
use Rattle.prefix_tree.proofs.Walking.{some_there, between, prefix_is_take, IsTree-follows}
use Rattle.packet_frame.specs.declared.packet.Packet.{Packet}
use Rattle.packet_frame.specs.declared.packet.Packet.TheVariants.{Up, Done, Attach, Down}
use Rattle.packet_frame.specs.Frame.{Row, row_of, is_after}
use Rattle.packet_frame.specs.Sent.{sent_from, pairs_of_rows, tree_from, packet_map, as_packet}
use Rattle.packet_frame.specs.Sending.{MayFollow, MayBeRows, MayBeSent, MayBeMessage, IsSpelledOut, HasText, MayBeTree, MayBePacket, spelling_of, AreTreesSent}

-- ---- paths

-- a path is that of its parent, and its last frame
whole_path : (p : Path) → 0 < length p → p ≡ take (length p - 1) p ++ frame_of p ∷ []
whole_path [] some = absurd (omega (arith, some))
whole_path (f ∷ []) some = refl
whole_path (f ∷ g ∷ p) some =
    let n : length (f ∷ g ∷ p) - 1 ≡ suc (length (g ∷ p) - 1) = omega arith in
    ap (λ q. f ∷ q) (whole_path (g ∷ p) (omega arith)) ∙ sym (ap (λ k. take k (f ∷ g ∷ p) ++ frame_of (g ∷ p) ∷ []) n)

last_of_all : (A : List ℕ → Type 0) (p : Path) → All A p → 0 < length p → A (frame_of p)
last_of_all A [] all some = absurd (omega (arith, some))
last_of_all A (f ∷ []) all some = All-head A f [] all
last_of_all A (f ∷ g ∷ p) all some = last_of_all A (g ∷ p) (All-tail A f (g ∷ p) all) (omega arith)

not_below_nothing : (b : Path) → path_cmp b [] ≡ Less → ⊥
not_below_nothing [] e = true≢false (sym (ap is_lt e))
not_below_nothing (f ∷ b) e = true≢false (sym (ap is_lt e))

-- behind a path, one that keeps so many of its frames and has one more goes on with a greater frame
sibling_after : (before : Path) (k : ℕ) (name : List ℕ) → path_cmp before (take k before ++ name ∷ []) ≡ Less → is_after (slice_get before k) name ≡ true
sibling_after [] k name step = refl
sibling_after (f ∷ b) zero name step = by (slice_cmp nat_cmp f name) refl
  where
    by : (o : Ordering) → slice_cmp nat_cmp f name ≡ o → is_lt (slice_cmp nat_cmp f name) ≡ true
    by Less e = ap is_lt e
    by Equal e = absurd (not_below_nothing b (sym (ap (λ o. ordering_then o (path_cmp b [])) e) ∙ step))
    by Greater e = absurd (true≢false (sym (ap is_lt step) ∙ ap (λ o. is_lt (ordering_then o (path_cmp b []))) e))
sibling_after (f ∷ b) (suc k) name step = sibling_after b k name (sym (ap (λ o. ordering_then o (path_cmp b (take k b ++ name ∷ []))) (tied_itself nat_list_cmp_total f)) ∙ step)

-- a path that starts another is no longer, and is the other if it is as long
prefix_within : (q p : Path) → is_prefix q p ≡ true → length q ≤ length p
prefix_within q p h = let e : length q ≡ length (take (length q) p) = ap length (prefix_is_take q p h) in omega (arith, e, length-take (length q) p)

take_all : (n : ℕ) (p : Path) → length p ≤ n → take n p ≡ p
take_all zero [] le = refl
take_all (suc n) [] le = refl
take_all zero (f ∷ p) le = absurd (omega (arith, le))
take_all (suc n) (f ∷ p) le = ap (λ q. f ∷ q) (take_all n p (omega (arith, le)))

whole_prefix : (q p : Path) → is_prefix q p ≡ true → length p ≤ length q → q ≡ p
whole_prefix q p h le = prefix_is_take q p h ∙ take_all (length q) p le

not_itself : (p : Path) → path_cmp p p ≡ Less → ⊥
not_itself p e = true≢false (sym (ap is_lt e) ∙ ap is_lt (tied_itself path_cmp_total p))

-- a path is less than a longer one that it starts
starts_less : (q p : Path) → is_prefix q p ≡ true → length q < length p → path_cmp q p ≡ Less
starts_less [] [] h lt = absurd (omega (arith, lt))
starts_less [] (g ∷ p) h lt = refl
starts_less (f ∷ q) [] h lt = absurd (true≢false (sym h))
starts_less (f ∷ q) (g ∷ p) h lt =
    let parts = and_parts (eq_by_cmp (slice_cmp nat_cmp) f g) (is_prefix q p) h in
    ap (λ o. ordering_then o (path_cmp q p)) ((Equal-is (slice_cmp nat_cmp f g)).0 parts.0) ∙ starts_less q p parts.1 (omega (arith, lt))

-- ---- rows

abbrev each : Marks → Bool
each m = true

abbrev sent_row : Path × Marks → Row
sent_row e = row_of e.0 e.1.1

abbrev BeginsAfter : Path → List (Path × Marks) → Type 0
BeginsAfter p [] = Unit {0}
BeginsAfter p (e ∷ es) = path_cmp p e.0 ≡ Less

abbrev BeginsBelow : Path → List (Path × Marks) → Type 0
BeginsBelow p [] = Unit {0}
BeginsBelow p (e ∷ es) = is_prefix p e.0 ≡ true

-- a row behind a path is behind the first, or is it
next_in : (q : Path) (e : Path × Marks) (es : List (Path × Marks)) → T (finmap.is_sorted path_cmp (e ∷ es)) → in_rows each (e ∷ es) q ≡ true → (is_path q e.0 ≡ true) ⊎ (path_cmp e.0 q ≡ Less)
next_in q e es up there = by (path_cmp q e.0) refl
  where
    by : (o : Ordering) → path_cmp q e.0 ≡ o → (is_path q e.0 ≡ true) ⊎ (path_cmp e.0 q ≡ Less)
    by Less k = absurd (true≢false (sym there ∙ none_from each q e es k up))
    by Equal k = inl (ap is_eq k)
    by Greater k = inr (turned q e.0 Greater k)

all_three : (a b c : Bool) → a ≡ true → b ≡ true → c ≡ true → (a && (b && c)) ≡ true
all_three true true c x y z = z
all_three true false c x y z = absurd (true≢false (sym y))
all_three false b c x y z = absurd (true≢false (sym x))

module _ (t : Tree) (is : IsTree t) where
  abbrev C : Ranks
  C = t.coverage

  h : IsTreeOf (pairs_of t) t.coverage t
  h = IsTreeOf-from_equal (pairs_of t) t.coverage t is

  -- behind a path there stand just these rows
  abbrev Behind : Path → List (Path × Marks) → Type 0
  Behind before rest = (test : Marks → Bool) (q : Path) → path_cmp before q ≡ Less → seen test t.below q ≡ in_rows test rest q

  -- a row below a row in which no path ends
  record HasChild (p : Path) (rest : List (Path × Marks)) : Type 0 where
    path : Path
    starts : is_prefix p path ≡ true
    longer : length p < length path
    there : in_rows each rest path ≡ true

  module _ (before : Path) (e : Path × Marks) (rest : List (Path × Marks)) (up : T (finmap.is_sorted path_cmp (e ∷ rest))) (step : path_cmp before e.0 ≡ Less) (behind : Behind before (e ∷ rest)) where
    here : (test : Marks → Bool) → seen test t.below e.0 ≡ test e.1
    here test = behind test e.0 step ∙ own_row test e rest up

    behind_next : Behind e.0 rest
    behind_next test q lt = behind test q (path_cmp_total.trans before e.0 q step lt) ∙ ap (λ o. (is_eq o && test e.1) || in_rows test rest q) (turned e.0 q Less lt)

    -- where no path ends, paths go on
    child_of : e.1.1 ≡ none → HasChild e.0 rest
    child_of no_ends =
        let some = h.used e.0 (here each) in
        let r = some.0 in
        let parts = and_parts (is_below e.0) (has C r && passes (pairs_of t) r e.0) (sym (h.labels e.0 r) ∙ some.1) in
        let inner = and_parts (has C r) (passes (pairs_of t) r e.0) parts.1 in
        let pair = pair_from_passes (pairs_of t) r e.0 inner.1 in
        let longer : length e.0 < length pair.path = elim (cases_lt (length e.0) (length pair.path)) [
          | inl lt ↦ lt
          | inr le ↦
              let same : pair.path ≡ e.0 = sym (whole_prefix e.0 pair.path pair.starts le) in
              let ends_here : has e.1.1 r ≡ true = sym (here (ended r)) ∙ h.ends e.0 r ∙ all_three (is_below e.0) (has C r) (is_pair (pairs_of t) r e.0) parts.0 inner.0 (ap (is_pair (pairs_of t) r) (sym same) ∙ pair.seen_in) in
              absurd (true≢false (sym ends_here ∙ ap (λ s. has s r) no_ends ∙ has-none r))
        ] in
        let labelled_there : seen (labelled r) t.below pair.path ≡ true = h.labels pair.path r ∙ all_three (is_below pair.path) (has C r) (passes (pairs_of t) r pair.path) (below_from_prefix e.0 pair.path parts.0 pair.starts) inner.0 (passes-from_here (pairs_of t) r pair.path pair.seen_in) in
        record {
          path = pair.path;
          starts = pair.starts;
          longer = longer;
          there = sym (behind_next each pair.path (starts_less e.0 pair.path pair.starts longer)) ∙ some_there r (finmap.get t.below pair.path) labelled_there;
        }

    module _ (ended last : Bool) (follows : parent e.0 ≡ take (length e.0 - 1) before) (good : IsGoodPath e.0) (good_rest : All (λ e. IsGoodPath e.0) rest) (text : is_utf8 (frame_of e.0) ≡ true) (child : ended ≡ false → is_prefix before e.0 ≡ true) (no_rest : last ≡ true → length rest ≡ 0) where
      follows_it : MayFollow C before ended last (sent_row e)
      follows_it =
          let some : 0 < length e.0 = good.some in
          let n = length e.0 - 1 in
          let path : e.0 ≡ take n before ++ frame_of e.0 ∷ [] = whole_path e.0 some ∙ ap (λ q. q ++ frame_of e.0 ∷ []) follows in
          let kept : n ≤ length before = omega (arith, ap length follows, length-take n e.0, length-take n before, some) in
          record {
            keep = n;
            name = frame_of e.0;
            path = path;
            kept = kept;
            low = omega (arith, some, good.good.within_limit);
            child = λ none_end. child_len kept (child none_end);
            good = last_of_all (λ f. IsTrue (is_good_frame f)) e.0 good.good.good some;
            text = text;
            after = sibling_after before n (frame_of e.0) (subst (λ p. path_cmp before p ≡ Less) path step);
            covered = λ r one. covered r one;
            at_last = λ is_last no_ends. none_left rest (no_rest is_last) (child_of no_ends);
            at_depth = λ deep no_ends. too_deep deep some (child_of no_ends);
          }
        where
          child_len : length e.0 - 1 ≤ length before → is_prefix before e.0 ≡ true → length e.0 - 1 ≡ length before
          child_len kept pre = elim (cases_lt (length before) (length e.0)) [
            | inl lt ↦ omega (arith, lt, kept)
            | inr le ↦ absurd (not_itself e.0 (subst (λ p. path_cmp p e.0 ≡ Less) (whole_prefix before e.0 pre le) step))
          ]

          covered : (r : ℕ) → Has r e.1.1 → Has r C
          covered r one =
              let parts = and_parts (is_below e.0) (has C r && is_pair (pairs_of t) r e.0) (sym (h.ends e.0 r) ∙ here (λ m. has m.1 r) ∙ one) in
              (and_parts (has C r) (is_pair (pairs_of t) r e.0) parts.1).0

          none_left : (es : List (Path × Marks)) → length es ≡ 0 → HasChild e.0 es → ⊥
          none_left [] len c = true≢false (sym c.there)
          none_left (x ∷ es) len c = omega (arith, len)

          too_deep : (length e.0 - 1) + 1 ≡ 128 → 0 < length e.0 → HasChild e.0 rest → ⊥
          too_deep deep some c =
              let deeper = good_in rest good_rest c.path c.there in
              omega (arith, deep, some, c.longer, deeper.good.within_limit)

  begins_after : (e : Path × Marks) (rest : List (Path × Marks)) → T (finmap.is_sorted path_cmp (e ∷ rest)) → BeginsAfter e.0 rest
  begins_after e [] up = tt
  begins_after e (f ∷ rest) up = less _ (first _ _ (first _ _ up))

  -- the row behind a row with a child is a child
  begins_below : (p : Path) (rest : List (Path × Marks)) → T (finmap.is_sorted path_cmp rest) → BeginsAfter p rest → HasChild p rest → BeginsBelow p rest
  begins_below p [] up after c = tt
  begins_below p (e ∷ rest) up after c = elim (next_in c.path e rest up c.there) [
    | inl same ↦ ap (is_prefix p) (sym (is_path-exact c.path e.0 same)) ∙ c.starts
    | inr lt ↦
        let parts : p ++ drop (length p) c.path ≡ c.path = ap (λ q. q ++ drop (length p) c.path) (prefix_is_take p c.path c.starts) ∙ take-append-drop (length p) c.path in
        between p (drop (length p) c.path) e.0 (ap is_gt after) (ap (path_cmp e.0) parts ∙ lt)
  ]

  no_member : (s : Ranks) → not (is_empty s) ≡ false → s ≡ none
  no_member s e = none_from_size s (eqb-true (size s) 0 (by (is_empty s) e))
    where
      by : (b : Bool) → not b ≡ false → b ≡ true
      by true e = refl
      by false e = absurd (true≢false e)

  walk : (before : Path) (ended : Bool) (rest : List (Path × Marks)) → T (finmap.is_sorted path_cmp rest) → BeginsAfter before rest → Behind before rest → Follows before rest → All (λ e. IsGoodPath e.0) rest → All (λ e. is_utf8 (frame_of e.0) ≡ true) rest → (ended ≡ false → BeginsBelow before rest) → MayBeRows C before ended (map sent_row rest)
  walk before ended [] up step behind follows good text child = tt
  walk before ended (e ∷ rest) up step behind follows good text child =
      let good_rest = All-tail (λ e. IsGoodPath e.0) e rest good in
      let sorted = second _ _ up in
      let after = begins_after e rest up in (
        follows_it before e rest up step behind ended (nat_eq (length (map sent_row rest)) 0) follows.0 (All-head (λ e. IsGoodPath e.0) e rest good) good_rest (All-head (λ e. is_utf8 (frame_of e.0) ≡ true) e rest text) child (λ none_left. sym (length-map rest sent_row) ∙ eqb-true (length (map sent_row rest)) 0 none_left),
        walk e.0 (not (is_empty e.1.1)) rest sorted after (behind_next before e rest up step behind) follows.1 good_rest (All-tail (λ e. is_utf8 (frame_of e.0) ≡ true) e rest text) (λ none_end. begins_below e.0 rest sorted after (child_of before e rest up step behind (no_member e.1.1 none_end))),
      )

  root_before : (es : List (Path × Marks)) → All (λ e. IsGoodPath e.0) es → BeginsAfter [] es
  root_before [] good = tt
  root_before (e ∷ es) good = root_first e.0 (All-head (λ e. IsGoodPath e.0) e es good)
    where
      root_first : (p : Path) → IsGoodPath p → path_cmp [] p ≡ Less
      root_first [] g = absurd (omega (arith, g.some))
      root_first (f ∷ p) g = refl

  -- the rows of a tree may be sent
  rows_sent : All (λ e. IsGoodPath e.0) (finmap.entries t.below) → HasText t → MayBeRows C [] true (map sent_row (finmap.entries t.below))
  rows_sent good text =
      walk [] true (finmap.entries t.below) (finmap.entries_sorted t.below) (root_before (finmap.entries t.below) good) (λ test q lt. sym (in_rows-entries test t.below q)) (IsTree-follows t is) good text (λ none_end. absurd (true≢false none_end))

pub tree_sent : (version : ℕ) (t : Tree) → MayBeTree version t → MayBeSent version (sent_from t)
tree_sent version t may = record {
  some = may.some;
  small = may.small;
  few = omega (arith, may.lawful.within_limit, length-map (finmap.entries t.below) sent_row, finmap.len-entries t.below);
  rows = rows_sent t may.lawful.tree may.lawful.good may.text;
}

-- ---- and give the tree again

pairs_sent : (es : List (Path × Marks)) → pairs_of_rows (map sent_row es) ≡ flat_map (λ e. pairs_at (in_order e.1.1) e.0) es
pairs_sent [] = refl
pairs_sent (e ∷ es) =
    flat_map-cons (λ (row : Row). pairs_at (in_order row.ends) row.path) (sent_row e) (map sent_row es)
    ∙ ap (λ P. pairs_at (in_order e.1.1) e.0 ++ P) (pairs_sent es)
    ∙ sym (flat_map-cons (λ (e : Path × Marks). pairs_at (in_order e.1.1) e.0) e es)

pub tree_back : (t : Tree) → IsTree t → tree_from (sent_from t) ≡ t
tree_back t is = ap (λ P. tree_of P t.coverage) (pairs_sent (finmap.entries t.below)) ∙ sym is

module _ (version : ℕ) (out : IsSpelledOut version) where
  packet_sent : (p : Packet Tree) → MayBePacket version p → MayBeMessage version (packet_map sent_from p)
  packet_sent (Up stream wave t) may = (may.0, may.1, tree_sent version t may.2)
  packet_sent (Done stream wave) may = may
  packet_sent Attach may = tt
  packet_sent Down may = tt

  packet_back : (p : Packet Tree) → MayBePacket version p → packet_map tree_from (packet_map sent_from p) ≡ p
  packet_back (Up stream wave t) may = λ i. Up stream wave (tree_back t may.2.lawful.tree i)
  packet_back (Done stream wave) may = refl
  packet_back Attach may = refl
  packet_back Down may = refl

  pub trees_sent : AreTreesSent version
  trees_sent = record {
    may = packet_sent;
    again = λ p may front more.
        ap as_packet (out.again (packet_map sent_from p) (packet_sent p may) front more)
        ∙ (λ i. Ok (packet_back p may i, length front + length (spelling_of version p)));
  }

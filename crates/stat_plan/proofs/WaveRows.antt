-- What lines list in a wave.
use Rattle.std.proofs.Common.{◌≡◌, ℕ, suc, zero, ◌+◌, ◌-◌, ◌<◌, ◌≤◌, min, Bool, true, false, ◌&&◌, ◌||◌, nat_eq, List, [], ◌∷◌, ◌++◌, take, drop, get_or, length, refl, sym, ap, subst, ◌∙◌, arith, eqb-true, eq-eqb, inl, inr}
use Rattle.std.specs.List.{list_any, AllByRecursion}
use Rattle.std.specs.List.Sorted.{IsPermutation}
use Rattle.std.proofs.lemmas.Bool.{true≢false, cases_lt, and_parts, and_from, or_cases, or_left, or_right}
use Rattle.std.specs.Prelude.{slice_get, Some}
use Rattle.std.specs.List.{slice_range}
use Rattle.std.proofs.lemmas.List.{drop-take, take-append-drop, take_all, take_more}
use Rattle.std.proofs.lemmas.Option.{none-some, same_Some}
use Rattle.std.proofs.lemmas.List.Folds.{list_any-append}
use Rattle.rank_set.specs.Ranks.{Ranks, has, Has, IsSubset, has-none, is_empty, none_from_size, size}
use Rattle.overlay_setup.specs.NodeSets.{In}
use Rattle.stat_plan.specs.OwnLines.{AreNodeLines, AreParted, AreUnited, AreWaveRows, GainSeen, HasRankOn, is_in, line_sees, lists, ranks_at, ranks_of_lines, row_at, sees}
use Rattle.overlay_setup.specs.Scripts.{is_in_wave}
use Rattle.stat_plan.specs.declared.samples.StackLine.{StackLine}
use Rattle.stat_plan.proofs.FirstOver.{all_in}
use Rattle.stat_plan.proofs.InLists.{any_from_in, in_from_any}
use Rattle.stat_plan.proofs.Sharing.{all_permuted, any_permuted, both_ways}

take-take : (a b : ℕ) (xs : List StackLine) → a ≤ b → take a (take b xs) ≡ take a xs
take-take zero b xs le = refl
take-take (suc a) zero xs le = absurd (omega (arith, le))
take-take (suc a) (suc b) [] le = refl
take-take (suc a) (suc b) (x ∷ xs) le = ap (λ ys. x ∷ ys) (take-take a b xs (omega (arith, le)))

take-min : (n : ℕ) (xs : List StackLine) → take (min (length xs) n) xs ≡ take n xs
take-min n xs = elim (cases_lt n (length xs)) [
  | (inl lt) ↦ ap (λ m. take m xs) (let e : min (length xs) n ≡ n = omega (arith, lt) in e)
  | (inr ge) ↦ ap (λ m. take m xs) (let e : min (length xs) n ≡ length xs = omega (arith, ge) in e) ∙ take_all (length xs) xs (omega arith) ∙ sym (take_all n xs ge)
]

or_none : (b : Bool) → (b || false) ≡ b
or_none true = refl
or_none false = refl

and_none : (b : Bool) → (b && false) ≡ false
and_none true = refl
and_none false = refl

-- ---- a rank that is seen is listed at a time of the wave

pub seen_from : (k w : ℕ) (lines : List StackLine) (r path : ℕ) → sees k w lines r path ≡ true → (t : ℕ) × ((is_in_wave k w t ≡ true) × (is_in lines r t path ≡ true))
seen_from k w lines r path there =
    let found = in_from_any (λ (l : StackLine). line_sees k w l r path) lines there in
    let line = found.0 in
    let parts = and_parts (has line.ranks r) (is_in_wave k w line.time && nat_eq line.path path) found.1.1 in
    let at = and_parts (is_in_wave k w line.time) (nat_eq line.path path) parts.1 in (
      line.time,
      (
        at.0,
        any_from_in (λ (l : StackLine). lists l r line.time path) line lines found.1.0
            (and_from (has line.ranks r) (nat_eq line.time line.time && nat_eq line.path path) parts.0 (and_from (nat_eq line.time line.time) (nat_eq line.path path) (eq-eqb line.time line.time refl) at.1)),
      ),
    )

pub seen_to : (k w : ℕ) (lines : List StackLine) (r t path : ℕ) → is_in_wave k w t ≡ true → is_in lines r t path ≡ true → sees k w lines r path ≡ true
seen_to k w lines r t path in_wave there =
    let found = in_from_any (λ (l : StackLine). lists l r t path) lines there in
    let line = found.0 in
    let parts = and_parts (has line.ranks r) (nat_eq line.time t && nat_eq line.path path) found.1.1 in
    let at = and_parts (nat_eq line.time t) (nat_eq line.path path) parts.1 in
    any_from_in (λ (l : StackLine). line_sees k w l r path) line lines found.1.0
    (and_from (has line.ranks r) (is_in_wave k w line.time && nat_eq line.path path) parts.0
    (and_from (is_in_wave k w line.time) (nat_eq line.path path) (ap (is_in_wave k w) (eqb-true line.time t at.0) ∙ in_wave) at.1))

-- ---- lines that gain what others list

pub all_append : (P : StackLine → Type 0) (xs ys : List StackLine) → AllByRecursion P xs → AllByRecursion P ys → AllByRecursion P (xs ++ ys)
all_append P [] ys all more = more
all_append P (x ∷ xs) ys all more = (all.0, all_append P xs ys all.1 more)

all_front : (P : StackLine → Type 0) (xs ys : List StackLine) → AllByRecursion P (xs ++ ys) → AllByRecursion P xs
all_front P [] ys all = tt
all_front P (x ∷ xs) ys all = (all.0, all_front P xs ys all.1)

all_end : (P : StackLine → Type 0) (xs ys : List StackLine) → AllByRecursion P (xs ++ ys) → AllByRecursion P ys
all_end P [] ys all = all
all_end P (x ∷ xs) ys all = all_end P xs ys all.1

module _ (k w : ℕ) (own : Ranks) where
  -- nothing
  pub gain_none : (old : List StackLine) → GainSeen k w own [] old old
  gain_none old = record {
    each = λ r path. sym (ap (λ b. sees k w old r path || b) (and_none (has own r)) ∙ or_none (sees k w old r path));
    within = λ all. all;
    numbered = λ n more all. all;
  }

  -- a line of which nothing is gained
  pub gain_nothing : (line : StackLine) (old : List StackLine) → ((r path : ℕ) → (has own r && line_sees k w line r path) ≡ false) → GainSeen k w own (line ∷ []) old old
  gain_nothing line old none_seen = record {
    each = λ r path. sym (ap (λ b. sees k w old r path || (has own r && b)) (or_none (line_sees k w line r path)) ∙ ap (λ b. sees k w old r path || b) (none_seen r path) ∙ or_none (sees k w old r path));
    within = λ all. all;
    numbered = λ n more all. all;
  }

  -- a line, of which the part of the ranks goes last
  pub gain_line : (line new : StackLine) (old : List StackLine) → new.time ≡ line.time → new.path ≡ line.path → ((r : ℕ) → has new.ranks r ≡ (has own r && has line.ranks r)) → GainSeen k w own (line ∷ []) old (old ++ new ∷ [])
  gain_line line new old time path ranks = record {
    each = λ r p.
        list_any-append (λ l. line_sees k w l r p) old (new ∷ [])
        ∙ ap (λ b. sees k w old r p || b)
        (or_none (line_sees k w new r p)
        ∙ (λ j. ranks r j && (is_in_wave k w (time j) && nat_eq (path j) p))
        ∙ group (has own r) (has line.ranks r) (is_in_wave k w line.time && nat_eq line.path p)
        ∙ ap (λ b. has own r && b) (sym (or_none (line_sees k w line r p))));
    within = λ all. all_append (λ (l : StackLine). IsSubset l.ranks own) old (new ∷ []) all ((λ r there. (and_parts (has own r) (has line.ranks r) (sym (ranks r) ∙ there)).0), tt);
    numbered = λ n more all. all_append (λ (l : StackLine). l.path < n) old (new ∷ []) all (subst (λ p. p < n) (sym path) more.0, tt);
  }
    where
      group : (a b c : Bool) → ((a && b) && c) ≡ (a && (b && c))
      group true b c = refl
      group false b c = refl

  -- some lines, and then others
  pub gain_both : (xs ys old mid new : List StackLine) → GainSeen k w own xs old mid → GainSeen k w own ys mid new → GainSeen k w own (xs ++ ys) old new
  gain_both xs ys old mid new first second = record {
    each = λ r p.
        second.each r p
        ∙ ap (λ b. b || (has own r && sees k w ys r p)) (first.each r p)
        ∙ spread (sees k w old r p) (has own r) (sees k w xs r p) (sees k w ys r p)
        ∙ ap (λ b. sees k w old r p || (has own r && b)) (sym (list_any-append (λ l. line_sees k w l r p) xs ys));
    within = λ all. second.within (first.within all);
    numbered = λ n more all. second.numbered n (all_end (λ (l : StackLine). l.path < n) xs ys more) (first.numbered n (all_front (λ (l : StackLine). l.path < n) xs ys more) all);
  }
    where
      spread : (o a x y : Bool) → ((o || (a && x)) || (a && y)) ≡ (o || (a && (x || y)))
      spread true a x y = refl
      spread false true x y = refl
      spread false false x y = refl

  -- a line more
  pub gain_more : (more old mid new : List StackLine) (i : ℕ) (line : StackLine) → i < length more → line ≡ get_or more i line → GainSeen k w own (take i more) old mid → GainSeen k w own (line ∷ []) mid new → GainSeen k w own (take (i + 1) more) old new
  gain_more more old mid new i line lt is so_far step =
      subst (λ ls. GainSeen k w own ls old new) (sym (take_more more i line lt ∙ ap (λ l. take i more ++ l ∷ []) (sym is))) (gain_both (take i more) (line ∷ []) old mid new so_far step)

  -- other lines, which list the same of the ranks
  pub gain_same : (xs ys old new : List StackLine) → ((r p : ℕ) → (has own r && sees k w xs r p) ≡ (has own r && sees k w ys r p)) → ((n : ℕ) → AllByRecursion (λ line. line.path < n) ys → AllByRecursion (λ line. line.path < n) xs)
      → GainSeen k w own xs old new → GainSeen k w own ys old new
  gain_same xs ys old new same fewer gain = record {
    each = λ r p. gain.each r p ∙ ap (λ b. sees k w old r p || b) (same r p);
    within = gain.within;
    numbered = λ n more all. gain.numbered n (fewer n more) all;
  }

-- a line at another time lists nothing
pub none_at : (k w : ℕ) (own : Ranks) (line : StackLine) → is_in_wave k w line.time ≡ false → (r p : ℕ) → (has own r && line_sees k w line r p) ≡ false
none_at k w own line other r p = ap (λ b. has own r && (has line.ranks r && (b && nat_eq line.path p))) other ∙ ap (λ b. has own r && b) (and_none (has line.ranks r)) ∙ and_none (has own r)

-- and so does one that has no rank in common with others
pub none_in_common : (k w : ℕ) (own : Ranks) (line : StackLine) (both : Ranks) → is_empty both ≡ true → ((r : ℕ) → has both r ≡ (has own r && has line.ranks r)) → (r p : ℕ) → (has own r && line_sees k w line r p) ≡ false
none_in_common k w own line both empty ranks r p =
    sym (group (has own r) (has line.ranks r) (is_in_wave k w line.time && nat_eq line.path p))
    ∙ ap (λ b. b && (is_in_wave k w line.time && nat_eq line.path p)) (sym (ranks r) ∙ ap (λ s. has s r) (none_from_size both (eqb-true (size both) 0 empty)) ∙ has-none r)
  where
    group : (a b c : Bool) → ((a && b) && c) ≡ (a && (b && c))
    group true b c = refl
    group false b c = refl

-- ---- by the places of lines

-- a line among the first lists a rank in a path
pub record SeenAt (k w : ℕ) (lines : List StackLine) (b r p : ℕ) : Type 0 where
  pub at : ℕ
  pub line : StackLine
  pub before : at < b
  pub there : slice_get lines at ≡ Some line
  pub said : line_sees k w line r p ≡ true

seen_at : (k w : ℕ) (lines : List StackLine) (b r p : ℕ) → sees k w (take b lines) r p ≡ true → SeenAt k w lines b r p
seen_at k w [] zero r p there = absurd (true≢false (sym there))
seen_at k w [] (suc b) r p there = absurd (true≢false (sym there))
seen_at k w (l ∷ lines) zero r p there = absurd (true≢false (sym there))
seen_at k w (l ∷ lines) (suc b) r p there = elim (or_cases (line_sees k w l r p) (sees k w (take b lines) r p) there) [
  | (inl first) ↦ record { at = 0; line = l; before = omega arith; there = refl; said = first }
  | (inr later) ↦ let rest = seen_at k w lines b r p later in record { at = suc rest.at; line = rest.line; before = let lt = rest.before in omega (arith, lt); there = rest.there; said = rest.said }
]

seen_at_to : (k w : ℕ) (lines : List StackLine) (b r p at : ℕ) (line : StackLine) → at < b → slice_get lines at ≡ Some line → line_sees k w line r p ≡ true → sees k w (take b lines) r p ≡ true
seen_at_to k w [] b r p at line before there said = absurd (none-some line there)
seen_at_to k w (l ∷ lines) zero r p at line before there said = absurd (omega (arith, before))
seen_at_to k w (l ∷ lines) (suc b) r p zero line before there said = or_left (line_sees k w l r p) (sees k w (take b lines) r p) (ap (λ x. line_sees k w x r p) (sym (same_Some line l (sym there))) ∙ said)
seen_at_to k w (l ∷ lines) (suc b) r p (suc at) line before there said = or_right (line_sees k w l r p) (sees k w (take b lines) r p) (seen_at_to k w lines b r p at line (omega (arith, before)) there said)

ranks_there : (lines : List StackLine) (at : ℕ) (line : StackLine) → slice_get lines at ≡ Some line → ranks_at (ranks_of_lines lines) at ≡ line.ranks
ranks_there [] at line there = absurd (none-some line there)
ranks_there (l ∷ lines) zero line there = ap (λ (x : StackLine). x.ranks) (sym (same_Some line l (sym there)))
ranks_there (l ∷ lines) (suc at) line there = ranks_there lines at line there

-- lines that no rank's node has a number of are passed over
module _ (k w : ℕ) (own numbers : Ranks) (spread : List StackLine) (indexed : (i r : ℕ) → Has r own → Has r (ranks_at (ranks_of_lines spread) i) → Has i numbers) where
  pub passed : (a b : ℕ) → a ≤ b → ((q : ℕ) → a ≤ q → q < b → has numbers q ≡ false) → (r p : ℕ) → (has own r && sees k w (take a spread) r p) ≡ (has own r && sees k w (take b spread) r p)
  passed a b le skipped r p = both_ways _ _
      (λ there.
      let parts = and_parts (has own r) (sees k w (take a spread) r p) there in
      let at = seen_at k w spread a r p parts.1 in
      and_from (has own r) (sees k w (take b spread) r p) parts.0 (seen_at_to k w spread b r p at.at at.line (let lt = at.before in omega (arith, lt, le)) at.there at.said))
      (λ there.
      let parts = and_parts (has own r) (sees k w (take b spread) r p) there in
      let at = seen_at k w spread b r p parts.1 in
      and_from (has own r) (sees k w (take a spread) r p) parts.0 (elim (cases_lt at.at a) [
        | (inl before) ↦ seen_at_to k w spread a r p at.at at.line before at.there at.said
        | (inr later) ↦ absurd (true≢false (sym (indexed at.at r parts.0 (ap (λ s. has s r) (ranks_there spread at.at at.line at.there) ∙ (and_parts (has at.line.ranks r) (is_in_wave k w at.line.time && nat_eq at.line.path p) at.said).0)) ∙ skipped at.at later at.before))
      ]))

  -- all lines, where none is left
  pub passed_all : (a : ℕ) → ((q : ℕ) → a ≤ q → has numbers q ≡ false) → (r p : ℕ) → (has own r && sees k w (take a spread) r p) ≡ (has own r && sees k w spread r p)
  passed_all a none_left r p = elim (cases_lt a (length spread)) [
    | (inl lt) ↦ passed a (length spread) (omega (arith, lt)) (λ q from before. none_left q from) r p ∙ ap (λ ls. has own r && sees k w ls r p) (take_all (length spread) spread (omega arith))
    | (inr ge) ↦ ap (λ ls. has own r && sees k w ls r p) (take_all a spread ge)
  ]

  -- nothing of the lines is said, where there are no numbers
  pub none_spread : is_empty numbers ≡ true → (r p : ℕ) → Has r own → sees k w spread r p ≡ false
  none_spread empty r p rank =
      let none_left : (q : ℕ) → 0 ≤ q → has numbers q ≡ false = λ q from. ap (λ s. has s q) (none_from_size numbers (eqb-true (size numbers) 0 empty)) ∙ has-none q in
      sym (ap (λ b. b && sees k w spread r p) rank) ∙ sym (passed_all 0 none_left r p) ∙ and_none (has own r)

-- a stretch of lines, after the first
take_split : (xs : List StackLine) (a b : ℕ) → a ≤ b → take b xs ≡ take a xs ++ slice_range xs a b
take_split xs a b le =
    sym (take-append-drop a (take b xs))
    ∙ (λ i. before i ++ after i)
  where
    before : take a (take b xs) ≡ take a xs
    before = take-take a b xs le

    after : drop a (take b xs) ≡ slice_range xs a b
    after = ap (λ n. drop a (take n xs)) (omega (arith, le)) ∙ drop-take a (b - a) xs

pub all_take : (P : StackLine → Type 0) (xs : List StackLine) (n : ℕ) → AllByRecursion P xs → AllByRecursion P (take n xs)
all_take P [] zero all = tt
all_take P [] (suc n) all = tt
all_take P (x ∷ xs) zero all = tt
all_take P (x ∷ xs) (suc n) all = (all.0, all_take P xs n all.1)

module _ (k w : ℕ) (own numbers : Ranks) (spread : List StackLine) (indexed : (i r : ℕ) → Has r own → Has r (ranks_at (ranks_of_lines spread) i) → Has i numbers) (old mid new : List StackLine) where
  -- from a run of numbers on, the lines of the run
  pub run_gained : (from first last at end : ℕ) → from ≤ first → first ≤ last → ((q : ℕ) → from ≤ q → q < first → has numbers q ≡ false) → at ≡ min (length spread) first → end ≡ min (length spread) (last + 1)
      → GainSeen k w own (take from spread) old mid → GainSeen k w own (slice_range spread at end) mid new → GainSeen k w own (take (last + 1) spread) old new
  run_gained from first last at end le run skipped at_is end_is so_far step =
      let to_first : GainSeen k w own (take first spread) old mid = gain_same k w own (take from spread) (take first spread) old mid (passed k w own numbers spread indexed from first le skipped) (λ n all. shorter n all) so_far in
      let upto : GainSeen k w own (take at spread) old mid = subst (λ ls. GainSeen k w own ls old mid) (sym (ap (λ n. take n spread) at_is ∙ take-min first spread)) to_first in
      subst (λ ls. GainSeen k w own ls old new) (sym (take_split spread at end (ends at_is end_is)) ∙ ap (λ n. take n spread) end_is ∙ take-min (last + 1) spread)
      (gain_both k w own (take at spread) (slice_range spread at end) old mid new upto step)
    where
      shorter : (n : ℕ) → AllByRecursion (λ line. line.path < n) (take first spread) → AllByRecursion (λ line. line.path < n) (take from spread)
      shorter n all = subst (AllByRecursion (λ (line : StackLine). line.path < n)) (take-take from first spread le) (all_take (λ (line : StackLine). line.path < n) (take first spread) from all)

      ends : at ≡ min (length spread) first → end ≡ min (length spread) (last + 1) → at ≤ end
      ends a b = omega (arith, a, b, run)

-- ---- the samples of a node, and of a stream's daemons

module _ (placed : List Ranks) (lines spread : List StackLine) (rows : List (List StackLine)) (are : AreParted placed lines spread rows) (k w : ℕ) where
  row_seen : (n r p : ℕ) → n < length placed → sees k w (row_at rows n) r p ≡ true → (has (ranks_at placed n) r && sees k w lines r p) ≡ true
  row_seen n r p below there =
      let at = seen_from k w (row_at rows n) r p there in
      let both = and_parts (has (ranks_at placed n) r) (is_in lines r at.0 p) (sym (are.each n r at.0 p below) ∙ or_left (is_in (row_at rows n) r at.0 p) (has (ranks_at placed n) r && is_in spread r at.0 p) at.1.1) in
      and_from (has (ranks_at placed n) r) (sees k w lines r p) both.0 (seen_to k w lines r at.0 p at.1.0 both.1)

  spread_seen : (r p : ℕ) → sees k w spread r p ≡ true → sees k w lines r p ≡ true
  spread_seen r p there = let at = seen_from k w spread r p there in seen_to k w lines r at.0 p at.1.0 (are.spread_within r at.0 p at.1.1)

  -- what the lines list of a rank of a node, its row or the spread lines list
  found_on : (n r p : ℕ) → n < length placed → Has r (ranks_at placed n) → sees k w lines r p ≡ true → (sees k w (row_at rows n) r p || sees k w spread r p) ≡ true
  found_on n r p below own there =
      let at = seen_from k w lines r p there in
      elim (or_cases (is_in (row_at rows n) r at.0 p) (has (ranks_at placed n) r && is_in spread r at.0 p) (are.each n r at.0 p below ∙ and_from (has (ranks_at placed n) r) (is_in lines r at.0 p) own at.1.1)) [
        | (inl here) ↦ or_left (sees k w (row_at rows n) r p) (sees k w spread r p) (seen_to k w (row_at rows n) r at.0 p at.1.0 here)
        | (inr cut) ↦ or_right (sees k w (row_at rows n) r p) (sees k w spread r p) (seen_to k w spread r at.0 p at.1.0 (and_parts (has (ranks_at placed n) r) (is_in spread r at.0 p) cut).1)
      ]

  -- a node's
  pub node_samples : (n : ℕ) (some : List StackLine) → n < length placed → AreNodeLines k w (ranks_at placed n) (row_at rows n) spread some → AreWaveRows k w (ranks_at placed n) lines some
  node_samples n some below own_are = record {
    within = own_are.within;
    each = λ r p. own_are.each r p ∙ both_ways _ _
        (λ there.
        let parts = and_parts (has (ranks_at placed n) r) (sees k w (row_at rows n) r p || sees k w spread r p) there in
        and_from (has (ranks_at placed n) r) (sees k w lines r p) parts.0 (elim (or_cases (sees k w (row_at rows n) r p) (sees k w spread r p) parts.1) [
          | (inl here) ↦ (and_parts (has (ranks_at placed n) r) (sees k w lines r p) (row_seen n r p below here)).1
          | (inr here) ↦ spread_seen r p here
        ]))
        (λ there.
        let parts = and_parts (has (ranks_at placed n) r) (sees k w lines r p) there in
        and_from (has (ranks_at placed n) r) (sees k w (row_at rows n) r p || sees k w spread r p) parts.0 (found_on n r p below parts.0 parts.1));
  }

  -- those of some daemons, of which these are the ranks
  pub united_seen : (daemons : List ℕ) (own : Ranks) → ((d : ℕ) → In d daemons → d < length placed) → ((r : ℕ) → Has r own → HasRankOn placed daemons r)
      → (r p : ℕ) → (has own r && (list_any (λ d. sees k w (row_at rows d) r p) daemons || sees k w spread r p)) ≡ (has own r && sees k w lines r p)
  united_seen daemons own nodes on r p = both_ways _ _
      (λ there.
      let parts = and_parts (has own r) (list_any (λ d. sees k w (row_at rows d) r p) daemons || sees k w spread r p) there in
      and_from (has own r) (sees k w lines r p) parts.0 (elim (or_cases (list_any (λ d. sees k w (row_at rows d) r p) daemons) (sees k w spread r p) parts.1) [
        | (inl here) ↦
            let found = in_from_any (λ (d : ℕ). sees k w (row_at rows d) r p) daemons here in
            (and_parts (has (ranks_at placed found.0) r) (sees k w lines r p) (row_seen found.0 r p (nodes found.0 found.1.0) found.1.1)).1
        | (inr here) ↦ spread_seen r p here
      ]))
      (λ there.
      let parts = and_parts (has own r) (sees k w lines r p) there in
      let at = on r parts.0 in
      and_from (has own r) (list_any (λ d. sees k w (row_at rows d) r p) daemons || sees k w spread r p) parts.0 (elim (or_cases (sees k w (row_at rows at.node) r p) (sees k w spread r p) (found_on at.node r p (nodes at.node at.there) at.rank parts.1)) [
        | (inl here) ↦ or_left (list_any (λ d. sees k w (row_at rows d) r p) daemons) (sees k w spread r p) (any_from_in (λ (d : ℕ). sees k w (row_at rows d) r p) at.node daemons at.there here)
        | (inr here) ↦ or_right (list_any (λ d. sees k w (row_at rows d) r p) daemons) (sees k w spread r p) here
      ]))

  pub united_samples : (daemons : List ℕ) (own : Ranks) (count : ℕ) (some : List StackLine) → ((d : ℕ) → In d daemons → d < length placed) → ((r : ℕ) → Has r own → HasRankOn placed daemons r)
      → AreUnited k w own rows daemons spread count some → AreWaveRows k w own lines some
  united_samples daemons own count some nodes on united = record { within = united.within; each = λ r p. united.each r p ∙ united_seen daemons own nodes on r p }

-- in another order
pub node_lines_sorted : (k w : ℕ) (own : Ranks) (row spread some sorted : List StackLine) → IsPermutation some sorted → AreNodeLines k w own row spread some → AreNodeLines k w own row spread sorted
node_lines_sorted k w own row spread some sorted moved are = record {
  each = λ r p. any_permuted (λ l. line_sees k w l r p) some sorted moved ∙ are.each r p;
  within = all_permuted (λ (l : StackLine). IsSubset l.ranks own) some sorted moved are.within;
  numbered = λ n row_in spread_in. all_permuted (λ (l : StackLine). l.path < n) some sorted moved (are.numbered n row_in spread_in);
}

-- a node's row, and then the spread lines
pub node_lines_made : (k w : ℕ) (own : Ranks) (row spread mid some : List StackLine) → GainSeen k w own row [] mid → GainSeen k w own spread mid some → AreNodeLines k w own row spread some
node_lines_made k w own row spread mid some first second =
    let both = gain_both k w own row spread [] mid some first second in
    record {
      each = λ r p. both.each r p ∙ ap (λ b. has own r && b) (list_any-append (λ l. line_sees k w l r p) row spread);
      within = both.within tt;
      numbered = λ n row_in spread_in. both.numbered n (all_append (λ (l : StackLine). l.path < n) row spread row_in spread_in) tt;
    }

-- a node's row alone, where no spread line lists a rank of the node
pub node_lines_kept : (k w : ℕ) (own : Ranks) (row spread : List StackLine) → AllByRecursion (λ line. IsSubset line.ranks own) row → ((r p : ℕ) → Has r own → sees k w spread r p ≡ false) → AreNodeLines k w own row spread row
node_lines_kept k w own row spread within none_seen = record {
  each = λ r p. both_ways _ _
      (λ there. and_from (has own r) (sees k w row r p || sees k w spread r p) (rank r p there) (or_left (sees k w row r p) (sees k w spread r p) there))
      (λ there.
      let parts = and_parts (has own r) (sees k w row r p || sees k w spread r p) there in
      elim (or_cases (sees k w row r p) (sees k w spread r p) parts.1) [ (inl here) ↦ here | (inr here) ↦ absurd (true≢false (sym here ∙ none_seen r p parts.0)) ]);
  within = within;
  numbered = λ n row_in spread_in. row_in;
}
  where
    rank : (r p : ℕ) → sees k w row r p ≡ true → has own r ≡ true
    rank r p there =
        let found = in_from_any (λ (l : StackLine). line_sees k w l r p) row there in
        all_in (λ (l : StackLine). IsSubset l.ranks own) row found.0 within found.1.0 r (and_parts (has found.0.ranks r) (is_in_wave k w found.0.time && nat_eq found.0.path p) found.1.1).0

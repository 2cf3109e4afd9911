-- The ranks that lines list in each path, gathered.
use Rattle.std.proofs.Common.{◌≡◌, ℕ, suc, zero, ◌+◌, ◌<◌, ◌≤◌, Bool, true, false, ◌&&◌, ◌||◌, nat_eq, List, [], ◌∷◌, ◌++◌, take, drop, get_or, set, length, refl, sym, ap, subst, ◌∙◌, arith, eqb-true, eq-eqb, inl, inr}
use Rattle.std.specs.Prelude.{nat_lt, not}
use Rattle.std.specs.List.{list_any, AllByRecursion}
use Rattle.std.specs.List.Sorted.{IsPermutation}
use Rattle.std.proofs.lemmas.Bool.{true≢false, cases_Bool, cases_lt, eqb-false, le-ltb, lt-ltb, and_parts, and_from, false_from_ne_true}
use Rattle.std.proofs.Math.Seq.{take-append_seam}
use Rattle.std.proofs.lemmas.List.{append_assoc, get_or-set_same, get_or-set_other, get_or_default, length-append, length-set, take-append-drop, take_all, take_more}
use Rattle.std.proofs.lemmas.List.Folds.{list_any-append}
use Rattle.rank_set.specs.Ranks.{Ranks, none, has, IsSubset, has-none, has-those, is_empty, is_subset, none_from_size, size, subset_has, those}
use Rattle.overlay_setup.specs.NodeSets.{In}
use Rattle.stat_plan.specs.OwnLines.{AreLinesOf, AreRanksSeen, AreUnited, GainRanksSeen, is_in, line_sees, lists, ranks_at, row_at, sees}
use Rattle.overlay_setup.specs.Scripts.{is_in_wave}
use Rattle.stat_plan.specs.declared.samples.StackLine.{StackLine}
use Rattle.stat_plan.proofs.FirstOver.{all_in}
use Rattle.stat_plan.proofs.InLists.{in_from_any}
use Rattle.stat_plan.proofs.Sharing.{all_permuted, any_permuted, both_ways}
use Rattle.stat_plan.proofs.WaveRows.{all_append, seen_from, seen_to}

or_none : (b : Bool) → (b || false) ≡ b
or_none true = refl
or_none false = refl

and_none : (b : Bool) → (b && false) ≡ false
and_none true = refl
and_none false = refl

and_swap : (a b : Bool) → (a && b) ≡ (b && a)
and_swap true true = refl
and_swap true false = refl
and_swap false true = refl
and_swap false false = refl

-- ---- what two sets have in common

-- a set of ranks that are all among others
pub common_subset : (ranks own both : Ranks) → is_subset ranks own ≡ true → both ≡ ranks → (r : ℕ) → has both r ≡ (has own r && has ranks r)
common_subset ranks own both subset is r = ap (λ s. has s r) is ∙ by (has own r) (has ranks r) (subset_has ranks own subset r)
  where
    by : (o s : Bool) → (s ≡ true → o ≡ true) → s ≡ (o && s)
    by true s sub = refl
    by false true sub = sym (sub refl)
    by false false sub = refl

-- the ranks of a set that are among others
pub common_those : (ranks own both : Ranks) → both ≡ those (has ranks) own → (r : ℕ) → has both r ≡ (has own r && has ranks r)
common_those ranks own both is r = ap (λ s. has s r) is ∙ has-those (has ranks) own r

pub common_swap : (ranks own both : Ranks) → both ≡ those (has own) ranks → (r : ℕ) → has both r ≡ (has own r && has ranks r)
common_swap ranks own both is r = ap (λ s. has s r) is ∙ has-those (has own) ranks r ∙ and_swap (has ranks r) (has own r)

-- ---- lines gathered one after another

module _ (k w : ℕ) (own : Ranks) where
  pub gather_none : (old : List Ranks) → GainRanksSeen k w own [] old old
  gather_none old = record { paired = refl; each = λ r p below. sym (ap (λ b. has (ranks_at old p) r || b) (and_none (has own r)) ∙ or_none (has (ranks_at old p) r)) }

  module _ (lines : List StackLine) (i : ℕ) (line : StackLine) (lt : i < length lines) (is : line ≡ get_or lines i line) (old mid : List Ranks) (so_far : GainRanksSeen k w own (take i lines) old mid) where
    one_more : (r p : ℕ) → sees k w (take (i + 1) lines) r p ≡ (sees k w (take i lines) r p || line_sees k w line r p)
    one_more r p =
        ap (λ xs. sees k w xs r p) (take_more lines i line lt ∙ ap (λ l. take i lines ++ l ∷ []) (sym is))
        ∙ list_any-append (λ l. line_sees k w l r p) (take i lines) (line ∷ [])
        ∙ ap (λ b. sees k w (take i lines) r p || b) (or_none (line_sees k w line r p))

    -- where the line says nothing of a path
    nothing : (r p : ℕ) → line_sees k w line r p ≡ false → (has (ranks_at old p) r || (has own r && sees k w (take i lines) r p)) ≡ (has (ranks_at old p) r || (has own r && sees k w (take (i + 1) lines) r p))
    nothing r p silent = sym (ap (λ b. has (ranks_at old p) r || (has own r && b)) (one_more r p ∙ ap (λ b. sees k w (take i lines) r p || b) silent ∙ or_none (sees k w (take i lines) r p)))

    -- a line at another time
    pub gather_skip : is_in_wave k w line.time ≡ false → GainRanksSeen k w own (take (i + 1) lines) old mid
    gather_skip other = record {
      paired = so_far.paired;
      each = λ r p below. so_far.each r p below ∙ nothing r p (ap (λ b. has line.ranks r && (b && nat_eq line.path p)) other ∙ and_none (has line.ranks r));
    }

    -- a line of the wave
    pub gather_more : (d more : Ranks) → is_in_wave k w line.time ≡ true → line.path < length mid → ((r : ℕ) → has more r ≡ (has (get_or mid line.path d) r || (has own r && has line.ranks r))) → GainRanksSeen k w own (take (i + 1) lines) old (set mid line.path more)
    gather_more d more in_wave inside gained = record {
      paired = length-set mid line.path more ∙ so_far.paired;
      each = λ r p below. elim (cases_Bool (nat_eq p line.path)) [
        | (inl same) ↦ at_path r p below (eqb-true p line.path same)
        | (inr other) ↦
            ap (λ s. has s r) (get_or-set_other mid line.path p more none (eqb-false p line.path other))
            ∙ so_far.each r p below
            ∙ nothing r p (ap (λ b. has line.ranks r && (is_in_wave k w line.time && b)) (false_from_ne_true (nat_eq line.path p) (λ e. eqb-false p line.path other (sym (eqb-true line.path p e)))) ∙ ap (λ b. has line.ranks r && b) (and_none (is_in_wave k w line.time)) ∙ and_none (has line.ranks r))
      ];
    }
      where
        regroup : (o a x y : Bool) → ((o || (a && x)) || (a && y)) ≡ (o || (a && (x || y)))
        regroup true a x y = refl
        regroup false true x y = refl
        regroup false false x y = refl

        and_all : (b : Bool) → (b && true) ≡ b
        and_all true = refl
        and_all false = refl

        said : (r p : ℕ) → p ≡ line.path → line_sees k w line r p ≡ has line.ranks r
        said r p same = (λ j. has line.ranks r && (in_wave j && eq-eqb line.path p (sym same) j)) ∙ and_all (has line.ranks r)

        at_path : (r p : ℕ) → p < length old → p ≡ line.path → has (ranks_at (set mid line.path more) p) r ≡ (has (ranks_at old p) r || (has own r && sees k w (take (i + 1) lines) r p))
        at_path r p below same =
            ap (λ q. has (ranks_at (set mid line.path more) q) r) same
            ∙ ap (λ s. has s r) (get_or-set_same mid line.path more none inside)
            ∙ gained r
            ∙ ap (λ s. has s r || (has own r && has line.ranks r)) (get_or_default mid line.path d none inside ∙ ap (ranks_at mid) (sym same))
            ∙ ap (λ b. b || (has own r && has line.ranks r)) (so_far.each r p below)
            ∙ regroup (has (ranks_at old p) r) (has own r) (sees k w (take i lines) r p) (has line.ranks r)
            ∙ ap (λ b. has (ranks_at old p) r || (has own r && b)) (ap (λ b. sees k w (take i lines) r p || b) (sym (said r p same)) ∙ sym (one_more r p))

-- ---- the rows of some daemons, and the spread lines

-- by path number, the ranks that the rows of some daemons list
pub record AreRowsSeen (k w : ℕ) (own : Ranks) (rows : List (List StackLine)) (daemons : List ℕ) (count : ℕ) (sets : List Ranks) : Type 0 where
  pub long : length sets ≡ count
  pub each : (r path : ℕ) → path < count → has (ranks_at sets path) r ≡ (has own r && list_any (λ d. sees k w (row_at rows d) r path) daemons)

module _ (k w : ℕ) (own : Ranks) (rows : List (List StackLine)) (count : ℕ) where
  group : (a x y : Bool) → ((a && x) || (a && y)) ≡ (a && (x || y))
  group true x y = refl
  group false x y = refl

  pub rows_seen_none : (sets : List Ranks) → length sets ≡ count → ((p : ℕ) → p < count → ranks_at sets p ≡ none) → AreRowsSeen k w own rows [] count sets
  rows_seen_none sets long empty = record { long = long; each = λ r p below. ap (λ s. has s r) (empty p below) ∙ has-none r ∙ sym (and_none (has own r)) }

  pub rows_seen_more : (daemons : List ℕ) (i d : ℕ) (row : List StackLine) (old new : List Ranks) → i < length daemons → d ≡ get_or daemons i d → row ≡ row_at rows d → AreRowsSeen k w own rows (take i daemons) count old → GainRanksSeen k w own row old new → AreRowsSeen k w own rows (take (i + 1) daemons) count new
  rows_seen_more daemons i d row old new lt is row_is so_far gain = record {
    long = gain.paired ∙ so_far.long;
    each = λ r p below.
        gain.each r p (subst (λ n. p < n) (sym so_far.long) below)
        ∙ (λ j. so_far.each r p below j || (has own r && sees k w (row_is j) r p))
        ∙ group (has own r) (list_any (λ d. sees k w (row_at rows d) r p) (take i daemons)) (sees k w (row_at rows d) r p)
        ∙ ap (λ b. has own r && b) (sym (ap (list_any (λ d. sees k w (row_at rows d) r p)) (take_more daemons i d lt ∙ ap (λ e. take i daemons ++ e ∷ []) (sym is)) ∙ list_any-append (λ d. sees k w (row_at rows d) r p) (take i daemons) (d ∷ []) ∙ ap (λ b. list_any (λ d. sees k w (row_at rows d) r p) (take i daemons) || b) (or_none (sees k w (row_at rows d) r p))));
  }

  pub all_seen : (daemons : List ℕ) (spread : List StackLine) (old new : List Ranks) → AreRowsSeen k w own rows daemons count old → GainRanksSeen k w own spread old new → AreRanksSeen k w own rows daemons spread new
  all_seen daemons spread old new so_far gain = record {
    each = λ r p below.
        let inside = subst (λ n. p < n) gain.paired below in
        gain.each r p inside
        ∙ ap (λ b. b || (has own r && sees k w spread r p)) (so_far.each r p (subst (λ n. p < n) so_far.long inside))
        ∙ group (has own r) (list_any (λ d. sees k w (row_at rows d) r p) daemons) (sees k w spread r p);
  }

-- lines whose paths have numbers in range list nothing in a path beyond
none_beyond : (k w n : ℕ) (lines : List StackLine) (r p : ℕ) → AllByRecursion (λ line. line.path < n) lines → n ≤ p → sees k w lines r p ≡ false
none_beyond k w n lines r p all beyond = false_from_ne_true (sees k w lines r p) (λ there.
    let found = in_from_any (λ (l : StackLine). line_sees k w l r p) lines there in
    let parts = and_parts (has found.0.ranks r) (is_in_wave k w found.0.time && nat_eq found.0.path p) found.1.1 in
    let at = eqb-true found.0.path p (and_parts (is_in_wave k w found.0.time) (nat_eq found.0.path p) parts.1).1 in
    let below = all_in (λ (l : StackLine). l.path < n) lines found.0 all found.1.0 in
    omega (arith, at, below, beyond))

past : (sets : List Ranks) (n : ℕ) → length sets ≤ n → ranks_at sets n ≡ none
past [] n le = refl
past (s ∷ sets) zero le = absurd (omega (arith, le))
past (s ∷ sets) (suc n) le = past sets n (omega (arith, le))

lt-not_le : (p n : ℕ) → p < n → not (nat_lt p n) ≡ false
lt-not_le p n lt = ap not (lt-ltb p n lt)

le-le : (n p : ℕ) → n ≤ p → not (nat_lt p n) ≡ true
le-le n p le = ap not (le-ltb p n le)

get_or-seam : (xs ys : List Ranks) (x d : Ranks) → get_or (xs ++ x ∷ ys) (length xs) d ≡ x
get_or-seam [] ys x d = refl
get_or-seam (z ∷ zs) ys x d = get_or-seam zs ys x d

-- the lines of the last sets, of which those left come first
pub record AreLinesFrom (sets : List Ranks) (time : ℕ) (left : List Ranks) (lines : List StackLine) : Type 0 where
  pub left_is : left ≡ take (length left) sets
  pub count : length left ≤ length sets
  pub each : (r t path : ℕ) → is_in lines r t path ≡ (not (nat_lt path (length left)) && (has (ranks_at sets path) r && nat_eq time t))
  pub within : (own : Ranks) → ((path : ℕ) → IsSubset (ranks_at sets path) own) → AllByRecursion (λ line. IsSubset line.ranks own) lines
  pub numbered : AllByRecursion (λ line. line.path < length sets) lines

-- all sets are left
pub lines_from_none : (sets : List Ranks) (time : ℕ) (lines : List StackLine) → lines ≡ [] → AreLinesFrom sets time sets lines
lines_from_none sets time lines empty = subst (AreLinesFrom sets time sets) (sym empty) (record {
  left_is = sym (take_all (length sets) sets (omega arith));
  count = omega arith;
  each = λ r t p. sym (elim (cases_lt p (length sets)) [
    | (inl below) ↦ ap (λ b. b && (has (ranks_at sets p) r && nat_eq time t)) (lt-not_le p (length sets) below)
    | (inr beyond) ↦ ap (λ b. not (nat_lt p (length sets)) && (b && nat_eq time t)) (ap (λ s. has s r) (past sets p beyond) ∙ has-none r) ∙ and_none (not (nat_lt p (length sets)))
  ]);
  within = λ own all. tt;
  numbered = tt;
})

-- no set is left
pub lines_from_all : (sets : List Ranks) (time : ℕ) (left : List Ranks) (lines : List StackLine) → length left ≡ 0 → AreLinesFrom sets time left lines → AreLinesOf sets time lines
lines_from_all sets time left lines empty are = record {
  each = λ r t p. are.each r t p ∙ ap (λ n. not (nat_lt p n) && (has (ranks_at sets p) r && nat_eq time t)) empty ∙ ap (λ b. b && (has (ranks_at sets p) r && nat_eq time t)) (le-le 0 p (omega arith));
  within = are.within;
  numbered = are.numbered;
}

-- one set fewer is left
module _ (sets : List Ranks) (time : ℕ) (left rest : List Ranks) (lines : List StackLine) (ranks : Ranks) (so_far : AreLinesFrom sets time left lines) (popped : left ≡ rest ++ ranks ∷ []) where
  fewer : length left ≡ length rest + 1
  fewer = ap length popped ∙ length-append rest (ranks ∷ [])

  whole : sets ≡ rest ++ (ranks ∷ drop (length left) sets)
  whole = sym (take-append-drop (length left) sets) ∙ ap (λ xs. xs ++ drop (length left) sets) (sym so_far.left_is ∙ popped) ∙ append_assoc rest (ranks ∷ []) (drop (length left) sets)

  rest_is : rest ≡ take (length rest) sets
  rest_is = sym (ap (take (length rest)) whole ∙ take-append_seam rest (ranks ∷ drop (length left) sets))

  last_is : ranks_at sets (length rest) ≡ ranks
  last_is = ap (λ xs. get_or xs (length rest) none) whole ∙ get_or-seam rest (drop (length left) sets) ranks none

  next : (r t p : ℕ) → (not (nat_lt p (length rest)) && (has (ranks_at sets p) r && nat_eq time t)) ≡ ((not (nat_lt p (length left)) && (has (ranks_at sets p) r && nat_eq time t)) || (has ranks r && (nat_eq time t && nat_eq (length rest) p)))
  next r t p = elim (cases_lt p (length rest)) [
    | (inl below) ↦ ap (λ b. b && (has (ranks_at sets p) r && nat_eq time t)) (lt-not_le p (length rest) below) ∙ sym ((λ j. (lt-not_le p (length left) (let a = fewer in omega (arith, a, below)) j && (has (ranks_at sets p) r && nat_eq time t)) || (has ranks r && (nat_eq time t && other p (λ e. omega (arith, e, below)) j))) ∙ ap (λ b. has ranks r && b) (and_none (nat_eq time t)) ∙ and_none (has ranks r))
    | (inr from) ↦ elim (cases_lt p (length left)) [
      | (inl here) ↦
          let same : length rest ≡ p = let a = fewer in omega (arith, a, from, here) in
          (λ j. le-le (length rest) p from j && (has (ranks_at sets p) r && nat_eq time t))
          ∙ ap (λ s. has s r && nat_eq time t) (ap (ranks_at sets) (sym same) ∙ last_is)
          ∙ ap (λ b. has ranks r && b) (sym (ap (λ b. nat_eq time t && b) (eq-eqb (length rest) p same) ∙ and_true (nat_eq time t)))
          ∙ sym (ap (λ b. (b && (has (ranks_at sets p) r && nat_eq time t)) || (has ranks r && (nat_eq time t && nat_eq (length rest) p))) (lt-not_le p (length left) here))
      | (inr beyond) ↦
          (λ j. le-le (length rest) p from j && (has (ranks_at sets p) r && nat_eq time t))
          ∙ sym ((λ j. (le-le (length left) p beyond j && (has (ranks_at sets p) r && nat_eq time t)) || (has ranks r && (nat_eq time t && other p (λ e. let a = fewer in omega (arith, a, e, beyond)) j))) ∙ ap (λ b. (has (ranks_at sets p) r && nat_eq time t) || b) (ap (λ b. has ranks r && b) (and_none (nat_eq time t)) ∙ and_none (has ranks r)) ∙ or_none (has (ranks_at sets p) r && nat_eq time t))
    ]
  ]
    where
      other : (p : ℕ) → (length rest ≡ p → ⊥) → nat_eq (length rest) p ≡ false
      other p ne = false_from_ne_true (nat_eq (length rest) p) (λ e. ne (eqb-true (length rest) p e))

      and_true : (b : Bool) → (b && true) ≡ b
      and_true true = refl
      and_true false = refl

  -- an empty set has no line
  pub lines_from_skip : is_empty ranks ≡ true → AreLinesFrom sets time rest lines
  lines_from_skip empty = record {
    left_is = rest_is;
    count = let a = fewer in let le = so_far.count in omega (arith, a, le);
    each = λ r t p. so_far.each r t p ∙ sym (next r t p ∙ ap (λ b. (not (nat_lt p (length left)) && (has (ranks_at sets p) r && nat_eq time t)) || (b && (nat_eq time t && nat_eq (length rest) p))) (ap (λ s. has s r) (none_from_size ranks (eqb-true (size ranks) 0 empty)) ∙ has-none r) ∙ or_none (not (nat_lt p (length left)) && (has (ranks_at sets p) r && nat_eq time t)));
    within = so_far.within;
    numbered = so_far.numbered;
  }

  -- another has one
  pub lines_from_more : (new : StackLine) → new.time ≡ time → new.path ≡ length rest → new.ranks ≡ ranks → AreLinesFrom sets time rest (lines ++ new ∷ [])
  lines_from_more new at path is = record {
    left_is = rest_is;
    count = let a = fewer in let le = so_far.count in omega (arith, a, le);
    each = λ r t p.
        list_any-append (λ l. lists l r t p) lines (new ∷ [])
        ∙ (λ j. so_far.each r t p j || or_none (has (is j) r && (nat_eq (at j) t && nat_eq (path j) p)) j)
        ∙ sym (next r t p);
    within = λ own all. all_append (λ (l : StackLine). IsSubset l.ranks own) lines (new ∷ []) (so_far.within own all) ((λ r there. all (length rest) r (ap (λ s. has s r) (last_is ∙ sym is) ∙ there)), tt);
    numbered = all_append (λ (l : StackLine). l.path < length sets) lines (new ∷ []) so_far.numbered ((let a = fewer in let le = so_far.count in omega (arith, a, le, path)), tt);
  }

-- one line for each set, in any order
module _ (k w : ℕ) (own : Ranks) (rows : List (List StackLine)) (daemons : List ℕ) (spread : List StackLine) (count time : ℕ) (sets : List Ranks) (lines sorted : List StackLine) where
  pub united : length sets ≡ count → is_in_wave k w time ≡ true
      → ((d : ℕ) → In d daemons → AllByRecursion (λ line. line.path < count) (row_at rows d)) → AllByRecursion (λ line. line.path < count) spread
      → AreRanksSeen k w own rows daemons spread sets → AreLinesOf sets time lines → IsPermutation lines sorted → AreUnited k w own rows daemons spread count sorted
  united long in_wave rows_in spread_in seen are moved = record {
    each = λ r p.
        any_permuted (λ l. line_sees k w l r p) lines sorted moved
        ∙ both_ways (sees k w lines r p) (has (ranks_at sets p) r)
        (λ there. let at = seen_from k w lines r p there in (and_parts (has (ranks_at sets p) r) (nat_eq time at.0) (sym (are.each r at.0 p) ∙ at.1.1)).0)
        (λ there. seen_to k w lines r time p in_wave (are.each r time p ∙ and_from (has (ranks_at sets p) r) (nat_eq time time) there (eq-eqb time time refl)))
        ∙ elim (cases_lt p (length sets)) [
          | (inl below) ↦ seen.each r p below
          | (inr beyond) ↦ outside r p (subst (λ n. n ≤ p) long beyond)
        ];
    within = all_permuted (λ (l : StackLine). IsSubset l.ranks own) lines sorted moved (are.within own (λ p r there. elim (cases_lt p (length sets)) [
      | (inl below) ↦ (and_parts (has own r) (list_any (λ d. sees k w (row_at rows d) r p) daemons || sees k w spread r p) (sym (seen.each r p below) ∙ there)).0
      | (inr beyond) ↦ absurd (true≢false (sym there ∙ ap (λ s. has s r) (past sets p beyond) ∙ has-none r))
    ]));
    numbered = all_permuted (λ (l : StackLine). l.path < count) lines sorted moved (subst (λ n. AllByRecursion (λ line. line.path < n) lines) long are.numbered);
  }
    where
      outside : (r p : ℕ) → count ≤ p → has (ranks_at sets p) r ≡ (has own r && (list_any (λ d. sees k w (row_at rows d) r p) daemons || sees k w spread r p))
      outside r p beyond =
          ap (λ s. has s r) (past sets p (subst (λ n. n ≤ p) (sym long) beyond))
          ∙ has-none r
          ∙ sym (ap (λ b. has own r && b) (ap (λ b. b || sees k w spread r p) (false_from_ne_true (list_any (λ d. sees k w (row_at rows d) r p) daemons) (λ there.
          let found = in_from_any (λ (d : ℕ). sees k w (row_at rows d) r p) daemons there in
          true≢false (sym found.1.1 ∙ none_beyond k w count (row_at rows found.0) r p (rows_in found.0 found.1.0) beyond))) ∙ none_beyond k w count spread r p spread_in beyond) ∙ and_none (has own r))

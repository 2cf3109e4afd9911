-- Where states come from, and the paths that led to them.
use Rattle.std.proofs.Common.{◌≡◌, ℕ, zero, suc, ◌<◌, ◌≤◌, Bool, true, false, cond, eqb, List, [], ◌∷◌, ◌++◌, length, get_or, set, map, drop, take, refl, sym, ap, ◌∙◌, subst, inl, inr, arith, append_assoc, reverse}
use Rattle.std.specs.List.{filter}
use Rattle.std.proofs.lemmas.Bool.{cases_eq, cases_lt, cases_Bool, ne_eqb, lt-ltb, le-ltb}
use Rattle.std.proofs.lemmas.List.{get_or_append_left, get_or_past, length-append, length-set, reverse-append}
use Rattle.std.proofs.Math.Seq.{get_or-append_seam}
use Rattle.rank_set.specs.Ranks.{Ranks, has}
use Rattle.call_path.specs.Path.{Path}
use Rattle.equiv_class.specs.SeenPaths.{entries_view, entry_of, paths_to}
use Rattle.equiv_class.specs.States.{AreTables, with_next}
use Rattle.equiv_class.specs.Origins.{AreOrigins, HaveOrigins, last_paths, origin, origin_of, path_at, paths_before, with_origin}
use Rattle.equiv_class.specs.declared.SeenPath.{SeenPath}
use Rattle.equiv_class.specs.declared.states.Origin.{Origin}
use Rattle.equiv_class.proofs.Parting.{next_at, next_elsewhere}

-- while the ranks of a set move on, the states from `base` on have their origins, and the others keep theirs
pub record AreNoted (path base : ℕ) (earlier : List Origin) (next : List ℕ) (origins : List Origin) : Type 0 where
  pub kept : (k : ℕ) → k < base → origin_of origins k ≡ origin_of earlier k
  pub led : (k : ℕ) → base ≤ get_or next k 0 → origin_of origins (get_or next k 0) ≡ origin k path

-- one origin more
module _ (origins : List Origin) (o : Origin) where
  abbrev more : List Origin
  more = origins ++ o ∷ []

  more_before : (k : ℕ) → k < length origins → origin_of more k ≡ origin_of origins k
  more_before k lt = get_or_append_left origins (o ∷ []) (origin 0 0) k lt

  more_at : (k : ℕ) → k ≡ length origins → origin_of more k ≡ o
  more_at k is = ap (origin_of more) is ∙ get_or-append_seam origins o [] (origin 0 0)

  more_past : (k : ℕ) → length origins < k → origin_of more k ≡ origin 0 0
  more_past k lt = get_or_past more k (origin 0 0) (omega (arith, lt, length-append origins (o ∷ [])))

-- the state after state k is new
module _ (path base k : ℕ) (earlier : List Origin) (next : List ℕ) (origins : List Origin) (room : base ≤ length next) (k_below : k < base)
    (within : (j : ℕ) → get_or next j 0 < length next) (all : AreOrigins next origins) (h : AreNoted path base earlier next origins) where
  abbrev new_next : List ℕ
  new_next = with_next base k next

  abbrev new_origins : List Origin
  new_origins = origins ++ origin k path ∷ []

  made : get_or next k 0 < base → length new_next ≡ suc (length next)
  made fresh =
      ap (λ b. length (cond b (set next k (length next) ++ 0 ∷ []) next)) (lt-ltb (get_or next k 0) base fresh)
      ∙ omega (arith, length-append (set next k (length next)) (0 ∷ []), length-set next k (length next))

  origins_new : get_or next k 0 < base → AreOrigins new_next new_origins
  origins_new fresh = record {
    one_each = omega (arith, made fresh, length-append origins (origin k path ∷ []), all.one_each);
    backward = λ j some. elim (cases_lt j (length origins)) [
      | inl lt ↦ subst (λ (o : Origin). o.from < j) (sym (more_before origins (origin k path) j lt)) (all.backward j some)
      | inr ge ↦ elim (cases_eq j (length origins)) [
        | inl is ↦ subst (λ (o : Origin). o.from < j) (sym (more_at origins (origin k path) j is)) (omega (arith, is, k_below, room, all.one_each))
        | inr ne ↦ subst (λ (o : Origin). o.from < j) (sym (more_past origins (origin k path) j (omega (arith, ge, ne)))) some
      ]
    ];
  }

  noted_new : get_or next k 0 < base → AreNoted path base earlier new_next new_origins
  noted_new fresh = record {
    kept = λ j lt. more_before origins (origin k path) j (omega (arith, lt, room, all.one_each)) ∙ h.kept j lt;
    led = λ j ge. elim (cases_eq j k) [
      | inl is ↦ more_at origins (origin k path) (get_or new_next j 0)
          (ap (λ x. get_or new_next x 0) is ∙ next_at base k next (omega (arith, k_below, room)) room
          ∙ ap (λ b. cond b (length next) (get_or next k 0)) (lt-ltb (get_or next k 0) base fresh) ∙ sym all.one_each)
          ∙ ap (λ x. origin x path) (sym is)
      | inr ne ↦
          let same : get_or new_next j 0 ≡ get_or next j 0 = next_elsewhere base k next (omega (arith, k_below, room)) room j ne in
          ap (origin_of new_origins) same ∙ more_before origins (origin k path) (get_or next j 0) (omega (arith, within j, all.one_each))
          ∙ h.led j (omega (arith, ge, same))
    ];
  }

-- one state moves on
pub note_step : (path base k : ℕ) (earlier : List Origin) (next next' : List ℕ) (origins origins' : List Origin) → base ≤ length next → k < base
    → ((j : ℕ) → get_or next j 0 < length next) → next' ≡ with_next base k next → origins' ≡ with_origin base k path next origins → AreOrigins next origins
    → AreNoted path base earlier next origins → AreOrigins next' origins' × AreNoted path base earlier next' origins'
note_step path base k earlier next next' origins origins' room k_below within is_next is_origins all h = elim (cases_lt (get_or next k 0) base) [
  | inl fresh ↦
      let is : origins' ≡ origins ++ origin k path ∷ [] = is_origins ∙ ap (λ b. cond b (origins ++ origin k path ∷ []) origins) (lt-ltb (get_or next k 0) base fresh) in
      both (with_next base k next) (origins ++ origin k path ∷ []) is_next is (origins_new path base k earlier next origins room k_below within all h fresh)
      (noted_new path base k earlier next origins room k_below within all h fresh)
  | inr known ↦
      both next origins (is_next ∙ ap (λ b. cond b (set next k (length next) ++ 0 ∷ []) next) (le-ltb (get_or next k 0) base known))
      (is_origins ∙ ap (λ b. cond b (origins ++ origin k path ∷ []) origins) (le-ltb (get_or next k 0) base known)) all h
]
  where
    both : (n : List ℕ) (os : List Origin) → next' ≡ n → origins' ≡ os → AreOrigins n os → AreNoted path base earlier n os → AreOrigins next' origins' × AreNoted path base earlier next' origins'
    both n os e f x y = subst (λ m. AreOrigins m origins' × AreNoted path base earlier m origins') (sym e) (subst (λ qs. AreOrigins n qs × AreNoted path base earlier n qs) (sym f) (x, y))

-- a state comes from lesser ones
module _ (es : List (Path × Ranks)) (origins : List Origin) (backward : (k : ℕ) → 0 < k → (origin_of origins k).from < k) where
  none_led : (n : ℕ) → last_paths es origins n 0 ≡ []
  unfolding last_paths
  none_led zero = refl
  none_led (suc n) = refl

  -- more steps than the state's number change nothing
  enough : (n m s : ℕ) → s ≤ n → s ≤ m → last_paths es origins n s ≡ last_paths es origins m s
  unfolding last_paths
  enough n m zero le_n le_m = none_led n ∙ sym (none_led m)
  enough zero m (suc s) le_n le_m = absurd (omega (arith, le_n))
  enough (suc n) zero (suc s) le_n le_m = absurd (omega (arith, le_m))
  enough (suc n) (suc m) (suc s) le_n le_m =
      let o : Origin = origin_of origins (suc s) in
      let less : o.from < suc s = backward (suc s) (omega arith) in
      ap (λ ps. cond (eqb (suc s) 0) [] (ps ++ path_at es o.path)) (enough n m o.from (omega (arith, less, le_n)) (omega (arith, less, le_m)))

  -- the paths before a state are those before its origin, and one more
  pub one_back : (s : ℕ) → 0 < s → paths_before es origins s ≡ paths_before es origins (origin_of origins s).from ++ path_at es (origin_of origins s).path
  unfolding last_paths
  one_back zero some = absurd (omega (arith, some))
  one_back (suc s) some =
      let o : Origin = origin_of origins (suc s) in
      let less : o.from < suc s = backward (suc s) some in
      ap (λ b. cond b [] (last_paths es origins s o.from ++ path_at es o.path)) (ne_eqb (suc s) 0 (λ e. absurd (omega (arith, e))))
      ∙ ap (λ ps. ps ++ path_at es o.path) (enough s o.from o.from (omega (arith, less)) (omega arith))

-- one path turned round is itself
one_turned : (es : List (Path × Ranks)) (k : ℕ) → reverse (path_at es k) ≡ path_at es k
one_turned es k = turned (drop k es)
  where
    turned : (xs : List (Path × Ranks)) → reverse (map (λ (e : Path × Ranks). e.0) (take 1 xs)) ≡ map (λ (e : Path × Ranks). e.0) (take 1 xs)
    turned [] = refl
    turned (x ∷ xs) = refl

-- one step back: the paths are listed the last first
pub back_step : (es : List (Path × Ranks)) (origins : List Origin) (s : ℕ) (paths paths' all : List Path) → ((k : ℕ) → 0 < k → (origin_of origins k).from < k) → 0 < s
    → paths' ≡ paths ++ path_at es (origin_of origins s).path → paths_before es origins s ++ reverse paths ≡ all → paths_before es origins (origin_of origins s).from ++ reverse paths' ≡ all
back_step es origins s paths paths' all backward some is so_far =
    let before : List Path = paths_before es origins (origin_of origins s).from in
    let one : List Path = path_at es (origin_of origins s).path in
    ap (λ ps. before ++ reverse ps) is ∙ ap (λ ps. before ++ ps) (reverse-append paths one ∙ ap (λ ps. ps ++ reverse paths) (one_turned es (origin_of origins s).path))
    ∙ sym (append_assoc before one (reverse paths)) ∙ sym (ap (λ ps. ps ++ reverse paths) (one_back es origins backward s some)) ∙ so_far

-- at state 0 all are listed
pub back_end : (es : List (Path × Ranks)) (origins : List Origin) (s : ℕ) (paths all : List Path) → s ≤ 0 → paths_before es origins s ++ reverse paths ≡ all → reverse paths ≡ all
unfolding last_paths
back_end es origins zero paths all none_left so_far = so_far
back_end es origins (suc s) paths all none_left so_far = absurd (omega (arith, none_left))

-- tables with the same origins of earlier states
last_same : (es : List (Path × Ranks)) (origins origins' : List Origin) (end : ℕ) → ((k : ℕ) → 0 < k → (origin_of origins k).from < k)
    → ((k : ℕ) → k < end → origin_of origins' k ≡ origin_of origins k) → (n s : ℕ) → s < end → last_paths es origins' n s ≡ last_paths es origins n s
unfolding last_paths
last_same es origins origins' end backward same zero s lt = refl
last_same es origins origins' end backward same (suc n) zero lt = refl
last_same es origins origins' end backward same (suc n) (suc s) lt =
    let o : Origin = origin_of origins (suc s) in
    let less : o.from < suc s = backward (suc s) (omega arith) in
    ap (λ (q : Origin). cond (eqb (suc s) 0) [] (last_paths es origins' n q.from ++ path_at es q.path)) (same (suc s) lt)
    ∙ ap (λ ps. cond (eqb (suc s) 0) [] (ps ++ path_at es o.path)) (last_same es origins origins' end backward same n o.from (omega (arith, less, lt)))

-- the ranks of a set have moved on along a path
module _ (es : List (Path × Ranks)) (E : Ranks) (path : ℕ) (old states next next' : List ℕ) (earlier origins : List Origin) (was : AreOrigins next earlier) (all : AreOrigins next' origins)
    (tables : AreTables old next) (from_base : (r : ℕ) → has E r ≡ true → length next ≤ get_or states r 0) (h : HaveOrigins E path old earlier states origins) where
  same_before : (r : ℕ) → paths_before es origins (get_or old r 0) ≡ paths_before es earlier (get_or old r 0)
  same_before r = last_same es earlier origins (length earlier) was.backward h.kept (get_or old r 0) (get_or old r 0) (omega (arith, tables.states_within r, was.one_each))

  led_on : (r : ℕ) → has E r ≡ true → paths_before es origins (get_or states r 0) ≡ paths_before es earlier (get_or old r 0) ++ path_at es path
  led_on r member =
      one_back es origins all.backward (get_or states r 0) (omega (arith, from_base r member, tables.states_within r))
      ∙ ap (λ (o : Origin). paths_before es origins o.from ++ path_at es o.path) (h.moved r member)
      ∙ ap (λ ps. ps ++ path_at es path) (same_before r)

  led_still : (r : ℕ) → has E r ≡ false → paths_before es origins (get_or states r 0) ≡ paths_before es earlier (get_or old r 0)
  led_still r other = ap (paths_before es origins) (h.stayed r other) ∙ same_before r

  -- along one of the seen paths
  pub led_step : (e : Path × Ranks) (rest later : List (Path × Ranks)) → e.1 ≡ E → path_at es path ≡ e.0 ∷ [] → rest ≡ e ∷ later
      → ((r : ℕ) → paths_before es earlier (get_or old r 0) ++ paths_to r rest ≡ paths_to r es) → (r : ℕ) → paths_before es origins (get_or states r 0) ++ paths_to r later ≡ paths_to r es
  led_step e rest later is at first so_far r =
      let ps : List Path = paths_before es earlier (get_or old r 0) in
      let split : (b : Bool) → has e.1 r ≡ b → paths_to r rest ≡ map (λ x. x.0) (cond b (e ∷ filter (λ x. has x.1 r) later) (filter (λ x. has x.1 r) later)) = λ b here.
      ap (paths_to r) first ∙ ap (λ b. map (λ x. x.0) (cond b (e ∷ filter (λ x. has x.1 r) later) (filter (λ x. has x.1 r) later))) here in
      elim (cases_Bool (has e.1 r)) [
        | inl here ↦ ap (λ qs. qs ++ paths_to r later) (led_on r (ap (λ (S : Ranks). has S r) (sym is) ∙ here) ∙ ap (λ qs. ps ++ qs) at)
            ∙ append_assoc ps (e.0 ∷ []) (paths_to r later) ∙ sym (ap (λ qs. ps ++ qs) (split true here)) ∙ so_far r
        | inr other ↦ ap (λ qs. qs ++ paths_to r later) (led_still r (ap (λ (S : Ranks). has S r) (sym is) ∙ other)) ∙ sym (ap (λ qs. ps ++ qs) (split false other)) ∙ so_far r
      ]

-- before the first path there is the one state 0
pub origins_start : (next : List ℕ) (origins : List Origin) → next ≡ 0 ∷ [] → origins ≡ origin 0 0 ∷ [] → AreOrigins next origins
origins_start next origins is_next is_origins = record {
  one_each = ap length is_origins ∙ sym (ap length is_next);
  backward = λ k some. subst (λ (os : List Origin). (origin_of os k).from < k) (sym is_origins) (from_zero k some);
}
  where
    from_zero : (k : ℕ) → 0 < k → (origin_of (origin 0 0 ∷ []) k).from < k
    from_zero zero some = some
    from_zero (suc k) some = some

pub led_start : (es : List (Path × Ranks)) (origins : List Origin) (states : List ℕ) → ((r : ℕ) → get_or states r 0 ≡ 0) → (r : ℕ) → paths_before es origins (get_or states r 0) ++ paths_to r es ≡ paths_to r es
unfolding last_paths
led_start es origins states start r = ap (λ s. paths_before es origins s ++ paths_to r es) (start r)

-- the path of a seen path's number
pub path_here : (seen : List SeenPath) (i : ℕ) (x : SeenPath) → i < length seen → x ≡ get_or seen i x → path_at (entries_view seen) i ≡ (entry_of x).0 ∷ []
path_here [] i x lt is = absurd (omega (arith, lt))
path_here (y ∷ seen) zero x lt is = ap (λ (z : SeenPath). (entry_of z).0 ∷ []) (sym is)
path_here (y ∷ seen) (suc i) x lt is = path_here seen i x (omega (arith, lt)) is

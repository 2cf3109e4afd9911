-- Looking things up.
use Rattle.std.proofs.Common.{◌≡◌, ◌≢◌, ℕ, ◌+◌, ◌<◌, Bool, true, false, cond, unwrap_or, ◌||◌, ◌==◌, List, [], ◌∷◌, ◌++◌, length, get_or, take, map, Option, Some, None, refl, sym, ap, subst, ◌∙◌, arith, inl, inr}
use Rattle.std.specs.Prelude.{find, slice_get, nat_le, not, IfNone, IfSome, is_some}
use Rattle.std.proofs.Common.{◌⊎◌}
use Rattle.std.specs.List.{list_any, AllByRecursion}
use Rattle.std.specs.Ordering.{nat_cmp, eq_by_cmp, is_eq}
use Rattle.std.specs.Cmp.{nat_cmp_total, tied_itself}
use Rattle.std.proofs.lemmas.Cmp.{nat_eq_equiv}
use Rattle.std.proofs.lemmas.Bool.{true≢false, cases_lt, leb-true, false_from_ne_true, or_cases, or_left, or_right}
use Rattle.std.proofs.lemmas.List.{take_more, length-append, get_or_append_left, get_or-append-add}
use Rattle.std.proofs.lemmas.Option.{none-some, slice_get-get_or, slice_get_within, get_or_from_slice_get}
use Rattle.rank_set.specs.Ranks.{IsSubset, Ranks, none, has, Has, in_order, union, has-union, has-none, has-in_order}
use Rattle.rank_set.proofs.SomeMember.{some_member}
use Rattle.overlay_setup.specs.NodeSets.{In, member, up_to}
use Rattle.stat_plan.specs.Samples.{ranks_with, prefix_count, IsWithinLimit}
use Rattle.stat_plan.specs.Invariants.{IsJob, IsPlan}
use Rattle.overlay_setup.specs.Scripts.{IsDaemon, Stream}
use Rattle.stat_plan.specs.Plans.{Plan, nodes, nodes_of, ranks, daemons, stream_of, stream_ranks, serves, is_within, those_within, ranks_on, expected, waves_of, samples as wave_samples}
use Rattle.stat_plan.specs.Limits.{first_over, is_over, wave_is_within}
use Rattle.stat_plan.specs.Tables.{AreExpected, AreAllExpected}
use Rattle.stat_plan.proofs.InLists.{in_append, in_filter, in_from_filter, any_from_in, in_from_any, in_map, in_from_map}
use Rattle.stat_plan.proofs.FirstOver.{all_in, found_in}

first_of : (xs : List ℕ) (r : ℕ) → slice_get xs 0 ≡ Some r → (rest : List ℕ) × (xs ≡ r ∷ rest)
first_of [] r e = absurd (none-some r e)
first_of (x ∷ xs) r e = (xs, ap (λ (o : Option ℕ). unwrap_or o x ∷ xs) e)

-- the first rank is a member
pub has_first : (C : Ranks) (r : ℕ) → slice_get (in_order C) 0 ≡ Some r → has C r ≡ true
has_first C r e =
    let parts = first_of (in_order C) r e in
    has-in_order C r ∙ ap (list_any (eq_by_cmp nat_cmp r)) parts.1 ∙ ap (λ o. is_eq o || list_any (eq_by_cmp nat_cmp r) parts.0) (tied_itself nat_cmp_total r)

-- whether a list contains a number, by tests one after another
pub member-contains : (n : ℕ) (ms : List ℕ) → list_any (λ m. m == n) ms ≡ member n ms
member-contains n [] = refl
member-contains n (m ∷ ms) = λ i. nat_eq_equiv.symm m n i || member-contains n ms i

in_ranks : (C : Ranks) (Ds : List Ranks) (r : ℕ) → Has r (ranks_with C Ds) → (Has r C) ⊎ ((D : Ranks) × (In D Ds × Has r D))
in_ranks C [] r there = inl there
in_ranks C (D ∷ Ds) r there = elim (in_ranks (union C D) Ds r there) [
  | (inl both) ↦ elim (or_cases (has C r) (has D r) (sym (has-union C D r) ∙ both)) [ (inl first) ↦ inl first | (inr here) ↦ inr (D, (inl refl, here)) ]
  | (inr later) ↦ inr (later.0, (inr later.1.0, later.1.1))
]

-- a rank of the first set, and one of another, is a rank of all
pub ranks_stay : (C : Ranks) (Ds : List Ranks) (r : ℕ) → Has r C → Has r (ranks_with C Ds)
ranks_stay C [] r there = there
ranks_stay C (D ∷ Ds) r there = ranks_stay (union C D) Ds r (has-union C D r ∙ or_left (has C r) (has D r) there)

pub ranks_come : (C : Ranks) (Ds : List Ranks) (D : Ranks) (r : ℕ) → In D Ds → Has r D → Has r (ranks_with C Ds)
ranks_come C [] D r i there = absurd i
ranks_come C (E ∷ Ds) D r (inl e) there = ranks_stay (union C E) Ds r (has-union C E r ∙ or_right (has C r) (has E r) (ap (λ s. has s r) (sym e) ∙ there))
ranks_come C (E ∷ Ds) D r (inr i) there = ranks_come (union C E) Ds D r i there

-- a node that expects some rank serves the stream
pub serves_some : (p : Plan) (n s r : ℕ) → Has r (expected p n s) → serves p n s ≡ true
unfolding expected serves
serves_some p n s r there = elim (in_ranks none (map (ranks p) (those_within p n (daemons p s))) r there) [
  | (inl nowhere) ↦ absurd (true≢false (sym nowhere ∙ has-none r))
  | (inr found) ↦
      let from = in_from_map (ranks p) (those_within p n (daemons p s)) found.0 found.1.0 in
      let kept = in_from_filter (λ d. is_within p d n) from.0 (daemons p s) from.1.0 in
      any_from_in (λ d. is_within p d n) from.0 (daemons p s) kept.0 kept.1
]

-- each daemon of a stream is a node that is nobody's parent
pub listed : (p : Plan) (d s : ℕ) → IsPlan p → In d (daemons p s) → IsDaemon (nodes_of p) d
unfolding daemons stream_of
listed p d s plan i = by (find (λ x. x.number == s) p.streams) refl i
  where
    by : (o : Option Stream) → find (λ x. x.number == s) p.streams ≡ o → In d (elim o as (λ _. List ℕ) [ None ↦ [] | (Some x) ↦ x.daemons ]) → IsDaemon (nodes_of p) d
    by None is i = absurd i
    by (Some x) is i =
        let stream = found_in (λ x. x.number == s) p.streams x is in
        all_in (IsDaemon (nodes_of p)) x.daemons d (all_in (λ (x : Stream). AllByRecursion (IsDaemon (nodes_of p)) x.daemons) p.streams x plan.script_fits.daemons stream) i

-- the daemons of a stream have ranks
daemon_has_ranks : (p : Plan) (s d : ℕ) → IsPlan p → In d (daemons p s) → ranks p d ≢ none
unfolding ranks
daemon_has_ranks p s d plan i = let daemon = listed p d s plan i in plan.samples_fit.on_daemons d daemon.0 daemon.1

-- a node that serves a stream expects some rank
pub serves_none : (p : Plan) (n s : ℕ) → IsPlan p → expected p n s ≡ none → serves p n s ≡ false
unfolding expected serves
serves_none p n s plan nothing = false_from_ne_true (list_any (λ d. is_within p d n) (daemons p s)) (λ some.
    let found = in_from_any (λ d. is_within p d n) (daemons p s) some in
    let rank = some_member (ranks p found.0) (daemon_has_ranks p s found.0 plan found.1.0) in
    let there = ranks_come none (map (ranks p) (those_within p n (daemons p s))) (ranks p found.0) rank.0 (in_map (ranks p) found.0 (those_within p n (daemons p s)) (in_filter (λ d. is_within p d n) found.0 (daemons p s) found.1.0 found.1.1)) rank.1 in
    true≢false (sym there ∙ ap (λ s. has s rank.0) nothing ∙ has-none rank.0))

-- a stream that the plan has not is served by no node
pub serves_unknown : (p : Plan) (n s : ℕ) → stream_of p s ≡ None → serves p n s ≡ false
unfolding serves daemons
serves_unknown p n s is = ap (λ (o : Option Stream). list_any (λ d. is_within p d n) (elim o as (λ _. List ℕ) [ None ↦ [] | (Some x) ↦ x.daemons ])) is

-- the table of what is expected of a stream
pub expected_at : (p : Plan) (tables : List (List Ranks)) (i : ℕ) (x : Stream) (n s : ℕ) → AreAllExpected p p.streams tables → slice_get p.streams i ≡ Some x → stream_of p s ≡ Some x → n < nodes p → get_or (get_or tables i []) n none ≡ expected p n s
unfolding expected daemons
expected_at p tables i x n s all at is below =
    (all.each i x at).each n below
    ∙ ap (λ (o : Option Stream). ranks_on p (those_within p n (elim o as (λ _. List ℕ) [ None ↦ [] | (Some x) ↦ x.daemons ]))) (sym is)

-- the stream at a place
pub element_at : {X : Type 0} (xs : List X) (i : ℕ) → i < length xs → (x : X) × (slice_get xs i ≡ Some x)
element_at [] i lt = absurd (omega arith)
element_at (x ∷ xs) i lt = (get_or (x ∷ xs) i x, slice_get-get_or (x ∷ xs) i x lt)

-- whether a node serves a stream, by the first rank that it expects
pub serves_by_first : (p : Plan) (n s : ℕ) (own : Ranks) (first : Option ℕ) → IsPlan p → own ≡ expected p n s → IfNone first (own ≡ none) → IfSome first (λ r. slice_get (in_order own) 0 ≡ Some r) → is_some first ≡ serves p n s
serves_by_first p n s own None plan is nothing least = sym (serves_none p n s plan (sym is ∙ nothing))
serves_by_first p n s own (Some r) plan is nothing least = sym (serves_some p n s r (ap (λ t. has t r) (sym is) ∙ has_first own r least))

-- the tables of one stream more
pub expected_more : (p : Plan) (streams : List Stream) (i : ℕ) (d : Stream) (tables : List (List Ranks)) (sets : List Ranks) → AreAllExpected p (take i streams) tables → i < length streams → AreExpected p (get_or streams i d).daemons sets → AreAllExpected p (take (i + 1) streams) (tables ++ sets ∷ [])
expected_more p streams i d tables sets so_far lt is = record {
  paired =
      length-append tables (sets ∷ [])
      ∙ ap (λ k. k + 1) (so_far.paired)
      ∙ sym (ap length (take_more streams i d lt) ∙ length-append (take i streams) (get_or streams i d ∷ []));
  each = λ j x at. elim (cases_lt j (length (take i streams))) [
    | (inl before) ↦
        let here : slice_get (take i streams) j ≡ Some x = sym (slice_get-append_left (take i streams) (get_or streams i d ∷ []) j before) ∙ ap (λ xs. slice_get xs j) (sym (take_more streams i d lt)) ∙ at in
        subst (AreExpected p x.daemons) (sym (get_or_append_left tables (sets ∷ []) [] j (subst (λ k. j < k) (sym so_far.paired) before))) (so_far.each j x here)
    | (inr last) ↦
        let long : j < length (take i streams ++ get_or streams i d ∷ []) = slice_get_within (take i streams ++ get_or streams i d ∷ []) j x (ap (λ xs. slice_get xs j) (sym (take_more streams i d lt)) ∙ at) in
        let count = length-append (take i streams) (get_or streams i d ∷ []) in
        let place : j ≡ length (take i streams) + 0 = omega (arith, last, long, count) in
        let same : get_or streams i d ≡ x =
        sym (get_or-append-add (take i streams) (get_or streams i d ∷ []) 0 d) ∙ ap (λ k. get_or (take i streams ++ get_or streams i d ∷ []) k d) (sym place)
        ∙ get_or_from_slice_get (take i streams ++ get_or streams i d ∷ []) j x d (ap (λ xs. slice_get xs j) (sym (take_more streams i d lt)) ∙ at) in
        let set_place : j ≡ length tables + 0 = place ∙ ap (λ k. k + 0) (sym so_far.paired) in
        subst (AreExpected p x.daemons) (sym (ap (λ k. get_or (tables ++ sets ∷ []) k []) set_place ∙ get_or-append-add tables (sets ∷ []) 0 [])) (subst (λ (y : Stream). AreExpected p y.daemons sets) same is)
  ];
}
  where
    slice_get-append_left : (xs ys : List Stream) (k : ℕ) → k < length xs → slice_get (xs ++ ys) k ≡ slice_get xs k
    slice_get-append_left xs ys k below =
        slice_get-get_or (xs ++ ys) k d (let c = length-append xs ys in omega (arith, below, c))
        ∙ ap Some (get_or_append_left xs ys d k below)
        ∙ sym (slice_get-get_or xs k d below)

not_false : (b : Bool) → not b ≡ false → b ≡ true
not_false true e = refl
not_false false e = sym e

within_limit : (p : Plan) (s w : ℕ) → is_over p (s, w) ≡ false → IsWithinLimit (wave_samples p s w)
unfolding wave_is_within
within_limit p s w e = leb-true (prefix_count (wave_samples p s w)) 2048 (not_false (nat_le (prefix_count (wave_samples p s w)) 2048) e)

-- the invariant of a plan, from that of a job and no wave over the limit
pub plan_from : (p : Plan) → IsJob p → first_over p ≡ None → IsPlan p
plan_from p job none = record {
  topology = job.topology;
  samples = job.samples;
  script = job.script;
  samples_fit = job.samples_fit;
  script_fits = job.script_fits;
  within = λ s w there. within_limit p s w (none_over (is_over p) (waves_of p.streams) (s, w) none there);
}
  where
    none_over : (test : ℕ × ℕ → Bool) (vs : List (ℕ × ℕ)) (v : ℕ × ℕ) → find test vs ≡ None → In v vs → test v ≡ false
    none_over test [] v e i = absurd i
    none_over test (u ∷ us) v e (inl is) = ap test is ∙ fails (test u) e
      where
        fails : (b : Bool) → cond b (Some u) (find test us) ≡ None → b ≡ false
        fails true e = absurd (Rattle.std.proofs.lemmas.Option.none-some u (sym e))
        fails false e = refl
    none_over test (u ∷ us) v e (inr i) = none_over test us v (later (test u) e) i
      where
        later : (b : Bool) → cond b (Some u) (find test us) ≡ None → find test us ≡ None
        later true e = absurd (Rattle.std.proofs.lemmas.Option.none-some u (sym e))
        later false e = e

-- ---- the daemons and the waves of a stream

pub daemons_at : (p : Plan) (s : ℕ) (x : Stream) → stream_of p s ≡ Some x → x.daemons ≡ daemons p s
unfolding daemons
daemons_at p s x is = sym (ap (λ (o : Option Stream). elim o as (λ _. List ℕ) [ None ↦ [] | (Some x) ↦ x.daemons ]) is)

-- the ranks of a daemon are ranks of the stream
pub daemon_lies : (p : Plan) (s d : ℕ) → In d (daemons p s) → IsSubset (ranks p d) (stream_ranks p s)
unfolding stream_ranks
daemon_lies p s d there r one = ranks_come none (map (ranks p) (daemons p s)) (ranks p d) r (in_map (ranks p) d (daemons p s) there) one

pub wave_is_of : (s : ℕ) (ws : List ℕ) (v : ℕ × ℕ) → In {X = ℕ × ℕ} v (map (λ w. (s, w)) ws) → (v.0 ≡ s) × In v.1 ws
wave_is_of s [] v i = absurd i
wave_is_of s (w ∷ ws) v (inl e) = (ap (λ (y : ℕ × ℕ). y.0) e, inl (ap (λ (y : ℕ × ℕ). y.1) e))
wave_is_of s (w ∷ ws) v (inr i) = let r = wave_is_of s ws v i in (r.0, inr r.1)

-- the stream of a wave is one of the streams
pub stream_of_wave : (xs : List Stream) (v : ℕ × ℕ) → In v (waves_of xs) → In v.0 (map (λ x. x.number) xs)
stream_of_wave [] v i = absurd i
stream_of_wave (x ∷ xs) v i =
    elim (in_append v (map (λ w. (x.number, w)) (up_to x.waves)) (waves_of xs) i) [ inl a ↦ inl (wave_is_of x.number (up_to x.waves) v a).0 | inr b ↦ inr (stream_of_wave xs v b) ]

-- A board keeps its invariant, and a claim that a seat has out still fits the board's net.
use Rattle.std.proofs.Common.{◌≡◌, ◌≢◌, ◌∙◌, ◌+◌, ◌-◌, ◌^◌, ◌<◌, ◌≤◌, inl, ⊎_elim, ℕ, zero, suc, true, false, List, [], ◌∷◌, ◌++◌, length, replicate, set, slice_get, Option, Some, None, refl, sym, ap, subst, arith, length-append, length-set, le_refl}
use Rattle.std.specs.List.{AllByRecursion}
use Rattle.std.proofs.lemmas.Bool.{and_parts}
use Rattle.std.proofs.lemmas.List.{length-replicate}
use Rattle.std.proofs.lemmas.Option.{slice_get_within}
use mathlib.Core.List.{IsPrefix}
use Rattle.overlay_event.specs.declared.event.Event.{Event}
use Rattle.overlay_event.specs.declared.event.Event.TheVariants.{Sample, Recv, Tick, Lose}
use Rattle.overlay_event.specs.Events.{event_node}
use Rattle.overlay_setup.specs.NodeSets.{In}
use Rattle.overlay_setup.specs.declared.topology.TheConstants.{NODE_LIMIT}
use Rattle.stat_plan.specs.Invariants.{IsPlan}
use Rattle.stat_plan.specs.Plans.{Plan, front, nodes}
use Rattle.board_turn.specs.declared.holding.Holding.{Holding}
use Rattle.board_turn.specs.Entries.{holding, IsUnmoved, out_count, with_claim, with_home}
use Rattle.board_turn.proofs.Logs.{get_set_cases, get_snoc, out_count-fill, out_count-free, out_count-le, out_count-replicate, out_else, out_here}
use Rattle.overlay_core.specs.Bound.{bound}
use Rattle.overlay_core.specs.Independent.{AreIndependent, sender_of}
use Rattle.overlay_core.specs.Machine.{State, is_enabled, start, step}
use Rattle.overlay_core.specs.Runs.{after, run}
use Rattle.overlay_core.specs.TreeReleases.{TreeRelease}
use Rattle.overlay_core.proofs.Journals.{after_more, legal_has_room}
use Rattle.stat_plan.proofs.PlanFacts.{plan_facts}
use Rattle.overlay_core.proofs.Steps.{active_parts}
use Rattle.overlay_core.proofs.Whole.{lives_below, start_below}
use Rattle.event_claims.specs.Claims.{MayBeClaimed, MayBeOut, Outs, claimable_events, claimed, come_home}
use Rattle.event_claims.proofs.Claimable.{claimable_listed, claimable_quiet}
use Rattle.event_claims.proofs.Claims.{claim_more, commit_less}
use Rattle.event_claims.proofs.Independent.{finds_through}
use Rattle.event_claims.proofs.Releases.{releases_through}
use Rattle.overlay_node.specs.NodeViews.{Counts}
use Rattle.overlay_net.specs.Claims.{ClaimView, FitsNet, IsMovedOut, MayBeWorked}
use Rattle.overlay_net.specs.Nets.{AllHome, IsReachedBy, NetView, outs_of, state_of}
use Rattle.overlay_net.specs.Places.{out_at}
use Rattle.overlay_net.specs.States.{IsClaimed, IsCommitted, IsSameNet}
use Rattle.overlay_net.proofs.Fitting.{fits_stay}
use Rattle.overlay_net.proofs.SmallCounts.{small_bound}
use Rattle.overlay_net.proofs.Refits.{reached_like}
use Rattle.overlay_run.specs.Boards.{BoardView, IsBoard, IsDone, IsHeldBy, IsWholeRun, board_view, claimable_of}
use Rattle.overlay_run.specs.Seats.{IsClaimAfter}

-- ---- lists and options

some_holding : (g h : Holding) → Some g ≡ Some h → g ≡ h
some_holding g h s = cc

none_some : (h : Holding) → None ≡ Some h → ⊥
none_some h s = cc

get_none : (n i : ℕ) (o : Option Holding) → slice_get (replicate n None) i ≡ Some o → o ≡ None
get_none zero i o e = absurd (cc)
get_none (suc n) zero o e = cc
get_none (suc n) (suc i) o e = get_none n i o e

none_held : (n i : ℕ) (h : Holding) → slice_get (replicate n None) i ≡ Some (Some h) → ⊥
none_held n i h e = none_some h (sym (get_none n i (Some h) e))

some_there : (l : List (Option Holding)) (k : ℕ) → k < length l → slice_get l k ≡ None → ⊥
some_there [] k lt at = omega arith
some_there (x ∷ xs) zero lt at = cc
some_there (x ∷ xs) (suc k) lt at = some_there xs k (omega arith) at

past_end : (journal : List Event) (i : ℕ) (e : Event) → length journal ≤ i → slice_get journal i ≡ Some e → ⊥
past_end journal i e le at = let w = slice_get_within journal i e at in omega arith

pub first_none : (es : List Event) → None ≡ slice_get es 0 → es ≡ []
first_none [] is = refl
first_none (e ∷ es) is = absurd (cc)

first_in : (es : List Event) (e : Event) → Some e ≡ slice_get es 0 → In e es
first_in [] e is = absurd (cc)
first_in (f ∷ fs) e is = inl (let a : Some e ≡ Some f = is in cc)

all_of : {Q : Event → Type 0} (es : List Event) → ((i : ℕ) (f : Event) → slice_get es i ≡ Some f → Q f) → AllByRecursion Q es
all_of [] h = tt
all_of (e ∷ es) h = (h 0 e refl, all_of es (λ i f at. h (suc i) f at))

all_behind : {Q : Event → Type 0} (first more : List Event) → ((i : ℕ) (f : Event) → length first ≤ i → slice_get (first ++ more) i ≡ Some f → Q f) → AllByRecursion Q more
all_behind [] more h = all_of more (λ i f at. h i f (omega arith) at)
all_behind (e ∷ first) more h = all_behind first more (λ i f le at. h (suc i) f (omega arith) at)

-- ---- the machine

-- an enabled event is one of a node of the plan
enabled_below : (p : Plan) (journal : List Event) (e : Event) → is_enabled p (after p journal) e ≡ true → event_node e < nodes p
enabled_below p journal e en = lives_below p (start p) journal (start_below p) (event_node e) (lives e en)
  where
    lives : (f : Event) → is_enabled p (after p journal) f ≡ true → (after p journal).alive (event_node f) ≡ true
    lives (Sample n s w) t = (active_parts p (after p journal) n (and_parts _ _ (and_parts _ _ t).0).0).0
    lives (Recv n m) t = (active_parts p (after p journal) n (and_parts _ _ t).0).0
    lives (Tick n) t = (active_parts p (after p journal) n (and_parts _ _ t).0).0
    lives (Lose n) t = (and_parts _ _ t).0

run_append : (p : Plan) (st : State) (es fs : List Event) → ◌≡◌ {A = State} (run p st (es ++ fs)) (run p (run p st es) fs)
run_append p st [] fs = refl
run_append p st (e ∷ es) fs = run_append p (step p st e) es fs

recv_of : (e : Event) (m : ℕ) → sender_of e ≡ Some m → e ≡ Recv (event_node e) m
recv_of (Sample n s w) m is = absurd (cc)
recv_of (Recv n k) m is = ap (Recv n) (let a : Some k ≡ Some m = is in cc)
recv_of (Tick n) m is = absurd (cc)
recv_of (Lose n) m is = absurd (cc)

elsewhere : (e : Event) (k : ℕ) (fs : List Event) → event_node e ≡ k → AllByRecursion (AreIndependent e) fs → AllByRecursion (λ f. event_node f ≢ k) fs
elsewhere e k [] is all = tt
elsewhere e k (f ∷ fs) is all = (λ s. all.0.elsewhere (s ∙ sym is), elsewhere e k fs is all.1)

-- what was moved out is what the state has after more events, too, each independent of the event
moved_after : (p : Plan) (journal more : List Event) (c : ClaimView) → IsMovedOut p (after p journal) c → AllByRecursion (AreIndependent c.event) more → IsMovedOut p (after p (journal ++ more)) c
moved_after p journal more c h all =
    let on : ◌≡◌ {A = State} (run p (after p journal) more) (after p (journal ++ more)) = sym (run_append p (start p) journal more) in
    let same = finds_through p (after p journal) c.event more all h.enabled in
    subst (λ (st : State). IsMovedOut p st c) on (record {
      enabled = same.enabled;
      node = h.node ∙ sym same.node;
      packet = h.packet ∙ sym same.packet;
      counts = λ top. subst (Counts c.node.held) (sym (releases_through p (after p journal) more (elsewhere c.event (front p) more top all))) (h.counts top);
    })

-- ---- a net

-- with no node out, no event is out
none_out : (p : Plan) (st : State) (out : Outs) → ((n : ℕ) → out n ≡ None) → MayBeOut p st out
none_out p st out home = record {
  own = λ n e at. let h = home n in absurd (cc);
  enabled = λ n e at. let h = home n in absurd (cc);
  senders_stay = λ n m at _. let h = home n in cc;
}

-- ---- a new board

pub new_board : (p : Plan) (net : NetView) (holders : List (Option Holding)) → net.plan ≡ p → net.failed ≡ false → IsReachedBy net [] → AllHome net → holders ≡ replicate (nodes p) None → IsBoard (board_view p net [] holders false)
new_board p net holders plan usable reached home is = subst (λ l. IsBoard (board_view p net [] l false)) (sym is) (record {
  same_plan = plan;
  usable = usable;
  reached = reached;
  out_together = none_out net.plan (after net.plan []) (outs_of net) home;
  holder_count = length-replicate (nodes p) None;
  out = λ n h at. absurd (none_held (nodes p) n h at);
  home = λ n at. home n;
  since = λ n h at. absurd (none_held (nodes p) n h at);
  senders_stay = λ n m h at. absurd (none_held (nodes p) n h at);
})

pub new_holders : (p : Plan) (n : ℕ) (l : List (Option Holding)) → n ≡ nodes p → l ≡ replicate n None → l ≡ replicate (nodes p) None
new_holders p n l is all = all ∙ ap (λ k. replicate k None) is

pub new_count : (p : Plan) (l : List (Option Holding)) → l ≡ replicate (nodes p) None → 0 ≡ out_count l
new_count p l all = sym (ap out_count all ∙ out_count-replicate (nodes p))

-- ---- a claim

-- the first event that may be claimed may be claimed
pub may_claim : (v : BoardView) (e : Event) → IsPlan v.plan → IsBoard v → Some e ≡ slice_get (claimable_of v.net) 0 → MayBeClaimed v.net.plan (after v.net.plan v.journal) (outs_of v.net) e
may_claim v e plan board first =
    let p = v.net.plan in
    let there : Some e ≡ slice_get (claimable_events p (after p v.journal) (outs_of v.net)) 0 = subst (λ (st : State). Some e ≡ slice_get (claimable_events p st (outs_of v.net)) 0) board.reached.state first in
    (claimable_listed p v.journal (outs_of v.net) e (subst IsPlan (sym board.same_plan) plan) board.reached.legal board.out_together).0 (first_in (claimable_events p (after p v.journal) (outs_of v.net)) e there)

pub net_may_claim : (v : BoardView) (e : Event) → IsPlan v.plan → IsBoard v → Some e ≡ slice_get (claimable_of v.net) 0 → MayBeClaimed v.net.plan (state_of v.net) (outs_of v.net) e
net_may_claim v e plan board first = subst (λ (st : State). MayBeClaimed v.net.plan st (outs_of v.net) e) (sym board.reached.state) (may_claim v e plan board first)

-- its node has no holder
home_where_claimable : (v : BoardView) (e : Event) → IsBoard v → MayBeClaimed v.net.plan (after v.net.plan v.journal) (outs_of v.net) e → slice_get v.holders (event_node e) ≡ Some None
home_where_claimable v e board may = go (slice_get v.holders (event_node e)) refl
  where
    go : (o : Option (Option Holding)) → slice_get v.holders (event_node e) ≡ o → o ≡ Some None
    go None at =
        let low : event_node e < nodes v.net.plan = enabled_below v.net.plan v.journal e may.enabled in
        let count = board.holder_count in
        let same : nodes v.net.plan ≡ nodes v.plan = ap nodes board.same_plan in
        absurd (some_there v.holders (event_node e) (omega arith) at)
    go (Some None) at = refl
    go (Some (Some h)) at = let a = board.out (event_node e) h at in let b = may.home in absurd (cc)

pub claimed_home : (v : BoardView) (e : Event) → IsPlan v.plan → IsBoard v → Some e ≡ slice_get (claimable_of v.net) 0 → slice_get v.holders (event_node e) ≡ Some None
claimed_home v e plan board first = home_where_claimable v e board (may_claim v e plan board first)

-- the journal has room for its event
pub claim_has_room : (v : BoardView) (e : Event) → IsPlan v.plan → IsBoard v → Some e ≡ slice_get (claimable_of v.net) 0 → length v.journal < 2 ^ 62
claim_has_room v e plan board first =
    let p = v.net.plan in
    let is_plan : IsPlan p = subst IsPlan (sym board.same_plan) plan in
    let below : length v.journal < bound p = legal_has_room p v.journal e (plan_facts p is_plan) board.reached.legal (may_claim v e plan board first).enabled in
    let small : bound p < 2 ^ 62 = small_bound p is_plan in
    omega arith

pub few_out : (v : BoardView) (count : ℕ) → IsPlan v.plan → IsBoard v → count ≡ out_count v.holders → count + 1 < 2 ^ 32
few_out v count plan board is =
    let most = out_count-le v.holders in
    let holder_count = board.holder_count in
    let limit : nodes v.plan ≤ NODE_LIMIT = plan.topology.within_limit in
    omega arith

module _ (v : BoardView) (net : NetView) (c : ClaimView) (e : Event) (seat : ℕ) (board : IsBoard v) (may : MayBeClaimed v.net.plan (after v.net.plan v.journal) (outs_of v.net) e) (usable : net.failed ≡ false) (is : IsClaimed e c v.net net) where
  abbrev now : Holding
  now = holding seat e (length v.journal)

  out_here_now : (n : ℕ) → n ≡ event_node e → outs_of net n ≡ Some e
  out_here_now n at = ap (λ (f : Outs). f n) is.outs ∙ subst (λ k. claimed (outs_of v.net) e k ≡ Some e) (sym at) (out_here (outs_of v.net) (event_node e) (Some e))

  out_else_now : (n : ℕ) → n ≢ event_node e → outs_of net n ≡ outs_of v.net n
  out_else_now n ne = ap (λ (f : Outs). f n) is.outs ∙ out_else (outs_of v.net) (event_node e) (Some e) n ne

  claim_keeps : IsBoard (board_view v.plan net v.journal (with_claim v.holders seat e v.journal) v.stopped)
  claim_keeps = record {
    same_plan = is.plan ∙ board.same_plan;
    usable = usable;
    reached = reached_like v.net net v.journal is.plan is.state is.releases board.reached;
    out_together = subst (λ p. MayBeOut p (after p v.journal) (outs_of net)) (sym is.plan)
        (subst (λ (out : Outs). MayBeOut v.net.plan (after v.net.plan v.journal) out) (sym is.outs) (claim_more v.net.plan (after v.net.plan v.journal) (outs_of v.net) e board.out_together may));
    holder_count = length-set v.holders (event_node e) (Some now) ∙ board.holder_count;
    out = λ n h at. ⊎_elim
        (λ (t : (n ≡ event_node e) × (Some now ≡ Some h)). out_here_now n t.0 ∙ ap (λ (g : Holding). Some g.event) (some_holding now h t.1))
        (λ (t : (n ≢ event_node e) × (slice_get v.holders n ≡ Some (Some h))). out_else_now n t.0 ∙ board.out n h t.1)
        (get_set_cases v.holders (event_node e) n (Some now) (Some h) at);
    home = λ n at. ⊎_elim
        (λ (t : (n ≡ event_node e) × (Some now ≡ None)). absurd (none_some now (sym t.1)))
        (λ (t : (n ≢ event_node e) × (slice_get v.holders n ≡ Some None)). out_else_now n t.0 ∙ board.home n t.1)
        (get_set_cases v.holders (event_node e) n (Some now) None at);
    since = λ n h at. ⊎_elim
        (λ (t : (n ≡ event_node e) × (Some now ≡ Some h)). subst (λ (g : Holding). g.since ≤ length v.journal) (some_holding now h t.1) (le_refl (length v.journal)))
        (λ (t : (n ≢ event_node e) × (slice_get v.holders n ≡ Some (Some h))). board.since n h t.1)
        (get_set_cases v.holders (event_node e) n (Some now) (Some h) at);
    senders_stay = λ n m h at from i since lost. ⊎_elim
        (λ (t : (n ≡ event_node e) × (Some now ≡ Some h)). past_end v.journal i (Lose m) (subst (λ (g : Holding). g.since ≤ i) (sym (some_holding now h t.1)) since) lost)
        (λ (t : (n ≢ event_node e) × (slice_get v.holders n ≡ Some (Some h))). board.senders_stay n m h t.1 from i since lost)
        (get_set_cases v.holders (event_node e) n (Some now) (Some h) at);
  }

-- the board after a claim, as the code makes it
pub claimed_board : (v : BoardView) (net : NetView) (c : ClaimView) (e : Event) (seat since k count : ℕ) → IsPlan v.plan → IsBoard v → count ≡ out_count v.holders → Some e ≡ slice_get (claimable_of v.net) 0
    → net.failed ≡ false → IsClaimed e c v.net net → since ≡ length v.journal → k ≡ event_node e
    → IsBoard (board_view v.plan net v.journal (set v.holders k (Some (holding seat e since))) v.stopped) × (count + 1 ≡ out_count (set v.holders k (Some (holding seat e since))))
claimed_board v net c e seat since k count plan board is first usable done when at =
    let may = may_claim v e plan board first in
    let same : set v.holders k (Some (holding seat e since)) ≡ with_claim v.holders seat e v.journal = λ i. set v.holders (at i) (Some (holding seat e (when i))) in (
      subst (λ hs. IsBoard (board_view v.plan net v.journal hs v.stopped)) (sym same) (claim_keeps v net c e seat board may usable done),
      ap (λ n. n + 1) is ∙ sym (ap out_count same ∙ out_count-fill v.holders (event_node e) (holding seat e (length v.journal)) (home_where_claimable v e board may)),
    )

-- ---- a commit

-- a board whose net has the same state
pub same_board : (v : BoardView) (net : NetView) → IsBoard v → IsSameNet v.net net → net.failed ≡ false → IsBoard (board_view v.plan net v.journal v.holders v.stopped)
same_board v net board same usable = record {
  same_plan = same.plan ∙ board.same_plan;
  usable = usable;
  reached = reached_like v.net net v.journal same.plan same.state same.releases board.reached;
  out_together = subst (λ p. MayBeOut p (after p v.journal) (outs_of net)) (sym same.plan) (subst (λ (out : Outs). MayBeOut v.net.plan (after v.net.plan v.journal) out) (sym outs) board.out_together);
  holder_count = board.holder_count;
  out = λ n h at. ap (λ (f : Outs). f n) outs ∙ board.out n h at;
  home = λ n at. ap (λ (f : Outs). f n) outs ∙ board.home n at;
  since = board.since;
  senders_stay = board.senders_stay;
}
  where
    outs : ◌≡◌ {A = Outs} (outs_of net) (outs_of v.net)
    outs = ap out_at same.outs

pub ready_fits : (v w : NetView) (c : ClaimView) → IsSameNet v w → FitsNet v c → FitsNet w c
ready_fits v w c same fits = fits_stay v w c c same (record { event = refl; node = refl; frame = refl }) fits

module _ (v : BoardView) (net : NetView) (e : Event) (board : IsBoard v) (there : outs_of v.net (event_node e) ≡ Some e) (usable : net.failed ≡ false) (is : IsCommitted e v.net net) where
  home_here_now : (n : ℕ) → n ≡ event_node e → outs_of net n ≡ None
  home_here_now n at = ap (λ (f : Outs). f n) is.outs ∙ subst (λ k. come_home (outs_of v.net) e k ≡ None) (sym at) (out_here (outs_of v.net) (event_node e) None)

  home_else_now : (n : ℕ) → n ≢ event_node e → outs_of net n ≡ outs_of v.net n
  home_else_now n ne = ap (λ (f : Outs). f n) is.outs ∙ out_else (outs_of v.net) (event_node e) None n ne

  commit_keeps : IsBoard (board_view v.plan net (v.journal ++ e ∷ []) (with_home v.holders e) v.stopped)
  commit_keeps = record {
    same_plan = is.plan ∙ board.same_plan;
    usable = usable;
    reached = is.reached v.journal board.reached;
    out_together = subst (λ p. MayBeOut p (after p (v.journal ++ e ∷ [])) (outs_of net)) (sym is.plan)
        (subst (λ (st : State). MayBeOut v.net.plan st (outs_of net)) (sym (after_more v.net.plan v.journal e))
        (subst (λ (out : Outs). MayBeOut v.net.plan (step v.net.plan (after v.net.plan v.journal) e) out) (sym is.outs) (commit_less v.net.plan (after v.net.plan v.journal) (outs_of v.net) e board.out_together there)));
    holder_count = length-set v.holders (event_node e) None ∙ board.holder_count;
    out = λ n h at. ⊎_elim
        (λ (t : (n ≡ event_node e) × (None ≡ Some h)). absurd (none_some h t.1))
        (λ (t : (n ≢ event_node e) × (slice_get v.holders n ≡ Some (Some h))). home_else_now n t.0 ∙ board.out n h t.1)
        (get_set_cases v.holders (event_node e) n None (Some h) at);
    home = λ n at. ⊎_elim
        (λ (t : (n ≡ event_node e) × (None ≡ None)). home_here_now n t.0)
        (λ (t : (n ≢ event_node e) × (slice_get v.holders n ≡ Some None)). home_else_now n t.0 ∙ board.home n t.1)
        (get_set_cases v.holders (event_node e) n None None at);
    since = λ n h at. ⊎_elim
        (λ (t : (n ≡ event_node e) × (None ≡ Some h)). absurd (none_some h t.1))
        (λ (t : (n ≢ event_node e) × (slice_get v.holders n ≡ Some (Some h))). let l = board.since n h t.1 in let k = length-append v.journal (e ∷ []) in omega arith)
        (get_set_cases v.holders (event_node e) n None (Some h) at);
    senders_stay = λ n m h at from i since lost. ⊎_elim
        (λ (t : (n ≡ event_node e) × (None ≡ Some h)). none_some h t.1)
        (λ (t : (n ≢ event_node e) × (slice_get v.holders n ≡ Some (Some h))). ⊎_elim
        (λ (before : slice_get v.journal i ≡ Some (Lose m)). board.senders_stay n m h t.1 from i since before)
        (λ (last : e ≡ Lose m).
        let receives : outs_of v.net n ≡ Some (Recv n m) = board.out n h t.1 ∙ ap Some from in
        let loses : outs_of v.net m ≡ Some (Lose m) = ap (outs_of v.net) (sym (ap event_node last)) ∙ there ∙ ap Some last in
        board.out_together.senders_stay n m receives loses)
        (get_snoc v.journal e (Lose m) i lost))
        (get_set_cases v.holders (event_node e) n None (Some h) at);
  }

-- the board after a commit, as the code makes it
pub committed_board : (v : BoardView) (ready net : NetView) (journal : List Event) (c : ClaimView) (e : Event) (seat k count : ℕ) → IsBoard v → count ≡ out_count v.holders → FitsNet v.net c
    → IsHeldBy v.holders (event_node c.event) seat c.event → IsSameNet v.net ready → ready.failed ≡ false → net.failed ≡ false → IsCommitted c.event ready net → e ≡ c.event → journal ≡ v.journal ++ e ∷ [] → k ≡ event_node e
    → IsBoard (board_view v.plan net journal (set v.holders k None) v.stopped) × (count - 1 ≡ out_count (set v.holders k None))
committed_board v ready net journal c e seat k count board is fits held same ready_usable usable done event on at =
    let place : k ≡ event_node c.event = at ∙ ap event_node event in
    let longer : journal ≡ v.journal ++ c.event ∷ [] = on ∙ ap (λ f. v.journal ++ f ∷ []) event in
    let less = out_count-free v.holders (event_node c.event) held.holding held.at in
    let there : outs_of ready (event_node c.event) ≡ Some c.event = (ready_fits v.net ready c same fits).out in (
      subst (λ j. IsBoard (board_view v.plan net j (set v.holders k None) v.stopped)) (sym longer) (subst (λ n. IsBoard (board_view v.plan net (v.journal ++ c.event ∷ []) (set v.holders n None) v.stopped)) (sym place)
          (commit_keeps (board_view v.plan ready v.journal v.holders v.stopped) net c.event (same_board v ready board same ready_usable) there usable done)),
      subst (λ n. count - 1 ≡ out_count (set v.holders n None)) (sym place) (omega arith),
    )

pub one_out : (v : BoardView) (count seat n : ℕ) (e : Event) → count ≡ out_count v.holders → IsHeldBy v.holders n seat e → 1 ≤ count
one_out v count seat n e is held = let less = out_count-free v.holders n held.holding held.at in omega arith

-- ---- what a seat has out still fits

pub claim_fits : (v : BoardView) (journal : List Event) (h : Holding) (c : ClaimView) → IsBoard v → IsClaimAfter v.plan journal h c → IsPrefix journal v.journal → slice_get v.holders (event_node h.event) ≡ Some (Some h) → IsUnmoved v.journal h → FitsNet v.net c
claim_fits v journal h c board claim pre at unmoved =
    let more : List Event = pre.0 in
    let on : journal ++ more ≡ v.journal = pre.1 in
    let same : event_node h.event ≡ event_node c.event = ap event_node claim.event in
    let here : slice_get v.holders (event_node c.event) ≡ Some (Some h) = subst (λ k. slice_get v.holders k ≡ Some (Some h)) same at in
    let moved : IsMovedOut v.net.plan (after v.net.plan journal) c = subst (λ p. IsMovedOut p (after p journal) c) (sym board.same_plan) claim.moved in
    let independent : AllByRecursion (AreIndependent c.event) more = all_behind journal more (λ i f le there.
    let there' : slice_get v.journal i ≡ Some f = ap (λ l. slice_get l i) (sym on) ∙ there in
    let since : h.since ≤ i = subst (λ k. k ≤ i) (sym claim.since) le in
    record {
      elsewhere = λ s. unmoved i f since there' (s ∙ sym same);
      keeps_sender = λ m from lost. board.senders_stay (event_node c.event) m h here (claim.event ∙ recv_of c.event m from) i since (there' ∙ ap Some lost);
    }) in
    let moved_now : IsMovedOut v.net.plan (after v.net.plan v.journal) c = subst (λ l. IsMovedOut v.net.plan (after v.net.plan l) c) on (moved_after v.net.plan journal more c moved independent) in
    record {
      out = board.out (event_node c.event) h here ∙ ap Some claim.event;
      moved = subst (λ (st : State). IsMovedOut v.net.plan st c) (sym board.reached.state) moved_now;
      worked = subst (λ p. MayBeWorked p c) (sym board.same_plan) claim.worked;
    }

-- ---- the end

none_out_at : (l : List (Option Holding)) (n : ℕ) (h : Holding) → out_count l ≡ 0 → slice_get l n ≡ Some (Some h) → ⊥
none_out_at [] n h z at = cc
none_out_at (None ∷ xs) zero h z at = cc
none_out_at (None ∷ xs) (suc n) h z at = none_out_at xs n h z at
none_out_at (Some g ∷ xs) n h z at = omega arith

count_where_none : (l : List (Option Holding)) → ((n : ℕ) (h : Holding) → slice_get l n ≡ Some (Some h) → ⊥) → out_count l ≡ 0
count_where_none [] none = refl
count_where_none (None ∷ xs) none = count_where_none xs (λ n h at. none (suc n) h at)
count_where_none (Some g ∷ xs) none = absurd (none 0 g refl)

home_where_none : (v : BoardView) → IsBoard v → out_count v.holders ≡ 0 → AllHome v.net
home_where_none v board z n = go (outs_of v.net n) refl
  where
    go : (o : Option Event) → outs_of v.net n ≡ o → o ≡ None
    go None at = refl
    go (Some e) at = absurd (held (slice_get v.holders n) refl)
      where
        held : (o : Option (Option Holding)) → slice_get v.holders n ≡ o → ⊥
        held None there =
            let own : event_node e ≡ n = board.out_together.own n e at in
            let low : event_node e < nodes v.net.plan = enabled_below v.net.plan v.journal e (board.out_together.enabled n e at) in
            let count = board.holder_count in
            let same : nodes v.net.plan ≡ nodes v.plan = ap nodes board.same_plan in
            some_there v.holders n (omega arith) there
        held (Some None) there = let a = board.home n there in cc
        held (Some (Some h)) there = none_out_at v.holders n h z there

count_where_home : (v : BoardView) → IsBoard v → AllHome v.net → out_count v.holders ≡ 0
count_where_home v board home = count_where_none v.holders (λ n h at. let a = board.out n h at in let b = home n in cc)

-- what `is_done` finds
pub not_done_where_out : (v : BoardView) (count : ℕ) → IsBoard v → count ≡ out_count v.holders → count ≢ 0 → IsDone v → ⊥
not_done_where_out v count board is some done = some (is ∙ count_where_home v board done.home)

pub done_where_none : (v : BoardView) (count : ℕ) → IsBoard v → count ≡ out_count v.holders → count ≡ 0 → None ≡ slice_get (claimable_of v.net) 0 → IsDone v
done_where_none v count board is zero_is first = record { home = home_where_none v board (sym is ∙ zero_is); quiet = first_none (claimable_of v.net) first }

pub not_done_where_some : (v : BoardView) (e : Event) → Some e ≡ slice_get (claimable_of v.net) 0 → IsDone v → ⊥
not_done_where_some v e first done = let a : slice_get (claimable_of v.net) 0 ≡ None = ap (λ (es : List Event). slice_get es 0) done.quiet in let b : Some e ≡ None = first ∙ a in cc

pub whole_run : (v : BoardView) (releases : List TreeRelease) → IsPlan v.plan → IsBoard v → IsDone v → releases ≡ v.net.releases → IsWholeRun v.plan v.journal releases
whole_run v releases plan board done is =
    let p = v.net.plan in
    let none : claimable_events p (after p v.journal) (outs_of v.net) ≡ [] = subst (λ (st : State). claimable_events p st (outs_of v.net) ≡ []) board.reached.state done.quiet in
    let quiet = claimable_quiet p v.journal (outs_of v.net) (subst IsPlan (sym board.same_plan) plan) board.reached.legal done.home none in
    subst (λ rs. IsWholeRun v.plan v.journal rs) (sym is) (subst (λ q. IsWholeRun q v.journal v.net.releases) board.same_plan (record {
      whole = (board.reached.legal, quiet);
      released = ap (λ (st : State). st.releases) board.reached.state;
      numbered = board.reached.numbered;
      trees = board.reached.trees;
    }))

-- of holders that are all none, each is none
pub none_is_out : (holders : List (Option Holding)) (n : ℕ) → holders ≡ replicate n None → (node : ℕ) → node < length holders → slice_get holders node ≡ Some None
none_is_out holders n are node below = subst (λ (hs : List (Option Holding)). node < length hs → slice_get hs node ≡ Some None) (sym are) (go n node) below
  where
    go : (n node : ℕ) → node < length {A = Option Holding} (replicate n None) → slice_get {X = Option Holding} (replicate n None) node ≡ Some None
    go zero node low = absurd (omega arith)
    go (suc n) zero low = refl
    go (suc n) (suc node) low = go n node (omega (arith, low))

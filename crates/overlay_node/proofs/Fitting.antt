-- What is held of a wave fits the book after each act.
use Rattle.std.proofs.Common.{◌≡◌, ◌≢◌, ◌≤◌, ℕ, zero, suc, inl, inr, Bool, true, false, List, Option, Some, None, IsSome, refl, sym, ap, subst, ◌∙◌, arith}
use Rattle.std.proofs.lemmas.Bool.{true≢false}
use Rattle.rank_set.specs.Ranks.{Ranks, Has, IsSubset, none, size, union}
use Rattle.prefix_tree.specs.Tree.{tree_of}
use Rattle.prefix_tree.proofs.TreeLemmas.{coverage-tree_of}
use Rattle.stat_plan.specs.Invariants.{IsPlan}
use Rattle.stat_plan.specs.Plans.{Plan, is_front, mode, samples, stream_of, stream_ranks}
use Rattle.stat_plan.specs.Machine.Kin.{complete}
use Rattle.stat_plan.specs.Machine.Due.{due_act}
use Rattle.stat_plan.specs.Machine.Waves.{Wave, Open, Closed, ticks, ticked, ticked_timer, unsent, has_grown, is_empty_open}
use Rattle.overlay_setup.specs.declared.script.Mode.{Mode}
use Rattle.overlay_setup.specs.declared.script.Mode.TheVariants.{WaitForAll, TimeOut, DontWait}
use Rattle.stat_plan.specs.declared.machine.Timer.{Timer}
use Rattle.stat_plan.specs.declared.machine.Timer.TheVariants.{Off, Running, Fired}
use Rattle.stat_plan.specs.declared.machine.Act.{Act}
use Rattle.stat_plan.specs.declared.machine.Act.TheVariants.{Hold, Arm, Send, Partial}
use Rattle.merge_filter.specs.Contributions.{Contrib, IsPartialMerge, contrib, coverage_of}
use Rattle.merge_filter.proofs.Daemons.{stream_some}
use Rattle.merge_filter.proofs.Standing.{stands_from}
use Rattle.overlay_core.specs.Nodes.{due_at}
use Rattle.overlay_core.proofs.Settled.{after_arm, ne_from_grown}
use Rattle.stat_plan.proofs.PlanFacts.{plan_facts}
use Rattle.overlay_core.proofs.RankSets.{empty_true, in_union, no_rank, none_from_subset, union_left}
use Rattle.overlay_core.proofs.Sends.{send_grown}
use Rattle.overlay_node.specs.NodeViews.{HeldFits, HeldView, OpenFits, TimerFits}
use Rattle.overlay_node.specs.Acting.{due_as, partial_merge}
use Rattle.overlay_node.proofs.Sizes.{size_more, size_within}

-- ---- what is due

-- an act that isn't Hold is due for an open wave
pub record IsDue (p : Plan) (n : ℕ) (lost : List ℕ) (s : ℕ) (v : Wave) (a : Act) : Type 0 where
  pub covered : Ranks
  pub sent : Ranks
  pub timer : Timer
  pub is : v ≡ Open covered sent timer
  pub due : due_at p n lost s covered sent timer ≡ a

pub due_open : (p : Plan) (n : ℕ) (lost : List ℕ) (s : ℕ) (v : Wave) (a : Act) → due_as p n lost s v ≡ a → (Hold ≡ a → ⊥) → IsDue p n lost s v a
due_open p n lost s Closed a e ne = absurd (ne e)
due_open p n lost s (Open covered sent timer) a e ne = record { covered = covered; sent = sent; timer = timer; is = refl; due = e }

partial_grown : (m : Mode) (done grown top : Bool) (t : Timer) → due_act m done grown top t ≡ Partial → (grown ≡ true) × (top ≡ true)
partial_grown m true grown true t e = absurd (cc)
partial_grown m true true false t e = absurd (cc)
partial_grown m true false false t e = absurd (cc)
partial_grown WaitForAll false grown top t e = absurd (cc)
partial_grown DontWait false true true t e = (refl, refl)
partial_grown DontWait false true false t e = absurd (cc)
partial_grown DontWait false false top t e = absurd (cc)
partial_grown (TimeOut k) false true top Off e = absurd (cc)
partial_grown (TimeOut k) false false top Off e = absurd (cc)
partial_grown (TimeOut k) false grown top (Running j) e = absurd (cc)
partial_grown (TimeOut k) false true true Fired e = (refl, refl)
partial_grown (TimeOut k) false true false Fired e = absurd (cc)
partial_grown (TimeOut k) false false top Fired e = absurd (cc)

-- a timer is started in streams with a timeout alone
pub arm_some : (p : Plan) (n : ℕ) (lost : List ℕ) (s : ℕ) (covered sent : Ranks) (timer : Timer) → IsPlan p → due_at p n lost s covered sent timer ≡ Arm → 1 ≤ ticks (mode p s)
unfolding due_at
arm_some p n lost s covered sent timer plan e =
    let r = (after_arm (mode p s) (complete p n lost s covered) (has_grown covered sent) (is_front p n) timer 0 e).2 in
    subst (λ m. 1 ≤ ticks m) (sym r.1) ((plan_facts p plan).ticks_some s r.0 r.1)

pub partial_new : (p : Plan) (n : ℕ) (lost : List ℕ) (s : ℕ) (covered sent : Ranks) (timer : Timer) → due_at p n lost s covered sent timer ≡ Partial → (covered ≢ sent) × (is_front p n ≡ true)
unfolding due_at
partial_new p n lost s covered sent timer e =
    let r = partial_grown (mode p s) (complete p n lost s covered) (has_grown covered sent) (is_front p n) timer e in
    (ne_from_grown covered sent r.0, r.1)

-- what is sent has some rank
pub send_some : (p : Plan) (n : ℕ) (lost : List ℕ) (s : ℕ) (covered sent : Ranks) (timer : Timer) → due_at p n lost s covered sent timer ≡ Send → IsSubset sent covered → covered ≢ none
unfolding due_at
send_some p n lost s covered sent timer e within empty =
    let ne : covered ≢ sent = ne_from_grown covered sent (send_grown (mode p s) (complete p n lost s covered) (has_grown covered sent) (is_front p n) timer e) in
    ne (empty ∙ sym (none_from_subset sent (subst (IsSubset sent) empty within)))

-- ---- what is held

pub open_fits : (p : Plan) (n : ℕ) (h : HeldView) (v : Wave) (covered sent : Ranks) (timer : Timer) → v ≡ Open covered sent timer → HeldFits p n h v → OpenFits p n h covered sent timer
open_fits p n h v covered sent timer e f = subst (HeldFits p n h) e f

pub some_is : {X : Type 0} (x y : X) → ◌≡◌ {A = Option X} (Some x) (Some y) → x ≡ y
some_is {X} x y e = ap (λ (o : Option X). elim o [ None ↦ x | Some z ↦ z ]) e

-- the plan has the stream of an open wave of which something is held
pub open_stream : (p : Plan) (n : ℕ) (h : HeldView) (v : Wave) (covered sent : Ranks) (timer : Timer) → v ≡ Open covered sent timer → HeldFits p n h v → IsSome (stream_of p h.stream)
open_stream p n h v covered sent timer is f =
    let fits = open_fits p n h v covered sent timer is f in
    subst (λ s. IsSome (stream_of p s)) fits.stream (stream_some p fits.part.stream fits.part.wave fits.merge.wave)

-- the same is held where other ranks were passed on and the timer stands otherwise
refit : (p : Plan) (n : ℕ) (h : HeldView) (covered sent after : Ranks) (timer then : Timer) → IsSubset after covered → h.release_count ≤ size after → TimerFits p h.stream then → OpenFits p n h covered sent timer → OpenFits p n h covered after then
refit p n h covered sent after timer then within few fits f = record {
  part = f.part;
  is = f.is;
  stream = f.stream;
  wave = f.wave;
  merge = f.merge;
  covers = f.covers;
  within = within;
  within_limit = few;
  at_front = f.at_front;
  timer_fits = fits;
}

-- the timer was started
pub arm_fits : (p : Plan) (n : ℕ) (h : HeldView) (covered sent : Ranks) (timer : Timer) → 1 ≤ ticks (mode p h.stream) → OpenFits p n h covered sent timer → OpenFits p n h covered sent (Running (ticks (mode p h.stream)))
arm_fits p n h covered sent timer some f = refit p n h covered sent sent timer _ f.within f.within_limit (some, omega arith) f

-- all was passed on
pub sent_fits : (p : Plan) (n : ℕ) (h : HeldView) (covered sent : Ranks) (timer : Timer) → OpenFits p n h covered sent timer → OpenFits p n h covered covered Off
sent_fits p n h covered sent timer f =
    refit p n h covered sent covered timer Off (λ r there. there) (let a : h.release_count ≤ size sent = f.within_limit in let b : size sent ≤ size covered = size_within sent covered f.within in omega (arith, a, b)) tt f

-- all was released, as one release more
pub given_fits : (p : Plan) (n : ℕ) (h g : HeldView) (covered sent : Ranks) (timer : Timer) → g.part ≡ h.part → g.stream ≡ h.stream → g.wave ≡ h.wave → g.release_count ≡ suc h.release_count → covered ≢ sent → is_front p n ≡ true
    → OpenFits p n h covered sent timer → OpenFits p n g covered covered Off
given_fits p n h g covered sent timer ep es ew ec more front f = record {
  part = f.part;
  is = ep ∙ f.is;
  stream = f.stream ∙ sym es;
  wave = f.wave ∙ sym ew;
  merge = f.merge;
  covers = f.covers;
  within = λ r there. there;
  within_limit =
      let a : h.release_count ≤ size sent = f.within_limit in
      let b : suc (size sent) ≤ size covered = size_more sent covered f.within more in
      let e : g.release_count ≡ suc h.release_count = ec in
      omega (arith, a, b, e);
  at_front = λ no_front. absurd (true≢false (sym front ∙ no_front));
  timer_fits = tt;
}

-- so does a tick
ticked_fits : (p : Plan) (s : ℕ) (t : Timer) → TimerFits p s t → TimerFits p s (ticked_timer t)
ticked_fits p s Off h = tt
ticked_fits p s (Running zero) h = absurd (let a = h.0 in omega (arith, a))
ticked_fits p s (Running (suc zero)) h = h.1
ticked_fits p s (Running (suc (suc t))) h = (omega arith, (let a = h.1 in omega (arith, a)))
ticked_fits p s Fired h = h

pub held_ticked : (p : Plan) (n : ℕ) (h : HeldView) (v : Wave) → HeldFits p n h v → HeldFits p n h (ticked v)
held_ticked p n h Closed f = f
held_ticked p n h (Open covered sent timer) f = refit p n h covered sent sent timer (ticked_timer timer) f.within f.within_limit (ticked_fits p h.stream timer f.timer_fits) f

-- at a node that isn't the front end, nothing may count as sent
pub held_unsent : (p : Plan) (n : ℕ) (h : HeldView) (v : Wave) → is_front p n ≡ false → HeldFits p n h v → HeldFits p n h (unsent v)
held_unsent p n h Closed low f = f
held_unsent p n h (Open covered sent timer) low f =
    refit p n h covered sent none timer Off (λ r there. absurd (no_rank r there)) (let a : h.release_count ≡ 0 = f.at_front low in omega (arith, a)) tt f

-- ---- what comes in

-- a partial merge of the plan is determined by its ranks
pub is_partial_merge : (p : Plan) (c : Contrib) (s w : ℕ) (set : Ranks) → IsPartialMerge p c → c.stream ≡ s → c.wave ≡ w → coverage_of c ≡ set → c ≡ partial_merge p s w set
is_partial_merge p c s w set h es ew ec = λ i. contrib (es i) (ew i) ((h.tree ∙ (λ j. tree_of (samples p (es j) (ew j)) (ec j))) i)

pub covered-partial_merge : (p : Plan) (s w : ℕ) (set : Ranks) → coverage_of (partial_merge p s w set) ≡ set
covered-partial_merge p s w set = coverage-tree_of (samples p s w) set

merge_named : (p : Plan) (c : Contrib) (s w : ℕ) → IsPartialMerge p c → c.stream ≡ s → c.wave ≡ w → IsPartialMerge p (contrib s w c.tree)
merge_named p c s w h es ew = subst (λ x. IsPartialMerge p (contrib x w c.tree)) es (subst (λ y. IsPartialMerge p (contrib c.stream y c.tree)) ew h)

-- more ranks fit
pub grown_fits : (p : Plan) (n : ℕ) (h g : HeldView) (x : Contrib) (covered sent : Ranks) (timer : Timer) → (f : OpenFits p n h covered sent timer) → IsPartialMerge p x → x.stream ≡ h.stream → x.wave ≡ h.wave
    → g.stream ≡ h.stream → g.wave ≡ h.wave → g.release_count ≡ h.release_count → g.part ≡ Some (partial_merge p h.stream h.wave (union covered (coverage_of x)))
    → OpenFits p n g (union covered (coverage_of x)) sent timer
grown_fits p n h g x covered sent timer f hx es ew gs gw gc gp =
    let set : Ranks = union covered (coverage_of x) in
    let lies : IsSubset set (stream_ranks p h.stream) = (λ r there. elim (in_union r covered (coverage_of x) there) [
      | inl i ↦ subst (λ y. Has r (stream_ranks p y)) f.stream (f.merge.lies r (subst (Has r) (sym f.covers) i))
      | inr i ↦ subst (λ y. Has r (stream_ranks p y)) es (hx.lies r i)
    ]) in
    record {
      part = partial_merge p h.stream h.wave set;
      is = gp;
      stream = sym gs;
      wave = sym gw;
      merge = stands_from p h.stream h.wave set (tree_of (samples p h.stream h.wave) set) refl lies (merge_named p x h.stream h.wave hx es ew).wave;
      covers = covered-partial_merge p h.stream h.wave set;
      within = λ r there. union_left r covered (coverage_of x) (f.within r there);
      within_limit = let a : h.release_count ≤ size sent = f.within_limit in let e : g.release_count ≡ h.release_count = gc in omega (arith, a, e);
      at_front = λ low. gc ∙ f.at_front low;
      timer_fits = subst (λ y. TimerFits p y timer) (sym gs) f.timer_fits;
    }

-- the first ranks fit
pub own_fits : (p : Plan) (n : ℕ) (h g : HeldView) (x : Contrib) (covered sent : Ranks) (timer : Timer) → (f : OpenFits p n h covered sent timer) → covered ≡ none → IsPartialMerge p x → x.stream ≡ h.stream → x.wave ≡ h.wave
    → g.stream ≡ h.stream → g.wave ≡ h.wave → g.release_count ≡ h.release_count → g.part ≡ Some x → OpenFits p n g (coverage_of x) sent timer
own_fits p n h g x covered sent timer f empty hx es ew gs gw gc gp = record {
  part = x;
  is = gp;
  stream = es ∙ sym gs;
  wave = ew ∙ sym gw;
  merge = hx;
  covers = refl;
  within = λ r there. absurd (no_rank r (subst (Has r) empty (f.within r there)));
  within_limit = let a : h.release_count ≤ size sent = f.within_limit in let e : g.release_count ≡ h.release_count = gc in omega (arith, a, e);
  at_front = λ low. gc ∙ f.at_front low;
  timer_fits = subst (λ y. TimerFits p y timer) (sym gs) f.timer_fits;
}

-- an open wave that covers nothing
pub empty_open : (v : Wave) (covered sent : Ranks) (timer : Timer) → v ≡ Open covered sent timer → is_empty_open v ≡ true → covered ≡ none
empty_open v covered sent timer e t = empty_true covered (sym (ap is_empty_open e) ∙ t)

-- the number of releases of an open wave is within the number of ranks
pub given_within : (p : Plan) (n : ℕ) (h : HeldView) (v : Wave) (covered sent : Ranks) (timer : Timer) (c : Contrib) (most : ℕ) → v ≡ Open covered sent timer → HeldFits p n h v → h.part ≡ Some c → size (coverage_of c) ≤ most → h.release_count ≤ most
given_within p n h v covered sent timer c most e f ep le =
    let o = open_fits p n h v covered sent timer e f in
    let same : c ≡ o.part = some_is c o.part (sym ep ∙ o.is) in
    let a : size sent ≤ size covered = size_within sent covered o.within in
    let b : h.release_count ≤ size sent = o.within_limit in
    let d : size covered ≤ most = subst (λ set. size set ≤ most) (ap coverage_of same ∙ o.covers) le in
    omega (arith, a, b, d)

-- The tests find the events that may be claimed.
use Rattle.std.proofs.Common.{◌≡◌, ◌≢◌, ◌<◌, ℕ, Bool, true, false, ◌&&◌, not, List, [], ◌∷◌, filter, refl, sym, ap, ◌∙◌, eqb-true, eq-eqb, Option, Some, None}
use Rattle.std.specs.Prelude.{◌↔◌}
use Rattle.std.specs.List.{list_any}
use Rattle.std.proofs.lemmas.Bool.{cond_both, and_parts, and_from, false_from_ne_true, true≢false}
use Rattle.overlay_setup.specs.NodeSets.{In, up_to}
use Rattle.stat_plan.specs.Invariants.{IsPlan}
use Rattle.stat_plan.specs.Plans.{Plan, nodes}
use Rattle.overlay_event.specs.Events.{event_node}
use Rattle.overlay_event.specs.declared.event.Event.{Event}
use Rattle.overlay_event.specs.declared.event.Event.TheVariants.{Sample, Recv, Tick, Lose}
use Rattle.overlay_core.specs.Machine.{State, start, is_enabled, enabled_events}
use Rattle.overlay_core.specs.Runs.{after, IsLegal, IsQuiet}
use Rattle.overlay_core.specs.Independent.{sender_of}
use Rattle.stat_plan.proofs.PlanFacts.{plan_facts}
use Rattle.overlay_core.proofs.Journals.{listed_where_enabled, quiet_where_empty}
use Rattle.stat_plan.proofs.InLists.{any_from_in, in_from_filter, in_filter, up_to_in, in_from_any}
use Rattle.overlay_core.proofs.Steps.{active_parts}
use Rattle.overlay_core.proofs.Whole.{lives_below, start_below}
use Rattle.event_claims.specs.Claims.{Outs, MayBeOut, MayBeClaimed, is_home, is_loss_of, receives_from, is_free, is_claimable, claimable_events}

home_none : (o : Option Event) → is_home o ≡ true → o ≡ None
home_none None t = refl
home_none (Some e) t = absurd (true≢false (sym t))

-- a node that is out with the loss of m
loss_is : (o : Option Event) (m : ℕ) → is_loss_of o m ≡ true → o ≡ Some (Lose m)
loss_is None m t = absurd (true≢false (sym t))
loss_is (Some (Sample n s w)) m t = absurd (true≢false (sym t))
loss_is (Some (Recv n k)) m t = absurd (true≢false (sym t))
loss_is (Some (Tick n)) m t = absurd (true≢false (sym t))
loss_is (Some (Lose n)) m t = ap (λ j. Some (Lose j)) (eqb-true n m t)

-- a node that is out with a packet of m
packet_is : (o : Option Event) (m : ℕ) → receives_from o m ≡ true → (n : ℕ) × (o ≡ Some (Recv n m))
packet_is None m t = absurd (true≢false (sym t))
packet_is (Some (Sample n s w)) m t = absurd (true≢false (sym t))
packet_is (Some (Recv n k)) m t = (n, ap (λ j. Some (Recv n j)) (eqb-true k m t))
packet_is (Some (Tick n)) m t = absurd (true≢false (sym t))
packet_is (Some (Lose n)) m t = absurd (true≢false (sym t))

-- an enabled event that passes the tests may be claimed
pub claimable_may : (p : Plan) (st : State) (out : Outs) (e : Event) → ((n : ℕ) → st.alive n ≡ true → n < nodes p) → MayBeOut p st out → is_enabled p st e ≡ true → is_claimable p out e ≡ true → MayBeClaimed p st out e
claimable_may p st out e below h en t = record {
  enabled = en;
  home = home_none (out (event_node e)) (and_parts _ _ t).0;
  sender_stays = sender e (and_parts _ _ t).1;
  no_packet_out = packets e (and_parts _ _ t).1;
}
  where
    sender : (g : Event) → is_free p out g ≡ true → (m : ℕ) → sender_of g ≡ Some m → out m ≢ Some (Lose m)
    sender (Sample n s w) free m is lost = absurd (cc)
    sender (Recv n k) free m is lost =
        let same : k ≡ m = cc in
        let here : out k ≡ Some (Lose m) = ap out same ∙ lost in
        true≢false (sym free ∙ ap not (ap (λ o. is_loss_of o k) here ∙ eq-eqb m k (sym same)))
    sender (Tick n) free m is lost = absurd (cc)
    sender (Lose n) free m is lost = absurd (cc)

    packets : (g : Event) → is_free p out g ≡ true → (k n : ℕ) → g ≡ Lose k → out n ≢ Some (Recv n k)
    packets (Sample m s w) free k n is at = absurd (cc)
    packets (Recv m j) free k n is at = absurd (cc)
    packets (Tick m) free k n is at = absurd (cc)
    packets (Lose m) free k n is at =
        let same : m ≡ k = cc in
        let up : st.alive n ≡ true = (active_parts p st n (and_parts _ _ (h.enabled n (Recv n k) at)).0).0 in
        let received : receives_from (out n) m ≡ true = ap (λ o. receives_from o m) at ∙ eq-eqb k m (sym same) in
        true≢false (sym free ∙ ap not (any_from_in (λ j. receives_from (out j) m) n (up_to (nodes p)) (up_to_in (nodes p) n (below n up)) received))

-- an event that may be claimed passes the tests
pub may_claimable : (p : Plan) (st : State) (out : Outs) (e : Event) → MayBeOut p st out → MayBeClaimed p st out e → is_claimable p out e ≡ true
may_claimable p st out e h c = and_from (is_home (out (event_node e))) (is_free p out e) (ap is_home c.home) (free e c.sender_stays c.no_packet_out)
  where
    free : (g : Event) → ((m : ℕ) → sender_of g ≡ Some m → out m ≢ Some (Lose m)) → ((k n : ℕ) → g ≡ Lose k → out n ≢ Some (Recv n k)) → is_free p out g ≡ true
    free (Sample n s w) sender packets = refl
    free (Recv n m) sender packets = ap not (false_from_ne_true (is_loss_of (out m) m) (λ t. sender m refl (loss_is (out m) m t)))
    free (Tick n) sender packets = refl
    free (Lose n) sender packets = ap not (false_from_ne_true (list_any (λ k. receives_from (out k) n) (up_to (nodes p))) (λ t.
        let k = in_from_any (λ k. receives_from (out k) n) (up_to (nodes p)) t in
        let q = packet_is (out k.0) n k.1.1 in
        let own : q.0 ≡ k.0 = h.own k.0 (Recv q.0 n) q.1 in
        packets n k.0 refl (q.1 ∙ ap (λ j. Some (Recv j n)) own)))

pub claimable_listed : (p : Plan) (journal : List Event) (out : Outs) (e : Event) → IsPlan p → IsLegal p journal → MayBeOut p (after p journal) out → In e (claimable_events p (after p journal) out) ↔ MayBeClaimed p (after p journal) out e
unfolding claimable_events
claimable_listed p journal out e plan legal h = (
  (λ i.
      let t = in_from_filter (is_claimable p out) e (enabled_events p (after p journal)) i in
      claimable_may p (after p journal) out e (lives_below p (start p) journal (start_below p)) h ((listed_where_enabled p journal e (plan_facts p plan) legal).1 t.0) t.1),
  (λ c. in_filter (is_claimable p out) e (enabled_events p (after p journal)) ((listed_where_enabled p journal e (plan_facts p plan) legal).0 c.enabled) (may_claimable p (after p journal) out e h c)),
)

-- where no node is out, each event passes the tests
home_claimable : (p : Plan) (out : Outs) (e : Event) → ((n : ℕ) → out n ≡ None) → is_claimable p out e ≡ true
home_claimable p out (Sample n s w) home = ap (λ o. is_home o && true) (home n)
home_claimable p out (Recv n m) home = (λ i. is_home (home n i) && not (is_loss_of (home m i) m))
home_claimable p out (Tick n) home = ap (λ o. is_home o && true) (home n)
home_claimable p out (Lose n) home = (λ i. is_home (home n i) && not (list_any (λ k. receives_from (home k i) n) (up_to (nodes p)))) ∙ ap not (none (up_to (nodes p)))
  where
    none : (ks : List ℕ) → list_any (λ k. receives_from None n) ks ≡ false
    none [] = refl
    none (k ∷ ks) = none ks

filter_all : (test : Event → Bool) (es : List Event) → ((e : Event) → test e ≡ true) → filter test es ≡ es
filter_all test [] passes = refl
filter_all test (e ∷ es) passes = cond_both {A = List Event} (test e) (e ∷ filter test es) (filter test es) (λ l. l ≡ e ∷ es) (λ t. ap (λ l. e ∷ l) (filter_all test es passes)) (λ t. absurd (true≢false (sym (passes e) ∙ t)))

pub claimable_home : (p : Plan) (st : State) (out : Outs) → ((n : ℕ) → out n ≡ None) → claimable_events p st out ≡ enabled_events p st
unfolding claimable_events
claimable_home p st out home = filter_all (is_claimable p out) (enabled_events p st) (λ e. home_claimable p out e home)

pub claimable_quiet : (p : Plan) (journal : List Event) (out : Outs) → IsPlan p → IsLegal p journal → ((n : ℕ) → out n ≡ None) → claimable_events p (after p journal) out ≡ [] → IsQuiet p (after p journal)
claimable_quiet p journal out plan legal home empty = (quiet_where_empty p journal (plan_facts p plan) legal).1 (sym (claimable_home p (after p journal) out home) ∙ empty)

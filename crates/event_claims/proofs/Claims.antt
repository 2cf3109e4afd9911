-- Which events may be out together: none at first, one more when an event is claimed, one less when it comes home.
use Rattle.std.proofs.Common.{◌≡◌, ◌≢◌, ◌⊎◌, inl, inr, ℕ, true, ◌==◌, sym, ap, subst, ◌∙◌, eqb-true, Option, Some, None}
use Rattle.std.proofs.lemmas.Bool.{cond_both, eqb-false}
use Rattle.std.proofs.lemmas.Option.{none-some, same_Some}
use Rattle.stat_plan.specs.Plans.{Plan}
use Rattle.stat_plan.specs.Machine.Waves.{put_at}
use Rattle.overlay_event.specs.Events.{event_node}
use Rattle.overlay_event.specs.declared.event.Event.{Event}
use Rattle.overlay_event.specs.declared.event.Event.TheVariants.{Sample, Recv, Tick, Lose}
use Rattle.overlay_core.specs.Machine.{State, step, is_enabled}
use Rattle.overlay_core.specs.Independent.{sender_of, AreIndependent}
use Rattle.event_claims.specs.Claims.{Outs, MayBeOut, MayBeClaimed, all_home, claimed, come_home}
use Rattle.event_claims.proofs.Independent.{finds_same}

-- what is put at a is there, and elsewhere is what was there
pub put_cases : (out : Outs) (a : ℕ) (o : Option Event) (b : ℕ) (r : Option Event) → put_at out a o b ≡ r → ((b ≡ a) × (o ≡ r)) ⊎ ((b ≢ a) × (out b ≡ r))
put_cases out a o b r = cond_both {A = Option Event} (b == a) o (out b) (λ x. x ≡ r → ((b ≡ a) × (o ≡ r)) ⊎ ((b ≢ a) × (out b ≡ r))) (λ t e. inl (eqb-true b a t, e)) (λ t e. inr (eqb-false b a t, e))

pub nothing_out : (p : Plan) (st : State) → MayBeOut p st all_home
nothing_out p st = record {
  own = λ n e at. absurd (none-some e at);
  enabled = λ n e at. absurd (none-some e at);
  senders_stay = λ n m at lost. none-some (Recv n m) at;
}

pub claim_more : (p : Plan) (st : State) (out : Outs) (e : Event) → MayBeOut p st out → MayBeClaimed p st out e → MayBeOut p st (claimed out e)
claim_more p st out e h c = record {
  own = λ n f at. elim (put_cases out (event_node e) (Some e) n (Some f) at) [
    | inl t ↦ ap event_node (sym (same_Some e f t.1)) ∙ sym t.0
    | inr t ↦ h.own n f t.1
  ];
  enabled = λ n f at. elim (put_cases out (event_node e) (Some e) n (Some f) at) [
    | inl t ↦ subst (λ g. is_enabled p st g ≡ true) (same_Some e f t.1) c.enabled
    | inr t ↦ h.enabled n f t.1
  ];
  senders_stay = λ n m at lost. elim (put_cases out (event_node e) (Some e) n (Some (Recv n m)) at) [
    | inl t ↦
        let is : e ≡ Recv n m = same_Some e (Recv n m) t.1 in
        elim (put_cases out (event_node e) (Some e) m (Some (Lose m)) lost) [
          | inl u ↦ no_loss n m (sym is ∙ same_Some e (Lose m) u.1)
          | inr u ↦ c.sender_stays m (ap sender_of is) u.1
        ]
    | inr t ↦
        elim (put_cases out (event_node e) (Some e) m (Some (Lose m)) lost) [
          | inl u ↦ c.no_packet_out m n (same_Some e (Lose m) u.1) t.1
          | inr u ↦ h.senders_stay n m t.1 u.1
        ]
  ];
}
  where
    no_loss : (n m : ℕ) → Recv n m ≡ Lose m → ⊥
    no_loss n m s = cc

-- an event that is out is independent of each other one that is out
pub out_apart : (p : Plan) (st : State) (out : Outs) (e f : Event) → MayBeOut p st out → out (event_node e) ≡ Some e → out (event_node f) ≡ Some f → event_node f ≢ event_node e → AreIndependent f e
out_apart p st out e f h here there ne = record { elsewhere = λ s. ne (sym s); keeps_sender = go f there }
  where
    go : (g : Event) → out (event_node g) ≡ Some g → (m : ℕ) → sender_of g ≡ Some m → e ≢ Lose m
    go (Sample n s w) at m is lost = absurd (cc)
    go (Recv n k) at m is lost =
        let same : k ≡ m = cc in
        let loss : out m ≡ Some (Lose m) = ap out (sym (ap event_node lost)) ∙ here ∙ ap Some lost in
        h.senders_stay n m (at ∙ ap (λ j. Some (Recv n j)) same) loss
    go (Tick n) at m is lost = absurd (cc)
    go (Lose n) at m is lost = absurd (cc)

pub commit_less : (p : Plan) (st : State) (out : Outs) (e : Event) → MayBeOut p st out → out (event_node e) ≡ Some e → MayBeOut p (step p st e) (come_home out e)
commit_less p st out e h here = record {
  own = λ n f at. h.own n f (others n f at).1;
  enabled = λ n f at.
      let t = others n f at in
      let own : event_node f ≡ n = h.own n f t.1 in
      (finds_same p st f e (out_apart p st out e f h here (ap out own ∙ t.1) (λ s. t.0 (sym own ∙ s))) (h.enabled n f t.1)).enabled;
  senders_stay = λ n m at lost. h.senders_stay n m (others n (Recv n m) at).1 (others m (Lose m) lost).1;
}
  where
    others : (n : ℕ) (f : Event) → come_home out e n ≡ Some f → (n ≢ event_node e) × (out n ≡ Some f)
    others n f at = elim (put_cases out (event_node e) None n (Some f) at) [ inl t ↦ absurd (none-some f t.1) | inr t ↦ t ]

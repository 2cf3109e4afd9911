-- A line is that of one event, and the event of a line is found among the events of the plan.
use Rattle.std.proofs.Common.{◌≡◌, ◌↔◌, ℕ, ◌<◌, List, ◌∷◌, ◌++◌, map, Option, None, Some, inl, inr, refl, sym, ap, ◌∙◌, subst}
use Rattle.std.specs.Str.{bytes_eq}
use Rattle.std.proofs.lemmas.Slice.Eq.{bytes_eq-Decides}
use Rattle.overlay_setup.specs.NodeSets.{In, up_to}
use Rattle.overlay_setup.specs.Names.{name_of}
use Rattle.overlay_event.specs.declared.event.Event.{Event}
use Rattle.overlay_event.specs.declared.event.Event.TheVariants.{Sample, Recv, Tick, Lose}
use Rattle.stat_plan.specs.Invariants.{IsPlan}
use Rattle.stat_plan.specs.Plans.{Plan, nodes, waves_of}
use Rattle.stat_plan.proofs.FirstOver.{found_in}
use Rattle.stat_plan.proofs.InLists.{in_append, append_left, append_right, in_map, in_from_map, up_to_in, up_to_below}
use Rattle.journal_text.specs.Events.{IsEventOf, events_at, events_of}
use Rattle.journal_text.specs.Reading.{event_of_line, IsEventRead}
use Rattle.journal_text.specs.Text.{line_of, wave_text}
use Rattle.journal_text.proofs.Lists.{differ, find_none, find_only, find_passes, in_flat_map, in_from_flat_map}
use Rattle.journal_text.proofs.Names.{name_has_no_space, one_name}
use Rattle.journal_text.proofs.Parted.{parted}
use Rattle.journal_text.proofs.Waves.{one_wave_text, wave_small}

module _ (p : Plan) where
  abbrev recvs : ℕ → List Event
  recvs n = map (λ m. Recv n m) (up_to (nodes p))

  abbrev samples : ℕ → List Event
  samples n = map (λ (v : ℕ × ℕ). Sample n v.0 v.1) (waves_of p.streams)

  -- an event of the plan is in the list at its node
  at_node : (n : ℕ) (e : Event) → n < nodes p → In e (events_at p n) → In e (events_of p)
  at_node n e below there = in_flat_map (events_at p) (up_to (nodes p)) n e (up_to_in (nodes p) n below) there

  listed : (e : Event) → IsEventOf p e → In e (events_of p)
  listed (Sample n s w) is =
      at_node n (Sample n s w) is.0 (inr (inr (append_right (Sample n s w) (recvs n) (samples n) (in_map (λ (v : ℕ × ℕ). Sample n v.0 v.1) (s, w) (waves_of p.streams) is.1))))
  listed (Recv n m) is =
      at_node n (Recv n m) is.0 (inr (inr (append_left (Recv n m) (recvs n) (samples n) (in_map (λ m. Recv n m) m (up_to (nodes p)) (up_to_in (nodes p) m is.1)))))
  listed (Tick n) is = at_node n (Tick n) is (inl refl)
  listed (Lose n) is = at_node n (Lose n) is (inr (inl refl))

  -- and nothing else is
  of_node : (n : ℕ) (e : Event) → n < nodes p → In e (events_at p n) → IsEventOf p e
  of_node n e below (inl is) = subst (IsEventOf p) (sym is) below
  of_node n e below (inr (inl is)) = subst (IsEventOf p) (sym is) below
  of_node n e below (inr (inr there)) = elim (in_append e (recvs n) (samples n) there) [
    | (inl here) ↦
        let from = in_from_map (λ m. Recv n m) (up_to (nodes p)) e here in
        subst (IsEventOf p) (sym from.1.1) (below, up_to_below (nodes p) from.0 from.1.0)
    | (inr later) ↦
        let from = in_from_map (λ (v : ℕ × ℕ). Sample n v.0 v.1) (waves_of p.streams) e later in
        subst (IsEventOf p) (sym from.1.1) (below, from.1.0)
  ]

  only_listed : (e : Event) → In e (events_of p) → IsEventOf p e
  only_listed e there =
      let from = in_from_flat_map (events_at p) (up_to (nodes p)) e there in
      of_node from.0 e (up_to_below (nodes p) from.0 from.1.0) from.1.1

module _ (p : Plan) (plan : IsPlan p) where
  same_sample : (n s w m t v : ℕ) → IsEventOf p (Sample n s w) → IsEventOf p (Sample m t v) → name_of p.names n ++ 32 ∷ wave_text s w ≡ name_of p.names m ++ 32 ∷ wave_text t v → Sample n s w ≡ Sample m t v
  same_sample n s w m t v one other e =
      let cut = parted (name_of p.names n) (name_of p.names m) (wave_text s w) (wave_text t v) (name_has_no_space p plan n one.0) (name_has_no_space p plan m other.0) e in
      let node = one_name p plan n m one.0 other.0 cut.0 in
      let first = wave_small p plan s w one.1 in
      let second = wave_small p plan t v other.1 in
      let wave = one_wave_text s w t v first.0 first.1 second.0 second.1 cut.1 in
      λ i. Sample (node i) (wave.0 i) (wave.1 i)

  same_recv : (n m k j : ℕ) → IsEventOf p (Recv n m) → IsEventOf p (Recv k j) → name_of p.names n ++ 32 ∷ name_of p.names m ≡ name_of p.names k ++ 32 ∷ name_of p.names j → Recv n m ≡ Recv k j
  same_recv n m k j one other e =
      let cut = parted (name_of p.names n) (name_of p.names k) (name_of p.names m) (name_of p.names j) (name_has_no_space p plan n one.0) (name_has_no_space p plan k other.0) e in
      let node = one_name p plan n k one.0 other.0 cut.0 in
      let from = one_name p plan m j one.1 other.1 cut.1 in
      λ i. Recv (node i) (from i)

  -- events with one line are one
  pub one_event : (e f : Event) → IsEventOf p e → IsEventOf p f → line_of p e ≡ line_of p f → e ≡ f
  one_event (Sample n s w) (Sample m t v) one other e = same_sample n s w m t v one other (cc)
  one_event (Sample n s w) (Recv m j) one other e = absurd (differ e refl)
  one_event (Sample n s w) (Tick m) one other e = absurd (differ e refl)
  one_event (Sample n s w) (Lose m) one other e = absurd (differ e refl)
  one_event (Recv n k) (Sample m t v) one other e = absurd (differ e refl)
  one_event (Recv n k) (Recv m j) one other e = same_recv n k m j one other (cc)
  one_event (Recv n k) (Tick m) one other e = absurd (differ e refl)
  one_event (Recv n k) (Lose m) one other e = absurd (differ e refl)
  one_event (Tick n) (Sample m t v) one other e = absurd (differ e refl)
  one_event (Tick n) (Recv m j) one other e = absurd (differ e refl)
  one_event (Tick n) (Tick m) one other e = ap Tick (one_name p plan n m one other (cc))
  one_event (Tick n) (Lose m) one other e = absurd (differ e refl)
  one_event (Lose n) (Sample m t v) one other e = absurd (differ e refl)
  one_event (Lose n) (Recv m j) one other e = absurd (differ e refl)
  one_event (Lose n) (Tick m) one other e = absurd (differ e refl)
  one_event (Lose n) (Lose m) one other e = ap Lose (one_name p plan n m one other (cc))

  -- what a line is read as is what is found
  pub event_is : (line : List ℕ) (r : Option Event) → IsEventRead p line r → r ≡ event_of_line p line
  unfolding event_of_line
  event_is line None is = sym (find_none (λ e. bytes_eq (line_of p e) line) (events_of p) (λ e there same. is e (only_listed p e there) (sym ((bytes_eq-Decides (line_of p e) line).0 same))))
  event_is line (Some e) is =
      sym (find_only (λ e. bytes_eq (line_of p e) line) (events_of p) e (listed p e is.0) ((bytes_eq-Decides (line_of p e) line).1 (sym is.1))
      (λ f there same. one_event f e (only_listed p f there) is.0 ((bytes_eq-Decides (line_of p f) line).0 same ∙ is.1)))

  -- what is found is an event of the plan with this line
  pub event_read : (line : List ℕ) → IsEventRead p line (event_of_line p line)
  unfolding event_of_line
  event_read line = by (event_of_line p line) refl
    where
      by : (r : Option Event) → event_of_line p line ≡ r → IsEventRead p line r
      by None e = λ f is same. let found = event_is line (Some f) (is, same) in absurd (cc)
      by (Some f) e =
          let there = found_in (λ e. bytes_eq (line_of p e) line) (events_of p) f e in
          let passes = find_passes (λ e. bytes_eq (line_of p e) line) (events_of p) f e in
          (only_listed p f there, sym ((bytes_eq-Decides (line_of p f) line).0 passes))

  -- a line says an event exactly where it is its line
  pub says_event : (line : List ℕ) (e : Event) → (event_of_line p line ≡ Some e) ↔ (IsEventOf p e × (line ≡ line_of p e))
  says_event line e = (λ found. subst (IsEventRead p line) found (event_read line), λ is. sym (event_is line (Some e) is))

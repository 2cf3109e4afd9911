-- The log of a journal that goes on by an event, and which events a legal journal has.
use Rattle.std.proofs.Common.{◌≡◌, ◌∙◌, ◌∷◌, ◌++◌, ◌+◌, ℕ, zero, suc, true, List, [], Some, slice_get, take, append_assoc, sym, ap, subst}
use Rattle.std.proofs.lemmas.List.{append-nil, take_more}
use Rattle.std.proofs.lemmas.Option.{get_or_from_slice_get, none-some, slice_get_within}
use Rattle.stat_plan.specs.Plans.{Plan}
use Rattle.overlay_event.specs.declared.event.Event.{Event}
use Rattle.overlay_core.specs.Machine.{State, is_enabled, start, step}
use Rattle.overlay_core.specs.Runs.{IsLegal, IsLegalFrom, after, run}
use Rattle.overlay_net.specs.Nets.{IsReachedBy, NetView, state_of}
use Rattle.frame_log.specs.FrameLog.{frame_log, log_from, received_bytes}

-- the log of these events and one more
log_more : (p : Plan) (st : State) (es : List Event) (e : Event) → log_from p st (es ++ e ∷ []) ≡ log_from p st es ++ received_bytes p (run p st es) e
log_more p st [] e = append-nil (received_bytes p st e)
log_more p st (f ∷ es) e =
    ap (λ log. received_bytes p st f ++ log) (log_more p (step p st f) es e)
    ∙ sym (append_assoc (received_bytes p st f) (log_from p (step p st f) es) (received_bytes p (run p (step p st f) es) e))

-- the first events, and the one behind them
pub taken_more : (journal : List Event) (n : ℕ) (e : Event) → slice_get journal n ≡ Some e → take (n + 1) journal ≡ take n journal ++ e ∷ []
taken_more journal n e at =
    take_more journal n e (slice_get_within journal n e at) ∙ ap (λ f. take n journal ++ f ∷ []) (get_or_from_slice_get journal n e e at)

-- each event may come where it comes
enabled_from : (p : Plan) (st : State) (es : List Event) (n : ℕ) (e : Event) → IsLegalFrom p st es → slice_get es n ≡ Some e → is_enabled p (run p st (take n es)) e ≡ true
enabled_from p st [] n e legal at = absurd (none-some e at)
enabled_from p st (f ∷ es) zero e legal at =
    let some : Some f ≡ Some e = at in
    let same : f ≡ e = cc in
    subst (λ x. is_enabled p st x ≡ true) same legal.0
enabled_from p st (f ∷ es) (suc n) e legal at = enabled_from p (step p st f) es n e legal.1 at

module _ (v : NetView) (p : Plan) (journal : List Event) (n : ℕ) (e : Event) (plan : v.plan ≡ p) (reached : IsReachedBy v (take n journal)) (at : slice_get journal n ≡ Some e) where
  -- the next event of a legal journal may come in the net that it has led to
  pub next_enabled : IsLegal p journal → is_enabled v.plan (state_of v) e ≡ true
  next_enabled legal =
      ap (λ st. is_enabled v.plan st e) reached.state
      ∙ ap (λ q. is_enabled q (after q (take n journal)) e) plan
      ∙ enabled_from p (start p) journal n e legal at

  -- the log goes on by what the next event receives
  pub next_log : (old new : List ℕ) → old ≡ frame_log p (take n journal) → new ≡ old ++ received_bytes v.plan (state_of v) e → new ≡ frame_log p (take (n + 1) journal)
  next_log old new was is =
      is
      ∙ (λ i. was i ++ received_bytes v.plan (reached.state i) e)
      ∙ ap (λ q. frame_log p (take n journal) ++ received_bytes q (after q (take n journal)) e) plan
      ∙ sym (log_more p (start p) (take n journal) e)
      ∙ ap (frame_log p) (sym (taken_more journal n e at))

-- The nodes that a journal loses, event by event.
use Rattle.std.proofs.Common.{◌≡◌, ◌++◌, ◌+◌, ℕ, List, [], ◌∷◌, Some, drop, refl, sym, ap, ◌∙◌}
use Rattle.std.specs.Prelude.{slice_get}
use Rattle.std.proofs.lemmas.List.{append_assoc, at_drop_more}
use Rattle.std.proofs.lemmas.Option.{get_or_from_slice_get, slice_get_within}
use Rattle.overlay_event.specs.declared.event.Event.{Event}
use Rattle.overlay_event.specs.declared.event.Event.TheVariants.{Sample, Recv, Tick, Lose}
use Rattle.stat_tool.specs.Reports.{losses_of}

-- what is left to go through begins with the next event
losses_from : (es : List Event) (i : ℕ) (e : Event) → slice_get es i ≡ Some e → losses_of (drop i es) ≡ losses_of (e ∷ drop (i + 1) es)
losses_from es i e at =
    at_drop_more losses_of es i e (slice_get_within es i e at)
    ∙ ap (λ (x : Event). losses_of (x ∷ drop (i + 1) es)) (get_or_from_slice_get es i e e at)

not_lost : (e : Event) (es : List Event) → ((n : ℕ) → e ≡ Lose n → ⊥) → losses_of (e ∷ es) ≡ losses_of es
not_lost (Sample n s w) es other = refl
not_lost (Recv n m) es other = refl
not_lost (Tick n) es other = refl
not_lost (Lose n) es other = absurd (other n refl)

-- a node more is lost
pub loses_one : (before after : List ℕ) (es : List Event) (i n : ℕ) (e : Event) → slice_get es i ≡ Some e → e ≡ Lose n → after ≡ before ++ n ∷ []
    → before ++ losses_of (drop i es) ≡ losses_of es → after ++ losses_of (drop (i + 1) es) ≡ losses_of es
loses_one before after es i n e at is more so_far =
    ap (λ (xs : List ℕ). xs ++ losses_of (drop (i + 1) es)) more
    ∙ append_assoc before (n ∷ []) (losses_of (drop (i + 1) es))
    ∙ ap (λ (x : Event). before ++ losses_of (x ∷ drop (i + 1) es)) (sym is)
    ∙ ap (λ (xs : List ℕ). before ++ xs) (sym (losses_from es i e at))
    ∙ so_far

-- the event loses no node
pub loses_none : (before after : List ℕ) (es : List Event) (i : ℕ) (e : Event) → slice_get es i ≡ Some e → ((n : ℕ) → e ≡ Lose n → ⊥) → after ≡ before
    → before ++ losses_of (drop i es) ≡ losses_of es → after ++ losses_of (drop (i + 1) es) ≡ losses_of es
loses_none before after es i e at other same so_far =
    ap (λ (xs : List ℕ). xs ++ losses_of (drop (i + 1) es)) same
    ∙ ap (λ (xs : List ℕ). before ++ xs) (sym (not_lost e (drop (i + 1) es) other))
    ∙ ap (λ (xs : List ℕ). before ++ xs) (sym (losses_from es i e at))
    ∙ so_far

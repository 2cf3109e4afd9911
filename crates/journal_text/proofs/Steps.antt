-- One line after another.
use Rattle.std.proofs.Common.{◌≡◌, ℕ, ◌+◌, ◌<◌, take, cond, List, [], ◌∷◌, ◌++◌, length, Option, None, Some, sym, ap, ◌∙◌}
use mathlib.Core.List.{append_assoc}
use Rattle.std.specs.Prelude.{is_none, slice_get}
use Rattle.std.specs.List.{position_from}
use Rattle.std.proofs.lemmas.Grind.{flat_map-append}
use Rattle.std.proofs.lemmas.List.{length_push, append-nil, take_more}
use Rattle.std.proofs.lemmas.Option.{get_or_from_slice_get}
use Rattle.overlay_event.specs.declared.event.Event.{Event}
use Rattle.stat_plan.specs.Plans.{Plan}
use Rattle.journal_text.specs.Text.{line_of, journal_text}
use Rattle.journal_text.specs.Reading.{event_of_line, events_before, bad_from, is_bad, ReadJournal}

-- what was read, of its parts
abbrev pub read_as : List Event → Option ℕ → ReadJournal
read_as events bad = record { events = events; bad = bad }

-- what is left of the lines, after some events
module _ (p : Plan) (events all : List Event) (bad : Option ℕ) (rest : List (List ℕ)) (read : events ++ events_before p rest ≡ all) (number : bad_from p (length events) rest ≡ bad) where
  -- no line is left
  pub all_read : rest ≡ [] → read_as events None ≡ read_as all bad
  unfolding events_before bad_from
  all_read none =
      let whole : events ≡ all = sym (append-nil events) ∙ ap (λ ls. events ++ events_before p ls) (sym none) ∙ read in
      let good : None ≡ bad = ap (bad_from p (length events)) (sym none) ∙ number in
      λ i. read_as (whole i) (good i)

  module _ (line : List ℕ) (later : List (List ℕ)) (next : rest ≡ line ∷ later) where
    -- the next line is bad
    pub bad_line : None ≡ event_of_line p line → read_as events (Some (length events)) ≡ read_as all bad
    unfolding events_before bad_from
    bad_line none =
        let whole : events ≡ all =
        sym (append-nil events)
        ∙ ap (λ (o : Option Event). events ++ elim o as (λ _. List Event) [ None ↦ [] | (Some f) ↦ f ∷ events_before p later ]) none
        ∙ ap (λ ls. events ++ events_before p ls) (sym next)
        ∙ read in
        let here : Some (length events) ≡ bad =
        ap (λ (o : Option Event). cond (is_none o) (Some (length events)) (position_from (is_bad p) (length events + 1) later)) none
        ∙ ap (bad_from p (length events)) (sym next)
        ∙ number in
        λ i. read_as (whole i) (here i)

    -- the next line says an event
    pub one_more : (e : Event) → Some e ≡ event_of_line p line → (events ++ e ∷ []) ++ events_before p later ≡ all
    unfolding events_before
    one_more e some =
        append_assoc events (e ∷ []) (events_before p later)
        ∙ ap (λ (o : Option Event). events ++ elim o as (λ _. List Event) [ None ↦ [] | (Some f) ↦ f ∷ events_before p later ]) some
        ∙ ap (λ ls. events ++ events_before p ls) (sym next)
        ∙ read

    pub none_more : (e : Event) → Some e ≡ event_of_line p line → bad_from p (length (events ++ e ∷ [])) later ≡ bad
    unfolding bad_from
    none_more e some =
        ap (λ i. position_from (is_bad p) i later) (length_push events e)
        ∙ ap (λ (o : Option Event). cond (is_none o) (Some (length events)) (position_from (is_bad p) (length events + 1) later)) some
        ∙ ap (bad_from p (length events)) (sym next)
        ∙ number

-- the lines of some events, and that of the next
pub written_more : (p : Plan) (journal : List Event) (i : ℕ) (e : Event) (before : List ℕ) → i < length journal → slice_get journal i ≡ Some e → before ≡ journal_text p (take i journal) → (before ++ line_of p e) ++ 10 ∷ [] ≡ journal_text p (take (i + 1) journal)
written_more p journal i e before below at is =
    let line : Event → List ℕ = λ f. line_of p f ++ 10 ∷ [] in
    let next : take (i + 1) journal ≡ take i journal ++ e ∷ [] = take_more journal i e below ∙ ap (λ f. take i journal ++ f ∷ []) (get_or_from_slice_get journal i e e at) in
    append_assoc before (line_of p e) (10 ∷ [])
    ∙ ap (λ t. t ++ line e) is
    ∙ ap (λ t. journal_text p (take i journal) ++ t) (sym (append-nil (line e)))
    ∙ sym (ap (journal_text p) next ∙ flat_map-append line (take i journal) (e ∷ []))

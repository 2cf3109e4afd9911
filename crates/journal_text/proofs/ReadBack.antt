-- A journal that was written is read back, and what was read is of the plan.
use Rattle.std.proofs.Common.{◌≡◌, ℕ, ◌+◌, ◌<◌, Bool, true, false, cond, nat_eq, nat_lt, List, [], ◌∷◌, ◌++◌, map, Option, None, Some, refl, sym, ap, ◌∙◌, arith}
use mathlib.Core.List.{append_assoc}
use Rattle.std.specs.Prelude.{codes, is_none}
use Rattle.std.specs.Fmt.{decimal}
use Rattle.std.specs.List.{list_all, position_from}
use Rattle.std.proofs.lemmas.Bool.{and_parts}
use Rattle.std.proofs.lemmas.Bool.Decides.{nat_tests}
use Rattle.text_lines.specs.Lines.{lines, pieces, before_first, without_return}
use Rattle.overlay_setup.specs.Names.{name_of}
use Rattle.overlay_event.specs.declared.event.Event.{Event}
use Rattle.overlay_event.specs.declared.event.Event.TheVariants.{Sample, Recv, Tick, Lose}
use Rattle.stat_plan.specs.Invariants.{IsPlan}
use Rattle.stat_plan.specs.Plans.{Plan, nodes}
use Rattle.journal_text.specs.Events.{IsEventOf, AreEventsOf}
use Rattle.journal_text.specs.Reading.{event_of_line, events_before, bad_from, is_bad, journal_of, IsEventRead}
use Rattle.journal_text.specs.Text.{line_of, journal_text, wave_text}
use Rattle.journal_text.proofs.Names.{plain_name}
use Rattle.journal_text.proofs.OneEvent.{event_is, event_read}
use Rattle.journal_text.proofs.Plain.{is_plain, weaker, both, plain_number}
use Rattle.journal_text.proofs.Waves.{wave_small}

-- a byte that ends no line
abbrev stays : ℕ → Bool
stays b = nat_lt 31 b

stays_by : (b : ℕ) → is_plain b ≡ true → stays b ≡ true
stays_by b e = grind (arith, nat_tests)

no_feed : (b : ℕ) → stays b ≡ true → nat_eq b 10 ≡ false
no_feed b e = grind (arith, nat_tests)

no_return : (b : ℕ) → stays b ≡ true → nat_eq b 13 ≡ false
no_return b e = grind (arith, nat_tests)

-- a line before a line feed is the first piece
first_piece : (line rest : List ℕ) → list_all stays line ≡ true → pieces (line ++ 10 ∷ rest) ≡ line ∷ pieces rest
unfolding pieces
first_piece [] rest e = refl
first_piece (b ∷ line) rest e =
    let parts = and_parts (stays b) (list_all stays line) e in
    ap (λ t. cond t ([] ∷ pieces (line ++ 10 ∷ rest)) (before_first b (pieces (line ++ 10 ∷ rest)))) (no_feed b parts.0)
    ∙ ap (before_first b) (first_piece line rest parts.1)

-- nothing is taken off its end
all_kept : (line : List ℕ) → list_all stays line ≡ true → without_return line ≡ line
all_kept [] e = refl
all_kept (b ∷ []) e = ap (λ t. cond t [] (b ∷ [])) (no_return b (and_parts (stays b) true e).0)
all_kept (b ∷ c ∷ rest) e = ap (λ t. b ∷ t) (all_kept (c ∷ rest) (and_parts (stays b) (list_all stays (c ∷ rest)) e).1)

first_line : (line rest : List ℕ) → list_all stays line ≡ true → lines (line ++ 10 ∷ rest) ≡ line ∷ lines rest
first_line line rest e = ap (map without_return) (first_piece line rest e) ∙ ap (λ t. t ∷ lines rest) (all_kept line e)

module _ (p : Plan) (plan : IsPlan p) where
  name_stays : (n : ℕ) → n < nodes p → list_all stays (name_of p.names n) ≡ true
  name_stays n below = weaker is_plain stays stays_by (name_of p.names n) (plain_name p plan n below)

  number_stays : (n : ℕ) → n < 256 → list_all stays (decimal n) ≡ true
  number_stays n below = weaker is_plain stays stays_by (decimal n) (plain_number n (omega arith))

  parted_stays : (one other : List ℕ) → list_all stays one ≡ true → list_all stays other ≡ true → list_all stays (one ++ 32 ∷ other) ≡ true
  parted_stays one other e f = both stays one (32 ∷ other) e f

  -- a line of an event is one line
  line_stays : (e : Event) → IsEventOf p e → list_all stays (line_of p e) ≡ true
  line_stays (Sample n s w) is =
      let small = wave_small p plan s w is.1 in
      both stays (codes "sample ") (name_of p.names n ++ 32 ∷ wave_text s w) refl (parted_stays (name_of p.names n) (wave_text s w) (name_stays n is.0) (parted_stays (decimal s) (decimal w) (number_stays s small.0) (number_stays w small.1)))
  line_stays (Recv n m) is = both stays (codes "recv ") (name_of p.names n ++ 32 ∷ name_of p.names m) refl (parted_stays (name_of p.names n) (name_of p.names m) (name_stays n is.0) (name_stays m is.1))
  line_stays (Tick n) is = both stays (codes "tick ") (name_of p.names n) refl (name_stays n is)
  line_stays (Lose n) is = both stays (codes "lose ") (name_of p.names n) refl (name_stays n is)

  line_read : (e : Event) → IsEventOf p e → event_of_line p (line_of p e) ≡ Some e
  line_read e is = sym (event_is p plan (line_of p e) (Some e) (is, refl))

  written_lines : (e : Event) (journal : List Event) → IsEventOf p e → lines (journal_text p (e ∷ journal)) ≡ line_of p e ∷ lines (journal_text p journal)
  written_lines e journal is = ap lines (append_assoc (line_of p e) (10 ∷ []) (journal_text p journal)) ∙ first_line (line_of p e) (journal_text p journal) (line_stays e is)

  events_back : (journal : List Event) → AreEventsOf p journal → events_before p (lines (journal_text p journal)) ≡ journal
  unfolding events_before pieces
  events_back [] are = refl
  events_back (e ∷ journal) are =
      ap (events_before p) (written_lines e journal are.0)
      ∙ ap (λ (o : Option Event). elim o as (λ _. List Event) [ None ↦ [] | (Some f) ↦ f ∷ events_before p (lines (journal_text p journal)) ]) (line_read e are.0)
      ∙ ap (λ t. e ∷ t) (events_back journal are.1)

  none_bad : (journal : List Event) (i : ℕ) → AreEventsOf p journal → bad_from p i (lines (journal_text p journal)) ≡ None
  unfolding bad_from pieces
  none_bad [] i are = refl
  none_bad (e ∷ journal) i are =
      ap (bad_from p i) (written_lines e journal are.0)
      ∙ ap (λ (o : Option Event). cond (is_none o) (Some i) (position_from (is_bad p) (i + 1) (lines (journal_text p journal)))) (line_read e are.0)
      ∙ none_bad journal (i + 1) are.1

  pub read_back : (journal : List Event) → AreEventsOf p journal → journal_of p (journal_text p journal) ≡ record { events = journal; bad = None }
  read_back journal are = λ i. record { events = events_back journal are i; bad = none_bad journal 0 are i }

  pub events_are_of : (rest : List (List ℕ)) → AreEventsOf p (events_before p rest)
  unfolding events_before
  events_are_of [] = tt
  events_are_of (line ∷ rest) = by (event_of_line p line) (event_read p plan line) (events_are_of rest)
    where
      by : (o : Option Event) → IsEventRead p line o → AreEventsOf p (events_before p rest) → AreEventsOf p (elim o as (λ _. List Event) [ None ↦ [] | (Some e) ↦ e ∷ events_before p rest ])
      by None is later = tt
      by (Some e) is later = (is.0, later)

-- A bare line says what its line says.
use Rattle.std.proofs.Common.{◌≡◌, ◌∙◌, ℕ, suc, ◌+◌, ◌≤◌, Bool, List, [], ◌∷◌, ◌++◌, length, Option, None, Some, true, false, cond, refl, ap, sym, codes, arith, nat_eq, nat_lt, eq-eqb, lt-ltb, ◌<◌}
use Rattle.std.specs.Option.{option_or}
use Rattle.std.specs.Prelude.{unwrap_or, ◌||◌, ◌&&◌}
use Rattle.std.proofs.lemmas.Bool.{eqb-true, true≢false}
use Rattle.std.proofs.lemmas.List.{length-append}
use Rattle.std.proofs.lemmas.List.Folds.{list_any-append}
use Rattle.stack_text.specs.Bare.{BareView, BarePlace, Other, bare_call, bare_place, offset_alone, bare_of, bare_text, bare}
use Rattle.stack_text.specs.Lines.{read_line, line_of}
use Rattle.stack_text.specs.Texts.{has_feed, hex_len, is_hex}
use Rattle.stack_text.proofs.Addresses.{call_at, place_at}

-- what a line is parted into, by what is read of it as a call's and as a place's
abbrev parts : Option BareView → Option BareView → List ℕ → BareView
parts call place line = unwrap_or (option_or call place) (Other line)

-- digits are an offset
alone : (offset : List ℕ) → hex_len offset ≡ length offset → 0 < length offset → offset_alone offset ≡ Some (BarePlace offset)
alone offset all some =
    ap (λ t. cond (t && nat_lt 0 (length offset)) (Some (BarePlace offset)) None) (eq-eqb _ _ all)
    ∙ ap (λ t. cond t (Some (BarePlace offset)) None) (lt-ltb _ _ some)

-- a line is parted as its bare line is
parted_again : (line : List ℕ) (call place : Option BareView) → bare_call line ≡ call → bare_place line ≡ place →
    parts (bare_call (bare_text (parts call place line))) (bare_place (bare_text (parts call place line)))
    (bare_text (parts call place line)) ≡ parts call place line
parted_again line (Some call) place c p =
    let at = call_at line call c in
    let text = at.front ++ 48 ∷ at.tail in
    ap (λ b. parts (bare_call (bare_text b)) (bare_place (bare_text b)) (bare_text b)) at.is
    ∙ ap (λ o. parts o (bare_place text) text) at.again ∙ sym at.is
parted_again line None (Some place) c p =
    let at = place_at line place p in
    ap (λ b. parts (bare_call (bare_text b)) (bare_place (bare_text b)) (bare_text b)) at.is
    ∙ ap (λ o. parts None o (codes "    []@0x0+0x" ++ at.offset)) (alone at.offset at.all at.some)
    ∙ sym at.is
parted_again line None None c p = ap (λ o. parts o (bare_place line) line) c ∙ ap (λ o. parts None o line) p

bare_of_bare : (line : List ℕ) → bare_of (bare line) ≡ bare_of line
unfolding bare bare_of
bare_of_bare line = parted_again line (bare_call line) (bare_place line) refl refl

pub read_line_bare : (line : List ℕ) → read_line (bare line) ≡ read_line line
unfolding read_line
read_line_bare line = ap line_of (bare_of_bare line)

pub bare_bare : (line : List ℕ) → bare (bare line) ≡ bare line
unfolding bare
bare_bare line = ap bare_text (bare_of_bare line)

-- a bare line is no longer than its line
no_longer : (line : List ℕ) (call place : Option BareView) → bare_call line ≡ call → bare_place line ≡ place →
    length (bare_text (parts call place line)) ≤ length line
no_longer line (Some call) place c p =
    let at = call_at line call c in
    let all = ap length at.whole in
    let is = ap (λ b. length (bare_text b)) at.is in
    omega (arith, all, is, at.some, length-append at.front (at.digits ++ at.tail), length-append at.digits at.tail, length-append at.front (48 ∷ at.tail))
no_longer line None (Some place) c p =
    let at = place_at line place p in
    let is = ap (λ b. length (bare_text b)) at.is in
    omega (arith, is, at.room)
no_longer line None None c p = omega arith

pub bare_len : (line : List ℕ) → length (bare_text (bare_of line)) ≤ length line
unfolding bare_of
bare_len line = no_longer line (bare_call line) (bare_place line) refl refl

-- digits are no line feed
digits_have_none : (digits : List ℕ) → hex_len digits ≡ length digits → has_feed digits ≡ false
digits_have_none [] all = refl
digits_have_none (b ∷ digits) all = by (is_hex b) refl all (digits_have_none digits)
  where
    no_feed : (t : Bool) → nat_eq b 10 ≡ t → is_hex b ≡ true → nat_eq b 10 ≡ false
    no_feed false e hex = e
    no_feed true e hex = absurd (true≢false (sym hex ∙ ap is_hex (eqb-true _ _ e)))

    by : (t : Bool) → is_hex b ≡ t → cond t (1 + hex_len digits) 0 ≡ suc (length digits) →
        (hex_len digits ≡ length digits → has_feed digits ≡ false) → (nat_eq b 10 || has_feed digits) ≡ false
    by false e n later = absurd (omega (arith, n))
    by true e n later = rw (no_feed (nat_eq b 10) refl e) (later (omega (arith, n)))

-- of two texts, none has a line feed
none_of : (a b : Bool) → (a || b) ≡ false → (a ≡ false) × (b ≡ false)
none_of false false h = (refl, refl)
none_of false true h = cc
none_of true b h = cc

-- a bare line has a line feed only if its line has one
feed_free : (line : List ℕ) (call place : Option BareView) → bare_call line ≡ call → bare_place line ≡ place →
    has_feed line ≡ false → has_feed (bare_text (parts call place line)) ≡ false
feed_free line (Some call) place c p none =
    let at = call_at line call c in
    let front = none_of (has_feed at.front) (has_feed (at.digits ++ at.tail))
    (sym (list_any-append (λ b. nat_eq b 10) at.front (at.digits ++ at.tail)) ∙ ap has_feed (sym at.whole) ∙ none) in
    let tail = none_of (has_feed at.digits) (has_feed at.tail) (sym (list_any-append (λ b. nat_eq b 10) at.digits at.tail) ∙ front.1) in
    ap (λ b. has_feed (bare_text b)) at.is ∙ list_any-append (λ b. nat_eq b 10) at.front (48 ∷ at.tail)
    ∙ ap (λ t. t || has_feed at.tail) front.0 ∙ tail.1
feed_free line None (Some place) c p none =
    let at = place_at line place p in
    ap (λ b. has_feed (bare_text b)) at.is ∙ digits_have_none at.offset at.all
feed_free line None None c p none = none

pub bare_has_no_feed : (line : List ℕ) → has_feed line ≡ false → has_feed (bare line) ≡ false
unfolding bare bare_of
bare_has_no_feed line none = feed_free line (bare_call line) (bare_place line) refl refl none

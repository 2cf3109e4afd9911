-- A line and its bare line are parted alike.
use Rattle.std.proofs.Common.{◌≡◌, ◌∙◌, ℕ, suc, ◌+◌, ◌-◌, ◌<◌, ◌≤◌, Bool, List, [], ◌∷◌, ◌++◌, length, take, drop, Option, None, Some, true, false, cond, refl, ap, sym, codes, arith, add-zero, eq-eqb, lt-ltb, append_assoc, nat_lt}
use Rattle.std.specs.Char.{is_ascii_digit}
use Rattle.std.specs.List.{prefix_len}
use Rattle.std.specs.Option.{option_and_then}
use Rattle.std.specs.Prelude.{option_map, ◌&&◌}
use Rattle.std.proofs.lemmas.Bool.{eqb-true, ltb-true}
use Rattle.std.proofs.lemmas.List.{take-append-drop, drop_at, take_at, length-append, length-drop}
use Rattle.std.proofs.lemmas.List.Folds.{prefix_len-append, length-prefix_len}
use Rattle.std.proofs.lemmas.Slice.Eq.{bytes_eq-Decides}
use Rattle.rank_set.specs.Digits.{digits_len}
use Rattle.text_lines.specs.Lines.{after_blanks, blanks_len, is_blank}
use Rattle.stack_text.specs.Bare.{BareView, BareCall, BarePlace, address_of, bare_call, offset_alone, bare_place}
use Rattle.stack_text.specs.Texts.{behind, before_rest, is_hex, hex_len, behind_hex, behind_digits}

-- a test that gave a value
given : {A : Type 0} (b : Bool) (x y : A) → cond b (Some x) None ≡ Some y → (b ≡ true) × (x ≡ y)
given true x y h = (refl, cc)
given false x y h = cc

-- a second step that gave a value
then_given : {A B : Type 0} (f : A → Option B) (o : Option A) (y : B) → option_and_then f o ≡ Some y →
    (x : A) × (o ≡ Some x) × (f x ≡ Some y)
then_given f None y h = cc
then_given f (Some x) y h = (x, refl, h)

map_given : {A B : Type 0} (f : A → B) (o : Option A) (y : B) → option_map f o ≡ Some y → (x : A) × (o ≡ Some x) × (f x ≡ y)
map_given f None y h = cc
map_given f (Some x) y h = (x, refl, cc)

-- a text is its beginning and what is behind it
behind_given : (start text rest : List ℕ) → behind start text ≡ Some rest → text ≡ start ++ rest
behind_given start text rest h =
    let parts = given _ (drop (length start) text) rest h in
    let front : take (length start) text ≡ start = (bytes_eq-Decides (take (length start) text) start).0 parts.0 in
    sym (take-append-drop (length start) text) ∙ ap (λ t. t ++ drop (length start) text) front ∙ ap (λ t. start ++ t) parts.1

-- how long the front is of which each item passes a test, and the item behind it doesn't
module _ (p : ℕ → Bool) where
  stops : (xs : List ℕ) → prefix_len p (drop (prefix_len p xs) xs) ≡ 0
  stops [] = refl
  stops (x ∷ xs) = by (p x) refl (stops xs)
    where
      by : (t : Bool) → p x ≡ t → prefix_len p (drop (prefix_len p xs) xs) ≡ 0 →
          prefix_len p (drop (cond t (1 + prefix_len p xs) 0) (x ∷ xs)) ≡ 0
      by true e h = let n : 1 + prefix_len p xs ≡ suc (prefix_len p xs) = omega arith in rw n h
      by false e h = rw e refl

  passes : (xs : List ℕ) → prefix_len p (take (prefix_len p xs) xs) ≡ length (take (prefix_len p xs) xs)
  passes [] = refl
  passes (x ∷ xs) = by (p x) refl (passes xs)
    where
      by : (t : Bool) → p x ≡ t → prefix_len p (take (prefix_len p xs) xs) ≡ length (take (prefix_len p xs) xs) →
          prefix_len p (take (cond t (1 + prefix_len p xs) 0) (x ∷ xs)) ≡ length (take (cond t (1 + prefix_len p xs) 0) (x ∷ xs))
      by true e h = let n : 1 + prefix_len p xs ≡ suc (prefix_len p xs) = omega arith in rw (n, e) (omega (arith, h))
      by false e h = refl

  -- the front is taken from any text that goes on with another item
  front_len : (xs ys : List ℕ) → prefix_len p xs ≡ length xs → prefix_len p ys ≡ 0 → prefix_len p (xs ++ ys) ≡ length xs
  front_len xs ys all none =
      prefix_len-append p xs ys ∙ ap (λ t. cond t (length xs + prefix_len p ys) (prefix_len p xs)) (eq-eqb _ _ all)
      ∙ ap (λ n. length xs + n) none ∙ add-zero (length xs)

  -- what goes on with another item does so by its first item
  first_stops : (x : ℕ) (xs ys zs : List ℕ) → prefix_len p ((x ∷ xs) ++ ys) ≡ 0 → prefix_len p ((x ∷ xs) ++ zs) ≡ 0
  first_stops x xs ys zs h = by (p x) h
    where
      by : (t : Bool) → cond t (1 + prefix_len p (xs ++ ys)) 0 ≡ 0 → cond t (1 + prefix_len p (xs ++ zs)) 0 ≡ 0
      by true h = absurd (omega arith)
      by false h = refl

  -- a beginning of a text of which each item passes, and what is left
  pub record Front (text rest : List ℕ) : Type 0 where
    pub front : List ℕ
    pub whole : text ≡ front ++ rest
    pub all : prefix_len p front ≡ length front
    pub stop : prefix_len p rest ≡ 0
    pub len : length front ≡ prefix_len p text

  front_of : (text : List ℕ) → Front text (drop (prefix_len p text) text)
  front_of text = record {
    front = take (prefix_len p text) text;
    whole = sym (take-append-drop (prefix_len p text) text);
    all = passes text;
    stop = stops text;
    len = length-prefix_len p text;
  }

  -- the same beginning before another rest
  front_again : (front rest : List ℕ) → prefix_len p front ≡ length front → prefix_len p rest ≡ 0 →
      drop (prefix_len p (front ++ rest)) (front ++ rest) ≡ rest
  front_again front rest all stop = rw (front_len front rest all stop) (drop_at front rest (length front) refl)

-- digits that a text begins with, and what is behind them
module _ (digits rest : List ℕ) (some : 0 < length digits) (all : digits_len digits ≡ length digits)
    (stop : digits_len rest ≡ 0) where
  digits_again : behind_digits (digits ++ rest) ≡ Some rest
  digits_again =
      let len = front_len is_ascii_digit digits rest all stop in
      rw len (some_by (nat_lt 0 (length digits)) (lt-ltb _ _ some) ∙ ap Some (drop_at digits rest (length digits) refl))
    where
      some_by : (b : Bool) → b ≡ true → cond b (Some (drop (length digits) (digits ++ rest))) None ≡ Some (drop (length digits) (digits ++ rest))
      some_by true e = refl
      some_by false e = cc

module _ (digits blanks : List ℕ) (some : 0 < length digits) (are_digits : digits_len digits ≡ length digits)
    (are_blanks : blanks_len blanks ≡ length blanks) (other : List ℕ) (stop : digits_len (blanks ++ 48 ∷ 120 ∷ other) ≡ 0) where
  -- what is read of a call's line, from its parts
  read_again : address_of (35 ∷ (digits ++ (blanks ++ 48 ∷ 120 ∷ other))) ≡ Some other
  read_again =
      ap (option_and_then (λ rest. behind (codes "0x") (after_blanks rest)))
      (digits_again digits (blanks ++ 48 ∷ 120 ∷ other) some are_digits stop)
      ∙ ap (behind (codes "0x")) (front_again is_blank blanks (48 ∷ 120 ∷ other) are_blanks refl)

-- no digit stands behind a number, whatever the address
no_digit : (blanks address other : List ℕ) → digits_len (blanks ++ 48 ∷ 120 ∷ address) ≡ 0 →
    digits_len (blanks ++ 48 ∷ 120 ∷ other) ≡ 0
no_digit [] address other h = absurd (omega (arith, h))
no_digit (b ∷ blanks) address other h =
    first_stops is_ascii_digit b blanks (48 ∷ 120 ∷ address) (48 ∷ 120 ∷ other) h

regrouped : (digits blanks address : List ℕ) →
    (35 ∷ (digits ++ (blanks ++ 48 ∷ 120 ∷ []))) ++ address ≡ 35 ∷ (digits ++ (blanks ++ 48 ∷ 120 ∷ address))
regrouped digits blanks address =
    ap (λ t. 35 ∷ t) (append_assoc digits (blanks ++ 48 ∷ 120 ∷ []) address
    ∙ ap (λ t. digits ++ t) (append_assoc blanks (48 ∷ 120 ∷ []) address))

-- a call's line, parted at its address: what stands before the address is read in the same way before another
record AddressAt (line address : List ℕ) : Type 0 where
  front : List ℕ
  whole : line ≡ front ++ address
  again : (other : List ℕ) → address_of (front ++ other) ≡ Some other

address_at : (line address : List ℕ) → address_of line ≡ Some address → AddressAt line address
address_at line address h =
    let steps = then_given (λ rest. behind (codes "0x") (after_blanks rest)) _ address h in
    let numbered = then_given behind_digits (behind (codes "#") line) steps.0 steps.1 in
    let digits_end = given _ (drop (digits_len numbered.0) numbered.0) steps.0 numbered.2 in
    let number = front_of is_ascii_digit numbered.0 in
    let blanks = front_of is_blank steps.0 in
    let some : 0 < length number.front = omega (arith, number.len, ltb-true _ _ digits_end.0) in
    let blanks_end : steps.0 ≡ blanks.front ++ 48 ∷ 120 ∷ address =
    blanks.whole ∙ ap (λ t. blanks.front ++ t) (behind_given (codes "0x") (after_blanks steps.0) address steps.2) in
    let stop : digits_len (blanks.front ++ 48 ∷ 120 ∷ address) ≡ 0 =
    ap digits_len (sym blanks_end ∙ sym digits_end.1) ∙ number.stop in
    record {
      front = 35 ∷ (number.front ++ (blanks.front ++ 48 ∷ 120 ∷ []));
      whole =
          behind_given (codes "#") line numbered.0 numbered.1
          ∙ ap (λ t. 35 ∷ t) (number.whole ∙ ap (λ t. number.front ++ t) (digits_end.1 ∙ blanks_end))
          ∙ sym (regrouped number.front blanks.front address);
      again = λ other. ap address_of (regrouped number.front blanks.front other)
          ∙ read_again number.front blanks.front some number.all blanks.all other (no_digit blanks.front address other stop);
    }

-- what stands before the end of a text
rest_before : (front rest : List ℕ) → before_rest (front ++ rest) rest ≡ front
rest_before front rest = take_at front rest (length (front ++ rest) - length rest) (omega (arith, length-append front rest))

-- a call's line is parted in the same way when its address is 0
pub record CallAt (line : List ℕ) (call : BareView) : Type 0 where
  pub front : List ℕ
  pub tail : List ℕ
  pub digits : List ℕ
  pub is : call ≡ BareCall front tail
  pub whole : line ≡ front ++ (digits ++ tail)
  pub some : 0 < length digits
  pub again : bare_call (front ++ 48 ∷ tail) ≡ Some (BareCall front tail)

pub call_at : (line : List ℕ) (call : BareView) → bare_call line ≡ Some call → CallAt line call
call_at line call h =
    let addressed = then_given (λ address. option_map (BareCall (before_rest line address)) (behind_hex address)) (address_of line) call h in
    let ended = map_given (BareCall (before_rest line addressed.0)) (behind_hex addressed.0) call addressed.2 in
    let parts = address_at line addressed.0 addressed.1 in
    let hex_end = given _ (drop (hex_len addressed.0) addressed.0) ended.0 ended.1 in
    let hex = front_of is_hex addressed.0 in
    let front_is : before_rest line addressed.0 ≡ parts.front =
    ap (λ t. before_rest t addressed.0) parts.whole ∙ rest_before parts.front addressed.0 in
    let stop : hex_len ended.0 ≡ 0 = ap hex_len (sym hex_end.1) ∙ hex.stop in
    record {
      front = parts.front;
      tail = ended.0;
      digits = hex.front;
      is = sym ended.2 ∙ ap (λ f. BareCall f ended.0) front_is;
      whole = parts.whole ∙ ap (λ t. parts.front ++ t) (hex.whole ∙ ap (λ t. hex.front ++ t) hex_end.1);
      some = omega (arith, hex.len, ltb-true _ _ hex_end.0);
      again =
          ap (option_and_then (λ address. option_map (BareCall (before_rest (parts.front ++ 48 ∷ ended.0) address)) (behind_hex address)))
          (parts.again (48 ∷ ended.0))
          ∙ zero_read (before_rest (parts.front ++ 48 ∷ ended.0) (48 ∷ ended.0)) ended.0 stop
          ∙ ap (λ f. Some (BareCall f ended.0)) (rest_before parts.front (48 ∷ ended.0));
    }
  where
    zero_read : (front tail : List ℕ) → hex_len tail ≡ 0 → option_map (BareCall front) (behind_hex (48 ∷ tail)) ≡ Some (BareCall front tail)
    zero_read front tail stop = ap (λ n. option_map (BareCall front) (cond (nat_lt 0 (1 + n)) (Some (drop (1 + n) (48 ∷ tail))) None)) stop

-- a place's line
pub record PlaceAt (line : List ℕ) (place : BareView) : Type 0 where
  pub offset : List ℕ
  pub is : place ≡ BarePlace offset
  pub all : hex_len offset ≡ length offset
  pub some : 0 < length offset
  pub room : length offset + 13 ≤ length line

pub place_at : (line : List ℕ) (place : BareView) → bare_place line ≡ Some place → PlaceAt line place
place_at line place h =
    let last = then_given offset_alone _ place h in
    let after = then_given (behind (codes "+0x")) _ last.0 last.1 in
    let base = then_given behind_hex _ after.0 after.1 in
    let closing = then_given (λ rest. behind (codes "]@0x") (drop (hex_len rest) rest)) (behind (codes "    [") line) base.0 base.1 in
    let tests = given _ (BarePlace last.0) place last.2 in
    let hex_end = given _ (drop (hex_len base.0) base.0) after.0 base.2 in
    let l1 = ap length (behind_given (codes "    [") line closing.0 closing.1) in
    let l2 = ap length (behind_given (codes "]@0x") (drop (hex_len closing.0) closing.0) base.0 closing.2) in
    let l3 = ap length hex_end.1 in
    let l4 = ap length (behind_given (codes "+0x") after.0 last.0 after.2) in
    record {
      offset = last.0;
      is = sym tests.1;
      all = eqb-true _ _ (and_true _ _ tests.0).0;
      some = ltb-true _ _ (and_true _ _ tests.0).1;
      room = omega (arith, l1, l2, l3, l4, length-drop (hex_len closing.0) closing.0, length-drop (hex_len base.0) base.0, ltb-true _ _ hex_end.0);
    }
  where
    and_true : (a b : Bool) → (a && b) ≡ true → (a ≡ true) × (b ≡ true)
    and_true true true h = (refl, refl)
    and_true true false h = cc
    and_true false b h = cc

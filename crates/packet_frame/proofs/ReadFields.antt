-- What a spelling tells of its parts.
use Rattle.std.proofs.Common.{◌≡◌, ℕ, suc, ◌+◌, ◌-◌, ◌^◌, ◌%◌, ◌<◌, Bool, true, false, List, [], ◌∷◌, ◌++◌, length, take, drop, get_or, None, refl, sym, ap, subst, ◌∙◌, arith, append_assoc, inl, inr}
use Rattle.std.specs.Int.{Width, w8, w16, w32, w64, byte_len, to_be_bytes, from_be_bytes}
use Rattle.std.proofs.lemmas.Bool.{cases_lt}
use Rattle.std.proofs.lemmas.List.{take-append-drop, append-nil, get_or_append_left, get_or-append_right, get_or_past}
use Rattle.std.proofs.lemmas.Nat.{be_bytes_2, be_bytes_4, be_bytes_8}
use Rattle.packet_frame.specs.declared.error.FrameReason.{FrameReason}
use Rattle.packet_frame.specs.Fields.{Form, whole, field, ◌>>=◌, Spells, Rules, broken, number, list_form}
use Rattle.packet_frame.specs.Sending.{AreBytes}
use Rattle.packet_frame.proofs.FormLaws.{spells_more}

-- a spelling of one form after another is a spelling after another
pub record Parts {A B : Type 0} (f : Form A) (g : A → Form B) (bytes : List ℕ) (y : B) : Type 0 where
  pub front : List ℕ
  pub back : List ℕ
  pub value : A
  pub is : bytes ≡ front ++ back
  pub first : Spells f front value
  pub rest : Spells (g value) back y

pub parts_of : {A B : Type 0} (f : Form A) (g : A → Form B) (bytes : List ℕ) (y : B) → Spells (f >>= g) bytes y → Parts f g bytes y
parts_of (whole a) g bytes y s = record { front = []; back = bytes; value = a; is = refl; first = (refl, refl); rest = s }
parts_of (field width rule next) g bytes y s =
    let p = parts_of (next (take width bytes)) g (drop width bytes) y s.2 in
    record {
      front = take width bytes ++ p.front;
      back = p.back;
      value = p.value;
      is = sym (take-append-drop width bytes) ∙ ap (λ b. take width bytes ++ b) p.is ∙ sym (append_assoc (take width bytes) p.front p.back);
      first = spells_more width rule next (take width bytes) p.front p.value s.0 s.1 p.first;
      rest = p.rest;
    }

-- the last fields
pub record End {A B : Type 0} (f : Form A) (h : A → B) (bytes : List ℕ) (y : B) : Type 0 where
  pub value : A
  pub spells : Spells f bytes value
  pub is : h value ≡ y

pub end_of : {A B : Type 0} (f : Form A) (h : A → B) (bytes : List ℕ) (y : B) → Spells (f >>= λ x. whole (h x)) bytes y → End f h bytes y
end_of f h bytes y s =
    let p = parts_of f (λ x. whole (h x)) bytes y s in
    let same : p.front ≡ bytes = sym (append-nil p.front) ∙ ap (λ b. p.front ++ b) (sym p.rest.0) ∙ sym p.is in
    record { value = p.value; spells = subst (λ b. Spells f b p.value) same p.first; is = p.rest.1 }

-- a list of values is the first and the others
pub record Values {S A : Type 0} (form : ℕ → S → Form A) (after : S → A → S) (state : S) (left : ℕ) (bytes : List ℕ) (ys : List A) : Type 0 where
  pub front : List ℕ
  pub back : List ℕ
  pub value : A
  pub others : List A
  pub is : bytes ≡ front ++ back
  pub values : value ∷ others ≡ ys
  pub first : Spells (form left state) front value
  pub rest : Spells (list_form form after (after state value) left) back others

pub values_of : {S A : Type 0} (form : ℕ → S → Form A) (after : S → A → S) (state : S) (left : ℕ) (bytes : List ℕ) (ys : List A) → Spells (list_form form after state (suc left)) bytes ys → Values form after state left bytes ys
values_of form after state left bytes ys s =
    let p = parts_of (form left state) (λ x. list_form form after (after state x) left >>= λ xs. whole (x ∷ xs)) bytes ys s in
    let e = end_of (list_form form after (after state p.value) left) (λ xs. p.value ∷ xs) p.back ys p.rest in
    record { front = p.front; back = p.back; value = p.value; others = e.value; is = p.is; values = e.is; first = p.first; rest = e.spells }

-- ---- bytes

pub front_bytes : (a b : List ℕ) → AreBytes (a ++ b) → AreBytes a
front_bytes a b small i = elim (cases_lt i (length a)) [
  | inl lt ↦ omega (arith, small i, get_or_append_left a b 0 i lt)
  | inr le ↦ omega (arith, get_or_past a i 0 le)
]

pub back_bytes : (a b : List ℕ) → AreBytes (a ++ b) → AreBytes b
back_bytes a b small i =
    let e : (length a + i) - length a ≡ i = omega arith in
    omega (arith, small (length a + i), get_or-append_right a b (length a) (length a + i) 0 refl (omega arith), ap (λ n. get_or b n 0) e)

pub front_of : (bytes a b : List ℕ) → bytes ≡ a ++ b → AreBytes bytes → AreBytes a
front_of bytes a b is small = front_bytes a b (subst AreBytes is small)

pub back_of : (bytes a b : List ℕ) → bytes ≡ a ++ b → AreBytes bytes → AreBytes b
back_of bytes a b is small = back_bytes a b (subst AreBytes is small)

-- ---- numbers

-- bytes of a number are written from it
abbrev pub IsWritten : Width → Type 0
IsWritten w = (bytes : List ℕ) (n : ℕ) → length bytes ≡ byte_len w → AreBytes bytes → n ≡ from_be_bytes w bytes → to_be_bytes w n ≡ bytes

pub written8 : IsWritten w8
written8 [] n len small is = absurd (omega (arith, len))
written8 (b ∷ []) n len small is = let e : n % 256 ≡ b = omega (arith, small 0, is) in ap (λ m. m ∷ []) e
written8 (b ∷ c ∷ bytes) n len small is = absurd (omega (arith, len))

pub written16 : IsWritten w16
written16 bytes n len small is = be_bytes_2 bytes n len small is

pub written32 : IsWritten w32
written32 bytes n len small is = be_bytes_4 bytes n len small is

pub written64 : IsWritten w64
written64 bytes n len small is = be_bytes_8 bytes n len small is

-- what a spelling of a number tells
pub record Number (w : Width) (rules : ℕ → Rules) (bytes : List ℕ) (n : ℕ) : Type 0 where
  pub len : length bytes ≡ byte_len w
  pub value : n ≡ from_be_bytes w bytes
  pub obeys : broken (rules n) ≡ None

pub number_of : (w : Width) (rules : ℕ → Rules) (bytes : List ℕ) (n : ℕ) → Spells (number w rules) bytes n → Number w rules bytes n
number_of w rules bytes n s =
    let same : take (byte_len w) bytes ≡ bytes = sym (append-nil (take (byte_len w) bytes)) ∙ ap (λ b. take (byte_len w) bytes ++ b) (sym s.2.0) ∙ take-append-drop (byte_len w) bytes in
    record {
      len = sym (ap length same) ∙ s.0;
      value = sym s.2.1 ∙ ap (from_be_bytes w) same;
      obeys = ap (λ m. broken (rules m)) (sym s.2.1) ∙ s.1;
    }

-- a number, and what follows it
pub record Then {B : Type 0} (w : Width) (rules : ℕ → Rules) (g : ℕ → Form B) (bytes : List ℕ) (y : B) : Type 0 where
  pub value : ℕ
  pub back : List ℕ
  pub is : bytes ≡ to_be_bytes w value ++ back
  pub obeys : broken (rules value) ≡ None
  pub rest : Spells (g value) back y
  pub small : AreBytes back

pub then_of : {B : Type 0} (w : Width) (rules : ℕ → Rules) (g : ℕ → Form B) (bytes : List ℕ) (y : B) → IsWritten w → AreBytes bytes → Spells (number w rules >>= g) bytes y → Then w rules g bytes y
then_of w rules g bytes y written small s =
    let p = parts_of (number w rules) g bytes y s in
    let n = number_of w rules p.front p.value p.first in
    record {
      value = p.value;
      back = p.back;
      is = p.is ∙ ap (λ a. a ++ p.back) (sym (written p.front p.value n.len (front_of bytes p.front p.back p.is small) n.value));
      obeys = n.obeys;
      rest = p.rest;
      small = back_of bytes p.front p.back p.is small;
    }

pub word_small : (bytes : List ℕ) (n : ℕ) → AreBytes bytes → n ≡ from_be_bytes w64 bytes → n < 2 ^ 64
word_small bytes n small is = omega (arith, is, small 0, small 1, small 2, small 3, small 4, small 5, small 6, small 7)

-- ---- rules

pub first_rule : (b : Bool) (r : FrameReason) (rs : Rules) → broken ((b, r) ∷ rs) ≡ None → b ≡ true
first_rule true r rs h = refl
first_rule false r rs h = absurd cc

pub other_rules : (b : Bool) (r : FrameReason) (rs : Rules) → broken ((b, r) ∷ rs) ≡ None → broken rs ≡ None
other_rules true r rs h = h
other_rules false r rs h = absurd cc

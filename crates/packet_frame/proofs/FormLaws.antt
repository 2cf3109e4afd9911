-- Laws of reading fields, by induction on the form.
use Rattle.std.proofs.Common.{◌≡◌, ℕ, ◌+◌, ◌≤◌, ◌<◌, Bool, true, false, nat_lt, List, [], ◌++◌, length, take, drop, Option, Some, None, Result, Ok, Err, refl, sym, ap, ◌∙◌, ◌⊎◌, inl, inr, append_assoc, arith}
use Rattle.std.proofs.lemmas.Bool.{ltb-false, ltb-true, le-ltb, lt-ltb}
use Rattle.std.proofs.lemmas.List.{take_at, drop_at, take-append-drop, take-append-le, drop-append-le, length-append, length-take, length-drop, append-nil, nil_from_length}
use Rattle.std.proofs.Math.Seq.{drop-append-add}
use Rattle.packet_frame.specs.declared.error.FrameReason.{FrameReason}
use Rattle.packet_frame.specs.declared.error.FrameReason.TheVariants.{Short}
use Rattle.packet_frame.specs.Fields.{Refusal, Form, whole, field, ◌>>=◌, Spells, piece, read, and_then, is_settled, later}
use Rattle.packet_frame.specs.FormLaws.{Stays, IsReadAgain, IsSpelled, IsPrefixFree, IsMoved, HasLaws}

pub bool_case : (b : Bool) → (b ≡ true) ⊎ (b ≡ false)
bool_case true = inl refl
bool_case false = inr refl

pub option_case : {A : Type 0} (o : Option A) → (o ≡ None) ⊎ ((x : A) × (o ≡ Some x))
option_case None = inl refl
option_case (Some x) = inr (x, refl)

-- ---- a field, by cases

module _ {A : Type 0} (width : ℕ) (rule : List ℕ → Option FrameReason) (next : List ℕ → Form A) (bytes : List ℕ) (at : ℕ) where
  pub read-short : nat_lt (length bytes) (at + width) ≡ true → read (field width rule next) bytes at ≡ Err (record { at = at; reason = Short })
  read-short h = rw (read, h) refl

  pub read-refused : (r : FrameReason) → nat_lt (length bytes) (at + width) ≡ false → rule (piece bytes at width) ≡ Some r → read (field width rule next) bytes at ≡ Err (record { at = at; reason = r })
  read-refused r h k = rw (read, h, k) refl

  pub read-next : nat_lt (length bytes) (at + width) ≡ false → rule (piece bytes at width) ≡ None → read (field width rule next) bytes at ≡ read (next (piece bytes at width)) bytes (at + width)
  read-next h k = rw (read, h, k) refl

-- the input ends, or a rule is broken, or the next fields follow
pub data FieldCase (width : ℕ) (rule : List ℕ → Option FrameReason) (bytes : List ℕ) (at : ℕ) : Type 0 where
  short : nat_lt (length bytes) (at + width) ≡ true → FieldCase width rule bytes at
  refused : (r : FrameReason) → nat_lt (length bytes) (at + width) ≡ false → rule (piece bytes at width) ≡ Some r → FieldCase width rule bytes at
  obeys : nat_lt (length bytes) (at + width) ≡ false → rule (piece bytes at width) ≡ None → FieldCase width rule bytes at

pub field_case : (width : ℕ) (rule : List ℕ → Option FrameReason) (bytes : List ℕ) (at : ℕ) → FieldCase width rule bytes at
field_case width rule bytes at =
    elim (bool_case (nat_lt (length bytes) (at + width))) [
      | inl h ↦ short h
      | inr h ↦ elim (option_case (rule (piece bytes at width))) [
        | inl k ↦ obeys h k
        | inr k ↦ refused k.0 h k.1
      ]
    ]

-- ---- one form after another

pub read-bind : {A B : Type 0} (f : Form A) (g : A → Form B) (bytes : List ℕ) (at : ℕ) → read (f >>= g) bytes at ≡ and_then (read f bytes at) (λ x. read (g x.0) bytes x.1)
read-bind (whole a) g bytes at = refl
read-bind (field width rule next) g bytes at =
    elim (field_case width rule bytes at) [
      | short h ↦ read-short width rule (λ b. next b >>= g) bytes at h ∙ sym (rw (read-short width rule next bytes at h) refl)
      | refused r h k ↦ read-refused width rule (λ b. next b >>= g) bytes at r h k ∙ sym (rw (read-refused width rule next bytes at r h k) refl)
      | obeys h k ↦ read-next width rule (λ b. next b >>= g) bytes at h k ∙ read-bind (next (piece bytes at width)) g bytes (at + width) ∙ sym (rw (read-next width rule next bytes at h k) refl)
    ]

-- ---- more bytes behind

pub still_enough : (bytes more : List ℕ) (n : ℕ) → nat_lt (length bytes) n ≡ false → nat_lt (length (bytes ++ more)) n ≡ false
still_enough bytes more n h = let le : n ≤ length bytes = ltb-false _ _ h in le-ltb _ _ (omega (arith, length-append bytes more))

pub same_piece : (bytes more : List ℕ) (at width : ℕ) → nat_lt (length bytes) (at + width) ≡ false → piece (bytes ++ more) at width ≡ piece bytes at width
same_piece bytes more at width h =
    let le : at + width ≤ length bytes = ltb-false _ _ h in
    let le_at : at ≤ length bytes = omega arith in
    let le_width : width ≤ length (drop at bytes) = omega (arith, length-drop at bytes) in
    ap (take width) (drop-append-le at bytes more le_at) ∙ take-append-le width (drop at bytes) more le_width

pub read-stays : {A : Type 0} (form : Form A) → Stays form
read-stays (whole a) bytes more at settled = refl
read-stays (field width rule next) bytes more at settled =
    elim (field_case width rule bytes at) [
      | short h ↦ let not_settled : false ≡ true = sym (ap is_settled (read-short width rule next bytes at h)) ∙ settled in absurd cc
      | refused r h k ↦
          let k2 = ap rule (same_piece bytes more at width h) ∙ k in
          read-refused width rule next (bytes ++ more) at r (still_enough bytes more (at + width) h) k2 ∙ sym (read-refused width rule next bytes at r h k)
      | obeys h k ↦
          let same = same_piece bytes more at width h in
          let settled2 : is_settled (read (next (piece bytes at width)) bytes (at + width)) ≡ true = sym (ap is_settled (read-next width rule next bytes at h k)) ∙ settled in
          read-next width rule next (bytes ++ more) at (still_enough bytes more (at + width) h) (ap rule same ∙ k)
          ∙ ap (λ (b : List ℕ). read (next b) (bytes ++ more) (at + width)) same
          ∙ read-stays (next (piece bytes at width)) bytes more (at + width) settled2
          ∙ sym (read-next width rule next bytes at h k)
    ]

-- ---- bytes before

moved_enough : (front bytes : List ℕ) (at width : ℕ) → nat_lt (length (front ++ bytes)) (length front + at + width) ≡ nat_lt (length bytes) (at + width)
moved_enough front bytes at width =
    elim (bool_case (nat_lt (length bytes) (at + width))) as (λ _. nat_lt (length (front ++ bytes)) (length front + at + width) ≡ nat_lt (length bytes) (at + width)) [
      | inl h ↦ let lt : length bytes < at + width = ltb-true _ _ h in lt-ltb _ _ (omega (arith, length-append front bytes)) ∙ sym h
      | inr h ↦ let le : at + width ≤ length bytes = ltb-false _ _ h in le-ltb _ _ (omega (arith, length-append front bytes)) ∙ sym h
    ]

moved_piece : (front bytes : List ℕ) (at width : ℕ) → piece (front ++ bytes) (length front + at) width ≡ piece bytes at width
moved_piece front bytes at width = ap (take width) (drop-append-add front bytes at)

pub read-moved : {A : Type 0} (form : Form A) → IsMoved form
read-moved (whole a) front bytes at = refl
read-moved (field width rule next) front bytes at =
    let same = moved_piece front bytes at width in
    let enough = moved_enough front bytes at width in
    let after : length front + at + width ≡ length front + (at + width) = omega arith in
    elim (field_case width rule bytes at) [
      | short h ↦ read-short width rule next (front ++ bytes) (length front + at) (enough ∙ h) ∙ sym (ap (later (length front)) (read-short width rule next bytes at h))
      | refused r h k ↦ read-refused width rule next (front ++ bytes) (length front + at) r (enough ∙ h) (ap rule same ∙ k) ∙ sym (ap (later (length front)) (read-refused width rule next bytes at r h k))
      | obeys h k ↦
          read-next width rule next (front ++ bytes) (length front + at) (enough ∙ h) (ap rule same ∙ k)
          ∙ ap (λ (b : List ℕ). read (next b) (front ++ bytes) (length front + at + width)) same
          ∙ ap (read (next (piece bytes at width)) (front ++ bytes)) after
          ∙ read-moved (next (piece bytes at width)) front bytes (at + width)
          ∙ sym (ap (later (length front)) (read-next width rule next bytes at h k))
    ]

-- ---- spellings

-- the first bytes of a spelling are those of its first field
front_piece : (front text more : List ℕ) (width : ℕ) → length (take width text) ≡ width → piece (front ++ (text ++ more)) (length front) width ≡ take width text
front_piece front text more width len =
    let le : width ≤ length text = omega (arith, length-take width text) in
    ap (take width) (drop_at front (text ++ more) (length front) refl) ∙ take-append-le width text more le

front_enough : (front text more : List ℕ) (width : ℕ) → length (take width text) ≡ width → nat_lt (length (front ++ (text ++ more))) (length front + width) ≡ false
front_enough front text more width len =
    le-ltb _ _ (omega (arith, length-take width text, length-append front (text ++ more), length-append text more))

regroup : (front text more : List ℕ) (width : ℕ) → front ++ (text ++ more) ≡ (front ++ take width text) ++ (drop width text ++ more)
regroup front text more width =
    ap (λ (t : List ℕ). front ++ (t ++ more)) (sym (take-append-drop width text))
    ∙ ap (λ (t : List ℕ). front ++ t) (append_assoc (take width text) (drop width text) more)
    ∙ sym (append_assoc front (take width text) (drop width text ++ more))

pub read-again : {A : Type 0} (form : Form A) → IsReadAgain form
read-again (whole a) front text more x s =
    let none : length text ≡ 0 = ap length s.0 in
    let same : length front ≡ length front + length text = omega arith in
    ap (λ (n : ℕ). Ok (a, n)) same ∙ ap (λ v. Ok (v, length front + length text)) s.1
read-again (field width rule next) front text more x s =
    let first = take width text in
    let input = front ++ (text ++ more) in
    let same : piece input (length front) width ≡ first = front_piece front text more width s.0 in
    let n : length (front ++ first) ≡ length front + width = length-append front first ∙ ap (λ (k : ℕ). length front + k) s.0 in
    let rest = read-again (next first) (front ++ first) (drop width text) more x s.2 in
    let end : length (front ++ first) + length (drop width text) ≡ length front + length text = omega (arith, length-take width text, length-drop width text, s.0, n) in
    read-next width rule next input (length front) (front_enough front text more width s.0) (ap rule same ∙ s.1)
    ∙ ap (λ (b : List ℕ). read (next b) input (length front + width)) same
    ∙ ap (read (next first) input) (sym n)
    ∙ ap (λ (b : List ℕ). read (next first) b (length (front ++ first))) (regroup front text more width)
    ∙ rest
    ∙ ap (λ (k : ℕ). Ok (x, k)) end

abbrev pub ok : {A : Type 0} → A × ℕ → Result (A × ℕ) Refusal
ok p = Ok p

pub ok_is : {A : Type 0} (p q : A × ℕ) → ok p ≡ ok q → p ≡ q
ok_is p q e = cc

abbrev pub answer : {A : Type 0} → A → ℕ → Result (A × ℕ) Refusal
answer x n = Ok (x, n)

pub done_is : {A : Type 0} (a x : A) (m n : ℕ) → answer a m ≡ answer x n → (a ≡ x) × (m ≡ n)
done_is {A} a x m n e = let p = ok_is (a, m) (x, n) e in (ap (λ (q : A × ℕ). q.0) p, ap (λ (q : A × ℕ). q.1) p)

pub err_is_no_answer : {A : Type 0} (r : Refusal) (x : A) (n : ℕ) (bad : Result (A × ℕ) Refusal) → bad ≡ Err r → bad ≡ Ok (x, n) → ⊥
err_is_no_answer r x n bad e h = cc

-- a field before a spelling
pub spells_more : {A : Type 0} (width : ℕ) (rule : List ℕ → Option FrameReason) (next : List ℕ → Form A) (first text : List ℕ) (x : A) → length first ≡ width → rule first ≡ None → Spells (next first) text x → Spells (field width rule next) (first ++ text) x
spells_more width rule next first text x len fine s =
    let front : take width (first ++ text) ≡ first = take_at first text width len in
    let back : drop width (first ++ text) ≡ text = drop_at first text width len in
    rw (front, back) (len, fine, s)

pub read-spelled : {A : Type 0} (form : Form A) → IsSpelled form
read-spelled (whole a) front bytes x end e =
    let same = done_is a x (length front) end e in
    let end_is : end ≡ length front + 0 = omega (arith, same.1) in
    ([], bytes, refl, end_is, (refl, same.0))
read-spelled (field width rule next) front bytes x end e =
    elim (field_case width rule (front ++ bytes) (length front)) [
      | short h ↦ absurd (err_is_no_answer _ x end _ (read-short width rule next (front ++ bytes) (length front) h) e)
      | refused r h k ↦ absurd (err_is_no_answer _ x end _ (read-refused width rule next (front ++ bytes) (length front) r h k) e)
      | obeys h k ↦
          let first = take width bytes in
          let le : length front + width ≤ length (front ++ bytes) = ltb-false _ _ h in
          let len : length first ≡ width = omega (arith, length-take width bytes, length-append front bytes) in
          let same : piece (front ++ bytes) (length front) width ≡ first = ap (take width) (drop_at front bytes (length front) refl) in
          let n : length (front ++ first) ≡ length front + width = length-append front first ∙ ap (λ (k : ℕ). length front + k) len in
          let input : front ++ bytes ≡ (front ++ first) ++ drop width bytes = ap (λ (t : List ℕ). front ++ t) (sym (take-append-drop width bytes)) ∙ sym (append_assoc front first (drop width bytes)) in
          let goes_on : read (next first) ((front ++ first) ++ drop width bytes) (length (front ++ first)) ≡ Ok (x, end) =
          ap (λ (b : List ℕ). read (next first) b (length (front ++ first))) (sym input)
          ∙ ap (read (next first) (front ++ bytes)) n
          ∙ ap (λ (b : List ℕ). read (next b) (front ++ bytes) (length front + width)) (sym same)
          ∙ sym (read-next width rule next (front ++ bytes) (length front) h k)
          ∙ e in
          let s = read-spelled (next first) (front ++ first) (drop width bytes) x end goes_on in
          let parts : bytes ≡ (first ++ s.0) ++ s.1 = sym (take-append-drop width bytes) ∙ ap (λ (t : List ℕ). first ++ t) s.2 ∙ sym (append_assoc first s.0 s.1) in
          let end_is : end ≡ length front + length (first ++ s.0) = omega (arith, s.3, n, len, length-append first s.0) in
          (first ++ s.0, s.1, parts, end_is, spells_more width rule next first s.0 x len (sym (ap rule same) ∙ k) s.4)
    ]

pub read-free : {A : Type 0} (form : Form A) → IsPrefixFree form
read-free form text more x y s t =
    let one : read form (text ++ more) 0 ≡ Ok (x, 0 + length text) = read-again form [] text more x s in
    let two : read form ((text ++ more) ++ []) 0 ≡ Ok (y, 0 + length (text ++ more)) = read-again form [] (text ++ more) [] y t in
    let three : read form (text ++ more) 0 ≡ Ok (y, 0 + length (text ++ more)) = ap (λ (b : List ℕ). read form b 0) (sym (append-nil (text ++ more))) ∙ two in
    let same = done_is x y (0 + length text) (0 + length (text ++ more)) (sym one ∙ three) in
    let none : length more ≡ 0 = omega (arith, same.1, length-append text more) in
    (nil_from_length more none, same.0)

pub has_laws : {A : Type 0} (form : Form A) → HasLaws form
has_laws form = record { stays = read-stays form; again = read-again form; spelled = read-spelled form; free = read-free form; moved = read-moved form }

-- The fields that a scan takes, one after another.
use Rattle.std.proofs.Common.{◌≡◌, ℕ, ◌+◌, ◌-◌, ◌≤◌, ◌<◌, false, nat_lt, List, [], ◌++◌, length, Option, Some, None, Result, Ok, Err, refl, sym, ap, subst, ◌∙◌, inl, inr, arith}
use Rattle.std.proofs.lemmas.Bool.{lt-ltb, le-ltb}
use Rattle.std.proofs.lemmas.List.{append-nil}
use Rattle.packet_frame.specs.declared.error.FrameReason.{FrameReason}
use Rattle.packet_frame.specs.declared.error.FrameReason.TheVariants.{Short}
use Rattle.packet_frame.specs.declared.scan.Field.{Field}
use Rattle.packet_frame.specs.declared.scan.Field.TheVariants as fields
use Rattle.packet_frame.specs.declared.scan.Scan.{Scan}
use Rattle.packet_frame.specs.Fields.{Refusal, Form, whole, field, ◌>>=◌, piece, read, and_then, width_of, after_field}
use Rattle.packet_frame.specs.Sent.{packet_map, tree_from, as_packet}
use Rattle.packet_frame.specs.Frame.{Message, frame_form, version_form, kind_form, stream_form, wave_form, run_count_form, first_rank_form, last_rank_form, offset_form, word_count_form, word_form, row_count_form, depth_form, name_length_form, name_form, word_limit}
use Rattle.packet_frame.specs.Scanning.{left, left_at, IsReady, Takes, field_width, set_then, word_rule, needed, with_tree}
use Rattle.packet_frame.specs.declared.error.FieldError.{FieldError}
use Rattle.packet_frame.specs.declared.error.FieldError.TheVariants as faults
use Rattle.packet_frame.specs.declared.reader.Reader.{Reader}
use Rattle.packet_frame.specs.Reading.{first_of, IsOn, Waits, IsWhole, refusal_at, Fails}
use Rattle.packet_frame.proofs.FormLaws.{option_case, read-bind, read-short, read-refused, read-next, same_piece, still_enough}
use Rattle.packet_frame.proofs.Covering.{run_follows}
use Rattle.packet_frame.proofs.Setting.{set_follows, word_follows}
use Rattle.packet_frame.proofs.Rowing.{row_follows}

-- the widths are those of the forms
pub width_is : {X : Type 0} (f : Field) (s : Scan X) → IsReady f s → width_of (left_at f s) ≡ field_width f s
unfolding frame_form version_form kind_form stream_form wave_form run_count_form first_rank_form last_rank_form offset_form word_count_form word_form row_count_form depth_form name_length_form name_form
width_is fields.Version s ready = refl
width_is fields.Kind s ready = refl
width_is fields.Stream s ready = refl
width_is fields.Wave s ready = refl
width_is fields.RunCount s ready = refl
width_is fields.FirstRank s ready = ap width_of (run_follows s.version s.stream s.wave s.cover.ranks s.least s.left (s.left - 1) (omega (arith, ready.1)))
width_is fields.LastRank s ready = refl
width_is fields.Offset s ready = ap width_of (set_follows (word_rule s.set.part s.version s.cover.ranks) (set_then s) (word_limit s.version) (needed s.set.part s.row.depth s.row.left))
width_is fields.WordCount s ready = refl
width_is fields.Word s ready = ap width_of (word_follows (word_rule s.set.part s.version s.cover.ranks) (set_then s) s.set.offset s.set.words.items s.left (s.left - 1) (omega (arith, ready.1)))
width_is fields.RowCount s ready = refl
width_is fields.Depth s ready = ap width_of (row_follows s.version s.stream s.wave s.cover.ranks s.tree s.row.path s.row.ended s.row.left (s.row.left - 1) (omega (arith, ready.1)))
width_is fields.NameLength s ready = refl
width_is fields.Name s ready = refl
width_is fields.End s ready = refl

-- every field before the end has a byte
pub width_some : {X : Type 0} (f : Field) (s : Scan X) → IsReady f s → (f ≡ fields.End → ⊥) → 0 < field_width f s
width_some fields.Version s ready not_end = omega arith
width_some fields.Kind s ready not_end = omega arith
width_some fields.Stream s ready not_end = omega arith
width_some fields.Wave s ready not_end = omega arith
width_some fields.RunCount s ready not_end = omega arith
width_some fields.FirstRank s ready not_end = omega arith
width_some fields.LastRank s ready not_end = omega arith
width_some fields.Offset s ready not_end = omega arith
width_some fields.WordCount s ready not_end = omega arith
width_some fields.Word s ready not_end = omega arith
width_some fields.RowCount s ready not_end = omega arith
width_some fields.Depth s ready not_end = omega arith
width_some fields.NameLength s ready not_end = omega arith
width_some fields.Name s ready not_end = omega (arith, ready.1)
width_some fields.End s ready not_end = absurd (not_end refl)

-- ---- one field of any form

not_less : (n m : ℕ) → m ≤ n → nat_lt n m ≡ false
not_less n m le = le-ltb n m le

pub field_taken : {A : Type 0} (f g : Form A) (bytes more : List ℕ) (at : ℕ) → at + width_of f ≤ length bytes → after_field f (piece bytes at (width_of f)) ≡ Ok g → read f (bytes ++ more) at ≡ read g (bytes ++ more) (at + width_of f)
field_taken {A} (whole a) g bytes more at within taken =
    let same : whole a ≡ g = form_is (whole a) g taken in
    let here : at ≡ at + 0 = omega arith in
    ap (λ form. read form (bytes ++ more) at) same ∙ ap (read g (bytes ++ more)) here
  where
    form_is : (f g : Form A) → ◌≡◌ {A = Result (Form A) FrameReason} (Ok f) (Ok g) → f ≡ g
    form_is f g e = cc
field_taken {A} (field width rule next) g bytes more at within taken =
    let enough = still_enough bytes more (at + width) (not_less (length bytes) (at + width) within) in
    let same = same_piece bytes more at width (not_less (length bytes) (at + width) within) in
    elim (option_case (rule (piece bytes at width))) [
      | inl fine ↦
          read-next width rule next (bytes ++ more) at enough (ap rule same ∙ fine)
          ∙ ap (λ form. read form (bytes ++ more) (at + width)) (ap next same ∙ form_is (next (piece bytes at width)) g (sym (by_rule fine) ∙ taken))
      | inr bad ↦ absurd (no_form bad.0 g (sym (by_rule bad.1) ∙ taken))
    ]
  where
    by_rule : {o : Option FrameReason} → rule (piece bytes at width) ≡ o → after_field (field width rule next) (piece bytes at width) ≡ elim o as (λ _. Result (Form A) FrameReason) [
      | Some reason ↦ Err reason
      | None ↦ Ok (next (piece bytes at width))
    ]
    by_rule {o} e = ap (λ (o : Option FrameReason). elim o as (λ _. Result (Form A) FrameReason) [
      | Some reason ↦ Err reason
      | None ↦ Ok (next (piece bytes at width))
    ]) e

    form_is : (f g : Form A) → ◌≡◌ {A = Result (Form A) FrameReason} (Ok f) (Ok g) → f ≡ g
    form_is f g e = cc

    no_form : (r : FrameReason) (g : Form A) → ◌≡◌ {A = Result (Form A) FrameReason} (Err r) (Ok g) → ⊥
    no_form r g e = cc

pub field_refused : {A : Type 0} (f : Form A) (bytes : List ℕ) (at : ℕ) (reason : FrameReason) → at + width_of f ≤ length bytes → after_field f (piece bytes at (width_of f)) ≡ Err reason → read f bytes at ≡ Err (record { at = at; reason = reason })
field_refused {A} (whole a) bytes at reason within refused = absurd (no_reason (whole a) reason refused)
  where
    no_reason : (f : Form A) (r : FrameReason) → ◌≡◌ {A = Result (Form A) FrameReason} (Ok f) (Err r) → ⊥
    no_reason f r e = cc
field_refused {A} (field width rule next) bytes at reason within refused =
    elim (option_case (rule (piece bytes at width))) [
      | inl fine ↦ absurd (no_reason (next (piece bytes at width)) reason (sym (by_rule fine) ∙ refused))
      | inr bad ↦ read-refused width rule next bytes at reason (not_less (length bytes) (at + width) within) (bad.1 ∙ ap Some (reason_is bad.0 reason (sym (by_rule bad.1) ∙ refused)))
    ]
  where
    by_rule : {o : Option FrameReason} → rule (piece bytes at width) ≡ o → after_field (field width rule next) (piece bytes at width) ≡ elim o as (λ _. Result (Form A) FrameReason) [
      | Some reason ↦ Err reason
      | None ↦ Ok (next (piece bytes at width))
    ]
    by_rule {o} e = ap (λ (o : Option FrameReason). elim o as (λ _. Result (Form A) FrameReason) [
      | Some reason ↦ Err reason
      | None ↦ Ok (next (piece bytes at width))
    ]) e

    no_reason : (f : Form A) (r : FrameReason) → ◌≡◌ {A = Result (Form A) FrameReason} (Ok f) (Err r) → ⊥
    no_reason f r e = cc

    reason_is : (r s : FrameReason) → ◌≡◌ {A = Result (Form A) FrameReason} (Err r) (Err s) → r ≡ s
    reason_is r s e = cc

pub field_short : {A : Type 0} (f : Form A) (bytes : List ℕ) (at : ℕ) → at ≤ length bytes → length bytes < at + width_of f → read f bytes at ≡ Err (record { at = at; reason = Short })
field_short (whole a) bytes at within less = absurd (omega (arith, within, less))
field_short (field width rule next) bytes at within less = read-short width rule next bytes at (lt-ltb (length bytes) (at + width) less)

-- ---- the reader

with_trees : (r : Result (Message × ℕ) Refusal) → and_then r (λ x. Ok (packet_map tree_from x.0, x.1)) ≡ as_packet r
with_trees (Ok x) = refl
with_trees (Err e) = refl

-- a reader before the first field
pub on_first : {X : Type 0} (r : Reader X) → r.scan.field ≡ fields.Version → r.at ≡ 0 → IsOn r []
on_first r first start = record {
  ready = subst (λ (f : Field). IsReady f r.scan) (sym first) tt;
  within = omega (arith, start);
  goes_on = λ more.
      ap (λ (f : Field). read (left_at f r.scan) more r.at) first
      ∙ ap (read (frame_form >>= with_tree) more) start
      ∙ read-bind frame_form with_tree more 0
      ∙ with_trees (first_of more);
}

-- a field was taken
pub goes_on : {X : Type 0} (r : Reader X) (t : Scan X) (bytes : List ℕ) → IsOn r bytes → r.at + field_width r.scan.field r.scan ≤ length bytes → after_field (left r.scan) (piece bytes r.at (field_width r.scan.field r.scan)) ≡ Ok (left t) → IsReady t.field t → IsOn (record { at = r.at + field_width r.scan.field r.scan; scan = t }) bytes
goes_on r t bytes on within taken ready =
    let w : width_of (left r.scan) ≡ field_width r.scan.field r.scan = width_is r.scan.field r.scan on.ready in
    record {
      ready = ready;
      within = within;
      goes_on = λ more. sym (by_width (field_width r.scan.field r.scan) w within taken more) ∙ on.goes_on more;
    }
  where
    by_width : (width : ℕ) → width_of (left r.scan) ≡ width → r.at + width ≤ length bytes → after_field (left r.scan) (piece bytes r.at width) ≡ Ok (left t) → (more : List ℕ) → read (left r.scan) (bytes ++ more) r.at ≡ read (left t) (bytes ++ more) (r.at + width)
    by_width width w within taken more =
        let le = subst (λ (n : ℕ). r.at + n ≤ length bytes) (sym w) within in
        let same = ap (λ (n : ℕ). after_field (left r.scan) (piece bytes r.at n)) w ∙ taken in
        field_taken (left r.scan) (left t) bytes more r.at le same ∙ ap (λ (n : ℕ). read (left t) (bytes ++ more) (r.at + n)) w

now_on : {X : Type 0} (r : Reader X) (bytes : List ℕ) → IsOn r bytes → read (left r.scan) bytes r.at ≡ as_packet (first_of bytes)
now_on r bytes on = ap (λ all. read (left r.scan) all r.at) (sym (append-nil bytes)) ∙ on.goes_on [] ∙ ap (λ all. as_packet (first_of all)) (append-nil bytes)

-- a refusal is the same with trees and without
refusal_is : (r : Result (Message × ℕ) Refusal) (e : Refusal) → as_packet r ≡ Err e → r ≡ Err e
refusal_is (Ok x) e is = absurd cc
refusal_is (Err f) e is = cc

-- a field breaks a rule
pub breaks : {X : Type 0} (r : Reader X) (bytes : List ℕ) (reason : FrameReason) → IsOn r bytes → r.at + field_width r.scan.field r.scan ≤ length bytes → after_field (left r.scan) (piece bytes r.at (field_width r.scan.field r.scan)) ≡ Err reason → first_of bytes ≡ Err (record { at = r.at; reason = reason })
breaks r bytes reason on within refused =
    let w : width_of (left r.scan) ≡ field_width r.scan.field r.scan = width_is r.scan.field r.scan on.ready in
    let le = subst (λ (n : ℕ). r.at + n ≤ length bytes) (sym w) within in
    refusal_is _ _ (sym (now_on r bytes on) ∙ field_refused (left r.scan) bytes r.at reason le (ap (λ (n : ℕ). after_field (left r.scan) (piece bytes r.at n)) w ∙ refused))

-- the input ends in a field
pub waits : {X : Type 0} (r : Reader X) (bytes : List ℕ) → IsOn r bytes → length bytes < r.at + field_width r.scan.field r.scan → Waits bytes r.at
waits r bytes on less =
    let w : width_of (left r.scan) ≡ field_width r.scan.field r.scan = width_is r.scan.field r.scan on.ready in
    refusal_is _ _ (sym (now_on r bytes on) ∙ field_short (left r.scan) bytes r.at on.within (subst (λ (n : ℕ). length bytes < r.at + n) (sym w) less))

-- no field is left
pub ends : {X : Type 0} (r : Reader X) (bytes : List ℕ) → IsOn r bytes → r.scan.field ≡ fields.End → IsWhole r bytes
ends r bytes on end = sym (now_on r bytes on) ∙ ap (λ f. read (left_at f r.scan) bytes r.at) end

-- what a field's taking says of the reader
pub fails_at : {X : Type 0} (r : Reader X) (bytes : List ℕ) (e : FieldError) (t : Scan X) → IsOn r bytes → r.at + field_width r.scan.field r.scan ≤ length bytes → Takes (left r.scan) (piece bytes r.at (field_width r.scan.field r.scan)) (Err e) (left t) → Fails bytes (refusal_at r.at e)
fails_at r bytes (faults.Broken reason) t on within taken = (breaks r bytes reason on within taken.0, taken.1, on.within)
fails_at r bytes faults.OutOfMemory t on within taken = tt

-- What a capture is.
use Rattle.std.proofs.Common.{◌≡◌, ◌≢◌, ◌⊎◌, inl, inr, ℕ, zero, suc, ◌+◌, ◌<◌, ◌≤◌, List, [], ◌∷◌, length, drop, Result, Ok, Err, refl, sym, ap, subst, ◌∙◌, arith, length-drop}
use Rattle.packet_frame.specs.declared.error.FrameReason.{FrameReason}
use Rattle.packet_frame.specs.declared.error.FrameReason.TheVariants.{Short}
use Rattle.packet_frame.specs.Fields.{Refusal}
use Rattle.packet_frame.specs.Frame.{Message, frame_form, version_form}
use Rattle.packet_frame.specs.Reading.{first_of}
use Rattle.packet_frame.specs.Streams.{Begins, taken}
use Rattle.packet_frame.proofs.Feeds.{frame_some}
use Rattle.packet_frame.proofs.StreamLaws.{not_both}
use Rattle.capture_text.specs.Captures.{Capture, before, read_on, capture_within, capture_of, StopsAt, CaptureLaws}

abbrev Frames : Type 0
Frames = List (Message × ℕ)

abbrev fault_at : ℕ → FrameReason → Refusal
fault_at at reason = record { at = at; reason = reason }

-- ---- a frame has bytes

-- no frame begins where there are no bytes
pub nothing_begins : first_of [] ≡ Err (fault_at 0 Short)
unfolding frame_form version_form
nothing_begins = refl

begins_some : (m : Message × ℕ) → first_of [] ≡ Ok m → ⊥
begins_some m h = not_both m (fault_at 0 Short) (first_of []) h nothing_begins

pub frame_length : (bytes : List ℕ) (m : Message × ℕ) → first_of bytes ≡ Ok m → 0 < m.1
frame_length bytes m h = frame_some bytes m.0 m.1 h

-- what is left behind a frame is shorter
shorter : (n : ℕ) (bytes : List ℕ) (m : Message × ℕ) → length bytes ≤ suc n → first_of bytes ≡ Ok m → length (drop m.1 bytes) ≤ n
shorter n bytes m le h = let some = frame_length bytes m h in omega (arith, some, length-drop m.1 bytes)

-- ---- as many frames as bytes are enough

read_on_same : (r : Result (Message × ℕ) Refusal) (f g : Message × ℕ → Capture) → ((m : Message × ℕ) → r ≡ Ok m → f m ≡ g m) → read_on r f ≡ read_on r g
read_on_same (Ok m) f g h = ap (before m) (h m refl)
read_on_same (Err e) f g h = refl

enough : (n k : ℕ) (bytes : List ℕ) → length bytes ≤ n → length bytes ≤ k → capture_within n bytes ≡ capture_within k bytes
unfolding capture_within
enough zero zero bytes le also = refl
enough zero (suc k) [] le also = refl
enough zero (suc k) (b ∷ bytes) le also = absurd (omega (arith, le))
enough (suc n) zero [] le also = refl
enough (suc n) zero (b ∷ bytes) le also = absurd (omega (arith, also))
enough (suc n) (suc k) [] le also = refl
enough (suc n) (suc k) (b ∷ bytes) le also =
    read_on_same (first_of (b ∷ bytes)) _ _ (λ m whole. enough n k (drop m.1 (b ∷ bytes)) (shorter n (b ∷ bytes) m le whole) (shorter k (b ∷ bytes) m also whole))

-- ---- one frame after another

capture_empty : capture_of [] ≡ Ok []
unfolding capture_of capture_within
capture_empty = refl

capture_frame : (bytes : List ℕ) (m : Message × ℕ) → first_of bytes ≡ Ok m → capture_of bytes ≡ before m (capture_of (drop m.1 bytes))
unfolding capture_of capture_within
capture_frame [] m whole = absurd (begins_some m whole)
capture_frame (b ∷ bytes) m whole =
    ap (λ r. read_on r (λ k. capture_within (length bytes) (drop k.1 (b ∷ bytes)))) whole
    ∙ ap (before m) (enough (length bytes) (length (drop m.1 (b ∷ bytes))) (drop m.1 (b ∷ bytes)) (shorter (length bytes) (b ∷ bytes) m (omega arith) whole) (omega arith))

capture_stops : (bytes : List ℕ) (e : Refusal) → bytes ≢ [] → first_of bytes ≡ Err e → capture_of bytes ≡ Err e
unfolding capture_of capture_within
capture_stops [] e goes_on refused = absurd (goes_on refl)
capture_stops (b ∷ bytes) e goes_on refused = ap (λ r. read_on r (λ k. capture_within (length bytes) (drop k.1 (b ∷ bytes)))) refused

pub whole_capture : (frames : Frames) (bytes : List ℕ) → Begins frames bytes [] → capture_of bytes ≡ Ok frames
whole_capture [] bytes h = ap capture_of h ∙ capture_empty
whole_capture (m ∷ ms) bytes h = capture_frame bytes m h.0 ∙ ap (before m) (whole_capture ms (drop m.1 bytes) h.1)

abbrev refused : ℕ → FrameReason → Capture
refused at reason = Err (fault_at at reason)

refused_at : (at other : ℕ) (reason : FrameReason) → at ≡ other → refused at reason ≡ refused other reason
refused_at at other reason e = ap (λ n. refused n reason) e

stops_behind : (frames : Frames) (bytes rest : List ℕ) (at : ℕ) (reason : FrameReason) → Begins frames bytes rest → rest ≢ [] → first_of rest ≡ Err (fault_at at reason) → capture_of bytes ≡ Err (fault_at (taken frames + at) reason)
stops_behind [] bytes rest at reason h goes_on refused = ap capture_of h ∙ capture_stops rest (fault_at at reason) goes_on refused ∙ refused_at at (0 + at) reason (omega arith)
stops_behind (m ∷ ms) bytes rest at reason h goes_on refused =
    capture_frame bytes m h.0 ∙ ap (before m) (stops_behind ms (drop m.1 bytes) rest at reason h.1 goes_on refused)
    ∙ refused_at (m.1 + (taken ms + at)) (m.1 + taken ms + at) reason (omega arith)

pub stopped_capture : (bytes : List ℕ) (fault : Refusal) → StopsAt bytes fault → capture_of bytes ≡ Err fault
stopped_capture bytes fault s = stops_behind s.frames bytes s.rest s.at fault.reason s.whole s.goes_on s.refused ∙ refused_at (taken s.frames + s.at) fault.at fault.reason (sym s.offset)

-- ---- every capture is one or the other

abbrev Parts : List ℕ → Type 0
Parts bytes = ((frames : Frames) × Begins frames bytes []) ⊎ ((fault : Refusal) × StopsAt bytes fault)

result_case : (r : Result (Message × ℕ) Refusal) → ((m : Message × ℕ) × (r ≡ Ok m)) ⊎ ((e : Refusal) × (r ≡ Err e))
result_case (Ok m) = inl (m, refl)
result_case (Err e) = inr (e, refl)

parts_behind : (bytes : List ℕ) (m : Message × ℕ) → first_of bytes ≡ Ok m → Parts (drop m.1 bytes) → Parts bytes
parts_behind bytes m whole (inl p) = inl (m ∷ p.0, (whole, p.1))
parts_behind bytes m whole (inr p) = inr (
  fault_at (m.1 + p.0.at) p.0.reason,
  record {
    frames = m ∷ p.1.frames;
    rest = p.1.rest;
    at = p.1.at;
    whole = (whole, p.1.whole);
    goes_on = p.1.goes_on;
    refused = p.1.refused;
    offset = (let e = p.1.offset in omega (arith, e));
  },
)

not_empty : (b : ℕ) (bytes : List ℕ) → (b ∷ bytes) ≢ []
not_empty b bytes e = cc

parts_within : (n : ℕ) (bytes : List ℕ) → length bytes ≤ n → Parts bytes
parts_within n [] le = inl ([], refl)
parts_within zero (b ∷ bytes) le = absurd (omega (arith, le))
parts_within (suc n) (b ∷ bytes) le =
    elim (result_case (first_of (b ∷ bytes))) [
      | inl k ↦ parts_behind (b ∷ bytes) k.0 k.1 (parts_within n (drop k.0.1 (b ∷ bytes)) (shorter n (b ∷ bytes) k.0 le k.1))
      | inr k ↦ inr (k.0, record { frames = []; rest = b ∷ bytes; at = k.0.at; whole = refl; goes_on = not_empty b bytes; refused = k.1; offset = omega arith })
    ]

parts_of : (bytes : List ℕ) → Parts bytes
parts_of bytes = parts_within (length bytes) bytes (omega arith)

-- ---- the laws

ok_same : (xs ys : Frames) (r : Capture) → r ≡ Ok xs → r ≡ Ok ys → xs ≡ ys
ok_same xs ys r h k = cc

err_same : (e f : Refusal) (r : Capture) → r ≡ Err e → r ≡ Err f → e ≡ f
err_same e f r h k = cc

not_whole : (xs : Frames) (e : Refusal) (r : Capture) → r ≡ Ok xs → r ≡ Err e → ⊥
not_whole xs e r h k = cc

frames_fill : (bytes : List ℕ) (frames : Frames) → capture_of bytes ≡ Ok frames → Begins frames bytes []
frames_fill bytes frames h =
    elim (parts_of bytes) [
      | inl p ↦ subst (λ ms. Begins ms bytes []) (ok_same p.0 frames (capture_of bytes) (whole_capture p.0 bytes p.1) h) p.1
      | inr p ↦ absurd (not_whole frames p.0 (capture_of bytes) h (stopped_capture bytes p.0 p.1))
    ]

capture_stops_at : (bytes : List ℕ) (fault : Refusal) → capture_of bytes ≡ Err fault → StopsAt bytes fault
capture_stops_at bytes fault h =
    elim (parts_of bytes) [
      | inl p ↦ absurd (not_whole p.0 fault (capture_of bytes) (whole_capture p.0 bytes p.1) h)
      | inr p ↦ subst (StopsAt bytes) (err_same p.0 fault (capture_of bytes) (stopped_capture bytes p.0 p.1) h) p.1
    ]

pub capture_laws : CaptureLaws
capture_laws = record {
  whole = λ bytes frames. (frames_fill bytes frames, whole_capture frames bytes);
  refused = λ bytes fault. (capture_stops_at bytes fault, stopped_capture bytes fault);
}

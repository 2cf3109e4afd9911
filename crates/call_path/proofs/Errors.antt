-- The frames of a text, and their first error.
use Rattle.std.proofs.Common.{◌≡◌, ℕ, zero, suc, ◌+◌, ◌<◌, ◌≤◌, Bool, true, false, not, cond, List, [], ◌∷◌, ◌++◌, ◌-◌, length, drop, take, get_or, refl, sym, ap, ◌∙◌, arith}
use Rattle.std.specs.Prelude.{Option, None, Some, All, IsTrue, nat_eq, nat_lt, nat_le, ◌&&◌, ◌==◌, position}
use Rattle.std.specs.List.{slice_split, onto_first, list_all, position_or_len}
use Rattle.std.proofs.lemmas.Bool.{ltb-false, leb-false, eqb-false, le-leb, lt-ltb, and_parts, and_from, or_parts, not_from_false, not-true}
use Rattle.std.proofs.lemmas.List.Elements.{All-nil, All-cons}
use Rattle.std.proofs.lemmas.Option.{none-some}
use Rattle.std.specs.Option.{option_or}
use Rattle.std.proofs.lemmas.List.{drop_all, drop_more}
use Rattle.std.proofs.lemmas.List.Splits.{join_with_byte-slice_split}
use Rattle.memchr.specs.Find.{is_byte, places, places_from}
use Rattle.call_path.specs.declared.read.PathError.{PathError}
use Rattle.call_path.specs.declared.read.PathError.TheVariants.{EmptyFrame, ControlByte, FrameTooLong, TooDeep}
use Rattle.call_path.specs.Path.{Path, path_text}
use Rattle.call_path.specs.Good.{is_plain, is_good_frame, AreGoodFrames}
use Rattle.call_path.specs.Reading.{frames, frame_len, frame_error, first_error, control_error, is_control}
use Rattle.call_path.specs.Cuts.{ends_from}

-- the frames joined again are the text
pub text-frames : (text : List ℕ) → text ≡ path_text (frames text)
unfolding frames
text-frames text = sym (join_with_byte-slice_split 59 text)

-- the frames after a frame, by what is left of the text
abbrev pub frames_after : List ℕ → Path
frames_after [] = []
frames_after (b ∷ rest) = frames rest

module _ (b : ℕ) (rest : List ℕ) (n : ℕ) (first : slice_split (λ b. b == 59) rest ≡ take n rest ∷ frames_after (drop n rest)) where
  first_by : (t : Bool) → cond t ([] ∷ slice_split (λ b. b == 59) rest) (onto_first b (slice_split (λ b. b == 59) rest)) ≡ take (cond (not t) (1 + n) 0) (b ∷ rest) ∷ frames_after (drop (cond (not t) (1 + n) 0) (b ∷ rest))
  unfolding frames
  first_by true = refl
  first_by false = ap (onto_first b) first ∙ (let e : suc n ≡ 1 + n = omega arith in ap (λ k. take k (b ∷ rest) ∷ frames_after (drop k (b ∷ rest))) e)

pub frames_first : (text : List ℕ) → frames text ≡ take (frame_len text) text ∷ frames_after (drop (frame_len text) text)
unfolding frames
frames_first [] = refl
frames_first (b ∷ rest) = first_by b rest (frame_len rest) (frames_first rest) (nat_eq b 59)

-- the first error of frames, by that of the first of them
module _ (i offset : ℕ) (frame : List ℕ) (rest : Path) where
  pub first_bad : (e : PathError) → frame_error i offset frame ≡ Some e → first_error i offset (frame ∷ rest) ≡ Some e
  unfolding first_error
  first_bad e bad = rw (bad, first_error) refl

  pub first_good : frame_error i offset frame ≡ None → first_error i offset (frame ∷ rest) ≡ first_error (suc i) (suc (offset + length frame)) rest
  unfolding first_error
  first_good good = rw (good, first_error) refl

  pub last_good : frame_error i offset frame ≡ None → first_error i offset (frame ∷ []) ≡ None
  unfolding first_error
  last_good good = rw (good, first_error) refl

-- no byte is a `;`
abbrev is_whole : List ℕ → Bool
is_whole f = list_all (λ b. not (nat_eq b 59)) f

whole_onto : (b : ℕ) (fs : Path) → nat_eq b 59 ≡ false → list_all is_whole fs ≡ true → list_all is_whole (onto_first b fs) ≡ true
whole_onto b [] other h = rw other refl
whole_onto b (f ∷ fs) other h =
    let a = and_parts (is_whole f) (list_all is_whole fs) h in
    and_from (is_whole (b ∷ f)) (list_all is_whole fs) (and_from (not (nat_eq b 59)) (is_whole f) (not_from_false _ other) a.0) a.1

-- no frame of a text has a `;`
frames_whole : (text : List ℕ) → list_all is_whole (slice_split (λ b. b == 59) text) ≡ true
frames_whole [] = refl
frames_whole (b ∷ rest) = by_test (nat_eq b 59) refl (frames_whole rest)
  where
    by_test : (t : Bool) → nat_eq b 59 ≡ t → list_all is_whole (slice_split (λ b. b == 59) rest) ≡ true → list_all is_whole (cond t ([] ∷ slice_split (λ b. b == 59) rest) (onto_first b (slice_split (λ b. b == 59) rest))) ≡ true
    by_test true e h = h
    by_test false e h = whole_onto b _ e h

-- where no byte passes a test, each byte fails it
none_passes : (test : ℕ → Bool) (f : List ℕ) → length f ≤ position_or_len test f → list_all (λ b. not (test b)) f ≡ true
none_passes test [] le = refl
none_passes test (b ∷ f) le = by_test (not (test b)) le (none_passes test f)
  where
    by_test : (t : Bool) → suc (length f) ≤ cond t (1 + position_or_len test f) 0 → (length f ≤ position_or_len test f → list_all (λ b. not (test b)) f ≡ true) → (t && list_all (λ b. not (test b)) f) ≡ true
    by_test true le h = h (omega arith)
    by_test false le h = absurd (omega arith)

no_place : (test : ℕ → Bool) (f : List ℕ) → position test f ≡ None → list_all (λ b. not (test b)) f ≡ true
no_place test f none = none_passes test f (by_test (nat_lt (position_or_len test f) (length f)) refl none)
  where
    by_test : (t : Bool) → nat_lt (position_or_len test f) (length f) ≡ t → cond t (Some (position_or_len test f)) None ≡ None → length f ≤ position_or_len test f
    by_test true e n = absurd (none-some (position_or_len test f) (sym n))
    by_test false e n = ltb-false (position_or_len test f) (length f) e

-- a byte that is neither a control byte nor a `;` is plain
plain_byte : (b : ℕ) → not (is_control b) ≡ true → not (nat_eq b 59) ≡ true → is_plain b ≡ true
plain_byte b c w =
    let parts = or_parts (nat_lt b 32) (nat_eq b 127) (not-true (is_control b) c) in
    and_from (nat_le 32 b) (not (nat_eq b 127) && not (nat_eq b 59)) (le-leb 32 b (ltb-false b 32 parts.0))
    (and_from (not (nat_eq b 127)) (not (nat_eq b 59)) (not_from_false (nat_eq b 127) parts.1) w)

plain : (f : List ℕ) → list_all (λ b. not (is_control b)) f ≡ true → is_whole f ≡ true → list_all is_plain f ≡ true
plain [] c w = refl
plain (b ∷ f) c w =
    let a = and_parts (not (is_control b)) (list_all (λ b. not (is_control b)) f) c in
    let d = and_parts (not (nat_eq b 59)) (is_whole f) w in
    and_from (is_plain b) (list_all is_plain f) (plain_byte b a.0 d.0) (plain f a.1 d.1)

unless_none : (t : Bool) (x : PathError) (y : Option PathError) → cond t (Some x) y ≡ None → (t ≡ false) × (y ≡ None)
unless_none true x y e = absurd (none-some x (sym e))
unless_none false x y e = (refl, e)

or_none : (o r : Option PathError) → option_or o r ≡ None → (o ≡ None) × (r ≡ None)
or_none None r e = (refl, e)
or_none (Some x) r e = absurd (none-some x (sym e))

control_none : (offset : ℕ) (o : Option ℕ) → control_error offset o ≡ None → o ≡ None
control_none offset None e = refl
control_none offset (Some n) e = absurd (none-some (ControlByte (offset + n)) (sym e))

-- a frame without a error is good, and not too deep
good_frame : (i offset : ℕ) (f : List ℕ) → frame_error i offset f ≡ None → is_whole f ≡ true → (i < 128) × IsTrue (is_good_frame f)
unfolding frame_error
good_frame i offset f none whole =
    let deep = unless_none (nat_le 128 i) TooDeep _ none in
    let empty = unless_none (nat_eq (length f) 0) (EmptyFrame i) _ deep.1 in
    let long = unless_none (nat_lt 1023 (length f)) (FrameTooLong i) (control_error offset (position is_control f)) empty.1 in
    let bytes = plain f (no_place is_control f (control_none offset (position is_control f) long.1)) whole in
    let ne = eqb-false (length f) 0 empty.0 in (
      leb-false 128 i deep.0,
      and_from (nat_lt 0 (length f)) (nat_le (length f) 1023 && list_all is_plain f) (lt-ltb 0 (length f) (omega (arith, ne)))
          (and_from (nat_le (length f) 1023) (list_all is_plain f) (le-leb (length f) 1023 (ltb-false 1023 (length f) long.0)) bytes),
    )

good_frames : (i offset : ℕ) (fs : Path) → first_error i offset fs ≡ None → list_all is_whole fs ≡ true → i ≤ 128 → (i + length fs ≤ 128) × All (λ f. IsTrue (is_good_frame f)) fs
unfolding first_error
good_frames i offset [] none whole le = (omega arith, All-nil (λ f. IsTrue (is_good_frame f)))
good_frames i offset (f ∷ fs) none whole le =
    let parts = or_none (frame_error i offset f) (first_error (suc i) (suc (offset + length f)) fs) none in
    let w = and_parts (is_whole f) (list_all is_whole fs) whole in
    let here = good_frame i offset f parts.0 w.0 in
    let rest = good_frames (suc i) (suc (offset + length f)) fs parts.1 w.1 (omega (arith, here.0)) in
    (omega (arith, rest.0), All-cons (λ f. IsTrue (is_good_frame f)) f fs here.1 rest.1)

-- a text without a error has good frames
pub good_text : (text : List ℕ) → first_error 0 0 (frames text) ≡ None → AreGoodFrames (frames text)
unfolding frames
good_text text none = let h = good_frames 0 0 (frames text) none (frames_whole text) (omega arith) in record { within_limit = omega (arith, h.0); good = h.1 }

-- some frames, as a reader finds them
pub frames_some : (text : List ℕ) → 0 < length (frames text)
frames_some text = let e = ap length (frames_first text) in omega (arith, e)

-- where the frames of a text end: at each `;` on the way
module _ (n b : ℕ) (rest : List ℕ) where
  -- a `;` is an end
  ends_mark : nat_eq b 59 ≡ true → ends_from n (frames (b ∷ rest)) ≡ n ∷ ends_from (n + 1) (frames rest)
  unfolding frames
  ends_mark e =
      let a : n + 0 ≡ n = omega arith in
      let s : suc (n + 0) ≡ n + 1 = omega arith in
      ap (λ t. ends_from n (cond t ([] ∷ frames rest) (onto_first b (frames rest)))) e ∙ (λ k. a k ∷ ends_from (s k) (frames rest))

  onto_ends : (fs : Path) (f : List ℕ) (gs : Path) → fs ≡ f ∷ gs → ends_from n (onto_first b fs) ≡ ends_from (n + 1) fs
  onto_ends fs f gs is =
      let e : n + suc (length f) ≡ (n + 1) + length f = omega arith in
      ap (λ h. ends_from n (onto_first b h)) is ∙ ap (λ k. k ∷ ends_from (suc k) gs) e ∙ ap (ends_from (n + 1)) (sym is)

  -- another byte is none
  ends_other : nat_eq b 59 ≡ false → ends_from n (frames (b ∷ rest)) ≡ ends_from (n + 1) (frames rest)
  unfolding frames
  ends_other e =
      ap (λ t. ends_from n (cond t ([] ∷ frames rest) (onto_first b (frames rest)))) e
      ∙ onto_ends (frames rest) (take (frame_len rest) rest) (frames_after (drop (frame_len rest) rest)) (frames_first rest)

-- and at the end of the text
ends_last : (n : ℕ) → ends_from n (frames []) ≡ n ∷ []
unfolding frames
ends_last n = let a : n + 0 ≡ n = omega arith in ap (λ k. k ∷ []) a

-- so they end at the places of its `;`, and at the end of the text
module _ (text : List ℕ) where
  by_byte : (i n : ℕ) (t : Bool) → nat_eq (get_or text i 0) 59 ≡ t → i < length text
      → ends_from (i + 1) (frames (drop (i + 1) text)) ≡ places_from (is_byte 59) text (i + 1) n ++ length text ∷ []
      → ends_from i (frames (drop i text)) ≡ cond t (i ∷ places_from (is_byte 59) text (i + 1) n) (places_from (is_byte 59) text (i + 1) n) ++ length text ∷ []
  by_byte i n true e lt later = ap (λ t. ends_from i (frames t)) (drop_more text i 0 lt) ∙ ends_mark i (get_or text i 0) (drop (i + 1) text) e ∙ ap (λ es. i ∷ es) later
  by_byte i n false e lt later = ap (λ t. ends_from i (frames t)) (drop_more text i 0 lt) ∙ ends_other i (get_or text i 0) (drop (i + 1) text) e ∙ later

  ends_between : (i n : ℕ) → i + n ≡ length text → ends_from i (frames (drop i text)) ≡ places_from (is_byte 59) text i n ++ length text ∷ []
  unfolding places_from
  ends_between i zero e =
      let at : i ≡ length text = omega arith in
      ap (λ t. ends_from i (frames t)) (drop_all i text (omega arith)) ∙ ends_last i ∙ ap (λ k. k ∷ []) at
  ends_between i (suc n) e = by_byte i n (nat_eq (get_or text i 0) 59) refl (omega arith) (ends_between (i + 1) n (omega arith))

  pub ends_places : places (is_byte 59) text ++ length text ∷ [] ≡ ends_from 0 (frames text)
  ends_places = sym (ends_between 0 (length text - 0) (omega arith))

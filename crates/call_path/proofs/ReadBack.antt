-- The text of a good path is read as that path.
use Rattle.std.proofs.Common.{◌≡◌, ℕ, suc, ◌+◌, ◌<◌, ◌≤◌, true, false, not, cond, List, [], ◌∷◌, length, refl, sym, ap, subst, ◌∙◌, arith}
use Rattle.std.specs.Prelude.{Option, None, Some, Ok, All, IsTrue, nat_eq, nat_lt, nat_le, ◌&&◌, ◌==◌, position}
use Rattle.std.specs.List.{slice_split, list_all, position_or_len}
use Rattle.std.proofs.lemmas.Bool.{leb-true, ltb-true, ne_eqb, le-ltb, lt-leb, and_parts, not-true, or_from}
use Rattle.std.proofs.lemmas.List.Elements.{All-nil, All-cons, All-head, All-tail}
use Rattle.std.proofs.lemmas.List.Splits.{slice_split_none, slice_split_at}
use Rattle.call_path.specs.declared.read.PathError.{PathError}
use Rattle.call_path.specs.Path.{Path, path_text}
use Rattle.call_path.specs.Good.{is_plain, is_good_frame, AreGoodFrames, IsGoodPath}
use Rattle.call_path.specs.Reading.{frames, frame_error, first_error, is_control, unless, path_of}
use Rattle.call_path.proofs.Errors.{text-frames, good_text, frames_some}

-- a good frame has bytes, within_limit, and plain
pub record GoodParts (f : List ℕ) : Type 0 where
  pub some : 0 < length f
  pub within_limit : length f ≤ 1023
  pub plain : list_all is_plain f ≡ true

pub good_parts : (f : List ℕ) → IsTrue (is_good_frame f) → GoodParts f
good_parts f h =
    let a = and_parts (nat_lt 0 (length f)) (nat_le (length f) 1023 && list_all is_plain f) h in
    let b = and_parts (nat_le (length f) 1023) (list_all is_plain f) a.1 in
    record { some = ltb-true 0 (length f) a.0; within_limit = leb-true (length f) 1023 b.0; plain = b.1 }

-- a plain byte is no control byte, and no `;`
plain_control : (b : ℕ) → is_plain b ≡ true → is_control b ≡ false
plain_control b h =
    let a = and_parts (nat_le 32 b) (not (nat_eq b 127) && not (nat_eq b 59)) h in
    let d = and_parts (not (nat_eq b 127)) (not (nat_eq b 59)) a.1 in
    or_from (nat_lt b 32) (nat_eq b 127) (le-ltb b 32 (leb-true 32 b a.0)) (not-true (nat_eq b 127) d.0)

pub plain_mark : (b : ℕ) → is_plain b ≡ true → nat_eq b 59 ≡ false
plain_mark b h =
    let a = and_parts (nat_le 32 b) (not (nat_eq b 127) && not (nat_eq b 59)) h in
    not-true (nat_eq b 59) (and_parts (not (nat_eq b 127)) (not (nat_eq b 59)) a.1).1

no_mark : (f : List ℕ) → list_all is_plain f ≡ true → All (λ b. nat_eq b 59 ≡ false) f
no_mark [] h = All-nil (λ b. nat_eq b 59 ≡ false)
no_mark (b ∷ f) h = let a = and_parts (is_plain b) (list_all is_plain f) h in All-cons (λ b. nat_eq b 59 ≡ false) b f (plain_mark b a.0) (no_mark f a.1)

no_control : (f : List ℕ) → list_all is_plain f ≡ true → position_or_len is_control f ≡ length f
no_control [] h = refl
no_control (b ∷ f) h =
    let a = and_parts (is_plain b) (list_all is_plain f) h in
    let e : 1 + length f ≡ suc (length f) = omega arith in
    ap (λ t. cond (not t) (1 + position_or_len is_control f) 0) (plain_control b a.0) ∙ ap (λ n. 1 + n) (no_control f a.1) ∙ e

no_place : (f : List ℕ) → list_all is_plain f ≡ true → position is_control f ≡ None
no_place f h =
    ap (λ n. cond (nat_lt n (length f)) (Some n) None) (no_control f h) ∙ ap (λ t. cond t (Some (length f)) None) (le-ltb (length f) (length f) (omega arith))

-- a good frame has no error where it may stand
no_fault : (i offset : ℕ) (f : List ℕ) → i < 128 → IsTrue (is_good_frame f) → frame_error i offset f ≡ None
unfolding frame_error
no_fault i offset f lt h =
    let parts = good_parts f h in
    let some = parts.some in
    rw (lt-leb 128 i lt, ne_eqb (length f) 0 (λ e. omega arith), le-ltb 1023 (length f) parts.within_limit, no_place f parts.plain) refl

no_faults : (i offset : ℕ) (p : Path) → i + length p ≤ 128 → All (λ f. IsTrue (is_good_frame f)) p → first_error i offset p ≡ None
unfolding first_error
no_faults i offset [] le h = refl
no_faults i offset (f ∷ p) le h =
    rw (no_fault i offset f (omega arith) (All-head (λ f. IsTrue (is_good_frame f)) f p h), first_error)
    (no_faults (suc i) (suc (offset + length f)) p (omega arith) (All-tail (λ f. IsTrue (is_good_frame f)) f p h))

-- the frames of its text are the frames of a path
split_text : (f : List ℕ) (p : Path) → All (λ f. IsTrue (is_good_frame f)) (f ∷ p) → slice_split (λ b. b == 59) (path_text (f ∷ p)) ≡ f ∷ p
split_text f [] h = slice_split_none (λ b. b == 59) f (no_mark f (good_parts f (All-head (λ f. IsTrue (is_good_frame f)) f [] h)).plain)
split_text f (g ∷ p) h =
    slice_split_at (λ b. b == 59) f 59 (path_text (g ∷ p)) (no_mark f (good_parts f (All-head (λ f. IsTrue (is_good_frame f)) f (g ∷ p) h)).plain) refl
    ∙ ap (λ q. f ∷ q) (split_text g p (All-tail (λ f. IsTrue (is_good_frame f)) f (g ∷ p) h))

frames_text : (p : Path) → IsGoodPath p → frames (path_text p) ≡ p
unfolding frames
frames_text [] h = absurd (omega (arith, h.some))
frames_text (f ∷ p) h = split_text f p h.good.good

-- as many good frames with the same text are the same frames
pub same_frames : (p q : Path) → AreGoodFrames p → AreGoodFrames q → length p ≡ length q → path_text p ≡ path_text q → p ≡ q
same_frames [] [] good more long e = refl
same_frames [] (g ∷ q) good more long e = absurd (omega (arith, long))
same_frames (f ∷ p) [] good more long e = absurd (omega (arith, long))
same_frames (f ∷ p) (g ∷ q) good more long e =
    sym (frames_text (f ∷ p) (record { some = omega arith; good = good })) ∙ ap frames e ∙ frames_text (g ∷ q) (record { some = omega arith; good = more })

-- the text of a good path is read as that path
pub good_read : (p : Path) → IsGoodPath p → path_of (path_text p) ≡ Ok p
good_read p h =
    ap (λ q. unless q (first_error 0 0 q)) (frames_text p h)
    ∙ ap (unless p) (no_faults 0 0 p (omega (arith, h.good.within_limit)) h.good.good)

-- what is read is a good path with that text
pub read_good : (text : List ℕ) (p : Path) → path_of text ≡ Ok p → IsGoodPath p × (path_text p ≡ text)
read_good text p is = by_fault (first_error 0 0 (frames text)) refl is
  where
    by_fault : (o : Option PathError) → first_error 0 0 (frames text) ≡ o → unless (frames text) o ≡ Ok p → IsGoodPath p × (path_text p ≡ text)
    by_fault None none e =
        let same : frames text ≡ p = cc in (
          subst IsGoodPath same (record { some = frames_some text; good = good_text text none }),
          ap path_text (sym same) ∙ sym (text-frames text),
        )
    by_fault (Some x) none e = absurd (cc)

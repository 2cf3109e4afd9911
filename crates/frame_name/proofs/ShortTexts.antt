-- A text that is too long, by its ends and its SHA-256, is a text of frames.
use Rattle.std.proofs.Common.{◌≡◌, ℕ, zero, suc, ◌+◌, ◌-◌, ◌*◌, ◌<◌, ◌≤◌, Bool, true, false, cond, List, [], ◌∷◌, ◌++◌, length, take, drop, get_or, refl, sym, ap, ◌∙◌, subst, ⊎_elim, arith}
use Rattle.std.specs.Prelude.{nat_le, nat_lt, reverse, codes}
use Rattle.std.specs.List.{prefix_len, suffix_len}
use Rattle.std.specs.Str.{IsUtf8, IsCharBoundary}
use Rattle.std.proofs.lemmas.Bool.{and_parts, cases_lt, leb-true, leb-false, ltb-true}
use Rattle.std.proofs.lemmas.List.{length-take-le, length-drop, length-append, length-reverse, get_or-take, get_or-drop, get_or-reverse, drop-drop, drop_at}
use Rattle.std.proofs.lemmas.List.Sums.{prefix_len_passes, prefix_len_stops, prefix_len-le-length}
use Rattle.std.proofs.lemmas.Str.{IsUtf8-nil, IsCharBoundary-start, IsCharBoundary-at_seam, IsCharBoundary-from_rest, length-encode, len_utf8_bounds}
use Rattle.std.proofs.Math.Utf8.{encode, encodes, scalars, scalar}
use Rattle.frame_name.specs.Fitted.{is_inside, whole_front, whole_back, digits_of, shortened, within}
use Rattle.frame_name.proofs.FrameTexts.{IsFrameText, ascii_text, append_text, take_text, drop_text, boundary_at}
use Rattle.frame_name.proofs.Digits.{digits_text, digits_len}

-- how many bytes at the end of the first n + 1 are inside of characters
abbrev pub inside_len : ℕ → List ℕ → ℕ
inside_len n text = suffix_len is_inside (take (n + 1) text)

-- the byte at the k-th place from the end of the first n + 1
from_end : (n k : ℕ) (text : List ℕ) → n < length text → k ≤ n → get_or (reverse (take (n + 1) text)) k 0 ≡ get_or text (n - k) 0
from_end n k text h le =
    let len = length-take-le (n + 1) text (omega arith) in
    get_or-reverse (take (n + 1) text) k 0 (omega arith)
    ∙ get_or-take (n + 1) text (length (take (n + 1) text) - 1 - k) 0 (omega arith)
    ∙ ap (λ i. get_or text i 0) (omega arith)

front_boundary : (n : ℕ) (text : List ℕ) → n < length text → IsUtf8 text → IsCharBoundary text (n - inside_len n text)
front_boundary n text h u = ⊎_elim
    (λ all. subst (λ i. IsCharBoundary text i) (omega arith) (IsCharBoundary-start text u))
    (λ some. boundary_at text (n - inside_len n text) (omega arith)
    (λ _. ap is_inside (sym (from_end n (inside_len n text) text h some))
    ∙ prefix_len_stops is_inside (reverse (take (n + 1) text)) 0
    (let len = length-take-le (n + 1) text (omega arith) in omega (arith, length-reverse (take (n + 1) text)))))
    (cases_lt n (inside_len n text))

-- a character has at most four bytes, so that one begins at one of four places in a row
begins_before : (cs : List ℕ) (n : ℕ) → scalars cs ≡ true → n ≤ length (encodes cs) → (j : ℕ) × (j ≤ n) × (n ≤ j + 3) × IsCharBoundary (encodes cs) j
begins_before [] n h le = (0, omega arith, omega arith, IsCharBoundary-start [] IsUtf8-nil)
begins_before (c ∷ cs) n h le =
    let parts = and_parts (scalar c) (scalars cs) h in
    let len = length-encode c in
    let bounds = len_utf8_bounds c in
    let whole = length-append (encode c) (encodes cs) in
    ⊎_elim
    (λ low. (0, omega arith, omega (arith, low, len, bounds), IsCharBoundary-start (encodes (c ∷ cs)) (c ∷ cs, (h, refl))))
    (λ high. let r = begins_before cs (n - length (encode c)) parts.1 (omega arith) in (
      length (encode c) + r.0,
      omega (arith, r.1, high),
      omega (arith, r.2, high),
      IsCharBoundary-from_rest (encodes (c ∷ cs)) (length (encode c)) r.0 (omega arith)
          (subst (λ t. IsCharBoundary t r.0) (sym (drop_at (encode c) (encodes cs) (length (encode c)) refl)) r.3),
    ))
    (cases_lt n (length (encode c)))

begins_behind : (cs : List ℕ) (n : ℕ) → scalars cs ≡ true → n ≤ length (encodes cs) → (j : ℕ) × (n ≤ j) × (j ≤ n + 3) × IsCharBoundary (encodes cs) j
begins_behind [] n h le = (0, omega arith, omega arith, IsCharBoundary-start [] IsUtf8-nil)
begins_behind (c ∷ cs) zero h le = (0, omega arith, omega arith, IsCharBoundary-start (encodes (c ∷ cs)) (c ∷ cs, (h, refl)))
begins_behind (c ∷ cs) (suc n) h le =
    let parts = and_parts (scalar c) (scalars cs) h in
    let len = length-encode c in
    let bounds = len_utf8_bounds c in
    let whole = length-append (encode c) (encodes cs) in
    ⊎_elim
    (λ low. (
      length (encode c),
      omega (arith, low),
      omega (arith, low, len, bounds),
      IsCharBoundary-at_seam (encodes (c ∷ cs)) (encode c) (encodes cs) refl (cs, (parts.1, refl)),
    ))
    (λ high. let r = begins_behind cs (suc n - length (encode c)) parts.1 (omega arith) in (
      length (encode c) + r.0,
      omega (arith, r.1, high),
      omega (arith, r.2, high),
      IsCharBoundary-from_rest (encodes (c ∷ cs)) (length (encode c)) r.0 (omega arith)
          (subst (λ t. IsCharBoundary t r.0) (sym (drop_at (encode c) (encodes cs) (length (encode c)) refl)) r.3),
    ))
    (cases_lt (suc n) (length (encode c)))

-- no character begins inside of one
not_inside : (text : List ℕ) (j : ℕ) → j < length text → IsCharBoundary text j → is_inside (get_or text j 0) ≡ true → ⊥
not_inside text j h b e =
    let parts = and_parts (nat_le 128 (get_or text j 0)) (nat_lt (get_or text j 0) 192) e in
    omega (arith, b.1 h (leb-true 128 (get_or text j 0) parts.0), ltb-true (get_or text j 0) 192 parts.1)

pub front_len : (n : ℕ) (text : List ℕ) → n < length text → IsUtf8 text → (length (whole_front n text) ≤ n) × (n ≤ length (whole_front n text) + 3)
front_len n text h u =
    let len = length-take-le (n - inside_len n text) text (omega arith) in
    let near : (j : ℕ) × (j ≤ n) × (n ≤ j + 3) × IsCharBoundary text j = subst (λ t. n ≤ length t → (j : ℕ) × (j ≤ n) × (n ≤ j + 3) × IsCharBoundary t j) u.1.1 (begins_before u.0 n u.1.0) (omega arith) in (
      omega arith,
      ⊎_elim
          (λ inside. absurd (not_inside text near.0 (omega (arith, near.1)) near.3
          (ap is_inside (ap (λ i. get_or text i 0) (omega (arith, near.1)) ∙ sym (from_end n (n - near.0) text h (omega arith)))
          ∙ prefix_len_passes is_inside (reverse (take (n + 1) text)) (n - near.0) 0 (omega (arith, inside, near.1)))))
          (λ e. omega (arith, e, near.2, len))
          (cases_lt (n - inside_len n text) near.0),
    )

pub front_text : (n : ℕ) (text : List ℕ) → n < length text → IsFrameText text → IsFrameText (whole_front n text)
front_text n text h t = take_text (n - inside_len n text) text t (front_boundary n text h t.utf8)

-- where the whole characters among the last n bytes begin
abbrev pub back_start : ℕ → List ℕ → ℕ
back_start n text = (length text - n) + prefix_len is_inside (drop (length text - n) text)

pub back_is : (n : ℕ) (text : List ℕ) → whole_back n text ≡ drop (back_start n text) text
back_is n text = drop-drop (prefix_len is_inside (drop (length text - n) text)) (length text - n) text

back_boundary : (n : ℕ) (text : List ℕ) → n < length text → IsCharBoundary text (back_start n text)
back_boundary n text h =
    let rest = drop (length text - n) text in
    let len = length-drop (length text - n) text in
    let some = prefix_len-le-length is_inside rest in
    boundary_at text (back_start n text) (omega arith)
    (λ l. ap is_inside (sym (get_or-drop (length text - n) text (prefix_len is_inside rest) 0))
    ∙ prefix_len_stops is_inside rest 0 (omega arith))

pub back_text : (n : ℕ) (text : List ℕ) → n < length text → IsFrameText text → IsFrameText (whole_back n text)
back_text n text h t = subst IsFrameText (sym (back_is n text)) (drop_text (back_start n text) text t (back_boundary n text h))

pub back_len : (n : ℕ) (text : List ℕ) → n < length text → IsUtf8 text → (length (whole_back n text) ≤ n) × (n ≤ length (whole_back n text) + 3)
back_len n text h u =
    let start = length text - n in
    let rest = drop start text in
    let len = length-drop start text in
    let some = prefix_len-le-length is_inside rest in
    let back = length-drop (prefix_len is_inside rest) rest in
    let near : (j : ℕ) × (start ≤ j) × (j ≤ start + 3) × IsCharBoundary text j = subst (λ t. start ≤ length t → (j : ℕ) × (start ≤ j) × (j ≤ start + 3) × IsCharBoundary t j) u.1.1 (begins_behind u.0 start u.1.0) (omega arith) in (
      omega arith,
      ⊎_elim
          (λ inside. absurd (not_inside text near.0 (omega (arith, inside, some, len, near.1)) near.3
          (ap is_inside (ap (λ i. get_or text i 0) (omega (arith, near.1)) ∙ sym (get_or-drop start text (near.0 - start) 0))
          ∙ prefix_len_passes is_inside rest (near.0 - start) 0 (omega (arith, inside, near.1)))))
          (λ e. omega (arith, e, near.2, near.1, len, back, some))
          (cases_lt near.0 (start + prefix_len is_inside rest)),
    )

pub short_text : (n : ℕ) (text : List ℕ) → n < length text → IsFrameText text → IsFrameText (shortened n text)
unfolding shortened
short_text n text h t =
    append_text (whole_front n text ++ codes "..(" ++ digits_of text ++ codes ")..") (whole_back n text)
    (append_text (whole_front n text ++ codes "..(" ++ digits_of text) (codes ")..")
    (append_text (whole_front n text ++ codes "..(") (digits_of text)
    (append_text (whole_front n text) (codes "..(") (front_text n text h t) (ascii_text (codes "..(") refl refl))
    (digits_text text))
    (ascii_text (codes ")..") refl refl))
    (back_text n text h t)

pub short_len : (n : ℕ) (text : List ℕ) → n < length text → IsUtf8 text → (length (shortened n text) ≤ 2 * n + 70) × (70 ≤ length (shortened n text))
unfolding shortened
short_len n text h u =
    let whole = length-append (whole_front n text ++ codes "..(" ++ digits_of text ++ codes ")..") (whole_back n text) in
    let three = length-append (whole_front n text ++ codes "..(" ++ digits_of text) (codes ")..") in
    let two = length-append (whole_front n text ++ codes "..(") (digits_of text) in
    let one = length-append (whole_front n text) (codes "..(") in
    let front = (front_len n text h u).0 in
    let back = (back_len n text h u).0 in
    let digits = digits_len text in
    (omega arith, omega arith)

pub within_text : (most n : ℕ) (text : List ℕ) → n ≤ most → IsFrameText text → IsFrameText (within most n text)
unfolding within
within_text most n text h t = by (nat_le (length text) most) refl
  where
    by : (fits : Bool) → nat_le (length text) most ≡ fits → IsFrameText (cond fits text (shortened n text))
    by true e = t
    by false e = short_text n text (omega (arith, h, leb-false (length text) most e)) t

pub within_len : (most n : ℕ) (text : List ℕ) → 2 * n + 70 ≤ most → IsUtf8 text → length (within most n text) ≤ most
unfolding within
within_len most n text h u = by (nat_le (length text) most) refl
  where
    by : (fits : Bool) → nat_le (length text) most ≡ fits → length (cond fits text (shortened n text)) ≤ most
    by true e = leb-true (length text) most e
    by false e = omega (arith, h, (short_len n text (omega (arith, h, leb-false (length text) most e)) u).0)

pub within_some : (most n : ℕ) (text : List ℕ) → n ≤ most → IsUtf8 text → 0 < length text → 0 < length (within most n text)
unfolding within
within_some most n text h u s = by (nat_le (length text) most) refl
  where
    by : (fits : Bool) → nat_le (length text) most ≡ fits → 0 < length (cond fits text (shortened n text))
    by true e = s
    by false e = omega (arith, (short_len n text (omega (arith, h, leb-false (length text) most e)) u).1)

-- Texts of plain bytes in UTF-8, as frames have them: what is made of such texts.
use Rattle.std.proofs.Common.{◌≡◌, ℕ, zero, suc, ◌-◌, ◌<◌, ◌≤◌, Bool, true, false, List, [], ◌∷◌, ◌++◌, length, take, drop, get_or, map, refl, sym, ap, ◌∙◌, subst, ⊎_elim, arith, add-one}
use Rattle.std.specs.Prelude.{nat_lt, nat_le, reverse}
use Rattle.std.specs.List.{list_all, prefix_len, suffix_len}
use Rattle.std.specs.Str.{IsUtf8, IsAscii, IsCharBoundary}
use Rattle.std.proofs.lemmas.Bool.{and_parts, and_from, and_cases, cases_lt, ltb-true, leb-false, ltb-false}
use Rattle.std.proofs.lemmas.List.{ext_get_or, get_or-map, get_or-reverse, length-map, map-append, append-nil}
use Rattle.std.proofs.lemmas.List.Folds.{list_all-append}
use Rattle.std.proofs.lemmas.List.Sums.{prefix_len_passes, prefix_len-le-length, suffix_len-le-length}
use Rattle.std.proofs.lemmas.Str.{IsUtf8-nil, IsUtf8-append, IsUtf8-take, IsUtf8-drop, IsUtf8-from_ascii, IsCharBoundary-start, IsCharBoundary-end, IsCharBoundary-before_ascii, IsCharBoundary-after_ascii, encode_ascii, inside_one}
use Rattle.std.proofs.Math.Utf8.{encode, encodes, scalars, scalar}
use Rattle.call_path.specs.Good.{is_plain}
use Rattle.frame_name.specs.Fitted.{is_inside}

pub record IsFrameText (text : List ℕ) : Type 0 where
  pub plain : list_all is_plain text ≡ true
  pub utf8 : IsUtf8 text

abbrev pub is_low : ℕ → Bool
is_low b = nat_lt b 128

low_from : (text : List ℕ) → list_all is_low text ≡ true → IsAscii text
low_from [] h i = omega arith
low_from (b ∷ text) h zero = ltb-true b 128 (and_parts (is_low b) (list_all is_low text) h).0
low_from (b ∷ text) h (suc i) = low_from text (and_parts (is_low b) (list_all is_low text) h).1 i

-- a text that is written out, by `refl` twice
pub ascii_text : (text : List ℕ) → list_all is_plain text ≡ true → list_all is_low text ≡ true → IsFrameText text
ascii_text text p l = record { plain = p; utf8 = IsUtf8-from_ascii text (low_from text l) }

pub append_text : (a b : List ℕ) → IsFrameText a → IsFrameText b → IsFrameText (a ++ b)
append_text a b h k = record {
  plain = list_all-append is_plain a b ∙ and_from (list_all is_plain a) (list_all is_plain b) h.plain k.plain;
  utf8 = IsUtf8-append a b h.utf8 k.utf8;
}

pub all_taken : (test : ℕ → Bool) (n : ℕ) (text : List ℕ) → list_all test text ≡ true → list_all test (take n text) ≡ true
all_taken test zero text h = refl
all_taken test (suc n) [] h = refl
all_taken test (suc n) (b ∷ text) h =
    let parts = and_parts (test b) (list_all test text) h in
    and_from (test b) (list_all test (take n text)) parts.0 (all_taken test n text parts.1)

pub all_left : (test : ℕ → Bool) (n : ℕ) (text : List ℕ) → list_all test text ≡ true → list_all test (drop n text) ≡ true
all_left test zero text h = h
all_left test (suc n) [] h = refl
all_left test (suc n) (b ∷ text) h = all_left test n text (and_parts (test b) (list_all test text) h).1

pub all_joined : (test : ℕ → Bool) (a b : List ℕ) → list_all test a ≡ true → list_all test b ≡ true → list_all test (a ++ b) ≡ true
all_joined test a b h k = list_all-append test a b ∙ and_from (list_all test a) (list_all test b) h k

pub take_text : (n : ℕ) (text : List ℕ) → IsFrameText text → IsCharBoundary text n → IsFrameText (take n text)
take_text n text h b = record { plain = all_taken is_plain n text h.plain; utf8 = IsUtf8-take text n h.utf8 b }

pub drop_text : (n : ℕ) (text : List ℕ) → IsFrameText text → IsCharBoundary text n → IsFrameText (drop n text)
drop_text n text h b = record { plain = all_left is_plain n text h.plain; utf8 = IsUtf8-drop text n h.utf8 b }

-- where the first bytes that pass a test of ASCII end, a character begins
pub boundary_behind : (test : ℕ → Bool) → ((b : ℕ) → test b ≡ true → b < 128) → (text : List ℕ) → IsUtf8 text → IsCharBoundary text (prefix_len test text)
boundary_behind test low text u = at (prefix_len test text) refl
  where
    at : (n : ℕ) → prefix_len test text ≡ n → IsCharBoundary text n
    at zero e = IsCharBoundary-start text u
    at (suc n) e =
        let whole = prefix_len-le-length test text in
        subst (λ i. IsCharBoundary text i) (add-one n)
        (IsCharBoundary-after_ascii text n u (omega (arith, e, whole))
        (low (get_or text n 0) (prefix_len_passes test text n 0 (omega (arith, e)))))

-- and where the last ones begin, too
pub boundary_before : (test : ℕ → Bool) → ((b : ℕ) → test b ≡ true → b < 128) → (text : List ℕ) → IsCharBoundary text (length text - suffix_len test text)
boundary_before test low text = at (suffix_len test text) refl
  where
    at : (n : ℕ) → suffix_len test text ≡ n → IsCharBoundary text (length text - n)
    at zero e = subst (λ i. IsCharBoundary text i) (omega arith) (IsCharBoundary-end text)
    at (suc n) e =
        let whole = suffix_len-le-length test text in
        IsCharBoundary-before_ascii text (length text - suc n) (omega (arith, e, whole))
        (low (get_or text (length text - suc n) 0)
        (ap test (ap (λ i. get_or text i 0) (omega arith) ∙ sym (get_or-reverse text n 0 (omega (arith, e, whole))))
        ∙ prefix_len_passes test (reverse text) n 0 (omega (arith, e))))

-- a byte that isn't inside of a character begins one
pub boundary_at : (text : List ℕ) (i : ℕ) → i ≤ length text → (i < length text → is_inside (get_or text i 0) ≡ false) → IsCharBoundary text i
boundary_at text i within out = (
  within,
  λ h high. ⊎_elim
      (λ e. absurd (omega (arith, leb-false 128 (get_or text i 0) e, high)))
      (λ e. ltb-false (get_or text i 0) 192 e)
      (and_cases (nat_le 128 (get_or text i 0)) (nat_lt (get_or text i 0) 192) (out h)),
)

-- a byte by byte change of ASCII leaves UTF-8
same_high : (f : ℕ → ℕ) → ((b : ℕ) → 128 ≤ b → f b ≡ b) → (c : ℕ) → 128 ≤ c → map f (encode c) ≡ encode c
same_high f stays c high =
    ext_get_or 0 (map f (encode c)) (encode c) (length-map (encode c) f)
    (λ i h. let inside : i < length (encode c) = omega (arith, h, length-map (encode c) f) in
    get_or-map f (encode c) i 0 0 inside
    ∙ stays (get_or (encode c) i 0)
    (⊎_elim (λ low. absurd (omega (arith, low, high, inside_one c [] (encode c) i (sym (append-nil (encode c))) inside low)))
    (λ e. e) (cases_lt (get_or (encode c) i 0) 128)))

one_char : (f : ℕ → ℕ) → ((b : ℕ) → b < 128 → f b < 128) → ((b : ℕ) → 128 ≤ b → f b ≡ b) → (c : ℕ) → scalar c ≡ true → IsUtf8 (map f (encode c))
one_char f low stays c h =
    ⊎_elim
    (λ small. subst (λ t. IsUtf8 (map f t)) (sym (encode_ascii c small)) (IsUtf8-from_ascii (f c ∷ []) (single (f c) (low c small))))
    (λ high. subst IsUtf8 (sym (same_high f stays c high)) (c ∷ [], (and_from (scalar c) true h refl, append-nil (encode c))))
    (cases_lt c 128)
  where
    single : (b : ℕ) → b < 128 → IsAscii (b ∷ [])
    single b e zero = e
    single b e (suc i) = omega arith

each_char : (f : ℕ → ℕ) → ((b : ℕ) → b < 128 → f b < 128) → ((b : ℕ) → 128 ≤ b → f b ≡ b) → (cs : List ℕ) → scalars cs ≡ true → IsUtf8 (map f (encodes cs))
each_char f low stays [] h = IsUtf8-nil
each_char f low stays (c ∷ cs) h =
    let parts = and_parts (scalar c) (scalars cs) h in
    subst IsUtf8 (sym (map-append f (encode c) (encodes cs)))
    (IsUtf8-append (map f (encode c)) (map f (encodes cs)) (one_char f low stays c parts.0) (each_char f low stays cs parts.1))

pub map_utf8 : (f : ℕ → ℕ) → ((b : ℕ) → b < 128 → f b < 128) → ((b : ℕ) → 128 ≤ b → f b ≡ b) → (text : List ℕ) → IsUtf8 text → IsUtf8 (map f text)
map_utf8 f low stays text u = subst (λ t. IsUtf8 (map f t)) u.1.1 (each_char f low stays u.0 u.1.0)

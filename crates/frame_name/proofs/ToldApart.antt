-- Of two texts that are shown alike the digits are at one place.
use Rattle.std.proofs.Common.{◌≡◌, ◌⊎◌, ℕ, zero, suc, ◌+◌, ◌-◌, ◌<◌, ◌≤◌, Bool, true, false, cond, List, [], ◌∷◌, ◌++◌, length, take, drop, get_or, refl, sym, ap, ◌∙◌, subst, ⊎_elim, inl, inr, arith, append_assoc}
use Rattle.std.specs.Prelude.{◌&&◌, not, nat_eq, nat_le, codes}
use Rattle.std.specs.List.{list_all}
use Rattle.std.specs.Str.{IsUtf8}
use Rattle.std.proofs.lemmas.Bool.{and_parts, cases_lt, leb-false, eqb-false, not-true}
use Rattle.std.proofs.lemmas.List.{get_or-append-add, get_or_append_left, drop-drop, drop_at, take_at}
use Rattle.sha2.specs.Sha256.{sha256}
use Rattle.call_path.specs.Good.{is_plain}
use Rattle.frame_name.specs.Fitted.{whole_front, whole_back, digits_of, shortened, within, fitted, LooksShortened}
use Rattle.frame_name.proofs.FrameTexts.{is_low}
use Rattle.frame_name.proofs.ShortTexts.{front_len, back_len}
use Rattle.frame_name.proofs.Digits.{is_digit, digits_digits, digits_len, digits_tell}

-- two dots, a parenthesis and a digit
record HasMark (text : List ℕ) (i : ℕ) : Type 0 where
  first : get_or text i 0 ≡ 46
  second : get_or text (i + 1) 0 ≡ 46
  third : get_or text (i + 2) 0 ≡ 40
  fourth : get_or text (i + 3) 0 ≡ 46 → ⊥

near_marks : (text : List ℕ) (i j : ℕ) → HasMark text i → HasMark text j → i ≤ j → j ≤ i + 3 → i ≡ j
near_marks text i j a b le near = by (j - i) refl
  where
    at : (k : ℕ) → j - i ≡ k → j ≡ i + k
    at k e = omega (arith, e, le)

    by : (k : ℕ) → j - i ≡ k → i ≡ j
    by zero e = omega (arith, at 0 e)
    by (suc zero) e =
        let same : get_or text (i + 2) 0 ≡ get_or text (j + 1) 0 = ap (λ n. get_or text n 0) (omega (arith, at 1 e)) in
        absurd (omega (arith, a.third, b.second, same))
    by (suc (suc zero)) e =
        let same : get_or text (i + 2) 0 ≡ get_or text j 0 = ap (λ n. get_or text n 0) (omega (arith, at 2 e)) in
        absurd (omega (arith, a.third, b.first, same))
    by (suc (suc (suc zero))) e =
        let same : get_or text (i + 3) 0 ≡ get_or text j 0 = ap (λ n. get_or text n 0) (omega (arith, at 3 e)) in
        absurd (a.fourth (same ∙ b.first))
    by (suc (suc (suc (suc k)))) e = absurd (omega (arith, e, near))

digit_first : (digits : List ℕ) → list_all is_digit digits ≡ true → 0 < length digits → get_or digits 0 0 ≡ 46 → ⊥
digit_first [] h s e = omega (arith, e)
digit_first (d ∷ digits) h s e =
    let one = and_parts (is_digit d) (list_all is_digit digits) h in
    let rest = and_parts (is_plain d) (is_low d && not (nat_eq d 46)) one.0 in
    eqb-false d 46 (not-true (nat_eq d 46) (and_parts (is_low d) (not (nat_eq d 46)) rest.1).1) e

marked : (text front digits rest : List ℕ) → text ≡ front ++ (46 ∷ 46 ∷ 40 ∷ (digits ++ rest)) → list_all is_digit digits ≡ true → length digits ≡ 64 → HasMark text (length front)
marked text front digits rest e h len = record {
  first = ap (λ t. get_or t (length front) 0) e ∙ ap (λ i. get_or (front ++ behind) i 0) (omega arith) ∙ get_or-append-add front behind 0 0;
  second = ap (λ t. get_or t (length front + 1) 0) e ∙ get_or-append-add front behind 1 0;
  third = ap (λ t. get_or t (length front + 2) 0) e ∙ get_or-append-add front behind 2 0;
  fourth = λ f. digit_first digits h (omega (arith, len))
      (sym (get_or_append_left digits rest 0 0 (omega (arith, len))) ∙ sym (get_or-append-add front behind 3 0) ∙ sym (ap (λ t. get_or t (length front + 3) 0) e) ∙ f);
}
  where
    behind : List ℕ
    behind = 46 ∷ 46 ∷ 40 ∷ (digits ++ rest)

digits_at : (text front digits rest : List ℕ) → text ≡ front ++ (46 ∷ 46 ∷ 40 ∷ (digits ++ rest)) → length digits ≡ 64 → take 64 (drop (length front + 3) text) ≡ digits
digits_at text front digits rest e len =
    ap (λ t. take 64 (drop (length front + 3) t)) e
    ∙ ap (take 64) (sym (drop-drop 3 (length front) (front ++ (46 ∷ 46 ∷ 40 ∷ (digits ++ rest)))) ∙ ap (drop 3) (drop_at front (46 ∷ 46 ∷ 40 ∷ (digits ++ rest)) (length front) refl))
    ∙ take_at digits rest 64 len

-- how a shortened text is made
made : (n : ℕ) (text : List ℕ) → shortened n text ≡ whole_front n text ++ (46 ∷ 46 ∷ 40 ∷ (digits_of text ++ (codes ").." ++ whole_back n text)))
unfolding shortened
made n text = simp append_assoc

same_digits : (n : ℕ) (a b : List ℕ) → n < length a → n < length b → IsUtf8 a → IsUtf8 b → shortened n a ≡ shortened n b → digits_of a ≡ digits_of b
same_digits n a b la lb ua ub e =
    let fa = front_len n a la ua in
    let fb = front_len n b lb ub in
    let front_a = whole_front n a in
    let front_b = whole_front n b in
    let rest_a = codes ").." ++ whole_back n a in
    let rest_b = codes ").." ++ whole_back n b in
    let ea = made n a in
    let eb = e ∙ made n b in
    let ma = marked (shortened n a) front_a (digits_of a) rest_a ea (digits_digits a) (digits_len a) in
    let mb = marked (shortened n a) front_b (digits_of b) rest_b eb (digits_digits b) (digits_len b) in
    let same : length front_a ≡ length front_b = ⊎_elim
    (λ lt. near_marks (shortened n a) (length front_a) (length front_b) ma mb (omega (arith, lt)) (omega (arith, fa.1, fb.0)))
    (λ le. sym (near_marks (shortened n a) (length front_b) (length front_a) mb ma le (omega (arith, fb.1, fa.0))))
    (cases_lt (length front_a) (length front_b)) in
    sym (digits_at (shortened n a) front_a (digits_of a) rest_a ea (digits_len a))
    ∙ ap (λ k. take 64 (drop (k + 3) (shortened n a))) same
    ∙ digits_at (shortened n a) front_b (digits_of b) rest_b eb (digits_len b)

looks_so : (n : ℕ) (text : List ℕ) → n < length text → IsUtf8 text → LooksShortened n (shortened n text) (whole_front n text) (digits_of text) (whole_back n text)
unfolding shortened
looks_so n text h u = record {
  parts = refl;
  front_len = (front_len n text h u).0;
  digits_len = digits_len text;
  back_len = (back_len n text h u).0;
}

abbrev LooksLong : List ℕ → Type 0
LooksLong text = (front digits back : List ℕ) → LooksShortened 320 text front digits back → ⊥

pub told_apart : (a b : List ℕ) → IsUtf8 a → IsUtf8 b → LooksLong a → LooksLong b → fitted a ≡ fitted b → (a ≡ b) ⊎ (sha256 a ≡ sha256 b)
unfolding within
told_apart a b ua ub na nb = by (nat_le (length a) 740) (nat_le (length b) 740) refl refl
  where
    long : (text : List ℕ) → nat_le (length text) 740 ≡ false → 320 < length text
    long text e = omega (arith, leb-false (length text) 740 e)

    by : (short_a short_b : Bool) → nat_le (length a) 740 ≡ short_a → nat_le (length b) 740 ≡ short_b → cond short_a a (shortened 320 a) ≡ cond short_b b (shortened 320 b) → (a ≡ b) ⊎ (sha256 a ≡ sha256 b)
    by true true e f h = inl h
    by true false e f h = absurd (na (whole_front 320 b) (digits_of b) (whole_back 320 b) (subst (λ t. LooksShortened 320 t (whole_front 320 b) (digits_of b) (whole_back 320 b)) (sym h) (looks_so 320 b (long b f) ub)))
    by false true e f h = absurd (nb (whole_front 320 a) (digits_of a) (whole_back 320 a) (subst (λ t. LooksShortened 320 t (whole_front 320 a) (digits_of a) (whole_back 320 a)) h (looks_so 320 a (long a e) ua)))
    by false false e f h = inr (digits_tell a b (same_digits 320 a b (long a e) (long b f) ua ub h))

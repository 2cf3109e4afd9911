-- A path with fewer frames is a function of one with more.
use Rattle.std.proofs.Common.{◌≡◌, ◌∙◌, ℕ, ◌+◌, ◌-◌, ◌<◌, ◌≤◌, Bool, true, false, cond, [], ◌∷◌, ◌++◌, refl, ap, sym, take, drop, length, get_or, arith}
use Rattle.std.specs.Prelude.{nat_le}
use Rattle.std.proofs.Math.Seq.{drop-append_seam}
use Rattle.std.proofs.lemmas.Bool.{leb-true, leb-false, le-leb, lt-leb, true≢false}
use Rattle.std.proofs.lemmas.List.{get_or-drop, length-append, length-drop, length-take-le, take-append-le, take-take}
use Rattle.call_path.specs.Path.{Path}
use Rattle.frame_name.specs.Plain.{is_remark}
use Rattle.stack_path.specs.Ends.{both_ends, left_out, ends_with_remark, cut_to}
use Rattle.stack_path.proofs.EndViews.{short_path, long_path}

cut_none : (d : ℕ) (p : Path) → length p ≤ d → cut_to d p ≡ p
unfolding cut_to
cut_none d p fits =
    ap (λ b. cond b p (cond (ends_with_remark p) (take (d - 1) p ++ drop (length p - 1) p) (take d p))) (le-leb (length p) d fits)

cut_some : (d : ℕ) (p : Path) → d < length p → cut_to d p ≡ cond (ends_with_remark p) (take (d - 1) p ++ drop (length p - 1) p) (take d p)
unfolding cut_to
cut_some d p more =
    ap (λ b. cond b p (cond (ends_with_remark p) (take (d - 1) p ++ drop (length p - 1) p) (take d p))) (lt-leb (length p) d more)

cut_remark : (d : ℕ) (p : Path) → d < length p → ends_with_remark p ≡ true → cut_to d p ≡ take (d - 1) p ++ drop (length p - 1) p
cut_remark d p more h = cut_some d p more ∙ ap (λ b. cond b (take (d - 1) p ++ drop (length p - 1) p) (take d p)) h

cut_other : (d : ℕ) (p : Path) → d < length p → ends_with_remark p ≡ false → cut_to d p ≡ take d p
cut_other d p more h = cut_some d p more ∙ ap (λ b. cond b (take (d - 1) p ++ drop (length p - 1) p) (take d p)) h

first_left : (k : ℕ) (p : Path) → get_or (drop k p) 0 [] ≡ get_or p k []
first_left k p = let at : k + 0 ≡ k = omega arith in get_or-drop k p 0 [] ∙ ap (λ n. get_or p n []) at

-- whether a path ends with a remark rests on its last frame
by_last : (p q : Path) → drop (length q - 1) q ≡ drop (length p - 1) p → ends_with_remark q ≡ ends_with_remark p
by_last p q e =
    ap is_remark (sym (first_left (length q - 1) q) ∙ ap (λ t. get_or t 0 []) e ∙ first_left (length p - 1) p)

-- a path with a remark at its end
module _ (d e : ℕ) (p : Path) (some : 0 < d) (fewer : d ≤ e) (more : e < length p) where
  outer_len : length (take (e - 1) p) ≡ e - 1
  outer_len = length-take-le (e - 1) p (omega (arith, more))

  remark_len : length (take (e - 1) p ++ drop (length p - 1) p) ≡ e
  remark_len = omega (arith, some, fewer, more, outer_len, length-append (take (e - 1) p) (drop (length p - 1) p), length-drop (length p - 1) p)

  remark_last : drop (length (take (e - 1) p ++ drop (length p - 1) p) - 1) (take (e - 1) p ++ drop (length p - 1) p) ≡ drop (length p - 1) p
  remark_last =
      let at : length (take (e - 1) p ++ drop (length p - 1) p) - 1 ≡ length (take (e - 1) p) = omega (arith, remark_len, outer_len) in
      ap (λ k. drop k (take (e - 1) p ++ drop (length p - 1) p)) at ∙ drop-append_seam (take (e - 1) p) (drop (length p - 1) p)

  remark_outer : take (d - 1) (take (e - 1) p ++ drop (length p - 1) p) ≡ take (d - 1) p
  remark_outer =
      take-append-le (d - 1) (take (e - 1) p) (drop (length p - 1) p) (omega (arith, fewer, outer_len))
      ∙ take-take (d - 1) (e - 1) p (omega (arith, fewer))

  with_remark_twice : ends_with_remark p ≡ true → cut_to d (cut_to e p) ≡ cut_to d p
  with_remark_twice h = ap (cut_to d) (cut_remark e p more h) ∙ by_test (nat_le e d) refl
    where
      by_test : (t : Bool) → nat_le e d ≡ t → cut_to d (take (e - 1) p ++ drop (length p - 1) p) ≡ cut_to d p
      by_test true le =
          let back : e ≤ d = leb-true e d le in
          let same : e ≡ d = omega (arith, back, fewer) in
          cut_none d (take (e - 1) p ++ drop (length p - 1) p) (omega (arith, remark_len, back))
          ∙ ap (λ k. take (k - 1) p ++ drop (length p - 1) p) same
          ∙ sym (cut_remark d p (omega (arith, fewer, more)) h)
      by_test false le =
          let lt : d < e = leb-false e d le in
          cut_remark d (take (e - 1) p ++ drop (length p - 1) p) (omega (arith, remark_len, lt))
          (by_last p (take (e - 1) p ++ drop (length p - 1) p) remark_last ∙ h)
          ∙ ap (λ t. t ++ drop (length (take (e - 1) p ++ drop (length p - 1) p) - 1) (take (e - 1) p ++ drop (length p - 1) p)) remark_outer
          ∙ ap (λ t. take (d - 1) p ++ t) remark_last
          ∙ sym (cut_remark d p (omega (arith, fewer, more)) h)

  without_remark_twice : ends_with_remark p ≡ false → ends_with_remark (take e p) ≡ false → cut_to d (cut_to e p) ≡ cut_to d p
  without_remark_twice h k = ap (cut_to d) (cut_other e p more h) ∙ by_test (nat_le e d) refl
    where
      size : length (take e p) ≡ e
      size = length-take-le e p (omega (arith, more))

      by_test : (t : Bool) → nat_le e d ≡ t → cut_to d (take e p) ≡ cut_to d p
      by_test true le =
          let back : e ≤ d = leb-true e d le in
          let same : e ≡ d = omega (arith, back, fewer) in
          cut_none d (take e p) (omega (arith, size, back))
          ∙ ap (λ k. take k p) same
          ∙ sym (cut_other d p (omega (arith, fewer, more)) h)
      by_test false le =
          let lt : d < e = leb-false e d le in
          cut_other d (take e p) (omega (arith, size, lt)) k
          ∙ take-take d e p fewer
          ∙ sym (cut_other d p (omega (arith, fewer, more)) h)

  by_end : (t u : Bool) → ends_with_remark p ≡ t → ends_with_remark (take e p) ≡ u →
      (ends_with_remark (take e p) ≡ true → ends_with_remark p ≡ true) → cut_to d (cut_to e p) ≡ cut_to d p
  by_end true u h k only = with_remark_twice h
  by_end false true h k only = absurd (true≢false (sym (only k) ∙ h))
  by_end false false h k only = without_remark_twice h k

pub cut_twice : (d e : ℕ) (p : Path) → 0 < d → d ≤ e → (ends_with_remark (take e p) ≡ true → ends_with_remark p ≡ true) →
    cut_to d (cut_to e p) ≡ cut_to d p
cut_twice d e p some fewer only = by_test (nat_le (length p) e) refl
  where
    by_test : (t : Bool) → nat_le (length p) e ≡ t → cut_to d (cut_to e p) ≡ cut_to d p
    by_test true le = ap (cut_to d) (cut_none e p (leb-true (length p) e le))
    by_test false le =
        by_end d e p some fewer (leb-false (length p) e le) (ends_with_remark p) (ends_with_remark (take e p)) refl refl only

pub cut_len : (d : ℕ) (p : Path) → 0 < d → length (cut_to d p) ≤ d
cut_len d p some = by_test (nat_le (length p) d) refl
  where
    by_end : (t : Bool) → ends_with_remark p ≡ t → d < length p → length (cut_to d p) ≤ d
    by_end true h more = omega (arith, ap length (cut_remark d p more h), remark_len d d p some (omega arith) more)
    by_end false h more = omega (arith, more, ap length (cut_other d p more h), length-take-le d p (omega (arith, more)))

    by_test : (t : Bool) → nat_le (length p) d ≡ t → length (cut_to d p) ≤ d
    by_test true le = omega (arith, ap length (cut_none d p (leb-true (length p) d le)), leb-true (length p) d le)
    by_test false le = by_end (ends_with_remark p) refl (leb-false (length p) d le)

pub ends_len : (p : Path) → length (both_ends p) ≤ 128
ends_len p = by_test (nat_le (length p) 128) refl
  where
    by_test : (t : Bool) → nat_le (length p) 128 ≡ t → length (both_ends p) ≤ 128
    by_test true le = omega (arith, ap length (short_path p (leb-true (length p) 128 le)), leb-true (length p) 128 le)
    by_test false le =
        let more : 128 < length p = leb-false (length p) 128 le in
        omega (
          arith,
          more,
          ap length (long_path p more),
          length-append (take 63 p) (left_out ∷ drop (length p - 64) p),
          length-take-le 63 p (omega (arith, more)),
          length-drop (length p - 64) p,
        )

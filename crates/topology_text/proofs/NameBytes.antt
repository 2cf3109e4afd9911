-- The bytes of a name are ASCII.
use Rattle.std.proofs.Common.{◌≡◌, ◌⊎◌, inl, inr, ℕ, zero, suc, ◌+◌, ◌-◌, ◌<◌, ◌≤◌, true, List, ◌∷◌, get_or, take, drop, sym, ap, ◌∙◌, subst, arith, rules}
use Rattle.std.specs.Str.{IsUtf8}
use Rattle.std.specs.Char.{is_ascii_digit}
use Rattle.std.proofs.lemmas.Str.{IsUtf8-from_ascii}
use Rattle.std.proofs.lemmas.Str.Ascii.{IsAscii-from_reads}
use Rattle.std.proofs.lemmas.List.{get_or-drop, get_or-take, length-take}
use Rattle.std.proofs.lemmas.List.Sums.{prefix_len_passes}
use Rattle.std.proofs.lemmas.Bool.Decides.{nat_tests}
use Rattle.overlay_setup.specs.Names.{is_host_byte}
use Rattle.topology_text.specs.Tokens.{host_len}
use Rattle.rank_set.specs.Digits.{digits_len}

host_small : (b : ℕ) → is_host_byte b ≡ true → b < 128
host_small b e = grind (arith, nat_tests)

digit_small : (b : ℕ) → is_ascii_digit b ≡ true → b < 128
digit_small b e = grind (arith, nat_tests)

module _ (text : List ℕ) (host digits : ℕ) (index : List ℕ) (h : host ≡ host_len text) (at : drop host text ≡ 58 ∷ index) (d : digits ≡ digits_len index) where
  -- a byte after the host
  later : (j : ℕ) → j < 1 + digits → get_or (58 ∷ index) j 0 < 128
  later zero lt = omega arith
  later (suc j) lt = digit_small (get_or index j 0) (prefix_len_passes is_ascii_digit index j 0 (omega arith))

  small : (k : ℕ) → k < host + 1 + digits → (k < host) ⊎ (host ≤ k) → get_or text k 0 < 128
  small k lt (inl before) = host_small (get_or text k 0) (prefix_len_passes is_host_byte text k 0 (omega arith))
  small k lt (inr after) =
      let e : get_or (58 ∷ index) (k - host) 0 ≡ get_or text k 0 =
      ap (λ t. get_or t (k - host) 0) (sym at) ∙ get_or-drop host text (k - host) 0 ∙ (let s : host + (k - host) ≡ k = omega arith in ap (λ n. get_or text n 0) s) in
      subst (λ n. n < 128) e (later (k - host) (omega arith))

  either : (k : ℕ) → (k < host) ⊎ (host ≤ k)
  either k = search rules

  -- so a name is UTF-8
  pub name_utf8 : IsUtf8 (take (host + 1 + digits) text)
  name_utf8 =
      IsUtf8-from_ascii _ (IsAscii-from_reads (take (host + 1 + digits) text) (host + 1 + digits) (omega (arith, length-take {A = ℕ}))
      (λ k lt. rw (get_or-take (host + 1 + digits) text k 0 lt) (small k lt (either k))))

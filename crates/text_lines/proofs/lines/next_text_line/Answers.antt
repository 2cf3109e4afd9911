use Rattle.std.proofs.Common.{◌≡◌, ◌∙◌, ◌<◌, ◌≤◌, ◌∷◌, ℕ, List, [], length, drop, get_or, sym, ap, subst, nat_eq, false, not, suc, ◌+◌, drop-cons, arith}
use Rattle.std.proofs.lemmas.Bool.{eqb-true, not-false}
use Rattle.std.proofs.lemmas.Bool.Decides.{nat_tests}
use Rattle.std.proofs.lemmas.List.Sums.{prefix_len_stops}
use Rattle.std.proofs.lemmas.Str.{IsUtf8-drop, IsCharBoundary-after_ascii}
use Rattle.std.specs.Str.{IsUtf8, IsCharBoundary}
use Rattle.text_lines.specs.Lines.{lines, line_len}
use Rattle.text_lines.proofs.Cuts.{line_more, line_last, no_lines}
use Rattle.text_lines.proofs.lines.next_text_line.Goals as goal

some : (n : ℕ) → nat_eq n 0 ≡ false → 0 < n
some n e = grind (arith, nat_tests)

-- a text that is cut at the end of its first line
module _ (text bytes after : List ℕ) (n : ℕ) (utf8 : IsUtf8 text) (value : bytes ≡ text) (len : n ≡ line_len bytes) (most : n ≤ length bytes) where
  at_feed : n < length text → get_or text n 0 ≡ 10
  at_feed lt =
      let e : n ≡ line_len text = len ∙ ap line_len value in
      ap (λ k. get_or text k 0) e ∙ eqb-true _ 10 (not-false _ (prefix_len_stops (λ b. not (nat_eq b 10)) text 0 (omega arith)))

  pub boundary : IsCharBoundary text n
  boundary = (let same = ap length value in omega arith, λ lt big. (let feed = at_feed lt in absurd (omega arith)))

  module _ (back : after ≡ drop n text) (left : nat_eq (length after) 0 ≡ false) (all : length after + n ≡ length text) where
    within : n < length text
    within = let lt = some (length after) left in omega arith

    pub parts : after ≡ 10 ∷ drop 1 after
    parts = back ∙ drop-cons text n 0 within ∙ ap (λ b. b ∷ drop (suc n) text) (at_feed within) ∙ ap (λ t. 10 ∷ t) (sym (ap (drop 1) (back ∙ drop-cons text n 0 within)))

    pub after_feed : IsCharBoundary after 1
    after_feed =
        let whole = subst IsUtf8 (sym back) (IsUtf8-drop text n utf8 boundary) in
        IsCharBoundary-after_ascii after 0 whole (some (length after) left) (let first = ap (λ t. get_or t 0 0) parts in omega arith)

pub returns-then-is_empty-clause-lines : goal.returns-then-is_empty-clause-lines
returns-then-is_empty-clause-lines c = no_lines c.args.text.now (eqb-true _ _ (sym c.is_empty.ensures ∙ c.if-is_empty.true))

pub split_at-requires : goal.split_at-requires
split_at-requires c = boundary c.args.text.now c.as_bytes.result.now [] c.line_len.result c.utf8.text c.as_bytes.ensures.value c.line_len.ensures.value c.line_len.ensures.within

pub split_at-requires-2 : goal.split_at-requires-2
split_at-requires-2 c =
    after_feed c.args.text.now c.as_bytes.result.now c.split_at.result.1.now c.line_len.result c.utf8.text c.as_bytes.ensures.value c.line_len.ensures.value c.line_len.ensures.within
    c.split_at.ensures.back (sym c.is_empty-2.ensures ∙ c.if-is_empty-2.false) c.split_at.ensures.back_len

pub returns-then-is_empty-2-clause-lines : goal.returns-then-is_empty-2-clause-lines
returns-then-is_empty-2-clause-lines c =
    line_last c.args.text.now c.split_at.result.0.now c.split_at.result.1.now c.line_len.result (some _ (sym c.is_empty.ensures ∙ c.if-is_empty.false)) (c.line_len.ensures.value ∙ ap line_len c.as_bytes.ensures.value) c.split_at.ensures.front c.split_at.ensures.back (eqb-true _ _ (sym c.is_empty-2.ensures ∙ c.if-is_empty-2.true))
    ∙ ap (λ t. t ∷ lines c.split_at.result.1.now) (sym c.trimmed_text.ensures)

pub returns-clause-lines : goal.returns-clause-lines
returns-clause-lines c =
    let cut = parts c.args.text.now c.as_bytes.result.now c.split_at.result.1.now c.line_len.result c.utf8.text c.as_bytes.ensures.value c.line_len.ensures.value c.line_len.ensures.within
    c.split_at.ensures.back (sym c.is_empty-2.ensures ∙ c.if-is_empty-2.false) c.split_at.ensures.back_len in
    line_more c.args.text.now c.split_at.result.0.now c.split_at.result.1.now c.line_len.result (some _ (sym c.is_empty.ensures ∙ c.if-is_empty.false)) (c.line_len.ensures.value ∙ ap line_len c.as_bytes.ensures.value) c.split_at.ensures.front c.split_at.ensures.back 10 (drop 1 c.split_at.result.1.now) cut
    ∙ (λ i. sym c.trimmed_text-2.ensures i ∷ lines (sym c.split_at-2.ensures.back i))

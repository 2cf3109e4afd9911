use Rattle.std.proofs.Common.{◌≡◌, ◌-◌, ◌∙◌, ap, sym, subst, arith, length, take, drop, get_or, inl, inr}
use Rattle.std.specs.List.{list_all}
use Rattle.std.specs.Char.{is_ascii_digit}
use Rattle.call_path.proofs.Functions.{found_line, no_line_found, function_good}
use Rattle.call_path.specs.Good.{is_good_frame}
use Rattle.std.specs.Bool.{IsTrue}
use Rattle.call_path.proofs.function_name.function_of.Goals.{then-start-lt2-via-then-start-lt2, then-start-lt2-via-else-start-lt2+then-bytes-start-ne64}
use Rattle.call_path.proofs.function_name.function_of.Goals.{then-digits-eq0-via-then-digits-eq0, then-digits-eq0-via-else-digits-eq0+then-digits-gt-LINE_DIGITS}
use Rattle.call_path.proofs.function_name.function_of.Goals as goal

pub returns-then-start-lt2-clause-function : goal.returns-then-start-lt2-clause-function
returns-then-start-lt2-clause-function c =
    let same = c.as_bytes-bytes.ensures.value in
    let start = c.digits_start-start.result in
    no_line_found c.args.frame.now start
    (omega (arith, ap length same, c.digits_start-start.ensures.within))
    (sym (ap (λ f. list_all is_ascii_digit (drop start f)) same) ∙ c.digits_start-start.ensures.digits)
    (λ lt. sym (ap (λ f. is_ascii_digit (get_or f (start - 1) 0)) same) ∙ c.digits_start-start.ensures.before lt)
    (elim c.then-start-lt2.branch [
      | then-start-lt2-via-then-start-lt2 w ↦ inl w.if-start-lt2.true
      | then-start-lt2-via-else-start-lt2+then-bytes-start-ne64 w ↦ inr (inr (λ e. w.if-bytes-start-ne64.true (ap (λ f. get_or f (start - 1) 0) same ∙ e)))
    ])

pub returns-then-digits-eq0-clause-function : goal.returns-then-digits-eq0-clause-function
returns-then-digits-eq0-clause-function c =
    let same = c.as_bytes-bytes.ensures.value in
    let start = c.digits_start-start.result in
    no_line_found c.args.frame.now start
    (omega (arith, ap length same, c.digits_start-start.ensures.within))
    (sym (ap (λ f. list_all is_ascii_digit (drop start f)) same) ∙ c.digits_start-start.ensures.digits)
    (λ lt. sym (ap (λ f. is_ascii_digit (get_or f (start - 1) 0)) same) ∙ c.digits_start-start.ensures.before lt)
    (elim c.then-digits-eq0.branch [
      | then-digits-eq0-via-then-digits-eq0 w ↦ inr (inl (inl (omega (arith, ap length same, w.if-digits-eq0.true))))
      | then-digits-eq0-via-else-digits-eq0+then-digits-gt-LINE_DIGITS w ↦ inr (inl (inr (omega (arith, ap length same, w.if-digits-gt-LINE_DIGITS.true))))
    ])

pub returns-clause-function : goal.returns-clause-function
returns-clause-function c =
    let same = c.as_bytes-bytes.ensures.value in
    let start = c.digits_start-start.result in
    let cut : c.range.result.now ≡ take (start - 1) c.args.frame.now = c.range.ensures.value ∙ (let e : start - 1 - 0 ≡ start - 1 = omega arith in ap (λ n. take n c.args.frame.now) e) in
    cut
    ∙ sym (found_line c.args.frame.now start
    (omega (arith, ap length same, c.digits_start-start.ensures.within))
    (sym (ap (λ f. list_all is_ascii_digit (drop start f)) same) ∙ c.digits_start-start.ensures.digits)
    (λ lt. sym (ap (λ f. is_ascii_digit (get_or f (start - 1) 0)) same) ∙ c.digits_start-start.ensures.before lt)
    c.if-start-lt2.false
    (sym (ap (λ f. get_or f (start - 1) 0) same) ∙ c.if-bytes-start-ne64.false)
    (omega (arith, ap length same, c.if-digits-eq0.false))
    (omega (arith, ap length same, c.if-digits-gt-LINE_DIGITS.false)))

pub returns-clause-good : goal.returns-clause-good
returns-clause-good c = subst (λ f. IsTrue (is_good_frame f)) (sym (returns-clause-function c)) (function_good c.args.frame.now c.requires)

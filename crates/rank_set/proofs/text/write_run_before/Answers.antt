use Rattle.std.proofs.Common.{◌∙◌, ◌++◌, ◌-◌, ap, arith, length, drop, set}
use Rattle.std.specs.Fmt.{decimal}
use Rattle.std.proofs.lemmas.List.{length-set}
use Rattle.rank_set.proofs.RunTexts.{few_digits, some_digit, inside, one_text, two_text}
use Rattle.rank_set.proofs.text.write_run_before.Goals as goal

pub write_digits-start-requires : goal.write_digits-start-requires
write_digits-start-requires c =
    (omega (arith, few_digits c.args.last c.requires.1, ap (λ n. length (decimal n)) c.from.ensures), omega (arith, c.told-text))

pub overflow_sub-text : goal.overflow_sub-text
overflow_sub-text c = omega (arith, few_digits c.args.last c.requires.1, ap (λ n. length (decimal n)) c.from.ensures, c.write_digits-start.ensures.start)

pub overflow_sub-start : goal.overflow_sub-start
overflow_sub-start c = omega (arith, few_digits c.args.last c.requires.1, ap (λ n. length (decimal n)) c.from.ensures, c.write_digits-start.ensures.start)

pub write_digits-requires : goal.write_digits-requires
write_digits-requires c = (
  omega (arith, few_digits c.args.last c.requires.1, ap (λ n. length (decimal n)) c.from.ensures, c.write_digits-start.ensures.start, few_digits c.args.first (omega (arith, c.requires)), ap (λ n. length (decimal n)) c.from-2.ensures),
  (let all = length-set c.write_digits-start.new.buf (c.write_digits-start.result - 1) 45 in
      let in_text = inside c.args.first c.args.last c.args.text.now c.write_digits-start.new.buf c.write_digits-start.result c.told-text (c.write_digits-start.ensures.written ∙ ap (λ n. decimal n ++ drop 16 c.args.text.now) c.from.ensures) (some_digit c.args.last c.requires.1) in
      omega (arith, all, in_text)),
)

pub returns-then-first-last-clause-text : goal.returns-then-first-last-clause-text
returns-then-first-last-clause-text c = one_text c.args.first c.args.last c.args.text.now c.write_digits-start.new.buf c.write_digits-start.result c.told-text (c.write_digits-start.ensures.written ∙ ap (λ n. decimal n ++ drop 16 c.args.text.now) c.from.ensures) c.if-first-last.true

pub returns-clause-text : goal.returns-clause-text
returns-clause-text c =
    two_text c.args.first c.args.last c.args.text.now c.write_digits-start.new.buf c.write_digits-start.result c.told-text (c.write_digits-start.ensures.written ∙ ap (λ n. decimal n ++ drop 16 c.args.text.now) c.from.ensures)
    c.write_digits.new.buf c.write_digits.result c.if-first-last.false (omega (arith, few_digits c.args.last c.requires.1, ap (λ n. length (decimal n)) c.from.ensures, c.write_digits-start.ensures.start)) (some_digit c.args.last c.requires.1)
    (c.write_digits.ensures.written ∙ ap (λ n. decimal n ++ drop (c.write_digits-start.result - 1) (set c.write_digits-start.new.buf (c.write_digits-start.result - 1) 45)) c.from-2.ensures)

pub returns-then-first-last-clause-within : goal.returns-then-first-last-clause-within
returns-then-first-last-clause-within c = (
  omega (arith, few_digits c.args.last c.requires.1, ap (λ n. length (decimal n)) c.from.ensures, c.write_digits-start.ensures.start),
  omega (arith, c.write_digits-start.ensures.start),
)

pub returns-clause-within : goal.returns-clause-within
returns-clause-within c = (
  omega (arith, few_digits c.args.last c.requires.1, ap (λ n. length (decimal n)) c.from.ensures, c.write_digits-start.ensures.start, few_digits c.args.first (omega (arith, c.requires)), ap (λ n. length (decimal n)) c.from-2.ensures, c.write_digits.ensures.start),
  omega (arith, c.write_digits-start.ensures.start, c.write_digits.ensures.start),
)

use Rattle.std.proofs.Common.{◌∙◌, sym, ap, option_map}
use Rattle.text_lines.specs.Lines.{words}
use Rattle.script_text.specs.ParserViews.{lose_view}
use Rattle.script_text.proofs.Forms.{lose_short, lose_long, lose_bad, lose_good, some_left, none_left}
use Rattle.script_text.proofs.words.lose_words.Goals as goal

pub returns-in_err-five : goal.returns-in_err-five
returns-in_err-five c = ap (option_map lose_view) c.from_residual.ensures ∙ lose_short (words c.args.line.now) c.in_err-five.ensures.fewer

pub returns-then-is_some : goal.returns-then-is_some
returns-then-is_some c =
    let five = c.in_ok-five.five in
    let more = some_left (λ x. x.0.now) (λ x. words x.1.now) (words five.rest.now) c.next_word.result c.next_word.ensures.words (sym c.is_some.ensures ∙ c.if-is_some.true) in
    lose_long (words c.args.line.now) five.first.now five.second.now five.third.now five.fourth.now five.fifth.now (words five.rest.now) c.in_ok-five.ensures.words more.0 more.1 more.2

pub returns-then-not-is_lose_end : goal.returns-then-not-is_lose_end
returns-then-not-is_lose_end c =
    let five = c.in_ok-five.five in
    lose_bad (words c.args.line.now) five.first.now five.second.now five.third.now five.fourth.now five.fifth.now (words five.rest.now) c.in_ok-five.ensures.words
    (none_left (λ x. x.0.now) (λ x. words x.1.now) (words five.rest.now) c.next_word.result c.next_word.ensures.words (sym c.is_some.ensures ∙ c.if-is_some.false))
    (sym c.is_lose_end.ensures ∙ c.if-not-is_lose_end.true)

pub returns : goal.returns
returns c =
    let five = c.in_ok-five.five in
    lose_good (words c.args.line.now) five.first.now five.second.now five.third.now five.fourth.now five.fifth.now (words five.rest.now) c.in_ok-five.ensures.words
    (none_left (λ x. x.0.now) (λ x. words x.1.now) (words five.rest.now) c.next_word.result c.next_word.ensures.words (sym c.is_some.ensures ∙ c.if-is_some.false))
    (sym c.is_lose_end.ensures ∙ c.if-not-is_lose_end.false)

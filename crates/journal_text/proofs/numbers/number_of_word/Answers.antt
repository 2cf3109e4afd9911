use Rattle.std.proofs.Common.{◌≡◌, ◌∙◌, sym, ap, subst, arith, Ok}
use Rattle.std.specs.Fmt.{decimal}
use Rattle.std.specs.Str.{IsAscii}
use Rattle.std.proofs.lemmas.Fmt.{IsAscii-decimal, parse-decimal}
use Rattle.std.proofs.lemmas.Str.{IsUtf8-from_ascii}
use Rattle.std.proofs.lemmas.Bool.{true≢false}
use Rattle.std.proofs.lemmas.Bool.Decides.{Decides-eqb}
use Rattle.std.proofs.lemmas.Slice.Eq.{slice_eq-Decides}
use Rattle.journal_text.proofs.numbers.number_of_word.Goals as goal

pub returns-in_default : goal.returns-in_default
returns-in_default c = λ n below e. c.in_default.ensures.cases.0 (IsUtf8-from_ascii c.args.word.now (subst IsAscii (sym e) (IsAscii-decimal n (omega arith))))

pub returns-in_default-parse : goal.returns-in_default-parse
returns-in_default-parse c = λ n below e.
    let read : c.parse.result ≡ Ok n = parse-decimal 8 n c.in-Ok.text.now c.parse.result below (omega arith) (c.in-Ok.ensures.cases.0 ∙ e) c.parse.ensures.value.0 in
    c.in_default-parse.not-Ok n read

pub returns-else-eq : goal.returns-else-eq
returns-else-eq c = λ n below e.
    let read : c.parse.result ≡ Ok n = parse-decimal 8 n c.in-Ok.text.now c.parse.result below (omega arith) (c.in-Ok.ensures.cases.0 ∙ e) c.parse.ensures.value.0 in
    let same : c.in-Ok-parse.number ≡ n = cc in
    let written : c.as_bytes.result.now ≡ c.args.word.now = c.as_bytes.ensures.value ∙ c.format.ensures.text ∙ ap decimal same ∙ sym e in
    true≢false (sym ((slice_eq-Decides Decides-eqb _ _ _ c.eq.ensures).1 written) ∙ c.if-eq.false)

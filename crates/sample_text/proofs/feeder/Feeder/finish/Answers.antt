use Rattle.std.proofs.Common.{◌≡◌, ◌≢◌, ◌∙◌, ◌++◌, Err, ap, subst, sym, arith}
use Rattle.std.specs.Prelude.{IfOk}
use Rattle.stat_plan.specs.Invariants.{SamplesFit}
use Rattle.text_lines.specs.Parsing.{IsErrorOf, IsValueOf}
use Rattle.text_lines.specs.declared.text_error.TextError.TheVariants.{OutOfMemory}
use Rattle.text_lines.proofs.Errors.{handed_on}
use Rattle.sample_text.specs.Feeding.{ReadsTo}
use Rattle.sample_text.specs.Whole.{samples_of_text}
use Rattle.sample_text.proofs.Feeding.{last_checked, last_holds, last_nodes, last_refused, lines_fit, whole_refused}
use Rattle.sample_text.proofs.feeder.Feeder.finish.Goals as goal

pub returns-in-Some-clause-err : goal.returns-in-Some-clause-err
returns-in-Some-clause-err c t text read memory =
    whole_refused t c.in-Some.error text (subst (ReadsTo t c.args.self text) c.in-Some.is read memory)

pub take_lines-requires-clause-room : goal.take_lines-requires-clause-room
take_lines-requires-clause-room c =
    let self = c.args.self in
    let cut = subst (ReadsTo c.requires.0 self c.requires.1.0) c.in_default.is c.requires.1.1.0 in
    let fit = lines_fit c.requires.0 self.parser self.count cut.whole self.cut_line.items c.requires.1.0 cut.parsed cut.joined in
    omega (arith, fit, c.requires.1.1.1, c.as_slice.ensures.len)

pub returns-in_err-take_lines-clause-err : goal.returns-in_err-take_lines-clause-err
returns-in_err-take_lines-clause-err c t text read =
    let self = c.args.self in
    let cut = subst (ReadsTo t self text) c.in_default.is read in
    let last = c.as_slice.result.now in
    let joined = cut.joined ∙ ap (λ x. cut.whole ++ x) (sym c.as_slice.ensures.value) in
    handed_on c.from_residual.result c.in_err-take_lines.field-0.0 (λ e. e ≢ OutOfMemory → samples_of_text t text ≡ Err e) c.from_residual.ensures
    (λ memory. last_refused t self.parser self.count cut.whole last text cut.parsed joined c.in_err-take_lines.field-0.0 c.in_err-take_lines.ensures.refused memory)

pub finish-requires-clause-invariant : goal.finish-requires-clause-invariant
finish-requires-clause-invariant c =
    let self = c.args.self in
    let cut = subst (ReadsTo c.requires.0 self c.requires.1.0) c.in_default.is c.requires.1.1.0 in
    let last = c.as_slice.result.now in
    let joined = cut.joined ∙ ap (λ x. cut.whole ++ x) (sym c.as_slice.ensures.value) in
    last_holds c.requires.0 self.parser self.count cut.whole last c.requires.1.0 cut.parsed joined c.take_lines.new.parser c.in_ok-take_lines.ensures.taken

pub returns-clause-ok : goal.returns-clause-ok
returns-clause-ok c t text read =
    let self = c.args.self in
    let cut = subst (ReadsTo t self text) c.in_default.is read in
    let last = c.as_slice.result.now in
    let joined = cut.joined ∙ ap (λ x. cut.whole ++ x) (sym c.as_slice.ensures.value) in
    subst (IsValueOf c.finish.result) (sym (last_checked t self.parser self.count cut.whole last text cut.parsed joined c.take_lines.new.parser c.in_ok-take_lines.ensures.taken)) c.finish.ensures.ok

pub returns-clause-fits : goal.returns-clause-fits
returns-clause-fits c t text read =
    let self = c.args.self in
    let cut = subst (ReadsTo t self text) c.in_default.is read in
    let last = c.as_slice.result.now in
    let joined = cut.joined ∙ ap (λ x. cut.whole ++ x) (sym c.as_slice.ensures.value) in
    subst (λ n. IfOk c.finish.result (SamplesFit n)) (last_nodes t self.parser self.count cut.whole last text cut.parsed joined c.take_lines.new.parser c.in_ok-take_lines.ensures.taken) c.finish.ensures.fits

pub returns-clause-err : goal.returns-clause-err
returns-clause-err c t text read =
    let self = c.args.self in
    let cut = subst (ReadsTo t self text) c.in_default.is read in
    let last = c.as_slice.result.now in
    let joined = cut.joined ∙ ap (λ x. cut.whole ++ x) (sym c.as_slice.ensures.value) in
    subst (IsErrorOf c.finish.result) (sym (last_checked t self.parser self.count cut.whole last text cut.parsed joined c.take_lines.new.parser c.in_ok-take_lines.ensures.taken)) c.finish.ensures.err

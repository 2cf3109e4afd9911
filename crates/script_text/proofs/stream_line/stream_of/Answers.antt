use Rattle.std.proofs.Common.{◌≡◌, ◌≢◌, ◌∙◌, sym, ap, subst, Ok, Err, IfOk}
use Rattle.text_lines.specs.declared.text_error.TextError.TheVariants.{OutOfMemory}
use Rattle.script_text.specs.ParserViews.{stream_view}
use Rattle.script_text.specs.Numbers.{number_from}
use Rattle.script_text.specs.Streams.{stream_of}
use Rattle.script_text.proofs.InvariantLemmas.{IsNewStream, stream_holds}
use Rattle.text_lines.proofs.Errors.{handed_on}
use Rattle.script_text.proofs.Streams.{stream_bad_number, stream_bad_mode, stream_bad_waves, stream_bad_samples, stream_bad_daemons, stream_good}
use Rattle.script_text.proofs.stream_line.stream_of.Goals as goal

pub returns-in_err-number-clause-err : goal.returns-in_err-number-clause-err
returns-in_err-number-clause-err c =
    let t = c.args.topology.now in
    let xs = c.args.streams.now in
    let w = stream_view c.args.words.now in
    handed_on c.from_residual.result c.in_err-number.field-0.0 (λ e. e ≢ OutOfMemory → stream_of t xs c.args.line_number w ≡ Err e) c.from_residual.ensures
    (λ _. stream_bad_number t xs c.args.line_number w c.in_err-number.field-0.0 c.in_err-number.ensures.err)

pub returns-in_err-mode-clause-err : goal.returns-in_err-mode-clause-err
returns-in_err-mode-clause-err c =
    let t = c.args.topology.now in
    let xs = c.args.streams.now in
    let w = stream_view c.args.words.now in
    handed_on c.from_residual-in_err-mode.result c.in_err-mode.field-0.0 (λ e. e ≢ OutOfMemory → stream_of t xs c.args.line_number w ≡ Err e) c.from_residual-in_err-mode.ensures
    (λ _. stream_bad_mode t xs c.args.line_number w c.in_ok-number.number c.in_ok-number.ensures.ok c.in_err-mode.field-0.0 c.in_err-mode.ensures.err)

pub returns-in_err-waves-clause-err : goal.returns-in_err-waves-clause-err
returns-in_err-waves-clause-err c =
    let t = c.args.topology.now in
    let xs = c.args.streams.now in
    let w = stream_view c.args.words.now in
    handed_on c.from_residual-in_err-waves.result c.in_err-waves.field-0.0 (λ e. e ≢ OutOfMemory → stream_of t xs c.args.line_number w ≡ Err e) c.from_residual-in_err-waves.ensures
    (λ _. stream_bad_waves t xs c.args.line_number w c.in_ok-number.number c.in_ok-number.ensures.ok c.in_ok-mode.mode c.in_ok-mode.ensures.ok c.in_err-waves.field-0.0
    (ap (λ m. number_from c.args.line_number 1 16 m w.waves) (sym c.over-more.ensures) ∙ c.in_err-waves.ensures.err))

pub returns-in_err-samples-clause-err : goal.returns-in_err-samples-clause-err
returns-in_err-samples-clause-err c =
    let t = c.args.topology.now in
    let xs = c.args.streams.now in
    let w = stream_view c.args.words.now in
    handed_on c.from_residual-in_err-samples.result c.in_err-samples.field-0.0 (λ e. e ≢ OutOfMemory → stream_of t xs c.args.line_number w ≡ Err e) c.from_residual-in_err-samples.ensures
    (λ _. stream_bad_samples t xs c.args.line_number w c.in_ok-number.number c.in_ok-number.ensures.ok c.in_ok-mode.mode c.in_ok-mode.ensures.ok c.in_ok-waves.waves (ap (λ m. number_from c.args.line_number 1 16 m w.waves) (sym c.over-more.ensures) ∙ c.in_ok-waves.ensures.ok) c.in_err-samples.field-0.0
    (ap (λ m. number_from c.args.line_number 1 64 m w.samples) (sym c.bad-bad_number.ensures) ∙ c.in_err-samples.ensures.err))

pub returns-in_err-daemons-clause-err : goal.returns-in_err-daemons-clause-err
returns-in_err-daemons-clause-err c =
    let t = c.args.topology.now in
    let xs = c.args.streams.now in
    let w = stream_view c.args.words.now in
    handed_on c.from_residual-in_err-daemons.result c.in_err-daemons.field-0.0 (λ e. e ≢ OutOfMemory → stream_of t xs c.args.line_number w ≡ Err e) c.from_residual-in_err-daemons.ensures
    (λ memory. stream_bad_daemons t xs c.args.line_number w c.in_ok-number.number c.in_ok-number.ensures.ok c.in_ok-mode.mode c.in_ok-mode.ensures.ok c.in_ok-waves.waves (ap (λ m. number_from c.args.line_number 1 16 m w.waves) (sym c.over-more.ensures) ∙ c.in_ok-waves.ensures.ok) c.in_ok-samples.samples
    (ap (λ m. number_from c.args.line_number 1 64 m w.samples) (sym c.bad-bad_number.ensures) ∙ c.in_ok-samples.ensures.ok) c.in_err-daemons.field-0.0 (c.in_err-daemons.ensures.err memory))

pub new-requires : goal.new-requires
new-requires c =
    let w = stream_view c.args.words.now in
    let is_good =
    stream_good c.args.topology.now c.args.streams.now c.args.line_number w c.in_ok-number.number c.in_ok-number.ensures.ok c.in_ok-mode.mode c.in_ok-mode.ensures.ok c.in_ok-waves.waves (ap (λ m. number_from c.args.line_number 1 16 m w.waves) (sym c.over-more.ensures) ∙ c.in_ok-waves.ensures.ok) c.in_ok-samples.samples
    (ap (λ m. number_from c.args.line_number 1 64 m w.samples) (sym c.bad-bad_number.ensures) ∙ c.in_ok-samples.ensures.ok) c.in_ok-daemons.daemons.items c.in_ok-daemons.ensures.ok in
    (subst (λ r. IfOk r (IsNewStream c.args.topology.now c.args.streams.now)) is_good (stream_holds c.args.topology.now c.requires c.args.streams.now c.args.line_number w)).is

pub returns-clause-ok : goal.returns-clause-ok
returns-clause-ok c =
    let w = stream_view c.args.words.now in
    stream_good c.args.topology.now c.args.streams.now c.args.line_number w c.in_ok-number.number c.in_ok-number.ensures.ok c.in_ok-mode.mode c.in_ok-mode.ensures.ok c.in_ok-waves.waves (ap (λ m. number_from c.args.line_number 1 16 m w.waves) (sym c.over-more.ensures) ∙ c.in_ok-waves.ensures.ok) c.in_ok-samples.samples
    (ap (λ m. number_from c.args.line_number 1 64 m w.samples) (sym c.bad-bad_number.ensures) ∙ c.in_ok-samples.ensures.ok) c.in_ok-daemons.daemons.items c.in_ok-daemons.ensures.ok ∙ ap Ok (sym c.new.ensures)

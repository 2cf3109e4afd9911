use Rattle.std.proofs.Common.{◌≡◌, ◌++◌, codes, sym, subst, Some, None}
use Rattle.std.proofs.lemmas.Bool.Decides.{Decides-eqb}
use Rattle.std.proofs.lemmas.Slice.Eq.{strip_prefix_is}
use Rattle.journal_text.specs.Reading.{IsEventRead}
use Rattle.journal_text.proofs.LineReading.{other_line}
use Rattle.journal_text.proofs.OneEvent.{event_is}
use Rattle.journal_text.proofs.lines.event_of_line.Goals as goal

pub returns-in-Some : goal.returns-in-Some
returns-in-Some c =
    let p = c.args.plan.now in
    let line = c.args.line.now in
    let begins : line ≡ codes "sample " ++ c.in-Some.text.now = strip_prefix_is Decides-eqb line (codes "sample ") (Some c.in-Some.text) c.in-Some.ensures.cases in
    event_is p c.invariant.ensures line c.sample_of.result (subst (λ t. IsEventRead p t c.sample_of.result) (sym begins) c.sample_of.ensures)

pub returns-in-Some-strip_prefix : goal.returns-in-Some-strip_prefix
returns-in-Some-strip_prefix c =
    let p = c.args.plan.now in
    let line = c.args.line.now in
    let begins : line ≡ codes "recv " ++ c.in-Some-strip_prefix.text.now = strip_prefix_is Decides-eqb line (codes "recv ") (Some c.in-Some-strip_prefix.text) c.in-Some-strip_prefix.ensures.cases in
    event_is p c.invariant.ensures line c.recv_of.result (subst (λ t. IsEventRead p t c.recv_of.result) (sym begins) c.recv_of.ensures)

pub returns-in-Some-strip_prefix-2 : goal.returns-in-Some-strip_prefix-2
returns-in-Some-strip_prefix-2 c =
    let p = c.args.plan.now in
    let line = c.args.line.now in
    let begins : line ≡ codes "tick " ++ c.in-Some-strip_prefix-2.name.now = strip_prefix_is Decides-eqb line (codes "tick ") (Some c.in-Some-strip_prefix-2.name) c.in-Some-strip_prefix-2.ensures.cases in
    event_is p c.invariant.ensures line c.tick_of.result (subst (λ t. IsEventRead p t c.tick_of.result) (sym begins) c.tick_of.ensures)

pub returns-in-Some-strip_prefix-3 : goal.returns-in-Some-strip_prefix-3
returns-in-Some-strip_prefix-3 c =
    let p = c.args.plan.now in
    let line = c.args.line.now in
    let begins : line ≡ codes "lose " ++ c.in-Some-strip_prefix-3.name.now = strip_prefix_is Decides-eqb line (codes "lose ") (Some c.in-Some-strip_prefix-3.name) c.in-Some-strip_prefix-3.ensures.cases in
    event_is p c.invariant.ensures line c.lose_of.result (subst (λ t. IsEventRead p t c.lose_of.result) (sym begins) c.lose_of.ensures)

pub returns : goal.returns
returns c =
    let p = c.args.plan.now in
    let line = c.args.line.now in
    event_is p c.invariant.ensures line None
    (other_line p line
    (strip_prefix_is Decides-eqb line (codes "sample ") None c.in_default.ensures.cases)
    (strip_prefix_is Decides-eqb line (codes "recv ") None c.in_default-strip_prefix.ensures.cases)
    (strip_prefix_is Decides-eqb line (codes "tick ") None c.in_default-strip_prefix-2.ensures.cases)
    (strip_prefix_is Decides-eqb line (codes "lose ") None c.in_default-strip_prefix-3.ensures.cases))

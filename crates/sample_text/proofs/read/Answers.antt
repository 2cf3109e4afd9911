use Rattle.std.proofs.Common.{[], rules, subst}
use Rattle.text_lines.proofs.Errors.{value_has}
use Rattle.sample_text.specs.Feeding.{HasRead}
use Rattle.sample_text.specs.Grammar.{IsAcceptable}
use Rattle.sample_text.specs.Whole.{samples_of_text}
use Rattle.sample_text.proofs.Acceptance.{acceptable, is_acceptable}
use Rattle.sample_text.proofs.read.Goals as goal

pub feed-requires : goal.feed-requires
feed-requires c = (c.in_ok-feeder.feeder, ([], (c.in_ok-feeder.ensures.read, search rules)))

pub finish-requires : goal.finish-requires
finish-requires c =
    let t = c.args.topology.now in
    let text = c.args.text.now in
    let read = subst (λ n. HasRead n c.feed.new.self text) c.in_ok-feeder.ensures.nodes (c.feed.ensures c.in_ok-feeder.feeder [] c.in_ok-feeder.ensures.read) in
    (t, (text, (read, search rules)))

pub returns-clause-ok : goal.returns-clause-ok
returns-clause-ok c =
    let t = c.args.topology.now in
    let text = c.args.text.now in
    let read = subst (λ n. HasRead n c.feed.new.self text) c.in_ok-feeder.ensures.nodes (c.feed.ensures c.in_ok-feeder.feeder [] c.in_ok-feeder.ensures.read) in
    c.finish.ensures.ok t text read

pub returns-clause-written : goal.returns-clause-written
returns-clause-written c =
    let t = c.args.topology.now in
    let text = c.args.text.now in
    let read = subst (λ n. HasRead n c.feed.new.self text) c.in_ok-feeder.ensures.nodes (c.feed.ensures c.in_ok-feeder.feeder [] c.in_ok-feeder.ensures.read) in
    value_has c.finish.result (samples_of_text t text) (IsAcceptable t text) (c.finish.ensures.ok t text read) (is_acceptable t c.invariant.ensures text)

pub returns-clause-fits : goal.returns-clause-fits
returns-clause-fits c =
    let t = c.args.topology.now in
    let text = c.args.text.now in
    let read = subst (λ n. HasRead n c.feed.new.self text) c.in_ok-feeder.ensures.nodes (c.feed.ensures c.in_ok-feeder.feeder [] c.in_ok-feeder.ensures.read) in
    c.finish.ensures.fits t text read

pub returns-clause-err : goal.returns-clause-err
returns-clause-err c =
    let t = c.args.topology.now in
    let text = c.args.text.now in
    let read = subst (λ n. HasRead n c.feed.new.self text) c.in_ok-feeder.ensures.nodes (c.feed.ensures c.in_ok-feeder.feeder [] c.in_ok-feeder.ensures.read) in
    c.finish.ensures.err t text read

pub returns-clause-accepted : goal.returns-clause-accepted
returns-clause-accepted c = acceptable c.args.topology.now c.invariant.ensures c.args.text.now

pub returns-in_err-feeder-clause-accepted : goal.returns-in_err-feeder-clause-accepted
returns-in_err-feeder-clause-accepted c = acceptable c.args.topology.now c.invariant.ensures c.args.text.now

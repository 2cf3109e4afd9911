use Rattle.std.proofs.Common.{◌≡◌, ◌∙◌, sym, ap, subst}
use Rattle.std.specs.Prelude.{OnOk, not}
use Rattle.rank_set.specs.Ranks.{has, those}
use Rattle.std.proofs.lemmas.Bool.{eq-eqb, true≢false}
use Rattle.stat_plan.proofs.LookupLemmas.{member-contains}
use Rattle.front_end.specs.JsonReport.{missing_state}
use Rattle.front_end.proofs.JsonWritten.{daemon_object}
use Rattle.front_end.proofs.json_release.write_daemon.Goals as goal

pub returns : goal.returns
returns c =
    subst (λ ts. OnOk c.end_object.result (c.end_object.new.self ≡ ts))
    (daemon_object c.args.plan.now c.args.covered.now c.args.lost.now c.args.daemon c.in_ok-missing.missing c.name.result.now c.as_str.result.now c.missing_state.result.now
    c.args.out.now c.begin_object.new.self c.text.new.self c.text-2.new.self c.text-3.new.self
    (c.in_ok-missing.ensures ∙ ap (those (λ r. not (has c.args.covered.now r))) c.ranks.ensures) (λ none. true≢false (sym (eq-eqb _ 0 none) ∙ sym c.if-is_empty.ensures))
    c.name.ensures (c.as_str.ensures.value ∙ c.in_ok-ranks.ensures) (c.missing_state.ensures ∙ ap missing_state (c.contains.ensures.value ∙ member-contains c.args.daemon c.args.lost.now))
    c.in_ok-begin_object.ensures c.in_ok-text.ensures c.in_ok-text-2.ensures c.in_ok-text-3.ensures) c.end_object.ensures

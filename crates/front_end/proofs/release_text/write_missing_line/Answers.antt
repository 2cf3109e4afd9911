use Rattle.std.proofs.Common.{◌++◌, ◌∙◌, sym, ap}
use Rattle.rank_set.specs.Ranks.{has, those}
use Rattle.std.specs.Prelude.{not}
use Rattle.front_end.specs.ReleaseText.{missing_text}
use Rattle.std.proofs.lemmas.Bool.{eq-eqb, true≢false}
use Rattle.stat_plan.proofs.LookupLemmas.{member-contains}
use Rattle.front_end.proofs.Written.{missing_written}
use Rattle.front_end.proofs.release_text.write_missing_line.Goals as goal

pub returns : goal.returns
returns c =
    let out = c.args.out.now.items in
    let word = c.extend_from_slice.new.self.items in
    missing_written c.args.plan.now c.args.covered.now c.args.lost.now c.args.daemon c.in_ok-missing.missing out word c.extend_from_slice-2.new.self.items c.push.new.self.items c.write_text.new.out.items c.push-2.new.self.items
    (c.in_ok-missing.ensures ∙ ap (those (λ r. not (has c.args.covered.now r))) c.ranks.ensures) (λ none. true≢false (sym (eq-eqb _ 0 none) ∙ sym c.if-is_empty.ensures))
    (c.in_ok-extend_from_slice.ensures.items ∙ ap (λ ys. out ++ ys) (c.missing_text.ensures ∙ ap missing_text (c.contains.ensures.value ∙ member-contains c.args.daemon c.args.lost.now)))
    (c.in_ok-extend_from_slice-2.ensures.items ∙ ap (λ ys. word ++ ys) (c.as_bytes.ensures.value ∙ c.name.ensures))
    c.in_ok-push.ensures.items c.in_ok-write_text.ensures.ok c.in_ok-push-2.ensures.items

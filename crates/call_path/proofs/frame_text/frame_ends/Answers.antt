use Rattle.std.proofs.Common.{◌<◌, ◌∙◌, ◌++◌, [], ◌∷◌, ap, sym, subst, arith, length}
use Rattle.std.specs.Prelude.{All}
use Rattle.std.proofs.lemmas.List.{append_assoc}
use Rattle.std.proofs.lemmas.List.Elements.{All-head, All-tail}
use Rattle.memchr.specs.Find.{is_byte}
use Rattle.memchr.proofs.lemmas.CallerLemmas.{All-places}
use Rattle.call_path.proofs.Errors.{ends_places}
use Rattle.call_path.proofs.frame_text.frame_ends.Goals as goal

pub loop-end-init : goal.loop-end-init
loop-end-init c =
    let left = c.into_iter-end-iterator.ensures.into_iter_gives ∙ c.memchr_iter-end-items.ensures.value in
    record {
      within = subst (All (λ end. end < length c.args.text.now)) (sym left) (λ k d lt. (All-places (is_byte 59) c.args.text.now k d lt).0);
      ends = ap (λ es. es ++ (c.into_iter-end-iterator.result ++ length c.args.text.now ∷ [])) c.in_ok-ends.ensures.items ∙ ap (λ es. es ++ length c.args.text.now ∷ []) left ∙ ends_places c.args.text.now;
    }

pub overflow_cast-end : goal.overflow_cast-end
overflow_cast-end c = let h = All-head (λ end. end < length c.args.text.now) c.in-Some.end c.next.new.self (subst (All (λ end. end < length c.args.text.now)) c.in-Some.ensures.steps c.loop-end.invariant.within) in omega (arith, h, c.requires)

pub loop-end-preserved : goal.loop-end-preserved
loop-end-preserved c = record {
  within = All-tail (λ end. end < length c.args.text.now) c.in-Some.end c.next.new.self (subst (All (λ end. end < length c.args.text.now)) c.in-Some.ensures.steps c.loop-end.invariant.within);
  ends =
      ap (λ es. es ++ (c.next.new.self ++ length c.args.text.now ∷ [])) c.in_ok-push.ensures.ok
      ∙ append_assoc c.loop-end.ends.items (c.in-Some.end ∷ []) (c.next.new.self ++ length c.args.text.now ∷ [])
      ∙ ap (λ es. c.loop-end.ends.items ++ (es ++ length c.args.text.now ∷ [])) (sym c.in-Some.ensures.steps)
      ∙ c.loop-end.invariant.ends;
}

pub returns : goal.returns
returns c =
    c.in_ok-push-2.ensures.ok
    ∙ ap (λ es. c.loop-end.ends.items ++ (es ++ length c.args.text.now ∷ [])) (sym c.in-None.ensures.steps.0)
    ∙ c.loop-end.invariant.ends

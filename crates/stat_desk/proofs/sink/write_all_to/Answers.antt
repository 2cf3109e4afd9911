use Rattle.std.proofs.Common.{◌≡◌, ℕ, ◌+◌, ◌<◌, List, ◌++◌, length, take, drop, arith, ap, sym, ◌∙◌}
use Rattle.std.proofs.KnownBytes.{Appends-trans}
use Rattle.std.proofs.Math.Seq.{take-add}
use Rattle.std.proofs.lemmas.List.{append_assoc}
use Rattle.stat_desk.proofs.sink.write_all_to.Goals as goal

-- what was taken of some bytes, and then of those behind them
taken_on : (before old new bytes : List ℕ) (a n : ℕ) → old ≡ before ++ take a bytes
    → new ≡ old ++ take n (drop a bytes) → new ≡ before ++ take (a + n) bytes
taken_on before old new bytes a n first then =
    then ∙ ap (λ held. held ++ take n (drop a bytes)) first ∙ append_assoc before (take a bytes) (take n (drop a bytes))
    ∙ ap (λ all. before ++ all) (sym (take-add a n bytes))

pub loop-taken-preserved : goal.loop-taken-preserved
loop-taken-preserved g c =
    let next = rw c.split_at.ensures.back at c.in_ok-taken.ensures.ok in
    let so_far = c.loop-taken.invariant.taken in
    record {
      within = omega (arith, c.in_ok-taken.ensures.ok.within, c.split_at.ensures.back_len);
      taken = record {
        took = taken_on (g.S.Sink.seen c.args.sink.now).took _ _ c.args.bytes.now c.loop-taken.taken c.in_ok-taken.field-0
            so_far.took next.taken.took;
        contents = rw (take-add c.loop-taken.taken c.in_ok-taken.field-0 c.args.bytes.now)
            (Appends-trans _ _ _ _ _ so_far.contents next.taken.contents);
        later = omega (arith, so_far.later, next.taken.later);
      };
      untouched = λ none.
          let left : 0 < length c.split_at.result.1.now =
          omega (arith, c.split_at.ensures.back_len, c.loop-taken-test.true) in
          let some : 0 < c.in_ok-taken.field-0 = c.in_ok-taken.ensures.ok.some_taken left in
          absurd (omega (arith, some, none));
    }

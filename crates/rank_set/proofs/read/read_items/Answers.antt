use Rattle.std.proofs.Common.{◌≡◌, ◌≢◌, ◌∙◌, ◌+◌, ℕ, List, take, drop, refl, sym, ap, arith, Err, Ok}
use Rattle.rank_set.specs.declared.read.RanksError.TheVariants.{OutOfMemory}
use Rattle.rank_set.specs.Ranks.{Ranks}
use Rattle.rank_set.specs.Runs.{with_pending}
use Rattle.rank_set.specs.RanksText.{ranks_at, items, item_len}
use Rattle.rank_set.proofs.Reading.{first_bad, last_good, next_good, handed_on}
use Rattle.rank_set.proofs.read.read_items.Goals as goal

pub returns-in_err-run-clause-err : goal.returns-in_err-run-clause-err
returns-in_err-run-clause-err c =
    let read : Ranks = with_pending c.loop-run.ranks c.loop-run.pending in
    let rest : List ℕ = c.loop-run.rest.now in
    handed_on c.from_residual.result c.in_err-run.field-0.0 (λ e. e ≢ OutOfMemory → ranks_at 0 c.args.ranks.now (items c.args.text.now) ≡ Err e) c.from_residual.ensures
    (λ _. sym c.loop-run.invariant.ranks ∙ first_bad c.loop-run.offset (item_len rest) read rest (take (item_len rest) rest) (drop (item_len rest) rest) refl refl refl c.in_err-run.field-0.0 c.in_err-run.ensures.err)

pub returns-in_default-clause-ok : goal.returns-in_default-clause-ok
returns-in_default-clause-ok c =
    let read : Ranks = with_pending c.loop-run.ranks c.loop-run.pending in
    let rest : List ℕ = c.loop-run.rest.now in
    let front : take (item_len rest) rest ≡ take c.in_ok-run.len rest = ap (λ n. take n rest) (sym c.in_ok-run.ensures.len) in
    sym c.loop-run.invariant.ranks ∙ last_good c.loop-run.offset c.in_ok-run.len read rest (take (item_len rest) rest) c.split_at.result.1.now c.in_ok-run.ensures.len front c.split_at.ensures.back (c.in_ok-run.run'.first, c.in_ok-run.run'.last) c.in_ok-run.ensures.ok c.in_default.ensures.cases
    ∙ ap Ok (sym (c.in_ok-put_pending.ensures ∙ c.in_ok-add_run.ensures.ok))

pub loop-run-preserved : goal.loop-run-preserved
loop-run-preserved c =
    let read : Ranks = with_pending c.loop-run.ranks c.loop-run.pending in
    let rest : List ℕ = c.loop-run.rest.now in
    let front : take (item_len rest) rest ≡ take c.in_ok-run.len rest = ap (λ n. take n rest) (sym c.in_ok-run.ensures.len) in
    record {
      offset = omega (arith, c.loop-run.invariant.offset, c.in-Some.ensures.cases.1, c.split_at.ensures.back_len);
      pending = c.in_ok-add_run.ensures.pending;
      ranks = next_good c.loop-run.offset c.in_ok-run.len read rest (take (item_len rest) rest) c.split_at.result.1.now c.in_ok-run.ensures.len front c.split_at.ensures.back (c.in_ok-run.run'.first, c.in_ok-run.run'.last) c.in_ok-run.ensures.ok c.in-Some.field-0-0.now c.in-Some.next.now (with_pending c.add_run.new.ranks c.add_run.new.pending) (c.loop-run.offset + (c.in_ok-run.len + 1)) c.in-Some.ensures.cases.0 c.in_ok-add_run.ensures.ok (omega (arith, c.split_at.ensures.front_len, ap Rattle.std.proofs.Common.length (front ∙ sym c.split_at.ensures.front))) ∙ c.loop-run.invariant.ranks;
    }

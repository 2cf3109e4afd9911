use Rattle.std.proofs.Common.{◌≡◌, ◌∙◌, ◌-◌, ap, sym, drop, arith}
use Rattle.call_path.specs.Path.{shared_len}
use Rattle.arena_tree.proofs.SharedFrames.{SharesBehind, shares_behind, shared_turned, first_shared}
use Rattle.arena_tree.proofs.shared.common_behind.Goals.{After-common, After-common-then-j-eq0}
use Rattle.arena_tree.proofs.shared.common_behind.Goals as goal

-- where the first path is compared whole
counted : (c : After-common) → c.common.result ≡ shared_len (drop c.args.i c.args.own.now) (drop c.args.j c.args.other.now)
counted c = c.common.ensures ∙ ap (λ k. shared_len (drop k c.args.own.now) (drop c.args.j c.args.other.now)) (sym c.if-i-eq0.true)

shares : (c : After-common) → SharesBehind c.args.own.now c.args.other.now c.args.i c.args.j (c.common.result - 1)
shares c = shares_behind c.args.own.now c.args.other.now c.args.i c.args.j c.common.result c.requires.own c.requires.other c.requires.same (counted c)

pub overflow_sub-result : goal.overflow_sub-result
overflow_sub-result c =
    let one = first_shared c.args.own.now c.args.other.now c.args.i c.args.j c.requires.own c.requires.other c.requires.same in
    let count = counted c in
    omega (arith, one, count)

pub returns-then-i-eq0-clause-within_own : goal.returns-then-i-eq0-clause-within_own
returns-then-i-eq0-clause-within_own c = (shares c).within_own

pub returns-then-i-eq0-clause-within_other : goal.returns-then-i-eq0-clause-within_other
returns-then-i-eq0-clause-within_other c = (shares c).within_other

pub returns-then-i-eq0-clause-split : goal.returns-then-i-eq0-clause-split
returns-then-i-eq0-clause-split c = (shares c).split

-- where the second one is
counted_turned : (c : After-common-then-j-eq0) → c.common-then-j-eq0.result ≡ shared_len (drop c.args.i c.args.own.now) (drop c.args.j c.args.other.now)
counted_turned c =
    c.common-then-j-eq0.ensures ∙ shared_turned c.args.other.now (drop c.args.i c.args.own.now)
    ∙ ap (λ k. shared_len (drop c.args.i c.args.own.now) (drop k c.args.other.now)) (sym c.if-j-eq0.true)

shares_turned : (c : After-common-then-j-eq0) → SharesBehind c.args.own.now c.args.other.now c.args.i c.args.j (c.common-then-j-eq0.result - 1)
shares_turned c = shares_behind c.args.own.now c.args.other.now c.args.i c.args.j c.common-then-j-eq0.result c.requires.own c.requires.other c.requires.same (counted_turned c)

pub overflow_sub-result-then-j-eq0 : goal.overflow_sub-result-then-j-eq0
overflow_sub-result-then-j-eq0 c =
    let one = first_shared c.args.own.now c.args.other.now c.args.i c.args.j c.requires.own c.requires.other c.requires.same in
    let count = counted_turned c in
    omega (arith, one, count)

pub returns-then-j-eq0-clause-within_own : goal.returns-then-j-eq0-clause-within_own
returns-then-j-eq0-clause-within_own c = (shares_turned c).within_own

pub returns-then-j-eq0-clause-within_other : goal.returns-then-j-eq0-clause-within_other
returns-then-j-eq0-clause-within_other c = (shares_turned c).within_other

pub returns-then-j-eq0-clause-split : goal.returns-then-j-eq0-clause-split
returns-then-j-eq0-clause-split c = (shares_turned c).split

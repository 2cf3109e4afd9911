use Rattle.std.proofs.Common.{◌≡◌, Bool, List, ℕ, take, drop, sym, ap, subst, ◌∙◌, arith}
use Rattle.std.specs.List.{list_all}
use Rattle.packet_frame.specs.Scanning.{is_plain_ascii}
use Rattle.packet_frame.proofs.Blocks.{IsTested, tested_next, tested_all}
use Rattle.packet_frame.proofs.rows.many_plain_blocks.Goals as goal

pub loop-all-preserved : goal.loop-all-preserved
loop-all-preserved c =
    let field = c.args.field.now in
    let rest = c.loop-all.rest.now in
    let block : c.all_plain_ascii-all-in-loop-all.result ≡ list_all is_plain_ascii (take 16 rest) = c.all_plain_ascii-all-in-loop-all.ensures ∙ ap (list_all is_plain_ascii) c.split_at-in-loop-all.ensures.front in
    subst (λ (xs : List ℕ). IsTested is_plain_ascii 16 field xs c.all_plain_ascii-all-in-loop-all.result) (sym c.split_at-in-loop-all.ensures.back) (subst (λ (b : Bool). IsTested is_plain_ascii 16 field (drop 16 rest) b) (sym block) (tested_next is_plain_ascii 16 field rest c.loop-all.all c.loop-all.invariant c.loop-all-test.true c.if-rest-ge16.true))

pub returns-else-rest-ge16 : goal.returns-else-rest-ge16
returns-else-rest-ge16 c = tested_all is_plain_ascii 16 c.args.field.now c.loop-all.rest.now c.loop-all.all c.loop-all.invariant (omega (arith, c.if-rest-ge16.false)) (c.requires)

use Rattle.std.proofs.Common.{◌≡◌, ◌==◌, ◌<◌, Some, sym, ap, subst, ◌∙◌, length, get_or, []}
use Rattle.std.specs.Prelude.{find, slice_get, IsSome}
use Rattle.std.proofs.lemmas.Bool.{true≢false}
use Rattle.std.proofs.lemmas.List.{get_or_default}
use Rattle.rank_set.specs.Ranks.{none}
use Rattle.stat_plan.specs.Plans.{Plan, plan_of, stream_of, nodes, expected}
use Rattle.overlay_setup.specs.Scripts.{Stream}
use Rattle.overlay_setup.specs.Tables.{rows_view}
use Rattle.stat_plan.proofs.LookupLemmas.{expected_at, element_at}
use Rattle.stat_plan.proofs.TableLemmas.{row_items, rows_of}
use Rattle.stat_plan.proofs.plan.Plan.expected.Goals as goal

pub unreachable-requires : goal.unreachable-requires
unfolding stream_of
unreachable-requires c =
    true≢false (sym (subst IsSome (ap (find (λ (x : Stream). x.number == c.args.s)) (sym (c.streams.ensures ∙ ap (λ (p : Plan). p.streams) c.self.view_is)) ∙ c.in-None.ensures) c.requires.stream))

pub returns : goal.returns
unfolding stream_of
returns c =
    let p = plan_of c.self.inside.topology c.self.inside.samples c.self.inside.script in
    let within : c.args.n < nodes p = subst (λ p. c.args.n < nodes p) (sym c.self.view_is) c.requires.node in
    let inside : c.in-Some.i < length p.streams = subst (λ xs. c.in-Some.i < length xs) c.streams.ensures c.in-Some.ensures.0 in
    let x = element_at p.streams c.in-Some.i inside in
    let is : stream_of p c.args.s ≡ Some x.0 =
    ap (find (λ (x : Stream). x.number == c.args.s)) (sym c.streams.ensures) ∙ c.in-Some.ensures.1 ∙ ap (λ xs. slice_get xs c.in-Some.i) c.streams.ensures ∙ x.1 in
    let all = c.self.invariant.1.ranks in
    let tables = c.self.inside.expected.items in
    let row = c.index.result.now in
    let table : c.in-Some.i < length tables = subst (λ k. c.in-Some.i < k) (sym (rows_of tables ∙ all.paired)) inside in
    let items : get_or (rows_view tables) c.in-Some.i [] ≡ row.items = row_items tables c.in-Some.i row table c.index.ensures in
    let below : c.args.n < length row.items = subst (λ k. c.args.n < k) (sym (ap length (sym items) ∙ (all.each c.in-Some.i x.0 x.1).paired)) within in
    c.index-in-Some.ensures
    ∙ get_or_default row.items c.args.n c.index-in-Some.result.now none below
    ∙ ap (λ xs. get_or xs c.args.n none) (sym items)
    ∙ expected_at p (rows_view c.self.inside.expected.items) c.in-Some.i x.0 c.args.n c.args.s c.self.invariant.1.ranks x.1 is within
    ∙ ap (λ p. expected p c.args.n c.args.s) c.self.view_is

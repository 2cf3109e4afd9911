use Rattle.std.proofs.Common.{◌∙◌, ◌+◌, ◌-◌, ◌/◌, ◌<◌, sym, arith, length}
use Rattle.std.proofs.lemmas.List.{length-map}
use Rattle.prefix_tree.specs.Owned.{entry_of, entries_view}
use Rattle.prefix_tree.proofs.Places.{search_below, search_above, search_end, place_at, row_compared, halfway, no_entry}
use Rattle.prefix_tree.proofs.owned.find_row.Goals as goal

pub loop-low-preserved-in-Less : goal.loop-low-preserved-in-Less
loop-low-preserved-in-Less c =
    let rows = c.args.rows.now in
    let half = halfway c.loop-low.low c.loop-low.high c.loop-low-test.true in
    let inside : c.loop-low.low + (c.loop-low.high - c.loop-low.low) / 2 < length rows = let i = c.loop-low.invariant.inside in omega (arith, i, half.1, length-map rows entry_of) in
    let e = row_compared c.args.path.now rows _ c.index-rows-middle.result _ inside c.index-rows-middle.is (sym c.cmp.ensures ∙ c.in-Less.is) in
    search_below c.args.path.now (entries_view rows) c.requires c.loop-low.low c.loop-low.high _ c.loop-low.invariant half.0 half.1 e

pub loop-low-preserved : goal.loop-low-preserved
loop-low-preserved c =
    let rows = c.args.rows.now in
    let half = halfway c.loop-low.low c.loop-low.high c.loop-low-test.true in
    let inside : c.loop-low.low + (c.loop-low.high - c.loop-low.low) / 2 < length rows = let i = c.loop-low.invariant.inside in omega (arith, i, half.1, length-map rows entry_of) in
    let e = row_compared c.args.path.now rows _ c.index-rows-middle.result _ inside c.index-rows-middle.is (sym c.cmp.ensures ∙ c.in-Greater.is) in
    search_above c.args.path.now (entries_view rows) c.requires c.loop-low.low c.loop-low.high _ c.loop-low.invariant half.0 half.1 e

pub returns-in-Equal-clause-index : goal.returns-in-Equal-clause-index
returns-in-Equal-clause-index c =
    let rows = c.args.rows.now in
    let half = halfway c.loop-low.low c.loop-low.high c.loop-low-test.true in
    let inside : c.loop-low.low + (c.loop-low.high - c.loop-low.low) / 2 < length rows = let i = c.loop-low.invariant.inside in omega (arith, i, half.1, length-map rows entry_of) in
    let e = row_compared c.args.path.now rows _ c.index-rows-middle.result _ inside c.index-rows-middle.is (sym c.cmp.ensures ∙ c.in-Equal.is) in
    sym (place_at c.args.path.now (entries_view rows) no_entry _ c.requires (omega (arith, inside, length-map rows entry_of)) e)

pub returns-clause-index : goal.returns-clause-index
returns-clause-index c = search_end c.args.path.now (entries_view c.args.rows.now) c.loop-low.low c.loop-low.high c.loop-low.invariant c.loop-low-test.false

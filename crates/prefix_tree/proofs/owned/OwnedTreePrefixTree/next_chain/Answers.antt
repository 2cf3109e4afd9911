use Rattle.std.proofs.Common.{◌≡◌, ◌∙◌, ◌-◌, [], ◌∷◌, ap, sym, arith, length, subst}
use Rattle.std.specs.List.{slice_get}
use Rattle.std.specs.Option.{IfSome}
use Rattle.prefix_tree.specs.Tree.{rows_of}
use Rattle.prefix_tree.specs.Owned.{entries_view}
use Rattle.prefix_tree.specs.Chains.{shown, chain_rows}
use Rattle.prefix_tree.proofs.OwnedLemmas.{row_below, length-rows_of}
use Rattle.prefix_tree.proofs.ChainLemmas.{row_then}
use Rattle.prefix_tree.proofs.owned.OwnedTreePrefixTree.next_chain.Goals as goal

pub shown_chain-requires : goal.shown_chain-requires
shown_chain-requires c =
    let size = length-rows_of c.self.inside.coverage c.self.inside.rows.items c.self.invariant.tree.in_order in
    let same = ap (λ t. length (rows_of t)) c.self.view_is in
    omega (arith, c.requires.below_root, size, same, c.rows.ensures.count, c.if-i-rows.false, ap length c.deref.ensures.value)

pub returns-clause-rows : goal.returns-clause-rows
returns-clause-rows c =
    let below = c.requires.below_root in
    let there = ap (λ t. slice_get (rows_of t) c.args.at.now.row) (sym c.self.view_is)
    ∙ row_below c.self.inside.coverage c.self.inside.rows.items c.args.at.now.row c.self.invariant.tree.in_order (λ zero. omega (arith, below, zero))
    ∙ ap (λ rows. slice_get (entries_view rows) (c.args.at.now.row - 1)) (sym c.deref.ensures.value) in
    row_then (rows_of c.args.self.now) c.args.at.now.row (chain_rows c.shown_chain.result) (omega (arith, c.rows.ensures.count, c.if-i-rows.false))
    (subst (λ o. IfSome o (λ e. chain_rows c.shown_chain.result ≡ shown e ∷ [])) (sym there) c.shown_chain.ensures.rows)

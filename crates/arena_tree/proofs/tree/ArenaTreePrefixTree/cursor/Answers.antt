use Rattle.std.proofs.Common.{◌≡◌, ◌∙◌, ap, sym, subst, arith, length, [], List, reverse}
use Rattle.prefix_tree.specs.Tree.{IsLawful}
use Rattle.prefix_tree.specs.declared.WaitingNode.{WaitingNode}
use Rattle.arena_tree.specs.TreeView.{ArenaView}
use Rattle.arena_tree.specs.Cursors.{with_link, waiting_count, WalksOn, IsCursor}
use Rattle.arena_tree.proofs.Trees.{leads_first, lawful}
use Rattle.arena_tree.proofs.Views.{tree_is}
use Rattle.arena_tree.proofs.Walking.{walk_begins, link_waiting, link_count, waiting_few}
use Rattle.arena_tree.proofs.tree.ArenaTreePrefixTree.cursor.Goals as goal

pub put_link-requires : goal.put_link-requires
put_link-requires c =
    let own = c.self.inside in
    let tree = c.self.invariant.tree in
    let leads = leads_first own.coverage own.nodes.items own.first tree in
    let few = tree.within_limit in
    let all = tree.count in
    let waits = link_waiting own.nodes.items own.first 1 [] leads (omega (arith, few)) tt in
    let less = waiting_few own.nodes.items (with_link own.first 1 []) waits in
    let count = link_count own.nodes.items own.first 1 [] leads in
    let same = ap (λ (ws : List WaitingNode). length (with_link own.first 1 (reverse ws))) c.in_ok-waiting.ensures.items in
    omega (arith, less, count, same, all, c.len.ensures, c.in_ok-waiting.ensures.capacity)

pub returns-in_err-waiting-clause-lawful : goal.returns-in_err-waiting-clause-lawful
returns-in_err-waiting-clause-lawful c = subst IsLawful (tree_is c.self.view_is) (lawful c.self.inside.coverage c.self.inside.nodes.items c.self.inside.first c.self.invariant.tree)

pub returns-clause-lawful : goal.returns-clause-lawful
returns-clause-lawful c = subst IsLawful (tree_is c.self.view_is) (lawful c.self.inside.coverage c.self.inside.nodes.items c.self.inside.first c.self.invariant.tree)

pub returns-clause-cursor : goal.returns-clause-cursor
returns-clause-cursor c =
    let own = c.self.inside in
    let tree = c.self.invariant.tree in
    let leads = leads_first own.coverage own.nodes.items own.first tree in
    let few = tree.within_limit in
    let all = tree.count in
    let items : reverse c.put_link.new.waiting.items ≡ with_link own.first 1 [] =
    c.put_link.ensures.waiting ∙ ap (λ (ws : List WaitingNode). with_link own.first 1 (reverse ws)) c.in_ok-waiting.ensures.items in
    let count = link_count own.nodes.items own.first 1 [] leads in
    let same = ap (waiting_count own.nodes.items) items in
    subst (λ (v : ArenaView). IsCursor v.nodes v.first (record { row = 1; waiting = c.put_link.new.waiting; frame = 0 })) c.self.view_is
    (record {
      walk = subst (WalksOn own.nodes.items own.first 1 0) (sym items) (walk_begins own.nodes.items own.first leads (omega (arith, few)));
      room = omega (arith, count, same, all, c.len.ensures, c.in_ok-waiting.ensures.capacity, c.put_link.ensures.capacity);
    })

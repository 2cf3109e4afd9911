use Rattle.std.proofs.Common.{◌≡◌, ◌^◌, ◌<◌, List, [], ◌∷◌, ◌++◌, length, Option, Some, sym, ap, ◌∙◌, subst, arith}
use Rattle.atomic_table.specs.Table.{opening}
use Rattle.board_turn.specs.Turns.{TableInvariant, first_view}
use Rattle.board_turn.proofs.Steps.{starts}
use Rattle.board_turn.proofs.turn.Turn.new.Goals as goal

pub new-requires : goal.new-requires
new-requires g c = let X : Type 0 = g.row.B.Denot in let j = g.B.Board.journal in let h = g.B.Board.holders in let b = g.B.Board.base in
    let within_limit : length (h c.args.board) < 2 ^ 32 = omega (arith, c.nodes-nodes.ensures, c.nodes-nodes.type_inv) in
    let items : c.push.new.self.items ≡ Some c.args.board ∷ [] = c.in_default.ensures.items ∙ ap (λ (l : List (Option X)). l ++ Some c.args.board ∷ []) c.new-slots.ensures.items in
    subst (λ (z : X × List (Option X)). TableInvariant j h b z.0 (opening (0 ∷ 0 ∷ 0 ∷ 0 ∷ []) z.1 (first_view (length (h z.0))))) (λ i. (sym c.of-about.ensures i, sym items i)) (starts j h b c.args.board c.requires.empty_journal c.requires.all_home within_limit)

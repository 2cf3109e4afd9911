use Rattle.std.proofs.Common.{sym, ◌∙◌, subst, refl}
use Rattle.std.proofs.lemmas.Bool.{true≢false}
use Rattle.overlay_run.specs.Boards.{BoardView, IsDone, board_view}
use Rattle.overlay_run.proofs.Boards.{done_where_none, not_done_where_out}
use Rattle.overlay_run.proofs.board.NetBoard.is_done.Goals as goal

pub returns-then-self-ne0 : goal.returns-then-self-ne0
returns-then-self-ne0 g c =
    let b = c.self.inside in
    let v : BoardView = board_view b.plan.now b.net b.journal b.holders.items b.stopped in
    (λ t. absurd (true≢false (sym t)), λ done. absurd (not_done_where_out v b.nodes_out c.self.invariant.0 c.self.invariant.1 c.if-self-ne0.true (subst IsDone (sym c.self.view_is) done)))

pub returns-in-None : goal.returns-in-None
returns-in-None g c =
    let b = c.self.inside in
    let v : BoardView = board_view b.plan.now b.net b.journal b.holders.items b.stopped in
    (λ t. subst IsDone c.self.view_is (done_where_none v b.nodes_out c.self.invariant.0 c.self.invariant.1 c.if-self-ne0.false (sym c.in-None.is ∙ c.claimable.ensures)), λ done. refl)

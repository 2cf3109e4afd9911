use Rattle.std.proofs.Common.{sym, subst}
use Rattle.overlay_core.specs.TreeReleases.{releases_view}
use Rattle.overlay_run.specs.Boards.{BoardView, IsDone, IsWholeRun, board_view}
use Rattle.overlay_run.proofs.Boards.{whole_run}
use Rattle.overlay_run.proofs.board.NetBoard.into_ran.Goals as goal

pub returns : goal.returns
returns g c =
    let b = c.self.inside in
    let v : BoardView = board_view b.plan.now b.net b.journal b.holders.items b.stopped in
    let releases = releases_view g.T.PrefixTree.tree c.into_releases.result.items in
    let run = whole_run v releases c.invariant.ensures c.self.invariant.0 (subst IsDone (sym c.self.view_is) c.requires) c.into_releases.ensures in
    subst (λ (v : BoardView). IsWholeRun v.plan b.journal releases) c.self.view_is run

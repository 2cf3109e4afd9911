use Rattle.std.proofs.Common.{◌-◌, sym, subst}
use Rattle.call_path.specs.Path.{Path}
use Rattle.prefix_tree.specs.Tree.{Tree}
use Rattle.packet_frame.specs.FrameRows.{HasGrown}
use Rattle.packet_frame.proofs.Growing.{named_more, named_room, named_covered}
use Rattle.packet_frame.proofs.scan.Scan.end_row.Goals as goal

pub grow-requires-clause-covered : goal.grow-requires-clause-covered
grow-requires-clause-covered g c κs within = named_covered c.args.self.now c.requires.named c.args.ends c.requires.covered

pub grow-requires-clause-room : goal.grow-requires-clause-room
grow-requires-clause-room g c κs within = named_room c.args.self.now c.requires.named c.args.ends

pub next_row-requires-after_bounds : goal.next_row-requires-after_bounds
next_row-requires-after_bounds g c κs within =
    let s = c.args.self.now in
    record {
      kind = c.requires.named.kind;
      covered = c.requires.named.covered;
      grown =
          subst (λ (p : Path). HasGrown s.cover.ranks c.grow.new.self p (s.row.left - 1)) (sym c.in_ok-grow.ensures.path) (
          subst (λ (t : Tree). HasGrown s.cover.ranks t s.row.path (s.row.left - 1)) (sym c.in_ok-grow.ensures.tree) (named_more s c.requires.named c.args.ends));
    }

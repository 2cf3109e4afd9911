use Rattle.std.proofs.Common.{arith}
use Rattle.capture_text.specs.CaptureText.{packet_views}
use Rattle.capture_text.proofs.Pieces.{cut_in_two, nothing_left, count_views, error_is, room, place_fits, count_fits, reads_piece, refused_piece, reads_all, ends_short}
use Rattle.capture_text.proofs.reading.capture_text.Goals as goal

pub returns-in_err-packets-clause-refusal : goal.returns-in_err-packets-clause-refusal
returns-in_err-packets-clause-refusal g c =
    let parts = cut_in_two c.loop-left.left.now c.split_at.result.0.now c.split_at.result.1.now c.min.result c.split_at.ensures.front c.split_at.ensures.back in
    let refused = refused_piece c.args.bytes.now c.loop-left.left.now c.split_at.result.0.now c.split_at.result.1.now c.loop-left.feeder c.loop-left.printer.text.items c.loop-left.printer.at c.loop-left.printer.frames c.feed.new.self c.in_err-packets.field-0.0 c.loop-left.invariant parts c.in_err-packets.ensures.feeds in
    error_is c.from_residual.result c.in_err-packets.field-0.0 c.args.bytes.now c.from_residual.ensures.1 refused

pub write-requires-clause-offset : goal.write-requires-clause-offset
write-requires-clause-offset g c κs within =
    let read = c.loop-left.invariant in
    let parts = cut_in_two c.loop-left.left.now c.split_at.result.0.now c.split_at.result.1.now c.min.result c.split_at.ensures.front c.split_at.ensures.back in
    let fits = place_fits c.args.bytes.now c.loop-left.left.now c.split_at.result.0.now c.loop-left.feeder c.loop-left.printer.text.items c.loop-left.printer.at c.loop-left.printer.frames (packet_views g.T.PrefixTree.tree c.in_ok-packets.packets.items) c.feed.new.self read c.in_ok-packets.ensures.feeds c.in_ok-packets.ensures.total in
    let within_bytes = room c.args.bytes.now c.loop-left.left.now c.split_at.result.0.now c.split_at.result.1.now c.loop-left.feeder c.loop-left.printer.text.items c.loop-left.printer.at c.loop-left.printer.frames read parts in
    omega (arith, fits, within_bytes)

pub write-requires-clause-count : goal.write-requires-clause-count
write-requires-clause-count g c κs within =
    let read = c.loop-left.invariant in
    let parts = cut_in_two c.loop-left.left.now c.split_at.result.0.now c.split_at.result.1.now c.min.result c.split_at.ensures.front c.split_at.ensures.back in
    let fits = count_fits c.args.bytes.now c.loop-left.left.now c.split_at.result.0.now c.loop-left.feeder c.loop-left.printer.text.items c.loop-left.printer.at c.loop-left.printer.frames (packet_views g.T.PrefixTree.tree c.in_ok-packets.packets.items) c.feed.new.self read c.in_ok-packets.ensures.feeds c.in_ok-packets.ensures.total in
    let within_bytes = room c.args.bytes.now c.loop-left.left.now c.split_at.result.0.now c.split_at.result.1.now c.loop-left.feeder c.loop-left.printer.text.items c.loop-left.printer.at c.loop-left.printer.frames read parts in
    omega (arith, fits, within_bytes)

pub loop-left-preserved : goal.loop-left-preserved
loop-left-preserved g c =
    let parts = cut_in_two c.loop-left.left.now c.split_at.result.0.now c.split_at.result.1.now c.min.result c.split_at.ensures.front c.split_at.ensures.back in
    reads_piece c.args.bytes.now c.loop-left.left.now c.split_at.result.0.now c.split_at.result.1.now c.loop-left.feeder c.loop-left.printer.text.items c.loop-left.printer.at c.loop-left.printer.frames
    (packet_views g.T.PrefixTree.tree c.in_ok-packets.packets.items) c.feed.new.self c.write.new.self.text.items c.write.new.self.at c.write.new.self.frames
    c.loop-left.invariant parts c.in_ok-packets.ensures.feeds c.in_ok-packets.ensures.total c.in_ok-write.ensures.text c.in_ok-write.ensures.offset (count_views g.T.PrefixTree.tree c.in_ok-packets.packets.items c.loop-left.printer.frames c.write.new.self.frames c.in_ok-write.ensures.count)

pub returns-in_err-finish-clause-refusal : goal.returns-in_err-finish-clause-refusal
returns-in_err-finish-clause-refusal g c =
    let none = nothing_left c.loop-left.left.now c.loop-left-test.ensures in
    let refused = ends_short c.args.bytes.now c.loop-left.left.now c.loop-left.feeder c.loop-left.printer.text.items c.loop-left.printer.at c.loop-left.printer.frames c.in_err-finish.field-0.0 c.loop-left.invariant none c.in_err-finish.ensures in
    error_is c.from_residual-in_err-finish.result c.in_err-finish.field-0.0 c.args.bytes.now c.from_residual-in_err-finish.ensures.1 refused

pub returns-clause-text : goal.returns-clause-text
returns-clause-text g c =
    let none = nothing_left c.loop-left.left.now c.loop-left-test.ensures in
    reads_all c.args.bytes.now c.loop-left.left.now c.loop-left.feeder c.loop-left.printer.text.items c.loop-left.printer.at c.loop-left.printer.frames c.in_ok-end.field-0.items
    c.loop-left.invariant none c.in_ok-finish.ensures.1 c.in_ok-end.ensures

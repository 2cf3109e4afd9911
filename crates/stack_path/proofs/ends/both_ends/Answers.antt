use Rattle.stack_path.proofs.EndViews.{all_fit, ends_fit}
use Rattle.stack_path.proofs.ends.both_ends.Goals as goal

pub returns-then-frames-le-FRAME_LIMIT : goal.returns-then-frames-le-FRAME_LIMIT
returns-then-frames-le-FRAME_LIMIT c =
    all_fit c.args.frames.now c.new-path.result c.push_frames.new.path c.if-frames-le-FRAME_LIMIT.true c.new-path.ensures
    c.in_ok-push_frames.ensures

pub returns : goal.returns
returns c =
    ends_fit c.args.frames.now c.split_at.result.0.now c.split_at-2.result.1.now c.new-path.result c.push_frames-2.new.path
    c.push.new.self c.push_frames-3.new.path c.if-frames-le-FRAME_LIMIT.false c.split_at.ensures.front c.split_at-2.ensures.back
    c.new-path.ensures c.in_ok-push_frames-2.ensures c.in_ok-push.ensures.ok c.in_ok-push_frames-3.ensures

use Rattle.std.proofs.Common.{◌∙◌}
use Rattle.std.specs.Ordering.{nat_cmp}
use Rattle.call_path.proofs.TextOrders.{path_cmp_at}
use Rattle.call_path.proofs.frame_text.FrameText.cmp.Goals as goal

pub returns : goal.returns
returns c =
    let first = c.first_difference-offset.ensures in
    c.cmp.ensures
    ∙ (λ k. nat_cmp (c.rank_at.ensures k) (c.rank_at-2.ensures k))
    ∙ path_cmp_at c.args.self.now c.args.other.now c.text.ensures.good c.text-2.ensures.good c.as_bytes-text.result.now c.as_bytes-other_text.result.now
    (c.as_bytes-text.ensures.value ∙ c.text.ensures.text) (c.as_bytes-other_text.ensures.value ∙ c.text-2.ensures.text)
    c.first_difference-offset.result first.left first.right first.same first.differ

use Rattle.std.proofs.Common.{◌∙◌, List, slice_get, sym, ap, subst}
use Rattle.std.specs.Prelude.{option_map}
use Rattle.std.proofs.lemmas.List.{get_or_past, get_or_read}
use Rattle.node_inbox.specs.Inboxes.{queue_of}
use Rattle.node_inbox.specs.Sends.{inbox_at, no_inbox}
use Rattle.overlay_net.specs.Frames.{frame_bytes}
use Rattle.overlay_net.specs.Inboxes.{FrameInbox}
use Rattle.overlay_net.specs.Nets.{AllHome, NetView, state_of}
use Rattle.overlay_net.proofs.FirstFrames.{first_on_link}
use Rattle.overlay_net.proofs.net.Net.first_frame.Goals as goal

pub returns-in-Some : goal.returns-in-Some
returns-in-Some g c =
    let n = c.args.n in
    let m = c.args.m in
    let box = c.in-Some.inbox.now in
    let net = c.self.invariant (ap (λ (v : NetView). v.failed) c.self.view_is ∙ c.requires.usable) in
    c.first.ensures
    ∙ ap (λ (b : FrameInbox). slice_get (queue_of b.waiting m) 0) (get_or_read c.deref.result.now n box c.in-Some.ensures.lookup.3.0 c.in-Some.ensures.lookup.1 no_inbox)
    ∙ ap (λ (boxes : List FrameInbox). slice_get (queue_of (inbox_at boxes n) m) 0) c.deref.ensures.value
    ∙ first_on_link g.T.PrefixTree.tree c.self.inside.plan.now c.self.inside.state n m net (subst AllHome (sym c.self.view_is) c.requires.home)
    ∙ ap (λ (v : NetView). option_map (frame_bytes v.plan) (slice_get ((state_of v).link m n) 0)) c.self.view_is

pub returns-in-None : goal.returns-in-None
returns-in-None g c =
    let n = c.args.n in
    let m = c.args.m in
    let net = c.self.invariant (ap (λ (v : NetView). v.failed) c.self.view_is ∙ c.requires.usable) in
    ap (λ (b : FrameInbox). slice_get (queue_of b.waiting m) 0) (sym (get_or_past c.deref.result.now n no_inbox c.in-None.ensures.lookup.3))
    ∙ ap (λ (boxes : List FrameInbox). slice_get (queue_of (inbox_at boxes n) m) 0) c.deref.ensures.value
    ∙ first_on_link g.T.PrefixTree.tree c.self.inside.plan.now c.self.inside.state n m net (subst AllHome (sym c.self.view_is) c.requires.home)
    ∙ ap (λ (v : NetView). option_map (frame_bytes v.plan) (slice_get ((state_of v).link m n) 0)) c.self.view_is

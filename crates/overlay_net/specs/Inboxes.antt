-- The inboxes of a net: what waits in them are frames, as their bytes.
use Rattle.std.specs.Prelude.{ℕ, List}
use Rattle.node_inbox.specs.Inboxes.{InboxView, Waiting}

abbrev pub FrameInbox : Type 0
FrameInbox = InboxView (List ℕ)

-- what waits for a node, by sender
abbrev pub WaitingFrames : Type 0
WaitingFrames = Waiting (List ℕ)

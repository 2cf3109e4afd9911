use Rattle.std.proofs.Common.{◌==◌, ◌∙◌, ap, subst, sym}
use Rattle.std.specs.List.{list_any}
use Rattle.std.specs.List.Sorted.{IsStrictlySortedBy}
use Rattle.std.specs.Ordering.{nat_cmp}
use Rattle.node_inbox.specs.Inboxes.{InboxView, is_waiting}
use Rattle.node_inbox.specs.Queues.{waiting_view}
use Rattle.node_inbox.proofs.Queues.{senders_increase, waiting_by_senders}
use Rattle.node_inbox.proofs.Searches.{search_tells}
use Rattle.node_inbox.proofs.inbox.Inbox.is_waiting.Goals as goal

pub returns : goal.returns
returns g c =
    let inside = c.self.inside in
    let listed = c.as_slice.ensures.value ∙ c.self.invariant.senders in
    c.is_ok.ensures.value
    ∙ search_tells c.as_slice.result.now c.args.sender c.binary_search.result c.binary_search.ensures.position
    (subst (IsStrictlySortedBy nat_cmp) (sym listed) (senders_increase inside.queues.entries c.self.invariant.increasing))
    ∙ ap (list_any (λ s. s == c.args.sender)) listed
    ∙ sym (waiting_by_senders (waiting_view inside.queues.entries) c.args.sender)
    ∙ ap (λ (b : InboxView g.row.T.Denot). is_waiting b.waiting c.args.sender) c.self.view_is

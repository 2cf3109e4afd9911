use Rattle.std.proofs.Common.{◌≡◌, ◌∙◌, ◌∷◌, List, [], Option, Some, None, Bor, option_copied, slice_get, refl, sym, ap, arith}
use Rattle.std.proofs.lemmas.Bool.{true≢false}
use Rattle.std.specs.Slice.{IsItemAt}
use Rattle.node_inbox.specs.Inboxes.{InboxView, queue_of}
use Rattle.node_inbox.proofs.Queues.{found, queue_by_lookup}
use Rattle.node_inbox.proofs.inbox.Inbox.first.Goals as goal

-- what is lent is the item
item_is : {X : Type 0} (xs : List X) (o : Option (Bor X)) → IsItemAt xs 0 o → option_copied o ≡ slice_get xs 0
item_is [] None is = refl
item_is [] (Some x) is = absurd (true≢false is.0)
item_is (x ∷ xs) None is = absurd (true≢false (sym (is.2 (omega arith))))
item_is (x ∷ xs) (Some y) is = ap Some is.1

pub returns-in-Some : goal.returns-in-Some
returns-in-Some g c =
    let v = c.in-Some.queue.now in
    item_is v.items c.front.result c.front.ensures.item
    ∙ sym (ap (λ (b : InboxView g.row.T.Denot). slice_get (queue_of b.waiting c.args.sender) 0) (sym c.self.view_is)
    ∙ ap (λ xs. slice_get xs 0) (queue_by_lookup c.args.sender c.self.inside.queues.entries c.self.invariant.increasing ∙ ap found (sym c.in-Some.ensures.value)))

pub returns-in-None : goal.returns-in-None
returns-in-None g c =
    sym (ap (λ (b : InboxView g.row.T.Denot). slice_get (queue_of b.waiting c.args.sender) 0) (sym c.self.view_is)
    ∙ ap (λ xs. slice_get xs 0) (queue_by_lookup c.args.sender c.self.inside.queues.entries c.self.invariant.increasing ∙ ap found (sym c.in-None.ensures.value)))

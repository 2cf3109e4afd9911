use Rattle.std.proofs.Common.{◌∙◌, ap}
use Rattle.wave_resend.specs.Books.{book_of, keys_of, next_empty}
use Rattle.overlay_node.specs.NodeViews.{NodeView}
use Rattle.overlay_node.proofs.Reading.{next_is}
use Rattle.overlay_node.proofs.node.Node.next_sample.Goals as goal

pub returns : goal.returns
returns g c p plan fits there =
    c.next_empty.ensures
    ∙ ap (λ (v : NodeView). next_empty c.args.s (keys_of v.book) (book_of v.book)) c.self.view_is
    ∙ next_is p c.args.self.now.number c.args.s (keys_of c.args.self.now.book) (book_of c.args.self.now.book) fits.keys there

use Rattle.std.proofs.Common.{refl, drop, ◌∷◌, []}
use Rattle.wave_resend.specs.Books.{book_of}
use Rattle.overlay_node.specs.Acting.{told}
use Rattle.overlay_node.specs.NodeViews.{held_keys}
use Rattle.overlay_node.proofs.Telling.{AreLeft, told_step}
use Rattle.overlay_node.proofs.losses.tell_closed.Given as goal

abbrev pub invariant-loop-wave : goal.invariant-loop-wave
invariant-loop-wave g l =
    AreLeft l.plan (λ v. told l.plan (book_of l.book) l.to (v ∷ [])) (told l.plan (book_of l.book) l.to) (told_step l.plan (book_of l.book) l.to) refl
    l.fn.sends.items l.sends.items (drop l.wave-index (held_keys l.held)) (held_keys l.held)

use Rattle.std.proofs.Common.{◌≡◌, ℕ, ◌-◌, Bool, true, take, slice_get, [], ◌∷◌, ◌++◌, List, sym, ap, ◌∙◌, Ok, None}
use Rattle.packet_frame.specs.declared.error.FrameReason.TheVariants.{NotCanonical}
use Rattle.packet_frame.specs.Fields.{broken, ◌>>=◌}
use Rattle.packet_frame.specs.Frame.{name_form, is_name, is_after, ends_needed, ends_rule, set_form, word_limit, path_at, ranks_at}
use Rattle.packet_frame.specs.Scanning.{name_then, after_ends, is_last}
use Rattle.packet_frame.proofs.Binding.{take_field}
use Rattle.packet_frame.proofs.Rowing.{ends_follow}
use Rattle.packet_frame.proofs.scan.Scan.take_name.Goals as goal

pub returns-clause-takes : goal.returns-clause-takes
unfolding name_form
returns-clause-takes g c =
    let s = c.args.self.now in
    let bytes = c.args.field.now in
    let good : is_name bytes ≡ true = c.in-Some.ensures.good in
    let after : is_after (slice_get s.row.path (s.row.depth - 1)) bytes ≡ true = sym c.is_in_order.ensures ∙ c.if-not-is_in_order.false in
    let fine : broken ((is_name bytes, NotCanonical) ∷ (is_after (slice_get s.row.path (s.row.depth - 1)) bytes, NotCanonical) ∷ []) ≡ None = ap (λ (b : Bool). broken ((b, NotCanonical) ∷ (is_after (slice_get s.row.path (s.row.depth - 1)) bytes, NotCanonical) ∷ [])) good ∙ ap (λ (b : Bool). broken ((b, NotCanonical) ∷ [])) after in
    let path : c.push.new.self ≡ path_at s.row.path s.row.depth bytes = c.in_ok-push.ensures.ok ∙ ap (λ (front : List (List ℕ)). front ++ c.in-Some.name.now ∷ []) c.cut.ensures ∙ ap (λ (name : List ℕ). take (s.row.depth - 1) s.row.path ++ name ∷ []) c.in-Some.ensures.some in
    take_field s.row.name_length (λ field. broken ((is_name field, NotCanonical) ∷ (is_after (slice_get s.row.path (s.row.depth - 1)) field, NotCanonical) ∷ [])) (name_then s) bytes fine ∙ ap Ok (ends_follow s.version s.stream s.wave s.cover.ranks s.tree s.row.depth s.row.left (is_last s.row.left) (path_at s.row.path s.row.depth bytes) ∙ ap (λ p. set_form (word_limit s.version) (ends_needed s.row.depth (is_last s.row.left)) (ends_rule s.version s.cover.ranks) >>= λ numbers. after_ends s.version s.stream s.wave s.cover.ranks s.tree p s.row.left (ranks_at s.version s.cover.ranks numbers)) (sym path))

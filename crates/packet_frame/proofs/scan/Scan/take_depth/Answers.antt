use Rattle.std.proofs.Common.{rules, ◌≡◌, ℕ, ◌+◌, ◌-◌, ◌&&◌, ◌||◌, nat_eq, nat_le, length, [], ◌∷◌, refl, ap, ◌∙◌, None, Some, arith}
use Rattle.std.specs.Int.{w8}
use Rattle.packet_frame.specs.declared.error.FrameReason.TheVariants.{OverLimit, NotCanonical}
use Rattle.packet_frame.specs.Fields.{broken, after_field, Rules}
use Rattle.packet_frame.specs.Frame.{depth_form}
use Rattle.packet_frame.proofs.Binding.{take_number, refuse_number}
use Rattle.packet_frame.proofs.Rowing.{row_follows, depth_then}
use Rattle.packet_frame.proofs.scan.Scan.take_depth.Goals as goal

pub returns-then-depth-next-2-clause-takes : goal.returns-then-depth-next-2-clause-takes
unfolding depth_form
returns-then-depth-next-2-clause-takes g c =
    let s = c.args.self.now in
    let n = c.u8_of-depth.result in
    let rules_of : ℕ → Rules = λ n. (nat_le n 128, OverLimit) ∷ (nat_le 1 n && nat_le n (length s.row.path + 1), NotCanonical) ∷ (s.row.ended || nat_eq n (length s.row.path + 1), NotCanonical) ∷ [] in
    let wrong : broken ((nat_le n 128, OverLimit) ∷ (nat_le 1 n && nat_le n (length s.row.path + 1), NotCanonical) ∷ (s.row.ended || nat_eq n (length s.row.path + 1), NotCanonical) ∷ []) ≡ Some NotCanonical = search rules in
    let follows = row_follows s.version s.stream s.wave s.cover.ranks s.tree s.row.path s.row.ended s.row.left (s.row.left - 1) (omega (arith, c.requires.ready.1)) in
    (ap (λ form. after_field form c.args.field.now) follows ∙ refuse_number w8 rules_of (depth_then s.version s.stream s.wave s.cover.ranks s.tree s.row.path s.row.left (s.row.left - 1)) c.args.field.now n NotCanonical c.u8_of-depth.ensures wrong, refl)

pub returns-clause-takes : goal.returns-clause-takes
unfolding depth_form
returns-clause-takes g c =
    let s = c.args.self.now in
    let n = c.u8_of-depth.result in
    let rules_of : ℕ → Rules = λ n. (nat_le n 128, OverLimit) ∷ (nat_le 1 n && nat_le n (length s.row.path + 1), NotCanonical) ∷ (s.row.ended || nat_eq n (length s.row.path + 1), NotCanonical) ∷ [] in
    let fine : broken ((nat_le n 128, OverLimit) ∷ (nat_le 1 n && nat_le n (length s.row.path + 1), NotCanonical) ∷ (s.row.ended || nat_eq n (length s.row.path + 1), NotCanonical) ∷ []) ≡ None = search rules in
    let follows = row_follows s.version s.stream s.wave s.cover.ranks s.tree s.row.path s.row.ended s.row.left (s.row.left - 1) (omega (arith, c.requires.ready.1)) in
    ap (λ form. after_field form c.args.field.now) follows ∙ take_number w8 rules_of (depth_then s.version s.stream s.wave s.cover.ranks s.tree s.row.path s.row.left (s.row.left - 1)) c.args.field.now n c.u8_of-depth.ensures fine

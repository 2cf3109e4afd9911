use Rattle.std.proofs.Common.{rules, ◌≡◌, ◌<◌, ◌≤◌, ◌+◌, ◌^◌, length, sym, ap, ◌∙◌, arith, length-append, subst}
use Rattle.packet_frame.specs.Feeding.{IsWithin}
use Rattle.packet_frame.proofs.Feeds.{gave}
use Rattle.packet_frame.proofs.feeder.Feeder.feed.Goals as goal

pub overflow_add-at : goal.overflow_add-at
overflow_add-at g c =
    let len : length c.extend_from_slice.new.self.items ≡ length c.self.inside.rest.items + length c.args.piece.now = ap length c.in_ok-extend_from_slice.ensures.items ∙ length-append c.self.inside.rest.items c.args.piece.now in
    let room = subst (λ f. f.before + length f.rest + length c.args.piece.now < 2 ^ 64) (sym c.self.view_is) c.requires in
    let within : c.in-Err-Refused.at ≤ length c.extend_from_slice.new.self.items = subst (IsWithin c.extend_from_slice.new.self.items) c.in-Err-Refused.field-0-is c.in-Err-Refused.ensures.offset in
    let lt : c.self.inside.before + c.in-Err-Refused.at < 2 ^ 64 = omega (arith, len, room, within) in
    search rules

pub returns-in-Ok-clause-feeds : goal.returns-in-Ok-clause-feeds
returns-in-Ok-clause-feeds g c =
    gave c.args.self.now c.self.inside.before c.self.inside.rest.items c.args.piece.now c.extend_from_slice.new.self.items c.packets_in.new.rest.items c.in-Ok.taken c.self.inside.refusal c.packets_in.new.reader _ (sym c.self.view_is) c.in_default.is c.in_ok-extend_from_slice.ensures.items c.in-Ok.ensures.rest c.in-Ok.ensures.frames

use Rattle.std.proofs.Common.{rules, ◌≡◌, nat_lt, [], ◌∷◌, ap, ◌∙◌, None}
use Rattle.std.specs.Int.{w16}
use Rattle.packet_frame.specs.declared.error.FrameReason.TheVariants.{OverLimit}
use Rattle.packet_frame.specs.Fields.{broken, ◌>>=◌, after_field}
use Rattle.packet_frame.specs.Frame.{offset_form, word_count_form, word_limit}
use Rattle.packet_frame.specs.Scanning.{needed, word_rule, words_left, set_then}
use Rattle.packet_frame.proofs.Binding.{take_number}
use Rattle.packet_frame.proofs.Setting.{set_follows}
use Rattle.packet_frame.proofs.scan.Scan.take_offset.Goals as goal

pub returns-clause-takes : goal.returns-clause-takes
unfolding offset_form
returns-clause-takes g c =
    let s = c.args.self.now in
    let n = c.u16_of-offset.result in
    let fine : broken ((nat_lt n (word_limit s.version), OverLimit) ∷ []) ≡ None = search rules in
    ap (λ form. after_field form c.args.field.now) (set_follows (word_rule s.set.part s.version s.cover.ranks) (set_then s) (word_limit s.version) (needed s.set.part s.row.depth s.row.left))
    ∙ take_number w16 (λ n. (nat_lt n (word_limit s.version), OverLimit) ∷ []) (λ offset. word_count_form (word_limit s.version) (needed s.set.part s.row.depth s.row.left) offset >>= λ count. words_left (word_rule s.set.part s.version s.cover.ranks) offset [] count >>= set_then s) c.args.field.now n c.u16_of-offset.ensures fine

use Rattle.std.proofs.Common.{rules, ◌≡◌, ℕ, true, false, nat_eq, nat_lt, [], ◌∷◌, ap, ◌∙◌, Ok, None}
use Rattle.std.specs.Int.{w8}
use Rattle.packet_frame.specs.declared.error.FrameReason.TheVariants.{OverLimit}
use Rattle.packet_frame.specs.Fields.{broken, ◌>>=◌}
use Rattle.packet_frame.specs.Scanning.{with_tree}
use Rattle.packet_frame.specs.Frame.{is_first, wave_form, content_form}
use Rattle.packet_frame.proofs.Binding.{words_follow, runs_follow, take_number}
use Rattle.packet_frame.proofs.scan.Scan.take_wave.Goals as goal

pub returns-then-self-eq1-clause-takes : goal.returns-then-self-eq1-clause-takes
unfolding wave_form
returns-then-self-eq1-clause-takes g c =
    let fine : broken ((nat_lt c.u8_of-wave.result 16, OverLimit) ∷ []) ≡ None = search rules in
    let first : is_first c.args.self.now.version ≡ true = ap (λ (n : ℕ). nat_eq n 1) c.if-self-eq1.true in
    take_number w8 (λ n. (nat_lt n 16, OverLimit) ∷ []) (λ wave. content_form c.args.self.now.version c.args.self.now.kind c.args.self.now.stream wave >>= with_tree) c.args.field.now c.u8_of-wave.result c.u8_of-wave.ensures fine
    ∙ ap Ok (words_follow c.args.self.now.version c.args.self.now.kind c.args.self.now.stream c.u8_of-wave.result c.if-self-ne-UP.false first)

pub returns-else-self-eq1-clause-takes : goal.returns-else-self-eq1-clause-takes
unfolding wave_form
returns-else-self-eq1-clause-takes g c =
    let fine : broken ((nat_lt c.u8_of-wave.result 16, OverLimit) ∷ []) ≡ None = search rules in
    let second : is_first c.args.self.now.version ≡ false = search rules in
    take_number w8 (λ n. (nat_lt n 16, OverLimit) ∷ []) (λ wave. content_form c.args.self.now.version c.args.self.now.kind c.args.self.now.stream wave >>= with_tree) c.args.field.now c.u8_of-wave.result c.u8_of-wave.ensures fine
    ∙ ap Ok (runs_follow c.args.self.now.version c.args.self.now.kind c.args.self.now.stream c.u8_of-wave.result c.if-self-ne-UP.false second)

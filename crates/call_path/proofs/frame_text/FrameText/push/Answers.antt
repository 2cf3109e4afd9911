use Rattle.std.proofs.Common.{◌∙◌, ◌≡◌, [], ◌∷◌, ◌++◌, ap, arith, length, string_bytes}
use Rattle.std.specs.Prelude.{◌==◌}
use Rattle.call_path.proofs.Held.{longer, push_short, push_cuts, push_is}
use Rattle.call_path.proofs.frame_text.FrameText.push.Goals.{then-not-first+in_ok-push, else-not-first}
use Rattle.call_path.proofs.frame_text.FrameText.push.Goals as goal

pub overflow_cast-as_str : goal.overflow_cast-as_str
overflow_cast-as_str c =
    let ends_stay = c.as_slice.ensures in
    let is : string_bytes c.push_str.new.self ≡ longer (length c.self.inside.ends.items == 0) (string_bytes c.self.inside.text) c.args.frame.now =
    c.in_ok-push_str.ensures.bytes
    ∙ elim c.if-not-first.branch [
      | then-not-first+in_ok-push w ↦
          ap (λ s. string_bytes s.text ++ c.args.frame.now) w.self-inside-is
          ∙ ap (λ t. t ++ c.args.frame.now) (w.in_ok-push.ensures.bytes ∙ (λ k. c.in_ok-ensure_room.ensures.text k ++ w.in_ok-push.ensures.ascii (omega arith) k))
          ∙ ap (λ b. longer b (string_bytes c.self.inside.text) c.args.frame.now) (w.if-not-first.ensures ∙ ap (λ xs. length xs == 0) ends_stay)
      | else-not-first w ↦
          ap (λ s. string_bytes s.text ++ c.args.frame.now) w.self-inside-is
          ∙ ap (λ t. t ++ c.args.frame.now) c.in_ok-ensure_room.ensures.text
          ∙ ap (λ b. longer b (string_bytes c.self.inside.text) c.args.frame.now) (w.if-not-first.ensures ∙ ap (λ xs. length xs == 0) ends_stay)
    ] in
    let short = push_short c.args.self.now (string_bytes c.self.inside.text) c.self.inside.ends.items c.self.view_is c.self.invariant c.args.frame.now (string_bytes c.push_str.new.self) c.requires.below_limit c.requires.good is in
    omega (arith, short, ap length c.as_str.ensures.value)

pub invariant_of-self-2 : goal.invariant_of-self-2
invariant_of-self-2 c =
    let ends_stay = c.as_slice.ensures in
    let is : string_bytes c.push_str.new.self ≡ longer (length c.self.inside.ends.items == 0) (string_bytes c.self.inside.text) c.args.frame.now =
    c.in_ok-push_str.ensures.bytes
    ∙ elim c.if-not-first.branch [
      | then-not-first+in_ok-push w ↦
          ap (λ s. string_bytes s.text ++ c.args.frame.now) w.self-inside-is
          ∙ ap (λ t. t ++ c.args.frame.now) (w.in_ok-push.ensures.bytes ∙ (λ k. c.in_ok-ensure_room.ensures.text k ++ w.in_ok-push.ensures.ascii (omega arith) k))
          ∙ ap (λ b. longer b (string_bytes c.self.inside.text) c.args.frame.now) (w.if-not-first.ensures ∙ ap (λ xs. length xs == 0) ends_stay)
      | else-not-first w ↦
          ap (λ s. string_bytes s.text ++ c.args.frame.now) w.self-inside-is
          ∙ ap (λ t. t ++ c.args.frame.now) c.in_ok-ensure_room.ensures.text
          ∙ ap (λ b. longer b (string_bytes c.self.inside.text) c.args.frame.now) (w.if-not-first.ensures ∙ ap (λ xs. length xs == 0) ends_stay)
    ] in
    push_cuts c.args.self.now (string_bytes c.self.inside.text) c.self.inside.ends.items c.self.view_is c.self.invariant c.args.frame.now (string_bytes c.push_str.new.self) c.requires.below_limit c.requires.good is (length c.as_str.result.now) c.push_reserved.new.self.items (ap length c.as_str.ensures.value) (c.push_reserved.ensures.items ∙ ap (λ es. es ++ (length c.as_str.result.now) ∷ []) (elim c.if-not-first.branch [ then-not-first+in_ok-push w ↦ ap (λ s. s.ends.items) w.self-inside-is ∙ c.in_ok-ensure_room.ensures.ends | else-not-first w ↦ ap (λ s. s.ends.items) w.self-inside-is ∙ c.in_ok-ensure_room.ensures.ends ]))

pub returns-clause-ok : goal.returns-clause-ok
returns-clause-ok c =
    let ends_stay = c.as_slice.ensures in
    let is : string_bytes c.push_str.new.self ≡ longer (length c.self.inside.ends.items == 0) (string_bytes c.self.inside.text) c.args.frame.now =
    c.in_ok-push_str.ensures.bytes
    ∙ elim c.if-not-first.branch [
      | then-not-first+in_ok-push w ↦
          ap (λ s. string_bytes s.text ++ c.args.frame.now) w.self-inside-is
          ∙ ap (λ t. t ++ c.args.frame.now) (w.in_ok-push.ensures.bytes ∙ (λ k. c.in_ok-ensure_room.ensures.text k ++ w.in_ok-push.ensures.ascii (omega arith) k))
          ∙ ap (λ b. longer b (string_bytes c.self.inside.text) c.args.frame.now) (w.if-not-first.ensures ∙ ap (λ xs. length xs == 0) ends_stay)
      | else-not-first w ↦
          ap (λ s. string_bytes s.text ++ c.args.frame.now) w.self-inside-is
          ∙ ap (λ t. t ++ c.args.frame.now) c.in_ok-ensure_room.ensures.text
          ∙ ap (λ b. longer b (string_bytes c.self.inside.text) c.args.frame.now) (w.if-not-first.ensures ∙ ap (λ xs. length xs == 0) ends_stay)
    ] in
    push_is c.args.self.now (string_bytes c.self.inside.text) c.self.inside.ends.items c.self.view_is c.self.invariant c.args.frame.now (string_bytes c.push_str.new.self) c.requires.below_limit c.requires.good is (length c.as_str.result.now) c.push_reserved.new.self.items (ap length c.as_str.ensures.value) (c.push_reserved.ensures.items ∙ ap (λ es. es ++ (length c.as_str.result.now) ∷ []) (elim c.if-not-first.branch [ then-not-first+in_ok-push w ↦ ap (λ s. s.ends.items) w.self-inside-is ∙ c.in_ok-ensure_room.ensures.ends | else-not-first w ↦ ap (λ s. s.ends.items) w.self-inside-is ∙ c.in_ok-ensure_room.ensures.ends ]))

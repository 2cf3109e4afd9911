use Rattle.std.proofs.Common.{◌≡◌, ◌∙◌, ◌-◌, ap, arith, length, map, drop, string_bytes}
use Rattle.std.proofs.lemmas.List.{take_all}
use Rattle.call_path.specs.Path.{path_text}
use Rattle.call_path.specs.Cuts.{start_in}
use Rattle.call_path.proofs.Texts.{length-cut}
use Rattle.call_path.proofs.Held.{behind_cuts, behind_is}
use Rattle.call_path.proofs.frame_text.FrameText.behind.Goals.{In_ok-ends}
use Rattle.call_path.proofs.frame_text.FrameText.behind.Goals as goal

pub ends_behind-requires : goal.ends_behind-requires
ends_behind-requires c = omega (arith, c.requires, ap length c.self.view_is, length-cut 0 c.self.inside.ends.items (string_bytes c.self.inside.text), ap length c.as_slice.ensures)

rest : (c : In_ok-ends) → string_bytes c.in_ok-text.text ≡ path_text (drop c.args.depth c.args.self.now)
rest c =
    c.in_ok-text.ensures.ok
    ∙ c.part_text.ensures.text
    ∙ ap (λ p. path_text (drop c.args.depth p)) (take_all c.len.result c.args.self.now (omega (arith, c.len.ensures.len)))

counted : (c : In_ok-ends) → c.in_ok-ends.ends.items ≡ map (λ end. end - start_in c.self.inside.ends.items c.args.depth) (drop c.args.depth c.self.inside.ends.items)
counted c = c.in_ok-ends.ensures ∙ ap (λ es. map (λ end. end - start_in es c.args.depth) (drop c.args.depth es)) c.as_slice.ensures

pub invariant_of-result : goal.invariant_of-result
invariant_of-result c = behind_cuts c.args.self.now (string_bytes c.self.inside.text) c.self.inside.ends.items c.self.view_is c.self.invariant c.args.depth c.requires (string_bytes c.in_ok-text.text) c.in_ok-ends.ends.items (rest c) (counted c)

pub returns : goal.returns
returns c = behind_is c.args.self.now (string_bytes c.self.inside.text) c.self.inside.ends.items c.self.view_is c.self.invariant c.args.depth c.requires (string_bytes c.in_ok-text.text) c.in_ok-ends.ends.items (rest c) (counted c)

use Rattle.std.proofs.Common.{◌≡◌, take}
use Rattle.std.specs.List.{list_all}
use Rattle.stack_text.specs.Texts.{is_hex}
use Rattle.stack_text.proofs.texts.are_hex.Given as goal

abbrev pub invariant-loop-b : goal.invariant-loop-b
invariant-loop-b l = l.all ≡ list_all is_hex (take l.b-index l.bytes)

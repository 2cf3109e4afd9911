use Rattle.std.proofs.Common.{◌≡◌, ◌-◌, ◌<◌, true, length, drop, sym, ap, ◌∙◌, arith}
use Rattle.std.specs.List.{list_all}
use Rattle.std.proofs.lemmas.List.{length-drop}
use Rattle.packet_frame.specs.Scanning.{is_plain_ascii}
use Rattle.packet_frame.proofs.Blocks.{tested_last, tested_next, tested_all}
use Rattle.packet_frame.proofs.rows.four_plain_blocks.Goals as goal

pub returns-then-two_plain_blocks : goal.returns-then-two_plain_blocks
returns-then-two_plain_blocks c =
    let field = c.args.field.now in
    let last : list_all is_plain_ascii (drop (length field - 32) field) ≡ true = sym (c.two_plain_blocks.ensures ∙ ap (list_all is_plain_ascii) c.split_at-2.ensures.back) ∙ c.if-two_plain_blocks.true in
    let left : length (drop 32 field) ≡ length field - 32 = length-drop 32 field in
    let few : length (drop 32 field) < 32 = omega (arith, left, c.requires.at_most) in
    c.two_plain_blocks-then-two_plain_blocks.ensures
    ∙ ap (list_all is_plain_ascii) c.split_at.ensures.front
    ∙ tested_all is_plain_ascii 32 field (drop 32 field) _ (tested_next is_plain_ascii 32 field field _ (tested_last is_plain_ascii 32 field) last c.requires.at_least) few c.requires.at_least

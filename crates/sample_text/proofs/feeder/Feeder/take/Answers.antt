use Rattle.std.proofs.Common.{◌∙◌, ◌++◌, arith}
use Rattle.std.proofs.lemmas.List.{length-append}
use Rattle.text_lines.proofs.Errors.{handed_on}
use Rattle.sample_text.specs.declared.feeder.Feeder.{Feeder}
use Rattle.sample_text.specs.Feeding.{RefusesPiece}
use Rattle.sample_text.proofs.Feeding.{ended_refused, ends_behind, front_taken, lines_fit, then_refused, then_taken}
use Rattle.sample_text.proofs.feeder.Feeder.take.Goals as goal

pub take_lines-requires-clause-room : goal.take_lines-requires-clause-room
take_lines-requires-clause-room c =
    let self = c.args.self.now in
    let cut = c.requires.room.1.1.0 in
    let fit = lines_fit c.requires.room.0 self.parser self.count cut.whole self.cut_line.items c.requires.room.1.0 cut.parsed cut.joined in
    omega (arith, fit, c.requires.room.1.1.1, c.as_slice.ensures.len, c.in_ok-extend_from_slice-2.ensures.len, c.split_at.ensures.front_len, c.in-Some.ensures.0.high)

pub returns-in_err-self-clause-err : goal.returns-in_err-self-clause-err
returns-in_err-self-clause-err c =
    let self = c.args.self.now in
    let front = c.split_at.result.0.now in
    let ended = c.as_slice.result.now in
    let is = c.as_slice.ensures.value ∙ c.in_ok-extend_from_slice-2.ensures.items in
    let ends = ends_behind self.cut_line.items front c.args.piece.now ended c.in-Some.first c.split_at.ensures.front is c.in-Some.ensures.0.high c.in-Some.ensures.1 in
    handed_on c.from_residual-in_err-self.result c.in_err-self.field-0.0 (RefusesPiece self c.args.piece.now) c.from_residual-in_err-self.ensures
    (λ memory t text cut. ended_refused t self.parser self.count cut.whole self.cut_line.items text cut.parsed cut.joined c.args.piece.now front c.split_at.result.1.now ended
    c.split_at.ensures.by_index.0 is ends c.in_err-self.field-0.0 c.in_err-self.ensures.refused memory)

pub take_uncut-requires-2-clause-room : goal.take_uncut-requires-2-clause-room
take_uncut-requires-2-clause-room c =
    let self = c.args.self.now in
    let front = c.split_at.result.0.now in
    let ended = c.as_slice.result.now in
    let is = c.as_slice.ensures.value ∙ c.in_ok-extend_from_slice-2.ensures.items in
    let ends = ends_behind self.cut_line.items front c.args.piece.now ended c.in-Some.first c.split_at.ensures.front is c.in-Some.ensures.0.high c.in-Some.ensures.1 in
    let mid : Feeder = record { parser = c.take_lines.new.parser; count = c.in_ok-self.field-0; cut_line = c.clear.new.self; error = self.error } in
    let first = front_taken self mid front ended is ends c.clear.ensures.items c.in_ok-self.ensures.taken c.in_ok-self.ensures.count c.in_ok-self.ensures.ready in
    let text = c.requires.room.1.0 in
    let both = length-append text front in
    (c.requires.room.0, (text ++ front, (first c.requires.room.0 text c.requires.room.1.1.0, omega (arith, both, c.requires.room.1.1.1, c.split_at.ensures.front_len, c.split_at.ensures.back_len))))

pub returns-clause-ok : goal.returns-clause-ok
returns-clause-ok c =
    let self = c.args.self.now in
    let front = c.split_at.result.0.now in
    let ended = c.as_slice.result.now in
    let is = c.as_slice.ensures.value ∙ c.in_ok-extend_from_slice-2.ensures.items in
    let ends = ends_behind self.cut_line.items front c.args.piece.now ended c.in-Some.first c.split_at.ensures.front is c.in-Some.ensures.0.high c.in-Some.ensures.1 in
    let mid : Feeder = record { parser = c.take_lines.new.parser; count = c.in_ok-self.field-0; cut_line = c.clear.new.self; error = self.error } in
    let first = front_taken self mid front ended is ends c.clear.ensures.items c.in_ok-self.ensures.taken c.in_ok-self.ensures.count c.in_ok-self.ensures.ready in
    then_taken c.take_uncut-2.result self mid c.args.piece.now front c.split_at.result.1.now c.split_at.ensures.by_index.0 first c.take_uncut-2.new.self c.take_uncut-2.ensures.ok

pub returns-clause-err : goal.returns-clause-err
returns-clause-err c =
    let self = c.args.self.now in
    let front = c.split_at.result.0.now in
    let ended = c.as_slice.result.now in
    let is = c.as_slice.ensures.value ∙ c.in_ok-extend_from_slice-2.ensures.items in
    let ends = ends_behind self.cut_line.items front c.args.piece.now ended c.in-Some.first c.split_at.ensures.front is c.in-Some.ensures.0.high c.in-Some.ensures.1 in
    let mid : Feeder = record { parser = c.take_lines.new.parser; count = c.in_ok-self.field-0; cut_line = c.clear.new.self; error = self.error } in
    let first = front_taken self mid front ended is ends c.clear.ensures.items c.in_ok-self.ensures.taken c.in_ok-self.ensures.count c.in_ok-self.ensures.ready in
    then_refused c.take_uncut-2.result self mid c.args.piece.now front c.split_at.result.1.now c.split_at.ensures.by_index.0 first c.take_uncut-2.ensures.err

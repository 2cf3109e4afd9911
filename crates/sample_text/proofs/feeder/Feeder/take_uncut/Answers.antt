use Rattle.std.proofs.Common.{◌∙◌, ◌++◌, [], ap, refl, sym, arith}
use Rattle.text_lines.proofs.Errors.{handed_on}
use Rattle.sample_text.specs.Feeding.{RefusesPiece}
use Rattle.sample_text.proofs.Feeding.{ended_refused, ends_behind, lines_fit, parsed_more, with_ended}
use Rattle.sample_text.proofs.feeder.Feeder.take_uncut.Goals as goal

pub take_lines-requires-clause-room : goal.take_lines-requires-clause-room
take_lines-requires-clause-room c =
    let self = c.args.self.now in
    let cut = c.requires.room.1.1.0 in
    let fit = lines_fit c.requires.room.0 self.parser self.count cut.whole self.cut_line.items c.requires.room.1.0 cut.parsed cut.joined in
    omega (arith, fit, c.requires.room.1.1.1, c.split_at.ensures.front_len, c.in-Some.ensures.0.high)

pub returns-in_err-self-clause-err : goal.returns-in_err-self-clause-err
returns-in_err-self-clause-err c =
    let self = c.args.self.now in
    let front = c.split_at.result.0.now in
    let ends = ends_behind [] front c.args.piece.now front c.in-Some.last c.split_at.ensures.front refl c.in-Some.ensures.0.high c.in-Some.ensures.1 in
    handed_on c.from_residual-in_err-self.result c.in_err-self.field-0.0 (RefusesPiece self c.args.piece.now) c.from_residual-in_err-self.ensures
    (λ memory t text cut. ended_refused t self.parser self.count cut.whole self.cut_line.items text cut.parsed cut.joined c.args.piece.now front c.split_at.result.1.now front
    c.split_at.ensures.by_index.0 (ap (λ x. x ++ front) (sym c.requires.uncut)) ends c.in_err-self.field-0.0 c.in_err-self.ensures.refused memory)

pub returns-clause-ok : goal.returns-clause-ok
returns-clause-ok c t text cut =
    let self = c.args.self.now in
    let front = c.split_at.result.0.now in
    let back = c.split_at.result.1.now in
    let ends = ends_behind [] front c.args.piece.now front c.in-Some.last c.split_at.ensures.front refl c.in-Some.ensures.0.high c.in-Some.ensures.1 in
    record {
      whole = cut.whole ++ front;
      joined = with_ended t self.parser self.count cut.whole self.cut_line.items text cut.parsed cut.joined c.args.piece.now front back front c.split_at.ensures.by_index.0 (ap (λ x. x ++ front) (sym c.requires.uncut)) ends
          ∙ ap (λ x. (cut.whole ++ front) ++ x) (sym (c.in_ok-extend_from_slice-2.ensures.items ∙ ap (λ x. x ++ back) c.requires.uncut));
      parsed = parsed_more t self.parser self.count cut.whole front cut.parsed c.take_lines.new.parser c.in_ok-self.field-0 ends c.in_ok-self.ensures.taken c.in_ok-self.ensures.count c.in_ok-self.ensures.ready;
    }

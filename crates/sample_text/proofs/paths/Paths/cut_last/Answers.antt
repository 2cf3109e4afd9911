use Rattle.std.proofs.Common.{◌∙◌, ◌∷◌, sym, ap}
use Rattle.text_lines.specs.Lines.{lines}
use Rattle.sample_text.proofs.FirstLines.{feed_front, feed_boundary, feed_behind, feed_line}
use Rattle.sample_text.proofs.Texts.{read_as}
use Rattle.sample_text.proofs.paths.Paths.cut_last.Goals as goal

pub split_at-requires : goal.split_at-requires
split_at-requires c =
    let line = c.as_bytes-2.result.now in
    let is = feed_front c.args.text.now c.as_bytes.result.now line c.in_ok-rest.rest.now c.in_ok-b.after.now c.in_ok-b.b.now c.as_bytes.ensures.value c.in_ok-rest.ensures.cases.0 c.in_ok-rest.ensures.cases.1 c.in_ok-b.ensures.cases.0 c.if-b-ne10.false in
    feed_boundary c.args.text.now line c.in_ok-b.after.now is c.utf8.text

pub returns-clause-path : goal.returns-clause-path
returns-clause-path c =
    let line = c.as_bytes-2.result.now in
    let is = feed_front c.args.text.now c.as_bytes.result.now line c.in_ok-rest.rest.now c.in_ok-b.after.now c.in_ok-b.b.now c.as_bytes.ensures.value c.in_ok-rest.ensures.cases.0 c.in_ok-rest.ensures.cases.1 c.in_ok-b.ensures.cases.0 c.if-b-ne10.false in
    let path = read_as line c.in_ok-last.last.now c.args.self.now.texts.keys c.args.self.now.paths.items c.args.self.now.last c.requires c.in_ok-last.ensures.key (sym c.as_bytes-2.ensures.value) in
    record {
      line = line;
      first = feed_line c.args.text.now line c.in_ok-b.after.now is _ path.0
          ∙ ap (λ t. line ∷ lines t) (sym (c.split_at.ensures.back ∙ feed_behind c.args.text.now line c.in_ok-b.after.now is));
      read = path.0;
      within = path.1;
    }

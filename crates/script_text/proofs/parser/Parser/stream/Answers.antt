use Rattle.std.proofs.Common.{◌∙◌, sym, ap, not, nat_lt}
use Rattle.std.specs.List.{insert, prefix_len}
use Rattle.text_lines.specs.Lines.{words}
use Rattle.overlay_setup.specs.Scripts.{Stream}
use Rattle.script_text.specs.ParserViews.{parser_view, stream_view}
use Rattle.script_text.specs.Words.{stream_words}
use Rattle.script_text.specs.Streams.{stream_of}
use Rattle.script_text.proofs.Placing.{placed}
use Rattle.script_text.proofs.WholeScript.{stream_one}
use Rattle.script_text.proofs.parser.Parser.stream.Goals as goal

pub returns-clause-ok : goal.returns-clause-ok
returns-clause-ok c =
    let t = c.args.self.now.topology.now in
    let x = c.in_ok-stream.stream in
    let xs = c.args.self.now.streams.items in
    stream_one t (parser_view c.args.self.now) c.args.line_number (stream_words (words c.args.line.now)) (stream_view c.in-Some.words) c.in_ok-stream.stream c.insert.new.self.items c.in-Some.ensures
    (ap (λ s. stream_of t s c.args.line_number (stream_view c.in-Some.words)) (sym c.deref.ensures.value) ∙ c.in_ok-stream.ensures.ok)
    (c.in_ok-insert.ensures.items
    ∙ ap (λ n. insert xs n x) (c.streams_to-index.ensures.value ∙ (λ i. prefix_len (λ (y : Stream). not (nat_lt (c.number.ensures i) y.number)) (c.deref-2.ensures.value i))) ∙ placed (λ (y : Stream). y.number) x xs)

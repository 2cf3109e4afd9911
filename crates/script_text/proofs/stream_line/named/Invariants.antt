use Rattle.std.proofs.Common.{◌≡◌, [], length}
use Rattle.text_lines.specs.Lines.{words}
use Rattle.script_text.specs.Marks.{marked_from}
use Rattle.script_text.specs.Streams.{with_named}
use Rattle.script_text.proofs.stream_line.named.Given as goal

abbrev pub invariant-loop-name : goal.invariant-loop-name
invariant-loop-name l = record {
  marks : length l.marks.items ≡ length l.topology.parents;
  parser_view : with_named l.topology l.line_number (marked_from 0 l.marks.items) (words l.rest) ≡ with_named l.topology l.line_number [] (words l.names);
}

abbrev pub decreases-loop-name : goal.decreases-loop-name
decreases-loop-name l = length l.rest

-- What the code's words and its parser mean.
use Rattle.text_lines.specs.Lines.{words}
use Rattle.overlay_setup.specs.Scripts.{Scripted, scripted}
use Rattle.overlay_setup.specs.Topologies.{Nodes}
use Rattle.std.specs.Prelude.{ℕ, List, ◌∷◌}
use Rattle.script_text.specs.declared.words.FiveWords.{FiveWords}
use Rattle.script_text.specs.declared.words.ModeText.{ModeText}
use Rattle.script_text.specs.declared.words.ModeText.TheVariants as text
use Rattle.script_text.specs.declared.words.SeenLine.{SeenLine}
use Rattle.script_text.specs.declared.words.StreamLine.{StreamLine}
use Rattle.script_text.specs.declared.words.LoseLine.{LoseLine}
use Rattle.script_text.specs.declared.parser.Parser.{Parser}
use Rattle.script_text.specs.Words.{ModeWords, WaitForAll, TimeOut, DontWait, Seen, StreamWords, LoseWords}

-- the five first words of a line, and those after them
abbrev pub five_view : FiveWords → List (List ℕ)
five_view five =
    five.first.now ∷ five.second.now ∷ five.third.now ∷ five.fourth.now ∷ five.fifth.now ∷ words five.rest.now

-- a mode as it is written
abbrev pub mode_view : ModeText → ModeWords
mode_view text.WaitForAll = WaitForAll
mode_view (text.TimeOut ticks) = TimeOut ticks.now
mode_view text.DontWait = DontWait

-- a grain, and the names after it
abbrev pub seen_view : SeenLine → Seen
seen_view seen = record { grain = seen.grain; names = words seen.names.now }

-- the words of a stream line
abbrev pub stream_view : StreamLine → StreamWords
stream_view w = record {
  number = w.number.now;
  mode = mode_view w.mode;
  waves = w.waves.now;
  samples = w.samples.now;
  grain = w.grain;
  names = words w.names.now;
}

-- the words of a lose line
abbrev pub lose_view : LoseLine → LoseWords
lose_view w = record { name = w.name.now; after = w.after.now; keep = w.keep.now }

-- the streams and losses of a parser
abbrev pub parser_view : Parser → Scripted
parser_view parser = scripted parser.streams.items parser.faults.items

-- the nodes that a parser knows
abbrev pub parser_nodes : Parser → Nodes
parser_nodes parser = parser.topology.now

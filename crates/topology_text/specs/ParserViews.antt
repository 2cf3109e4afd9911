-- What a parser has parsed.
use Rattle.std.specs.Prelude.{map, string_bytes}
use Rattle.topology_text.specs.declared.parser.Parser.{Parser}
use Rattle.topology_text.specs.Statements.{Parsed}

-- what a parser has parsed so far
abbrev pub parser_view : Parser → Parsed
parser_view parser = record {
  names = map string_bytes parser.names.keys;
  nodes = parser.nodes.items;
  state = parser.state;
}

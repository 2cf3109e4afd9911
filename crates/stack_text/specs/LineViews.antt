-- What the code's lines stand for.
use Rattle.stack_text.specs.declared.bare.Bare.{Bare}
use Rattle.stack_text.specs.declared.bare.Bare.TheVariants as bare
use Rattle.stack_text.specs.declared.lines.Line.{Line}
use Rattle.stack_text.specs.declared.lines.Line.TheVariants as line
use Rattle.stack_text.specs.Bare.{BareView, BareCall, BarePlace, Other}
use Rattle.stack_text.specs.Lines.{LineView, Nothing, Process, Thread, Call, Place, Source, Odd}

-- a line, parted at its address
abbrev pub bare_view : Bare → BareView
bare_view (bare.Call prefix tail) = BareCall prefix.now tail.now
bare_view (bare.Place offset) = BarePlace offset.now
bare_view (bare.Other line) = Other line.now

-- what a line says
abbrev pub line_view : Line → LineView
line_view line.Nothing = Nothing
line_view (line.Process number) = Process number
line_view (line.Thread number) = Thread number
line_view (line.Call number name binary is_deleted) = Call number name.now binary.now is_deleted
line_view (line.Place offset) = Place offset.now
line_view (line.Source file number) = Source file.now number
line_view line.Odd = Odd

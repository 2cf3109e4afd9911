-- The board of a turn, as a seat gave it back.
use Rattle.overlay_run.specs.declared.given.Given.{Given}

-- the board that was given back, as it was then
abbrev pub given_board : {B : Type 0} → Given B → B
given_board g = g.board.value

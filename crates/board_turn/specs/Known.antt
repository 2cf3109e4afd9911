-- The view of a seat's badge.
use Rattle.std.specs.Prelude.{List, [], ◌∷◌}
use Rattle.board_turn.specs.declared.view.View.{View}
use Rattle.board_turn.specs.Turns.{spent_view}

-- a badge has one view
abbrev pub known_of : List View → View
known_of [] = spent_view
known_of (v ∷ vs) = v

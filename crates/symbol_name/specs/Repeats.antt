-- A step that is taken again and again.
use Rattle.std.specs.Prelude.{ℕ, zero, suc, List, length, Option, option_map, unwrap_or}

-- what a text becomes by a step that is taken while it gives something, at most this often
unfoldable pub repeat : (List ℕ → Option (List ℕ)) → ℕ → List ℕ → List ℕ
repeat step zero text = text
repeat step (suc n) text = unwrap_or (option_map (repeat step n) (step text)) text

-- the same where each step shortens the text: the step gives nothing of what is left
unfoldable pub settled : (List ℕ → Option (List ℕ)) → List ℕ → List ℕ
settled step text = repeat step (length text) text

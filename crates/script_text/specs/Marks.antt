-- Marks on nodes.
use Rattle.std.specs.Prelude.{ℕ, suc, Bool, true, false, List, [], ◌∷◌}

-- the numbers of the nodes that are marked, where the marks begin with that of node n
abbrev pub marked_from : ℕ → List Bool → List ℕ
marked_from n [] = []
marked_from n (true ∷ marks) = n ∷ marked_from (suc n) marks
marked_from n (false ∷ marks) = marked_from (suc n) marks

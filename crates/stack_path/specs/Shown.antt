-- What is left out below the calls in which a rank waits for others: the library's own frames, since how far its loop has
-- come differs from moment to moment. The program's own code that the library calls is shown.
use Rattle.std.specs.Prelude.{Bool, true, false, ◌&&◌, not, cond, [], ◌∷◌}
use Rattle.std.specs.List.{list_any}
use Rattle.stack_path.specs.Beginnings.{Stack}

-- whether a stack shows no library of MPI's: then MPI may be part of the program, and its calls are told by their names
abbrev pub is_static : Stack → Bool
is_static s = not (list_any (λ f. f.is_mpi) s)

-- the frames that are shown. Below a call of a library that waits those up to the next one of the program's own code are
-- not. Below a call that is told by its name none is, since the program's own code can't be told from MPI's there.
abbrev pub shown_below : (is_named is_below : Bool) → Stack → Stack
shown_below is_named is_below [] = []
shown_below is_named is_below (f ∷ s) =
    cond (is_below && not f.is_own) (shown_below is_named true s)
    (cond (is_named && f.is_standard) (f ∷ [])
    (f ∷ shown_below is_named f.waits s))

-- the frames that are shown, where calls are told by their names or not
abbrev pub shown : Bool → Stack → Stack
shown is_named s = shown_below is_named false s

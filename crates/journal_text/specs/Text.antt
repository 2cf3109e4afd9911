-- A journal as a text: a line for each event.
use Rattle.std.specs.Prelude.{ℕ, List, [], ◌∷◌, ◌++◌, codes}
use Rattle.std.specs.Fmt.{decimal}
use Rattle.std.specs.List.{flat_map}
use Rattle.overlay_setup.specs.Names.{name_of}
use Rattle.overlay_event.specs.declared.event.Event.{Event}
use Rattle.overlay_event.specs.declared.event.Event.TheVariants.{Sample, Recv, Tick, Lose}
use Rattle.stat_plan.specs.Plans.{Plan}

-- two texts, parted by a space
abbrev pub parted : List ℕ → List ℕ → List ℕ
parted one other = one ++ 32 ∷ other

-- a wave: `STREAM WAVE`
abbrev pub wave_text : ℕ → ℕ → List ℕ
wave_text s w = parted (decimal s) (decimal w)

-- the line of an event: `sample NODE STREAM WAVE`, `recv NODE FROM`, `tick NODE` or `lose NODE`
abbrev pub line_of : Plan → Event → List ℕ
line_of p (Sample n s w) = codes "sample " ++ parted (name_of p.names n) (wave_text s w)
line_of p (Recv n m) = codes "recv " ++ parted (name_of p.names n) (name_of p.names m)
line_of p (Tick n) = codes "tick " ++ name_of p.names n
line_of p (Lose n) = codes "lose " ++ name_of p.names n

-- the text of a journal: each line, and a line feed
abbrev pub journal_text : Plan → List Event → List ℕ
journal_text p journal = flat_map (λ e. line_of p e ++ 10 ∷ []) journal

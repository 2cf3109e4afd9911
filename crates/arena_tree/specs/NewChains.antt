-- A chain that is merged: the frames of a path from one on, and the marks of the last of their rows.
-- No clause of a public call cites this file: it says how a change is planned and done.
use Rattle.std.specs.Prelude.{drop}
use Rattle.call_path.specs.Path.{Path}
use Rattle.prefix_tree.specs.Tree.{Marks}
use Rattle.arena_tree.specs.declared.node.NewMarks.{NewMarks}
use Rattle.arena_tree.specs.declared.merge.NewChain.{NewChain}
use Rattle.arena_tree.specs.ChainForest.{ChainForest, no_chains}
use Rattle.arena_tree.specs.Reading.{chain_of}

-- the label and the ends
abbrev pub new_marks : NewMarks → Marks
new_marks m = (m.label.now, m.ends.now)

-- its frames
abbrev pub new_frames : NewChain → Path
new_frames c = drop c.skip c.path.now

-- the forest that has one chain alone, of all frames of its path
abbrev pub one_chain : NewChain → ChainForest
one_chain c = chain_of 0 c.path.now (new_marks c.marks) no_chains no_chains

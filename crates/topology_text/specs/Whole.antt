-- What a topology text means: its nodes, or its first error.
use Rattle.std.specs.Prelude.{ℕ, zero, suc, ◌-◌, Bool, true, false, not, is_some, List, [], ◌∷◌, map, length, Option, None, Some, Result, Ok, Err, slice_get}
use Rattle.text_lines.specs.declared.text_error.TextError.{TextError}
use Rattle.text_lines.specs.declared.text_error.TextError.TheVariants.{Bad, Over}
use Rattle.text_lines.specs.declared.text_error.Reason.TheVariants.{NoRoot, TwoRoots, Unreached}
use Rattle.text_lines.specs.declared.text_error.Quantity.TheVariants.{Depth}
use Rattle.text_lines.specs.Parsing.{and_then}
use Rattle.overlay_setup.specs.Trees.{parent_of}
use Rattle.overlay_setup.specs.Topologies.{Nodes, topology}
use Rattle.overlay_setup.specs.declared.topology.TheConstants.{DEPTH_LIMIT}
use Rattle.topology_text.specs.declared.parser.Node.{Node}
use Rattle.topology_text.specs.Tokens.{pieces}
use Rattle.topology_text.specs.Statements.{Parsed, nothing_parsed, with_pieces}

-- whether a node without a parent is at most so many links above this one
unfoldable pub is_within : List (Option ℕ) → ℕ → ℕ → Bool
is_within parents zero n = not (is_some (parent_of parents n))
is_within parents (suc links) n = elim (parent_of parents n) [ None ↦ true | (Some p) ↦ is_within parents links p ]

-- the nodes without a parent, ascending, where the list begins with node n
abbrev pub roots_from : ℕ → List (Option ℕ) → List ℕ
roots_from n [] = []
roots_from n (None ∷ parents) = n ∷ roots_from (suc n) parents
roots_from n (Some p ∷ parents) = roots_from (suc n) parents

-- each node's parent
abbrev pub parents_of : List Node → List (Option ℕ)
parents_of nodes = map (λ x. x.parent) nodes

-- the line of a node
abbrev pub line_or_0 : Option Node → ℕ
line_or_0 None = 0
line_or_0 (Some x) = x.line

-- the line of a node's first appearance
abbrev pub line_of : List Node → ℕ → ℕ
line_of nodes n = line_or_0 (slice_get nodes n)

-- the least node, of so many from n on, that isn't within so many links of a root
unfoldable pub first_beyond : List (Option ℕ) → ℕ → ℕ → ℕ → Option ℕ
first_beyond parents links n zero = None
first_beyond parents links n (suc more) =
    elim (is_within parents links n) [ true ↦ first_beyond parents links (suc n) more | false ↦ Some n ]

-- the error of the whole text, where a node is more than 8 links from the root
abbrev pub depth_error : Option ℕ → Option TextError
depth_error None = None
depth_error (Some n) = Some (Over 0 Depth DEPTH_LIMIT)

-- the error of the whole text, where a node is not reached from the root
abbrev pub reach_error : List Node → Option ℕ → Option TextError
reach_error nodes None = depth_error (first_beyond (parents_of nodes) DEPTH_LIMIT 0 (length nodes))
reach_error nodes (Some n) = Some (Bad (line_of nodes n) Unreached)

-- The error of the whole text, by the nodes without a parent. A node is reached from the root where the root is fewer links
-- above it than there are nodes.
abbrev pub roots_error : List Node → List ℕ → Option TextError
roots_error nodes [] = Some (Bad 0 NoRoot)
roots_error nodes (root ∷ []) = reach_error nodes (first_beyond (parents_of nodes) (length nodes - 1) 0 (length nodes))
roots_error nodes (root ∷ second ∷ roots) = Some (Bad (line_of nodes second) TwoRoots)

-- the first error of the whole text
unfoldable pub whole_error : List Node → Option TextError
whole_error nodes = roots_error nodes (roots_from 0 (parents_of nodes))

-- what is parsed, unless there is an error
abbrev pub unless : Parsed → Option TextError → Result Parsed TextError
unless s None = Ok s
unless s (Some e) = Err e

-- what is parsed, unless the whole text has an error
abbrev pub whole : Parsed → Result Parsed TextError
whole s = unless s (whole_error s.nodes)

-- the names in order of number, and each node's parent
abbrev pub nodes_of : Result Parsed TextError → Result Nodes TextError
nodes_of (Err e) = Err e
nodes_of (Ok s) = Ok (topology s.names (parents_of s.nodes))

-- the nodes of a text, or its first error
abbrev pub topology_of : List ℕ → Result Nodes TextError
topology_of text = nodes_of (and_then (with_pieces nothing_parsed (pieces 1 0 text)) whole)

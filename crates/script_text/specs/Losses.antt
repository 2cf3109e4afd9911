-- What a lose line says.
use Rattle.std.specs.Prelude.{ℕ, ◌==◌, nat_le, if◌then◌else◌, List, length, Option, None, Some, Result, Ok, Err}
use Rattle.std.specs.List.{list_any}
use Rattle.overlay_setup.specs.Names.{number_of}
use Rattle.overlay_setup.specs.Topologies.{Nodes}
use Rattle.overlay_setup.specs.Trees.{root_of}
use Rattle.overlay_setup.specs.declared.script.Fault.{Fault}
use Rattle.overlay_setup.specs.declared.script.TheConstants.{FAULT_LIMIT}
use Rattle.text_lines.specs.declared.text_error.TextError.{TextError}
use Rattle.text_lines.specs.declared.text_error.TextError.TheVariants.{Bad, Over}
use Rattle.text_lines.specs.declared.text_error.Reason.TheVariants.{BadNumber, UnknownNode, LosesFront, SecondLoss}
use Rattle.text_lines.specs.declared.text_error.Quantity.TheVariants.{Faults}
use Rattle.script_text.specs.declared.lose_line.TheConstants.{COUNT_LIMIT}
use Rattle.script_text.specs.Order.{with_item}
use Rattle.script_text.specs.Words.{LoseWords}
use Rattle.text_lines.specs.Parsing.{and_then}
use Rattle.script_text.specs.Numbers.{number_from}

-- a node that may be lost: not the front end, and none that an earlier line loses
abbrev pub as_lost : Nodes → List Fault → ℕ → Option ℕ → Result ℕ TextError
as_lost t faults line_number None = Err (Bad line_number UnknownNode)
as_lost t faults line_number (Some n) =
    if n == root_of t.parents then Err (Bad line_number LosesFront)
    else if list_any (λ f. f.node == n) faults then Err (Bad line_number SecondLoss)
    else Ok n

-- the node that a line loses, where earlier lines lose others
unfoldable pub lost_node : Nodes → List Fault → ℕ → List ℕ → Result ℕ TextError
lost_node t faults line_number name =
    if nat_le FAULT_LIMIT (length faults) then Err (Over line_number Faults FAULT_LIMIT)
    else as_lost t faults line_number (number_of name t.names)

-- the loss that the words of a line say
unfoldable pub fault_of : Nodes → List Fault → ℕ → LoseWords → Result Fault TextError
fault_of t faults line_number w =
    and_then (lost_node t faults line_number w.name) (λ n.
    and_then (number_from line_number 0 COUNT_LIMIT (Bad line_number BadNumber) w.after) (λ after.
    and_then (number_from line_number 0 COUNT_LIMIT (Bad line_number BadNumber) w.keep) (λ keep.
    Ok (record { node = n; after = after; keep = keep }))))

-- losses ascending by node, with one more
abbrev pub with_fault : Fault → List Fault → List Fault
with_fault x xs = with_item (λ f. f.node) x xs

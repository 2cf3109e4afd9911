-- Tables by number.
use Rattle.std.proofs.Common.{◌≡◌, ℕ, ◌<◌, List, [], length, get_or, Option, Some, sym, ap, ◌∙◌, Vec, Global}
use Rattle.std.proofs.lemmas.List.{get_or-map, length-map}
use Rattle.overlay_setup.specs.NodeSets.{In, up_to}
use Rattle.overlay_setup.specs.Tables.{rows_view, ancestors_table}
use Rattle.overlay_setup.specs.Trees.{parent_of, climb}
use Rattle.overlay_setup.proofs.Climbs.{climb_below}
use Rattle.overlay_setup.proofs.UpTo.{at_table, length-up_to}
use Rattle.stat_plan.specs.Plans.{Plan, nodes, ancestors}

-- a table has as many rows as it shows
pub rows_of : {X : Type 0} (table : List (Vec X Global)) → length table ≡ length (rows_view table)
rows_of {X} table = sym (length-map table (λ (r : Vec X Global). r.items))

-- what stands in a row
pub row_items : {X : Type 0} (table : List (Vec X Global)) (i : ℕ) (row : Vec X Global) → i < length table → row ≡ get_or table i row → get_or (rows_view table) i [] ≡ row.items
row_items {X} table i row inside is = get_or-map (λ (r : Vec X Global). r.items) table i row [] inside ∙ ap (λ (r : Vec X Global). r.items) (sym is)

-- a row of the table of ancestors
pub ancestors_row : (p : Plan) (above : List (Vec ℕ Global)) (d : ℕ) (row : Vec ℕ Global) → rows_view above ≡ ancestors_table p.parents → d < nodes p → d < length above → row ≡ get_or above d row → row.items ≡ ancestors p d
unfolding ancestors
ancestors_row p above d row table below inside is =
    ap (λ r. r.items) is
    ∙ sym (get_or-map (λ (r : Vec ℕ Global). r.items) above d row [] inside)
    ∙ ap (λ rows. get_or rows d []) table
    ∙ at_table (climb p.parents (nodes p)) (nodes p) d [] below

-- the table of ancestors has a row for each node
pub length-ancestors : (parents : List (Option ℕ)) (above : List (Vec ℕ Global)) → rows_view above ≡ ancestors_table parents → length above ≡ length parents
length-ancestors parents above table = sym (length-map above (λ (r : Vec ℕ Global). r.items)) ∙ ap length table ∙ length-map (up_to (length parents)) (climb parents (length parents)) ∙ length-up_to (length parents)

-- an ancestor is a node
pub ancestor_below : (p : Plan) → ((n m : ℕ) → parent_of p.parents n ≡ Some m → (n < length p.parents) × (m < length p.parents)) → (d a : ℕ) → In a (ancestors p d) → a < nodes p
unfolding ancestors
ancestor_below p inside d a i = climb_below p.parents inside (nodes p) d a i

-- what stands in the table of ancestors
pub ancestors_at : (p : Plan) (rows : List (List ℕ)) (n : ℕ) → rows ≡ ancestors_table p.parents → n < nodes p → get_or rows n [] ≡ ancestors p n
unfolding ancestors
ancestors_at p rows n is below = ap (λ r. get_or r n []) is ∙ at_table (climb p.parents (nodes p)) (nodes p) n [] below

-- What a topology text says in the words of its format: statements, each a parent and its children.
use Rattle.std.specs.Prelude.{◌≡◌, ◌↔◌, ◌<◌, ℕ, List, [], ◌∷◌, ◌++◌, length, map, None, Some}
use Rattle.overlay_setup.specs.Names.{name_of, number_of}
use Rattle.overlay_setup.specs.NodeSets.{In}
use Rattle.std.specs.List.{IsDistinct}
use Rattle.std.specs.Str.{bytes_eq}
use Rattle.overlay_setup.specs.Topologies.{Nodes, IsTopology}
use Rattle.overlay_setup.specs.Trees.{parent_of}
use Rattle.topology_text.specs.Tokens.{Piece, Arrow, Semicolon, Name, End, pieces}

-- a parent, its first child, and its other children
pub record Statement : Type 0 where
  pub parent : List ℕ
  pub child : List ℕ
  pub others : List (List ℕ)

-- the tokens of statements, and the text's end
abbrev pub written : List Statement → List Piece
written [] = End ∷ []
written (s ∷ statements) =
    Name s.parent ∷ Arrow ∷ Name s.child ∷ map Name s.others ++ Semicolon ∷ written statements

-- the names in statements, in order
abbrev pub names_in : List Statement → List (List ℕ)
names_in [] = []
names_in (s ∷ statements) = s.parent ∷ s.child ∷ s.others ++ names_in statements

-- known names, and behind them the others in order of first appearance
unfoldable pub with_names : List (List ℕ) → List (List ℕ) → List (List ℕ)
with_names known [] = known
with_names known (name ∷ names) = elim (number_of name known) [
  | (Some n) ↦ with_names known names
  | None ↦ with_names (known ++ name ∷ []) names
]

-- some statement has one name as its parent, and another among its children
abbrev pub IsLink : List Statement → List ℕ → List ℕ → Type 0
IsLink statements parent child = (s : Statement) × In s statements × (s.parent ≡ parent) × In child (s.child ∷ s.others)

-- A text is written as statements. Its names are numbered in order of first appearance, and a node is another's parent
-- exactly where some statement links them.
pub record IsWritten (text : List ℕ) (t : Nodes) : Type 0 where
  pub statements : List Statement
  pub is : map (λ p. p.1) (pieces 1 0 text) ≡ written statements
  pub names : t.names ≡ with_names [] (names_in statements)
  pub links : (p c : ℕ) → p < length t.names → c < length t.names →
      (parent_of t.parents c ≡ Some p) ↔ IsLink statements (name_of t.names p) (name_of t.names c)

-- the names that begin statements, in order
abbrev pub parents_in : List Statement → List (List ℕ)
parents_in statements = map (λ s. s.parent) statements

-- the names of children in statements, in order
abbrev pub children_in : List Statement → List (List ℕ)
children_in [] = []
children_in (s ∷ statements) = s.child ∷ s.others ++ children_in statements

-- A text is written as statements, of which no two begin with one name, and no name stands twice among all children.
-- What it says is a job's tree.
pub record IsAcceptable (text : List ℕ) (t : Nodes) : Type 0 where
  pub form : IsWritten text t
  pub one_statement : IsDistinct bytes_eq (parents_in form.statements)
  pub one_parent : IsDistinct bytes_eq (children_in form.statements)
  pub topology : IsTopology t

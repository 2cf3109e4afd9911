-- Nodes and tokens, one at a time.
use Rattle.std.proofs.Common.{◌≡◌, ℕ, zero, suc, ◌<◌, ◌≤◌, true, false, List, [], ◌∷◌, length, Ok, Err, Result, refl, ap, arith, slice_get, slice_set, slice_index_or}
use Rattle.text_lines.specs.declared.text_error.TextError.{TextError}
use Rattle.text_lines.specs.declared.text_error.TextError.TheVariants.{Bad}
use Rattle.text_lines.specs.declared.text_error.Reason.TheVariants.{SecondLine, SecondParent}
use Rattle.topology_text.specs.declared.parser.Node.{Node}
use Rattle.topology_text.specs.declared.parser.ParserState.TheVariants.{AfterParent, AfterChild}
use Rattle.topology_text.specs.Tokens.{Piece}
use Rattle.topology_text.specs.Statements.{Parsed, at_node, is_parent, is_child, as_parent, child_of, add_parent, add_child, with_piece, with_pieces}

-- a change in state of one element
pub at_node_set : (xs : List Node) (n : ℕ) (d : Node) (f : Node → Node) → n < length xs → slice_set xs n (f (slice_index_or xs n d)) ≡ at_node xs n f
at_node_set [] n d f lt = absurd (omega arith)
at_node_set (x ∷ xs) zero d f lt = refl
at_node_set (x ∷ xs) (suc n) d f lt = ap (λ t. x ∷ t) (at_node_set xs n d f (omega arith))

-- a change past the last element
pub at_node_past : (xs : List Node) (n : ℕ) (f : Node → Node) → length xs ≤ n → xs ≡ at_node xs n f
at_node_past [] n f le = refl
at_node_past (x ∷ xs) zero f le = absurd (omega arith)
at_node_past (x ∷ xs) (suc n) f le = ap (λ t. x ∷ t) (at_node_past xs n f (omega arith))

module _ (s : Parsed) (line n : ℕ) where
  -- a statement that was is_parent before
  pub parent_bad : is_parent (slice_get s.nodes n) ≡ true → add_parent s line n ≡ Err (Bad line SecondLine)
  unfolding add_parent
  parent_bad e = rw (e, add_parent) refl

  -- a statement that begins
  pub parent_good : is_parent (slice_get s.nodes n) ≡ false → add_parent s line n ≡ Ok (record s { nodes = at_node s.nodes n as_parent; state = AfterParent n })
  unfolding add_parent
  parent_good e = rw (e, add_parent) refl

  -- a child that has a parent
  pub child_bad : (p : ℕ) → is_child (slice_get s.nodes n) ≡ true → add_child s line p n ≡ Err (Bad line SecondParent)
  unfolding add_child
  child_bad p e = rw (e, add_child) refl

  -- a child that gets its parent
  pub child_good : (p : ℕ) → is_child (slice_get s.nodes n) ≡ false → add_child s line p n ≡ Ok (record s { nodes = at_node s.nodes n (child_of p); state = AfterChild p })
  unfolding add_child
  child_good p e = rw (e, add_child) refl

module _ (s : Parsed) (line : ℕ) (p : Piece) (rest : List (ℕ × Piece)) where
  -- a token at which the first fault stands
  pub piece_bad : (e : TextError) → with_piece s line p ≡ Err e → with_pieces s ((line, p) ∷ rest) ≡ Err e
  unfolding with_pieces
  piece_bad e is = ap (λ r. elim r as (λ _. Result Parsed TextError) [ (Err e) ↦ Err e | (Ok t) ↦ with_pieces t rest ]) is

  -- a token without a fault
  pub piece_good : (t : Parsed) → with_piece s line p ≡ Ok t → with_pieces s ((line, p) ∷ rest) ≡ with_pieces t rest
  unfolding with_pieces
  piece_good t is = ap (λ r. elim r as (λ _. Result Parsed TextError) [ (Err e) ↦ Err e | (Ok t) ↦ with_pieces t rest ]) is

-- no tokens are left
pub none_left : (s : Parsed) → with_pieces s [] ≡ Ok s
unfolding with_pieces
none_left s = refl

-- The checks of the whole text, one after another.
use Rattle.std.proofs.Common.{◌≡◌, ℕ, ◌+◌, ◌-◌, List, [], ◌∷◌, length, drop, Option, None, Some, Result, Ok, Err, refl, sym, ap, ◌∙◌}
use Rattle.text_lines.specs.Parsing.{and_then}
use Rattle.text_lines.specs.declared.text_error.TextError.{TextError}
use Rattle.text_lines.specs.declared.text_error.TextError.TheVariants.{Bad}
use Rattle.topology_text.specs.Tokens.{pieces, End}
use Rattle.topology_text.specs.Statements.{Parsed, nothing_parsed, take_end, with_pieces}
use Rattle.topology_text.proofs.Nodes.{piece_bad, piece_good, none_left}
use Rattle.text_lines.specs.declared.text_error.Reason.TheVariants.{NoRoot, TwoRoots, Unreached}
use Rattle.overlay_setup.specs.Topologies.{Nodes, topology}
use Rattle.overlay_setup.specs.declared.topology.TheConstants.{DEPTH_LIMIT}
use Rattle.topology_text.specs.declared.parser.Node.{Node}
use Rattle.topology_text.specs.Whole.{roots_from, parents_of, line_of, first_beyond, depth_error, reach_error, roots_error, whole_error, unless, whole, nodes_of, topology_of}
use Rattle.overlay_setup.proofs.NameNumbers.{length-map}

module _ (nodes : List Node) (parents : List (Option ℕ)) (is : parents ≡ parents_of nodes) where
  error_by_roots : (roots : List ℕ) → roots_from 0 parents ≡ roots → whole_error nodes ≡ roots_error nodes roots
  unfolding whole_error
  error_by_roots roots e = ap (roots_error nodes) (ap (roots_from 0) (sym is) ∙ e)

  -- no root
  pub error_no_root : roots_from 0 parents ≡ [] → whole_error nodes ≡ Some (Bad 0 NoRoot)
  error_no_root e = error_by_roots [] e

  module _ (root : ℕ) (first : roots_from 0 parents ≡ root ∷ roots_from (root + 1) (drop (root + 1) parents)) where
    -- two roots
    pub error_two_roots : (second : ℕ) (rest : List ℕ) → roots_from (root + 1) (drop (root + 1) parents) ≡ second ∷ rest → whole_error nodes ≡ Some (Bad (line_of nodes second) TwoRoots)
    error_two_roots second rest e = error_by_roots (root ∷ second ∷ rest) (first ∙ ap (λ t. root ∷ t) e)

    module _ (alone : roots_from (root + 1) (drop (root + 1) parents) ≡ []) where
      beyond : (links links' : ℕ) (o : Option ℕ) → links ≡ links' → o ≡ first_beyond parents links 0 (length parents) → first_beyond (parents_of nodes) links' 0 (length nodes) ≡ o
      beyond links links' o same e = (λ k. first_beyond (sym is k) (sym same k) 0 ((sym (length-map (λ x. x.parent) nodes) ∙ ap length (sym is)) k)) ∙ sym e

      by_reach : (o : Option ℕ) → o ≡ first_beyond parents (length parents - 1) 0 (length parents) → whole_error nodes ≡ reach_error nodes o
      by_reach o e = error_by_roots (root ∷ []) (first ∙ ap (λ t. root ∷ t) alone) ∙ ap (reach_error nodes) (beyond (length parents - 1) (length nodes - 1) o (ap (λ n. n - 1) (ap length is ∙ length-map (λ x. x.parent) nodes)) e)

      -- a node that is not reached
      pub error_unreached : (n : ℕ) → Some n ≡ first_beyond parents (length parents - 1) 0 (length parents) → whole_error nodes ≡ Some (Bad (line_of nodes n) Unreached)
      error_unreached n e = by_reach (Some n) e

      -- all nodes reached: then the depth decides
      pub error_by_depth : (o : Option ℕ) → None ≡ first_beyond parents (length parents - 1) 0 (length parents) → o ≡ first_beyond parents DEPTH_LIMIT 0 (length parents) → whole_error nodes ≡ depth_error o
      error_by_depth o all e = by_reach None all ∙ ap depth_error (beyond 8 8 o refl e)

-- the end of a text, as its last token
pub ends : (s : Parsed) (line : ℕ) → with_pieces s ((line, End) ∷ []) ≡ take_end s line s.state
ends s line = by (take_end s line s.state) refl
  where
    by : (r : Result Parsed TextError) → take_end s line s.state ≡ r → with_pieces s ((line, End) ∷ []) ≡ r
    by (Err e) is = piece_bad s line End [] e is
    by (Ok t) is = piece_good s line End [] t is ∙ none_left t

-- a text whose tokens are parsed up to its end
pub topology_at_end : (text : List ℕ) (start s : Parsed) (line : ℕ) → start ≡ nothing_parsed → with_pieces start (pieces 1 0 text) ≡ with_pieces s ((line, End) ∷ []) → topology_of text ≡ nodes_of (and_then (take_end s line s.state) whole)
topology_at_end text start s line begins is = ap (λ r. nodes_of (and_then r whole)) (ap (λ n. with_pieces n (pieces 1 0 text)) (sym begins) ∙ is ∙ ends s line)

-- a text with an error in its tokens
pub topology_bad : (text : List ℕ) (start : Parsed) (e : TextError) → start ≡ nothing_parsed → with_pieces start (pieces 1 0 text) ≡ Err e → topology_of text ≡ Err e
topology_bad text start e begins is = ap (λ r. nodes_of (and_then r whole)) (ap (λ n. with_pieces n (pieces 1 0 text)) (sym begins) ∙ is)

-- a text that is accepted is parsed, and has no error as a whole
pub accepted : (text : List ℕ) (n : Nodes) → topology_of text ≡ Ok n → (s : Parsed) × (with_pieces nothing_parsed (pieces 1 0 text) ≡ Ok s) × (whole_error s.nodes ≡ None) × (topology s.names (parents_of s.nodes) ≡ n)
accepted text n is = by (with_pieces nothing_parsed (pieces 1 0 text)) refl is
  where
    none : (s : Parsed) (o : Option TextError) → whole_error s.nodes ≡ o → nodes_of (unless s o) ≡ Ok n → (whole_error s.nodes ≡ None) × (topology s.names (parents_of s.nodes) ≡ n)
    none s None e h = (e, cc)
    none s (Some x) e h = cc

    by : (r : Result Parsed TextError) → with_pieces nothing_parsed (pieces 1 0 text) ≡ r → nodes_of (and_then r whole) ≡ Ok n → (s : Parsed) × (with_pieces nothing_parsed (pieces 1 0 text) ≡ Ok s) × (whole_error s.nodes ≡ None) × (topology s.names (parents_of s.nodes) ≡ n)
    by (Err e) e' h = cc
    by (Ok s) e h = let w = none s (whole_error s.nodes) refl h in (s, e, w.0, w.1)

-- Texts, and what they mean.
use Rattle.std.specs.Prelude.{◌≡◌, refl, ℕ, List, [], ◌∷◌, ◌++◌, map, None, Some, Ok, Err, Result, codes}
use Rattle.text_lines.specs.declared.text_error.TextError.TheVariants.{Bad}
use Rattle.text_lines.specs.declared.text_error.Reason.TheVariants.{SecondLine, NoArrow, NoChild, SecondParent, NoSemicolon, NoRoot, TwoRoots, Unreached}
use Rattle.topology_text.specs.Tokens.{pieces, Arrow, Semicolon, Name, End, NoToken}
use Rattle.text_lines.specs.Parsing.{and_then}
use Rattle.text_lines.specs.declared.text_error.TextError.{TextError}
use Rattle.overlay_setup.specs.Names.{number_of}
use Rattle.overlay_setup.specs.Topologies.{topology}
use Rattle.topology_text.specs.Statements.{Parsed, nothing_parsed, appear, add_parent, add_child, with_pieces}
use Rattle.topology_text.specs.Grammar.{Statement, written, names_in, parents_in, children_in}
use Rattle.topology_text.specs.Whole.{whole, nodes_of, whole_error, first_beyond, is_within}

-- what a text is parsed as
abbrev parsed : List ℕ → Result Parsed TextError
parsed text = and_then (with_pieces nothing_parsed (pieces 1 0 text)) whole

abbrev line : List ℕ → List ℕ
line text = text ++ 10 ∷ []

tokens : pieces 1 0 (line (codes "fe:0 => a:0;") ++ codes "# x" ++ line (codes "") ++ codes "a:01") ≡ (1, Name (codes "fe:0")) ∷ (1, Arrow) ∷ (1, Name (codes "a:0")) ∷ (1, Semicolon) ∷ (3, NoToken) ∷ (3, NoToken) ∷ (3, NoToken) ∷ (3, NoToken) ∷ (3, End) ∷ []
unfolding pieces
tokens = refl

numbered : nodes_of (parsed (line (codes "c0:0 => n0:0") ++ line (codes "  n1:0 ;") ++ line (codes "fe:0 => c0:0 n2:0;"))) ≡ Ok (topology (codes "c0:0" ∷ codes "n0:0" ∷ codes "n1:0" ∷ codes "fe:0" ∷ codes "n2:0" ∷ []) (Some 3 ∷ Some 0 ∷ Some 0 ∷ None ∷ Some 3 ∷ []))
unfolding pieces with_pieces first_beyond is_within whole_error number_of appear add_parent add_child
numbered = refl

second_parent : parsed (line (codes "fe:0 => a:0 b:0 ;") ++ line (codes "x:0 => a:0 ;")) ≡ Err (Bad 2 SecondParent)
unfolding pieces with_pieces first_beyond is_within whole_error number_of appear add_parent add_child
second_parent = refl

second_line : parsed (line (codes "fe:0 => a:0 ;") ++ line (codes "fe:0 => b:0 ;")) ≡ Err (Bad 2 SecondLine)
unfolding pieces with_pieces first_beyond is_within whole_error number_of appear add_parent add_child
second_line = refl

unreached : parsed (line (codes "fe:0 => a:0 ;") ++ line (codes "x:0 => y:0 ;") ++ line (codes "y:0 => x:0 ;")) ≡ Err (Bad 2 Unreached)
unfolding pieces with_pieces first_beyond is_within whole_error number_of appear add_parent add_child
unreached = refl

-- of two nodes that the root doesn't reach the first one counts, which stands in line 2
first_unreached : parsed (line (codes "fe:0 => a:0 ;") ++ line (codes "x:0 =>") ++ line (codes "y:0 ;") ++ line (codes "y:0 => x:0 ;")) ≡ Err (Bad 2 Unreached)
unfolding pieces with_pieces first_beyond is_within whole_error number_of appear add_parent add_child
first_unreached = refl

two_roots : parsed (line (codes "fe:0 => a:0 ;") ++ line (codes "gz:0 => b:0 ;")) ≡ Err (Bad 2 TwoRoots)
unfolding pieces with_pieces first_beyond is_within whole_error number_of appear add_parent add_child
two_roots = refl

no_root : parsed [] ≡ Err (Bad 0 NoRoot)
unfolding pieces with_pieces first_beyond is_within whole_error number_of appear add_parent add_child
no_root = refl

no_arrow : parsed (line (codes "fe:0 a:0 ;")) ≡ Err (Bad 1 NoArrow)
unfolding pieces with_pieces first_beyond is_within whole_error number_of appear add_parent add_child
no_arrow = refl

no_child : parsed (line (codes "fe:0 => ;")) ≡ Err (Bad 1 NoChild)
unfolding pieces with_pieces first_beyond is_within whole_error number_of appear add_parent add_child
no_child = refl

no_semicolon : parsed (codes "fe:0 => a:0") ≡ Err (Bad 1 NoSemicolon)
unfolding pieces with_pieces first_beyond is_within whole_error number_of appear add_parent add_child
no_semicolon = refl

no_semicolon_at_end : parsed (line (codes "fe:0 => a:0")) ≡ Err (Bad 2 NoSemicolon)
unfolding pieces with_pieces first_beyond is_within whole_error number_of appear add_parent add_child
no_semicolon_at_end = refl

-- two statements, as they are written
abbrev two : List Statement
two =
    record { parent = codes "c:0"; child = codes "n:0"; others = codes "n:1" ∷ [] }
    ∷ record { parent = codes "fe:0"; child = codes "c:0"; others = [] }
    ∷ []

two_written : map (λ p. p.1) (pieces 1 0 (line (codes "c:0 => n:0") ++ line (codes " n:1 ; # two lines") ++ codes "fe:0=>c:0;")) ≡ written two
unfolding pieces
two_written = refl

two_names : names_in two ≡ codes "c:0" ∷ codes "n:0" ∷ codes "n:1" ∷ codes "fe:0" ∷ codes "c:0" ∷ []
two_names = refl

two_parents : parents_in two ≡ codes "c:0" ∷ codes "fe:0" ∷ []
two_parents = refl

two_children : children_in two ≡ codes "n:0" ∷ codes "n:1" ∷ codes "c:0" ∷ []
two_children = refl

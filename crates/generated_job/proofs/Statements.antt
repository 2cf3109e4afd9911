-- Statements as tokens, and what the tokens are parsed as.
use Rattle.std.proofs.Common.{◌≡◌, ℕ, suc, ◌+◌, ◌≤◌, ◌<◌, Bool, true, false, nat_eq, List, [], ◌∷◌, ◌++◌, length, map, Option, None, Some, Ok, Err, Result, refl, sym, ap, ◌∙◌, subst, arith, append_assoc, length-append, append-nil, slice_get, codes}
use Rattle.std.specs.List.{list_all, AllByRecursion, flat_map}
use Rattle.std.proofs.Math.Seq.{drop-append_seam}
use Rattle.std.proofs.lemmas.Bool.{and_parts}
use Rattle.std.proofs.lemmas.Bool.Decides.{nat_tests}
use Rattle.overlay_setup.specs.Names.{IsName, is_host_byte, number_of}
use Rattle.text_lines.specs.declared.text_error.TextError.{TextError}
use Rattle.topology_text.specs.declared.parser.Node.{Node}
use Rattle.topology_text.specs.declared.parser.ParserState.{ParserState}
use Rattle.topology_text.specs.declared.parser.ParserState.TheVariants.{Outside, AfterParent, AfterArrow, AfterChild}
use Rattle.topology_text.specs.Tokens.{Piece, Arrow, Semicolon, Name, piece_len, pieces, is_space, StopsAt}
use Rattle.topology_text.specs.Statements.{Parsed, at_node, as_parent, child_of, is_parent, is_child, take_name, number_or_0, add_child, add_parent, with_piece, with_pieces}
use Rattle.topology_text.proofs.Numbers.{appear_known, appear_new, number_of_last}
use Rattle.topology_text.proofs.Nodes.{parent_good, child_good, piece_good}
use Rattle.std.proofs.lemmas.List.{map-append}
use Rattle.topology_text.specs.Grammar.{Statement, written}
use Rattle.generated_job.specs.Texts.{statement, text_of}
use Rattle.generated_job.specs.Written.{statement_line, IsGoodStatement}
use Rattle.generated_job.proofs.Tokens.{first_token, name_piece, past_space}

-- ---- the tokens

host_no_feed : (h : ℕ) → is_host_byte h ≡ true → nat_eq h 10 ≡ false
host_no_feed h e = grind (arith, nat_tests)

host_no_space : (h : ℕ) → is_host_byte h ≡ true → is_space h ≡ false
host_no_space h e = grind (arith, nat_tests)

host_no_mark : (h : ℕ) → is_host_byte h ≡ true → nat_eq h 35 ≡ false
host_no_mark h e = grind (arith, nat_tests)

host_stops : (host tail : List ℕ) → list_all is_host_byte host ≡ true → 1 ≤ length host → StopsAt (host ++ tail)
host_stops [] tail all some = absurd (omega arith)
host_stops (h ∷ host) tail all some = let p = (and_parts (is_host_byte h) (list_all is_host_byte host) all).0 in (host_no_feed h p, host_no_space h p, host_no_mark h p)

name_stops : (name rest : List ℕ) → IsName name → StopsAt (name ++ rest)
name_stops name rest good = subst StopsAt (sym (append_assoc good.host (58 ∷ good.index) rest) ∙ ap (λ n. n ++ rest) (sym good.parts)) (host_stops good.host ((58 ∷ good.index) ++ rest) good.host_bytes good.has_host)

name_some : (name : List ℕ) → IsName name → 1 ≤ length name
name_some name good = omega (arith, ap length good.parts, length-append good.host (58 ∷ good.index))

-- a name before a blank
pub name_read : (line : ℕ) (name rest : List ℕ) → IsName name → pieces line 0 (name ++ 32 ∷ rest) ≡ (line, Name name) ∷ pieces line 0 rest
name_read line name rest good =
    first_token line (length name) (name ++ 32 ∷ rest) (name_stops name (32 ∷ rest) good) (omega (arith, name_some name good, length-append name (32 ∷ rest))) (name_some name good) (ap piece_len (name_piece name rest good))
    ∙ (λ i. (line, name_piece name rest good i) ∷ pieces line 0 (drop-append_seam name (32 ∷ rest) i))
    ∙ ap (λ t. (line, Name name) ∷ t) (past_space line rest)

-- names, each behind a blank
abbrev spaced : List (List ℕ) → List ℕ
spaced names = flat_map (λ child. 32 ∷ child) names

-- what follows their first blank, where a blank follows them
abbrev past_blank : List (List ℕ) → List ℕ → List ℕ
past_blank [] rest = rest
past_blank (c ∷ cs) rest = c ++ (spaced cs ++ 32 ∷ rest)

spaced_parts : (cs : List (List ℕ)) (rest : List ℕ) → spaced cs ++ 32 ∷ rest ≡ 32 ∷ past_blank cs rest
spaced_parts [] rest = refl
spaced_parts (c ∷ cs) rest = ap (λ t. 32 ∷ t) (append_assoc c (spaced cs) (32 ∷ rest))

pub children_read : (line : ℕ) (cs : List (List ℕ)) (rest : List ℕ) → AllByRecursion IsName cs → pieces line 0 (past_blank cs rest) ≡ map (λ c. (line, Name c)) cs ++ pieces line 0 rest
children_read line [] rest good = refl
children_read line (c ∷ cs) rest good =
    ap (λ t. pieces line 0 (c ++ t)) (spaced_parts cs rest)
    ∙ name_read line c (past_blank cs rest) good.0
    ∙ ap (λ t. (line, Name c) ∷ t) (children_read line cs rest good.1)

-- the tokens of a statement's line, before those of what follows
abbrev pub tokens : ℕ → List ℕ → List (List ℕ) → List (ℕ × Piece) → List (ℕ × Piece)
tokens line parent children rest = (line, Name parent) ∷ (line, Arrow) ∷ map (λ c. (line, Name c)) children ++ (line, Semicolon) ∷ rest

arrow_read : (line : ℕ) (rest : List ℕ) → pieces line 0 (61 ∷ 62 ∷ 32 ∷ rest) ≡ (line, Arrow) ∷ pieces line 0 rest
unfolding pieces
arrow_read line rest = refl

semicolon_read : (line : ℕ) (rest : List ℕ) → pieces line 0 (59 ∷ 10 ∷ rest) ≡ (line, Semicolon) ∷ pieces (suc line) 0 rest
unfolding pieces
semicolon_read line rest = refl

statement_parts : (parent : List ℕ) (children : List (List ℕ)) (rest : List ℕ) → statement parent children ++ 10 ∷ rest ≡ parent ++ 32 ∷ 61 ∷ 62 ∷ 32 ∷ past_blank children (59 ∷ 10 ∷ rest)
statement_parts parent children rest =
    append_assoc parent (codes " =>" ++ (spaced children ++ codes " ;")) (10 ∷ rest)
    ∙ ap (λ t. parent ++ 32 ∷ 61 ∷ 62 ∷ t) (append_assoc (spaced children) (codes " ;") (10 ∷ rest) ∙ spaced_parts children (59 ∷ 10 ∷ rest))

-- a line that is a statement of good names has just its tokens
pub statement_read : (line : ℕ) (parent : List ℕ) (children : List (List ℕ)) (rest : List ℕ) → IsName parent → AllByRecursion IsName children → pieces line 0 (statement parent children ++ 10 ∷ rest) ≡ tokens line parent children (pieces (suc line) 0 rest)
statement_read line parent children rest one all =
    ap (pieces line 0) (statement_parts parent children rest)
    ∙ name_read line parent (61 ∷ 62 ∷ 32 ∷ past_blank children (59 ∷ 10 ∷ rest)) one
    ∙ ap (λ t. (line, Name parent) ∷ t) (arrow_read line (past_blank children (59 ∷ 10 ∷ rest)))
    ∙ ap (λ t. (line, Name parent) ∷ (line, Arrow) ∷ t) (children_read line children (59 ∷ 10 ∷ rest) all ∙ ap (λ t. map (λ c. (line, Name c)) children ++ t) (semicolon_read line rest))

-- ---- any statements of good names

-- a text that begins with a statement's line
pub first_line : (line : ℕ) (parent : List ℕ) (children lines : List (List ℕ)) → IsName parent → AllByRecursion IsName children → pieces line 0 (text_of (statement parent children ∷ lines)) ≡ tokens line parent children (pieces (suc line) 0 (text_of lines))
first_line line parent children lines one all = ap (pieces line 0) (append_assoc (statement parent children) (10 ∷ []) (text_of lines)) ∙ statement_read line parent children (text_of lines) one all

abbrev piece : ℕ × Piece → Piece
piece p = p.1

pieces_of : (line : ℕ) (names : List (List ℕ)) → map piece (map (λ c. (line, Name c)) names) ≡ map Name names
pieces_of line [] = refl
pieces_of line (c ∷ cs) = ap (λ t. Name c ∷ t) (pieces_of line cs)

no_statements : (line : ℕ) → map piece (pieces line 0 []) ≡ written []
unfolding pieces
no_statements line = refl

-- a text of statements of good names has just the tokens of these statements
pub statements_written : (line : ℕ) (ss : List Statement) → AllByRecursion IsGoodStatement ss → map piece (pieces line 0 (text_of (map statement_line ss))) ≡ written ss
statements_written line [] good = no_statements line
statements_written line (s ∷ ss) good =
    ap (map piece) (first_line line s.parent (s.child ∷ s.others) (map statement_line ss) good.0.parent (good.0.child, good.0.others))
    ∙ ap (λ t. Name s.parent ∷ Arrow ∷ Name s.child ∷ t) (map-append piece (map (λ c. (line, Name c)) s.others) ((line, Semicolon) ∷ pieces (suc line) 0 (text_of (map statement_line ss))) ∙ (λ i. pieces_of line s.others i ++ Semicolon ∷ statements_written (suc line) ss good.1 i))

-- ---- what the tokens are parsed as

abbrev pub parsed : List (List ℕ) → List Node → ParserState → Parsed
parsed names nodes state = record { names = names; nodes = nodes; state = state }

-- a node on a line, with its parent, and whether it has begun its statement
abbrev pub node : ℕ → Option ℕ → Bool → Node
node line parent begun = record { line = line; parent = parent; is_parent = begun }

-- no name is among those before it
abbrev pub AreNew : List (List ℕ) → List (List ℕ) → Type 0
AreNew names [] = Unit {0}
AreNew names (c ∷ cs) = (number_of c names ≡ None) × AreNew (names ++ c ∷ []) cs

pub at_node_seam : (xs : List Node) (x : Node) (ys : List Node) (f : Node → Node) → at_node (xs ++ x ∷ ys) (length xs) f ≡ xs ++ f x ∷ ys
at_node_seam [] x ys f = refl
at_node_seam (y ∷ xs) x ys f = ap (λ t. y ∷ t) (at_node_seam xs x ys f)

pub get_seam : {X : Type 0} (xs : List X) (x : X) (ys : List X) → slice_get (xs ++ x ∷ ys) (length xs) ≡ Some x
get_seam [] x ys = refl
get_seam (y ∷ xs) x ys = get_seam xs x ys

module _ (names : List (List ℕ)) (nodes : List Node) (state : ParserState) (line : ℕ) (c : List ℕ) (paired : length names ≡ length nodes) (few : length names < 512) (fresh : number_of c names ≡ None) where
  abbrev with_c : Parsed
  with_c = parsed (names ++ c ∷ []) (nodes ++ node line None false ∷ []) state

  appears : with_piece (parsed names nodes state) line (Name c) ≡ take_name with_c line state (length nodes)
  appears =
      ap (λ r. elim r as (λ _. Result Parsed TextError) [ (Err e) ↦ Err e | (Ok t) ↦ take_name t line t.state (number_or_0 (number_of c t.names)) ]) (appear_new (parsed names nodes state) line c fresh few)
      ∙ ap (λ o. take_name with_c line state (number_or_0 o)) (number_of_last c names fresh ∙ ap Some paired)

  -- a new child
  module _ (p : ℕ) (stands : (u : Parsed) (n : ℕ) → take_name u line state n ≡ add_child u line p n) where
    child_step : with_piece (parsed names nodes state) line (Name c) ≡ Ok (parsed (names ++ c ∷ []) (nodes ++ node line (Some p) false ∷ []) (AfterChild p))
    child_step =
        appears
        ∙ stands with_c (length nodes)
        ∙ child_good with_c line (length nodes) p (ap is_child (get_seam nodes (node line None false) []))
        ∙ ap (λ ns. Ok (parsed (names ++ c ∷ []) ns (AfterChild p))) (at_node_seam nodes (node line None false) [] (child_of p))

  -- a new parent
  parent_step : state ≡ Outside → with_piece (parsed names nodes state) line (Name c) ≡ Ok (parsed (names ++ c ∷ []) (nodes ++ node line None true ∷ []) (AfterParent (length nodes)))
  parent_step outside =
      appears
      ∙ ap (λ q. take_name with_c line q (length nodes)) outside
      ∙ parent_good with_c line (length nodes) (ap is_parent (get_seam nodes (node line None false) []))
      ∙ ap (λ ns. Ok (parsed (names ++ c ∷ []) ns (AfterParent (length nodes)))) (at_node_seam nodes (node line None false) [] as_parent)

one_more : {X : Type 0} (xs : List X) (x : X) → length (xs ++ x ∷ []) ≡ length xs + 1
one_more xs x = length-append xs (x ∷ [])

pub children_taken : (line p : ℕ) (cs : List (List ℕ)) (names : List (List ℕ)) (nodes : List Node) (rest : List (ℕ × Piece)) → length names ≡ length nodes → length names + length cs ≤ 512 → AreNew names cs → with_pieces (parsed names nodes (AfterChild p)) (map (λ c. (line, Name c)) cs ++ rest) ≡ with_pieces (parsed (names ++ cs) (nodes ++ map (λ _. node line (Some p) false) cs) (AfterChild p)) rest
children_taken line p [] names nodes rest paired few fresh = (λ i. with_pieces (parsed (sym (append-nil names) i) (sym (append-nil nodes) i) (AfterChild p)) rest)
children_taken line p (c ∷ cs) names nodes rest paired few fresh =
    piece_good (parsed names nodes (AfterChild p)) line (Name c) (map (λ c. (line, Name c)) cs ++ rest) _ (child_step names nodes (AfterChild p) line c paired (omega arith) fresh.0 p (λ u n. refl))
    ∙ children_taken line p cs (names ++ c ∷ []) (nodes ++ node line (Some p) false ∷ []) rest (one_more names c ∙ ap (λ n. n + 1) paired ∙ sym (one_more nodes (node line (Some p) false))) (omega (arith, one_more names c)) fresh.1
    ∙ (λ i. with_pieces (parsed (append_assoc names (c ∷ []) cs i) (append_assoc nodes (node line (Some p) false ∷ []) (map (λ _. node line (Some p) false) cs) i) (AfterChild p)) rest)

semicolon_taken : (names : List (List ℕ)) (nodes : List Node) (p line : ℕ) (rest : List (ℕ × Piece)) → with_pieces (parsed names nodes (AfterChild p)) ((line, Semicolon) ∷ rest) ≡ with_pieces (parsed names nodes Outside) rest
unfolding with_pieces
semicolon_taken names nodes p line rest = refl

arrow_taken : (names : List (List ℕ)) (nodes : List Node) (p line : ℕ) (rest : List (ℕ × Piece)) → with_pieces (parsed names nodes (AfterParent p)) ((line, Arrow) ∷ rest) ≡ with_pieces (parsed names nodes (AfterArrow p)) rest
unfolding with_pieces
arrow_taken names nodes p line rest = refl

-- what is left of a statement, behind its parent
module _ (line p : ℕ) (c : List ℕ) (cs : List (List ℕ)) (names : List (List ℕ)) (nodes : List Node) (rest : List (ℕ × Piece)) (paired : length names ≡ length nodes) (few : length names + length (c ∷ cs) ≤ 512) (fresh : AreNew names (c ∷ cs)) where
  pub rest_taken : with_pieces (parsed names nodes (AfterParent p)) ((line, Arrow) ∷ map (λ c. (line, Name c)) (c ∷ cs) ++ (line, Semicolon) ∷ rest) ≡ with_pieces (parsed (names ++ c ∷ cs) (nodes ++ map (λ _. node line (Some p) false) (c ∷ cs)) Outside) rest
  rest_taken =
      arrow_taken names nodes p line _
      ∙ piece_good (parsed names nodes (AfterArrow p)) line (Name c) (map (λ c. (line, Name c)) cs ++ (line, Semicolon) ∷ rest) _ (child_step names nodes (AfterArrow p) line c paired (omega arith) fresh.0 p (λ u n. refl))
      ∙ children_taken line p cs (names ++ c ∷ []) (nodes ++ node line (Some p) false ∷ []) ((line, Semicolon) ∷ rest) (one_more names c ∙ ap (λ n. n + 1) paired ∙ sym (one_more nodes (node line (Some p) false))) (omega (arith, one_more names c)) fresh.1
      ∙ semicolon_taken _ _ p line rest
      ∙ (λ i. with_pieces (parsed (append_assoc names (c ∷ []) cs i) (append_assoc nodes (node line (Some p) false ∷ []) (map (λ _. node line (Some p) false) cs) i) Outside) rest)

-- a statement of a new parent
pub new_taken : (line : ℕ) (parent c : List ℕ) (cs : List (List ℕ)) (rest : List (ℕ × Piece)) → AreNew [] (parent ∷ c ∷ cs) → length cs ≤ 510 → with_pieces (parsed [] [] Outside) (tokens line parent (c ∷ cs) rest) ≡ with_pieces (parsed (parent ∷ c ∷ cs) (node line None true ∷ map (λ _. node line (Some 0) false) (c ∷ cs)) Outside) rest
new_taken line parent c cs rest fresh few =
    piece_good (parsed [] [] Outside) line (Name parent) _ _ (parent_step [] [] Outside line parent refl (omega arith) fresh.0 refl)
    ∙ rest_taken line 0 c cs (parent ∷ []) (node line None true ∷ []) rest refl (omega arith) fresh.1

-- a statement of a node that has begun none
module _ (line n : ℕ) (parent c : List ℕ) (cs : List (List ℕ)) (names : List (List ℕ)) (before : List Node) (x : Node) (after : List Node) (rest : List (ℕ × Piece)) (known : number_of parent names ≡ Some n) (at : n ≡ length before) (idle : x.is_parent ≡ false) where
  abbrev s : Parsed
  s = parsed names (before ++ x ∷ after) Outside

  begins : with_piece s line (Name parent) ≡ Ok (parsed names (before ++ as_parent x ∷ after) (AfterParent n))
  begins =
      ap (λ r. elim r as (λ _. Result Parsed TextError) [ (Err e) ↦ Err e | (Ok t) ↦ take_name t line t.state (number_or_0 (number_of parent t.names)) ]) (appear_known s line n parent known)
      ∙ ap (λ o. add_parent s line (number_or_0 o)) known
      ∙ parent_good s line n (ap is_parent (ap (slice_get (before ++ x ∷ after)) at ∙ get_seam before x after) ∙ idle)
      ∙ ap (λ ns. Ok (parsed names ns (AfterParent n))) (ap (λ k. at_node (before ++ x ∷ after) k as_parent) at ∙ at_node_seam before x after as_parent)

  pub known_taken : length names ≡ length (before ++ x ∷ after) → length names + length (c ∷ cs) ≤ 512 → AreNew names (c ∷ cs) → with_pieces s (tokens line parent (c ∷ cs) rest) ≡ with_pieces (parsed (names ++ c ∷ cs) ((before ++ as_parent x ∷ after) ++ map (λ _. node line (Some n) false) (c ∷ cs)) Outside) rest
  known_taken paired few fresh =
      piece_good s line (Name parent) _ _ begins
      ∙ rest_taken line n c cs names (before ++ as_parent x ∷ after) rest (paired ∙ length-append before (x ∷ after) ∙ sym (length-append before (as_parent x ∷ after))) few fresh

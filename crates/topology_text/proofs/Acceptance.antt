-- A text that is written as the statements of a job's tree is accepted.
use Rattle.std.proofs.Common.{◌≡◌, ℕ, zero, suc, ◌+◌, ◌-◌, Bool, true, false, List, [], ◌∷◌, ◌++◌, map, length, length-append, Option, None, Some, Ok, Err, Result, refl, sym, ap, ◌∙◌, subst, ◌⊎◌, inl, inr, ◌<◌, ◌≤◌, arith, slice_get}
use Rattle.std.specs.List.{IsDistinct, AllByRecursion}
use Rattle.std.specs.Str.{bytes_eq}
use Rattle.std.proofs.lemmas.List.{ext_get_or}
use Rattle.std.proofs.lemmas.Map.Keys.{IsDistinct-tail, IsDistinct-head}
use Rattle.std.proofs.lemmas.Slice.Eq.{bytes_eq-Decides}
use Rattle.text_lines.specs.declared.text_error.TextError.{TextError}
use Rattle.overlay_setup.specs.Names.{name_of, number_of}
use Rattle.overlay_setup.specs.NodeSets.{In}
use Rattle.overlay_setup.specs.Topologies.{Nodes, topology}
use Rattle.overlay_setup.specs.Trees.{parent_of, climb, ancestors, root_of, IsTree}
use Rattle.overlay_setup.proofs.NameNumbers.{length-map}
use Rattle.text_lines.specs.Parsing.{and_then}
use Rattle.overlay_setup.proofs.DaemonNames.{named}
use Rattle.topology_text.specs.declared.parser.Node.{Node}
use Rattle.topology_text.specs.declared.parser.ParserState.{ParserState}
use Rattle.topology_text.specs.declared.parser.ParserState.TheVariants.{Outside, AfterParent, AfterArrow, AfterChild}
use Rattle.topology_text.specs.Grammar.{Statement, written, names_in, with_names, parents_in, children_in, IsWritten, IsAcceptable}
use Rattle.topology_text.specs.Statements.{Parsed, nothing_parsed, appear, number_or_0, is_parent, is_child, as_parent, child_of, at_node, take_name, take_arrow, take_semicolon, take_end, with_piece, with_pieces}
use Rattle.topology_text.specs.Tokens.{Piece, Arrow, Semicolon, Name, End, pieces}
use Rattle.topology_text.specs.Invariants.{ParserInvariant}
use Rattle.topology_text.specs.Whole.{is_within, roots_from, parents_of, first_beyond, depth_error, reach_error, roots_error, whole_error, unless, whole, nodes_of, topology_of}
use Rattle.topology_text.proofs.InvariantLemmas.{length-at_node, InvariantHolds, pieces_holds, nothing_holds}
use Rattle.topology_text.proofs.Grammar.{statements_names, links_to, links_from}
use Rattle.topology_text.proofs.NameParts.{pieces_good}
use Rattle.topology_text.proofs.OneTree.{climb_by, parent_below}
use Rattle.topology_text.proofs.Nodes.{parent_good, child_good, piece_good, none_left}
use Rattle.topology_text.proofs.Numbers.{appear_known, appear_new, number_of_last}
use Rattle.topology_text.proofs.Links.{Links, piece_names, no_more, reads, with_one, known_appears, new_appears}

-- no fewer names with others
names_more : (known names : List (List ℕ)) → length known ≤ length (with_names known names)
unfolding with_names
names_more known [] = omega arith
names_more known (name ∷ names) = by (number_of name known) (λ ns. names_more ns names)
  where
    by : (o : Option ℕ) → ((ns : List (List ℕ)) → length ns ≤ length (with_names ns names)) → length known ≤ length (elim o as (λ _. List (List ℕ)) [ (Some n) ↦ with_names known names | None ↦ with_names (known ++ name ∷ []) names ])
    by (Some n) more = more known
    by None more = let h = more (known ++ name ∷ []) in let len = length-append known (name ∷ []) in omega arith

-- a name that stands again
twice : (name : List ℕ) (names : List (List ℕ)) → AllByRecursion (λ other. bytes_eq name other ≡ false) names → In name names → ⊥
twice name [] all here = here
twice name (x ∷ names) all (inl e) = let t = (bytes_eq-Decides name x).1 e in let f = all.0 in cc
twice name (x ∷ names) all (inr there) = twice name names all.1 there

once : (name : List ℕ) (names : List (List ℕ)) → IsDistinct bytes_eq (name ∷ names) → In name names → ⊥
once name names distinct = twice name names (IsDistinct-head bytes_eq name names distinct)

-- a mark of a node, among nodes with one more, and of which one is changed
module _ (line : ℕ) where
  abbrev fresh : Node
  fresh = record { line = line; parent = None; is_parent = false }

  old_parent : (nodes : List Node) (k : ℕ) → is_parent (slice_get (nodes ++ fresh ∷ []) k) ≡ true → (k < length nodes) × (is_parent (slice_get nodes k) ≡ true)
  old_parent [] zero e = cc
  old_parent [] (suc k) e = cc
  old_parent (x ∷ nodes) zero e = (omega arith, e)
  old_parent (x ∷ nodes) (suc k) e = let h = old_parent nodes k e in let lt = h.0 in (omega arith, h.1)

  old_child : (nodes : List Node) (k : ℕ) → is_child (slice_get (nodes ++ fresh ∷ []) k) ≡ true → (k < length nodes) × (is_child (slice_get nodes k) ≡ true)
  old_child [] zero e = cc
  old_child [] (suc k) e = cc
  old_child (x ∷ nodes) zero e = (omega arith, e)
  old_child (x ∷ nodes) (suc k) e = let h = old_child nodes k e in let lt = h.0 in (omega arith, h.1)

parent_at : (nodes : List Node) (n k : ℕ) → is_parent (slice_get (at_node nodes n as_parent) k) ≡ true → (k ≡ n) ⊎ (is_parent (slice_get nodes k) ≡ true)
parent_at [] n k e = inr e
parent_at (x ∷ nodes) zero zero e = inl refl
parent_at (x ∷ nodes) zero (suc k) e = inr e
parent_at (x ∷ nodes) (suc n) zero e = inr e
parent_at (x ∷ nodes) (suc n) (suc k) e = elim (parent_at nodes n k e) [ (inl h) ↦ inl (ap suc h) | (inr h) ↦ inr h ]

parent_kept : (nodes : List Node) (n p k : ℕ) → is_parent (slice_get (at_node nodes n (child_of p)) k) ≡ true → is_parent (slice_get nodes k) ≡ true
parent_kept [] n p k e = e
parent_kept (x ∷ nodes) zero p zero e = e
parent_kept (x ∷ nodes) zero p (suc k) e = e
parent_kept (x ∷ nodes) (suc n) p zero e = e
parent_kept (x ∷ nodes) (suc n) p (suc k) e = parent_kept nodes n p k e

child_at : (nodes : List Node) (n p k : ℕ) → is_child (slice_get (at_node nodes n (child_of p)) k) ≡ true → (k ≡ n) ⊎ (is_child (slice_get nodes k) ≡ true)
child_at [] n p k e = inr e
child_at (x ∷ nodes) zero p zero e = inl refl
child_at (x ∷ nodes) zero p (suc k) e = inr e
child_at (x ∷ nodes) (suc n) p zero e = inr e
child_at (x ∷ nodes) (suc n) p (suc k) e = elim (child_at nodes n p k e) [ (inl h) ↦ inl (ap suc h) | (inr h) ↦ inr h ]

child_kept : (nodes : List Node) (n k : ℕ) → is_child (slice_get (at_node nodes n as_parent) k) ≡ true → is_child (slice_get nodes k) ≡ true
child_kept [] n k e = e
child_kept (x ∷ nodes) zero zero e = e
child_kept (x ∷ nodes) zero (suc k) e = e
child_kept (x ∷ nodes) (suc n) zero e = e
child_kept (x ∷ nodes) (suc n) (suc k) e = child_kept nodes n k e

-- What is parsed has nothing against the parents, children and names that come: no node that has begun a statement begins
-- another, no node with a parent gets a second, and there is room for all names.
record Ahead (parsed : List (List ℕ)) (nodes : List Node) (parents children names : List (List ℕ)) : Type 0 where
  parents_new : (k : ℕ) → is_parent (slice_get nodes k) ≡ true → In (name_of parsed k) parents → ⊥
  children_new : (k : ℕ) → is_child (slice_get nodes k) ≡ true → In (name_of parsed k) children → ⊥
  within_limit : length (with_names parsed names) ≤ 512
  paired : length parsed ≡ length nodes

-- a name appears
record Arrives (s : Parsed) (line : ℕ) (name : List ℕ) (parents children names : List (List ℕ)) : Type 0 where
  state : Parsed
  is : appear s line name ≡ Ok state
  number : ℕ
  at : number_of name state.names ≡ Some number
  stays : state.state ≡ s.state
  known : state.names ≡ with_names s.names (name ∷ [])
  ahead : Ahead state.names state.nodes parents children names

module _ (s : Parsed) (line : ℕ) (name : List ℕ) (parents children names : List (List ℕ)) (a : Ahead s.names s.nodes parents children (name ∷ names)) where
  arrives_known : (n : ℕ) → number_of name s.names ≡ Some n → Arrives s line name parents children names
  arrives_known n e =
      let k = known_appears s s line name n e in
      record {
        state = s;
        is = appear_known s line n name e;
        number = n;
        at = e;
        stays = refl;
        known = k.names;
        ahead = record {
          parents_new = a.parents_new;
          children_new = a.children_new;
          within_limit = subst (λ ns. length ns ≤ 512) (with_one s.names name names ∙ ap (λ ns. with_names ns names) (sym k.names)) a.within_limit;
          paired = a.paired;
        };
      }

  arrives_new : number_of name s.names ≡ None → Arrives s line name parents children names
  arrives_new e =
      let k = new_appears s s line name e in
      let few : length (with_names (s.names ++ name ∷ []) names) ≤ 512 = subst (λ ns. length ns ≤ 512) (with_one s.names name names ∙ ap (λ ns. with_names ns names) (sym k.names)) a.within_limit in
      let more = names_more (s.names ++ name ∷ []) names in
      let len = length-append s.names (name ∷ []) in
      let room : length s.names < 512 = omega arith in
      record {
        state = record s { names = s.names ++ name ∷ []; nodes = s.nodes ++ record { line = line; parent = None; is_parent = false } ∷ [] };
        is = appear_new s line name e room;
        number = length s.names;
        at = number_of_last name s.names e;
        stays = refl;
        known = k.names;
        ahead = record {
          parents_new = λ i e there. (let o = old_parent line s.nodes i e in let lt = o.0 in let p = a.paired in a.parents_new i o.1 (subst (λ x. In x parents) (k.stay i (omega arith)) there));
          children_new = λ i e there. (let o = old_child line s.nodes i e in let lt = o.0 in let p = a.paired in a.children_new i o.1 (subst (λ x. In x children) (k.stay i (omega arith)) there));
          within_limit = few;
          paired = k.paired a.paired;
        };
      }

  arrives_by : (o : Option ℕ) → number_of name s.names ≡ o → Arrives s line name parents children names
  arrives_by (Some n) e = arrives_known n e
  arrives_by None e = arrives_new e

  arrives : Arrives s line name parents children names
  arrives = arrives_by (number_of name s.names) refl

-- tokens, on whatever lines they stand, are parsed, and their names numbered in order of first appearance
abbrev pub Parses : Parsed → List Piece → Type 0
Parses s qs = (ps : List (ℕ × Piece)) → map (λ p. p.1) ps ≡ qs → (u : Parsed) × (with_pieces s ps ≡ Ok u) × (u.names ≡ with_names s.names (piece_names qs))

abbrev head_or : Piece → List Piece → Piece
head_or q [] = q
head_or q (p ∷ ps) = p

abbrev tail_of : List Piece → List Piece
tail_of [] = []
tail_of (p ∷ ps) = ps

step_on : (s : Parsed) (q : Piece) (qs : List Piece) → ((line : ℕ) → (v : Parsed) × (with_piece s line q ≡ Ok v) × Parses v qs × (with_names v.names (piece_names qs) ≡ with_names s.names (piece_names (q ∷ qs)))) → Parses s (q ∷ qs)
step_on s q qs goes [] e = cc
step_on s q qs goes ((line, p) ∷ ps) e =
    let g = goes line in
    let first : p ≡ q = ap (head_or q) e in
    let later = g.2 ps (ap tail_of e) in
    (later.0, piece_good s line p ps g.0 (ap (with_piece s line) first ∙ g.1) ∙ later.1, later.2 ∙ g.3)

-- a name whose number is known is taken by the state
name_taken : (s t v : Parsed) (line n : ℕ) (name : List ℕ) (state : ParserState) → appear s line name ≡ Ok t → number_of name t.names ≡ Some n → t.state ≡ state → take_name t line state n ≡ Ok v → with_piece s line (Name name) ≡ Ok v
name_taken s t v line n name state is at stays taken =
    ap (λ r. elim r as (λ _. Result Parsed TextError) [ (Err e) ↦ Err e | (Ok t) ↦ take_name t line t.state (number_or_0 (number_of name t.names)) ]) is
    ∙ (λ i. take_name t line (stays i) (number_or_0 (at i)))
    ∙ taken

not_true : (b : Bool) → (b ≡ true → ⊥) → b ≡ false
not_true true h = absurd (h refl)
not_true false h = refl

module _ (s : Parsed) (name : List ℕ) (qs : List Piece) (parents children names : List (List ℕ)) where
  -- a name that begins a statement
  parent_parses : s.state ≡ Outside → Ahead s.names s.nodes (name ∷ parents) children (name ∷ names) → IsDistinct bytes_eq (name ∷ parents) → ((v : Parsed) (p : ℕ) → v.state ≡ AfterParent p → Ahead v.names v.nodes parents children names → Parses v qs) → Parses s (Name name ∷ qs)
  parent_parses outside a distinct later = step_on s (Name name) qs (λ line. by line (arrives s line name (name ∷ parents) children names a))
    where
      by : (line : ℕ) → Arrives s line name (name ∷ parents) children names → (v : Parsed) × (with_piece s line (Name name) ≡ Ok v) × Parses v qs × (with_names v.names (piece_names qs) ≡ with_names s.names (name ∷ piece_names qs))
      by line r =
          let t = r.state in
          let n = r.number in
          let is_name : name_of t.names n ≡ name = (named name t.names n r.at).1 in
          let unmarked : is_parent (slice_get t.nodes n) ≡ false = not_true (is_parent (slice_get t.nodes n)) (λ e. r.ahead.parents_new n e (inl is_name)) in
          let v : Parsed = record t { nodes = at_node t.nodes n as_parent; state = AfterParent n } in (
            v,
            name_taken s t v line n name Outside r.is r.at (r.stays ∙ outside) (parent_good t line n unmarked),
            later v n refl (record {
              parents_new = λ k e there. (elim (parent_at t.nodes n k e) as (λ _. ⊥) [
                | (inl same) ↦ once name parents distinct (subst (λ x. In x parents) (ap (name_of t.names) same ∙ is_name) there)
                | (inr old) ↦ r.ahead.parents_new k old (inr there)
              ]);
              children_new = λ k e there. r.ahead.children_new k (child_kept t.nodes n k e) there;
              within_limit = r.ahead.within_limit;
              paired = r.ahead.paired ∙ sym (length-at_node n t.nodes as_parent);
            }),
            ap (λ ns. with_names ns (piece_names qs)) r.known ∙ sym (with_one s.names name (piece_names qs)),
          )

  -- a child
  child_parses : (p : ℕ) → (s.state ≡ AfterArrow p) ⊎ (s.state ≡ AfterChild p) → Ahead s.names s.nodes parents (name ∷ children) (name ∷ names) → IsDistinct bytes_eq (name ∷ children) → ((v : Parsed) → v.state ≡ AfterChild p → Ahead v.names v.nodes parents children names → Parses v qs) → Parses s (Name name ∷ qs)
  child_parses p inside a distinct later = step_on s (Name name) qs (λ line. by line (arrives s line name parents (name ∷ children) names a))
    where
      by : (line : ℕ) → Arrives s line name parents (name ∷ children) names → (v : Parsed) × (with_piece s line (Name name) ≡ Ok v) × Parses v qs × (with_names v.names (piece_names qs) ≡ with_names s.names (name ∷ piece_names qs))
      by line r =
          let t = r.state in
          let n = r.number in
          let is_name : name_of t.names n ≡ name = (named name t.names n r.at).1 in
          let unmarked : is_child (slice_get t.nodes n) ≡ false = not_true (is_child (slice_get t.nodes n)) (λ e. r.ahead.children_new n e (inl is_name)) in
          let v : Parsed = record t { nodes = at_node t.nodes n (child_of p); state = AfterChild p } in
          let taken : with_piece s line (Name name) ≡ Ok v = elim inside as (λ _. with_piece s line (Name name) ≡ Ok v) [
            | (inl e) ↦ name_taken s t v line n name (AfterArrow p) r.is r.at (r.stays ∙ e) (child_good t line n p unmarked)
            | (inr e) ↦ name_taken s t v line n name (AfterChild p) r.is r.at (r.stays ∙ e) (child_good t line n p unmarked)
          ] in (
            v,
            taken,
            later v refl (record {
              parents_new = λ k e there. r.ahead.parents_new k (parent_kept t.nodes n p k e) there;
              children_new = λ k e there. (elim (child_at t.nodes n p k e) as (λ _. ⊥) [
                | (inl same) ↦ once name children distinct (subst (λ x. In x children) (ap (name_of t.names) same ∙ is_name) there)
                | (inr old) ↦ r.ahead.children_new k old (inr there)
              ]);
              within_limit = r.ahead.within_limit;
              paired = r.ahead.paired ∙ sym (length-at_node n t.nodes (child_of p));
            }),
            ap (λ ns. with_names ns (piece_names qs)) r.known ∙ sym (with_one s.names name (piece_names qs)),
          )

-- the other tokens
arrow_parses : (s : Parsed) (p : ℕ) (qs : List Piece) → s.state ≡ AfterParent p → Parses (record s { state = AfterArrow p }) qs → Parses s (Arrow ∷ qs)
arrow_parses s p qs e later = step_on s Arrow qs (λ line. (record s { state = AfterArrow p }, ap (take_arrow s line) e, later, refl))

semicolon_parses : (s : Parsed) (p : ℕ) (qs : List Piece) → s.state ≡ AfterChild p → Parses (record s { state = Outside }) qs → Parses s (Semicolon ∷ qs)
semicolon_parses s p qs e later = step_on s Semicolon qs (λ line. (record s { state = Outside }, ap (take_semicolon s line) e, later, refl))

nothing_parses : (s : Parsed) → Parses s []
nothing_parses s [] e = (s, none_left s, sym (no_more s.names))
nothing_parses s (p ∷ ps) e = cc

end_parses : (s : Parsed) → s.state ≡ Outside → Parses s (End ∷ [])
end_parses s e = step_on s End [] (λ line. (s, ap (take_end s line) e, nothing_parses s, refl))

-- the children after the first, to the statement's end
others_parse : (others : List (List ℕ)) (s : Parsed) (p : ℕ) (qs : List Piece) (parents children names : List (List ℕ)) → s.state ≡ AfterChild p → Ahead s.names s.nodes parents (others ++ children) (others ++ names) → IsDistinct bytes_eq (others ++ children) → ((v : Parsed) → v.state ≡ Outside → Ahead v.names v.nodes parents children names → IsDistinct bytes_eq children → Parses v qs) → Parses s (map Name others ++ Semicolon ∷ qs)
others_parse [] s p qs parents children names e a distinct later = semicolon_parses s p qs e (later (record s { state = Outside }) refl a distinct)
others_parse (name ∷ others) s p qs parents children names e a distinct later =
    child_parses s name (map Name others ++ Semicolon ∷ qs) parents (others ++ children) (others ++ names) p (inr e) a distinct
    (λ v after ahead. others_parse others v p qs parents children names after ahead (IsDistinct-tail bytes_eq name (others ++ children) distinct) later)

-- whole statements
statements_parse : (statements : List Statement) (s : Parsed) → s.state ≡ Outside → Ahead s.names s.nodes (parents_in statements) (children_in statements) (names_in statements) → IsDistinct bytes_eq (parents_in statements) → IsDistinct bytes_eq (children_in statements) → Parses s (written statements)
statements_parse [] s e a one_statement one_parent = end_parses s e
statements_parse (x ∷ statements) s e a one_statement one_parent =
    parent_parses s x.parent (Arrow ∷ Name x.child ∷ map Name x.others ++ Semicolon ∷ written statements) (parents_in statements) (children_in (x ∷ statements)) (x.child ∷ x.others ++ names_in statements) e a one_statement
    (λ v p after ahead. arrow_parses v p (Name x.child ∷ map Name x.others ++ Semicolon ∷ written statements) after (
    child_parses (record v { state = AfterArrow p }) x.child (map Name x.others ++ Semicolon ∷ written statements) (parents_in statements) (x.others ++ children_in statements) (x.others ++ names_in statements) p (inl refl) ahead one_parent
    (λ w within further. others_parse x.others w p (written statements) (parents_in statements) (children_in statements) (names_in statements) within further (IsDistinct-tail bytes_eq x.child (x.others ++ children_in statements) one_parent)
    (λ y outside rest distinct. statements_parse statements y outside rest (IsDistinct-tail bytes_eq x.parent (parents_in statements) one_statement) distinct))
    ))

-- the tokens of a text as these statements have no error, where at most 512 nodes are named
pub tokens_parse : (text : List ℕ) (statements : List Statement) → map (λ p. p.1) (pieces 1 0 text) ≡ written statements → IsDistinct bytes_eq (parents_in statements) → IsDistinct bytes_eq (children_in statements) → length (with_names [] (names_in statements)) ≤ 512 → (u : Parsed) × (with_pieces nothing_parsed (pieces 1 0 text) ≡ Ok u) × (u.names ≡ with_names [] (piece_names (written statements)))
tokens_parse text statements is one_statement one_parent few =
    statements_parse statements nothing_parsed refl (record { parents_new = λ k e there. no_mark k e; children_new = λ k e there. no_mark k e; within_limit = few; paired = refl }) one_statement one_parent (pieces 1 0 text) is
  where
    no_mark : (k : ℕ) → false ≡ true → ⊥
    no_mark k e = cc

-- roots and reach in a tree
no_roots : (ps : List (Option ℕ)) (m : ℕ) → ((n : ℕ) → n < length ps → parent_of ps n ≡ None → ⊥) → roots_from m ps ≡ []
no_roots [] m none = refl
no_roots (None ∷ ps) m none = absurd (none 0 (omega arith) refl)
no_roots (Some p ∷ ps) m none = no_roots ps (suc m) (λ n lt e. none (suc n) (omega arith) e)

one_root : (ps : List (Option ℕ)) (m : ℕ) → root_of ps < length ps → ((n : ℕ) → n < length ps → parent_of ps n ≡ None → n ≡ root_of ps) → (root : ℕ) × (roots_from m ps ≡ root ∷ [])
one_root [] m some one = absurd (omega arith)
one_root (None ∷ ps) m some one = (m, ap (λ t. m ∷ t) (no_roots ps (suc m) (λ n lt e. let h = one (suc n) (omega arith) e in absurd (omega arith))))
one_root (Some p ∷ ps) m some one = one_root ps (suc m) (omega arith) (λ n lt e. let h = one (suc n) (omega arith) e in omega arith)

within_root : (ps : List (Option ℕ)) (links n : ℕ) → parent_of ps n ≡ None → is_within ps links n ≡ true
unfolding is_within
within_root ps zero n e = rw e refl
within_root ps (suc links) n e = rw (e, is_within) refl

within_by : (ps : List (Option ℕ)) (links n p : ℕ) → parent_of ps n ≡ Some p → is_within ps links p ≡ true → is_within ps (suc links) n ≡ true
unfolding is_within
within_by ps links n p e h = rw (e, is_within) h

-- a node with at most so many ancestors is within so many links
climb_within : (ps : List (Option ℕ)) (links fuel n : ℕ) → length (climb ps fuel n) ≤ links → length (climb ps fuel n) < fuel → is_within ps links n ≡ true
climb_within ps links zero n few ends = absurd (omega arith)
climb_within ps links (suc fuel) n few ends = by (parent_of ps n) refl links few (λ links p. climb_within ps links fuel p)
  where
    by : (o : Option ℕ) → parent_of ps n ≡ o → (links : ℕ) → length (climb ps (suc fuel) n) ≤ links → ((links p : ℕ) → length (climb ps fuel p) ≤ links → length (climb ps fuel p) < fuel → is_within ps links p ≡ true) → is_within ps links n ≡ true
    by None e links few more = within_root ps links n e
    by (Some p) e zero few more = let up = ap length (climb_by ps fuel n (Some p) e) in absurd (omega arith)
    by (Some p) e (suc links) few more = let up = ap length (climb_by ps fuel n (Some p) e) in within_by ps links n p e (more links p (omega arith) (omega arith))

none_beyond : (ps : List (Option ℕ)) (links more n : ℕ) → ((k : ℕ) → k < n + more → is_within ps links k ≡ true) → first_beyond ps links n more ≡ None
unfolding first_beyond
none_beyond ps links zero n all = refl
none_beyond ps links (suc more) n all = rw (all n (omega arith), first_beyond) (none_beyond ps links more (suc n) (λ k lt. all k (omega arith)))

-- a tree has no error of the whole text
pub tree_good : (nodes : List Node) → IsTree (parents_of nodes) → whole_error nodes ≡ None
unfolding whole_error ancestors
tree_good nodes tree =
    let ps = parents_of nodes in
    let len : length (parents_of nodes) ≡ length nodes = length-map (λ (x : Node). x.parent) nodes in
    let root = one_root (parents_of nodes) 0 tree.some tree.one_root in
    let reached : first_beyond (parents_of nodes) (length nodes - 1) 0 (length nodes) ≡ None = none_beyond (parents_of nodes) (length nodes - 1) (length nodes) 0 (λ k lt. let few = tree.grounded k in climb_within (parents_of nodes) (length nodes - 1) (length (parents_of nodes)) k (omega arith) few) in
    let near : first_beyond (parents_of nodes) 8 0 (length nodes) ≡ None = none_beyond (parents_of nodes) 8 (length nodes) 0 (λ k lt. climb_within (parents_of nodes) 8 (length (parents_of nodes)) k (tree.shallow k) (tree.grounded k)) in
    ap (roots_error nodes) root.1 ∙ ap (reach_error nodes) reached ∙ ap depth_error near

same_option : (a b : Option ℕ) → ((p : ℕ) → a ≡ Some p → b ≡ Some p) → ((p : ℕ) → b ≡ Some p → a ≡ Some p) → a ≡ b
same_option None None to from = refl
same_option None (Some q) to from = from q refl
same_option (Some p) b to from = sym (to p refl)

nowhere : (c p : ℕ) → parent_of [] c ≡ Some p → ⊥
nowhere zero p e = cc
nowhere (suc c) p e = cc

-- what is parsed has the links that are written
module _ (text : List ℕ) (t : Nodes) (f : IsWritten text t) (s : Parsed) (good : with_pieces nothing_parsed (pieces 1 0 text) ≡ Ok s) (same : s.names ≡ t.names) (distinct : IsDistinct bytes_eq s.names) where
  link_to : (p c : ℕ) → p < length t.names → c < length t.names → parent_of (parents_of s.nodes) c ≡ Some p → parent_of t.parents c ≡ Some p
  link_to p c x y h =
      let r = reads s distinct (pieces 1 0 text) nothing_parsed (pieces_good 1 0 text) nothing_holds good in
      let new : Links None (map (λ p. p.1) (pieces 1 0 text)) (name_of s.names p) (name_of s.names c) = elim (r.to p c h) [ (inl old) ↦ absurd (nowhere c p old) | (inr new) ↦ new ] in
      (f.links p c x y).1 (links_to (name_of t.names p) (name_of t.names c) f.statements (subst (λ ns. Links None (written f.statements) (name_of ns p) (name_of ns c)) same (subst (λ ps. Links None ps (name_of s.names p) (name_of s.names c)) f.is new)))

  link_from : (p c : ℕ) → p < length t.names → c < length t.names → parent_of t.parents c ≡ Some p → parent_of (parents_of s.nodes) c ≡ Some p
  link_from p c x y h =
      let r = reads s distinct (pieces 1 0 text) nothing_parsed (pieces_good 1 0 text) nothing_holds good in
      let len = ap length same in
      let new : Links None (written f.statements) (name_of t.names p) (name_of t.names c) = links_from (name_of t.names p) (name_of t.names c) f.statements ((f.links p c x y).0 h) in
      r.from p c (omega arith) (omega arith) (inr (subst (λ ps. Links None ps (name_of s.names p) (name_of s.names c)) (sym f.is) (subst (λ ns. Links None (written f.statements) (name_of ns p) (name_of ns c)) (sym same) new)))

  same_parents : ParserInvariant s → length t.names ≡ length t.parents → IsTree t.parents → parents_of s.nodes ≡ t.parents
  same_parents kept paired tree =
      let len : length (parents_of s.nodes) ≡ length s.nodes = length-map (λ (x : Node). x.parent) s.nodes in
      let nodes = kept.paired in
      let names = ap length same in
      ext_get_or None (parents_of s.nodes) t.parents (omega arith) (λ c lt.
      same_option (parent_of (parents_of s.nodes) c) (parent_of t.parents c)
      (λ p e. let low = (parent_below (length s.nodes) s.nodes kept.parents c p e).1 in link_to p c (omega arith) (omega arith) e)
      (λ p e. let low = (tree.parents_are_nodes c p e).1 in link_from p c (omega arith) (omega arith) e))

-- a text that is written as the statements of a job's tree is accepted
pub acceptable : (text : List ℕ) (t : Nodes) → IsAcceptable text t → topology_of text ≡ Ok t
acceptable text t a =
    let f = a.form in
    let size = ap length f.names in
    let paired = a.topology.paired in
    let many = a.topology.within_limit in
    let read = tokens_parse text f.statements f.is a.one_statement a.one_parent (omega arith) in
    let s : Parsed = read.0 in
    let same : s.names ≡ t.names = read.2 ∙ ap (with_names []) (statements_names f.statements) ∙ sym f.names in
    let distinct : IsDistinct bytes_eq s.names = subst (IsDistinct bytes_eq) (sym same) a.topology.distinct in
    let kept : ParserInvariant s = subst InvariantHolds read.1 (pieces_holds nothing_parsed (pieces 1 0 text) (pieces_good 1 0 text) nothing_holds) in
    let parents : parents_of s.nodes ≡ t.parents = same_parents text t f s read.1 same distinct kept paired a.topology.tree in
    let none : whole_error s.nodes ≡ None = tree_good s.nodes (subst IsTree (sym parents) a.topology.tree) in
    ap (λ r. nodes_of (and_then r whole)) read.1 ∙ ap (λ o. nodes_of (unless s o)) none ∙ (λ i. Ok (topology (same i) (parents i)))

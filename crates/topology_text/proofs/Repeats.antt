-- An accepted text has one statement for each parent, and each child once.
use Rattle.std.proofs.Common.{◌≡◌, ℕ, zero, suc, Bool, true, false, List, [], ◌∷◌, ◌++◌, map, length, Ok, Err, Result, refl, sym, ap, ◌∙◌, subst, inl, inr, ◌<◌, ◌≤◌, arith, slice_get}
use Rattle.std.specs.List.{IsDistinct, AllByRecursion}
use Rattle.std.specs.Str.{bytes_eq}
use Rattle.std.proofs.lemmas.Map.Keys.{IsDistinct-cons}
use Rattle.std.proofs.lemmas.Slice.Eq.{bytes_eq-Decides}
use Rattle.text_lines.specs.declared.text_error.TextError.{TextError}
use Rattle.text_lines.proofs.Errors.{ok_inj}
use Rattle.overlay_setup.specs.Names.{name_of, number_of}
use Rattle.overlay_setup.specs.NodeSets.{In}
use Rattle.overlay_setup.specs.Topologies.{Nodes, IsTopology}
use Rattle.overlay_setup.proofs.DaemonNames.{named}
use Rattle.topology_text.specs.declared.parser.Node.{Node}
use Rattle.topology_text.specs.declared.parser.ParserState.{ParserState}
use Rattle.topology_text.specs.declared.parser.ParserState.TheVariants.{Outside, AfterParent, AfterArrow, AfterChild}
use Rattle.topology_text.specs.Grammar.{Statement, written, parents_in, children_in, IsAcceptable}
use Rattle.topology_text.specs.Invariants.{ParserInvariant}
use Rattle.topology_text.specs.Statements.{Parsed, nothing_parsed, appear, number_or_0, is_parent, is_child, as_parent, child_of, at_node, add_parent, add_child, take_name, take_arrow, take_semicolon, take_end, with_piece, with_pieces}
use Rattle.topology_text.specs.Tokens.{Piece, Arrow, Semicolon, Name, End, NoToken, pieces}
use Rattle.topology_text.specs.Whole.{topology_of}
use Rattle.topology_text.proofs.Grammar.{is_written}
use Rattle.topology_text.proofs.InvariantLemmas.{InvariantHolds, piece_holds, nothing_holds}
use Rattle.topology_text.proofs.Links.{Appears, appears, same_number}
use Rattle.topology_text.proofs.NameParts.{IsGoodPiece, pieces_good}
use Rattle.topology_text.proofs.Nodes.{parent_bad, parent_good, child_bad, child_good, piece_bad, piece_good, none_left}
use Rattle.topology_text.proofs.WholeFile.{accepted}

-- the names that begin statements among tokens, where one may have been begun
abbrev pub piece_parents : Bool → List Piece → List (List ℕ)
piece_parents begun [] = []
piece_parents true (Name name ∷ ps) = piece_parents true ps
piece_parents false (Name name ∷ ps) = name ∷ piece_parents true ps
piece_parents begun (Arrow ∷ ps) = piece_parents begun ps
piece_parents begun (Semicolon ∷ ps) = piece_parents false ps
piece_parents begun (End ∷ ps) = piece_parents begun ps
piece_parents begun (NoToken ∷ ps) = piece_parents begun ps

-- the names of children among tokens
abbrev pub piece_children : Bool → List Piece → List (List ℕ)
piece_children begun [] = []
piece_children true (Name name ∷ ps) = name ∷ piece_children true ps
piece_children false (Name name ∷ ps) = piece_children true ps
piece_children begun (Arrow ∷ ps) = piece_children begun ps
piece_children begun (Semicolon ∷ ps) = piece_children false ps
piece_children begun (End ∷ ps) = piece_children begun ps
piece_children begun (NoToken ∷ ps) = piece_children begun ps

-- whether a statement has been begun
abbrev is_inside : ParserState → Bool
is_inside Outside = false
is_inside (AfterParent p) = true
is_inside (AfterArrow p) = true
is_inside (AfterChild p) = true

-- those of statements
others_parents : (names : List (List ℕ)) (ps : List Piece) → piece_parents true (map Name names ++ Semicolon ∷ ps) ≡ piece_parents false ps
others_parents [] ps = refl
others_parents (name ∷ names) ps = others_parents names ps

others_children : (names : List (List ℕ)) (ps : List Piece) → piece_children true (map Name names ++ Semicolon ∷ ps) ≡ names ++ piece_children false ps
others_children [] ps = refl
others_children (name ∷ names) ps = ap (λ t. name ∷ t) (others_children names ps)

statements_parents : (statements : List Statement) → piece_parents false (written statements) ≡ parents_in statements
statements_parents [] = refl
statements_parents (s ∷ statements) = ap (λ t. s.parent ∷ t) (others_parents s.others (written statements) ∙ statements_parents statements)

statements_children : (statements : List Statement) → piece_children false (written statements) ≡ children_in statements
statements_children [] = refl
statements_children (s ∷ statements) = ap (λ t. s.child ∷ t) (others_children s.others (written statements) ∙ ap (λ t. s.others ++ t) (statements_children statements))

-- marks stay, and a node that is marked is a node
marked_below : (nodes : List Node) (k : ℕ) → is_parent (slice_get nodes k) ≡ true → k < length nodes
marked_below [] k e = cc
marked_below (x ∷ nodes) zero e = omega arith
marked_below (x ∷ nodes) (suc k) e = let lt = marked_below nodes k e in omega arith

child_below : (nodes : List Node) (k : ℕ) → is_child (slice_get nodes k) ≡ true → k < length nodes
child_below [] k e = cc
child_below (x ∷ nodes) zero e = omega arith
child_below (x ∷ nodes) (suc k) e = let lt = child_below nodes k e in omega arith

parent_now : (nodes : List Node) (n : ℕ) → n < length nodes → is_parent (slice_get (at_node nodes n as_parent) n) ≡ true
parent_now [] n lt = absurd (omega arith)
parent_now (x ∷ nodes) zero lt = refl
parent_now (x ∷ nodes) (suc n) lt = parent_now nodes n (omega arith)

child_now : (nodes : List Node) (n p : ℕ) → n < length nodes → is_child (slice_get (at_node nodes n (child_of p)) n) ≡ true
child_now [] n p lt = absurd (omega arith)
child_now (x ∷ nodes) zero p lt = refl
child_now (x ∷ nodes) (suc n) p lt = child_now nodes n p (omega arith)

parent_by_parent : (nodes : List Node) (n k : ℕ) → is_parent (slice_get nodes k) ≡ true → is_parent (slice_get (at_node nodes n as_parent) k) ≡ true
parent_by_parent [] n k e = e
parent_by_parent (x ∷ nodes) zero zero e = refl
parent_by_parent (x ∷ nodes) zero (suc k) e = e
parent_by_parent (x ∷ nodes) (suc n) zero e = e
parent_by_parent (x ∷ nodes) (suc n) (suc k) e = parent_by_parent nodes n k e

parent_by_child : (nodes : List Node) (n p k : ℕ) → is_parent (slice_get nodes k) ≡ true → is_parent (slice_get (at_node nodes n (child_of p)) k) ≡ true
parent_by_child [] n p k e = e
parent_by_child (x ∷ nodes) zero p zero e = e
parent_by_child (x ∷ nodes) zero p (suc k) e = e
parent_by_child (x ∷ nodes) (suc n) p zero e = e
parent_by_child (x ∷ nodes) (suc n) p (suc k) e = parent_by_child nodes n p k e

child_by_child : (nodes : List Node) (n p k : ℕ) → is_child (slice_get nodes k) ≡ true → is_child (slice_get (at_node nodes n (child_of p)) k) ≡ true
child_by_child [] n p k e = e
child_by_child (x ∷ nodes) zero p zero e = refl
child_by_child (x ∷ nodes) zero p (suc k) e = e
child_by_child (x ∷ nodes) (suc n) p zero e = e
child_by_child (x ∷ nodes) (suc n) p (suc k) e = child_by_child nodes n p k e

child_by_parent : (nodes : List Node) (n k : ℕ) → is_child (slice_get nodes k) ≡ true → is_child (slice_get (at_node nodes n as_parent) k) ≡ true
child_by_parent [] n k e = e
child_by_parent (x ∷ nodes) zero zero e = e
child_by_parent (x ∷ nodes) zero (suc k) e = e
child_by_parent (x ∷ nodes) (suc n) zero e = e
child_by_parent (x ∷ nodes) (suc n) (suc k) e = child_by_parent nodes n k e

-- a name that isn't in a list differs from each in it
differs : (b : Bool) → (b ≡ true → ⊥) → b ≡ false
differs true h = absurd (h refl)
differs false h = refl

others_differ : (name : List ℕ) (names : List (List ℕ)) → (In name names → ⊥) → AllByRecursion (λ other. bytes_eq name other ≡ false) names
others_differ name [] absent = tt
others_differ name (x ∷ names) absent = (differs (bytes_eq name x) (λ e. absent (inl ((bytes_eq-Decides name x).0 e))), others_differ name names (λ there. absent (inr there)))

module _ (u : Parsed) (distinct : IsDistinct bytes_eq u.names) where
  -- no token that is left repeats one that is taken, or another that is left
  record After (parsed : List (List ℕ)) (nodes : List Node) (state : ParserState) (ps : List Piece) : Type 0 where
    stay : (k : ℕ) → k < length parsed → name_of u.names k ≡ name_of parsed k
    longer : length parsed ≤ length u.names
    parents_new : (k : ℕ) → is_parent (slice_get nodes k) ≡ true → In (name_of u.names k) (piece_parents (is_inside state) ps) → ⊥
    children_new : (k : ℕ) → is_child (slice_get nodes k) ≡ true → In (name_of u.names k) (piece_children (is_inside state) ps) → ⊥
    one_statement : IsDistinct bytes_eq (piece_parents (is_inside state) ps)
    one_parent : IsDistinct bytes_eq (piece_children (is_inside state) ps)

  at_end : IsDistinct bytes_eq [] → After u.names u.nodes u.state []
  at_end none = record {
    stay = λ k lt. refl;
    longer = omega arith;
    parents_new = λ k e there. there;
    children_new = λ k e there. there;
    one_statement = none;
    one_parent = none;
  }

  module _ (s t : Parsed) (name : List ℕ) (a : Appears s name t) (paired : length s.names ≡ length s.nodes) (ps : List Piece) where
    is_name : name_of t.names a.number ≡ name
    is_name = (named name t.names a.number a.is).1

    low : a.number < length t.names
    low = (named name t.names a.number a.is).0

    parent_after : is_parent (slice_get t.nodes a.number) ≡ false → After t.names (at_node t.nodes a.number as_parent) (AfterParent a.number) ps → After s.names s.nodes Outside (Name name ∷ ps)
    parent_after unmarked r =
        let most = r.longer in
        let more = a.longer in
        let below = low in
        let paired_t = a.paired paired in
        let name_is : name_of u.names a.number ≡ name = r.stay a.number low ∙ is_name in
        record {
          stay = λ k lt. r.stay k (omega arith) ∙ a.stay k lt;
          longer = omega arith;
          parents_new = λ k e there. (elim there as (λ _. ⊥) [
            | (inl same) ↦ (
                let lt = marked_below s.nodes k e in
                let here : k ≡ a.number = same_number u distinct k a.number (omega arith) (omega arith) (same ∙ sym name_is) in
                let clash = sym unmarked ∙ subst (λ n. is_parent (slice_get t.nodes n) ≡ true) here (a.begun k e) in
                cc
                )
            | (inr later) ↦ r.parents_new k (parent_by_parent t.nodes a.number k (a.begun k e)) later
          ]);
          children_new = λ k e there. r.children_new k (child_by_parent t.nodes a.number k (a.held k e)) there;
          one_statement = IsDistinct-cons bytes_eq name (piece_parents true ps) (others_differ name (piece_parents true ps) (λ there.
              r.parents_new a.number (parent_now t.nodes a.number (omega arith)) (subst (λ x. In x (piece_parents true ps)) (sym name_is) there))) r.one_statement;
          one_parent = r.one_parent;
        }

    module _ (q : ℕ) (free : is_child (slice_get t.nodes a.number) ≡ false) (r : After t.names (at_node t.nodes a.number (child_of q)) (AfterChild q) ps) where
      name_is : name_of u.names a.number ≡ name
      name_is = r.stay a.number low ∙ is_name

      repeated : (k : ℕ) → is_child (slice_get s.nodes k) ≡ true → name_of u.names k ≡ name → ⊥
      repeated k e same =
          let most = r.longer in
          let more = a.longer in
          let below = low in
          let lt = child_below s.nodes k e in
          let here : k ≡ a.number = same_number u distinct k a.number (omega arith) (omega arith) (same ∙ sym name_is) in
          let clash = sym free ∙ subst (λ n. is_child (slice_get t.nodes n) ≡ true) here (a.held k e) in
          cc

      children_after : (k : ℕ) → is_child (slice_get s.nodes k) ≡ true → In (name_of u.names k) (name ∷ piece_children true ps) → ⊥
      children_after k e (inl same) = repeated k e same
      children_after k e (inr later) = r.children_new k (child_by_child t.nodes a.number q k (a.held k e)) later

      child_after : After s.names s.nodes (AfterChild q) (Name name ∷ ps)
      child_after =
          let most = r.longer in
          let more = a.longer in
          let below = low in
          let paired_t = a.paired paired in
          record {
            stay = λ k lt. r.stay k (omega arith) ∙ a.stay k lt;
            longer = omega arith;
            parents_new = λ k e there. r.parents_new k (parent_by_child t.nodes a.number q k (a.begun k e)) there;
            children_new = children_after;
            one_statement = r.one_statement;
            one_parent = IsDistinct-cons bytes_eq name (piece_children true ps) (others_differ name (piece_children true ps) (λ there.
                r.children_new a.number (child_now t.nodes a.number q (omega arith)) (subst (λ x. In x (piece_children true ps)) (sym name_is) there))) r.one_parent;
          }

  -- within a statement, the place of the next token makes no difference
  arrow_for_child : (parsed : List (List ℕ)) (nodes : List Node) (q : ℕ) (ps : List Piece) → After parsed nodes (AfterChild q) ps → After parsed nodes (AfterArrow q) ps
  arrow_for_child parsed nodes q ps r = record { stay = r.stay; longer = r.longer; parents_new = r.parents_new; children_new = r.children_new; one_statement = r.one_statement; one_parent = r.one_parent }

  -- one token more
  module _ (s v : Parsed) (line : ℕ) (ps : List Piece) (h : ParserInvariant s) (r : After v.names v.nodes v.state ps) where
    moved : (w : Parsed) → w ≡ v → After w.names w.nodes w.state ps
    moved w e = subst (λ x. After x.names x.nodes x.state ps) (sym e) r

    by_arrow : (state : ParserState) → take_arrow s line state ≡ Ok v → After s.names s.nodes state (Arrow ∷ ps)
    by_arrow Outside e = cc
    by_arrow (AfterParent q) e =
        let m = moved (record s { state = AfterArrow q }) (ok_inj (record s { state = AfterArrow q }) v e) in
        record { stay = m.stay; longer = m.longer; parents_new = m.parents_new; children_new = m.children_new; one_statement = m.one_statement; one_parent = m.one_parent }
    by_arrow (AfterArrow q) e = cc
    by_arrow (AfterChild q) e = cc

    by_semicolon : (state : ParserState) → take_semicolon s line state ≡ Ok v → After s.names s.nodes state (Semicolon ∷ ps)
    by_semicolon Outside e = cc
    by_semicolon (AfterParent q) e = cc
    by_semicolon (AfterArrow q) e = cc
    by_semicolon (AfterChild q) e =
        let m = moved (record s { state = Outside }) (ok_inj (record s { state = Outside }) v e) in
        record { stay = m.stay; longer = m.longer; parents_new = m.parents_new; children_new = m.children_new; one_statement = m.one_statement; one_parent = m.one_parent }

    by_end : (state : ParserState) → s.state ≡ state → take_end s line state ≡ Ok v → After s.names s.nodes state (End ∷ ps)
    by_end Outside is e =
        let m : After s.names s.nodes Outside ps = subst (λ x. After s.names s.nodes x ps) is (moved s (ok_inj s v e)) in
        record { stay = m.stay; longer = m.longer; parents_new = m.parents_new; children_new = m.children_new; one_statement = m.one_statement; one_parent = m.one_parent }
    by_end (AfterParent q) is e = cc
    by_end (AfterArrow q) is e = cc
    by_end (AfterChild q) is e = cc

    module _ (t : Parsed) (name : List ℕ) (a : Appears s name t) where
      by_parent : (b : Bool) → is_parent (slice_get t.nodes a.number) ≡ b → add_parent t line a.number ≡ Ok v → After s.names s.nodes Outside (Name name ∷ ps)
      by_parent true e k = let clash = sym (parent_bad t line a.number e) ∙ k in cc
      by_parent false e k = parent_after s t name a h.paired ps e (moved _ (ok_inj _ v (sym (parent_good t line a.number e) ∙ k)))

      by_child : (q : ℕ) (b : Bool) → is_child (slice_get t.nodes a.number) ≡ b → add_child t line q a.number ≡ Ok v → After s.names s.nodes (AfterChild q) (Name name ∷ ps)
      by_child q true e k = let clash = sym (child_bad t line a.number q e) ∙ k in cc
      by_child q false e k = child_after s t name a h.paired ps q e (moved _ (ok_inj _ v (sym (child_good t line a.number q e) ∙ k)))

      by_state : (state : ParserState) → take_name t line state a.number ≡ Ok v → After s.names s.nodes state (Name name ∷ ps)
      by_state Outside e = by_parent (is_parent (slice_get t.nodes a.number)) refl e
      by_state (AfterParent q) e = cc
      by_state (AfterArrow q) e = arrow_for_child s.names s.nodes q (Name name ∷ ps) (by_child q (is_child (slice_get t.nodes a.number)) refl e)
      by_state (AfterChild q) e = by_child q (is_child (slice_get t.nodes a.number)) refl e

    by_name : (name : List ℕ) (o : Result Parsed TextError) → appear s line name ≡ o → elim o as (λ _. Result Parsed TextError) [ (Err e) ↦ Err e | (Ok t) ↦ take_name t line t.state (number_or_0 (number_of name t.names)) ] ≡ Ok v → After s.names s.nodes s.state (Name name ∷ ps)
    by_name name (Err e) is taken = cc
    by_name name (Ok t) is taken =
        let a = appears s t line name (number_of name s.names) refl is in
        by_state t name a s.state ((λ i. take_name t line (sym a.state i) (number_or_0 (sym a.is i))) ∙ taken)

    step : (p : Piece) → with_piece s line p ≡ Ok v → After s.names s.nodes s.state (p ∷ ps)
    step Arrow e = by_arrow s.state e
    step Semicolon e = by_semicolon s.state e
    step (Name name) e = by_name name (appear s line name) refl e
    step End e = by_end s.state refl e
    step NoToken e = cc

  -- all tokens
  after : (ps : List (ℕ × Piece)) (s : Parsed) → IsDistinct bytes_eq [] → AllByRecursion (λ p. IsGoodPiece p.1) ps → ParserInvariant s → with_pieces s ps ≡ Ok u → After s.names s.nodes s.state (map (λ p. p.1) ps)
  after [] s none good h e = subst (λ x. After x.names x.nodes x.state []) (ok_inj u s (sym e ∙ none_left s)) (at_end none)
  after ((line, p) ∷ rest) s none good h e = by (with_piece s line p) refl (piece_holds s line p good.0 h) (λ v. after rest v none good.1)
    where
      by : (r : Result Parsed TextError) → with_piece s line p ≡ r → InvariantHolds r → ((v : Parsed) → ParserInvariant v → with_pieces v rest ≡ Ok u → After v.names v.nodes v.state (map (λ p. p.1) rest)) → After s.names s.nodes s.state (p ∷ map (λ p. p.1) rest)
      by (Err x) is holds later = let clash = sym (piece_bad s line p rest x is) ∙ e in cc
      by (Ok v) is holds later = step s v line (map (λ p. p.1) rest) h (later v holds (sym (piece_good s line p rest v is) ∙ e)) p is

nothing_distinct : IsDistinct bytes_eq []
unfolding IsDistinct
nothing_distinct = tt

-- an accepted text is written as the statements of its nodes' tree
pub is_acceptable : (text : List ℕ) (n : Nodes) → topology_of text ≡ Ok n → IsTopology n → IsAcceptable text n
is_acceptable text n is tree =
    let f = is_written text n is tree.distinct in
    let a = accepted text n is in
    let s : Parsed = a.0 in
    let distinct : IsDistinct bytes_eq s.names = subst (IsDistinct bytes_eq) (sym (ap (λ x. x.names) a.3)) tree.distinct in
    let r = after s distinct (pieces 1 0 text) nothing_parsed nothing_distinct (pieces_good 1 0 text) nothing_holds a.1 in
    record {
      form = f;
      one_statement = subst (IsDistinct bytes_eq) (ap (piece_parents false) f.is ∙ statements_parents f.statements) r.one_statement;
      one_parent = subst (IsDistinct bytes_eq) (ap (piece_children false) f.is ∙ statements_children f.statements) r.one_parent;
      topology = tree;
    }

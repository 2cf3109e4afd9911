-- The invariant of what is parsed, token by token, and what the checks of the whole text leave.
use Rattle.std.proofs.Common.{◌≡◌, ℕ, zero, suc, ◌+◌, ◌-◌, ◌<◌, ◌≤◌, ◌⊎◌, inl, inr, Bool, true, false, ◌||◌, List, [], ◌∷◌, ◌++◌, length, Option, None, Some, Ok, Err, Result, refl, sym, ap, ◌∙◌, subst, arith, rules, slice_get, length-append, is_some}
use Rattle.std.specs.List.{AllByRecursion, IsDistinct}
use Rattle.std.specs.Str.{bytes_eq}
use Rattle.text_lines.specs.declared.text_error.TextError.{TextError}
use Rattle.overlay_setup.specs.Names.{IsName, number_of}
use Rattle.overlay_setup.specs.Topologies.{IsTopology, topology}
use Rattle.overlay_setup.proofs.NameNumbers.{length-map}
use Rattle.topology_text.specs.declared.parser.Node.{Node}
use Rattle.topology_text.specs.declared.parser.ParserState.{ParserState}
use Rattle.topology_text.specs.declared.parser.ParserState.TheVariants.{Outside, AfterParent, AfterArrow, AfterChild}
use Rattle.topology_text.specs.Tokens.{Piece, pieces, Arrow, Semicolon, Name, End, NoToken}
use Rattle.topology_text.specs.Statements.{Parsed, appear, number_or_0, add_parent, add_child, at_node, is_parent, is_child, as_parent, child_of, take_name, take_arrow, take_semicolon, take_end, with_piece, with_pieces, nothing_parsed}
use Rattle.topology_text.specs.Invariants.{IsBelow, has_child, StateFits, ParserInvariant}
use Rattle.topology_text.specs.Whole.{is_within, roots_from, parents_of, first_beyond, depth_error, reach_error, roots_error, whole_error}
use Rattle.std.specs.Result.{ForOk}
use Rattle.topology_text.proofs.NameParts.{IsGoodPiece, pieces_good}
use Rattle.topology_text.proofs.Numbers.{appear_known, appear_over, appear_new, number_below, number_of_last}
use Rattle.topology_text.proofs.Nodes.{parent_bad, parent_good, child_bad, child_good, piece_bad, piece_good, none_left}
use Rattle.topology_text.proofs.OneTree.{is_tree, two_nodes}

-- the invariant holds, unless there is an error
abbrev pub InvariantHolds : Result Parsed TextError → Type 0
InvariantHolds (Err e) = Unit {0}
InvariantHolds (Ok s) = ParserInvariant s

-- good names and parents, wherever the next token stands
record HasNodes (s : Parsed) : Type 0 where
  paired : length s.names ≡ length s.nodes
  named : AllByRecursion IsName s.names
  parents : AllByRecursion (λ x. IsBelow (length s.nodes) x.parent) s.nodes

-- in a statement its parent is a node
abbrev ParentFits : List Node → ParserState → Type 0
ParentFits nodes Outside = Unit {0}
ParentFits nodes (AfterParent p) = p < length nodes
ParentFits nodes (AfterArrow p) = p < length nodes
ParentFits nodes (AfterChild p) = p < length nodes

parent_fits : (nodes : List Node) (state : ParserState) → StateFits nodes state → ParentFits nodes state
parent_fits nodes Outside h = tt
parent_fits nodes (AfterParent p) h = h
parent_fits nodes (AfterArrow p) h = h
parent_fits nodes (AfterChild p) h = h.0

nodes_of : (s : Parsed) → ParserInvariant s → HasNodes s
nodes_of s h = record { paired = h.paired; named = h.named; parents = h.parents }

-- a list of which one element is changed
pub length-at_node : (n : ℕ) (xs : List Node) (f : Node → Node) → length (at_node xs n f) ≡ length xs
length-at_node n [] f = refl
length-at_node zero (x ∷ xs) f = refl
length-at_node (suc n) (x ∷ xs) f = ap suc (length-at_node n xs f)

all-at_node : (P : Node → Type 0) (xs : List Node) (n : ℕ) (f : Node → Node) → ((x : Node) → P x → P (f x)) → AllByRecursion P xs → AllByRecursion P (at_node xs n f)
all-at_node P [] n f keeps all = all
all-at_node P (x ∷ xs) zero f keeps all = (keeps x all.0, all.1)
all-at_node P (x ∷ xs) (suc n) f keeps all = (all.0, all-at_node P xs n f keeps all.1)

all-append : {X : Type 0} (P : X → Type 0) (xs : List X) (y : X) → AllByRecursion P xs → P y → AllByRecursion P (xs ++ y ∷ [])
all-append P [] y all here = (here, all)
all-append P (x ∷ xs) y all here = (all.0, all-append P xs y all.1 here)

all-weaker : (P Q : Node → Type 0) (xs : List Node) → ((x : Node) → P x → Q x) → AllByRecursion P xs → AllByRecursion Q xs
all-weaker P Q [] weaker all = all
all-weaker P Q (x ∷ xs) weaker all = (weaker x all.0, all-weaker P Q xs weaker all.1)

below_more : (count more : ℕ) (o : Option ℕ) → count ≤ more → IsBelow count o → IsBelow more o
below_more count more None le h = tt
below_more count more (Some p) le h = omega arith

or_true : (b : Bool) → (b || true) ≡ true
or_true true = refl
or_true false = refl

-- a node that gets a parent is one that has a parent
child_now : (xs : List Node) (n p : ℕ) → n < length xs → has_child (at_node xs n (child_of p)) ≡ true
child_now [] n p lt = absurd (omega arith)
child_now (x ∷ xs) zero p lt = refl
child_now (x ∷ xs) (suc n) p lt = ap (λ b. is_some x.parent || b) (child_now xs n p (omega arith)) ∙ or_true (is_some x.parent)

-- what holds once a name has appeared
record HasAppeared (name : List ℕ) (s : Parsed) : Type 0 where
  nodes : HasNodes s
  state : ParentFits s.nodes s.state
  number : number_or_0 (number_of name s.names) < length s.nodes

abbrev Appeared : List ℕ → Result Parsed TextError → Type 0
Appeared name (Err e) = Unit {0}
Appeared name (Ok s) = HasAppeared name s

fits_more : (nodes more : List Node) (state : ParserState) → length nodes ≤ length more → ParentFits nodes state → ParentFits more state
fits_more nodes more Outside le h = tt
fits_more nodes more (AfterParent p) le h = omega arith
fits_more nodes more (AfterArrow p) le h = omega arith
fits_more nodes more (AfterChild p) le h = omega arith

either : (n m : ℕ) → (n < m) ⊎ (m ≤ n)
either n m = search rules

module _ (s : Parsed) (line : ℕ) (name : List ℕ) (good : IsName name) (h : HasNodes s) (fits : ParentFits s.nodes s.state) where
  abbrev new : Node
  new = record { line = line; parent = None; is_parent = false }

  one_more : length (s.nodes ++ new ∷ []) ≡ length s.nodes + 1
  one_more = length-append s.nodes (new ∷ [])

  appeared_known : (n : ℕ) → number_of name s.names ≡ Some n → HasAppeared name s
  appeared_known n e = record {
    nodes = h;
    state = fits;
    number = (let lt = number_below name s.names n e in subst (λ o. number_or_0 o < length s.nodes) (sym e) (omega (arith, h.paired)));
  }

  appeared_new : number_of name s.names ≡ None → HasAppeared name (record s { names = s.names ++ name ∷ []; nodes = s.nodes ++ new ∷ [] })
  appeared_new e = record {
    nodes = record {
      paired = omega (arith, h.paired, one_more, length-append s.names (name ∷ []));
      named = all-append IsName s.names name h.named good;
      parents = all-append (λ x. IsBelow (length (s.nodes ++ new ∷ [])) x.parent) s.nodes new (all-weaker (λ x. IsBelow (length s.nodes) x.parent) (λ x. IsBelow (length (s.nodes ++ new ∷ [])) x.parent) s.nodes (λ x below. below_more (length s.nodes) (length (s.nodes ++ new ∷ [])) x.parent (omega (arith, one_more)) below) h.parents) tt;
    };
    state = fits_more s.nodes (s.nodes ++ new ∷ []) s.state (omega (arith, one_more)) fits;
    number = subst (λ o. number_or_0 o < length (s.nodes ++ new ∷ [])) (sym (number_of_last name s.names e)) (omega (arith, h.paired, one_more));
  }

  appeared_by_room : number_of name s.names ≡ None → (length s.names < 512) ⊎ (512 ≤ length s.names) → Appeared name (appear s line name)
  appeared_by_room e (inl few) = subst (Appeared name) (sym (appear_new s line name e few)) (appeared_new e)
  appeared_by_room e (inr many) = subst (Appeared name) (sym (appear_over s line name e many)) tt

  appeared_by : (o : Option ℕ) → number_of name s.names ≡ o → Appeared name (appear s line name)
  appeared_by (Some n) e = subst (Appeared name) (sym (appear_known s line n name e)) (appeared_known n e)
  appeared_by None e = appeared_by_room e (either (length s.names) 512)

-- a name of a node, by where it stands
module _ (s : Parsed) (line n : ℕ) (h : HasNodes s) (lt : n < length s.nodes) where
  parent_by : (b : Bool) → is_parent (slice_get s.nodes n) ≡ b → InvariantHolds (add_parent s line n)
  parent_by true e = subst InvariantHolds (sym (parent_bad s line n e)) tt
  parent_by false e =
      let len = length-at_node n s.nodes as_parent in
      subst InvariantHolds (sym (parent_good s line n e)) (record {
        paired = h.paired ∙ sym len;
        named = h.named;
        parents = subst (λ count. AllByRecursion (λ x. IsBelow count x.parent) (at_node s.nodes n as_parent)) (sym len) (all-at_node (λ x. IsBelow (length s.nodes) x.parent) s.nodes n as_parent (λ x below. below) h.parents);
        state = omega (arith, len);
      })

  child_by : (p : ℕ) (b : Bool) → p < length s.nodes → is_child (slice_get s.nodes n) ≡ b → InvariantHolds (add_child s line p n)
  child_by p true low e = subst InvariantHolds (sym (child_bad s line n p e)) tt
  child_by p false low e =
      let len = length-at_node n s.nodes (child_of p) in
      subst InvariantHolds (sym (child_good s line n p e)) (record {
        paired = h.paired ∙ sym len;
        named = h.named;
        parents = subst (λ count. AllByRecursion (λ x. IsBelow count x.parent) (at_node s.nodes n (child_of p))) (sym len) (all-at_node (λ x. IsBelow (length s.nodes) x.parent) s.nodes n (child_of p) (λ x below. low) h.parents);
        state = (omega (arith, len), child_now s.nodes n p lt);
      })

  take_name_holds : (state : ParserState) → ParentFits s.nodes state → InvariantHolds (take_name s line state n)
  take_name_holds Outside fits = parent_by (is_parent (slice_get s.nodes n)) refl
  take_name_holds (AfterParent p) fits = tt
  take_name_holds (AfterArrow p) fits = child_by p (is_child (slice_get s.nodes n)) fits refl
  take_name_holds (AfterChild p) fits = child_by p (is_child (slice_get s.nodes n)) fits refl

name_holds : (line : ℕ) (name : List ℕ) (r : Result Parsed TextError) → Appeared name r → InvariantHolds (elim r as (λ _. Result Parsed TextError) [ (Err e) ↦ Err e | (Ok t) ↦ take_name t line t.state (number_or_0 (number_of name t.names)) ])
name_holds line name (Err e) h = tt
name_holds line name (Ok t) h = take_name_holds t line (number_or_0 (number_of name t.names)) h.nodes h.number t.state h.state

arrow_holds : (s : Parsed) (line : ℕ) (state : ParserState) → HasNodes s → StateFits s.nodes state → InvariantHolds (take_arrow s line state)
arrow_holds s line Outside h fits = tt
arrow_holds s line (AfterParent p) h fits = record { paired = h.paired; named = h.named; parents = h.parents; state = fits }
arrow_holds s line (AfterArrow p) h fits = tt
arrow_holds s line (AfterChild p) h fits = tt

semicolon_holds : (s : Parsed) (line : ℕ) (state : ParserState) → HasNodes s → StateFits s.nodes state → InvariantHolds (take_semicolon s line state)
semicolon_holds s line Outside h fits = tt
semicolon_holds s line (AfterParent p) h fits = tt
semicolon_holds s line (AfterArrow p) h fits = tt
semicolon_holds s line (AfterChild p) h fits = record { paired = h.paired; named = h.named; parents = h.parents; state = inr fits.1 }

end_holds : (s : Parsed) (line : ℕ) (state : ParserState) → ParserInvariant s → InvariantHolds (take_end s line state)
end_holds s line Outside h = h
end_holds s line (AfterParent p) h = tt
end_holds s line (AfterArrow p) h = tt
end_holds s line (AfterChild p) h = tt

pub piece_holds : (s : Parsed) (line : ℕ) (p : Piece) → IsGoodPiece p → ParserInvariant s → InvariantHolds (with_piece s line p)
piece_holds s line Arrow good h = arrow_holds s line s.state (nodes_of s h) h.state
piece_holds s line Semicolon good h = semicolon_holds s line s.state (nodes_of s h) h.state
piece_holds s line (Name name) good h = name_holds line name (appear s line name) (appeared_by s line name good (nodes_of s h) (parent_fits s.nodes s.state h.state) (number_of name s.names) refl)
piece_holds s line End good h = end_holds s line s.state h
piece_holds s line NoToken good h = tt

module _ (s : Parsed) (line : ℕ) (p : Piece) (rest : List (ℕ × Piece)) (further : (t : Parsed) → ParserInvariant t → InvariantHolds (with_pieces t rest)) where
  pieces_by : (r : Result Parsed TextError) → with_piece s line p ≡ r → InvariantHolds r → InvariantHolds (with_pieces s ((line, p) ∷ rest))
  pieces_by (Err e) is h = subst InvariantHolds (sym (piece_bad s line p rest e is)) tt
  pieces_by (Ok t) is h = subst InvariantHolds (sym (piece_good s line p rest t is)) (further t h)

-- well-formed tokens keep the invariant
pub pieces_holds : (s : Parsed) (ps : List (ℕ × Piece)) → AllByRecursion (λ p. IsGoodPiece p.1) ps → ParserInvariant s → InvariantHolds (with_pieces s ps)
pieces_holds s [] good h = subst InvariantHolds (sym (none_left s)) h
pieces_holds s (p ∷ rest) good h = pieces_by s p.0 p.1 rest (λ t k. pieces_holds t rest good.1 k) (with_piece s p.0 p.1) refl (piece_holds s p.0 p.1 good.0 h)

-- it holds before the first token
pub nothing_holds : ParserInvariant nothing_parsed
nothing_holds = record { paired = refl; named = tt; parents = tt; state = inl refl }

-- it holds where a text ends
pub holds_at_end : (text : List ℕ) (start s : Parsed) (line : ℕ) → start ≡ nothing_parsed → with_pieces start (pieces 1 0 text) ≡ with_pieces s ((line, End) ∷ []) → ForOk (take_end s line s.state) ParserInvariant
holds_at_end text start s line begins is t ok =
    subst InvariantHolds (ap (λ n. with_pieces n (pieces 1 0 text)) (sym begins) ∙ is ∙ piece_good s line End [] t ok ∙ none_left t)
    (pieces_holds nothing_parsed (pieces 1 0 text) (pieces_good 1 0 text) nothing_holds)

-- where no node is beyond, all are within
module _ (ps : List (Option ℕ)) (links : ℕ) where
  beyond_by : (n more k : ℕ) (b : Bool) → is_within ps links n ≡ b → first_beyond ps links n (suc more) ≡ None → (first_beyond ps links (suc n) more ≡ None → suc n ≤ k → is_within ps links k ≡ true) → (n ≡ k) ⊎ (suc n ≤ k) → is_within ps links k ≡ true
  unfolding first_beyond
  beyond_by n more k false e none later where_is = let h : Some n ≡ None = sym (rw (e, first_beyond) refl) ∙ none in cc
  beyond_by n more k true e none later (inl here) = ap (is_within ps links) (sym here) ∙ e
  beyond_by n more k true e none later (inr after) = later (sym (rw (e, first_beyond) refl) ∙ none) after

  -- each of so many nodes is within the links
  pub all_within : (more n : ℕ) → first_beyond ps links n more ≡ None → (k : ℕ) → n ≤ k → k < n + more → is_within ps links k ≡ true
  all_within zero n none k low high = absurd (omega arith)
  all_within (suc more) n none k low high = beyond_by n more k (is_within ps links n) refl none (λ later above. all_within more (suc n) later k above (omega arith)) (here n k low)
    where
      here : (n k : ℕ) → n ≤ k → (n ≡ k) ⊎ (suc n ≤ k)
      here n k low = search rules

-- what is left where no fault of the whole text is found
module _ (nodes : List Node) where
  depth_none : (o : Option ℕ) → depth_error o ≡ None → o ≡ None
  depth_none None e = refl
  depth_none (Some n) e = cc

  reach_none : (o : Option ℕ) → reach_error nodes o ≡ None → (o ≡ None) × (first_beyond (parents_of nodes) 8 0 (length nodes) ≡ None)
  reach_none None e = (refl, depth_none _ e)
  reach_none (Some n) e = cc

  roots_none : (rs : List ℕ) → roots_error nodes rs ≡ None → (length rs ≡ 1) × (first_beyond (parents_of nodes) (length nodes - 1) 0 (length nodes) ≡ None) × (first_beyond (parents_of nodes) 8 0 (length nodes) ≡ None)
  roots_none [] e = cc
  roots_none (root ∷ []) e = let h = reach_none _ e in (refl, h.0, h.1)
  roots_none (root ∷ second ∷ rs) e = cc

  whole_none : whole_error nodes ≡ None → (length (roots_from 0 (parents_of nodes)) ≡ 1) × (first_beyond (parents_of nodes) (length nodes - 1) 0 (length nodes) ≡ None) × (first_beyond (parents_of nodes) 8 0 (length nodes) ≡ None)
  unfolding whole_error
  whole_none e = roots_none _ e

  some_root : length (roots_from 0 (parents_of nodes)) ≡ 1 → length nodes ≡ 0 → ⊥
  some_root one none = by nodes none one
    where
      by : (xs : List Node) → length xs ≡ 0 → length (roots_from 0 (parents_of xs)) ≡ 1 → ⊥
      by [] e one = absurd (omega arith)
      by (x ∷ xs) e one = absurd (omega arith)

-- after a whole text without a fault some node has a parent
child_left : (nodes : List Node) (state : ParserState) → state ≡ Outside → StateFits nodes state → length (roots_from 0 (parents_of nodes)) ≡ 1 → has_child nodes ≡ true
child_left nodes state outside fits one = by (subst (StateFits nodes) outside fits)
  where
    by : (length nodes ≡ 0) ⊎ (has_child nodes ≡ true) → has_child nodes ≡ true
    by (inl none) = absurd (some_root nodes one none)
    by (inr child) = child

-- what a whole text without a fault has parsed is a topology
pub is_topology : (s : Parsed) → ParserInvariant s → s.state ≡ Outside → IsDistinct bytes_eq s.names → length s.names ≤ 512 → whole_error s.nodes ≡ None → IsTopology (topology s.names (parents_of s.nodes))
is_topology s kept outside distinct few none =
    let checks = whole_none s.nodes none in
    let one = checks.0 in
    let len : length (parents_of s.nodes) ≡ length s.nodes = length-map (λ (x : Node). x.parent) s.nodes in
    record {
      paired = kept.paired ∙ sym len;
      some = two_nodes s.nodes (child_left s.nodes s.state outside kept.state one) one;
      within_limit = omega (arith, kept.paired);
      tree = is_tree s.nodes one kept.parents
          (λ n lt. all_within (parents_of s.nodes) (length s.nodes - 1) (length s.nodes) 0 checks.1 n (omega arith) (omega arith))
          (λ n lt. all_within (parents_of s.nodes) 8 (length s.nodes) 0 checks.2 n (omega arith) (omega arith));
      named = kept.named;
      distinct = distinct;
    }

-- The names and links that tokens write, and those that are parsed.
use Rattle.std.proofs.Common.{◌≡◌, ◌≢◌, ◌∙◌, ◌⊎◌, inl, inr, ◌<◌, ◌≤◌, ℕ, zero, suc, Bool, true, false, List, [], ◌∷◌, ◌++◌, length, length-append, map, Option, None, Some, Result, Ok, Err, refl, sym, ap, subst, arith, rules, slice_get, is_some}
use Rattle.std.specs.List.{AllByRecursion, IsDistinct}
use Rattle.std.specs.Str.{bytes_eq}
use Rattle.text_lines.specs.declared.text_error.TextError.{TextError}
use Rattle.text_lines.proofs.Errors.{ok_inj}
use Rattle.overlay_setup.specs.Names.{name_of, number_of}
use Rattle.overlay_setup.specs.Trees.{parent_of}
use Rattle.overlay_setup.proofs.DaemonNames.{named, number_of_name}
use Rattle.topology_text.specs.declared.parser.Node.{Node}
use Rattle.topology_text.specs.declared.parser.ParserState.{ParserState}
use Rattle.topology_text.specs.declared.parser.ParserState.TheVariants.{Outside, AfterParent, AfterArrow, AfterChild}
use Rattle.topology_text.specs.Grammar.{with_names}
use Rattle.topology_text.specs.Invariants.{StateFits, ParserInvariant}
use Rattle.topology_text.specs.Statements.{Parsed, appear, number_or_0, is_parent, is_child, as_parent, child_of, at_node, add_parent, add_child, take_name, take_arrow, take_semicolon, take_end, with_piece, with_pieces}
use Rattle.topology_text.specs.Tokens.{Piece, Arrow, Semicolon, Name, End, NoToken}
use Rattle.topology_text.specs.Whole.{parents_of}
use Rattle.topology_text.proofs.InvariantLemmas.{InvariantHolds, piece_holds}
use Rattle.topology_text.proofs.NameParts.{IsGoodPiece}
use Rattle.topology_text.proofs.Nodes.{parent_bad, parent_good, child_bad, child_good, piece_bad, piece_good, none_left}
use Rattle.topology_text.proofs.Numbers.{appear_known, appear_over, appear_new, number_of_last}

-- the names among tokens
abbrev pub piece_names : List Piece → List (List ℕ)
piece_names [] = []
piece_names (Name name ∷ ps) = name ∷ piece_names ps
piece_names (Arrow ∷ ps) = piece_names ps
piece_names (Semicolon ∷ ps) = piece_names ps
piece_names (End ∷ ps) = piece_names ps
piece_names (NoToken ∷ ps) = piece_names ps

-- tokens link a parent and a child, where a statement may have been begun by its parent
abbrev pub Links : Option (List ℕ) → List Piece → List ℕ → List ℕ → Type 0
Links o [] parent child = ⊥
Links None (Name name ∷ ps) parent child = Links (Some name) ps parent child
Links (Some begun) (Name name ∷ ps) parent child = ((begun ≡ parent) × (child ≡ name)) ⊎ Links (Some begun) ps parent child
Links o (Arrow ∷ ps) parent child = Links o ps parent child
Links o (Semicolon ∷ ps) parent child = Links None ps parent child
Links o (End ∷ ps) parent child = Links o ps parent child
Links o (NoToken ∷ ps) parent child = Links o ps parent child

-- the parent of the statement in which the next token stands
abbrev pub current : List (List ℕ) → ParserState → Option (List ℕ)
current names Outside = None
current names (AfterParent p) = Some (name_of names p)
current names (AfterArrow p) = Some (name_of names p)
current names (AfterChild p) = Some (name_of names p)

-- one name more, and then the others
pub with_one : (known : List (List ℕ)) (name : List ℕ) (names : List (List ℕ)) → with_names known (name ∷ names) ≡ with_names (with_names known (name ∷ [])) names
unfolding with_names
with_one known name names = by (number_of name known)
  where
    by : (o : Option ℕ) → elim o as (λ _. List (List ℕ)) [ (Some n) ↦ with_names known names | None ↦ with_names (known ++ name ∷ []) names ] ≡ with_names (elim o as (λ _. List (List ℕ)) [ (Some n) ↦ with_names known [] | None ↦ with_names (known ++ name ∷ []) [] ]) names
    by None = refl
    by (Some n) = refl

known_name : (known : List (List ℕ)) (name : List ℕ) (n : ℕ) → number_of name known ≡ Some n → with_names known (name ∷ []) ≡ known
unfolding with_names
known_name known name n e = ap (λ o. elim o as (λ _. List (List ℕ)) [ (Some n) ↦ with_names known [] | None ↦ with_names (known ++ name ∷ []) [] ]) e

new_name : (known : List (List ℕ)) (name : List ℕ) → number_of name known ≡ None → with_names known (name ∷ []) ≡ known ++ name ∷ []
unfolding with_names
new_name known name e = ap (λ o. elim o as (λ _. List (List ℕ)) [ (Some n) ↦ with_names known [] | None ↦ with_names (known ++ name ∷ []) [] ]) e

pub no_more : (known : List (List ℕ)) → with_names known [] ≡ known
unfolding with_names
no_more known = refl

name_before : (known : List (List ℕ)) (name : List ℕ) (k : ℕ) → k < length known → name_of (known ++ name ∷ []) k ≡ name_of known k
name_before [] name k lt = absurd (omega arith)
name_before (x ∷ known) name zero lt = refl
name_before (x ∷ known) name (suc k) lt = name_before known name k (omega arith)

no_parent_more : (nodes : List Node) (line : ℕ) (c : ℕ) → parent_of (parents_of (nodes ++ record { line = line; parent = None; is_parent = false } ∷ [])) c ≡ parent_of (parents_of nodes) c
no_parent_more [] line zero = refl
no_parent_more [] line (suc c) = refl
no_parent_more (x ∷ nodes) line zero = refl
no_parent_more (x ∷ nodes) line (suc c) = no_parent_more nodes line c

still_parent : (nodes : List Node) (line k : ℕ) → is_parent (slice_get nodes k) ≡ true → is_parent (slice_get (nodes ++ record { line = line; parent = None; is_parent = false } ∷ []) k) ≡ true
still_parent [] line k e = cc
still_parent (x ∷ nodes) line zero e = e
still_parent (x ∷ nodes) line (suc k) e = still_parent nodes line k e

still_child : (nodes : List Node) (line k : ℕ) → is_child (slice_get nodes k) ≡ true → is_child (slice_get (nodes ++ record { line = line; parent = None; is_parent = false } ∷ []) k) ≡ true
still_child [] line k e = cc
still_child (x ∷ nodes) line zero e = e
still_child (x ∷ nodes) line (suc k) e = still_child nodes line k e

-- a name that appears
pub record Appears (s : Parsed) (name : List ℕ) (t : Parsed) : Type 0 where
  pub number : ℕ
  pub is : number_of name t.names ≡ Some number
  pub names : t.names ≡ with_names s.names (name ∷ [])
  pub stay : (k : ℕ) → k < length s.names → name_of t.names k ≡ name_of s.names k
  pub longer : length s.names ≤ length t.names
  pub parents : (c : ℕ) → parent_of (parents_of t.nodes) c ≡ parent_of (parents_of s.nodes) c
  pub begun : (k : ℕ) → is_parent (slice_get s.nodes k) ≡ true → is_parent (slice_get t.nodes k) ≡ true
  pub held : (k : ℕ) → is_child (slice_get s.nodes k) ≡ true → is_child (slice_get t.nodes k) ≡ true
  pub state : t.state ≡ s.state
  pub paired : length s.names ≡ length s.nodes → length t.names ≡ length t.nodes

module _ (s t : Parsed) (line : ℕ) (name : List ℕ) where
  either : (n m : ℕ) → (n < m) ⊎ (m ≤ n)
  either n m = search rules

  pub known_appears : (n : ℕ) → number_of name s.names ≡ Some n → Appears s name s
  known_appears n e = record {
    number = n;
    is = e;
    names = sym (known_name s.names name n e);
    stay = λ k lt. refl;
    longer = omega arith;
    parents = λ c. refl;
    begun = λ k e. e;
    held = λ k e. e;
    state = refl;
    paired = λ h. h;
  }

  pub new_appears : number_of name s.names ≡ None → Appears s name (record s { names = s.names ++ name ∷ []; nodes = s.nodes ++ record { line = line; parent = None; is_parent = false } ∷ [] })
  new_appears e = record {
    number = length s.names;
    is = number_of_last name s.names e;
    names = sym (new_name s.names name e);
    stay = λ k lt. name_before s.names name k lt;
    longer = (let len = length-append s.names (name ∷ []) in omega arith);
    parents = λ c. no_parent_more s.nodes line c;
    begun = λ k e. still_parent s.nodes line k e;
    held = λ k e. still_child s.nodes line k e;
    state = refl;
    paired = λ h. (let a = length-append s.names (name ∷ []) in let b = length-append s.nodes (record { line = line; parent = None; is_parent = false } ∷ []) in omega arith);
  }

  by_room : number_of name s.names ≡ None → (length s.names < 512) ⊎ (512 ≤ length s.names) → appear s line name ≡ Ok t → Appears s name t
  by_room e (inl few) h = subst (Appears s name) (ok_inj _ t (sym (appear_new s line name e few) ∙ h)) (new_appears e)
  by_room e (inr many) h = let clash = sym (appear_over s line name e many) ∙ h in cc

  pub appears : (o : Option ℕ) → number_of name s.names ≡ o → appear s line name ≡ Ok t → Appears s name t
  appears (Some n) e h = subst (Appears s name) (ok_inj s t (sym (appear_known s line n name e) ∙ h)) (known_appears n e)
  appears None e h = by_room e (either (length s.names) 512) h

-- parents where a node begins a statement, or gets a parent
same_parents : (nodes : List Node) (k : ℕ) → parents_of (at_node nodes k as_parent) ≡ parents_of nodes
same_parents [] k = refl
same_parents (x ∷ nodes) zero = refl
same_parents (x ∷ nodes) (suc k) = ap (λ ps. x.parent ∷ ps) (same_parents nodes k)

other_parent : (nodes : List Node) (k q c : ℕ) → c ≢ k → parent_of (parents_of (at_node nodes k (child_of q))) c ≡ parent_of (parents_of nodes) c
other_parent [] k q c other = refl
other_parent (x ∷ nodes) zero q zero other = absurd (other refl)
other_parent (x ∷ nodes) zero q (suc c) other = refl
other_parent (x ∷ nodes) (suc k) q zero other = refl
other_parent (x ∷ nodes) (suc k) q (suc c) other = other_parent nodes k q c (λ e. other (ap suc e))

new_parent : (nodes : List Node) (k q : ℕ) → k < length nodes → parent_of (parents_of (at_node nodes k (child_of q))) k ≡ Some q
new_parent [] k q lt = absurd (omega arith)
new_parent (x ∷ nodes) zero q lt = refl
new_parent (x ∷ nodes) (suc k) q lt = new_parent nodes k q (omega arith)

not_child : (nodes : List Node) (k : ℕ) → is_child (slice_get nodes k) ≡ false → parent_of (parents_of nodes) k ≡ None
not_child [] k e = refl
not_child (x ∷ nodes) zero e = by x.parent e
  where
    by : (o : Option ℕ) → is_some o ≡ false → o ≡ None
    by None h = refl
    by (Some p) h = cc
not_child (x ∷ nodes) (suc k) e = not_child nodes k e

same_or_other : (c k : ℕ) → (c ≡ k) ⊎ (c ≢ k)
same_or_other zero zero = inl refl
same_or_other zero (suc k) = inr (λ e. absurd (omega arith))
same_or_other (suc c) zero = inr (λ e. absurd (omega arith))
same_or_other (suc c) (suc k) = elim (same_or_other c k) [ (inl e) ↦ inl (ap suc e) | (inr n) ↦ inr (λ e. n (omega arith)) ]

module _ (u : Parsed) (distinct : IsDistinct bytes_eq u.names) where
  pub same_number : (i j : ℕ) → i < length u.names → j < length u.names → name_of u.names i ≡ name_of u.names j → i ≡ j
  same_number i j a b e =
      let h = sym (number_of_name u.names distinct (name_of u.names j) i a e) ∙ number_of_name u.names distinct (name_of u.names j) j b refl in
      cc

  -- what tokens add to names and parents, up to the end
  pub record Reads (names : List (List ℕ)) (parents : List (Option ℕ)) (state : ParserState) (ps : List Piece) : Type 0 where
    pub all : u.names ≡ with_names names (piece_names ps)
    pub stay : (k : ℕ) → k < length names → name_of u.names k ≡ name_of names k
    pub longer : length names ≤ length u.names
    pub to : (p c : ℕ) → parent_of (parents_of u.nodes) c ≡ Some p → (parent_of parents c ≡ Some p) ⊎ Links (current names state) ps (name_of u.names p) (name_of u.names c)
    pub from : (p c : ℕ) → p < length u.names → c < length u.names → (parent_of parents c ≡ Some p) ⊎ Links (current names state) ps (name_of u.names p) (name_of u.names c) → parent_of (parents_of u.nodes) c ≡ Some p

  at_end : Reads u.names (parents_of u.nodes) u.state []
  at_end = record {
    all = sym (no_more u.names);
    stay = λ k lt. refl;
    longer = omega arith;
    to = λ p c h. inl h;
    from = λ p c a b. elim [ (inl h) ↦ h | (inr no_link) ↦ absurd no_link ];
  }

  -- tokens that are no names
  arrow_reads : (names : List (List ℕ)) (parents : List (Option ℕ)) (p : ℕ) (ps : List Piece) → Reads names parents (AfterArrow p) ps → Reads names parents (AfterParent p) (Arrow ∷ ps)
  arrow_reads names parents p ps r = record { all = r.all; stay = r.stay; longer = r.longer; to = r.to; from = r.from }

  semicolon_reads : (names : List (List ℕ)) (parents : List (Option ℕ)) (p : ℕ) (ps : List Piece) → Reads names parents Outside ps → Reads names parents (AfterChild p) (Semicolon ∷ ps)
  semicolon_reads names parents p ps r = record { all = r.all; stay = r.stay; longer = r.longer; to = r.to; from = r.from }

  end_reads : (names : List (List ℕ)) (parents : List (Option ℕ)) (ps : List Piece) → Reads names parents Outside ps → Reads names parents Outside (End ∷ ps)
  end_reads names parents ps r = record { all = r.all; stay = r.stay; longer = r.longer; to = r.to; from = r.from }

  module _ (s t : Parsed) (name : List ℕ) (a : Appears s name t) (ps : List Piece) where
    is_name : name_of t.names a.number ≡ name
    is_name = (named name t.names a.number a.is).1

    below : a.number < length t.names
    below = (named name t.names a.number a.is).0

    later_names : u.names ≡ with_names t.names (piece_names ps) → u.names ≡ with_names s.names (name ∷ piece_names ps)
    later_names h = h ∙ ap (λ ns. with_names ns (piece_names ps)) a.names ∙ sym (with_one s.names name (piece_names ps))

    -- a parent
    parent_reads : Reads t.names (parents_of (at_node t.nodes a.number as_parent)) (AfterParent a.number) ps → Reads s.names (parents_of s.nodes) Outside (Name name ∷ ps)
    parent_reads r = record {
      all = later_names r.all;
      stay = λ k lt. r.stay k (let more = a.longer in omega arith) ∙ a.stay k lt;
      longer = (let one = a.longer in let two = r.longer in omega arith);
      to = λ p c h. elim (r.to p c h) [
        | (inl old) ↦ inl (sym (a.parents c) ∙ ap (λ ps. parent_of ps c) (sym (same_parents t.nodes a.number)) ∙ old)
        | (inr new) ↦ inr (subst (λ n. Links (Some n) ps (name_of u.names p) (name_of u.names c)) is_name new)
      ];
      from = λ p c x y. elim [
        | (inl old) ↦ r.from p c x y (inl (ap (λ ps. parent_of ps c) (same_parents t.nodes a.number) ∙ a.parents c ∙ old))
        | (inr new) ↦ r.from p c x y (inr (subst (λ n. Links (Some n) ps (name_of u.names p) (name_of u.names c)) (sym is_name) new))
      ];
    }

    -- a child of a parent
    module _ (q : ℕ) (low : q < length s.names) (paired : length s.names ≡ length s.nodes) (first : is_child (slice_get t.nodes a.number) ≡ false) (r : Reads t.names (parents_of (at_node t.nodes a.number (child_of q))) (AfterChild q) ps) where
      begun : List ℕ
      begun = name_of s.names q

      begun_is : name_of s.names q ≡ name_of u.names q
      begun_is = sym (a.stay q low) ∙ sym (r.stay q (let more = a.longer in omega arith))

      child_is : name ≡ name_of u.names a.number
      child_is = sym is_name ∙ sym (r.stay a.number below)

      child_to : (p c : ℕ) → parent_of (parents_of u.nodes) c ≡ Some p → (parent_of (parents_of s.nodes) c ≡ Some p) ⊎ Links (Some (name_of s.names q)) (Name name ∷ ps) (name_of u.names p) (name_of u.names c)
      child_to p c h = by (r.to p c h) (same_or_other c a.number)
        where
          here : c ≡ a.number → parent_of (parents_of (at_node t.nodes a.number (child_of q))) c ≡ Some p → (name_of s.names q ≡ name_of u.names p) × (name_of u.names c ≡ name)
          here e old =
              let paired_t = a.paired paired in
              let low_k = below in
              let k = new_parent t.nodes a.number q (omega arith) in
              let same : q ≡ p = (let clash = sym k ∙ ap (parent_of (parents_of (at_node t.nodes a.number (child_of q)))) (sym e) ∙ old in cc) in
              (begun_is ∙ ap (name_of u.names) same, ap (name_of u.names) e ∙ sym child_is)

          by : (parent_of (parents_of (at_node t.nodes a.number (child_of q))) c ≡ Some p) ⊎ Links (current t.names (AfterChild q)) ps (name_of u.names p) (name_of u.names c) → (c ≡ a.number) ⊎ (c ≢ a.number) → (parent_of (parents_of s.nodes) c ≡ Some p) ⊎ Links (Some (name_of s.names q)) (Name name ∷ ps) (name_of u.names p) (name_of u.names c)
          by (inl old) (inl e) = inr (inl (here e old))
          by (inl old) (inr n) = inl (sym (a.parents c) ∙ sym (other_parent t.nodes a.number q c n) ∙ old)
          by (inr new) which = inr (inr (subst (λ n. Links (Some n) ps (name_of u.names p) (name_of u.names c)) (a.stay q low) new))

      child_from : (p c : ℕ) → p < length u.names → c < length u.names → (parent_of (parents_of s.nodes) c ≡ Some p) ⊎ Links (Some (name_of s.names q)) (Name name ∷ ps) (name_of u.names p) (name_of u.names c) → parent_of (parents_of u.nodes) c ≡ Some p
      child_from p c x y (inl old) = r.from p c x y (inl (other_parent t.nodes a.number q c other ∙ a.parents c ∙ old))
        where
          other : c ≢ a.number
          other e = let clash = sym (not_child t.nodes a.number first) ∙ ap (parent_of (parents_of t.nodes)) (sym e) ∙ a.parents c ∙ old in cc
      child_from p c x y (inr (inl new)) =
          let paired_t = a.paired paired in
          let low_k = below in
          let more = a.longer in
          let most = r.longer in
          let same_p : q ≡ p = same_number q p (omega arith) x (sym begun_is ∙ new.0) in
          let same_c : a.number ≡ c = same_number a.number c (omega arith) y (sym child_is ∙ sym new.1) in
          r.from p c x y (inl (ap (parent_of (parents_of (at_node t.nodes a.number (child_of q)))) (sym same_c) ∙ new_parent t.nodes a.number q (omega arith) ∙ ap Some same_p))
      child_from p c x y (inr (inr later)) = r.from p c x y (inr (subst (λ n. Links (Some n) ps (name_of u.names p) (name_of u.names c)) (sym (a.stay q low)) later))

      child_reads_arrow : Reads s.names (parents_of s.nodes) (AfterArrow q) (Name name ∷ ps)
      child_reads_arrow = record {
        all = later_names r.all;
        stay = λ k lt. r.stay k (let more = a.longer in omega arith) ∙ a.stay k lt;
        longer = (let one = a.longer in let two = r.longer in omega arith);
        to = child_to;
        from = child_from;
      }

      child_reads_child : Reads s.names (parents_of s.nodes) (AfterChild q) (Name name ∷ ps)
      child_reads_child = record {
        all = later_names r.all;
        stay = λ k lt. r.stay k (let more = a.longer in omega arith) ∙ a.stay k lt;
        longer = (let one = a.longer in let two = r.longer in omega arith);
        to = child_to;
        from = child_from;
      }

  -- one token more
  module _ (s v : Parsed) (line : ℕ) (ps : List Piece) (h : ParserInvariant s) (r : Reads v.names (parents_of v.nodes) v.state ps) where
    moved : (w : Parsed) → w ≡ v → Reads w.names (parents_of w.nodes) w.state ps
    moved w e = subst (λ x. Reads x.names (parents_of x.nodes) x.state ps) (sym e) r

    by_arrow : (state : ParserState) → take_arrow s line state ≡ Ok v → Reads s.names (parents_of s.nodes) state (Arrow ∷ ps)
    by_arrow Outside e = cc
    by_arrow (AfterParent q) e = arrow_reads s.names (parents_of s.nodes) q ps (moved (record s { state = AfterArrow q }) (ok_inj (record s { state = AfterArrow q }) v e))
    by_arrow (AfterArrow q) e = cc
    by_arrow (AfterChild q) e = cc

    by_semicolon : (state : ParserState) → take_semicolon s line state ≡ Ok v → Reads s.names (parents_of s.nodes) state (Semicolon ∷ ps)
    by_semicolon Outside e = cc
    by_semicolon (AfterParent q) e = cc
    by_semicolon (AfterArrow q) e = cc
    by_semicolon (AfterChild q) e = semicolon_reads s.names (parents_of s.nodes) q ps (moved (record s { state = Outside }) (ok_inj (record s { state = Outside }) v e))

    by_end : (state : ParserState) → s.state ≡ state → take_end s line state ≡ Ok v → Reads s.names (parents_of s.nodes) state (End ∷ ps)
    by_end Outside is e = end_reads s.names (parents_of s.nodes) ps (subst (λ x. Reads s.names (parents_of s.nodes) x ps) is (moved s (ok_inj s v e)))
    by_end (AfterParent q) is e = cc
    by_end (AfterArrow q) is e = cc
    by_end (AfterChild q) is e = cc

    module _ (t : Parsed) (name : List ℕ) (a : Appears s name t) where
      by_parent : (b : Bool) → is_parent (slice_get t.nodes a.number) ≡ b → add_parent t line a.number ≡ Ok v → Reads s.names (parents_of s.nodes) Outside (Name name ∷ ps)
      by_parent true e h = let clash = sym (parent_bad t line a.number e) ∙ h in cc
      by_parent false e h = parent_reads s t name a ps (moved _ (ok_inj _ v (sym (parent_good t line a.number e) ∙ h)))

      by_child : (q : ℕ) (b : Bool) → is_child (slice_get t.nodes a.number) ≡ b → q < length s.nodes → add_child t line q a.number ≡ Ok v → Reads s.names (parents_of s.nodes) (AfterArrow q) (Name name ∷ ps) × Reads s.names (parents_of s.nodes) (AfterChild q) (Name name ∷ ps)
      by_child q true e low taken = let clash = sym (child_bad t line a.number q e) ∙ taken in cc
      by_child q false e low taken =
          let reads = moved _ (ok_inj _ v (sym (child_good t line a.number q e) ∙ taken)) in
          let lt : q < length s.names = (let same = h.paired in omega arith) in
          (child_reads_arrow s t name a ps q lt h.paired e reads, child_reads_child s t name a ps q lt h.paired e reads)

      by_state : (state : ParserState) → StateFits s.nodes state → take_name t line state a.number ≡ Ok v → Reads s.names (parents_of s.nodes) state (Name name ∷ ps)
      by_state Outside fits e = by_parent (is_parent (slice_get t.nodes a.number)) refl e
      by_state (AfterParent q) fits e = cc
      by_state (AfterArrow q) fits e = (by_child q (is_child (slice_get t.nodes a.number)) refl fits e).0
      by_state (AfterChild q) fits e = (by_child q (is_child (slice_get t.nodes a.number)) refl fits.0 e).1

    by_name : (name : List ℕ) (o : Result Parsed TextError) → appear s line name ≡ o → elim o as (λ _. Result Parsed TextError) [ (Err e) ↦ Err e | (Ok t) ↦ take_name t line t.state (number_or_0 (number_of name t.names)) ] ≡ Ok v → Reads s.names (parents_of s.nodes) s.state (Name name ∷ ps)
    by_name name (Err e) is taken = cc
    by_name name (Ok t) is taken =
        let a = appears s t line name (number_of name s.names) refl is in
        by_state t name a s.state h.state ((λ i. take_name t line (sym a.state i) (number_or_0 (sym a.is i))) ∙ taken)

    step : (p : Piece) → with_piece s line p ≡ Ok v → Reads s.names (parents_of s.nodes) s.state (p ∷ ps)
    step Arrow e = by_arrow s.state e
    step Semicolon e = by_semicolon s.state e
    step (Name name) e = by_name name (appear s line name) refl e
    step End e = by_end s.state refl e
    step NoToken e = cc

  -- all tokens
  pub reads : (ps : List (ℕ × Piece)) (s : Parsed) → AllByRecursion (λ p. IsGoodPiece p.1) ps → ParserInvariant s → with_pieces s ps ≡ Ok u → Reads s.names (parents_of s.nodes) s.state (map (λ p. p.1) ps)
  reads [] s good h e = subst (λ x. Reads x.names (parents_of x.nodes) x.state []) (ok_inj u s (sym e ∙ none_left s)) at_end
  reads ((line, p) ∷ rest) s good h e = by (with_piece s line p) refl (piece_holds s line p good.0 h) (λ v. reads rest v good.1)
    where
      by : (r : Result Parsed TextError) → with_piece s line p ≡ r → InvariantHolds r → ((v : Parsed) → ParserInvariant v → with_pieces v rest ≡ Ok u → Reads v.names (parents_of v.nodes) v.state (map (λ p. p.1) rest)) → Reads s.names (parents_of s.nodes) s.state (p ∷ map (λ p. p.1) rest)
      by (Err x) is holds later = let clash = sym (piece_bad s line p rest x is) ∙ e in cc
      by (Ok v) is holds later = step s v line (map (λ p. p.1) rest) h (later v holds (sym (piece_good s line p rest v is) ∙ e)) p is

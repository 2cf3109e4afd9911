-- A text without an error is written as statements.
use Rattle.std.proofs.Common.{◌≡◌, ℕ, zero, suc, ◌+◌, ◌-◌, Bool, true, false, cond, nat_eq, List, [], ◌∷◌, ◌++◌, map, length, drop, take, Option, None, Some, Ok, Err, Result, refl, sym, ap, ◌∙◌, subst, ◌⊎◌, inl, inr, ◌<◌, ◌≤◌, rules, slice_get}
use Rattle.overlay_setup.specs.Names.{number_of, begins}
use Rattle.text_lines.specs.declared.text_error.TextError.{TextError}
use Rattle.topology_text.specs.declared.parser.ParserState.{ParserState}
use Rattle.topology_text.specs.declared.parser.ParserState.TheVariants.{Outside, AfterParent, AfterArrow, AfterChild}
use Rattle.topology_text.specs.Tokens.{Piece, Arrow, Semicolon, Name, End, NoToken, host_len, is_space, is_name, name_after, name_at, piece_at, piece_len, pieces}
use Rattle.rank_set.specs.Digits.{digits_len}
use Rattle.text_lines.specs.Lines.{line_len}
use Rattle.topology_text.specs.Statements.{Parsed, nothing_parsed, appear, number_or_0, add_parent, add_child, is_parent, is_child, take_name, take_arrow, take_semicolon, take_end, with_piece, with_pieces}
use Rattle.topology_text.specs.Grammar.{Statement, written, names_in, with_names, IsLink, IsWritten}
use Rattle.std.specs.List.{IsDistinct}
use Rattle.std.specs.Str.{bytes_eq}
use Rattle.overlay_setup.specs.Names.{name_of}
use Rattle.overlay_setup.specs.NodeSets.{In}
use Rattle.overlay_setup.specs.Topologies.{Nodes}
use Rattle.overlay_setup.specs.Trees.{parent_of}
use Rattle.topology_text.specs.Whole.{topology_of}
use Rattle.topology_text.proofs.InvariantLemmas.{nothing_holds}
use Rattle.topology_text.proofs.Links.{piece_names, Links, reads}
use Rattle.topology_text.proofs.NameParts.{pieces_good}
use Rattle.topology_text.proofs.WholeFile.{accepted}
use Rattle.topology_text.proofs.Numbers.{appear_known, appear_over, appear_new}
use Rattle.topology_text.proofs.Nodes.{parent_bad, parent_good, child_bad, child_good, piece_bad, piece_good, none_left}

-- what may be left of a text, by where the next token stands
abbrev Continues : ParserState → List Piece → Type 0
Continues Outside ps = (statements : List Statement) × (ps ≡ written statements)
Continues (AfterParent n) ps = (c : List ℕ) × (cs : List (List ℕ)) × (statements : List Statement) × (ps ≡ Arrow ∷ Name c ∷ map Name cs ++ Semicolon ∷ written statements)
Continues (AfterArrow n) ps = (c : List ℕ) × (cs : List (List ℕ)) × (statements : List Statement) × (ps ≡ Name c ∷ map Name cs ++ Semicolon ∷ written statements)
Continues (AfterChild n) ps = (cs : List (List ℕ)) × (statements : List Statement) × (ps ≡ map Name cs ++ Semicolon ∷ written statements)

-- a token may stand before a rest that may follow it
abbrev Steps : ParserState → Piece → List Piece → Result Parsed TextError → Type 0
Steps state p rest (Err e) = Unit {0}
Steps state p rest (Ok t) = Continues t.state rest → Continues state (p ∷ rest)

arrow_steps : (s : Parsed) (line : ℕ) (rest : List Piece) (state : ParserState) → Steps state Arrow rest (take_arrow s line state)
arrow_steps s line rest Outside = tt
arrow_steps s line rest (AfterParent p) = λ h. (h.0, h.1, h.2, ap (λ t. Arrow ∷ t) h.3)
arrow_steps s line rest (AfterArrow p) = tt
arrow_steps s line rest (AfterChild p) = tt

semicolon_steps : (s : Parsed) (line : ℕ) (rest : List Piece) (state : ParserState) → Steps state Semicolon rest (take_semicolon s line state)
semicolon_steps s line rest Outside = tt
semicolon_steps s line rest (AfterParent p) = tt
semicolon_steps s line rest (AfterArrow p) = tt
semicolon_steps s line rest (AfterChild p) = λ h. ([], h.0, ap (λ t. Semicolon ∷ t) h.1)

module _ (s : Parsed) (line n : ℕ) (name : List ℕ) (rest : List Piece) where
  parent_by : (b : Bool) → is_parent (slice_get s.nodes n) ≡ b → Steps Outside (Name name) rest (add_parent s line n)
  parent_by true e = subst (Steps Outside (Name name) rest) (sym (parent_bad s line n e)) tt
  parent_by false e = subst (Steps Outside (Name name) rest) (sym (parent_good s line n e)) (λ h. (record { parent = name; child = h.0; others = h.1 } ∷ h.2, ap (λ t. Name name ∷ t) h.3))

  first_by : (p : ℕ) (b : Bool) → is_child (slice_get s.nodes n) ≡ b → Steps (AfterArrow p) (Name name) rest (add_child s line p n)
  first_by p true e = subst (Steps (AfterArrow p) (Name name) rest) (sym (child_bad s line n p e)) tt
  first_by p false e = subst (Steps (AfterArrow p) (Name name) rest) (sym (child_good s line n p e)) (λ h. (name, h.0, h.1, ap (λ t. Name name ∷ t) h.2))

  other_by : (p : ℕ) (b : Bool) → is_child (slice_get s.nodes n) ≡ b → Steps (AfterChild p) (Name name) rest (add_child s line p n)
  other_by p true e = subst (Steps (AfterChild p) (Name name) rest) (sym (child_bad s line n p e)) tt
  other_by p false e = subst (Steps (AfterChild p) (Name name) rest) (sym (child_good s line n p e)) (λ h. (name ∷ h.0, h.1, ap (λ t. Name name ∷ t) h.2))

  take_steps : (state : ParserState) → Steps state (Name name) rest (take_name s line state n)
  take_steps Outside = parent_by (is_parent (slice_get s.nodes n)) refl
  take_steps (AfterParent p) = tt
  take_steps (AfterArrow p) = first_by p (is_child (slice_get s.nodes n)) refl
  take_steps (AfterChild p) = other_by p (is_child (slice_get s.nodes n)) refl

-- a name that appears moves no state
abbrev Stays : ParserState → Result Parsed TextError → Type 0
Stays state (Err e) = Unit {0}
Stays state (Ok t) = t.state ≡ state

module _ (s : Parsed) (line : ℕ) (name : List ℕ) where
  either : (n m : ℕ) → (n < m) ⊎ (m ≤ n)
  either n m = search rules

  new_stays : number_of name s.names ≡ None → (length s.names < 512) ⊎ (512 ≤ length s.names) → Stays s.state (appear s line name)
  new_stays e (inl few) = subst (Stays s.state) (sym (appear_new s line name e few)) refl
  new_stays e (inr many) = subst (Stays s.state) (sym (appear_over s line name e many)) tt

  appear_stays : (o : Option ℕ) → number_of name s.names ≡ o → Stays s.state (appear s line name)
  appear_stays (Some n) e = subst (Stays s.state) (sym (appear_known s line n name e)) refl
  appear_stays None e = new_stays e (either (length s.names) 512)

name_steps : (line : ℕ) (name : List ℕ) (rest : List Piece) (state : ParserState) (r : Result Parsed TextError) → Stays state r → Steps state (Name name) rest (elim r as (λ _. Result Parsed TextError) [ (Err e) ↦ Err e | (Ok t) ↦ take_name t line t.state (number_or_0 (number_of name t.names)) ])
name_steps line name rest state (Err e) same = tt
name_steps line name rest state (Ok t) same = subst (λ p. Steps p (Name name) rest (take_name t line t.state (number_or_0 (number_of name t.names)))) same (take_steps t line (number_or_0 (number_of name t.names)) name rest t.state)

-- the end of a text stands last, and where a statement may add_parent
abbrev Ends : ParserState → List Piece → Result Parsed TextError → Type 0
Ends state rest (Err e) = Unit {0}
Ends state rest (Ok t) = Continues state (End ∷ rest)

end_ends : (s : Parsed) (line : ℕ) (rest : List Piece) (state : ParserState) → rest ≡ [] → Ends state rest (take_end s line state)
end_ends s line rest Outside none = ([], ap (λ t. End ∷ t) none)
end_ends s line rest (AfterParent p) none = tt
end_ends s line rest (AfterArrow p) none = tt
end_ends s line rest (AfterChild p) none = tt

-- the end comes once, and last
abbrev pub EndsOnce : List (ℕ × Piece) → Type 0
EndsOnce [] = ⊥
EndsOnce (p ∷ rest) = elim p.1 [ Arrow ↦ EndsOnce rest | Semicolon ↦ EndsOnce rest | (Name name) ↦ EndsOnce rest | End ↦ rest ≡ [] | NoToken ↦ EndsOnce rest ]

-- what is left of a text without a error
abbrev pub ContinuesBy : ParserState → List (ℕ × Piece) → Result Parsed TextError → Type 0
ContinuesBy state ps (Err e) = Unit {0}
ContinuesBy state ps (Ok t) = Continues state (map (λ p. p.1) ps)

module _ (s : Parsed) (line : ℕ) (p : Piece) (rest : List (ℕ × Piece)) where
  step_on : (r : Result Parsed TextError) → with_piece s line p ≡ r → Steps s.state p (map (λ p. p.1) rest) r → ((t : Parsed) → ContinuesBy t.state rest (with_pieces t rest)) → ContinuesBy s.state ((line, p) ∷ rest) (with_pieces s ((line, p) ∷ rest))
  step_on (Err e) is step later = subst (ContinuesBy s.state ((line, p) ∷ rest)) (sym (piece_bad s line p rest e is)) tt
  step_on (Ok t) is step later = subst (ContinuesBy s.state ((line, p) ∷ rest)) (sym (piece_good s line p rest t is)) (by (with_pieces t rest) (later t))
    where
      by : (u : Result Parsed TextError) → ContinuesBy t.state rest u → ContinuesBy s.state ((line, p) ∷ rest) u
      by (Err e) h = tt
      by (Ok x) h = step h

  ends_on : (r : Result Parsed TextError) → with_piece s line p ≡ r → rest ≡ [] → Ends s.state (map (λ p. p.1) rest) r → p ≡ End → ContinuesBy s.state ((line, p) ∷ rest) (with_pieces s ((line, p) ∷ rest))
  ends_on (Err e) is none ends end = subst (ContinuesBy s.state ((line, p) ∷ rest)) (sym (piece_bad s line p rest e is)) tt
  ends_on (Ok t) is none ends end = subst (ContinuesBy s.state ((line, p) ∷ rest)) (sym (piece_good s line p rest t is ∙ ap (with_pieces t) none ∙ none_left t)) (subst (λ q. Continues s.state (q ∷ map (λ p. p.1) rest)) (sym end) ends)

-- what is left goes on as statements do
pub continues : (s : Parsed) (ps : List (ℕ × Piece)) → EndsOnce ps → ContinuesBy s.state ps (with_pieces s ps)
continues s [] once = absurd once
continues s ((line, Arrow) ∷ rest) once = step_on s line Arrow rest (with_piece s line Arrow) refl (arrow_steps s line (map (λ p. p.1) rest) s.state) (λ t. continues t rest once)
continues s ((line, Semicolon) ∷ rest) once = step_on s line Semicolon rest (with_piece s line Semicolon) refl (semicolon_steps s line (map (λ p. p.1) rest) s.state) (λ t. continues t rest once)
continues s ((line, Name name) ∷ rest) once = step_on s line (Name name) rest (with_piece s line (Name name)) refl (name_steps line name (map (λ p. p.1) rest) s.state (appear s line name) (appear_stays s line name (number_of name s.names) refl)) (λ t. continues t rest once)
continues s ((line, End) ∷ rest) once = ends_on s line End rest (with_piece s line End) refl once (end_ends s line (map (λ p. p.1) rest) s.state (ap (map (λ p. p.1)) once)) refl
continues s ((line, NoToken) ∷ rest) once = step_on s line NoToken rest (with_piece s line NoToken) refl tt (λ t. continues t rest once)

-- a token that is read is not the end
abbrev IsNoEnd : Piece → Type 0
IsNoEnd Arrow = Unit {0}
IsNoEnd Semicolon = Unit {0}
IsNoEnd (Name name) = Unit {0}
IsNoEnd End = ⊥
IsNoEnd NoToken = Unit {0}

after_no_end : (text after : List ℕ) → IsNoEnd (name_after text (host_len text) after)
after_no_end text [] = tt
after_no_end text (colon ∷ index) = by (is_name (host_len text) colon index (digits_len index))
  where
    by : (t : Bool) → IsNoEnd (cond t (Name (take (host_len text + 1 + digits_len index) text)) NoToken)
    by true = tt
    by false = tt

no_end_by : (semicolon arrow : Bool) (name : Piece) → IsNoEnd name → IsNoEnd (cond semicolon Semicolon (cond arrow Arrow name))
no_end_by true arrow name h = tt
no_end_by false true name h = tt
no_end_by false false name h = h

no_end : (text : List ℕ) → IsNoEnd (piece_at text)
no_end text = no_end_by (begins 59 text) _ (name_at text) (after_no_end text (drop (host_len text) text))

more_once : (line : ℕ) (p : Piece) (rest : List (ℕ × Piece)) → IsNoEnd p → EndsOnce rest → EndsOnce ((line, p) ∷ rest)
more_once line Arrow rest goes once = once
more_once line Semicolon rest goes once = once
more_once line (Name name) rest goes once = once
more_once line End rest goes once = absurd goes
more_once line NoToken rest goes once = once

-- the tokens of a text end once
pub ends_once : (line passed : ℕ) (text : List ℕ) → EndsOnce (pieces line passed text)
unfolding pieces
ends_once line zero [] = refl
ends_once line (suc passed) [] = refl
ends_once line (suc passed) (b ∷ rest) = ends_once line passed rest
ends_once line zero (b ∷ rest) = by (nat_eq b 10) (is_space b) (nat_eq b 35) (λ l n. ends_once l n rest)
  where
    by : (feed space mark : Bool) → ((l n : ℕ) → EndsOnce (pieces l n rest)) → EndsOnce (elim feed as (λ _. List (ℕ × Piece)) [
      | true ↦ pieces (suc line) 0 rest
      | false ↦ elim space as (λ _. List (ℕ × Piece)) [
        | true ↦ pieces line 0 rest
        | false ↦ elim mark as (λ _. List (ℕ × Piece)) [
          | true ↦ pieces line (line_len rest) rest
          | false ↦ (line, piece_at (b ∷ rest)) ∷ pieces line (piece_len (piece_at (b ∷ rest)) - 1) rest
        ]
      ]
    ])
    by true space mark more = more (suc line) 0
    by false true mark more = more line 0
    by false false true more = more line (line_len rest)
    by false false false more = more_once line (piece_at (b ∷ rest)) (pieces line (piece_len (piece_at (b ∷ rest)) - 1) rest) (no_end (b ∷ rest)) (more line (piece_len (piece_at (b ∷ rest)) - 1))

-- a text whose tokens have no error is written as statements
as_statements : (text : List ℕ) (t : Parsed) → with_pieces nothing_parsed (pieces 1 0 text) ≡ Ok t → (statements : List Statement) × (map (λ p. p.1) (pieces 1 0 text) ≡ written statements)
as_statements text t good = subst (λ r. ContinuesBy Outside (pieces 1 0 text) r) good (continues nothing_parsed (pieces 1 0 text) (ends_once 1 0 text))

-- the names and links of statements
others_names : (names : List (List ℕ)) (ps : List Piece) → piece_names (map Name names ++ ps) ≡ names ++ piece_names ps
others_names [] ps = refl
others_names (name ∷ names) ps = ap (λ t. name ∷ t) (others_names names ps)

pub statements_names : (statements : List Statement) → piece_names (written statements) ≡ names_in statements
statements_names [] = refl
statements_names (s ∷ statements) =
    ap (λ t. s.parent ∷ s.child ∷ t) (others_names s.others (Semicolon ∷ written statements) ∙ ap (λ t. s.others ++ t) (statements_names statements))

module _ (parent child : List ℕ) where
  others_to : (begun : List ℕ) (names : List (List ℕ)) (ps : List Piece) → Links (Some begun) (map Name names ++ Semicolon ∷ ps) parent child → ((begun ≡ parent) × In child names) ⊎ Links None ps parent child
  others_to begun [] ps h = inr h
  others_to begun (name ∷ names) ps (inl h) = inl (h.0, inl h.1)
  others_to begun (name ∷ names) ps (inr h) = elim (others_to begun names ps h) [ (inl k) ↦ inl (k.0, inr k.1) | (inr k) ↦ inr k ]

  others_from : (begun : List ℕ) (names : List (List ℕ)) (ps : List Piece) → ((begun ≡ parent) × In child names) ⊎ Links None ps parent child → Links (Some begun) (map Name names ++ Semicolon ∷ ps) parent child
  others_from begun [] ps (inl h) = absurd h.1
  others_from begun [] ps (inr h) = h
  others_from begun (name ∷ names) ps (inl h) = by h.1 (λ k. others_from begun names ps (inl (h.0, k)))
    where
      by : In child (name ∷ names) → (In child names → Links (Some begun) (map Name names ++ Semicolon ∷ ps) parent child) → Links (Some begun) (map Name (name ∷ names) ++ Semicolon ∷ ps) parent child
      by (inl e) more = inl (h.0, e)
      by (inr k) more = inr (more k)
  others_from begun (name ∷ names) ps (inr h) = inr (others_from begun names ps (inr h))

  pub links_to : (statements : List Statement) → Links None (written statements) parent child → IsLink statements parent child
  links_to [] h = absurd h
  links_to (s ∷ statements) (inl h) = (s, inl refl, h.0, inl h.1)
  links_to (s ∷ statements) (inr h) = by (others_to s.parent s.others (written statements) h) (links_to statements)
    where
      by : ((s.parent ≡ parent) × In child s.others) ⊎ Links None (written statements) parent child → (Links None (written statements) parent child → IsLink statements parent child) → IsLink (s ∷ statements) parent child
      by (inl k) more = (s, inl refl, k.0, inr k.1)
      by (inr k) more = let l = more k in (l.0, inr l.1, l.2, l.3)

  first_link : (s : Statement) (statements : List Statement) → s.parent ≡ parent → In child (s.child ∷ s.others) → Links None (written (s ∷ statements)) parent child
  first_link s statements e (inl here) = inl (e, here)
  first_link s statements e (inr h) = inr (others_from s.parent s.others (written statements) (inl (e, h)))

  pub links_from : (statements : List Statement) → IsLink statements parent child → Links None (written statements) parent child
  links_from [] h = absurd h.1
  links_from (s ∷ statements) h = by h.1 (links_from statements)
    where
      by : In h.0 (s ∷ statements) → (IsLink statements parent child → Links None (written statements) parent child) → Links None (written (s ∷ statements)) parent child
      by (inl e) more = first_link s statements (ap (λ x. x.parent) (sym e) ∙ h.2) (subst (λ x. In child (x.child ∷ x.others)) e h.3)
      by (inr k) more = inr (others_from s.parent s.others (written statements) (inr (more (h.0, k, h.2, h.3))))

-- an accepted text is written as its nodes
pub is_written : (text : List ℕ) (n : Nodes) → topology_of text ≡ Ok n → IsDistinct bytes_eq n.names → IsWritten text n
is_written text n is distinct =
    let a = accepted text n is in
    let s = a.0 in
    let same_names = ap (λ x. x.names) a.3 in
    let w = as_statements text s a.1 in
    let r = reads s (subst (IsDistinct bytes_eq) (sym same_names) distinct) (pieces 1 0 text) nothing_parsed (pieces_good 1 0 text) nothing_holds a.1 in
    subst (IsWritten text) a.3 (record {
      statements = w.0;
      is = w.1;
      names = r.all ∙ ap (λ ps. with_names [] (piece_names ps)) w.1 ∙ ap (with_names []) (statements_names w.0);
      links = λ p c x y. (
        λ h. links_to (name_of s.names p) (name_of s.names c) w.0 (subst (λ ps. Links None ps (name_of s.names p) (name_of s.names c)) w.1 (elim (r.to p c h) [ (inl old) ↦ absurd (nowhere c p old) | (inr new) ↦ new ])),
        λ h. r.from p c x y (inr (subst (λ ps. Links None ps (name_of s.names p) (name_of s.names c)) (sym w.1) (links_from (name_of s.names p) (name_of s.names c) w.0 h))),
      );
    })
  where
    nowhere : (c p : ℕ) → parent_of [] c ≡ Some p → ⊥
    nowhere zero p e = cc
    nowhere (suc c) p e = cc

-- What lines that are parsed are written as.
use Rattle.std.proofs.Common.{◌≡◌, ◌≢◌, ◌∙◌, ◌⊎◌, inl, inr, ◌+◌, ℕ, suc, Bool, true, false, cond, ◌||◌, ◌&&◌, not, nat_lt, List, [], ◌∷◌, length, filter, Ok, Err, Result, refl, sym, ap, subst, arith, codes}
use Rattle.std.specs.Result.{IfOk}
use Rattle.text_lines.specs.Lines.{lines, words, says_nothing, is_comment, are_none}
use Rattle.text_lines.specs.Directives.{first_is, is_line_of}
use Rattle.text_lines.specs.Parsing.{parsed_lines}
use Rattle.text_lines.specs.declared.text_error.TextError.{TextError}
use Rattle.text_lines.specs.declared.text_error.TextError.TheVariants.{Bad}
use Rattle.text_lines.specs.declared.text_error.Reason.TheVariants.{NoStream}
use Rattle.text_lines.proofs.Errors.{then_inv, ok_inj}
use Rattle.overlay_setup.specs.NodeSets.{In}
use Rattle.overlay_setup.specs.Scripts.{Stream, Scripted, scripted}
use Rattle.overlay_setup.specs.Topologies.{Nodes, IsTopology}
use Rattle.overlay_setup.specs.declared.script.Fault.{Fault}
use Rattle.script_text.specs.Grammar.{IsStreamOf, IsLossOf, IsWritten}
use Rattle.script_text.specs.Invariants.{ParserInvariant}
use Rattle.script_text.specs.Order.{with_item}
use Rattle.script_text.specs.Whole.{with_line, whole, script_of}
use Rattle.script_text.proofs.InvariantLemmas.{nothing_holds, lines_holds}
use Rattle.script_text.proofs.LineViews.{Changes, changes}
use Rattle.script_text.proofs.NodeLists.{some_first}

-- a list with an item more, by its number
module _ {X : Type 0} (number : X → ℕ) (x : X) where
  is_item : (ys : List X) → In x (with_item number x ys)
  is_item [] = inl refl
  is_item (y ∷ ys) = by (nat_lt (number x) (number y)) (is_item ys)
    where
      by : (b : Bool) → In x (with_item number x ys) → In x (cond b (x ∷ y ∷ ys) (y ∷ with_item number x ys))
      by true h = inl refl
      by false h = inr h

  item_stays : (z : X) (ys : List X) → In z ys → In z (with_item number x ys)
  item_stays z [] h = absurd h
  item_stays z (y ∷ ys) h = by (nat_lt (number x) (number y)) h (item_stays z ys)
    where
      by : (b : Bool) → In z (y ∷ ys) → (In z ys → In z (with_item number x ys)) → In z (cond b (x ∷ y ∷ ys) (y ∷ with_item number x ys))
      by true h more = inr h
      by false (inl e) more = inl e
      by false (inr h) more = inr (more h)

  item_of : (z : X) (ys : List X) → In z (with_item number x ys) → (z ≡ x) ⊎ In z ys
  item_of z [] (inl e) = inl e
  item_of z [] (inr h) = absurd h
  item_of z (y ∷ ys) h = by (nat_lt (number x) (number y)) h (item_of z ys)
    where
      by : (b : Bool) → In z (cond b (x ∷ y ∷ ys) (y ∷ with_item number x ys)) → (In z (with_item number x ys) → (z ≡ x) ⊎ In z ys) → (z ≡ x) ⊎ In z (y ∷ ys)
      by true (inl e) more = inl e
      by true (inr h) more = inr h
      by false (inl e) more = inr (inl e)
      by false (inr h) more = elim (more h) [ (inl e) ↦ inl e | (inr i) ↦ inr (inr i) ]

  length-with_item : (ys : List X) → length (with_item number x ys) ≡ suc (length ys)
  length-with_item [] = refl
  length-with_item (y ∷ ys) = by (nat_lt (number x) (number y)) (length-with_item ys)
    where
      by : (b : Bool) → length (with_item number x ys) ≡ suc (length ys) → length (cond b (x ∷ y ∷ ys) (y ∷ with_item number x ys)) ≡ suc (suc (length ys))
      by true h = refl
      by false h = ap suc h

-- items of lines of one kind
module _ {X : Type 0} (number : X → ℕ) (kind : List ℕ → Bool) (Is : List ℕ → X → Type 0) where
  -- the items after some lines are those before them, and one for each line of the kind
  pub record Adds (ls : List (List ℕ)) (xs ys : List X) : Type 0 where
    pub to : (x : X) → In x ys → In x xs ⊎ ((line : List ℕ) × In line (filter kind ls) × Is line x)
    pub stay : (x : X) → In x xs → In x ys
    pub from : (line : List ℕ) → In line (filter kind ls) → (x : X) × In x ys × Is line x
    pub count : length ys ≡ length xs + length (filter kind ls)

  no_line : (xs : List X) → Adds [] xs xs
  no_line xs = record { to = λ x h. inl h; stay = λ x h. h; from = λ line h. absurd h; count = omega arith }

  module _ (line : List ℕ) (rest : List (List ℕ)) (xs ms ys : List X) (later : Adds rest ms ys) where
    abbrev AddsAll : List (List ℕ) → Type 0
    AddsAll all = record {
      to : (x : X) → In x ys → In x xs ⊎ ((line : List ℕ) × In line all × Is line x);
      stay : (x : X) → In x xs → In x ys;
      from : (line : List ℕ) → In line all → (x : X) × In x ys × Is line x;
      count : length ys ≡ length xs + length all;
    }

    of_all : (b : Bool) → kind line ≡ b → AddsAll (cond b (line ∷ filter kind rest) (filter kind rest)) → Adds (line ∷ rest) xs ys
    of_all b e h = let g = subst (λ b. AddsAll (cond b (line ∷ filter kind rest) (filter kind rest))) (sym e) h in record { to = g.to; stay = g.stay; from = g.from; count = g.count }

    other_line : kind line ≡ false → xs ≡ ms → Adds (line ∷ rest) xs ys
    other_line e same = of_all false e (record {
      to = λ x h. elim (later.to x h) [ (inl old) ↦ inl (subst (In x) (sym same) old) | (inr new) ↦ inr new ];
      stay = λ x h. later.stay x (subst (In x) same h);
      from = later.from;
      count = (let len = ap length same in let all = later.count in omega arith);
    })

    its_line : (item : X) → kind line ≡ true → Is line item → with_item number item xs ≡ ms → Adds (line ∷ rest) xs ys
    its_line item e is more = of_all true e (record {
      to = λ x h. by x (later.to x h);
      stay = λ x h. later.stay x (subst (In x) more (item_stays number item x xs h));
      from = λ l h. back l h;
      count = (let len = sym (ap length more) ∙ length-with_item number item xs in let all = later.count in omega arith);
    })
      where
        first : (x : X) → (x ≡ item) ⊎ In x xs → In x xs ⊎ ((l : List ℕ) × In l (line ∷ filter kind rest) × Is l x)
        first x (inl same) = inr (line, inl refl, subst (Is line) (sym same) is)
        first x (inr old) = inl old

        by : (x : X) → In x ms ⊎ ((l : List ℕ) × In l (filter kind rest) × Is l x) → In x xs ⊎ ((l : List ℕ) × In l (line ∷ filter kind rest) × Is l x)
        by x (inl h) = first x (item_of number item x xs (subst (In x) (sym more) h))
        by x (inr h) = inr (h.0, inr h.1, h.2)

        back : (l : List ℕ) → In l (line ∷ filter kind rest) → (x : X) × In x ys × Is l x
        back l (inl same) = (item, later.stay item (subst (In item) more (is_item number item xs)), subst (λ k. Is k item) (sym same) is)
        back l (inr h) = later.from l h

-- lines of one kind are not of another
quiet_line : (word line : List ℕ) → says_nothing line ≡ true → is_line_of word line ≡ false
quiet_line word line quiet = by (is_comment line) (words line) quiet
  where
    by : (c : Bool) (ws : List (List ℕ)) → (c || are_none ws) ≡ true → (not c && first_is word ws) ≡ false
    by true ws e = refl
    by false [] e = refl
    by false (w ∷ rest) e = cc

pub line_of : (word line first : List ℕ) (rest : List (List ℕ)) → is_comment line ≡ false → words line ≡ first ∷ rest → is_line_of word line ≡ first_is word (first ∷ rest)
line_of word line first rest comment is = (λ i. not (comment i) && first_is word (is i))

abbrev pub AddsStreams : Nodes → List (List ℕ) → List Stream → List Stream → Type 0
AddsStreams t ls xs ys = Adds (λ (x : Stream). x.number) (is_line_of (codes "stream")) (IsStreamOf t) ls xs ys

abbrev pub AddsLosses : Nodes → List (List ℕ) → List Fault → List Fault → Type 0
AddsLosses t ls xs ys = Adds (λ (f : Fault). f.node) (is_line_of (codes "lose")) (IsLossOf t) ls xs ys

module _ (t : Nodes) (is : IsTopology t) where
  one_more : (line : List ℕ) (rest : List (List ℕ)) (c m d : Scripted) → Changes t c line m → AddsStreams t rest m.streams d.streams × AddsLosses t rest m.faults d.faults → AddsStreams t (line ∷ rest) c.streams d.streams × AddsLosses t (line ∷ rest) c.faults d.faults
  one_more line rest c m d (inl quiet) later = (
    other_line _ _ (IsStreamOf t) line rest c.streams m.streams d.streams later.0 (quiet_line (codes "stream") line quiet.0) (ap (λ x. x.streams) quiet.1),
    other_line _ _ (IsLossOf t) line rest c.faults m.faults d.faults later.1 (quiet_line (codes "lose") line quiet.0) (ap (λ x. x.faults) quiet.1),
  )
  one_more line rest c m d (inr (inl h)) later = (
    its_line _ _ (IsStreamOf t) line rest c.streams m.streams d.streams later.0 h.new (line_of (codes "stream") line (codes "stream") h.is.rest h.comment h.is.is) h.is (ap (λ x. x.streams) h.after),
    other_line _ _ (IsLossOf t) line rest c.faults m.faults d.faults later.1 (line_of (codes "lose") line (codes "stream") h.is.rest h.comment h.is.is) (ap (λ x. x.faults) h.after),
  )
  one_more line rest c m d (inr (inr h)) later = (
    other_line _ _ (IsStreamOf t) line rest c.streams m.streams d.streams later.0 (line_of (codes "stream") line (codes "lose") h.is.rest h.comment h.is.is) (ap (λ x. x.streams) h.after),
    its_line _ _ (IsLossOf t) line rest c.faults m.faults d.faults later.1 h.new (line_of (codes "lose") line (codes "lose") h.is.rest h.comment h.is.is) h.is (ap (λ x. x.faults) h.after),
  )

  pub written : (ls : List (List ℕ)) (c d : Scripted) (number : ℕ) → parsed_lines (with_line t) c number ls ≡ Ok d → AddsStreams t ls c.streams d.streams × AddsLosses t ls c.faults d.faults
  unfolding parsed_lines
  written [] c d number h =
      let same : c ≡ d = ok_inj c d h in
      (subst (λ x. AddsStreams t [] c.streams x.streams) same (no_line _ _ (IsStreamOf t) c.streams), subst (λ x. AddsLosses t [] c.faults x.faults) same (no_line _ _ (IsLossOf t) c.faults))
  written (line ∷ rest) c d number h =
      let a = then_inv (with_line t c number line) _ d h in
      one_more line rest c a.0 d (changes t is c a.0 number line a.1) (written rest a.0 d (suc number) a.2)

  -- lines that are parsed are written as what they say
  pub is_written : (text : List ℕ) (d : Scripted) → parsed_lines (with_line t) (scripted [] []) 1 (lines text) ≡ Ok d → IsWritten t text d
  is_written text d h =
      let w = written (lines text) (scripted [] []) d 1 h in
      let inv = subst (λ r. IfOk r (ParserInvariant t)) h (lines_holds t is (lines text) (scripted [] []) 1 (nothing_holds t)) in
      record {
        streams = λ x there. elim (w.0.to x there) [ (inl old) ↦ absurd old | (inr new) ↦ new ];
        of_stream_lines = w.0.from;
        stream_count = (let n = w.0.count in omega arith);
        streams_increase = inv.streams_increase;
        losses = λ f there. elim (w.1.to f there) [ (inl old) ↦ absurd old | (inr new) ↦ new ];
        of_lose_lines = w.1.from;
        loss_count = (let n = w.1.count in omega arith);
        losses_increase = inv.faults_increase;
      }

-- a script that is whole has a stream
whole_is : (c d : Scripted) → whole c ≡ Ok d → (c ≡ d) × (c.streams ≢ [])
whole_is c d h = by c.streams h
  where
    by : (xs : List Stream) → elim xs as (λ _. Result Scripted TextError) [ [] ↦ Err (Bad 0 NoStream) | (x ∷ xs) ↦ Ok c ] ≡ Ok d → (c ≡ d) × (xs ≢ [])
    by [] h = cc
    by (x ∷ xs) h = (ok_inj c d h, some_first x xs)

-- an accepted text is parsed, and there is a stream
pub accepted_parsed : (t : Nodes) (text : List ℕ) (d : Scripted) → script_of t text ≡ Ok d → (parsed_lines (with_line t) (scripted [] []) 1 (lines text) ≡ Ok d) × (d.streams ≢ [])
unfolding script_of
accepted_parsed t text d h =
    let a = then_inv (parsed_lines (with_line t) (scripted [] []) 1 (lines text)) whole d h in
    let w = whole_is a.0 d a.2 in
    (a.1 ∙ ap Ok w.0, subst (λ (c : Scripted). c.streams ≢ []) w.0 w.1)

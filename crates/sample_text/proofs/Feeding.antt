-- Texts that are joined, and what is parsed of them.
use Rattle.std.proofs.Common.{◌≡◌, ◌≢◌, ◌∙◌, ℕ, suc, ◌+◌, ◌<◌, ◌≤◌, Bool, true, false, cond, nat_eq, List, [], ◌∷◌, ◌++◌, length, take, map, get_or, Result, Ok, Err, refl, sym, ap, subst, arith}
use Rattle.std.specs.Prelude.{IfErr, OnOk}
use Rattle.std.proofs.Math.Seq.{take-suc}
use Rattle.std.proofs.lemmas.Bool.{eqb-true}
use Rattle.std.proofs.lemmas.List.{append_assoc, append-nil, length-append, length-map, map-append}
use Rattle.memchr.specs.Find.{is_byte}
use Rattle.overlay_setup.specs.Topologies.{Nodes}
use Rattle.text_lines.specs.Lines.{before_first, lines, pieces, without_return}
use Rattle.text_lines.specs.Parsing.{parsed_lines, RefusesLines, TakesLines}
use Rattle.text_lines.specs.declared.text_error.TextError.{TextError}
use Rattle.text_lines.specs.declared.text_error.TextError.TheVariants.{OutOfMemory}
use Rattle.text_lines.proofs.Cuts.{no_lines}
use Rattle.text_lines.proofs.Errors.{ok_inj}
use Rattle.text_lines.proofs.Parsing.{parsed_bad, parsed_good, parsed_none, refused_parsed, taken_parsed}
use Rattle.sample_text.specs.declared.feeder.Feeder.{Feeder}
use Rattle.sample_text.specs.declared.parser.Parser.{Parser}
use Rattle.sample_text.specs.Feeding.{EndsLine, HasParsed, IsCut, IsRefused, RefusesPiece, TakesPiece}
use Rattle.sample_text.specs.Invariants.{ParserInvariant}
use Rattle.sample_text.specs.ParserViews.{IsConsistent, parser_nodes, parser_view}
use Rattle.sample_text.specs.Steps.{with_line}
use Rattle.sample_text.specs.Taking.{refuses_line, takes_line}
use Rattle.sample_text.specs.Whole.{nothing_parsed, samples_of_text, whole as checked}
use Rattle.sample_text.proofs.InvariantLemmas.{holds_after}
use Rattle.sample_text.proofs.Lines.{samples_bad, samples_good}

-- ---- the lines of a text up to a line feed, and those behind it

some_by : (b : ℕ) (t : Bool) (ps : List (List ℕ)) → 0 < length (cond t ([] ∷ ps) (before_first b ps))
some_by b true ps = omega arith
some_by b false [] = omega arith
some_by b false (p ∷ ps) = omega arith

some_piece : (text : List ℕ) → 0 < length (pieces (text ++ 10 ∷ []))
unfolding pieces
some_piece [] = omega arith
some_piece (b ∷ text) = some_by b (nat_eq b 10) (pieces (text ++ 10 ∷ []))

more_by : (b : ℕ) (t : Bool) (ps qs : List (List ℕ)) → 0 < length ps → cond t ([] ∷ (ps ++ qs)) (before_first b (ps ++ qs)) ≡ cond t ([] ∷ ps) (before_first b ps) ++ qs
more_by b true ps qs some = refl
more_by b false [] qs some = absurd (omega arith)
more_by b false (p ∷ ps) qs some = refl

pieces_more : (text rest : List ℕ) → pieces ((text ++ 10 ∷ []) ++ rest) ≡ pieces (text ++ 10 ∷ []) ++ pieces rest
unfolding pieces
pieces_more [] rest = refl
pieces_more (b ∷ text) rest =
    ap (λ ps. cond (nat_eq b 10) ([] ∷ ps) (before_first b ps)) (pieces_more text rest)
    ∙ more_by b (nat_eq b 10) (pieces (text ++ 10 ∷ [])) (pieces rest) (some_piece text)

-- before the first line
pub ends_none : EndsLine []
unfolding pieces
ends_none rest = refl

ends_feed : (text : List ℕ) → EndsLine (text ++ 10 ∷ [])
ends_feed text rest = ap (map without_return) (pieces_more text rest) ∙ map-append without_return (pieces (text ++ 10 ∷ [])) (pieces rest)

ends_both : (a b : List ℕ) → EndsLine a → EndsLine b → EndsLine (a ++ b)
ends_both a b first second rest =
    ap lines (append_assoc a b rest)
    ∙ first (b ++ rest)
    ∙ ap (λ ls. lines a ++ ls) (second rest)
    ∙ sym (append_assoc (lines a) (lines b) (lines rest))
    ∙ ap (λ ls. ls ++ lines rest) (sym (first b))

-- a text that ends with a piece that is cut behind a line feed
pub ends_behind : (before front piece ended : List ℕ) (k : ℕ) → front ≡ take (k + 1) piece → ended ≡ before ++ front → k < length piece → is_byte 10 (get_or piece k 0) ≡ true → EndsLine ended
ends_behind before front piece ended k cut is lt feed =
    let n : k + 1 ≡ suc k = omega arith in
    let at : take (k + 1) piece ≡ take k piece ++ 10 ∷ [] = ap (λ n. take n piece) n ∙ take-suc piece k 0 lt ∙ ap (λ b. take k piece ++ b ∷ []) (eqb-true _ 10 feed) in
    subst EndsLine (sym (is ∙ ap (λ x. before ++ x) (cut ∙ at) ∙ sym (append_assoc before (take k piece) (10 ∷ [])))) (ends_feed (before ++ take k piece))

-- ---- there are no more lines than bytes

count_by : (b : ℕ) (t : Bool) (ps : List (List ℕ)) (n : ℕ) → length ps ≤ n → length (cond t ([] ∷ ps) (before_first b ps)) ≤ suc n
count_by b true ps n le = omega arith
count_by b false [] n le = omega arith
count_by b false (p ∷ ps) n le = omega arith

count_pieces : (text : List ℕ) → length (pieces text) ≤ length text
unfolding pieces
count_pieces [] = omega arith
count_pieces (b ∷ text) = count_by b (nat_eq b 10) (pieces text) (length text) (count_pieces text)

pub count_lines : (text : List ℕ) → length (lines text) ≤ length text
count_lines text =
    let same : length (lines text) ≡ length (pieces text) = length-map (pieces text) without_return in
    let le = count_pieces text in
    omega arith

-- ---- lines that are parsed, and more of them

no_value : {A : Type 0} (e : TextError) (x : A) (r : Result A TextError) → r ≡ Err e → r ≡ Ok x → ⊥
no_value e x r bad good = cc

module _ {S : Type 0} (step : S → ℕ → List ℕ → Result S TextError) where
  then_by : (x : List ℕ) (xs ys : List (List ℕ)) (s u : S) (n : ℕ) (r : Result S TextError) → step s n x ≡ r → parsed_lines step s n (x ∷ xs) ≡ Ok u
      → ((next : S) → parsed_lines step next (suc n) xs ≡ Ok u → parsed_lines step next (suc n) (xs ++ ys) ≡ parsed_lines step u (suc n + length xs) ys)
      → parsed_lines step s n (x ∷ (xs ++ ys)) ≡ parsed_lines step u (n + length (x ∷ xs)) ys
  then_by x xs ys s u n (Err e) is all later = absurd (no_value e u (parsed_lines step s n (x ∷ xs)) (parsed_bad step s n x xs e is) all)
  then_by x xs ys s u n (Ok next) is all later =
      parsed_good step s n x (xs ++ ys) next is
      ∙ later next (sym (parsed_good step s n x xs next is) ∙ all)
      ∙ (let k : suc n + length xs ≡ n + length (x ∷ xs) = omega arith in ap (λ k. parsed_lines step u k ys) k)

  -- lines that are good: the others decide
  pub parsed_then : (xs ys : List (List ℕ)) (s u : S) (n : ℕ) → parsed_lines step s n xs ≡ Ok u → parsed_lines step s n (xs ++ ys) ≡ parsed_lines step u (n + length xs) ys
  parsed_then [] ys s u n is =
      let same : s ≡ u = ok_inj s u (sym (parsed_none step s n) ∙ is) in
      let k : n ≡ n + 0 = omega arith in
      λ i. parsed_lines step (same i) (k i) ys
  parsed_then (x ∷ xs) ys s u n is = then_by x xs ys s u n (step s n x) refl is (λ next more. parsed_then xs ys next u (suc n) more)

  stops_by : (x : List ℕ) (xs ys : List (List ℕ)) (s : S) (n : ℕ) (e : TextError) (r : Result S TextError) → step s n x ≡ r → parsed_lines step s n (x ∷ xs) ≡ Err e
      → ((next : S) → parsed_lines step next (suc n) xs ≡ Err e → parsed_lines step next (suc n) (xs ++ ys) ≡ Err e)
      → parsed_lines step s n (x ∷ (xs ++ ys)) ≡ Err e
  stops_by x xs ys s n e (Err f) is all later = parsed_bad step s n x (xs ++ ys) f is ∙ sym (parsed_bad step s n x xs f is) ∙ all
  stops_by x xs ys s n e (Ok next) is all later = parsed_good step s n x (xs ++ ys) next is ∙ later next (sym (parsed_good step s n x xs next is) ∙ all)

  -- a line that is bad decides
  pub parsed_stops : (xs ys : List (List ℕ)) (s : S) (n : ℕ) (e : TextError) → parsed_lines step s n xs ≡ Err e → parsed_lines step s n (xs ++ ys) ≡ Err e
  parsed_stops [] ys s n e is = absurd (no_value e s (parsed_lines step s n []) is (parsed_none step s n))
  parsed_stops (x ∷ xs) ys s n e is = stops_by x xs ys s n e (step s n x) refl is (λ next more. parsed_stops xs ys next (suc n) e more)

-- ---- whole lines that are parsed, and a text behind them

module _ (t : Nodes) (old : Parser) (count : ℕ) (whole text : List ℕ) (h : HasParsed t old count whole) where
  number : count + 1 ≡ 1 + length (lines whole)
  number = let c = h.counted in omega arith

  all_lines : parsed_lines (with_line t) (nothing_parsed t) 1 (lines (whole ++ text)) ≡ parsed_lines (with_line (parser_nodes old)) (parser_view old) (count + 1) (lines text)
  all_lines =
      ap (parsed_lines (with_line t) (nothing_parsed t) 1) (h.ends text)
      ∙ parsed_then (with_line t) (lines whole) (lines text) (nothing_parsed t) (parser_view old) 1 h.parsed
      ∙ (λ i. parsed_lines (with_line (sym h.nodes i)) (parser_view old) (sym number i) (lines text))

  -- its lines are parsed
  pub parsed_all : (new : Parser) → TakesLines takes_line old (count + 1) (lines text) new
      → (parsed_lines (with_line t) (nothing_parsed t) 1 (lines (whole ++ text)) ≡ Ok (parser_view new)) × (parser_nodes new ≡ t)
  parsed_all new taken =
      let parsed = taken_parsed parser_nodes parser_view with_line (lines text) old (count + 1) new taken in
      (all_lines ∙ parsed.0, parsed.1 ∙ h.nodes)

  pub parsed_more : (new : Parser) (next : ℕ) → EndsLine text → TakesLines takes_line old (count + 1) (lines text) new → next ≡ count + length (lines text) → IsConsistent new → HasParsed t new next (whole ++ text)
  parsed_more new next ends taken counted ready =
      let all = ap length (h.ends text) in
      let both = length-append (lines whole) (lines text) in
      let before = h.counted in
      record {
        consistent = ready;
        nodes = (parsed_all new taken).1;
        ends = ends_both whole text h.ends ends;
        parsed = (parsed_all new taken).0;
        counted = omega arith;
      }

  -- one of its lines is refused
  pub refused_all : (e : TextError) → RefusesLines takes_line refuses_line old (count + 1) (lines text) e → e ≢ OutOfMemory → parsed_lines (with_line t) (nothing_parsed t) 1 (lines (whole ++ text)) ≡ Err e
  refused_all e refused memory = all_lines ∙ refused_parsed parser_nodes parser_view with_line (lines text) old (count + 1) e refused memory

  pub refused_more : (e : TextError) → EndsLine text → RefusesLines takes_line refuses_line old (count + 1) (lines text) e → e ≢ OutOfMemory → IsRefused t e (whole ++ text)
  refused_more e ends refused memory rest =
      ap (parsed_lines (with_line t) (nothing_parsed t) 1) (ends_both whole text h.ends ends rest)
      ∙ parsed_stops (with_line t) (lines (whole ++ text)) (lines rest) (nothing_parsed t) 1 e (refused_all e refused memory)

-- what is refused stays refused
pub refused_on : (t : Nodes) (e : TextError) (text piece : List ℕ) → IsRefused t e text → IsRefused t e (text ++ piece)
refused_on t e text piece refused rest = ap (λ all. parsed_lines (with_line t) (nothing_parsed t) 1 (lines all)) (append_assoc text piece rest) ∙ refused (piece ++ rest)

-- before the first line
pub parsed_nothing : (t : Nodes) (parser : Parser) → IsConsistent parser → parser_nodes parser ≡ t → parser_view parser ≡ nothing_parsed t → HasParsed t parser 0 []
parsed_nothing t parser ready nodes view =
    let none : lines [] ≡ [] = no_lines [] refl in
    record {
      consistent = ready;
      nodes = nodes;
      ends = ends_none;
      parsed = ap (parsed_lines (with_line t) (nothing_parsed t) 1) none ∙ parsed_none (with_line t) (nothing_parsed t) 1 ∙ ap (λ s. Ok s) (sym view);
      counted = sym (ap length none);
    }

-- a text of whole lines and a cut line, and what comes behind it
module _ (t : Nodes) (old : Parser) (count : ℕ) (whole cut text : List ℕ) (h : HasParsed t old count whole) (joined : text ≡ whole ++ cut) where
  -- the number of its lines fits where its length does
  pub lines_fit : count + length cut ≤ length text
  lines_fit =
      let all : length text ≡ length (whole ++ cut) = ap length joined in
      let parts = length-append whole cut in
      let most = count_lines whole in
      let counted = h.counted in
      omega arith

  -- the cut line goes on
  pub cut_longer : (piece longer : List ℕ) → longer ≡ cut ++ piece → text ++ piece ≡ whole ++ longer
  cut_longer piece longer is = ap (λ x. x ++ piece) joined ∙ append_assoc whole cut piece ∙ ap (λ x. whole ++ x) (sym is)

  -- the cut line ends, and a text is left
  module _ (piece front back ended : List ℕ) (split : piece ≡ front ++ back) (is : ended ≡ cut ++ front) (ends : EndsLine ended) where
    pub with_ended : text ++ piece ≡ (whole ++ ended) ++ back
    with_ended =
        (λ i. joined i ++ split i)
        ∙ append_assoc whole cut (front ++ back)
        ∙ ap (λ x. whole ++ x) (sym (append_assoc cut front back) ∙ ap (λ x. x ++ back) (sym is))
        ∙ sym (append_assoc whole ended back)

    pub ended_refused : (e : TextError) → RefusesLines takes_line refuses_line old (count + 1) (lines ended) e → e ≢ OutOfMemory → IsRefused t e (text ++ piece)
    ended_refused e refused memory =
        subst (IsRefused t e) (sym with_ended) (refused_on t e (whole ++ ended) back (refused_more t old count whole ended h e ends refused memory))

  -- the text ends
  pub last_refused : (e : TextError) → RefusesLines takes_line refuses_line old (count + 1) (lines cut) e → e ≢ OutOfMemory → samples_of_text t text ≡ Err e
  last_refused e refused memory =
      samples_bad t text e (ap (λ x. parsed_lines (with_line t) (nothing_parsed t) 1 (lines x)) joined ∙ refused_all t old count whole cut h e refused memory)

  module _ (new : Parser) (taken : TakesLines takes_line old (count + 1) (lines cut) new) where
    pub last_nodes : parser_nodes new ≡ t
    last_nodes = (parsed_all t old count whole cut h new taken).1

    last_parsed : parsed_lines (with_line t) (nothing_parsed t) 1 (lines text) ≡ Ok (parser_view new)
    last_parsed = ap (λ x. parsed_lines (with_line t) (nothing_parsed t) 1 (lines x)) joined ∙ (parsed_all t old count whole cut h new taken).0

    pub last_checked : samples_of_text t text ≡ checked (parser_nodes new) (parser_view new)
    last_checked = samples_good t text (parser_view new) last_parsed ∙ ap (λ n. checked n (parser_view new)) (sym last_nodes)

    pub last_holds : ParserInvariant (parser_nodes new) (parser_view new)
    last_holds = subst (λ n. ParserInvariant n (parser_view new)) (sym last_nodes) (holds_after t (parser_view new) (lines text) last_parsed)

-- a text with an error, as a whole
pub whole_refused : (t : Nodes) (e : TextError) (text : List ℕ) → IsRefused t e text → samples_of_text t text ≡ Err e
whole_refused t e text refused = samples_bad t text e (ap (λ x. parsed_lines (with_line t) (nothing_parsed t) 1 (lines x)) (sym (append-nil text)) ∙ refused [])

-- a piece that ends the cut line
pub front_taken : (old new : Feeder) (front ended : List ℕ) → ended ≡ old.cut_line.items ++ front → EndsLine ended → new.cut_line.items ≡ []
    → TakesLines takes_line old.parser (old.count + 1) (lines ended) new.parser → new.count ≡ old.count + length (lines ended) → IsConsistent new.parser → TakesPiece old front new
front_taken old new front ended is ends empty taken counted ready t text cut = record {
  whole = cut.whole ++ ended;
  joined = with_ended t old.parser old.count cut.whole old.cut_line.items text cut.parsed cut.joined front front [] ended (sym (append-nil front)) is ends
      ∙ ap (λ x. (cut.whole ++ ended) ++ x) (sym empty);
  parsed = parsed_more t old.parser old.count cut.whole ended cut.parsed new.parser new.count ends taken counted ready;
}

on_ok : {A : Type 0} (r : Result A TextError) (P Q : Type 0) → (P → Q) → OnOk r P → OnOk r Q
on_ok (Ok x) P Q f p = f p
on_ok (Err e) P Q f p = tt

on_err : {A : Type 0} (r : Result A TextError) (P Q : TextError → Type 0) → ((e : TextError) → P e → Q e) → IfErr r P → IfErr r Q
on_err (Ok x) P Q f p = tt
on_err (Err e) P Q f p = f e p

-- a piece in two parts, of which the first is taken
module _ {A : Type 0} (r : Result A TextError) (old mid : Feeder) (piece front back : List ℕ) (split : piece ≡ front ++ back) (first : TakesPiece old front mid) where
  both : (text : List ℕ) → (text ++ front) ++ back ≡ text ++ piece
  both text = append_assoc text front back ∙ ap (λ x. text ++ x) (sym split)

  pub then_taken : (new : Feeder) → OnOk r (TakesPiece mid back new) → OnOk r (TakesPiece old piece new)
  then_taken new = on_ok r (TakesPiece mid back new) (TakesPiece old piece new) (λ second t text cut. subst (IsCut t new) (both text) (second t (text ++ front) (first t text cut)))

  pub then_refused : IfErr r (RefusesPiece mid back) → IfErr r (RefusesPiece old piece)
  then_refused = on_err r (RefusesPiece mid back) (RefusesPiece old piece) (λ e second memory t text cut. subst (IsRefused t e) (both text) (second memory t (text ++ front) (first t text cut)))

-- A text whose lines are good is accepted, and an accepted text is acceptable.
use Rattle.std.proofs.Common.{◌≡◌, ◌≢◌, ◌∙◌, ◌↔◌, inl, inr, ◌<◌, ◌≤◌, ℕ, suc, Bool, true, false, ◌||◌, cond, nat_eq, List, [], ◌∷◌, ◌++◌, length, length-append, filter, map, Option, Some, Ok, Err, refl, sym, ap, subst, arith, codes, zero-le, le-ltb, eq-eqb, ne_eqb}
use Rattle.std.specs.List.{list_any}
use Rattle.std.specs.Result.{IfOk}
use Rattle.std.specs.Str.{bytes_eq}
use Rattle.std.proofs.lemmas.Bool.{true≢false, lt-leb}
use Rattle.std.proofs.lemmas.List.Elements.{filter-append}
use Rattle.std.proofs.lemmas.List.{append-nil}
use Rattle.text_lines.specs.Lines.{lines, words, says_nothing, is_comment, are_none, number_in}
use Rattle.text_lines.specs.Directives.{is_line_of}
use Rattle.text_lines.specs.Parsing.{some_or, parsed_lines}
use Rattle.text_lines.specs.declared.text_error.TextError.{TextError}
use Rattle.text_lines.specs.declared.text_error.TextError.TheVariants.{Bad, Over}
use Rattle.text_lines.specs.declared.text_error.Reason.TheVariants.{BadNumber, NotADaemon, LosesFront, SecondLoss}
use Rattle.text_lines.specs.declared.text_error.Quantity.TheVariants.{Streams, Waves, Faults}
use Rattle.text_lines.proofs.Parsing.{parsed_none, parsed_then, parsed_split, append_one}
use Rattle.overlay_setup.specs.Daemons.{IsDaemonNamed}
use Rattle.overlay_setup.specs.Scripts.{IsMode, IsStream, IsFault, Stream, stream, Scripted, scripted}
use Rattle.overlay_setup.specs.Names.{number_of}
use Rattle.overlay_setup.specs.NodeSets.{In, with_number, IsStrictlyIncreasing}
use Rattle.overlay_setup.specs.Topologies.{Nodes, IsTopology}
use Rattle.overlay_setup.specs.Trees.{root_of}
use Rattle.overlay_setup.specs.declared.script.Fault.{Fault}
use Rattle.overlay_setup.specs.declared.script.Mode.{Mode}
use Rattle.overlay_setup.specs.declared.script.Mode.TheVariants as mode
use Rattle.overlay_setup.specs.declared.script.TheConstants.{FAULT_LIMIT}
use Rattle.overlay_setup.proofs.DaemonNames.{found_by_name}
use Rattle.script_text.specs.Grammar.{IsModeOf, IsNamedDaemon, IsStreamOf, IsLossOf, IsWritten, AreDaemonNames, IsGoodStreamLine, IsGoodLoseLine, IsGoodLine, IsAcceptable, stream_lines, lose_lines}
use Rattle.script_text.specs.Invariants.{ParserInvariant}
use Rattle.script_text.specs.Losses.{as_lost, lost_node, fault_of, with_fault}
use Rattle.script_text.specs.Numbers.{in_range, number_from}
use Rattle.script_text.specs.Streams.{mode_of, daemon_of, with_named, all_daemons, daemons_of, stream_of, with_stream}
use Rattle.script_text.specs.Whole.{with_line, whole, script_of}
use Rattle.script_text.specs.Words.{ModeWords, WaitForAll, TimeOut, DontWait, StreamWords, LoseWords, stream_words, lose_words}
use Rattle.script_text.proofs.Grammar.{AddsStreams, AddsLosses, written, is_written, line_of, accepted_parsed}
use Rattle.script_text.proofs.InvariantLemmas.{AreDaemons, daemons_holds, nothing_holds, lines_holds}
use Rattle.script_text.proofs.LineViews.{AddsStream, AddsLoss, Changes, changes, daemons_inv}
use Rattle.script_text.proofs.Losses.{fault_good}
use Rattle.script_text.proofs.NodeLists.{some_first}
use Rattle.script_text.proofs.Streams.{number_new, waits, passes, times, named_none, named_next, on_all, on_names, stream_good}
use Rattle.script_text.proofs.WholeScript.{stream_one, lose_one, words_stream, words_lose, line_skipped, line_by_words, script_good}

-- lists that ascend by a number of each item are one where they have the same items
module _ {X : Type 0} (number : X → ℕ) where
  abbrev Increases : List X → Type 0
  Increases xs = IsStrictlyIncreasing (map number xs)

  in_map : (z : X) (ys : List X) → In z ys → In (number z) (map number ys)
  in_map z [] h = absurd h
  in_map z (y ∷ ys) (inl e) = inl (ap number e)
  in_map z (y ∷ ys) (inr h) = inr (in_map z ys h)

  same_first : (x y : X) (xs ys : List X) → Increases (x ∷ xs) → Increases (y ∷ ys) → In x (y ∷ ys) → In y (x ∷ xs) → x ≡ y
  same_first x y xs ys a b (inl e) there = e
  same_first x y xs ys a b (inr h) (inl e) = sym e
  same_first x y xs ys a b (inr h) (inr k) =
      let one = b.0 (number x) (in_map x ys h) in
      let other = a.0 (number y) (in_map y xs k) in
      absurd (omega (arith, one, other))

  in_rest : (x y z : X) (xs ys : List X) → x ≡ y → Increases (x ∷ xs) → In z xs → In z (y ∷ ys) → In z ys
  in_rest x y z xs ys e a h (inl same) =
      let lt = a.0 (number z) (in_map z xs h) in
      let n : number z ≡ number x = ap number (same ∙ sym e) in
      absurd (omega (arith, lt, n))
  in_rest x y z xs ys e a h (inr there) = there

  same_items : (xs ys : List X) → Increases xs → Increases ys → ((z : X) → In z xs → In z ys) → ((z : X) → In z ys → In z xs) → xs ≡ ys
  same_items [] [] a b to from = refl
  same_items [] (y ∷ ys) a b to from = absurd (from y (inl refl))
  same_items (x ∷ xs) [] a b to from = absurd (to x (inl refl))
  same_items (x ∷ xs) (y ∷ ys) a b to from =
      let first : x ≡ y = same_first x y xs ys a b (to x (inl refl)) (from y (inl refl)) in
      let rest : xs ≡ ys = same_items xs ys a.1 b.1 (λ z h. in_rest x y z xs ys first a h (to z (inr h))) (λ z h. in_rest y x z ys xs (sym first) b h (from z (inr h))) in
      (λ i. first i ∷ rest i)

  -- whether no item has a number
  no_other : (n : ℕ) (xs : List X) → ((x : X) → In x xs → number x ≢ n) → list_any (λ x. nat_eq (number x) n) xs ≡ false
  no_other n [] each = refl
  no_other n (x ∷ xs) each = (λ i. ne_eqb (number x) n (each x (inl refl)) i || no_other n xs (λ y h. each y (inr h)) i)

  or_false : (a b : Bool) → (a || b) ≡ false → (a ≡ false) × (b ≡ false)
  or_false true b e = cc
  or_false false b e = (refl, e)

  each_other : (n : ℕ) (xs : List X) → list_any (λ x. nat_eq (number x) n) xs ≡ false → (x : X) → In x xs → number x ≢ n
  each_other n [] none x h is = absurd h
  each_other n (y ∷ ys) none x (inl same) is = true≢false (sym (eq-eqb (number y) n (ap number (sym same) ∙ is)) ∙ (or_false _ _ none).0)
  each_other n (y ∷ ys) none x (inr h) is = each_other n ys (or_false _ _ none).1 x h is

map_same : (xs : List ℕ) → map (λ n. n) xs ≡ xs
map_same [] = refl
map_same (x ∷ xs) = ap (λ t. x ∷ t) (map_same xs)

same_numbers : (xs ys : List ℕ) → IsStrictlyIncreasing xs → IsStrictlyIncreasing ys → ((n : ℕ) → In n xs → In n ys) → ((n : ℕ) → In n ys → In n xs) → xs ≡ ys
same_numbers xs ys a b to from = same_items (λ n. n) xs ys (subst IsStrictlyIncreasing (sym (map_same xs)) a) (subst IsStrictlyIncreasing (sym (map_same ys)) b) to from

-- a line is that of one stream, or of one loss
some_is : {A : Type 0} (o : Option A) (x y : A) → o ≡ Some x → o ≡ Some y → x ≡ y
some_is o x y a b = let e = sym a ∙ b in cc

same_mode : (w : ModeWords) (m n : Mode) → IsModeOf w m → IsModeOf w n → m ≡ n
same_mode WaitForAll m n a b = a ∙ sym b
same_mode (TimeOut ticks) m n a b = let t : a.0 ≡ b.0 = some_is (number_in ticks) a.0 b.0 a.1 b.1 in a.2 ∙ ap mode.TimeOut t ∙ sym b.2
same_mode DontWait m n a b = a ∙ sym b

same_stream : (t : Nodes) (line : List ℕ) (x y : Stream) → IsStreamOf t line x → IsStreamOf t line y → x ≡ y
same_stream t line x y a b =
    let ws = sym a.is ∙ b.is in
    let rest : a.rest ≡ b.rest = cc in
    let of : a.words_of ≡ b.words_of = some_is (stream_words a.rest) a.words_of b.words_of a.form (ap stream_words rest ∙ b.form) in
    let number : x.number ≡ y.number = some_is (number_in a.words_of.number) x.number y.number a.number (ap (λ (w : StreamWords). number_in w.number) of ∙ b.number) in
    let m : x.mode ≡ y.mode = same_mode a.words_of.mode x.mode y.mode a.mode (subst (λ (w : StreamWords). IsModeOf w.mode y.mode) (sym of) b.mode) in
    let waves : x.waves ≡ y.waves = some_is (number_in a.words_of.waves) x.waves y.waves a.waves (ap (λ (w : StreamWords). number_in w.waves) of ∙ b.waves) in
    let samples : x.samples ≡ y.samples = some_is (number_in a.words_of.samples) x.samples y.samples a.samples (ap (λ (w : StreamWords). number_in w.samples) of ∙ b.samples) in
    let grain : x.grain ≡ y.grain = sym a.grain ∙ ap (λ (w : StreamWords). w.grain) of ∙ b.grain in
    let there : (n : ℕ) → In n y.daemons ↔ IsNamedDaemon t a.words_of.names n = subst (λ (w : StreamWords). (n : ℕ) → In n y.daemons ↔ IsNamedDaemon t w.names n) (sym of) b.daemons in
    let daemons : x.daemons ≡ y.daemons = same_numbers x.daemons y.daemons a.daemons_increase b.daemons_increase (λ n h. (there n).1 ((a.daemons n).0 h)) (λ n h. (a.daemons n).1 ((there n).0 h)) in
    (λ i. stream (number i) (m i) (waves i) (samples i) (grain i) (daemons i))

abbrev loss_of : ℕ → ℕ → ℕ → Fault
loss_of node after keep = record { node = node; after = after; keep = keep }

same_loss : (t : Nodes) (line : List ℕ) (f g : Fault) → IsLossOf t line f → IsLossOf t line g → f ≡ g
same_loss t line f g a b =
    let ws = sym a.is ∙ b.is in
    let rest : a.rest ≡ b.rest = cc in
    let of : a.words_of ≡ b.words_of = some_is (lose_words a.rest) a.words_of b.words_of a.form (ap lose_words rest ∙ b.form) in
    let node : f.node ≡ g.node = some_is (number_of a.words_of.name t.names) f.node g.node a.node (ap (λ (w : LoseWords). number_of w.name t.names) of ∙ b.node) in
    let after : f.after ≡ g.after = some_is (number_in a.words_of.after) f.after g.after a.after (ap (λ (w : LoseWords). number_in w.after) of ∙ b.after) in
    let keep : f.keep ≡ g.keep = some_is (number_in a.words_of.keep) f.keep g.keep a.keep (ap (λ (w : LoseWords). number_in w.keep) of ∙ b.keep) in
    (λ i. loss_of (node i) (after i) (keep i))

-- numbers in their ranges
number_ok : (line least most : ℕ) (more : TextError) (word : List ℕ) (n : ℕ) → number_in word ≡ Some n → least ≤ n → n ≤ most → number_from line least most more word ≡ Ok n
unfolding number_from
number_ok line least most more word n e low high = ap (in_range line least most more) e ∙ rw (le-ltb n least low) (rw (le-ltb most n high) refl)

mode_ok : (line : ℕ) (w : ModeWords) (m : Mode) → IsModeOf w m → IsMode m → mode_of line w ≡ Ok m
mode_ok line WaitForAll m of range = waits line ∙ ap Ok (sym of)
mode_ok line (TimeOut ticks) m of range =
    let r = subst IsMode of.2 range in
    times line ticks of.0 (number_ok line 1 1000 (Bad line BadNumber) ticks of.0 of.1 r.0 r.1) ∙ ap Ok (sym of.2)
mode_ok line DontWait m of range = passes line ∙ ap Ok (sym of)

-- names of daemons are looked up
module _ (t : Nodes) (is : IsTopology t) (line : ℕ) where
  daemon_ok : (name : List ℕ) (n : ℕ) → IsDaemonNamed t name n → daemon_of t line name ≡ Ok n
  unfolding daemon_of
  daemon_ok name n at = ap (some_or (Bad line NotADaemon)) ((found_by_name t is name n).1 at)

  looked_up : (names : List (List ℕ)) → ((name : List ℕ) → In name names → (n : ℕ) × IsDaemonNamed t name n) → (ds : List ℕ) → (es : List ℕ) × (with_named t line ds names ≡ Ok es)
  looked_up [] each ds = (ds, named_none t line ds [] refl)
  looked_up (name ∷ names) each ds =
      let d = each name (inl refl) in
      let more = looked_up names (λ other h. each other (inr h)) (with_number d.0 ds) in
      (more.0, named_next t line ds (name ∷ names) name names d.0 refl (daemon_ok name d.0 d.1) ∙ more.1)

  some_daemons : (names : List (List ℕ)) → AreDaemonNames t names → names ≢ [] → (ds : List ℕ) × (daemons_of t line names ≡ Ok ds)
  some_daemons [] are some = absurd (some refl)
  some_daemons (name ∷ names) are some = by (bytes_eq name (codes "all")) refl are
    where
      by : (b : Bool) → bytes_eq name (codes "all") ≡ b → AreDaemonNames t (name ∷ names) → (ds : List ℕ) × (daemons_of t line (name ∷ names) ≡ Ok ds)
      by true e are = (all_daemons t, on_all t line (name ∷ names) name names refl e)
      by false e (inl all) = absurd (true≢false (sym all ∙ e))
      by false e (inr each) = let found = looked_up (name ∷ names) each [] in (found.0, on_names t line (name ∷ names) name names refl e ∙ found.1)

  some_in : (xs : List ℕ) → xs ≢ [] → (n : ℕ) × In n xs
  some_in [] some = absurd (some refl)
  some_in (x ∷ xs) some = (x, inl refl)

  some_name : (names : List (List ℕ)) (n : ℕ) → IsNamedDaemon t names n → names ≢ []
  some_name [] n d = absurd (elim d.1 [ (inl all) ↦ true≢false (sym all) | (inr one) ↦ one ])
  some_name (name ∷ names) n d = some_first name names

  daemons_ok : (names : List (List ℕ)) (xs : List ℕ) → AreDaemonNames t names → xs ≢ [] → IsStrictlyIncreasing xs → ((n : ℕ) → In n xs ↔ IsNamedDaemon t names n) → daemons_of t line names ≡ Ok xs
  daemons_ok names xs are some increase of =
      let n = some_in xs some in
      let ds = some_daemons names are (some_name names n.0 ((of n.0).0 n.1)) in
      let known = subst (λ r. IfOk r (AreDaemons t)) ds.1 (daemons_holds t is line names) in
      let found = daemons_inv t is line names ds.0 ds.1 in
      let same : ds.0 ≡ xs = same_numbers ds.0 xs known.increasing increase (λ n h. (of n).1 ((found n).0 h)) (λ n h. (found n).1 ((of n).0 h)) in
      ds.1 ∙ ap Ok same

  -- a stream and a loss in their ranges
  stream_ok : (streams : List Stream) (text : List ℕ) (x : Stream) (of : IsStreamOf t text x) → AreDaemonNames t of.words_of.names → IsStream x → list_any (λ y. nat_eq y.number x.number) streams ≡ false → stream_of t streams line of.words_of ≡ Ok x
  stream_ok streams text x of names range new =
      let low = range.number in
      let number = number_new streams line of.words_of.number x.number (number_ok line 0 7 (Over line Streams 8) of.words_of.number x.number of.number zero-le (omega (arith, low))) new in
      let waves = number_ok line 1 16 (Over line Waves 16) of.words_of.waves x.waves of.waves range.has_waves range.waves_within_limit in
      let samples = number_ok line 1 64 (Bad line BadNumber) of.words_of.samples x.samples of.samples range.has_samples range.samples_within_limit in
      stream_good t streams line of.words_of x.number number x.mode (mode_ok line of.words_of.mode x.mode of.mode range.mode) x.waves waves x.samples samples x.daemons (daemons_ok of.words_of.names x.daemons names range.has_daemons of.daemons_increase of.daemons)
      ∙ ap (λ g. Ok (stream x.number x.mode x.waves x.samples g x.daemons)) of.grain

  lost_ok : (faults : List Fault) (name : List ℕ) (n : ℕ) → number_of name t.names ≡ Some n → length faults < FAULT_LIMIT → n ≢ root_of t.parents → list_any (λ f. nat_eq f.node n) faults ≡ false → lost_node t faults line name ≡ Ok n
  unfolding lost_node
  lost_ok faults name n e few other new =
      ap (λ b. cond b (Err (Over line Faults FAULT_LIMIT)) (as_lost t faults line (number_of name t.names))) (lt-leb FAULT_LIMIT (length faults) few)
      ∙ ap (as_lost t faults line) e
      ∙ ap (λ b. cond b (Err (Bad line LosesFront)) (cond (list_any (λ f. nat_eq f.node n) faults) (Err (Bad line SecondLoss)) (Ok n))) (ne_eqb n (root_of t.parents) other)
      ∙ ap (λ b. cond b (Err (Bad line SecondLoss)) (Ok n)) new

  loss_ok : (faults : List Fault) (text : List ℕ) (f : Fault) (of : IsLossOf t text f) → IsFault f → f.node ≢ root_of t.parents → length faults < FAULT_LIMIT → list_any (λ g. nat_eq g.node f.node) faults ≡ false → fault_of t faults line of.words_of ≡ Ok f
  loss_ok faults text f of range other few new =
      fault_good t faults line of.words_of f.node (lost_ok faults of.words_of.name f.node of.node few other new)
      f.after (number_ok line 0 65535 (Bad line BadNumber) of.words_of.after f.after of.after zero-le range.after)
      f.keep (number_ok line 0 65535 (Bad line BadNumber) of.words_of.keep f.keep of.keep zero-le range.keep)

-- a line with these words says something
says : (line first : List ℕ) (rest : List (List ℕ)) → is_comment line ≡ false → words line ≡ first ∷ rest → says_nothing line ≡ false
says line first rest comment is = (λ i. comment i || are_none (is i))

module _ (t : Nodes) (u : Scripted) (number : ℕ) (line : List ℕ) (comment : is_comment line ≡ false) where
  stream_taken : (x : Stream) (of : IsStreamOf t line x) → stream_of t u.streams number of.words_of ≡ Ok x → with_line t u number line ≡ Ok (scripted (with_stream x u.streams) u.faults)
  stream_taken x of h =
      line_by_words t u number line (says line (codes "stream") of.rest comment of.is)
      ∙ words_stream t u number (words line) (codes "stream") of.rest of.is refl
      ∙ stream_one t u number (stream_words of.rest) of.words_of x (with_stream x u.streams) (sym of.form) h refl

  loss_taken : (f : Fault) (of : IsLossOf t line f) → fault_of t u.faults number of.words_of ≡ Ok f → with_line t u number line ≡ Ok (scripted u.streams (with_fault f u.faults))
  loss_taken f of h =
      line_by_words t u number line (says line (codes "lose") of.rest comment of.is)
      ∙ words_lose t u number (words line) (codes "lose") of.rest of.is refl refl
      ∙ lose_one t u number (lose_words of.rest) of.words_of f (with_fault f u.faults) (sym of.form) h refl

abbrev loses : List ℕ → Bool
loses line = is_line_of (codes "lose") line

-- a line after those that are parsed
module _ (t : Nodes) (topology : IsTopology t) (before : List (List ℕ)) (u : Scripted) (parsed : parsed_lines (with_line t) (scripted [] []) 1 before ≡ Ok u) where
  so_far : AddsStreams t before [] u.streams × AddsLosses t before [] u.faults
  so_far = written t topology before (scripted [] []) u 1 parsed

  stream_from : (x : Stream) → In x u.streams → (line : List ℕ) × In line (stream_lines before) × IsStreamOf t line x
  stream_from x h = elim (so_far.0.to x h) [ (inl old) ↦ absurd old | (inr new) ↦ new ]

  loss_from : (f : Fault) → In f u.faults → (line : List ℕ) × In line (lose_lines before) × IsLossOf t line f
  loss_from f h = elim (so_far.1.to f h) [ (inl old) ↦ absurd old | (inr new) ↦ new ]

  module _ (line : List ℕ) where
    abbrev IsTaken : Type 0
    IsTaken = (m : Scripted) × ((number : ℕ) → with_line t u number line ≡ Ok m)

    good_stream_taken : IsGoodStreamLine t before line → IsTaken
    good_stream_taken g =
        let x = g.defined in
        let new : list_any (λ (y : Stream). nat_eq y.number x.number) u.streams ≡ false =
        no_other (λ (y : Stream). y.number) x.number u.streams (λ y h. let f = stream_from y h in g.new f.0 y f.1 f.2) in
        (scripted (with_stream x u.streams) u.faults, λ number. stream_taken t u number line g.comment x g.is (stream_ok t topology number u.streams line x g.is g.names g.range new))

    good_loss_taken : IsGoodLoseLine t before line → length (lose_lines before) < FAULT_LIMIT → IsTaken
    good_loss_taken g few =
        let f = g.loss in
        let count = so_far.1.count in
        let new : list_any (λ (h : Fault). nat_eq h.node f.node) u.faults ≡ false =
        no_other (λ (h : Fault). h.node) f.node u.faults (λ h there. let k = loss_from h there in g.new k.0 h k.1 k.2) in
        (scripted u.streams (with_fault f u.faults), λ number. loss_taken t u number line g.comment f g.is (loss_ok t topology number u.faults line f g.is g.range g.not_front (omega (arith, count, few)) new))

    -- a good line is taken
    good_taken : IsGoodLine t before line → (loses line ≡ true → length (lose_lines before) < FAULT_LIMIT) → IsTaken
    good_taken (inl quiet) few = (u, λ number. line_skipped t u number line quiet)
    good_taken (inr (inl g)) few = good_stream_taken g
    good_taken (inr (inr g)) few = good_loss_taken g (few (line_of (codes "lose") line (codes "lose") g.is.rest g.comment g.is.is))

    -- a line that is taken is good
    stream_is_good : (m : Scripted) → AddsStream t u line m → IsGoodStreamLine t before line
    stream_is_good m h = record {
      comment = h.comment;
      defined = h.new;
      is = h.is;
      names = h.names;
      range = h.first.is;
      new = λ earlier x there of same. (let z = so_far.0.from earlier there in
          each_other (λ (y : Stream). y.number) h.new.number u.streams h.first.new z.0 z.1 (ap (λ (y : Stream). y.number) (same_stream t earlier z.0 x z.2 of) ∙ same));
    }

    loss_is_good : (m : Scripted) → AddsLoss t u line m → IsGoodLoseLine t before line
    loss_is_good m h = record {
      comment = h.comment;
      loss = h.new;
      is = h.is;
      range = h.first.ranges;
      not_front = h.first.other;
      new = λ earlier f there of same. (let z = so_far.1.from earlier there in
          each_other (λ (g : Fault). g.node) h.new.node u.faults h.first.new z.0 z.1 (ap (λ (g : Fault). g.node) (same_loss t earlier z.0 f z.2 of) ∙ same));
    }

    is_good : (m : Scripted) → Changes t u line m → IsGoodLine t before line
    is_good m (inl quiet) = inl quiet.0
    is_good m (inr (inl h)) = inr (inl (stream_is_good m h))
    is_good m (inr (inr h)) = inr (inr (loss_is_good m h))

-- fewer `lose` lines stand before one of them than in all
fewer : (before after : List (List ℕ)) (line : List ℕ) → loses line ≡ true → length (filter loses before) < length (filter loses (before ++ line ∷ after))
fewer before after line is =
    let all = ap length (filter-append loses before (line ∷ after)) in
    let parts = length-append (filter loses before) (filter loses (line ∷ after)) in
    let here : length (filter loses (line ∷ after)) ≡ suc (length (filter loses after)) = ap (λ b. length (cond b (line ∷ filter loses after) (filter loses after))) is in
    omega (arith, all, parts, here)

-- what is written is one thing
module _ (t : Nodes) (text : List ℕ) where
  streams_to : (c d : Scripted) → IsWritten t text c → IsWritten t text d → (x : Stream) → In x c.streams → In x d.streams
  streams_to c d one other x h =
      let l = one.streams x h in
      let y = other.of_stream_lines l.0 l.1 in
      subst (λ z. In z d.streams) (same_stream t l.0 y.0 x y.2 l.2) y.1

  losses_to : (c d : Scripted) → IsWritten t text c → IsWritten t text d → (f : Fault) → In f c.faults → In f d.faults
  losses_to c d one other f h =
      let l = one.losses f h in
      let g = other.of_lose_lines l.0 l.1 in
      subst (λ z. In z d.faults) (same_loss t l.0 g.0 f g.2 l.2) g.1

  same_written : (c d : Scripted) → IsWritten t text c → IsWritten t text d → c ≡ d
  same_written c d one other =
      let streams : c.streams ≡ d.streams = same_items (λ (x : Stream). x.number) c.streams d.streams one.streams_increase other.streams_increase (streams_to c d one other) (streams_to d c other one) in
      let losses : c.faults ≡ d.faults = same_items (λ (f : Fault). f.node) c.faults d.faults one.losses_increase other.losses_increase (losses_to c d one other) (losses_to d c other one) in
      (λ i. scripted (streams i) (losses i))

-- a script with a stream is whole
whole_ok : (c : Scripted) → c.streams ≢ [] → whole c ≡ Ok c
whole_ok c some = by c.streams some
  where
    by : (xs : List Stream) → xs ≢ [] → whole (scripted xs c.faults) ≡ Ok (scripted xs c.faults)
    by [] some = absurd (some refl)
    by (x ∷ xs) some = refl

module _ (t : Nodes) (topology : IsTopology t) (text : List ℕ) (c : Scripted) where
  -- the lines of an acceptable text are taken, one after another
  all_taken : IsAcceptable t text c → (after before : List (List ℕ)) (u : Scripted) → parsed_lines (with_line t) (scripted [] []) 1 before ≡ Ok u → lines text ≡ before ++ after → (v : Scripted) × (parsed_lines (with_line t) (scripted [] []) 1 (lines text) ≡ Ok v)
  all_taken a [] before u h is = (u, ap (parsed_lines (with_line t) (scripted [] []) 1) (is ∙ append-nil before) ∙ h)
  all_taken a (line ∷ after) before u h is =
      let next = good_taken t topology before u h line (a.good_lines before after line is) (λ k. let more = fewer before after line k in let same = ap (λ ls. length (filter loses ls)) is in let limit = a.within_limit in omega arith) in
      all_taken a after (before ++ line ∷ []) next.0 (parsed_then (with_line t) before (scripted [] []) 1 u next.0 line h next.1) (is ∙ append_one before line after)

  -- an acceptable text is accepted
  pub acceptable : IsAcceptable t text c → script_of t text ≡ Ok c
  acceptable a =
      let p = all_taken a (lines text) [] (scripted [] []) (parsed_none (with_line t) (scripted [] []) 1) refl in
      let u : Scripted = p.0 in
      let same : u ≡ c = same_written t text u c (is_written t topology text u p.1) a.form in
      script_good t text u p.1 ∙ ap whole same ∙ whole_ok c a.some_stream

  -- an accepted text is acceptable
  pub is_acceptable : script_of t text ≡ Ok c → IsAcceptable t text c
  is_acceptable h =
      let p = accepted_parsed t text c h in
      let form = is_written t topology text c p.0 in
      let kept = subst (λ r. IfOk r (ParserInvariant t)) p.0 (lines_holds t topology (lines text) (scripted [] []) 1 (nothing_holds t)) in
      record {
        form = form;
        good_lines = λ before after line is. (let b = parsed_split (with_line t) before (scripted [] []) 1 c line after (ap (parsed_lines (with_line t) (scripted [] []) 1) (sym is) ∙ p.0) in
            is_good t topology before b.0 b.1 line b.2.1 (changes t topology b.0 b.2.1 b.2.0 line b.2.2));
        within_limit = (let few = kept.faults_limit in let same = form.loss_count in omega arith);
        some_stream = p.1;
      }

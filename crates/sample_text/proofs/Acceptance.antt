-- A text whose lines are good is accepted, and an accepted text is acceptable.
use Rattle.std.proofs.Common.{◌≡◌, ◌≢◌, ◌∙◌, ◌⊎◌, inl, inr, ◌<◌, ◌+◌, ℕ, suc, Bool, true, false, ◌||◌, ◌&&◌, cond, List, [], ◌∷◌, ◌++◌, length, length-append, filter, get_or, Option, Some, Ok, refl, sym, ap, subst, arith, codes, eqb-true}
use Rattle.std.specs.Str.{IsUtf8}
use Rattle.std.proofs.lemmas.Bool.{true≢false}
use Rattle.std.proofs.lemmas.List.{ext_get_or, append-nil}
use Rattle.std.proofs.lemmas.List.Elements.{filter-append}
use Rattle.rank_set.specs.Ranks.{Ranks, none, has, Has, is_empty, has-none, same_ranks, subset_from, subset_has, none_from_size}
use Rattle.rank_set.specs.RanksText.{ranks_text}
use Rattle.call_path.specs.Path.{Path}
use Rattle.call_path.specs.Reading.{path_of, frames, first_error, frame_error}
use Rattle.text_lines.specs.Lines.{lines, words, is_comment, after_blanks, after_word, number_in}
use Rattle.text_lines.specs.Directives.{is_line_of}
use Rattle.text_lines.specs.Parsing.{parsed_lines, some_or}
use Rattle.text_lines.specs.declared.text_error.TextError.TheVariants.{Bad}
use Rattle.text_lines.specs.declared.text_error.Reason.TheVariants.{NotADaemon}
use Rattle.text_lines.proofs.Cuts.{past_blanks, word_here}
use Rattle.text_lines.proofs.Parsing.{parsed_none, parsed_then, parsed_split, append_one}
use Rattle.overlay_setup.specs.Daemons.{daemon_named}
use Rattle.overlay_setup.specs.Names.{name_of}
use Rattle.stat_plan.specs.Plans.{Sampled, sampled}
use Rattle.stat_plan.specs.Samples.{SampleLine, all_ranks}
use Rattle.overlay_setup.specs.Topologies.{Nodes, IsTopology}
use Rattle.overlay_setup.specs.Trees.{is_daemon}
use Rattle.stat_plan.specs.declared.samples.TheConstants.{LINE_LIMIT}
use Rattle.overlay_setup.proofs.DaemonNames.{found_by_name}
use Rattle.sample_text.specs.Grammar.{IsDaemonLine, SomePlacesRank, IsPlacedBy, IsSampleOf, AreSamplesOf, IsWritten, IsGoodDaemonLine, IsGoodStackLine, IsGoodLine, IsAcceptable, stack_lines}
use Rattle.sample_text.specs.Words.{LineView, Nothing, Daemon, Stack, path_in, directive, read_line}
use Rattle.sample_text.specs.Steps.{daemon_on, add_at, sample, with_line_view, with_line}
use Rattle.sample_text.specs.Whole.{nothing_parsed, lacks_rank, whole, samples_of_text}
use Rattle.sample_text.proofs.InvariantLemmas.{holds_after, fits}
use Rattle.sample_text.proofs.LineViews.{AddsRanks, AddsSample, Changes, changes}
use Rattle.sample_text.proofs.Numbers.{time_good}
use Rattle.text_lines.proofs.RanksWords.{ranks_good}
use Rattle.sample_text.proofs.LineWords.{line_of_nothing, line_of_words, says_words}
use Rattle.sample_text.proofs.Lines.{whole_good, samples_good}
use Rattle.sample_text.proofs.Sets.{has-all_ranks, in_one, in_some, not_in_both, disjoint_from, empty_sets_empty, length-empty_sets}
use Rattle.sample_text.proofs.Steps.{daemon_good, stack_good, line_good}
use Rattle.sample_text.proofs.Texts.{path_good}
use Rattle.sample_text.proofs.Grammar.{Written, written, is_written, accepted_parsed, sample_is_stack}

-- the words after the first one
rest_words : (line word : List ℕ) (ws : List (List ℕ)) → words line ≡ word ∷ ws → words (after_word line) ≡ ws
unfolding words
rest_words line word ws e = by (after_blanks line) refl
  where
    by : (left : List ℕ) → after_blanks line ≡ left → words (after_word line) ≡ ws
    by [] none = let h = sym e ∙ past_blanks line ∙ ap words none in cc
    by (b ∷ left) some = let h = sym e ∙ word_here line (subst (λ t. 0 < length t) (sym some) (omega arith)) in cc

-- no text is a path
no_path : (path : Path) → path_of [] ≡ Ok path → ⊥
unfolding frames first_error frame_error
no_path path e = cc

-- where a path is read behind words, there is a word more
path_word : (line word time ranks : List ℕ) (more : List (List ℕ)) (path : Path) → words line ≡ word ∷ time ∷ ranks ∷ more → path_of (after_blanks (after_word (after_word (after_word line)))) ≡ Ok path → (first : List ℕ) × (rest : List (List ℕ)) × (more ≡ first ∷ rest)
path_word line word time ranks (first ∷ rest) path is read = (first, rest, refl)
path_word line word time ranks [] path is read = by (after_blanks third) refl
  where
    third : List ℕ
    third = after_word (after_word (after_word line))

    none : words third ≡ []
    none = rest_words (after_word (after_word line)) ranks [] (rest_words (after_word line) time (ranks ∷ []) (rest_words line word (time ∷ ranks ∷ []) is))

    by : (left : List ℕ) → after_blanks third ≡ left → (first : List ℕ) × (rest : List (List ℕ)) × ([] ≡ first ∷ rest)
    by [] e = absurd (no_path path (ap path_of (sym e) ∙ read))
    by (b ∷ left) e = let h = sym none ∙ word_here third (subst (λ t. 0 < length t) (sym e) (omega arith)) in cc

-- a line with the words of a good line is read as such
daemon_read : (line name word : List ℕ) → IsUtf8 line → IsDaemonLine line name word → (number : ℕ) → read_line number line ≡ Ok (Daemon name word)
daemon_read line name word utf8 is number =
    line_of_words number line (says_words line (codes "daemon") (name ∷ word ∷ []) is.0 is.1) utf8 ∙ ap (directive number line) is.1

stack_read : (line : List ℕ) (x : SampleLine) → IsUtf8 line → is_comment line ≡ false → (is : IsSampleOf line x) → (number : ℕ) → read_line number line ≡ Ok (Stack is.time_word is.ranks_word (path_in (after_word line)))
stack_read line x utf8 comment is number =
    let more = path_word line (codes "stack") is.time_word is.ranks_word is.more x.path is.is is.path in
    line_of_words number line (says_words line (codes "stack") (is.time_word ∷ is.ranks_word ∷ is.more) comment is.is) utf8
    ∙ ap (directive number line) (is.is ∙ ap (λ ws. codes "stack" ∷ is.time_word ∷ is.ranks_word ∷ ws) more.2)

-- words as they are read on a line
named_good : (t : Nodes) (number : ℕ) (name : List ℕ) (n : ℕ) → daemon_named name t ≡ Some n → daemon_on t number name ≡ Ok n
unfolding daemon_on
named_good t number name n e = ap (some_or (Bad number NotADaemon)) e

abbrev stack : List ℕ → Bool
stack line = is_line_of (codes "stack") line

same_sample : (line : List ℕ) (x y : SampleLine) → IsSampleOf line x → IsSampleOf line y → x ≡ y
same_sample line x y a b =
    let ws = sym a.is ∙ b.is in
    let time_word : a.time_word ≡ b.time_word = cc in
    let ranks_word : a.ranks_word ≡ b.ranks_word = cc in
    let times = sym a.time ∙ ap number_in time_word ∙ b.time in
    let sets = sym a.ranks ∙ ap ranks_text ranks_word ∙ b.ranks in
    let paths = sym a.path ∙ b.path in
    let time : x.time ≡ y.time = cc in
    let ranks : x.ranks ≡ y.ranks = cc in
    let path : x.path ≡ y.path = cc in
    (λ i. sample (time i) (ranks i) (path i))

same_test : (a b : Bool) → (a ≡ true → b ≡ true) → (b ≡ true → a ≡ true) → a ≡ b
same_test true b to from = sym (to refl)
same_test false true to from = from refl
same_test false false to from = refl

-- as many samples as `stack` lines
same_length : (ls : List (List ℕ)) (xs : List SampleLine) → AreSamplesOf ls xs → length ls ≡ length xs
same_length [] [] are = refl
same_length [] (x ∷ xs) are = absurd are
same_length (l ∷ ls) [] are = absurd are
same_length (l ∷ ls) (x ∷ xs) are = ap suc (same_length ls xs are.1)

module _ (t : Nodes) (topology : IsTopology t) (before : List (List ℕ)) (u : Sampled) (parsed : parsed_lines (with_line t) (nothing_parsed t) 1 before ≡ Ok u) where
  so_far : Written t before (nothing_parsed t) u
  so_far = written t topology before (nothing_parsed t) u 1 (length-empty_sets (length t.parents)) parsed

  paired : length u.placed ≡ length t.parents
  paired = (holds_after t u before parsed).paired

  lines_length : length u.lines ≡ length (filter stack before)
  lines_length = let xs = so_far.samples in ap length (sym xs.1) ∙ sym (same_length (filter stack before) xs.0 xs.2)

  -- the ranks that are placed are those that lines place
  placed_to : (r : ℕ) → IsPlacedBy t before r → Has r (all_ranks u.placed)
  placed_to r p = has-all_ranks u.placed r ∙ in_one u.placed p.0 r (so_far.placed_from p.0 r p.1 (inr p.2))

  placed_from : (r : ℕ) → Has r (all_ranks u.placed) → IsPlacedBy t before r
  placed_from r there =
      let m = in_some u.placed r (sym (has-all_ranks u.placed r) ∙ there) in
      let lt = m.1 in
      let low : m.0 < length t.parents = omega (arith, lt, paired) in
      (m.0, low, by m.0 (so_far.placed_to m.0 r low m.2))
    where
      by : (n : ℕ) → Has r (get_or (nothing_parsed t).placed n none) ⊎ SomePlacesRank t before n r → SomePlacesRank t before n r
      by n (inl old) = absurd (true≢false (sym old ∙ ap (λ x. has x r) (empty_sets_empty (length t.parents) n) ∙ has-none r))
      by n (inr new) = new

  module _ (line : List ℕ) where
    abbrev IsTaken : Type 0
    IsTaken = (m : Sampled) × ((number : ℕ) → with_line t u number line ≡ Ok m)

    is_taken : (view : LineView) (m : Sampled) → ((number : ℕ) → read_line number line ≡ Ok view) → ((number : ℕ) → with_line_view t u number view ≡ Ok m) → IsTaken
    is_taken view m read next = (m, λ number. line_good t u number line view (read number) ∙ next number)

    daemon_taken : IsUtf8 line → IsGoodDaemonLine t before line → IsTaken
    daemon_taken utf8 g =
        let name = name_of t.names g.node in
        is_taken (Daemon name g.word) (record u { placed = add_at u.placed g.node g.ranks }) (daemon_read line name g.word utf8 g.is)
        (λ number. daemon_good t u number name g.word g.node (named_good t number name g.node ((found_by_name t topology name g.node).1 (g.daemon.0, refl, g.daemon.1)))
        g.ranks (ranks_good number g.word g.ranks g.read)
        (disjoint_from g.ranks (all_ranks u.placed) (λ r new old. g.new r new (placed_from r old))))

    stack_taken : IsUtf8 line → IsGoodStackLine t before line → length (filter stack before) < LINE_LIMIT → IsTaken
    stack_taken utf8 g few =
        let x = g.sample in
        let is = g.is in
        is_taken (Stack is.time_word is.ranks_word (path_in (after_word line))) (record u { lines = u.lines ++ x ∷ [] }) (stack_read line x utf8 g.comment is)
        (λ number. stack_good u number is.time_word is.ranks_word (path_in (after_word line)) (omega (arith, lines_length, few))
        x.time (time_good number is.time_word x.time is.time g.time)
        x.ranks (ranks_good number is.ranks_word x.ranks is.ranks)
        (subset_from x.ranks (all_ranks u.placed) (λ r there. placed_to r (g.placed r there)))
        x.path (path_good number (path_in (after_word line)) x.path is.path))

    -- a good line is taken
    good_taken : IsGoodLine t before line → (stack line ≡ true → length (filter stack before) < LINE_LIMIT) → IsTaken
    good_taken (inl quiet) few = is_taken Nothing u (λ number. line_of_nothing number line quiet) (λ number. refl)
    good_taken (inr (utf8, inl g)) few = daemon_taken utf8 g
    good_taken (inr (utf8, inr g)) few = stack_taken utf8 g (few (sample_is_stack line g.sample g.comment g.is))

    -- a line that is taken is good
    daemon_is_good : (m : Sampled) → AddsRanks t u line m → IsGoodDaemonLine t before line
    daemon_is_good m h =
        let at = (found_by_name t topology h.name h.node).0 h.named in
        record {
          node = h.node;
          daemon = (at.0, at.2);
          word = h.word;
          is = subst (λ name. IsDaemonLine line name h.word) (sym at.1) h.is;
          ranks = h.ranks;
          read = h.read;
          new = λ r new old. not_in_both h.ranks (all_ranks u.placed) r h.new new (placed_to r old);
        }

    stack_is_good : (m : Sampled) → AddsSample u line m → IsGoodStackLine t before line
    stack_is_good m h = record {
      comment = h.comment;
      sample = h.sample;
      is = h.is;
      time = h.time;
      placed = λ r there. placed_from r (subset_has h.sample.ranks (all_ranks u.placed) h.placed r there);
    }

    is_good : (m : Sampled) → Changes t u line m → IsGoodLine t before line
    is_good m (inl quiet) = inl quiet.0
    is_good m (inr (inl h)) = inr (h.utf8, inl (daemon_is_good m h))
    is_good m (inr (inr h)) = inr (h.utf8, inr (stack_is_good m h))

-- fewer `stack` lines stand before one of them than in all
fewer : (before after : List (List ℕ)) (line : List ℕ) → stack line ≡ true → length (filter stack before) < length (filter stack (before ++ line ∷ after))
fewer before after line is =
    let all = ap length (filter-append stack before (line ∷ after)) in
    let parts = length-append (filter stack before) (filter stack (line ∷ after)) in
    let here : length (filter stack (line ∷ after)) ≡ suc (length (filter stack after)) = ap (λ b. length (cond b (line ∷ filter stack after) (filter stack after))) is in
    omega (arith, all, parts, here)

-- what is written is one thing
same_samples : (ls : List (List ℕ)) (xs ys : List SampleLine) → AreSamplesOf ls xs → AreSamplesOf ls ys → xs ≡ ys
same_samples [] [] [] a b = refl
same_samples [] [] (y ∷ ys) a b = absurd b
same_samples [] (x ∷ xs) ys a b = absurd a
same_samples (l ∷ ls) [] ys a b = absurd a
same_samples (l ∷ ls) (x ∷ xs) [] a b = absurd b
same_samples (l ∷ ls) (x ∷ xs) (y ∷ ys) a b = (λ i. same_sample l x y a.0 b.0 i ∷ same_samples ls xs ys a.1 b.1 i)

module _ (t : Nodes) (text : List ℕ) (s u : Sampled) (one : IsWritten t text s) (other : IsWritten t text u) where
  same_set : (n : ℕ) → n < length t.parents → get_or s.placed n none ≡ get_or u.placed n none
  same_set n lt = same_ranks _ _ (λ r. same_test (has (get_or s.placed n none) r) (has (get_or u.placed n none) r)
      (λ there. (other.placed n r lt).1 ((one.placed n r lt).0 there)) (λ there. (one.placed n r lt).1 ((other.placed n r lt).0 there)))

  same_written : length s.placed ≡ length t.parents → length u.placed ≡ length t.parents → s ≡ u
  same_written p q =
      let placed : s.placed ≡ u.placed = ext_get_or none s.placed u.placed (p ∙ sym q) (λ n lt. same_set n (omega (arith, lt, p))) in
      let samples : s.lines ≡ u.lines = same_samples (stack_lines text) s.lines u.lines one.samples other.samples in
      (λ i. sampled (placed i) (samples i))

-- no daemon lacks a rank where each has one
lacks_none : (parents : List (Option ℕ)) (m : ℕ) (sets : List Ranks) → ((n : ℕ) → n < length sets → is_daemon parents (m + n) ≡ true → get_or sets n none ≢ none) → lacks_rank parents m sets ≡ false
lacks_none parents m [] each = refl
lacks_none parents m (set ∷ sets) each =
    (λ i. here (is_daemon parents m) refl (is_empty set) refl i || lacks_rank parents (suc m) sets)
    ∙ lacks_none parents (suc m) sets (λ n lt daemon. let next : suc m + n ≡ m + suc n = omega arith in each (suc n) (omega arith) (subst (λ k. is_daemon parents k ≡ true) next daemon))
  where
    here : (d : Bool) → is_daemon parents m ≡ d → (e : Bool) → is_empty set ≡ e → (d && e) ≡ false
    here true daemon true empty = let first : m ≡ m + 0 = omega arith in absurd (each 0 (omega arith) (subst (λ k. is_daemon parents k ≡ true) first daemon) (none_from_size set (eqb-true _ _ empty)))
    here true daemon false empty = refl
    here false daemon e empty = refl

module _ (t : Nodes) (topology : IsTopology t) (text : List ℕ) (s : Sampled) where
  -- the lines of an acceptable text are taken, one after another
  all_taken : IsAcceptable t text s → (after before : List (List ℕ)) (u : Sampled) → parsed_lines (with_line t) (nothing_parsed t) 1 before ≡ Ok u → lines text ≡ before ++ after → (v : Sampled) × (parsed_lines (with_line t) (nothing_parsed t) 1 (lines text) ≡ Ok v)
  all_taken a [] before u h is = (u, ap (parsed_lines (with_line t) (nothing_parsed t) 1) (is ∙ append-nil before) ∙ h)
  all_taken a (line ∷ after) before u h is =
      let next = good_taken t topology before u h line (a.good_lines before after line is) (λ k. let more = fewer before after line k in let same = ap (λ ls. length (filter stack ls)) is in let limit = a.within_limit in omega arith) in
      all_taken a after (before ++ line ∷ []) next.0 (parsed_then (with_line t) before (nothing_parsed t) 1 u next.0 line h next.1) (is ∙ append_one before line after)

  -- an acceptable text is accepted
  pub acceptable : IsAcceptable t text s → samples_of_text t text ≡ Ok s
  acceptable a =
      let p = all_taken a (lines text) [] (nothing_parsed t) (parsed_none (with_line t) (nothing_parsed t) 1) refl in
      let u : Sampled = p.0 in
      let paired = (holds_after t u (lines text) p.1).paired in
      let same : u ≡ s = same_written t text u s (is_written t topology text u p.1) a.form paired a.fits.paired in
      let lacks : lacks_rank t.parents 0 s.placed ≡ false = lacks_none t.parents 0 s.placed (λ n lt daemon. let here : 0 + n ≡ n = omega arith in let q = a.fits.paired in a.fits.on_daemons n (omega arith) (subst (λ k. is_daemon t.parents k ≡ true) here daemon)) in
      samples_good t text u p.1 ∙ ap (whole t) same ∙ whole_good t s lacks

  -- an accepted text is acceptable
  pub is_acceptable : samples_of_text t text ≡ Ok s → IsAcceptable t text s
  is_acceptable h =
      let p = accepted_parsed t text s h in
      let kept = holds_after t s (lines text) p.0 in
      record {
        form = is_written t topology text s p.0;
        good_lines = λ before after line is. (let b = parsed_split (with_line t) before (nothing_parsed t) 1 s line after (ap (parsed_lines (with_line t) (nothing_parsed t) 1) (sym is) ∙ p.0) in
            is_good t topology before b.0 b.1 line b.2.1 (changes t b.0 b.2.1 b.2.0 line b.2.2));
        within_limit = (let few = kept.within_limit in let same = same_length (stack_lines text) s.lines (is_written t topology text s p.0).samples in omega arith);
        fits = fits t s kept p.1;
      }

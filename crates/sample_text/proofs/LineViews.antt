-- What a line without an error says, and what becomes of the samples.
use Rattle.std.proofs.Common.{◌≡◌, ◌∙◌, ◌⊎◌, inl, inr, ℕ, ◌≤◌, Bool, true, false, cond, ◌||◌, nat_le, nat_lt, List, [], ◌∷◌, ◌++◌, length, Option, None, Some, Result, Ok, Err, refl, sym, ap, subst, codes, arith}
use Rattle.std.specs.Str.{bytes_eq, IsUtf8, is_utf8}
use Rattle.std.proofs.lemmas.Bool.Decides.{nat_tests}
use Rattle.std.proofs.lemmas.Slice.Eq.{bytes_eq-Decides}
use Rattle.std.proofs.lemmas.Str.{IsUtf8-from_is_utf8}
use Rattle.rank_set.specs.Ranks.{Ranks, is_subset}
use Rattle.rank_set.specs.RanksText.{ranks_text}
use Rattle.call_path.specs.Path.{Path}
use Rattle.call_path.specs.Reading.{path_of}
use Rattle.call_path.specs.declared.read.PathError.{PathError}
use Rattle.text_lines.specs.Lines.{words, says_nothing, is_comment, are_none, after_word, number_in}
use Rattle.text_lines.proofs.Errors.{then_inv, test_inv, ok_inj, some_inv}
use Rattle.text_lines.proofs.RanksWords.{ranks_inv}
use Rattle.text_lines.specs.declared.text_error.TextError.TheVariants.{Bad, Over}
use Rattle.text_lines.specs.declared.text_error.Reason.TheVariants.{NotUtf8, BadDirective, NotADaemon, BadTime, PlacedTwice, Unplaced}
use Rattle.text_lines.specs.declared.text_error.Quantity.TheVariants.{Lines}
use Rattle.overlay_setup.specs.Daemons.{daemon_named}
use Rattle.stat_plan.specs.Plans.{Sampled}
use Rattle.stat_plan.specs.Samples.{SampleLine, all_ranks}
use Rattle.overlay_setup.specs.Topologies.{Nodes}
use Rattle.stat_plan.specs.declared.samples.TheConstants.{TIME_LIMIT, LINE_LIMIT}
use Rattle.sample_text.specs.Grammar.{IsDaemonLine, IsSampleOf}
use Rattle.sample_text.specs.Steps.{daemon_on, time_at, time_on, path_or_error, path_on, are_disjoint, add_at, sample, with_daemon, with_stack, with_line_view, with_line}
use Rattle.text_lines.specs.RanksWords.{ranks_on}
use Rattle.sample_text.specs.Words.{LineView, Nothing, Daemon, Stack, daemon_words, stack_words, path_in, directive, read_line}

is_at_most : (a b : ℕ) → nat_le a b ≡ true → a ≤ b
is_at_most a b e = grind (arith, nat_tests)

time_read : (number : ℕ) (o : Option ℕ) (time : ℕ) → time_at number o ≡ Ok time → (o ≡ Some time) × (time ≤ TIME_LIMIT)
time_read number None time h = cc
time_read number (Some x) time h =
    let t = test_inv (nat_le x TIME_LIMIT) (Bad number BadTime) (Ok x) time h in
    let same = ok_inj x time t.1 in
    (ap Some same, subst (λ n. n ≤ TIME_LIMIT) same (is_at_most x TIME_LIMIT t.0))

time_inv : (number : ℕ) (word : List ℕ) (time : ℕ) → time_on number word ≡ Ok time → (number_in word ≡ Some time) × (time ≤ TIME_LIMIT)
unfolding time_on
time_inv number word time h = time_read number (number_in word) time h

path_read : (number : ℕ) (r : Result Path PathError) (path : Path) → path_or_error number r ≡ Ok path → r ≡ Ok path
path_read number (Err e) path h = cc
path_read number (Ok x) path h = ap Ok (ok_inj x path h)

path_inv : (number : ℕ) (text : List ℕ) (path : Path) → path_on number text ≡ Ok path → path_of text ≡ Ok path
unfolding path_on
path_inv number text path h = path_read number (path_of text) path h

daemon_inv : (t : Nodes) (number : ℕ) (name : List ℕ) (n : ℕ) → daemon_on t number name ≡ Ok n → daemon_named name t ≡ Some n
unfolding daemon_on
daemon_inv t number name n h = some_inv (Bad number NotADaemon) (daemon_named name t) n h

-- a line by what it says
abbrev Fits : List ℕ → LineView → Type 0
Fits line Nothing = says_nothing line ≡ true
Fits line (Daemon name word) = IsUtf8 line × IsDaemonLine line name word
Fits line (Stack time word path) = IsUtf8 line × (is_comment line ≡ false) × (more : List (List ℕ)) × (words line ≡ codes "stack" ∷ time ∷ word ∷ more) × (path ≡ path_in (after_word line))

same_word : (one other : List ℕ) → bytes_eq one other ≡ true → one ≡ other
same_word one other e = (bytes_eq-Decides one other).0 e

module _ (number : ℕ) (line : List ℕ) (view : LineView) (comment : is_comment line ≡ false) (utf8 : IsUtf8 line) where
  daemon_fits : (word : List ℕ) (ws : List (List ℕ)) → word ≡ codes "daemon" → words line ≡ word ∷ ws → daemon_words number ws ≡ Ok view → Fits line view
  daemon_fits word [] first is h = cc
  daemon_fits word (name ∷ []) first is h = cc
  daemon_fits word (name ∷ ranks ∷ []) first is h = subst (Fits line) (ok_inj (Daemon name ranks) view h) (utf8, (comment, is ∙ ap (λ w. w ∷ name ∷ ranks ∷ []) first))
  daemon_fits word (name ∷ ranks ∷ more ∷ ws) first is h = cc

  stack_fits : (word : List ℕ) (ws : List (List ℕ)) → word ≡ codes "stack" → words line ≡ word ∷ ws → stack_words number (after_word line) ws ≡ Ok view → Fits line view
  stack_fits word [] first is h = cc
  stack_fits word (time ∷ []) first is h = cc
  stack_fits word (time ∷ ranks ∷ []) first is h = cc
  stack_fits word (time ∷ ranks ∷ path ∷ ws) first is h =
      subst (Fits line) (ok_inj (Stack time ranks (path_in (after_word line))) view h) (utf8, comment, path ∷ ws, is ∙ ap (λ w. w ∷ time ∷ ranks ∷ path ∷ ws) first, refl)

  words_fit : (ws : List (List ℕ)) → words line ≡ ws → directive number line ws ≡ Ok view → Fits line view
  words_fit [] is h = cc
  words_fit (word ∷ ws) is h = by (bytes_eq word (codes "daemon")) refl (bytes_eq word (codes "stack")) refl h
    where
      by : (d : Bool) → bytes_eq word (codes "daemon") ≡ d → (s : Bool) → bytes_eq word (codes "stack") ≡ s → cond d (daemon_words number ws) (cond s (stack_words number (after_word line) ws) (Err (Bad number BadDirective))) ≡ Ok view → Fits line view
      by true e s f h = daemon_fits word ws (same_word word (codes "daemon") e) is h
      by false e true f h = stack_fits word ws (same_word word (codes "stack") f) is h
      by false e false f h = cc

or_false : (a b : Bool) → (a || b) ≡ false → a ≡ false
or_false true b e = cc
or_false false b e = refl

line_fits : (number : ℕ) (line : List ℕ) (view : LineView) → read_line number line ≡ Ok view → Fits line view
unfolding read_line
line_fits number line view h = by (says_nothing line) refl (is_utf8 line) refl h
  where
    by : (b : Bool) → says_nothing line ≡ b → (c : Bool) → is_utf8 line ≡ c → cond b (Ok Nothing) (cond c (directive number line (words line)) (Err (Bad number NotUtf8))) ≡ Ok view → Fits line view
    by true e c f h = subst (Fits line) (ok_inj Nothing view h) e
    by false e true f h = words_fit number line view (or_false (is_comment line) (are_none (words line)) e) (IsUtf8-from_is_utf8 line f) (words line) refl h
    by false e false f h = cc

-- a `daemon` line places ranks on a node
pub record AddsRanks (t : Nodes) (s : Sampled) (line : List ℕ) (u : Sampled) : Type 0 where
  pub name : List ℕ
  pub word : List ℕ
  pub node : ℕ
  pub ranks : Ranks
  pub utf8 : IsUtf8 line
  pub is : IsDaemonLine line name word
  pub named : daemon_named name t ≡ Some node
  pub read : ranks_text word ≡ Ok ranks
  pub new : are_disjoint ranks (all_ranks s.placed) ≡ true
  pub after : record s { placed = add_at s.placed node ranks } ≡ u

-- a `stack` line adds a sample
pub record AddsSample (s : Sampled) (line : List ℕ) (u : Sampled) : Type 0 where
  pub sample : SampleLine
  pub utf8 : IsUtf8 line
  pub comment : is_comment line ≡ false
  pub is : IsSampleOf line sample
  pub time : sample.time ≤ TIME_LIMIT
  pub placed : is_subset sample.ranks (all_ranks s.placed) ≡ true
  pub after : record s { lines = s.lines ++ sample ∷ [] } ≡ u

-- what becomes of samples with a line more
abbrev pub Changes : Nodes → Sampled → List ℕ → Sampled → Type 0
Changes t s line u = ((says_nothing line ≡ true) × (s ≡ u)) ⊎ (AddsRanks t s line u ⊎ AddsSample s line u)

module _ (t : Nodes) (s u : Sampled) (number : ℕ) (line : List ℕ) where
  by_daemon : (name word : List ℕ) → Fits line (Daemon name word) → with_daemon t s number name word ≡ Ok u → AddsRanks t s line u
  unfolding with_daemon
  by_daemon name word is h =
      let a = then_inv (daemon_on t number name) _ u h in
      let b = then_inv (ranks_on number word) _ u a.2 in
      let c = test_inv (are_disjoint b.0 (all_ranks s.placed)) (Bad number PlacedTwice) (Ok (record s { placed = add_at s.placed a.0 b.0 })) u b.2 in
      record {
        name = name;
        word = word;
        node = a.0;
        ranks = b.0;
        utf8 = is.0;
        is = is.1;
        named = daemon_inv t number name a.0 a.1;
        read = ranks_inv number word b.0 b.1;
        new = c.0;
        after = ok_inj _ u c.1;
      }

  by_stack : (time_word word text : List ℕ) → Fits line (Stack time_word word text) → with_stack s number time_word word text ≡ Ok u → AddsSample s line u
  unfolding with_stack
  by_stack time_word word text is h =
      let l = test_inv (nat_lt (length s.lines) LINE_LIMIT) (Over number Lines LINE_LIMIT) _ u h in
      let a = then_inv (time_on number time_word) _ u l.1 in
      let b = then_inv (ranks_on number word) _ u a.2 in
      let c = test_inv (is_subset b.0 (all_ranks s.placed)) (Bad number Unplaced) _ u b.2 in
      let d = then_inv (path_on number text) _ u c.1 in
      let time = time_inv number time_word a.0 a.1 in
      record {
        sample = sample a.0 b.0 d.0;
        utf8 = is.0;
        comment = is.1;
        is = record {
          time_word = time_word;
          ranks_word = word;
          more = is.2;
          is = is.3;
          time = time.0;
          ranks = ranks_inv number word b.0 b.1;
          path = ap path_of (sym is.4) ∙ path_inv number text d.0 d.1;
        };
        time = time.1;
        placed = c.0;
        after = ok_inj _ u d.2;
      }

  by_view : (view : LineView) → Fits line view → with_line_view t s number view ≡ Ok u → Changes t s line u
  by_view Nothing fits h = inl (fits, ok_inj s u h)
  by_view (Daemon name word) fits h = inr (inl (by_daemon name word fits h))
  by_view (Stack time word path) fits h = inr (inr (by_stack time word path fits h))

  -- a line without an error changes the samples as it says
  pub changes : with_line t s number line ≡ Ok u → Changes t s line u
  changes h = let a = then_inv (read_line number line) (with_line_view t s number) u h in by_view a.0 (line_fits number line a.0 a.1) a.2

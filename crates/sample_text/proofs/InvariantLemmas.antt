-- The invariant of samples, line by line, and at their end.
use Rattle.std.proofs.Common.{◌≡◌, ◌≢◌, ◌∙◌, ℕ, zero, suc, ◌+◌, ◌<◌, ◌≤◌, Bool, true, false, cond, ◌&&◌, ◌||◌, nat_le, nat_lt, List, [], ◌∷◌, ◌++◌, length, length-append, get_or, Option, None, Some, Result, Ok, Err, refl, sym, ap, subst, arith}
use Rattle.std.specs.List.{AllByRecursion}
use Rattle.std.proofs.lemmas.Bool.{true≢false}
use Rattle.std.proofs.lemmas.Bool.Decides.{nat_tests}
use Rattle.rank_set.specs.Ranks.{Ranks, none, has, has-none, subset_has, is_subset, is_empty}
use Rattle.call_path.specs.Path.{Path}
use Rattle.call_path.specs.Good.{IsGoodPath}
use Rattle.call_path.specs.Reading.{path_of}
use Rattle.call_path.specs.declared.read.PathError.{PathError}
use Rattle.call_path.proofs.ReadBack.{read_good}
use Rattle.stat_plan.specs.Invariants.{IsSampleLine, AreSamples, SamplesFit}
use Rattle.text_lines.specs.Lines.{number_in}
use Rattle.overlay_setup.specs.Names.{number_of}
use Rattle.stat_plan.specs.Plans.{Sampled}
use Rattle.stat_plan.specs.Samples.{SampleLine, all_ranks}
use Rattle.overlay_setup.specs.Topologies.{Nodes}
use Rattle.overlay_setup.specs.Trees.{is_daemon}
use Rattle.text_lines.specs.declared.text_error.TextError.{TextError}
use Rattle.text_lines.specs.declared.text_error.TextError.TheVariants.{Bad, Over}
use Rattle.text_lines.specs.declared.text_error.Reason.TheVariants.{NotADaemon, Unplaced}
use Rattle.text_lines.specs.declared.text_error.Quantity.TheVariants.{Lines}
use Rattle.stat_plan.specs.declared.samples.TheConstants.{LINE_LIMIT}
use Rattle.sample_text.specs.Words.{LineView, Nothing, Daemon, Stack, read_line}
use Rattle.sample_text.specs.Steps.{daemon_on, time_at, time_on, path_or_error, path_on, are_disjoint, add_at, sample, with_daemon, with_stack, with_line_view, with_line}
use Rattle.text_lines.specs.RanksWords.{ranks_on}
use Rattle.sample_text.specs.Whole.{nothing_parsed, lacks_rank}
use Rattle.text_lines.specs.Parsing.{and_then, some_or, parsed_lines, if_holds}
use Rattle.overlay_setup.specs.Daemons.{if_daemon, daemon_named}
use Rattle.sample_text.specs.Invariants.{ParserInvariant}
use Rattle.sample_text.proofs.Sets.{length-add_at, other_set, all_ranks_grow, once_more, length-empty_sets, empty_sets_empty}
use Rattle.sample_text.proofs.SomeRank.{not_none}

-- what holds of a result where it is not an error
abbrev Holds : {A : Type 0} → (A → Type 0) → Result A TextError → Type 0
Holds P (Err e) = Unit {0}
Holds P (Ok x) = P x

at_ok : {A : Type 0} (P : A → Type 0) (r : Result A TextError) (x : A) → Holds P r → r ≡ Ok x → P x
at_ok P r x h is = subst (Holds P) is h

then_holds : {A B : Type 0} (P : B → Type 0) (r : Result A TextError) (f : A → Result B TextError) → ((x : A) → r ≡ Ok x → Holds P (f x)) → Holds P (and_then r f)
then_holds P (Err e) f more = tt
then_holds P (Ok x) f more = more x refl

test_holds : {A : Type 0} (P : A → Type 0) (test : Bool) (e : TextError) (next : Result A TextError) → (test ≡ true → Holds P next) → Holds P (if_holds test e next)
test_holds P true e next more = more refl
test_holds P false e next more = tt

is_at_most : (a b : ℕ) → nat_le a b ≡ true → a ≤ b
is_at_most a b e = grind (arith, nat_tests)

is_below : (a b : ℕ) → nat_lt a b ≡ true → a < b
is_below a b e = grind (arith, nat_tests)

-- a daemon that is named is one
daemon_is : (t : Nodes) (number : ℕ) (name : List ℕ) → Holds (λ n. is_daemon t.parents n ≡ true) (daemon_on t number name)
unfolding daemon_on daemon_named
daemon_is t number name = by (number_of name t.names)
  where
    if_passes : (n : ℕ) (b : Bool) → is_daemon t.parents n ≡ b → Holds (λ n. is_daemon t.parents n ≡ true) (some_or (Bad number NotADaemon) (cond b (Some n) None))
    if_passes n true e = e
    if_passes n false e = tt

    by : (o : Option ℕ) → Holds (λ n. is_daemon t.parents n ≡ true) (some_or (Bad number NotADaemon) (if_daemon t.parents o))
    by None = tt
    by (Some n) = if_passes n (is_daemon t.parents n) refl

-- a time is within the limit
time_holds : (number : ℕ) (word : List ℕ) → Holds (λ time. time ≤ 65535) (time_on number word)
unfolding time_on
time_holds number word = by (number_in word)
  where
    by : (o : Option ℕ) → Holds (λ time. time ≤ 65535) (time_at number o)
    by None = tt
    by (Some time) = test_holds (λ time. time ≤ 65535) (nat_le time 65535) _ (Ok time) (λ e. is_at_most time 65535 e)

-- a path that is read is good
path_holds : (number : ℕ) (text : List ℕ) → Holds IsGoodPath (path_on number text)
unfolding path_on
path_holds number text = by (path_of text) refl
  where
    by : (r : Result Path PathError) → path_of text ≡ r → Holds IsGoodPath (path_or_error number r)
    by (Err e) is = tt
    by (Ok path) is = (read_good text path is).0

line_more : (sets : List Ranks) (n : ℕ) (ranks : Ranks) (line : SampleLine) → IsSampleLine sets line → IsSampleLine (add_at sets n ranks) line
line_more sets n ranks line h = record {
  time = h.time;
  some = h.some;
  placed_ranks = λ r there. all_ranks_grow sets n ranks r (h.placed_ranks r there);
  path = h.path;
}

all_weaker : (P Q : SampleLine → Type 0) (xs : List SampleLine) → ((x : SampleLine) → P x → Q x) → AllByRecursion P xs → AllByRecursion Q xs
all_weaker P Q [] weaker all = all
all_weaker P Q (x ∷ xs) weaker all = (weaker x all.0, all_weaker P Q xs weaker all.1)

all_append : (P : SampleLine → Type 0) (xs : List SampleLine) (y : SampleLine) → AllByRecursion P xs → P y → AllByRecursion P (xs ++ y ∷ [])
all_append P [] y all here = (here, all)
all_append P (x ∷ xs) y all here = (all.0, all_append P xs y all.1 here)

module _ (t : Nodes) (s : Sampled) (number : ℕ) (h : ParserInvariant t s) where
  placed_holds : (n : ℕ) (ranks : Ranks) → is_daemon t.parents n ≡ true → are_disjoint ranks (all_ranks s.placed) ≡ true → ParserInvariant t (record s { placed = add_at s.placed n ranks })
  placed_holds n ranks daemon disjoint = record {
    paired = length-add_at s.placed n ranks ∙ h.paired;
    nowhere_else = λ m lt other. other_set s.placed n m ranks (λ e. true≢false (sym daemon ∙ ap (is_daemon t.parents) (sym e) ∙ other)) ∙ h.nowhere_else m lt other;
    once = once_more s.placed n ranks h.once disjoint;
    lines = all_weaker (IsSampleLine s.placed) (IsSampleLine (add_at s.placed n ranks)) s.lines (line_more s.placed n ranks) h.lines;
    within_limit = h.within_limit;
  }

  daemon_holds : (name word : List ℕ) → Holds (ParserInvariant t) (with_daemon t s number name word)
  unfolding with_daemon
  daemon_holds name word =
      then_holds (ParserInvariant t) (daemon_on t number name) _ (λ n named.
      then_holds (ParserInvariant t) (ranks_on number word) _ (λ ranks read.
      test_holds (ParserInvariant t) (are_disjoint ranks (all_ranks s.placed)) _ _ (λ disjoint.
      placed_holds n ranks (at_ok (λ n. is_daemon t.parents n ≡ true) (daemon_on t number name) n (daemon_is t number name) named) disjoint)))

  sample_holds : (time : ℕ) (ranks : Ranks) (path : Path) → length s.lines < 262144 → time ≤ 65535 → ranks ≢ none → is_subset ranks (all_ranks s.placed) ≡ true → IsGoodPath path → ParserInvariant t (record s { lines = s.lines ++ sample time ranks path ∷ [] })
  sample_holds time ranks path room low some placed good = record {
    paired = h.paired;
    nowhere_else = h.nowhere_else;
    once = h.once;
    lines = all_append (IsSampleLine s.placed) s.lines (sample time ranks path) h.lines (record { time = low; some = some; placed_ranks = subset_has ranks (all_ranks s.placed) placed; path = good });
    within_limit = (let len = length-append s.lines (sample time ranks path ∷ []) in omega arith);
  }

  abbrev after_path : ℕ → Ranks → Path → Result Sampled TextError
  after_path time ranks path = Ok (record s { lines = s.lines ++ sample time ranks path ∷ [] })

  abbrev after_ranks : List ℕ → ℕ → Ranks → Result Sampled TextError
  after_ranks text time ranks = if_holds (is_subset ranks (all_ranks s.placed)) (Bad number Unplaced) (and_then (path_on number text) (after_path time ranks))

  abbrev after_time : List ℕ → List ℕ → ℕ → Result Sampled TextError
  after_time word text time = and_then (ranks_on number word) (after_ranks text time)

  stack_holds : (time_word word text : List ℕ) → Holds (ParserInvariant t) (with_stack s number time_word word text)
  unfolding with_stack
  stack_holds time_word word text =
      test_holds (ParserInvariant t) (nat_lt (length s.lines) LINE_LIMIT) (Over number Lines LINE_LIMIT) (and_then (time_on number time_word) (after_time word text)) (λ few.
      then_holds (ParserInvariant t) (time_on number time_word) (after_time word text) (λ time timed.
      then_holds (ParserInvariant t) (ranks_on number word) (after_ranks text time) (λ ranks read.
      test_holds (ParserInvariant t) (is_subset ranks (all_ranks s.placed)) (Bad number Unplaced) (and_then (path_on number text) (after_path time ranks)) (λ placed.
      then_holds (ParserInvariant t) (path_on number text) (after_path time ranks) (λ path walked.
      sample_holds time ranks path (is_below (length s.lines) 262144 few) (at_ok (λ time. time ≤ 65535) (time_on number time_word) time (time_holds number time_word) timed) (not_none number word ranks read) placed (at_ok IsGoodPath (path_on number text) path (path_holds number text) walked))))))

  view_holds : (said : LineView) → Holds (ParserInvariant t) (with_line_view t s number said)
  view_holds Nothing = h
  view_holds (Daemon name word) = daemon_holds name word
  view_holds (Stack time word text) = stack_holds time word text

  line_holds : (line : List ℕ) → Holds (ParserInvariant t) (with_line t s number line)
  line_holds line = then_holds (ParserInvariant t) (read_line number line) _ (λ said is. view_holds said)

-- it holds after lines where it holds before them
pub lines_holds : (t : Nodes) (s : Sampled) (number : ℕ) (rest : List (List ℕ)) → ParserInvariant t s → Holds (ParserInvariant t) (parsed_lines (with_line t) s number rest)
unfolding parsed_lines
lines_holds t s number [] h = h
lines_holds t s number (line ∷ rest) h =
    then_holds (ParserInvariant t) (with_line t s number line) _ (λ more is. lines_holds t more (suc number) rest (at_ok (ParserInvariant t) (with_line t s number line) more (line_holds t s number h line) is))

-- it holds before the first line
pub nothing_holds : (t : Nodes) → ParserInvariant t (nothing_parsed t)
nothing_holds t = record {
  paired = length-empty_sets (length t.parents);
  nowhere_else = λ n lt other. empty_sets_empty (length t.parents) n;
  once = λ m n r at_m at_n. absurd (true≢false (sym at_m ∙ ap (λ s. has s r) (empty_sets_empty (length t.parents) m) ∙ has-none r));
  lines = tt;
  within_limit = omega arith;
}

-- it holds after the lines of a text
pub holds_after : (t : Nodes) (u : Sampled) (rest : List (List ℕ)) → parsed_lines (with_line t) (nothing_parsed t) 1 rest ≡ Ok u → ParserInvariant t u
holds_after t u rest is = at_ok (ParserInvariant t) (parsed_lines (with_line t) (nothing_parsed t) 1 rest) u (lines_holds t (nothing_parsed t) 1 rest (nothing_holds t)) is

-- samples, where the invariant holds
pub are_samples : (t : Nodes) (s : Sampled) → ParserInvariant t s → AreSamples s
are_samples t s h = record { once = h.once; lines = h.lines; within_limit = h.within_limit }

or_false_parts : (a b : Bool) → (a || b) ≡ false → (a ≡ false) × (b ≡ false)
or_false_parts true b e = cc
or_false_parts false b e = (refl, e)

and_true_false : (a b : Bool) → a ≡ true → (a && b) ≡ false → b ≡ false
and_true_false true b e f = f
and_true_false false b e f = cc

nonempty : (ranks : Ranks) → is_empty ranks ≡ false → ranks ≢ none
nonempty ranks e is = true≢false (sym (ap is_empty is) ∙ e)

-- where no daemon lacks a rank, each has one
each_has : (parents : List (Option ℕ)) (m : ℕ) (sets : List Ranks) → lacks_rank parents m sets ≡ false → (n : ℕ) → n < length sets → is_daemon parents (m + n) ≡ true → get_or sets n none ≢ none
each_has parents m [] e n lt daemon = absurd (omega arith)
each_has parents m (set ∷ sets) e zero lt daemon = (
    let parts = or_false_parts (is_daemon parents m && is_empty set) (lacks_rank parents (suc m) sets) e in
    let here : m + 0 ≡ m = omega arith in
    nonempty set (and_true_false (is_daemon parents m) (is_empty set) (subst (λ k. is_daemon parents k ≡ true) here daemon) parts.0)
    )
each_has parents m (set ∷ sets) e (suc n) lt daemon = (
    let parts = or_false_parts (is_daemon parents m && is_empty set) (lacks_rank parents (suc m) sets) e in
    let here : m + suc n ≡ suc m + n = omega arith in
    each_has parents (suc m) sets parts.1 n (omega arith) (subst (λ k. is_daemon parents k ≡ true) here daemon)
    )

-- samples that fit the nodes, where the invariant holds and no daemon lacks a rank
pub fits : (t : Nodes) (s : Sampled) → ParserInvariant t s → lacks_rank t.parents 0 s.placed ≡ false → SamplesFit t s
fits t s h e = record {
  paired = h.paired;
  on_daemons = λ n lt daemon. (let same = h.paired in let here : n ≡ 0 + n = omega arith in each_has t.parents 0 s.placed e n (omega arith) (subst (λ k. is_daemon t.parents k ≡ true) here daemon));
  nowhere_else = h.nowhere_else;
}

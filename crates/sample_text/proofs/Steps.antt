-- One line more, by its error or the step that it is.
use Rattle.std.proofs.Common.{◌≡◌, ◌∙◌, ℕ, ◌<◌, ◌≤◌, true, false, List, [], ◌∷◌, ◌++◌, length, Result, Ok, Err, refl, ap, le-ltb, lt-ltb}
use Rattle.rank_set.specs.Ranks.{Ranks, is_subset}
use Rattle.call_path.specs.Path.{Path}
use Rattle.stat_plan.specs.Plans.{Sampled}
use Rattle.stat_plan.specs.Samples.{all_ranks}
use Rattle.overlay_setup.specs.Topologies.{Nodes}
use Rattle.text_lines.specs.declared.text_error.TextError.{TextError}
use Rattle.text_lines.specs.declared.text_error.TextError.TheVariants.{Bad, Over}
use Rattle.text_lines.specs.declared.text_error.Reason.TheVariants.{PlacedTwice, Unplaced}
use Rattle.text_lines.specs.declared.text_error.Quantity.TheVariants.{Lines}
use Rattle.sample_text.specs.Words.{LineView, read_line}
use Rattle.sample_text.specs.Steps.{daemon_on, time_on, path_on, are_disjoint, add_at, sample, if_room, with_sample, with_daemon, with_stack, with_line_view, with_line}
use Rattle.text_lines.specs.RanksWords.{ranks_on}
use Rattle.text_lines.specs.Parsing.{and_then}

-- a line `daemon NAME RANKS`
module _ (t : Nodes) (s : Sampled) (number : ℕ) (name word : List ℕ) where
  pub daemon_unnamed : (e : TextError) → daemon_on t number name ≡ Err e → with_daemon t s number name word ≡ Err e
  unfolding with_daemon
  daemon_unnamed e named = rw (named, with_daemon) refl

  module _ (n : ℕ) (named : daemon_on t number name ≡ Ok n) where
    pub daemon_bad_ranks : (e : TextError) → ranks_on number word ≡ Err e → with_daemon t s number name word ≡ Err e
    unfolding with_daemon
    daemon_bad_ranks e read = rw (named, read, with_daemon) refl

    module _ (ranks : Ranks) (read : ranks_on number word ≡ Ok ranks) where
      pub daemon_twice : are_disjoint ranks (all_ranks s.placed) ≡ false → with_daemon t s number name word ≡ Err (Bad number PlacedTwice)
      unfolding with_daemon
      daemon_twice disjoint = rw (named, read, disjoint, with_daemon) refl

      pub daemon_good : are_disjoint ranks (all_ranks s.placed) ≡ true → with_daemon t s number name word ≡ Ok (record s { placed = add_at s.placed n ranks })
      unfolding with_daemon
      daemon_good disjoint = rw (named, read, disjoint, with_daemon) refl

-- a line more
module _ (s : Sampled) (number : ℕ) (next : Result Sampled TextError) where
  pub no_room : 262144 ≤ length s.lines → if_room s number next ≡ Err (Over number Lines 262144)
  no_room many = rw (le-ltb (length s.lines) 262144 many) refl

  pub room : length s.lines < 262144 → if_room s number next ≡ next
  room few = rw (lt-ltb (length s.lines) 262144 few) refl

-- a line `stack TIME RANKS PATH`
module _ (s : Sampled) (number : ℕ) (time_word word text : List ℕ) where
  pub stack_over : 262144 ≤ length s.lines → with_stack s number time_word word text ≡ Err (Over number Lines 262144)
  unfolding with_stack
  stack_over many = rw (le-ltb (length s.lines) 262144 many, with_stack) refl

  module _ (few : length s.lines < 262144) where
    pub stack_bad_time : (e : TextError) → time_on number time_word ≡ Err e → with_stack s number time_word word text ≡ Err e
    unfolding with_stack
    stack_bad_time e timed = rw (lt-ltb (length s.lines) 262144 few, timed, with_stack) refl

    module _ (time : ℕ) (timed : time_on number time_word ≡ Ok time) where
      pub stack_bad_ranks : (e : TextError) → ranks_on number word ≡ Err e → with_stack s number time_word word text ≡ Err e
      unfolding with_stack
      stack_bad_ranks e read = rw (lt-ltb (length s.lines) 262144 few, timed, read, with_stack) refl

      pub stack_read : (ranks : Ranks) → ranks_on number word ≡ Ok ranks → with_stack s number time_word word text ≡ with_sample s number time ranks text
      unfolding with_stack
      stack_read ranks read = rw (lt-ltb (length s.lines) 262144 few, timed, read, with_stack) refl

-- a sample of ranks
module _ (s : Sampled) (number time : ℕ) (ranks : Ranks) (text : List ℕ) where
  pub sample_unplaced : is_subset ranks (all_ranks s.placed) ≡ false → with_sample s number time ranks text ≡ Err (Bad number Unplaced)
  sample_unplaced placed = rw placed refl

  module _ (placed : is_subset ranks (all_ranks s.placed) ≡ true) where
    pub sample_bad_path : (e : TextError) → path_on number text ≡ Err e → with_sample s number time ranks text ≡ Err e
    sample_bad_path e walked = rw (placed, walked) refl

    pub sample_good : (path : Path) → path_on number text ≡ Ok path → with_sample s number time ranks text ≡ Ok (record s { lines = s.lines ++ sample time ranks path ∷ [] })
    sample_good path walked = rw (placed, walked) refl

-- a line `stack TIME RANKS PATH` that is taken
pub stack_good : (s : Sampled) (number : ℕ) (time_word word text : List ℕ) → length s.lines < 262144 → (time : ℕ) → time_on number time_word ≡ Ok time → (ranks : Ranks) → ranks_on number word ≡ Ok ranks → is_subset ranks (all_ranks s.placed) ≡ true → (path : Path) → path_on number text ≡ Ok path → with_stack s number time_word word text ≡ Ok (record s { lines = s.lines ++ sample time ranks path ∷ [] })
stack_good s number time_word word text few time timed ranks read placed path walked =
    stack_read s number time_word word text few time timed ranks read ∙ sample_good s number time ranks text placed path walked

-- a line, by what it says
pub line_bad : (t : Nodes) (s : Sampled) (number : ℕ) (line : List ℕ) (e : TextError) → read_line number line ≡ Err e → with_line t s number line ≡ Err e
line_bad t s number line e is = ap (λ r. and_then r (with_line_view t s number)) is

pub line_good : (t : Nodes) (s : Sampled) (number : ℕ) (line : List ℕ) (view : LineView) → read_line number line ≡ Ok view → with_line t s number line ≡ with_line_view t s number view
line_good t s number line view is = ap (λ r. and_then r (with_line_view t s number)) is

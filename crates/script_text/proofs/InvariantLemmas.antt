-- The invariant of a script, line by line, and at its end.
use Rattle.std.proofs.Common.{◌≡◌, ◌≢◌, ℕ, suc, ◌<◌, ◌≤◌, Bool, true, false, cond, nat_lt, nat_le, nat_eq, List, [], ◌∷◌, length, Option, None, Some, Ok, Err, Result, refl, arith, codes, zero-le}
use Rattle.std.specs.Result.{IfOk}
use Rattle.std.specs.List.{AllByRecursion, list_any}
use Rattle.std.specs.Str.{bytes_eq}
use Rattle.std.proofs.lemmas.Bool.{ltb-false, eqb-false}
use Rattle.overlay_setup.specs.Scripts.{ScriptFits, IsDaemon, IsMode, IsStream, IsFault, IsScript, Stream, Scripted, scripted}
use Rattle.std.proofs.lemmas.Bool.Decides.{nat_tests}
use Rattle.text_lines.specs.Lines.{words, says_nothing}
use Rattle.overlay_setup.specs.Names.{number_of}
use Rattle.overlay_setup.specs.NodeSets.{IsStrictlyIncreasing, with_number}
use Rattle.overlay_setup.specs.Topologies.{Nodes, IsTopology}
use Rattle.overlay_setup.specs.Trees.{is_daemon, root_of}
use Rattle.overlay_setup.specs.declared.script.Mode.TheVariants as mode
use Rattle.overlay_setup.specs.declared.script.Fault.{Fault}
use Rattle.text_lines.specs.declared.text_error.TextError.{TextError}
use Rattle.text_lines.specs.declared.text_error.TextError.TheVariants.{Bad, Over}
use Rattle.text_lines.specs.declared.text_error.Reason.TheVariants.{BadNumber, BadDirective, SecondStream, SecondLoss, LosesFront, NotADaemon}
use Rattle.text_lines.specs.declared.text_error.Quantity.TheVariants.{Streams, Waves, Faults}
use Rattle.script_text.specs.Words.{ModeWords, WaitForAll, TimeOut, DontWait, StreamWords, LoseWords, stream_words, lose_words}
use Rattle.text_lines.specs.Parsing.{and_then, some_or, parsed_lines}
use Rattle.overlay_setup.specs.Daemons.{daemon_named}
use Rattle.overlay_setup.proofs.DaemonNames.{found_by_name, named}
use Rattle.script_text.specs.Invariants.{ParserInvariant}
use Rattle.script_text.specs.Numbers.{in_range, number_from}
use Rattle.script_text.specs.Streams.{new_number, stream_number, mode_of, daemon_of, with_named, all_daemons, daemons_of, stream_of, with_stream}
use Rattle.script_text.specs.Losses.{as_lost, lost_node, fault_of, with_fault}
use Rattle.script_text.specs.Whole.{with_stream_line, with_lose_line, with_words, with_line}
use Rattle.script_text.proofs.NodeLists.{number_all, number_some, number_increasing, passed_increase, passed_all, passed_some}
use Rattle.script_text.proofs.Placing.{all_placed, length_placed, placed_increasing}
use Rattle.script_text.proofs.SomeDaemon.{some_daemon}

-- a step after another
then_ok : {A B : Type 0} (r : Result A TextError) (f : A → Result B TextError) (P : A → Type 0) (Q : B → Type 0) → IfOk r P → ((x : A) → P x → IfOk (f x) Q) → IfOk (and_then r f) Q
then_ok (Err e) f P Q h g = tt
then_ok (Ok x) f P Q h g = g x h

-- numbers are in their ranges
module _ (line least most : ℕ) (more : TextError) where
  range_by : (o : Option ℕ) → IfOk (in_range line least most more o) (λ n. (least ≤ n) × (n ≤ most))
  range_by None = tt
  range_by (Some n) = by (nat_lt n least) refl (nat_lt most n) refl
    where
      by : (a : Bool) → nat_lt n least ≡ a → (b : Bool) → nat_lt most n ≡ b → IfOk (cond a (Err (Bad line BadNumber)) (cond b (Err more) (Ok n))) (λ n. (least ≤ n) × (n ≤ most))
      by true e b f = tt
      by false e true f = tt
      by false e false f = (ltb-false n least e, ltb-false most n f)

  number_in_range : (word : List ℕ) → IfOk (number_from line least most more word) (λ n. (least ≤ n) × (n ≤ most))
  unfolding number_from
  number_in_range word = range_by _

-- a stream's number is new and below 8
module _ (streams : List Stream) (line : ℕ) where
  new_by : (n : ℕ) → n ≤ 7 → (b : Bool) → list_any (λ x. nat_eq x.number n) streams ≡ b → IfOk (cond b (Err (Bad line SecondStream)) (Ok n)) (λ n. (n < 8) × (list_any (λ x. nat_eq x.number n) streams ≡ false))
  new_by n low true e = tt
  new_by n low false e = (omega arith, e)

  number_holds : (word : List ℕ) → IfOk (stream_number streams line word) (λ n. (n < 8) × (list_any (λ x. nat_eq x.number n) streams ≡ false))
  unfolding stream_number new_number
  number_holds word =
      then_ok (number_from line 0 7 (Over line Streams 8) word) (new_number streams line) (λ n. (0 ≤ n) × (n ≤ 7)) (λ n. (n < 8) × (list_any (λ x. nat_eq x.number n) streams ≡ false)) (number_in_range line 0 7 (Over line Streams 8) word)
      (λ n h. new_by n h.1 (list_any (λ x. nat_eq x.number n) streams) refl)

-- a mode is one
mode_holds : (line : ℕ) (w : ModeWords) → IfOk (mode_of line w) IsMode
unfolding mode_of
mode_holds line WaitForAll = tt
mode_holds line (TimeOut ticks) = then_ok (number_from line 1 1000 (Bad line BadNumber) ticks) (λ t. Ok (mode.TimeOut t)) (λ n. (1 ≤ n) × (n ≤ 1000)) IsMode (number_in_range line 1 1000 (Bad line BadNumber) ticks) (λ t h. h)
mode_holds line DontWait = tt

-- some daemons, ascending
pub record AreDaemons (t : Nodes) (daemons : List ℕ) : Type 0 where
  pub all : AllByRecursion (IsDaemon t) daemons
  pub increasing : IsStrictlyIncreasing daemons
  pub some : daemons ≢ []

module _ (t : Nodes) (is : IsTopology t) (line : ℕ) where
  daemon_by : (name : List ℕ) (o : Option ℕ) → daemon_named name t ≡ o → IfOk (some_or (Bad line NotADaemon) o) (IsDaemon t)
  daemon_by name None e = tt
  daemon_by name (Some n) e = let h = (found_by_name t is name n).0 e in (h.0, h.2)

  daemon_holds : (name : List ℕ) → IfOk (daemon_of t line name) (IsDaemon t)
  unfolding daemon_of
  daemon_holds name = daemon_by name (daemon_named name t) refl

  one_daemon : (n : ℕ) (daemons : List ℕ) → IsDaemon t n → AllByRecursion (IsDaemon t) daemons → IsStrictlyIncreasing daemons → AreDaemons t (with_number n daemons)
  one_daemon n daemons here all increasing = record { all = number_all n (IsDaemon t) daemons here all; increasing = number_increasing n daemons increasing; some = number_some n daemons }

  named_holds : (names : List (List ℕ)) (daemons : List ℕ) → AreDaemons t daemons → IfOk (with_named t line daemons names) (AreDaemons t)
  unfolding with_named
  named_holds [] daemons h = h
  named_holds (name ∷ names) daemons h =
      then_ok (daemon_of t line name) (λ n. with_named t line (with_number n daemons) names) (IsDaemon t) (AreDaemons t) (daemon_holds name) (λ n here. named_holds names (with_number n daemons) (one_daemon n daemons here h.all h.increasing))

  first_holds : (name : List ℕ) (names : List (List ℕ)) → IfOk (with_named t line [] (name ∷ names)) (AreDaemons t)
  unfolding with_named
  first_holds name names =
      then_ok (daemon_of t line name) (λ n. with_named t line (with_number n []) names) (IsDaemon t) (AreDaemons t) (daemon_holds name) (λ n here. named_holds names (with_number n []) (one_daemon n [] here tt tt))

  all_invariant : AreDaemons t (all_daemons t)
  unfolding all_daemons
  all_invariant =
      let d = some_daemon t.parents is.tree in
      record {
        all = passed_all (is_daemon t.parents) (IsDaemon t) (length t.parents) (λ y lt e. (lt, e));
        increasing = passed_increase (is_daemon t.parents) (length t.parents);
        some = passed_some (is_daemon t.parents) (length t.parents) d.0 d.1 d.2;
      }

  on_by : (name : List ℕ) (names : List (List ℕ)) (b : Bool) → IfOk (cond b (Ok (all_daemons t)) (with_named t line [] (name ∷ names))) (AreDaemons t)
  on_by name names true = all_invariant
  on_by name names false = first_holds name names

  pub daemons_holds : (names : List (List ℕ)) → IfOk (daemons_of t line names) (AreDaemons t)
  unfolding daemons_of
  daemons_holds [] = tt
  daemons_holds (name ∷ names) = on_by name names (bytes_eq name (codes "all"))

-- a new stream of a job
pub record IsNewStream (t : Nodes) (streams : List Stream) (x : Stream) : Type 0 where
  pub is : IsStream x
  pub daemons : AllByRecursion (IsDaemon t) x.daemons
  pub new : list_any (λ y. nat_eq y.number x.number) streams ≡ false

module _ (t : Nodes) (is : IsTopology t) (streams : List Stream) (line : ℕ) (w : StreamWords) where
  pub stream_holds : IfOk (stream_of t streams line w) (IsNewStream t streams)
  unfolding stream_of
  stream_holds =
      then_ok (stream_number streams line w.number) _ _ (IsNewStream t streams) (number_holds streams line w.number) (λ number a.
      then_ok (mode_of line w.mode) _ IsMode (IsNewStream t streams) (mode_holds line w.mode) (λ mode b.
      then_ok (number_from line 1 16 (Over line Waves 16) w.waves) _ _ (IsNewStream t streams) (number_in_range line 1 16 (Over line Waves 16) w.waves) (λ waves c.
      then_ok (number_from line 1 64 (Bad line BadNumber) w.samples) _ _ (IsNewStream t streams) (number_in_range line 1 64 (Bad line BadNumber) w.samples) (λ samples d.
      then_ok (daemons_of t line w.names) _ (AreDaemons t) (IsNewStream t streams) (daemons_holds t is line w.names) (λ daemons e. record {
        is = record { number = a.0; mode = b; has_waves = c.0; waves_within_limit = c.1; has_samples = d.0; samples_within_limit = d.1; has_daemons = e.some; daemons_increase = e.increasing };
        daemons = e.all;
        new = a.1;
      })))))

-- a loss is of a node that may be lost, and new
pub record IsNewFault (t : Nodes) (faults : List Fault) (f : Fault) : Type 0 where
  pub node : f.node < length t.parents
  pub other : f.node ≢ root_of t.parents
  pub new : list_any (λ g. nat_eq g.node f.node) faults ≡ false
  pub ranges : IsFault f
  pub limit : length faults < 256

-- a node that may be lost, and is not yet
IsFree : Nodes → List Fault → ℕ → Type 0
IsFree t faults n = (n < length t.parents) × (n ≢ root_of t.parents) × (list_any (λ g. nat_eq g.node n) faults ≡ false) × (length faults < 256)

module _ (t : Nodes) (is : IsTopology t) (faults : List Fault) (line : ℕ) where
  module _ (limit : length faults < 256) where
    lost_by : (n : ℕ) → n < length t.parents → (a : Bool) → nat_eq n (root_of t.parents) ≡ a → (b : Bool) → list_any (λ f. nat_eq f.node n) faults ≡ b → IfOk (cond a (Err (Bad line LosesFront)) (cond b (Err (Bad line SecondLoss)) (Ok n))) (IsFree t faults)
    unfolding IsFree
    lost_by n lt true e b f = tt
    lost_by n lt false e true f = tt
    lost_by n lt false e false f = (lt, eqb-false n (root_of t.parents) e, f, limit)

    as_lost_holds : (name : List ℕ) (o : Option ℕ) → number_of name t.names ≡ o → IfOk (as_lost t faults line o) (IsFree t faults)
    as_lost_holds name None e = tt
    as_lost_holds name (Some n) e = lost_by n ((let at = named name t.names n e in let lt = at.0 in omega (arith, lt, is.paired))) (nat_eq n (root_of t.parents)) refl (list_any (λ f. nat_eq f.node n) faults) refl

  below : nat_le 256 (length faults) ≡ false → length faults < 256
  below e = grind (arith, nat_tests)

  over_by : (name : List ℕ) (b : Bool) → nat_le 256 (length faults) ≡ b → IfOk (cond b (Err (Over line Faults 256)) (as_lost t faults line (number_of name t.names))) (IsFree t faults)
  over_by name true e = tt
  over_by name false e = as_lost_holds (below e) name (number_of name t.names) refl

  lost_holds : (name : List ℕ) → IfOk (lost_node t faults line name) (IsFree t faults)
  unfolding lost_node
  lost_holds name = over_by name (nat_le 256 (length faults)) refl

  pub fault_holds : (w : LoseWords) → IfOk (fault_of t faults line w) (IsNewFault t faults)
  unfolding fault_of IsFree
  fault_holds w =
      then_ok (lost_node t faults line w.name) _ (IsFree t faults) (IsNewFault t faults) (lost_holds w.name) (λ n a.
      then_ok (number_from line 0 65535 (Bad line BadNumber) w.after) _ _ (IsNewFault t faults) (number_in_range line 0 65535 (Bad line BadNumber) w.after) (λ after b.
      then_ok (number_from line 0 65535 (Bad line BadNumber) w.keep) _ _ (IsNewFault t faults) (number_in_range line 0 65535 (Bad line BadNumber) w.keep) (λ keep c. record { node = a.0; other = a.1; new = a.2; ranges = record { after = b.1; keep = c.1 }; limit = a.3 })))

-- it holds before the first line
pub nothing_holds : (t : Nodes) → ParserInvariant t (scripted [] [])
nothing_holds t = record { streams = tt; streams_increase = tt; fault_ranges = tt; faults_limit = zero-le; faults_increase = tt; daemons = tt; faults = tt }

module _ (t : Nodes) (is : IsTopology t) where
  module _ (c : Scripted) (line : ℕ) (h : ParserInvariant t c) where
    stream_more : (x : Stream) → IsNewStream t c.streams x → ParserInvariant t (scripted (with_stream x c.streams) c.faults)
    stream_more x new = record {
      streams = all_placed (λ (y : Stream). y.number) x IsStream c.streams new.is h.streams;
      streams_increase = placed_increasing (λ (y : Stream). y.number) x c.streams new.new h.streams_increase;
      fault_ranges = h.fault_ranges;
      faults_limit = h.faults_limit;
      faults_increase = h.faults_increase;
      daemons = all_placed (λ (y : Stream). y.number) x (λ y. AllByRecursion (IsDaemon t) y.daemons) c.streams new.daemons h.daemons;
      faults = h.faults;
    }

    fault_more : (f : Fault) → IsNewFault t c.faults f → ParserInvariant t (scripted c.streams (with_fault f c.faults))
    fault_more f new = record {
      streams = h.streams;
      streams_increase = h.streams_increase;
      fault_ranges = all_placed (λ (g : Fault). g.node) f IsFault c.faults new.ranges h.fault_ranges;
      faults_limit = (let long = length_placed (λ (g : Fault). g.node) f c.faults in let limit = new.limit in omega arith);
      faults_increase = placed_increasing (λ (g : Fault). g.node) f c.faults new.new h.faults_increase;
      daemons = h.daemons;
      faults = all_placed (λ (g : Fault). g.node) f (λ g. (g.node < length t.parents) × (g.node ≢ root_of t.parents)) c.faults (new.node, new.other) h.faults;
    }

    after_stream_holds : (o : Option StreamWords) → IfOk (with_stream_line t c line o) (ParserInvariant t)
    after_stream_holds None = tt
    after_stream_holds (Some w) = then_ok (stream_of t c.streams line w) (λ x. Ok (scripted (with_stream x c.streams) c.faults)) (IsNewStream t c.streams) (ParserInvariant t) (stream_holds t is c.streams line w) stream_more

    after_lose_holds : (o : Option LoseWords) → IfOk (with_lose_line t c line o) (ParserInvariant t)
    after_lose_holds None = tt
    after_lose_holds (Some w) = then_ok (fault_of t c.faults line w) (λ f. Ok (scripted c.streams (with_fault f c.faults))) (IsNewFault t c.faults) (ParserInvariant t) (fault_holds t is c.faults line w) fault_more

    words_by : (rest : List (List ℕ)) (a b : Bool) → IfOk (cond a (with_stream_line t c line (stream_words rest)) (cond b (with_lose_line t c line (lose_words rest)) (Err (Bad line BadDirective)))) (ParserInvariant t)
    words_by rest true b = after_stream_holds (stream_words rest)
    words_by rest false true = after_lose_holds (lose_words rest)
    words_by rest false false = tt

    words_holds : (ws : List (List ℕ)) → IfOk (with_words t c line ws) (ParserInvariant t)
    unfolding with_words
    words_holds [] = tt
    words_holds (word ∷ rest) = words_by rest (bytes_eq word (codes "stream")) (bytes_eq word (codes "lose"))

    line_by : (text : List ℕ) (b : Bool) → IfOk (elim b as (λ _. Result Scripted TextError) [ true ↦ Ok c | false ↦ with_words t c line (words text) ]) (ParserInvariant t)
    line_by text true = h
    line_by text false = words_holds (words text)

    line_holds : (text : List ℕ) → IfOk (with_line t c line text) (ParserInvariant t)
    unfolding with_line
    line_holds text = line_by text (says_nothing text)

  -- it holds after lines where it holds before them
  pub lines_holds : (ls : List (List ℕ)) (c : Scripted) (line : ℕ) → ParserInvariant t c → IfOk (parsed_lines (with_line t) c line ls) (ParserInvariant t)
  unfolding parsed_lines
  lines_holds [] c line h = h
  lines_holds (text ∷ rest) c line h =
      then_ok (with_line t c line text) (λ d. parsed_lines (with_line t) d (suc line) rest) (ParserInvariant t) (ParserInvariant t) (line_holds c line h text) (λ d k. lines_holds rest d (suc line) k)

-- a script of a job, where the invariant holds and there is a stream
pub script_from_invariant : (t : Nodes) (c : Scripted) → ParserInvariant t c → c.streams ≢ [] → IsScript c
script_from_invariant t c h some = record { some = some; streams = h.streams; streams_increase = h.streams_increase; faults = h.fault_ranges; faults_limit = h.faults_limit; faults_increase = h.faults_increase }

pub fits_from_invariant : (t : Nodes) (c : Scripted) → ParserInvariant t c → ScriptFits t c
fits_from_invariant t c h = record { daemons = h.daemons; faults = h.faults }

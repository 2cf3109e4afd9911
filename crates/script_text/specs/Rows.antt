-- Scripts, and what they stand for.
use Rattle.std.specs.Prelude.{◌≡◌, refl, ℕ, List, [], ◌∷◌, ◌++◌, None, Some, Ok, Err, Result, codes}
use Rattle.text_lines.specs.Lines.{pieces, words}
use Rattle.text_lines.specs.Parsing.{parsed_lines}
use Rattle.overlay_setup.specs.Daemons.{daemon_named}
use Rattle.overlay_setup.specs.Names.{number_of}
use Rattle.overlay_setup.specs.Scripts.{Scripted, stream, scripted}
use Rattle.overlay_setup.specs.Topologies.{Nodes, topology}
use Rattle.overlay_setup.specs.declared.script.Grain.TheVariants.{Line, Function}
use Rattle.overlay_setup.specs.declared.script.Mode.TheVariants as mode
use Rattle.text_lines.specs.declared.text_error.TextError.{TextError}
use Rattle.text_lines.specs.declared.text_error.TextError.TheVariants.{Bad, Over}
use Rattle.text_lines.specs.declared.text_error.Reason.TheVariants.{BadDirective, BadNumber, SecondStream, NotADaemon, UnknownNode, LosesFront, SecondLoss, NoStream}
use Rattle.text_lines.specs.declared.text_error.Quantity.TheVariants.{Streams, Waves}
use Rattle.script_text.specs.Words.{after_by, after_grain, after_mode, after_samples, grain_of, stream_words, lose_words}
use Rattle.script_text.specs.Numbers.{number_from}
use Rattle.script_text.specs.Streams.{new_number, stream_number, mode_of, daemon_of, with_named, all_daemons, daemons_of, stream_of}
use Rattle.script_text.specs.Losses.{lost_node, fault_of}
use Rattle.script_text.specs.Whole.{with_words, with_line, script_of}

-- a front end `f` with the daemons `a` and `b`
abbrev job : Nodes
job = topology (codes "f" ∷ codes "b" ∷ codes "a" ∷ []) (None ∷ Some 0 ∷ Some 0 ∷ [])

abbrev read : List ℕ → Result Scripted TextError
read text = script_of job text

abbrev line : List ℕ → List ℕ
line text = text ++ 10 ∷ []

-- a good stream line with this digit as its number
abbrev good : ℕ → List ℕ
good s = line (codes "stream " ++ s ∷ codes " dont-wait waves 1 samples 1 on a")

-- the least script
whole : read (codes "stream 0 dont-wait waves 1 samples 1 on all") ≡ Ok (scripted (stream 0 mode.DontWait 1 1 Line (1 ∷ 2 ∷ []) ∷ []) [])
unfolding pieces words number_of after_mode after_samples after_by after_grain grain_of stream_words lose_words number_from new_number stream_number mode_of daemon_of with_named all_daemons daemons_of stream_of lost_node fault_of with_words with_line parsed_lines script_of daemon_named
whole = refl

-- streams and losses come out ascending, and a daemon that is named twice is there once
in_order : read (line (codes "stream 1 time-out 1000 waves 16 samples 64 on a b a") ++ line (codes "# x") ++ codes " stream 0 wait-for-all waves 1 samples 01 on b" ++ 13 ∷ 10 ∷ line (codes "lose a after 65535 keep 0") ++ line (codes "lose b after 0 keep 7 ")) ≡ Ok (scripted (stream 0 mode.WaitForAll 1 1 Line (1 ∷ []) ∷ stream 1 (mode.TimeOut 1000) 16 64 Line (1 ∷ 2 ∷ []) ∷ []) (record { node = 1; after = 0; keep = 7 } ∷ record { node = 2; after = 65535; keep = 0 } ∷ []))
unfolding pieces words number_of after_mode after_samples after_by after_grain grain_of stream_words lose_words number_from new_number stream_number mode_of daemon_of with_named all_daemons daemons_of stream_of lost_node fault_of with_words with_line parsed_lines script_of daemon_named
in_order = refl

-- a stream may look at functions alone
by_function : read (codes "stream 0 dont-wait waves 1 samples 1 by function on all") ≡ Ok (scripted (stream 0 mode.DontWait 1 1 Function (1 ∷ 2 ∷ []) ∷ []) [])
unfolding pieces words number_of after_mode after_samples after_by after_grain grain_of stream_words lose_words number_from new_number stream_number mode_of daemon_of with_named all_daemons daemons_of stream_of lost_node fault_of with_words with_line parsed_lines script_of daemon_named
by_function = refl

-- by line is what it does without the word
by_line : read (codes "stream 0 dont-wait waves 1 samples 1 by line on all") ≡ Ok (scripted (stream 0 mode.DontWait 1 1 Line (1 ∷ 2 ∷ []) ∷ []) [])
unfolding pieces words number_of after_mode after_samples after_by after_grain grain_of stream_words lose_words number_from new_number stream_number mode_of daemon_of with_named all_daemons daemons_of stream_of lost_node fault_of with_words with_line parsed_lines script_of daemon_named
by_line = refl

-- there is no other grain, and it stands before `on`, with the fixed words
by_word : read (codes "stream x dont-wait waves 1 samples 1 by word on all") ≡ Err (Bad 1 BadDirective)
unfolding pieces words number_of after_mode after_samples after_by after_grain grain_of stream_words lose_words number_from new_number stream_number mode_of daemon_of with_named all_daemons daemons_of stream_of lost_node fault_of with_words with_line parsed_lines script_of daemon_named
by_word = refl

by_nothing : read (codes "stream 0 dont-wait waves 1 samples 1 by") ≡ Err (Bad 1 BadDirective)
unfolding pieces words number_of after_mode after_samples after_by after_grain grain_of stream_words lose_words number_from new_number stream_number mode_of daemon_of with_named all_daemons daemons_of stream_of lost_node fault_of with_words with_line parsed_lines script_of daemon_named
by_nothing = refl

by_without_on : read (codes "stream 0 dont-wait waves 1 samples 1 by line all") ≡ Err (Bad 1 BadDirective)
unfolding pieces words number_of after_mode after_samples after_by after_grain grain_of stream_words lose_words number_from new_number stream_number mode_of daemon_of with_named all_daemons daemons_of stream_of lost_node fault_of with_words with_line parsed_lines script_of daemon_named
by_without_on = refl

-- a text must have a stream
empty : read ([]) ≡ Err (Bad 0 NoStream)
unfolding pieces words number_of after_mode after_samples after_by after_grain grain_of stream_words lose_words number_from new_number stream_number mode_of daemon_of with_named all_daemons daemons_of stream_of lost_node fault_of with_words with_line parsed_lines script_of daemon_named
empty = refl

-- a loss is no stream
only_a_loss : read (codes "lose a after 1 keep 1") ≡ Err (Bad 0 NoStream)
unfolding pieces words number_of after_mode after_samples after_by after_grain grain_of stream_words lose_words number_from new_number stream_number mode_of daemon_of with_named all_daemons daemons_of stream_of lost_node fault_of with_words with_line parsed_lines script_of daemon_named
only_a_loss = refl

-- nothing follows `all`
all_and_more : read (codes "stream 0 dont-wait waves 1 samples 1 on all a") ≡ Err (Bad 1 BadDirective)
unfolding pieces words number_of after_mode after_samples after_by after_grain grain_of stream_words lose_words number_from new_number stream_number mode_of daemon_of with_named all_daemons daemons_of stream_of lost_node fault_of with_words with_line parsed_lines script_of daemon_named
all_and_more = refl

-- after a name `all` is a name
all_later : read (codes "stream 0 dont-wait waves 1 samples 1 on a all") ≡ Err (Bad 1 NotADaemon)
unfolding pieces words number_of after_mode after_samples after_by after_grain grain_of stream_words lose_words number_from new_number stream_number mode_of daemon_of with_named all_daemons daemons_of stream_of lost_node fault_of with_words with_line parsed_lines script_of daemon_named
all_later = refl

-- something follows `on`
no_names : read (codes "stream 0 dont-wait waves 1 samples 1 on") ≡ Err (Bad 1 BadDirective)
unfolding pieces words number_of after_mode after_samples after_by after_grain grain_of stream_words lose_words number_from new_number stream_number mode_of daemon_of with_named all_daemons daemons_of stream_of lost_node fault_of with_words with_line parsed_lines script_of daemon_named
no_names = refl

-- fixed words are looked at before numbers and names
fixed_words_first : read (codes "stream x time-out 0 waves 0 sample 0 on x") ≡ Err (Bad 1 BadDirective)
unfolding pieces words number_of after_mode after_samples after_by after_grain grain_of stream_words lose_words number_from new_number stream_number mode_of daemon_of with_named all_daemons daemons_of stream_of lost_node fault_of with_words with_line parsed_lines script_of daemon_named
fixed_words_first = refl

-- a stream has a number
number_bad : read (codes "stream x dont-wait waves 1 samples 1 on a") ≡ Err (Bad 1 BadNumber)
unfolding pieces words number_of after_mode after_samples after_by after_grain grain_of stream_words lose_words number_from new_number stream_number mode_of daemon_of with_named all_daemons daemons_of stream_of lost_node fault_of with_words with_line parsed_lines script_of daemon_named
number_bad = refl

-- streams are numbered 0 to 7
number_over : read (codes "stream 8 dont-wait waves 1 samples 1 on a") ≡ Err (Over 1 Streams 8)
unfolding pieces words number_of after_mode after_samples after_by after_grain grain_of stream_words lose_words number_from new_number stream_number mode_of daemon_of with_named all_daemons daemons_of stream_of lost_node fault_of with_words with_line parsed_lines script_of daemon_named
number_over = refl

-- a stream is defined once
number_twice : read (good 55 ++ good 55) ≡ Err (Bad 2 SecondStream)
unfolding pieces words number_of after_mode after_samples after_by after_grain grain_of stream_words lose_words number_from new_number stream_number mode_of daemon_of with_named all_daemons daemons_of stream_of lost_node fault_of with_words with_line parsed_lines script_of daemon_named
number_twice = refl

-- a timeout is 1 tick or more
ticks_none : read (codes "stream 0 time-out 0 waves 1 samples 1 on a") ≡ Err (Bad 1 BadNumber)
unfolding pieces words number_of after_mode after_samples after_by after_grain grain_of stream_words lose_words number_from new_number stream_number mode_of daemon_of with_named all_daemons daemons_of stream_of lost_node fault_of with_words with_line parsed_lines script_of daemon_named
ticks_none = refl

-- and at most 1,000
ticks_over : read (codes "stream 0 time-out 1001 waves 1 samples 1 on a") ≡ Err (Bad 1 BadNumber)
unfolding pieces words number_of after_mode after_samples after_by after_grain grain_of stream_words lose_words number_from new_number stream_number mode_of daemon_of with_named all_daemons daemons_of stream_of lost_node fault_of with_words with_line parsed_lines script_of daemon_named
ticks_over = refl

-- there is a wave
waves_none : read (codes "stream 0 dont-wait waves 0 samples 1 on a") ≡ Err (Bad 1 BadNumber)
unfolding pieces words number_of after_mode after_samples after_by after_grain grain_of stream_words lose_words number_from new_number stream_number mode_of daemon_of with_named all_daemons daemons_of stream_of lost_node fault_of with_words with_line parsed_lines script_of daemon_named
waves_none = refl

-- and at most 16
waves_over : read (codes "stream 0 dont-wait waves 17 samples 1 on a") ≡ Err (Over 1 Waves 16)
unfolding pieces words number_of after_mode after_samples after_by after_grain grain_of stream_words lose_words number_from new_number stream_number mode_of daemon_of with_named all_daemons daemons_of stream_of lost_node fault_of with_words with_line parsed_lines script_of daemon_named
waves_over = refl

-- a wave has at most 64 sample times
samples_over : read (codes "stream 0 dont-wait waves 1 samples 65 on a") ≡ Err (Bad 1 BadNumber)
unfolding pieces words number_of after_mode after_samples after_by after_grain grain_of stream_words lose_words number_from new_number stream_number mode_of daemon_of with_named all_daemons daemons_of stream_of lost_node fault_of with_words with_line parsed_lines script_of daemon_named
samples_over = refl

-- the front end is no daemon
front_named : read (codes "stream 0 dont-wait waves 1 samples 1 on a f x") ≡ Err (Bad 1 NotADaemon)
unfolding pieces words number_of after_mode after_samples after_by after_grain grain_of stream_words lose_words number_from new_number stream_number mode_of daemon_of with_named all_daemons daemons_of stream_of lost_node fault_of with_words with_line parsed_lines script_of daemon_named
front_named = refl

-- a node that is lost is one of the job
loss_unknown : read (codes "lose x after 1 keep 1") ≡ Err (Bad 1 UnknownNode)
unfolding pieces words number_of after_mode after_samples after_by after_grain grain_of stream_words lose_words number_from new_number stream_number mode_of daemon_of with_named all_daemons daemons_of stream_of lost_node fault_of with_words with_line parsed_lines script_of daemon_named
loss_unknown = refl

-- the front end stays
loss_of_front : read (good 48 ++ codes "lose f after x keep 1") ≡ Err (Bad 2 LosesFront)
unfolding pieces words number_of after_mode after_samples after_by after_grain grain_of stream_words lose_words number_from new_number stream_number mode_of daemon_of with_named all_daemons daemons_of stream_of lost_node fault_of with_words with_line parsed_lines script_of daemon_named
loss_of_front = refl

-- a node is lost once
loss_twice : read (line (codes "lose a after 1 keep 1") ++ codes "lose a after x keep 1") ≡ Err (Bad 2 SecondLoss)
unfolding pieces words number_of after_mode after_samples after_by after_grain grain_of stream_words lose_words number_from new_number stream_number mode_of daemon_of with_named all_daemons daemons_of stream_of lost_node fault_of with_words with_line parsed_lines script_of daemon_named
loss_twice = refl

-- counts are at most 65,535
keep_over : read (codes "lose a after 65535 keep 65536") ≡ Err (Bad 1 BadNumber)
unfolding pieces words number_of after_mode after_samples after_by after_grain grain_of stream_words lose_words number_from new_number stream_number mode_of daemon_of with_named all_daemons daemons_of stream_of lost_node fault_of with_words with_line parsed_lines script_of daemon_named
keep_over = refl

-- `after` stands before `keep`
turned : read (codes "lose a keep 1 after 2") ≡ Err (Bad 1 BadDirective)
unfolding pieces words number_of after_mode after_samples after_by after_grain grain_of stream_words lose_words number_from new_number stream_number mode_of daemon_of with_named all_daemons daemons_of stream_of lost_node fault_of with_words with_line parsed_lines script_of daemon_named
turned = refl

-- the first error decides
first_fault : read (line (codes "lose") ++ codes "stream") ≡ Err (Bad 1 BadDirective)
unfolding pieces words number_of after_mode after_samples after_by after_grain grain_of stream_words lose_words number_from new_number stream_number mode_of daemon_of with_named all_daemons daemons_of stream_of lost_node fault_of with_words with_line parsed_lines script_of daemon_named
first_fault = refl

-- Samples texts of a job with a front end and two daemons, and what they stand for.
use Rattle.std.specs.Prelude.{◌≡◌, refl, ℕ, List, [], ◌∷◌, ◌++◌, None, Some, Result, Ok, Err, codes}
use Rattle.rank_set.specs.Ranks.{none, set_of}
use Rattle.stat_plan.specs.Plans.{Sampled, sampled}
use Rattle.overlay_setup.specs.Topologies.{Nodes, topology}
use Rattle.text_lines.specs.declared.text_error.TextError.{TextError}
use Rattle.text_lines.specs.declared.text_error.TextError.TheVariants.{Bad, Over}
use Rattle.text_lines.specs.declared.text_error.Reason.TheVariants.{NotUtf8, BadDirective, NotADaemon, BadRanks, PlacedTwice, BadTime, Unplaced, BadPath, DaemonWithoutRank}
use Rattle.text_lines.specs.declared.text_error.Quantity.TheVariants.{Ranks}
use Rattle.text_lines.specs.Lines.{pieces, words}
use Rattle.overlay_setup.specs.Names.{number_of}
use Rattle.rank_set.specs.Ranks.{has, those, union, with_rank}
use Rattle.rank_set.specs.Runs.{ranks_between}
use Rattle.rank_set.specs.RanksText.{items, item_at, ranks_at}
use Rattle.call_path.specs.Reading.{first_error, frame_error, frames}
use Rattle.std.specs.Str.{is_utf8, chars}
use Rattle.sample_text.specs.Words.{read_line}
use Rattle.sample_text.specs.Steps.{daemon_on, time_on, path_on, are_disjoint, sample, with_daemon, with_stack}
use Rattle.text_lines.specs.RanksWords.{ranks_on}
use Rattle.text_lines.specs.Parsing.{parsed_lines}
use Rattle.overlay_setup.specs.Daemons.{daemon_named}
use Rattle.sample_text.specs.Whole.{samples_of_text}

-- `fe:0 => a:0 b:0 ;`
abbrev job : Nodes
job = topology (codes "fe:0" ∷ codes "a:0" ∷ codes "b:0" ∷ []) (None ∷ Some 0 ∷ Some 0 ∷ [])

abbrev line : List ℕ → List ℕ
line text = text ++ 10 ∷ []

-- what a text says
abbrev parsed : List ℕ → Result Sampled TextError
parsed text = samples_of_text job text

two_daemons : parsed (line (codes "daemon a:0 1,0") ++ line (codes "# x") ++ line (codes "daemon b:0 2") ++ line (codes "stack 007 0-1  m ;a ")) ≡ Ok (sampled (none ∷ set_of (0 ∷ 1 ∷ []) ∷ set_of (2 ∷ []) ∷ []) (sample 7 (set_of (0 ∷ 1 ∷ [])) (codes "m " ∷ codes "a " ∷ []) ∷ []))
unfolding pieces words number_of has those union with_rank ranks_between items item_at ranks_at first_error frame_error frames is_utf8 chars read_line daemon_on daemon_named ranks_on time_on path_on are_disjoint with_daemon with_stack parsed_lines lib.Utf8.encode
two_daemons = refl

no_text : parsed [] ≡ Err (Bad 0 DaemonWithoutRank)
unfolding pieces parsed_lines
no_text = refl

one_daemon : parsed (codes "daemon a:0 1") ≡ Err (Bad 0 DaemonWithoutRank)
unfolding pieces words number_of has those union with_rank ranks_between items item_at ranks_at is_utf8 chars read_line daemon_on daemon_named ranks_on are_disjoint with_daemon parsed_lines lib.Utf8.encode
one_daemon = refl

not_utf8 : parsed (line [] ++ 255 ∷ []) ≡ Err (Bad 2 NotUtf8)
unfolding pieces words is_utf8 chars read_line parsed_lines lib.Utf8.encode
not_utf8 = refl

few_words : parsed (codes "stack 0 1 ") ≡ Err (Bad 1 BadDirective)
unfolding pieces words is_utf8 chars read_line parsed_lines lib.Utf8.encode
few_words = refl

many_words : parsed (codes "daemon a:0 1 2") ≡ Err (Bad 1 BadDirective)
unfolding pieces words is_utf8 chars read_line parsed_lines lib.Utf8.encode
many_words = refl

front_end : parsed (codes "daemon fe:0 1") ≡ Err (Bad 1 NotADaemon)
unfolding pieces words number_of is_utf8 chars read_line daemon_on daemon_named with_daemon parsed_lines lib.Utf8.encode
front_end = refl

unknown : parsed (codes "daemon c:0 1") ≡ Err (Bad 1 NotADaemon)
unfolding pieces words number_of is_utf8 chars read_line daemon_on daemon_named with_daemon parsed_lines lib.Utf8.encode
unknown = refl

bad_ranks : parsed (codes "daemon a:0 1-") ≡ Err (Bad 1 BadRanks)
unfolding pieces words number_of items item_at ranks_at is_utf8 chars read_line daemon_on daemon_named ranks_on with_daemon parsed_lines lib.Utf8.encode
bad_ranks = refl

over_ranks : parsed (codes "daemon a:0 1048576") ≡ Err (Over 1 Ranks 1048576)
unfolding pieces words number_of items item_at ranks_at is_utf8 chars read_line daemon_on daemon_named ranks_on with_daemon parsed_lines lib.Utf8.encode
over_ranks = refl

placed_twice : parsed (line (codes "daemon a:0 1,1") ++ codes "daemon a:0 1") ≡ Err (Bad 2 PlacedTwice)
unfolding pieces words number_of has those union with_rank ranks_between items item_at ranks_at is_utf8 chars read_line daemon_on daemon_named ranks_on are_disjoint with_daemon parsed_lines lib.Utf8.encode
placed_twice = refl

bad_time : parsed (codes "stack 65536 x x") ≡ Err (Bad 1 BadTime)
unfolding pieces words is_utf8 chars read_line time_on with_stack parsed_lines lib.Utf8.encode
bad_time = refl

unplaced : parsed (codes "stack 65535 1 ;") ≡ Err (Bad 1 Unplaced)
unfolding pieces words has union with_rank ranks_between items item_at ranks_at is_utf8 chars read_line ranks_on time_on with_stack parsed_lines lib.Utf8.encode
unplaced = refl

bad_path : parsed (line (codes "daemon a:0 1") ++ codes "stack 0 1 ;") ≡ Err (Bad 2 BadPath)
unfolding pieces words number_of has those union with_rank ranks_between items item_at ranks_at first_error frame_error frames is_utf8 chars read_line daemon_on daemon_named ranks_on time_on path_on are_disjoint with_daemon with_stack parsed_lines lib.Utf8.encode
bad_path = refl

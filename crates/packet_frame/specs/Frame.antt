-- The fields of a frame, with their rules and refusals in order. Versions 1 and 2 differ in the coverage, in the limit of
-- words, and in what the bits of a row's ends stand for.
use Rattle.std.specs.Prelude.{ℕ, suc, ◌+◌, ◌-◌, Bool, true, false, cond, not, ◌&&◌, ◌||◌, List, [], ◌∷◌, ◌++◌, length, take, slice_get, Option, Some, None, nat_lt, nat_le, nat_eq}
use Rattle.std.specs.Int.{w8, w16, w32, w64}
use Rattle.std.specs.Str.{is_utf8}
use Rattle.std.specs.List.{list_all}
use Rattle.std.specs.Ordering.{nat_cmp, is_lt}
use Rattle.std.specs.Cmp.Lexicographic.{slice_cmp}
use Rattle.rank_set.specs.declared.TheConstants.{RANK_LIMIT}
use Rattle.rank_set.specs.Ranks.{Ranks, in_order, size, is_subset, is_empty}
use Rattle.rank_set.specs.Runs.{ranks_of_runs}
use Rattle.rank_set.specs.Words.{ranks_in}
use Rattle.rank_places.specs.Places.{from_places}
use Rattle.call_path.specs.Path.{Path}
use Rattle.call_path.specs.Good.{is_plain}
use Rattle.packet_frame.specs.declared.error.FrameReason.{FrameReason}
use Rattle.packet_frame.specs.declared.error.FrameReason.TheVariants.{BadKind, BadLength, NotCanonical, OverLimit}
use Rattle.packet_frame.specs.declared.packet.Packet.{Packet}
use Rattle.packet_frame.specs.declared.packet.Packet.TheVariants.{Up, Done, Attach, Down}
use Rattle.packet_frame.specs.Fields.{Form, whole, field, ◌>>=◌, Rules, broken, number, list_form}

-- a row: its path, and the ranks whose path ends there
pub record Row : Type 0 where
  pub path : Path
  pub ends : Ranks

abbrev pub row_of : Path → Ranks → Row
row_of p e = record { path = p; ends = e }

-- a tree as it is sent: its coverage, and its rows besides the root in order
pub record Sent : Type 0 where
  pub coverage : Ranks
  pub rows : List Row

abbrev pub sent_of : Ranks → List Row → Sent
sent_of cover rows = record { coverage = cover; rows = rows }

abbrev pub Message : Type 0
Message = Packet Sent

-- ---- a set of numbers as words

-- the rules of a word: not 0 where it is the first or the last, and those of its index
unfoldable pub word_form : (ℕ → ℕ → Rules) → ℕ → Bool → Form ℕ
word_form of_word index edge = number w64 (λ n. (not edge || not (nat_eq n 0), NotCanonical) ∷ of_word index n)

-- its index, and whether it is the first
abbrev pub next_word : (ℕ → ℕ → Rules) → ℕ → ℕ × Bool → Form ℕ
next_word of_word left state = word_form of_word state.0 (state.1 || nat_eq left 0)

abbrev pub after_word : ℕ × Bool → ℕ → ℕ × Bool
after_word state word = (suc state.0, false)

unfoldable pub words_form : (ℕ → ℕ → Rules) → ℕ → ℕ → Form (List ℕ)
words_form of_word offset count = list_form (next_word of_word) after_word (offset, true) count

unfoldable pub offset_form : ℕ → Form ℕ
offset_form limit = number w16 (λ n. (nat_lt n limit, OverLimit) ∷ [])

-- where the set may not be empty, the refusal
abbrev pub if_needed : Option FrameReason → ℕ → Rules
if_needed None n = []
if_needed (Some reason) n = (not (nat_eq n 0), reason) ∷ []

unfoldable pub word_count_form : ℕ → Option FrameReason → ℕ → Form ℕ
word_count_form limit needed offset = number w16 (λ n. (nat_le (offset + n) limit, OverLimit) ∷ (nat_eq offset 0 || not (nat_eq n 0), NotCanonical) ∷ if_needed needed n)

-- bit i of word k stands for the number 64 * k + i
unfoldable pub set_form : ℕ → Option FrameReason → (ℕ → ℕ → Rules) → Form Ranks
set_form limit needed of_word = do
  offset ← offset_form limit
  count ← word_count_form limit needed offset
  words ← words_form of_word offset count
  whole (ranks_in offset words)

-- ---- the coverage

abbrev pub is_first : ℕ → Bool
is_first version = nat_eq version 1

-- how many words a set may reach over
abbrev pub word_limit : ℕ → ℕ
word_limit version = cond (is_first version) 256 16384

abbrev pub no_rules : ℕ → ℕ → Rules
no_rules index n = []

unfoldable pub run_count_form : Form ℕ
run_count_form = number w32 (λ n. (not (nat_eq n 0), BadLength) ∷ (nat_le n 524288, OverLimit) ∷ [])

-- at least as great as the run before asks, so that no two runs overlap or touch
unfoldable pub first_rank_form : ℕ → Form ℕ
first_rank_form least = number w32 (λ n. (nat_lt n RANK_LIMIT, OverLimit) ∷ (nat_le least n, NotCanonical) ∷ [])

unfoldable pub last_rank_form : ℕ → Form ℕ
last_rank_form first = number w32 (λ n. (nat_lt n RANK_LIMIT, OverLimit) ∷ (nat_le first n, NotCanonical) ∷ [])

unfoldable pub run_form : ℕ → Form (ℕ × ℕ)
run_form least = do
  first ← first_rank_form least
  last ← last_rank_form first
  whole (first, last)

abbrev pub next_run : ℕ → ℕ → Form (ℕ × ℕ)
next_run left least = run_form least

abbrev pub after_run : ℕ → ℕ × ℕ → ℕ
after_run least run = run.1 + 2

unfoldable pub runs_form : Form Ranks
runs_form = do
  count ← run_count_form
  runs ← list_form next_run after_run 0 count
  whole (ranks_of_runs runs)

unfoldable pub coverage_form : ℕ → Form Ranks
coverage_form version = cond (is_first version) (set_form 256 (Some BadLength) no_rules) runs_form

-- ---- the ends of a row

-- version 1: each rank is covered; version 2: each place is below the number of covered ranks
unfoldable pub ends_rule : ℕ → Ranks → ℕ → ℕ → Rules
ends_rule version cover index n =
    let numbers = ranks_in index (n ∷ []) in
    (cond (is_first version) (is_subset numbers cover) (list_all (λ p. nat_lt p (size cover)) (in_order numbers)), NotCanonical) ∷ []

-- the ranks that the numbers stand for: themselves, or the covered ranks at these places
abbrev pub ranks_at : ℕ → Ranks → Ranks → Ranks
ranks_at version cover numbers = cond (is_first version) numbers (from_places cover numbers)

-- in the last row and at depth 128 some paths must end
abbrev pub ends_needed : ℕ → Bool → Option FrameReason
ends_needed depth last = cond (last || nat_eq depth 128) (Some NotCanonical) None

unfoldable pub ends_form : ℕ → Ranks → ℕ → Bool → Form Ranks
ends_form version cover depth last = do
  numbers ← set_form (word_limit version) (ends_needed depth last) (ends_rule version cover)
  whole (ranks_at version cover numbers)

-- ---- a row

-- text without control bytes and without `;`
abbrev pub is_name : List ℕ → Bool
is_name bytes = is_utf8 bytes && list_all is_plain bytes

-- greater than the sibling before it, where there is one
abbrev pub is_after : Option (List ℕ) → List ℕ → Bool
is_after None bytes = true
is_after (Some sibling) bytes = is_lt (slice_cmp nat_cmp sibling bytes)

-- The path of the row before is empty before the first row. Its frame at a depth is the sibling before a row of that depth.
unfoldable pub depth_form : Path → Bool → Form ℕ
depth_form before ended = number w8 (λ n. (nat_le n 128, OverLimit) ∷ (nat_le 1 n && nat_le n (length before + 1), NotCanonical) ∷ (ended || nat_eq n (length before + 1), NotCanonical) ∷ [])

unfoldable pub name_length_form : Form ℕ
name_length_form = number w16 (λ n. (not (nat_eq n 0), BadLength) ∷ (nat_le n 1023, OverLimit) ∷ [])

unfoldable pub name_form : Path → ℕ → ℕ → Form (List ℕ)
name_form before depth len = field len (λ bytes. broken ((is_name bytes, NotCanonical) ∷ (is_after (slice_get before (depth - 1)) bytes, NotCanonical) ∷ [])) whole

-- the path of a row: the first frames of the row before, and the name
abbrev pub path_at : Path → ℕ → List ℕ → Path
path_at before depth name = take (depth - 1) before ++ name ∷ []

unfoldable pub row_form : ℕ → Ranks → Path → Bool → Bool → Form Row
row_form version cover before ended last = do
  depth ← depth_form before ended
  len ← name_length_form
  name ← name_form before depth len
  ends ← ends_form version cover depth last
  whole (row_of (path_at before depth name) ends)

-- the path of the row before, and whether paths end there
abbrev pub next_row : ℕ → Ranks → ℕ → Path × Bool → Form Row
next_row version cover left before = row_form version cover before.0 before.1 (nat_eq left 0)

abbrev pub after_row : Path × Bool → Row → Path × Bool
after_row before row = (row.path, not (is_empty row.ends))

-- ---- a frame

unfoldable pub version_form : Form ℕ
version_form = number w8 (λ n. (nat_eq n 1 || nat_eq n 2, BadKind) ∷ [])

unfoldable pub kind_form : Form ℕ
kind_form = number w8 (λ n. (nat_le 1 n && nat_le n 4, BadKind) ∷ [])

unfoldable pub stream_form : Form ℕ
stream_form = number w8 (λ n. (nat_lt n 8, OverLimit) ∷ [])

unfoldable pub wave_form : Form ℕ
wave_form = number w8 (λ n. (nat_lt n 16, OverLimit) ∷ [])

unfoldable pub row_count_form : Form ℕ
row_count_form = number w16 (λ n. (nat_le n 2048, OverLimit) ∷ [])

unfoldable pub tree_form : ℕ → ℕ → ℕ → Form Message
tree_form version stream wave = do
  cover ← coverage_form version
  count ← row_count_form
  rows ← list_form (next_row version cover) after_row ([], true) count
  whole (Up stream wave (sent_of cover rows))

-- what follows stream and wave: kind 1 has a tree, kind 2 nothing
unfoldable pub content_form : ℕ → ℕ → ℕ → ℕ → Form Message
content_form version kind stream wave = cond (nat_eq kind 1) (tree_form version stream wave) (whole (Done stream wave))

-- kinds 1 and 2 have a stream and a wave, kinds 3 and 4 nothing
unfoldable pub packet_form : ℕ → ℕ → Form Message
packet_form version kind = cond (nat_le kind 2) (stream_form >>= λ stream. wave_form >>= content_form version kind stream) (cond (nat_eq kind 3) (whole Attach) (whole Down))

unfoldable pub frame_form : Form Message
frame_form = do
  version ← version_form
  kind ← kind_form
  packet_form version kind

-- What is left to read of a frame, once some of its fields were read.
use Rattle.std.specs.Prelude.{◌≡◌, ℕ, ◌+◌, ◌-◌, ◌<◌, ◌≤◌, Bool, true, false, cond, not, nat_eq, nat_lt, ◌&&◌, List, [], ◌++◌, length, take, drop, slice_get, get_or, Option, Some, Result, Ok, Err}
use Rattle.std.specs.Int.{w8, w16, from_be_bytes}
use Rattle.std.specs.List.{list_all}
use Rattle.rank_set.specs.declared.TheConstants.{RANK_LIMIT}
use Rattle.rank_set.specs.Ranks.{Ranks, none, union, size, is_empty, is_subset, Has}
use Rattle.rank_set.specs.Runs.{ranks_between, ranks_of_runs}
use Rattle.rank_set.specs.Words.{ranks_in}
use Rattle.call_path.specs.Path.{Path}
use Rattle.call_path.specs.Good.{is_plain}
use Rattle.prefix_tree.specs.Tree.{Tree, tree_of}
use Rattle.packet_frame.specs.declared.error.FrameReason.{FrameReason}
use Rattle.packet_frame.specs.declared.error.FrameReason.TheVariants.{BadLength}
use Rattle.packet_frame.specs.declared.error.FieldError.{FieldError}
use Rattle.packet_frame.specs.declared.error.FieldError.TheVariants as errors
use Rattle.packet_frame.specs.declared.packet.Packet.{Packet}
use Rattle.packet_frame.specs.declared.packet.Packet.TheVariants.{Up, Done, Attach, Down}
use Rattle.packet_frame.specs.declared.scan.Field.{Field}
use Rattle.packet_frame.specs.declared.scan.Field.TheVariants as fields
use Rattle.packet_frame.specs.declared.scan.Part.{Part}
use Rattle.packet_frame.specs.declared.scan.Part.TheVariants as parts
use Rattle.packet_frame.specs.declared.scan.Scan.{Scan}
use Rattle.packet_frame.specs.Sent.{packet_map, tree_from}
use Rattle.packet_frame.specs.FrameRows.{grown, rows_onto, HasGrown}
use Rattle.packet_frame.specs.Fields.{Form, whole, ◌>>=◌, Rules, list_form, read, after_field, is_short}
use Rattle.packet_frame.specs.Frame.{Message, next_word, after_word, word_count_form, set_form, is_first, word_limit, no_rules, run_count_form, last_rank_form, next_run, after_run, ends_rule, ranks_at, ends_needed, ends_form, name_length_form, name_form, path_at, next_row, after_row, is_after, kind_form, stream_form, wave_form, row_count_form, content_form, packet_form, frame_form}

-- a byte of a name that is a character by itself
abbrev pub is_plain_ascii : ℕ → Bool
is_plain_ascii b = nat_lt b 128 && is_plain b

-- ---- what is left in the midst of a list

-- so many rows more of a tree whose first rows were read
abbrev pub rows_left : (version stream wave : ℕ) → Ranks → Tree → Path → Bool → ℕ → Form (Packet Tree)
rows_left version stream wave cover t path ended count = do
  rest ← list_form (next_row version cover) after_row (path, ended) count
  whole (Up stream wave (rows_onto t rest))

-- the coverage is read
abbrev pub after_cover : (version stream wave : ℕ) → Ranks → Form (Packet Tree)
after_cover version stream wave cover = row_count_form >>= rows_left version stream wave cover (tree_of [] cover) [] true

-- so many runs more of a coverage whose first runs were read
abbrev pub runs_left : (version stream wave : ℕ) → Ranks → ℕ → ℕ → Form (Packet Tree)
runs_left version stream wave cover least count = do
  rest ← list_form next_run after_run least count
  after_cover version stream wave (union cover (ranks_of_runs rest))

-- a row's ends are read, so the tree has them
abbrev pub after_ends : (version stream wave : ℕ) → Ranks → Tree → Path → ℕ → Ranks → Form (Packet Tree)
after_ends version stream wave cover t path count ends = rows_left version stream wave cover (grown t ends path) path (not (is_empty ends)) (count - 1)

-- what follows a set of words
abbrev pub after_set : Part → (version stream wave : ℕ) → Ranks → Tree → Path → ℕ → Ranks → Form (Packet Tree)
after_set parts.Coverage version stream wave cover t path count numbers = after_cover version stream wave numbers
after_set parts.Ends version stream wave cover t path count numbers = after_ends version stream wave cover t path count (ranks_at version cover numbers)

abbrev pub set_then : {X : Type 0} → Scan X → Ranks → Form (Packet Tree)
set_then s = after_set s.set.part s.version s.stream s.wave s.cover.ranks s.tree s.row.path s.row.left

-- a row is the last one where no other is left
abbrev pub is_last : ℕ → Bool
is_last count = nat_eq (count - 1) 0

abbrev pub needed : Part → ℕ → ℕ → Option FrameReason
needed parts.Coverage depth count = Some BadLength
needed parts.Ends depth count = ends_needed depth (is_last count)

abbrev pub word_rule : Part → ℕ → Ranks → ℕ → ℕ → Rules
word_rule parts.Coverage version cover = no_rules
word_rule parts.Ends version cover = ends_rule version cover

-- so many words more of a set whose first words were read
abbrev pub words_left : (ℕ → ℕ → Rules) → ℕ → List ℕ → ℕ → Form Ranks
words_left of_word offset words count = do
  rest ← list_form (next_word of_word) after_word (offset + length words, nat_eq (length words) 0) count
  whole (ranks_in offset (words ++ rest))

-- what was read, once it is whole
abbrev pub packet_read : {X : Type 0} → Scan X → Packet Tree
packet_read s = cond (nat_eq s.kind 1) (Up s.stream s.wave s.tree) (cond (nat_eq s.kind 2) (Done s.stream s.wave) (cond (nat_eq s.kind 3) Attach Down))

-- the words that are left of a set, and what follows it
abbrev pub set_left : {X : Type 0} → Scan X → Form (Packet Tree)
set_left s = words_left (word_rule s.set.part s.version s.cover.ranks) s.set.offset s.set.words.items s.left >>= set_then s

-- ---- what is left before each field

abbrev pub name_then : {X : Type 0} → Scan X → List ℕ → Form (Packet Tree)
name_then s name = ends_form s.version s.cover.ranks s.row.depth (is_last s.row.left) >>= after_ends s.version s.stream s.wave s.cover.ranks s.tree (path_at s.row.path s.row.depth name) s.row.left

-- a message, as the packet with its tree
abbrev pub with_tree : Message → Form (Packet Tree)
with_tree m = whole (packet_map tree_from m)

abbrev pub left_at : {X : Type 0} → Field → Scan X → Form (Packet Tree)
left_at fields.Version s = frame_form >>= with_tree
left_at fields.Kind s = (kind_form >>= packet_form s.version) >>= with_tree
left_at fields.Stream s = (stream_form >>= λ stream. wave_form >>= content_form s.version s.kind stream) >>= with_tree
left_at fields.Wave s = (wave_form >>= content_form s.version s.kind s.stream) >>= with_tree
left_at fields.RunCount s = run_count_form >>= runs_left s.version s.stream s.wave none 0
left_at fields.FirstRank s = runs_left s.version s.stream s.wave s.cover.ranks s.least s.left
left_at fields.LastRank s = last_rank_form s.least >>= λ last. runs_left s.version s.stream s.wave (union s.cover.ranks (ranks_between s.least last)) (last + 2) (s.left - 1)
left_at fields.Offset s = set_form (word_limit s.version) (needed s.set.part s.row.depth s.row.left) (word_rule s.set.part s.version s.cover.ranks) >>= set_then s
left_at fields.WordCount s = word_count_form (word_limit s.version) (needed s.set.part s.row.depth s.row.left) s.set.offset >>= λ count. words_left (word_rule s.set.part s.version s.cover.ranks) s.set.offset [] count >>= set_then s
left_at fields.Word s = set_left s
left_at fields.RowCount s = after_cover s.version s.stream s.wave s.cover.ranks
left_at fields.Depth s = rows_left s.version s.stream s.wave s.cover.ranks s.tree s.row.path s.row.ended s.row.left
left_at fields.NameLength s = name_length_form >>= λ len. name_form s.row.path s.row.depth len >>= name_then s
left_at fields.Name s = name_form s.row.path s.row.depth s.row.name_length >>= name_then s
left_at fields.End s = whole (packet_read s)

abbrev pub left : {X : Type 0} → Scan X → Form (Packet Tree)
left s = left_at s.field s

-- how many bytes each field has
abbrev pub field_width : {X : Type 0} → Field → Scan X → ℕ
field_width fields.Version s = 1
field_width fields.Kind s = 1
field_width fields.Stream s = 1
field_width fields.Wave s = 1
field_width fields.RunCount s = 4
field_width fields.FirstRank s = 4
field_width fields.LastRank s = 4
field_width fields.Offset s = 2
field_width fields.WordCount s = 2
field_width fields.Word s = 8
field_width fields.RowCount s = 2
field_width fields.Depth s = 1
field_width fields.NameLength s = 2
field_width fields.Name s = s.row.name_length
field_width fields.End s = 0

-- ---- what was read before each field

-- a coverage's ranks are counted, and have their places
abbrev pub IsCovered : ℕ → Ranks → Ranks → Type 0
IsCovered count places cover = (count ≡ size cover) × (places ≡ cover)

-- before a row, or behind the last
pub record IsBeforeRow {X : Type 0} (s : Scan X) : Type 0 where
  pub kind : s.kind ≡ 1
  pub covered : IsCovered s.cover.count s.cover.places s.cover.ranks
  pub grown : HasGrown s.cover.ranks s.tree s.row.path s.row.left

-- a row's depth was read
pub record IsInRow {X : Type 0} (s : Scan X) : Type 0 where
  pub row : IsBeforeRow s
  pub some : 0 < s.row.left
  pub depth : 1 ≤ s.row.depth
  pub depth_limit : s.row.depth ≤ 128
  pub near : s.row.depth ≤ length s.row.path + 1

-- a row's name was read, and stands at the end of the path, behind the first frames of the path of the row before
pub record IsNamed {X : Type 0} (s : Scan X) : Type 0 where
  pub kind : s.kind ≡ 1
  pub covered : IsCovered s.cover.count s.cover.places s.cover.ranks
  pub some : 0 < s.row.left
  pub depth : 1 ≤ s.row.depth
  pub depth_limit : s.row.depth ≤ 128
  pub len : length s.row.path ≡ s.row.depth
  pub before : Path
  pub grown : HasGrown s.cover.ranks s.tree before s.row.left
  pub kept : take (s.row.depth - 1) s.row.path ≡ take (s.row.depth - 1) before

abbrev pub IsInPart : {X : Type 0} → Part → Scan X → Type 0
IsInPart parts.Coverage s = (s.kind ≡ 1) × (s.version ≡ 1)
IsInPart parts.Ends s = IsNamed s

-- numbers that may be read of a row's ends: in version 1 covered ranks, in version 2 places of covered ranks
abbrev pub MayEnd : (version : ℕ) → (cover numbers : Ranks) → Type 0
MayEnd version cover numbers = (is_first version ≡ true → is_subset numbers cover ≡ true) × (is_first version ≡ false → (p : ℕ) → Has p numbers → p < size cover)

-- a row may have this depth, behind a row with this path, where some paths end or not
pub record MayHaveDepth (before : Path) (ended : Bool) (depth : ℕ) : Type 0 where
  pub some : 1 ≤ depth
  pub limit : depth ≤ 128
  pub near : depth ≤ length before + 1
  pub next : ended ≡ false → depth ≡ length before + 1

-- a row with this path may follow one with the path before: it has this depth and name
pub record FollowsRow (before : Path) (ended : Bool) (depth : ℕ) (name : List ℕ) (path : Path) : Type 0 where
  pub may : MayHaveDepth before ended depth
  pub after : is_after (slice_get before (depth - 1)) name ≡ true
  pub path_is : path ≡ path_at before depth name

-- the bytes begin with the depth and the ASCII name of a row
pub record BeginsWithHead (bytes : List ℕ) (depth : ℕ) (name : List ℕ) : Type 0 where
  pub limit : depth < 128
  pub some : 0 < length name
  pub most : length name ≤ 1023
  pub within : 3 + length name ≤ length bytes
  pub plain : list_all is_plain_ascii name ≡ true
  pub depth_is : depth ≡ from_be_bytes w8 (take 1 bytes)
  pub len_is : length name ≡ from_be_bytes w16 (take 2 (drop 1 bytes))
  pub name_is : name ≡ take (length name) (drop 2 (drop 1 bytes))

-- some words of a set were read
pub record IsInSet {X : Type 0} (s : Scan X) : Type 0 where
  pub part : IsInPart s.set.part s
  pub fits : s.set.offset + length s.set.words.items + s.left ≤ 16384
  pub first : 0 < length s.set.words.items → 0 < get_or s.set.words.items 0 0
  pub last : s.left ≡ 0 → 0 < length s.set.words.items → 0 < get_or s.set.words.items (length s.set.words.items - 1) 0
  pub nothing : s.left ≡ 0 → length s.set.words.items ≡ 0 → s.set.offset ≡ 0
  pub ends : s.set.part ≡ parts.Ends → MayEnd s.version s.cover.ranks (ranks_in s.set.offset s.set.words.items)

-- what the next field needs of those before it
abbrev pub IsReady : {X : Type 0} → Field → Scan X → Type 0
IsReady fields.Version s = Unit {0}
IsReady fields.Kind s = Unit {0}
IsReady fields.Stream s = (1 ≤ s.kind) × (s.kind ≤ 2)
IsReady fields.Wave s = (1 ≤ s.kind) × (s.kind ≤ 2)
IsReady fields.RunCount s = s.kind ≡ 1
IsReady fields.FirstRank s = (s.kind ≡ 1) × (0 < s.left)
IsReady fields.LastRank s = (s.kind ≡ 1) × (0 < s.left) × (s.least < RANK_LIMIT)
IsReady fields.Offset s = IsInPart s.set.part s
IsReady fields.WordCount s = IsInPart s.set.part s
IsReady fields.Word s = IsInSet s × (0 < s.left)
IsReady fields.RowCount s = (s.kind ≡ 1) × IsCovered s.cover.count s.cover.places s.cover.ranks
IsReady fields.Depth s = IsBeforeRow s × (0 < s.row.left)
IsReady fields.NameLength s = IsInRow s
IsReady fields.Name s = IsInRow s × (1 ≤ s.row.name_length) × (s.row.name_length ≤ 1023)
IsReady fields.End s = Unit {0}

-- The field's bytes are taken, and the other fields are left; or a rule is broken, which no more bytes mend. Out of memory
-- may come instead.
abbrev pub Takes : Form (Packet Tree) → List ℕ → Result (Unit {0}) FieldError → Form (Packet Tree) → Type 0
Takes old bytes (Ok x) new = after_field old bytes ≡ Ok new
Takes old bytes (Err (errors.Broken reason)) new = (after_field old bytes ≡ Err reason) × (is_short reason ≡ false)
Takes old bytes (Err errors.OutOfMemory) new = Unit {0}

-- To read the old form from an offset on is to read the new one from the next offset on, whatever follows the bytes.
abbrev pub ReadsOn : List ℕ → Form (Packet Tree) → ℕ → Form (Packet Tree) → ℕ → Type 0
ReadsOn bytes old at new next = (more : List ℕ) → read old (bytes ++ more) at ≡ read new (bytes ++ more) next

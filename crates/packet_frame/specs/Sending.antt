-- Messages that may be sent.
use Rattle.std.specs.Prelude.{◌≡◌, ◌≢◌, ℕ, ◌+◌, ◌*◌, ◌<◌, ◌≤◌, All, Bool, true, false, not, ◌||◌, nat_eq, List, [], ◌∷◌, ◌++◌, length, take, get_or, slice_get, Ok}
use Rattle.std.specs.FinMap as finmap
use Rattle.std.specs.Str.{is_utf8}
use Rattle.rank_set.specs.Ranks.{Ranks, none, Has, IsSubset, is_empty}
use Rattle.call_path.specs.Path.{Path}
use Rattle.call_path.specs.Good.{is_good_frame}
use Rattle.prefix_tree.specs.Tree.{Tree, IsLawful, frame_of}
use Rattle.packet_frame.specs.declared.packet.Packet.{Packet}
use Rattle.packet_frame.specs.declared.packet.Packet.TheVariants.{Up, Done, Attach, Down}
use Rattle.packet_frame.specs.Fields.{Spells, read}
use Rattle.packet_frame.specs.Frame.{Row, Sent, Message, word_limit, is_after, frame_form}
use Rattle.packet_frame.specs.Sent.{sent_from, tree_from, packet_map, as_packet}
use Rattle.packet_frame.specs.Spelling.{spelling}

-- A row that may stand behind a row: some of the first frames of that row's path, and one more, which is greater than the
-- sibling before it. Where no path ends in the row before, the row is its child.
pub record MayFollow (cover : Ranks) (before : Path) (ended last : Bool) (row : Row) : Type 0 where
  pub keep : ℕ
  pub name : List ℕ
  pub path : row.path ≡ take keep before ++ name ∷ []
  pub kept : keep ≤ length before
  pub low : keep < 128
  pub child : ended ≡ false → keep ≡ length before
  pub good : is_good_frame name ≡ true
  pub text : is_utf8 name ≡ true
  pub after : is_after (slice_get before keep) name ≡ true
  pub covered : IsSubset row.ends cover
  pub at_last : last ≡ true → row.ends ≢ none
  pub at_depth : keep + 1 ≡ 128 → row.ends ≢ none

-- rows that may stand one after another, behind a path in which paths end or not
abbrev pub MayBeRows : Ranks → Path → Bool → List Row → Type 0
MayBeRows cover before ended [] = Unit {0}
MayBeRows cover before ended (r ∷ rs) = MayFollow cover before ended (nat_eq (length rs) 0) r × MayBeRows cover r.path (not (is_empty r.ends)) rs

-- A tree that may be sent. In version 1 its ranks are below 16,384.
pub record MayBeSent (version : ℕ) (s : Sent) : Type 0 where
  pub some : s.coverage ≢ none
  pub small : (r : ℕ) → Has r s.coverage → r < 64 * word_limit version
  pub few : length s.rows ≤ 2048
  pub rows : MayBeRows s.coverage [] true s.rows

abbrev pub MayBeMessage : ℕ → Message → Type 0
MayBeMessage version (Up stream wave sent) = (stream < 8) × (wave < 16) × MayBeSent version sent
MayBeMessage version (Done stream wave) = (stream < 8) × (wave < 16)
MayBeMessage version Attach = Unit {0}
MayBeMessage version Down = Unit {0}

-- a version's spelling of what may be sent spells it, and is read again, whatever stands before and behind
pub record IsSpelledOut (version : ℕ) : Type 0 where
  pub spells : (m : Message) → MayBeMessage version m → Spells frame_form (spelling version m) m
  pub again : (m : Message) → MayBeMessage version m → (front more : List ℕ) → read frame_form (front ++ (spelling version m ++ more)) (length front) ≡ Ok (m, length front + length (spelling version m))

-- ---- packets with trees

-- the last frame of each row is text
abbrev pub HasText : Tree → Type 0
HasText t = All (λ e. is_utf8 (frame_of e.0) ≡ true) (finmap.entries t.below)

-- a tree of a program that may be sent
pub record MayBeTree (version : ℕ) (t : Tree) : Type 0 where
  pub lawful : IsLawful t
  pub text : HasText t
  pub some : t.coverage ≢ none
  pub small : (r : ℕ) → Has r t.coverage → r < 64 * word_limit version

abbrev pub MayBePacket : ℕ → Packet Tree → Type 0
MayBePacket version (Up stream wave t) = (stream < 8) × (wave < 16) × MayBeTree version t
MayBePacket version (Done stream wave) = (stream < 8) × (wave < 16)
MayBePacket version Attach = Unit {0}
MayBePacket version Down = Unit {0}

-- What a caller sees to. All else holds of every tree of a program.
abbrev pub MayBeEncoded : Packet Tree → Type 0
MayBeEncoded (Up stream wave t) = (stream < 8) × (wave < 16) × (t.coverage ≢ none)
MayBeEncoded (Done stream wave) = (stream < 8) × (wave < 16)
MayBeEncoded Attach = Unit {0}
MayBeEncoded Down = Unit {0}

-- a version's spelling of a packet with a tree
abbrev pub spelling_of : ℕ → Packet Tree → List ℕ
spelling_of version p = spelling version (packet_map sent_from p)

-- the packets that may be sent are read again, whatever stands before and behind
pub record AreTreesSent (version : ℕ) : Type 0 where
  pub may : (p : Packet Tree) → MayBePacket version p → MayBeMessage version (packet_map sent_from p)
  pub again : (p : Packet Tree) → MayBePacket version p → (front more : List ℕ) → as_packet (read frame_form (front ++ (spelling_of version p ++ more)) (length front)) ≡ Ok (p, length front + length (spelling_of version p))

-- ---- one spelling

-- numbers below 256
abbrev pub AreBytes : List ℕ → Type 0
AreBytes bytes = (i : ℕ) → get_or bytes i 0 < 256

-- the version that the first byte tells
abbrev pub version_of : List ℕ → ℕ
version_of bytes = get_or bytes 0 0

-- bytes that spell a message are its one spelling in their version, and it may be sent
pub record IsOneSpelling (bytes : List ℕ) (m : Message) : Type 0 where
  pub known : (nat_eq (version_of bytes) 1 || nat_eq (version_of bytes) 2) ≡ true
  pub may : MayBeMessage (version_of bytes) m
  pub is : bytes ≡ spelling (version_of bytes) m

-- a packet with a tree has at most one spelling in each version
abbrev pub IsOnlySpelling : Type 0
IsOnlySpelling = (bytes others : List ℕ) (m n : Message) → AreBytes bytes → AreBytes others → Spells frame_form bytes m → Spells frame_form others n → version_of bytes ≡ version_of others → packet_map tree_from m ≡ packet_map tree_from n → bytes ≡ others

-- Captures in hexadecimal, and what is read of them. Each row is computed.
use Rattle.std.specs.Prelude.{◌≡◌, ℕ, ◌+◌, ◌*◌, ◌-◌, cond, nat_lt, List, [], ◌∷◌, codes, Ok, Err}
use Rattle.rank_set.specs.Ranks.{Ranks, none, set_of}
use Rattle.packet_frame.specs.declared.error.FrameReason.{FrameReason}
use Rattle.packet_frame.specs.declared.error.FrameReason.TheVariants.{Short, BadKind, BadLength, NotCanonical, OverLimit}
use Rattle.packet_frame.specs.declared.packet.Packet.TheVariants.{Up, Done, Attach, Down}
use Rattle.packet_frame.specs.Fields.{Refusal}
use Rattle.packet_frame.specs.Frame.{Row, row_of, sent_of}
use Rattle.packet_frame.specs.Reading.{first_of}
use Rattle.packet_frame.specs.Streams.{Begins}

-- the value of a digit from 0 to 9 or from a to f
abbrev pub digit : ℕ → ℕ
digit c = cond (nat_lt c 58) (c - 48) (c - 87)

-- the bytes that pairs of digits stand for
abbrev pub hex : List ℕ → List ℕ
hex [] = []
hex (c ∷ []) = []
hex (c ∷ d ∷ cs) = (16 * digit c + digit d) ∷ hex cs

abbrev pub refusal : ℕ → FrameReason → Refusal
refusal offset why = record { at = offset; reason = why }

-- the bytes are refused at an offset
abbrev pub Refused : List ℕ → ℕ → FrameReason → Type 0
Refused bytes offset why = first_of bytes ≡ Err (refusal offset why)

-- one rank
abbrev pub only : ℕ → Ranks
only r = set_of (r ∷ [])

-- rank 1 in `main;io`
abbrev pub of_one : List Row
of_one = row_of (codes "main" ∷ []) none ∷ row_of (codes "main" ∷ codes "io" ∷ []) (only 1) ∷ []

-- rank 0 in `main`
abbrev pub of_zero : List Row
of_zero = row_of (codes "main" ∷ []) (only 0) ∷ []

-- a tree over the ranks 0, 2, 4 and 6, where the covered ranks at places 1 and 3 were seen in `a`
abbrev pub of_places : List Row
of_places = row_of (codes "a" ∷ []) (set_of (2 ∷ 6 ∷ [])) ∷ []

-- version 1
pub record AreReadFirst : Type 0 where
  pub attach : first_of (hex (codes "0103")) ≡ Ok (Attach, 2)
  pub down : first_of (hex (codes "010499")) ≡ Ok (Down, 2)
  pub over : first_of (hex (codes "01020000")) ≡ Ok (Done 0 0, 4)
  pub no_rows : first_of (hex (codes "010100000000000100000000000000010000")) ≡ Ok (Up 0 0 (sent_of (only 0) []), 18)
  pub short : Refused (hex (codes "0101000000000001000000000000000100")) 16 Short
  pub zero_word : Refused (hex (codes "0101000000000002000000000000000100000000000000000000")) 16 NotCanonical
  pub kind : Refused (hex (codes "0109")) 1 BadKind
  pub outside : Refused (hex (codes "01010000000000010000000000000001000101000161000000010000000000000002")) 26 NotCanonical
  pub siblings : Refused (hex (codes "0101000000000001000000000000000100020100016200000001000000000000000101000161")) 37 NotCanonical
  -- four frames
  pub four : Begins ((Up 0 0 (sent_of (only 1) of_one), 46) ∷ (Up 0 0 (sent_of (only 0) of_zero), 37) ∷ (Done 0 0, 4) ∷ (Done 0 0, 4) ∷ [])
      (hex (codes "0101000000000001000000000000000200020100046d61696e00000000020002696f0000000100000000000000020101000000000001000000000000000100010100046d61696e0000000100000000000000010102000001020000")) []

-- version 2
pub record AreReadSecond : Type 0 where
  pub attach : first_of (hex (codes "0203")) ≡ Ok (Attach, 2)
  pub down : first_of (hex (codes "0204")) ≡ Ok (Down, 2)
  pub places : first_of (hex (codes "0201000000000004000000000000000000000002000000020000000400000004000000060000000600010100016100000001000000000000000a")) ≡ Ok (Up 0 0 (sent_of (set_of (0 ∷ 2 ∷ 4 ∷ 6 ∷ [])) of_places), 58)
  pub no_place : Refused (hex (codes "02010000000000040000000000000000000000020000000200000004000000040000000600000006000101000161000000010000000000000010")) 50 NotCanonical
  pub touching : Refused (hex (codes "0201000000000002000000000000000000000001")) 16 NotCanonical
  pub backward : Refused (hex (codes "02010000000000010000000500000004")) 12 NotCanonical
  pub over_rank : Refused (hex (codes "020100000000000100100000")) 8 OverLimit
  pub no_runs : Refused (hex (codes "0201000000000000")) 4 BadLength
  pub runs : Refused (hex (codes "0201000000080001")) 4 OverLimit
  -- four frames
  pub four : Begins ((Up 0 0 (sent_of (only 1) of_one), 46) ∷ (Up 0 0 (sent_of (only 0) of_zero), 37) ∷ (Done 0 0, 4) ∷ (Done 0 0, 4) ∷ [])
      (hex (codes "0201000000000001000000010000000100020100046d61696e00000000020002696f0000000100000000000000010201000000000001000000000000000000010100046d61696e0000000100000000000000010202000002020000")) []

-- What a feeder answers, and what it keeps.
use Rattle.std.specs.Prelude.{◌≡◌, ◌≢◌, ◌<◌, ◌≤◌, ◌^◌, length, ℕ, suc, zero, ◌+◌, ◌⊎◌, refl, List, [], map, drop, Option, Some, None, Result, Ok, Err}
use Rattle.std.specs.Coded.{Coded, code_by, coded×, coded_ℕ, coded_list, coded_option}
use Rattle.prefix_tree.specs.Tree.{Tree}
use Rattle.packet_frame.specs.declared.error.FrameReason.{FrameReason}
use Rattle.packet_frame.specs.declared.error.FrameReason.TheVariants.{Short, BadKind, BadLength, NotCanonical, OverLimit}
use Rattle.packet_frame.specs.declared.error.FrameError.{FrameError}
use Rattle.packet_frame.specs.declared.error.FrameError.TheVariants as errors
use Rattle.packet_frame.specs.declared.packet.Packet.{Packet}
use Rattle.packet_frame.specs.declared.reader.Reader.{Reader}
use Rattle.packet_frame.specs.Fields.{Refusal}
use Rattle.packet_frame.specs.Frame.{Message}
use Rattle.packet_frame.specs.Sent.{packet_map, tree_from}
use Rattle.packet_frame.specs.Reading.{IsOn, Waits}
use Rattle.packet_frame.specs.Streams.{Begins, taken, Breaks, Fed, Yields, Refuses}

abbrev pub refused_at : ℕ → FrameReason → Refusal
refused_at at reason = record { at = at; reason = reason }

-- messages as packets with trees, each with its frame's length
abbrev pub packets_from : List (Message × ℕ) → List (Packet Tree × ℕ)
packets_from messages = map (λ m. (packet_map tree_from m.0, m.1)) messages

-- The packets of the frames that became whole. A refusal is new, or was there before, and then nothing changes. Out of
-- memory comes only without a refusal, and then nothing changes.
abbrev pub Feeds : Fed → List ℕ → Result (List (Packet Tree × ℕ)) FrameError → Fed → Type 0
Feeds old piece (Ok packets) new = (messages : List (Message × ℕ)) × Yields old piece new messages × (packets ≡ packets_from messages)
Feeds old piece (Err (errors.Refused at reason)) new = ((old.refusal ≡ Some (refused_at at reason)) × (new ≡ old)) ⊎ Refuses old piece new (refused_at at reason)
Feeds old piece (Err errors.OutOfMemory) new = (old.refusal ≡ None) × (new ≡ old)

-- The stream may end here: no refusal was given and no byte waits. Else it is the refusal, or `Short` at the offset at which
-- the bytes that wait end.
abbrev pub Ends : Fed → Result (Unit {0}) FrameError → Type 0
Ends fed (Ok x) = (fed.refusal ≡ None) × (fed.rest ≡ [])
Ends fed (Err (errors.Refused at reason)) = (fed.refusal ≡ Some (refused_at at reason)) ⊎ ((fed.refusal ≡ None) × (fed.rest ≢ []) × (reason ≡ Short) × ((place : ℕ) × Waits fed.rest place × (at ≡ fed.before + place)))
Ends fed (Err errors.OutOfMemory) = ⊥

-- what was read of bytes before they ended in a frame, or refused
abbrev pub FramesOf : {X : Type 0} → List ℕ → Result (List (Packet Tree × ℕ) × ℕ) FrameError → Reader X → Type 0
FramesOf bytes (Ok x) reader = (messages : List (Message × ℕ)) × Begins messages bytes (drop x.1 bytes) × (x.1 ≡ taken messages) × (x.0 ≡ packets_from messages) × IsOn reader (drop x.1 bytes) × Waits (drop x.1 bytes) reader.at
FramesOf bytes (Err (errors.Refused at reason)) reader = Breaks bytes (refused_at at reason)
FramesOf bytes (Err errors.OutOfMemory) reader = Unit {0}

-- a refusal's offset is in the bytes
abbrev pub IsWithin : List ℕ → FrameError → Type 0
IsWithin bytes (errors.Refused at reason) = at ≤ length bytes
IsWithin bytes errors.OutOfMemory = Unit {0}

-- what a feeder keeps: how far the bytes that wait were read, and where they end in a field
pub record IsFed {X : Type 0} (before : ℕ) (reader : Reader X) (rest : List ℕ) (waiting : ℕ) (refused : Option (ℕ × FrameReason)) : Type 0 where
  pub fits : before + length rest < 2 ^ 64
  pub within : waiting ≤ length rest
  pub on : refused ≡ None → IsOn reader rest
  pub waits : refused ≡ None → Waits rest waiting

-- ---- how it is stored as a value

abbrev pub reason_number : FrameReason → ℕ
reason_number Short = 0
reason_number BadKind = 1
reason_number BadLength = 2
reason_number NotCanonical = 3
reason_number OverLimit = 4

abbrev pub numbered_reason : ℕ → FrameReason
numbered_reason zero = Short
numbered_reason (suc zero) = BadKind
numbered_reason (suc (suc zero)) = BadLength
numbered_reason (suc (suc (suc zero))) = NotCanonical
numbered_reason (suc (suc (suc (suc n)))) = OverLimit

pub numbered_again : (r : FrameReason) → numbered_reason (reason_number r) ≡ r
numbered_again Short = refl
numbered_again BadKind = refl
numbered_again BadLength = refl
numbered_again NotCanonical = refl
numbered_again OverLimit = refl

abbrev pub coded_refusal : Coded Refusal
coded_refusal = code_by (ℕ × ℕ) (coded× coded_ℕ coded_ℕ) (λ r. (r.at, reason_number r.reason)) (λ p. refused_at p.0 (numbered_reason p.1)) (λ r. (λ i. refused_at r.at (numbered_again r.reason i)))

abbrev pub coded_fed : Coded Fed
coded_fed = code_by (ℕ × (List ℕ × Option Refusal)) (coded× coded_ℕ (coded× (coded_list coded_ℕ) (coded_option coded_refusal))) (λ f. (f.before, (f.rest, f.refusal))) (λ p. record { before = p.0; rest = p.1.0; refusal = p.1.1 }) (λ _. refl)

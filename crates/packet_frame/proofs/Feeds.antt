-- Frames of a stream, one after another.
use Rattle.std.proofs.Common.{◌≡◌, ◌≢◌, ℕ, ◌+◌, ◌<◌, List, [], ◌∷◌, ◌++◌, length, map, drop, Option, None, Result, Ok, Err, refl, sym, ap, subst, ◌∙◌, inr, false, option_map, arith, drop-drop}
use Rattle.std.specs.Bool.{◌==◌}
use Rattle.std.proofs.lemmas.Bool.{true≢false}
use Rattle.std.proofs.lemmas.List.{map-append}
use Rattle.prefix_tree.specs.Tree.{Tree}
use Rattle.packet_frame.specs.declared.error.FrameReason.{FrameReason}
use Rattle.packet_frame.specs.declared.error.FrameReason.TheVariants.{Short}
use Rattle.packet_frame.specs.declared.error.FrameError.TheVariants as errors
use Rattle.packet_frame.specs.declared.packet.Packet.{Packet}
use Rattle.packet_frame.specs.declared.reader.Reader.{Reader}
use Rattle.packet_frame.specs.Fields.{Refusal, Spells}
use Rattle.packet_frame.specs.Frame.{Message, frame_form, version_form}
use Rattle.packet_frame.specs.Sent.{packet_map, tree_from, as_packet}
use Rattle.packet_frame.specs.Reading.{first_of, IsOn, Waits}
use Rattle.packet_frame.specs.Scanning.{packet_read}
use Rattle.packet_frame.specs.Streams.{Begins, taken, Fed, Yields}
use Rattle.packet_frame.specs.Feeding.{packets_from, refused_at, IsFed, Ends, FramesOf}
use Rattle.packet_frame.proofs.FormLaws.{read-spelled}

pub begins_push : (ms : List (Message × ℕ)) (m : Message × ℕ) (bytes rest : List ℕ) → Begins ms bytes rest → first_of rest ≡ Ok m → Begins (ms ++ m ∷ []) bytes (drop m.1 rest)
begins_push [] m bytes rest begins first = (ap first_of begins ∙ first, ap (drop m.1) begins)
begins_push (k ∷ ks) m bytes rest begins first = (begins.0, begins_push ks m (drop k.1 bytes) rest begins.1 first)

pub taken_push : (ms : List (Message × ℕ)) (m : Message × ℕ) → taken (ms ++ m ∷ []) ≡ taken ms + m.1
taken_push [] m = omega arith
taken_push (k ∷ ks) m = let e = taken_push ks m in omega (arith, e)

text_some : (text : List ℕ) (m : Message) → Spells frame_form text m → 0 < length text
unfolding frame_form version_form
text_some [] m spells = absurd (omega (arith, spells.0))
text_some (b ∷ text) m spells = omega arith

-- a frame has bytes
pub frame_some : (bytes : List ℕ) (m : Message) (n : ℕ) → first_of bytes ≡ Ok (m, n) → 0 < n
frame_some bytes m n whole =
    let text = read-spelled frame_form [] bytes m n whole in
    let some = text_some text.0 m text.4 in
    omega (arith, some, text.3)

-- a new reader may begin anywhere
pub on_any : {X : Type 0} (r : Reader X) (bytes : List ℕ) → IsOn r [] → r.at ≡ 0 → IsOn r bytes
on_any r bytes on start = record {
  ready = on.ready;
  within = omega (arith, start);
  goes_on = λ more. on.goes_on (bytes ++ more);
}

-- no byte waits for its first field
nothing_waits : Waits [] 0
unfolding frame_form version_form
nothing_waits = refl

-- ---- a feeder

pub new_fed : {X : Type 0} (r : Reader X) (rest : List ℕ) → rest ≡ [] → IsOn r [] → IsFed 0 r rest 0 None
new_fed r rest none on = subst (λ bytes. IsFed 0 r bytes 0 None) (sym none) (record {
  fits = omega arith;
  within = omega arith;
  on = λ _. on;
  waits = λ _. nothing_waits;
})

-- a whole frame's message, whose packet has its tree
pub record Told (bytes : List ℕ) (packet : Packet Tree) (n : ℕ) : Type 0 where
  pub message : Message
  pub first : first_of bytes ≡ Ok (message, n)
  pub packet_is : packet_map tree_from message ≡ packet

pub told : (bytes : List ℕ) (packet : Packet Tree) (n : ℕ) → as_packet (first_of bytes) ≡ Ok (packet, n) → Told bytes packet n
told bytes packet n whole = by_result (first_of bytes) refl whole
  where
    inside : (x y : Packet Tree × ℕ) → ◌≡◌ {A = Result (Packet Tree × ℕ) Refusal} (Ok x) (Ok y) → x ≡ y
    inside x y e = cc

    by_result : (r : Result (Message × ℕ) Refusal) → first_of bytes ≡ r → as_packet r ≡ Ok (packet, n) → Told bytes packet n
    by_result (Ok x) is whole =
        let same = inside (packet_map tree_from x.0, x.1) (packet, n) whole in
        record {
          message = x.0;
          first = is ∙ ap (λ (k : ℕ). Ok (x.0, k)) (ap (λ p. p.1) same);
          packet_is = ap (λ p. p.0) same;
        }
    by_result (Err e) is whole = absurd cc

-- a frame has bytes
pub whole_some : (bytes : List ℕ) (packet : Packet Tree) (n : ℕ) → as_packet (first_of bytes) ≡ Ok (packet, n) → 0 < n
whole_some bytes packet n whole = let t = told bytes packet n whole in frame_some bytes t.message n t.first

-- what the frames at the front of bytes are, once more
pub one_frame_more : {T X : Type 0} (view : T → Tree) (packets : List (Packet T × ℕ)) (packet : Packet T) (r : Reader X) (bytes : List ℕ) (t : ℕ) → ((messages : List (Message × ℕ)) × Begins messages bytes (drop t bytes) × (t ≡ taken messages) × (map (λ p. (packet_map view p.0, p.1)) packets ≡ packets_from messages)) → as_packet (first_of (drop t bytes)) ≡ Ok (packet_read r.scan, r.at) → packet_map view packet ≡ packet_read r.scan → (messages : List (Message × ℕ)) × Begins messages bytes (drop (t + r.at) bytes) × (t + r.at ≡ taken messages) × (map (λ p. (packet_map view p.0, p.1)) (packets ++ (packet, r.at) ∷ []) ≡ packets_from messages)
one_frame_more view packets packet r bytes t so_far whole is =
    let first = told (drop t bytes) (packet_read r.scan) r.at whole in
    let m : Message × ℕ = (first.message, r.at) in
    let same = is ∙ sym first.packet_is in (
      so_far.0 ++ m ∷ [],
      subst (Begins (so_far.0 ++ m ∷ []) bytes) (drop-drop r.at t bytes) (begins_push so_far.0 m bytes (drop t bytes) so_far.1 first.first),
      (let e = taken_push so_far.0 m in omega (arith, e, so_far.2)),
      map-append (λ p. (packet_map view p.0, p.1)) packets ((packet, r.at) ∷ [])
          ∙ (λ i. so_far.3 i ++ (same i, r.at) ∷ [])
          ∙ sym (map-append (λ k. (packet_map tree_from k.0, k.1)) so_far.0 (m ∷ [])),
    )

-- the stream ends in a frame
pub ends_short : {X : Type 0} (fed : Fed) (before : ℕ) (rest : List ℕ) (waiting : ℕ) (refused : Option (ℕ × FrameReason)) (r : Reader X) → fed ≡ record { before = before; rest = rest; refusal = option_map (λ r. refused_at r.0 r.1) refused } → IsFed before r rest waiting refused → refused ≡ None → rest ≢ [] → Ends fed (Err (errors.Refused (before + waiting) Short))
ends_short fed before rest waiting refused r is fed_is open_now some =
    subst (λ f. Ends f (Err (errors.Refused (before + waiting) Short))) (sym is) (inr (ap (option_map (λ r. refused_at r.0 r.1)) open_now, some, refl, (waiting, fed_is.waits open_now, refl)))

-- what is kept, as a value
abbrev pub fed : ℕ → List ℕ → Option (ℕ × FrameReason) → Fed
fed before rest refused = record { before = before; rest = rest; refusal = option_map (λ r. refused_at r.0 r.1) refused }

-- frames became whole
pub gave : {X : Type 0} (old : Fed) (before : ℕ) (rest piece bytes new_rest : List ℕ) (t : ℕ) (refused : Option (ℕ × FrameReason)) (reader : Reader X) (packets : List (Packet Tree × ℕ)) → old ≡ fed before rest refused → refused ≡ None → bytes ≡ rest ++ piece → new_rest ≡ drop t bytes → FramesOf bytes (Ok (packets, t)) reader → (messages : List (Message × ℕ)) × Yields old piece (fed (before + t) new_rest refused) messages × (packets ≡ packets_from messages)
gave old before rest piece bytes new_rest t refused reader packets is open_now bytes_is rest_is frames =
    let ms = frames.0 in
    let closed = ap (option_map (λ r. refused_at r.0 r.1)) open_now in (
      ms,
      subst (λ f. Yields f piece (fed (before + t) new_rest refused) ms) (sym is) (record {
        open_before = closed;
        open_after = closed;
        whole = subst (λ b. Begins ms b new_rest) bytes_is (subst (Begins ms bytes) (sym rest_is) frames.1);
        waiting = (reader.at, subst (λ b. Waits b reader.at) (sym rest_is) frames.5);
        offset = ap (λ (n : ℕ). before + n) frames.2;
      }),
      frames.3,
    )

-- bytes that are not none
pub some_bytes : (xs : List ℕ) → false ≡ (length xs == 0) → xs ≢ []
some_bytes xs some e = true≢false (sym (some ∙ ap (λ ys. length ys == 0) e))

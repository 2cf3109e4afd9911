-- A capture that is read in pieces.
use Rattle.std.proofs.Common.{◌≡◌, ◌≢◌, inl, inr, ℕ, ◌+◌, ◌≤◌, false, true, ◌==◌, eqb-true, List, [], ◌∷◌, ◌++◌, length, take, drop, Option, Some, None, Result, Ok, Err, refl, sym, ap, subst, ◌∙◌, arith, append_assoc, length-append}
use Rattle.std.specs.Prelude.{codes, IfErr}
use Rattle.std.specs.Result.{IsErrAnd}
use Rattle.std.specs.Fmt.{decimal}
use Rattle.std.proofs.lemmas.Bool.{true≢false}
use Rattle.std.proofs.lemmas.List.{append-nil, length-map, take-append-drop, nil_from_length}
use Rattle.prefix_tree.specs.Tree.{Tree}
use Rattle.packet_frame.specs.declared.error.FrameReason.{FrameReason}
use Rattle.packet_frame.specs.declared.error.FrameReason.TheVariants.{Short}
use Rattle.packet_frame.specs.declared.error.FrameError.{FrameError}
use Rattle.packet_frame.specs.declared.error.FrameError.TheVariants as errors
use Rattle.packet_frame.specs.declared.packet.Packet.{Packet}
use Rattle.packet_frame.specs.Answers.{result_map}
use Rattle.packet_frame.specs.Fields.{Refusal, is_short}
use Rattle.packet_frame.specs.Frame.{Message}
use Rattle.packet_frame.specs.Reading.{first_of}
use Rattle.packet_frame.specs.Sent.{packet_map, tree_from}
use Rattle.packet_frame.specs.Streams.{Begins, taken, Breaks, Fed}
use Rattle.packet_frame.specs.Feeding.{packets_from, refused_at, Feeds, Ends}
use Rattle.packet_frame.proofs.StreamLaws.{stream_laws, refusal_is}
use Rattle.capture_text.specs.Captures.{capture_of, StopsAt, IsRefused}
use Rattle.capture_text.specs.CaptureText.{packet_text, packets_text, packet_views, text_of_capture, bytes_of}
use Rattle.capture_text.proofs.CaptureLaws.{nothing_begins, frame_length, whole_capture, stopped_capture}

-- The first bytes of a capture were read: whole frames, and the bytes that wait behind them. The frames' text, where the
-- next one begins, and how many there are.
pub record HasRead (bytes left : List ℕ) (fed : Fed) (text : List ℕ) (at frames : ℕ) : Type 0 where
  pub front : List ℕ
  pub messages : List (Message × ℕ)
  pub cut : bytes ≡ front ++ left
  pub going : fed.refusal ≡ None
  pub whole : Begins messages front fed.rest
  pub total : fed.before + length fed.rest ≡ length front
  pub passed : fed.before ≡ taken messages
  pub printed : text ≡ packets_text 0 (packets_from messages)
  pub offset : at ≡ taken messages
  pub count : frames ≡ length messages

-- ---- frames behind frames

taken_append : (ms ns : List (Message × ℕ)) → taken (ms ++ ns) ≡ taken ms + taken ns
taken_append [] ns = omega arith
taken_append (m ∷ ms) ns = let e = taken_append ms ns in omega (arith, e)

bytes_of_frames : (ms : List (Message × ℕ)) → bytes_of (packets_from ms) ≡ taken ms
bytes_of_frames [] = refl
bytes_of_frames (m ∷ ms) = ap (λ n. m.1 + n) (bytes_of_frames ms)

text_append : (ms ns : List (Message × ℕ)) (at : ℕ) → packets_text at (packets_from (ms ++ ns)) ≡ packets_text at (packets_from ms) ++ packets_text (at + taken ms) (packets_from ns)
text_append [] ns at = let e : at ≡ at + 0 = omega arith in ap (λ n. packets_text n (packets_from ns)) e
text_append (m ∷ ms) ns at =
    let line = decimal at ++ packet_text (packet_map tree_from m.0) in
    let e : at + m.1 + taken ms ≡ at + (m.1 + taken ms) = omega arith in
    ap (λ ys. line ++ ys) (text_append ms ns (at + m.1) ∙ ap (λ n. packets_text (at + m.1) (packets_from ms) ++ packets_text n (packets_from ns)) e)
    ∙ sym (append_assoc line (packets_text (at + m.1) (packets_from ms)) (packets_text (at + (m.1 + taken ms)) (packets_from ns)))

zero_more : (n : ℕ) → n ≡ 0 + n
zero_more n = omega arith

-- no more frames than bytes
few_frames : (ms : List (Message × ℕ)) (bytes rest : List ℕ) → Begins ms bytes rest → length ms ≤ taken ms
few_frames [] bytes rest h = omega arith
few_frames (m ∷ ms) bytes rest h =
    let more = few_frames ms (drop m.1 bytes) rest h.1 in
    let some = frame_length bytes m h.0 in
    omega (arith, more, some)

-- ---- one piece more

pub room : (bytes left piece behind : List ℕ) (fed : Fed) (text : List ℕ) (at frames : ℕ) → HasRead bytes left fed text at frames → left ≡ piece ++ behind → fed.before + length fed.rest + length piece ≤ length bytes
room bytes left piece behind fed text at frames read parts =
    let all : length bytes ≡ length read.front + length left = ap length read.cut ∙ length-append read.front left in
    let both : length left ≡ length piece + length behind = ap length parts ∙ length-append piece behind in
    omega (arith, all, both, read.total)

pub cut_in_two : (left piece behind : List ℕ) (n : ℕ) → piece ≡ take n left → behind ≡ drop n left → left ≡ piece ++ behind
cut_in_two left piece behind n front back = sym ((λ i. front i ++ back i) ∙ take-append-drop n left)

pub nothing_left : (left : List ℕ) → true ≡ (length left == 0) → left ≡ []
nothing_left left e = nil_from_length left (eqb-true (length left) 0 (sym e))

pub count_views : {X : Type 0} (view : X → Tree) (packets : List (Packet X × ℕ)) (frames new_frames : ℕ) → new_frames ≡ frames + length packets → new_frames ≡ frames + length (packet_views view packets)
count_views view packets frames new_frames is = is ∙ ap (λ n. frames + n) (sym (length-map packets (λ p. (packet_map view p.0, p.1))))

-- the frames of a piece
abbrev pub GivesPackets : Fed → List ℕ → List (Packet Tree × ℕ) → Fed → Type 0
GivesPackets fed piece packets new = Feeds fed piece (Ok packets) new

packet_bytes : (fed : Fed) (piece : List ℕ) (packets : List (Packet Tree × ℕ)) (new : Fed) (gave : GivesPackets fed piece packets new) → bytes_of packets ≡ taken gave.0
packet_bytes fed piece packets new gave = ap bytes_of gave.2 ∙ bytes_of_frames gave.0

packet_count : (fed : Fed) (piece : List ℕ) (packets : List (Packet Tree × ℕ)) (new : Fed) (gave : GivesPackets fed piece packets new) → length packets ≡ length gave.0
packet_count fed piece packets new gave = ap length gave.2 ∙ length-map gave.0 (λ m. (packet_map tree_from m.0, m.1))

pub place_fits : (bytes left piece : List ℕ) (fed : Fed) (text : List ℕ) (at frames : ℕ) (packets : List (Packet Tree × ℕ)) (new : Fed) → HasRead bytes left fed text at frames → GivesPackets fed piece packets new → new.before + length new.rest ≡ fed.before + length fed.rest + length piece → at + bytes_of packets ≤ fed.before + length fed.rest + length piece
place_fits bytes left piece fed text at frames packets new read gave total =
    let some = packet_bytes fed piece packets new gave in
    let passed = gave.1.offset in
    omega (arith, some, passed, read.passed, read.offset, total)

pub count_fits : (bytes left piece : List ℕ) (fed : Fed) (text : List ℕ) (at frames : ℕ) (packets : List (Packet Tree × ℕ)) (new : Fed) → HasRead bytes left fed text at frames → GivesPackets fed piece packets new → new.before + length new.rest ≡ fed.before + length fed.rest + length piece → frames + length packets ≤ fed.before + length fed.rest + length piece
count_fits bytes left piece fed text at frames packets new read gave total =
    let some = packet_count fed piece packets new gave in
    let passed = gave.1.offset in
    let before = few_frames read.messages read.front fed.rest read.whole in
    let now = few_frames gave.0 (fed.rest ++ piece) new.rest gave.1.whole in
    omega (arith, some, passed, before, now, read.passed, read.count, total)

pub reads_piece : (bytes left piece behind : List ℕ) (fed : Fed) (text : List ℕ) (at frames : ℕ) (packets : List (Packet Tree × ℕ)) (new : Fed) (new_text : List ℕ) (new_at new_frames : ℕ) → HasRead bytes left fed text at frames → left ≡ piece ++ behind → GivesPackets fed piece packets new → new.before + length new.rest ≡ fed.before + length fed.rest + length piece → new_text ≡ text ++ packets_text at packets → new_at ≡ at + bytes_of packets → new_frames ≡ frames + length packets → HasRead bytes behind new new_text new_at new_frames
reads_piece bytes left piece behind fed text at frames packets new new_text new_at new_frames read parts gave total text_is at_is frames_is =
    let ms = read.messages in
    let ns = gave.0 in
    let both = taken_append ms ns in
    record {
      front = read.front ++ piece;
      messages = ms ++ ns;
      cut = read.cut ∙ ap (λ ys. read.front ++ ys) parts ∙ sym (append_assoc read.front piece behind);
      going = gave.1.open_after;
      whole = stream_laws.joins ms ns read.front fed.rest piece new.rest read.whole gave.1.whole;
      total = (let e = length-append read.front piece in omega (arith, e, total, read.total));
      passed = (let e = gave.1.offset in omega (arith, e, both, read.passed));
      printed = text_is ∙ ap (λ ys. ys ++ packets_text at packets) read.printed
          ∙ ap (λ n. packets_text 0 (packets_from ms) ++ packets_text n packets) (read.offset ∙ zero_more (taken ms))
          ∙ ap (λ ps. packets_text 0 (packets_from ms) ++ packets_text (0 + taken ms) ps) gave.2
          ∙ sym (text_append ms ns 0);
      offset = (let e = packet_bytes fed piece packets new gave in omega (arith, e, at_is, both, read.offset));
      count = (let e = packet_count fed piece packets new gave in let f = length-append ms ns in omega (arith, e, f, frames_is, read.count));
    }

-- ---- a piece that is refused

not_both : (fault : Refusal) (refusal : Option Refusal) → refusal ≡ Some fault → refusal ≡ None → ⊥
not_both fault refusal h k = cc

-- where a rule is broken there are bytes
broken_some : (rest : List ℕ) (at : ℕ) (reason : FrameReason) → first_of rest ≡ Err (refused_at at reason) → is_short reason ≡ false → rest ≢ []
broken_some rest at reason refused lasting none =
    let same = refusal_is (refused_at 0 Short) (refused_at at reason) (first_of rest) (ap first_of none ∙ nothing_begins) refused in
    true≢false (ap (λ (r : Refusal). is_short r.reason) same ∙ lasting)

breaks_stops : (bytes : List ℕ) (fault : Refusal) → Breaks bytes fault → StopsAt bytes fault
breaks_stops bytes fault b = record {
  frames = b.messages;
  rest = b.rest;
  at = b.at;
  whole = b.whole;
  goes_on = broken_some b.rest b.at fault.reason b.refused b.lasting;
  refused = b.refused;
  offset = b.offset;
}

breaks_behind : (ms : List (Message × ℕ)) (front rest piece : List ℕ) (at offset : ℕ) (reason : FrameReason) → Begins ms front rest → Breaks (rest ++ piece) (refused_at at reason) → offset ≡ taken ms + at → Breaks (front ++ piece) (refused_at offset reason)
breaks_behind ms front rest piece at offset reason h b offset_is = record {
  messages = ms ++ b.messages;
  rest = b.rest;
  at = b.at;
  whole = stream_laws.joins ms b.messages front rest piece b.rest h b.whole;
  refused = b.refused;
  lasting = b.lasting;
  offset = (let e = taken_append ms b.messages in let f = b.offset in omega (arith, e, f, offset_is));
}

pub refused_piece : (bytes left piece behind : List ℕ) (fed : Fed) (text : List ℕ) (at frames : ℕ) (new : Fed) (e : FrameError) → HasRead bytes left fed text at frames → left ≡ piece ++ behind → Feeds fed piece (Err e) new → IsRefused bytes e
refused_piece bytes left piece behind fed text at frames new (errors.Refused offset reason) read parts (inl old) = absurd (not_both (refused_at offset reason) fed.refusal old.0 read.going)
refused_piece bytes left piece behind fed text at frames new (errors.Refused offset reason) read parts (inr now) =
    let b = breaks_behind read.messages read.front fed.rest piece now.breaks.0 offset reason read.whole now.breaks.2 (now.breaks.1 ∙ ap (λ n. n + now.breaks.0) read.passed) in
    let all : bytes ≡ (read.front ++ piece) ++ behind = read.cut ∙ ap (λ ys. read.front ++ ys) parts ∙ sym (append_assoc read.front piece behind) in
    stopped_capture bytes (refused_at offset reason) (breaks_stops bytes (refused_at offset reason) (subst (λ bs. Breaks bs (refused_at offset reason)) (sym all) (stream_laws.lasts (read.front ++ piece) behind (refused_at offset reason) b)))
refused_piece bytes left piece behind fed text at frames new errors.OutOfMemory read parts feeds = tt

-- ---- the end

-- all bytes were read
read_all : (bytes left : List ℕ) (fed : Fed) (text : List ℕ) (at frames : ℕ) (read : HasRead bytes left fed text at frames) → left ≡ [] → Begins read.messages bytes fed.rest
read_all bytes left fed text at frames read none =
    subst (λ bs. Begins read.messages bs fed.rest) (sym (read.cut ∙ ap (λ ys. read.front ++ ys) none ∙ append-nil read.front)) read.whole

pub reads_all : (bytes left : List ℕ) (fed : Fed) (text : List ℕ) (at frames : ℕ) (last : List ℕ) → HasRead bytes left fed text at frames → left ≡ [] → fed.rest ≡ [] → last ≡ text ++ codes "end " ++ decimal frames ++ codes " frames\n" → result_map text_of_capture (capture_of bytes) ≡ Ok last
unfolding text_of_capture
reads_all bytes left fed text at frames last read none ended is =
    ap (result_map text_of_capture) (whole_capture read.messages bytes (subst (Begins read.messages bytes) ended (read_all bytes left fed text at frames read none)))
    ∙ ap Ok (sym (is ∙ ap (λ ys. ys ++ codes "end " ++ decimal frames ++ codes " frames\n") read.printed ∙ ap (λ n. packets_text 0 (packets_from read.messages) ++ codes "end " ++ decimal n ++ codes " frames\n") read.count))

pub ends_short : (bytes left : List ℕ) (fed : Fed) (text : List ℕ) (at frames : ℕ) (e : FrameError) → HasRead bytes left fed text at frames → left ≡ [] → Ends fed (Err e) → IsRefused bytes e
ends_short bytes left fed text at frames (errors.Refused offset reason) read none (inl old) = absurd (not_both (refused_at offset reason) fed.refusal old read.going)
ends_short bytes left fed text at frames (errors.Refused offset reason) read none (inr now) =
    stopped_capture bytes (refused_at offset reason) (record {
      frames = read.messages;
      rest = fed.rest;
      at = now.3.0;
      whole = read_all bytes left fed text at frames read none;
      goes_on = now.1;
      refused = now.3.1 ∙ ap (λ r. Err (refused_at now.3.0 r)) (sym now.2);
      offset = now.3.2 ∙ ap (λ n. n + now.3.0) read.passed;
    })
ends_short bytes left fed text at frames errors.OutOfMemory read none ends = tt

-- the error of a call is that of a call in it
pub error_is : {X : Type 0} (r : Result X FrameError) (e : FrameError) (bytes : List ℕ) → IsErrAnd r (λ x. x ≡ e) → IsRefused bytes e → IfErr r (IsRefused bytes)
error_is (Ok x) e bytes is refused = tt
error_is (Err x) e bytes is refused = subst (IsRefused bytes) (sym is) refused

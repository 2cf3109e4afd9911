-- Frames one after another: how they are cut into pieces is all the same.
use Rattle.std.proofs.Common.{◌≡◌, ℕ, ◌+◌, ◌≤◌, true, false, not, List, [], ◌∷◌, ◌++◌, length, drop, Result, Ok, Err, refl, sym, ap, subst, ◌∙◌, arith, length-append}
use Rattle.std.proofs.lemmas.Bool.{true≢false}
use Rattle.std.proofs.lemmas.List.{drop-append-le}
use Rattle.packet_frame.specs.declared.error.FrameReason.{FrameReason}
use Rattle.packet_frame.specs.Fields.{Refusal, is_short, is_settled}
use Rattle.packet_frame.specs.Frame.{Message, frame_form}
use Rattle.packet_frame.specs.Reading.{first_of}
use Rattle.packet_frame.specs.Streams.{Begins, taken, IsWaiting, Breaks, StreamLaws}
use Rattle.packet_frame.proofs.FormLaws.{read-stays, read-spelled, ok_is}

-- a frame lies inside the bytes
inside : (bytes : List ℕ) (m : Message × ℕ) → first_of bytes ≡ Ok m → m.1 ≤ length bytes
inside bytes m h =
    let s = read-spelled frame_form [] bytes m.0 m.1 h in
    let len : length bytes ≡ length s.0 + length s.1 = ap length s.2 ∙ length-append s.0 s.1 in
    omega (arith, s.3, len)

stays : (bytes more : List ℕ) (r : Result (Message × ℕ) Refusal) → first_of bytes ≡ r → is_settled r ≡ true → first_of (bytes ++ more) ≡ r
stays bytes more r h settled = read-stays frame_form bytes more 0 (ap is_settled h ∙ settled) ∙ h

begins_more : (ms : List (Message × ℕ)) (bytes rest more : List ℕ) → Begins ms bytes rest → Begins ms (bytes ++ more) (rest ++ more)
begins_more [] bytes rest more h = ap (λ b. b ++ more) h
begins_more (m ∷ ms) bytes rest more h =
    (stays bytes more (Ok m) h.0 refl, subst (λ b. Begins ms b (rest ++ more)) (sym (drop-append-le m.1 bytes more (inside bytes m h.0))) (begins_more ms (drop m.1 bytes) rest more h.1))

begins_joins : (ms ns : List (Message × ℕ)) (bytes rest more last : List ℕ) → Begins ms bytes rest → Begins ns (rest ++ more) last → Begins (ms ++ ns) (bytes ++ more) last
begins_joins [] ns bytes rest more last h k = subst (λ b. Begins ns (b ++ more) last) (sym h) k
begins_joins (m ∷ ms) ns bytes rest more last h k =
    (stays bytes more (Ok m) h.0 refl, subst (λ b. Begins (ms ++ ns) b last) (sym (drop-append-le m.1 bytes more (inside bytes m h.0))) (begins_joins ms ns (drop m.1 bytes) rest more last h.1 k))

settled_by : (r : FrameReason) (n : ℕ) → is_short r ≡ false → is_settled {A = Message} (Err (record { at = n; reason = r })) ≡ true
settled_by r n h = ap not h

breaks_lasts : (bytes more : List ℕ) (fault : Refusal) → Breaks bytes fault → Breaks (bytes ++ more) fault
breaks_lasts bytes more fault b = record {
  messages = b.messages;
  rest = b.rest ++ more;
  at = b.at;
  whole = begins_more b.messages bytes b.rest more b.whole;
  refused = stays b.rest more _ b.refused (settled_by fault.reason b.at b.lasting);
  lasting = b.lasting;
  offset = b.offset;
}

message_is : (m n : Message × ℕ) (r : Result (Message × ℕ) Refusal) → r ≡ Ok m → r ≡ Ok n → m ≡ n
message_is m n r h k = ok_is m n (sym h ∙ k)

pub not_both : (m : Message × ℕ) (e : Refusal) (r : Result (Message × ℕ) Refusal) → r ≡ Ok m → r ≡ Err e → ⊥
not_both m e r h k = cc

pub refusal_is : (e f : Refusal) (r : Result (Message × ℕ) Refusal) → r ≡ Err e → r ≡ Err f → e ≡ f
refusal_is e f r h k = cc

-- up to bytes that no frame begins, there is one way to cut frames off
one_cut : (ms ns : List (Message × ℕ)) (bytes rest last : List ℕ) (e f : Refusal) → Begins ms bytes rest → first_of rest ≡ Err e → Begins ns bytes last → first_of last ≡ Err f → (ms ≡ ns) × (rest ≡ last)
one_cut [] [] bytes rest last e f h w k v = (refl, sym h ∙ k)
one_cut [] (n ∷ ns) bytes rest last e f h w k v = absurd (not_both n e (first_of bytes) k.0 (ap first_of h ∙ w))
one_cut (m ∷ ms) [] bytes rest last e f h w k v = absurd (not_both m f (first_of bytes) h.0 (ap first_of k ∙ v))
one_cut (m ∷ ms) (n ∷ ns) bytes rest last e f h w k v =
    let same = message_is m n (first_of bytes) h.0 k.0 in
    let rest_same = one_cut ms ns (drop m.1 bytes) rest last e f h.1 w (subst (λ x. Begins ns (drop x.1 bytes) last) (sym same) k.1) v in
    (ap (λ x. x ∷ ms) same ∙ ap (λ xs. n ∷ xs) rest_same.0, rest_same.1)

same_fault : (fault other : Refusal) → fault.at ≡ other.at → fault.reason ≡ other.reason → fault ≡ other
same_fault fault other e k = λ i. record { at = e i; reason = k i }

breaks_once : (bytes : List ℕ) (fault other : Refusal) → Breaks bytes fault → Breaks bytes other → fault ≡ other
breaks_once bytes fault other b c =
    let cut = one_cut b.messages c.messages bytes b.rest c.rest _ _ b.whole b.refused c.whole c.refused in
    let same = refusal_is _ _ (first_of b.rest) b.refused (ap first_of cut.1 ∙ c.refused) in
    same_fault fault other (b.offset ∙ ap (λ ms. taken ms + b.at) cut.0 ∙ ap (λ (r : Refusal). taken c.messages + r.at) same ∙ sym c.offset) (ap (λ (r : Refusal). r.reason) same)

waits_whole : (ms : List (Message × ℕ)) (bytes rest : List ℕ) (fault : Refusal) → Begins ms bytes rest → IsWaiting rest → Breaks bytes fault → ⊥
waits_whole ms bytes rest fault h w b =
    let cut = one_cut ms b.messages bytes rest b.rest _ _ h w.1 b.whole b.refused in
    let same = refusal_is _ _ (first_of rest) w.1 (ap first_of cut.1 ∙ b.refused) in
    let short : true ≡ is_short fault.reason = ap (λ (r : Refusal). is_short r.reason) same in
    true≢false (short ∙ b.lasting)

pub stream_laws : StreamLaws
stream_laws = record {
  more = begins_more;
  joins = begins_joins;
  lasts = breaks_lasts;
  only = λ ms ns bytes rest last h w k v. one_cut ms ns bytes rest last _ _ h w.1 k v.1;
  one_fault = breaks_once;
  no_fault = waits_whole;
}

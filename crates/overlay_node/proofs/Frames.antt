-- What frames bring, and what a frame is of.
use Rattle.std.proofs.Common.{◌≡◌, ◌<◌, ◌≤◌, ℕ, List, [], ◌∷◌, ◌++◌, map, length, refl, sym, ap, subst, ◌∙◌, arith, inl, inr}
use Rattle.std.specs.Prelude.{Ok}
use Rattle.std.specs.List.{AllByRecursion}
use Rattle.std.proofs.lemmas.List.{append-nil, map-append}
use Rattle.prefix_tree.specs.Tree.{Tree}
use Rattle.prefix_tree.proofs.TreeLemmas.{coverage-tree_of}
use Rattle.overlay_setup.specs.NodeSets.{In, up_to}
use Rattle.overlay_setup.specs.Scripts.{IsStream, Stream}
use Rattle.stat_plan.specs.Invariants.{IsPlan}
use Rattle.stat_plan.specs.Plans.{Plan, samples, waves_of}
use Rattle.stat_plan.proofs.InLists.{up_to_below, in_append}
use Rattle.stat_plan.proofs.Elements.{all_append}
use Rattle.merge_filter.specs.Contributions.{Contrib, HasWave, IsPartialMerge, coverage_of}
use Rattle.packet_frame.specs.declared.packet.Packet.{Packet as FramePacket}
use Rattle.packet_frame.specs.declared.packet.Packet.TheVariants.{Up as FrameUp}
use Rattle.packet_frame.specs.Fields.{read}
use Rattle.packet_frame.specs.Frame.{frame_form}
use Rattle.packet_frame.specs.Reading.{first_of}
use Rattle.packet_frame.specs.Sending.{spelling_of}
use Rattle.packet_frame.specs.Sent.{as_packet}
use Rattle.overlay_core.specs.Nodes.{Packet, Up, Done, Attach, Down}
use Rattle.overlay_node.specs.Frames.{IsFrame, IsFrameOf, bare_packet, packet_in, packet_of, tree_packet}
use Rattle.overlay_node.specs.Outputs.{AreFrames, Sends, frames_of, packets_of}

-- a packet with its tree is that packet
pub bare_tree : (p : Plan) (q : Packet) → bare_packet (tree_packet p q) ≡ q
bare_tree p (Up s w set) = ap (λ x. Up s w x) (coverage-tree_of (samples p s w) set)
bare_tree p (Done s w) = refl
bare_tree p Attach = refl
bare_tree p Down = refl

-- a packet's frame brings it
pub brings : (p : Plan) (q : Packet) (bytes : List ℕ) → IsFrameOf p q bytes → packet_of bytes ≡ q
unfolding packet_of
brings p q bytes h = ap packet_in h.read ∙ bare_tree p q

pub is_frame : (p : Plan) (q : Packet) (bytes : List ℕ) → IsFrameOf p q bytes → IsFrame p bytes
is_frame p q bytes h = subst (λ x. IsFrameOf p x bytes) (sym (brings p q bytes h)) h

-- what is spelled out and read back is a frame
pub frame_from : (p : Plan) (q : Packet) (f : FramePacket Tree) (bytes : List ℕ) → f ≡ tree_packet p q → bytes ≡ spelling_of 2 f
    → ((more : List ℕ) → as_packet (read frame_form (bytes ++ more) 0) ≡ Ok (f, length bytes)) → IsFrameOf p q bytes
frame_from p q f bytes is spelled back = record {
  spelled = spelled ∙ ap (spelling_of 2) is;
  read = ap (λ b. as_packet (first_of b)) (sym (append-nil bytes)) ∙ back [] ∙ ap (λ x. Ok (x, length bytes)) is;
}

-- a partial merge goes up as the packet over its ranks
pub up_packet : (p : Plan) (c : Contrib) → IsPartialMerge p c → FrameUp c.stream c.wave c.tree ≡ tree_packet p (Up c.stream c.wave (coverage_of c))
up_packet p c h = ap (λ t. FrameUp c.stream c.wave t) h.tree

-- ---- the numbers of a plan's waves are small

wave_within : (s : ℕ) (n : ℕ) (ws : List ℕ) (v : ℕ × ℕ) → ((w : ℕ) → In w ws → w < n) → In {X = ℕ × ℕ} v (map (λ w. (s, w)) ws) → (v.0 ≡ s) × (v.1 < n)
wave_within s n [] v h i = absurd i
wave_within s n (w ∷ ws) v h (inl e) = (ap (λ (y : ℕ × ℕ). y.0) e, subst (λ x. x < n) (sym (ap (λ (y : ℕ × ℕ). y.1) e)) (h w (inl refl)))
wave_within s n (w ∷ ws) v h (inr i) = wave_within s n ws v (λ x j. h x (inr j)) i

waves_small : (xs : List Stream) (v : ℕ × ℕ) → AllByRecursion IsStream xs → In {X = ℕ × ℕ} v (waves_of xs) → (v.0 < 8) × (v.1 < 16)
waves_small [] v h i = absurd i
waves_small (x ∷ xs) v h i = elim (in_append v (map (λ w. (x.number, w)) (up_to x.waves)) (waves_of xs) i) [
  | inl a ↦
      let k = wave_within x.number x.waves (up_to x.waves) v (λ w j. up_to_below x.waves w j) a in
      let small : x.number < 8 = h.0.number in
      let few : x.waves ≤ 16 = h.0.waves_within_limit in
      let e : v.0 ≡ x.number = k.0 in
      let lt : v.1 < x.waves = k.1 in
      (omega (arith, small, e), omega (arith, few, lt))
  | inr b ↦ waves_small xs v h.1 b
]

pub wave_small : (p : Plan) (s w : ℕ) → IsPlan p → HasWave p s w → (s < 8) × (w < 16)
wave_small p s w plan h = waves_small p.streams (s, w) plan.script.streams h

-- ---- frames that are sent

-- a frame's receiver and its packet
abbrev pair_of : ℕ × List ℕ → ℕ × Packet
pair_of v = (v.0, packet_of v.1)

-- one frame more
pub sends_one : (p : Plan) (q : Packet) (to : ℕ) (bytes : List ℕ) (old new : List (ℕ × List ℕ)) → IsFrameOf p q bytes → new ≡ old ++ (to, bytes) ∷ [] → Sends p ((to, q) ∷ []) old new
sends_one p q to bytes old new h is = record {
  packets = ap packets_of is ∙ map-append pair_of old ((to, bytes) ∷ []) ∙ (λ i. packets_of old ++ (to, brings p q bytes h i) ∷ []);
  frames = λ all. subst (AreFrames p) (sym is) (all_append (λ v. IsFrame p v.1) old ((to, bytes) ∷ []) all (is_frame p q bytes h, tt));
}

-- frames that are sent are those of the packets that they bring
pub spelled_all : (p : Plan) (sends : List (ℕ × List ℕ)) → AreFrames p sends → sends ≡ frames_of p (packets_of sends)
spelled_all p [] h = refl
spelled_all p (v ∷ vs) h = λ i. (v.0, h.0.spelled i) ∷ spelled_all p vs h.1 i

pub spelled_as : (p : Plan) (sends : List (ℕ × List ℕ)) (packets : List (ℕ × Packet)) → AreFrames p sends → packets_of sends ≡ packets → sends ≡ frames_of p packets
spelled_as p sends packets h is = spelled_all p sends h ∙ ap (frames_of p) is

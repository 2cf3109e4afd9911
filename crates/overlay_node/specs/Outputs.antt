-- What an event of a node sends, as frames, and what it releases.
use Rattle.std.specs.Prelude.{◌≡◌, refl, ℕ, Bool, true, false, List, ◌++◌, map}
use Rattle.std.specs.List.{AllByRecursion}
use Rattle.std.specs.Coded.{Coded, code_by, coded×, coded_bool, coded_list, coded_ℕ}
use Rattle.prefix_tree.specs.Code.{coded_tree}
use Rattle.prefix_tree.specs.Tree.{Tree}
use Rattle.stat_plan.specs.Plans.{Plan}
use Rattle.merge_filter.specs.Contributions.{IsPartialMerge, contrib}
use Rattle.overlay_core.specs.declared.release.Kind.{Kind}
use Rattle.overlay_core.specs.declared.release.Kind.TheVariants.{Partial, Final}
use Rattle.overlay_core.specs.Nodes.{Packet}
use Rattle.overlay_core.specs.TreeReleases.{TreeRelease}
use Rattle.packet_frame.specs.Sending.{spelling_of}
use Rattle.overlay_node.specs.Frames.{IsFrame, packet_of, tree_packet}

-- what an event of a node sends, each frame with its receiver, and what it releases
pub record Output : Type 0 where
  pub sends : List (ℕ × List ℕ)
  pub releases : List TreeRelease

-- the packets that frames bring, each with its receiver
abbrev pub packets_of : List (ℕ × List ℕ) → List (ℕ × Packet)
packets_of sends = map (λ v. (v.0, packet_of v.1)) sends

-- the frames of packets, each with its receiver
abbrev pub frames_of : Plan → List (ℕ × Packet) → List (ℕ × List ℕ)
frames_of p sends = map (λ v. (v.0, spelling_of 2 (tree_packet p v.1))) sends

-- each is the frame of a packet
abbrev pub AreFrames : Plan → List (ℕ × List ℕ) → Type 0
AreFrames p sends = AllByRecursion (λ v. IsFrame p v.1) sends

-- the new frames are the old ones with those of these packets behind them
pub record Sends (p : Plan) (more : List (ℕ × Packet)) (old new : List (ℕ × List ℕ)) : Type 0 where
  pub packets : packets_of new ≡ packets_of old ++ more
  pub frames : AreFrames p old → AreFrames p new

-- what is released is a partial merge of the plan
abbrev pub ReleaseFits : Plan → TreeRelease → Type 0
ReleaseFits p r = IsPartialMerge p (contrib r.stream r.wave r.tree)

-- what was sent are frames, and what was released are partial merges of the plan
pub record OutputFits (p : Plan) (o : Output) : Type 0 where
  pub frames : AreFrames p o.sends
  pub trees : AllByRecursion (ReleaseFits p) o.releases

-- ---- codes, by which a value is stored

abbrev pub kind_to : Kind → Bool
kind_to Partial = false
kind_to Final = true

abbrev pub kind_from : Bool → Kind
kind_from false = Partial
kind_from true = Final

pub kind_back : (k : Kind) → kind_from (kind_to k) ≡ k
kind_back Partial = refl
kind_back Final = refl

abbrev pub coded_release : Coded TreeRelease
coded_release = code_by (ℕ × (ℕ × (ℕ × (Bool × (Tree × List ℕ))))) (coded× coded_ℕ (coded× coded_ℕ (coded× coded_ℕ (coded× coded_bool (coded× coded_tree (coded_list coded_ℕ))))))
    (λ r. (r.stream, (r.wave, (r.number, (kind_to r.kind, (r.tree, r.lost))))))
    (λ c. record { stream = c.0; wave = c.1.0; number = c.1.1.0; kind = kind_from c.1.1.1.0; tree = c.1.1.1.1.0; lost = c.1.1.1.1.1 })
    (λ r i. record { stream = r.stream; wave = r.wave; number = r.number; kind = kind_back r.kind i; tree = r.tree; lost = r.lost })

-- an output is stored as its two lists
abbrev pub coded_output : Coded Output
coded_output = code_by (List (ℕ × List ℕ) × List TreeRelease) (coded× (coded_list (coded× coded_ℕ (coded_list coded_ℕ))) (coded_list coded_release)) (λ o. (o.sends, o.releases)) (λ c. record { sends = c.0; releases = c.1 }) (λ _. refl)

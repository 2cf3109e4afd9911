-- What holds of each overlay, whatever its packets are: of kin, of links, and of losses that are known.
use Rattle.std.specs.Prelude.{ℕ, ◌≡◌, ◌<◌, ◌⊎◌, Bool, true, false, ⊤, List, [], ◌∷◌}
use Rattle.overlay_setup.specs.NodeSets.{In, IsStrictlyIncreasing}
use Rattle.stat_plan.specs.Plans.{Plan, AreRelated, IsUnder, ancestors, nodes, front}
use Rattle.stat_plan.specs.Machine.Kin.{Kin, nearest}
use Rattle.stat_plan.specs.Machine.Overlays.{Overlay}

-- Kin: who is known to be lost is lost and stands above or under n; the parent is the nearest ancestor that isn't known to be
-- lost; the children stand under n.
pub record KinIsSound (p : Plan) (alive : ℕ → Bool) (n : ℕ) (kin : Kin) : Type 0 where
  pub lost : (m : ℕ) → In m kin.lost → alive m ≡ false
  pub related : (m : ℕ) → In m kin.lost → AreRelated p n m
  pub parent : kin.parent ≡ nearest (ancestors p n) kin.lost
  pub children : (c : ℕ) → In c kin.children → IsUnder p c n
  pub children_increase : IsStrictlyIncreasing kin.children

-- nothing is behind the notice
abbrev pub EndsAt : {X : Type 0} → X → List X → Type 0
EndsAt notice [] = ⊤
EndsAt notice (q ∷ qs) = (q ≡ notice → qs ≡ []) × EndsAt notice qs

-- What the packets of a link from m to n may be. The notice of m's loss may be on it exactly where m is above or under n.
pub record IsPacketRule {X : Type 0} (p : Plan) (notice : X) (Fits : ℕ → ℕ → X → Type 0) : Type 0 where
  pub related : (m n : ℕ) → Fits m n notice → AreRelated p n m
  pub may_notify : (m n : ℕ) → AreRelated p n m → Fits m n notice

-- A link: nothing is on the way to a lost node, each packet fits, the notice is there only where the sender is lost, and last
pub record LinkIsSound {X : Type 0} (notice : X) (Fits : ℕ → ℕ → X → Type 0) (alive : ℕ → Bool) (m n : ℕ) (qs : List X) : Type 0 where
  pub into_lost : alive n ≡ false → qs ≡ []
  pub packets : (q : X) → In q qs → Fits m n q
  pub sender : In notice qs → alive m ≡ false
  pub last : EndsAt notice qs

-- Of a lost m above or under it, a living n knows, or the notice is on the way, and not both
pub record LossIsKnown {X : Type 0} (p : Plan) (notice : X) (v : Overlay X) (n m : ℕ) : Type 0 where
  pub named : v.alive n ≡ true → v.alive m ≡ false → AreRelated p n m → In m (v.kin n).lost ⊎ In notice (v.link m n)
  pub once : v.alive n ≡ true → In m (v.kin n).lost → In notice (v.link m n) → ⊥

-- all of these
pub record LossInvariant {X : Type 0} (p : Plan) (notice : X) (Fits : ℕ → ℕ → X → Type 0) (v : Overlay X) : Type 0 where
  pub nodes : (n : ℕ) → v.alive n ≡ true → n < nodes p
  pub front : v.alive (front p) ≡ true
  pub kin : (n : ℕ) → KinIsSound p v.alive n (v.kin n)
  pub links : (m n : ℕ) → LinkIsSound notice Fits v.alive m n (v.link m n)
  pub losses : (n m : ℕ) → LossIsKnown p notice v n m

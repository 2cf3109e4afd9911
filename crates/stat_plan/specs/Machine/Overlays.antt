-- An overlay: nodes that stand in a tree, the links between them, and losses, whatever the packets are and whatever the nodes work on.
-- One packet, the notice, says that its sender is lost.
use Rattle.std.specs.Prelude.{ℕ, suc, Bool, true, false, ◌&&◌, not, ◌==◌, nat_lt, cond, List, [], ◌∷◌, ◌++◌, take, Option, Some, None}
use Rattle.overlay_setup.specs.declared.script.Fault.{Fault}
use Rattle.stat_plan.specs.Plans.{Plan, nodes, is_related, fault}
use Rattle.stat_plan.specs.Machine.Kin.{Kin, start_kin}
use Rattle.stat_plan.specs.Machine.Waves.{put_at}

-- which nodes live, each node's kin, how many events it has done, and what is on the way from each to each
pub record Overlay (X : Type 0) : Type 0 where
  pub alive : ℕ → Bool
  pub kin : ℕ → Kin
  pub count : ℕ → ℕ
  pub link : ℕ → ℕ → List X  -- from the first to the second

-- nothing has happened yet
abbrev pub start_overlay : {X : Type 0} → Plan → Overlay X
start_overlay p = record {
  alive = λ n. nat_lt n (nodes p);
  kin = start_kin p;
  count = λ n. 0;
  link = λ m n. [];
}

-- the packets that go to b
abbrev pub to : {X : Type 0} → ℕ → List (ℕ × X) → List X
to b [] = []
to b (v ∷ vs) = cond (v.0 == b) (v.1 ∷ to b vs) (to b vs)

-- a packet to the parent, if there is one
abbrev pub to_parent : {X : Type 0} → Option ℕ → X → List (ℕ × X)
to_parent None q = []
to_parent (Some m) q = (m, q) ∷ []

-- the link from m to n has these packets
abbrev pub with_link : {X : Type 0} → Overlay X → ℕ → ℕ → List X → Overlay X
with_link v m n qs = record {
  alive = v.alive;
  kin = v.kin;
  count = v.count;
  link = λ a b. cond ((a == m) && (b == n)) qs (v.link a b);
}

-- n has done an event: it has this kin, and what it sent is at the ends of the links to receivers that live
abbrev pub with_event : {X : Type 0} → Overlay X → ℕ → Kin → List (ℕ × X) → Overlay X
with_event v n kin sends = record {
  alive = v.alive;
  kin = put_at v.kin n kin;
  count = put_at v.count n (suc (v.count n));
  link = λ a b. cond ((a == n) && v.alive b) (v.link a b ++ to b sends) (v.link a b);
}

-- how many packets of each link out of a lost node stay
abbrev pub keep_of : Option Fault → ℕ
keep_of None = 0
keep_of (Some f) = f.keep

-- n is lost: what is on the way to it is gone, of what is on the way from it the first packets stay, and each living
-- original ancestor and descendant gets the notice
abbrev pub with_loss : {X : Type 0} → X → Plan → Overlay X → ℕ → Overlay X
with_loss notice p v n = record {
  alive = put_at v.alive n false;
  kin = v.kin;
  count = v.count;
  link = λ a b.
      cond (b == n) [] (
      cond (a == n) (take (keep_of (fault p n)) (v.link a b) ++ cond (v.alive b && is_related p n b) (notice ∷ []) []) (
      v.link a b));
}

-- whether a node of this fault has done the events that it does before it is lost
abbrev pub is_spent : Option Fault → ℕ → Bool
is_spent None count = false
is_spent (Some f) count = count == f.after

-- whether its loss is all that may happen to n
abbrev pub is_doomed : {X : Type 0} → Plan → Overlay X → ℕ → Bool
is_doomed p v n = is_spent (fault p n) (v.count n)

-- whether n can do something besides being lost
abbrev pub is_active : {X : Type 0} → Plan → Overlay X → ℕ → Bool
is_active p v n = v.alive n && not (is_doomed p v n)

-- whether a packet is on the way
abbrev pub is_pending : {X : Type 0} → List X → Bool
is_pending [] = false
is_pending (q ∷ qs) = true

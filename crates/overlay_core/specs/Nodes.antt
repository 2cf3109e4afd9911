-- A node of the overlay: what it keeps, and what an event of its own leaves of it.
use Rattle.std.specs.Prelude.{ℕ, ◌&&◌, if◌then◌else◌, List, [], ◌∷◌, ◌++◌, map, filter, Option, None, Some}
use Rattle.rank_set.specs.Ranks.{Ranks}
use Rattle.stat_plan.specs.Plans.{Plan, is_front, ranks, mode, serves, waves_at}
use Rattle.stat_plan.specs.Machine.Due.{due_act}
use Rattle.stat_plan.specs.Machine.Waves.{Wave, Open, Closed, Book, set_wave, has_grown, ticks, is_fired, is_closed, covering, growing, ticked, unsent}
use Rattle.stat_plan.specs.Machine.Overlays.{to_parent}
use Rattle.stat_plan.specs.Machine.Kin.{Kin, complete, is_parent, with_child, without_child, with_parent}
use Rattle.stat_plan.specs.declared.machine.Timer.{Timer}
use Rattle.stat_plan.specs.declared.machine.Timer.TheVariants.{Off, Running}
use Rattle.stat_plan.specs.declared.machine.Act.{Act}
use Rattle.stat_plan.specs.declared.machine.Act.TheVariants.{Hold, Arm, Send, Partial, Final}
use Rattle.overlay_event.specs.declared.event.Event.{Event}
use Rattle.overlay_event.specs.declared.event.Event.TheVariants.{Sample, Recv, Tick, Lose}
use Rattle.overlay_core.specs.declared.release.Kind.{Kind}
use Rattle.overlay_core.specs.declared.release.Kind.TheVariants.{Partial as PartialRelease, Final as FinalRelease}

-- What goes over a link. Up: these ranks of a wave have come in at the sender. Done: the wave has ended. Attach: the sender
-- is a child of the receiver from now on. Down: the sender is lost.
pub data Packet : Type 0 where
  Up : (stream wave : ℕ) (set : Ranks) → Packet
  Done : (stream wave : ℕ) → Packet
  Attach : Packet
  Down : Packet

-- a node: its kin, what it knows of each wave, and how many events it has done
pub record Node : Type 0 where
  pub kin : Kin
  pub book : Book
  pub count : ℕ

-- what the front end gives out of a wave: the ranks that it covers, and which nodes the front end knew to be lost
pub record Release : Type 0 where
  pub stream : ℕ
  pub wave : ℕ
  pub covered : Ranks
  pub kind : Kind
  pub lost : List ℕ

-- a node's waves in the middle of an event, with what it has sent and released in it so far
pub record Effects : Type 0 where
  pub book : Book
  pub sends : List (ℕ × Packet)  -- each with its receiver
  pub releases : List Release

-- what an event leaves of its node
pub record Outcome : Type 0 where
  pub kin : Kin
  pub work : Effects

-- what is due for an open wave
unfoldable pub due_at : Plan → ℕ → List ℕ → ℕ → Ranks → Ranks → Timer → Act
due_at p n lost s covered sent timer = due_act (mode p s) (complete p n lost s covered) (has_grown covered sent) (is_front p n) timer

-- Done to each child that serves the stream
unfoldable pub dones : Plan → Kin → ℕ → ℕ → List (ℕ × Packet)
dones p kin s w = map (λ c. (c, Done s w)) (filter (λ c. serves p c s) kin.children)

-- a release of a wave
abbrev pub release : ℕ → ℕ → Ranks → Kind → List ℕ → Release
release s w covered kind lost = record { stream = s; wave = w; covered = covered; kind = kind; lost = lost }

-- one act on an open wave
unfoldable pub acted : Plan → Kin → ℕ → ℕ → Ranks → Ranks → Timer → Effects → Act → Effects
acted p kin s w covered sent timer k Hold = k
acted p kin s w covered sent timer k Arm =
    record { book = set_wave k.book s w (Open covered sent (Running (ticks (mode p s)))); sends = k.sends; releases = k.releases }
acted p kin s w covered sent timer k Send =
    record { book = set_wave k.book s w (Open covered covered Off); sends = k.sends ++ to_parent kin.parent (Up s w covered); releases = k.releases }
acted p kin s w covered sent timer k Partial =
    record {
      book = set_wave k.book s w (Open covered covered Off);
      sends = k.sends;
      releases = k.releases ++ release s w covered PartialRelease kin.lost ∷ [];
    }
acted p kin s w covered sent timer k Final =
    record {
      book = set_wave k.book s w Closed;
      sends = k.sends ++ dones p kin s w;
      releases = k.releases ++ release s w covered FinalRelease kin.lost ∷ [];
    }

-- what is due for a wave that stands so is done
abbrev pub act_as : Plan → ℕ → Kin → ℕ → ℕ → Effects → Wave → Effects
act_as p n kin s w k Closed = k
act_as p n kin s w k (Open covered sent timer) = acted p kin s w covered sent timer k (due_at p n kin.lost s covered sent timer)

-- what is due for a wave is done
abbrev pub act : Plan → ℕ → Kin → ℕ → ℕ → Effects → Effects
act p n kin s w k = act_as p n kin s w k (k.book s w)

-- what is due for each of these waves is done
abbrev pub act_each : Plan → ℕ → Kin → List (ℕ × ℕ) → Effects → Effects
act_each p n kin [] k = k
act_each p n kin (v ∷ vs) k = act_each p n kin vs (act p n kin v.0 v.1 k)

-- nothing was sent or released yet
abbrev pub begin : Book → Effects
begin book = record { book = book; sends = []; releases = [] }

-- a daemon takes its samples of a wave: its ranks are covered
unfoldable pub sampled : Plan → ℕ → Node → ℕ → ℕ → Outcome
sampled p n x s w = record {
  kin = x.kin;
  work = act p n x.kin s w (begin (set_wave x.book s w (covering (ranks p n) (x.book s w))));
}

-- the timers go on by one, and the waves whose timers have run out are acted on
unfoldable pub after_tick : Plan → ℕ → Node → Outcome
after_tick p n x = record {
  kin = x.kin;
  work = act_each p n x.kin (filter (λ v. is_fired (ticked (x.book v.0 v.1))) (waves_at p n)) (begin (λ s w. ticked (x.book s w)));
}

-- ranks come up: the wave covers them too; where it has ended they mean nothing
unfoldable pub received_up : Plan → ℕ → Node → ℕ → ℕ → Ranks → Outcome
received_up p n x s w set = record {
  kin = x.kin;
  work = act p n x.kin s w (begin (set_wave x.book s w (growing set (x.book s w))));
}

-- a wave in this state ends, and the children are notified
abbrev pub done_work : Plan → Kin → ℕ → ℕ → Book → Wave → Effects
done_work p kin s w book Closed = begin book
done_work p kin s w book (Open covered sent timer) = record { book = set_wave book s w Closed; sends = dones p kin s w; releases = [] }

-- the parent says that a wave has ended
unfoldable pub received_done : Plan → ℕ → Node → ℕ → ℕ → Outcome
received_done p n x s w = record { kin = x.kin; work = done_work p x.kin s w x.book (x.book s w) }

-- m is a child from now on, and is notified which of its waves have ended
unfoldable pub received_attach : Plan → ℕ → Node → ℕ → Outcome
received_attach p n x m = record {
  kin = with_child x.kin m;
  work = record {
    book = x.book;
    sends = map (λ v. (m, Done v.0 v.1)) (filter (λ v. is_closed (x.book v.0 v.1) && serves p m v.0) (waves_at p n));
    releases = [];
  };
}

-- m is lost. Where it was the parent, another takes its place, and what the open waves cover is sent again. In any case the
-- loss may have completed a wave, so all are acted on.
unfoldable pub received_down : Plan → ℕ → Node → ℕ → Outcome
received_down p n x m =
    if is_parent x.kin.parent m
    then record {
      kin = with_parent p n x.kin m;
      work = act_each p n (with_parent p n x.kin m) (waves_at p n) (record {
        book = λ s w. unsent (x.book s w);
        sends = to_parent (with_parent p n x.kin m).parent Attach;
        releases = [];
      });
    }
    else record { kin = without_child x.kin m; work = act_each p n (without_child x.kin m) (waves_at p n) (begin x.book) }

-- a packet comes from m
abbrev pub received : Plan → ℕ → Node → ℕ → Packet → Outcome
received p n x m (Up s w set) = received_up p n x s w set
received p n x m (Done s w) = received_done p n x s w
received p n x m Attach = received_attach p n x m
received p n x m Down = received_down p n x m

-- nothing has changed
abbrev pub unchanged : Node → Outcome
unchanged x = record { kin = x.kin; work = begin x.book }

-- What an event leaves of its node, which is n and stands as x. What a Recv takes off its link goes with the sender. A Lose
-- changes nothing of the node itself.
abbrev pub handled : Plan → ℕ → Node → Event → Option (ℕ × Packet) → Outcome
handled p n x (Sample m s w) taken = sampled p n x s w
handled p n x (Recv m k) None = unchanged x
handled p n x (Recv m k) (Some t) = received p n x t.0 t.1
handled p n x (Tick m) taken = after_tick p n x
handled p n x (Lose m) taken = unchanged x

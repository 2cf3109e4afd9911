-- What a whole journal ends with, said by what it loses.
use Rattle.std.proofs.Common.{◌≡◌, ◌⊎◌, inl, inr, ◌<◌, ℕ, true, false, ◌==◌, ◌&&◌, List, [], ◌∷◌, ◌++◌, map, refl, sym, ap, subst, ◌∙◌, lt-ltb, eqb-true}
use Rattle.std.proofs.lemmas.Bool.{and_parts}
use Rattle.rank_set.specs.Ranks.{Ranks, none, union, Has}
use Rattle.overlay_setup.specs.NodeSets.{In}
use Rattle.stat_plan.specs.Samples.{ranks_with, all_ranks}
use Rattle.stat_plan.specs.Plans.{Plan, front, mode, daemons, ranks, nodes, stream_ranks, waves_of}
use Rattle.overlay_setup.specs.declared.script.Mode.TheVariants.{WaitForAll}
use Rattle.overlay_event.specs.declared.event.Event.{Event}
use Rattle.overlay_core.specs.declared.release.Kind.TheVariants.{Partial as PartialRelease, Final as FinalRelease}
use Rattle.overlay_core.specs.Nodes.{Release}
use Rattle.overlay_core.specs.Machine.{start}
use Rattle.overlay_core.specs.Runs.{after, IsWhole}
use Rattle.overlay_core.specs.Losses.{IsLost}
use Rattle.overlay_core.specs.History.{of_wave}
use Rattle.overlay_core.specs.Whole.{EndsFinally, HasEnded, LosesNoDaemon, HasOneRelease}
use Rattle.stat_plan.proofs.PlanFacts.{HasPlanFacts}
use Rattle.stat_plan.proofs.InLists.{in_from_filter, in_map}
use Rattle.stat_plan.proofs.LookupLemmas.{ranks_come}
use Rattle.overlay_core.proofs.RankSets.{in_union, same_from_members, no_rank}
use Rattle.overlay_core.proofs.Whole.{EndsWith, whole_is_over, dead_is_lost}
use Rattle.overlay_core.proofs.Releases.{legal_log}

daemon_below : (p : Plan) (d s : ℕ) → HasPlanFacts p → In d (daemons p s) → d < nodes p
daemon_below p d s plan i = elim (plan.daemon_place d s i) [ inl e ↦ subst (λ x. x < nodes p) (sym e) plan.front_below | inr u ↦ (plan.under_nodes d (front p) u).0 ]

alive_at_start : (p : Plan) (n : ℕ) → n < nodes p → (start p).alive n ≡ true
unfolding start
alive_at_start p n lt = lt-ltb n (nodes p) lt

-- a node that is dead in the end is lost by the journal
pub lost_by : (p : Plan) (journal : List Event) (n : ℕ) → n < nodes p → (after p journal).alive n ≡ false → IsLost journal n
lost_by p journal n lt dead = dead_is_lost p (start p) journal n (alive_at_start p n lt) dead

by_journal : (p : Plan) (journal : List Event) (s : ℕ) (rs : List Release) → HasPlanFacts p → EndsWith p (after p journal).alive s rs → EndsFinally p journal s rs
by_journal p journal s rs plan e = record {
  before = e.before;
  final = e.final;
  all = e.all;
  partial = e.partial;
  kind = e.kind;
  covers = λ d i safe. elim (e.misses.each d i) [
    | inl sub ↦ sub
    | inr lost ↦ absurd (safe (lost_by p journal d (daemon_below p d s plan i) (e.misses.dead d lost)))
  ];
  misses = λ d r i has gone. elim (e.misses.each d i) [
    | inl sub ↦ absurd (gone (sub r has))
    | inr lost ↦ (lost_by p journal d (daemon_below p d s plan i) (e.misses.dead d lost), lost)
  ];
  names = λ n lt i. lost_by p journal n lt (e.misses.dead n i);
}

pub whole_has_ended : (p : Plan) (journal : List Event) → HasPlanFacts p → IsWhole p journal → HasEnded p journal
whole_has_ended p journal plan l =
    let over = whole_is_over p journal plan l in
    record { final = λ s w i. by_journal p journal s (of_wave s w (after p journal).releases) plan (over.final s w i); closed = over.closed }

-- where a wave's releases are all final, it has one
record HasOne (p : Plan) (journal : List Event) (s : ℕ) (rs : List Release) : Type 0 where
  only : Release
  all : rs ≡ only ∷ []
  kind : only.kind ≡ FinalRelease
  covers : (d : ℕ) → In d (daemons p s) → (IsLost journal d → ⊥) → (r : ℕ) → Has r (ranks p d) → Has r only.covered

all_final : (p : Plan) (journal : List Event) (s : ℕ) (rs : List Release) → ((r : Release) → In r rs → r.kind ≡ PartialRelease → ⊥) → EndsFinally p journal s rs → HasOne p journal s rs
all_final p journal s rs h e = go e.before e.all e.partial
  where
    go : (before : List Release) → rs ≡ before ++ e.final ∷ [] → ((r : Release) → In r before → r.kind ≡ PartialRelease) → HasOne p journal s rs
    go [] k q = record { only = e.final; all = k; kind = e.kind; covers = e.covers }
    go (y ∷ ys) k q = absurd (h y (subst (λ l. In y l) (sym k) (inl refl)) (q y (inl refl)))

-- the ranks of some sets beside those of a first one
in_ranks_with : (f : ℕ → Ranks) (ds : List ℕ) (first : Ranks) (r : ℕ) → Has r (ranks_with first (map f ds)) → Has r first ⊎ ((d : ℕ) × In d ds × Has r (f d))
in_ranks_with f [] first r h = inl h
in_ranks_with f (d ∷ ds) first r h = elim (in_ranks_with f ds (union first (f d)) r h) [
  | inl i ↦ elim (in_union r first (f d) i) [ inl a ↦ inl a | inr b ↦ inr (d, inl refl, b) ]
  | inr k ↦ inr (k.0, inr k.1, k.2)
]

-- ranks of daemons of a stream, all of them, are the ranks of the stream
pub all_of_stream : (p : Plan) (s : ℕ) (covered : Ranks) → ((r : ℕ) → Has r covered → (d : ℕ) × In d (daemons p s) × Has r (ranks p d)) → ((d : ℕ) → In d (daemons p s) → (r : ℕ) → Has r (ranks p d) → Has r covered) → covered ≡ stream_ranks p s
unfolding stream_ranks
all_of_stream p s covered from each = same_from_members covered (all_ranks (map (ranks p) (daemons p s))) up down
  where
    up : (r : ℕ) → Has r covered → Has r (all_ranks (map (ranks p) (daemons p s)))
    up r h = let k = from r h in ranks_come none (map (ranks p) (daemons p s)) (ranks p k.0) r (in_map (ranks p) k.0 (daemons p s) k.1) k.2

    down : (r : ℕ) → Has r (all_ranks (map (ranks p) (daemons p s))) → Has r covered
    down r h = elim (in_ranks_with (ranks p) (daemons p s) none r h) [ inl i ↦ absurd (no_rank r i) | inr k ↦ each k.0 k.1 r k.2 ]

-- a stream that waits for all, and loses no daemon, has one release of each wave, which covers all
pub waits_for_all : (p : Plan) (journal : List Event) (s w : ℕ) → HasPlanFacts p → IsWhole p journal → mode p s ≡ WaitForAll → LosesNoDaemon p journal s → In (s, w) (waves_of p.streams) → HasOneRelease p s (of_wave s w (after p journal).releases)
waits_for_all p journal s w plan l waits safe i =
    let ended = whole_has_ended p journal plan l in
    let log = legal_log p journal plan l.0 in
    let a = all_final p journal s (of_wave s w (after p journal).releases) (λ r j k. let u = from r j in (log r u.0).waits k (ap (mode p) u.1 ∙ waits)) (ended.final s w i) in
    let u = from a.only (subst (λ x. In a.only x) (sym a.all) (inl refl)) in
    record {
      only = a.only;
      all = a.all;
      kind = a.kind;
      covers = all_of_stream p s a.only.covered (λ r j. let c = (log a.only u.0).whole r j in (c.daemon, subst (λ x. In c.daemon (daemons p x)) u.1 c.place.listed, c.holds)) (λ d j. a.covers d j (safe d j));
    }
  where
    from : (r : Release) → In r (of_wave s w (after p journal).releases) → (In r (after p journal).releases) × (r.stream ≡ s)
    from r j = let t = in_from_filter (λ r. (r.stream == s) && (r.wave == w)) r (after p journal).releases j in (t.0, eqb-true r.stream s (and_parts (r.stream == s) (r.wave == w) t.1).0)

-- The daemons of a stream, and their ranks.
use Rattle.std.proofs.Common.{◌≡◌, ℕ, ◌<◌, inl, inr, Bool, true, false, ◌==◌, cond, List, [], ◌∷◌, map, filter, length, Option, Some, None, refl, sym, ap, subst, ◌∙◌, eq-eqb, arith}
use Rattle.std.specs.Prelude.{find, IsSome}
use Rattle.std.specs.List.{AllByRecursion}
use Rattle.std.proofs.lemmas.Bool.{true≢false, or_left, or_right}
use Rattle.rank_set.specs.Ranks.{Has, IsSubset, Ranks}
use Rattle.stat_plan.specs.Invariants.{IsPlan}
use Rattle.overlay_setup.specs.Scripts.{IsDaemon, IsStream, Stream}
use Rattle.overlay_setup.specs.NodeSets.{In, member, up_to}
use Rattle.stat_plan.specs.Plans.{Plan, ancestors, daemons, expected, front, grain, is_under, is_within, nodes, nodes_of, ranks, sample_count, ranks_on, stream_of, stream_ranks, those_within, waves_of}
use Rattle.overlay_setup.specs.declared.script.Grain.{Grain}
use Rattle.overlay_setup.specs.declared.script.Grain.TheVariants.{Line}
use Rattle.stat_plan.proofs.FirstOver.{all_in, found_in}
use Rattle.stat_plan.proofs.Indexing.{rank_on}
use Rattle.stat_plan.proofs.InLists.{in_append, in_from_map, in_member}
use Rattle.stat_plan.proofs.LookupLemmas.{daemon_lies}
use Rattle.stat_plan.proofs.Rooted.{rooted, under_front}
use Rattle.merge_filter.specs.Contributions.{HasWave}

found : (xs : List Stream) (s w : ℕ) → In (s, w) (waves_of xs) → IsSome (find (λ x. x.number == s) xs)
found [] s w there = absurd there
found (x ∷ xs) s w there = elim (in_append (s, w) (map (λ (k : ℕ). let v : ℕ × ℕ = (x.number, k) in v) (up_to x.waves)) (waves_of xs) there) [
  | (inl here) ↦
      let from = in_from_map (λ (k : ℕ). let v : ℕ × ℕ = (x.number, k) in v) (up_to x.waves) (s, w) here in
      let same : x.number ≡ s = sym (ap (λ (v : ℕ × ℕ). v.0) from.1.1) in
      subst (λ b. IsSome (cond b (Some x) (find (λ y. y.number == s) xs))) (sym (eq-eqb x.number s same)) refl
  | (inr later) ↦ by (found xs s w later) (x.number == s)
]
  where
    by : IsSome (find (λ y. y.number == s) xs) → (b : Bool) → IsSome (cond b (Some x) (find (λ y. y.number == s) xs))
    by rest true = refl
    by rest false = rest

-- a wave's stream is there
pub stream_some : (p : Plan) (s w : ℕ) → HasWave p s w → IsSome (stream_of p s)
unfolding stream_of
stream_some p s w wave = found p.streams s w wave

-- what the stream says
pub samples_at : (p : Plan) (s : ℕ) (x : Stream) → stream_of p s ≡ Some x → x.samples ≡ sample_count p s
unfolding sample_count
samples_at p s x is = sym (ap (λ (o : Option Stream). elim o as (λ _. ℕ) [ None ↦ 0 | (Some x) ↦ x.samples ]) is)

pub grain_at : (p : Plan) (s : ℕ) (x : Stream) → stream_of p s ≡ Some x → x.grain ≡ grain p s
unfolding grain
grain_at p s x is = sym (ap (λ (o : Option Stream). elim o as (λ _. Grain) [ None ↦ Line | (Some x) ↦ x.grain ]) is)

-- a daemon of a stream is a node
pub daemon_is_node : (p : Plan) (s d : ℕ) → IsPlan p → In d (daemons p s) → d < nodes p
unfolding daemons stream_of
daemon_is_node p s d plan there = by (find (λ x. x.number == s) p.streams) refl there
  where
    by : (o : Option Stream) → find (λ x. x.number == s) p.streams ≡ o → In d (elim o as (λ _. List ℕ) [ None ↦ [] | (Some x) ↦ x.daemons ]) → d < nodes p
    by None is there = absurd there
    by (Some x) is there =
        let stream = found_in (λ x. x.number == s) p.streams x is in
        (all_in (IsDaemon (nodes_of p)) x.daemons d (all_in (λ (x : Stream). AllByRecursion (IsDaemon (nodes_of p)) x.daemons) p.streams x plan.script_fits.daemons stream) there).0

-- the ranks of all daemons of a stream
pub all_daemons : (p : Plan) (s : ℕ) → ranks_on p (daemons p s) ≡ stream_ranks p s
unfolding stream_ranks
all_daemons p s = refl

-- the ranks of some of them are ranks of the stream
pub daemons_lie : (p : Plan) (s : ℕ) (some : List ℕ) (own : Ranks) → ((d : ℕ) → In d some → In d (daemons p s)) → own ≡ ranks_on p some → IsSubset own (stream_ranks p s)
unfolding ranks
daemons_lie p s some own within is r there =
    let on = rank_on p some r (subst (Has r) is there) in
    daemon_lies p s on.node (within on.node on.there) r on.rank

-- each daemon of a stream is the front end or below it
within_front : (p : Plan) (s d : ℕ) → IsPlan p → In d (daemons p s) → is_within p d (front p) ≡ true
unfolding is_within is_under
within_front p s d plan there = elim (under_front p (length (ancestors p d)) d (rooted p plan.topology.tree) (omega arith) (daemon_is_node p s d plan there)) [
  | (inl same) ↦ or_left (d == front p) (member (front p) (ancestors p d)) (eq-eqb d (front p) same)
  | (inr under) ↦ or_right (d == front p) (member (front p) (ancestors p d)) (in_member (front p) (ancestors p d) under)
]

filter_all : (test : ℕ → Bool) (xs : List ℕ) → ((x : ℕ) → In x xs → test x ≡ true) → filter test xs ≡ xs
filter_all test [] all = refl
filter_all test (x ∷ xs) all = ap (λ b. cond b (x ∷ filter test xs) (filter test xs)) (all x (inl refl)) ∙ ap (λ ys. x ∷ ys) (filter_all test xs (λ y there. all y (inr there)))

-- the front end expects all ranks of a stream
pub all_expected : (p : Plan) (s w : ℕ) → IsPlan p → HasWave p s w → (n : ℕ) (ranks : Ranks) → n ≡ front p → ranks ≡ expected p n s → ranks ≡ stream_ranks p s
unfolding expected stream_ranks
all_expected p s w plan wave n ranks at is =
    is
    ∙ ap (λ m. ranks_on p (those_within p m (daemons p s))) at
    ∙ ap (ranks_on p) (filter_all (λ d. is_within p d (front p)) (daemons p s) (λ d there. within_front p s d plan there))

-- a wave's stream has sample times
pub samples_some : (p : Plan) (s w : ℕ) → IsPlan p → HasWave p s w → 0 < sample_count p s
unfolding sample_count stream_of
samples_some p s w plan wave = by (find (λ x. x.number == s) p.streams) refl (found p.streams s w wave)
  where
    by : (o : Option Stream) → find (λ x. x.number == s) p.streams ≡ o → IsSome o → 0 < (elim o as (λ _. ℕ) [ None ↦ 0 | (Some x) ↦ x.samples ])
    by None is some = absurd (true≢false (sym some))
    by (Some x) is some = (all_in IsStream p.streams x plan.script.streams (found_in (λ x. x.number == s) p.streams x is)).has_samples

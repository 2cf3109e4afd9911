-- One of the worked jobs is a plan, so the laws speak of something.
use Rattle.std.proofs.Common.{◌≡◌, ◌≢◌, ◌⊎◌, ◌≤◌, ◌<◌, inl, inr, ℕ, zero, suc, true, false, ◌||◌, List, [], ◌∷◌, length, refl, sym, subst, ◌∙◌, arith, zero-le, Some, None, eqb-true}
use Rattle.std.specs.Prelude.{slice_index_or, codes}
use Rattle.std.specs.List.{IsDistinct}
use Rattle.std.specs.Str.{bytes_eq}
use Rattle.std.proofs.lemmas.Bool.{or_cases, true≢false}
use Rattle.rank_set.specs.Ranks.{none, has, with_rank, set_of, is_empty, Has, has-set_of}
use Rattle.std.specs.Ordering.{nat_cmp, eq_by_cmp}
use Rattle.std.specs.Cmp.{unsigned_tied}
use Rattle.overlay_setup.specs.NodeSets.{In}
use Rattle.overlay_setup.specs.Names.{IsName}
use Rattle.overlay_setup.specs.Trees.{parent_of, ancestors, root_of, is_daemon, IsTree}
use Rattle.overlay_setup.specs.Topologies.{IsTopology}
use Rattle.stat_plan.specs.Samples.{IsWithinLimit}
use Rattle.stat_plan.specs.Plans.{nodes_of, scripted_of, samples}
use Rattle.stat_plan.specs.Invariants.{IsPlan, ArePlacedOnce}
use Rattle.overlay_setup.specs.Scripts.{ScriptFits, IsScript}
use Rattle.overlay_core.specs.Rows.{lost_late}

front_name : IsName (codes "fe:0")
front_name = record { host = codes "fe"; index = codes "0"; parts = refl; host_bytes = refl; has_host = omega arith; host_within_limit = omega arith; digits = refl; has_digits = omega arith; digits_within_limit = omega arith; no_leading_zero = refl }

inner_name : IsName (codes "c0:0")
inner_name = record { host = codes "c0"; index = codes "0"; parts = refl; host_bytes = refl; has_host = omega arith; host_within_limit = omega arith; digits = refl; has_digits = omega arith; digits_within_limit = omega arith; no_leading_zero = refl }

first_name : IsName (codes "a:0")
first_name = record { host = codes "a"; index = codes "0"; parts = refl; host_bytes = refl; has_host = omega arith; host_within_limit = omega arith; digits = refl; has_digits = omega arith; digits_within_limit = omega arith; no_leading_zero = refl }

second_name : IsName (codes "b:0")
second_name = record { host = codes "b"; index = codes "0"; parts = refl; host_bytes = refl; has_host = omega arith; host_within_limit = omega arith; digits = refl; has_digits = omega arith; digits_within_limit = omega arith; no_leading_zero = refl }

names_differ : IsDistinct bytes_eq lost_late.names
unfolding IsDistinct
names_differ = ((refl, (refl, (refl, tt))), ((refl, (refl, tt)), ((refl, tt), (tt, tt))))

one_root : (n : ℕ) → n < length lost_late.parents → parent_of lost_late.parents n ≡ None → n ≡ root_of lost_late.parents
one_root zero lt e = refl
one_root (suc zero) lt e = absurd (cc)
one_root (suc (suc zero)) lt e = absurd (cc)
one_root (suc (suc (suc zero))) lt e = absurd (cc)
one_root (suc (suc (suc (suc n)))) lt e = absurd (omega arith)

parents_are_nodes : (n m : ℕ) → parent_of lost_late.parents n ≡ Some m → (n < length lost_late.parents) × (m < length lost_late.parents)
parents_are_nodes zero m e = absurd (cc)
parents_are_nodes (suc zero) m e = let k : m ≡ 0 = cc in (omega arith, omega arith)
parents_are_nodes (suc (suc zero)) m e = let k : m ≡ 1 = cc in (omega arith, omega arith)
parents_are_nodes (suc (suc (suc zero))) m e = let k : m ≡ 1 = cc in (omega arith, omega arith)
parents_are_nodes (suc (suc (suc (suc n)))) m e = absurd (cc)

depth : (n : ℕ) → length (ancestors lost_late.parents n) ≤ 2
unfolding ancestors
depth zero = omega arith
depth (suc zero) = omega arith
depth (suc (suc zero)) = omega arith
depth (suc (suc (suc zero))) = omega arith
depth (suc (suc (suc (suc n)))) = omega arith

tree : IsTree lost_late.parents
tree = record {
  some = omega arith;
  root = refl;
  one_root = one_root;
  parents_are_nodes = parents_are_nodes;
  grounded = λ n. let k = depth n in omega arith;
  shallow = λ n. let k = depth n in omega arith;
}

topology : IsTopology (nodes_of lost_late)
topology = record {
  paired = refl;
  some = omega arith;
  within_limit = omega arith;
  tree = tree;
  named = (front_name, (inner_name, (first_name, (second_name, tt))));
  distinct = names_differ;
}

low : (r : ℕ) → Has r (set_of (0 ∷ 1 ∷ [])) → r < 2
low r h = elim (or_cases (eq_by_cmp nat_cmp r 0) (eq_by_cmp nat_cmp r 1 || false) (sym (has-set_of (0 ∷ 1 ∷ []) r) ∙ h)) [
  | inl a ↦ let k : r ≡ 0 = eqb-true r 0 (sym (unsigned_tied r 0) ∙ a) in omega arith
  | inr b ↦ elim (or_cases (eq_by_cmp nat_cmp r 1) false b) [ inl a ↦ let k : r ≡ 1 = eqb-true r 1 (sym (unsigned_tied r 1) ∙ a) in omega arith | inr f ↦ absurd (true≢false (sym f)) ]
]

high : (r : ℕ) → Has r (set_of (2 ∷ 3 ∷ [])) → 2 ≤ r
unfolding has with_rank
high zero h = absurd (true≢false (sym h))
high (suc zero) h = absurd (true≢false (sym h))
high (suc (suc n)) h = omega arith

-- where a rank is placed
home : (n r : ℕ) → Has r (slice_index_or lost_late.placed n none) → ((n ≡ 2) × (r < 2)) ⊎ ((n ≡ 3) × (2 ≤ r))
unfolding has
home zero r h = absurd (true≢false (sym h))
home (suc zero) r h = absurd (true≢false (sym h))
home (suc (suc zero)) r h = inl (refl, low r h)
home (suc (suc (suc zero))) r h = inr (refl, high r h)
home (suc (suc (suc (suc n)))) r h = absurd (true≢false (sym h))

once : ArePlacedOnce lost_late.placed
once m n r i j = elim (home m r i) [
  | inl a ↦ elim (home n r j) [ inl b ↦ a.0 ∙ sym b.0 | inr b ↦ absurd (let x = a.1 in let y = b.1 in omega arith) ]
  | inr a ↦ elim (home n r j) [ inl b ↦ absurd (let x = a.1 in let y = b.1 in omega arith) | inr b ↦ a.0 ∙ sym b.0 ]
]

on_daemons : (n : ℕ) → n < length lost_late.parents → is_daemon lost_late.parents n ≡ true → slice_index_or lost_late.placed n none ≢ none
unfolding with_rank
on_daemons zero lt e k = true≢false (sym e)
on_daemons (suc zero) lt e k = true≢false (sym e)
on_daemons (suc (suc zero)) lt e k = true≢false (sym (subst (λ z. is_empty z ≡ true) (sym k) refl))
on_daemons (suc (suc (suc zero))) lt e k = true≢false (sym (subst (λ z. is_empty z ≡ true) (sym k) refl))
on_daemons (suc (suc (suc (suc n)))) lt e k = omega arith

nowhere_else : (n : ℕ) → n < length lost_late.parents → is_daemon lost_late.parents n ≡ false → slice_index_or lost_late.placed n none ≡ none
nowhere_else zero lt e = refl
nowhere_else (suc zero) lt e = refl
nowhere_else (suc (suc zero)) lt e = absurd (true≢false e)
nowhere_else (suc (suc (suc zero))) lt e = absurd (true≢false e)
nowhere_else (suc (suc (suc (suc n)))) lt e = refl

some_of : {X : Type 0} (x : X) (xs : List X) → x ∷ xs ≢ []
some_of x xs e = cc

stream_good : (y : ℕ) → In y (3 ∷ []) → 2 < y
stream_good y (inl e) = omega arith
stream_good y (inr i) = absurd i

script : IsScript (scripted_of lost_late)
script = record {
  some = some_of _ _;
  streams = (record { number = omega arith; mode = tt; has_waves = omega arith; waves_within_limit = omega arith; has_samples = omega arith; samples_within_limit = omega arith; has_daemons = some_of _ _; daemons_increase = (stream_good, ((λ y i. absurd i), tt)) }, tt);
  streams_increase = ((λ y i. absurd i), tt);
  faults = (record { after = omega arith; keep = omega arith }, tt);
  faults_limit = omega arith;
  faults_increase = ((λ y i. absurd i), tt);
}

fits : ScriptFits (nodes_of lost_late) (scripted_of lost_late)
fits = record { daemons = (((omega arith, refl), ((omega arith, refl), tt)), tt); faults = ((omega arith, omega arith), tt) }

within : (s w : ℕ) → IsWithinLimit (samples lost_late s w)
unfolding samples
within s w = zero-le

pub lost_late_is_plan : IsPlan lost_late
lost_late_is_plan = record {
  topology = topology;
  samples = record { once = once; lines = tt; within_limit = zero-le };
  script = script;
  samples_fit = record { paired = refl; on_daemons = on_daemons; nowhere_else = nowhere_else };
  script_fits = fits;
  within = λ s w i. within s w;
}

-- The waves of streams, and their numbers as texts.
use Rattle.std.proofs.Common.{◌≡◌, ℕ, ◌<◌, ◌^◌, ◌==◌, Bool, true, false, cond, List, [], ◌∷◌, ◌++◌, map, Some, inl, inr, refl, sym, ap, ◌∙◌, subst, arith, eqb-true, eq-eqb}
use Rattle.std.specs.Prelude.{find}
use Rattle.std.specs.Fmt.{decimal}
use Rattle.std.proofs.lemmas.Bool.{false_from_ne_true}
use Rattle.std.proofs.lemmas.Fmt.{decimal_injective}
use Rattle.overlay_setup.specs.NodeSets.{In, IsStrictlyIncreasing, up_to}
use Rattle.overlay_setup.specs.Scripts.{Stream, IsStream}
use Rattle.stat_plan.specs.Invariants.{IsPlan}
use Rattle.stat_plan.specs.Plans.{Plan, stream_of, waves_of}
use Rattle.stat_plan.proofs.FirstOver.{all_in, found_in}
use Rattle.stat_plan.proofs.InLists.{in_append, append_left, append_right, in_map, in_from_map, up_to_in, up_to_below}
use Rattle.journal_text.specs.Text.{wave_text}
use Rattle.journal_text.specs.Words.{has_no_space}
use Rattle.journal_text.proofs.Parted as parts
use Rattle.journal_text.proofs.Plain.{plain_number, plain_no_space}

abbrev numbered : ℕ → Stream → Bool
numbered s x = x.number == s

abbrev waves_from : Stream → List (ℕ × ℕ)
waves_from x = map (λ w. (x.number, w)) (up_to x.waves)

-- the stream that is found has the number
number_found : (xs : List Stream) (s : ℕ) (x : Stream) → find (numbered s) xs ≡ Some x → x.number ≡ s
number_found [] s x e = absurd (cc)
number_found (y ∷ ys) s x e = by (numbered s y) refl e (number_found ys s x)
  where
    by : (b : Bool) → numbered s y ≡ b → cond b (Some y) (find (numbered s) ys) ≡ Some x → (find (numbered s) ys ≡ Some x → x.number ≡ s) → x.number ≡ s
    by true is found later = let same : y ≡ x = cc in ap (λ (z : Stream). z.number) (sym same) ∙ eqb-true y.number s is
    by false is found later = later found

abbrev HasWave : List Stream → ℕ → ℕ → Type 0
HasWave xs s w = (x : Stream) × ((find (numbered s) xs ≡ Some x) × (w < x.waves))

-- a wave is one of the stream that is found by its number
wave_here : (xs : List Stream) → IsStrictlyIncreasing (map (λ x. x.number) xs) → (s w : ℕ) → In (s, w) (waves_of xs) → HasWave xs s w
wave_here [] up s w there = absurd there
wave_here (x ∷ xs) up s w there = elim (in_append (s, w) (waves_from x) (waves_of xs) there) [
  | (inl here) ↦
      let from = in_from_map (λ (k : ℕ). let v : ℕ × ℕ = (x.number, k) in v) (up_to x.waves) (s, w) here in
      let number : s ≡ x.number = ap (λ (v : ℕ × ℕ). v.0) from.1.1 in
      let wave : w ≡ from.0 = ap (λ (v : ℕ × ℕ). v.1) from.1.1 in
      let below = up_to_below x.waves from.0 from.1.0 in
      (x, (ap (λ b. cond b (Some x) (find (numbered s) xs)) (eq-eqb x.number s (sym number)), subst (λ k. k < x.waves) (sym wave) below))
  | (inr later) ↦
      let found = wave_here xs up.1 s w later in
      let number : found.0.number ≡ s = number_found xs s found.0 found.1.0 in
      let above : x.number < found.0.number = up.0 found.0.number (in_map (λ (y : Stream). y.number) found.0 xs (found_in (numbered s) xs found.0 found.1.0)) in
      let other : numbered s x ≡ false = false_from_ne_true (numbered s x) (λ same. let e = eqb-true x.number s same in absurd (omega (arith, above, number, e))) in
      (found.0, (ap (λ b. cond b (Some x) (find (numbered s) xs)) other ∙ found.1.0, found.1.1))
]

-- a number below that of the stream's waves is a wave
wave_listed : (xs : List Stream) (s w : ℕ) (x : Stream) → find (numbered s) xs ≡ Some x → w < x.waves → In (s, w) (waves_of xs)
wave_listed [] s w x e below = absurd (cc)
wave_listed (y ∷ ys) s w x e below = by (numbered s y) refl e (wave_listed ys s w x)
  where
    by : (b : Bool) → numbered s y ≡ b → cond b (Some y) (find (numbered s) ys) ≡ Some x → (find (numbered s) ys ≡ Some x → w < x.waves → In (s, w) (waves_of ys)) → In (s, w) (waves_from y ++ waves_of ys)
    by true is found later =
        let same : y ≡ x = cc in
        let number = eqb-true y.number s is in
        let listed = in_map (λ (k : ℕ). let v : ℕ × ℕ = (y.number, k) in v) w (up_to y.waves) (up_to_in y.waves w (subst (λ (z : Stream). w < z.waves) (sym same) below)) in
        append_left (s, w) (waves_from y) (waves_of ys) (subst (λ k. In (k, w) (waves_from y)) number listed)
    by false is found later = append_right (s, w) (waves_from y) (waves_of ys) (later found below)

module _ (p : Plan) (plan : IsPlan p) where
  -- a wave of the plan is one of the stream of its number
  pub wave_known : (s w : ℕ) → In (s, w) (waves_of p.streams) → (x : Stream) × ((stream_of p s ≡ Some x) × (w < x.waves))
  unfolding stream_of
  wave_known s w there = wave_here p.streams plan.script.streams_increase s w there

  pub is_wave : (s w : ℕ) (x : Stream) → stream_of p s ≡ Some x → w < x.waves → In (s, w) (waves_of p.streams)
  unfolding stream_of
  is_wave s w x found below = wave_listed p.streams s w x found below

  -- its numbers are small
  pub wave_small : (s w : ℕ) → In (s, w) (waves_of p.streams) → (s < 256) × (w < 256)
  wave_small s w there =
      let found = wave_here p.streams plan.script.streams_increase s w there in
      let number = number_found p.streams s found.0 found.1.0 in
      let stream = all_in IsStream p.streams found.0 plan.script.streams (found_in (numbered s) p.streams found.0 found.1.0) in
      let below = found.1.1 in
      let few = stream.number in
      let waves = stream.waves_within_limit in
      (omega (arith, number, few), omega (arith, below, waves))

number_has_no_space : (n : ℕ) → n < 2 ^ 64 → has_no_space (decimal n) ≡ true
number_has_no_space n below = plain_no_space (decimal n) (plain_number n below)

-- the texts of waves differ, also from a text that is cut at its first space
pub wave_parted : (word rest : List ℕ) (s w : ℕ) → s < 256 → has_no_space word ≡ true → word ++ 32 ∷ rest ≡ wave_text s w → (word ≡ decimal s) × (rest ≡ decimal w)
wave_parted word rest s w below none e = parts.parted word (decimal s) rest (decimal w) none (number_has_no_space s (omega arith)) e

pub one_wave_text : (s w t v : ℕ) → s < 256 → w < 256 → t < 256 → v < 256 → wave_text s w ≡ wave_text t v → (s ≡ t) × (w ≡ v)
one_wave_text s w t v low one other high e =
    let cut = wave_parted (decimal s) (decimal w) t v other (number_has_no_space s (omega arith)) e in
    (decimal_injective s t (omega arith) (omega arith) cut.0, decimal_injective w v (omega arith) (omega arith) cut.1)

-- a text without a space is no wave's
pub no_wave_text : (text : List ℕ) (s w : ℕ) → has_no_space text ≡ true → text ≡ wave_text s w → ⊥
no_wave_text text s w none e = parts.has_space (decimal s) (decimal w) (ap has_no_space (sym e) ∙ none)

-- A wave's end is sent to nodes, one after another.
use Rattle.std.proofs.Common.{◌≡◌, ◌<◌, ◌≤◌, ◌+◌, ℕ, zero, suc, Bool, true, false, cond, ◌&&◌, List, [], ◌∷◌, ◌++◌, map, filter, length, get_or, drop, refl, sym, ap, ◌∙◌, arith, append_assoc, drop-cons}
use Rattle.std.specs.List.{AllByRecursion}
use Rattle.std.proofs.lemmas.List.{append-nil}
use Rattle.stat_plan.specs.Machine.Kin.{Kin}
use Rattle.stat_plan.specs.Machine.Waves.{Book, is_closed}
use Rattle.stat_plan.specs.Plans.{Plan, serves}
use Rattle.overlay_core.specs.Nodes.{Packet, Done, dones}
use Rattle.overlay_node.specs.Acting.{done_to, told}
use Rattle.overlay_node.specs.Outputs.{AreFrames, Sends, packets_of}

-- what holds of each element holds of that at an index
pub all_at : {X : Type 0} (P : X → Type 0) (xs : List X) (i : ℕ) (d : X) → i < length xs → AllByRecursion P xs → P (get_or xs i d)
all_at P [] i d lt h = absurd (omega (arith, lt))
all_at P (x ∷ xs) zero d lt h = h.0
all_at P (x ∷ xs) (suc i) d lt h = all_at P xs i d (omega (arith, lt)) h.1

one_more : (i : ℕ) → suc i ≡ i + 1
one_more i = omega arith

pub drop_end : {X : Type 0} (xs : List X) (i : ℕ) → length xs ≤ i → drop i xs ≡ []
drop_end [] zero h = refl
drop_end [] (suc i) h = refl
drop_end (x ∷ xs) zero h = absurd (omega (arith, h))
drop_end (x ∷ xs) (suc i) h = drop_end xs i (omega (arith, h))

-- what each element sends, and what is sent while some are left
module _ {X : Type 0} (p : Plan) (each : X → List (ℕ × Packet)) (all : List X → List (ℕ × Packet)) (step : (x : X) (xs : List X) → all (x ∷ xs) ≡ each x ++ all xs) (none : all [] ≡ []) where
  -- what was sent, and what the rest sends, is what all send
  pub record AreLeft (start now : List (ℕ × List ℕ)) (rest xs : List X) : Type 0 where
    pub packets : packets_of now ++ all rest ≡ packets_of start ++ all xs
    pub frames : AreFrames p start → AreFrames p now

  pub left_more : (start now new : List (ℕ × List ℕ)) (xs : List X) (i : ℕ) (d : X) → i < length xs → Sends p (each (get_or xs i d)) now new → AreLeft start now (drop i xs) xs → AreLeft start new (drop (i + 1) xs) xs
  left_more start now new xs i d lt h left = record {
    packets =
        ap (λ l. l ++ all (drop (i + 1) xs)) h.packets
        ∙ append_assoc (packets_of now) (each (get_or xs i d)) (all (drop (i + 1) xs))
        ∙ ap (λ k. packets_of now ++ (each (get_or xs i d) ++ all (drop k xs))) (sym (one_more i))
        ∙ ap (λ l. packets_of now ++ l) (sym (step (get_or xs i d) (drop (suc i) xs)))
        ∙ ap (λ l. packets_of now ++ all l) (sym (drop-cons xs i d lt)) ∙ left.packets;
    frames = λ a. h.frames (left.frames a);
  }

  pub left_none : (start now : List (ℕ × List ℕ)) (xs : List X) (i : ℕ) → length xs ≤ i → AreLeft start now (drop i xs) xs → Sends p (all xs) start now
  left_none start now xs i ge left = record {
    packets = sym (append-nil (packets_of now)) ∙ ap (λ l. packets_of now ++ l) (sym (ap all (drop_end xs i ge) ∙ none)) ∙ left.packets;
    frames = left.frames;
  }

-- ---- to children

abbrev pub dones_to : Plan → ℕ → ℕ → List ℕ → List (ℕ × Packet)
dones_to p s w cs = map (λ c. (c, Done s w)) (filter (λ c. serves p c s) cs)

pub dones_step : (p : Plan) (s w c : ℕ) (cs : List ℕ) → dones_to p s w (c ∷ cs) ≡ done_to p s w c ++ dones_to p s w cs
dones_step p s w c cs = by (serves p c s)
  where
    by : (b : Bool) → map (λ c. (c, Done s w)) (cond b (c ∷ filter (λ c. serves p c s) cs) (filter (λ c. serves p c s) cs)) ≡ cond b ((c, Done s w) ∷ []) [] ++ dones_to p s w cs
    by true = refl
    by false = refl

pub dones_are : (p : Plan) (kin : Kin) (s w : ℕ) → dones_to p s w kin.children ≡ dones p kin s w
unfolding dones
dones_are p kin s w = refl

-- ---- to a new child

pub told_step : (p : Plan) (book : Book) (m : ℕ) (v : ℕ × ℕ) (vs : List (ℕ × ℕ)) → told p book m (v ∷ vs) ≡ told p book m (v ∷ []) ++ told p book m vs
told_step p book m v vs = by (is_closed (book v.0 v.1) && serves p m v.0)
  where
    by : (b : Bool) → map (λ (u : ℕ × ℕ). let q : ℕ × Packet = (m, Done u.0 u.1) in q) (cond b (v ∷ filter (λ u. is_closed (book u.0 u.1) && serves p m u.0) vs) (filter (λ u. is_closed (book u.0 u.1) && serves p m u.0) vs)) ≡ map (λ (u : ℕ × ℕ). let q : ℕ × Packet = (m, Done u.0 u.1) in q) (cond b (v ∷ []) []) ++ told p book m vs
    by true = refl
    by false = refl

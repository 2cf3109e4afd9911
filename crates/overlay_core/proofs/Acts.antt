-- What acts keep of a node's waves and of what it sends.
use Rattle.rank_set.specs.Ranks.{Ranks, none, is_same, IsSubset}
use Rattle.std.proofs.Common.{◌≡◌, ◌≢◌, inl, inr, ℕ, Bool, true, false, not, ◌==◌, List, [], ◌∷◌, ◌++◌, refl, sym, ap, subst, ◌∙◌, eqb-true, Option, Some, None}
use Rattle.std.proofs.lemmas.Bool.{cond_both, true≢false}
use Rattle.overlay_setup.specs.NodeSets.{In}
use Rattle.stat_plan.specs.Machine.Waves.{put_at, Wave, Open, Closed, Book, set_wave}
use Rattle.stat_plan.specs.Plans.{Plan, IsUnder, serves, mode, is_front, waves_of}
use Rattle.stat_plan.specs.Machine.Due.{due_act}
use Rattle.overlay_core.specs.Nodes.{Packet, Up, Done, Attach, Down, Effects, due_at, dones, acted, act_as, act, act_each}
use Rattle.stat_plan.specs.Machine.Overlays.{to_parent}
use Rattle.stat_plan.specs.Machine.Kin.{Kin, complete}
use Rattle.overlay_core.specs.LinkInvariant.{Fits, OpenIsSound, WaveIsSound, BookIsSound}
use Rattle.overlay_setup.specs.declared.script.Mode.{Mode}
use Rattle.overlay_setup.specs.declared.script.Mode.TheVariants.{WaitForAll, TimeOut, DontWait}
use Rattle.stat_plan.specs.declared.machine.Timer.{Timer}
use Rattle.stat_plan.specs.declared.machine.Timer.TheVariants.{Off, Running, Fired}
use Rattle.stat_plan.specs.declared.machine.Act.{Act}
use Rattle.stat_plan.specs.declared.machine.Act.TheVariants.{Hold, Arm, Send, Partial, Final}
use Rattle.stat_plan.proofs.InLists.{in_append, in_map_filter}
use Rattle.stat_plan.proofs.LossInvariant.{SendsFit}
use Rattle.overlay_core.proofs.RankSets.{none_from_subset, test_from_same}

-- what holds of each wave still holds where one is set to what it holds of
pub each_wave_set : (P : ℕ → ℕ → Wave → Type 0) (book : Book) (s w : ℕ) (v : Wave) → ((a b : ℕ) → P a b (book a b)) → P s w v → (a b : ℕ) → P a b (set_wave book s w v a b)
each_wave_set P book s w v each here a b =
    cond_both (a == s) (put_at (book s) w v) (book a) (λ f. P a b (f b))
    (λ e. cond_both (b == w) v (book s b) (λ x. P a b x)
    (λ f. let ea : a ≡ s = eqb-true a s e in let eb : b ≡ w = eqb-true b w f in subst (λ x. P x b v) (sym ea) (subst (λ x. P s x v) (sym eb) here))
    (λ f. let ea : a ≡ s = eqb-true a s e in subst (λ x. P x b (book s b)) (sym ea) (each s b)))
    (λ e. each a b)

abbrev pub IsSubsetOf : List (ℕ × ℕ) → List (ℕ × ℕ) → Type 0
IsSubsetOf vs us = (v : ℕ × ℕ) → In v vs → In v us

-- the kin of a node lie where they should
pub record KinFits (p : Plan) (n : ℕ) (kin : Kin) : Type 0 where
  pub parent : (m : ℕ) → kin.parent ≡ Some m → IsUnder p n m
  pub children : (c : ℕ) → In c kin.children → IsUnder p c n

-- a living m may send it to n
abbrev pub SendIsSound : Plan → ℕ → ℕ → Packet → Type 0
SendIsSound p m n q = Fits p m n q × (q ≡ Down → ⊥)

-- it may be on a link from m to n, and is the notice of a loss only where m is lost
abbrev pub PacketIsSound : Plan → (ℕ → Bool) → ℕ → ℕ → Packet → Type 0
PacketIsSound p alive m n q = Fits p m n q × (q ≡ Down → alive m ≡ false)

abbrev pub SendsAreSound : Plan → ℕ → List (ℕ × Packet) → Type 0
SendsAreSound p n sends = SendsFit Down (Fits p) n sends

pub record WorkIsSound (p : Plan) (n : ℕ) (k : Effects) : Type 0 where
  pub book : BookIsSound p n k.book
  pub sends : SendsAreSound p n k.sends

pub sends_append : (p : Plan) (n : ℕ) (xs ys : List (ℕ × Packet)) → SendsAreSound p n xs → SendsAreSound p n ys → SendsAreSound p n (xs ++ ys)
sends_append p n xs ys hx hy m q i = elim (in_append (m, q) xs ys i) [ inl j ↦ hx m q j | inr j ↦ hy m q j ]

-- a wave that is sent has grown
pub send_grown : (m : Mode) (done grown front : Bool) (t : Timer) → due_act m done grown front t ≡ Send → grown ≡ true
send_grown m done true front t e = refl
send_grown m true false true t e = absurd (cc)
send_grown m true false false t e = absurd (cc)
send_grown WaitForAll false false front t e = absurd (cc)
send_grown DontWait false false front t e = absurd (cc)
send_grown (TimeOut k) false false front Off e = absurd (cc)
send_grown (TimeOut k) false false front (Running j) e = absurd (cc)
send_grown (TimeOut k) false false front Fired e = absurd (cc)

pub grown_not_empty : (covered sent : Ranks) → IsSubset sent covered → not (is_same covered sent) ≡ true → covered ≢ none
grown_not_empty covered sent h e k = true≢false (sym e ∙ ap not (subst (λ z. is_same z sent ≡ true) (sym k) (subst (λ z. is_same none z ≡ true) (sym (none_from_subset sent (subst (IsSubset sent) k h))) (test_from_same none))))

pub to_parent_sound : (p : Plan) (n : ℕ) (o : Option ℕ) (q : Packet) → ((m : ℕ) → o ≡ Some m → SendIsSound p n m q) → SendsAreSound p n (to_parent o q)
to_parent_sound p n None q h m q' i = absurd i
to_parent_sound p n (Some a) q h m q' (inl e) = let em : m ≡ a = ap (λ v. v.0) e in let eq : q' ≡ q = ap (λ v. v.1) e in subst (λ x. SendIsSound p n x q') (sym em) (subst (λ x. SendIsSound p n a x) (sym eq) (h a refl))
to_parent_sound p n (Some a) q h m q' (inr i) = absurd i

pub dones_sound : (p : Plan) (n s w : ℕ) (kin : Kin) → KinFits p n kin → In (s, w) (waves_of p.streams) → SendsAreSound p n (dones p kin s w)
unfolding dones
dones_sound p n s w kin fits named m q i =
    let r = in_map_filter (λ c. (c, Done s w)) (λ c. serves p c s) kin.children (m, q) i in
    let em : m ≡ r.0 = ap (λ v. v.0) r.3 in
    let eq : q ≡ Done s w = ap (λ v. v.1) r.3 in
    subst (λ x. SendIsSound p n m x) (sym eq) (subst (λ x. IsUnder p x n × (serves p x s ≡ true) × In (s, w) (waves_of p.streams)) (sym em) (fits.children r.0 r.1, r.2, named), λ d. (cc))

-- an attachment to the parent
pub attach_up : (p : Plan) (n : ℕ) (kin : Kin) → KinFits p n kin → SendsAreSound p n (to_parent kin.parent Attach)
attach_up p n kin fits = to_parent_sound p n kin.parent Attach (λ m e. (fits.parent m e, λ d. (cc)))

pub subset_refl : (xs : Ranks) → IsSubset xs xs
subset_refl xs x h = h

acted_sound : (p : Plan) (n : ℕ) (kin : Kin) (s w : ℕ) (covered sent : Ranks) (timer : Timer) (k : Effects) (a : Act) → In (s, w) (waves_of p.streams) → KinFits p n kin → WorkIsSound p n k → OpenIsSound p n s covered sent → (a ≡ Send → covered ≢ none) → WorkIsSound p n (acted p kin s w covered sent timer k a)
unfolding acted
acted_sound p n kin s w covered sent timer k Hold named fits h o grown = h
acted_sound p n kin s w covered sent timer k Arm named fits h o grown = record {
  book = each_wave_set (λ a b v. WaveIsSound p n a v) k.book s w _ h.book o;
  sends = h.sends;
}
acted_sound p n kin s w covered sent timer k Send named fits h o grown = record {
  book = each_wave_set (λ a b v. WaveIsSound p n a v) k.book s w _ h.book (record { within = subset_refl covered; whole = o.whole });
  sends = sends_append p n k.sends _ h.sends (to_parent_sound p n kin.parent (Up s w covered) (λ m e. ((fits.parent m e, o.whole, grown refl, named), λ d. (cc))));
}
acted_sound p n kin s w covered sent timer k Partial named fits h o grown = record {
  book = each_wave_set (λ a b v. WaveIsSound p n a v) k.book s w _ h.book (record { within = subset_refl covered; whole = o.whole });
  sends = h.sends;
}
acted_sound p n kin s w covered sent timer k Final named fits h o grown = record {
  book = each_wave_set (λ a b v. WaveIsSound p n a v) k.book s w _ h.book tt;
  sends = sends_append p n k.sends _ h.sends (dones_sound p n s w kin fits named);
}

act_as_sound : (p : Plan) (n : ℕ) (kin : Kin) (s w : ℕ) (k : Effects) (v : Wave) → In (s, w) (waves_of p.streams) → KinFits p n kin → WorkIsSound p n k → WaveIsSound p n s v → WorkIsSound p n (act_as p n kin s w k v)
unfolding due_at
act_as_sound p n kin s w k (Open covered sent timer) named fits h hv =
    acted_sound p n kin s w covered sent timer k (due_at p n kin.lost s covered sent timer) named fits h hv
    (λ e. grown_not_empty covered sent hv.within (send_grown (mode p s) (complete p n kin.lost s covered) (not (is_same covered sent)) (is_front p n) timer e))
act_as_sound p n kin s w k Closed named fits h hv = h

pub act_sound : (p : Plan) (n : ℕ) (kin : Kin) (s w : ℕ) (k : Effects) → In (s, w) (waves_of p.streams) → KinFits p n kin → WorkIsSound p n k → WorkIsSound p n (act p n kin s w k)
act_sound p n kin s w k named fits h = act_as_sound p n kin s w k (k.book s w) named fits h (h.book s w)

pub act_each_sound : (p : Plan) (n : ℕ) (kin : Kin) (vs : List (ℕ × ℕ)) (k : Effects) → IsSubsetOf vs (waves_of p.streams) → KinFits p n kin → WorkIsSound p n k → WorkIsSound p n (act_each p n kin vs k)
act_each_sound p n kin [] k named fits h = h
act_each_sound p n kin (v ∷ vs) k named fits h = act_each_sound p n kin vs (act p n kin v.0 v.1 k) (λ x i. named x (inr i)) fits (act_sound p n kin v.0 v.1 k (named v (inl refl)) fits h)

-- The weight of a node, of a packet and of a wave, and that no outcome weighs more than what it came from.
use Rattle.rank_set.specs.Ranks.{Ranks, none, has, union, is_subset, is_same, Has, IsSubset, has-in_order, in_order}
use Rattle.std.proofs.Common.{◌≡◌, ◌≢◌, ◌≤◌, ◌+◌, ◌*◌, max, inl, inr, ℕ, suc, zero, Bool, true, false, cond, not, ◌&&◌, ◌==◌, List, [], ◌∷◌, ◌++◌, map, filter, length, find, refl, sym, ap, subst, ◌∙◌, arith, Option, Some, None, le_refl, zero-le, mul-le-mul_right}
use Rattle.std.specs.List.{list_any, list_all}
use Rattle.std.specs.Ordering.{nat_cmp, eq_by_cmp, is_eq}
use Rattle.std.specs.Cmp.{nat_cmp_total, tied_itself}
use Rattle.std.proofs.lemmas.Bool.{cond_both, or_left, or_right, and_parts, and_from, cases_Bool, true≢false}
use Rattle.overlay_setup.specs.NodeSets.{In, member, with_number}
use Rattle.stat_plan.specs.Plans.{Plan, ancestors, serves, mode, stream_of, is_front, nodes, daemons, ranks, is_within, waves_at, waves_of}
use Rattle.overlay_setup.specs.Scripts.{Stream}
use Rattle.stat_plan.specs.Machine.Due.{due_act}
use Rattle.overlay_core.specs.Nodes.{Packet, Up, Done, Attach, Down, Node, Effects, Outcome, begin, due_at, dones, acted, act_as, act, act_each, done_work, sampled, after_tick, received_up, received_done, received_attach, received_down}
use Rattle.stat_plan.specs.Machine.Overlays.{to_parent}
use Rattle.stat_plan.specs.Machine.Kin.{Kin, complete, nearest, is_parent, without_child, with_parent}
use Rattle.stat_plan.specs.Machine.Waves.{Wave, Open, Closed, Book, set_wave, ticks, is_closed, is_fired, is_running, covering, growing, ticked, unsent, is_empty_open}
use Rattle.stat_plan.proofs.PlanFacts.{HasPlanFacts}
use Rattle.overlay_core.specs.LinkInvariant.{WaveIsSound}
use Rattle.stat_plan.specs.Machine.LossInvariant.{KinIsSound}
use Rattle.overlay_core.specs.Settled.{WaveIsSettled, NodeIsSettled, TimerIsSound}
use Rattle.overlay_core.specs.Bound.{longest}
use Rattle.overlay_setup.specs.declared.script.Mode.{Mode}
use Rattle.overlay_setup.specs.declared.script.Mode.TheVariants.{WaitForAll, TimeOut, DontWait}
use Rattle.stat_plan.specs.declared.machine.Timer.{Timer}
use Rattle.stat_plan.specs.declared.machine.Timer.TheVariants.{Off, Running, Fired}
use Rattle.stat_plan.specs.declared.machine.Act.{Act}
use Rattle.stat_plan.specs.declared.machine.Act.TheVariants.{Hold, Arm, Send, Partial, Final}
use Rattle.stat_plan.proofs.KinLemmas.{with_number_old, with_number_new, nearest_in, nearest_split, is_parent_some}
use Rattle.overlay_core.proofs.RankSets.{test_from_same, same_from_members, union_left, subset_from_test, test_from_subset, no_rank, empty_true, none_from_subset}
use Rattle.stat_plan.proofs.InLists.{in_member, in_from_member, in_from_filter, in_from_any}
use Rattle.stat_plan.proofs.Totals.{total, total_append, total_drop, total_increase, length_filter_le, length_filter_less, length_filter_drop}
use Rattle.overlay_core.proofs.Acts.{IsSubsetOf, each_wave_set, send_grown}
use Rattle.overlay_core.proofs.Outcomes.{waves_at_named}
use Rattle.overlay_core.proofs.ParentLinks.{set_wave_here, test_from_within}
use Rattle.overlay_core.proofs.Settled.{after_arm}
use Rattle.stat_plan.proofs.Weights.{sends_weight as overlay_sends_weight}

-- the greatest timeout
unfoldable pub tick_cap : Plan → ℕ
tick_cap p = longest p.streams

-- how many waves there are
unfoldable pub wave_count : Plan → ℕ
wave_count p = length (waves_of p.streams)

-- the daemons of s at or under n that covered lacks
unfoldable pub uncovered : Plan → ℕ → ℕ → Ranks → ℕ
uncovered p n s covered = length (filter (λ d. is_within p d n && not (is_subset (ranks p d) covered)) (daemons p s))

-- the ticks of a wave until its timer has run out and it is passed on, and the passing on
abbrev pub pend : ℕ → Ranks → Ranks → Timer → ℕ
pend t covered sent Off = cond (is_same covered sent) 0 (t + 1)
pend t covered sent (Running k) = k + 1
pend t covered sent Fired = 1

-- Of an open wave: what each daemon that can still come in makes it do, what is pending, and the words to its children at the
-- end.
abbrev pub wave_weight : Plan → ℕ → ℕ → Wave → ℕ
wave_weight p n s (Open covered sent timer) = uncovered p n s covered * (tick_cap p + 2) + pend (tick_cap p) covered sent timer + nodes p
wave_weight p n s Closed = 0

-- of all waves
unfoldable pub book_weight : Plan → ℕ → Book → ℕ
book_weight p n book = total (λ v. wave_weight p n v.0 (book v.0 v.1)) (waves_of p.streams)

-- of a packet: that it is received, and, for a new child, the words that it is answered by
abbrev pub packet_weight : Plan → Packet → ℕ
packet_weight p (Up s w set) = 1
packet_weight p (Done s w) = 1
packet_weight p Attach = 1 + wave_count p
packet_weight p Down = 1

unfoldable pub sends_weight : Plan → List (ℕ × Packet) → ℕ
sends_weight p sends = overlay_sends_weight (packet_weight p) sends

pub sends_append : (p : Plan) (xs ys : List (ℕ × Packet)) → sends_weight p (xs ++ ys) ≡ sends_weight p xs + sends_weight p ys
unfolding sends_weight
sends_append p xs ys = total_append (λ v. packet_weight p v.1) xs ys

ticks_le : (p : Plan) (s : ℕ) → ticks (mode p s) ≤ tick_cap p
unfolding mode stream_of tick_cap
ticks_le p s = go p.streams
  where
    go : (xs : List Stream) → ticks (elim (find (λ x. x.number == s) xs) [ None ↦ WaitForAll | Some x ↦ x.mode ]) ≤ longest xs
    go = elim [
      | [] ↦ zero-le
      | ◌∷◌ x (xs → ih) ↦ cond_both (x.number == s) (Some x) (find (λ x. x.number == s) xs) (λ o. ticks (elim o [ None ↦ WaitForAll | Some x ↦ x.mode ]) ≤ max (ticks x.mode) (longest xs)) (λ e. omega arith) (λ e. omega arith)
    ]

-- one wave drops by c
drop_at : (p : Plan) (n : ℕ) (book : Book) (s w : ℕ) (v : Wave) (c : ℕ) → In (s, w) (waves_of p.streams) → wave_weight p n s v + c ≤ wave_weight p n s (book s w) → book_weight p n (set_wave book s w v) + c ≤ book_weight p n book
unfolding book_weight
drop_at p n book s w v c i le =
    total_drop (λ y. wave_weight p n y.0 (set_wave book s w v y.0 y.1)) (λ y. wave_weight p n y.0 (book y.0 y.1)) c (s, w) (waves_of p.streams)
    (λ y j. each_wave_set (λ a b u. wave_weight p n a u ≤ wave_weight p n a (book a b)) book s w v (λ a b. le_refl _) (let k = le in weaken (wave_weight p n s v) c (wave_weight p n s (book s w)) k) y.0 y.1)
    i (subst (λ u. wave_weight p n s u + c ≤ wave_weight p n s (book s w)) (sym (set_wave_here book s w v)) le)
  where
    weaken : (a c b : ℕ) → a + c ≤ b → a ≤ b
    weaken a c b h = omega arith

pend_some : (t : ℕ) (covered sent : Ranks) (timer : Timer) → is_same covered sent ≡ false → 1 ≤ pend t covered sent timer
pend_some t covered sent Off e = subst (λ b. 1 ≤ cond b 0 (t + 1)) (sym e) (omega arith)
pend_some t covered sent (Running k) e = omega arith
pend_some t covered sent Fired e = omega arith

pend_none : (t : ℕ) (covered : Ranks) → pend t covered covered Off ≡ 0
pend_none t covered = subst (λ b. cond b 0 (t + 1) ≡ 0) (sym (test_from_same covered)) refl

pend_off : (t : ℕ) (covered sent : Ranks) → pend t covered sent Off ≤ t + 1
pend_off t covered sent = cond_both (is_same covered sent) 0 (t + 1) (λ x. x ≤ t + 1) (λ e. zero-le) (λ e. le_refl _)

not_true : (b : Bool) → not b ≡ true → b ≡ false
not_true true e = absurd (true≢false (sym e))
not_true false e = refl

arm_off : (m : Mode) (done grown top : Bool) (t : Timer) → due_act m done grown top t ≡ Arm → t ≡ Off
arm_off m true grown true t e = absurd (cc)
arm_off m true true false t e = absurd (cc)
arm_off m true false false t e = absurd (cc)
arm_off WaitForAll false grown top t e = absurd (cc)
arm_off DontWait false true true t e = absurd (cc)
arm_off DontWait false true false t e = absurd (cc)
arm_off DontWait false false top t e = absurd (cc)
arm_off (TimeOut j) false grown top Off e = refl
arm_off (TimeOut j) false grown top (Running i) e = absurd (cc)
arm_off (TimeOut j) false true true Fired e = absurd (cc)
arm_off (TimeOut j) false true false Fired e = absurd (cc)
arm_off (TimeOut j) false false top Fired e = absurd (cc)

-- packets of weight 1
map_weight : {X : Type 0} (p : Plan) (f : X → ℕ × Packet) → ((x : X) → packet_weight p (f x).1 ≤ 1) → (xs : List X) → sends_weight p (map f xs) ≤ length xs
unfolding sends_weight
map_weight p f h [] = zero-le
map_weight p f h (x ∷ xs) = let a : packet_weight p (f x).1 ≤ 1 = h x in let ih : sends_weight p (map f xs) ≤ length xs = map_weight p f h xs in omega arith

dones_weight : (p : Plan) (kin : Kin) (s w : ℕ) → length kin.children ≤ nodes p → sends_weight p (dones p kin s w) ≤ nodes p
unfolding dones
dones_weight p kin s w h =
    let a : sends_weight p (dones p kin s w) ≤ length (filter (λ c. serves p c s) kin.children) = map_weight p (λ c. (c, Done s w)) (λ c. le_refl _) (filter (λ c. serves p c s) kin.children) in
    let c : length (filter (λ c. serves p c s) kin.children) ≤ length kin.children = length_filter_le (λ c. serves p c s) kin.children in
    omega arith

up_weight : (p : Plan) (o : Option ℕ) (s w : ℕ) (set : Ranks) → sends_weight p (to_parent o (Up s w set)) ≤ 1
unfolding sends_weight
up_weight p None s w set = zero-le
up_weight p (Some m) s w set = le_refl _

attach_weight : (p : Plan) (o : Option ℕ) → sends_weight p (to_parent o Attach) ≤ 1 + wave_count p
unfolding sends_weight
attach_weight p None = zero-le
attach_weight p (Some m) = omega arith

abbrev pub work_weight : Plan → ℕ → Effects → ℕ
work_weight p n k = book_weight p n k.book + sends_weight p k.sends

acted_decreases : (p : Plan) (n : ℕ) (kin : Kin) (s w : ℕ) (covered sent : Ranks) (timer : Timer) (k : Effects) (a : Act) → In (s, w) (waves_of p.streams) → length kin.children ≤ nodes p → k.book s w ≡ Open covered sent timer → due_at p n kin.lost s covered sent timer ≡ a → work_weight p n (acted p kin s w covered sent timer k a) ≤ work_weight p n k
unfolding acted due_at
acted_decreases p n kin s w covered sent timer k Hold i few ev e = le_refl _
acted_decreases p n kin s w covered sent timer k Arm i few ev e =
    let t = after_arm (mode p s) (complete p n kin.lost s covered) (not (is_same covered sent)) (is_front p n) timer 0 e in
    let off : timer ≡ Off = arm_off (mode p s) (complete p n kin.lost s covered) (not (is_same covered sent)) (is_front p n) timer e in
    let grown : is_same covered sent ≡ false = not_true _ t.1 in
    let full : pend (tick_cap p) covered sent timer ≡ tick_cap p + 1 = subst (λ y. pend (tick_cap p) covered sent y ≡ tick_cap p + 1) (sym off) (subst (λ b. cond b 0 (tick_cap p + 1) ≡ tick_cap p + 1) (sym grown) refl) in
    let old : wave_weight p n s (k.book s w) ≡ uncovered p n s covered * (tick_cap p + 2) + pend (tick_cap p) covered sent timer + nodes p = ap (wave_weight p n s) ev in
    let le : ticks (mode p s) ≤ tick_cap p = ticks_le p s in
    let d : book_weight p n (set_wave k.book s w (Open covered sent (Running (ticks (mode p s))))) + 0 ≤ book_weight p n k.book = drop_at p n k.book s w (Open covered sent (Running (ticks (mode p s)))) 0 i (omega arith) in
    omega arith
acted_decreases p n kin s w covered sent timer k Send i few ev e =
    let grown : is_same covered sent ≡ false = not_true _ (send_grown (mode p s) (complete p n kin.lost s covered) (not (is_same covered sent)) (is_front p n) timer e) in
    let some : 1 ≤ pend (tick_cap p) covered sent timer = pend_some (tick_cap p) covered sent timer grown in
    let none : pend (tick_cap p) covered covered Off ≡ 0 = pend_none (tick_cap p) covered in
    let old : wave_weight p n s (k.book s w) ≡ uncovered p n s covered * (tick_cap p + 2) + pend (tick_cap p) covered sent timer + nodes p = ap (wave_weight p n s) ev in
    let d : book_weight p n (set_wave k.book s w (Open covered covered Off)) + 1 ≤ book_weight p n k.book = drop_at p n k.book s w (Open covered covered Off) 1 i (omega arith) in
    let u : sends_weight p (to_parent kin.parent (Up s w covered)) ≤ 1 = up_weight p kin.parent s w covered in
    let a : sends_weight p (k.sends ++ to_parent kin.parent (Up s w covered)) ≡ sends_weight p k.sends + sends_weight p (to_parent kin.parent (Up s w covered)) = sends_append p k.sends _ in
    omega arith
acted_decreases p n kin s w covered sent timer k Partial i few ev e =
    let none : pend (tick_cap p) covered covered Off ≡ 0 = pend_none (tick_cap p) covered in
    let old : wave_weight p n s (k.book s w) ≡ uncovered p n s covered * (tick_cap p + 2) + pend (tick_cap p) covered sent timer + nodes p = ap (wave_weight p n s) ev in
    let d : book_weight p n (set_wave k.book s w (Open covered covered Off)) + 0 ≤ book_weight p n k.book = drop_at p n k.book s w (Open covered covered Off) 0 i (omega arith) in
    omega arith
acted_decreases p n kin s w covered sent timer k Final i few ev e =
    let old : wave_weight p n s (k.book s w) ≡ uncovered p n s covered * (tick_cap p + 2) + pend (tick_cap p) covered sent timer + nodes p = ap (wave_weight p n s) ev in
    let d : book_weight p n (set_wave k.book s w Closed) + nodes p ≤ book_weight p n k.book = drop_at p n k.book s w Closed (nodes p) i (omega arith) in
    let u : sends_weight p (dones p kin s w) ≤ nodes p = dones_weight p kin s w few in
    let a : sends_weight p (k.sends ++ dones p kin s w) ≡ sends_weight p k.sends + sends_weight p (dones p kin s w) = sends_append p k.sends _ in
    omega arith

act_as_decreases : (p : Plan) (n : ℕ) (kin : Kin) (s w : ℕ) (k : Effects) (v : Wave) → In (s, w) (waves_of p.streams) → length kin.children ≤ nodes p → k.book s w ≡ v → work_weight p n (act_as p n kin s w k v) ≤ work_weight p n k
act_as_decreases p n kin s w k (Open covered sent timer) i few ev = acted_decreases p n kin s w covered sent timer k (due_at p n kin.lost s covered sent timer) i few ev refl
act_as_decreases p n kin s w k Closed i few ev = le_refl _

act_each_decreases : (p : Plan) (n : ℕ) (kin : Kin) (vs : List (ℕ × ℕ)) (k : Effects) → IsSubsetOf vs (waves_of p.streams) → length kin.children ≤ nodes p → work_weight p n (act_each p n kin vs k) ≤ work_weight p n k
act_each_decreases p n kin [] k i few = le_refl _
act_each_decreases p n kin (v ∷ vs) k i few =
    let a : work_weight p n (act p n kin v.0 v.1 k) ≤ work_weight p n k = act_as_decreases p n kin v.0 v.1 k (k.book v.0 v.1) (i v (inl refl)) few refl in
    let b : work_weight p n (act_each p n kin vs (act p n kin v.0 v.1 k)) ≤ work_weight p n (act p n kin v.0 v.1 k) = act_each_decreases p n kin vs (act p n kin v.0 v.1 k) (λ y j. i y (inr j)) few in
    omega arith

-- a node's ancestors that it doesn't know to be lost, each of which may become its parent
unfoldable pub parent_cost : Plan → ℕ
parent_cost p = 1 + wave_count p + wave_count p * (tick_cap p + 1)

unfoldable pub kin_weight : Plan → ℕ → List ℕ → ℕ
kin_weight p n lost = length (filter (λ a. not (member a lost)) (ancestors p n)) * parent_cost p

abbrev pub Decreases : Plan → ℕ → Node → ℕ → Outcome → Type 0
Decreases p n x paid o = kin_weight p n o.kin.lost + work_weight p n o.work + 1 ≤ kin_weight p n x.kin.lost + book_weight p n x.book + paid

begin_weight : (p : Plan) (n : ℕ) (b : Book) → work_weight p n (begin b) ≡ book_weight p n b
unfolding sends_weight
begin_weight p n b = omega arith

-- a coverage that grows by a daemon's ranks
covered_drop : (p : Plan) (n s d : ℕ) (covered covered' : Ranks) → In d (daemons p s) → is_within p d n ≡ true → IsSubset covered covered' → IsSubset (ranks p d) covered' → is_subset (ranks p d) covered ≡ false → uncovered p n s covered' + 1 ≤ uncovered p n s covered
unfolding uncovered
covered_drop p n s d covered covered' i u sub sub' e =
    length_filter_drop (λ d. is_within p d n && not (is_subset (ranks p d) covered')) (λ d. is_within p d n && not (is_subset (ranks p d) covered)) (daemons p s) d
    (λ x j t. let a = and_parts (is_within p x n) (not (is_subset (ranks p x) covered')) t in and_from _ _ a.0 (not_more x (not_true _ a.1)))
    i
    (back)
    (and_from _ _ u (subst (λ b. not b ≡ true) (sym e) refl))
  where
    not_more : (x : ℕ) → is_subset (ranks p x) covered' ≡ false → not (is_subset (ranks p x) covered) ≡ true
    not_more x f = elim (cases_Bool (is_subset (ranks p x) covered)) [
      | inl t ↦ absurd (true≢false (sym (test_from_subset (ranks p x) covered' (λ r j. sub r (subset_from_test (ranks p x) covered t r j))) ∙ f))
      | inr g ↦ subst (λ b. not b ≡ true) (sym g) refl
    ]

    back : (is_within p d n && not (is_subset (ranks p d) covered')) ≡ false
    back = subst (λ b. (is_within p d n && not b) ≡ false) (sym (test_from_subset (ranks p d) covered' sub')) (and_no (is_within p d n))
      where
        and_no : (b : Bool) → (b && false) ≡ false
        and_no true = refl
        and_no false = refl

grow_cost : (p : Plan) (a b : ℕ) → a + 1 ≤ b → a * (tick_cap p + 2) + (tick_cap p + 2) ≤ b * (tick_cap p + 2)
grow_cost p a b h = let k : (a + 1) * (tick_cap p + 2) ≤ b * (tick_cap p + 2) = mul-le-mul_right (tick_cap p + 2) h in omega arith

first_missing : (s t : Ranks) → is_subset s t ≡ false → (r : ℕ) × (Has r s) × (has t r ≡ false)
first_missing s t e = go (in_order s) (λ r i. has-in_order s r ∙ i) e
  where
    go : (xs : List ℕ) → ((r : ℕ) → list_any (eq_by_cmp nat_cmp r) xs ≡ true → Has r s) → list_all (has t) xs ≡ false → (r : ℕ) × (Has r s) × (has t r ≡ false)
    go [] h k = absurd (true≢false k)
    go (x ∷ xs) h k = elim (cases_Bool (has t x)) [
      | inl y ↦ go xs (λ r i. h r (or_right (eq_by_cmp nat_cmp r x) (list_any (eq_by_cmp nat_cmp r) xs) i)) (subst (λ b. (b && list_all (has t) xs) ≡ false) y k)
      | inr f ↦ (x, h x (or_left (eq_by_cmp nat_cmp x x) (list_any (eq_by_cmp nat_cmp x) xs) (ap is_eq (tied_itself nat_cmp_total x))), f)
    ]

pend_grows : (t : ℕ) (covered covered' sent : Ranks) (timer : Timer) → pend t covered' sent timer ≤ pend t covered sent timer + (t + 1)
pend_grows t covered covered' sent Off = let a = pend_off t covered' sent in omega arith
pend_grows t covered covered' sent (Running k) = omega arith
pend_grows t covered covered' sent Fired = omega arith

-- ranks that come up
growing_decreases : (p : Plan) (n s : ℕ) (set : Ranks) (v : Wave) → WaveIsSound p n s v → WaveIsSound p n s (growing set v) → wave_weight p n s (growing set v) ≤ wave_weight p n s v
growing_decreases p n s set (Open covered sent timer) h h' = elim (cases_Bool (is_subset (union covered set) covered)) [
  | inl t ↦
      let e : union covered set ≡ covered = same_from_members (union covered set) covered (subset_from_test (union covered set) covered t) (λ r i. union_left r covered set i) in
      subst (λ l. uncovered p n s l * (tick_cap p + 2) + pend (tick_cap p) l sent timer + nodes p ≤ uncovered p n s covered * (tick_cap p + 2) + pend (tick_cap p) covered sent timer + nodes p) (sym e) (le_refl _)
  | inr f ↦
      let r = first_missing (union covered set) covered f in
      let c = h'.whole r.0 r.1 in
      let d : uncovered p n s (union covered set) + 1 ≤ uncovered p n s covered = covered_drop p n s c.daemon covered (union covered set) c.place.listed (test_from_within p c.daemon n c.place.within) (λ x i. union_left x covered set i) c.all
      (lacks (ranks p c.daemon) covered r.0 c.holds r.2) in
      let k = grow_cost p (uncovered p n s (union covered set)) (uncovered p n s covered) d in
      let g = pend_grows (tick_cap p) covered (union covered set) sent timer in
      omega arith
]
  where
    lacks : (xs ys : Ranks) (r : ℕ) → Has r xs → has ys r ≡ false → is_subset xs ys ≡ false
    lacks xs ys r i e = elim (cases_Bool (is_subset xs ys)) [ inl t ↦ absurd (true≢false (sym (subset_from_test xs ys t r i) ∙ e)) | inr f ↦ f ]
growing_decreases p n s set Closed h h' = le_refl _

pub up_decreases : (p : Plan) (n : ℕ) (x : Node) (s w : ℕ) (set : Ranks) → In (s, w) (waves_of p.streams) → length x.kin.children ≤ nodes p → WaveIsSound p n s (x.book s w) → WaveIsSound p n s (growing set (x.book s w)) → Decreases p n x 1 (received_up p n x s w set)
unfolding received_up
up_decreases p n x s w set i few h h' =
    let b = set_wave x.book s w (growing set (x.book s w)) in
    let le : wave_weight p n s (growing set (x.book s w)) ≤ wave_weight p n s (x.book s w) = growing_decreases p n s set (x.book s w) h h' in
    let d : book_weight p n b + 0 ≤ book_weight p n x.book = drop_at p n x.book s w (growing set (x.book s w)) 0 i (omega arith) in
    let a : work_weight p n (act p n x.kin s w (begin b)) ≤ work_weight p n (begin b) = act_as_decreases p n x.kin s w (begin b) (b s w) i few refl in
    let z : work_weight p n (begin b) ≡ book_weight p n b = begin_weight p n b in
    omega arith

-- a sample
covering_decreases : (p : Plan) (n s : ℕ) (v : Wave) → HasPlanFacts p → In n (daemons p s) → is_empty_open v ≡ true → WaveIsSound p n s v → ((covered sent : Ranks) (t : Timer) → v ≡ Open covered sent t → TimerIsSound p s covered sent t) → wave_weight p n s (covering (ranks p n) v) + 1 ≤ wave_weight p n s v
covering_decreases p n s (Open covered sent timer) plan hd e h ht =
    let ec : covered ≡ none = empty_true covered e in
    let es : sent ≡ none = none_from_subset sent (subst (IsSubset sent) ec h.within) in
    subst (λ c. wave_weight p n s (Open (ranks p n) sent timer) + 1 ≤ wave_weight p n s (Open c sent timer)) (sym ec)
    (subst (λ z. wave_weight p n s (Open (ranks p n) z timer) + 1 ≤ wave_weight p n s (Open none z timer)) (sym es)
    (at_none timer (subst (λ z. TimerIsSound p s none z timer) es (subst (λ c. TimerIsSound p s c sent timer) ec (ht covered sent timer refl)))))
  where
    some : (xs : Ranks) → xs ≢ none → is_subset xs none ≡ false
    some xs ne = elim (cases_Bool (is_subset xs none)) [ inl t ↦ absurd (ne (none_from_subset xs (subset_from_test xs none t))) | inr f ↦ f ]

    at_none : (t : Timer) → TimerIsSound p s none none t → wave_weight p n s (Open (ranks p n) none t) + 1 ≤ wave_weight p n s (Open none none t)
    at_none Off k =
        let d : uncovered p n s (ranks p n) + 1 ≤ uncovered p n s none = covered_drop p n s n none (ranks p n) hd (test_from_within p n n (inl refl)) (λ x i. absurd (no_rank x i)) (λ x i. i) (some (ranks p n) (plan.daemon_ranks n s hd)) in
        let k = grow_cost p (uncovered p n s (ranks p n)) (uncovered p n s none) d in
        let g = pend_off (tick_cap p) (ranks p n) none in
        omega arith
    at_none (Running t) k = absurd (k.2 refl)
    at_none Fired k = absurd k
covering_decreases p n s Closed plan hd e h ht = absurd (true≢false (sym e))

pub sampled_decreases : (p : Plan) (n : ℕ) (x : Node) (s w : ℕ) → HasPlanFacts p → In (s, w) (waves_of p.streams) → In n (daemons p s) → length x.kin.children ≤ nodes p → is_empty_open (x.book s w) ≡ true → WaveIsSound p n s (x.book s w) → WaveIsSettled p n x.kin.lost s (x.book s w) → Decreases p n x 0 (sampled p n x s w)
unfolding sampled
sampled_decreases p n x s w plan i hd few e h hc =
    let b = set_wave x.book s w (covering (ranks p n) (x.book s w)) in
    let d : book_weight p n b + 1 ≤ book_weight p n x.book = drop_at p n x.book s w (covering (ranks p n) (x.book s w)) 1 i (covering_decreases p n s (x.book s w) plan hd e h (λ covered sent t ev. (subst (WaveIsSettled p n x.kin.lost s) ev hc).1)) in
    let a : work_weight p n (act p n x.kin s w (begin b)) ≤ work_weight p n (begin b) = act_as_decreases p n x.kin s w (begin b) (b s w) i few refl in
    let z : work_weight p n (begin b) ≡ book_weight p n b = begin_weight p n b in
    omega arith

-- a tick
ticked_decreases : (p : Plan) (n s : ℕ) (v : Wave) → wave_weight p n s (ticked v) ≤ wave_weight p n s v
ticked_decreases p n s (Open covered sent Off) = le_refl _
ticked_decreases p n s (Open covered sent (Running zero)) = omega arith
ticked_decreases p n s (Open covered sent (Running (suc zero))) = omega arith
ticked_decreases p n s (Open covered sent (Running (suc (suc t)))) = omega arith
ticked_decreases p n s (Open covered sent Fired) = le_refl _
ticked_decreases p n s Closed = le_refl _

running_decreases : (p : Plan) (n s : ℕ) (lost : List ℕ) (v : Wave) → is_running v ≡ true → WaveIsSettled p n lost s v → wave_weight p n s (ticked v) + 1 ≤ wave_weight p n s v
running_decreases p n s lost (Open covered sent Off) e h = absurd (true≢false (sym e))
running_decreases p n s lost (Open covered sent (Running zero)) e h = absurd (let k = h.1.0 in omega arith)
running_decreases p n s lost (Open covered sent (Running (suc zero))) e h = omega arith
running_decreases p n s lost (Open covered sent (Running (suc (suc t)))) e h = omega arith
running_decreases p n s lost (Open covered sent Fired) e h = absurd (true≢false (sym e))
running_decreases p n s lost Closed e h = absurd (true≢false (sym e))

pub tick_decreases : (p : Plan) (n : ℕ) (x : Node) → length x.kin.children ≤ nodes p → NodeIsSettled p n x → list_any (λ v. is_running (x.book v.0 v.1)) (waves_at p n) ≡ true → Decreases p n x 0 (after_tick p n x)
unfolding after_tick book_weight
tick_decreases p n x few hc e =
    let r = in_from_any (λ v. is_running (x.book v.0 v.1)) (waves_at p n) e in
    let b : Book = λ s w. ticked (x.book s w) in
    let vs = filter (λ v. is_fired (ticked (x.book v.0 v.1))) (waves_at p n) in
    let d : book_weight p n b + 1 ≤ book_weight p n x.book =
    total_drop (λ v. wave_weight p n v.0 (b v.0 v.1)) (λ v. wave_weight p n v.0 (x.book v.0 v.1)) 1 r.0 (waves_of p.streams) (λ v i. ticked_decreases p n v.0 (x.book v.0 v.1)) (waves_at_named p n r.0 r.1.0)
    (running_decreases p n r.0.0 x.kin.lost (x.book r.0.0 r.0.1) r.1.1 (hc r.0.0 r.0.1 r.1.0)) in
    let a : work_weight p n (act_each p n x.kin vs (begin b)) ≤ work_weight p n (begin b) = act_each_decreases p n x.kin vs (begin b) (λ v i. waves_at_named p n v (in_from_filter (λ v. is_fired (ticked (x.book v.0 v.1))) v (waves_at p n) i).0) few in
    let z : work_weight p n (begin b) ≡ book_weight p n b = begin_weight p n b in
    omega arith

-- the word that a wave has ended
done_work_decreases : (p : Plan) (n : ℕ) (kin : Kin) (s w : ℕ) (book : Book) (v : Wave) → In (s, w) (waves_of p.streams) → length kin.children ≤ nodes p → book s w ≡ v → work_weight p n (done_work p kin s w book v) ≤ book_weight p n book
done_work_decreases p n kin s w book Closed i few ev = let z = begin_weight p n book in omega arith
done_work_decreases p n kin s w book (Open covered sent timer) i few ev =
    let old : wave_weight p n s (book s w) ≡ uncovered p n s covered * (tick_cap p + 2) + pend (tick_cap p) covered sent timer + nodes p = ap (wave_weight p n s) ev in
    let d : book_weight p n (set_wave book s w Closed) + nodes p ≤ book_weight p n book = drop_at p n book s w Closed (nodes p) i (omega arith) in
    let u : sends_weight p (dones p kin s w) ≤ nodes p = dones_weight p kin s w few in
    omega arith

pub done_decreases : (p : Plan) (n : ℕ) (x : Node) (s w : ℕ) → In (s, w) (waves_of p.streams) → length x.kin.children ≤ nodes p → Decreases p n x 1 (received_done p n x s w)
unfolding received_done
done_decreases p n x s w i few = let k = done_work_decreases p n x.kin s w x.book (x.book s w) i few refl in omega arith

-- a new child
pub attach_decreases : (p : Plan) (n : ℕ) (x : Node) (m : ℕ) → Decreases p n x (1 + wave_count p) (received_attach p n x m)
unfolding received_attach wave_count waves_at
attach_decreases p n x m =
    let a : sends_weight p (received_attach p n x m).work.sends ≤ length (filter (λ v. is_closed (x.book v.0 v.1) && serves p m v.0) (waves_at p n)) = map_weight p (λ v. (m, Done v.0 v.1)) (λ v. le_refl _) (filter (λ v. is_closed (x.book v.0 v.1) && serves p m v.0) (waves_at p n)) in
    let c : length (filter (λ v. is_closed (x.book v.0 v.1) && serves p m v.0) (waves_at p n)) ≤ length (waves_at p n) = length_filter_le (λ v. is_closed (x.book v.0 v.1) && serves p m v.0) (waves_at p n) in
    let d : length (waves_at p n) ≤ length (waves_of p.streams) = length_filter_le (λ v. serves p n v.0) (waves_of p.streams) in
    omega arith

-- the word of a loss
kin_less : (p : Plan) (n m : ℕ) (lost : List ℕ) → kin_weight p n (with_number m lost) ≤ kin_weight p n lost
unfolding kin_weight
kin_less p n m lost = mul-le-mul_right (parent_cost p) (length_filter_less (λ a. not (member a (with_number m lost))) (λ a. not (member a lost)) (ancestors p n) (λ a i e. keeps a (not_true _ e)))
  where
    keeps : (a : ℕ) → member a (with_number m lost) ≡ false → not (member a lost) ≡ true
    keeps a e = elim (cases_Bool (member a lost)) [ inl t ↦ absurd (true≢false (sym (in_member a (with_number m lost) (with_number_old a m lost (in_from_member a lost t))) ∙ e)) | inr f ↦ subst (λ b. not b ≡ true) (sym f) refl ]

kin_drop : (p : Plan) (n m : ℕ) (lost : List ℕ) → In m (ancestors p n) → member m lost ≡ false → kin_weight p n (with_number m lost) + parent_cost p ≤ kin_weight p n lost
unfolding kin_weight
kin_drop p n m lost i f =
    let d : length (filter (λ a. not (member a (with_number m lost))) (ancestors p n)) + 1 ≤ length (filter (λ a. not (member a lost)) (ancestors p n)) =
    length_filter_drop (λ a. not (member a (with_number m lost))) (λ a. not (member a lost)) (ancestors p n) m (λ a j e. keeps a (not_true _ e)) i
    (subst (λ b. not b ≡ false) (sym (in_member m (with_number m lost) (with_number_new m lost))) refl) (subst (λ b. not b ≡ true) (sym f) refl) in
    let k : (length (filter (λ a. not (member a (with_number m lost))) (ancestors p n)) + 1) * parent_cost p ≤ length (filter (λ a. not (member a lost)) (ancestors p n)) * parent_cost p = mul-le-mul_right (parent_cost p) d in
    omega arith
  where
    keeps : (a : ℕ) → member a (with_number m lost) ≡ false → not (member a lost) ≡ true
    keeps a e = elim (cases_Bool (member a lost)) [ inl t ↦ absurd (true≢false (sym (in_member a (with_number m lost) (with_number_old a m lost (in_from_member a lost t))) ∙ e)) | inr g ↦ subst (λ b. not b ≡ true) (sym g) refl ]

unsent_decreases : (p : Plan) (n s : ℕ) (v : Wave) → wave_weight p n s (unsent v) ≤ wave_weight p n s v + (tick_cap p + 1)
unsent_decreases p n s (Open covered sent timer) = let a = pend_off (tick_cap p) covered none in omega arith
unsent_decreases p n s Closed = zero-le

pub down_decreases : (p : Plan) (alive : ℕ → Bool) (n : ℕ) (x : Node) (m : ℕ) → KinIsSound p alive n x.kin → length x.kin.children ≤ nodes p → length (without_child x.kin m).children ≤ nodes p → Decreases p n x 1 (received_down p n x m)
unfolding received_down book_weight parent_cost wave_count
down_decreases p alive n x m hk few few' =
    cond_both (is_parent x.kin.parent m) _ _ (Decreases p n x 1)
    (λ e.
    let en : nearest (ancestors p n) x.kin.lost ≡ Some m = sym hk.parent ∙ is_parent_some x.kin.parent m e in
    let r = nearest_split (ancestors p n) x.kin.lost m en in
    let kd : kin_weight p n (with_number m x.kin.lost) + parent_cost p ≤ kin_weight p n x.kin.lost = kin_drop p n m x.kin.lost (nearest_in (ancestors p n) x.kin.lost m en) r.3 in
    let kin' : Kin = with_parent p n x.kin m in
    let b : Book = λ s w. unsent (x.book s w) in
    let k0 : Effects = record { book = b; sends = to_parent kin'.parent Attach; releases = [] } in
    let growth : book_weight p n b ≤ book_weight p n x.book + wave_count p * (tick_cap p + 1) =
    total_increase (λ v. wave_weight p n v.0 (b v.0 v.1)) (λ v. wave_weight p n v.0 (x.book v.0 v.1)) (tick_cap p + 1) (waves_of p.streams) (λ v i. unsent_decreases p n v.0 (x.book v.0 v.1)) in
    let at : sends_weight p (to_parent kin'.parent Attach) ≤ 1 + wave_count p = attach_weight p kin'.parent in
    let a : work_weight p n (act_each p n kin' (waves_at p n) k0) ≤ work_weight p n k0 = act_each_decreases p n kin' (waves_at p n) k0 (waves_at_named p n) few in
    let cost : parent_cost p ≡ 1 + wave_count p + wave_count p * (tick_cap p + 1) = refl in
    omega arith)
    (λ e.
    let kl : kin_weight p n (with_number m x.kin.lost) ≤ kin_weight p n x.kin.lost = kin_less p n m x.kin.lost in
    let a : work_weight p n (act_each p n (without_child x.kin m) (waves_at p n) (begin x.book)) ≤ work_weight p n (begin x.book) = act_each_decreases p n (without_child x.kin m) (waves_at p n) (begin x.book) (waves_at_named p n) few' in
    let z : work_weight p n (begin x.book) ≡ book_weight p n x.book = begin_weight p n x.book in
    omega arith)

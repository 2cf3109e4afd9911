-- A node sends a wave no more often than its coverage grew or its parent changed.
use Rattle.std.proofs.Common.{◌≡◌, ◌≤◌, ◌+◌, inl, inr, ℕ, suc, Bool, true, false, not, ◌==◌, ◌&&◌, List, [], ◌∷◌, ◌++◌, map, filter, refl, sym, ap, subst, ◌∙◌, arith, eqb-true, eq-eqb, Option, Some, None, zero-le, le_refl}
use Rattle.std.specs.List.{count_by}
use Rattle.std.proofs.lemmas.List.Sums.{sum_by-append}
use Rattle.std.proofs.lemmas.Bool.{cond_both, cases_Bool, and_parts, eqb-false, true≢false, cond-true}
use Rattle.rank_set.specs.Ranks.{Ranks, none, is_same}
use Rattle.overlay_setup.specs.NodeSets.{member, with_number}
use Rattle.stat_plan.specs.Plans.{Plan, ancestors, ranks, mode, is_front, serves, waves_at}
use Rattle.stat_plan.specs.Machine.Due.{due_act}
use Rattle.stat_plan.specs.Machine.Kin.{Kin, complete, nearest, is_parent, with_parent, without_child}
use Rattle.stat_plan.specs.Machine.Waves.{Wave, Open, Closed, Book, set_wave, has_grown, ticks, is_fired, is_closed, covering, growing, ticked, unsent}
use Rattle.overlay_setup.specs.declared.script.Mode.{Mode}
use Rattle.overlay_setup.specs.declared.script.Mode.TheVariants.{WaitForAll, TimeOut, DontWait}
use Rattle.stat_plan.specs.declared.machine.Timer.{Timer}
use Rattle.stat_plan.specs.declared.machine.Timer.TheVariants.{Off, Running, Fired}
use Rattle.stat_plan.specs.declared.machine.Act.{Act}
use Rattle.stat_plan.specs.declared.machine.Act.TheVariants.{Hold, Arm, Send, Partial, Final}
use Rattle.stat_plan.proofs.KinLemmas.{with_number_new, is_parent_some}
use Rattle.overlay_event.specs.declared.event.Event.{Event}
use Rattle.overlay_event.specs.declared.event.Event.TheVariants.{Sample, Recv, Tick, Lose}
use Rattle.overlay_core.specs.declared.release.Kind.TheVariants.{Partial as PartialRelease, Final as FinalRelease}
use Rattle.overlay_core.specs.Nodes.{Packet, Up, Done, Attach, Down, Node, Effects, Outcome, release, begin, due_at, dones, acted, act_as, act, act_each, done_work, sampled, after_tick, received_up, received_done, received_attach, received_down, received, handled}
use Rattle.stat_plan.specs.Machine.Overlays.{to_parent}
use Rattle.overlay_core.specs.Machine.{State, start, step, commit, with_link, lose, receive}
use Rattle.overlay_core.specs.Runs.{run, after}
use Rattle.overlay_core.specs.Independent.{first_from, outcome}
use Rattle.overlay_event.specs.Events.{event_node}
use Rattle.overlay_core.specs.Counts.{one_if, is_up_of, is_partial_of, sends_in, grows, is_same_parent, is_unsent, sends_at, sends, growths, moves}
use Rattle.stat_plan.proofs.InLists.{in_member}
use Rattle.overlay_core.proofs.RankSets.{test_from_same, same_true}
use Rattle.overlay_core.proofs.ParentLinks.{set_wave_here}
use Rattle.overlay_core.proofs.Settled.{set_wave_else}
use Rattle.overlay_core.proofs.Independent.{node_else}

count_append : {X : Type 0} (test : X → Bool) (xs ys : List X) → count_by test (xs ++ ys) ≡ count_by test xs + count_by test ys
count_append test xs ys = sum_by-append (λ x. one_if (test x)) xs ys

-- what is said of the end of waves is no rank
no_ups : {X : Type 0} (s w : ℕ) (f : X → ℕ × Packet) → ((x : X) → is_up_of s w (f x).1 ≡ false) → (xs : List X) → count_by (λ v. is_up_of s w v.1) (map f xs) ≡ 0
no_ups s w f h [] = refl
no_ups s w f h (x ∷ xs) =
    let ih : count_by (λ v. is_up_of s w v.1) (map f xs) ≡ 0 = no_ups s w f h xs in
    let e : one_if (is_up_of s w (f x).1) ≡ 0 = ap one_if (h x) in
    let k : count_by (λ v. is_up_of s w v.1) (f x ∷ map f xs) ≡ (0 + one_if (is_up_of s w (f x).1)) + count_by (λ v. is_up_of s w v.1) (map f xs) = count_append (λ v. is_up_of s w v.1) (f x ∷ []) (map f xs) in
    omega arith

no_done_ups : (p : Plan) (kin : Kin) (a b s w : ℕ) → count_by (λ v. is_up_of s w v.1) (dones p kin a b) ≡ 0
unfolding dones
no_done_ups p kin a b s w = no_ups s w (λ c. (c, Done a b)) (λ c. refl) (filter (λ c. serves p c a) kin.children)

one_up : (o : Option ℕ) (a b s w : ℕ) (set : Ranks) → count_by (λ v. is_up_of s w v.1) (to_parent o (Up a b set)) ≤ one_if ((s == a) && (w == b))
one_up None a b s w set = zero-le
one_up (Some m) a b s w set = omega arith

no_attach_ups : (o : Option ℕ) (s w : ℕ) → count_by (λ v. is_up_of s w v.1) (to_parent o Attach) ≡ 0
no_attach_ups None s w = refl
no_attach_ups (Some m) s w = refl

-- a property of a wave of a changed book
at_wave : (P : Wave → Type 0) (x : Book) (a b : ℕ) (v : Wave) (s w : ℕ) → (((s == a) && (w == b)) ≡ true → P v) → (((s == a) && (w == b)) ≡ false → P (x s w)) → P (set_wave x a b v s w)
at_wave P x a b v s w here else' = elim (cases_Bool ((s == a) && (w == b))) [
  | inl t ↦
      let u = and_parts (s == a) (w == b) t in
      let es : s ≡ a = eqb-true s a u.0 in
      let ew : w ≡ b = eqb-true w b u.1 in
      let e : set_wave x a b v s w ≡ v = subst (λ c. set_wave x a b v c w ≡ v) (sym es) (subst (λ d. set_wave x a b v a d ≡ v) (sym ew) (set_wave_here x a b v)) in
      subst P (sym e) (here t)
  | inr f ↦ subst P (sym (set_wave_else x a b v s w f)) (else' f)
]

-- the wave itself, where it is the one that is named
wave_is : (x : Book) (a b : ℕ) (v : Wave) (s w : ℕ) → x a b ≡ v → ((s == a) && (w == b)) ≡ true → x s w ≡ v
wave_is x a b v s w e t =
    let u = and_parts (s == a) (w == b) t in
    subst (λ c. x c w ≡ v) (sym (eqb-true s a u.0)) (subst (λ d. x a d ≡ v) (sym (eqb-true w b u.1)) e)

-- sends, and one more where something wasn't sent yet
abbrev pub spent : ℕ → ℕ → Effects → ℕ
spent s w k = sends_in s w k + one_if (is_unsent (k.book s w))

pub send_grown : (m : Mode) (done grown top : Bool) (t : Timer) → due_act m done grown top t ≡ Send → grown ≡ true
send_grown m done true top t e = refl
send_grown m true false true t e = absurd (cc)
send_grown m true false false t e = absurd (cc)
send_grown WaitForAll false false top t e = absurd (cc)
send_grown DontWait false false top t e = absurd (cc)
send_grown (TimeOut j) false false top Off e = absurd (cc)
send_grown (TimeOut j) false false top (Running i) e = absurd (cc)
send_grown (TimeOut j) false false top Fired e = absurd (cc)

partial_grown : (m : Mode) (done grown top : Bool) (t : Timer) → due_act m done grown top t ≡ Partial → grown ≡ true
partial_grown m done true top t e = refl
partial_grown m true false true t e = absurd (cc)
partial_grown m true false false t e = absurd (cc)
partial_grown WaitForAll false false top t e = absurd (cc)
partial_grown DontWait false false top t e = absurd (cc)
partial_grown (TimeOut j) false false top Off e = absurd (cc)
partial_grown (TimeOut j) false false top (Running i) e = absurd (cc)
partial_grown (TimeOut j) false false top Fired e = absurd (cc)

none_unsent : (covered : Ranks) → one_if (has_grown covered covered) ≡ 0
none_unsent covered = ap (λ b. one_if (not b)) (test_from_same covered)

-- a wave that is passed on had something to send, and has nothing after
pass_pays : (x : Book) (a b : ℕ) (covered sent : Ranks) (timer : Timer) (s w : ℕ) → x a b ≡ Open covered sent timer → has_grown covered sent ≡ true → one_if ((s == a) && (w == b)) + one_if (is_unsent (set_wave x a b (Open covered covered Off) s w)) ≤ one_if (is_unsent (x s w))
pass_pays x a b covered sent timer s w e grown =
    at_wave (λ v. one_if ((s == a) && (w == b)) + one_if (is_unsent v) ≤ one_if (is_unsent (x s w))) x a b (Open covered covered Off) s w
    (λ t.
    let one : one_if ((s == a) && (w == b)) ≡ 1 = ap one_if t in
    let none : one_if (has_grown covered covered) ≡ 0 = none_unsent covered in
    let old : one_if (is_unsent (x s w)) ≡ 1 = ap (λ v. one_if (is_unsent v)) (wave_is x a b (Open covered sent timer) s w e t) ∙ ap one_if grown in
    omega arith)
    (λ f. let none : one_if ((s == a) && (w == b)) ≡ 0 = ap one_if f in omega arith)

-- no act on a wave raises what is spent on any
acted_pays : (p : Plan) (n : ℕ) (kin : Kin) (a b : ℕ) (covered sent : Ranks) (timer : Timer) (k : Effects) (what : Act) (s w : ℕ) → k.book a b ≡ Open covered sent timer → due_at p n kin.lost a covered sent timer ≡ what → spent s w (acted p kin a b covered sent timer k what) ≤ spent s w k
unfolding acted due_at
acted_pays p n kin a b covered sent timer k Hold s w e d = le_refl _
acted_pays p n kin a b covered sent timer k Arm s w e d =
    let same : one_if (is_unsent (set_wave k.book a b (Open covered sent (Running (ticks (mode p a)))) s w)) ≤ one_if (is_unsent (k.book s w)) =
    at_wave (λ v. one_if (is_unsent v) ≤ one_if (is_unsent (k.book s w))) k.book a b (Open covered sent (Running (ticks (mode p a)))) s w (λ t. subst (λ v. one_if (has_grown covered sent) ≤ one_if (is_unsent v)) (sym (wave_is k.book a b (Open covered sent timer) s w e t)) (le_refl _)) (λ f. le_refl _)
    in
    omega arith
acted_pays p n kin a b covered sent timer k Send s w e d =
    let grown : has_grown covered sent ≡ true = send_grown (mode p a) (complete p n kin.lost a covered) (has_grown covered sent) (is_front p n) timer d in
    let pass = pass_pays k.book a b covered sent timer s w e grown in
    let more : count_by (λ v. is_up_of s w v.1) (k.sends ++ to_parent kin.parent (Up a b covered)) ≡ count_by (λ v. is_up_of s w v.1) k.sends + count_by (λ v. is_up_of s w v.1) (to_parent kin.parent (Up a b covered)) = count_append (λ v. is_up_of s w v.1) k.sends (to_parent kin.parent (Up a b covered)) in
    let one : count_by (λ v. is_up_of s w v.1) (to_parent kin.parent (Up a b covered)) ≤ one_if ((s == a) && (w == b)) = one_up kin.parent a b s w covered in
    omega arith
acted_pays p n kin a b covered sent timer k Partial s w e d =
    let grown : has_grown covered sent ≡ true = partial_grown (mode p a) (complete p n kin.lost a covered) (has_grown covered sent) (is_front p n) timer d in
    let pass = pass_pays k.book a b covered sent timer s w e grown in
    let more : count_by (is_partial_of s w) (k.releases ++ release a b covered PartialRelease kin.lost ∷ []) ≡ count_by (is_partial_of s w) k.releases + (0 + one_if ((s == a) && (w == b))) = count_append (is_partial_of s w) k.releases (release a b covered PartialRelease kin.lost ∷ []) in
    omega arith
acted_pays p n kin a b covered sent timer k Final s w e d =
    let same : one_if (is_unsent (set_wave k.book a b Closed s w)) ≤ one_if (is_unsent (k.book s w)) = at_wave (λ v. one_if (is_unsent v) ≤ one_if (is_unsent (k.book s w))) k.book a b Closed s w (λ t. zero-le) (λ f. le_refl _) in
    let more : count_by (λ v. is_up_of s w v.1) (k.sends ++ dones p kin a b) ≡ count_by (λ v. is_up_of s w v.1) k.sends + count_by (λ v. is_up_of s w v.1) (dones p kin a b) = count_append (λ v. is_up_of s w v.1) k.sends (dones p kin a b) in
    let none : count_by (λ v. is_up_of s w v.1) (dones p kin a b) ≡ 0 = no_done_ups p kin a b s w in
    let final : count_by (is_partial_of s w) (k.releases ++ release a b covered FinalRelease kin.lost ∷ []) ≡ count_by (is_partial_of s w) k.releases + 0 = count_append (is_partial_of s w) k.releases (release a b covered FinalRelease kin.lost ∷ []) in
    omega arith

act_as_pays : (p : Plan) (n : ℕ) (kin : Kin) (a b : ℕ) (k : Effects) (v : Wave) (s w : ℕ) → k.book a b ≡ v → spent s w (act_as p n kin a b k v) ≤ spent s w k
act_as_pays p n kin a b k Closed s w e = le_refl _
act_as_pays p n kin a b k (Open covered sent timer) s w e = acted_pays p n kin a b covered sent timer k (due_at p n kin.lost a covered sent timer) s w e refl

act_each_pays : (p : Plan) (n : ℕ) (kin : Kin) (vs : List (ℕ × ℕ)) (k : Effects) (s w : ℕ) → spent s w (act_each p n kin vs k) ≤ spent s w k
act_each_pays p n kin [] k s w = le_refl _
act_each_pays p n kin (v ∷ vs) k s w =
    let one : spent s w (act p n kin v.0 v.1 k) ≤ spent s w k = act_as_pays p n kin v.0 v.1 k (k.book v.0 v.1) s w refl in
    let ih : spent s w (act_each p n kin vs (act p n kin v.0 v.1 k)) ≤ spent s w (act p n kin v.0 v.1 k) = act_each_pays p n kin vs (act p n kin v.0 v.1 k) s w in
    omega arith

-- what a node that stood as x, and stands as y, has sent is paid by what has grown and moved
abbrev pub Pays : Node → Kin → Book → ℕ → ℕ → ℕ → Type 0
Pays x kin book s w sent = sent + one_if (is_unsent (book s w)) ≤ one_if (is_unsent (x.book s w)) + (one_if (grows (x.book s w) (book s w)) + one_if (not (is_same_parent x.kin.parent kin.parent)))

unfoldable pub OutcomePays : Node → Outcome → ℕ → ℕ → Type 0
OutcomePays x o s w = Pays x o.kin o.work.book s w (sends_in s w o.work)

at_most_one : (b : Bool) → one_if b ≤ 1
at_most_one true = omega arith
at_most_one false = omega arith

-- what isn't sent now wasn't sent before, or is new
triangle : (old covered sent : Ranks) → one_if (has_grown covered sent) ≤ one_if (has_grown old sent) + one_if (not (is_same covered old))
triangle old covered sent = elim (cases_Bool (is_same covered old)) [
  | inl t ↦ let e : covered ≡ old = same_true covered old t in subst (λ c. one_if (has_grown c sent) ≤ one_if (has_grown old sent) + one_if (not (is_same covered old))) (sym e) (omega arith)
  | inr f ↦ let one : one_if (not (is_same covered old)) ≡ 1 = ap (λ b. one_if (not b)) f in let le : one_if (has_grown covered sent) ≤ 1 = at_most_one (has_grown covered sent) in omega arith
]

-- the same, for a wave that stood as v0 and stands as v1
pays_by : (x : Node) (kin : Kin) (book : Book) (a b sent : ℕ) (v0 v1 : Wave) → x.book a b ≡ v0 → book a b ≡ v1 → sent + one_if (is_unsent v1) ≤ one_if (is_unsent v0) + one_if (grows v0 v1) → Pays x kin book a b sent
pays_by x kin book a b sent v0 v1 e0 e1 le =
    let u0 : one_if (is_unsent (x.book a b)) ≡ one_if (is_unsent v0) = ap (λ v. one_if (is_unsent v)) e0 in
    let u1 : one_if (is_unsent (book a b)) ≡ one_if (is_unsent v1) = ap (λ v. one_if (is_unsent v)) e1 in
    let g : one_if (grows (x.book a b) (book a b)) ≡ one_if (grows v0 v1) = ap (λ v. one_if (grows v (book a b))) e0 ∙ ap (λ v. one_if (grows v0 v)) e1 in
    omega arith

-- one act on a wave that covers something else now
one_acted : (p : Plan) (n : ℕ) (x : Node) (a b : ℕ) (old covered sent : Ranks) (was timer : Timer) (what : Act) → x.book a b ≡ Open old sent was → due_at p n x.kin.lost a covered sent timer ≡ what
    → Pays x x.kin (acted p x.kin a b covered sent timer (begin (set_wave x.book a b (Open covered sent timer))) what).book a b (sends_in a b (acted p x.kin a b covered sent timer (begin (set_wave x.book a b (Open covered sent timer))) what))
unfolding acted due_at
one_acted p n x a b old covered sent was timer Hold e d =
    pays_by x x.kin (set_wave x.book a b (Open covered sent timer)) a b 0 (Open old sent was) (Open covered sent timer) e (set_wave_here x.book a b (Open covered sent timer)) (let t = triangle old covered sent in omega arith)
one_acted p n x a b old covered sent was timer Arm e d =
    let book = set_wave x.book a b (Open covered sent timer) in
    pays_by x x.kin (set_wave book a b (Open covered sent (Running (ticks (mode p a))))) a b 0 (Open old sent was) (Open covered sent (Running (ticks (mode p a)))) e (set_wave_here book a b (Open covered sent (Running (ticks (mode p a))))) (let t = triangle old covered sent in omega arith)
one_acted p n x a b old covered sent was timer Send e d =
    let book = set_wave x.book a b (Open covered sent timer) in
    let ups : ℕ = count_by (λ v. is_up_of a b v.1) (to_parent x.kin.parent (Up a b covered)) in
    let few : count_by (λ v. is_up_of a b v.1) (to_parent x.kin.parent (Up a b covered)) ≤ one_if ((a == a) && (b == b)) = one_up x.kin.parent a b a b covered in
    let one : one_if ((a == a) && (b == b)) ≤ 1 = at_most_one ((a == a) && (b == b)) in
    let none : one_if (has_grown covered covered) ≡ 0 = none_unsent covered in
    let grown : one_if (has_grown covered sent) ≡ 1 = ap one_if (send_grown (mode p a) (complete p n x.kin.lost a covered) (has_grown covered sent) (is_front p n) timer d) in
    let t = triangle old covered sent in
    pays_by x x.kin (set_wave book a b (Open covered covered Off)) a b (count_by (λ v. is_up_of a b v.1) (to_parent x.kin.parent (Up a b covered)) + 0) (Open old sent was) (Open covered covered Off) e (set_wave_here book a b (Open covered covered Off)) (omega arith)
one_acted p n x a b old covered sent was timer Partial e d =
    let book = set_wave x.book a b (Open covered sent timer) in
    let one : one_if ((a == a) && (b == b)) ≤ 1 = at_most_one ((a == a) && (b == b)) in
    let none : one_if (has_grown covered covered) ≡ 0 = none_unsent covered in
    let grown : one_if (has_grown covered sent) ≡ 1 = ap one_if (partial_grown (mode p a) (complete p n x.kin.lost a covered) (has_grown covered sent) (is_front p n) timer d) in
    let t = triangle old covered sent in
    pays_by x x.kin (set_wave book a b (Open covered covered Off)) a b (0 + (0 + one_if ((a == a) && (b == b)))) (Open old sent was) (Open covered covered Off) e (set_wave_here book a b (Open covered covered Off)) (omega arith)
one_acted p n x a b old covered sent was timer Final e d =
    let book = set_wave x.book a b (Open covered sent timer) in
    let none : count_by (λ v. is_up_of a b v.1) (dones p x.kin a b) ≡ 0 = no_done_ups p x.kin a b a b in
    pays_by x x.kin (set_wave book a b Closed) a b (count_by (λ v. is_up_of a b v.1) (dones p x.kin a b) + 0) (Open old sent was) Closed e (set_wave_here book a b Closed) (omega arith)

-- what a wave covers may change, what was sent of it doesn't
abbrev pub IsLater : Wave → Wave → Type 0
IsLater (Open old sent was) (Open covered same timer) = sent ≡ same
IsLater (Open old sent was) Closed = ⊥
IsLater Closed (Open covered same timer) = ⊥
IsLater Closed Closed = Unit {0}

act_here : (p : Plan) (n : ℕ) (x : Node) (a b : ℕ) (old v : Wave) → x.book a b ≡ old → IsLater old v → Pays x x.kin (act_as p n x.kin a b (begin (set_wave x.book a b v)) v).book a b (sends_in a b (act_as p n x.kin a b (begin (set_wave x.book a b v)) v))
act_here p n x a b (Open old sent was) (Open covered same timer) e l = one_acted p n x a b old covered same was timer (due_at p n x.kin.lost a covered same timer) (e ∙ ap (λ k. Open old k was) l) refl
act_here p n x a b (Open old sent was) Closed e l = absurd l
act_here p n x a b Closed (Open covered same timer) e l = absurd l
act_here p n x a b Closed Closed e l = pays_by x x.kin (set_wave x.book a b Closed) a b 0 Closed Closed e (set_wave_here x.book a b Closed) (omega arith)

abbrev pub touched : Plan → ℕ → Node → ℕ → ℕ → Wave → Effects
touched p n x a b v = act p n x.kin a b (begin (set_wave x.book a b v))

touched_here : (p : Plan) (n : ℕ) (x : Node) (a b : ℕ) (v : Wave) → IsLater (x.book a b) v → Pays x x.kin (touched p n x a b v).book a b (sends_in a b (touched p n x a b v))
touched_here p n x a b v l =
    subst (λ u. Pays x x.kin (act_as p n x.kin a b (begin (set_wave x.book a b v)) u).book a b (sends_in a b (act_as p n x.kin a b (begin (set_wave x.book a b v)) u))) (sym (set_wave_here x.book a b v)) (act_here p n x a b (x.book a b) v refl l)

touched_pays : (p : Plan) (n : ℕ) (x : Node) (a b : ℕ) (v : Wave) (s w : ℕ) → IsLater (x.book a b) v → Pays x x.kin (touched p n x a b v).book s w (sends_in s w (touched p n x a b v))
touched_pays p n x a b v s w l = elim (cases_Bool ((s == a) && (w == b))) [
  | inl t ↦
      let u = and_parts (s == a) (w == b) t in
      subst (λ c. Pays x x.kin (touched p n x a b v).book c w (sends_in c w (touched p n x a b v))) (sym (eqb-true s a u.0))
      (subst (λ d. Pays x x.kin (touched p n x a b v).book a d (sends_in a d (touched p n x a b v))) (sym (eqb-true w b u.1)) (touched_here p n x a b v l))
  | inr f ↦
      let k = begin (set_wave x.book a b v) in
      let le : spent s w (act p n x.kin a b k) ≤ spent s w k = act_as_pays p n x.kin a b k (k.book a b) s w refl in
      let same : one_if (is_unsent (set_wave x.book a b v s w)) ≡ one_if (is_unsent (x.book s w)) = ap (λ y. one_if (is_unsent y)) (set_wave_else x.book a b v s w f) in
      omega arith
]

later_covering : (set : Ranks) (v : Wave) → IsLater v (covering set v)
later_covering set (Open covered sent timer) = refl
later_covering set Closed = tt

later_growing : (set : Ranks) (v : Wave) → IsLater v (growing set v)
later_growing set (Open covered sent timer) = refl
later_growing set Closed = tt

ticked_unsent : (v : Wave) → is_unsent (ticked v) ≡ is_unsent v
ticked_unsent (Open covered sent timer) = refl
ticked_unsent Closed = refl

sampled_pays : (p : Plan) (n : ℕ) (x : Node) (a b s w : ℕ) → OutcomePays x (sampled p n x a b) s w
unfolding sampled OutcomePays
sampled_pays p n x a b s w = touched_pays p n x a b (covering (ranks p n) (x.book a b)) s w (later_covering (ranks p n) (x.book a b))

tick_pays : (p : Plan) (n : ℕ) (x : Node) (s w : ℕ) → OutcomePays x (after_tick p n x) s w
unfolding after_tick OutcomePays
tick_pays p n x s w =
    let vs = filter (λ v. is_fired (ticked (x.book v.0 v.1))) (waves_at p n) in
    let k = begin (λ s w. ticked (x.book s w)) in
    let le : spent s w (act_each p n x.kin vs k) ≤ spent s w k = act_each_pays p n x.kin vs k s w in
    let same : one_if (is_unsent (ticked (x.book s w))) ≡ one_if (is_unsent (x.book s w)) = ap one_if (ticked_unsent (x.book s w)) in
    omega arith

-- another parent is found
nearest_is_new : (above lost : List ℕ) (m : ℕ) → member m lost ≡ true → is_same_parent (Some m) (nearest above lost) ≡ false
nearest_is_new [] lost m e = refl
nearest_is_new (a ∷ above) lost m e = cond_both {A = Option ℕ} (member a lost) (nearest above lost) (Some a) (λ o. is_same_parent (Some m) o ≡ false) (λ t. nearest_is_new above lost m e) (λ f. differs (m == a) refl f)
  where
    differs : (b : Bool) → (m == a) ≡ b → member a lost ≡ false → (m == a) ≡ false
    differs true t f = absurd (true≢false (sym e ∙ (ap (λ y. member y lost) (eqb-true m a t) ∙ f)))
    differs false t f = t

has_moved : (p : Plan) (n : ℕ) (kin : Kin) (m : ℕ) → is_parent kin.parent m ≡ true → one_if (not (is_same_parent kin.parent (with_parent p n kin m).parent)) ≡ 1
has_moved p n kin m e =
    ap (λ o. one_if (not (is_same_parent o (nearest (ancestors p n) (with_number m kin.lost))))) (is_parent_some kin.parent m e)
    ∙ ap (λ b. one_if (not b)) (nearest_is_new (ancestors p n) (with_number m kin.lost) m (in_member m (with_number m kin.lost) (with_number_new m kin.lost)))

-- who sends no ranks, and keeps its parent and its waves, owes nothing
silent_pays : (x : Node) (kin : Kin) (packets : List (ℕ × Packet)) (s w : ℕ) → kin.parent ≡ x.kin.parent → count_by (λ v. is_up_of s w v.1) packets ≡ 0 → Pays x kin x.book s w (count_by (λ v. is_up_of s w v.1) packets + 0)
silent_pays x kin packets s w same none = omega arith

received_pays : (p : Plan) (n : ℕ) (x : Node) (m : ℕ) (q : Packet) (s w : ℕ) → OutcomePays x (received p n x m q) s w
unfolding received_up received_done received_attach received_down OutcomePays
received_pays p n x m (Up a b set) s w = touched_pays p n x a b (growing set (x.book a b)) s w (later_growing set (x.book a b))
received_pays p n x m (Done a b) s w = go (x.book a b)
  where
    go : (v : Wave) → Pays x x.kin (done_work p x.kin a b x.book v).book s w (sends_in s w (done_work p x.kin a b x.book v))
    go (Open covered sent timer) =
        let same : one_if (is_unsent (set_wave x.book a b Closed s w)) ≤ one_if (is_unsent (x.book s w)) = at_wave (λ v. one_if (is_unsent v) ≤ one_if (is_unsent (x.book s w))) x.book a b Closed s w (λ t. zero-le) (λ f. le_refl _) in
        let none : count_by (λ v. is_up_of s w v.1) (dones p x.kin a b) ≡ 0 = no_done_ups p x.kin a b s w in
        omega arith
    go Closed = omega arith
received_pays p n x m Attach s w = silent_pays x (received_attach p n x m).kin (received_attach p n x m).work.sends s w refl
    (no_ups s w (λ (v : ℕ × ℕ). (m, Done v.0 v.1)) (λ v. refl) (filter (λ v. is_closed (x.book v.0 v.1) && serves p m v.0) (waves_at p n)))
received_pays p n x m Down s w =
    cond_both (is_parent x.kin.parent m) _ _ (λ (o : Outcome). Pays x o.kin o.work.book s w (sends_in s w o.work))
    (λ e. moved e)
    (λ e. stayed)
  where
    stayed : Pays x (without_child x.kin m) (act_each p n (without_child x.kin m) (waves_at p n) (begin x.book)).book s w (sends_in s w (act_each p n (without_child x.kin m) (waves_at p n) (begin x.book)))
    stayed = let le : spent s w (act_each p n (without_child x.kin m) (waves_at p n) (begin x.book)) ≤ spent s w (begin x.book) = act_each_pays p n (without_child x.kin m) (waves_at p n) (begin x.book) s w in omega arith

    moved : is_parent x.kin.parent m ≡ true → Pays x (with_parent p n x.kin m) (act_each p n (with_parent p n x.kin m) (waves_at p n) (record { book = λ s w. unsent (x.book s w); sends = to_parent (with_parent p n x.kin m).parent Attach; releases = [] })).book s w (sends_in s w (act_each p n (with_parent p n x.kin m) (waves_at p n) (record { book = λ s w. unsent (x.book s w); sends = to_parent (with_parent p n x.kin m).parent Attach; releases = [] })))
    moved e =
        let k : Effects = record { book = λ s w. unsent (x.book s w); sends = to_parent (with_parent p n x.kin m).parent Attach; releases = [] } in
        let le : spent s w (act_each p n (with_parent p n x.kin m) (waves_at p n) k) ≤ spent s w k = act_each_pays p n (with_parent p n x.kin m) (waves_at p n) k s w in
        let none : count_by (λ v. is_up_of s w v.1) (to_parent (with_parent p n x.kin m).parent Attach) ≡ 0 = no_attach_ups (with_parent p n x.kin m).parent s w in
        let one : one_if (is_unsent (unsent (x.book s w))) ≤ 1 = at_most_one (is_unsent (unsent (x.book s w))) in
        let move : one_if (not (is_same_parent x.kin.parent (with_parent p n x.kin m).parent)) ≡ 1 = has_moved p n x.kin m e in
        omega arith

pub commit_here : (st : State) (n : ℕ) (o : Outcome) → (commit st n o).node n ≡ record { kin = o.kin; book = o.work.book; count = suc (st.node n).count }
unfolding commit
commit_here st n o = cond-true (n == n) (record { kin = o.kin; book = o.work.book; count = suc (st.node n).count }) (st.node n) (eq-eqb n n refl)

-- the event's own node
commit_pays : (st : State) (n : ℕ) (o : Outcome) (s w : ℕ) → OutcomePays (st.node n) o s w → Pays (st.node n) ((commit st n o).node n).kin ((commit st n o).node n).book s w (sends_in s w o.work)
unfolding OutcomePays
commit_pays st n o s w h = subst (λ (y : Node). Pays (st.node n) y.kin y.book s w (sends_in s w o.work)) (sym (commit_here st n o)) h

same_pays : (x : Node) (s w : ℕ) → Pays x x.kin x.book s w 0
same_pays x s w = omega arith

own_pays : (p : Plan) (st : State) (e : Event) (s w : ℕ) → Pays (st.node (event_node e)) ((step p st e).node (event_node e)).kin ((step p st e).node (event_node e)).book s w (sends_in s w (outcome p st e).work)
unfolding outcome lose with_link
own_pays p st (Sample n a b) s w = commit_pays st n (sampled p n (st.node n) a b) s w (sampled_pays p n (st.node n) a b s w)
own_pays p st (Recv n m) s w = go (st.link m n)
  where
    go : (qs : List Packet) → Pays (st.node n) ((receive p st n m qs).node n).kin ((receive p st n m qs).node n).book s w (sends_in s w (handled p n (st.node n) (Recv n m) (first_from m qs)).work)
    go [] = same_pays (st.node n) s w
    go (q ∷ qs) = commit_pays (with_link st m n qs) n (received p n (st.node n) m q) s w (received_pays p n (st.node n) m q s w)
own_pays p st (Tick n) s w = commit_pays st n (after_tick p n (st.node n)) s w (tick_pays p n (st.node n) s w)
own_pays p st (Lose n) s w = same_pays (st.node n) s w

event_pays : (p : Plan) (st : State) (e : Event) (n s w : ℕ) → Pays (st.node n) ((step p st e).node n).kin ((step p st e).node n).book s w (sends_at p st e n s w)
event_pays p st e n s w =
    cond_both (event_node e == n) (sends_in s w (outcome p st e).work) 0 (λ k. Pays (st.node n) ((step p st e).node n).kin ((step p st e).node n).book s w k)
    (λ t. subst (λ a. Pays (st.node a) ((step p st e).node a).kin ((step p st e).node a).book s w (sends_in s w (outcome p st e).work)) (eqb-true (event_node e) n t) (own_pays p st e s w))
    (λ f. subst (λ (y : Node). Pays (st.node n) y.kin y.book s w 0) (sym (node_else p st e n (eqb-false (event_node e) n f))) (same_pays (st.node n) s w))

run_pays : (p : Plan) (st : State) (es : List Event) (n s w : ℕ) → sends p st es n s w + one_if (is_unsent (((run p st es).node n).book s w)) ≤ one_if (is_unsent ((st.node n).book s w)) + (growths p st es n s w + moves p st es n)
run_pays p st [] n s w = omega arith
run_pays p st (e ∷ es) n s w =
    let one = event_pays p st e n s w in
    let ih : sends p (step p st e) es n s w + one_if (is_unsent (((run p (step p st e) es).node n).book s w)) ≤ one_if (is_unsent (((step p st e).node n).book s w)) + (growths p (step p st e) es n s w + moves p (step p st e) es n) = run_pays p (step p st e) es n s w in
    omega arith

at_start : (p : Plan) (n s w : ℕ) → one_if (is_unsent (((start p).node n).book s w)) ≡ 0
unfolding start
at_start p n s w = none_unsent none

pub sends_are_bounded : (p : Plan) (journal : List Event) (n s w : ℕ) → sends p (start p) journal n s w + one_if (is_unsent (((after p journal).node n).book s w)) ≤ growths p (start p) journal n s w + moves p (start p) journal n
sends_are_bounded p journal n s w =
    let h = run_pays p (start p) journal n s w in
    let z : one_if (is_unsent (((start p).node n).book s w)) ≡ 0 = at_start p n s w in
    omega arith

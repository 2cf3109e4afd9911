-- How an event of a node changes its waves, against what it sends.
use Rattle.rank_set.specs.Ranks.{Ranks, none, is_same, Has, IsSubset}
use Rattle.std.proofs.Common.{◌≡◌, ◌⊎◌, inl, inr, ℕ, Bool, true, false, cond, not, ◌&&◌, ◌==◌, List, [], ◌∷◌, ◌++◌, map, filter, refl, sym, ap, subst, ◌∙◌, eqb-true, eq-eqb, Some, None}
use Rattle.std.proofs.lemmas.Bool.{cond_both, and_from, or_cases, or_left, or_right, cond-true}
use Rattle.overlay_setup.specs.NodeSets.{In, with_number, without_number}
use Rattle.stat_plan.specs.Plans.{Plan, IsUnder, ancestors, serves, mode, is_front, front, daemons, is_within, is_under, waves_at, waves_of}
use Rattle.stat_plan.specs.Machine.Due.{due_act}
use Rattle.overlay_core.specs.Nodes.{Packet, Up, Done, Attach, Down, Node, Effects, Outcome, begin, due_at, dones, acted, act_as, act, act_each, done_work, sampled, after_tick, received_up, received_done, received_attach, received_down, received}
use Rattle.stat_plan.specs.Machine.Overlays.{to_parent}
use Rattle.stat_plan.specs.Machine.Kin.{Kin, complete, nearest, is_parent, without_child, with_parent}
use Rattle.stat_plan.specs.Machine.Waves.{Wave, Open, Closed, Book, set_wave, is_open, is_closed, is_fired, coverage_of, sent_of, covering, growing, ticked, unsent, is_empty_open}
use Rattle.stat_plan.proofs.PlanFacts.{HasPlanFacts}
use Rattle.stat_plan.specs.Machine.LossInvariant.{KinIsSound}
use Rattle.overlay_core.proofs.Acts.{PacketIsSound, each_wave_set}
use Rattle.overlay_setup.specs.declared.script.Mode.{Mode}
use Rattle.overlay_setup.specs.declared.script.Mode.TheVariants.{WaitForAll, TimeOut, DontWait}
use Rattle.stat_plan.specs.declared.machine.Timer.{Timer}
use Rattle.stat_plan.specs.declared.machine.Timer.TheVariants.{Off, Running, Fired}
use Rattle.stat_plan.specs.declared.machine.Act.{Act}
use Rattle.stat_plan.specs.declared.machine.Act.TheVariants.{Hold, Arm, Send, Partial, Final}
use Rattle.stat_plan.proofs.KinLemmas.{with_number_old, with_number_new, without_other}
use Rattle.stat_plan.proofs.InLists.{append_left, append_right, in_member, in_from_member, any_from_in, in_filter, in_from_filter, in_from_any}
use Rattle.overlay_core.proofs.RankSets.{union_left, union_right, no_rank, empty_true}

-- r goes to m in an Up of the wave
pub record IsSent (m s w r : ℕ) (sends : List (ℕ × Packet)) : Type 0 where
  pub set : Ranks
  pub there : In (m, Up s w set) sends
  pub holds : Has r set

-- how a wave goes on from v0 to v, with what was sent since
pub record WaveLinks (p : Plan) (kin : Kin) (s w : ℕ) (v0 v : Wave) (sends : List (ℕ × Packet)) : Type 0 where
  pub opens : is_open v ≡ true → is_open v0 ≡ true
  pub covered : is_open v ≡ true → IsSubset (coverage_of v0) (coverage_of v)
  pub sent : (r : ℕ) → Has r (sent_of v) → Has r (sent_of v0) ⊎ ((m : ℕ) → kin.parent ≡ Some m → IsSent m s w r sends)
  pub closing : is_open v0 ≡ true → is_open v ≡ false → (c : ℕ) → In c kin.children → serves p c s ≡ true → In (c, Done s w) sends

pub links_more : (p : Plan) (kin : Kin) (s w : ℕ) (v0 v : Wave) (xs ys : List (ℕ × Packet)) → WaveLinks p kin s w v0 v xs → WaveLinks p kin s w v0 v (xs ++ ys)
links_more p kin s w v0 v xs ys h = record {
  opens = h.opens;
  covered = h.covered;
  sent = λ r i. elim (h.sent r i) [
    | inl j ↦ inl j
    | inr f ↦ inr (λ m e. let t = f m e in record { set = t.set; there = append_left (m, Up s w t.set) xs ys t.there; holds = t.holds })
  ];
  closing = λ a b c i j. append_left (c, Done s w) xs ys (h.closing a b c i j);
}

abbrev pub WorkLinks : Plan → Kin → Book → Effects → Type 0
WorkLinks p kin b k = (s w : ℕ) → WaveLinks p kin s w (b s w) (k.book s w) k.sends

pub links_not : (p : Plan) (kin : Kin) (s w : ℕ) (v : Wave) (sends : List (ℕ × Packet)) → WaveLinks p kin s w v v sends
links_not p kin s w v sends = record {
  opens = λ e. e;
  covered = λ e x i. i;
  sent = λ r i. inl i;
  closing = λ a b. absurd (cc);
}

pub in_map_filter_back : {X Y : Type 0} (f : X → Y) (test : X → Bool) (xs : List X) (x : X) → In x xs → test x ≡ true → In (f x) (map f (filter test xs))
in_map_filter_back f test [] x i t = absurd i
in_map_filter_back {X} {Y} f test (z ∷ zs) x i t = go (in_map_filter_back f test zs x) (test z) refl i
  where
    go : (In x zs → test x ≡ true → In (f x) (map f (filter test zs))) → (b : Bool) → test z ≡ b → In x (z ∷ zs) → In (f x) (map f (cond b (z ∷ filter test zs) (filter test zs)))
    go ih true e (inl k) = inl (ap f k)
    go ih true e (inr k) = inr (ih k t)
    go ih false e (inl k) = absurd (let u : test z ≡ true = subst (λ a. test a ≡ true) k t in cc)
    go ih false e (inr k) = ih k t

pub done_there : (p : Plan) (kin : Kin) (s w c : ℕ) → In c kin.children → serves p c s ≡ true → In (c, Done s w) (dones p kin s w)
unfolding dones
done_there p kin s w c i t = in_map_filter_back (λ c. (c, Done s w)) (λ c. serves p c s) kin.children c i t

acted_links : (p : Plan) (kin : Kin) (b : Book) (s w : ℕ) (covered sent : Ranks) (timer : Timer) (k : Effects) (a : Act) → WorkLinks p kin b k → WaveLinks p kin s w (b s w) (Open covered sent timer) k.sends → (a ≡ Partial → kin.parent ≡ None) → WorkLinks p kin b (acted p kin s w covered sent timer k a)
unfolding acted
acted_links p kin b s w covered sent timer k Hold h hv top = h
acted_links p kin b s w covered sent timer k Arm h hv top =
    each_wave_set (λ x y v. WaveLinks p kin x y (b x y) v k.sends) k.book s w _ h
    (record { opens = hv.opens; covered = hv.covered; sent = hv.sent; closing = hv.closing })
acted_links p kin b s w covered sent timer k Send h hv top =
    each_wave_set (λ x y v. WaveLinks p kin x y (b x y) v (k.sends ++ to_parent kin.parent (Up s w covered))) k.book s w _
    (λ x y. links_more p kin x y (b x y) (k.book x y) k.sends _ (h x y))
    (record {
      opens = hv.opens;
      covered = hv.covered;
      sent = λ r i. inr (λ m e. record { set = covered; there = append_right (m, Up s w covered) k.sends _ (subst (λ o. In (m, Up s w covered) (to_parent o (Up s w covered))) (sym e) (inl refl)); holds = i });
      closing = λ e f. absurd (cc);
    })
acted_links p kin b s w covered sent timer k Partial h hv top =
    each_wave_set (λ x y v. WaveLinks p kin x y (b x y) v k.sends) k.book s w _ h
    (record { opens = hv.opens; covered = hv.covered; sent = λ r i. inr (λ m e. absurd (none m e)); closing = λ e f. absurd (cc) })
  where
    none : (m : ℕ) → kin.parent ≡ Some m → ⊥
    none m e = let t : kin.parent ≡ None = top refl in cc
acted_links p kin b s w covered sent timer k Final h hv top =
    each_wave_set (λ x y v. WaveLinks p kin x y (b x y) v (k.sends ++ dones p kin s w)) k.book s w _
    (λ x y. links_more p kin x y (b x y) (k.book x y) k.sends _ (h x y))
    (record {
      opens = λ e. absurd (cc);
      covered = λ e. absurd (cc);
      sent = λ r i. absurd (no_rank r i);
      closing = λ e f c i t. append_right (c, Done s w) k.sends _ (done_there p kin s w c i t);
    })

-- only the front end releases
pub partial_front : (m : Mode) (done grown top : Bool) (t : Timer) → due_act m done grown top t ≡ Partial → top ≡ true
partial_front m done grown true t e = refl
partial_front m true true false t e = absurd (cc)
partial_front m true false false t e = absurd (cc)
partial_front WaitForAll false grown false t e = absurd (cc)
partial_front DontWait false true false t e = absurd (cc)
partial_front DontWait false false false t e = absurd (cc)
partial_front (TimeOut k) false true false Off e = absurd (cc)
partial_front (TimeOut k) false true false (Running j) e = absurd (cc)
partial_front (TimeOut k) false true false Fired e = absurd (cc)
partial_front (TimeOut k) false false false Off e = absurd (cc)
partial_front (TimeOut k) false false false (Running j) e = absurd (cc)
partial_front (TimeOut k) false false false Fired e = absurd (cc)

abbrev pub FrontIsTop : Plan → ℕ → Kin → Type 0
FrontIsTop p n kin = is_front p n ≡ true → kin.parent ≡ None

act_as_links : (p : Plan) (n : ℕ) (kin : Kin) (b : Book) (s w : ℕ) (k : Effects) (v : Wave) → FrontIsTop p n kin → WorkLinks p kin b k → WaveLinks p kin s w (b s w) v k.sends → WorkLinks p kin b (act_as p n kin s w k v)
unfolding due_at
act_as_links p n kin b s w k (Open covered sent timer) top h hv =
    acted_links p kin b s w covered sent timer k (due_at p n kin.lost s covered sent timer) h hv
    (λ e. top (partial_front (mode p s) (complete p n kin.lost s covered) (not (is_same covered sent)) (is_front p n) timer e))
act_as_links p n kin b s w k Closed top h hv = h

pub act_links : (p : Plan) (n : ℕ) (kin : Kin) (b : Book) (s w : ℕ) (k : Effects) → FrontIsTop p n kin → WorkLinks p kin b k → WorkLinks p kin b (act p n kin s w k)
act_links p n kin b s w k top h = act_as_links p n kin b s w k (k.book s w) top h (h s w)

pub act_each_links : (p : Plan) (n : ℕ) (kin : Kin) (b : Book) (vs : List (ℕ × ℕ)) (k : Effects) → FrontIsTop p n kin → WorkLinks p kin b k → WorkLinks p kin b (act_each p n kin vs k)
act_each_links p n kin b [] k top h = h
act_each_links p n kin b (v ∷ vs) k top h = act_each_links p n kin b vs (act p n kin v.0 v.1 k) top (act_links p n kin b v.0 v.1 k top h)

-- how an event of n, which took the packets `taken`, changes it
pub record OutcomeLinks (p : Plan) (alive : ℕ → Bool) (n : ℕ) (x : Node) (taken : List (ℕ × Packet)) (o : Outcome) : Type 0 where
  pub parent : (o.kin.parent ≡ x.kin.parent) ⊎ ((m : ℕ) → o.kin.parent ≡ Some m → In (m, Attach) o.work.sends)
  pub children : (c : ℕ) → alive c ≡ true → In c x.kin.children → In c o.kin.children
  pub opens : (s w : ℕ) → is_open (o.work.book s w) ≡ true → is_open (x.book s w) ≡ true
  pub covered : (s w : ℕ) → is_open (o.work.book s w) ≡ true → IsSubset (coverage_of (x.book s w)) (coverage_of (o.work.book s w))
  pub sent : (s w r : ℕ) → Has r (sent_of (o.work.book s w)) → ((o.kin.parent ≡ x.kin.parent) × (Has r (sent_of (x.book s w)))) ⊎ ((m : ℕ) → o.kin.parent ≡ Some m → IsSent m s w r o.work.sends)
  pub closing : (s w : ℕ) → is_open (x.book s w) ≡ true → is_open (o.work.book s w) ≡ false → (c : ℕ) → alive c ≡ true → In c x.kin.children → serves p c s ≡ true → In (c, Done s w) o.work.sends
  pub took_up : (m s w : ℕ) (set : Ranks) → In (m, Up s w set) taken → is_open (o.work.book s w) ≡ true → IsSubset set (coverage_of (o.work.book s w))
  pub took_done : (m s w : ℕ) → In (m, Done s w) taken → is_open (o.work.book s w) ≡ false
  pub took_attach : (m : ℕ) → In (m, Attach) taken → In m o.kin.children
  pub answered : (m s w : ℕ) → In (m, Attach) taken → In (s, w) (waves_at p m) → is_open (o.work.book s w) ≡ false → In (m, Done s w) o.work.sends

-- an event whose acts begin from a book b that is x's but for larger coverages
pub record BookGrows (x b : Book) : Type 0 where
  pub opens : (s w : ℕ) → is_open (b s w) ≡ is_open (x s w)
  pub covered : (s w : ℕ) → IsSubset (coverage_of (x s w)) (coverage_of (b s w))
  pub sent : (s w : ℕ) → sent_of (b s w) ≡ sent_of (x s w)

-- where nothing is taken, or nothing but what `took_up` says
pub acts_go : (p : Plan) (alive : ℕ → Bool) (n : ℕ) (x : Node) (b : Book) (k : Effects) → BookGrows x.book b → WorkLinks p x.kin b k → OutcomeLinks p alive n x [] (record { kin = x.kin; work = k })
acts_go p alive n x b k g h = record {
  parent = inl refl;
  children = λ c u i. i;
  opens = λ s w e. sym (g.opens s w) ∙ (h s w).opens e;
  covered = λ s w e r i. (h s w).covered e r (g.covered s w r i);
  sent = λ s w r i. elim ((h s w).sent r i) [ inl j ↦ inl (refl, subst (λ l. Has r l) (g.sent s w) j) | inr f ↦ inr f ];
  closing = λ s w e f c u i t. (h s w).closing (g.opens s w ∙ e) f c i t;
  took_up = λ m s w set i. absurd i;
  took_done = λ m s w i. absurd i;
  took_attach = λ m i. absurd i;
  answered = λ m s w i. absurd i;
}

grows_at : (x : Book) (s w : ℕ) (v : Wave) → is_open v ≡ is_open (x s w) → IsSubset (coverage_of (x s w)) (coverage_of v) → sent_of v ≡ sent_of (x s w) → BookGrows x (set_wave x s w v)
grows_at x s w v e f g = record {
  opens = each_wave_set (λ a b y. is_open y ≡ is_open (x a b)) x s w v (λ a b. refl) e;
  covered = each_wave_set (λ a b y. IsSubset (coverage_of (x a b)) (coverage_of y)) x s w v (λ a b r i. i) f;
  sent = each_wave_set (λ a b y. sent_of y ≡ sent_of (x a b)) x s w v (λ a b. refl) g;
}

pub covering_grows : (x : Book) (s w : ℕ) (set : Ranks) → is_empty_open (x s w) ≡ true → BookGrows x (set_wave x s w (covering set (x s w)))
covering_grows x s w set e = grows_at x s w (covering set (x s w)) (a (x s w)) (c (x s w) e) (d (x s w))
  where
    a : (v : Wave) → is_open (covering set v) ≡ is_open v
    a (Open covered sent t) = refl
    a Closed = refl

    c : (v : Wave) → is_empty_open v ≡ true → IsSubset (coverage_of v) (coverage_of (covering set v))
    c (Open covered sent t) h = λ r i. absurd (no_rank r (subst (Has r) (empty_true covered h) i))
    c Closed h = λ r i. i

    d : (v : Wave) → sent_of (covering set v) ≡ sent_of v
    d (Open covered sent t) = refl
    d Closed = refl

pub growing_grows : (x : Book) (s w : ℕ) (set : Ranks) → BookGrows x (set_wave x s w (growing set (x s w)))
growing_grows x s w set = grows_at x s w (growing set (x s w)) (a (x s w)) (c (x s w)) (d (x s w))
  where
    a : (v : Wave) → is_open (growing set v) ≡ is_open v
    a (Open covered sent t) = refl
    a Closed = refl

    c : (v : Wave) → IsSubset (coverage_of v) (coverage_of (growing set v))
    c (Open covered sent t) = λ r i. union_left r covered set i
    c Closed = λ r i. i

    d : (v : Wave) → sent_of (growing set v) ≡ sent_of v
    d (Open covered sent t) = refl
    d Closed = refl

pub ticking_grows : (x : Book) → BookGrows x (λ s w. ticked (x s w))
ticking_grows x = record { opens = λ s w. a (x s w); covered = λ s w. c (x s w); sent = λ s w. d (x s w) }
  where
    a : (v : Wave) → is_open (ticked v) ≡ is_open v
    a (Open covered sent t) = refl
    a Closed = refl

    c : (v : Wave) → IsSubset (coverage_of v) (coverage_of (ticked v))
    c (Open covered sent t) = λ r i. i
    c Closed = λ r i. i

    d : (v : Wave) → sent_of (ticked v) ≡ sent_of v
    d (Open covered sent t) = refl
    d Closed = refl

begin_links : (p : Plan) (kin : Kin) (b : Book) → WorkLinks p kin b (begin b)
begin_links p kin b s w = links_not p kin s w (b s w) []

pub sampled_links : (p : Plan) (alive : ℕ → Bool) (n : ℕ) (x : Node) (s w : ℕ) → FrontIsTop p n x.kin → is_empty_open (x.book s w) ≡ true → OutcomeLinks p alive n x [] (sampled p n x s w)
unfolding sampled
sampled_links p alive n x s w top e = acts_go p alive n x _ _ (covering_grows x.book s w _ e) (act_links p n x.kin _ s w _ top (begin_links p x.kin _))

pub tick_links : (p : Plan) (alive : ℕ → Bool) (n : ℕ) (x : Node) → FrontIsTop p n x.kin → OutcomeLinks p alive n x [] (after_tick p n x)
unfolding after_tick
tick_links p alive n x top = acts_go p alive n x _ _ (ticking_grows x.book) (act_each_links p n x.kin _ (filter (λ v. is_fired (ticked (x.book v.0 v.1))) (waves_at p n)) _ top (begin_links p x.kin _))

-- what was sent stays among what is sent
acted_sends : (p : Plan) (kin : Kin) (s w : ℕ) (covered sent : Ranks) (timer : Timer) (k : Effects) (a : Act) (v : ℕ × Packet) → In v k.sends → In v (acted p kin s w covered sent timer k a).sends
unfolding acted
acted_sends p kin s w covered sent timer k Hold v i = i
acted_sends p kin s w covered sent timer k Arm v i = i
acted_sends p kin s w covered sent timer k Send v i = append_left v k.sends _ i
acted_sends p kin s w covered sent timer k Partial v i = i
acted_sends p kin s w covered sent timer k Final v i = append_left v k.sends _ i

act_as_sends : (p : Plan) (n : ℕ) (kin : Kin) (s w : ℕ) (k : Effects) (y : Wave) (v : ℕ × Packet) → In v k.sends → In v (act_as p n kin s w k y).sends
act_as_sends p n kin s w k (Open covered sent timer) v i = acted_sends p kin s w covered sent timer k (due_at p n kin.lost s covered sent timer) v i
act_as_sends p n kin s w k Closed v i = i

pub act_each_sends : (p : Plan) (n : ℕ) (kin : Kin) (vs : List (ℕ × ℕ)) (k : Effects) (v : ℕ × Packet) → In v k.sends → In v (act_each p n kin vs k).sends
act_each_sends p n kin [] k v i = i
act_each_sends p n kin (y ∷ ys) k v i = act_each_sends p n kin ys (act p n kin y.0 y.1 k) v (act_as_sends p n kin y.0 y.1 k (k.book y.0 y.1) v i)

pub set_wave_here : (x : Book) (s w : ℕ) (v : Wave) → set_wave x s w v s w ≡ v
set_wave_here x s w v = ap (λ (f : ℕ → Wave). f w) (cond-true (s == s) _ _ (eq-eqb s s refl)) ∙ cond-true (w == w) _ _ (eq-eqb w w refl)

pub up_links : (p : Plan) (alive : ℕ → Bool) (n : ℕ) (x : Node) (m s w : ℕ) (set : Ranks) → FrontIsTop p n x.kin → OutcomeLinks p alive n x ((m, Up s w set) ∷ []) (received_up p n x s w set)
unfolding received_up
up_links p alive n x m s w set top =
    let b : Book = set_wave x.book s w (growing set (x.book s w)) in
    let links : WorkLinks p x.kin b (act p n x.kin s w (begin b)) = act_links p n x.kin b s w (begin b) top (begin_links p x.kin b) in
    let g = acts_go p alive n x b (act p n x.kin s w (begin b)) (growing_grows x.book s w set) links in
    record {
      parent = g.parent;
      children = g.children;
      opens = g.opens;
      covered = g.covered;
      sent = g.sent;
      closing = g.closing;
      took_up = λ m' s' w' set' i e r j.
          let eq : Up s' w' set' ≡ Up s w set = ap (λ v. v.1) (only i) in
          let es : s' ≡ s = cc in
          let ew : w' ≡ w = cc in
          let el : set' ≡ set = cc in
          subst (λ a. Has r (coverage_of ((act p n x.kin s w (begin b)).book a w'))) (sym es) (subst (λ a. Has r (coverage_of ((act p n x.kin s w (begin b)).book s a))) (sym ew)
          (let o : is_open ((act p n x.kin s w (begin b)).book s w) ≡ true = subst (λ a. is_open ((act p n x.kin s w (begin b)).book s a) ≡ true) ew (subst (λ a. is_open ((act p n x.kin s w (begin b)).book a w') ≡ true) es e) in
          let k : is_open (x.book s w) ≡ true = g.opens s w o in
          (links s w).covered o r (subst (λ v. Has r (coverage_of v)) (sym (set_wave_here x.book s w (growing set (x.book s w)))) (grown (x.book s w) k r (subst (λ l. Has r l) el j)))));
      took_done = λ m' s' w' i. absurd (let eq : Done s' w' ≡ Up s w set = ap (λ v. v.1) (only i) in cc);
      took_attach = λ m' i. absurd (let eq : Attach ≡ Up s w set = ap (λ v. v.1) (only i) in cc);
      answered = λ m' s' w' i. absurd (let eq : Attach ≡ Up s w set = ap (λ v. v.1) (only i) in cc);
    }
  where
    only : {v : ℕ × Packet} → In v ((m, Up s w set) ∷ []) → v ≡ (m, Up s w set)
    only = elim [ inl e ↦ e | inr i ↦ absurd i ]

    grown : (v : Wave) → is_open v ≡ true → (r : ℕ) → Has r set → Has r (coverage_of (growing set v))
    grown (Open covered sent t) e r j = union_right r covered set j
    grown Closed e r j = absurd (cc)

done_work_links : (p : Plan) (kin : Kin) (s w : ℕ) (book : Book) (v : Wave) → v ≡ book s w → WorkLinks p kin book (done_work p kin s w book v)
done_work_links p kin s w book Closed e = begin_links p kin book
done_work_links p kin s w book (Open covered sent timer) e =
    each_wave_set (λ a b y. WaveLinks p kin a b (book a b) y (dones p kin s w)) book s w Closed
    (λ a b. links_not p kin a b (book a b) _)
    (record { opens = λ f. absurd (cc); covered = λ f. absurd (cc); sent = λ r i. absurd (no_rank r i); closing = λ f g c i t. done_there p kin s w c i t })

done_work_closed : (p : Plan) (kin : Kin) (s w : ℕ) (book : Book) (v : Wave) → v ≡ book s w → is_open ((done_work p kin s w book v).book s w) ≡ false
done_work_closed p kin s w book Closed e = subst (λ y. is_open y ≡ false) e refl
done_work_closed p kin s w book (Open covered sent timer) e = rw set_wave_here refl

pub done_links : (p : Plan) (alive : ℕ → Bool) (n : ℕ) (x : Node) (m s w : ℕ) → OutcomeLinks p alive n x ((m, Done s w) ∷ []) (received_done p n x s w)
unfolding received_done
done_links p alive n x m s w =
    let g = acts_go p alive n x x.book (done_work p x.kin s w x.book (x.book s w)) (record { opens = λ s w. refl; covered = λ s w r i. i; sent = λ s w. refl }) (done_work_links p x.kin s w x.book (x.book s w) refl) in
    record {
      parent = g.parent;
      children = g.children;
      opens = g.opens;
      covered = g.covered;
      sent = g.sent;
      closing = g.closing;
      took_up = λ m' s' w' set i. absurd (let eq : Up s' w' set ≡ Done s w = ap (λ v. v.1) (only i) in cc);
      took_done = λ m' s' w' i.
          let eq : Done s' w' ≡ Done s w = ap (λ v. v.1) (only i) in
          let es : s' ≡ s = cc in
          let ew : w' ≡ w = cc in
          rw (es, ew) (done_work_closed p x.kin s w x.book (x.book s w) refl);
      took_attach = λ m' i. absurd (let eq : Attach ≡ Done s w = ap (λ v. v.1) (only i) in cc);
      answered = λ m' s' w' i. absurd (let eq : Attach ≡ Done s w = ap (λ v. v.1) (only i) in cc);
    }
  where
    only : {v : ℕ × Packet} → In v ((m, Done s w) ∷ []) → v ≡ (m, Done s w)
    only = elim [ inl e ↦ e | inr i ↦ absurd i ]

pub within_from_test : (p : Plan) (d n : ℕ) → is_within p d n ≡ true → (d ≡ n) ⊎ IsUnder p d n
unfolding is_within is_under
within_from_test p d n e = elim (or_cases (d == n) _ e) [ inl a ↦ inl (eqb-true d n a) | inr b ↦ inr (in_from_member n (ancestors p d) b) ]

pub test_from_within : (p : Plan) (d n : ℕ) → (d ≡ n) ⊎ IsUnder p d n → is_within p d n ≡ true
unfolding is_within is_under
test_from_within p d n (inl e) = or_left _ _ (eq-eqb d n e)
test_from_within p d n (inr u) = or_right _ _ (in_member n (ancestors p d) u)

-- a node above one that serves a stream serves it
pub serves_above : (p : Plan) (m n s : ℕ) → HasPlanFacts p → IsUnder p m n → serves p m s ≡ true → serves p n s ≡ true
unfolding serves
serves_above p m n s plan u e =
    let r = in_from_any (λ d. is_within p d m) (daemons p s) e in
    any_from_in (λ d. is_within p d n) r.0 (daemons p s) r.1.0
    (test_from_within p r.0 n (elim (within_from_test p r.0 m r.1.1) [ inl k ↦ inr (subst (λ a. IsUnder p a n) (sym k) u) | inr k ↦ inr (plan.under_trans r.0 m n k u) ]))

pub waves_above : (p : Plan) (m n s w : ℕ) → HasPlanFacts p → IsUnder p m n → In (s, w) (waves_at p m) → (In (s, w) (waves_at p n)) × (serves p m s ≡ true)
unfolding waves_at
waves_above p m n s w plan u i =
    let r = in_from_filter (λ v. serves p m v.0) (s, w) (waves_of p.streams) i in
    (in_filter (λ v. serves p n v.0) (s, w) (waves_of p.streams) r.0 (serves_above p m n s plan u r.1), r.1)

closed_from_open : (v : Wave) → is_open v ≡ false → is_closed v ≡ true
closed_from_open (Open covered sent t) e = absurd (cc)
closed_from_open Closed e = refl

pub attach_links : (p : Plan) (alive : ℕ → Bool) (n : ℕ) (x : Node) (m : ℕ) → HasPlanFacts p → IsUnder p m n → OutcomeLinks p alive n x ((m, Attach) ∷ []) (received_attach p n x m)
unfolding received_attach
attach_links p alive n x m plan u = record {
  parent = inl refl;
  children = λ c a i. with_number_old c m x.kin.children i;
  opens = λ s w e. e;
  covered = λ s w e r i. i;
  sent = λ s w r i. inl (refl, i);
  closing = λ s w e f. absurd (cc);
  took_up = λ m' s' w' set i. absurd (let eq : Up s' w' set ≡ Attach = ap (λ v. v.1) (only i) in cc);
  took_done = λ m' s' w' i. absurd (let eq : Done s' w' ≡ Attach = ap (λ v. v.1) (only i) in cc);
  took_attach = λ m' i. subst (λ a. In a (with_number m x.kin.children)) (sym (ap (λ v. v.0) (only i))) (with_number_new m x.kin.children);
  answered = λ m' s w i j e.
      let em : m' ≡ m = ap (λ v. v.0) (only i) in
      let t = waves_above p m n s w plan u (subst (λ a. In (s, w) (waves_at p a)) em j) in
      subst (λ a. In {X = ℕ × Packet} (a, Done s w) (map (λ v. (m, Done v.0 v.1)) (filter (λ v. is_closed (x.book v.0 v.1) && serves p m v.0) (waves_at p n)))) (sym em)
      (in_map_filter_back (λ v. (m, Done v.0 v.1)) (λ v. is_closed (x.book v.0 v.1) && serves p m v.0) (waves_at p n) (s, w) t.0 (and_from _ _ (closed_from_open (x.book s w) e) t.1));
}
  where
    only : {v : ℕ × Packet} → In v ((m, Attach) ∷ []) → v ≡ (m, Attach)
    only = elim [ inl e ↦ e | inr i ↦ absurd i ]

unsent_none : (v : Wave) → sent_of (unsent v) ≡ none
unsent_none (Open covered sent t) = refl
unsent_none Closed = refl

unsent_open : (v : Wave) → is_open (unsent v) ≡ is_open v
unsent_open (Open covered sent t) = refl
unsent_open Closed = refl

unsent_coverage : (v : Wave) → coverage_of (unsent v) ≡ coverage_of v
unsent_coverage (Open covered sent t) = refl
unsent_coverage Closed = refl

child_links : (p : Plan) (alive : ℕ → Bool) (n : ℕ) (x : Node) (m : ℕ) → alive m ≡ false → FrontIsTop p n (without_child x.kin m) → OutcomeLinks p alive n x ((m, Down) ∷ []) (record { kin = without_child x.kin m; work = act_each p n (without_child x.kin m) (waves_at p n) (begin x.book) })
child_links p alive n x m dead top =
    let links : WorkLinks p (without_child x.kin m) x.book (act_each p n (without_child x.kin m) (waves_at p n) (begin x.book)) = act_each_links p n (without_child x.kin m) x.book (waves_at p n) (begin x.book) top (begin_links p (without_child x.kin m) x.book) in
    record {
      parent = inl refl;
      children = λ c a i. stays c a i;
      opens = λ s w e. (links s w).opens e;
      covered = λ s w e. (links s w).covered e;
      sent = λ s w r i. elim ((links s w).sent r i) [ inl j ↦ inl (refl, j) | inr f ↦ inr f ];
      closing = λ s w e f c a i t. (links s w).closing e f c (stays c a i) t;
      took_up = λ m' s' w' set i. absurd (let eq : Up s' w' set ≡ Down = ap (λ v. v.1) (only i) in cc);
      took_done = λ m' s' w' i. absurd (let eq : Done s' w' ≡ Down = ap (λ v. v.1) (only i) in cc);
      took_attach = λ m' i. absurd (let eq : Attach ≡ Down = ap (λ v. v.1) (only i) in cc);
      answered = λ m' s' w' i. absurd (let eq : Attach ≡ Down = ap (λ v. v.1) (only i) in cc);
    }
  where
    only : {v : ℕ × Packet} → In v ((m, Down) ∷ []) → v ≡ (m, Down)
    only = elim [ inl e ↦ e | inr i ↦ absurd i ]

    stays : (c : ℕ) → alive c ≡ true → In c x.kin.children → In c (without_number m x.kin.children)
    stays c a i = without_other m c x.kin.children (λ e. let k : alive c ≡ false = subst (λ y. alive y ≡ false) e dead in cc) i

parent_links : (p : Plan) (alive : ℕ → Bool) (n : ℕ) (x : Node) (m : ℕ) → FrontIsTop p n (with_parent p n x.kin m) → OutcomeLinks p alive n x ((m, Down) ∷ []) (record {
  kin = with_parent p n x.kin m;
  work = act_each p n (with_parent p n x.kin m) (waves_at p n) (record { book = λ s w. unsent (x.book s w); sends = to_parent (with_parent p n x.kin m).parent Attach; releases = [] });
})
parent_links p alive n x m top =
    let kin' : Kin = with_parent p n x.kin m in
    let b : Book = λ s w. unsent (x.book s w) in
    let k0 : Effects = record { book = b; sends = to_parent kin'.parent Attach; releases = [] } in
    let links : WorkLinks p kin' b (act_each p n kin' (waves_at p n) k0) = act_each_links p n kin' b (waves_at p n) k0 top (λ s w. links_not p kin' s w (b s w) k0.sends) in
    record {
      parent = inr (λ q e. act_each_sends p n kin' (waves_at p n) k0 (q, Attach) (subst (λ o. In (q, Attach) (to_parent o Attach)) (sym e) (inl refl)));
      children = λ c a i. i;
      opens = λ s w e. sym (unsent_open (x.book s w)) ∙ (links s w).opens e;
      covered = λ s w e r i. (links s w).covered e r (subst (λ l. Has r l) (sym (unsent_coverage (x.book s w))) i);
      sent = λ s w r i. elim ((links s w).sent r i) [ inl j ↦ absurd (no_rank r (subst (λ l. Has r l) (unsent_none (x.book s w)) j)) | inr f ↦ inr f ];
      closing = λ s w e f c a i t. (links s w).closing (unsent_open (x.book s w) ∙ e) f c i t;
      took_up = λ m' s' w' set i. absurd (let eq : Up s' w' set ≡ Down = ap (λ v. v.1) (only i) in cc);
      took_done = λ m' s' w' i. absurd (let eq : Done s' w' ≡ Down = ap (λ v. v.1) (only i) in cc);
      took_attach = λ m' i. absurd (let eq : Attach ≡ Down = ap (λ v. v.1) (only i) in cc);
      answered = λ m' s' w' i. absurd (let eq : Attach ≡ Down = ap (λ v. v.1) (only i) in cc);
    }
  where
    only : {v : ℕ × Packet} → In v ((m, Down) ∷ []) → v ≡ (m, Down)
    only = elim [ inl e ↦ e | inr i ↦ absurd i ]

top_kin : (p : Plan) (n : ℕ) (kin : Kin) → HasPlanFacts p → kin.parent ≡ nearest (ancestors p n) kin.lost → FrontIsTop p n kin
unfolding is_front
top_kin p n kin plan e t =
    let en : n ≡ front p = eqb-true n (front p) t in
    e ∙ ap (λ l. nearest l kin.lost) (ap (ancestors p) en ∙ plan.front_top)

pub front_top_of : (p : Plan) (alive : ℕ → Bool) (n : ℕ) (kin : Kin) → HasPlanFacts p → KinIsSound p alive n kin → FrontIsTop p n kin
front_top_of p alive n kin plan h = top_kin p n kin plan h.parent

pub down_links : (p : Plan) (alive : ℕ → Bool) (n : ℕ) (x : Node) (m : ℕ) → HasPlanFacts p → KinIsSound p alive n x.kin → alive m ≡ false → OutcomeLinks p alive n x ((m, Down) ∷ []) (received_down p n x m)
unfolding received_down
down_links p alive n x m plan hk dead =
    cond_both (is_parent x.kin.parent m) _ _ (OutcomeLinks p alive n x ((m, Down) ∷ []))
    (λ e. parent_links p alive n x m (top_kin p n (with_parent p n x.kin m) plan refl))
    (λ e. child_links p alive n x m dead (front_top_of p alive n x.kin plan hk))

pub received_links : (p : Plan) (alive : ℕ → Bool) (n : ℕ) (x : Node) (m : ℕ) (q : Packet) → HasPlanFacts p → KinIsSound p alive n x.kin → PacketIsSound p alive m n q → OutcomeLinks p alive n x ((m, q) ∷ []) (received p n x m q)
received_links p alive n x m (Up s w set) plan hk hq = up_links p alive n x m s w set (front_top_of p alive n x.kin plan hk)
received_links p alive n x m (Done s w) plan hk hq = done_links p alive n x m s w
received_links p alive n x m Attach plan hk hq = attach_links p alive n x m plan hq.0
received_links p alive n x m Down plan hk hq = down_links p alive n x m plan hk (hq.1 refl)

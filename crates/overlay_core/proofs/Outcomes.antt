-- What each event of a node leaves, of a sound node.
use Rattle.rank_set.specs.Ranks.{Ranks, union, Has, IsSubset}
use Rattle.std.proofs.Common.{◌≡◌, inl, inr, ℕ, Bool, true, false, cond, ◌&&◌, ◌==◌, List, [], ◌∷◌, filter, find, refl, sym, ap, subst, ◌∙◌, eqb-true, Option, Some, None}
use Rattle.std.proofs.lemmas.Bool.{cond_both, cond-true, cond-false, and_parts}
use Rattle.overlay_setup.specs.NodeSets.{In}
use Rattle.stat_plan.specs.Plans.{Plan, IsUnder, ancestors, serves, daemons, ranks, waves_at, waves_of, AreRelated}
use Rattle.overlay_core.specs.Nodes.{Packet, Up, Done, Attach, Down, Node, Outcome, begin, done_work, sampled, after_tick, received_up, received_done, received_attach, received_down, received}
use Rattle.stat_plan.specs.Machine.Kin.{Kin, after_loss, is_parent, without_child, with_parent}
use Rattle.stat_plan.specs.Machine.Waves.{Wave, Open, Closed, Book, covering, growing, ticked, unsent, is_closed, is_fired, is_empty_open}
use Rattle.stat_plan.proofs.LossInvariant.{after_loss_sound}
use Rattle.stat_plan.proofs.KinLemmas.{in_with_number, nearest_in}
use Rattle.overlay_core.specs.Machine.{next_sample, is_wave}
use Rattle.stat_plan.proofs.PlanFacts.{HasPlanFacts}
use Rattle.overlay_core.specs.LinkInvariant.{Fits, ComesWhole, WaveIsSound, BookIsSound, IsUnion}
use Rattle.stat_plan.specs.Machine.LossInvariant.{KinIsSound}
use Rattle.overlay_core.proofs.Acts.{PacketIsSound, SendIsSound, IsSubsetOf, each_wave_set, KinFits, WorkIsSound, act_sound, act_each_sound, dones_sound, attach_up}
use Rattle.stat_plan.proofs.InLists.{in_map_filter, in_from_filter}
use Rattle.overlay_core.proofs.RankSets.{in_union, union_left, union_right, no_rank, empty_true}
use Rattle.stat_plan.proofs.Ascending.{with_number_increases}

pub kin_fits : (p : Plan) (alive : ℕ → Bool) (n : ℕ) (kin : Kin) → KinIsSound p alive n kin → KinFits p n kin
kin_fits p alive n kin h = record {
  parent = λ m e. nearest_in (ancestors p n) kin.lost m (sym h.parent ∙ e);
  children = h.children;
}

-- what an outcome is, whatever the node was
pub record OutcomeIsSound (p : Plan) (alive : ℕ → Bool) (n : ℕ) (o : Outcome) : Type 0 where
  pub kin : KinIsSound p alive n o.kin
  pub work : WorkIsSound p n o.work

pub begin_sound : (p : Plan) (n : ℕ) (book : Book) → BookIsSound p n book → WorkIsSound p n (begin book)
begin_sound p n book h = record { book = h; sends = λ m q i. absurd i }

pub find_passes : {X : Type 0} (test : X → Bool) (xs : List X) (v : X) → find test xs ≡ Some v → test v ≡ true
find_passes test [] v e = absurd (cc)
find_passes {X} test (x ∷ xs) v e = go (find_passes test xs v) (test x) refl e
  where
    go : (find test xs ≡ Some v → test v ≡ true) → (b : Bool) → test x ≡ b → cond b (Some x) (find test xs) ≡ Some v → test v ≡ true
    go ih true eb k = let ex : x ≡ v = cc in subst (λ z. test z ≡ true) ex eb
    go ih false eb k = ih k

find_in : {X : Type 0} (test : X → Bool) (xs : List X) (v : X) → find test xs ≡ Some v → In v xs
find_in test [] v e = absurd (cc)
find_in {X} test (x ∷ xs) v e = go (find_in test xs v) (test x) e
  where
    go : (find test xs ≡ Some v → In v xs) → (b : Bool) → cond b (Some x) (find test xs) ≡ Some v → In v (x ∷ xs)
    go ih true k = inl (cc)
    go ih false k = inr (ih k)

-- it is a wave of the plan
pub next_is_named : (p : Plan) (x : Node) (s w : ℕ) → is_wave (next_sample p x s) w ≡ true → In (s, w) (waves_of p.streams)
next_is_named p x s w e = go (next_sample p x s) refl e
  where
    go : (o : Option (ℕ × ℕ)) → next_sample p x s ≡ o → is_wave o w ≡ true → In (s, w) (waves_of p.streams)
    go None eo k = absurd (cc)
    go (Some v) eo k =
        let t = and_parts (v.0 == s) (is_empty_open (x.book v.0 v.1)) (find_passes (λ v. (v.0 == s) && is_empty_open (x.book v.0 v.1)) (waves_of p.streams) v eo) in
        let es : v.0 ≡ s = eqb-true v.0 s t.0 in
        let ew : v.1 ≡ w = eqb-true v.1 w k in
        subst (λ a. In (a, w) (waves_of p.streams)) es (subst (λ a. In (v.0, a) (waves_of p.streams)) ew (find_in (λ v. (v.0 == s) && is_empty_open (x.book v.0 v.1)) (waves_of p.streams) v eo))

pub waves_at_named : (p : Plan) (n : ℕ) → IsSubsetOf (waves_at p n) (waves_of p.streams)
unfolding waves_at
waves_at_named p n v i = (in_from_filter (λ v. serves p n v.0) v (waves_of p.streams) i).0

-- the wave that is sampled next is open with an empty coverage
pub next_is_empty : (p : Plan) (x : Node) (s w : ℕ) → is_wave (next_sample p x s) w ≡ true → is_empty_open (x.book s w) ≡ true
next_is_empty p x s w e = go (next_sample p x s) refl e
  where
    go : (o : Option (ℕ × ℕ)) → next_sample p x s ≡ o → is_wave o w ≡ true → is_empty_open (x.book s w) ≡ true
    go None eo k = absurd (cc)
    go (Some v) eo k =
        let t = and_parts (v.0 == s) (is_empty_open (x.book v.0 v.1)) (find_passes (λ v. (v.0 == s) && is_empty_open (x.book v.0 v.1)) (waves_of p.streams) v eo) in
        let es : v.0 ≡ s = eqb-true v.0 s t.0 in
        let ew : v.1 ≡ w = eqb-true v.1 w k in
        subst (λ a. is_empty_open (x.book a w) ≡ true) es (subst (λ a. is_empty_open (x.book v.0 a) ≡ true) ew t.1)

own_ranks : (p : Plan) (n s : ℕ) → In n (daemons p s) → IsUnion p s n (ranks p n)
own_ranks p n s h r i = record { daemon = n; place = record { listed = h; within = inl refl }; holds = i; all = λ x j. j }

pub covering_sound : (p : Plan) (n s : ℕ) (v : Wave) → HasPlanFacts p → In n (daemons p s) → is_empty_open v ≡ true → WaveIsSound p n s v → WaveIsSound p n s (covering (ranks p n) v)
covering_sound p n s (Open covered sent timer) plan h e hv = record { within = λ x i. absurd (no_rank x (subst (Has x) (empty_true covered e) (hv.within x i))); whole = own_ranks p n s h }
covering_sound p n s Closed plan h e hv = tt

-- a sample
pub sampled_sound : (p : Plan) (alive : ℕ → Bool) (n : ℕ) (x : Node) (s w : ℕ) → HasPlanFacts p → KinIsSound p alive n x.kin → BookIsSound p n x.book → In n (daemons p s) → In (s, w) (waves_of p.streams) → is_empty_open (x.book s w) ≡ true → OutcomeIsSound p alive n (sampled p n x s w)
unfolding sampled
sampled_sound p alive n x s w plan hk hb hd named he =
    record {
      kin = hk;
      work = act_sound p n x.kin s w _ named (kin_fits p alive n x.kin hk) (begin_sound p n _ (each_wave_set (λ a b v. WaveIsSound p n a v) x.book s w _ hb (covering_sound p n s (x.book s w) plan hd he (hb s w))));
    }

pub ticked_sound : (p : Plan) (n s : ℕ) (v : Wave) → WaveIsSound p n s v → WaveIsSound p n s (ticked v)
ticked_sound p n s (Open covered sent timer) h = h
ticked_sound p n s Closed h = h

-- a tick
pub tick_sound : (p : Plan) (alive : ℕ → Bool) (n : ℕ) (x : Node) → KinIsSound p alive n x.kin → BookIsSound p n x.book → OutcomeIsSound p alive n (after_tick p n x)
unfolding after_tick
tick_sound p alive n x hk hb =
    record { kin = hk; work = act_each_sound p n x.kin (filter (λ v. is_fired (ticked (x.book v.0 v.1))) (waves_at p n)) _ (λ v i. waves_at_named p n v (in_from_filter (λ v. is_fired (ticked (x.book v.0 v.1))) v (waves_at p n) i).0) (kin_fits p alive n x.kin hk) (begin_sound p n _ (λ s w. ticked_sound p n s (x.book s w) (hb s w))) }

whole_within : (p : Plan) (s n : ℕ) (xs ys : Ranks) (r : ℕ) → IsSubset xs ys → ComesWhole p s n xs r → ComesWhole p s n ys r
whole_within p s n xs ys r sub c = record { daemon = c.daemon; place = c.place; holds = c.holds; all = λ x i. sub x (c.all x i) }

whole_above : (p : Plan) (s m n : ℕ) (xs : Ranks) (r : ℕ) → HasPlanFacts p → IsUnder p m n → ComesWhole p s m xs r → ComesWhole p s n xs r
whole_above p s m n xs r plan h c = record {
  daemon = c.daemon;
  place = record {
    listed = c.place.listed;
    within = elim c.place.within [ inl e ↦ inr (subst (λ a. IsUnder p a n) (sym e) h) | inr u ↦ inr (plan.under_trans c.daemon m n u h) ];
  };
  holds = c.holds;
  all = c.all;
}

pub growing_sound : (p : Plan) (m n s : ℕ) (set : Ranks) (v : Wave) → HasPlanFacts p → IsUnder p m n → IsUnion p s m set → WaveIsSound p n s v → WaveIsSound p n s (growing set v)
growing_sound p m n s set (Open covered sent timer) plan u hs hv = record {
  within = λ x i. union_left x covered set (hv.within x i);
  whole = λ r i. elim (in_union r covered set i) [
    | inl j ↦ whole_within p s n covered (union covered set) r (λ x. union_left x covered set) (hv.whole r j)
    | inr j ↦ whole_within p s n set (union covered set) r (λ x. union_right x covered set) (whole_above p s m n set r plan u (hs r j))
  ];
}
growing_sound p m n s set Closed plan u hs hv = tt

-- ranks that come up
pub up_sound : (p : Plan) (alive : ℕ → Bool) (n : ℕ) (x : Node) (m s w : ℕ) (set : Ranks) → HasPlanFacts p → KinIsSound p alive n x.kin → BookIsSound p n x.book → Fits p m n (Up s w set) → OutcomeIsSound p alive n (received_up p n x s w set)
unfolding received_up
up_sound p alive n x m s w set plan hk hb hq =
    record {
      kin = hk;
      work = act_sound p n x.kin s w _ hq.3 (kin_fits p alive n x.kin hk) (begin_sound p n _ (each_wave_set (λ a b v. WaveIsSound p n a v) x.book s w _ hb (growing_sound p m n s set (x.book s w) plan hq.0 hq.1 (hb s w))));
    }

done_work_sound : (p : Plan) (n : ℕ) (kin : Kin) (s w : ℕ) (book : Book) (v : Wave) → In (s, w) (waves_of p.streams) → KinFits p n kin → BookIsSound p n book → WorkIsSound p n (done_work p kin s w book v)
done_work_sound p n kin s w book (Open covered sent timer) named fits hb = record { book = each_wave_set (λ a b v. WaveIsSound p n a v) book s w _ hb tt; sends = dones_sound p n s w kin fits named }
done_work_sound p n kin s w book Closed named fits hb = begin_sound p n book hb

-- the word that a wave has ended
pub done_sound : (p : Plan) (alive : ℕ → Bool) (n : ℕ) (x : Node) (s w : ℕ) → In (s, w) (waves_of p.streams) → KinIsSound p alive n x.kin → BookIsSound p n x.book → OutcomeIsSound p alive n (received_done p n x s w)
unfolding received_done
done_sound p alive n x s w named hk hb = record { kin = hk; work = done_work_sound p n x.kin s w x.book (x.book s w) named (kin_fits p alive n x.kin hk) hb }

-- a new child
pub attach_sound : (p : Plan) (alive : ℕ → Bool) (n : ℕ) (x : Node) (m : ℕ) → KinIsSound p alive n x.kin → BookIsSound p n x.book → IsUnder p m n → OutcomeIsSound p alive n (received_attach p n x m)
unfolding received_attach
attach_sound p alive n x m hk hb u = record {
  kin = record {
    lost = hk.lost;
    related = hk.related;
    parent = hk.parent;
    children = λ c i. elim (in_with_number c m x.kin.children i) [ inl e ↦ subst (λ a. IsUnder p a n) (sym e) u | inr j ↦ hk.children c j ];
    children_increase = with_number_increases m x.kin.children hk.children_increase;
  };
  work = record {
    book = hb;
    sends = λ b q i.
        let r = in_map_filter (λ v. (m, Done v.0 v.1)) (λ v. is_closed (x.book v.0 v.1) && serves p m v.0) (waves_at p n) (b, q) i in
        let eb : b ≡ m = ap (λ v. v.0) r.3 in
        let eq : q ≡ Done (r.0).0 (r.0).1 = ap (λ v. v.1) r.3 in
        subst (λ y. SendIsSound p n b y) (sym eq) (subst (λ y. IsUnder p y n × (serves p y (r.0).0 ≡ true) × In ((r.0).0, (r.0).1) (waves_of p.streams)) (sym eb) (u, (and_parts _ _ r.2).1, waves_at_named p n r.0 r.1), λ d. (cc));
  };
}

pub unsent_sound : (p : Plan) (n s : ℕ) (v : Wave) → WaveIsSound p n s v → WaveIsSound p n s (unsent v)
unsent_sound p n s (Open covered sent timer) h = record { within = λ x i. absurd (no_rank x i); whole = h.whole }
unsent_sound p n s Closed h = h

-- the notice of a loss
pub down_sound : (p : Plan) (alive : ℕ → Bool) (n : ℕ) (x : Node) (m : ℕ) → KinIsSound p alive n x.kin → BookIsSound p n x.book → alive m ≡ false → AreRelated p n m → OutcomeIsSound p alive n (received_down p n x m)
unfolding received_down
down_sound p alive n x m hk hb dead rel =
    cond_both (is_parent x.kin.parent m) _ _ (OutcomeIsSound p alive n)
    (λ e.
    let hk' : KinIsSound p alive n (with_parent p n x.kin m) = subst (KinIsSound p alive n) (cond-true (is_parent x.kin.parent m) (with_parent p n x.kin m) (without_child x.kin m) e) after in
    let fits = kin_fits p alive n (with_parent p n x.kin m) hk' in
    record {
      kin = hk';
      work = act_each_sound p n (with_parent p n x.kin m) (waves_at p n) _ (waves_at_named p n) fits (record {
        book = λ s w. unsent_sound p n s (x.book s w) (hb s w);
        sends = attach_up p n (with_parent p n x.kin m) fits;
      });
    })
    (λ e.
    let hk' : KinIsSound p alive n (without_child x.kin m) = subst (KinIsSound p alive n) (cond-false (is_parent x.kin.parent m) (with_parent p n x.kin m) (without_child x.kin m) e) after in
    record {
      kin = hk';
      work = act_each_sound p n (without_child x.kin m) (waves_at p n) _ (waves_at_named p n) (kin_fits p alive n (without_child x.kin m) hk') (begin_sound p n x.book hb);
    })
  where
    after : KinIsSound p alive n (after_loss p n x.kin m)
    after = after_loss_sound p alive n x.kin m hk dead rel

pub received_sound : (p : Plan) (alive : ℕ → Bool) (n : ℕ) (x : Node) (m : ℕ) (q : Packet) → HasPlanFacts p → KinIsSound p alive n x.kin → BookIsSound p n x.book → PacketIsSound p alive m n q → OutcomeIsSound p alive n (received p n x m q)
received_sound p alive n x m (Up s w set) plan hk hb hq = up_sound p alive n x m s w set plan hk hb hq.0
received_sound p alive n x m (Done s w) plan hk hb hq = done_sound p alive n x s w hq.0.2 hk hb
received_sound p alive n x m Attach plan hk hb hq = attach_sound p alive n x m hk hb hq.0
received_sound p alive n x m Down plan hk hb hq = down_sound p alive n x m hk hb (hq.1 refl) hq.0

-- An act on a wave is what the machine says.
use Rattle.std.proofs.Common.{◌≡◌, ◌⊎◌, ℕ, suc, inl, inr, false, List, [], ◌∷◌, ◌++◌, Some, None, refl, sym, ap, subst, ◌∙◌}
use Rattle.std.specs.List.{AllByRecursion}
use Rattle.std.proofs.lemmas.List.{map-append}
use Rattle.rank_set.specs.Ranks.{Ranks}
use Rattle.prefix_tree.specs.Tree.{Tree}
use Rattle.stat_plan.specs.Invariants.{IsPlan}
use Rattle.stat_plan.specs.Plans.{Plan, mode}
use Rattle.stat_plan.specs.Machine.Kin.{Kin}
use Rattle.stat_plan.specs.Machine.Waves.{Wave, Open, Closed, Book, set_wave, is_closed, ticks}
use Rattle.stat_plan.specs.declared.machine.Timer.{Timer}
use Rattle.stat_plan.specs.declared.machine.Timer.TheVariants.{Off, Running}
use Rattle.stat_plan.specs.declared.machine.Act.{Act}
use Rattle.stat_plan.specs.declared.machine.Act.TheVariants.{Hold, Arm, Send, Partial, Final}
use Rattle.wave_resend.specs.Books.{HasSet, WaveAt, all_sent, armed, book_of}
use Rattle.merge_filter.specs.Contributions.{Contrib, IsPartialMerge, contrib, coverage_of}
use Rattle.overlay_core.specs.declared.release.Kind.{Kind}
use Rattle.overlay_core.specs.declared.release.Kind.TheVariants.{Partial as PartialRelease, Final as FinalRelease}
use Rattle.overlay_core.specs.Nodes.{Up, Effects, act, act_as, acted, dones, release}
use Rattle.stat_plan.specs.Machine.Overlays.{to_parent}
use Rattle.stat_plan.proofs.Elements.{all_append}
use Rattle.overlay_core.specs.TreeReleases.{TreeRelease, bare_release, bare_releases}
use Rattle.overlay_core.proofs.ParentLinks.{set_wave_here}
use Rattle.overlay_core.proofs.Settled.{set_wave_else}
use Rattle.overlay_node.specs.Outputs.{AreFrames, Output, OutputFits, ReleaseFits, Sends, packets_of}
use Rattle.overlay_node.specs.NodeViews.{HeldFits, HeldView, OpenFits}
use Rattle.overlay_node.specs.Acting.{GivesNothing, GivesNext, StepsWave, due_as, effects_of, end, end_as, release_with}
use Rattle.overlay_node.proofs.Fitting.{IsDue, arm_fits, arm_some, due_open, given_fits, open_fits, partial_new, sent_fits, some_is}

-- the machine's effects, with this book and this output so far
abbrev pub effects_with : Book → Output → Effects
effects_with b o = record { book = b; sends = packets_of o.sends; releases = bare_releases o.releases }

module _ (p : Plan) (n : ℕ) where
  -- nothing happens
  pub steps_idle : (does : Effects → Effects) (h : HeldView) (b : List WaveAt) (o : Output) → HeldFits p n h (book_of b h.stream h.wave) → effects_of b o ≡ does (effects_of b o) → StepsWave p n does h h b b o o
  steps_idle does h b o f is = record {
    stream = refl;
    wave = refl;
    keys = refl;
    others = λ x y e. refl;
    fits = f;
    output = λ x. x;
    gives = inl (record { release_count = refl; releases = refl });
    work = is;
  }

  -- the book's wave is set
  pub steps_set : (does : Effects → Effects) (h g : HeldView) (b c : List WaveAt) (o q : Output) (v : Wave) → g.stream ≡ h.stream → g.wave ≡ h.wave → HasSet h.stream h.wave v b c → HeldFits p n g v
      → (OutputFits p o → OutputFits p q) → GivesNothing h g o.releases q.releases ⊎ GivesNext h g o.releases q.releases
      → effects_with (set_wave (book_of b) h.stream h.wave v) q ≡ does (effects_of b o) → StepsWave p n does h g b c o q
  steps_set does h g b c o q v es ew has f output gives is = record {
    stream = es;
    wave = ew;
    keys = has.keys;
    others = λ x y e. ap (λ (k : Book). k x y) has.book ∙ set_wave_else (book_of b) h.stream h.wave v x y e;
    fits = subst (HeldFits p n g) (sym (ap (λ (k : Book). k h.stream h.wave) has.book ∙ set_wave_here (book_of b) h.stream h.wave v)) f;
    output = output;
    gives = gives;
    work = (λ i. effects_with (has.book i) q) ∙ is;
  }

  -- ---- acts

  module _ (kin : Kin) where
    -- the machine's act on a wave for which this is due
    act_is : (s w : ℕ) (a : Act) (k : Effects) → (d : IsDue p n kin.lost s (k.book s w) a) → acted p kin s w d.covered d.sent d.timer k a ≡ act p n kin s w k
    act_is s w a k d = ap (acted p kin s w d.covered d.sent d.timer k) (sym d.due) ∙ ap (act_as p n kin s w k) (sym d.is)

    act_holds : (s w : ℕ) (k : Effects) (v : Wave) → due_as p n kin.lost s v ≡ Hold → act_as p n kin s w k v ≡ k
    unfolding acted
    act_holds s w k Closed e = refl
    act_holds s w k (Open covered sent timer) e = ap (acted p kin s w covered sent timer k) e

    pub hold_steps : (h : HeldView) (b : List WaveAt) (o : Output) → due_as p n kin.lost h.stream (book_of b h.stream h.wave) ≡ Hold → HeldFits p n h (book_of b h.stream h.wave) → StepsWave p n (act p n kin h.stream h.wave) h h b b o o
    hold_steps h b o e f = steps_idle (act p n kin h.stream h.wave) h b o f (sym (act_holds h.stream h.wave (effects_of b o) (book_of b h.stream h.wave) e))

    -- the timer starts
    arm_work : (s w : ℕ) (covered sent : Ranks) (timer : Timer) (b : Book) (o : Output) → effects_with (set_wave b s w (Open covered sent (Running (ticks (mode p s))))) o ≡ acted p kin s w covered sent timer (effects_with b o) Arm
    unfolding acted
    arm_work s w covered sent timer b o = refl

    pub arm_steps : (h : HeldView) (b c : List WaveAt) (o : Output) (t : ℕ) → IsPlan p → t ≡ ticks (mode p h.stream) → due_as p n kin.lost h.stream (book_of b h.stream h.wave) ≡ Arm → HeldFits p n h (book_of b h.stream h.wave)
        → HasSet h.stream h.wave (armed t (book_of b h.stream h.wave)) b c → StepsWave p n (act p n kin h.stream h.wave) h h b c o o
    arm_steps h b c o t plan et e f has =
        let d = due_open p n kin.lost h.stream (book_of b h.stream h.wave) Arm e (λ k. absurd (cc)) in
        let v : Wave = Open d.covered d.sent (Running (ticks (mode p h.stream))) in
        let is : armed t (book_of b h.stream h.wave) ≡ v = (λ i. armed (et i) (d.is i)) in
        steps_set (act p n kin h.stream h.wave) h h b c o o v refl refl (subst (λ x. HasSet h.stream h.wave x b c) is has)
        (arm_fits p n h d.covered d.sent d.timer (arm_some p n kin.lost h.stream d.covered d.sent d.timer plan d.due) (open_fits p n h _ d.covered d.sent d.timer d.is f))
        (λ x. x) (inl (record { release_count = refl; releases = refl }))
        (arm_work h.stream h.wave d.covered d.sent d.timer (book_of b) o ∙ act_is h.stream h.wave Arm (effects_of b o) d)

    -- what has come in goes up
    send_work : (s w : ℕ) (covered sent : Ranks) (timer : Timer) (b : Book) (o q : Output) → packets_of q.sends ≡ packets_of o.sends ++ to_parent kin.parent (Up s w covered) → q.releases ≡ o.releases
        → effects_with (set_wave b s w (Open covered covered Off)) q ≡ acted p kin s w covered sent timer (effects_with b o) Send
    unfolding acted
    send_work s w covered sent timer b o q es er = λ i. record { book = set_wave b s w (Open covered covered Off); sends = es i; releases = bare_releases (er i) }

    pub send_steps : (h : HeldView) (b c : List WaveAt) (o q : Output) (part : Contrib) → h.part ≡ Some part → due_as p n kin.lost h.stream (book_of b h.stream h.wave) ≡ Send → HeldFits p n h (book_of b h.stream h.wave)
        → Sends p (to_parent kin.parent (Up part.stream part.wave (coverage_of part))) o.sends q.sends → q.releases ≡ o.releases
        → HasSet h.stream h.wave (all_sent (book_of b h.stream h.wave)) b c → StepsWave p n (act p n kin h.stream h.wave) h h b c o q
    send_steps h b c o q part ep e f sends er has =
        let d = due_open p n kin.lost h.stream (book_of b h.stream h.wave) Send e (λ k. absurd (cc)) in
        let fits : OpenFits p n h d.covered d.sent d.timer = open_fits p n h _ d.covered d.sent d.timer d.is f in
        let same : part ≡ fits.part = some_is part fits.part (sym ep ∙ fits.is) in
        let packet : Up part.stream part.wave (coverage_of part) ≡ Up h.stream h.wave d.covered =
        (λ i. Up (same i).stream (same i).wave (coverage_of (same i))) ∙ (λ i. Up (fits.stream i) (fits.wave i) (fits.covers i)) in
        steps_set (act p n kin h.stream h.wave) h h b c o q (Open d.covered d.covered Off) refl refl (subst (λ x. HasSet h.stream h.wave x b c) (ap all_sent d.is) has)
        (sent_fits p n h d.covered d.sent d.timer fits)
        (λ x. record { frames = sends.frames x.frames; trees = subst (AllByRecursion (ReleaseFits p)) (sym er) x.trees }) (inl (record { release_count = refl; releases = er }))
        (send_work h.stream h.wave d.covered d.sent d.timer (book_of b) o q (sends.packets ∙ ap (λ x. packets_of o.sends ++ to_parent kin.parent x) packet) er ∙ act_is h.stream h.wave Send (effects_of b o) d)

    -- what has come in is released
    released : (h : HeldView) (covered : Ranks) (t : Tree) (kind : Kind) (rs qs : List TreeRelease) → t.coverage ≡ covered → qs ≡ rs ++ release_with h kind t kin.lost ∷ [] → bare_releases qs ≡ bare_releases rs ++ release h.stream h.wave covered kind kin.lost ∷ []
    released h covered t kind rs qs et is = ap bare_releases is ∙ map-append bare_release rs (release_with h kind t kin.lost ∷ []) ∙ (λ i. bare_releases rs ++ release h.stream h.wave (et i) kind kin.lost ∷ [])

    partial_work : (h : HeldView) (covered sent : Ranks) (timer : Timer) (b : Book) (o q : Output) → q.sends ≡ o.sends → bare_releases q.releases ≡ bare_releases o.releases ++ release h.stream h.wave covered PartialRelease kin.lost ∷ []
        → effects_with (set_wave b h.stream h.wave (Open covered covered Off)) q ≡ acted p kin h.stream h.wave covered sent timer (effects_with b o) Partial
    unfolding acted
    partial_work h covered sent timer b o q es er = λ i. record { book = set_wave b h.stream h.wave (Open covered covered Off); sends = packets_of (es i); releases = er i }

    release_fits : (h : HeldView) (part : Contrib) (t : Tree) (kind : Kind) → IsPartialMerge p part → part.stream ≡ h.stream → part.wave ≡ h.wave → t ≡ part.tree → ReleaseFits p (release_with h kind t kin.lost)
    release_fits h part t kind merge es ew et = subst (IsPartialMerge p) (λ i. contrib (es i) (ew i) (sym et i)) merge

    pub partial_steps : (h g : HeldView) (b c : List WaveAt) (o q : Output) (part : Contrib) (t : Tree) → h.part ≡ Some part → t ≡ part.tree → due_as p n kin.lost h.stream (book_of b h.stream h.wave) ≡ Partial → HeldFits p n h (book_of b h.stream h.wave)
        → g.stream ≡ h.stream → g.wave ≡ h.wave → g.part ≡ h.part → g.release_count ≡ suc h.release_count
        → q.sends ≡ o.sends → q.releases ≡ o.releases ++ release_with h PartialRelease t kin.lost ∷ []
        → HasSet h.stream h.wave (all_sent (book_of b h.stream h.wave)) b c → StepsWave p n (act p n kin h.stream h.wave) h g b c o q
    partial_steps h g b c o q part t ep et e f gs gw gp gc es er has =
        let d = due_open p n kin.lost h.stream (book_of b h.stream h.wave) Partial e (λ k. absurd (cc)) in
        let fits : OpenFits p n h d.covered d.sent d.timer = open_fits p n h _ d.covered d.sent d.timer d.is f in
        let same : part ≡ fits.part = some_is part fits.part (sym ep ∙ fits.is) in
        let new = partial_new p n kin.lost h.stream d.covered d.sent d.timer d.due in
        let covers : t.coverage ≡ d.covered = ap (λ (x : Tree). x.coverage) et ∙ ap coverage_of same ∙ fits.covers in
        steps_set (act p n kin h.stream h.wave) h g b c o q (Open d.covered d.covered Off) gs gw (subst (λ x. HasSet h.stream h.wave x b c) (ap all_sent d.is) has)
        (given_fits p n h g d.covered d.sent d.timer gp gs gw gc new.0 new.1 fits)
        (λ x. record {
          frames = subst (AreFrames p) (sym es) x.frames;
          trees = subst (AllByRecursion (ReleaseFits p)) (sym er) (all_append (ReleaseFits p) o.releases (release_with h PartialRelease t kin.lost ∷ []) x.trees
              (release_fits h fits.part t PartialRelease fits.merge fits.stream fits.wave (et ∙ ap (λ (x : Contrib). x.tree) same), tt));
        })
        (inr (record { next = release_with h PartialRelease t kin.lost; stream = refl; wave = refl; number = refl; release_count = gc; releases = er }))
        (partial_work h d.covered d.sent d.timer (book_of b) o q es (released h d.covered t PartialRelease o.releases q.releases covers er) ∙ act_is h.stream h.wave Partial (effects_of b o) d)

    -- what has come in is released, and the wave ends
    final_work : (h : HeldView) (covered sent : Ranks) (timer : Timer) (b : Book) (o q : Output) → packets_of q.sends ≡ packets_of o.sends ++ dones p kin h.stream h.wave → bare_releases q.releases ≡ bare_releases o.releases ++ release h.stream h.wave covered FinalRelease kin.lost ∷ []
        → effects_with (set_wave b h.stream h.wave Closed) q ≡ acted p kin h.stream h.wave covered sent timer (effects_with b o) Final
    unfolding acted
    final_work h covered sent timer b o q es er = λ i. record { book = set_wave b h.stream h.wave Closed; sends = es i; releases = er i }

    pub final_steps : (h g : HeldView) (b c : List WaveAt) (o q : Output) (part : Contrib) (t : Tree) → h.part ≡ Some part → t ≡ part.tree → due_as p n kin.lost h.stream (book_of b h.stream h.wave) ≡ Final → HeldFits p n h (book_of b h.stream h.wave)
        → g.stream ≡ h.stream → g.wave ≡ h.wave → g.part ≡ None → g.release_count ≡ suc h.release_count
        → Sends p (dones p kin h.stream h.wave) o.sends q.sends → q.releases ≡ o.releases ++ release_with h FinalRelease t kin.lost ∷ []
        → HasSet h.stream h.wave Closed b c → StepsWave p n (act p n kin h.stream h.wave) h g b c o q
    final_steps h g b c o q part t ep et e f gs gw gp gc sends er has =
        let d = due_open p n kin.lost h.stream (book_of b h.stream h.wave) Final e (λ k. absurd (cc)) in
        let fits : OpenFits p n h d.covered d.sent d.timer = open_fits p n h _ d.covered d.sent d.timer d.is f in
        let same : part ≡ fits.part = some_is part fits.part (sym ep ∙ fits.is) in
        let covers : t.coverage ≡ d.covered = ap (λ (x : Tree). x.coverage) et ∙ ap coverage_of same ∙ fits.covers in
        steps_set (act p n kin h.stream h.wave) h g b c o q Closed gs gw has gp
        (λ x. record {
          frames = sends.frames x.frames;
          trees = subst (AllByRecursion (ReleaseFits p)) (sym er) (all_append (ReleaseFits p) o.releases (release_with h FinalRelease t kin.lost ∷ []) x.trees
              (release_fits h fits.part t FinalRelease fits.merge fits.stream fits.wave (et ∙ ap (λ (x : Contrib). x.tree) same), tt));
        })
        (inr (record { next = release_with h FinalRelease t kin.lost; stream = refl; wave = refl; number = refl; release_count = gc; releases = er }))
        (final_work h d.covered d.sent d.timer (book_of b) o q sends.packets (released h d.covered t FinalRelease o.releases q.releases covers er) ∙ act_is h.stream h.wave Final (effects_of b o) d)

    -- ---- the end of a wave

    end_work : (s w : ℕ) (b : Book) (o q : Output) (v : Wave) → is_closed v ≡ false → packets_of q.sends ≡ packets_of o.sends ++ dones p kin s w → q.releases ≡ o.releases
        → effects_with (set_wave b s w Closed) q ≡ end_as p kin s w (effects_with b o) v
    end_work s w b o q Closed e es er = absurd (cc)
    end_work s w b o q (Open covered sent timer) e es er = λ i. record { book = set_wave b s w Closed; sends = es i; releases = bare_releases (er i) }

    pub end_steps : (h g : HeldView) (b c : List WaveAt) (o q : Output) → is_closed (book_of b h.stream h.wave) ≡ false → g.stream ≡ h.stream → g.wave ≡ h.wave → g.part ≡ None → g.release_count ≡ h.release_count
        → Sends p (dones p kin h.stream h.wave) o.sends q.sends → q.releases ≡ o.releases → HasSet h.stream h.wave Closed b c → StepsWave p n (end p kin h.stream h.wave) h g b c o q
    end_steps h g b c o q e gs gw gp gc sends er has =
        steps_set (end p kin h.stream h.wave) h g b c o q Closed gs gw has gp
        (λ x. record { frames = sends.frames x.frames; trees = subst (AllByRecursion (ReleaseFits p)) (sym er) x.trees }) (inl (record { release_count = gc; releases = er }))
        (end_work h.stream h.wave (book_of b) o q (book_of b h.stream h.wave) e sends.packets er)

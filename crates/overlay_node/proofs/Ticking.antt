-- The book as a whole changes: the timers go on, or nothing counts as sent any more.
use Rattle.std.proofs.Common.{◌≡◌, ℕ, true, false, ◌==◌, List, [], ◌∷◌, ◌++◌, length, None, refl, sym, ap, subst, ◌∙◌, eqb-true, inl, inr}
use Rattle.std.specs.List.{AllByRecursion}
use Rattle.std.proofs.lemmas.Bool.{cases_Bool, true≢false}
use Rattle.stat_plan.specs.Invariants.{IsPlan}
use Rattle.stat_plan.specs.Plans.{Plan, ancestors, front, is_front}
use Rattle.stat_plan.specs.Machine.Kin.{Kin, is_parent, nearest}
use Rattle.stat_plan.specs.Machine.Waves.{ticked, unsent}
use Rattle.loss_adoption.specs.NodeKins.{IsKinOf, NodeKin}
use Rattle.wave_resend.specs.Books.{AllChange, WaveAt, book_of, keys_of}
use Rattle.overlay_core.specs.Nodes.{Attach, Effects, act, act_each}
use Rattle.stat_plan.specs.Machine.Overlays.{to_parent}
use Rattle.overlay_core.specs.History.{of_wave}
use Rattle.overlay_core.specs.TreeReleases.{AreNumberedInOrder, bare_releases}
use Rattle.stat_plan.proofs.PlanFacts.{plan_facts}
use Rattle.overlay_node.specs.Outputs.{AreFrames, Output, ReleaseFits, Sends}
use Rattle.overlay_node.specs.NodeViews.{AreHeldFits, HeldView}
use Rattle.overlay_node.specs.Acting.{StepsHeld, adopt, begin_again, each_by, effects_of, tell, tick_all, told}
use Rattle.overlay_node.proofs.Fitting.{held_ticked, held_unsent}
use Rattle.overlay_node.proofs.Stepping.{all_changed}

pub each_is : (p : Plan) (n : ℕ) (kin : Kin) (vs : List (ℕ × ℕ)) (k : Effects) → each_by (act p n kin) vs k ≡ act_each p n kin vs k
each_is p n kin [] k = refl
each_is p n kin (v ∷ vs) k = each_is p n kin vs (act p n kin v.0 v.1 k)

-- the front end has no parent
pub not_front : (p : Plan) (v : NodeKin) (m : ℕ) → IsPlan p → IsKinOf p v → is_parent v.kin.parent m ≡ true → is_front p v.node ≡ false
unfolding is_front
not_front p v m plan kin e = elim (cases_Bool (v.node == front p)) [
  | inl t ↦
      let top : ancestors p v.node ≡ [] = ap (ancestors p) (eqb-true v.node (front p) t) ∙ (plan_facts p plan).front_top in
      let orphan : v.kin.parent ≡ None = kin.parent ∙ ap (λ above. nearest above v.kin.lost) top in
      absurd (true≢false (sym e ∙ ap (λ o. is_parent o m) orphan))
  | inr f ↦ f
]

module _ (p : Plan) (n : ℕ) where
  -- the timers go on by one
  pub steps_ticked : (hs : List HeldView) (b c : List WaveAt) (o : Output) → AllChange ticked b c → AreHeldFits p n (book_of b) hs → StepsHeld p n tick_all hs hs b c o o
  steps_ticked hs b c o change f = record {
    held_keys = refl;
    keys = change.keys;
    fits = all_changed p n ticked hs b c change (held_ticked p n) f;
    output = λ x. x;
    numbers = λ earlier counts k. k;
    counts = λ earlier counts. counts;
    work = (λ i. record { book = change.book i; sends = (effects_of b o).sends; releases = (effects_of b o).releases });
  }

  -- only frames are sent
  pub steps_sent : (does : Effects → Effects) (hs : List HeldView) (b c : List WaveAt) (o q : Output) → keys_of c ≡ keys_of b → AreHeldFits p n (book_of c) hs → (AreFrames p o.sends → AreFrames p q.sends) → q.releases ≡ o.releases
      → effects_of c q ≡ does (effects_of b o) → StepsHeld p n does hs hs b c o q
  steps_sent does hs b c o q keys f frames er work = record {
    held_keys = refl;
    keys = keys;
    fits = f;
    output = λ x. record { frames = frames x.frames; trees = subst (AllByRecursion (ReleaseFits p)) (sym er) x.trees };
    numbers = λ earlier counts k. subst (AreNumberedInOrder earlier) (sym er) k;
    counts = λ earlier counts x y there. counts x y there ∙ ap (λ l. length (of_wave x y (earlier ++ bare_releases l))) (sym er);
    work = work;
  }

  -- a new child is told which waves have ended
  pub told_steps : (m : ℕ) (vs : List (ℕ × ℕ)) (hs : List HeldView) (b : List WaveAt) (o q : Output) → AreHeldFits p n (book_of b) hs → Sends p (told p (book_of b) m vs) o.sends q.sends → q.releases ≡ o.releases → StepsHeld p n (tell p m vs) hs hs b b o q
  told_steps m vs hs b o q f sends er =
      steps_sent (tell p m vs) hs b b o q refl f sends.frames er (λ i. record { book = book_of b; sends = sends.packets i; releases = bare_releases (er i) })

-- where the parent was lost, the node begins again
pub adopted_steps : (p : Plan) (v : NodeKin) (m : ℕ) (kin : Kin) (hs : List HeldView) (b c : List WaveAt) (o q : Output) → IsPlan p → IsKinOf p v → is_parent v.kin.parent m ≡ true → AllChange unsent b c → AreHeldFits p v.node (book_of b) hs
    → Sends p (to_parent kin.parent Attach) o.sends q.sends → q.releases ≡ o.releases → StepsHeld p v.node (adopt (is_parent v.kin.parent m) kin) hs hs b c o q
adopted_steps p v m kin hs b c o q plan fits lost change f sends er =
    let low = not_front p v m plan fits lost in
    subst (λ t. StepsHeld p v.node (adopt t kin) hs hs b c o q) (sym lost)
    (steps_sent p v.node (begin_again kin) hs b c o q change.keys (all_changed p v.node unsent hs b c change (λ h w. held_unsent p v.node h w low) f) sends.frames er
    (λ i. record { book = change.book i; sends = sends.packets i; releases = bare_releases (er i) }))

-- The work on a claim.
use Rattle.std.proofs.Common.{◌≡◌, ◌≢◌, ◌∙◌, ◌+◌, ℕ, suc, Bool, true, false, ◌==◌, ◌&&◌, ◌||◌, not, cond, List, [], ◌∷◌, ◌++◌, map, filter, Option, Some, None, refl, sym, ap, subst, inl, inr, eqb-true, eq-eqb, arith, append-nil}
use Rattle.std.proofs.lemmas.Bool.{cases_Bool}
use Rattle.std.proofs.lemmas.List.{map-append}
use Rattle.std.proofs.lemmas.List.Elements.{filter-append}
use Rattle.overlay_setup.specs.NodeSets.{up_to}
use Rattle.stat_plan.specs.Plans.{Plan, is_related, is_under}
use Rattle.stat_plan.proofs.Elements.{all_append}
use Rattle.overlay_event.specs.declared.event.Event.{Event}
use Rattle.overlay_event.specs.declared.event.Event.TheVariants.{Sample, Recv, Tick, Lose}
use Rattle.overlay_core.specs.Nodes.{Packet, Down}
use Rattle.overlay_node.specs.Frames.{IsFrame, IsFrameOf, packet_of}
use Rattle.overlay_node.specs.NodeViews.{NodeView}
use Rattle.overlay_node.specs.Outputs.{AreFrames, Output, packets_of}
use Rattle.overlay_node.proofs.Frames.{brings, is_frame}
use Rattle.overlay_net.specs.Claims.{ClaimView, Leaves, Left, WasWorked, notices}
use Rattle.overlay_net.specs.Handled.{HasHandled}
use Rattle.overlay_net.specs.Views.{IsClaimOf, claim_of, left_of}
use Rattle.overlay_net.specs.declared.claimed.Work.{Work}

-- whether one of two nodes is an ancestor of the other, by two tests
pub related_first : (p : Plan) (n b : ℕ) (t : Bool) → t ≡ is_under p n b → t ≡ true → t ≡ is_related p n b
unfolding is_related
related_first p n b t e is = is ∙ sym (ap (λ u. u || is_under p b n) (sym e ∙ is))

pub related_second : (p : Plan) (n b : ℕ) (t u : Bool) → t ≡ is_under p n b → t ≡ false → u ≡ is_under p b n → u ≡ is_related p n b
unfolding is_related
related_second p n b t u e is f = f ∙ sym (ap (λ v. v || is_under p b n) (sym e ∙ is))

-- ---- the notices of a loss

-- those to the first nodes
abbrev pub notices_below : Plan → ℕ → ℕ → List (ℕ × Packet)
notices_below p n k = map (λ b. (b, Down)) (filter (λ b. not (b == n) && is_related p n b) (up_to k))

-- with the next node
next_notices : (p : Plan) (n k : ℕ) (t : Bool) → (not (k == n) && is_related p n k) ≡ t → notices_below p n (k + 1) ≡ notices_below p n k ++ map {A = ℕ} {B = ℕ × Packet} (λ b. (b, Down)) (cond t (k ∷ []) [])
next_notices p n k t is =
    let e : k + 1 ≡ suc k = omega arith in
    ap (notices_below p n) e
    ∙ ap (map {A = ℕ} {B = ℕ × Packet} (λ b. (b, Down))) (filter-append (λ b. not (b == n) && is_related p n b) (up_to k) (k ∷ []) ∙ ap (λ u. filter (λ b. not (b == n) && is_related p n b) (up_to k) ++ cond u (k ∷ []) []) is)
    ∙ map-append (λ b. (b, Down)) (filter (λ b. not (b == n) && is_related p n b) (up_to k)) (cond t (k ∷ []) [])

-- the next node gets none
pub not_told : (p : Plan) (n k : ℕ) (old new : List (ℕ × List ℕ)) → (not (k == n) && is_related p n k) ≡ false → new ≡ old → packets_of old ≡ notices_below p n k → packets_of new ≡ notices_below p n (k + 1)
not_told p n k old new is same so = ap packets_of same ∙ so ∙ sym (append-nil (notices_below p n k)) ∙ sym (next_notices p n k false is)

-- the next node gets one
pub told : (p : Plan) (n k : ℕ) (old new : List (ℕ × List ℕ)) (frame : List ℕ) → (not (k == n) && is_related p n k) ≡ true → IsFrameOf p Down frame → new ≡ old ++ (k, frame) ∷ [] → packets_of old ≡ notices_below p n k → packets_of new ≡ notices_below p n (k + 1)
told p n k old new frame is down more so =
    ap packets_of more
    ∙ map-append (λ v. (v.0, packet_of v.1)) old ((k, frame) ∷ [])
    ∙ (λ i. so i ++ (k, brings p Down frame down i) ∷ [])
    ∙ sym (next_notices p n k true is)

pub frames_more : (p : Plan) (k : ℕ) (old new : List (ℕ × List ℕ)) (frame : List ℕ) → IsFrameOf p Down frame → new ≡ old ++ (k, frame) ∷ [] → AreFrames p old → AreFrames p new
frames_more p k old new frame down more h = subst (AreFrames p) (sym more) (all_append (λ (v : ℕ × List ℕ). IsFrame p v.1) old ((k, frame) ∷ []) h (is_frame p Down frame down, tt))

pub same_frames : (p : Plan) (old new : List (ℕ × List ℕ)) → new ≡ old → AreFrames p old → AreFrames p new
same_frames p old new same h = subst (AreFrames p) (sym same) h

-- the tests of the loop
unequal : (k n : ℕ) → k ≢ n → (k == n) ≡ false
unequal k n other = elim (cases_Bool (k == n)) [ inl t ↦ absurd (other (eqb-true k n t)) | inr f ↦ f ]

pub is_told : (p : Plan) (n k : ℕ) (t : Bool) → k ≢ n → t ≡ is_related p n k → t ≡ true → (not (k == n) && is_related p n k) ≡ true
is_told p n k t other is holds = (λ i. not (unequal k n other i) && is_related p n k) ∙ sym is ∙ holds

pub no_kin : (p : Plan) (n k : ℕ) (t : Bool) → t ≡ is_related p n k → t ≡ false → (not (k == n) && is_related p n k) ≡ false
no_kin p n k t is none = ap (λ u. not (k == n) && u) (sym is ∙ none) ∙ and_false (not (k == n))
  where
    and_false : (u : Bool) → (u && false) ≡ false
    and_false true = refl
    and_false false = refl

pub not_itself : (p : Plan) (n k : ℕ) → k ≡ n → (not (k == n) && is_related p n k) ≡ false
not_itself p n k same = ap (λ u. not u && is_related p n k) (eq-eqb k n same)

-- ---- what an event leaves

-- a loss leaves the node as it was, and the notices
pub lose_leaves : (p : Plan) (x y : NodeView) (e : Event) (n : ℕ) (frame : Option (List ℕ)) (o q : Output) → e ≡ Lose n → y ≡ x → o ≡ q → packets_of q.sends ≡ notices p n → AreFrames p q.sends → q.releases ≡ []
    → Leaves p x e frame (record { node = y; sends = o.sends; releases = o.releases })
lose_leaves p x y e n frame o q is same out sent frames silent = subst (λ f. Leaves p x f frame (record { node = y; sends = o.sends; releases = o.releases })) (sym is) (record {
  node = same;
  sent = ap (λ (r : Output). packets_of r.sends) out ∙ sent;
  frames = subst (λ (r : Output). AreFrames p r.sends) (sym out) frames;
  silent = ap (λ (r : Output). r.releases) out ∙ silent;
})

-- each other event is handled
handled_left : (p : Plan) (x : NodeView) (e : Event) (frame : Option (List ℕ)) (left : Left) → ((n : ℕ) → e ≡ Lose n → ⊥) → HasHandled p x left.node e frame left.sends left.releases → Leaves p x e frame left
handled_left p x (Sample n s w) frame left other h = h
handled_left p x (Recv n m) frame left other h = h
handled_left p x (Tick n) frame left other h = h
handled_left p x (Lose n) frame left other h = absurd (other n refl)

pub handled_leaves : (p : Plan) (x y z : NodeView) (e : Event) (frame : Option (List ℕ)) (o q : Output) → ((n : ℕ) → e ≡ Lose n → ⊥) → y ≡ z → o ≡ q → HasHandled p x z e frame q.sends q.releases
    → Leaves p x e frame (record { node = y; sends = o.sends; releases = o.releases })
handled_leaves p x y z e frame o q other same out h =
    handled_left p x e frame (record { node = y; sends = o.sends; releases = o.releases }) other
    (subst (λ (v : NodeView). HasHandled p x v e frame o.sends o.releases) (sym same) (subst (λ (r : Output). HasHandled p x z e frame r.sends r.releases) (sym out) h))

-- ---- a claim before its work and after it

-- without work, nothing is left
no_work : {X : Type 0} (x : NodeView) (work : Option (Work X)) → left_of x work ≡ None → work ≡ None
no_work x None none = refl
no_work x (Some work) none = cc

-- before its work, a claim is what was moved out
pub fresh_claim : {X : Type 0} (e : Event) (before : NodeView) (taken : Option (List ℕ)) (x : NodeView) (frame : Option (List ℕ)) (work : Option (Work X)) (c : ClaimView)
    → IsClaimOf before taken x frame work → claim_of e before taken x work ≡ c → c.left ≡ None → ◌≡◌ {A = ClaimView} (record { event = e; node = x; frame = frame; left = None }) c
fresh_claim e before taken x frame work c is seen fresh =
    let none : work ≡ None = no_work x work (ap (λ (v : ClaimView). v.left) seen ∙ fresh) in
    let same = is.fresh none in
    (λ i. record { event = e; node = same.0 i; frame = same.1 i; left = None }) ∙ ap (claim_of e before taken x) (sym none) ∙ seen

-- after it, it has the receivers
pub worked_claim : {X : Type 0} (before : NodeView) (taken : Option (List ℕ)) (x : NodeView) (frame : Option (List ℕ)) (work : Work X)
    → work.receivers.items ≡ map (λ v. v.0) work.effects.sends → IsClaimOf before taken x frame (Some work)
worked_claim before taken x frame work are = record {
  fresh = λ none. cc;
  receivers = λ w is. have work w is are;
}
  where
    have : {X : Type 0} (v w : Work X) → Some v ≡ Some w → v.receivers.items ≡ map (λ s. s.0) v.effects.sends → w.receivers.items ≡ map (λ s. s.0) w.effects.sends
    have {X = X} v w is h = let e : v ≡ w = cc in subst (λ (u : Work X). u.receivers.items ≡ map (λ s. s.0) u.effects.sends) e h

-- and what the event leaves of what was moved out
pub was_worked : {X : Type 0} (p : Plan) (before : NodeView) (taken : Option (List ℕ)) (x y : NodeView) (frame : Option (List ℕ)) (work : Work X) (c : ClaimView) (e : Event)
    → ◌≡◌ {A = ClaimView} (record { event = e; node = x; frame = frame; left = None }) c → c.node ≡ before → c.frame ≡ taken
    → Leaves p x e frame (record { node = y; sends = work.effects.sends; releases = work.effects.releases }) → WasWorked p (claim_of e before taken y (Some work))
was_worked p before taken x y frame work c e is node took h =
    let left : Left = record { node = y; sends = work.effects.sends; releases = work.effects.releases } in
    record {
      left = left;
      is = refl;
      leaves = subst (λ v. Leaves p v e taken left) (ap (λ (v : ClaimView). v.node) is ∙ node) (subst (λ f. Leaves p x e f left) (ap (λ (v : ClaimView). v.frame) is ∙ took) h);
    }

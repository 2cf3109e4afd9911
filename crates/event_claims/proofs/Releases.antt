-- Only events of the front end release anything.
use Rattle.std.proofs.Common.{◌≡◌, ◌≢◌, inl, inr, ℕ, false, ◌==◌, List, [], ◌∷◌, ◌++◌, filter, refl, ap, ◌∙◌, eqb-true, Option, Some, None}
use Rattle.std.specs.List.{AllByRecursion}
use Rattle.std.proofs.lemmas.List.{append-nil}
use Rattle.std.proofs.lemmas.Bool.{cases_Bool, cond_both}
use Rattle.stat_plan.specs.Plans.{Plan, front, is_front, ranks, waves_at}
use Rattle.stat_plan.specs.Machine.Kin.{is_parent, with_parent, without_child}
use Rattle.stat_plan.specs.Machine.Waves.{Wave, Open, Closed, set_wave, covering, growing, ticked, is_fired}
use Rattle.overlay_event.specs.Events.{event_node}
use Rattle.overlay_event.specs.declared.event.Event.{Event}
use Rattle.overlay_event.specs.declared.event.Event.TheVariants.{Sample, Recv, Tick, Lose}
use Rattle.overlay_core.specs.Nodes.{Packet, Up, Done, Attach, Down, Node, Outcome, handled, received, begin, sampled, after_tick, received_up, received_done, received_attach, received_down, done_work}
use Rattle.overlay_core.specs.Machine.{State, step, commit, with_link, lose, receive}
use Rattle.overlay_core.specs.Runs.{run}
use Rattle.overlay_core.proofs.History.{act_each_below}

done_releases : (p : Plan) (x : Node) (s w : ℕ) (v : Wave) → (done_work p x.kin s w x.book v).releases ≡ []
done_releases p x s w Closed = refl
done_releases p x s w (Open covered sent timer) = refl

received_releases : (p : Plan) (n : ℕ) (x : Node) (m : ℕ) (q : Packet) → is_front p n ≡ false → (received p n x m q).work.releases ≡ []
unfolding received_up received_done received_attach received_down
received_releases p n x m (Up s w set) below = (act_each_below p n x.kin ((s, w) ∷ []) (begin (set_wave x.book s w (growing set (x.book s w)))) below).0
received_releases p n x m (Done s w) below = done_releases p x s w (x.book s w)
received_releases p n x m Attach below = refl
received_releases p n x m Down below =
    cond_both {A = Outcome} (is_parent x.kin.parent m) _ _ (λ o. o.work.releases ≡ [])
    (λ e. (act_each_below p n (with_parent p n x.kin m) (waves_at p n) _ below).0)
    (λ e. (act_each_below p n (without_child x.kin m) (waves_at p n) (begin x.book) below).0)

-- an event below the front end releases nothing
handled_releases : (p : Plan) (n : ℕ) (x : Node) (e : Event) (o : Option (ℕ × Packet)) → is_front p n ≡ false → (handled p n x e o).work.releases ≡ []
unfolding sampled after_tick
handled_releases p n x (Sample k s w) o below = (act_each_below p n x.kin ((s, w) ∷ []) (begin (set_wave x.book s w (covering (ranks p n) (x.book s w)))) below).0
handled_releases p n x (Recv k m) None below = refl
handled_releases p n x (Recv k m) (Some t) below = received_releases p n x t.0 t.1 below
handled_releases p n x (Tick k) o below = (act_each_below p n x.kin (filter (λ v. is_fired (ticked (x.book v.0 v.1))) (waves_at p n)) (begin (λ s w. ticked (x.book s w))) below).0
handled_releases p n x (Lose k) o below = refl

is_below : (p : Plan) (n : ℕ) → n ≢ front p → is_front p n ≡ false
unfolding is_front
is_below p n ne = elim (cases_Bool (n == front p)) [ inl e ↦ absurd (ne (eqb-true n (front p) e)) | inr e ↦ e ]

commit_releases : (st : State) (n : ℕ) (o : Outcome) → o.work.releases ≡ [] → (commit st n o).releases ≡ st.releases
unfolding commit
commit_releases st n o e = ap (λ l. st.releases ++ l) e ∙ append-nil st.releases

pub releases_else : (p : Plan) (st : State) (f : Event) → event_node f ≢ front p → (step p st f).releases ≡ st.releases
unfolding lose with_link
releases_else p st (Sample n s w) ne = commit_releases st n _ (handled_releases p n (st.node n) (Sample n s w) None (is_below p n ne))
releases_else p st (Recv n m) ne = go (st.link m n)
  where
    go : (qs : List Packet) → (receive p st n m qs).releases ≡ st.releases
    go [] = refl
    go (q ∷ qs) = commit_releases (with_link st m n qs) n _ (handled_releases p n (st.node n) (Recv n m) (Some (m, q)) (is_below p n ne))
releases_else p st (Tick n) ne = commit_releases st n _ (handled_releases p n (st.node n) (Tick n) None (is_below p n ne))
releases_else p st (Lose n) ne = refl

pub releases_through : (p : Plan) (st : State) (fs : List Event) → AllByRecursion (λ f. event_node f ≢ front p) fs → (run p st fs).releases ≡ st.releases
releases_through p st [] below = refl
releases_through p st (f ∷ fs) below = releases_through p (step p st f) fs below.1 ∙ releases_else p st f below.0

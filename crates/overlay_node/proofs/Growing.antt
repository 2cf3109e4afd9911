-- Ranks come in of a wave, and the wave is acted on.
use Rattle.std.proofs.Common.{◌≡◌, ℕ, suc, inl, inr, true, false, ◌&&◌, ◌==◌, List, Some, refl, sym, ap, subst, ◌∙◌}
use Rattle.rank_set.specs.Ranks.{Ranks, none, union, union-none}
use Rattle.stat_plan.specs.Plans.{Plan}
use Rattle.stat_plan.specs.Machine.Kin.{Kin}
use Rattle.stat_plan.specs.Machine.Waves.{Wave, Open, Closed, Book, covering, growing, is_closed, is_empty_open}
use Rattle.stat_plan.specs.declared.machine.Timer.{Timer}
use Rattle.wave_resend.specs.Books.{HasSet, WaveAt, book_of}
use Rattle.wave_resend.proofs.Setting.{set_here}
use Rattle.merge_filter.specs.Contributions.{Contrib, IsPartialMerge, coverage_of}
use Rattle.overlay_core.specs.Nodes.{act}
use Rattle.overlay_core.proofs.Settled.{set_wave_else}
use Rattle.overlay_node.specs.Outputs.{Output}
use Rattle.overlay_node.specs.NodeViews.{HeldFits, HeldView, OpenFits}
use Rattle.overlay_node.specs.Acting.{StepsWave, act_changed, change, effects_of, partial_merge}
use Rattle.overlay_node.proofs.Fitting.{empty_open, grown_fits, open_fits, own_fits, some_is}

-- a wave that hasn't ended
pub record IsOpenAs (v : Wave) : Type 0 where
  pub covered : Ranks
  pub sent : Ranks
  pub timer : Timer
  pub is : v ≡ Open covered sent timer

pub open_as : (v : Wave) → is_closed v ≡ false → IsOpenAs v
open_as Closed e = absurd (cc)
open_as (Open covered sent timer) e = record { covered = covered; sent = sent; timer = timer; is = refl }

pub empty_as : (v : Wave) → is_empty_open v ≡ true → IsOpenAs v
empty_as Closed e = absurd (cc)
empty_as (Open covered sent timer) e = record { covered = covered; sent = sent; timer = timer; is = refl }

-- where nothing is covered, to grow is to cover
pub growing_is_covering : (set : Ranks) (v : Wave) → is_empty_open v ≡ true → growing set v ≡ covering set v
growing_is_covering set v e =
    let o = empty_as v e in
    let nothing : o.covered ≡ none = empty_open v o.covered o.sent o.timer o.is e in
    ap (growing set) o.is ∙ (λ i. Open ((ap (λ x. union x set) nothing ∙ union-none set) i) o.sent o.timer) ∙ ap (covering set) (sym o.is)

module _ (p : Plan) (n : ℕ) where
  -- what is held after more ranks have come in
  pub grown_held : (h g : HeldView) (b c : List WaveAt) (x part : Contrib) → is_closed (book_of b h.stream h.wave) ≡ false → HeldFits p n h (book_of b h.stream h.wave) → h.part ≡ Some part
      → HasSet h.stream h.wave (growing (coverage_of x) (book_of b h.stream h.wave)) b c → IsPartialMerge p x → x.stream ≡ h.stream → x.wave ≡ h.wave
      → g.stream ≡ h.stream → g.wave ≡ h.wave → g.release_count ≡ h.release_count → g.part ≡ Some (partial_merge p part.stream part.wave (union (coverage_of part) (coverage_of x)))
      → HeldFits p n g (book_of c g.stream g.wave)
  grown_held h g b c x part e f ep has hx xs xw gs gw gc gp =
      let o = open_as (book_of b h.stream h.wave) e in
      let fits : OpenFits p n h o.covered o.sent o.timer = open_fits p n h _ o.covered o.sent o.timer o.is f in
      let same : part ≡ fits.part = some_is part fits.part (sym ep ∙ fits.is) in
      let merged : g.part ≡ Some (partial_merge p h.stream h.wave (union o.covered (coverage_of x))) =
      gp ∙ (λ i. Some (partial_merge p ((ap (λ (y : Contrib). y.stream) same ∙ fits.stream) i) ((ap (λ (y : Contrib). y.wave) same ∙ fits.wave) i) (union ((ap coverage_of same ∙ fits.covers) i) (coverage_of x)))) in
      subst (HeldFits p n g) (sym ((λ i. book_of c (gs i) (gw i)) ∙ set_here h.stream h.wave _ b c has ∙ ap (growing (coverage_of x)) o.is))
      (grown_fits p n h g x o.covered o.sent o.timer fits hx xs xw gs gw gc merged)

  -- what is held after the first ranks have come in
  pub own_held : (h g : HeldView) (b c : List WaveAt) (x : Contrib) → is_empty_open (book_of b h.stream h.wave) ≡ true → HeldFits p n h (book_of b h.stream h.wave)
      → HasSet h.stream h.wave (growing (coverage_of x) (book_of b h.stream h.wave)) b c → IsPartialMerge p x → x.stream ≡ h.stream → x.wave ≡ h.wave
      → g.stream ≡ h.stream → g.wave ≡ h.wave → g.release_count ≡ h.release_count → g.part ≡ Some x
      → HeldFits p n g (book_of c g.stream g.wave)
  own_held h g b c x e f has hx xs xw gs gw gc gp =
      let o = empty_as (book_of b h.stream h.wave) e in
      let fits : OpenFits p n h o.covered o.sent o.timer = open_fits p n h _ o.covered o.sent o.timer o.is f in
      let nothing : o.covered ≡ none = empty_open _ o.covered o.sent o.timer o.is e in
      subst (HeldFits p n g) (sym ((λ i. book_of c (gs i) (gw i)) ∙ set_here h.stream h.wave _ b c has ∙ growing_is_covering (coverage_of x) _ e ∙ ap (covering (coverage_of x)) o.is))
      (own_fits p n h g x o.covered o.sent o.timer fits nothing hx xs xw gs gw gc gp)

  module _ (kin : Kin) where
    -- the wave was changed, and then acted on
    pub changed_steps : (f : Wave → Wave) (h g new : HeldView) (b m c : List WaveAt) (o q : Output) → g.stream ≡ h.stream → g.wave ≡ h.wave → g.release_count ≡ h.release_count
        → HasSet h.stream h.wave (f (book_of b h.stream h.wave)) b m → StepsWave p n (act p n kin g.stream g.wave) g new m c o q → StepsWave p n (act_changed p n kin h.stream h.wave f) h new b c o q
    changed_steps f h g new b m c o q gs gw gc has s =
        let work : effects_of m o ≡ change h.stream h.wave f (effects_of b o) = (λ i. record { book = has.book i; sends = (effects_of b o).sends; releases = (effects_of b o).releases }) in
        record {
          stream = s.stream ∙ gs;
          wave = s.wave ∙ gw;
          keys = s.keys ∙ has.keys;
          others = λ x y e.
              s.others x y ((λ i. (x == gs i) && (y == gw i)) ∙ e)
              ∙ ap (λ (k : Book). k x y) has.book ∙ set_wave_else (book_of b) h.stream h.wave (f (book_of b h.stream h.wave)) x y e;
          fits = subst (HeldFits p n new) (λ i. book_of c (gs i) (gw i)) s.fits;
          output = s.output;
          gives = elim s.gives [
            | inl k ↦ inl (record { release_count = k.release_count ∙ gc; releases = k.releases })
            | inr k ↦ inr (record { next = k.next; stream = k.stream ∙ gs; wave = k.wave ∙ gw; number = k.number ∙ ap suc gc; release_count = k.release_count ∙ ap suc gc; releases = k.releases })
          ];
          work = s.work ∙ (λ i. act p n kin (gs i) (gw i) (effects_of m o)) ∙ ap (act p n kin h.stream h.wave) work;
        }

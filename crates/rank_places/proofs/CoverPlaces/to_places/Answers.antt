use Rattle.std.proofs.Common.{◌≡◌, ◌∙◌, ℕ, ◌<◌, List, sym, ap, subst}
use Rattle.std.proofs.lemmas.Result.{IfOk-weaker}
use Rattle.rank_set.specs.Ranks.{Ranks, Has, has, size, subset_has}
use Rattle.rank_places.specs.declared.table.PlacedRun.{PlacedRun}
use Rattle.rank_places.specs.Places.{to_places, from_places}
use Rattle.rank_places.specs.Table.{cover_of}
use Rattle.rank_places.proofs.Places.{places_in_cover, back_to_ranks}
use Rattle.rank_places.proofs.CoverPlaces.to_places.Goals as goal

-- the runs are those of the cover
abbrev IsCover : Ranks → List PlacedRun → Type 0
IsCover cover rs = cover_of rs ≡ cover

pub moved-requires-clause-inside : goal.moved-requires-clause-inside
moved-requires-clause-inside c = λ x one.
    let is : IsCover c.args.self.now c.deref.result.now = ap cover_of c.deref.ensures.value ∙ c.self.view_is in
    ap (λ s. has s x) is ∙ subset_has c.args.ranks.now c.args.self.now c.requires x one

pub returns-clause-in_cover : goal.returns-clause-in_cover
returns-clause-in_cover c =
    let is : IsCover c.args.self.now c.deref.result.now = ap cover_of c.deref.ensures.value ∙ c.self.view_is in
    IfOk-weaker c.moved.result (λ moved. moved ≡ to_places (cover_of c.deref.result.now) c.args.ranks.now) (λ places. (p : ℕ) → Has p places → p < size c.args.self.now)
    (λ places made. subst (λ t. (p : ℕ) → Has p t → p < size c.args.self.now) (sym (made ∙ ap (λ s. to_places s c.args.ranks.now) is)) (places_in_cover c.args.self.now c.args.ranks.now (subset_has c.args.ranks.now c.args.self.now c.requires)))
    c.moved.ensures

pub returns-clause-inverse : goal.returns-clause-inverse
returns-clause-inverse c =
    let is : IsCover c.args.self.now c.deref.result.now = ap cover_of c.deref.ensures.value ∙ c.self.view_is in
    IfOk-weaker c.moved.result (λ moved. moved ≡ to_places (cover_of c.deref.result.now) c.args.ranks.now) (λ places. from_places c.args.self.now places ≡ c.args.ranks.now)
    (λ places made. ap (from_places c.args.self.now) (made ∙ ap (λ s. to_places s c.args.ranks.now) is) ∙ back_to_ranks c.args.self.now c.args.ranks.now (subset_has c.args.ranks.now c.args.self.now c.requires))
    c.moved.ensures

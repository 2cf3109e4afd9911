use Rattle.std.proofs.Common.{◌≡◌, ◌∙◌, List, nat_lt, true, sym, ap, subst}
use Rattle.std.proofs.lemmas.Bool.{lt-ltb}
use Rattle.std.proofs.lemmas.Result.{IfOk-weaker}
use Rattle.rank_set.specs.Ranks.{Ranks, size, is_subset, subset_from}
use Rattle.rank_places.specs.declared.table.PlacedRun.{PlacedRun}
use Rattle.rank_places.specs.Places.{to_places, from_places}
use Rattle.rank_places.specs.Table.{cover_of}
use Rattle.rank_places.proofs.Places.{ranks_in_cover, back_to_places}
use Rattle.rank_places.proofs.CoverPlaces.from_places.Goals as goal

-- the runs are those of the cover
abbrev IsCover : Ranks → List PlacedRun → Type 0
IsCover cover rs = cover_of rs ≡ cover

pub moved-requires-clause-inside : goal.moved-requires-clause-inside
moved-requires-clause-inside c = λ p one.
    let is : IsCover c.args.self.now c.deref.result.now = ap cover_of c.deref.ensures.value ∙ c.self.view_is in
    ap (λ s. nat_lt p (size s)) is ∙ lt-ltb p (size c.args.self.now) (c.requires p one)

pub returns-clause-subset : goal.returns-clause-subset
returns-clause-subset c =
    let is : IsCover c.args.self.now c.deref.result.now = ap cover_of c.deref.ensures.value ∙ c.self.view_is in
    IfOk-weaker c.moved.result (λ moved. moved ≡ from_places (cover_of c.deref.result.now) c.args.places.now) (λ ranks. is_subset ranks c.args.self.now ≡ true)
    (λ ranks made. subst (λ t. is_subset t c.args.self.now ≡ true) (sym (made ∙ ap (λ s. from_places s c.args.places.now) is)) (subset_from (from_places c.args.self.now c.args.places.now) c.args.self.now (ranks_in_cover c.args.self.now c.args.places.now)))
    c.moved.ensures

pub returns-clause-inverse : goal.returns-clause-inverse
returns-clause-inverse c =
    let is : IsCover c.args.self.now c.deref.result.now = ap cover_of c.deref.ensures.value ∙ c.self.view_is in
    IfOk-weaker c.moved.result (λ moved. moved ≡ from_places (cover_of c.deref.result.now) c.args.places.now) (λ ranks. to_places c.args.self.now ranks ≡ c.args.places.now)
    (λ ranks made. ap (to_places c.args.self.now) (made ∙ ap (λ s. from_places s c.args.places.now) is) ∙ back_to_places c.args.self.now c.args.places.now c.requires)
    c.moved.ensures

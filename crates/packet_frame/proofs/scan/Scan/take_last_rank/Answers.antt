use Rattle.std.proofs.Common.{rules, ◌≡◌, ◌+◌, ◌-◌, nat_le, nat_lt, [], ◌∷◌, ap, sym, ◌∙◌, Ok, None}
use Rattle.std.specs.Int.{w32}
use Rattle.rank_set.specs.declared.TheConstants.{RANK_LIMIT}
use Rattle.rank_set.specs.Ranks.{union}
use Rattle.rank_set.specs.Runs.{ranks_between}
use Rattle.packet_frame.specs.declared.error.FrameReason.TheVariants.{OverLimit, NotCanonical}
use Rattle.packet_frame.specs.Fields.{broken}
use Rattle.packet_frame.specs.Frame.{last_rank_form}
use Rattle.packet_frame.specs.declared.scan.Field.TheVariants as fields
use Rattle.packet_frame.specs.Scanning.{runs_left, after_cover, left_at}
use Rattle.packet_frame.proofs.Binding.{take_number, takes_by}
use Rattle.packet_frame.proofs.Covering.{runs_end}
use Rattle.packet_frame.proofs.scan.Scan.take_last_rank.Goals as goal

pub returns-then-self-eq0-clause-takes : goal.returns-then-self-eq0-clause-takes
unfolding last_rank_form
returns-then-self-eq0-clause-takes g c =
    let s = c.args.self.now in
    let n = c.u32_of-last.result in
    let fine : broken ((nat_lt n RANK_LIMIT, OverLimit) ∷ (nat_le s.least n, NotCanonical) ∷ []) ≡ None = search rules in
    let taken =
    take_number w32 (λ n. (nat_lt n RANK_LIMIT, OverLimit) ∷ (nat_le s.least n, NotCanonical) ∷ []) (λ last. runs_left s.version s.stream s.wave (union s.cover.ranks (ranks_between s.least last)) (last + 2) (s.left - 1)) c.args.field.now n c.u32_of-last.ensures fine
    ∙ ap Ok (runs_end s.version s.stream s.wave (union s.cover.ranks (ranks_between s.least n)) (n + 2) (s.left - 1) c.if-self-eq0.true ∙ ap (after_cover s.version s.stream s.wave) (sym c.in-Ok.ensures.ok)) in
    takes_by (left_at fields.LastRank s) _ _ c.args.field.now c.end_cover.result taken c.end_cover.ensures.left c.end_cover.ensures.err

pub returns-clause-takes : goal.returns-clause-takes
unfolding last_rank_form
returns-clause-takes g c =
    let s = c.args.self.now in
    let n = c.u32_of-last.result in
    let fine : broken ((nat_lt n RANK_LIMIT, OverLimit) ∷ (nat_le s.least n, NotCanonical) ∷ []) ≡ None = search rules in
    take_number w32 (λ n. (nat_lt n RANK_LIMIT, OverLimit) ∷ (nat_le s.least n, NotCanonical) ∷ []) (λ last. runs_left s.version s.stream s.wave (union s.cover.ranks (ranks_between s.least last)) (last + 2) (s.left - 1)) c.args.field.now n c.u32_of-last.ensures fine
    ∙ ap (λ cover. Ok (runs_left s.version s.stream s.wave cover (n + 2) (s.left - 1))) (sym c.in-Ok.ensures.ok)

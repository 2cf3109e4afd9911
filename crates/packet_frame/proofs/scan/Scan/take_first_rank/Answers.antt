use Rattle.std.proofs.Common.{rules, ◌≡◌, ◌+◌, ◌-◌, nat_le, nat_lt, [], ◌∷◌, ap, ◌∙◌, None, arith}
use Rattle.std.specs.Int.{w32}
use Rattle.rank_set.specs.declared.TheConstants.{RANK_LIMIT}
use Rattle.rank_set.specs.Ranks.{union}
use Rattle.rank_set.specs.Runs.{ranks_between}
use Rattle.packet_frame.specs.declared.error.FrameReason.TheVariants.{OverLimit, NotCanonical}
use Rattle.packet_frame.specs.Fields.{broken, ◌>>=◌, after_field}
use Rattle.packet_frame.specs.Frame.{first_rank_form, last_rank_form}
use Rattle.packet_frame.specs.Scanning.{runs_left}
use Rattle.packet_frame.proofs.Binding.{take_number}
use Rattle.packet_frame.proofs.Covering.{run_follows}
use Rattle.packet_frame.proofs.scan.Scan.take_first_rank.Goals as goal

pub returns-clause-takes : goal.returns-clause-takes
unfolding first_rank_form
returns-clause-takes g c =
    let s = c.args.self.now in
    let n = c.u32_of-first.result in
    let fine : broken ((nat_lt n RANK_LIMIT, OverLimit) ∷ (nat_le s.least n, NotCanonical) ∷ []) ≡ None = search rules in
    ap (λ form. after_field form c.args.field.now) (run_follows s.version s.stream s.wave s.cover.ranks s.least s.left (s.left - 1) (omega (arith, c.requires.ready.1)))
    ∙ take_number w32 (λ n. (nat_lt n RANK_LIMIT, OverLimit) ∷ (nat_le s.least n, NotCanonical) ∷ []) (λ first. last_rank_form first >>= λ last. runs_left s.version s.stream s.wave (union s.cover.ranks (ranks_between first last)) (last + 2) (s.left - 1)) c.args.field.now n c.u32_of-first.ensures fine

use Rattle.std.proofs.Common.{◌∙◌, ◌<◌, length, sym, ap, subst, codes, arith}
use Rattle.std.specs.Str.{IsUtf8}
use Rattle.std.proofs.lemmas.Slice.Eq.{bytes_eq-Decides}
use Rattle.sample_text.specs.LineViews.{BeginsOneRank}
use Rattle.sample_text.proofs.FirstLines.{not_false, word_front, no_blank_front, rest_is, begins_one_rank}
use Rattle.sample_text.proofs.words.one_rank_start.Goals as goal

pub path_in-rest-requires : goal.path_in-rest-requires
path_in-rest-requires c =
    rest_is c.args.text.now c.in_ok-word.rest.now c.in_ok-time.rest.now c.in_ok-rank.rest.now c.in_ok-time.time c.in_ok-rank.rank
    (word_front c.args.text.now c.as_bytes.result.now c.in_ok-word.word.now c.in_ok-word.rest.now c.as_bytes.ensures.value c.in_ok-word.ensures.cases.0 c.in_ok-word.ensures.cases.1
    ((bytes_eq-Decides c.in_ok-word.word.now (codes "stack ")).0 (not_false _ (sym c.ne.ensures ∙ c.if-ne.false))))
    c.in_ok-time.ensures c.in_ok-rank.ensures
    (no_blank_front c.in_ok-rank.rest.now c.in_ok-b.b.now c.in_ok-b.field-0-1.now c.in_ok-b.ensures.cases.0 c.if-b-eq32.false c.if-b-eq9.false)

pub returns-clause-sample : goal.returns-clause-sample
returns-clause-sample c =
    let rest = c.in_ok-rank.rest.now in
    let some : 0 < length rest = let len = ap length c.in_ok-b.ensures.cases.0 in omega (arith, len) in
    subst (BeginsOneRank c.args.text.now c.in_ok-time.time c.in_ok-rank.rank) (sym c.path_in-rest.ensures)
    (begins_one_rank c.args.text.now c.in_ok-word.rest.now c.in_ok-time.rest.now rest c.in_ok-time.time c.in_ok-rank.rank
    (word_front c.args.text.now c.as_bytes.result.now c.in_ok-word.word.now c.in_ok-word.rest.now c.as_bytes.ensures.value c.in_ok-word.ensures.cases.0 c.in_ok-word.ensures.cases.1
    ((bytes_eq-Decides c.in_ok-word.word.now (codes "stack ")).0 (not_false _ (sym c.ne.ensures ∙ c.if-ne.false))))
    c.in_ok-time.ensures c.in_ok-rank.ensures (subst IsUtf8 c.path_in-rest.ensures c.path_in-rest.utf8) (omega arith) (omega arith) some
    (no_blank_front rest c.in_ok-b.b.now c.in_ok-b.field-0-1.now c.in_ok-b.ensures.cases.0 c.if-b-eq32.false c.if-b-eq9.false))

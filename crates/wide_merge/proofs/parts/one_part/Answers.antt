use Rattle.wide_merge.proofs.parts.one_part.Goals as goal

pub returns : goal.returns
returns g c = record {
  stream = c.in_ok-part.ensures.stream;
  wave = c.in_ok-part.ensures.wave;
  coverage = c.in_ok-part.ensures.coverage;
  partial_merge = c.in_ok-part.ensures.partial_merge;
}

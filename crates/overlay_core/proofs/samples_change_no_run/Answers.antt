use Rattle.overlay_core.proofs.SampleFree.{after_same, enabled_same, listed_same, legal_same, legal_with, picked_same}
use Rattle.overlay_core.proofs.samples_change_no_run.Goals as goal

pub returns : goal.returns
returns c = record {
  state = after_same;
  enabled = enabled_same;
  listed = listed_same;
  legal = λ p lines journal. (legal_same p lines journal, legal_with p lines journal);
  picked = picked_same;
}

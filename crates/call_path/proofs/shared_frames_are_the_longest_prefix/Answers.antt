use Rattle.std.proofs.Common.{◌∙◌, sym, []}
use Rattle.std.proofs.lemmas.Option.{slice_get-get_or, get_or_from_slice_get}
use Rattle.call_path.specs.Path.{shared_len}
use Rattle.call_path.proofs.Shared.{shared_within, shared_same_frames, shared_differ, shared_prefix, prefix_shared}
use Rattle.call_path.proofs.shared_frames_are_the_longest_prefix.Goals as goal

pub returns-clause-within : goal.returns-clause-within
returns-clause-within c = shared_within

pub returns-clause-same : goal.returns-clause-same
returns-clause-same c = shared_same_frames

pub returns-clause-differ : goal.returns-clause-differ
returns-clause-differ c =
    λ p q lt gt same.
    shared_differ p q lt gt (sym (get_or_from_slice_get q (shared_len p q) _ [] (sym same ∙ slice_get-get_or p (shared_len p q) [] lt)))

pub returns-clause-prefix : goal.returns-clause-prefix
returns-clause-prefix c = shared_prefix

pub returns-clause-all : goal.returns-clause-all
returns-clause-all c = prefix_shared

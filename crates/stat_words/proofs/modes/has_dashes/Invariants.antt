use Rattle.std.proofs.Common.{◌≡◌, drop, map, string_bytes}
use Rattle.stat_words.specs.Modes.{has_dashes}
use Rattle.stat_words.proofs.modes.has_dashes.Given as goal

-- the words that are left decide
abbrev pub invariant-loop-word : goal.invariant-loop-word
invariant-loop-word l = has_dashes (map string_bytes l.words) ≡ has_dashes (map string_bytes (drop l.word-index l.words))

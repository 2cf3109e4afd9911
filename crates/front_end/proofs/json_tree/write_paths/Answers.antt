use Rattle.std.proofs.Common.{◌++◌, ◌∙◌, ap, arith}
use Rattle.serde_json.specs.Data.{string}
use Rattle.call_path.specs.Path.{path_text}
use Rattle.json_text.specs.Tokens.{value_tokens}
use Rattle.front_end.proofs.Indices.{next_value}
use Rattle.front_end.proofs.json_tree.write_paths.Goals as goal

pub loop-index-preserved : goal.loop-index-preserved
loop-index-preserved c =
    next_value (λ path. string (path_text path)) c.args.seen.now c.args.indices.now c.loop-index.index-index c.index-seen-index.result c.loop-index.out c.string.new.self _
    (omega (arith, c.loop-index-test.true, c.loop-index.auto.index-index-end)) c.requires.indices
    (c.in_ok-string.ensures ∙ ap (λ text. c.loop-index.out ++ value_tokens (string text)) (c.as_str.ensures.value ∙ c.in_ok-text.ensures)) c.loop-index.invariant

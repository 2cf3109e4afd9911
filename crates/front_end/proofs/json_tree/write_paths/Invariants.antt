use Rattle.std.proofs.Common.{◌≡◌, ◌++◌, drop, map}
use Rattle.serde_json.specs.Data.{string}
use Rattle.call_path.specs.Path.{path_text}
use Rattle.equiv_class.specs.ClassList.{path_of}
use Rattle.equiv_class.specs.SeenPaths.{entries_view}
use Rattle.json_text.specs.Values.{list_of}
use Rattle.json_text.specs.Tokens.{rest_tokens, value_tokens}
use Rattle.front_end.proofs.json_tree.write_paths.Given as goal

abbrev pub invariant-loop-index : goal.invariant-loop-index
invariant-loop-index l =
    l.out ++ rest_tokens (map (λ path. string (path_text path)) (map (path_of (entries_view l.seen)) (drop l.index-index l.indices)))
    ≡ l.fn.out ++ value_tokens (list_of (map (λ path. string (path_text path)) (map (path_of (entries_view l.seen)) l.indices)))

use Rattle.std.proofs.Common.{rules, ◌∙◌, ◌++◌, ap, map, length}
use Rattle.std.specs.List.{flat_map}
use Rattle.std.proofs.lemmas.List.{take_all}
use Rattle.std.specs.Int.{w32, to_be_bytes}
use Rattle.packet_frame.specs.Spelling.{run_bytes}
use Rattle.packet_frame.proofs.Written.{pair_of, few_runs, cover_written}
use Rattle.packet_frame.proofs.encoding.put_cover.Goals as goal

pub overflow_cast-len : goal.overflow_cast-len
overflow_cast-len c = let lt = few_runs c.args.cover.now c.in_ok-runs.runs.items c.len.result c.invariant.ensures c.in_ok-runs.ensures (c.len.ensures ∙ c.in_ok-runs.runs.ok.0) in search rules

pub returns-clause-bytes : goal.returns-clause-bytes
returns-clause-bytes c =
    let runs = c.deref-run-items.result.now in
    let all = take_all c.loop-run.run-index runs c.loop-run-test.false in
    let written = c.loop-run.invariant ∙ ap (λ rs. c.args.out.now.items ++ (to_be_bytes w32 (length runs) ++ flat_map (λ run. run_bytes (pair_of run)) rs)) all in
    cover_written c.args.cover.now runs c.args.out.now.items c.loop-run.out.items (ap (map pair_of) c.deref-run-items.ensures.value ∙ c.in_ok-runs.ensures) written

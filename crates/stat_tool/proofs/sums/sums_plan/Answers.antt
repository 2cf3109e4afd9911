use Rattle.std.proofs.Common.{◌∙◌, None, refl, ap}
use Rattle.overlay_core.specs.Pick.{picked}
use Rattle.overlay_core.specs.TreeReleases.{releases_view}
use Rattle.rank_sums.specs.PartPlans.{part_lines}
use Rattle.job_files.specs.Tasks.{RunOutput}
use Rattle.stat_tool.proofs.Outputs.{has_sums, net_sums, sums_read}
use Rattle.stat_tool.proofs.sums.sums_plan.Goals as goal

pub text_of_sums-requires-clause-numbers : goal.text_of_sums-requires-clause-numbers
text_of_sums-requires-clause-numbers g c κs within =
    let run = c.in_ok-journal.ensures.start c.in_ok-net.ensures.start in
    let releases = releases_view g.T.PrefixTree.tree c.releases.result.now in
    let sums = net_sums c.run_picked.new.self c.args.plan c.in_ok-parts.parts c.args.values.now c.args.wanted.fold c.in_ok-journal.journal releases c.in_ok-parts.ensures
    (c.run_picked.ensures.plan ∙ c.in_ok-net.ensures.plan) run.1 c.releases.ensures c.sums_are_exact.ensures.exact in
    sums_read c.args.plan c.args.values.now c.args.wanted.fold c.in_ok-journal.journal releases sums

pub returns : goal.returns
returns g c =
    let output : RunOutput = record { unfinished = None; journal = c.in_ok-journal.journal; report = c.in_ok-report.report.items; journal_text = c.new-2.result.items } in
    let run = c.in_ok-journal.ensures.start c.in_ok-net.ensures.start in
    let p = c.args.plan in
    let n = c.args.values.now in
    let f = c.args.wanted.fold in
    let of_net = c.run_picked.ensures.plan ∙ c.in_ok-net.ensures.plan in
    let releases = releases_view g.T.PrefixTree.tree c.releases.result.now in
    let same = ap (λ q. picked q c.args.seed) c.in_ok-parts.ensures.equal ∙ c.samples_change_no_run.ensures.picked p (part_lines p n f) c.args.seed in
    let sums = net_sums c.run_picked.new.self p c.in_ok-parts.parts n f c.in_ok-journal.journal releases c.in_ok-parts.ensures of_net run.1 c.releases.ensures c.sums_are_exact.ensures.exact in
    has_sums c.run_picked.new.self p c.in_ok-parts.parts n f c.args.wanted.form c.args.seed releases output c.in_ok-parts.ensures.plan of_net same (run.0 ∙ ap (λ q. picked q c.args.seed) c.in_ok-net.ensures.plan) run.1 c.releases.ensures sums c.in_ok-report.ensures refl c.new-2.ensures.items

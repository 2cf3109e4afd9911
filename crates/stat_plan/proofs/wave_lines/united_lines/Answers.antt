use Rattle.overlay_setup.specs.Tables.{rows_view}
use Rattle.stat_plan.proofs.Gathering.{united}
use Rattle.stat_plan.proofs.wave_lines.united_lines.Goals as goal

pub returns : goal.returns
returns c =
    united c.args.wanted.times.samples c.args.wanted.times.wave c.args.wanted.ranks.now (rows_view c.args.parted.now.rows.items) c.args.wanted.daemons.now c.args.parted.now.spread.items c.args.count c.first.result c.in_ok-sets.sets.items c.in_ok-lines.lines.items c.sort_row.new.row.items
    c.in_ok-sets.ensures.length (c.first.ensures.of_wave c.requires.samples) c.requires.rows c.requires.spread c.in_ok-sets.ensures.seen c.in_ok-lines.ensures c.in_ok-sort_row.ensures

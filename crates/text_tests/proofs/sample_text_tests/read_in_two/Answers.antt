use Rattle.std.proofs.Common.{◌<◌, ◌^◌, ◌++◌, [], length, rules, arith}
use Rattle.std.proofs.lemmas.List.{length-append}
use Rattle.sample_text.specs.Feeding.{nodes_of}
use Rattle.text_tests.proofs.sample_text_tests.read_in_two.Goals as goal

pub feed-requires : goal.feed-requires
feed-requires c = (c.in_ok-feeder.feeder, ([], (c.in_ok-feeder.ensures.read, search rules)))

pub feed-requires-2 : goal.feed-requires-2
feed-requires-2 c =
    let feeder = c.in_ok-feeder.feeder in
    let some : length c.args.first.now < 2 ^ 63 = search rules in
    let more : length c.args.second.now < 2 ^ 63 = search rules in
    (feeder, (c.args.first.now, (c.feed.ensures feeder [] c.in_ok-feeder.ensures.read, omega (arith, some, more))))

pub finish-requires : goal.finish-requires
finish-requires c =
    let feeder = c.in_ok-feeder.feeder in
    let some : length c.args.first.now < 2 ^ 63 = search rules in
    let more : length c.args.second.now < 2 ^ 63 = search rules in
    let all = length-append c.args.first.now c.args.second.now in
    (nodes_of feeder, (c.args.first.now ++ c.args.second.now, (c.feed-2.ensures feeder c.args.first.now (c.feed.ensures feeder [] c.in_ok-feeder.ensures.read), omega (arith, all, some, more))))

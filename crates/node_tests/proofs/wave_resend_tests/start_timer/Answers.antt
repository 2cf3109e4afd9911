use Rattle.wave_resend.specs.Books.{armed}
use Rattle.wave_resend.proofs.Setting.{armed_open, stays_open}
use Rattle.node_tests.proofs.wave_resend_tests.start_timer.Goals as goal

pub returns : goal.returns
returns c = stays_open (armed c.args.t) c.args.s c.args.w c.args.book.now c.arm.new.self (armed_open c.args.t) c.arm.ensures c.requires.wave

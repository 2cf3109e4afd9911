use Rattle.wave_resend.specs.Books.{all_sent}
use Rattle.wave_resend.proofs.Setting.{all_sent_open, stays_open}
use Rattle.node_tests.proofs.wave_resend_tests.pass_on.Goals as goal

pub returns : goal.returns
returns c = stays_open all_sent c.args.s c.args.w c.args.book.now c.mark_sent.new.self all_sent_open c.in_ok-mark_sent.ensures.ok c.requires

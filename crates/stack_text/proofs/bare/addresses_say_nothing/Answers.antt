use Rattle.stack_text.proofs.BareLines.{bare_bare, bare_has_no_feed, read_line_bare}
use Rattle.stack_text.proofs.BareThreads.{process_of_bare, thread_of_bare}
use Rattle.stack_text.proofs.bare.addresses_say_nothing.Goals as goal

pub returns : goal.returns
returns c = record {
  line = read_line_bare;
  thread = thread_of_bare;
  process = process_of_bare;
  idempotent = bare_bare;
  line_feeds = bare_has_no_feed;
}

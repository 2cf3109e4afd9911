use Rattle.stack_text.proofs.Pieces.{lines_have_no_feed, pieces_joined, thread_of_joined}
use Rattle.stack_text.proofs.threads.joined_lines_are_read_back.Goals as goal

pub returns : goal.returns
returns c = record { pieces = pieces_joined; line_feeds = lines_have_no_feed; thread = thread_of_joined }

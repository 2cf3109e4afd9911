-- What the code's calls stand for.
use Rattle.frame_name.specs.declared.call.Call.{Call}
use Rattle.frame_name.specs.Calls.{CallView}

abbrev pub call_view : Call → CallView
call_view c = record {
  name = c.name.items;
  binary = c.binary.items;
  is_deleted = c.is_deleted;
  offset = c.offset.items;
  file = c.file.items;
  line = c.line;
}

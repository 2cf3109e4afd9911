use Rattle.std.proofs.Common.{◌≡◌, drop}
use Rattle.stat_desk.specs.MemDesk.{entries_of, file_of}
use Rattle.stat_desk.proofs.mem_desk.bytes_of.Given as goal

abbrev pub invariant-loop-file : goal.invariant-loop-file
invariant-loop-file l =
    file_of (entries_of l.files) l.name ≡ file_of (entries_of (drop l.file-index l.files)) l.name

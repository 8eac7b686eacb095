use Rattle.std.proofs.Common.{◌<◌, ◌-◌, length}
use Rattle.io_core.proofs.FileReading.{FileReadSoFar}
use Rattle.io_core.proofs.whole.read_file.Given as goal

abbrev pub invariant-loop-count : goal.invariant-loop-count
invariant-loop-count g l = record {
  so_far : FileReadSoFar (g.F.Files.held l.fn.files) (g.F.Files.held l.files) l.name (g.F.Files.read_faults l.fn.files) (g.F.Files.read_faults l.files)
      (g.F.Files.write_faults l.fn.files) (g.F.Files.write_faults l.files) (g.F.Files.bytes_read l.fn.files) (g.F.Files.bytes_read l.files) l.limit l.all;
  room : 0 < length l.buf.items;
}

abbrev pub decreases-loop-count : goal.decreases-loop-count
decreases-loop-count g l = l.limit - length l.all

use Rattle.std.proofs.Common.{◌<◌, ◌-◌, length}
use Rattle.io_core.proofs.Reading.{ReadSoFar}
use Rattle.io_core.proofs.whole.read_whole.Given as goal

abbrev pub invariant-loop-count : goal.invariant-loop-count
invariant-loop-count g l = record {
  so_far : ReadSoFar (g.S.Source.left l.fn.src) (g.S.Source.left l.src) (g.S.Source.faults l.fn.src) (g.S.Source.faults l.src)
      (g.S.Source.bytes_read l.fn.src) (g.S.Source.bytes_read l.src) l.limit l.all;
  room : 0 < length l.buf.items;
}

abbrev pub decreases-loop-count : goal.decreases-loop-count
decreases-loop-count g l = l.limit - length l.all

use Rattle.std.proofs.Common.{◌≤◌, ◌-◌, length, take}
use Rattle.io_core.specs.Counts.{NeverFell, NoneFell}
use Rattle.io_core.specs.Contents.{Puts}
use Rattle.io_core.proofs.whole.write_file.Given as goal

abbrev pub invariant-loop-done : goal.invariant-loop-done
invariant-loop-done g l = record {
  within : l.done ≤ length l.bytes;
  written : Puts (g.F.Files.held l.fn.files) (g.F.Files.held l.files) l.name (λ _. take l.done l.bytes);
  writes_kept : NoneFell (g.F.Files.write_faults l.fn.files) (g.F.Files.write_faults l.files);
  reads_kept : NoneFell (g.F.Files.read_faults l.fn.files) (g.F.Files.read_faults l.files);
  bytes_kept : NeverFell (g.F.Files.bytes_read l.fn.files) (g.F.Files.bytes_read l.files);
}

abbrev pub decreases-loop-done : goal.decreases-loop-done
decreases-loop-done g l = length l.bytes - l.done

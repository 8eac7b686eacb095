use Rattle.std.proofs.Common.{◌≡◌, ◌≤◌, ◌-◌, length, take, is_some}
use Rattle.std.specs.Io.KnownBytes.{Appends}
use Rattle.io_core.specs.Counts.{NeverFell}
use Rattle.io_core.proofs.whole.write_whole.Given as goal

abbrev pub invariant-loop-done : goal.invariant-loop-done
invariant-loop-done g l = record {
  within : l.done ≤ length l.bytes;
  told : is_some (g.K.Sink.held l.sink) ≡ is_some (g.K.Sink.held l.fn.sink);
  written : Appends (g.K.Sink.held l.fn.sink) (g.K.Sink.held l.sink) (take l.done l.bytes);
  kept : NeverFell (g.K.Sink.faults l.fn.sink) (g.K.Sink.faults l.sink);
}

abbrev pub decreases-loop-done : goal.decreases-loop-done
decreases-loop-done g l = length l.bytes - l.done

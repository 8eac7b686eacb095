use Rattle.std.proofs.Common.{◌≡◌, ◌++◌}
use Rattle.topo_io.proofs.reading.objects.append_layers.Given as goal

abbrev pub invariant-loop-layer : goal.invariant-loop-layer
invariant-loop-layer l = l.layers ≡ l.initial.layers ++ l.yielded

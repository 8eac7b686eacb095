use Rattle.std.proofs.Common.{All, length, take}
use Rattle.std.specs.List.{AllZip}
use Rattle.topo_io.specs.Arcs.{LayerIsBelow}
use Rattle.run_state.specs.Targets.{targets}
use Rattle.run_texts.specs.Tracing.{IsTracedLayer}
use Rattle.run_texts.proofs.texts.arc_layers.Given as goal

abbrev pub invariant-loop-held : goal.invariant-loop-held
invariant-loop-held l = record {
  below : All (LayerIsBelow (length l.plane.arcs)) l.layers;
  each : AllZip (IsTracedLayer l.plane) (targets l.target (take l.held-index l.all)) l.layers;
}

use Rattle.run_plane.specs.LaidOut.{AreHeldFaces}
use Rattle.run_plane.proofs.plane.HeldFaces.by_labels.Given as goal

abbrev pub invariant-loop-number : goal.invariant-loop-number
invariant-loop-number l = record {
  features : AreHeldFaces l.labels.holders l.number l.fn.counts.polygons l.features.items;
  boxes : AreHeldFaces l.labels.boxes l.number l.fn.counts.boxes l.boxes.items;
}

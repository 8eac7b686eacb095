use Rattle.std.proofs.Common.{◌≡◌, length, map, List}
use Rattle.std.specs.List.{AllZip}
use Rattle.std.specs.Vec.Iter.{into_iter_items, into_iter_len}
use Rattle.plane_model.specs.Points.{Path}
use Rattle.run_plane.specs.LineArcs.{AreLineArcs}
use Rattle.run_sources.specs.declared.sources.ReadSource.{ReadSource}
use Rattle.run_beginning.specs.DrawnLayers.{IsDrawnSource}
use Rattle.run_beginning.specs.NextFeatures.{AreCounted}
use Rattle.run_beginning.proofs.BegunLemmas.{SourcesGo}
use Rattle.run_beginning.proofs.beginning.begin_sources.Given as goal

abbrev pub invariant-loop-source : goal.invariant-loop-source
invariant-loop-source l = record {
  go : (arcs : List Path) (paths : List (List Path)) (given : List ReadSource) → AllZip (AreLineArcs arcs) paths l.fn.lines.items → AllZip IsDrawnSource given l.fn.sources.items →
      SourcesGo arcs (record { faces = l.fn.features.items; lines = paths }) given l.layers.items (map (λ own. own.items) l.owned.items) l.next (into_iter_items l.source-iterator);
  counted : AreCounted l.next;
  sources : into_iter_len l.source-iterator ≡ length (into_iter_items l.source-iterator);
}

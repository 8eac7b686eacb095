use Rattle.std.proofs.Common.{◌∙◌, ap, flat_map}
use Rattle.std.specs.List.{flat_map}
use Rattle.topo_io.specs.Arcs.{marked, named_in_paths}
use Rattle.topo_io.proofs.MarkLemmas.{mark_more, all_marked}
use Rattle.topo_io.proofs.writing.numbering.mark_polygons.Goals as goal

pub loop-polygon-preserved : goal.loop-polygon-preserved
loop-polygon-preserved c = (
  c.mark_paths.ensures.count ∙ c.loop-polygon.invariant.0,
  mark_more named_in_paths c.loop-polygon.is_used c.mark_paths.new.is_used (marked c.args.is_used.now (flat_map named_in_paths c.args.polygons.now)) c.args.polygons.now c.loop-polygon.polygon-index c.polygon-item.result
      c.loop-polygon-test.true c.polygon-item.is (c.mark_paths.ensures.marked ∙ ap (λ ys. marked c.loop-polygon.is_used (named_in_paths ys)) c.as_slice.ensures.all) c.loop-polygon.invariant.1,
)

pub returns : goal.returns
returns c = record {
  marked = all_marked named_in_paths c.loop-polygon.is_used (marked c.args.is_used.now (flat_map named_in_paths c.args.polygons.now)) c.args.polygons.now c.loop-polygon.polygon-index c.loop-polygon-test.false c.loop-polygon.invariant.1;
  count = c.loop-polygon.invariant.0;
}

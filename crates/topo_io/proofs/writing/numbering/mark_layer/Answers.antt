use Rattle.std.proofs.Common.{◌∙◌, flat_map}
use Rattle.std.specs.List.{flat_map}
use Rattle.topo_io.specs.Arcs.{marked, named_in_shape}
use Rattle.topo_io.proofs.MarkLemmas.{mark_more, all_marked}
use Rattle.topo_io.proofs.writing.numbering.mark_layer.Goals as goal

pub loop-shape-preserved : goal.loop-shape-preserved
loop-shape-preserved c = (
  c.mark_shape.ensures.count ∙ c.loop-shape.invariant.0,
  mark_more named_in_shape c.loop-shape.is_used c.mark_shape.new.is_used (marked c.args.is_used.now (flat_map named_in_shape c.args.shapes.now)) c.args.shapes.now c.loop-shape.shape-index c.shape-item.result
      c.loop-shape-test.true c.shape-item.is c.mark_shape.ensures.marked c.loop-shape.invariant.1,
)

pub returns : goal.returns
returns c = record {
  marked = all_marked named_in_shape c.loop-shape.is_used (marked c.args.is_used.now (flat_map named_in_shape c.args.shapes.now)) c.args.shapes.now c.loop-shape.shape-index c.loop-shape-test.false c.loop-shape.invariant.1;
  count = c.loop-shape.invariant.0;
}

use Rattle.std.proofs.Common.{◌∙◌, ap, flat_map}
use Rattle.std.specs.List.{flat_map}
use Rattle.topo_io.specs.Arcs.{marked, named_in_shape, named_in_layer}
use Rattle.topo_io.proofs.MarkLemmas.{mark_more, all_marked}
use Rattle.topo_io.proofs.writing.numbering.mark_layers.Goals as goal

pub loop-layer-preserved : goal.loop-layer-preserved
loop-layer-preserved c = (
  c.mark_layer.ensures.count ∙ c.loop-layer.invariant.0,
  mark_more named_in_layer c.loop-layer.is_used c.mark_layer.new.is_used (marked c.args.is_used.now (flat_map named_in_layer c.args.layers.now)) c.args.layers.now c.loop-layer.layer-index c.layer-item.result
      c.loop-layer-test.true c.layer-item.is (c.mark_layer.ensures.marked ∙ ap (λ ys. marked c.loop-layer.is_used (flat_map named_in_shape ys)) (c.as_slice.ensures.all ∙ (λ i. (c.layer.view_is i).shapes))) c.loop-layer.invariant.1,
)

pub returns : goal.returns
returns c = record {
  marked = all_marked named_in_layer c.loop-layer.is_used (marked c.args.is_used.now (flat_map named_in_layer c.args.layers.now)) c.args.layers.now c.loop-layer.layer-index c.loop-layer-test.false c.loop-layer.invariant.1;
  count = c.loop-layer.invariant.0;
}

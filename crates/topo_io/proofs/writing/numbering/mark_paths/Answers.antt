use Rattle.std.proofs.Common.{◌∙◌, ap, flat_map}
use Rattle.std.specs.List.{flat_map}
use Rattle.topo_io.specs.Arcs.{marked, named_in_path}
use Rattle.topo_io.proofs.MarkLemmas.{mark_more, all_marked}
use Rattle.topo_io.proofs.writing.numbering.mark_paths.Goals as goal

pub loop-path-preserved : goal.loop-path-preserved
loop-path-preserved c = (
  c.mark_path.ensures.count ∙ c.loop-path.invariant.0,
  mark_more named_in_path c.loop-path.is_used c.mark_path.new.is_used (marked c.args.is_used.now (flat_map named_in_path c.args.paths.now)) c.args.paths.now c.loop-path.path-index c.path-item.result
      c.loop-path-test.true c.path-item.is (c.mark_path.ensures.marked ∙ ap (λ ys. marked c.loop-path.is_used (named_in_path ys)) c.as_slice.ensures.all) c.loop-path.invariant.1,
)

pub returns : goal.returns
returns c = record {
  marked = all_marked named_in_path c.loop-path.is_used (marked c.args.is_used.now (flat_map named_in_path c.args.paths.now)) c.args.paths.now c.loop-path.path-index c.loop-path-test.false c.loop-path.invariant.1;
  count = c.loop-path.invariant.0;
}

use Rattle.std.proofs.Common.{◌∙◌, ◌+◌, ap, sym, drop, List, Bool}
use Rattle.std.proofs.Math.ListN.{drop_of_length-le}
use Rattle.topo_io.specs.Arcs.{marked, named_in_path}
use Rattle.topo_io.proofs.MarkLemmas.{left_after}
use Rattle.topo_io.proofs.writing.numbering.mark_path.Goals as goal

pub loop-arc-preserved : goal.loop-arc-preserved
loop-arc-preserved c =
    let i = c.loop-arc.arc-index in
    let path = c.args.path.now in (
      c.mark.ensures.count ∙ c.loop-arc.invariant.0,
      ap (λ (m : List Bool). marked m (named_in_path (drop (i + 1) path))) c.mark.ensures.marked
          ∙ ap (λ ys. marked c.loop-arc.is_used (named_in_path ys)) (sym (left_after path i c.arc-item.result c.loop-arc-test.true c.arc-item.is)) ∙ c.loop-arc.invariant.1,
    )

pub returns : goal.returns
returns c = record {
  marked = ap (λ ys. marked c.loop-arc.is_used (named_in_path ys)) (sym (drop_of_length-le c.args.path.now c.loop-arc-test.false)) ∙ c.loop-arc.invariant.1;
  count = c.loop-arc.invariant.0;
}

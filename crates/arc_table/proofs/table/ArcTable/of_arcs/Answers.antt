use Rattle.std.proofs.Common.{◌<◌, length, map, sym, subst, arith}
use Rattle.std.specs.List.Sorted.{IsPermutation, IsSortedByKey}
use Rattle.std.proofs.lemmas.List.Sorted.{All-permutation}
use Rattle.plane_model.specs.Arcs.{SignedArc}
use Rattle.grid_base.specs.Order.{point_cmp}
use Rattle.arc_table.specs.Around.{signed_below, signed_of, start_of}
use Rattle.arc_table.proofs.SignedArcs.{all_below}
use Rattle.arc_table.proofs.table.ArcTable.of_arcs.Goals as goal

pub rows_of-requires : goal.rows_of-requires
rows_of-requires c = record {
  long = c.requires.long;
  all = subst (λ codes. IsPermutation (signed_below (length c.args.arcs.spans)) (map signed_of codes)) (sym c.deref.ensures.value) c.in_ok-codes.ensures.all;
  sorted = subst (λ codes. IsSortedByKey (start_of c.args.arcs.spans) point_cmp (map signed_of codes)) (sym c.deref.ensures.value) c.in_ok-codes.ensures.sorted;
}

pub invariant_of-result : goal.invariant_of-result
invariant_of-result c =
    let n = length c.args.arcs.spans in
    let outs = c.in_ok-nodes.field-0.outs.items in
    let turned = c.in_ok-nodes.ensures.turned in (
      c.requires.long,
      c.in_ok-nodes.ensures.rows,
      All-permutation (λ (a : SignedArc). a.arc < n) (signed_below n) outs turned.all (all_below n n (omega arith)),
      c.in_ok-inner.ensures.exact,
      c.requires.forward,
      turned,
      c.requires.once,
    )

use Rattle.std.proofs.Common.{◌∙◌, sym, length}
use Rattle.std.proofs.lemmas.Bool.{eqb-true, eqb-false}
use Rattle.arc_table.proofs.AroundRows.{none_around}
use Rattle.spatial_join.proofs.BesideLemmas.{beside_node, found_left, from_both}
use Rattle.line_ops.proofs.PointLemmas.{no_node}
use Rattle.spatial_join.proofs.beside.push_sets_at.Goals as goal

pub push_off_nodes-requires-clause-off : goal.push_off_nodes-requires-clause-off
push_off_nodes-requires-clause-off c =
    let around = c.around-around.result.now in
    no_node c.args.t.now c.args.p around c.around-around.ensures.exact (eqb-true (length around) 0 (sym c.is_empty.ensures ∙ c.if-is_empty.true))

pub push_off_nodes-requires-clause-around : goal.push_off_nodes-requires-clause-around
push_off_nodes-requires-clause-around c =
    let around = c.around-around.result.now in
    none_around c.args.t.now c.args.p around c.around-around.ensures.exact (eqb-true (length around) 0 (sym c.is_empty.ensures ∙ c.if-is_empty.true))

pub returns-else-is_empty : goal.returns-else-is_empty
returns-else-is_empty c =
    let arcs = c.args.t.now in
    let f = c.args.f.now in
    let p = c.args.p in
    let around = c.around-around.result.now in
    let some = eqb-false (length around) 0 (sym c.is_empty.ensures ∙ c.if-is_empty.false) in
    record {
      found = from_both c.push_left_of.result
          (found_left arcs f p c.args.owners.now around c.args.found.now.items c.push_left_of.new.found.items (beside_node arcs f p around c.around-around.ensures.exact some))
          c.push_left_of.ensures.found c.push_left_of.ensures.there;
    }

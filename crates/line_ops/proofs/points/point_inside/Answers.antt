use Rattle.std.proofs.Common.{◌∙◌, sym, length}
use Rattle.std.proofs.lemmas.Bool.{eqb-true, eqb-false}
use Rattle.arc_table.proofs.AroundRows.{none_around}
use Rattle.line_ops.proofs.PointLemmas.{inside_at_node, inside_off_node}
use Rattle.line_ops.proofs.points.point_inside.Goals as goal

pub inside_off_nodes-requires-clause-around : goal.inside_off_nodes-requires-clause-around
inside_off_nodes-requires-clause-around c =
    let around = c.around-around.result.now in
    none_around c.args.t.now c.args.p around c.around-around.ensures.exact (eqb-true (length around) 0 (sym c.is_empty.ensures ∙ c.if-is_empty.true))

pub returns-then-is_empty : goal.returns-then-is_empty
returns-then-is_empty c =
    let around = c.around-around.result.now in
    let made = c.inside_off_nodes.ensures in
    record {
      exact = inside_off_node c.args.t.now c.args.f.now c.args.p c.args.set.now around c.around-around.ensures.exact c.inside_off_nodes.result
          (eqb-true (length around) 0 (sym c.is_empty.ensures ∙ c.if-is_empty.true)) made.on_arc made.alone;
    }

pub returns-else-is_empty : goal.returns-else-is_empty
returns-else-is_empty c =
    let around = c.around-around.result.now in
    record {
      exact = inside_at_node c.args.t.now c.args.f.now c.args.p c.args.set.now around c.around-around.ensures.exact c.has_left_of.result
          (eqb-false (length around) 0 (sym c.is_empty.ensures ∙ c.if-is_empty.false)) c.has_left_of.ensures.exact;
    }

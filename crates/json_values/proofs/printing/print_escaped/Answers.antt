use Rattle.std.proofs.Common.{◌∙◌, arith}
use Rattle.json_values.proofs.Escapes.{escaped_step, escaped_end, stops_at, begins_on}
use Rattle.json_values.proofs.printing.print_escaped.Goals as goal

pub returns-then-n-rest-clause-ok : goal.returns-then-n-rest-clause-ok
returns-then-n-rest-clause-ok c =
    escaped_end c.loop-out.out _ c.loop-out.rest.now c.plain_count-n.result c.plain_count-n.ensures.count c.if-n-rest.true c.in_ok-extend.ensures.ok ∙ c.loop-out.invariant.0

pub print_escape-requires : goal.print_escape-requires
print_escape-requires c = record { escaped = stops_at c.loop-out.rest.now c.plain_count-n.result c.plain_count-n.ensures.count (omega arith) }

pub loop-out-preserved : goal.loop-out-preserved
loop-out-preserved c = (
  escaped_step c.loop-out.out _ _ c.loop-out.rest.now _ c.plain_count-n.result c.plain_count-n.ensures.count (omega arith) c.in_ok-extend.ensures.ok c.in_ok-print_escape.ensures.ok c.past-rest.ensures.exact ∙ c.loop-out.invariant.0,
  begins_on _ _ _ _ (begins_on _ _ _ _ c.loop-out.invariant.1 c.in_ok-extend.ensures.ok) c.in_ok-print_escape.ensures.ok,
)

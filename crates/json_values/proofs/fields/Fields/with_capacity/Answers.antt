use Rattle.std.proofs.Common.{lit<}
use Rattle.std.specs.List.{IsDistinct}
use Rattle.json_values.proofs.fields.Fields.with_capacity.Goals as goal

pub invariant_of-result : goal.invariant_of-result
unfolding IsDistinct
invariant_of-result c = rw (c.in_ok-with_capacity.ensures.items) (lit< tt, tt)

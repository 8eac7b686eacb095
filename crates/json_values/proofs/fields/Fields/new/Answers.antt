use Rattle.std.proofs.Common.{lit<}
use Rattle.std.specs.List.{IsDistinct}
use Rattle.json_values.proofs.fields.Fields.new.Goals as goal

pub invariant_of-result : goal.invariant_of-result
unfolding IsDistinct
invariant_of-result c = rw (c.new.ensures.items) (lit< tt, tt)

use Rattle.std.proofs.Common.{arith, subst, sym, List}
use Rattle.json_values.specs.Lists.{HaveDistinctNames}
use Rattle.json_values.proofs.Seen.{Member, length-fields_seen, fields_list-seen}
use Rattle.json_values.proofs.json.JsonFields.len.Goals as goal

pub returns-clause-count : goal.returns-clause-count
returns-clause-count c = rw (← c.self.view_is) (omega (arith, length-fields_seen c.self.inside.fields.items))

pub returns-clause-distinct : goal.returns-clause-distinct
returns-clause-distinct c = rw (← c.self.view_is) (subst (λ (fs : List Member). HaveDistinctNames fs) (sym (fields_list-seen c.self.inside.fields.items)) c.self.invariant.1)

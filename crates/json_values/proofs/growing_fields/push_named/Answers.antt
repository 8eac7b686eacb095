use Rattle.std.proofs.Common.{inr}
use Rattle.json_values.specs.Lists.{fields_list}
use Rattle.json_values.proofs.Indexing.{absent_last, index_grown}
use Rattle.json_values.proofs.growing_fields.push_named.Goals as goal

pub push_last-requires : goal.push_last-requires
push_last-requires c = record { last = absent_last c.args.name (fields_list c.args.fields.now) c.requires.new }

pub returns-in-Ok-clause-index : goal.returns-in-Ok-clause-index
returns-in-Ok-clause-index c = inr (index_grown _ c.args.fields.now c.push_last.new.self c.args.name _ c.requires.index c.requires.new c.in-Ok.ensures.ok)

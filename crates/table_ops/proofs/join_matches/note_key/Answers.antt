use Rattle.std.proofs.Common.{arith}
use Rattle.std.proofs.lemmas.Grind.{common_steps}
use Rattle.indexmap.specs.IndexMap.{get}
use Rattle.json_values.specs.Value.{same}
use Rattle.json_values.specs.declared.value.Value.{Value}
use Rattle.table_ops.proofs.Joining.{noted}
use Rattle.table_ops.proofs.join_matches.note_key.Goals as goal

pub returns : goal.returns
returns c = record { first = λ (k : Value). grind (arith, common_steps, noted c.args.key k (get same c.args.firsts.now) c.args.n) }

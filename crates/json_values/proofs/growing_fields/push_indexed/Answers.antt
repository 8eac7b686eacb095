use Rattle.std.proofs.Common.{ap, ◌∙◌}
use Rattle.json_values.proofs.Tables.{seen_names}
use Rattle.json_values.proofs.Indexing.{key_pushed}
use Rattle.json_values.proofs.growing_fields.push_indexed.Goals as goal

pub push_named-requires-clause-index : goal.push_named-requires-clause-index
push_named-requires-clause-index c = ap seen_names c.in-Ok.ensures.keys ∙ key_pushed c.args.names.now.keys c.in_ok-from_str.field-0 c.args.name c.args.fields.now (c.in_ok-from_str.ensures.ok ∙ c.as_str.ensures.lent) c.requires.index c.requires.new

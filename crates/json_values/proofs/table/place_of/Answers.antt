use Rattle.json_values.proofs.NamedValues.{index_place, index_lacks}
use Rattle.json_values.proofs.table.place_of.Goals as goal

pub returns-clause-some : goal.returns-clause-some
returns-clause-some c = index_place c.args.names.now.keys c.args.name.now c.get_index_of.result c.get_index_of.ensures.index

pub returns-clause-none : goal.returns-clause-none
returns-clause-none c = index_lacks c.args.names.now.keys c.args.name.now c.get_index_of.result c.get_index_of.ensures.found

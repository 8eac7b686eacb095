use Rattle.std.proofs.Common.{string_bytes}
use Rattle.std.specs.Str.{bytes_eq}
use Rattle.table_terms.proofs.Distinct.{IsDistinct-map}
use Rattle.table_terms.proofs.names.NameSet.new.Goals as goal

pub returns-clause-distinct : goal.returns-clause-distinct
returns-clause-distinct c = IsDistinct-map string_bytes bytes_eq c.new.result.keys c.new.ensures.unique

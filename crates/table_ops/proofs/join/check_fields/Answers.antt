use Rattle.std.proofs.Common.{[], Option, List, subst, sym, unwrap_or}
use Rattle.std.specs.List.{IsDistinct}
use Rattle.std.specs.Str.{bytes_eq}
use Rattle.table_terms.specs.Names.{Text}
use Rattle.table_terms.proofs.Distinct.{IsDistinct-none}
use Rattle.table_ops.proofs.join.check_fields.Goals as goal

pub returns-in-None-clause-distinct : goal.returns-in-None-clause-distinct
returns-in-None-clause-distinct c = subst (λ (o : Option (List Text)). IsDistinct bytes_eq (unwrap_or o [])) (sym c.in-None.is) (IsDistinct-none bytes_eq)

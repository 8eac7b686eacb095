use Rattle.std.proofs.Common.{◌∙◌, None}
use Rattle.std.specs.List.{last_or}
use Rattle.lists.specs.Lists.{numbers_where}
use Rattle.table_terms.specs.declared.renames.Rename.{Rename}
use Rattle.table_rows.proofs.rename.last_twice.Goals as goal

pub returns : goal.returns
returns c = record { last = c.last_repeated.ensures.last ∙ (λ i. last_or None (numbers_where (λ (pair : Rename). c.in_ok-repeated.ensures.twice pair.label i) c.args.pairs.now)) }

use Rattle.std.proofs.Common.{drop, sym, subst, ◌∙◌}
use Rattle.std.specs.Prelude.{Option}
use Rattle.table_rows.specs.Merge.{differing}
use Rattle.table_rows.specs.Refusals.{Refuses}
use Rattle.table_rows.specs.declared.fault.TableWhy.{TableWhy}
use Rattle.table_rows.proofs.Merging.{first_tested}
use Rattle.table_rows.proofs.merge.check_names.Goals as goal

pub returns : goal.returns
returns c =
    let tables = c.args.tables.now in
    let first = c.index-tables-0 in
    record {
      exact = subst (λ (o : Option TableWhy). Refuses c.check_others.result o)
          ((λ i. differing (c.names-first.ensures.names i) 1 (drop 1 tables)) ∙ (λ i. differing (first.is i).names 1 (drop 1 tables)) ∙ sym (first_tested tables first.result c.requires.some))
          c.check_others.ensures.exact;
    }

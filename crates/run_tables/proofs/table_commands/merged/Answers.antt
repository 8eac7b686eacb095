use Rattle.std.proofs.Common.{List, Ok, refl, sym, subst, ◌≡◌}
use Rattle.json_values.specs.Table.{TableContent}
use Rattle.table_rows.specs.Merge.{merge_tables}
use Rattle.run_state.specs.Targets.{targets}
use Rattle.run_tables.proofs.Gathering.{merge_goes}
use Rattle.run_tables.proofs.table_commands.merged.Goals as goal

pub returns-clause-made : goal.returns-clause-made
returns-clause-made c =
    record {
      first = c.first_target-first.result.now;
      begins = sym c.first_target-first.ensures.first;
      name = c.in_ok-copy_text.ensures.copied;
      kind = refl;
      table = subst (λ (tables : List TableContent). merge_tables tables c.args.force ≡ Ok c.in_ok-table.table) c.in_ok-tables.ensures.tables c.in_ok-table.ensures.exact;
      shapes = c.in_ok-tables.ensures.shapes;
    }

pub returns-clause-accepted : goal.returns-clause-accepted
returns-clause-accepted c =
    merge_goes c.args.force c.first_target-first.result.now (targets c.args.target.now c.args.layers.now) c.in_ok-tables.field-0.tables c.in_ok-table.table c.first_target-first.ensures.first c.in_ok-tables.ensures.tables c.in_ok-table.ensures.exact

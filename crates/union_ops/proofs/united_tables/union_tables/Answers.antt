use Rattle.std.proofs.Common.{◌∙◌, sym, ap, subst, ℕ, List, length, map}
use Rattle.std.proofs.lemmas.List.{length-map}
use Rattle.json_values.specs.Table.{TableContent, AreRows}
use Rattle.table_rows.specs.Merge.{all_names}
use Rattle.union_ops.specs.declared.union_lists.UnionItem.{UnionItem}
use Rattle.union_ops.specs.ColumnNames.{AreNewNames}
use Rattle.union_ops.specs.UnionTable.{union_row}
use Rattle.union_ops.proofs.united_tables.union_tables.Goals as goal

pub new-requires-clause-widths : goal.new-requires-clause-widths
new-requires-clause-widths c =
    subst (λ (n : ℕ). AreRows n c.in_ok-rows.rows)
    (ap (λ (ts : List TableContent). length (all_names ts)) (c.as_slice-2.ensures.all ∙ sym c.as_slice.ensures.all) ∙ sym c.in_ok-names.ensures.named.each) c.in_ok-rows.ensures.widths

pub returns : goal.returns
returns c =
    let rows = c.new.ensures.rows ∙ c.in_ok-rows.ensures.rows
    ∙ (λ i. map (λ (item : UnionItem). union_row (c.as_slice-2.ensures.all i) item.choice) (c.as_slice-3.ensures.all i)) in
    record {
      exact = record {
        names = subst (λ (ts : List TableContent). AreNewNames (all_names ts) c.new.result.names) c.as_slice.ensures.all
            (subst (AreNewNames (all_names c.as_slice.result.now)) (sym c.new.ensures.names) c.in_ok-names.ensures.named);
        rows = rows;
      };
      each = ap length rows ∙ length-map c.args.items.now (λ (item : UnionItem). union_row c.args.tables.now item.choice);
    }

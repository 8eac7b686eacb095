use Rattle.std.proofs.Common.{◌<◌, ℕ, List, Option, length, sym, ap, subst, arith}
use Rattle.std.specs.Prelude.{IfSome}
use Rattle.json_values.specs.Table.{AreRows, RowValues}
use Rattle.run_borders.proofs.Widths.{rows_alike}
use Rattle.run_borders.proofs.borders.ranked_row.Goals as goal

pub row_between-requires : goal.row_between-requires
row_between-requires c =
    let listed = c.args.listed.now in
    let rows : List RowValues = c.as_slice-rows.result.now in
    let many = length listed.rows in
    let widths : AreRows (length listed.names) rows = subst (AreRows (length listed.names)) (sym c.as_slice-rows.ensures.all) c.rows.ensures.widths in
    let left : c.in-Some-Some.left < many = subst (λ (n : Option ℕ). IfSome n (λ k. k < many)) c.in-Some-Some.is-0 c.requires.rows.left in
    let right : c.in-Some-Some.right < many = subst (λ (n : Option ℕ). IfSome n (λ k. k < many)) c.in-Some-Some.is-1 c.requires.rows.right in
    let all = ap length c.as_slice-rows.ensures.all in
    let held = ap length c.rows.ensures.rows in
    record {
      alike = rows_alike (length listed.names) rows c.in-Some-Some.left c.in-Some-Some.right c.index-rows-left.result c.index-rows-right.result widths (omega (arith, left, all, held)) (omega (arith, right, all, held)) c.index-rows-left.is c.index-rows-right.is;
    }

use Rattle.std.proofs.Common.{◌++◌, List, [], ◌∷◌, length, replicate, sym, ap, subst, ◌∙◌, arith, length-append}
use Rattle.std.proofs.lemmas.List.{replicate_more}
use Rattle.json_values.specs.Table.{AreRows, AreDistinctNames, RowValues}
use Rattle.run_state.proofs.Rows.{no_names, rows_grown}
use Rattle.run_borders.proofs.borders.bare_table.Goals as goal

pub loop-row-preserved : goal.loop-row-preserved
loop-row-preserved c =
    let row : RowValues = c.new.result in
    let none : RowValues = [] in
    let kept = c.loop-row.invariant in
    record {
      exact = c.in_ok-push.ensures.ok ∙ ap (λ (rows : List RowValues). rows ++ row ∷ []) kept.exact ∙ ap (λ (r : RowValues). replicate c.loop-row._row none ++ r ∷ []) c.new.ensures.empty ∙ replicate_more c.loop-row._row none;
      count = omega (arith, ap length c.in_ok-push.ensures.ok, length-append c.loop-row.rows (row ∷ []), kept.count);
      widths = subst (AreRows 0) (sym c.in_ok-push.ensures.ok) (rows_grown 0 c.loop-row.rows row kept.widths (ap length c.new.ensures.empty));
    }

pub new-requires-3-clause-distinct : goal.new-requires-3-clause-distinct
new-requires-3-clause-distinct c = subst AreDistinctNames (sym c.new-2.ensures.empty) no_names

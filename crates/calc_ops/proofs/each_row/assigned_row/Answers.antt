use Rattle.std.proofs.Common.{◌≡◌, ◌∙◌, ap, sym, subst, arith, List, [], Err, length, get_or, ◌+◌}
use Rattle.std.proofs.lemmas.Bool.Decides.{nat_tests}
use Rattle.std.proofs.lemmas.Result.{err_from_is_err_and}
use Rattle.expr_lang.specs.declared.assign.Assign.{Assign}
use Rattle.expr_lang.specs.Meaning.{evaluated}
use Rattle.expr_lang.specs.Tree.{all_assigned, tree_of}
use Rattle.json_values.specs.Table.{RowValues, AreRows}
use Rattle.table_rows.specs.Rows.{row_at}
use Rattle.table_rows.proofs.TakenRows.{long_at}
use Rattle.table_rows.proofs.Answering.{answers_other}
use Rattle.table_ops.specs.Filtering.{value_for}
use Rattle.calc_ops.specs.EachRow.{assigned_row, names_after, places_after}
use Rattle.calc_ops.proofs.EachLemmas.{SoFar, none_set, row_stops, row_sets}
use Rattle.calc_ops.proofs.IslandLemmas.{read_is}
use Rattle.calc_ops.proofs.each_row.assigned_row.Goals as goal

pub loop-i-init : goal.loop-i-init
loop-i-init c =
    let t = c.args.t.now in
    let items = c.as_slice-items.result.now in
    let row = c.index-as_slice-n.result in
    let read = c.index-as_slice-n.is ∙ ap (λ (rows : List RowValues). get_or rows c.args.n row) (c.as_slice.ensures.all ∙ c.rows.ensures.rows) in
    let copied : c.in_ok-values.values.items ≡ row_at t.rows c.args.n = c.in_ok-values.ensures.copied ∙ c.as_slice-2.ensures.all ∙ read_is t.rows c.args.n row [] c.requires.within read in
    none_set t.names items c.args.n (row_at t.rows c.args.n) c.args.targets.now.names c.args.targets.now.places.items c.in_ok-values.values.items copied
    (long_at (length t.names) t.rows c.args.n (subst (AreRows (length t.names)) c.rows.ensures.rows c.rows.ensures.widths) c.requires.within)
    (c.requires.names ∙ ap (λ (list : List Assign). names_after t.names (all_assigned list)) (sym c.as_slice-items.ensures.all))
    (c.requires.places ∙ ap (λ (list : List Assign). places_after t.names (all_assigned list)) (sym c.as_slice-items.ensures.all))

pub returns-in_err-value-clause-exact : goal.returns-in_err-value-clause-exact
returns-in_err-value-clause-exact c =
    let t = c.args.t.now in
    let items = c.as_slice-items.result.now in
    let item = c.index-items-i.result in
    let n = c.args.n in
    let p = err_from_is_err_and c.from_residual-in_err-value.result c.from_residual-in_err-value.ensures.1 in
    let same : value_for n (evaluated c.as_slice-in-loop-i.result.now c.deref.result.now n (tree_of (get_or items c.loop-i.i item).value)) ≡ value_for n (evaluated c.args.targets.now.names c.loop-i.values.items n (tree_of (get_or items c.loop-i.i item).value)) = (λ j. value_for n (evaluated (c.as_slice-in-loop-i.ensures.all j) (c.deref.ensures.value j) n (tree_of (get_or items c.loop-i.i item).value))) in
    answers_other _ c.in_err-value.field-0.0 _ _ (p.1 ∙ ap Err p.2) c.in_err-value.ensures.exact (λ why e.
    ap (λ (list : List Assign). assigned_row t.names n (all_assigned list) (row_at t.rows n)) (sym c.as_slice-items.ensures.all)
    ∙ row_stops t.names items n (row_at t.rows n) c.args.targets.now.names c.args.targets.now.places.items c.loop-i.i c.loop-i.values.items item c.loop-i.invariant (grind (arith, nat_tests, c.loop-i-test.true, c.loop-i.auto.i-end)) why (sym same ∙ e))

pub loop-i-preserved : goal.loop-i-preserved
loop-i-preserved c =
    let t = c.args.t.now in
    let items = c.as_slice-items.result.now in
    let item = c.index-items-i.result in
    let n = c.args.n in
    let final = c.args.targets.now.names in
    let places = c.args.targets.now.places.items in
    let same : value_for n (evaluated c.as_slice-in-loop-i.result.now c.deref.result.now n (tree_of (get_or items c.loop-i.i item).value)) ≡ value_for n (evaluated c.args.targets.now.names c.loop-i.values.items n (tree_of (get_or items c.loop-i.i item).value)) = (λ j. value_for n (evaluated (c.as_slice-in-loop-i.ensures.all j) (c.deref.ensures.value j) n (tree_of (get_or items c.loop-i.i item).value))) in
    subst (SoFar t.names items n (row_at t.rows n) final places (c.loop-i.i + 1)) (sym c.in_ok-set_at.ensures.set)
    (row_sets t.names items n (row_at t.rows n) final places c.loop-i.i c.loop-i.values.items item c.loop-i.invariant (grind (arith, nat_tests, c.loop-i-test.true, c.loop-i.auto.i-end)) c.in_ok-value.value c.index.result.now c.index.result.now (sym same ∙ c.in_ok-value.ensures.exact) c.index.ensures)

use Rattle.std.proofs.Common.{◌≡◌, ◌∙◌, ap, sym, subst, ℕ, length, Err}
use Rattle.std.specs.Prelude.{None, Ok}
use Rattle.std.proofs.lemmas.Result.{err_from_is_err_and}
use Rattle.json_values.specs.Table.{AreRows}
use Rattle.table_rows.proofs.Answering.{answers_other, unless_parts}
use Rattle.table_ops.specs.JoinColumns.{columns_of}
use Rattle.spatial_join.specs.Joined.{as_join, joined_names, refused_items}
use Rattle.spatial_join.proofs.ColumnLemmas.{join_goes, rows_made, rows_told}
use Rattle.spatial_join.proofs.joined.joined_table.Goals as goal

pub returns-in_err-rows-clause-exact : goal.returns-in_err-rows-clause-exact
returns-in_err-rows-clause-exact c =
    let p = err_from_is_err_and c.from_residual-in_err-rows.result c.from_residual-in_err-rows.ensures.1 in
    let target = c.args.target.now in
    let source = c.args.source.now in
    let spec = c.args.spec.now in
    let targets = c.names.ensures.names in
    let sources = c.names-2.ensures.names in
    let parts = unless_parts (refused_items c.names.result.now c.names-2.result.now spec) (joined_names c.names.result.now c.names-2.result.now spec) c.in_ok-columns.columns.names c.in_ok-columns.ensures.exact in
    let accepted : refused_items target.names source.names spec ≡ None = sym (λ i. refused_items (targets i) (sources i) spec) ∙ parts.0 in
    let told = rows_told target source spec c.args.matches.now c.rows.result.now c.deref.result.now c.rows.ensures.rows
    (c.deref.ensures.value ∙ c.in_ok-columns.ensures.cells ∙ (λ i. columns_of (targets i) (sources i) (as_join (sources i) spec))) in
    answers_other _ c.in_err-rows.field-0.0 _ _ (p.1 ∙ ap Err p.2) c.in_err-rows.ensures.exact (λ why e. join_goes target source spec c.args.matches.now (Err why) accepted (told ∙ e))

pub new-requires-clause-widths : goal.new-requires-clause-widths
new-requires-clause-widths c =
    let target = c.args.target.now in
    let source = c.args.source.now in
    let spec = c.args.spec.now in
    let targets = c.names.ensures.names in
    let sources = c.names-2.ensures.names in
    let parts = unless_parts (refused_items c.names.result.now c.names-2.result.now spec) (joined_names c.names.result.now c.names-2.result.now spec) c.in_ok-columns.columns.names c.in_ok-columns.ensures.exact in
    let told = rows_told target source spec c.args.matches.now c.rows.result.now c.deref.result.now c.rows.ensures.rows
    (c.deref.ensures.value ∙ c.in_ok-columns.ensures.cells ∙ (λ i. columns_of (targets i) (sources i) (as_join (sources i) spec))) in
    subst (λ (n : ℕ). AreRows n c.in_ok-rows.rows) (ap length (sym (λ i. joined_names (targets i) (sources i) spec) ∙ parts.1))
    (rows_made target source spec c.args.matches.now c.in_ok-rows.rows (told ∙ c.in_ok-rows.ensures.exact) c.requires.each).1

pub returns-clause-exact : goal.returns-clause-exact
returns-clause-exact c =
    let target = c.args.target.now in
    let source = c.args.source.now in
    let spec = c.args.spec.now in
    let targets = c.names.ensures.names in
    let sources = c.names-2.ensures.names in
    let parts = unless_parts (refused_items c.names.result.now c.names-2.result.now spec) (joined_names c.names.result.now c.names-2.result.now spec) c.in_ok-columns.columns.names c.in_ok-columns.ensures.exact in
    let accepted : refused_items target.names source.names spec ≡ None = sym (λ i. refused_items (targets i) (sources i) spec) ∙ parts.0 in
    let told = rows_told target source spec c.args.matches.now c.rows.result.now c.deref.result.now c.rows.ensures.rows
    (c.deref.ensures.value ∙ c.in_ok-columns.ensures.cells ∙ (λ i. columns_of (targets i) (sources i) (as_join (sources i) spec))) in
    let names : joined_names target.names source.names spec ≡ c.new.result.names = sym (λ i. joined_names (targets i) (sources i) spec) ∙ parts.1 ∙ sym c.new.ensures.names in
    join_goes target source spec c.args.matches.now (Ok c.in_ok-rows.rows) accepted (told ∙ c.in_ok-rows.ensures.exact)
    ∙ (λ i. Ok (record { names = names i; rows = sym c.new.ensures.rows i }))

pub returns-clause-each : goal.returns-clause-each
returns-clause-each c =
    let target = c.args.target.now in
    let source = c.args.source.now in
    let spec = c.args.spec.now in
    let targets = c.names.ensures.names in
    let sources = c.names-2.ensures.names in
    let told = rows_told target source spec c.args.matches.now c.rows.result.now c.deref.result.now c.rows.ensures.rows
    (c.deref.ensures.value ∙ c.in_ok-columns.ensures.cells ∙ (λ i. columns_of (targets i) (sources i) (as_join (sources i) spec))) in
    ap length c.new.ensures.rows ∙ (rows_made target source spec c.args.matches.now c.in_ok-rows.rows (told ∙ c.in_ok-rows.ensures.exact) c.requires.each).0

use Rattle.std.proofs.Common.{◌≡◌, ℕ, [], map, length, sym, subst, ap, ◌∙◌}
use Rattle.std.specs.Prelude.{Option, None, Ok, Err, vec_items}
use Rattle.std.proofs.lemmas.List.{length-map}
use Rattle.std.proofs.lemmas.Result.{err_from_is_err_and}
use Rattle.json_values.specs.Table.{AreRows}
use Rattle.table_rows.specs.Rows.{picked}
use Rattle.table_terms.specs.Names.{place_of}
use Rattle.table_rows.specs.Columns.{cells, kept_columns}
use Rattle.table_terms.specs.Refusals.{unless}
use Rattle.table_rows.specs.Refusals.{refused_item}
use Rattle.table_rows.proofs.Answering.{answers_seen, refused_alone, unless_parts, unless_refused}
use Rattle.table_rows.proofs.Cells.{picked_cells, picked_long}
use Rattle.table_rows.proofs.columns.keep_fields.Goals as goal

pub returns-in_err-places-clause-exact : goal.returns-in_err-places-clause-exact
returns-in_err-places-clause-exact c =
    let p = err_from_is_err_and c.from_residual.result c.from_residual.ensures.1 in
    let same = sym (λ i. refused_item (c.names.ensures.names i) [] 0 c.args.names.now) in
    answers_seen (vec_items {Z = ℕ}) _ c.in_err-places.field-0.0 _ _ (p.1 ∙ ap Err p.2) c.in_err-places.ensures.exact (λ why e. refused_alone _ _ why (same ∙ unless_refused _ _ why e))

pub new-requires-clause-widths : goal.new-requires-clause-widths
new-requires-clause-widths c =
    let fields = c.args.names.now in
    let names = c.names.result.now in
    let parts = unless_parts (refused_item names [] 0 fields) (map (place_of names) fields) c.in_ok-places.places.items c.in_ok-places.ensures.exact in
    let places = c.as_slice.result.now in
    let long : length places ≡ length c.in_ok-copy_names.field-0 =
    ap length (c.as_slice.ensures.value ∙ sym parts.1) ∙ length-map fields (place_of names) ∙ sym (ap length c.in_ok-copy_names.ensures.copied) in
    subst (AreRows (length c.in_ok-copy_names.field-0)) (sym c.in_ok-rows.ensures.taken)
    (subst (λ (n : ℕ). AreRows n (map (picked places) c.rows.result.now)) long (picked_long places c.rows.result.now))

pub returns-clause-exact : goal.returns-clause-exact
returns-clause-exact c =
    let t = c.args.t.now in
    let fields = c.args.names.now in
    let names = c.names.result.now in
    let parts = unless_parts (refused_item names [] 0 fields) (map (place_of names) fields) c.in_ok-places.places.items c.in_ok-places.ensures.exact in
    let accepted : refused_item t.names [] 0 fields ≡ None = sym (λ i. refused_item (c.names.ensures.names i) [] 0 fields) ∙ parts.0 in
    let places : c.as_slice.result.now ≡ map (place_of t.names) fields =
    c.as_slice.ensures.value ∙ sym parts.1 ∙ (λ i. map (place_of (c.names.ensures.names i)) fields) in
    let rows : c.new.result.rows ≡ map (cells t.names fields) t.rows =
    c.new.ensures.rows ∙ c.in_ok-rows.ensures.taken ∙ (λ i. map (picked (places i)) (c.rows.ensures.rows i)) ∙ picked_cells t.names fields t.rows in
    ap (λ (o : Option _). unless o (Ok (kept_columns t fields))) accepted ∙ (λ i. Ok (record { names = sym (c.new.ensures.names ∙ c.in_ok-copy_names.ensures.copied) i; rows = sym rows i }))

pub returns-clause-each : goal.returns-clause-each
returns-clause-each c =
    ap length (c.new.ensures.rows ∙ c.in_ok-rows.ensures.taken) ∙ length-map c.rows.result.now (picked c.as_slice.result.now) ∙ ap length c.rows.ensures.rows

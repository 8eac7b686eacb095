use Rattle.std.proofs.Common.{◌≡◌, ◌+◌, ◌++◌, ℕ, map, length, sym, subst, ap, ◌∙◌, length-append}
use Rattle.std.specs.Prelude.{Option, None, Ok, Err}
use Rattle.std.proofs.lemmas.List.{length-map}
use Rattle.std.proofs.lemmas.Result.{err_from_is_err_and}
use Rattle.json_values.specs.Table.{AreRows}
use Rattle.table_rows.specs.Grouping.{field_places, group_row, groups_by, refused_sums, table_of_groups}
use Rattle.table_terms.specs.Names.{place_of}
use Rattle.table_terms.specs.Refusals.{unless}
use Rattle.table_rows.proofs.Answering.{answers_refusal, refused_alone}
use Rattle.table_rows.proofs.Grouping.{grouped}
use Rattle.table_rows.proofs.Summing.{rows_long}
use Rattle.table_rows.proofs.group.table_of_groups.Goals as goal

pub new-table-requires-clause-widths : goal.new-table-requires-clause-widths
new-table-requires-clause-widths c =
    let t = c.args.t.now in
    let spec = c.args.spec.now in
    let place = place_of t.names in
    let long : length (field_places t spec.by) + length (field_places t spec.copy) + length (field_places t spec.sum) ≡ length c.args.names =
    (λ i. length-map spec.by place i + length-map spec.copy place i + length-map spec.sum place i)
    ∙ sym (ap length c.requires.names ∙ length-append (spec.by ++ spec.copy) spec.sum ∙ ap (λ (n : ℕ). n + length spec.sum) (length-append spec.by spec.copy)) in
    let groups = c.deref-2.result.now in
    subst (AreRows (length c.args.names)) (sym c.in_ok-rows.ensures.rows)
    (subst (λ (n : ℕ). AreRows n (map (group_row t.rows (field_places t spec.by) (field_places t spec.copy) (field_places t spec.sum)) groups)) long
    (rows_long t.rows (field_places t spec.by) (field_places t spec.copy) (field_places t spec.sum) groups))

pub returns-clause-exact : goal.returns-clause-exact
returns-clause-exact c =
    let t = c.args.t.now in
    let spec = c.args.spec.now in
    let groups = groups_by t spec.by in
    let members : c.in_ok-members.members.items ≡ groups_by t spec.by =
    grouped t c.args.columns.now spec.by (c.as_slice-2.ensures.value ∙ c.in_ok-by.ensures.places ∙ ap (map (place_of c.args.columns.now)) c.as_slice.ensures.all) c.requires.columns c.rows.ensures.rows c.in_ok-members.ensures.members in
    let slice : c.deref-2.result.now ≡ groups = c.deref-2.ensures.value ∙ members in
    let rows = c.new-table.ensures.rows ∙ c.in_ok-rows.ensures.rows
    ∙ (λ i. map (group_row t.rows (field_places t spec.by) (field_places t spec.copy) (field_places t spec.sum)) (slice i)) in
    let accepted : refused_sums t.rows (field_places t spec.sum) groups ≡ None =
    sym (λ i. refused_sums t.rows (field_places t spec.sum) (slice i)) ∙ sym c.in_ok-rows.ensures.refused ∙ c.in_ok-refuse.ensures.exact in
    ap (λ (o : Option _). unless o (Ok (table_of_groups t spec groups))) accepted
    ∙ (λ i. Ok (record { groups = sym (c.in_ok-groups.ensures.same ∙ members) i; table = record { names = sym (c.new-table.ensures.names ∙ c.requires.names) i; rows = sym rows i } }))

pub returns-in_err-refuse-clause-exact : goal.returns-in_err-refuse-clause-exact
returns-in_err-refuse-clause-exact c =
    let t = c.args.t.now in
    let spec = c.args.spec.now in
    let members : c.in_ok-members.members.items ≡ groups_by t spec.by =
    grouped t c.args.columns.now spec.by (c.as_slice-2.ensures.value ∙ c.in_ok-by.ensures.places ∙ ap (map (place_of c.args.columns.now)) c.as_slice.ensures.all) c.requires.columns c.rows.ensures.rows c.in_ok-members.ensures.members in
    let p = err_from_is_err_and c.from_residual-in_err-refuse.result c.from_residual-in_err-refuse.ensures.1 in
    answers_refusal _ c.in_err-refuse.field-0.0 _ _ (p.1 ∙ ap Err p.2) c.in_err-refuse.ensures.exact
    (λ why e. refused_alone _ _ why (sym (λ i. refused_sums t.rows (field_places t spec.sum) ((c.deref-2.ensures.value ∙ members) i)) ∙ sym c.in_ok-rows.ensures.refused ∙ e))

pub returns-clause-members : goal.returns-clause-members
returns-clause-members c =
    let t = c.args.t.now in
    let spec = c.args.spec.now in
    let members : c.in_ok-members.members.items ≡ groups_by t spec.by =
    grouped t c.args.columns.now spec.by (c.as_slice-2.ensures.value ∙ c.in_ok-by.ensures.places ∙ ap (map (place_of c.args.columns.now)) c.as_slice.ensures.all) c.requires.columns c.rows.ensures.rows c.in_ok-members.ensures.members in
    c.in_ok-groups.ensures.same ∙ members

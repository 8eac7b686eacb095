use Rattle.std.proofs.Common.{◌≡◌, List, map, subst, ◌∙◌}
use Rattle.std.specs.Prelude.{fold, IfOk, OnOk, Option}
use Rattle.std.specs.List.{flat_map}
use Rattle.json_values.specs.Table.{RowValues}
use Rattle.table_rows.specs.declared.fault.TableWhy.{TableWhy}
use Rattle.table_rows.specs.Grouping.{earlier, field_places, group_row, refusals}
use Rattle.table_terms.specs.Names.{place_of}
use Rattle.table_rows.proofs.group.rows_of_groups.Goals as goal

pub returns-clause-rows : goal.returns-clause-rows
returns-clause-rows c =
    let t = c.args.t.now in
    let spec = c.args.spec.now in
    let copied : c.deref.result.now ≡ field_places t spec.copy =
    c.deref.ensures.value ∙ c.in_ok-copied.ensures.places ∙ (λ i. map (place_of (c.requires.columns i)) (c.as_slice.ensures.all i)) in
    let summed : c.deref-2.result.now ≡ field_places t spec.sum =
    c.deref-2.ensures.value ∙ c.in_ok-summed.ensures.places ∙ (λ i. map (place_of (c.requires.columns i)) (c.as_slice-2.ensures.all i)) in
    subst (λ (out : List RowValues). IfOk c.group_rows_of.result (λ rows. rows ≡ out))
    (λ i. map (group_row (c.rows.ensures.rows i) (c.requires.by i) (copied i) (summed i)) c.args.members.now) c.group_rows_of.ensures.rows

pub returns-clause-refused : goal.returns-clause-refused
returns-clause-refused c =
    let t = c.args.t.now in
    let spec = c.args.spec.now in
    let summed : c.deref-2.result.now ≡ field_places t spec.sum =
    c.deref-2.ensures.value ∙ c.in_ok-summed.ensures.places ∙ (λ i. map (place_of (c.requires.columns i)) (c.as_slice-2.ensures.all i)) in
    subst (λ (r : Option TableWhy). OnOk c.group_rows_of.result (c.group_rows_of.new.refused ≡ r))
    (λ i. fold earlier c.args.refused.now (flat_map (refusals (c.rows.ensures.rows i) (summed i)) c.args.members.now)) c.group_rows_of.ensures.refused

use Rattle.std.proofs.Common.{◌≡◌, ◌<◌, All, List, [], ◌∷◌, map, length, sym, subst, ap, ◌∙◌}
use Rattle.std.specs.Prelude.{Option, None, Ok, Err}
use Rattle.std.proofs.lemmas.Result.{err_from_is_err_and}
use Rattle.json_values.specs.Table.{RowValues}
use Rattle.table_rows.specs.Rows.{picked}
use Rattle.table_terms.specs.Names.{place_of}
use Rattle.table_rows.specs.Groups.{groups_of}
use Rattle.table_terms.specs.Refusals.{unless}
use Rattle.table_rows.specs.Refusals.{refused_item}
use Rattle.table_rows.specs.Splitting.{piece, pieces_by}
use Rattle.table_rows.specs.declared.split.SplitItem.{SplitItem}
use Rattle.table_rows.proofs.Answering.{answers_other, refused_alone, unless_parts, unless_refused}
use Rattle.table_rows.proofs.Cells.{picked_cells}
use Rattle.table_rows.proofs.split.split_by.Goals as goal

pub returns-in_err-place-clause-exact : goal.returns-in_err-place-clause-exact
returns-in_err-place-clause-exact c =
    let p = err_from_is_err_and c.from_residual.result c.from_residual.ensures.1 in
    let same = sym (λ i. refused_item (c.names.ensures.names i) [] 0 (c.args.field.now ∷ [])) in
    answers_other _ c.in_err-place.field-0.0 _ _ (p.1 ∙ ap Err p.2) c.in_err-place.ensures.exact (λ why e. refused_alone _ _ why (same ∙ unless_refused _ _ why e))

pub returns-clause-exact : goal.returns-clause-exact
returns-clause-exact c =
    let t = c.args.t.now in
    let field = c.args.field.now in
    let parts = unless_parts (refused_item c.names.result.now [] 0 (field ∷ [])) (place_of c.names.result.now field) c.in_ok-place.place c.in_ok-place.ensures.exact in
    let none : refused_item t.names [] 0 (field ∷ []) ≡ None = sym (λ i. refused_item (c.names.ensures.names i) [] 0 (field ∷ [])) ∙ parts.0 in
    let place : c.in_ok-place.place ≡ place_of t.names field = sym parts.1 ∙ (λ i. place_of (c.names.ensures.names i) field) in
    let items : c.in_ok-pieces_at.field-0 ≡ pieces_by t field =
    c.in_ok-pieces_at.ensures.pieces ∙ (λ i. map (piece (c.rows.ensures.rows i) (place i)) (groups_of (map (picked (place i ∷ [])) (c.rows.ensures.rows i))))
    ∙ ap (λ (keys : List RowValues). map (piece t.rows (place_of t.names field)) (groups_of keys)) (picked_cells t.names (field ∷ []) t.rows) in
    ap (λ (o : Option _). unless o (Ok (pieces_by t field))) none ∙ sym (ap Ok items)

pub returns-clause-below : goal.returns-clause-below
returns-clause-below c =
    subst (λ (rows : List RowValues). All (λ (item : SplitItem). All (λ k. k < length rows) item.rows) c.in_ok-pieces_at.field-0) c.rows.ensures.rows c.in_ok-pieces_at.ensures.below

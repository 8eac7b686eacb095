use Rattle.std.proofs.Common.{map, subst, sym, ap, ◌∙◌}
use Rattle.std.specs.Prelude.{Option, Result, List, Ok, Err}
use Rattle.std.proofs.lemmas.Result.{err_from_is_err_and}
use Rattle.table_rows.specs.Columns.{renamed, refused_label}
use Rattle.table_terms.specs.Refusals.{first_refusal, unless}
use Rattle.table_terms.specs.Names.{Text}
use Rattle.table_rows.specs.Refusals.{Answers}
use Rattle.table_rows.specs.declared.fault.TableWhy.{TableWhy}
use Rattle.table_rows.proofs.Answering.{answers_refusal, refused_first}
use Rattle.table_rows.proofs.rename.names_after.Goals as goal

pub returns-in_err-note_fields-clause-exact : goal.returns-in_err-note_fields-clause-exact
returns-in_err-note_fields-clause-exact c =
    let p = err_from_is_err_and c.from_residual.result c.from_residual.ensures.1 in
    answers_refusal _ c.in_err-note_fields.field-0.0 _ _ (p.1 ∙ ap Err p.2) c.in_err-note_fields.ensures.exact (λ why e. refused_first _ _ _ why e)

pub returns-clause-exact : goal.returns-clause-exact
returns-clause-exact c =
    let pairs = c.args.pairs.now in
    let names = map (renamed pairs) c.args.names.now in
    subst (λ (r : Result (List Text) TableWhy). Answers c.distinct_names.result r)
    (sym (ap (λ (o : Option TableWhy). unless (first_refusal o (refused_label names pairs)) (Ok names)) c.in_ok-note_fields.ensures.exact)) c.distinct_names.ensures.exact

use Rattle.std.proofs.Common.{◌≡◌, map, length, subst, sym, ap, ◌∙◌}
use Rattle.std.specs.Prelude.{Option, None, Ok, Err}
use Rattle.std.specs.List.{last_or}
use Rattle.std.proofs.lemmas.List.{length-map}
use Rattle.std.proofs.lemmas.Result.{err_from_is_err_and}
use Rattle.lists.specs.Lists.{numbers_where}
use Rattle.json_values.specs.Table.{AreDistinctNames}
use Rattle.table_rows.specs.Columns.{renamed, is_twice, refused_label}
use Rattle.table_terms.specs.Refusals.{unless}
use Rattle.table_terms.specs.declared.renames.Rename.{Rename}
use Rattle.table_rows.specs.declared.fault.TableWhy.TheVariants.{FieldTwice}
use Rattle.table_rows.proofs.Answering.{answers_refusal, refused_alone}
use Rattle.table_rows.proofs.Renaming.{none_mapped, renamed_distinct}
use Rattle.table_rows.proofs.rename.distinct_names.Goals as goal

pub returns-in_err-check_labels-clause-exact : goal.returns-in_err-check_labels-clause-exact
returns-in_err-check_labels-clause-exact c =
    let p = err_from_is_err_and c.from_residual-in_err-check_labels.result c.from_residual-in_err-check_labels.ensures.1 in
    let pairs = c.args.pairs.now in
    answers_refusal _ c.in_err-check_labels.field-0.0 _ _ (p.1 ∙ ap Err p.2) c.in_err-check_labels.ensures.exact
    (λ why e. refused_alone _ _ why (sym (λ i. refused_label (c.in_ok-out.ensures.names i) pairs) ∙ e))

pub returns-clause-exact : goal.returns-clause-exact
returns-clause-exact c =
    let names = c.args.names.now in
    let pairs = c.args.pairs.now in
    let none : refused_label (map (renamed pairs) names) pairs ≡ None = sym (λ i. refused_label (c.in_ok-out.ensures.names i) pairs) ∙ c.in_ok-check_labels.ensures.exact in
    ap (λ (o : Option _). unless o (Ok (map (renamed pairs) names))) none ∙ ap Ok (sym c.in_ok-out.ensures.names)

pub returns-clause-distinct : goal.returns-clause-distinct
returns-clause-distinct c =
    let names = c.args.names.now in
    let pairs = c.args.pairs.now in
    let none : refused_label (map (renamed pairs) names) pairs ≡ None = sym (λ i. refused_label (c.in_ok-out.ensures.names i) pairs) ∙ c.in_ok-check_labels.ensures.exact in
    subst AreDistinctNames (sym c.in_ok-out.ensures.names)
    (renamed_distinct pairs names c.requires.distinct (none_mapped FieldTwice (last_or None (numbers_where (λ (p : Rename). is_twice (map (renamed pairs) names) p.label) pairs)) none))

pub returns-clause-each : goal.returns-clause-each
returns-clause-each c = ap length c.in_ok-out.ensures.names ∙ length-map c.args.names.now (renamed c.args.pairs.now)

use Rattle.std.proofs.Common.{◌≡◌, ◌++◌, ◌∙◌, List, [], Some, None, Ok, ap, length, map, sym, subst, unwrap_or}
use Rattle.std.specs.Prelude.{Option, Result}
use Rattle.std.specs.List.{IsDistinct}
use Rattle.std.specs.Str.{bytes_eq}
use Rattle.std.proofs.lemmas.Result.{IfOk-weaker}
use Rattle.table_terms.specs.Names.{Text}
use Rattle.table_terms.specs.Refusals.{first_refusal, unless}
use Rattle.join_terms.specs.declared.calculations.CalcSpec.{CalcSpec}
use Rattle.join_terms.specs.declared.joins.JoinSpec.{JoinSpec}
use Rattle.table_ops.specs.Join.{copied_name, new_fields}
use Rattle.table_ops.specs.JoinColumns.{columns_of}
use Rattle.table_ops.specs.declared.join_columns.Columns.{Columns}
use Rattle.table_rows.specs.Refusals.{AnswersAs, refused_item}
use Rattle.table_rows.specs.declared.fault.TableWhy.{TableWhy}
use Rattle.table_ops.proofs.Joining.{listed_differ}
use Rattle.spatial_join.specs.Joined.{calc_name, copied_names, joined_names, refused_calc}
use Rattle.spatial_join.proofs.calc_columns.joined_columns.Goals as goal

-- a join that copies just these fields
abbrev copying : CalcSpec → List Text → JoinSpec
copying spec fields = record { target_key = []; source_key = []; fields = Some fields; force = spec.force; test = None; prefix = spec.prefix }

pub copied_names-requires : goal.copied_names-requires
copied_names-requires c = record {
  fields_differ = subst (IsDistinct bytes_eq) (sym c.fields_of-fields.ensures.fields) (listed_differ c.args.spec.now.fields c.args.source.now c.requires.sources_differ c.in_ok-check_fields.ensures.distinct);
}

pub calculated_columns-requires-clause-fields_differ : goal.calculated_columns-requires-clause-fields_differ
calculated_columns-requires-clause-fields_differ c =
    subst (IsDistinct bytes_eq) (sym c.fields_of-fields.ensures.fields) (listed_differ c.args.spec.now.fields c.args.source.now c.requires.sources_differ c.in_ok-check_fields.ensures.distinct)

pub returns-clause-exact : goal.returns-clause-exact
returns-clause-exact c =
    let spec = c.args.spec.now in
    let target = c.args.target.now in
    let source = c.args.source.now in
    let fields = c.fields_of-fields.ensures.fields in
    let copied = c.in_ok-copied_names.ensures.names ∙ (λ i. map (λ (f : Text). spec.prefix ++ f) (fields i)) in
    let listed : refused_item source [] 0 (unwrap_or spec.fields []) ≡ None = sym (λ i. refused_item (c.requires.source i) [] 0 (unwrap_or spec.fields [])) ∙ c.in_ok-check_fields.ensures.exact in
    let count = length (unwrap_or spec.fields []) in
    let refused = refused_calc source (target ++ copied_names source spec) count spec.calc in
    subst (λ (r : Result (List Text) TableWhy). AnswersAs (λ (k : Columns). k.names) c.calculated_columns.result r)
    ((λ i. unless (refused_calc (c.requires.source i) (target ++ copied i) count spec.calc)
    (Ok (target ++ map (copied_name (copying spec (fields i))) (new_fields target (c.requires.source i) (copying spec (fields i))) ++ map calc_name spec.calc)))
    ∙ sym (ap (λ (o : Option TableWhy). unless (first_refusal o refused) (Ok (joined_names target source spec))) listed))
    c.calculated_columns.ensures.exact

pub returns-clause-cells : goal.returns-clause-cells
returns-clause-cells c =
    IfOk-weaker c.calculated_columns.result _ _ (λ made e. e ∙ (λ i. columns_of c.args.target.now (c.requires.source i) (copying c.args.spec.now (c.fields_of-fields.ensures.fields i)))) c.calculated_columns.ensures.cells

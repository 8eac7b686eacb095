use Rattle.std.proofs.Common.{◌++◌, ◌∙◌, List, [], Some, None, map, sym, subst}
use Rattle.std.specs.List.{IsDistinct}
use Rattle.std.specs.Str.{bytes_eq}
use Rattle.std.proofs.lemmas.Result.{IfOk-weaker}
use Rattle.table_terms.specs.Names.{Text}
use Rattle.join_terms.specs.declared.joins.JoinSpec.{JoinSpec}
use Rattle.table_ops.specs.Join.{copied_name, new_fields}
use Rattle.table_ops.specs.JoinColumns.{columns_of}
use Rattle.table_ops.proofs.Joining.{fields_differ, joined_names_differ}
use Rattle.table_ops.proofs.join_columns.columns_of.Goals as goal

pub copied_names-requires : goal.copied_names-requires
copied_names-requires c = record {
  fields_differ = subst (IsDistinct bytes_eq) (sym c.in_ok-fields.ensures.fields) (fields_differ c.args.source.now c.args.spec.now c.requires.sources_differ c.requires.fields_differ);
}

-- a join that copies just these fields
abbrev copying : JoinSpec → List Text → JoinSpec
copying spec fields = record { target_key = []; source_key = []; fields = Some fields; force = spec.force; test = None; prefix = spec.prefix }

pub returns-clause-cells : goal.returns-clause-cells
returns-clause-cells c =
    IfOk-weaker c.copied_columns.result _ _ (λ made e. e ∙ (λ i. columns_of c.args.target.now (c.requires.source i) (copying c.args.spec.now (c.in_ok-fields.ensures.fields i)))) c.copied_columns.ensures.cells

pub returns-clause-distinct : goal.returns-clause-distinct
returns-clause-distinct c =
    let spec = c.args.spec.now in
    let target = c.args.target.now in
    IfOk-weaker c.copied_columns.result _ _ (λ made e.
    subst (IsDistinct bytes_eq) (sym (e ∙ (λ i. target ++ map (copied_name spec) (new_fields target (c.requires.source i) (copying spec (c.in_ok-fields.ensures.fields i))))))
    (joined_names_differ target c.args.source.now spec c.requires.targets_differ (fields_differ c.args.source.now spec c.requires.sources_differ c.requires.fields_differ))) c.copied_columns.ensures.names

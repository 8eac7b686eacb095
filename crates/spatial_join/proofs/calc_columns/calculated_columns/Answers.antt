use Rattle.std.proofs.Common.{◌≡◌, ◌++◌, ◌∙◌, List, [], Ok, ap, length, map, sym, subst, unwrap_or}
use Rattle.std.specs.Prelude.{Option, None}
use Rattle.std.specs.List.{IsDistinct}
use Rattle.std.specs.Str.{bytes_eq}
use Rattle.table_terms.specs.Names.{Text}
use Rattle.table_terms.specs.Refusals.{unless}
use Rattle.table_ops.specs.Join.{copied_name, new_fields}
use Rattle.table_ops.specs.JoinColumns.{join_of}
use Rattle.table_rows.specs.declared.fault.TableWhy.{TableWhy}
use Rattle.spatial_join.specs.Joined.{calc_name, refused_calc}
use Rattle.spatial_join.proofs.ColumnLemmas.{joined_names_differ}
use Rattle.spatial_join.proofs.calc_columns.calculated_columns.Goals as goal

pub returns-clause-exact : goal.returns-clause-exact
returns-clause-exact c =
    let spec = c.args.spec.now in
    let target = c.args.target.now in
    let sources = c.args.sources.now in
    let copied = c.args.copied.now in
    let first = length (unwrap_or spec.fields []) in
    let new : List Text = target ++ map (copied_name (join_of copied)) (new_fields target sources (join_of copied)) in
    let accepted : refused_calc sources (target ++ copied.names) first spec.calc ≡ None =
    sym (λ i. refused_calc sources (c.requires.target i ++ copied.names) (c.listed_count-first.ensures.count i) (c.as_slice-calculations.ensures.all i)) ∙ c.in_ok-check_calculations.ensures.exact in
    let names = c.in_ok-append_names.ensures.appended ∙ (λ i. c.in_ok-columns.ensures.names i ++ map calc_name (c.as_slice-calculations.ensures.all i)) in
    ap (λ (o : Option TableWhy). unless o (Ok (new ++ map calc_name spec.calc))) accepted ∙ ap Ok (sym names)

pub returns-clause-distinct : goal.returns-clause-distinct
returns-clause-distinct c =
    let spec = c.args.spec.now in
    let target = c.args.target.now in
    let sources = c.args.sources.now in
    let copied = c.args.copied.now in
    let first = length (unwrap_or spec.fields []) in
    let accepted : refused_calc sources (target ++ map (copied_name (join_of copied)) copied.fields.now) first spec.calc ≡ None =
    sym (λ i. refused_calc sources (c.requires.target i ++ c.requires.copied i) (c.listed_count-first.ensures.count i) (c.as_slice-calculations.ensures.all i)) ∙ c.in_ok-check_calculations.ensures.exact in
    let names = c.in_ok-append_names.ensures.appended ∙ (λ i. c.in_ok-columns.ensures.names i ++ map calc_name (c.as_slice-calculations.ensures.all i)) in
    subst (IsDistinct bytes_eq) (sym names) (joined_names_differ target sources (join_of copied) spec.calc first c.requires.targets_differ c.requires.fields_differ accepted)

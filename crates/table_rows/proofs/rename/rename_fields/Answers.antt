use Rattle.std.proofs.Common.{◌≡◌, map, length, subst, sym, ap, ◌∙◌}
use Rattle.std.specs.Prelude.{Option, None, Ok, Err}
use Rattle.std.proofs.lemmas.Result.{err_from_is_err_and}
use Rattle.json_values.specs.Table.{AreRows}
use Rattle.table_rows.specs.Columns.{renamed, refused_renames}
use Rattle.table_terms.specs.Refusals.{unless}
use Rattle.table_rows.proofs.Answering.{answers_other, refused_alone, unless_parts, unless_refused}
use Rattle.table_rows.proofs.rename.rename_fields.Goals as goal

pub returns-in_err-names-clause-exact : goal.returns-in_err-names-clause-exact
returns-in_err-names-clause-exact c =
    let p = err_from_is_err_and c.from_residual.result c.from_residual.ensures.1 in
    let same = sym (λ i. refused_renames (c.names.ensures.names i) c.args.pairs.now) in
    answers_other _ c.in_err-names.field-0.0 _ _ (p.1 ∙ ap Err p.2) c.in_err-names.ensures.exact (λ why e. refused_alone _ _ why (same ∙ unless_refused _ _ why e))

pub new-requires-clause-widths : goal.new-requires-clause-widths
new-requires-clause-widths c =
    let long = ap length (sym c.names.ensures.names) ∙ sym c.in_ok-names.ensures.each in
    subst (AreRows (length c.in_ok-names.names)) (sym c.in_ok-rows.ensures.copied) (subst (λ n. AreRows n c.rows.result.now) long c.rows.ensures.widths)

pub returns-clause-exact : goal.returns-clause-exact
returns-clause-exact c =
    let t = c.args.t.now in
    let pairs = c.args.pairs.now in
    let parts = unless_parts (refused_renames c.names.result.now pairs) (map (renamed pairs) c.names.result.now) c.in_ok-names.names c.in_ok-names.ensures.exact in
    let none : refused_renames t.names pairs ≡ None = sym (λ i. refused_renames (c.names.ensures.names i) pairs) ∙ parts.0 in
    let names = sym (ap (map (renamed pairs)) c.names.ensures.names) ∙ parts.1 ∙ sym c.new.ensures.names in
    ap (λ (o : Option _). unless o (Ok (record { names = map (renamed pairs) t.names; rows = t.rows }))) none
    ∙ (λ i. Ok (record { names = names i; rows = sym (c.new.ensures.rows ∙ c.in_ok-rows.ensures.copied ∙ c.rows.ensures.rows) i }))

use Rattle.std.proofs.Common.{◌≡◌, List, ℕ, length, ap, sym, ◌∙◌}
use Rattle.std.specs.Prelude.{Option, Result, None, Ok}
use Rattle.std.proofs.lemmas.List.{length-map}
use Rattle.json_values.specs.Table.{RowValues}
use Rattle.table_ops.specs.Join.{candidates, joined_table, joined_row, match_of, refused_join}
use Rattle.table_terms.specs.Refusals.{unless, on_ok}
use Rattle.table_ops.proofs.join.tested_join.Goals as goal

pub returns-clause-exact : goal.returns-clause-exact
returns-clause-exact c =
    let spec = c.args.spec.now in
    let target = c.args.target.now in
    let source = c.args.source.now in
    let accepted : refused_join target.names source.names spec ≡ None =
    sym (λ i. refused_join (c.requires.target i) (c.requires.source i) spec) ∙ c.in_ok-check_join.ensures.exact in
    let joined = c.in_ok-joined_table.ensures.exact ∙ (λ i. joined_table target source spec (c.as_slice.ensures.all i)) in
    ap (λ (o : Option _). unless o (on_ok (candidates source spec.test) (λ (numbers : List ℕ). Ok (joined_table target source spec numbers)))) accepted
    ∙ ap (λ (r : Result (List ℕ) _). on_ok r (λ (numbers : List ℕ). Ok (joined_table target source spec numbers))) c.in_ok-numbers.ensures.exact
    ∙ sym (ap Ok joined)

pub returns-clause-each : goal.returns-clause-each
returns-clause-each c =
    let spec = c.args.spec.now in
    let target = c.args.target.now in
    let source = c.args.source.now in
    (λ i. length (c.in_ok-joined_table.ensures.exact i).rows)
    ∙ length-map target.rows (λ (row : RowValues). joined_row target.names source.names spec row (match_of target source spec c.as_slice.result.now row))

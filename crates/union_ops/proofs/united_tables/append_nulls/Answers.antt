use Rattle.std.proofs.Common.{◌∙◌, sym, ap, arith, ◌<◌, [], ◌∷◌, ◌++◌, length, map, take, append_assoc}
use Rattle.std.proofs.lemmas.List.{map_more}
use Rattle.json_values.specs.Table.{RowValues}
use Rattle.json_values.specs.declared.value.Value.{Value}
use Rattle.json_values.specs.declared.value.Value.TheVariants.{Null}
use Rattle.table_terms.specs.Names.{Text}
use Rattle.union_ops.proofs.united_tables.append_nulls.Goals as goal

pub loop-column-preserved : goal.loop-column-preserved
loop-column-preserved c =
    let names = c.args.names.now in
    let old = c.args.out.now in
    let i = c.loop-column._column in
    let l : i < length names = (let e = c.len-column-end.ensures.count in let t = c.loop-column-test.true in omega arith) in
    let null : Text → Value = λ (name : Text). Null in
    c.in_ok-push.ensures.ok ∙ ap (λ (row : RowValues). row ++ Null ∷ []) c.loop-column.invariant ∙ append_assoc old (map null (take i names)) (Null ∷ [])
    ∙ ap (λ (row : RowValues). old ++ row) (sym (map_more null names i [] l))

use Rattle.std.proofs.Common.{◌++◌, ◌∷◌, [], ap, sym, ◌∙◌}
use Rattle.std.proofs.lemmas.List.{map_more}
use Rattle.table_ops.specs.JoinColumns.{join_of, kept_column}
use Rattle.table_ops.proofs.join_columns.kept_columns.Goals as goal

pub loop-name-preserved : goal.loop-name-preserved
loop-name-preserved c =
    let items = c.as_slice-name-items.result.now in
    let column = kept_column c.args.targets.now c.args.sources.now (join_of c.args.copied.now) in
    let cell = c.kept_column.ensures.from ∙ ap column (c.as_str.ensures.lent ∙ c.name-item.is) in
    c.in_ok-push.ensures.items ∙ (λ j. c.loop-name.invariant j ++ cell j ∷ []) ∙ sym (map_more column items c.loop-name.name-index c.name-item.result c.loop-name-test.true)

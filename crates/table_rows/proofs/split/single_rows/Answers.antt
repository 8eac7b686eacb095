use Rattle.std.proofs.Common.{All, ◌<◌, length, take, subst, sym, arith, length-take}
use Rattle.json_values.specs.Table.{RowValues}
use Rattle.table_rows.specs.declared.split.SplitItem.{SplitItem}
use Rattle.table_rows.proofs.Pieces.{singles_below}
use Rattle.table_rows.proofs.split.single_rows.Goals as goal

pub returns-clause-below : goal.returns-clause-below
returns-clause-below c =
    let rows = c.args.rows.now in
    let short = length-take {A = RowValues} c.loop-n.n rows in
    subst (All (λ (item : SplitItem). All (λ k. k < length rows) item.rows)) (sym c.loop-n.invariant)
    (singles_below (length rows) 0 (take c.loop-n.n rows) (omega (arith, short)))

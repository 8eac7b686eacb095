use Rattle.std.proofs.Common.{◌≡◌, ◌<◌, ℕ, All, List, map, length, sym, subst}
use Rattle.std.specs.Prelude.{IfOk}
use Rattle.std.proofs.lemmas.Result.{IfOk-weaker}
use Rattle.table_rows.specs.Splitting.{piece}
use Rattle.table_rows.specs.declared.split.SplitItem.{SplitItem}
use Rattle.table_rows.proofs.Pieces.{pieces_below}
use Rattle.table_rows.proofs.split.pieces_at.Goals as goal

pub returns-clause-pieces : goal.returns-clause-pieces
returns-clause-pieces c =
    subst (λ (groups : List (List ℕ)). IfOk c.with_values.result (λ items. items ≡ map (piece c.args.rows.now c.args.place) groups)) c.in_ok-members.ensures.members c.with_values.ensures.pieces

pub returns-clause-below : goal.returns-clause-below
returns-clause-below c =
    let rows = c.args.rows.now in
    let groups = c.in_ok-members.members.items in
    IfOk-weaker c.with_values.result (λ items. items ≡ map (piece rows c.args.place) groups) (λ items. All (λ (item : SplitItem). All (λ k. k < length rows) item.rows) items)
    (λ items e. subst (All (λ (item : SplitItem). All (λ k. k < length rows) item.rows)) (sym e) (pieces_below (length rows) rows c.args.place groups c.in_ok-members.ensures.below)) c.with_values.ensures.pieces

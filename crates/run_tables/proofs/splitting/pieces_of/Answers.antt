use Rattle.std.proofs.Common.{◌+◌, ◌<◌, All, List, length, subst, sym, take}
use Rattle.std.specs.List.{AllZip, enumerate_from}
use Rattle.std.proofs.lemmas.List.Elements.{All-get_or}
use Rattle.table_rows.specs.declared.split.SplitItem.{SplitItem}
use Rattle.run_plane.specs.declared.layer.Layer.{Layer}
use Rattle.run_tables.specs.Pieces.{IsPiece}
use Rattle.run_tables.proofs.Pieces.{pieces_more}
use Rattle.run_tables.proofs.splitting.pieces_of.Goals as goal

pub piece-requires : goal.piece-requires
piece-requires c =
    let items = c.args.items.now in
    let item = c.index-items-i.result in
    record {
      below = subst (λ (z : SplitItem). All (λ n. n < length c.args.layer.now.table.rows) z.rows) (sym c.index-items-i.is)
          (All-get_or (λ (z : SplitItem). All (λ n. n < length c.args.layer.now.table.rows) z.rows) items c.loop-i.i item c.loop-i-test.true c.requires.below);
    }

pub loop-i-preserved : goal.loop-i-preserved
loop-i-preserved c =
    subst (λ (made : List Layer). AllZip (IsPiece c.args.layer.now) (enumerate_from 1 (take (c.loop-i.i + 1) c.args.items.now)) made) (sym c.in_ok-push.ensures.items)
    (pieces_more c.args.layer.now c.args.items.now c.loop-i.i c.index-items-i.result c.loop-i.pieces.items c.in_ok-piece.field-0 c.loop-i-test.true c.index-items-i.is c.loop-i.invariant c.in_ok-piece.ensures.piece)

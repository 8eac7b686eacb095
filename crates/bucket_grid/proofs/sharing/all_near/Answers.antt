use Rattle.std.proofs.Common.{subst, arith, All}
use Rattle.std.proofs.lemmas.List.{append-nil, take_all}
use Rattle.std.proofs.lemmas.List.Elements.{All-more}
use Rattle.std.proofs.lemmas.Grind.{common_steps}
use Rattle.bucket_grid.specs.Rects.{share_point}
use Rattle.bucket_grid.proofs.Numbers.{numbers_where_map_more}
use Rattle.bucket_grid.proofs.sharing.all_near.Goals as goal

pub loop-i-preserved : goal.loop-i-preserved
loop-i-preserved g c =
    let items = c.args.items.now in
    let i = c.loop-i.i in
    let item = c.index-items-i.result in
    let test = c.loop-i-test.true in
    let m = numbers_where_map_more (share_point c.args.rect) g.T.Boxed.corners items i item (omega arith) in
    record {
      near = grind (arith, common_steps, append-nil);
      told = All-more g.T.Boxed.known items i item (omega arith) c.loop-i.invariant.told (subst g.T.Boxed.known c.index-items-i.is c.rect.ensures.told);
    }

pub returns-clause-told : goal.returns-clause-told
returns-clause-told g c =
    let items = c.args.items.now in
    let done = c.loop-i-test.false in
    subst (All g.T.Boxed.known) (take_all c.loop-i.i items (omega arith)) c.loop-i.invariant.told

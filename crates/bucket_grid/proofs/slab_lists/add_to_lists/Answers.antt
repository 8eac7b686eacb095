use Rattle.bucket_grid.proofs.ListLemmas.{put_done}
use Rattle.bucket_grid.proofs.slab_lists.add_to_lists.Goals as goal

pub returns : goal.returns
returns c = record { exact = put_done c.args.from c.args.end c.args.id c.loop-k.k c.args.lists.now.items c.loop-k.lists.items c.loop-k-test.false c.loop-k.invariant.1 c.loop-k.invariant.0 }

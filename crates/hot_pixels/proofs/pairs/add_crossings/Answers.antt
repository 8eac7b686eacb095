use Rattle.std.proofs.lemmas.Result.{on_ok_weaker}
use Rattle.hot_pixels.proofs.CrossingLemmas.{all_crossings}
use Rattle.hot_pixels.proofs.pairs.add_crossings.Goals as goal

pub returns : goal.returns
returns c = record { ok = on_ok_weaker c.add_crossings_in.result (λ added. all_crossings c.args.edges.now c.args.buckets.now c.requires c.args.points.now.items c.add_crossings_in.new.points.items added) c.add_crossings_in.ensures.ok }

use Rattle.std.proofs.Common.{◌++◌, ◌∙◌, ap, get_or, arith}
use Rattle.std.specs.Option.{option_to_list}
use Rattle.std.proofs.lemmas.List.{get_or_default}
use Rattle.hot_pixels.specs.Spots.{crossing_at, crossings_with}
use Rattle.hot_pixels.proofs.CrossingLemmas.{pair_of}
use Rattle.hot_pixels.proofs.Appending.{appends_more, appends_all}
use Rattle.hot_pixels.proofs.pairs.add_crossings_with.Goals as goal

pub loop-j-preserved : goal.loop-j-preserved
loop-j-preserved c =
    appends_more (λ j. option_to_list (crossing_at c.args.edges.now c.args.i j)) (c.args.points.now.items ++ crossings_with c.args.edges.now c.args.i c.args.near.now) c.loop-j.points.items c.push_some.new.points.items (get_or c.args.near.now c.loop-j.j-index 0) c.args.near.now c.loop-j.j-index (omega arith) (get_or_default c.args.near.now c.loop-j.j-index 0 (get_or c.args.near.now c.loop-j.j-index 0) (omega arith)) c.loop-j.invariant
    (c.in_ok-push_some.ensures.added ∙ ap (λ o. c.loop-j.points.items ++ option_to_list o) (c.crossing_of.ensures.exact ∙ pair_of c.args.edges.now c.args.i (get_or c.args.near.now c.loop-j.j-index 0) c.index-edges-i.result c.index-edges-j.result c.requires.first (c.requires.there c.loop-j.j-index 0 (omega arith)) c.index-edges-i.is c.index-edges-j.is))

pub returns : goal.returns
returns c = record { added = appends_all (λ j. option_to_list (crossing_at c.args.edges.now c.args.i j)) (c.args.points.now.items ++ crossings_with c.args.edges.now c.args.i c.args.near.now) c.loop-j.points.items c.args.near.now c.loop-j.j-index (omega arith) c.loop-j.invariant }

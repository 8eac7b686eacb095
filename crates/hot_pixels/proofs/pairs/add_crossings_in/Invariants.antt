use Rattle.hot_pixels.specs.Found.{HasCrossingsBefore}
use Rattle.hot_pixels.proofs.pairs.add_crossings_in.Given as goal

abbrev pub invariant-loop-place : goal.invariant-loop-place
invariant-loop-place l = HasCrossingsBefore l.place l.buckets.near l.edges l.initial.points.items l.points.items

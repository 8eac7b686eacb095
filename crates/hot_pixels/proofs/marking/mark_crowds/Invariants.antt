use Rattle.std.proofs.Common.{◌≡◌, length}
use Rattle.hot_pixels.specs.Marking.{AreCrowdsMarked}
use Rattle.hot_pixels.proofs.marking.mark_crowds.Given as goal

abbrev pub invariant-loop-place : goal.invariant-loop-place
invariant-loop-place l = (length l.marks.items ≡ length l.edges) × AreCrowdsMarked l.place l.buckets.near l.marks.items

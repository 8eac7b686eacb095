use Rattle.std.proofs.Common.{◌≡◌, length}
use Rattle.link_search.specs.Parting.{AreTreesOver}
use Rattle.link_search.proofs.search.trees_of.Given as goal

abbrev pub invariant-loop-place : goal.invariant-loop-place
invariant-loop-place l = record {
  count : length l.trees.items ≡ l.place;
  over : AreTreesOver l.links l.buckets.near l.trees.items;
}

use Rattle.std.proofs.Common.{◌≡◌, take}
use Rattle.link_search.specs.Rows.{stops_of}
use Rattle.link_search.proofs.links.highs_of.Given as goal

abbrev pub invariant-loop-l : goal.invariant-loop-l
invariant-loop-l l = l.highs.items ≡ stops_of (take l.l-index l.links)

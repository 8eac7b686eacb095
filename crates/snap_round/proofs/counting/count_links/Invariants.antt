use Rattle.std.proofs.Common.{◌≡◌, take}
use Rattle.std.specs.Prelude.{sum_by}
use Rattle.snap_round.specs.Counting.{links_along}
use Rattle.snap_round.proofs.counting.count_links.Given as goal

abbrev pub invariant-loop-s : goal.invariant-loop-s
invariant-loop-s l = l.count ≡ sum_by (links_along l.hot) (take l.s-index l.spots)

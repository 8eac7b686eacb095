use Rattle.std.proofs.Common.{◌≡◌, ◌++◌, drop, Contains}
use Rattle.std.specs.List.{flat_map}
use Rattle.snap_round.specs.Joining.{steps_after, chain_after}
use Rattle.snap_round.proofs.joining.append_chains.Given as goal

abbrev pub invariant-loop-p : goal.invariant-loop-p
invariant-loop-p l = (l.initial.progress.joined ++ flat_map (chain_after l.hot.points) (steps_after l.fn.from l.rest) ≡ l.progress.joined ++ flat_map (chain_after l.hot.points) (steps_after l.last (drop l.p-index l.rest)))
    × Contains l.hot.points l.last

use Rattle.std.proofs.Common.{◌≡◌, take}
use Rattle.calc_ops.specs.Islands.{links_of}
use Rattle.calc_ops.proofs.islands.links_of.Given as goal

abbrev pub invariant-loop-arc : goal.invariant-loop-arc
invariant-loop-arc l = l.links ≡ links_of l.t (take l.arc-index l.around)

use Rattle.std.proofs.Common.{◌≡◌, ◌<◌, ◌++◌, All, length, drop}
use Rattle.topo_io.specs.Arcs.{numbers_of_marks}
use Rattle.topo_io.proofs.writing.numbering.used_of.Given as goal

abbrev pub invariant-loop-n : goal.invariant-loop-n
invariant-loop-n l = All (λ k. k < length l.is_used) l.used × (l.used ++ numbers_of_marks l.n (drop l.n l.is_used) ≡ numbers_of_marks 0 l.is_used)

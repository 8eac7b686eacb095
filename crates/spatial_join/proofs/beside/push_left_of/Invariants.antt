use Rattle.std.proofs.Common.{◌≡◌, ◌++◌, ◌<◌, All, take}
use Rattle.line_ops.specs.Inside.{left_of}
use Rattle.spatial_join.specs.Beside.{lists_left_of}
use Rattle.spatial_join.proofs.beside.push_left_of.Given as goal

abbrev pub invariant-loop-a : goal.invariant-loop-a
invariant-loop-a l = record {
  found : l.found.items ≡ l.initial.found.items ++ lists_left_of l.owners l.f (take l.a-index l.arcs);
  there : All (λ a. left_of l.f a < l.f.count) (take l.a-index l.arcs);
}

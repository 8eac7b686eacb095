use Rattle.std.proofs.Common.{◌≡◌, ℕ, List, take}
use Rattle.face_sets.specs.Owners.{AreOwners}
use Rattle.face_sets.specs.Sets.{IsSetOf}
use Rattle.calc_ops.specs.Islands.{mainland}
use Rattle.calc_ops.proofs.islands.without_islands.Given as goal

abbrev pub invariant-loop-piece : goal.invariant-loop-piece
invariant-loop-piece l = record {
  so_far : (sets : List (List ℕ)) → AreOwners sets l.f.count l.owners → l.faces.items ≡ mainland l.t l.f sets l.least.area l.least.links l.n (take l.piece-index l.piece-items);
  inner : IsSetOf l.f l.faces.items;
}

use Rattle.std.proofs.Common.{◌≡◌, ◌++◌, List, ℕ, take}
use Rattle.std.specs.List.{flat_map}
use Rattle.face_sets.specs.Boundary.{face_right_of}
use Rattle.face_sets.specs.Owners.{owners_of}
use Rattle.region_ops.specs.Filled.{AreSoleOwners}
use Rattle.region_ops.proofs.filled_sets.push_neighbours.Given as goal

abbrev pub invariant-loop-arc : goal.invariant-loop-arc
invariant-loop-arc l = (cleaned : List (List ℕ)) → AreSoleOwners cleaned l.f.count l.firsts → l.numbers.items ≡ l.fn.numbers.items ++ flat_map (λ a. owners_of cleaned (face_right_of l.f.places a)) (take l.arc-index l.round)

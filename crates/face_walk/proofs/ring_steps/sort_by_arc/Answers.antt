use Rattle.std.proofs.lemmas.List.Sorted.{IsPermutation-trans}
use Rattle.face_walk.proofs.RingStepLemmas.{arcs_in_order}
use Rattle.face_walk.proofs.ring_steps.sort_by_arc.Goals as goal

pub returns-clause-moved : goal.returns-clause-moved
returns-clause-moved c = IsPermutation-trans _ _ _ c.move_to_positions.ensures.same c.sort_unstable.ensures.permutation

pub returns-clause-sorted : goal.returns-clause-sorted
returns-clause-sorted c = arcs_in_order c.sort_unstable.new.self.items c.sort_unstable.ensures.sorted

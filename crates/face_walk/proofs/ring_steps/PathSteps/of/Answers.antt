use Rattle.std.proofs.Common.{sym, subst, ℕ, List}
use Rattle.std.specs.List.Sorted.{IsNonDecreasing}
use Rattle.face_walk.proofs.HeldLemmas.{owners_in_order}
use Rattle.face_walk.proofs.ring_steps.PathSteps.of.Goals as goal

pub invariant_of-result-clause-owners_in_order : goal.invariant_of-result-clause-owners_in_order
invariant_of-result-clause-owners_in_order c = subst (λ (xs : List ℕ). IsNonDecreasing xs) (sym c.in_ok-polygons.ensures.owners) (owners_in_order c.args.s.now.polygons)

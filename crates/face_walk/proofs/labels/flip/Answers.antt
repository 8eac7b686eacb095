use Rattle.std.proofs.Common.{sym, subst, ◌≤◌, ℕ, List, All}
use Rattle.std.specs.List.Sorted.{IsStrictlyIncreasing}
use Rattle.face_walk.proofs.labels.flip.Goals as goal

pub ends_above-requires : goal.ends_above-requires
ends_above-requires c = record { rising = subst (λ (xs : List ℕ). IsStrictlyIncreasing xs) (sym c.deref.ensures.value) c.requires.rising }

pub flip_number-requires-clause-low : goal.flip_number-requires-clause-low
flip_number-requires-clause-low c = subst (λ (xs : List ℕ). All (λ (m : ℕ). m ≤ c.args.n) xs) c.deref.ensures.value (c.ends_above.ensures.no c.if-ends_above.false)

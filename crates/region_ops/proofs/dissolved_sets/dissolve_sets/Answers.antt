use Rattle.std.proofs.Common.{sym, subst, ℕ, List, All, take}
use Rattle.face_sets.specs.Sets.{IsSetOf}
use Rattle.region_ops.proofs.Inner.{unions_inner}
use Rattle.region_ops.proofs.dissolved_sets.dissolve_sets.Goals as goal

pub returns-clause-inner : goal.returns-clause-inner
returns-clause-inner c = λ t h.
    subst (λ (sets : List (List ℕ)). All (IsSetOf t) sets) (sym c.loop-group.invariant)
    (unions_inner t c.args.old.now (take c.loop-group.group-index c.args.groups.now) h)

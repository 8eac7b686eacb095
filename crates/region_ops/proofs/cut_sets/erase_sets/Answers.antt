use Rattle.std.proofs.Common.{sym, subst, ℕ, List, All}
use Rattle.std.specs.Prelude.{not, nat_eq}
use Rattle.lists.specs.Lists.{has}
use Rattle.face_sets.specs.Sets.{IsSetOf}
use Rattle.region_ops.proofs.Inner.{filtered_inner}
use Rattle.region_ops.proofs.cut_sets.erase_sets.Goals as goal

pub returns-clause-inner : goal.returns-clause-inner
returns-clause-inner c = λ t h.
    subst (λ (sets : List (List ℕ)). All (IsSetOf t) sets) (sym c.loop-set.invariant)
    (filtered_inner t (λ (k : ℕ). not (has nat_eq c.args.cut_set.now k)) c.args.old.now c.loop-set.set-index h)

use Rattle.std.proofs.Common.{◌∙◌, sym, ap, subst, filter, nat_eq, not}
use Rattle.std.specs.List.Sorted.{IsStrictlyIncreasing}
use Rattle.std.proofs.lemmas.List.Kept.{IsStrictlyIncreasing-filter}
use Rattle.lists.specs.Lists.{has}
use Rattle.face_sets.proofs.face_set.FaceSet.minus.Goals as goal

pub invariant_of-result : goal.invariant_of-result
invariant_of-result c =
    subst IsStrictlyIncreasing (sym (c.in_ok-faces.ensures.exact ∙ ap (filter (λ f. not (has nat_eq c.args.o.now f))) c.deref.ensures.value))
    (IsStrictlyIncreasing-filter (λ f. not (has nat_eq c.args.o.now f)) c.self.inside.faces.items c.self.invariant)

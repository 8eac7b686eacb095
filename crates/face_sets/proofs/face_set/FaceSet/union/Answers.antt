use Rattle.std.proofs.Common.{rules, ◌≡◌, ◌∙◌, sym, ap, subst, ◌++◌, nat_eq, nat_lt}
use Rattle.std.specs.List.Sorted.{IsStrictlyIncreasing}
use Rattle.std.proofs.lemmas.List.Filters.{dedup_is}
use Rattle.std.proofs.lemmas.Map.Keys.{IsStrictlyIncreasing-dedup}
use Rattle.lists.specs.Lists.{ascending}
use Rattle.face_sets.proofs.SetLemmas.{sorted_once}
use Rattle.face_sets.proofs.face_set.FaceSet.union.Goals as goal

pub invariant_of-result : goal.invariant_of-result
invariant_of-result c =
    subst IsStrictlyIncreasing (sym (dedup_is nat_eq _ _ c.dedup.ensures.filtered))
    (IsStrictlyIncreasing-dedup c.sort_unstable.new.self.items c.sort_unstable.ensures.sorted)

pub returns : goal.returns
returns c =
    let joined = c.extend_from_slice.new.self.items in
    let is : joined ≡ c.args.self.now ++ c.args.o.now = search rules in
    record {
      exact = dedup_is nat_eq _ _ c.dedup.ensures.filtered ∙ sorted_once joined c.sort_unstable.new.self.items c.sort_unstable.ensures.permutation c.sort_unstable.ensures.sorted ∙ ap (ascending nat_lt) is;
    }

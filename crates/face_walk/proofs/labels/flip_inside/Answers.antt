use Rattle.std.proofs.Common.{sym, subst, ℕ, List}
use Rattle.std.specs.List.Sorted.{IsNonDecreasing}
use Rattle.std.proofs.lemmas.List.Sorted.{IsNonDecreasingBy-from_sort}
use Rattle.face_walk.specs.Holders.{AreOddOnes}
use Rattle.face_walk.proofs.OddLemmas.{number_sorted}
use Rattle.face_walk.proofs.labels.flip_inside.Goals as goal

pub odd_ones-requires : goal.odd_ones-requires
odd_ones-requires c = record { sorted = subst (λ (xs : List ℕ). IsNonDecreasing xs) (sym c.deref.ensures.value) (IsNonDecreasingBy-from_sort (λ (n : ℕ). n) c.sort_unstable.new.self.items c.sort_unstable.ensures.sorted) }

pub returns : goal.returns
returns c =
    let new = c.in_ok-items.field-0.items in
    record {
      flipped = number_sorted c.args.items.now.items c.push.new.self.items c.sort_unstable.new.self.items new c.args.n c.in_ok-push.ensures.items c.sort_unstable.ensures.permutation
          (subst (λ (xs : List ℕ). AreOddOnes xs new) c.deref.ensures.value c.in_ok-items.ensures.exact);
    }

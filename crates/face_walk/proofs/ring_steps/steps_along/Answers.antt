use Rattle.std.proofs.Common.{rules, ◌≡◌, ◌∙◌, sym, subst, arith, ℕ, ◌+◌, ◌-◌, ◌≤◌, true, false, List, length, take, drop, length-drop}
use Rattle.std.specs.Prelude.{nat_eq, nat_lt}
use Rattle.std.specs.List.Sorted.{IsPartitionedBy, IsPartitionPoint}
use Rattle.std.proofs.lemmas.List.{take_all}
use Rattle.std.proofs.lemmas.List.Sorted.{IsPartitionPoint-from_clause, IsPartitionedBy-ltb}
use Rattle.face_walk.specs.declared.ring_steps.RingStep.{RingStep}
use Rattle.face_walk.proofs.RunLemmas.{rest_by_same, run_of_number}
use Rattle.face_walk.proofs.ring_steps.steps_along.Goals as goal

abbrev arc_of : RingStep → ℕ
arc_of s = s.arc

pub returns : goal.returns
returns c = record {
  exact = λ up.
      let steps = c.args.steps.now in
      let n : ℕ = c.args.arc in
      let first = c.partition_point-first.result in
      let count = c.partition_point-count.result in
      let bound : first ≤ length steps = c.partition_point-first.ensures.bound in
      let at_first : IsPartitionPoint (λ (s : RingStep). nat_lt s.arc n ≡ true) (λ (s : RingStep). nat_lt s.arc n ≡ false) steps first =
      IsPartitionPoint-from_clause (λ (s : RingStep). nat_lt s.arc n) steps first c.partition_point-first.ensures.partitioned (IsPartitionedBy-ltb arc_of steps n up) (λ a r q k. search rules) in
      let rest : List RingStep = take (length steps - first) (drop first steps) in
      let size_left = length-drop first steps in
      let rest_is : rest ≡ drop first steps = take_all (length steps - first) (drop first steps) (omega arith) in
      let count_bound : count ≤ length (drop first steps) = subst (λ (xs : List RingStep). count ≤ length xs) rest_is c.partition_point-count.ensures.bound in
      let at_count : IsPartitionPoint (λ (s : RingStep). nat_eq s.arc n ≡ true) (λ (s : RingStep). nat_eq s.arc n ≡ false) (drop first steps) count =
      subst (λ (xs : List RingStep). IsPartitionPoint (λ (s : RingStep). nat_eq s.arc n ≡ true) (λ (s : RingStep). nat_eq s.arc n ≡ false) xs count) rest_is
      (IsPartitionPoint-from_clause (λ (s : RingStep). nat_eq s.arc n) rest count c.partition_point-count.ensures.partitioned
      (subst (λ (xs : List RingStep). IsPartitionedBy (λ (s : RingStep). nat_eq s.arc n) xs) (sym rest_is) (rest_by_same arc_of steps n first bound at_first up)) (λ a r q k. search rules)) in
      let size : first + count - first ≡ count = omega arith in
      (λ i. take (size i) (drop first steps)) ∙ run_of_number arc_of steps n first bound at_first count count_bound at_count;
}

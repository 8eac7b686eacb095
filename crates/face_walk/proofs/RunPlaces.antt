-- Elements in the order of a number: where those of one number begin and end, from the elements next to two places.
use Rattle.std.proofs.Common.{◌≡◌, ◌∙◌, ap, sym, arith, ℕ, ◌+◌, ◌-◌, ◌<◌, ◌≤◌, true, false, not, List, length, get_or, take, drop, length-drop}
use Rattle.std.specs.Prelude.{filter, nat_eq, nat_lt}
use Rattle.std.specs.List.Sorted.{IsNonDecreasingBy, IsPartitionPoint}
use Rattle.std.proofs.lemmas.Bool.{eq-eqb, ne_eqb, ltb-true, ltb-false, lt-ltb, le-ltb}
use Rattle.std.proofs.lemmas.List.{get_or-drop, get_or_default}
use Rattle.face_walk.proofs.RunLemmas.{run_of_number}

pub differs : (a b x n : ℕ) → not (nat_eq a b) ≡ true → a ≡ x → b ≡ n → x ≡ n → ⊥
differs a b x n e f g same = absurd (let t : nat_eq a b ≡ true = eq-eqb a b (f ∙ same ∙ sym g) in let u : false ≡ true = ap not (sym t) ∙ e in cc)

module _ {X : Type 0} (key : X → ℕ) (xs : List X) (n : ℕ) where
  -- the number of the element at a place, whatever the default
  pub at_place : (i : ℕ) (x : X) → i < length xs → x ≡ get_or xs i x → key x ≡ n → (d : X) → key (get_or xs i d) ≡ n
  at_place i x l is e d = ap key (get_or_default xs i d x l ∙ sym is) ∙ e

  pub not_at_place : (i : ℕ) (x : X) → i < length xs → x ≡ get_or xs i x → (key x ≡ n → ⊥) → (d : X) → key (get_or xs i d) ≡ n → ⊥
  not_at_place i x l is e d same = e (ap key (is ∙ get_or_default xs i x d l) ∙ same)

  module _ (up : IsNonDecreasingBy key xs) where
    pub begun : (first : ℕ) → first < length xs → ((d : X) → key (get_or xs first d) ≡ n) → ((d : X) → 0 < first → key (get_or xs (first - 1) d) ≡ n → ⊥) →
        IsPartitionPoint (λ (x : X). nat_lt (key x) n ≡ true) (λ (x : X). nat_lt (key x) n ≡ false) xs first
    begun first bound here before = (
      λ k d l m.
          (let at = here d in
          let other = before d (omega arith) in
          let low = up k (first - 1) d (omega arith) (omega arith) in
          let high = up (first - 1) first d (omega arith) bound in
          lt-ltb (key (get_or xs k d)) n (omega arith)),
      λ k d l m.
          (let at = here d in
          let high = up first k d l m in
          le-ltb (key (get_or xs k d)) n (omega arith)),
    )

    pub ended : (stop : ℕ) → 0 < stop → stop ≤ length xs → ((d : X) → key (get_or xs (stop - 1) d) ≡ n) → ((d : X) → stop < length xs → key (get_or xs stop d) ≡ n → ⊥) →
        IsPartitionPoint (λ (x : X). nat_lt n (key x) ≡ false) (λ (x : X). nat_lt n (key x) ≡ true) xs stop
    ended stop some bound here after = (
      λ k d l m.
          (let at = here d in
          let low = up k (stop - 1) d (omega arith) (omega arith) in
          le-ltb n (key (get_or xs k d)) (omega arith)),
      λ k d l m.
          (let at = here d in
          let other = after d (omega arith) in
          let low = up (stop - 1) stop d (omega arith) (omega arith) in
          let high = up stop k d l m in
          lt-ltb n (key (get_or xs k d)) (omega arith)),
    )

  pub run_between : (first stop : ℕ) → first ≤ stop → stop ≤ length xs → IsPartitionPoint (λ (x : X). nat_lt (key x) n ≡ true) (λ (x : X). nat_lt (key x) n ≡ false) xs first →
      IsPartitionPoint (λ (x : X). nat_lt n (key x) ≡ false) (λ (x : X). nat_lt n (key x) ≡ true) xs stop → take (stop - first) (drop first xs) ≡ filter (λ (x : X). nat_eq (key x) n) xs
  run_between first stop order bound at_first at_stop =
      let size = length-drop first xs in
      run_of_number key xs n first (omega arith) at_first (stop - first) (omega arith) (
        λ k d l m.
            (let here = ap key (get_or-drop first xs k d) in
            let low = ltb-false (key (get_or xs (first + k) d)) n (at_first.1 (first + k) d (omega arith) (omega arith)) in
            let high = ltb-false n (key (get_or xs (first + k) d)) (at_stop.0 (first + k) d (omega arith) (omega arith)) in
            eq-eqb (key (get_or (drop first xs) k d)) n (omega arith)),
        λ k d l m.
            (let here = ap key (get_or-drop first xs k d) in
            let high = ltb-true n (key (get_or xs (first + k) d)) (at_stop.1 (first + k) d (omega arith) (omega arith)) in
            ne_eqb (key (get_or (drop first xs) k d)) n (λ same. omega arith)),
      )

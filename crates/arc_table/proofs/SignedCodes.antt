-- Signed arcs as codes.
use Rattle.std.proofs.Common.{◌≡◌, inl, inr, sym, ap, ◌∙◌, arith, ℕ, zero, suc, ◌+◌, ◌-◌, ◌*◌, ◌/◌, ◌%◌, ◌<◌, ◌≤◌, cond, List, [], ◌∷◌, ◌++◌, map, length, length-append, get_or}
use Rattle.std.specs.Prelude.{nat_eq}
use Rattle.std.specs.List.Sorted.{IsSortedByKey}
use Rattle.std.specs.Ordering.{is_lt}
use Rattle.std.proofs.Math.ListN.{get_or-append}
use Rattle.std.proofs.Math.Seq.{get_or-append_right}
use Rattle.std.proofs.lemmas.Bool.{cases_lt}
use Rattle.std.proofs.lemmas.List.{get_or-map, length-map, same_lists}
use Rattle.plane_model.specs.Points.{GridPoint, Path}
use Rattle.plane_model.specs.Arcs.{SignedArc, forward, backward}
use Rattle.grid_base.specs.Order.{point_cmp}
use Rattle.arc_table.specs.Around.{signed_below, signed_of, start_of}

how_many : (n : ℕ) → length (signed_below n) ≡ 2 * n
how_many zero = omega arith
how_many (suc n) = let h = how_many n in length-append (signed_below n) (forward n ∷ backward n ∷ []) ∙ omega arith

even_code : (n : ℕ) → forward n ≡ signed_of (2 * n)
even_code n =
    let even : (2 * n) % 2 ≡ 0 = omega arith in
    let half : (2 * n) / 2 ≡ n = omega arith in
    sym (ap (λ (r : ℕ). cond (nat_eq r 0) (forward ((2 * n) / 2)) (backward ((2 * n) / 2))) even ∙ ap forward half)

odd_code : (n : ℕ) → backward n ≡ signed_of (2 * n + 1)
odd_code n =
    let odd : (2 * n + 1) % 2 ≡ 1 = omega arith in
    let half : (2 * n + 1) / 2 ≡ n = omega arith in
    sym (ap (λ (r : ℕ). cond (nat_eq r 0) (forward ((2 * n + 1) / 2)) (backward ((2 * n + 1) / 2))) odd ∙ ap backward half)

-- each of the first arcs, forward and reversed, is the one with its place as code
at_code : (n k : ℕ) (d : SignedArc) → k < 2 * n → get_or (signed_below n) k d ≡ signed_of k
at_code zero k d l = absurd (omega arith)
at_code (suc n) k d l =
    let many = how_many n in
    let last : List SignedArc = forward n ∷ backward n ∷ [] in
    let right : 2 * n ≤ k → get_or (signed_below n ++ last) k d ≡ get_or last (k - length (signed_below n)) d = λ h. get_or-append_right (signed_below n) last k d (omega arith) in
    elim (cases_lt k (2 * n)) [
      | inl h ↦ get_or-append (signed_below n) last d k (omega arith) ∙ at_code n k d h
      | inr h ↦ elim (cases_lt (2 * n) k) [
        | inl m ↦ right h ∙ ap (λ j. get_or last j d) (let e : k - length (signed_below n) ≡ 1 = omega arith in e) ∙ odd_code n ∙ ap signed_of (let e : 2 * n + 1 ≡ k = omega arith in e)
        | inr m ↦ right h ∙ ap (λ j. get_or last j d) (let e : k - length (signed_below n) ≡ 0 = omega arith in e) ∙ even_code n ∙ ap signed_of (let e : 2 * n ≡ k = omega arith in e)
      ]
    ]

-- the numbers from 0 on are the codes of the first arcs
pub codes_are : (n : ℕ) (codes : List ℕ) → length codes ≡ 2 * n → ((k : ℕ) → k < 2 * n → get_or codes k 0 ≡ k) → map signed_of codes ≡ signed_below n
codes_are n codes each own =
    let many = length-map codes signed_of in
    let all = how_many n in
    same_lists (map signed_of codes) (signed_below n) (omega arith)
    (λ k d l. get_or-map signed_of codes k 0 d (omega arith) ∙ ap signed_of (own k (omega arith)) ∙ sym (at_code n k d (omega arith)))

-- codes in the order of the starts of their arcs are arcs in this order
pub sorted_arcs : (arcs : List Path) (codes : List ℕ) → IsSortedByKey (λ (code : ℕ). start_of arcs (signed_of code)) point_cmp codes → IsSortedByKey (start_of arcs) point_cmp (map signed_of codes)
sorted_arcs arcs codes h k d low l =
    let n = length-map codes signed_of in
    let start : SignedArc → GridPoint = start_of arcs in
    let at : (j : ℕ) → j < length codes → start (get_or (map signed_of codes) j d) ≡ start (signed_of (get_or codes j 0)) = λ j m. ap start (get_or-map signed_of codes j 0 d m) in
    (λ i. is_lt (point_cmp (at (k + 1) (omega arith) i) (at k (omega arith) i))) ∙ h k 0 low (omega arith)

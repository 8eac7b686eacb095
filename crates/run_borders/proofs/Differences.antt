-- The first difference of two rows, value by value.
use Rattle.std.proofs.Common.{◌≡◌, ℕ, zero, suc, ◌+◌, ◌<◌, ◌≤◌, Bool, true, false, cond, [], ◌∷◌, length, get_or, drop, refl, sym, ap, ◌∙◌, arith}
use Rattle.json_values.specs.Table.{RowValues}
use Rattle.json_values.specs.Value.{same}
use Rattle.json_values.specs.declared.value.Value.{Value}
use Rattle.run_borders.specs.Borders.{first_difference}

none_right : (left : RowValues) → first_difference left [] ≡ 0
none_right [] = refl
none_right (a ∷ left) = refl

by_test : (left right : RowValues) (n : ℕ) (a b : Value) → n < length left → n < length right → a ≡ get_or left n a → b ≡ get_or right n b →
    first_difference (drop n left) (drop n right) ≡ cond (same a b) (1 + first_difference (drop (suc n) left) (drop (suc n) right)) 0
by_test [] right n a b l m p q = absurd (omega arith)
by_test (x ∷ left) [] n a b l m p q = absurd (omega arith)
by_test (x ∷ left) (y ∷ right) zero a b l m p q = ap (λ (v : Value). cond (same v y) (1 + first_difference left right) 0) (sym p) ∙ ap (λ (v : Value). cond (same a v) (1 + first_difference left right) 0) (sym q)
by_test (x ∷ left) (y ∷ right) (suc n) a b l m p q = by_test left right n a b (omega arith) (omega arith) p q

-- two rows that have been read to a place, where these are the next two values
module _ (left right : RowValues) (n : ℕ) (a b : Value) (l : n < length left) (m : n < length right) (p : a ≡ get_or left n a) (q : b ≡ get_or right n b) where
  at_place : first_difference (drop n left) (drop n right) ≡ cond (same a b) (1 + first_difference (drop (suc n) left) (drop (suc n) right)) 0
  at_place = by_test left right n a b l m p q

  pub differs_here : same a b ≡ false → first_difference left right ≡ n + first_difference (drop n left) (drop n right) → n ≡ first_difference left right
  differs_here e so_far =
      let none : first_difference (drop n left) (drop n right) ≡ 0 = at_place ∙ ap (λ (s : Bool). cond s (1 + first_difference (drop (suc n) left) (drop (suc n) right)) 0) e in
      omega (arith, so_far, none)

  pub agrees_here : same a b ≡ true → first_difference left right ≡ n + first_difference (drop n left) (drop n right) → first_difference left right ≡ n + 1 + first_difference (drop (n + 1) left) (drop (n + 1) right)
  agrees_here e so_far =
      let one : first_difference (drop n left) (drop n right) ≡ 1 + first_difference (drop (n + 1) left) (drop (n + 1) right) =
      at_place ∙ ap (λ (s : Bool). cond s (1 + first_difference (drop (suc n) left) (drop (suc n) right)) 0) e ∙ ap (λ (i : ℕ). 1 + first_difference (drop i left) (drop i right)) (let f : suc n ≡ n + 1 = omega arith in f)
      in omega (arith, so_far, one)

-- two rows of one length that have been read to their end
after : (left right : RowValues) (n : ℕ) → length left ≤ n → first_difference (drop n left) (drop n right) ≡ 0
after [] right zero l = refl
after [] right (suc n) l = refl
after (x ∷ left) right zero l = absurd (omega arith)
after (x ∷ left) [] (suc n) l = none_right (drop n left)
after (x ∷ left) (y ∷ right) (suc n) l = after left right n (omega arith)

pub agrees_to_end : (left right : RowValues) (n : ℕ) → length left ≤ n → first_difference left right ≡ n + first_difference (drop n left) (drop n right) → n ≡ first_difference left right
agrees_to_end left right n l so_far = omega (arith, so_far, after left right n l)

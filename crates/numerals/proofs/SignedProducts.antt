-- The product of two decimals with signs.
use Rattle.std.proofs.Common.{ℕ, zero, suc, ◌≡◌, ◌*◌, ◌/◌, ◌%◌, ◌^◌, ◌<◌, ◌≤◌, Bool, true, false, cond, not, ◌==◌, ℤ, pos, negsuc, ◌*ℤ◌, neg_ℤ, Option, Some, None, refl, ap, ◌∙◌, sym, subst, arith}
use Rattle.std.specs.Prelude.{unsigned_abs, nat_lt}
use Rattle.std.specs.Bool.{beq}
use Rattle.std.proofs.lemmas.Bool.Decides.{nat_tests, Decides-eqb}
use Rattle.std.proofs.Math.Nat.{mul-mod_left, mul-div_cancel}
use Rattle.numerals.specs.Decimal.{checked, checked_where, checked_product, is_negative, of_size}
use Rattle.numerals.proofs.Products.{divided}

below : (n : ℕ) → n < 10 ^ 36 → nat_lt n (10 ^ 36) ≡ true
below n h = grind (arith, nat_tests)

past : (n : ℕ) → 10 ^ 36 ≤ n → nat_lt n (10 ^ 36) ≡ false
past n h = grind (arith, nat_tests)

-- an integer of each size, by a sign
abbrev Sized : (ℕ → ℤ) → Type 0
Sized f = (n : ℕ) → unsigned_abs (f n) ≡ n

abbrev quotient : (ℕ → ℤ) → ℕ → Option ℤ
quotient f x = checked_where (cond (x % 10 ^ 18 == 0) (Some (f (x / 10 ^ 18))) None)

quotient_some : (f : ℕ → ℤ) → Sized f → (x r : ℕ) → x ≡ r * 10 ^ 18 → r < 10 ^ 36 → quotient f x ≡ Some (f r)
quotient_some f s x r e l =
    let multiple : (x % 10 ^ 18 == 0) ≡ true = (Decides-eqb (x % 10 ^ 18) 0).1 (ap (λ (x : ℕ). x % 10 ^ 18) e ∙ mul-mod_left r (10 ^ 18)) in
    let whole : x / 10 ^ 18 ≡ r = ap (λ (x : ℕ). x / 10 ^ 18) e ∙ mul-div_cancel r (omega arith) in
    let small : nat_lt (unsigned_abs (f r)) (10 ^ 36) ≡ true = ap (λ (n : ℕ). nat_lt n (10 ^ 36)) (s r) ∙ below r l in
    ap (λ (t : Bool). checked_where (cond t (Some (f (x / 10 ^ 18))) None)) multiple
    ∙ ap (λ (q : ℕ). checked (f q)) whole
    ∙ ap (λ (t : Bool). cond t (Some (f r)) None) small

quotient_none : (f : ℕ → ℤ) → Sized f → (x : ℕ) → ((r : ℕ) → x ≡ r * 10 ^ 18 → 10 ^ 36 ≤ r) → quotient f x ≡ None
quotient_none f s x h = go (x % 10 ^ 18 == 0) refl
  where
    go : (t : Bool) → (x % 10 ^ 18 == 0) ≡ t → quotient f x ≡ None
    go false e = ap (λ (t : Bool). checked_where (cond t (Some (f (x / 10 ^ 18))) None)) e
    go true e =
        let large : 10 ^ 36 ≤ x / 10 ^ 18 = h (x / 10 ^ 18) (divided x (10 ^ 18) ((Decides-eqb (x % 10 ^ 18) 0).0 e)) in
        ap (λ (t : Bool). checked_where (cond t (Some (f (x / 10 ^ 18))) None)) e
        ∙ ap (λ (t : Bool). cond t (Some (f (x / 10 ^ 18))) None) (ap (λ (n : ℕ). nat_lt n (10 ^ 36)) (s (x / 10 ^ 18)) ∙ past (x / 10 ^ 18) large)

abbrev minus : ℕ → ℤ
minus n = neg_ℤ (pos n)

minus_sized : Sized minus
minus_sized zero = refl
minus_sized (suc n) = refl

product_of_minus : (x : ℕ) → checked_product (minus x) ≡ quotient minus x
product_of_minus zero = refl
product_of_minus (suc n) = refl

pub product_none : (a b : ℤ) (x y : ℕ) → x ≡ unsigned_abs a → y ≡ unsigned_abs b → ((r : ℕ) → x * y ≡ r * 10 ^ 18 → 10 ^ 36 ≤ r) → None ≡ checked_product (a *ℤ b)
product_none a b x y e f h = sym (go a b (subst (λ (x : ℕ). (r : ℕ) → x * unsigned_abs b ≡ r * 10 ^ 18 → 10 ^ 36 ≤ r) e (subst (λ (y : ℕ). (r : ℕ) → x * y ≡ r * 10 ^ 18 → 10 ^ 36 ≤ r) f h)))
  where
    go : (a b : ℤ) → ((r : ℕ) → unsigned_abs a * unsigned_abs b ≡ r * 10 ^ 18 → 10 ^ 36 ≤ r) → checked_product (a *ℤ b) ≡ None
    go (pos m) (pos n) h = quotient_none pos (λ n. refl) (m * n) h
    go (pos m) (negsuc n) h = product_of_minus (m * suc n) ∙ quotient_none minus minus_sized (m * suc n) h
    go (negsuc m) (pos n) h = product_of_minus (suc m * n) ∙ quotient_none minus minus_sized (suc m * n) h
    go (negsuc m) (negsuc n) h = quotient_none pos (λ n. refl) (suc m * suc n) h

pub product_some : (a b : ℤ) (x y r : ℕ) (s t : Bool) → x ≡ unsigned_abs a → y ≡ unsigned_abs b → s ≡ is_negative a → t ≡ is_negative b → (x * y ≡ r * 10 ^ 18) × (r < 10 ^ 36) → Some (of_size r (not (beq s t))) ≡ checked_product (a *ℤ b)
product_some a b x y r s t e f g h k =
    ap (λ (s : Bool). Some (of_size r (not (beq s t)))) g ∙ ap (λ (t : Bool). Some (of_size r (not (beq (is_negative a) t)))) h
    ∙ sym (go a b (ap (λ (x : ℕ). x * unsigned_abs b) (sym e) ∙ ap (λ (y : ℕ). x * y) (sym f) ∙ k.0))
  where
    go : (a b : ℤ) → unsigned_abs a * unsigned_abs b ≡ r * 10 ^ 18 → checked_product (a *ℤ b) ≡ Some (of_size r (not (beq (is_negative a) (is_negative b))))
    go (pos m) (pos n) h = quotient_some pos (λ n. refl) (m * n) r h k.1
    go (pos m) (negsuc n) h = product_of_minus (m * suc n) ∙ quotient_some minus minus_sized (m * suc n) r h k.1
    go (negsuc m) (pos n) h = product_of_minus (suc m * n) ∙ quotient_some minus minus_sized (suc m * n) r h k.1
    go (negsuc m) (negsuc n) h = quotient_some pos (λ n. refl) (suc m * suc n) r h k.1

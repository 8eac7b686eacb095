-- One more key after others, and the counts of keys up to a number.
use Rattle.std.proofs.Common.{◌≡◌, ◌<◌, All, inl, inr, refl, sym, ap, subst, ◌∙◌, arith, cond, ℕ, suc, ◌+◌, length, Bool, true, false, nat_lt, List, [], ◌∷◌, ◌++◌, append-nil, append_assoc}
use Rattle.std.specs.Prelude.{count_by, min, unwrap_or, ◌&&◌, Option, Some}
use Rattle.std.proofs.lemmas.Bool.{cases_lt, lt-ltb, le-ltb, and_right}
use Rattle.std.proofs.lemmas.List.Sums.{sum_by_push}
use Rattle.lists.specs.Lists.{numbers_where}
use Rattle.json_values.specs.Value.{same}
use Rattle.json_values.specs.declared.value.Value.{Value}
use Rattle.table_rows.specs.Same.{same_decides, same_equivalent}
use Rattle.table_rows.proofs.Numbers.{numbers_where-below, numbers_where-push}
use Rattle.calc_ops.specs.EarlyRows.{are_early, early_after}

early_push : (most : ℕ) (before keys : List Value) (key : Value)
    → early_after most before (keys ++ key ∷ []) ≡ early_after most before keys ++ nat_lt (count_by (same key) (before ++ keys)) most ∷ []
early_push most before [] key = ap (λ (vs : List Value). nat_lt (count_by (same key) vs) most ∷ []) (sym (append-nil before))
early_push most before (k ∷ keys) key =
    ap (λ (bs : List Bool). nat_lt (count_by (same k) before) most ∷ bs)
    (early_push most (before ++ k ∷ []) keys key
    ∙ ap (λ (vs : List Value). early_after most (before ++ k ∷ []) keys ++ nat_lt (count_by (same key) vs) most ∷ []) (append_assoc before (k ∷ []) keys))

early_long : (most : ℕ) (before keys : List Value) → length (early_after most before keys) ≡ length keys
early_long most before [] = refl
early_long most before (key ∷ keys) = ap suc (early_long most (before ++ key ∷ []) keys)

pub early_below : (kept : Bool → Bool) (most : ℕ) (keys : List Value) → All (λ k. k < length keys) (numbers_where kept (are_early most keys))
early_below kept most keys =
    subst (λ (n : ℕ). All (λ k. k < n) (numbers_where kept (are_early most keys))) (early_long most [] keys) (numbers_where-below kept (are_early most keys))

-- the numbers of the keys with one more, of which the last one is numbered by how many stand before it
pub one_more : (kept : Bool → Bool) (most : ℕ) (keys : List Value) (key : Value)
    → numbers_where kept (are_early most keys) ++ cond (kept (nat_lt (count_by (same key) keys) most)) (length keys ∷ []) [] ≡ numbers_where kept (are_early most (keys ++ key ∷ []))
one_more kept most keys key =
    let early : Bool = nat_lt (count_by (same key) keys) most in
    ap (λ (n : ℕ). numbers_where kept (are_early most keys) ++ cond (kept early) (n ∷ []) []) (sym (early_long most [] keys))
    ∙ sym (numbers_where-push kept (are_early most keys) early) ∙ ap (numbers_where kept) (sym (early_push most [] keys key))

-- a number that is counted up to `most`
pub early_is : (n most : ℕ) → nat_lt (min n most) most ≡ nat_lt n most
early_is n most = elim (cases_lt n most) [
  | inl l ↦ lt-ltb (min n most) most (omega (arith, l)) ∙ sym (lt-ltb n most l)
  | inr l ↦ le-ltb (min n most) most (omega (arith, l)) ∙ sym (le-ltb n most l)
]

once_more : (n most : ℕ) → min n most + cond (nat_lt (min n most) most) 1 0 ≡ min (n + 1) most
once_more n most = elim (cases_lt n most) [
  | inl l ↦
      let one : min n most + 1 ≡ min (n + 1) most = omega (arith, l) in
      ap (λ (b : Bool). min n most + cond b 1 0) (lt-ltb (min n most) most (omega (arith, l))) ∙ one
  | inr l ↦
      let none : min n most + 0 ≡ min (n + 1) most = omega (arith, l) in
      ap (λ (b : Bool). min n most + cond b 1 0) (le-ltb (min n most) most (omega (arith, l))) ∙ none
]

count_push : (k key : Value) (keys : List Value) → count_by (same k) (keys ++ key ∷ []) ≡ count_by (same k) keys + cond (same k key) 1 0
count_push k key keys = sum_by_push (λ (v : Value). cond (same k v) 1 0) keys key

and_true : (b : Bool) → (b && true) ≡ b
and_true true = refl
and_true false = refl

-- what is counted of a key, where another key is counted once more
pub counted_more : (most : ℕ) (keys : List Value) (key k : Value) (b : Bool) → same key k ≡ b
    → min (count_by (same k) keys) most + cond (nat_lt (min (count_by (same key) keys) most) most && b) 1 0 ≡ min (count_by (same k) (keys ++ key ∷ [])) most
counted_more most keys key k true e =
    let one : key ≡ k = (same_decides key k).0 e in
    let counted : count_by (same k) (keys ++ key ∷ []) ≡ count_by (same k) keys + 1 = count_push k key keys ∙ ap (λ (c : Bool). count_by (same k) keys + cond c 1 0) (same_equivalent.symm k key ∙ e) in
    ap (λ (c : Bool). min (count_by (same k) keys) most + cond c 1 0) (and_true (nat_lt (min (count_by (same key) keys) most) most))
    ∙ ap (λ (v : Value). min (count_by (same k) keys) most + cond (nat_lt (min (count_by (same v) keys) most) most) 1 0) one
    ∙ once_more (count_by (same k) keys) most ∙ ap (λ (n : ℕ). min n most) (sym counted)
counted_more most keys key k false e =
    let counted : count_by (same k) (keys ++ key ∷ []) ≡ count_by (same k) keys + 0 = count_push k key keys ∙ ap (λ (c : Bool). count_by (same k) keys + cond c 1 0) (same_equivalent.symm k key ∙ e) in
    ap (λ (c : Bool). min (count_by (same k) keys) most + cond c 1 0) (and_right (nat_lt (min (count_by (same key) keys) most) most) false refl)
    ∙ (omega (arith, counted))

-- a count that was put in
pub one_counted : (old : Value → Option ℕ) (key k : Value) (count : ℕ) (b : Bool) → same key k ≡ b → count ≡ unwrap_or (old key) 0
    → unwrap_or (cond b (Some (count + 1)) (old k)) 0 ≡ unwrap_or (old k) 0 + cond b 1 0
one_counted old key k count true e is = ap (λ (n : ℕ). n + 1) (is ∙ ap (λ (v : Value). unwrap_or (old v) 0) ((same_decides key k).0 e))
one_counted old key k count false e is = omega arith

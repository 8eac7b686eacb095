-- What an expression says row by row.
use Rattle.std.proofs.Common.{◌≡◌, ℕ, ◌+◌, Bool, true, false, cond, List, [], ◌∷◌, ◌++◌, refl, ap, ◌∙◌, append_assoc, sym}
use Rattle.std.specs.Prelude.{Result, Ok, Err}
use Rattle.std.specs.Bool.{beq}
use Rattle.lists.specs.Lists.{numbers_from}
use Rattle.table_terms.specs.Refusals.{on_ok}

-- these items before those of an answer
abbrev pub past : {A E : Type 0} → List A → Result (List A) E → Result (List A) E
past bs r = on_ok r (λ cs. Ok (bs ++ cs))

pub after_one : {A E : Type 0} (bs : List A) (b : A) (r : Result (List A) E) → past bs (on_ok r (λ cs. Ok (b ∷ cs))) ≡ past (bs ++ b ∷ []) r
after_one bs b (Ok cs) = ap Ok (sym (append_assoc bs (b ∷ []) cs))
after_one bs b (Err w) = refl

-- these numbers, and those of the tests from number n on that are `wanted`
abbrev pub kept_with : {E : Type 0} → Bool → List ℕ → ℕ → Result (List Bool) E → Result (List ℕ) E
kept_with wanted kept n tests = on_ok tests (λ bs. Ok (kept ++ numbers_from n (beq wanted) bs))

pub one_kept : {E : Type 0} (wanted : Bool) (kept : List ℕ) (n : ℕ) (b : Bool) (tests : Result (List Bool) E) → beq wanted b ≡ true
    → kept_with wanted kept n (on_ok tests (λ bs. Ok (b ∷ bs))) ≡ kept_with wanted (kept ++ n ∷ []) (n + 1) tests
one_kept wanted kept n b (Ok bs) is =
    ap (λ c. Ok (kept ++ cond c (n ∷ numbers_from (n + 1) (beq wanted) bs) (numbers_from (n + 1) (beq wanted) bs))) is
    ∙ ap Ok (sym (append_assoc kept (n ∷ []) (numbers_from (n + 1) (beq wanted) bs)))
one_kept wanted kept n b (Err w) is = refl

pub one_left : {E : Type 0} (wanted : Bool) (kept : List ℕ) (n : ℕ) (b : Bool) (tests : Result (List Bool) E) → beq wanted b ≡ false
    → kept_with wanted kept n (on_ok tests (λ bs. Ok (b ∷ bs))) ≡ kept_with wanted kept (n + 1) tests
one_left wanted kept n b (Ok bs) is =
    ap (λ c. Ok (kept ++ cond c (n ∷ numbers_from (n + 1) (beq wanted) bs) (numbers_from (n + 1) (beq wanted) bs))) is
one_left wanted kept n b (Err w) is = refl

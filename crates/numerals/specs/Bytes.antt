-- Tests on a byte, by its number, and what bytes begin with.
use Rattle.std.specs.Prelude.{◌≡◌, ℕ, Bool, true, false, ◌==◌, nat_lt, nat_le, ◌&&◌, ◌||◌, List, [], ◌∷◌, ◌++◌}
use Rattle.std.specs.Char.{digit_value}

-- white space: space, tab, line feed, carriage return
abbrev pub is_white : ℕ → Bool
is_white b = (b == 32) || (b == 9) || (b == 10) || (b == 13)

-- 0 to 9
abbrev pub is_digit : ℕ → Bool
is_digit b = nat_le 48 b && nat_lt b 58

-- 1 to 9
abbrev pub is_nonzero_digit : ℕ → Bool
is_nonzero_digit b = nat_le 49 b && nat_lt b 58

-- e or E
abbrev pub is_exponent_letter : ℕ → Bool
is_exponent_letter b = (b == 101) || (b == 69)

-- 0 to 9, a to f, A to F
abbrev pub is_hex : ℕ → Bool
is_hex b = nat_lt (digit_value b) 16

-- the next byte fails the test, or there is none
abbrev pub NextFails : (ℕ → Bool) → List ℕ → Type 0
NextFails test [] = Unit {0}
NextFails test (b ∷ bs) = test b ≡ false

-- what is left after the bytes that pass the test
abbrev pub drop_while : (ℕ → Bool) → List ℕ → List ℕ
drop_while test [] = []
drop_while test (b ∷ bs) = elim (test b) [ true ↦ drop_while test bs | false ↦ b ∷ bs ]

-- the bytes of `new` begin with those of `old`
abbrev pub Begins : List ℕ → List ℕ → Type 0
Begins old new = (more : List ℕ) × (new ≡ old ++ more)

-- the next byte is another than b, or there is none
abbrev pub NextIsNot : ℕ → List ℕ → Type 0
NextIsNot b bytes = (bs : List ℕ) → bytes ≡ b ∷ bs → ⊥

-- The grammar of numbers (RFC 8259, section 6).
use Rattle.std.specs.Prelude.{ℕ, List, [], ◌∷◌, ◌++◌, IsTrue}
use Rattle.numerals.specs.Bytes.{is_digit, is_nonzero_digit, is_exponent_letter}

-- *DIGIT
pub data Digits : List ℕ → Type 0 where
  no_digits : Digits []
  digit : {b : ℕ} {ds : List ℕ} → IsTrue (is_digit b) → Digits ds → Digits (b ∷ ds)

-- 1*DIGIT
pub data SomeDigits : List ℕ → Type 0 where
  some_digits : {b : ℕ} {ds : List ℕ} → IsTrue (is_digit b) → Digits ds → SomeDigits (b ∷ ds)

-- [ minus ]
pub data Minus : List ℕ → Type 0 where
  no_minus : Minus []
  minus : Minus (45 ∷ [])

-- int = zero / ( digit1-9 *DIGIT )
pub data Whole : List ℕ → Type 0 where
  zero_alone : Whole (48 ∷ [])
  from_one : {b : ℕ} {ds : List ℕ} → IsTrue (is_nonzero_digit b) → Digits ds → Whole (b ∷ ds)

-- [ frac ], where frac = decimal-point 1*DIGIT
pub data Fraction : List ℕ → Type 0 where
  no_fraction : Fraction []
  fraction : {ds : List ℕ} → SomeDigits ds → Fraction (46 ∷ ds)

-- [ minus / plus ]
pub data Sign : List ℕ → Type 0 where
  no_sign : Sign []
  plus_sign : Sign (43 ∷ [])
  minus_sign : Sign (45 ∷ [])

-- [ exp ], where exp = e [ minus / plus ] 1*DIGIT
pub data Exponent : List ℕ → Type 0 where
  no_exponent : Exponent []
  exponent : {e : ℕ} {s ds : List ℕ} → IsTrue (is_exponent_letter e) → Sign s → SomeDigits ds → Exponent (e ∷ (s ++ ds))

-- number = [ minus ] int [ frac ] [ exp ]
pub data Number : List ℕ → Type 0 where
  numeral : {m w f e : List ℕ} → Minus m → Whole w → Fraction f → Exponent e → Number (m ++ (w ++ (f ++ e)))

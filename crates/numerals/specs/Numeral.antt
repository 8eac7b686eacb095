-- The number that a numeral denotes (RFC 8259, section 6), and its place on the grid.
use Rattle.std.specs.Prelude.{◌≡◌, ℕ, suc, ◌+◌, ◌-◌, ◌*◌, ◌/◌, ◌^◌, Bool, true, false, not, ◌&&◌, ◌||◌, ◌==◌, nat_le, ℤ, pos, negsuc, ◌+ℤ◌, ◌-ℤ◌, ◌*ℤ◌, neg_ℤ, ◌≤ℤ◌, ◌<ℤ◌, unsigned_abs, List, [], ◌∷◌, ◌++◌, length, take_while, drop, Option, Some, None, if◌then◌else◌, fold, ◌↔◌, is_some, IsTrue, option_and_then}
use Rattle.grid_bounds.specs.Bounds.{limit}
use Rattle.numerals.specs.Bytes.{is_digit, is_exponent_letter}

-- a numeral stands for mantissa * 10 ^ exponent
pub record Numeral : Type 0 where
  pub mantissa : ℤ
  pub exponent : ℤ

abbrev pub digits_at : List ℕ → List ℕ
digits_at text = take_while is_digit text

abbrev pub after_digits : List ℕ → List ℕ
after_digits text = drop (length (digits_at text)) text

-- the number that digits denote after those of the number n
abbrev pub number_onto : ℕ → List ℕ → ℕ
number_onto n digits = fold (λ (n : ℕ) (b : ℕ). n * 10 + (b - 48)) n digits

abbrev pub number_of : List ℕ → ℕ
number_of digits = number_onto 0 digits

abbrev pub skip_sign : List ℕ → List ℕ
skip_sign [] = []
skip_sign (b ∷ rest) = if (b == 45) || (b == 43) then rest else b ∷ rest

abbrev pub has_minus : List ℕ → Bool
has_minus [] = false
has_minus (b ∷ rest) = b == 45

abbrev pub signed : Bool → ℕ → ℤ
signed true n = neg_ℤ (pos n)
signed false n = pos n

-- a whole part: one digit, or digits that do not begin with zero
abbrev pub is_whole_part : List ℕ → Bool
is_whole_part [] = false
is_whole_part (b ∷ []) = true
is_whole_part (b ∷ c ∷ rest) = not (b == 48)

abbrev pub is_some_digits : List ℕ → Bool
is_some_digits [] = false
is_some_digits (b ∷ rest) = true

-- a fraction after the whole part, and what is left: a point and digits, or nothing
abbrev pub fraction_part : List ℕ → Option (List ℕ × List ℕ)
fraction_part [] = Some ([], [])
fraction_part (b ∷ rest) =
    if b == 46 then (if is_some_digits (digits_at rest) then Some (digits_at rest, after_digits rest) else None) else Some ([], b ∷ rest)

-- digits up to the end
abbrev pub exponent_digits : Bool → List ℕ → Option ℤ
exponent_digits minus text =
    if is_some_digits (digits_at text) && (length (digits_at text) == length text) then Some (signed minus (number_of (digits_at text))) else None

-- an exponent up to the end: `e` or `E`, a sign that may be absent, and digits; or nothing
abbrev pub exponent_part : List ℕ → Option ℤ
exponent_part [] = Some (pos 0)
exponent_part (b ∷ rest) = if is_exponent_letter b then exponent_digits (has_minus rest) (skip_sign rest) else None

abbrev pub numeral_from : Bool → List ℕ → List ℕ → ℤ → Numeral
numeral_from minus whole fraction e = record { mantissa = signed minus (number_of (whole ++ fraction)); exponent = e -ℤ pos (length fraction) }

abbrev pub with_exponent : Bool → List ℕ → List ℕ × List ℕ → Option Numeral
with_exponent minus whole f = option_and_then (λ e. Some (numeral_from minus whole f.0 e)) (exponent_part f.1)

abbrev pub with_fraction : Bool → List ℕ → List ℕ → Option Numeral
with_fraction minus whole rest = option_and_then (with_exponent minus whole) (fraction_part rest)

abbrev pub unsigned_numeral : Bool → List ℕ → Option Numeral
unsigned_numeral minus text = if is_whole_part (digits_at text) then with_fraction minus (digits_at text) (after_digits text) else None

-- the numeral that a text is: a minus that may be absent, a whole part, a fraction and an exponent
unfoldable pub numeral_of : List ℕ → Option Numeral
numeral_of [] = None
numeral_of (b ∷ rest) = if b == 45 then unsigned_numeral true rest else unsigned_numeral false (b ∷ rest)

abbrev pub IsNumeral : List ℕ → Type 0
IsNumeral text = IsTrue (is_some (numeral_of text))

-- ## Places on the grid

-- the whole number below n / d, or n / d itself, for a d above 0
abbrev pub floor_div : ℤ → ℕ → ℤ
floor_div (pos n) d = pos (n / d)
floor_div (negsuc n) d = negsuc (n / d)

-- m * 10 ^ e, rounded to a whole number, halves upwards
abbrev pub rounded : ℤ → ℤ → ℤ
rounded m (pos e) = m *ℤ pos (10 ^ e)
rounded m (negsuc e) = floor_div (pos 2 *ℤ m +ℤ pos (10 ^ suc e)) (2 * 10 ^ suc e)

-- the grid number of a numeral, with `places` decimal places
abbrev pub grid_number : ℕ → Numeral → ℤ
grid_number places v = rounded v.mantissa (v.exponent +ℤ pos places)

abbrev pub fits_grid : ℤ → Bool
fits_grid g = nat_le (unsigned_abs g) limit

abbrev pub checked_grid : ℤ → Option ℤ
checked_grid g = if fits_grid g then Some g else None

abbrev pub grid_at : ℕ → Option Numeral → Option ℤ
grid_at places None = None
grid_at places (Some v) = checked_grid (grid_number places v)

-- the grid number of a text, with `places` decimal places, where it is a numeral and the grid has it
unfoldable pub grid_of_text : ℕ → List ℕ → Option ℤ
grid_of_text places text = grid_at places (numeral_of text)

-- g is the one whole number with g ≤ v + 1/2 < g + 1, where v is m / 10 ^ suc e
abbrev pub RoundedIsNearest : Type 0
RoundedIsNearest = (m g : ℤ) (e : ℕ) → (rounded m (negsuc e) ≡ g)
    ↔ (((pos 2 *ℤ g *ℤ pos (10 ^ suc e)) ≤ℤ (pos 2 *ℤ m +ℤ pos (10 ^ suc e))) × ((pos 2 *ℤ m +ℤ pos (10 ^ suc e)) <ℤ (pos 2 *ℤ (g +ℤ pos 1) *ℤ pos (10 ^ suc e))))

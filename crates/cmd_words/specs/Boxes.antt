-- Decimal places, and boxes of four numerals.
use Rattle.std.specs.Prelude.{ℕ, ◌^◌, ℤ, pos, Bool, not, ◌&&◌, List, [], ◌∷◌, Option, Some, None, is_some, option_and_then, position, Result, Ok, Err, if◌then◌else◌}
use Rattle.std.specs.Ordering.{int_eq}
use Rattle.numerals.specs.Numeral.{numeral_of, grid_of_text}
use Rattle.numerals.specs.Decimal.{decimal_of_text}
use Rattle.plane_model.specs.Points.{GridPoint}
use Rattle.grid_base.specs.Grid.{Corners, grid_point, corners_of}
use Rattle.cmd_words.specs.declared.fault.WordWhy.{WordWhy}
use Rattle.cmd_words.specs.declared.fault.WordWhy.TheVariants as why
use Rattle.cmd_words.specs.Rows.{Text}
use Rattle.cmd_words.specs.Texts.{pieces}

-- 1, 0.1 and so on to 0.000000001, in units of 10^-18
abbrev pub precisions : List ℤ
precisions = pos (10 ^ 18) ∷ pos (10 ^ 17) ∷ pos (10 ^ 16) ∷ pos (10 ^ 15) ∷ pos (10 ^ 14) ∷ pos (10 ^ 13) ∷ pos (10 ^ 12) ∷ pos (10 ^ 11) ∷ pos (10 ^ 10) ∷ pos (10 ^ 9) ∷ []

abbrev pub place_of : ℤ → Option ℕ
place_of units = position (λ (p : ℤ). int_eq units p) precisions

-- the decimal places of a precision
unfoldable pub places_of : Text → Option ℕ
places_of s = option_and_then place_of (decimal_of_text s)

-- ## Boxes

abbrev pub is_numeral : Text → Bool
is_numeral s = is_some (numeral_of s)

abbrev pub corner_from : Option ℤ → Option ℤ → Option GridPoint
corner_from (Some x) (Some y) = grid_point x y
corner_from None y = None
corner_from (Some x) None = None

abbrev pub corner_of : ℕ → Text → Text → Option GridPoint
corner_of places x y = corner_from (grid_of_text places x) (grid_of_text places y)

abbrev pub ordered : Option Corners → Result Corners WordWhy
ordered None = Err why.BadBox
ordered (Some a) = Ok a

-- a corner is out of range, or the least number of one side is above its greatest
abbrev pub box_between : Option GridPoint → Option GridPoint → Result Corners WordWhy
box_between (Some low) (Some high) = ordered (corners_of low high)
box_between None high = Err why.BoxRange
box_between (Some low) None = Err why.BoxRange

-- of xmin, ymin, xmax and ymax
abbrev pub box_of_four : ℕ → Text → Text → Text → Text → Result Corners WordWhy
box_of_four places a b c d =
    if not ((is_numeral a && is_numeral b) && (is_numeral c && is_numeral d)) then Err why.BadBox
    else box_between (corner_of places a b) (corner_of places c d)

abbrev pub box_of_texts : ℕ → List Text → Result Corners WordWhy
box_of_texts places (a ∷ b ∷ c ∷ d ∷ []) = box_of_four places a b c d
box_of_texts places _ = Err why.BadBox

unfoldable pub box_of_text : ℕ → Text → Result Corners WordWhy
box_of_text places s = box_of_texts places (pieces s)

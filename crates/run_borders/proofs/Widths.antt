-- The rows of a table are of one length.
use Rattle.std.proofs.Common.{◌≡◌, ℕ, zero, suc, ◌<◌, List, [], ◌∷◌, length, get_or, sym, ap, ◌∙◌, arith}
use Rattle.json_values.specs.Table.{AreRows, RowValues}

wide : (n : ℕ) (rows : List RowValues) (i : ℕ) (row : RowValues) → AreRows n rows → i < length rows → row ≡ get_or rows i row → length row ≡ n
wide n [] i row h l e = absurd (omega arith)
wide n (r ∷ rows) zero row h l e = ap length e ∙ h.0
wide n (r ∷ rows) (suc i) row h l e = wide n rows i row h.1 (omega arith) e

pub rows_alike : (n : ℕ) (rows : List RowValues) (i j : ℕ) (left right : RowValues) → AreRows n rows → i < length rows → j < length rows → left ≡ get_or rows i left → right ≡ get_or rows j right → length left ≡ length right
rows_alike n rows i j left right h l m p q = wide n rows i left h l p ∙ sym (wide n rows j right h m q)

-- A row after rows of one width, and short lists of distinct names.
use Rattle.std.proofs.Common.{◌≡◌, ℕ, false, List, [], ◌∷◌, ◌++◌, length}
use Rattle.std.specs.List.{IsDistinct}
use Rattle.std.specs.Str.{bytes_eq}
use Rattle.json_values.specs.Table.{AreRows, AreDistinctNames, RowValues}
use Rattle.table_rows.proofs.Cells.{rows_long-append}

pub rows_grown : (n : ℕ) (rows : List RowValues) (row : RowValues) → AreRows n rows → length row ≡ n → AreRows n (rows ++ row ∷ [])
rows_grown n rows row h e = rows_long-append n rows (row ∷ []) h (e, tt)

pub no_names : AreDistinctNames []
unfolding IsDistinct
no_names = tt

pub one_name : (a : List ℕ) → AreDistinctNames (a ∷ [])
unfolding IsDistinct
one_name a = (tt, tt)

pub two_names : (a b : List ℕ) → bytes_eq a b ≡ false → AreDistinctNames (a ∷ b ∷ [])
unfolding IsDistinct
two_names a b h = ((h, tt), (tt, tt))

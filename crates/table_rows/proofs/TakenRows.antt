-- Rows that are taken from a table are as long as its names.
use Rattle.std.proofs.Common.{◌≡◌, ℕ, suc, zero, ◌<◌, List, [], ◌∷◌, map, length, slice_get, get_or, unwrap_or, Option, Some, None, All, refl, sym, ap, ◌∙◌, true≢false, is_some, arith}
use Rattle.std.proofs.lemmas.Option.{slice_get-get_or, unwrap_or-slice_get}
use Rattle.json_values.specs.Table.{RowValues, AreRows}
use Rattle.table_rows.specs.Rows.{row_at, first_row}

pub missing_is_default : {A : Type 0} (xs : List A) (i : ℕ) (d : A) → slice_get xs i ≡ None → get_or xs i d ≡ d
missing_is_default xs i d h = sym (unwrap_or-slice_get xs i d) ∙ ap (λ o. unwrap_or o d) h

pub long_at : (n : ℕ) (rows : List RowValues) (k : ℕ) → AreRows n rows → k < length rows → length (get_or rows k []) ≡ n
long_at n [] k long h = absurd (omega arith)
long_at n (row ∷ rows) zero long h = long.0
long_at n (row ∷ rows) (suc k) long h = long_at n rows k long.1 (omega arith)

pub taken_as_long : (n : ℕ) (rows : List RowValues) (ns : List ℕ) → AreRows n rows → All (λ n. n < length rows) ns → AreRows n (map (row_at rows) ns)
taken_as_long n rows [] long within = tt
taken_as_long n rows (k ∷ ns) long within =
    (long_at n rows k long (within 0 0 (omega arith)), taken_as_long n rows ns long (λ j d h. within (suc j) d (omega arith)))

-- the first of no numbers
pub first_none : (rows : List RowValues) (ns : List ℕ) → None ≡ slice_get ns 0 → None ≡ first_row rows ns
first_none rows [] e = refl
first_none rows (n ∷ ns) e = absurd (true≢false (sym (ap is_some e)))

-- the row with the first number
pub first_some : (rows : List RowValues) (ns : List ℕ) (n : ℕ) → All (λ k. k < length rows) ns → Some n ≡ slice_get ns 0 → slice_get rows n ≡ first_row rows ns
first_some rows [] n within e = absurd (true≢false (ap is_some e))
first_some rows (m ∷ ns) n within e =
    ap (λ (r : Option ℕ). slice_get rows (unwrap_or r 0)) e ∙ slice_get-get_or rows m [] (within 0 0 (omega arith))

-- The table of records: one element more, and columns of texts that are listed more than once.
use Rattle.std.proofs.Common.{ℕ, zero, suc, ◌≡◌, ◌+◌, ◌<◌, List, [], ◌∷◌, ◌++◌, Bool, true, false, not, ◌&&◌, refl, ap, ◌∙◌, length, map, take, get_or, arith, length-take-le}
use Rattle.std.proofs.lemmas.List.{take_more}
use Rattle.std.proofs.Common.{subst}
use Rattle.std.specs.Str.{bytes_eq}
use Rattle.std.specs.Cmp.{unsigned_Decides}
use Rattle.std.specs.Cmp.Lexicographic.{pointwise_decides}
use Rattle.indexmap.specs.IndexSet.{insert_all}
use Rattle.json_values.specs.Table.{AreRows}
use Rattle.table_terms.specs.Names.{Text, has_name}
use Rattle.std.specs.List.{list_all, list_any}
use Rattle.csv.specs.Records.{Row, fields_of}
use Rattle.csv_io.specs.CsvCells.{cell_at, cell_value, is_empty_cell}
use Rattle.csv_io.specs.CsvTable.{Cells, numbered, is_number_column, is_number_or_empty, has_numbers, column_cells, number_columns, row_values}
use Rattle.table_terms.proofs.Inserted.{inserted_all}

numbered-push : {A B : Type 0} (f : ℕ → A → B) (n : ℕ) (xs : List A) (x : A) → numbered f n (xs ++ x ∷ []) ≡ numbered f n xs ++ f (n + length xs) x ∷ []
numbered-push f n [] x = ap (λ (k : ℕ). f k x ∷ []) (omega arith)
numbered-push f n (y ∷ ys) x =
    ap (λ r. f n y ∷ r) (numbered-push f (n + 1) ys x ∙ ap (λ (k : ℕ). numbered f (n + 1) ys ++ f k x ∷ []) (omega arith))

-- one element more
pub numbered_more : {A B : Type 0} (f : ℕ → A → B) (xs : List A) (i : ℕ) (d : A) → i < length xs → numbered f 0 (take (i + 1) xs) ≡ numbered f 0 (take i xs) ++ f i (get_or xs i d) ∷ []
numbered_more f xs i d less =
    let short : length (take i xs) ≡ i = length-take-le i xs (omega (arith, less)) in
    let long : 0 + length (take i xs) ≡ i = omega (arith, short) in
    ap (numbered f 0) (take_more xs i d less) ∙ numbered-push f 0 (take i xs) (get_or xs i d)
    ∙ ap (λ (k : ℕ). numbered f 0 (take i xs) ++ f k (get_or xs i d) ∷ []) long

pub numbered_long : {A B : Type 0} (f : ℕ → A → B) (n : ℕ) (xs : List A) → length (numbered f n xs) ≡ length xs
numbered_long f n [] = refl
numbered_long f n (x ∷ xs) = ap suc (numbered_long f (n + 1) xs)

pub columns_more : (texts names : List Text) (rows : List Cells) (i : ℕ) (d : Text) → i < length names
    → number_columns texts (take (i + 1) names) rows ≡ number_columns texts (take i names) rows ++ is_number_column texts rows i (get_or names i d) ∷ []
columns_more texts names rows i d less = numbered_more (is_number_column texts rows) names i d less

pub values_more : (numbers : List Bool) (row : Cells) (i : ℕ) (d : Bool) → i < length numbers
    → row_values (take (i + 1) numbers) row ≡ row_values (take i numbers) row ++ cell_value (get_or numbers i d) (cell_at row i) ∷ []
values_more numbers row i d less = numbered_more (λ (column : ℕ) (is_number : Bool). cell_value is_number (cell_at row column)) numbers i d less

-- rows under columns are as long as these
rows_long : (numbers : List Bool) (rows : List Cells) → AreRows (length numbers) (map (row_values numbers) rows)
rows_long numbers [] = tt
rows_long numbers (row ∷ rows) = (numbered_long (λ (column : ℕ) (is_number : Bool). cell_value is_number (cell_at row column)) 0 numbers, rows_long numbers rows)

pub table_long : (texts names : List Text) (rows : List Cells) → AreRows (length names) (map (row_values (number_columns texts names rows)) rows)
table_long texts names rows =
    subst (λ (n : ℕ). AreRows n (map (row_values (number_columns texts names rows)) rows)) (numbered_long (is_number_column texts rows) 0 names) (rows_long (number_columns texts names rows) rows)

-- ## A cell that is no number

and_false : (b : Bool) → (b && false) ≡ false
and_false true = refl
and_false false = refl

bad_cell : (rows : List Row) (column i : ℕ) (d : Row) → i < length rows → is_number_or_empty (cell_at (fields_of (get_or rows i d)) column) ≡ false → list_all is_number_or_empty (column_cells (map fields_of rows) column) ≡ false
bad_cell [] column i d less bad = absurd (omega (arith, less))
bad_cell (row ∷ rows) column zero d less bad = ap (λ (b : Bool). b && list_all is_number_or_empty (column_cells (map fields_of rows) column)) bad
bad_cell (row ∷ rows) column (suc i) d less bad =
    ap (λ (b : Bool). is_number_or_empty (cell_at (fields_of row) column) && b) (bad_cell rows column i d (omega (arith, less)) bad)
    ∙ and_false (is_number_or_empty (cell_at (fields_of row) column))

pub bad_column : (rows : List Row) (column i : ℕ) (d : Row) → i < length rows → is_number_or_empty (cell_at (fields_of (get_or rows i d)) column) ≡ false → has_numbers (column_cells (map fields_of rows) column) ≡ false
bad_column rows column i d less bad =
    ap (λ (b : Bool). list_any (λ (cell : Text). not (is_empty_cell cell)) (column_cells (map fields_of rows) column) && b) (bad_cell rows column i d less bad)
    ∙ and_false (list_any (λ (cell : Text). not (is_empty_cell cell)) (column_cells (map fields_of rows) column))

-- ## Columns of texts, each listed once or more

listed : (names : List Text) (name : Text) → has_name (insert_all bytes_eq [] names) name ≡ has_name names name
listed names name = inserted_all bytes_eq (pointwise_decides unsigned_Decides) name [] names

pub same_columns : (texts names : List Text) (rows : List Cells) → number_columns (insert_all bytes_eq [] texts) names rows ≡ number_columns texts names rows
same_columns texts names rows = λ i. numbered (λ (column : ℕ) (name : Text). not (listed texts name i) && has_numbers (column_cells rows column)) 0 names

-- The text of a table, record by record.
use Rattle.std.proofs.Common.{ℕ, ◌≡◌, ◌≢◌, ◌+◌, ◌<◌, List, [], ◌∷◌, ◌++◌, refl, sym, ap, ◌∙◌, length, take, get_or, arith, append-nil}
use Rattle.std.proofs.lemmas.List.{flat_map_more, take_more}
use Rattle.csv.specs.Writing.{default_writer, row_text}
use Rattle.json_values.specs.Table.{RowValues}
use Rattle.table_terms.specs.Names.{Text}
use Rattle.csv_io.specs.CsvText.{records_text, row_cells, text_under}

-- a record of the names alone
pub records_none : (names : List Text) → records_text names [] ≡ row_text default_writer names
records_none names = append-nil (row_text default_writer names)

-- a record more
pub records_more : (names : List Text) (rows : List RowValues) (i : ℕ) (d : RowValues) → i < length rows
    → records_text names (take (i + 1) rows) ≡ records_text names (take i rows) ++ row_text default_writer (row_cells (get_or rows i d))
records_more names rows i d less =
    ap (records_text names) (take_more rows i d less)
    ∙ sym (flat_map_more (λ (row : RowValues). row_text default_writer (row_cells row)) (row_text default_writer names) (take i rows) (get_or rows i d))

pub text_none : (rows : List RowValues) (names : List Text) → length names ≡ 0 → text_under rows names ≡ []
text_none rows [] e = refl
text_none rows (name ∷ names) e = absurd (omega (arith, e))

pub text_some : (rows : List RowValues) (names : List Text) → length names ≢ 0 → text_under rows names ≡ records_text names rows
text_some rows [] n = absurd (n refl)
text_some rows (name ∷ names) n = refl

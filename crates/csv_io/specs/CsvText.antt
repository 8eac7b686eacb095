-- The comma-separated text of a table (RFC 4180), by the texts that `csv` writes for records.
use Rattle.std.specs.Prelude.{◌≡◌, ℕ, false, List, [], ◌∷◌, ◌++◌, map, Vec}
use Rattle.std.specs.Global.{Global}
use Rattle.std.specs.List.{flat_map}
use Rattle.csv.specs.Writing.{default_writer, fields_written, has_written, row_text, writer_pending, writer_setup, writer_under}
use Rattle.csv.specs.declared.writer.Writer.{Writer}
use Rattle.json_values.specs.Table.{TableContent, RowValues}
use Rattle.json_values.specs.Value.{plain_text}
use Rattle.table_terms.specs.Names.{Text}

-- the record of a row: the plain texts of its values
abbrev pub row_cells : RowValues → List Text
row_cells row = map plain_text row

-- a record of the names, and one for each row
abbrev pub records_text : List Text → List RowValues → Text
records_text names rows = row_text default_writer names ++ flat_map (λ (row : RowValues). row_text default_writer (row_cells row)) rows

abbrev pub text_under : List RowValues → List Text → Text
text_under rows [] = []
text_under rows (name ∷ names) = records_text (name ∷ names) rows

-- without columns nothing
abbrev pub csv_text : TableContent → Text
csv_text t = text_under t.rows t.names

-- ## A writer

-- what a writer has written, and then what it holds back
abbrev pub text_so_far : Writer (Vec ℕ Global) → Text
text_so_far writer = (writer_under writer).items ++ writer_pending writer

-- a writer with the settings of `csv`, no record begun
abbrev pub IsBetweenRecords : Writer (Vec ℕ Global) → Type 0
IsBetweenRecords writer = (writer_setup writer ≡ default_writer) × (fields_written writer ≡ 0) × (has_written writer ≡ false)

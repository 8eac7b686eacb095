-- The rows of tables one after another.
use Rattle.std.specs.Prelude.{List}
use Rattle.std.specs.List.{flat_map}
use Rattle.json_values.specs.Table.{TableContent, RowValues}

abbrev pub all_rows : List TableContent → List RowValues
all_rows tables = flat_map (λ (t : TableContent). t.rows) tables

-- The key of each row of a table: the value of an expression, evaluated row by row.
use Rattle.std.specs.Prelude.{ℕ, ◌+◌, List, [], ◌∷◌, Result, Ok, slice_index_or}
use Rattle.expr_lang.specs.Meaning.{evaluated}
use Rattle.expr_lang.specs.Tree.{Tree}
use Rattle.json_values.specs.Table.{TableContent, RowValues}
use Rattle.json_values.specs.declared.value.Value.{Value}
use Rattle.json_values.specs.declared.value.Value.TheVariants as cell
use Rattle.table_terms.specs.Names.{Text}
use Rattle.table_terms.specs.Refusals.{on_ok}
use Rattle.table_ops.specs.Filtering.{value_for}
use Rattle.table_rows.specs.declared.fault.TableWhy.{TableWhy}

-- the keys of rows, from number n on, or the first refusal
abbrev pub keys_from : List Text → Tree → ℕ → List RowValues → Result (List Value) TableWhy
keys_from names e n [] = Ok []
keys_from names e n (row ∷ rows) =
    on_ok (value_for n (evaluated names row n e)) (λ key. on_ok (keys_from names e (n + 1) rows) (λ keys. Ok (key ∷ keys)))

abbrev pub keys_of : TableContent → Tree → Result (List Value) TableWhy
keys_of t e = keys_from t.names e 0 t.rows

-- the key of row n
abbrev pub key_at : List Value → ℕ → Value
key_at keys n = slice_index_or keys n cell.Null

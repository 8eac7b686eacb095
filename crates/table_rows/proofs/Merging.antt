-- Tables one under another: one more table, one more name.
use Rattle.std.proofs.Common.{◌≡◌, ℕ, ◌+◌, ◌<◌, false, List, [], ◌∷◌, ◌++◌, map, length, take, drop, get_or, refl, sym, ap, ◌∙◌, arith}
use Rattle.std.specs.Str.{bytes_eq}
use Rattle.std.proofs.lemmas.List.{flat_map_more, take_more}
use Rattle.indexmap.specs.IndexSet.{insert_all}
use Rattle.json_values.specs.Table.{TableContent, AreRows}
use Rattle.table_terms.specs.Names.{Text}
use Rattle.table_rows.specs.Columns.{cells}
use Rattle.table_rows.specs.Merge.{all_names, differing, merged_rows, refused_merge}
use Rattle.table_rows.proofs.Cells.{rows_long-append, cells_long}
use Rattle.table_terms.proofs.Inserted.{insert_all-append}

-- without force each table but the first is tested against it
pub first_tested : (ts : List TableContent) (d : TableContent) → 0 < length ts → refused_merge false ts ≡ differing (get_or ts 0 d).names 1 (drop 1 ts)
first_tested [] d less = absurd (omega arith)
first_tested (t ∷ ts) d less = refl

-- the names of one more table
pub all_names_more : (ts : List TableContent) (i : ℕ) (d : TableContent) → i < length ts → all_names (take (i + 1) ts) ≡ all_names (take i ts) ++ (get_or ts i d).names
all_names_more ts i d less = ap all_names (take_more ts i d less) ∙ sym (flat_map_more (λ (t : TableContent). t.names) [] (take i ts) (get_or ts i d))

pub merged_names_more : (ts : List TableContent) (i : ℕ) (d : TableContent) → i < length ts
    → insert_all bytes_eq [] (all_names (take (i + 1) ts)) ≡ insert_all bytes_eq (insert_all bytes_eq [] (all_names (take i ts))) (get_or ts i d).names
merged_names_more ts i d less = ap (insert_all bytes_eq []) (all_names_more ts i d less) ∙ insert_all-append [] (all_names (take i ts)) (get_or ts i d).names

pub merged_rows_more : (names : List Text) (ts : List TableContent) (i : ℕ) (d : TableContent) → i < length ts
    → merged_rows names (take (i + 1) ts) ≡ merged_rows names (take i ts) ++ map (cells (get_or ts i d).names names) (get_or ts i d).rows
merged_rows_more names ts i d less =
    ap (merged_rows names) (take_more ts i d less) ∙ sym (flat_map_more (λ (t : TableContent). map (cells t.names names) t.rows) [] (take i ts) (get_or ts i d))

-- merged rows are as long as the names
pub merged_long : (names : List Text) (ts : List TableContent) → AreRows (length names) (merged_rows names ts)
merged_long names [] = tt
merged_long names (t ∷ ts) = rows_long-append (length names) (map (cells t.names names) t.rows) (merged_rows names ts) (cells_long t.names names t.rows) (merged_long names ts)

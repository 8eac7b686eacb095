-- The value of a cell, from what a look-up in its row gave.
use Rattle.std.proofs.Common.{◌≡◌, ◌++◌, ◌∷◌, ℕ, List, [], map, length, slice_get, Some, None, sym, refl, ap}
use Rattle.std.proofs.lemmas.List.{length-map}
use Rattle.std.proofs.lemmas.Option.{get_or_from_slice_get}
use Rattle.json_values.specs.Table.{RowValues, AreRows}
use Rattle.table_terms.specs.Names.{Text, value_at, place_of}
use Rattle.table_rows.specs.Rows.{picked}
use Rattle.table_rows.specs.Columns.{cells}
use Rattle.json_values.specs.declared.value.Value.{Value}
use Rattle.json_values.specs.declared.value.Value.TheVariants as is
use Rattle.table_rows.proofs.TakenRows.{missing_is_default}

pub cell_missing : (row : RowValues) (p : ℕ) → None ≡ slice_get row p → value_at row p ≡ is.Null
cell_missing row p h = missing_is_default row p is.Null (sym h)

pub cell_there : (row : RowValues) (p : ℕ) (v : Value) → Some v ≡ slice_get row p → value_at row p ≡ v
cell_there row p v h = get_or_from_slice_get row p v is.Null (sym h)

pub map_map : {A B C : Type 0} (f : B → C) (g : A → B) (xs : List A) → map f (map g xs) ≡ map (λ x. f (g x)) xs
map_map f g [] = refl
map_map f g (x ∷ xs) = ap (λ r. f (g x) ∷ r) (map_map f g xs)

-- values picked by the places of fields are the cells of the fields
pub picked_cells : (names fields : List Text) (rows : List RowValues) → map (picked (map (place_of names) fields)) rows ≡ map (cells names fields) rows
picked_cells names fields rows = λ i. map (λ (row : RowValues). map_map (value_at row) (place_of names) fields i) rows

pub picked_long : (places : List ℕ) (rows : List RowValues) → AreRows (length places) (map (picked places) rows)
picked_long places [] = tt
picked_long places (row ∷ rows) = (length-map places (value_at row), picked_long places rows)

-- rows of one width, one list after the other
pub rows_long-append : (n : ℕ) (xs ys : List RowValues) → AreRows n xs → AreRows n ys → AreRows n (xs ++ ys)
rows_long-append n [] ys h k = k
rows_long-append n (x ∷ xs) ys h k = (h.0, rows_long-append n xs ys h.1 k)

pub cells_long : (names fields : List Text) (rows : List RowValues) → AreRows (length fields) (map (cells names fields) rows)
cells_long names fields [] = tt
cells_long names fields (row ∷ rows) = (length-map fields (λ (f : Text). value_at row (place_of names f)), cells_long names fields rows)

-- Rows of a union: as wide as the names of all tables, and made table by table.
use Rattle.std.proofs.Common.{◌≡◌, sym, ap, ◌∙◌, arith, ℕ, ◌+◌, ◌<◌, ◌≤◌, List, [], ◌++◌, map, zip, length, get_or, take, Option, None}
use Rattle.std.specs.List.{flat_map}
use Rattle.std.proofs.lemmas.List.{flat_map_more, length-append, length-map, get_or_default, take_more, take_all}
use Rattle.std.proofs.lemmas.Slice.Zip.{get_or-zip, length-zip}
use Rattle.json_values.specs.Table.{TableContent, RowValues}
use Rattle.table_rows.specs.Merge.{all_names}
use Rattle.table_rows.proofs.Merging.{all_names_more}
use Rattle.union_ops.specs.Choices.{Choice, IsChoiceFrom}
use Rattle.union_ops.specs.UnionTable.{chosen_row, union_row}

abbrev pub row_counts : List TableContent → List ℕ
row_counts tables = map (λ (t : TableContent). length t.rows) tables

-- the values that are chosen of the first i tables
abbrev pub row_so_far : List TableContent → Choice → ℕ → RowValues
row_so_far tables choice i = flat_map (λ (p : TableContent × Option ℕ). chosen_row p.0 p.1) (take i (zip tables choice))

-- a choice from the rows of tables has a place for each of them
pub rows_of_all : (tables : List TableContent) (choice : Choice) (i : ℕ) → IsChoiceFrom (row_counts tables) choice → i < length tables → i < length choice
rows_of_all tables choice i h l = let e = length-map tables (λ (t : TableContent). length t.rows) in let each = h.each in omega arith

-- one table more
pub row_more : (tables : List TableContent) (choice : Choice) (i : ℕ) (d t : TableContent) (n : Option ℕ) → i < length tables → i < length choice → t ≡ get_or tables i d → n ≡ get_or choice i None →
    row_so_far tables choice i ++ chosen_row t n ≡ row_so_far tables choice (i + 1)
row_more tables choice i d t n l m is at =
    let values : TableContent × Option ℕ → RowValues = λ (p : TableContent × Option ℕ). chosen_row p.0 p.1 in
    let pairs = zip tables choice in
    let within : i < length pairs = (let e = length-zip tables choice in omega arith) in
    let here : get_or pairs i (d, n) ≡ (t, n) = get_or-zip tables choice i (d, n) l m ∙ (λ j. (sym is j, (get_or_default choice i n None m ∙ sym at) j)) in
    sym (ap (flat_map values) (take_more pairs i (d, n) within) ∙ sym (flat_map_more values [] (take i pairs) (get_or pairs i (d, n))) ∙ ap (λ (p : TableContent × Option ℕ). row_so_far tables choice i ++ values p) here)

pub row_goes_on : (tables : List TableContent) (choice : Choice) (i : ℕ) (t : TableContent) (n : Option ℕ) (old new : RowValues) → i < length tables → i < length choice → t ≡ get_or tables i t →
    new ≡ old ++ chosen_row t n → n ≡ get_or choice i None → old ≡ row_so_far tables choice i → new ≡ row_so_far tables choice (i + 1)
row_goes_on tables choice i t n old new l m is more at before =
    more ∙ ap (λ (row : RowValues). row ++ chosen_row t n) before ∙ row_more tables choice i t t n l m is at

pub row_whole : (tables : List TableContent) (choice : Choice) (i : ℕ) → length tables ≤ i → row_so_far tables choice i ≡ union_row tables choice
row_whole tables choice i l =
    ap (flat_map (λ (p : TableContent × Option ℕ). chosen_row p.0 p.1)) (take_all i (zip tables choice) (let e = length-zip tables choice in omega arith))

pub width_more : (tables : List TableContent) (i : ℕ) (d t : TableContent) → i < length tables → t ≡ get_or tables i d → length (all_names (take i tables)) + length t.names ≡ length (all_names (take (i + 1) tables))
width_more tables i d t l is = sym
    (ap (λ (names : List (List ℕ)). length names) (all_names_more tables i d l)
    ∙ length-append (all_names (take i tables)) (get_or tables i d).names
    ∙ ap (λ (u : TableContent). length (all_names (take i tables)) + length u.names) (sym is))

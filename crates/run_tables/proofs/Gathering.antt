-- A merged table has as many rows as the tables together.
use Rattle.std.proofs.Common.{◌≡◌, ◌<◌, Err, slice_get, Bool, List, [], ◌∷◌, length, map, Option, Some, None, Ok, refl, ap, sym, ◌∙◌, arith, length-append}
use Rattle.std.proofs.lemmas.List.{length-map}
use Rattle.json_values.specs.Table.{TableContent}
use Rattle.table_rows.specs.Columns.{cells}
use Rattle.table_rows.specs.Merge.{merge_tables, merged_names, merged_rows, refused_merge}
use Rattle.table_terms.specs.Names.{Text}
use Rattle.table_terms.specs.Refusals.{unless}
use Rattle.table_rows.specs.Refusals.{Answers}
use Rattle.table_rows.specs.declared.fault.TableFault.{TableFault}
use Rattle.table_rows.specs.declared.fault.TableFault.TheVariants.{Bad, Memory}
use Rattle.run_plane.specs.declared.layer.Layer.{Layer}
use Rattle.run_state.specs.Stops.{StopsFor, stop_of, table_refusal}
use Rattle.run_tables.specs.Gathering.{all_rows}
use Rattle.run_tables.specs.Made.{refused_layers}

-- what is answered where nothing is refused
pub answered : {T E : Type 0} (refusal : Option E) (v t : T) → unless refusal (Ok v) ≡ Ok t → v ≡ t
answered None v t h = grind arith
answered (Some why) v t h = grind arith

rows_counted : (names : List Text) (ts : List TableContent) → length (merged_rows names ts) ≡ length (all_rows ts)
rows_counted names [] = refl
rows_counted names (t ∷ ts) = omega (arith, length-append (map (cells t.names names) t.rows) (merged_rows names ts), length-append t.rows (all_rows ts), length-map t.rows (cells t.names names), rows_counted names ts)

pub merged_count : (ts : List TableContent) (force : Bool) (t : TableContent) → merge_tables ts force ≡ Ok t → length t.rows ≡ length (all_rows ts)
merged_count ts force t h =
    let e = answered (refused_merge force ts) (record { names = merged_names ts; rows = merged_rows (merged_names ts) ts }) t h in
    sym (ap (λ (x : TableContent). length x.rows) e) ∙ rows_counted (merged_names ts) ts

-- ---- why layers are not merged

abbrev tables_of : List Layer → List TableContent
tables_of layers = map (λ (layer : Layer). layer.table) layers

pub some_tables : (first : Layer) (layers : List Layer) → Some first ≡ slice_get layers 0 → 0 < length (tables_of layers)
some_tables first [] h = absurd (let e : Some first ≡ None = h in cc)
some_tables first (layer ∷ layers) h = omega arith

refused_tables : (force : Bool) (first : Layer) (layers : List Layer) → Some first ≡ slice_get layers 0 → refused_layers force layers ≡ table_refusal (merge_tables (tables_of layers) force)
refused_tables force first [] h = absurd (let e : Some first ≡ None = h in cc)
refused_tables force first (layer ∷ layers) h = refl

pub merge_stops : (force : Bool) (first : Layer) (layers : List Layer) (tables : List TableContent) (fault : TableFault) → Some first ≡ slice_get layers 0 → tables ≡ tables_of layers →
    Answers (Err fault) (merge_tables tables force) → StopsFor (refused_layers force layers) (stop_of fault)
merge_stops force first layers tables (Bad why) h e a = refused_tables force first layers h ∙ (ap (λ (ts : List TableContent). table_refusal (merge_tables ts force)) (sym e) ∙ ap table_refusal a)
merge_stops force first layers tables Memory h e a = tt

pub merge_goes : (force : Bool) (first : Layer) (layers : List Layer) (tables : List TableContent) (table : TableContent) → Some first ≡ slice_get layers 0 → tables ≡ tables_of layers →
    merge_tables tables force ≡ Ok table → refused_layers force layers ≡ None
merge_goes force first layers tables table h e a = refused_tables force first layers h ∙ (ap (λ (ts : List TableContent). table_refusal (merge_tables ts force)) (sym e) ∙ ap table_refusal a)

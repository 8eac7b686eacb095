-- The table of a text, by that of its records.
use Rattle.std.proofs.Common.{ℕ, ◌≡◌, ◌≤◌, ◌-◌, List, [], ◌∷◌, Bool, sym, ap, ◌∙◌, subst, length, map, take, drop, get_or, arith}
use Rattle.std.proofs.lemmas.List.{take_all}
use Rattle.std.specs.Str.{bytes_eq}
use Rattle.indexmap.specs.IndexSet.{insert_all}
use Rattle.csv.specs.Records.{Row, fields_of}
use Rattle.std.specs.Prelude.{Option, Some, None, Result, Ok, Err}
use Rattle.std.specs.Str.{IsUtf8}
use Rattle.csv.specs.Reading.{default_config, records, strip_bom}
use Rattle.json_values.specs.Table.{TableContent, AreRows, RowValues}
use Rattle.csv_io.proofs.CsvTable.{same_columns, table_long}
use Rattle.table_terms.specs.Names.{Text}
use Rattle.table_terms.specs.Refusals.{unless, first_refusal}
use Rattle.csv_io.specs.declared.fault.CsvFault.{CsvFault}
use Rattle.csv_io.specs.declared.fault.CsvFault.TheVariants as fault
use Rattle.csv_io.specs.CsvTable.{Cells, Finds, Gives, ReadsText, number_columns, refused_row, repeated_column, row_values, table_of_records, table_under}

pub text_read : (texts : List Text) (room : ℕ) (bytes : Text) (rows : List Cells) (result : Result TableContent CsvFault) → IsUtf8 bytes → rows ≡ records default_config (strip_bom bytes) → Gives result (table_of_records texts room rows) → ReadsText texts room bytes result
text_read texts room bytes rows (Ok t) u e h = (u, ap (table_of_records texts room) (sym e) ∙ h)
text_read texts room bytes rows (Err (fault.Utf8 at)) u e h = absurd h
text_read texts room bytes rows (Err fault.NoHeader) u e h = (u, ap (table_of_records texts room) (sym e) ∙ h)
text_read texts room bytes rows (Err (fault.RepeatedName column)) u e h = (u, ap (table_of_records texts room) (sym e) ∙ h)
text_read texts room bytes rows (Err (fault.TooManyRows row)) u e h = (u, ap (table_of_records texts room) (sym e) ∙ h)
text_read texts room bytes rows (Err (fault.UnequalRow row)) u e h = (u, ap (table_of_records texts room) (sym e) ∙ h)
text_read texts room bytes rows (Err fault.Memory) u e h = tt

-- records without a fault
pub records_read : (texts : List Text) (room : ℕ) (names : List Text) (rows : List Cells) → repeated_column [] 0 names ≡ None → refused_row room (length names) 0 rows ≡ None → table_of_records texts room (names ∷ rows) ≡ Ok (table_under texts names rows)
records_read texts room names rows a b =
    ap (λ (o : Option CsvFault). unless (first_refusal o (refused_row room (length names) 0 rows)) (Ok (table_under texts names rows))) a
    ∙ ap (λ (o : Option CsvFault). unless o (Ok (table_under texts names rows))) b

-- ## A fault of the header or of a row

pub gives_fault : (T : Type 0) {U : Type 0} (r : Result U CsvFault) (e : CsvFault) (found : Option CsvFault) (wanted : Result U CsvFault) → r ≡ Err e → Finds {T = T} (Err e) found
    → ((why : CsvFault) → found ≡ Some why → wanted ≡ Err why) → Gives r wanted
gives_fault T {U} r (fault.Utf8 at) found wanted is f on = absurd f
gives_fault T {U} r fault.NoHeader found wanted is f on = subst (λ (s : Result U CsvFault). Gives s wanted) (sym is) (on fault.NoHeader f)
gives_fault T {U} r (fault.RepeatedName column) found wanted is f on = subst (λ (s : Result U CsvFault). Gives s wanted) (sym is) (on (fault.RepeatedName column) f)
gives_fault T {U} r (fault.TooManyRows row) found wanted is f on = subst (λ (s : Result U CsvFault). Gives s wanted) (sym is) (on (fault.TooManyRows row) f)
gives_fault T {U} r (fault.UnequalRow row) found wanted is f on = subst (λ (s : Result U CsvFault). Gives s wanted) (sym is) (on (fault.UnequalRow row) f)
gives_fault T {U} r fault.Memory found wanted is f on = subst (λ (s : Result U CsvFault). Gives s wanted) (sym is) tt

pub header_refused : (strings : List Text) (room : ℕ) (list : List Row) (header : Row) (why : CsvFault) → 1 ≤ length list → header ≡ get_or list 0 header
    → repeated_column [] 0 (fields_of header) ≡ Some why → table_of_records strings room (map fields_of list) ≡ Err why
header_refused strings room [] header why some first e = absurd (omega (arith, some))
header_refused strings room (r ∷ rs) header why some first e =
    ap (λ (o : Option CsvFault). unless (first_refusal o (refused_row room (length (fields_of r)) 0 (map fields_of rs))) (Ok (table_under strings (fields_of r) (map fields_of rs))))
    (ap (λ (h : Row). repeated_column [] 0 (fields_of h)) (sym first) ∙ e)

pub row_refused : (strings : List Text) (room width : ℕ) (list rest : List Row) (header : Row) (why : CsvFault) → 1 ≤ length list → rest ≡ take (length list - 1) (drop 1 list) → header ≡ get_or list 0 header
    → repeated_column [] 0 (fields_of header) ≡ None → width ≡ length (fields_of header) → refused_row room width 0 (map fields_of rest) ≡ Some why → table_of_records strings room (map fields_of list) ≡ Err why
row_refused strings room width [] rest header why some later first fresh wide e = absurd (omega (arith, some))
row_refused strings room width (r ∷ rs) rest header why some later first fresh wide e =
    let others : rest ≡ rs = later ∙ take_all (length (r ∷ rs) - 1) rs (omega arith) in
    let answer : Result TableContent CsvFault = Ok (table_under strings (fields_of r) (map fields_of rs)) in
    let row : refused_row room (length (fields_of r)) 0 (map fields_of rs) ≡ Some why =
    (λ i. refused_row room ((ap length (ap fields_of (sym first)) ∙ sym wide) i) 0 (map fields_of (sym others i))) ∙ e in
    ap (λ (o : Option CsvFault). unless (first_refusal o (refused_row room (length (fields_of r)) 0 (map fields_of rs))) answer)
    (ap (λ (h : Row). repeated_column [] 0 (fields_of h)) (sym first) ∙ fresh)
    ∙ ap (λ (o : Option CsvFault). unless o answer) row

-- ## The parts of a table

pub rows_wide : (strings names : List Text) (records : List Cells) (rows : List RowValues) → rows ≡ map (row_values (number_columns strings names records)) records → AreRows (length names) rows
rows_wide strings names records rows is = subst (AreRows (length names)) (sym is) (table_long strings names records)

pub values_read : (strings texts names : List Text) (records : List Cells) (numbers items : List Bool) (rows : List RowValues)
    → texts ≡ insert_all bytes_eq [] strings → items ≡ number_columns texts names records → numbers ≡ items → rows ≡ map (row_values numbers) records
    → rows ≡ map (row_values (number_columns strings names records)) records
values_read strings texts names records numbers items rows listed columns same is =
    let all : numbers ≡ number_columns strings names records = same ∙ columns ∙ (λ i. number_columns (listed i) names records) ∙ same_columns strings names records in
    is ∙ (λ i. map (row_values (all i)) records)

pub table_read : (strings : List Text) (room width : ℕ) (list rest : List Row) (header : Row) (names : List Text) (rows : List RowValues) (t : TableContent)
    → 1 ≤ length list → rest ≡ take (length list - 1) (drop 1 list) → header ≡ get_or list 0 header → names ≡ fields_of header → repeated_column [] 0 (fields_of header) ≡ None
    → width ≡ length (fields_of header) → refused_row room width 0 (map fields_of rest) ≡ None
    → rows ≡ map (row_values (number_columns strings names (map fields_of rest))) (map fields_of rest) → t.names ≡ names → t.rows ≡ rows
    → table_of_records strings room (map fields_of list) ≡ Ok t
table_read strings room width [] rest header names rows t some later first is fresh wide within values tn tr = absurd (omega (arith, some))
table_read strings room width (r ∷ rs) rest header names rows t some later first is fresh wide within values tn tr =
    let cells : fields_of header ≡ fields_of r = ap fields_of first in
    let others : rest ≡ rs = later ∙ take_all (length (r ∷ rs) - 1) rs (omega arith) in
    let names_are : t.names ≡ fields_of r = tn ∙ is ∙ cells in
    let rows_are : t.rows ≡ map (row_values (number_columns strings (fields_of r) (map fields_of rest))) (map fields_of rest) =
    tr ∙ values ∙ (λ i. map (row_values (number_columns strings ((is ∙ cells) i) (map fields_of rest))) (map fields_of rest)) in
    (λ i. table_of_records strings room (fields_of r ∷ map fields_of (sym others i)))
    ∙ records_read strings room (fields_of r) (map fields_of rest)
    (ap (repeated_column [] 0) (sym cells) ∙ fresh)
    (ap (λ (n : ℕ). refused_row room n 0 (map fields_of rest)) (ap length (sym cells) ∙ sym wide) ∙ within)
    ∙ (λ i. Ok (record { names = sym names_are i; rows = sym rows_are i }))

-- The order of keys, and the rows of a table in it.
use Rattle.std.specs.Prelude.{ℕ, Bool, true, false, List, length, Result, Ok}
use Rattle.std.specs.Ordering.{nat_cmp, bool_cmp, int_cmp, is_lt, ordering_then}
use Rattle.std.specs.declared.cmp.Ordering.{Ordering}
use Rattle.std.specs.declared.cmp.Ordering.TheVariants.{Less, Equal, Greater}
use Rattle.std.specs.Cmp.Lexicographic.{slice_cmp}
use Rattle.std.specs.List.{range_with_len}
use Rattle.lists.specs.Lists.{sort_stable}
use Rattle.expr_lang.specs.Tree.{Tree}
use Rattle.json_values.specs.Table.{TableContent}
use Rattle.json_values.specs.declared.value.Value.{Value}
use Rattle.json_values.specs.declared.value.Value.TheVariants as cell
use Rattle.table_terms.specs.Refusals.{on_ok}
use Rattle.table_rows.specs.declared.fault.TableWhy.{TableWhy}
use Rattle.calc_ops.specs.Keys.{key_at, keys_of}

-- booleans stand before numbers and these before texts; the other values are no keys of an expression
abbrev pub type_place : Value → ℕ
type_place (cell.Bool b) = 0
type_place (cell.Num units) = 1
type_place (cell.Text s) = 2
type_place _ = 3

-- of two keys that are not null: false before true, numbers by value, texts by their bytes, which is by Unicode scalar
-- values
abbrev pub value_order : Value → Value → Ordering
value_order (cell.Bool a) (cell.Bool b) = bool_cmp a b
value_order (cell.Num m) (cell.Num n) = int_cmp m n
value_order (cell.Text s) (cell.Text t) = slice_cmp nat_cmp s t
value_order v w = nat_cmp (type_place v) (type_place w)

-- null stands last in both directions
abbrev pub key_order : Bool → Value → Value → Ordering
key_order descending cell.Null cell.Null = Equal
key_order descending cell.Null w = Greater
key_order descending v cell.Null = Less
key_order false v w = value_order v w
key_order true v w = value_order w v

-- the key of one row comes before that of another
abbrev pub comes_before : Bool → List Value → ℕ → ℕ → Bool
comes_before descending keys m n = is_lt (key_order descending (key_at keys m) (key_at keys n))

-- the numbers of the rows in the order of their keys, those of equal keys in their old order
abbrev pub numbers_by_key : Bool → List Value → List ℕ
numbers_by_key descending keys = sort_stable (comes_before descending keys) (range_with_len 0 (length keys))

abbrev pub sort_rows : TableContent → Tree → Bool → Result (List ℕ) TableWhy
sort_rows t key descending = on_ok (keys_of t key) (λ keys. Ok (numbers_by_key descending keys))

-- ---- on the way

-- the order of two rows: that of their keys, and where these are equal that of their numbers
abbrev pub row_order : Bool → List Value → ℕ → ℕ → Ordering
row_order descending keys m n = ordering_then (key_order descending (key_at keys m) (key_at keys n)) (nat_cmp m n)

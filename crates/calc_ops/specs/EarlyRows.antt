-- The rows whose key few rows before them have.
use Rattle.std.specs.Prelude.{ℕ, Bool, not, List, [], ◌∷◌, ◌++◌, nat_lt, count_by, Result, Ok, unwrap_or}
use Rattle.std.specs.Bool.{beq}
use Rattle.indexmap.specs.IndexMap.{IndexMap, get}
use Rattle.lists.specs.Lists.{numbers_where}
use Rattle.expr_lang.specs.Tree.{Tree}
use Rattle.json_values.specs.Table.{TableContent}
use Rattle.json_values.specs.Value.{same}
use Rattle.json_values.specs.declared.value.Value.{Value}
use Rattle.table_terms.specs.Refusals.{on_ok}
use Rattle.table_rows.specs.declared.fault.TableWhy.{TableWhy}
use Rattle.calc_ops.specs.Keys.{keys_of}

-- for each of some keys that stand after others, whether fewer than `most` before it are the same
abbrev pub early_after : ℕ → List Value → List Value → List Bool
early_after most before [] = []
early_after most before (key ∷ keys) = nat_lt (count_by (same key) before) most ∷ early_after most (before ++ key ∷ []) keys

abbrev pub are_early : ℕ → List Value → List Bool
are_early most keys = early_after most [] keys

-- the numbers of the early rows, or those of the others
abbrev pub uniq_rows : TableContent → Tree → ℕ → Bool → Result (List ℕ) TableWhy
uniq_rows t key most invert = on_ok (keys_of t key) (λ keys. Ok (numbers_where (beq (not invert)) (are_early most keys)))

-- how often a map says that a key was counted
abbrev pub count_in : {S : Type 0} → IndexMap Value ℕ S → Value → ℕ
count_in counts key = unwrap_or (get same counts key) 0

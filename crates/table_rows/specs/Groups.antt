-- Rows in groups of the same values.
use Rattle.std.specs.Prelude.{ℕ, zero, suc, List, [], ◌∷◌, ◌++◌, map}
use Rattle.lists.specs.Lists.{numbers_where}
use Rattle.indexmap.specs.IndexSet.{insert_all}
use Rattle.json_values.specs.Table.{RowValues}
use Rattle.table_rows.specs.Keys.{same_values}

-- keys, each once, in order of first appearance
abbrev pub keys_once : List RowValues → List RowValues
keys_once keys = insert_all same_values [] keys

-- the numbers of the rows with each key, in order of its first appearance
abbrev pub groups_of : List RowValues → List (List ℕ)
groups_of keys = map (λ (key : RowValues). numbers_where (same_values key) keys) (keys_once keys)

-- number n goes to the list with number p, or to a new last one
abbrev pub with_member : List (List ℕ) → ℕ → ℕ → List (List ℕ)
with_member [] p n = (n ∷ []) ∷ []
with_member (m ∷ ms) zero n = (m ++ n ∷ []) ∷ ms
with_member (m ∷ ms) (suc p) n = m ∷ with_member ms p n

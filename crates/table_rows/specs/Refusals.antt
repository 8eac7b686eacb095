-- Why a table call refuses, and what comes first.
use Rattle.std.specs.Prelude.{◌≡◌, ℕ, ◌+◌, not, List, [], ◌∷◌, ◌++◌, Option, Some, None, Result, Ok, Err, if◌then◌else◌}
use Rattle.table_terms.specs.Names.{Text, has_name}
use Rattle.table_rows.specs.declared.fault.TableWhy.{TableWhy}
use Rattle.table_rows.specs.declared.fault.TableWhy.TheVariants.{NoField, FieldTwice}
use Rattle.table_rows.specs.declared.fault.TableFault.{TableFault}
use Rattle.table_rows.specs.declared.fault.TableFault.TheVariants.{Bad, Memory}

-- the first refusal among items from number n on: one that is no name, or that stands among the earlier ones
abbrev pub refused_item : List Text → List Text → ℕ → List Text → Option TableWhy
refused_item names earlier n [] = None
refused_item names earlier n (i ∷ rest) =
    if not (has_name names i) then Some (NoField n)
    else (if has_name earlier i then Some (FieldTwice n)
    else refused_item names (earlier ++ i ∷ []) (n + 1) rest)

-- a call gives just this answer or refusal, where memory is not wanting
abbrev pub Answers : {T : Type 0} → Result T TableFault → Result T TableWhy → Type 0
Answers (Ok v) wanted = wanted ≡ Ok v
Answers (Err (Bad why)) wanted = wanted ≡ Err why
Answers (Err Memory) wanted = Unit {0}

-- the same of an answer that stands for another value
abbrev pub AnswersAs : {T U : Type 0} → (T → U) → Result T TableFault → Result U TableWhy → Type 0
AnswersAs value (Ok v) wanted = wanted ≡ Ok (value v)
AnswersAs value (Err (Bad why)) wanted = wanted ≡ Err why
AnswersAs value (Err Memory) wanted = Unit {0}

-- a test of items refuses just this, where memory is not wanting
abbrev pub Refuses : Result (Unit {0}) TableFault → Option TableWhy → Type 0
Refuses (Ok v) wanted = wanted ≡ None
Refuses (Err (Bad why)) wanted = wanted ≡ Some why
Refuses (Err Memory) wanted = Unit {0}

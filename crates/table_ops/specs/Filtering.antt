-- What an expression says of each row, and the rows for which it is true.
use Rattle.std.specs.Prelude.{ℕ, ◌+◌, Bool, List, [], ◌∷◌, Result, Ok, Err}
use Rattle.std.specs.Bool.{beq}
use Rattle.lists.specs.Lists.{numbers_where}
use Rattle.expr_lang.specs.Meaning.{Evaluated, evaluated}
use Rattle.expr_lang.specs.Tree.{Tree}
use Rattle.expr_lang.specs.declared.fault.EvalFault.TheVariants as fault
use Rattle.json_values.specs.Table.{TableContent, RowValues}
use Rattle.json_values.specs.declared.value.Value.{Value}
use Rattle.json_values.specs.declared.value.Value.TheVariants as cell
use Rattle.table_terms.specs.Names.{Text}
use Rattle.table_terms.specs.Refusals.{on_ok}
use Rattle.table_rows.specs.declared.fault.EvalWhy.TheVariants as why
use Rattle.table_rows.specs.declared.fault.TableWhy.{TableWhy}
use Rattle.table_rows.specs.declared.fault.TableWhy.TheVariants.{Eval, NotBoolean}

-- the value for row n, or why there is none; that memory is wanting is no value of an expression
abbrev pub value_for : ℕ → Evaluated → Result Value TableWhy
value_for n (Ok v) = Ok v
value_for n (Err (fault.Unknown at)) = Err (Eval n at why.Unknown)
value_for n (Err (fault.Types at)) = Err (Eval n at why.Types)
value_for n (Err (fault.Range at)) = Err (Eval n at why.Range)
value_for n (Err fault.Memory) = Err (Eval n 0 why.Range)

-- what a value says of row n, or why it says nothing
abbrev pub truth_for : ℕ → Value → Result Bool TableWhy
truth_for n (cell.Bool b) = Ok b
truth_for n v = Err (NotBoolean n)

abbrev pub says : ℕ → Evaluated → Result Bool TableWhy
says n said = on_ok (value_for n said) (truth_for n)

-- what the expression says of each row, from number n on, or the first refusal
abbrev pub tests_from : List Text → Tree → ℕ → List RowValues → Result (List Bool) TableWhy
tests_from names e n [] = Ok []
tests_from names e n (row ∷ rows) =
    on_ok (says n (evaluated names row n e)) (λ b. on_ok (tests_from names e (n + 1) rows) (λ bs. Ok (b ∷ bs)))

abbrev pub tests_of : TableContent → Tree → Result (List Bool) TableWhy
tests_of t e = tests_from t.names e 0 t.rows

-- the numbers of the rows for which it is `wanted`
abbrev pub filter_rows : TableContent → Tree → Bool → Result (List ℕ) TableWhy
filter_rows t e wanted = on_ok (tests_of t e) (λ bs. Ok (numbers_where (beq wanted) bs))

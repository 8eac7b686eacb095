-- The value of an expression for a row.
use Rattle.std.specs.Prelude.{ℕ, Bool, true, false, not, ℤ, pos, ◌+ℤ◌, ◌-ℤ◌, ◌*ℤ◌, List, [], ◌∷◌, ◌++◌, ◌≡◌, Option, Some, None, Result, MatchResult, Ok, Err, if◌then◌else◌}
use Rattle.std.specs.declared.cmp.Ordering.{Ordering}
use Rattle.std.specs.Bool.{beq}
use Rattle.std.specs.Ordering.{nat_cmp, int_eq, int_cmp, is_lt, is_le, is_gt, is_ge}
use Rattle.std.specs.Str.{bytes_eq}
use Rattle.std.specs.Cmp.Lexicographic.{slice_cmp}
use Rattle.json_values.specs.declared.value.Value.{Value}
use Rattle.json_values.specs.declared.value.Value.TheVariants as value
use Rattle.expr_lang.specs.declared.token.Operator.{Operator}
use Rattle.expr_lang.specs.declared.token.Operator.TheVariants as op
use Rattle.expr_lang.specs.declared.token.Sign.{Sign}
use Rattle.expr_lang.specs.declared.token.Sign.TheVariants as sign
use Rattle.expr_lang.specs.declared.fault.EvalFault.{EvalFault}
use Rattle.expr_lang.specs.declared.fault.EvalFault.TheVariants as fault
use Rattle.numerals.specs.Decimal.{checked, checked_product, of_grid}
use Rattle.json_values.specs.Value.{same}
use Rattle.expr_lang.specs.Tree.{Tree, constant, column, feature_number, unary, binary, choice}

abbrev pub Evaluated : Type 0
Evaluated = Result Value EvalFault

-- a value or a fault goes on, or a fault stays
abbrev pub on_ok : {A B : Type 0} → Result A EvalFault → (A → Result B EvalFault) → Result B EvalFault
on_ok (Ok v) go = go v
on_ok (Err f) go = Err f

-- ---- values

-- two values of one type, or Null and any value, which are equal only where both are Null
abbrev pub alike : Value → Value → Option Bool
alike value.Null value.Null = Some true
alike value.Null w = Some false
alike v value.Null = Some false
alike (value.Bool a) (value.Bool b) = Some (beq a b)
alike (value.Num m) (value.Num n) = Some (int_eq m n)
alike (value.Text s) (value.Text t) = Some (bytes_eq s t)
alike _ _ = None

-- two numbers, or two texts by their bytes, which is by Unicode scalar values
abbrev pub order_of : Value → Value → Option Ordering
order_of (value.Num m) (value.Num n) = Some (int_cmp m n)
order_of (value.Text s) (value.Text t) = Some (slice_cmp nat_cmp s t)
order_of _ _ = None

-- ---- operators

abbrev pub bool_at : ℕ → Option Bool → Evaluated
bool_at at None = Err (fault.Types at)
bool_at at (Some b) = Ok (value.Bool b)

abbrev pub other_bool_at : ℕ → Option Bool → Evaluated
other_bool_at at None = Err (fault.Types at)
other_bool_at at (Some b) = Ok (value.Bool (not b))

-- what an operator asks of an order
abbrev pub holds : Operator → Ordering → Bool
holds op.AtMost o = is_le o
holds op.AtLeast o = is_ge o
holds op.Less o = is_lt o
holds _ o = is_gt o

abbrev pub ordered : ℕ → Operator → Option Ordering → Evaluated
ordered at p None = Err (fault.Types at)
ordered at p (Some o) = Ok (value.Bool (holds p o))

abbrev pub in_range_at : ℕ → Option ℤ → Evaluated
in_range_at at None = Err (fault.Range at)
in_range_at at (Some units) = Ok (value.Num units)

abbrev pub added : ℕ → Value → Value → Evaluated
added at (value.Num m) (value.Num n) = in_range_at at (checked (m +ℤ n))
added at (value.Text s) (value.Text t) = Ok (value.Text (s ++ t))
added at _ _ = Err (fault.Types at)

abbrev pub by_numbers : ℕ → (ℤ → ℤ → Option ℤ) → Value → Value → Evaluated
by_numbers at f (value.Num m) (value.Num n) = in_range_at at (f m n)
by_numbers at f _ _ = Err (fault.Types at)

abbrev pub truth_at : ℕ → Value → Result Bool EvalFault
truth_at at (value.Bool b) = Ok b
truth_at at _ = Err (fault.Types at)

-- an operator and both its operands, where the left one of `&&` and `||` left the value to the right one
abbrev pub applied : ℕ → Operator → Value → Value → Evaluated
applied at op.Same v w = Ok (value.Bool (same v w))
applied at op.NotSame v w = Ok (value.Bool (not (same v w)))
applied at op.Equal v w = bool_at at (alike v w)
applied at op.NotEqual v w = other_bool_at at (alike v w)
applied at op.AtMost v w = ordered at op.AtMost (order_of v w)
applied at op.AtLeast v w = ordered at op.AtLeast (order_of v w)
applied at op.Less v w = ordered at op.Less (order_of v w)
applied at op.Greater v w = ordered at op.Greater (order_of v w)
applied at op.Plus v w = added at v w
applied at op.Minus v w = by_numbers at (λ m n. checked (m -ℤ n)) v w
applied at op.Times v w = by_numbers at (λ m n. checked_product (m *ℤ n)) v w
applied at _ v w = on_ok (truth_at at w) (λ b. Ok (value.Bool b))

abbrev pub negated : ℕ → Value → Evaluated
negated at (value.Num n) = in_range_at at (checked (pos 0 -ℤ n))
negated at _ = Err (fault.Types at)

abbrev pub signed : ℕ → Sign → Value → Evaluated
signed at sign.Not v = on_ok (truth_at at v) (λ b. Ok (value.Bool (not b)))
signed at sign.Negative v = negated at v

-- one of two, by a condition
abbrev pub chosen : ℕ → Evaluated → Evaluated → Value → Evaluated
chosen at yes_case no_case v = on_ok (truth_at at v) (λ b. if b then yes_case else no_case)

-- what `&&` and `||` are by their left operand alone, where that decides them
abbrev pub decided : ℕ → Operator → Value → Result (Option Bool) EvalFault
decided at op.Both v = on_ok (truth_at at v) (λ b. Ok (if b then None else Some false))
decided at op.Either v = on_ok (truth_at at v) (λ b. Ok (if b then Some true else None))
decided at _ v = Ok None

-- an operator that is decided so, or takes its right operand too
abbrev pub undecided : ℕ → Operator → Evaluated → Value → Option Bool → Evaluated
undecided at o right v (Some b) = Ok (value.Bool b)
undecided at o right v None = on_ok right (λ w. applied at o v w)

-- an operator, its right operand, and its left operand's value
abbrev pub joined : ℕ → Operator → Evaluated → Value → Evaluated
joined at o right v = on_ok (decided at o v) (undecided at o right v)

-- ---- columns

-- the value under a name
abbrev pub cell : List (List ℕ) → List Value → List ℕ → Option Value
cell [] row name = None
cell (n ∷ names) [] name = None
cell (n ∷ names) (v ∷ row) name = if bytes_eq n name then Some v else cell names row name

-- what a column may hold in an expression
abbrev pub column_at : ℕ → Option Value → Evaluated
column_at at None = Err (fault.Unknown at)
column_at at (Some (value.Long s)) = Err (fault.Types at)
column_at at (Some (value.Tree s)) = Err (fault.Types at)
column_at at (Some v) = Ok v

-- ---- expressions

abbrev pub evaluated : List (List ℕ) → List Value → ℕ → Tree → Evaluated
evaluated names row id (constant v) = Ok v
evaluated names row id (column at name) = column_at at (cell names row name)
evaluated names row id feature_number = Ok (value.Num (of_grid (pos id) 0))
evaluated names row id (unary at s e) = on_ok (evaluated names row id e) (signed at s)
evaluated names row id (binary at o d e) = on_ok (evaluated names row id d) (joined at o (evaluated names row id e))
evaluated names row id (choice at c d e) = on_ok (evaluated names row id c) (chosen at (evaluated names row id d) (evaluated names row id e))

-- the answer is this one, unless memory ran out
abbrev pub FaultIs : {A : Type 0} → Result A EvalFault → EvalFault → Type 0
FaultIs r fault.Memory = Unit {0}
FaultIs r f = r ≡ Err f

abbrev pub Answers : {A : Type 0} → Result A EvalFault → Result A EvalFault → Type 0
Answers r result = MatchResult result (λ v. r ≡ Ok v) (FaultIs r)

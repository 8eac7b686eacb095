-- Laws of the grammars and of the machine that follows them from the left.
use Rattle.std.specs.Prelude.{◌≡◌, ℕ, List, []}
use Rattle.expr_lang.specs.Tree.{Tree, Assigned}
use Rattle.expr_lang.specs.Grammar.{Toks, Cond, Assigns}
use Rattle.expr_lang.specs.Machine.{operand, first_target, run, accepted}

abbrev pub EachExpressionIsAccepted : Type 0
EachExpressionIsAccepted = (n : ℕ) (s : Toks) (e : Tree) → Cond n s e → run n (operand 0) [] s ≡ accepted

-- whatever the number of levels
abbrev pub EachTextHasOneTree : Type 0
EachTextHasOneTree = (m n : ℕ) (s : Toks) (d e : Tree) → Cond m s d → Cond n s e → d ≡ e

abbrev pub AssignmentsAreAccepted : Type 0
AssignmentsAreAccepted = (n : ℕ) (s : Toks) (xs : List Assigned) → Assigns n s xs → run n first_target [] s ≡ accepted

abbrev pub AssignmentsAreReadInOneWay : Type 0
AssignmentsAreReadInOneWay = (m n : ℕ) (s : Toks) (xs ys : List Assigned) → Assigns m s xs → Assigns n s ys → xs ≡ ys

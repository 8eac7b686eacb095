-- Laws of texts of expressions and of assignments and of their faults, and of the machine that goes over their tokens.
use Rattle.std.specs.Prelude.{◌≡◌, ◌⊎◌, ℕ, List, [], ◌++◌}
use Rattle.expr_lang.specs.declared.fault.ExprFault.{ExprFault}
use Rattle.expr_lang.specs.declared.fault.ExprFault.TheVariants as fault
use Rattle.expr_lang.specs.declared.parser.Misfit.{Misfit}
use Rattle.expr_lang.specs.Tree.{Assigned, Tree}
use Rattle.expr_lang.specs.Grammar.{Assigns, Cond, Toks}
use Rattle.expr_lang.specs.Machine.{accepted, first_target, operand, run, stopped}
use Rattle.expr_lang.specs.Stuck.{Stuck, StuckIn}
use Rattle.expr_lang.specs.Faults.{AreAssigns, IsAssignsFault, IsFault, IsTree}

-- ---- expressions

-- a text is an expression, or has a fault
abbrev pub EachTextHasATreeOrAFault : Type 0
EachTextHasATreeOrAFault = (text : List ℕ) → ((e : Tree) × IsTree text e) ⊎ ((f : ExprFault) × IsFault text f)

-- an expression has no fault
abbrev pub NoTreeHasAFault : Type 0
NoTreeHasAFault = (text : List ℕ) (e : Tree) (f : ExprFault) → IsTree text e → IsFault text f → ⊥

-- two faults of one text are the same
abbrev pub EachTextHasOneFault : Type 0
EachTextHasOneFault = (text : List ℕ) (f g : ExprFault) → IsFault text f → IsFault text g → f ≡ g

-- a fault is one of the text, and never a lack of memory
abbrev pub NoFaultIsOfMemory : Type 0
NoFaultIsOfMemory = (text : List ℕ) → IsFault text fault.Memory → ⊥

-- what the machine accepts is an expression
abbrev pub AcceptedTokensAreExpressions : Type 0
AcceptedTokensAreExpressions = (n : ℕ) (s : Toks) → run n (operand 0) [] s ≡ accepted → (e : Tree) × Cond n s e

-- where it stops, the tokens are stuck, and for its reason
abbrev pub StoppedTokensAreStuck : Type 0
StoppedTokensAreStuck = (n : ℕ) (s : Toks) (m : Misfit) (left : Toks)
    → run n (operand 0) [] s ≡ stopped m left → (front : Toks) × (s ≡ front ++ left) × Stuck n m front left

-- ---- assignments

-- a text is assignments, or has a fault as such
abbrev pub EachTextHasAssignmentsOrAFault : Type 0
EachTextHasAssignmentsOrAFault = (text : List ℕ) → ((xs : List Assigned) × AreAssigns text xs) ⊎ ((f : ExprFault) × IsAssignsFault text f)

-- assignments have no fault
abbrev pub NoAssignmentsHaveAFault : Type 0
NoAssignmentsHaveAFault = (text : List ℕ) (xs : List Assigned) (f : ExprFault) → AreAssigns text xs → IsAssignsFault text f → ⊥

-- two faults of one text are the same
abbrev pub EachTextHasOneFaultAsAssignments : Type 0
EachTextHasOneFaultAsAssignments = (text : List ℕ) (f g : ExprFault) → IsAssignsFault text f → IsAssignsFault text g → f ≡ g

-- a fault is one of the text, and never a lack of memory
abbrev pub NoFaultOfAssignmentsIsOfMemory : Type 0
NoFaultOfAssignmentsIsOfMemory = (text : List ℕ) → IsAssignsFault text fault.Memory → ⊥

-- what the machine accepts is assignments
abbrev pub AcceptedTokensAreAssignments : Type 0
AcceptedTokensAreAssignments = (n : ℕ) (s : Toks) → run n first_target [] s ≡ accepted → (xs : List Assigned) × Assigns n s xs

-- where it stops, the tokens are stuck, and for its reason
abbrev pub StoppedAssignmentsAreStuck : Type 0
StoppedAssignmentsAreStuck = (n : ℕ) (s : Toks) (m : Misfit) (left : Toks)
    → run n first_target [] s ≡ stopped m left → (front : Toks) × (s ≡ front ++ left) × StuckIn Assigns n m front left

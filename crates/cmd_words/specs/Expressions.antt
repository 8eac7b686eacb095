-- Texts that are expressions or assignments, and why others are refused.
use Rattle.std.specs.Prelude.{ℕ, Option, Some, None, MatchOption, Result, Ok, Err}
use Rattle.expr_lang.specs.declared.expr.Expr.{Expr}
use Rattle.expr_lang.specs.declared.fault.ExprFault.{ExprFault}
use Rattle.expr_lang.specs.declared.fault.ExprFault.TheVariants as fault
use Rattle.expr_lang.specs.Tree.{tree_of}
use Rattle.expr_lang.specs.Faults.{IsTree, IsFault, IsAssignsFault}
use Rattle.cmd_words.specs.declared.fault.ExprWhy.{ExprWhy}
use Rattle.cmd_words.specs.declared.fault.ExprWhy.TheVariants as expr
use Rattle.cmd_words.specs.declared.fault.WordWhy.{WordWhy}
use Rattle.cmd_words.specs.declared.fault.WordWhy.TheVariants as why
use Rattle.cmd_words.specs.Rows.{Text}

-- the place and the reason of a fault
abbrev pub fault_at : ℕ × ExprWhy → ExprFault
fault_at f = elim f.1 [ expr.Syntax ↦ fault.Syntax f.0 | expr.Unsupported ↦ fault.Unsupported f.0 | expr.Depth ↦ fault.Depth f.0 ]

-- what a text is read as
pub data TextKind : Type 0 where
  expression : TextKind
  assignments : TextKind

abbrev pub HasFault : TextKind → Text → ExprFault → Type 0
HasFault expression text f = IsFault text f
HasFault assignments text f = IsAssignsFault text f

-- where a text is none of its kind, and why
abbrev pub Refusals : Type 0
Refusals = TextKind → Text → Option (ℕ × ExprWhy)

-- a text of its kind, or why it is none
abbrev pub text_or_fault : Option (ℕ × ExprWhy) → Text → Result Text WordWhy
text_or_fault None s = Ok s
text_or_fault (Some f) s = Err (why.BadExpression f.0 f.1)

-- the fault of each text that has one, and none of the others
abbrev pub AreRefusals : Refusals → Type 0
AreRefusals refuses = (kind : TextKind) (text : Text) → MatchOption (refuses kind text) ((f : ℕ × ExprWhy) → HasFault kind text (fault_at f) → ⊥) (λ f. HasFault kind text (fault_at f))

-- an expression is the tree of this text
abbrev pub FitsTest : Option Text → Option Expr → Type 0
FitsTest None None = Unit {0}
FitsTest None (Some e) = ⊥
FitsTest (Some text) None = ⊥
FitsTest (Some text) (Some e) = IsTree text (tree_of e)

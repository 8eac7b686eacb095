-- What a reading of an expression answers.
use Rattle.std.specs.Prelude.{◌≡◌, ℕ, Option, Some}
use Rattle.expr_lang.specs.declared.fault.ExprFault.{ExprFault}
use Rattle.expr_lang.specs.declared.fault.ExprFault.TheVariants as fault
use Rattle.cmd_words.specs.declared.fault.ExprWhy.{ExprWhy}
use Rattle.cmd_words.specs.declared.fault.ExprWhy.TheVariants as expr
use Rattle.cmd_words.specs.declared.fault.WordWhy.TheVariants as why
use Rattle.cmd_words.specs.declared.fault.Refusal.{Refusal}
use Rattle.cmd_words.specs.declared.fault.Refusal.TheVariants as refusal

-- the word is refused for this fault
abbrev pub IsRefusedFor : Option (ℕ × ExprWhy) → Refusal → Type 0
IsRefusedFor fault (refusal.Why (why.BadExpression at w)) = fault ≡ Some (at, w)
IsRefusedFor fault (refusal.Why w) = ⊥
IsRefusedFor fault refusal.Memory = Unit {0}

-- the refusal of a word for the fault of its expression
abbrev pub refusal_of : ExprFault → Refusal
refusal_of (fault.Syntax at) = refusal.Why (why.BadExpression at expr.Syntax)
refusal_of (fault.Unsupported at) = refusal.Why (why.BadExpression at expr.Unsupported)
refusal_of (fault.Depth at) = refusal.Why (why.BadExpression at expr.Depth)
refusal_of fault.Memory = refusal.Memory

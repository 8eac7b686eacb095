-- Where a text is refused, and why.
use Rattle.std.specs.Prelude.{◌≡◌, ◌⊎◌, ℕ, ◌<◌, ◌≤◌, Bool, true, false, List, [], ◌∷◌, ◌++◌, length, if◌then◌else◌}
use Rattle.expr_lang.specs.declared.token.Mark.TheVariants as mark
use Rattle.expr_lang.specs.declared.token.Token.{Token}
use Rattle.expr_lang.specs.declared.token.Token.TheVariants as token
use Rattle.expr_lang.specs.declared.parser.Misfit.{Misfit}
use Rattle.expr_lang.specs.declared.parser.Misfit.TheVariants.{TooDeep, Unfit}
use Rattle.expr_lang.specs.declared.parser.Stop.{Stop}
use Rattle.expr_lang.specs.declared.parser.Stop.TheVariants as stop
use Rattle.expr_lang.specs.declared.fault.ExprFault.{ExprFault}
use Rattle.expr_lang.specs.declared.fault.ExprFault.TheVariants as fault
use Rattle.expr_lang.specs.Tree.{Tree, Assigned}
use Rattle.expr_lang.specs.Grammar.{Toks, Cond, Assigns}
use Rattle.expr_lang.specs.Tokens.{tokens_of}
use Rattle.expr_lang.specs.Stuck.{StuckIn}

-- a token that is refused as one of another language, wherever it does not fit
abbrev pub is_unsupported : Token → Bool
is_unsupported token.Other = true
is_unsupported (token.Mark mark.OpenBracket) = true
is_unsupported (token.Mark mark.Dot) = true
is_unsupported (token.Mark mark.Open) = true
is_unsupported (token.Mark mark.Becomes) = true
is_unsupported (token.Mark mark.Semicolon) = true
is_unsupported _ = false

-- the place of the next token, or the text's end
abbrev pub place_of : Toks → ℕ → ℕ
place_of [] end = end
place_of (t ∷ ts) end = t.0

abbrev pub unfit_at : Toks → ℕ → ExprFault
unfit_at [] at = fault.Syntax at
unfit_at (t ∷ ts) at = if is_unsupported t.1 then fault.Unsupported at else fault.Syntax at

-- the fault of a text of `end` bytes, where these tokens are left
abbrev pub fault_of : Misfit → Toks → ℕ → ExprFault
fault_of TooDeep left end = fault.Depth (place_of left end)
fault_of Unfit left end = unfit_at left (place_of left end)

-- of a parser that stopped there
abbrev pub IsStopAt : Toks → ℕ → Stop → ExprFault → Type 0
IsStopAt left end stop.Memory f = f ≡ fault.Memory
IsStopAt left end (stop.Misfit m) f = f ≡ fault_of m left end

abbrev pub byte_limit : ℕ
byte_limit = 4096

abbrev pub depth_limit : ℕ
depth_limit = 64

-- a text that is too long is refused before everything else
abbrev pub IsFaultIn : {T : Type 0} → (ℕ → Toks → T → Type 0) → List ℕ → ExprFault → Type 0
IsFaultIn G text f =
    ((byte_limit < length text) × (f ≡ fault.Depth byte_limit))
    ⊎ ((length text ≤ byte_limit) × ((front left : Toks) × (m : Misfit) × (tokens_of text ≡ front ++ left) × StuckIn G depth_limit m front left × (f ≡ fault_of m left (length text))))

abbrev pub FaultFitsIn : {T : Type 0} → (ℕ → Toks → T → Type 0) → List ℕ → ExprFault → Type 0
FaultFitsIn G text fault.Memory = Unit {0}
FaultFitsIn G text f = IsFaultIn G text f

abbrev pub IsTextOf : {T : Type 0} → (ℕ → Toks → T → Type 0) → List ℕ → T → Type 0
IsTextOf G text e = (length text ≤ byte_limit) × G depth_limit (tokens_of text) e

-- ---- texts of expressions

abbrev pub IsFault : List ℕ → ExprFault → Type 0
IsFault text f = IsFaultIn Cond text f

abbrev pub FaultFits : List ℕ → ExprFault → Type 0
FaultFits text f = FaultFitsIn Cond text f

abbrev pub IsTree : List ℕ → Tree → Type 0
IsTree text e = IsTextOf Cond text e

-- ---- texts of assignments

abbrev pub IsAssignsFault : List ℕ → ExprFault → Type 0
IsAssignsFault text f = IsFaultIn Assigns text f

abbrev pub AssignsFaultFits : List ℕ → ExprFault → Type 0
AssignsFaultFits text f = FaultFitsIn Assigns text f

abbrev pub AreAssigns : List ℕ → List Assigned → Type 0
AreAssigns text list = IsTextOf Assigns text list

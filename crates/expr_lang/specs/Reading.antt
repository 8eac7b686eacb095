-- What a parser has read of the tokens that it had, and what it met.
use Rattle.std.specs.Prelude.{◌≡◌, ◌⊎◌, ℕ, suc, ◌+◌, ◌<◌, Bool, true, false, List, [], ◌∷◌, ◌++◌, Result, MatchResult, Option, Some, None, if◌then◌else◌}
use Rattle.expr_lang.specs.declared.token.Sign.{Sign}
use Rattle.expr_lang.specs.declared.token.Mark.{Mark}
use Rattle.expr_lang.specs.declared.token.Mark.TheVariants as mark
use Rattle.expr_lang.specs.declared.token.Token.{Token}
use Rattle.expr_lang.specs.declared.token.Token.TheVariants as token
use Rattle.expr_lang.specs.declared.expr.Node.{Node}
use Rattle.expr_lang.specs.declared.parser.Misfit.{Misfit}
use Rattle.expr_lang.specs.declared.parser.Misfit.TheVariants.{TooDeep}
use Rattle.expr_lang.specs.declared.parser.Stop.{Stop}
use Rattle.expr_lang.specs.declared.parser.Stop.TheVariants as stop
use Rattle.expr_lang.specs.Tree.{Tree, node_tree}
use Rattle.expr_lang.specs.Grammar.{Placed, Toks, Atom, level_of, sign_of}
use Rattle.expr_lang.specs.Machine.{Place, Open, Outcome, stopped, run, levels, operand, operator, first_target, assigned_value}

-- a place, and what is open there
pub record Spot : Type 0 where
  pub deepest : ℕ
  pub place : Place
  pub open_there : List Open

abbrev pub run_at : Spot → Toks → Outcome
run_at s ts = run s.deepest s.place s.open_there ts

-- how many signs stand before an operand, and what is open around them
abbrev pub Around : Type 0
Around = ℕ × List Open

-- before such an operand, and after it, with d levels more allowed
abbrev pub before : ℕ → Around → Spot
before d i = record { deepest = (levels i.1 + i.0) + d; place = operand i.0; open_there = i.1 }

abbrev pub past : ℕ → Around → Spot
past d i = record { deepest = (levels i.1 + i.0) + d; place = operator; open_there = i.1 }

-- the same where no sign stands before it
abbrev pub plainly : (ℕ → Around → Spot) → ℕ → List Open → Spot
plainly spot d k = spot d (0, k)

-- a place, whatever is open
abbrev pub anywhere : Place → Around → Spot
anywhere p i = record { deepest = i.0; place = p; open_there = i.1 }

-- a text with R was read
abbrev pub Reads : (Toks → Type 0) → Toks → Toks → Type 0
Reads R old new = (text : Toks) × (old ≡ text ++ new) × R text

-- two texts begin with one token
abbrev pub SameFirst : Toks → Toks → Type 0
SameFirst xs ys = (t : Placed) × (us vs : Toks) × (xs ≡ t ∷ us) × (ys ≡ t ∷ vs)

-- what was read begins some text with R; the same with the next token too
abbrev pub BreaksOff : (Toks → Type 0) → Toks → Toks → Type 0
BreaksOff R old new = (text more : Toks) × (old ≡ text ++ new) × R (text ++ more)

abbrev pub BreaksPast : (Toks → Type 0) → Toks → Toks → Type 0
BreaksPast R old new = (text more : Toks) × (old ≡ text ++ new) × R (text ++ more) × SameFirst more new

-- a text with R was read between two spots, whatever is around them
pub record Passes {I : Type 0} (R : Toks → Type 0) (from to : I → Spot) (old new : Toks) : Type 0 where
  pub reads : Reads R old new
  pub runs : (i : I) → run_at (from i) old ≡ run_at (to i) new

-- A text with R breaks off at a misfit. Where the next token is too deep, it would go on with one level more:
-- `R true` is R with that level
pub record Breaks {I : Type 0} (R : Bool → Toks → Type 0) (from : I → Spot) (f : Misfit) (old new : Toks) : Type 0 where
  pub begins : BreaksOff (R false) old new
  pub deeper : f ≡ TooDeep → BreaksPast (R true) old new
  pub fails : (i : I) → run_at (from i) old ≡ stopped f new

abbrev pub AtMisfit : (Misfit → Type 0) → Stop → Type 0
AtMisfit P stop.Memory = Unit {0}
AtMisfit P (stop.Misfit f) = P f

-- n levels, or one more
abbrev pub raised : Bool → ℕ → ℕ
raised false n = n
raised true n = suc n

-- some tree has the text in the family G
abbrev pub Some_tree : {T : Type 0} → (ℕ → Toks → T → Type 0) → ℕ → Bool → Toks → Type 0
Some_tree {T} G n b s = (e : T) × G (raised b n) s e

-- Either a text of the family G was read, with its tree, or what was read begins one; and the machine goes with it
abbrev pub PartOf : {I A T : Type 0} → (A → T) → (ℕ → Toks → T → Type 0) → ℕ → (I → Spot) → (I → Spot) → Result A Stop → Toks → Toks → Type 0
PartOf tree G n from to result old new =
    MatchResult result (λ x. Passes (λ s. G n s (tree x)) from to old new) (AtMisfit (λ f. Breaks (Some_tree G n) from f old new))

abbrev pub Part : {I : Type 0} → (ℕ → Toks → Tree → Type 0) → ℕ → (I → Spot) → (I → Spot) → Result Node Stop → Toks → Toks → Type 0
Part G n from to result old new = PartOf node_tree G n from to result old new

-- before an assignment, with nothing open, and after its value
abbrev pub before_assign : ℕ → Unit {0} → Spot
before_assign d i = record { deepest = d; place = first_target; open_there = [] }

abbrev pub after_assign : ℕ → Unit {0} → Spot
after_assign d i = record { deepest = d; place = operator; open_there = assigned_value ∷ [] }

-- what stands after `this` at a place
abbrev pub ThisText : ℕ → ℕ → Toks → Tree → Type 0
ThisText at n s e = Atom n ((at, token.This) ∷ s) e

-- the next token is no such mark, name or text
abbrev pub NextIsNot : (Token → Type 0) → Toks → Type 0
NextIsNot P ts = (at : ℕ) (t : Token) (us : Toks) → ts ≡ (at, t) ∷ us → P t → ⊥

abbrev pub IsMark : Mark → Token → Type 0
IsMark m t = t ≡ token.Mark m

abbrev pub IsName : List ℕ → Token → Type 0
IsName s t = t ≡ token.Name s

abbrev pub IsAName : Token → Type 0
IsAName t = (s : List ℕ) × (t ≡ token.Name s)

abbrev pub IsText : Token → Type 0
IsText t = (s : List ℕ) × (t ≡ token.Text s)

abbrev pub IsSign : Token → Type 0
IsSign t = (s : Sign) × (sign_of t ≡ Some s)

-- where a token ends an operand: at which level its operator stands, 7 for `?`, and 8 for a token that ends all
abbrev pub level_at : Token → ℕ
level_at (token.Operator o) = level_of o
level_at (token.Mark mark.Question) = 7
level_at _ = 8

-- no operator of this level or a lower one comes next
abbrev pub EndsLevel : ℕ → Toks → Type 0
EndsLevel j [] = Unit {0}
EndsLevel j (t ∷ ts) = j < level_at t.1

-- a text's content so far, if it has no other escape
abbrev pub known_content : Bool → List ℕ → Option (List ℕ)
known_content other content = if other then None else Some content

-- a line ends here, or the text
abbrev pub EndsLine : List ℕ → Type 0
EndsLine [] = Unit {0}
EndsLine (b ∷ bs) = b ≡ 10

-- after an assignment: it was the last, with or without a semicolon; or others follow its semicolon
abbrev pub AssignEnds : Bool → Toks → Toks → Type 0
AssignEnds true old new = (old ≡ []) ⊎ ((at : ℕ) × (old ≡ (at, token.Mark mark.Semicolon) ∷ []))
AssignEnds false old new = (at : ℕ) × (old ≡ (at, token.Mark mark.Semicolon) ∷ new) × (t : Placed) × (ts : Toks) × (new ≡ t ∷ ts)

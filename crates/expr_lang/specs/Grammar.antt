-- The grammars of expressions and of assignments over tokens, and the trees of each. In each family n bounds how deep
-- parentheses, operators before one operand and branches of a choice go.
use Rattle.std.specs.Prelude.{◌≡◌, ℕ, zero, suc, true, false, codes, List, [], ◌∷◌, ◌++◌, Option, Some, None}
use Rattle.json_values.specs.declared.value.Value.TheVariants as value
use Rattle.expr_lang.specs.declared.token.Operator.{Operator}
use Rattle.expr_lang.specs.declared.token.Operator.TheVariants as op
use Rattle.expr_lang.specs.declared.token.Sign.{Sign}
use Rattle.expr_lang.specs.declared.token.Sign.TheVariants as sign
use Rattle.expr_lang.specs.declared.token.Mark.TheVariants as mark
use Rattle.expr_lang.specs.declared.token.Token.{Token}
use Rattle.expr_lang.specs.declared.token.Token.TheVariants as token
use Rattle.expr_lang.specs.Tree.{Tree, Assigned, constant, column, feature_number, unary, binary, choice}

-- a token, and the place of its first byte
abbrev pub Placed : Type 0
Placed = ℕ × Token

abbrev pub Toks : Type 0
Toks = List Placed

-- the levels of operators between two operands: the lower, the closer they bind
abbrev pub level_of : Operator → ℕ
level_of op.Times = 1
level_of op.Plus = 2
level_of op.Minus = 2
level_of op.AtMost = 3
level_of op.AtLeast = 3
level_of op.Less = 3
level_of op.Greater = 3
level_of op.Same = 4
level_of op.NotSame = 4
level_of op.Equal = 4
level_of op.NotEqual = 4
level_of op.Both = 5
level_of op.Either = 6

-- a token that is an operand by itself, at its place
abbrev pub leaf_of : ℕ → Token → Option Tree
leaf_of at (token.Number units) = Some (constant (value.Num units))
leaf_of at (token.Text s) = Some (constant (value.Text s))
leaf_of at token.True = Some (constant (value.Bool true))
leaf_of at token.False = Some (constant (value.Bool false))
leaf_of at token.Null = Some (constant value.Null)
leaf_of at (token.Name s) = Some (column at s)
leaf_of at _ = None

-- the sign that a token is before an operand
abbrev pub sign_of : Token → Option Sign
sign_of (token.Mark mark.Not) = Some sign.Not
sign_of (token.Operator op.Minus) = Some sign.Negative
sign_of _ = None

mutual
  -- cond = or [ "?" cond ":" cond ]
  pub data Cond : ℕ → Toks → Tree → Type 0 where
    simple : {n : ℕ} {s : Toks} {e : Tree} → Level 6 n s e → Cond n s e
    branches : {n at : ℕ} (colon : ℕ) {s t u : Toks} {c d e : Tree}
        → Level 6 (suc n) s c → Cond n t d → Cond n u e
        → Cond (suc n) (s ++ (at, token.Mark mark.Question) ∷ (t ++ (colon, token.Mark mark.Colon) ∷ u)) (choice at c d e)

  -- level 6 is or = and { "||" and }, and so on down to level 1, product = unary { "*" unary }; repeated
  -- operators group from the left. Level 0 is unary
  pub data Level : ℕ → ℕ → Toks → Tree → Type 0 where
    lowest : {n : ℕ} {s : Toks} {e : Tree} → Unary n s e → Level zero n s e
    single : {k n : ℕ} {s : Toks} {e : Tree} → Level k n s e → Level (suc k) n s e
    joined : {k n at : ℕ} {s t : Toks} {d e : Tree} {o : Operator}
        → Level (suc k) n s d → level_of o ≡ suc k → Level k n t e
        → Level (suc k) n (s ++ (at, token.Operator o) ∷ t) (binary at o d e)

  -- unary = ("!" | "-") unary | atom
  pub data Unary : ℕ → Toks → Tree → Type 0 where
    atom : {n : ℕ} {s : Toks} {e : Tree} → Atom n s e → Unary n s e
    signed : {n at : ℕ} {t : Token} {o : Sign} {s : Toks} {e : Tree}
        → sign_of t ≡ Some o → Unary n s e → Unary (suc n) ((at, t) ∷ s) (unary at o e)

  -- atom = number | text | "true" | "false" | "null" | name
  --      | "this" "." "id" | "this" "." "properties" "[" text "]" | "(" cond ")"
  pub data Atom : ℕ → Toks → Tree → Type 0 where
    leaf : {n at : ℕ} {t : Token} {e : Tree} → leaf_of at t ≡ Some e → Atom n ((at, t) ∷ []) e
    this_id : {n at b c : ℕ}
        → Atom n ((at, token.This) ∷ (b, token.Mark mark.Dot) ∷ (c, token.Name (codes "id")) ∷ []) feature_number
    this_property : {n at b c d e f : ℕ} {s : List ℕ}
        → Atom n ((at, token.This) ∷ (b, token.Mark mark.Dot) ∷ (c, token.Name (codes "properties")) ∷ (d, token.Mark mark.OpenBracket) ∷ (e, token.Text s) ∷ (f, token.Mark mark.CloseBracket) ∷ []) (column at s)
    enclosed : {n at : ℕ} (b : ℕ) {s : Toks} {e : Tree}
        → Cond n s e → Atom (suc n) ((at, token.Mark mark.Open) ∷ (s ++ (b, token.Mark mark.Close) ∷ [])) e

-- assign = name "=" cond
pub data OneAssign : ℕ → Toks → Assigned → Type 0 where
  becomes : {n at b : ℕ} {name : List ℕ} {s : Toks} {e : Tree}
      → Cond n s e → OneAssign n ((at, token.Name name) ∷ (b, token.Mark mark.Becomes) ∷ s) (name, e)

-- assign { ";" assign } [ ";" ]
pub data Assigns : ℕ → Toks → List Assigned → Type 0 where
  last_assign : {n : ℕ} {s : Toks} {a : Assigned} → OneAssign n s a → Assigns n s (a ∷ [])
  ended_assign : {n : ℕ} (at : ℕ) {s : Toks} {a : Assigned} → OneAssign n s a → Assigns n (s ++ (at, token.Mark mark.Semicolon) ∷ []) (a ∷ [])
  more_assigns : {n : ℕ} (at : ℕ) {s t : Toks} {a : Assigned} {xs : List Assigned}
      → OneAssign n s a → Assigns n t xs → Assigns n (s ++ (at, token.Mark mark.Semicolon) ∷ t) (a ∷ xs)

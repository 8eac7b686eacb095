-- Texts of the grammars, whatever their trees, and what joins them.
use Rattle.std.proofs.Common.{ℕ, zero, suc, ◌≡◌, ◌≤◌, Bool, true, false, List, [], ◌∷◌, ◌++◌, refl, ap, ◌∙◌, sym, subst, append_assoc, arith}
use Rattle.std.proofs.lemmas.Bool.Decides.{nat_tests}
use Rattle.std.specs.Prelude.{nat_lt}
use Rattle.expr_lang.specs.declared.token.Operator.{Operator}
use Rattle.expr_lang.specs.declared.token.Mark.TheVariants as mark
use Rattle.expr_lang.specs.declared.token.Token.TheVariants as token
use Rattle.expr_lang.specs.Tree.{Tree, Assigned, binary, choice}
use Rattle.expr_lang.specs.Grammar.{Toks, Cond, simple, branches, Level, lowest, single, joined, Unary, level_of, OneAssign, becomes, Assigns, last_assign, ended_assign, more_assigns}
use Rattle.expr_lang.proofs.Steps.{level-small, level-positive}
use Rattle.expr_lang.proofs.Assignments.{Ended, nothing_yet, and_one, target, sets, semicolon}

abbrev pub Condition : ℕ → Toks → Type 0
Condition n s = (e : Tree) × Cond n s e

-- operands with operators between them
abbrev pub Operands : ℕ → Toks → Type 0
Operands n s = (e : Tree) × Level 6 n s e

-- one operand, with the signs before it
abbrev pub Operand : ℕ → Toks → Type 0
Operand n s = (e : Tree) × Unary n s e

pub condition_of : (n : ℕ) (s : Toks) → Operands n s → Condition n s
condition_of n s h = (h.0, simple h.1)

at_level : {n : ℕ} {s : Toks} {e : Tree} (k : ℕ) → Unary n s e → Level k n s e
at_level zero h = lowest h
at_level (suc k) h = single (at_level k h)

pub operands_of : (n : ℕ) (s : Toks) → Operand n s → Operands n s
operands_of n s h = (h.0, at_level 6 h.1)

-- an operator and one operand more, after operands of its level or a higher one
one_more : {k n : ℕ} {s t : Toks} {d e : Tree} (at : ℕ) (o : Operator) → Level k n s d → level_of o ≤ k → Unary n t e → (x : Tree) × Level k n (s ++ (at, token.Operator o) ∷ t) x
one_more at o (lowest h) l u = absurd (omega (arith, level-positive o))
one_more {s = s} {t = t} at o (single {k = k} {n = n} h) l u = go (nat_lt k (level_of o)) refl (λ m. one_more at o h m u)
  where
    go : (b : Bool) → nat_lt k (level_of o) ≡ b → (level_of o ≤ k → (x : Tree) × Level k n (s ++ (at, token.Operator o) ∷ t) x) → (x : Tree) × Level (suc k) n (s ++ (at, token.Operator o) ∷ t) x
    go true b later = let e : level_of o ≡ suc k = grind (arith, nat_tests) in (_, joined (single h) e (at_level k u))
    go false b later = let e : level_of o ≤ k = grind (arith, nat_tests) in ((later e).0, single (later e).1)
one_more {t = t} at o (joined {k = k} {n = n} {at = at'} {s = s} {t = t'} {d = d} {e = e} {o = p} a v c) l u = go (nat_lt k (level_of o)) refl (λ m. one_more at o c m u)
  where
    go : (b : Bool) → nat_lt k (level_of o) ≡ b → (level_of o ≤ k → (x : Tree) × Level k n (t' ++ (at, token.Operator o) ∷ t) x) → (x : Tree) × Level (suc k) n ((s ++ (at', token.Operator p) ∷ t') ++ (at, token.Operator o) ∷ t) x
    go true b later = let f : level_of o ≡ suc k = grind (arith, nat_tests) in (_, joined (joined a v c) f (at_level k u))
    go false b later =
        let f : level_of o ≤ k = grind (arith, nat_tests) in (
          binary at' p d (later f).0,
          subst (λ (z : Toks). Level (suc k) n z (binary at' p d (later f).0)) (sym (append_assoc s _ ((at, token.Operator o) ∷ t))) (joined a v (later f).1),
        )

pub operands_on : (n at : ℕ) (o : Operator) (s t : Toks) → Operands n s → Operand n t → Operands n (s ++ (at, token.Operator o) ∷ t)
operands_on n at o s t h u = let small : level_of o ≤ 6 = omega (arith, level-small o) in one_more at o h.1 small u.1

pub choice_of : (n at colon : ℕ) (s t u : Toks) → Operands (suc n) s → Condition n t → Condition n u → Condition (suc n) (s ++ (at, token.Mark mark.Question) ∷ (t ++ (colon, token.Mark mark.Colon) ∷ u))
choice_of n at colon s t u c d e = (choice at c.0 d.0 e.0, branches colon c.1 d.1 e.1)

-- ---- whole texts

-- what a whole text is
pub data Kind : Type 0 where
  expression : Kind
  assignments : Kind

abbrev pub Text : Kind → ℕ → Toks → Type 0
Text expression n s = Condition n s
Text assignments n s = (xs : List Assigned) × Assigns n s xs

-- some whole text begins with these tokens
abbrev pub Goes : Kind → ℕ → Toks → Type 0
Goes g n s = (more : Toks) × Text g n (s ++ more)

-- assignments after others, each of which has its semicolon
pub assigns_after : {n : ℕ} {s : Toks} {xs : List Assigned} → Ended n s xs → (u : Toks) (ys : List Assigned) → Assigns n u ys → Assigns n (s ++ u) (xs ++ ys)
assigns_after nothing_yet u ys g = g
assigns_after {n} (and_one at {s = s} {t = t} {a = a} {xs = xs} h o) u ys g =
    let joined : s ++ (t ++ semicolon at ∷ u) ≡ (s ++ (t ++ semicolon at ∷ [])) ++ u = sym (append_assoc s (t ++ semicolon at ∷ []) u ∙ ap (λ (z : Toks). s ++ z) (append_assoc t (semicolon at ∷ []) u)) in
    subst (λ (z : Toks). Assigns n z ((xs ++ a ∷ []) ++ ys)) joined
    (subst (λ (z : List Assigned). Assigns n (s ++ (t ++ semicolon at ∷ u)) z) (sym (append_assoc xs (a ∷ []) ys)) (assigns_after h (t ++ semicolon at ∷ u) (a ∷ ys) (more_assigns at o g)))

-- the name, the `=` and the value of an assignment
pub one_assign : (n at b : ℕ) (name : List ℕ) (s : Toks) (c : Condition n s) → OneAssign n (target at name ∷ sets b ∷ s) (name, c.0)
one_assign n at b name s c = becomes c.1

-- an assignment after others is whole
pub assigned_text : (n at b : ℕ) (name : List ℕ) (u s : Toks) (xs : List Assigned) → Ended n u xs → Condition n s → Text assignments n (u ++ target at name ∷ sets b ∷ s)
assigned_text n at b name u s xs h c = (xs ++ (name, c.0) ∷ [], assigns_after h (target at name ∷ sets b ∷ s) ((name, c.0) ∷ []) (last_assign (one_assign n at b name s c)))

-- and so it is with a semicolon after it
pub ended_text : (n at b to : ℕ) (name : List ℕ) (u s : Toks) (xs : List Assigned) → Ended n u xs → Condition n s → Text assignments n (u ++ ((target at name ∷ sets b ∷ s) ++ semicolon to ∷ []))
ended_text n at b to name u s xs h c =
    (xs ++ (name, c.0) ∷ [], assigns_after h ((target at name ∷ sets b ∷ s) ++ semicolon to ∷ []) ((name, c.0) ∷ []) (ended_assign to (one_assign n at b name s c)))

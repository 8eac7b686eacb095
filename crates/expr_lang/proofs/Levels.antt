-- Operands with operators between them.
use Rattle.std.proofs.Common.{ℕ, suc, ◌≡◌, ◌+◌, List, [], ◌∷◌, ◌++◌, Ok, Err, Result, refl, ap, ◌∙◌, sym, subst, append_assoc, append-nil}
use Rattle.expr_lang.specs.declared.token.Operator.{Operator}
use Rattle.expr_lang.specs.declared.token.Token.TheVariants as token
use Rattle.expr_lang.specs.declared.expr.Node.{Node}
use Rattle.expr_lang.specs.declared.parser.Misfit.{Misfit}
use Rattle.expr_lang.specs.declared.parser.Stop.{Stop}
use Rattle.expr_lang.specs.declared.parser.Stop.TheVariants as stop
use Rattle.expr_lang.specs.Tree.{Tree, node_tree, binary}
use Rattle.expr_lang.specs.Grammar.{Toks, Level, lowest, single, joined, Unary, level_of}
use Rattle.expr_lang.specs.Machine.{Open, levels, operand, operator}
use Rattle.expr_lang.specs.Reading.{run_at, before, past, plainly, Passes, Breaks, Part, Some_tree, raised}
use Rattle.expr_lang.proofs.Runs.{moves}
use Rattle.expr_lang.proofs.Parts.{passes_then, passes_as, passes_at, breaks_at, breaks_then, breaks_on}
use Rattle.expr_lang.proofs.Raised.{raise_level}

-- level 0 is an operand with its signs
lowest_zero : (n : ℕ) (result : Result Node Stop) (old new : Toks) → Part Unary n (before n) (past n) result old new → Part (Level 0) n (plainly before n) (plainly past n) result old new
lowest_zero n (Ok x) old new a = passes_as (λ (z : Toks). Level 0 n z (node_tree x)) (passes_at (λ (k : List Open). (0, k)) a) (λ z h. lowest h)
lowest_zero n (Err stop.Memory) old new a = tt
lowest_zero n (Err (stop.Misfit f)) old new a = breaks_on (Some_tree (Level 0) n) (breaks_at (λ (k : List Open). (0, k)) a) (λ b z h. ([], (h.0, subst (λ (z : Toks). Level 0 (raised b n) z h.0) (sym (append-nil z)) (lowest h.1))))

pub lowest_part : (j n : ℕ) (result : Result Node Stop) (old new : Toks) → j ≡ 0 → Part Unary n (before n) (past n) result old new → Part (Level j) n (plainly before n) (plainly past n) result old new
lowest_part j n result old new z a = subst (λ (j : ℕ). Part (Level j) n (plainly before n) (plainly past n) result old new) (sym z) (lowest_zero n result old new a)

-- one operand alone
pub single_passes : (j' j n : ℕ) (x : Tree) (old new : Toks) → suc j' ≡ j → Passes (λ (z : Toks). Level j' n z x) (plainly before n) (plainly past n) old new → Passes (λ (z : Toks). Level j n z x) (plainly before n) (plainly past n) old new
single_passes j' j n x old new u a = subst (λ (j : ℕ). Passes (λ (z : Toks). Level j n z x) (plainly before n) (plainly past n) old new) u (passes_as (λ (z : Toks). Level (suc j') n z x) a (λ z h. single h))

pub single_breaks : (j' j n : ℕ) (f : Misfit) (old new : Toks) → suc j' ≡ j → Breaks (Some_tree (Level j') n) (plainly before n) f old new → Breaks (Some_tree (Level j) n) (plainly before n) f old new
single_breaks j' j n f old new u a =
    subst (λ (j : ℕ). Breaks (Some_tree (Level j) n) (plainly before n) f old new) u
    (breaks_on (Some_tree (Level (suc j')) n) a (λ b z h. ([], (h.0, subst (λ (z : Toks). Level (suc j') (raised b n) z h.0) (sym (append-nil z)) (single h.1)))))

-- an operator after operands
operator_runs : (n at : ℕ) (o : Operator) (mid new : Toks) → mid ≡ (at, token.Operator o) ∷ new → (k : List Open) → run_at (plainly past n k) mid ≡ run_at (plainly before n k) new
operator_runs n at o mid new e k = ap (run_at (plainly past n k)) e ∙ moves ((levels k + 0) + n) operator k (at, token.Operator o) new (operand 0) k refl

with_operator : (j n at : ℕ) (o : Operator) (x : Tree) (old m₁ m₂ : Toks) → Passes (λ (z : Toks). Level j n z x) (plainly before n) (plainly past n) old m₁ → m₁ ≡ (at, token.Operator o) ∷ m₂
    → Passes (λ (z : Toks). (y : Toks) × (z ≡ y ++ (at, token.Operator o) ∷ []) × Level j n y x) (plainly before n) (plainly before n) old m₂
with_operator j n at o x old m₁ m₂ a e = record {
  reads = (a.reads.0 ++ (at, token.Operator o) ∷ [], a.reads.1 ∙ ap (λ (zs : Toks). a.reads.0 ++ zs) e ∙ sym (append_assoc a.reads.0 ((at, token.Operator o) ∷ []) m₂), (a.reads.0, refl, a.reads.2));
  runs = λ k. a.runs k ∙ operator_runs n at o m₁ m₂ e k;
}

pub joined_passes : (j' j n at : ℕ) (o : Operator) (x y z : Tree) (old m₁ m₂ new : Toks) → suc j' ≡ j → Passes (λ (s : Toks). Level j n s x) (plainly before n) (plainly past n) old m₁ → m₁ ≡ (at, token.Operator o) ∷ m₂ → level_of o ≡ j
    → Passes (λ (s : Toks). Level j' n s y) (plainly before n) (plainly past n) m₂ new → z ≡ binary at o x y → Passes (λ (s : Toks). Level j n s z) (plainly before n) (plainly past n) old new
joined_passes j' j n at o x y z old m₁ m₂ new u a e l b w =
    passes_then (λ (s : Toks). Level j n s z) (with_operator j n at o x old m₁ m₂ a e) b (λ p q h g. subst (λ (s : Toks). Level j n s z) (sym (append_assoc h.0 ((at, token.Operator o) ∷ []) q) ∙ ap (λ (p : Toks). p ++ q) (sym h.1))
    (subst (λ (z : Tree). Level j n (h.0 ++ (at, token.Operator o) ∷ q) z) (sym w) (join j u l h.2 g)))
  where
    join : (j : ℕ) → suc j' ≡ j → level_of o ≡ j → {s t : Toks} → Level j n s x → Level j' n t y → Level j n (s ++ (at, token.Operator o) ∷ t) (binary at o x y)
    join j u l {s} {t} h g = subst (λ (j : ℕ). Level j n (s ++ (at, token.Operator o) ∷ t) (binary at o x y)) u (joined (subst (λ (j : ℕ). Level j n s x) (sym u) h) (l ∙ sym u) g)

pub joined_breaks : (j' j n at : ℕ) (o : Operator) (x : Tree) (f : Misfit) (old m₁ m₂ new : Toks) → suc j' ≡ j → Passes (λ (s : Toks). Level j n s x) (plainly before n) (plainly past n) old m₁ → m₁ ≡ (at, token.Operator o) ∷ m₂ → level_of o ≡ j
    → Breaks (Some_tree (Level j') n) (plainly before n) f m₂ new → Breaks (Some_tree (Level j) n) (plainly before n) f old new
joined_breaks j' j n at o x f old m₁ m₂ new u a e l b =
    breaks_then (Some_tree (Level j) n) (with_operator j n at o x old m₁ m₂ a e) b (λ b p q h g. (
      [],
      (
        binary at o x g.0,
        subst (λ (s : Toks). Level j (raised b n) s (binary at o x g.0)) (sym (append_assoc h.0 ((at, token.Operator o) ∷ []) q) ∙ ap (λ (p : Toks). p ++ q) (sym h.1) ∙ ap (λ (q : Toks). p ++ q) (sym (append-nil q)))
            (join j u l (raised b n) (raise_level b h.2) g.1),
      ),
    ))
  where
    join : (j : ℕ) → suc j' ≡ j → level_of o ≡ j → (n : ℕ) → {s t : Toks} {y : Tree} → Level j n s x → Level j' n t y → Level j n (s ++ (at, token.Operator o) ∷ t) (binary at o x y)
    join j u l n {s} {t} {y} h g = subst (λ (j : ℕ). Level j n (s ++ (at, token.Operator o) ∷ t) (binary at o x y)) u (joined (subst (λ (j : ℕ). Level j n s x) (sym u) h) (l ∙ sym u) g)

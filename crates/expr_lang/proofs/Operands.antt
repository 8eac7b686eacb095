-- Operands and the signs before them.
use Rattle.std.proofs.Common.{ℕ, zero, suc, ◌≡◌, ◌+◌, ◌<◌, ◌≤◌, [], ◌∷◌, ◌++◌, Some, None, Ok, Err, Result, option_map, refl, ap, ◌∙◌, sym, subst, arith, Bool, true, false, append-nil}
use Rattle.json_values.specs.declared.value.Value.TheVariants as value
use Rattle.expr_lang.specs.declared.token.Sign.{Sign}
use Rattle.expr_lang.specs.declared.token.Mark.TheVariants as mark
use Rattle.expr_lang.specs.declared.token.Token.{Token}
use Rattle.expr_lang.specs.declared.token.Token.TheVariants as token
use Rattle.expr_lang.specs.declared.expr.Node.{Node}
use Rattle.expr_lang.specs.declared.parser.Misfit.{Misfit}
use Rattle.expr_lang.specs.declared.parser.Misfit.TheVariants.{TooDeep, Unfit}
use Rattle.expr_lang.specs.declared.parser.Stop.{Stop}
use Rattle.expr_lang.specs.declared.parser.Stop.TheVariants as stop
use Rattle.expr_lang.specs.Tree.{Tree, node_tree, constant, unary}
use Rattle.expr_lang.specs.Grammar.{Placed, Toks, Cond, simple, Level, lowest, single, Unary, atom, signed, Atom, leaf, enclosed, leaf_of, sign_of}
use Rattle.expr_lang.specs.Machine.{levels, operand, operator, after_this, in_parentheses, run, stopped}
use Rattle.expr_lang.specs.Reading.{Around, run_at, before, past, plainly, anywhere, NextIsNot, IsMark, IsSign, Passes, Breaks, Part, Some_tree, ThisText, EndsLevel, raised}
use Rattle.expr_lang.proofs.Runs.{moves, stops}
use Rattle.expr_lang.proofs.Parts.{passes_then, passes_as, passes_one, breaks_at, breaks_then, breaks_on, breaks_here, breaks_deep}
use Rattle.expr_lang.proofs.Steps.{opens_more, opens_none, sign_step, sign_stops, leaf_step, begins_none, close_stops}
use Rattle.expr_lang.proofs.Raised.{raise_cond}

-- ---- samples

abbrev pub nothing : Placed
nothing = (0, token.Null)

abbrev pub no_tree : Tree
no_tree = constant value.Null

pub atom_sample : (n : ℕ) → Atom n (nothing ∷ []) no_tree
atom_sample n = leaf refl

pub unary_sample : (n : ℕ) → Unary n (nothing ∷ []) no_tree
unary_sample n = atom (leaf refl)

pub level_sample : (j n : ℕ) → Level j n (nothing ∷ []) no_tree
level_sample zero n = lowest (unary_sample n)
level_sample (suc j) n = single (level_sample j n)

pub cond_sample : (n : ℕ) → Cond n (nothing ∷ []) no_tree
cond_sample n = simple (level_sample 6 n)

-- ---- signs

-- one sign more
sign_runs : (n at : ℕ) (t : Token) (s : Sign) (old mid : Toks) → old ≡ (at, t) ∷ mid → sign_of t ≡ Some s → (i : Around) → run_at (before (suc n) i) old ≡ run_at (before n (suc i.0, i.1)) mid
sign_runs n at t s old mid e h i =
    let more : levels i.1 + i.0 < (levels i.1 + i.0) + suc n = omega arith in
    ap (run_at (before (suc n) i)) e
    ∙ moves ((levels i.1 + i.0) + suc n) (operand i.0) i.1 (at, t) mid (operand (suc i.0)) i.1 (sign_step t s _ i.0 i.1 h more)
    ∙ ap (λ (d : ℕ). run d (operand (suc i.0)) i.1 mid) (omega arith)

sign_ends : (n : ℕ) (new : Toks) (i : Around) → run_at (past n (suc i.0, i.1)) new ≡ run_at (past (suc n) i) new
sign_ends n new i = ap (λ (d : ℕ). run d operator i.1 new) (omega arith)

sign_passes_at : (n at : ℕ) (t : Token) (s : Sign) (x y : Tree) (old mid new : Toks) → old ≡ (at, t) ∷ mid → sign_of t ≡ Some s → Passes (λ (z : Toks). Unary n z x) (before n) (past n) mid new → y ≡ unary at s x → Passes (λ (z : Toks). Unary (suc n) z y) (before (suc n)) (past (suc n)) old new
sign_passes_at n at t s x y old mid new e h a w = record {
  reads = ((at, t) ∷ a.reads.0, e ∙ ap (λ (zs : Toks). (at, t) ∷ zs) a.reads.1, subst (Unary (suc n) ((at, t) ∷ a.reads.0)) (sym w) (signed h a.reads.2));
  runs = λ i. sign_runs n at t s old mid e h i ∙ a.runs (suc i.0, i.1) ∙ sign_ends n new i;
}

pub sign_passes : (n' n at : ℕ) (t : Token) (s : Sign) (x y : Tree) (old mid new : Toks) → suc n' ≡ n → old ≡ (at, t) ∷ mid → sign_of t ≡ Some s → Passes (λ (z : Toks). Unary n' z x) (before n') (past n') mid new → y ≡ unary at s x → Passes (λ (z : Toks). Unary n z y) (before n) (past n) old new
sign_passes n' n at t s x y old mid new u e h a w =
    subst (λ (n : ℕ). Passes (λ (z : Toks). Unary n z y) (before n) (past n) old new) u (sign_passes_at n' at t s x y old mid new e h a w)

signed_raised : (b : Bool) (n at : ℕ) (t : Token) (s : Sign) (y : Toks) → sign_of t ≡ Some s → Some_tree Unary n b y → (more : Toks) × Some_tree Unary (suc n) b (((at, t) ∷ []) ++ (y ++ more))
signed_raised false n at t s y h u = ([], (unary at s u.0, subst (λ (z : Toks). Unary (suc n) ((at, t) ∷ z) (unary at s u.0)) (sym (append-nil y)) (signed h u.1)))
signed_raised true n at t s y h u = ([], (unary at s u.0, subst (λ (z : Toks). Unary (suc (suc n)) ((at, t) ∷ z) (unary at s u.0)) (sym (append-nil y)) (signed h u.1)))

sign_breaks_at : (n at : ℕ) (t : Token) (s : Sign) (f : Misfit) (old mid new : Toks) → old ≡ (at, t) ∷ mid → sign_of t ≡ Some s → Breaks (Some_tree Unary n) (before n) f mid new → Breaks (Some_tree Unary (suc n)) (before (suc n)) f old new
sign_breaks_at n at t s f old mid new e h a =
    let one : Passes (λ (z : Toks). z ≡ (at, t) ∷ []) (before (suc n)) (λ (i : Around). before n (suc i.0, i.1)) old mid = record { reads = ((at, t) ∷ [], e, refl); runs = λ i. sign_runs n at t s old mid e h i } in
    breaks_then (Some_tree Unary (suc n)) one (breaks_at (λ (i : Around). (suc i.0, i.1)) a) (λ b x y o u. subst (λ (x : Toks). (more : Toks) × Some_tree Unary (suc n) b (x ++ (y ++ more))) (sym o) (signed_raised b n at t s y h u))

pub sign_breaks : (n' n at : ℕ) (t : Token) (s : Sign) (f : Misfit) (old mid new : Toks) → suc n' ≡ n → old ≡ (at, t) ∷ mid → sign_of t ≡ Some s → Breaks (Some_tree Unary n') (before n') f mid new → Breaks (Some_tree Unary n) (before n) f old new
sign_breaks n' n at t s f old mid new u e h a = subst (λ (n : ℕ). Breaks (Some_tree Unary n) (before n) f old new) u (sign_breaks_at n' at t s f old mid new e h a)

-- no level is left for a sign
sign_deep_at : (at : ℕ) (t : Token) (s : Sign) (old mid : Toks) → old ≡ (at, t) ∷ mid → sign_of t ≡ Some s → Breaks (Some_tree Unary 0) (before 0) TooDeep old old
sign_deep_at at t s old mid e h =
    breaks_deep (Some_tree Unary 0) e (nothing ∷ [], (no_tree, unary_sample 0)) (nothing ∷ [], (unary at s no_tree, signed h (unary_sample 0))) (λ i.
    let most : (levels i.1 + i.0) + 0 ≤ levels i.1 + i.0 = omega arith in
    let stop = sign_stops t s ((levels i.1 + i.0) + 0) i.0 i.1 h most in
    stops ((levels i.1 + i.0) + 0) (operand i.0) i.1 (at, t) mid stop.0 ∙ ap (λ (f : Misfit). stopped f ((at, t) ∷ mid)) stop.1)

pub sign_deep : (n at : ℕ) (t : Token) (s : Sign) (old mid : Toks) → n ≡ 0 → old ≡ (at, t) ∷ mid → sign_of t ≡ Some s → Breaks (Some_tree Unary n) (before n) TooDeep old old
sign_deep n at t s old mid z e h = subst (λ (n : ℕ). Breaks (Some_tree Unary n) (before n) TooDeep old old) (sym z) (sign_deep_at at t s old mid e h)

-- an operand without signs
pub unsigned : (n : ℕ) (result : Result Node Stop) (old new : Toks) → Part Atom n (before n) (past n) result old new → Part Unary n (before n) (past n) result old new
unsigned n (Ok x) old new a = passes_as (λ (z : Toks). Unary n z (node_tree x)) a (λ z h. atom h)
unsigned n (Err stop.Memory) old new a = tt
unsigned n (Err (stop.Misfit f)) old new a = breaks_on (Some_tree Unary n) a (λ b z h. ([], (h.0, subst (λ (z : Toks). Unary (raised b n) z h.0) (sym (append-nil z)) (atom h.1))))

-- ---- operands

pub no_operand : (n : ℕ) (old : Toks) → old ≡ [] → Breaks (Some_tree Atom n) (before n) Unfit old old
unfolding run
no_operand n old e = breaks_here (Some_tree Atom n) refl (nothing ∷ [], (no_tree, atom_sample n)) (λ i. ap (run_at (before n i)) e ∙ ap (stopped Unfit) (sym e))

pub leaf_passes : (n at : ℕ) (t : Token) (x : Node) (old new : Toks) → old ≡ (at, t) ∷ new → leaf_of at t ≡ option_map node_tree (Some x) → Passes (λ (z : Toks). Atom n z (node_tree x)) (before n) (past n) old new
leaf_passes n at t x old new e h = passes_one (λ (z : Toks). Atom n z (node_tree x)) e (leaf h) (λ i. moves ((levels i.1 + i.0) + n) (operand i.0) i.1 (at, t) new operator i.1 (leaf_step at t (node_tree x) _ i.0 i.1 h))

pub begins_no_operand : (n at : ℕ) (t : Token) (old rest : Toks) → old ≡ (at, t) ∷ rest → NextIsNot IsSign old → leaf_of at t ≡ None → (t ≡ token.This → ⊥) → (t ≡ token.Mark mark.Open → ⊥) → Breaks (Some_tree Atom n) (before n) Unfit old old
begins_no_operand n at t old rest e g l u o =
    breaks_here (Some_tree Atom n) refl (nothing ∷ [], (no_tree, atom_sample n)) (λ i.
    let stop = begins_none at t ((levels i.1 + i.0) + n) i.0 i.1 l (λ s h. g at t rest e (s, h)) u o in
    ap (run_at (before n i)) e ∙ stops ((levels i.1 + i.0) + n) (operand i.0) i.1 (at, t) rest stop.0 ∙ ap (λ (f : Misfit). stopped f ((at, t) ∷ rest)) stop.1 ∙ ap (stopped Unfit) (sym e))

-- `this` and what stands after it
this_runs : (n at : ℕ) (old mid : Toks) → old ≡ (at, token.This) ∷ mid → (i : Around) → run_at (before n i) old ≡ run_at (anywhere after_this ((levels i.1 + i.0) + n, i.1)) mid
this_runs n at old mid e i = ap (run_at (before n i)) e ∙ moves ((levels i.1 + i.0) + n) (operand i.0) i.1 (at, token.This) mid after_this i.1 refl

pub this_part : (n at : ℕ) (result : Result Node Stop) (old mid new : Toks) → old ≡ (at, token.This) ∷ mid → Part (ThisText at) n (anywhere after_this) (anywhere operator) result mid new → Part Atom n (before n) (past n) result old new
this_part n at (Ok x) old mid new e a = record {
  reads = ((at, token.This) ∷ a.reads.0, e ∙ ap (λ (zs : Toks). (at, token.This) ∷ zs) a.reads.1, a.reads.2);
  runs = λ i. this_runs n at old mid e i ∙ a.runs ((levels i.1 + i.0) + n, i.1);
}
this_part n at (Err stop.Memory) old mid new e a = tt
this_part n at (Err (stop.Misfit f)) old mid new e a =
    let one : Passes (λ (z : Toks). z ≡ (at, token.This) ∷ []) (before n) (λ (i : Around). anywhere after_this ((levels i.1 + i.0) + n, i.1)) old mid = record { reads = ((at, token.This) ∷ [], e, refl); runs = λ i. this_runs n at old mid e i } in
    breaks_then (Some_tree Atom n) one (breaks_at (λ (i : Around). ((levels i.1 + i.0) + n, i.1)) a) (λ b x y o u. ([], (u.0, subst (λ (z : Toks). Atom (raised b n) z u.0) (ap (λ (x : Toks). x ++ y) (sym o) ∙ ap (λ (y : Toks). x ++ y) (sym (append-nil y))) u.1)))

-- ---- parentheses

open_runs : (n at : ℕ) (old mid : Toks) → old ≡ (at, token.Mark mark.Open) ∷ mid → (i : Around) → run_at (before (suc n) i) old ≡ run_at (plainly before n (in_parentheses i.0 ∷ i.1)) mid
open_runs n at old mid e i =
    let more : levels i.1 + i.0 < (levels i.1 + i.0) + suc n = omega arith in
    ap (run_at (before (suc n) i)) e
    ∙ moves ((levels i.1 + i.0) + suc n) (operand i.0) i.1 (at, token.Mark mark.Open) mid (operand 0) (in_parentheses i.0 ∷ i.1) (opens_more _ (levels i.1 + i.0) (operand 0) (in_parentheses i.0 ∷ i.1) more)
    ∙ ap (λ (d : ℕ). run d (operand 0) (in_parentheses i.0 ∷ i.1) mid) (omega arith)

-- a parenthesis and what stands in it
inside_passes : (n at : ℕ) (x : Tree) (old mid new : Toks) → old ≡ (at, token.Mark mark.Open) ∷ mid → Passes (λ (z : Toks). Cond n z x) (plainly before n) (plainly past n) mid new
    → Passes (λ (z : Toks). (y : Toks) × (z ≡ (at, token.Mark mark.Open) ∷ y) × Cond n y x) (before (suc n)) (λ (i : Around). plainly past n (in_parentheses i.0 ∷ i.1)) old new
inside_passes n at x old mid new e a = record {
  reads = ((at, token.Mark mark.Open) ∷ a.reads.0, e ∙ ap (λ (zs : Toks). (at, token.Mark mark.Open) ∷ zs) a.reads.1, (a.reads.0, refl, a.reads.2));
  runs = λ i. open_runs n at old mid e i ∙ a.runs (in_parentheses i.0 ∷ i.1);
}

close_runs : (n at : ℕ) (mid new : Toks) → mid ≡ (at, token.Mark mark.Close) ∷ new → (i : Around) → run_at (plainly past n (in_parentheses i.0 ∷ i.1)) mid ≡ run_at (past (suc n) i) new
close_runs n at mid new e i =
    ap (run_at (plainly past n (in_parentheses i.0 ∷ i.1))) e
    ∙ moves _ operator (in_parentheses i.0 ∷ i.1) (at, token.Mark mark.Close) new operator i.1 refl
    ∙ ap (λ (d : ℕ). run d operator i.1 new) (omega arith)

enclosed_at : (n at b : ℕ) (x : Tree) (old m₁ m₂ new : Toks) → old ≡ (at, token.Mark mark.Open) ∷ m₁ → Passes (λ (z : Toks). Cond n z x) (plainly before n) (plainly past n) m₁ m₂ → m₂ ≡ (b, token.Mark mark.Close) ∷ new → Passes (λ (z : Toks). Atom (suc n) z x) (before (suc n)) (past (suc n)) old new
enclosed_at n at b x old m₁ m₂ new e a w =
    passes_then (λ (z : Toks). Atom (suc n) z x) (inside_passes n at x old m₁ m₂ e a)
    (let close : Passes (λ (z : Toks). z ≡ (b, token.Mark mark.Close) ∷ []) (λ (i : Around). plainly past n (in_parentheses i.0 ∷ i.1)) (past (suc n)) m₂ new = record { reads = ((b, token.Mark mark.Close) ∷ [], w, refl); runs = λ i. close_runs n b m₂ new w i } in close)
    (λ u v h g. subst (λ (z : Toks). Atom (suc n) z x) (ap (λ (u : Toks). u ++ ((b, token.Mark mark.Close) ∷ [])) (sym h.1) ∙ ap (λ (v : Toks). u ++ v) (sym g)) (enclosed b h.2))

pub enclosed_passes : (n' n at b : ℕ) (x : Tree) (old m₁ m₂ new : Toks) → suc n' ≡ n → old ≡ (at, token.Mark mark.Open) ∷ m₁ → Passes (λ (z : Toks). Cond n' z x) (plainly before n') (plainly past n') m₁ m₂ → m₂ ≡ (b, token.Mark mark.Close) ∷ new → Passes (λ (z : Toks). Atom n z x) (before n) (past n) old new
enclosed_passes n' n at b x old m₁ m₂ new u e a w = subst (λ (n : ℕ). Passes (λ (z : Toks). Atom n z x) (before n) (past n) old new) u (enclosed_at n' at b x old m₁ m₂ new e a w)

enclosed_raised : (b : Bool) (n at : ℕ) (y : Toks) → Some_tree Cond n b y → Some_tree Atom (suc n) b ((at, token.Mark mark.Open) ∷ (y ++ (0, token.Mark mark.Close) ∷ []))
enclosed_raised false n at y h = (h.0, enclosed 0 h.1)
enclosed_raised true n at y h = (h.0, enclosed 0 h.1)

inside_breaks_at : (n at : ℕ) (f : Misfit) (old mid new : Toks) → old ≡ (at, token.Mark mark.Open) ∷ mid → Breaks (Some_tree Cond n) (plainly before n) f mid new → Breaks (Some_tree Atom (suc n)) (before (suc n)) f old new
inside_breaks_at n at f old mid new e a =
    let one : Passes (λ (z : Toks). z ≡ (at, token.Mark mark.Open) ∷ []) (before (suc n)) (λ (i : Around). plainly before n (in_parentheses i.0 ∷ i.1)) old mid = record { reads = ((at, token.Mark mark.Open) ∷ [], e, refl); runs = λ i. open_runs n at old mid e i } in
    breaks_then (Some_tree Atom (suc n)) one (breaks_at (λ (i : Around). in_parentheses i.0 ∷ i.1) a) (λ b x y o u. ((0, token.Mark mark.Close) ∷ [], subst (λ (x : Toks). Some_tree Atom (suc n) b (x ++ (y ++ (0, token.Mark mark.Close) ∷ []))) (sym o) (enclosed_raised b n at y u)))

pub inside_breaks : (n' n at : ℕ) (f : Misfit) (old mid new : Toks) → suc n' ≡ n → old ≡ (at, token.Mark mark.Open) ∷ mid → Breaks (Some_tree Cond n') (plainly before n') f mid new → Breaks (Some_tree Atom n) (before n) f old new
inside_breaks n' n at f old mid new u e a = subst (λ (n : ℕ). Breaks (Some_tree Atom n) (before n) f old new) u (inside_breaks_at n' at f old mid new e a)

-- no level is left for a parenthesis
open_deep_at : (at : ℕ) (old mid : Toks) → old ≡ (at, token.Mark mark.Open) ∷ mid → Breaks (Some_tree Atom 0) (before 0) TooDeep old old
open_deep_at at old mid e =
    breaks_deep (Some_tree Atom 0) e (nothing ∷ [], (no_tree, atom_sample 0)) (nothing ∷ (0, token.Mark mark.Close) ∷ [], (no_tree, enclosed 0 (cond_sample 0))) (λ i.
    let most : (levels i.1 + i.0) + 0 ≤ levels i.1 + i.0 = omega arith in
    stops ((levels i.1 + i.0) + 0) (operand i.0) i.1 (at, token.Mark mark.Open) mid (opens_none _ (levels i.1 + i.0) (operand 0) (in_parentheses i.0 ∷ i.1) most))

pub open_deep : (n at : ℕ) (old mid : Toks) → n ≡ 0 → old ≡ (at, token.Mark mark.Open) ∷ mid → Breaks (Some_tree Atom n) (before n) TooDeep old old
open_deep n at old mid z e = subst (λ (n : ℕ). Breaks (Some_tree Atom n) (before n) TooDeep old old) (sym z) (open_deep_at at old mid e)

-- no `)` comes next
unclosed_at : (n at : ℕ) (x : Tree) (f : Misfit) (old m₁ m₂ new : Toks) → old ≡ (at, token.Mark mark.Open) ∷ m₁ → Passes (λ (z : Toks). Cond n z x) (plainly before n) (plainly past n) m₁ m₂ → EndsLevel 7 m₂ → f ≡ Unfit → new ≡ m₂ → NextIsNot (IsMark mark.Close) m₂ → Breaks (Some_tree Atom (suc n)) (before (suc n)) f old new
unclosed_at n at x f old m₁ m₂ new e a q fe ne h =
    let here : Breaks (λ (b : Bool) (z : Toks). z ≡ (0, token.Mark mark.Close) ∷ []) (λ (i : Around). plainly past n (in_parentheses i.0 ∷ i.1)) Unfit m₂ new =
    breaks_here (λ (b : Bool) (z : Toks). z ≡ (0, token.Mark mark.Close) ∷ []) ne ((0, token.Mark mark.Close) ∷ [], refl) (λ i. close_stops _ i.0 i.1 m₂ q h) in
    subst (λ (f : Misfit). Breaks (Some_tree Atom (suc n)) (before (suc n)) f old new) (sym fe)
    (breaks_then (Some_tree Atom (suc n)) (inside_passes n at x old m₁ m₂ e a) here (λ b u v g k. ([], subst (λ (w : Toks). Some_tree Atom (suc n) b w) (ap (λ (z : Toks). z ++ ((0, token.Mark mark.Close) ∷ [])) (sym g.1) ∙ ap (λ (z : Toks). u ++ z) (sym k ∙ sym (append-nil v))) (enclosed_raised b n at g.0 (x, raise_cond b g.2)))))

pub unclosed : (n' n at : ℕ) (x : Tree) (f : Misfit) (old m₁ m₂ new : Toks) → suc n' ≡ n → old ≡ (at, token.Mark mark.Open) ∷ m₁ → Passes (λ (z : Toks). Cond n' z x) (plainly before n') (plainly past n') m₁ m₂ → EndsLevel 7 m₂ → f ≡ Unfit → new ≡ m₂ → NextIsNot (IsMark mark.Close) m₂ → Breaks (Some_tree Atom n) (before n) f old new
unclosed n' n at x f old m₁ m₂ new u e a q fe ne h = subst (λ (n : ℕ). Breaks (Some_tree Atom n) (before n) f old new) u (unclosed_at n' at x f old m₁ m₂ new e a q fe ne h)

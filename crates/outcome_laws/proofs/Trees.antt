-- Each tree is that of an expression, and each list of names and trees that of assignments; so texts that are not
-- refused have expressions or assignments.
use Rattle.std.proofs.Common.{◌≡◌, ◌⊎◌, inl, inr, refl, ap, sym, subst, ℕ, List, [], ◌∷◌, Option, None, Box, Global}
use Rattle.std.specs.Prelude.{MatchOption}
use denote.RawPtr.{null_ptr}
use Rattle.expr_lang.specs.declared.assign.Assign.{Assign}
use Rattle.expr_lang.specs.declared.expr.Expr.{Expr}
use Rattle.expr_lang.specs.declared.expr.Node.{Node}
use Rattle.expr_lang.specs.declared.expr.Node.TheVariants as node
use Rattle.expr_lang.specs.declared.fault.ExprFault.{ExprFault}
use Rattle.expr_lang.specs.declared.fault.ExprFault.TheVariants as fault
use Rattle.expr_lang.specs.Faults.{AreAssigns, IsTree}
use Rattle.expr_lang.specs.Tree.{Assigned, Tree, all_assigned, assigned, binary, choice, column, constant, feature_number, node_tree, tree_of, unary}
use Rattle.expr_laws.proofs.Faults.{assigns_or_fault, no_assigns_memory, no_memory, tree_or_fault}
use Rattle.table_terms.specs.Names.{Text}
use Rattle.cmd_words.specs.Expressions.{AreRefusals, HasFault, Refusals, TextKind, assignments, expression, fault_at}
use Rattle.cmd_words.specs.declared.fault.ExprWhy.{ExprWhy}
use Rattle.cmd_words.specs.declared.fault.ExprWhy.TheVariants as expr

-- any box: where a node lies in memory is no part of its tree
somewhere : Box (Unit {0}) Global
somewhere = record { ptr = null_ptr; alloc = record { memory = record { seal = tt } }; value = tt }

node_of : (t : Tree) → (n : Node) × (node_tree n ≡ t)
node_of (constant v) = (node.Constant v, refl)
node_of (column at name) = (node.Column at name, refl)
node_of feature_number = (node.FeatureNumber, refl)
node_of (unary at sign t) = let (n, e) = node_of t in (node.Unary' at sign somewhere n, ap (unary at sign) e)
node_of (binary at op t u) =
    let (n, e) = node_of t in
    let (m, f) = node_of u in
    (node.Binary' at op somewhere n somewhere m, λ i. binary at op (e i) (f i))
node_of (choice at t u v) =
    let (n, e) = node_of t in
    let (m, f) = node_of u in
    let (k, g) = node_of v in
    (node.Choice' at somewhere n somewhere m somewhere k, λ i. choice at (e i) (f i) (g i))

pub expression_of : (t : Tree) → (e : Expr) × (tree_of e ≡ t)
expression_of t = let (n, e) = node_of t in (record { root = n }, e)

assignment_of : (a : Assigned) → (s : Assign) × (assigned s ≡ a)
assignment_of (name, t) = let (e, is) = expression_of t in (record { name = name; value = e }, ap (λ (u : Tree). (name, u)) is)

pub assignments_of : (xs : List Assigned) → (list : List Assign) × (all_assigned list ≡ xs)
assignments_of [] = ([], refl)
assignments_of (a ∷ xs) =
    let (s, e) = assignment_of a in
    let (list, f) = assignments_of xs in
    (s ∷ list, λ i. e i ∷ f i)

-- ## Texts that are not refused

-- no fault that is told by its place and its reason, and no other
abbrev IsFree : TextKind → Text → Type 0
IsFree kind text = (f : ExprFault) → HasFault kind text f → ⊥

no_want : (kind : TextKind) (text : Text) → HasFault kind text fault.Memory → ⊥
no_want expression text h = no_memory text h
no_want assignments text h = no_assigns_memory text h

free_of_all : (kind : TextKind) (text : Text) → ((f : ℕ × ExprWhy) → HasFault kind text (fault_at f) → ⊥) → IsFree kind text
free_of_all kind text none (fault.Syntax at) h = none (at, expr.Syntax) h
free_of_all kind text none (fault.Unsupported at) h = none (at, expr.Unsupported) h
free_of_all kind text none (fault.Depth at) h = none (at, expr.Depth) h
free_of_all kind text none fault.Memory h = no_want kind text h

module _ (refuses : Refusals) (are : AreRefusals refuses) where
  free : (kind : TextKind) (text : Text) → refuses kind text ≡ None → IsFree kind text
  free kind text e =
      free_of_all kind text (subst (λ (r : Option (ℕ × ExprWhy)). MatchOption r ((f : ℕ × ExprWhy) → HasFault kind text (fault_at f) → ⊥) (λ f. HasFault kind text (fault_at f))) e (are kind text))

  pub expression_read : (text : Text) → refuses expression text ≡ None → (e : Expr) × IsTree text (tree_of e)
  expression_read text free_of = go (tree_or_fault text)
    where
      go : ((t : Tree) × IsTree text t) ⊎ ((f : ExprFault) × HasFault expression text f) → (e : Expr) × IsTree text (tree_of e)
      go (inl (t, is)) = let (e, same) = expression_of t in (e, subst (IsTree text) (sym same) is)
      go (inr (f, h)) = absurd (free expression text free_of f h)

  pub assignments_read : (text : Text) → refuses assignments text ≡ None → (list : List Assign) × AreAssigns text (all_assigned list)
  assignments_read text free_of = go (assigns_or_fault text)
    where
      go : ((xs : List Assigned) × AreAssigns text xs) ⊎ ((f : ExprFault) × HasFault assignments text f) → (list : List Assign) × AreAssigns text (all_assigned list)
      go (inl (xs, are_these)) = let (list, same) = assignments_of xs in (list, subst (AreAssigns text) (sym same) are_these)
      go (inr (f, h)) = absurd (free assignments text free_of f h)

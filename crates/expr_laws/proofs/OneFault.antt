-- A text that is no text of a grammar has one fault, and one that is has none.
use Rattle.std.proofs.Common.{◌≡◌, ◌⊎◌, inl, inr, ℕ, List, [], ◌∷◌, ◌++◌, length, refl, ap, sym, ◌∙◌, subst, arith, append_assoc}
use Rattle.expr_lang.specs.declared.fault.ExprFault.{ExprFault}
use Rattle.expr_lang.specs.declared.parser.Misfit.{Misfit}
use Rattle.expr_lang.specs.declared.parser.Misfit.TheVariants.{TooDeep, Unfit}
use Rattle.expr_lang.specs.Tree.{Tree, Assigned}
use Rattle.expr_lang.specs.Grammar.{Placed, Toks, Cond, Assigns}
use Rattle.expr_lang.specs.Stuck.{StuckIn, GoesOnIn, IsWhyIn}
use Rattle.expr_lang.specs.Faults.{IsTree, IsFault, AreAssigns, IsAssignsFault, IsFaultIn, IsTextOf, fault_of, depth_limit}

-- the second front is the first one and more
record Longer (front left other : Toks) : Type 0 where
  token : Placed
  rest : Toks
  more : Toks
  left_is : left ≡ token ∷ rest
  other_is : other ≡ front ++ token ∷ more

-- two places at which one list of tokens is cut
abbrev Cuts : Toks → Toks → Toks → Toks → Type 0
Cuts front left other rest = ((front ≡ other) × (left ≡ rest)) ⊎ (Longer front left other ⊎ Longer other rest front)

longer_on : (x : Placed) {front left other : Toks} → Longer front left other → Longer (x ∷ front) left (x ∷ other)
longer_on x l = record { token = l.token; rest = l.rest; more = l.more; left_is = l.left_is; other_is = ap (λ (zs : Toks). x ∷ zs) l.other_is }

cuts_on : (x : Placed) {front left other rest : Toks} → Cuts front left other rest → Cuts (x ∷ front) left (x ∷ other) rest
cuts_on x (inl s) = inl (ap (λ (zs : Toks). x ∷ zs) s.0, s.1)
cuts_on x (inr (inl l)) = inr (inl (longer_on x l))
cuts_on x (inr (inr l)) = inr (inr (longer_on x l))

cuts : (front left other rest : Toks) → front ++ left ≡ other ++ rest → Cuts front left other rest
cuts [] left [] rest e = inl (refl, e)
cuts [] left (y ∷ ys) rest e = inr (inl (record { token = y; rest = ys ++ rest; more = ys; left_is = e; other_is = refl }))
cuts (x ∷ xs) left [] rest e = inr (inr (record { token = x; rest = xs ++ left; more = xs; left_is = sym e; other_is = refl }))
cuts (x ∷ xs) left (y ∷ ys) rest e = subst (λ (z : Placed). Cuts (x ∷ xs) left (z ∷ ys) rest) (let same : x ≡ y = cc in same) (cuts_on x (cuts xs left ys rest cc))

-- ---- in any grammar

module _ {T : Type 0} (G : ℕ → Toks → T → Type 0) where
  no_text_has_a_fault : (text : List ℕ) (e : T) (f : ExprFault) → IsTextOf G text e → IsFaultIn G text f → ⊥
  no_text_has_a_fault text e f t (inl long) = absurd (omega (arith, t.0, long.0))
  no_text_has_a_fault text e f t (inr stuck) = stuck.1.4.refused e (subst (λ (ts : Toks). G depth_limit ts e) stuck.1.3 t.1)

  -- tokens that begin a text begin it with fewer of them too
  goes_on_before : (n : ℕ) (front : Toks) (t : Placed) (more : Toks) → GoesOnIn G n (front ++ t ∷ more) → GoesOnIn G n (front ++ t ∷ [])
  goes_on_before n front t more g = (more ++ g.0, g.1, subst (λ (ts : Toks). G n ts g.1) (append_assoc front (t ∷ more) g.0 ∙ sym (append_assoc front (t ∷ []) (more ++ g.0))) g.2)

  not_longer : (n : ℕ) (m k : Misfit) (front left other rest : Toks) → StuckIn G n m front left → StuckIn G n k other rest → Longer front left other → ⊥
  not_longer n m k front left other rest s t l = s.next l.token l.rest l.left_is (goes_on_before n front l.token l.more (subst (GoesOnIn G n) l.other_is t.goes_on))

  one_why : (m n : Misfit) (front left : Toks) → IsWhyIn G m front left → IsWhyIn G n front left → m ≡ n
  one_why TooDeep TooDeep front left a b = refl
  one_why Unfit Unfit front left a b = refl
  one_why TooDeep Unfit front left a b = absurd (b a.0 a.1 a.2 a.3 a.4)
  one_why Unfit TooDeep front left a b = absurd (a b.0 b.1 b.2 b.3 b.4)

  same_fault : (n : ℕ) (m k : Misfit) (front left other rest : Toks) (end : ℕ) → StuckIn G n m front left → StuckIn G n k other rest → Cuts front left other rest → fault_of m left end ≡ fault_of k rest end
  same_fault n m k front left other rest end s t (inl same) =
      let why : IsWhyIn G k front left = subst (λ (ts : Toks). IsWhyIn G k ts left) (sym same.0) (subst (IsWhyIn G k other) (sym same.1) t.why) in
      ap (λ (x : Misfit). fault_of x left end) (one_why m k front left s.why why) ∙ ap (λ (ts : Toks). fault_of k ts end) same.1
  same_fault n m k front left other rest end s t (inr (inl l)) = absurd (not_longer n m k front left other rest s t l)
  same_fault n m k front left other rest end s t (inr (inr l)) = absurd (not_longer n k m other rest front left t s l)

  -- a text has one fault
  each_has_one_fault : (text : List ℕ) (f g : ExprFault) → IsFaultIn G text f → IsFaultIn G text g → f ≡ g
  each_has_one_fault text f g (inl a) (inl b) = a.1 ∙ sym b.1
  each_has_one_fault text f g (inl a) (inr b) = absurd (omega (arith, a.0, b.0))
  each_has_one_fault text f g (inr a) (inl b) = absurd (omega (arith, a.0, b.0))
  each_has_one_fault text f g (inr a) (inr b) =
      a.1.5 ∙ same_fault depth_limit a.1.2 b.1.2 a.1.0 a.1.1 b.1.0 b.1.1 (length text) a.1.4 b.1.4 (cuts a.1.0 a.1.1 b.1.0 b.1.1 (sym a.1.3 ∙ b.1.3)) ∙ sym b.1.5

-- ---- expressions, and assignments

pub tree_has_no_fault : (text : List ℕ) (e : Tree) (f : ExprFault) → IsTree text e → IsFault text f → ⊥
tree_has_no_fault text e f t h = no_text_has_a_fault Cond text e f t h

pub one_fault : (text : List ℕ) (f g : ExprFault) → IsFault text f → IsFault text g → f ≡ g
one_fault text f g a b = each_has_one_fault Cond text f g a b

pub assigns_have_no_fault : (text : List ℕ) (xs : List Assigned) (f : ExprFault) → AreAssigns text xs → IsAssignsFault text f → ⊥
assigns_have_no_fault text xs f t h = no_text_has_a_fault Assigns text xs f t h

pub one_assigns_fault : (text : List ℕ) (f g : ExprFault) → IsAssignsFault text f → IsAssignsFault text g → f ≡ g
one_assigns_fault text f g a b = each_has_one_fault Assigns text f g a b

-- A text that is no expression has one fault, and an expression has none; assignments too.
use Rattle.std.proofs.Common.{◌≡◌, ◌⊎◌, inl, inr, ℕ, List, [], ◌∷◌, ◌++◌, length, Option, Some, None, MatchOption, refl, ap, sym, ◌∙◌, subst, arith, append_assoc}
use Rattle.expr_lang.specs.declared.fault.ExprFault.{ExprFault}
use Rattle.expr_lang.specs.declared.fault.ExprFault.TheVariants as fault
use Rattle.expr_lang.specs.declared.parser.Misfit.{Misfit}
use Rattle.expr_lang.specs.declared.parser.Misfit.TheVariants.{TooDeep, Unfit}
use Rattle.expr_lang.specs.Grammar.{Placed, Toks, Cond, Assigns}
use Rattle.expr_lang.specs.Stuck.{StuckIn, GoesOnIn, IsWhyIn}
use Rattle.expr_lang.specs.Faults.{FaultFits, AssignsFaultFits, IsFaultIn, FaultFitsIn, fault_of, depth_limit}
use Rattle.cmd_words.specs.declared.fault.ExprWhy.{ExprWhy}
use Rattle.cmd_words.specs.declared.fault.ExprWhy.TheVariants as expr
use Rattle.cmd_words.specs.Expressions.{Refusals, AreRefusals, expression, assignments, fault_at}
use Rattle.cmd_words.specs.ReadsAs.{IsRefusedFor, refusal_of}

-- ## Two places at which one list of tokens is cut

-- the second front is the first one and more
record Longer (front left other : Toks) : Type 0 where
  token : Placed
  rest : Toks
  more : Toks
  left_is : left ≡ token ∷ rest
  other_is : other ≡ front ++ token ∷ more

cut_cases : (front left other rest : Toks) → front ++ left ≡ other ++ rest → ((front ≡ other) × (left ≡ rest)) ⊎ (Longer front left other ⊎ Longer other rest front)
cut_cases [] left [] rest e = inl (refl, e)
cut_cases [] left (y ∷ ys) rest e = inr (inl (record { token = y; rest = ys ++ rest; more = ys; left_is = e; other_is = refl }))
cut_cases (x ∷ xs) left [] rest e = inr (inr (record { token = x; rest = xs ++ left; more = xs; left_is = sym e; other_is = refl }))
cut_cases (x ∷ xs) left (y ∷ ys) rest e = go (cut_cases xs left ys rest cc)
  where
    heads : x ≡ y
    heads = cc

    go : (((xs ≡ ys) × (left ≡ rest)) ⊎ (Longer xs left ys ⊎ Longer ys rest xs)) → (((x ∷ xs) ≡ (y ∷ ys)) × (left ≡ rest)) ⊎ (Longer (x ∷ xs) left (y ∷ ys) ⊎ Longer (y ∷ ys) rest (x ∷ xs))
    go (inl s) = inl (cc, s.1)
    go (inr (inl l)) = inr (inl (record { token = l.token; rest = l.rest; more = l.more; left_is = l.left_is; other_is = ap (λ (zs : Toks). y ∷ zs) l.other_is ∙ ap (λ (z : Placed). z ∷ (xs ++ l.token ∷ l.more)) (sym heads) }))
    go (inr (inr l)) = inr (inr (record { token = l.token; rest = l.rest; more = l.more; left_is = l.left_is; other_is = ap (λ (zs : Toks). x ∷ zs) l.other_is ∙ ap (λ (z : Placed). z ∷ (ys ++ l.token ∷ l.more)) heads }))

-- ## A grammar of texts

module _ {T : Type 0} (G : ℕ → Toks → T → Type 0) where
  -- tokens that begin a text begin it with fewer of them too
  goes_on_before : (n : ℕ) (front : Toks) (t : Placed) (more : Toks) → GoesOnIn G n (front ++ t ∷ more) → GoesOnIn G n (front ++ t ∷ [])
  goes_on_before n front t more g = (more ++ g.0, g.1, subst (λ (ts : Toks). G n ts g.1) same g.2)
    where
      same : (front ++ t ∷ more) ++ g.0 ≡ (front ++ t ∷ []) ++ (more ++ g.0)
      same = append_assoc front (t ∷ more) g.0 ∙ sym (append_assoc front (t ∷ []) (more ++ g.0))

  not_longer : (m n : Misfit) (front left other rest : Toks) → StuckIn G depth_limit m front left → StuckIn G depth_limit n other rest → Longer front left other → ⊥
  not_longer m n front left other rest s t l = s.next l.token l.rest l.left_is (goes_on_before depth_limit front l.token l.more (subst (λ (ts : Toks). GoesOnIn G depth_limit ts) l.other_is t.goes_on))

  one_why : (m n : Misfit) (front left : Toks) → IsWhyIn G m front left → IsWhyIn G n front left → m ≡ n
  one_why TooDeep TooDeep front left a b = refl
  one_why Unfit Unfit front left a b = refl
  one_why TooDeep Unfit front left a b = absurd (b a.0 a.1 a.2 a.3 a.4)
  one_why Unfit TooDeep front left a b = absurd (a b.0 b.1 b.2 b.3 b.4)

  same_fault : (m n : Misfit) (front left other rest : Toks) (end : ℕ) → front ++ left ≡ other ++ rest → StuckIn G depth_limit m front left → StuckIn G depth_limit n other rest → fault_of m left end ≡ fault_of n rest end
  same_fault m n front left other rest end e s t = go (cut_cases front left other rest e)
    where
      go : (((front ≡ other) × (left ≡ rest)) ⊎ (Longer front left other ⊎ Longer other rest front)) → fault_of m left end ≡ fault_of n rest end
      go (inl same) =
          let why : IsWhyIn G n front left = subst (λ (ts : Toks). IsWhyIn G n ts left) (sym same.0) (subst (λ (ts : Toks). IsWhyIn G n other ts) (sym same.1) t.why) in
          ap (λ (k : Misfit). fault_of k left end) (one_why m n front left s.why why) ∙ ap (λ (ts : Toks). fault_of n ts end) same.1
      go (inr (inl l)) = absurd (not_longer m n front left other rest s t l)
      go (inr (inr l)) = absurd (not_longer n m other rest front left t s l)

  -- a text has one fault
  pub fault_in_is_one : (text : List ℕ) (f g : ExprFault) → IsFaultIn G text f → IsFaultIn G text g → f ≡ g
  fault_in_is_one text f g (inl a) (inl b) = a.1 ∙ sym b.1
  fault_in_is_one text f g (inl a) (inr b) = absurd (omega (arith, a.0, b.0))
  fault_in_is_one text f g (inr a) (inl b) = absurd (omega (arith, a.0, b.0))
  fault_in_is_one text f g (inr a) (inr b) = a.1.5 ∙ same_fault a.1.2 b.1.2 a.1.0 a.1.1 b.1.0 b.1.1 (length text) (sym a.1.3 ∙ b.1.3) a.1.4 b.1.4 ∙ sym b.1.5

-- ## What is told of a text

same_place : (p q : ℕ × ExprWhy) → fault_at p ≡ fault_at q → p ≡ q
same_place (a, expr.Syntax) (b, expr.Syntax) e = cc
same_place (a, expr.Unsupported) (b, expr.Unsupported) e = cc
same_place (a, expr.Depth) (b, expr.Depth) e = cc
same_place (a, expr.Syntax) (b, expr.Unsupported) e = cc
same_place (a, expr.Syntax) (b, expr.Depth) e = cc
same_place (a, expr.Unsupported) (b, expr.Syntax) e = cc
same_place (a, expr.Unsupported) (b, expr.Depth) e = cc
same_place (a, expr.Depth) (b, expr.Syntax) e = cc
same_place (a, expr.Depth) (b, expr.Unsupported) e = cc

module _ {T : Type 0} (G : ℕ → Toks → T → Type 0) (text : List ℕ) where
  abbrev IsTold : Option (ℕ × ExprWhy) → Type 0
  IsTold o = MatchOption o ((f : ℕ × ExprWhy) → IsFaultIn G text (fault_at f) → ⊥) (λ f. IsFaultIn G text (fault_at f))

  -- a text with this fault is refused for it
  pub refused_for : (o : Option (ℕ × ExprWhy)) → IsTold o → (p : ℕ × ExprWhy) → IsFaultIn G text (fault_at p) → o ≡ Some p
  refused_for None none p f = absurd (none p f)
  refused_for (Some g) h p f = ap Some (same_place g p (fault_in_is_one G text (fault_at g) (fault_at p) h f))

  pub reads_fault : (o : Option (ℕ × ExprWhy)) → IsTold o → (f : ExprFault) → FaultFitsIn G text f → IsRefusedFor o (refusal_of f)
  reads_fault o told (fault.Syntax at) h = refused_for o told (at, expr.Syntax) h
  reads_fault o told (fault.Unsupported at) h = refused_for o told (at, expr.Unsupported) h
  reads_fault o told (fault.Depth at) h = refused_for o told (at, expr.Depth) h
  reads_fault o told fault.Memory h = tt

-- ## Expressions and assignments

pub reads_expression_fault : (refuses : Refusals) (text : List ℕ) (f : ExprFault) → AreRefusals refuses → FaultFits text f → IsRefusedFor (refuses expression text) (refusal_of f)
reads_expression_fault refuses text f right h = reads_fault Cond text (refuses expression text) (right expression text) f h

pub reads_assignments_fault : (refuses : Refusals) (text : List ℕ) (f : ExprFault) → AreRefusals refuses → AssignsFaultFits text f → IsRefusedFor (refuses assignments text) (refusal_of f)
reads_assignments_fault refuses text f right h = reads_fault Assigns text (refuses assignments text) (right assignments text) f h

-- The fault of each text that is no text of a grammar.
use Rattle.std.proofs.Common.{ℕ, ◌≡◌, ◌⊎◌, inl, inr, ◌<◌, ◌≤◌, Bool, true, false, List, [], ◌∷◌, ◌++◌, length, if◌then◌else◌, refl, arith}
use Rattle.std.proofs.lemmas.Bool.Decides.{nat_tests}
use Rattle.std.specs.Prelude.{nat_lt}
use Rattle.expr_lang.specs.declared.fault.ExprFault.{ExprFault}
use Rattle.expr_lang.specs.declared.fault.ExprFault.TheVariants as fault
use Rattle.expr_lang.specs.declared.parser.Misfit.{Misfit}
use Rattle.expr_lang.specs.declared.parser.Misfit.TheVariants.{TooDeep, Unfit}
use Rattle.expr_lang.specs.Tree.{Tree, Assigned}
use Rattle.expr_lang.specs.Grammar.{Toks, Cond, Assigns}
use Rattle.expr_lang.specs.Machine.{Outcome, Place, accepted, stopped, run, operand, first_target}
use Rattle.expr_lang.specs.Stuck.{StuckIn}
use Rattle.expr_lang.specs.Tokens.{tokens_of}
use Rattle.expr_lang.specs.Faults.{IsTree, IsFault, AreAssigns, IsAssignsFault, IsFaultIn, IsTextOf, fault_of, is_unsupported, byte_limit, depth_limit}
use Rattle.expr_laws.proofs.Readings.{accepted_tree, stopped_stuck, accepted_assigns, stopped_assigns}

-- a grammar whose texts the machine accepts from a place, and which stops where tokens are stuck
record IsDecided {T : Type 0} (G : ℕ → Toks → T → Type 0) (p : Place) : Type 0 where
  whole : (tokens : Toks) → run depth_limit p [] tokens ≡ accepted → (e : T) × G depth_limit tokens e
  stuck : (tokens : Toks) (m : Misfit) (left : Toks) → run depth_limit p [] tokens ≡ stopped m left → (front : Toks) × (tokens ≡ front ++ left) × StuckIn G depth_limit m front left

text_or_fault : {T : Type 0} (G : ℕ → Toks → T → Type 0) (p : Place) → IsDecided G p → (text : List ℕ) → ((e : T) × IsTextOf G text e) ⊎ ((f : ExprFault) × IsFaultIn G text f)
text_or_fault {T} G p d text = go (nat_lt byte_limit (length text)) (run depth_limit p [] (tokens_of text)) refl refl
  where
    go : (long : Bool) (r : Outcome) → nat_lt byte_limit (length text) ≡ long → run depth_limit p [] (tokens_of text) ≡ r → ((e : T) × IsTextOf G text e) ⊎ ((f : ExprFault) × IsFaultIn G text f)
    go true r l e = let long : byte_limit < length text = grind (arith, nat_tests) in inr (fault.Depth byte_limit, inl (long, refl))
    go false accepted l e =
        let short : length text ≤ byte_limit = grind (arith, nat_tests) in
        let t : (e : T) × G depth_limit (tokens_of text) e = d.whole (tokens_of text) e in
        inl (t.0, (short, t.1))
    go false (stopped m left) l e =
        let short : length text ≤ byte_limit = grind (arith, nat_tests) in
        let s : (front : Toks) × (tokens_of text ≡ front ++ left) × StuckIn G depth_limit m front left = d.stuck (tokens_of text) m left e in
        inr (fault_of m left (length text), inr (short, (s.0, left, m, s.1, s.2, refl)))

pub tree_or_fault : (text : List ℕ) → ((e : Tree) × IsTree text e) ⊎ ((f : ExprFault) × IsFault text f)
tree_or_fault text = text_or_fault Cond (operand 0) (record { whole = accepted_tree depth_limit; stuck = stopped_stuck depth_limit }) text

pub assigns_or_fault : (text : List ℕ) → ((xs : List Assigned) × AreAssigns text xs) ⊎ ((f : ExprFault) × IsAssignsFault text f)
assigns_or_fault text = text_or_fault Assigns first_target (record { whole = accepted_assigns depth_limit; stuck = stopped_assigns depth_limit }) text

-- ---- no fault is of memory

unfit_not_memory : (at : ℕ) (b : Bool) → fault.Memory ≡ (if b then fault.Unsupported at else fault.Syntax at) → ⊥
unfit_not_memory at true e = cc
unfit_not_memory at false e = cc

not_memory : (m : Misfit) (left : Toks) (end : ℕ) → fault.Memory ≡ fault_of m left end → ⊥
not_memory TooDeep left end e = cc
not_memory Unfit [] end e = cc
not_memory Unfit (t ∷ left) end e = unfit_not_memory t.0 (is_unsupported t.1) e

none_of_memory : {T : Type 0} (G : ℕ → Toks → T → Type 0) (text : List ℕ) → IsFaultIn G text fault.Memory → ⊥
none_of_memory G text (inl long) = (let e = long.1 in cc)
none_of_memory G text (inr h) = not_memory h.1.2 h.1.1 (length text) h.1.5

pub no_memory : (text : List ℕ) → IsFault text fault.Memory → ⊥
no_memory text h = none_of_memory Cond text h

pub no_assigns_memory : (text : List ℕ) → IsAssignsFault text fault.Memory → ⊥
no_assigns_memory text h = none_of_memory Assigns text h

-- What the machine answers for a text of tokens: a whole text, or where the tokens are stuck.
use Rattle.std.proofs.Common.{ℕ, suc, ◌≡◌, List, [], ◌∷◌, ◌++◌, Some, None, refl, ap, ◌∙◌, sym, subst, append_assoc, arith, append-nil}
use Rattle.expr_lang.specs.declared.parser.Misfit.{Misfit}
use Rattle.expr_lang.specs.declared.parser.Misfit.TheVariants.{TooDeep, Unfit}
use Rattle.expr_lang.specs.Tree.{Tree, Assigned}
use Rattle.expr_lang.specs.Grammar.{Placed, Toks, Cond, Assigns}
use Rattle.expr_lang.specs.Machine.{Place, Open, Moves, Outcome, accepted, stopped, run, step, at_end, ends, operand, first_target}
use Rattle.expr_lang.specs.Stuck.{GoesOnIn, Stuck, StuckIn}
use Rattle.expr_lang.proofs.Assignments.{assigns_follow, sets, target}
use Rattle.expr_lang.proofs.Runs.{moves, stops}
use Rattle.expr_lang.proofs.Stops.{GoesDeeper, expressions_follow, stuck}
use Rattle.expr_laws.proofs.Trees.{Condition, Goes, Kind, Text, assigned_text, assignments, condition_of, expression, operands_of}
use Rattle.expr_laws.proofs.Fronts.{Opened, nothing, value, inside, first, last, a_this, a_dot, a_properties, a_bracket, a_name, At, at_operand, at_operator, at_member, at_first, at_next, at_target, goes_on_there}
use Rattle.expr_laws.proofs.Moves.{moves_to, moves_up, moves_deeper}

-- what is known where the machine stops
record Halted (g : Kind) (n : ℕ) (m : Misfit) (text left : Toks) : Type 0 where
  front : Toks
  cut : text ≡ front ++ left
  goes_on : Goes g n front
  deeper : m ≡ TooDeep → (t : Placed) × (us : Toks) × (left ≡ t ∷ us) × (deeper : ℕ) × Goes g deeper (front ++ t ∷ [])

-- what an outcome tells of the whole text
abbrev Tells : Kind → ℕ → Toks → Outcome → Type 0
Tells g n text accepted = Text g n text
Tells g n text (stopped m left) = Halted g n m text left

halted_at_end : (g : Kind) (n : ℕ) (front : Toks) → Goes g n front → Halted g n Unfit front []
halted_at_end g n front h = record { front = front; cut = sym (append-nil front); goes_on = h; deeper = λ e. cc }

ends_tell : {n d : ℕ} {k : List Open} {base front : Toks} {g : Kind} → Opened n g k d base → (s : Toks) → front ≡ base ++ s → Condition d s → Goes g n front → Tells g n front (ends k)
ends_tell {n} (nothing {front = base} e f) s g c o = (c.0, subst (λ (z : Toks). Cond n z c.0) (sym (g ∙ ap (λ (z : Toks). z ++ s) f)) (subst (λ (x : ℕ). Cond x s c.0) e c.1))
ends_tell {n} {front = w} (value at b name u xs e f h) s g c o =
    let same : u ++ target at name ∷ sets b ∷ s ≡ w = rw (g, f) (simp append_assoc) in
    subst (Text assignments n) same (assigned_text n at b name u s xs h (subst (λ (x : ℕ). Condition x s) e c))
ends_tell {n} {front = front} {g = kind} (inside q i e f h) s g c o = halted_at_end kind n front o
ends_tell {n} {front = front} {g = kind} (first q i e f h) s g c o = halted_at_end kind n front o
ends_tell (last q i e f h) s g c o = ends_tell i (q ++ s) (rw (g, f) (simp append_assoc)) (h s c) o

end_tells : {n : ℕ} {p : Place} {k : List Open} {front : Toks} {g : Kind} → At n g p k front → Goes g n front → Tells g n front (at_end p k)
end_tells {n} {front = front} {g = kind} (at_operand p o e f h) g = halted_at_end kind n front g
end_tells {n} (at_operator {c = c} s o f h) g = ends_tell o s f (condition_of c s h) g
end_tells {n} {front = front} {g = kind} (at_member place p w o f h (a_this b)) g = halted_at_end kind n front g
end_tells {n} {front = front} {g = kind} (at_member place p w o f h (a_dot b c)) g = halted_at_end kind n front g
end_tells {n} {front = front} {g = kind} (at_member place p w o f h (a_properties b c x)) g = halted_at_end kind n front g
end_tells {n} {front = front} {g = kind} (at_member place p w o f h (a_bracket b c x y)) g = halted_at_end kind n front g
end_tells {n} {front = front} {g = kind} (at_member place p w o f h (a_name b c x y z s)) g = halted_at_end kind n front g
end_tells {n} {front = front} (at_first f) g = halted_at_end assignments n front g
end_tells {n} (at_next u xs f h t) g = subst (Text assignments n) (sym f) t
end_tells {n} {front = front} (at_target at name u xs f h) g = halted_at_end assignments n front g

-- from each place, with a level more to see what is too deep
run_tells : (g : Kind) (ts : Toks) (n : ℕ) (p : Place) (k : List Open) (front : Toks) → At n g p k front → At (suc n) g p k front → Tells g n (front ++ ts) (run n p k ts)
unfolding run
run_tells g [] n p k front a b = subst (λ (z : Toks). Tells g n z (at_end p k)) (sym (append-nil front)) (end_tells a (goes_on_there a))
run_tells g (t ∷ ts) n p k front a b = go (step n p k t.1) refl (λ q l a' b'. run_tells g ts n q l (front ++ t ∷ []) a' b')
  where
    go : (m : Moves) → step n p k t.1 ≡ m → ((q : Place) (l : List Open) → At n g q l (front ++ t ∷ []) → At (suc n) g q l (front ++ t ∷ []) → Tells g n ((front ++ t ∷ []) ++ ts) (run n q l ts)) → Tells g n (front ++ t ∷ ts) (run n p k (t ∷ ts))
    go None s later = subst (Tells g n (front ++ t ∷ ts)) (sym (stops n p k t ts s)) (record {
      front = front;
      cut = refl;
      goes_on = goes_on_there a;
      deeper = λ e. let m : (y : Place × List Open) × (step (suc n) p k t.1 ≡ Some y) = moves_deeper t.1 a e in (t, ts, refl, suc n, goes_on_there (moves_to t m.0 b m.1));
    })
    go (Some y) s later =
        subst (Tells g n (front ++ t ∷ ts)) (sym (moves n p k t ts y.0 y.1 s))
        (subst (λ (z : Toks). Tells g n z (run n y.0 y.1 ts)) (append_assoc front (t ∷ []) ts) (later y.0 y.1 (moves_to t y a s) (moves_to t y b (moves_up p t.1 n k y s))))

-- ---- expressions

expression_on : (n : ℕ) (front : Toks) → Goes expression n front → GoesOnIn Cond n front
expression_on n front g = (g.0, g.1.0, g.1.1)

at_start : (n : ℕ) → At n expression (operand 0) [] []
at_start n = at_operand [] (nothing refl refl) (omega arith) refl (λ u h. operands_of n u h)

tells : (n : ℕ) (tokens : Toks) (r : Outcome) → run n (operand 0) [] tokens ≡ r → Tells expression n tokens r
tells n tokens r e = subst (Tells expression n tokens) e (run_tells expression tokens n (operand 0) [] [] (at_start n) (at_start (suc n)))

pub accepted_tree : (n : ℕ) (tokens : Toks) → run n (operand 0) [] tokens ≡ accepted → (e : Tree) × Cond n tokens e
accepted_tree n tokens e = tells n tokens accepted e

pub stopped_stuck : (n : ℕ) (tokens : Toks) (m : Misfit) (left : Toks) → run n (operand 0) [] tokens ≡ stopped m left → (front : Toks) × (tokens ≡ front ++ left) × Stuck n m front left
stopped_stuck n tokens m left e =
    let h : Halted expression n m tokens left = tells n tokens (stopped m left) e in
    let deeper : m ≡ TooDeep → GoesDeeper Cond h.front left = λ q. let d = h.deeper q in (d.0, d.1, d.2, d.3, expression_on d.3 (h.front ++ d.0 ∷ []) d.4) in
    (h.front, h.cut, stuck Cond (operand 0) expressions_follow n m h.front left (expression_on n h.front h.goes_on) (ap (run n (operand 0) []) (sym h.cut) ∙ e) deeper)

-- ---- assignments

assigns_on : (n : ℕ) (front : Toks) → Goes assignments n front → GoesOnIn Assigns n front
assigns_on n front g = (g.0, g.1.0, g.1.1)

assigns_tell : (n : ℕ) (tokens : Toks) (r : Outcome) → run n first_target [] tokens ≡ r → Tells assignments n tokens r
assigns_tell n tokens r e = subst (Tells assignments n tokens) e (run_tells assignments tokens n first_target [] [] (at_first refl) (at_first refl))

pub accepted_assigns : (n : ℕ) (tokens : Toks) → run n first_target [] tokens ≡ accepted → (xs : List Assigned) × Assigns n tokens xs
accepted_assigns n tokens e = assigns_tell n tokens accepted e

pub stopped_assigns : (n : ℕ) (tokens : Toks) (m : Misfit) (left : Toks) → run n first_target [] tokens ≡ stopped m left → (front : Toks) × (tokens ≡ front ++ left) × StuckIn Assigns n m front left
stopped_assigns n tokens m left e =
    let h : Halted assignments n m tokens left = assigns_tell n tokens (stopped m left) e in
    let deeper : m ≡ TooDeep → GoesDeeper Assigns h.front left = λ q. let d = h.deeper q in (d.0, d.1, d.2, d.3, assigns_on d.3 (h.front ++ d.0 ∷ []) d.4) in
    (h.front, h.cut, stuck Assigns first_target assigns_follow n m h.front left (assigns_on n h.front h.goes_on) (ap (run n first_target []) (sym h.cut) ∙ e) deeper)

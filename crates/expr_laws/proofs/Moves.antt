-- A move of the machine takes a front of a whole text to a longer one.
use Rattle.std.proofs.Common.{ℕ, zero, suc, ◌≡◌, ◌+◌, ◌<◌, Bool, true, false, List, [], ◌∷◌, ◌++◌, codes, Some, None, refl, ap, ◌∙◌, sym, subst, append_assoc, arith, append-nil}
use Rattle.std.proofs.lemmas.Bool.Decides.{nat_tests}
use Rattle.std.proofs.lemmas.Slice.Eq.{bytes_eq-Decides}
use Rattle.std.specs.Prelude.{nat_lt, if◌then◌else◌}
use Rattle.std.specs.Str.{bytes_eq}
use Rattle.expr_lang.specs.declared.token.Operator.{Operator}
use Rattle.expr_lang.specs.declared.token.Operator.TheVariants as op
use Rattle.expr_lang.specs.declared.token.Sign.{Sign}
use Rattle.expr_lang.specs.declared.token.Mark.TheVariants as mark
use Rattle.expr_lang.specs.declared.token.Token.{Token}
use Rattle.expr_lang.specs.declared.token.Token.TheVariants as token
use Rattle.expr_lang.specs.declared.parser.Misfit.TheVariants.{TooDeep}
use Rattle.expr_lang.specs.Tree.{Assigned, unary, feature_number, column}
use Rattle.expr_lang.specs.Grammar.{Placed, Toks, Unary, atom, signed, leaf, this_id, this_property, enclosed, sign_of}
use Rattle.expr_lang.specs.Machine.{Place, Open, levels, opens, colon, close, semicolon, a_target, a_becomes, step, misfit_of, operand, operator, after_this, after_dot, after_properties, after_bracket, after_name, next_target, after_target, in_parentheses, first_branch, last_branch, assigned_value}
use Rattle.expr_lang.proofs.Assignments as assigned
use Rattle.expr_lang.proofs.Assignments.{Ended, nothing_yet, and_one}
use Rattle.expr_lang.proofs.Steps.{opens_more}
use Rattle.expr_laws.proofs.Trees.{Condition, Kind, Operands, Operand, assignments, choice_of, condition_of, ended_text, one_assign, operands_of, operands_on}
use Rattle.expr_laws.proofs.Fronts as front
use Rattle.expr_laws.proofs.Fronts.{Begins, Encloses, Chooses, Continues, Opened, value, inside, first, last, Member, At, at_operand, at_operator, at_member, at_first, at_next, at_target, levels_are}

-- where the machine goes
abbrev Spot : Type 0
Spot = Place × List Open

-- at the spot that a move leads to
abbrev AtSpot : ℕ → Kind → Spot → Toks → Type 0
AtSpot n g x text = At n g x.0 x.1 text

same_spot : (x y : Spot) → Some x ≡ Some y → x ≡ y
same_spot x y e = cc

there : {g : Kind} (n : ℕ) (x y : Spot) (text : Toks) → Some x ≡ Some y → AtSpot n g x text → AtSpot n g y text
there {g} n x y text e h = subst (λ (z : Spot). AtSpot n g z text) (same_spot x y e) h

-- a level was open, and the machine goes there
record Deeper (now n : ℕ) (x y : Spot) : Type 0 where
  below : now < n
  same : Some x ≡ Some y

deeper : (n now : ℕ) (p : Place) (k : List Open) (y : Spot) → opens n now p k ≡ Some y → Deeper now n (p, k) y
deeper n now p k y e = go (nat_lt now n) refl
  where
    go : (t : Bool) → nat_lt now n ≡ t → Deeper now n (p, k) y
    go true h = record { below = grind (arith, nat_tests); same = ap (λ (t : Bool). if t then Some (p, k) else None) (sym h) ∙ e }
    go false h = let no : None ≡ Some y = ap (λ (t : Bool). if t then Some (p, k) else None) (sym h) ∙ e in cc

-- with no token before it an operand stands by itself
alone : (n : ℕ) → Begins n n []
alone n = λ u h. operands_of n u h

longer : (base front p : Toks) (t : Placed) → front ≡ base ++ p → front ++ t ∷ [] ≡ base ++ (p ++ t ∷ [])
longer base front p t f = rw f (simp append_assoc)

-- ---- before an operand

-- a whole operand
one_operand : {n b c : ℕ} {k : List Open} {base front : Toks} {g : Kind} (p : Toks) (t : Placed) → Opened n g k c base → front ≡ base ++ p → Begins c b p → Operand b (t ∷ []) → At n g operator k (front ++ t ∷ [])
one_operand p t o f h u = at_operator (p ++ t ∷ []) o (longer _ _ p t f) (h (t ∷ []) u)

sign_before : (c b at : ℕ) (t : Token) (s : Sign) (p : Toks) → sign_of t ≡ Some s → Begins c (suc b) p → Begins c b (p ++ (at, t) ∷ [])
sign_before c b at t s p g h = λ u x. subst (Operands c) (sym (append_assoc p ((at, t) ∷ []) u)) (h ((at, t) ∷ u) (unary at s x.0, signed g x.1))

one_sign : {n m c : ℕ} {k : List Open} {base front : Toks} {g : Kind} (b at : ℕ) (t : Token) (s : Sign) (p : Toks) → sign_of t ≡ Some s → levels k + m < n → Opened n g k c base → c ≡ m + b → front ≡ base ++ p → Begins c b p → At n g (operand (suc m)) k (front ++ (at, t) ∷ [])
one_sign zero at t s p g l o e f h = absurd (omega (arith, levels_are o))
one_sign {c = c} (suc b) at t s p g l o e f h = at_operand (p ++ (at, t) ∷ []) o (omega arith) (longer _ _ p (at, t) f) (sign_before c b at t s p g h)

encloses : (c b at : ℕ) (p : Toks) → Begins c (suc b) p → Encloses c b (p ++ (at, token.Mark mark.Open) ∷ [])
encloses c b at p h = λ s to x. subst (Operands c) (sym (append_assoc p ((at, token.Mark mark.Open) ∷ []) (s ++ (to, token.Mark mark.Close) ∷ []))) (h ((at, token.Mark mark.Open) ∷ (s ++ (to, token.Mark mark.Close) ∷ [])) (x.0, atom (enclosed to x.1)))

parenthesis : {n m c : ℕ} {k : List Open} {base front : Toks} {g : Kind} (b at : ℕ) (p : Toks) → levels k + m < n → Opened n g k c base → c ≡ m + b → front ≡ base ++ p → Begins c b p → At n g (operand 0) (in_parentheses m ∷ k) (front ++ (at, token.Mark mark.Open) ∷ [])
parenthesis zero at p l o e f h = absurd (omega (arith, levels_are o))
parenthesis {c = c} (suc b) at p l o e f h =
    at_operand [] (inside (p ++ (at, token.Mark mark.Open) ∷ []) o (omega arith) (longer _ _ p (at, token.Mark mark.Open) f) (encloses c b at p h)) (omega arith) (sym (append-nil _)) (alone b)

begins_at : {n b c : ℕ} {k : List Open} {base front : Toks} {g : Kind} (m : ℕ) (p : Toks) (at : ℕ) (t : Token) (y : Spot) → Opened n g k c base → c ≡ m + b → front ≡ base ++ p → Begins c b p → step n (operand m) k t ≡ Some y → AtSpot n g y (front ++ (at, t) ∷ [])
begins_at {n} {k = k} m p at (token.Number u) y o e f h s = there n (operator, k) y _ s (one_operand p (at, token.Number u) o f h (_, atom (leaf refl)))
begins_at {n} {k = k} m p at (token.Text u) y o e f h s = there n (operator, k) y _ s (one_operand p (at, token.Text u) o f h (_, atom (leaf refl)))
begins_at {n} {k = k} m p at token.True y o e f h s = there n (operator, k) y _ s (one_operand p (at, token.True) o f h (_, atom (leaf refl)))
begins_at {n} {k = k} m p at token.False y o e f h s = there n (operator, k) y _ s (one_operand p (at, token.False) o f h (_, atom (leaf refl)))
begins_at {n} {k = k} m p at token.Null y o e f h s = there n (operator, k) y _ s (one_operand p (at, token.Null) o f h (_, atom (leaf refl)))
begins_at {n} {k = k} m p at token.This y o e f h s = there n (after_this, k) y _ s (at_member after_this p (front.this at ∷ []) o (longer _ _ p (at, token.This) f) h (front.a_this at))
begins_at {n} {k = k} m p at (token.Name u) y o e f h s = there n (operator, k) y _ s (one_operand p (at, token.Name u) o f h (_, atom (leaf refl)))
begins_at {n} {b} {k = k} m p at (token.Operator op.Minus) y o e f h s =
    let d : Deeper (levels k + m) n (operand (suc m), k) y = deeper n (levels k + m) (operand (suc m)) k y s in
    there n (operand (suc m), k) y _ d.same (one_sign b at (token.Operator op.Minus) _ p refl d.below o e f h)
begins_at {n} {b} {k = k} m p at (token.Mark mark.Not) y o e f h s =
    let d : Deeper (levels k + m) n (operand (suc m), k) y = deeper n (levels k + m) (operand (suc m)) k y s in
    there n (operand (suc m), k) y _ d.same (one_sign b at (token.Mark mark.Not) _ p refl d.below o e f h)
begins_at {n} {b} {k = k} m p at (token.Mark mark.Open) y o e f h s =
    let d : Deeper (levels k + m) n (operand 0, in_parentheses m ∷ k) y = deeper n (levels k + m) (operand 0) (in_parentheses m ∷ k) y s in
    there n (operand 0, in_parentheses m ∷ k) y _ d.same (parenthesis b at p d.below o e f h)
begins_at m p at _ y o e f h s = cc

-- ---- after an operand

operator_before : (c at : ℕ) (o : Operator) (s : Toks) → Operands c s → Begins c c (s ++ (at, token.Operator o) ∷ [])
operator_before c at o s h = λ u x. subst (Operands c) (sym (append_assoc s ((at, token.Operator o) ∷ []) u)) (operands_on c at o s u h x)

chooses : (d at : ℕ) (s : Toks) → Operands (suc d) s → Chooses (suc d) d (s ++ (at, token.Mark mark.Question) ∷ [])
chooses d at s h = λ t u to x y. subst (Condition (suc d)) (sym (append_assoc s ((at, token.Mark mark.Question) ∷ []) (t ++ (to, token.Mark mark.Colon) ∷ u))) (choice_of d at to s t u h x y)

question : {n : ℕ} {k : List Open} {base front : Toks} {g : Kind} (c at : ℕ) (s : Toks) → levels k < n → Opened n g k c base → front ≡ base ++ s → Operands c s → At n g (operand 0) (first_branch ∷ k) (front ++ (at, token.Mark mark.Question) ∷ [])
question zero at s l o f h = absurd (omega (arith, levels_are o))
question (suc d) at s l o f h = at_operand [] (first (s ++ (at, token.Mark mark.Question) ∷ []) o refl (longer _ _ s (at, token.Mark mark.Question) f) (chooses d at s h)) (omega arith) (sym (append-nil _)) (alone d)

last_from : (c d at : ℕ) (q s : Toks) → Chooses c d q → Condition d s → Continues c d (q ++ (s ++ (at, token.Mark mark.Colon) ∷ []))
last_from c d at q s h x = λ t y. subst (Condition c) (sym (append_assoc q (s ++ (at, token.Mark mark.Colon) ∷ []) t ∙ ap (λ (z : Toks). q ++ z) (append_assoc s ((at, token.Mark mark.Colon) ∷ []) t))) (h s t at x y)

colon_at : {n d : ℕ} {k : List Open} {base front : Toks} {g : Kind} → Opened n g k d base → (s : Toks) (at : ℕ) (y : Spot) → front ≡ base ++ s → Condition d s → colon k ≡ Some y → AtSpot n g y (front ++ (at, token.Mark mark.Colon) ∷ [])
colon_at (front.nothing e f) s at y g x h = cc
colon_at (value i j name u xs e f o) s at y g x h = cc
colon_at (inside q o e f i) s at y g x h = cc
colon_at {n} {front = w} (first {c = c} {d = d} {k = k} {base = base} q o e f i) s at y g x h =
    let same : w ++ (at, token.Mark mark.Colon) ∷ [] ≡ base ++ (q ++ (s ++ (at, token.Mark mark.Colon) ∷ [])) = rw (g, f) (simp append_assoc) in
    there n (operand 0, last_branch ∷ k) y _ h (at_operand [] (last (q ++ (s ++ (at, token.Mark mark.Colon) ∷ [])) o e same (last_from c d at q s i x)) (omega arith) (sym (append-nil _)) (alone d))
colon_at (last q o e f i) s at y g x h = colon_at o (q ++ s) at y (rw (g, f) (simp append_assoc)) (i s x) h

close_at : {n d : ℕ} {k : List Open} {base front : Toks} {g : Kind} → Opened n g k d base → (s : Toks) (at : ℕ) (y : Spot) → front ≡ base ++ s → Condition d s → close k ≡ Some y → AtSpot n g y (front ++ (at, token.Mark mark.Close) ∷ [])
close_at (front.nothing e f) s at y g x h = cc
close_at (value i j name u xs e f o) s at y g x h = cc
close_at {n} (inside {k = k} q o e f i) s at y g x h = there n (operator, k) y _ h (at_operator (q ++ (s ++ (at, token.Mark mark.Close) ∷ [])) o (rw (g, f) (simp append_assoc)) (i s at x))
close_at (first q o e f i) s at y g x h = cc
close_at (last q o e f i) s at y g x h = close_at o (q ++ s) at y (rw (g, f) (simp append_assoc)) (i s x) h

-- a semicolon ends an assignment
semicolon_at : {n d : ℕ} {k : List Open} {base front : Toks} {g : Kind} → Opened n g k d base → (s : Toks) (at : ℕ) (y : Spot) → front ≡ base ++ s → Condition d s → semicolon k ≡ Some y → AtSpot n g y (front ++ (at, token.Mark mark.Semicolon) ∷ [])
semicolon_at (front.nothing e f) s at y g x h = cc
semicolon_at {n} {front = w} (value i b name u xs e f o) s at y g x h =
    let c : Condition n s = subst (λ (z : ℕ). Condition z s) e x in
    let whole : Toks = (assigned.target i name ∷ assigned.sets b ∷ s) ++ assigned.semicolon at ∷ [] in
    let same : w ++ (at, token.Mark mark.Semicolon) ∷ [] ≡ u ++ whole = rw (g, f) (simp append_assoc) in
    there n (next_target, []) y _ h (at_next (u ++ whole) (xs ++ (name, c.0) ∷ []) same (and_one at o (one_assign n i b name s c)) (ended_text n i b at name u s xs o c))
semicolon_at (inside q o e f i) s at y g x h = cc
semicolon_at (first q o e f i) s at y g x h = cc
semicolon_at (last q o e f i) s at y g x h = semicolon_at o (q ++ s) at y (rw (g, f) (simp append_assoc)) (i s x) h

goes_on_at : {n c : ℕ} {k : List Open} {base front : Toks} {g : Kind} (s : Toks) (at : ℕ) (t : Token) (y : Spot) → Opened n g k c base → front ≡ base ++ s → Operands c s → step n operator k t ≡ Some y → AtSpot n g y (front ++ (at, t) ∷ [])
goes_on_at {n} {c} {k} s at (token.Operator p) y o f h g = there n (operand 0, k) y _ g (at_operand (s ++ (at, token.Operator p) ∷ []) o (omega arith) (longer _ _ s (at, token.Operator p) f) (operator_before c at p s h))
goes_on_at {n} {c} s at (token.Mark mark.Close) y o f h g = close_at o s at y f (condition_of c s h) g
goes_on_at {n} {c} {k} s at (token.Mark mark.Question) y o f h g =
    let d : Deeper (levels k) n (operand 0, first_branch ∷ k) y = deeper n (levels k) (operand 0) (first_branch ∷ k) y g in
    there n (operand 0, first_branch ∷ k) y _ d.same (question c at s d.below o f h)
goes_on_at {n} {c} s at (token.Mark mark.Colon) y o f h g = colon_at o s at y f (condition_of c s h) g
goes_on_at {n} {c} s at (token.Mark mark.Semicolon) y o f h g = semicolon_at o s at y f (condition_of c s h) g
goes_on_at s at _ y o f h g = cc

-- ---- in this.id and this.properties["name"]

-- one token more of it, or its last
data MemberMoves (k : List Open) (y : Spot) (w : Toks) : Type 0 where
  within : (q : Place) → Some (q, k) ≡ Some y → Member q w → MemberMoves k y w
  whole : Some (operator, k) ≡ Some y → ((b : ℕ) → Operand b w) → MemberMoves k y w

name_there : (s : List ℕ) (w : List ℕ) → bytes_eq s w ≡ true → s ≡ w
name_there s w e = (bytes_eq-Decides s w).0 e

member_at : (k : List Open) (y : Spot) (at b c : ℕ) (s : List ℕ) → step 0 after_dot k (token.Name s) ≡ Some y → MemberMoves k y (front.this at ∷ front.dot b ∷ (c, token.Name s) ∷ [])
member_at k y at b c s e = go (bytes_eq s (codes "id")) (bytes_eq s (codes "properties")) refl refl
  where
    go : (v w : Bool) → bytes_eq s (codes "id") ≡ v → bytes_eq s (codes "properties") ≡ w → MemberMoves k y (front.this at ∷ front.dot b ∷ (c, token.Name s) ∷ [])
    go true w h g = whole (ap (λ (v : Bool). if v then Some (operator, k) else (if bytes_eq s (codes "properties") then Some (after_properties, k) else None)) (sym h) ∙ e)
        (λ n. (feature_number, subst (λ (z : List ℕ). Unary n (front.this at ∷ front.dot b ∷ (c, token.Name z) ∷ []) feature_number) (sym (name_there s (codes "id") h)) (atom this_id)))
    go false true h g = within after_properties
        (ap (λ (w : Bool). if w then Some (after_properties, k) else None) (sym g) ∙ ap (λ (v : Bool). if v then Some (operator, k) else (if bytes_eq s (codes "properties") then Some (after_properties, k) else None)) (sym h) ∙ e)
        (subst (λ (z : List ℕ). Member after_properties (front.this at ∷ front.dot b ∷ (c, token.Name z) ∷ [])) (sym (name_there s (codes "properties") g)) (front.a_properties at b c))
    go false false h g =
        let no : None ≡ Some y = ap (λ (w : Bool). if w then Some (after_properties, k) else None) (sym g) ∙ ap (λ (v : Bool). if v then Some (operator, k) else (if bytes_eq s (codes "properties") then Some (after_properties, k) else None)) (sym h) ∙ e in
        cc

dot_at : (k : List Open) (y : Spot) (at b : ℕ) (t : Token) → step 0 after_this k t ≡ Some y → MemberMoves k y (front.this at ∷ (b, t) ∷ [])
dot_at k y at b (token.Mark mark.Dot) e = within after_dot e (front.a_dot at b)
dot_at k y at b _ e = cc

bracket_at : (k : List Open) (y : Spot) (at b c d : ℕ) (t : Token) → step 0 after_properties k t ≡ Some y → MemberMoves k y (front.this at ∷ front.dot b ∷ front.properties c ∷ (d, t) ∷ [])
bracket_at k y at b c d (token.Mark mark.OpenBracket) e = within after_bracket e (front.a_bracket at b c d)
bracket_at k y at b c d _ e = cc

text_at : (k : List Open) (y : Spot) (at b c d x : ℕ) (t : Token) → step 0 after_bracket k t ≡ Some y → MemberMoves k y (front.this at ∷ front.dot b ∷ front.properties c ∷ front.bracket d ∷ (x, t) ∷ [])
text_at k y at b c d x (token.Text s) e = within after_name e (front.a_name at b c d x s)
text_at k y at b c d x _ e = cc

end_at : (k : List Open) (y : Spot) (at b c d x z : ℕ) (s : List ℕ) (t : Token) → step 0 after_name k t ≡ Some y → MemberMoves k y (front.this at ∷ front.dot b ∷ front.properties c ∷ front.bracket d ∷ (x, token.Text s) ∷ (z, t) ∷ [])
end_at k y at b c d x z s (token.Mark mark.CloseBracket) e = whole e (λ n. (column at s, atom this_property))
end_at k y at b c d x z s _ e = cc

name_at : (k : List Open) (y : Spot) (at b c : ℕ) (t : Token) → step 0 after_dot k t ≡ Some y → MemberMoves k y (front.this at ∷ front.dot b ∷ (c, t) ∷ [])
name_at k y at b c (token.Name s) e = member_at k y at b c s e
name_at k y at b c _ e = cc

member_moves : {place : Place} {w : Toks} (n : ℕ) (k : List Open) (at : ℕ) (t : Token) (y : Spot) → Member place w → step n place k t ≡ Some y → MemberMoves k y (w ++ (at, t) ∷ [])
member_moves n k at t y (front.a_this b) e = dot_at k y b at t e
member_moves n k at t y (front.a_dot b c) e = name_at k y b c at t e
member_moves n k at t y (front.a_properties b c d) e = bracket_at k y b c d at t e
member_moves n k at t y (front.a_bracket b c d x) e = text_at k y b c d x at t e
member_moves n k at t y (front.a_name b c d x z s) e = end_at k y b c d x z at s t e

member_goes : {n b c : ℕ} {k : List Open} {base front : Toks} {g : Kind} (p w : Toks) (t : Placed) (y : Spot) → Opened n g k c base → front ≡ base ++ (p ++ w) → Begins c b p → MemberMoves k y (w ++ t ∷ []) → AtSpot n g y (front ++ t ∷ [])
member_goes {n} {k = k} p w t y o f h (within q e m) = there n (q, k) y _ e (at_member q p (w ++ t ∷ []) o (rw f (simp append_assoc)) h m)
member_goes {n} {b} {k = k} p w t y o f h (whole e u) = there n (operator, k) y _ e (at_operator (p ++ (w ++ t ∷ [])) o (rw f (simp append_assoc)) (h (w ++ t ∷ []) (u b)))

-- ---- before the value of an assignment

target_at : {n : ℕ} {front : Toks} (u : Toks) (xs : List Assigned) (at : ℕ) (t : Token) (y : Spot) → front ≡ u → Ended n u xs → a_target [] t ≡ Some y → AtSpot n assignments y (front ++ (at, t) ∷ [])
target_at {n} {front} u xs at (token.Name w) y f h e =
    let same : front ++ (at, token.Name w) ∷ [] ≡ u ++ (at, token.Name w) ∷ [] = ap (λ (z : Toks). z ++ (at, token.Name w) ∷ []) f in
    there n (after_target, []) y _ e (at_target at w u xs same h)
target_at u xs at _ y f h e = cc

becomes_at : {n : ℕ} {front : Toks} (at : ℕ) (name : List ℕ) (u : Toks) (xs : List Assigned) (b : ℕ) (t : Token) (y : Spot) → front ≡ u ++ assigned.target at name ∷ [] → Ended n u xs → a_becomes [] t ≡ Some y → AtSpot n assignments y (front ++ (b, t) ∷ [])
becomes_at {n} {front} at name u xs b (token.Mark mark.Becomes) y f h e =
    let same : front ++ (b, token.Mark mark.Becomes) ∷ [] ≡ u ++ assigned.target at name ∷ assigned.sets b ∷ [] = rw f (simp append_assoc) in
    there n (operand 0, assigned_value ∷ []) y _ e (at_operand [] (value at b name u xs refl same h) (omega arith) (sym (append-nil _)) (alone n))
becomes_at at name u xs b _ y f h e = cc

-- ---- each move

pub moves_to : {n : ℕ} {p : Place} {k : List Open} {front : Toks} {g : Kind} (t : Placed) (y : Spot) → At n g p k front → step n p k t.1 ≡ Some y → At n g y.0 y.1 (front ++ t ∷ [])
moves_to t y (at_operand {m = m} p o e f h) s = begins_at m p t.0 t.1 y o e f h s
moves_to t y (at_operator u o f h) s = goes_on_at u t.0 t.1 y o f h s
moves_to {n} t y (at_member place p w o f h m) s = member_goes p w t y o f h (member_moves n _ t.0 t.1 y m s)
moves_to t y (at_first f) s = target_at [] [] t.0 t.1 y f nothing_yet s
moves_to t y (at_next u xs f h w) s = target_at u xs t.0 t.1 y f h s
moves_to t y (at_target at name u xs f h) s = becomes_at at name u xs t.0 t.1 y f h s

opens_up : (d now : ℕ) (p : Place) (k : List Open) (y : Spot) → opens d now p k ≡ Some y → opens (suc d) now p k ≡ Some y
opens_up d now p k y e =
    let x : Deeper now d (p, k) y = deeper d now p k y e in
    let l : now < suc d = omega (arith, x.below) in
    opens_more (suc d) now p k l ∙ x.same

-- what moves with some levels moves with one more
pub moves_up : (p : Place) (t : Token) (d : ℕ) (k : List Open) (y : Spot) → step d p k t ≡ Some y → step (suc d) p k t ≡ Some y
moves_up (operand n) (token.Operator op.Minus) d k y e = opens_up d (levels k + n) (operand (suc n)) k y e
moves_up (operand n) (token.Mark mark.Not) d k y e = opens_up d (levels k + n) (operand (suc n)) k y e
moves_up (operand n) (token.Mark mark.Open) d k y e = opens_up d (levels k + n) (operand 0) (in_parentheses n ∷ k) y e
moves_up operator (token.Mark mark.Question) d k y e = opens_up d (levels k) (operand 0) (first_branch ∷ k) y e
moves_up _ _ d k y e = e

-- where a token is too deep, it is not with one level more
pub moves_deeper : {n : ℕ} {p : Place} {k : List Open} {front : Toks} {g : Kind} (t : Token) → At n g p k front → misfit_of p t ≡ TooDeep → (y : Spot) × (step (suc n) p k t ≡ Some y)
moves_deeper {n} {k = k} (token.Mark mark.Not) (at_operand {m = m} p o e f h) d = ((operand (suc m), k), opens_more (suc n) (levels k + m) (operand (suc m)) k (omega (arith, levels_are o)))
moves_deeper {n} {k = k} (token.Operator op.Minus) (at_operand {m = m} p o e f h) d = ((operand (suc m), k), opens_more (suc n) (levels k + m) (operand (suc m)) k (omega (arith, levels_are o)))
moves_deeper {n} {k = k} (token.Mark mark.Open) (at_operand {m = m} p o e f h) d = ((operand 0, in_parentheses m ∷ k), opens_more (suc n) (levels k + m) (operand 0) (in_parentheses m ∷ k) (omega (arith, levels_are o)))
moves_deeper {n} {k = k} (token.Mark mark.Question) (at_operator s o f h) d = ((operand 0, first_branch ∷ k), opens_more (suc n) (levels k) (operand 0) (first_branch ∷ k) (omega (arith, levels_are o)))
moves_deeper _ (at_operand p o e f h) d = cc
moves_deeper _ (at_operator s o f h) d = cc
moves_deeper _ (at_member place p w o f h (front.a_this b)) d = cc
moves_deeper _ (at_member place p w o f h (front.a_dot b c)) d = cc
moves_deeper _ (at_member place p w o f h (front.a_properties b c x)) d = cc
moves_deeper _ (at_member place p w o f h (front.a_bracket b c x y)) d = cc
moves_deeper _ (at_member place p w o f h (front.a_name b c x y z s)) d = cc
moves_deeper _ (at_first f) d = cc
moves_deeper _ (at_next u xs f h w) d = cc
moves_deeper _ (at_target at name u xs f h) d = cc

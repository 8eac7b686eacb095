-- Fronts of whole texts at each place of the machine: what was read there, and what is open around it.
use Rattle.std.proofs.Common.{ℕ, suc, ◌≡◌, ◌+◌, List, [], ◌∷◌, ◌++◌, codes, refl, ap, ◌∙◌, sym, subst, append_assoc, arith, append-nil}
use Rattle.expr_lang.specs.declared.token.Mark.TheVariants as mark
use Rattle.expr_lang.specs.declared.token.Token.TheVariants as token
use Rattle.expr_lang.specs.Tree.{Assigned, column, feature_number}
use Rattle.expr_lang.specs.Grammar.{Placed, Toks, Cond, atom, leaf, this_id, this_property}
use Rattle.expr_lang.specs.Machine.{Place, Open, levels, operand, operator, after_this, after_dot, after_properties, after_bracket, after_name, first_target, next_target, after_target, in_parentheses, first_branch, last_branch, assigned_value}
use Rattle.expr_lang.proofs.Assignments.{Ended, nothing_yet, target, sets}
use Rattle.expr_laws.proofs.Trees.{Condition, Goes, Kind, Operands, Operand, Text, assigned_text, assignments, condition_of, expression, operands_of}

-- with an operand of b levels after them, the tokens are operands of c levels
abbrev pub Begins : ℕ → ℕ → Toks → Type 0
Begins c b p = (u : Toks) → Operand b u → Operands c (p ++ u)

-- with a condition and a parenthesis after them
abbrev pub Encloses : ℕ → ℕ → Toks → Type 0
Encloses c d q = (s : Toks) (at : ℕ) → Condition d s → Operands c (q ++ (s ++ (at, token.Mark mark.Close) ∷ []))

-- with two branches after them
abbrev pub Chooses : ℕ → ℕ → Toks → Type 0
Chooses c d q = (s t : Toks) (at : ℕ) → Condition d s → Condition d t → Condition c (q ++ (s ++ (at, token.Mark mark.Colon) ∷ t))

-- with a last branch after them
abbrev pub Continues : ℕ → ℕ → Toks → Type 0
Continues c d q = (s : Toks) → Condition d s → Condition c (q ++ s)

-- a front of a text of n levels, after which a condition of d levels stands, by what is open there
pub data Opened (n : ℕ) : Kind → List Open → ℕ → Toks → Type 0 where
  nothing : {d : ℕ} {front : Toks} → d ≡ n → front ≡ [] → Opened n expression [] d front
  value : {d : ℕ} {front : Toks} (at b : ℕ) (name : List ℕ) (u : Toks) (xs : List Assigned)
      → d ≡ n → front ≡ u ++ target at name ∷ sets b ∷ [] → Ended n u xs → Opened n assignments (assigned_value ∷ []) d front
  inside : {m c d : ℕ} {k : List Open} {base front : Toks} {g : Kind} (q : Toks)
      → Opened n g k c base → c ≡ suc (m + d) → front ≡ base ++ q → Encloses c d q → Opened n g (in_parentheses m ∷ k) d front
  first : {c d : ℕ} {k : List Open} {base front : Toks} {g : Kind} (q : Toks)
      → Opened n g k c base → c ≡ suc d → front ≡ base ++ q → Chooses c d q → Opened n g (first_branch ∷ k) d front
  last : {c d : ℕ} {k : List Open} {base front : Toks} {g : Kind} (q : Toks)
      → Opened n g k c base → c ≡ suc d → front ≡ base ++ q → Continues c d q → Opened n g (last_branch ∷ k) d front

abbrev pub this : ℕ → Placed
this at = (at, token.This)

abbrev pub dot : ℕ → Placed
dot at = (at, token.Mark mark.Dot)

abbrev pub id : ℕ → Placed
id at = (at, token.Name (codes "id"))

abbrev pub properties : ℕ → Placed
properties at = (at, token.Name (codes "properties"))

abbrev pub bracket : ℕ → Placed
bracket at = (at, token.Mark mark.OpenBracket)

abbrev pub end : ℕ → Placed
end at = (at, token.Mark mark.CloseBracket)

-- what was read of this.id and this.properties["name"] at a place within
pub data Member : Place → Toks → Type 0 where
  a_this : (at : ℕ) → Member after_this (this at ∷ [])
  a_dot : (at b : ℕ) → Member after_dot (this at ∷ dot b ∷ [])
  a_properties : (at b c : ℕ) → Member after_properties (this at ∷ dot b ∷ properties c ∷ [])
  a_bracket : (at b c d : ℕ) → Member after_bracket (this at ∷ dot b ∷ properties c ∷ bracket d ∷ [])
  a_name : (at b c d e : ℕ) (s : List ℕ) → Member after_name (this at ∷ dot b ∷ properties c ∷ bracket d ∷ (e, token.Text s) ∷ [])

-- a front of a text of n levels, at a place
pub data At (n : ℕ) : Kind → Place → List Open → Toks → Type 0 where
  at_operand : {m b c : ℕ} {k : List Open} {base front : Toks} {g : Kind} (p : Toks)
      → Opened n g k c base → c ≡ m + b → front ≡ base ++ p → Begins c b p → At n g (operand m) k front
  at_operator : {c : ℕ} {k : List Open} {base front : Toks} {g : Kind} (s : Toks)
      → Opened n g k c base → front ≡ base ++ s → Operands c s → At n g operator k front
  at_member : {b c : ℕ} {k : List Open} {base front : Toks} {g : Kind} (place : Place) (p w : Toks)
      → Opened n g k c base → front ≡ base ++ (p ++ w) → Begins c b p → Member place w → At n g place k front
  at_first : {front : Toks} → front ≡ [] → At n assignments first_target [] front
  at_next : {front : Toks} (u : Toks) (xs : List Assigned) → front ≡ u → Ended n u xs → Text assignments n u → At n assignments next_target [] front
  at_target : {front : Toks} (at : ℕ) (name : List ℕ) (u : Toks) (xs : List Assigned)
      → front ≡ u ++ target at name ∷ [] → Ended n u xs → At n assignments after_target [] front

pub levels_are : {n d : ℕ} {k : List Open} {front : Toks} {g : Kind} → Opened n g k d front → levels k + d ≡ n
levels_are (nothing e f) = omega arith
levels_are (value at b name u xs e f h) = omega arith
levels_are (inside q o e f h) = omega (arith, levels_are o)
levels_are (first q o e f h) = omega (arith, levels_are o)
levels_are (last q o e f h) = omega (arith, levels_are o)

-- ---- each front begins a whole text

a_name_there : (b : ℕ) → Operand b ((0, token.Name []) ∷ [])
a_name_there b = (column 0 [], atom (leaf refl))

a_branch : (n : ℕ) → Condition n ((0, token.Name []) ∷ [])
a_branch n = condition_of n ((0, token.Name []) ∷ []) (operands_of n ((0, token.Name []) ∷ []) (a_name_there n))

-- what is open is closed
pub finished : {n d : ℕ} {k : List Open} {base : Toks} {g : Kind} → Opened n g k d base → (s : Toks) → Condition d s → Goes g n (base ++ s)
finished {n} (nothing {front = front} e f) s c =
    ([], (c.0, subst (λ (z : Toks). Cond n z c.0) (sym (append-nil (front ++ s) ∙ ap (λ (z : Toks). z ++ s) f)) (subst (λ (x : ℕ). Cond x s c.0) e c.1)))
finished {n} (value {front = front} at b name u xs e f h) s c =
    let same : u ++ target at name ∷ sets b ∷ s ≡ front ++ s = rw f (simp append_assoc) in
    ([], subst (Text assignments n) (same ∙ sym (append-nil (front ++ s))) (assigned_text n at b name u s xs h (subst (λ (x : ℕ). Condition x s) e c)))
finished {n} {g = kind} (inside {c = c} {base = base} {front = front} q o e f h) s cs =
    let text : Toks = q ++ (s ++ (0, token.Mark mark.Close) ∷ []) in
    let r : Goes kind n (base ++ text) = finished o text (condition_of c text (h s 0 cs)) in
    let same : (base ++ text) ++ r.0 ≡ (front ++ s) ++ (0, token.Mark mark.Close) ∷ r.0 = rw f (simp append_assoc) in
    ((0, token.Mark mark.Close) ∷ r.0, subst (Text kind n) same r.1)
finished {n} {g = kind} (first {d = d} {base = base} {front = front} q o e f h) s cs =
    let branch : Toks = (0, token.Name []) ∷ [] in
    let text : Toks = q ++ (s ++ (0, token.Mark mark.Colon) ∷ branch) in
    let r : Goes kind n (base ++ text) = finished o text (h s branch 0 cs (a_branch d)) in
    let same : (base ++ text) ++ r.0 ≡ (front ++ s) ++ (0, token.Mark mark.Colon) ∷ (branch ++ r.0) = rw f (simp append_assoc) in
    ((0, token.Mark mark.Colon) ∷ (branch ++ r.0), subst (Text kind n) same r.1)
finished {n} {g = kind} (last {base = base} {front = front} q o e f h) s cs =
    let r : Goes kind n (base ++ (q ++ s)) = finished o (q ++ s) (h s cs) in
    let same : (base ++ (q ++ s)) ++ r.0 ≡ (front ++ s) ++ r.0 = rw f (simp append_assoc) in
    (r.0, subst (Text kind n) same r.1)

-- with operands after what was open
operands_finish : {n c : ℕ} {k : List Open} {base : Toks} {g : Kind} (front more : Toks) → Opened n g k c base → (s : Toks) → Operands c s → base ++ s ≡ front ++ more → Goes g n front
operands_finish {n} {c} {base = base} {g = kind} front more o s h e =
    let r : Goes kind n (base ++ s) = finished o s (condition_of c s h) in
    (more ++ r.0, subst (Text kind n) (ap (λ (z : Toks). z ++ r.0) e ∙ append_assoc front more r.0) r.1)

member_ends : {place : Place} {w : Toks} (b : ℕ) → Member place w → (more : Toks) × Operand b (w ++ more)
member_ends b (a_this at) = (dot 0 ∷ id 0 ∷ [], (feature_number, atom this_id))
member_ends b (a_dot at x) = (id 0 ∷ [], (feature_number, atom this_id))
member_ends b (a_properties at x y) = (bracket 0 ∷ (0, token.Text []) ∷ end 0 ∷ [], (column at [], atom this_property))
member_ends b (a_bracket at x y z) = ((0, token.Text []) ∷ end 0 ∷ [], (column at [], atom this_property))
member_ends b (a_name at x y z v s) = (end 0 ∷ [], (column at s, atom this_property))

pub goes_on_there : {n : ℕ} {p : Place} {k : List Open} {front : Toks} {g : Kind} → At n g p k front → Goes g n front
goes_on_there (at_operand {b = b} {base = base} {front = front} p o e f h) =
    let branch : Toks = (0, token.Name []) ∷ [] in
    operands_finish front branch o (p ++ branch) (h branch (a_name_there b)) (rw f (simp append_assoc))
goes_on_there (at_operator {base = base} {front = front} s o f h) = operands_finish front [] o s h (sym (append-nil front ∙ f))
goes_on_there (at_member {b = b} {base = base} {front = front} place p w o f h m) =
    let r : (more : Toks) × Operand b (w ++ more) = member_ends b m in
    operands_finish front r.0 o (p ++ (w ++ r.0)) (h (w ++ r.0) r.1) (rw f (simp append_assoc))
goes_on_there {n} (at_first {front = front} f) =
    let text : Toks = target 0 [] ∷ sets 0 ∷ (0, token.Name []) ∷ [] in
    let same : [] ++ text ≡ front ++ text = rw f refl in
    (text, subst (Text assignments n) same (assigned_text n 0 0 [] [] ((0, token.Name []) ∷ []) [] nothing_yet (a_branch n)))
goes_on_there {n} (at_next {front = front} u xs f h t) = ([], subst (Text assignments n) (sym (append-nil front ∙ f)) t)
goes_on_there {n} (at_target {front = front} at name u xs f h) =
    let more : Toks = sets 0 ∷ (0, token.Name []) ∷ [] in
    let same : u ++ target at name ∷ more ≡ front ++ more = rw f (simp append_assoc) in
    (more, subst (Text assignments n) same (assigned_text n at 0 name u ((0, token.Name []) ∷ []) xs h (a_branch n)))

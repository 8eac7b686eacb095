-- Assignments: the machine goes over them, and their parts join.
use Rattle.std.proofs.Common.{ℕ, suc, ◌≡◌, inl, inr, Bool, true, false, List, [], ◌∷◌, ◌++◌, length, ◌==◌, None, refl, ap, ◌∙◌, sym, subst, append_assoc, arith, append-nil}
use Rattle.std.proofs.lemmas.Bool.Decides.{nat_tests}
use Rattle.expr_lang.specs.declared.token.Mark.TheVariants as mark
use Rattle.expr_lang.specs.declared.token.Token.{Token}
use Rattle.expr_lang.specs.declared.token.Token.TheVariants as token
use Rattle.expr_lang.specs.declared.parser.Misfit.{Misfit}
use Rattle.expr_lang.specs.declared.parser.Misfit.TheVariants.{Unfit}
use Rattle.std.proofs.lemmas.List.{map-append}
use Rattle.expr_lang.specs.declared.assign.Assign.{Assign}
use Rattle.expr_lang.specs.Tree.{Tree, Assigned, assigned, all_assigned}
use Rattle.expr_lang.specs.Grammar.{Placed, Toks, Cond, OneAssign, becomes, Assigns, last_assign, ended_assign, more_assigns}
use Rattle.expr_lang.specs.Machine.{Open, operand, operator, first_target, next_target, after_target, assigned_value, run, accepted, stopped, step}
use Rattle.expr_lang.specs.Reading.{Spot, Passes, Breaks, Some_tree, raised, plainly, before, past, before_assign, after_assign, EndsLevel, NextIsNot, IsMark, IsAName, AssignEnds}
use Rattle.expr_lang.proofs.Runs.{moves, stops}
use Rattle.expr_lang.proofs.Parts.{passes_then, passes_at, breaks_at, breaks_then, breaks_here}
use Rattle.expr_lang.proofs.Steps.{level-small}
use Rattle.expr_lang.proofs.Raised.{one_more_cond}
use Rattle.expr_lang.proofs.Accepts.{cond_runs}
use Rattle.expr_lang.proofs.Operands.{nothing, no_tree, cond_sample}
use Rattle.expr_lang.proofs.Stops.{Follows}
use Rattle.expr_lang.proofs.Wholes.{StuckAt, breaks_stuck, left_stuck, whole_tree}

abbrev pub target : ℕ → List ℕ → Placed
target at name = (at, token.Name name)

abbrev pub sets : ℕ → Placed
sets at = (at, token.Mark mark.Becomes)

abbrev pub semicolon : ℕ → Placed
semicolon at = (at, token.Mark mark.Semicolon)

-- the value of an assignment is open
abbrev pub value : List Open
value = assigned_value ∷ []

-- ---- the machine accepts them

assign_runs : {n : ℕ} {s : Toks} {a : Assigned} → OneAssign n s a → (rest : Toks) → EndsLevel 7 rest → run n first_target [] (s ++ rest) ≡ run n operator value rest
assign_runs {n} (becomes {at = at} {b = b} {name = name} {s = s} h) rest q =
    moves n first_target [] (target at name) (sets b ∷ (s ++ rest)) after_target [] refl
    ∙ moves n after_target [] (sets b) (s ++ rest) (operand 0) value refl
    ∙ cond_runs h n value rest (omega arith) q

-- where tokens follow, a place after a semicolon is as one at the beginning
next_as_first : (d : ℕ) (ts : Toks) → (t : Placed) × (us : Toks) × (ts ≡ t ∷ us) → run d next_target [] ts ≡ run d first_target [] ts
unfolding run
next_as_first d [] h = let e = h.2 in cc
next_as_first d (t ∷ ts) h = refl

assigns_begin : {n : ℕ} {s : Toks} {xs : List Assigned} → Assigns n s xs → (t : Placed) × (us : Toks) × (s ≡ t ∷ us)
assigns_begin (last_assign (becomes h)) = (_, _, refl)
assigns_begin (ended_assign at (becomes h)) = (_, _, refl)
assigns_begin (more_assigns at (becomes h) g) = (_, _, refl)

semicolon_runs : (n at : ℕ) (ts : Toks) → run n operator value (semicolon at ∷ ts) ≡ run n next_target [] ts
semicolon_runs n at ts = moves n operator value (semicolon at) ts next_target [] refl

accepts : {n : ℕ} {s : Toks} {xs : List Assigned} → Assigns n s xs → run n first_target [] s ≡ accepted
unfolding run
accepts {n} (last_assign {s = s} h) = ap (run n first_target []) (sym (append-nil s)) ∙ assign_runs h [] tt
accepts {n} (ended_assign at h) = assign_runs h (semicolon at ∷ []) (omega arith) ∙ semicolon_runs n at []
accepts {n} (more_assigns at {t = t} h g) = assign_runs h (semicolon at ∷ t) (omega arith) ∙ semicolon_runs n at t ∙ next_as_first n t (assigns_begin g) ∙ accepts g

pub assigns_accepted : (n : ℕ) (s : Toks) (xs : List Assigned) → Assigns n s xs → run n first_target [] s ≡ accepted
assigns_accepted n s xs h = accepts h

one_more_assign : {n : ℕ} {s : Toks} {a : Assigned} → OneAssign n s a → OneAssign (suc n) s a
one_more_assign (becomes h) = becomes (one_more_cond h)

one_more_assigns : {n : ℕ} {s : Toks} {xs : List Assigned} → Assigns n s xs → Assigns (suc n) s xs
one_more_assigns (last_assign h) = last_assign (one_more_assign h)
one_more_assigns (ended_assign at h) = ended_assign at (one_more_assign h)
one_more_assigns (more_assigns at h g) = more_assigns at (one_more_assign h) (one_more_assigns g)

pub assigns_follow : Follows Assigns first_target
assigns_follow = record { accepts = assigns_accepted; raises = λ n s xs h. one_more_assigns h }

-- ---- assignments, each with its semicolon

pub data Ended : ℕ → Toks → List Assigned → Type 0 where
  nothing_yet : {n : ℕ} → Ended n [] []
  and_one : {n : ℕ} (at : ℕ) {s t : Toks} {a : Assigned} {xs : List Assigned} → Ended n s xs → OneAssign n t a → Ended n (s ++ (t ++ semicolon at ∷ [])) (xs ++ a ∷ [])

raise_ended : (b : Bool) {n : ℕ} {s : Toks} {xs : List Assigned} → Ended n s xs → Ended (raised b n) s xs
raise_ended false h = h
raise_ended true nothing_yet = nothing_yet
raise_ended true (and_one at h o) = and_one at (raise_ended true h) (one_more_assign o)

ended_on : {n : ℕ} {s : Toks} {xs : List Assigned} → Ended n s xs → (u : Toks) (ys : List Assigned) → Assigns n u ys → Assigns n (s ++ u) (xs ++ ys)
ended_on nothing_yet u ys g = g
ended_on {n} (and_one at {s = s} {t = t} {a = a} {xs = xs} h o) u ys g =
    let joined : s ++ (t ++ semicolon at ∷ u) ≡ (s ++ (t ++ semicolon at ∷ [])) ++ u = sym (append_assoc s (t ++ semicolon at ∷ []) u ∙ ap (λ (z : Toks). s ++ z) (append_assoc t (semicolon at ∷ []) u)) in
    subst (λ (z : Toks). Assigns n z ((xs ++ a ∷ []) ++ ys)) joined
    (subst (λ (z : List Assigned). Assigns n (s ++ (t ++ semicolon at ∷ u)) z) (sym (append_assoc xs (a ∷ []) ys)) (ended_on h (t ++ semicolon at ∷ u) (a ∷ ys) (more_assigns at o g)))

-- ---- one assignment

abbrev at_target : Unit {0} → Spot
at_target i = record { deepest = 64; place = after_target; open_there = [] }

abbrev at_value : Unit {0} → Spot
at_value i = plainly before 64 value

to_target : (at : ℕ) (name : List ℕ) (old new : Toks) → old ≡ target at name ∷ new → Passes (λ (z : Toks). z ≡ target at name ∷ []) (before_assign 64) at_target old new
to_target at name old new e = record {
  reads = (target at name ∷ [], e, refl);
  runs = λ i. ap (run 64 first_target []) e ∙ moves 64 first_target [] (target at name) new after_target [] refl;
}

to_value : (at b : ℕ) (name : List ℕ) (old mid new : Toks) → old ≡ target at name ∷ mid → mid ≡ sets b ∷ new → Passes (λ (z : Toks). z ≡ target at name ∷ sets b ∷ []) (before_assign 64) at_value old new
to_value at b name old mid new e g = record {
  reads = (target at name ∷ sets b ∷ [], e ∙ ap (λ (z : Toks). target at name ∷ z) g, refl);
  runs = λ i. ap (run 64 first_target []) e ∙ moves 64 first_target [] (target at name) mid after_target [] refl ∙ ap (run 64 after_target []) g ∙ moves 64 after_target [] (sets b) new (operand 0) value refl;
}

target-none : (t : Token) → (IsAName t → ⊥) → step 64 first_target [] t ≡ None
target-none (token.Name s) h = absurd (h (s, refl))
target-none _ h = refl

becomes-none : (t : Token) → (IsMark mark.Becomes t → ⊥) → step 64 after_target [] t ≡ None
becomes-none (token.Mark mark.Becomes) h = absurd (h refl)
becomes-none _ h = refl

target_stops : (ts : Toks) → NextIsNot IsAName ts → run 64 first_target [] ts ≡ stopped Unfit ts
unfolding run
target_stops [] h = refl
target_stops ((at, t) ∷ ts) h = stops 64 first_target [] (at, t) ts (target-none t (h at t ts refl))

becomes_stops : (ts : Toks) → NextIsNot (IsMark mark.Becomes) ts → run 64 after_target [] ts ≡ stopped Unfit ts
unfolding run
becomes_stops [] h = refl
becomes_stops ((at, t) ∷ ts) h = stops 64 after_target [] (at, t) ts (becomes-none t (h at t ts refl))

pub no_target : (f : Misfit) (old new : Toks) → (f ≡ Unfit) × (new ≡ old) × NextIsNot IsAName old → Breaks (Some_tree OneAssign 64) (before_assign 64) f old new
no_target f old new h =
    subst (λ (f : Misfit). Breaks (Some_tree OneAssign 64) (before_assign 64) f old new) (sym h.0)
    (breaks_here (Some_tree OneAssign 64) h.1 (target 0 [] ∷ sets 0 ∷ nothing ∷ [], (([], no_tree), becomes (cond_sample 64))) (λ i. target_stops old h.2))

pub no_becomes : (at : ℕ) (name : List ℕ) (f : Misfit) (old mid new : Toks) → old ≡ target at name ∷ mid → (f ≡ Unfit) × (new ≡ mid) × NextIsNot (IsMark mark.Becomes) mid → Breaks (Some_tree OneAssign 64) (before_assign 64) f old new
no_becomes at name f old mid new e h =
    subst (λ (f : Misfit). Breaks (Some_tree OneAssign 64) (before_assign 64) f old new) (sym h.0) (breaks_then (Some_tree OneAssign 64) (to_target at name old mid e) here join)
  where
    Rest : Bool → Toks → Type 0
    Rest b z = z ≡ sets 0 ∷ nothing ∷ []

    here : Breaks Rest at_target Unfit mid new
    here = breaks_here Rest h.1 (sets 0 ∷ nothing ∷ [], refl) (λ i. becomes_stops mid h.2)

    join : (b : Bool) (x y : Toks) → x ≡ target at name ∷ [] → Rest b y → (more : Toks) × Some_tree OneAssign 64 b (x ++ (y ++ more))
    join b x y o g = (
      [],
      (
        (name, no_tree),
        subst (λ (x : Toks). OneAssign (raised b 64) (x ++ (y ++ [])) (name, no_tree)) (sym o) (subst (λ (y : Toks). OneAssign (raised b 64) (target at name ∷ (y ++ [])) (name, no_tree)) (sym g) (becomes (cond_sample (raised b 64)))),
      ),
    )

pub value_breaks : (at b : ℕ) (name : List ℕ) (f : Misfit) (old mid mid' new : Toks) → old ≡ target at name ∷ mid → mid ≡ sets b ∷ mid' → Breaks (Some_tree Cond 64) (plainly before 64) f mid' new → Breaks (Some_tree OneAssign 64) (before_assign 64) f old new
value_breaks at i name f old mid mid' new e g h = breaks_then (Some_tree OneAssign 64) (to_value at i name old mid mid' e g) (breaks_at (λ (i : Unit {0}). value) h) join
  where
    join : (b : Bool) (x y : Toks) → x ≡ target at name ∷ sets i ∷ [] → Some_tree Cond 64 b y → (more : Toks) × Some_tree OneAssign 64 b (x ++ (y ++ more))
    join b x y o c = (
      [],
      (
        (name, c.0),
        subst (λ (x : Toks). OneAssign (raised b 64) (x ++ (y ++ [])) (name, c.0)) (sym o) (subst (λ (y : Toks). OneAssign (raised b 64) (target at name ∷ sets i ∷ y) (name, c.0)) (sym (append-nil y)) (becomes c.1)),
      ),
    )

pub assign_passes : (at b : ℕ) (name : List ℕ) (x : Tree) (old mid mid' new : Toks) → old ≡ target at name ∷ mid → mid ≡ sets b ∷ mid' → Passes (λ (z : Toks). Cond 64 z x) (plainly before 64) (plainly past 64) mid' new → Passes (λ (z : Toks). OneAssign 64 z (name, x)) (before_assign 64) (after_assign 64) old new
assign_passes at i name x old mid mid' new e g h =
    passes_then (λ (z : Toks). OneAssign 64 z (name, x)) (to_value at i name old mid mid' e g) (passes_at (λ (i : Unit {0}). value) h)
    (λ p q o c. subst (λ (p : Toks). OneAssign 64 (p ++ q) (name, x)) (sym o) (becomes c))

-- ---- one after another

pub ends_at_semicolon : (b : Bool) (at : ℕ) (old new : Toks) → old ≡ semicolon at ∷ new → b ≡ (length new == 0) → AssignEnds b old new
ends_at_semicolon true at old [] e h = inr (at, e)
ends_at_semicolon true at old (t ∷ ts) e h = absurd (grind (arith, nat_tests))
ends_at_semicolon false at old [] e h = absurd (grind (arith, nat_tests))
ends_at_semicolon false at old (t ∷ ts) e h = (at, e, t, ts, refl)

-- another token than a semicolon comes next
abbrev pub IsAnother : Misfit → Toks → Toks → Type 0
IsAnother f old new = (f ≡ Unfit) × (new ≡ old) × (t : Placed) × (ts : Toks) × (old ≡ t ∷ ts) × (IsMark mark.Semicolon t.1 → ⊥)

pub another : (f : Misfit) (old new : Toks) → (new ≡ old) × NextIsNot (IsMark mark.Semicolon) old → (f ≡ Unfit) × (t : Placed) × (ts : Toks) × (new ≡ t ∷ ts) → IsAnother f old new
another f old new a h = (h.0, a.0, h.1, h.2, sym a.0 ∙ h.3, a.1 h.1.0 h.1.1 h.2 (sym a.0 ∙ h.3))

pub begun : (old : Toks) → Passes (λ (z : Toks). Ended 64 z []) (before_assign 64) (before_assign 64) old old
begun old = record { reads = ([], refl, nothing_yet); runs = λ i. refl }

pub assigns_break : (xs : List Assigned) (f : Misfit) (old mid new : Toks) → Passes (λ (z : Toks). Ended 64 z xs) (before_assign 64) (before_assign 64) old mid → Breaks (Some_tree OneAssign 64) (before_assign 64) f mid new → StuckAt Assigns f old new
assigns_break xs f old mid new h g = breaks_stuck Assigns first_target assigns_follow (before_assign 64) tt (λ ts. refl) f old new (breaks_then (Some_tree Assigns 64) h g join)
  where
    join : (b : Bool) (x y : Toks) → Ended 64 x xs → Some_tree OneAssign 64 b y → (more : Toks) × Some_tree Assigns 64 b (x ++ (y ++ more))
    join b x y o c = ([], (xs ++ c.0 ∷ [], subst (λ (y : Toks). Assigns (raised b 64) (x ++ y) (xs ++ c.0 ∷ [])) (sym (append-nil y)) (ended_on (raise_ended b o) y (c.0 ∷ []) (last_assign c.1))))

all_pass : (xs : List Assigned) (a : Assigned) (old mid new : Toks) → Passes (λ (z : Toks). Ended 64 z xs) (before_assign 64) (before_assign 64) old mid → Passes (λ (z : Toks). OneAssign 64 z a) (before_assign 64) (after_assign 64) mid new
    → Passes (λ (z : Toks). Assigns 64 z (xs ++ a ∷ [])) (before_assign 64) (after_assign 64) old new
all_pass xs a old mid new h g = passes_then (λ (z : Toks). Assigns 64 z (xs ++ a ∷ [])) h g (λ x y o c. ended_on o y (a ∷ []) (last_assign c))

value_stops : (d : ℕ) (at : ℕ) (t : Token) (us : Toks) → EndsLevel 7 ((at, t) ∷ us) → (IsMark mark.Semicolon t → ⊥) → run d operator value ((at, t) ∷ us) ≡ stopped Unfit ((at, t) ∷ us)
unfolding run
value_stops d at (token.Operator o) us q h = absurd (omega (arith, q, level-small o))
value_stops d at (token.Mark mark.Question) us q h = absurd (omega (arith, q))
value_stops d at (token.Mark mark.Semicolon) us q h = absurd (h refl)
value_stops d at _ us q h = refl

pub assigns_left : (xs : List Assigned) (a : Assigned) (old mid new us : Toks) (t : Placed) → Passes (λ (z : Toks). Ended 64 z xs) (before_assign 64) (before_assign 64) old mid → Passes (λ (z : Toks). OneAssign 64 z a) (before_assign 64) (after_assign 64) mid new
    → EndsLevel 7 new → new ≡ t ∷ us → (IsMark mark.Semicolon t.1 → ⊥) → StuckAt Assigns Unfit old new
assigns_left xs a old mid new us t h g q e o =
    left_stuck Assigns first_target assigns_follow (before_assign 64) (after_assign 64) tt (λ ts. refl) (xs ++ a ∷ []) old new (all_pass xs a old mid new h g)
    (ap (run 64 operator value) e ∙ value_stops 64 t.0 t.1 us (subst (EndsLevel 7) e q) o ∙ ap (stopped Unfit) (sym e))

pub assigns_whole : (xs : List Assigned) (a : Assigned) (old mid new after : Toks) → Passes (λ (z : Toks). Ended 64 z xs) (before_assign 64) (before_assign 64) old mid → Passes (λ (z : Toks). OneAssign 64 z a) (before_assign 64) (after_assign 64) mid new
    → AssignEnds true new after → Assigns 64 old (xs ++ a ∷ [])
assigns_whole xs a old mid new after h g (inl e) = whole_tree Assigns (before_assign 64) (after_assign 64) (xs ++ a ∷ []) old new (all_pass xs a old mid new h g) e
assigns_whole xs a old mid new after h g (inr e) =
    subst (λ (z : Toks). Assigns 64 z (xs ++ a ∷ [])) (sym (h.reads.1 ∙ ap (λ (z : Toks). h.reads.0 ++ z) (g.reads.1 ∙ ap (λ (z : Toks). g.reads.0 ++ z) e.1))) (ended_on h.reads.2 (g.reads.0 ++ semicolon e.0 ∷ []) (a ∷ []) (ended_assign e.0 g.reads.2))

pub assigns_next : (xs : List Assigned) (a : Assigned) (old mid new after : Toks) → Passes (λ (z : Toks). Ended 64 z xs) (before_assign 64) (before_assign 64) old mid → Passes (λ (z : Toks). OneAssign 64 z a) (before_assign 64) (after_assign 64) mid new
    → AssignEnds false new after → Passes (λ (z : Toks). Ended 64 z (xs ++ a ∷ [])) (before_assign 64) (before_assign 64) old after
assigns_next xs a old mid new after h g e =
    let s : Toks = h.reads.0 in
    let t : Toks = g.reads.0 in
    record {
      reads = (
        s ++ (t ++ semicolon e.0 ∷ []),
        h.reads.1 ∙ ap (λ (z : Toks). s ++ z) (g.reads.1 ∙ ap (λ (z : Toks). t ++ z) e.1 ∙ sym (append_assoc t (semicolon e.0 ∷ []) after)) ∙ sym (append_assoc s (t ++ semicolon e.0 ∷ []) after),
        and_one e.0 h.reads.2 g.reads.2,
      );
      runs = λ i. h.runs i ∙ g.runs i ∙ ap (run 64 operator value) e.1 ∙ semicolon_runs 64 e.0 after ∙ next_as_first 64 after (e.2, e.3, e.4);
    }

-- with one assignment more
pub assigned_more : (list longer : List Assign) (item : Assign) → longer ≡ list ++ item ∷ [] → all_assigned list ++ assigned item ∷ [] ≡ all_assigned longer
assigned_more list longer item e = sym (ap all_assigned e ∙ map-append assigned list (item ∷ []))

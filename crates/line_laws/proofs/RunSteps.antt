-- The steps of arcs that follow each other, joined, are the steps of the arcs.
use Rattle.std.proofs.Common.{◌≡◌, refl, sym, ap, ◌∙◌, subst, arith, ℕ, zero, suc, ◌-◌, ◌<◌, Bool, true, false, cond, List, [], ◌∷◌, ◌++◌, length, All, append_assoc, append-nil}
use Rattle.std.specs.List.{flat_map}
use Rattle.std.proofs.lemmas.List.Elements.{All-nil, All-cons, All-head, All-tail, All-append}
use Rattle.lists.specs.Lists.{without_last}
use Rattle.plane_model.specs.Points.{Segment, Path}
use Rattle.plane_model.specs.Drawing.{steps}
use Rattle.plane_model.specs.Arcs.{SignedArc, joined_points, points_of}
use Rattle.arc_table.specs.Direction.{point_at}
use Rattle.arc_table.proofs.FoundArcs.{steps_over}
use Rattle.line_ops.specs.Runs.{ended, runs_after}
use Rattle.line_laws.specs.Linked.{AreLinked}

-- ---- steps that follow each other

abbrev pub IsChain : List Segment → Type 0
IsChain [] = Unit {0}
IsChain (s ∷ []) = Unit {0}
IsChain (s ∷ t ∷ rest) = (s.stop ≡ t.start) × IsChain (t ∷ rest)

pub steps_chain : (path : Path) → IsChain (steps path)
steps_chain [] = tt
steps_chain (p ∷ []) = tt
steps_chain (p ∷ q ∷ []) = tt
steps_chain (p ∷ q ∷ r ∷ rest) = (refl, steps_chain (q ∷ r ∷ rest))

-- the first of two paths ends where the second starts, if their steps follow each other
chain_over : (P Q : Path) (more : List Segment) (t : ℕ) → suc t ≡ length P → 1 < length P → 1 < length Q → IsChain (steps P ++ (steps Q ++ more)) → (point_at P t ≡ point_at Q 0) × IsChain (steps Q ++ more)
chain_over [] Q more t size l m h = absurd (omega arith)
chain_over (p ∷ []) Q more t size l m h = absurd (omega arith)
chain_over (p ∷ q ∷ rest) [] more t size l m h = absurd (omega arith)
chain_over (p ∷ q ∷ rest) (x ∷ []) more t size l m h = absurd (omega arith)
chain_over (p ∷ q ∷ []) (x ∷ y ∷ Q) more t size l m h = (ap (point_at (p ∷ q ∷ [])) (let e : t ≡ 1 = omega arith in e) ∙ h.0, h.1)
chain_over (p ∷ q ∷ r ∷ rest) (x ∷ y ∷ Q) more zero size l m h = absurd (omega arith)
chain_over (p ∷ q ∷ r ∷ rest) (x ∷ y ∷ Q) more (suc t) size l m h = chain_over (q ∷ r ∷ rest) (x ∷ y ∷ Q) more t (omega arith) (omega arith) m h.1

-- ---- paths joined

first_kept : (P Q : Path) → 1 < length P → (point_at (without_last P ++ Q) 0 ≡ point_at P 0) × (0 < length (without_last P ++ Q))
first_kept [] Q l = absurd (omega arith)
first_kept (p ∷ []) Q l = absurd (omega arith)
first_kept (p ∷ q ∷ rest) Q l = (refl, omega arith)

-- ---- arcs that follow each other

module _ (arcs : List Path) where
  abbrev pub last_point : SignedArc → ℕ
  last_point a = length (points_of arcs a) - 1

  abbrev pub steps_along : SignedArc → List Segment
  steps_along a = steps (points_of arcs a)

  first_long : (a : SignedArc) (rest : List SignedArc) → AreLinked arcs (a ∷ rest) → 1 < length (points_of arcs a)
  first_long a [] h = h
  first_long a (b ∷ rest) h = h.0

  joined_first : (a : SignedArc) (rest : List SignedArc) → AreLinked arcs (a ∷ rest) → (point_at (joined_points arcs (a ∷ rest)) 0 ≡ point_at (points_of arcs a) 0) × (0 < length (joined_points arcs (a ∷ rest)))
  joined_first a [] h = (refl, let l : 1 < length (points_of arcs a) = h in omega arith)
  joined_first a (b ∷ rest) h = first_kept (points_of arcs a) (joined_points arcs (b ∷ rest)) h.0

  pub linked_steps : (run : List SignedArc) → AreLinked arcs run → steps (joined_points arcs run) ≡ flat_map steps_along run
  linked_steps [] h = refl
  linked_steps (a ∷ []) h = sym (append-nil (steps_along a))
  linked_steps (a ∷ b ∷ rest) h =
      let P = points_of arcs a in
      let l : 1 < length (points_of arcs a) = h.0 in
      let first = joined_first b rest h.2 in
      steps_over P (joined_points arcs (b ∷ rest)) (last_point a) (omega arith) first.1 (h.1 ∙ sym first.0)
      ∙ ap (λ (ss : List Segment). steps_along a ++ ss) (linked_steps (b ∷ rest) h.2)

  pub chain_linked : (named : List SignedArc) → All (λ a. 1 < length (points_of arcs a)) named → IsChain (flat_map steps_along named) → AreLinked arcs named
  chain_linked [] long h = tt
  chain_linked (a ∷ []) long h = All-head (λ b. 1 < length (points_of arcs b)) a [] long
  chain_linked (a ∷ b ∷ rest) long h =
      let later = All-tail (λ c. 1 < length (points_of arcs c)) a (b ∷ rest) long in
      let l : 1 < length (points_of arcs a) = All-head (λ c. 1 < length (points_of arcs c)) a (b ∷ rest) long in
      let m : 1 < length (points_of arcs b) = All-head (λ c. 1 < length (points_of arcs c)) b rest later in
      let on = chain_over (points_of arcs a) (points_of arcs b) (flat_map steps_along rest) (last_point a) (omega arith) l m h in
      (l, on.0, chain_linked (b ∷ rest) later on.1)

  -- ---- runs of them

  linked_before : (xs ys : List SignedArc) → AreLinked arcs (xs ++ ys) → AreLinked arcs xs
  linked_before [] ys h = tt
  linked_before (x ∷ []) ys h = first_long x ys h
  linked_before (x ∷ y ∷ xs) ys h = (h.0, h.1, linked_before (y ∷ xs) ys h.2)

  linked_after : (x : SignedArc) (xs ys : List SignedArc) → AreLinked arcs ((x ∷ xs) ++ ys) → AreLinked arcs ys
  linked_after x [] [] h = tt
  linked_after x [] (y ∷ ys) h = h.2
  linked_after x (y ∷ xs) ys h = linked_after y xs ys h.2

  linked_rest : (xs : List SignedArc) (x : SignedArc) (ys : List SignedArc) → AreLinked arcs (xs ++ x ∷ ys) → AreLinked arcs ys
  linked_rest [] x ys h = linked_after x [] ys h
  linked_rest (y ∷ xs) x ys h = linked_rest xs x ys (linked_after y [] (xs ++ x ∷ ys) h)

  ended_linked : (begun : List SignedArc) → AreLinked arcs begun → All (AreLinked arcs) (ended begun)
  ended_linked [] h = All-nil (AreLinked arcs)
  ended_linked (x ∷ xs) h = All-cons (AreLinked arcs) (x ∷ xs) [] h (All-nil (AreLinked arcs))

  either : (b : Bool) (rs ss : List (List SignedArc)) → All (AreLinked arcs) rs → All (AreLinked arcs) ss → All (AreLinked arcs) (cond b rs ss)
  either true rs ss p q = p
  either false rs ss p q = q

  pub runs_linked : (test : SignedArc → Bool) (xs begun : List SignedArc) → AreLinked arcs (begun ++ xs) → All (AreLinked arcs) (runs_after test begun xs)
  runs_linked test [] begun h = ended_linked begun (subst (AreLinked arcs) (append-nil begun) h)
  runs_linked test (x ∷ xs) begun h =
      either (test x) (runs_after test (begun ++ x ∷ []) xs) (ended begun ++ runs_after test [] xs)
      (runs_linked test xs (begun ++ x ∷ []) (subst (AreLinked arcs) (sym (append_assoc begun (x ∷ []) xs)) h))
      (All-append (AreLinked arcs) (ended begun) (runs_after test [] xs) (ended_linked begun (linked_before begun (x ∷ xs) h)) (runs_linked test xs [] (linked_rest begun x xs h)))

-- Two right answers about a plane tell the same of all that commands ask.
use Rattle.std.proofs.Common.{◌≡◌, ◌↔◌, inl, inr, refl, sym, ap, subst, ℕ, ◌<◌, arith, Bool, true, false, Option, Some, None, Contains}
use Rattle.std.specs.Prelude.{if◌then◌else◌, unwrap_or}
use Rattle.std.proofs.Math.Path.{fun_ext}
use Rattle.std.proofs.lemmas.Bool.{cases_lt}
use Rattle.plane_model.specs.Points.{GridPoint, Segment, is_before, reversed}
use Rattle.plane_model.specs.Boundary.{boundary_step}
use Rattle.plane_model.proofs.PointOrder.{clash, is_before-IsStrictOrder}
use Rattle.region_model.specs.Region.{Region}
use Rattle.region_model.specs.Answers.{Answers, AreRight, Plane, boundary}
use Rattle.region_model.specs.LineCommands.{on_left, on_right}
use Rattle.outcome_laws.specs.Laws.{IsAlong}
use Rattle.outcome_laws.proofs.Every.{Every, SameAt, every_from, every_kept, same_kept}
use Rattle.outcome_laws.proofs.ArcSteps.{along_back}
use Rattle.outcome_laws.proofs.Planes.{GoesUp, IsVertex, IsWalked}

-- two answers that tell the same of the plane
pub record AreAlike (P : Plane) (A B : Answers) : Type 0 where
  pub boundaries : boundary P A ≡ boundary P B
  pub parts : A.parts ≡ B.parts
  pub gaps : A.gaps ≡ B.gaps
  pub left : (r : Region) (s : Segment) → IsAlong P.links s → on_left A r s ≡ on_left B r s
  pub inside : (r : Region) (p : GridPoint) → IsVertex P p → A.inside r p ≡ B.inside r p

-- answers are like themselves
pub alike_itself : (P : Plane) (A : Answers) → AreAlike P A A
alike_itself P A = record { boundaries = refl; parts = refl; gaps = refl; left = λ r s a. refl; inside = λ r p c. refl }

-- answers that are true of the same are one
one_bool : {Q : Type 0} (a b : Bool) → (a ≡ true) ↔ Q → (b ≡ true) ↔ Q → a ≡ b
one_bool true true h g = refl
one_bool true false h g = sym (g.1 (h.0 refl))
one_bool false true h g = h.1 (g.0 refl)
one_bool false false h g = refl

one_count : (m n : ℕ) → ((j : ℕ) → (j < m) ↔ (j < n)) → m ≡ n
one_count m n h = elim (cases_lt m n) [
  | inl l ↦ absurd (let f : m < m = (h m).1 l in omega arith)
  | inr l ↦ elim (cases_lt n m) [ inl k ↦ absurd (let f : n < n = (h n).0 k in omega arith) | inr k ↦ omega arith ]
]

module _ (P : Plane) (A B : Answers) (walked : IsWalked P) (right : AreRight P A) (right' : AreRight P B) where
  left_same : (r : Region) (l : Segment) → Contains P.links l → A.left r l ≡ B.left r l
  left_same r l c = one_bool (A.left r l) (B.left r l) ((right.sides r).left_side l c) ((right'.sides r).left_side l c)

  right_same : (r : Region) (l : Segment) → Contains P.links l → A.right r l ≡ B.right r l
  right_same r l c = one_bool (A.right r l) (B.right r l) ((right.sides r).right_side l c) ((right'.sides r).right_side l c)

  on_left_same : (r : Region) (s : Segment) → IsAlong P.links s → on_left A r s ≡ on_left B r s
  on_left_same r s (inl c) = go (is_before s.start s.stop) refl (walked.up s c)
    where
      go : (b : Bool) → is_before s.start s.stop ≡ b → GoesUp s → (if b then A.left r s else A.right r (reversed s)) ≡ (if b then B.left r s else B.right r (reversed s))
      go true e u = left_same r s c
      go false e (inl u) = clash (is_before s.start s.stop) u e
      go false e (inr u) = right_same r (reversed s) (subst (Contains P.links) (sym u) c)
  on_left_same r s (inr c) = go (is_before s.start s.stop) refl (walked.up (reversed s) c)
    where
      go : (b : Bool) → is_before s.start s.stop ≡ b → GoesUp (reversed s) → (if b then A.left r s else A.right r (reversed s)) ≡ (if b then B.left r s else B.right r (reversed s))
      go false e u = right_same r (reversed s) c
      go true e (inl u) = absurd (is_before-IsStrictOrder.irreflexive s.start (is_before-IsStrictOrder.trans s.start s.stop s.start e u))
      go true e (inr u) = left_same r s (subst (Contains P.links) (sym u) c)

  boundary_same : (r : Region) → boundary P A r ≡ boundary P B r
  boundary_same r = same_kept (λ (l : Segment). boundary_step (A.left r l) (A.right r l) l) (λ (l : Segment). boundary_step (B.left r l) (B.right r l) l) P.links
      (every_from (SameAt (λ (l : Segment). boundary_step (A.left r l) (A.right r l) l) (λ (l : Segment). boundary_step (B.left r l) (B.right r l) l)) P.links (λ l c i. boundary_step (left_same r l c i) (right_same r l c i) l))

  pub alike : AreAlike P A B
  alike = record {
    boundaries = fun_ext boundary_same;
    parts = fun_ext (λ r. one_count (A.parts r) (B.parts r) (λ j. ((λ l. (right'.parts r j).1 ((right.parts r j).0 l)), (λ l. (right.parts r j).1 ((right'.parts r j).0 l)))));
    gaps = fun_ext (λ rs. one_count (A.gaps rs) (B.gaps rs) (λ j. ((λ l. (right'.gaps rs j).1 ((right.gaps rs j).0 l)), (λ l. (right.gaps rs j).1 ((right'.gaps rs j).0 l)))));
    left = on_left_same;
    inside = λ r p c. one_bool (A.inside r p) (B.inside r p) (right.inside r p c) (right'.inside r p c);
  }

-- so they tell the same of right sides
pub right_alike : (P : Plane) (A B : Answers) → AreAlike P A B → (r : Region) (s : Segment) → IsAlong P.links s → on_right A r s ≡ on_right B r s
right_alike P A B alike r s a = alike.left r (reversed s) (along_back P.links s a)

-- the steps of a boundary go along links
pub boundary_along : (P : Plane) (A : Answers) (r : Region) → Every (IsAlong P.links) (boundary P A r)
boundary_along P A r = every_kept (Contains P.links) (IsAlong P.links) (λ (l : Segment). boundary_step (A.left r l) (A.right r l) l) (λ l s c. go (A.left r l) (A.right r l) l s c) P.links (every_from (Contains P.links) P.links (λ l c. c))
  where
    got : {x y : Segment} → Some x ≡ Some y → x ≡ y
    got {x} e = ap (λ (o : Option Segment). unwrap_or o x) e

    go : (a b : Bool) (l s : Segment) → Contains P.links l → boundary_step a b l ≡ Some s → IsAlong P.links s
    go true true l s c e = absurd (let none : None ≡ Some s = e in cc)
    go true false l s c e = inl (subst (Contains P.links) (got e) c)
    go false true l s c e = inr (subst (Contains P.links) (ap reversed (got e)) c)
    go false false l s c e = absurd (let none : None ≡ Some s = e in cc)

-- The topmost link below a point: of one link more, and of the same links in another order.
use Rattle.std.proofs.Common.{◌≡◌, inl, inr, refl, sym, ◌∙◌, subst, nat_eq, Bool, true, false, not, ◌&&◌, List, [], ◌∷◌, ◌++◌, get_or, Option, Some, None, Contains, All, IfSome, IsPermutation}
use Rattle.std.specs.List.{list_any}
use Rattle.std.proofs.Math.Bool.{Bool-set}
use Rattle.std.proofs.Math.Logic.{∥∥₁_elim}
use Rattle.std.proofs.lemmas.Bool.{and_parts, and_from, eq-eqb, eqb-true}
use Rattle.std.proofs.lemmas.List.Elements.{All-contains, Contains-append_left, Contains-append_right, Contains-append_cases}
use Rattle.std.proofs.lemmas.List.Folds.{list_any_at}
use Rattle.std.proofs.lemmas.List.Sorted.{Contains-permutation, IsPermutation-sym}
use Rattle.std.proofs.lemmas.Map.Views.{Contains-from_any}
use Rattle.lists.proofs.Members.{Contains-head, Contains-nil, Contains-cases}
use Rattle.plane_model.specs.Points.{GridPoint, at, same_point, same_segment}
use Rattle.plane_model.specs.Parity.{is_below}
use Rattle.plane_model.specs.Below.{is_under}
use Rattle.plane_model.proofs.PointOrder.{same_point_from, same_point_to}
use Rattle.link_search.specs.Descent.{IsNotAbove, IsFound, IsBelowPoint, IsUpper}
use Rattle.link_search.specs.Topmost.{IsTopmostBelow}
use Rattle.link_search.specs.declared.links.ArcLink.{ArcLink}
use Rattle.link_search.proofs.RayLemmas.{IsKnown, found_after, is_topmost}

pub topmost_of_none : (p : GridPoint) → IsTopmostBelow [] p None
topmost_of_none p = λ k c. Contains-nil k c

pub topmost_is_below : (links : List ArcLink) (p : GridPoint) (o : Option ArcLink) → IsTopmostBelow links p o → IsBelowPoint p o
topmost_is_below links p None t = tt
topmost_is_below links p (Some l) t = t.below

-- what holds of all links holds of the topmost one
pub topmost_has : (P : ArcLink → Type 0) (links : List ArcLink) (p : GridPoint) (o : Option ArcLink) → All P links → IsTopmostBelow links p o → IfSome o P
topmost_has P links p None h t = tt
topmost_has P links p (Some l) h t = All-contains P links l h t.there

-- ---- one link more

pub upper_is_below : (p : GridPoint) (topmost : Option ArcLink) (l : ArcLink) (result : Option ArcLink) → IsBelowPoint p topmost → IsUpper p topmost l result → IsBelowPoint p result
upper_is_below p topmost l result b u = elim u.one [
  | inl e ↦ subst (IsBelowPoint p) (sym e) b
  | inr e ↦ subst (IsBelowPoint p) (sym e.0) e.1
]

known_of : (links : List ArcLink) (p : GridPoint) (o : Option ArcLink) → IsTopmostBelow links p o → IsKnown links p o
known_of links p None t = λ k c b. absurd (let g : true ≡ false = sym b ∙ t k c in cc)
known_of links p (Some l) t = t.topmost

pub upper_is_topmost : (links : List ArcLink) (p : GridPoint) (topmost : Option ArcLink) (l : ArcLink) (result : Option ArcLink) → IsTopmostBelow links p topmost → IsUpper p topmost l result → IsTopmostBelow (links ++ l ∷ []) p result
upper_is_topmost links p topmost l result t u =
    is_topmost (links ++ l ∷ []) p result
    (found_after (links ++ l ∷ []) p topmost l result (Contains-append_right links (l ∷ []) l (Contains-head l [])) u (found topmost t))
    (λ k c b. elim (Contains-append_cases links (l ∷ []) k c) [
      | inl d ↦ u.kept k b (known_of links p topmost t k d b)
      | inr d ↦ elim (Contains-cases l [] k d) [
        | inl e ↦ subst (λ (m : ArcLink). IsNotAbove p m result) e (u.this (subst (λ (m : ArcLink). is_below (at p) m.link ≡ true) (sym e) b))
        | inr n ↦ Contains-nil k n
      ]
    ])
  where
    found : (o : Option ArcLink) → IsTopmostBelow links p o → IsFound (links ++ l ∷ []) p o
    found None t = tt
    found (Some k) t = (Contains-append_left links (l ∷ []) k t.there, t.below)

-- ---- the same links in another order

abbrev same_way : Bool → Bool → Bool
same_way true b = b
same_way false b = not b

same_way_from : (a b : Bool) → same_way a b ≡ true → a ≡ b
same_way_from true true e = refl
same_way_from true false e = absurd (let g : false ≡ true = e in cc)
same_way_from false true e = absurd (let g : false ≡ true = e in cc)
same_way_from false false e = refl

same_way_to : (a : Bool) → same_way a a ≡ true
same_way_to true = refl
same_way_to false = refl

abbrev same_link : ArcLink → ArcLink → Bool
same_link k l = same_segment k.link l.link && (nat_eq k.along.arc l.along.arc && same_way k.along.is_reversed l.along.is_reversed)

same_link_from : (k l : ArcLink) → same_link k l ≡ true → k ≡ l
same_link_from k l e =
    let h = and_parts (same_segment k.link l.link) (nat_eq k.along.arc l.along.arc && same_way k.along.is_reversed l.along.is_reversed) e in
    let ends = and_parts (same_point k.link.start l.link.start) (same_point k.link.stop l.link.stop) h.0 in
    let way = and_parts (nat_eq k.along.arc l.along.arc) (same_way k.along.is_reversed l.along.is_reversed) h.1 in
    let start = same_point_from k.link.start l.link.start ends.0 in
    let stop = same_point_from k.link.stop l.link.stop ends.1 in
    let arc = eqb-true k.along.arc l.along.arc way.0 in
    let is_reversed = same_way_from k.along.is_reversed l.along.is_reversed way.1 in
    λ i. record { link = record { start = start i; stop = stop i }; along = record { arc = arc i; is_reversed = is_reversed i } }

same_link_to : (k l : ArcLink) → k ≡ l → same_link k l ≡ true
same_link_to k l e =
    subst (λ (m : ArcLink). same_link k m ≡ true) e
    (and_from (same_segment k.link k.link) (nat_eq k.along.arc k.along.arc && same_way k.along.is_reversed k.along.is_reversed)
    (and_from (same_point k.link.start k.link.start) (same_point k.link.stop k.link.stop) (same_point_to k.link.start k.link.start refl) (same_point_to k.link.stop k.link.stop refl))
    (and_from (nat_eq k.along.arc k.along.arc) (same_way k.along.is_reversed k.along.is_reversed) (eq-eqb k.along.arc k.along.arc refl) (same_way_to k.along.is_reversed)))

-- links can be looked for, so one that merely is there is found
there_of : (links : List ArcLink) (l : ArcLink) {P : Type 0} → ∥ P ∥₁ → (P → Contains links l) → Contains links l
there_of links l h f = Contains-from_any same_link_from l links (∥∥₁_elim h (Bool-set (list_any (same_link l) links) true) (λ x. found (f x)))
  where
    found : Contains links l → list_any (same_link l) links ≡ true
    found c = list_any_at (same_link l) links c.0 l c.1 (same_link_to l (get_or links c.0 l) (sym c.2))

pub topmost_in_any_order : (xs ys : List ArcLink) (p : GridPoint) (o : Option ArcLink) {P : Type 0} → ∥ P ∥₁ → (P → IsPermutation xs ys) → IsTopmostBelow xs p o → IsTopmostBelow ys p o
topmost_in_any_order xs ys p None h moved t = λ k c. ∥∥₁_elim h (Bool-set (is_below (at p) k.link) false) (λ x. t k (Contains-permutation ys xs k (IsPermutation-sym xs ys (moved x)) c))
topmost_in_any_order xs ys p (Some l) h moved t = record {
  there = there_of ys l h (λ x. Contains-permutation xs ys l (moved x) t.there);
  below = t.below;
  topmost = λ k c b. ∥∥₁_elim h (Bool-set (is_under (at p) k.link l.link) false) (λ x. t.topmost k (Contains-permutation ys xs k (IsPermutation-sym xs ys (moved x)) c) b);
}

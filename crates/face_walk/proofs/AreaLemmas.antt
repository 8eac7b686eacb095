-- Twice the area along paths: step by step, backwards, and arc by arc.
use Rattle.std.proofs.Common.{◌≡◌, refl, sym, ap, ◌∙◌, subst, arith, ℕ, zero, suc, ◌+◌, ◌-◌, ◌<◌, ℤ, pos, ◌+ℤ◌, ◌-ℤ◌, ◌*ℤ◌, Bool, true, false, cond, List, [], ◌∷◌, ◌++◌, length, get_or, take, append-nil}
use Rattle.std.specs.List.{flat_map}
use Rattle.std.specs.Prelude.{reverse}
use Rattle.std.proofs.lemmas.Int.{ints}
use Rattle.std.proofs.lemmas.Grind.{flat_map-append}
use Rattle.std.proofs.lemmas.List.{take_more, reverse-append}
use Rattle.plane_algebra.proofs.Ring.{ring, ◌⊟◌, ◌⊠◌, num, ◌≐◌}
use Rattle.plane_model.specs.Points.{GridPoint, Segment, Path}
use Rattle.plane_model.specs.Drawing.{steps}
use Rattle.plane_model.specs.Arcs.{SignedArc, points_of}
use Rattle.plane_model.specs.Boundary.{twice_area}
use Rattle.face_walk.specs.Areas.{area_along, area_within}

-- the triangle from the origin to p and q
abbrev pub turn : GridPoint → GridPoint → ℤ
turn p q = p.x *ℤ q.y -ℤ p.y *ℤ q.x

pub area_append : (xs ys : List Segment) → twice_area (xs ++ ys) ≡ twice_area xs +ℤ twice_area ys
area_append [] ys = omega (arith, ints)
area_append (s ∷ xs) ys = let e = area_append xs ys in let t = turn s.start s.stop in omega (arith, ints)

-- one step more
pub area_more : (path : Path) (p q : GridPoint) → area_along ((path ++ p ∷ []) ++ q ∷ []) ≡ area_along (path ++ p ∷ []) +ℤ turn p q
area_more [] p q = omega (arith, ints)
area_more (a ∷ []) p q = omega (arith, ints)
area_more (a ∷ b ∷ rest) p q = let e = area_more (b ∷ rest) p q in omega (arith, ints)

-- as far as a place of the path
pub area_taken : (path : Path) (i : ℕ) (d : GridPoint) → 0 < i → i < length path → area_along (take (i + 1) path) ≡ area_along (take i path) +ℤ turn (get_or path (i - 1) d) (get_or path i d)
area_taken path zero d some l = absurd (omega arith)
area_taken path (suc i) d some l =
    subst (λ (k : ℕ). area_along (take (suc i + 1) path) ≡ area_along (take (suc i) path) +ℤ turn (get_or path k d) (get_or path (suc i) d)) (let e : i ≡ suc i - 1 = omega arith in e)
    (ap area_along (take_more path (suc i) d l) ∙ ap (λ (xs : Path). area_along (xs ++ get_or path (suc i) d ∷ [])) one ∙ area_more (take i path) (get_or path i d) (get_or path (suc i) d)
    ∙ sym (ap (λ (xs : Path). area_along xs +ℤ turn (get_or path i d) (get_or path (suc i) d)) one))
  where
    one : take (suc i) path ≡ take i path ++ get_or path i d ∷ []
    one = subst (λ (k : ℕ). take k path ≡ take i path ++ get_or path i d ∷ []) (let e : i + 1 ≡ suc i = omega arith in e) (take_more path i d (omega arith))

turned_back : (p q : GridPoint) → turn q p ≡ pos 0 -ℤ turn p q
turned_back p q = ring 4 (λ qx qy px py. qx ⊠ py ⊟ qy ⊠ px ≐ num (pos 0) ⊟ (px ⊠ qy ⊟ py ⊠ qx)) tt q.x q.y p.x p.y

-- backwards, the area is turned
pub area_reversed : (path : Path) → area_along (reverse path) ≡ pos 0 -ℤ area_along path
area_reversed [] = refl
area_reversed (p ∷ []) = refl
area_reversed (p ∷ q ∷ rest) =
    let r : reverse (q ∷ rest) ≡ reverse rest ++ q ∷ [] = reverse-append (q ∷ []) rest in
    let all : reverse (p ∷ q ∷ rest) ≡ (reverse rest ++ q ∷ []) ++ p ∷ [] = reverse-append (p ∷ []) (q ∷ rest) ∙ ap (λ (xs : Path). xs ++ p ∷ []) r in
    let e : area_along (reverse rest ++ q ∷ []) ≡ pos 0 -ℤ area_along (q ∷ rest) = sym (ap area_along r) ∙ area_reversed (q ∷ rest) in
    let t = turned_back p q in
    ap area_along all ∙ area_more (reverse rest) q p ∙ (omega (arith, ints))

-- of a signed arc, by the points of its arc
pub area_of_signed : (arcs : List Path) (a : SignedArc) (points : Path) → points ≡ get_or arcs a.arc [] → area_along (points_of arcs a) ≡ cond a.is_reversed (pos 0 -ℤ area_along points) (area_along points)
area_of_signed arcs a points is = go a.is_reversed
  where
    go : (b : Bool) → area_along (cond b (reverse (get_or arcs a.arc [])) (get_or arcs a.arc [])) ≡ cond b (pos 0 -ℤ area_along points) (area_along points)
    go true = area_reversed (get_or arcs a.arc []) ∙ ap (λ (xs : Path). pos 0 -ℤ area_along xs) (sym is)
    go false = ap area_along (sym is)

-- one signed arc more
pub area_within_more : (arcs : List Path) (along : List SignedArc) (i : ℕ) (d : SignedArc) → i < length along →
    area_within arcs (take (i + 1) along) ≡ area_within arcs (take i along) +ℤ area_along (points_of arcs (get_or along i d))
area_within_more arcs along i d l =
    let steps_of : SignedArc → List Segment = λ (a : SignedArc). steps (points_of arcs a) in
    ap (λ (xs : List SignedArc). twice_area (flat_map steps_of xs)) (take_more along i d l)
    ∙ ap twice_area (flat_map-append steps_of (take i along) (get_or along i d ∷ []) ∙ ap (λ (xs : List Segment). flat_map steps_of (take i along) ++ xs) (append-nil (steps_of (get_or along i d))))
    ∙ area_append (flat_map steps_of (take i along)) (steps_of (get_or along i d))

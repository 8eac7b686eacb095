-- Steps of items, put after one another path by path and item by item.
use Rattle.std.proofs.Common.{◌≡◌, inl, inr, refl, sym, ap, subst, ◌∙◌, arith, ℕ, ◌+◌, ◌<◌, ◌≤◌, true, false, Some, List, [], ◌∷◌, ◌++◌, length, get_or, map, take, append-nil, length-append}
use Rattle.std.specs.Prelude.{slice_get}
use Rattle.std.specs.Ordering.{nat_cmp, is_lt, ordering_then}
use Rattle.std.specs.Cmp.{nat_cmp_is}
use Rattle.std.specs.declared.cmp.Ordering.TheVariants.{Less}
use Rattle.std.specs.List.Sorted.{IsSorted, IsNonDecreasingBy}
use Rattle.std.proofs.lemmas.Bool.{cases_lt}
use Rattle.std.proofs.lemmas.Option.{get_or_from_slice_get, slice_get_within}
use Rattle.std.proofs.lemmas.List.{append_assoc, map-append, length-map, take_more}
use Rattle.std.proofs.lemmas.List.Sorted.{IsNonDecreasingBy-from_all_adjacent}
use Rattle.lists.specs.Lists.{joined_up}
use Rattle.plane_model.specs.Points.{Path}
use Rattle.plane_model.specs.Arcs.{SignedArc}
use Rattle.plane_model.specs.Drawing.{Polygon}
use Rattle.arc_table.specs.PathArcs.{AreArcsAlong}
use Rattle.face_walk.specs.RingSteps.{AreArcsOfAll, step_along, AreAdded, AreStepsFrom, owners_from}
use Rattle.face_walk.specs.declared.ring_steps.RingStep.{RingStep}

-- one path more
arcs_more : (arcs : List Path) (paths more : List Path) (named next : List SignedArc) → AreArcsOfAll arcs paths named → AreArcsOfAll arcs more next → AreArcsOfAll arcs (paths ++ more) (named ++ next)
arcs_more arcs [] more named next h w = subst (AreArcsOfAll arcs more) (ap (λ (xs : List SignedArc). xs ++ next) (sym h)) w
arcs_more arcs (path ∷ paths) more named next h w =
    (h.0, h.1 ++ next, h.2, arcs_more arcs paths more h.1 next h.3 w, ap (λ (xs : List SignedArc). xs ++ next) h.4 ∙ append_assoc h.0 h.1 next)

pub arcs_of_one : (arcs : List Path) (path : Path) (named : List SignedArc) → AreArcsAlong arcs path named → AreArcsOfAll arcs (path ∷ []) named
arcs_of_one arcs path named h = (named, [], h, refl, sym (append-nil named))

pub added_more : (arcs : List Path) (i : ℕ) (paths more : List Path) (old mid new : List RingStep) → AreAdded arcs i paths old mid → AreAdded arcs i more mid new → AreAdded arcs i (paths ++ more) old new
added_more arcs i paths more old mid new h w = (
  h.0 ++ w.0,
  arcs_more arcs paths more h.0 w.0 h.1 w.1,
  w.2 ∙ ap (λ (xs : List RingStep). xs ++ map (step_along i) w.0) h.2 ∙ append_assoc old (map (step_along i) h.0) (map (step_along i) w.0) ∙ ap (λ (xs : List RingStep). old ++ xs) (sym (map-append (step_along i) h.0 w.0)),
)

-- one item more
pub steps_more : (arcs : List Path) (n : ℕ) (items : List (List Path)) (paths : List Path) (old new : List RingStep) (m : ℕ) → m ≡ n + length items → AreStepsFrom arcs n items old → AreAdded arcs m paths old new → AreStepsFrom arcs n (items ++ paths ∷ []) new
steps_more arcs n [] paths old new m e h w =
    let same : m ≡ n = omega arith in
    (w.0, [], w.1, refl, w.2 ∙ (λ i. h i ++ map (step_along (same i)) w.0) ∙ sym (append-nil (map (step_along n) w.0)))
steps_more arcs n (first ∷ items) paths old new m e h w =
    let past : AreAdded arcs m paths h.1 (h.1 ++ map (step_along m) w.0) = (w.0, w.1, refl) in (
      h.0,
      h.1 ++ map (step_along m) w.0,
      h.2,
      steps_more arcs (n + 1) items paths h.1 (h.1 ++ map (step_along m) w.0) m (omega arith) h.3 past,
      w.2 ∙ ap (λ (xs : List RingStep). xs ++ map (step_along m) w.0) h.4 ∙ append_assoc (map (step_along n) h.0) h.1 (map (step_along m) w.0),
    )

-- ---- the first elements of a list

pub take_item : {X : Type 0} (xs : List X) (k : ℕ) (x : X) → k < length xs → get_or xs k x ≡ x → take (k + 1) xs ≡ take k xs ++ x ∷ []
take_item {X} xs k x l e = take_more xs k x l ∙ ap (λ (y : X). take k xs ++ y ∷ []) e

pub take_found : {X : Type 0} (xs : List X) (k : ℕ) (x : X) → slice_get xs k ≡ Some x → take (k + 1) xs ≡ take k xs ++ x ∷ []
take_found xs k x e = take_item xs k x (slice_get_within xs k x e) (get_or_from_slice_get xs k x x e)

-- ---- polygons, feature by feature

pub item_number : {X : Type 0} (old owners : List ℕ) (before polygons : List X) (feature : ℕ) (k : ℕ) → owners ≡ old ++ map (λ (p : X). feature) (take k polygons) → length old ≡ length before → length owners ≡ 0 + length (before ++ take k polygons)
item_number {X} old owners before polygons feature k e counted =
    let a = ap (λ (xs : List ℕ). length xs) e in
    let b = length-append old (map (λ (p : X). feature) (take k polygons)) in
    let c = length-map (take k polygons) (λ (p : X). feature) in
    let d = length-append before (take k polygons) in
    omega arith

pub owners_counted : (n : ℕ) (features : List (List Polygon)) → length (owners_from n features) ≡ length (joined_up features)
owners_counted n [] = refl
owners_counted n (polygons ∷ features) =
    let a = length-append (map (λ (p : Polygon). n) polygons) (owners_from (n + 1) features) in
    let b = length-map polygons (λ (p : Polygon). n) in
    let c = length-append polygons (joined_up features) in
    let d = owners_counted (n + 1) features in
    omega arith

pub owners_more : (n : ℕ) (features : List (List Polygon)) (polygons : List Polygon) (m : ℕ) → m ≡ n + length features → owners_from n (features ++ polygons ∷ []) ≡ owners_from n features ++ map (λ (p : Polygon). m) polygons
owners_more n [] polygons m e = let same : n ≡ m = omega arith in append-nil (map (λ (p : Polygon). n) polygons) ∙ (λ i. map (λ (p : Polygon). same i) polygons)
owners_more n (first ∷ features) polygons m e =
    ap (λ (xs : List ℕ). map (λ (p : Polygon). n) first ++ xs) (owners_more (n + 1) features polygons m (omega arith))
    ∙ sym (append_assoc (map (λ (p : Polygon). n) first) (owners_from (n + 1) features) (map (λ (p : Polygon). m) polygons))

pub joined_more : {X : Type 0} (xss : List (List X)) (xs : List X) → joined_up (xss ++ xs ∷ []) ≡ joined_up xss ++ xs
joined_more [] xs = append-nil xs
joined_more {X} (ys ∷ xss) xs = ap (λ (zs : List X). ys ++ zs) (joined_more xss xs) ∙ sym (append_assoc ys (joined_up xss) xs)

-- ---- steps in order

pub arcs_in_order : (steps : List RingStep) → IsSorted (λ (a : RingStep) (b : RingStep). ordering_then (nat_cmp a.arc b.arc) (nat_cmp a.item b.item)) steps → IsNonDecreasingBy (λ (s : RingStep). s.arc) steps
arcs_in_order steps h = IsNonDecreasingBy-from_all_adjacent (λ (s : RingStep). s.arc) steps (λ k d l. go (get_or steps k d) (get_or steps (k + 1) d) (h k d (omega arith) l))
  where
    go : (a b : RingStep) → is_lt (ordering_then (nat_cmp b.arc a.arc) (nat_cmp b.item a.item)) ≡ false → a.arc ≤ b.arc
    go a b e = elim (cases_lt b.arc a.arc) [
      | inl l ↦ absurd (let f : true ≡ false = (λ i. is_lt (ordering_then (nat_cmp_is b.arc a.arc Less l i) (nat_cmp b.item a.item))) ∙ e in cc)
      | inr l ↦ l
    ]

-- A segment and its edge meet the same pixels, cross the same segments there, and have the same ends.
use Rattle.std.proofs.Common.{◌≡◌, inl, inr, refl, sym, ap, ◌∙◌, subst, ℕ, ◌+◌, ◌<◌, true, List, [], ◌∷◌, ◌++◌, length, get_or, take, Contains, Some, ℤ, pos, ◌-ℤ◌, ◌*ℤ◌, neg_ℤ}
use Rattle.std.proofs.lemmas.List.{take_more}
use Rattle.std.proofs.lemmas.List.Elements.{Contains-append_left, Contains-append_right, Contains-append_cases}
use Rattle.lists.proofs.Members.{Contains-head, Contains-nil, Contains-cases}
use Rattle.plane_algebra.proofs.Ring.{ring, ◌⊞◌, ◌⊟◌, ◌⊠◌, num, ◌≐◌}
use Rattle.plane_algebra.proofs.Order.{order}
use Rattle.plane_model.specs.Points.{GridPoint, RationalPoint, Segment, SameWay, IsOn, at, turn, step_x, step_y, cross, reversed}
use Rattle.plane_model.specs.Pixel.{meets, crossing_pixel}
use Rattle.plane_snapping.proofs.CrossingComputed.{crossing_is_computed}
use Rattle.plane_snapping.proofs.MeetsComputed.{meets_is_computed}
use Rattle.hot_pixels.specs.Edges.{IsEdgeOf, AreEdgesOf, IsEdgeAdded}
use Rattle.hot_pixels.specs.Marking.{IsEndOf, MeetsEndsAlone}
use Rattle.hot_pixels.proofs.CrossingLemmas.{crossing_turned}

-- ---- back along a segment

back_turn : (u v r : RationalPoint) → turn u v r ≡ pos 0 → turn v u r ≡ pos 0
back_turn u v r e =
    let f : turn v u r ≡ pos 0 -ℤ turn u v r =
    ring 9 (λ a b c d e f g h i. (e ⊠ c ⊟ b ⊠ f) ⊠ g ⊞ (a ⊠ f ⊟ d ⊠ c) ⊠ h ⊞ (d ⊠ b ⊟ e ⊠ a) ⊠ i ≐ num (pos 0) ⊟ ((b ⊠ f ⊟ e ⊠ c) ⊠ g ⊞ (d ⊠ c ⊟ a ⊠ f) ⊠ h ⊞ (a ⊠ e ⊟ b ⊠ d) ⊠ i)) tt u.X u.Y u.W v.X v.Y v.W r.X r.Y r.W in
    f ∙ ap (λ (z : ℤ). pos 0 -ℤ z) e

back_way : (a b c d : ℤ) → c ≡ neg_ℤ b → d ≡ neg_ℤ a → SameWay a b → SameWay c d
back_way a b c d e f (inl h) = let p = h.0 in let q = h.1 in inr (omega order, omega order)
back_way a b c d e f (inr h) = let p = h.0 in let q = h.1 in inl (omega order, omega order)

step_back : (a b c d : ℤ) → a *ℤ b -ℤ c *ℤ d ≡ neg_ℤ (c *ℤ d -ℤ a *ℤ b)
step_back a b c d = omega order

on_reversed : (s : Segment) (P : RationalPoint) → IsOn s P → IsOn (reversed s) P
on_reversed s P h =
    let u = at s.start in
    let v = at s.stop in
    record {
      collinear = back_turn u v P h.collinear;
      between_x = back_way (step_x u P) (step_x P v) (step_x v P) (step_x P u) (step_back P.X v.W v.X P.W) (step_back u.X P.W P.X u.W) h.between_x;
      between_y = back_way (step_y u P) (step_y P v) (step_y v P) (step_y P u) (step_back P.Y v.W v.Y P.W) (step_back u.Y P.W P.Y u.W) h.between_y;
    }

back_cross : (s t : Segment) → cross (reversed s) t ≡ pos 0 → cross s t ≡ pos 0
back_cross s t e =
    let f : cross s t ≡ pos 0 -ℤ cross (reversed s) t =
    ring 6 (λ a b c d e f. (b ⊟ a) ⊠ f ⊟ (d ⊟ c) ⊠ e ≐ num (pos 0) ⊟ ((a ⊟ b) ⊠ f ⊟ (c ⊟ d) ⊠ e)) tt s.start.x s.stop.x s.start.y s.stop.y (t.stop.x -ℤ t.start.x) (t.stop.y -ℤ t.start.y) in
    f ∙ ap (λ (z : ℤ). pos 0 -ℤ z) e

-- ---- along an edge

pub meets_along : (s e : Segment) (g : GridPoint) → IsEdgeOf s e → meets s g ≡ true → meets e g ≡ true
meets_along s e g (inl h) m = subst (λ (t : Segment). meets t g ≡ true) (sym h) m
meets_along s e g (inr h) m =
    let k = (meets_is_computed s g).0 m in
    subst (λ (t : Segment). meets t g ≡ true) (sym h) ((meets_is_computed (reversed s) g).1 (k.0, on_reversed s k.0 k.1, k.2))

pub meets_back : (s e : Segment) (g : GridPoint) → IsEdgeOf s e → meets e g ≡ true → meets s g ≡ true
meets_back s e g (inl h) m = subst (λ (t : Segment). meets t g ≡ true) h m
meets_back s e g (inr h) m = meets_along (reversed s) s g (inr refl) (subst (λ (t : Segment). meets t g ≡ true) h m)

pub crossing_along : (s e t : Segment) (g : GridPoint) → IsEdgeOf s e → crossing_pixel s t ≡ Some g → crossing_pixel e t ≡ Some g
crossing_along s e t g (inl h) m = subst (λ (u : Segment). crossing_pixel u t ≡ Some g) (sym h) m
crossing_along s e t g (inr h) m =
    let k = (crossing_is_computed s t g).0 m in
    subst (λ (u : Segment). crossing_pixel u t ≡ Some g) (sym h)
    ((crossing_is_computed (reversed s) t g).1 ((λ z. k.0 (back_cross s t z)), (k.1.0, on_reversed s k.1.0 k.1.1, k.1.2, k.1.3)))

pub crossing_along_both : (s e t f : Segment) (g : GridPoint) → IsEdgeOf s e → IsEdgeOf t f → crossing_pixel s t ≡ Some g → crossing_pixel e f ≡ Some g
crossing_along_both s e t f g h k m = crossing_turned f e g (crossing_along t f e g k (crossing_turned e t g (crossing_along s e t g h m)))

pub end_along : (s e : Segment) (g : GridPoint) → IsEdgeOf s e → IsEndOf e g → IsEndOf s g
end_along s e g (inl h) n = subst (λ (t : Segment). IsEndOf t g) h n
end_along s e g (inr h) (inl n) = inr (n ∙ (λ i. (h i).start))
end_along s e g (inr h) (inr n) = inl (n ∙ (λ i. (h i).stop))

pub alone_along : (points : List GridPoint) (s e : Segment) → IsEdgeOf s e → MeetsEndsAlone points e → MeetsEndsAlone points s
alone_along points s e h k = record { others = λ p c m. end_along s e p h (k.others p c (meets_along s e p h m)) }

-- ---- the edges of more and more segments

pub edges_more : (segments old new : List Segment) (k : ℕ) (s : Segment) → k < length segments → s ≡ get_or segments k s → IsEdgeAdded old new s → AreEdgesOf (take k segments) old → AreEdgesOf (take (k + 1) segments) new
edges_more segments old new k s l is h so_far = record {
  from = λ e c. subst (λ (xs : List Segment). Contains xs e) (sym next) (elim (h.from e c) [
    | inl d ↦ Contains-append_left (take k segments) (s ∷ []) e (so_far.from e d)
    | inr d ↦ Contains-append_right (take k segments) (s ∷ []) e (subst (Contains (s ∷ [])) (sym d) (Contains-head s []))
  ]);
  to = λ t c. elim (Contains-append_cases (take k segments) (s ∷ []) t (subst (λ (xs : List Segment). Contains xs t) next c)) [
    | inl d ↦ (let m = so_far.to t d in (m.0, h.kept m.0 m.1, m.2))
    | inr d ↦ elim (Contains-cases s [] t d) [
      | inl same ↦ (h.there.0, h.there.1, subst (λ (u : Segment). IsEdgeOf u h.there.0) same h.there.2)
      | inr none ↦ Contains-nil t none
    ]
  ];
}
  where
    next : take (k + 1) segments ≡ take k segments ++ s ∷ []
    next = take_more segments k s l ∙ ap (λ (x : Segment). take k segments ++ x ∷ []) (sym is)

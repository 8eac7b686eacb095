-- The way of a point down the tree, node by node.
use Rattle.std.proofs.Common.{◌≡◌, refl, sym, ap, ◌∙◌, subst, arith, ℕ, zero, suc, ◌+◌, ◌-◌, ◌<◌, ◌^◌, List, [], ◌∷◌, ◌++◌, length, get_or, map, Option, Some, None}
use Rattle.std.specs.List.{slice_get}
use Rattle.std.proofs.lemmas.Option.{slice_get_within, get_or_from_slice_get}
use Rattle.std.proofs.lemmas.List.{length-map}
use Rattle.plane_model.specs.Points.{GridPoint}
use Rattle.grid_base.specs.Grid.{Corners, IsOnGrid}
use Rattle.bucket_grid.specs.declared.tree.Slabs.{Slabs}
use Rattle.bucket_grid.specs.declared.tree.Node.{Node}
use Rattle.bucket_grid.specs.declared.tree.Node.TheVariants.{Leaf, Split}
use Rattle.bucket_grid.specs.Rects.{IsPlaceOf, Holds, whole, boxes_near}
use Rattle.bucket_grid.specs.Slabs.{along, slab_at}
use Rattle.bucket_grid.specs.Tree.{place_by, place_from, place_under, Grew}
use Rattle.bucket_grid.specs.Leading.{LeadsEach, IsOnWay}
use Rattle.bucket_grid.proofs.Growth.{slice_get-append_right, place_under-more}

module _ (nodes : List Node) (rects : List Corners) (g : GridPoint) where
  -- the node at hand, and what it leads to
  record Here (node step : ℕ) : Type 0 where
    found : Node
    is : slice_get nodes node ≡ Some found
    left : ℕ
    counted : left + (step + 1) ≡ 43
    place : ℕ
    leads : place_by (λ j. place_from left nodes j g) (Some found) g ≡ Some place
    is_place : IsPlaceOf rects g place

  here : (node step : ℕ) → IsOnWay nodes rects g node step → Here node step
  here node step w = go w.left w.counted w.leads
    where
      at_node : (left : ℕ) → suc left + step ≡ 43 → (o : Option Node) → slice_get nodes node ≡ o → place_by (λ j. place_from left nodes j g) o g ≡ Some w.place → Here node step
      at_node left e None h f = absurd (let f' : None ≡ Some w.place = f in cc)
      at_node left e (Some n) h f = record { found = n; is = h; left = left; counted = omega arith; place = w.place; leads = f; is_place = w.is_place }

      go : (left : ℕ) → left + step ≡ 43 → place_from left nodes node g ≡ Some w.place → Here node step
      go zero e f = absurd (let f' : None ≡ Some w.place = f in cc)
      go (suc left) e f = at_node left e (slice_get nodes node) refl f

  pub on_way_within : (node step : ℕ) → IsOnWay nodes rects g node step → node < length nodes
  on_way_within node step w = let h = here node step w in slice_get_within nodes node h.found h.is

  module _ (node step : ℕ) (w : IsOnWay nodes rects g node step) (n : Node) (n_is : n ≡ get_or nodes node n) where
    found_is : (here node step w).found ≡ n
    found_is = let h = here node step w in sym (get_or_from_slice_get nodes node h.found n h.is) ∙ sym n_is

    pub on_way_leaf : (place : ℕ) → n ≡ Leaf place → IsPlaceOf rects g place
    on_way_leaf place e =
        let h = here node step w in
        let f : Some place ≡ Some h.place = ap (λ (m : Node). place_by (λ j. place_from h.left nodes j g) (Some m) g) (sym e ∙ sym found_is) ∙ h.leads in
        let p : h.place ≡ place = cc in
        subst (λ (k : ℕ). IsPlaceOf rects g k) p h.is_place

    pub on_way_slab : (s : Slabs) (children : ℕ) → n ≡ Split s children → IsOnWay nodes rects g (children + (s.last - slab_at s (along s.axis g))) (step + 1)
    on_way_slab s children e =
        let h = here node step w in
        record {
          left = h.left;
          place = h.place;
          counted = h.counted;
          leads = ap (λ (m : Node). place_by (λ j. place_from h.left nodes j g) (Some m) g) (sym e ∙ sym found_is) ∙ h.leads;
          is_place = h.is_place;
        }

-- ---- the whole tree

pub whole_holds : (g : GridPoint) → IsOnGrid g → Holds whole g
whole_holds g h = record { left = h.x_low; right = h.x_high; lower = h.y_low; upper = h.y_high }

pub grown_leads : (boxes : List Corners) (rect : Corners) (nodes all : List Node) (rects : List Corners) (near : List (List ℕ)) (top : Node) (root : ℕ) →
    rect ≡ whole → length rects < 2 ^ 32 → all ≡ nodes ++ top ∷ [] → root ≡ length nodes → Grew 42 boxes (Holds rect) [] nodes [] rects [] near (λ g. top) → LeadsEach all rects near root
grown_leads boxes rect nodes all rects near top root e l a r h = record {
  lists = ap length h.near_are ∙ (let e : length (map (boxes_near boxes) h.more_rects) ≡ length h.more_rects = simp length-map in e) ∙ sym (ap length h.rects_are);
  count = l;
  leads = λ g i.
      (let w = h.leads g (subst (λ (r : Corners). Holds r g) (sym e) (whole_holds g i)) in
      (w.0, way g w.0 (w.1 ∙ ap Some (let n : 0 + w.0 ≡ w.0 = omega arith in n)), subst (λ (a : List Corners). IsPlaceOf a g w.0) (sym h.rects_are) w.2));
}
  where
    way : (g : GridPoint) (k : ℕ) → place_under 42 nodes top g ≡ Some k → place_from 43 all root g ≡ Some k
    way g k f =
        let n : slice_get (nodes ++ top ∷ []) (length nodes + 0) ≡ Some top = slice_get-append_right nodes (top ∷ []) 0 in
        let m : slice_get all root ≡ Some top = ap (λ (x : List Node). slice_get x root) a ∙ ap (λ (j : ℕ). slice_get (nodes ++ top ∷ []) j) (let e : root ≡ length nodes + 0 = omega arith in e) ∙ n in
        ap (λ (o : Option Node). place_by (λ j. place_from 42 all j g) o g) m
        ∙ subst (λ (x : List Node). place_under 42 x top g ≡ Some k) (sym a) (place_under-more 42 nodes (top ∷ []) top g k f)

pub way_begins : (nodes : List Node) (rects : List Corners) (near : List (List ℕ)) (root : ℕ) (g : GridPoint) → LeadsEach nodes rects near root → IsOnGrid g → IsOnWay nodes rects g root 0
way_begins nodes rects near root g h i = let w = h.leads g i in record { left = 43; place = w.0; counted = refl; leads = w.1; is_place = w.2 }

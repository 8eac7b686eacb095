-- The chains of the spots of a drawing have as many links together as its snapped paths.
use Rattle.std.proofs.Common.{◌≡◌, refl, sym, ap, ◌∙◌, arith, ℕ, ◌+◌, ◌-◌, List, [], ◌∷◌, ◌++◌, map, length, Contains, All}
use Rattle.std.specs.Prelude.{sum_by}
use Rattle.std.specs.List.{flat_map}
use Rattle.std.proofs.lemmas.List.Sums.{sum_by-cons, sum_by-append}
use Rattle.std.proofs.lemmas.List.Elements.{Contains-append_left, Contains-append_right, All-contains}
use Rattle.lists.specs.Lists.{drop_repeats, joined_up}
use Rattle.lists.proofs.Members.{Contains-head, Contains-later, Contains-joined_up, Contains-flat_map}
use Rattle.plane_model.specs.Points.{GridPoint, Path, Segment, same_point}
use Rattle.plane_model.specs.Drawing.{Drawing, Polygon, steps, paths_of, rings_of, vertices_of, point_segment}
use Rattle.plane_model.specs.Hot.{hot_points, chain_of}
use Rattle.plane_model.specs.Snapped.{snapped, link_count, counted_links}
use Rattle.plane_snapping.proofs.LinkCount.{links_are_counted, sum_same}
use Rattle.plane_snapping.proofs.SnappedPaths.{path_vertex}
use Rattle.grid_base.specs.Drawn.{HasPaths, IsPath, IsRing}
use Rattle.hot_pixels.specs.Chains.{AreHotPointsOf}
use Rattle.hot_pixels.specs.Spots.{spots_after, path_spots, rings_spots, feature_spots, points_spots, spots_of}
use Rattle.hot_pixels.proofs.ChainLemmas.{chain_is_drawn}
use Rattle.hot_pixels.proofs.SpotLemmas.{spots_are_steps}
use Rattle.snap_round.specs.Counting.{links_along}
use Rattle.snap_round.proofs.ChainEnds.{no_link_in_place}
use Rattle.snap_round.proofs.PathLemmas.{vertex_listed}

-- ---- sums over lists of lists

sum_flat : {A B : Type 0} (g : B → ℕ) (f : A → List B) (xs : List A) → sum_by g (flat_map f xs) ≡ sum_by (λ x. sum_by g (f x)) xs
sum_flat g f [] = refl
sum_flat g f (x ∷ xs) = sum_by-append g (f x) (flat_map f xs) ∙ ap (λ (n : ℕ). sum_by g (f x) + n) (sum_flat g f xs) ∙ sym (sum_by-cons (λ y. sum_by g (f y)) x xs)

sum_joined : {A : Type 0} (g : A → ℕ) (xss : List (List A)) → sum_by g (joined_up xss) ≡ sum_by (sum_by g) xss
sum_joined g [] = refl
sum_joined g (xs ∷ xss) = sum_by-append g xs (joined_up xss) ∙ ap (λ (n : ℕ). sum_by g xs + n) (sum_joined g xss) ∙ sym (sum_by-cons (sum_by g) xs xss)

sum_none : {A : Type 0} (f : A → ℕ) (xs : List A) → ((x : A) → Contains xs x → f x ≡ 0) → sum_by f xs ≡ 0
sum_none f [] h = refl
sum_none f (x ∷ xs) h = let a = sum_by-cons f x xs in let b = h x (Contains-head x xs) in let c = sum_none f xs (λ y k. h y (Contains-later x xs y k)) in omega arith

-- ---- the spots of a drawing

module _ (d : Drawing) (h : HasPaths d) where
  abbrev g : Segment → ℕ
  g s = length (chain_of d s) - 1

  abbrev G : Path → ℕ
  G path = sum_by g (steps (drop_repeats same_point path))

  path_sum : (path : Path) → Contains (paths_of d) path → IsPath path → sum_by g (path_spots path) ≡ G path
  path_sum [] c is = absurd (is.not_empty refl)
  path_sum (p ∷ rest) c is =
      let none : g (point_segment p) ≡ 0 = no_link_in_place (hot_points d) p (vertex_listed d p (path_vertex d (p ∷ rest) p c (Contains-head p rest))) in
      let first = sum_by-cons g (point_segment p) (spots_after p rest) in
      let others : sum_by g (spots_after p rest) ≡ sum_by g (steps (p ∷ rest)) = ap (sum_by g) (spots_are_steps p rest) in
      let same : G (p ∷ rest) ≡ sum_by g (steps (p ∷ rest)) = ap (λ (path : Path). sum_by g (steps path)) is.no_repeats in
      adds (sum_by g (path_spots (p ∷ rest))) (g (point_segment p)) (sum_by g (spots_after p rest)) (sum_by g (steps (p ∷ rest))) (G (p ∷ rest)) first none others same
    where
      adds : (a b c e f : ℕ) → a ≡ b + c → b ≡ 0 → c ≡ e → f ≡ e → a ≡ f
      adds a b c e f k l m n = omega arith

  rings_sum : (rings : List Path) → ((ring : Path) → Contains rings ring → Contains (paths_of d) ring × IsPath ring) → sum_by g (rings_spots rings) ≡ sum_by G rings
  rings_sum rings k = sum_flat g path_spots rings ∙ sum_same (λ path. sum_by g (path_spots path)) G rings (λ ring c. let m = k ring c in path_sum ring m.0 m.1)

  abbrev P : List Path
  P = flat_map rings_of d.polygons

  feature_sum : (feature : List Polygon) → Contains d.polygons feature → sum_by g (feature_spots feature) ≡ sum_by G (rings_of feature)
  feature_sum feature f =
      sum_flat g rings_spots feature
      ∙ sum_same (λ rings. sum_by g (rings_spots rings)) (sum_by G) feature (λ polygon p. rings_sum polygon (λ ring r. (
        Contains-append_left (P ++ joined_up d.lines) d.boxes ring (Contains-append_left P (joined_up d.lines) ring (Contains-flat_map rings_of d.polygons feature ring f (Contains-joined_up feature polygon ring p r))),
        (All-contains IsRing polygon ring (All-contains (All IsRing) feature polygon (All-contains (All (All IsRing)) d.polygons feature h.rings f) p) r).is_path,
      )))
      ∙ sym (sum_joined G feature)

  polygons_sum : sum_by g (flat_map feature_spots d.polygons) ≡ sum_by G P
  polygons_sum =
      sum_flat g feature_spots d.polygons
      ∙ sum_same (λ feature. sum_by g (feature_spots feature)) (λ feature. sum_by G (rings_of feature)) d.polygons feature_sum
      ∙ sym (sum_flat G rings_of d.polygons)

  lines_sum : sum_by g (flat_map rings_spots d.lines) ≡ sum_by G (joined_up d.lines)
  lines_sum =
      sum_flat g rings_spots d.lines
      ∙ sum_same (λ feature. sum_by g (rings_spots feature)) (sum_by G) d.lines (λ feature f. rings_sum feature (λ line l. (
        Contains-append_left (P ++ joined_up d.lines) d.boxes line (Contains-append_right P (joined_up d.lines) line (Contains-joined_up d.lines feature line f l)),
        All-contains IsPath feature line (All-contains (All IsPath) d.lines feature h.lines f) l,
      )))
      ∙ sym (sum_joined G d.lines)

  boxes_sum : sum_by g (flat_map path_spots d.boxes) ≡ sum_by G d.boxes
  boxes_sum = rings_sum d.boxes (λ box b. (Contains-append_right (P ++ joined_up d.lines) d.boxes box b, (All-contains IsRing d.boxes box h.boxes b).is_path))

  points_sum : sum_by g (flat_map points_spots d.points) ≡ 0
  points_sum = sum_flat g points_spots d.points ∙ sum_none (λ feature. sum_by g (points_spots feature)) d.points (λ feature f. point_sum feature (λ p c. Contains-append_right (joined_up (paths_of d)) (joined_up d.points) p (Contains-joined_up d.points feature p f c)))
    where
      point_sum : (points : List GridPoint) → ((p : GridPoint) → Contains points p → Contains (vertices_of d) p) → sum_by g (map point_segment points) ≡ 0
      point_sum [] k = refl
      point_sum (p ∷ points) k =
          let a = sum_by-cons g (point_segment p) (map point_segment points) in
          let b : g (point_segment p) ≡ 0 = no_link_in_place (hot_points d) p (vertex_listed d p (k p (Contains-head p points))) in
          let c = point_sum points (λ q m. k q (Contains-later p points q m)) in
          omega arith

  spots_sum : sum_by g (spots_of d) ≡ counted_links d
  spots_sum =
      let A : List Segment = flat_map feature_spots d.polygons in
      let B : List Segment = flat_map rings_spots d.lines in
      let C : List Segment = flat_map points_spots d.points in
      let D : List Segment = flat_map path_spots d.boxes in
      let a = sum_by-append g (A ++ B ++ C) D in
      let b = sum_by-append g (A ++ B) C in
      let c = sum_by-append g A B in
      let e = sum_by-append G (P ++ joined_up d.lines) d.boxes in
      let f = sum_by-append G P (joined_up d.lines) in
      total (sum_by g (A ++ B ++ C ++ D)) (sum_by g (A ++ B ++ C)) (sum_by g (A ++ B)) (sum_by g A) (sum_by g B) (sum_by g C) (sum_by g D) (counted_links d) (sum_by G (P ++ joined_up d.lines)) (sum_by G P) (sum_by G (joined_up d.lines)) (sum_by G d.boxes) a b c e f polygons_sum lines_sum points_sum boxes_sum
    where
      total : (n k l a b c d m o p q r : ℕ) → n ≡ k + d → k ≡ l + c → l ≡ a + b → m ≡ o + r → o ≡ p + q → a ≡ p → b ≡ q → c ≡ 0 → d ≡ r → n ≡ m
      total n k l a b c d m o p q r e₁ e₂ e₃ e₄ e₅ e₆ e₇ e₈ e₉ = omega arith

  pub spots_count : (hot : List GridPoint) → AreHotPointsOf d hot → sum_by (links_along hot) (spots_of d) ≡ link_count (snapped d)
  spots_count hot e =
      ap (λ (f : Segment → ℕ). sum_by f (spots_of d)) (λ i s. length (chain_is_drawn d s hot e i) - 1)
      ∙ spots_sum ∙ sym (links_are_counted d)

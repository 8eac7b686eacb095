-- What is added to a drawing, or to its last feature, piece by piece.
use Rattle.std.proofs.Common.{◌≡◌, refl, sym, ap, ◌∙◌, ℕ, ◌+◌, ◌<◌, List, [], ◌∷◌, ◌++◌, map, take, length, get_or, append_assoc}
use Rattle.std.proofs.lemmas.List.{map-append}
use Rattle.std.proofs.lemmas.List.Concat.{flat_map-append}
use Rattle.lists.specs.Lists.{last_of}
use Rattle.plane_model.specs.Points.{GridPoint, Path}
use Rattle.plane_model.specs.Drawing.{Drawing, Polygon}
use Rattle.grid_base.specs.Drawn.{with_last, without_repeats, add_polygon, outline}
use Rattle.grid_base.specs.Grid.{Corners}
use Rattle.geojson_io.specs.LayerContent.{LayerContent}
use Rattle.geojson_io.specs.declared.shape.GeoShape.{GeoShape}
use Rattle.snap_round.specs.Paths.{with_lines, with_points, with_polygons, with_rings}
use Rattle.snap_round.proofs.LastLemmas.{in_new, last_length, last_stays, new_there, nothing_added, nothing_added_in, taken_more}
use Rattle.run_beginning.specs.Drawing.{drawn_boxes, drawn_lines, drawn_rings, line_features, lines_in, lines_of, point_features, points_in, points_of, polygon_features, polygons_in, polygons_of, with_layers}

last_twice : {A : Type 0} (f g : A → A) (xs : List A) → with_last f (with_last g xs) ≡ with_last (λ x. f (g x)) xs
last_twice f g [] = refl
last_twice f g (x ∷ []) = refl
last_twice f g (x ∷ y ∷ []) = refl
last_twice {A} f g (x ∷ y ∷ z ∷ rest) = ap (λ (ys : List A). x ∷ ys) (last_twice f g (y ∷ z ∷ rest))

last_same : {A : Type 0} (f g : A → A) (xs : List A) → ((x : A) → f x ≡ g x) → with_last f xs ≡ with_last g xs
last_same {A} f g xs e = ap (λ (h : A → A). with_last h xs) (λ i x. e x i)

module _ {A : Type 0} where
  -- more in the last list
  more : (ys zs : List A) (xss : List (List A)) → with_last (λ (xs : List A). xs ++ zs) (with_last (λ (xs : List A). xs ++ ys) xss) ≡ with_last (λ (xs : List A). xs ++ (ys ++ zs)) xss
  more ys zs xss =
      last_twice (λ (xs : List A). xs ++ zs) (λ (xs : List A). xs ++ ys) xss
      ∙ last_same (λ (xs : List A). (xs ++ ys) ++ zs) (λ (xs : List A). xs ++ (ys ++ zs)) xss (λ xs. append_assoc xs ys zs)

  more_in : (ys zs : List A) (xsss : List (List (List A))) → with_last (with_last (λ (xs : List A). xs ++ zs)) (with_last (with_last (λ (xs : List A). xs ++ ys)) xsss) ≡ with_last (with_last (λ (xs : List A). xs ++ (ys ++ zs))) xsss
  more_in ys zs xsss =
      last_twice (with_last (λ (xs : List A). xs ++ zs)) (with_last (λ (xs : List A). xs ++ ys)) xsss
      ∙ last_same (λ (xss : List (List A)). with_last (λ (xs : List A). xs ++ zs) (with_last (λ (xs : List A). xs ++ ys) xss)) (with_last (λ (xs : List A). xs ++ (ys ++ zs))) xsss (more ys zs)

  -- one piece more of what a list gives piece by piece
  part_more : {B : Type 0} (F : List B → List A) → ((xs ys : List B) → F (xs ++ ys) ≡ F xs ++ F ys) → (xs : List B) (i : ℕ) (x : B) → i < length xs → x ≡ get_or xs i x → F (take i xs) ++ F (x ∷ []) ≡ F (take (i + 1) xs)
  part_more F apart xs i x l e = sym (apart (take i xs) (x ∷ [])) ∙ ap F (taken_more xs i x l e)

-- a new polygon gets its rings
in_last_new : (rings : Polygon) (features : List (List Polygon)) → with_last (with_last (λ (polygon : Polygon). polygon ++ rings)) (add_polygon features) ≡ with_last (λ (feature : List Polygon). feature ++ rings ∷ []) features
in_last_new rings features =
    let put : List Polygon → List Polygon = with_last (λ (polygon : Polygon). polygon ++ rings) in
    last_twice put (λ (feature : List Polygon). feature ++ [] ∷ []) features
    ∙ last_same (λ (feature : List Polygon). put (feature ++ [] ∷ [])) (λ (feature : List Polygon). feature ++ rings ∷ []) features (λ feature. in_new rings feature)

-- ---- into the last feature

-- the next ring, and those after it
pub rings_next : (d : Drawing) (ring : Path) (rest : List Path) → with_rings (drawn_rings rest) (with_rings (drawn_rings (ring ∷ [])) d) ≡ with_rings (drawn_rings (ring ∷ rest)) d
rings_next d ring rest = λ j. record d { polygons = more_in (drawn_rings (ring ∷ [])) (drawn_rings rest) d.polygons j }

pub no_rings : (d : Drawing) → d ≡ with_rings [] d
no_rings d = λ i. record d { polygons = sym (nothing_added_in d.polygons) i }

-- rings leave as many polygons in the last feature
pub rings_stay : (rings : Polygon) (d : Drawing) → length (last_of [] (with_rings rings d).polygons) ≡ length (last_of [] d.polygons)
rings_stay rings d = last_stays (λ (ps : Polygon). ps ++ rings) d.polygons

-- the next polygon, and those after it
pub polygons_next : (d : Drawing) (polygon : List Path) (rest : List (List Path)) →
    with_polygons (map drawn_rings rest) (with_rings (drawn_rings polygon) (record d { polygons = add_polygon d.polygons })) ≡ with_polygons (map drawn_rings (polygon ∷ rest)) d
polygons_next d polygon rest =
    let same = in_last_new (drawn_rings polygon) d.polygons in
    let next = more (drawn_rings polygon ∷ []) (map drawn_rings rest) d.polygons in
    λ j. record d { polygons = (ap (λ (ps : List (List Polygon)). with_last (λ (qs : List Polygon). qs ++ map drawn_rings rest) ps) same ∙ next) j }

pub no_polygons : (d : Drawing) → d ≡ with_polygons [] d
no_polygons d = λ i. record d { polygons = sym (nothing_added d.polygons) i }

-- and polygons as many features
pub polygons_stay : (polygons : List Polygon) (d : Drawing) → length (with_polygons polygons d).polygons ≡ length d.polygons
polygons_stay polygons d = last_length (λ (ps : List Polygon). ps ++ polygons) d.polygons

-- a new polygon is there
pub polygon_there : (d : Drawing) → 0 < length d.polygons → 0 < length (last_of [] (add_polygon d.polygons))
polygon_there d l = new_there [] d.polygons l

-- the next line, and those after it
pub lines_next : (d : Drawing) (line : Path) (rest : List Path) → with_lines (drawn_lines rest) (with_lines (drawn_lines (line ∷ [])) d) ≡ with_lines (drawn_lines (line ∷ rest)) d
lines_next d line rest = λ j. record d { lines = more (drawn_lines (line ∷ [])) (drawn_lines rest) d.lines j }

pub no_lines : (d : Drawing) → d ≡ with_lines [] d
no_lines d = λ i. record d { lines = sym (nothing_added d.lines) i }

pub lines_stay : (lines : List Path) (d : Drawing) → length (with_lines lines d).lines ≡ length d.lines
lines_stay lines d = last_length (λ (ps : List Path). ps ++ lines) d.lines

pub points_more : (d : Drawing) (points : List GridPoint) (i : ℕ) (point : GridPoint) → i < length points → point ≡ get_or points i point →
    with_points (point ∷ []) (with_points (take i points) d) ≡ with_points (take (i + 1) points) d
points_more d points i point l e =
    let same = more (take i points) (point ∷ []) d.points in
    let next = taken_more points i point l e in
    λ j. record d { points = (same ∙ ap (λ (ps : List GridPoint). with_last (λ (qs : List GridPoint). qs ++ ps) d.points) next) j }

pub no_points : (d : Drawing) → d ≡ with_points [] d
no_points d = λ i. record d { points = sym (nothing_added d.points) i }

pub points_stay : (points : List GridPoint) (d : Drawing) → length (with_points points d).points ≡ length d.points
points_stay points d = last_length (λ (ps : List GridPoint). ps ++ points) d.points

-- ---- features

-- the next feature, and those after it
next_in : {A B : Type 0} (f : B → List A) (xss : List (List A)) (x : B) (rest : List B) → with_last (λ (xs : List A). xs ++ f x) (xss ++ [] ∷ []) ++ map f rest ≡ xss ++ map f (x ∷ rest)
next_in {A} f xss x rest = ap (λ (yss : List (List A)). yss ++ map f rest) (in_new (f x) xss) ∙ append_assoc xss (f x ∷ []) (map f rest)

abbrev pub with_polygon_features : List GeoShape → Drawing → Drawing
with_polygon_features shapes d = record d { polygons = d.polygons ++ map polygons_of shapes }

pub polygon_features_next : (d : Drawing) (shape : GeoShape) (rest : List GeoShape) → with_polygon_features rest (with_polygons (polygons_of shape) (record d { polygons = d.polygons ++ [] ∷ [] })) ≡ with_polygon_features (shape ∷ rest) d
polygon_features_next d shape rest = λ j. record d { polygons = next_in polygons_of d.polygons shape rest j }

abbrev pub with_line_features : List GeoShape → Drawing → Drawing
with_line_features shapes d = record d { lines = d.lines ++ map lines_of shapes }

pub line_features_next : (d : Drawing) (shape : GeoShape) (rest : List GeoShape) → with_line_features rest (with_lines (lines_of shape) (record d { lines = d.lines ++ [] ∷ [] })) ≡ with_line_features (shape ∷ rest) d
line_features_next d shape rest = λ j. record d { lines = next_in lines_of d.lines shape rest j }

abbrev pub with_point_features : List GeoShape → Drawing → Drawing
with_point_features shapes d = record d { points = d.points ++ map points_of shapes }

pub point_features_next : (d : Drawing) (shape : GeoShape) (rest : List GeoShape) → with_point_features rest (with_points (points_of shape) (record d { points = d.points ++ [] ∷ [] })) ≡ with_point_features (shape ∷ rest) d
point_features_next d shape rest = λ j. record d { points = next_in points_of d.points shape rest j }

pub boxes_more : (d : Drawing) (boxes : List Corners) (i : ℕ) (box : Corners) → i < length boxes → box ≡ get_or boxes i box →
    record d { boxes = (d.boxes ++ drawn_boxes (take i boxes)) ++ drawn_boxes (box ∷ []) } ≡ record d { boxes = d.boxes ++ drawn_boxes (take (i + 1) boxes) }
boxes_more d boxes i box l e =
    let same = append_assoc d.boxes (drawn_boxes (take i boxes)) (drawn_boxes (box ∷ [])) in
    let next = part_more drawn_boxes (map-append (λ (box : Corners). without_repeats (outline box))) boxes i box l e in
    λ j. record d { boxes = (same ∙ ap (λ (ps : List Path). d.boxes ++ ps) next) j }

-- ---- layers

-- layers after layers
pub layers_apart : (d : Drawing) (xs ys : List LayerContent) → with_layers ys (with_layers xs d) ≡ with_layers (xs ++ ys) d
layers_apart d xs ys =
    let polygons = flat_map-append (λ (layer : LayerContent). polygon_features layer.kind layer.shapes) xs ys in
    let lines = flat_map-append (λ (layer : LayerContent). line_features layer.kind layer.shapes) xs ys in
    let points = flat_map-append (λ (layer : LayerContent). point_features layer.kind layer.shapes) xs ys in
    λ j. record d {
      polygons = (append_assoc d.polygons (polygons_in xs) (polygons_in ys) ∙ ap (λ (ws : List (List Polygon)). d.polygons ++ ws) (sym polygons)) j;
      lines = (append_assoc d.lines (lines_in xs) (lines_in ys) ∙ ap (λ (ws : List (List Path)). d.lines ++ ws) (sym lines)) j;
      points = (append_assoc d.points (points_in xs) (points_in ys) ∙ ap (λ (ws : List (List GridPoint)). d.points ++ ws) (sym points)) j;
    }

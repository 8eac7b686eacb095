-- The sets of faces of polygons, and the regions that they follow.
use Rattle.std.proofs.Common.{◌≡◌, refl, sym, ap, ◌∙◌, subst, arith, ℕ, zero, suc, List, [], ◌∷◌, ◌++◌, length, map, get_or, All, nat_lt}
use Rattle.std.specs.List.{AllZip, flat_map, range_with_len}
use Rattle.std.specs.List.Sorted.{IsStrictlyIncreasing}
use Rattle.std.proofs.Math.ListN.{get_or-map}
use Rattle.std.proofs.lemmas.List.{length-map}
use Rattle.std.proofs.lemmas.List.FromFn.{get_or-map-range_with_len, length-map-range_with_len}
use Rattle.std.proofs.lemmas.Simd.{map-map}
use Rattle.std.proofs.lemmas.List.Elements.{All-append, All-cons, All-head, All-nil, All-tail}
use Rattle.grid_base.specs.declared.kinds.Kind.{Kind}
use Rattle.lists.specs.Lists.{ascending, joined_up}
use Rattle.lists.proofs.Ascending.{ascending-IsAscending}
use Rattle.plane_model.specs.Snapped.{snapped}
use Rattle.face_sets.specs.Sets.{IsInnerFace, IsSetOf}
use Rattle.face_sets.proofs.SetLemmas.{All-ascending, from_ascending, nat_order}
use Rattle.region_model.specs.Region.{Region, any_of}
use Rattle.region_laws.specs.Regions.{FollowEach, Follows}
use Rattle.region_laws.specs.Answered.{FollowInOrder}
use Rattle.region_laws.proofs.Answered.{layers_are_followed}
use Rattle.run_plane.specs.Shapes.{faces_in}
use Rattle.run_plane.specs.declared.layer.Layer.{Layer}
use Rattle.run_plane.specs.declared.layer.Shape.{Shape}
use Rattle.run_state.specs.FaceSets.{any_faces, face_shapes, sets_in}
use Rattle.chain_model.specs.State as state
use Rattle.chain_model.specs.State.{StateLayer, region_at, region_of, regions_in}
use Rattle.chain_model.specs.Features.{count_of}
use Rattle.layer_laws.specs.Shown.{View, FacesShow, PolygonShows, ShapeShows}
use Rattle.layer_laws.specs.Polygons.{PolygonsShow}
use Rattle.layer_laws.proofs.Zipped.{zip_long}

-- for each feature of a layer its faces
abbrev pub sets_of : Layer → List (List ℕ)
sets_of layer = sets_in layer.shapes.items

-- a set for each shape
pub sets_counted : (layer : Layer) → length (sets_of layer) ≡ length layer.shapes.items
sets_counted layer = length-map layer.shapes.items faces_in

module _ (v : View) where
  pub is_region : (held : Shape) (s : state.Shape) → PolygonShows v held s → s ≡ state.region (region_of s)
  is_region held s h = h.is ∙ ap state.region (sym (ap region_of h.is))

  faces_show : (held : Shape) (s : state.Shape) → PolygonShows v held s → FacesShow v (faces_in held) (region_of s)
  faces_show held s h =
      let set : faces_in held ≡ h.set = ap faces_in h.has in
      let region : region_of s ≡ h.region = ap region_of h.is in
      subst (λ (r : Region). FacesShow v (faces_in held) r) (sym region) (subst (λ (faces : List ℕ). FacesShow v faces h.region) (sym set) h.shows)

  pub sets_show : (shapes : List Shape) (ss : List state.Shape) → AllZip (PolygonShows v) shapes ss → AllZip (FacesShow v) (sets_in shapes) (map region_of ss)
  sets_show [] [] z = tt
  sets_show [] (s ∷ ss) z = absurd z
  sets_show (held ∷ shapes) [] z = absurd z
  sets_show (held ∷ shapes) (s ∷ ss) z = (faces_show held s z.0, sets_show shapes ss z.1)

  -- ---- sets that show regions, one by one

  pub all_rise : (sets : List (List ℕ)) (rs : List Region) → AllZip (FacesShow v) sets rs → All IsStrictlyIncreasing sets
  all_rise [] [] z = All-nil IsStrictlyIncreasing
  all_rise [] (r ∷ rs) z = absurd z
  all_rise (set ∷ sets) [] z = absurd z
  all_rise (set ∷ sets) (r ∷ rs) z = All-cons IsStrictlyIncreasing set sets z.0.rising (all_rise sets rs z.1)

  pub all_inner : (sets : List (List ℕ)) (rs : List Region) → AllZip (FacesShow v) sets rs → All (IsSetOf v.faces) sets
  all_inner [] [] z = All-nil (IsSetOf v.faces)
  all_inner [] (r ∷ rs) z = absurd z
  all_inner (set ∷ sets) [] z = absurd z
  all_inner (set ∷ sets) (r ∷ rs) z = All-cons (IsSetOf v.faces) set sets z.0.inner (all_inner sets rs z.1)

  pub follow_each : (sets : List (List ℕ)) (rs : List Region) → AllZip (FacesShow v) sets rs → FollowEach (snapped v.drawing) v.arcs v.label sets (λ n. get_or rs n (any_of []))
  follow_each [] [] z n l = absurd (omega arith)
  follow_each [] (r ∷ rs) z n l = absurd z
  follow_each (set ∷ sets) [] z n l = absurd z
  follow_each (set ∷ sets) (r ∷ rs) z zero l = z.0.follows
  follow_each (set ∷ sets) (r ∷ rs) z (suc n) l = follow_each sets rs z.1 n (omega arith)

  pub follow_in_order : (sets : List (List ℕ)) (rs : List Region) → AllZip (FacesShow v) sets rs → FollowInOrder (snapped v.drawing) v.arcs v.label sets rs
  follow_in_order sets rs z = (sym (zip_long (FacesShow v) sets rs z), follow_each sets rs z)

  -- and back
  pub show_in_order : (sets : List (List ℕ)) (rs : List Region) → All IsStrictlyIncreasing sets → All (IsSetOf v.faces) sets → length rs ≡ length sets →
      FollowEach (snapped v.drawing) v.arcs v.label sets (λ n. get_or rs n (any_of [])) → AllZip (FacesShow v) sets rs
  show_in_order [] [] rising inner many follow = tt
  show_in_order [] (r ∷ rs) rising inner many follow = absurd (omega (arith, many))
  show_in_order (set ∷ sets) [] rising inner many follow = absurd (omega (arith, many))
  show_in_order (set ∷ sets) (r ∷ rs) rising inner many follow = (
    record { rising = All-head IsStrictlyIncreasing set sets rising; inner = All-head (IsSetOf v.faces) set sets inner; follows = follow 0 (omega arith) },
    show_in_order sets rs (All-tail IsStrictlyIncreasing set sets rising) (All-tail (IsSetOf v.faces) set sets inner) (omega (arith, many)) (λ n l. follow (suc n) (omega arith)),
  )

  -- a shape for each set, and one for each region
  pub shapes_show : (sets : List (List ℕ)) (rs : List Region) → AllZip (FacesShow v) sets rs → AllZip (PolygonShows v) (face_shapes sets) (map state.region rs)
  shapes_show [] [] z = tt
  shapes_show [] (r ∷ rs) z = absurd z
  shapes_show (set ∷ sets) [] z = absurd z
  shapes_show (set ∷ sets) (r ∷ rs) z = (record { set = set; region = r; has = refl; is = refl; shows = z.0 }, shapes_show sets rs z.1)

  -- ---- the faces of any of them

  any_of_shapes : (shapes : List Shape) → flat_map faces_in shapes ≡ joined_up (map faces_in shapes)
  any_of_shapes [] = refl
  any_of_shapes (held ∷ shapes) = ap (λ (more : List ℕ). faces_in held ++ more) (any_of_shapes shapes)

  pub joined_inner : (sets : List (List ℕ)) → All (IsSetOf v.faces) sets → IsSetOf v.faces (joined_up sets)
  joined_inner [] all = All-nil (IsInnerFace v.faces)
  joined_inner (set ∷ sets) all = All-append (IsInnerFace v.faces) set (joined_up sets) (All-head (IsSetOf v.faces) set sets all) (joined_inner sets (All-tail (IsSetOf v.faces) set sets all))

  pub joined_show : (sets : List (List ℕ)) (rs : List Region) → AllZip (FacesShow v) sets rs → FacesShow v (ascending nat_lt (joined_up sets)) (any_of rs)
  joined_show sets rs z = record {
    rising = from_ascending (ascending nat_lt (joined_up sets)) (ascending-IsAscending nat_lt nat_order (joined_up sets));
    inner = All-ascending (IsInnerFace v.faces) (joined_up sets) (joined_inner sets (all_inner sets rs z));
    follows = layers_are_followed (snapped v.drawing) v.arcs v.label sets rs (follow_in_order sets rs z);
  }

  pub any_shows : (shapes : List Shape) (ss : List state.Shape) → AllZip (PolygonShows v) shapes ss → FacesShow v (any_faces shapes) (any_of (map region_of ss))
  any_shows shapes ss z =
      subst (λ (faces : List ℕ). FacesShow v (ascending nat_lt faces) (any_of (map region_of ss))) (sym (any_of_shapes shapes)) (joined_show (map faces_in shapes) (map region_of ss) (sets_show shapes ss z))

-- ---- layers

module _ (v : View) (layer : Layer) (l : StateLayer) (h : PolygonsShow v layer l) where
  pub polygons_show : AllZip (PolygonShows v) layer.shapes.items l.shapes
  polygons_show = subst (λ (k : Kind). AllZip (ShapeShows v k) layer.shapes.items l.shapes) h.polygons h.shows.shapes

  pub layer_sets : AllZip (FacesShow v) (sets_of layer) (regions_in l)
  layer_sets = sets_show v layer.shapes.items l.shapes polygons_show

  -- by their numbers, past the last too
  region_here : (n : ℕ) → get_or (regions_in l) n (any_of []) ≡ region_at l n
  region_here n = get_or-map region_of l.shapes n state.no_shape

  pub follow_regions : (sets : List (List ℕ)) → AllZip (FacesShow v) sets (regions_in l) → FollowEach (snapped v.drawing) v.arcs v.label sets (region_at l)
  follow_regions sets z n below = subst (λ (r : Region). Follows (snapped v.drawing) v.arcs v.label (get_or sets n []) r) (region_here n) (follow_each v sets (regions_in l) z n below)

  pub sets_many : length (sets_of layer) ≡ count_of l
  sets_many = sets_counted layer ∙ zip_long (PolygonShows v) layer.shapes.items l.shapes polygons_show

-- ---- regions by numbers

module _ (v : View) (sets : List (List ℕ)) (made : ℕ → Region) (rising : All IsStrictlyIncreasing sets) (inner : All (IsSetOf v.faces) sets) (follow : FollowEach (snapped v.drawing) v.arcs v.label sets made) where
  made_here : AllZip (FacesShow v) sets (map made (range_with_len 0 (length sets)))
  made_here = show_in_order v sets (map made (range_with_len 0 (length sets))) rising inner (length-map-range_with_len made 0 (length sets)) (λ n l.
      subst (λ (r : Region). Follows (snapped v.drawing) v.arcs v.label (get_or sets n []) r) (sym (get_or-map-range_with_len made 0 (length sets) n n (any_of []) l (omega arith))) (follow n l))

  pub shapes_made : (many : ℕ) → length sets ≡ many → AllZip (PolygonShows v) (face_shapes sets) (map (λ (n : ℕ). state.region (made n)) (range_with_len 0 many))
  shapes_made many counted =
      subst (λ (m : ℕ). AllZip (PolygonShows v) (face_shapes sets) (map (λ (n : ℕ). state.region (made n)) (range_with_len 0 m))) counted
      (subst (AllZip (PolygonShows v) (face_shapes sets)) (map-map state.region made (range_with_len 0 (length sets))) (shapes_show v sets (map made (range_with_len 0 (length sets))) made_here))

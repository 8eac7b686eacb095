-- Polygons that are cleaned.
use Rattle.std.proofs.Common.{◌≡◌, refl, sym, ap, ◌∙◌, subst, arith, ℕ, ◌<◌, Bool, true, false, not, List, [], ◌∷◌, length, All, if◌then◌else◌}
use Rattle.std.specs.List.{AllZip, range_with_len}
use Rattle.std.specs.List.Sorted.{IsStrictlyIncreasing}
use Rattle.std.proofs.lemmas.List.{length-map}
use Rattle.std.proofs.lemmas.List.Elements.{All-filter, All-from_get_or, All-get_or}
use Rattle.grid_base.specs.declared.kinds.Kind.{Kind}
use Rattle.grid_base.specs.declared.kinds.OverlapRule.{OverlapRule}
use Rattle.json_values.specs.Table.{TableContent}
use Rattle.plane_model.specs.Snapped.{snapped}
use Rattle.table_rows.specs.Rows.{take_rows}
use Rattle.face_walk.specs.Places.{FaceTable}
use Rattle.face_sets.specs.Sets.{IsInnerFace, IsSetOf}
use Rattle.region_ops.specs.Cleaned.{IsCleaned as AreCleaned, is_lost}
use Rattle.region_ops.specs.Dissolved.{set_at}
use Rattle.region_ops.specs.Filled.{IsCleanedAndFilled}
use Rattle.region_ops.proofs.FillLemmas.{filled_inner}
use Rattle.region_model.specs.Region.{Region}
use Rattle.region_model.specs.PolygonCommands.{cleaned_and_filled}
use Rattle.region_laws.specs.Regions.{FollowEach}
use Rattle.region_laws.proofs.FilledTold.{filled_as_told}
use Rattle.run_plane.specs.declared.layer.Layer.{Layer}
use Rattle.run_plane.specs.declared.layer.Shape.TheVariants as shape
use Rattle.run_plane.specs.declared.plane.Plane.{Plane}
use Rattle.run_state.specs.Features.{all_numbers}
use Rattle.run_state.proofs.TargetLemmas.{whole_table}
use Rattle.run_shapes.specs.Cleaning.{IsCleaned}
use Rattle.run_state.specs.FaceSets.{HasSets, face_shapes}
use Rattle.chain_model.specs.State.{StateLayer, region_at, regions_in, without_empty}
use Rattle.chain_model.specs.Features.{clean_layer, count_of, shapes_by}
use Rattle.layer_laws.specs.Shown.{View, IsView, FacesShow, LayerShows, ShapeShows, plane_of, IsSeenIn}
use Rattle.layer_laws.specs.Polygons.{CleanedPolygonsShow, PolygonsShow}
use Rattle.layer_laws.proofs.Empty.{left_features_show}
use Rattle.layer_laws.proofs.PolygonSets.{all_inner, all_rise, follow_regions, layer_sets, sets_many, sets_of, shapes_made}
use Rattle.layer_laws.proofs.Taking.{rows_show}
use Rattle.layer_laws.proofs.TableCommands.{one_shows}
use Rattle.layer_laws.proofs.Zipped.{zip_long}

-- ---- features with other sets

-- all of them, or those that have a geometry then
abbrev pub with_regions : View → StateLayer → Bool → (ℕ → Region) → StateLayer
with_regions v l allow_empty made = if allow_empty then record l { shapes = shapes_by made l } else without_empty (plane_of v) v.answers (record l { shapes = shapes_by made l })

module _ (v : View) (view : IsView v) (layer : Layer) (l : StateLayer) (h : PolygonsShow v layer l) where
  all_taken : take_rows l.table (all_numbers layer) ≡ l.table
  all_taken = ap (λ (t : TableContent). take_rows l.table (range_with_len 0 (length t.rows))) (sym h.shows.table) ∙ whole_table l.table

  module _ (sets : List (List ℕ)) (made : ℕ → Region) (rising : All IsStrictlyIncreasing sets) (inner : All (IsSetOf v.faces) sets) (follow : FollowEach (snapped v.drawing) v.arcs v.label sets made) (many : length sets ≡ count_of l) where
    show_made : AllZip (ShapeShows v layer.kind) (face_shapes sets) (shapes_by made l)
    show_made = subst (λ (k : Kind). AllZip (ShapeShows v k) (face_shapes sets) (shapes_by made l)) (sym h.polygons) (shapes_made v sets made rising inner follow (count_of l) many)

    each_made : length (face_shapes sets) ≡ length layer.table.rows
    each_made = length-map sets shape.Faces ∙ many ∙ sym (zip_long (ShapeShows v layer.kind) layer.shapes.items l.shapes h.shows.shapes) ∙ layer.each

    pub made_shows : (allow_empty : Bool) (m : Layer) → HasSets allow_empty layer sets m → LayerShows v m (with_regions v l allow_empty made)
    made_shows true m has =
        subst (λ (t : TableContent). LayerShows v m (record l { table = t; shapes = shapes_by made l })) all_taken
        (rows_show v layer l h.shows (all_numbers layer) (face_shapes sets) (shapes_by made l) show_made m has)
    made_shows false m has = left_features_show v view layer l h.shows (face_shapes sets) (shapes_by made l) each_made show_made m has

-- ---- what is left of sets

module _ (rule : OverlapRule) (faces : FaceTable) (sets left : List (List ℕ)) (is : AreCleaned rule faces.areas sets left) where
  abbrev kept : ℕ → ℕ → Bool
  kept n k = not (is_lost rule faces.areas sets n k)

  left_inner : All (IsSetOf faces) sets → All (IsSetOf faces) left
  left_inner inner = All-from_get_or (IsSetOf faces) left [] (λ n l.
      let count = is.count in
      let below : n < length sets = omega (arith, l, count) in
      subst (IsSetOf faces) (sym (is.kept n below)) (All-filter (kept n) (IsInnerFace faces) (set_at sets n) (All-get_or (IsSetOf faces) sets n [] below inner)))

filled_are_inner : (rule : OverlapRule) (gap : ℕ) (faces : FaceTable) (sets made : List (List ℕ)) → All (IsSetOf faces) sets → IsCleanedAndFilled rule gap faces sets made → All (IsSetOf faces) made
filled_are_inner rule gap faces sets made inner (left, cleans, fills) = filled_inner rule gap faces sets left made cleans.count (left_inner rule faces sets left cleans inner) fills

-- ---- layers

module _ (v : View) (view : IsView v) (plane : Plane) (seen : IsSeenIn v plane) (layer : Layer) (l : StateLayer) (h : PolygonsShow v layer l) (rule : OverlapRule) (allow_empty : Bool) where
  abbrev sets : List (List ℕ)
  sets = sets_of layer

  shown : AllZip (FacesShow v) sets (regions_in l)
  shown = layer_sets v layer l h

  -- over the faces of the view
  seen_by : (gap : ℕ) (made : List (List ℕ)) → IsCleanedAndFilled rule gap plane.faces sets made → IsCleanedAndFilled rule gap v.faces sets made
  seen_by gap made is = subst (λ (faces : FaceTable). IsCleanedAndFilled rule gap faces sets made) seen.faces is

  filled_shows : (gap : ℕ) (m : Layer) → IsCleaned rule allow_empty gap plane layer m → LayerShows v m (with_regions v l allow_empty (cleaned_and_filled (plane_of v) v.answers rule gap (region_at l) (count_of l)))
  filled_shows gap m is =
      let filled = seen_by gap is.sets is.cleaned in
      let rising = all_rise v sets (regions_in l) shown in
      let inner = all_inner v sets (regions_in l) shown in
      let many : length sets ≡ count_of l = sets_many v layer l h in
      let follow : FollowEach (snapped v.drawing) v.arcs v.label is.sets (cleaned_and_filled (plane_of v) v.answers rule gap (region_at l) (count_of l)) =
      subst (λ (c : ℕ). FollowEach (snapped v.drawing) v.arcs v.label is.sets (cleaned_and_filled (plane_of v) v.answers rule gap (region_at l) c)) many
      (filled_as_told v.drawing v.arcs v.faces v.label view.walked sets rising inner (region_at l) (follow_regions v layer l h sets shown) v.answers view.right rule gap is.sets filled) in
      made_shows v view layer l h is.sets (cleaned_and_filled (plane_of v) v.answers rule gap (region_at l) (count_of l)) filled.2.in_order
      (filled_are_inner rule gap v.faces sets is.sets inner filled) follow (filled.2.count ∙ many) allow_empty m is.has

pub cleaned_polygons_show : CleanedPolygonsShow
cleaned_polygons_show v view plane seen layer l h rule allow_empty gap =
    let filled : StateLayer = with_regions v l allow_empty (cleaned_and_filled (plane_of v) v.answers rule gap (region_at l) (count_of l)) in
    record {
      shows = one_shows v (IsCleaned rule allow_empty gap plane layer) (clean_layer (plane_of v) v.answers rule allow_empty gap l) (λ m is. (filled, refl, filled_shows v view plane seen layer l h rule allow_empty gap m is));
      refused = (filled ∷ [], refl);
    }

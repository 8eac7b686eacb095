-- What polygons are cut by, and what is left of them.
use Rattle.std.proofs.Common.{◌≡◌, refl, sym, ap, ◌∙◌, subst, ℕ, not, List, [], ◌∷◌, length, map, nat_eq, Option, Some, None, Result, Ok, Err, if◌then◌else◌}
use Rattle.std.specs.List.{AllZip}
use Rattle.std.proofs.lemmas.List.{length-map}
use Rattle.std.proofs.lemmas.List.Elements.{All-filter}
use Rattle.std.proofs.lemmas.List.Kept.{IsStrictlyIncreasing-filter}
use Rattle.lists.specs.Lists.{has}
use Rattle.grid_base.specs.declared.kinds.Kind.{Kind}
use Rattle.grid_base.specs.declared.kinds.Kind.TheVariants as kinds
use Rattle.geojson_io.specs.Layers.{same_kind}
use Rattle.plane_model.specs.Snapped.{snapped}
use Rattle.table_terms.specs.Refusals.{on_ok}
use Rattle.face_sets.specs.Sets.{IsInnerFace}
use Rattle.region_ops.specs.Cut.{meet, minus}
use Rattle.region_model.specs.Region.{Region, any_of, both, box, less}
use Rattle.region_laws.proofs.Sets.{meets_are_followed, remainders_are_followed}
use Rattle.job_terms.specs.declared.job.Origin.TheVariants as origin
use Rattle.run_plane.specs.declared.layer.Layer.{Layer}
use Rattle.run_plane.specs.declared.layer.Shape.{Shape}
use Rattle.run_plane.specs.declared.layer.Shape.TheVariants as shape
use Rattle.run_plane.specs.declared.plane.Plane.{Plane}
use Rattle.run_state.specs.Origins as run
use Rattle.run_state.specs.declared.refusal.RefuseWhy.{RefuseWhy}
use Rattle.run_state.specs.declared.refusal.RefuseWhy.TheVariants.{WrongKind}
use Rattle.run_shapes.specs.Cutting.{AreShapesLeft, IsCut, cut_faces}
use Rattle.run_state.specs.FaceSets.{any_faces, face_shapes, layer_faces}
use Rattle.run_shapes.specs.declared.cutting.CutKeeps.{CutKeeps}
use Rattle.run_shapes.specs.declared.cutting.CutKeeps.TheVariants as keeps
use Rattle.run_checks.specs.Checks.{is_polygon, refused_polygons}
use Rattle.chain_model.specs.Outcome as outcome
use Rattle.chain_model.specs.State as state
use Rattle.chain_model.specs.State.{StateLayer, region_of, regions_in, without_empty}
use Rattle.chain_model.specs.Features.{clip_layer, clip_shape, erase_layer, erase_shape}
use Rattle.chain_model.specs.Steps.{layer_region}
use Rattle.chain_model.specs.Targets as targets
use Rattle.layer_laws.specs.Shown.{View, IsView, FacesShow, LayerShows, PolygonShows, ShapeShows, plane_of}
use Rattle.layer_laws.specs.Reasons.{AnswerShows, why_of}
use Rattle.layer_laws.specs.Polygons.{CutSetShows, CutSetsShow, ClippedPolygonsShow, ErasedPolygonsShow, PolygonsShow}
use Rattle.layer_laws.proofs.Empty.{left_features_show}
use Rattle.layer_laws.proofs.PolygonSets.{any_shows, is_region, layer_sets, polygons_show, sets_counted, sets_of}
use Rattle.layer_laws.proofs.TableCommands.{one_shows}
use Rattle.layer_laws.proofs.Targeting.{one_layer_shows, origins_show}

-- ---- what a command cuts by

abbrev pub refused_by_kind : Kind → Option RefuseWhy
refused_by_kind k = if is_polygon k then None else Some WrongKind

abbrev region_by_kind : StateLayer → Kind → Result Region outcome.RefuseWhy
region_by_kind l k = if same_kind k kinds.Polygon then Ok (any_of (regions_in l)) else Err outcome.wrong_kind

module _ (v : View) where
  wrong_kind : (cut_set : List ℕ) → CutSetShows v (Some WrongKind) cut_set (Err outcome.wrong_kind)
  wrong_kind cut_set = record { there = λ e. absurd (cc); refused = λ why e. let same : WrongKind ≡ why = cc in ap (λ (w : RefuseWhy). Err (why_of w)) same }

  of_kind : (layer : Layer) (l : StateLayer) → LayerShows v layer l → (k : Kind) → layer.kind ≡ k → CutSetShows v (refused_by_kind k) (any_faces layer.shapes.items) (region_by_kind l k)
  of_kind layer l h kinds.Polygon e = record {
    there = λ none. (any_of (regions_in l), refl, any_shows v layer.shapes.items l.shapes (polygons_show v layer l (record { shows = h; polygons = e })));
    refused = λ why some. absurd (cc);
  }
  of_kind layer l h kinds.Line e = wrong_kind (any_faces layer.shapes.items)
  of_kind layer l h kinds.Point e = wrong_kind (any_faces layer.shapes.items)
  of_kind layer l h kinds.Table e = wrong_kind (any_faces layer.shapes.items)

  of_layer : (answer : Result Layer RefuseWhy) (other : Result StateLayer outcome.RefuseWhy) → AnswerShows (LayerShows v) answer other → CutSetShows v (refused_polygons answer) (layer_faces answer) (on_ok other layer_region)
  of_layer (Ok layer) (Ok l) h = subst (λ (k : Kind). CutSetShows v (refused_by_kind layer.kind) (any_faces layer.shapes.items) (region_by_kind l k)) (sym h.kind) (of_kind layer l h layer.kind refl)
  of_layer (Ok layer) (Err why) h = absurd h
  of_layer (Err why) (Ok l) h = absurd h
  of_layer (Err why) (Err other) h = record { there = λ e. absurd (cc); refused = λ told e. let same : why ≡ told = cc in ap Err h ∙ ap (λ (w : RefuseWhy). Err (why_of w)) same }

pub cut_sets_show : CutSetsShow
cut_sets_show v view base seen sources owns layers s h (origin.Area n) = record { there = λ none. (box n, refl, seen.boxes n); refused = λ why some. absurd (cc) }
cut_sets_show v view base seen sources owns layers s h (origin.Layer name) =
    of_layer v (run.one_layer (run.origin_layers base.sources layers (origin.Layer name))) (targets.one_layer (targets.origin_layers sources s (origin.Layer name)))
    (one_layer_shows v (run.origin_layers base.sources layers (origin.Layer name)) (targets.origin_layers sources s (origin.Layer name)) (origins_show v layers s h base.sources sources owns (origin.Layer name)))
cut_sets_show v view base seen sources owns layers s h (origin.Source n) =
    of_layer v (run.one_layer (run.origin_layers base.sources layers (origin.Source n))) (targets.one_layer (targets.origin_layers sources s (origin.Source n)))
    (one_layer_shows v (run.origin_layers base.sources layers (origin.Source n)) (targets.origin_layers sources s (origin.Source n)) (origins_show v layers s h base.sources sources owns (origin.Source n)))

-- ---- a set that is cut

module _ (v : View) (cut_set : List ℕ) (source : Region) (by : FacesShow v cut_set source) where
  clipped_shows : (set : List ℕ) (r : Region) → FacesShow v set r → FacesShow v (meet cut_set set) (both r source)
  clipped_shows set r h = record {
    rising = IsStrictlyIncreasing-filter (has nat_eq cut_set) set h.rising;
    inner = All-filter (has nat_eq cut_set) (IsInnerFace v.faces) set h.inner;
    follows = meets_are_followed (snapped v.drawing) v.arcs v.label set cut_set r source h.follows by.follows;
  }

  erased_shows : (set : List ℕ) (r : Region) → FacesShow v set r → FacesShow v (minus cut_set set) (less r source)
  erased_shows set r h = record {
    rising = IsStrictlyIncreasing-filter (λ (k : ℕ). not (has nat_eq cut_set k)) set h.rising;
    inner = All-filter (λ (k : ℕ). not (has nat_eq cut_set k)) (IsInnerFace v.faces) set h.inner;
    follows = remainders_are_followed (snapped v.drawing) v.arcs v.label set cut_set r source h.follows by.follows;
  }

-- ---- layers that are cut

-- a cut of sets, of regions, and of shapes
module _ (v : View) (cut : List ℕ → List ℕ) (cut_region : Region → Region) (cut_shape : state.Shape → state.Shape) (alike : (r : Region) → cut_shape (state.region r) ≡ state.region (cut_region r))
    (shows : (set : List ℕ) (r : Region) → FacesShow v set r → FacesShow v (cut set) (cut_region r)) where
  shapes_cut : (sets : List (List ℕ)) (ss : List state.Shape) (held : List Shape) → AllZip (FacesShow v) sets (map region_of ss) → AllZip (PolygonShows v) held ss → AllZip (PolygonShows v) (face_shapes (map cut sets)) (map cut_shape ss)
  shapes_cut [] [] held z polygons = tt
  shapes_cut [] (s ∷ ss) held z polygons = absurd z
  shapes_cut (set ∷ sets) [] held z polygons = absurd z
  shapes_cut (set ∷ sets) (s ∷ ss) [] z polygons = absurd polygons
  shapes_cut (set ∷ sets) (s ∷ ss) (first ∷ held) z polygons = (
    record { set = cut set; region = cut_region (region_of s); has = refl; is = ap cut_shape (is_region v first s polygons.0) ∙ alike (region_of s); shows = shows set (region_of s) z.0 },
    shapes_cut sets ss held z.1 polygons.1,
  )

module _ (v : View) (view : IsView v) (plane : Plane) (layer : Layer) (l : StateLayer) (h : PolygonsShow v layer l) (k : CutKeeps) (cut_set : List ℕ) where
  layer_cut : (ss : List state.Shape) → AllZip (PolygonShows v) (face_shapes (map (cut_faces k cut_set) (sets_of layer))) ss →
      (made : Layer) → IsCut k plane cut_set layer made → LayerShows v made (without_empty (plane_of v) v.answers (record l { shapes = ss }))
  layer_cut ss z made is =
      let are : is.parts ≡ face_shapes (map (cut_faces k cut_set) (sets_of layer)) = subst (λ (kind : Kind). AreShapesLeft kind k plane cut_set layer.shapes.items is.parts) h.polygons is.are in
      let show : AllZip (ShapeShows v layer.kind) is.parts ss =
      subst (λ (kind : Kind). AllZip (ShapeShows v kind) is.parts ss) (sym h.polygons) (subst (λ (parts : List Shape). AllZip (PolygonShows v) parts ss) (sym are) z) in
      let counted : length is.parts ≡ length layer.table.rows =
      ap length are ∙ length-map (map (cut_faces k cut_set) (sets_of layer)) shape.Faces ∙ length-map (sets_of layer) (cut_faces k cut_set) ∙ sets_counted layer ∙ layer.each in
      left_features_show v view layer l h.shows is.parts ss counted show made is.left

pub clipped_polygons_show : ClippedPolygonsShow
clipped_polygons_show v view plane layer l h cut_set source by = record {
  shows = one_shows v (IsCut keeps.Inside plane cut_set layer) (clip_layer (plane_of v) v.answers source l) (λ made is. (
    without_empty (plane_of v) v.answers (record l { shapes = map (clip_shape v.answers source) l.shapes }),
    refl,
    layer_cut v view plane layer l h keeps.Inside cut_set (map (clip_shape v.answers source) l.shapes)
        (shapes_cut v (meet cut_set) (λ (r : Region). both r source) (clip_shape v.answers source) (λ r. refl) (clipped_shows v cut_set source by) (sets_of layer) l.shapes layer.shapes.items
        (layer_sets v layer l h) (polygons_show v layer l h)) made is,
  ));
  refused = (without_empty (plane_of v) v.answers (record l { shapes = map (clip_shape v.answers source) l.shapes }) ∷ [], refl);
}

pub erased_polygons_show : ErasedPolygonsShow
erased_polygons_show v view plane layer l h cut_set source by = record {
  shows = one_shows v (IsCut keeps.Outside plane cut_set layer) (erase_layer (plane_of v) v.answers source l) (λ made is. (
    without_empty (plane_of v) v.answers (record l { shapes = map (erase_shape v.answers source) l.shapes }),
    refl,
    layer_cut v view plane layer l h keeps.Outside cut_set (map (erase_shape v.answers source) l.shapes)
        (shapes_cut v (minus cut_set) (λ (r : Region). less r source) (erase_shape v.answers source) (λ r. refl) (erased_shows v cut_set source by) (sets_of layer) l.shapes layer.shapes.items
        (layer_sets v layer l h) (polygons_show v layer l h)) made is,
  ));
  refused = (without_empty (plane_of v) v.answers (record l { shapes = map (erase_shape v.answers source) l.shapes }) ∷ [], refl);
}

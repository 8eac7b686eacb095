-- Pictures of layers show those of the state, and layers in arcs are those of such pictures.
use Rattle.std.proofs.Common.{◌≡◌, refl, sym, ◌∙◌, subst, List, [], ◌∷◌, map}
use Rattle.std.specs.List.{AllZip}
use Rattle.plane_model.specs.Points.{Path}
use Rattle.geojson_io.specs.LayerContent.{LayerContent}
use Rattle.topo_io.specs.ArcLayerContent.{ArcLayerContent}
use Rattle.topo_io.specs.declared.arc_layer.ArcShape.{ArcShape}
use Rattle.run_plane.specs.declared.layer.Layer.{Layer}
use Rattle.run_plane.specs.declared.layer.Shape.{Shape}
use Rattle.run_plane.specs.declared.plane.Plane.{Plane}
use Rattle.run_texts.specs.Pictures.{IsDrawn, IsPicture, on_grid}
use Rattle.run_texts.specs.Tracing.{IsTraced, IsTracedLayer}
use Rattle.chain_model.specs.State as state
use Rattle.chain_model.specs.State.{StateLayer}
use Rattle.chain_model.specs.Pictures.{ShowsShape, in_arcs, shape_in_arcs}
use Rattle.layer_laws.specs.Shown.{View, IsView, IsSeenIn, LayerShows, ShapeShows, plane_of}
use Rattle.layer_laws.proofs.Zipped.{zip_right, zip_weaker}
use Rattle.picture_laws.specs.Drawn.{IsOfPicture, PicturesShow, TracedLayersShow}
use Rattle.picture_laws.proofs.Shapes.{shape_drawn, shape_named}

-- two relations of the elements of one list
zip_across : {A B C : Type 0} (R : A → B → Type 0) (S : A → C → Type 0) (T : B → C → Type 0) → ((x : A) (y : B) (z : C) → R x y → S x z → T y z) →
    (xs : List A) (ys : List B) (zs : List C) → AllZip R xs ys → AllZip S xs zs → AllZip T ys zs
zip_across R S T by [] [] [] r s = tt
zip_across R S T by [] [] (z ∷ zs) r s = absurd s
zip_across R S T by [] (y ∷ ys) zs r s = absurd r
zip_across R S T by (x ∷ xs) [] zs r s = absurd r
zip_across R S T by (x ∷ xs) (y ∷ ys) [] r s = absurd s
zip_across R S T by (x ∷ xs) (y ∷ ys) (z ∷ zs) r s = (by x y z r.0 s.0, zip_across R S T by xs ys zs r.1 s.1)

pub pictures_show : PicturesShow
pictures_show v view plane seen layer l h picture is = record {
  name = is.name ∙ sym h.name;
  kind = is.kind ∙ sym h.kind;
  table = is.table ∙ sym h.table;
  shapes = zip_across (ShapeShows v layer.kind) (IsDrawn plane) (ShowsShape (plane_of v) v.answers) (λ held s drawn shows d. shape_drawn v view plane seen layer.kind held s shows drawn d)
      layer.shapes.items l.shapes picture.shapes h.shapes is.shapes;
}

-- ---- layers in arcs

-- in points
abbrev pub picture_of : List Path → ArcLayerContent → LayerContent
picture_of table traced = record { name = traced.name; kind = traced.kind; table = traced.table; shapes = map (on_grid table) traced.shapes }

module _ (v : View) (view : IsView v) (plane : Plane) (seen : IsSeenIn v plane) (layer : Layer) (l : StateLayer) (h : LayerShows v layer l) (traced : ArcLayerContent) (is : IsTracedLayer plane layer traced) where
  traced_drawn : IsPicture plane layer (picture_of plane.arcs traced)
  traced_drawn = record {
    name = is.name;
    kind = is.kind;
    table = is.table;
    shapes = zip_right (IsDrawn plane) (on_grid plane.arcs) layer.shapes.items traced.shapes
        (zip_weaker (IsTraced plane) (λ (held : Shape) (t : ArcShape). IsDrawn plane held (on_grid plane.arcs t)) (λ held t traces. record { traced = t; traces = traces; is = refl }) layer.shapes.items traced.shapes is.shapes);
  }

  -- each shape is the one that its arcs were
  shapes_back : (held : List Shape) (ss : List state.Shape) (ts : List ArcShape) → AllZip (ShapeShows v layer.kind) held ss → AllZip (IsTraced plane) held ts → map (shape_in_arcs plane.arcs) (map (on_grid plane.arcs) ts) ≡ ts
  shapes_back [] ss [] shows traces = refl
  shapes_back [] ss (t ∷ ts) shows traces = absurd traces
  shapes_back (x ∷ held) [] ts shows traces = absurd shows
  shapes_back (x ∷ held) (s ∷ ss) [] shows traces = absurd traces
  shapes_back (x ∷ held) (s ∷ ss) (t ∷ ts) shows traces =
      λ i. shape_named v view plane seen layer.kind x s shows.0 t traces.0 i ∷ shapes_back held ss ts shows.1 traces.1 i

  back : in_arcs plane.arcs (picture_of plane.arcs traced) ≡ traced
  back =
      let shapes = shapes_back layer.shapes.items l.shapes traced.shapes h.shapes is.shapes in
      λ i. record { name = traced.name; kind = traced.kind; table = traced.table; shapes = shapes i }

  pub traced_shows : IsOfPicture v l traced
  traced_shows = record {
    picture = picture_of plane.arcs traced;
    shows = pictures_show v view plane seen layer l h (picture_of plane.arcs traced) traced_drawn;
    is = subst (λ (table : List Path). in_arcs table (picture_of plane.arcs traced) ≡ traced) seen.arcs back;
  }

pub traced_layers_show : TracedLayersShow
traced_layers_show v view plane seen layer l h traced is = traced_shows v view plane seen layer l h traced is

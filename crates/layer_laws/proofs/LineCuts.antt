-- Lines and points that are cut by a region.
use Rattle.std.proofs.Common.{◌≡◌, refl, sym, ap, ◌∙◌, subst, ℕ, ◌<◌, Bool, true, false, not, List, [], ◌∷◌, ◌++◌, All, Contains, length, map, filter, if◌then◌else◌}
use Rattle.std.specs.List.{AllZip, flat_map}
use Rattle.std.proofs.lemmas.List.Elements.{All-append, All-cons, All-filter, All-head, All-nil, All-push, All-tail}
use Rattle.plane_model.specs.Points.{GridPoint, Path}
use Rattle.plane_model.specs.Arcs.{SignedArc}
use Rattle.plane_model.specs.Drawing.{vertices_of}
use Rattle.plane_model.specs.Snapped.{snapped}
use Rattle.grid_base.specs.declared.kinds.Kind.{Kind}
use Rattle.grid_base.specs.declared.kinds.Kind.TheVariants as kinds
use Rattle.face_walk.specs.Places.{FaceTable}
use Rattle.face_sets.proofs.BoundaryLemmas.{not_not}
use Rattle.line_ops.specs.Points.{IsInsideAt}
use Rattle.line_ops.specs.Runs.{ended, runs_after, runs_where}
use Rattle.region_model.specs.Region.{Region}
use Rattle.region_model.specs.LineCommands.{clipped_path, clipped_points, erased_path, erased_points}
use Rattle.line_laws.specs.Linked.{AreLinked, AreThere}
use Rattle.line_laws.specs.Regions.{IsToldOf}
use Rattle.line_laws.proofs.ByRegions.{paths_cut_by_regions, points_cut_by_regions}
use Rattle.line_laws.proofs.LinkedArcs.{runs_are_linked}
use Rattle.run_plane.specs.declared.layer.Layer.{Layer}
use Rattle.run_plane.specs.declared.layer.Shape.{Shape}
use Rattle.run_plane.specs.declared.layer.Shape.TheVariants as shape
use Rattle.run_plane.specs.declared.plane.Plane.{Plane}
use Rattle.run_shapes.specs.Cutting.{ArePointsLeft, AreShapesLeft, IsCut, IsShapeLeft, chosen, cut_paths, stays_along}
use Rattle.run_shapes.specs.declared.cutting.CutKeeps.{CutKeeps}
use Rattle.run_shapes.specs.declared.cutting.CutKeeps.TheVariants as keeps
use Rattle.chain_model.specs.State as state
use Rattle.chain_model.specs.State.{StateLayer, without_empty}
use Rattle.chain_model.specs.Features.{clip_shape, erase_shape, just}
use Rattle.layer_laws.specs.Shown.{View, IsView, ArcsShow, AreVertices, FacesShow, LayerShows, LineShows, NothingShows, PointsShow, ShapeShows, plane_of, IsSeenIn}
use Rattle.layer_laws.specs.Lines.{ClippedLinesShow, ErasedLinesShow}
use Rattle.layer_laws.proofs.Empty.{left_features_show}
use Rattle.layer_laws.proofs.TableCommands.{one_shows}
use Rattle.layer_laws.proofs.Views.{view_faces}
use Rattle.layer_laws.proofs.Zipped.{zip_long}

-- ---- runs of what is there

module _ {A : Type 0} (P : A → Type 0) (test : A → Bool) where
  ended_there : (begun : List A) → All P begun → All (All P) (ended begun)
  ended_there [] all = All-nil (All P)
  ended_there (x ∷ xs) all = All-cons (All P) (x ∷ xs) [] all (All-nil (All P))

  after_there : (begun xs : List A) → All P begun → All P xs → All (All P) (runs_after test begun xs)
  after_there begun [] all rest = ended_there begun all
  after_there begun (x ∷ xs) all rest =
      go (test x) (after_there (begun ++ x ∷ []) xs (All-push P begun x all (All-head P x xs rest)) (All-tail P x xs rest)) (after_there [] xs (All-nil P) (All-tail P x xs rest))
    where
      go : (b : Bool) → All (All P) (runs_after test (begun ++ x ∷ []) xs) → All (All P) (runs_after test [] xs) → All (All P) (if b then runs_after test (begun ++ x ∷ []) xs else ended begun ++ runs_after test [] xs)
      go true on off = on
      go false on off = All-append (All P) (ended begun) (runs_after test [] xs) (ended_there begun all) off

each_runs : (test : SignedArc → Bool) (P : List SignedArc → Type 0) → ((path : List SignedArc) → P path → All P (runs_where test path)) → (paths : List (List SignedArc)) → All P paths → All P (flat_map (runs_where test) paths)
each_runs test P runs [] all = All-nil P
each_runs test P runs (path ∷ paths) all =
    All-append P (runs_where test path) (flat_map (runs_where test) paths) (runs path (All-head P path paths all)) (each_runs test P runs paths (All-tail P path paths all))

-- ---- points that stay

chosen_all : {A : Type 0} (told : A → Bool) (xs : List A) → chosen xs (map told xs) ≡ filter told xs
chosen_all told [] = refl
chosen_all told (x ∷ xs) = ap (λ (rest : List _). if told x then x ∷ rest else rest) (chosen_all told xs)

turned : {A : Type 0} (told : A → Bool) (xs : List A) (answers : List Bool) → map not answers ≡ map told xs → answers ≡ map (λ (x : A). not (told x)) xs
turned told [] [] e = refl
turned told [] (b ∷ answers) e = absurd (cc)
turned told (x ∷ xs) [] e = absurd (cc)
turned told (x ∷ xs) (b ∷ answers) e =
    let here : not b ≡ told x = cc in
    let rest : map not answers ≡ map told xs = cc in
    let same = sym (not_not b) ∙ ap not here in
    λ i. same i ∷ turned told xs answers rest i

not_zipped : {A : Type 0} (R : A → Bool → Type 0) (xs : List A) (answers : List Bool) → AllZip (λ (x : A) (b : Bool). R x (not b)) xs answers → AllZip R xs (map not answers)
not_zipped R [] [] z = tt
not_zipped R [] (b ∷ answers) z = absurd z
not_zipped R (x ∷ xs) [] z = absurd z
not_zipped R (x ∷ xs) (b ∷ answers) z = (z.0, not_zipped R xs answers z.1)

-- ---- shapes

module _ (v : View) (view : IsView v) (plane : Plane) (seen : IsSeenIn v plane) (cut_set : List ℕ) (r : Region) (shows : FacesShow v cut_set r) where
  told_of : IsToldOf v.drawing v.arcs v.label v.answers cut_set r
  told_of = record { follows = shows.follows; sides = view.right.sides r }

  -- what a cut leaves of a shape
  abbrev cut_shape : CutKeeps → state.Shape → state.Shape
  cut_shape keeps.Inside s = clip_shape v.answers r s
  cut_shape keeps.Outside s = erase_shape v.answers r s

  abbrev cut_runs : CutKeeps → List (List SignedArc) → List (List SignedArc)
  cut_runs k named = flat_map (runs_where (stays_along k v.faces cut_set)) named

  runs_there : (k : CutKeeps) (named : List (List SignedArc)) → All (AreThere v.arcs) named → All (AreThere v.arcs) (cut_runs k named)
  runs_there k named there =
      each_runs (stays_along k v.faces cut_set) (AreThere v.arcs)
      (λ path all. after_there (λ (a : SignedArc). a.arc < length v.arcs) (stays_along k v.faces cut_set) [] path (All-nil (λ (a : SignedArc). a.arc < length v.arcs)) all) named there

  runs_link : (k : CutKeeps) (named : List (List SignedArc)) → All (AreLinked v.arcs) named → All (AreLinked v.arcs) (cut_runs k named)
  runs_link k named linked = each_runs (stays_along k v.faces cut_set) (AreLinked v.arcs) (λ path all. runs_are_linked v.arcs (stays_along k v.faces cut_set) path all) named linked

  runs_show : (k : CutKeeps) (named : List (List SignedArc)) (paths : List Path) → ArcsShow v named paths → LineShows v (shape.Paths (cut_runs k named)) (cut_shape k (state.paths paths))
  runs_show keeps.Inside named paths h =
      let cut = paths_cut_by_regions v.drawing v.arcs v.faces v.label (view_faces v view) v.answers cut_set r told_of named h.there h.linked in
      record {
        named = cut_runs keeps.Inside named;
        paths = flat_map (clipped_path v.answers r) paths;
        has = refl;
        is = refl;
        shows = record { there = runs_there keeps.Inside named h.there; linked = runs_link keeps.Inside named h.linked; along = ap (flat_map (clipped_path v.answers r)) h.along ∙ sym cut.0 };
      }
  runs_show keeps.Outside named paths h =
      let cut = paths_cut_by_regions v.drawing v.arcs v.faces v.label (view_faces v view) v.answers cut_set r told_of named h.there h.linked in
      record {
        named = cut_runs keeps.Outside named;
        paths = flat_map (erased_path v.answers r) paths;
        has = refl;
        is = refl;
        shows = record { there = runs_there keeps.Outside named h.there; linked = runs_link keeps.Outside named h.linked; along = ap (flat_map (erased_path v.answers r)) h.along ∙ sym cut.1 };
      }

  line_cut : (k : CutKeeps) (held part : Shape) (s : state.Shape) → LineShows v held s → IsShapeLeft k plane cut_set held part → LineShows v part (cut_shape k s)
  line_cut k held part s h left =
      let cut : part ≡ shape.Paths (cut_paths k plane cut_set h.named) = subst (λ (held : Shape). IsShapeLeft k plane cut_set held part) h.has left in
      let on : cut_paths k plane cut_set h.named ≡ cut_runs k h.named = ap (λ (faces : FaceTable). flat_map (runs_where (stays_along k faces cut_set)) h.named) seen.faces in
      subst (λ (part : Shape). LineShows v part (cut_shape k s)) (sym (cut ∙ ap shape.Paths on))
      (subst (λ (s : state.Shape). LineShows v (shape.Paths (cut_runs k h.named)) (cut_shape k s)) (sym h.is) (runs_show k h.named h.paths h.shows))

  -- ---- points

  inside_told : (points : List GridPoint) → AreVertices v points → (answers : List Bool) → AllZip (λ (p : GridPoint) (inside : Bool). IsInsideAt plane.arcs plane.faces p cut_set inside) points answers → answers ≡ map (v.answers.inside r) points
  inside_told points vertices answers each =
      points_cut_by_regions v.drawing v.arcs v.faces v.label (view_faces v view) v.answers cut_set r shows.follows (view.right.inside r) points vertices answers
      (subst (λ (faces : FaceTable). AllZip (λ (p : GridPoint) (inside : Bool). IsInsideAt v.arcs faces p cut_set inside) points answers) seen.faces
      (subst (λ (arcs : List Path). AllZip (λ (p : GridPoint) (inside : Bool). IsInsideAt arcs plane.faces p cut_set inside) points answers) seen.arcs each))

  points_left : (k : CutKeeps) (points left : List GridPoint) → AreVertices v points → ArePointsLeft k plane cut_set points left → PointsShow v (shape.Points left) (cut_shape k (state.points points))
  points_left keeps.Inside points left vertices h =
      let same = h.are ∙ ap (chosen points) (inside_told points vertices h.answers h.each) ∙ chosen_all (v.answers.inside r) points in
      record { points = clipped_points v.answers r points; has = ap shape.Points same; is = refl; vertices = All-filter (v.answers.inside r) (Contains (vertices_of (snapped v.drawing))) points vertices }
  points_left keeps.Outside points left vertices h =
      let told = inside_told points vertices (map not h.answers) (not_zipped (λ (p : GridPoint) (inside : Bool). IsInsideAt plane.arcs plane.faces p cut_set inside) points h.answers h.each) in
      let same = h.are ∙ ap (chosen points) (turned (v.answers.inside r) points h.answers told) ∙ chosen_all (λ (p : GridPoint). not (v.answers.inside r p)) points in
      record { points = erased_points v.answers r points; has = ap shape.Points same; is = refl; vertices = All-filter (λ (p : GridPoint). not (v.answers.inside r p)) (Contains (vertices_of (snapped v.drawing))) points vertices }

  point_cut : (k : CutKeeps) (held part : Shape) (s : state.Shape) → PointsShow v held s → IsShapeLeft k plane cut_set held part → PointsShow v part (cut_shape k s)
  point_cut k held part s h left = subst (λ (s : state.Shape). PointsShow v part (cut_shape k s)) (sym h.is) (go part (subst (λ (held : Shape). IsShapeLeft k plane cut_set held part) h.has left))
    where
      go : (part : Shape) → IsShapeLeft k plane cut_set (shape.Points h.points) part → PointsShow v part (cut_shape k (state.points h.points))
      go (shape.Points left) are = points_left k h.points left h.vertices are
      go shape.Nothing none = absurd none
      go (shape.Faces set) none = absurd none
      go (shape.Paths paths) none = absurd none

  row_cut : (k : CutKeeps) (held part : Shape) (s : state.Shape) → NothingShows held s → IsShapeLeft k plane cut_set held part → NothingShows part (cut_shape k s)
  row_cut keeps.Inside held part s h left = record { has = subst (λ (held : Shape). IsShapeLeft keeps.Inside plane cut_set held part) h.has left; is = ap (clip_shape v.answers r) h.is }
  row_cut keeps.Outside held part s h left = record { has = subst (λ (held : Shape). IsShapeLeft keeps.Outside plane cut_set held part) h.has left; is = ap (erase_shape v.answers r) h.is }

  -- ---- layers

  each_cut : (S : Shape → state.Shape → Type 0) (k : CutKeeps) → ((held part : Shape) (s : state.Shape) → S held s → IsShapeLeft k plane cut_set held part → S part (cut_shape k s)) →
      (held parts : List Shape) (shapes : List state.Shape) → AllZip S held shapes → AllZip (IsShapeLeft k plane cut_set) held parts → AllZip S parts (map (cut_shape k) shapes)
  each_cut S k one [] [] [] z left = tt
  each_cut S k one [] [] (s ∷ shapes) z left = absurd z
  each_cut S k one [] (part ∷ parts) shapes z left = absurd left
  each_cut S k one (h ∷ held) parts [] z left = absurd z
  each_cut S k one (h ∷ held) [] (s ∷ shapes) z left = absurd left
  each_cut S k one (h ∷ held) (part ∷ parts) (s ∷ shapes) z left = (one h part s z.0 left.0, each_cut S k one held parts shapes z.1 left.1)

  parts_show : (j : Kind) → (j ≡ kinds.Polygon → ⊥) → (k : CutKeeps) (held parts : List Shape) (shapes : List state.Shape) → AllZip (ShapeShows v j) held shapes → AreShapesLeft j k plane cut_set held parts →
      AllZip (ShapeShows v j) parts (map (cut_shape k) shapes)
  parts_show kinds.Polygon other k held parts shapes z left = absurd (other refl)
  parts_show kinds.Line other k held parts shapes z left = each_cut (LineShows v) k (line_cut k) held parts shapes z left
  parts_show kinds.Point other k held parts shapes z left = each_cut (PointsShow v) k (point_cut k) held parts shapes z left
  parts_show kinds.Table other k held parts shapes z left = each_cut NothingShows k (row_cut k) held parts shapes z left

  parts_long : (j : Kind) → (j ≡ kinds.Polygon → ⊥) → (k : CutKeeps) (held parts : List Shape) → AreShapesLeft j k plane cut_set held parts → length held ≡ length parts
  parts_long kinds.Polygon other k held parts left = absurd (other refl)
  parts_long kinds.Line other k held parts left = zip_long (IsShapeLeft k plane cut_set) held parts left
  parts_long kinds.Point other k held parts left = zip_long (IsShapeLeft k plane cut_set) held parts left
  parts_long kinds.Table other k held parts left = zip_long (IsShapeLeft k plane cut_set) held parts left

  cut_shows : (k : CutKeeps) (layer : Layer) (l : StateLayer) → LayerShows v layer l → (layer.kind ≡ kinds.Polygon → ⊥) → (made : Layer) → IsCut k plane cut_set layer made →
      LayerShows v made (without_empty (plane_of v) v.answers (record l { shapes = map (cut_shape k) l.shapes }))
  cut_shows k layer l h other made cut =
      left_features_show v view layer l h cut.parts (map (cut_shape k) l.shapes) (sym (parts_long layer.kind other k layer.shapes.items cut.parts cut.are) ∙ layer.each)
      (parts_show layer.kind other k layer.shapes.items cut.parts l.shapes h.shapes cut.are) made cut.left

pub clipped_lines_show : ClippedLinesShow
clipped_lines_show v view plane seen cut_set r shows layer l h other =
    let left : StateLayer = without_empty (plane_of v) v.answers (record l { shapes = map (clip_shape v.answers r) l.shapes }) in
    record {
      shows = one_shows v (IsCut keeps.Inside plane cut_set layer) (just left) (λ made cut. (left, refl, cut_shows v view plane seen cut_set r shows keeps.Inside layer l h other made cut));
      refused = (left ∷ [], refl);
    }

pub erased_lines_show : ErasedLinesShow
erased_lines_show v view plane seen cut_set r shows layer l h other =
    let left : StateLayer = without_empty (plane_of v) v.answers (record l { shapes = map (erase_shape v.answers r) l.shapes }) in
    record {
      shows = one_shows v (IsCut keeps.Outside plane cut_set layer) (just left) (λ made cut. (left, refl, cut_shows v view plane seen cut_set r shows keeps.Outside layer l h other made cut));
      refused = (left ∷ [], refl);
    }

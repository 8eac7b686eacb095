-- Shapes without geometry, and layers without them.
use Rattle.std.proofs.Common.{◌≡◌, refl, sym, ap, ◌∙◌, subst, arith, ℕ, suc, ◌+◌, ◌<◌, ◌==◌, Bool, true, false, not, List, [], ◌∷◌, length, map, filter, get_or, All}
use Rattle.std.specs.Prelude.{◌↔◌}
use Rattle.std.specs.Cmp.{unsigned_Decides}
use Rattle.std.specs.List.{AllZip, range_with_len}
use Rattle.std.proofs.lemmas.Bool.{false_from_ne_true}
use Rattle.std.proofs.lemmas.List.Elements.{All-filter, All-contains}
use Rattle.lists.specs.Lists.{numbers_where}
use Rattle.plane_model.specs.Points.{Path}
use Rattle.plane_model.specs.Arcs.{SignedArc}
use Rattle.grid_base.specs.declared.kinds.Kind.{Kind}
use Rattle.grid_base.specs.declared.kinds.Kind.TheVariants as kinds
use Rattle.table_rows.specs.Rows.{row_at}
use Rattle.region_model.specs.Answers.{is_empty as is_empty_region, is_nil}
use Rattle.face_sets.proofs.GapLemmas.{range_below}
use Rattle.face_sets.proofs.SetLemmas.{filter_same}
use Rattle.region_laws.proofs.Answered.{emptiness_is_told}
use Rattle.line_laws.specs.Linked.{points_along}
use Rattle.run_plane.specs.Shapes.{is_empty, shape_at, with_geometry}
use Rattle.run_plane.specs.declared.layer.Layer.{Layer}
use Rattle.run_plane.specs.declared.layer.Shape.{Shape}
use Rattle.run_plane.specs.declared.layer.Shape.TheVariants as shape
use Rattle.run_state.specs.Features.{all_numbers}
use Rattle.chain_model.specs.State as state
use Rattle.chain_model.specs.State.{StateLayer, is_empty_shape, take_features, without_empty}
use Rattle.layer_laws.specs.Shown.{View, IsView, LayerShows, ShapeShows, plane_of}
use Rattle.layer_laws.specs.Taken.{EmptinessShows, LeftFeaturesShow}
use Rattle.layer_laws.proofs.Numbered.{numbers_of_all, taken_of_taken}
use Rattle.layer_laws.proofs.Taking.{rows_show}
use Rattle.layer_laws.proofs.Zipped.{zip_at, zip_long, zip_taken}

-- ---- shapes

counts_nothing : {A : Type 0} (xs : List A) → (length xs == 0) ≡ is_nil xs
counts_nothing [] = refl
counts_nothing (x ∷ xs) = false_from_ne_true (suc (length xs) == 0) (λ e. let none : suc (length xs) ≡ 0 = (unsigned_Decides (suc (length xs)) 0).0 e in absurd (omega (arith, none)))

nothing_is_told : {A : Type 0} (xs : List A) (told : Bool) → (xs ≡ []) ↔ (told ≡ true) → is_nil xs ≡ told
nothing_is_told [] told is = sym (is.0 refl)
nothing_is_told (x ∷ xs) true is = absurd (let none : x ∷ xs ≡ [] = is.1 refl in cc)
nothing_is_told (x ∷ xs) false is = refl

nothing_along : (arcs : List Path) (named : List (List SignedArc)) → is_nil named ≡ is_nil (points_along arcs named)
nothing_along arcs [] = refl
nothing_along arcs (path ∷ named) = refl

pub emptiness_shows : EmptinessShows
emptiness_shows v view kinds.Polygon held s h =
    ap is_empty h.has ∙ counts_nothing h.set
    ∙ nothing_is_told h.set (is_empty_region (plane_of v) v.answers h.region)
    (emptiness_is_told v.drawing v.arcs v.faces v.label view.walked h.set h.shows.inner h.region h.shows.follows v.answers (view.right.sides h.region))
    ∙ sym (ap (is_empty_shape (plane_of v) v.answers) h.is)
emptiness_shows v view kinds.Line held s h =
    ap is_empty h.has ∙ counts_nothing h.named ∙ nothing_along v.arcs h.named ∙ sym (ap is_nil h.shows.along) ∙ sym (ap (is_empty_shape (plane_of v) v.answers) h.is)
emptiness_shows v view kinds.Point held s h = ap is_empty h.has ∙ counts_nothing h.points ∙ sym (ap (is_empty_shape (plane_of v) v.answers) h.is)
emptiness_shows v view kinds.Table held s h = ap is_empty h.has ∙ sym (ap (is_empty_shape (plane_of v) v.answers) h.is)

-- ---- layers

-- the state's shape has a geometry
abbrev pub has_some : View → state.Shape → Bool
has_some v s = not (is_empty_shape (plane_of v) v.answers s)

module _ (v : View) (view : IsView v) (k : Kind) (parts : List Shape) (shapes : List state.Shape) (show : AllZip (ShapeShows v k) parts shapes) where
  pub geometry_shows : (n : ℕ) → n < length parts → not (is_empty (shape_at parts n)) ≡ has_some v (get_or shapes n state.no_shape)
  geometry_shows n l = ap not (emptiness_shows v view k (shape_at parts n) (get_or shapes n state.no_shape) (zip_at (ShapeShows v k) parts shapes show n shape.Nothing state.no_shape l))

  -- the same features are left
  left_alike : with_geometry parts (range_with_len 0 (length parts)) ≡ numbers_where (has_some v) shapes
  left_alike =
      let long : length parts ≡ length shapes = zip_long (ShapeShows v k) parts shapes show in
      ap (λ (c : ℕ). with_geometry parts (range_with_len 0 c)) long
      ∙ numbers_of_all (has_some v) (λ (n : ℕ). not (is_empty (shape_at parts n))) 0 shapes (λ n d l.
      let start : 0 + n ≡ n = omega arith in
      ap (λ (m : ℕ). not (is_empty (shape_at parts m))) start
      ∙ ap not (emptiness_shows v view k (shape_at parts n) (get_or shapes n d) (zip_at (ShapeShows v k) parts shapes show n shape.Nothing d (omega (arith, long, l)))))

  all_left_below : All (λ n. n < length parts) (with_geometry parts (range_with_len 0 (length parts)))
  all_left_below = All-filter (λ (n : ℕ). not (is_empty (shape_at parts n))) (λ n. n < length parts) (range_with_len 0 (length parts)) (range_below (length parts))

pub left_features_show : LeftFeaturesShow
left_features_show v view layer l h parts shapes counted show made leaves =
    let all : List ℕ = with_geometry parts (all_numbers layer) in
    let here : with_geometry parts (range_with_len 0 (length parts)) ≡ all = ap (λ (c : ℕ). with_geometry parts (range_with_len 0 c)) counted in
    let below : All (λ n. n < length parts) all = subst (All (λ n. n < length parts)) here (all_left_below v view layer.kind parts shapes show) in
    let taken = zip_taken (ShapeShows v layer.kind) parts shapes show shape.Nothing state.no_shape all below in
    let same : all ≡ numbers_where (has_some v) shapes = sym here ∙ left_alike v view layer.kind parts shapes show in
    subst (λ (ns : List ℕ). LayerShows v made (take_features (record l { shapes = shapes }) ns)) same
    (rows_show v layer l h all (map (shape_at parts) all) (map (λ (n : ℕ). get_or shapes n state.no_shape) all) taken made leaves)

-- ---- features that are taken, and then those of them that have a geometry

abbrev some_of : View → StateLayer → List ℕ → List ℕ
some_of v l numbers = filter (λ (n : ℕ). has_some v (state.shape_at l n)) numbers

pub without_empty_of : (v : View) (l : StateLayer) (numbers : List ℕ) → without_empty (plane_of v) v.answers (take_features l numbers) ≡ take_features l (some_of v l numbers)
without_empty_of v l numbers =
    let rows = taken_of_taken (state.shape_at l) (row_at l.table.rows) (has_some v) numbers [] in
    let shapes = taken_of_taken (state.shape_at l) (state.shape_at l) (has_some v) numbers state.no_shape in
    λ i. record l { table = record { names = l.table.names; rows = rows i }; shapes = shapes i }

-- the numbers of those that have a geometry
pub some_alike : (v : View) → IsView v → (layer : Layer) (l : StateLayer) → LayerShows v layer l → (numbers : List ℕ) → All (λ n. n < length layer.shapes.items) numbers → with_geometry layer.shapes.items numbers ≡ some_of v l numbers
some_alike v view layer l h numbers below =
    filter_same (λ (n : ℕ). not (is_empty (shape_at layer.shapes.items n))) (λ (n : ℕ). has_some v (state.shape_at l n)) numbers
    (λ n c. geometry_shows v view layer.kind layer.shapes.items l.shapes h.shapes n (All-contains (λ k. k < length layer.shapes.items) numbers n below c))

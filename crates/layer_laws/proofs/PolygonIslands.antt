-- Polygons without their islands.
use Rattle.std.proofs.Common.{◌≡◌, refl, sym, ◌∙◌, subst, arith, ℕ, ◌<◌, Bool, true, false, not, nat_lt, List, [], ◌∷◌, length, All, filter}
use Rattle.std.specs.List.{AllZip}
use Rattle.std.specs.List.Sorted.{IsStrictlyIncreasing}
use Rattle.std.proofs.lemmas.List.Elements.{All-filter, All-from_get_or, All-get_or}
use Rattle.lists.specs.Lists.{ascending}
use Rattle.lists.proofs.Ascending.{ascending-IsAscending}
use Rattle.plane_model.specs.Points.{Path}
use Rattle.plane_model.specs.Snapped.{snapped}
use Rattle.face_walk.specs.Places.{FaceTable}
use Rattle.face_sets.specs.Sets.{IsInnerFace, IsSetOf}
use Rattle.face_sets.proofs.SetLemmas.{All-ascending, from_ascending, nat_order}
use Rattle.calc_ops.specs.Islands.{AreWithoutIslands, is_island, mainland, set_at}
use Rattle.region_model.specs.Region.{Region, part}
use Rattle.region_model.specs.PolygonCommands.{without_islands}
use Rattle.region_laws.specs.Regions.{FollowEach}
use Rattle.island_laws.specs.Left.{TellParts}
use Rattle.island_laws.proofs.IslandsLeft.{islands_are_followed}
use Rattle.run_plane.specs.declared.layer.Layer.{Layer}
use Rattle.run_plane.specs.declared.plane.Plane.{Plane}
use Rattle.run_shapes.specs.Islands.{IsMainland}
use Rattle.chain_model.specs.State.{StateLayer, region_at, regions_in}
use Rattle.chain_model.specs.Features.{count_of, islands_layer, just}
use Rattle.layer_laws.specs.Shown.{View, IsView, FacesShow, LayerShows, plane_of, IsSeenIn}
use Rattle.layer_laws.specs.Polygons.{IslandsShow, PolygonsShow}
use Rattle.layer_laws.proofs.PolygonCleaning.{made_shows, with_regions}
use Rattle.layer_laws.proofs.PolygonParts.{parts_inner}
use Rattle.layer_laws.proofs.PolygonSets.{all_inner, follow_regions, joined_inner, layer_sets, sets_many, sets_of}
use Rattle.layer_laws.proofs.TableCommands.{one_shows}

-- ---- what is left of sets

module _ (v : View) (sets : List (List ℕ)) (inner : All (IsSetOf v.faces) sets) (least_area least_links : ℕ) (left : List (List ℕ)) (are : AreWithoutIslands v.arcs v.faces sets least_area least_links (length sets) left) where
  abbrev stays : ℕ → List ℕ → Bool
  stays n piece = not (is_island v.arcs v.faces sets least_area least_links n piece)

  abbrev faces_left : ℕ → List (List ℕ) → List ℕ
  faces_left n pieces = mainland v.arcs v.faces sets least_area least_links n pieces

  left_rise : All IsStrictlyIncreasing left
  left_rise = All-from_get_or IsStrictlyIncreasing left [] (λ n l.
      let below : n < length sets = (let each = are.each in omega (arith, l, each)) in
      let one = are.exact n below in
      subst IsStrictlyIncreasing (sym one.faces_left) (from_ascending (ascending nat_lt (faces_left n one.pieces)) (ascending-IsAscending nat_lt nat_order (faces_left n one.pieces))))

  left_inner : All (IsSetOf v.faces) left
  left_inner = All-from_get_or (IsSetOf v.faces) left [] (λ n l.
      let below : n < length sets = (let each = are.each in omega (arith, l, each)) in
      let one = are.exact n below in
      let pieces : All (IsSetOf v.faces) one.pieces = parts_inner v.faces (set_at sets n) one.pieces (All-get_or (IsSetOf v.faces) sets n [] below inner) one.are in
      subst (IsSetOf v.faces) (sym one.faces_left)
      (All-ascending (IsInnerFace v.faces) (faces_left n one.pieces) (joined_inner v (filter (stays n) one.pieces) (All-filter (stays n) (IsSetOf v.faces) one.pieces pieces))))

-- ---- layers

module _ (v : View) (view : IsView v) (plane : Plane) (seen : IsSeenIn v plane) (layer : Layer) (l : StateLayer) (h : PolygonsShow v layer l) (least_area least_links : ℕ) where
  abbrev sets : List (List ℕ)
  sets = sets_of layer

  abbrev left_of : ℕ → ℕ → Region
  left_of many = without_islands (plane_of v) v.answers least_area least_links (region_at l) many

  -- over the arcs and faces of the view
  seen_by : (left : List (List ℕ)) → AreWithoutIslands plane.arcs plane.faces sets least_area least_links (length sets) left → AreWithoutIslands v.arcs v.faces sets least_area least_links (length sets) left
  seen_by left are =
      subst (λ (faces : FaceTable). AreWithoutIslands v.arcs faces sets least_area least_links (length sets) left) seen.faces
      (subst (λ (arcs : List Path). AreWithoutIslands arcs plane.faces sets least_area least_links (length sets) left) seen.arcs are)

  tell : TellParts (plane_of v) v.answers (region_at l) (length sets)
  tell = record {
    sides = λ n below. view.right.sides (region_at l n);
    part_sides = λ n j below. view.right.sides (part (region_at l n) j);
    parts = λ n j below. view.right.parts (region_at l n) j;
  }

  mainland_shows : (remove_empty : Bool) (m : Layer) → IsMainland least_area least_links remove_empty plane layer m → LayerShows v m (with_regions v l (not remove_empty) (left_of (count_of l)))
  mainland_shows remove_empty m is =
      let are = seen_by is.sets is.left in
      let shown : AllZip (FacesShow v) sets (regions_in l) = layer_sets v layer l h in
      let inner = all_inner v sets (regions_in l) shown in
      let many : length sets ≡ count_of l = sets_many v layer l h in
      let follow : FollowEach (snapped v.drawing) v.arcs v.label is.sets (left_of (count_of l)) =
      subst (λ (c : ℕ). FollowEach (snapped v.drawing) v.arcs v.label is.sets (left_of c)) many
      (islands_are_followed v.drawing v.arcs v.faces v.label view.walked sets inner (region_at l) (follow_regions v layer l h sets shown) v.answers tell least_area least_links is.sets are) in
      made_shows v view layer l h is.sets (left_of (count_of l)) (left_rise v sets inner least_area least_links is.sets are) (left_inner v sets inner least_area least_links is.sets are) follow
      (are.each ∙ many) (not remove_empty) m is.has

  -- the state's answer
  answer_is : (remove_empty : Bool) → islands_layer (plane_of v) v.answers least_area least_links remove_empty l ≡ just (with_regions v l (not remove_empty) (left_of (count_of l)))
  answer_is true = refl
  answer_is false = refl

pub islands_show : IslandsShow
islands_show v view plane seen layer l h least_area least_links remove_empty =
    let left : StateLayer = with_regions v l (not remove_empty) (left_of v view plane seen layer l h least_area least_links (count_of l)) in
    let is = answer_is v view plane seen layer l h least_area least_links remove_empty in
    record {
      shows = one_shows v (IsMainland least_area least_links remove_empty plane layer) (islands_layer (plane_of v) v.answers least_area least_links remove_empty l) (λ m made.
          (left, is, mainland_shows v view plane seen layer l h least_area least_links remove_empty m made));
      refused = (left ∷ [], is);
    }

-- The paths of a drawing, between its hot points, and the drawing snapped by them.
use Rattle.std.proofs.Common.{◌≡◌, ◌≢◌, refl, sym, ap, subst, List, [], ◌∷◌, ◌++◌, map, get_or, Contains, All}
use Rattle.std.specs.List.{flat_map}
use Rattle.std.proofs.lemmas.List.{get_or_default}
use Rattle.std.proofs.lemmas.List.Elements.{Contains-append_left, Contains-append_right, All-contains}
use Rattle.lists.specs.Lists.{drop_repeats, joined_up}
use Rattle.lists.proofs.Members.{Contains-joined_up, Contains-flat_map, flat_map-Contains, map-Contains}
use Rattle.lists.proofs.Ascending.{Contains-ascending}
use Rattle.plane_model.specs.Points.{GridPoint, Path, Segment, same_point, is_before}
use Rattle.plane_model.specs.Drawing.{Drawing, steps, steps_of_paths, paths_of, rings_of, vertices_of, segments_of}
use Rattle.plane_model.specs.Hot.{hot_points, chain_among, crossings_with}
use Rattle.plane_model.specs.Snapped.{joined_chains, snapped_path, snapped_by, snapped}
use Rattle.plane_model.proofs.PointOrder.{is_before-IsStrictOrder}
use Rattle.plane_snapping.proofs.Steps.{step_of_each}
use Rattle.plane_snapping.proofs.SnappedPaths.{path_vertex, snapped_path_is, IsChainLink}
use Rattle.plane_snapping.proofs.SnappedLinks.{paths_snapped}
use Rattle.grid_base.specs.Drawn.{HasPaths, IsPath, IsRing}
use Rattle.hot_pixels.specs.Chains.{AreHotPointsOf}
use Rattle.hot_pixels.proofs.ChainLemmas.{chain_is_drawn}
use Rattle.snap_round.specs.Joining.{IsHotPath, IsHotRing}
use Rattle.snap_round.specs.Paths.{HasHotPaths}

all_of : {A : Type 0} (P : A → Type 0) (xs : List A) → ((x : A) → Contains xs x → P x) → All P xs
all_of P xs h = λ i d l. h (get_or xs i d) (i, l, get_or_default xs i (get_or xs i d) d l)

pub vertex_listed : (d : Drawing) (p : GridPoint) → Contains (vertices_of d) p → Contains (hot_points d) p
vertex_listed d p c = Contains-append_left (vertices_of d) (flat_map (crossings_with (segments_of d)) (segments_of d)) p c

module _ (d : Drawing) (hot : List GridPoint) (h : HasPaths d) (e : AreHotPointsOf d hot) where
  path_hot : (path : Path) → Contains (paths_of d) path → IsPath path → IsHotPath hot path
  path_hot path c is = record {
    is_path = is;
    all_hot = λ p k. subst (λ (hots : List GridPoint). Contains hots p) (sym e) (Contains-ascending is_before is_before-IsStrictOrder (hot_points d) p (vertex_listed d p (path_vertex d path p c k)));
  }

  ring_hot : (path : Path) → Contains (paths_of d) path → IsRing path → IsHotRing hot path
  ring_hot path c is = record { is_path = path_hot path c is.is_path; closed = is.closed }

  abbrev P : List Path
  P = flat_map rings_of d.polygons

  pub has_hot_paths : HasHotPaths hot d
  has_hot_paths = record {
    rings = all_of (All (All (IsHotRing hot))) d.polygons (λ feature f. all_of (All (IsHotRing hot)) feature (λ polygon p. all_of (IsHotRing hot) polygon (λ ring r.
        ring_hot ring (Contains-append_left (P ++ joined_up d.lines) d.boxes ring (Contains-append_left P (joined_up d.lines) ring (Contains-flat_map rings_of d.polygons feature ring f (Contains-joined_up feature polygon ring p r))))
        (All-contains IsRing polygon ring (All-contains (All IsRing) feature polygon (All-contains (All (All IsRing)) d.polygons feature h.rings f) p) r))));
    lines = all_of (All (IsHotPath hot)) d.lines (λ feature f. all_of (IsHotPath hot) feature (λ line l.
        path_hot line (Contains-append_left (P ++ joined_up d.lines) d.boxes line (Contains-append_right P (joined_up d.lines) line (Contains-joined_up d.lines feature line f l)))
        (All-contains IsPath feature line (All-contains (All IsPath) d.lines feature h.lines f) l)));
    boxes = all_of (IsHotRing hot) d.boxes (λ box b.
        ring_hot box (Contains-append_right (P ++ joined_up d.lines) d.boxes box b) (All-contains IsRing d.boxes box h.boxes b));
  }

joined_alike : (hot all : List GridPoint) → chain_among hot ≡ chain_among all → (path : Path) → joined_chains hot path ≡ joined_chains all path
joined_alike hot all e [] = refl
joined_alike hot all e (p ∷ []) = refl
joined_alike hot all e (p ∷ q ∷ rest) = ap (λ (f : Segment → Path). drop_repeats same_point (flat_map f (steps (p ∷ q ∷ rest)))) e

pub snapped_alike : (d : Drawing) (hot : List GridPoint) → AreHotPointsOf d hot → snapped_by hot d ≡ snapped d
snapped_alike d hot e =
    let chains : chain_among hot ≡ chain_among (hot_points d) = λ i s. chain_is_drawn d s hot e i in
    let f : snapped_path hot ≡ snapped_path (hot_points d) = λ i path. joined_alike hot (hot_points d) chains (drop_repeats same_point path) i in
    λ i. record { polygons = map (map (map (f i))) d.polygons; lines = map (map (f i)) d.lines; points = d.points; boxes = map (f i) d.boxes }

-- a step of a snapped path moves along a link of a chain
pub snapped_step : (d : Drawing) (s : Segment) → Contains (steps_of_paths (paths_of (snapped d))) s → (s.start ≢ s.stop) × IsChainLink d s.start s.stop
snapped_step d s c =
    let k = flat_map-Contains steps (paths_of (snapped d)) s c in
    let m = map-Contains (snapped_path (hot_points d)) (paths_of d) k.0 (subst (λ (paths : List Path). Contains paths k.0) (paths_snapped d) k.1) in
    let there : Contains (steps (snapped_path (hot_points d) m.0)) s = subst (λ (path : Path). Contains (steps path) s) (sym m.2) k.2 in
    step_of_each (λ u v. (u ≢ v) × IsChainLink d u v) (snapped_path (hot_points d) m.0) (snapped_path_is d m.0 m.1).links s there

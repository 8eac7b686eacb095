-- The rings and the lines that a run prints go along the links of its plane.
use Rattle.std.proofs.Common.{◌≡◌, sym, subst, Bool, true, false, List, [], ◌∷◌, All}
use Rattle.std.specs.Prelude.{MatchBool}
use Rattle.std.specs.List.{AllZip}
use Rattle.std.proofs.lemmas.List.Elements.{All-contains, All-nil}
use Rattle.std.proofs.lemmas.List.Sorted.{All-permutation}
use Rattle.lists.specs.Lists.{joined_up}
use Rattle.lists.proofs.Members.{Contains-flat_map}
use Rattle.plane_model.specs.Arrangement.{IsArrangement}
use Rattle.plane_model.specs.Drawing.{Polygon, steps, steps_of_paths}
use Rattle.plane_model.specs.Points.{GridPoint, Path, Segment}
use Rattle.plane_model.specs.Rings.{UsesOnce}
use Rattle.plane_snapping.proofs.SnappedLinks.{snapped_links_are_an_arrangement}
use Rattle.geojson_io.specs.Geometries.{some_lines, some_points}
use Rattle.geojson_io.specs.LayerContent.{LayerContent}
use Rattle.geojson_io.specs.declared.shape.GeoShape.{GeoShape}
use Rattle.geojson_io.specs.declared.shape.GeoShape.TheVariants as geo
use Rattle.region_model.specs.Answers.{Answers, Plane, boundary, is_empty}
use Rattle.region_model.specs.Printed.{Fits}
use Rattle.region_model.specs.Region.{Region}
use Rattle.chain_model.specs.Pictures.{Shows, ShowsRegion, ShowsShape}
use Rattle.chain_model.specs.Running.{run_from}
use Rattle.chain_model.specs.State.{Shape, StateLayer, region, paths, points, no_shape}
use Rattle.outcome_laws.specs.Laws.{GoesAlong, IsAlong, IsOfClosedRings, OutputGoesAlong, PictureGoesAlong, PrintedStepsAreLinks, paths_in}
use Rattle.outcome_laws.proofs.Every.{Every, all_by, all_from, all_zip}
use Rattle.outcome_laws.proofs.ArcSteps.{Goes}
use Rattle.outcome_laws.proofs.Alike.{boundary_along}
use Rattle.outcome_laws.proofs.Shapes.{LayerIsOn, ShapeIsOn}
use Rattle.outcome_laws.proofs.Stepping.{LayersAreOn}
use Rattle.outcome_laws.proofs.Beginnings.{BegunIsOn, IsOnPlane, begins_on}
use Rattle.outcome_laws.proofs.BegunRings.{begun_rings_are_closed}
use Rattle.outcome_laws.proofs.Running.{OutputIsOn, run_on}

goes_along : (S : List Segment) (path : Path) → Goes S path → GoesAlong S path
goes_along S path g = all_by (IsAlong S) (IsAlong S) (λ s a. a) (steps path) g

module _ (P : Plane) (A : Answers) where
  abbrev PathsGo : GeoShape → Type 0
  PathsGo s = All (GoesAlong P.links) (paths_in s)

  -- rings that use a boundary once have no steps but its own, which go along links
  rings_go : (r : Region) (rings : List Path) → UsesOnce (boundary P A r) rings → All (GoesAlong P.links) rings
  rings_go r rings uses = all_from (GoesAlong P.links) rings (λ ring c. all_from (IsAlong P.links) (steps ring) (λ s d. All-contains (IsAlong P.links) (steps_of_paths rings) s used (Contains-flat_map steps rings ring s c d)))
    where
      used : All (IsAlong P.links) (steps_of_paths rings)
      used = All-permutation (IsAlong P.links) (boundary P A r) (steps_of_paths rings) uses.steps_once (all_by (IsAlong P.links) (IsAlong P.links) (λ s a. a) (boundary P A r) (boundary_along P A r))

  region_goes : (r : Region) (s : GeoShape) → ShowsRegion P A r s → PathsGo s
  region_goes r s shows = go (is_empty P A r) shows
    where
      go : (b : Bool) → MatchBool b (s ≡ geo.Nothing) ((polygons : List Polygon) × (s ≡ geo.Polygons polygons) × Fits P A r polygons) → PathsGo s
      go true e = subst PathsGo (sym e) (All-nil (GoesAlong P.links))
      go false h = subst PathsGo (sym h.1) (rings_go r (joined_up h.0) h.2.whole)

  lines_go : (ps : List Path) → Every (Goes P.links) ps → PathsGo (some_lines ps)
  lines_go [] on = All-nil (GoesAlong P.links)
  lines_go (p ∷ ps) on = all_by (Goes P.links) (GoesAlong P.links) (goes_along P.links) (p ∷ ps) on

  points_go : (ps : List GridPoint) → PathsGo (some_points ps)
  points_go [] = All-nil (GoesAlong P.links)
  points_go (p ∷ ps) = All-nil (GoesAlong P.links)

  shape_goes : (s : Shape) (drawn : GeoShape) → ShapeIsOn P s → ShowsShape P A s drawn → PathsGo drawn
  shape_goes (region r) drawn on shows = region_goes r drawn shows
  shape_goes (paths ps) drawn on shows = subst PathsGo (sym shows) (lines_go ps on)
  shape_goes (points ps) drawn on shows = subst PathsGo (sym shows) (points_go ps)
  shape_goes no_shape drawn on shows = subst PathsGo (sym shows) (All-nil (GoesAlong P.links))

  picture_goes : (l : StateLayer) (picture : LayerContent) → LayerIsOn P l → Shows P A l picture → PictureGoesAlong P.links picture
  picture_goes l picture on shows = all_zip (ShapeIsOn P) (ShowsShape P A) PathsGo shape_goes l.shapes picture.shapes on shows.shapes

  pictures_go : (ls : List StateLayer) (pictures : List LayerContent) → LayersAreOn P ls → AllZip (Shows P A) ls pictures → All (PictureGoesAlong P.links) pictures
  pictures_go ls pictures on shown = all_zip (LayerIsOn P) (Shows P A) (PictureGoesAlong P.links) picture_goes ls pictures on shown

pub printed_steps_are_links : PrintedStepsAreLinks
printed_steps_are_links read c files input b e =
    let plane : IsOfClosedRings b.plane = begun_rings_are_closed read c files input b e in
    let on : IsOnPlane b = subst BegunIsOn e (begins_on read c files input) in
    record {
      meet_at_ends = subst (λ (P : Plane). IsArrangement P.links) (sym plane.is) (snapped_links_are_an_arrangement plane.drawing).0;
      arcs = all_by (Goes b.plane.links) (GoesAlong b.plane.links) (goes_along b.plane.links) b.plane.arcs on.walked.arcs;
      outputs = λ A. all_by (OutputIsOn b.plane) (OutputGoesAlong b.plane A) (λ o there pictures shown. pictures_go b.plane A o.written.layers pictures there shown)
          (run_from b.plane A b.sources 1 b.state b.commands).0 (run_on b.plane A on.walked b.sources on.sources b.commands 1 b.state on.state);
    }

-- What a run begins with lies on its plane.
use Rattle.std.proofs.Common.{◌≡◌, refl, sym, subst, ℕ, ◌+◌, Bool, true, false, List, [], ◌∷◌, ◌++◌, map, zip, Result, Ok, Err, Contains}
use Rattle.std.specs.Prelude.{if◌then◌else◌, nat_lt, slice_index_or}
use Rattle.std.specs.List.{enumerate_from}
use Rattle.lists.specs.Lists.{joined_up}
use Rattle.lists.proofs.Members.{Contains-flat_map, Contains-head, Contains-joined_up, Contains-later, Contains-map}
use Rattle.plane_model.specs.Drawing.{Drawing}
use Rattle.plane_model.specs.Snapped.{link_count, snapped}
use Rattle.grid_base.specs.Grid.{Corners}
use Rattle.grid_base.specs.declared.kinds.Kind.{Kind}
use Rattle.grid_base.specs.declared.kinds.Kind.TheVariants as kind
use Rattle.io_core.specs.Contents.{Content, FileMap}
use Rattle.geojson_io.specs.LayerContent.{LayerContent}
use Rattle.geojson_io.specs.Layers.{same_kind}
use Rattle.geojson_io.specs.declared.shape.GeoShape.{GeoShape}
use Rattle.table_terms.specs.Refusals.{on_ok}
use Rattle.job_terms.specs.declared.job.Chain.{Chain}
use Rattle.job_terms.specs.declared.job.SourceWord.{SourceWord}
use Rattle.region_model.specs.Answers.{Plane, plane_of}
use Rattle.chain_model.specs.Beginning.{command_layers, count_of, drawing_of, first_layers, first_shape, first_sources, has_links, import_layers, is_import, points_of, shapes_of}
use Rattle.chain_model.specs.Outcome.{Outcome, too_dense}
use Rattle.chain_model.specs.Running.{Begun, begins, begun_with, checked_density, link_limit}
use Rattle.chain_model.specs.Sources.{Readings, imported, whole_room}
use Rattle.chain_model.specs.State.{StateLayer}
use Rattle.outcome_laws.proofs.Every.{Every, every_filter, every_flat, every_from, every_map, every_place}
use Rattle.outcome_laws.proofs.ArcSteps.{Goes}
use Rattle.outcome_laws.proofs.Planes.{IsWalked, plane_walked, points_listed}
use Rattle.outcome_laws.proofs.Shapes.{LayerIsOn, ShapeIsOn}
use Rattle.outcome_laws.proofs.Stepping.{LayersAreOn, SourcesAreOn, StateIsOn}

-- ## The first layers, over the drawing of all layers

module _ (all : List LayerContent) (boxes : List Corners) where
  abbrev drawing : Drawing
  drawing = drawing_of all boxes

  abbrev here : Plane
  here = plane_of drawing

  -- a shape of a point layer is one of those that are drawn
  is_drawn : (l : LayerContent) → Contains all l → l.kind ≡ kind.Point → (s : GeoShape) → Contains l.shapes s → Contains (shapes_of kind.Point all) s
  is_drawn l c e s d = Contains-flat_map (λ (m : LayerContent). if same_kind m.kind kind.Point then m.shapes else []) all l s c (subst (λ (k : Kind). Contains (if same_kind k kind.Point then l.shapes else []) s) (sym e) d)

  shape_on : (l : LayerContent) → Contains all l → (n : ℕ) (s : GeoShape) → Contains l.shapes s → ShapeIsOn here (first_shape here l.kind n s)
  shape_on l c n s d = go l.kind refl
    where
      go : (k : Kind) → l.kind ≡ k → ShapeIsOn here (first_shape here k n s)
      go kind.Polygon e = tt
      go kind.Line e = every_filter (Goes here.links) has_links (slice_index_or here.drawing.lines n []) (every_place (Every (Goes here.links)) [] tt here.drawing.lines (plane_walked drawing).lines n)
      go kind.Point e = points_listed drawing (points_of s) (Contains-map points_of (shapes_of kind.Point all) s (is_drawn l c e s d))
      go kind.Table e = tt

  shapes_on : (l : LayerContent) → Contains all l → (n : ℕ) (ss : List GeoShape) → ((s : GeoShape) → Contains ss s → Contains l.shapes s) →
      Every (ShapeIsOn here) (map (λ (s : ℕ × GeoShape). first_shape here l.kind s.0 s.1) (enumerate_from n ss))
  shapes_on l c n [] h = tt
  shapes_on l c n (s ∷ ss) h = (shape_on l c n s (h s (Contains-head s ss)), shapes_on l c (n + 1) ss (λ t d. h t (Contains-later s ss t d)))

  layers_on : (before ls : List LayerContent) → Every (Contains all) ls → LayersAreOn here (first_layers here before ls)
  layers_on before [] h = tt
  layers_on before (l ∷ ls) h = (shapes_on l h.0 (count_of l.kind before) l.shapes (λ s d. d), layers_on (before ++ l ∷ []) ls h.1)

  sources_on : (before : List LayerContent) (given : List (List LayerContent)) → Every (Every (Contains all)) given → SourcesAreOn here (first_sources here before given)
  sources_on before [] h = tt
  sources_on before (ls ∷ given) h = (layers_on before ls h.0, sources_on (before ++ ls) given h.1)

-- ## Those of the import, and those of commands

module _ (P : Plane) where
  zipped_on : (words : List SourceWord) (sources : List (List StateLayer)) → SourcesAreOn P sources → Every (λ (s : SourceWord × List StateLayer). LayersAreOn P s.1) (zip words sources)
  zipped_on [] sources h = tt
  zipped_on (w ∷ words) [] h = tt
  zipped_on (w ∷ words) (ls ∷ sources) h = (h.0, zipped_on words sources h.1)

  if_import : (b : Bool) (ls : List StateLayer) → LayersAreOn P ls → LayersAreOn P (if b then ls else [])
  if_import true ls h = h
  if_import false ls h = tt

  if_command : (b : Bool) (ls : List StateLayer) → LayersAreOn P ls → LayersAreOn P (if b then [] else ls)
  if_command true ls h = tt
  if_command false ls h = h

  imports_on : (words : List SourceWord) (sources : List (List StateLayer)) → SourcesAreOn P sources → LayersAreOn P (import_layers words sources)
  imports_on words sources h = every_flat (λ (s : SourceWord × List StateLayer). LayersAreOn P s.1) (LayerIsOn P) (λ (s : SourceWord × List StateLayer). if is_import s.0.owner then s.1 else []) (λ s g. if_import (is_import s.0.owner) s.1 g) (zip words sources) (zipped_on words sources h)

  commands_on : (words : List SourceWord) (sources : List (List StateLayer)) → SourcesAreOn P sources → SourcesAreOn P (command_layers words sources)
  commands_on words sources h = every_map (λ (s : SourceWord × List StateLayer). LayersAreOn P s.1) (LayersAreOn P) (λ (s : SourceWord × List StateLayer). if is_import s.0.owner then [] else s.1) (λ s g. if_command (is_import s.0.owner) s.1 g) (zip words sources) (zipped_on words sources h)

-- ## What has begun

pub record IsOnPlane (b : Begun) : Type 0 where
  pub walked : IsWalked b.plane
  pub sources : SourcesAreOn b.plane b.sources
  pub state : StateIsOn b.plane b.state

abbrev pub BegunIsOn : Result Begun Outcome → Type 0
BegunIsOn (Ok b) = IsOnPlane b
BegunIsOn (Err o) = Unit {0}

module _ (c : Chain) (given : List (List LayerContent)) where
  abbrev of_all : Drawing
  of_all = drawing_of (joined_up given) c.boxes

  begun_is_on : IsOnPlane (begun_with c given (plane_of of_all))
  begun_is_on =
      let all_there : Every (Every (Contains (joined_up given))) given = every_from (Every (Contains (joined_up given))) given (λ ls d. every_from (Contains (joined_up given)) ls (λ l e. Contains-joined_up given ls l d e)) in
      let first : SourcesAreOn (plane_of of_all) (first_sources (plane_of of_all) [] given) = sources_on (joined_up given) c.boxes [] given all_there in
      record {
        walked = plane_walked of_all;
        sources = commands_on (plane_of of_all) c.sources (first_sources (plane_of of_all) [] given) first;
        state = imports_on (plane_of of_all) c.sources (first_sources (plane_of of_all) [] given) first;
      }

  drawn_is_on : BegunIsOn (on_ok (checked_density of_all) (λ (d : Drawing). Ok (begun_with c given (plane_of d))))
  drawn_is_on = go (nat_lt link_limit (link_count (snapped of_all)))
    where
      go : (b : Bool) → BegunIsOn (on_ok (if b then Err (too_dense (link_count (snapped of_all))) else Ok of_all) (λ (d : Drawing). Ok (begun_with c given (plane_of d))))
      go true = tt
      go false = begun_is_on

pub begins_on : (read : Readings) (c : Chain) (files : FileMap) (input : Content) → BegunIsOn (begins read c files input)
begins_on read c files input = go (imported read c.places files input 0 whole_room 1 c.sources)
  where
    go : (r : Result (List (List LayerContent)) Outcome) →
        BegunIsOn (on_ok r (λ (given : List (List LayerContent)). on_ok (checked_density (drawing_of (joined_up given) c.boxes)) (λ (d : Drawing). Ok (begun_with c given (plane_of d)))))
    go (Err o) = tt
    go (Ok given) = drawn_is_on c given

-- Chains whose commands begin.
use Rattle.std.proofs.Common.{◌≡◌, ◌≤◌, List, [], Result, Ok, length, refl, sym, ap, ◌∙◌, subst}
use Rattle.std.specs.List.{AllZip}
use Rattle.lists.specs.Lists.{joined_up}
use Rattle.plane_model.specs.Arcs.{arcs_of}
use Rattle.plane_model.specs.Drawing.{Drawing}
use Rattle.plane_model.specs.Snapped.{link_count, links_of, snapped}
use Rattle.io_core.specs.Contents.{Content, FileMap}
use Rattle.geojson_io.specs.LayerContent.{LayerContent}
use Rattle.job_terms.specs.declared.job.Chain.{Chain}
use Rattle.job_terms.specs.declared.job.Job.TheVariants as job
use Rattle.run_plane.specs.Begun.{IsFew}
use Rattle.run_sources.specs.Sources.{SourcesSeen}
use Rattle.run_outcome.specs.declared.outcome.Outcome.{Outcome}
use Rattle.run_chain.specs.Effects.{OutsideSeen}
use Rattle.run_chain.specs.Running.{RunsCommands}
use Rattle.region_model.specs.Answers.{plane_of}
use Rattle.table_terms.specs.Refusals.{on_ok}
use Rattle.chain_model.specs.Beginning.{command_layers, drawing_of, first_sources, import_layers}
use Rattle.chain_model.specs.Outcome as model
use Rattle.chain_model.specs.Running.{Begun, begins, begun_with}
use Rattle.chain_model.specs.Sources.{Readings}
use Rattle.chain_model.specs.State.{StateLayer}
use Rattle.layer_laws.specs.Beginnings.{BeginningShows, drawing_by}
use Rattle.layer_laws.specs.Shown.{View, IsSeenIn, LayerShows, SourcesShow}
use Rattle.layer_laws.specs.Shown as shown
use Rattle.layer_laws.specs.Views.{IsViewOf}
use Rattle.layer_laws.proofs.Begun.{beginnings_show, drawings_are_one}
use Rattle.layer_laws.proofs.PolygonPlanes.{planes_are_seen}
use Rattle.layer_laws.proofs.Targeting.{first_layers_show}
use Rattle.headline_laws.specs.Begins.{BegunShows, ChainsBegin}
use Rattle.headline_laws.specs.Ends.{IsAsked}
use Rattle.headline_laws.proofs.Asked.{all_imported}
use Rattle.headline_laws.proofs.Dense.{not_dense}
use Rattle.headline_laws.proofs.Ending.{past}
use Rattle.headline_laws.proofs.BegunPlanes.{sources_alike, view_plane}

module _ (read : Readings) (line : List Content) (c : Chain) (seen : SourcesSeen) (files : FileMap) (bytes : Content) (a : IsAsked read line (job.Chain c) seen files bytes) (before after : OutsideSeen) (o : Outcome) (run : RunsCommands c seen before after o) where
  abbrev given : List (List LayerContent)
  given = run.layers

  -- the drawing of the model
  abbrev drawn : Drawing
  drawn = drawing_of (joined_up given) c.boxes

  begins_so : begins read c files bytes ≡ Ok (begun_with c given (plane_of drawn))
  begins_so =
      let few : link_count (snapped drawn) ≤ 8000000 = subst IsFew (drawings_are_one (joined_up given) c.boxes) run.few in
      ap (past c) (all_imported read line c seen run.read files bytes a given run.given)
      ∙ ap (λ (r : Result Drawing model.Outcome). on_ok r (λ (d : Drawing). Ok (begun_with c given (plane_of d)))) (not_dense drawn few)

  module _ (v : View) (is : IsViewOf (drawing_by given c.boxes) run.base.plane.arcs run.base.plane.faces run.base.plane.boxes.items run.over.features v) (show : BeginningShows v c.sources given run.begun run.base.sources) where
    begins_over : begins read c files bytes ≡ Ok (begun_with c given (plane_of v.drawing))
    begins_over = begins_so ∙ ap (λ (d : Drawing). Ok (begun_with c given (plane_of d))) (sym (is.of_drawing ∙ drawings_are_one (joined_up given) c.boxes))

    seen_in : IsSeenIn v run.base.plane
    seen_in =
        let many : length run.base.plane.boxes.items ≡ length (snapped v.drawing).boxes = run.over.laid.held.of_boxes.each ∙ ap (λ (d : Drawing). length (snapped d).boxes) (sym is.of_drawing) in
        planes_are_seen v run.base.plane (sym is.of_arcs) (sym is.of_faces) many is.of_boxes

    alike : first_sources (shown.plane_of v) [] given ≡ first_sources (plane_of v.drawing) [] given
    alike = sources_alike (snapped v.drawing) (links_of (snapped v.drawing)) v.arcs (arcs_of (snapped v.drawing) (links_of (snapped v.drawing))) [] given

    plane_same : plane_of v.drawing ≡ shown.plane_of v
    plane_same = sym (view_plane (drawing_by given c.boxes) run.base.plane.arcs run.base.plane.faces run.base.plane.boxes.items run.over.features run.over.laid v is)

    begun_shows : BegunShows c run.begun run.base (begun_with c given (plane_of v.drawing))
    begun_shows = record {
      view = v;
      is_view = is.is_view;
      seen = seen_in;
      plane = refl;
      of_view = plane_same;
      state = first_layers_show v run.begun (import_layers c.sources (first_sources (plane_of v.drawing) [] given))
          (subst (λ (ls : List (List StateLayer)). AllZip (LayerShows v) run.begun (import_layers c.sources ls)) alike show.imports);
      sources = subst (λ (ls : List (List StateLayer)). SourcesShow v run.base.sources (command_layers c.sources ls)) alike show.commands;
      places = sym run.places;
      commands = refl;
    }

pub begun_alike : ChainsBegin
begun_alike read line c seen files bytes a before after o run = go (beginnings_show run.layers c.boxes c.sources run.base.plane.arcs run.base.plane.faces run.base.plane.boxes.items run.begun run.base.sources run.over)
  where
    go : (v : View) × IsViewOf (drawing_by run.layers c.boxes) run.base.plane.arcs run.base.plane.faces run.base.plane.boxes.items run.over.features v × BeginningShows v c.sources run.layers run.begun run.base.sources
        → (b : Begun) × (begins read c files bytes ≡ Ok b) × BegunShows c run.begun run.base b
    go (v, is, show) = (begun_with c run.layers (plane_of v.drawing), begins_over read line c seen files bytes a before after o run v is show, begun_shows read line c seen files bytes a before after o run v is show)

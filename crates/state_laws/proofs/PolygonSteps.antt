-- Steps of commands on shapes.
use Rattle.std.proofs.Common.{All, ◌≡◌, ◌≢◌, refl, sym, ap, ◌∙◌, subst, true≢false, ℕ, Bool, true, false, not, ◌&&◌, List, [], ◌∷◌, ◌++◌, length, map, nat_lt, Option, Some, None, option_map, Result, Ok, Err, if◌then◌else◌}
use Rattle.std.specs.Prelude.{codes}
use Rattle.std.specs.List.{AllZip, flat_map}
use Rattle.std.proofs.lemmas.Bool.{and_parts}
use Rattle.std.proofs.lemmas.List.Elements.{All-cons, All-nil}
use Rattle.lists.specs.Lists.{ascending}
use Rattle.grid_base.specs.declared.kinds.Kind.{Kind}
use Rattle.grid_base.specs.declared.kinds.Kind.TheVariants as kinds
use Rattle.geojson_io.specs.Layers.{same_kind}
use Rattle.table_terms.specs.Names.{Text}
use Rattle.table_terms.specs.Refusals.{on_ok, unless}
use Rattle.table_rows.specs.Grouping.{group_rows}
use Rattle.table_rows.specs.Refusals.{refused_item}
use Rattle.table_rows.specs.declared.fault.TableWhy.{TableWhy}
use Rattle.table_rows.specs.declared.group.Grouped.{Grouped}
use Rattle.region_model.specs.LineCommands.{SidedArc, outer_and_inner}
use Rattle.region_model.specs.Region.{Region, any_of}
use Rattle.job_terms.specs.declared.job.Action.TheVariants as does
use Rattle.job_terms.specs.declared.job.Command.{Command}
use Rattle.job_terms.specs.declared.job.LayerAction.{LayerAction}
use Rattle.job_terms.specs.declared.job.LayerAction.TheVariants as action
use Rattle.job_terms.specs.declared.job.Origin.{Origin}
use Rattle.job_terms.specs.declared.job.Origin.TheVariants as origin
use Rattle.run_plane.specs.declared.layer.Layer.{Layer}
use Rattle.run_plane.specs.declared.layer.Shape.{Shape}
use Rattle.run_state.specs.Origins as run
use Rattle.run_state.specs.Origins.{Base}
use Rattle.run_state.specs.Targets.{targets}
use Rattle.run_state.specs.declared.refusal.RefuseWhy.{RefuseWhy}
use Rattle.run_state.specs.declared.state.HeldLayer.{HeldLayer}
use Rattle.run_plane.specs.Shapes.{faces_in}
use Rattle.run_state.specs.FaceSets.{any_faces, cut_set_of, layer_faces}
use Rattle.run_steps.specs.Commands.{PutsOut}
use Rattle.run_checks.specs.Checks as checks
use Rattle.run_steps.specs.Refusals as held
use Rattle.chain_model.specs.Outcome as outcome
use Rattle.chain_model.specs.State as state
use Rattle.chain_model.specs.State.{State, StateLayer, regions_in}
use Rattle.chain_model.specs.Targets as model
use Rattle.chain_model.specs.Targets.{SourceLayers, layers_at}
use Rattle.chain_model.specs.Features.{Outputs, clean_layer, clip_layer, dissolve_layer, dissolved_shape, erase_layer, explode_layer, in_layer, inner_lines_layer, islands_layer, just, line_layer, line_row, lines_layer, mosaic_layer}
use Rattle.chain_model.specs.Steps.{each_layer, outputs_of, refusal_of, refused_for_origin, origin_region}
use Rattle.layer_laws.specs.Shown.{View, IsView, FacesShow, LayerShows, LineShows, NothingShows, PointsShow, ShapeShows, SourcesShow, StateShows, plane_of, IsSeenIn}
use Rattle.layer_laws.specs.Reasons.{AnswerShows, why_of}
use Rattle.layer_laws.specs.Polygons.{CutSetShows, PolygonsShow}
use Rattle.state_laws.specs.PolygonSteps.{ShapeStepsShow, is_on_shapes}
use Rattle.layer_laws.specs.Targets.{target_numbers}
use Rattle.state_laws.proofs.EachLayer.{LayerAlike, alike_unless, alike_with}
use Rattle.layer_laws.proofs.LayerKinds.{only_taken}
use Rattle.layer_laws.proofs.LineCuts.{clipped_lines_show, erased_lines_show}
use Rattle.layer_laws.proofs.LineGroups.{grouped_lines_show}
use Rattle.layer_laws.proofs.LinePieces.{exploded_lines_show}
use Rattle.state_laws.proofs.MergeStep.{one_kind_told}
use Rattle.layer_laws.proofs.Outlines.{inner_lines_show, outlines_are_shown}
use Rattle.layer_laws.proofs.PolygonCleaning.{cleaned_polygons_show}
use Rattle.layer_laws.proofs.PolygonCuts.{cut_sets_show, clipped_polygons_show, erased_polygons_show, refused_by_kind}
use Rattle.layer_laws.proofs.PolygonGroups.{dissolved_polygons_show}
use Rattle.layer_laws.proofs.PolygonIslands.{islands_show}
use Rattle.layer_laws.proofs.PolygonParts.{exploded_polygons_show, mosaics_show}
use Rattle.layer_laws.proofs.PolygonSets.{joined_show}
use Rattle.state_laws.proofs.Stepping.{IsAlike, first_alike, step_shows, unfit}
use Rattle.layer_laws.proofs.Targeting.{one_layer_shows, origins_show, targets_show}
use Rattle.state_laws.proofs.UnionStep.{polygon_is}
use Rattle.layer_laws.proofs.Zipped.{zip_with_all, zip_weaker}

-- ---- a cut set that is refused has no faces

no_faces : (R : Shape → state.Shape → Type 0) → ((held : Shape) (s : state.Shape) → R held s → faces_in held ≡ []) → (shapes : List Shape) (ss : List state.Shape) → AllZip R shapes ss → flat_map faces_in shapes ≡ []
no_faces R none [] [] z = refl
no_faces R none [] (s ∷ ss) z = absurd z
no_faces R none (held ∷ shapes) [] z = absurd z
no_faces R none (held ∷ shapes) (s ∷ ss) z =
    let here = none held s z.0 in
    let rest = no_faces R none shapes ss z.1 in
    λ i. here i ++ rest i

module _ (v : View) where
  no_cut_set_in : (layer : Layer) (l : StateLayer) → LayerShows v layer l → (k : Kind) → layer.kind ≡ k → (why : RefuseWhy) → refused_by_kind k ≡ Some why → any_faces layer.shapes.items ≡ []
  no_cut_set_in layer l h kinds.Polygon e why some = absurd (let none : None ≡ Some why = some in cc)
  no_cut_set_in layer l h kinds.Line e why some =
      ap (ascending nat_lt) (no_faces (LineShows v) (λ held s shows. ap faces_in shows.has) layer.shapes.items l.shapes (subst (λ (k : Kind). AllZip (ShapeShows v k) layer.shapes.items l.shapes) e h.shapes))
  no_cut_set_in layer l h kinds.Point e why some =
      ap (ascending nat_lt) (no_faces (PointsShow v) (λ held s shows. ap faces_in shows.has) layer.shapes.items l.shapes (subst (λ (k : Kind). AllZip (ShapeShows v k) layer.shapes.items l.shapes) e h.shapes))
  no_cut_set_in layer l h kinds.Table e why some =
      ap (ascending nat_lt) (no_faces NothingShows (λ held s shows. ap faces_in shows.has) layer.shapes.items l.shapes (subst (λ (k : Kind). AllZip (ShapeShows v k) layer.shapes.items l.shapes) e h.shapes))

  no_cut_set_of : (answer : Result Layer RefuseWhy) (other : Result StateLayer outcome.RefuseWhy) → AnswerShows (LayerShows v) answer other → (why : RefuseWhy) → checks.refused_polygons answer ≡ Some why → layer_faces answer ≡ []
  no_cut_set_of (Ok layer) (Ok l) h why some = no_cut_set_in layer l h layer.kind refl why some
  no_cut_set_of (Ok layer) (Err w) h why some = absurd h
  no_cut_set_of (Err w) other h why some = refl

  nothing_shows : FacesShow v [] (any_of [])
  nothing_shows = joined_show v [] [] tt

  -- the region that the faces show, whether or not the cut set is refused
  record CutRegion (cut_set : List ℕ) (answer : Result Region outcome.RefuseWhy) : Type 0 where
    pub source : Region
    pub shows : FacesShow v cut_set source
    pub is : (r : Region) → answer ≡ Ok r → r ≡ source

  cut_region : (refusal : Option RefuseWhy) (cut_set : List ℕ) (answer : Result Region outcome.RefuseWhy) → CutSetShows v refusal cut_set answer → ((why : RefuseWhy) → refusal ≡ Some why → cut_set ≡ []) → CutRegion cut_set answer
  cut_region None cut_set answer h none =
      let (source, is, shows) = h.there refl in
      record { source = source; shows = shows; is = λ r e. let same : Ok r ≡ Ok source = sym e ∙ is in cc }
  cut_region (Some why) cut_set answer h none = record {
    source = any_of [];
    shows = subst (λ (faces : List ℕ). FacesShow v faces (any_of [])) (sym (none why refl)) nothing_shows;
    is = λ r e. let clash : Err (why_of why) ≡ Ok r = sym (h.refused why refl) ∙ e in absurd (cc);
  }

cut_set_alike : (v : View) (refusal : Option RefuseWhy) (cut_set : List ℕ) (answer : Result Region outcome.RefuseWhy) → CutSetShows v refusal cut_set answer → refusal_of answer ≡ option_map why_of refusal
cut_set_alike v None cut_set answer h = let (source, is, shows) = h.there refl in ap refusal_of is
cut_set_alike v (Some why) cut_set answer h = ap refusal_of (h.refused why refl)

-- ---- what a state makes of a layer

-- nothing where the command is another
abbrev made_of : View → Region → LayerAction → StateLayer → Outputs
made_of v source (action.Clip from) l = clip_layer (plane_of v) v.answers source l
made_of v source (action.Erase from) l = erase_layer (plane_of v) v.answers source l
made_of v source (action.Dissolve spec group_points) l = dissolve_layer (plane_of v) spec group_points l
made_of v source (action.Clean rule allow_empty gap) l = clean_layer (plane_of v) v.answers rule allow_empty gap l
made_of v source action.Mosaic l = mosaic_layer (plane_of v) v.answers l
made_of v source action.Explode l = explode_layer (plane_of v) v.answers l
made_of v source action.InnerLines l = inner_lines_layer (plane_of v) v.answers l
made_of v source (action.Lines fields) l = lines_layer (plane_of v) v.answers fields l
made_of v source (action.FilterIslands least_area least_links remove_empty) l = islands_layer (plane_of v) v.answers least_area least_links remove_empty l
made_of v source _ l = Ok []

other : {P : Type 0} → false ≡ true → P
other e = absurd (true≢false (sym e))

by_origin_is : (found : Result Region outcome.RefuseWhy) (source : Region) (f : Region → StateLayer → Outputs) (ls : List StateLayer) → ((r : Region) → found ≡ Ok r → r ≡ source) → refusal_of found ≡ None →
    on_ok found (λ (r : Region). each_layer (f r) ls) ≡ each_layer (f source) ls
by_origin_is (Ok r) source f ls same none = ap (λ (q : Region). each_layer (f q) ls) (same r refl)
by_origin_is (Err why) source f ls same none = absurd (let w : Some why ≡ None = none in cc)

module _ (v : View) (view : IsView v) (base : Base) (seen : IsSeenIn v base.plane) (sources : SourceLayers) (owns : SourcesShow v base.sources sources) (layers : List HeldLayer) (s : State) (h : StateShows v layers s) where
  no_cut_set : (from : Origin) (why : RefuseWhy) → checks.refused_cut base.sources layers from ≡ Some why → cut_set_of base layers from ≡ []
  no_cut_set (origin.Area n) why some = absurd (let none : None ≡ Some why = some in cc)
  no_cut_set (origin.Layer name) why some =
      no_cut_set_of v (run.one_layer (run.origin_layers base.sources layers (origin.Layer name))) (model.one_layer (model.origin_layers sources s (origin.Layer name)))
      (one_layer_shows v (run.origin_layers base.sources layers (origin.Layer name)) (model.origin_layers sources s (origin.Layer name)) (origins_show v layers s h base.sources sources owns (origin.Layer name))) why some
  no_cut_set (origin.Source n) why some =
      no_cut_set_of v (run.one_layer (run.origin_layers base.sources layers (origin.Source n))) (model.one_layer (model.origin_layers sources s (origin.Source n)))
      (one_layer_shows v (run.origin_layers base.sources layers (origin.Source n)) (model.origin_layers sources s (origin.Source n)) (origins_show v layers s h base.sources sources owns (origin.Source n))) why some

  abbrev Cuts : Origin → Type 0
  Cuts from = CutRegion v (cut_set_of base layers from) (origin_region sources s from)

  cut_by : (from : Origin) → Cuts from
  cut_by from = cut_region v (checks.refused_cut base.sources layers from) (cut_set_of base layers from) (origin_region sources s from) (cut_sets_show v view base seen sources owns layers s h from) (no_cut_set from)

  -- the region that the command cuts by, where it cuts
  abbrev by_region : LayerAction → Region
  by_region (action.Clip from) = CutRegion.source (cut_by from)
  by_region (action.Erase from) = CutRegion.source (cut_by from)
  by_region _ = any_of []

  abbrev made : LayerAction → StateLayer → Outputs
  made a l = made_of v (by_region a) a l

  outputs_are : (a : LayerAction) → is_on_shapes a ≡ true → refused_for_origin sources s (does.Each a) ≡ None → (ls : List StateLayer) → outputs_of (plane_of v) v.answers sources s (does.Each a) ls ≡ each_layer (made a) ls
  outputs_are (action.Clip from) on none ls = by_origin_is (origin_region sources s from) (by_region (action.Clip from)) (clip_layer (plane_of v) v.answers) ls (cut_by from).is none
  outputs_are (action.Erase from) on none ls = by_origin_is (origin_region sources s from) (by_region (action.Erase from)) (erase_layer (plane_of v) v.answers) ls (cut_by from).is none
  outputs_are (action.Dissolve spec group_points) on none ls = refl
  outputs_are (action.Clean rule allow_empty gap) on none ls = refl
  outputs_are action.Mosaic on none ls = refl
  outputs_are action.Explode on none ls = refl
  outputs_are action.InnerLines on none ls = refl
  outputs_are (action.Lines fields) on none ls = refl
  outputs_are (action.FilterIslands least_area least_links remove_empty) on none ls = refl
  outputs_are a on none ls = other on

  -- ---- and a run

  makes_alike : (a : LayerAction) → is_on_shapes a ≡ true → (layer : Layer) (l : StateLayer) → PolygonsShow v layer l → LayerAlike v (PutsOut base layers a layer) (held.RefusesLayer base layers a layer) (made a l)
  makes_alike (action.Clip from) on layer l shown = alike_with (clipped_polygons_show v view base.plane layer l shown (cut_set_of base layers from) (by_region (action.Clip from)) (cut_by from).shows)
  makes_alike (action.Erase from) on layer l shown = alike_with (erased_polygons_show v view base.plane layer l shown (cut_set_of base layers from) (by_region (action.Erase from)) (cut_by from).shows)
  makes_alike (action.Dissolve spec group_points) on layer l shown = alike_with (dissolved_polygons_show v layer l shown spec group_points)
  makes_alike (action.Clean rule allow_empty gap) on layer l shown = alike_with (cleaned_polygons_show v view base.plane seen layer l shown rule allow_empty gap)
  makes_alike action.Mosaic on layer l shown = alike_with (mosaics_show v view base.plane seen layer l shown)
  makes_alike action.Explode on layer l shown = alike_with (exploded_polygons_show v view base.plane seen layer l shown)
  makes_alike action.InnerLines on layer l shown = alike_with (inner_lines_show v view base.plane seen layer l shown.shows shown.polygons)
  makes_alike (action.Lines fields) on layer l shown = alike_with (outlines_are_shown v view base.plane seen layer l shown.shows shown.polygons fields)
  makes_alike (action.FilterIslands least_area least_links remove_empty) on layer l shown = alike_with (islands_show v view base.plane seen layer l shown least_area least_links remove_empty)
  makes_alike a on layer l shown = other on

  -- ---- how many layers

  one_of : {m : StateLayer} {outs : List StateLayer} → just m ≡ Ok outs → length outs ≡ 1
  one_of {m} {outs} e = let same : m ∷ [] ≡ outs = cc in sym (ap length same)

  one_grouped : (b : Bool) (make : Grouped → StateLayer) (answer : Result Grouped TableWhy) (outs : List StateLayer) → (if b then Err outcome.no_group_points else on_ok (in_layer answer) (λ (g : Grouped). just (make g))) ≡ Ok outs → length outs ≡ 1
  one_grouped true make answer outs e = absurd (let clash : Err outcome.no_group_points ≡ Ok outs = e in cc)
  one_grouped false make (Ok g) outs e = one_of e
  one_grouped false make (Err why) outs e = absurd (cc)

  -- the layer of lines around the polygons of a layer
  abbrev lined : StateLayer → List Text → StateLayer
  lined l fields =
      let arcs : List SidedArc = outer_and_inner (plane_of v) v.answers (regions_in l) in
      line_layer l (record { names = codes "TYPE" ∷ codes "RANK" ∷ []; rows = map (line_row l.table fields) arcs }) (map (λ (a : SidedArc). a.points) arcs)

  one_lined : (refusal : Option TableWhy) (m : StateLayer) (outs : List StateLayer) → in_layer (unless refusal (Ok (m ∷ []))) ≡ Ok outs → length outs ≡ 1
  one_lined None m outs e = one_of e
  one_lined (Some why) m outs e = absurd (cc)

  outputs_counted : (a : LayerAction) → is_on_shapes a ≡ true → (layer : Layer) (l : StateLayer) → LayerShows v layer l → (outs : List StateLayer) → made a l ≡ Ok outs → length outs ≡ held.output_count a layer
  outputs_counted (action.Clip from) on layer l shown outs e = one_of e
  outputs_counted (action.Erase from) on layer l shown outs e = one_of e
  outputs_counted (action.Dissolve spec group_points) on layer l shown outs e =
      one_grouped (same_kind l.kind kinds.Point && not group_points) (λ (g : Grouped). record l { table = g.table; shapes = map (dissolved_shape (plane_of v) l) g.groups }) (group_rows l.table spec) outs e
  outputs_counted (action.Clean rule allow_empty gap) on layer l shown outs e = one_of e
  outputs_counted action.Mosaic on layer l shown outs e = one_of e
  outputs_counted action.Explode on layer l shown outs e = one_of e
  outputs_counted action.InnerLines on layer l shown outs e = one_of e
  outputs_counted (action.Lines fields) on layer l shown outs e = one_lined (refused_item l.table.names [] 0 fields) (lined l fields) outs e
  outputs_counted (action.FilterIslands least_area least_links remove_empty) on layer l shown outs e = one_of e
  outputs_counted a on layer l shown outs e = other on

  -- ---- the source, and the kinds

  source_alike : (a : LayerAction) → is_on_shapes a ≡ true → refused_for_origin sources s (does.Each a) ≡ option_map why_of (checks.refused_for_origin base.sources layers a)
  source_alike (action.Clip from) on = cut_set_alike v (checks.refused_cut base.sources layers from) (cut_set_of base layers from) (origin_region sources s from) (cut_sets_show v view base seen sources owns layers s h from)
  source_alike (action.Erase from) on = cut_set_alike v (checks.refused_cut base.sources layers from) (cut_set_of base layers from) (origin_region sources s from) (cut_sets_show v view base seen sources owns layers s h from)
  source_alike (action.Dissolve spec group_points) on = refl
  source_alike (action.Clean rule allow_empty gap) on = refl
  source_alike action.Mosaic on = refl
  source_alike action.Explode on = refl
  source_alike action.InnerLines on = refl
  source_alike (action.Lines fields) on = refl
  source_alike (action.FilterIslands least_area least_links remove_empty) on = refl
  source_alike a on = other on

  kinds_alike : (a : LayerAction) → is_on_shapes a ≡ true → (ts : List Layer) (ls : List StateLayer) → AllZip (LayerShows v) ts ls → unfit sources s (does.Each a) ls ≡ option_map why_of (checks.refused_kinds base.sources layers a ts)
  kinds_alike (action.Clip from) on ts ls shown = only_taken v (action.Clip from) ts ls shown
  kinds_alike (action.Erase from) on ts ls shown = only_taken v (action.Erase from) ts ls shown
  kinds_alike (action.Dissolve spec group_points) on ts ls shown = only_taken v (action.Dissolve spec group_points) ts ls shown
  kinds_alike (action.Clean rule allow_empty gap) on ts ls shown = only_taken v (action.Clean rule allow_empty gap) ts ls shown
  kinds_alike action.Mosaic on ts ls shown = only_taken v action.Mosaic ts ls shown
  kinds_alike action.Explode on ts ls shown = only_taken v action.Explode ts ls shown
  kinds_alike action.InnerLines on ts ls shown = only_taken v action.InnerLines ts ls shown
  kinds_alike (action.Lines fields) on ts ls shown = only_taken v (action.Lines fields) ts ls shown
  kinds_alike (action.FilterIslands least_area least_links remove_empty) on ts ls shown = only_taken v (action.FilterIslands least_area least_links remove_empty) ts ls shown
  kinds_alike a on ts ls shown = other on

-- ---- whatever the kinds are

module _ (v : View) (view : IsView v) (base : Base) (seen : IsSeenIn v base.plane) (sources : SourceLayers) (owns : SourcesShow v base.sources sources) (layers : List HeldLayer) (s : State) (h : StateShows v layers s) where
  abbrev answered : LayerAction → StateLayer → Outputs
  answered a l = made v view base seen sources owns layers s h a l

  abbrev Alike : LayerAction → Layer → StateLayer → Type 0
  Alike a layer l = LayerAlike v (PutsOut base layers a layer) (held.RefusesLayer base layers a layer) (answered a l)

  of_polygons : (a : LayerAction) → is_on_shapes a ≡ true → (layer : Layer) (l : StateLayer) → LayerShows v layer l → layer.kind ≡ kinds.Polygon → Alike a layer l
  of_polygons a on layer l shown polygons = makes_alike v view base seen sources owns layers s h a on layer l (record { shows = shown; polygons = polygons })

  clipped_alike : (from : Origin) (layer : Layer) (l : StateLayer) → LayerShows v layer l → layer.kind ≢ kinds.Polygon → Alike (action.Clip from) layer l
  clipped_alike from layer l shown apart = alike_with (clipped_lines_show v view base.plane seen (cut_set_of base layers from) (CutRegion.source (cut_by v view base seen sources owns layers s h from)) (cut_by v view base seen sources owns layers s h from).shows layer l shown apart)

  erased_alike : (from : Origin) (layer : Layer) (l : StateLayer) → LayerShows v layer l → layer.kind ≢ kinds.Polygon → Alike (action.Erase from) layer l
  erased_alike from layer l shown apart = alike_with (erased_lines_show v view base.plane seen (cut_set_of base layers from) (CutRegion.source (cut_by v view base seen sources owns layers s h from)) (cut_by v view base seen sources owns layers s h from).shows layer l shown apart)

  -- of polygons, and of all others
  by_kind : (P : Type 0) (layer : Layer) → (layer.kind ≡ kinds.Polygon → P) → (layer.kind ≢ kinds.Polygon → P) → (k : Kind) → layer.kind ≡ k → P
  by_kind P layer is apart kinds.Polygon e = is e
  by_kind P layer is apart kinds.Line e = apart (λ p. let clash : kinds.Line ≡ kinds.Polygon = sym e ∙ p in cc)
  by_kind P layer is apart kinds.Point e = apart (λ p. let clash : kinds.Point ≡ kinds.Polygon = sym e ∙ p in cc)
  by_kind P layer is apart kinds.Table e = apart (λ p. let clash : kinds.Table ≡ kinds.Polygon = sym e ∙ p in cc)

  taken_so : (a : LayerAction) → is_on_shapes a ≡ true → (ts : List Layer) → checks.refused_kinds base.sources layers a ts ≡ None → checks.takes_all a ts ≡ true
  taken_so (action.Clip from) on ts none = one_kind_told (checks.takes_all (action.Clip from) ts) none
  taken_so (action.Erase from) on ts none = one_kind_told (checks.takes_all (action.Erase from) ts) none
  taken_so (action.Dissolve spec group_points) on ts none = one_kind_told (checks.takes_all (action.Dissolve spec group_points) ts) none
  taken_so action.Explode on ts none = one_kind_told (checks.takes_all action.Explode ts) none
  taken_so (action.Clean rule allow_empty gap) on ts none = one_kind_told (checks.takes_all (action.Clean rule allow_empty gap) ts) none
  taken_so action.Mosaic on ts none = one_kind_told (checks.takes_all action.Mosaic ts) none
  taken_so action.InnerLines on ts none = one_kind_told (checks.takes_all action.InnerLines ts) none
  taken_so (action.Lines fields) on ts none = one_kind_told (checks.takes_all (action.Lines fields) ts) none
  taken_so (action.FilterIslands least_area least_links remove_empty) on ts none = one_kind_told (checks.takes_all (action.FilterIslands least_area least_links remove_empty) ts) none
  taken_so a on ts none = other on

  each_taken : (a : LayerAction) (ts : List Layer) → checks.takes_all a ts ≡ true → All (λ (layer : Layer). checks.takes a layer.kind ≡ true) ts
  each_taken a [] e = All-nil (λ (layer : Layer). checks.takes a layer.kind ≡ true)
  each_taken a (layer ∷ ts) e =
      let both = and_parts (checks.takes a layer.kind) (checks.takes_all a ts) e in
      All-cons (λ (one : Layer). checks.takes a one.kind ≡ true) layer ts both.0 (each_taken a ts both.1)

  shapes_alike : (a : LayerAction) → is_on_shapes a ≡ true → (layer : Layer) (l : StateLayer) → LayerShows v layer l → checks.takes a layer.kind ≡ true → Alike a layer l
  shapes_alike (action.Clip from) on layer l shown taken = by_kind (Alike (action.Clip from) layer l) layer (of_polygons (action.Clip from) refl layer l shown) (clipped_alike from layer l shown) layer.kind refl
  shapes_alike (action.Erase from) on layer l shown taken = by_kind (Alike (action.Erase from) layer l) layer (of_polygons (action.Erase from) refl layer l shown) (erased_alike from layer l shown) layer.kind refl
  shapes_alike (action.Dissolve spec group_points) on layer l shown taken =
      by_kind (Alike (action.Dissolve spec group_points) layer l) layer (of_polygons (action.Dissolve spec group_points) refl layer l shown) (λ apart. alike_unless (grouped_lines_show v view layer l shown apart spec group_points)) layer.kind refl
  shapes_alike action.Explode on layer l shown taken =
      by_kind (Alike action.Explode layer l) layer (of_polygons action.Explode refl layer l shown) (λ apart. alike_with (exploded_lines_show v base.plane layer l shown apart)) layer.kind refl
  shapes_alike (action.Clean rule allow_empty gap) on layer l shown taken = of_polygons (action.Clean rule allow_empty gap) refl layer l shown (polygon_is layer.kind taken)
  shapes_alike action.Mosaic on layer l shown taken = of_polygons action.Mosaic refl layer l shown (polygon_is layer.kind taken)
  shapes_alike action.InnerLines on layer l shown taken = of_polygons action.InnerLines refl layer l shown (polygon_is layer.kind taken)
  shapes_alike (action.Lines fields) on layer l shown taken = of_polygons (action.Lines fields) refl layer l shown (polygon_is layer.kind taken)
  shapes_alike (action.FilterIslands least_area least_links remove_empty) on layer l shown taken = of_polygons (action.FilterIslands least_area least_links remove_empty) refl layer l shown (polygon_is layer.kind taken)
  shapes_alike a on layer l shown taken = other on

  are_alike : (c : Command) (a : LayerAction) → is_on_shapes a ≡ true → IsAlike v base layers sources s c a (answered a)
  are_alike c a on =
      let ts : List Layer = targets c.target layers in
      let ls : List StateLayer = layers_at s (target_numbers c.target layers) in
      record {
        stops = λ there. first_alike (refused_for_origin sources s (does.Each a)) (unfit sources s (does.Each a) ls) (checks.refused_for_origin base.sources layers a) (checks.refused_kinds base.sources layers a ts)
            (source_alike v view base seen sources owns layers s h a on) (kinds_alike v view base seen sources owns layers s h a on ts ls (targets_show v layers s h c.target).show);
        outputs = λ none ls. outputs_are v view base seen sources owns layers s h a on none ls;
        pairs = λ none. zip_weaker (λ (layer : Layer) (l : StateLayer). LayerShows v layer l × (checks.takes a layer.kind ≡ true)) (λ (layer : Layer) (l : StateLayer). LayerShows v layer l × Alike a layer l)
            (λ layer l pair. (pair.0, shapes_alike a on layer l pair.0 pair.1)) ts ls
            (zip_with_all (LayerShows v) (λ (layer : Layer). checks.takes a layer.kind ≡ true) ts ls (targets_show v layers s h c.target).show (each_taken a ts (taken_so a on ts none)));
        count = outputs_counted v view base seen sources owns layers s h a on;
      }

pub shape_steps_show : ShapeStepsShow
shape_steps_show v view base seen sources owns layers s h c a does_each on =
    step_shows v base layers sources s h c a does_each (answered v view base seen sources owns layers s h a) (are_alike v view base seen sources owns layers s h c a on)

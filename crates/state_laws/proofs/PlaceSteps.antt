-- The step of a join by place.
use Rattle.std.proofs.Common.{◌≡◌, refl, sym, ap, ◌∙◌, subst, true≢false, ℕ, ◌<◌, arith, Bool, true, false, ◌&&◌, ◌||◌, List, [], ◌∷◌, length, map, All, Option, Some, None, option_map, Result, Ok, Err, if◌then◌else◌}
use Rattle.std.specs.List.{AllZip, list_all}
use Rattle.std.proofs.lemmas.Bool.{and_parts}
use Rattle.std.proofs.lemmas.List.Elements.{All-cons, All-nil}
use Rattle.grid_base.specs.declared.kinds.Kind.{Kind}
use Rattle.grid_base.specs.declared.kinds.Kind.TheVariants as kinds
use Rattle.geojson_io.specs.Layers.{same_kind}
use Rattle.table_terms.specs.Refusals.{first_refusal, on_ok}
use Rattle.join_terms.specs.declared.calculations.CalcSpec.{CalcSpec}
use Rattle.spatial_join.specs.Joined.{join_matched}
use Rattle.job_terms.specs.declared.job.Action.TheVariants as does
use Rattle.job_terms.specs.declared.job.Command.{Command}
use Rattle.job_terms.specs.declared.job.LayerAction.{LayerAction}
use Rattle.job_terms.specs.declared.job.LayerAction.TheVariants as action
use Rattle.job_terms.specs.declared.job.Origin.{Origin}
use Rattle.run_plane.specs.declared.layer.Layer.{Layer}
use Rattle.run_tables.specs.Matching.{AreMatches}
use Rattle.run_state.specs.Origins as run
use Rattle.run_state.specs.Origins.{Base}
use Rattle.run_state.specs.Stops.{refusal_of, table_refusal}
use Rattle.run_state.specs.Targets.{targets}
use Rattle.run_state.specs.declared.refusal.RefuseWhy.{RefuseWhy}
use Rattle.run_state.specs.declared.refusal.RefuseWhy.TheVariants.{WrongKind}
use Rattle.run_state.specs.declared.state.HeldLayer.{HeldLayer}
use Rattle.run_tables.specs.Made.{GivesTable, One}
use Rattle.run_steps.specs.Commands.{JoinsByPlace, PutsOut}
use Rattle.run_checks.specs.Checks as checks
use Rattle.run_steps.specs.Refusals as held
use Rattle.run_checks.specs.Checks.{joins_all, joins_with}
use Rattle.chain_model.specs.Outcome as outcome
use Rattle.chain_model.specs.State.{State, StateLayer}
use Rattle.chain_model.specs.Targets as model
use Rattle.chain_model.specs.Targets.{SourceLayers, layers_at}
use Rattle.chain_model.specs.Features.{Outputs, matches_of, place_join_layer}
use Rattle.chain_model.specs.Steps as steps
use Rattle.chain_model.specs.Steps.{each_layer, first_kind, other_kind, place_origin, polygons_or_points, refused_kinds, refused_pairs, takes}
use Rattle.layer_laws.specs.Shown.{View, IsView, LayerShows, SourcesShow, StateShows, IsSeenIn}
use Rattle.layer_laws.specs.Reasons.{AnswerShows, MakesAlike, OutputsShow, RefusedAlike, why_of}
use Rattle.state_laws.specs.Places.{PlaceStepsShow}
use Rattle.layer_laws.specs.Targets.{target_numbers}
use Rattle.state_laws.proofs.EachLayer.{LayerAlike}
use Rattle.layer_laws.proofs.LayerKinds.{told_alike}
use Rattle.state_laws.proofs.MergeStep.{one_kind_told, targets_there}
use Rattle.state_laws.proofs.PlaceJoins.{place_joins_show}
use Rattle.state_laws.proofs.Stepping.{IsAlike, step_shows}
use Rattle.state_laws.proofs.TableSteps.{one_table}
use Rattle.layer_laws.proofs.Targeting.{one_layer_shows, origins_show, targets_show}
use Rattle.layer_laws.proofs.Zipped.{zip_all, zip_weaker, zip_with_all}

-- ---- kinds

-- what a join by place takes from its source
abbrev is_joined : Kind → Bool
is_joined k = same_kind k kinds.Polygon || same_kind k kinds.Point

fits_alike : (j : Kind) → is_joined j ≡ true → (k : Kind) → joins_with j k ≡ same_kind (other_kind j) k
fits_alike kinds.Polygon on kinds.Polygon = refl
fits_alike kinds.Polygon on kinds.Line = refl
fits_alike kinds.Polygon on kinds.Point = refl
fits_alike kinds.Polygon on kinds.Table = refl
fits_alike kinds.Point on kinds.Polygon = refl
fits_alike kinds.Point on kinds.Line = refl
fits_alike kinds.Point on kinds.Point = refl
fits_alike kinds.Point on kinds.Table = refl
fits_alike kinds.Line on k = absurd (true≢false (sym on))
fits_alike kinds.Table on k = absurd (true≢false (sym on))

no_fit : (j : Kind) → is_joined j ≡ false → (k : Kind) → joins_with j k ≡ false
no_fit kinds.Polygon off k = absurd (true≢false off)
no_fit kinds.Point off k = absurd (true≢false off)
no_fit kinds.Line off k = refl
no_fit kinds.Table off k = refl

is_joined_by : (j k : Kind) → joins_with j k ≡ true → is_joined j ≡ true
is_joined_by kinds.Polygon k fit = refl
is_joined_by kinds.Point k fit = refl
is_joined_by kinds.Line k fit = absurd (true≢false (sym fit))
is_joined_by kinds.Table k fit = absurd (true≢false (sym fit))

none_fits : (j : Kind) → is_joined j ≡ false → (ts : List Layer) → 0 < length ts → joins_all j ts ≡ false
none_fits j off [] some = absurd (omega (arith, some))
none_fits j off (layer ∷ ts) some = ap (λ (b : Bool). b && joins_all j ts) (no_fit j off layer.kind)

-- the source by its kind
source_taken : (m : StateLayer) → is_joined m.kind ≡ true → polygons_or_points m ≡ Ok m
source_taken m on = ap (λ (b : Bool). if b then Ok m else Err outcome.wrong_kind) on

source_refused : (m : StateLayer) → is_joined m.kind ≡ false → polygons_or_points m ≡ Err outcome.wrong_kind
source_refused m off = ap (λ (b : Bool). if b then Ok m else Err outcome.wrong_kind) off

-- ---- layers of a target that fit a source

abbrev Fits : Result Layer RefuseWhy → Layer → Type 0
Fits found layer = (source : Layer) → found ≡ Ok source → joins_with source.kind layer.kind ≡ true

each_fits : (source : Layer) (ts : List Layer) → joins_all source.kind ts ≡ true → All (Fits (Ok source)) ts
each_fits source [] e = All-nil (Fits (Ok source))
each_fits source (layer ∷ ts) e =
    let both = and_parts (joins_with source.kind layer.kind) (joins_all source.kind ts) e in
    All-cons (Fits (Ok source)) layer ts (λ other is.
    let same : source ≡ other = let e : Ok source ≡ Ok other = is in cc in
    subst (λ (from : Layer). joins_with from.kind layer.kind ≡ true) same both.0) (each_fits source ts both.1)

all_fit : (found : Result Layer RefuseWhy) (ts : List Layer) → checks.refused_pairs found ts ≡ None → All (Fits found) ts
all_fit (Ok source) ts none = each_fits source ts (one_kind_told (joins_all source.kind ts) none)
all_fit (Err why) ts none = absurd (let some : Some why ≡ None = none in cc)

-- ---- why it is refused before it works

module _ (v : View) (from : Origin) (spec : CalcSpec) (ts : List Layer) (ls : List StateLayer) (shown : AllZip (LayerShows v) ts ls) where
  all_taken : (k : Kind) (some : List StateLayer) → list_all (λ (l : StateLayer). takes (does.Each (action.SpatialJoin from spec)) k l.kind) some ≡ true
  all_taken k [] = refl
  all_taken k (l ∷ some) = all_taken k some

  any_kind : refused_kinds (does.Each (action.SpatialJoin from spec)) ls ≡ None
  any_kind = ap (λ (b : Bool). if b then None else Some outcome.wrong_kind) (all_taken (first_kind ls) ls)

  -- by what is taken from the source
  abbrev stopped_by : Result StateLayer outcome.RefuseWhy → Option outcome.RefuseWhy
  stopped_by taken = first_refusal (steps.refusal_of taken) (first_refusal (refused_kinds (does.Each (action.SpatialJoin from spec)) ls) (refused_pairs taken ls))

  stopped_so : (source : Layer) (m : StateLayer) → LayerShows v source m → 0 < length ts → (b : Bool) → is_joined m.kind ≡ b → stopped_by (polygons_or_points m) ≡ option_map why_of (checks.refused_pairs (Ok source) ts)
  stopped_so source m h some true on =
      let same : joins_all source.kind ts ≡ list_all (λ (l : StateLayer). same_kind (other_kind m.kind) l.kind) ls =
      zip_all (LayerShows v) (λ (layer : Layer). joins_with source.kind layer.kind) (λ (l : StateLayer). same_kind (other_kind m.kind) l.kind)
      (λ layer l is. (λ i. joins_with (sym h.kind i) (sym is.kind i)) ∙ fits_alike m.kind on l.kind) ts ls shown in
      ap stopped_by (source_taken m on)
      ∙ ap (λ (o : Option outcome.RefuseWhy). first_refusal o (refused_pairs (Ok m) ls)) any_kind
      ∙ ap (λ (b : Bool). if b then None else Some outcome.wrong_kind) (sym same)
      ∙ told_alike (joins_all source.kind ts)
  stopped_so source m h some false off =
      ap stopped_by (source_refused m off)
      ∙ sym (ap (λ (b : Bool). option_map why_of (if b then None else Some WrongKind)) (none_fits source.kind (ap is_joined (sym h.kind) ∙ off) ts some))

  stopped_alike : (found : Result Layer RefuseWhy) (has : Result StateLayer outcome.RefuseWhy) → AnswerShows (LayerShows v) found has → 0 < length ts →
      stopped_by (on_ok has polygons_or_points) ≡ option_map why_of (first_refusal (refusal_of found) (checks.refused_pairs found ts))
  stopped_alike (Ok source) (Ok m) h some = stopped_so source m h some (is_joined m.kind) refl
  stopped_alike (Err why) (Err w) h some = ap Some h
  stopped_alike (Ok source) (Err w) h some = absurd h
  stopped_alike (Err why) (Ok m) h some = absurd h

-- ---- what is made of a layer

module _ (v : View) (view : IsView v) (base : Base) (seen : IsSeenIn v base.plane) (spec : CalcSpec) where
  abbrev joined_with : Result StateLayer outcome.RefuseWhy → StateLayer → Outputs
  joined_with taken l = on_ok taken (λ (m : StateLayer). place_join_layer v.answers m spec l)

  joined_outputs : (taken : Result StateLayer outcome.RefuseWhy) → steps.refusal_of taken ≡ None → (ls : List StateLayer) → on_ok taken (λ (m : StateLayer). each_layer (place_join_layer v.answers m spec) ls) ≡ each_layer (joined_with taken) ls
  joined_outputs (Ok m) none ls = refl
  joined_outputs (Err why) none ls = absurd (let w : Some why ≡ None = none in cc)

  one_joined : (taken : Result StateLayer outcome.RefuseWhy) (l : StateLayer) (outs : List StateLayer) → joined_with taken l ≡ Ok outs → length outs ≡ 1
  one_joined (Ok m) l outs e = one_table l (join_matched l.table m.table (map (matches_of v.answers m.shapes) l.shapes) spec) outs e
  one_joined (Err why) l outs e = absurd (cc)

  module _ (layer : Layer) (l : StateLayer) (shown : LayerShows v layer l) where
    -- what a run makes of it, with the source that it finds
    abbrev Tells : Result Layer RefuseWhy → List Layer → Type 0
    Tells found made = (source : Layer) × (found ≡ Ok source) × (matches : List (List ℕ)) × AreMatches base.plane source layer matches × One (GivesTable (join_matched layer.table source.table matches spec) layer) made

    layer_alike : (found : Result Layer RefuseWhy) (has : Result StateLayer outcome.RefuseWhy) → AnswerShows (LayerShows v) found has → Fits found layer → (Makes : List Layer → Type 0) → ((made : List Layer) → Makes made → Tells found made) →
        LayerAlike v Makes (held.RefusesByPlace base.plane found spec layer) (joined_with (on_ok has polygons_or_points) l)
    layer_alike (Ok source) (Ok m) h fits Makes tell =
        let fit : joins_with source.kind layer.kind ≡ true = fits source refl in
        let taken : polygons_or_points m ≡ Ok m = source_taken m (ap is_joined h.kind ∙ is_joined_by source.kind layer.kind fit) in
        let answer : place_join_layer v.answers m spec l ≡ joined_with (polygons_or_points m) l = sym (ap (λ (r : Result StateLayer outcome.RefuseWhy). joined_with r l) taken) in
        let alike : (matches : List (List ℕ)) → AreMatches base.plane source layer matches →
        MakesAlike v (One (GivesTable (join_matched layer.table source.table matches spec) layer)) (table_refusal (join_matched layer.table source.table matches spec)) (place_join_layer v.answers m spec l) =
        place_joins_show v view base.plane seen layer source l m shown h fit spec in
        record {
          shows = λ none made makes.
              let (other, found, matches, are, one) = tell made makes in
              let same : other ≡ source = let e : Ok source ≡ Ok other = found in cc in
              let here : AreMatches base.plane source layer matches = subst (λ (from : Layer). AreMatches base.plane from layer matches) same are in
              subst (OutputsShow v made) answer ((alike matches here).shows made (subst (λ (from : Layer). One (GivesTable (join_matched layer.table from.table matches spec) layer) made) same one));
          refused = λ refusal told.
              let (matches, are, is) = told in
              subst (λ (o : Option RefuseWhy). RefusedAlike o (joined_with (polygons_or_points m) l)) is
              (subst (RefusedAlike (table_refusal (join_matched layer.table source.table matches spec))) answer (alike matches are).refused);
        }
    layer_alike (Err why) (Err w) h fits Makes tell = record {
      shows = λ none made makes. let (source, found, matches, are, one) = tell made makes in absurd (let e : Err why ≡ Ok source = found in cc);
      refused = λ refusal told. subst (λ (o : Option RefuseWhy). RefusedAlike o (joined_with (Err w) l)) told (ap Err h);
    }
    layer_alike (Ok source) (Err w) h fits Makes tell = absurd h
    layer_alike (Err why) (Ok m) h fits Makes tell = absurd h

-- ---- all together

module _ (v : View) (view : IsView v) (base : Base) (seen : IsSeenIn v base.plane) (sources : SourceLayers) (owns : SourcesShow v base.sources sources) (layers : List HeldLayer) (s : State) (h : StateShows v layers s) (c : Command) (from : Origin) (spec : CalcSpec) where
  abbrev a : LayerAction
  a = action.SpatialJoin from spec

  abbrev found : Result Layer RefuseWhy
  found = run.one_layer (run.origin_layers base.sources layers from)

  abbrev has : Result StateLayer outcome.RefuseWhy
  has = model.one_layer (model.origin_layers sources s from)

  found_shows : AnswerShows (LayerShows v) found has
  found_shows = one_layer_shows v (run.origin_layers base.sources layers from) (model.origin_layers sources s from) (origins_show v layers s h base.sources sources owns from)

  abbrev made : StateLayer → Outputs
  made l = joined_with v view base seen spec (place_origin sources s from) l

  abbrev ts : List Layer
  ts = targets c.target layers

  abbrev ls : List StateLayer
  ls = layers_at s (target_numbers c.target layers)

  shown : AllZip (LayerShows v) ts ls
  shown = (targets_show v layers s h c.target).show

  abbrev Alike : Layer → StateLayer → Type 0
  Alike layer l = LayerShows v layer l × LayerAlike v (PutsOut base layers a layer) (held.RefusesLayer base layers a layer) (made l)

  pairs_alike : checks.refused_kinds base.sources layers a ts ≡ None → AllZip Alike ts ls
  pairs_alike none =
      zip_weaker (λ (layer : Layer) (l : StateLayer). LayerShows v layer l × Fits found layer) Alike
      (λ layer l pair. (pair.0, layer_alike v view base seen spec layer l pair.0 found has found_shows pair.1 (JoinsByPlace base layers from spec layer) (λ made joins. (joins.source, joins.found, joins.matches, joins.are, joins.joined)))) ts ls
      (zip_with_all (LayerShows v) (Fits found) ts ls shown (all_fit found ts none))

  is_alike : IsAlike v base layers sources s c a made
  is_alike = record {
    stops = λ there. stopped_alike v from spec ts ls shown found has found_shows (targets_there c.target layers there);
    outputs = λ none some. joined_outputs v view base seen spec (place_origin sources s from) none some;
    pairs = pairs_alike;
    count = λ layer l is outs e. one_joined v view base seen spec (place_origin sources s from) l outs e;
  }

pub place_steps_show : PlaceStepsShow
place_steps_show v view base seen sources owns layers s h c from spec does_join =
    step_shows v base layers sources s h c (action.SpatialJoin from spec) does_join (made v view base seen sources owns layers s h c from spec) (is_alike v view base seen sources owns layers s h c from spec)

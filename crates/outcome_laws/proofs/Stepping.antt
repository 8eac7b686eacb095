-- The step of a command is the same by answers that are alike, and leaves the layers of a state, and those that are
-- written, on the plane.
use Rattle.std.proofs.Common.{◌≡◌, refl, ap, subst, ℕ, ◌+◌, ◌-◌, Bool, true, false, List, [], ◌∷◌, ◌++◌, map, length, Option, Some, None, Result, Ok, Err}
use Rattle.std.specs.Prelude.{◌||◌, if◌then◌else◌, nat_eq, nat_lt, unwrap_or}
use Rattle.std.specs.List.{enumerate_from}
use Rattle.std.specs.Str.{bytes_eq}
use Rattle.lists.specs.Lists.{has, joined_up}
use Rattle.grid_base.specs.declared.kinds.Kind.TheVariants as kind
use Rattle.geojson_io.specs.Layers.{same_kind}
use Rattle.table_terms.specs.Names.{Text}
use Rattle.table_terms.specs.Refusals.{first_refusal, on_ok, unless}
use Rattle.job_terms.specs.declared.job.Action.{Action}
use Rattle.job_terms.specs.declared.job.Action.TheVariants as action
use Rattle.job_terms.specs.declared.job.LayerAction.{LayerAction}
use Rattle.job_terms.specs.declared.job.LayerAction.TheVariants as each
use Rattle.job_terms.specs.declared.job.JointAction.TheVariants as joint
use Rattle.job_terms.specs.declared.job.Command.{Command}
use Rattle.job_terms.specs.declared.job.Origin.{Origin}
use Rattle.job_terms.specs.declared.job.Origin.TheVariants as origin
use Rattle.region_model.specs.Region.{Region}
use Rattle.region_model.specs.Answers.{Answers, Plane}
use Rattle.chain_model.specs.Features as features
use Rattle.chain_model.specs.Features.{Outputs}
use Rattle.chain_model.specs.Outcome.{RefuseWhy, too_many_layers, wrong_kind}
use Rattle.chain_model.specs.State.{State, StateLayer}
use Rattle.chain_model.specs.Steps.{Stepped, Written, by_action, changed, each_layer, outputs_of, place_origin, polygons_or_points, refused_beside, refused_kinds, refused_for_origin, refused_write, origin_region, step, titled}
use Rattle.chain_model.specs.Targets.{Marked, SourceLayers, layers_at, new, old, one_layer, origin_layers, placed, replaced, selected, state_of, with_outputs, layer_limit}
use Rattle.outcome_laws.proofs.Every.{Every, every_append, every_filter, every_joined, every_kept, every_map, every_place}
use Rattle.outcome_laws.proofs.Planes.{IsWalked}
use Rattle.outcome_laws.proofs.Alike.{AreAlike}
use Rattle.outcome_laws.proofs.Shapes.{AllAreOn, AreOne, LayerIsOn, OutputsAreOn}
use Rattle.outcome_laws.proofs.PolygonLayers.{clean_one, explode_one, islands_one, mosaic_one, united_layers_same, united_on}
use Rattle.outcome_laws.proofs.LineLayers.{clip_one, dissolve_one, erase_one, inner_one, lines_one, place_one}
use Rattle.outcome_laws.proofs.TableLayers.{assign_one, fields_one, filter_one, join_one, merged_on, renames_one, sort_one, split_one, uniq_one}

abbrev pub LayersAreOn : Plane → List StateLayer → Type 0
LayersAreOn P ls = Every (LayerIsOn P) ls

abbrev pub StateIsOn : Plane → State → Type 0
StateIsOn P s = LayersAreOn P s.layers

abbrev pub SourcesAreOn : Plane → SourceLayers → Type 0
SourcesAreOn P sources = Every (LayersAreOn P) sources

abbrev IsLayerOn : Plane → Result StateLayer RefuseWhy → Type 0
IsLayerOn P (Ok l) = LayerIsOn P l
IsLayerOn P (Err why) = Unit {0}

abbrev pub StateOrRefusal : Plane → Result State RefuseWhy → Type 0
StateOrRefusal P (Ok s) = StateIsOn P s
StateOrRefusal P (Err why) = Unit {0}

abbrev pub WrittenIsOn : Plane → Option Written → Type 0
WrittenIsOn P (Some w) = LayersAreOn P w.layers
WrittenIsOn P None = Unit {0}

abbrev pub SteppedIsOn : Plane → Result Stepped RefuseWhy → Type 0
SteppedIsOn P (Ok next) = StateIsOn P next.state × WrittenIsOn P next.written
SteppedIsOn P (Err why) = Unit {0}

-- ## Layers that a command works on or takes from elsewhere

module _ (P : Plane) where
  numbered_on : (n : ℕ) (ls : List StateLayer) → LayersAreOn P ls → Every (λ (m : ℕ × StateLayer). LayerIsOn P m.1) (enumerate_from n ls)
  numbered_on n [] h = tt
  numbered_on n (l ∷ ls) h = (h.0, numbered_on (n + 1) ls h.1)

  targets_on : (s : State) (ns : List ℕ) → StateIsOn P s → LayersAreOn P (layers_at s ns)
  targets_on s ns h = every_kept (λ (m : ℕ × StateLayer). LayerIsOn P m.1) (LayerIsOn P) (λ (m : ℕ × StateLayer). if has nat_eq ns m.0 then Some m.1 else None) (λ m l on e. go (has nat_eq ns m.0) m l on e) (enumerate_from 0 s.layers) (numbered_on 0 s.layers h)
    where
      go : (b : Bool) (m : ℕ × StateLayer) (l : StateLayer) → LayerIsOn P m.1 → (if b then Some m.1 else None) ≡ Some l → LayerIsOn P l
      go true m l on e = subst (λ (o : Option StateLayer). LayerIsOn P (unwrap_or o m.1)) e on
      go false m l on e = absurd (let none : None ≡ Some l = e in cc)

  origin_on : (sources : SourceLayers) (s : State) (o : Origin) → SourcesAreOn P sources → StateIsOn P s → LayersAreOn P (origin_layers sources s o)
  origin_on sources s (origin.Layer name) there on = every_filter (LayerIsOn P) (λ (l : StateLayer). bytes_eq name l.name) s.layers on
  origin_on sources s (origin.Source n) there on = every_place (LayersAreOn P) [] tt sources there (n - 1)
  origin_on sources s (origin.Area b) there on = tt

  one_on : (ls : List StateLayer) → LayersAreOn P ls → IsLayerOn P (one_layer ls)
  one_on [] h = tt
  one_on (l ∷ []) h = h.0
  one_on (l ∷ k ∷ rest) h = tt

  place_on : (r : Result StateLayer RefuseWhy) → IsLayerOn P r → IsLayerOn P (on_ok r polygons_or_points)
  place_on (Err why) h = tt
  place_on (Ok l) h = go (same_kind l.kind kind.Polygon || same_kind l.kind kind.Point)
    where
      go : (b : Bool) → IsLayerOn P (if b then Ok l else Err wrong_kind)
      go true = h
      go false = tt

  -- ## Layer by layer

  each_same : (f g : StateLayer → Outputs) → AreOne P f g → (ls : List StateLayer) → LayersAreOn P ls → each_layer f ls ≡ each_layer g ls
  each_same f g one [] h = refl
  each_same f g one (l ∷ ls) h = λ i. on_ok (one.same l h.0 i) (λ (out : List StateLayer). on_ok (each_same f g one ls h.1 i) (λ (outs : List (List StateLayer)). Ok (out ∷ outs)))

  each_on : (f g : StateLayer → Outputs) → AreOne P f g → (ls : List StateLayer) → LayersAreOn P ls → AllAreOn P (each_layer f ls)
  each_on f g one [] h = tt
  each_on f g one (l ∷ ls) h = go (f l) (each_layer f ls) (one.on l h.0) (each_on f g one ls h.1)
    where
      go : (first : Outputs) (later : Result (List (List StateLayer)) RefuseWhy) → OutputsAreOn P first → AllAreOn P later → AllAreOn P (on_ok first (λ (out : List StateLayer). on_ok later (λ (outs : List (List StateLayer)). Ok (out ∷ outs))))
      go (Err why) later a b = tt
      go (Ok out) (Err why) a b = tt
      go (Ok out) (Ok outs) a b = (a, b)

  -- outputs that are the same, and lie on the plane
  record Agree (r q : Result (List (List StateLayer)) RefuseWhy) : Type 0 where
    same : r ≡ q
    on : AllAreOn P r

  by_each : (f g : StateLayer → Outputs) → AreOne P f g → (ls : List StateLayer) → LayersAreOn P ls → Agree (each_layer f ls) (each_layer g ls)
  by_each f g one ls h = record { same = each_same f g one ls h; on = each_on f g one ls h }

  by_region : (r : Result Region RefuseWhy) (f g : Region → StateLayer → Outputs) → ((source : Region) → AreOne P (f source) (g source)) → (ls : List StateLayer) → LayersAreOn P ls →
      Agree (on_ok r (λ (source : Region). each_layer (f source) ls)) (on_ok r (λ (source : Region). each_layer (g source) ls))
  by_region (Err why) f g one ls h = record { same = refl; on = tt }
  by_region (Ok source) f g one ls h = by_each (f source) (g source) (one source) ls h

  by_layer : (r : Result StateLayer RefuseWhy) → IsLayerOn P r → (f g : StateLayer → StateLayer → Outputs) → ((source : StateLayer) → LayerIsOn P source → AreOne P (f source) (g source)) → (ls : List StateLayer) → LayersAreOn P ls →
      Agree (on_ok r (λ (source : StateLayer). each_layer (f source) ls)) (on_ok r (λ (source : StateLayer). each_layer (g source) ls))
  by_layer (Err why) there f g one ls h = record { same = refl; on = tt }
  by_layer (Ok source) there f g one ls h = by_each (f source) (g source) (one source there) ls h

  -- ## Where the outputs go

  old_on : (ls : List StateLayer) → LayersAreOn P ls → Every (λ (m : Marked). LayerIsOn P m.1) (map old ls)
  old_on ls h = every_map (LayerIsOn P) (λ (m : Marked). LayerIsOn P m.1) old (λ l g. g) ls h

  new_on : (ls : List StateLayer) → LayersAreOn P ls → Every (λ (m : Marked). LayerIsOn P m.1) (map new ls)
  new_on ls h = every_map (LayerIsOn P) (λ (m : Marked). LayerIsOn P m.1) new (λ l g. g) ls h

  replaced_on : (n : ℕ) (ns : List ℕ) (ls : List StateLayer) (outs : List (List StateLayer)) → LayersAreOn P ls → Every (LayersAreOn P) outs → Every (λ (m : Marked). LayerIsOn P m.1) (replaced n ns ls outs)
  replaced_on n ns [] outs h g = tt
  replaced_on n ns (l ∷ ls) [] h g = (h.0, replaced_on (n + 1) ns ls [] h.1 tt)
  replaced_on n ns (l ∷ ls) (out ∷ outs) h g = go (has nat_eq ns n) (replaced_on (n + 1) ns ls outs h.1 g.1) (replaced_on (n + 1) ns ls (out ∷ outs) h.1 g)
    where
      go : (b : Bool) → Every (λ (m : Marked). LayerIsOn P m.1) (replaced (n + 1) ns ls outs) → Every (λ (m : Marked). LayerIsOn P m.1) (replaced (n + 1) ns ls (out ∷ outs)) →
          Every (λ (m : Marked). LayerIsOn P m.1) (if b then map new out ++ replaced (n + 1) ns ls outs else old l ∷ replaced (n + 1) ns ls (out ∷ outs))
      go true a b = every_append (λ (m : Marked). LayerIsOn P m.1) (map new out) (replaced (n + 1) ns ls outs) (new_on out g.0) a
      go false a b = (h.0, b)

  placed_on : (s : State) (keep : Bool) (ns : List ℕ) (outs : List (List StateLayer)) → StateIsOn P s → Every (LayersAreOn P) outs → Every (λ (m : Marked). LayerIsOn P m.1) (placed s keep ns outs)
  placed_on s true ns outs h g = every_append (λ (m : Marked). LayerIsOn P m.1) (map old s.layers) (map new (joined_up outs)) (old_on s.layers h) (new_on (joined_up outs) (every_joined (LayerIsOn P) outs g))
  placed_on s false ns outs h g = replaced_on 0 ns s.layers outs h g

  outputs_on : (s : State) (keep : Bool) (ns : List ℕ) (outs : List (List StateLayer)) → StateIsOn P s → Every (LayersAreOn P) outs → StateOrRefusal P (with_outputs s keep ns outs)
  outputs_on s keep ns outs h g = go (nat_lt layer_limit (length (placed s keep ns outs)))
    where
      go : (b : Bool) → StateOrRefusal P (if b then Err too_many_layers else Ok (state_of (placed s keep ns outs)))
      go true = tt
      go false = every_map (λ (m : Marked). LayerIsOn P m.1) (LayerIsOn P) (λ (m : Marked). m.1) (λ m k. k) (placed s keep ns outs) (placed_on s keep ns outs h g)

  titled_on : (name : Option Text) (outs : List (List StateLayer)) → Every (LayersAreOn P) outs → Every (LayersAreOn P) (map (map (titled name)) outs)
  titled_on name outs h = every_map (LayersAreOn P) (LayersAreOn P) (map (titled name)) (λ ls g. every_map (LayerIsOn P) (LayerIsOn P) (titled name) (λ l k. k) ls g) outs h

-- ## The step

module _ (P : Plane) (A B : Answers) (walked : IsWalked P) (alike : AreAlike P A B) (sources : SourceLayers) (there : SourcesAreOn P sources) where
  each_agree : (s : State) → StateIsOn P s → (a : LayerAction) (ls : List StateLayer) → LayersAreOn P ls → Agree P (outputs_of P A sources s (action.Each a) ls) (outputs_of P B sources s (action.Each a) ls)
  each_agree s on (each.Clip o) ls h = by_region P (origin_region sources s o) (features.clip_layer P A) (features.clip_layer P B) (clip_one P A B alike) ls h
  each_agree s on (each.Erase o) ls h = by_region P (origin_region sources s o) (features.erase_layer P A) (features.erase_layer P B) (erase_one P A B alike) ls h
  each_agree s on (each.Dissolve spec group_points) ls h = by_each P (features.dissolve_layer P spec group_points) (features.dissolve_layer P spec group_points) (dissolve_one P walked spec group_points) ls h
  each_agree s on (each.Clean rule allow_empty gap) ls h = by_each P (features.clean_layer P A rule allow_empty gap) (features.clean_layer P B rule allow_empty gap) (clean_one P A B alike rule allow_empty gap) ls h
  each_agree s on each.Mosaic ls h = by_each P (features.mosaic_layer P A) (features.mosaic_layer P B) (mosaic_one P A B alike) ls h
  each_agree s on each.InnerLines ls h = by_each P (features.inner_lines_layer P A) (features.inner_lines_layer P B) (inner_one P A B alike walked) ls h
  each_agree s on (each.Lines fields) ls h = by_each P (features.lines_layer P A fields) (features.lines_layer P B fields) (lines_one P A B alike walked fields) ls h
  each_agree s on each.Explode ls h = by_each P (features.explode_layer P A) (features.explode_layer P B) (explode_one P A B alike) ls h
  each_agree s on (each.Join o spec) ls h =
      by_layer P (one_layer (origin_layers sources s o)) (one_on P (origin_layers sources s o) (origin_on P sources s o there on)) (λ (l : StateLayer). features.join_layer l spec) (λ (l : StateLayer). features.join_layer l spec) (λ l k. join_one P l spec) ls h
  each_agree s on (each.SpatialJoin o spec) ls h =
      by_layer P (place_origin sources s o) (place_on P (one_layer (origin_layers sources s o)) (one_on P (origin_layers sources s o) (origin_on P sources s o there on)))
      (λ (l : StateLayer). features.place_join_layer A l spec) (λ (l : StateLayer). features.place_join_layer B l spec) (λ l k. place_one P A B alike l k spec) ls h
  each_agree s on (each.Filter test invert remove_empty) ls h = by_each P (features.filter_layer P A test invert remove_empty) (features.filter_layer P B test invert remove_empty) (filter_one P A B alike test invert remove_empty) ls h
  each_agree s on (each.FilterFields fields) ls h = by_each P (features.filter_fields_layer fields) (features.filter_fields_layer fields) (fields_one P fields) ls h
  each_agree s on (each.RenameFields pairs) ls h = by_each P (features.rename_fields_layer pairs) (features.rename_fields_layer pairs) (renames_one P pairs) ls h
  each_agree s on (each.Split field) ls h = by_each P (features.split_layer field) (features.split_layer field) (split_one P field) ls h
  each_agree s on (each.Each assigns) ls h = by_each P (features.assign_layer assigns) (features.assign_layer assigns) (assign_one P assigns) ls h
  each_agree s on (each.Sort key descending) ls h = by_each P (features.sort_layer key descending) (features.sort_layer key descending) (sort_one P key descending) ls h
  each_agree s on (each.Uniq key most invert) ls h = by_each P (features.uniq_layer key most invert) (features.uniq_layer key most invert) (uniq_one P key most invert) ls h
  each_agree s on (each.FilterIslands least_area least_links remove_empty) ls h =
      by_each P (features.islands_layer P A least_area least_links remove_empty) (features.islands_layer P B least_area least_links remove_empty) (islands_one P A B alike least_area least_links remove_empty) ls h

  all_agree : (s : State) → StateIsOn P s → (a : Action) (ls : List StateLayer) → LayersAreOn P ls → Agree P (outputs_of P A sources s a ls) (outputs_of P B sources s a ls)
  all_agree s on (action.Each a) ls h = each_agree s on a ls h
  all_agree s on (action.Together (joint.MergeLayers force)) ls h = record { same = refl; on = merged_on P force ls h }
  all_agree s on (action.Together joint.Union) ls h = record { same = united_layers_same P A B alike ls; on = united_on P A B alike ls }
  all_agree s on (action.Write to standard form) ls h = record { same = refl; on = tt }

  module _ (s : State) (on : StateIsOn P s) (c : Command) (ns : List ℕ) where
    abbrev changed_by : Result (List (List StateLayer)) RefuseWhy → Result State RefuseWhy
    changed_by outs = unless (first_refusal (refused_for_origin sources s c.action) (first_refusal (refused_kinds c.action (layers_at s ns)) (refused_beside sources s c.action (layers_at s ns))))
        (on_ok outs (λ (made : List (List StateLayer)). with_outputs s c.keep ns (map (map (titled c.name)) made)))

    agreed : Agree P (outputs_of P A sources s c.action (layers_at s ns)) (outputs_of P B sources s c.action (layers_at s ns))
    agreed = all_agree s on c.action (layers_at s ns) (targets_on P s ns on)

    changed_same : changed P A sources s c ns ≡ changed P B sources s c ns
    changed_same = ap changed_by agreed.same

    changed_on : StateOrRefusal P (changed P A sources s c ns)
    changed_on = go (first_refusal (refused_for_origin sources s c.action) (first_refusal (refused_kinds c.action (layers_at s ns)) (refused_beside sources s c.action (layers_at s ns)))) (outputs_of P A sources s c.action (layers_at s ns)) agreed.on
      where
        go : (why : Option RefuseWhy) (outs : Result (List (List StateLayer)) RefuseWhy) → AllAreOn P outs → StateOrRefusal P (unless why (on_ok outs (λ (made : List (List StateLayer)). with_outputs s c.keep ns (map (map (titled c.name)) made))))
        go (Some why) outs h = tt
        go None (Err why) h = tt
        go None (Ok made) h = outputs_on P s c.keep ns (map (map (titled c.name)) made) on (titled_on P c.name made h)

    abbrev stepped_by : Result State RefuseWhy → Result Stepped RefuseWhy
    stepped_by r = on_ok r (λ (t : State). Ok (record { state = t; written = None }))

    stepped_on : (r : Result State RefuseWhy) → StateOrRefusal P r → SteppedIsOn P (stepped_by r)
    stepped_on (Ok t) h = (h, tt)
    stepped_on (Err why) h = tt

    action_same : (a : Action) → by_action P A sources s c ns a ≡ by_action P B sources s c ns a
    action_same (action.Each a) = ap stepped_by changed_same
    action_same (action.Together a) = ap stepped_by changed_same
    action_same (action.Write to standard form) = refl

    action_on : (a : Action) → SteppedIsOn P (by_action P A sources s c ns a)
    action_on (action.Each a) = stepped_on (changed P A sources s c ns) changed_on
    action_on (action.Together a) = stepped_on (changed P A sources s c ns) changed_on
    action_on (action.Write to standard form) = go (refused_write form (layers_at s ns))
      where
        go : (why : Option RefuseWhy) → SteppedIsOn P (unless why (Ok (record { state = s; written = Some (record { to = to; standard = standard; form = form; layers = layers_at s ns }) })))
        go None = (on, targets_on P s ns on)
        go (Some why) = tt

  pub step_same : (s : State) → StateIsOn P s → (c : Command) → step P A sources s c ≡ step P B sources s c
  step_same s on c = go (selected s c.target)
    where
      go : (r : Result (List ℕ) RefuseWhy) → on_ok r (λ (ns : List ℕ). by_action P A sources s c ns c.action) ≡ on_ok r (λ (ns : List ℕ). by_action P B sources s c ns c.action)
      go (Err why) = refl
      go (Ok ns) = action_same s on c ns c.action

  pub step_on : (s : State) → StateIsOn P s → (c : Command) → SteppedIsOn P (step P A sources s c)
  step_on s on c = go (selected s c.target)
    where
      go : (r : Result (List ℕ) RefuseWhy) → SteppedIsOn P (on_ok r (λ (ns : List ℕ). by_action P A sources s c ns c.action))
      go (Err why) = tt
      go (Ok ns) = action_on s on c ns c.action

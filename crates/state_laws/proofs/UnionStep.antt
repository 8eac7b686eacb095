-- The step of a command that unites the layers of its target.
use Rattle.std.proofs.Common.{◌≡◌, ◌⊎◌, inl, inr, refl, sym, ap, ◌∙◌, subst, true≢false, ℕ, suc, ◌+◌, ◌<◌, ◌≤◌, arith, Bool, true, List, [], ◌∷◌, length, map, drop, nat_lt, Option, Some, None, option_map, Result, Ok, Err, if◌then◌else◌}
use Rattle.std.specs.List.{AllZip, list_all, position_or_len}
use Rattle.std.proofs.lemmas.Bool.{and_parts, lt-ltb, ltb-true}
use Rattle.std.proofs.lemmas.List.{length-map}
use Rattle.lists.specs.Lists.{joined_up}
use Rattle.grid_base.specs.declared.kinds.Kind.{Kind}
use Rattle.grid_base.specs.declared.kinds.Kind.TheVariants as kinds
use Rattle.table_terms.specs.Refusals.{first_refusal, on_ok}
use Rattle.job_terms.specs.declared.job.Action.TheVariants as does
use Rattle.job_terms.specs.declared.job.Command.{Command}
use Rattle.job_terms.specs.declared.job.JointAction.TheVariants as joint
use Rattle.run_plane.specs.declared.layer.Layer.{Layer}
use Rattle.run_borders.specs.Uniting.{IsUnited}
use Rattle.run_state.specs.Origins.{Base}
use Rattle.run_state.specs.Targets as places
use Rattle.run_state.specs.Targets.{has_target, is_selected, targets}
use Rattle.run_state.specs.declared.refusal.RefuseWhy.{RefuseWhy}
use Rattle.run_state.specs.declared.refusal.RefuseWhy.TheVariants.{OneLayer}
use Rattle.run_state.specs.declared.state.HeldLayer.{HeldLayer}
use Rattle.run_steps.specs.Commands.{ChangesTogether}
use Rattle.run_checks.specs.Checks as checks
use Rattle.run_steps.specs.Refusals as run
use Rattle.chain_model.specs.Outcome as state
use Rattle.chain_model.specs.Outcome.{no_layer}
use Rattle.chain_model.specs.State.{State, StateLayer}
use Rattle.chain_model.specs.Targets.{SourceLayers, layers_at, placed}
use Rattle.chain_model.specs.Features.{united_layer, united_layers}
use Rattle.chain_model.specs.Steps.{is_polygon, step, titled}
use Rattle.layer_laws.specs.Shown.{View, IsView, IsSeenIn, LayerShows, StateShows, plane_of}
use Rattle.layer_laws.specs.Placing.{PutOutShows, target_outputs}
use Rattle.layer_laws.specs.Polygons.{PolygonsShow}
use Rattle.state_laws.specs.PolygonSteps.{UnionStepsShow}
use Rattle.layer_laws.specs.Reasons.{RefusedAlike, why_of}
use Rattle.state_laws.specs.Steps.{StepGives, StepRefuses}
use Rattle.layer_laws.specs.Tables.{MergedShows}
use Rattle.layer_laws.specs.Targets.{target_numbers}
use Rattle.layer_laws.proofs.Counting.{joined_long, placed_long}
use Rattle.state_laws.proofs.EachLayer.{titled_shows}
use Rattle.state_laws.proofs.MergeStep.{Longs, first_joined, first_outputs, mixture_told, nothing_joined, nothing_shows, nothings, one_kind_told, targets_there}
use Rattle.layer_laws.proofs.Placed.{counted, placed_outputs_show}
use Rattle.layer_laws.proofs.PolygonUnion.{lone_layers_are_refused, united_layers_show}
use Rattle.state_laws.proofs.Stepping.{First, changed_by, first_of_two, is_first, is_second, is_third, none_of_three, none_of_two, put, step_by, step_refused, stepped, target_absent, target_there, too_many_told, unfit, which}
use Rattle.layer_laws.proofs.Targeting.{targets_show}
use Rattle.layer_laws.proofs.Zipped.{zip_all, zip_long}
use Rattle.layer_laws.proofs.LayerKinds.{polygons_alike}

-- ---- layers of polygons

pub polygon_is : (k : Kind) → checks.is_polygon k ≡ true → k ≡ kinds.Polygon
polygon_is kinds.Polygon e = refl
polygon_is kinds.Line e = absurd (true≢false (sym e))
polygon_is kinds.Point e = absurd (true≢false (sym e))
polygon_is kinds.Table e = absurd (true≢false (sym e))

abbrev all_polygons : List Layer → Bool
all_polygons layers = list_all (λ (layer : Layer). checks.is_polygon layer.kind) layers

polygons_show : (v : View) (ts : List Layer) (ls : List StateLayer) → AllZip (LayerShows v) ts ls → all_polygons ts ≡ true → AllZip (PolygonsShow v) ts ls
polygons_show v [] [] shown e = tt
polygons_show v [] (l ∷ ls) shown e = absurd shown
polygons_show v (layer ∷ ts) [] shown e = absurd shown
polygons_show v (layer ∷ ts) (l ∷ ls) shown e =
    let both = and_parts (checks.is_polygon layer.kind) (all_polygons ts) e in
    (record { shows = shown.0; polygons = polygon_is layer.kind both.0 }, polygons_show v ts ls shown.1 both.1)

kinds_alike : (v : View) (sources : SourceLayers) (s : State) (ts : List Layer) (ls : List StateLayer) → AllZip (LayerShows v) ts ls → unfit sources s (does.Together joint.Union) ls ≡ option_map why_of (checks.refused_mixture joint.Union ts)
kinds_alike v sources s ts ls shown =
    let same : list_all (λ (l : StateLayer). is_polygon l.kind) ls ≡ all_polygons ts =
    sym (zip_all (LayerShows v) (λ (layer : Layer). checks.is_polygon layer.kind) (λ (l : StateLayer). is_polygon l.kind) (λ layer l h. sym (polygons_alike layer.kind) ∙ ap is_polygon (sym h.kind)) ts ls shown) in
    ap (λ (b : Bool). first_refusal (if b then None else Some state.wrong_kind) None) same ∙ mixture_told (all_polygons ts)

-- ---- what is united

united_at : (v : View) (view : IsView v) (base : Base) (seen : IsSeenIn v base.plane) (ts : List Layer) (ls : List StateLayer) → AllZip (PolygonsShow v) ts ls → 0 < length ts → checks.refused_alone ts ≡ None →
    (made : Layer) → IsUnited base.plane ts made → MergedShows v made (drop 1 ts) (united_layers (plane_of v) v.answers ls)
united_at v view base seen [] ls shown some several made is = absurd (omega (arith, some))
united_at v view base seen (first ∷ []) ls shown some several made is = absurd (let one : Some OneLayer ≡ None = several in cc)
united_at v view base seen (first ∷ second ∷ rest) ls shown some several made is = united_layers_show v view base.plane seen first second rest ls shown made is

-- ---- how many

all_united_long : (v : View) (ts : List Layer) (ls : List StateLayer) → length ts ≡ length ls → 0 < length ts → (outs : List (List StateLayer)) → united_layers (plane_of v) v.answers ls ≡ Ok outs → Longs ls outs
all_united_long v ts [] long some outs e = absurd (omega (arith, long, some))
all_united_long v ts (l ∷ []) long some outs e = absurd (cc)
all_united_long v ts (l ∷ m ∷ ls) long some outs e =
    let each : length {A = List StateLayer} (map (λ (k : StateLayer). []) (m ∷ ls)) ≡ length (m ∷ ls) = length-map (m ∷ ls) (λ (k : StateLayer). []) in
    subst (Longs (l ∷ m ∷ ls)) same (ap suc each, ap (λ (rest : List StateLayer). suc (length rest)) (nothing_joined (m ∷ ls)))
  where
    same : (united_layer (plane_of v) v.answers (l ∷ m ∷ ls) l ∷ []) ∷ map (λ (k : StateLayer). []) (m ∷ ls) ≡ outs
    same = cc

-- ---- the step

module _ (v : View) (view : IsView v) (base : Base) (seen : IsSeenIn v base.plane) (sources : SourceLayers) (layers : List HeldLayer) (s : State) (h : StateShows v layers s) (c : Command) (unites : c.action ≡ does.Together joint.Union) where
  abbrev ns : List ℕ
  ns = target_numbers c.target layers

  abbrev ts : List Layer
  ts = targets c.target layers

  abbrev ls : List StateLayer
  ls = layers_at s ns

  shown : AllZip (LayerShows v) ts ls
  shown = (targets_show v layers s h c.target).show

  lone : RefusedAlike (checks.refused_alone ts) (united_layers (plane_of v) v.answers ls)
  lone = lone_layers_are_refused v ts ls shown

  at_work : (answer : Result (List (List StateLayer)) state.RefuseWhy) → has_target c.target layers ≡ true → checks.refused_mixture joint.Union ts ≡ None → united_layers (plane_of v) v.answers ls ≡ answer →
      step (plane_of v) v.answers sources s c ≡ stepped (on_ok answer (put s c ns))
  at_work answer there none is =
      let fit : unfit sources s (does.Together joint.Union) ls ≡ None = kinds_alike v sources s ts ls shown ∙ ap (option_map why_of) none in
      step_by v sources s c (does.Together joint.Union) unites (λ n. refl) ns ((targets_show v layers s h c.target).there there)
      ∙ (λ i. stepped (changed_by s c ns None (fit i) (is i)))

  goes_on : run.refusal_together layers c joint.Union ≡ None → (after : List HeldLayer) → ChangesTogether base c joint.Union layers after → StepGives v sources s c after
  goes_on none after changes =
      let (before, work) = none_of_two (run.unfit_together layers c joint.Union) (run.failed_together layers c joint.Union) none in
      let (target, mixture, several) = none_of_three (checks.refused_target c.target layers) (checks.refused_mixture joint.Union ts) (checks.refused_alone ts) before in
      let there : has_target c.target layers ≡ true = target_there (has_target c.target layers) target in
      let some : 0 < length ts = targets_there c.target layers there in
      let polygons : AllZip (PolygonsShow v) ts ls = polygons_show v ts ls shown (one_kind_told (all_polygons ts) mixture) in
      let united : MergedShows v changes.puts.made (drop 1 ts) (united_layers (plane_of v) v.answers ls) = united_at v view base seen ts ls polygons some several changes.puts.made changes.puts.of_all in
      let outs : List (List StateLayer) = (united.merged ∷ []) ∷ map (λ (other : Layer). []) (drop 1 ts) in
      let placing : target_outputs c.target layers changes.outputs ≡ (changes.puts.titled ∷ []) ∷ nothings (drop 1 ts) =
      ap (target_outputs c.target layers) changes.puts.place ∙ first_outputs c.target changes.puts.titled layers some in
      let one : joined_up changes.outputs ≡ changes.puts.titled ∷ [] = ap joined_up changes.puts.place ∙ first_joined c.target changes.puts.titled (position_or_len (is_selected c.target) layers) in
      let alone : joined_up ((changes.puts.titled ∷ []) ∷ nothings (drop 1 ts)) ≡ changes.puts.titled ∷ [] = ap (λ (rest : List Layer). changes.puts.titled ∷ rest) (nothing_joined (drop 1 ts)) in
      let put_out : PutOutShows v c.target layers changes.outputs (map (map (titled c.name)) outs) = record {
        show = subst (λ (outputs : List (List Layer)). AllZip (AllZip (LayerShows v)) outputs (map (map (titled c.name)) outs)) (sym placing)
            ((titled_shows v c.name changes.puts.made united.merged united.shows changes.puts.titled changes.puts.title, tt), nothing_shows v (titled c.name) (drop 1 ts));
        all = ap joined_up placing ∙ alone ∙ sym one;
      } in
      let after_it = placed_outputs_show v layers s h c changes.outputs (map (map (titled c.name)) outs) put_out in
      let few : length (places.placed c layers changes.outputs) ≤ 1000 = subst (λ (held : List HeldLayer). length held ≤ 1000) changes.placed changes.few in
      let (t, is, shows) = after_it.few few in
      (t, at_work (Ok outs) there mixture united.answers ∙ ap stepped is, subst (λ (held : List HeldLayer). StateShows v held t) (sym changes.placed) shows)

  unfit_stops : (why : RefuseWhy) → First why (checks.refused_target c.target layers) (checks.refused_mixture joint.Union ts) (checks.refused_alone ts) → StepRefuses v sources s c why
  unfit_stops why (is_first target) =
      let absent = target_absent (has_target c.target layers) why target in
      step_refused v sources s c (does.Together joint.Union) unites (λ n. refl) no_layer ((targets_show v layers s h c.target).absent absent.0) ∙ ap (λ (w : RefuseWhy). Err (why_of w)) absent.1
  unfit_stops why (is_second target mixture) =
      let refused : unfit sources s (does.Together joint.Union) ls ≡ Some (why_of why) = kinds_alike v sources s ts ls shown ∙ ap (option_map why_of) mixture in
      step_by v sources s c (does.Together joint.Union) unites (λ n. refl) ns ((targets_show v layers s h c.target).there (target_there (has_target c.target layers) target))
      ∙ (λ i. stepped (changed_by s c ns None (refused i) (united_layers (plane_of v) v.answers ls)))
  unfit_stops why (is_third target mixture number) =
      at_work (Err (why_of why)) (target_there (has_target c.target layers) target) mixture (subst (λ (o : Option RefuseWhy). RefusedAlike o (united_layers (plane_of v) v.answers ls)) number lone)

  count_stops : (why : RefuseWhy) → has_target c.target layers ≡ true → checks.refused_mixture joint.Union ts ≡ None → checks.refused_alone ts ≡ None → run.refused_count (run.stay_count c layers + 1) ≡ Some why → StepRefuses v sources s c why
  count_stops why there mixture several count =
      let many = too_many_told (nat_lt 1000 (run.stay_count c layers + 1)) why count in
      let some : 0 < length ts = targets_there c.target layers there in
      let (outs, is) = subst (λ (o : Option RefuseWhy). RefusedAlike o (united_layers (plane_of v) v.answers ls)) several lone in
      let pairs = zip_long (LayerShows v) ts ls shown in
      let (long, one) = all_united_long v ts ls pairs some outs is in
      let named : List (List StateLayer) = map (map (titled c.name)) outs in
      let as_many : length named ≡ length ts = length-map outs (map (titled c.name)) ∙ long ∙ sym pairs in
      let left = placed_long v layers s h c.target c.keep named as_many in
      let put_out : length (joined_up named) ≡ 1 = joined_long (titled c.name) outs ∙ one in
      let past : 1000 < run.stay_count c layers + 1 = ltb-true 1000 (run.stay_count c layers + 1) many.0 in
      let more : 1000 < length (placed s c.keep ns named) = omega (arith, left, put_out, past) in
      at_work (Ok outs) there mixture is
      ∙ ap (λ (b : Bool). stepped (counted (placed s c.keep ns named) b)) (lt-ltb 1000 (length (placed s c.keep ns named)) more)
      ∙ ap (λ (w : RefuseWhy). Err (why_of w)) many.1

  stops_for : (why : RefuseWhy) → (run.unfit_together layers c joint.Union ≡ Some why) ⊎ ((run.unfit_together layers c joint.Union ≡ None) × (run.failed_together layers c joint.Union ≡ Some why)) → StepRefuses v sources s c why
  stops_for why (inl before) = unfit_stops why (which why (checks.refused_target c.target layers) (checks.refused_mixture joint.Union ts) (checks.refused_alone ts) before)
  stops_for why (inr (none, fails)) =
      let (target, mixture, several) = none_of_three (checks.refused_target c.target layers) (checks.refused_mixture joint.Union ts) (checks.refused_alone ts) none in
      count_stops why (target_there (has_target c.target layers) target) mixture several fails

pub union_steps_show : UnionStepsShow
union_steps_show v view base seen sources layers s h c unites = record {
  goes = goes_on v view base seen sources layers s h c unites;
  refused = λ why e. stops_for v view base seen sources layers s h c unites why (first_of_two why (run.unfit_together layers c joint.Union) (run.failed_together layers c joint.Union) e);
}

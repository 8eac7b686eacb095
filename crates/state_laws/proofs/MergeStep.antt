-- The step of a command that merges the layers of its target.
use Rattle.std.proofs.Common.{◌≡◌, ◌⊎◌, inl, inr, refl, sym, ap, ◌∙◌, subst, true≢false, ℕ, zero, suc, ◌+◌, ◌<◌, ◌≤◌, arith, Bool, true, false, not, cond, ◌||◌, List, [], ◌∷◌, ◌++◌, length, map, drop, filter, replicate, nat_lt, All, Option, Some, None, option_map, Result, Ok, Err, if◌then◌else◌}
use Rattle.std.specs.List.{AllZip, flat_map, list_all, list_any, position_or_len}
use Rattle.std.proofs.lemmas.Bool.{and_parts, lt-ltb, ltb-true}
use Rattle.std.proofs.lemmas.List.{length-map}
use Rattle.std.proofs.lemmas.List.Elements.{All-cons, All-nil}
use Rattle.lists.specs.Lists.{joined_up}
use Rattle.grid_base.specs.declared.kinds.Kind.{Kind}
use Rattle.grid_base.specs.declared.kinds.Kind.TheVariants as kinds
use Rattle.json_values.specs.Table.{TableContent}
use Rattle.geojson_io.specs.Layers.{same_kind}
use Rattle.table_terms.specs.Refusals.{first_refusal, on_ok}
use Rattle.table_rows.specs.Merge.{merge_tables}
use Rattle.table_rows.specs.declared.fault.TableWhy.{TableWhy}
use Rattle.job_terms.specs.declared.job.Action.TheVariants as does
use Rattle.job_terms.specs.declared.job.Command.{Command}
use Rattle.job_terms.specs.declared.job.JointAction.{JointAction}
use Rattle.job_terms.specs.declared.job.JointAction.TheVariants as joint
use Rattle.job_terms.specs.declared.job.Target.{Target}
use Rattle.run_plane.specs.declared.layer.Layer.{Layer}
use Rattle.run_state.specs.Origins.{Base}
use Rattle.run_state.specs.Targets as places
use Rattle.run_state.specs.Targets.{are_layers, has_target, is_selected, targets}
use Rattle.run_state.specs.declared.refusal.RefuseWhy.{RefuseWhy}
use Rattle.run_state.specs.declared.refusal.RefuseWhy.TheVariants.{WrongKind}
use Rattle.run_state.specs.declared.state.HeldLayer.{HeldLayer}
use Rattle.run_state.proofs.TargetLemmas.{other_first, target_first}
use Rattle.run_tables.specs.Made.{IsMerged, refused_layers}
use Rattle.run_steps.specs.Commands.{ChangesTogether, at_first}
use Rattle.run_checks.specs.Checks as checks
use Rattle.run_steps.specs.Refusals as run
use Rattle.chain_model.specs.Outcome as state
use Rattle.chain_model.specs.Outcome.{no_layer}
use Rattle.chain_model.specs.State.{State, StateLayer}
use Rattle.chain_model.specs.Targets.{SourceLayers, layers_at, placed}
use Rattle.chain_model.specs.Features.{merged_layers}
use Rattle.chain_model.specs.Steps.{first_kind, step, titled}
use Rattle.layer_laws.specs.Shown.{View, LayerShows, StateShows, plane_of}
use Rattle.layer_laws.specs.Placing.{PutOutShows, target_outputs}
use Rattle.layer_laws.specs.Reasons.{RefusedAlike, why_of}
use Rattle.state_laws.specs.Steps.{MergeStepsShow, StepGives, StepRefuses}
use Rattle.layer_laws.specs.Tables.{MergedShows}
use Rattle.layer_laws.specs.Targets.{target_numbers}
use Rattle.layer_laws.proofs.Counting.{joined_long, placed_long}
use Rattle.state_laws.proofs.EachLayer.{titled_shows}
use Rattle.layer_laws.proofs.Merging.{merged_layers_show, merged_of}
use Rattle.layer_laws.proofs.Placed.{counted, placed_outputs_show}
use Rattle.state_laws.proofs.Stepping.{First, changed_by, first_of_two, is_first, is_second, is_third, none_of_three, none_of_two, put, step_by, step_refused, stepped, target_absent, target_there, too_many_told, unfit, which}
use Rattle.layer_laws.proofs.Targeting.{targets_show}
use Rattle.layer_laws.proofs.Zipped.{zip_all, zip_long}

-- ---- layers of one kind

kinds_same : (j k : Kind) → same_kind j k ≡ checks.same_kind j k
kinds_same kinds.Polygon kinds.Polygon = refl
kinds_same kinds.Polygon kinds.Line = refl
kinds_same kinds.Polygon kinds.Point = refl
kinds_same kinds.Polygon kinds.Table = refl
kinds_same kinds.Line kinds.Polygon = refl
kinds_same kinds.Line kinds.Line = refl
kinds_same kinds.Line kinds.Point = refl
kinds_same kinds.Line kinds.Table = refl
kinds_same kinds.Point kinds.Polygon = refl
kinds_same kinds.Point kinds.Line = refl
kinds_same kinds.Point kinds.Point = refl
kinds_same kinds.Point kinds.Table = refl
kinds_same kinds.Table kinds.Polygon = refl
kinds_same kinds.Table kinds.Line = refl
kinds_same kinds.Table kinds.Point = refl
kinds_same kinds.Table kinds.Table = refl

same_is : (j k : Kind) → checks.same_kind j k ≡ true → k ≡ j
same_is kinds.Polygon kinds.Polygon e = refl
same_is kinds.Line kinds.Line e = refl
same_is kinds.Point kinds.Point e = refl
same_is kinds.Table kinds.Table e = refl
same_is j k e = absurd (true≢false (sym e))

abbrev all_same : Kind → List Layer → Bool
all_same k layers = list_all (λ (layer : Layer). checks.same_kind k layer.kind) layers

all_of_kind : (k : Kind) (layers : List Layer) → all_same k layers ≡ true → All (λ (layer : Layer). layer.kind ≡ k) layers
all_of_kind k [] e = All-nil (λ (layer : Layer). layer.kind ≡ k)
all_of_kind k (layer ∷ layers) e =
    let both = and_parts (checks.same_kind k layer.kind) (all_same k layers) e in
    All-cons (λ (other : Layer). other.kind ≡ k) layer layers (same_is k layer.kind both.0) (all_of_kind k layers both.1)

pub one_kind_told : (b : Bool) → (if b then None else Some WrongKind) ≡ None → b ≡ true
one_kind_told true e = refl
one_kind_told false e = absurd (let some : Some WrongKind ≡ None = e in cc)

firsts_same : (v : View) (ts : List Layer) (ls : List StateLayer) → AllZip (LayerShows v) ts ls → first_kind ls ≡ checks.first_kind ts
firsts_same v [] [] shown = refl
firsts_same v [] (l ∷ ls) shown = absurd shown
firsts_same v (layer ∷ ts) [] shown = absurd shown
firsts_same v (layer ∷ ts) (l ∷ ls) shown = shown.0.kind

pub mixture_told : (b : Bool) → first_refusal (if b then None else Some state.wrong_kind) None ≡ option_map why_of (if b then None else Some WrongKind)
mixture_told true = refl
mixture_told false = refl

module _ (force : Bool) where
  abbrev a : JointAction
  a = joint.MergeLayers force

  kinds_alike : (v : View) (sources : SourceLayers) (s : State) (ts : List Layer) (ls : List StateLayer) → AllZip (LayerShows v) ts ls → unfit sources s (does.Together a) ls ≡ option_map why_of (checks.refused_mixture a ts)
  kinds_alike v sources s ts ls shown =
      let same : list_all (λ (l : StateLayer). same_kind (first_kind ls) l.kind) ls ≡ all_same (checks.first_kind ts) ts =
      sym (zip_all (LayerShows v) (λ (layer : Layer). checks.same_kind (checks.first_kind ts) layer.kind) (λ (l : StateLayer). same_kind (first_kind ls) l.kind)
      (λ layer l h. sym (kinds_same (checks.first_kind ts) layer.kind) ∙ (λ i. same_kind (sym (firsts_same v ts ls shown) i) (sym h.kind i))) ts ls shown) in
      ap (λ (b : Bool). first_refusal (if b then None else Some state.wrong_kind) None) same ∙ mixture_told (all_same (checks.first_kind ts) ts)

  -- ---- what is merged

  merged_at : (v : View) (ts : List Layer) (ls : List StateLayer) → AllZip (LayerShows v) ts ls → checks.refused_mixture a ts ≡ None → (made : Layer) → IsMerged force ts made → MergedShows v made (drop 1 ts) (merged_layers force ls)
  merged_at v [] ls shown none made is = absurd (let e : None ≡ Some is.first = is.begins in cc)
  merged_at v (first ∷ rest) ls shown none made is =
      let alike = all_of_kind first.kind rest (and_parts (checks.same_kind first.kind first.kind) (all_same first.kind rest) (one_kind_told (all_same first.kind (first ∷ rest)) none)).1 in
      (merged_layers_show v first rest ls shown alike force).0 made is

  refused_at : (v : View) (ts : List Layer) (ls : List StateLayer) → AllZip (LayerShows v) ts ls → 0 < length ts → checks.refused_mixture a ts ≡ None → RefusedAlike (refused_layers force ts) (merged_layers force ls)
  refused_at v [] ls shown some none = absurd (omega (arith, some))
  refused_at v (first ∷ rest) ls shown some none =
      let alike = all_of_kind first.kind rest (and_parts (checks.same_kind first.kind first.kind) (all_same first.kind rest) (one_kind_told (all_same first.kind (first ∷ rest)) none)).1 in
      (merged_layers_show v first rest ls shown alike force).1

-- ---- how many

pub nothing_joined : {A B : Type 0} (xs : List A) → joined_up {A = B} (map (λ (x : A). []) xs) ≡ []
nothing_joined [] = refl
nothing_joined (x ∷ xs) = nothing_joined xs

abbrev pub Longs : List StateLayer → List (List StateLayer) → Type 0
Longs ls outs = (length outs ≡ length ls) × (length (joined_up outs) ≡ 1)

merged_long : (l : StateLayer) (ls : List StateLayer) (answer : Result TableContent TableWhy) (outs : List (List StateLayer)) → merged_of l ls answer ≡ Ok outs → Longs (l ∷ ls) outs
merged_long l ls (Err why) outs e = absurd (cc)
merged_long l ls (Ok t) outs e =
    let long : length {A = List StateLayer} (map (λ (m : StateLayer). []) ls) ≡ length ls = length-map ls (λ (m : StateLayer). []) in
    subst (Longs (l ∷ ls)) (same outs e) (ap suc long, ap (λ (rest : List StateLayer). suc (length rest)) (nothing_joined ls))
  where
    same : (outs : List (List StateLayer)) → merged_of l ls (Ok t) ≡ Ok outs → (record l { table = t; shapes = flat_map (λ (m : StateLayer). m.shapes) (l ∷ ls) } ∷ []) ∷ map (λ (m : StateLayer). []) ls ≡ outs
    same outs e = cc

all_merged_long : (force : Bool) (ts : List Layer) (ls : List StateLayer) → length ts ≡ length ls → 0 < length ts → (outs : List (List StateLayer)) → merged_layers force ls ≡ Ok outs → Longs ls outs
all_merged_long force ts [] long some outs e = absurd (omega (arith, long, some))
all_merged_long force ts (l ∷ ls) long some outs e = merged_long l ls (merge_tables (map (λ (m : StateLayer). m.table) (l ∷ ls)) force) outs e

some_there : {A : Type 0} (test : A → Bool) (xs : List A) → list_any test xs ≡ true → 0 < length (filter test xs)
some_there test [] e = absurd (true≢false (sym e))
some_there test (x ∷ xs) e = go (test x) e (some_there test xs)
  where
    go : (b : Bool) → (b || list_any test xs) ≡ true → (list_any test xs ≡ true → 0 < length (filter test xs)) → 0 < length (cond b (x ∷ filter test xs) (filter test xs))
    go true e more = omega arith
    go false e more = more e

pub targets_there : (t : Target) (layers : List HeldLayer) → has_target t layers ≡ true → 0 < length (targets t layers)
targets_there t layers e =
    let some : 0 < length (filter (is_selected t) layers) = some_there (is_selected t) layers (and_parts (are_layers t layers) (list_any (is_selected t) layers) e).1 in
    let long = length-map (filter (is_selected t) layers) (λ (held : HeldLayer). held.layer) in
    omega (arith, some, long)

-- ---- where it goes

abbrev pub nothings : List Layer → List (List Layer)
nothings layers = map (λ (other : Layer). []) layers

module _ (t : Target) (made : Layer) where
  no_outputs : (layers : List HeldLayer) → target_outputs t layers [] ≡ nothings (targets t layers)
  no_outputs [] = refl
  no_outputs (held ∷ layers) = go (is_selected t held) refl (no_outputs layers)
    where
      go : (b : Bool) → is_selected t held ≡ b → target_outputs t layers [] ≡ nothings (targets t layers) → target_outputs t (held ∷ layers) [] ≡ nothings (targets t (held ∷ layers))
      go true e more =
          ap (λ (b : Bool). if b then [] ∷ target_outputs t layers [] else target_outputs t layers []) e ∙ ap (λ (rest : List (List Layer)). [] ∷ rest) more ∙ sym (ap nothings (target_first t held layers e))
      go false e more = ap (λ (b : Bool). if b then [] ∷ target_outputs t layers [] else target_outputs t layers []) e ∙ more ∙ sym (ap nothings (other_first t held layers e))

  abbrev First_at : List HeldLayer → Type 0
  First_at layers = target_outputs t layers (at_first t layers made) ≡ (made ∷ []) ∷ nothings (drop 1 (targets t layers))

  abbrev put_at : ℕ → List (List Layer)
  put_at n = replicate n [] ++ (made ∷ []) ∷ []

  pub first_outputs : (layers : List HeldLayer) → 0 < length (targets t layers) → First_at layers
  first_outputs [] some = absurd (omega (arith, some))
  first_outputs (held ∷ layers) some = go (is_selected t held) refl (first_outputs layers)
    where
      go : (b : Bool) → is_selected t held ≡ b → (0 < length (targets t layers) → First_at layers) → First_at (held ∷ layers)
      go true e more =
          let place : at_first t (held ∷ layers) made ≡ (made ∷ []) ∷ [] = ap (λ (b : Bool). put_at (cond (not b) (1 + position_or_len (is_selected t) layers) 0)) e in
          ap (target_outputs t (held ∷ layers)) place
          ∙ ap (λ (b : Bool). if b then (made ∷ []) ∷ target_outputs t layers [] else target_outputs t layers []) e
          ∙ ap (λ (rest : List (List Layer)). (made ∷ []) ∷ rest) (no_outputs layers ∙ sym (ap (λ (ts : List Layer). nothings (drop 1 ts)) (target_first t held layers e)))
      go false e more =
          let next : 1 + position_or_len (is_selected t) layers ≡ suc (position_or_len (is_selected t) layers) = omega arith in
          let place : at_first t (held ∷ layers) made ≡ [] ∷ at_first t layers made = ap (λ (b : Bool). put_at (cond (not b) (1 + position_or_len (is_selected t) layers) 0)) e ∙ ap put_at next in
          let left : targets t (held ∷ layers) ≡ targets t layers = other_first t held layers e in
          let same : length (targets t (held ∷ layers)) ≡ length (targets t layers) = ap length left in
          ap (target_outputs t (held ∷ layers)) place
          ∙ ap (λ (b : Bool). if b then [] ∷ target_outputs t layers (at_first t layers made) else target_outputs t layers (at_first t layers made)) e
          ∙ more (omega (arith, same, some))
          ∙ sym (ap (λ (ts : List Layer). (made ∷ []) ∷ nothings (drop 1 ts)) left)

  pub first_joined : (n : ℕ) → joined_up (put_at n) ≡ made ∷ []
  first_joined zero = refl
  first_joined (suc n) = first_joined n

pub nothing_shows : (v : View) (title : StateLayer → StateLayer) (xs : List Layer) → AllZip (AllZip (LayerShows v)) (nothings xs) (map (map title) (map (λ (other : Layer). []) xs))
nothing_shows v title [] = tt
nothing_shows v title (x ∷ xs) = (tt, nothing_shows v title xs)

-- ---- the step

module _ (v : View) (base : Base) (sources : SourceLayers) (layers : List HeldLayer) (s : State) (h : StateShows v layers s) (c : Command) (force : Bool) (merges : c.action ≡ does.Together (joint.MergeLayers force)) where
  abbrev ns : List ℕ
  ns = target_numbers c.target layers

  abbrev ts : List Layer
  ts = targets c.target layers

  abbrev ls : List StateLayer
  ls = layers_at s ns

  shown : AllZip (LayerShows v) ts ls
  shown = (targets_show v layers s h c.target).show

  at_work : (answer : Result (List (List StateLayer)) state.RefuseWhy) → has_target c.target layers ≡ true → checks.refused_mixture (joint.MergeLayers force) ts ≡ None → merged_layers force ls ≡ answer →
      step (plane_of v) v.answers sources s c ≡ stepped (on_ok answer (put s c ns))
  at_work answer there none is =
      let fit : unfit sources s (does.Together (joint.MergeLayers force)) ls ≡ None = kinds_alike force v sources s ts ls shown ∙ ap (option_map why_of) none in
      step_by v sources s c (does.Together (joint.MergeLayers force)) merges (λ n. refl) ns ((targets_show v layers s h c.target).there there)
      ∙ (λ i. stepped (changed_by s c ns None (fit i) (is i)))

  goes_on : run.refusal_together layers c (joint.MergeLayers force) ≡ None → (after : List HeldLayer) → ChangesTogether base c (joint.MergeLayers force) layers after →
      StepGives v sources s c after
  goes_on none after changes =
      let (before, work) = none_of_two (run.unfit_together layers c (joint.MergeLayers force)) (run.failed_together layers c (joint.MergeLayers force)) none in
      let (target, mixture, number) = none_of_three (checks.refused_target c.target layers) (checks.refused_mixture (joint.MergeLayers force) ts) None before in
      let there : has_target c.target layers ≡ true = target_there (has_target c.target layers) target in
      let merged : MergedShows v changes.puts.made (drop 1 ts) (merged_layers force ls) = merged_at force v ts ls shown mixture changes.puts.made changes.puts.of_all in
      let outs : List (List StateLayer) = (merged.merged ∷ []) ∷ map (λ (other : Layer). []) (drop 1 ts) in
      let placing : target_outputs c.target layers changes.outputs ≡ (changes.puts.titled ∷ []) ∷ nothings (drop 1 ts) =
      ap (target_outputs c.target layers) changes.puts.place ∙ first_outputs c.target changes.puts.titled layers (targets_there c.target layers there) in
      let one : joined_up changes.outputs ≡ changes.puts.titled ∷ [] = ap joined_up changes.puts.place ∙ first_joined c.target changes.puts.titled (position_or_len (is_selected c.target) layers) in
      let alone : joined_up ((changes.puts.titled ∷ []) ∷ nothings (drop 1 ts)) ≡ changes.puts.titled ∷ [] = ap (λ (rest : List Layer). changes.puts.titled ∷ rest) (nothing_joined (drop 1 ts)) in
      let put_out : PutOutShows v c.target layers changes.outputs (map (map (titled c.name)) outs) = record {
        show = subst (λ (outputs : List (List Layer)). AllZip (AllZip (LayerShows v)) outputs (map (map (titled c.name)) outs)) (sym placing)
            ((titled_shows v c.name changes.puts.made merged.merged merged.shows changes.puts.titled changes.puts.title, tt), nothing_shows v (titled c.name) (drop 1 ts));
        all = ap joined_up placing ∙ alone ∙ sym one;
      } in
      let after_it = placed_outputs_show v layers s h c changes.outputs (map (map (titled c.name)) outs) put_out in
      let few : length (places.placed c layers changes.outputs) ≤ 1000 = subst (λ (held : List HeldLayer). length held ≤ 1000) changes.placed changes.few in
      let (t, is, shows) = after_it.few few in
      (t, at_work (Ok outs) there mixture merged.answers ∙ ap stepped is, subst (λ (held : List HeldLayer). StateShows v held t) (sym changes.placed) shows)

  unfit_stops : (why : RefuseWhy) → First why (checks.refused_target c.target layers) (checks.refused_mixture (joint.MergeLayers force) ts) None → StepRefuses v sources s c why
  unfit_stops why (is_first target) =
      let absent = target_absent (has_target c.target layers) why target in
      step_refused v sources s c (does.Together (joint.MergeLayers force)) merges (λ n. refl) no_layer ((targets_show v layers s h c.target).absent absent.0) ∙ ap (λ (w : RefuseWhy). Err (why_of w)) absent.1
  unfit_stops why (is_second target mixture) =
      let refused : unfit sources s (does.Together (joint.MergeLayers force)) ls ≡ Some (why_of why) = kinds_alike force v sources s ts ls shown ∙ ap (option_map why_of) mixture in
      step_by v sources s c (does.Together (joint.MergeLayers force)) merges (λ n. refl) ns ((targets_show v layers s h c.target).there (target_there (has_target c.target layers) target))
      ∙ (λ i. stepped (changed_by s c ns None (refused i) (merged_layers force ls)))
  unfit_stops why (is_third target mixture number) = absurd (let none : None ≡ Some why = number in cc)

  tables_stop : (why : RefuseWhy) (refusal : Option RefuseWhy) → refusal ≡ Some why → RefusedAlike refusal (merged_layers force ls) → merged_layers force ls ≡ Err (why_of why)
  tables_stop why refusal e alike = subst (λ (o : Option RefuseWhy). RefusedAlike o (merged_layers force ls)) e alike

  count_stops : (why : RefuseWhy) → has_target c.target layers ≡ true → checks.refused_mixture (joint.MergeLayers force) ts ≡ None → refused_layers force ts ≡ None → run.refused_count (run.stay_count c layers + 1) ≡ Some why →
      StepRefuses v sources s c why
  count_stops why there mixture tables count =
      let many = too_many_told (nat_lt 1000 (run.stay_count c layers + 1)) why count in
      let some : 0 < length ts = targets_there c.target layers there in
      let (outs, is) = subst (λ (o : Option RefuseWhy). RefusedAlike o (merged_layers force ls)) tables (refused_at force v ts ls shown some mixture) in
      let pairs = zip_long (LayerShows v) ts ls shown in
      let (long, one) = all_merged_long force ts ls pairs some outs is in
      let named : List (List StateLayer) = map (map (titled c.name)) outs in
      let as_many : length named ≡ length ts = length-map outs (map (titled c.name)) ∙ long ∙ sym pairs in
      let left = placed_long v layers s h c.target c.keep named as_many in
      let put_out : length (joined_up named) ≡ 1 = joined_long (titled c.name) outs ∙ one in
      let past : 1000 < run.stay_count c layers + 1 = ltb-true 1000 (run.stay_count c layers + 1) many.0 in
      let more : 1000 < length (placed s c.keep ns named) = omega (arith, left, put_out, past) in
      at_work (Ok outs) there mixture is
      ∙ ap (λ (b : Bool). stepped (counted (placed s c.keep ns named) b)) (lt-ltb 1000 (length (placed s c.keep ns named)) more)
      ∙ ap (λ (w : RefuseWhy). Err (why_of w)) many.1

  work_stops : (why : RefuseWhy) → has_target c.target layers ≡ true → checks.refused_mixture (joint.MergeLayers force) ts ≡ None → (refused_layers force ts ≡ Some why) ⊎ ((refused_layers force ts ≡ None) × (run.refused_count (run.stay_count c layers + 1) ≡ Some why)) →
      StepRefuses v sources s c why
  work_stops why there mixture (inl tables) =
      at_work (Err (why_of why)) there mixture (tables_stop why (refused_layers force ts) tables (refused_at force v ts ls shown (targets_there c.target layers there) mixture))
  work_stops why there mixture (inr (tables, count)) = count_stops why there mixture tables count

  stops_for : (why : RefuseWhy) → (run.unfit_together layers c (joint.MergeLayers force) ≡ Some why) ⊎ ((run.unfit_together layers c (joint.MergeLayers force) ≡ None) × (run.failed_together layers c (joint.MergeLayers force) ≡ Some why)) →
      StepRefuses v sources s c why
  stops_for why (inl before) = unfit_stops why (which why (checks.refused_target c.target layers) (checks.refused_mixture (joint.MergeLayers force) ts) None before)
  stops_for why (inr (none, fails)) =
      let (target, mixture, number) = none_of_three (checks.refused_target c.target layers) (checks.refused_mixture (joint.MergeLayers force) ts) None none in
      work_stops why (target_there (has_target c.target layers) target) mixture (first_of_two why (refused_layers force ts) (run.refused_count (run.stay_count c layers + 1)) fails)

pub merge_steps_show : MergeStepsShow
merge_steps_show v base sources layers s h c force merges = record {
  goes = goes_on v base sources layers s h c force merges;
  refused = λ why e. stops_for v base sources layers s h c force merges why (first_of_two why (run.unfit_together layers c (joint.MergeLayers force)) (run.failed_together layers c (joint.MergeLayers force)) e);
}

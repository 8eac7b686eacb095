-- Steps of commands on rows and columns.
use Rattle.std.proofs.Common.{◌≡◌, refl, sym, ap, ◌∙◌, subst, true≢false, ℕ, arith, Bool, true, false, List, [], ◌∷◌, length, Some, None, option_map, Result, Ok, Err}
use Rattle.std.specs.List.{AllZip, enumerate_from}
use Rattle.std.proofs.lemmas.List.{length-map}
use Rattle.std.proofs.lemmas.List.FromFn.{length-enumerate_from}
use Rattle.json_values.specs.Table.{TableContent}
use Rattle.expr_lang.specs.Tree.{all_assigned, tree_of}
use Rattle.table_terms.specs.Refusals.{on_ok}
use Rattle.join_terms.specs.declared.joins.JoinSpec.{JoinSpec}
use Rattle.table_rows.specs.Columns.{keep_fields, rename_fields}
use Rattle.table_ops.specs.Join.{join_tables}
use Rattle.table_rows.specs.Splitting.{split_rows}
use Rattle.table_rows.specs.declared.fault.TableWhy.{TableWhy}
use Rattle.table_rows.specs.declared.split.SplitItem.{SplitItem}
use Rattle.calc_ops.specs.EachRow.{each_rows}
use Rattle.calc_ops.specs.EarlyRows.{uniq_rows}
use Rattle.calc_ops.specs.KeyOrder.{sort_rows}
use Rattle.job_terms.specs.declared.job.Action.TheVariants as does
use Rattle.job_terms.specs.declared.job.Command.{Command}
use Rattle.job_terms.specs.declared.job.LayerAction.{LayerAction}
use Rattle.job_terms.specs.declared.job.LayerAction.TheVariants as action
use Rattle.run_plane.specs.declared.layer.Layer.{Layer}
use Rattle.run_state.specs.Origins as run
use Rattle.run_state.specs.Origins.{Base}
use Rattle.run_state.specs.Stops.{refusal_of}
use Rattle.run_state.specs.Targets.{targets}
use Rattle.run_state.specs.declared.refusal.RefuseWhy.{RefuseWhy}
use Rattle.run_state.specs.declared.state.HeldLayer.{HeldLayer}
use Rattle.run_tables.specs.Made.{GivesTable, One}
use Rattle.run_steps.specs.Commands.{Joins, PutsOut}
use Rattle.run_checks.specs.Checks as checks
use Rattle.run_steps.specs.Refusals as held
use Rattle.chain_model.specs.Outcome as state
use Rattle.chain_model.specs.State.{State, StateLayer, take_features}
use Rattle.chain_model.specs.Targets.{SourceLayers, layers_at}
use Rattle.chain_model.specs.Targets as model
use Rattle.chain_model.specs.Features as features
use Rattle.chain_model.specs.Features.{Outputs, assign_layer, filter_fields_layer, filter_layer, join_layer, rename_fields_layer, sort_layer, split_layer, split_piece, uniq_layer, with_features, with_table}
use Rattle.chain_model.specs.Steps.{each_layer, outputs_of, refused_for_origin}
use Rattle.chain_model.specs.Steps as steps
use Rattle.layer_laws.specs.Shown.{View, IsView, LayerShows, SourcesShow, StateShows, plane_of}
use Rattle.layer_laws.specs.Reasons.{AnswerShows, MakesAlike, why_of}
use Rattle.state_laws.specs.Steps.{TableStepsShow, is_on_tables}
use Rattle.layer_laws.specs.Targets.{target_numbers}
use Rattle.state_laws.proofs.EachLayer.{LayerAlike, alike_with}
use Rattle.layer_laws.proofs.LayerKinds.{only_taken}
use Rattle.layer_laws.proofs.Splitting.{pieces_are_shown, pieces_of, split_of}
use Rattle.state_laws.proofs.Stepping.{IsAlike, first_alike, step_shows, unfit}
use Rattle.layer_laws.proofs.TableCommands.{assigned_fields_show, early_rows_show, fields_show, filtered_rows_show, joins_show, new_names_show, passed, passed_of, sorted_rows_show}
use Rattle.layer_laws.proofs.Targeting.{one_layer_shows, origins_show, targets_show}
use Rattle.layer_laws.proofs.Zipped.{zip_weaker}

-- ---- what a state makes of a layer

abbrev joined_with : Result StateLayer state.RefuseWhy → JoinSpec → StateLayer → Outputs
joined_with found spec l = on_ok found (λ (m : StateLayer). join_layer m spec l)

-- nothing where the command is another
abbrev made_of : View → SourceLayers → State → LayerAction → StateLayer → Outputs
made_of v sources s (action.Join from spec) l = joined_with (model.one_layer (model.origin_layers sources s from)) spec l
made_of v sources s (action.Filter test invert remove_empty) l = filter_layer (plane_of v) v.answers test invert remove_empty l
made_of v sources s (action.FilterFields fields) l = filter_fields_layer fields l
made_of v sources s (action.RenameFields pairs) l = rename_fields_layer pairs l
made_of v sources s (action.Split field) l = split_layer field l
made_of v sources s (action.Each assigns) l = assign_layer assigns l
made_of v sources s (action.Sort key descending) l = sort_layer key descending l
made_of v sources s (action.Uniq key most invert) l = uniq_layer key most invert l
made_of v sources s _ l = Ok []

-- the outputs for each layer are those

joined_outputs : (found : Result StateLayer state.RefuseWhy) (spec : JoinSpec) (ls : List StateLayer) → steps.refusal_of found ≡ None →
    on_ok found (λ (m : StateLayer). each_layer (join_layer m spec) ls) ≡ each_layer (joined_with found spec) ls
joined_outputs (Ok m) spec ls none = refl
joined_outputs (Err why) spec ls none = absurd (let w : Some why ≡ None = none in cc)

other : {P : Type 0} → false ≡ true → P
other e = absurd (true≢false (sym e))

outputs_are : (v : View) (sources : SourceLayers) (s : State) (a : LayerAction) → is_on_tables a ≡ true → refused_for_origin sources s (does.Each a) ≡ None → (ls : List StateLayer) →
    outputs_of (plane_of v) v.answers sources s (does.Each a) ls ≡ each_layer (made_of v sources s a) ls
outputs_are v sources s (action.Join from spec) on none ls = joined_outputs (model.one_layer (model.origin_layers sources s from)) spec ls none
outputs_are v sources s (action.Filter test invert remove_empty) on none ls = refl
outputs_are v sources s (action.FilterFields fields) on none ls = refl
outputs_are v sources s (action.RenameFields pairs) on none ls = refl
outputs_are v sources s (action.Split field) on none ls = refl
outputs_are v sources s (action.Each assigns) on none ls = refl
outputs_are v sources s (action.Sort key descending) on none ls = refl
outputs_are v sources s (action.Uniq key most invert) on none ls = refl
outputs_are v sources s a on none ls = other on

-- ---- and a run

joins_alike : (v : View) (layer : Layer) (l : StateLayer) → LayerShows v layer l → (found : Result Layer RefuseWhy) (has : Result StateLayer state.RefuseWhy) → AnswerShows (LayerShows v) found has → (spec : JoinSpec) (Makes : List Layer → Type 0) →
    ((made : List Layer) → Makes made → (source : Layer) × (found ≡ Ok source) × One (GivesTable (join_tables layer.table source.table spec) layer) made) → MakesAlike v Makes (held.refused_join found spec layer) (joined_with has spec l)
joins_alike v layer l h (Ok source) (Ok m) shown spec Makes are =
    let alike = joins_show v layer source l m h shown spec in
    record {
      shows = λ made makes.
          let (other, found, one) = are made makes in
          let same : other ≡ source = let e : Ok source ≡ Ok other = found in cc in
          alike.shows made (subst (λ (from : Layer). One (GivesTable (join_tables layer.table from.table spec) layer) made) same one);
      refused = alike.refused;
    }
joins_alike v layer l h (Err why) (Err w) shown spec Makes are = record {
  shows = λ made makes. let (source, found, one) = are made makes in absurd (let e : Err why ≡ Ok source = found in cc);
  refused = ap Err shown;
}
joins_alike v layer l h (Ok source) (Err w) shown spec Makes are = absurd shown
joins_alike v layer l h (Err why) (Ok m) shown spec Makes are = absurd shown

module _ (v : View) (view : IsView v) (base : Base) (sources : SourceLayers) (owns : SourcesShow v base.sources sources) (layers : List HeldLayer) (s : State) (h : StateShows v layers s) where
  makes_alike : (a : LayerAction) → is_on_tables a ≡ true → (layer : Layer) (l : StateLayer) → LayerShows v layer l → LayerAlike v (PutsOut base layers a layer) (held.RefusesLayer base layers a layer) (made_of v sources s a l)
  makes_alike (action.Join from spec) on layer l shown =
      alike_with (joins_alike v layer l shown (run.one_layer (run.origin_layers base.sources layers from)) (model.one_layer (model.origin_layers sources s from))
      (one_layer_shows v (run.origin_layers base.sources layers from) (model.origin_layers sources s from) (origins_show v layers s h base.sources sources owns from)) spec (Joins base layers from spec layer)
      (λ made joins. (joins.source, joins.found, joins.joined)))
  makes_alike (action.Filter test invert remove_empty) on layer l shown = alike_with (filtered_rows_show v view layer l shown test invert remove_empty)
  makes_alike (action.FilterFields fields) on layer l shown = alike_with (fields_show v layer l shown fields)
  makes_alike (action.RenameFields pairs) on layer l shown = alike_with (new_names_show v layer l shown pairs)
  makes_alike (action.Split field) on layer l shown = alike_with (pieces_are_shown v layer l shown field)
  makes_alike (action.Each assigns) on layer l shown = alike_with (assigned_fields_show v layer l shown assigns)
  makes_alike (action.Sort key descending) on layer l shown = alike_with (sorted_rows_show v layer l shown key descending)
  makes_alike (action.Uniq key most invert) on layer l shown = alike_with (early_rows_show v layer l shown key most invert)
  makes_alike a on layer l shown = other on

-- ---- how many layers

pub one_table : (l : StateLayer) (answer : Result TableContent TableWhy) (outs : List StateLayer) → with_table l answer ≡ Ok outs → length outs ≡ 1
one_table l (Ok t) outs e = let same : record l { table = t } ∷ [] ≡ outs = cc in sym (ap length same)
one_table l (Err why) outs e = absurd (cc)

one_taken : (l : StateLayer) (answer : Result (List ℕ) TableWhy) (outs : List StateLayer) → with_features l answer ≡ Ok outs → length outs ≡ 1
one_taken l (Ok numbers) outs e = let same : take_features l numbers ∷ [] ≡ outs = cc in sym (ap length same)
one_taken l (Err why) outs e = absurd (cc)

one_passed : (v : View) (l : StateLayer) (remove_empty : Bool) (answer : Result (List ℕ) TableWhy) (outs : List StateLayer) → passed_of v l remove_empty answer ≡ Ok outs → length outs ≡ 1
one_passed v l remove_empty (Ok numbers) outs e = let same : passed v l remove_empty numbers ∷ [] ≡ outs = cc in sym (ap length same)
one_passed v l remove_empty (Err why) outs e = absurd (cc)

one_joined : (found : Result StateLayer state.RefuseWhy) (spec : JoinSpec) (l : StateLayer) (outs : List StateLayer) → joined_with found spec l ≡ Ok outs → length outs ≡ 1
one_joined (Ok m) spec l outs e = one_table l (join_tables l.table m.table spec) outs e
one_joined (Err why) spec l outs e = absurd (cc)

pieces_long : (l : StateLayer) (items : List SplitItem) → length (pieces_of l items) ≡ held.piece_count (Ok items)
pieces_long l [] = refl
pieces_long l (item ∷ items) =
    let all = length-map (enumerate_from 0 (item ∷ items)) (split_piece l) in
    let each = length-enumerate_from 0 (item ∷ items) in
    omega (arith, all, each)

pieces_counted : (l : StateLayer) (answer : Result (List SplitItem) TableWhy) (outs : List StateLayer) → split_of l answer ≡ Ok outs → length outs ≡ held.piece_count answer
pieces_counted l (Ok items) outs e = let same : pieces_of l items ≡ outs = cc in sym (ap length same) ∙ pieces_long l items
pieces_counted l (Err why) outs e = absurd (cc)

outputs_counted : (v : View) (sources : SourceLayers) (s : State) (a : LayerAction) → is_on_tables a ≡ true → (layer : Layer) (l : StateLayer) → LayerShows v layer l → (outs : List StateLayer) → made_of v sources s a l ≡ Ok outs → length outs ≡ held.output_count a layer
outputs_counted v sources s (action.Join from spec) on layer l h outs e = one_joined (model.one_layer (model.origin_layers sources s from)) spec l outs e
outputs_counted v sources s (action.Filter test invert remove_empty) on layer l h outs e = one_passed v l remove_empty (features.kept_numbers l test invert) outs e
outputs_counted v sources s (action.FilterFields fields) on layer l h outs e = one_table l (keep_fields l.table fields) outs e
outputs_counted v sources s (action.RenameFields pairs) on layer l h outs e = one_table l (rename_fields l.table pairs) outs e
outputs_counted v sources s (action.Split field) on layer l h outs e = pieces_counted l (split_rows l.table field) outs e ∙ ap (λ (t : TableContent). held.piece_count (split_rows t field)) h.table
outputs_counted v sources s (action.Each assigns) on layer l h outs e = one_table l (each_rows l.table (all_assigned assigns)) outs e
outputs_counted v sources s (action.Sort key descending) on layer l h outs e = one_taken l (sort_rows l.table (tree_of key) descending) outs e
outputs_counted v sources s (action.Uniq key most invert) on layer l h outs e = one_taken l (uniq_rows l.table (tree_of key) most invert) outs e
outputs_counted v sources s a on layer l h outs e = other on

-- ---- the source, and the kinds

found_alike : (v : View) (found : Result Layer RefuseWhy) (has : Result StateLayer state.RefuseWhy) → AnswerShows (LayerShows v) found has → steps.refusal_of has ≡ option_map why_of (refusal_of found)
found_alike v (Ok layer) (Ok l) shown = refl
found_alike v (Err why) (Err w) shown = ap Some shown
found_alike v (Ok layer) (Err w) shown = absurd shown
found_alike v (Err why) (Ok l) shown = absurd shown

source_alike : (v : View) (base : Base) (sources : SourceLayers) → SourcesShow v base.sources sources → (layers : List HeldLayer) (s : State) → StateShows v layers s → (a : LayerAction) → is_on_tables a ≡ true →
    refused_for_origin sources s (does.Each a) ≡ option_map why_of (checks.refused_for_origin base.sources layers a)
source_alike v base sources owns layers s h (action.Join from spec) on =
    found_alike v (run.one_layer (run.origin_layers base.sources layers from)) (model.one_layer (model.origin_layers sources s from))
    (one_layer_shows v (run.origin_layers base.sources layers from) (model.origin_layers sources s from) (origins_show v layers s h base.sources sources owns from))
source_alike v base sources owns layers s h (action.Filter test invert remove_empty) on = refl
source_alike v base sources owns layers s h (action.FilterFields fields) on = refl
source_alike v base sources owns layers s h (action.RenameFields pairs) on = refl
source_alike v base sources owns layers s h (action.Split field) on = refl
source_alike v base sources owns layers s h (action.Each assigns) on = refl
source_alike v base sources owns layers s h (action.Sort key descending) on = refl
source_alike v base sources owns layers s h (action.Uniq key most invert) on = refl
source_alike v base sources owns layers s h a on = other on

-- the kinds alone are looked at
kinds_alike : (v : View) (base : Base) (sources : SourceLayers) (layers : List HeldLayer) (s : State) (a : LayerAction) → is_on_tables a ≡ true → (ts : List Layer) (ls : List StateLayer) → AllZip (LayerShows v) ts ls →
    unfit sources s (does.Each a) ls ≡ option_map why_of (checks.refused_kinds base.sources layers a ts)
kinds_alike v base sources layers s (action.Join from spec) on ts ls shown = only_taken v (action.Join from spec) ts ls shown
kinds_alike v base sources layers s (action.Filter test invert remove_empty) on ts ls shown = only_taken v (action.Filter test invert remove_empty) ts ls shown
kinds_alike v base sources layers s (action.FilterFields fields) on ts ls shown = only_taken v (action.FilterFields fields) ts ls shown
kinds_alike v base sources layers s (action.RenameFields pairs) on ts ls shown = only_taken v (action.RenameFields pairs) ts ls shown
kinds_alike v base sources layers s (action.Split field) on ts ls shown = only_taken v (action.Split field) ts ls shown
kinds_alike v base sources layers s (action.Each assigns) on ts ls shown = only_taken v (action.Each assigns) ts ls shown
kinds_alike v base sources layers s (action.Sort key descending) on ts ls shown = only_taken v (action.Sort key descending) ts ls shown
kinds_alike v base sources layers s (action.Uniq key most invert) on ts ls shown = only_taken v (action.Uniq key most invert) ts ls shown
kinds_alike v base sources layers s a on ts ls shown = other on

-- ---- all together

module _ (v : View) (view : IsView v) (base : Base) (sources : SourceLayers) (owns : SourcesShow v base.sources sources) (layers : List HeldLayer) (s : State) (h : StateShows v layers s) (c : Command) (a : LayerAction) (on : is_on_tables a ≡ true) where
  abbrev Both : Layer → StateLayer → Type 0
  Both layer l = LayerShows v layer l × LayerAlike v (PutsOut base layers a layer) (held.RefusesLayer base layers a layer) (made_of v sources s a l)

  all_alike : AllZip Both (targets c.target layers) (layers_at s (target_numbers c.target layers))
  all_alike =
      let ts : List Layer = targets c.target layers in
      let ls : List StateLayer = layers_at s (target_numbers c.target layers) in
      zip_weaker (LayerShows v) Both (λ layer l shown. (shown, makes_alike v view base sources owns layers s h a on layer l shown)) ts ls (targets_show v layers s h c.target).show

  is_alike : IsAlike v base layers sources s c a (made_of v sources s a)
  is_alike = record {
    stops = λ there. first_alike (refused_for_origin sources s (does.Each a)) (unfit sources s (does.Each a) (layers_at s (target_numbers c.target layers))) (checks.refused_for_origin base.sources layers a) (checks.refused_kinds base.sources layers a (targets c.target layers))
        (source_alike v base sources owns layers s h a on) (kinds_alike v base sources layers s a on (targets c.target layers) (layers_at s (target_numbers c.target layers)) (targets_show v layers s h c.target).show);
    outputs = λ none ls. outputs_are v sources s a on none ls;
    pairs = λ kinds. all_alike;
    count = outputs_counted v sources s a on;
  }

pub table_steps_show : TableStepsShow
table_steps_show v view base sources owns layers s h c a does_each on =
    step_shows v base layers sources s h c a does_each (made_of v sources s a) (is_alike v view base sources owns layers s h c a on)

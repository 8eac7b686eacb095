-- Commands that fit the same words make the same steps: expressions of one text are one tree.
use Rattle.std.proofs.Common.{◌≡◌, refl, sym, ap, ◌∙◌, ℕ, Bool, true, if◌then◌else◌, not, List, map, Option, Some, None, Result, Ok}
use Rattle.std.proofs.Math.Path.{fun_ext}
use Rattle.json_values.specs.Table.{TableContent}
use Rattle.grid_base.specs.declared.kinds.Kind.{Kind}
use Rattle.expr_lang.specs.Faults.{AreAssigns, IsTree}
use Rattle.expr_lang.specs.Tree.{Assigned, Tree, all_assigned, tree_of}
use Rattle.expr_lang.specs.declared.assign.Assign.{Assign}
use Rattle.expr_lang.specs.declared.expr.Expr.{Expr}
use Rattle.expr_lang.proofs.OneAssigns.{one_way}
use Rattle.expr_lang.proofs.OneTree.{one_tree}
use Rattle.expr_lang.specs.Tokens.{tokens_of}
use Rattle.table_terms.specs.Names.{Text}
use Rattle.table_terms.specs.Refusals.{first_refusal, on_ok, unless}
use Rattle.join_terms.specs.declared.calculations.CalcSpec.{CalcSpec}
use Rattle.join_terms.specs.declared.joins.JoinSpec.{JoinSpec}
use Rattle.table_rows.specs.declared.fault.TableWhy.{TableWhy}
use Rattle.table_ops.specs.Filtering.{filter_rows}
use Rattle.table_ops.specs.Join.{candidates, join_tables, joined_table, refused_join}
use Rattle.spatial_join.specs.Joined as place
use Rattle.spatial_join.specs.Joined.{join_matched, refused_items}
use Rattle.calc_ops.specs.EachRow.{each_rows}
use Rattle.calc_ops.specs.EarlyRows.{uniq_rows}
use Rattle.calc_ops.specs.KeyOrder.{sort_rows}
use Rattle.cmd_words.specs.ActionWords.{FitsAction, FitsCommand, whole, join, spatial_join, filter, each, sort, uniq}
use Rattle.cmd_words.specs.Expressions.{FitsTest}
use Rattle.cmd_words.specs.declared.action_words.ActionWords.{ActionWords}
use Rattle.cmd_words.specs.declared.action_words.ActionWords.TheVariants as words
use Rattle.cmd_words.specs.declared.action_words.CommandWords.{CommandWords}
use Rattle.job_terms.specs.declared.job.Action.{Action}
use Rattle.job_terms.specs.declared.job.Action.TheVariants as action
use Rattle.job_terms.specs.declared.job.Command.{Command}
use Rattle.job_terms.specs.declared.job.LayerAction.{LayerAction}
use Rattle.job_terms.specs.declared.job.LayerAction.TheVariants as layer
use Rattle.job_terms.specs.declared.job.Origin.{Origin}
use Rattle.region_model.specs.Answers.{Answers, Plane}
use Rattle.chain_model.specs.Features.{Outputs, with_features, with_table}
use Rattle.chain_model.specs.Features as features
use Rattle.chain_model.specs.Outcome.{RefuseWhy}
use Rattle.chain_model.specs.State.{State, StateLayer, take_features, without_empty}
use Rattle.chain_model.specs.Steps.{Stepped, each_layer, first_kind, outputs_of, place_origin, refused_beside, refused_for_origin, step, takes, titled}
use Rattle.chain_model.specs.Targets.{SourceLayers, layers_at, need_kinds, one_layer, origin_layers, selected, with_outputs}
use Rattle.headline_laws.specs.Words.{StepsAreOfWords}

-- ## Texts

same_tree : (text : Text) (d e : Tree) → IsTree text d → IsTree text e → d ≡ e
same_tree text d e h g = one_tree _ _ (tokens_of text) d e h.1 g.1

same_assigns : (text : Text) (xs ys : List Assigned) → AreAssigns text xs → AreAssigns text ys → xs ≡ ys
same_assigns text xs ys h g = one_way _ _ (tokens_of text) xs ys h.1 g.1

-- tests of one text, or none
data AreOneTest : Option Expr → Option Expr → Type 0 where
  no_test : AreOneTest None None
  one_test : {d e : Expr} → tree_of d ≡ tree_of e → AreOneTest (Some d) (Some e)

one_test_of : (text : Option Text) (d e : Option Expr) → FitsTest text d → FitsTest text e → AreOneTest d e
one_test_of None None None h g = no_test
one_test_of None None (Some e) h g = absurd g
one_test_of None (Some d) e h g = absurd h
one_test_of (Some text) None e h g = absurd h
one_test_of (Some text) (Some d) None h g = absurd g
one_test_of (Some text) (Some d) (Some e) h g = one_test (same_tree text (tree_of d) (tree_of e) h g)

-- ## Rows

same_candidates : (source : TableContent) {d e : Option Expr} → AreOneTest d e → candidates source d ≡ candidates source e
same_candidates source no_test = refl
same_candidates source (one_test is) = ap (λ (t : Tree). filter_rows source t true) is

same_kept : (l : StateLayer) (invert : Bool) {d e : Option Expr} → AreOneTest d e → features.kept_numbers l d invert ≡ features.kept_numbers l e invert
same_kept l invert no_test = refl
same_kept l invert (one_test is) = ap (λ (t : Tree). filter_rows l.table t (not invert)) is

same_join : (target source : TableContent) (spec : JoinSpec) {d e : Option Expr} → AreOneTest d e → join_tables target source (record spec { test = d }) ≡ join_tables target source (record spec { test = e })
same_join target source spec t = ap (λ (r : Result (List ℕ) TableWhy). unless (refused_join target.names source.names spec) (on_ok r (λ (numbers : List ℕ). Ok (joined_table target source spec numbers)))) (same_candidates source t)

same_place_join : (target source : TableContent) (matches : List (List ℕ)) (spec : CalcSpec) {d e : Option Expr} → AreOneTest d e → join_matched target source matches (record spec { test = d }) ≡ join_matched target source matches (record spec { test = e })
same_place_join target source matches spec t = ap (λ (r : Result (List ℕ) TableWhy). unless (refused_items target.names source.names spec) (on_ok r (place.joined_table target source matches spec))) (same_candidates source t)

-- ## What actions put out

abbrev AreOneOutputs : (StateLayer → Outputs) → (StateLayer → Outputs) → Type 0
AreOneOutputs f g = (l : StateLayer) → f l ≡ g l

each_same : (f g : StateLayer → Outputs) → AreOneOutputs f g → (ls : List StateLayer) → each_layer f ls ≡ each_layer g ls
each_same f g one ls = ap (λ (h : StateLayer → Outputs). each_layer h ls) (fun_ext one)

module _ (P : Plane) (A : Answers) (sources : SourceLayers) (s : State) where
  -- an action of a layer by itself that is refused for the same sources and kinds, and puts out the same
  record AreOne (a b : LayerAction) : Type 0 where
    source : refused_for_origin sources s (action.Each a) ≡ refused_for_origin sources s (action.Each b)
    kinds : (first k : Kind) → takes (action.Each a) first k ≡ takes (action.Each b) first k
    beside : (ls : List StateLayer) → refused_beside sources s (action.Each a) ls ≡ refused_beside sources s (action.Each b) ls
    outputs : (ls : List StateLayer) → outputs_of P A sources s (action.Each a) ls ≡ outputs_of P A sources s (action.Each b) ls

  module _ (w : CommandWords) where
    abbrev with_action : Action → Command
    with_action a = record { target = w.target; name = w.name; keep = w.keep; action = a }

    -- a step by what refuses it, and by what is put out
    abbrev step_by : Option RefuseWhy → (Kind → Kind → Bool) → (List StateLayer → Option RefuseWhy) → (List StateLayer → Result (List (List StateLayer)) RefuseWhy) → Result Stepped RefuseWhy
    step_by source kinds beside outputs = on_ok (selected s w.target) (λ (ns : List ℕ).
        on_ok (unless (first_refusal source (first_refusal (need_kinds (kinds (first_kind (layers_at s ns))) (layers_at s ns)) (beside (layers_at s ns))))
        (on_ok (outputs (layers_at s ns)) (λ (outs : List (List StateLayer)). with_outputs s w.keep ns (map (map (titled w.name)) outs))))
        (λ (t : State). Ok (record { state = t; written = None })))

    one_step : (a b : LayerAction) → AreOne a b → step P A sources s (with_action (action.Each a)) ≡ step P A sources s (with_action (action.Each b))
    one_step a b one =
        ap (λ (source : Option RefuseWhy). step_by source (takes (action.Each a)) (refused_beside sources s (action.Each a)) (outputs_of P A sources s (action.Each a))) one.source
        ∙ ap (λ (kinds : Kind → Kind → Bool). step_by (refused_for_origin sources s (action.Each b)) kinds (refused_beside sources s (action.Each a)) (outputs_of P A sources s (action.Each a))) (fun_ext (λ first. fun_ext (one.kinds first)))
        ∙ ap (λ (beside : List StateLayer → Option RefuseWhy). step_by (refused_for_origin sources s (action.Each b)) (takes (action.Each b)) beside (outputs_of P A sources s (action.Each a))) (fun_ext one.beside)
        ∙ ap (λ (outputs : List StateLayer → Result (List (List StateLayer)) RefuseWhy). step_by (refused_for_origin sources s (action.Each b)) (takes (action.Each b)) (refused_beside sources s (action.Each b)) outputs) (fun_ext one.outputs)

  -- ## Actions that fit the same words

  joined : {from : Origin} (spec : JoinSpec) (d e : Option Expr) → AreOneTest d e → AreOne (layer.Join from (record spec { test = d })) (layer.Join from (record spec { test = e }))
  joined {from} spec d e one = record {
    source = refl;
    kinds = λ first k. refl;
    beside = λ ls. refl;
    outputs = λ ls. ap (λ (f : StateLayer → Result (List (List StateLayer)) RefuseWhy). on_ok (one_layer (origin_layers sources s from)) f)
        (fun_ext (λ (m : StateLayer). each_same (features.join_layer m (record spec { test = d })) (features.join_layer m (record spec { test = e })) (λ l. ap (with_table l) (same_join l.table m.table spec one)) ls));
  }

  joined_by_place : {from : Origin} (spec : CalcSpec) (d e : Option Expr) → AreOneTest d e → AreOne (layer.SpatialJoin from (record spec { test = d })) (layer.SpatialJoin from (record spec { test = e }))
  joined_by_place {from} spec d e one = record {
    source = refl;
    kinds = λ first k. refl;
    beside = λ ls. refl;
    outputs = λ ls. ap (λ (f : StateLayer → Result (List (List StateLayer)) RefuseWhy). on_ok (place_origin sources s from) f)
        (fun_ext (λ (m : StateLayer). each_same (features.place_join_layer A m (record spec { test = d })) (features.place_join_layer A m (record spec { test = e }))
        (λ l. ap (with_table l) (same_place_join l.table m.table (map (features.matches_of A m.shapes) l.shapes) spec one)) ls));
  }

  filtered : (d e : Option Expr) (invert remove_empty : Bool) → AreOneTest d e → AreOne (layer.Filter d invert remove_empty) (layer.Filter e invert remove_empty)
  filtered d e invert remove_empty one = record {
    source = refl;
    kinds = λ first k. refl;
    beside = λ ls. refl;
    outputs = λ ls. each_same (features.filter_layer P A d invert remove_empty) (features.filter_layer P A e invert remove_empty)
        (λ l. ap (λ (r : Result (List ℕ) TableWhy). on_ok (features.in_layer r) (λ (ns : List ℕ). features.just (if remove_empty then without_empty P A (take_features l ns) else take_features l ns))) (same_kept l invert one)) ls;
  }

  assigned : (xs ys : List Assign) → all_assigned xs ≡ all_assigned ys → AreOne (layer.Each xs) (layer.Each ys)
  assigned xs ys one = record {
    source = refl;
    kinds = λ first k. refl;
    beside = λ ls. refl;
    outputs = λ ls. each_same (features.assign_layer xs) (features.assign_layer ys) (λ l. ap (λ (zs : List Assigned). with_table l (each_rows l.table zs)) one) ls;
  }

  sorted : (d e : Expr) (descending : Bool) → tree_of d ≡ tree_of e → AreOne (layer.Sort d descending) (layer.Sort e descending)
  sorted d e descending one = record {
    source = refl;
    kinds = λ first k. refl;
    beside = λ ls. refl;
    outputs = λ ls. each_same (features.sort_layer d descending) (features.sort_layer e descending) (λ l. ap (λ (t : Tree). with_features l (sort_rows l.table t descending)) one) ls;
  }

  of_early : (d e : Expr) (most : ℕ) (invert : Bool) → tree_of d ≡ tree_of e → AreOne (layer.Uniq d most invert) (layer.Uniq e most invert)
  of_early d e most invert one = record {
    source = refl;
    kinds = λ first k. refl;
    beside = λ ls. refl;
    outputs = λ ls. each_same (features.uniq_layer d most invert) (features.uniq_layer e most invert) (λ l. ap (λ (t : Tree). with_features l (uniq_rows l.table t most invert)) one) ls;
  }

-- what fits words, case by case
abbrev FitsBy : ActionWords → Action → Type 0
FitsBy (words.Whole b) a = a ≡ b
FitsBy (words.Join from spec test) a = (d : Option Expr) × FitsTest test d × (a ≡ action.Each (layer.Join from (record spec { test = d })))
FitsBy (words.SpatialJoin from spec test) a = (d : Option Expr) × FitsTest test d × (a ≡ action.Each (layer.SpatialJoin from (record spec { test = d })))
FitsBy (words.Filter test invert remove_empty) a = (d : Option Expr) × FitsTest test d × (a ≡ action.Each (layer.Filter d invert remove_empty))
FitsBy (words.Each text) a = (xs : List Assign) × AreAssigns text (all_assigned xs) × (a ≡ action.Each (layer.Each xs))
FitsBy (words.Sort text descending) a = (d : Expr) × IsTree text (tree_of d) × (a ≡ action.Each (layer.Sort d descending))
FitsBy (words.Uniq text most invert) a = (d : Expr) × IsTree text (tree_of d) × (a ≡ action.Each (layer.Uniq d most invert))

fits_by : {w : ActionWords} {a : Action} → FitsAction w a → FitsBy w a
fits_by whole = refl
fits_by (join {from = from} {s = s} f) = (s.test, f.1, ap (λ (x : JoinSpec). action.Each (layer.Join from x)) f.0)
fits_by (spatial_join {from = from} {s = s} f) = (s.test, f.1, ap (λ (x : CalcSpec). action.Each (layer.SpatialJoin from x)) f.0)
fits_by (filter {e = e} f) = (e, f, refl)
fits_by (each {assigns = xs} f) = (xs, f, refl)
fits_by (sort {key = d} f) = (d, f, refl)
fits_by (uniq {key = d} f) = (d, f, refl)

module _ (P : Plane) (A : Answers) (sources : SourceLayers) (s : State) (w : CommandWords) where
  abbrev stepped : Action → Result Stepped RefuseWhy
  stepped a = step P A sources s (with_action P A sources s w a)

  by_words : (x : ActionWords) (a b : Action) → FitsBy x a → FitsBy x b → stepped a ≡ stepped b
  by_words (words.Whole c) a b f g = ap stepped (f ∙ sym g)
  by_words (words.Join from spec test) a b (d, f, is) (e, g, eq) =
      ap stepped is ∙ one_step P A sources s w (layer.Join from (record spec { test = d })) (layer.Join from (record spec { test = e })) (joined P A sources s spec d e (one_test_of test d e f g)) ∙ sym (ap stepped eq)
  by_words (words.SpatialJoin from spec test) a b (d, f, is) (e, g, eq) =
      ap stepped is ∙ one_step P A sources s w (layer.SpatialJoin from (record spec { test = d })) (layer.SpatialJoin from (record spec { test = e })) (joined_by_place P A sources s spec d e (one_test_of test d e f g)) ∙ sym (ap stepped eq)
  by_words (words.Filter test invert remove_empty) a b (d, f, is) (e, g, eq) =
      ap stepped is ∙ one_step P A sources s w (layer.Filter d invert remove_empty) (layer.Filter e invert remove_empty) (filtered P A sources s d e invert remove_empty (one_test_of test d e f g)) ∙ sym (ap stepped eq)
  by_words (words.Each text) a b (xs, f, is) (ys, g, eq) =
      ap stepped is ∙ one_step P A sources s w (layer.Each xs) (layer.Each ys) (assigned P A sources s xs ys (same_assigns text (all_assigned xs) (all_assigned ys) f g)) ∙ sym (ap stepped eq)
  by_words (words.Sort text descending) a b (d, f, is) (e, g, eq) =
      ap stepped is ∙ one_step P A sources s w (layer.Sort d descending) (layer.Sort e descending) (sorted P A sources s d e descending (same_tree text (tree_of d) (tree_of e) f g)) ∙ sym (ap stepped eq)
  by_words (words.Uniq text most invert) a b (d, f, is) (e, g, eq) =
      ap stepped is ∙ one_step P A sources s w (layer.Uniq d most invert) (layer.Uniq e most invert) (of_early P A sources s d e most invert (same_tree text (tree_of d) (tree_of e) f g)) ∙ sym (ap stepped eq)

  as_worded : (c : Command) → FitsCommand w c → c ≡ with_action P A sources s w c.action
  as_worded c f = λ i. record { target = f.target i; name = f.name i; keep = f.keep i; action = c.action }

  pub same_step : (c d : Command) → FitsCommand w c → FitsCommand w d → step P A sources s c ≡ step P A sources s d
  same_step c d f g =
      ap (step P A sources s) (as_worded c f)
      ∙ by_words w.action c.action d.action (fits_by f.action) (fits_by g.action)
      ∙ sym (ap (step P A sources s) (as_worded d g))

pub one_step_each : StepsAreOfWords
one_step_each w c d f g P A sources s = same_step P A sources s w c d f g

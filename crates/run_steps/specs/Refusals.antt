-- Why a command that changes layers is refused: for its target, its origin, the kinds of its layers, their number, what
-- it makes of them, or how many layers it would leave. The first of these that applies is told.
use Rattle.std.specs.Prelude.{◌≡◌, ◌⊎◌, ℕ, ◌+◌, not, nat_lt, List, [], ◌∷◌, length, count_by, sum_by, Option, Some, None, Result, Ok, Err, MatchBool, if◌then◌else◌}
use Rattle.expr_lang.specs.Tree.{all_assigned, tree_of}
use Rattle.calc_ops.specs.EachRow.{each_rows}
use Rattle.calc_ops.specs.EarlyRows.{uniq_rows}
use Rattle.calc_ops.specs.KeyOrder.{sort_rows}
use Rattle.table_rows.specs.Columns.{keep_fields, rename_fields}
use Rattle.table_ops.specs.Join.{join_tables}
use Rattle.table_terms.specs.Refusals.{first_refusal}
use Rattle.table_rows.specs.Splitting.{split_rows}
use Rattle.table_rows.specs.declared.fault.TableWhy.{TableWhy}
use Rattle.join_terms.specs.declared.calculations.CalcSpec.{CalcSpec}
use Rattle.join_terms.specs.declared.joins.JoinSpec.{JoinSpec}
use Rattle.spatial_join.specs.Joined.{join_matched}
use Rattle.table_rows.specs.declared.split.SplitItem.{SplitItem}
use Rattle.job_terms.specs.declared.job.Command.{Command}
use Rattle.job_terms.specs.declared.job.JointAction.{JointAction}
use Rattle.job_terms.specs.declared.job.JointAction.TheVariants as joint
use Rattle.job_terms.specs.declared.job.LayerAction.{LayerAction}
use Rattle.job_terms.specs.declared.job.LayerAction.TheVariants as action
use Rattle.run_plane.specs.declared.layer.Layer.{Layer}
use Rattle.run_plane.specs.declared.plane.Plane.{Plane}
use Rattle.run_checks.specs.Checks.{refused_target, refused_for_origin, refused_kinds, refused_mixture, refused_number}
use Rattle.run_borders.specs.Dissolving.{refused_dissolve}
use Rattle.run_tables.specs.Matching.{AreMatches}
use Rattle.run_state.specs.Origins.{Base, one_layer, origin_layers}
use Rattle.run_state.specs.Stops.{table_refusal}
use Rattle.run_state.specs.Targets.{is_selected, targets}
use Rattle.run_state.specs.declared.refusal.RefuseWhy.{RefuseWhy}
use Rattle.run_state.specs.declared.refusal.RefuseWhy.TheVariants.{TooManyLayers}
use Rattle.run_state.specs.declared.state.HeldLayer.{HeldLayer}
use Rattle.run_tables.specs.Made.{kept_numbers, refused_layers}

-- ---- what the command makes of its layers

abbrev pub refused_join : Result Layer RefuseWhy → JoinSpec → Layer → Option RefuseWhy
refused_join (Ok source) spec layer = table_refusal (join_tables layer.table source.table spec)
refused_join (Err why) spec layer = Some why

-- why a layer of the target is refused
abbrev pub refused_layer : Base → List HeldLayer → LayerAction → Layer → Option RefuseWhy
refused_layer base layers (action.Dissolve spec group_points) layer = refused_dissolve spec group_points layer
refused_layer base layers (action.Lines fields) layer = table_refusal (keep_fields layer.table fields)
refused_layer base layers (action.Join from spec) layer = refused_join (one_layer (origin_layers base.sources layers from)) spec layer
refused_layer base layers (action.Filter test invert remove_empty) layer = table_refusal (kept_numbers test invert layer)
refused_layer base layers (action.FilterFields fields) layer = table_refusal (keep_fields layer.table fields)
refused_layer base layers (action.RenameFields pairs) layer = table_refusal (rename_fields layer.table pairs)
refused_layer base layers (action.Split field) layer = table_refusal (split_rows layer.table field)
refused_layer base layers (action.Each assigns) layer = table_refusal (each_rows layer.table (all_assigned assigns))
refused_layer base layers (action.Sort key descending) layer = table_refusal (sort_rows layer.table (tree_of key) descending)
refused_layer base layers (action.Uniq key most invert) layer = table_refusal (uniq_rows layer.table (tree_of key) most invert)
refused_layer base layers _ layer = None

-- a join by place is refused for the rows of the origin that match
abbrev pub RefusesByPlace : Plane → Result Layer RefuseWhy → CalcSpec → Layer → Option RefuseWhy → Type 0
RefusesByPlace plane (Ok source) spec layer refusal =
    (matches : List (List ℕ)) × AreMatches plane source layer matches × (table_refusal (join_matched layer.table source.table matches spec) ≡ refusal)
RefusesByPlace plane (Err why) spec layer refusal = Some why ≡ refusal

-- the refusal of a layer of the target, or none
abbrev pub RefusesLayer : Base → List HeldLayer → LayerAction → Layer → Option RefuseWhy → Type 0
RefusesLayer base layers (action.SpatialJoin from spec) layer refusal = RefusesByPlace base.plane (one_layer (origin_layers base.sources layers from)) spec layer refusal
RefusesLayer base layers a layer refusal = refused_layer base layers a layer ≡ refusal

-- and any other layer is none that is refused
abbrev pub RefusesHeld : Base → List HeldLayer → Command → LayerAction → HeldLayer → Option RefuseWhy → Type 0
RefusesHeld base layers c a held refusal = MatchBool (is_selected c.target held) (RefusesLayer base layers a held.layer refusal) (None ≡ refusal)

-- the refusal of the first of two that has one, or none
abbrev pub FirstOf : (Option RefuseWhy → Type 0) → (Option RefuseWhy → Type 0) → Option RefuseWhy → Type 0
FirstOf First Second None = First None × Second None
FirstOf First Second (Some why) = First (Some why) ⊎ (First None × Second (Some why))

-- of the first of layers that has one
abbrev pub RefusesIn : (Layer → Option RefuseWhy → Type 0) → List Layer → Option RefuseWhy → Type 0
RefusesIn Refuses [] refusal = None ≡ refusal
RefusesIn Refuses (layer ∷ layers) refusal = FirstOf (Refuses layer) (RefusesIn Refuses layers) refusal

abbrev pub refused_together : JointAction → List Layer → Option RefuseWhy
refused_together (joint.MergeLayers force) layers = refused_layers force layers
refused_together joint.Union layers = None

-- ---- how many layers it leaves

-- a layer without features is one piece
abbrev pub piece_count : Result (List SplitItem) TableWhy → ℕ
piece_count (Ok []) = 1
piece_count (Ok (item ∷ items)) = length items + 1
piece_count (Err why) = 0

-- how many layers are put out for one of the target
abbrev pub output_count : LayerAction → Layer → ℕ
output_count (action.Split field) layer = piece_count (split_rows layer.table field)
output_count _ layer = 1

-- how many stay: with `+` all of them, and else those that are not of the target
abbrev pub stay_count : Command → List HeldLayer → ℕ
stay_count c layers = if c.keep then length layers else count_by (λ (held : HeldLayer). not (is_selected c.target held)) layers

-- the most layers that a run may hold
abbrev pub most_layers : ℕ
most_layers = 1000

abbrev pub refused_count : ℕ → Option RefuseWhy
refused_count count = if nat_lt most_layers count then Some TooManyLayers else None

-- ---- the first refusal of a command that changes each layer of its target by itself

-- before it works: for its target, its origin, or the kinds of the target's layers
abbrev pub unfit_each : Base → List HeldLayer → Command → LayerAction → Option RefuseWhy
unfit_each base layers c a =
    first_refusal (refused_target c.target layers) (first_refusal (refused_for_origin base.sources layers a) (refused_kinds base.sources layers a (targets c.target layers)))

-- for the number of layers that it would leave
abbrev pub overfull_each : List HeldLayer → Command → LayerAction → Option RefuseWhy
overfull_each layers c a = refused_count (stay_count c layers + sum_by (output_count a) (targets c.target layers))

-- at work: for a layer of the target, in order, or for the number of layers
abbrev pub FailsEach : Base → List HeldLayer → Command → LayerAction → Option RefuseWhy → Type 0
FailsEach base layers c a refusal =
    FirstOf (RefusesIn (RefusesLayer base layers a) (targets c.target layers)) (λ (told : Option RefuseWhy). overfull_each layers c a ≡ told) refusal

abbrev pub RefusesEach : Base → List HeldLayer → Command → LayerAction → Option RefuseWhy → Type 0
RefusesEach base layers c a refusal = FirstOf (λ (told : Option RefuseWhy). unfit_each base layers c a ≡ told) (FailsEach base layers c a) refusal

-- ---- and of one that changes them together

-- before it works: for its target, for the kinds of the target's layers, or for their number
abbrev pub unfit_together : List HeldLayer → Command → JointAction → Option RefuseWhy
unfit_together layers c a =
    first_refusal (refused_target c.target layers) (first_refusal (refused_mixture a (targets c.target layers)) (refused_number a (targets c.target layers)))

-- at work: for the layers of the target, or for the number of layers
abbrev pub failed_together : List HeldLayer → Command → JointAction → Option RefuseWhy
failed_together layers c a = first_refusal (refused_together a (targets c.target layers)) (refused_count (stay_count c layers + 1))

abbrev pub refusal_together : List HeldLayer → Command → JointAction → Option RefuseWhy
refusal_together layers c a = first_refusal (unfit_together layers c a) (failed_together layers c a)

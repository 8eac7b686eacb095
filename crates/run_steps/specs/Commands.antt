-- What a command makes of the layers that it works on.
use Rattle.std.specs.Prelude.{◌≡◌, ◌≤◌, ℕ, ⊤, List, [], ◌∷◌, ◌++◌, length, replicate, Option, Some, None, Ok, MatchBool}
use Rattle.std.specs.List.{AllZip, position_or_len}
use Rattle.io_core.specs.Contents.{Content}
use Rattle.expr_lang.specs.Tree.{all_assigned, tree_of}
use Rattle.calc_ops.specs.EachRow.{each_rows}
use Rattle.calc_ops.specs.EarlyRows.{uniq_rows}
use Rattle.calc_ops.specs.KeyOrder.{sort_rows}
use Rattle.table_rows.specs.Columns.{keep_fields, rename_fields}
use Rattle.table_ops.specs.Join.{join_tables}
use Rattle.join_terms.specs.declared.calculations.CalcSpec.{CalcSpec}
use Rattle.join_terms.specs.declared.joins.JoinSpec.{JoinSpec}
use Rattle.spatial_join.specs.Joined.{join_matched}
use Rattle.job_terms.specs.declared.job.Origin.{Origin}
use Rattle.job_terms.specs.declared.job.Target.{Target}
use Rattle.job_terms.specs.declared.job.Command.{Command}
use Rattle.job_terms.specs.declared.job.JointAction.{JointAction}
use Rattle.job_terms.specs.declared.job.JointAction.TheVariants as joint
use Rattle.job_terms.specs.declared.job.LayerAction.{LayerAction}
use Rattle.job_terms.specs.declared.job.LayerAction.TheVariants as action
use Rattle.run_plane.specs.declared.layer.Layer.{Layer}
use Rattle.run_borders.specs.Borders.{AreInnerLines, AreOutlines}
use Rattle.run_shapes.specs.Cleaning.{IsCleaned, IsMosaicOf}
use Rattle.run_shapes.specs.Cutting.{IsCut}
use Rattle.run_borders.specs.Dissolving.{IsGrouped}
use Rattle.run_shapes.specs.Exploding.{IsExploded}
use Rattle.run_state.specs.FaceSets.{cut_set_of}
use Rattle.run_shapes.specs.Islands.{IsMainland}
use Rattle.run_tables.specs.Matching.{AreMatches}
use Rattle.run_borders.specs.Uniting.{IsUnited}
use Rattle.run_shapes.specs.declared.cutting.CutKeeps.TheVariants as keeps
use Rattle.run_state.specs.Origins.{Base, one_layer, origin_layers}
use Rattle.run_state.specs.Targets.{is_selected, placed, targets}
use Rattle.run_state.specs.declared.state.HeldLayer.{HeldLayer}
use Rattle.run_tables.specs.Made.{GivesTable, IsFiltered, IsMerged, One, TakesNumbers}
use Rattle.run_tables.specs.Pieces.{IsSplit}
use Rattle.run_steps.specs.Refusals.{most_layers}

-- ---- what is put out for a layer

-- the faces are those that the command cuts by, where it cuts
abbrev pub CutsBy : Base → List HeldLayer → LayerAction → List ℕ → Type 0
CutsBy base layers (action.Clip from) cut_set = cut_set ≡ cut_set_of base layers from
CutsBy base layers (action.Erase from) cut_set = cut_set ≡ cut_set_of base layers from
CutsBy base layers _ cut_set = ⊤

-- it puts out one layer for each: all but a split do
abbrev pub MakesOne : LayerAction → Type 0
MakesOne (action.Split field) = ⊥
MakesOne _ = ⊤

-- what a join puts out: the layer joined with that of its origin
pub record Joins (base : Base) (layers : List HeldLayer) (from : Origin) (spec : JoinSpec) (layer : Layer) (outputs : List Layer) : Type 0 where
  pub source : Layer
  pub found : one_layer (origin_layers base.sources layers from) ≡ Ok source
  pub joined : One (GivesTable (join_tables layer.table source.table spec) layer) outputs

-- and by place: with the rows of its origin that match
pub record JoinsByPlace (base : Base) (layers : List HeldLayer) (from : Origin) (spec : CalcSpec) (layer : Layer) (outputs : List Layer) : Type 0 where
  pub source : Layer
  pub found : one_layer (origin_layers base.sources layers from) ≡ Ok source
  pub matches : List (List ℕ)
  pub are : AreMatches base.plane source layer matches
  pub joined : One (GivesTable (join_matched layer.table source.table matches spec) layer) outputs

-- what a command that changes each layer puts out for a layer of its target, beside all layers of the state
abbrev pub PutsOut : Base → List HeldLayer → LayerAction → Layer → List Layer → Type 0
PutsOut base layers (action.Clip from) layer outputs = One (IsCut keeps.Inside base.plane (cut_set_of base layers from) layer) outputs
PutsOut base layers (action.Erase from) layer outputs = One (IsCut keeps.Outside base.plane (cut_set_of base layers from) layer) outputs
PutsOut base layers (action.Dissolve spec group_points) layer outputs = One (IsGrouped spec layer) outputs
PutsOut base layers (action.Clean rule allow_empty gap) layer outputs = One (IsCleaned rule allow_empty gap base.plane layer) outputs
PutsOut base layers action.Mosaic layer outputs = One (IsMosaicOf base.plane layer) outputs
PutsOut base layers action.InnerLines layer outputs = One (AreInnerLines base.plane layer) outputs
PutsOut base layers (action.Lines fields) layer outputs = One (AreOutlines base.plane fields layer) outputs
PutsOut base layers action.Explode layer outputs = One (IsExploded base.plane layer) outputs
PutsOut base layers (action.Join from spec) layer outputs = Joins base layers from spec layer outputs
PutsOut base layers (action.SpatialJoin from spec) layer outputs = JoinsByPlace base layers from spec layer outputs
PutsOut base layers (action.Filter test invert remove_empty) layer outputs = One (IsFiltered test invert remove_empty layer) outputs
PutsOut base layers (action.FilterFields fields) layer outputs = One (GivesTable (keep_fields layer.table fields) layer) outputs
PutsOut base layers (action.RenameFields pairs) layer outputs = One (GivesTable (rename_fields layer.table pairs) layer) outputs
PutsOut base layers (action.Split field) layer outputs = IsSplit field layer outputs
PutsOut base layers (action.Each assigns) layer outputs = One (GivesTable (each_rows layer.table (all_assigned assigns)) layer) outputs
PutsOut base layers (action.Sort key descending) layer outputs = One (TakesNumbers (sort_rows layer.table (tree_of key) descending) layer) outputs
PutsOut base layers (action.Uniq key most invert) layer outputs = One (TakesNumbers (uniq_rows layer.table (tree_of key) most invert) layer) outputs
PutsOut base layers (action.FilterIslands least_area least_links remove_empty) layer outputs = One (IsMainland least_area least_links remove_empty base.plane layer) outputs

-- the name of `name=`, where it stands
abbrev pub title_or : Option Content → Content → Content
title_or None name = name
title_or (Some title) name = title

-- a layer under that name
pub record IsTitled (title : Option Content) (layer titled : Layer) : Type 0 where
  pub name : titled.name ≡ title_or title layer.name
  pub kind : titled.kind ≡ layer.kind
  pub table : titled.table ≡ layer.table
  pub shapes : titled.shapes ≡ layer.shapes

-- for a layer of the target what the command puts out, under the name of `name=`
pub record Titles (base : Base) (layers : List HeldLayer) (c : Command) (a : LayerAction) (layer : Layer) (outputs : List Layer) : Type 0 where
  pub made : List Layer
  pub puts : PutsOut base layers a layer made
  pub titled : AllZip (IsTitled c.name) made outputs

-- and for any other nothing
abbrev pub PutsFor : Base → List HeldLayer → Command → LayerAction → HeldLayer → List Layer → Type 0
PutsFor base layers c a held outputs = MatchBool (is_selected c.target held) (Titles base layers c a held.layer outputs) (outputs ≡ [])

-- ---- what is put out for several layers

-- the layer that a command makes of these together
abbrev pub MadeTogether : Base → JointAction → List Layer → Layer → Type 0
MadeTogether base (joint.MergeLayers force) layers made = IsMerged force layers made
MadeTogether base joint.Union layers made = IsUnited base.plane layers made

-- a layer in the place of the first target
abbrev pub at_first : Target → List HeldLayer → Layer → List (List Layer)
at_first t layers made = replicate (position_or_len (is_selected t) layers) [] ++ (made ∷ []) ∷ []

-- it is put out for all targets, in the place of the first, under the name of `name=`
pub record PutsTogether (base : Base) (c : Command) (a : JointAction) (layers : List HeldLayer) (outputs : List (List Layer)) : Type 0 where
  pub made : Layer
  pub titled : Layer
  pub of_all : MadeTogether base a (targets c.target layers) made
  pub title : IsTitled c.name made titled
  pub place : outputs ≡ at_first c.target layers titled

-- ---- the layers after a command

-- those that it puts out for each layer stand in their places, or after all
pub record Changes (Puts : List (List Layer) → Type 0) (c : Command) (before after : List HeldLayer) : Type 0 where
  pub outputs : List (List Layer)
  pub puts : Puts outputs
  pub placed : after ≡ placed c before outputs
  pub few : length after ≤ most_layers

-- after one that changes each layer of its target by itself
abbrev pub ChangesEach : Base → Command → LayerAction → List HeldLayer → List HeldLayer → Type 0
ChangesEach base c a before after = Changes (AllZip (PutsFor base before c a) before) c before after

-- after one that changes them together
abbrev pub ChangesTogether : Base → Command → JointAction → List HeldLayer → List HeldLayer → Type 0
ChangesTogether base c a before after = Changes (PutsTogether base c a before) c before after

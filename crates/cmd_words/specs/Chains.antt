-- What the groups of commands ask for.
use Rattle.std.specs.Prelude.{ℕ, ◌+◌, Bool, true, false, not, ◌&&◌, ◌||◌, List, [], ◌∷◌, ◌++◌, length, codes, Option, Some, None, is_some, option_map, unwrap_or, if◌then◌else◌}
use Rattle.std.specs.Option.{option_or, option_to_list}
use Rattle.std.specs.Str.{bytes_eq}
use Rattle.grid_base.specs.Grid.{Corners}
use Rattle.grid_base.specs.declared.kinds.OverlapRule.TheVariants as rule
use Rattle.join_terms.specs.declared.calculations.Calc.{Calc}
use Rattle.join_terms.specs.declared.calculations.CalcSpec.{CalcSpec}
use Rattle.table_terms.specs.declared.groupings.GroupSpec.{GroupSpec}
use Rattle.join_terms.specs.declared.joins.JoinSpec.{JoinSpec}
use Rattle.cmd_words.specs.declared.commands.Keyword.{Keyword}
use Rattle.cmd_words.specs.declared.commands.Keyword.TheVariants as k
use Rattle.cmd_words.specs.declared.commands.LayerKeyword.{LayerKeyword}
use Rattle.cmd_words.specs.declared.commands.LayerKeyword.TheVariants as l
use Rattle.cmd_words.specs.declared.commands.ExpressionKeyword.{ExpressionKeyword}
use Rattle.cmd_words.specs.declared.commands.ExpressionKeyword.TheVariants as by
use Rattle.cmd_words.specs.declared.commands.JointKeyword.{JointKeyword}
use Rattle.cmd_words.specs.declared.commands.JointKeyword.TheVariants as j
use Rattle.job_terms.specs.declared.job.Target.{Target}
use Rattle.job_terms.specs.declared.job.Target.TheVariants as target
use Rattle.job_terms.specs.declared.job.Origin.{Origin}
use Rattle.job_terms.specs.declared.job.Origin.TheVariants as origin
use Rattle.job_terms.specs.declared.job.OutForm.{OutForm}
use Rattle.job_terms.specs.declared.job.OutForm.TheVariants as form
use Rattle.job_terms.specs.declared.job.Owner.TheVariants as owner
use Rattle.job_terms.specs.declared.job.SourceWord.{SourceWord}
use Rattle.job_terms.specs.declared.job.Action.{Action}
use Rattle.job_terms.specs.declared.job.Action.TheVariants as action
use Rattle.job_terms.specs.declared.job.LayerAction.{LayerAction}
use Rattle.job_terms.specs.declared.job.LayerAction.TheVariants as layer
use Rattle.job_terms.specs.declared.job.JointAction.{JointAction}
use Rattle.job_terms.specs.declared.job.JointAction.TheVariants as joint
use Rattle.cmd_words.specs.declared.action_words.ActionWords.{ActionWords}
use Rattle.cmd_words.specs.declared.action_words.ActionWords.TheVariants as words
use Rattle.cmd_words.specs.declared.action_words.CommandWords.{CommandWords}
use Rattle.cmd_words.specs.Rows.{Text}
use Rattle.cmd_words.specs.Texts.{pieces, is_standard, names_file, form_by_ending}
use Rattle.cmd_words.specs.Groups.{Group, value_in, has_bare, argument_in}

-- ## Parts of a command

abbrev pub list_or_empty : Option Text → List Text
list_or_empty None = []
list_or_empty (Some s) = pieces s

abbrev pub target_of : Option Text → Target
target_of None = target.Default
target_of (Some s) = if bytes_eq s (codes "*") then target.All else target.Names (pieces s)

abbrev pub argument_text : Group → Text
argument_text g = unwrap_or (argument_in g) []

abbrev pub group_spec : Group → GroupSpec
group_spec g = record { by = list_or_empty (argument_in g); copy = list_or_empty (value_in g (codes "copy-fields")); sum = list_or_empty (value_in g (codes "sum-fields")) }

-- its expression stands beside it
abbrev pub join_spec : Text × Text → Group → JoinSpec
join_spec keys g = record {
  target_key = keys.0;
  source_key = keys.1;
  fields = option_map pieces (value_in g (codes "fields"));
  force = has_bare g (codes "force");
  test = None;
  prefix = unwrap_or (value_in g (codes "prefix")) [];
}

abbrev pub calc_spec : List Calc → Group → CalcSpec
calc_spec calc g = record {
  fields = option_map pieces (value_in g (codes "fields"));
  force = has_bare g (codes "force");
  test = None;
  prefix = unwrap_or (value_in g (codes "prefix")) [];
  calc = calc;
}

-- by the option, else by the name
abbrev pub out_form : Group → Option OutForm
out_form g = option_or g.values.form (form_by_ending (argument_text g))

-- ## Commands

-- the sources, boxes and commands of a chain so far, and whether one reads standard input
pub record SoFar : Type 0 where
  pub sources : List SourceWord
  pub boxes : List Corners
  pub commands : List CommandWords
  pub reads_standard : Bool

-- a command's source: the next box, the next file, or a layer
abbrev pub origin_of : ℕ → ℕ → Group → Origin
origin_of sources boxes g =
    if is_some g.values.rect then origin.Area boxes
    else if names_file (argument_text g) then origin.Source (sources + 1)
    else origin.Layer (argument_text g)

abbrev pub write_of : Group → Action
write_of g = action.Write (argument_text g) (is_standard (argument_text g)) (unwrap_or (out_form g) form.Geo)

abbrev pub dissolve_of : Group → LayerAction
dissolve_of g = layer.Dissolve (group_spec g) (has_bare g (codes "group-points"))

abbrev pub clean_of : Group → LayerAction
clean_of g = layer.Clean (unwrap_or g.values.rule rule.MaxArea) (has_bare g (codes "allow-empty")) (unwrap_or g.values.gap 0)

abbrev pub filter_islands_of : Group → LayerAction
filter_islands_of g = layer.FilterIslands (unwrap_or g.values.least_area 0) (unwrap_or g.values.least_links 0) (has_bare g (codes "remove-empty"))

abbrev pub layer_action_of : ℕ → ℕ → LayerKeyword → Group → LayerAction
layer_action_of sources boxes l.Clip g = layer.Clip (origin_of sources boxes g)
layer_action_of sources boxes l.Erase g = layer.Erase (origin_of sources boxes g)
layer_action_of sources boxes l.Dissolve g = dissolve_of g
layer_action_of sources boxes l.Clean g = clean_of g
layer_action_of sources boxes l.Mosaic g = layer.Mosaic
layer_action_of sources boxes l.InnerLines g = layer.InnerLines
layer_action_of sources boxes l.Explode g = layer.Explode
layer_action_of sources boxes l.Lines g = layer.Lines (list_or_empty (argument_in g))
layer_action_of sources boxes l.FilterFields g = layer.FilterFields (list_or_empty (argument_in g))
layer_action_of sources boxes l.RenameFields g = layer.RenameFields g.renames
layer_action_of sources boxes l.Split g = layer.Split (argument_in g)
layer_action_of sources boxes l.FilterIslands g = filter_islands_of g

-- by keys, or else by place
abbrev pub join_of : Origin → Group → ActionWords
join_of from g = elim g.values.keys [ Some keys ↦ words.Join from (join_spec keys g) g.values.test | None ↦ words.SpatialJoin from (calc_spec g.values.calculations g) g.values.test ]

-- by an expression or by assignments, each as its text
abbrev pub calculated_action_of : ℕ → ℕ → ExpressionKeyword → Group → ActionWords
calculated_action_of sources boxes by.Join g = join_of (origin_of sources boxes g) g
calculated_action_of sources boxes by.Filter g = words.Filter g.expression (has_bare g (codes "invert")) (has_bare g (codes "remove-empty"))
calculated_action_of sources boxes by.Each g = words.Each (unwrap_or g.assigns [])
calculated_action_of sources boxes by.Sort g = words.Sort (unwrap_or g.expression []) (has_bare g (codes "descending"))
calculated_action_of sources boxes by.Uniq g = words.Uniq (unwrap_or g.expression []) (unwrap_or g.values.most 1) (has_bare g (codes "invert"))

abbrev pub joint_action_of : JointKeyword → Group → JointAction
joint_action_of j.MergeLayers g = joint.MergeLayers (has_bare g (codes "force"))
joint_action_of j.Union g = joint.Union

abbrev pub action_of : ℕ → ℕ → Keyword → Group → ActionWords
action_of sources boxes k.Write g = words.Whole (write_of g)
action_of sources boxes (k.Each keyword) g = words.Whole (action.Each (layer_action_of sources boxes keyword g))
action_of sources boxes (k.Calculated keyword) g = calculated_action_of sources boxes keyword g
action_of sources boxes (k.Together keyword) g = words.Whole (action.Together (joint_action_of keyword g))

abbrev pub command_words : ℕ → ℕ → Keyword → Group → CommandWords
command_words sources boxes keyword g = record {
  target = target_of (value_in g (codes "target"));
  name = value_in g (codes "name");
  keep = has_bare g (codes "+");
  action = action_of sources boxes keyword g;
}

-- ## What a command lacks, and what it adds

abbrev pub layer_lacks_argument : LayerKeyword → Group → Bool
layer_lacks_argument l.Clip g = not (is_some (argument_in g) || is_some g.values.rect)
layer_lacks_argument l.Erase g = not (is_some (argument_in g) || is_some g.values.rect)
layer_lacks_argument l.RenameFields g = not (is_some (argument_in g))
layer_lacks_argument l.FilterIslands g = not (is_some (value_in g (codes "min-area")) || is_some (value_in g (codes "min-vertices")))
layer_lacks_argument _ g = false

abbrev pub calculated_lacks_argument : ExpressionKeyword → Group → Bool
calculated_lacks_argument by.Join g = not (is_some (argument_in g))
calculated_lacks_argument by.Filter g = not (is_some (argument_in g) || has_bare g (codes "remove-empty"))
calculated_lacks_argument by.Each g = not (is_some g.assigns)
calculated_lacks_argument by.Sort g = not (is_some g.expression)
calculated_lacks_argument by.Uniq g = not (is_some g.expression)

abbrev pub lacks_argument : Keyword → Group → Bool
lacks_argument k.Write g = not (is_some (argument_in g))
lacks_argument (k.Each keyword) g = layer_lacks_argument keyword g
lacks_argument (k.Calculated keyword) g = calculated_lacks_argument keyword g
lacks_argument (k.Together keyword) g = false

abbrev pub lacks_form : Keyword → Group → Bool
lacks_form k.Write g = not (is_some (out_form g))
lacks_form (k.Each keyword) g = false
lacks_form (k.Calculated keyword) g = false
lacks_form (k.Together keyword) g = false

abbrev pub takes_source : Keyword → Bool
takes_source (k.Each l.Clip) = true
takes_source (k.Each l.Erase) = true
takes_source (k.Calculated by.Join) = true
takes_source _ = false

-- the file that the command of this number reads
abbrev pub source_from : ℕ → Bool → Text → Option Text → Option SourceWord
source_from number takes name fields =
    if takes && names_file name
    then Some (record { name = name; standard = is_standard name; owner = owner.Command number; string_fields = list_or_empty fields })
    else None

abbrev pub source_of : ℕ → Keyword → Group → Option SourceWord
source_of number keyword g = source_from number (takes_source keyword) (argument_text g) (value_in g (codes "string-fields"))

abbrev pub with_command : SoFar → Keyword → Group → SoFar
with_command s keyword g = record {
  sources = s.sources ++ option_to_list (source_of (length s.commands + 1) keyword g);
  boxes = s.boxes ++ option_to_list g.values.rect;
  commands = s.commands ++ command_words (length s.sources) (length s.boxes) keyword g ∷ [];
  reads_standard = g.reads_standard;
}

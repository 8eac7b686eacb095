-- The table of commands: what argument, options and bare words each takes, what it needs, and what it asks for.
use Rattle.std.specs.Prelude.{ℕ, Bool, true, false, ◌||◌, ◌&&◌, nat_lt, nat_le, List, [], ◌∷◌, length, find, codes, Option, Some, None, is_some, option_map, option_and_then, unwrap_or, Ok, Err, if◌then◌else◌}
use Rattle.std.specs.Option.{option_or}
use Rattle.std.specs.List.{list_any}
use Rattle.std.specs.Str.{bytes_eq, all_ascii_digits}
use Rattle.std.specs.Str.Parse.{digits_value}
use Rattle.grid_base.specs.declared.kinds.OverlapRule.TheVariants.{MaxArea}
use Rattle.table_terms.specs.Names.{Text}
use Rattle.join_terms.specs.declared.calculations.Calc.{Calc}
use Rattle.join_terms.specs.declared.calculations.CalcSpec.{CalcSpec}
use Rattle.table_terms.specs.declared.renames.Rename.{Rename}
use Rattle.table_terms.specs.declared.groupings.GroupSpec.{GroupSpec}
use Rattle.join_terms.specs.declared.joins.JoinSpec.{JoinSpec}
use Rattle.cmd_words.specs.Texts.{form_by_ending, is_standard, pieces}
use Rattle.cmd_words.specs.Values.{form_named, pair_of, renames_of, rule_of}
use Rattle.cmd_words.specs.Quantities.{area_units, doubled_below, doubled_above}
use Rattle.cmd_words.specs.Calculations.{calculations_of}
use Rattle.cmd_words.specs.declared.action_words.ActionWords.{ActionWords}
use Rattle.cmd_words.specs.declared.action_words.ActionWords.TheVariants as words
use Rattle.job_terms.specs.declared.job.Action.TheVariants as ask
use Rattle.job_terms.specs.declared.job.LayerAction.{LayerAction}
use Rattle.job_terms.specs.declared.job.LayerAction.TheVariants as each
use Rattle.job_terms.specs.declared.job.JointAction.TheVariants as joint
use Rattle.job_terms.specs.declared.job.Origin.{Origin}
use Rattle.job_terms.specs.declared.job.OutForm.{OutForm}
use Rattle.job_terms.specs.declared.job.OutForm.TheVariants.{Geo}
use Rattle.job_terms.specs.declared.job.Target.{Target}
use Rattle.job_terms.specs.declared.job.Target.TheVariants as target

-- ---- what the words of a group say

pub data Item : Type 0 where
  -- name=value
  option : Text → Text → Item
  bare : Text → Item
  argument : Text → Item

abbrev pub Said : Type 0
Said = List Item

abbrev pub value_of : Text → Item → Option Text
value_of name (option n v) = if bytes_eq n name then Some v else None
value_of name _ = None

-- the value of an option
abbrev pub value_in : Said → Text → Option Text
value_in [] name = None
value_in (i ∷ said) name = elim (value_of name i) [ Some v ↦ Some v | None ↦ value_in said name ]

abbrev pub has_option : Said → Text → Bool
has_option said name = is_some (value_in said name)

abbrev pub is_bare : Text → Item → Bool
is_bare word (bare w) = bytes_eq w word
is_bare word _ = false

abbrev pub has_bare : Said → Text → Bool
has_bare said word = list_any (is_bare word) said

-- the first argument
abbrev pub argument_in : Said → Option Text
argument_in [] = None
argument_in (argument s ∷ said) = Some s
argument_in (_ ∷ said) = argument_in said

abbrev pub has_argument : Said → Bool
has_argument said = is_some (argument_in said)

abbrev pub argument_text : Said → Text
argument_text said = unwrap_or (argument_in said) []

-- ---- lists, targets and the parts of actions

abbrev pub list_or_empty : Option Text → List Text
list_or_empty None = []
list_or_empty (Some s) = pieces s

abbrev pub target_of : Option Text → Target
target_of None = target.Default
target_of (Some s) = if bytes_eq s (codes "*") then target.All else target.Names (pieces s)

abbrev pub group_spec : Said → GroupSpec
group_spec said = record { by = list_or_empty (argument_in said); copy = list_or_empty (value_in said (codes "copy-fields")); sum = list_or_empty (value_in said (codes "sum-fields")) }

-- the keys of a join, of its target and of its source
abbrev pub keys_in : Said → Option (Text × Text)
keys_in said = option_and_then pair_of (value_in said (codes "keys"))

-- its expression is left out
abbrev pub join_spec : Text × Text → Said → JoinSpec
join_spec keys said = record {
  target_key = keys.0;
  source_key = keys.1;
  fields = option_map pieces (value_in said (codes "fields"));
  force = has_bare said (codes "force");
  test = None;
  prefix = unwrap_or (value_in said (codes "prefix")) [];
}

-- the columns to be calculated
abbrev pub calculations_from : Option Text → List Calc
calculations_from None = []
calculations_from (Some s) = elim (calculations_of s) [ Ok columns ↦ columns | Err why ↦ [] ]

abbrev pub calculations_in : Said → List Calc
calculations_in said = calculations_from (value_in said (codes "calc"))

-- of a join by place, so too
abbrev pub calc_spec : Said → CalcSpec
calc_spec said = record {
  fields = option_map pieces (value_in said (codes "fields"));
  force = has_bare said (codes "force");
  test = None;
  prefix = unwrap_or (value_in said (codes "prefix")) [];
  calc = calculations_in said;
}

abbrev pub renames_in : Said → List Rename
renames_in said = elim (renames_of (argument_text said)) [ Ok renames ↦ renames | Err why ↦ [] ]

-- decimal digits for a number within bounds
abbrev pub number_in : ℕ → ℕ → Text → Option ℕ
number_in low high w = if (nat_lt 0 (length w) && all_ascii_digits w) && (nat_le low (digits_value 10 w) && nat_le (digits_value 10 w) high) then Some (digits_value 10 w) else None

abbrev pub count_of : ℕ → Text → Option ℕ
count_of low w = number_in low 4294967295 w

-- the number of an option, and the least one without it
abbrev pub count_in : ℕ → Said → Text → ℕ
count_in low said name = unwrap_or (option_and_then (count_of low) (value_in said name)) low

-- twice the area of an option, rounded so; 0 without it
abbrev pub doubled_in : (ℕ → ℕ) → Said → Text → ℕ
doubled_in rounded said name = unwrap_or (option_map rounded (option_and_then area_units (value_in said name))) 0

-- the form of an output: by `format=`, else by the name
abbrev pub form_in : Said → Option OutForm
form_in said = option_or (option_and_then form_named (value_in said (codes "format"))) (form_by_ending (argument_text said))

-- ---- the table

pub data ValueForm : Type 0 where
  a_text : ValueForm
  a_list : ValueForm
  two_names : ValueForm
  a_precision : ValueForm
  a_rule : ValueForm
  a_format : ValueForm
  a_box : ValueForm
  an_expression : ValueForm
  -- a numeral of at least 0, in squared units of the coordinates: of gaps, and of what stays
  a_gap : ValueForm
  a_least_area : ValueForm
  -- decimal digits for a number from 1 on, or from 0 on
  one_or_more : ValueForm
  zero_or_more : ValueForm
  -- columns to be calculated
  calculations : ValueForm

pub data ArgumentForm : Type 0 where
  nothing : ArgumentForm
  -- one file or more
  files : ArgumentForm
  -- a file or a layer
  source : ArgumentForm
  list : ArgumentForm
  expression : ArgumentForm
  assignments : ArgumentForm
  renames : ArgumentForm
  text : ArgumentForm

-- what may stand in a group
pub record Line : Type 0 where
  pub argument : ArgumentForm
  pub options : List (Text × ValueForm)
  pub bare : List Text

pub record CommandLine : Type 0 where
  pub word : Text
  pub line : Line
  -- what it needs is there
  pub has_needed : Said → Bool
  -- what it asks for, by the decimal places of the chain and the source that it names
  pub asks : ℕ → Origin → Said → ActionWords

abbrev pub TARGET : Text × ValueForm
TARGET = (codes "target", a_list)

-- the options of most commands
abbrev pub usual : List (Text × ValueForm)
usual = TARGET ∷ (codes "name", a_text) ∷ []

abbrev pub PLUS : Text
PLUS = codes "+"

abbrev pub import_line : Line
import_line = record { argument = files; options = (codes "precision", a_precision) ∷ (codes "string-fields", a_list) ∷ []; bare = codes "combine-files" ∷ [] }

abbrev pub line : ArgumentForm → List (Text × ValueForm) → List Text → Line
line form options words = record { argument = form; options = options; bare = words }

abbrev pub anything : Said → Bool
anything said = true

-- a source, or a box in its place
abbrev pub needs_source : Said → Bool
needs_source said = has_argument said || has_option said (codes "bbox")

abbrev pub each_layer : LayerAction → ActionWords
each_layer a = words.Whole (ask.Each a)

-- by keys, or else by place
abbrev pub joins : Origin → Said → ActionWords
joins from said = elim (keys_in said) [ Some keys ↦ words.Join from (join_spec keys said) (value_in said (codes "where")) | None ↦ words.SpatialJoin from (calc_spec said) (value_in said (codes "where")) ]

abbrev pub command_lines : List CommandLine
command_lines =
    record { word = codes "-clip"; line = line source ((codes "bbox", a_box) ∷ usual) (PLUS ∷ []); has_needed = needs_source; asks = λ places from said. each_layer (each.Clip from) }
    ∷ record { word = codes "-erase"; line = line source ((codes "bbox", a_box) ∷ usual) (PLUS ∷ []); has_needed = needs_source; asks = λ places from said. each_layer (each.Erase from) }
    ∷ record { word = codes "-dissolve"; line = line list ((codes "sum-fields", a_list) ∷ (codes "copy-fields", a_list) ∷ usual) (codes "group-points" ∷ PLUS ∷ []); has_needed = anything; asks = λ places from said. each_layer (each.Dissolve (group_spec said) (has_bare said (codes "group-points"))) }
    ∷ record {
      word = codes "-clean";
      line = line nothing ((codes "overlap-rule", a_rule) ∷ (codes "gap-fill-area", a_gap) ∷ usual) (codes "allow-empty" ∷ PLUS ∷ []);
      has_needed = anything;
      asks = λ places from said.
          each_layer (each.Clean (unwrap_or (option_and_then rule_of (value_in said (codes "overlap-rule"))) MaxArea) (has_bare said (codes "allow-empty")) (doubled_in (doubled_below places) said (codes "gap-fill-area")));
    }
    ∷ record { word = codes "-mosaic"; line = line nothing usual (PLUS ∷ []); has_needed = anything; asks = λ places from said. (each_layer each.Mosaic) }
    ∷ record { word = codes "-innerlines"; line = line nothing usual (PLUS ∷ []); has_needed = anything; asks = λ places from said. (each_layer each.InnerLines) }
    ∷ record { word = codes "-explode"; line = line nothing usual (PLUS ∷ []); has_needed = anything; asks = λ places from said. (each_layer each.Explode) }
    ∷ record { word = codes "-lines"; line = line list usual (PLUS ∷ []); has_needed = anything; asks = λ places from said. each_layer (each.Lines (list_or_empty (argument_in said))) }
    ∷ record {
      word = codes "-join";
      line = line source ((codes "keys", two_names) ∷ (codes "calc", calculations) ∷ (codes "fields", a_list) ∷ (codes "where", an_expression) ∷ (codes "prefix", a_text) ∷ (codes "string-fields", a_list) ∷ TARGET ∷ []) (codes "force" ∷ []);
      has_needed = has_argument;
      asks = λ places from said. joins from said;
    }
    ∷ record {
      word = codes "-filter";
      line = line expression usual (codes "invert" ∷ codes "remove-empty" ∷ PLUS ∷ []);
      has_needed = λ said. has_argument said || has_bare said (codes "remove-empty");
      asks = λ places from said. words.Filter (argument_in said) (has_bare said (codes "invert")) (has_bare said (codes "remove-empty"));
    }
    ∷ record { word = codes "-filter-fields"; line = line list (TARGET ∷ []) []; has_needed = anything; asks = λ places from said. each_layer (each.FilterFields (list_or_empty (argument_in said))) }
    ∷ record { word = codes "-rename-fields"; line = line renames (TARGET ∷ []) []; has_needed = has_argument; asks = λ places from said. each_layer (each.RenameFields (renames_in said)) }
    ∷ record { word = codes "-split"; line = line text (TARGET ∷ []) (PLUS ∷ []); has_needed = anything; asks = λ places from said. each_layer (each.Split (argument_in said)) }
    ∷ record { word = codes "-each"; line = line assignments (TARGET ∷ []) []; has_needed = has_argument; asks = λ places from said. words.Each (argument_text said) }
    ∷ record {
      word = codes "-sort";
      line = line expression (TARGET ∷ []) (codes "ascending" ∷ codes "descending" ∷ []);
      has_needed = has_argument;
      asks = λ places from said. words.Sort (argument_text said) (has_bare said (codes "descending"));
    }
    ∷ record {
      word = codes "-uniq";
      line = line expression ((codes "max-count", one_or_more) ∷ usual) (codes "invert" ∷ PLUS ∷ []);
      has_needed = has_argument;
      asks = λ places from said. words.Uniq (argument_text said) (count_in 1 said (codes "max-count")) (has_bare said (codes "invert"));
    }
    ∷ record {
      word = codes "-filter-islands";
      line = line nothing ((codes "min-area", a_least_area) ∷ (codes "min-vertices", zero_or_more) ∷ usual) (codes "remove-empty" ∷ PLUS ∷ []);
      has_needed = λ said. has_option said (codes "min-area") || has_option said (codes "min-vertices");
      asks = λ places from said. each_layer (each.FilterIslands (doubled_in (doubled_above places) said (codes "min-area")) (count_in 0 said (codes "min-vertices")) (has_bare said (codes "remove-empty")));
    }
    ∷ record { word = codes "-merge-layers"; line = line nothing usual (codes "force" ∷ PLUS ∷ []); has_needed = anything; asks = λ places from said. words.Whole (ask.Together (joint.MergeLayers (has_bare said (codes "force")))) }
    ∷ record { word = codes "-union"; line = line nothing usual (PLUS ∷ []); has_needed = anything; asks = λ places from said. words.Whole (ask.Together joint.Union) }
    ∷ record { word = codes "-o"; line = line text ((codes "format", a_format) ∷ TARGET ∷ []) (codes "force" ∷ []); has_needed = has_argument; asks = λ places from said. words.Whole (ask.Write (argument_text said) (is_standard (argument_text said)) (unwrap_or (form_in said) Geo)) }
    ∷ []

abbrev pub line_of : Text → Option CommandLine
line_of word = find (λ (c : CommandLine). bytes_eq c.word word) command_lines

abbrev pub form_of : Line → Text → Option ValueForm
form_of l name = option_map (λ (o : Text × ValueForm). o.1) (find (λ (o : Text × ValueForm). bytes_eq o.0 name) l.options)

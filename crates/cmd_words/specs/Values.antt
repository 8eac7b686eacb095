-- The values of options and arguments, and why one is refused.
use Rattle.std.specs.Prelude.{◌||◌, List, [], ◌∷◌, ◌++◌, codes, Option, Some, None, Result, Ok, Err, if◌then◌else◌}
use Rattle.std.specs.Str.{bytes_eq}
use Rattle.grid_base.specs.declared.kinds.OverlapRule.{OverlapRule}
use Rattle.grid_base.specs.declared.kinds.OverlapRule.TheVariants as rule
use Rattle.table_terms.specs.declared.renames.Rename.{Rename}
use Rattle.cmd_words.specs.declared.fault.WordWhy.{WordWhy}
use Rattle.cmd_words.specs.declared.fault.WordWhy.TheVariants as why
use Rattle.job_terms.specs.declared.job.OutForm.{OutForm}
use Rattle.job_terms.specs.declared.job.OutForm.TheVariants as form
use Rattle.cmd_words.specs.Rows.{Text}
use Rattle.cmd_words.specs.Steps.{on_ok, each_step}
use Rattle.cmd_words.specs.Texts.{pieces, is_empty, at_first_equals}

abbrev pub rule_of : Text → Option OverlapRule
rule_of s =
    if bytes_eq s (codes "min-id") then Some rule.MinId
    else if bytes_eq s (codes "max-id") then Some rule.MaxId
    else if bytes_eq s (codes "min-area") then Some rule.MinArea
    else if bytes_eq s (codes "max-area") then Some rule.MaxArea
    else None

abbrev pub form_named : Text → Option OutForm
form_named s =
    if bytes_eq s (codes "geojson") then Some form.Geo
    else if bytes_eq s (codes "topojson") then Some form.Topo
    else if bytes_eq s (codes "csv") then Some form.Csv
    else None

abbrev pub two_of : List Text → Option (Text × Text)
two_of (a ∷ b ∷ []) = Some (a, b)
two_of _ = None

-- the two names of a list
abbrev pub pair_of : Text → Option (Text × Text)
pair_of s = two_of (pieces s)

-- ## Renames: a new name, `=` and the old one

abbrev pub renamed : Option (Text × Text) → Result Rename WordWhy
renamed None = Err why.BadChoice
renamed (Some p) = if is_empty p.0 || is_empty p.1 then Err why.BadChoice else Ok (record { label = p.0; field = p.1 })

abbrev pub with_rename : List Rename → Text → Result (List Rename) WordWhy
with_rename renames item = on_ok (renamed (at_first_equals item)) (λ r. Ok (renames ++ r ∷ []))

abbrev pub renames_of : Text → Result (List Rename) WordWhy
renames_of s = each_step with_rename [] (pieces s)

-- Lists of names joined by commas, options split at their first `=`, and files by the ends of their names.
use Rattle.std.specs.Prelude.{ℕ, ◌-◌, true, false, Bool, not, ◌&&◌, ◌||◌, ◌==◌, nat_lt, nat_le, List, [], ◌∷◌, length, drop, slice_index, codes, Option, Some, None, is_some, if◌then◌else◌}
use Rattle.std.specs.List.{list_any, position_or_len, before_first, after_first}
use Rattle.std.specs.Str.{bytes_eq, str_eq_ignore_ascii_case}
use Rattle.job_terms.specs.declared.job.OutForm.{OutForm}
use Rattle.job_terms.specs.declared.job.OutForm.TheVariants as form
use Rattle.cmd_words.specs.declared.commands.ArgumentForm.{ArgumentForm}
use Rattle.cmd_words.specs.declared.commands.ArgumentForm.TheVariants as argument
use Rattle.cmd_words.specs.Rows.{Text, Form, form_of}

-- the pieces between commas
abbrev pub put_byte : ℕ → List Text → List Text
put_byte b [] = (b ∷ []) ∷ []
put_byte b (s ∷ rest) = (b ∷ s) ∷ rest

abbrev pub pieces : Text → List Text
pieces [] = [] ∷ []
pieces (b ∷ rest) = if b == 44 then [] ∷ pieces rest else put_byte b (pieces rest)

abbrev pub is_empty : Text → Bool
is_empty s = length s == 0

abbrev pub has_empty_piece : Text → Bool
has_empty_piece s = list_any is_empty (pieces s)

-- a text split round the first such byte
abbrev pub split_at : ℕ → Text → Option (Text × Text)
split_at byte s =
    if nat_lt (position_or_len (λ b. b == byte) s) (length s)
    then Some (before_first (λ b. b == byte) s, after_first (λ b. b == byte) s)
    else None

abbrev pub at_first_equals : Text → Option (Text × Text)
at_first_equals word = split_at 61 word

-- ## Options

abbrev pub begins_with_equals : Text → Bool
begins_with_equals s = slice_index s 0 == 61

-- where expressions or assignments stand, only the known options without a further `=` are options; where renames
-- stand, only the known ones
abbrev pub splits : ArgumentForm → Bool → Bool → Bool
splits argument.Expression known doubled = known && not doubled
splits argument.Assignments known doubled = known && not doubled
splits argument.Renames known doubled = known
splits _ known doubled = true

abbrev pub is_option : Form → Text × Text → Bool
is_option form o = splits form.argument (is_some (form_of form.options o.0)) (begins_with_equals o.1)

abbrev pub where_true : (Text × Text → Bool) → Option (Text × Text) → Option (Text × Text)
where_true test None = None
where_true test (Some o) = if test o then Some o else None

-- a word of a group as an option: its name and its value, split at its first `=`
abbrev pub option_in : Form → Text → Option (Text × Text)
option_in form word = where_true (is_option form) (at_first_equals word)

-- ## Words

-- it begins with a minus and is not that alone
abbrev pub is_command : Text → Bool
is_command [] = false
is_command (b ∷ []) = false
is_command (b ∷ c ∷ rest) = b == 45

abbrev pub is_standard : Text → Bool
is_standard word = bytes_eq word (codes "-")

-- it ends so, in any ASCII letter case
abbrev pub ends_in : Text → Text → Bool
ends_in s ending = nat_le (length ending) (length s) && str_eq_ignore_ascii_case (drop (length s - length ending) s) ending

-- the form of an output of this name
abbrev pub form_by_ending : Text → Option OutForm
form_by_ending word =
    if is_standard word || ends_in word (codes ".json") || ends_in word (codes ".geojson") then Some form.Geo
    else if ends_in word (codes ".topojson") then Some form.Topo
    else if ends_in word (codes ".csv") then Some form.Csv
    else None

-- a word names a file to read, by the same endings
abbrev pub names_file : Text → Bool
names_file word = is_some (form_by_ending word)

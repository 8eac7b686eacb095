-- Which format a source has: comma-separated text, or JSON.
use Rattle.std.specs.Prelude.{ℕ, ◌-◌, ◌==◌, Bool, false, not, ◌&&◌, ◌||◌, nat_le, [], ◌∷◌, length, drop, codes, if◌then◌else◌}
use Rattle.std.specs.Str.{str_eq_ignore_ascii_case}
use Rattle.io_core.specs.Contents.{Content}
use Rattle.job_terms.specs.declared.job.SourceWord.{SourceWord}

-- white space of JSON (RFC 8259, section 2)
abbrev pub is_white : ℕ → Bool
is_white byte = (byte == 32) || (byte == 9) || (byte == 10) || (byte == 13)

-- the first byte after white space opens an object or an array
abbrev pub opens_json : Content → Bool
opens_json [] = false
opens_json (byte ∷ rest) = if is_white byte then opens_json rest else (byte == 123) || (byte == 91)

-- without a byte order mark at the front
abbrev pub skip_mark : Content → Content
skip_mark [] = []
skip_mark (a ∷ []) = a ∷ []
skip_mark (a ∷ b ∷ []) = a ∷ b ∷ []
skip_mark (a ∷ b ∷ c ∷ rest) = if (a == 0xEF) && (b == 0xBB) && (c == 0xBF) then rest else a ∷ b ∷ c ∷ rest

-- the name ends so, in any ASCII letter case
abbrev pub ends_in_csv : Content → Bool
ends_in_csv name = nat_le 4 (length name) && str_eq_ignore_ascii_case (drop (length name - 4) name) (codes ".csv")

-- standard input is JSON by its first byte, a file is comma-separated text by its name
abbrev pub is_csv : SourceWord → Content → Bool
is_csv source bytes = if source.standard then not (opens_json (skip_mark bytes)) else ends_in_csv source.name

-- Strings of ASCII without escapes (RFC 8259, section 7).
use Rattle.std.specs.Prelude.{ℕ, ◌≡◌, nat_lt, ◌&&◌, List, ◌∷◌, ◌++◌, Bool, IsTrue}
use Rattle.std.specs.List.{list_all}
use Rattle.json_values.specs.Grammar.{stands_plain}

-- a byte that is a character of ASCII and stands unescaped
abbrev pub stands_alone : ℕ → Bool
stands_alone b = stands_plain b && nat_lt b 128

abbrev pub AllAlone : List ℕ → Type 0
AllAlone bytes = IsTrue (list_all stands_alone bytes)

-- such bytes and the closing quote were read
abbrev pub ClosesAsAscii : List ℕ → List ℕ → List ℕ → Type 0
ClosesAsAscii text old new = (old ≡ text ++ 34 ∷ new) × AllAlone text

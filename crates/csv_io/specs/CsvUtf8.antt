-- Bytes that are no UTF-8 text (RFC 3629), and the place where they stop to begin one.
use Rattle.std.specs.Prelude.{ℕ, zero, suc, ◌<◌, ◌≤◌, ◌↔◌, List, [], ◌∷◌, ◌++◌, length, take, IsUtf8}
use Rattle.csv_io.specs.declared.utf8.Expected.{Expected}
use Rattle.csv_io.specs.declared.utf8.Expected.TheVariants.{First, Next}

-- some UTF-8 text begins with these bytes
abbrev pub BeginsUtf8 : List ℕ → Type 0
BeginsUtf8 bytes = (more : List ℕ) × IsUtf8 (bytes ++ more)

-- the bytes are no UTF-8 text, and the first `at` of them are the longest prefix that begins one
abbrev pub EndsUtf8At : List ℕ → ℕ → Type 0
EndsUtf8At bytes at =
    ¬ (IsUtf8 bytes) × (at ≤ length bytes) × BeginsUtf8 (take at bytes)
    × ((n : ℕ) → at < n → n ≤ length bytes → ¬ (BeginsUtf8 (take n bytes)))

-- ## What may come next

-- a given number of bytes from 128 to 191, and then a UTF-8 text
abbrev pub Follow : ℕ → List ℕ → Type 0
Follow zero more = IsUtf8 more
Follow (suc n) [] = ⊥
Follow (suc n) (b ∷ more) = (128 ≤ b) × (b < 192) × Follow n more

-- bytes that are as expected, up to the end of the text
abbrev pub Completes : Expected → List ℕ → Type 0
Completes First more = IsUtf8 more
Completes (Next low high n) [] = ⊥
Completes (Next low high n) (b ∷ more) = (low ≤ b) × (b < high) × Follow n more

abbrev pub CanEnd : Expected → Type 0
CanEnd e = (more : List ℕ) × Completes e more

-- after this byte comes what is expected next
abbrev pub Continues : Expected → ℕ → Expected → Type 0
Continues e b later = ((more : List ℕ) → Completes e (b ∷ more) ↔ Completes later more) × CanEnd later

-- this byte cannot come
abbrev pub Stops : Expected → ℕ → Type 0
Stops e b = (more : List ℕ) → ¬ (Completes e (b ∷ more))

-- after bytes that were read comes what is expected
abbrev pub Expects : List ℕ → Expected → Type 0
Expects bytes e = ((more : List ℕ) → IsUtf8 (bytes ++ more) ↔ Completes e more) × CanEnd e

-- Cells of comma-separated text.
use Rattle.std.proofs.Common.{ℕ, zero, suc, ◌≡◌, ◌+◌, ◌<◌, List, [], ◌∷◌, Bool, true, false, cond, Some, None, refl, sym, ap, ◌∙◌, length, drop, get_or, arith, true≢false, is_some}
use Rattle.std.specs.Prelude.{nat_lt}
use Rattle.std.proofs.lemmas.List.{drop_more}
use Rattle.std.proofs.lemmas.Bool.{lt-ltb}
use Rattle.csv.specs.Records.{field_at}
use Rattle.csv.proofs.RecordFacts.{field-get}
use Rattle.numerals.specs.Numeral.{is_some_digits}
use Rattle.table_terms.specs.Names.{Text}
use Rattle.csv_io.specs.CsvCells.{cell_at, has_idle_zero, without_zeros}

-- ## The cell in a column

pub cell_there : (cells : List Text) (i : ℕ) (x : Text) → Some x ≡ field_at cells i → cell_at cells i ≡ x
cell_there cells i x h = field-get cells i x (sym h)

pub cell_missing : (cells : List Text) (i : ℕ) → None ≡ field_at cells i → cell_at cells i ≡ []
unfolding field_at
cell_missing [] i h = refl
cell_missing (x ∷ xs) zero h = absurd (true≢false (sym (ap is_some h)))
cell_missing (x ∷ xs) (suc i) h = cell_missing xs i h

-- ## Numerals

pub some_digits : (digits : Text) → is_some_digits digits ≡ nat_lt 0 (length digits)
some_digits [] = refl
some_digits (b ∷ rest) = sym (lt-ltb 0 (length (b ∷ rest)) (omega arith))

-- ## Zeros in front

zeros_first : (b : ℕ) (rest : Text) (t : Bool) → has_idle_zero (b ∷ rest) ≡ t → without_zeros (b ∷ rest) ≡ cond t (without_zeros rest) (b ∷ rest)
zeros_first b rest t e = ap (λ (t : Bool). cond t (without_zeros rest) (b ∷ rest)) e

pub zeros_more : (text rest : Text) (i : ℕ) → i < length text → rest ≡ drop i text → has_idle_zero rest ≡ true → without_zeros (drop i text) ≡ without_zeros (drop (i + 1) text)
zeros_more text rest i less is idle =
    let e : drop i text ≡ get_or text i 0 ∷ drop (i + 1) text = drop_more text i 0 less in
    ap without_zeros e ∙ zeros_first (get_or text i 0) (drop (i + 1) text) true (ap has_idle_zero (sym (is ∙ e)) ∙ idle)

pub zeros_end : (text rest : Text) (i : ℕ) → i < length text → rest ≡ drop i text → has_idle_zero rest ≡ false → without_zeros (drop i text) ≡ drop i text
zeros_end text rest i less is idle =
    let e : drop i text ≡ get_or text i 0 ∷ drop (i + 1) text = drop_more text i 0 less in
    ap without_zeros e ∙ zeros_first (get_or text i 0) (drop (i + 1) text) false (ap has_idle_zero (sym (is ∙ e)) ∙ idle) ∙ sym e

-- A table in pieces: one more row, and the numbers in each piece.
use Rattle.std.proofs.Common.{◌≡◌, ℕ, suc, ◌+◌, ◌<◌, ◌≤◌, All, List, [], ◌∷◌, ◌++◌, map, length, take, get_or, None, sym, ap, ◌∙◌, add-zero, length-take-le, arith}
use Rattle.std.proofs.lemmas.List.{take_more}
use Rattle.std.proofs.lemmas.List.Elements.{All-nil, All-cons, All-map}
use Rattle.json_values.specs.Table.{RowValues}
use Rattle.table_rows.specs.Splitting.{piece, single_rows}
use Rattle.table_rows.specs.declared.split.SplitItem.{SplitItem}

abbrev single : ℕ → SplitItem
single n = record { value = None; rows = n ∷ [] }

singles-push : (n : ℕ) (rows : List RowValues) (row : RowValues) → single_rows n (rows ++ row ∷ []) ≡ single_rows n rows ++ single (n + length rows) ∷ []
singles-push n [] row = ap (λ (k : ℕ). single k ∷ []) (sym (add-zero n))
singles-push n (r ∷ rows) row =
    let further : n + 1 + length rows ≡ n + suc (length rows) = omega arith in
    ap (λ (s : List SplitItem). single n ∷ s) (singles-push (n + 1) rows row ∙ ap (λ (k : ℕ). single_rows (n + 1) rows ++ single k ∷ []) further)

-- of the first i + 1 rows
pub singles_more : (rows : List RowValues) (i : ℕ) → i < length rows → single_rows 0 (take (i + 1) rows) ≡ single_rows 0 (take i rows) ++ record { value = None; rows = i ∷ [] } ∷ []
singles_more rows i less =
    let long : 0 + length (take i rows) ≡ i = omega (arith, length-take-le i rows (omega arith)) in
    ap (single_rows 0) (take_more rows i [] less) ∙ singles-push 0 (take i rows) (get_or rows i [])
    ∙ ap (λ (k : ℕ). single_rows 0 (take i rows) ++ single k ∷ []) long

pub singles_below : (m n : ℕ) (rows : List RowValues) → n + length rows ≤ m → All (λ (item : SplitItem). All (λ k. k < m) item.rows) (single_rows n rows)
singles_below m n [] h = All-nil (λ (item : SplitItem). All (λ k. k < m) item.rows)
singles_below m n (row ∷ rows) h =
    All-cons (λ (item : SplitItem). All (λ k. k < m) item.rows) (single n) (single_rows (n + 1) rows)
    (All-cons (λ k. k < m) n [] (omega arith) (All-nil (λ k. k < m)))
    (singles_below m (n + 1) rows (omega arith))

pub pieces_below : (m : ℕ) (rows : List RowValues) (place : ℕ) (groups : List (List ℕ)) → All (All (λ k. k < m)) groups → All (λ (item : SplitItem). All (λ k. k < m) item.rows) (map (piece rows place) groups)
pieces_below m rows place groups below = All-map (λ (item : SplitItem). All (λ k. k < m) item.rows) (piece rows place) groups below

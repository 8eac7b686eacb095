-- The numbers that calls on tables answer are those of rows.
use Rattle.std.proofs.Common.{◌≡◌, refl, sym, ap, ◌∙◌, subst, arith, ℕ, suc, ◌+◌, ◌<◌, Bool, not, List, [], ◌∷◌, ◌++◌, length, map, get_or, All, Option, Some, None, Result, Ok, Err}
use Rattle.std.specs.Bool.{beq}
use Rattle.std.specs.List.{range_with_len}
use Rattle.std.proofs.lemmas.List.{length-map}
use Rattle.std.proofs.lemmas.List.Elements.{All-map}
use Rattle.lists.specs.Lists.{numbers_where, sort_stable}
use Rattle.json_values.specs.Table.{TableContent, RowValues}
use Rattle.json_values.specs.declared.value.Value.{Value}
use Rattle.expr_lang.specs.Meaning.{evaluated}
use Rattle.expr_lang.specs.Tree.{Tree}
use Rattle.table_terms.specs.Names.{Text, place_of}
use Rattle.table_terms.specs.Refusals.{on_ok}
use Rattle.table_rows.specs.Columns.{cells}
use Rattle.table_ops.specs.Filtering.{filter_rows, says, tests_from, tests_of, value_for}
use Rattle.table_rows.specs.Groups.{groups_of, keys_once}
use Rattle.table_rows.specs.Keys.{same_values}
use Rattle.table_rows.specs.Refusals.{refused_item}
use Rattle.table_rows.specs.Splitting.{pieces_by, single_rows, split_rows}
use Rattle.table_rows.specs.declared.split.SplitItem.{SplitItem}
use Rattle.table_rows.proofs.Numbers.{numbers_where-below}
use Rattle.table_rows.proofs.Pieces.{pieces_below, singles_below}
use Rattle.face_sets.proofs.GapLemmas.{range_below}
use Rattle.calc_ops.specs.EarlyRows.{are_early, early_after, uniq_rows}
use Rattle.calc_ops.specs.Keys.{keys_from, keys_of}
use Rattle.calc_ops.specs.KeyOrder.{comes_before, sort_rows}
use Rattle.run_tables.proofs.Gathering.{answered}
use Rattle.layer_laws.proofs.Numbered.{sort_keeps}

-- ---- an answer for each row

one_longer : {A E : Type 0} (first : Result A E) (rest : Result (List A) E) (count : ℕ) → ((xs : List A) → rest ≡ Ok xs → length xs ≡ count) →
    (xs : List A) → on_ok first (λ x. on_ok rest (λ more. Ok (x ∷ more))) ≡ Ok xs → length xs ≡ suc count
one_longer (Ok x) (Ok more) count long xs e =
    let same : x ∷ more ≡ xs = cc in
    sym (ap length same) ∙ ap suc (long more refl)
one_longer (Ok x) (Err why) count long xs e = absurd (cc)
one_longer (Err why) rest count long xs e = absurd (cc)

tests_long : (names : List Text) (t : Tree) (n : ℕ) (rows : List RowValues) (tests : List Bool) → tests_from names t n rows ≡ Ok tests → length tests ≡ length rows
tests_long names t n [] tests e = let same : [] ≡ tests = cc in sym (ap length same)
tests_long names t n (row ∷ rows) tests e = one_longer (says n (evaluated names row n t)) (tests_from names t (n + 1) rows) (length rows) (tests_long names t (n + 1) rows) tests e

keys_long : (names : List Text) (t : Tree) (n : ℕ) (rows : List RowValues) (keys : List Value) → keys_from names t n rows ≡ Ok keys → length keys ≡ length rows
keys_long names t n [] keys e = let same : [] ≡ keys = cc in sym (ap length same)
keys_long names t n (row ∷ rows) keys e = one_longer (value_for n (evaluated names row n t)) (keys_from names t (n + 1) rows) (length rows) (keys_long names t (n + 1) rows) keys e

-- ---- numbers made of them

numbers_made : {A E : Type 0} (answer : Result (List A) E) (made : List A → List ℕ) (count : ℕ) → ((xs : List A) → answer ≡ Ok xs → length xs ≡ count) → ((xs : List A) → All (λ n. n < length xs) (made xs)) →
    (numbers : List ℕ) → on_ok answer (λ xs. Ok (made xs)) ≡ Ok numbers → All (λ n. n < count) numbers
numbers_made (Ok xs) made count long below numbers e =
    let same : made xs ≡ numbers = cc in
    subst (λ (ns : List ℕ). All (λ n. n < count) ns) same (subst (λ (c : ℕ). All (λ n. n < c) (made xs)) (long xs refl) (below xs))
numbers_made (Err why) made count long below numbers e = absurd (cc)

pub filtered_below : (t : TableContent) (e : Tree) (wanted : Bool) (numbers : List ℕ) → filter_rows t e wanted ≡ Ok numbers → All (λ n. n < length t.rows) numbers
filtered_below t e wanted numbers is = numbers_made (tests_of t e) (numbers_where (beq wanted)) (length t.rows) (tests_long t.names e 0 t.rows) (numbers_where-below (beq wanted)) numbers is

early_long : (most : ℕ) (before keys : List Value) → length (early_after most before keys) ≡ length keys
early_long most before [] = refl
early_long most before (key ∷ keys) = ap suc (early_long most (before ++ key ∷ []) keys)

pub early_below : (t : TableContent) (key : Tree) (most : ℕ) (invert : Bool) (numbers : List ℕ) → uniq_rows t key most invert ≡ Ok numbers → All (λ n. n < length t.rows) numbers
early_below t key most invert numbers is =
    numbers_made (keys_of t key) (λ (keys : List Value). numbers_where (beq (not invert)) (are_early most keys)) (length t.rows) (keys_long t.names key 0 t.rows)
    (λ keys. subst (λ (c : ℕ). All (λ n. n < c) (numbers_where (beq (not invert)) (are_early most keys))) (early_long most [] keys) (numbers_where-below (beq (not invert)) (are_early most keys))) numbers is

pub sorted_below : (t : TableContent) (key : Tree) (descending : Bool) (numbers : List ℕ) → sort_rows t key descending ≡ Ok numbers → All (λ n. n < length t.rows) numbers
sorted_below t key descending numbers is =
    numbers_made (keys_of t key) (λ (keys : List Value). sort_stable (comes_before descending keys) (range_with_len 0 (length keys))) (length t.rows) (keys_long t.names key 0 t.rows)
    (λ keys. sort_keeps (λ n. n < length keys) (comes_before descending keys) (range_with_len 0 (length keys)) (range_below (length keys))) numbers is

-- ---- the rows of pieces

groups_below : (keys : List RowValues) → All (All (λ n. n < length keys)) (groups_of keys)
groups_below keys = All-map (All (λ n. n < length keys)) (λ (key : RowValues). numbers_where (same_values key) keys) (keys_once keys) (λ k d l. numbers_where-below (same_values (get_or (keys_once keys) k d)) keys)

abbrev pub AreRowsOf : TableContent → SplitItem → Type 0
AreRowsOf t item = All (λ n. n < length t.rows) item.rows

pub split_below : (t : TableContent) (field : Option Text) (items : List SplitItem) → split_rows t field ≡ Ok items → All (AreRowsOf t) items
split_below t None items e =
    let same : single_rows 0 t.rows ≡ items = cc in
    subst (All (AreRowsOf t)) same (singles_below (length t.rows) 0 t.rows (omega arith))
split_below t (Some field) items e =
    let same : pieces_by t field ≡ items = answered (refused_item t.names [] 0 (field ∷ [])) (pieces_by t field) items e in
    let keys : List RowValues = map (cells t.names (field ∷ [])) t.rows in
    let counted : length keys ≡ length t.rows = length-map t.rows (cells t.names (field ∷ [])) in
    subst (All (AreRowsOf t)) same
    (pieces_below (length t.rows) t.rows (place_of t.names field) (groups_of keys) (subst (λ (c : ℕ). All (All (λ n. n < c)) (groups_of keys)) counted (groups_below keys)))

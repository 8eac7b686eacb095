-- A row that is being set, one assignment further, and the names that are known there.
use Rattle.std.proofs.Common.{◌≡◌, ℕ, zero, suc, ◌+◌, ◌<◌, ◌≤◌, Bool, true, false, nat_lt, Option, Some, List, [], ◌∷◌, ◌++◌, length, drop, get_or, cond, drop-cons, add-one, refl, sym, ap, ◌∙◌, subst, append_assoc, append-nil, arith}
use Rattle.std.specs.Prelude.{Result, Ok, Err, slice_set}
use Rattle.std.specs.Str.{bytes_eq}
use Rattle.std.specs.List.{list_any, position_or_len}
use Rattle.std.proofs.lemmas.Bool.Decides.{nat_tests}
use Rattle.std.proofs.lemmas.List.{length-set, length_push}
use Rattle.expr_lang.specs.declared.assign.Assign.{Assign}
use Rattle.expr_lang.specs.Meaning.{Evaluated, cell, column_at, evaluated, on_ok as on_value, signed, joined, chosen}
use Rattle.expr_lang.specs.Tree.{Tree, constant, column, feature_number, unary, binary, choice, Assigned, assigned, all_assigned, tree_of}
use Rattle.json_values.specs.Table.{RowValues}
use Rattle.json_values.specs.declared.value.Value.{Value}
use Rattle.table_terms.specs.Names.{Text, place_of}
use Rattle.table_terms.specs.Refusals.{on_ok}
use Rattle.table_rows.specs.declared.fault.TableWhy.{TableWhy}
use Rattle.table_rows.specs.Rows.{row_at}
use Rattle.table_ops.specs.Filtering.{value_for}
use Rattle.table_ops.proofs.Testing.{past, after_one}
use Rattle.calc_ops.specs.EachRow.{with_name, with_value, assigned_row, assigned_rows, names_after, places_after}

-- ---- names that are appended to others

grown : (names : List Text) (name : Text) → (more : List Text) × (with_name names name ≡ names ++ more)
grown names name = go (list_any (bytes_eq name) names) refl
  where
    go : (b : Bool) → list_any (bytes_eq name) names ≡ b → (more : List Text) × (with_name names name ≡ names ++ more)
    go true e = ([], ap (λ (b : Bool). cond b names (names ++ name ∷ [])) e ∙ sym (append-nil names))
    go false e = (name ∷ [], ap (λ (b : Bool). cond b names (names ++ name ∷ [])) e)

all_grown : (names : List Text) (list : List Assigned) → (more : List Text) × (names_after names list ≡ names ++ more)
all_grown names [] = ([], sym (append-nil names))
all_grown names (a ∷ list) =
    let g : (more : List Text) × (with_name names a.0 ≡ names ++ more) = grown names a.0 in
    let h : (more : List Text) × (names_after (with_name names a.0) list ≡ with_name names a.0 ++ more) = all_grown (with_name names a.0) list in
    (g.0 ++ h.0, h.1 ∙ ap (λ (z : List Text). z ++ h.0) g.1 ∙ append_assoc names g.0 h.0)

-- a name past the values is as one that is not there
cell_more : (names more : List Text) (row : RowValues) (name : Text) → length row ≤ length names → cell (names ++ more) row name ≡ cell names row name
cell_more [] [] [] name l = refl
cell_more [] (m ∷ more) [] name l = refl
cell_more [] more (v ∷ row) name l = absurd (omega (arith, l))
cell_more (n ∷ names) more [] name l = refl
cell_more (n ∷ names) more (v ∷ row) name l = ap (λ (o : Option Value). cond (bytes_eq n name) (Some v) o) (cell_more names more row name (omega (arith, l)))

evaluated_more : (names more : List Text) (row : RowValues) (id : ℕ) (e : Tree) → length row ≤ length names → evaluated (names ++ more) row id e ≡ evaluated names row id e
evaluated_more names more row id (constant v) l = refl
evaluated_more names more row id (column at name) l = ap (column_at at) (cell_more names more row name l)
evaluated_more names more row id feature_number l = refl
evaluated_more names more row id (unary at s e) l = ap (λ (r : Evaluated). on_value r (signed at s)) (evaluated_more names more row id e l)
evaluated_more names more row id (binary at o d e) l = (λ i. on_value (evaluated_more names more row id d l i) (joined at o (evaluated_more names more row id e l i)))
evaluated_more names more row id (choice at c d e) l = (λ i. on_value (evaluated_more names more row id c l i) (chosen at (evaluated_more names more row id d l i) (evaluated_more names more row id e l i)))

-- ---- widths

place_there : {X : Type 0} (p : X → Bool) (xs : List X) → nat_lt (position_or_len p xs) (length xs) ≡ list_any p xs
place_there p [] = grind (arith, nat_tests)
place_there p (x ∷ xs) = go (p x) refl (place_there p xs)
  where
    go : (b : Bool) → p x ≡ b → nat_lt (position_or_len p xs) (length xs) ≡ list_any p xs → nat_lt (position_or_len p (x ∷ xs)) (length (x ∷ xs)) ≡ list_any p (x ∷ xs)
    go true e h = rw e (grind (arith, nat_tests))
    go false e h = rw e (grind (arith, nat_tests, h))

-- a row stays as long as the names
with_long : (row : RowValues) (names : List Text) (name : Text) (v : Value) → length row ≡ length names → length (with_value row (place_of names name) v) ≡ length (with_name names name)
with_long row names name v e = go (list_any (bytes_eq name) names) refl
  where
    place : ℕ
    place = place_of names name

    there : (b : Bool) → list_any (bytes_eq name) names ≡ b → nat_lt place (length row) ≡ b
    there b h = ap (nat_lt place) e ∙ place_there (bytes_eq name) names ∙ h

    go : (b : Bool) → list_any (bytes_eq name) names ≡ b → length (with_value row place v) ≡ length (with_name names name)
    go true h =
        ap (λ (b : Bool). length (cond b (slice_set row place v) (row ++ v ∷ []))) (there true h) ∙ length-set row place v ∙ e
        ∙ sym (ap (λ (b : Bool). length (cond b names (names ++ name ∷ []))) h)
    go false h =
        ap (λ (b : Bool). length (cond b (slice_set row place v) (row ++ v ∷ []))) (there false h) ∙ length_push row v ∙ ap (λ (n : ℕ). n + 1) e ∙ sym (length_push names name)
        ∙ sym (ap (λ (b : Bool). length (cond b names (names ++ name ∷ []))) h)

-- ---- one assignment further

-- what is left of a row before assignment i, where these values stand
pub record SoFar (names : List Text) (items : List Assign) (n : ℕ) (row : RowValues) (final : List Text) (places : List ℕ) (i : ℕ) (values : RowValues) : Type 0 where
  pub known : List Text
  pub rest_is : assigned_row names n (all_assigned items) row ≡ assigned_row known n (all_assigned (drop i items)) values
  pub width : length values ≡ length known
  pub names_left : names_after known (all_assigned (drop i items)) ≡ final
  pub places_left : places_after known (all_assigned (drop i items)) ≡ drop i places

pub none_set : (names : List Text) (items : List Assign) (n : ℕ) (row : RowValues) (final : List Text) (places : List ℕ) (values : RowValues) → values ≡ row → length row ≡ length names → final ≡ names_after names (all_assigned items)
    → places ≡ places_after names (all_assigned items) → SoFar names items n row final places 0 values
none_set names items n row final places values e w f g = record {
  known = names;
  rest_is = ap (assigned_row names n (all_assigned items)) (sym e);
  width = ap length e ∙ w;
  names_left = sym f;
  places_left = sym g;
}

drop_parts : {A : Type 0} (xs ps : List A) (i : ℕ) (p d : A) → drop i xs ≡ p ∷ ps → (get_or xs i d ≡ p) × (drop (suc i) xs ≡ ps)
drop_parts [] ps zero p d e = absurd (cc)
drop_parts [] ps (suc i) p d e = absurd (cc)
drop_parts (x ∷ xs) ps zero p d e = (cc, cc)
drop_parts (x ∷ xs) ps (suc i) p d e = drop_parts xs ps i p d e

module _ (names : List Text) (items : List Assign) (n : ℕ) (row : RowValues) (final : List Text) (places : List ℕ) (i : ℕ) (values : RowValues) (d : Assign) (h : SoFar names items n row final places i values) (less : i < length items) where
  abbrev item : Assign
  item = get_or items i d

  abbrev rest : List Assigned
  rest = all_assigned (drop (suc i) items)

  abbrev next : Value → Result RowValues TableWhy
  next v = assigned_row (with_name h.known item.name) n rest (with_value values (place_of h.known item.name) v)

  split : all_assigned (drop i items) ≡ assigned item ∷ rest
  split = ap all_assigned (drop-cons items i d less)

  -- names after those that are known change nothing
  known_there : evaluated final values n (tree_of item.value) ≡ evaluated h.known values n (tree_of item.value)
  known_there =
      let g : (more : List Text) × (names_after h.known (all_assigned (drop i items)) ≡ h.known ++ more) = all_grown h.known (all_assigned (drop i items)) in
      let short : length values ≤ length h.known = omega (arith, h.width) in
      ap (λ (z : List Text). evaluated z values n (tree_of item.value)) (sym h.names_left ∙ g.1) ∙ evaluated_more h.known g.0 values n (tree_of item.value) short

  goes : assigned_row names n (all_assigned items) row ≡ on_ok (value_for n (evaluated final values n (tree_of item.value))) next
  goes =
      h.rest_is ∙ ap (λ (list : List Assigned). assigned_row h.known n list values) split
      ∙ ap (λ (r : Evaluated). on_ok (value_for n r) next) (sym known_there)

  pub row_stops : (why : TableWhy) → value_for n (evaluated final values n (tree_of item.value)) ≡ Err why → assigned_row names n (all_assigned items) row ≡ Err why
  row_stops why e = goes ∙ ap (λ (r : Result Value TableWhy). on_ok r next) e

  places_split : drop i places ≡ place_of h.known item.name ∷ places_after (with_name h.known item.name) rest
  places_split = sym h.places_left ∙ ap (places_after h.known) split

  pub row_sets : (value : Value) (place p : ℕ) → value_for n (evaluated final values n (tree_of item.value)) ≡ Ok value → place ≡ get_or places i p → SoFar names items n row final places (i + 1) (with_value values place value)
  row_sets value place p e at =
      let further : suc i ≡ i + 1 = sym (add-one i) in
      let parts : (get_or places i p ≡ place_of h.known item.name) × (drop (suc i) places ≡ places_after (with_name h.known item.name) rest) = drop_parts places _ i _ p places_split in
      let there : place_of h.known item.name ≡ place = sym (at ∙ parts.0) in
      subst (λ (k : ℕ). SoFar names items n row final places k (with_value values place value)) further
      (record {
        known = with_name h.known item.name;
        rest_is = goes ∙ ap (λ (r : Result Value TableWhy). on_ok r next) e ∙ ap (λ (k : ℕ). assigned_row (with_name h.known item.name) n rest (with_value values k value)) there;
        width = ap (λ (k : ℕ). length (with_value values k value)) (sym there) ∙ with_long values h.known item.name value h.width;
        names_left = sym (ap (names_after h.known) split) ∙ h.names_left;
        places_left = sym parts.1;
      })

-- ---- one row further

pub rows_step : (names : List Text) (list : List Assigned) (rows : List RowValues) (n : ℕ) (out : List RowValues) (row : RowValues) (longer : List RowValues) → n < length rows → assigned_row names n list (row_at rows n) ≡ Ok row → longer ≡ out ++ row ∷ []
    → past out (assigned_rows names list n (drop n rows)) ≡ past longer (assigned_rows names list (n + 1) (drop (n + 1) rows))
rows_step names list rows n out row longer less said pushed =
    ap (past out)
    (ap (assigned_rows names list n) (drop-cons rows n [] less)
    ∙ ap (λ (r : Result RowValues TableWhy). on_ok r (λ one. on_ok (assigned_rows names list (n + 1) (drop (suc n) rows)) (λ others. Ok (one ∷ others)))) said)
    ∙ after_one out row (assigned_rows names list (n + 1) (drop (suc n) rows))
    ∙ ap (λ (k : ℕ). past (out ++ row ∷ []) (assigned_rows names list (n + 1) (drop k rows))) (sym (add-one n))
    ∙ ap (λ (o : List RowValues). past o (assigned_rows names list (n + 1) (drop (n + 1) rows))) (sym pushed)

-- Answers for all items, one item further, and rows that match both ways.
use Rattle.std.proofs.Common.{◌≡◌, ℕ, zero, suc, ◌+◌, ◌<◌, ◌≤◌, ℤ, Bool, true, nat_eq, nat_lt, List, [], ◌∷◌, ◌++◌, map, filter, length, drop, get_or, Contains, refl, sym, ap, ◌∙◌, subst, append-nil, length-append, add-one, arith}
use Rattle.std.specs.Prelude.{Option, Some, None, Result, Ok, Err}
use Rattle.std.specs.Bool.{beq}
use Rattle.std.specs.List.{AllZip, zip}
use Rattle.std.specs.List.Sorted.{IsStrictlyIncreasing}
use Rattle.std.proofs.lemmas.List.{length-map}
use Rattle.std.proofs.lemmas.List.Kept.{IsStrictlyIncreasing-filter}
use Rattle.std.proofs.lemmas.Slice.Zip.{AllZip-long}
use Rattle.lists.specs.Lists.{has, numbers_where}
use Rattle.lists.proofs.Ascending.{one_ascending}
use Rattle.lists.proofs.Members.{Contains-filter, filter-Contains}
use Rattle.expr_lang.specs.Tree.{tree_of}
use Rattle.expr_lang.specs.declared.expr.Expr.{Expr}
use Rattle.json_values.specs.Table.{TableContent, RowValues, AreRows}
use Rattle.json_values.specs.declared.value.Value.TheVariants as is
use Rattle.face_sets.proofs.BoundaryLemmas.{has_Contains, Contains_has}
use Rattle.face_sets.proofs.SetLemmas.{nat_order, to_ascending}
use Rattle.table_terms.specs.Refusals.{on_ok}
use Rattle.table_ops.specs.Filtering.{tests_of}
use Rattle.table_ops.specs.Join.{candidates}
use Rattle.table_rows.specs.Refusals.{Refuses}
use Rattle.table_rows.specs.declared.fault.TableFault.{TableFault}
use Rattle.table_rows.specs.declared.fault.TableFault.TheVariants.{Bad, Memory}
use Rattle.table_rows.specs.declared.fault.TableWhy.{TableWhy}
use Rattle.table_ops.specs.declared.join_columns.Column.{Column}
use Rattle.table_ops.proofs.Testing.{past, after_one}
use Rattle.spatial_join.specs.CalcColumns.{calculated_at, row_by_places, rows_by_places, with_sums}
use Rattle.spatial_join.specs.Joined.{each_ok, matching}
use Rattle.bucket_grid.proofs.RisingNumbers.{numbers_where_rise}

-- ---- an answer and what it was made of

abbrev answer_or : {T E : Type 0} → T → Result T E → T
answer_or d (Ok v) = v
answer_or d (Err why) = d

pub answer_same : {T E : Type 0} (v w : T) → (let r : Result T E = Ok v in r) ≡ Ok w → v ≡ w
answer_same {T} {E} v w e = ap (λ (r : Result T E). answer_or v r) e

pub answered : {T U E : Type 0} (r : Result T E) (go : T → Result U E) (u : U) → on_ok r go ≡ Ok u → (v : T) × (r ≡ Ok v) × (go v ≡ Ok u)
answered (Ok v) go u e = (v, refl, e)
answered (Err why) go u e = absurd (cc)

-- ---- answers for all items

module _ {A B : Type 0} (f : A → Result B TableWhy) where
  abbrev each_from : List A → B → Result (List B) TableWhy
  each_from xs y = on_ok (each_ok f xs) (λ (ys : List B). Ok (y ∷ ys))

  -- one item further
  pub each_next : (ys : List B) (xs rest : List A) (x : A) (y : B) → xs ≡ x ∷ rest → f x ≡ Ok y → past ys (each_ok f xs) ≡ past (ys ++ y ∷ []) (each_ok f rest)
  each_next ys xs rest x y e said =
      ap (λ (zs : List A). past ys (each_ok f zs)) e ∙ ap (λ (r : Result B TableWhy). past ys (on_ok r (each_from rest))) said ∙ after_one ys y (each_ok f rest)

  -- the first refusal is that of the whole
  pub each_stops : (ys : List B) (xs rest : List A) (x : A) (why : TableWhy) → xs ≡ x ∷ rest → f x ≡ Err why → past ys (each_ok f xs) ≡ Err why
  each_stops ys xs rest x why e said =
      ap (λ (zs : List A). past ys (each_ok f zs)) e ∙ ap (λ (r : Result B TableWhy). past ys (on_ok r (each_from rest))) said

  -- after the last item
  pub each_done : (ys : List B) (xs : List A) → xs ≡ [] → past ys (each_ok f xs) ≡ Ok ys
  each_done ys xs e = ap (λ (zs : List A). past ys (each_ok f zs)) e ∙ ap Ok (append-nil ys)

  pub each_answers : (xs : List A) (ys : List B) → each_ok f xs ≡ Ok ys → AllZip (λ (x : A) (y : B). f x ≡ Ok y) xs ys
  each_answers [] ys e = subst (AllZip (λ (x : A) (y : B). f x ≡ Ok y) []) (answer_same [] ys e) tt
  each_answers (x ∷ xs) ys e =
      let (y, said, more) = answered (f x) (each_from xs) ys e in
      let (zs, told, all) = answered (each_ok f xs) (λ (zs : List B). Ok (y ∷ zs)) ys more in
      subst (AllZip (λ (z : A) (u : B). f z ≡ Ok u) (x ∷ xs)) (answer_same (y ∷ zs) ys all) (said, each_answers xs zs told)

  pub each_long : (xs : List A) (ys : List B) → each_ok f xs ≡ Ok ys → length ys ≡ length xs
  each_long xs ys e = AllZip-long (λ (x : A) (y : B). f x ≡ Ok y) xs ys (each_answers xs ys e)

pub each_of_map : {A B C : Type 0} (f : B → Result C TableWhy) (g : A → B) (xs : List A) → each_ok f (map g xs) ≡ each_ok (λ (x : A). f (g x)) xs
each_of_map f g [] = refl
each_of_map {A} {B} {C} f g (x ∷ xs) = ap (λ (r : Result (List C) TableWhy). on_ok (f (g x)) (λ (y : C). on_ok r (λ (ys : List C). Ok (y ∷ ys)))) (each_of_map f g xs)

-- ---- calculated values

module _ (rows : List RowValues) (matched : List ℕ) where
  pub sums_long : (cells row : RowValues) (places : List _) → with_sums cells rows matched places ≡ Ok row → length row ≡ length cells + length places
  sums_long cells row places e =
      let (ns, told, is_row) = answered (each_ok (calculated_at rows matched) places) (λ (ns : List ℤ). Ok (cells ++ map is.Num ns)) row e in
      sym (ap length (answer_same (cells ++ map is.Num ns) row is_row)) ∙ length-append cells (map is.Num ns)
      ∙ ap (λ (n : ℕ). length cells + n) (length-map ns is.Num ∙ each_long (calculated_at rows matched) places ns told)

-- ---- pairs

pub zip_split : {A B : Type 0} (xs : List A) (ys : List B) (i : ℕ) (d : A) (e : B) → i < length xs → i < length ys → drop i (zip xs ys) ≡ (get_or xs i d, get_or ys i e) ∷ drop (suc i) (zip xs ys)
zip_split [] ys i d e l m = absurd (omega arith)
zip_split (x ∷ xs) [] i d e l m = absurd (omega arith)
zip_split (x ∷ xs) (y ∷ ys) zero d e l m = refl
zip_split (x ∷ xs) (y ∷ ys) (suc i) d e l m = zip_split xs ys i d e (omega arith) (omega arith)

pub zip_past : {A B : Type 0} (xs : List A) (ys : List B) (i : ℕ) → length xs ≡ length ys → length xs ≤ i → drop i (zip xs ys) ≡ []
zip_past [] ys zero e l = refl
zip_past [] ys (suc i) e l = refl
zip_past (x ∷ xs) [] i e l = absurd (omega arith)
zip_past (x ∷ xs) (y ∷ ys) zero e l = absurd (omega arith)
zip_past (x ∷ xs) (y ∷ ys) (suc i) e l = zip_past xs ys i (omega arith) (omega arith)

pub zip_long : {A B : Type 0} (xs : List A) (ys : List B) → length ys ≡ length xs → length (zip xs ys) ≡ length xs
zip_long [] ys e = refl
zip_long (x ∷ xs) [] e = absurd (omega arith)
zip_long (x ∷ xs) (y ∷ ys) e = ap suc (zip_long xs ys (omega arith))

pub rows_long : {A : Type 0} (f : A → Result RowValues TableWhy) (n : ℕ) → ((x : A) (row : RowValues) → f x ≡ Ok row → length row ≡ n) → (xs : List A) (rows : List RowValues) → each_ok f xs ≡ Ok rows → AreRows n rows
rows_long {A} f n long xs rows e = go xs rows (each_answers f xs rows e)
  where
    go : (zs : List A) (us : List RowValues) → AllZip (λ (x : A) (row : RowValues). f x ≡ Ok row) zs us → AreRows n us
    go [] [] h = tt
    go [] (u ∷ us) h = absurd h
    go (z ∷ zs) [] h = absurd h
    go (z ∷ zs) (u ∷ us) h = (long z u h.0, go zs us h.1)

-- ---- numbers in both of two rising lists

pub both_ways : (xs ys : List ℕ) → IsStrictlyIncreasing xs → IsStrictlyIncreasing ys → filter (has nat_eq xs) ys ≡ matching xs ys
both_ways xs ys h k = one_ascending nat_lt nat_order (filter (has nat_eq xs) ys) (filter (has nat_eq ys) xs)
    (to_ascending (filter (has nat_eq xs) ys) (IsStrictlyIncreasing-filter (has nat_eq xs) ys k))
    (to_ascending (filter (has nat_eq ys) xs) (IsStrictlyIncreasing-filter (has nat_eq ys) xs h))
    (λ n c. turns xs ys n c)
    (λ n c. turns ys xs n c)
  where
    turns : (us vs : List ℕ) (n : ℕ) → Contains (filter (has nat_eq us) vs) n → Contains (filter (has nat_eq vs) us) n
    turns us vs n c =
        let both = filter-Contains (has nat_eq us) vs n c in
        Contains-filter (has nat_eq vs) us n (has_Contains us n both.1) (Contains_has vs n both.0)

-- ---- rows that remain

pub candidates_rise : (source : TableContent) (test : Option Expr) (numbers : List ℕ) → candidates source test ≡ Ok numbers → IsStrictlyIncreasing numbers
candidates_rise source None numbers e =
    let test = λ (row : RowValues). true in
    subst IsStrictlyIncreasing (answer_same (numbers_where test source.rows) numbers e) (numbers_where_rise test source.rows)
candidates_rise source (Some test) numbers e =
    let (bs, told, is) = answered (tests_of source (tree_of test)) (λ (bs : List Bool). Ok (numbers_where (beq true) bs)) numbers e in
    subst IsStrictlyIncreasing (answer_same (numbers_where (beq true) bs) numbers is) (numbers_where_rise (beq true) bs)

-- ---- a test that is handed on

pub refuses_whole : (r : Result (Unit {0}) TableFault) (e : TableFault) (part whole : Option TableWhy) → r ≡ Err e → Refuses (Err e) part → ((why : TableWhy) → part ≡ Some why → whole ≡ Some why) → Refuses r whole
refuses_whole r (Bad why) part whole is t on = subst (λ (s : Result (Unit {0}) TableFault). Refuses s whole) (sym is) (on why t)
refuses_whole r Memory part whole is t on = subst (λ (s : Result (Unit {0}) TableFault). Refuses s whole) (sym is) tt

-- ---- rows one further

module _ (source : List RowValues) (columns : List Column) (sums : List (Option ℕ)) (remaining : List ℕ) (target : List RowValues) (matches : List (List ℕ)) (each : length matches ≡ length target) where
  abbrev answer : RowValues × List ℕ → Result RowValues TableWhy
  answer p = row_by_places source columns sums p.0 (matching remaining p.1)

  abbrev pairs : List (RowValues × List ℕ)
  pairs = zip target matches

  module _ (rows : List RowValues) (i : ℕ) (d row : RowValues) (e list matched : List ℕ) (less : i < length target) (row_is : row ≡ get_or target i d) (list_is : list ≡ get_or matches i e) (is : matched ≡ matching remaining list) where
    abbrev pair : RowValues × List ℕ
    pair = (get_or target i d, get_or matches i e)

    next_pair : drop i (zip target matches) ≡ (get_or target i d, get_or matches i e) ∷ drop (suc i) (zip target matches)
    next_pair = zip_split target matches i d e less (omega arith)

    answer_is : row_by_places source columns sums (get_or target i d) (matching remaining (get_or matches i e)) ≡ row_by_places source columns sums row matched
    answer_is = (λ j. row_by_places source columns sums (sym row_is j) (sym (is ∙ ap (matching remaining) list_is) j))

    pub rows_stop : (why : TableWhy) → row_by_places source columns sums row matched ≡ Err why → past rows (rows_by_places source columns sums remaining (drop i (zip target matches))) ≡ Err why
    rows_stop why said = each_stops answer rows (drop i pairs) (drop (suc i) pairs) pair why next_pair (answer_is ∙ said)

    pub rows_next : (new : RowValues) (longer : List RowValues) → row_by_places source columns sums row matched ≡ Ok new → longer ≡ rows ++ new ∷ [] →
        past rows (rows_by_places source columns sums remaining (drop i (zip target matches))) ≡ past longer (rows_by_places source columns sums remaining (drop (i + 1) (zip target matches)))
    rows_next new longer said pushed =
        each_next answer rows (drop i pairs) (drop (suc i) pairs) pair new next_pair (answer_is ∙ said)
        ∙ (λ j. past (sym pushed j) (rows_by_places source columns sums remaining (drop (sym (add-one i) j) pairs)))

  pub rows_done : (rows : List RowValues) (i : ℕ) → length target ≤ i → past rows (rows_by_places source columns sums remaining (drop i (zip target matches))) ≡ Ok rows
  rows_done rows i past = each_done answer rows (drop i pairs) (zip_past target matches i (sym each) past)

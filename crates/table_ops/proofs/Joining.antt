-- Joins by keys: the first row with a key, and the columns of a joined row.
use Rattle.std.proofs.Common.{◌≡◌, ℕ, suc, ◌+◌, ◌<◌, All, Bool, true, false, cond, not, ◌&&◌, ◌||◌, List, [], ◌∷◌, ◌++◌, map, length, take, get_or, slice_get, filter, find, Option, Some, None, option_map, unwrap_or, refl, sym, ap, subst, ◌∙◌, true≢false, arith, length-append}
use Rattle.std.specs.List.{IsDistinct, AllByRecursion, list_any, position_or_len}
use Rattle.std.specs.Option.{option_or}
use Rattle.std.specs.Str.{bytes_eq}
use Rattle.std.specs.Cmp.Lexicographic.{nat_list_eq_equiv}
use Rattle.std.proofs.lemmas.List.{take_more, length-map, map-append, append_cancel_left}
use Rattle.std.proofs.lemmas.List.Folds.{find_at, find-append}
use Rattle.std.proofs.lemmas.Option.{slice_get-get_or}
use Rattle.std.proofs.lemmas.Slice.Eq.{bytes_eq-Decides}
use Rattle.lists.specs.Lists.{numbers_where}
use Rattle.json_values.specs.Table.{RowValues, AreRows}
use Rattle.json_values.specs.Value.{same}
use Rattle.json_values.specs.declared.value.Value.{Value}
use Rattle.table_terms.specs.Names.{Text, has_name, value_at, place_of}
use Rattle.table_rows.specs.Rows.{row_at}
use Rattle.table_rows.specs.Same.{same_decides, same_equivalent}
use Rattle.table_ops.specs.Join.{copied_fields, copied_name, new_fields, forced_field, is_null, matches, kept_cell, new_cell, joined_row}
use Rattle.table_ops.specs.JoinColumns.{kept_at, kept_column, added_column, columns_of, column_value, row_found}
use Rattle.join_terms.specs.declared.joins.JoinSpec.{JoinSpec}
use Rattle.table_ops.specs.declared.join_columns.Column.{Column}
use Rattle.table_rows.proofs.Cells.{map_map}
use Rattle.table_terms.proofs.Distinct.{IsDistinct-map}
use Rattle.table_terms.proofs.Mapped.{position_or_len-map}
use Rattle.table_rows.proofs.Numbers.{numbers_where_more}

-- ---- the first row with a key

-- null is no key
pub null_matches_none : (v w : Value) (n : ℕ) (o : Option ℕ) → is_null w ≡ true → o ≡ option_or o (cond (matches v w) (Some n) None)
null_matches_none v w n o e =
    sym (ap (λ (b : Bool). option_or o (cond (not b && same v w) (Some n) None)) e ∙ or_none o)
  where
    or_none : (p : Option ℕ) → option_or p None ≡ p
    or_none None = refl
    or_none (Some m) = refl

-- another value is
pub others_match : (v w : Value) (n : ℕ) (o : Option ℕ) → is_null w ≡ false
    → option_or o (cond (same w v) (Some n) None) ≡ option_or o (cond (matches v w) (Some n) None)
others_match v w n o e =
    ap (λ (b : Bool). option_or o (cond b (Some n) None)) (same_equivalent.symm w v)
    ∙ sym (ap (λ (b : Bool). option_or o (cond (not b && same v w) (Some n) None)) e)

-- a key that is put in with the number that it had, or with a first one
pub noted : (key k : Value) (found : Value → Option ℕ) (n : ℕ) → cond (same key k) (Some (unwrap_or (found key) n)) (found k) ≡ option_or (found k) (cond (same key k) (Some n) None)
noted key k found n = by (same key k) refl
  where
    or_first_one : (o : Option ℕ) → Some (unwrap_or o n) ≡ option_or o (Some n)
    or_first_one None = refl
    or_first_one (Some m) = refl

    or_none : (o : Option ℕ) → o ≡ option_or o None
    or_none None = refl
    or_none (Some m) = refl

    by : (b : Bool) → same key k ≡ b → cond b (Some (unwrap_or (found key) n)) (found k) ≡ option_or (found k) (cond b (Some n) None)
    by true e = ap (λ (v : Value). Some (unwrap_or (found v) n)) ((same_decides key k).0 e) ∙ or_first_one (found k)
    by false e = or_none (found k)

-- one more of the numbers
pub find_more : (p : ℕ → Bool) (ns : List ℕ) (i d : ℕ) → i < length ns → find p (take (i + 1) ns) ≡ option_or (find p (take i ns)) (cond (p (get_or ns i d)) (Some (get_or ns i d)) None)
find_more p ns i d less = ap (find p) (take_more ns i d less) ∙ find-append p (take i ns) (get_or ns i d ∷ [])

-- the row that is found, where the numbers are numbers of rows
pub found_row : (rows : List RowValues) (p : ℕ → Bool) (ns : List ℕ) → All (λ n. n < length rows) ns → row_found rows (find p ns) ≡ option_map (row_at rows) (find p ns)
found_row rows p [] h = refl
found_row rows p (n ∷ ns) h = by (p n) (found_row rows p ns (λ j d less. h (suc j) d (omega arith)))
  where
    by : (b : Bool) → row_found rows (find p ns) ≡ option_map (row_at rows) (find p ns) → row_found rows (cond b (Some n) (find p ns)) ≡ option_map (row_at rows) (cond b (Some n) (find p ns))
    by true rest = slice_get-get_or rows n [] (h 0 0 (omega arith))
    by false rest = rest

-- ---- all rows

pub all_numbers_more : (rows : List RowValues) (i : ℕ) → i < length rows → numbers_where (λ (row : RowValues). true) (take (i + 1) rows) ≡ numbers_where (λ (row : RowValues). true) (take i rows) ++ i ∷ []
all_numbers_more rows i less = numbers_where_more (λ (row : RowValues). true) rows i [] less

-- ---- columns

-- the field whose copied name is at the place of a name
pub field_found : (spec : JoinSpec) (fields : List Text) (name : Text)
    → slice_get fields (position_or_len (bytes_eq name) (map (copied_name spec) fields)) ≡ find (λ (f : Text). bytes_eq name (copied_name spec f)) fields
field_found spec fields name =
    ap (slice_get fields) (position_or_len-map (copied_name spec) (bytes_eq name) fields) ∙ sym (find_at (λ (f : Text). bytes_eq name (copied_name spec f)) fields)

kept_value : (source : List Text) (row : RowValues) (own : ℕ) (o : Option Text) (matched : Option RowValues)
    → column_value row matched (kept_at own (option_map (place_of source) o)) ≡ kept_cell source (value_at row own) o matched
kept_value source row own None matched = refl
kept_value source row own (Some f) None = refl
kept_value source row own (Some f) (Some other) = refl

added_value : (source : List Text) (row : RowValues) (f : Text) (matched : Option RowValues) → column_value row matched (added_column source f) ≡ new_cell source matched f
added_value source row f None = refl
added_value source row f (Some other) = refl

-- the values of the columns are the joined row
pub values_joined : (target source : List Text) (spec : JoinSpec) (row : RowValues) (matched : Option RowValues)
    → map (column_value row matched) (columns_of target source spec) ≡ joined_row target source spec row matched
values_joined target source spec row matched =
    map-append (column_value row matched) (map (kept_column target source spec) target) (map (added_column source) (new_fields target source spec))
    ∙ (λ i. map_map (column_value row matched) (kept_column target source spec) target i ++ map_map (column_value row matched) (added_column source) (new_fields target source spec) i)
    ∙ (λ i. map (λ (name : Text). kept_value source row (place_of target name) (forced_field source spec name) matched i) target
    ++ map (λ (f : Text). added_value source row f matched i) (new_fields target source spec))

pub values_long : (columns : List Column) (value : RowValues → Column → Value) (rows : List RowValues) → AreRows (length columns) (map (λ (row : RowValues). map (value row) columns) rows)
values_long columns value [] = tt
values_long columns value (row ∷ rows) = (length-map columns (value row), values_long columns value rows)

-- ---- names stay distinct

-- texts after the same text
same_after : (p s t : Text) → bytes_eq (p ++ s) (p ++ t) ≡ bytes_eq s t
same_after p s t = by (bytes_eq (p ++ s) (p ++ t)) refl (bytes_eq s t) refl
  where
    by : (a : Bool) → bytes_eq (p ++ s) (p ++ t) ≡ a → (b : Bool) → bytes_eq s t ≡ b → bytes_eq (p ++ s) (p ++ t) ≡ bytes_eq s t
    by true e true f = e ∙ sym f
    by false e false f = e ∙ sym f
    by true e false f =
        let equal : s ≡ t = append_cancel_left p s t ((bytes_eq-Decides (p ++ s) (p ++ t)).0 e) in
        absurd (true≢false (sym ((bytes_eq-Decides s t).1 equal) ∙ f))
    by false e true f =
        let equal : p ++ s ≡ p ++ t = ap (λ (r : Text). p ++ r) ((bytes_eq-Decides s t).0 f) in
        absurd (true≢false (sym ((bytes_eq-Decides (p ++ s) (p ++ t)).1 equal) ∙ e))

all_filter : (P : Text → Type 0) (p : Text → Bool) (xs : List Text) → AllByRecursion P xs → AllByRecursion P (filter p xs)
all_filter P p [] h = tt
all_filter P p (x ∷ xs) h = by (p x) (all_filter P p xs h.1)
  where
    by : (b : Bool) → AllByRecursion P (filter p xs) → AllByRecursion P (cond b (x ∷ filter p xs) (filter p xs))
    by true rest = (h.0, rest)
    by false rest = rest

distinct-filter : (p : Text → Bool) (xs : List Text) → IsDistinct bytes_eq xs → IsDistinct bytes_eq (filter p xs)
unfolding IsDistinct
distinct-filter p [] h = tt
distinct-filter p (x ∷ xs) h = by (p x) (distinct-filter p xs h.1)
  where
    by : (b : Bool) → IsDistinct bytes_eq (filter p xs) → IsDistinct bytes_eq (cond b (x ∷ filter p xs) (filter p xs))
    by true rest = (all_filter (λ (y : Text). bytes_eq x y ≡ false) p xs h.0, rest)
    by false rest = rest

-- names after the same prefix differ, where the fields do
pub copied_differ : (prefix : Text) (fields : List Text) → IsDistinct bytes_eq fields → IsDistinct bytes_eq (map (λ (f : Text). prefix ++ f) fields)
copied_differ prefix fields h =
    IsDistinct-map (λ (f : Text). prefix ++ f) bytes_eq fields
    (subst (λ (eq : Text → Text → Bool). IsDistinct eq fields) (λ i. λ (s t : Text). sym (same_after prefix s t) i) h)

-- the listed fields, else others
pub listed_differ : (listed : Option (List Text)) (others : List Text) → IsDistinct bytes_eq others → IsDistinct bytes_eq (unwrap_or listed []) → IsDistinct bytes_eq (unwrap_or listed others)
listed_differ None others h k = h
listed_differ (Some fields) others h k = k

-- the copied fields differ, where the listed ones do
pub fields_differ : (names : List Text) (spec : JoinSpec) → IsDistinct bytes_eq names → IsDistinct bytes_eq (unwrap_or spec.fields []) → IsDistinct bytes_eq (copied_fields names spec)
fields_differ names spec h k = listed_differ spec.fields (filter (λ (f : Text). not (bytes_eq f spec.source_key)) names) (distinct-filter (λ (f : Text). not (bytes_eq f spec.source_key)) names h) k

abbrev AreNew : List Text → List Text → Type 0
AreNew target names = AllByRecursion (λ (y : Text). has_name target y ≡ false) names

are_new : (target : List Text) (spec : JoinSpec) (fields : List Text) → AreNew target (map (copied_name spec) (filter (λ (f : Text). not (has_name target (copied_name spec f))) fields))
are_new target spec [] = tt
are_new target spec (f ∷ fields) = by (has_name target (copied_name spec f)) refl (are_new target spec fields)
  where
    rest : List Text
    rest = filter (λ (g : Text). not (has_name target (copied_name spec g))) fields

    by : (b : Bool) → has_name target (copied_name spec f) ≡ b → AreNew target (map (copied_name spec) rest) → AreNew target (map (copied_name spec) (cond (not b) (f ∷ rest) rest))
    by true e h = h
    by false e h = (e, h)

all_append : (P : Text → Type 0) (xs ys : List Text) → AllByRecursion P xs → AllByRecursion P ys → AllByRecursion P (xs ++ ys)
all_append P [] ys h k = k
all_append P (x ∷ xs) ys h k = (h.0, all_append P xs ys h.1 k)

pub or_first : (a b : Bool) → (a || b) ≡ false → a ≡ false
or_first true b e = absurd (true≢false e)
or_first false b e = refl

pub or_second : (a b : Bool) → (a || b) ≡ false → b ≡ false
or_second true b e = absurd (true≢false e)
or_second false b e = e

new_to_first : (x : Text) (xs ys : List Text) → AreNew (x ∷ xs) ys → AllByRecursion (λ (y : Text). bytes_eq x y ≡ false) ys
new_to_first x xs [] h = tt
new_to_first x xs (y ∷ ys) h = (nat_list_eq_equiv.symm x y ∙ or_first (bytes_eq y x) (list_any (bytes_eq y) xs) h.0, new_to_first x xs ys h.1)

new_to_rest : (x : Text) (xs ys : List Text) → AreNew (x ∷ xs) ys → AreNew xs ys
new_to_rest x xs [] h = tt
new_to_rest x xs (y ∷ ys) h = (or_second (bytes_eq y x) (list_any (bytes_eq y) xs) h.0, new_to_rest x xs ys h.1)

distinct-past : (xs ys : List Text) → IsDistinct bytes_eq xs → IsDistinct bytes_eq ys → AreNew xs ys → IsDistinct bytes_eq (xs ++ ys)
unfolding IsDistinct
distinct-past [] ys h k new = k
distinct-past (x ∷ xs) ys h k new =
    (all_append (λ (y : Text). bytes_eq x y ≡ false) xs ys h.0 (new_to_first x xs ys new), distinct-past xs ys h.1 k (new_to_rest x xs ys new))

-- the names of a joined table differ
pub joined_names_differ : (target source : List Text) (spec : JoinSpec) → IsDistinct bytes_eq target → IsDistinct bytes_eq (copied_fields source spec)
    → IsDistinct bytes_eq (target ++ map (copied_name spec) (new_fields target source spec))
joined_names_differ target source spec h k =
    distinct-past target (map (copied_name spec) (new_fields target source spec)) h
    (copied_differ spec.prefix (new_fields target source spec) (distinct-filter (λ (f : Text). not (has_name target (copied_name spec f))) (copied_fields source spec) k))
    (are_new target spec (copied_fields source spec))

-- there are as many names as columns
pub as_many_names : (target source : List Text) (spec : JoinSpec) → length (target ++ map (copied_name spec) (new_fields target source spec)) ≡ length (columns_of target source spec)
as_many_names target source spec =
    let new : List Text = new_fields target source spec in
    let a = length-append target (map (copied_name spec) new) in
    let b = length-append (map (kept_column target source spec) target) (map (added_column source) new) in
    let c = length-map new (copied_name spec) in
    let d = length-map target (kept_column target source spec) in
    let e = length-map new (added_column source) in
    omega (arith, a, b, c, d, e)

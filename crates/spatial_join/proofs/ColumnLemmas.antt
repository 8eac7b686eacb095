-- Columns by places, rows by places, and the names of a joined table.
use Rattle.std.proofs.Common.{◌≡◌, ℕ, ◌+◌, ℤ, Bool, true, false, cond, not, List, [], ◌∷◌, ◌++◌, map, filter, length, Option, Some, None, refl, sym, ap, ◌∙◌, subst, append_assoc, append-nil, length-append}
use Rattle.std.specs.Prelude.{Result, Ok, Err}
use Rattle.std.specs.List.{IsDistinct, zip}
use Rattle.std.specs.Str.{bytes_eq}
use Rattle.std.specs.Cmp.Lexicographic.{nat_list_eq_equiv}
use Rattle.std.proofs.lemmas.List.{length-map}
use Rattle.std.proofs.lemmas.List.Folds.{list_any-append}
use Rattle.std.proofs.lemmas.Map.Keys.{IsDistinct-push}
use Rattle.std.proofs.lemmas.Bool.{or_from}
use Rattle.json_values.specs.Table.{TableContent, RowValues, AreRows}
use Rattle.json_values.specs.declared.value.Value.{Value}
use Rattle.json_values.specs.declared.value.Value.TheVariants as is
use Rattle.table_terms.specs.Names.{Text, has_name}
use Rattle.table_terms.specs.Refusals.{on_ok, unless}
use Rattle.join_terms.specs.declared.calculations.Calc.{Calc}
use Rattle.join_terms.specs.declared.calculations.Calc.TheVariants.{Count, Sum}
use Rattle.join_terms.specs.declared.calculations.CalcSpec.{CalcSpec}
use Rattle.join_terms.specs.declared.joins.JoinSpec.{JoinSpec}
use Rattle.table_ops.specs.Join.{candidates, copied_fields, copied_name, joined_row, new_fields}
use Rattle.table_ops.specs.JoinColumns.{columns_of, column_value}
use Rattle.table_rows.specs.declared.fault.TableWhy.{TableWhy}
use Rattle.table_rows.specs.declared.fault.TableWhy.TheVariants.{NoField, FieldTwice}
use Rattle.table_ops.specs.declared.join_columns.Column.{Column}
use Rattle.table_ops.proofs.Joining.{as_many_names as as_many_copied, joined_names_differ as copied_differ, or_first, or_second, values_joined}
use Rattle.spatial_join.specs.CalcColumns.{summed_place, calculated_at, row_by_places, rows_by_places}
use Rattle.table_rows.specs.Rows.{first_row}
use Rattle.spatial_join.specs.Joined.{as_join, calc_name, new_names, joined_names, lacks_field, refused_calc, each_ok, calculated, calc_row, matching, calc_rows, joined_table, join_matched, refused_items}
use Rattle.spatial_join.proofs.JoinLemmas.{answered, each_long, each_of_map, rows_long, sums_long, zip_long}

-- ---- values

calculated_same : (source : TableContent) (matched : List ℕ) (c : Calc) → calculated_at source.rows matched (summed_place source.names c) ≡ calculated source matched c
calculated_same source matched (Count name) = refl
calculated_same source matched (Sum name field) = refl

row_joined : (target source : TableContent) (spec : CalcSpec) (row : RowValues) (matched : List ℕ)
    → row_by_places source.rows (columns_of target.names source.names (as_join source.names spec)) (map (summed_place source.names) spec.calc) row matched ≡ calc_row target source spec row matched
row_joined target source spec row matched =
    (λ i. on_ok (each_of_map (calculated_at source.rows matched) (summed_place source.names) spec.calc i)
    (λ (numbers : List ℤ). Ok (values_joined target.names source.names (as_join source.names spec) row (first_row source.rows matched) i ++ map is.Num numbers)))
    ∙ (λ i. on_ok (each_ok (λ (c : Calc). calculated_same source matched c i) spec.calc)
    (λ (numbers : List ℤ). Ok (joined_row target.names source.names (as_join source.names spec) row (first_row source.rows matched) ++ map is.Num numbers)))

rows_joined : (target source : TableContent) (matches : List (List ℕ)) (spec : CalcSpec) (remaining : List ℕ)
    → rows_by_places source.rows (columns_of target.names source.names (as_join source.names spec)) (map (summed_place source.names) spec.calc) remaining (zip target.rows matches) ≡ calc_rows target source matches spec remaining
rows_joined target source matches spec remaining =
    (λ i. each_ok (λ (p : RowValues × List ℕ). row_joined target source spec p.0 (matching remaining p.1) i) (zip target.rows matches))

-- ---- calculations, one further

module _ (source earlier : List Text) (n : ℕ) (c : Calc) (rest : List Calc) where
  abbrev others : Option TableWhy
  others = refused_calc source (earlier ++ calc_name c ∷ []) (n + 1) rest

  pub calc_stops : (why : TableWhy) → refused_calc source earlier n (c ∷ []) ≡ Some why → refused_calc source earlier n (c ∷ rest) ≡ Some why
  calc_stops why e = go (lacks_field source c) (has_name earlier (calc_name c)) e
    where
      go : (a b : Bool) → cond a (Some (NoField n)) (cond b (Some (FieldTwice n)) None) ≡ Some why → cond a (Some (NoField n)) (cond b (Some (FieldTwice n)) others) ≡ Some why
      go true b h = h
      go false true h = h
      go false false h = absurd (cc)

  calc_accepted : refused_calc source earlier n (c ∷ rest) ≡ None → (has_name earlier (calc_name c) ≡ false) × (others ≡ None)
  calc_accepted e = go (lacks_field source c) (has_name earlier (calc_name c)) refl e
    where
      go : (a b : Bool) → has_name earlier (calc_name c) ≡ b → cond a (Some (NoField n)) (cond b (Some (FieldTwice n)) others) ≡ None → (has_name earlier (calc_name c) ≡ false) × (others ≡ None)
      go true b f h = absurd (cc)
      go false true f h = absurd (cc)
      go false false f h = (f, h)

-- ---- names

-- there are as many names as columns
pub as_many_names : (target source : List Text) (spec : CalcSpec) → length (joined_names target source spec) ≡ length (columns_of target source (as_join source spec)) + length (map (summed_place source) spec.calc)
as_many_names target source spec =
    length-append (target ++ new_names target source spec) (map calc_name spec.calc)
    ∙ (λ i. as_many_copied target source (as_join source spec) i + (length-map spec.calc calc_name ∙ sym (length-map spec.calc (summed_place source))) i)

missing_parts : (xs ys : List Text) (t : Text) → has_name (xs ++ ys) t ≡ false → (has_name xs t ≡ false) × (has_name ys t ≡ false)
missing_parts xs ys t e =
    let both = sym (list_any-append (bytes_eq t) xs ys) ∙ e in
    (or_first (has_name xs t) (has_name ys t) both, or_second (has_name xs t) (has_name ys t) both)

missing_both : (xs ys : List Text) (t : Text) → has_name xs t ≡ false → has_name ys t ≡ false → has_name (xs ++ ys) t ≡ false
missing_both xs ys t e f = list_any-append (bytes_eq t) xs ys ∙ or_from (has_name xs t) (has_name ys t) e f

-- a name that none of some fields gets is got by none that are kept
missing_kept : (name : Text → Text) (keeps : Text → Bool) (fields : List Text) (t : Text) → has_name (map name fields) t ≡ false → has_name (map name (filter keeps fields)) t ≡ false
missing_kept name keeps [] t e = refl
missing_kept name keeps (f ∷ fields) t e = by (keeps f) (missing_kept name keeps fields t (or_second (bytes_eq t (name f)) (has_name (map name fields) t) e))
  where
    by : (b : Bool) → has_name (map name (filter keeps fields)) t ≡ false → has_name (map name (cond b (f ∷ filter keeps fields) (filter keeps fields))) t ≡ false
    by true h = or_from (bytes_eq t (name f)) (has_name (map name (filter keeps fields)) t) (or_first (bytes_eq t (name f)) (has_name (map name fields) t) e) h
    by false h = h

-- calculations that are accepted have names that differ, also from those before them
calcs_differ : (source names earlier : List Text) (n : ℕ) (calcs : List Calc) → ((t : Text) → has_name earlier t ≡ false → has_name names t ≡ false) → IsDistinct bytes_eq names → refused_calc source earlier n calcs ≡ None →
    IsDistinct bytes_eq (names ++ map calc_name calcs)
calcs_differ source names earlier n [] among h e = subst (IsDistinct bytes_eq) (sym (append-nil names)) h
calcs_differ source names earlier n (c ∷ calcs) among h e =
    let name = calc_name c in
    let parts = calc_accepted source earlier n c calcs e in
    subst (IsDistinct bytes_eq) (append_assoc names (name ∷ []) (map calc_name calcs))
    (calcs_differ source (names ++ name ∷ []) (earlier ++ name ∷ []) (n + 1) calcs
    (λ t f. let two = missing_parts earlier (name ∷ []) t f in missing_both names (name ∷ []) t (among t two.0) two.1)
    (IsDistinct-push nat_list_eq_equiv names name h (among name parts.0))
    parts.1)

pub joined_names_differ : (target source : List Text) (join : JoinSpec) (calcs : List Calc) (n : ℕ) → IsDistinct bytes_eq target → IsDistinct bytes_eq (copied_fields source join)
    → refused_calc source (target ++ map (copied_name join) (copied_fields source join)) n calcs ≡ None → IsDistinct bytes_eq ((target ++ map (copied_name join) (new_fields target source join)) ++ map calc_name calcs)
joined_names_differ target source join calcs n h k accepted =
    let copied : List Text = map (copied_name join) (copied_fields source join) in
    let new : List Text = map (copied_name join) (new_fields target source join) in
    calcs_differ source (target ++ new) (target ++ copied) n calcs
    (λ t e.
    let two = missing_parts target copied t e in
    missing_both target new t two.0 (missing_kept (copied_name join) (λ (f : Text). not (has_name target (copied_name join f))) (copied_fields source join) t two.1))
    (copied_differ target source join h k)
    accepted

-- ---- the whole

module _ (target source : TableContent) (spec : CalcSpec) where
  abbrev columns : List Column
  columns = columns_of target.names source.names (as_join source.names spec)

  abbrev sums : List (Option ℕ)
  sums = map (summed_place source.names) spec.calc

  row_as_long : (row : RowValues) (matched : List ℕ) (new : RowValues) → calc_row target source spec row matched ≡ Ok new → length new ≡ length (joined_names target.names source.names spec)
  row_as_long row matched new said =
      let value : Column → Value = column_value row (first_row source.rows matched) in
      sums_long source.rows matched (map value columns) new sums (row_joined target source spec row matched ∙ said)
      ∙ ap (λ (n : ℕ). n + length sums) (length-map columns value) ∙ sym (as_many_names target.names source.names spec)

  module _ (matches : List (List ℕ)) where
    -- rows by what was read of the target
    pub rows_told : (target_rows : List RowValues) (by_places : List Column) → target_rows ≡ target.rows → by_places ≡ columns_of target.names source.names (as_join source.names spec) →
        on_ok (candidates source spec.test) (calc_rows target source matches spec)
        ≡ on_ok (candidates source spec.test) (λ (remaining : List ℕ). rows_by_places source.rows by_places (map (summed_place source.names) spec.calc) remaining (zip target_rows matches))
    rows_told target_rows by_places e f =
        (λ i. on_ok (candidates source spec.test) (λ (remaining : List ℕ). sym (rows_joined target source matches spec remaining) i))
        ∙ (λ i. on_ok (candidates source spec.test) (λ (remaining : List ℕ). rows_by_places source.rows (sym f i) sums remaining (zip (sym e i) matches)))

    -- there are as many rows as in the target, each as long as the names
    pub rows_made : (rows : List RowValues) → on_ok (candidates source spec.test) (calc_rows target source matches spec) ≡ Ok rows → length matches ≡ length target.rows →
        (length rows ≡ length target.rows) × AreRows (length (joined_names target.names source.names spec)) rows
    rows_made rows e each =
        let (remaining, told, made) = answered (candidates source spec.test) (calc_rows target source matches spec) rows e in
        let row : RowValues × List ℕ → Result RowValues TableWhy = λ (p : RowValues × List ℕ). calc_row target source spec p.0 (matching remaining p.1) in (
          each_long row (zip target.rows matches) rows made ∙ zip_long target.rows matches each,
          rows_long row (length (joined_names target.names source.names spec)) (λ p new said. row_as_long p.0 (matching remaining p.1) new said) (zip target.rows matches) rows made,
        )

    abbrev with_rows : List RowValues → Result TableContent TableWhy
    with_rows rows = Ok (record { names = joined_names target.names source.names spec; rows = rows })

    pub join_goes : (r : Result (List RowValues) TableWhy) → refused_items target.names source.names spec ≡ None → on_ok (candidates source spec.test) (calc_rows target source matches spec) ≡ r →
        join_matched target source matches spec ≡ on_ok r (λ (rows : List RowValues). Ok (record { names = joined_names target.names source.names spec; rows = rows }))
    join_goes r accepted told =
        ap (λ (o : Option TableWhy). unless o (on_ok (candidates source spec.test) (joined_table target source matches spec))) accepted
        ∙ go (candidates source spec.test) ∙ ap (λ (q : Result (List RowValues) TableWhy). on_ok q with_rows) told
      where
        go : (q : Result (List ℕ) TableWhy) → on_ok q (joined_table target source matches spec) ≡ on_ok (on_ok q (calc_rows target source matches spec)) with_rows
        go (Ok remaining) = refl
        go (Err why) = refl

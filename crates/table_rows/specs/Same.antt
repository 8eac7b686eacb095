-- Equality of values is decided by `same`.
use Rattle.std.proofs.Common.{◌≡◌, ℕ, List, Bool, true, false, ◌&&◌, refl, sym, ap, subst, ◌∙◌, true≢false}
use Rattle.std.specs.Bool.{Decides}
use Rattle.std.specs.Str.{bytes_eq}
use Rattle.std.specs.Cmp.{IsEquivalence, decided, booleans_Decides, signed_Decides, unsigned_Decides}
use Rattle.std.specs.Cmp.Lexicographic.{pointwise_decides}
use Rattle.json_values.specs.Json.{JsonValue, ItemList, FieldList, null, boolean, number, string, array, object, no_items, item, no_fields, field}
use Rattle.json_values.specs.Seen.{json_value}
use Rattle.json_values.specs.Value.{same, same_json, same_items, same_fields}
use Rattle.json_values.specs.declared.json.Json.{Json}
use Rattle.json_values.specs.declared.json.Json.TheVariants as json
use Rattle.json_values.specs.declared.value.Value.{Value}
use Rattle.json_values.specs.declared.value.Value.TheVariants as cell
use Rattle.json_values.specs.Table.{RowValues}
use Rattle.table_rows.specs.Keys.{same_values}

texts_decide : (s t : List ℕ) → Decides (bytes_eq s t) (s ≡ t)
texts_decide = pointwise_decides unsigned_Decides

first : (a b : Bool) → (a && b) ≡ true → a ≡ true
first true b e = refl
first false b e = absurd (true≢false (sym e))

second : (a b : Bool) → (a && b) ≡ true → b ≡ true
second true b e = e
second false b e = absurd (true≢false (sym e))

both : (a b : Bool) → a ≡ true → b ≡ true → (a && b) ≡ true
both a b e f = ap (λ (c : Bool). c && b) e ∙ f

-- ---- what is the same is equal

mutual
  json_same : (v w : JsonValue) → same_json v w ≡ true → v ≡ w
  json_same null null e = refl
  json_same null (boolean b1) e = absurd (true≢false (sym e))
  json_same null (number s1) e = absurd (true≢false (sym e))
  json_same null (string s1) e = absurd (true≢false (sym e))
  json_same null (array vs1) e = absurd (true≢false (sym e))
  json_same null (object fs1) e = absurd (true≢false (sym e))
  json_same (boolean b0) null e = absurd (true≢false (sym e))
  json_same (boolean b0) (boolean b1) e = ap boolean ((booleans_Decides b0 b1).0 e)
  json_same (boolean b0) (number s1) e = absurd (true≢false (sym e))
  json_same (boolean b0) (string s1) e = absurd (true≢false (sym e))
  json_same (boolean b0) (array vs1) e = absurd (true≢false (sym e))
  json_same (boolean b0) (object fs1) e = absurd (true≢false (sym e))
  json_same (number s0) null e = absurd (true≢false (sym e))
  json_same (number s0) (boolean b1) e = absurd (true≢false (sym e))
  json_same (number s0) (number s1) e = ap number ((texts_decide s0 s1).0 e)
  json_same (number s0) (string s1) e = absurd (true≢false (sym e))
  json_same (number s0) (array vs1) e = absurd (true≢false (sym e))
  json_same (number s0) (object fs1) e = absurd (true≢false (sym e))
  json_same (string s0) null e = absurd (true≢false (sym e))
  json_same (string s0) (boolean b1) e = absurd (true≢false (sym e))
  json_same (string s0) (number s1) e = absurd (true≢false (sym e))
  json_same (string s0) (string s1) e = ap string ((texts_decide s0 s1).0 e)
  json_same (string s0) (array vs1) e = absurd (true≢false (sym e))
  json_same (string s0) (object fs1) e = absurd (true≢false (sym e))
  json_same (array vs0) null e = absurd (true≢false (sym e))
  json_same (array vs0) (boolean b1) e = absurd (true≢false (sym e))
  json_same (array vs0) (number s1) e = absurd (true≢false (sym e))
  json_same (array vs0) (string s1) e = absurd (true≢false (sym e))
  json_same (array vs0) (array vs1) e = ap array (items_same vs0 vs1 e)
  json_same (array vs0) (object fs1) e = absurd (true≢false (sym e))
  json_same (object fs0) null e = absurd (true≢false (sym e))
  json_same (object fs0) (boolean b1) e = absurd (true≢false (sym e))
  json_same (object fs0) (number s1) e = absurd (true≢false (sym e))
  json_same (object fs0) (string s1) e = absurd (true≢false (sym e))
  json_same (object fs0) (array vs1) e = absurd (true≢false (sym e))
  json_same (object fs0) (object fs1) e = ap object (fields_same fs0 fs1 e)

  items_same : (vs ws : ItemList) → same_items vs ws ≡ true → vs ≡ ws
  items_same no_items no_items e = refl
  items_same no_items (item w ws) e = absurd (true≢false (sym e))
  items_same (item v vs) no_items e = absurd (true≢false (sym e))
  items_same (item v vs) (item w ws) e =
      let head : v ≡ w = json_same v w (first (same_json v w) (same_items vs ws) e) in
      let rest : vs ≡ ws = items_same vs ws (second (same_json v w) (same_items vs ws) e) in
      λ i. item (head i) (rest i)

  fields_same : (vs ws : FieldList) → same_fields vs ws ≡ true → vs ≡ ws
  fields_same no_fields no_fields e = refl
  fields_same no_fields (field n w ws) e = absurd (true≢false (sym e))
  fields_same (field m v vs) no_fields e = absurd (true≢false (sym e))
  fields_same (field m v vs) (field n w ws) e =
      let more : (same_json v w && same_fields vs ws) ≡ true = second (bytes_eq m n) (same_json v w && same_fields vs ws) e in
      let name : m ≡ n = (texts_decide m n).0 (first (bytes_eq m n) (same_json v w && same_fields vs ws) e) in
      let head : v ≡ w = json_same v w (first (same_json v w) (same_fields vs ws) more) in
      let rest : vs ≡ ws = fields_same vs ws (second (same_json v w) (same_fields vs ws) more) in
      λ i. field (name i) (head i) (rest i)

-- ---- each value is the same as itself

mutual
  json_itself : (v : JsonValue) → same_json v v ≡ true
  json_itself null = refl
  json_itself (boolean b) = (booleans_Decides b b).1 refl
  json_itself (number s) = (texts_decide s s).1 refl
  json_itself (string s) = (texts_decide s s).1 refl
  json_itself (array vs) = items_itself vs
  json_itself (object fs) = fields_itself fs

  items_itself : (vs : ItemList) → same_items vs vs ≡ true
  items_itself no_items = refl
  items_itself (item v vs) = both (same_json v v) (same_items vs vs) (json_itself v) (items_itself vs)

  fields_itself : (vs : FieldList) → same_fields vs vs ≡ true
  fields_itself no_fields = refl
  fields_itself (field n v vs) =
      both (bytes_eq n n) (same_json v v && same_fields vs vs) ((texts_decide n n).1 refl) (both (same_json v v) (same_fields vs vs) (json_itself v) (fields_itself vs))

-- the values that two trees stand for tell them apart
abbrev tree_of : JsonValue → Json
tree_of null = json.Null
tree_of (boolean b) = json.Bool b
tree_of (number s) = json.Num s
tree_of (string s) = json.Text s
tree_of (array vs) = json.List vs
tree_of (object fs) = json.Object fs

tree_again : (j : Json) → tree_of (json_value j) ≡ j
tree_again json.Null = refl
tree_again (json.Bool b) = refl
tree_again (json.Num s) = refl
tree_again (json.Text s) = refl
tree_again (json.List vs) = refl
tree_again (json.Object fs) = refl

trees_same : (j k : Json) → json_value j ≡ json_value k → j ≡ k
trees_same j k e = sym (tree_again j) ∙ ap tree_of e ∙ tree_again k

values_same : (v w : Value) → same v w ≡ true → v ≡ w
values_same cell.Null cell.Null e = refl
values_same cell.Null (cell.Bool b1) e = absurd (true≢false (sym e))
values_same cell.Null (cell.Num z1) e = absurd (true≢false (sym e))
values_same cell.Null (cell.Long s1) e = absurd (true≢false (sym e))
values_same cell.Null (cell.Text s1) e = absurd (true≢false (sym e))
values_same cell.Null (cell.Tree j1) e = absurd (true≢false (sym e))
values_same (cell.Bool b0) cell.Null e = absurd (true≢false (sym e))
values_same (cell.Bool b0) (cell.Bool b1) e = ap cell.Bool ((booleans_Decides b0 b1).0 e)
values_same (cell.Bool b0) (cell.Num z1) e = absurd (true≢false (sym e))
values_same (cell.Bool b0) (cell.Long s1) e = absurd (true≢false (sym e))
values_same (cell.Bool b0) (cell.Text s1) e = absurd (true≢false (sym e))
values_same (cell.Bool b0) (cell.Tree j1) e = absurd (true≢false (sym e))
values_same (cell.Num z0) cell.Null e = absurd (true≢false (sym e))
values_same (cell.Num z0) (cell.Bool b1) e = absurd (true≢false (sym e))
values_same (cell.Num z0) (cell.Num z1) e = ap cell.Num ((signed_Decides z0 z1).0 e)
values_same (cell.Num z0) (cell.Long s1) e = absurd (true≢false (sym e))
values_same (cell.Num z0) (cell.Text s1) e = absurd (true≢false (sym e))
values_same (cell.Num z0) (cell.Tree j1) e = absurd (true≢false (sym e))
values_same (cell.Long s0) cell.Null e = absurd (true≢false (sym e))
values_same (cell.Long s0) (cell.Bool b1) e = absurd (true≢false (sym e))
values_same (cell.Long s0) (cell.Num z1) e = absurd (true≢false (sym e))
values_same (cell.Long s0) (cell.Long s1) e = ap cell.Long ((texts_decide s0 s1).0 e)
values_same (cell.Long s0) (cell.Text s1) e = absurd (true≢false (sym e))
values_same (cell.Long s0) (cell.Tree j1) e = absurd (true≢false (sym e))
values_same (cell.Text s0) cell.Null e = absurd (true≢false (sym e))
values_same (cell.Text s0) (cell.Bool b1) e = absurd (true≢false (sym e))
values_same (cell.Text s0) (cell.Num z1) e = absurd (true≢false (sym e))
values_same (cell.Text s0) (cell.Long s1) e = absurd (true≢false (sym e))
values_same (cell.Text s0) (cell.Text s1) e = ap cell.Text ((texts_decide s0 s1).0 e)
values_same (cell.Text s0) (cell.Tree j1) e = absurd (true≢false (sym e))
values_same (cell.Tree j0) cell.Null e = absurd (true≢false (sym e))
values_same (cell.Tree j0) (cell.Bool b1) e = absurd (true≢false (sym e))
values_same (cell.Tree j0) (cell.Num z1) e = absurd (true≢false (sym e))
values_same (cell.Tree j0) (cell.Long s1) e = absurd (true≢false (sym e))
values_same (cell.Tree j0) (cell.Text s1) e = absurd (true≢false (sym e))
values_same (cell.Tree j0) (cell.Tree j1) e = ap cell.Tree (trees_same j0 j1 (json_same (json_value j0) (json_value j1) e))

itself : (v : Value) → same v v ≡ true
itself cell.Null = refl
itself (cell.Bool b) = (booleans_Decides b b).1 refl
itself (cell.Num z) = (signed_Decides z z).1 refl
itself (cell.Long s) = (texts_decide s s).1 refl
itself (cell.Text s) = (texts_decide s s).1 refl
itself (cell.Tree j) = json_itself (json_value j)

pub same_decides : (v w : Value) → Decides (same v w) (v ≡ w)
same_decides v w = (values_same v w, λ e. subst (λ (u : Value). same v u ≡ true) e (itself v))

pub same_equivalent : IsEquivalence same
same_equivalent = decided same same_decides

pub rows_decide : (xs ys : RowValues) → Decides (same_values xs ys) (xs ≡ ys)
rows_decide = pointwise_decides same_decides

pub rows_equivalent : IsEquivalence same_values
rows_equivalent = decided same_values rows_decide

-- A code of JSON values, as the logic asks of what a `Model` shows: a value as a list of marks, and back.
use Rattle.std.specs.Prelude.{ℕ, zero, suc, List, [], ◌∷◌, Bool, true, false, ◌≡◌, refl}
use Rattle.std.proofs.Common.{◌∙◌, ap}
use Rattle.std.specs.Coded.{Coded, code_by, coded×, coded_ℕ, coded_list}
use Rattle.json_values.specs.Json.{JsonValue, ItemList, FieldList, null, boolean, number, string, array, object, no_items, item, no_fields, field}

-- a mark is a kind and a text
abbrev pub Mark : Type 0
Mark = ℕ × List ℕ

abbrev pub truth : Bool → ℕ
truth false = 1
truth true = 2

-- the marks of a value, its parts first, in front of a rest
abbrev mutual
  pub marks : JsonValue → List Mark → List Mark
  marks null rest = (0, []) ∷ rest
  marks (boolean b) rest = (truth b, []) ∷ rest
  marks (number t) rest = (3, t) ∷ rest
  marks (string t) rest = (4, t) ∷ rest
  marks (array js) rest = items_marks js ((5, []) ∷ rest)
  marks (object fs) rest = fields_marks fs ((6, []) ∷ rest)

  pub items_marks : ItemList → List Mark → List Mark
  items_marks no_items rest = (7, []) ∷ rest
  items_marks (item v js) rest = marks v (items_marks js ((8, []) ∷ rest))

  pub fields_marks : FieldList → List Mark → List Mark
  fields_marks no_fields rest = (9, []) ∷ rest
  fields_marks (field name v fs) rest = marks v (fields_marks fs ((10, name) ∷ rest))

-- what was rebuilt so far, the newest first
pub record Built : Type 0 where
  pub values : List JsonValue
  pub items : List ItemList
  pub fields : List FieldList

abbrev pub first : {A : Type 0} → A → List A → A
first d [] = d
first d (x ∷ xs) = x

abbrev pub others : {A : Type 0} → List A → List A
others [] = []
others (x ∷ xs) = xs

abbrev pub with_value : JsonValue → Built → Built
with_value v b = record { values = v ∷ b.values; items = b.items; fields = b.fields }

-- what a mark of that kind makes of it
abbrev pub take_mark : ℕ → List ℕ → Built → Built
take_mark zero t b = with_value null b
take_mark (suc zero) t b = with_value (boolean false) b
take_mark (suc (suc zero)) t b = with_value (boolean true) b
take_mark (suc (suc (suc zero))) t b = with_value (number t) b
take_mark (suc (suc (suc (suc zero)))) t b = with_value (string t) b
take_mark (suc (suc (suc (suc (suc zero))))) t b = record { values = array (first no_items b.items) ∷ b.values; items = others b.items; fields = b.fields }
take_mark (suc (suc (suc (suc (suc (suc zero)))))) t b = record { values = object (first no_fields b.fields) ∷ b.values; items = b.items; fields = others b.fields }
take_mark (suc (suc (suc (suc (suc (suc (suc zero))))))) t b = record { values = b.values; items = no_items ∷ b.items; fields = b.fields }
take_mark (suc (suc (suc (suc (suc (suc (suc (suc zero)))))))) t b = record { values = others b.values; items = item (first null b.values) (first no_items b.items) ∷ others b.items; fields = b.fields }
take_mark (suc (suc (suc (suc (suc (suc (suc (suc (suc zero))))))))) t b = record { values = b.values; items = b.items; fields = no_fields ∷ b.fields }
take_mark (suc (suc (suc (suc (suc (suc (suc (suc (suc (suc k)))))))))) t b = record { values = others b.values; items = b.items; fields = field t (first null b.values) (first no_fields b.fields) ∷ others b.fields }

abbrev pub rebuilt : List Mark → Built → Built
rebuilt [] b = b
rebuilt (m ∷ ms) b = rebuilt ms (take_mark m.0 m.1 b)

-- the marks of a value rebuild it
mutual
  pub rebuilds : (v : JsonValue) (rest : List Mark) (b : Built) → rebuilt (marks v rest) b ≡ rebuilt rest (with_value v b)
  rebuilds null rest b = refl
  rebuilds (boolean false) rest b = refl
  rebuilds (boolean true) rest b = refl
  rebuilds (number t) rest b = refl
  rebuilds (string t) rest b = refl
  rebuilds (array js) rest b = rebuilds_items js ((5, []) ∷ rest) b
  rebuilds (object fs) rest b = rebuilds_fields fs ((6, []) ∷ rest) b

  pub rebuilds_items : (js : ItemList) (rest : List Mark) (b : Built) → rebuilt (items_marks js rest) b ≡ rebuilt rest (record { values = b.values; items = js ∷ b.items; fields = b.fields })
  rebuilds_items no_items rest b = refl
  rebuilds_items (item v js) rest b = rebuilds v (items_marks js ((8, []) ∷ rest)) b ∙ rebuilds_items js ((8, []) ∷ rest) (with_value v b)

  pub rebuilds_fields : (fs : FieldList) (rest : List Mark) (b : Built) → rebuilt (fields_marks fs rest) b ≡ rebuilt rest (record { values = b.values; items = b.items; fields = fs ∷ b.fields })
  rebuilds_fields no_fields rest b = refl
  rebuilds_fields (field name v fs) rest b = rebuilds v (fields_marks fs ((10, name) ∷ rest)) b ∙ rebuilds_fields fs ((10, name) ∷ rest) (with_value v b)

abbrev pub nothing : Built
nothing = record { values = []; items = []; fields = [] }

abbrev pub items_code : Coded ItemList
items_code = code_by (List Mark) (coded_list (coded× coded_ℕ (coded_list coded_ℕ))) (λ js. items_marks js []) (λ ms. first no_items (rebuilt ms nothing).items) (λ js. ap (λ b. first no_items b.items) (rebuilds_items js [] nothing))

abbrev pub fields_code : Coded FieldList
fields_code = code_by (List Mark) (coded_list (coded× coded_ℕ (coded_list coded_ℕ))) (λ fs. fields_marks fs []) (λ ms. first no_fields (rebuilt ms nothing).fields) (λ fs. ap (λ b. first no_fields b.fields) (rebuilds_fields fs [] nothing))

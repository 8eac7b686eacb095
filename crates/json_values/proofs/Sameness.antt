-- Comparing arrays and objects item by item.
use Rattle.std.proofs.Common.{ℕ, suc, ◌≡◌, ◌≢◌, List, [], ◌∷◌, Bool, true, false, ◌&&◌, refl, ap, sym, length}
use Rattle.std.specs.Str.{bytes_eq}
use Rattle.json_values.specs.Seen.{json_value, items_seen, fields_seen}
use Rattle.json_values.specs.Value.{same_json, same_items, same_fields}
use Rattle.json_values.specs.declared.json.Json.{Json}

and_false : (a b : Bool) → b ≡ false → (a && b) ≡ false
and_false true b e = e
and_false false b e = refl

-- of other lengths
pub items_differ : (xs ys : List Json) → length xs ≢ length ys → false ≡ same_items (items_seen xs) (items_seen ys)
items_differ [] [] n = absurd (n refl)
items_differ [] (y ∷ ys) n = refl
items_differ (x ∷ xs) [] n = refl
items_differ (x ∷ xs) (y ∷ ys) n =
    let rest : length xs ≢ length ys = λ e. n (ap suc e) in
    sym (and_false (same_json (json_value x) (json_value y)) (same_items (items_seen xs) (items_seen ys)) (sym (items_differ xs ys rest)))

pub fields_differ : (xs ys : List (List ℕ × Json)) → length xs ≢ length ys → false ≡ same_fields (fields_seen xs) (fields_seen ys)
fields_differ [] [] n = absurd (n refl)
fields_differ [] (y ∷ ys) n = refl
fields_differ (x ∷ xs) [] n = refl
fields_differ (x ∷ xs) (y ∷ ys) n =
    let rest : length xs ≢ length ys = λ e. n (ap suc e) in
    sym (and_false (bytes_eq x.0 y.0) (same_json (json_value x.1) (json_value y.1) && same_fields (fields_seen xs) (fields_seen ys)) (and_false (same_json (json_value x.1) (json_value y.1)) (same_fields (fields_seen xs) (fields_seen ys)) (sym (fields_differ xs ys rest))))

-- The values that lists and objects of the program show.
use Rattle.std.proofs.Common.{◌≡◌, ◌++◌, ◌∷◌, [], List, ℕ, refl, ap, sym, ◌∙◌, map, length, slice_get}
use Rattle.std.proofs.lemmas.List.{length-map, map-append}
use Rattle.std.proofs.lemmas.Option.{slice_get-map}
use Rattle.std.specs.Option.{option_map}
use Rattle.json_values.specs.Lists.{items_list, fields_list}
use Rattle.json_values.specs.Seen.{json_value, items_seen, fields_seen, members_seen}
use Rattle.json_values.specs.Json.{JsonValue, items_of, fields_of}
use Rattle.json_values.specs.declared.json.Json.{Json}

abbrev pub Member : Type 0
Member = List ℕ × JsonValue

-- a list shows the values of its items
items_list-items_of : (vs : List JsonValue) → items_list (items_of vs) ≡ vs
items_list-items_of [] = refl
items_list-items_of (v ∷ vs) = ap (λ (ws : List JsonValue). v ∷ ws) (items_list-items_of vs)

pub items_list-seen : (vs : List Json) → items_list (items_seen vs) ≡ map json_value vs
items_list-seen vs = items_list-items_of (map json_value vs)

pub items_list-pushed : (vs : List Json) (v : Json) → items_list (items_seen (vs ++ v ∷ [])) ≡ items_list (items_seen vs) ++ json_value v ∷ []
items_list-pushed vs v =
    items_list-seen (vs ++ v ∷ []) ∙ map-append json_value vs (v ∷ []) ∙ ap (λ (ws : List JsonValue). ws ++ json_value v ∷ []) (sym (items_list-seen vs))

pub length-items_seen : (vs : List Json) → length (items_list (items_seen vs)) ≡ length vs
length-items_seen vs = ap (λ (ws : List JsonValue). length ws) (items_list-seen vs) ∙ length-map vs json_value

pub slice_get-items_seen : (vs : List Json) (i : ℕ) → slice_get (items_list (items_seen vs)) i ≡ option_map json_value (slice_get vs i)
slice_get-items_seen vs i = ap (λ (ws : List JsonValue). slice_get ws i) (items_list-seen vs) ∙ slice_get-map json_value vs i

-- an object shows the names and the values of its fields
pub fields_list-fields_of : (fs : List Member) → fields_list (fields_of fs) ≡ fs
fields_list-fields_of [] = refl
fields_list-fields_of (f ∷ fs) = ap (λ (gs : List Member). f ∷ gs) (fields_list-fields_of fs)

pub fields_list-seen : (fs : List (List ℕ × Json)) → fields_list (fields_seen fs) ≡ members_seen fs
fields_list-seen fs = fields_list-fields_of (members_seen fs)

pub length-fields_seen : (fs : List (List ℕ × Json)) → length (fields_list (fields_seen fs)) ≡ length fs
length-fields_seen fs = ap (λ (gs : List Member). length gs) (fields_list-seen fs) ∙ length-map fs (λ (f : List ℕ × Json). (f.0, json_value f.1))

pub slice_get-fields_seen : (fs : List (List ℕ × Json)) (i : ℕ) → slice_get (fields_list (fields_seen fs)) i ≡ option_map (λ (f : List ℕ × Json). (f.0, json_value f.1)) (slice_get fs i)
slice_get-fields_seen fs i = ap (λ (gs : List Member). slice_get gs i) (fields_list-seen fs) ∙ slice_get-map {B = Member} (λ (f : List ℕ × Json). (f.0, json_value f.1)) fs i

-- Reading the items of a list in a loop.
use Rattle.std.proofs.Common.{◌≡◌, ℕ, suc, ◌+◌, ◌<◌, List, [], ◌∷◌, ◌++◌, length, take, drop, map, get_or, refl, sym, ap, ◌∙◌, subst, Result, Ok, Err}
use Rattle.std.proofs.lemmas.List.{take_more, map-append, take-append-drop}
use Rattle.std.proofs.Math.Seq.{drop-cons}
use Rattle.json_values.specs.Json.{JsonValue}
use Rattle.json_values.specs.Seen.{json_value}
use Rattle.json_values.specs.declared.json.Json.{Json}
use Rattle.geojson_io.specs.Reads.{Reads, on_ok, each, Answers}
use Rattle.geojson_io.specs.declared.fault.ShapeWhy.{ShapeWhy}
use Rattle.geojson_io.specs.declared.fault.Stop.{Stop}
use Rattle.geojson_io.specs.declared.fault.Stop.TheVariants.{Why, Memory}

-- what was read, put before what is read from there on
abbrev pub put_before : {E A : Type 0} → List A → List A × ℕ → Result (List A × ℕ) E
put_before vs q = Ok (vs ++ q.0, q.1)

-- the items ys, read after what was read already
abbrev pub then_each : {E A X : Type 0} → (X → Reads E A) → List X → List A × ℕ → Result (List A × ℕ) E
then_each read ys p = on_ok (each read ys p.1) (put_before p.0)

abbrev pub then_each_after : {E A X : Type 0} → (X → Reads E A) → List X → A × ℕ → Result (List A × ℕ) E
then_each_after read ys p = on_ok (each read ys p.1) (put_before (p.0 ∷ []))

-- two lists in a row
pub each-append : {E A X : Type 0} (read : X → Reads E A) (xs ys : List X) (room : ℕ) → each read (xs ++ ys) room ≡ on_ok (each read xs room) (then_each read ys)
each-append {E} {A} read [] ys room = same (each read ys room)
  where
    same : (r : Result (List A × ℕ) E) → r ≡ on_ok r (put_before [])
    same (Ok p) = refl
    same (Err e) = refl
each-append {E} {A} read (x ∷ xs) ys room = first (read x room) (λ n. each-append read xs ys n)
  where
    last : (v : A) (vs : List A) (r : Result (List A × ℕ) E) → on_ok (on_ok r (put_before vs)) (put_before (v ∷ [])) ≡ on_ok r (put_before (v ∷ vs))
    last v vs (Ok q) = refl
    last v vs (Err e) = refl

    second : (v : A) (r : Result (List A × ℕ) E) → on_ok (on_ok r (then_each read ys)) (put_before (v ∷ [])) ≡ on_ok (on_ok r (put_before (v ∷ []))) (then_each read ys)
    second v (Ok p) = last v p.0 (each read ys p.1)
    second v (Err e) = refl

    first : (r : Result (A × ℕ) E) → ((n : ℕ) → each read (xs ++ ys) n ≡ on_ok (each read xs n) (then_each read ys))
        → on_ok r (then_each_after read (xs ++ ys)) ≡ on_ok (on_ok r (then_each_after read xs)) (then_each read ys)
    first (Ok p) h = ap (λ (r : Result (List A × ℕ) E). on_ok r (put_before (p.0 ∷ []))) (h p.1) ∙ second p.0 (each read xs p.1)
    first (Err e) h = refl

-- one item more
pub each_more : {E A X : Type 0} (read : X → Reads E A) (xs : List X) (x : X) (room : ℕ) (vs : List A) (left : ℕ) (v : A) (after : ℕ)
    → each read xs room ≡ Ok (vs, left) → read x left ≡ Ok (v, after) → each read (xs ++ x ∷ []) room ≡ Ok (vs ++ v ∷ [], after)
each_more {E} {A} read xs x room vs left v after e f =
    each-append read xs (x ∷ []) room
    ∙ ap (λ (r : Result (List A × ℕ) E). on_ok r (then_each read (x ∷ []))) e
    ∙ ap (λ (r : Result (A × ℕ) E). on_ok (on_ok r (then_each_after read [])) (put_before vs)) f

-- an item that is refused
pub each_stops : {E A X : Type 0} (read : X → Reads E A) (xs : List X) (x : X) (ys : List X) (room : ℕ) (vs : List A) (left : ℕ) (why : E)
    → each read xs room ≡ Ok (vs, left) → read x left ≡ Err why → each read (xs ++ x ∷ ys) room ≡ Err why
each_stops {E} {A} read xs x ys room vs left why e f =
    each-append read xs (x ∷ ys) room
    ∙ ap (λ (r : Result (List A × ℕ) E). on_ok r (then_each read (x ∷ ys))) e
    ∙ ap (λ (r : Result (A × ℕ) E). on_ok (on_ok r (then_each_after read ys)) (put_before vs)) f

-- ---- the same, at the item with the number i of a slice

abbrev pub IsReadTo : {E A : Type 0} → (JsonValue → Reads E A) → List Json → ℕ → ℕ → List A → ℕ → Type 0
IsReadTo read items i room vs left = each read (map json_value (take i items)) room ≡ Ok (vs, left)

pub one_item_more : {E A : Type 0} (read : JsonValue → Reads E A) (items : List Json) (i : ℕ) (j : Json) (room : ℕ) (vs : List A) (left : ℕ) (v : A) (after : ℕ)
    → i < length items → j ≡ get_or items i j → IsReadTo read items i room vs left → read (json_value j) left ≡ Ok (v, after) → IsReadTo read items (i + 1) room (vs ++ v ∷ []) after
one_item_more read items i j room vs left v after l is e f =
    let more : take (i + 1) items ≡ take i items ++ j ∷ [] = take_more items i j l ∙ ap (λ (k : Json). take i items ++ k ∷ []) (sym is) in
    ap (λ (ks : List Json). each read (map json_value ks) room) more ∙ ap (λ (ks : List JsonValue). each read ks room) (map-append json_value (take i items) (j ∷ []))
    ∙ each_more read (map json_value (take i items)) (json_value j) room vs left v after e f

pub item_stops : {E A : Type 0} (read : JsonValue → Reads E A) (items : List Json) (i : ℕ) (j : Json) (room : ℕ) (vs : List A) (left : ℕ) (why : E)
    → i < length items → j ≡ get_or items i j → IsReadTo read items i room vs left → read (json_value j) left ≡ Err why → each read (map json_value items) room ≡ Err why
item_stops read items i j room vs left why l is e f =
    let all : items ≡ take i items ++ j ∷ drop (suc i) items =
    sym (take-append-drop i items) ∙ ap (λ (ks : List Json). take i items ++ ks) (drop-cons items i j l ∙ ap (λ (k : Json). k ∷ drop (suc i) items) (sym is)) in
    ap (λ (ks : List Json). each read (map json_value ks) room) all ∙ ap (λ (ks : List JsonValue). each read ks room) (map-append json_value (take i items) (j ∷ drop (suc i) items))
    ∙ each_stops read (map json_value (take i items)) (json_value j) (map json_value (drop (suc i) items)) room vs left why e f

-- ---- answers of parts that stop

-- a part passes on why an inner part stopped
pub passes_on : {A B : Type 0} (outer : Reads ShapeWhy A) (inner : Reads ShapeWhy B) (room old : ℕ) (r : Result A Stop) (stop : Stop) (mid new : ℕ)
    → r ≡ Err stop → Answers inner old (Err stop) mid → ((why : ShapeWhy) → inner old ≡ Err why → outer room ≡ Err why) → Answers outer room r new
passes_on {A} outer inner room old r (Why why) mid new is e on = subst (λ (s : Result A Stop). Answers outer room s new) (sym is) (on why e)
passes_on {A} outer inner room old r Memory mid new is e on = subst (λ (s : Result A Stop). Answers outer room s new) (sym is) tt

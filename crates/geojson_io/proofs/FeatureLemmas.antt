-- Reading the members of a collection in a loop, with their numbers.
use Rattle.std.proofs.Common.{◌≡◌, ℕ, suc, ◌+◌, ◌<◌, ◌≤◌, List, [], ◌∷◌, ◌++◌, length, take, drop, map, get_or, sym, ap, ◌∙◌, subst, arith, Result, Ok, Err}
use Rattle.std.specs.List.{enumerate_from}
use Rattle.std.proofs.lemmas.List.{take_more, take_all, map-append, take-append-drop, length-map, length-take-le}
use Rattle.std.proofs.Math.Seq.{drop-cons}
use Rattle.json_values.specs.Json.{JsonValue}
use Rattle.json_values.specs.Seen.{json_value}
use Rattle.json_values.specs.declared.json.Json.{Json}
use Rattle.std.specs.Prelude.{IfErr}
use Rattle.geojson_io.specs.Reads.{Reads, Fault, IsFault, each}
use Rattle.geojson_io.specs.declared.fault.ShapeFault.{ShapeFault}
use Rattle.geojson_io.specs.declared.fault.ShapeFault.TheVariants.{Bad}
use Rattle.geojson_io.specs.declared.fault.ShapeFault.TheVariants as shape
use Rattle.geojson_io.proofs.ReadLemmas.{each_more, each_stops}

pub enumerate_from-append : {A : Type 0} (n : ℕ) (xs ys : List A) → enumerate_from n (xs ++ ys) ≡ enumerate_from n xs ++ enumerate_from (n + length xs) ys
enumerate_from-append n [] ys = ap (λ (m : ℕ). enumerate_from m ys) (let e : n ≡ n + 0 = omega arith in e)
enumerate_from-append {A} n (x ∷ xs) ys =
    ap (λ (ps : List (ℕ × A)). (n, x) ∷ ps) (enumerate_from-append (n + 1) xs ys
    ∙ ap (λ (m : ℕ). enumerate_from (n + 1) xs ++ enumerate_from m ys) (let e : (n + 1) + length xs ≡ n + length (x ∷ xs) = omega arith in e))

-- the first n items are read with their numbers
abbrev pub IsNumberedTo : {E A : Type 0} → (ℕ × JsonValue → Reads E A) → List Json → ℕ → ℕ → List A → ℕ → Type 0
IsNumberedTo read items n room vs left = each read (enumerate_from 0 (map json_value (take n items))) room ≡ Ok (vs, left)

-- an item with its number, after those before it
numbers_to : (items : List Json) (n : ℕ) (j : Json) (js : List Json) → n < length items → enumerate_from 0 (map json_value (take n items ++ j ∷ js)) ≡ enumerate_from 0 (map json_value (take n items)) ++ (n, json_value j) ∷ enumerate_from (n + 1) (map json_value js)
numbers_to items n j js l =
    let count : length (map json_value (take n items)) ≡ n = length-map (take n items) json_value ∙ length-take-le n items (omega arith) in
    ap (enumerate_from 0) (map-append json_value (take n items) (j ∷ js))
    ∙ enumerate_from-append 0 (map json_value (take n items)) (map json_value (j ∷ js))
    ∙ ap (λ (m : ℕ). enumerate_from 0 (map json_value (take n items)) ++ enumerate_from m (map json_value (j ∷ js))) (let e : 0 + length (map json_value (take n items)) ≡ n = omega (arith, count) in e)

pub one_member_more : {E A : Type 0} (read : ℕ × JsonValue → Reads E A) (items : List Json) (n : ℕ) (j : Json) (room : ℕ) (vs : List A) (left : ℕ) (v : A) (after : ℕ)
    → n < length items → j ≡ get_or items n j → IsNumberedTo read items n room vs left → read (n, json_value j) left ≡ Ok (v, after) → IsNumberedTo read items (n + 1) room (vs ++ v ∷ []) after
one_member_more read items n j room vs left v after l is e f =
    let more : take (n + 1) items ≡ take n items ++ j ∷ [] = take_more items n j l ∙ ap (λ (k : Json). take n items ++ k ∷ []) (sym is) in
    ap (λ (ks : List Json). each read (enumerate_from 0 (map json_value ks)) room) more
    ∙ ap (λ (ps : List (ℕ × JsonValue)). each read ps room) (numbers_to items n j [] l)
    ∙ each_more read (enumerate_from 0 (map json_value (take n items))) (n, json_value j) room vs left v after e f

pub member_stops : {E A : Type 0} (read : ℕ × JsonValue → Reads E A) (items : List Json) (n : ℕ) (j : Json) (room : ℕ) (vs : List A) (left : ℕ) (why : E)
    → n < length items → j ≡ get_or items n j → IsNumberedTo read items n room vs left → read (n, json_value j) left ≡ Err why → each read (enumerate_from 0 (map json_value items)) room ≡ Err why
member_stops read items n j room vs left why l is e f =
    let all : items ≡ take n items ++ j ∷ drop (suc n) items =
    sym (take-append-drop n items) ∙ ap (λ (ks : List Json). take n items ++ ks) (drop-cons items n j l ∙ ap (λ (k : Json). k ∷ drop (suc n) items) (sym is)) in
    ap (λ (ks : List Json). each read (enumerate_from 0 (map json_value ks)) room) all
    ∙ ap (λ (ps : List (ℕ × JsonValue)). each read ps room) (numbers_to items n j (drop (suc n) items) l)
    ∙ each_stops read (enumerate_from 0 (map json_value (take n items))) (n, json_value j) (enumerate_from (n + 1) (map json_value (drop (suc n) items))) room vs left why e f

pub all_members : {E A : Type 0} (read : ℕ × JsonValue → Reads E A) (items : List Json) (n room : ℕ) (vs : List A) (left : ℕ) → length items ≤ n → IsNumberedTo read items n room vs left → each read (enumerate_from 0 (map json_value items)) room ≡ Ok (vs, left)
all_members read items n room vs left l r = sym (ap (λ (ks : List Json). each read (enumerate_from 0 (map json_value ks)) room) (take_all n items l)) ∙ r

-- a part passes on the fault of an inner part
pub fault_passes_on : {A B T : Type 0} (outer : Result A Fault) (inner : Result B Fault) (r : Result T ShapeFault) (e : ShapeFault)
    → r ≡ Err e → IsFault inner e → ((f : Fault) → inner ≡ Err f → outer ≡ Err f) → IfErr r (IsFault outer)
fault_passes_on {A} {B} {T} outer inner r (Bad why n) is h on = let f : Fault = (why, n) in subst (λ (s : Result T ShapeFault). IfErr s (IsFault outer)) (sym is) (on f h)
fault_passes_on {A} {B} {T} outer inner r shape.Memory is h on = subst (λ (s : Result T ShapeFault). IfErr s (IsFault outer)) (sym is) tt

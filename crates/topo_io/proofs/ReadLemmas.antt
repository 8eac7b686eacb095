-- Reading the items of a list in a loop, and passing faults on.
use Rattle.std.proofs.Common.{◌≡◌, ℕ, ◌+◌, ◌<◌, ◌≤◌, Bool, List, [], ◌∷◌, ◌++◌, length, take, drop, map, filter, get_or, append_assoc, append-nil, refl, sym, ap, ◌∙◌, subst, Result, Ok, Err}
use Rattle.std.specs.Prelude.{IfErr}
use Rattle.std.proofs.lemmas.List.{take_all}
use Rattle.std.proofs.lemmas.List.Elements.{filter-append}
use Rattle.std.proofs.Math.ListN.{drop_of_length-le}
use Rattle.json_values.specs.Json.{JsonValue}
use Rattle.json_values.specs.Seen.{json_value}
use Rattle.json_values.specs.declared.json.Json.{Json}
use Rattle.geojson_io.specs.Reads.{Reads, on_ok, each}
use Rattle.geojson_io.proofs.ReadLemmas.{IsReadTo, one_item_more, item_stops}
use Rattle.topo_io.specs.Reads.{Answers, AnswersAt, AnswersPlain, Fault, IsFault, along, stopped_at}
use Rattle.topo_io.specs.Stitching.{each_kept}
use Rattle.topo_io.specs.declared.fault.Stop.{Stop}
use Rattle.topo_io.specs.declared.fault.Stop.TheVariants.{Why, Memory}
use Rattle.topo_io.specs.declared.fault.TopoFault.{TopoFault}
use Rattle.topo_io.specs.declared.fault.TopoFault.TheVariants.{Bad}
use Rattle.topo_io.specs.declared.fault.TopoFault.TheVariants as topo
use Rattle.topo_io.specs.declared.fault.TopoPlace.{TopoPlace}
use Rattle.topo_io.specs.declared.fault.TopoWhy.{TopoWhy}
use Rattle.topo_io.proofs.MarkLemmas.{left_after}

-- ## Items with what goes on from each to the next

-- what was read, put before what is read from there on
abbrev pub put_first : {E A : Type 0} → List A → Result (List A) E → Result (List A) E
put_first vs r = on_ok r (λ ws. Ok (vs ++ ws))

-- after the first i items
abbrev pub IsAlongTo : {E A S : Type 0} → (JsonValue → S → Result (A × S) E) → List Json → S → ℕ → List A → S → Type 0
IsAlongTo read items start i vs s = along read (map json_value items) start ≡ put_first vs (along read (map json_value (drop i items)) s)

pub along_none : {E A S : Type 0} (read : JsonValue → S → Result (A × S) E) (items : List Json) (start : S) → IsAlongTo read items start 0 [] start
along_none {E} {A} read items start = same (along read (map json_value items) start)
  where
    same : (r : Result (List A) E) → r ≡ put_first [] r
    same (Ok vs) = refl
    same (Err e) = refl

along_step : {E A S : Type 0} (read : JsonValue → S → Result (A × S) E) (j : Json) (js : List Json) (s : S) (r : Result (A × S) E) → read (json_value j) s ≡ r
    → along read (map json_value (j ∷ js)) s ≡ on_ok r (λ p. on_ok (along read (map json_value js) p.1) (λ ws. Ok (p.0 ∷ ws)))
along_step read j js s r e = ap (λ q. on_ok q (λ p. on_ok (along read (map json_value js) p.1) (λ ws. Ok (p.0 ∷ ws)))) e

pub along_more : {E A S : Type 0} (read : JsonValue → S → Result (A × S) E) (items : List Json) (start : S) (i : ℕ) (vs : List A) (s : S) (j : Json) (p : A × S)
    → i < length items → j ≡ get_or items i j → IsAlongTo read items start i vs s → read (json_value j) s ≡ Ok p → IsAlongTo read items start (i + 1) (vs ++ p.0 ∷ []) p.1
along_more {E} {A} read items start i vs s j p l is h e =
    h ∙ ap (λ (js : List Json). put_first vs (along read (map json_value js) s)) (left_after items i j l is)
    ∙ ap (put_first vs) (along_step read j (drop (i + 1) items) s (Ok p) e)
    ∙ past (along read (map json_value (drop (i + 1) items)) p.1)
  where
    past : (r : Result (List A) E) → put_first vs (on_ok r (λ ws. Ok (p.0 ∷ ws))) ≡ put_first (vs ++ p.0 ∷ []) r
    past (Ok ws) = ap Ok (sym (append_assoc vs (p.0 ∷ []) ws))
    past (Err e) = refl

pub along_stops : {E A S : Type 0} (read : JsonValue → S → Result (A × S) E) (items : List Json) (start : S) (i : ℕ) (vs : List A) (s : S) (j : Json) (why : E)
    → i < length items → j ≡ get_or items i j → IsAlongTo read items start i vs s → read (json_value j) s ≡ Err why → along read (map json_value items) start ≡ Err why
along_stops read items start i vs s j why l is h e =
    h ∙ ap (λ (js : List Json). put_first vs (along read (map json_value js) s)) (left_after items i j l is)
    ∙ ap (put_first vs) (along_step read j (drop (i + 1) items) s (Err why) e)

pub along_all : {E A S : Type 0} (read : JsonValue → S → Result (A × S) E) (items : List Json) (start : S) (i : ℕ) (vs : List A) (s : S)
    → length items ≤ i → IsAlongTo read items start i vs s → along read (map json_value items) start ≡ Ok vs
along_all read items start i vs s l h =
    h ∙ ap (λ (js : List Json). put_first vs (along read (map json_value js) s)) (drop_of_length-le items l) ∙ ap Ok (append-nil vs)

-- ## Lists of which what is empty is dropped

-- the first i items are read, and what is kept of them is this
pub record IsKeptTo {A : Type 0} (keeps : A → Bool) (read : JsonValue → Reads TopoWhy A) (items : List Json) (i room : ℕ) (kept : List A) (left : ℕ) : Type 0 where
  pub all : List A
  pub is_read : IsReadTo read items i room all left
  pub are_kept : kept ≡ filter keeps all

pub none_kept : {A : Type 0} (keeps : A → Bool) (read : JsonValue → Reads TopoWhy A) (items : List Json) (room : ℕ) → IsKeptTo keeps read items 0 room [] room
none_kept keeps read items room = record { all = []; is_read = refl; are_kept = refl }

pub one_kept_more : {A : Type 0} (keeps : A → Bool) (read : JsonValue → Reads TopoWhy A) (items : List Json) (i : ℕ) (j : Json) (room : ℕ) (kept now : List A) (left : ℕ) (v : A) (after : ℕ)
    → i < length items → j ≡ get_or items i j → IsKeptTo keeps read items i room kept left → read (json_value j) left ≡ Ok (v, after)
    → now ≡ kept ++ filter keeps (v ∷ []) → IsKeptTo keeps read items (i + 1) room now after
one_kept_more {A} keeps read items i j room kept now left v after l is before e grown = record {
  all = before.all ++ v ∷ [];
  is_read = one_item_more read items i j room before.all left v after l is before.is_read e;
  are_kept = grown ∙ ap (λ (ps : List A). ps ++ filter keeps (v ∷ [])) before.are_kept ∙ sym (filter-append keeps before.all (v ∷ []));
}

pub kept_stops : {A : Type 0} (keeps : A → Bool) (read : JsonValue → Reads TopoWhy A) (items : List Json) (i : ℕ) (j : Json) (room : ℕ) (kept : List A) (left : ℕ) (why : TopoWhy)
    → i < length items → j ≡ get_or items i j → IsKeptTo keeps read items i room kept left → read (json_value j) left ≡ Err why → each_kept keeps read (map json_value items) room ≡ Err why
kept_stops {A} keeps read items i j room kept left why l is before e =
    ap (λ (r : Result (List A × ℕ) TopoWhy). on_ok r (λ (p : List A × ℕ). let q : List A × ℕ = (filter keeps p.0, p.1) in Ok q)) (item_stops read items i j room before.all left why l is before.is_read e)

pub all_kept : {A : Type 0} (keeps : A → Bool) (read : JsonValue → Reads TopoWhy A) (items : List Json) (i room : ℕ) (kept : List A) (left : ℕ) → length items ≤ i → IsKeptTo keeps read items i room kept left
    → each_kept keeps read (map json_value items) room ≡ Ok (kept, left)
all_kept {A} keeps read items i room kept left n r =
    let whole : take i items ≡ items = take_all i items n in
    ap (λ (r : Result (List A × ℕ) TopoWhy). on_ok r (λ (p : List A × ℕ). let q : List A × ℕ = (filter keeps p.0, p.1) in Ok q)) (sym (ap (λ (ks : List Json). each read (map json_value ks) room) whole) ∙ r.is_read)
    ∙ ap (λ (ps : List A). let q : List A × ℕ = (ps, left) in Ok q) (sym r.are_kept)

-- ## Faults

-- a part passes on why an inner part stopped
pub passes_on : {A B : Type 0} (outer : Reads TopoWhy A) (inner : Reads TopoWhy B) (room old : ℕ) (r : Result A Stop) (stop : Stop) (mid new : ℕ)
    → r ≡ Err stop → Answers inner old (Err stop) mid → ((why : TopoWhy) → inner old ≡ Err why → outer room ≡ Err why) → Answers outer room r new
passes_on {A} outer inner room old r (Why why) mid new is e on = subst (λ (s : Result A Stop). Answers outer room s new) (sym is) (on why e)
passes_on {A} outer inner room old r Memory mid new is e on = subst (λ (s : Result A Stop). Answers outer room s new) (sym is) tt

-- the same with the place of the fault
pub fault_passes_on : {A B : Type 0} (outer : Result A Fault) (inner : Result B Fault) (e : TopoFault) → IsFault inner e → ((f : Fault) → inner ≡ Err f → outer ≡ Err f) → IsFault outer e
fault_passes_on outer inner (Bad why place) h on = let f : Fault = (why, place) in on f h
fault_passes_on outer inner topo.Memory h on = tt

-- the fault of what a part passes on
pub err_fault : {A T : Type 0} (read : Result A Fault) (r : Result T TopoFault) (e : TopoFault) → r ≡ Err e → IsFault read e → IfErr r (IsFault read)
err_fault {A} {T} read r e is h = subst (λ (s : Result T TopoFault). IfErr s (IsFault read)) (sym is) h

-- a part that stops at a place
pub stops_at : {A B : Type 0} (outer : Result A Fault) (inner : Result B TopoWhy) (place : TopoPlace) (stop : Stop) (fault : TopoFault)
    → AnswersPlain inner (Err stop) → fault ≡ stopped_at place stop → ((why : TopoWhy) → inner ≡ Err why → outer ≡ Err (why, place)) → IsFault outer fault
stops_at outer inner place (Why why) fault e is on = subst (λ (f : TopoFault). IsFault outer f) (sym is) (on why e)
stops_at outer inner place Memory fault e is on = subst (λ (f : TopoFault). IsFault outer f) (sym is) tt

pub at_fault : {A : Type 0} (read : Result A Fault) (r : Result A TopoFault) (e : TopoFault) → r ≡ Err e → IsFault read e → AnswersAt read r
at_fault {A} read r e is h = subst (λ (s : Result A TopoFault). AnswersAt read s) (sym is) h

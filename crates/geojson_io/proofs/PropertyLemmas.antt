-- Properties, one after another: their names are distinct, so each is new.
use Rattle.std.proofs.Common.{◌≡◌, ℕ, zero, suc, ◌+◌, ◌<◌, ◌||◌, Bool, true, false, List, [], ◌∷◌, ◌++◌, length, take, map, get_or, refl, sym, ap, ◌∙◌, subst, arith, Option}
use Rattle.std.specs.Prelude.{MatchOption, ⊤, slice_get}
use Rattle.std.specs.Str.{bytes_eq}
use Rattle.std.specs.List.{IsDistinct, list_any}
use Rattle.std.proofs.lemmas.Bool.{false≢true}
use Rattle.std.proofs.lemmas.Slice.Eq.{bytes_eq-Decides}
use Rattle.std.proofs.lemmas.List.{take_more, map-append, length-map}
use Rattle.std.proofs.Math.ListN.{get_or-map}
use Rattle.std.proofs.lemmas.List.Elements.{All-from_recursion}
use Rattle.std.proofs.lemmas.Option.{slice_get-get_or}
use Rattle.json_values.specs.Json.{JsonValue}
use Rattle.json_values.specs.Lists.{HaveDistinctNames}
use Rattle.json_values.specs.Table.{NamedValues, IsNewName}
use Rattle.json_values.specs.declared.value.Value.{Value}
use Rattle.geojson_io.specs.Features.{property}

abbrev Member : Type 0
Member = List ℕ × JsonValue

differs_both_ways : (a b : List ℕ) → bytes_eq a b ≡ false → bytes_eq b a ≡ false
differs_both_ways a b h = go (bytes_eq b a) refl
  where
    go : (r : Bool) → bytes_eq b a ≡ r → bytes_eq b a ≡ false
    go true e = absurd (false≢true (sym h ∙ (bytes_eq-Decides a b).1 (sym ((bytes_eq-Decides b a).0 e))))
    go false e = e

-- the name of a member is none of those before it
differs : (ms : List Member) (i : ℕ) (m : Member) → i < length ms → HaveDistinctNames ms → m ≡ get_or ms i m → IsNewName m.0 (map property (take i ms))
unfolding IsDistinct
differs [] i m l d e = absurd (omega arith)
differs (k ∷ ms) zero m l d e = refl
differs (k ∷ ms) (suc i) m l d e =
    let within : i < length ms = omega arith in
    let name : get_or (map (λ (f : Member). f.0) ms) i m.0 ≡ m.0 = get_or-map (λ (f : Member). f.0) ms i m ∙ ap (λ (f : Member). f.0) (sym e) in
    let other : bytes_eq k.0 (get_or (map (λ (f : Member). f.0) ms) i m.0) ≡ false =
    All-from_recursion (λ (y : List ℕ). bytes_eq k.0 y ≡ false) (map (λ (f : Member). f.0) ms) d.0 i m.0 (omega (arith, length-map ms (λ (f : Member). f.0))) in
    ap (λ (b : Bool). b || list_any (bytes_eq m.0) (map (λ (f : List ℕ × Value). f.0) (map property (take i ms)))) (differs_both_ways k.0 m.0 (sym (ap (bytes_eq k.0) name) ∙ other)) ∙ differs ms i m within d.1 e

get_or_same : (xs : List Member) (i : ℕ) (d e : Member) → i < length xs → get_or xs i d ≡ get_or xs i e
get_or_same [] i d e l = absurd (omega arith)
get_or_same (x ∷ xs) zero d e l = refl
get_or_same (x ∷ xs) (suc i) d e l = get_or_same xs i d e (omega arith)

pub next_is_new : (ms : List Member) (i : ℕ) (fs : NamedValues) → i < length ms → HaveDistinctNames ms → fs ≡ map property (take i ms)
    → MatchOption (slice_get ms i) ⊤ (λ (f : Member). IsNewName f.0 fs)
next_is_new [] i fs l d e = absurd (omega arith)
next_is_new (k ∷ ms) i fs l d e =
    let m : Member = get_or (k ∷ ms) i k in
    subst (λ (o : Option Member). MatchOption o ⊤ (λ (f : Member). IsNewName f.0 fs)) (sym (slice_get-get_or (k ∷ ms) i k l))
    (subst (λ (gs : NamedValues). IsNewName m.0 gs) (sym e) (differs (k ∷ ms) i m l d (get_or_same (k ∷ ms) i k m l)))

pub one_property_more : (ms : List Member) (i : ℕ) (fs now : NamedValues) → i < length ms → fs ≡ map property (take i ms)
    → MatchOption (slice_get ms i) ⊤ (λ (f : Member). now ≡ fs ++ property f ∷ []) → now ≡ map property (take (i + 1) ms)
one_property_more [] i fs now l e h = absurd (omega arith)
one_property_more (k ∷ ms) i fs now l e h =
    let m : Member = get_or (k ∷ ms) i k in
    let put : now ≡ fs ++ property m ∷ [] = subst (λ (o : Option Member). MatchOption o ⊤ (λ (f : Member). now ≡ fs ++ property f ∷ [])) (slice_get-get_or (k ∷ ms) i k l) h in
    put ∙ ap (λ (gs : NamedValues). gs ++ property m ∷ []) e
    ∙ sym (map-append property (take i (k ∷ ms)) (m ∷ [])) ∙ sym (ap (map property) (take_more (k ∷ ms) i k l))

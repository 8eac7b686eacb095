-- Where a field is put.
use Rattle.std.proofs.Common.{ℕ, zero, suc, ◌≡◌, ◌+◌, ◌++◌, ◌<◌, List, [], ◌∷◌, Bool, true, false, refl, ap, ◌∙◌, sym, subst, length, arith, get_or, set, map, ◌||◌, true≢false, Option, Some, None, ◌⊎◌, inl, inr, ⊎_elim}
use Rattle.std.proofs.lemmas.Bool.{cases_lt}
use Rattle.std.proofs.lemmas.List.{map-set, get_or-map, length-map, map-append}
use Rattle.std.specs.Str.{bytes_eq}
use Rattle.std.specs.List.{IsDistinct, list_any}
use Rattle.std.proofs.lemmas.Cmp.{nat_list_eq_equiv}
use Rattle.std.proofs.lemmas.Map.Keys.{IsDistinct-push}
use Rattle.std.proofs.lemmas.Slice.Eq.{bytes_eq-Decides}
use Rattle.std.proofs.lemmas.Option.{slice_get-get_or}
use Rattle.std.specs.Option.{option_map}
use Rattle.json_values.specs.Lists.{HaveDistinctNames, value_named}
use Rattle.json_values.specs.Lists.{put, fields_list}
use Rattle.json_values.specs.Putting.{PutsLast, PutsAt, HasValueAt}
use Rattle.json_values.specs.Seen.{json_value, members_seen, fields_seen}
use Rattle.json_values.specs.Json.{JsonValue, FieldList}
use Rattle.json_values.specs.declared.json.Json.{Json}
use Rattle.json_values.proofs.Seen.{Member, fields_list-fields_of}

-- the first n names are others
abbrev pub Differs : List Member → List ℕ → ℕ → Type 0
Differs fs name n = (k : ℕ) (d : Member) → k < n → bytes_eq (get_or fs k d).0 name ≡ false

pub put_on : (f : Member) (fs : List Member) (name : List ℕ) (v : JsonValue) → bytes_eq f.0 name ≡ false → put (f ∷ fs) name v ≡ f ∷ put fs name v
put_on f fs name v e = ap (λ (t : Bool). (elim t as (λ _. List Member) [ true ↦ (name, v) ∷ fs | false ↦ f ∷ put fs name v ])) e

pub put_here : (f : Member) (fs : List Member) (name : List ℕ) (v : JsonValue) → bytes_eq f.0 name ≡ true → put (f ∷ fs) name v ≡ (name, v) ∷ fs
put_here f fs name v e = ap (λ (t : Bool). (elim t as (λ _. List Member) [ true ↦ (name, v) ∷ fs | false ↦ f ∷ put fs name v ])) e

pub put_last : (name : List ℕ) (fs : List Member) → Differs fs name (length fs) → PutsLast fs name
put_last name [] h v = refl
put_last name (f ∷ fs) h v =
    put_on f fs name v (h 0 f (omega arith)) ∙ ap (λ (gs : List Member). f ∷ gs) (put_last name fs (λ k d l. h (suc k) d (omega arith)) v)

pub put_at_place : (name : List ℕ) (v : JsonValue) (fs : List Member) (i : ℕ) (d : Member) → i < length fs → Differs fs name i → bytes_eq (get_or fs i d).0 name ≡ true → put fs name v ≡ set fs i (name, v)
put_at_place name v [] i d l h e = absurd (omega arith)
put_at_place name v (f ∷ fs) zero d l h e = put_here f fs name v e
put_at_place name v (f ∷ fs) (suc i) d l h e =
    put_on f fs name v (h 0 f (omega arith)) ∙ ap (λ (gs : List Member). f ∷ gs) (put_at_place name v fs i d (omega arith) (λ k c m. h (suc k) c (omega arith)) e)

-- the name at a place of the program's fields
name_at : (fs : List (List ℕ × Json)) (i : ℕ) (f : List ℕ × Json) (d : Member) → i < length fs → f ≡ get_or fs i f → (get_or (members_seen fs) i d).0 ≡ f.0
name_at fs i f d l e = ap (λ (m : Member). m.0) (get_or-map (λ (g : List ℕ × Json). (g.0, json_value g.1)) fs i f d l) ∙ ap (λ (g : List ℕ × Json). g.0) (sym e)

pub puts_at : (fs : List (List ℕ × Json)) (name : List ℕ) (i : ℕ) (f : List ℕ × Json) → i < length fs → f ≡ get_or fs i f → Differs (members_seen fs) name i → bytes_eq f.0 name ≡ true → PutsAt (members_seen fs) name i
puts_at fs name i f l e h t =
    let d : Member = (f.0, json_value f.1) in
    let n : i < length (members_seen fs) = omega (arith, length-map {B = Member} fs (λ (g : List ℕ × Json). (g.0, json_value g.1))) in
    (n, λ v. put_at_place name v (members_seen fs) i d n h (ap (λ (x : List ℕ). bytes_eq x name) (name_at fs i f d l e) ∙ t))

k_case : (k i : ℕ) → k < i + 1 → (k ≡ i) ⊎ (k < i)
k_case k i m = ⊎_elim (λ l. inr l) (λ g. inl (omega arith)) (cases_lt k i)

pub differs_more : (fs : List (List ℕ × Json)) (name : List ℕ) (i : ℕ) (f : List ℕ × Json) → i < length fs → f ≡ get_or fs i f → Differs (members_seen fs) name i → bytes_eq f.0 name ≡ false → Differs (members_seen fs) name (i + 1)
differs_more fs name i f l e h t k d m = go (k_case k i m)
  where
    go : (k ≡ i) ⊎ (k < i) → bytes_eq (get_or (members_seen fs) k d).0 name ≡ false
    go (inl s) = subst (λ (j : ℕ). bytes_eq (get_or (members_seen fs) j d).0 name ≡ false) (sym s) (ap (λ (x : List ℕ). bytes_eq x name) (name_at fs i f d l e) ∙ t)
    go (inr s) = h k d s

pub differs_all : (fs : List (List ℕ × Json)) (name : List ℕ) (i : ℕ) → i ≡ length fs → Differs (members_seen fs) name i → PutsLast (members_seen fs) name
differs_all fs name i e h = put_last name (members_seen fs) (λ k d l. h k d (omega (arith, length-map {B = Member} fs (λ (g : List ℕ × Json). (g.0, json_value g.1)))))

-- the fields after a write and after a push
pub written : (fs : List (List ℕ × Json)) (name : List ℕ) (j : Json) (i : ℕ) → PutsAt (members_seen fs) name i → fields_list (fields_seen (set fs i (name, j))) ≡ put (fields_list (fields_seen fs)) name (json_value j)
written fs name j i h =
    fields_list-fields_of (members_seen (set fs i (name, j))) ∙ map-set (λ (g : List ℕ × Json). (g.0, json_value g.1)) fs i (name, j) ∙ sym (h.1 (json_value j)) ∙ ap (λ (gs : List Member). put gs name (json_value j)) (sym (fields_list-fields_of (members_seen fs)))

pub pushed : (fs : List (List ℕ × Json)) (name : List ℕ) (j : Json) → PutsLast (members_seen fs) name → fields_list (fields_seen (fs ++ (name, j) ∷ [])) ≡ put (fields_list (fields_seen fs)) name (json_value j)
pushed fs name j h =
    fields_list-fields_of (members_seen (fs ++ (name, j) ∷ [])) ∙ map-append (λ (g : List ℕ × Json). (g.0, json_value g.1)) fs ((name, j) ∷ []) ∙ sym (h (json_value j)) ∙ ap (λ (gs : List Member). put gs name (json_value j)) (sym (fields_list-fields_of (members_seen fs)))

-- ## Distinct names

abbrev pub names : List Member → List (List ℕ)
names fs = map (λ (f : Member). f.0) fs

-- some field has this name
abbrev pub has_name : List ℕ → List Member → Bool
has_name name fs = list_any (bytes_eq name) (names fs)

pub flips : (xs ys : List ℕ) → bytes_eq xs ys ≡ bytes_eq ys xs
flips xs ys = nat_list_eq_equiv.symm xs ys

pub same_bytes : (xs ys : List ℕ) → bytes_eq xs ys ≡ true → xs ≡ ys
same_bytes xs ys e = (bytes_eq-Decides xs ys).0 e

pub neither_first : (a b : Bool) → (a || b) ≡ false → a ≡ false
neither_first true b e = e
neither_first false b e = refl

pub neither_second : (a b : Bool) → (a || b) ≡ false → b ≡ false
neither_second true b e = absurd (true≢false e)
neither_second false b e = e

second_holds : (a b : Bool) → a ≡ false → (a || b) ≡ true → b ≡ true
second_holds true b n e = absurd (true≢false n)
second_holds false b n e = e

-- a new name goes last, and a name that is there stays
pub names-put_new : (fs : List Member) (name : List ℕ) (v : JsonValue) → has_name name fs ≡ false → names (put fs name v) ≡ names fs ++ name ∷ []
names-put_new [] name v h = refl
names-put_new (f ∷ fs) name v h =
    ap (λ (gs : List Member). names gs) (put_on f fs name v (flips f.0 name ∙ neither_first (bytes_eq name f.0) (has_name name fs) h)) ∙ ap (λ (ns : List (List ℕ)). f.0 ∷ ns) (names-put_new fs name v (neither_second (bytes_eq name f.0) (has_name name fs) h))

pub names-put_old : (fs : List Member) (name : List ℕ) (v : JsonValue) → has_name name fs ≡ true → names (put fs name v) ≡ names fs
names-put_old [] name v h = absurd (true≢false (sym h))
names-put_old (f ∷ fs) name v h = go (bytes_eq f.0 name) refl (names-put_old fs name v)
  where
    go : (b : Bool) → bytes_eq f.0 name ≡ b → (has_name name fs ≡ true → names (put fs name v) ≡ names fs) → names (put (f ∷ fs) name v) ≡ names (f ∷ fs)
    go true e k = ap (λ (gs : List Member). names gs) (put_here f fs name v e) ∙ ap (λ (n : List ℕ). n ∷ names fs) (sym (same_bytes f.0 name e))
    go false e k = ap (λ (gs : List Member). names gs) (put_on f fs name v e) ∙ ap (λ (ns : List (List ℕ)). f.0 ∷ ns) (k (second_holds (bytes_eq name f.0) (has_name name fs) (flips name f.0 ∙ e) h))

pub put_distinct : (fs : List Member) (name : List ℕ) (v : JsonValue) → HaveDistinctNames fs → HaveDistinctNames (put fs name v)
put_distinct fs name v h = go (has_name name fs) refl
  where
    go : (b : Bool) → has_name name fs ≡ b → HaveDistinctNames (put fs name v)
    go true e = subst (λ (ns : List (List ℕ)). IsDistinct bytes_eq ns) (sym (names-put_old fs name v e)) h
    go false e = subst (λ (ns : List (List ℕ)). IsDistinct bytes_eq ns) (sym (names-put_new fs name v e)) (IsDistinct-push nat_list_eq_equiv (names fs) name h e)

-- the fields of the program stay distinct after a write and after a push
pub distinct_written : (fs : List (List ℕ × Json)) (name : List ℕ) (j : Json) (i : ℕ) → PutsAt (members_seen fs) name i → HaveDistinctNames (members_seen fs) → HaveDistinctNames (members_seen (set fs i (name, j)))
distinct_written fs name j i h d =
    subst (λ (gs : List Member). HaveDistinctNames gs) (sym (map-set (λ (g : List ℕ × Json). (g.0, json_value g.1)) fs i (name, j) ∙ sym (h.1 (json_value j)))) (put_distinct (members_seen fs) name (json_value j) d)

pub distinct_pushed : (fs : List (List ℕ × Json)) (name : List ℕ) (j : Json) → PutsLast (members_seen fs) name → HaveDistinctNames (members_seen fs) → HaveDistinctNames (members_seen (fs ++ (name, j) ∷ []))
distinct_pushed fs name j h d =
    subst (λ (gs : List Member). HaveDistinctNames gs) (sym (map-append (λ (g : List ℕ × Json). (g.0, json_value g.1)) fs ((name, j) ∷ []) ∙ sym (h (json_value j)))) (put_distinct (members_seen fs) name (json_value j) d)

-- ## Looking up

pub value_here : (name : List ℕ) (f : Member) (fs : List Member) → bytes_eq f.0 name ≡ true → value_named name (f ∷ fs) ≡ Some f.1
value_here name f fs e = ap (λ (t : Bool). (elim t as (λ _. Option JsonValue) [ true ↦ Some f.1 | false ↦ value_named name fs ])) e

pub value_further : (name : List ℕ) (f : Member) (fs : List Member) → bytes_eq f.0 name ≡ false → value_named name (f ∷ fs) ≡ value_named name fs
value_further name f fs e = ap (λ (t : Bool). (elim t as (λ _. Option JsonValue) [ true ↦ Some f.1 | false ↦ value_named name fs ])) e

value_absent : (name : List ℕ) (fs : List Member) → Differs fs name (length fs) → value_named name fs ≡ None
value_absent name [] h = refl
value_absent name (f ∷ fs) h = value_further name f fs (h 0 f (omega arith)) ∙ value_absent name fs (λ k d l. h (suc k) d (omega arith))

value_at : (name : List ℕ) (fs : List Member) (i : ℕ) (d : Member) → i < length fs → Differs fs name i → bytes_eq (get_or fs i d).0 name ≡ true → value_named name fs ≡ Some (get_or fs i d).1
value_at name [] i d l h e = absurd (omega arith)
value_at name (f ∷ fs) zero d l h e = value_here name f fs e
value_at name (f ∷ fs) (suc i) d l h e =
    value_further name f fs (h 0 f (omega arith)) ∙ value_at name fs i d (omega arith) (λ k c m. h (suc k) c (omega arith)) e

pub found_at : (fs : List (List ℕ × Json)) (name : List ℕ) (i : ℕ) (f : List ℕ × Json) → i < length fs → f ≡ get_or fs i f → Differs (members_seen fs) name i → bytes_eq f.0 name ≡ true → HasValueAt fs name i
found_at fs name i f l e h t =
    let d : Member = (f.0, json_value f.1) in
    let n : i < length (members_seen fs) = omega (arith, length-map {B = Member} fs (λ (g : List ℕ × Json). (g.0, json_value g.1))) in
    value_at name (members_seen fs) i d n h (ap (λ (x : List ℕ). bytes_eq x name) (name_at fs i f d l e) ∙ t)
    ∙ ap (λ (m : Member). Some m.1) (get_or-map (λ (g : List ℕ × Json). (g.0, json_value g.1)) fs i f d l)
    ∙ sym (ap (λ (o : Option (List ℕ × Json)). option_map (λ (g : List ℕ × Json). json_value g.1) o) (slice_get-get_or fs i f l))

pub found_nowhere : (fs : List (List ℕ × Json)) (name : List ℕ) (i : ℕ) → i ≡ length fs → Differs (members_seen fs) name i → value_named name (members_seen fs) ≡ None
found_nowhere fs name i e h = value_absent name (members_seen fs) (λ k d l. h k d (omega (arith, length-map {B = Member} fs (λ (g : List ℕ × Json). (g.0, json_value g.1)))))

-- what is put into the fields that a value of the program shows
pub last_seen : (fs : List (List ℕ × Json)) (shown : FieldList) (name : List ℕ) → fields_seen fs ≡ shown → PutsLast (fields_list shown) name → PutsLast (members_seen fs) name
last_seen fs shown name e h = subst (λ (gs : List Member). PutsLast gs name) (ap (λ (l : FieldList). fields_list l) (sym e) ∙ fields_list-fields_of (members_seen fs)) h

pub at_seen : (fs : List (List ℕ × Json)) (shown : FieldList) (name : List ℕ) (i : ℕ) → fields_seen fs ≡ shown → PutsAt (fields_list shown) name i → PutsAt (members_seen fs) name i
at_seen fs shown name i e h = subst (λ (gs : List Member). PutsAt gs name i) (ap (λ (l : FieldList). fields_list l) (sym e) ∙ fields_list-fields_of (members_seen fs)) h

pub last_shown : (fs : List (List ℕ × Json)) (shown : FieldList) (name text : List ℕ) → fields_seen fs ≡ shown → text ≡ name → PutsLast (members_seen fs) text → PutsLast (fields_list shown) name
last_shown fs shown name text e n h =
    subst (λ (gs : List Member). PutsLast gs name) (sym (fields_list-fields_of (members_seen fs)) ∙ ap (λ (l : FieldList). fields_list l) e) (subst (λ (t : List ℕ). PutsLast (members_seen fs) t) n h)

pub at_shown : (fs : List (List ℕ × Json)) (shown : FieldList) (name text : List ℕ) (i : ℕ) → fields_seen fs ≡ shown → text ≡ name → PutsAt (members_seen fs) text i → PutsAt (fields_list shown) name i
at_shown fs shown name text i e n h =
    subst (λ (gs : List Member). PutsAt gs name i) (sym (fields_list-fields_of (members_seen fs)) ∙ ap (λ (l : FieldList). fields_list l) e) (subst (λ (t : List ℕ). PutsAt (members_seen fs) t i) n h)

-- Named values: where a name stands among them, and what a put, a look-up and a row make of it.
use Rattle.std.proofs.Common.{ℕ, zero, suc, ◌≡◌, ◌<◌, ◌+◌, List, [], ◌∷◌, ◌++◌, Bool, true, false, ◌||◌, cond, refl, ap, ◌∙◌, sym, subst, length, map, take, take_all, set, get_or, arith, Option, Some, None}
use Rattle.std.proofs.lemmas.List.{take_more, map-append, length-map}
use Rattle.std.proofs.lemmas.List.Folds.{list_any-append}
use Rattle.std.proofs.lemmas.List.FromFn.{get_or-enumerate_from, length-enumerate_from}
use Rattle.std.proofs.lemmas.Option.{slice_get_within, slice_get-get_or, get_or_from_slice_get, none-some, same_Some}
use Rattle.std.proofs.lemmas.List.Quantifiers.{position-Some}
use Rattle.std.proofs.lemmas.Slice.Eq.{bytes_eq-Decides}
use Rattle.std.proofs.lemmas.Cmp.{nat_list_eq_equiv}
use Rattle.std.proofs.lemmas.Map.Keys.{apart_from_distinct, IsDistinct-push}
use Rattle.std.specs.Prelude.{slice_get, unwrap_or, position, is_some, IfSome, IfNone, MatchOption}
use Rattle.std.specs.List.{enumerate_from, list_any, IsDistinct}
use Rattle.std.specs.Str.{bytes_eq}
use Rattle.std.specs.String.{string_bytes}
use Rattle.json_values.specs.Table.{NamedValues, RowValues, put_value, named_value, value_or_null, row_of, add_name, add_names, IsNewName, IsPlaceOf, AreDistinctNames}
use Rattle.json_values.specs.declared.value.Value.{Value}
use Rattle.json_values.specs.declared.value.Value.TheVariants as cell
use Rattle.json_values.proofs.Putting.{flips, neither_first, neither_second}
use Rattle.json_values.proofs.Indexing.{apart_any}
use Rattle.json_values.proofs.Tables.{Name, seen_names, list_any-seen, add_name-there}

abbrev pub Field : Type 0
Field = List ℕ × Value

abbrev pub names : NamedValues → List (List ℕ)
names fs = map (λ (f : Field). f.0) fs

same_name : (name other : List ℕ) → bytes_eq name other ≡ true → name ≡ other
same_name name other e = (bytes_eq-Decides name other).0 e

is_itself : (name other : List ℕ) → name ≡ other → bytes_eq name other ≡ true
is_itself name other e = (bytes_eq-Decides name other).1 e

-- ## A search

name_at : (fs : NamedValues) (i : ℕ) (f : Field) → i < length fs → f ≡ get_or fs i f → slice_get (names fs) i ≡ Some f.0
name_at [] i f l e = absurd (omega arith)
name_at (g ∷ fs) zero f l e = ap (λ (g : Field). Some g.0) (sym e)
name_at (g ∷ fs) (suc i) f l e = name_at fs i f (omega arith) e

pub searched_more : (fs : NamedValues) (name : List ℕ) (i : ℕ) (f : Field) → i < length fs → f ≡ get_or fs i f → IsNewName name (take i fs) → bytes_eq name f.0 ≡ false → IsNewName name (take (i + 1) fs)
searched_more fs name i f l e h t =
    ap (λ (gs : NamedValues). list_any (bytes_eq name) (names gs)) (take_more fs i f l)
    ∙ ap (λ (ns : List (List ℕ)). list_any (bytes_eq name) ns) (map-append (λ (g : Field). g.0) (take i fs) (get_or fs i f ∷ []))
    ∙ list_any-append (bytes_eq name) (names (take i fs)) ((get_or fs i f).0 ∷ [])
    ∙ ap (λ (b : Bool). b || (bytes_eq name (get_or fs i f).0 || false)) h
    ∙ ap (λ (g : Field). bytes_eq name g.0 || false) (sym e)
    ∙ ap (λ (b : Bool). b || false) t

pub searched_all : (fs : NamedValues) (name : List ℕ) (i : ℕ) → i ≡ length fs → IsNewName name (take i fs) → IsNewName name fs
searched_all fs name i l h = subst (λ (gs : NamedValues). IsNewName name gs) (take_all i fs (omega arith)) h

pub place_found : (fs : NamedValues) (name : List ℕ) (i : ℕ) (f : Field) → i < length fs → f ≡ get_or fs i f → IsNewName name (take i fs) → bytes_eq name f.0 ≡ true → IsPlaceOf name fs i
place_found fs name i f l e h t = (name_at fs i f l e ∙ ap (λ (n : List ℕ). Some n) (sym (same_name name f.0 t)), h)

-- ## A put and a look-up

here : (name n : List ℕ) → Some n ≡ Some name → bytes_eq name n ≡ true
here name n e = is_itself name n (sym (same_Some n name e))

pub place_within : (fs : NamedValues) (name : List ℕ) (i : ℕ) → IsPlaceOf name fs i → i < length fs
place_within fs name i h = omega (arith, slice_get_within (names fs) i name h.0, length-map fs (λ (f : Field). f.0))

pub put_at_place : (name : List ℕ) (v : Value) (fs : NamedValues) (i : ℕ) → IsPlaceOf name fs i → put_value fs name v ≡ set fs i (name, v)
put_at_place name v [] i h = absurd (none-some name h.0)
put_at_place name v (f ∷ fs) zero h =
    ap (λ (b : Bool). cond b ((f.0, v) ∷ fs) (f ∷ put_value fs name v)) (here name f.0 h.0) ∙ ap (λ (n : List ℕ). (n, v) ∷ fs) (same_Some f.0 name h.0)
put_at_place name v (f ∷ fs) (suc i) h =
    ap (λ (b : Bool). cond b ((f.0, v) ∷ fs) (f ∷ put_value fs name v)) (neither_first (bytes_eq name f.0) (list_any (bytes_eq name) (names (take i fs))) h.1)
    ∙ ap (λ (gs : NamedValues). f ∷ gs) (put_at_place name v fs i (h.0, neither_second (bytes_eq name f.0) (list_any (bytes_eq name) (names (take i fs))) h.1))

-- the names stay
pub names_at_place : (name : List ℕ) (v : Value) (fs : NamedValues) (i : ℕ) → IsPlaceOf name fs i → names (set fs i (name, v)) ≡ names fs
names_at_place name v [] i h = absurd (none-some name h.0)
names_at_place name v (f ∷ fs) zero h = ap (λ (n : List ℕ). n ∷ names fs) (sym (same_Some f.0 name h.0))
names_at_place name v (f ∷ fs) (suc i) h =
    ap (λ (ns : List (List ℕ)). f.0 ∷ ns) (names_at_place name v fs i (h.0, neither_second (bytes_eq name f.0) (list_any (bytes_eq name) (names (take i fs))) h.1))

pub put_new : (name : List ℕ) (v : Value) (fs : NamedValues) → IsNewName name fs → put_value fs name v ≡ fs ++ (name, v) ∷ []
put_new name v [] h = refl
put_new name v (f ∷ fs) h =
    ap (λ (b : Bool). cond b ((f.0, v) ∷ fs) (f ∷ put_value fs name v)) (neither_first (bytes_eq name f.0) (list_any (bytes_eq name) (names fs)) h)
    ∙ ap (λ (gs : NamedValues). f ∷ gs) (put_new name v fs (neither_second (bytes_eq name f.0) (list_any (bytes_eq name) (names fs)) h))

pub distinct_pushed : (fs : NamedValues) (f : Field) → AreDistinctNames (names fs) → IsNewName f.0 fs → AreDistinctNames (names (fs ++ f ∷ []))
distinct_pushed fs f d h = subst (λ (ns : List (List ℕ)). AreDistinctNames ns) (sym (map-append (λ (g : Field). g.0) fs (f ∷ []))) (IsDistinct-push nat_list_eq_equiv (names fs) f.0 d h)

pub value_at_place : (name : List ℕ) (fs : NamedValues) (i : ℕ) (f : Field) → slice_get fs i ≡ Some f → IsPlaceOf name fs i → named_value name fs ≡ Some f.1
value_at_place name [] i f e h = absurd (none-some name h.0)
value_at_place name (g ∷ fs) zero f e h =
    ap (λ (b : Bool). cond b (Some g.1) (named_value name fs)) (here name g.0 h.0) ∙ ap (λ (g : Field). Some g.1) (same_Some g f e)
value_at_place name (g ∷ fs) (suc i) f e h =
    ap (λ (b : Bool). cond b (Some g.1) (named_value name fs)) (neither_first (bytes_eq name g.0) (list_any (bytes_eq name) (names (take i fs))) h.1)
    ∙ value_at_place name fs i f e (h.0, neither_second (bytes_eq name g.0) (list_any (bytes_eq name) (names (take i fs))) h.1)

pub value_of_new : (name : List ℕ) (fs : NamedValues) → IsNewName name fs → named_value name fs ≡ None
value_of_new name [] h = refl
value_of_new name (f ∷ fs) h =
    ap (λ (b : Bool). cond b (Some f.1) (named_value name fs)) (neither_first (bytes_eq name f.0) (list_any (bytes_eq name) (names fs)) h)
    ∙ value_of_new name fs (neither_second (bytes_eq name f.0) (list_any (bytes_eq name) (names fs)) h)

-- ## A row, one field after another

-- the name of a field is none of those before it
pub new_at : (fs : NamedValues) (i : ℕ) (f : Field) → i < length fs → f ≡ get_or fs i f → AreDistinctNames (names fs) → IsNewName f.0 (take i fs)
unfolding IsDistinct
new_at [] i f l e d = absurd (omega arith)
new_at (g ∷ fs) zero f l e d = refl
new_at (g ∷ fs) (suc i) f l e d =
    let within : suc i < length (names (g ∷ fs)) = omega (arith, length-map (g ∷ fs) (λ (f : Field). f.0)) in
    let name : get_or (names fs) i f.0 ≡ f.0 = get_or_from_slice_get (names fs) i f.0 f.0 (name_at fs i f (omega arith) e) in
    let other : bytes_eq g.0 f.0 ≡ false = ap (bytes_eq g.0) (sym name) ∙ apart_from_distinct bytes_eq (names (g ∷ fs)) 0 (suc i) f.0 d (omega arith) within in
    ap (λ (b : Bool). b || list_any (bytes_eq f.0) (names (take i fs))) (flips f.0 g.0 ∙ other) ∙ new_at fs i f (omega arith) e d.1

-- the value of a name, where a field with a new name goes last
value_pushed_by : (name : List ℕ) (f : Field) (b : Bool) → unwrap_or (cond b (Some f.1) None) cell.Null ≡ cond b f.1 cell.Null
value_pushed_by name f true = refl
value_pushed_by name f false = refl

value_pushed : (name : List ℕ) (fs : NamedValues) (f : Field) → IsNewName f.0 fs → value_or_null name (fs ++ f ∷ []) ≡ cond (bytes_eq name f.0) f.1 (value_or_null name fs)
value_pushed name [] f h = value_pushed_by name f (bytes_eq name f.0)
value_pushed name (g ∷ fs) f h = go (bytes_eq name g.0) refl (value_pushed name fs f (neither_second (bytes_eq f.0 g.0) (list_any (bytes_eq f.0) (names fs)) h))
  where
    at : (gs : NamedValues) (b : Bool) → bytes_eq name g.0 ≡ b → value_or_null name (g ∷ gs) ≡ unwrap_or (cond b (Some g.1) (named_value name gs)) cell.Null
    at gs b e = ap (λ (b : Bool). unwrap_or (cond b (Some g.1) (named_value name gs)) cell.Null) e

    go : (b : Bool) → bytes_eq name g.0 ≡ b → value_or_null name (fs ++ f ∷ []) ≡ cond (bytes_eq name f.0) f.1 (value_or_null name fs) → value_or_null name (g ∷ (fs ++ f ∷ [])) ≡ cond (bytes_eq name f.0) f.1 (value_or_null name (g ∷ fs))
    go true e rest =
        let other : bytes_eq name f.0 ≡ false = ap (λ (n : List ℕ). bytes_eq n f.0) (same_name name g.0 e) ∙ flips g.0 f.0 ∙ neither_first (bytes_eq f.0 g.0) (list_any (bytes_eq f.0) (names fs)) h in
        at (fs ++ f ∷ []) true e ∙ sym (at fs true e) ∙ sym (ap (λ (b : Bool). cond b f.1 (value_or_null name (g ∷ fs))) other)
    go false e rest = at (fs ++ f ∷ []) false e ∙ rest ∙ ap (λ (v : Value). cond (bytes_eq name f.0) f.1 v) (sym (at fs false e))

-- a field without a column changes nothing
pub row_without : (ns : List (List ℕ)) (fs : NamedValues) (f : Field) → list_any (bytes_eq f.0) ns ≡ false → IsNewName f.0 fs → row_of ns (fs ++ f ∷ []) ≡ row_of ns fs
row_without [] fs f n h = refl
row_without (name ∷ ns) fs f n h =
    let other : bytes_eq name f.0 ≡ false = flips name f.0 ∙ neither_first (bytes_eq f.0 name) (list_any (bytes_eq f.0) ns) n in
    ap (λ (v : Value). v ∷ row_of ns (fs ++ f ∷ [])) (value_pushed name fs f h ∙ ap (λ (b : Bool). cond b f.1 (value_or_null name fs)) other)
    ∙ ap (λ (vs : RowValues). value_or_null name fs ∷ vs) (row_without ns fs f (neither_second (bytes_eq f.0 name) (list_any (bytes_eq f.0) ns) n) h)

-- the names after a name are others
others_after : (name : List ℕ) (ns : List (List ℕ)) (n : List ℕ) → name ≡ n → AreDistinctNames (n ∷ ns) → list_any (bytes_eq name) ns ≡ false
others_after name ns n e d = apart_any name ns (λ i d' l. ap (λ (m : List ℕ). bytes_eq m (get_or ns i d')) e ∙ apart_from_distinct bytes_eq (n ∷ ns) 0 (suc i) d' d (omega arith) (omega arith))

-- a field takes its place in the row
pub row_with : (ns : List (List ℕ)) (fs : NamedValues) (f : Field) (i : ℕ) → AreDistinctNames ns → slice_get ns i ≡ Some f.0 → IsNewName f.0 fs → row_of ns (fs ++ f ∷ []) ≡ set (row_of ns fs) i f.1
unfolding IsDistinct
row_with [] fs f i d e h = absurd (none-some f.0 e)
row_with (name ∷ ns) fs f zero d e h =
    let same : bytes_eq name f.0 ≡ true = is_itself name f.0 (same_Some name f.0 e) in
    ap (λ (v : Value). v ∷ row_of ns (fs ++ f ∷ [])) (value_pushed name fs f h ∙ ap (λ (b : Bool). cond b f.1 (value_or_null name fs)) same)
    ∙ ap (λ (vs : RowValues). f.1 ∷ vs) (row_without ns fs f (others_after f.0 ns name (sym (same_Some name f.0 e)) d) h)
row_with (name ∷ ns) fs f (suc i) d e h =
    let there : get_or ns i f.0 ≡ f.0 = get_or_from_slice_get ns i f.0 f.0 e in
    let l : i < length ns = slice_get_within ns i f.0 e in
    let other : bytes_eq name f.0 ≡ false = ap (bytes_eq name) (sym there) ∙ apart_from_distinct bytes_eq (name ∷ ns) 0 (suc i) f.0 d (omega arith) (omega (arith, l)) in
    ap (λ (v : Value). v ∷ row_of ns (fs ++ f ∷ [])) (value_pushed name fs f h ∙ ap (λ (b : Bool). cond b f.1 (value_or_null name fs)) other)
    ∙ ap (λ (vs : RowValues). value_or_null name fs ∷ vs) (row_with ns fs f i d.1 e h)

-- the row of one field more
row_more : (ns : List (List ℕ)) (fs : NamedValues) (i : ℕ) (f : Field) (place : ℕ) → i < length fs → f ≡ get_or fs i f → AreDistinctNames ns → AreDistinctNames (names fs) → slice_get ns place ≡ Some f.0
    → set (row_of ns (take i fs)) place f.1 ≡ row_of ns (take (i + 1) fs)
row_more ns fs i f place l e d n p =
    sym (row_with ns (take i fs) f place d p (new_at fs i f l e n)) ∙ ap (λ (g : Field). row_of ns (take i fs ++ g ∷ [])) e ∙ ap (λ (gs : NamedValues). row_of ns gs) (sym (take_more fs i f l))

row_same : (ns : List (List ℕ)) (fs : NamedValues) (i : ℕ) (f : Field) → i < length fs → f ≡ get_or fs i f → AreDistinctNames (names fs) → list_any (bytes_eq f.0) ns ≡ false
    → row_of ns (take i fs) ≡ row_of ns (take (i + 1) fs)
row_same ns fs i f l e n p =
    sym (row_without ns (take i fs) f p (new_at fs i f l e n)) ∙ ap (λ (g : Field). row_of ns (take i fs ++ g ∷ [])) e ∙ ap (λ (gs : NamedValues). row_of ns gs) (sym (take_more fs i f l))

-- the row of one field more, where the place of its name, or that it has none, was looked up
pub row_set : (ns : List (List ℕ)) (fs : NamedValues) (i : ℕ) (f : Field) (o : Option ℕ) (row new : RowValues) → i < length fs → f ≡ get_or fs i f → AreDistinctNames ns → AreDistinctNames (names fs)
    → IfSome o (λ place. slice_get ns place ≡ Some f.0) → IfNone o (list_any (bytes_eq f.0) ns ≡ false) → row ≡ row_of ns (take i fs) → MatchOption o (new ≡ row) (λ place. new ≡ set row place f.1)
    → new ≡ row_of ns (take (i + 1) fs)
row_set ns fs i f None row new l e d n p q r s = s ∙ r ∙ row_same ns fs i f l e n q
row_set ns fs i f (Some place) row new l e d n p q r s = s ∙ ap (λ (vs : RowValues). set vs place f.1) r ∙ row_more ns fs i f place l e d n p

-- the field that comes next, where the fields are counted
pub counted_field : (fs : NamedValues) (n i : ℕ) (f : Field) → (n < length (enumerate_from 0 fs)) × ((i, f) ≡ get_or (enumerate_from 0 fs) n (i, f)) → (n < length fs) × (f ≡ get_or fs n f)
counted_field fs n i f next =
    let within : n < length fs = omega (arith, length-enumerate_from 0 fs, next.0) in
    (within, ap (λ (p : ℕ × Field). p.1) (next.1 ∙ get_or-enumerate_from 0 fs n (i, f) within))

pub row_done : (ns : List (List ℕ)) (fs : NamedValues) (i : ℕ) → i ≡ length fs → row_of ns (take i fs) ≡ row_of ns fs
row_done ns fs i e = ap (λ (gs : NamedValues). row_of ns gs) (take_all i fs (omega arith))

-- ## The place of a name among the columns

pub name_there : (ns : List (List ℕ)) (i : ℕ) (name : List ℕ) → slice_get ns i ≡ Some name → list_any (bytes_eq name) ns ≡ true
name_there [] i name e = absurd (none-some name e)
name_there (n ∷ ns) zero name e = ap (λ (b : Bool). b || list_any (bytes_eq name) ns) (here name n e)
name_there (n ∷ ns) (suc i) name e = or_true (bytes_eq name n) (list_any (bytes_eq name) ns) (name_there ns i name e)
  where
    or_true : (a b : Bool) → b ≡ true → (a || b) ≡ true
    or_true true b e = refl
    or_true false b e = e

pub seen_at : (ks : List Name) (i : ℕ) (k : Name) (name : List ℕ) → slice_get ks i ≡ Some k → bytes_eq (string_bytes k) name ≡ true → slice_get (seen_names ks) i ≡ Some name
seen_at [] i k name e t = absurd (none-some k e)
seen_at (l ∷ ks) zero k name e t = ap (λ (m : Name). Some (string_bytes m)) (same_Some l k e) ∙ ap (λ (n : List ℕ). Some n) (same_name (string_bytes k) name t)
seen_at (l ∷ ks) (suc i) k name e t = seen_at ks i k name e t

-- the place that an index tells
pub index_place : (ks : List Name) (name : List ℕ) (r : Option ℕ) → r ≡ position (λ (k : Name). bytes_eq name (string_bytes k)) ks → IfSome r (λ i. slice_get (seen_names ks) i ≡ Some name)
index_place ks name None e = tt
index_place [] name (Some i) e = absurd (none-some i (sym e))
index_place (k ∷ ks) name (Some i) e =
    let found = position-Some (λ (k : Name). bytes_eq name (string_bytes k)) (k ∷ ks) i k (sym e) in
    seen_at (k ∷ ks) i (get_or (k ∷ ks) i k) name (slice_get-get_or (k ∷ ks) i k found.0) (flips (string_bytes (get_or (k ∷ ks) i k)) name ∙ found.1)

pub index_lacks : (ks : List Name) (name : List ℕ) (r : Option ℕ) → is_some r ≡ list_any (λ (k : Name). bytes_eq name (string_bytes k)) ks → IfNone r (list_any (bytes_eq name) (seen_names ks) ≡ false)
index_lacks ks name None e = list_any-seen name ks ∙ sym e
index_lacks ks name (Some i) e = tt

-- ## The names of fields, one after another

fold_push : (ns more : List (List ℕ)) (n : List ℕ) → add_names ns (more ++ n ∷ []) ≡ add_name (add_names ns more) n
fold_push ns [] n = refl
fold_push ns (m ∷ more) n = fold_push (add_name ns m) more n

one_name_more : (ns : List (List ℕ)) (fs : NamedValues) (i : ℕ) (f : Field) → i < length fs → add_name (add_names ns (names (take i fs))) (get_or fs i f).0 ≡ add_names ns (names (take (i + 1) fs))
one_name_more ns fs i f l =
    sym (fold_push ns (names (take i fs)) (get_or fs i f).0)
    ∙ ap (λ (more : List (List ℕ)). add_names ns more) (sym (map-append (λ (g : Field). g.0) (take i fs) (get_or fs i f ∷ [])))
    ∙ ap (λ (gs : NamedValues). add_names ns (names gs)) (sym (take_more fs i f l))

pub name_added : (ns now new : List (List ℕ)) (fs : NamedValues) (i : ℕ) (f : Field) (name : List ℕ) → i < length fs → name ≡ (get_or fs i f).0 → now ≡ add_names ns (names (take i fs)) → new ≡ add_name now name → new ≡ add_names ns (names (take (i + 1) fs))
name_added ns now new fs i f name l n e h =
    h ∙ ap (λ (ns : List (List ℕ)). add_name ns name) e ∙ ap (λ (n : List ℕ). add_name (add_names ns (names (take i fs))) n) n ∙ one_name_more ns fs i f l

-- a name that is there changes nothing
pub name_stays : (ns now : List (List ℕ)) (fs : NamedValues) (i : ℕ) (f : Field) (name : List ℕ) (j : ℕ) → i < length fs → name ≡ (get_or fs i f).0 → now ≡ add_names ns (names (take i fs)) → slice_get now j ≡ Some name → now ≡ add_names ns (names (take (i + 1) fs))
name_stays ns now fs i f name j l n e h = name_added ns now now fs i f name l n e (add_name-there now name (name_there now j name h))

-- An index of the names of an object's fields.
use Rattle.std.proofs.Common.{ℕ, zero, suc, ◌≡◌, ◌+◌, ◌<◌, ◌≤◌, List, [], ◌∷◌, ◌++◌, Bool, true, false, not, cond, ◌||◌, Some, None, refl, ap, ◌∙◌, sym, subst, length, map, get_or, fold, arith, append_assoc, append-nil, length-append, take, take_all, Global, String}
use Rattle.std.proofs.lemmas.List.{length-map, get_or_append_left}
use Rattle.std.proofs.Math.Seq.{get_or-append_seam}
use Rattle.std.proofs.lemmas.Option.{none-some, same_Some}
use Rattle.std.proofs.lemmas.Bool.Decides.{nat_tests}
use Rattle.std.proofs.lemmas.Map.Keys.{apart_from_distinct}
use Rattle.std.specs.Prelude.{nat_lt, position}
use Rattle.std.specs.List.{list_any, prefix_len, IsDistinct}
use Rattle.std.specs.String.{string_bytes, string_eq}
use Rattle.std.specs.Str.{bytes_eq}
use Rattle.json_values.specs.Json.{JsonValue, FieldList}
use Rattle.json_values.specs.Lists.{put, fields_list, field_names, HaveDistinctNames}
use Rattle.json_values.specs.Putting.{PutsLast, PutsAt}
use Rattle.json_values.specs.Table.{add_name, add_names}
use Rattle.json_values.proofs.Seen.{Member, fields_list-seen}
use Rattle.json_values.specs.Seen.{members_seen, fields_seen}
use Rattle.json_values.specs.declared.json.Json.{Json}
use Rattle.indexmap.specs.IndexSet.{insert_key}
use Rattle.json_values.proofs.Tables.{seen_names, list_any-seen, seen_names-insert_key}
use Rattle.json_values.proofs.Putting.{flips, names, put_at_place, put_on, neither_first, neither_second, names-put_new, names-put_old}

-- ## The place of a name

abbrev front_of : List ℕ → List (List ℕ) → ℕ
front_of name ns = prefix_len (λ x. not (bytes_eq name x)) ns

differs_front : (name : List ℕ) (fs : List Member) (k : ℕ) (d : Member) → k < front_of name (names fs) → bytes_eq name (get_or fs k d).0 ≡ false
differs_front name [] k d l = absurd (omega arith)
differs_front name (f ∷ fs) k d l = go k (bytes_eq name f.0) refl l (λ j m. differs_front name fs j d m)
  where
    go : (k : ℕ) (b : Bool) → bytes_eq name f.0 ≡ b → k < front_of name (names (f ∷ fs)) → ((j : ℕ) → j < front_of name (names fs) → bytes_eq name (get_or fs j d).0 ≡ false) → bytes_eq name (get_or (f ∷ fs) k d).0 ≡ false
    go k true e l h =
        let none : front_of name (names (f ∷ fs)) ≡ 0 = ap (λ (b : Bool). cond (not b) (1 + front_of name (names fs)) 0) e in
        absurd (omega (arith, l, none))
    go zero false e l h = e
    go (suc k) false e l h =
        let more : front_of name (names (f ∷ fs)) ≡ 1 + front_of name (names fs) = ap (λ (b : Bool). cond (not b) (1 + front_of name (names fs)) 0) e in
        h k (omega (arith, l, more))

found_front : (name : List ℕ) (fs : List Member) (i : ℕ) (d : Member) → i ≡ front_of name (names fs) → i < length fs → bytes_eq name (get_or fs i d).0 ≡ true
found_front name [] i d e l = absurd (omega arith)
found_front name (f ∷ fs) i d e l = go i (bytes_eq name f.0) refl e l (λ j m n. found_front name fs j d m n)
  where
    go : (i : ℕ) (b : Bool) → bytes_eq name f.0 ≡ b → i ≡ front_of name (names (f ∷ fs)) → i < suc (length fs) → ((j : ℕ) → j ≡ front_of name (names fs) → j < length fs → bytes_eq name (get_or fs j d).0 ≡ true) → bytes_eq name (get_or (f ∷ fs) i d).0 ≡ true
    go zero true e p l h = e
    go (suc i) true e p l h =
        let none : front_of name (names (f ∷ fs)) ≡ 0 = ap (λ (b : Bool). cond (not b) (1 + front_of name (names fs)) 0) e in
        absurd (omega (arith, p, none))
    go zero false e p l h =
        let more : front_of name (names (f ∷ fs)) ≡ 1 + front_of name (names fs) = ap (λ (b : Bool). cond (not b) (1 + front_of name (names fs)) 0) e in
        absurd (omega (arith, p, more))
    go (suc i) false e p l h =
        let more : front_of name (names (f ∷ fs)) ≡ 1 + front_of name (names fs) = ap (λ (b : Bool). cond (not b) (1 + front_of name (names fs)) 0) e in
        h i (omega (arith, p, more)) (omega arith)

abbrev pub Key : Type 0
Key = String Global

front_seen : (name : List ℕ) (ks : List Key) → prefix_len (λ (k : Key). not (bytes_eq name (string_bytes k))) ks ≡ front_of name (seen_names ks)
front_seen name [] = refl
front_seen name (k ∷ ks) = ap (λ (n : ℕ). cond (not (bytes_eq name (string_bytes k))) (1 + n) 0) (front_seen name ks)

-- the place that the index tells is that of the field
pub indexed_at : (name : List ℕ) (ks : List Key) (fs : List Member) (i : ℕ) → seen_names ks ≡ names fs → position (λ (k : Key). bytes_eq name (string_bytes k)) ks ≡ Some i → PutsAt fs name i
indexed_at name ks fs i e p = go (nat_lt n (length ks)) refl
  where
    n : ℕ
    n = prefix_len (λ (k : Key). not (bytes_eq name (string_bytes k))) ks

    go : (b : Bool) → nat_lt (prefix_len (λ (k : Key). not (bytes_eq name (string_bytes k))) ks) (length ks) ≡ b → PutsAt fs name i
    go false t = absurd (none-some i (sym (ap (λ (b : Bool). cond b (Some (prefix_len (λ (k : Key). not (bytes_eq name (string_bytes k))) ks)) None) t) ∙ p))
    go true t =
        let same : prefix_len (λ (k : Key). not (bytes_eq name (string_bytes k))) ks ≡ i = same_Some (prefix_len (λ (k : Key). not (bytes_eq name (string_bytes k))) ks) i (sym (ap (λ (b : Bool). cond b (Some (prefix_len (λ (k : Key). not (bytes_eq name (string_bytes k))) ks)) None) t) ∙ p) in
        let at : i ≡ front_of name (names fs) = sym same ∙ front_seen name ks ∙ ap (λ (ns : List (List ℕ)). front_of name ns) e in
        let long : length ks ≡ length fs = sym (length-map ks (string_bytes {Z = Global})) ∙ ap (λ (ns : List (List ℕ)). length ns) e ∙ length-map fs (λ (f : Member). f.0) in
        let within : prefix_len (λ (k : Key). not (bytes_eq name (string_bytes k))) ks < length ks = lt_of (prefix_len (λ (k : Key). not (bytes_eq name (string_bytes k))) ks) (length ks) t in
        let l : i < length fs = omega (arith, same, long, within) in
        (l, λ v. put_at_place name v fs i (name, v) l (λ k d m. flips (get_or fs k d).0 name ∙ differs_front name fs k d (omega (arith, m, at))) (flips (get_or fs i (name, v)).0 name ∙ found_front name fs i (name, v) at l))
      where
        lt_of : (a b : ℕ) → nat_lt a b ≡ true → a < b
        lt_of a b e = grind (arith, nat_tests)

-- a name that the index lacks goes last
pub absent_last : (name : List ℕ) (fs : List Member) → list_any (bytes_eq name) (names fs) ≡ false → PutsLast fs name
absent_last name [] h v = refl
absent_last name (f ∷ fs) h v =
    put_on f fs name v (flips f.0 name ∙ neither_first (bytes_eq name f.0) (list_any (bytes_eq name) (names fs)) h) ∙ ap (λ (gs : List Member). f ∷ gs) (absent_last name fs (neither_second (bytes_eq name f.0) (list_any (bytes_eq name) (names fs)) h) v)

-- ## Making the index

pub apart_any : (name : List ℕ) (ns : List (List ℕ)) → ((i : ℕ) (d : List ℕ) → i < length ns → bytes_eq name (get_or ns i d) ≡ false) → list_any (bytes_eq name) ns ≡ false
apart_any name [] h = refl
apart_any name (n ∷ ns) h =
    ap (λ (b : Bool). b || list_any (bytes_eq name) ns) (h 0 n (omega arith)) ∙ apart_any name ns (λ i d l. h (suc i) d (omega arith))

pub new_name : (ns rest : List (List ℕ)) (n : List ℕ) → IsDistinct bytes_eq (ns ++ n ∷ rest) → list_any (bytes_eq n) ns ≡ false
new_name ns rest n h = apart_any n ns (λ i d l. at i d l)
  where
    at : (i : ℕ) (d : List ℕ) → i < length ns → bytes_eq n (get_or ns i d) ≡ false
    at i d l =
        let all : length (ns ++ n ∷ rest) ≡ length ns + suc (length rest) = length-append ns (n ∷ rest) in
        flips n (get_or ns i d)
        ∙ ap (λ (x : List ℕ). bytes_eq x n) (sym (get_or_append_left ns (n ∷ rest) d i l))
        ∙ ap (λ (x : List ℕ). bytes_eq (get_or (ns ++ n ∷ rest) i d) x) (sym (get_or-append_seam ns n rest d))
        ∙ apart_from_distinct bytes_eq (ns ++ n ∷ rest) i (length ns) d h l (omega (arith, all))

pub all_added : (ns rest : List (List ℕ)) → IsDistinct bytes_eq (ns ++ rest) → fold add_name ns rest ≡ ns ++ rest
all_added ns [] h = sym (append-nil ns)
all_added ns (n ∷ rest) h =
    let new : list_any (bytes_eq n) ns ≡ false = new_name ns rest n h in
    let added : add_name ns n ≡ ns ++ n ∷ [] = ap (λ (b : Bool). cond b ns (ns ++ n ∷ [])) new in
    let joined : (ns ++ n ∷ []) ++ rest ≡ ns ++ n ∷ rest = append_assoc ns (n ∷ []) rest in
    ap (λ (l : List (List ℕ)). fold add_name l rest) added ∙ all_added (ns ++ n ∷ []) rest (subst (λ (l : List (List ℕ)). IsDistinct bytes_eq l) (sym joined) h) ∙ joined

-- the names that the program's fields show
pub names_seen : (fs : List (List ℕ × Json)) → names (members_seen fs) ≡ map (λ (f : List ℕ × Json). f.0) fs
names_seen [] = refl
names_seen (f ∷ fs) = ap (λ (ns : List (List ℕ)). f.0 ∷ ns) (names_seen fs)

pub field_names_seen : (fs : List (List ℕ × Json)) (shown : FieldList) → fields_seen fs ≡ shown → field_names shown ≡ names (members_seen fs)
field_names_seen fs shown e = ap (λ (l : FieldList). field_names l) (sym e) ∙ ap (λ (l : List Member). names l) (fields_list-seen fs)

pub index_done : (fs : List (List ℕ × Json)) (shown : FieldList) (i : ℕ) (ks : List (List ℕ)) → fields_seen fs ≡ shown → length fs ≤ i → HaveDistinctNames (members_seen fs)
    → ks ≡ add_names [] (map (λ (f : List ℕ × Json). f.0) (take i fs)) → ks ≡ field_names shown
index_done fs shown i ks v l d e =
    e ∙ ap (λ (gs : List (List ℕ × Json)). add_names [] (map (λ (f : List ℕ × Json). f.0) gs)) (take_all i fs l)
    ∙ ap (λ (ns : List (List ℕ)). add_names [] ns) (sym (names_seen fs)) ∙ all_added [] (names (members_seen fs)) d ∙ sym (field_names_seen fs shown v)

-- the index after a put
pub index_kept : (ks : List (List ℕ)) (old new : FieldList) (name : List ℕ) (v : JsonValue) → ks ≡ field_names old → list_any (bytes_eq name) (field_names old) ≡ true → fields_list new ≡ put (fields_list old) name v → ks ≡ field_names new
index_kept ks old new name v e h p = e ∙ sym (names-put_old (fields_list old) name v h) ∙ ap (λ (fs : List Member). names fs) (sym p)

pub index_grown : (ks : List (List ℕ)) (old new : FieldList) (name : List ℕ) (v : JsonValue) → ks ≡ field_names old ++ name ∷ [] → list_any (bytes_eq name) (field_names old) ≡ false → fields_list new ≡ put (fields_list old) name v → ks ≡ field_names new
index_grown ks old new name v e h p = e ∙ sym (names-put_new (fields_list old) name v h) ∙ ap (λ (fs : List Member). names fs) (sym p)

-- a key that is new goes last in the index
pub key_pushed : (ks : List Key) (k : Key) (name : List ℕ) (old : FieldList) → string_bytes k ≡ name → seen_names ks ≡ field_names old → list_any (bytes_eq name) (field_names old) ≡ false
    → seen_names (insert_key string_eq ks k) ≡ field_names old ++ name ∷ []
key_pushed ks k name old n e h =
    seen_names-insert_key ks k ∙ ap (λ (ns : List (List ℕ)). add_name ns (string_bytes k)) e ∙ ap (λ (m : List ℕ). add_name (field_names old) m) n
    ∙ ap (λ (b : Bool). cond b (field_names old) (field_names old ++ name ∷ [])) h

pub known_key : (name : List ℕ) (ks : List Key) (shown : FieldList) (b : Bool) → seen_names ks ≡ field_names shown → list_any (λ (k : Key). bytes_eq name (string_bytes k)) ks ≡ b → list_any (bytes_eq name) (field_names shown) ≡ b
known_key name ks shown b e h = ap (λ (ns : List (List ℕ)). list_any (bytes_eq name) ns) (sym e) ∙ list_any-seen name ks ∙ h

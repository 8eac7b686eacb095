-- Renamed columns: the new names, those that stand twice, and why one does.
use Rattle.std.proofs.Common.{◌≡◌, ℕ, ◌+◌, ◌<◌, ◌≤◌, Bool, true, false, cond, not, ◌||◌, List, [], ◌∷◌, ◌++◌, map, length, take, get_or, count_by, slice_get, find, refl, sym, ap, ◌∙◌, true≢false, subst, Some, None, Option, option_map, unwrap_or, nat_lt, add-zero, zero-add, one-add, is_some, le_trans, append-nil, lt-ltb, le-ltb, ltb-true, ltb-false, arith}
use Rattle.std.specs.List.{IsDistinct, AllByRecursion, list_any, position_or_len, last_or}
use Rattle.std.specs.Str.{bytes_eq}
use Rattle.std.specs.Cmp.Lexicographic.{nat_list_eq_equiv}
use Rattle.std.proofs.lemmas.List.Recursion.{is_count_by}
use Rattle.std.proofs.lemmas.Slice.Eq.{bytes_eq-Decides}
use Rattle.indexmap.specs.IndexSet.{insert_key}
use Rattle.lists.specs.Lists.{numbers_from, numbers_where}
use Rattle.table_terms.specs.Names.{Text}
use Rattle.table_rows.specs.Columns.{renamed, is_twice}
use Rattle.table_terms.specs.declared.renames.Rename.{Rename}
use Rattle.table_terms.proofs.Inserted.{inserted}
use Rattle.table_rows.proofs.Numbers.{numbers_where_more}

turned : (s t : Text) → bytes_eq s t ≡ bytes_eq t s
turned = nat_list_eq_equiv.symm

itself : (s : Text) → bytes_eq s s ≡ true
itself = nat_list_eq_equiv.refl

-- ---- the new name of a column

abbrev old_names : List Rename → List Text
old_names pairs = map (λ (p : Rename). p.field) pairs

abbrev PairAt : List Rename → Text → Type 0
PairAt pairs name = slice_get pairs (position_or_len (bytes_eq name) (old_names pairs)) ≡ find (λ (p : Rename). bytes_eq p.field name) pairs

pair_first : (p : Rename) (pairs : List Rename) (name : Text) (b : Bool) → bytes_eq name p.field ≡ b → PairAt pairs name → PairAt (p ∷ pairs) name
pair_first p pairs name true e rest =
    ap (λ (b : Bool). slice_get (p ∷ pairs) (cond (not b) (1 + position_or_len (bytes_eq name) (old_names pairs)) 0)) e
    ∙ sym (ap (λ (b : Bool). cond b (Some p) (find (λ (q : Rename). bytes_eq q.field name) pairs)) (turned p.field name ∙ e))
pair_first p pairs name false e rest =
    ap (λ (b : Bool). slice_get (p ∷ pairs) (cond (not b) (1 + position_or_len (bytes_eq name) (old_names pairs)) 0)) e
    ∙ ap (slice_get (p ∷ pairs)) (one-add (position_or_len (bytes_eq name) (old_names pairs)))
    ∙ rest
    ∙ sym (ap (λ (b : Bool). cond b (Some p) (find (λ (q : Rename). bytes_eq q.field name) pairs)) (turned p.field name ∙ e))

-- the pair of an old name stands at the place of that name among the old names
pub pair_at_place : (pairs : List Rename) (name : Text)
    → slice_get pairs (position_or_len (bytes_eq name) (map (λ (p : Rename). p.field) pairs)) ≡ find (λ (p : Rename). bytes_eq p.field name) pairs
pair_at_place [] name = refl
pair_at_place (p ∷ pairs) name = pair_first p pairs name (bytes_eq name p.field) refl (pair_at_place pairs name)

-- ---- names that stand twice

-- how many pass, by recursion
count : (Text → Bool) → List Text → ℕ
count test [] = 0
count test (x ∷ xs) = cond (test x) (1 + count test xs) (count test xs)

counted : (test : Text → Bool) (xs : List Text) → count test xs ≡ count_by test xs
unfolding count
counted test xs = is_count_by (count test) test refl (λ x ys. refl) xs

cond_plus : (a : ℕ) (b c : Bool) → cond b (1 + (a + cond c 1 0)) (a + cond c 1 0) ≡ cond b (1 + a) a + cond c 1 0
cond_plus a true c = omega arith
cond_plus a false c = refl

count-push : (test : Text → Bool) (xs : List Text) (x : Text) → count test (xs ++ x ∷ []) ≡ count test xs + cond (test x) 1 0
unfolding count
count-push test [] x = sym (zero-add (cond (test x) 1 0))
count-push test (y ∷ ys) x =
    ap (λ (n : ℕ). cond (test y) (1 + n) n) (count-push test ys x) ∙ cond_plus (count test ys) (test y) (test x)

count_by-push : (test : Text → Bool) (xs : List Text) (x : Text) → count_by test (xs ++ x ∷ []) ≡ count_by test xs + cond (test x) 1 0
count_by-push test xs x = sym (counted test (xs ++ x ∷ [])) ∙ count-push test xs x ∙ ap (λ (n : ℕ). n + cond (test x) 1 0) (counted test xs)

-- what is known of a list of names after some: those seen, and those seen twice
abbrev pub Seen : List Text → List Text → Type 0
Seen seen names = (x : Text) → list_any (bytes_eq x) seen ≡ nat_lt 0 (count_by (bytes_eq x) names)

abbrev pub Repeated : List Text → List Text → Type 0
Repeated repeated names = (x : Text) → list_any (bytes_eq x) repeated ≡ is_twice names x

or_true : (b : Bool) → (b || true) ≡ true
or_true true = refl
or_true false = refl

or_false : (b : Bool) → (b || false) ≡ b
or_false true = refl
or_false false = refl

no_more : (n a : ℕ) → (nat_lt n a || false) ≡ nat_lt n (a + 0)
no_more n a = or_false (nat_lt n a) ∙ ap (nat_lt n) (sym (add-zero a))

one_seen : (a : ℕ) (b : Bool) → (nat_lt 0 a || b) ≡ nat_lt 0 (a + cond b 1 0)
one_seen a true = or_true (nat_lt 0 a) ∙ sym (lt-ltb 0 (a + 1) (omega arith))
one_seen a false = no_more 0 a

-- of a name seen before, one more makes two
one_repeated : (a : ℕ) (b : Bool) → (b ≡ true → 0 < a) → (nat_lt 1 a || b) ≡ nat_lt 1 (a + cond b 1 0)
one_repeated a true h = let k : 0 < a = h refl in or_true (nat_lt 1 a) ∙ sym (lt-ltb 1 (a + 1) (omega arith))
one_repeated a false h = no_more 1 a

not_repeated : (a : ℕ) (b : Bool) → (b ≡ true → a ≡ 0) → nat_lt 1 a ≡ nat_lt 1 (a + cond b 1 0)
not_repeated a true h = let k : a ≡ 0 = h refl in le-ltb 1 a (omega arith) ∙ sym (le-ltb 1 (a + 1) (omega arith))
not_repeated a false h = ap (nat_lt 1) (sym (add-zero a))

none_of : (a : ℕ) → nat_lt 0 a ≡ false → a ≡ 0
none_of a e = let k : a ≤ 0 = ltb-false 0 a e in omega arith

pub seen_push : (seen names : List Text) (y : Text) → Seen seen names → Seen (insert_key bytes_eq seen y) (names ++ y ∷ [])
seen_push seen names y h x =
    inserted bytes_eq bytes_eq-Decides x y seen ∙ ap (λ (b : Bool). b || bytes_eq x y) (h x) ∙ one_seen (count_by (bytes_eq x) names) (bytes_eq x y)
    ∙ sym (ap (nat_lt 0) (count_by-push (bytes_eq x) names y))

pub repeated_push : (seen repeated names : List Text) (y : Text) → Seen seen names → Repeated repeated names → list_any (bytes_eq y) seen ≡ true
    → Repeated (insert_key bytes_eq repeated y) (names ++ y ∷ [])
repeated_push seen repeated names y h r there x =
    let twice : bytes_eq x y ≡ true → 0 < count_by (bytes_eq x) names =
    λ e. ltb-true 0 (count_by (bytes_eq x) names) (sym (h x) ∙ ap (λ (z : Text). list_any (bytes_eq z) seen) ((bytes_eq-Decides x y).0 e) ∙ there) in
    inserted bytes_eq bytes_eq-Decides x y repeated ∙ ap (λ (b : Bool). b || bytes_eq x y) (r x) ∙ one_repeated (count_by (bytes_eq x) names) (bytes_eq x y) twice
    ∙ sym (ap (nat_lt 1) (count_by-push (bytes_eq x) names y))

pub repeated_stay : (seen repeated names : List Text) (y : Text) → Seen seen names → Repeated repeated names → list_any (bytes_eq y) seen ≡ false
    → Repeated repeated (names ++ y ∷ [])
repeated_stay seen repeated names y h r new x =
    let once : bytes_eq x y ≡ true → count_by (bytes_eq x) names ≡ 0 =
    λ e. none_of (count_by (bytes_eq x) names) (sym (h x) ∙ ap (λ (z : Text). list_any (bytes_eq z) seen) ((bytes_eq-Decides x y).0 e) ∙ new) in
    r x ∙ not_repeated (count_by (bytes_eq x) names) (bytes_eq x y) once ∙ sym (ap (nat_lt 1) (count_by-push (bytes_eq x) names y))

-- a name more: repeated, where it was seen before
pub noted : (seen repeated next names : List Text) (y : Text) → Seen seen names → Repeated repeated names
    → (list_any (bytes_eq y) seen ≡ true → next ≡ insert_key bytes_eq repeated y) → (list_any (bytes_eq y) seen ≡ false → next ≡ repeated)
    → Repeated next (names ++ y ∷ [])
noted seen repeated next names y h r again first = by (list_any (bytes_eq y) seen) refl
  where
    by : (b : Bool) → list_any (bytes_eq y) seen ≡ b → Repeated next (names ++ y ∷ [])
    by true e = subst (λ (l : List Text). Repeated l (names ++ y ∷ [])) (sym (again e)) (repeated_push seen repeated names y h r e)
    by false e = subst (λ (l : List Text). Repeated l (names ++ y ∷ [])) (sym (first e)) (repeated_stay seen repeated names y h r e)

-- ---- the last item whose new name stands twice

last_or-push : (o : Option ℕ) (ns : List ℕ) (n : ℕ) → last_or o (ns ++ n ∷ []) ≡ Some n
last_or-push o [] n = refl
last_or-push o (m ∷ ns) n = last_or-push (Some m) ns n

pub last_more : (test : Rename → Bool) (pairs : List Rename) (i : ℕ) (d : Rename) → i < length pairs
    → last_or None (numbers_where test (take (i + 1) pairs)) ≡ cond (test (get_or pairs i d)) (Some i) (last_or None (numbers_where test (take i pairs)))
last_more test pairs i d less =
    ap (last_or None) (numbers_where_more test pairs i d less) ∙ by (test (get_or pairs i d)) (numbers_where test (take i pairs))
  where
    by : (b : Bool) (ns : List ℕ) → last_or None (ns ++ cond b (i ∷ []) []) ≡ cond b (Some i) (last_or None ns)
    by true ns = last_or-push None ns i
    by false ns = ap (last_or None) (append-nil ns)

-- ---- where no new name of a pair stands twice, no name does

last_is_some : (m : ℕ) (ms : List ℕ) → is_some (last_or (Some m) ms) ≡ true
last_is_some m [] = refl
last_is_some m (k ∷ ms) = last_is_some k ms

none_last : (ns : List ℕ) → last_or None ns ≡ None → ns ≡ []
none_last [] e = refl
none_last (n ∷ ns) e = absurd (true≢false (sym (last_is_some n ns) ∙ ap is_some e))

is_none_list : {A : Type 0} → List A → Bool
is_none_list [] = true
is_none_list (x ∷ xs) = false

not_empty : (n : ℕ) (ns : List ℕ) → n ∷ ns ≡ [] → true ≡ false
unfolding is_none_list
not_empty n ns e = sym (ap is_none_list e)

pass_first : (n : ℕ) (test : Rename → Bool) (name : Text) (q : Rename) (pairs : List Rename) (p : Rename) (b : Bool) → test q ≡ b → (c : Bool) → bytes_eq q.field name ≡ c
    → numbers_from n test (q ∷ pairs) ≡ [] → find (λ (r : Rename). bytes_eq r.field name) (q ∷ pairs) ≡ Some p
    → (numbers_from (n + 1) test pairs ≡ [] → find (λ (r : Rename). bytes_eq r.field name) pairs ≡ Some p → test p ≡ false) → test p ≡ false
pass_first n test name q pairs p true e c f none found rest =
    absurd (true≢false (not_empty n (numbers_from (n + 1) test pairs) (sym (ap (λ (b : Bool). cond b (n ∷ numbers_from (n + 1) test pairs) (numbers_from (n + 1) test pairs)) e) ∙ none)))
pass_first n test name q pairs p false e true f none found rest =
    let same : Some q ≡ Some p = sym (ap (λ (b : Bool). cond b (Some q) (find (λ (r : Rename). bytes_eq r.field name) pairs)) f) ∙ found in
    subst (λ (r : Rename). test r ≡ false) (ap (λ (o : Option Rename). unwrap_or o q) same) e
pass_first n test name q pairs p false e false f none found rest =
    rest (sym (ap (λ (b : Bool). cond b (n ∷ numbers_from (n + 1) test pairs) (numbers_from (n + 1) test pairs)) e) ∙ none)
    (sym (ap (λ (b : Bool). cond b (Some q) (find (λ (r : Rename). bytes_eq r.field name) pairs)) f) ∙ found)

none_pass : (n : ℕ) (test : Rename → Bool) (name : Text) (pairs : List Rename) (p : Rename) → numbers_from n test pairs ≡ [] → find (λ (q : Rename). bytes_eq q.field name) pairs ≡ Some p → test p ≡ false
none_pass n test name [] p none found = absurd (true≢false (sym (ap is_some found)))
none_pass n test name (q ∷ pairs) p none found = pass_first n test name q pairs p (test q) refl (bytes_eq q.field name) refl none found (none_pass (n + 1) test name pairs p)

-- each pair that is found has a new name that stands at most once among these names
abbrev OnceEach : List Rename → List Text → Type 0
OnceEach pairs names = (name : Text) (p : Rename) → find (λ (q : Rename). bytes_eq q.field name) pairs ≡ Some p → count (bytes_eq p.label) names ≤ 1

fewer : (a : ℕ) (b : Bool) → a ≤ cond b (1 + a) a
fewer a true = omega arith
fewer a false = omega arith

once_less : (pairs : List Rename) (x : Text) (xs : List Text) → OnceEach pairs (x ∷ xs) → OnceEach pairs xs
unfolding count
once_less pairs x xs h name p found =
    le_trans (fewer (count (bytes_eq p.label) xs) (bytes_eq p.label x)) (h name p found)

fewer_inside : (a : ℕ) (b c : Bool) → cond b (1 + a) a ≤ cond b (1 + cond c (1 + a) a) (cond c (1 + a) a)
fewer_inside a true true = omega arith
fewer_inside a true false = omega arith
fewer_inside a false true = omega arith
fewer_inside a false false = omega arith

-- without the second of two
once_skip : (pairs : List Rename) (x y : Text) (xs : List Text) → OnceEach pairs (x ∷ y ∷ xs) → OnceEach pairs (x ∷ xs)
unfolding count
once_skip pairs x y xs h name p found =
    le_trans (fewer_inside (count (bytes_eq p.label) xs) (bytes_eq p.label x) (bytes_eq p.label y)) (h name p found)

renamed_found : (pairs : List Rename) (n : Text) (p : Rename) → find (λ (q : Rename). bytes_eq q.field n) pairs ≡ Some p → renamed pairs n ≡ p.label
renamed_found pairs n p e = ap (λ (o : Option Rename). unwrap_or (option_map (λ (q : Rename). q.label) o) n) e

renamed_not : (pairs : List Rename) (n : Text) → find (λ (q : Rename). bytes_eq q.field n) pairs ≡ None → renamed pairs n ≡ n
renamed_not pairs n e = ap (λ (o : Option Rename). unwrap_or (option_map (λ (q : Rename). q.label) o) n) e

two_counted : (label x y : Text) (xs : List Text) → label ≡ x → bytes_eq x y ≡ true → count (bytes_eq label) (x ∷ y ∷ xs) ≤ 1 → true ≡ false
unfolding count
two_counted label x y xs e f h =
    let a : bytes_eq label x ≡ true = ap (λ (z : Text). bytes_eq z x) e ∙ itself x in
    let b : bytes_eq label y ≡ true = ap (λ (z : Text). bytes_eq z y) e ∙ f in
    let n : ℕ = count (bytes_eq label) xs in
    let k : 1 + (1 + n) ≤ 1 = subst (λ (m : ℕ). m ≤ 1) (ap (λ (c : Bool). cond c (1 + cond (bytes_eq label y) (1 + n) n) (cond (bytes_eq label y) (1 + n) n)) a ∙ ap (λ (c : Bool). 1 + cond c (1 + n) n) b) h in
    absurd (omega arith)

-- two columns with other names keep other names
pair_differs : (pairs : List Rename) (n m : Text) (xs : List Text) → bytes_eq n m ≡ false → OnceEach pairs (renamed pairs n ∷ renamed pairs m ∷ xs) → bytes_eq (renamed pairs n) (renamed pairs m) ≡ false
pair_differs pairs n m xs other once =
    by (bytes_eq (renamed pairs n) (renamed pairs m)) refl (find (λ (q : Rename). bytes_eq q.field n) pairs) refl (find (λ (q : Rename). bytes_eq q.field m) pairs) refl
  where
    by : (b : Bool) → bytes_eq (renamed pairs n) (renamed pairs m) ≡ b → (o : Option Rename) → find (λ (q : Rename). bytes_eq q.field n) pairs ≡ o → (r : Option Rename) → find (λ (q : Rename). bytes_eq q.field m) pairs ≡ r
        → bytes_eq (renamed pairs n) (renamed pairs m) ≡ false
    by false e o f r g = e
    by true e (Some p) f r g = absurd (true≢false (two_counted p.label (renamed pairs n) (renamed pairs m) xs (sym (renamed_found pairs n p f)) e (once n p f)))
    by true e None f (Some p) g =
        let same : renamed pairs n ≡ renamed pairs m = (bytes_eq-Decides (renamed pairs n) (renamed pairs m)).0 e in
        absurd (true≢false (two_counted p.label (renamed pairs n) (renamed pairs m) xs (sym (renamed_found pairs m p g) ∙ sym same) e (once m p g)))
    by true e None f None g = (λ i. bytes_eq (renamed_not pairs n f i) (renamed_not pairs m g i)) ∙ other

all_differ : (pairs : List Rename) (n : Text) (ms : List Text) → AllByRecursion (λ m. bytes_eq n m ≡ false) ms → OnceEach pairs (renamed pairs n ∷ map (renamed pairs) ms) → AllByRecursion (λ m. bytes_eq (renamed pairs n) m ≡ false) (map (renamed pairs) ms)
all_differ pairs n [] h once = tt
all_differ pairs n (m ∷ ms) h once =
    (pair_differs pairs n m (map (renamed pairs) ms) h.0 once, all_differ pairs n ms h.1 (once_skip pairs (renamed pairs n) (renamed pairs m) (map (renamed pairs) ms) once))

names_differ : (pairs : List Rename) (names : List Text) → IsDistinct bytes_eq names → OnceEach pairs (map (renamed pairs) names) → IsDistinct bytes_eq (map (renamed pairs) names)
unfolding IsDistinct
names_differ pairs [] h once = tt
names_differ pairs (n ∷ names) h once =
    (all_differ pairs n names h.0 once, names_differ pairs names h.1 (once_less pairs (renamed pairs n) (map (renamed pairs) names) once))

-- the new names are distinct, where no item is refused
pub renamed_distinct : (pairs : List Rename) (names : List Text) → IsDistinct bytes_eq names
    → last_or None (numbers_where (λ (p : Rename). is_twice (map (renamed pairs) names) p.label) pairs) ≡ None
    → IsDistinct bytes_eq (map (renamed pairs) names)
renamed_distinct pairs names distinct none =
    let new : List Text = map (renamed pairs) names in
    let empty : numbers_from 0 (λ (q : Rename). is_twice new q.label) pairs ≡ [] = none_last (numbers_where (λ (q : Rename). is_twice new q.label) pairs) none in
    names_differ pairs names distinct (λ name p found.
    subst (λ (n : ℕ). n ≤ 1) (sym (counted (bytes_eq p.label) new))
    (ltb-false 1 (count_by (bytes_eq p.label) new) (none_pass 0 (λ (q : Rename). is_twice new q.label) name pairs p empty found)))

-- the new name from what stands at the place of the old one
pub name_there : (pairs : List Rename) (name : Text) (p : Rename) → Some p ≡ slice_get pairs (position_or_len (bytes_eq name) (map (λ (q : Rename). q.field) pairs)) → p.label ≡ renamed pairs name
name_there pairs name p h = sym (renamed_found pairs name p (sym (pair_at_place pairs name) ∙ sym h))

pub name_missing : (pairs : List Rename) (name : Text) → None ≡ slice_get pairs (position_or_len (bytes_eq name) (map (λ (q : Rename). q.field) pairs)) → name ≡ renamed pairs name
name_missing pairs name h = sym (renamed_not pairs name (sym (pair_at_place pairs name) ∙ sym h))

pub none_mapped : {A B : Type 0} (f : A → B) (o : Option A) → option_map f o ≡ None → o ≡ None
none_mapped f None e = refl
none_mapped f (Some x) e = absurd (true≢false (ap is_some e))

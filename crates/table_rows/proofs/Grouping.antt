-- One more row in its group.
use Rattle.std.proofs.Common.{◌≡◌, All, ℕ, zero, suc, ◌+◌, ◌<◌, ◌≤◌, Bool, true, false, cond, not, ◌||◌, List, [], ◌∷◌, ◌++◌, map, length, take, get_or, refl, sym, ap, ◌∙◌, set, append-nil, subst, length-take-le, one-add, arith}
use Rattle.std.specs.List.{IsDistinct, AllByRecursion, list_any, position_or_len}
use Rattle.std.proofs.lemmas.List.{map_more, length-map, length-take}
use Rattle.std.proofs.lemmas.List.Elements.{All-map}
use Rattle.indexmap.specs.IndexSet.{insert_key}
use Rattle.lists.specs.Lists.{numbers_where}
use Rattle.json_values.specs.Table.{RowValues, TableContent}
use Rattle.table_rows.specs.Keys.{same_values}
use Rattle.table_rows.specs.Groups.{keys_once, groups_of, with_member}
use Rattle.table_rows.specs.Grouping.{groups_by}
use Rattle.table_rows.proofs.Cells.{picked_cells}
use Rattle.table_terms.specs.Names.{Text, place_of}
use Rattle.table_rows.specs.Same.{rows_decide, rows_equivalent}
use Rattle.table_terms.proofs.Inserted.{inserted_all, insert_all-push}
use Rattle.table_rows.specs.Rows.{picked}
use Rattle.table_rows.proofs.Numbers.{numbers_where-push, numbers_where-none, numbers_from-below}

-- a key's numbers, with number n where the key is k
abbrev more : (RowValues → List ℕ) → RowValues → ℕ → RowValues → List ℕ
more f k n x = f x ++ cond (same_values x k) (n ∷ []) []

same_is : (x y : RowValues) → same_values x y ≡ true → x ≡ y
same_is x y e = (rows_decide x y).0 e

more_same : (f : RowValues → List ℕ) (k x : RowValues) (n : ℕ) → same_values k x ≡ true → more f k n x ≡ f x ++ n ∷ []
more_same f k x n e = ap (λ (b : Bool). f x ++ cond b (n ∷ []) []) (rows_equivalent.symm x k ∙ e)

more_other : (f : RowValues → List ℕ) (k x : RowValues) (n : ℕ) → same_values k x ≡ false → more f k n x ≡ f x
more_other f k x n e = ap (λ (b : Bool). f x ++ cond b (n ∷ []) []) (rows_equivalent.symm x k ∙ e) ∙ append-nil (f x)

others_stay : (f : RowValues → List ℕ) (k x : RowValues) (n : ℕ) (ks : List RowValues) → k ≡ x → AllByRecursion (λ y. same_values x y ≡ false) ks → map (more f k n) ks ≡ map f ks
others_stay f k x n [] e h = refl
others_stay f k x n (y ∷ ks) e h =
    let other : same_values k y ≡ false = subst (λ (z : RowValues). same_values z y ≡ false) (sym e) h.0 in
    λ i. more_other f k y n other i ∷ others_stay f k x n ks e h.1 i

insert_after : (x k : RowValues) (ks : List RowValues) → same_values k x ≡ false → insert_key same_values (x ∷ ks) k ≡ x ∷ insert_key same_values ks k
insert_after x k ks e =
    ap (λ (b : Bool). cond (b || list_any (same_values k) ks) (x ∷ ks) (x ∷ (ks ++ k ∷ []))) e ∙ by (list_any (same_values k) ks)
  where
    by : (b : Bool) → cond b (x ∷ ks) (x ∷ (ks ++ k ∷ [])) ≡ x ∷ cond b ks (ks ++ k ∷ [])
    by true = refl
    by false = refl

insert_present : (x k : RowValues) (ks : List RowValues) → same_values k x ≡ true → insert_key same_values (x ∷ ks) k ≡ x ∷ ks
insert_present x k ks e = ap (λ (b : Bool). cond (b || list_any (same_values k) ks) (x ∷ ks) (x ∷ (ks ++ k ∷ []))) e

place_here : (x k : RowValues) (ks : List RowValues) → same_values k x ≡ true → position_or_len (same_values k) (x ∷ ks) ≡ 0
place_here x k ks e = ap (λ (b : Bool). cond (not b) (1 + position_or_len (same_values k) ks) 0) e

place_after : (x k : RowValues) (ks : List RowValues) → same_values k x ≡ false → position_or_len (same_values k) (x ∷ ks) ≡ suc (position_or_len (same_values k) ks)
place_after x k ks e = ap (λ (b : Bool). cond (not b) (1 + position_or_len (same_values k) ks) 0) e ∙ one-add (position_or_len (same_values k) ks)

-- what is said of one more key at a list
abbrev OneMore : (RowValues → List ℕ) → RowValues → ℕ → List RowValues → Type 0
OneMore f k n ks = map (more f k n) (insert_key same_values ks k) ≡ with_member (map f ks) (position_or_len (same_values k) ks) n

one_more_first : (f : RowValues → List ℕ) (k x : RowValues) (n : ℕ) (ks : List RowValues) → AllByRecursion (λ y. same_values x y ≡ false) ks
    → (b : Bool) → same_values k x ≡ b → (same_values k x ≡ false → OneMore f k n ks) → OneMore f k n (x ∷ ks)
one_more_first f k x n ks others true e rest =
    ap (map (more f k n)) (insert_present x k ks e) ∙ (λ i. more_same f k x n e i ∷ others_stay f k x n ks (same_is k x e) others i)
    ∙ sym (ap (λ (p : ℕ). with_member (map f (x ∷ ks)) p n) (place_here x k ks e))
one_more_first f k x n ks others false e rest =
    ap (map (more f k n)) (insert_after x k ks e) ∙ (λ i. more_other f k x n e i ∷ rest e i)
    ∙ sym (ap (λ (p : ℕ). with_member (map f (x ∷ ks)) p n) (place_after x k ks e))

-- where a key that is new had no numbers
one_more : (f : RowValues → List ℕ) (k : RowValues) (n : ℕ) (ks : List RowValues) → IsDistinct same_values ks → (list_any (same_values k) ks ≡ false → f k ≡ []) → OneMore f k n ks
unfolding IsDistinct
one_more f k n [] distinct fresh = ap (λ (m : List ℕ). m ∷ []) (more_same f k k n ((rows_decide k k).1 refl) ∙ ap (λ (m : List ℕ). m ++ n ∷ []) (fresh refl))
one_more f k n (x ∷ ks) distinct fresh =
    one_more_first f k x n ks distinct.0 (same_values k x) refl
    (λ e. one_more f k n ks distinct.1 (λ h. fresh (ap (λ (b : Bool). b || list_any (same_values k) ks) e ∙ h)))

pub keys_once-push : (keys : List RowValues) (k : RowValues) → keys_once (keys ++ k ∷ []) ≡ insert_key same_values (keys_once keys) k
keys_once-push keys k = insert_all-push same_values [] keys k

-- one more row goes to the group of its key
pub groups_of-push : (keys : List RowValues) (k : RowValues) → IsDistinct same_values (keys_once keys)
    → groups_of (keys ++ k ∷ []) ≡ with_member (groups_of keys) (position_or_len (same_values k) (keys_once keys)) (length keys)
groups_of-push keys k distinct =
    let f : RowValues → List ℕ = λ (x : RowValues). numbers_where (same_values x) keys in
    let fresh : list_any (same_values k) (keys_once keys) ≡ false → f k ≡ [] = λ h. numbers_where-none (same_values k) keys (sym (inserted_all same_values rows_decide k [] keys) ∙ h) in
    (λ i. map (λ (x : RowValues). numbers_where-push (same_values x) keys k i) (keys_once-push keys k i))
    ∙ one_more f k (length keys) (keys_once keys) distinct fresh

-- the keys of the first i + 1 rows
pub keys_row : (places : List ℕ) (rows : List RowValues) (i : ℕ) (d : RowValues) → i < length rows
    → keys_once (map (picked places) (take (i + 1) rows)) ≡ insert_key same_values (keys_once (map (picked places) (take i rows))) (picked places (get_or rows i d))
keys_row places rows i d less =
    ap keys_once (map_more (picked places) rows i d less) ∙ keys_once-push (map (picked places) (take i rows)) (picked places (get_or rows i d))

-- the groups of the first i + 1 rows
pub groups_row : (places : List ℕ) (rows : List RowValues) (i : ℕ) (d : RowValues) → i < length rows → IsDistinct same_values (keys_once (map (picked places) (take i rows)))
    → groups_of (map (picked places) (take (i + 1) rows)) ≡ with_member (groups_of (map (picked places) (take i rows))) (position_or_len (same_values (picked places (get_or rows i d))) (keys_once (map (picked places) (take i rows)))) i
groups_row places rows i d less distinct =
    let keys : List RowValues = map (picked places) (take i rows) in
    let key : RowValues = picked places (get_or rows i d) in
    let long : length keys ≡ i = length-map (take i rows) (picked places) ∙ length-take-le i rows (omega arith) in
    ap groups_of (map_more (picked places) rows i d less) ∙ groups_of-push keys key distinct
    ∙ ap (with_member (groups_of keys) (position_or_len (same_values key) (keys_once keys))) long

-- the numbers in the groups of the first i rows are numbers of rows
pub groups_below : (places : List ℕ) (rows : List RowValues) (i : ℕ) → All (All (λ n. n < length rows)) (groups_of (map (picked places) (take i rows)))
groups_below places rows i =
    let keys : List RowValues = map (picked places) (take i rows) in
    let long = length-map (take i rows) (picked places) in
    let short = length-take {A = RowValues} i rows in
    All-map (All (λ n. n < length rows)) (λ (key : RowValues). numbers_where (same_values key) keys) (keys_once keys)
    (λ k d less. numbers_from-below (length rows) 0 (same_values (get_or (keys_once keys) k d)) keys (omega (arith, long, short)))

-- a list with a number more, by its places
pub member_there : (ms : List (List ℕ)) (p n : ℕ) (d : List ℕ) → p < length ms → set ms p (get_or ms p d ++ n ∷ []) ≡ with_member ms p n
member_there [] p n d less = absurd (omega arith)
member_there (m ∷ ms) zero n d less = refl
member_there (m ∷ ms) (suc p) n d less = ap (λ (r : List (List ℕ)). m ∷ r) (member_there ms p n d (omega arith))

pub member_new : (ms : List (List ℕ)) (p n : ℕ) → length ms ≤ p → p ≤ length ms → ms ++ (n ∷ []) ∷ [] ≡ with_member ms p n
member_new [] p n e f = refl
member_new (m ∷ ms) zero n e f = absurd (omega arith)
member_new (m ∷ ms) (suc p) n e f = ap (λ (r : List (List ℕ)). m ∷ r) (member_new ms p n (omega arith) (omega arith))

stay_first : (k x : RowValues) (ks : List RowValues) (m : List ℕ) (ms : List (List ℕ)) (n : ℕ) → length ks ≡ length ms → (b : Bool) → same_values k x ≡ b
    → length (insert_key same_values ks k) ≡ length (with_member ms (position_or_len (same_values k) ks) n)
    → length (insert_key same_values (x ∷ ks) k) ≡ length (with_member (m ∷ ms) (position_or_len (same_values k) (x ∷ ks)) n)
stay_first k x ks m ms n long true e rest =
    ap length (insert_present x k ks e) ∙ ap suc long ∙ sym (ap (λ (p : ℕ). length (with_member (m ∷ ms) p n)) (place_here x k ks e))
stay_first k x ks m ms n long false e rest =
    ap length (insert_after x k ks e) ∙ ap suc rest ∙ sym (ap (λ (p : ℕ). length (with_member (m ∷ ms) p n)) (place_after x k ks e))

-- where there were as many keys as lists, there still are
pub counts_stay : (k : RowValues) (ks : List RowValues) (ms : List (List ℕ)) (n : ℕ) → length ks ≡ length ms → length (insert_key same_values ks k) ≡ length (with_member ms (position_or_len (same_values k) ks) n)
counts_stay k [] [] n e = refl
counts_stay k [] (m ∷ ms) n e = absurd (omega (arith, e))
counts_stay k (x ∷ ks) [] n e = absurd (omega (arith, e))
counts_stay k (x ∷ ks) (m ∷ ms) n e =
    let rest : length ks ≡ length ms = omega (arith, e) in
    stay_first k x ks m ms n rest (same_values k x) refl (counts_stay k ks ms n rest)

-- groups by the places of fields are groups by the fields
pub grouped : (t : TableContent) (names fields : List Text) {by : List ℕ} {rows : List RowValues} {groups : List (List ℕ)}
    → by ≡ map (place_of names) fields → names ≡ t.names → rows ≡ t.rows → groups ≡ groups_of (map (picked by) rows) → groups ≡ groups_by t fields
grouped t names fields places named same made =
    made ∙ (λ i. groups_of (map (picked ((places ∙ ap (λ (ns : List Text). map (place_of ns) fields) named) i)) (same i))) ∙ ap groups_of (picked_cells t.names fields t.rows)

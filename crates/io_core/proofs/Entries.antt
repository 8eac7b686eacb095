-- The entries of the files in memory: the entry of a name, and what a change of one entry leaves.
use Rattle.std.proofs.Common.{suc, zero, ◌≡◌, ◌≢◌, ℕ, ◌<◌, ◌≤◌, Bool, true, false, not, cond, ltb, List, [], ◌∷◌, ◌++◌, length, get_or, Option, Some, None, option_map, option_and_then, unwrap_or, max, refl, sym, ap, ◌∙◌, subst, arith}
use Rattle.std.proofs.Math.ListN.{set}
use Rattle.std.specs.List.{find, position, position_or_len, slice_get}
use Rattle.std.specs.Option.{option_or}
use Rattle.std.specs.Str.{bytes_eq}
use Rattle.std.proofs.lemmas.Bool.{false≢true}
use Rattle.std.proofs.lemmas.Bool.Decides.{nat_tests}
use Rattle.std.proofs.lemmas.List.Folds.{find_at, find-set, find-append}
use Rattle.std.proofs.lemmas.List.Sums.{prefix_len_stops}
use Rattle.std.proofs.lemmas.Option.{slice_get-get_or, slice_get_past}
use Rattle.std.proofs.lemmas.Slice.Eq.{bytes_eq-Decides}
use Rattle.io_core.specs.Contents.{Content}
use Rattle.io_core.specs.Memory.{EntryState, EntryBecame, entry_of, held_of, holding, readied, has_no_room, is_full_for}

abbrev pub named : Content → EntryState → Bool
named name entry = bytes_eq entry.name name

-- where a place was found, it is the first that passes
place_cases : {X : Type 0} (p : X → Bool) (xs : List X) (i : ℕ) (b : Bool) → b ≡ ltb (position_or_len p xs) (length xs) → Some i ≡ cond b (Some (position_or_len p xs)) None
    → (i ≡ position_or_len p xs) × (i < length xs)
place_cases p xs i true e h = let same : i ≡ position_or_len p xs = cc in (same, grind (arith, nat_tests))
place_cases p xs i false e h = absurd (cc)

pub place_found : {X : Type 0} (p : X → Bool) (xs : List X) (i : ℕ) → Some i ≡ position p xs → (i ≡ position_or_len p xs) × (i < length xs)
place_found p xs i h = place_cases p xs i _ refl h

absent_cases : {X : Type 0} (p : X → Bool) (xs : List X) (b : Bool) → b ≡ ltb (position_or_len p xs) (length xs) → None ≡ cond b (Some (position_or_len p xs)) None → length xs ≤ position_or_len p xs
absent_cases p xs true e h = absurd (cc)
absent_cases p xs false e h = grind (arith, nat_tests)

-- where no place was found, no element passes
pub none_found : {X : Type 0} (p : X → Bool) (xs : List X) → None ≡ position p xs → find p xs ≡ None
none_found p xs h = find_at p xs ∙ slice_get_past xs _ (absent_cases p xs _ refl h)

-- the entry at the place of a name
pub entry_at : (entries : List EntryState) (name : Content) (i : ℕ) (d : EntryState) → Some i ≡ position (named name) entries → entry_of entries name ≡ Some (get_or entries i d)
entry_at entries name i d h =
    let place = place_found (named name) entries i h in
    find_at (named name) entries ∙ ap (slice_get entries) (sym place.0) ∙ slice_get-get_or entries i d place.1

true_from_not : (b : Bool) → not b ≡ false → b ≡ true
true_from_not true h = refl
true_from_not false h = absurd (false≢true (sym h))

-- it has that name
pub name_at : (entries : List EntryState) (name : Content) (i : ℕ) (d : EntryState) → Some i ≡ position (named name) entries → (get_or entries i d).name ≡ name
name_at entries name i d h =
    let place = place_found (named name) entries i h in
    let stops = prefix_len_stops (λ entry. not (named name entry)) entries d (let e = place.0 in let w = place.1 in omega arith) in
    let here : named name (get_or entries i d) ≡ true = true_from_not _ (subst (λ k. not (named name (get_or entries k d)) ≡ false) (sym place.0) stops) in
    (bytes_eq-Decides _ _).0 here

other_named : (a b : Content) → a ≢ b → bytes_eq a b ≡ false
other_named a b h = elim (bytes_eq a b) as (λ v. bytes_eq a b ≡ v → v ≡ false) [ true ↦ (λ e. absurd (h ((bytes_eq-Decides a b).0 e))) | false ↦ (λ e. refl) ] refl

-- a write of an element that does not pass where none passed
find-set_other : {X : Type 0} (p : X → Bool) (xs : List X) (i : ℕ) (y d : X) → p y ≡ false → p (get_or xs i d) ≡ false → find p (set xs i y) ≡ find p xs
find-set_other p [] i y d h k = refl
find-set_other p (x ∷ xs) zero y d h k = rw (h, k) refl
find-set_other p (x ∷ xs) (suc i) y d h k = ap (λ o. cond (p x) (Some x) o) (find-set_other p xs i y d h k)

-- the entry of a name was changed
pub EntryBecame-set : (entries : List EntryState) (name : Content) (i : ℕ) (d entry : EntryState) → Some i ≡ position (named name) entries → entry.name ≡ name → EntryBecame entries (set entries i entry) name entry
EntryBecame-set entries name i d entry h same =
    let place = place_found (named name) entries i h in
    record {
      there = find-set (named name) entries i entry place.0 place.1 ((bytes_eq-Decides _ _).1 same);
      others = λ other apart. find-set_other (named other) entries i entry d (other_named _ _ (λ e. apart (sym e ∙ same)))
          (other_named _ _ (λ e. apart (sym e ∙ name_at entries name i d h)));
    }

or_none : {X : Type 0} (o : Option X) → option_or o None ≡ o
or_none None = refl
or_none (Some x) = refl

-- the entry of a new name was added
pub EntryBecame-push : (entries : List EntryState) (name : Content) (entry : EntryState) → None ≡ position (named name) entries → entry.name ≡ name → EntryBecame entries (entries ++ entry ∷ []) name entry
EntryBecame-push entries name entry h same = record {
  there = find-append (named name) entries (entry ∷ []) ∙ rw (none_found (named name) entries h, (bytes_eq-Decides entry.name name).1 same) refl;
  others = λ other apart. find-append (named other) entries (entry ∷ []) ∙ rw (other_named entry.name other (λ e. apart (sym e ∙ same))) (or_none (find (named other) entries));
}

-- the bytes of a name
pub held_absent : (old entries shown : List EntryState) (name : Content) → entries ≡ old → shown ≡ entries → None ≡ position (named name) shown → option_and_then held_of (entry_of old name) ≡ None
held_absent old entries shown name e f h = ap (option_and_then held_of) (none_found (named name) old (subst (λ l. None ≡ position (named name) l) (f ∙ e) h))

pub held_at : (old entries shown : List EntryState) (name : Content) (i : ℕ) (d : EntryState) → entries ≡ old → shown ≡ entries → Some i ≡ position (named name) shown → d ≡ get_or entries i d
    → option_and_then held_of (entry_of old name) ≡ held_of d
held_at old entries shown name i d e f h there =
    ap (option_and_then held_of) (entry_at old name i d (subst (λ l. Some i ≡ position (named name) l) (f ∙ e) h) ∙ ap Some (ap (λ l. get_or l i d) (sym e) ∙ sym there))

-- ---- a name that was put

abbrev put_entry : List EntryState → Content → Content → EntryState
put_entry entries name bytes = holding name bytes (max (unwrap_or (option_map (λ e. e.bytes.room) (entry_of entries name)) 0) (length bytes))

put_here : (entries : List EntryState) (name bytes : Content) (i : ℕ) (was entry : EntryState) → Some i ≡ position (named name) entries → was ≡ get_or entries i was
    → entry ≡ holding was.name bytes (max was.bytes.room (length bytes)) → EntryBecame entries (set entries i entry) name (put_entry entries name bytes)
put_here entries name bytes i was entry place there filled =
    let same : was.name ≡ name = ap (λ x. x.name) there ∙ name_at entries name i was place in
    let found : entry_of entries name ≡ Some was = entry_at entries name i was place ∙ ap Some (sym there) in
    let whole : entry ≡ put_entry entries name bytes = rw found (filled ∙ ap (λ n. holding n bytes (max was.bytes.room (length bytes))) same) in
    subst (λ x. EntryBecame entries (set entries i entry) name x) whole (EntryBecame-set entries name i was entry place (ap (λ x. x.name) filled ∙ same))

pub put_at : (old entries shown : List EntryState) (name bytes : Content) (i : ℕ) (was wide entry : EntryState) → entries ≡ old → shown ≡ entries → Some i ≡ position (named name) shown → was ≡ get_or entries i was
    → wide ≡ record { name = was.name; is_there = was.is_there; bytes = record { held = was.bytes.held; room = max was.bytes.room (length bytes) } } → entry ≡ holding wide.name bytes wide.bytes.room
    → EntryBecame old (set entries i entry) name (put_entry old name bytes)
put_at old entries shown name bytes i was wide entry e f h there widened filled =
    let place : Some i ≡ position (named name) entries = subst (λ l. Some i ≡ position (named name) l) f h in
    subst (λ l. EntryBecame l (set entries i entry) name (put_entry l name bytes)) e
    (put_here entries name bytes i was entry place there (filled ∙ ap (λ w. holding w.name bytes w.bytes.room) widened))

put_after : (entries : List EntryState) (name bytes : Content) (entry : EntryState) → None ≡ position (named name) entries → entry ≡ holding name bytes (length bytes)
    → EntryBecame entries (entries ++ entry ∷ []) name (put_entry entries name bytes)
put_after entries name bytes entry absent filled =
    let room : max (unwrap_or (option_map (λ e. e.bytes.room) (entry_of entries name)) 0) (length bytes) ≡ length bytes = rw (none_found (named name) entries absent) (omega arith) in
    subst (λ x. EntryBecame entries (entries ++ entry ∷ []) name x) (filled ∙ ap (holding name bytes) (sym room)) (EntryBecame-push entries name entry absent (ap (λ x. x.name) filled))

pub put_new : (old entries shown all : List EntryState) (name bytes : Content) (made entry : EntryState) → entries ≡ old → shown ≡ entries → None ≡ position (named name) shown
    → made ≡ record { name = name; is_there = false; bytes = record { held = []; room = length bytes } } → entry ≡ holding made.name bytes made.bytes.room → all ≡ entries ++ entry ∷ []
    → EntryBecame old all name (put_entry old name bytes)
put_new old entries shown all name bytes made entry e f h ready filled pushed =
    let absent : None ≡ position (named name) entries = subst (λ l. None ≡ position (named name) l) f h in
    rw pushed (subst (λ l. EntryBecame l (entries ++ entry ∷ []) name (put_entry l name bytes)) e (put_after entries name bytes entry absent (filled ∙ ap (λ m. holding m.name bytes m.bytes.room) ready)))

-- a name that was made ready
pub ready_at : (old entries shown : List EntryState) (name : Content) (room i : ℕ) (was entry : EntryState) → entries ≡ old → shown ≡ entries → Some i ≡ position (named name) shown → was ≡ get_or entries i was
    → entry ≡ record { name = was.name; is_there = was.is_there; bytes = record { held = was.bytes.held; room = max was.bytes.room room } }
    → EntryBecame old (set entries i entry) name (readied (entry_of old name) name room)
ready_at old entries shown name room i was entry e f h there widened =
    let place : Some i ≡ position (named name) entries = subst (λ l. Some i ≡ position (named name) l) f h in
    let same : was.name ≡ name = ap (λ x. x.name) there ∙ name_at entries name i was place in
    let found : entry_of entries name ≡ Some was = entry_at entries name i was place ∙ ap Some (sym there) in
    let whole : entry ≡ readied (entry_of entries name) name room = rw found widened in
    subst (λ l. EntryBecame l (set entries i entry) name (readied (entry_of l name) name room)) e
    (subst (λ x. EntryBecame entries (set entries i entry) name x) whole (EntryBecame-set entries name i was entry place (ap (λ x. x.name) widened ∙ same)))

pub ready_new : (old entries shown all : List EntryState) (name : Content) (room : ℕ) (entry : EntryState) → entries ≡ old → shown ≡ entries → None ≡ position (named name) shown
    → entry ≡ record { name = name; is_there = false; bytes = record { held = []; room = room } } → all ≡ entries ++ entry ∷ [] → EntryBecame old all name (readied (entry_of old name) name room)
ready_new old entries shown all name room entry e f h ready pushed =
    let absent : None ≡ position (named name) entries = subst (λ l. None ≡ position (named name) l) f h in
    let whole : entry ≡ readied (entry_of entries name) name room = rw (none_found (named name) entries absent) ready in
    rw pushed (subst (λ l. EntryBecame l (entries ++ entry ∷ []) name (readied (entry_of l name) name room)) e
    (subst (λ x. EntryBecame entries (entries ++ entry ∷ []) name x) whole (EntryBecame-push entries name entry absent (ap (λ x. x.name) ready))))

-- ---- a name to write under

pub no_room_absent : (entries : List EntryState) (name : Content) (count : ℕ) → None ≡ position (named name) entries → has_no_room entries name count ≡ true
no_room_absent entries name count h = rw (none_found (named name) entries h) refl

pub no_room_at : (entries : List EntryState) (name : Content) (count i : ℕ) (d : EntryState) → Some i ≡ position (named name) entries → d ≡ get_or entries i d → has_no_room entries name count ≡ is_full_for d.bytes count
no_room_at entries name count i d h there = ap (λ o. unwrap_or (option_map (λ e. is_full_for e.bytes count) o) true) (entry_at entries name i d h ∙ ap Some (sym there))

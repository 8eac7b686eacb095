-- What one call of the files in memory leaves.
use Rattle.std.proofs.Common.{◌≡◌, ℕ, ◌-◌, ◌<◌, ◌≤◌, Bool, true, false, not, ◌||◌, List, [], ◌++◌, length, take, get_or, Option, Some, None, Result, Ok, Err, OnOk, OnErr, option_map, option_and_then, unwrap_or, is_some, min, ltb, leb, ◌&&◌, refl, sym, ap, ◌∙◌, subst, arith}
use Rattle.std.proofs.lemmas.Bool.{false≢true}
use Rattle.std.proofs.lemmas.Bool.Decides.{nat_tests}
use Rattle.std.proofs.Math.ListN.{set}
use Rattle.std.specs.List.{position}
use Rattle.std.specs.Str.{bytes_eq}
use Rattle.std.proofs.lemmas.List.{set-get_or}
use Rattle.std.proofs.lemmas.Slice.Eq.{bytes_eq-Decides}
use Rattle.std.specs.Bool.{if◌then◌else◌}
use Rattle.io_core.specs.Counts.{raised}
use Rattle.io_core.specs.Contents.{Content, Holds}
use Rattle.io_core.specs.Memory.{Calls, EntryState, FilesState, EntryBecame, entry_of, held_of, holding, readied, has_no_room, is_full_for, next, next_fails, appended, create_fails, append_fails, entry_appended, files_created, files_create_failed, files_appended, files_append_failed}
use Rattle.io_core.proofs.Entries.{named, entry_at, name_at, no_room_at, EntryBecame-set}

not_swap : (b x : Bool) → b ≡ not x → x ≡ not b
not_swap b true e = sym (ap not e)
not_swap b false e = sym (ap not e)

no_room_cases : (o : Option EntryState) → unwrap_or (option_map (λ e. is_full_for e.bytes 0) o) true ≡ not (is_some o)
no_room_cases None = refl
no_room_cases (Some e) = refl

-- whether a creation fails
pub create_fails_is : (view old : FilesState) (shown : List EntryState) (name : Content) (listed allowed : Bool) → view ≡ old → shown ≡ view.entries → listed ≡ next_fails view.creates
    → allowed ≡ not (listed || has_no_room shown name 0) → create_fails old name ≡ not allowed
create_fails_is view old shown name listed allowed e f l h =
    let same : create_fails view name ≡ (listed || has_no_room shown name 0) = ap (λ b. b || not (is_some (entry_of view.entries name))) (sym l)
    ∙ ap (λ b. listed || b) (sym (no_room_cases (entry_of view.entries name)) ∙ ap (λ s. has_no_room s name 0) (sym f)) in
    subst (λ s. create_fails s name ≡ not allowed) e (same ∙ not_swap allowed _ h)

-- whether an append fails
pub append_fails_is : (view old : FilesState) (shown : List EntryState) (name : Content) (count : ℕ) (listed allowed : Bool) → view ≡ old → shown ≡ view.entries → listed ≡ next_fails view.appends
    → allowed ≡ not (listed || has_no_room shown name count) → append_fails old name count ≡ not allowed
append_fails_is view old shown name count listed allowed e f l h =
    let same : append_fails view name count ≡ (listed || has_no_room shown name count) = ap (λ b. b || has_no_room view.entries name count) (sym l) ∙ ap (λ s. listed || has_no_room s name count) (sym f) in
    subst (λ s. append_fails s name count ≡ not allowed) e (same ∙ not_swap allowed _ h)

-- the name holds what its entry does
pub Holds-became : (old new : List EntryState) (name bytes : Content) (entry : EntryState) → EntryBecame old new name entry → held_of entry ≡ Some bytes
    → Holds (λ n. option_and_then held_of (entry_of old n)) (λ n. option_and_then held_of (entry_of new n)) name bytes
Holds-became old new name bytes entry h there = record {
  there = ap (option_and_then held_of) h.there ∙ there;
  others = λ other apart. ap (option_and_then held_of) (h.others other apart);
}

-- a name that was created
pub created_at : (old entries shown : List EntryState) (name : Content) (i : ℕ) (was entry : EntryState) → entries ≡ old → shown ≡ entries → Some i ≡ position (named name) shown → was ≡ get_or entries i was
    → entry ≡ holding was.name [] was.bytes.room → EntryBecame old (set entries i entry) name (holding name [] (unwrap_or (option_map (λ e. e.bytes.room) (entry_of old name)) 0))
created_at old entries shown name i was entry e f h there emptied =
    let place : Some i ≡ position (named name) entries = subst (λ l. Some i ≡ position (named name) l) f h in
    let same : was.name ≡ name = ap (λ x. x.name) there ∙ name_at entries name i was place in
    let found : entry_of entries name ≡ Some was = entry_at entries name i was place ∙ ap Some (sym there) in
    let whole : entry ≡ holding name [] (unwrap_or (option_map (λ e. e.bytes.room) (entry_of entries name)) 0) = rw found (emptied ∙ ap (λ n. holding n [] was.bytes.room) same) in
    subst (λ l. EntryBecame l (set entries i entry) name (holding name [] (unwrap_or (option_map (λ e. e.bytes.room) (entry_of l name)) 0))) e
    (subst (λ x. EntryBecame entries (set entries i entry) name x) whole (EntryBecame-set entries name i was entry place (ap (λ x. x.name) emptied ∙ same)))

-- a name that was appended to: its entry before, and after
pub appended_at : (old entries shown : List EntryState) (name piece : Content) (most i : ℕ) (was entry : EntryState) → entries ≡ old → shown ≡ entries → Some i ≡ position (named name) shown
    → was ≡ get_or entries i was → entry ≡ entry_appended was most piece → (entry_of old name ≡ Some was) × EntryBecame old (set entries i entry) name (entry_appended was most piece)
appended_at old entries shown name piece most i was entry e f h there appended =
    let place : Some i ≡ position (named name) entries = subst (λ l. Some i ≡ position (named name) l) f h in
    let same : was.name ≡ name = ap (λ x. x.name) there ∙ name_at entries name i was place in
    let found : entry_of entries name ≡ Some was = entry_at entries name i was place ∙ ap Some (sym there) in
    let became = subst (λ x. EntryBecame entries (set entries i entry) name x) appended (EntryBecame-set entries name i was entry place (ap (λ x. x.name) appended ∙ same)) in
    subst (λ l. (entry_of l name ≡ Some was) × EntryBecame l (set entries i entry) name (entry_appended was most piece)) e (found, became)

-- the name holds what it did, and the piece
pub appended_holds : (old new : List EntryState) (name piece : Content) (most n : ℕ) (was : EntryState) → entry_of old name ≡ Some was → EntryBecame old new name (entry_appended was most piece)
    → unwrap_or (held_of was) [] ≡ was.bytes.held → n ≡ appended was.bytes most (length piece)
    → Holds (λ m. option_and_then held_of (entry_of old m)) (λ m. option_and_then held_of (entry_of new m)) name (unwrap_or (option_and_then held_of (entry_of old name)) [] ++ take n piece)
appended_holds old new name piece most n was found became none count =
    let bytes : was.bytes.held ++ take (appended was.bytes most (length piece)) piece ≡ unwrap_or (option_and_then held_of (entry_of old name)) [] ++ take n piece =
    rw (found, count) (ap (λ l. l ++ take (appended was.bytes most (length piece)) piece) (sym none)) in
    Holds-became old new name _ _ became (ap Some bytes)

not_full : (listed full : Bool) → true ≡ not (listed || full) → full ≡ false
not_full true full h = absurd (false≢true (sym h))
not_full false true h = absurd (false≢true (sym h))
not_full false false h = refl

some_cases : (room held most len n : ℕ) → 1 ≤ most → n ≡ min len (min most (room - held)) → (ltb 0 len && leb room held) ≡ false → (n ≤ len) × (0 < len → 0 < n)
some_cases room held most len n some count free = (omega arith, λ more. grind (arith, nat_tests))

-- a piece that finds room is taken in part, where it is not empty
pub some_appended : (entries shown : List EntryState) (name : Content) (len most n i : ℕ) (was : EntryState) (listed : Bool) → shown ≡ entries → true ≡ not (listed || has_no_room shown name len)
    → Some i ≡ position (named name) shown → was ≡ get_or entries i was → 1 ≤ most → n ≡ appended was.bytes most len → (n ≤ len) × (0 < len → 0 < n)
some_appended entries shown name len most n i was listed f h place there some count =
    let full = no_room_at shown name len i was place (there ∙ ap (λ l. get_or l i was) (sym f)) in
    some_cases was.bytes.room (length was.bytes.held) most len n some count (sym full ∙ not_full listed _ h)

-- ---- a name that was made ready

readied_holds : (o : Option EntryState) (name : Content) (room : ℕ) → option_and_then held_of (Some (readied o name room)) ≡ option_and_then held_of o
readied_holds None name room = refl
readied_holds (Some e) name room = refl

-- no name holds anything else
pub ready_map : (old new : List EntryState) (name : Content) (room : ℕ) → EntryBecame old new name (readied (entry_of old name) name room)
    → (other : Content) → option_and_then held_of (entry_of new other) ≡ option_and_then held_of (entry_of old other)
ready_map old new name room h other =
    elim (bytes_eq other name) as (λ b. bytes_eq other name ≡ b → option_and_then held_of (entry_of new other) ≡ option_and_then held_of (entry_of old other)) [
      | true ↦ (λ e. let same = (bytes_eq-Decides other name).0 e in rw same (ap (option_and_then held_of) h.there ∙ readied_holds (entry_of old name) name room))
      | false ↦ (λ e. ap (option_and_then held_of) (h.others other (λ same. false≢true (sym e ∙ (bytes_eq-Decides other name).1 same))))
    ] refl

-- where its room could not be widened, all is as before
pub unready_map : (old entries : List EntryState) (i : ℕ) (was entry : EntryState) → entries ≡ old → was ≡ get_or entries i was → entry ≡ was
    → (other : Content) → option_and_then held_of (entry_of (set entries i entry) other) ≡ option_and_then held_of (entry_of old other)
unready_map old entries i was entry e there same other =
    ap (λ l. option_and_then held_of (entry_of l other)) (ap (set entries i) (same ∙ there) ∙ set-get_or entries i was ∙ e)

pub on_both : {T E P : Type 0} (r : Result T E) → OnOk r P → OnErr r P → P
on_both (Ok x) p q = p
on_both (Err e) p q = q

-- ---- all the rest of the files

pub created_after : (view old : FilesState) (calls : Calls) (entries : List EntryState) (fails : Bool) → view ≡ old → calls ≡ next view.creates → fails ≡ false
    → record view { entries = entries; creates = calls } ≡ (if fails then files_create_failed old else files_created old entries)
created_after view old calls entries fails e counted f = rw (f, counted) (ap (λ s. files_created s entries) e)

pub create_failed_after : (view old : FilesState) (calls : Calls) (count : ℕ) (entries : List EntryState) (fails : Bool) → view ≡ old → calls ≡ next view.creates → count ≡ raised 1 view.write_faults → fails ≡ true
    → record view { creates = calls; write_faults = count } ≡ (if fails then files_create_failed old else files_created old entries)
create_failed_after view old calls count entries fails e counted rose f = rw (f, counted, rose) (ap files_create_failed e)

pub appended_after : (view old : FilesState) (calls : Calls) (entries : List EntryState) (fails : Bool) → view ≡ old → calls ≡ next view.appends → fails ≡ false
    → record view { entries = entries; appends = calls } ≡ (if fails then files_append_failed old else files_appended old entries)
appended_after view old calls entries fails e counted f = rw (f, counted) (ap (λ s. files_appended s entries) e)

pub append_failed_after : (view old : FilesState) (calls : Calls) (count : ℕ) (entries : List EntryState) (fails : Bool) → view ≡ old → calls ≡ next view.appends → count ≡ raised 1 view.write_faults → fails ≡ true
    → record view { appends = calls; write_faults = count } ≡ (if fails then files_append_failed old else files_appended old entries)
append_failed_after view old calls count entries fails e counted rose f = rw (f, counted, rose) (ap files_append_failed e)

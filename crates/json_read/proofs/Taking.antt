-- Objects that are read with the items of one array taken one by one.
use Rattle.std.proofs.Common.{ℕ, suc, ◌≡◌, ◌++◌, List, [], ◌∷◌, Bool, true, false, refl, ap, ◌∙◌, sym, subst, append_assoc, append-nil, Option, Some, None, is_some, Result, Ok, Err, ◌⊎◌, inl, inr}
use Rattle.std.specs.Prelude.{MatchBool, IfNone, IfOk, IfSome}
use Rattle.std.specs.Str.{bytes_eq}
use Rattle.numerals.specs.Bytes.{is_white, NextFails, drop_while}
use Rattle.json_values.specs.Grammar.{Mark}
use Rattle.json_values.specs.Json.{JsonValue, ItemList, FieldList, no_items, no_fields, items_of, fields_of, array, field}
use Rattle.json_values.specs.Lists.{items_list, fields_list, put, value_named}
use Rattle.json_values.specs.Seen.{json_value}
use Rattle.json_values.specs.declared.json.Json.{Json}
use Rattle.json_values.specs.declared.json.Json.TheVariants as json
use Rattle.json_read.specs.declared.reader.Fault.TheVariants.{Syntax}
use Rattle.json_read.specs.declared.reader.Stop.{Stop}
use Rattle.json_read.specs.declared.reader.taking.Taking.{Taking}
use Rattle.json_read.specs.declared.reader.taking.TakenObject.{TakenObject}
use Rattle.json_read.specs.Machine.{in_array, in_object, start, value, first_value, first_name, next_name, after}
use Rattle.json_read.specs.Reading.{AtFault, Reads, Passes, MembersSoFar, NameText, PassesAt, BreaksAt, outside, inside, past, Shows, ShowsPadded, ArrayText, ObjectText, FaultsAt}
use Rattle.numerals.specs.Bytes.{NextIsNot}
use Rattle.json_read.specs.Taking.{TakesOne, TakesAll, TookNamed, AreFieldsOf, IsTakenText, HasOtherMember, IsNoFirstArray, HasTakenArray, PutsOther, TakesFirst, HasValue, HasFirstArray, HasMember, ValueBreaks, TakesValue, TakesMember}
use Rattle.json_read.proofs.Arrays.{ItemsSoFar, array_empty, array_init, array_more, array_ends, array_item_breaks, array_comma_breaks, items_list-items_of}
use Rattle.json_read.proofs.Names.{ByteFault}
use Rattle.json_read.proofs.Objects.{object_empty, object_init, object_more, object_ends}
use Rattle.json_values.proofs.Putting.{put_on, put_here, flips, same_bytes, value_here, value_further}
use Rattle.json_values.proofs.Seen.{Member, fields_list-fields_of}
use Rattle.json_read.proofs.Texts.{text_value, text_end, text_whole}
use Rattle.json_read.proofs.Values.{SomePadded, padded_passes, padded_breaks, held_value, held_breaks}
use Rattle.json_read.proofs.Whiles.{next_fails_after}

-- ## What is taken

pub takes_none : (P : List JsonValue → Type 0) → TakesAll P P []
takes_none P vs p = subst P (sym (append-nil vs)) p

pub takes_more : (P M Q : List JsonValue → Type 0) (ws : List JsonValue) (v : JsonValue) → TakesAll P M ws → TakesOne M Q v → TakesAll P Q (ws ++ v ∷ [])
takes_more P M Q ws v all one vs p = subst Q (append_assoc vs ws (v ∷ [])) (one (vs ++ ws) (all vs p))

-- ## Arrays

abbrev pub ItemsTaken : ℕ → (List JsonValue → Type 0) → (List JsonValue → Type 0) → List ℕ → List ℕ → Type 0
ItemsTaken d P Q old new = (items : ItemList) × PassesAt (ItemsSoFar d items) (inside in_array d first_value) (inside in_array d value) old new × TakesAll P Q (items_list items)

pub items_none : (d : ℕ) (P : List JsonValue → Type 0) (old m1 new : List ℕ) → m1 ≡ drop_while is_white old → m1 ≡ 93 ∷ new → HasTakenArray d P P old new
items_none d P old m1 new w e = (no_items, array_empty d no_items old m1 new refl w e, takes_none P)

pub items_init : (d : ℕ) (P : List JsonValue → Type 0) (old m1 new : List ℕ) → m1 ≡ drop_while is_white old → new ≡ m1 → NextIsNot 93 new → ItemsTaken d P P old new
items_init d P old m1 new w s n = (no_items, array_init d no_items old m1 new refl w s n, takes_none P)

abbrev more_items : ItemList → Json → ItemList
more_items items j = items_of (items_list items ++ json_value j ∷ [])

is_pushed : (items : ItemList) (j : Json) → items_list (more_items items j) ≡ items_list items ++ json_value j ∷ []
is_pushed items j = items_list-items_of (items_list items ++ json_value j ∷ [])

takes_pushed : (P M Q : List JsonValue → Type 0) (items : ItemList) (j : Json) → TakesAll P M (items_list items) → TakesOne M Q (json_value j) → TakesAll P Q (items_list (more_items items j))
takes_pushed P M Q items j all one = subst (λ (ws : List JsonValue). TakesAll P Q ws) (sym (is_pushed items j)) (takes_more P M Q (items_list items) (json_value j) all one)

pub items_more : (d : ℕ) (P M Q : List JsonValue → Type 0) (j : Json) (old m1 m2 m3 new : List ℕ) → ItemsTaken d P M old m1 → PassesAt (ShowsPadded d j) (outside d value) (outside d after) m1 m2 → TakesOne M Q (json_value j) → m3 ≡ m2 → m3 ≡ 44 ∷ new → ItemsTaken d P Q old new
items_more d P M Q j old m1 m2 m3 new h p one s c =
    (more_items h.0 j, array_more d h.0 (more_items h.0 j) j old m1 m2 m3 new h.1 p (is_pushed h.0 j) s c, takes_pushed P M Q h.0 j h.2 one)

pub items_end : (d : ℕ) (P M Q : List JsonValue → Type 0) (j : Json) (old m1 m2 new : List ℕ) → ItemsTaken d P M old m1 → PassesAt (ShowsPadded d j) (outside d value) (outside d after) m1 m2 → TakesOne M Q (json_value j) → m2 ≡ 93 ∷ new → HasTakenArray d P Q old new
items_end d P M Q j old m1 m2 new h p one c =
    (more_items h.0 j, array_ends d h.0 (more_items h.0 j) j old m1 m2 new h.1 p (is_pushed h.0 j) c, takes_pushed P M Q h.0 j h.2 one)

abbrev pub ArrayBreaks : ℕ → Stop → List ℕ → List ℕ → Type 0
ArrayBreaks d e old new = AtFault (λ f. BreaksAt (λ t. (items : ItemList) × ArrayText d items t) (inside in_array d first_value) f old new) e

pub item_breaks : (d : ℕ) (P M : List JsonValue → Type 0) (e : Stop) (old m1 new : List ℕ) → ItemsTaken d P M old m1 → AtFault (λ f. BreaksAt (SomePadded d) (outside d value) f m1 new) e → ArrayBreaks d e old new
item_breaks d P M e old m1 new h b = array_item_breaks d h.0 e old m1 new h.1 b

pub items_comma_breaks : (d : ℕ) (P M : List JsonValue → Type 0) (j : Json) (e : Stop) (old m1 m2 m3 new : List ℕ) → ItemsTaken d P M old m1 → PassesAt (ShowsPadded d j) (outside d value) (outside d after) m1 m2 → NextFails is_white m2 → m3 ≡ m2 → NextIsNot 93 m3 → AtFault (ByteFault 44 m3 new) e → ArrayBreaks d e old new
items_comma_breaks d P M j e old m1 m2 m3 new h p w s c b = array_comma_breaks d h.0 j e old m1 m2 m3 new h.1 p w s c b

-- ## An array as a value

array_shown : (d inner : ℕ) (items : ItemList) (old m1 new : List ℕ) → suc inner ≡ d → old ≡ 91 ∷ m1 → PassesAt (ArrayText inner items) (inside in_array inner first_value) (past inner) m1 new → PassesAt (Shows d (json.List items)) (outside d value) (outside d after) old new
array_shown d inner items old m1 new up e a = held_value in_array first_value 91 d inner (ArrayText inner items) (json.List items) old m1 new up e (λ n l. refl) (λ s h. h) a

pub array_taken : (d inner : ℕ) (P Q : List JsonValue → Type 0) (a b : Taking) (old m1 m2 m3 new : List ℕ)
    → suc inner ≡ d → m1 ≡ drop_while is_white old → m1 ≡ 91 ∷ m2 → HasTakenArray inner P Q m2 m3 → new ≡ drop_while is_white m3 → a.is_taken ≡ false → b.is_taken ≡ true → b.fields ≡ a.fields → HasFirstArray d P Q a b old new
array_taken d inner P Q a b old m1 m2 m3 new up w e h u first is_taken same =
    let j : Json = json.List h.0 in
    let value_read : HasValue d j old new = record { passes = padded_passes d j old m1 m3 new w (array_shown d inner h.0 m1 m2 m3 up e h.1) u; trimmed = next_fails_after is_white m3 new u } in
    (j, value_read, record { items = h.0; is_array = refl; first = first; is_taken = is_taken; fields = same; all = h.2 })

pub array_breaks : (d inner : ℕ) (e : Stop) (old m1 m2 new : List ℕ) → suc inner ≡ d → m1 ≡ drop_while is_white old → m1 ≡ 91 ∷ m2 → ArrayBreaks inner e m2 new → ValueBreaks d e old new
array_breaks d inner e old m1 m2 new up w is h =
    padded_breaks d e old m1 new w (held_breaks in_array first_value 91 d inner (λ s. (items : ItemList) × ArrayText inner items s) e m1 m2 new up is (λ n l. refl) (λ s t. (json.List t.0, t.1)) h)

-- ## What a put makes of a look-up

pub value_put_other : (other name : List ℕ) (v : JsonValue) (fs : List Member) → bytes_eq name other ≡ false → value_named other (put fs name v) ≡ value_named other fs
value_put_other other name v [] e = value_further other (name, v) [] e
value_put_other other name v (f ∷ fs) e = go (bytes_eq f.0 name) refl (bytes_eq f.0 other) refl (value_put_other other name v fs e)
  where
    go : (b : Bool) → bytes_eq f.0 name ≡ b → (c : Bool) → bytes_eq f.0 other ≡ c → value_named other (put fs name v) ≡ value_named other fs → value_named other (put (f ∷ fs) name v) ≡ value_named other (f ∷ fs)
    go true h c k further =
        ap (λ (gs : List Member). value_named other gs) (put_here f fs name v h) ∙ value_further other (name, v) fs e
        ∙ sym (value_further other f fs (ap (λ (n : List ℕ). bytes_eq n other) (same_bytes f.0 name h) ∙ e))
    go false h true k further = ap (λ (gs : List Member). value_named other gs) (put_on f fs name v h) ∙ value_here other f (put fs name v) k ∙ sym (value_here other f fs k)
    go false h false k further =
        ap (λ (gs : List Member). value_named other gs) (put_on f fs name v h) ∙ value_further other f (put fs name v) k ∙ further ∙ sym (value_further other f fs k)

pub value_put_same : (other name : List ℕ) (v : JsonValue) (fs : List Member) → bytes_eq name other ≡ true → value_named other (put fs name v) ≡ Some v
value_put_same other name v [] e = value_here other (name, v) [] e
value_put_same other name v (f ∷ fs) e = go (bytes_eq f.0 name) refl (value_put_same other name v fs e)
  where
    go : (b : Bool) → bytes_eq f.0 name ≡ b → value_named other (put fs name v) ≡ Some v → value_named other (put (f ∷ fs) name v) ≡ Some v
    go true h further = ap (λ (gs : List Member). value_named other gs) (put_here f fs name v h) ∙ value_here other (name, v) fs e
    go false h further =
        ap (λ (gs : List Member). value_named other gs) (put_on f fs name v h)
        ∙ value_further other f (put fs name v) (ap (λ (n : List ℕ). bytes_eq f.0 n) (sym (same_bytes name other e)) ∙ h) ∙ further

-- the same is found in both, also after a put
both_put : (other name : List ℕ) (v : JsonValue) (fs gs : List Member) → value_named other fs ≡ value_named other gs → value_named other (put fs name v) ≡ value_named other (put gs name v)
both_put other name v fs gs e = go (bytes_eq name other) refl
  where
    go : (b : Bool) → bytes_eq name other ≡ b → value_named other (put fs name v) ≡ value_named other (put gs name v)
    go true h = value_put_same other name v fs h ∙ sym (value_put_same other name v gs h)
    go false h = value_put_other other name v fs h ∙ e ∙ sym (value_put_other other name v gs h)

-- ## Fields of an object

abbrev with_member : FieldList → List ℕ → JsonValue → FieldList
with_member whole name v = fields_of (put (fields_list whole) name v)

fields_of-fields_list : (fs : FieldList) → fields_of (fields_list fs) ≡ fs
fields_of-fields_list no_fields = refl
fields_of-fields_list (field name v fs) = ap (λ (gs : FieldList). field name v gs) (fields_of-fields_list fs)

takes_then : (P M Q : List JsonValue → Type 0) (ws : List JsonValue) → TakesAll P M ws → TakesAll M Q [] → TakesAll P Q ws
takes_then P M Q ws all none vs p = subst Q (append-nil (vs ++ ws)) (none (vs ++ ws) (all vs p))

after_member : (other : List ℕ) (whole : FieldList) (name : List ℕ) (v : JsonValue) → value_named other (fields_list (with_member whole name v)) ≡ value_named other (put (fields_list whole) name v)
after_member other whole name v = ap (λ (gs : List Member). value_named other gs) (fields_list-fields_of (put (fields_list whole) name v))

other_put : (P M Q : List JsonValue → Type 0) (wanted name : List ℕ) (v : JsonValue) (a b : Taking) (whole : FieldList) → AreFieldsOf P M wanted a.fields a.is_taken whole → PutsOther M Q wanted name v a b → AreFieldsOf P Q wanted b.fields b.is_taken (with_member whole name v)
other_put P M Q wanted name v a b whole h p = record {
  others = λ other e. after_member other whole name v ∙ both_put other name v (fields_list whole) (fields_list a.fields) (h.others other e) ∙ sym (ap (λ (gs : List Member). value_named other gs) p.fields);
  taken = subst (λ (t : Bool). MatchBool t (TookNamed P Q wanted (with_member whole name v)) ((with_member whole name v ≡ b.fields) × TakesAll P Q [])) (sym p.same) (go a.is_taken h.taken);
  absent = λ e. ap (λ (gs : List Member). value_named wanted gs) p.fields ∙ value_put_other wanted name v (fields_list a.fields) p.is_other ∙ h.absent (sym p.same ∙ e);
}
  where
    go : (t : Bool) → MatchBool t (TookNamed P M wanted whole) ((whole ≡ a.fields) × TakesAll P M []) → MatchBool t (TookNamed P Q wanted (with_member whole name v)) ((with_member whole name v ≡ b.fields) × TakesAll P Q [])
    go true k = (k.0, after_member wanted whole name v ∙ value_put_other wanted name v (fields_list whole) p.is_other ∙ k.1, takes_then P M Q (items_list k.0) k.2 p.none)
    go false k =
        (ap (λ (fs : FieldList). with_member fs name v) k.0 ∙ sym (ap (λ (gs : List Member). fields_of gs) p.fields) ∙ fields_of-fields_list b.fields, takes_then P M Q [] k.1 p.none)

-- nothing was taken before
none_before : (P M : List JsonValue → Type 0) (wanted : List ℕ) (fields whole : FieldList) (t : Bool) → t ≡ false → MatchBool t (TookNamed P M wanted whole) ((whole ≡ fields) × TakesAll P M []) → (whole ≡ fields) × TakesAll P M []
none_before P M wanted fields whole t e h = subst (λ (s : Bool). MatchBool s (TookNamed P M wanted whole) ((whole ≡ fields) × TakesAll P M [])) e h

takes_first : (P M Q : List JsonValue → Type 0) (ws : List JsonValue) → TakesAll P M [] → TakesAll M Q ws → TakesAll P Q ws
takes_first P M Q ws none all vs p = all vs (subst M (append-nil vs) (none vs p))

first_put : (P M Q : List JsonValue → Type 0) (wanted name : List ℕ) (v : JsonValue) (a b : Taking) (whole : FieldList) → AreFieldsOf P M wanted a.fields a.is_taken whole → bytes_eq name wanted ≡ true → TakesFirst M Q v a b → AreFieldsOf P Q wanted b.fields b.is_taken (with_member whole name v)
first_put P M Q wanted name v a b whole h named p =
    let before : (whole ≡ a.fields) × TakesAll P M [] = none_before P M wanted a.fields whole a.is_taken p.first h.taken in
    let differs : (other : List ℕ) → bytes_eq other wanted ≡ false → bytes_eq name other ≡ false = λ other e. ap (λ (n : List ℕ). bytes_eq n other) (same_bytes name wanted named) ∙ flips wanted other ∙ e in
    let found : value_named wanted (fields_list (with_member whole name v)) ≡ Some (array p.items) = after_member wanted whole name v ∙ value_put_same wanted name v (fields_list whole) named ∙ ap (λ (w : JsonValue). Some w) p.is_array in
    record {
      others = λ other e. after_member other whole name v ∙ value_put_other other name v (fields_list whole) (differs other e) ∙ h.others other e ∙ ap (λ (fs : FieldList). value_named other (fields_list fs)) (sym p.fields);
      taken = subst (λ (t : Bool). MatchBool t (TookNamed P Q wanted (with_member whole name v)) ((with_member whole name v ≡ b.fields) × TakesAll P Q [])) (sym p.is_taken) (p.items, found, takes_first P M Q (items_list p.items) before.1 p.all);
      absent = λ e. absurd (let t : true ≡ false = sym p.is_taken ∙ e in cc);
    }

member_put : (P M Q : List JsonValue → Type 0) (wanted name : List ℕ) (v : JsonValue) (a b : Taking) (whole : FieldList) → AreFieldsOf P M wanted a.fields a.is_taken whole → PutsOther M Q wanted name v a b ⊎ ((bytes_eq name wanted ≡ true) × TakesFirst M Q v a b) → AreFieldsOf P Q wanted b.fields b.is_taken (with_member whole name v)
member_put P M Q wanted name v a b whole h (inl p) = other_put P M Q wanted name v a b whole h p
member_put P M Q wanted name v a b whole h (inr p) = first_put P M Q wanted name v a b whole h p.0 p.1

-- ## Objects

abbrev pub MembersTaken : ℕ → (List JsonValue → Type 0) → (List JsonValue → Type 0) → List ℕ → FieldList → Bool → List ℕ → List ℕ → Type 0
MembersTaken d P Q wanted fields is_taken old new =
    (whole : FieldList) × PassesAt (MembersSoFar d whole) (inside in_object d first_name) (inside in_object d next_name) old new × AreFieldsOf P Q wanted fields is_taken whole

nothing_taken : (P : List JsonValue → Type 0) (wanted : List ℕ) (fs : FieldList) → fs ≡ no_fields → AreFieldsOf P P wanted fs false fs
nothing_taken P wanted fs is = record { others = λ other e. refl; taken = (refl, takes_none P); absent = λ e. ap (λ (gs : FieldList). value_named wanted (fields_list gs)) is }

abbrev finished : (P Q : List JsonValue → Type 0) (wanted : List ℕ) (a b : FieldList) (s t : Bool) (whole : FieldList) → (b ≡ a) × (t ≡ s) → AreFieldsOf P Q wanted a s whole → AreFieldsOf P Q wanted b t whole
finished P Q wanted a b s t whole e h = subst (λ (fs : FieldList). AreFieldsOf P Q wanted fs t whole) (sym e.0) (subst (λ (u : Bool). AreFieldsOf P Q wanted a u whole) (sym e.1) h)

pub members_none : (d : ℕ) (P : List JsonValue → Type 0) (wanted : List ℕ) (fields result : FieldList) (is_taken : Bool) (old m1 new : List ℕ)
    → fields ≡ no_fields → m1 ≡ drop_while is_white old → m1 ≡ 125 ∷ new → (result ≡ fields) × (is_taken ≡ false) → (whole : FieldList) × PassesAt (ObjectText d whole) (inside in_object d first_name) (past d) old new × AreFieldsOf P P wanted result is_taken whole
members_none d P wanted fields result is_taken old m1 new is w e f = (fields, object_empty d fields old m1 new is w e, finished P P wanted fields result false is_taken fields f (nothing_taken P wanted fields is))

pub members_init : (d : ℕ) (P : List JsonValue → Type 0) (wanted : List ℕ) (fields : FieldList) (old m1 new : List ℕ) → fields ≡ no_fields → m1 ≡ drop_while is_white old → new ≡ m1 → NextIsNot 125 new → MembersTaken d P P wanted fields false old new
members_init d P wanted fields old m1 new is w s n = (fields, object_init d fields old m1 new is w s n, nothing_taken P wanted fields is)

pub members_more : (d : ℕ) (P M Q : List JsonValue → Type 0) (wanted name : List ℕ) (a b : Taking) (old m1 m2 m3 m4 new : List ℕ)
    → MembersTaken d P M wanted a.fields a.is_taken old m1 → Passes (NameText name) next_name value m1 m2 → HasMember d M Q wanted name a b m2 m3 → m4 ≡ m3 → m4 ≡ 44 ∷ new → MembersTaken d P Q wanted b.fields b.is_taken old new
members_more d P M Q wanted name a b old m1 m2 m3 m4 new h n p s c =
    let v : JsonValue = json_value p.0 in
    let later : FieldList = with_member h.0 name v in
    (later, object_more d h.0 later name p.0 old m1 m2 m3 m4 new h.1 n p.1.passes (fields_list-fields_of (put (fields_list h.0) name v)) s c, member_put P M Q wanted name v a b h.0 h.2 p.2)

pub members_end : (d : ℕ) (P M Q : List JsonValue → Type 0) (wanted name : List ℕ) (a b : Taking) (result : FieldList) (is_taken : Bool) (old m1 m2 m3 new : List ℕ)
    → MembersTaken d P M wanted a.fields a.is_taken old m1 → Passes (NameText name) next_name value m1 m2 → HasMember d M Q wanted name a b m2 m3 → m3 ≡ 125 ∷ new → (result ≡ b.fields) × (is_taken ≡ b.is_taken)
    → (whole : FieldList) × PassesAt (ObjectText d whole) (inside in_object d first_name) (past d) old new × AreFieldsOf P Q wanted result is_taken whole
members_end d P M Q wanted name a b result is_taken old m1 m2 m3 new h n p c f =
    let v : JsonValue = json_value p.0 in
    let later : FieldList = with_member h.0 name v in
    (later, object_ends d h.0 later name p.0 old m1 m2 m3 new h.1 n p.1.passes (fields_list-fields_of (put (fields_list h.0) name v)) c, finished P Q wanted b.fields result b.is_taken is_taken later f (member_put P M Q wanted name v a b h.0 h.2 p.2))

abbrev pub ObjectBreaks : ℕ → Stop → List ℕ → List ℕ → Type 0
ObjectBreaks d e old new = AtFault (λ f. BreaksAt (λ t. (fields : FieldList) × ObjectText d fields t) (inside in_object d first_name) f old new) e

-- ## Whole texts

object_shown : (d inner : ℕ) (whole : FieldList) (old m1 new : List ℕ) → suc inner ≡ d → old ≡ 123 ∷ m1 → PassesAt (ObjectText inner whole) (inside in_object inner first_name) (past inner) m1 new → PassesAt (Shows d (json.Object whole)) (outside d value) (outside d after) old new
object_shown d inner whole old m1 new up e a = held_value in_object first_name 123 d inner (ObjectText inner whole) (json.Object whole) old m1 new up e (λ n l. refl) (λ s h. h) a

object_padded : (d inner : ℕ) (whole : FieldList) (old m1 m2 m3 new : List ℕ) → suc inner ≡ d → m1 ≡ drop_while is_white old → m1 ≡ 123 ∷ m2 → PassesAt (ObjectText inner whole) (inside in_object inner first_name) (past inner) m2 m3 → new ≡ drop_while is_white m3 → PassesAt (ShowsPadded d (json.Object whole)) (outside d value) (outside d after) old new
object_padded d inner whole old m1 m2 m3 new up w e a u = padded_passes d (json.Object whole) old m1 m3 new w (object_shown d inner whole m1 m2 m3 up e a) u

pub taken_whole : (d inner : ℕ) (P Q : List JsonValue → Type 0) (wanted : List ℕ) (result : FieldList) (is_taken : Bool) (old m0 m1 m2 m3 new : List ℕ)
    → suc inner ≡ d → Passes Mark start value old m0 → m1 ≡ drop_while is_white m0 → m1 ≡ 123 ∷ m2 → (whole : FieldList) × PassesAt (ObjectText inner whole) (inside in_object inner first_name) (past inner) m2 m3 × AreFieldsOf P Q wanted result is_taken whole
    → new ≡ drop_while is_white m3 → new ≡ [] → IsTakenText d P Q wanted result is_taken old
taken_whole d inner P Q wanted result is_taken old m0 m1 m2 m3 new up m w e h u end =
    (h.0, text_whole d (json.Object h.0) old m0 new m (object_padded d inner h.0 m0 m1 m2 m3 new up w e h.1 u) end, h.2)

pub taken_end : (d inner : ℕ) (P Q : List JsonValue → Type 0) (wanted : List ℕ) (result : FieldList) (is_taken : Bool) (old m0 m1 m2 m3 new : List ℕ)
    → suc inner ≡ d → Passes Mark start value old m0 → m1 ≡ drop_while is_white m0 → m1 ≡ 123 ∷ m2 → (whole : FieldList) × PassesAt (ObjectText inner whole) (inside in_object inner first_name) (past inner) m2 m3 × AreFieldsOf P Q wanted result is_taken whole
    → new ≡ drop_while is_white m3 → (new ≡ [] → ⊥) → FaultsAt d Syntax old new
taken_end d inner P Q wanted result is_taken old m0 m1 m2 m3 new up m w e h u more =
    text_end d (json.Object h.0) old m0 new m (object_padded d inner h.0 m0 m1 m2 m3 new up w e h.1 u) (next_fails_after is_white m3 new u) more

pub object_breaks : (d inner : ℕ) (e : Stop) (old m0 m1 m2 new : List ℕ) → suc inner ≡ d → Passes Mark start value old m0 → m1 ≡ drop_while is_white m0 → m1 ≡ 123 ∷ m2 → ObjectBreaks inner e m2 new → AtFault (λ f. FaultsAt d f old new) e
object_breaks d inner e old m0 m1 m2 new up m w is h =
    text_value d e old m0 new m (padded_breaks d e m0 m1 new w (held_breaks in_object first_name 123 d inner (λ s. (fields : FieldList) × ObjectText inner fields s) e m1 m2 new up is (λ n l. refl) (λ s t. (json.Object t.0, t.1)) h))

-- the member that was wanted
pub wanted_member : (d : ℕ) (P Q : List JsonValue → Type 0) (wanted name : List ℕ) (a b : Taking) (r : Result Bool Stop) (old new : List ℕ) → bytes_eq name wanted ≡ true → TakesValue d P Q a b r old new → TakesMember d P Q wanted name a b r old new
wanted_member d P Q wanted name a b (Ok is_read) old new named h = λ e. (let found = h e in (found.0, found.1, inr (named, found.2)))
wanted_member d P Q wanted name a b (Err stop) old new named h = h

-- what was found
pub found_object : (P : TakenObject → Type 0) (found : Option TakenObject) (o : TakenObject) → found ≡ Some o → IfSome found P → P o
found_object P found o e h = subst (λ (f : Option TakenObject). IfSome f P) e h

-- ## What is read otherwise

pub named_other : (wanted name old : List ℕ) (a : Taking) (r : Result Bool Stop) → bytes_eq name wanted ≡ true → IfOk r (λ is_read. is_read ≡ false → IsNoFirstArray a old)
    → IfOk r (λ is_read. is_read ≡ false → (bytes_eq name wanted ≡ true) × IsNoFirstArray a old)
named_other wanted name old a (Ok is_read) named h = λ e. (named, h e)
named_other wanted name old a (Err stop) named h = tt

-- a member of the wanted name that is no array, or comes after one that was taken
pub other_member : (d : ℕ) (P Q : List JsonValue → Type 0) (wanted name : List ℕ) (a : Taking) (old m1 m2 : List ℕ) → MembersTaken d P Q wanted a.fields a.is_taken old m1 → Passes (NameText name) next_name value m1 m2
    → (bytes_eq name wanted ≡ true) × IsNoFirstArray a m2 → HasOtherMember d wanted old
other_member d P Q wanted name a old m1 m2 h n p = (h.0, m1, m2, h.1.reads, subst (λ (k : List ℕ). Reads (NameText k) m1 m2) (same_bytes name wanted p.0) n.reads, go p.1)
  where
    go : IsNoFirstArray a m2 → (is_some (value_named wanted (fields_list h.0)) ≡ true) ⊎ NextIsNot 91 (drop_while is_white m2)
    go (inl e) =
        let taken : TookNamed P Q wanted h.0 = subst (λ (t : Bool). MatchBool t (TookNamed P Q wanted h.0) ((h.0 ≡ a.fields) × TakesAll P Q [])) e h.2.taken in
        inl (ap (λ (v : Option JsonValue). is_some v) taken.1)
    go (inr next) = inr next

-- what was not found
pub none_found : (P : Type 0) (found : Option TakenObject) → ((o : TakenObject) → found ≡ Some o → ⊥) → IfNone found P → P
none_found P None other h = h
none_found P (Some o) other h = absurd (other o refl)

-- A collection of features that is read feature by feature.
use Rattle.std.proofs.Common.{◌≡◌, ℕ, ◌+◌, ◌<◌, ◌≤◌, List, [], ◌∷◌, ◌++◌, length, sym, ap, ◌∙◌, subst, refl, arith, append_assoc, length-append, Bool, true, false, Option, Some, None, MatchOption, Result, Ok, Err, MatchResult, codes, All, inl, inr}
use Rattle.std.specs.Prelude.{if◌then◌else◌, IfNone, IfOk, IfSome, is_some}
use Rattle.std.specs.List.{enumerate_from}
use Rattle.std.specs.Str.{bytes_eq}
use Rattle.json_values.specs.Json.{JsonValue, ItemList, FieldList, array, object}
use Rattle.json_values.specs.Lists.{items_list, fields_list, value_named}
use Rattle.json_values.specs.Grammar.{JsonText}
use Rattle.json_read.specs.Taking.{TakesOne, TookNamed, AreFieldsOf, IsReadOtherwise, IsTakenText}
use Rattle.geojson_io.specs.LayerContent.{LayerContent}
use Rattle.geojson_io.specs.Reads.{Reads, Fault, IsFault, AnswersIn, on_ok, each}
use Rattle.geojson_io.specs.Geometries.{text_of, type_of}
use Rattle.geojson_io.specs.Features.{numbered, members, in_list, top_members, features_among, features_of}
use Rattle.geojson_io.specs.Layers.{layers_of, read_geojson}
use Rattle.geojson_io.specs.Taking.{features_from, HasRead, HasTaken, AreLayersOf, is_collection, IsReadOf, IsCollectionText, HaveNoFeatures, IsWholeOnlyOf}
use Rattle.geojson_io.specs.Sound.{LayerIsSound}
use Rattle.json_read.specs.declared.fault.JsonFault.{JsonFault}
use Rattle.json_read.specs.declared.reader.taking.TakenObject.{TakenObject}
use Rattle.geojson_io.specs.declared.reading.taking.Parsed.{Parsed}
use Rattle.geojson_io.specs.declared.reading.taking.Parsed.TheVariants as parsed
use Rattle.geojson_io.proofs.SoundReads.{layers_sound}
use Rattle.geojson_io.specs.declared.fault.ShapeFault.{ShapeFault}
use Rattle.geojson_io.specs.declared.fault.ShapeFault.TheVariants.{Bad}
use Rattle.geojson_io.specs.declared.fault.ShapeFault.TheVariants as shape
use Rattle.geojson_io.specs.declared.reading.features.Feature.{Feature}
use Rattle.geojson_io.specs.declared.reading.types.Member.{Member}
use Rattle.geojson_io.specs.declared.reading.types.Member.TheVariants as member
use Rattle.geojson_io.specs.declared.reading.taking.FeatureTaker.{FeatureTaker}
use Rattle.geojson_io.proofs.FeatureLemmas.{enumerate_from-append}
use Rattle.geojson_io.proofs.ReadLemmas.{each_more, each_stops}

-- ## One value more

-- how what takes values reads them, by its first state
abbrev reading : FeatureTaker → ℕ × JsonValue → Reads Fault Feature
reading first = numbered member.Feature first.places first.limit

-- the numbers of values, and that of one after them
numbers_more : (vs : List JsonValue) (v : JsonValue) (more : List JsonValue) → enumerate_from 0 (vs ++ v ∷ more) ≡ enumerate_from 0 vs ++ (length vs, v) ∷ enumerate_from (length vs + 1) more
numbers_more vs v more = enumerate_from-append 0 vs (v ∷ more) ∙ ap (λ (n : ℕ). enumerate_from 0 vs ++ enumerate_from n (v ∷ more)) (let e : 0 + length vs ≡ length vs = omega arith in e)

-- what the call for one value says, in the words of the first state
read_by_first : (first now : FeatureTaker) (vs : List JsonValue) (v : JsonValue) (room : ℕ) (r : Result Feature ShapeFault) (left : ℕ)
    → now.places ≡ first.places → now.limit ≡ first.limit → now.number ≡ length vs → AnswersIn (numbered member.Feature now.places now.limit (now.number, v)) room r left → AnswersIn (reading first (length vs, v)) room r left
read_by_first first now vs v room r left p l n h =
    subst (λ (k : ℕ). AnswersIn (reading first (k, v)) room r left) n
    (subst (λ (k : ℕ). AnswersIn (numbered member.Feature first.places k (now.number, v)) room r left) l
    (subst (λ (k : ℕ). AnswersIn (numbered member.Feature k now.limit (now.number, v)) room r left) p h))

pub one_read_more : (first old new : FeatureTaker) (v : JsonValue) (feature : Feature)
    → (old.number ≤ old.limit → AnswersIn (numbered member.Feature old.places old.limit (old.number, v)) old.left (Ok feature) new.left) → old.number < old.limit → old.fault ≡ None
    → new.places ≡ old.places → new.limit ≡ old.limit → new.number ≡ old.number + 1 → new.features.items ≡ old.features.items ++ feature ∷ [] → new.fault ≡ None → TakesOne (HasTaken first old) (HasTaken first new) v
one_read_more first old new v feature read below none places limit number features fault vs h =
    let before : HasRead first old vs = subst (λ (f : Option ShapeFault). MatchOption f (HasRead first old vs) (λ fault. (more : List JsonValue) → IsFault (features_from first (vs ++ more)) fault)) none h.read in
    let answers : AnswersIn (reading first (length vs, v)) old.left (Ok feature) new.left = read_by_first first old vs v old.left (Ok feature) new.left h.places h.limit before.number (read (omega arith)) in
    let all : features_from first (vs ++ v ∷ []) ≡ Ok (old.features.items ++ feature ∷ [], new.left) =
    ap (λ (ps : List (ℕ × JsonValue)). each (reading first) ps first.left) (numbers_more vs v []) ∙ each_more (reading first) (enumerate_from 0 vs) (length vs, v) first.left old.features.items old.left feature new.left before.features answers in
    let now : HasRead first new (vs ++ v ∷ []) = record {
      number = number ∙ omega (arith, before.number, length-append vs (v ∷ []));
      within = (let e = h.limit in omega (arith, limit, number, e));
      features = all ∙ ap (λ (fs : List Feature). Ok (fs, new.left)) (sym features);
    } in
    record {
      places = places ∙ h.places;
      limit = limit ∙ h.limit;
      read = subst (λ (f : Option ShapeFault). MatchOption f (HasRead first new (vs ++ v ∷ [])) (λ fault. (more : List JsonValue) → IsFault (features_from first ((vs ++ v ∷ []) ++ more)) fault)) (sym fault) now;
    }

-- the first fault
stops_here : (first : FeatureTaker) (vs : List JsonValue) (v : JsonValue) (fs : List Feature) (left : ℕ) (after : ℕ) (fault : ShapeFault)
    → features_from first vs ≡ Ok (fs, left) → AnswersIn (reading first (length vs, v)) left (Err fault) after → (more : List JsonValue) → IsFault (features_from first ((vs ++ v ∷ []) ++ more)) fault
stops_here first vs v fs left after (Bad why n) e h more =
    let fault : Fault = (why, n) in
    ap (λ (ws : List JsonValue). features_from first ws) (append_assoc vs (v ∷ []) more)
    ∙ ap (λ (ps : List (ℕ × JsonValue)). each (reading first) ps first.left) (numbers_more vs v more)
    ∙ each_stops (reading first) (enumerate_from 0 vs) (length vs, v) (enumerate_from (length vs + 1) more) first.left fs left fault e h
stops_here first vs v fs left after shape.Memory e h more = tt

pub fault_found : (first old new : FeatureTaker) (v : JsonValue) (fault : ShapeFault)
    → (old.number ≤ old.limit → AnswersIn (numbered member.Feature old.places old.limit (old.number, v)) old.left (Err fault) new.left) → old.fault ≡ None
    → new.places ≡ old.places → new.limit ≡ old.limit → new.fault ≡ Some fault → TakesOne (HasTaken first old) (HasTaken first new) v
fault_found first old new v fault read none places limit found vs h =
    let before : HasRead first old vs = subst (λ (f : Option ShapeFault). MatchOption f (HasRead first old vs) (λ fault. (more : List JsonValue) → IsFault (features_from first (vs ++ more)) fault)) none h.read in
    let e : old.limit ≡ first.limit = h.limit in
    let answers : AnswersIn (reading first (length vs, v)) old.left (Err fault) new.left = read_by_first first old vs v old.left (Err fault) new.left h.places h.limit before.number (read (omega (arith, before.within, e))) in
    let stopped : (more : List JsonValue) → IsFault (features_from first ((vs ++ v ∷ []) ++ more)) fault = stops_here first vs v old.features.items old.left new.left fault before.features answers in
    record {
      places = places ∙ h.places;
      limit = limit ∙ h.limit;
      read = subst (λ (f : Option ShapeFault). MatchOption f (HasRead first new (vs ++ v ∷ [])) (λ fault. (more : List JsonValue) → IsFault (features_from first ((vs ++ v ∷ []) ++ more)) fault)) (sym found) stopped;
    }

-- ## The whole collection

pub nothing_taken : (first : FeatureTaker) → first.number ≡ 0 → first.features.items ≡ [] → first.fault ≡ None → HasTaken first first []
nothing_taken first number features fault = record {
  places = refl;
  limit = refl;
  read = subst (λ (f : Option ShapeFault). MatchOption f (HasRead first first []) (λ fault. (more : List JsonValue) → IsFault (features_from first more) fault)) (sym fault)
      (record { number = number; within = omega (arith, number); features = ap (λ (fs : List Feature). Ok (fs, first.left)) (sym features) });
}

if_true : {A : Type 0} (b : Bool) (x y : A) → b ≡ true → (if b then x else y) ≡ x
if_true true x y e = refl
if_true false x y e = absurd (let t : false ≡ true = e in cc)

-- the members of a collection are the items of its features
collection_members : (whole : FieldList) (items : ItemList) → is_collection (object whole) ≡ true → value_named (codes "features") (fields_list whole) ≡ Some (array items) → top_members (object whole) ≡ Some (member.Feature, items_list items)
collection_members whole items c e = if_true (bytes_eq (type_of whole) (codes "FeatureCollection")) _ _ c ∙ ap (λ (o : Option JsonValue). in_list member.Feature o) e

same_type : (P Q : List JsonValue → Type 0) (others whole : FieldList) (t b : Bool) → AreFieldsOf P Q (codes "features") others t whole → bytes_eq (type_of others) (codes "FeatureCollection") ≡ b → is_collection (object whole) ≡ b
same_type P Q others whole t b h e = ap (λ (o : Option JsonValue). bytes_eq (text_of o) (codes "FeatureCollection")) (h.others (codes "type") refl) ∙ e

collection_read : (places : ℕ) (name : List ℕ) (positions limit : ℕ) (whole : FieldList) (items : ItemList) → top_members (object whole) ≡ Some (member.Feature, items_list items)
    → features_of places limit (object whole) positions ≡ members member.Feature places limit (items_list items) positions
collection_read places name positions limit whole items e = ap (λ (o : Option (Member × List JsonValue)). features_among places limit o positions) e

layers_read : (places : ℕ) (name : List ℕ) (positions limit : ℕ) (v : JsonValue) (r : Result (List Feature × ℕ) Fault) → features_of places limit v positions ≡ r
    → read_geojson places name positions limit v ≡ on_ok r (λ (p : List Feature × ℕ). let layers : List LayerContent = layers_of name p.0 in Ok layers)
layers_read places name positions limit v r e = ap (λ (s : Result (List Feature × ℕ) Fault). on_ok s (λ (p : List Feature × ℕ). let layers : List LayerContent = layers_of name p.0 in Ok layers)) e

abbrev features_at : FeatureTaker → JsonValue → Result (List Feature × ℕ) Fault
features_at first v = features_of first.places first.limit v first.left

append_nothing : (vs : List JsonValue) → vs ++ [] ≡ vs
append_nothing [] = refl
append_nothing (v ∷ vs) = ap (λ (ws : List JsonValue). v ∷ ws) (append_nothing vs)

-- what is answered of what was taken is what is read of the value
answer_is_read : (first now : FeatureTaker) (name : List ℕ) (v : JsonValue) (items : List JsonValue) (result : Result (List LayerContent) ShapeFault) (fault : Option ShapeFault)
    → features_at first v ≡ features_from first items → MatchOption fault (HasRead first now items) (λ f. (more : List JsonValue) → IsFault (features_from first (items ++ more)) f)
    → MatchOption fault (MatchResult result (λ layers. layers ≡ layers_of name now.features.items) (λ f. f ≡ shape.Memory)) (λ f. result ≡ Err f) → IsReadOf first.places name first.left first.limit v result
answer_is_read first now name v items (Ok layers) None e h a =
    layers_read first.places name first.left first.limit v (Ok (now.features.items, now.left)) (e ∙ h.features) ∙ ap (λ (ls : List LayerContent). Ok ls) (sym a)
answer_is_read first now name v items (Err f) None e h a = subst (IsFault (read_geojson first.places name first.left first.limit v)) (sym a) tt
answer_is_read first now name v items result (Some f) e h a = subst (λ (r : Result (List LayerContent) ShapeFault). IsReadOf first.places name first.left first.limit v r) (sym a) (go f (h []))
  where
    go : (f : ShapeFault) → IsFault (features_from first (items ++ [])) f → IsFault (read_geojson first.places name first.left first.limit v) f
    go (Bad why n) k = (let fault : Fault = (why, n) in layers_read first.places name first.left first.limit v (Err fault) (e ∙ sym (ap (λ (ws : List JsonValue). features_from first ws) (append_nothing items)) ∙ k))
    go shape.Memory k = tt

pub collection_text : (first now : FeatureTaker) (name : List ℕ) (fields : FieldList) (bytes : List ℕ) (result : Result (List LayerContent) ShapeFault)
    → HasTaken first first [] → IsTakenText 64 (HasTaken first first) (HasTaken first now) (codes "features") fields true bytes → bytes_eq (type_of fields) (codes "FeatureCollection") ≡ true → AreLayersOf now name result
    → IsCollectionText first.places name first.left first.limit bytes result
collection_text first now name fields bytes result start h c answer =
    let taken : TookNamed (HasTaken first first) (HasTaken first now) (codes "features") h.0 = h.2.taken in
    let has : HasTaken first now (items_list taken.0) = taken.2 [] start in
    let collection : is_collection (object h.0) ≡ true = same_type (HasTaken first first) (HasTaken first now) fields h.0 true true h.2 c in
    record {
      value = object h.0;
      text = h.1;
      collection = collection;
      read = answer_is_read first now name (object h.0) (items_list taken.0) result now.fault (collection_read first.places name first.left first.limit h.0 taken.0 (collection_members h.0 taken.0 collection taken.1)) has.read answer;
    }

-- nothing was taken: the fields are all
pub whole_text : (P Q : List JsonValue → Type 0) (all : FieldList) (bytes : List ℕ) → IsTakenText 64 P Q (codes "features") all false bytes → JsonText 64 bytes (object all)
whole_text P Q all bytes h = subst (λ (w : FieldList). JsonText 64 bytes (object w)) h.2.taken.0 h.1

-- no features: of bytes that are read otherwise, of no field of that name, or of no collection
pub not_found : (found : Option TakenObject) (bytes : List ℕ) → ((o : TakenObject) → found ≡ Some o → ⊥) → IfNone found (IsReadOtherwise 64 (codes "features") bytes) → HaveNoFeatures bytes
not_found None bytes other h = inl h
not_found (Some o) bytes other h = absurd (other o refl)

pub without_features : (P Q : List JsonValue → Type 0) (all : FieldList) (bytes : List ℕ) → IsTakenText 64 P Q (codes "features") all false bytes → HaveNoFeatures bytes
without_features P Q all bytes h = inr (h.0, h.1, inl (ap (λ (w : FieldList). value_named (codes "features") (fields_list w)) h.2.taken.0 ∙ h.2.absent refl))

pub of_other_type : (P Q : List JsonValue → Type 0) (fields : FieldList) (bytes : List ℕ) → IsTakenText 64 P Q (codes "features") fields true bytes → bytes_eq (type_of fields) (codes "FeatureCollection") ≡ false → HaveNoFeatures bytes
of_other_type P Q fields bytes h e = inr (h.0, h.1, inr (same_type P Q fields h.0 true false h.2 e))

pub whole_only : (bytes : List ℕ) (r : Result Parsed JsonFault) → HaveNoFeatures bytes → IfOk r (IsWholeOnlyOf bytes)
whole_only bytes (Ok (parsed.Features result)) h = tt
whole_only bytes (Ok (parsed.Value json)) h = h
whole_only bytes (Err fault) h = tt

pub collection_sound : (places : ℕ) (name : List ℕ) (positions limit : ℕ) (bytes : List ℕ) (result : Result (List LayerContent) ShapeFault) → IsCollectionText places name positions limit bytes result → IfOk result (λ (layers : List LayerContent). All LayerIsSound layers)
collection_sound places name positions limit bytes (Ok layers) h = layers_sound places name positions limit h.value layers h.read
collection_sound places name positions limit bytes (Err fault) h = tt

pub none_there : (o : Option ShapeFault) → is_some o ≡ false → o ≡ None
none_there None e = refl
none_there (Some fault) e = absurd (let t : true ≡ false = e in cc)

-- what was found of a text, by whether its features were taken
pub found_text : (first now : FeatureTaker) (found : Option TakenObject) (o : TakenObject) (t : Bool) (bytes : List ℕ) → found ≡ Some o → o.is_taken ≡ t
    → IfSome found (λ object. IsTakenText 64 (HasTaken first first) (HasTaken first now) (codes "features") object.fields object.is_taken bytes) → IsTakenText 64 (HasTaken first first) (HasTaken first now) (codes "features") o.fields t bytes
found_text first now found o t bytes is e h =
    subst (λ (b : Bool). IsTakenText 64 (HasTaken first first) (HasTaken first now) (codes "features") o.fields b bytes) e
    (subst (λ (f : Option TakenObject). IfSome f (λ object. IsTakenText 64 (HasTaken first first) (HasTaken first now) (codes "features") object.fields object.is_taken bytes)) is h)

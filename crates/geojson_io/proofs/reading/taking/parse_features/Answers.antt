use Rattle.std.proofs.Common.{◌≡◌, refl, sym, ap, ◌∙◌, true, false, None, List, ℕ, codes}
use Rattle.std.specs.Str.{bytes_eq}
use Rattle.geojson_io.specs.Geometries.{type_of}
use Rattle.geojson_io.specs.Taking.{HasTaken, IsCollectionText}
use Rattle.geojson_io.specs.declared.reading.taking.FeatureTaker.{FeatureTaker}
use Rattle.geojson_io.proofs.TakingLemmas.{nothing_taken, found_text, whole_text, not_found, without_features, of_other_type, whole_only, collection_text, collection_sound}
use Rattle.geojson_io.proofs.reading.taking.parse_features.Goals as goal

pub returns-then-not-object-clause-ok : goal.returns-then-not-object-clause-ok
returns-then-not-object-clause-ok c =
    let first : FeatureTaker = record { alloc = c.args.alloc; places = c.args.places; limit = c.args.room.features; left = c.args.room.positions; number = 0; straight = 0; features = c.new.result; fault = None } in
    whole_text (HasTaken first first) (HasTaken first c.parse_taking.new.taker) c.in-Some.object.fields c.args.bytes.now (found_text first c.parse_taking.new.taker c.in_ok-object.field-0 c.in-Some.object _ c.args.bytes.now c.in-Some.is c.if-not-object.true (c.in_ok-object.ensures.ok first))

pub returns-then-eq-clause-ok : goal.returns-then-eq-clause-ok
returns-then-eq-clause-ok c =
    let first : FeatureTaker = record { alloc = c.args.alloc; places = c.args.places; limit = c.args.room.features; left = c.args.room.positions; number = 0; straight = 0; features = c.new.result; fault = None } in
    let named : bytes_eq (type_of c.in-Some.object.fields) (codes "FeatureCollection") ≡ true = sym (ap (λ (n : List ℕ). bytes_eq n (codes "FeatureCollection")) c.type_of.ensures.exact) ∙ sym c.eq.ensures ∙ c.if-eq.true in
    collection_text first c.parse_taking.new.taker c.args.name.now c.in-Some.object.fields c.args.bytes.now c.layers.result (nothing_taken first refl c.new.ensures.items refl)
    (found_text first c.parse_taking.new.taker c.in_ok-object.field-0 c.in-Some.object true c.args.bytes.now c.in-Some.is c.if-not-object.false (c.in_ok-object.ensures.ok first)) named c.layers.ensures.exact

pub returns-then-eq-clause-sound : goal.returns-then-eq-clause-sound
returns-then-eq-clause-sound c =
    let first : FeatureTaker = record { alloc = c.args.alloc; places = c.args.places; limit = c.args.room.features; left = c.args.room.positions; number = 0; straight = 0; features = c.new.result; fault = None } in
    let named : bytes_eq (type_of c.in-Some.object.fields) (codes "FeatureCollection") ≡ true = sym (ap (λ (n : List ℕ). bytes_eq n (codes "FeatureCollection")) c.type_of.ensures.exact) ∙ sym c.eq.ensures ∙ c.if-eq.true in
    let text : IsCollectionText c.args.places c.args.name.now c.args.room.positions c.args.room.features c.args.bytes.now c.layers.result =
    collection_text first c.parse_taking.new.taker c.args.name.now c.in-Some.object.fields c.args.bytes.now c.layers.result (nothing_taken first refl c.new.ensures.items refl)
    (found_text first c.parse_taking.new.taker c.in_ok-object.field-0 c.in-Some.object true c.args.bytes.now c.in-Some.is c.if-not-object.false (c.in_ok-object.ensures.ok first)) named c.layers.ensures.exact in
    collection_sound c.args.places c.args.name.now c.args.room.positions c.args.room.features c.args.bytes.now c.layers.result text

pub returns-in_default-clause-whole : goal.returns-in_default-clause-whole
returns-in_default-clause-whole c =
    whole_only c.args.bytes.now c.parse_value.result (not_found c.in_ok-object.field-0 c.args.bytes.now c.in_default.not-Some c.in_ok-object.ensures.other)

pub returns-then-not-object-clause-whole : goal.returns-then-not-object-clause-whole
returns-then-not-object-clause-whole c =
    let first : FeatureTaker = record { alloc = c.args.alloc; places = c.args.places; limit = c.args.room.features; left = c.args.room.positions; number = 0; straight = 0; features = c.new.result; fault = None } in
    let now = c.parse_taking.new.taker in
    without_features (HasTaken first first) (HasTaken first now) c.in-Some.object.fields c.args.bytes.now (found_text first now c.in_ok-object.field-0 c.in-Some.object false c.args.bytes.now c.in-Some.is c.if-not-object.true (c.in_ok-object.ensures.ok first))

pub returns-clause-whole : goal.returns-clause-whole
returns-clause-whole c =
    let first : FeatureTaker = record { alloc = c.args.alloc; places = c.args.places; limit = c.args.room.features; left = c.args.room.positions; number = 0; straight = 0; features = c.new.result; fault = None } in
    let now = c.parse_taking.new.taker in
    let other : bytes_eq (type_of c.in-Some.object.fields) (codes "FeatureCollection") ≡ false = sym (ap (λ (n : List ℕ). bytes_eq n (codes "FeatureCollection")) c.type_of.ensures.exact) ∙ sym c.eq.ensures ∙ c.if-eq.false in
    whole_only c.args.bytes.now c.parse_value-2.result (of_other_type (HasTaken first first) (HasTaken first now) c.in-Some.object.fields c.args.bytes.now
    (found_text first now c.in_ok-object.field-0 c.in-Some.object true c.args.bytes.now c.in-Some.is c.if-not-object.false (c.in_ok-object.ensures.ok first)) other)

-- Features that are read straight from their texts.
use Rattle.std.proofs.Common.{◌≡◌, ℕ, ℤ, ◌-◌, ◌<◌, ◌≤◌, List, [], ◌∷◌, ◌++◌, filter, length, map, refl, sym, ap, ◌∙◌, subst, arith, eqb, Bool, true, false, not, Option, Some, None, Result, Ok, Err, codes}
use Rattle.std.specs.Prelude.{if◌then◌else◌, IfSome, MatchOption, is_some}
use Rattle.std.specs.Str.{bytes_eq}
use Rattle.std.proofs.lemmas.Bool.{cond-false, ne_eqb, le-ltb}
use Rattle.json_values.specs.Json.{JsonValue, FieldList, null, boolean, number, string, array, object, no_items, item}
use Rattle.json_values.specs.Lists.{fields_list, put, value_named}
use Rattle.json_read.specs.Straight.{BeginsWithPair, IsTakenArray, IsTakenObject, PutsOne}
use Rattle.json_values.specs.Seen.{json_value}
use Rattle.json_values.specs.Table.{NamedValues, put_value}
use Rattle.json_read.specs.Taking.{TakesOne}
use Rattle.json_values.specs.Value.{value_of}
use Rattle.json_values.specs.declared.json.Json.{Json}
use Rattle.json_values.specs.declared.json.Json.TheVariants as json
use Rattle.json_values.specs.declared.value.Value.{Value}
use Rattle.json_values.proofs.Putting.{flips, put_here, put_on, same_bytes}
use Rattle.json_read.proofs.Taking.{value_put_other, value_put_same}
use Rattle.plane_model.specs.Points.{GridPoint, Path}
use Rattle.plane_model.specs.Drawing.{Polygon}
use Rattle.grid_base.specs.Grid.{grid_point}
use Rattle.geojson_io.specs.Reads.{Reads, on_ok, gives, fails, ◌>>=◌}
use Rattle.geojson_io.specs.Positions.{numbered_point, or_range, position, positions, line, line_of, ring, ring_of, rings, is_closed}
use Rattle.geojson_io.specs.Geometries.{geo_type_of, geometry, has_rings, one_polygon, several, shape_of, shape_typed, some_points, some_lines, text_of, with_rings}
use Rattle.geojson_io.specs.Features.{feature, feature_of_fields, in_feature, json_of, numbered, or_null, properties, property}
use Rattle.geojson_io.specs.Straight.{AreProperties, ReadsAs, ReadsListAs, HasGeometry, HasList, HasParts, HasProperties, HasShape, HasType, Member}
use Rattle.geojson_io.specs.declared.fault.ShapeWhy.{ShapeWhy}
use Rattle.geojson_io.specs.declared.fault.ShapeWhy.TheVariants.{BadPosition, Collection, LineShort, NotGeo, RingOpen, RingShort}
use Rattle.geojson_io.specs.declared.shape.GeoShape.{GeoShape}
use Rattle.geojson_io.specs.declared.shape.GeoShape.TheVariants.{Lines, Nothing, Points}
use Rattle.geojson_io.specs.declared.reading.features.Feature.{Feature}
use Rattle.geojson_io.specs.declared.reading.types.GeoType.{GeoType}
use Rattle.geojson_io.specs.declared.reading.types.GeoType.TheVariants as type
use Rattle.geojson_io.specs.declared.reading.types.Member.TheVariants as member
use Rattle.geojson_io.specs.declared.reading.straight_features.GeometryTaker.{GeometryTaker}
use Rattle.geojson_io.specs.declared.reading.straight_features.PartTaker.{PartTaker}
use Rattle.geojson_io.specs.declared.reading.straight_features.PropertyTaker.{PropertyTaker}
use Rattle.geojson_io.proofs.ReadLemmas.{each_more}

-- ## Positions, and lists of them

pub position_read : (places room : ℕ) (x y : ℤ) (p : GridPoint) (v : JsonValue) → (room ≡ 0 → ⊥) → BeginsWithPair places x y v → Some p ≡ grid_point x y → ReadsListAs (position places) room p (room - 1) v
position_read places room x y p v n h e =
    let read : position places (array (item (number h.0) (item (number h.1) h.2))) room ≡ Ok (p, room - 1) =
    cond-false (eqb room 0) _ _ (ne_eqb room 0 n) ∙ (λ i. on_ok (or_range (numbered_point (h.4 i) (h.5 i))) (λ (q : GridPoint). Ok (q, room - 1))) ∙ ap (λ (o : Option GridPoint). on_ok (or_range o) (λ (q : GridPoint). Ok (q, room - 1))) (sym e) in
    ((number h.0, item (number h.1) h.2, h.3), subst (λ (w : JsonValue). position places w room ≡ Ok (p, room - 1)) (sym h.3) read)

pub one_taken : {A : Type 0} (read : ℕ → JsonValue → Reads ShapeWhy A) (first_places room places : ℕ) (old : List A) (left : ℕ) (x : A) (new : List A) (after : ℕ) (v : JsonValue)
    → ReadsAs (read places) left x after v → new ≡ old ++ x ∷ [] → TakesOne (HasList read first_places room places old left) (HasList read first_places room places new after) v
one_taken {A} read first_places room places old left x new after v e s vs h = (
  h.0,
  each_more (read first_places) vs v room old left x after h.1 (subst (λ (n : ℕ). read n v left ≡ Ok (x, after)) h.0 e) ∙ ap (λ (zs : List A). Ok (zs, after)) (sym s),
)

pub list_read : {A : Type 0} (read : ℕ → JsonValue → Reads ShapeWhy A) (places room now : ℕ) (start xs : List A) (after : ℕ) (v : JsonValue)
    → start ≡ [] → IsTakenArray (HasList read places room places start room) (HasList read places room now xs after) v → ReadsAs (several (read places)) room xs after v
list_read {A} read places room now start xs after v s h =
    subst (λ (w : JsonValue). several (read places) w room ≡ Ok (xs, after)) (sym h.1) (h.2 [] (refl, ap (λ (zs : List A). Ok (zs, room)) (sym s))).1

abbrev line_if : Bool → Path → Reads ShapeWhy Path
line_if short path = if short then fails LineShort else gives path

pub line_read : (places room : ℕ) (path : Path) (after : ℕ) (v : JsonValue) → ReadsAs (positions places) room path after v → 2 ≤ length path → ReadsAs (line places) room path after v
line_read places room path after v e l =
    ap (λ (r : Result (Path × ℕ) ShapeWhy). on_ok r (λ (p : Path × ℕ). line_of p.0 p.1)) e ∙ ap (λ (b : Bool). line_if b path after) (le-ltb (length path) 2 l)

abbrev ring_if : Bool → Bool → Path → Reads ShapeWhy Path
ring_if short closed path = if short then fails RingShort else (if closed then gives path else fails RingOpen)

pub ring_read : (places room : ℕ) (path : Path) (after : ℕ) (v : JsonValue) → ReadsAs (positions places) room path after v → 4 ≤ length path → is_closed path ≡ true → ReadsAs (ring places) room path after v
ring_read places room path after v e l c =
    ap (λ (r : Result (Path × ℕ) ShapeWhy). on_ok r (λ (p : Path × ℕ). ring_of p.0 p.1)) e ∙ (λ i. ring_if (le-ltb (length path) 4 l i) (c i) path after)

-- ## Shapes

no_fault : {A E : Type 0} (x : E) (y : A) → Err x ≡ Ok y → ⊥
no_fault x y e = cc

abbrev one_point : Result (GridPoint × ℕ) ShapeWhy → Result (GeoShape × ℕ) ShapeWhy
one_point r = on_ok (on_ok r (λ (q : GridPoint × ℕ). Ok (q.0 ∷ [], q.1))) (λ (q : List GridPoint × ℕ). Ok (some_points q.0, q.1))

pub point_shape : (places room : ℕ) (p : GridPoint) (after : ℕ) (v : JsonValue) (ps : List GridPoint) → ReadsListAs (position places) room p after v → ps ≡ p ∷ [] → ReadsAs (shape_of places type.Point) room (Points ps) after v
point_shape places room p after v ps h s =
    let e : position places (array (item h.0.0 h.0.1)) room ≡ Ok (p, after) = subst (λ (w : JsonValue). position places w room ≡ Ok (p, after)) h.0.2 h.1 in
    subst (λ (w : JsonValue). shape_of places type.Point w room ≡ Ok (Points ps, after)) (sym h.0.2) (ap one_point e ∙ ap (λ (qs : List GridPoint). Ok (Points qs, after)) (sym s))

-- the shape of a list
pub list_shape : {A : Type 0} (read : JsonValue → Reads ShapeWhy A) (some : A → GeoShape) (room : ℕ) (xs : A) (after : ℕ) (v : JsonValue) (shape : GeoShape) → ReadsAs read room xs after v → shape ≡ some xs → ReadsAs (λ (j : JsonValue). read j >>= (λ (ys : A). gives (some ys))) room shape after v
list_shape {A} read some room xs after v shape e s =
    ap (λ (r : Result (A × ℕ) ShapeWhy). on_ok r (λ (q : A × ℕ). Ok (some q.0, q.1))) e ∙ ap (λ (g : GeoShape). Ok (g, after)) (sym s)

abbrev one_line : Result (Path × ℕ) ShapeWhy → Result (GeoShape × ℕ) ShapeWhy
one_line r = on_ok (on_ok r (λ (q : Path × ℕ). Ok (q.0 ∷ [], q.1))) (λ (q : List Path × ℕ). Ok (some_lines q.0, q.1))

pub line_shape : (places room : ℕ) (path : Path) (after : ℕ) (v : JsonValue) (ls : List Path) → ReadsAs (line places) room path after v → ls ≡ path ∷ [] → ReadsAs (shape_of places type.LineString) room (Lines ls) after v
line_shape places room path after (array (item w ws)) ls e s = ap one_line e ∙ ap (λ (qs : List Path). Ok (Lines qs, after)) (sym s)
line_shape places room path after (array no_items) ls e s = absurd (no_fault LineShort (path, after) e)
line_shape places room path after null ls e s = absurd (no_fault BadPosition (path, after) e)
line_shape places room path after (boolean b) ls e s = absurd (no_fault BadPosition (path, after) e)
line_shape places room path after (number n) ls e s = absurd (no_fault BadPosition (path, after) e)
line_shape places room path after (string t) ls e s = absurd (no_fault BadPosition (path, after) e)
line_shape places room path after (object fs) ls e s = absurd (no_fault BadPosition (path, after) e)

abbrev with_rings_of : Result (List Polygon × ℕ) ShapeWhy → Result (List Polygon × ℕ) ShapeWhy
with_rings_of r = on_ok r (λ (q : List Polygon × ℕ). with_rings q.0 q.1)

pub kept_read : (read : JsonValue → Reads ShapeWhy (List Polygon)) (room : ℕ) (ps : List Polygon) (after : ℕ) (v : JsonValue) (kept : List Polygon) → ReadsAs read room ps after v → kept ≡ filter has_rings ps → ReadsAs (λ (j : JsonValue). read j >>= with_rings) room kept after v
kept_read read room ps after v kept e s = ap with_rings_of e ∙ ap (λ (qs : List Polygon). Ok (qs, after)) (sym s)

abbrev one_polygon_of : Result (Polygon × ℕ) ShapeWhy → Result (List Polygon × ℕ) ShapeWhy
one_polygon_of r = with_rings_of (on_ok r (λ (q : Polygon × ℕ). Ok (q.0 ∷ [], q.1)))

one_polygon_is : (places room : ℕ) (v : JsonValue) → one_polygon places v room ≡ one_polygon_of (rings places v room)
one_polygon_is places room (array (item w ws)) = refl
one_polygon_is places room (array no_items) = refl
one_polygon_is places room null = refl
one_polygon_is places room (boolean b) = refl
one_polygon_is places room (number n) = refl
one_polygon_is places room (string t) = refl
one_polygon_is places room (object fs) = refl

pub polygon_read : (places room : ℕ) (polygon : Polygon) (after : ℕ) (v : JsonValue) (kept : List Polygon) → ReadsAs (rings places) room polygon after v → kept ≡ filter has_rings (polygon ∷ []) → ReadsAs (one_polygon places) room kept after v
polygon_read places room polygon after v kept e s = one_polygon_is places room v ∙ ap one_polygon_of e ∙ ap (λ (qs : List Polygon). Ok (qs, after)) (sym s)

-- ## Geometries

-- no member yet, or a type
abbrev StartsWith : List Member → Option GeoType → Type 0
StartsWith fs kind = MatchOption kind (fs ≡ []) (λ t. (s : List ℕ) × (geo_type_of s ≡ Some t) × (fs ≡ (codes "type", string s) ∷ []))

pub type_taken : (first old new : GeometryTaker) (s : List ℕ) (t : GeoType) (v : JsonValue)
    → old.kind ≡ None → old.shape ≡ None → v ≡ string s → geo_type_of s ≡ Some t → new.places ≡ old.places → new.left ≡ old.left → new.kind ≡ Some t → new.shape ≡ None → PutsOne (HasGeometry first old) (HasGeometry first new) (codes "type") v
type_taken first old new s t v kind shape is named places left new_kind new_shape fs h =
    let before : HasType first old fs = subst (λ (o : Option GeoShape). MatchOption o (HasType first old fs) (λ g. HasShape first old g fs)) shape h.1 in
    let none : fs ≡ [] = subst (StartsWith fs) kind before.1 in
    let later : List Member = put fs (codes "type") v in
    let one : later ≡ (codes "type", string s) ∷ [] = ap (λ (gs : List Member). put gs (codes "type") v) none ∙ ap (λ (w : JsonValue). (codes "type", w) ∷ []) is in (
      places ∙ h.0,
      subst (λ (o : Option GeoShape). MatchOption o (HasType first new later) (λ g. HasShape first new g later)) (sym new_shape)
          (left ∙ before.0, subst (StartsWith later) (sym new_kind) (s, named, one)),
    )

no_collection : (s : List ℕ) (t : GeoType) → geo_type_of s ≡ Some t → bytes_eq s (codes "GeometryCollection") ≡ false
no_collection s t e = go (bytes_eq s (codes "GeometryCollection")) refl
  where
    go : (b : Bool) → bytes_eq s (codes "GeometryCollection") ≡ b → b ≡ false
    go true h = absurd (let none : None ≡ Some t = subst (λ (x : List ℕ). geo_type_of x ≡ Some t) (same_bytes s (codes "GeometryCollection") h) e in cc)
    go false h = refl

abbrev typed_if : ℕ → Bool → Option GeoType → Option JsonValue → Reads ShapeWhy GeoShape
typed_if places collection t j = if collection then fails Collection else shape_typed places t j

abbrev typed_at : ℕ → ℕ → List Member → Result (GeoShape × ℕ) ShapeWhy
typed_at places room ms =
    typed_if places (bytes_eq (text_of (value_named (codes "type") ms)) (codes "GeometryCollection")) (geo_type_of (text_of (value_named (codes "type") ms))) (value_named (codes "coordinates") ms) room

pub no_geometry : (places room : ℕ) (v : JsonValue) → v ≡ null → ReadsAs (geometry places) room Nothing room v
no_geometry places room v e = subst (λ (w : JsonValue). geometry places w room ≡ Ok (Nothing, room)) (sym e) refl

pub geometry_read : (first now : GeometryTaker) (g : GeoShape) (v : JsonValue) → IsTakenObject (HasGeometry first first) (HasGeometry first now) v → first.kind ≡ None → first.shape ≡ None → now.shape ≡ Some g → ReadsAs (geometry first.places) first.left g now.left v
geometry_read first now g v h kind shape now_shape =
    let start : HasGeometry first first [] = (
      refl,
      subst (λ (o : Option GeoShape). MatchOption o (HasType first first []) (λ g. HasShape first first g [])) (sym shape)
          (refl, subst (StartsWith []) (sym kind) refl),
    ) in
    let ms : List Member = fields_list h.0 in
    let shaped : HasShape first now g ms = subst (λ (o : Option GeoShape). MatchOption o (HasType first now ms) (λ g. HasShape first now g ms)) now_shape (h.2 start).1 in
    let read : typed_at first.places first.left ms ≡ Ok (g, now.left) =
    ap (typed_at first.places first.left) shaped.4 ∙ (λ i. typed_if first.places (no_collection shaped.0 shaped.1 shaped.3 i) (shaped.3 i) (Some shaped.2) first.left) ∙ shaped.5 in
    subst (λ (w : JsonValue). geometry first.places w first.left ≡ Ok (g, now.left)) (sym h.1) read

-- ## Properties

pub no_properties : (fields : NamedValues) (v : JsonValue) → fields ≡ [] → v ≡ null → AreProperties fields v
no_properties fields v s e room = subst (λ (w : JsonValue). properties (Some w) room ≡ Ok (fields, room)) (sym e) (ap (λ (ps : NamedValues). Ok (ps, room)) (sym s))

abbrev put_if : Bool → List ℕ × Value → NamedValues → List ℕ → Value → NamedValues
put_if here f fs name w = if here then (f.0, w) ∷ fs else f ∷ put_value fs name w

property_put : (fs : List Member) (name : List ℕ) (v : JsonValue) → map property (put fs name v) ≡ put_value (map property fs) name (value_of (json_of v))
property_put [] name v = refl
property_put (f ∷ fs) name v = go (bytes_eq f.0 name) refl (property_put fs name v)
  where
    go : (b : Bool) → bytes_eq f.0 name ≡ b → map property (put fs name v) ≡ put_value (map property fs) name (value_of (json_of v)) → map property (put (f ∷ fs) name v) ≡ put_value (map property (f ∷ fs)) name (value_of (json_of v))
    go true e h =
        ap (λ (gs : List Member). map property gs) (put_here f fs name v e) ∙ ap (λ (n : List ℕ). (n, value_of (json_of v)) ∷ map property fs) (sym (same_bytes f.0 name e))
        ∙ sym (ap (λ (b : Bool). put_if b (property f) (map property fs) name (value_of (json_of v))) (flips name f.0 ∙ e))
    go false e h =
        ap (λ (gs : List Member). map property gs) (put_on f fs name v e) ∙ ap (λ (gs : NamedValues). property f ∷ gs) h
        ∙ sym (ap (λ (b : Bool). put_if b (property f) (map property fs) name (value_of (json_of v))) (flips name f.0 ∙ e))

json_again : (j : Json) → json_of (json_value j) ≡ j
json_again json.Null = refl
json_again (json.Bool b) = refl
json_again (json.Num t) = refl
json_again (json.Text t) = refl
json_again (json.List items) = refl
json_again (json.Object fs) = refl

pub property_taken : (first old new : PropertyTaker) (name : List ℕ) (j : Json) (value : Value) → value ≡ value_of j → new.fields ≡ put_value old.fields name value → PutsOne (HasProperties first old) (HasProperties first new) name (json_value j)
property_taken first old new name j value e put_is fs h =
    put_is ∙ (λ i. put_value (h i) name ((e ∙ ap (λ (k : Json). value_of k) (sym (json_again j))) i)) ∙ sym (property_put fs name (json_value j))

pub properties_read : (first now : PropertyTaker) (v : JsonValue) → first.fields ≡ [] → IsTakenObject (HasProperties first first) (HasProperties first now) v → AreProperties now.fields v
properties_read first now v start h room =
    subst (λ (w : JsonValue). properties (Some w) room ≡ Ok (now.fields, room)) (sym h.1) (ap (λ (ps : NamedValues). Ok (ps, room)) (sym (h.2 start)))

-- ## Features

abbrev Typed : Bool → Option JsonValue → Type 0
Typed b m = b ≡ true → m ≡ Some (string (codes "Feature"))

abbrev Named : Option NamedValues → Option JsonValue → Type 0
Named o m = IfSome o (λ ps. (room : ℕ) → properties m room ≡ Ok (ps, room))

abbrev Shaped : PartTaker → Option GeoShape → ℕ → Option JsonValue → Type 0
Shaped first o left m = MatchOption o (left ≡ first.left) (λ g. ReadsAs (geometry first.places) first.left g left (or_null m))

typed_as : (b c : Bool) (m n : Option JsonValue) → c ≡ b → n ≡ m → Typed b m → Typed c n
typed_as b c m n e f h = subst (λ (o : Option JsonValue). Typed c o) (sym f) (subst (λ (d : Bool). Typed d m) (sym e) h)

named_as : (o p : Option NamedValues) (m n : Option JsonValue) → p ≡ o → n ≡ m → Named o m → Named p n
named_as o p m n e f h = subst (λ (j : Option JsonValue). Named p j) (sym f) (subst (λ (q : Option NamedValues). Named q m) (sym e) h)

shaped_as : (first : PartTaker) (o p : Option GeoShape) (left after : ℕ) (m n : Option JsonValue) → p ≡ o → after ≡ left → n ≡ m → Shaped first o left m → Shaped first p after n
shaped_as first o p left after m n e l f h =
    subst (λ (j : Option JsonValue). Shaped first p after j) (sym f) (subst (λ (k : ℕ). Shaped first p k m) (sym l) (subst (λ (q : Option GeoShape). Shaped first q left m) (sym e) h))

pub part_type : (first old new : PartTaker) (v : JsonValue) → v ≡ string (codes "Feature")
    → new.places ≡ old.places → new.left ≡ old.left → new.fields ≡ old.fields → new.shape ≡ old.shape → PutsOne (HasParts first old) (HasParts first new) (codes "type") v
part_type first old new v is places left fields shape fs h = record {
  places = places ∙ h.places;
  feature = λ e. value_put_same (codes "type") (codes "type") v fs refl ∙ ap (λ (w : JsonValue). Some w) is;
  named = named_as old.fields new.fields _ _ fields (value_put_other (codes "properties") (codes "type") v fs refl) h.named;
  shape = shaped_as first old.shape new.shape old.left new.left _ _ shape left (value_put_other (codes "geometry") (codes "type") v fs refl) h.shape;
}

pub part_geometry : (first old new : PartTaker) (g : GeoShape) (v : JsonValue) → old.shape ≡ None → ReadsAs (geometry old.places) old.left g new.left v
    → new.places ≡ old.places → new.is_feature ≡ old.is_feature → new.fields ≡ old.fields → new.shape ≡ Some g → PutsOne (HasParts first old) (HasParts first new) (codes "geometry") v
part_geometry first old new g v none read places is_feature fields shape fs h =
    let left : old.left ≡ first.left = subst (λ (o : Option GeoShape). Shaped first o old.left (value_named (codes "geometry") fs)) none h.shape in
    let read_first : ReadsAs (geometry first.places) first.left g new.left v = subst (λ (n : ℕ). geometry first.places v n ≡ Ok (g, new.left)) left (subst (λ (n : ℕ). geometry n v old.left ≡ Ok (g, new.left)) h.places read) in
    record {
      places = places ∙ h.places;
      feature = typed_as old.is_feature new.is_feature _ _ is_feature (value_put_other (codes "type") (codes "geometry") v fs refl) h.feature;
      named = named_as old.fields new.fields _ _ fields (value_put_other (codes "properties") (codes "geometry") v fs refl) h.named;
      shape = shaped_as first (Some g) new.shape new.left new.left (Some v) _ shape refl (value_put_same (codes "geometry") (codes "geometry") v fs refl) read_first;
    }

pub part_properties : (first old new : PartTaker) (ps : NamedValues) (v : JsonValue) → ((room : ℕ) → properties (Some v) room ≡ Ok (ps, room))
    → new.places ≡ old.places → new.left ≡ old.left → new.is_feature ≡ old.is_feature → new.fields ≡ Some ps → new.shape ≡ old.shape → PutsOne (HasParts first old) (HasParts first new) (codes "properties") v
part_properties first old new ps v read places left is_feature fields shape fs h = record {
  places = places ∙ h.places;
  feature = typed_as old.is_feature new.is_feature _ _ is_feature (value_put_other (codes "type") (codes "properties") v fs refl) h.feature;
  named = named_as (Some ps) new.fields (Some v) _ fields (value_put_same (codes "properties") (codes "properties") v fs refl) read;
  shape = shaped_as first old.shape new.shape old.left new.left _ _ shape left (value_put_other (codes "geometry") (codes "properties") v fs refl) h.shape;
}

pub part_other : (first now : PartTaker) (name : List ℕ) (v : JsonValue) → bytes_eq name (codes "type") ≡ false → bytes_eq name (codes "geometry") ≡ false → bytes_eq name (codes "properties") ≡ false → PutsOne (HasParts first now) (HasParts first now) name v
part_other first now name v t g p fs h = record {
  places = h.places;
  feature = typed_as now.is_feature now.is_feature _ _ refl (value_put_other (codes "type") name v fs t) h.feature;
  named = named_as now.fields now.fields _ _ refl (value_put_other (codes "properties") name v fs p) h.named;
  shape = shaped_as first now.shape now.shape now.left now.left _ _ refl refl (value_put_other (codes "geometry") name v fs g) h.shape;
}

-- a member by its name
pub named_member : (P Q : List Member → Type 0) (name wanted : List ℕ) (v : JsonValue) → bytes_eq name wanted ≡ true → PutsOne P Q wanted v → PutsOne P Q name v
named_member P Q name wanted v e h = subst (λ (n : List ℕ). PutsOne P Q n v) (sym (same_bytes name wanted e)) h

abbrev feature_with : GeoShape → NamedValues → Feature
feature_with g ps = record { shape = g; fields = ps }

abbrev feature_if : ℕ → Bool → FieldList → Reads ShapeWhy Feature
feature_if places typed fields = if typed then feature_of_fields places fields else fails NotGeo

pub feature_read : (first now : PartTaker) (ps : NamedValues) (g : GeoShape) (v : JsonValue) → IsTakenObject (HasParts first first) (HasParts first now) v
    → first.is_feature ≡ false → first.fields ≡ None → first.shape ≡ None → now.is_feature ≡ true → now.fields ≡ Some ps → now.shape ≡ Some g → ReadsAs (feature first.places) first.left (feature_with g ps) now.left v
feature_read first now ps g v h untyped no_fields no_shape typed fields shape =
    let start : HasParts first first [] = record {
      places = refl;
      feature = λ e. absurd (let t : false ≡ true = sym untyped ∙ e in cc);
      named = named_as None first.fields None None no_fields refl tt;
      shape = shaped_as first None first.shape first.left first.left None None no_shape refl refl refl;
    } in
    let ms : List Member = fields_list h.0 in
    let end : HasParts first now ms = h.2 start in
    let named : Named (Some ps) (value_named (codes "properties") ms) = subst (λ (o : Option NamedValues). Named o (value_named (codes "properties") ms)) fields end.named in
    let shaped : Shaped first (Some g) now.left (value_named (codes "geometry") ms) = subst (λ (o : Option GeoShape). Shaped first o now.left (value_named (codes "geometry") ms)) shape end.shape in
    let read : feature first.places (object h.0) first.left ≡ Ok (feature_with g ps, now.left) =
    (λ i. feature_if first.places (bytes_eq (text_of (end.feature typed i)) (codes "Feature")) h.0 first.left)
    ∙ ap (λ (r : Result (GeoShape × ℕ) ShapeWhy). on_ok r (λ (q : GeoShape × ℕ). on_ok (properties (value_named (codes "properties") ms) q.1) (λ (n : NamedValues × ℕ). Ok (feature_with q.0 n.0, n.1)))) shaped
    ∙ ap (λ (r : Result (NamedValues × ℕ) ShapeWhy). on_ok r (λ (n : NamedValues × ℕ). Ok (feature_with g n.0, n.1))) (named now.left) in
    subst (λ (w : JsonValue). feature first.places w first.left ≡ Ok (feature_with g ps, now.left)) (sym h.1) read

pub feature_numbered : (places limit n room : ℕ) (v : JsonValue) (f : Feature) (after : ℕ) → n < limit → feature places v room ≡ Ok (f, after) → numbered member.Feature places limit (n, v) room ≡ Ok (f, after)
feature_numbered places limit n room v f after l e =
    cond-false (eqb n limit) _ _ (ne_eqb n limit (λ s. omega arith)) ∙ ap (λ (r : Result (Feature × ℕ) ShapeWhy). in_feature n r) e

-- ## Options

pub some_there : {A : Type 0} (P : A → Type 0) (o : Option A) → ((a : A) → o ≡ Some a → P a) → IfSome o P
some_there P None h = tt
some_there P (Some a) h = h a refl

pub has_some : {A : Type 0} (P : A → Type 0) (o : Option A) → is_some o ≡ true → IfSome o P → (a : A) × P a
has_some P None e h = absurd (let t : false ≡ true = e in cc)
has_some P (Some a) e h = (a, h)

pub nothing_there : {A : Type 0} (o : Option A) → is_some o ≡ false → o ≡ None
nothing_there None e = refl
nothing_there (Some a) e = absurd (let t : true ≡ false = e in cc)

pub not_false : (b : Bool) → false ≡ not b → b ≡ true
not_false true e = refl
not_false false e = absurd (let t : false ≡ true = e in cc)

-- Layers of objects, one object after another.
use Rattle.std.proofs.Common.{◌≡◌, ℕ, ◌+◌, ◌≤◌, List, [], ◌∷◌, ◌++◌, length, drop, append_assoc, append-nil, refl, sym, ap, ◌∙◌, Result, Ok, Err, Some}
use Rattle.std.specs.Prelude.{slice_get}
use Rattle.std.proofs.lemmas.Option.{get_or_from_slice_get, slice_get_within}
use Rattle.std.proofs.Math.Seq.{drop-cons}
use Rattle.std.proofs.Math.Numerals.{add-one}
use Rattle.std.proofs.Math.ListN.{drop_of_length-le}
use Rattle.json_values.specs.Json.{JsonValue, FieldList}
use Rattle.json_values.specs.Lists.{fields_list}
use Rattle.geojson_io.specs.LayerContent.{LayerContent}
use Rattle.geojson_io.specs.Layers.{layers_of}
use Rattle.geojson_io.specs.Reads.{on_ok}
use Rattle.geojson_io.specs.declared.reading.features.Feature.{Feature}
use Rattle.geojson_io.proofs.ReadLemmas.{put_before}
use Rattle.topo_io.specs.Reads.{Fault}
use Rattle.topo_io.specs.Topologies.{IsAdded, after_features, first_numbers, layers_of_members, object_features, object_layers}
use Rattle.topo_io.specs.declared.reading.Topology.{Topology}
use Rattle.topo_io.specs.declared.reading.features.Numbers.{Numbers}

abbrev first_part : Result (List LayerContent × ℕ) Fault → Result (List LayerContent) Fault
first_part r = on_ok r (λ (p : List LayerContent × ℕ). let layers : List LayerContent = p.0 in Ok layers)

abbrev Member : Type 0
Member = List ℕ × JsonValue

-- the numbers of the object with the number i, before which there are `before` features
abbrev pub numbers_at : ℕ → ℕ → ℕ → Numbers
numbers_at i before limit = record { object = i; before = before; limit = limit }

-- the layers of the first i objects are these
abbrev pub AreLayersTo : Topology → ℕ → List Member → ℕ → ℕ → ℕ → List LayerContent → ℕ → Type 0
AreLayersTo topology limit fs room i before layers left =
    object_layers topology (first_numbers limit) fs room ≡ on_ok (object_layers topology (numbers_at i before limit) (drop i fs) left) (put_before layers)

pub no_layers : (topology : Topology) (limit : ℕ) (fs : List Member) (room : ℕ) → AreLayersTo topology limit fs room 0 0 [] room
no_layers topology limit fs room = same (object_layers topology (first_numbers limit) fs room)
  where
    same : (r : Result (List LayerContent × ℕ) Fault) → r ≡ on_ok r (put_before [])
    same (Ok p) = refl
    same (Err e) = refl

-- the members from number i on
from_place : (fs : List Member) (i : ℕ) (m : Member) → slice_get fs i ≡ Some m → drop i fs ≡ m ∷ drop (i + 1) fs
from_place fs i m e = drop-cons fs i m (slice_get_within fs i m e) ∙ (λ j. get_or_from_slice_get fs i m m e j ∷ drop (sym (add-one i) j) fs)

-- the features of an object, and then the layers of the objects after it
abbrev then_layers : Topology → Numbers → List ℕ → List Member → List Feature × ℕ → Result (List LayerContent × ℕ) Fault
then_layers topology numbers name ms p =
    on_ok (object_layers topology (after_features numbers p.0) ms p.1) (λ (q : List LayerContent × ℕ). let r : List LayerContent × ℕ = (layers_of name p.0 ++ q.0, q.1) in Ok r)

pub object_more : (topology : Topology) (limit : ℕ) (fs : List Member) (room i before : ℕ) (layers : List LayerContent) (left : ℕ) (m : Member) (count after : ℕ) (now : List LayerContent)
    → slice_get fs i ≡ Some m → AreLayersTo topology limit fs room i before layers left
    → IsAdded (object_features topology (numbers_at i before limit) m.1 left) m.0 layers count after now → AreLayersTo topology limit fs room (i + 1) (before + count) now after
object_more topology limit fs room i before layers left m count after now is h a =
    let n : Numbers = numbers_at i before limit in
    h ∙ ap (λ (ms : List Member). on_ok (object_layers topology n ms left) (put_before layers)) (from_place fs i m is)
    ∙ ap (λ (r : Result (List Feature × ℕ) Fault). on_ok (on_ok r (then_layers topology n m.0 (drop (i + 1) fs))) (put_before layers)) a.is_read
    ∙ past (layers_of m.0 a.features) (object_layers topology (after_features n a.features) (drop (i + 1) fs) after)
    ∙ (λ j. on_ok (object_layers topology (numbers_at (i + 1) (before + sym a.count_is j) limit) (drop (i + 1) fs) after) (put_before (sym a.grown j)))
  where
    past : (ls : List LayerContent) (r : Result (List LayerContent × ℕ) Fault)
        → on_ok (on_ok r (λ (q : List LayerContent × ℕ). let r : List LayerContent × ℕ = (ls ++ q.0, q.1) in Ok r)) (put_before layers) ≡ on_ok r (put_before (layers ++ ls))
    past ls (Ok q) = ap (λ (x : List LayerContent). let r : List LayerContent × ℕ = (x, q.1) in Ok r) (sym (append_assoc layers ls q.0))
    past ls (Err e) = refl

pub object_stops : (topology : Topology) (limit : ℕ) (objects : FieldList) (room i before : ℕ) (layers : List LayerContent) (left : ℕ) (m : Member) (f : Fault)
    → slice_get (fields_list objects) i ≡ Some m → AreLayersTo topology limit (fields_list objects) room i before layers left
    → object_features topology (numbers_at i before limit) m.1 left ≡ Err f → layers_of_members topology room limit objects ≡ Err f
object_stops topology limit objects room i before layers left m f is h e =
    let n : Numbers = numbers_at i before limit in
    ap first_part (h ∙ ap (λ (ms : List Member). on_ok (object_layers topology n ms left) (put_before layers)) (from_place (fields_list objects) i m is)
    ∙ ap (λ (r : Result (List Feature × ℕ) Fault). on_ok (on_ok r (then_layers topology n m.0 (drop (i + 1) (fields_list objects)))) (put_before layers)) e)

pub all_layers : (topology : Topology) (limit : ℕ) (objects : FieldList) (room i before : ℕ) (layers : List LayerContent) (left : ℕ)
    → length (fields_list objects) ≤ i → AreLayersTo topology limit (fields_list objects) room i before layers left → layers_of_members topology room limit objects ≡ Ok layers
all_layers topology limit objects room i before layers left l h =
    ap first_part (h ∙ ap (λ (ms : List Member). on_ok (object_layers topology (numbers_at i before limit) ms left) (put_before layers)) (drop_of_length-le (fields_list objects) l))
    ∙ ap Ok (append-nil layers)

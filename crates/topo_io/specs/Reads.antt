-- Faults of a topology, and what a part of the reader answers. Reading in order is that of GeoJSON.
use Rattle.std.specs.Prelude.{◌≡◌, ℕ, List, [], ◌∷◌, Result, Ok, Err}
use Rattle.geojson_io.specs.Reads.{Reads, on_ok}
use Rattle.topo_io.specs.declared.fault.TopoWhy.{TopoWhy}
use Rattle.topo_io.specs.declared.fault.TopoPlace.{TopoPlace}
use Rattle.topo_io.specs.declared.fault.TopoFault.{TopoFault}
use Rattle.topo_io.specs.declared.fault.TopoFault.TheVariants.{Bad}
use Rattle.topo_io.specs.declared.fault.TopoFault.TheVariants as topo
use Rattle.topo_io.specs.declared.fault.Stop.{Stop}
use Rattle.topo_io.specs.declared.fault.Stop.TheVariants.{Why, Memory}

-- a fault, and where it stands
abbrev pub Fault : Type 0
Fault = TopoWhy × TopoPlace

-- each item of a list, with what goes on from each to the next
abbrev pub along : {E A S X : Type 0} → (X → S → Result (A × S) E) → List X → S → Result (List A) E
along read [] s = Ok []
along read (x ∷ xs) s = on_ok (read x s) (λ p. on_ok (along read xs p.1) (λ vs. Ok (p.0 ∷ vs)))

abbrev pub stopped_at : TopoPlace → Stop → TopoFault
stopped_at place (Why why) = Bad why place
stopped_at place Memory = topo.Memory

-- a fault with its place
abbrev pub in_place : {A : Type 0} → TopoPlace → Result A TopoWhy → Result A Fault
in_place place (Ok v) = Ok v
in_place place (Err why) = Err (why, place)

-- a part of the reader answers what is to be read, and leaves the room that is left; nothing is said of want of memory
abbrev pub Answers : {A : Type 0} → Reads TopoWhy A → ℕ → Result A Stop → ℕ → Type 0
Answers r old (Ok v) new = r old ≡ Ok (v, new)
Answers r old (Err (Why e)) new = r old ≡ Err e
Answers r old (Err Memory) new = Unit {0}

-- the same of a part that takes none of the room
abbrev pub AnswersPlain : {A : Type 0} → Result A TopoWhy → Result A Stop → Type 0
AnswersPlain r (Ok v) = r ≡ Ok v
AnswersPlain r (Err (Why e)) = r ≡ Err e
AnswersPlain r (Err Memory) = Unit {0}

-- the fault of a value is this one
abbrev pub IsFault : {A : Type 0} → Result A Fault → TopoFault → Type 0
IsFault r (Bad why place) = let fault : Fault = (why, place) in r ≡ Err fault
IsFault r topo.Memory = Unit {0}

-- a part that tells the place of its fault
abbrev pub AnswersIn : {A : Type 0} → Reads Fault A → ℕ → Result A TopoFault → ℕ → Type 0
AnswersIn r old (Ok v) new = r old ≡ Ok (v, new)
AnswersIn r old (Err e) new = IsFault (r old) e

-- a fault that stands at this place
abbrev pub StandsAt : TopoPlace → TopoFault → Type 0
StandsAt place (Bad why p) = p ≡ place
StandsAt place topo.Memory = Unit {0}

-- a part that takes none of the room, and tells the place of its fault
abbrev pub AnswersAt : {A : Type 0} → Result A Fault → Result A TopoFault → Type 0
AnswersAt r (Ok v) = r ≡ Ok v
AnswersAt r (Err e) = IsFault r e

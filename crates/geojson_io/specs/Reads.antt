-- Reading in order, with room for a number of positions; the first fault ends it.
use Rattle.std.specs.Prelude.{◌≡◌, ℕ, List, [], ◌∷◌, Result, Ok, Err}
use Rattle.geojson_io.specs.declared.fault.ShapeWhy.{ShapeWhy}
use Rattle.geojson_io.specs.declared.fault.ShapeFault.{ShapeFault}
use Rattle.geojson_io.specs.declared.fault.ShapeFault.TheVariants.{Bad}
use Rattle.geojson_io.specs.declared.fault.ShapeFault.TheVariants as shape
use Rattle.geojson_io.specs.declared.fault.Stop.{Stop}
use Rattle.geojson_io.specs.declared.fault.Stop.TheVariants.{Why, Memory}

-- on with what was read
abbrev pub on_ok : {A B E : Type 0} → Result A E → (A → Result B E) → Result B E
on_ok (Ok v) f = f v
on_ok (Err e) f = Err e

-- what is read, and the room that is left
abbrev pub Reads : Type 0 → Type 0 → Type 0
Reads E A = ℕ → Result (A × ℕ) E

abbrev pub gives : {E A : Type 0} → A → Reads E A
gives v = λ room. Ok (v, room)

abbrev pub fails : {E A : Type 0} → E → Reads E A
fails e = λ room. Err e

infixl 10 ◌>>=◌
abbrev pub ◌>>=◌ : {E A B : Type 0} → Reads E A → (A → Reads E B) → Reads E B
r >>= f = λ room. on_ok (r room) (λ p. f p.0 p.1)

-- each item of a list, one after another
abbrev pub each : {E A X : Type 0} → (X → Reads E A) → List X → Reads E (List A)
each read [] = gives []
each read (x ∷ xs) = read x >>= (λ v. each read xs >>= (λ vs. gives (v ∷ vs)))

-- a part of the reader answers what is to be read, and leaves the room that is left; nothing is said of want of memory
abbrev pub Answers : {A : Type 0} → Reads ShapeWhy A → ℕ → Result A Stop → ℕ → Type 0
Answers r old (Ok v) new = r old ≡ Ok (v, new)
Answers r old (Err (Why e)) new = r old ≡ Err e
Answers r old (Err Memory) new = Unit {0}

-- a fault, and the number of its feature
abbrev pub Fault : Type 0
Fault = ShapeWhy × ℕ

-- the fault of a value is this one
abbrev pub IsFault : {A : Type 0} → Result A Fault → ShapeFault → Type 0
IsFault r (Bad why n) = let fault : Fault = (why, n) in r ≡ Err fault
IsFault r shape.Memory = Unit {0}

-- the same of a part that tells the feature's number
abbrev pub AnswersIn : {A : Type 0} → Reads Fault A → ℕ → Result A ShapeFault → ℕ → Type 0
AnswersIn r old (Ok v) new = r old ≡ Ok (v, new)
AnswersIn r old (Err e) new = IsFault (r old) e

-- Readings that a first refusal ends, and what a call answers that follows one.
use Rattle.std.specs.Prelude.{◌≡◌, List, [], ◌∷◌, Option, Some, None, Result, Ok, Err}
use Rattle.cmd_words.specs.declared.fault.WordWhy.{WordWhy}
use Rattle.cmd_words.specs.declared.fault.Refusal.{Refusal}
use Rattle.cmd_words.specs.declared.fault.Refusal.TheVariants as refusal

abbrev pub on_ok : {T U E : Type 0} → Result T E → (T → Result U E) → Result U E
on_ok (Ok v) f = f v
on_ok (Err e) f = Err e

-- a value that there may be, or why there is none
abbrev pub or_refused : {A : Type 0} → WordWhy → Option A → Result A WordWhy
or_refused w None = Err w
or_refused w (Some x) = Ok x

-- the steps of a list, one after the other, up to the first refusal
abbrev pub each_step : {S A E : Type 0} → (S → A → Result S E) → S → List A → Result S E
each_step step s [] = Ok s
each_step step s (x ∷ xs) = on_ok (step s x) (λ t. each_step step t xs)

-- a call answers what the definition gives, or finds no memory; where it is Ok, the value is seen as this
abbrev pub Gives : {A B : Type 0} → Result B WordWhy → (A → B) → Result A Refusal → Type 0
Gives answer seen (Ok v) = answer ≡ Ok (seen v)
Gives answer seen (Err (refusal.Why why)) = answer ≡ Err why
Gives answer seen (Err refusal.Memory) = Unit {0}

-- the same of a call that changes a value
abbrev pub Makes : {B : Type 0} → Result B WordWhy → B → Result (Unit {0}) Refusal → Type 0
Makes answer new result = Gives answer (λ _. new) result

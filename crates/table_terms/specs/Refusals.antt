-- What comes first: a refusal, or an answer.
use Rattle.std.specs.Prelude.{Option, Some, None, Result, Ok, Err}

-- a refusal goes before the answer
abbrev pub unless : {T E : Type 0} → Option E → Result T E → Result T E
unless None r = r
unless (Some why) r = Err why

-- the first of two refusals
abbrev pub first_refusal : {E : Type 0} → Option E → Option E → Option E
first_refusal None e = e
first_refusal (Some e) _ = Some e

-- go on with an answer
abbrev pub on_ok : {T U E : Type 0} → Result T E → (T → Result U E) → Result U E
on_ok (Ok v) go = go v
on_ok (Err why) go = Err why

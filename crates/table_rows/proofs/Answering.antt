-- What a call answers after a test that may refuse.
use Rattle.std.proofs.Common.{◌≡◌, refl, sym, subst}
use Rattle.std.specs.Prelude.{Option, Some, None, Result, Ok, Err}
use Rattle.table_terms.specs.Refusals.{first_refusal, unless}
use Rattle.table_rows.specs.Refusals.{Answers, AnswersAs, Refuses}
use Rattle.table_rows.specs.declared.fault.TableWhy.{TableWhy}
use Rattle.table_rows.specs.declared.fault.TableFault.{TableFault}
use Rattle.table_rows.specs.declared.fault.TableFault.TheVariants.{Bad, Memory}

-- an answer says that nothing was refused
pub unless_parts : {T E : Type 0} (o : Option E) (x v : T) → unless o (Ok x) ≡ Ok v → (o ≡ None) × (x ≡ v)
unless_parts None x v e = (refl, cc)
unless_parts (Some why) x v e = cc

-- and a refusal is the one of the test
pub unless_refused : {T E : Type 0} (o : Option E) (x : T) (why : E) → unless o (Ok x) ≡ Err why → o ≡ Some why
unless_refused None x why e = cc
unless_refused (Some w) x why e = cc

-- ## An error that is handed on

pub answers_refusal : {T : Type 0} (r : Result T TableFault) (e : TableFault) (o : Option TableWhy) (wanted : Result T TableWhy) → r ≡ Err e → Refuses (Err e) o
    → ((why : TableWhy) → o ≡ Some why → wanted ≡ Err why) → Answers r wanted
answers_refusal {T} r (Bad why) o wanted is t on = subst (λ (s : Result T TableFault). Answers s wanted) (sym is) (on why t)
answers_refusal {T} r Memory o wanted is t on = subst (λ (s : Result T TableFault). Answers s wanted) (sym is) tt

-- of a call that answers something else
pub answers_other : {T U : Type 0} (r : Result T TableFault) (e : TableFault) (part : Result U TableWhy) (wanted : Result T TableWhy) → r ≡ Err e → Answers (Err e) part
    → ((why : TableWhy) → part ≡ Err why → wanted ≡ Err why) → Answers r wanted
answers_other {T} r (Bad why) part wanted is t on = subst (λ (s : Result T TableFault). Answers s wanted) (sym is) (on why t)
answers_other {T} r Memory part wanted is t on = subst (λ (s : Result T TableFault). Answers s wanted) (sym is) tt

-- the same, where the answer is seen as another value
pub answers_seen : {S T U : Type 0} (value : S → U) (r : Result T TableFault) (e : TableFault) (part : Result U TableWhy) (wanted : Result T TableWhy) → r ≡ Err e → AnswersAs value (Err e) part
    → ((why : TableWhy) → part ≡ Err why → wanted ≡ Err why) → Answers r wanted
answers_seen {S} {T} value r (Bad why) part wanted is t on = subst (λ (s : Result T TableFault). Answers s wanted) (sym is) (on why t)
answers_seen {S} {T} value r Memory part wanted is t on = subst (λ (s : Result T TableFault). Answers s wanted) (sym is) tt

pub seen_refusal : {S U : Type 0} (value : S → U) (r : Result S TableFault) (e : TableFault) (o : Option TableWhy) (wanted : Result U TableWhy) → r ≡ Err e → Refuses (Err e) o
    → ((why : TableWhy) → o ≡ Some why → wanted ≡ Err why) → AnswersAs value r wanted
seen_refusal {S} value r (Bad why) o wanted is t on = subst (λ (s : Result S TableFault). AnswersAs value s wanted) (sym is) (on why t)
seen_refusal {S} value r Memory o wanted is t on = subst (λ (s : Result S TableFault). AnswersAs value s wanted) (sym is) tt

-- ## Two tests

-- the first test refuses
pub refused_first : {T E : Type 0} (a b : Option E) (r : Result T E) (why : E) → a ≡ Some why → unless (first_refusal a b) r ≡ Err why
refused_first a b r why e = rw e refl

pub refused_alone : {T E : Type 0} (a : Option E) (r : Result T E) (why : E) → a ≡ Some why → unless a r ≡ Err why
refused_alone a r why e = rw e refl

-- Tests of texts, and choices between answers.
use Rattle.std.proofs.Common.{◌≡◌, Bool, true, false, not, ◌&&◌, ◌||◌, cond, List, [], ◌∷◌, Option, Some, None, is_some, Ok, Err, bytes_eq, refl, ap, sym, ◌∙◌}
use Rattle.std.specs.Option.{option_or}
use Rattle.std.specs.Bool.{one_answer}
use Rattle.std.proofs.lemmas.Slice.Eq.{bytes_eq-Decides}
use Rattle.table_terms.specs.Names.{Text}
use Rattle.table_terms.specs.Names as names
use Rattle.table_terms.specs.Refusals.{unless, first_refusal}
use Rattle.cmd_words.specs.declared.fault.WordWhy.{WordWhy}
use Rattle.cmd_words.specs.Rows as rows
use Rattle.cmd_words.specs.Groups.{Group}
use Rattle.cmd_words.specs.Options as reader
use Rattle.word_model.specs.Words.{refused_if}

-- ## Texts

pub same_bytes : (a b : Text) → bytes_eq a b ≡ true → a ≡ b
same_bytes a b e = (bytes_eq-Decides a b).0 e

pub bytes_eq_sym : (a b : Text) → bytes_eq a b ≡ bytes_eq b a
bytes_eq_sym a b = one_answer (bytes_eq a b) (bytes_eq b a) (bytes_eq-Decides a b) (λ e. sym (same_bytes b a e), λ e. (bytes_eq-Decides b a).1 (sym e))

-- a name among names, compared from either side
pub has_name_same : (ns : List Text) (name : Text) → names.has_name ns name ≡ rows.has_name ns name
has_name_same [] name = refl
has_name_same (n ∷ ns) name = ap (λ (b : Bool). b || names.has_name ns name) (bytes_eq_sym name n) ∙ ap (λ (b : Bool). bytes_eq n name || b) (has_name_same ns name)

-- ## Answers

pub or_false : (b : Bool) → (b || false) ≡ b
or_false true = refl
or_false false = refl

pub or_assoc : (a b c : Bool) → ((a || b) || c) ≡ (a || (b || c))
or_assoc true b c = refl
or_assoc false b c = refl

pub not_or : (a b : Bool) → not (a || b) ≡ (not a && not b)
not_or true b = refl
not_or false b = refl

-- neither of two stands where there is room
pub first_is_false : (a b : Bool) → not (not a && not b) ≡ false → a ≡ false
first_is_false true b e = absurd (cc)
first_is_false false b e = refl

pub none_of : {A : Type 0} (o : Option A) → is_some o ≡ false → o ≡ None
none_of None e = refl
none_of (Some x) e = absurd (cc)

pub or_none : {A : Type 0} (o : Option A) → option_or o None ≡ o
or_none None = refl
or_none (Some x) = refl

-- ## Refusals, one after the other

pub refused_none : (b : Bool) (w : WordWhy) → refused_if b w ≡ None → b ≡ false
refused_none true w e = absurd (cc)
refused_none false w e = refl

pub first_is_none : (a b : Option WordWhy) → first_refusal a b ≡ None → a ≡ None
first_is_none None b e = refl
first_is_none (Some w) b e = absurd (cc)

pub second_is_none : (a b : Option WordWhy) → first_refusal a b ≡ None → b ≡ None
second_is_none None b e = e
second_is_none (Some w) b e = absurd (cc)

-- a test that refuses, and what follows it
pub guard : (a b : Bool) (w : WordWhy) (rest : reader.Step) (more : Option WordWhy) (r : reader.Step) → a ≡ b → (b ≡ false → rest ≡ unless more r) → cond a (Err w) rest ≡ unless (first_refusal (refused_if b w) more) r
guard a true w rest more r e f = rw e refl
guard a false w rest more r e f = rw e (f refl)

-- the same of a last test
pub guard_last : (a b : Bool) (w : WordWhy) (rest r : reader.Step) → a ≡ b → (b ≡ false → rest ≡ r) → cond a (Err w) rest ≡ unless (refused_if b w) r
guard_last a true w rest r e f = rw e refl
guard_last a false w rest r e f = rw e (f refl)

-- a test that accepts
pub accepts : (b : Bool) (w : WordWhy) (g h : Group) → g ≡ h → reader.unless b w g ≡ unless (refused_if (not b) w) (Ok h)
accepts true w g h e = ap (λ (z : Group). Ok z) e
accepts false w g h e = refl

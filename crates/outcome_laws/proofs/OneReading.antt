-- Two readings of texts are one.
use Rattle.std.proofs.Common.{◌≡◌, refl, sym, ap, ◌∙◌, ℕ, Option, Some, None, Result, Ok, Err}
use Rattle.std.specs.Prelude.{IsUtf8, MatchOption, MatchResult}
use Rattle.std.proofs.Math.Path.{fun_ext}
use Rattle.io_core.specs.Contents.{Content}
use Rattle.json_read.specs.Faults.{IsFault}
use Rattle.json_values.specs.Grammar.{JsonText}
use Rattle.json_values.specs.Json.{JsonValue}
use Rattle.json_read.specs.declared.reader.Fault.{Fault}
use Rattle.json_read.specs.declared.reader.Fault.TheVariants as json
use Rattle.json_read.proofs.Unique.{text_one}
use Rattle.csv_io.specs.CsvUtf8.{EndsUtf8At}
use Rattle.expr_lang.specs.declared.fault.ExprFault.{ExprFault}
use Rattle.expr_lang.specs.declared.fault.ExprFault.TheVariants as fault
use Rattle.expr_laws.proofs.OneFault.{one_assigns_fault, one_fault}
use Rattle.cmd_words.specs.Expressions.{HasFault, TextKind, assignments, expression, fault_at}
use Rattle.cmd_words.specs.declared.fault.ExprWhy.{ExprWhy}
use Rattle.cmd_words.specs.declared.fault.ExprWhy.TheVariants as expr
use Rattle.chain_model.specs.Outcome.{InputWhy, syntax, depth, utf8, shape, topo, no_header, repeated_name, too_many_rows, unequal_row}
use Rattle.chain_model.specs.Sources.{IsJsonFault}
use Rattle.headline_laws.proofs.Unique.{end_one, fault_kind, fault_place}
use Rattle.outcome_laws.specs.Laws.{ReadingsAreOne}

-- ## Texts of JSON

abbrev why_of : Fault → ℕ → InputWhy
why_of json.Syntax at = syntax at
why_of json.Depth at = depth at
why_of json.Utf8 at = utf8 at

record Named (bytes : Content) (why : InputWhy) : Type 0 where
  kind : Fault
  at : ℕ
  is : IsFault 64 bytes kind at
  name : why ≡ why_of kind at

named : (bytes : Content) (why : InputWhy) → IsJsonFault bytes why → Named bytes why
named bytes (syntax at) h = record { kind = json.Syntax; at = at; is = h; name = refl }
named bytes (depth at) h = record { kind = json.Depth; at = at; is = h; name = refl }
named bytes (utf8 at) h = record { kind = json.Utf8; at = at; is = h; name = refl }
named bytes (shape why feature) h = absurd h
named bytes (topo why place) h = absurd h
named bytes no_header h = absurd h
named bytes (repeated_name column) h = absurd h
named bytes (too_many_rows row) h = absurd h
named bytes (unequal_row row) h = absurd h

one_why : (bytes : Content) (a b : InputWhy) → Named bytes a → Named bytes b → a ≡ b
one_why bytes a b p q =
    let place : p.at ≡ q.at = fault_place 64 bytes p.kind q.kind p.at q.at p.is q.is in
    let kind : p.kind ≡ q.kind = fault_kind 64 bytes p.kind q.kind p.at q.at p.is q.is in
    p.name ∙ (λ i. why_of (kind i) (place i)) ∙ sym q.name

one_json : (bytes : Content) (r q : Result JsonValue InputWhy) → MatchResult r (JsonText 64 bytes) (IsJsonFault bytes) → MatchResult q (JsonText 64 bytes) (IsJsonFault bytes) → r ≡ q
one_json bytes (Ok v) (Ok w) h g = ap Ok (text_one 64 bytes v w h g)
one_json bytes (Ok v) (Err b) h g = absurd ((named bytes b g).is.refused v h)
one_json bytes (Err a) (Ok w) h g = absurd ((named bytes a h).is.refused w g)
one_json bytes (Err a) (Err b) h g = ap Err (one_why bytes a b (named bytes a h) (named bytes b g))

-- ## Bytes that are UTF-8, or stop to be

one_end : (bytes : Content) (r q : Option ℕ) → MatchOption r (IsUtf8 bytes) (EndsUtf8At bytes) → MatchOption q (IsUtf8 bytes) (EndsUtf8At bytes) → r ≡ q
one_end bytes None None h g = refl
one_end bytes None (Some n) h g = absurd (g.0 h)
one_end bytes (Some m) None h g = absurd (h.0 g)
one_end bytes (Some m) (Some n) h g = ap Some (end_one bytes m n h g)

-- ## Expressions and assignments

abbrev place_and_why : ExprFault → ℕ × ExprWhy
place_and_why (fault.Syntax at) = (at, expr.Syntax)
place_and_why (fault.Unsupported at) = (at, expr.Unsupported)
place_and_why (fault.Depth at) = (at, expr.Depth)
place_and_why fault.Memory = (0, expr.Syntax)

told_by : (at : ℕ) (why : ExprWhy) → place_and_why (fault_at (at, why)) ≡ (at, why)
told_by at expr.Syntax = refl
told_by at expr.Unsupported = refl
told_by at expr.Depth = refl

one_of_kind : (kind : TextKind) (text : Content) (f g : ExprFault) → HasFault kind text f → HasFault kind text g → f ≡ g
one_of_kind expression text f g h k = one_fault text f g h k
one_of_kind assignments text f g h k = one_assigns_fault text f g h k

abbrev Refuses : TextKind → Content → Option (ℕ × ExprWhy) → Type 0
Refuses kind text r = MatchOption r ((f : ℕ × ExprWhy) → HasFault kind text (fault_at f) → ⊥) (λ f. HasFault kind text (fault_at f))

one_refusal : (kind : TextKind) (text : Content) (r q : Option (ℕ × ExprWhy)) → Refuses kind text r → Refuses kind text q → r ≡ q
one_refusal kind text None None h g = refl
one_refusal kind text None (Some f) h g = absurd (h f g)
one_refusal kind text (Some f) None h g = absurd (g f h)
one_refusal kind text (Some f) (Some e) h g = ap Some (sym (told_by f.0 f.1) ∙ ap place_and_why (one_of_kind kind text (fault_at f) (fault_at e) h g) ∙ told_by e.0 e.1)

pub readings_are_one : ReadingsAreOne
readings_are_one read other right right' =
    let of_json : read.json ≡ other.json = fun_ext (λ bytes. one_json bytes (read.json bytes) (other.json bytes) (right.json bytes) (right'.json bytes)) in
    let of_utf8 : read.utf8_end ≡ other.utf8_end = fun_ext (λ bytes. one_end bytes (read.utf8_end bytes) (other.utf8_end bytes) (right.utf8 bytes) (right'.utf8 bytes)) in
    let of_words : read.refusals ≡ other.refusals = fun_ext (λ kind. fun_ext (λ text. one_refusal kind text (read.refusals kind text) (other.refusals kind text) (right.expressions kind text) (right'.expressions kind text))) in
    λ i. record { json = of_json i; utf8_end = of_utf8 i; refusals = of_words i }

use Rattle.std.proofs.Common.{refl, ◌≡◌, ◌≢◌, ◌∙◌, ap, true, ℤ, Some, FitsSigned, to_z-of_z, ◌⊎◌, inl, inr}
use Rattle.std.specs.Int.{w128}
use Rattle.std.specs.Prelude.{option_map}
use Rattle.numerals.specs.Units.{counted, units_of_text}
use Rattle.numerals.proofs.Quotients.{no_units, units_none, units_some}
use Rattle.numerals.proofs.units.units_of.Goals.{then-scaled-ne0-via-then-scaled-ne0, then-scaled-ne0-via-else-scaled-ne0+then-scaled}
use Rattle.numerals.proofs.units.units_of.Goals as goal

pub returns-in_err-minus-clause-exact : goal.returns-in_err-minus-clause-exact
returns-in_err-minus-clause-exact c = c.from_residual.ensures ∙ no_units c.args.places c.args.text.now c.args.text.now refl c.in_err-minus.ensures.exact

pub returns-then-scaled-ne0-clause-exact : goal.returns-then-scaled-ne0-clause-exact
returns-then-scaled-ne0-clause-exact c =
    let r = c.in_ok-minus.scaled in
    let rest : (r.tenths ≢ 0) ⊎ (r.more ≡ true) = elim c.then-scaled-ne0.branch [
      | then-scaled-ne0-via-then-scaled-ne0 w ↦ inl w.if-scaled-ne0.true
      | then-scaled-ne0-via-else-scaled-ne0+then-scaled w ↦ inr w.if-scaled.true
    ] in
    units_none c.args.places c.args.text.now c.args.text.now _ r refl c.in_ok-minus.ensures.exact rest

pub returns-clause-exact : goal.returns-clause-exact
returns-clause-exact c =
    let fits : FitsSigned w128 c.with_sign.result = record { sfits = c.with_sign.type_inv } in
    let is : Some c.with_sign.result ≡ option_map counted (units_of_text c.args.places c.args.text.now) =
    ap (λ (z : ℤ). Some z) c.with_sign.ensures.exact
    ∙ units_some c.args.places c.args.text.now c.args.text.now _ c.in_ok-minus.scaled refl c.in_ok-minus.ensures.exact c.if-scaled-ne0.false c.if-scaled.false in
    simp to_z-of_z is

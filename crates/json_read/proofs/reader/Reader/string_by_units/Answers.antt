use Rattle.std.proofs.Common.{◌∙◌, arith, length, ap}
use Rattle.std.specs.String.{string_bytes}
use Rattle.json_read.specs.Machine.{is_value}
use Rattle.json_read.proofs.Strings.{one_more, string_ends, string_breaks, unit_shortens}
use Rattle.json_read.proofs.Parts.{at_exit, passes_over}
use Rattle.json_read.proofs.reader.Reader.string_by_units.Goals as goal

pub returns-then-take : goal.returns-then-take
returns-then-take c = record {
  read = λ r.
      string_ends r (string_bytes c.loop-text.text) _ c.loop-text.half _ _ _ (c.loop-text.invariant.passes r) (c.take.ensures.taken c.if-take.true) (c.from_string.ensures.kept ∙ c.in_ok-end_units.ensures.ok);
}

pub returns-in_err-unit : goal.returns-in_err-unit
returns-in_err-unit c = record {
  read = λ r.
      at_exit _ _ c.from_residual-in_err-unit.result c.in_err-unit.field-0.0 c.from_residual-in_err-unit.ensures.1 (string_breaks r c.in_err-unit.field-0.0 (string_bytes c.loop-text.text) c.loop-text.half _ _ _ (passes_over (c.loop-text.invariant.passes r) (c.take.ensures.stays c.if-take.false)) (c.in_err-unit.ensures.read r));
}

pub loop-text-smaller : goal.loop-text-smaller
loop-text-smaller c = let h = unit_shortens is_value c.in_ok-unit.unit _ _ (c.in_ok-unit.ensures.read is_value) in let e = ap length (c.take.ensures.stays c.if-take.false) in omega (arith, h, e)

pub loop-text-preserved : goal.loop-text-preserved
loop-text-preserved c = record {
  passes = λ r. one_more r c.in_ok-unit.unit (string_bytes c.loop-text.text) _ c.loop-text.half _ _ _ _ (passes_over (c.loop-text.invariant.passes r) (c.take.ensures.stays c.if-take.false)) (c.in_ok-unit.ensures.read r) c.in_ok-half.ensures.text;
  half = c.in_ok-half.ensures.half;
}

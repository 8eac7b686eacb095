use Rattle.std.proofs.Common.{◌∙◌, sym, ap}
use Rattle.plane_model.specs.Arcs.{SignedArc}
use Rattle.face_sets.specs.Owners.{owners_of}
use Rattle.line_ops.specs.Inside.{left_of}
use Rattle.line_ops.proofs.SideLemmas.{none_sided, some_sided}
use Rattle.line_ops.proofs.sides.sides_of.Goals as goal

pub returns-then-eq : goal.returns-then-eq
returns-then-eq c = record {
  exact = λ sets h.
      let sets_at = λ (a : SignedArc). owners_of sets (left_of c.args.f.now a) in
      none_sided c.args.f.now sets c.args.arc c.sets_left_of-left.result.now c.sets_left_of-right.result.now
      (c.sets_left_of-left.ensures.exact sets h ∙ ap sets_at c.forward.ensures.made) (c.sets_left_of-right.ensures.exact sets h ∙ ap sets_at c.backward.ensures.made)
      (sym c.if-eq.ensures);
}

pub returns : goal.returns
returns c = record {
  exact = λ sets h.
      let sets_at = λ (a : SignedArc). owners_of sets (left_of c.args.f.now a) in
      some_sided c.args.f.now sets c.args.arc c.sets_left_of-left.result.now c.sets_left_of-right.result.now
      (c.sets_left_of-left.ensures.exact sets h ∙ ap sets_at c.forward.ensures.made) (c.sets_left_of-right.ensures.exact sets h ∙ ap sets_at c.backward.ensures.made)
      (sym c.if-eq.ensures) c.copied.result c.copied-2.result (c.copied.ensures ∙ c.first.ensures.value) (c.copied-2.ensures ∙ c.first-2.ensures.value);
}

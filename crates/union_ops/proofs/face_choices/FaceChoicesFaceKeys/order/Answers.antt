use Rattle.std.proofs.Common.{◌∙◌, ap}
use Rattle.std.specs.Ordering.{is_lt}
use Rattle.std.specs.Cmp.Lexicographic.{slice_cmp}
use Rattle.union_ops.specs.Choices.{number_order}
use Rattle.union_ops.proofs.face_choices.FaceChoicesFaceKeys.order.Goals as goal

pub returns : goal.returns
returns c = record { less = ap is_lt c.choice_order.ensures.exact ∙ (λ i. is_lt (slice_cmp number_order (c.at.ensures.exact i) (c.at-2.ensures.exact i))) }

use Rattle.std.proofs.Common.{◌∙◌, ap, nat_cmp}
use Rattle.std.specs.Ordering.{is_lt}
use Rattle.std.specs.Cmp.Lexicographic.{slice_cmp}
use Rattle.face_groups.proofs.keys.FaceOwnersFaceKeys.order.Goals as goal

pub returns : goal.returns
returns c = record { less = ap is_lt c.cmp.ensures ∙ (λ i. is_lt (slice_cmp nat_cmp (c.at.ensures.exact i) (c.at-2.ensures.exact i))) }

use Rattle.std.proofs.Common.{◌∙◌, ◌<◌, sym, ap, ℕ, List, subst, length}
use Rattle.face_walk.proofs.JoiningLemmas.{length_least}
use Rattle.face_walk.proofs.joining.Joining.least.Goals as goal

pub least_of-requires-clause-there : goal.least_of-requires-clause-there
least_of-requires-clause-there c =
    subst (λ (k : ℕ). c.args.n < k) (sym (ap (λ (xs : List ℕ). length xs) c.self.view_is) ∙ length_least c.self.inside.lesser.items ∙ sym (ap (λ (xs : List ℕ). length xs) c.deref.ensures.value)) c.requires

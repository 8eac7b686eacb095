use Rattle.std.proofs.Common.{◌∙◌, ◌<◌, sym, ap, ℕ, List, subst, length}
use Rattle.face_walk.proofs.JoiningLemmas.{length_least}
use Rattle.face_walk.proofs.joining.Joining.join.Goals as goal

pub join_two-requires-clause-first : goal.join_two-requires-clause-first
join_two-requires-clause-first c =
    subst (λ (k : ℕ). c.args.m < k) (sym (ap (λ (xs : List ℕ). length xs) c.self.view_is) ∙ length_least c.self.inside.lesser.items ∙ sym (ap (λ (xs : List ℕ). length xs) c.deref_mut.ensures.value)) c.requires.first

pub join_two-requires-clause-second : goal.join_two-requires-clause-second
join_two-requires-clause-second c =
    subst (λ (k : ℕ). c.args.n < k) (sym (ap (λ (xs : List ℕ). length xs) c.self.view_is) ∙ length_least c.self.inside.lesser.items ∙ sym (ap (λ (xs : List ℕ). length xs) c.deref_mut.ensures.value)) c.requires.second

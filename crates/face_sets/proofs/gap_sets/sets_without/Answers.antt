use Rattle.std.proofs.Common.{rules, ◌≡◌, ◌∙◌, ap, List, ℕ, filter, not, nat_eq}
use Rattle.std.proofs.lemmas.Fn.{filter_same}
use Rattle.std.proofs.lemmas.Result.{IfOk-weaker}
use Rattle.lists.specs.Lists.{has}
use Rattle.face_sets.proofs.gap_sets.sets_without.Goals as goal

pub returns : goal.returns
returns c =
    let left = filter_same _ _ _ (λ x b f' k. search rules) _ _ c.retain.ensures.filtered in
    record { exact = IfOk-weaker c.from_vec.result (λ sets. sets ≡ c.retain.new.self.items) (λ sets. sets ≡ filter (λ (set : List ℕ). not (has nat_eq set c.args.face)) c.args.sets) (λ sets same. same ∙ left ∙ ap (λ sets. filter (λ (set : List ℕ). not (has nat_eq set c.args.face)) sets) c.into_vec-left.ensures.all) c.from_vec.ensures.same }

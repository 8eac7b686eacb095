use Rattle.std.proofs.Common.{◌≡◌, ◌∙◌, ◌-◌, ap, sym, subst, vec_len, ℕ, List, Some, length, take}
use Rattle.std.specs.Prelude.{slice_get}
use Rattle.face_walk.proofs.OddLemmas.{number_in, number_out}
use Rattle.face_walk.proofs.labels.flip_number.Goals as goal

pub returns-then-ends_in : goal.returns-then-ends_in
returns-then-ends_in c =
    let old = c.args.odd.now.items in
    let last : slice_get old (length old - 1) ≡ Some c.args.n = subst (λ (xs : List ℕ). slice_get xs (length xs - 1) ≡ Some c.args.n) c.deref.ensures.value (c.ends_in.ensures.yes c.if-ends_in.true) in
    let size : vec_len c.args.odd.now ≡ length old = sym c.deref.ensures.len ∙ ap (λ (xs : List ℕ). length xs) c.deref.ensures.value in
    record { flipped = number_out old c.pop.new.self.items c.args.n c.requires.rising last (c.pop.ensures.rest ∙ (λ i. take (size i - 1) old)) }

pub returns-in_ok-push : goal.returns-in_ok-push
returns-in_ok-push c =
    let old = c.args.odd.now.items in
    let other : slice_get old (length old - 1) ≡ Some c.args.n → ⊥ = subst (λ (xs : List ℕ). slice_get xs (length xs - 1) ≡ Some c.args.n → ⊥) c.deref.ensures.value (c.ends_in.ensures.no c.if-ends_in.false) in
    record { flipped = number_in old c.push.new.self.items c.args.n c.requires.rising c.requires.low other c.in_ok-push.ensures.items }

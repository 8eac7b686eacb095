use Rattle.std.proofs.Common.{◌≡◌, ◌∙◌, sym, subst, ap, ℕ, ◌≤◌, List, length, filter, nat_lt}
use Rattle.std.proofs.lemmas.List.{take_all}
use Rattle.std.proofs.lemmas.List.Elements.{All-filter}
use Rattle.std.proofs.lemmas.List.Kept.{IsStrictlyIncreasing-filter}
use Rattle.lists.specs.Lists.{ascending}
use Rattle.face_sets.specs.Sets.{IsInnerFace, IsSetOf}
use Rattle.region_ops.specs.Cleaned.{is_first}
use Rattle.region_ops.proofs.FirstLemmas.{in_order}
use Rattle.region_ops.proofs.cleaned_sets.faces_won.Goals as goal

is_won : (c : goal.After-from_faces) → c.from_faces.result ≡ filter (is_first c.args.firsts.now c.args.number) c.args.set.now
is_won c =
    let test = is_first c.args.firsts.now c.args.number in
    let done : length c.args.set.now ≤ c.loop-face.face-index = subst (λ (xs : List ℕ). length xs ≤ c.loop-face.face-index) c.faces-face-items.ensures.all c.loop-face-test.false in
    c.from_faces.ensures.exact ∙ ap (ascending nat_lt) (c.loop-face.invariant ∙ ap (filter test) (take_all c.loop-face.face-index c.args.set.now done))
    ∙ in_order (filter test c.args.set.now) (IsStrictlyIncreasing-filter test c.args.set.now c.faces-face-items.ensures.ascending)

pub returns-clause-exact : goal.returns-clause-exact
returns-clause-exact c = is_won c

pub returns-clause-inner : goal.returns-clause-inner
returns-clause-inner c = subst (IsSetOf c.args.f.now) (sym (is_won c)) (All-filter (is_first c.args.firsts.now c.args.number) (IsInnerFace c.args.f.now) c.args.set.now c.requires.inner)

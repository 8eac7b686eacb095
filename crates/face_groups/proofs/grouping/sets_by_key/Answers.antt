use Rattle.std.proofs.Common.{subst, ℕ, List, Contains}
use Rattle.std.proofs.lemmas.List.Elements.{All-contains}
use Rattle.face_groups.specs.Groups.{AreKeySets, IsKeyed}
use Rattle.face_groups.proofs.Runs.{sets_of_same}
use Rattle.face_groups.proofs.grouping.sets_by_key.Goals as goal

pub returns : goal.returns
returns g c =
    let keyed = g.K.FaceKeys.is_keyed c.args.keys.now in
    let before = g.K.FaceKeys.comes_before c.args.keys.now in
    let faces = c.in_ok-faces.faces.items in
    let all = c.in_ok-faces.ensures.all in
    let made = subst (λ (xs : List ℕ). AreKeySets (Contains xs) before c.in_ok-sets.sets) c.deref.ensures.value c.in_ok-sets.ensures.exact in
    record { exact = sets_of_same (Contains faces) (IsKeyed c.args.f.now keyed) before c.in_ok-sets.sets (λ k d. All-contains (IsKeyed c.args.f.now keyed) faces k all.each d) all.all made }

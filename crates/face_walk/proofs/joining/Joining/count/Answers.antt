use Rattle.std.proofs.Common.{◌≡◌, ℕ, List, arith, subst, length}
use Rattle.face_walk.specs.Joining.{AreClasses}
use Rattle.face_walk.proofs.JoiningLemmas.{length_least, are_classes}
use Rattle.face_walk.proofs.joining.Joining.count.Goals as goal

pub returns-clause-exact : goal.returns-clause-exact
returns-clause-exact c =
    let e = c.len.ensures in
    let f = length_least c.self.inside.lesser.items in
    subst (λ (xs : List ℕ). c.len.result ≡ length xs) c.self.view_is (omega arith)

pub returns-clause-classes : goal.returns-clause-classes
returns-clause-classes c = subst AreClasses c.self.view_is (are_classes c.self.inside.lesser.items c.self.invariant.0)

use Rattle.std.proofs.Common.{◌≡◌, ◌-◌, sym, Some, length}
use Rattle.std.specs.Prelude.{slice_get}
use Rattle.std.proofs.lemmas.Bool.{ltb-false}
use Rattle.face_walk.proofs.OddLemmas.{low_last}
use Rattle.face_walk.proofs.labels.ends_above.Goals as goal

pub returns-in-Some : goal.returns-in-Some
returns-in-Some c =
    let numbers = c.args.numbers.now in
    let last = c.in-Some.last.now in
    let found : slice_get numbers (length numbers - 1) ≡ Some last = sym c.in-Some.ensures.value in
    record { no = λ e. low_last numbers last c.args.n c.requires.rising found (ltb-false c.args.n last e) }

use Rattle.std.proofs.Common.{◌≡◌, ◌++◌, arith, subst, List, OnOk}
use Rattle.plane_model.specs.Points.{Segment}
use Rattle.std.proofs.lemmas.Bool.Decides.{nat_tests}
use Rattle.hot_pixels.proofs.Appending.{path_begins}
use Rattle.hot_pixels.proofs.spots.add_path.Goals as goal

pub returns : goal.returns
returns c =
    let e = path_begins c.args.path.now c.index-path-0.result (grind (arith, nat_tests)) c.index-path-0.is in
    record { added = subst (λ (t : List Segment). OnOk c.add_steps.result (c.add_steps.new.spots.items ≡ c.args.spots.now.items ++ t)) e c.add_steps.ensures.added }

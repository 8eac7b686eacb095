use Rattle.std.proofs.Common.{rules, ◌≡◌, ◌+ℤ◌, Some, None, if◌then◌else◌, FitsSigned, to_z-of_z}
use Rattle.std.specs.Int.{w64}
use Rattle.json_values.specs.Seen.{json_value}
use Rattle.topo_io.specs.Positions.{is_sum}
use Rattle.topo_io.proofs.SumLemmas.{sums_are, sums_past}
use Rattle.topo_io.proofs.reading.positions.sums_after.Goals as goal

pub returns-in_default-sum-2-clause-exact : goal.returns-in_default-sum-2-clause-exact
returns-in_default-sum-2-clause-exact c =
    let w = c.in-Some.ensures.exact in
    let y : None ≡ (if is_sum (c.args.before.y +ℤ w.1) then Some (c.args.before.y +ℤ w.1) else None) = search (rules, c.in_default-sum-2.ensures.exact w.1 (search (rules, w.4))) in
    sums_past (json_value c.args.json.now) c.args.before w.0 w.1 w.2 y

pub returns-clause-exact : goal.returns-clause-exact
returns-clause-exact c =
    let w = c.in-Some.ensures.exact in
    let x : Some c.in-Some-sum.x ≡ (if is_sum (c.args.before.x +ℤ w.0) then Some (c.args.before.x +ℤ w.0) else None) = search (rules, c.in-Some-sum.ensures.exact w.0 (search (rules, w.3))) in
    let y : Some c.in-Some-sum-2.y ≡ (if is_sum (c.args.before.y +ℤ w.1) then Some (c.args.before.y +ℤ w.1) else None) = search (rules, c.in-Some-sum-2.ensures.exact w.1 (search (rules, w.4))) in
    let f : FitsSigned w64 c.in-Some-sum.x = search rules in
    let g : FitsSigned w64 c.in-Some-sum-2.y = search rules in
    let is = sums_are (json_value c.args.json.now) c.args.before c.in-Some-sum.x c.in-Some-sum-2.y w.0 w.1 w.2 x y in
    simp to_z-of_z is

use Rattle.std.proofs.Common.{◌≡◌, ◌+◌, arith, get_or, sym, subst, take, ℕ, List, Some}
use Rattle.std.specs.Prelude.{slice_get}
use Rattle.std.specs.List.{AllZip}
use Rattle.std.proofs.lemmas.List.{take_all}
use Rattle.std.proofs.lemmas.Option.{get_or_from_slice_get, slice_get_within}
use Rattle.plane_model.specs.Arcs.{SignedArc}
use Rattle.plane_model.specs.Points.{Path}
use Rattle.run_plane.specs.LineArcs.{AreLineArcs}
use Rattle.run_plane.proofs.Growth.{zipped_next}
use Rattle.run_plane.proofs.lines.lines_along.Goals as goal

pub loop-number-preserved : goal.loop-number-preserved
loop-number-preserved c =
    let arcs = c.args.arcs.now in
    let all = c.args.snapped.now.lines in
    let n = c.loop-number.number in
    let paths = c.lines_of-paths.result.now in
    let along = c.in_ok-along.along in
    let found : slice_get all n ≡ Some paths = subst (λ (k : ℕ). slice_get all k ≡ Some paths) c.new.ensures.made c.lines_of-paths.ensures.found in
    let is : paths ≡ get_or all n paths = sym (get_or_from_slice_get all n paths paths found) in
    let there = slice_get_within all n paths found in
    let last : AreLineArcs arcs paths along = subst (λ (lines : List Path). AreLineArcs arcs lines along) c.as_slice.ensures.all c.in_ok-along.ensures.along in
    subst (λ (lines : List (List (List SignedArc))). AllZip (AreLineArcs arcs) (take (n + 1) all) lines) (sym c.in_ok-push.ensures.items)
    (zipped_next (AreLineArcs arcs) all n paths c.loop-number.lines.items along there is c.loop-number.invariant last)

pub returns : goal.returns
returns c =
    let all = c.args.snapped.now.lines in
    let count = c.line_count-number-end.ensures.count in
    let done = c.loop-number-test.false in
    record { along = subst (λ (lines : List (List Path)). AllZip (AreLineArcs c.args.arcs.now) lines c.loop-number.lines.items) (take_all c.loop-number.number all (omega arith)) c.loop-number.invariant }

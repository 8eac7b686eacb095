use Rattle.std.proofs.Common.{◌≡◌, ◌≤◌, ◌+◌, arith, ℕ}
use Rattle.std.proofs.lemmas.Result.{IfOk-weaker}
use Rattle.plane_model.specs.Snapped.{link_count}
use Rattle.snap_round.proofs.VertexCount.{no_more_links}
use Rattle.snap_round.proofs.vertex_count.count_vertices.Goals as goal

pub returns : goal.returns
returns c =
    let a = c.in_ok-polygons.ensures.exact in
    let b = c.in_ok-lines.ensures.exact in
    let e = c.in_ok-boxes.ensures.exact in
    let f = c.in_ok-paths.ensures.exact in
    let most = no_more_links c.args.d.now in
    record { made = IfOk-weaker c.counted-2.result (λ (count : ℕ). count ≡ c.in_ok-paths.paths + c.in_ok-boxes.boxes) (λ (count : ℕ). link_count c.args.d.now ≤ count) (λ count g. omega arith) c.counted-2.ensures.exact }

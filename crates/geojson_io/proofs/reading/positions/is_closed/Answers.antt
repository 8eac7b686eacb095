use Rattle.std.proofs.Common.{◌∙◌, ap, ◌&&◌}
use Rattle.grid_base.proofs.RepeatLemmas.{int_eq_is}
use Rattle.geojson_io.specs.Positions.{is_closed}
use Rattle.geojson_io.proofs.PathLemmas.{closed_by_ends}
use Rattle.geojson_io.proofs.reading.positions.is_closed.Goals as goal

pub returns-in-len2-up : goal.returns-in-len2-up
returns-in-len2-up c =
    let first = c.first-item.result in
    let last = c.last-item.result in
    record { exact = c.eq.ensures ∙ (λ i. int_eq_is first.x last.x i && int_eq_is first.y last.y i) ∙ closed_by_ends c.as_slice.result.now first last c.in-len2-up.len_at_least c.first-item.is c.last-item.is ∙ ap is_closed c.as_slice.ensures.all }

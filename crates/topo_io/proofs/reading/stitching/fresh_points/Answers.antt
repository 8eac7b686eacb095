use Rattle.std.proofs.Common.{◌∙◌, ap, sym, cond, ◌&&◌, Bool, ◌≡◌, true, false, Ok, Err}
use Rattle.plane_model.specs.Points.{Path, same_point}
use Rattle.grid_base.proofs.RepeatLemmas.{int_eq_is}
use Rattle.topo_io.specs.Stitching.{fresh_points, turned}
use Rattle.topo_io.specs.declared.fault.TopoWhy.TheVariants.{Unstitched}
use Rattle.topo_io.proofs.StitchLemmas.{fresh_after}
use Rattle.topo_io.proofs.reading.stitching.fresh_points.Goals as goal

pub returns-then-eq-clause-ok : goal.returns-then-eq-clause-ok
returns-then-eq-clause-ok c =
    let last = c.last-item.result in
    let start = c.in-Some.start.now in
    let way : Path = turned c.args.is_reversed c.args.points.now in
    let rest : Path = turned c.args.is_reversed c.in-Some.rest.now in
    let test : same_point last start ≡ true = sym (c.eq.ensures ∙ (λ i. int_eq_is last.x start.x i && int_eq_is last.y start.y i)) ∙ c.if-eq.true in
    ap (λ (path : Path). fresh_points path way) (sym c.as_slice.ensures.all)
    ∙ fresh_after c.as_slice.result.now way last start rest c.in-len1-up.len_at_least c.last-item.is c.in-Some.ensures.cases
    ∙ ap (λ (t : Bool). cond t (Ok rest) (Err Unstitched)) test

pub returns-else-eq-clause-fault : goal.returns-else-eq-clause-fault
returns-else-eq-clause-fault c =
    let last = c.last-item.result in
    let start = c.in-Some.start.now in
    let way : Path = turned c.args.is_reversed c.args.points.now in
    let rest : Path = turned c.args.is_reversed c.in-Some.rest.now in
    let test : same_point last start ≡ false = sym (c.eq.ensures ∙ (λ i. int_eq_is last.x start.x i && int_eq_is last.y start.y i)) ∙ c.if-eq.false in
    ap (λ (path : Path). fresh_points path way) (sym c.as_slice.ensures.all)
    ∙ fresh_after c.as_slice.result.now way last start rest c.in-len1-up.len_at_least c.last-item.is c.in-Some.ensures.cases
    ∙ ap (λ (t : Bool). cond t (Ok rest) (Err Unstitched)) test

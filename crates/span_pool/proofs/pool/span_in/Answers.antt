use Rattle.std.proofs.Common.{◌∙◌, length, ap, sym, arith}
use Rattle.std.specs.Prelude.{slice_index_or, slice_range}
use Rattle.span_pool.proofs.Cutting.{get_or-cut, CutsUp-at}
use Rattle.span_pool.proofs.pool.span_in.Goals as goal

pub part-requires-clause-ordered : goal.part-requires-clause-ordered
part-requires-clause-ordered g c =
    omega (arith, c.begin_of.ensures.exact, (CutsUp-at 0 c.args.ends.now (length c.args.items.now) c.args.number c.requires.cut_up c.requires.there).0)

pub part-requires-clause-within : goal.part-requires-clause-within
part-requires-clause-within g c = (CutsUp-at 0 c.args.ends.now (length c.args.items.now) c.args.number c.requires.cut_up c.requires.there).1

pub returns : goal.returns
returns g c =
    let ends = c.args.ends.now in
    let items = c.args.items.now in
    record {
      exact = c.part.ensures.exact
          ∙ ap (λ start. slice_range items start (slice_index_or ends c.args.number 0)) c.begin_of.ensures.exact
          ∙ sym (get_or-cut 0 ends items c.args.number c.requires.there);
    }

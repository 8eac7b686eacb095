use Rattle.std.proofs.Common.{◌≡◌, ◌∙◌, arith, subst, ℕ}
use Rattle.face_walk.specs.Joins.{joined_by}
use Rattle.face_walk.specs.Sectors.{sectors_below}
use Rattle.face_walk.proofs.SectorLemmas.{joined_next}
use Rattle.face_walk.proofs.sectors.join_row.Goals as goal

pub loop-i-preserved : goal.loop-i-preserved
loop-i-preserved c = (
  c.join_sector.ensures.count ∙ c.loop-i.invariant.0,
  λ starts p classes row e.
      joined_next starts p c.args.first c.args.stop row c.args.outs.now c.loop-i.i c.next_in_row.result classes c.loop-i.joining c.join_sector.new.joining (omega arith) (omega arith)
      c.next_in_row.ensures.on c.next_in_row.ensures.round (c.loop-i.invariant.1 starts p classes row e) c.join_sector.ensures.exact,
)

pub returns-clause-exact : goal.returns-clause-exact
returns-clause-exact c = λ starts p classes row e.
    let some = row.some in
    let at_end : c.loop-i.i ≡ c.args.stop = (let l = c.loop-i.auto.i-end (omega arith) in let h = c.loop-i-test.false in omega arith) in
    subst (λ (n : ℕ). c.loop-i.joining ≡ joined_by (sectors_below starts c.args.outs.now n) classes) at_end (c.loop-i.invariant.1 starts p classes row e)

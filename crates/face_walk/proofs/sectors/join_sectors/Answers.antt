use Rattle.std.proofs.Common.{◌≡◌, ◌∙◌, ◌+◌, ◌-◌, ap, arith, get_or, length, refl, subst, sym, ℕ}
use Rattle.arc_table.specs.Direction.{point_at}
use Rattle.arc_table.specs.Rows.{IsRow}
use Rattle.face_walk.specs.Joins.{joined_by}
use Rattle.face_walk.specs.Sectors.{sectors_below}
use Rattle.face_walk.proofs.sectors.join_sectors.Goals as goal

pub loop-k-init : goal.loop-k-init
loop-k-init c = (refl, λ starts nodes table. ap (λ (n : ℕ). joined_by (sectors_below starts c.args.outs.now n) c.args.joining.now) (sym table.begins))

pub loop-k-preserved : goal.loop-k-preserved
loop-k-preserved c =
    let k = c.loop-k.k in
    let rows = c.args.rows.now in
    let some = c.loop-k.auto.k in
    let here : k - 1 + 1 ≡ k = omega arith in
    let next : k ≡ k + 1 - 1 = omega arith in (
      c.join_row.ensures.count ∙ c.loop-k.invariant.0,
      λ starts nodes table.
          let row = subst (λ (n : ℕ). IsRow starts (point_at nodes (k - 1)) (get_or rows (k - 1) 0) (get_or rows n 0)) here (table.row (k - 1) (let many = table.each in let l = c.loop-k-test.true in omega arith)) in
          c.join_row.ensures.exact starts (point_at nodes (k - 1)) c.args.joining.now row (c.loop-k.invariant.1 starts nodes table) ∙ ap (λ (n : ℕ). joined_by (sectors_below starts c.args.outs.now (get_or rows n 0)) c.args.joining.now) next,
    )

pub returns-clause-exact : goal.returns-clause-exact
returns-clause-exact c = λ starts nodes each table.
    let many = table.each in
    let last : c.loop-k.k - 1 ≡ length nodes = (let l = c.loop-k.auto.k-end (omega arith) in let h = c.loop-k-test.false in omega arith) in
    let whole : get_or c.args.rows.now (length nodes) 0 ≡ length c.args.outs.now = (let from = table.ends in let to = c.requires.within (length nodes) 0 (omega arith) in omega arith) in
    c.loop-k.invariant.1 starts nodes table ∙ ap (λ (n : ℕ). joined_by (sectors_below starts c.args.outs.now n) c.args.joining.now) (ap (λ (j : ℕ). get_or c.args.rows.now j 0) last ∙ whole)

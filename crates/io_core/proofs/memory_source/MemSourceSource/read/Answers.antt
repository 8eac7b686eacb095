use Rattle.std.proofs.Common.{ℕ, length, ap, sym, arith, length-append, length-take, length-drop}
use Rattle.io_core.proofs.MemoryMoves.{front_and_rest, none_moved}
use Rattle.io_core.proofs.memory_source.MemSourceSource.read.Goals as goal

pub returns-clause-bytes : goal.returns-clause-bytes
returns-clause-bytes c =
    let left = ap (λ s. s.left) (sym c.self.view_is) in
    let copied = c.copy_from_slice.ensures in
    let e = c.min.ensures in
    let f = c.min-count.ensures in
    let invariant = c.self.invariant in (
      front_and_rest _ _ _ _ _ _ _ left c.deref.ensures.value copied.after (omega (arith, length-take {A = ℕ})),
      λ none room. none_moved _ c.deref.result.now _ _ (length c.args.buf.now) c.self.inside.most (omega (arith, length-take {A = ℕ}, length-drop {A = ℕ})) (omega arith) none
          (omega (arith, length-append {A = ℕ}, length-take {A = ℕ}, length-drop {A = ℕ})),
    )

use Rattle.std.proofs.Common.{ℕ, arith, sym, append-nil, length-append, length-take}
use Rattle.std.proofs.KnownBytes.{Consumes-trans, Consumes-kept}
use Rattle.io_core.proofs.Reading.{read_back, ReadSoFar-start, ReadSoFar-more, TakesAll-end, too_long_told}
use Rattle.io_core.proofs.whole.read_whole.Goals as goal

pub loop-count-init : goal.loop-count-init
loop-count-init g c = record {
  so_far = rw c.new-all.ensures.empty (ReadSoFar-start _ _ _ _);
  room = omega (arith, c.in_ok-buf.ensures.len);
}

pub returns-in-Err-clause-front : goal.returns-in-Err-clause-front
returns-in-Err-clause-front g c = (c.loop-count.all, Consumes-kept _ _ _ _ c.loop-count.invariant.so_far.taken c.in-Err.ensures.bytes)

pub returns-then-count-eq0-clause-all : goal.returns-then-count-eq0-clause-all
returns-then-count-eq0-clause-all g c =
    let e = c.if-count-eq0.true in
    let taken = rw e at c.in-Ok.ensures.bytes.0 in
    let same = Consumes-trans _ _ _ _ _ c.loop-count.invariant.so_far.taken taken in
    TakesAll-end _ _ _ (rw (← append-nil c.loop-count.all) same) (c.in-Ok.ensures.bytes.1 e (omega (arith, c.loop-count.buf.ok.0)))

pub returns-then-count-eq0-clause-front : goal.returns-then-count-eq0-clause-front
returns-then-count-eq0-clause-front g c = (_, Consumes-trans _ _ _ _ _ c.loop-count.invariant.so_far.taken c.in-Ok.ensures.bytes.0)

pub returns-then-limit-len-clause-too_long : goal.returns-then-limit-len-clause-too_long
returns-then-limit-len-clause-too_long g c = λ _. too_long_told _ _ _ _ _ _ c.loop-count.invariant.so_far.taken c.in-Ok.ensures.bytes.0
    (omega (arith, c.in-Ok.ensures.bound.1, c.len.ensures.count))

pub returns-then-limit-len-clause-front : goal.returns-then-limit-len-clause-front
returns-then-limit-len-clause-front g c = (_, Consumes-trans _ _ _ _ _ c.loop-count.invariant.so_far.taken c.in-Ok.ensures.bytes.0)

pub loop-count-preserved : goal.loop-count-preserved
loop-count-preserved g c =
    let back = read_back c.read.new.buf _ c.deref.result.now _ c.in-Ok.count c.deref.ensures.value (omega (arith, c.loop-count.buf.ok.0)) in
    record {
      so_far = rw (c.in_ok-extend.ensures.ok, back) (ReadSoFar-more _ _ _ _ _ _ _ _ _ _ _ _ _ c.loop-count.invariant.so_far c.in-Ok.ensures.told c.in-Ok.ensures.bytes.0 (sym c.in-Ok.ensures.bound.1)
          (omega (arith, c.len.ensures.count)) c.in-Ok.ensures.cause.kept c.in-Ok.ensures.counted.kept c.in-Ok.ensures.counted.answered);
      room = omega (arith, c.loop-count.buf.ok.0, length-take {A = ℕ}, length-append {A = ℕ});
    }

pub returns-in_err-extend-clause-front : goal.returns-in_err-extend-clause-front
returns-in_err-extend-clause-front g c = (_, Consumes-trans _ _ _ _ _ c.loop-count.invariant.so_far.taken c.in-Ok.ensures.bytes.0)

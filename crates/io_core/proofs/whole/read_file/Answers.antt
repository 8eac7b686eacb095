use Rattle.std.proofs.Common.{ℕ, arith, length-append, length-take}
use Rattle.io_core.proofs.Reading.{read_back}
use Rattle.io_core.proofs.FileReading.{FileReadSoFar-start, FileReadSoFar-more, NoneFell-trans, SameFiles-trans, Rose-earlier, all_at_end, too_long_at, not_lacking, misses_name, AtName-if_lacking}
use Rattle.io_core.proofs.whole.read_file.Goals as goal

pub loop-count-init : goal.loop-count-init
loop-count-init g c = record {
  so_far = rw c.new-all.ensures.empty (FileReadSoFar-start _ _ _ _ _ _);
  room = omega (arith, c.in_ok-buf.ensures.len);
}

pub returns-in-Err-Failed-clause-kept : goal.returns-in-Err-Failed-clause-kept
returns-in-Err-Failed-clause-kept g c = SameFiles-trans _ _ _ c.loop-count.invariant.so_far.same c.read_at.ensures.kept

pub returns-in-Err-Failed-clause-reads : goal.returns-in-Err-Failed-clause-reads
returns-in-Err-Failed-clause-reads g c = NoneFell-trans _ _ _ c.loop-count.invariant.so_far.reads_kept c.read_at.ensures.cause.kept

pub returns-in-Err-Failed-clause-writes : goal.returns-in-Err-Failed-clause-writes
returns-in-Err-Failed-clause-writes g c = NoneFell-trans _ _ _ c.loop-count.invariant.so_far.writes_kept c.read_at.ensures.writes

pub returns-in-Err-Missing-clause-kept : goal.returns-in-Err-Missing-clause-kept
returns-in-Err-Missing-clause-kept g c = SameFiles-trans _ _ _ c.loop-count.invariant.so_far.same c.read_at.ensures.kept

pub returns-in-Err-Missing-clause-reads : goal.returns-in-Err-Missing-clause-reads
returns-in-Err-Missing-clause-reads g c = NoneFell-trans _ _ _ c.loop-count.invariant.so_far.reads_kept c.read_at.ensures.cause.kept

pub returns-in-Err-Missing-clause-writes : goal.returns-in-Err-Missing-clause-writes
returns-in-Err-Missing-clause-writes g c = NoneFell-trans _ _ _ c.loop-count.invariant.so_far.writes_kept c.read_at.ensures.writes

pub returns-then-count-eq0-clause-kept : goal.returns-then-count-eq0-clause-kept
returns-then-count-eq0-clause-kept g c = SameFiles-trans _ _ _ c.loop-count.invariant.so_far.same c.read_at.ensures.kept

pub returns-then-count-eq0-clause-reads : goal.returns-then-count-eq0-clause-reads
returns-then-count-eq0-clause-reads g c = NoneFell-trans _ _ _ c.loop-count.invariant.so_far.reads_kept c.read_at.ensures.cause.kept

pub returns-then-count-eq0-clause-writes : goal.returns-then-count-eq0-clause-writes
returns-then-count-eq0-clause-writes g c = NoneFell-trans _ _ _ c.loop-count.invariant.so_far.writes_kept c.read_at.ensures.writes

pub returns-then-limit-len-clause-kept : goal.returns-then-limit-len-clause-kept
returns-then-limit-len-clause-kept g c = SameFiles-trans _ _ _ c.loop-count.invariant.so_far.same c.read_at.ensures.kept

pub returns-then-limit-len-clause-reads : goal.returns-then-limit-len-clause-reads
returns-then-limit-len-clause-reads g c = NoneFell-trans _ _ _ c.loop-count.invariant.so_far.reads_kept c.read_at.ensures.cause.kept

pub returns-then-limit-len-clause-writes : goal.returns-then-limit-len-clause-writes
returns-then-limit-len-clause-writes g c = NoneFell-trans _ _ _ c.loop-count.invariant.so_far.writes_kept c.read_at.ensures.writes

pub returns-in_err-extend-clause-kept : goal.returns-in_err-extend-clause-kept
returns-in_err-extend-clause-kept g c = SameFiles-trans _ _ _ c.loop-count.invariant.so_far.same c.read_at.ensures.kept

pub returns-in_err-extend-clause-reads : goal.returns-in_err-extend-clause-reads
returns-in_err-extend-clause-reads g c = NoneFell-trans _ _ _ c.loop-count.invariant.so_far.reads_kept c.read_at.ensures.cause.kept

pub returns-in_err-extend-clause-writes : goal.returns-in_err-extend-clause-writes
returns-in_err-extend-clause-writes g c = NoneFell-trans _ _ _ c.loop-count.invariant.so_far.writes_kept c.read_at.ensures.writes

pub returns-in-Err-Failed-clause-fault : goal.returns-in-Err-Failed-clause-fault
returns-in-Err-Failed-clause-fault g c =
    λ _. Rose-earlier _ _ _ (c.loop-count.invariant.so_far.reads_kept _) (c.read_at.ensures.cause.failed (cc (c.in-Err-Failed.is, c.in-Err-Failed.field-0-is)))

pub returns-in-Err-Failed-clause-lacking : goal.returns-in-Err-Failed-clause-lacking
returns-in-Err-Failed-clause-lacking g c =
    not_lacking _ _ _ _ _ _ _ c.loop-count.invariant.so_far.same c.read_at.ensures.bytes (λ e. cc (c.in-Err-Failed.is, c.in-Err-Failed.field-0-is))

pub returns-in-Err-Missing-clause-missing : goal.returns-in-Err-Missing-clause-missing
returns-in-Err-Missing-clause-missing g c =
    let bytes = rw c.in-Err-Missing.field-0-is at c.in-Err-Missing.ensures.bytes in
    λ _. misses_name _ _ _ _ _ _ _ _ c.loop-count.invariant.so_far.same bytes (c.read_at.ensures.cause.missing (cc (c.in-Err-Missing.is, c.in-Err-Missing.field-0-is)))
    (λ rose. Rose-earlier _ _ _ (c.loop-count.invariant.so_far.reads_kept _) rose)

pub returns-in-Err-Missing-clause-lacking : goal.returns-in-Err-Missing-clause-lacking
returns-in-Err-Missing-clause-lacking g c = AtName-if_lacking _ _ (g.F.Files.held c.args.files.now) c.args.name.now _ _

pub returns-then-count-eq0-clause-all : goal.returns-then-count-eq0-clause-all
returns-then-count-eq0-clause-all g c =
    let bytes = rw (c.len.ensures.count, c.if-count-eq0.true) at c.in-Ok.ensures.bytes in
    all_at_end _ _ _ _ _ c.loop-count.invariant.so_far.same c.loop-count.invariant.so_far.front bytes (omega (arith, c.loop-count.buf.ok.0))

pub returns-then-count-eq0-clause-lacking : goal.returns-then-count-eq0-clause-lacking
returns-then-count-eq0-clause-lacking g c =
    not_lacking _ _ _ _ _ _ _ c.loop-count.invariant.so_far.same c.read_at.ensures.bytes (λ e. cc (c.in-Ok.is))

pub returns-then-limit-len-clause-lacking : goal.returns-then-limit-len-clause-lacking
returns-then-limit-len-clause-lacking g c =
    not_lacking _ _ _ _ _ _ _ c.loop-count.invariant.so_far.same c.read_at.ensures.bytes (λ e. cc (c.in-Ok.is))

pub returns-in_err-extend-clause-lacking : goal.returns-in_err-extend-clause-lacking
returns-in_err-extend-clause-lacking g c =
    not_lacking _ _ _ _ _ _ _ c.loop-count.invariant.so_far.same c.read_at.ensures.bytes (λ e. cc (c.in-Ok.is))

pub returns-then-limit-len-clause-too_long : goal.returns-then-limit-len-clause-too_long
returns-then-limit-len-clause-too_long g c =
    let bytes = rw c.len.ensures.count at c.in-Ok.ensures.bytes in
    λ _. too_long_at _ _ _ _ _ _ _ c.loop-count.invariant.so_far.same c.loop-count.invariant.so_far.front bytes (omega arith) (omega (arith, c.len-in-loop-count.ensures.count))

pub loop-count-preserved : goal.loop-count-preserved
loop-count-preserved g c =
    let back = read_back c.read_at.new.buf _ c.deref.result.now _ c.in-Ok.count c.deref.ensures.value (omega (arith, c.loop-count.buf.ok.0)) in
    let bytes = rw c.len.ensures.count at c.in-Ok.ensures.bytes in
    record {
      so_far = rw (c.in_ok-extend.ensures.ok, back) (FileReadSoFar-more _ _ _ _ _ _ _ _ _ _ _ _ _ _ _ _ _ c.loop-count.invariant.so_far c.read_at.ensures.kept bytes c.in-Ok.ensures.bound.1
          (omega (arith, c.len-in-loop-count.ensures.count)) c.read_at.ensures.cause.kept c.read_at.ensures.writes c.in-Ok.ensures.counted.kept c.in-Ok.ensures.counted.answered);
      room = omega (arith, c.loop-count.buf.ok.0, length-take {A = ℕ}, length-append {A = ℕ});
    }

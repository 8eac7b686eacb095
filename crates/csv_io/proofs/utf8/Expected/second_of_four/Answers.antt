use Rattle.std.proofs.Common.{refl}
use Rattle.csv_io.proofs.CsvUtf8.{first_of_four}
use Rattle.csv_io.proofs.utf8.Expected.second_of_four.Goals as goal
use Rattle.csv_io.proofs.utf8.Expected.second_of_four.Goals.{then-first-eq240, else-first-eq240}

pub returns-then-first-eq244 : goal.returns-then-first-eq244
returns-then-first-eq244 c = record {
  next = elim c.if-first-eq240.branch [
    | then-first-eq240 w ↦ first_of_four c.args.first c.if-first-eq240.result 144 c.requires.least c.requires.greatest (λ e. w.result-is) (λ n. absurd (n w.if-first-eq240.true)) (λ e. refl) (λ n. absurd (n c.if-first-eq244.true))
    | else-first-eq240 w ↦ first_of_four c.args.first c.if-first-eq240.result 144 c.requires.least c.requires.greatest (λ e. absurd (w.if-first-eq240.false e)) (λ n. w.result-is) (λ e. refl) (λ n. absurd (n c.if-first-eq244.true))
  ];
}

pub returns-else-first-eq244 : goal.returns-else-first-eq244
returns-else-first-eq244 c = record {
  next = elim c.if-first-eq240.branch [
    | then-first-eq240 w ↦ first_of_four c.args.first c.if-first-eq240.result 192 c.requires.least c.requires.greatest (λ e. w.result-is) (λ n. absurd (n w.if-first-eq240.true)) (λ e. absurd (c.if-first-eq244.false e)) (λ n. refl)
    | else-first-eq240 w ↦ first_of_four c.args.first c.if-first-eq240.result 192 c.requires.least c.requires.greatest (λ e. absurd (w.if-first-eq240.false e)) (λ n. w.result-is) (λ e. absurd (c.if-first-eq244.false e)) (λ n. refl)
  ];
}

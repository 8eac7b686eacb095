use Rattle.std.proofs.Common.{refl}
use Rattle.csv_io.proofs.CsvUtf8.{first_of_three}
use Rattle.csv_io.proofs.utf8.Expected.second_of_three.Goals as goal
use Rattle.csv_io.proofs.utf8.Expected.second_of_three.Goals.{then-first-eq224, else-first-eq224}

pub returns-then-first-eq237 : goal.returns-then-first-eq237
returns-then-first-eq237 c = record {
  next = elim c.if-first-eq224.branch [
    | then-first-eq224 w ↦ first_of_three c.args.first c.if-first-eq224.result 160 c.requires.least c.requires.greatest (λ e. w.result-is) (λ n. absurd (n w.if-first-eq224.true)) (λ e. refl) (λ n. absurd (n c.if-first-eq237.true))
    | else-first-eq224 w ↦ first_of_three c.args.first c.if-first-eq224.result 160 c.requires.least c.requires.greatest (λ e. absurd (w.if-first-eq224.false e)) (λ n. w.result-is) (λ e. refl) (λ n. absurd (n c.if-first-eq237.true))
  ];
}

pub returns-else-first-eq237 : goal.returns-else-first-eq237
returns-else-first-eq237 c = record {
  next = elim c.if-first-eq224.branch [
    | then-first-eq224 w ↦ first_of_three c.args.first c.if-first-eq224.result 192 c.requires.least c.requires.greatest (λ e. w.result-is) (λ n. absurd (n w.if-first-eq224.true)) (λ e. absurd (c.if-first-eq237.false e)) (λ n. refl)
    | else-first-eq224 w ↦ first_of_three c.args.first c.if-first-eq224.result 192 c.requires.least c.requires.greatest (λ e. absurd (w.if-first-eq224.false e)) (λ n. w.result-is) (λ e. absurd (c.if-first-eq237.false e)) (λ n. refl)
  ];
}

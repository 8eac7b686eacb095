use Rattle.std.proofs.Common.{◌≡◌, ◌∙◌, sym, subst, false, codes}
use Rattle.std.specs.Str.{bytes_eq}
use Rattle.cmd_words.specs.Words.{Reading, JobWords}
use Rattle.cmd_words.specs.Tells.{Tells, FitsJob}
use Rattle.cmd_words.proofs.Past.{no_mosaic}
use Rattle.cmd_words.proofs.reading.read_job.Goals as goal

pub returns-else-eq-clause-exact : goal.returns-else-eq-clause-exact
returns-else-eq-clause-exact c =
    let e : bytes_eq c.as_str.result.now (codes "synth") ≡ false = sym c.eq.ensures ∙ c.if-eq.false in
    λ refuses right. subst (λ (a : Reading JobWords). Tells FitsJob a c.read_any-else-eq.result) (sym (no_mosaic refuses c.args.words.now c.as_str.result.now c.first-item.result c.as_str.ensures.lent c.in-len1-up.len_at_least c.first-item.is e)) (c.read_any-else-eq.ensures.exact refuses right)

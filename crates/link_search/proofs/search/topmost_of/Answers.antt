use Rattle.std.proofs.Common.{◌≡◌, ◌∙◌, inl, inr, ap, arith, ℕ, Some, get_or}
use Rattle.std.specs.Prelude.{slice_get}
use Rattle.std.proofs.lemmas.Bool.{cases_lt}
use Rattle.std.proofs.lemmas.Option.{slice_get-get_or, get_or_from_slice_get}
use Rattle.link_search.proofs.search.topmost_of.Goals as goal

pub loop-i-preserved : goal.loop-i-preserved
loop-i-preserved c =
    let h = c.loop-i.invariant in
    let u = c.upper_at-topmost.ensures in
    record {
      found = u.found;
      kept = λ k b n. u.kept k b (h.kept k b n);
      near = λ j i k l e f b. elim (cases_lt j c.loop-i.i-index) [
        | inl less ↦ u.kept k b (h.near j i k less e f b)
        | inr more ↦
            (let end = c.loop-i.auto.i-index-end in
            let same : c.loop-i.i-index ≡ j = omega arith in
            u.this k (ap (λ (n : ℕ). slice_get c.args.links.now (get_or c.args.near.now n 0)) same ∙ ap (slice_get c.args.links.now) (get_or_from_slice_get c.args.near.now j i 0 e) ∙ f) b)
      ];
    }

pub returns-clause-near : goal.returns-clause-near
returns-clause-near c = λ i k d e b.
    let done = c.loop-i-test.false in
    let end = c.loop-i.auto.i-index-end in
    let below = d.1 in
    c.loop-i.invariant.near d.0 i k (omega arith) (slice_get-get_or c.args.near.now d.0 i below ∙ ap Some d.2) e b

use Rattle.std.proofs.Common.{refl, subst, Err}
use Rattle.io_core.specs.Contents.{Content}
use Rattle.run_sources.specs.Decoding.{Decodes}
use Rattle.run_sources.specs.declared.decoding.DecodeStop.{DecodeStop}
use Rattle.run_sources.specs.declared.decoding.DecodeStop.TheVariants.{Refused}
use Rattle.run_sources.proofs.sources.read_source.Goals as goal

pub returns-in-Err-Refused-clause-stops : goal.returns-in-Err-Refused-clause-stops
returns-in-Err-Refused-clause-stops g c = (
  refl,
  record {
    bytes = c.in-Ok.bytes;
    there = c.in-Ok.ensures.means.0;
    within = c.in-Ok.ensures.means.1;
    counted = c.in-Ok.ensures.means.2;
    refused = subst (λ (b : Content). Decodes c.args.places c.args.budget.now.room c.args.source.now b (Err (Refused c.in-Err-Refused.why))) c.as_slice.ensures.all
        (subst (λ (stop : DecodeStop). Decodes c.args.places c.args.budget.now.room c.args.source.now c.as_slice.result.now (Err stop)) c.in-Err-Refused.field-0-is c.in-Err-Refused.ensures.gives);
  },
)

-- The limits that each accepted job keeps.
use Rattle.std.specs.Prelude.{◌≤◌}
use Rattle.grid_base.specs.Grid.{most_places}
use Rattle.job_terms.specs.declared.job.Job.{Job}
use Rattle.job_terms.specs.declared.job.Job.TheVariants as job

-- a mosaic of 1 to 300 cells a side, or a chain of at most as many decimal places as a grid has
abbrev pub KeepsLimits : Job → Type 0
KeepsLimits (job.Synth seed n) = (1 ≤ n) × (n ≤ 300)
KeepsLimits (job.Chain c) = c.places ≤ most_places

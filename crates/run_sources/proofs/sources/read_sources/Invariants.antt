use Rattle.std.proofs.Common.{◌≡◌, take, map}
use Rattle.std.specs.Prelude.{All}
use Rattle.io_core.specs.Counts.{NoneFell}
use Rattle.geojson_io.specs.Sound.{LayerIsSound}
use Rattle.job_terms.specs.declared.job.SourceWord.{SourceWord}
use Rattle.run_sources.specs.declared.sources.ReadSource.{ReadSource}
use Rattle.run_sources.specs.Budget.{whole_budget}
use Rattle.run_sources.specs.Sources.{Grew, SourcesGive, sources_seen}
use Rattle.run_sources.proofs.sources.read_sources.Given as goal

abbrev pub invariant-loop-i : goal.invariant-loop-i
invariant-loop-i g l = record {
  grew : Grew
      (sources_seen g.F.Files g.I.Source l.fn.files l.fn.input)
      (sources_seen g.F.Files g.I.Source l.files l.input);
  writes : NoneFell (g.F.Files.write_faults l.fn.files) (g.F.Files.write_faults l.files);
  sound : All (λ (read : ReadSource). All LayerIsSound read.layers) l.all.items;
  owners : map (λ (read : ReadSource). read.owner) l.all.items ≡ map (λ (source : SourceWord). source.owner) (take l.i l.sources);
  given : SourcesGive l.places (take l.i l.sources) whole_budget
      (sources_seen g.F.Files g.I.Source l.fn.files l.fn.input)
      l.budget
      (sources_seen g.F.Files g.I.Source l.files l.input)
      (map (λ read. read.layers) l.all.items);
}

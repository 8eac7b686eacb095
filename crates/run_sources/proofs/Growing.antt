-- What is seen of sources grows from one reading to the next.
use Rattle.std.proofs.Common.{ℕ, Option, Some, None, refl}
use Rattle.io_core.specs.Contents.{Content, FileMap, SameFiles}
use Rattle.io_core.specs.Counts.{NoneFell}
use Rattle.io_core.proofs.Reading.{NeverFell-refl, NeverFell-trans}
use Rattle.io_core.proofs.FileReading.{NoneFell-trans, SameFiles-trans}
use Rattle.run_sources.specs.Sources.{SourcesSeen, Grew}

pub same_files_same : (files : Option FileMap) → SameFiles files files
same_files_same None = tt
same_files_same (Some files) = λ name. refl

pub none_fell_same : (counts : Content → ℕ) → NoneFell counts counts
none_fell_same counts = λ name. NeverFell-refl (counts name)

pub grew_same : (seen : SourcesSeen) → Grew seen seen
grew_same seen = record {
  files = same_files_same seen.files;
  file_faults = none_fell_same seen.file_faults;
  file_bytes = NeverFell-refl seen.file_bytes;
  input_faults = NeverFell-refl seen.input_faults;
  input_bytes = NeverFell-refl seen.input_bytes;
}

pub grew_on : (a b c : SourcesSeen) → Grew a b → Grew b c → Grew a c
grew_on a b c p q = record {
  files = SameFiles-trans a.files b.files c.files p.files q.files;
  file_faults = NoneFell-trans a.file_faults b.file_faults c.file_faults p.file_faults q.file_faults;
  file_bytes = NeverFell-trans a.file_bytes b.file_bytes c.file_bytes p.file_bytes q.file_bytes;
  input_faults = NeverFell-trans a.input_faults b.input_faults c.input_faults p.input_faults q.input_faults;
  input_bytes = NeverFell-trans a.input_bytes b.input_bytes c.input_bytes p.input_bytes q.input_bytes;
}

pub none_fell_on : (a b c : Content → ℕ) → NoneFell a b → NoneFell b c → NoneFell a c
none_fell_on a b c p q = NoneFell-trans a b c p q

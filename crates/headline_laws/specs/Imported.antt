-- Laws of sources: what a run reads of them is what the model of a run imports.
use Rattle.std.specs.Prelude.{◌≡◌, ℕ, List, take, Ok, Err}
use Rattle.io_core.specs.Contents.{Content, FileMap}
use Rattle.geojson_io.specs.LayerContent.{LayerContent}
use Rattle.cmd_words.specs.Expressions.{Refusals}
use Rattle.cmd_words.specs.Words.{JobWords, Reading}
use Rattle.run_sources.specs.Sources.{SourcesSeen, GivesAll, StopsAtSource}
use Rattle.run_sources.specs.declared.fault.SourceFault.{SourceFault}
use Rattle.word_model.specs.Words.{words_say}
use Rattle.chain_model.specs.Headline.{sources_of}
use Rattle.chain_model.specs.Sources.{AreReadings, Readings, imported, whole_room}
use Rattle.headline_laws.specs.ToldSources.{IsReadOnce, AreTold, IsOfContents, fault_as}

-- words name standard input as a source once at most
abbrev pub StandardInputIsReadOnce : Type 0
StandardInputIsReadOnce = (refuses : Refusals) (words : List Content) → IsReadOnce (sources_of (words_say refuses words))

-- sources that all gave layers are imported as these layers
abbrev pub AcceptedSourcesAreImported : Type 0
AcceptedSourcesAreImported = (read : Readings) → AreReadings read → (words : Reading JobWords) → IsReadOnce (sources_of words) →
    (places : ℕ) (seen seen' : SourcesSeen) (files : FileMap) (bytes : Content) → AreTold words seen files bytes →
    (layers : List (List LayerContent)) → GivesAll places (sources_of words) seen seen' layers → imported read places files bytes 0 whole_room 1 (sources_of words) ≡ Ok layers

-- so are the first k of them, where these gave layers
abbrev pub FirstSourcesAreImported : Type 0
FirstSourcesAreImported = (read : Readings) → AreReadings read → (words : Reading JobWords) → IsReadOnce (sources_of words) →
    (places : ℕ) (seen seen' : SourcesSeen) (files : FileMap) (bytes : Content) → AreTold words seen files bytes →
    (k : ℕ) (layers : List (List LayerContent)) → GivesAll places (take k (sources_of words)) seen seen' layers → imported read places files bytes 0 whole_room 1 (take k (sources_of words)) ≡ Ok layers

-- sources that a fault of their contents stopped are refused for that fault
abbrev pub RefusedSourcesAreRefused : Type 0
RefusedSourcesAreRefused = (read : Readings) → AreReadings read → (words : Reading JobWords) → IsReadOnce (sources_of words) →
    (places : ℕ) (seen seen' : SourcesSeen) (files : FileMap) (bytes : Content) → AreTold words seen files bytes →
    (fault : SourceFault) → IsOfContents fault → StopsAtSource places (sources_of words) seen seen' fault → imported read places files bytes 0 whole_room 1 (sources_of words) ≡ Err (fault_as fault)

-- What outputs leave: texts under the names of files and at the end of the standard stream.
use Rattle.std.specs.Prelude.{◌≡◌, ℕ, ◌<◌, ◌⊎◌, Bool, Option, Result, Ok, Err, take, length, MatchBool}
use Rattle.std.specs.Io.KnownBytes.{Appends}
use Rattle.io_core.specs.Counts.{Rose, NeverFell, NoneFell}
use Rattle.io_core.specs.Contents.{Content, FileMap, SameFiles, Puts}
use Rattle.io_core.specs.declared.outside.Failed.{Failed}
use Rattle.io_core.specs.declared.outside.Files as Files
use Rattle.io_core.specs.declared.outside.Sink as Sink

-- files and the standard stream, as far as they tell what they hold, with their counts of failed writes
pub record OutsideSeen : Type 0 where
  pub files : Option FileMap
  pub file_faults : Content → ℕ
  pub stream : Option Content
  pub stream_faults : ℕ

abbrev pub outside_seen : {T U : Type 0} → Files.Ghosts T → Sink.Ghosts U → T → U → OutsideSeen
outside_seen F K files output = record {
  files = F.held files;
  file_faults = F.write_faults files;
  stream = K.held output;
  stream_faults = K.faults output;
}

-- no count of failed writes fell
pub record CountsGrew (before after : OutsideSeen) : Type 0 where
  pub files : NoneFell before.file_faults after.file_faults
  pub stream : NeverFell before.stream_faults after.stream_faults

-- the standard stream gained a text, and no file changed
pub record GainsText (text : Content) (before after : OutsideSeen) : Type 0 where
  pub gained : Appends before.stream after.stream text
  pub files : SameFiles before.files after.files

-- a file holds just a text, and no other file and not the standard stream changed
pub record HoldsText (name text : Content) (before after : OutsideSeen) : Type 0 where
  pub held : Puts before.files after.files name (λ _. text)
  pub stream : after.stream ≡ before.stream

-- a text went whole to the standard stream, or to the file of this name
abbrev pub WroteText : Bool → Content → Content → OutsideSeen → OutsideSeen → Type 0
WroteText standard name text before after = MatchBool standard (GainsText text before after) (HoldsText name text before after)

-- the count of the standard stream rose, or that of the file
abbrev pub WriteRose : Bool → Content → OutsideSeen → OutsideSeen → Type 0
WriteRose standard name before after = MatchBool standard (Rose before.stream_faults after.stream_faults) (Rose (before.file_faults name) (after.file_faults name))

-- of a text a front was written that isn't all of it, or, of a file, nothing changed
pub record GainsFront (text : Content) (before after : OutsideSeen) : Type 0 where
  pub count : ℕ
  pub cut : count < length text
  pub gained : GainsText (take count text) before after

pub record HoldsFront (name text : Content) (before after : OutsideSeen) : Type 0 where
  pub files : SameFiles before.files after.files ⊎ ((count : ℕ) × (count < length text) × Puts before.files after.files name (λ _. take count text))
  pub stream : after.stream ≡ before.stream

abbrev pub CutsText : Bool → Content → Content → OutsideSeen → OutsideSeen → Type 0
CutsText standard name text before after = MatchBool standard (GainsFront text before after) (HoldsFront name text before after)

-- what writing a text answers
abbrev pub Wrote : Bool → Content → Content → OutsideSeen → OutsideSeen → Result (Unit {0}) Failed → Type 0
Wrote standard name text before after (Ok done) = WroteText standard name text before after
Wrote standard name text before after (Err failed) = WriteRose standard name before after × CutsText standard name text before after

pub record Writes (standard : Bool) (name text : Content) (before after : OutsideSeen) (result : Result (Unit {0}) Failed) : Type 0 where
  pub counts : CountsGrew before after
  pub wrote : Wrote standard name text before after result

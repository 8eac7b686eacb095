-- Sources, sinks and files in memory: what each holds, and what one call of it does.
use Rattle.std.specs.Prelude.{◌≡◌, ℕ, ◌-◌, ◌==◌, ◌++◌, Bool, true, false, not, Option, Some, None, Result, Ok, Err, option_map, option_and_then, unwrap_or, is_some, ◌≢◌, [], max, ◌||◌, ◌&&◌, nat_lt, nat_le, List, length, take, drop, min, if◌then◌else◌}
use Rattle.std.specs.List.{list_any, find}
use Rattle.std.specs.Str.{bytes_eq}
use Rattle.io_core.specs.declared.outside.FileFault.{FileFault}
use Rattle.io_core.specs.declared.outside.FileFault.TheVariants as fault
use Rattle.io_core.specs.Counts.{raised}
use Rattle.io_core.specs.Contents.{Content}

-- calls of one kind: how many were made, and the numbers, from 1, of those that fail
pub record Calls : Type 0 where
  pub made : ℕ
  pub failing : List ℕ

-- one more call was made
abbrev pub next : Calls → Calls
next calls = record { made = raised 1 calls.made; failing = calls.failing }

-- whether the next call is one that fails
abbrev pub next_fails : Calls → Bool
next_fails calls = list_any (λ number. number == raised 1 calls.made) calls.failing

-- ---- a source

pub record SourceState : Type 0 where
  pub left : Content
  pub most : ℕ
  pub calls : Calls
  pub faults : ℕ
  pub bytes_read : ℕ

-- how many bytes a read into `room` bytes moves
abbrev pub source_moves : SourceState → ℕ → ℕ
source_moves source room = min room (min source.most (length source.left))

-- the source after such a read
abbrev pub source_read : SourceState → ℕ → SourceState
source_read source room = record {
  left = drop (source_moves source room) source.left;
  most = source.most;
  calls = next source.calls;
  faults = source.faults;
  bytes_read = raised (source_moves source room) source.bytes_read;
}

-- the source after a read that failed
abbrev pub source_failed : SourceState → SourceState
source_failed source = record {
  left = source.left;
  most = source.most;
  calls = next source.calls;
  faults = raised 1 source.faults;
  bytes_read = source.bytes_read;
}

-- ---- a sink

-- bytes that are held, and how many there may be
pub record Bounded : Type 0 where
  pub held : Content
  pub room : ℕ

-- more bytes after those that are held
abbrev pub with_more : Bounded → Content → Bounded
with_more bounded piece = record { held = bounded.held ++ piece; room = bounded.room }

-- no byte of a piece that has one finds room
abbrev pub is_full_for : Bounded → ℕ → Bool
is_full_for bounded count = nat_lt 0 count && nat_le bounded.room (length bounded.held)

-- how many of `count` bytes are appended by a call that moves at most `most`
abbrev pub appended : Bounded → ℕ → ℕ → ℕ
appended bounded most count = min count (min most (bounded.room - length bounded.held))

pub record SinkState : Type 0 where
  pub bytes : Bounded
  pub most : ℕ
  pub calls : Calls
  pub faults : ℕ

-- whether the next write of `count` bytes fails: its number is listed, or the room is full
abbrev pub sink_fails : SinkState → ℕ → Bool
sink_fails sink count = next_fails sink.calls || is_full_for sink.bytes count

-- the sink after a write
abbrev pub sink_wrote : SinkState → Content → SinkState
sink_wrote sink piece = record {
  bytes = with_more sink.bytes (take (appended sink.bytes sink.most (length piece)) piece);
  most = sink.most;
  calls = next sink.calls;
  faults = sink.faults;
}

-- the sink after a write that failed
abbrev pub sink_failed : SinkState → SinkState
sink_failed sink = record { bytes = sink.bytes; most = sink.most; calls = next sink.calls; faults = raised 1 sink.faults }

-- ---- files

-- one name that was put or made ready: whether it is there, and its bytes
pub record EntryState : Type 0 where
  pub name : Content
  pub is_there : Bool
  pub bytes : Bounded

pub record FilesState : Type 0 where
  pub entries : List EntryState
  pub most : ℕ
  pub reads : Calls
  pub creates : Calls
  pub appends : Calls
  pub read_faults : ℕ
  pub write_faults : ℕ
  pub bytes_read : ℕ

-- the bytes of an entry, where it is there
abbrev pub held_of : EntryState → Option Content
held_of entry = if entry.is_there then Some entry.bytes.held else None

-- the entry of a name
abbrev pub entry_of : List EntryState → Content → Option EntryState
entry_of entries name = find (λ entry. bytes_eq entry.name name) entries

-- the bytes under a name, where there are some
abbrev pub held_under : FilesState → Content → Option Content
held_under files name = option_and_then held_of (entry_of files.entries name)

-- the room of a name, 0 for one that was neither put nor made ready
abbrev pub room_of : FilesState → Content → ℕ
room_of files name = unwrap_or (option_map (λ entry. entry.bytes.room) (entry_of files.entries name)) 0

-- an entry with these bytes
abbrev pub holding : Content → Content → ℕ → EntryState
holding name bytes room = record { name = name; is_there = true; bytes = record { held = bytes; room = room } }

-- the entry of one name became this, and no other entry changed
pub record EntryBecame (old new : List EntryState) (name : Content) (entry : EntryState) : Type 0 where
  pub there : entry_of new name ≡ Some entry
  pub others : (other : Content) → other ≢ name → entry_of new other ≡ entry_of old other

-- the entry of a name that is made ready for `room` bytes
abbrev pub readied : Option EntryState → Content → ℕ → EntryState
readied None name room = record { name = name; is_there = false; bytes = record { held = []; room = room } }
readied (Some entry) name room = record { name = entry.name; is_there = entry.is_there; bytes = record { held = entry.bytes.held; room = max entry.bytes.room room } }

-- the files with other entries
abbrev pub with_entries : FilesState → List EntryState → FilesState
with_entries files entries = record files { entries = entries }

-- how many bytes a read at a place into `room` bytes moves
abbrev pub read_moves : FilesState → Content → ℕ → ℕ → ℕ
read_moves files bytes at room = min room (min files.most (length (drop at bytes)))

-- whether `count` bytes can't be written under a name: it was neither put nor made ready, or its room is full
abbrev pub has_no_room : List EntryState → Content → ℕ → Bool
has_no_room entries name count = unwrap_or (option_map (λ entry. is_full_for entry.bytes count) (entry_of entries name)) true

-- what a read answers, of a name with these bytes or without any
abbrev pub read_answer : FilesState → Option Content → ℕ → ℕ → Result ℕ FileFault
read_answer files None at room = Err fault.Missing
read_answer files (Some bytes) at room = if next_fails files.reads then Err fault.Failed else Ok (read_moves files bytes at room)

-- the files after it
abbrev pub files_read : FilesState → Option Content → ℕ → ℕ → FilesState
files_read files None at room = record files { reads = next files.reads }
files_read files (Some bytes) at room =
    if next_fails files.reads then record files { reads = next files.reads; read_faults = raised 1 files.read_faults }
    else record files { reads = next files.reads; bytes_read = raised (read_moves files bytes at room) files.bytes_read }

-- whether the next creation of a name fails: its number is listed, or the name was neither put nor made ready
abbrev pub create_fails : FilesState → Content → Bool
create_fails files name = next_fails files.creates || not (is_some (entry_of files.entries name))

abbrev pub files_created : FilesState → List EntryState → FilesState
files_created files entries = record files { entries = entries; creates = next files.creates }

abbrev pub files_create_failed : FilesState → FilesState
files_create_failed files = record files { creates = next files.creates; write_faults = raised 1 files.write_faults }

-- whether the next append of `count` bytes fails: its number is listed, or they find no room
abbrev pub append_fails : FilesState → Content → ℕ → Bool
append_fails files name count = next_fails files.appends || has_no_room files.entries name count

abbrev pub files_appended : FilesState → List EntryState → FilesState
files_appended files entries = record files { entries = entries; appends = next files.appends }

abbrev pub files_append_failed : FilesState → FilesState
files_append_failed files = record files { appends = next files.appends; write_faults = raised 1 files.write_faults }

-- the entry after an append of a piece
abbrev pub entry_appended : EntryState → ℕ → Content → EntryState
entry_appended entry most piece = record { name = entry.name; is_there = true; bytes = with_more entry.bytes (take (appended entry.bytes most (length piece)) piece) }

-- A run of commands in order: what is written, and how it ends.
use Rattle.std.specs.Prelude.{◌≡◌, ℕ, ◌+◌, ◌*◌, ◌⊎◌, Bool, true, false, List, [], ◌∷◌, map, Option, None, Result, Ok, Err}
use Rattle.std.specs.Io.KnownBytes.{Appends}
use Rattle.lists.specs.Lists.{joined_up}
use Rattle.io_core.specs.Contents.{Content, SameFiles}
use Rattle.io_core.specs.Counts.{Rose}
use Rattle.plane_model.specs.Snapped.{snapped}
use Rattle.synth_model.specs.Cells.{cells}
use Rattle.geojson_io.specs.LayerContent.{LayerContent}
use Rattle.snap_round.specs.Snapping.{FaultMeans}
use Rattle.snap_round.specs.declared.fault.SnapFault.{SnapFault}
use Rattle.cmd_words.specs.Expressions.{Refusals, AreRefusals}
use Rattle.cmd_words.specs.Tells.{Tells, FitsJob}
use Rattle.cmd_words.specs.Words.{read_words}
use Rattle.cmd_words.specs.declared.fault.WordFault.{WordFault}
use Rattle.job_terms.specs.declared.job.Job.{Job}
use Rattle.job_terms.specs.declared.job.Job.TheVariants as job
use Rattle.job_terms.specs.declared.job.Chain.{Chain}
use Rattle.job_terms.specs.declared.job.Command.{Command}
use Rattle.job_terms.specs.declared.job.Action.{Action}
use Rattle.job_terms.specs.declared.job.Action.TheVariants as action
use Rattle.job_terms.specs.declared.job.OutForm.{OutForm}
use Rattle.job_terms.specs.declared.job.SourceWord.{SourceWord}
use Rattle.run_sources.specs.Sources.{SourcesSeen, StopsAtSource, GivesAll}
use Rattle.run_sources.specs.declared.fault.SourceFault.{SourceFault}
use Rattle.run_plane.specs.Begun.{IsFew}
use Rattle.run_plane.specs.declared.layer.Layer.{Layer}
use Rattle.run_beginning.specs.BegunLayers.{BeginsOver}
use Rattle.run_beginning.specs.Drawing.{drawing_of}
use Rattle.run_state.specs.Origins.{Base}
use Rattle.run_state.specs.Stops.{StopsAs, StopsFor}
use Rattle.run_state.specs.Targets.{first_layers, has_target, targets}
use Rattle.run_state.specs.declared.refusal.RefuseWhy.{RefuseWhy}
use Rattle.run_state.specs.declared.refusal.RefuseWhy.TheVariants.{NoLayer}
use Rattle.run_state.specs.declared.state.CommandStop.{CommandStop}
use Rattle.run_state.specs.declared.state.CommandStop.TheVariants.{Refused}
use Rattle.run_state.specs.declared.state.HeldLayer.{HeldLayer}
use Rattle.run_state.specs.declared.state.State.{State}
use Rattle.run_steps.specs.Commands.{ChangesEach, ChangesTogether}
use Rattle.run_steps.specs.Refusals.{RefusesEach, refusal_together}
use Rattle.run_synth.specs.Told.{IsToldOf}
use Rattle.run_texts.specs.Written.{OutputSays, refused_output}
use Rattle.run_outcome.specs.Ends.{of_command, of_drawing, of_sources, of_words}
use Rattle.run_outcome.specs.Telling.{StreamSeen, AddsFront}
use Rattle.run_outcome.specs.declared.outcome.Outcome.{Outcome}
use Rattle.run_outcome.specs.declared.outcome.Outcome.TheVariants as outcome
use Rattle.run_chain.specs.Effects.{OutsideSeen, CountsGrew, WroteText, WriteRose, CutsText}

-- ---- one command

-- a command that changes layers stops for its first refusal or for want of memory, and without a target as no layer
pub record StopsChange (c : Command) (layers : List HeldLayer) (Refuses : Option RefuseWhy → Type 0) (stop : CommandStop) : Type 0 where
  pub first : StopsAs Refuses stop
  pub absent : has_target c.target layers ≡ false → stop ≡ Refused NoLayer

-- why a command stops: for its first refusal alone, or for want of memory
abbrev pub StopsBy : Base → Command → Action → List HeldLayer → CommandStop → Type 0
StopsBy base c (action.Write to standard form) layers stop = StopsFor (refused_output c.target form layers) stop
StopsBy base c (action.Each a) layers stop = StopsChange c layers (RefusesEach base layers c a) stop
StopsBy base c (action.Together a) layers stop = StopsChange c layers (λ (told : Option RefuseWhy). refusal_together layers c a ≡ told) stop

-- the command with this number stops the run, and nothing changes
pub record IsStopped (base : Base) (n : ℕ) (c : Command) (layers : List HeldLayer) (before after : OutsideSeen) (o : Outcome) : Type 0 where
  pub stop : CommandStop
  pub why : StopsBy base c c.action layers stop
  pub ends : o ≡ of_command n stop
  pub kept : after ≡ before

-- it isn't refused and writes the text of its output, the count of its place rises, and of the text a front is there
pub record FailsToWrite (Accepted : Type 0) (base : Base) (n : ℕ) (form : OutForm) (layers : List Layer) (standard : Bool) (name : Content) (before after : OutsideSeen) (o : Outcome) : Type 0 where
  pub fault : o ≡ outcome.WriteFault n
  pub accepted : Accepted
  pub text : Content
  pub says : OutputSays base form layers text
  pub rose : WriteRose standard name before after
  pub cut : CutsText standard name text before after
  pub counts : CountsGrew before after

-- a command with this number whose writing fails
abbrev pub EndsWriting : Base → ℕ → Command → Action → List HeldLayer → OutsideSeen → OutsideSeen → Outcome → Type 0
EndsWriting base n c (action.Write to standard form) layers before after o = FailsToWrite (refused_output c.target form layers ≡ None) base n form (targets c.target layers) standard to before after o
EndsWriting base n c (action.Each a) layers before after o = ⊥
EndsWriting base n c (action.Together a) layers before after o = ⊥

-- how a command with this number ends a run
abbrev pub Ends : Base → ℕ → Command → List HeldLayer → OutsideSeen → OutsideSeen → Outcome → Type 0
Ends base n c layers before after o = IsStopped base n c layers before after o ⊎ EndsWriting base n c c.action layers before after o

-- the text of an output is written whole
pub record WritesWhole (base : Base) (form : OutForm) (layers : List Layer) (standard : Bool) (name : Content) (before after : OutsideSeen) : Type 0 where
  pub text : Content
  pub says : OutputSays base form layers text
  pub wrote : WroteText standard name text before after
  pub counts : CountsGrew before after

-- an output that isn't refused writes a whole text and leaves the layers
pub record GoesOnWriting (base : Base) (c : Command) (form : OutForm) (standard : Bool) (name : Content) (layers layers' : List HeldLayer) (before after : OutsideSeen) : Type 0 where
  pub accepted : refused_output c.target form layers ≡ None
  pub kept : layers' ≡ layers
  pub writes : WritesWhole base form (targets c.target layers) standard name before after

-- any other command that isn't refused changes them and writes nothing
pub record GoesOnChanging (Accepted : Type 0) (Changes : Type 0) (before after : OutsideSeen) : Type 0 where
  pub accepted : Accepted
  pub changes : Changes
  pub kept : after ≡ before

abbrev pub GoesOn : Base → Command → Action → List HeldLayer → List HeldLayer → OutsideSeen → OutsideSeen → Type 0
GoesOn base c (action.Write to standard form) layers layers' before after = GoesOnWriting base c form standard to layers layers' before after
GoesOn base c (action.Each a) layers layers' before after = GoesOnChanging (RefusesEach base layers c a None) (ChangesEach base c a layers layers') before after
GoesOn base c (action.Together a) layers layers' before after = GoesOnChanging (refusal_together layers c a ≡ None) (ChangesTogether base c a layers layers') before after

-- its target is there
pub record Passes (base : Base) (c : Command) (layers layers' : List HeldLayer) (before after : OutsideSeen) : Type 0 where
  pub there : has_target c.target layers ≡ true
  pub goes : GoesOn base c c.action layers layers' before after

-- what a command with this number does: it gives the state after it, or the outcome of the run
abbrev pub StepMeans : Base → ℕ → Command → List HeldLayer → OutsideSeen → OutsideSeen → Result State Outcome → Type 0
StepMeans base n c layers before after (Ok state) = Passes base c layers state.layers.items before after
StepMeans base n c layers before after (Err o) = Ends base n c layers before after o

-- ---- commands in order

-- the commands after `done` others: the first that ends the run is the last that changes anything
abbrev pub CommandsRun : Base → ℕ → List HeldLayer → List Command → OutsideSeen → OutsideSeen → Outcome → Type 0
CommandsRun base done layers [] before after o = (o ≡ outcome.Done) × (after ≡ before)
CommandsRun base done layers (c ∷ cs) before after o = Ends base (done + 1) c layers before after o
    ⊎ ((layers' : List HeldLayer) × (middle : OutsideSeen) × Passes base c layers layers' before middle × CommandsRun base (done + 1) layers' cs middle after o)

-- ---- the whole chain

-- no file and no stream holds anything else than before, and no count of failed writes fell
pub record Keeps (before after : OutsideSeen) : Type 0 where
  pub files : SameFiles before.files after.files
  pub stream : after.stream ≡ before.stream
  pub counts : CountsGrew before after

-- all sources are accepted, and the snapped paths of their drawing, which are too many, or memory end the run
pub record EndsUnbegun (chain : Chain) (sources sources' : SourcesSeen) (o : Outcome) : Type 0 where
  pub layers : List (List LayerContent)
  pub given : GivesAll chain.places chain.sources sources sources' layers
  pub fault : SnapFault
  pub unbegun : FaultMeans (drawing_of (joined_up layers) chain.boxes) fault
  pub ends : o ≡ of_drawing fault

-- a source ends the run
pub record EndsAtSource (chain : Chain) (sources sources' : SourcesSeen) (o : Outcome) : Type 0 where
  pub fault : SourceFault
  pub stops : StopsAtSource chain.places chain.sources sources sources' fault
  pub ends : o ≡ of_sources fault

-- a source ends the run before anything is written, or what it gives does
pub record EndsBefore (chain : Chain) (sources sources' : SourcesSeen) (before after : OutsideSeen) (o : Outcome) : Type 0 where
  pub kept : Keeps before after
  pub stops : EndsAtSource chain sources sources' o ⊎ EndsUnbegun chain sources sources' o

-- the commands run from the first, on these layers and those of sources that belong to commands, or memory ends the run
-- before it
abbrev pub BegunRuns : Base → List Layer → List Command → OutsideSeen → OutsideSeen → Outcome → Type 0
BegunRuns base layers commands before after o = CommandsRun base 0 (first_layers layers) commands before after o ⊎ ((o ≡ outcome.Memory) × (after ≡ before))

-- all sources are accepted, and the commands run
pub record RunsCommands (chain : Chain) (sources : SourcesSeen) (before after : OutsideSeen) (o : Outcome) : Type 0 where
  pub layers : List (List LayerContent)
  -- what was seen when all of them were read
  pub read : SourcesSeen
  pub given : GivesAll chain.places chain.sources sources read layers
  pub middle : OutsideSeen
  pub kept : Keeps before middle
  pub few : IsFew (drawing_of (joined_up layers) chain.boxes)
  pub begun : List Layer
  pub base : Base
  pub over : BeginsOver (snapped (drawing_of (joined_up layers) chain.boxes)) (map (λ (source : SourceWord). source.owner) chain.sources) layers base.plane.arcs base.plane.faces base.plane.boxes.items begun base.sources
  pub places : base.places ≡ chain.places
  pub ran : BegunRuns base begun chain.commands middle after o

abbrev pub ChainRuns : Chain → SourcesSeen → SourcesSeen → OutsideSeen → OutsideSeen → Outcome → Type 0
ChainRuns chain sources sources' before after o = EndsBefore chain sources sources' before after o ⊎ RunsCommands chain sources before after o

-- ---- the words

-- what the words of a command line ask for, or why they are refused, by the fault of each text that has one
abbrev pub ReadsWords : List Content → Result Job WordFault → Type 0
ReadsWords words answer = (refuses : Refusals) × AreRefusals refuses × Tells FitsJob (read_words refuses words) answer

-- nothing is read and nothing changes
pub record EndsUnread (end : Outcome) (seen seen' : SourcesSeen) (before after : OutsideSeen) (o : Outcome) : Type 0 where
  pub ends : o ≡ end
  pub sources : seen' ≡ seen
  pub outside : after ≡ before

-- the mosaic of a seed, of n rows of n cells, is too dense, or memory runs out, and nothing is written
pub record IsUntold (seed n : ℕ) (before after : StreamSeen) (o : Outcome) : Type 0 where
  pub fault : SnapFault
  pub too_much : FaultMeans (cells seed n) fault
  pub ends : o ≡ of_drawing fault
  pub kept : after ≡ before

-- the line of its numbers goes whole to the standard stream, or a front of it does and the count of its failed writes
-- rises
pub record TellsLine (seed n : ℕ) (before after : StreamSeen) (o : Outcome) : Type 0 where
  pub line : Content
  pub of_mosaic : IsToldOf (cells seed n) (n * n) line
  pub told : ((o ≡ outcome.Done) × Appends before.told after.told line) ⊎ ((o ≡ outcome.WriteFault 1) × Rose before.faults after.faults × AddsFront before.told after.told line)

abbrev pub SynthRuns : ℕ → ℕ → StreamSeen → StreamSeen → Outcome → Type 0
SynthRuns seed n before after o = IsUntold seed n before after o ⊎ TellsLine seed n before after o

abbrev pub stream_of : OutsideSeen → StreamSeen
stream_of seen = record { told = seen.stream; faults = seen.stream_faults }

-- nothing is read, and nothing but the standard stream changes
pub record ToldAlone (seed n : ℕ) (seen seen' : SourcesSeen) (before after : OutsideSeen) (o : Outcome) : Type 0 where
  pub sources : seen' ≡ seen
  pub files : after.files ≡ before.files
  pub file_faults : after.file_faults ≡ before.file_faults
  pub stream : SynthRuns seed n (stream_of before) (stream_of after) o

-- refused words end the run; a made-up mosaic is told of; a chain runs
abbrev pub JobRuns : Result Job WordFault → SourcesSeen → SourcesSeen → OutsideSeen → OutsideSeen → Outcome → Type 0
JobRuns (Err fault) seen seen' before after o = EndsUnread (of_words fault) seen seen' before after o
JobRuns (Ok (job.Synth seed n)) seen seen' before after o = ToldAlone seed n seen seen' before after o
JobRuns (Ok (job.Chain chain)) seen seen' before after o = ChainRuns chain seen seen' before after o

-- what a run of these words does
pub record WordsRun (line : List Content) (seen seen' : SourcesSeen) (before after : OutsideSeen) (o : Outcome) : Type 0 where
  pub answer : Result Job WordFault
  pub reads : ReadsWords line answer
  pub runs : JobRuns answer seen seen' before after o

-- Laws of readings, of right answers, of the plane and the prints of a run, and of what the model of a run tells.
use Rattle.std.specs.Prelude.{◌≡◌, ◌⊎◌, ℕ, List, [], Ok, All, Contains}
use Rattle.std.specs.List.{AllZip}
use Rattle.lists.specs.Lists.{joined_up}
use Rattle.plane_model.specs.Arrangement.{IsArrangement}
use Rattle.plane_model.specs.Drawing.{Drawing, steps}
use Rattle.plane_model.specs.Points.{Path, Segment, reversed}
use Rattle.plane_model.specs.SnappedRings.{HasClosedRings}
use Rattle.io_core.specs.Contents.{Content, FileMap}
use Rattle.geojson_io.specs.LayerContent.{LayerContent}
use Rattle.geojson_io.specs.declared.shape.GeoShape.{GeoShape}
use Rattle.geojson_io.specs.declared.shape.GeoShape.TheVariants as shape
use Rattle.table_terms.specs.Names.{Text}
use Rattle.job_terms.specs.declared.job.Chain.{Chain}
use Rattle.region_model.specs.Answers.{Answers, AreRight, Plane, plane_of}
use Rattle.synth_model.specs.Cells.{cells}
use Rattle.chain_model.specs.Outcome.{Outcome}
use Rattle.chain_model.specs.Pictures.{Shows}
use Rattle.chain_model.specs.Running.{Begun, Effect, Output, Tells, begins, run_from}
use Rattle.chain_model.specs.Sources.{AreReadings, Readings}

-- a JSON text has one value, and other bytes one first fault, bytes stop at one place to begin a UTF-8 text, and a text
-- has one fault as an expression or as assignments: so two readings of texts are one
abbrev pub ReadingsAreOne : Type 0
ReadingsAreOne = (read other : Readings) → AreReadings read → AreReadings other → read ≡ other

-- whatever right answers its plane gives, what has begun has the same outputs and the same end
abbrev pub OneRunOfRightAnswers : Type 0
OneRunOfRightAnswers = (read : Readings) (c : Chain) (files : FileMap) (input : Content) (b : Begun) → begins read c files input ≡ Ok b → (A B : Answers) → AreRight b.plane A → AreRight b.plane B →
    run_from b.plane A b.sources 1 b.state b.commands ≡ run_from b.plane B b.sources 1 b.state b.commands

-- effects of the same command, to the same file or to the standard stream
abbrev pub GoAlike : Effect → Effect → Type 0
GoAlike e f = (e.command ≡ f.command) × (e.to ≡ f.to)

-- the effects that the same words and contents tell go alike, one by one
abbrev pub EffectsGoAlike : Type 0
EffectsGoAlike = (read other : Readings) → AreReadings read → AreReadings other → (words : List Text) (files : FileMap) (input : Content) (o o' : Outcome) (es es' : List Effect) →
    Tells read words files input o es → Tells other words files input o' es' → AllZip GoAlike es es'

-- ---- what has begun, and what is printed of it

-- the plane is that of a drawing whose rings are closed
pub record IsOfClosedRings (P : Plane) : Type 0 where
  pub drawing : Drawing
  pub is : P ≡ plane_of drawing
  pub closed : HasClosedRings drawing

-- commands begin over such a plane
abbrev pub BegunRingsAreClosed : Type 0
BegunRingsAreClosed = (read : Readings) (c : Chain) (files : FileMap) (input : Content) (b : Begun) → begins read c files input ≡ Ok b → IsOfClosedRings b.plane

-- the rings of a made-up mosaic are closed too
abbrev pub CellRingsAreClosed : Type 0
CellRingsAreClosed = (seed n : ℕ) → HasClosedRings (cells seed n)

-- the step goes along a link, in one direction or the other
abbrev pub IsAlong : List Segment → Segment → Type 0
IsAlong links s = Contains links s ⊎ Contains links (reversed s)

-- each step of the path, from a point to the next, does so
abbrev pub GoesAlong : List Segment → Path → Type 0
GoesAlong links path = All (IsAlong links) (steps path)

-- the rings of the polygons of a shape, or the paths of its lines
abbrev pub paths_in : GeoShape → List Path
paths_in (shape.Polygons polygons) = joined_up polygons
paths_in (shape.Lines lines) = lines
paths_in _ = []

-- each path of each shape in the picture goes along links
abbrev pub PictureGoesAlong : List Segment → LayerContent → Type 0
PictureGoesAlong links picture = All (λ (s : GeoShape). All (GoesAlong links) (paths_in s)) picture.shapes

-- so does each path in pictures that show the layers of an output
abbrev pub OutputGoesAlong : Plane → Answers → Output → Type 0
OutputGoesAlong P A o = (pictures : List LayerContent) → AllZip (Shows P A) o.written.layers pictures → All (PictureGoesAlong P.links) pictures

-- The links of the plane meet at their ends alone. Its arcs, which topologies list, go along links, and so do the rings
-- and the lines of each output, whatever answers are given.
pub record PrintsLinks (b : Begun) : Type 0 where
  pub meet_at_ends : IsArrangement b.plane.links
  pub arcs : All (GoesAlong b.plane.links) b.plane.arcs
  pub outputs : (A : Answers) → All (OutputGoesAlong b.plane A) (run_from b.plane A b.sources 1 b.state b.commands).0

abbrev pub PrintedStepsAreLinks : Type 0
PrintedStepsAreLinks = (read : Readings) (c : Chain) (files : FileMap) (input : Content) (b : Begun) → begins read c files input ≡ Ok b → PrintsLinks b

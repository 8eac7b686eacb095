-- The law of made-up mosaics: the line that a run tells is that of the model.
use Rattle.std.specs.Prelude.{◌≡◌, ℕ, ◌*◌, Ok}
use Rattle.io_core.specs.Contents.{Content}
use Rattle.synth_model.specs.Cells.{cells}
use Rattle.run_synth.specs.Told.{IsToldOf}
use Rattle.region_model.specs.Answers as model
use Rattle.chain_model.specs.Running.{checked_density}
use Rattle.chain_model.specs.Synth.{IsSynthLine}
use Rattle.layer_laws.specs.Shown.{View, IsView, plane_of}

-- the line tells of the cells by regions and right answers of a plane of them
pub record LineShows (seed n : ℕ) (line : Content) : Type 0 where
  pub view : View
  pub is_view : IsView view
  pub of_cells : view.drawing ≡ cells seed n
  pub plane : plane_of view ≡ model.plane_of (cells seed n)
  pub is_line : IsSynthLine (plane_of view) view.answers n line

-- ---- law: a mosaic that is told of isn't too dense, and the line tells, by regions, of the plane that was built
abbrev pub LinesOfMosaicsShow : Type 0
LinesOfMosaicsShow = (seed n : ℕ) (line : Content) → IsToldOf (cells seed n) (n * n) line → (checked_density (cells seed n) ≡ Ok (cells seed n)) × LineShows seed n line

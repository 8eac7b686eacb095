-- Arcs in the order in which the paths first step along them.
use Rattle.std.specs.Prelude.{◌≡◌, ◌⊎◌, ◌<◌, ℕ, List, [], ◌∷◌, ◌++◌, map, Contains, length, slice_index_or}
use Rattle.plane_model.specs.Points.{Segment, Path, link_between}
use Rattle.plane_model.specs.Drawing.{Drawing, steps_of_paths, paths_of}
use Rattle.plane_model.specs.Joined.{links_of_arc}
use Rattle.arc_table.specs.Numbering.{step_at, link_at, links_from, HasMark}
use Rattle.arc_table.specs.declared.half_links.Net.{Net}
use Rattle.arc_table.specs.declared.numbering.Way.{Way}
use Rattle.arc_table.specs.declared.numbering.Numbering.{Numbering}

-- the links that paths step along, one step after another
abbrev pub links_stepped : List Path → List Segment
links_stepped paths = map link_between (steps_of_paths paths)

-- before any step along an arc the paths of the drawing step along each arc of a lesser number
pub record AreNumbered (d : Drawing) (arcs : List Path) : Type 0 where
  pub order : (m n j : ℕ) → m < n → n < length arcs → j < length (links_stepped (paths_of d)) → Contains (links_of_arc arcs n) (step_at (links_stepped (paths_of d)) j)
      → (i : ℕ) × (i < j) × Contains (links_of_arc arcs m) (step_at (links_stepped (paths_of d)) i)

-- ---- the same in a table of steps

abbrev pub way_at : List Way → ℕ → Way
way_at ways n = slice_index_or ways n (record { start = 0; steps = 0 })

-- the links along way n
abbrev pub links_of_way : Net → List Way → ℕ → List Segment
links_of_way net ways n = links_from net (way_at ways n).steps (way_at ways n).start

abbrev pub AreInOrder : Net → List Segment → List Way → Type 0
AreInOrder net stepped ways = (m n j : ℕ) → m < n → n < length ways → j < length stepped → Contains (links_of_way net ways n) (step_at stepped j)
    → (i : ℕ) × (i < j) × Contains (links_of_way net ways m) (step_at stepped i)

-- after steps along these links: each has its mark, each way was stepped along, and the ways are in order
pub record IsAfter (net : Net) (stepped : List Segment) (numbering : Numbering) : Type 0 where
  pub marked : (h : ℕ) → h < length net.steps → Contains stepped (link_at net h) → HasMark numbering.is_numbered.items h
  pub begun : (n : ℕ) → n < length numbering.ways.items → (j : ℕ) × (j < length stepped) × Contains (links_of_way net numbering.ways.items n) (step_at stepped j)
  pub order : AreInOrder net stepped numbering.ways.items

-- what is after some links goes on to be after these too
pub record GoesAlong (net : Net) (old new : Numbering) (links : List Segment) : Type 0 where
  pub more : (stepped : List Segment) → IsAfter net stepped old → IsAfter net (stepped ++ links) new

-- one way more, or none
abbrev pub HasOneMore : Numbering → Numbering → Type 0
HasOneMore old new = (new.ways.items ≡ old.ways.items) ⊎ ((way : Way) × (new.ways.items ≡ old.ways.items ++ way ∷ []))

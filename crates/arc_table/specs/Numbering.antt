-- Arcs as places in a table of steps: where each starts, and how many steps it has.
use Rattle.std.specs.Prelude.{◌≡◌, ◌≢◌, ◌⊎◌, ◌++◌, Bool, true, false, ℕ, zero, suc, pos, ◌+◌, ◌-◌, ◌<◌, ◌≤◌, Option, Some, None, List, [], ◌∷◌, map, All, AllPairs, Contains, length, slice_index, slice_index_or}
use Rattle.std.specs.List.{flat_map}
use Rattle.plane_model.specs.Points.{Segment, Path, link_between}
use Rattle.arc_table.specs.Direction.{in_direction}
use Rattle.arc_table.specs.declared.half_links.Net.{Net}
use Rattle.arc_table.specs.declared.numbering.Way.{Way}
use Rattle.arc_table.specs.declared.numbering.Numbering.{Numbering}

-- ---- steps one after another

-- the places of n steps from h on, each the one onward from the one before
abbrev pub walk : List ℕ → ℕ → ℕ → List ℕ
walk onward zero h = []
walk onward (suc n) h = h ∷ walk onward n (slice_index onward h)

-- the place n steps on from h
abbrev pub place_after : List ℕ → ℕ → ℕ → ℕ
place_after onward zero h = h
place_after onward (suc n) h = place_after onward n (slice_index onward h)

-- each of the n steps from h on goes on, but the last
abbrev pub GoesOn : List ℕ → ℕ → ℕ → Type 0
GoesOn onward zero h = Unit {0}
GoesOn onward (suc zero) h = Unit {0}
GoesOn onward (suc (suc n)) h = (slice_index onward h ≢ h) × GoesOn onward (suc n) (slice_index onward h)

-- a way on from h leads to k, from where no step goes on
pub record LeadsTo (onward : List ℕ) (h k : ℕ) : Type 0 where
  pub steps : ℕ
  pub there : k ≡ place_after onward steps h
  pub ends : slice_index onward k ≡ k

-- the way on from h comes round to h
pub record ComesRound (onward : List ℕ) (h : ℕ) : Type 0 where
  pub steps : ℕ
  pub goes : (j : ℕ) → j ≤ steps → slice_index onward (place_after onward j h) ≢ place_after onward j h
  pub round : slice_index onward (place_after onward steps h) ≡ h

-- the last step on the way on from h; none where that way comes round
abbrev pub IsLastOn : List ℕ → ℕ → Option ℕ → Type 0
IsLastOn onward h None = ComesRound onward h
IsLastOn onward h (Some k) = LeadsTo onward h k

-- the step at a place, with a step for a place past the end
abbrev pub step_at : List Segment → ℕ → Segment
step_at steps h = slice_index_or steps h (record { start = record { x = pos 0; y = pos 0 }; stop = record { x = pos 0; y = pos 0 } })

-- ---- arcs

-- the place of the step back
abbrev pub twin_at : Net → ℕ → ℕ
twin_at net h = slice_index net.twins.items h

-- no step goes on to step h: the step back goes on to none
abbrev pub StartsThere : Net → ℕ → Type 0
StartsThere net h = slice_index net.onward.items (twin_at net h) ≡ twin_at net h

-- from step h on each step goes on
abbrev pub GoesRound : Net → ℕ → Type 0
GoesRound net h = (k : ℕ) → slice_index net.onward.items (place_after net.onward.items k h) ≢ place_after net.onward.items k h

-- step h begins an arc
abbrev pub IsBegin : Net → ℕ → Type 0
IsBegin net h = StartsThere net h ⊎ GoesRound net h

-- step k is along the way on from h, or is the step back of such a step
abbrev pub IsRoundFrom : Net → ℕ → ℕ → Type 0
IsRoundFrom net h k = (i : ℕ) × ((k ≡ place_after net.onward.items i h) ⊎ (k ≡ twin_at net (place_after net.onward.items i h)))

-- no step along the way on from h, and no step back of one, stands before step k
abbrev pub IsLeastAlong : Net → ℕ → ℕ → Type 0
IsLeastAlong net h k = (i : ℕ) → (k ≤ place_after net.onward.items i h) × (k ≤ twin_at net (place_after net.onward.items i h))

-- where each step from h on goes on, step h is the least along that way
abbrev pub BeginsLeast : Net → ℕ → Type 0
BeginsLeast net h = GoesRound net h → IsLeastAlong net h h

-- the place of the last of n steps from h on
abbrev pub last_of_run : Net → ℕ → ℕ → ℕ
last_of_run net n h = place_after net.onward.items (n - 1) h

-- no step goes on to the first of n steps from h on, and the last goes on to none; or the last goes on to the first
abbrev pub IsWholeRun : Net → ℕ → ℕ → Type 0
IsWholeRun net n h =
    let last = last_of_run net n h in
    (StartsThere net h × (slice_index net.onward.items last ≡ last)) ⊎ ((slice_index net.onward.items last ≢ last) × (slice_index net.onward.items last ≡ h))

-- an arc starts at a step of the table, at the least where it comes round, has a step, goes on to its last, and is
-- whole
pub record IsWay (net : Net) (way : Way) : Type 0 where
  pub there : way.start < length net.steps
  pub least : BeginsLeast net way.start
  pub some : 0 < way.steps
  pub on : GoesOn net.onward.items way.steps way.start
  pub whole : IsWholeRun net way.steps way.start

abbrev pub points_of_way : Way → ℕ
points_of_way way = way.steps + 1

-- the link that the step at a place goes along
abbrev pub link_at : Net → ℕ → Segment
link_at net h = link_between (step_at net.steps h)

-- the links along n steps from h on
abbrev pub links_from : Net → ℕ → ℕ → List Segment
links_from net n h = map (link_at net) (walk net.onward.items n h)

-- the links along arcs, one arc after another
abbrev pub links_along : Net → List Way → List Segment
links_along net ways = flat_map (λ (way : Way). links_from net way.steps way.start) ways

-- the arcs of a table: together they go along each of its links, and along none twice
pub record AreWays (net : Net) (arcs : List Way) : Type 0 where
  pub ways : All (IsWay net) arcs
  pub once : AllPairs (λ k l. k ≢ l) (links_along net arcs)
  pub all : (h : ℕ) → h < length net.steps → Contains (links_along net arcs) (link_at net h)

-- ---- marks

-- the step at a place has a mark
abbrev pub HasMark : List Bool → ℕ → Type 0
HasMark marks h = slice_index_or marks h false ≡ true

-- exactly the steps along the links have a mark
abbrev pub AreMarked : Net → List Bool → List Segment → Type 0
AreMarked net marks links = (h : ℕ) → h < length net.steps → (HasMark marks h → Contains links (link_at net h)) × (Contains links (link_at net h) → HasMark marks h)

-- each step on from a step with a mark has a mark, and each step back
pub record AreWhole (net : Net) (marks : List Bool) : Type 0 where
  pub on : (h : ℕ) → h < length net.steps → HasMark marks h → HasMark marks (slice_index net.onward.items h)
  pub back : (h : ℕ) → h < length net.steps → HasMark marks h → HasMark marks (twin_at net h)

-- where whole arcs have marks, and step k has one, step h has one
abbrev pub HaveMarksTogether : Net → ℕ → ℕ → Type 0
HaveMarksTogether net h k = (marks : List Bool) → AreWhole net marks → HasMark marks k → HasMark marks h

-- where links that differ are marked, n steps from h on lead to a step that goes on to none, or to one with a mark
abbrev pub StopsAtMark : Net → List Bool → List Bool → ℕ → ℕ → Type 0
StopsAtMark net old new n h = (links : List Segment) → AreMarked net old links → AllPairs (λ k l. k ≢ l) links
    → (slice_index net.onward.items (last_of_run net n h) ≡ last_of_run net n h) ⊎ HasMark new (slice_index net.onward.items (last_of_run net n h))

-- where links that differ are marked, now also those along n steps from h on are, and all differ
abbrev pub AddsMarks : Net → List Bool → List Bool → ℕ → ℕ → Type 0
AddsMarks net old new n h = (links : List Segment) → AreMarked net old links → AllPairs (λ k l. k ≢ l) links
    → AreMarked net new (links ++ links_from net n h) × AllPairs (λ k l. k ≢ l) (links ++ links_from net n h)

-- arcs of the table, of which no two go along one link, and a mark for each step along them, either way
pub record IsNumbering (net : Net) (numbering : Numbering) : Type 0 where
  pub ways : All (IsWay net) numbering.ways.items
  pub each : length numbering.is_numbered.items ≡ length net.steps
  pub once : AllPairs (λ k l. k ≢ l) (links_along net numbering.ways.items)
  pub marks : AreMarked net numbering.is_numbered.items (links_along net numbering.ways.items)
  pub whole : AreWhole net numbering.is_numbered.items

-- a numbering goes on, and keeps its marks
pub record GoesFrom (net : Net) (old new : Numbering) : Type 0 where
  pub numbering : IsNumbering net new
  pub kept : (h : ℕ) → h < length net.steps → HasMark old.is_numbered.items h → HasMark new.is_numbered.items h

-- ---- the points of an arc

-- where n steps from h on lead, one after another
abbrev pub ends_along : Net → ℕ → ℕ → Path
ends_along net n h = map (λ k. (step_at net.steps k).stop) (walk net.onward.items n h)

-- the points along an arc, from where its first step starts
abbrev pub points_along : Net → Way → Path
points_along net way = (step_at net.steps way.start).start ∷ ends_along net way.steps way.start

-- the points of an arc in its direction
abbrev pub arc_points : Net → Way → Path
arc_points net way = in_direction (points_along net way)

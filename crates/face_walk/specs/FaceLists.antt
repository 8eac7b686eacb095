-- Lists for faces, of items that stand in one list.
use Rattle.std.specs.Prelude.{ℕ, ◌≤◌, List, map, slice_range}
use Rattle.face_walk.specs.declared.face_lists.Span.{Span}

-- a span of no items
abbrev pub nowhere : Span
nowhere = record { start = 0; stop = 0 }

-- the span lies among the first `count` items
pub record IsWithin (count : ℕ) (s : Span) : Type 0 where
  pub ordered : s.start ≤ s.stop
  pub within : s.stop ≤ count

-- the items at each span
abbrev pub lists_in : {A : Type 0} → List A → List Span → List (List A)
lists_in items spans = map (λ (s : Span). slice_range items s.start s.stop) spans

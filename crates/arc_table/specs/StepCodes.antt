-- Steps along links as numbers: twice the number of the link, and one more where the step goes down from its greater end.
use Rattle.std.specs.Prelude.{ℕ, ◌/◌, ◌%◌, ◌<◌, pos, List, map, All, length, nat_eq, slice_index_or, if◌then◌else◌}
use Rattle.plane_model.specs.Points.{Segment, reversed}

-- the link with a number, and for a number past the end a segment that stands still
abbrev pub link_numbered : List Segment → ℕ → Segment
link_numbered links k = slice_index_or links k (record { start = record { x = pos 0; y = pos 0 }; stop = record { x = pos 0; y = pos 0 } })

abbrev pub links_numbered : List Segment → List ℕ → List Segment
links_numbered links numbers = map (link_numbered links) numbers

-- the step with a code
abbrev pub step_of : List Segment → ℕ → Segment
step_of links code = if nat_eq (code % 2) 0 then link_numbered links (code / 2) else reversed (link_numbered links (code / 2))

abbrev pub steps_of : List Segment → List ℕ → List Segment
steps_of links codes = map (step_of links) codes

-- each is the number of one of the links
abbrev pub AreLinkNumbers : List Segment → List ℕ → Type 0
AreLinkNumbers links numbers = All (λ k. k < length links) numbers

-- each is the code of a step along one of the links
abbrev pub AreCodes : List Segment → List ℕ → Type 0
AreCodes links codes = All (λ code. code / 2 < length links) codes

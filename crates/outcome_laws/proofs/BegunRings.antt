-- Commands begin over the plane of a drawing whose rings are closed.
use Rattle.std.proofs.Common.{refl, subst, Bool, true, false, List, Result, Ok, Err}
use Rattle.std.specs.Prelude.{nat_lt, if◌then◌else◌}
use Rattle.lists.specs.Lists.{joined_up}
use Rattle.plane_model.specs.Drawing.{Drawing}
use Rattle.plane_model.specs.Snapped.{link_count, snapped}
use Rattle.plane_model.specs.SnappedRings.{HasClosedRings}
use Rattle.io_core.specs.Contents.{Content, FileMap}
use Rattle.geojson_io.specs.LayerContent.{LayerContent}
use Rattle.table_terms.specs.Refusals.{on_ok}
use Rattle.job_terms.specs.declared.job.Chain.{Chain}
use Rattle.region_model.specs.Answers.{plane_of}
use Rattle.chain_model.specs.Beginning.{drawing_of}
use Rattle.chain_model.specs.Outcome.{Outcome, too_dense}
use Rattle.chain_model.specs.Running.{Begun, begins, begun_with, checked_density, link_limit}
use Rattle.chain_model.specs.Sources.{Readings, imported, whole_room}
use Rattle.outcome_laws.specs.Laws.{BegunRingsAreClosed, IsOfClosedRings}
use Rattle.outcome_laws.proofs.ClosedRings.{AllAreSound, drawing_closed, sources_sound}

-- what has begun, if anything has, is over such a plane
abbrev BegunIsClosed : Result Begun Outcome → Type 0
BegunIsClosed (Ok b) = IsOfClosedRings b.plane
BegunIsClosed (Err o) = Unit {0}

drawn_closed : (c : Chain) (given : List (List LayerContent)) (d : Drawing) → HasClosedRings d → BegunIsClosed (on_ok (checked_density d) (λ (e : Drawing). Ok (begun_with c given (plane_of e))))
drawn_closed c given d closed = go (nat_lt link_limit (link_count (snapped d)))
  where
    go : (b : Bool) → BegunIsClosed (on_ok (if b then Err (too_dense (link_count (snapped d))) else Ok d) (λ (e : Drawing). Ok (begun_with c given (plane_of e))))
    go true = tt
    go false = record { drawing = d; is = refl; closed = closed }

chain_closed : (read : Readings) (c : Chain) (files : FileMap) (input : Content) → BegunIsClosed (begins read c files input)
chain_closed read c files input = go (imported read c.places files input 0 whole_room 1 c.sources) (sources_sound read c.places files input 0 whole_room 1 c.sources)
  where
    go : (r : Result (List (List LayerContent)) Outcome) → AllAreSound r →
        BegunIsClosed (on_ok r (λ (given : List (List LayerContent)). on_ok (checked_density (drawing_of (joined_up given) c.boxes)) (λ (d : Drawing). Ok (begun_with c given (plane_of d)))))
    go (Err o) h = tt
    go (Ok given) h = drawn_closed c given (drawing_of (joined_up given) c.boxes) (drawing_closed given c.boxes h)

pub begun_rings_are_closed : BegunRingsAreClosed
begun_rings_are_closed read c files input b e = subst BegunIsClosed e (chain_closed read c files input)

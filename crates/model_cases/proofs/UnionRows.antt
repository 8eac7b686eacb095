-- The union of layers, on two squares that overlap.
use Rattle.std.proofs.Common.{◌≡◌, refl, [], ◌∷◌, List, map, Some, None, codes, true}
use Rattle.std.specs.Fmt.{digits}
use Rattle.plane_model.specs.Points.{Segment}
use Rattle.grid_base.specs.declared.kinds.Kind.TheVariants as kind
use Rattle.json_values.specs.declared.value.Value.TheVariants.{Null, Text as Words}
use Rattle.geojson_io.specs.LayerContent.{LayerContent}
use Rattle.geojson_io.specs.declared.shape.GeoShape.{GeoShape}
use Rattle.geojson_io.specs.declared.shape.GeoShape.TheVariants.{Points}
use Rattle.table_terms.specs.Names.{Text}
use Rattle.job_terms.specs.declared.job.Action.TheVariants as c
use Rattle.job_terms.specs.declared.job.Command.{Command}
use Rattle.job_terms.specs.declared.job.JointAction.TheVariants as joint
use Rattle.region_model.specs.Region.{Region, feature, any_of, both, less, part}
use Rattle.region_model.specs.Answers.{boundary}
use Rattle.region_model.specs.UnionCommand.{Choice, choices, united}
use Rattle.chain_model.specs.Outcome.{Outcome, done, refused, lone_layer, wrong_kind}
use Rattle.chain_model.specs.State as st
use Rattle.chain_model.specs.State.{Shape, StateLayer}
use Rattle.chain_model.specs.Running.{Output}
use Rattle.chain_model.specs.UnionTable.{with_new_names}
use Rattle.model_cases.specs.Counted.{counted}
use Rattle.model_cases.proofs.Drawings.{point, segment}
use Rattle.model_cases.proofs.PolygonRows.{overlapping, A, B}
use Rattle.model_cases.proofs.RunRows.{apply, print, printed, run_over, square}

-- ---- the regions

-- none comes after every number
choices_in_order : choices ((A ∷ B ∷ []) ∷ (A ∷ []) ∷ [])
    ≡ (Some 0 ∷ Some 0 ∷ []) ∷ (Some 0 ∷ None ∷ []) ∷ (Some 1 ∷ Some 0 ∷ []) ∷ (Some 1 ∷ None ∷ []) ∷ (None ∷ Some 0 ∷ []) ∷ (None ∷ None ∷ []) ∷ []
choices_in_order = refl

three_features : map {B = Choice × List Segment} (λ (f : Choice × Region). (f.0, boundary overlapping (counted overlapping) f.1)) (united overlapping (counted overlapping) ((A ∷ []) ∷ (B ∷ []) ∷ []))
    ≡ (Some 0 ∷ Some 0 ∷ [], (segment 2 4 2 2 ∷ segment 2 2 4 2 ∷ segment 4 4 2 4 ∷ segment 4 2 4 4 ∷ []))
    ∷ (Some 0 ∷ None ∷ [], (segment 0 4 0 0 ∷ segment 0 0 4 0 ∷ segment 2 4 0 4 ∷ segment 2 2 2 4 ∷ segment 4 2 2 2 ∷ segment 4 0 4 2 ∷ []))
    ∷ (None ∷ Some 0 ∷ [], (segment 2 6 2 4 ∷ segment 2 4 4 4 ∷ segment 6 6 2 6 ∷ segment 4 4 4 2 ∷ segment 4 2 6 2 ∷ segment 6 2 6 6 ∷ [])) ∷ []
three_features = refl

-- ---- the columns

-- a name is tried against the columns before it alone
names_taken : with_new_names [] (codes "n" ∷ codes "n" ∷ codes "n_2" ∷ codes "n" ∷ []) ≡ codes "n" ∷ codes "n_2" ∷ codes "n_2_2" ∷ codes "n_3" ∷ []
unfolding digits
names_taken = refl

-- ---- runs

abbrev with_n : Text → GeoShape → LayerContent
with_n name shape = record { name = name; kind = kind.Polygon; table = record { names = codes "n" ∷ []; rows = (Words name ∷ []) ∷ [] }; shapes = shape ∷ [] }

abbrev a_and_b : List LayerContent
a_and_b = with_n (codes "a") (square 0 0 4 4) ∷ with_n (codes "b") (square 2 2 6 6) ∷ []

-- the layers that a command prints over some layers, and the end
abbrev after : List LayerContent → Command → List (List StateLayer) × Outcome
after ls command =
    let r : List Output × Outcome = run_over ls [] [] (command ∷ print ∷ []) in
    (printed r, r.1)

abbrev union : Command
union = apply (c.Together joint.Union)

-- the part of what some features have and others have not
abbrev one_part : Region → List Region → Shape
one_part r rest = st.region (part (less r (any_of rest)) 0)

-- a feature, less those before it, of which there are none
abbrev whole : Region → Region
whole r = less r (any_of [])

abbrev united_as : Text → StateLayer
united_as name = record {
  name = name;
  kind = kind.Polygon;
  table = record { names = codes "n" ∷ codes "n_2" ∷ []; rows = (Words (codes "a") ∷ Words (codes "b") ∷ []) ∷ (Words (codes "a") ∷ Null ∷ []) ∷ (Null ∷ Words (codes "b") ∷ []) ∷ [] };
  shapes = one_part (both (whole (feature 0)) (whole (feature 1))) [] ∷ one_part (whole (feature 0)) (feature 1 ∷ []) ∷ one_part (whole (feature 1)) (feature 0 ∷ []) ∷ [];
}

two_squares : after a_and_b union ≡ ((united_as (codes "a") ∷ []) ∷ [], done)
unfolding digits
two_squares = refl

named_after_both : after a_and_b (record union { name = Some (codes "u"); keep = true }) ≡ ((united_as (codes "u") ∷ []) ∷ [], done)
unfolding digits
named_after_both = refl

one_alone : after (with_n (codes "a") (square 0 0 4 4) ∷ []) union ≡ ([], refused 1 lone_layer)
one_alone = refl

-- the kinds are looked at before the number

abbrev spots : LayerContent
spots = record { name = codes "p"; kind = kind.Point; table = record { names = []; rows = [] ∷ [] }; shapes = Points (point 1 1 ∷ []) ∷ [] }

no_points : after (with_n (codes "a") (square 0 0 4 4) ∷ spots ∷ []) union ≡ ([], refused 1 wrong_kind)
no_points = refl

points_alone : after (spots ∷ []) union ≡ ([], refused 1 wrong_kind)
points_alone = refl

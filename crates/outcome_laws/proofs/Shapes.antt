-- Shapes and layers on a plane: their paths go along its links, and their points are its vertices.
use Rattle.std.proofs.Common.{◌≡◌, refl, ℕ, not, List, [], ◌∷◌, map, Result, Ok, Err}
use Rattle.std.proofs.Math.Path.{fun_ext}
use Rattle.lists.specs.Lists.{numbers_where}
use Rattle.region_model.specs.Region.{Region}
use Rattle.region_model.specs.Answers.{Answers, Plane}
use Rattle.table_terms.specs.Refusals.{on_ok}
use Rattle.table_rows.specs.declared.fault.TableWhy.{TableWhy}
use Rattle.chain_model.specs.Features.{Outputs, in_layer}
use Rattle.chain_model.specs.Outcome.{RefuseWhy}
use Rattle.chain_model.specs.State.{Shape, StateLayer, region, paths, points, no_shape, is_empty_shape, points_of, shape_at, take_features, without_empty}
use Rattle.outcome_laws.proofs.Every.{Every, every_all, every_map, every_place}
use Rattle.outcome_laws.proofs.ArcSteps.{Goes}
use Rattle.outcome_laws.proofs.Planes.{IsVertex}
use Rattle.outcome_laws.proofs.Alike.{AreAlike}
use Rattle.outcome_laws.proofs.Polygons.{empty_same}

abbrev pub ShapeIsOn : Plane → Shape → Type 0
ShapeIsOn P (region r) = Unit {0}
ShapeIsOn P (paths ps) = Every (Goes P.links) ps
ShapeIsOn P (points ps) = Every (IsVertex P) ps
ShapeIsOn P no_shape = Unit {0}

abbrev pub LayerIsOn : Plane → StateLayer → Type 0
LayerIsOn P l = Every (ShapeIsOn P) l.shapes

-- what is put out, where it is not refused
abbrev pub OutputsAreOn : Plane → Outputs → Type 0
OutputsAreOn P (Ok ls) = Every (LayerIsOn P) ls
OutputsAreOn P (Err why) = Unit {0}

abbrev pub AllAreOn : Plane → Result (List (List StateLayer)) RefuseWhy → Type 0
AllAreOn P (Ok outs) = Every (Every (LayerIsOn P)) outs
AllAreOn P (Err why) = Unit {0}

-- two functions that make the same of each layer on the plane, which lies on it too
pub record AreOne (P : Plane) (f g : StateLayer → Outputs) : Type 0 where
  pub same : (l : StateLayer) → LayerIsOn P l → f l ≡ g l
  pub on : (l : StateLayer) → LayerIsOn P l → OutputsAreOn P (f l)

module _ (P : Plane) where
  -- one function, whose layers lie on the plane
  pub one_of : (f : StateLayer → Outputs) → ((l : StateLayer) → LayerIsOn P l → OutputsAreOn P (f l)) → AreOne P f f
  one_of f on = record { same = λ l h. refl; on = on }

  -- what is made of the answer of a table function
  pub answered_on : {T : Type 0} (answer : Result T TableWhy) (made : T → Outputs) → ((t : T) → OutputsAreOn P (made t)) → OutputsAreOn P (on_ok (in_layer answer) made)
  answered_on (Ok t) made h = h t
  answered_on (Err why) made h = tt

  -- shapes that are regions
  pub regions_on : {X : Type 0} (made : X → Region) (xs : List X) → Every (ShapeIsOn P) (map (λ (x : X). region (made x)) xs)
  regions_on made [] = tt
  regions_on made (x ∷ xs) = (tt, regions_on made xs)

  -- no layers in the places of some
  pub nothing_on : (ks : List StateLayer) → Every (Every (LayerIsOn P)) (map (λ (k : StateLayer). []) ks)
  nothing_on [] = tt
  nothing_on (k ∷ ks) = (tt, nothing_on ks)

  pub shape_on : (l : StateLayer) → LayerIsOn P l → (n : ℕ) → ShapeIsOn P (shape_at l n)
  shape_on l h n = every_place (ShapeIsOn P) no_shape tt l.shapes h n

  pub shapes_on : (l : StateLayer) → LayerIsOn P l → (ns : List ℕ) → Every (ShapeIsOn P) (map (shape_at l) ns)
  shapes_on l h ns = every_map (λ n. Unit {0}) (ShapeIsOn P) (shape_at l) (λ n u. shape_on l h n) ns (every_all (λ n. Unit {0}) (λ n. tt) ns)

  pub points_on : (s : Shape) → ShapeIsOn P s → Every (IsVertex P) (points_of s)
  points_on (region r) h = tt
  points_on (paths ps) h = tt
  points_on (points ps) h = h
  points_on no_shape h = tt

  pub taken_on : (l : StateLayer) → LayerIsOn P l → (ns : List ℕ) → LayerIsOn P (take_features l ns)
  taken_on l h ns = shapes_on l h ns

  pub without_on : (A : Answers) (l : StateLayer) → LayerIsOn P l → LayerIsOn P (without_empty P A l)
  without_on A l h = taken_on l h (numbers_where (λ (s : Shape). not (is_empty_shape P A s)) l.shapes)

  module _ (A B : Answers) (alike : AreAlike P A B) where
    emptiness_same : is_empty_shape P A ≡ is_empty_shape P B
    emptiness_same = fun_ext go
      where
        go : (s : Shape) → is_empty_shape P A s ≡ is_empty_shape P B s
        go (region r) = λ i. empty_same P A B alike i r
        go (paths ps) = refl
        go (points ps) = refl
        go no_shape = refl

    pub without_same : without_empty P A ≡ without_empty P B
    without_same = λ i l. take_features l (numbers_where (λ (s : Shape). not (emptiness_same i s)) l.shapes)

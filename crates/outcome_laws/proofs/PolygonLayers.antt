-- Commands on layers of polygons put out the same by answers that are alike.
use Rattle.std.proofs.Common.{◌≡◌, refl, ℕ, Bool, true, false, List, [], ◌∷◌, map, zip, codes, Ok}
use Rattle.std.specs.Prelude.{if◌then◌else◌}
use Rattle.std.specs.List.{flat_map, range_with_len}
use Rattle.std.proofs.Math.Path.{fun_ext}
use Rattle.plane_model.specs.Points.{GridPoint, Path}
use Rattle.grid_base.specs.declared.kinds.OverlapRule.{OverlapRule}
use Rattle.json_values.specs.Table.{RowValues}
use Rattle.json_values.specs.declared.value.Value.TheVariants as value
use Rattle.region_model.specs.Region.{Region}
use Rattle.region_model.specs.Answers.{Answers, Plane}
use Rattle.region_model.specs.PolygonCommands.{cleaned_and_filled, exploded, mosaic, without_islands}
use Rattle.region_model.specs.UnionCommand.{Choice, united}
use Rattle.chain_model.specs.Features.{Feature, Outputs, clean_layer, count_of, exploded_shapes, explode_layer, islands_layer, just, mosaic_layer, numbers_text, or_itself, shapes_by, united_layers}
use Rattle.chain_model.specs.State.{Shape, StateLayer, region, paths, points, no_shape, region_at, regions_in, without_empty}
use Rattle.chain_model.specs.UnionTable.{union_table}
use Rattle.outcome_laws.proofs.Every.{Every, every_flat, every_map}
use Rattle.outcome_laws.proofs.ArcSteps.{Goes}
use Rattle.outcome_laws.proofs.Planes.{IsVertex}
use Rattle.outcome_laws.proofs.Alike.{AreAlike}
use Rattle.outcome_laws.proofs.Polygons.{exploded_same, filled_same, islands_same, mosaic_same, united_same}
use Rattle.outcome_laws.proofs.Shapes.{AllAreOn, AreOne, LayerIsOn, ShapeIsOn, nothing_on, regions_on, without_on, without_same}

-- rows that are pieces of others, each with its shape
pieces_on : (P : Plane) (rows : List RowValues) (shapes : List Shape) → Every (ShapeIsOn P) shapes → Every (λ (f : Feature). ShapeIsOn P f.1) (zip rows shapes)
pieces_on P [] shapes h = tt
pieces_on P (row ∷ rows) [] h = tt
pieces_on P (row ∷ rows) (s ∷ shapes) h = (h.0, pieces_on P rows shapes h.1)

module _ (P : Plane) (A B : Answers) (alike : AreAlike P A B) where
  -- ## Clean and islands: a region for each feature, maybe without the empty ones

  abbrev made_by : ((ℕ → Region) → ℕ → ℕ → Region) → StateLayer → StateLayer
  made_by made l = record l { shapes = shapes_by (made (region_at l) (count_of l)) l }

  made_on : (made : (ℕ → Region) → ℕ → ℕ → Region) (l : StateLayer) → LayerIsOn P (made_by made l)
  made_on made l = regions_on P (made (region_at l) (count_of l)) (range_with_len 0 (count_of l))

  pub clean_one : (rule : OverlapRule) (allow_empty : Bool) (gap : ℕ) → AreOne P (clean_layer P A rule allow_empty gap) (clean_layer P B rule allow_empty gap)
  clean_one rule allow_empty gap = record {
    same = λ l h i. just (if allow_empty then made_by (filled_same P A B alike i rule gap) l else without_same P A B alike i (made_by (filled_same P A B alike i rule gap) l));
    on = λ l h. (go allow_empty l, tt);
  }
    where
      go : (b : Bool) (l : StateLayer) → LayerIsOn P (if b then made_by (cleaned_and_filled P A rule gap) l else without_empty P A (made_by (cleaned_and_filled P A rule gap) l))
      go true l = made_on (cleaned_and_filled P A rule gap) l
      go false l = without_on P A (made_by (cleaned_and_filled P A rule gap) l) (made_on (cleaned_and_filled P A rule gap) l)

  pub islands_one : (least_area least_links : ℕ) (remove_empty : Bool) → AreOne P (islands_layer P A least_area least_links remove_empty) (islands_layer P B least_area least_links remove_empty)
  islands_one least_area least_links remove_empty = record {
    same = λ l h i. just (if remove_empty then without_same P A B alike i (made_by (islands_same P A B alike i least_area least_links) l) else made_by (islands_same P A B alike i least_area least_links) l);
    on = λ l h. (go remove_empty l, tt);
  }
    where
      go : (b : Bool) (l : StateLayer) → LayerIsOn P (if b then without_empty P A (made_by (without_islands P A least_area least_links) l) else made_by (without_islands P A least_area least_links) l)
      go true l = without_on P A (made_by (without_islands P A least_area least_links) l) (made_on (without_islands P A least_area least_links) l)
      go false l = made_on (without_islands P A least_area least_links) l

  -- ## Mosaic and union: a region for each piece

  abbrev mosaic_of : StateLayer → List (List ℕ × Region) → Outputs
  mosaic_of l pieces = just (record l {
    table = record { names = codes "ids" ∷ []; rows = map (λ (m : List ℕ × Region). value.Text (numbers_text m.0) ∷ []) pieces };
    shapes = map (λ (m : List ℕ × Region). region m.1) pieces;
  })

  pub mosaic_one : AreOne P (mosaic_layer P A) (mosaic_layer P B)
  mosaic_one = record {
    same = λ l h i. mosaic_of l (mosaic_same P A B alike i (region_at l) (count_of l));
    on = λ l h. (regions_on P (λ (m : List ℕ × Region). m.1) (mosaic P A (region_at l) (count_of l)), tt);
  }

  abbrev united_of : List StateLayer → StateLayer → List (Choice × Region) → StateLayer
  united_of ls l pieces = record l {
    table = union_table (map (λ (m : StateLayer). m.table) ls) (map (λ (f : Choice × Region). f.0) pieces);
    shapes = map (λ (f : Choice × Region). region f.1) pieces;
  }

  pub united_layers_same : (ls : List StateLayer) → united_layers P A ls ≡ united_layers P B ls
  united_layers_same [] = refl
  united_layers_same (l ∷ []) = refl
  united_layers_same (l ∷ m ∷ ls) = λ i. Ok ((united_of (l ∷ m ∷ ls) l (united_same P A B alike i (map regions_in (l ∷ m ∷ ls))) ∷ []) ∷ map (λ (k : StateLayer). []) (m ∷ ls))

  pub united_on : (ls : List StateLayer) → AllAreOn P (united_layers P A ls)
  united_on [] = tt
  united_on (l ∷ []) = tt
  united_on (l ∷ m ∷ ls) = ((regions_on P (λ (f : Choice × Region). f.1) (united P A (map regions_in (l ∷ m ∷ ls))), tt), nothing_on P (m ∷ ls))

  -- ## Explode: parts, paths or points one by one

  exploded_shapes_same : exploded_shapes P A ≡ exploded_shapes P B
  exploded_shapes_same = fun_ext go
    where
      go : (s : Shape) → exploded_shapes P A s ≡ exploded_shapes P B s
      go (region r) = λ i. map region (exploded_same P A B alike i r)
      go (paths ps) = refl
      go (points ps) = refl
      go no_shape = refl

  itself_on : (s : Shape) (ts : List Shape) → ShapeIsOn P s → Every (ShapeIsOn P) ts → Every (ShapeIsOn P) (or_itself s ts)
  itself_on s [] h g = (h, tt)
  itself_on s (t ∷ ts) h g = g

  exploded_on : (s : Shape) → ShapeIsOn P s → Every (ShapeIsOn P) (exploded_shapes P A s)
  exploded_on (region r) h = regions_on P (λ (q : Region). q) (exploded P A r)
  exploded_on (paths ps) h = itself_on (paths ps) (map (λ (p : Path). paths (p ∷ [])) ps) h (every_map (Goes P.links) (ShapeIsOn P) (λ (p : Path). paths (p ∷ [])) (λ p g. (g, tt)) ps h)
  exploded_on (points ps) h = itself_on (points ps) (map (λ (p : GridPoint). points (p ∷ [])) ps) h (every_map (IsVertex P) (ShapeIsOn P) (λ (p : GridPoint). points (p ∷ [])) (λ p g. (g, tt)) ps h)
  exploded_on no_shape h = (tt, tt)

  abbrev with_pieces : StateLayer → List Feature → Outputs
  with_pieces l pieces = just (record l { table = record { names = l.table.names; rows = map (λ (f : Feature). f.0) pieces }; shapes = map (λ (f : Feature). f.1) pieces })

  abbrev pieces_by : (Shape → List Shape) → StateLayer → List Feature
  pieces_by cut l = flat_map (λ (f : Feature). map (λ (s : Shape). (f.0, s)) (cut f.1)) (zip l.table.rows l.shapes)

  pub explode_one : AreOne P (explode_layer P A) (explode_layer P B)
  explode_one = record {
    same = λ l h i. with_pieces l (pieces_by (exploded_shapes_same i) l);
    on = λ l h. (
      every_map (λ (f : Feature). ShapeIsOn P f.1) (ShapeIsOn P) (λ (f : Feature). f.1) (λ f g. g) (pieces_by (exploded_shapes P A) l)
          (every_flat (λ (f : Feature). ShapeIsOn P f.1) (λ (f : Feature). ShapeIsOn P f.1) (λ (f : Feature). map (λ (s : Shape). (f.0, s)) (exploded_shapes P A f.1))
          (λ f g. every_map (ShapeIsOn P) (λ (e : Feature). ShapeIsOn P e.1) (λ (s : Shape). (f.0, s)) (λ s k. k) (exploded_shapes P A f.1) (exploded_on f.1 g)) (zip l.table.rows l.shapes) (pieces_on P l.table.rows l.shapes h)),
      tt,
    );
  }

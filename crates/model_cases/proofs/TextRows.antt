-- Whole texts of small pictures.
use Rattle.std.proofs.Common.{◌≡◌, refl, pos, [], ◌∷◌, codes}
use Rattle.std.specs.Fmt.{digits}
use Rattle.grid_base.specs.declared.kinds.Kind.TheVariants as kind
use Rattle.numerals.specs.Decimal.{decimal_text, fraction_text, of_grid, last_digits, trimmed_digits}
use Rattle.json_values.specs.declared.value.Value.TheVariants.{Null, Num, Text}
use Rattle.geojson_io.specs.declared.shape.GeoShape.TheVariants.{Polygons, Lines, Points}
use Rattle.job_terms.specs.declared.job.OutForm.TheVariants as form
use Rattle.chain_model.specs.Pictures.{text_in}
use Rattle.model_cases.proofs.Drawings.{point, ring}

cities : text_in form.Geo 6 [] (record {
  name = codes "in";
  kind = kind.Point;
  table = record { names = codes "name" ∷ codes "pop" ∷ codes "note" ∷ []; rows = (Text (codes "Paris") ∷ Num (of_grid (pos 2102650) 0) ∷ Null ∷ []) ∷ (Text (codes "Berlin") ∷ Null ∷ Null ∷ []) ∷ [] };
  shapes = Points (record { x = pos 2352200; y = pos 48856600 } ∷ []) ∷ Points (record { x = pos 13405000; y = pos 52520000 } ∷ []) ∷ [];
} ∷ [])
    ≡ codes "{\"type\":\"FeatureCollection\",\"features\":[\n{\"type\":\"Feature\",\"geometry\":{\"type\":\"Point\",\"coordinates\":[2.3522,48.8566]},\"properties\":{\"name\":\"Paris\",\"pop\":2102650,\"note\":null}},\n{\"type\":\"Feature\",\"geometry\":{\"type\":\"Point\",\"coordinates\":[13.405,52.52]},\"properties\":{\"name\":\"Berlin\",\"pop\":null,\"note\":null}}\n]}\n"
unfolding digits decimal_text fraction_text trimmed_digits last_digits
cities = refl

-- one line of the three arcs of two squares: it is numbered anew
inner_line : text_in form.Topo 0 ((point 2 0 ∷ point 0 0 ∷ point 0 2 ∷ point 2 2 ∷ []) ∷ (point 2 0 ∷ point 2 2 ∷ []) ∷ (point 2 0 ∷ point 4 0 ∷ point 4 2 ∷ point 2 2 ∷ []) ∷ [])
    (record { name = codes "in"; kind = kind.Line; table = record { names = []; rows = [] ∷ [] }; shapes = Lines ((point 2 0 ∷ point 2 2 ∷ []) ∷ []) ∷ [] } ∷ [])
    ≡ codes "{\"type\":\"Topology\",\"transform\":{\"scale\":[1,1],\"translate\":[0,0]},\"objects\":{\"in\":{\"type\":\"GeometryCollection\",\"geometries\":[{\"type\":\"LineString\",\"arcs\":[0]}]}},\"arcs\":[[[2,0],[0,2]]]}\n"
unfolding digits decimal_text fraction_text trimmed_digits last_digits
inner_line = refl

-- a square with a hole that touches its exterior
square_with_hole : text_in form.Topo 0 ((point 0 0 ∷ point 0 4 ∷ point 4 4 ∷ point 4 0 ∷ point 0 0 ∷ []) ∷ (point 0 0 ∷ point 1 2 ∷ point 2 1 ∷ point 0 0 ∷ []) ∷ [])
    (record { name = codes "in"; kind = kind.Polygon; table = record { names = []; rows = [] ∷ [] }; shapes = Polygons ((ring 0 0 4 4 ∷ (point 0 0 ∷ point 1 2 ∷ point 2 1 ∷ point 0 0 ∷ []) ∷ []) ∷ []) ∷ [] } ∷ [])
    ≡ codes "{\"type\":\"Topology\",\"transform\":{\"scale\":[1,1],\"translate\":[0,0]},\"objects\":{\"in\":{\"type\":\"GeometryCollection\",\"geometries\":[{\"type\":\"Polygon\",\"arcs\":[[-1],[1]]}]}},\"arcs\":[[[0,0],[0,4],[4,0],[0,-4],[-4,0]],[[0,0],[1,2],[1,-1],[-2,-1]]]}\n"
unfolding digits decimal_text fraction_text trimmed_digits last_digits
square_with_hole = refl

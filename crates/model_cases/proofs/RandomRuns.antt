-- Random runs over random layers, as an independent reference makes them.
use Rattle.std.proofs.Common.{◌≡◌, refl, ℤ, pos, List, [], ◌∷◌, map, None, Ok, Err, codes}
use Rattle.std.specs.Fmt.{digits}
use Rattle.lists.specs.Lists.{joined_up}
use Rattle.plane_model.specs.Points.{GridPoint, Segment, Path}
use Rattle.grid_base.specs.declared.kinds.Kind.{Kind}
use Rattle.grid_base.specs.declared.kinds.Kind.TheVariants as kind
use Rattle.numerals.specs.Decimal.{decimal_of_text, decimal_text, fraction_text, last_digits, trimmed_digits}
use Rattle.numerals.specs.Numeral.{numeral_of, grid_of_text}
use Rattle.json_values.specs.Table.{TableContent}
use Rattle.json_values.specs.declared.value.Value.TheVariants.{Null, Num, Text}
use Rattle.geojson_io.specs.LayerContent.{LayerContent}
use Rattle.geojson_io.specs.declared.shape.GeoShape.TheVariants.{Nothing, Polygons, Lines, Points}
use Rattle.table_terms.specs.Names.{Text as Words}
use Rattle.table_rows.specs.declared.fault.TableWhy.TheVariants.{FieldsDiffer, NoField}
use Rattle.cmd_words.specs.Boxes.{box_of_text, places_of}
use Rattle.cmd_words.specs.Words.{JobWords, Reading, synth, chain}
use Rattle.job_terms.specs.declared.job.Chain.{Chain}
use Rattle.region_model.specs.Answers.{Answers, Plane, boundary, plane_of}
use Rattle.chain_model.specs.Outcome.{Outcome, done, bad_words, refused, wrong_kind, name_twice, in_table}
use Rattle.chain_model.specs.State as st
use Rattle.chain_model.specs.State.{StateLayer, Shape}
use Rattle.chain_model.specs.Beginning.{drawing_of}
use Rattle.chain_model.specs.Running.{Begun, Output, begun_with, run_from}
use Rattle.word_model.specs.Words.{words_say}
use Rattle.model_cases.specs.Counted.{counted}
use Rattle.model_cases.proofs.WholeRows.{chain_of}

abbrev p : ℤ → ℤ → GridPoint
p x y = record { x = x; y = y }

abbrev s : GridPoint → GridPoint → Segment
s a b = record { start = a; stop = b }

-- what is seen of a shape: a region by its boundary
data Seen : Type 0 where
  edges : List Segment → Seen
  ways : List Path → Seen
  spots : List GridPoint → Seen
  nowhere : Seen

record SeenLayer : Type 0 where
  name : Words
  kind : Kind
  table : TableContent
  shapes : List Seen

abbrev seen : Plane → Answers → Shape → Seen
seen P A (st.region r) = edges (boundary P A r)
seen P A (st.paths ps) = ways ps
seen P A (st.points ps) = spots ps
seen P A st.no_shape = nowhere

abbrev seen_layer : Plane → Answers → StateLayer → SeenLayer
seen_layer P A l = record { name = l.name; kind = l.kind; table = l.table; shapes = map (seen P A) l.shapes }

-- the layers that each output prints, and the end
abbrev printed : Begun → List (List SeenLayer) × Outcome
printed b =
    let A : Answers = counted b.plane in
    let r : List Output × Outcome = run_from b.plane A b.sources 1 b.state b.commands in
    (map (λ (o : Output). map (seen_layer b.plane A) o.written.layers) r.0, r.1)

abbrev run_over : List (List LayerContent) → Chain → List (List SeenLayer) × Outcome
run_over sources c = printed (begun_with c sources (plane_of (drawing_of (joined_up sources) c.boxes)))

abbrev ended : List (List LayerContent) → Reading JobWords → List (List SeenLayer) × Outcome
ended sources (Err e) = ([], bad_words e.0 e.1)
ended sources (Ok (synth seed n)) = ([], done)
ended sources (Ok (chain w)) = run_over sources (chain_of w)

-- words over sources that were read: no word is an expression
abbrev result : List (List LayerContent) → List Words → List (List SeenLayer) × Outcome
result sources words = ended sources (words_say (λ kind text. None) words)

-- a.json b.json precision=1 -erase b + -o o.topojson -o o.topojson
c440 : result (((record { name = (codes "a"); kind = kind.Polygon; table = record { names = ((codes "n") ∷ (codes "st") ∷ (codes "pop") ∷ []); rows = (((Text (codes "X")) ∷ (Text (codes "Y")) ∷ Null ∷ []) ∷ []) }; shapes = ((Polygons ((((p (pos 0) (pos 0)) ∷ (p (pos 3) (pos 1)) ∷ (p (pos 0) (pos 3)) ∷ (p (pos 2) (pos 1)) ∷ (p (pos 0) (pos 0)) ∷ []) ∷ []) ∷ [])) ∷ []) }) ∷ []) ∷ ((record { name = (codes "b"); kind = kind.Polygon; table = record { names = ((codes "n") ∷ (codes "pop") ∷ []); rows = ((Null ∷ (Num (pos 1000000000000000000)) ∷ []) ∷ ((Num (pos 1000000000000000000)) ∷ Null ∷ []) ∷ (Null ∷ (Num (pos 1000000000000000000)) ∷ []) ∷ []) }; shapes = ((Polygons ((((p (pos 0) (pos 1)) ∷ (p (pos 4) (pos 1)) ∷ (p (pos 0) (pos 0)) ∷ (p (pos 0) (pos 1)) ∷ []) ∷ []) ∷ [])) ∷ (Polygons ((((p (pos 1) (pos 2)) ∷ (p (pos 2) (pos 2)) ∷ (p (pos 4) (pos 1)) ∷ (p (pos 1) (pos 2)) ∷ []) ∷ []) ∷ [])) ∷ Nothing ∷ []) }) ∷ []) ∷ []) ((codes "a.json") ∷ (codes "b.json") ∷ (codes "precision=1") ∷ (codes "-erase") ∷ (codes "b") ∷ (codes "+") ∷ (codes "-o") ∷ (codes "o.topojson") ∷ (codes "-o") ∷ (codes "o.topojson") ∷ []) ≡ ((((record { name = (codes "a"); kind = kind.Polygon; table = record { names = ((codes "n") ∷ (codes "st") ∷ (codes "pop") ∷ []); rows = ([]) }; shapes = ([]) }) ∷ (record { name = (codes "b"); kind = kind.Polygon; table = record { names = ((codes "n") ∷ (codes "pop") ∷ []); rows = ([]) }; shapes = ([]) }) ∷ []) ∷ ((record { name = (codes "a"); kind = kind.Polygon; table = record { names = ((codes "n") ∷ (codes "st") ∷ (codes "pop") ∷ []); rows = ([]) }; shapes = ([]) }) ∷ (record { name = (codes "b"); kind = kind.Polygon; table = record { names = ((codes "n") ∷ (codes "pop") ∷ []); rows = ([]) }; shapes = ([]) }) ∷ []) ∷ []), done)
unfolding numeral_of grid_of_text decimal_of_text places_of box_of_text digits decimal_text fraction_text trimmed_digits last_digits
c440 = refl

-- a.json b.json precision=1 -filter remove-empty -o o.topojson
c441 : result (((record { name = (codes "a"); kind = kind.Polygon; table = record { names = ((codes "n") ∷ (codes "pop") ∷ (codes "st") ∷ []); rows = ((Null ∷ Null ∷ (Text (codes "Y")) ∷ []) ∷ ((Text (codes "Y")) ∷ (Num (pos 3000000000000000000)) ∷ (Num (pos 1000000000000000000)) ∷ []) ∷ []) }; shapes = ((Polygons ((((p (pos 4) (pos 4)) ∷ (p (pos 1) (pos 3)) ∷ (p (pos 2) (pos 0)) ∷ (p (pos 1) (pos 1)) ∷ (p (pos 4) (pos 4)) ∷ []) ∷ []) ∷ [])) ∷ (Polygons ((((p (pos 1) (pos 4)) ∷ (p (pos 2) (pos 0)) ∷ (p (pos 4) (pos 3)) ∷ (p (pos 1) (pos 4)) ∷ []) ∷ []) ∷ [])) ∷ []) }) ∷ []) ∷ ((record { name = (codes "b"); kind = kind.Line; table = record { names = ((codes "st") ∷ (codes "pop") ∷ (codes "n") ∷ []); rows = (((Num (pos 2000000000000000000)) ∷ (Num (pos 2000000000000000000)) ∷ Null ∷ []) ∷ ((Num (pos 2000000000000000000)) ∷ (Num (pos 3000000000000000000)) ∷ Null ∷ []) ∷ []) }; shapes = ((Lines (((p (pos 1) (pos 0)) ∷ (p (pos 0) (pos 2)) ∷ []) ∷ [])) ∷ (Lines (((p (pos 2) (pos 3)) ∷ (p (pos 3) (pos 1)) ∷ (p (pos 2) (pos 3)) ∷ []) ∷ [])) ∷ []) }) ∷ []) ∷ []) ((codes "a.json") ∷ (codes "b.json") ∷ (codes "precision=1") ∷ (codes "-filter") ∷ (codes "remove-empty") ∷ (codes "-o") ∷ (codes "o.topojson") ∷ []) ≡ ((((record { name = (codes "a"); kind = kind.Polygon; table = record { names = ((codes "n") ∷ (codes "pop") ∷ (codes "st") ∷ []); rows = ((Null ∷ Null ∷ (Text (codes "Y")) ∷ []) ∷ ((Text (codes "Y")) ∷ (Num (pos 3000000000000000000)) ∷ (Num (pos 1000000000000000000)) ∷ []) ∷ []) }; shapes = ((edges ((s (p (pos 1) (pos 1)) (p (pos 2) (pos 0))) ∷ (s (p (pos 2) (pos 2)) (p (pos 1) (pos 1))) ∷ (s (p (pos 1) (pos 3)) (p (pos 2) (pos 2))) ∷ (s (p (pos 2) (pos 3)) (p (pos 1) (pos 3))) ∷ (s (p (pos 2) (pos 0)) (p (pos 2) (pos 2))) ∷ (s (p (pos 2) (pos 2)) (p (pos 3) (pos 3))) ∷ (s (p (pos 3) (pos 4)) (p (pos 2) (pos 3))) ∷ (s (p (pos 3) (pos 3)) (p (pos 4) (pos 4))) ∷ (s (p (pos 4) (pos 4)) (p (pos 3) (pos 4))) ∷ [])) ∷ (edges ((s (p (pos 1) (pos 4)) (p (pos 1) (pos 3))) ∷ (s (p (pos 1) (pos 3)) (p (pos 2) (pos 2))) ∷ (s (p (pos 3) (pos 4)) (p (pos 1) (pos 4))) ∷ (s (p (pos 2) (pos 2)) (p (pos 2) (pos 0))) ∷ (s (p (pos 2) (pos 0)) (p (pos 3) (pos 1))) ∷ (s (p (pos 3) (pos 1)) (p (pos 4) (pos 3))) ∷ (s (p (pos 3) (pos 3)) (p (pos 3) (pos 4))) ∷ (s (p (pos 4) (pos 3)) (p (pos 3) (pos 3))) ∷ [])) ∷ []) }) ∷ (record { name = (codes "b"); kind = kind.Line; table = record { names = ((codes "st") ∷ (codes "pop") ∷ (codes "n") ∷ []); rows = (((Num (pos 2000000000000000000)) ∷ (Num (pos 2000000000000000000)) ∷ Null ∷ []) ∷ ((Num (pos 2000000000000000000)) ∷ (Num (pos 3000000000000000000)) ∷ Null ∷ []) ∷ []) }; shapes = ((ways (((p (pos 1) (pos 0)) ∷ (p (pos 1) (pos 1)) ∷ (p (pos 0) (pos 2)) ∷ []) ∷ [])) ∷ (ways (((p (pos 2) (pos 3)) ∷ (p (pos 2) (pos 2)) ∷ (p (pos 3) (pos 1)) ∷ (p (pos 2) (pos 2)) ∷ (p (pos 2) (pos 3)) ∷ []) ∷ [])) ∷ []) }) ∷ []) ∷ []), done)
unfolding numeral_of grid_of_text decimal_of_text places_of box_of_text digits decimal_text fraction_text trimmed_digits last_digits
c441 = refl

-- a.json b.json precision=1 -filter-fields -o o.topojson -split target=* -o o.topojson -o o.topojson
c442 : result (((record { name = (codes "a"); kind = kind.Polygon; table = record { names = ((codes "pop") ∷ (codes "n") ∷ (codes "st") ∷ []); rows = (((Num (pos 3000000000000000000)) ∷ (Num (pos 1000000000000000000)) ∷ (Num (pos 1000000000000000000)) ∷ []) ∷ ((Num (pos 1000000000000000000)) ∷ (Num (pos 2000000000000000000)) ∷ (Num (pos 2000000000000000000)) ∷ []) ∷ []) }; shapes = ((Polygons ((((p (pos 1) (pos 1)) ∷ (p (pos 2) (pos 0)) ∷ (p (pos 3) (pos 5)) ∷ (p (pos 4) (pos 3)) ∷ (p (pos 1) (pos 1)) ∷ []) ∷ []) ∷ [])) ∷ (Polygons ((((p (pos 5) (pos 3)) ∷ (p (pos 1) (pos 0)) ∷ (p (pos 1) (pos 4)) ∷ (p (pos 1) (pos 3)) ∷ (p (pos 5) (pos 3)) ∷ []) ∷ []) ∷ [])) ∷ []) }) ∷ []) ∷ ((record { name = (codes "b"); kind = kind.Point; table = record { names = ((codes "pop") ∷ []); rows = ((Null ∷ []) ∷ []) }; shapes = ((Points ((p (pos 1) (pos 3)) ∷ (p (pos 3) (pos 0)) ∷ [])) ∷ []) }) ∷ []) ∷ []) ((codes "a.json") ∷ (codes "b.json") ∷ (codes "precision=1") ∷ (codes "-filter-fields") ∷ (codes "-o") ∷ (codes "o.topojson") ∷ (codes "-split") ∷ (codes "target=*") ∷ (codes "-o") ∷ (codes "o.topojson") ∷ (codes "-o") ∷ (codes "o.topojson") ∷ []) ≡ ((((record { name = (codes "a"); kind = kind.Polygon; table = record { names = ([]); rows = (([]) ∷ ([]) ∷ []) }; shapes = ((edges ((s (p (pos 3) (pos 5)) (p (pos 3) (pos 3))) ∷ (s (p (pos 3) (pos 3)) (p (pos 4) (pos 3))) ∷ (s (p (pos 4) (pos 3)) (p (pos 3) (pos 5))) ∷ [])) ∷ (edges ((s (p (pos 1) (pos 1)) (p (pos 1) (pos 0))) ∷ (s (p (pos 1) (pos 0)) (p (pos 2) (pos 0))) ∷ (s (p (pos 1) (pos 3)) (p (pos 1) (pos 1))) ∷ (s (p (pos 3) (pos 3)) (p (pos 1) (pos 3))) ∷ (s (p (pos 2) (pos 0)) (p (pos 2) (pos 1))) ∷ (s (p (pos 2) (pos 1)) (p (pos 4) (pos 3))) ∷ (s (p (pos 4) (pos 3)) (p (pos 3) (pos 3))) ∷ [])) ∷ []) }) ∷ (record { name = (codes "b"); kind = kind.Point; table = record { names = ([]); rows = (([]) ∷ []) }; shapes = ((spots ((p (pos 1) (pos 3)) ∷ (p (pos 3) (pos 0)) ∷ [])) ∷ []) }) ∷ []) ∷ ((record { name = (codes "a-1"); kind = kind.Polygon; table = record { names = ([]); rows = (([]) ∷ []) }; shapes = ((edges ((s (p (pos 3) (pos 5)) (p (pos 3) (pos 3))) ∷ (s (p (pos 3) (pos 3)) (p (pos 4) (pos 3))) ∷ (s (p (pos 4) (pos 3)) (p (pos 3) (pos 5))) ∷ [])) ∷ []) }) ∷ (record { name = (codes "a-2"); kind = kind.Polygon; table = record { names = ([]); rows = (([]) ∷ []) }; shapes = ((edges ((s (p (pos 1) (pos 1)) (p (pos 1) (pos 0))) ∷ (s (p (pos 1) (pos 0)) (p (pos 2) (pos 0))) ∷ (s (p (pos 1) (pos 3)) (p (pos 1) (pos 1))) ∷ (s (p (pos 3) (pos 3)) (p (pos 1) (pos 3))) ∷ (s (p (pos 2) (pos 0)) (p (pos 2) (pos 1))) ∷ (s (p (pos 2) (pos 1)) (p (pos 4) (pos 3))) ∷ (s (p (pos 4) (pos 3)) (p (pos 3) (pos 3))) ∷ [])) ∷ []) }) ∷ (record { name = (codes "b-1"); kind = kind.Point; table = record { names = ([]); rows = (([]) ∷ []) }; shapes = ((spots ((p (pos 1) (pos 3)) ∷ (p (pos 3) (pos 0)) ∷ [])) ∷ []) }) ∷ []) ∷ ((record { name = (codes "a-1"); kind = kind.Polygon; table = record { names = ([]); rows = (([]) ∷ []) }; shapes = ((edges ((s (p (pos 3) (pos 5)) (p (pos 3) (pos 3))) ∷ (s (p (pos 3) (pos 3)) (p (pos 4) (pos 3))) ∷ (s (p (pos 4) (pos 3)) (p (pos 3) (pos 5))) ∷ [])) ∷ []) }) ∷ (record { name = (codes "a-2"); kind = kind.Polygon; table = record { names = ([]); rows = (([]) ∷ []) }; shapes = ((edges ((s (p (pos 1) (pos 1)) (p (pos 1) (pos 0))) ∷ (s (p (pos 1) (pos 0)) (p (pos 2) (pos 0))) ∷ (s (p (pos 1) (pos 3)) (p (pos 1) (pos 1))) ∷ (s (p (pos 3) (pos 3)) (p (pos 1) (pos 3))) ∷ (s (p (pos 2) (pos 0)) (p (pos 2) (pos 1))) ∷ (s (p (pos 2) (pos 1)) (p (pos 4) (pos 3))) ∷ (s (p (pos 4) (pos 3)) (p (pos 3) (pos 3))) ∷ [])) ∷ []) }) ∷ (record { name = (codes "b-1"); kind = kind.Point; table = record { names = ([]); rows = (([]) ∷ []) }; shapes = ((spots ((p (pos 1) (pos 3)) ∷ (p (pos 3) (pos 0)) ∷ [])) ∷ []) }) ∷ []) ∷ []), done)
unfolding numeral_of grid_of_text decimal_of_text places_of box_of_text digits decimal_text fraction_text trimmed_digits last_digits
c442 = refl

-- a.json b.json precision=1 -clip bbox=0,0,2,4 target=a -o o.topojson -o o.topojson
c443 : result (((record { name = (codes "a"); kind = kind.Polygon; table = record { names = ((codes "n") ∷ []); rows = (((Num (pos 2000000000000000000)) ∷ []) ∷ ((Text (codes "X")) ∷ []) ∷ []) }; shapes = ((Polygons ((((p (pos 2) (pos 2)) ∷ (p (pos 3) (pos 5)) ∷ (p (pos 1) (pos 0)) ∷ (p (pos 2) (pos 2)) ∷ []) ∷ []) ∷ [])) ∷ (Polygons ((((p (pos 4) (pos 3)) ∷ (p (pos 1) (pos 3)) ∷ (p (pos 0) (pos 2)) ∷ (p (pos 5) (pos 1)) ∷ (p (pos 4) (pos 3)) ∷ []) ∷ []) ∷ [])) ∷ []) }) ∷ []) ∷ ((record { name = (codes "b"); kind = kind.Line; table = record { names = ((codes "pop") ∷ (codes "n") ∷ (codes "st") ∷ []); rows = (((Num (pos 0)) ∷ (Num (pos 2000000000000000000)) ∷ (Num (pos 2000000000000000000)) ∷ []) ∷ ((Num (pos 3000000000000000000)) ∷ (Num (pos 2000000000000000000)) ∷ (Num (pos 2000000000000000000)) ∷ []) ∷ []) }; shapes = ((Lines (((p (pos 0) (pos 0)) ∷ (p (pos 3) (pos 0)) ∷ []) ∷ ((p (pos 0) (pos 2)) ∷ (p (pos 2) (pos 3)) ∷ []) ∷ [])) ∷ Nothing ∷ []) }) ∷ []) ∷ []) ((codes "a.json") ∷ (codes "b.json") ∷ (codes "precision=1") ∷ (codes "-clip") ∷ (codes "bbox=0,0,2,4") ∷ (codes "target=a") ∷ (codes "-o") ∷ (codes "o.topojson") ∷ (codes "-o") ∷ (codes "o.topojson") ∷ []) ≡ ((((record { name = (codes "a"); kind = kind.Polygon; table = record { names = ((codes "n") ∷ []); rows = (((Text (codes "X")) ∷ []) ∷ []) }; shapes = ((edges ((s (p (pos 1) (pos 3)) (p (pos 0) (pos 2))) ∷ (s (p (pos 0) (pos 2)) (p (pos 2) (pos 2))) ∷ (s (p (pos 2) (pos 3)) (p (pos 1) (pos 3))) ∷ (s (p (pos 2) (pos 2)) (p (pos 2) (pos 3))) ∷ [])) ∷ []) }) ∷ []) ∷ ((record { name = (codes "a"); kind = kind.Polygon; table = record { names = ((codes "n") ∷ []); rows = (((Text (codes "X")) ∷ []) ∷ []) }; shapes = ((edges ((s (p (pos 1) (pos 3)) (p (pos 0) (pos 2))) ∷ (s (p (pos 0) (pos 2)) (p (pos 2) (pos 2))) ∷ (s (p (pos 2) (pos 3)) (p (pos 1) (pos 3))) ∷ (s (p (pos 2) (pos 2)) (p (pos 2) (pos 3))) ∷ [])) ∷ []) }) ∷ []) ∷ []), done)
unfolding numeral_of grid_of_text decimal_of_text places_of box_of_text digits decimal_text fraction_text trimmed_digits last_digits
c443 = refl

-- a.json b.json precision=1 -innerlines target=* -o o.topojson -innerlines name=w -o o.topojson
c444 : result (((record { name = (codes "a"); kind = kind.Polygon; table = record { names = ((codes "st") ∷ (codes "pop") ∷ (codes "n") ∷ []); rows = (((Num (pos 2000000000000000000)) ∷ (Num (pos 2000000000000000000)) ∷ (Num (pos 1000000000000000000)) ∷ []) ∷ ((Num (pos 2000000000000000000)) ∷ Null ∷ (Text (codes "Y")) ∷ []) ∷ []) }; shapes = ((Polygons ((((p (pos 0) (pos 0)) ∷ (p (pos 0) (pos 5)) ∷ (p (pos 5) (pos 4)) ∷ (p (pos 0) (pos 0)) ∷ []) ∷ []) ∷ [])) ∷ Nothing ∷ []) }) ∷ []) ∷ ((record { name = (codes "b"); kind = kind.Polygon; table = record { names = ((codes "pop") ∷ []); rows = ((Null ∷ []) ∷ ((Num (pos 0)) ∷ []) ∷ []) }; shapes = ((Polygons ((((p (pos 2) (pos 0)) ∷ (p (pos 4) (pos 3)) ∷ (p (pos 2) (pos 1)) ∷ (p (pos 2) (pos 0)) ∷ []) ∷ []) ∷ [])) ∷ (Polygons ((((p (pos 4) (pos 5)) ∷ (p (pos 0) (pos 1)) ∷ (p (pos 3) (pos 0)) ∷ (p (pos 4) (pos 5)) ∷ []) ∷ []) ∷ [])) ∷ []) }) ∷ []) ∷ []) ((codes "a.json") ∷ (codes "b.json") ∷ (codes "precision=1") ∷ (codes "-innerlines") ∷ (codes "target=*") ∷ (codes "-o") ∷ (codes "o.topojson") ∷ (codes "-innerlines") ∷ (codes "name=w") ∷ (codes "-o") ∷ (codes "o.topojson") ∷ []) ≡ ((((record { name = (codes "a"); kind = kind.Line; table = record { names = ([]); rows = ([]) }; shapes = ([]) }) ∷ (record { name = (codes "b"); kind = kind.Line; table = record { names = ([]); rows = ([]) }; shapes = ([]) }) ∷ []) ∷ []), refused 3 wrong_kind)
unfolding numeral_of grid_of_text decimal_of_text places_of box_of_text digits decimal_text fraction_text trimmed_digits last_digits
c444 = refl

-- a.json b.json precision=1 -filter remove-empty target=* -innerlines -innerlines target=* -o o.topojson
c445 : result (((record { name = (codes "a"); kind = kind.Polygon; table = record { names = ((codes "pop") ∷ (codes "n") ∷ (codes "st") ∷ []); rows = (((Num (pos 1000000000000000000)) ∷ (Text (codes "X")) ∷ (Num (pos 1000000000000000000)) ∷ []) ∷ ((Num (pos 0)) ∷ Null ∷ (Text (codes "X")) ∷ []) ∷ []) }; shapes = ((Polygons ((((p (pos 3) (pos 2)) ∷ (p (pos 4) (pos 4)) ∷ (p (pos 4) (pos 5)) ∷ (p (pos 3) (pos 4)) ∷ (p (pos 3) (pos 2)) ∷ []) ∷ []) ∷ [])) ∷ (Polygons ((((p (pos 0) (pos 0)) ∷ (p (pos 4) (pos 0)) ∷ (p (pos 1) (pos 2)) ∷ (p (pos 1) (pos 5)) ∷ (p (pos 0) (pos 0)) ∷ []) ∷ []) ∷ [])) ∷ []) }) ∷ []) ∷ ((record { name = (codes "b"); kind = kind.Line; table = record { names = ((codes "pop") ∷ (codes "n") ∷ (codes "st") ∷ []); rows = (((Num (pos 3000000000000000000)) ∷ (Num (pos 1000000000000000000)) ∷ Null ∷ []) ∷ ((Num (pos 3000000000000000000)) ∷ (Text (codes "X")) ∷ (Num (pos 2000000000000000000)) ∷ []) ∷ ((Num (pos 1000000000000000000)) ∷ (Text (codes "X")) ∷ (Num (pos 1000000000000000000)) ∷ []) ∷ []) }; shapes = ((Lines (((p (pos 2) (pos 5)) ∷ (p (pos 0) (pos 2)) ∷ (p (pos 2) (pos 3)) ∷ []) ∷ [])) ∷ (Lines (((p (pos 2) (pos 4)) ∷ (p (pos 2) (pos 2)) ∷ (p (pos 1) (pos 0)) ∷ []) ∷ ((p (pos 2) (pos 0)) ∷ (p (pos 2) (pos 0)) ∷ (p (pos 3) (pos 0)) ∷ []) ∷ [])) ∷ (Lines (((p (pos 2) (pos 3)) ∷ (p (pos 3) (pos 4)) ∷ (p (pos 2) (pos 2)) ∷ []) ∷ [])) ∷ []) }) ∷ []) ∷ []) ((codes "a.json") ∷ (codes "b.json") ∷ (codes "precision=1") ∷ (codes "-filter") ∷ (codes "remove-empty") ∷ (codes "target=*") ∷ (codes "-innerlines") ∷ (codes "-innerlines") ∷ (codes "target=*") ∷ (codes "-o") ∷ (codes "o.topojson") ∷ []) ≡ (([]), refused 2 wrong_kind)
unfolding numeral_of grid_of_text decimal_of_text places_of box_of_text digits decimal_text fraction_text trimmed_digits last_digits
c445 = refl

-- a.json b.json precision=1 -rename-fields a=pop target=* -filter remove-empty target=b -o o.topojson -o o.topojson
c446 : result (((record { name = (codes "a"); kind = kind.Polygon; table = record { names = ((codes "st") ∷ (codes "pop") ∷ []); rows = (((Text (codes "Y")) ∷ (Num (pos 0)) ∷ []) ∷ ((Num (pos 1000000000000000000)) ∷ (Num (pos 1000000000000000000)) ∷ []) ∷ []) }; shapes = ((Polygons ((((p (pos 3) (pos 0)) ∷ (p (pos 2) (pos 2)) ∷ (p (pos 2) (pos 1)) ∷ (p (pos 2) (pos 3)) ∷ (p (pos 3) (pos 0)) ∷ []) ∷ []) ∷ [])) ∷ (Polygons ((((p (pos 0) (pos 1)) ∷ (p (pos 1) (pos 3)) ∷ (p (pos 2) (pos 2)) ∷ (p (pos 4) (pos 1)) ∷ (p (pos 0) (pos 1)) ∷ []) ∷ []) ∷ [])) ∷ []) }) ∷ []) ∷ ((record { name = (codes "b"); kind = kind.Polygon; table = record { names = ([]); rows = (([]) ∷ ([]) ∷ ([]) ∷ []) }; shapes = ((Polygons ((((p (pos 3) (pos 4)) ∷ (p (pos 5) (pos 2)) ∷ (p (pos 0) (pos 3)) ∷ (p (pos 3) (pos 4)) ∷ []) ∷ []) ∷ [])) ∷ (Polygons ((((p (pos 0) (pos 3)) ∷ (p (pos 1) (pos 3)) ∷ (p (pos 0) (pos 2)) ∷ (p (pos 5) (pos 1)) ∷ (p (pos 0) (pos 3)) ∷ []) ∷ []) ∷ [])) ∷ (Polygons ((((p (pos 0) (pos 1)) ∷ (p (pos 3) (pos 3)) ∷ (p (pos 3) (pos 5)) ∷ (p (pos 0) (pos 1)) ∷ []) ∷ []) ∷ [])) ∷ []) }) ∷ []) ∷ []) ((codes "a.json") ∷ (codes "b.json") ∷ (codes "precision=1") ∷ (codes "-rename-fields") ∷ (codes "a=pop") ∷ (codes "target=*") ∷ (codes "-filter") ∷ (codes "remove-empty") ∷ (codes "target=b") ∷ (codes "-o") ∷ (codes "o.topojson") ∷ (codes "-o") ∷ (codes "o.topojson") ∷ []) ≡ (([]), refused 1 (in_table (NoField 0)))
unfolding numeral_of grid_of_text decimal_of_text places_of box_of_text digits decimal_text fraction_text trimmed_digits last_digits
c446 = refl

-- a.json b.json precision=1 -merge-layers -o o.topojson -merge-layers force + -o o.topojson -o o.topojson
c447 : result (((record { name = (codes "a"); kind = kind.Polygon; table = record { names = ((codes "pop") ∷ (codes "st") ∷ (codes "n") ∷ []); rows = ((Null ∷ Null ∷ Null ∷ []) ∷ []) }; shapes = ((Polygons ((((p (pos 1) (pos 0)) ∷ (p (pos 5) (pos 2)) ∷ (p (pos 5) (pos 0)) ∷ (p (pos 4) (pos 1)) ∷ (p (pos 1) (pos 0)) ∷ []) ∷ []) ∷ [])) ∷ []) }) ∷ []) ∷ ((record { name = (codes "b"); kind = kind.Polygon; table = record { names = ((codes "pop") ∷ (codes "st") ∷ (codes "n") ∷ []); rows = ((Null ∷ Null ∷ (Num (pos 2000000000000000000)) ∷ []) ∷ ((Num (pos 3000000000000000000)) ∷ (Text (codes "X")) ∷ (Num (pos 1000000000000000000)) ∷ []) ∷ []) }; shapes = ((Polygons ((((p (pos 5) (pos 0)) ∷ (p (pos 5) (pos 0)) ∷ (p (pos 2) (pos 2)) ∷ (p (pos 5) (pos 0)) ∷ []) ∷ []) ∷ [])) ∷ (Polygons ((((p (pos 3) (pos 2)) ∷ (p (pos 4) (pos 0)) ∷ (p (pos 1) (pos 2)) ∷ (p (pos 2) (pos 1)) ∷ (p (pos 3) (pos 2)) ∷ []) ∷ []) ∷ [])) ∷ []) }) ∷ []) ∷ []) ((codes "a.json") ∷ (codes "b.json") ∷ (codes "precision=1") ∷ (codes "-merge-layers") ∷ (codes "-o") ∷ (codes "o.topojson") ∷ (codes "-merge-layers") ∷ (codes "force") ∷ (codes "+") ∷ (codes "-o") ∷ (codes "o.topojson") ∷ (codes "-o") ∷ (codes "o.topojson") ∷ []) ≡ ((((record { name = (codes "a"); kind = kind.Polygon; table = record { names = ((codes "pop") ∷ (codes "st") ∷ (codes "n") ∷ []); rows = ((Null ∷ Null ∷ Null ∷ []) ∷ (Null ∷ Null ∷ (Num (pos 2000000000000000000)) ∷ []) ∷ ((Num (pos 3000000000000000000)) ∷ (Text (codes "X")) ∷ (Num (pos 1000000000000000000)) ∷ []) ∷ []) }; shapes = ((edges ((s (p (pos 2) (pos 1)) (p (pos 1) (pos 0))) ∷ (s (p (pos 1) (pos 0)) (p (pos 3) (pos 1))) ∷ (s (p (pos 3) (pos 1)) (p (pos 2) (pos 1))) ∷ (s (p (pos 4) (pos 1)) (p (pos 5) (pos 0))) ∷ (s (p (pos 5) (pos 2)) (p (pos 4) (pos 1))) ∷ (s (p (pos 5) (pos 0)) (p (pos 5) (pos 2))) ∷ [])) ∷ (edges ([])) ∷ (edges ((s (p (pos 2) (pos 1)) (p (pos 3) (pos 1))) ∷ (s (p (pos 3) (pos 2)) (p (pos 2) (pos 1))) ∷ (s (p (pos 3) (pos 1)) (p (pos 3) (pos 2))) ∷ (s (p (pos 3) (pos 1)) (p (pos 4) (pos 0))) ∷ (s (p (pos 4) (pos 1)) (p (pos 3) (pos 1))) ∷ (s (p (pos 4) (pos 0)) (p (pos 4) (pos 1))) ∷ [])) ∷ []) }) ∷ []) ∷ ((record { name = (codes "a"); kind = kind.Polygon; table = record { names = ((codes "pop") ∷ (codes "st") ∷ (codes "n") ∷ []); rows = ((Null ∷ Null ∷ Null ∷ []) ∷ (Null ∷ Null ∷ (Num (pos 2000000000000000000)) ∷ []) ∷ ((Num (pos 3000000000000000000)) ∷ (Text (codes "X")) ∷ (Num (pos 1000000000000000000)) ∷ []) ∷ []) }; shapes = ((edges ((s (p (pos 2) (pos 1)) (p (pos 1) (pos 0))) ∷ (s (p (pos 1) (pos 0)) (p (pos 3) (pos 1))) ∷ (s (p (pos 3) (pos 1)) (p (pos 2) (pos 1))) ∷ (s (p (pos 4) (pos 1)) (p (pos 5) (pos 0))) ∷ (s (p (pos 5) (pos 2)) (p (pos 4) (pos 1))) ∷ (s (p (pos 5) (pos 0)) (p (pos 5) (pos 2))) ∷ [])) ∷ (edges ([])) ∷ (edges ((s (p (pos 2) (pos 1)) (p (pos 3) (pos 1))) ∷ (s (p (pos 3) (pos 2)) (p (pos 2) (pos 1))) ∷ (s (p (pos 3) (pos 1)) (p (pos 3) (pos 2))) ∷ (s (p (pos 3) (pos 1)) (p (pos 4) (pos 0))) ∷ (s (p (pos 4) (pos 1)) (p (pos 3) (pos 1))) ∷ (s (p (pos 4) (pos 0)) (p (pos 4) (pos 1))) ∷ [])) ∷ []) }) ∷ []) ∷ ((record { name = (codes "a"); kind = kind.Polygon; table = record { names = ((codes "pop") ∷ (codes "st") ∷ (codes "n") ∷ []); rows = ((Null ∷ Null ∷ Null ∷ []) ∷ (Null ∷ Null ∷ (Num (pos 2000000000000000000)) ∷ []) ∷ ((Num (pos 3000000000000000000)) ∷ (Text (codes "X")) ∷ (Num (pos 1000000000000000000)) ∷ []) ∷ []) }; shapes = ((edges ((s (p (pos 2) (pos 1)) (p (pos 1) (pos 0))) ∷ (s (p (pos 1) (pos 0)) (p (pos 3) (pos 1))) ∷ (s (p (pos 3) (pos 1)) (p (pos 2) (pos 1))) ∷ (s (p (pos 4) (pos 1)) (p (pos 5) (pos 0))) ∷ (s (p (pos 5) (pos 2)) (p (pos 4) (pos 1))) ∷ (s (p (pos 5) (pos 0)) (p (pos 5) (pos 2))) ∷ [])) ∷ (edges ([])) ∷ (edges ((s (p (pos 2) (pos 1)) (p (pos 3) (pos 1))) ∷ (s (p (pos 3) (pos 2)) (p (pos 2) (pos 1))) ∷ (s (p (pos 3) (pos 1)) (p (pos 3) (pos 2))) ∷ (s (p (pos 3) (pos 1)) (p (pos 4) (pos 0))) ∷ (s (p (pos 4) (pos 1)) (p (pos 3) (pos 1))) ∷ (s (p (pos 4) (pos 0)) (p (pos 4) (pos 1))) ∷ [])) ∷ []) }) ∷ []) ∷ []), done)
unfolding numeral_of grid_of_text decimal_of_text places_of box_of_text digits decimal_text fraction_text trimmed_digits last_digits
c447 = refl

-- a.json b.json precision=1 -dissolve group-points sum-fields=pop copy-fields=n + -o o.topojson -o o.topojson
c448 : result (((record { name = (codes "a"); kind = kind.Polygon; table = record { names = ((codes "st") ∷ (codes "pop") ∷ (codes "n") ∷ []); rows = (((Text (codes "X")) ∷ (Num (pos 3000000000000000000)) ∷ (Num (pos 2000000000000000000)) ∷ []) ∷ []) }; shapes = ((Polygons ((((p (pos 4) (pos 1)) ∷ (p (pos 0) (pos 2)) ∷ (p (pos 4) (pos 2)) ∷ (p (pos 1) (pos 2)) ∷ (p (pos 4) (pos 1)) ∷ []) ∷ []) ∷ [])) ∷ []) }) ∷ []) ∷ ((record { name = (codes "b"); kind = kind.Polygon; table = record { names = ((codes "n") ∷ (codes "pop") ∷ (codes "st") ∷ []); rows = ((Null ∷ (Num (pos 0)) ∷ (Num (pos 1000000000000000000)) ∷ []) ∷ (Null ∷ Null ∷ (Num (pos 2000000000000000000)) ∷ []) ∷ []) }; shapes = ((Polygons ((((p (pos 1) (pos 0)) ∷ (p (pos 0) (pos 0)) ∷ (p (pos 0) (pos 3)) ∷ (p (pos 1) (pos 0)) ∷ []) ∷ []) ∷ [])) ∷ (Polygons ((((p (pos 1) (pos 1)) ∷ (p (pos 2) (pos 3)) ∷ (p (pos 3) (pos 0)) ∷ (p (pos 1) (pos 1)) ∷ []) ∷ []) ∷ [])) ∷ []) }) ∷ []) ∷ []) ((codes "a.json") ∷ (codes "b.json") ∷ (codes "precision=1") ∷ (codes "-dissolve") ∷ (codes "group-points") ∷ (codes "sum-fields=pop") ∷ (codes "copy-fields=n") ∷ (codes "+") ∷ (codes "-o") ∷ (codes "o.topojson") ∷ (codes "-o") ∷ (codes "o.topojson") ∷ []) ≡ ((((record { name = (codes "a"); kind = kind.Polygon; table = record { names = ((codes "n") ∷ (codes "pop") ∷ []); rows = (((Num (pos 2000000000000000000)) ∷ (Num (pos 3000000000000000000)) ∷ []) ∷ []) }; shapes = ((edges ((s (p (pos 2) (pos 2)) (p (pos 3) (pos 1))) ∷ (s (p (pos 3) (pos 2)) (p (pos 2) (pos 2))) ∷ (s (p (pos 3) (pos 1)) (p (pos 3) (pos 2))) ∷ [])) ∷ []) }) ∷ (record { name = (codes "b"); kind = kind.Polygon; table = record { names = ((codes "n") ∷ (codes "pop") ∷ []); rows = ((Null ∷ (Num (pos 0)) ∷ []) ∷ []) }; shapes = ((edges ((s (p (pos 0) (pos 2)) (p (pos 0) (pos 0))) ∷ (s (p (pos 0) (pos 0)) (p (pos 1) (pos 0))) ∷ (s (p (pos 1) (pos 2)) (p (pos 0) (pos 2))) ∷ (s (p (pos 1) (pos 0)) (p (pos 1) (pos 1))) ∷ (s (p (pos 1) (pos 1)) (p (pos 3) (pos 0))) ∷ (s (p (pos 2) (pos 2)) (p (pos 1) (pos 2))) ∷ (s (p (pos 3) (pos 2)) (p (pos 2) (pos 2))) ∷ (s (p (pos 3) (pos 0)) (p (pos 3) (pos 1))) ∷ (s (p (pos 3) (pos 1)) (p (pos 3) (pos 2))) ∷ [])) ∷ []) }) ∷ []) ∷ ((record { name = (codes "a"); kind = kind.Polygon; table = record { names = ((codes "n") ∷ (codes "pop") ∷ []); rows = (((Num (pos 2000000000000000000)) ∷ (Num (pos 3000000000000000000)) ∷ []) ∷ []) }; shapes = ((edges ((s (p (pos 2) (pos 2)) (p (pos 3) (pos 1))) ∷ (s (p (pos 3) (pos 2)) (p (pos 2) (pos 2))) ∷ (s (p (pos 3) (pos 1)) (p (pos 3) (pos 2))) ∷ [])) ∷ []) }) ∷ (record { name = (codes "b"); kind = kind.Polygon; table = record { names = ((codes "n") ∷ (codes "pop") ∷ []); rows = ((Null ∷ (Num (pos 0)) ∷ []) ∷ []) }; shapes = ((edges ((s (p (pos 0) (pos 2)) (p (pos 0) (pos 0))) ∷ (s (p (pos 0) (pos 0)) (p (pos 1) (pos 0))) ∷ (s (p (pos 1) (pos 2)) (p (pos 0) (pos 2))) ∷ (s (p (pos 1) (pos 0)) (p (pos 1) (pos 1))) ∷ (s (p (pos 1) (pos 1)) (p (pos 3) (pos 0))) ∷ (s (p (pos 2) (pos 2)) (p (pos 1) (pos 2))) ∷ (s (p (pos 3) (pos 2)) (p (pos 2) (pos 2))) ∷ (s (p (pos 3) (pos 0)) (p (pos 3) (pos 1))) ∷ (s (p (pos 3) (pos 1)) (p (pos 3) (pos 2))) ∷ [])) ∷ []) }) ∷ []) ∷ []), done)
unfolding numeral_of grid_of_text decimal_of_text places_of box_of_text digits decimal_text fraction_text trimmed_digits last_digits
c448 = refl

-- a.json b.json precision=1 -join b keys=st,st -o o.topojson -split -o o.topojson -o o.topojson
c449 : result (((record { name = (codes "a"); kind = kind.Line; table = record { names = ((codes "st") ∷ (codes "pop") ∷ (codes "n") ∷ []); rows = (((Text (codes "X")) ∷ (Num (pos 0)) ∷ (Num (pos 2000000000000000000)) ∷ []) ∷ ((Text (codes "X")) ∷ Null ∷ Null ∷ []) ∷ []) }; shapes = ((Lines (((p (pos 2) (pos 1)) ∷ (p (pos 3) (pos 2)) ∷ (p (pos 0) (pos 3)) ∷ []) ∷ [])) ∷ (Lines (((p (pos 0) (pos 3)) ∷ (p (pos 0) (pos 1)) ∷ []) ∷ ((p (pos 2) (pos 2)) ∷ (p (pos 3) (pos 3)) ∷ []) ∷ [])) ∷ []) }) ∷ []) ∷ ((record { name = (codes "b"); kind = kind.Line; table = record { names = ((codes "st") ∷ []); rows = ((Null ∷ []) ∷ ((Num (pos 1000000000000000000)) ∷ []) ∷ []) }; shapes = ((Lines (((p (pos 0) (pos 4)) ∷ (p (pos 3) (pos 4)) ∷ []) ∷ [])) ∷ (Lines (((p (pos 4) (pos 5)) ∷ (p (pos 2) (pos 0)) ∷ []) ∷ ((p (pos 0) (pos 2)) ∷ (p (pos 2) (pos 5)) ∷ (p (pos 3) (pos 1)) ∷ []) ∷ [])) ∷ []) }) ∷ []) ∷ []) ((codes "a.json") ∷ (codes "b.json") ∷ (codes "precision=1") ∷ (codes "-join") ∷ (codes "b") ∷ (codes "keys=st,st") ∷ (codes "-o") ∷ (codes "o.topojson") ∷ (codes "-split") ∷ (codes "-o") ∷ (codes "o.topojson") ∷ (codes "-o") ∷ (codes "o.topojson") ∷ []) ≡ ((((record { name = (codes "a"); kind = kind.Line; table = record { names = ((codes "st") ∷ (codes "pop") ∷ (codes "n") ∷ []); rows = (((Text (codes "X")) ∷ (Num (pos 0)) ∷ (Num (pos 2000000000000000000)) ∷ []) ∷ ((Text (codes "X")) ∷ Null ∷ Null ∷ []) ∷ []) }; shapes = ((ways (((p (pos 2) (pos 1)) ∷ (p (pos 3) (pos 2)) ∷ (p (pos 2) (pos 2)) ∷ (p (pos 1) (pos 3)) ∷ (p (pos 0) (pos 3)) ∷ []) ∷ [])) ∷ (ways (((p (pos 0) (pos 3)) ∷ (p (pos 0) (pos 2)) ∷ (p (pos 0) (pos 1)) ∷ []) ∷ ((p (pos 2) (pos 2)) ∷ (p (pos 3) (pos 3)) ∷ []) ∷ [])) ∷ []) }) ∷ (record { name = (codes "b"); kind = kind.Line; table = record { names = ((codes "st") ∷ []); rows = ((Null ∷ []) ∷ ((Num (pos 1000000000000000000)) ∷ []) ∷ []) }; shapes = ((ways (((p (pos 0) (pos 4)) ∷ (p (pos 1) (pos 4)) ∷ (p (pos 2) (pos 4)) ∷ (p (pos 3) (pos 4)) ∷ []) ∷ [])) ∷ (ways (((p (pos 4) (pos 5)) ∷ (p (pos 3) (pos 4)) ∷ (p (pos 3) (pos 3)) ∷ (p (pos 3) (pos 2)) ∷ (p (pos 3) (pos 1)) ∷ (p (pos 2) (pos 1)) ∷ (p (pos 2) (pos 0)) ∷ []) ∷ ((p (pos 0) (pos 2)) ∷ (p (pos 0) (pos 3)) ∷ (p (pos 1) (pos 3)) ∷ (p (pos 1) (pos 4)) ∷ (p (pos 2) (pos 4)) ∷ (p (pos 2) (pos 5)) ∷ (p (pos 2) (pos 4)) ∷ (p (pos 3) (pos 3)) ∷ (p (pos 3) (pos 2)) ∷ (p (pos 3) (pos 1)) ∷ []) ∷ [])) ∷ []) }) ∷ []) ∷ ((record { name = (codes "a-1"); kind = kind.Line; table = record { names = ((codes "st") ∷ (codes "pop") ∷ (codes "n") ∷ []); rows = (((Text (codes "X")) ∷ (Num (pos 0)) ∷ (Num (pos 2000000000000000000)) ∷ []) ∷ []) }; shapes = ((ways (((p (pos 2) (pos 1)) ∷ (p (pos 3) (pos 2)) ∷ (p (pos 2) (pos 2)) ∷ (p (pos 1) (pos 3)) ∷ (p (pos 0) (pos 3)) ∷ []) ∷ [])) ∷ []) }) ∷ (record { name = (codes "a-2"); kind = kind.Line; table = record { names = ((codes "st") ∷ (codes "pop") ∷ (codes "n") ∷ []); rows = (((Text (codes "X")) ∷ Null ∷ Null ∷ []) ∷ []) }; shapes = ((ways (((p (pos 0) (pos 3)) ∷ (p (pos 0) (pos 2)) ∷ (p (pos 0) (pos 1)) ∷ []) ∷ ((p (pos 2) (pos 2)) ∷ (p (pos 3) (pos 3)) ∷ []) ∷ [])) ∷ []) }) ∷ (record { name = (codes "b-1"); kind = kind.Line; table = record { names = ((codes "st") ∷ []); rows = ((Null ∷ []) ∷ []) }; shapes = ((ways (((p (pos 0) (pos 4)) ∷ (p (pos 1) (pos 4)) ∷ (p (pos 2) (pos 4)) ∷ (p (pos 3) (pos 4)) ∷ []) ∷ [])) ∷ []) }) ∷ (record { name = (codes "b-2"); kind = kind.Line; table = record { names = ((codes "st") ∷ []); rows = (((Num (pos 1000000000000000000)) ∷ []) ∷ []) }; shapes = ((ways (((p (pos 4) (pos 5)) ∷ (p (pos 3) (pos 4)) ∷ (p (pos 3) (pos 3)) ∷ (p (pos 3) (pos 2)) ∷ (p (pos 3) (pos 1)) ∷ (p (pos 2) (pos 1)) ∷ (p (pos 2) (pos 0)) ∷ []) ∷ ((p (pos 0) (pos 2)) ∷ (p (pos 0) (pos 3)) ∷ (p (pos 1) (pos 3)) ∷ (p (pos 1) (pos 4)) ∷ (p (pos 2) (pos 4)) ∷ (p (pos 2) (pos 5)) ∷ (p (pos 2) (pos 4)) ∷ (p (pos 3) (pos 3)) ∷ (p (pos 3) (pos 2)) ∷ (p (pos 3) (pos 1)) ∷ []) ∷ [])) ∷ []) }) ∷ []) ∷ ((record { name = (codes "a-1"); kind = kind.Line; table = record { names = ((codes "st") ∷ (codes "pop") ∷ (codes "n") ∷ []); rows = (((Text (codes "X")) ∷ (Num (pos 0)) ∷ (Num (pos 2000000000000000000)) ∷ []) ∷ []) }; shapes = ((ways (((p (pos 2) (pos 1)) ∷ (p (pos 3) (pos 2)) ∷ (p (pos 2) (pos 2)) ∷ (p (pos 1) (pos 3)) ∷ (p (pos 0) (pos 3)) ∷ []) ∷ [])) ∷ []) }) ∷ (record { name = (codes "a-2"); kind = kind.Line; table = record { names = ((codes "st") ∷ (codes "pop") ∷ (codes "n") ∷ []); rows = (((Text (codes "X")) ∷ Null ∷ Null ∷ []) ∷ []) }; shapes = ((ways (((p (pos 0) (pos 3)) ∷ (p (pos 0) (pos 2)) ∷ (p (pos 0) (pos 1)) ∷ []) ∷ ((p (pos 2) (pos 2)) ∷ (p (pos 3) (pos 3)) ∷ []) ∷ [])) ∷ []) }) ∷ (record { name = (codes "b-1"); kind = kind.Line; table = record { names = ((codes "st") ∷ []); rows = ((Null ∷ []) ∷ []) }; shapes = ((ways (((p (pos 0) (pos 4)) ∷ (p (pos 1) (pos 4)) ∷ (p (pos 2) (pos 4)) ∷ (p (pos 3) (pos 4)) ∷ []) ∷ [])) ∷ []) }) ∷ (record { name = (codes "b-2"); kind = kind.Line; table = record { names = ((codes "st") ∷ []); rows = (((Num (pos 1000000000000000000)) ∷ []) ∷ []) }; shapes = ((ways (((p (pos 4) (pos 5)) ∷ (p (pos 3) (pos 4)) ∷ (p (pos 3) (pos 3)) ∷ (p (pos 3) (pos 2)) ∷ (p (pos 3) (pos 1)) ∷ (p (pos 2) (pos 1)) ∷ (p (pos 2) (pos 0)) ∷ []) ∷ ((p (pos 0) (pos 2)) ∷ (p (pos 0) (pos 3)) ∷ (p (pos 1) (pos 3)) ∷ (p (pos 1) (pos 4)) ∷ (p (pos 2) (pos 4)) ∷ (p (pos 2) (pos 5)) ∷ (p (pos 2) (pos 4)) ∷ (p (pos 3) (pos 3)) ∷ (p (pos 3) (pos 2)) ∷ (p (pos 3) (pos 1)) ∷ []) ∷ [])) ∷ []) }) ∷ []) ∷ []), done)
unfolding numeral_of grid_of_text decimal_of_text places_of box_of_text digits decimal_text fraction_text trimmed_digits last_digits
c449 = refl

-- a.json b.json precision=1 -filter-fields target=a -o o.topojson
c450 : result (((record { name = (codes "a"); kind = kind.Line; table = record { names = ((codes "n") ∷ (codes "st") ∷ (codes "pop") ∷ []); rows = (((Num (pos 2000000000000000000)) ∷ (Num (pos 2000000000000000000)) ∷ (Num (pos 0)) ∷ []) ∷ ((Num (pos 2000000000000000000)) ∷ (Num (pos 2000000000000000000)) ∷ (Num (pos 0)) ∷ []) ∷ ((Num (pos 2000000000000000000)) ∷ (Num (pos 1000000000000000000)) ∷ (Num (pos 2000000000000000000)) ∷ []) ∷ []) }; shapes = ((Lines (((p (pos 0) (pos 2)) ∷ (p (pos 1) (pos 2)) ∷ []) ∷ ((p (pos 0) (pos 2)) ∷ (p (pos 2) (pos 1)) ∷ []) ∷ [])) ∷ (Lines (((p (pos 4) (pos 0)) ∷ (p (pos 3) (pos 1)) ∷ (p (pos 0) (pos 1)) ∷ []) ∷ [])) ∷ Nothing ∷ []) }) ∷ []) ∷ ((record { name = (codes "b"); kind = kind.Line; table = record { names = ((codes "n") ∷ []); rows = ((Null ∷ []) ∷ (Null ∷ []) ∷ []) }; shapes = ((Lines (((p (pos 4) (pos 3)) ∷ (p (pos 0) (pos 4)) ∷ []) ∷ [])) ∷ (Lines (((p (pos 0) (pos 0)) ∷ (p (pos 4) (pos 2)) ∷ (p (pos 2) (pos 3)) ∷ []) ∷ ((p (pos 1) (pos 4)) ∷ (p (pos 2) (pos 1)) ∷ (p (pos 0) (pos 3)) ∷ []) ∷ [])) ∷ []) }) ∷ []) ∷ []) ((codes "a.json") ∷ (codes "b.json") ∷ (codes "precision=1") ∷ (codes "-filter-fields") ∷ (codes "target=a") ∷ (codes "-o") ∷ (codes "o.topojson") ∷ []) ≡ ((((record { name = (codes "a"); kind = kind.Line; table = record { names = ([]); rows = (([]) ∷ ([]) ∷ ([]) ∷ []) }; shapes = ((ways (((p (pos 0) (pos 2)) ∷ (p (pos 1) (pos 2)) ∷ []) ∷ ((p (pos 0) (pos 2)) ∷ (p (pos 1) (pos 2)) ∷ (p (pos 2) (pos 1)) ∷ []) ∷ [])) ∷ (ways (((p (pos 4) (pos 0)) ∷ (p (pos 3) (pos 1)) ∷ (p (pos 2) (pos 1)) ∷ (p (pos 0) (pos 1)) ∷ []) ∷ [])) ∷ (ways ([])) ∷ []) }) ∷ []) ∷ []), done)
unfolding numeral_of grid_of_text decimal_of_text places_of box_of_text digits decimal_text fraction_text trimmed_digits last_digits
c450 = refl

-- a.json b.json precision=1 -split st -o o.topojson -o o.topojson
c451 : result (((record { name = (codes "a"); kind = kind.Polygon; table = record { names = ((codes "pop") ∷ []); rows = (((Num (pos 1000000000000000000)) ∷ []) ∷ []) }; shapes = ((Polygons ((((p (pos 3) (pos 0)) ∷ (p (pos 3) (pos 1)) ∷ (p (pos 1) (pos 3)) ∷ (p (pos 3) (pos 1)) ∷ (p (pos 3) (pos 0)) ∷ []) ∷ []) ∷ [])) ∷ []) }) ∷ []) ∷ ((record { name = (codes "b"); kind = kind.Polygon; table = record { names = ((codes "n") ∷ (codes "pop") ∷ []); rows = (((Text (codes "X")) ∷ Null ∷ []) ∷ ((Text (codes "Y")) ∷ (Num (pos 0)) ∷ []) ∷ ((Num (pos 1000000000000000000)) ∷ (Num (pos 3000000000000000000)) ∷ []) ∷ []) }; shapes = ((Polygons ((((p (pos 4) (pos 1)) ∷ (p (pos 4) (pos 3)) ∷ (p (pos 1) (pos 2)) ∷ (p (pos 4) (pos 1)) ∷ []) ∷ []) ∷ [])) ∷ (Polygons ((((p (pos 1) (pos 2)) ∷ (p (pos 0) (pos 2)) ∷ (p (pos 3) (pos 2)) ∷ (p (pos 1) (pos 2)) ∷ []) ∷ []) ∷ [])) ∷ (Polygons ((((p (pos 4) (pos 0)) ∷ (p (pos 0) (pos 3)) ∷ (p (pos 1) (pos 2)) ∷ (p (pos 1) (pos 2)) ∷ (p (pos 4) (pos 0)) ∷ []) ∷ []) ∷ [])) ∷ []) }) ∷ []) ∷ []) ((codes "a.json") ∷ (codes "b.json") ∷ (codes "precision=1") ∷ (codes "-split") ∷ (codes "st") ∷ (codes "-o") ∷ (codes "o.topojson") ∷ (codes "-o") ∷ (codes "o.topojson") ∷ []) ≡ (([]), refused 1 (in_table (NoField 0)))
unfolding numeral_of grid_of_text decimal_of_text places_of box_of_text digits decimal_text fraction_text trimmed_digits last_digits
c451 = refl

-- a.json b.json precision=1 -lines target=a,b -o o.topojson -clean + -o o.topojson
c452 : result (((record { name = (codes "a"); kind = kind.Polygon; table = record { names = ((codes "pop") ∷ (codes "n") ∷ (codes "st") ∷ []); rows = (((Num (pos 3000000000000000000)) ∷ (Text (codes "X")) ∷ (Num (pos 1000000000000000000)) ∷ []) ∷ ((Num (pos 1000000000000000000)) ∷ (Text (codes "Y")) ∷ (Text (codes "X")) ∷ []) ∷ ((Num (pos 0)) ∷ (Text (codes "Y")) ∷ Null ∷ []) ∷ []) }; shapes = ((Polygons ((((p (pos 1) (pos 2)) ∷ (p (pos 2) (pos 1)) ∷ (p (pos 2) (pos 2)) ∷ (p (pos 2) (pos 0)) ∷ (p (pos 1) (pos 2)) ∷ []) ∷ []) ∷ [])) ∷ Nothing ∷ (Polygons ((((p (pos 1) (pos 2)) ∷ (p (pos 1) (pos 1)) ∷ (p (pos 1) (pos 0)) ∷ (p (pos 1) (pos 2)) ∷ []) ∷ []) ∷ [])) ∷ []) }) ∷ []) ∷ ((record { name = (codes "b"); kind = kind.Polygon; table = record { names = ((codes "n") ∷ (codes "st") ∷ (codes "pop") ∷ []); rows = ((Null ∷ (Text (codes "X")) ∷ (Num (pos 3000000000000000000)) ∷ []) ∷ ((Num (pos 2000000000000000000)) ∷ Null ∷ (Num (pos 1000000000000000000)) ∷ []) ∷ (Null ∷ (Text (codes "Y")) ∷ (Num (pos 1000000000000000000)) ∷ []) ∷ []) }; shapes = ((Polygons ((((p (pos 0) (pos 3)) ∷ (p (pos 3) (pos 3)) ∷ (p (pos 3) (pos 3)) ∷ (p (pos 3) (pos 1)) ∷ (p (pos 0) (pos 3)) ∷ []) ∷ []) ∷ [])) ∷ (Polygons ((((p (pos 1) (pos 1)) ∷ (p (pos 3) (pos 2)) ∷ (p (pos 2) (pos 2)) ∷ (p (pos 2) (pos 0)) ∷ (p (pos 1) (pos 1)) ∷ []) ∷ []) ∷ [])) ∷ (Polygons ((((p (pos 0) (pos 3)) ∷ (p (pos 3) (pos 3)) ∷ (p (pos 2) (pos 0)) ∷ (p (pos 3) (pos 2)) ∷ (p (pos 0) (pos 3)) ∷ []) ∷ []) ∷ [])) ∷ []) }) ∷ []) ∷ []) ((codes "a.json") ∷ (codes "b.json") ∷ (codes "precision=1") ∷ (codes "-lines") ∷ (codes "target=a,b") ∷ (codes "-o") ∷ (codes "o.topojson") ∷ (codes "-clean") ∷ (codes "+") ∷ (codes "-o") ∷ (codes "o.topojson") ∷ []) ≡ ((((record { name = (codes "a"); kind = kind.Line; table = record { names = ((codes "TYPE") ∷ (codes "RANK") ∷ []); rows = (((Text (codes "outer")) ∷ (Num (pos 0)) ∷ []) ∷ ((Text (codes "outer")) ∷ (Num (pos 0)) ∷ []) ∷ ((Text (codes "outer")) ∷ (Num (pos 0)) ∷ []) ∷ ((Text (codes "outer")) ∷ (Num (pos 0)) ∷ []) ∷ []) }; shapes = ((ways (((p (pos 1) (pos 2)) ∷ (p (pos 2) (pos 2)) ∷ []) ∷ [])) ∷ (ways (((p (pos 2) (pos 1)) ∷ (p (pos 2) (pos 2)) ∷ []) ∷ [])) ∷ (ways (((p (pos 1) (pos 1)) ∷ (p (pos 2) (pos 1)) ∷ []) ∷ [])) ∷ (ways (((p (pos 1) (pos 1)) ∷ (p (pos 1) (pos 2)) ∷ []) ∷ [])) ∷ []) }) ∷ (record { name = (codes "b"); kind = kind.Line; table = record { names = ((codes "TYPE") ∷ (codes "RANK") ∷ []); rows = (((Text (codes "outer")) ∷ (Num (pos 0)) ∷ []) ∷ ((Text (codes "outer")) ∷ (Num (pos 0)) ∷ []) ∷ ((Text (codes "outer")) ∷ (Num (pos 0)) ∷ []) ∷ ((Text (codes "outer")) ∷ (Num (pos 0)) ∷ []) ∷ ((Text (codes "outer")) ∷ (Num (pos 0)) ∷ []) ∷ ((Text (codes "inner")) ∷ (Num (pos 1000000000000000000)) ∷ []) ∷ ((Text (codes "inner")) ∷ (Num (pos 1000000000000000000)) ∷ []) ∷ ((Text (codes "inner")) ∷ (Num (pos 1000000000000000000)) ∷ []) ∷ []) }; shapes = ((ways (((p (pos 1) (pos 2)) ∷ (p (pos 2) (pos 2)) ∷ []) ∷ [])) ∷ (ways (((p (pos 2) (pos 1)) ∷ (p (pos 2) (pos 2)) ∷ []) ∷ [])) ∷ (ways (((p (pos 0) (pos 3)) ∷ (p (pos 3) (pos 3)) ∷ (p (pos 3) (pos 2)) ∷ []) ∷ [])) ∷ (ways (((p (pos 2) (pos 1)) ∷ (p (pos 3) (pos 1)) ∷ (p (pos 3) (pos 2)) ∷ []) ∷ [])) ∷ (ways (((p (pos 0) (pos 3)) ∷ (p (pos 1) (pos 2)) ∷ []) ∷ [])) ∷ (ways (((p (pos 2) (pos 2)) ∷ (p (pos 3) (pos 2)) ∷ []) ∷ [])) ∷ (ways (((p (pos 2) (pos 1)) ∷ (p (pos 3) (pos 2)) ∷ []) ∷ [])) ∷ (ways (((p (pos 0) (pos 3)) ∷ (p (pos 2) (pos 2)) ∷ []) ∷ [])) ∷ []) }) ∷ []) ∷ []), refused 3 wrong_kind)
unfolding numeral_of grid_of_text decimal_of_text places_of box_of_text digits decimal_text fraction_text trimmed_digits last_digits
c452 = refl

-- a.json b.json precision=1 -filter remove-empty -o o.topojson
c453 : result (((record { name = (codes "a"); kind = kind.Polygon; table = record { names = ((codes "n") ∷ (codes "pop") ∷ (codes "st") ∷ []); rows = (((Text (codes "Y")) ∷ (Num (pos 2000000000000000000)) ∷ (Text (codes "X")) ∷ []) ∷ ((Text (codes "X")) ∷ Null ∷ Null ∷ []) ∷ (Null ∷ (Num (pos 1000000000000000000)) ∷ (Num (pos 2000000000000000000)) ∷ []) ∷ []) }; shapes = ((Polygons ((((p (pos 0) (pos 3)) ∷ (p (pos 1) (pos 1)) ∷ (p (pos 0) (pos 0)) ∷ (p (pos 4) (pos 0)) ∷ (p (pos 0) (pos 3)) ∷ []) ∷ []) ∷ [])) ∷ (Polygons ((((p (pos 3) (pos 3)) ∷ (p (pos 2) (pos 3)) ∷ (p (pos 0) (pos 2)) ∷ (p (pos 3) (pos 3)) ∷ []) ∷ []) ∷ [])) ∷ (Polygons ((((p (pos 1) (pos 0)) ∷ (p (pos 2) (pos 2)) ∷ (p (pos 3) (pos 3)) ∷ (p (pos 4) (pos 2)) ∷ (p (pos 1) (pos 0)) ∷ []) ∷ []) ∷ [])) ∷ []) }) ∷ []) ∷ ((record { name = (codes "b"); kind = kind.Line; table = record { names = ((codes "pop") ∷ (codes "st") ∷ (codes "n") ∷ []); rows = (((Num (pos 3000000000000000000)) ∷ Null ∷ Null ∷ []) ∷ ((Num (pos 1000000000000000000)) ∷ (Text (codes "X")) ∷ (Text (codes "Y")) ∷ []) ∷ []) }; shapes = ((Lines (((p (pos 0) (pos 0)) ∷ (p (pos 2) (pos 0)) ∷ (p (pos 2) (pos 2)) ∷ []) ∷ [])) ∷ (Lines (((p (pos 0) (pos 1)) ∷ (p (pos 1) (pos 2)) ∷ (p (pos 2) (pos 3)) ∷ []) ∷ [])) ∷ []) }) ∷ []) ∷ []) ((codes "a.json") ∷ (codes "b.json") ∷ (codes "precision=1") ∷ (codes "-filter") ∷ (codes "remove-empty") ∷ (codes "-o") ∷ (codes "o.topojson") ∷ []) ≡ ((((record { name = (codes "a"); kind = kind.Polygon; table = record { names = ((codes "n") ∷ (codes "pop") ∷ (codes "st") ∷ []); rows = (((Text (codes "Y")) ∷ (Num (pos 2000000000000000000)) ∷ (Text (codes "X")) ∷ []) ∷ (Null ∷ (Num (pos 1000000000000000000)) ∷ (Num (pos 2000000000000000000)) ∷ []) ∷ []) }; shapes = ((edges ((s (p (pos 0) (pos 0)) (p (pos 1) (pos 0))) ∷ (s (p (pos 1) (pos 1)) (p (pos 0) (pos 0))) ∷ (s (p (pos 0) (pos 3)) (p (pos 0) (pos 2))) ∷ (s (p (pos 0) (pos 2)) (p (pos 1) (pos 2))) ∷ (s (p (pos 1) (pos 2)) (p (pos 0) (pos 3))) ∷ (s (p (pos 1) (pos 0)) (p (pos 2) (pos 0))) ∷ (s (p (pos 1) (pos 2)) (p (pos 1) (pos 1))) ∷ (s (p (pos 2) (pos 2)) (p (pos 1) (pos 2))) ∷ (s (p (pos 2) (pos 0)) (p (pos 4) (pos 0))) ∷ (s (p (pos 2) (pos 1)) (p (pos 2) (pos 2))) ∷ (s (p (pos 3) (pos 1)) (p (pos 2) (pos 1))) ∷ (s (p (pos 4) (pos 0)) (p (pos 3) (pos 1))) ∷ [])) ∷ (edges ((s (p (pos 1) (pos 1)) (p (pos 1) (pos 0))) ∷ (s (p (pos 1) (pos 0)) (p (pos 2) (pos 0))) ∷ (s (p (pos 2) (pos 1)) (p (pos 1) (pos 1))) ∷ (s (p (pos 2) (pos 0)) (p (pos 2) (pos 1))) ∷ (s (p (pos 2) (pos 2)) (p (pos 2) (pos 1))) ∷ (s (p (pos 2) (pos 1)) (p (pos 3) (pos 1))) ∷ (s (p (pos 3) (pos 3)) (p (pos 2) (pos 2))) ∷ (s (p (pos 3) (pos 1)) (p (pos 4) (pos 2))) ∷ (s (p (pos 4) (pos 2)) (p (pos 3) (pos 3))) ∷ [])) ∷ []) }) ∷ (record { name = (codes "b"); kind = kind.Line; table = record { names = ((codes "pop") ∷ (codes "st") ∷ (codes "n") ∷ []); rows = (((Num (pos 3000000000000000000)) ∷ Null ∷ Null ∷ []) ∷ ((Num (pos 1000000000000000000)) ∷ (Text (codes "X")) ∷ (Text (codes "Y")) ∷ []) ∷ []) }; shapes = ((ways (((p (pos 0) (pos 0)) ∷ (p (pos 1) (pos 0)) ∷ (p (pos 2) (pos 0)) ∷ (p (pos 2) (pos 1)) ∷ (p (pos 2) (pos 2)) ∷ []) ∷ [])) ∷ (ways (((p (pos 0) (pos 1)) ∷ (p (pos 1) (pos 2)) ∷ (p (pos 2) (pos 3)) ∷ []) ∷ [])) ∷ []) }) ∷ []) ∷ []), done)
unfolding numeral_of grid_of_text decimal_of_text places_of box_of_text digits decimal_text fraction_text trimmed_digits last_digits
c453 = refl

-- a.json b.json precision=1 -split -o o.topojson -innerlines -o o.topojson -o o.topojson
c454 : result (((record { name = (codes "a"); kind = kind.Polygon; table = record { names = ([]); rows = (([]) ∷ ([]) ∷ []) }; shapes = ((Polygons ((((p (pos 2) (pos 2)) ∷ (p (pos 0) (pos 1)) ∷ (p (pos 1) (pos 1)) ∷ (p (pos 2) (pos 2)) ∷ []) ∷ []) ∷ [])) ∷ (Polygons ((((p (pos 3) (pos 1)) ∷ (p (pos 1) (pos 1)) ∷ (p (pos 3) (pos 3)) ∷ (p (pos 3) (pos 1)) ∷ []) ∷ []) ∷ [])) ∷ []) }) ∷ []) ∷ ((record { name = (codes "b"); kind = kind.Point; table = record { names = ((codes "pop") ∷ (codes "n") ∷ (codes "st") ∷ []); rows = ((Null ∷ (Num (pos 2000000000000000000)) ∷ (Text (codes "X")) ∷ []) ∷ []) }; shapes = ((Points ((p (pos 4) (pos 2)) ∷ [])) ∷ []) }) ∷ []) ∷ []) ((codes "a.json") ∷ (codes "b.json") ∷ (codes "precision=1") ∷ (codes "-split") ∷ (codes "-o") ∷ (codes "o.topojson") ∷ (codes "-innerlines") ∷ (codes "-o") ∷ (codes "o.topojson") ∷ (codes "-o") ∷ (codes "o.topojson") ∷ []) ≡ ((((record { name = (codes "a-1"); kind = kind.Polygon; table = record { names = ([]); rows = (([]) ∷ []) }; shapes = ((edges ([])) ∷ []) }) ∷ (record { name = (codes "a-2"); kind = kind.Polygon; table = record { names = ([]); rows = (([]) ∷ []) }; shapes = ((edges ((s (p (pos 2) (pos 2)) (p (pos 1) (pos 1))) ∷ (s (p (pos 1) (pos 1)) (p (pos 3) (pos 1))) ∷ (s (p (pos 3) (pos 3)) (p (pos 2) (pos 2))) ∷ (s (p (pos 3) (pos 1)) (p (pos 3) (pos 3))) ∷ [])) ∷ []) }) ∷ (record { name = (codes "b-1"); kind = kind.Point; table = record { names = ((codes "pop") ∷ (codes "n") ∷ (codes "st") ∷ []); rows = ((Null ∷ (Num (pos 2000000000000000000)) ∷ (Text (codes "X")) ∷ []) ∷ []) }; shapes = ((spots ((p (pos 4) (pos 2)) ∷ [])) ∷ []) }) ∷ []) ∷ []), refused 3 wrong_kind)
unfolding numeral_of grid_of_text decimal_of_text places_of box_of_text digits decimal_text fraction_text trimmed_digits last_digits
c454 = refl

-- a.json b.json precision=1 -filter remove-empty + -o o.topojson
c455 : result (((record { name = (codes "a"); kind = kind.Point; table = record { names = ((codes "st") ∷ []); rows = ((Null ∷ []) ∷ (Null ∷ []) ∷ []) }; shapes = ((Points ((p (pos 0) (pos 3)) ∷ [])) ∷ (Points ((p (pos 2) (pos 0)) ∷ [])) ∷ []) }) ∷ []) ∷ ((record { name = (codes "b"); kind = kind.Polygon; table = record { names = ((codes "pop") ∷ []); rows = ((Null ∷ []) ∷ ((Num (pos 2000000000000000000)) ∷ []) ∷ (Null ∷ []) ∷ []) }; shapes = ((Polygons ((((p (pos 3) (pos 5)) ∷ (p (pos 1) (pos 1)) ∷ (p (pos 4) (pos 0)) ∷ (p (pos 3) (pos 5)) ∷ []) ∷ []) ∷ [])) ∷ (Polygons ((((p (pos 2) (pos 3)) ∷ (p (pos 0) (pos 2)) ∷ (p (pos 2) (pos 5)) ∷ (p (pos 2) (pos 3)) ∷ []) ∷ []) ∷ [])) ∷ (Polygons ((((p (pos 4) (pos 4)) ∷ (p (pos 2) (pos 1)) ∷ (p (pos 1) (pos 0)) ∷ (p (pos 3) (pos 0)) ∷ (p (pos 4) (pos 4)) ∷ []) ∷ []) ∷ [])) ∷ []) }) ∷ []) ∷ []) ((codes "a.json") ∷ (codes "b.json") ∷ (codes "precision=1") ∷ (codes "-filter") ∷ (codes "remove-empty") ∷ (codes "+") ∷ (codes "-o") ∷ (codes "o.topojson") ∷ []) ≡ ((((record { name = (codes "a"); kind = kind.Point; table = record { names = ((codes "st") ∷ []); rows = ((Null ∷ []) ∷ (Null ∷ []) ∷ []) }; shapes = ((spots ((p (pos 0) (pos 3)) ∷ [])) ∷ (spots ((p (pos 2) (pos 0)) ∷ [])) ∷ []) }) ∷ (record { name = (codes "b"); kind = kind.Polygon; table = record { names = ((codes "pop") ∷ []); rows = ((Null ∷ []) ∷ ((Num (pos 2000000000000000000)) ∷ []) ∷ (Null ∷ []) ∷ []) }; shapes = ((edges ((s (p (pos 1) (pos 1)) (p (pos 2) (pos 1))) ∷ (s (p (pos 2) (pos 3)) (p (pos 1) (pos 1))) ∷ (s (p (pos 2) (pos 1)) (p (pos 3) (pos 0))) ∷ (s (p (pos 3) (pos 5)) (p (pos 2) (pos 3))) ∷ (s (p (pos 3) (pos 0)) (p (pos 4) (pos 0))) ∷ (s (p (pos 3) (pos 3)) (p (pos 3) (pos 5))) ∷ (s (p (pos 4) (pos 2)) (p (pos 3) (pos 3))) ∷ (s (p (pos 4) (pos 0)) (p (pos 4) (pos 2))) ∷ [])) ∷ (edges ((s (p (pos 0) (pos 3)) (p (pos 0) (pos 2))) ∷ (s (p (pos 0) (pos 2)) (p (pos 2) (pos 3))) ∷ (s (p (pos 2) (pos 5)) (p (pos 0) (pos 3))) ∷ (s (p (pos 2) (pos 3)) (p (pos 2) (pos 5))) ∷ [])) ∷ (edges ((s (p (pos 1) (pos 0)) (p (pos 2) (pos 0))) ∷ (s (p (pos 2) (pos 1)) (p (pos 1) (pos 0))) ∷ (s (p (pos 2) (pos 0)) (p (pos 3) (pos 0))) ∷ (s (p (pos 3) (pos 3)) (p (pos 2) (pos 1))) ∷ (s (p (pos 3) (pos 0)) (p (pos 4) (pos 2))) ∷ (s (p (pos 4) (pos 4)) (p (pos 3) (pos 3))) ∷ (s (p (pos 4) (pos 2)) (p (pos 4) (pos 4))) ∷ [])) ∷ []) }) ∷ []) ∷ []), done)
unfolding numeral_of grid_of_text decimal_of_text places_of box_of_text digits decimal_text fraction_text trimmed_digits last_digits
c455 = refl

-- a.json b.json precision=1 -filter-fields pop -rename-fields a=pop target=a -o o.topojson -o o.topojson
c456 : result (((record { name = (codes "a"); kind = kind.Table; table = record { names = ((codes "pop") ∷ (codes "st") ∷ (codes "n") ∷ []); rows = ((Null ∷ Null ∷ (Text (codes "Y")) ∷ []) ∷ ((Num (pos 2000000000000000000)) ∷ Null ∷ (Text (codes "X")) ∷ []) ∷ ((Num (pos 2000000000000000000)) ∷ Null ∷ (Num (pos 2000000000000000000)) ∷ []) ∷ []) }; shapes = (Nothing ∷ Nothing ∷ Nothing ∷ []) }) ∷ []) ∷ ((record { name = (codes "b"); kind = kind.Polygon; table = record { names = ((codes "st") ∷ []); rows = (((Text (codes "X")) ∷ []) ∷ ((Num (pos 1000000000000000000)) ∷ []) ∷ ((Num (pos 1000000000000000000)) ∷ []) ∷ []) }; shapes = ((Polygons ((((p (pos 1) (pos 1)) ∷ (p (pos 3) (pos 1)) ∷ (p (pos 2) (pos 4)) ∷ (p (pos 1) (pos 1)) ∷ []) ∷ []) ∷ [])) ∷ (Polygons ((((p (pos 4) (pos 2)) ∷ (p (pos 1) (pos 4)) ∷ (p (pos 1) (pos 1)) ∷ (p (pos 4) (pos 2)) ∷ []) ∷ []) ∷ [])) ∷ (Polygons ((((p (pos 3) (pos 4)) ∷ (p (pos 1) (pos 0)) ∷ (p (pos 0) (pos 0)) ∷ (p (pos 0) (pos 2)) ∷ (p (pos 3) (pos 4)) ∷ []) ∷ []) ∷ [])) ∷ []) }) ∷ []) ∷ []) ((codes "a.json") ∷ (codes "b.json") ∷ (codes "precision=1") ∷ (codes "-filter-fields") ∷ (codes "pop") ∷ (codes "-rename-fields") ∷ (codes "a=pop") ∷ (codes "target=a") ∷ (codes "-o") ∷ (codes "o.topojson") ∷ (codes "-o") ∷ (codes "o.topojson") ∷ []) ≡ (([]), refused 1 (in_table (NoField 0)))
unfolding numeral_of grid_of_text decimal_of_text places_of box_of_text digits decimal_text fraction_text trimmed_digits last_digits
c456 = refl

-- a.json b.json precision=1 -lines -o o.topojson
c457 : result (((record { name = (codes "a"); kind = kind.Polygon; table = record { names = ((codes "n") ∷ (codes "st") ∷ (codes "pop") ∷ []); rows = ((Null ∷ Null ∷ (Num (pos 2000000000000000000)) ∷ []) ∷ ((Num (pos 2000000000000000000)) ∷ Null ∷ (Num (pos 2000000000000000000)) ∷ []) ∷ []) }; shapes = ((Polygons ((((p (pos 3) (pos 1)) ∷ (p (pos 3) (pos 3)) ∷ (p (pos 0) (pos 0)) ∷ (p (pos 2) (pos 0)) ∷ (p (pos 3) (pos 1)) ∷ []) ∷ []) ∷ [])) ∷ (Polygons ((((p (pos 0) (pos 2)) ∷ (p (pos 1) (pos 3)) ∷ (p (pos 2) (pos 1)) ∷ (p (pos 0) (pos 2)) ∷ []) ∷ []) ∷ [])) ∷ []) }) ∷ []) ∷ ((record { name = (codes "b"); kind = kind.Polygon; table = record { names = ([]); rows = (([]) ∷ ([]) ∷ []) }; shapes = ((Polygons ((((p (pos 4) (pos 1)) ∷ (p (pos 1) (pos 2)) ∷ (p (pos 2) (pos 1)) ∷ (p (pos 4) (pos 1)) ∷ []) ∷ []) ∷ [])) ∷ (Polygons ((((p (pos 0) (pos 1)) ∷ (p (pos 3) (pos 1)) ∷ (p (pos 0) (pos 1)) ∷ (p (pos 1) (pos 2)) ∷ (p (pos 0) (pos 1)) ∷ []) ∷ []) ∷ [])) ∷ []) }) ∷ []) ∷ []) ((codes "a.json") ∷ (codes "b.json") ∷ (codes "precision=1") ∷ (codes "-lines") ∷ (codes "-o") ∷ (codes "o.topojson") ∷ []) ≡ ((((record { name = (codes "a"); kind = kind.Line; table = record { names = ((codes "TYPE") ∷ (codes "RANK") ∷ []); rows = (((Text (codes "outer")) ∷ (Num (pos 0)) ∷ []) ∷ ((Text (codes "inner")) ∷ (Num (pos 1000000000000000000)) ∷ []) ∷ ((Text (codes "outer")) ∷ (Num (pos 0)) ∷ []) ∷ ((Text (codes "outer")) ∷ (Num (pos 0)) ∷ []) ∷ ((Text (codes "outer")) ∷ (Num (pos 0)) ∷ []) ∷ ((Text (codes "inner")) ∷ (Num (pos 1000000000000000000)) ∷ []) ∷ ((Text (codes "inner")) ∷ (Num (pos 1000000000000000000)) ∷ []) ∷ ((Text (codes "outer")) ∷ (Num (pos 0)) ∷ []) ∷ []) }; shapes = ((ways (((p (pos 2) (pos 2)) ∷ (p (pos 3) (pos 3)) ∷ (p (pos 3) (pos 1)) ∷ []) ∷ [])) ∷ (ways (((p (pos 1) (pos 1)) ∷ (p (pos 2) (pos 2)) ∷ []) ∷ [])) ∷ (ways (((p (pos 1) (pos 1)) ∷ (p (pos 0) (pos 0)) ∷ (p (pos 2) (pos 0)) ∷ (p (pos 3) (pos 1)) ∷ []) ∷ [])) ∷ (ways (((p (pos 1) (pos 2)) ∷ (p (pos 0) (pos 2)) ∷ (p (pos 1) (pos 3)) ∷ (p (pos 1) (pos 2)) ∷ []) ∷ [])) ∷ (ways (((p (pos 1) (pos 2)) ∷ (p (pos 2) (pos 2)) ∷ []) ∷ [])) ∷ (ways (((p (pos 2) (pos 1)) ∷ (p (pos 2) (pos 2)) ∷ []) ∷ [])) ∷ (ways (((p (pos 1) (pos 1)) ∷ (p (pos 2) (pos 1)) ∷ []) ∷ [])) ∷ (ways (((p (pos 1) (pos 1)) ∷ (p (pos 1) (pos 2)) ∷ []) ∷ [])) ∷ []) }) ∷ (record { name = (codes "b"); kind = kind.Line; table = record { names = ((codes "TYPE") ∷ (codes "RANK") ∷ []); rows = (((Text (codes "outer")) ∷ (Num (pos 0)) ∷ []) ∷ ((Text (codes "outer")) ∷ (Num (pos 0)) ∷ []) ∷ ((Text (codes "outer")) ∷ (Num (pos 0)) ∷ []) ∷ []) }; shapes = ((ways (((p (pos 2) (pos 1)) ∷ (p (pos 2) (pos 2)) ∷ []) ∷ [])) ∷ (ways (((p (pos 2) (pos 2)) ∷ (p (pos 3) (pos 1)) ∷ []) ∷ [])) ∷ (ways (((p (pos 2) (pos 1)) ∷ (p (pos 3) (pos 1)) ∷ []) ∷ [])) ∷ []) }) ∷ []) ∷ []), done)
unfolding numeral_of grid_of_text decimal_of_text places_of box_of_text digits decimal_text fraction_text trimmed_digits last_digits
c457 = refl

-- a.json b.json precision=1 -split target=a,b -o o.topojson
c458 : result (((record { name = (codes "a"); kind = kind.Point; table = record { names = ((codes "n") ∷ (codes "st") ∷ (codes "pop") ∷ []); rows = (((Num (pos 2000000000000000000)) ∷ (Num (pos 2000000000000000000)) ∷ Null ∷ []) ∷ (Null ∷ Null ∷ Null ∷ []) ∷ (Null ∷ (Num (pos 1000000000000000000)) ∷ Null ∷ []) ∷ []) }; shapes = ((Points ((p (pos 0) (pos 2)) ∷ (p (pos 1) (pos 2)) ∷ [])) ∷ (Points ((p (pos 4) (pos 2)) ∷ (p (pos 0) (pos 1)) ∷ [])) ∷ (Points ((p (pos 3) (pos 0)) ∷ [])) ∷ []) }) ∷ []) ∷ ((record { name = (codes "b"); kind = kind.Table; table = record { names = ((codes "pop") ∷ []); rows = ((Null ∷ []) ∷ (Null ∷ []) ∷ []) }; shapes = (Nothing ∷ Nothing ∷ []) }) ∷ []) ∷ []) ((codes "a.json") ∷ (codes "b.json") ∷ (codes "precision=1") ∷ (codes "-split") ∷ (codes "target=a,b") ∷ (codes "-o") ∷ (codes "o.topojson") ∷ []) ≡ ((((record { name = (codes "a-1"); kind = kind.Point; table = record { names = ((codes "n") ∷ (codes "st") ∷ (codes "pop") ∷ []); rows = (((Num (pos 2000000000000000000)) ∷ (Num (pos 2000000000000000000)) ∷ Null ∷ []) ∷ []) }; shapes = ((spots ((p (pos 0) (pos 2)) ∷ (p (pos 1) (pos 2)) ∷ [])) ∷ []) }) ∷ (record { name = (codes "a-2"); kind = kind.Point; table = record { names = ((codes "n") ∷ (codes "st") ∷ (codes "pop") ∷ []); rows = ((Null ∷ Null ∷ Null ∷ []) ∷ []) }; shapes = ((spots ((p (pos 4) (pos 2)) ∷ (p (pos 0) (pos 1)) ∷ [])) ∷ []) }) ∷ (record { name = (codes "a-3"); kind = kind.Point; table = record { names = ((codes "n") ∷ (codes "st") ∷ (codes "pop") ∷ []); rows = ((Null ∷ (Num (pos 1000000000000000000)) ∷ Null ∷ []) ∷ []) }; shapes = ((spots ((p (pos 3) (pos 0)) ∷ [])) ∷ []) }) ∷ (record { name = (codes "b-1"); kind = kind.Table; table = record { names = ((codes "pop") ∷ []); rows = ((Null ∷ []) ∷ []) }; shapes = (nowhere ∷ []) }) ∷ (record { name = (codes "b-2"); kind = kind.Table; table = record { names = ((codes "pop") ∷ []); rows = ((Null ∷ []) ∷ []) }; shapes = (nowhere ∷ []) }) ∷ []) ∷ []), done)
unfolding numeral_of grid_of_text decimal_of_text places_of box_of_text digits decimal_text fraction_text trimmed_digits last_digits
c458 = refl

-- a.json b.json precision=1 -filter remove-empty -o o.topojson -o o.topojson
c459 : result (((record { name = (codes "a"); kind = kind.Polygon; table = record { names = ([]); rows = (([]) ∷ ([]) ∷ ([]) ∷ []) }; shapes = ((Polygons ((((p (pos 1) (pos 4)) ∷ (p (pos 4) (pos 4)) ∷ (p (pos 3) (pos 0)) ∷ (p (pos 1) (pos 0)) ∷ (p (pos 1) (pos 4)) ∷ []) ∷ []) ∷ [])) ∷ (Polygons ((((p (pos 0) (pos 0)) ∷ (p (pos 3) (pos 4)) ∷ (p (pos 1) (pos 3)) ∷ (p (pos 0) (pos 0)) ∷ []) ∷ []) ∷ [])) ∷ (Polygons ((((p (pos 4) (pos 4)) ∷ (p (pos 2) (pos 4)) ∷ (p (pos 0) (pos 1)) ∷ (p (pos 4) (pos 4)) ∷ []) ∷ []) ∷ [])) ∷ []) }) ∷ []) ∷ ((record { name = (codes "b"); kind = kind.Polygon; table = record { names = ((codes "st") ∷ (codes "n") ∷ (codes "pop") ∷ []); rows = (((Num (pos 2000000000000000000)) ∷ Null ∷ (Num (pos 2000000000000000000)) ∷ []) ∷ (Null ∷ Null ∷ (Num (pos 0)) ∷ []) ∷ (Null ∷ Null ∷ (Num (pos 2000000000000000000)) ∷ []) ∷ []) }; shapes = ((Polygons ((((p (pos 1) (pos 3)) ∷ (p (pos 2) (pos 0)) ∷ (p (pos 4) (pos 3)) ∷ (p (pos 1) (pos 1)) ∷ (p (pos 1) (pos 3)) ∷ []) ∷ []) ∷ [])) ∷ (Polygons ((((p (pos 1) (pos 1)) ∷ (p (pos 1) (pos 0)) ∷ (p (pos 4) (pos 0)) ∷ (p (pos 1) (pos 1)) ∷ []) ∷ []) ∷ [])) ∷ (Polygons ((((p (pos 4) (pos 3)) ∷ (p (pos 0) (pos 1)) ∷ (p (pos 3) (pos 1)) ∷ (p (pos 4) (pos 3)) ∷ []) ∷ []) ∷ [])) ∷ []) }) ∷ []) ∷ []) ((codes "a.json") ∷ (codes "b.json") ∷ (codes "precision=1") ∷ (codes "-filter") ∷ (codes "remove-empty") ∷ (codes "-o") ∷ (codes "o.topojson") ∷ (codes "-o") ∷ (codes "o.topojson") ∷ []) ≡ ((((record { name = (codes "a"); kind = kind.Polygon; table = record { names = ([]); rows = (([]) ∷ ([]) ∷ ([]) ∷ []) }; shapes = ((edges ((s (p (pos 1) (pos 1)) (p (pos 1) (pos 0))) ∷ (s (p (pos 1) (pos 0)) (p (pos 2) (pos 0))) ∷ (s (p (pos 1) (pos 2)) (p (pos 1) (pos 1))) ∷ (s (p (pos 1) (pos 3)) (p (pos 1) (pos 2))) ∷ (s (p (pos 1) (pos 4)) (p (pos 1) (pos 3))) ∷ (s (p (pos 2) (pos 4)) (p (pos 1) (pos 4))) ∷ (s (p (pos 2) (pos 0)) (p (pos 3) (pos 0))) ∷ (s (p (pos 3) (pos 4)) (p (pos 2) (pos 4))) ∷ (s (p (pos 3) (pos 0)) (p (pos 3) (pos 1))) ∷ (s (p (pos 3) (pos 1)) (p (pos 4) (pos 2))) ∷ (s (p (pos 4) (pos 4)) (p (pos 3) (pos 4))) ∷ (s (p (pos 4) (pos 2)) (p (pos 4) (pos 3))) ∷ (s (p (pos 4) (pos 3)) (p (pos 4) (pos 4))) ∷ [])) ∷ (edges ((s (p (pos 0) (pos 1)) (p (pos 1) (pos 1))) ∷ (s (p (pos 1) (pos 2)) (p (pos 0) (pos 1))) ∷ (s (p (pos 1) (pos 1)) (p (pos 1) (pos 2))) ∷ (s (p (pos 1) (pos 3)) (p (pos 1) (pos 2))) ∷ (s (p (pos 1) (pos 2)) (p (pos 2) (pos 2))) ∷ (s (p (pos 2) (pos 3)) (p (pos 1) (pos 3))) ∷ (s (p (pos 2) (pos 2)) (p (pos 2) (pos 3))) ∷ (s (p (pos 2) (pos 4)) (p (pos 2) (pos 3))) ∷ (s (p (pos 2) (pos 3)) (p (pos 3) (pos 4))) ∷ (s (p (pos 3) (pos 4)) (p (pos 2) (pos 4))) ∷ [])) ∷ (edges ((s (p (pos 0) (pos 1)) (p (pos 1) (pos 1))) ∷ (s (p (pos 1) (pos 2)) (p (pos 0) (pos 1))) ∷ (s (p (pos 1) (pos 1)) (p (pos 1) (pos 2))) ∷ (s (p (pos 1) (pos 3)) (p (pos 1) (pos 2))) ∷ (s (p (pos 1) (pos 2)) (p (pos 2) (pos 2))) ∷ (s (p (pos 2) (pos 3)) (p (pos 1) (pos 3))) ∷ (s (p (pos 2) (pos 2)) (p (pos 2) (pos 3))) ∷ (s (p (pos 2) (pos 4)) (p (pos 2) (pos 3))) ∷ (s (p (pos 2) (pos 3)) (p (pos 3) (pos 4))) ∷ (s (p (pos 3) (pos 4)) (p (pos 2) (pos 4))) ∷ [])) ∷ []) }) ∷ (record { name = (codes "b"); kind = kind.Polygon; table = record { names = ((codes "st") ∷ (codes "n") ∷ (codes "pop") ∷ []); rows = (((Num (pos 2000000000000000000)) ∷ Null ∷ (Num (pos 2000000000000000000)) ∷ []) ∷ (Null ∷ Null ∷ (Num (pos 0)) ∷ []) ∷ (Null ∷ Null ∷ (Num (pos 2000000000000000000)) ∷ []) ∷ []) }; shapes = ((edges ((s (p (pos 1) (pos 2)) (p (pos 1) (pos 1))) ∷ (s (p (pos 1) (pos 1)) (p (pos 2) (pos 1))) ∷ (s (p (pos 2) (pos 2)) (p (pos 1) (pos 2))) ∷ (s (p (pos 2) (pos 1)) (p (pos 3) (pos 1))) ∷ (s (p (pos 4) (pos 3)) (p (pos 2) (pos 2))) ∷ (s (p (pos 3) (pos 1)) (p (pos 4) (pos 2))) ∷ (s (p (pos 4) (pos 2)) (p (pos 4) (pos 3))) ∷ [])) ∷ (edges ((s (p (pos 1) (pos 1)) (p (pos 1) (pos 0))) ∷ (s (p (pos 1) (pos 0)) (p (pos 2) (pos 0))) ∷ (s (p (pos 2) (pos 1)) (p (pos 1) (pos 1))) ∷ (s (p (pos 2) (pos 0)) (p (pos 3) (pos 0))) ∷ (s (p (pos 3) (pos 1)) (p (pos 2) (pos 1))) ∷ (s (p (pos 3) (pos 0)) (p (pos 3) (pos 1))) ∷ [])) ∷ (edges ((s (p (pos 1) (pos 2)) (p (pos 1) (pos 1))) ∷ (s (p (pos 1) (pos 1)) (p (pos 2) (pos 1))) ∷ (s (p (pos 2) (pos 2)) (p (pos 1) (pos 2))) ∷ (s (p (pos 2) (pos 1)) (p (pos 3) (pos 1))) ∷ (s (p (pos 4) (pos 3)) (p (pos 2) (pos 2))) ∷ (s (p (pos 3) (pos 1)) (p (pos 4) (pos 2))) ∷ (s (p (pos 4) (pos 2)) (p (pos 4) (pos 3))) ∷ [])) ∷ []) }) ∷ []) ∷ ((record { name = (codes "a"); kind = kind.Polygon; table = record { names = ([]); rows = (([]) ∷ ([]) ∷ ([]) ∷ []) }; shapes = ((edges ((s (p (pos 1) (pos 1)) (p (pos 1) (pos 0))) ∷ (s (p (pos 1) (pos 0)) (p (pos 2) (pos 0))) ∷ (s (p (pos 1) (pos 2)) (p (pos 1) (pos 1))) ∷ (s (p (pos 1) (pos 3)) (p (pos 1) (pos 2))) ∷ (s (p (pos 1) (pos 4)) (p (pos 1) (pos 3))) ∷ (s (p (pos 2) (pos 4)) (p (pos 1) (pos 4))) ∷ (s (p (pos 2) (pos 0)) (p (pos 3) (pos 0))) ∷ (s (p (pos 3) (pos 4)) (p (pos 2) (pos 4))) ∷ (s (p (pos 3) (pos 0)) (p (pos 3) (pos 1))) ∷ (s (p (pos 3) (pos 1)) (p (pos 4) (pos 2))) ∷ (s (p (pos 4) (pos 4)) (p (pos 3) (pos 4))) ∷ (s (p (pos 4) (pos 2)) (p (pos 4) (pos 3))) ∷ (s (p (pos 4) (pos 3)) (p (pos 4) (pos 4))) ∷ [])) ∷ (edges ((s (p (pos 0) (pos 1)) (p (pos 1) (pos 1))) ∷ (s (p (pos 1) (pos 2)) (p (pos 0) (pos 1))) ∷ (s (p (pos 1) (pos 1)) (p (pos 1) (pos 2))) ∷ (s (p (pos 1) (pos 3)) (p (pos 1) (pos 2))) ∷ (s (p (pos 1) (pos 2)) (p (pos 2) (pos 2))) ∷ (s (p (pos 2) (pos 3)) (p (pos 1) (pos 3))) ∷ (s (p (pos 2) (pos 2)) (p (pos 2) (pos 3))) ∷ (s (p (pos 2) (pos 4)) (p (pos 2) (pos 3))) ∷ (s (p (pos 2) (pos 3)) (p (pos 3) (pos 4))) ∷ (s (p (pos 3) (pos 4)) (p (pos 2) (pos 4))) ∷ [])) ∷ (edges ((s (p (pos 0) (pos 1)) (p (pos 1) (pos 1))) ∷ (s (p (pos 1) (pos 2)) (p (pos 0) (pos 1))) ∷ (s (p (pos 1) (pos 1)) (p (pos 1) (pos 2))) ∷ (s (p (pos 1) (pos 3)) (p (pos 1) (pos 2))) ∷ (s (p (pos 1) (pos 2)) (p (pos 2) (pos 2))) ∷ (s (p (pos 2) (pos 3)) (p (pos 1) (pos 3))) ∷ (s (p (pos 2) (pos 2)) (p (pos 2) (pos 3))) ∷ (s (p (pos 2) (pos 4)) (p (pos 2) (pos 3))) ∷ (s (p (pos 2) (pos 3)) (p (pos 3) (pos 4))) ∷ (s (p (pos 3) (pos 4)) (p (pos 2) (pos 4))) ∷ [])) ∷ []) }) ∷ (record { name = (codes "b"); kind = kind.Polygon; table = record { names = ((codes "st") ∷ (codes "n") ∷ (codes "pop") ∷ []); rows = (((Num (pos 2000000000000000000)) ∷ Null ∷ (Num (pos 2000000000000000000)) ∷ []) ∷ (Null ∷ Null ∷ (Num (pos 0)) ∷ []) ∷ (Null ∷ Null ∷ (Num (pos 2000000000000000000)) ∷ []) ∷ []) }; shapes = ((edges ((s (p (pos 1) (pos 2)) (p (pos 1) (pos 1))) ∷ (s (p (pos 1) (pos 1)) (p (pos 2) (pos 1))) ∷ (s (p (pos 2) (pos 2)) (p (pos 1) (pos 2))) ∷ (s (p (pos 2) (pos 1)) (p (pos 3) (pos 1))) ∷ (s (p (pos 4) (pos 3)) (p (pos 2) (pos 2))) ∷ (s (p (pos 3) (pos 1)) (p (pos 4) (pos 2))) ∷ (s (p (pos 4) (pos 2)) (p (pos 4) (pos 3))) ∷ [])) ∷ (edges ((s (p (pos 1) (pos 1)) (p (pos 1) (pos 0))) ∷ (s (p (pos 1) (pos 0)) (p (pos 2) (pos 0))) ∷ (s (p (pos 2) (pos 1)) (p (pos 1) (pos 1))) ∷ (s (p (pos 2) (pos 0)) (p (pos 3) (pos 0))) ∷ (s (p (pos 3) (pos 1)) (p (pos 2) (pos 1))) ∷ (s (p (pos 3) (pos 0)) (p (pos 3) (pos 1))) ∷ [])) ∷ (edges ((s (p (pos 1) (pos 2)) (p (pos 1) (pos 1))) ∷ (s (p (pos 1) (pos 1)) (p (pos 2) (pos 1))) ∷ (s (p (pos 2) (pos 2)) (p (pos 1) (pos 2))) ∷ (s (p (pos 2) (pos 1)) (p (pos 3) (pos 1))) ∷ (s (p (pos 4) (pos 3)) (p (pos 2) (pos 2))) ∷ (s (p (pos 3) (pos 1)) (p (pos 4) (pos 2))) ∷ (s (p (pos 4) (pos 2)) (p (pos 4) (pos 3))) ∷ [])) ∷ []) }) ∷ []) ∷ []), done)
unfolding numeral_of grid_of_text decimal_of_text places_of box_of_text digits decimal_text fraction_text trimmed_digits last_digits
c459 = refl

-- a.json b.json precision=1 -join b keys=n,st force -o o.topojson -lines st -o o.topojson
c460 : result (((record { name = (codes "a"); kind = kind.Line; table = record { names = ((codes "pop") ∷ (codes "st") ∷ (codes "n") ∷ []); rows = (((Num (pos 0)) ∷ (Text (codes "X")) ∷ Null ∷ []) ∷ ((Num (pos 3000000000000000000)) ∷ (Num (pos 1000000000000000000)) ∷ (Num (pos 1000000000000000000)) ∷ []) ∷ (Null ∷ Null ∷ (Text (codes "X")) ∷ []) ∷ []) }; shapes = ((Lines (((p (pos 0) (pos 3)) ∷ (p (pos 2) (pos 0)) ∷ []) ∷ [])) ∷ (Lines (((p (pos 1) (pos 2)) ∷ (p (pos 2) (pos 2)) ∷ (p (pos 0) (pos 1)) ∷ []) ∷ [])) ∷ (Lines (((p (pos 2) (pos 3)) ∷ (p (pos 0) (pos 2)) ∷ (p (pos 1) (pos 2)) ∷ []) ∷ [])) ∷ []) }) ∷ []) ∷ ((record { name = (codes "b"); kind = kind.Table; table = record { names = ((codes "pop") ∷ (codes "st") ∷ (codes "n") ∷ []); rows = (((Num (pos 3000000000000000000)) ∷ (Num (pos 2000000000000000000)) ∷ Null ∷ []) ∷ ((Num (pos 3000000000000000000)) ∷ (Num (pos 2000000000000000000)) ∷ (Text (codes "Y")) ∷ []) ∷ []) }; shapes = (Nothing ∷ Nothing ∷ []) }) ∷ []) ∷ []) ((codes "a.json") ∷ (codes "b.json") ∷ (codes "precision=1") ∷ (codes "-join") ∷ (codes "b") ∷ (codes "keys=n,st") ∷ (codes "force") ∷ (codes "-o") ∷ (codes "o.topojson") ∷ (codes "-lines") ∷ (codes "st") ∷ (codes "-o") ∷ (codes "o.topojson") ∷ []) ≡ ((((record { name = (codes "a"); kind = kind.Line; table = record { names = ((codes "pop") ∷ (codes "st") ∷ (codes "n") ∷ []); rows = (((Num (pos 0)) ∷ (Text (codes "X")) ∷ Null ∷ []) ∷ ((Num (pos 3000000000000000000)) ∷ (Num (pos 1000000000000000000)) ∷ (Num (pos 1000000000000000000)) ∷ []) ∷ (Null ∷ Null ∷ (Text (codes "X")) ∷ []) ∷ []) }; shapes = ((ways (((p (pos 0) (pos 3)) ∷ (p (pos 0) (pos 2)) ∷ (p (pos 1) (pos 2)) ∷ (p (pos 2) (pos 0)) ∷ []) ∷ [])) ∷ (ways (((p (pos 1) (pos 2)) ∷ (p (pos 2) (pos 2)) ∷ (p (pos 1) (pos 2)) ∷ (p (pos 0) (pos 1)) ∷ []) ∷ [])) ∷ (ways (((p (pos 2) (pos 3)) ∷ (p (pos 1) (pos 2)) ∷ (p (pos 0) (pos 2)) ∷ (p (pos 1) (pos 2)) ∷ []) ∷ [])) ∷ []) }) ∷ (record { name = (codes "b"); kind = kind.Table; table = record { names = ((codes "pop") ∷ (codes "st") ∷ (codes "n") ∷ []); rows = (((Num (pos 3000000000000000000)) ∷ (Num (pos 2000000000000000000)) ∷ Null ∷ []) ∷ ((Num (pos 3000000000000000000)) ∷ (Num (pos 2000000000000000000)) ∷ (Text (codes "Y")) ∷ []) ∷ []) }; shapes = (nowhere ∷ nowhere ∷ []) }) ∷ []) ∷ []), refused 3 wrong_kind)
unfolding numeral_of grid_of_text decimal_of_text places_of box_of_text digits decimal_text fraction_text trimmed_digits last_digits
c460 = refl

-- a.json b.json precision=1 -erase s.json -filter remove-empty -o o.topojson
c461 : result (((record { name = (codes "a"); kind = kind.Polygon; table = record { names = ((codes "pop") ∷ (codes "st") ∷ (codes "n") ∷ []); rows = (((Num (pos 1000000000000000000)) ∷ Null ∷ Null ∷ []) ∷ ((Num (pos 3000000000000000000)) ∷ (Text (codes "Y")) ∷ (Text (codes "X")) ∷ []) ∷ ((Num (pos 3000000000000000000)) ∷ (Num (pos 2000000000000000000)) ∷ (Num (pos 2000000000000000000)) ∷ []) ∷ []) }; shapes = ((Polygons ((((p (pos 0) (pos 2)) ∷ (p (pos 2) (pos 0)) ∷ (p (pos 0) (pos 3)) ∷ (p (pos 0) (pos 2)) ∷ []) ∷ []) ∷ [])) ∷ (Polygons ((((p (pos 2) (pos 2)) ∷ (p (pos 0) (pos 4)) ∷ (p (pos 2) (pos 1)) ∷ (p (pos 2) (pos 2)) ∷ []) ∷ []) ∷ [])) ∷ (Polygons ((((p (pos 2) (pos 3)) ∷ (p (pos 4) (pos 3)) ∷ (p (pos 0) (pos 1)) ∷ (p (pos 2) (pos 3)) ∷ []) ∷ []) ∷ [])) ∷ []) }) ∷ []) ∷ ((record { name = (codes "b"); kind = kind.Polygon; table = record { names = ((codes "st") ∷ (codes "pop") ∷ (codes "n") ∷ []); rows = (((Num (pos 1000000000000000000)) ∷ Null ∷ (Num (pos 2000000000000000000)) ∷ []) ∷ ((Text (codes "X")) ∷ Null ∷ (Text (codes "Y")) ∷ []) ∷ (Null ∷ (Num (pos 1000000000000000000)) ∷ Null ∷ []) ∷ []) }; shapes = ((Polygons ((((p (pos 2) (pos 2)) ∷ (p (pos 4) (pos 3)) ∷ (p (pos 5) (pos 4)) ∷ (p (pos 2) (pos 2)) ∷ []) ∷ []) ∷ [])) ∷ (Polygons ((((p (pos 3) (pos 1)) ∷ (p (pos 4) (pos 5)) ∷ (p (pos 3) (pos 2)) ∷ (p (pos 3) (pos 1)) ∷ []) ∷ []) ∷ [])) ∷ Nothing ∷ []) }) ∷ []) ∷ ((record { name = (codes "s"); kind = kind.Polygon; table = record { names = ([]); rows = (([]) ∷ ([]) ∷ []) }; shapes = ((Polygons ((((p (pos 0) (pos 5)) ∷ (p (pos 5) (pos 2)) ∷ (p (pos 4) (pos 1)) ∷ (p (pos 0) (pos 5)) ∷ []) ∷ []) ∷ [])) ∷ (Polygons ((((p (pos 1) (pos 0)) ∷ (p (pos 2) (pos 0)) ∷ (p (pos 2) (pos 5)) ∷ (p (pos 3) (pos 4)) ∷ (p (pos 1) (pos 0)) ∷ []) ∷ []) ∷ [])) ∷ []) }) ∷ []) ∷ []) ((codes "a.json") ∷ (codes "b.json") ∷ (codes "precision=1") ∷ (codes "-erase") ∷ (codes "s.json") ∷ (codes "-filter") ∷ (codes "remove-empty") ∷ (codes "-o") ∷ (codes "o.topojson") ∷ []) ≡ ((((record { name = (codes "a"); kind = kind.Polygon; table = record { names = ((codes "pop") ∷ (codes "st") ∷ (codes "n") ∷ []); rows = (((Num (pos 3000000000000000000)) ∷ (Text (codes "Y")) ∷ (Text (codes "X")) ∷ []) ∷ ((Num (pos 3000000000000000000)) ∷ (Num (pos 2000000000000000000)) ∷ (Num (pos 2000000000000000000)) ∷ []) ∷ []) }; shapes = ((edges ((s (p (pos 0) (pos 4)) (p (pos 0) (pos 3))) ∷ (s (p (pos 0) (pos 3)) (p (pos 1) (pos 2))) ∷ (s (p (pos 2) (pos 3)) (p (pos 0) (pos 4))) ∷ (s (p (pos 1) (pos 2)) (p (pos 2) (pos 2))) ∷ (s (p (pos 2) (pos 2)) (p (pos 2) (pos 3))) ∷ [])) ∷ (edges ((s (p (pos 0) (pos 1)) (p (pos 1) (pos 1))) ∷ (s (p (pos 1) (pos 2)) (p (pos 0) (pos 1))) ∷ (s (p (pos 1) (pos 1)) (p (pos 1) (pos 2))) ∷ (s (p (pos 1) (pos 2)) (p (pos 2) (pos 2))) ∷ (s (p (pos 2) (pos 3)) (p (pos 1) (pos 2))) ∷ (s (p (pos 2) (pos 2)) (p (pos 3) (pos 2))) ∷ (s (p (pos 3) (pos 3)) (p (pos 2) (pos 3))) ∷ (s (p (pos 3) (pos 2)) (p (pos 3) (pos 3))) ∷ [])) ∷ []) }) ∷ (record { name = (codes "b"); kind = kind.Polygon; table = record { names = ((codes "st") ∷ (codes "pop") ∷ (codes "n") ∷ []); rows = (((Text (codes "X")) ∷ Null ∷ (Text (codes "Y")) ∷ []) ∷ []) }; shapes = ((edges ((s (p (pos 3) (pos 3)) (p (pos 4) (pos 3))) ∷ (s (p (pos 4) (pos 5)) (p (pos 3) (pos 3))) ∷ (s (p (pos 4) (pos 3)) (p (pos 4) (pos 5))) ∷ [])) ∷ []) }) ∷ []) ∷ []), done)
unfolding numeral_of grid_of_text decimal_of_text places_of box_of_text digits decimal_text fraction_text trimmed_digits last_digits
c461 = refl

-- a.json b.json precision=1 -filter remove-empty target=a -o o.topojson
c462 : result (((record { name = (codes "a"); kind = kind.Polygon; table = record { names = ([]); rows = (([]) ∷ []) }; shapes = ((Polygons ((((p (pos 2) (pos 2)) ∷ (p (pos 3) (pos 2)) ∷ (p (pos 1) (pos 2)) ∷ (p (pos 2) (pos 1)) ∷ (p (pos 2) (pos 2)) ∷ []) ∷ []) ∷ [])) ∷ []) }) ∷ []) ∷ ((record { name = (codes "b"); kind = kind.Polygon; table = record { names = ((codes "n") ∷ (codes "pop") ∷ (codes "st") ∷ []); rows = (((Text (codes "Y")) ∷ (Num (pos 0)) ∷ Null ∷ []) ∷ (Null ∷ (Num (pos 2000000000000000000)) ∷ (Num (pos 1000000000000000000)) ∷ []) ∷ []) }; shapes = ((Polygons ((((p (pos 4) (pos 4)) ∷ (p (pos 2) (pos 1)) ∷ (p (pos 2) (pos 0)) ∷ (p (pos 4) (pos 4)) ∷ []) ∷ []) ∷ [])) ∷ (Polygons ((((p (pos 3) (pos 1)) ∷ (p (pos 1) (pos 0)) ∷ (p (pos 0) (pos 2)) ∷ (p (pos 3) (pos 1)) ∷ []) ∷ []) ∷ [])) ∷ []) }) ∷ []) ∷ []) ((codes "a.json") ∷ (codes "b.json") ∷ (codes "precision=1") ∷ (codes "-filter") ∷ (codes "remove-empty") ∷ (codes "target=a") ∷ (codes "-o") ∷ (codes "o.topojson") ∷ []) ≡ ((((record { name = (codes "a"); kind = kind.Polygon; table = record { names = ([]); rows = ([]) }; shapes = ([]) }) ∷ []) ∷ []), done)
unfolding numeral_of grid_of_text decimal_of_text places_of box_of_text digits decimal_text fraction_text trimmed_digits last_digits
c462 = refl

-- a.json b.json precision=1 -filter-fields -o o.topojson -o o.topojson
c463 : result (((record { name = (codes "a"); kind = kind.Line; table = record { names = ((codes "n") ∷ (codes "pop") ∷ (codes "st") ∷ []); rows = (((Text (codes "Y")) ∷ (Num (pos 3000000000000000000)) ∷ (Text (codes "Y")) ∷ []) ∷ []) }; shapes = ((Lines (((p (pos 0) (pos 3)) ∷ (p (pos 1) (pos 1)) ∷ (p (pos 1) (pos 3)) ∷ []) ∷ [])) ∷ []) }) ∷ []) ∷ ((record { name = (codes "b"); kind = kind.Line; table = record { names = ((codes "st") ∷ (codes "n") ∷ (codes "pop") ∷ []); rows = ((Null ∷ (Num (pos 1000000000000000000)) ∷ Null ∷ []) ∷ (Null ∷ (Num (pos 2000000000000000000)) ∷ (Num (pos 2000000000000000000)) ∷ []) ∷ []) }; shapes = ((Lines (((p (pos 0) (pos 3)) ∷ (p (pos 0) (pos 0)) ∷ []) ∷ [])) ∷ (Lines (((p (pos 2) (pos 1)) ∷ (p (pos 2) (pos 0)) ∷ (p (pos 3) (pos 3)) ∷ []) ∷ [])) ∷ []) }) ∷ []) ∷ []) ((codes "a.json") ∷ (codes "b.json") ∷ (codes "precision=1") ∷ (codes "-filter-fields") ∷ (codes "-o") ∷ (codes "o.topojson") ∷ (codes "-o") ∷ (codes "o.topojson") ∷ []) ≡ ((((record { name = (codes "a"); kind = kind.Line; table = record { names = ([]); rows = (([]) ∷ []) }; shapes = ((ways (((p (pos 0) (pos 3)) ∷ (p (pos 1) (pos 1)) ∷ (p (pos 1) (pos 3)) ∷ []) ∷ [])) ∷ []) }) ∷ (record { name = (codes "b"); kind = kind.Line; table = record { names = ([]); rows = (([]) ∷ ([]) ∷ []) }; shapes = ((ways (((p (pos 0) (pos 3)) ∷ (p (pos 0) (pos 0)) ∷ []) ∷ [])) ∷ (ways (((p (pos 2) (pos 1)) ∷ (p (pos 2) (pos 0)) ∷ (p (pos 2) (pos 1)) ∷ (p (pos 3) (pos 3)) ∷ []) ∷ [])) ∷ []) }) ∷ []) ∷ ((record { name = (codes "a"); kind = kind.Line; table = record { names = ([]); rows = (([]) ∷ []) }; shapes = ((ways (((p (pos 0) (pos 3)) ∷ (p (pos 1) (pos 1)) ∷ (p (pos 1) (pos 3)) ∷ []) ∷ [])) ∷ []) }) ∷ (record { name = (codes "b"); kind = kind.Line; table = record { names = ([]); rows = (([]) ∷ ([]) ∷ []) }; shapes = ((ways (((p (pos 0) (pos 3)) ∷ (p (pos 0) (pos 0)) ∷ []) ∷ [])) ∷ (ways (((p (pos 2) (pos 1)) ∷ (p (pos 2) (pos 0)) ∷ (p (pos 2) (pos 1)) ∷ (p (pos 3) (pos 3)) ∷ []) ∷ [])) ∷ []) }) ∷ []) ∷ []), done)
unfolding numeral_of grid_of_text decimal_of_text places_of box_of_text digits decimal_text fraction_text trimmed_digits last_digits
c463 = refl

-- a.json b.json precision=1 -dissolve group-points sum-fields=pop copy-fields=n n,st -filter remove-empty target=* -o o.topojson
c464 : result (((record { name = (codes "a"); kind = kind.Polygon; table = record { names = ([]); rows = (([]) ∷ []) }; shapes = ((Polygons ((((p (pos 0) (pos 4)) ∷ (p (pos 0) (pos 3)) ∷ (p (pos 0) (pos 0)) ∷ (p (pos 0) (pos 4)) ∷ []) ∷ []) ∷ [])) ∷ []) }) ∷ []) ∷ ((record { name = (codes "b"); kind = kind.Table; table = record { names = ((codes "n") ∷ (codes "st") ∷ (codes "pop") ∷ []); rows = (((Text (codes "X")) ∷ (Num (pos 2000000000000000000)) ∷ Null ∷ []) ∷ ((Num (pos 1000000000000000000)) ∷ (Text (codes "X")) ∷ Null ∷ []) ∷ []) }; shapes = (Nothing ∷ Nothing ∷ []) }) ∷ []) ∷ []) ((codes "a.json") ∷ (codes "b.json") ∷ (codes "precision=1") ∷ (codes "-dissolve") ∷ (codes "group-points") ∷ (codes "sum-fields=pop") ∷ (codes "copy-fields=n") ∷ (codes "n,st") ∷ (codes "-filter") ∷ (codes "remove-empty") ∷ (codes "target=*") ∷ (codes "-o") ∷ (codes "o.topojson") ∷ []) ≡ (([]), refused 1 (in_table (NoField 0)))
unfolding numeral_of grid_of_text decimal_of_text places_of box_of_text digits decimal_text fraction_text trimmed_digits last_digits
c464 = refl

-- a.json b.json precision=1 -filter remove-empty target=b -o o.topojson
c465 : result (((record { name = (codes "a"); kind = kind.Polygon; table = record { names = ((codes "n") ∷ (codes "pop") ∷ (codes "st") ∷ []); rows = ((Null ∷ (Num (pos 0)) ∷ (Text (codes "X")) ∷ []) ∷ (Null ∷ (Num (pos 3000000000000000000)) ∷ (Num (pos 1000000000000000000)) ∷ []) ∷ []) }; shapes = ((Polygons ((((p (pos 2) (pos 1)) ∷ (p (pos 3) (pos 4)) ∷ (p (pos 2) (pos 5)) ∷ (p (pos 2) (pos 1)) ∷ []) ∷ []) ∷ [])) ∷ (Polygons ((((p (pos 3) (pos 5)) ∷ (p (pos 3) (pos 0)) ∷ (p (pos 1) (pos 4)) ∷ (p (pos 3) (pos 5)) ∷ []) ∷ []) ∷ [])) ∷ []) }) ∷ []) ∷ ((record { name = (codes "b"); kind = kind.Polygon; table = record { names = ([]); rows = (([]) ∷ []) }; shapes = ((Polygons ((((p (pos 2) (pos 0)) ∷ (p (pos 3) (pos 4)) ∷ (p (pos 3) (pos 4)) ∷ (p (pos 1) (pos 4)) ∷ (p (pos 2) (pos 0)) ∷ []) ∷ []) ∷ [])) ∷ []) }) ∷ []) ∷ []) ((codes "a.json") ∷ (codes "b.json") ∷ (codes "precision=1") ∷ (codes "-filter") ∷ (codes "remove-empty") ∷ (codes "target=b") ∷ (codes "-o") ∷ (codes "o.topojson") ∷ []) ≡ ((((record { name = (codes "b"); kind = kind.Polygon; table = record { names = ([]); rows = (([]) ∷ []) }; shapes = ((edges ((s (p (pos 1) (pos 4)) (p (pos 2) (pos 2))) ∷ (s (p (pos 2) (pos 4)) (p (pos 1) (pos 4))) ∷ (s (p (pos 2) (pos 2)) (p (pos 3) (pos 4))) ∷ (s (p (pos 3) (pos 4)) (p (pos 2) (pos 4))) ∷ [])) ∷ []) }) ∷ []) ∷ []), done)
unfolding numeral_of grid_of_text decimal_of_text places_of box_of_text digits decimal_text fraction_text trimmed_digits last_digits
c465 = refl

-- a.json b.json precision=1 -erase b target=b -o o.topojson
c466 : result (((record { name = (codes "a"); kind = kind.Polygon; table = record { names = ([]); rows = (([]) ∷ ([]) ∷ ([]) ∷ []) }; shapes = ((Polygons ((((p (pos 3) (pos 3)) ∷ (p (pos 3) (pos 0)) ∷ (p (pos 2) (pos 3)) ∷ (p (pos 3) (pos 3)) ∷ []) ∷ []) ∷ [])) ∷ (Polygons ((((p (pos 2) (pos 0)) ∷ (p (pos 2) (pos 0)) ∷ (p (pos 4) (pos 4)) ∷ (p (pos 1) (pos 0)) ∷ (p (pos 2) (pos 0)) ∷ []) ∷ []) ∷ [])) ∷ (Polygons ((((p (pos 2) (pos 3)) ∷ (p (pos 3) (pos 4)) ∷ (p (pos 5) (pos 4)) ∷ (p (pos 2) (pos 3)) ∷ []) ∷ []) ∷ [])) ∷ []) }) ∷ []) ∷ ((record { name = (codes "b"); kind = kind.Polygon; table = record { names = ((codes "n") ∷ (codes "pop") ∷ (codes "st") ∷ []); rows = (((Num (pos 2000000000000000000)) ∷ (Num (pos 2000000000000000000)) ∷ (Text (codes "Y")) ∷ []) ∷ (Null ∷ (Num (pos 2000000000000000000)) ∷ Null ∷ []) ∷ []) }; shapes = ((Polygons ((((p (pos 2) (pos 2)) ∷ (p (pos 1) (pos 0)) ∷ (p (pos 2) (pos 2)) ∷ (p (pos 2) (pos 2)) ∷ []) ∷ []) ∷ [])) ∷ (Polygons ((((p (pos 1) (pos 1)) ∷ (p (pos 3) (pos 2)) ∷ (p (pos 3) (pos 3)) ∷ (p (pos 2) (pos 1)) ∷ (p (pos 1) (pos 1)) ∷ []) ∷ []) ∷ [])) ∷ []) }) ∷ []) ∷ []) ((codes "a.json") ∷ (codes "b.json") ∷ (codes "precision=1") ∷ (codes "-erase") ∷ (codes "b") ∷ (codes "target=b") ∷ (codes "-o") ∷ (codes "o.topojson") ∷ []) ≡ ((((record { name = (codes "b"); kind = kind.Polygon; table = record { names = ((codes "n") ∷ (codes "pop") ∷ (codes "st") ∷ []); rows = ([]) }; shapes = ([]) }) ∷ []) ∷ []), done)
unfolding numeral_of grid_of_text decimal_of_text places_of box_of_text digits decimal_text fraction_text trimmed_digits last_digits
c466 = refl

-- a.json b.json precision=1 -merge-layers force target=a -o o.topojson -o o.topojson
c467 : result (((record { name = (codes "a"); kind = kind.Polygon; table = record { names = ((codes "pop") ∷ (codes "st") ∷ (codes "n") ∷ []); rows = (((Num (pos 1000000000000000000)) ∷ (Num (pos 2000000000000000000)) ∷ Null ∷ []) ∷ ((Num (pos 2000000000000000000)) ∷ (Num (pos 2000000000000000000)) ∷ Null ∷ []) ∷ []) }; shapes = ((Polygons ((((p (pos 4) (pos 3)) ∷ (p (pos 3) (pos 2)) ∷ (p (pos 2) (pos 3)) ∷ (p (pos 4) (pos 3)) ∷ []) ∷ []) ∷ [])) ∷ (Polygons ((((p (pos 1) (pos 4)) ∷ (p (pos 3) (pos 1)) ∷ (p (pos 1) (pos 1)) ∷ (p (pos 1) (pos 4)) ∷ []) ∷ []) ∷ [])) ∷ []) }) ∷ []) ∷ ((record { name = (codes "b"); kind = kind.Polygon; table = record { names = ((codes "pop") ∷ (codes "n") ∷ (codes "st") ∷ []); rows = ((Null ∷ (Num (pos 1000000000000000000)) ∷ (Num (pos 2000000000000000000)) ∷ []) ∷ []) }; shapes = ((Polygons ((((p (pos 0) (pos 2)) ∷ (p (pos 0) (pos 3)) ∷ (p (pos 0) (pos 3)) ∷ (p (pos 0) (pos 4)) ∷ (p (pos 0) (pos 2)) ∷ []) ∷ []) ∷ [])) ∷ []) }) ∷ []) ∷ []) ((codes "a.json") ∷ (codes "b.json") ∷ (codes "precision=1") ∷ (codes "-merge-layers") ∷ (codes "force") ∷ (codes "target=a") ∷ (codes "-o") ∷ (codes "o.topojson") ∷ (codes "-o") ∷ (codes "o.topojson") ∷ []) ≡ ((((record { name = (codes "a"); kind = kind.Polygon; table = record { names = ((codes "pop") ∷ (codes "st") ∷ (codes "n") ∷ []); rows = (((Num (pos 1000000000000000000)) ∷ (Num (pos 2000000000000000000)) ∷ Null ∷ []) ∷ ((Num (pos 2000000000000000000)) ∷ (Num (pos 2000000000000000000)) ∷ Null ∷ []) ∷ []) }; shapes = ((edges ((s (p (pos 2) (pos 3)) (p (pos 3) (pos 2))) ∷ (s (p (pos 4) (pos 3)) (p (pos 2) (pos 3))) ∷ (s (p (pos 3) (pos 2)) (p (pos 4) (pos 3))) ∷ [])) ∷ (edges ((s (p (pos 1) (pos 4)) (p (pos 1) (pos 1))) ∷ (s (p (pos 1) (pos 1)) (p (pos 3) (pos 1))) ∷ (s (p (pos 2) (pos 3)) (p (pos 1) (pos 4))) ∷ (s (p (pos 3) (pos 2)) (p (pos 2) (pos 3))) ∷ (s (p (pos 3) (pos 1)) (p (pos 3) (pos 2))) ∷ [])) ∷ []) }) ∷ []) ∷ ((record { name = (codes "a"); kind = kind.Polygon; table = record { names = ((codes "pop") ∷ (codes "st") ∷ (codes "n") ∷ []); rows = (((Num (pos 1000000000000000000)) ∷ (Num (pos 2000000000000000000)) ∷ Null ∷ []) ∷ ((Num (pos 2000000000000000000)) ∷ (Num (pos 2000000000000000000)) ∷ Null ∷ []) ∷ []) }; shapes = ((edges ((s (p (pos 2) (pos 3)) (p (pos 3) (pos 2))) ∷ (s (p (pos 4) (pos 3)) (p (pos 2) (pos 3))) ∷ (s (p (pos 3) (pos 2)) (p (pos 4) (pos 3))) ∷ [])) ∷ (edges ((s (p (pos 1) (pos 4)) (p (pos 1) (pos 1))) ∷ (s (p (pos 1) (pos 1)) (p (pos 3) (pos 1))) ∷ (s (p (pos 2) (pos 3)) (p (pos 1) (pos 4))) ∷ (s (p (pos 3) (pos 2)) (p (pos 2) (pos 3))) ∷ (s (p (pos 3) (pos 1)) (p (pos 3) (pos 2))) ∷ [])) ∷ []) }) ∷ []) ∷ []), done)
unfolding numeral_of grid_of_text decimal_of_text places_of box_of_text digits decimal_text fraction_text trimmed_digits last_digits
c467 = refl

-- a.json b.json precision=1 -filter remove-empty target=a -o o.topojson -o o.topojson
c468 : result (((record { name = (codes "a"); kind = kind.Point; table = record { names = ((codes "n") ∷ (codes "pop") ∷ (codes "st") ∷ []); rows = (((Text (codes "X")) ∷ Null ∷ (Num (pos 2000000000000000000)) ∷ []) ∷ ((Text (codes "X")) ∷ (Num (pos 2000000000000000000)) ∷ Null ∷ []) ∷ ((Text (codes "X")) ∷ Null ∷ (Text (codes "Y")) ∷ []) ∷ []) }; shapes = ((Points ((p (pos 5) (pos 2)) ∷ [])) ∷ (Points ((p (pos 3) (pos 1)) ∷ [])) ∷ (Points ((p (pos 2) (pos 1)) ∷ [])) ∷ []) }) ∷ []) ∷ ((record { name = (codes "b"); kind = kind.Polygon; table = record { names = ((codes "st") ∷ (codes "pop") ∷ (codes "n") ∷ []); rows = (((Text (codes "Y")) ∷ (Num (pos 2000000000000000000)) ∷ Null ∷ []) ∷ ((Num (pos 1000000000000000000)) ∷ (Num (pos 2000000000000000000)) ∷ (Num (pos 1000000000000000000)) ∷ []) ∷ []) }; shapes = ((Polygons ((((p (pos 0) (pos 3)) ∷ (p (pos 4) (pos 0)) ∷ (p (pos 0) (pos 0)) ∷ (p (pos 1) (pos 2)) ∷ (p (pos 0) (pos 3)) ∷ []) ∷ []) ∷ [])) ∷ (Polygons ((((p (pos 0) (pos 4)) ∷ (p (pos 3) (pos 1)) ∷ (p (pos 3) (pos 4)) ∷ (p (pos 0) (pos 4)) ∷ (p (pos 0) (pos 4)) ∷ []) ∷ []) ∷ [])) ∷ []) }) ∷ []) ∷ []) ((codes "a.json") ∷ (codes "b.json") ∷ (codes "precision=1") ∷ (codes "-filter") ∷ (codes "remove-empty") ∷ (codes "target=a") ∷ (codes "-o") ∷ (codes "o.topojson") ∷ (codes "-o") ∷ (codes "o.topojson") ∷ []) ≡ ((((record { name = (codes "a"); kind = kind.Point; table = record { names = ((codes "n") ∷ (codes "pop") ∷ (codes "st") ∷ []); rows = (((Text (codes "X")) ∷ Null ∷ (Num (pos 2000000000000000000)) ∷ []) ∷ ((Text (codes "X")) ∷ (Num (pos 2000000000000000000)) ∷ Null ∷ []) ∷ ((Text (codes "X")) ∷ Null ∷ (Text (codes "Y")) ∷ []) ∷ []) }; shapes = ((spots ((p (pos 5) (pos 2)) ∷ [])) ∷ (spots ((p (pos 3) (pos 1)) ∷ [])) ∷ (spots ((p (pos 2) (pos 1)) ∷ [])) ∷ []) }) ∷ []) ∷ ((record { name = (codes "a"); kind = kind.Point; table = record { names = ((codes "n") ∷ (codes "pop") ∷ (codes "st") ∷ []); rows = (((Text (codes "X")) ∷ Null ∷ (Num (pos 2000000000000000000)) ∷ []) ∷ ((Text (codes "X")) ∷ (Num (pos 2000000000000000000)) ∷ Null ∷ []) ∷ ((Text (codes "X")) ∷ Null ∷ (Text (codes "Y")) ∷ []) ∷ []) }; shapes = ((spots ((p (pos 5) (pos 2)) ∷ [])) ∷ (spots ((p (pos 3) (pos 1)) ∷ [])) ∷ (spots ((p (pos 2) (pos 1)) ∷ [])) ∷ []) }) ∷ []) ∷ []), done)
unfolding numeral_of grid_of_text decimal_of_text places_of box_of_text digits decimal_text fraction_text trimmed_digits last_digits
c468 = refl

-- a.json b.json precision=1 -innerlines -o o.topojson -filter remove-empty -o o.topojson -o o.topojson
c469 : result (((record { name = (codes "a"); kind = kind.Polygon; table = record { names = ((codes "n") ∷ (codes "st") ∷ (codes "pop") ∷ []); rows = (((Num (pos 2000000000000000000)) ∷ (Num (pos 2000000000000000000)) ∷ Null ∷ []) ∷ []) }; shapes = ((Polygons ((((p (pos 3) (pos 3)) ∷ (p (pos 3) (pos 2)) ∷ (p (pos 2) (pos 2)) ∷ (p (pos 0) (pos 2)) ∷ (p (pos 3) (pos 3)) ∷ []) ∷ []) ∷ [])) ∷ []) }) ∷ []) ∷ ((record { name = (codes "b"); kind = kind.Polygon; table = record { names = ((codes "pop") ∷ (codes "n") ∷ (codes "st") ∷ []); rows = (((Num (pos 0)) ∷ (Text (codes "Y")) ∷ Null ∷ []) ∷ ((Num (pos 0)) ∷ (Text (codes "Y")) ∷ Null ∷ []) ∷ []) }; shapes = ((Polygons ((((p (pos 2) (pos 2)) ∷ (p (pos 0) (pos 2)) ∷ (p (pos 2) (pos 1)) ∷ (p (pos 2) (pos 2)) ∷ []) ∷ []) ∷ [])) ∷ (Polygons ((((p (pos 4) (pos 3)) ∷ (p (pos 2) (pos 5)) ∷ (p (pos 0) (pos 4)) ∷ (p (pos 4) (pos 3)) ∷ []) ∷ []) ∷ [])) ∷ []) }) ∷ []) ∷ []) ((codes "a.json") ∷ (codes "b.json") ∷ (codes "precision=1") ∷ (codes "-innerlines") ∷ (codes "-o") ∷ (codes "o.topojson") ∷ (codes "-filter") ∷ (codes "remove-empty") ∷ (codes "-o") ∷ (codes "o.topojson") ∷ (codes "-o") ∷ (codes "o.topojson") ∷ []) ≡ ((((record { name = (codes "a"); kind = kind.Line; table = record { names = ([]); rows = ([]) }; shapes = ([]) }) ∷ (record { name = (codes "b"); kind = kind.Line; table = record { names = ([]); rows = ([]) }; shapes = ([]) }) ∷ []) ∷ ((record { name = (codes "a"); kind = kind.Line; table = record { names = ([]); rows = ([]) }; shapes = ([]) }) ∷ (record { name = (codes "b"); kind = kind.Line; table = record { names = ([]); rows = ([]) }; shapes = ([]) }) ∷ []) ∷ ((record { name = (codes "a"); kind = kind.Line; table = record { names = ([]); rows = ([]) }; shapes = ([]) }) ∷ (record { name = (codes "b"); kind = kind.Line; table = record { names = ([]); rows = ([]) }; shapes = ([]) }) ∷ []) ∷ []), done)
unfolding numeral_of grid_of_text decimal_of_text places_of box_of_text digits decimal_text fraction_text trimmed_digits last_digits
c469 = refl

-- a.json b.json precision=1 -join b keys=n,st force target=* -o o.topojson
c470 : result (((record { name = (codes "a"); kind = kind.Table; table = record { names = ([]); rows = (([]) ∷ ([]) ∷ ([]) ∷ []) }; shapes = (Nothing ∷ Nothing ∷ Nothing ∷ []) }) ∷ []) ∷ ((record { name = (codes "b"); kind = kind.Polygon; table = record { names = ((codes "n") ∷ (codes "pop") ∷ (codes "st") ∷ []); rows = ((Null ∷ (Num (pos 0)) ∷ (Text (codes "X")) ∷ []) ∷ (Null ∷ (Num (pos 2000000000000000000)) ∷ Null ∷ []) ∷ []) }; shapes = ((Polygons ((((p (pos 0) (pos 0)) ∷ (p (pos 3) (pos 0)) ∷ (p (pos 1) (pos 0)) ∷ (p (pos 0) (pos 1)) ∷ (p (pos 0) (pos 0)) ∷ []) ∷ []) ∷ [])) ∷ (Polygons ((((p (pos 0) (pos 3)) ∷ (p (pos 0) (pos 0)) ∷ (p (pos 1) (pos 3)) ∷ (p (pos 1) (pos 3)) ∷ (p (pos 0) (pos 3)) ∷ []) ∷ []) ∷ [])) ∷ []) }) ∷ []) ∷ []) ((codes "a.json") ∷ (codes "b.json") ∷ (codes "precision=1") ∷ (codes "-join") ∷ (codes "b") ∷ (codes "keys=n,st") ∷ (codes "force") ∷ (codes "target=*") ∷ (codes "-o") ∷ (codes "o.topojson") ∷ []) ≡ (([]), refused 1 (in_table (NoField 0)))
unfolding numeral_of grid_of_text decimal_of_text places_of box_of_text digits decimal_text fraction_text trimmed_digits last_digits
c470 = refl

-- a.json b.json precision=1 -merge-layers force -o o.topojson -o o.topojson
c471 : result (((record { name = (codes "a"); kind = kind.Polygon; table = record { names = ((codes "st") ∷ []); rows = (((Num (pos 1000000000000000000)) ∷ []) ∷ ((Num (pos 1000000000000000000)) ∷ []) ∷ []) }; shapes = ((Polygons ((((p (pos 4) (pos 4)) ∷ (p (pos 3) (pos 3)) ∷ (p (pos 3) (pos 3)) ∷ (p (pos 1) (pos 2)) ∷ (p (pos 4) (pos 4)) ∷ []) ∷ []) ∷ [])) ∷ (Polygons ((((p (pos 0) (pos 3)) ∷ (p (pos 2) (pos 1)) ∷ (p (pos 3) (pos 4)) ∷ (p (pos 1) (pos 1)) ∷ (p (pos 0) (pos 3)) ∷ []) ∷ []) ∷ [])) ∷ []) }) ∷ []) ∷ ((record { name = (codes "b"); kind = kind.Polygon; table = record { names = ((codes "pop") ∷ (codes "st") ∷ (codes "n") ∷ []); rows = ((Null ∷ (Num (pos 1000000000000000000)) ∷ (Text (codes "X")) ∷ []) ∷ []) }; shapes = ((Polygons ((((p (pos 1) (pos 2)) ∷ (p (pos 3) (pos 1)) ∷ (p (pos 3) (pos 5)) ∷ (p (pos 1) (pos 2)) ∷ []) ∷ []) ∷ [])) ∷ []) }) ∷ []) ∷ []) ((codes "a.json") ∷ (codes "b.json") ∷ (codes "precision=1") ∷ (codes "-merge-layers") ∷ (codes "force") ∷ (codes "-o") ∷ (codes "o.topojson") ∷ (codes "-o") ∷ (codes "o.topojson") ∷ []) ≡ ((((record { name = (codes "a"); kind = kind.Polygon; table = record { names = ((codes "st") ∷ (codes "pop") ∷ (codes "n") ∷ []); rows = (((Num (pos 1000000000000000000)) ∷ Null ∷ Null ∷ []) ∷ ((Num (pos 1000000000000000000)) ∷ Null ∷ Null ∷ []) ∷ ((Num (pos 1000000000000000000)) ∷ Null ∷ (Text (codes "X")) ∷ []) ∷ []) }; shapes = ((edges ((s (p (pos 3) (pos 4)) (p (pos 3) (pos 3))) ∷ (s (p (pos 3) (pos 3)) (p (pos 4) (pos 4))) ∷ (s (p (pos 4) (pos 4)) (p (pos 3) (pos 4))) ∷ [])) ∷ (edges ((s (p (pos 2) (pos 3)) (p (pos 2) (pos 2))) ∷ (s (p (pos 2) (pos 2)) (p (pos 3) (pos 3))) ∷ (s (p (pos 3) (pos 3)) (p (pos 2) (pos 3))) ∷ [])) ∷ (edges ((s (p (pos 1) (pos 2)) (p (pos 2) (pos 2))) ∷ (s (p (pos 2) (pos 3)) (p (pos 1) (pos 2))) ∷ (s (p (pos 2) (pos 2)) (p (pos 2) (pos 1))) ∷ (s (p (pos 2) (pos 1)) (p (pos 3) (pos 1))) ∷ (s (p (pos 3) (pos 4)) (p (pos 2) (pos 3))) ∷ (s (p (pos 3) (pos 1)) (p (pos 3) (pos 3))) ∷ (s (p (pos 3) (pos 3)) (p (pos 3) (pos 4))) ∷ [])) ∷ []) }) ∷ []) ∷ ((record { name = (codes "a"); kind = kind.Polygon; table = record { names = ((codes "st") ∷ (codes "pop") ∷ (codes "n") ∷ []); rows = (((Num (pos 1000000000000000000)) ∷ Null ∷ Null ∷ []) ∷ ((Num (pos 1000000000000000000)) ∷ Null ∷ Null ∷ []) ∷ ((Num (pos 1000000000000000000)) ∷ Null ∷ (Text (codes "X")) ∷ []) ∷ []) }; shapes = ((edges ((s (p (pos 3) (pos 4)) (p (pos 3) (pos 3))) ∷ (s (p (pos 3) (pos 3)) (p (pos 4) (pos 4))) ∷ (s (p (pos 4) (pos 4)) (p (pos 3) (pos 4))) ∷ [])) ∷ (edges ((s (p (pos 2) (pos 3)) (p (pos 2) (pos 2))) ∷ (s (p (pos 2) (pos 2)) (p (pos 3) (pos 3))) ∷ (s (p (pos 3) (pos 3)) (p (pos 2) (pos 3))) ∷ [])) ∷ (edges ((s (p (pos 1) (pos 2)) (p (pos 2) (pos 2))) ∷ (s (p (pos 2) (pos 3)) (p (pos 1) (pos 2))) ∷ (s (p (pos 2) (pos 2)) (p (pos 2) (pos 1))) ∷ (s (p (pos 2) (pos 1)) (p (pos 3) (pos 1))) ∷ (s (p (pos 3) (pos 4)) (p (pos 2) (pos 3))) ∷ (s (p (pos 3) (pos 1)) (p (pos 3) (pos 3))) ∷ (s (p (pos 3) (pos 3)) (p (pos 3) (pos 4))) ∷ [])) ∷ []) }) ∷ []) ∷ []), done)
unfolding numeral_of grid_of_text decimal_of_text places_of box_of_text digits decimal_text fraction_text trimmed_digits last_digits
c471 = refl

-- a.json b.json precision=1 -clean allow-empty + -o o.topojson
c472 : result (((record { name = (codes "a"); kind = kind.Polygon; table = record { names = ((codes "st") ∷ (codes "n") ∷ (codes "pop") ∷ []); rows = ((Null ∷ (Num (pos 1000000000000000000)) ∷ (Num (pos 0)) ∷ []) ∷ (Null ∷ Null ∷ Null ∷ []) ∷ []) }; shapes = ((Polygons ((((p (pos 2) (pos 2)) ∷ (p (pos 3) (pos 0)) ∷ (p (pos 2) (pos 1)) ∷ (p (pos 2) (pos 2)) ∷ []) ∷ []) ∷ [])) ∷ (Polygons ((((p (pos 2) (pos 0)) ∷ (p (pos 2) (pos 0)) ∷ (p (pos 1) (pos 3)) ∷ (p (pos 2) (pos 0)) ∷ []) ∷ []) ∷ [])) ∷ []) }) ∷ []) ∷ ((record { name = (codes "b"); kind = kind.Point; table = record { names = ((codes "pop") ∷ (codes "st") ∷ (codes "n") ∷ []); rows = (((Num (pos 2000000000000000000)) ∷ (Num (pos 1000000000000000000)) ∷ (Text (codes "Y")) ∷ []) ∷ []) }; shapes = ((Points ((p (pos 1) (pos 1)) ∷ [])) ∷ []) }) ∷ []) ∷ []) ((codes "a.json") ∷ (codes "b.json") ∷ (codes "precision=1") ∷ (codes "-clean") ∷ (codes "allow-empty") ∷ (codes "+") ∷ (codes "-o") ∷ (codes "o.topojson") ∷ []) ≡ (([]), refused 1 wrong_kind)
unfolding numeral_of grid_of_text decimal_of_text places_of box_of_text digits decimal_text fraction_text trimmed_digits last_digits
c472 = refl

-- a.json b.json precision=1 -innerlines target=a -dissolve group-points + -o o.topojson -o o.topojson
c473 : result (((record { name = (codes "a"); kind = kind.Polygon; table = record { names = ((codes "st") ∷ (codes "n") ∷ []); rows = (((Text (codes "X")) ∷ Null ∷ []) ∷ ((Text (codes "X")) ∷ (Text (codes "X")) ∷ []) ∷ []) }; shapes = ((Polygons ((((p (pos 2) (pos 3)) ∷ (p (pos 0) (pos 4)) ∷ (p (pos 2) (pos 4)) ∷ (p (pos 4) (pos 1)) ∷ (p (pos 2) (pos 3)) ∷ []) ∷ []) ∷ [])) ∷ (Polygons ((((p (pos 3) (pos 3)) ∷ (p (pos 1) (pos 3)) ∷ (p (pos 3) (pos 1)) ∷ (p (pos 3) (pos 3)) ∷ []) ∷ []) ∷ [])) ∷ []) }) ∷ []) ∷ ((record { name = (codes "b"); kind = kind.Polygon; table = record { names = ((codes "n") ∷ (codes "st") ∷ (codes "pop") ∷ []); rows = (((Text (codes "Y")) ∷ (Text (codes "X")) ∷ Null ∷ []) ∷ ((Num (pos 2000000000000000000)) ∷ Null ∷ Null ∷ []) ∷ ((Text (codes "Y")) ∷ (Num (pos 1000000000000000000)) ∷ (Num (pos 3000000000000000000)) ∷ []) ∷ []) }; shapes = ((Polygons ((((p (pos 3) (pos 1)) ∷ (p (pos 3) (pos 3)) ∷ (p (pos 2) (pos 3)) ∷ (p (pos 3) (pos 1)) ∷ []) ∷ []) ∷ [])) ∷ (Polygons ((((p (pos 1) (pos 3)) ∷ (p (pos 2) (pos 2)) ∷ (p (pos 1) (pos 2)) ∷ (p (pos 1) (pos 3)) ∷ []) ∷ []) ∷ [])) ∷ (Polygons ((((p (pos 1) (pos 1)) ∷ (p (pos 3) (pos 3)) ∷ (p (pos 0) (pos 0)) ∷ (p (pos 1) (pos 1)) ∷ []) ∷ []) ∷ [])) ∷ []) }) ∷ []) ∷ []) ((codes "a.json") ∷ (codes "b.json") ∷ (codes "precision=1") ∷ (codes "-innerlines") ∷ (codes "target=a") ∷ (codes "-dissolve") ∷ (codes "group-points") ∷ (codes "+") ∷ (codes "-o") ∷ (codes "o.topojson") ∷ (codes "-o") ∷ (codes "o.topojson") ∷ []) ≡ ((((record { name = (codes "a"); kind = kind.Line; table = record { names = ([]); rows = ([]) }; shapes = ([]) }) ∷ []) ∷ ((record { name = (codes "a"); kind = kind.Line; table = record { names = ([]); rows = ([]) }; shapes = ([]) }) ∷ []) ∷ []), done)
unfolding numeral_of grid_of_text decimal_of_text places_of box_of_text digits decimal_text fraction_text trimmed_digits last_digits
c473 = refl

-- a.json b.json precision=1 -clip s.json + -o o.topojson -o o.topojson
c474 : result (((record { name = (codes "a"); kind = kind.Polygon; table = record { names = ((codes "st") ∷ (codes "n") ∷ (codes "pop") ∷ []); rows = (((Num (pos 1000000000000000000)) ∷ (Num (pos 1000000000000000000)) ∷ Null ∷ []) ∷ (Null ∷ (Text (codes "X")) ∷ (Num (pos 3000000000000000000)) ∷ []) ∷ []) }; shapes = ((Polygons ((((p (pos 1) (pos 0)) ∷ (p (pos 3) (pos 3)) ∷ (p (pos 3) (pos 2)) ∷ (p (pos 1) (pos 0)) ∷ []) ∷ []) ∷ [])) ∷ (Polygons ((((p (pos 0) (pos 2)) ∷ (p (pos 3) (pos 1)) ∷ (p (pos 0) (pos 1)) ∷ (p (pos 0) (pos 0)) ∷ (p (pos 0) (pos 2)) ∷ []) ∷ []) ∷ [])) ∷ []) }) ∷ []) ∷ ((record { name = (codes "b"); kind = kind.Polygon; table = record { names = ((codes "st") ∷ (codes "pop") ∷ (codes "n") ∷ []); rows = (((Text (codes "Y")) ∷ (Num (pos 0)) ∷ (Text (codes "Y")) ∷ []) ∷ []) }; shapes = ((Polygons ((((p (pos 1) (pos 3)) ∷ (p (pos 0) (pos 4)) ∷ (p (pos 0) (pos 0)) ∷ (p (pos 1) (pos 3)) ∷ []) ∷ []) ∷ [])) ∷ []) }) ∷ []) ∷ ((record { name = (codes "s"); kind = kind.Line; table = record { names = ((codes "n") ∷ (codes "pop") ∷ []); rows = (((Num (pos 1000000000000000000)) ∷ (Num (pos 0)) ∷ []) ∷ ((Text (codes "X")) ∷ (Num (pos 2000000000000000000)) ∷ []) ∷ (Null ∷ (Num (pos 3000000000000000000)) ∷ []) ∷ []) }; shapes = ((Lines (((p (pos 3) (pos 4)) ∷ (p (pos 3) (pos 2)) ∷ []) ∷ [])) ∷ (Lines (((p (pos 2) (pos 2)) ∷ (p (pos 3) (pos 4)) ∷ []) ∷ ((p (pos 3) (pos 4)) ∷ (p (pos 2) (pos 3)) ∷ (p (pos 0) (pos 1)) ∷ []) ∷ [])) ∷ (Lines (((p (pos 0) (pos 3)) ∷ (p (pos 1) (pos 1)) ∷ []) ∷ [])) ∷ []) }) ∷ []) ∷ []) ((codes "a.json") ∷ (codes "b.json") ∷ (codes "precision=1") ∷ (codes "-clip") ∷ (codes "s.json") ∷ (codes "+") ∷ (codes "-o") ∷ (codes "o.topojson") ∷ (codes "-o") ∷ (codes "o.topojson") ∷ []) ≡ (([]), refused 1 wrong_kind)
unfolding numeral_of grid_of_text decimal_of_text places_of box_of_text digits decimal_text fraction_text trimmed_digits last_digits
c474 = refl

-- a.json b.json precision=1 -clip s.json name=w -o o.topojson
c475 : result (((record { name = (codes "a"); kind = kind.Polygon; table = record { names = ((codes "pop") ∷ (codes "n") ∷ (codes "st") ∷ []); rows = ((Null ∷ (Text (codes "Y")) ∷ (Num (pos 1000000000000000000)) ∷ []) ∷ []) }; shapes = ((Polygons ((((p (pos 2) (pos 2)) ∷ (p (pos 2) (pos 0)) ∷ (p (pos 1) (pos 1)) ∷ (p (pos 2) (pos 2)) ∷ []) ∷ []) ∷ [])) ∷ []) }) ∷ []) ∷ ((record { name = (codes "b"); kind = kind.Polygon; table = record { names = ([]); rows = (([]) ∷ []) }; shapes = ((Polygons ((((p (pos 2) (pos 1)) ∷ (p (pos 3) (pos 0)) ∷ (p (pos 1) (pos 3)) ∷ (p (pos 2) (pos 1)) ∷ []) ∷ []) ∷ [])) ∷ []) }) ∷ []) ∷ ((record { name = (codes "s"); kind = kind.Polygon; table = record { names = ((codes "pop") ∷ (codes "st") ∷ (codes "n") ∷ []); rows = ((Null ∷ (Text (codes "Y")) ∷ (Text (codes "X")) ∷ []) ∷ ((Num (pos 3000000000000000000)) ∷ (Text (codes "X")) ∷ Null ∷ []) ∷ []) }; shapes = ((Polygons ((((p (pos 0) (pos 2)) ∷ (p (pos 2) (pos 2)) ∷ (p (pos 3) (pos 2)) ∷ (p (pos 0) (pos 2)) ∷ []) ∷ []) ∷ [])) ∷ (Polygons ((((p (pos 3) (pos 3)) ∷ (p (pos 1) (pos 1)) ∷ (p (pos 1) (pos 0)) ∷ (p (pos 3) (pos 3)) ∷ []) ∷ []) ∷ [])) ∷ []) }) ∷ []) ∷ []) ((codes "a.json") ∷ (codes "b.json") ∷ (codes "precision=1") ∷ (codes "-clip") ∷ (codes "s.json") ∷ (codes "name=w") ∷ (codes "-o") ∷ (codes "o.topojson") ∷ []) ≡ (([]), refused 2 name_twice)
unfolding numeral_of grid_of_text decimal_of_text places_of box_of_text digits decimal_text fraction_text trimmed_digits last_digits
c475 = refl

-- a.json b.json precision=1 -merge-layers + -join b keys=n,st force -o o.topojson -o o.topojson
c476 : result (((record { name = (codes "a"); kind = kind.Table; table = record { names = ([]); rows = (([]) ∷ ([]) ∷ ([]) ∷ []) }; shapes = (Nothing ∷ Nothing ∷ Nothing ∷ []) }) ∷ []) ∷ ((record { name = (codes "b"); kind = kind.Table; table = record { names = ((codes "st") ∷ (codes "pop") ∷ (codes "n") ∷ []); rows = ((Null ∷ Null ∷ (Num (pos 2000000000000000000)) ∷ []) ∷ []) }; shapes = (Nothing ∷ []) }) ∷ []) ∷ []) ((codes "a.json") ∷ (codes "b.json") ∷ (codes "precision=1") ∷ (codes "-merge-layers") ∷ (codes "+") ∷ (codes "-join") ∷ (codes "b") ∷ (codes "keys=n,st") ∷ (codes "force") ∷ (codes "-o") ∷ (codes "o.topojson") ∷ (codes "-o") ∷ (codes "o.topojson") ∷ []) ≡ (([]), refused 1 (in_table (FieldsDiffer 1)))
unfolding numeral_of grid_of_text decimal_of_text places_of box_of_text digits decimal_text fraction_text trimmed_digits last_digits
c476 = refl

-- a.json b.json precision=1 -clean overlap-rule=min-area target=b -o o.topojson -lines + -o o.topojson
c477 : result (((record { name = (codes "a"); kind = kind.Line; table = record { names = ((codes "n") ∷ (codes "pop") ∷ (codes "st") ∷ []); rows = (((Text (codes "X")) ∷ (Num (pos 3000000000000000000)) ∷ (Text (codes "Y")) ∷ []) ∷ ((Num (pos 2000000000000000000)) ∷ (Num (pos 1000000000000000000)) ∷ (Num (pos 2000000000000000000)) ∷ []) ∷ []) }; shapes = ((Lines (((p (pos 0) (pos 2)) ∷ (p (pos 2) (pos 0)) ∷ (p (pos 5) (pos 4)) ∷ []) ∷ [])) ∷ (Lines (((p (pos 0) (pos 0)) ∷ (p (pos 1) (pos 2)) ∷ (p (pos 1) (pos 1)) ∷ []) ∷ [])) ∷ []) }) ∷ []) ∷ ((record { name = (codes "b"); kind = kind.Polygon; table = record { names = ((codes "st") ∷ (codes "n") ∷ []); rows = (((Num (pos 1000000000000000000)) ∷ (Num (pos 1000000000000000000)) ∷ []) ∷ ((Num (pos 2000000000000000000)) ∷ (Text (codes "X")) ∷ []) ∷ []) }; shapes = ((Polygons ((((p (pos 2) (pos 2)) ∷ (p (pos 1) (pos 0)) ∷ (p (pos 1) (pos 3)) ∷ (p (pos 2) (pos 0)) ∷ (p (pos 2) (pos 2)) ∷ []) ∷ []) ∷ [])) ∷ (Polygons ((((p (pos 1) (pos 3)) ∷ (p (pos 0) (pos 0)) ∷ (p (pos 1) (pos 1)) ∷ (p (pos 0) (pos 0)) ∷ (p (pos 1) (pos 3)) ∷ []) ∷ []) ∷ [])) ∷ []) }) ∷ []) ∷ []) ((codes "a.json") ∷ (codes "b.json") ∷ (codes "precision=1") ∷ (codes "-clean") ∷ (codes "overlap-rule=min-area") ∷ (codes "target=b") ∷ (codes "-o") ∷ (codes "o.topojson") ∷ (codes "-lines") ∷ (codes "+") ∷ (codes "-o") ∷ (codes "o.topojson") ∷ []) ≡ ((((record { name = (codes "b"); kind = kind.Polygon; table = record { names = ((codes "st") ∷ (codes "n") ∷ []); rows = (((Num (pos 1000000000000000000)) ∷ (Num (pos 1000000000000000000)) ∷ []) ∷ []) }; shapes = ((edges ((s (p (pos 1) (pos 2)) (p (pos 1) (pos 1))) ∷ (s (p (pos 1) (pos 1)) (p (pos 2) (pos 1))) ∷ (s (p (pos 2) (pos 2)) (p (pos 1) (pos 2))) ∷ (s (p (pos 2) (pos 1)) (p (pos 2) (pos 2))) ∷ [])) ∷ []) }) ∷ []) ∷ ((record { name = (codes "b"); kind = kind.Line; table = record { names = ((codes "TYPE") ∷ (codes "RANK") ∷ []); rows = (((Text (codes "outer")) ∷ (Num (pos 0)) ∷ []) ∷ ((Text (codes "outer")) ∷ (Num (pos 0)) ∷ []) ∷ ((Text (codes "outer")) ∷ (Num (pos 0)) ∷ []) ∷ ((Text (codes "outer")) ∷ (Num (pos 0)) ∷ []) ∷ []) }; shapes = ((ways (((p (pos 2) (pos 1)) ∷ (p (pos 2) (pos 2)) ∷ []) ∷ [])) ∷ (ways (((p (pos 1) (pos 1)) ∷ (p (pos 2) (pos 1)) ∷ []) ∷ [])) ∷ (ways (((p (pos 1) (pos 1)) ∷ (p (pos 1) (pos 2)) ∷ []) ∷ [])) ∷ (ways (((p (pos 1) (pos 2)) ∷ (p (pos 2) (pos 2)) ∷ []) ∷ [])) ∷ []) }) ∷ []) ∷ []), done)
unfolding numeral_of grid_of_text decimal_of_text places_of box_of_text digits decimal_text fraction_text trimmed_digits last_digits
c477 = refl

-- a.json b.json precision=1 -filter-fields -o o.topojson -erase b target=a -o o.topojson
c478 : result (((record { name = (codes "a"); kind = kind.Polygon; table = record { names = ((codes "n") ∷ (codes "st") ∷ (codes "pop") ∷ []); rows = (((Text (codes "X")) ∷ (Text (codes "X")) ∷ (Num (pos 1000000000000000000)) ∷ []) ∷ (Null ∷ Null ∷ Null ∷ []) ∷ ((Text (codes "X")) ∷ Null ∷ (Num (pos 2000000000000000000)) ∷ []) ∷ []) }; shapes = ((Polygons ((((p (pos 1) (pos 3)) ∷ (p (pos 5) (pos 3)) ∷ (p (pos 2) (pos 3)) ∷ (p (pos 0) (pos 5)) ∷ (p (pos 1) (pos 3)) ∷ []) ∷ []) ∷ [])) ∷ (Polygons ((((p (pos 5) (pos 0)) ∷ (p (pos 4) (pos 2)) ∷ (p (pos 0) (pos 3)) ∷ (p (pos 5) (pos 0)) ∷ []) ∷ []) ∷ [])) ∷ (Polygons ((((p (pos 4) (pos 0)) ∷ (p (pos 1) (pos 5)) ∷ (p (pos 2) (pos 1)) ∷ (p (pos 3) (pos 4)) ∷ (p (pos 4) (pos 0)) ∷ []) ∷ []) ∷ [])) ∷ []) }) ∷ []) ∷ ((record { name = (codes "b"); kind = kind.Polygon; table = record { names = ((codes "st") ∷ []); rows = (((Num (pos 2000000000000000000)) ∷ []) ∷ ((Num (pos 1000000000000000000)) ∷ []) ∷ ((Num (pos 1000000000000000000)) ∷ []) ∷ []) }; shapes = ((Polygons ((((p (pos 2) (pos 0)) ∷ (p (pos 1) (pos 4)) ∷ (p (pos 3) (pos 1)) ∷ (p (pos 3) (pos 4)) ∷ (p (pos 2) (pos 0)) ∷ []) ∷ []) ∷ [])) ∷ (Polygons ((((p (pos 2) (pos 3)) ∷ (p (pos 1) (pos 3)) ∷ (p (pos 0) (pos 2)) ∷ (p (pos 1) (pos 4)) ∷ (p (pos 2) (pos 3)) ∷ []) ∷ []) ∷ [])) ∷ Nothing ∷ []) }) ∷ []) ∷ []) ((codes "a.json") ∷ (codes "b.json") ∷ (codes "precision=1") ∷ (codes "-filter-fields") ∷ (codes "-o") ∷ (codes "o.topojson") ∷ (codes "-erase") ∷ (codes "b") ∷ (codes "target=a") ∷ (codes "-o") ∷ (codes "o.topojson") ∷ []) ≡ ((((record { name = (codes "a"); kind = kind.Polygon; table = record { names = ([]); rows = (([]) ∷ ([]) ∷ ([]) ∷ []) }; shapes = ((edges ((s (p (pos 0) (pos 5)) (p (pos 1) (pos 4))) ∷ (s (p (pos 1) (pos 5)) (p (pos 0) (pos 5))) ∷ (s (p (pos 1) (pos 4)) (p (pos 1) (pos 3))) ∷ (s (p (pos 1) (pos 3)) (p (pos 2) (pos 3))) ∷ (s (p (pos 1) (pos 4)) (p (pos 1) (pos 5))) ∷ (s (p (pos 2) (pos 3)) (p (pos 1) (pos 4))) ∷ [])) ∷ (edges ((s (p (pos 1) (pos 3)) (p (pos 1) (pos 2))) ∷ (s (p (pos 1) (pos 2)) (p (pos 2) (pos 2))) ∷ (s (p (pos 2) (pos 3)) (p (pos 1) (pos 3))) ∷ (s (p (pos 2) (pos 2)) (p (pos 2) (pos 3))) ∷ (s (p (pos 3) (pos 2)) (p (pos 3) (pos 1))) ∷ (s (p (pos 3) (pos 1)) (p (pos 4) (pos 1))) ∷ (s (p (pos 4) (pos 2)) (p (pos 3) (pos 2))) ∷ (s (p (pos 4) (pos 1)) (p (pos 4) (pos 0))) ∷ (s (p (pos 4) (pos 0)) (p (pos 5) (pos 0))) ∷ (s (p (pos 4) (pos 1)) (p (pos 4) (pos 2))) ∷ (s (p (pos 5) (pos 0)) (p (pos 4) (pos 1))) ∷ [])) ∷ (edges ((s (p (pos 1) (pos 4)) (p (pos 1) (pos 3))) ∷ (s (p (pos 1) (pos 3)) (p (pos 2) (pos 3))) ∷ (s (p (pos 2) (pos 3)) (p (pos 1) (pos 4))) ∷ (s (p (pos 2) (pos 3)) (p (pos 2) (pos 2))) ∷ (s (p (pos 2) (pos 2)) (p (pos 3) (pos 3))) ∷ (s (p (pos 3) (pos 3)) (p (pos 2) (pos 3))) ∷ (s (p (pos 3) (pos 2)) (p (pos 3) (pos 1))) ∷ (s (p (pos 3) (pos 1)) (p (pos 4) (pos 1))) ∷ (s (p (pos 4) (pos 2)) (p (pos 3) (pos 2))) ∷ (s (p (pos 4) (pos 1)) (p (pos 4) (pos 2))) ∷ [])) ∷ []) }) ∷ (record { name = (codes "b"); kind = kind.Polygon; table = record { names = ([]); rows = (([]) ∷ ([]) ∷ ([]) ∷ []) }; shapes = ((edges ((s (p (pos 1) (pos 3)) (p (pos 1) (pos 2))) ∷ (s (p (pos 1) (pos 2)) (p (pos 2) (pos 2))) ∷ (s (p (pos 2) (pos 3)) (p (pos 1) (pos 3))) ∷ (s (p (pos 2) (pos 2)) (p (pos 2) (pos 3))) ∷ [])) ∷ (edges ((s (p (pos 0) (pos 3)) (p (pos 0) (pos 2))) ∷ (s (p (pos 0) (pos 2)) (p (pos 1) (pos 3))) ∷ (s (p (pos 1) (pos 3)) (p (pos 0) (pos 3))) ∷ (s (p (pos 1) (pos 4)) (p (pos 1) (pos 3))) ∷ (s (p (pos 1) (pos 3)) (p (pos 2) (pos 3))) ∷ (s (p (pos 2) (pos 3)) (p (pos 1) (pos 4))) ∷ [])) ∷ (edges ([])) ∷ []) }) ∷ []) ∷ ((record { name = (codes "a"); kind = kind.Polygon; table = record { names = ([]); rows = (([]) ∷ ([]) ∷ ([]) ∷ []) }; shapes = ((edges ((s (p (pos 0) (pos 5)) (p (pos 1) (pos 4))) ∷ (s (p (pos 1) (pos 5)) (p (pos 0) (pos 5))) ∷ (s (p (pos 1) (pos 4)) (p (pos 1) (pos 5))) ∷ [])) ∷ (edges ((s (p (pos 3) (pos 2)) (p (pos 3) (pos 1))) ∷ (s (p (pos 3) (pos 1)) (p (pos 4) (pos 1))) ∷ (s (p (pos 4) (pos 2)) (p (pos 3) (pos 2))) ∷ (s (p (pos 4) (pos 1)) (p (pos 4) (pos 0))) ∷ (s (p (pos 4) (pos 0)) (p (pos 5) (pos 0))) ∷ (s (p (pos 4) (pos 1)) (p (pos 4) (pos 2))) ∷ (s (p (pos 5) (pos 0)) (p (pos 4) (pos 1))) ∷ [])) ∷ (edges ((s (p (pos 2) (pos 3)) (p (pos 2) (pos 2))) ∷ (s (p (pos 2) (pos 2)) (p (pos 3) (pos 3))) ∷ (s (p (pos 3) (pos 3)) (p (pos 2) (pos 3))) ∷ (s (p (pos 3) (pos 2)) (p (pos 3) (pos 1))) ∷ (s (p (pos 3) (pos 1)) (p (pos 4) (pos 1))) ∷ (s (p (pos 4) (pos 2)) (p (pos 3) (pos 2))) ∷ (s (p (pos 4) (pos 1)) (p (pos 4) (pos 2))) ∷ [])) ∷ []) }) ∷ []) ∷ []), done)
unfolding numeral_of grid_of_text decimal_of_text places_of box_of_text digits decimal_text fraction_text trimmed_digits last_digits
c478 = refl

-- a.json b.json precision=1 -join b keys=st,st -o o.topojson
c479 : result (((record { name = (codes "a"); kind = kind.Polygon; table = record { names = ((codes "n") ∷ []); rows = ((Null ∷ []) ∷ ((Text (codes "X")) ∷ []) ∷ []) }; shapes = ((Polygons ((((p (pos 2) (pos 0)) ∷ (p (pos 2) (pos 4)) ∷ (p (pos 0) (pos 0)) ∷ (p (pos 2) (pos 0)) ∷ []) ∷ []) ∷ [])) ∷ (Polygons ((((p (pos 1) (pos 1)) ∷ (p (pos 0) (pos 1)) ∷ (p (pos 3) (pos 4)) ∷ (p (pos 1) (pos 1)) ∷ []) ∷ []) ∷ [])) ∷ []) }) ∷ []) ∷ ((record { name = (codes "b"); kind = kind.Polygon; table = record { names = ((codes "st") ∷ (codes "n") ∷ (codes "pop") ∷ []); rows = (((Text (codes "Y")) ∷ (Text (codes "Y")) ∷ (Num (pos 3000000000000000000)) ∷ []) ∷ ((Text (codes "Y")) ∷ (Num (pos 2000000000000000000)) ∷ (Num (pos 3000000000000000000)) ∷ []) ∷ []) }; shapes = ((Polygons ((((p (pos 3) (pos 4)) ∷ (p (pos 4) (pos 0)) ∷ (p (pos 3) (pos 1)) ∷ (p (pos 1) (pos 2)) ∷ (p (pos 3) (pos 4)) ∷ []) ∷ []) ∷ [])) ∷ Nothing ∷ []) }) ∷ []) ∷ []) ((codes "a.json") ∷ (codes "b.json") ∷ (codes "precision=1") ∷ (codes "-join") ∷ (codes "b") ∷ (codes "keys=st,st") ∷ (codes "-o") ∷ (codes "o.topojson") ∷ []) ≡ (([]), refused 1 (in_table (NoField 0)))
unfolding numeral_of grid_of_text decimal_of_text places_of box_of_text digits decimal_text fraction_text trimmed_digits last_digits
c479 = refl

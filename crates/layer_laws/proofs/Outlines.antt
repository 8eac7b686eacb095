-- Lines along the arcs between polygons, and their types and ranks.
use Rattle.std.proofs.Common.{◌≡◌, refl, sym, ap, ◌∙◌, subst, arith, ℕ, suc, ◌+◌, ◌<◌, Bool, true, false, List, [], ◌∷◌, All, length, map, filter, get_or, replicate, slice_get, codes, Option, Some, None, Ok, if◌then◌else◌}
use Rattle.std.specs.List.{AllZip}
use Rattle.std.proofs.lemmas.List.{get_or-map, length-map}
use Rattle.std.proofs.lemmas.List.Elements.{All-cons, All-filter, All-head, All-nil, All-tail, Contains-get_or}
use Rattle.std.proofs.lemmas.Simd.{map-map}
use Rattle.lists.proofs.Members.{filter-Contains, map-Contains}
use Rattle.plane_model.specs.Points.{Path}
use Rattle.plane_model.specs.Snapped.{links_of, snapped}
use Rattle.io_core.specs.Contents.{Content}
use Rattle.grid_base.specs.declared.kinds.Kind.{Kind}
use Rattle.grid_base.specs.declared.kinds.Kind.TheVariants as kinds
use Rattle.json_values.specs.Table.{RowValues, TableContent}
use Rattle.json_values.specs.Value.{same}
use Rattle.line_ops.specs.Sided.{has_both, sided_among}
use Rattle.line_ops.specs.declared.sides.SidedArc.{SidedArc}
use Rattle.table_terms.specs.Names.{cell}
use Rattle.table_terms.specs.Refusals.{unless}
use Rattle.table_rows.specs.Columns.{cells, keep_fields, kept_columns}
use Rattle.table_rows.specs.Refusals.{refused_item}
use Rattle.table_rows.specs.Rows.{row_at}
use Rattle.table_rows.specs.declared.fault.TableWhy.{TableWhy}
use Rattle.table_rows.proofs.Numbers.{numbers_where-below}
use Rattle.region_model.specs.Region.{Region, any_of}
use Rattle.region_model.specs.LineCommands as model
use Rattle.region_model.specs.LineCommands.{differs, holders_left, holders_right, inner_lines, on_left, on_right, outer_and_inner, side_of_first}
use Rattle.line_laws.specs.Lines.{AreLabelled}
use Rattle.line_laws.specs.Regions.{AreBordersOf, IsToldOf}
use Rattle.line_laws.proofs.ArcsBetween.{arcs_between_sets}
use Rattle.line_laws.proofs.Borders.{borders_are_of_regions}
use Rattle.line_laws.proofs.LinkSides.{drawings_are_labelled}
use Rattle.line_laws.specs.Linked.{AreLinked, AreThere}
use Rattle.run_plane.specs.declared.layer.Layer.{Layer}
use Rattle.run_plane.specs.declared.layer.Shape.{Shape}
use Rattle.run_plane.specs.declared.plane.Plane.{Plane}
use Rattle.run_borders.specs.Borders as run
use Rattle.run_borders.specs.Borders.{AreInnerLines, AreOutlines, bare_table, border_line, borders_of, inner_arcs_of, line_along, ranked_row, ranked_table, row_by}
use Rattle.run_borders.specs.Dissolving.{path_along}
use Rattle.run_state.specs.FaceSets.{sets_in}
use Rattle.run_state.specs.Stops.{table_refusal}
use Rattle.chain_model.specs.State as state
use Rattle.chain_model.specs.State.{StateLayer, regions_in}
use Rattle.chain_model.specs.Features.{Outputs, first_difference, in_layer, inner_lines_layer, just, line_layer, line_row, lines_layer, type_and_rank}
use Rattle.run_tables.proofs.Gathering.{answered}
use Rattle.layer_laws.specs.Shown.{View, IsView, FacesShow, LayerShows, LineShows, ShapeShows, plane_of, IsSeenIn}
use Rattle.layer_laws.specs.Reasons.{OutputsShow, RefusedAlike}
use Rattle.layer_laws.specs.Lines.{InnerLinesShow, OutlinesShow}
use Rattle.layer_laws.proofs.LineGroups.{one_linked, one_there}
use Rattle.layer_laws.proofs.PolygonSets.{sets_show}
use Rattle.layer_laws.proofs.TableCommands.{one_shows}
use Rattle.layer_laws.proofs.Views.{view_faces}
use Rattle.layer_laws.proofs.Zipped.{zip_at, zip_long}

-- ---- lists

bare_rows : (paths : List Path) → ◌≡◌ {A = List RowValues} (map (λ (p : Path). []) paths) (replicate (length paths) [])
bare_rows [] = refl
bare_rows (p ∷ paths) = ap (λ (rest : List RowValues). [] ∷ rest) (bare_rows paths)

-- ---- types and ranks

-- by the first field that differs, or `inner` and a last rank
abbrev pub told_by : ℕ → Option (ℕ × Content) → RowValues
told_by rank found = elim found [
  | None ↦ type_and_rank (codes "inner") rank
  | Some d ↦ type_and_rank d.1 d.0
]

difference_told : (t : TableContent) (a b : RowValues) (fields : List Content) (n rank : ℕ) → rank ≡ length fields + n →
    type_and_rank (get_or fields (run.first_difference (cells t.names fields a) (cells t.names fields b)) (codes "inner")) (run.first_difference (cells t.names fields a) (cells t.names fields b) + n) ≡ told_by rank (first_difference t a b n fields)
difference_told t a b [] n rank e = ap (type_and_rank (codes "inner")) (sym e)
difference_told t a b (f ∷ fields) n rank e = go (same (cell t.names f a) (cell t.names f b)) (difference_told t a b fields (n + 1) rank (omega (arith, e)))
  where
    d : ℕ
    d = run.first_difference (cells t.names fields a) (cells t.names fields b)

    go : (alike : Bool) → type_and_rank (get_or fields d (codes "inner")) (d + (n + 1)) ≡ told_by rank (first_difference t a b (n + 1) fields) →
        type_and_rank (get_or (f ∷ fields) (if alike then 1 + d else 0) (codes "inner")) ((if alike then 1 + d else 0) + n) ≡ told_by rank (if alike then first_difference t a b (n + 1) fields else Some (n, f))
    go true rest =
        let one : 1 + d + n ≡ d + (n + 1) = omega arith in
        let shift : 1 + d ≡ suc d = omega arith in
        ap (λ (k : ℕ). type_and_rank (get_or (f ∷ fields) k (codes "inner")) (1 + d + n)) shift ∙ ap (type_and_rank (get_or fields d (codes "inner"))) one ∙ rest
    go false rest = let start : 0 + n ≡ n = omega arith in ap (type_and_rank f) start

-- the features at the sides have numbers below `count`
record AreAmong (count : ℕ) (a : model.SidedArc) : Type 0 where
  left : All (λ n. n < count) a.left
  right : All (λ n. n < count) a.right

module _ (t : TableContent) (fields : List Content) where
  row_told : (a : model.SidedArc) → AreAmong (length t.rows) a → row_by (kept_columns t fields) (slice_get a.left 0) (slice_get a.right 0) ≡ line_row t fields a
  row_told a among = go a.left a.right among.left among.right
    where
      go : (left right : List ℕ) → All (λ n. n < length t.rows) left → All (λ n. n < length t.rows) right →
          row_by (kept_columns t fields) (slice_get left 0) (slice_get right 0) ≡ line_row t fields (record { points = a.points; left = left; right = right })
      go [] right below others = refl
      go (m ∷ left) [] below others = refl
      go (m ∷ left) (n ∷ right) below others =
          let first : row_at (map (cells t.names fields) t.rows) m ≡ cells t.names fields (row_at t.rows m) = get_or-map (cells t.names fields) t.rows m [] [] (All-head (λ k. k < length t.rows) m left below) in
          let second : row_at (map (cells t.names fields) t.rows) n ≡ cells t.names fields (row_at t.rows n) = get_or-map (cells t.names fields) t.rows n [] [] (All-head (λ k. k < length t.rows) n right others) in
          (λ i. run.row_between fields (first i) (second i)) ∙ difference_told t (row_at t.rows m) (row_at t.rows n) fields 1 (length fields + 1) refl

  rows_told : (sided : List SidedArc) (arcs : List model.SidedArc) → map (λ (s : SidedArc). s.left) sided ≡ map (λ (a : model.SidedArc). slice_get a.left 0) arcs → map (λ (s : SidedArc). s.right) sided ≡ map (λ (a : model.SidedArc). slice_get a.right 0) arcs →
      All (AreAmong (length t.rows)) arcs → map (ranked_row (kept_columns t fields)) sided ≡ map (line_row t fields) arcs
  rows_told [] [] left right among = refl
  rows_told [] (a ∷ arcs) left right among = absurd (cc)
  rows_told (s ∷ sided) [] left right among = absurd (cc)
  rows_told (s ∷ sided) (a ∷ arcs) left right among =
      let first : s.left ≡ slice_get a.left 0 = cc in
      let second : s.right ≡ slice_get a.right 0 = cc in
      let lefts : map (λ (s : SidedArc). s.left) sided ≡ map (λ (a : model.SidedArc). slice_get a.left 0) arcs = cc in
      let rights : map (λ (s : SidedArc). s.right) sided ≡ map (λ (a : model.SidedArc). slice_get a.right 0) arcs = cc in
      let here : ranked_row (kept_columns t fields) s ≡ line_row t fields a = (λ i. row_by (kept_columns t fields) (first i) (second i)) ∙ row_told a (All-head (AreAmong (length t.rows)) a arcs among) in
      let rest = rows_told sided arcs lefts rights (All-tail (AreAmong (length t.rows)) a arcs among) in
      λ i. here i ∷ rest i

-- ---- arcs between the sets of regions

module _ (v : View) (view : IsView v) where
  among_all : (regions : List Region) → All (AreAmong (length regions)) (outer_and_inner (plane_of v) v.answers regions)
  among_all regions k d l =
      let all : List model.SidedArc = model.sided_arcs (plane_of v) v.answers regions in
      let a : model.SidedArc = get_or (filter differs all) k d in
      let there = (filter-Contains differs all a (Contains-get_or (filter differs all) k d l)).0 in
      let (arc, has, is) = map-Contains (λ (arc : Path). record { points = arc; left = holders_left v.answers regions arc; right = holders_right v.answers regions arc }) v.arcs a there in
      subst (AreAmong (length regions)) is (record {
        left = numbers_where-below (λ (r : Region). side_of_first (on_left v.answers r) arc) regions;
        right = numbers_where-below (λ (r : Region). side_of_first (on_right v.answers r) arc) regions;
      })

  abbrev arc_at : ℕ → Path
  arc_at n = get_or v.arcs n []

  abbrev arc_of : SidedArc → Path
  arc_of s = arc_at s.arc

  abbrev path_alone : Path → state.Shape
  path_alone path = state.paths (path ∷ [])

  line_shows : (n : ℕ) → n < length v.arcs → LineShows v (line_along n) (path_alone (arc_at n))
  line_shows n below = record {
    named = path_along n ∷ [];
    paths = arc_at n ∷ [];
    has = refl;
    is = refl;
    shows = record {
      there = All-cons (AreThere v.arcs) (path_along n) [] (one_there v view n below) (All-nil (AreThere v.arcs));
      linked = All-cons (AreLinked v.arcs) (path_along n) [] (one_linked v view n below) (All-nil (AreLinked v.arcs));
      along = refl;
    };
  }

  abbrev IsBelow : SidedArc → Type 0
  IsBelow s = s.arc < length v.arcs

  lines_show : (sided : List SidedArc) → All IsBelow sided → AllZip (LineShows v) (map border_line sided) (map path_alone (map arc_of sided))
  lines_show [] below = tt
  lines_show (s ∷ sided) below = (line_shows s.arc (All-head IsBelow s sided below), lines_show sided (All-tail IsBelow s sided below))

  module _ (sets : List (List ℕ)) (regions : List Region) (shows : AllZip (FacesShow v) sets regions) where
    abbrev all_sided : List SidedArc
    all_sided = sided_among v.faces sets (length v.arcs)

    sided_told : AreBordersOf (plane_of v) v.answers regions v.arcs all_sided
    sided_told = borders_are_of_regions v.drawing v.arcs v.faces v.label (view_faces v view) v.answers sets regions (sym (zip_long (FacesShow v) sets regions shows)) told (plane_of v) refl
      where
        told : (i : ℕ) → i < length sets → IsToldOf v.drawing v.arcs v.label v.answers (get_or sets i []) (get_or regions i (any_of []))
        told i l = record { follows = (zip_at (FacesShow v) sets regions shows i [] (any_of []) l).follows; sides = view.right.sides (get_or regions i (any_of [])) }

    sided_below : All IsBelow all_sided
    sided_below =
        let labelled : AreLabelled (links_of (snapped v.drawing)) v.arcs v.faces v.label = drawings_are_labelled v.drawing v.arcs view.walked.table v.faces view.walked.built v.label view.walked.labelled in
        (arcs_between_sets (links_of (snapped v.drawing)) v.arcs v.faces v.label labelled sets).there

  -- ---- layers

  -- a layer of lines that shows these paths
  line_layer_shows : (layer : Layer) (l : StateLayer) → LayerShows v layer l → (t : TableContent) (held : List Shape) (paths : List Path) → AllZip (LineShows v) held (map path_alone paths) →
      (made : Layer) → made.name ≡ layer.name → made.kind ≡ kinds.Line → made.table ≡ t → made.shapes.items ≡ held → LayerShows v made (line_layer l t paths)
  line_layer_shows layer l h t held paths shows made name kind table shapes = record {
    name = h.name ∙ sym name;
    kind = sym kind;
    table = sym table;
    shapes = subst (λ (k : Kind). AllZip (ShapeShows v k) made.shapes.items (map path_alone paths)) (sym kind) (subst (λ (items : List Shape). AllZip (LineShows v) items (map path_alone paths)) (sym shapes) shows);
  }

  module _ (plane : Plane) (seen : IsSeenIn v plane) (layer : Layer) (l : StateLayer) (h : LayerShows v layer l) (polygons : layer.kind ≡ kinds.Polygon) where
    abbrev sets : List (List ℕ)
    sets = sets_in layer.shapes.items

    set_each : AllZip (FacesShow v) sets (regions_in l)
    set_each = sets_show v layer.shapes.items l.shapes (subst (λ (k : Kind). AllZip (ShapeShows v k) layer.shapes.items l.shapes) polygons h.shapes)

    abbrev sided : List SidedArc
    sided = all_sided sets (regions_in l) set_each

    told : AreBordersOf (plane_of v) v.answers (regions_in l) v.arcs sided
    told = sided_told sets (regions_in l) set_each

    same_borders : borders_of plane layer ≡ sided
    same_borders = λ i. sided_among (seen.faces i) sets (length (seen.arcs i))

    -- the inner ones
    abbrev inner_of : StateLayer
    inner_of =
        let arcs : List Path = inner_lines (plane_of v) v.answers (regions_in l) in
        line_layer l (record { names = []; rows = map (λ (p : Path). []) arcs }) arcs

    inner_show : (made : Layer) → AreInnerLines plane layer made → LayerShows v made inner_of
    inner_show made is =
        let both : List SidedArc = filter has_both sided in
        let arcs : List Path = inner_lines (plane_of v) v.answers (regions_in l) in
        let numbers : inner_arcs_of plane layer ≡ map (λ (s : SidedArc). s.arc) both = ap (λ (all : List SidedArc). map (λ (s : SidedArc). s.arc) (filter has_both all)) same_borders in
        let counted : length (inner_arcs_of plane layer) ≡ length arcs = ap length numbers ∙ length-map both (λ (s : SidedArc). s.arc) ∙ sym (length-map both arc_of) ∙ ap length told.inner in
        let table : bare_table (length (inner_arcs_of plane layer)) ≡ record { names = []; rows = map (λ (p : Path). []) arcs } =
        (λ i. bare_table (counted i)) ∙ (λ i. record { names = []; rows = sym (bare_rows arcs) i }) in
        let held : map line_along (inner_arcs_of plane layer) ≡ map border_line both = ap (map line_along) numbers ∙ map-map line_along (λ (s : SidedArc). s.arc) both in
        let lines : AllZip (LineShows v) (map border_line both) (map path_alone arcs) =
        subst (λ (paths : List Path). AllZip (LineShows v) (map border_line both) (map path_alone paths)) told.inner (lines_show both (All-filter has_both IsBelow sided (sided_below sets (regions_in l) set_each))) in
        line_layer_shows layer l h (record { names = []; rows = map (λ (p : Path). []) arcs }) (map border_line both) arcs lines made is.name is.kind (is.table ∙ table) (is.shapes ∙ held)

    -- all of them, with their rows
    abbrev outer_arcs : List model.SidedArc
    outer_arcs = outer_and_inner (plane_of v) v.answers (regions_in l)

    abbrev rows_of : List Content → TableContent
    rows_of fields = record { names = codes "TYPE" ∷ codes "RANK" ∷ []; rows = map (line_row l.table fields) outer_arcs }

    abbrev outlines_of : List Content → StateLayer
    outlines_of fields = line_layer l (rows_of fields) (map (λ (a : model.SidedArc). a.points) outer_arcs)

    among_rows : All (AreAmong (length l.table.rows)) outer_arcs
    among_rows =
        let counted : length (regions_in l) ≡ length l.table.rows =
        length-map l.shapes state.region_of ∙ sym (zip_long (ShapeShows v layer.kind) layer.shapes.items l.shapes h.shapes) ∙ layer.each ∙ ap (λ (t : TableContent). length t.rows) (sym h.table) in
        subst (λ (count : ℕ). All (AreAmong count) outer_arcs) counted (among_all (regions_in l))

    outlines_show : (fields : List Content) (made : Layer) → (is : AreOutlines plane fields layer made) → kept_columns l.table fields ≡ is.listed → LayerShows v made (outlines_of fields)
    outlines_show fields made is listed =
        let rows : map (ranked_row (kept_columns l.table fields)) sided ≡ map (line_row l.table fields) outer_arcs = rows_told l.table fields sided outer_arcs told.left told.right among_rows in
        let table : ranked_table is.listed (borders_of plane layer) ≡ rows_of fields =
        (λ i. ranked_table (sym listed i) (same_borders i)) ∙ (λ i. record { names = codes "TYPE" ∷ codes "RANK" ∷ []; rows = rows i }) in
        let lines : AllZip (LineShows v) (map border_line sided) (map path_alone (map (λ (a : model.SidedArc). a.points) outer_arcs)) =
        subst (λ (paths : List Path). AllZip (LineShows v) (map border_line sided) (map path_alone paths)) told.points (lines_show sided (sided_below sets (regions_in l) set_each)) in
        line_layer_shows layer l h (rows_of fields) (map border_line sided) (map (λ (a : model.SidedArc). a.points) outer_arcs) lines made is.name is.kind (is.table ∙ table) (is.shapes ∙ ap (map border_line) same_borders)

    -- ---- refusals

    abbrev answer_by : List Content → Option TableWhy → Outputs
    answer_by fields refusal = in_layer (unless refusal (Ok (outlines_of fields ∷ [])))

    refused_alike : (fields : List Content) (refusal : Option TableWhy) → RefusedAlike (table_refusal (unless refusal (Ok (kept_columns layer.table fields)))) (answer_by fields refusal)
    refused_alike fields None = (outlines_of fields ∷ [], refl)
    refused_alike fields (Some why) = refl

    answers_so : (fields : List Content) (refusal : Option TableWhy) (listed : TableContent) → unless refusal (Ok (kept_columns layer.table fields)) ≡ Ok listed → answer_by fields refusal ≡ just (outlines_of fields)
    answers_so fields None listed e = refl
    answers_so fields (Some why) listed e = absurd (cc)

    same_answer : (fields : List Content) → answer_by fields (refused_item layer.table.names [] 0 fields) ≡ lines_layer (plane_of v) v.answers fields l
    same_answer fields = ap (λ (t : TableContent). answer_by fields (refused_item t.names [] 0 fields)) (sym h.table)

pub inner_lines_show : InnerLinesShow
inner_lines_show v view plane seen layer l h polygons =
    let inner : StateLayer = inner_of v view plane seen layer l h polygons in
    record {
      shows = one_shows v (AreInnerLines plane layer) (inner_lines_layer (plane_of v) v.answers l) (λ made is. (inner, refl, inner_show v view plane seen layer l h polygons made is));
      refused = (inner ∷ [], refl);
    }

pub outlines_are_shown : OutlinesShow
outlines_are_shown v view plane seen layer l h polygons fields =
    let refusal : Option TableWhy = refused_item layer.table.names [] 0 fields in
    let same = same_answer v view plane seen layer l h polygons fields in
    record {
      shows = λ made makes. subst (OutputsShow v made) same
          (one_shows v (AreOutlines plane fields layer) (answer_by v view plane seen layer l h polygons fields refusal) (λ one is. (
            outlines_of v view plane seen layer l h polygons fields,
            answers_so v view plane seen layer l h polygons fields refusal is.listed is.answers,
            outlines_show v view plane seen layer l h polygons fields one is (ap (λ (t : TableContent). kept_columns t fields) h.table ∙ answered refusal (kept_columns layer.table fields) is.listed is.answers),
          )) made makes);
      refused = subst (RefusedAlike (table_refusal (keep_fields layer.table fields))) same (refused_alike v view plane seen layer l h polygons fields refusal);
    }

-- Lines and points that are grouped.
use Rattle.std.proofs.Common.{◌≡◌, refl, sym, ap, ◌∙◌, subst, ℕ, ◌<◌, Bool, true, false, ◌&&◌, not, nat_lt, List, [], ◌∷◌, ◌++◌, All, Contains, length, map, get_or, Option, Some, None, Result, Ok, Err, if◌then◌else◌}
use Rattle.std.specs.List.{AllZip, flat_map}
use Rattle.std.proofs.lemmas.List.{map-append}
use Rattle.std.proofs.lemmas.List.Concat.{flat_map-append}
use Rattle.std.proofs.lemmas.List.Elements.{All-contains, All-cons, All-get_or, All-head, All-nil, All-tail, Contains-get_or}
use Rattle.std.proofs.lemmas.List.Folds.{flat_map-map}
use Rattle.lists.specs.Lists.{ascending}
use Rattle.lists.proofs.Ascending.{ascending-Contains}
use Rattle.lists.proofs.Members.{flat_map-Contains, map-Contains}
use Rattle.plane_model.specs.Points.{Path}
use Rattle.plane_model.specs.Arcs.{SignedArc, forward, joined_points}
use Rattle.plane_model.specs.Drawing.{vertices_of}
use Rattle.plane_model.specs.Snapped.{snapped}
use Rattle.grid_base.specs.declared.kinds.Kind.{Kind}
use Rattle.grid_base.specs.declared.kinds.Kind.TheVariants as kinds
use Rattle.geojson_io.specs.Layers.{same_kind}
use Rattle.table_terms.specs.Refusals.{on_ok}
use Rattle.table_terms.specs.declared.groupings.GroupSpec.{GroupSpec}
use Rattle.table_rows.specs.Grouping.{group_rows}
use Rattle.table_rows.specs.declared.fault.TableWhy.{TableWhy}
use Rattle.table_rows.specs.declared.group.Grouped.{Grouped}
use Rattle.face_sets.proofs.SetLemmas.{nat_order}
use Rattle.region_model.specs.LineCommands.{dissolved_paths}
use Rattle.line_laws.specs.Linked.{AreLinked, AreThere, along_one, arcs_along, points_along}
use Rattle.line_laws.proofs.LinkedArcs.{lines_are_dissolved}
use Rattle.run_plane.specs.Shapes.{points_in, shape_at}
use Rattle.run_plane.specs.declared.layer.Layer.{Layer}
use Rattle.run_plane.specs.declared.layer.Shape.{Shape}
use Rattle.run_plane.specs.declared.layer.Shape.TheVariants as shape
use Rattle.run_plane.proofs.OnPlane.{all_joined}
use Rattle.run_borders.specs.Dissolving.{IsGrouped, arcs_in, grouped_shapes, is_point, line_shape, member_arcs, no_shape, point_shape, refused_dissolve}
use Rattle.run_state.specs.Stops.{table_refusal}
use Rattle.run_state.specs.declared.refusal.RefuseWhy.{RefuseWhy}
use Rattle.run_state.specs.declared.refusal.RefuseWhy.TheVariants.{NoGroupPoints}
use Rattle.chain_model.specs.Outcome.{no_group_points}
use Rattle.chain_model.specs.State as state
use Rattle.chain_model.specs.State.{StateLayer}
use Rattle.chain_model.specs.Features.{Outputs, dissolve_layer, dissolved_shape, in_layer, just}
use Rattle.layer_laws.specs.Shown.{View, IsView, AreVertices, LayerShows, LineShows, PointsShow, ShapeShows, plane_of}
use Rattle.layer_laws.specs.Reasons.{OutputsShow, RefusedAlike}
use Rattle.layer_laws.specs.Lines.{GroupedLinesShow}
use Rattle.layer_laws.proofs.TableCommands.{one_shows}
use Rattle.layer_laws.proofs.Taking.{shapes_in}
use Rattle.layer_laws.proofs.Zipped.{zip_anywhere, zip_weaker}

-- ---- lists of lists

flat_flat : {A B C : Type 0} (g : B → List C) (f : A → List B) (xs : List A) → flat_map g (flat_map f xs) ≡ flat_map (λ (x : A). flat_map g (f x)) xs
flat_flat g f [] = refl
flat_flat {A} {B} {C} g f (x ∷ xs) = flat_map-append g (f x) (flat_map f xs) ∙ ap (λ (rest : List C). flat_map g (f x) ++ rest) (flat_flat g f xs)

flat_alike : {A B : Type 0} (f g : A → List B) → ((x : A) → f x ≡ g x) → (xs : List A) → flat_map f xs ≡ flat_map g xs
flat_alike f g same [] = refl
flat_alike f g same (x ∷ xs) = λ i. same x i ++ flat_alike f g same xs i

map_of_flat : {A B C : Type 0} (g : B → C) (f : A → List B) (xs : List A) → map g (flat_map f xs) ≡ flat_map (λ (x : A). map g (f x)) xs
map_of_flat g f [] = refl
map_of_flat {A} {B} {C} g f (x ∷ xs) = map-append g (f x) (flat_map f xs) ∙ ap (λ (rest : List C). map g (f x) ++ rest) (map_of_flat g f xs)

each_made : {A B C : Type 0} (R : B → C → Type 0) (f : A → B) (g : A → C) → ((x : A) → R (f x) (g x)) → (xs : List A) → AllZip R (map f xs) (map g xs)
each_made R f g makes [] = tt
each_made R f g makes (x ∷ xs) = (makes x, each_made R f g makes xs)

-- ---- lines

-- the arcs of a shape, path by path
abbrev pub named_in : Shape → List (List SignedArc)
named_in shape.Nothing = []
named_in (shape.Faces set) = []
named_in (shape.Paths named) = named
named_in (shape.Points points) = []

arcs_of_named : (held : Shape) → arcs_in held ≡ flat_map (map (λ (a : SignedArc). a.arc)) (named_in held)
arcs_of_named shape.Nothing = refl
arcs_of_named (shape.Faces set) = refl
arcs_of_named (shape.Paths named) = refl
arcs_of_named (shape.Points points) = refl

module _ (v : View) (view : IsView v) where
  -- arcs of a shape along the paths of another
  record Along (held : Shape) (s : state.Shape) : Type 0 where
    there : All (AreThere v.arcs) (named_in held)
    linked : All (AreLinked v.arcs) (named_in held)
    along : points_along v.arcs (named_in held) ≡ state.paths_of s

  line_along : (held : Shape) (s : state.Shape) → LineShows v held s → Along held s
  line_along held s h = record {
    there = subst (λ (held : Shape). All (AreThere v.arcs) (named_in held)) (sym h.has) h.shows.there;
    linked = subst (λ (held : Shape). All (AreLinked v.arcs) (named_in held)) (sym h.has) h.shows.linked;
    along = ap (λ (held : Shape). points_along v.arcs (named_in held)) h.has ∙ sym h.shows.along ∙ sym (ap state.paths_of h.is);
  }

  nothing_along : Along shape.Nothing state.no_shape
  nothing_along = record { there = All-nil (AreThere v.arcs); linked = All-nil (AreLinked v.arcs); along = refl }

  pub one_there : (n : ℕ) → n < length v.arcs → AreThere v.arcs (along_one n)
  one_there n below = All-cons (λ (a : SignedArc). a.arc < length v.arcs) (forward n) [] below (All-nil (λ (a : SignedArc). a.arc < length v.arcs))

  ones_there : (ns : List ℕ) → All (λ n. n < length v.arcs) ns → All (AreThere v.arcs) (map along_one ns)
  ones_there [] below = All-nil (AreThere v.arcs)
  ones_there (n ∷ ns) below = All-cons (AreThere v.arcs) (along_one n) (map along_one ns) (one_there n (All-head (λ n. n < length v.arcs) n ns below)) (ones_there ns (All-tail (λ n. n < length v.arcs) n ns below))

  pub one_linked : (n : ℕ) → n < length v.arcs → AreLinked v.arcs (along_one n)
  one_linked n below = All-get_or (λ (arc : Path). 1 < length arc) v.arcs n [] below view.walked.table.long

  ones_link : (ns : List ℕ) → All (λ n. n < length v.arcs) ns → All (AreLinked v.arcs) (map along_one ns)
  ones_link [] below = All-nil (AreLinked v.arcs)
  ones_link (n ∷ ns) below = All-cons (AreLinked v.arcs) (along_one n) (map along_one ns) (one_linked n (All-head (λ n. n < length v.arcs) n ns below)) (ones_link ns (All-tail (λ n. n < length v.arcs) n ns below))

  arcs_below : (named : List (List SignedArc)) → All (AreThere v.arcs) named → All (λ n. n < length v.arcs) (arcs_along named)
  arcs_below named there k d l =
      let n : ℕ = get_or (arcs_along named) k d in
      let listed = ascending-Contains nat_lt nat_order (flat_map (map (λ (a : SignedArc). a.arc)) named) n (Contains-get_or (arcs_along named) k d l) in
      let (path, has_path, along) = flat_map-Contains (map (λ (a : SignedArc). a.arc)) named n listed in
      let (a, has_arc, is) = map-Contains (λ (a : SignedArc). a.arc) path n along in
      subst (λ (m : ℕ). m < length v.arcs) is (All-contains (λ (a : SignedArc). a.arc < length v.arcs) path a (All-contains (AreThere v.arcs) named path there has_path) has_arc)

  module _ (held : List Shape) (l : StateLayer) (shows : AllZip (LineShows v) held l.shapes) where
    along_at : (n : ℕ) → Along (shape_at held n) (state.shape_at l n)
    along_at n = zip_anywhere Along held l.shapes (zip_weaker (LineShows v) Along line_along held l.shapes shows) shape.Nothing state.no_shape nothing_along n

    abbrev member_named : List ℕ → List (List SignedArc)
    member_named members = flat_map (λ (n : ℕ). named_in (shape_at held n)) members

    members_along : (members : List ℕ) → points_along v.arcs (member_named members) ≡ flat_map state.paths_of (map (state.shape_at l) members)
    members_along members =
        map_of_flat (joined_points v.arcs) (λ (n : ℕ). named_in (shape_at held n)) members
        ∙ flat_alike (λ (n : ℕ). points_along v.arcs (named_in (shape_at held n))) (λ (n : ℕ). state.paths_of (state.shape_at l n)) (λ n. (along_at n).along) members
        ∙ sym (flat_map-map state.paths_of (state.shape_at l) members)

    members_arcs : (members : List ℕ) → member_arcs held members ≡ arcs_along (member_named members)
    members_arcs members =
        ap (ascending nat_lt)
        (flat_alike (λ (n : ℕ). arcs_in (shape_at held n)) (λ (n : ℕ). flat_map (map (λ (a : SignedArc). a.arc)) (named_in (shape_at held n))) (λ n. arcs_of_named (shape_at held n)) members
        ∙ sym (flat_flat (map (λ (a : SignedArc). a.arc)) (λ (n : ℕ). named_in (shape_at held n)) members))

    abbrev dissolved_of : List ℕ → List Path
    dissolved_of members = dissolved_paths (plane_of v) (flat_map state.paths_of (map (state.shape_at l) members))

    line_groups : (members : List ℕ) → LineShows v (line_shape held members) (state.paths (dissolved_of members))
    line_groups members =
        let named : List (List SignedArc) = member_named members in
        let there : All (AreThere v.arcs) named = all_joined (AreThere v.arcs) (λ (n : ℕ). named_in (shape_at held n)) members (λ i n l. (along_at (get_or members i n)).there) in
        let linked : All (AreLinked v.arcs) named = all_joined (AreLinked v.arcs) (λ (n : ℕ). named_in (shape_at held n)) members (λ i n l. (along_at (get_or members i n)).linked) in
        let dissolved = lines_are_dissolved v.drawing v.arcs view.walked.table named there linked (plane_of v) refl in
        let below = arcs_below named there in
        record {
          named = map along_one (arcs_along named);
          paths = dissolved_of members;
          has = ap (λ (ns : List ℕ). shape.Paths (map along_one ns)) (members_arcs members);
          is = refl;
          shows = record {
            there = ones_there (arcs_along named) below;
            linked = ones_link (arcs_along named) below;
            along = ap (dissolved_paths (plane_of v)) (sym (members_along members)) ∙ dissolved.1;
          };
        }

  -- ---- points

  record SamePoints (held : Shape) (s : state.Shape) : Type 0 where
    same : points_in held ≡ state.points_of s
    vertices : AreVertices v (state.points_of s)

  point_same : (held : Shape) (s : state.Shape) → PointsShow v held s → SamePoints held s
  point_same held s h = record { same = ap points_in h.has ∙ sym (ap state.points_of h.is); vertices = subst (λ (s : state.Shape). AreVertices v (state.points_of s)) (sym h.is) h.vertices }

  module _ (held : List Shape) (l : StateLayer) (shows : AllZip (PointsShow v) held l.shapes) where
    same_at : (n : ℕ) → SamePoints (shape_at held n) (state.shape_at l n)
    same_at n = zip_anywhere SamePoints held l.shapes (zip_weaker (PointsShow v) SamePoints point_same held l.shapes shows) shape.Nothing state.no_shape (record { same = refl; vertices = All-nil (Contains (vertices_of (snapped v.drawing))) }) n

    point_groups : (members : List ℕ) → PointsShow v (point_shape held members) (state.points (flat_map state.points_of (map (state.shape_at l) members)))
    point_groups members =
        let same = flat_map-map state.points_of (state.shape_at l) members in
        record {
          points = flat_map state.points_of (map (state.shape_at l) members);
          has = ap shape.Points (flat_alike (λ (n : ℕ). points_in (shape_at held n)) (λ (n : ℕ). state.points_of (state.shape_at l n)) (λ n. (same_at n).same) members ∙ sym same);
          is = refl;
          vertices = subst (AreVertices v) (sym same) (all_joined (Contains (vertices_of (snapped v.drawing))) (λ (n : ℕ). state.points_of (state.shape_at l n)) members (λ i n l. (same_at (get_or members i n)).vertices));
        }

  -- ---- layers

  module _ (held : List Shape) (l : StateLayer) (groups : List (List ℕ)) where
    as_its_kind : (k : Kind) → l.kind ≡ k → AllZip (ShapeShows v k) (grouped_shapes k held groups) (map (dissolved_shape (plane_of v) (record l { kind = k })) groups) →
        AllZip (ShapeShows v k) (grouped_shapes k held groups) (map (dissolved_shape (plane_of v) l) groups)
    as_its_kind k e shows = subst (λ (j : Kind). AllZip (ShapeShows v k) (grouped_shapes k held groups) (map (dissolved_shape (plane_of v) (record l { kind = j })) groups)) (sym e) shows

    groups_show : (k : Kind) → l.kind ≡ k → (k ≡ kinds.Polygon → ⊥) → AllZip (ShapeShows v k) held l.shapes → AllZip (ShapeShows v k) (grouped_shapes k held groups) (map (dissolved_shape (plane_of v) l) groups)
    groups_show kinds.Polygon e other shows = absurd (other refl)
    groups_show kinds.Line e other shows = as_its_kind kinds.Line e (each_made (LineShows v) (line_shape held) (dissolved_shape (plane_of v) (record l { kind = kinds.Line })) (line_groups held l shows) groups)
    groups_show kinds.Point e other shows = as_its_kind kinds.Point e (each_made (PointsShow v) (point_shape held) (dissolved_shape (plane_of v) (record l { kind = kinds.Point })) (point_groups held l shows) groups)
    groups_show kinds.Table e other shows =
        as_its_kind kinds.Table e (each_made (ShapeShows v kinds.Table) no_shape (dissolved_shape (plane_of v) (record l { kind = kinds.Table })) (λ members. record { has = refl; is = refl }) groups)

  abbrev grouped_of : StateLayer → Grouped → StateLayer
  grouped_of l g = record l { table = g.table; shapes = map (dissolved_shape (plane_of v) l) g.groups }

  grouped_shows : (layer : Layer) (l : StateLayer) → LayerShows v layer l → (layer.kind ≡ kinds.Polygon → ⊥) → (spec : GroupSpec) (made : Layer) → (is : IsGrouped spec layer made) → LayerShows v made (grouped_of l is.grouped)
  grouped_shows layer l h other spec made is = record {
    name = h.name ∙ sym is.name;
    kind = h.kind ∙ sym is.kind;
    table = sym is.table;
    shapes = shapes_in v layer made (grouped_shapes layer.kind layer.shapes.items is.grouped.groups) (map (dissolved_shape (plane_of v) l) is.grouped.groups)
        (groups_show layer.shapes.items l is.grouped.groups layer.kind h.kind other h.shapes) is.kind is.shapes;
  }

  -- ---- refusals

  point_alike : (k : Kind) → same_kind k kinds.Point ≡ is_point k
  point_alike kinds.Polygon = refl
  point_alike kinds.Line = refl
  point_alike kinds.Point = refl
  point_alike kinds.Table = refl

  abbrev answer_of : StateLayer → Bool → Result Grouped TableWhy → Outputs
  answer_of l refused answer = if refused then Err no_group_points else on_ok (in_layer answer) (λ (g : Grouped). just (grouped_of l g))

  abbrev refusal_by : Bool → Result Grouped TableWhy → Option RefuseWhy
  refusal_by refused answer = if refused then Some NoGroupPoints else table_refusal answer

  refused_alike : (l : StateLayer) (refused : Bool) (answer : Result Grouped TableWhy) → RefusedAlike (refusal_by refused answer) (answer_of l refused answer)
  refused_alike l true answer = refl
  refused_alike l false (Ok g) = (grouped_of l g ∷ [], refl)
  refused_alike l false (Err why) = refl

  answers_so : (l : StateLayer) (refused : Bool) (answer : Result Grouped TableWhy) (g : Grouped) → refusal_by refused answer ≡ None → answer ≡ Ok g → answer_of l refused answer ≡ just (grouped_of l g)
  answers_so l true answer g none e = absurd (cc)
  answers_so l false answer g none e = ap (answer_of l false) e

  -- what the state answers, by what the run has
  same_answer : (layer : Layer) (l : StateLayer) → LayerShows v layer l → (spec : GroupSpec) (group_points : Bool) →
      answer_of l (is_point layer.kind && not group_points) (group_rows layer.table spec) ≡ dissolve_layer (plane_of v) spec group_points l
  same_answer layer l h spec group_points =
      let refused : is_point layer.kind && not group_points ≡ same_kind l.kind kinds.Point && not group_points = ap (λ (b : Bool). b && not group_points) (sym (ap (λ (k : Kind). same_kind k kinds.Point) h.kind ∙ point_alike layer.kind)) in
      let table = sym h.table in
      λ i. answer_of l (refused i) (group_rows (table i) spec)

pub grouped_lines_show : GroupedLinesShow
grouped_lines_show v view layer l h other spec group_points =
    let refused : Bool = is_point layer.kind && not group_points in
    let answer : Result Grouped TableWhy = group_rows layer.table spec in
    let same = same_answer v view layer l h spec group_points in
    record {
      shows = λ made makes. subst (OutputsShow v made) same
          (one_shows v (IsGrouped spec layer) (answer_of v view l refused answer) (λ one is. (grouped_of v view l is.grouped, answers_so v view l refused answer is.grouped makes.0 is.answers, grouped_shows v view layer l h other spec one is)) made makes.1);
      refused = subst (RefusedAlike (refused_dissolve spec group_points layer)) same (refused_alike v view l refused answer);
    }

-- Paths cut by a set of faces: from runs of arcs to runs of steps.
use Rattle.std.proofs.Common.{◌≡◌, ◌↔◌, inl, inr, refl, sym, ap, ◌∙◌, subst, arith, ℕ, suc, ◌-◌, ◌<◌, Bool, true, false, not, ◌||◌, nat_eq, List, [], ◌∷◌, ◌++◌, map, reverse, length, get_or, All, Contains, append-nil}
use Rattle.std.specs.Cmp.{both_ways}
use Rattle.std.specs.List.{flat_map}
use Rattle.std.proofs.lemmas.Bool.{cases_lt, or_cases, or_left, or_right}
use Rattle.std.proofs.lemmas.List.{get_or-reverse, length-reverse, map-append}
use Rattle.std.proofs.lemmas.List.Elements.{All-contains, All-weaker}
use Rattle.lists.specs.Lists.{has}
use Rattle.lists.proofs.Members.{Contains-map, joined_up-Contains}
use Rattle.plane_model.specs.Points.{Segment, Path, link_between, reversed}
use Rattle.plane_model.specs.Arcs.{SignedArc, points_of}
use Rattle.plane_model.specs.Arrangement.{IsArrangement}
use Rattle.plane_model.specs.Drawing.{steps}
use Rattle.plane_model.specs.Joined.{links_of_arc}
use Rattle.plane_model.specs.Rotation.{Dart}
use Rattle.plane_model.specs.Snapped.{links_of, snapped}
use Rattle.plane_faces.specs.Places.{Place, left_side, right_side}
use Rattle.grid_base.specs.Drawn.{IsPath}
use Rattle.arc_table.specs.Along.{GoAlong}
use Rattle.arc_table.specs.Direction.{point_at}
use Rattle.arc_table.specs.PathArcs.{RunsFrom, round_from}
use Rattle.arc_table.specs.WholeArcs.{IsPassed}
use Rattle.arc_table.proofs.ArcSteps.{step_between, steps_fit, steps_many}
use Rattle.face_walk.specs.Places.{FaceTable}
use Rattle.face_laws.proofs.DartLemmas.{dart_back}
use Rattle.face_laws.proofs.StepLemmas.{IsStep, step_moves, step_on}
use Rattle.face_sets.proofs.BoundaryLemmas.{has_Contains, Contains_has}
use Rattle.line_ops.specs.Inside.{is_inside, is_outside}
use Rattle.line_ops.specs.Runs.{runs_where}
use Rattle.point_laws.specs.Sight.{PointsOf}
use Rattle.line_laws.specs.Linked.{AreLinked}
use Rattle.line_laws.specs.Lines.{AreLabelled, AreCutInto, TestsInside, IsLinkInside, goes_inside, goes_outside, steps_of_run, InsideIsTested, PathsAreCut, LinesAreCut, LineFeaturesAreCut}
use Rattle.line_laws.proofs.LinkSides.{arcs_are_inside, drawings_are_labelled, labels_agree, side_of_dart}
use Rattle.line_laws.proofs.RunPieces.{IsPiece, map_alike, runs_are_pieces}
use Rattle.line_laws.proofs.RunSteps.{IsChain, chain_linked, linked_steps, runs_linked, steps_along, steps_chain}

-- ---- a test

pub inside_is_tested : InsideIsTested
inside_is_tested S arcs faces label h set = (
  λ l. has nat_eq set (label (left_side l)) || has nat_eq set (label (right_side l)),
  λ l c.
      let left = side_of_dart S h.arrangement h.distinct label (labels_agree S arcs faces label h) set (record { link = l; forward = true }) c in
      let right = side_of_dart S h.arrangement h.distinct label (labels_agree S arcs faces label h) set (record { link = l; forward = false }) c in (
        λ e. elim (or_cases (has nat_eq set (label (left_side l))) (has nat_eq set (label (right_side l))) e) [
          | inl i ↦ inl (left.1 (has_Contains set (label (left_side l)) i))
          | inr i ↦ inr (right.1 (has_Contains set (label (right_side l)) i))
        ],
        λ s. elim s [
          | inl i ↦ or_left (has nat_eq set (label (left_side l))) (has nat_eq set (label (right_side l))) (Contains_has set (label (left_side l)) (left.0 i))
          | inr i ↦ or_right (has nat_eq set (label (left_side l))) (has nat_eq set (label (right_side l))) (Contains_has set (label (right_side l)) (right.0 i))
        ],
      ),
)

-- ---- the steps of a signed arc go along the links of its arc

back_step : (path : Path) (s : Segment) → Contains (steps (reverse path)) s → Contains (steps path) (reversed s)
back_step path s (j, l, is) =
    let size = length-reverse path in
    let fit = steps_fit (reverse path) j l in
    let k : ℕ = length path - 2 - j in
    let first : point_at (reverse path) j ≡ point_at path (suc k) = get_or-reverse path j _ (omega arith) ∙ ap (point_at path) (let e : length path - 1 - j ≡ suc (length path - 2 - j) = omega arith in e) in
    let second : point_at (reverse path) (suc j) ≡ point_at path k = get_or-reverse path (suc j) _ (omega arith) ∙ ap (point_at path) (let e : length path - 1 - suc j ≡ length path - 2 - j = omega arith in e) in
    let there : suc (length path - 2 - j) < length path = omega arith in
    let s_is : s ≡ record { start = point_at path (suc k); stop = point_at path k } = sym is ∙ step_between (reverse path) j s fit ∙ (λ i. record { start = first i; stop = second i }) in
    (k, steps_many path k there, step_between path k (reversed s) there ∙ sym (ap reversed s_is))

module _ (S : List Segment) (arr : IsArrangement S) (arcs : List Path) (long : All (λ arc. 1 < length arc) arcs) (along : GoAlong S arcs) where
  pub is_step : (n : ℕ) (s : Segment) → n < length arcs → Contains (steps (get_or arcs n [])) s → (j : ℕ) × IsStep arcs n j s
  is_step n s below (j, l, is) = (j, record { arc = below; there = l; is = is })

  pub link_along : (a : SignedArc) (s : Segment) → a.arc < length arcs → Contains (steps (points_of arcs a)) s → Contains (links_of_arc arcs a.arc) (link_between s) × Contains S (link_between s)
  link_along a s below = go a.is_reversed
    where
      go : (b : Bool) → Contains (steps (points_of arcs (record { arc = a.arc; is_reversed = b }))) s → Contains (links_of_arc arcs a.arc) (link_between s) × Contains S (link_between s)
      go false c = let st = is_step a.arc s below c in (Contains-map link_between (steps (get_or arcs a.arc [])) s c, step_on arcs S arr long along a.arc st.0 s st.1)
      go true c =
          let back : Contains (steps (get_or arcs a.arc [])) (reversed s) = back_step (get_or arcs a.arc []) s c in
          let st = is_step a.arc (reversed s) below back in
          let same : link_between s ≡ link_between (reversed s) = ap (λ (d : Dart). d.link) (dart_back (reversed s) (step_moves arcs S arr long along a.arc st.0 (reversed s) st.1)) in
          subst (λ (l : Segment). Contains (links_of_arc arcs a.arc) l × Contains S l) (sym same)
          (Contains-map link_between (steps (get_or arcs a.arc [])) (reversed s) back, step_on arcs S arr long along a.arc st.0 (reversed s) st.1)

  pub long_points : (a : SignedArc) → a.arc < length arcs → 1 < length (points_of arcs a)
  long_points a below = go a.is_reversed
    where
      go : (b : Bool) → 1 < length (points_of arcs (record { arc = a.arc; is_reversed = b }))
      go false = long a.arc [] below
      go true = let size = length-reverse (get_or arcs a.arc []) in let l : 1 < length (get_or arcs a.arc []) = long a.arc [] below in let m : 1 < length (reverse (get_or arcs a.arc [])) = omega arith in m

module _ (S : List Segment) (arcs : List Path) (faces : FaceTable) (label : Place → ℕ) (h : AreLabelled S arcs faces label) where
  module _ (set : List ℕ) (test : Segment → Bool) (tests : TestsInside S (PointsOf S label set) test) where
    -- each step of a signed arc goes along a link that is inside exactly if the arc is
    step_inside : (a : SignedArc) → a.arc < length arcs → (s : Segment) → Contains (steps_along arcs a) s → goes_inside test s ≡ is_inside faces set a
    step_inside a below s c =
        let (of_arc, of_links) = link_along S h.arrangement arcs h.long h.along a s below c in
        let by_arc = All-contains (λ (l : Segment). (is_inside faces set a ≡ true) ↔ IsLinkInside S (PointsOf S label set) l) (links_of_arc arcs a.arc) (link_between s) (arcs_are_inside S arcs faces label h set a below) of_arc in
        let by_test = tests (link_between s) of_links in
        both_ways (goes_inside test s) (is_inside faces set a) (λ e. by_arc.1 (by_test.0 e)) (λ e. by_test.1 (by_arc.0 e))

    inner_pieces : (named : List SignedArc) → All (λ a. a.arc < length arcs) named → All (IsPiece (steps_along arcs) (is_inside faces set) (goes_inside test)) named
    inner_pieces named there = All-weaker (λ a. a.arc < length arcs) (IsPiece (steps_along arcs) (is_inside faces set) (goes_inside test))
        (λ a below. record { some = steps_many (points_of arcs a) 0 (long_points S h.arrangement arcs h.long h.along a below); same = step_inside a below }) named there

    outer_pieces : (named : List SignedArc) → All (λ a. a.arc < length arcs) named → All (IsPiece (steps_along arcs) (is_outside faces set) (goes_outside test)) named
    outer_pieces named there = All-weaker (λ a. a.arc < length arcs) (IsPiece (steps_along arcs) (is_outside faces set) (goes_outside test))
        (λ a below. record { some = steps_many (points_of arcs a) 0 (long_points S h.arrangement arcs h.long h.along a below); same = λ s c. ap not (step_inside a below s c) }) named there

  -- the runs of arcs that follow each other, joined
  joined_runs : (t : SignedArc → Bool) (named : List SignedArc) → AreLinked arcs named → map (steps_of_run arcs) (runs_where t named) ≡ map (flat_map (steps_along arcs)) (runs_where t named)
  joined_runs t named linked =
      map_alike (steps_of_run arcs) (flat_map (steps_along arcs)) (runs_where t named)
      (All-weaker (AreLinked arcs) (λ run. steps_of_run arcs run ≡ flat_map (steps_along arcs) run) (linked_steps arcs) (runs_where t named) (runs_linked arcs t named [] linked))

  pub cut_runs : (set : List ℕ) (path : Path) (named : List SignedArc) → All (λ a. a.arc < length arcs) named → steps path ≡ flat_map (steps_along arcs) named →
      AreCutInto S (PointsOf S label set) arcs faces set named (steps path)
  cut_runs set path named there stepped =
      let linked : AreLinked arcs named = chain_linked arcs named (All-weaker (λ a. a.arc < length arcs) (λ a. 1 < length (points_of arcs a)) (long_points S h.arrangement arcs h.long h.along) named there) (subst IsChain stepped (steps_chain path)) in
      record {
        clipped = λ test tests.
            joined_runs (is_inside faces set) named linked
            ∙ runs_are_pieces (steps_along arcs) (is_inside faces set) (goes_inside test) named (inner_pieces set test tests named there)
            ∙ ap (runs_where (goes_inside test)) (sym stepped);
        erased = λ test tests.
            joined_runs (is_outside faces set) named linked
            ∙ runs_are_pieces (steps_along arcs) (is_outside faces set) (goes_outside test) named (outer_pieces set test tests named there)
            ∙ ap (runs_where (goes_outside test)) (sym stepped);
      }

pub paths_are_cut : PathsAreCut
paths_are_cut d arcs table faces built label by set path named there along =
    cut_runs (links_of (snapped d)) arcs faces label (drawings_are_labelled d arcs table faces built label by) set (round_from along.first path) named there along.stepped

-- ---- lines

pub lines_are_cut : LinesAreCut
lines_are_cut d drawn arcs table faces built label by set line is_line named there h = elim (cases_lt 1 (length line)) [
  | inl long ↦ from_start (h.along long)
  | inr short ↦ (
      let (paths, of_drawing, of_paths) = joined_up-Contains (snapped d).lines line is_line in
      let is_path : IsPath line = All-contains IsPath paths line (All-contains (All IsPath) (snapped d).lines paths drawn.lines of_drawing) of_paths in
      let (one, none) = single line is_path.not_empty (omega arith) in
      cut_runs (links_of (snapped d)) arcs faces label (drawings_are_labelled d arcs table faces built label by) set line named there
      (none ∙ ap (flat_map (steps_along arcs)) (sym (h.none one))))
]
  where
    single : (path : Path) → (path ≡ [] → ⊥) → length path < 2 → (length path ≡ 1) × (steps path ≡ [])
    single [] some l = absurd (some refl)
    single (p ∷ []) some l = (refl, refl)
    single (p ∷ q ∷ rest) some l = absurd (omega arith)

    -- a line starts at a node
    starts : IsPassed (snapped d) (point_at line 0) → 0 < length line → ⊥
    starts p some = p.plain (inl (line, is_line, inl (record { some = some; ends = inl refl })))

    from_start : RunsFrom (snapped d) arcs line named → AreCutInto (links_of (snapped d)) (PointsOf (links_of (snapped d)) label set) arcs faces set named (steps line)
    from_start along =
        let within = along.there in
        let at_start : along.first ≡ 0 = elim (cases_lt 0 along.first) [ inl l ↦ absurd (starts (along.passed 0 l) (omega arith)) | inr l ↦ omega arith ] in
        let whole : round_from along.first line ≡ line = ap (λ (k : ℕ). round_from k line) at_start ∙ append-nil line in
        subst (λ (path : Path). AreCutInto (links_of (snapped d)) (PointsOf (links_of (snapped d)) label set) arcs faces set named (steps path)) whole
        (paths_are_cut d arcs table faces built label by set line named there along)

-- ---- line features

-- lists that are cut one by one, for the lines one by one
cut_each : (cut : List SignedArc → List (List SignedArc)) (join : List SignedArc → List Segment) (runs : Path → List (List Segment)) (lines : List Path) (named : List (List SignedArc)) → length named ≡ length lines →
    ((k : ℕ) → k < length lines → map join (cut (get_or named k [])) ≡ runs (get_or lines k [])) → map join (flat_map cut named) ≡ flat_map runs lines
cut_each cut join runs [] [] size h = refl
cut_each cut join runs [] (a ∷ named) size h = absurd (omega arith)
cut_each cut join runs (line ∷ lines) [] size h = absurd (omega arith)
cut_each cut join runs (line ∷ lines) (a ∷ named) size h =
    map-append join (cut a) (flat_map cut named) ∙ (λ i. h 0 (omega arith) i ++ cut_each cut join runs lines named (omega arith) (λ k l. h (suc k) (omega arith)) i)

pub line_features_are_cut : LineFeaturesAreCut
line_features_are_cut d drawn arcs table faces built label by set lines named h test tests = record {
  clipped = cut_each (runs_where (is_inside faces set)) (steps_of_run arcs) (λ (line : Path). runs_where (goes_inside test) (steps line)) lines named h.each (λ k l. (one k l).clipped test tests);
  erased = cut_each (runs_where (is_outside faces set)) (steps_of_run arcs) (λ (line : Path). runs_where (goes_outside test) (steps line)) lines named h.each (λ k l. (one k l).erased test tests);
}
  where
    one : (k : ℕ) → k < length lines → AreCutInto (links_of (snapped d)) (PointsOf (links_of (snapped d)) label set) arcs faces set (get_or named k []) (steps (get_or lines k []))
    one k l =
        let many = h.each in
        lines_are_cut d drawn arcs table faces built label by set (get_or lines k []) (h.of_drawing k [] l) (get_or named k []) (h.there k [] (omega arith)) (h.along k l)

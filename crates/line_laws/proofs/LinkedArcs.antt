-- Paths of arcs that follow each other: lines of a drawing, their runs, and the arcs that they go along.
use Rattle.std.proofs.Common.{◌≡◌, inl, inr, refl, sym, ap, ◌∙◌, subst, arith, ℕ, zero, suc, ◌<◌, Bool, true, false, cond, nat_lt, List, [], ◌∷◌, ◌++◌, map, length, get_or, All, Contains, append-nil}
use Rattle.std.specs.List.{flat_map}
use Rattle.std.proofs.lemmas.Bool.{cases_lt, false_from_ne_true, or_cases, or_left, or_right, and_parts}
use Rattle.std.proofs.lemmas.List.{length-append}
use Rattle.std.proofs.lemmas.List.Elements.{All-contains, All-weaker, Contains-get_or}
use Rattle.std.proofs.lemmas.List.Folds.{Any-from_list_any, list_any_at}
use Rattle.std.proofs.lemmas.Simd.{map-map}
use Rattle.plane_parity.proofs.Abscissa.{same_link-self}
use Rattle.lists.specs.Lists.{ascending, has, place_of, without_last}
use Rattle.lists.proofs.Ascending.{Contains-ascending, ascending-Contains, ascending-IsAscending, one_ascending}
use Rattle.lists.proofs.Members.{Contains-flat_map, Contains-map, flat_map-Contains, map-Contains}
use Rattle.plane_model.specs.Points.{GridPoint, Segment, Path, link_between, reversed, same_point, same_segment}
use Rattle.plane_model.specs.Arcs.{SignedArc, arc_number, goes_along, joined_points, points_of}
use Rattle.plane_model.specs.Arrangement.{IsArrangement}
use Rattle.plane_model.specs.Drawing.{steps, steps_of_paths}
use Rattle.plane_model.specs.Joined.{links_of_arc}
use Rattle.plane_model.specs.Snapped.{links_of, snapped}
use Rattle.plane_model.proofs.PointOrder.{same_point_from, segment_is}
use Rattle.arc_table.specs.Along.{GoAlong}
use Rattle.arc_table.specs.Direction.{point_at}
use Rattle.arc_table.specs.PathArcs.{RunsFrom, round_from}
use Rattle.arc_table.specs.WholeArcs.{IsPassed}
use Rattle.arc_table.proofs.ArcSteps.{steps_many}
use Rattle.arc_table.proofs.Proper.{one_link}
use Rattle.face_laws.proofs.DartLemmas.{dart_back}
use Rattle.face_laws.proofs.StepLemmas.{IsStep, one_place, step_moves}
use Rattle.face_sets.proofs.SetLemmas.{nat_order}
use Rattle.plane_model.specs.Rotation.{Dart}
use Rattle.line_laws.specs.Linked.{AreLinked, AreThere, LinesAreDissolved, LinesAreLinked, RunsAreLinked, along_one, arcs_along, points_along}
use Rattle.line_laws.proofs.PathRuns.{is_step, link_along, long_points}
use Rattle.line_laws.proofs.RunSteps.{IsChain, chain_linked, linked_steps, runs_linked, steps_along, steps_chain}

-- ---- runs, and lines of a drawing

pub runs_are_linked : RunsAreLinked
runs_are_linked arcs test named linked = runs_linked arcs test named [] linked

pub lines_are_linked : LinesAreLinked
lines_are_linked d arcs table line is_line long named there h =
    let along : RunsFrom (snapped d) arcs line named = h.along long in
    let within = along.there in
    let at_start : along.first ≡ 0 = elim (cases_lt 0 along.first) [ inl l ↦ absurd (starts (along.passed 0 l) (omega arith)) | inr l ↦ omega arith ] in
    let whole : round_from along.first line ≡ line = ap (λ (k : ℕ). round_from k line) at_start ∙ append-nil line in (
      chain_linked arcs named (All-weaker (λ a. a.arc < length arcs) (λ a. 1 < length (points_of arcs a)) (long_points (links_of (snapped d)) table.arrangement arcs table.long table.links) named there)
          (subst IsChain along.stepped (steps_chain (round_from along.first line))),
      along.joined ∙ whole,
    )
  where
    -- a line starts at a node
    starts : IsPassed (snapped d) (point_at line 0) → 0 < length line → ⊥
    starts p some = p.plain (inl (line, is_line, inl (record { some = some; ends = inl refl })))

-- arcs that follow each other, joined, have a step
pub joined_long : (arcs : List Path) (a : SignedArc) (rest : List SignedArc) → AreLinked arcs (a ∷ rest) → 1 < length (joined_points arcs (a ∷ rest))
joined_long arcs a [] h = h
joined_long arcs a (b ∷ rest) h =
    let more : 1 < length (joined_points arcs (b ∷ rest)) = joined_long arcs b rest h.2 in
    let size = length-append (without_last (points_of arcs a)) (joined_points arcs (b ∷ rest)) in
    let both : 1 < length (without_last (points_of arcs a) ++ joined_points arcs (b ∷ rest)) = omega arith in
    both

-- ---- the number of the arc of a step

-- the place of an element that passes, where none before it does
place_is : {A : Type 0} (test : A → Bool) (xs : List A) (n : ℕ) (d : A) → n < length xs → test (get_or xs n d) ≡ true → ((m : ℕ) → m < n → test (get_or xs m d) ≡ false) → place_of test xs ≡ n
place_is test [] n d l e none = absurd (omega arith)
place_is test (x ∷ xs) zero d l e none = λ i. cond (e i) zero (suc (place_of test xs))
place_is test (x ∷ xs) (suc n) d l e none = (λ i. cond (none 0 (omega arith) i) zero (suc (place_of test xs))) ∙ ap suc (place_is test xs n d (omega arith) e (λ m k. none (suc m) (omega arith)))

has_itself : (ss : List Segment) (s : Segment) → Contains ss s → has same_segment ss s ≡ true
has_itself ss s c = list_any_at (same_segment s) ss c.0 s c.1 (ap (same_segment s) c.2 ∙ same_link-self s)

in_steps : (ss : List Segment) (s : Segment) → has same_segment ss s ≡ true → Contains ss s
in_steps ss s e =
    let (i, t, l, at, same) = Any-from_list_any (same_segment s) ss e in
    let (starts, ends) = and_parts (same_point s.start t.start) (same_point s.stop t.stop) same in
    let is : s ≡ t = segment_is s t (same_point_from s.start t.start starts) (same_point_from s.stop t.stop ends) in
    subst (Contains ss) (sym is) (i, l, at)

module _ (S : List Segment) (arr : IsArrangement S) (arcs : List Path) (long : All (λ arc. 1 < length arc) arcs) (along : GoAlong S arcs) where
  -- s steps along a link of arc n
  abbrev Steps : ℕ → Segment → Type 0
  Steps n s = (t : Segment) × (j : ℕ) × IsStep arcs n j t × (link_between t ≡ link_between s)

  steps_if : (n : ℕ) (s : Segment) → n < length arcs → goes_along s (get_or arcs n []) ≡ true → Steps n s
  steps_if n s below e = elim (or_cases (has same_segment (steps (get_or arcs n [])) s) (has same_segment (steps (get_or arcs n [])) (reversed s)) e) [
    | inl on ↦ (
        let (j, step) = is_step S arr arcs long along n s below (in_steps (steps (get_or arcs n [])) s on) in
        (s, j, step, refl))
    | inr back ↦ (
        let (j, step) = is_step S arr arcs long along n (reversed s) below (in_steps (steps (get_or arcs n [])) (reversed s) back) in
        (reversed s, j, step, sym (ap (λ (d : Dart). d.link) (dart_back (reversed s) (step_moves arcs S arr long along n j (reversed s) step)))))
  ]

  if_steps : (n : ℕ) (s : Segment) → n < length arcs → Contains (links_of_arc arcs n) (link_between s) → (goes_along s (get_or arcs n []) ≡ true) × Steps n s
  if_steps n s below c =
      let (t, in_arc, same) = map-Contains link_between (steps (get_or arcs n [])) (link_between s) c in
      let (j, step) = is_step S arr arcs long along n t below in_arc in (
        elim (one_link s t (sym same)) [
          | inl is ↦ or_left (has same_segment (steps (get_or arcs n [])) s) (has same_segment (steps (get_or arcs n [])) (reversed s)) (has_itself (steps (get_or arcs n [])) s (subst (Contains (steps (get_or arcs n []))) (sym is) in_arc))
          | inr is ↦ or_right (has same_segment (steps (get_or arcs n [])) s) (has same_segment (steps (get_or arcs n [])) (reversed s)) (has_itself (steps (get_or arcs n [])) (reversed s) (subst (Contains (steps (get_or arcs n []))) (sym (ap reversed is)) in_arc))
        ],
        (t, j, step, same),
      )

  pub arc_of_step : (a : SignedArc) (s : Segment) → a.arc < length arcs → Contains (steps (points_of arcs a)) s → arc_number arcs s ≡ a.arc
  arc_of_step a s below c =
      let (goes, on) = if_steps a.arc s below (link_along S arr arcs long along a s below c).0 in
      place_is (goes_along s) arcs a.arc [] below goes (λ m less. false_from_ne_true (goes_along s (get_or arcs m [])) (λ e.
      let (t, i, step, same) = steps_if m s (omega arith) e in
      let (u, j, other, alike) = on in
      let one : m ≡ a.arc = (one_place arcs along.once m a.arc i j t u step other (same ∙ sym alike)).0 in
      omega arith))

  first_step : (a : SignedArc) → a.arc < length arcs → (s : Segment) × Contains (steps (points_of arcs a)) s
  first_step a below =
      let some = steps_many (points_of arcs a) 0 (long_points S arr arcs long along a below) in
      let o : GridPoint = point_at (points_of arcs a) 0 in
      let none : Segment = record { start = o; stop = o } in
      (get_or (steps (points_of arcs a)) 0 none, Contains-get_or (steps (points_of arcs a)) 0 none some)

  -- ---- the arcs along some paths

  module _ (paths : List (List SignedArc)) (there : All (AreThere arcs) paths) (linked : All (AreLinked arcs) paths) where
    abbrev by_steps : List ℕ
    by_steps = map (arc_number arcs) (steps_of_paths (points_along arcs paths))

    abbrev by_arcs : List ℕ
    by_arcs = flat_map (map (λ (a : SignedArc). a.arc)) paths

    below : (named : List SignedArc) (a : SignedArc) → Contains paths named → Contains named a → a.arc < length arcs
    below named a in_paths in_path = All-contains (λ (b : SignedArc). b.arc < length arcs) named a (All-contains (AreThere arcs) paths named there in_paths) in_path

    stepped : (named : List SignedArc) → Contains paths named → steps (joined_points arcs named) ≡ flat_map (steps_along arcs) named
    stepped named in_paths = linked_steps arcs named (All-contains (AreLinked arcs) paths named linked in_paths)

    to_arcs : (n : ℕ) → Contains by_steps n → Contains by_arcs n
    to_arcs n c =
        let (s, in_all, is) = map-Contains (arc_number arcs) (steps_of_paths (points_along arcs paths)) n c in
        let (path, in_points, in_path) = flat_map-Contains steps (points_along arcs paths) s in_all in
        let (named, in_paths, same) = map-Contains (joined_points arcs) paths path in_points in
        let along_named : Contains (flat_map (steps_along arcs) named) s = subst (λ (ss : List Segment). Contains ss s) (ap steps (sym same) ∙ stepped named in_paths) in_path in
        let (a, in_named, along_a) = flat_map-Contains (steps_along arcs) named s along_named in
        let number : a.arc ≡ n = sym (arc_of_step a s (below named a in_paths in_named) along_a) ∙ is in
        subst (Contains by_arcs) number (Contains-flat_map (map (λ (b : SignedArc). b.arc)) paths named a.arc in_paths (Contains-map (λ (b : SignedArc). b.arc) named a in_named))

    to_steps : (n : ℕ) → Contains by_arcs n → Contains by_steps n
    to_steps n c =
        let (named, in_paths, in_numbers) = flat_map-Contains (map (λ (b : SignedArc). b.arc)) paths n c in
        let (a, in_named, is) = map-Contains (λ (b : SignedArc). b.arc) named n in_numbers in
        let low : a.arc < length arcs = below named a in_paths in_named in
        let (s, along_a) = first_step a low in
        let on_path : Contains (steps (joined_points arcs named)) s = subst (λ (ss : List Segment). Contains ss s) (sym (stepped named in_paths)) (Contains-flat_map (steps_along arcs) named a s in_named along_a) in
        let on_some : Contains (steps_of_paths (points_along arcs paths)) s = Contains-flat_map steps (points_along arcs paths) (joined_points arcs named) s (Contains-map (joined_points arcs) paths named in_paths) on_path in
        subst (Contains by_steps) (arc_of_step a s low along_a ∙ is) (Contains-map (arc_number arcs) (steps_of_paths (points_along arcs paths)) s on_some)

    pub arcs_by_steps : ascending nat_lt (map (arc_number arcs) (steps_of_paths (points_along arcs paths))) ≡ arcs_along paths
    arcs_by_steps =
        one_ascending nat_lt nat_order (ascending nat_lt by_steps) (ascending nat_lt by_arcs) (ascending-IsAscending nat_lt nat_order by_steps) (ascending-IsAscending nat_lt nat_order by_arcs)
        (λ n c. Contains-ascending nat_lt nat_order by_arcs n (to_arcs n (ascending-Contains nat_lt nat_order by_steps n c)))
        (λ n c. Contains-ascending nat_lt nat_order by_steps n (to_steps n (ascending-Contains nat_lt nat_order by_arcs n c)))

-- ---- dissolved lines

pub lines_are_dissolved : LinesAreDissolved
lines_are_dissolved d arcs table paths there linked P same =
    let used = ap (λ (all : List Path). ascending nat_lt (map (arc_number all) (steps_of_paths (points_along arcs paths)))) same ∙ arcs_by_steps (links_of (snapped d)) table.arrangement arcs table.long table.links paths there linked in (
      used,
      (λ i. map (λ (n : ℕ). get_or (same i) n []) (used i)) ∙ sym (map-map (joined_points arcs) along_one (arcs_along paths)),
    )

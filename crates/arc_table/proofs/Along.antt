-- The arcs of a table of steps go along exactly its links, along each once.
use Rattle.std.proofs.Common.{◌≡◌, inl, inr, refl, sym, ap, ◌∙◌, subst, arith, ℕ, zero, suc, ◌<◌, Bool, true, false, List, [], ◌∷◌, ◌++◌, map, reverse, length, get_or, All, Contains, append_assoc}
use Rattle.std.specs.Prelude.{◌≢◌, if◌then◌else◌}
use Rattle.std.specs.List.Sorted.{IsPermutation}
use Rattle.std.proofs.lemmas.List.{map-append, reverse-append, get_or_default}
use Rattle.std.proofs.lemmas.List.Elements.{All-nil, All-cons, All-head, All-tail, Contains-append_left, Contains-append_cases, Contains-get_or}
use Rattle.std.proofs.lemmas.List.Sorted.{All-permutation, Contains-permutation, IsPermutation-map, IsPermutation-reverse, IsPermutation-refl, IsPermutation-append, IsPermutation-sym}
use Rattle.lists.proofs.Ascending.{ascending-IsAscending, pairs_of_ascending}
use Rattle.lists.proofs.Members.{map-Contains}
use Rattle.plane_model.specs.Points.{GridPoint, Segment, Path, is_before, reversed, link_between, link_before}
use Rattle.plane_model.specs.Drawing.{Drawing, step_of, steps as steps_of, steps_of_paths, paths_of}
use Rattle.plane_model.specs.Arrangement.{IsBefore, IsArrangement}
use Rattle.plane_model.specs.Snapped.{links_of}
use Rattle.plane_model.proofs.PointOrder.{before_to, link_before-IsStrictOrder}
use Rattle.arc_table.specs.Direction.{is_backward}
use Rattle.arc_table.specs.Steps.{AreLinks, AreOnward, AreSteps}
use Rattle.arc_table.specs.Numbering.{walk, step_at, ends_along, points_along, arc_points, GoesOn, IsWay, AreWays, link_at, links_from, links_along}
use Rattle.arc_table.specs.Along.{links_of_arcs, GoAlong}
use Rattle.arc_table.specs.declared.half_links.Net.{Net}
use Rattle.arc_table.specs.declared.numbering.Way.{Way}
use Rattle.arc_table.proofs.Everywhere.{All-mapped, All-joined}
use Rattle.arc_table.proofs.Marks.{back_at}
use Rattle.arc_table.proofs.Others.{start_is}
use Rattle.arc_table.proofs.Proper.{once_moved, link_turned, moves}

-- the links of a drawing go up, each stands once
pub are_links : (d : Drawing) → IsArrangement (links_of d) → AreLinks (links_of d)
are_links d h = record {
  once = pairs_of_ascending link_before (λ (k : Segment) (l : Segment). k ≢ l) (links_of d) (ascending-IsAscending link_before link_before-IsStrictOrder (map link_between (steps_of_paths (paths_of d))))
      (λ k l c e b f. link_before-IsStrictOrder.irreflexive l (subst (λ (m : Segment). link_before m l ≡ true) f b));
  ordered = h.ordered;
}

-- ---- steps of a path gone along backwards

steps_last : (xs : Path) (p q : GridPoint) → steps_of (xs ++ p ∷ q ∷ []) ≡ steps_of (xs ++ p ∷ []) ++ step_of (p, q) ∷ []
steps_last [] p q = refl
steps_last (x ∷ []) p q = refl
steps_last (x ∷ y ∷ xs) p q = ap (λ (ss : List Segment). step_of (x, y) ∷ ss) (steps_last (y ∷ xs) p q)

steps_back : (path : Path) → steps_of (reverse path) ≡ reverse (map reversed (steps_of path))
steps_back [] = refl
steps_back (p ∷ []) = refl
steps_back (p ∷ q ∷ rest) =
    ap steps_of (reverse-append (p ∷ []) (q ∷ rest) ∙ ap (λ (xs : Path). xs ++ p ∷ []) (reverse-append (q ∷ []) rest) ∙ append_assoc (reverse rest) (q ∷ []) (p ∷ []))
    ∙ steps_last (reverse rest) q p
    ∙ ap (λ (xs : Path). steps_of xs ++ step_of (q, p) ∷ []) (sym (reverse-append (q ∷ []) rest))
    ∙ ap (λ (ss : List Segment). ss ++ step_of (q, p) ∷ []) (steps_back (q ∷ rest))
    ∙ sym (reverse-append (step_of (q, p) ∷ []) (map reversed (steps_of (q ∷ rest))))

links_back : (ss : List Segment) → All (λ (s : Segment). s.start ≢ s.stop) ss → map link_between (map reversed ss) ≡ map link_between ss
links_back [] h = refl
links_back (s ∷ ss) h =
    let one = link_turned s (All-head (λ (t : Segment). t.start ≢ t.stop) s ss h) in
    let rest = links_back ss (All-tail (λ (t : Segment). t.start ≢ t.stop) s ss h) in
    λ i. one i ∷ rest i

-- gone along either way, a path has the same links
pub links_turned : (path : Path) → All (λ (s : Segment). s.start ≢ s.stop) (steps_of path) → IsPermutation (map link_between (steps_of path)) (map link_between (steps_of (reverse path)))
links_turned path h =
    let back = map reversed (steps_of path) in
    subst (λ (ls : List Segment). IsPermutation ls (map link_between (steps_of (reverse path)))) (links_back (steps_of path) h)
    (subst (λ (ss : List Segment). IsPermutation (map link_between back) (map link_between ss)) (sym (steps_back path))
    (IsPermutation-map link_between back (reverse back) (IsPermutation-reverse back)))

pub link_of_up : (l : Segment) → IsBefore l.start l.stop → link_between l ≡ l
link_of_up l u = go (is_before l.start l.stop) (before_to l.start l.stop u)
  where
    go : (b : Bool) → b ≡ true → (if b then l else reversed l) ≡ l
    go true e = refl
    go false e = absurd (let f : false ≡ true = e in cc)

module _ (net : Net) where
  abbrev steps : List Segment
  steps = net.steps

  abbrev onward : List ℕ
  onward = net.onward.items

  there : (h : ℕ) → h < length steps → get_or onward h 0 < length steps
  there h l = net.onward_there h 0 (let n = net.onward_each in omega arith)

  walk_there : (n h : ℕ) → h < length steps → All (λ (k : ℕ). k < length steps) (walk onward n h)
  walk_there zero h l = All-nil (λ (k : ℕ). k < length steps)
  walk_there (suc n) h l = All-cons (λ (k : ℕ). k < length steps) h (walk onward n (get_or onward h 0)) l (walk_there n (get_or onward h 0) (there h l))

  twice : (ks : List ℕ) → map link_between (map (step_at steps) ks) ≡ map (link_at net) ks
  twice [] = refl
  twice (k ∷ ks) = ap (λ (ls : List Segment). link_at net k ∷ ls) (twice ks)

  module _ (turns : List GridPoint) (on : AreOnward steps net.twins.items turns onward (length steps)) where
    -- a step starts where the step before it stops
    pub meets : (h : ℕ) → h < length steps → get_or onward h 0 ≢ h → (step_at steps (get_or onward h 0)).start ≡ (step_at steps h).stop
    meets h l differs =
        let other = ((on h l).leads differs).other in
        let twin = get_or net.twins.items h 0 in
        let back : step_at steps twin ≡ reversed (step_at steps h) = back_at steps h twin l (λ s e. net.twins_back h s l e) in
        start_is steps (get_or onward h 0) other.start _ other.other ∙ sym (start_is steps twin other.start _ other.here) ∙ ap (λ (s : Segment). s.start) back

    along : (n h : ℕ) → h < length steps → GoesOn onward n h → steps_of ((step_at steps h).start ∷ ends_along net n h) ≡ map (step_at steps) (walk onward n h)
    along zero h l g = refl
    along (suc zero) h l g = refl
    along (suc (suc n)) h l g =
        let next = get_or onward h 0 in
        ap (λ (ss : List Segment). step_at steps h ∷ ss) (ap (λ (p : GridPoint). steps_of (p ∷ ends_along net (suc n) next)) (sym (meets h l g.0)) ∙ along (suc n) next (there h l) g.1)

    moving_along : (n h : ℕ) → h < length steps → All (λ (s : Segment). s.start ≢ s.stop) (map (step_at steps) (walk onward n h))
    moving_along n h l = All-mapped (λ (k : ℕ). k < length steps) (λ (s : Segment). s.start ≢ s.stop) (step_at steps) (λ k m. net.proper.moving k _ m) (walk onward n h) (walk_there n h l)

    pub one_arc : (way : Way) → IsWay net way → IsPermutation (links_from net way.steps way.start) (map link_between (steps_of (arc_points net way)))
    one_arc way w = go (is_backward (points_along net way))
      where
        path : Path
        path = points_along net way

        is : steps_of (points_along net way) ≡ map (step_at steps) (walk onward way.steps way.start)
        is = along way.steps way.start w.there w.on

        links : links_from net way.steps way.start ≡ map link_between (steps_of (points_along net way))
        links = sym (twice (walk onward way.steps way.start)) ∙ sym (ap (map link_between) is)

        go : (b : Bool) → IsPermutation (links_from net way.steps way.start) (map link_between (steps_of (if b then reverse (points_along net way) else points_along net way)))
        go true = subst (λ (ls : List Segment). IsPermutation ls (map link_between (steps_of (reverse (points_along net way))))) (sym links)
            (links_turned (points_along net way) (subst (All (λ (s : Segment). s.start ≢ s.stop)) (sym is) (moving_along way.steps way.start w.there)))
        go false = subst (IsPermutation (links_from net way.steps way.start)) links (IsPermutation-refl (links_from net way.steps way.start))

    all_arcs : (ways : List Way) → All (IsWay net) ways → IsPermutation (links_along net ways) (links_of_arcs (map (arc_points net) ways))
    all_arcs [] h = IsPermutation-refl []
    all_arcs (way ∷ ways) h =
        let rest = map (arc_points net) ways in
        subst (IsPermutation (links_along net (way ∷ ways))) (sym (map-append link_between (steps_of (arc_points net way)) (steps_of_paths rest)))
        (IsPermutation-append (links_from net way.steps way.start) (map link_between (steps_of (arc_points net way))) (links_along net ways) (links_of_arcs rest)
        (one_arc way (All-head (IsWay net) way ways h)) (all_arcs ways (All-tail (IsWay net) way ways h)))

    module _ (S : List Segment) (links : AreLinks S) (made : AreSteps S steps) where
      pub link_there : (k : ℕ) → k < length steps → Contains S (link_at net k)
      link_there k l =
          elim (Contains-append_cases S (map reversed S) (step_at steps k) (Contains-permutation steps (S ++ map reversed S) (step_at steps k) (IsPermutation-sym (S ++ map reversed S) steps made.all) (Contains-get_or steps k _ l))) [
            | inl c ↦ subst (Contains S) (sym (link_of_up (step_at steps k) (ordered_at (step_at steps k) c))) c
            | inr c ↦ (
                let m = map-Contains reversed S (step_at steps k) c in
                let up = ordered_at m.0 m.1 in
                subst (Contains S) (sym (link_of_up m.0 up) ∙ sym (link_turned m.0 (moves m.0 up)) ∙ ap link_between m.2) m.1)
          ]
        where
          ordered_at : (l : Segment) → Contains S l → IsBefore l.start l.stop
          ordered_at l c = subst (λ (m : Segment). IsBefore m.start m.stop) c.2 (links.ordered c.0 l c.1)

      links_there : (ways : List Way) → All (IsWay net) ways → All (Contains S) (links_along net ways)
      links_there [] h = All-nil (Contains S)
      links_there (way ∷ ways) h =
          All-joined (Contains S) (links_from net way.steps way.start) (links_along net ways)
          (All-mapped (λ (k : ℕ). k < length steps) (Contains S) (link_at net) link_there (walk onward way.steps way.start) (walk_there way.steps way.start (All-head (IsWay net) way ways h).there))
          (links_there ways (All-tail (IsWay net) way ways h))

      pub go_along : (ways : List Way) (arcs : List Path) → AreWays net ways → arcs ≡ map (arc_points net) ways → GoAlong S arcs
      go_along ways arcs w e =
          let same : IsPermutation (links_along net ways) (links_of_arcs arcs) = subst (λ (xs : List Path). IsPermutation (links_along net ways) (links_of_arcs xs)) (sym e) (all_arcs ways w.ways) in
          record {
            once = once_moved (links_along net ways) (links_of_arcs arcs) same w.once;
            all = λ l c.
                (let d = Contains-permutation (S ++ map reversed S) steps l made.all (Contains-append_left S (map reversed S) l c) in
                let up : IsBefore l.start l.stop = subst (λ (m : Segment). IsBefore m.start m.stop) c.2 (links.ordered c.0 l c.1) in
                let here : link_at net d.0 ≡ l = ap link_between (get_or_default steps d.0 _ l d.1 ∙ d.2) ∙ link_of_up l up in
                Contains-permutation (links_along net ways) (links_of_arcs arcs) l same (subst (Contains (links_along net ways)) here (w.all d.0 d.1)));
            others = All-permutation (Contains S) (links_along net ways) (links_of_arcs arcs) same (links_there ways w.ways);
          }

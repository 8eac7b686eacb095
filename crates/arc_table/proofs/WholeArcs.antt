-- The arcs of a table are whole: nodes are their ends alone.
use Rattle.std.proofs.Common.{◌≡◌, ◌⊎◌, inl, inr, sym, ap, ◌∙◌, subst, arith, ℕ, zero, suc, ◌+◌, ◌-◌, ◌<◌, Bool, true, false, List, ◌++◌, map, reverse, length, All, Contains, Some, None}
use Rattle.std.specs.Prelude.{◌≢◌, if◌then◌else◌}
use Rattle.std.proofs.lemmas.Bool.{cases_lt}
use Rattle.std.proofs.lemmas.List.{get_or_default, get_or-map, length-map}
use Rattle.std.proofs.lemmas.List.Elements.{Contains-append_left, Contains-append_right}
use Rattle.std.proofs.lemmas.List.Sorted.{Contains-permutation, IsPermutation-sym}
use Rattle.std.proofs.lemmas.Option.{slice_get-get_or, slice_get_cases}
use Rattle.lists.proofs.Members.{Contains-map}
use Rattle.plane_model.specs.Points.{GridPoint, Segment, Path, is_before, reversed, link_between}
use Rattle.plane_model.specs.Drawing.{Drawing}
use Rattle.plane_model.specs.Arrangement.{IsBefore}
use Rattle.plane_model.specs.Snapped.{links_of}
use Rattle.arc_table.specs.Direction.{point_at, is_backward}
use Rattle.arc_table.specs.Steps.{StartsAt, LeadsOn, AreOnward, AreLinks, AreSteps}
use Rattle.arc_table.specs.Nodes.{turns_of_drawing, IsTurn, AreTurns}
use Rattle.arc_table.specs.Numbering.{walk, step_at, link_at, points_along, arc_points, GoesRound, IsWay}
use Rattle.arc_table.specs.WholeArcs.{EndsAt, IsPassed, IsNode, IsWholeArc, StartsAtLeast}
use Rattle.arc_table.specs.declared.half_links.Net.{Net}
use Rattle.arc_table.specs.declared.numbering.Way.{Way}
use Rattle.arc_table.proofs.Along.{link_of_up, link_there, meets}
use Rattle.arc_table.proofs.Everywhere.{All-mapped}
use Rattle.arc_table.proofs.Marks.{back_at}
use Rattle.arc_table.proofs.Others.{start_is, none_starts_before}
use Rattle.arc_table.proofs.Proper.{link_turned, link_is, moves}
use Rattle.arc_table.proofs.Turns.{turn_of_listed, listed_of_turn}
use Rattle.arc_table.proofs.WholeBack.{back_least, back_whole}
use Rattle.arc_table.proofs.Rounds.{came_back}
use Rattle.arc_table.proofs.Runs.{goes_at, length_walk, walk_at, twin, next, after, twin_there, after_there, one_of}

module _ (d : Drawing) (net : Net) (turns : List GridPoint) (turned : AreTurns d turns) (on : AreOnward net.steps net.twins.items turns net.onward.items (length net.steps))
    (links : AreLinks (links_of d)) (made : AreSteps (links_of d) net.steps) where
  abbrev S : List Segment
  S = links_of d

  abbrev steps : List Segment
  steps = net.steps

  abbrev N : ℕ
  N = length net.steps

  abbrev step : ℕ → Segment
  step h = step_at net.steps h

  there : (j : ℕ) → j < N → Contains S (link_at net j)
  there j l = link_there net turns on S links made j l

  starts : (j : ℕ) (p : GridPoint) → j < N → (step j).start ≡ p → StartsAt steps j p
  starts j p l e = (step j, slice_get-get_or steps j _ l, e)

  starts_there : (j : ℕ) (p : GridPoint) → StartsAt steps j p → j < N
  starts_there j p c = elim (slice_get_cases steps j).1 [ inl r ↦ r.1 | inr r ↦ absurd (let f : Some c.0 ≡ None = sym c.1 ∙ r.1 in cc) ]

  twin_step : (h : ℕ) → h < N → step (twin net h) ≡ reversed (step h)
  twin_step h l = back_at steps h (twin net h) l (λ s e. net.twins_back h s l e)

  moving : (h : ℕ) → h < N → (step h).start ≢ (step h).stop
  moving h l = net.proper.moving h _ l

  ends_at_start : (j : ℕ) (p : GridPoint) → (step j).start ≡ p → EndsAt p (link_at net j)
  ends_at_start j p e = elim (link_is (step j)) [
    | inl f ↦ inl (ap (λ (s : Segment). s.start) f ∙ e)
    | inr f ↦ inr (ap (λ (s : Segment). s.stop) f ∙ e)
  ]

  ordered : (l : Segment) → Contains S l → IsBefore l.start l.stop
  ordered l c = subst (λ (m : Segment). IsBefore m.start m.stop) c.2 (links.ordered c.0 l c.1)

  place_of : (s : Segment) → Contains steps s → (j : ℕ) × (j < N) × (step j ≡ s)
  place_of s c = (c.0, c.1, get_or_default steps c.0 _ s c.1 ∙ c.2)

  -- the step from p along a link that starts or ends there
  step_along : (l : Segment) (p : GridPoint) → Contains S l → EndsAt p l → (j : ℕ) × (j < N) × (link_at net j ≡ l) × ((step j).start ≡ p)
  step_along l p c ends =
      let up = ordered l c in
      elim ends [
        | inl e ↦ (
            let w = place_of l (Contains-permutation (S ++ map reversed S) steps l made.all (Contains-append_left S (map reversed S) l c)) in
            (w.0, w.1, ap link_between w.2 ∙ link_of_up l up, ap (λ (s : Segment). s.start) w.2 ∙ e))
        | inr e ↦ (
            let w = place_of (reversed l) (Contains-permutation (S ++ map reversed S) steps (reversed l) made.all (Contains-append_right S (map reversed S) (reversed l) (Contains-map reversed S l c))) in
            (w.0, w.1, ap link_between w.2 ∙ link_turned l (moves l up) ∙ link_of_up l up, ap (λ (s : Segment). s.start) w.2 ∙ e))
      ]

  -- two steps from one point along one link are one
  one_step : (i j : ℕ) → i < N → j < N → link_at net i ≡ link_at net j → (step i).start ≡ (step j).start → i ≡ j
  one_step i j l m e f = elim (one_of net i j l m e) [
    | inl g ↦ g
    | inr g ↦ absurd (moving j m (sym f ∙ ap (λ (k : ℕ). (step k).start) g ∙ ap (λ (s : Segment). s.start) (twin_step j m)))
  ]

  -- a step that goes on leads to no node
  passed : (h : ℕ) → h < N → next net h ≢ h → IsPassed d (step h).stop
  passed h l differs =
      let t = twin net h in
      let k = next net h in
      let t_there = twin_there net h l in
      let lead : LeadsOn steps turns t k = (on h l).leads differs in
      let o = lead.other in
      let p = o.start in
      let k_there = starts_there k p o.other in
      let t_start : (step t).start ≡ p = start_is steps t p _ o.here in
      let k_start : (step k).start ≡ p = start_is steps k p _ o.other in
      let is : p ≡ (step h).stop = sym t_start ∙ ap (λ (s : Segment). s.start) (twin_step h l) in
      let here : IsPassed d p = record {
        two = record {
          one = link_at net t;
          another = link_at net k;
          apart = λ e. o.apart (one_step t k t_there k_there e (t_start ∙ sym k_start));
          one_there = there t t_there;
          another_there = there k k_there;
          one_ends = ends_at_start t p t_start;
          another_ends = ends_at_start k p k_start;
          only = λ m c ends.
              (let w = step_along m p c ends in
              elim (o.only w.0 (starts w.0 p w.1 w.3)) [
                | inl e ↦ inl (sym w.2 ∙ ap (link_at net) e)
                | inr e ↦ inr (sym w.2 ∙ ap (link_at net) e)
              ]);
        };
        plain = λ c. lead.plain (Contains-permutation (turns_of_drawing d) turns p turned.all (listed_of_turn d p c));
      } in
      subst (IsPassed d) is here

  module _ (h : ℕ) (l : h < N) (stays : next net h ≡ h) (plain : IsTurn d (step h).stop → ⊥) where
    abbrev t : ℕ
    t = twin net h

    abbrev v : GridPoint
    v = (step h).stop

    t_start : (step t).start ≡ v
    t_start = ap (λ (s : Segment). s.start) (twin_step h l)

    no_other : (m : Segment) → link_at net t ≢ m → Contains S m → EndsAt v m → ((k : Segment) → Contains S k → EndsAt v k → (k ≡ link_at net t) ⊎ (k ≡ m)) → ⊥
    no_other m apart c ends only =
        let w = step_along m v c ends in
        let t_there = twin_there net h l in
        let lead : LeadsOn steps turns t w.0 = record {
          other = record {
            start = v;
            here = starts t v t_there t_start;
            other = starts w.0 v w.1 w.3;
            apart = λ e. apart (ap (link_at net) e ∙ w.2);
            only = λ i from.
                (let i_there = starts_there i v from in
                let i_start : (step i).start ≡ v = start_is steps i v _ from in
                elim (only (link_at net i) (there i i_there) (ends_at_start i v i_start)) [
                  | inl e ↦ inl (one_step i t i_there t_there e (i_start ∙ sym t_start))
                  | inr e ↦ inr (one_step i w.0 i_there w.1 (e ∙ sym w.2) (i_start ∙ sym w.3))
                ]);
          };
          plain = λ b. plain (turn_of_listed d v (Contains-permutation turns (turns_of_drawing d) v (IsPermutation-sym (turns_of_drawing d) turns turned.all) b));
        } in
        let same : h ≡ w.0 = sym stays ∙ (on h l).only w.0 lead in
        moving h l (ap (λ (k : ℕ). (step k).start) same ∙ w.3)

  -- a step that does not leads to a node
  is_node : (h : ℕ) → h < N → next net h ≡ h → IsNode d (step h).stop
  is_node h l stays b =
      let two = b.two in
      let t_there = twin_there net h l in
      elim (two.only (link_at net (twin net h)) (there (twin net h) t_there) (ends_at_start (twin net h) (step h).stop (t_start h l stays b.plain))) [
        | inl e ↦ no_other h l stays b.plain two.another (λ f. two.apart (sym e ∙ f)) two.another_there two.another_ends
            (λ k c ends. elim (two.only k c ends) [ inl g ↦ inl (g ∙ sym e) | inr g ↦ inr g ])
        | inr e ↦ no_other h l stays b.plain two.one (λ f. two.apart (sym f ∙ e)) two.one_there two.one_ends
            (λ k c ends. elim (two.only k c ends) [ inl g ↦ inr g | inr g ↦ inl (g ∙ sym e) ])
      ]

  -- ---- the points along an arc

  module _ (way : Way) (w : IsWay net way) where
    abbrev n : ℕ
    n = way.steps

    abbrev at : ℕ → ℕ
    at j = after net j way.start

    abbrev P : Path
    P = points_along net way

    at_there : (j : ℕ) → at j < N
    at_there j = after_there net j way.start w.there

    size : length P ≡ suc n
    size = ap suc (length-map (walk net.onward.items n way.start) (λ (k : ℕ). (step k).stop) ∙ length_walk net.onward.items n way.start)

    point_after : (j : ℕ) → j < n → point_at P (suc j) ≡ (step (at j)).stop
    point_after j l =
        let m = length_walk net.onward.items n way.start in
        get_or-map (λ (k : ℕ). (step k).stop) (walk net.onward.items n way.start) j 0 _ (omega arith) ∙ ap (λ (k : ℕ). (step k).stop) (walk_at net.onward.items n way.start j 0 l)

    first_is : point_at P 0 ≡ (step (twin net way.start)).stop
    first_is = sym (ap (λ (s : Segment). s.stop) (twin_step way.start w.there))

    last_is : point_at P (length P - 1) ≡ (step (at (n - 1))).stop
    last_is =
        let s = size in
        let m = w.some in
        ap (point_at P) (let e : length P - 1 ≡ suc (n - 1) = omega arith in e) ∙ point_after (n - 1) (omega arith)

    inside : (k : ℕ) → 0 < k → k + 1 < length P → IsPassed d (point_at P k)
    inside zero l m = absurd (omega arith)
    inside (suc j) l m =
        let s = size in
        subst (IsPassed d) (sym (point_after j (omega arith))) (passed (at j) (at_there j) (goes_at net.onward.items n way.start j w.on (omega arith)))

    along_whole : IsWholeArc d P
    along_whole = record {
      inner = λ k l m. inside k l m;
      ends = elim w.whole [
        | inl e ↦ inl (
          subst (IsNode d) (sym first_is) (is_node (twin net way.start) (twin_there net way.start w.there) e.0),
          subst (IsNode d) (sym last_is) (is_node (at (n - 1)) (at_there (n - 1)) e.1),
        )
        | inr e ↦ (
            let joined : point_at P 0 ≡ (step (at (n - 1))).stop =
            ap (λ (k : ℕ). (step k).start) (sym e.1) ∙ meets net turns on (at (n - 1)) (at_there (n - 1)) e.0 in
            inr (joined ∙ sym last_is, subst (IsPassed d) (sym joined) (passed (at (n - 1)) (at_there (n - 1)) e.0)))
      ];
    }

    long : 1 < length P
    long = let s = size in let m = w.some in omega arith

    -- an arc that starts at no node goes round
    goes_round : IsPassed d (point_at P 0) → GoesRound net way.start
    goes_round here i = elim w.whole [
      | inl e ↦ absurd (subst (IsNode d) (sym first_is) (is_node (twin net way.start) (twin_there net way.start w.there) e.0) here)
      | inr e ↦ (
          let (j, l, same) = came_back net way.start (n - 1) e.1 i in
          let some = w.some in
          elim (cases_lt j (n - 1)) [
            | inl less ↦ (λ stays. goes_at net.onward.items n way.start j w.on (omega arith) (ap (next net) (sym same) ∙ stays ∙ same))
            | inr last ↦ (λ stays.
                let there : at i ≡ at (n - 1) = same ∙ ap at (let s : j ≡ n - 1 = omega arith in s) in e.0 (ap (next net) (sym there) ∙ stays ∙ there))
          ])
    ]

    along_least : StartsAtLeast d P
    along_least here zero l = none_starts_before net.steps made.sorted way.start way.start _ (omega arith) w.there
    along_least here (suc j) l =
        let s = size in
        let m : j < n = omega arith in
        let (ahead, past) = w.least (goes_round here) j in
        let back : point_at P (suc j) ≡ (step (twin net (at j))).start = point_after j m ∙ ap (λ (t : Segment). t.start) (sym (twin_step (at j) (at_there j))) in
        ap (λ (p : GridPoint). is_before p (point_at P 0)) back ∙ none_starts_before net.steps made.sorted way.start (twin net (at j)) _ past (twin_there net (at j) (at_there j))

  arc_whole : (way : Way) → IsWay net way → IsWholeArc d (arc_points net way)
  arc_whole way w = go (is_backward (points_along net way))
    where
      go : (b : Bool) → IsWholeArc d (if b then reverse (points_along net way) else points_along net way)
      go true = back_whole d (points_along net way) (long way w) (along_whole way w)
      go false = along_whole way w

  pub arcs_whole : (ways : List Way) (arcs : List Path) → All (IsWay net) ways → arcs ≡ map (arc_points net) ways → All (IsWholeArc d) arcs
  arcs_whole ways arcs h e = subst (All (IsWholeArc d)) (sym e) (All-mapped (IsWay net) (IsWholeArc d) (arc_points net) (λ way w. arc_whole way w) ways h)

  arc_least : (way : Way) → IsWay net way → StartsAtLeast d (arc_points net way)
  arc_least way w = go (is_backward (points_along net way))
    where
      go : (b : Bool) → StartsAtLeast d (if b then reverse (points_along net way) else points_along net way)
      go true = back_least d (points_along net way) (long way w) (along_whole way w) (along_least way w)
      go false = along_least way w

  pub arcs_least : (ways : List Way) (arcs : List Path) → All (IsWay net) ways → arcs ≡ map (arc_points net) ways → All (StartsAtLeast d) arcs
  arcs_least ways arcs h e = subst (All (StartsAtLeast d)) (sym e) (All-mapped (IsWay net) (StartsAtLeast d) (arc_points net) (λ way w. arc_least way w) ways h)

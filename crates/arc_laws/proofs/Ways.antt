-- On along the arcs of a table: from vertex to vertex there is one way.
use Rattle.std.proofs.Common.{◌≡◌, inl, inr, refl, sym, ap, ◌∙◌, subst, arith, ℕ, zero, suc, ◌+◌, ◌-◌, ◌<◌, ◌≤◌, Bool, false, ◌||◌, List, [], ◌∷◌, ◌++◌, map, length, get_or, drop, take, All, AllPairs, Contains, Some, pos}
use Rattle.std.specs.Prelude.{◌≢◌}
use Rattle.std.proofs.lemmas.Bool.{cases_eq, cases_lt, false_from_ne_true, or_left, or_right}
use Rattle.std.proofs.lemmas.List.{get_or-append_right, get_or-drop, get_or-map, get_or-take, get_or_append_left, get_or_default, length-append, length-drop, length-map, length-take-le}
use Rattle.std.proofs.lemmas.List.Elements.{All-cons, All-head, All-nil, All-tail}
use Rattle.lists.specs.Lists.{tail}
use Rattle.plane_model.specs.Points.{GridPoint, Segment, Path, link_between, reversed, same_point}
use Rattle.plane_model.specs.Drawing.{Drawing, steps}
use Rattle.plane_model.specs.Joined.{IsClosed}
use Rattle.plane_model.specs.Arcs.{SignedArc, across_from, is_node, next_vertex, points_of}
use Rattle.plane_model.specs.Arrangement.{IsBefore, IsDistinct}
use Rattle.plane_model.proofs.PointOrder.{same_point_from, same_point_to}
use Rattle.plane_model.specs.Snapped.{links_of}
use Rattle.arc_table.specs.Along.{GoAlong}
use Rattle.arc_table.specs.Direction.{point_at}
use Rattle.arc_table.specs.Nodes.{IsRingOf}
use Rattle.arc_table.specs.WholeArcs.{IsPassed, IsWholeArc}
use Rattle.arc_table.proofs.ArcSteps.{IsStepOf, moving, on_link_of, one_place_of, step_between, steps_fit, steps_many}
use Rattle.arc_table.proofs.Proper.{link_is, link_turned}
use Rattle.arc_table.proofs.Runs.{too_many}
use Rattle.arc_table.proofs.Walks.{all_whole, ends_at_start, ends_at_stop, pick}
use Rattle.arc_table.proofs.DrawnPaths.{tail_at}
use Rattle.arc_laws.proofs.Nodes.{across_start, across_stop, if_passed, joined_two, node_if, other_next}
use Rattle.arc_laws.proofs.Runs.{IsRun}

-- ---- links at a step's ends

across_back : (t : Segment) → t.start ≢ t.stop → across_from t.stop (link_between t) ≡ Some t.start
across_back t moves = elim (link_is t) [
  | inl e ↦ ap (across_from t.stop) e ∙ across_stop t.stop t moves refl
  | inr e ↦ ap (across_from t.stop) e ∙ across_start t.stop (reversed t) refl
]

across_on : (t : Segment) → t.start ≢ t.stop → across_from t.start (link_between t) ≡ Some t.stop
across_on t moves = elim (link_is t) [
  | inl e ↦ ap (across_from t.start) e ∙ across_start t.start t refl
  | inr e ↦ ap (across_from t.start) e ∙ across_stop t.start (reversed t) (λ f. moves (sym f)) refl
]

-- ---- paths without their first vertex

pub tail_long : (path : Path) (n : ℕ) → suc n ≡ length path → length (tail path) ≡ n
tail_long [] n e = absurd (omega arith)
tail_long (p ∷ path) n e = omega arith

abbrev o : GridPoint
o = record { x = pos 0; y = pos 0 }

-- ---- elements of a list, each once

record ArePlaced (S xs : List Segment) : Type 0 where
  ns : List ℕ
  each : length ns ≡ length xs
  there : All (λ n. n < length S) ns
  at : (k : ℕ) (d : Segment) → k < length xs → get_or S (get_or ns k 0) d ≡ get_or xs k d

placed : (S xs : List Segment) → All (Contains S) xs → ArePlaced S xs
placed S [] h = record { ns = []; each = refl; there = All-nil (λ n. n < length S); at = λ k d l. absurd (omega arith) }
placed S (x ∷ xs) h =
    let r = placed S xs (All-tail (Contains S) x xs h) in
    let (i, below, is) = All-head (Contains S) x xs h in
    record { ns = i ∷ r.ns; each = ap suc r.each; there = All-cons (λ n. n < length S) i r.ns below r.there; at = λ k. at i below is r k }
  where
    at : (i : ℕ) → i < length S → get_or S i x ≡ x → (r : ArePlaced S xs) (k : ℕ) (d : Segment) → k < length (x ∷ xs) → get_or S (get_or (i ∷ r.ns) k 0) d ≡ get_or (x ∷ xs) k d
    at i below is r zero d l = get_or_default S i d x below ∙ is
    at i below is r (suc k) d l = r.at k d (omega arith)

at_most : (xs S : List Segment) → AllPairs (λ k l. k ≢ l) xs → All (Contains S) xs → length xs ≤ length S
at_most xs S apart there =
    let r = placed S xs there in
    let each = r.each in
    elim (cases_lt (length S) (length xs)) [
      | inl many ↦ absurd (too_many r.ns (length S) (λ i j d less l e.
          let none : Segment = record { start = o; stop = o } in
          let same : get_or r.ns i 0 ≡ get_or r.ns j 0 = get_or_default r.ns i 0 d (omega arith) ∙ e ∙ sym (get_or_default r.ns j 0 d l) in
          apart i j none less (omega arith) (sym (r.at i none (omega arith)) ∙ ap (λ (n : ℕ). get_or S n none) same ∙ r.at j none (omega arith))) r.there (omega arith))
      | inr few ↦ few
    ]

module _ (s : Drawing) (distinct : IsDistinct (links_of s)) (closed : (ring : Path) → IsRingOf s ring → IsClosed ring) (ordered : All (λ (l : Segment). IsBefore l.start l.stop) (links_of s))
    (arcs : List Path) (along : GoAlong (links_of s) arcs) (whole : All (IsWholeArc s) arcs) (long : All (λ (path : Path). 1 < length path) arcs) where
  abbrev S : List Segment
  S = links_of s

  abbrev node : GridPoint → Bool
  node p = is_node s S p

  pub moves : (t : Segment) → Contains S (link_between t) → t.start ≢ t.stop
  moves t c = moving S arcs ordered along t c

  -- from a step to a vertex that is passed the way goes on along the other link
  next_of : (t u : Segment) → t.stop ≡ u.start → Contains S (link_between t) → Contains S (link_between u) → (link_between t ≡ link_between u → ⊥) → IsPassed s t.stop → next_vertex S t.start t.stop ≡ u.stop
  next_of t u meets on_t on_u apart passed =
      let two = passed.two in
      other_next S t.start u.stop t.stop
      (λ e. apart (sym (link_turned t (moves t on_t)) ∙ ap link_between (λ i. record { start = meets i; stop = e i })))
      (joined_two S distinct t.stop t.start u.stop (link_between t) (link_between u) on_t on_u apart (across_back t (moves t on_t)) (ap (λ (p : GridPoint). across_from p (link_between u)) meets ∙ across_on u (moves u on_u))
      (λ k c ends. pick two.one two.another k (link_between t) (link_between u) (two.only k c ends) (two.only (link_between t) on_t (ends_at_stop t t.stop refl)) (two.only (link_between u) on_u (ends_at_start u t.stop (sym meets))) apart))

  -- ---- along one arc

  module _ (a : SignedArc) (below : a.arc < length arcs) where
    abbrev Q : Path
    Q = points_of arcs a

    abbrev step : ℕ → Segment
    step k = record { start = point_at Q k; stop = point_at Q (suc k) }

    step_of : (k : ℕ) → suc k < length Q → IsStepOf arcs a k (step k)
    step_of k l = record { arc = below; there = l; is = refl }

    pub on : (k : ℕ) → suc k < length Q → Contains S (link_between (step k))
    on k l = on_link_of S arcs ordered along a k (step k) (step_of k l)

    pub apart_steps : (j k : ℕ) → suc j < length Q → suc k < length Q → (j ≡ k → ⊥) → link_between (step j) ≡ link_between (step k) → ⊥
    apart_steps j k l m ne e = ne (one_place_of S arcs ordered along a j k (step j) (step k) (step_of j l) (step_of k m) e)

    pub is_whole : IsWholeArc s Q
    is_whole = all_whole s arcs ordered along whole long a below

    inner : (k : ℕ) → 0 < k → suc k < length Q → IsPassed s (point_at Q k)
    inner k some l = is_whole.inner k some (omega arith)

    inner_next : (k : ℕ) → suc (suc k) < length Q → next_vertex S (point_at Q k) (point_at Q (suc k)) ≡ point_at Q (suc (suc k))
    inner_next k l = next_of (step k) (step (suc k)) refl (on k (omega arith)) (on (suc k) l) (apart_steps k (suc k) (omega arith) l (λ e. omega arith)) (inner (suc k) (omega arith) l)

    -- a vertex inside an arc is no other vertex of it, but perhaps its last
    inner_once : (j m : ℕ) → 0 < j → j < m → suc m < length Q → point_at Q m ≡ point_at Q j → ⊥
    inner_once j m some less l e = back j some less e
      where
        back : (j : ℕ) → 0 < j → j < m → point_at Q m ≡ point_at Q j → ⊥
        back zero some less e = absurd (omega arith)
        back (suc i) some less e =
            let passed = inner (suc i) (omega arith) (omega arith) in
            let two = passed.two in
            elim (pick two.one two.another (link_between (step m)) (link_between (step i)) (link_between (step (suc i)))
            (two.only (link_between (step m)) (on m l) (ends_at_start (step m) (point_at Q (suc i)) e))
            (two.only (link_between (step i)) (on i (omega arith)) (ends_at_stop (step i) (point_at Q (suc i)) refl))
            (two.only (link_between (step (suc i))) (on (suc i) (omega arith)) (ends_at_start (step (suc i)) (point_at Q (suc i)) refl))
            (apart_steps i (suc i) (omega arith) (omega arith) (λ f. omega arith))) [
              | inl f ↦ apart_steps m i l (omega arith) (λ g. omega arith) f
              | inr f ↦ apart_steps m (suc i) l (omega arith) (λ g. omega arith) f
            ]

    -- ---- as many steps as links at most

    abbrev links : List Segment
    links = map link_between (steps Q)

    link_is_on : (k : ℕ) (d : Segment) → k < length links → get_or links k d ≡ link_between (step k)
    link_is_on k d l =
        let size = length-map (steps Q) link_between in
        get_or-map link_between (steps Q) k d d (omega arith) ∙ ap link_between (step_between Q k d (steps_fit Q k (omega arith)))

    few_links : length links ≤ length S
    few_links = at_most links S
        (λ i j d less l e. let size = length-map (steps Q) link_between in
        apart_steps i j (steps_fit Q i (omega arith)) (steps_fit Q j (omega arith)) (λ f. omega arith) (sym (link_is_on i d (omega arith)) ∙ e ∙ link_is_on j d l))
        (λ k d l. let size = length-map (steps Q) link_between in subst (Contains S) (sym (link_is_on k d l)) (on k (steps_fit Q k (omega arith))))

    pub few_points : length Q ≤ length S + 1
    few_points =
        let few = few_links in
        let size = length-map (steps Q) link_between in
        elim (cases_lt (length S + 1) (length Q)) [
          | inl many ↦ absurd (let m = steps_many Q (length S) (omega arith) in omega arith)
          | inr less ↦ less
        ]

    -- ---- run along from a step

    module _ (j : ℕ) (there : suc j < length Q) where
      abbrev rest : Path
      rest = drop j Q

      rest_at : (k : ℕ) → point_at rest k ≡ point_at Q (j + k)
      rest_at k = get_or-drop j Q k o

      rest_long : length rest ≡ length Q - j
      rest_long = length-drop j Q

      -- an arc between nodes, up to its end
      module _ (first : IsPassed s (point_at Q 0) → ⊥) (last : IsPassed s (point_at Q (length Q - 1)) → ⊥) where
        later_apart : (m : ℕ) → j < m → suc m < length Q → point_at Q m ≡ point_at Q j → ⊥
        later_apart m less l e = go j refl less
          where
            go : (i : ℕ) → i ≡ j → i < m → ⊥
            go zero is less = first (subst (IsPassed s) (e ∙ ap (point_at Q) (sym is)) (inner m (omega arith) l))
            go (suc i) is less = inner_once (suc i) m (omega arith) less l (e ∙ ap (point_at Q) (sym is))

        pub open_run : IsRun node S rest
        open_run =
            let size = rest_long in
            let few = few_points in
            record {
              long = omega arith;
              few = omega arith;
              goes = λ k l.
                  let one : j + suc k ≡ suc (j + k) = omega arith in
                  let two : j + suc (suc k) ≡ suc (suc (j + k)) = omega arith in
                  let here : point_at rest (suc k) ≡ point_at Q (suc (j + k)) = rest_at (suc k) ∙ ap (point_at Q) one in
                  let before : point_at rest k ≡ point_at Q (j + k) = rest_at k in
                  let start : point_at rest 0 ≡ point_at Q j = rest_at 0 ∙ ap (point_at Q) (let z : j + 0 ≡ j = omega arith in z) in (
                    (λ i. (ap node here ∙ if_passed s distinct closed (point_at Q (suc (j + k))) (inner (suc (j + k)) (omega arith) (omega arith))) i
                        || false_from_ne_true (same_point (point_at rest (suc k)) (point_at rest 0)) (λ f.
                        later_apart (suc (j + k)) (omega arith) (omega arith) (sym here ∙ same_point_from (point_at rest (suc k)) (point_at rest 0) f ∙ start)) i),
                    (λ i. next_vertex S (before i) (here i)) ∙ inner_next (j + k) (omega arith) ∙ sym (rest_at (suc (suc k)) ∙ ap (point_at Q) two),
                  );
              stops_at = λ k l.
                  or_left (node (point_at rest k)) (same_point (point_at rest k) (point_at rest 0))
                  (node_if s distinct closed (point_at rest k) (λ p. last (subst (IsPassed s) (rest_at k ∙ ap (point_at Q) (let z : j + k ≡ length Q - 1 = omega arith in z)) p)));
            }

      -- a closed arc without a node, round to where it starts
      module _ (n : ℕ) (long_by : suc n ≡ length Q) (round : point_at Q 0 ≡ point_at Q n) (passed : IsPassed s (point_at Q 0)) where
        some_steps : 1 < n
        some_steps = elim (cases_lt 1 n) [
          | inl l ↦ l
          | inr l ↦ absurd (moves (step 0) (on 0 (omega arith)) (round ∙ ap (point_at Q) (let l2 = there in let z : n ≡ 1 = omega arith in z)))
        ]

        last_step : suc (n - 1) < length Q
        last_step = let l = some_steps in omega arith

        into_start : point_at Q (suc (n - 1)) ≡ point_at Q 0
        into_start = ap (point_at Q) (let l = some_steps in let z : suc (n - 1) ≡ n = omega arith in z) ∙ sym round

        wrap_next : next_vertex S (point_at Q (n - 1)) (point_at Q n) ≡ point_at Q 1
        wrap_next =
            let l = some_steps in
            ap (λ (p : GridPoint). next_vertex S (point_at Q (n - 1)) p) (ap (point_at Q) (let z : n ≡ suc (n - 1) = omega arith in z))
            ∙ next_of (step (n - 1)) (step 0) into_start (on (n - 1) last_step) (on 0 (omega arith)) (apart_steps (n - 1) 0 last_step (omega arith) (λ e. omega arith)) (subst (IsPassed s) (sym into_start) passed)

        start_once : (m : ℕ) → 0 < m → suc m < length Q → point_at Q m ≡ point_at Q 0 → ⊥
        start_once m some l e =
            let two = passed.two in
            let more = some_steps in
            elim (pick two.one two.another (link_between (step m)) (link_between (step (n - 1))) (link_between (step 0))
            (two.only (link_between (step m)) (on m l) (ends_at_start (step m) (point_at Q 0) e))
            (two.only (link_between (step (n - 1))) (on (n - 1) last_step) (ends_at_stop (step (n - 1)) (point_at Q 0) into_start))
            (two.only (link_between (step 0)) (on 0 (omega arith)) (ends_at_start (step 0) (point_at Q 0) refl))
            (apart_steps (n - 1) 0 last_step (omega arith) (λ f. omega arith))) [
              | inl f ↦
                  elim (cases_eq m (n - 1)) [
                    | inl same ↦ moves (step (n - 1)) (on (n - 1) last_step) (ap (point_at Q) (sym same) ∙ e ∙ sym into_start)
                    | inr other ↦ apart_steps m (n - 1) l last_step other f
                  ]
              | inr f ↦ apart_steps m 0 l (omega arith) (λ g. omega arith) f
            ]

        -- no two of the vertices but the first and the last are one
        pub apart_round : (i m : ℕ) → i < m → m < n → point_at Q m ≡ point_at Q i → ⊥
        apart_round zero m less l e = start_once m less (omega arith) e
        apart_round (suc i) m less l e = inner_once (suc i) m (omega arith) less (omega arith) e

        abbrev W : Path
        W = rest ++ take j (tail Q)

        pub W_long : length W ≡ suc n
        W_long =
            let size = rest_long in
            let both = length-append rest (take j (tail Q)) in
            let tails : length (tail Q) ≡ n = tail_long Q n long_by in
            let part = length-take-le j (tail Q) (omega arith) in
            omega arith

        pub W_low : (k : ℕ) → j + k ≤ n → point_at W k ≡ point_at Q (j + k)
        W_low k l = let size = rest_long in get_or_append_left rest (take j (tail Q)) o k (omega arith) ∙ rest_at k

        pub W_high : (k i : ℕ) → k ≤ n → n ≤ j + k → i ≡ j + k - n → point_at W k ≡ point_at Q i
        W_high k i l m is = elim (cases_lt n (j + k)) [
          | inr low ↦ W_low k low ∙ ap (point_at Q) (let z : j + k ≡ n = omega arith in z) ∙ sym round ∙ ap (point_at Q) (let z : 0 ≡ i = omega arith in z)
          | inl high ↦
              (let size = rest_long in
              let tails : length (tail Q) ≡ n = tail_long Q n long_by in
              get_or-append_right rest (take j (tail Q)) (length rest) k o refl (omega arith)
              ∙ get_or-take j (tail Q) (k - length rest) o (omega arith)
              ∙ tail_at Q (k - length rest) ∙ ap (point_at Q) (let z : suc (k - length rest) ≡ i = omega arith in z))
        ]

        pub start_at : point_at W 0 ≡ point_at Q j
        start_at = W_low 0 (omega arith) ∙ ap (point_at Q) (let z : j + 0 ≡ j = omega arith in z)

        no_node : (p : GridPoint) (m : ℕ) → m ≤ n → p ≡ point_at Q m → node p ≡ false
        no_node p m l e = ap node e ∙ if_passed s distinct closed (point_at Q m) (at m l)
          where
            at : (m : ℕ) → m ≤ n → IsPassed s (point_at Q m)
            at zero l = passed
            at (suc i) l = elim (cases_lt (suc i) n) [
              | inl less ↦ inner (suc i) (omega arith) (omega arith)
              | inr same ↦ subst (IsPassed s) (round ∙ ap (point_at Q) (let z : n ≡ suc i = omega arith in z)) passed
            ]

        no_start : (k : ℕ) (p : GridPoint) (m : ℕ) → p ≡ point_at Q m → (point_at Q m ≡ point_at Q j → ⊥) → same_point p (point_at W 0) ≡ false
        no_start k p m e ne = false_from_ne_true (same_point p (point_at W 0)) (λ f. ne (sym e ∙ same_point_from p (point_at W 0) f ∙ start_at))

        goes_round : (k : ℕ) → suc (suc k) < length W → ((node (point_at W (suc k)) || same_point (point_at W (suc k)) (point_at W 0)) ≡ false) × (next_vertex S (point_at W k) (point_at W (suc k)) ≡ point_at W (suc (suc k)))
        goes_round k l = elim (cases_lt (suc (j + k)) n) [
          | inl low ↦
              (let size = W_long in
              let here : point_at W (suc k) ≡ point_at Q (suc (j + k)) = W_low (suc k) (omega arith) ∙ ap (point_at Q) (let z : j + suc k ≡ suc (j + k) = omega arith in z) in
              let after : point_at W (suc (suc k)) ≡ point_at Q (suc (suc (j + k))) = W_low (suc (suc k)) (omega arith) ∙ ap (point_at Q) (let z : j + suc (suc k) ≡ suc (suc (j + k)) = omega arith in z) in
              let before : point_at W k ≡ point_at Q (j + k) = W_low k (omega arith) in (
                (λ i. no_node (point_at W (suc k)) (suc (j + k)) (omega arith) here i || no_start k (point_at W (suc k)) (suc (j + k)) here (apart_round j (suc (j + k)) (omega arith) low) i),
                (λ i. next_vertex S (before i) (here i)) ∙ inner_next (j + k) (omega arith) ∙ sym after,
              ))
          | inr high ↦ elim (cases_lt n (suc (j + k))) [
            | inr same ↦
                (let size = W_long in
                let more = some_steps in
                let here : point_at W (suc k) ≡ point_at Q n = W_low (suc k) (omega arith) ∙ ap (point_at Q) (let z : j + suc k ≡ n = omega arith in z) in
                let after : point_at W (suc (suc k)) ≡ point_at Q 1 = W_high (suc (suc k)) 1 (omega arith) (omega arith) (omega arith) in
                let before : point_at W k ≡ point_at Q (n - 1) = W_low k (omega arith) ∙ ap (point_at Q) (let z : j + k ≡ n - 1 = omega arith in z) in (
                  (λ i. no_node (point_at W (suc k)) n (omega arith) here i || no_start k (point_at W (suc k)) n here (λ e. start_once j (omega arith) there (sym e ∙ sym round)) i),
                  (λ i. next_vertex S (before i) (here i)) ∙ wrap_next ∙ sym after,
                ))
            | inl past ↦
                (let size = W_long in
                let here : point_at W (suc k) ≡ point_at Q (suc (j + k - n)) = W_high (suc k) (suc (j + k - n)) (omega arith) (omega arith) (omega arith) in
                let after : point_at W (suc (suc k)) ≡ point_at Q (suc (suc (j + k - n))) = W_high (suc (suc k)) (suc (suc (j + k - n))) (omega arith) (omega arith) (omega arith) in
                let before : point_at W k ≡ point_at Q (j + k - n) = W_high k (j + k - n) (omega arith) (omega arith) refl in (
                  (λ i. no_node (point_at W (suc k)) (suc (j + k - n)) (omega arith) here i || no_start k (point_at W (suc k)) (suc (j + k - n)) here (λ e. apart_round (suc (j + k - n)) j (omega arith) (omega arith) (sym e)) i),
                  (λ i. next_vertex S (before i) (here i)) ∙ inner_next (j + k - n) (omega arith) ∙ sym after,
                ))
          ]
        ]

        pub round_run : IsRun node S W
        round_run =
            let size = W_long in
            let few = few_points in
            let more = some_steps in
            record {
              long = omega arith;
              few = omega arith;
              goes = goes_round;
              stops_at = λ k l.
                  or_right (node (point_at W k)) (same_point (point_at W k) (point_at W 0))
                  (same_point_to (point_at W k) (point_at W 0) (W_high k j (omega arith) (omega arith) (omega arith) ∙ sym start_at));
            }

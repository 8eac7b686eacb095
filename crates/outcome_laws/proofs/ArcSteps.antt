-- The arcs of a drawing go along its links, step by step.
use Rattle.std.proofs.Common.{◌≡◌, ◌⊎◌, inl, inr, refl, sym, ap, ◌∙◌, subst, append_assoc, append-nil, ℕ, zero, suc, Bool, true, false, not, ◌&&◌, ◌||◌, List, [], ◌∷◌, ◌++◌, map, filter, reverse, length, Option, Some, None, Contains}
use Rattle.std.specs.Prelude.{if◌then◌else◌, unwrap_or}
use Rattle.std.proofs.lemmas.List.{reverse-append}
use Rattle.lists.specs.Lists.{first_or, last_of, least_of, list_before, place_of, same_list, tail, turned}
use Rattle.lists.proofs.Members.{Contains-cases, Contains-head, Contains-later, Contains-nil, filter-Contains, filter_map-Contains}
use Rattle.plane_model.specs.Points.{GridPoint, Path, Segment, is_before, reversed, same_point}
use Rattle.plane_model.specs.Drawing.{Drawing, paths_of, steps, steps_of_paths}
use Rattle.plane_model.specs.Arcs.{across_from, arc_along, arcs_of, begun_at_least, forward_way, is_node, joined_to, next_vertex, run_from, way_on}
use Rattle.plane_model.proofs.PointOrder.{clash, same_point_from, same_point_to}
use Rattle.outcome_laws.specs.Laws.{IsAlong}
use Rattle.outcome_laws.proofs.Every.{Every, every_map, every_once}

abbrev pub from_to : GridPoint → GridPoint → Segment
from_to p q = record { start = p; stop = q }

module _ (S : List Segment) where
  pub along_back : (s : Segment) → IsAlong S s → IsAlong S (reversed s)
  along_back s (inl c) = inr c
  along_back s (inr c) = inl c

  -- the path goes along links, step by step
  abbrev pub Goes : Path → Type 0
  Goes path = Every (IsAlong S) (steps path)

  goes_on : (p : GridPoint) (path : Path) → Goes (p ∷ path) → Goes path
  goes_on p [] g = tt
  goes_on p (q ∷ rest) g = g.1

  -- two paths, the second begun where the first ends
  goes_through : (front : Path) (p : GridPoint) (rest : Path) → Goes (front ++ p ∷ []) → Goes (p ∷ rest) → Goes (front ++ p ∷ rest)
  goes_through [] p rest g h = h
  goes_through (x ∷ []) p rest g h = (g.0, h)
  goes_through (x ∷ y ∷ front) p rest g h = (g.0, goes_through (y ∷ front) p rest g.1 h)

  -- one step more
  goes_further : (p : GridPoint) (path : Path) (q : GridPoint) → Goes (p ∷ path) → IsAlong S (from_to (last_of p path) q) → Goes (p ∷ path ++ q ∷ [])
  goes_further p [] q g a = (a, tt)
  goes_further p (r ∷ path) q g a = (g.0, goes_further r path q g.1 a)

  goes_back : (path : Path) → Goes path → Goes (reverse path)
  goes_back [] g = tt
  goes_back (p ∷ []) g = tt
  goes_back (p ∷ q ∷ rest) g =
      let turned_rest : Goes (reverse rest ++ q ∷ []) = subst Goes (reverse-append (q ∷ []) rest) (goes_back (q ∷ rest) g.1) in
      let whole : reverse (p ∷ q ∷ rest) ≡ reverse rest ++ q ∷ p ∷ [] = reverse-append (p ∷ []) (q ∷ rest) ∙ ap (λ (xs : Path). xs ++ p ∷ []) (reverse-append (q ∷ []) rest) ∙ append_assoc (reverse rest) (q ∷ []) (p ∷ []) in
      subst Goes (sym whole) (goes_through (reverse rest) q (p ∷ []) turned_rest (along_back (from_to p q) g.0, tt))

  goes_forward : (path : Path) → Goes path → Goes (forward_way path)
  goes_forward path g = go (list_before is_before (reverse path) path)
    where
      go : (b : Bool) → Goes (if b then reverse path else path)
      go true = goes_back path g
      go false = g

  -- ## Ways along links

  across : (q r : GridPoint) (l : Segment) → Contains S l → across_from q l ≡ Some r → IsAlong S (from_to q r)
  across q r l c = go (same_point l.start q) (same_point l.stop q) refl refl
    where
      got : {x : GridPoint} → Some x ≡ Some r → x ≡ r
      got e = ap (λ (o : Option GridPoint). unwrap_or o r) e

      go : (a b : Bool) → same_point l.start q ≡ a → same_point l.stop q ≡ b → (if a then Some l.stop else if b then Some l.start else None) ≡ Some r → IsAlong S (from_to q r)
      go true b e f is = inl (subst (Contains S) (λ i. from_to (same_point_from l.start q e i) (got is i)) c)
      go false true e f is = inr (subst (Contains S) (λ i. from_to (got is i) (same_point_from l.stop q f i)) c)
      go false false e f is = absurd (let none : None ≡ Some r = is in cc)

  joined : (q r : GridPoint) → Contains (joined_to S q) r → IsAlong S (from_to q r)
  joined q r c = let (l, there, is) = filter_map-Contains (across_from q) S r c in across q r l there is

  next_along : (p q : GridPoint) → IsAlong S (from_to p q) → IsAlong S (from_to q (next_vertex S p q))
  next_along p q a = go (filter (λ (r : GridPoint). not (same_point r p)) (joined_to S q)) (λ r c. joined q r (filter-Contains (λ (r : GridPoint). not (same_point r p)) (joined_to S q) r c).0)
    where
      go : (rs : List GridPoint) → ((r : GridPoint) → Contains rs r → IsAlong S (from_to q r)) → IsAlong S (from_to q (first_or p rs))
      go [] h = along_back (from_to p q) a
      go (r ∷ rs) h = h r (Contains-head r rs)

  module _ (node : GridPoint → Bool) where
    way_goes : (n : ℕ) (start p q : GridPoint) → IsAlong S (from_to p q) → Goes (p ∷ way_on node S n start p q)
    way_goes zero start p q a = (a, tt)
    way_goes (suc n) start p q a = (a, go (node q || same_point q start) (way_goes n start q (next_vertex S p q) (next_along p q a)))
      where
        go : (b : Bool) → Goes (q ∷ way_on node S n start q (next_vertex S p q)) → Goes (q ∷ (elim b [ true ↦ [] | false ↦ way_on node S n start q (next_vertex S p q) ]))
        go true g = tt
        go false g = g

    way_begins : (n : ℕ) (start p q : GridPoint) → way_on node S n start p q ≡ q ∷ tail (way_on node S n start p q)
    way_begins zero start p q = refl
    way_begins (suc n) start p q = refl

    run_goes : (s : Segment) → IsAlong S s → Goes (run_from node S s.start s.stop)
    run_goes s a = way_goes (length S) s.start s.start s.stop a

    -- ## Closed ways, begun elsewhere

    -- a closed way, without the point where it ends
    abbrev GoesRound : Path → Type 0
    GoesRound [] = Unit {0}
    GoesRound (p ∷ rest) = Goes (p ∷ rest ++ p ∷ [])

    round_from : (p : GridPoint) (rest : Path) → Goes (p ∷ rest) → last_of p rest ≡ p → GoesRound rest
    round_from p [] g e = tt
    round_from p (q ∷ rest) g e = goes_further q rest q g.1 (subst (λ (r : GridPoint). IsAlong S (from_to r q)) (sym e) g.0)

    last_after : (p : GridPoint) (path : Path) (q : GridPoint) → last_of p (path ++ q ∷ []) ≡ q
    last_after p [] q = refl
    last_after p (r ∷ path) q = last_after r path q

    turned_once : (p : GridPoint) (rest : Path) → GoesRound (p ∷ rest) → GoesRound (rest ++ p ∷ [])
    turned_once p [] g = g
    turned_once p (q ∷ rest) g = goes_further q (rest ++ p ∷ []) q g.1 (subst (λ (r : GridPoint). IsAlong S (from_to r q)) (sym (last_after q rest p)) g.0)

    turned_round : (n : ℕ) (path : Path) → GoesRound path → GoesRound (turned n path)
    turned_round n [] g = tt
    turned_round zero (p ∷ rest) g = g
    turned_round (suc n) (p ∷ rest) g = turned_round n (rest ++ p ∷ []) (turned_once p rest g)

    -- turned to the first point that passes, a path begins with it
    record BeginsAt (test : GridPoint → Bool) (path : Path) : Type 0 where
      point : GridPoint
      rest : Path
      is : path ≡ point ∷ rest
      passes : test point ≡ true

    turned_to : (test : GridPoint → Bool) (xs ys : Path) (w : GridPoint) → Contains xs w → test w ≡ true → BeginsAt test (turned (place_of test xs) (xs ++ ys))
    turned_to test [] ys w c e = Contains-nil w c
    turned_to test (x ∷ xs) ys w c e = go (test x) refl (Contains-cases x xs w c) (λ d. turned_to test xs (ys ++ x ∷ []) w d e)
      where
        go : (b : Bool) → test x ≡ b → (x ≡ w) ⊎ Contains xs w → (Contains xs w → BeginsAt test (turned (place_of test xs) (xs ++ (ys ++ x ∷ [])))) → BeginsAt test (turned (if b then 0 else suc (place_of test xs)) (x ∷ xs ++ ys))
        go true f h later = record { point = x; rest = xs ++ ys; is = refl; passes = f }
        go false f (inl is) later = clash (test x) (ap test is ∙ e) f
        go false f (inr d) later = subst (λ (path : Path). BeginsAt test (turned (place_of test xs) path)) (sym (append_assoc xs ys (x ∷ []))) (later d)

    least_there : (d q : GridPoint) (rest : Path) → Contains (q ∷ rest) (least_of is_before d (q ∷ rest))
    least_there d q [] = Contains-head q []
    least_there d q (r ∷ rest) = go (is_before (least_of is_before d (r ∷ rest)) q) (least_there d r rest)
      where
        go : (b : Bool) → Contains (r ∷ rest) (least_of is_before d (r ∷ rest)) → Contains (q ∷ r ∷ rest) (if b then least_of is_before d (r ∷ rest) else q)
        go true c = Contains-later q (r ∷ rest) (least_of is_before d (r ∷ rest)) c
        go false c = Contains-head q (r ∷ rest)

    least_goes : (p : GridPoint) (rest : Path) → Goes (p ∷ rest) → last_of p rest ≡ p → Goes (begun_at_least (p ∷ rest))
    least_goes p [] g e = tt
    least_goes p (q ∷ rest) g e = finish (subst (λ (path : Path). BeginsAt (same_point least) (turned k path)) (append-nil (q ∷ rest)) (turned_to (same_point least) (q ∷ rest) [] least (least_there p q rest) (same_point_to least least refl)))
      where
        least : GridPoint
        least = least_of is_before p (q ∷ rest)

        k : ℕ
        k = place_of (same_point least) (q ∷ rest)

        finish : BeginsAt (same_point least) (turned k (q ∷ rest)) → Goes (turned k (q ∷ rest) ++ least ∷ [])
        finish b =
            let round : GoesRound (b.point ∷ b.rest) = subst GoesRound b.is (turned_round k (q ∷ rest) (round_from p (q ∷ rest) g e)) in
            subst (λ (path : Path). Goes (path ++ least ∷ [])) (sym b.is) (subst (λ (r : GridPoint). Goes (b.point ∷ b.rest ++ r ∷ [])) (sym (same_point_from least b.point b.passes)) round)

    -- ## Arcs

    arc_goes : (s : Segment) → IsAlong S s → Goes (arc_along node S s)
    arc_goes s a = go (same_point (last_of s.start (way_on node S (length S) s.start s.start s.stop)) s.start && not (node s.start)) refl
      where
        on : Path
        on = way_on node S (length S) s.start s.start s.stop

        back : Path
        back = way_on node S (length S) s.stop s.stop s.start

        after : Goes (reverse (tail back) ++ s.start ∷ [])
        after =
            let all : Goes (s.stop ∷ back) = run_goes (reversed s) (along_back s a) in
            let rest : Goes (s.start ∷ tail back) = subst Goes (way_begins (length S) s.stop s.stop s.start) (goes_on s.stop back all) in
            subst Goes (reverse-append (s.start ∷ []) (tail back)) (goes_back (s.start ∷ tail back) rest)

        closed : (b c : Bool) → b && c ≡ true → b ≡ true
        closed true c e = refl
        closed false c e = e

        go : (b : Bool) → (same_point (last_of s.start on) s.start && not (node s.start)) ≡ b → Goes (if b then forward_way (begun_at_least (s.start ∷ on)) else forward_way (reverse (tail back) ++ s.start ∷ on))
        go true e = goes_forward (begun_at_least (s.start ∷ on))
            (least_goes s.start on (run_goes s a) (same_point_from (last_of s.start on) s.start (closed (same_point (last_of s.start on) s.start) (not (node s.start)) e)))
        go false e = goes_forward (reverse (tail back) ++ s.start ∷ on) (goes_through (reverse (tail back)) s.start on after (run_goes s a))

-- where the steps of the paths go along links, so do those of the arcs
pub arcs_go : (s : Drawing) (S : List Segment) → Every (IsAlong S) (steps_of_paths (paths_of s)) → Every (Goes S) (arcs_of s S)
arcs_go s S h = every_once (Goes S) (same_list same_point) (map (arc_along (is_node s S) S) (steps_of_paths (paths_of s)))
    (every_map (IsAlong S) (Goes S) (arc_along (is_node s S) S) (arc_goes S (is_node s S)) (steps_of_paths (paths_of s)) h)

-- Arcs of which as many start as stop at each point make up rings that pass each of their vertices once.
use Rattle.std.proofs.Common.{◌≡◌, inl, inr, refl, sym, ap, ◌∙◌, subst, arith, ℕ, zero, suc, ◌+◌, ◌<◌, ◌≤◌, Bool, true, false, cond, List, [], ◌∷◌, ◌++◌, length, get_or, All}
use Rattle.std.specs.List.{sum_by}
use Rattle.std.proofs.lemmas.Bool.{cases_lt}
use Rattle.std.proofs.lemmas.List.{length-append}
use Rattle.std.proofs.lemmas.List.Elements.{All-cons, All-nil}
use Rattle.std.proofs.lemmas.List.Sums.{sum_by-append, sum_by-cons}
use Rattle.part_laws.proofs.FitLaws.{two_summed}
use Rattle.part_laws.proofs.PolygonLaws.{once_most}
use Rattle.plane_model.specs.Points.{GridPoint, same_point}
use Rattle.plane_model.specs.Arcs.{SignedArc}
use Rattle.plane_model.proofs.PointOrder.{same_point_from, same_point_to}
use Rattle.ring_trace.specs.Traced.{once_if, same_arc, times, times_round}
use Rattle.ring_trace.specs.Ways.{IsWay, IsSimpleRing}
use Rattle.ring_trace.proofs.WayLemmas.{way_cut, way_push}

-- an element that passes a test, with what stands before and after it
record Found (test : SignedArc → Bool) (xs : List SignedArc) : Type 0 where
  before : List SignedArc
  one : SignedArc
  past : List SignedArc
  are : xs ≡ before ++ one ∷ past
  passes : test one ≡ true

found : (test : SignedArc → Bool) (xs : List SignedArc) → 0 < sum_by (λ (a : SignedArc). once_if (test a)) xs → Found test xs
found test [] some = absurd (omega arith)
found test (x ∷ xs) some = go (test x) refl (found test xs)
  where
    go : (b : Bool) → test x ≡ b → (0 < sum_by (λ (a : SignedArc). once_if (test a)) xs → Found test xs) → Found test (x ∷ xs)
    go true e more = record { before = []; one = x; past = xs; are = refl; passes = e }
    go false e more =
        let m = sum_by-cons (λ (a : SignedArc). once_if (test a)) x xs in
        let none : once_if (test x) ≡ 0 = ap once_if e in
        let h = more (omega arith) in
        record { before = x ∷ h.before; one = h.one; past = h.past; are = ap (λ (ys : List SignedArc). x ∷ ys) h.are; passes = h.passes }

pub over : (a : SignedArc) (xs ys : List SignedArc) → times a (xs ++ ys) ≡ times a xs + times a ys
over a xs ys = sum_by-append (λ (y : SignedArc). cond (same_arc a y) 1 0) xs ys

-- ---- rings

module _ (start stop : SignedArc → GridPoint) where
  -- how many start at a point, and how many stop there
  abbrev pub starts : GridPoint → List SignedArc → ℕ
  starts x arcs = sum_by (λ (a : SignedArc). once_if (same_point x (start a))) arcs

  abbrev pub stops : GridPoint → List SignedArc → ℕ
  stops x arcs = sum_by (λ (a : SignedArc). once_if (same_point x (stop a))) arcs

  abbrev pub AreEven : List SignedArc → Type 0
  AreEven arcs = (x : GridPoint) → starts x arcs ≡ stops x arcs

  starts_over : (x : GridPoint) (arcs bs : List SignedArc) → starts x (arcs ++ bs) ≡ starts x arcs + starts x bs
  starts_over x arcs bs = sum_by-append (λ (a : SignedArc). once_if (same_point x (start a))) arcs bs

  stops_over : (x : GridPoint) (arcs bs : List SignedArc) → stops x (arcs ++ bs) ≡ stops x arcs + stops x bs
  stops_over x arcs bs = sum_by-append (λ (a : SignedArc). once_if (same_point x (stop a))) arcs bs

  -- along a way the counts differ at its ends
  way_counts : (v w : GridPoint) (way : List SignedArc) → IsWay start stop v way w → (x : GridPoint) → starts x way + once_if (same_point x w) ≡ stops x way + once_if (same_point x v)
  way_counts v w [] h x = ap (λ (z : GridPoint). 0 + once_if (same_point x z)) (sym h)
  way_counts v w (a ∷ way) h x =
      let m = sum_by-cons (λ (b : SignedArc). once_if (same_point x (start b))) a way in
      let n = sum_by-cons (λ (b : SignedArc). once_if (same_point x (stop b))) a way in
      let r = way_counts (stop a) w way h.1 x in
      let e : once_if (same_point x (start a)) ≡ once_if (same_point x v) = ap (λ (z : GridPoint). once_if (same_point x z)) h.0 in
      omega arith

  -- a ring, and what is left without it
  record Ringed (arcs : List SignedArc) : Type 0 where
    ring : List SignedArc
    rest : List SignedArc
    simple : IsSimpleRing start stop ring
    some : 0 < length ring
    same : (a : SignedArc) → times a ring + times a rest ≡ times a arcs
    even : AreEven rest
    fewer : length rest < length arcs

  -- a way of some of the arcs, of which no two start at one point, and what is left
  record IsWalk (arcs : List SignedArc) (from : SignedArc) (later left : List SignedArc) (w : GridPoint) : Type 0 where
    leads : IsWay start stop (start from) (from ∷ later) w
    once : (x : GridPoint) → starts x (from ∷ later) ≤ 1
    same : (a : SignedArc) → times a (from ∷ later) + times a left ≡ times a arcs
    even : (x : GridPoint) → starts x (from ∷ later) + starts x left ≡ stops x (from ∷ later) + stops x left
    size : length (from ∷ later) + length left ≡ length arcs

  -- none starts twice at one point
  apart_of : (ring : List SignedArc) → ((x : GridPoint) → starts x ring ≤ 1) → (i j : ℕ) (d : SignedArc) → i < length ring → j < length ring → start (get_or ring i d) ≡ start (get_or ring j d) → i ≡ j
  apart_of ring once i j d l m e = elim (cases_lt i j) [
    | inl less ↦ absurd (clash i j less m e)
    | inr more ↦ elim (cases_lt j i) [ inl less ↦ absurd (clash j i less l (sym e)) | inr same ↦ omega arith ]
  ]
    where
      clash : (p q : ℕ) → p < q → q < length ring → start (get_or ring p d) ≡ start (get_or ring q d) → ⊥
      clash p q less below f =
          let x = start (get_or ring p d) in
          let two = two_summed (λ (a : SignedArc). once_if (same_point x (start a))) ring p q d less below in
          let first : once_if (same_point x (start (get_or ring p d))) ≡ 1 = ap once_if (same_point_to x (start (get_or ring p d)) refl) in
          let second : once_if (same_point x (start (get_or ring q d))) ≡ 1 = ap once_if (same_point_to x (start (get_or ring q d)) f) in
          let most = once x in
          omega arith

  module _ (arcs : List SignedArc) (from : SignedArc) (later left : List SignedArc) (w : GridPoint) (h : IsWalk arcs from later left w) where
    -- the way comes back to one of its points: there it is cut
    closed : 0 < starts w (from ∷ later) → Ringed arcs
    closed passed =
        let f = found (λ (a : SignedArc). same_point w (start a)) (from ∷ later) passed in
        let here : start f.one ≡ w = sym (same_point_from w (start f.one) f.passes) in
        let cut = way_cut start stop (start from) w f.before f.one f.past (subst (λ (way : List SignedArc). IsWay start stop (start from) way w) f.are h.leads) here in
        let ring : List SignedArc = f.one ∷ f.past in
        let starts_are : (x : GridPoint) → starts x (from ∷ later) ≡ starts x f.before + starts x ring = (λ x. ap (starts x) f.are ∙ starts_over x f.before ring) in
        let stops_are : (x : GridPoint) → stops x (from ∷ later) ≡ stops x f.before + stops x ring = (λ x. ap (stops x) f.are ∙ stops_over x f.before ring) in
        let times_are : (a : SignedArc) → times a (from ∷ later) ≡ times a f.before + times a ring = (λ a. ap (times a) f.are ∙ over a f.before ring) in
        let long : length (from ∷ later) ≡ length f.before + length ring = ap (λ (ys : List SignedArc). length ys) f.are ∙ length-append f.before ring in
        let both = length-append f.before left in
        let size = h.size in
        record {
          ring = ring;
          rest = f.before ++ left;
          simple = record { at = w; way = cut.1; apart = apart_of ring (λ x. let o = h.once x in let s = starts_are x in omega arith) };
          some = omega arith;
          same = λ a. let s = h.same a in let t = times_are a in let u = over a f.before left in omega arith;
          even = λ x.
              let e = h.even x in
              let s = starts_are x in
              let t = stops_are x in
              let u = starts_over x f.before left in
              let v = stops_over x f.before left in
              let c = way_counts w w ring cut.1 x in
              omega arith;
          fewer = omega arith;
        }

    -- or else some arc that is left starts where it stops
    goes_on : starts w (from ∷ later) ≡ 0 → 0 < starts w left
    goes_on none =
        let c = way_counts (start from) w (from ∷ later) h.leads w in
        let m = sum_by-cons (λ (a : SignedArc). once_if (same_point w (start a))) from later in
        let itself : once_if (same_point w w) ≡ 1 = ap once_if (same_point_to w w refl) in
        let e = h.even w in
        omega arith

    longer : starts w (from ∷ later) ≡ 0 → (f : Found (λ (a : SignedArc). same_point w (start a)) left) → IsWalk arcs from (later ++ f.one ∷ []) (f.before ++ f.past) (stop f.one)
    longer none f =
        let here : start f.one ≡ w = sym (same_point_from w (start f.one) f.passes) in
        let one : List SignedArc = f.one ∷ [] in
        let way_starts : (x : GridPoint) → starts x (from ∷ (later ++ one)) ≡ starts x (from ∷ later) + starts x one = (λ x. starts_over x (from ∷ later) one) in
        let way_stops : (x : GridPoint) → stops x (from ∷ (later ++ one)) ≡ stops x (from ∷ later) + stops x one = (λ x. stops_over x (from ∷ later) one) in
        let way_times : (a : SignedArc) → times a (from ∷ (later ++ one)) ≡ times a (from ∷ later) + times a one = (λ a. over a (from ∷ later) one) in
        let left_starts : (x : GridPoint) → starts x left ≡ starts x f.before + (starts x one + starts x f.past) = (λ x. ap (starts x) f.are ∙ starts_over x f.before (f.one ∷ f.past) ∙ ap (λ (n : ℕ). starts x f.before + n) (starts_over x one f.past)) in
        let left_stops : (x : GridPoint) → stops x left ≡ stops x f.before + (stops x one + stops x f.past) = (λ x. ap (stops x) f.are ∙ stops_over x f.before (f.one ∷ f.past) ∙ ap (λ (n : ℕ). stops x f.before + n) (stops_over x one f.past)) in
        let left_times : (a : SignedArc) → times a left ≡ times a f.before + (times a one + times a f.past) = (λ a. ap (times a) f.are ∙ over a f.before (f.one ∷ f.past) ∙ ap (λ (n : ℕ). times a f.before + n) (over a one f.past)) in
        let left_long : length left ≡ length f.before + length (f.one ∷ f.past) = ap (λ (ys : List SignedArc). length ys) f.are ∙ length-append f.before (f.one ∷ f.past) in
        let way_long = length-append later one in
        let both = length-append f.before f.past in
        let size = h.size in
        record {
          leads = way_push start stop (start from) (from ∷ later) f.one (subst (λ (z : GridPoint). IsWay start stop (start from) (from ∷ later) z) (sym here) h.leads);
          once = λ x. at_most x (same_point x w) refl here (way_starts x) (h.once x);
          same = λ a. let s = h.same a in let t = way_times a in let u = left_times a in let v = over a f.before f.past in omega arith;
          even = λ x.
              let e = h.even x in
              let s = way_starts x in
              let t = way_stops x in
              let u = left_starts x in
              let v = left_stops x in
              let y = starts_over x f.before f.past in
              let z = stops_over x f.before f.past in
              omega arith;
          size = omega arith;
        }
      where
        at_most : (x : GridPoint) (b : Bool) → same_point x w ≡ b → start f.one ≡ w → starts x (from ∷ (later ++ f.one ∷ [])) ≡ starts x (from ∷ later) + starts x (f.one ∷ []) → starts x (from ∷ later) ≤ 1 → starts x (from ∷ (later ++ f.one ∷ [])) ≤ 1
        at_most x b e here is most =
            let m = sum_by-cons (λ (a : SignedArc). once_if (same_point x (start a))) f.one [] in
            let at : once_if (same_point x (start f.one)) ≡ once_if b = ap (λ (z : GridPoint). once_if (same_point x z)) here ∙ ap once_if e in
            low b e m at
          where
            low : (b : Bool) → same_point x w ≡ b → starts x (f.one ∷ []) ≡ once_if (same_point x (start f.one)) + 0 → once_if (same_point x (start f.one)) ≡ once_if b → starts x (from ∷ (later ++ f.one ∷ [])) ≤ 1
            low true e m at =
                let same : x ≡ w = same_point_from x w e in
                let zero_here : starts x (from ∷ later) ≡ 0 = ap (λ (z : GridPoint). starts z (from ∷ later)) same ∙ none in
                let one_here : once_if true ≡ 1 = refl in
                omega arith
            low false e m at = let none_here : once_if false ≡ 0 = refl in omega arith

  -- one arc more, where the way does not come back
  stepped : (arcs : List SignedArc) (from : SignedArc) (later left : List SignedArc) (w : GridPoint) → IsWalk arcs from later left w → starts w (from ∷ later) ≡ 0 →
      (f : Found (λ (a : SignedArc). same_point w (start a)) left) × IsWalk arcs from (later ++ f.one ∷ []) (f.before ++ f.past) (stop f.one) × (length left ≡ suc (length (f.before ++ f.past)))
  stepped arcs from later left w h none =
      let f = found (λ (a : SignedArc). same_point w (start a)) left (goes_on arcs from later left w h none) in
      let long : length left ≡ length f.before + length (f.one ∷ f.past) = ap (λ (ys : List SignedArc). length ys) f.are ∙ length-append f.before (f.one ∷ f.past) in
      let both = length-append f.before f.past in
      (f, longer arcs from later left w h none f, omega arith)

  walked : (n : ℕ) (arcs : List SignedArc) (from : SignedArc) (later left : List SignedArc) (w : GridPoint) → length left ≤ n → IsWalk arcs from later left w → Ringed arcs
  walked zero arcs from later left w few h = elim (cases_lt 0 (starts w (from ∷ later))) [
    | inl passed ↦ closed arcs from later left w h passed
    | inr none ↦ (let (f, k, long) = stepped arcs from later left w h (omega arith) in absurd (omega arith))
  ]
  walked (suc n) arcs from later left w few h = elim (cases_lt 0 (starts w (from ∷ later))) [
    | inl passed ↦ closed arcs from later left w h passed
    | inr none ↦ (let (f, k, long) = stepped arcs from later left w h (omega arith) in walked n arcs from (later ++ f.one ∷ []) (f.before ++ f.past) (stop f.one) (omega arith) k)
  ]

  one_ring : (a : SignedArc) (arcs : List SignedArc) → AreEven (a ∷ arcs) → Ringed (a ∷ arcs)
  one_ring a arcs even = walked (length arcs) (a ∷ arcs) a [] arcs (stop a) (omega arith) (record {
    leads = (refl, refl);
    once = λ x. let m = sum_by-cons (λ (b : SignedArc). once_if (same_point x (start b))) a [] in let s = once_most (same_point x (start a)) in omega arith;
    same = λ b. sym (over b (a ∷ []) arcs);
    even = λ x. let s = starts_over x (a ∷ []) arcs in let t = stops_over x (a ∷ []) arcs in let e = even x in omega arith;
    size = omega arith;
  })

  -- rings that go along the arcs, and no others
  pub record AreRound (arcs : List SignedArc) (rings : List (List SignedArc)) : Type 0 where
    pub simple : All (IsSimpleRing start stop) rings
    pub some : All (λ ring. 0 < length ring) rings
    pub same : (a : SignedArc) → times_round a rings ≡ times a arcs

  all_rings : (n : ℕ) (arcs : List SignedArc) → length arcs ≤ n → AreEven arcs → (rings : List (List SignedArc)) × AreRound arcs rings
  all_rings n [] few even = ([], record { simple = All-nil (IsSimpleRing start stop); some = All-nil (λ ring. 0 < length ring); same = λ a. refl })
  all_rings zero (a ∷ arcs) few even = absurd (omega arith)
  all_rings (suc n) (a ∷ arcs) few even =
      let r = one_ring a arcs even in
      let less = r.fewer in
      let (rings, h) = all_rings n r.rest (omega arith) r.even in (
        r.ring ∷ rings,
        record {
          simple = All-cons (IsSimpleRing start stop) r.ring rings r.simple h.simple;
          some = All-cons (λ ring. 0 < length ring) r.ring rings r.some h.some;
          same = λ b. let m = sum_by-cons (times b) r.ring rings in let s = h.same b in let t = r.same b in omega arith;
        },
      )

  pub rings_exist : (arcs : List SignedArc) → AreEven arcs → (rings : List (List SignedArc)) × AreRound arcs rings
  rings_exist arcs even = all_rings (length arcs) arcs (omega arith) even

-- A ring that has the part on its left turns left at its least vertex just if the part is inside.
use Rattle.std.proofs.Common.{◌≡◌, ◌⊎◌, inl, inr, ℕ, refl, sym, ap, subst, ◌∙◌, Bool, true, false, not, cond, List, [], ◌∷◌, ◌++◌, arith}
use Rattle.std.proofs.Math.IntN.{pos, neg_ℤ, ℤ}
use Rattle.std.specs.Prelude.{All, Contains, int_lt, nat_eq, ◌<ℤ◌}
use Rattle.std.proofs.lemmas.Bool.{eqb-true, and_parts}
use Rattle.std.proofs.lemmas.List.Elements.{All-head, All-tail, All-nil, All-cons, All-weaker, All-contains}
use Rattle.lists.specs.Lists.{last_of}
use Rattle.lists.proofs.Members.{Contains-head, Contains-later}
use Rattle.std.proofs.lemmas.Int.{ints}
use Rattle.plane_parity.proofs.Sector.{turn_other}
use Rattle.plane_algebra.proofs.Tests.{lt_from}
use Rattle.plane_parity.proofs.ClosedRun.{closed_run_even}
use Rattle.plane_parity.proofs.Abscissa.{same_link-self}
use Rattle.plane_model.proofs.PointOrder.{before_to}
use Rattle.plane_model.specs.Points.{GridPoint, Segment, turn, at, is_before, same_segment}
use Rattle.plane_model.specs.Parity.{xor, odd_count}
use Rattle.plane_model.specs.Arrangement.{IsBefore, IsArrangement}
use Rattle.plane_model.specs.EvenList.{IsEven}
use Rattle.plane_model.specs.Rotation.{Dart, precedes}
use Rattle.plane_faces.proofs.Runs.{between, links_from, dart_between}
use Rattle.plane_faces.specs.Rings.{links_of_path, ring_by}
use Rattle.plane_faces.specs.Around.{forward_dart, backward_dart}
use Rattle.plane_faces.specs.Places.{Place, left_of, left_side, right_side, IsBeside, border, odd_at, IsLater}
use Rattle.plane_faces.specs.Labels.{IsFaceLabelling, among, IsPartLabelling, in_part}
use Rattle.plane_faces.proofs.Lists.{contains_cases}
use Rattle.plane_faces.proofs.Around.{precedes_once}
use Rattle.plane_faces.proofs.Order.{before_not_back, before_not_itself}
use Rattle.plane_faces.proofs.Corner.{precedes_total, lowest_left, lowest_right}
use Rattle.plane_faces.proofs.Parts.{passes_filter, part_border_within, border_in, one_part_at, not_counted}

abbrev link : GridPoint → GridPoint → Segment
link p q = record { start = p; stop = q }

pub dart_on : (p q : GridPoint) → IsBefore p q → dart_between p q ≡ forward_dart (link p q)
dart_on p q h = ap (λ (b : Bool). record { link = cond b (link p q) (link q p); forward = b }) (before_to p q h)

pub dart_back : (p q : GridPoint) → IsBefore p q → dart_between q p ≡ backward_dart (link p q)
dart_back p q h = ap (λ (b : Bool). record { link = cond b (link q p) (link p q); forward = b }) (before_not_back p q h)

-- ---- the links of a ring that starts at its least vertex

starts_after : (p r s : GridPoint) → IsBefore p r → IsBefore p s → IsBefore p (between r s).start
starts_after p r s h k = go (is_before r s)
  where
    go : (b : Bool) → IsBefore p (let l : Segment = cond b (link r s) (link s r) in l.start)
    go true = h
    go false = k

module _ (p q : GridPoint) (hq : IsBefore p q) where
  Known : Segment → Type 0
  Known k = (k ≡ link p q) ⊎ IsBefore p k.start

  others : (r : GridPoint) (ps : List GridPoint) → IsBefore p r → All (IsBefore p) ps → All Known (links_from r (ps ++ (q ∷ (p ∷ []))))
  unfolding Known
  others r [] hr h =
      All-cons Known (between r q) (between q p ∷ []) (inr (starts_after p r q hr hq))
      (All-cons Known (between q p) [] (inl (ap (λ (d : Dart). d.link) (dart_back p q hq))) (All-nil Known))
  others r (s ∷ ps) hr h =
      All-cons Known (between r s) (links_from s (ps ++ (q ∷ (p ∷ [])))) (inr (starts_after p r s hr (All-head (IsBefore p) s ps h)))
      (others s ps (All-head (IsBefore p) s ps h) (All-tail (IsBefore p) s ps h))

  pub last_is : (r : GridPoint) (ps : List GridPoint) → last_of r (ps ++ (q ∷ (p ∷ []))) ≡ p
  last_is r [] = refl
  last_is r (s ∷ ps) = last_is s ps

  pub has_last : (r : GridPoint) (ps : List GridPoint) → Contains (links_from r (ps ++ (q ∷ (p ∷ [])))) (link p q)
  has_last r [] = subst (Contains (between r q ∷ (between q p ∷ []))) (ap (λ (d : Dart). d.link) (dart_back p q hq)) (Contains-later (between r q) (between q p ∷ []) (between q p) (Contains-head (between q p) []))
  has_last r (s ∷ ps) = Contains-later (between r s) (links_from s (ps ++ (q ∷ (p ∷ [])))) (link p q) (has_last s ps)

-- ---- the law

module _ (S : List Segment) (arr : IsArrangement S) (label : Place → ℕ) (faces : IsFaceLabelling S label)
    (F : ℕ → Bool) (part : ℕ → ℕ) (parts : IsPartLabelling S label F part) (n : ℕ) where
  abbrev held : Place → Bool
  held = among label (in_part F part n)

  abbrev B : List Segment
  B = border held S

  module _ (p r : GridPoint) (ps : List GridPoint) (q : GridPoint) (hr : IsBefore p r) (hps : All (IsBefore p) ps) (hq : IsBefore p q)
      (within : All (Contains B) (links_of_path (ring_by p r ps q))) (out : held (left_of (dart_between p r)) ≡ true) (back : held (left_of (dart_between q p)) ≡ true) where
    abbrev R : List Segment
    R = between p r ∷ links_from r (ps ++ (q ∷ (p ∷ [])))

    withinS : All (Contains S) R
    withinS = All-weaker (Contains B) (Contains S) (λ k c. All-contains (Contains S) B k (border_in S held) c) R within

    bordering : All (Contains (border (among label F) S)) R
    bordering = All-weaker (Contains B) (Contains (border (among label F) S)) (λ k c. All-contains (Contains (border (among label F) S)) B k (part_border_within S label F part parts n) c) R within

    even : IsEven R
    even = closed_run_even (ring_by p r ps q) (last_is p q hq r ps)

    first_is : between p r ≡ link p r
    first_is = ap (λ (d : Dart). d.link) (dart_on p r hr)

    left_held : held (left_side (link p r)) ≡ true
    left_held = subst (λ (d : Dart). held (left_of d) ≡ true) (dart_on p r hr) out

    right_held : held (right_side (link p q)) ≡ true
    right_held = subst (λ (d : Dart). held (left_of d) ≡ true) (dart_back p q hq) back

    in_B_r : Contains B (link p r)
    in_B_r = subst (Contains B) first_is (All-head (Contains B) (between p r) (links_from r (ps ++ (q ∷ (p ∷ [])))) within)

    in_B_q : Contains B (link p q)
    in_B_q = All-contains (Contains B) (links_from r (ps ++ (q ∷ (p ∷ [])))) (link p q) (All-tail (Contains B) (between p r) (links_from r (ps ++ (q ∷ (p ∷ [])))) within) (has_last p q hq r ps)

    in_S : (k : Segment) → Contains B k → Contains S k
    in_S k c = All-contains (Contains S) B k (border_in S held) c

    differ : link p r ≡ link p q → ⊥
    differ e = clash (held (left_side (link p r))) (held (right_side (link p r))) left_held (subst (λ (k : Segment). held (right_side k) ≡ true) (sym e) right_held) (passes_filter (λ l. xor (held (left_side l)) (held (right_side l))) S (link p r) in_B_r)
      where
        clash : (x y : Bool) → x ≡ true → y ≡ true → xor x y ≡ true → ⊥
        clash true true e f h = let i : false ≡ true = h in absurd (cc)
        clash true false e f h = let i : false ≡ true = f in absurd (cc)
        clash false y e f h = let i : false ≡ true = e in absurd (cc)

    known : (k : Segment) → Contains R k → (k ≡ link p r) ⊎ ((k ≡ link p q) ⊎ IsBefore p k.start)
    unfolding Known
    known k c = elim (contains_cases (between p r) (links_from r (ps ++ (q ∷ (p ∷ [])))) k c) [
      | inl e ↦ inl (e ∙ first_is)
      | inr i ↦ inr (All-contains (Known p q hq) (links_from r (ps ++ (q ∷ (p ∷ [])))) k (others p q hq r ps hr hps) i)
    ]

    -- the first link stands in the ring once
    first_once : odd_count (same_segment (link p r)) R ≡ true
    unfolding Known
    first_once =
        ap (λ (k : Segment). xor (same_segment (link p r) k) (odd_count (same_segment (link p r)) (links_from r (ps ++ (q ∷ (p ∷ [])))))) first_is
        ∙ ap (λ (b : Bool). xor b (odd_count (same_segment (link p r)) (links_from r (ps ++ (q ∷ (p ∷ [])))))) (same_link-self (link p r))
        ∙ ap not (not_counted (links_from r (ps ++ (q ∷ (p ∷ [])))) (link p r) (λ c. elim (All-contains (Known p q hq) (links_from r (ps ++ (q ∷ (p ∷ [])))) (link p r) (others p q hq r ps hr hps) c) [
          | inl e ↦ differ e
          | inr h ↦ before_not_itself p h
        ]))

    same_part : (b b' : Place) → IsBeside S b → IsBeside S b' → held b ≡ true → held b' ≡ true → odd_at R b ≡ odd_at R b'
    same_part b b' hb hb' e e' =
        let f = and_parts (F (label b)) (nat_eq (part (label b)) n) e in
        let g = and_parts (F (label b')) (nat_eq (part (label b')) n) e' in
        one_part_at S label F part arr faces parts R withinS bordering even b b' hb hb' f.0 g.0 (eqb-true (part (label b)) n f.1 ∙ sym (eqb-true (part (label b')) n g.1))

    -- it does not go straight on there
    pub turns : (pos 0 <ℤ turn (at p) (at r) (at q)) ⊎ (turn (at p) (at r) (at q) <ℤ pos 0)
    turns = elim (precedes_total S arr (link p r) (link p q) (in_S (link p r) in_B_r) (in_S (link p q) in_B_q) refl) [
      | inl i ↦ absurd (differ i)
      | inr c ↦ elim c [
        | inl h ↦ inl (lt_from (pos 0) (turn (at p) (at r) (at q)) h)
        | inr h ↦ inr (below (turn (at p) (at r) (at q)) (turn (at p) (at q) (at r)) (turn_other (at p) (at r) (at q)) (lt_from (pos 0) (turn (at p) (at q) (at r)) h))
      ]
    ]
      where
        below : (a b : ℤ) → a ≡ neg_ℤ b → pos 0 <ℤ b → a <ℤ pos 0
        below a b e h = omega (arith, ints)

    -- inside the ring if one turns left at the least vertex, outside if one turns right
    pub oriented_at : (b : Place) → IsBeside S b → held b ≡ true → odd_at R b ≡ int_lt (pos 0) (turn (at p) (at r) (at q))
    oriented_at b hb e = elim (precedes_total S arr (link p r) (link p q) (in_S (link p r) in_B_r) (in_S (link p q) in_B_q) refl) [
      | inl i ↦ absurd (differ i)
      | inr c ↦ elim c [
        | inl h ↦
            same_part b (left_side (link p r)) hb (in_S (link p r) in_B_r) e left_held
            ∙ lowest_left S R arr withinS even (link p r) (in_S (link p r) in_B_r) (λ k ck. elim (known k ck) [ inl i ↦ inl i | inr j ↦ elim j [ inl i ↦ inr (later_is (link p r) (link p q) k i refl h) | inr i ↦ inr (inl i) ] ])
            ∙ first_once
            ∙ sym h
        | inr h ↦
            same_part b (right_side (link p q)) hb (in_S (link p q) in_B_q) e right_held
            ∙ lowest_right S R arr withinS even (link p q) (in_S (link p q) in_B_q) (λ k ck. elim (known k ck) [ inl i ↦ inr (later_is (link p q) (link p r) k i refl h) | inr j ↦ elim j [ inl i ↦ inl i | inr i ↦ inr (inl i) ] ])
            ∙ sym (precedes_once (forward_dart (link p q)) (forward_dart (link p r)) refl h)
      ]
    ]
      where
        later_is : (a c k : Segment) → k ≡ c → c.start ≡ a.start → precedes (forward_dart a) (forward_dart c) ≡ true → IsLater a k
        later_is a c k e s h = subst (IsLater a) (sym e) (inr (s, h))

-- A vertex is a node of the model exactly if it isn't passed, and on from a vertex that is passed there is one way.
use Rattle.std.proofs.Common.{◌≡◌, ◌⊎◌, inl, inr, refl, sym, ap, ◌∙◌, arith, ℕ, zero, suc, ◌+◌, ◌-◌, ◌<◌, ◌==◌, Bool, true, false, not, cond, ◌&&◌, ◌||◌, List, [], ◌∷◌, ◌++◌, length, filter, get_or, AllPairs, Contains, Option, Some, None, pos}
use Rattle.std.specs.Prelude.{◌≢◌, if◌then◌else◌}
use Rattle.std.specs.Cmp.{unsigned_Decides}
use Rattle.std.specs.List.{flat_map, list_any}
use Rattle.std.proofs.lemmas.Bool.{and_parts, cases_eq, cases_lt, false_from_ne_true, le-ltb, lt-ltb, or_cases, or_left, or_right, or_parts}
use Rattle.std.proofs.lemmas.List.{get_or_default, get_or_append_left, get_or-append_right, length-append}
use Rattle.std.proofs.lemmas.List.Elements.{Contains-get_or}
use Rattle.std.proofs.lemmas.List.Folds.{Any-from_list_any, list_any_at}
use Rattle.std.proofs.lemmas.List.Kept.{AllPairs-cons}
use Rattle.lists.specs.Lists.{first_or, joined_up, last_of}
use Rattle.plane_model.specs.Points.{GridPoint, Segment, Path, same_point}
use Rattle.plane_model.specs.Drawing.{Drawing, rings_of}
use Rattle.plane_model.specs.Joined.{IsClosed}
use Rattle.plane_model.specs.Arrangement.{IsDistinct}
use Rattle.plane_model.specs.Arcs.{across_from, ends_at, gone_round, is_node, joined_to, next_vertex, turns_back}
use Rattle.plane_model.proofs.PointOrder.{same_point_from, same_point_to}
use Rattle.plane_model.specs.Snapped.{links_of}
use Rattle.arc_table.specs.Direction.{point_at}
use Rattle.arc_table.specs.Nodes.{EndsLine, IsRingOf, TurnsAtStart, TurnsBackAt}
use Rattle.arc_table.specs.WholeArcs.{EndsAt, HasTwoLinks, IsPassed}
use Rattle.arc_laws.proofs.Picked.{TwoFound, two_found, two_picked}

-- ---- the links at a vertex

pub across_start : (p : GridPoint) (l : Segment) → l.start ≡ p → across_from p l ≡ Some l.stop
across_start p l e = ap (λ (b : Bool). if b then Some l.stop else (if same_point l.stop p then Some l.start else None)) (same_point_to l.start p e)

pub across_stop : (p : GridPoint) (l : Segment) → (l.start ≡ p → ⊥) → l.stop ≡ p → across_from p l ≡ Some l.start
across_stop p l ne e =
    (λ i. if false_from_ne_true (same_point l.start p) (λ f. ne (same_point_from l.start p f)) i then Some l.stop else (if same_point_to l.stop p e i then Some l.start else None))

across_none : (p : GridPoint) (l : Segment) → (EndsAt p l → ⊥) → across_from p l ≡ None
across_none p l ne =
    (λ i. if false_from_ne_true (same_point l.start p) (λ f. ne (inl (same_point_from l.start p f))) i then Some l.stop else (if false_from_ne_true (same_point l.stop p) (λ f. ne (inr (same_point_from l.stop p f))) i then Some l.start else None))

across_ends : (p : GridPoint) (l : Segment) (q : GridPoint) → across_from p l ≡ Some q → EndsAt p l
across_ends p l q e = go (same_point l.start p) (same_point l.stop p) refl refl e
  where
    go : (b c : Bool) → same_point l.start p ≡ b → same_point l.stop p ≡ c → (if b then Some l.stop else (if c then Some l.start else None)) ≡ Some q → EndsAt p l
    go true c f g h = inl (same_point_from l.start p f)
    go false true f g h = inr (same_point_from l.stop p g)
    go false false f g h = absurd (let n : None ≡ Some q = h in cc)

across_no_end : (p : GridPoint) (l : Segment) → across_from p l ≡ None → EndsAt p l → ⊥
across_no_end p l e (inl f) = let n : Some l.stop ≡ None = sym (across_start p l f) ∙ e in cc
across_no_end p l e (inr f) = go (same_point l.start p) refl
  where
    go : (b : Bool) → same_point l.start p ≡ b → ⊥
    go true g = let n : Some l.stop ≡ None = sym (across_start p l (same_point_from l.start p g)) ∙ e in cc
    go false g = let n : Some l.start ≡ None = sym (across_stop p l (λ h. let z : true ≡ false = sym (same_point_to l.start p h) ∙ g in cc) f) ∙ e in cc

pub pairs_of : (S : List Segment) → IsDistinct S → AllPairs (λ k l. k ≢ l) S
pairs_of [] h = λ i j d less l. absurd (omega arith)
pairs_of (k ∷ S) h = AllPairs-cons (λ k l. k ≢ l) k S (λ i d l e. h.0 i d l (sym e)) (pairs_of S h.1)

module _ (S : List Segment) (distinct : IsDistinct S) where
  one_at : (i j : ℕ) (d : Segment) → i < length S → j < length S → get_or S i d ≡ get_or S j d → i ≡ j
  one_at i j d l m e = elim (cases_lt i j) [
    | inl less ↦ absurd (pairs_of S distinct i j d less m e)
    | inr more ↦ elim (cases_lt j i) [ inl less ↦ absurd (pairs_of S distinct j i d less l (sym e)) | inr same ↦ omega arith ]
  ]

  -- at a vertex with two links the other ends of both are the vertices that they join it to
  pub joined_two : (p x y : GridPoint) (l m : Segment) → Contains S l → Contains S m → (l ≡ m → ⊥) → across_from p l ≡ Some x → across_from p m ≡ Some y → ((k : Segment) → Contains S k → EndsAt p k → (k ≡ l) ⊎ (k ≡ m)) →
      (joined_to S p ≡ x ∷ y ∷ []) ⊎ (joined_to S p ≡ y ∷ x ∷ [])
  joined_two p x y l m (i, below_i, at_i) (j, below_j, at_j) apart e f only = elim (cases_lt i j) [
    | inl less ↦ inl (two_picked (across_from p) l S i j x y less below_j (ap (across_from p) at_i ∙ e) (ap (across_from p) (default j m l below_j ∙ at_j) ∙ f) (λ k below ni nj. others k below ni nj))
    | inr more ↦ elim (cases_lt j i) [
      | inl less ↦ inr (two_picked (across_from p) l S j i y x less below_i (ap (across_from p) (default j m l below_j ∙ at_j) ∙ f) (ap (across_from p) at_i ∙ e) (λ k below nj ni. others k below ni nj))
      | inr same ↦ absurd (apart (sym at_i ∙ ap (λ (n : ℕ). get_or S n l) (let is : i ≡ j = omega arith in is) ∙ default j m l below_j ∙ at_j))
    ]
  ]
    where
      default : (k : ℕ) (d o : Segment) → k < length S → get_or S k o ≡ get_or S k d
      default k d o below = get_or_default S k o d below

      others : (k : ℕ) → k < length S → (k ≡ i → ⊥) → (k ≡ j → ⊥) → across_from p (get_or S k l) ≡ None
      others k below ni nj = across_none p (get_or S k l) (λ ends. elim (only (get_or S k l) (Contains-get_or S k l below) ends) [
        | inl is ↦ ni (one_at k i l below below_i (is ∙ sym at_i))
        | inr is ↦ nj (one_at k j l below below_j (is ∙ sym (default j m l below_j ∙ at_j)))
      ])

  some_across : (p : GridPoint) (l : Segment) → EndsAt p l → (q : GridPoint) × (across_from p l ≡ Some q)
  some_across p l ends = go (across_from p l) refl
    where
      go : (o : Option GridPoint) → across_from p l ≡ o → (q : GridPoint) × (across_from p l ≡ Some q)
      go (Some q) e = (q, e)
      go None e = absurd (across_no_end p l e ends)

  two_counted : (p : GridPoint) → HasTwoLinks S p → length (joined_to S p) ≡ 2
  two_counted p two =
      let (x, e) = some_across p two.one two.one_ends in
      let (y, f) = some_across p two.another two.another_ends in
      elim (joined_two p x y two.one two.another two.one_there two.another_there two.apart e f two.only) [
        | inl is ↦ ap (λ (ps : List GridPoint). length ps) is
        | inr is ↦ ap (λ (ps : List GridPoint). length ps) is
      ]

  has_two : (p : GridPoint) (o : Segment) → length (joined_to S p) ≡ 2 → HasTwoLinks S p
  has_two p o e =
      let r = two_found (across_from p) o S e in
      let less = r.less in
      let there = r.there in
      record {
        one = get_or S r.first o;
        another = get_or S r.second o;
        apart = λ f. pairs_of S distinct r.first r.second o r.less r.there f;
        one_there = Contains-get_or S r.first o (omega arith);
        another_there = Contains-get_or S r.second o r.there;
        one_ends = across_ends p (get_or S r.first o) r.one r.picks_one;
        another_ends = across_ends p (get_or S r.second o) r.another r.picks_another;
        only = λ l c ends. only r l c ends;
      }
    where
      only : (r : TwoFound (across_from p) o S) → (l : Segment) → Contains S l → EndsAt p l → (l ≡ get_or S r.first o) ⊎ (l ≡ get_or S r.second o)
      only r l (k, below, is) ends =
          let here : get_or S k o ≡ l = get_or_default S k o l below ∙ is in
          elim (cases_eq k r.first) [
            | inl f ↦ inl (sym here ∙ ap (λ (n : ℕ). get_or S n o) f)
            | inr nf ↦ elim (cases_eq k r.second) [
              | inl g ↦ inr (sym here ∙ ap (λ (n : ℕ). get_or S n o) g)
              | inr ng ↦ absurd (across_no_end p l (ap (across_from p) (sym here) ∙ r.others k below nf ng) ends)
            ]
          ]

-- ---- where paths end and turn back

last_at : (q : GridPoint) (rest : Path) → last_of q rest ≡ point_at (q ∷ rest) (length (q ∷ rest) - 1)
last_at q [] = refl
last_at q (r ∷ rest) = last_at r rest ∙ ap (point_at (q ∷ r ∷ rest)) (let e : suc (length (r ∷ rest) - 1) ≡ length (q ∷ r ∷ rest) - 1 = omega arith in e)

ends_told : (p : GridPoint) (path : Path) → ends_at p path ≡ true → EndsLine path p
ends_told p [] e = absurd (let f : false ≡ true = e in cc)
ends_told p (q ∷ rest) e = record {
  some = omega arith;
  ends = elim (or_cases (same_point p q) (same_point p (last_of q rest)) e) [
    | inl f ↦ inl (sym (same_point_from p q f))
    | inr f ↦ inr (sym (last_at q rest) ∙ sym (same_point_from p (last_of q rest) f))
  ];
}

ends_tell : (p : GridPoint) (path : Path) → EndsLine path p → ends_at p path ≡ true
ends_tell p [] h = let l = h.some in absurd (omega arith)
ends_tell p (q ∷ rest) h = elim h.ends [
  | inl f ↦ or_left (same_point p q) (same_point p (last_of q rest)) (same_point_to p q (sym f))
  | inr f ↦ or_right (same_point p q) (same_point p (last_of q rest)) (same_point_to p (last_of q rest) (sym f ∙ sym (last_at q rest)))
]

later_back : (p q : GridPoint) (rest : Path) → TurnsBackAt rest p → TurnsBackAt (q ∷ rest) p
later_back p q rest h = record { place = suc h.place; inside = (let l = h.inside in omega arith); same = h.same ∙ ap (point_at (q ∷ rest)) (let e : suc (h.place + 2) ≡ suc h.place + 2 = omega arith in e); here = ap (point_at (q ∷ rest)) (let e : suc h.place + 1 ≡ suc (h.place + 1) = omega arith in e) ∙ h.here }

back_told : (p : GridPoint) (path : Path) → turns_back p path ≡ true → TurnsBackAt path p
back_told p [] e = absurd (let f : false ≡ true = e in cc)
back_told p (a ∷ []) e = absurd (let f : false ≡ true = e in cc)
back_told p (a ∷ b ∷ []) e = absurd (let f : false ≡ true = e in cc)
back_told p (a ∷ b ∷ c ∷ rest) e = elim (or_cases (same_point b p && same_point a c) (turns_back p (b ∷ c ∷ rest)) e) [
  | inl f ↦
      (let (at, same) = and_parts (same_point b p) (same_point a c) f in
      record { place = 0; inside = omega arith; same = same_point_from a c same; here = same_point_from b p at })
  | inr f ↦ later_back p a (b ∷ c ∷ rest) (back_told p (b ∷ c ∷ rest) f)
]

back_from : (p : GridPoint) (path : Path) (k : ℕ) → k + 2 < length path → point_at path k ≡ point_at path (k + 2) → point_at path (k + 1) ≡ p → turns_back p path ≡ true
back_from p [] k l e f = absurd (omega arith)
back_from p (a ∷ []) k l e f = absurd (omega arith)
back_from p (a ∷ b ∷ []) k l e f = absurd (omega arith)
back_from p (a ∷ b ∷ c ∷ rest) zero l e f =
    or_left (same_point b p && same_point a c) (turns_back p (b ∷ c ∷ rest)) (λ i. same_point_to b p f i && same_point_to a c e i)
back_from p (a ∷ b ∷ c ∷ rest) (suc k) l e f = or_right (same_point b p && same_point a c) (turns_back p (b ∷ c ∷ rest)) (back_from p (b ∷ c ∷ rest) k (omega arith)
    (e ∙ ap (point_at (a ∷ b ∷ c ∷ rest)) (let g : suc k + 2 ≡ suc (k + 2) = omega arith in g)) (ap (point_at (a ∷ b ∷ c ∷ rest)) (let g : suc (k + 1) ≡ suc k + 1 = omega arith in g) ∙ f))

-- ---- closed paths, gone one step further than once round

round_is : (ring : Path) → 2 < length ring → gone_round ring ≡ ring ++ point_at ring 1 ∷ []
round_is [] l = absurd (omega arith)
round_is (p ∷ []) l = absurd (omega arith)
round_is (p ∷ q ∷ rest) l = ap (λ (b : Bool). (p ∷ q ∷ rest) ++ (if b then q ∷ [] else [])) (lt-ltb 1 (length (q ∷ rest)) (omega arith))

round_short : (ring : Path) → (2 < length ring → ⊥) → (p : GridPoint) → turns_back p (gone_round ring) ≡ false
round_short [] l p = refl
round_short (q ∷ []) l p = ap (λ (b : Bool). turns_back p ((q ∷ []) ++ (if b then first_or q [] ∷ [] else []))) (le-ltb 1 0 (omega arith))
round_short (q ∷ r ∷ []) l p = ap (λ (b : Bool). turns_back p ((q ∷ r ∷ []) ++ (if b then r ∷ [] else []))) (le-ltb 1 1 (omega arith))
round_short (q ∷ r ∷ s ∷ rest) l p = absurd (l (omega arith))

closed_ends : (ring : Path) → 0 < length ring → IsClosed ring → point_at ring 0 ≡ point_at ring (length ring - 1)
closed_ends [] l h = absurd (omega arith)
closed_ends (p ∷ rest) l h = sym h ∙ last_at p rest

module _ (ring : Path) (p : GridPoint) (closed : IsClosed ring) where
  abbrev o : GridPoint
  o = record { x = pos 0; y = pos 0 }

  round_told : turns_back p (gone_round ring) ≡ true → TurnsAtStart ring p ⊎ TurnsBackAt ring p
  round_told e = elim (cases_lt 2 (length ring)) [
    | inr short ↦ absurd (let clash : true ≡ false = sym e ∙ round_short ring (λ l. omega arith) p in cc)
    | inl long ↦
        (let h = back_told p (ring ++ point_at ring 1 ∷ []) (ap (turns_back p) (sym (round_is ring long)) ∙ e) in
        let size = length-append ring (point_at ring 1 ∷ []) in
        let within = h.inside in
        elim (cases_lt (h.place + 2) (length ring)) [
          | inl inner ↦ inr (record {
            place = h.place;
            inside = inner;
            same = sym (get_or_append_left ring (point_at ring 1 ∷ []) o h.place (omega arith)) ∙ h.same ∙ get_or_append_left ring (point_at ring 1 ∷ []) o (h.place + 2) inner;
            here = sym (get_or_append_left ring (point_at ring 1 ∷ []) o (h.place + 1) (omega arith)) ∙ h.here;
          })
          | inr last ↦
              (let at : h.place ≡ length ring - 2 = omega arith in
              let over : h.place + 2 ≡ length ring = omega arith in
              let before_last : h.place + 1 ≡ length ring - 1 = omega arith in
              inl (record {
                long = long;
                same = ap (point_at ring) (sym at) ∙ sym (get_or_append_left ring (point_at ring 1 ∷ []) o h.place (omega arith)) ∙ h.same
                    ∙ get_or-append_right ring (point_at ring 1 ∷ []) (length ring) (h.place + 2) o refl (omega arith) ∙ ap (λ (n : ℕ). get_or (point_at ring 1 ∷ []) n o) (let z : h.place + 2 - length ring ≡ 0 = omega arith in z);
                here = closed_ends ring (omega arith) closed ∙ ap (point_at ring) (sym before_last) ∙ sym (get_or_append_left ring (point_at ring 1 ∷ []) o (h.place + 1) (omega arith)) ∙ h.here;
              }))
        ])
  ]

  round_tell : TurnsAtStart ring p ⊎ TurnsBackAt ring p → turns_back p (gone_round ring) ≡ true
  round_tell (inl h) =
      let long = h.long in
      let size = length-append ring (point_at ring 1 ∷ []) in
      let before_last : length ring - 2 + 1 ≡ length ring - 1 = omega arith in
      ap (turns_back p) (round_is ring h.long)
      ∙ back_from p (ring ++ point_at ring 1 ∷ []) (length ring - 2) (omega arith)
      (get_or_append_left ring (point_at ring 1 ∷ []) o (length ring - 2) (omega arith) ∙ h.same ∙ sym (get_or-append_right ring (point_at ring 1 ∷ []) (length ring) (length ring - 2 + 2) o refl (omega arith) ∙ ap (λ (n : ℕ). get_or (point_at ring 1 ∷ []) n o) (let z : length ring - 2 + 2 - length ring ≡ 0 = omega arith in z)))
      (get_or_append_left ring (point_at ring 1 ∷ []) o (length ring - 2 + 1) (omega arith) ∙ ap (point_at ring) before_last ∙ sym (closed_ends ring (omega arith) closed) ∙ h.here)
  round_tell (inr h) =
      let inner = h.inside in
      let size = length-append ring (point_at ring 1 ∷ []) in
      ap (turns_back p) (round_is ring (omega arith))
      ∙ back_from p (ring ++ point_at ring 1 ∷ []) h.place (omega arith)
      (get_or_append_left ring (point_at ring 1 ∷ []) o h.place (omega arith) ∙ h.same ∙ sym (get_or_append_left ring (point_at ring 1 ∷ []) o (h.place + 2) inner))
      (get_or_append_left ring (point_at ring 1 ∷ []) o (h.place + 1) (omega arith) ∙ h.here)

-- ---- nodes

any_false : {A : Type 0} (test : A → Bool) (xs : List A) (x : A) → Contains xs x → list_any test xs ≡ false → test x ≡ true → ⊥
any_false test xs x c e f =
    let some = list_any_at test xs c.0 x c.1 (ap test c.2 ∙ f) in
    let clash : true ≡ false = sym some ∙ e in cc

module _ (s : Drawing) (distinct : IsDistinct (links_of s)) (closed : (ring : Path) → IsRingOf s ring → IsClosed ring) where
  abbrev S : List Segment
  S = links_of s

  abbrev line_test : GridPoint → Path → Bool
  line_test p path = ends_at p path || turns_back p path

  abbrev ring_test : GridPoint → Path → Bool
  ring_test p ring = turns_back p (gone_round ring)

  pub passed_if : (p : GridPoint) → is_node s S p ≡ false → IsPassed s p
  passed_if p e =
      let (open_ways, rings) = or_parts (not (length (joined_to S p) == 2) || list_any (line_test p) (joined_up s.lines)) (list_any (ring_test p) (flat_map rings_of s.polygons ++ s.boxes)) e in
      let (few, lines) = or_parts (not (length (joined_to S p) == 2)) (list_any (line_test p) (joined_up s.lines)) open_ways in
      record {
        two = has_two S distinct p (record { start = p; stop = p }) (two_of (length (joined_to S p) == 2) refl few);
        plain = λ t. elim t [
          | inl (line, is_line, how) ↦ any_false (line_test p) (joined_up s.lines) line is_line lines (elim how [
            | inl ends ↦ or_left (ends_at p line) (turns_back p line) (ends_tell p line ends)
            | inr back ↦ or_right (ends_at p line) (turns_back p line) (back_from p line back.place back.inside back.same back.here)
          ])
          | inr (ring, is_ring, how) ↦ any_false (ring_test p) (flat_map rings_of s.polygons ++ s.boxes) ring is_ring rings (round_tell ring p (closed ring is_ring) how)
        ];
      }
    where
      two_of : (b : Bool) → (length (joined_to S p) == 2) ≡ b → not b ≡ false → length (joined_to S p) ≡ 2
      two_of true f g = (unsigned_Decides (length (joined_to S p)) 2).0 f
      two_of false f g = absurd (let z : true ≡ false = g in cc)

  pub if_passed : (p : GridPoint) → IsPassed s p → is_node s S p ≡ false
  if_passed p h = false_from_ne_true (is_node s S p) (λ e. elim (or_cases (not (length (joined_to S p) == 2) || list_any (line_test p) (joined_up s.lines)) (list_any (ring_test p) (flat_map rings_of s.polygons ++ s.boxes)) e) [
    | inl open_ways ↦ elim (or_cases (not (length (joined_to S p) == 2)) (list_any (line_test p) (joined_up s.lines)) open_ways) [
      | inl many ↦ (let two : (length (joined_to S p) == 2) ≡ true = (unsigned_Decides (length (joined_to S p)) 2).1 (two_counted S distinct p h.two) in let clash : true ≡ false = sym many ∙ ap not two in absurd (cc))
      | inr lines ↦
          (let (i, line, below, at, told) = Any-from_list_any (line_test p) (joined_up s.lines) lines in
          h.plain (inl (line, (i, below, at), elim (or_cases (ends_at p line) (turns_back p line) told) [ inl f ↦ inl (ends_told p line f) | inr f ↦ inr (back_told p line f) ])))
    ]
    | inr rings ↦
        (let (i, ring, below, at, told) = Any-from_list_any (ring_test p) (flat_map rings_of s.polygons ++ s.boxes) rings in
        h.plain (inr (ring, (i, below, at), round_told ring p (closed ring (i, below, at)) told)))
  ])

  pub node_if : (p : GridPoint) → (IsPassed s p → ⊥) → is_node s S p ≡ true
  node_if p h = go (is_node s S p) refl
    where
      go : (b : Bool) → is_node s S p ≡ b → is_node s S p ≡ true
      go true e = e
      go false e = absurd (h (passed_if p e))

-- ---- the way on

-- of two vertices the one that isn't the one that the way comes from
pub other_next : (S : List Segment) (x y q : GridPoint) → (x ≡ y → ⊥) → (joined_to S q ≡ x ∷ y ∷ []) ⊎ (joined_to S q ≡ y ∷ x ∷ []) → next_vertex S x q ≡ y
other_next S x y q apart (inl e) =
    ap (λ (ps : List GridPoint). first_or x (filter (λ (r : GridPoint). not (same_point r x)) ps)) e
    ∙ (λ i. first_or x (cond (not (same_point_to x x refl i)) (x ∷ cond (not (same_point y x)) (y ∷ []) []) (cond (not (no_back i)) (y ∷ []) [])))
  where
    no_back : same_point y x ≡ false
    no_back = false_from_ne_true (same_point y x) (λ f. apart (sym (same_point_from y x f)))
other_next S x y q apart (inr e) =
    ap (λ (ps : List GridPoint). first_or x (filter (λ (r : GridPoint). not (same_point r x)) ps)) e
    ∙ (λ i. first_or x (cond (not (no_back i)) (y ∷ cond (not (same_point x x)) (x ∷ []) []) (cond (not (same_point x x)) (x ∷ []) [])))
  where
    no_back : same_point y x ≡ false
    no_back = false_from_ne_true (same_point y x) (λ f. apart (sym (same_point_from y x f)))

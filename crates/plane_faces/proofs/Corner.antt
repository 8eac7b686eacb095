-- Links that leave one vertex, in order of rotation, and the lowest link of a list.
use Rattle.std.proofs.Common.{◌≡◌, ◌⊎◌, inl, inr, refl, sym, ap, subst, ◌∙◌, Bool, true, false, List, [], ◌∷◌}
use Rattle.std.proofs.Math.IntN.{ℤ, pos}
use Rattle.std.specs.Prelude.{All, Contains, int_lt, ◌<ℤ◌}
use Rattle.std.proofs.lemmas.List.Elements.{All-head, All-tail, All-nil, All-weaker, All-contains, All-contains_itself}
use Rattle.std.proofs.lemmas.Bool.{and_from}
use Rattle.lists.proofs.Members.{Contains-head, Contains-later, Contains-nil}
use Rattle.plane_algebra.proofs.Sign.{signs}
use Rattle.plane_algebra.proofs.Tests.{lt_to, lt_from}
use Rattle.plane_parity.proofs.Determinant.{turn-first}
use Rattle.plane_parity.proofs.AlongLink.{decide_link, rises-zero, not_zero_low}
use Rattle.plane_parity.proofs.Abscissa.{ray_law_nothing, not_still_self, times_still, not_still}
use Rattle.plane_parity.proofs.LinkOrder.{is_under-trans, is_under-total}
use Rattle.plane_parity.proofs.Sight.{link_kind}
use Rattle.plane_parity.proofs.Sector.{turn_other, under_through, over_start, up_is_later, flat_of_turn, first_gap, rise_at, still_low}
use Rattle.plane_parity.proofs.BoundaryEven.{up_alone}
use Rattle.plane_parity.proofs.Passing.{turned_up, turned_down}
use Rattle.plane_model.specs.Points.{GridPoint, Segment, step_x, turn, at, same_segment}
use Rattle.plane_model.specs.Parity.{xor, odd_count, is_below, is_over}
use Rattle.plane_model.specs.Arrangement.{IsBefore, IsArrangement}
use Rattle.plane_model.specs.EvenList.{IsEven}
use Rattle.plane_model.specs.Below.{is_under, rise, rises}
use Rattle.plane_model.specs.Sides.{odd_left, odd_right}
use Rattle.plane_model.specs.Rotation.{precedes}
use Rattle.plane_faces.specs.Around.{forward_dart}
use Rattle.plane_faces.specs.Places.{IsLater, IsLowest}
use Rattle.plane_faces.proofs.Lists.{contains_cases}
use Rattle.plane_faces.proofs.Crossing.{crossing_law}
use Rattle.plane_faces.proofs.Around.{precedes_once, precedes_not_itself}
use Rattle.plane_faces.proofs.Order.{before_trans, before_not_itself, order_cases, below_starts_before}

-- the turn at the start of l from k to l
abbrev pub from_to : Segment → Segment → ℤ
from_to k l = turn (at l.start) (at k.stop) (at l.stop)

module _ (S : List Segment) (arr : IsArrangement S) where
  nothing : All (Contains S) []
  nothing = All-nil (Contains S)

  over_there : (k l : Segment) → k.start ≡ l.start → pos 0 <ℤ step_x (at k.start) (at k.stop) → is_over (at l.start) k ≡ true
  over_there k l s d = subst (λ (q : GridPoint). is_over (at q) k ≡ true) s (over_start k d)

  through : (k l : Segment) → k.start ≡ l.start → turn (at k.start) (at k.stop) (at l.start) ≡ pos 0
  through k l s = subst (λ (q : GridPoint). turn (at k.start) (at k.stop) (at q) ≡ pos 0) s (turn-first (at k.start) (at k.stop))

  -- links that leave one vertex in one direction are one
  pub same_direction : (k l : Segment) → Contains S k → Contains S l → k.start ≡ l.start → from_to k l ≡ pos 0 → k ≡ l
  same_direction k l ck cl s t = elim (link_kind S arr k ck) [
    | inl dk ↦ elim (link_kind S arr l cl) [
      | inl dl ↦ elim (decide_link k l) [ inl e ↦ e | inr n ↦ absurd (both dk dl n (is_under (at l.start) l k) refl) ]
      | inr ul ↦ absurd (not_still_self (from_to k l) (up_is_later S [] arr nothing (λ q. refl) k l s dk ul.0 ul.1) t)
    ]
    | inr uk ↦ elim (link_kind S arr l cl) [
      | inl dl ↦ absurd (not_still (turn (at l.start) (at l.stop) (at k.stop)) (from_to k l) (turn_other (at l.start) (at l.stop) (at k.stop))
          (subst (λ (q : GridPoint). pos 0 <ℤ turn (at q) (at l.stop) (at k.stop)) s (up_is_later S [] arr nothing (λ q. refl) l k (sym s) dl uk.0 uk.1)) t)
      | inr ul ↦ up_alone S arr k l ck cl s uk ul
    ]
  ]
    where
      both : pos 0 <ℤ step_x (at k.start) (at k.stop) → pos 0 <ℤ step_x (at l.start) (at l.stop) → (k ≡ l → ⊥) → (b : Bool) → is_under (at l.start) l k ≡ b → ⊥
      both dk dl n true u = still_low (turn (at l.start) (at l.stop) (at k.stop)) (from_to k l) (turn_other (at l.start) (at l.stop) (at k.stop)) t
          ((under_through (at l.start) l k dl (turn-first (at l.start) (at l.stop)) u).1 (through k l s))
      both dk dl n false u =
          let v : is_under (at l.start) k l ≡ true = is_under-total S arr k l ck cl (at l.start) (over_there k l s dk) (over_start l dl) n u in
          not_zero_low (from_to k l) (subst (λ (q : GridPoint). turn (at q) (at k.stop) (at l.stop) <ℤ pos 0) s ((under_through (at l.start) k l dk (through k l s) v).1 (turn-first (at l.start) (at l.stop)))) t

  -- of two links that leave one vertex one comes before the other
  pub precedes_total : (k l : Segment) → Contains S k → Contains S l → k.start ≡ l.start → (k ≡ l) ⊎ ((precedes (forward_dart k) (forward_dart l) ≡ true) ⊎ (precedes (forward_dart l) (forward_dart k) ≡ true))
  precedes_total k l ck cl s = elim (signs (from_to k l)) [
    | inl h ↦ inr (inl (subst (λ (q : GridPoint). int_lt (pos 0) (turn (at q) (at k.stop) (at l.stop)) ≡ true) (sym s) (lt_to (pos 0) (from_to k l) h)))
    | inr r ↦ elim r [
      | inl e ↦ inl (same_direction k l ck cl s e)
      | inr h ↦ inr (inr (lt_to (pos 0) (turn (at l.start) (at l.stop) (at k.stop)) (turned_up (turn (at l.start) (at l.stop) (at k.stop)) (from_to k l) (turn_other (at l.start) (at l.stop) (at k.stop)) h)))
    ]
  ]

  -- for links that are not vertical, the order of rotation is that from below
  under_of : (k l : Segment) → k.start ≡ l.start → pos 0 <ℤ step_x (at k.start) (at k.stop) → pos 0 <ℤ step_x (at l.start) (at l.stop) → pos 0 <ℤ from_to k l → is_under (at l.start) l k ≡ true
  under_of k l s dk dl t =
      and_from (is_over (at l.start) k) (rises (rise (at l.start) k l) (turn (at l.start) (at l.stop) (at k.stop))) (over_there k l s dk)
      (rises-zero (rise (at l.start) k l) (turn (at l.start) (at l.stop) (at k.stop))
      (rise_at (at l.start) k l (turn-first (at l.start) (at l.stop)) ∙ times_still (step_x (at l.start) (at l.stop)) (turn (at k.start) (at k.stop) (at l.start)) (through k l s))
      ∙ lt_to (turn (at l.start) (at l.stop) (at k.stop)) (pos 0) (turned_down (turn (at l.start) (at l.stop) (at k.stop)) (from_to k l) (turn_other (at l.start) (at l.stop) (at k.stop)) t))

  pub turn_trans : (a b c : Segment) → Contains S a → Contains S b → Contains S c → a.start ≡ c.start → b.start ≡ c.start
      → pos 0 <ℤ turn (at c.start) (at a.stop) (at b.stop) → pos 0 <ℤ turn (at c.start) (at b.stop) (at c.stop) → pos 0 <ℤ turn (at c.start) (at a.stop) (at c.stop)
  turn_trans a b c ca cb cc' sa sb ab bc = elim (link_kind S arr c cc') [
    | inl dc ↦
        turned_up (from_to a c) (turn (at c.start) (at c.stop) (at a.stop)) (turn_other (at c.start) (at a.stop) (at c.stop))
        ((under_through (at c.start) c a dc (turn-first (at c.start) (at c.stop))
        (is_under-trans (at c.start) a b c (over_start c dc) (subst (λ (q : GridPoint). is_under (at q) b a ≡ true) sb (under_of a b (sa ∙ sym sb) da db ab')) (under_of b c sb db dc bc))).1 (through a c sa))
    | inr uc ↦ up_is_later S [] arr nothing (λ q. refl) a c sa da uc.0 uc.1
  ]
    where
      ab' : pos 0 <ℤ turn (at b.start) (at a.stop) (at b.stop)
      ab' = subst (λ (q : GridPoint). pos 0 <ℤ turn (at q) (at a.stop) (at b.stop)) (sym sb) ab

      da : pos 0 <ℤ step_x (at a.start) (at a.stop)
      da = flat_of_turn S [] arr nothing (λ q. refl) a b ca cb (sb ∙ sym sa) (subst (λ (q : GridPoint). pos 0 <ℤ turn (at q) (at a.stop) (at b.stop)) (sym sa) ab)

      db : pos 0 <ℤ step_x (at b.start) (at b.stop)
      db = flat_of_turn S [] arr nothing (λ q. refl) b c cb cc' (sym sb) (subst (λ (q : GridPoint). pos 0 <ℤ turn (at q) (at b.stop) (at c.stop)) (sym sb) bc)

-- ---- the lowest link of a list

pub sub_arrangement : (S L : List Segment) → IsArrangement S → All (Contains S) L → IsArrangement L
sub_arrangement S L arr within = record {
  ordered = All-weaker (Contains S) (λ l. IsBefore l.start l.stop) (λ l c. All-contains (λ j. IsBefore j.start j.stop) S l arr.ordered c) L within;
  apart = λ k l ck cl z on on'. arr.apart k l (All-contains (Contains S) L k within ck) (All-contains (Contains S) L l within cl) z on on';
}

module _ (S L : List Segment) (arr : IsArrangement S) (within : All (Contains S) L) (even : IsEven L) (a : Segment) (ca : Contains S a) (lowest : IsLowest L a) where
  later : (k : Segment) → Contains (a ∷ L) k → (k ≡ a) ⊎ IsLater a k
  later k c = elim (contains_cases a L k c) [ inl e ↦ inl e | inr i ↦ lowest k i ]

  both : All (Contains S) (a ∷ L)
  both = All-from (All-contains_itself (a ∷ L))
    where
      All-from : All (Contains (a ∷ L)) (a ∷ L) → All (Contains S) (a ∷ L)
      All-from h = All-weaker (Contains (a ∷ L)) (Contains S) (λ k c. elim (contains_cases a L k c) [ inl e ↦ subst (Contains S) (sym e) ca | inr i ↦ All-contains (Contains S) L k within i ]) (a ∷ L) h

  first : (k : Segment) → Contains (a ∷ L) k → k.start ≡ a.start → int_lt (pos 0) (turn (at a.start) (at k.stop) (at a.stop)) ≡ false
  first k c s = subst (λ (q : GridPoint). int_lt (pos 0) (turn (at q) (at k.stop) (at a.stop)) ≡ false) s (elim (later k c) [
    | inl e ↦ subst (λ (j : Segment). precedes (forward_dart j) (forward_dart a) ≡ false) (sym e) (precedes_not_itself (forward_dart a))
    | inr r ↦ elim r [
      | inl h ↦ absurd (before_not_itself a.start (subst (IsBefore a.start) s h))
      | inr h ↦ precedes_once (forward_dart a) (forward_dart k) h.0 h.1
    ]
  ])

  none_below : (k : Segment) → Contains (a ∷ L) k → is_below (at a.start) k ≡ false
  none_below k c = go (is_below (at a.start) k) refl
    where
      early : IsBefore k.start a.start → ⊥
      early h = elim (later k c) [
        | inl e ↦ before_not_itself a.start (subst (λ (j : Segment). IsBefore j.start a.start) e h)
        | inr r ↦ elim r [
          | inl i ↦ before_not_itself a.start (before_trans a.start k.start a.start i h)
          | inr i ↦ before_not_itself a.start (subst (λ (q : GridPoint). IsBefore q a.start) i.0 h)
        ]
      ]

      go : (b : Bool) → is_below (at a.start) k ≡ b → b ≡ false
      go true e = absurd (early (below_starts_before a.start k e))
      go false e = refl

  -- nothing of the list is below its lowest link
  pub lowest_right : odd_right L a ≡ false
  lowest_right =
      first_gap (a ∷ L) L (sub_arrangement S (a ∷ L) arr both) (All-tail (Contains (a ∷ L)) a L (All-contains_itself (a ∷ L))) even a (Contains-head a L) first
      ∙ ray_law_nothing (a ∷ L) L (All-tail (Contains (a ∷ L)) a L (All-contains_itself (a ∷ L))) (at a.start) none_below

  pub lowest_left : odd_left L a ≡ odd_count (same_segment a) L
  lowest_left = crossing_law S L arr within even a ca ∙ ap (λ (b : Bool). xor b (odd_count (same_segment a) L)) lowest_right

-- ---- there is a lowest link

module _ (S : List Segment) (arr : IsArrangement S) where
  later_trans : (a b c : Segment) → Contains S a → Contains S b → Contains S c → IsLater a b → IsLater b c → IsLater a c
  later_trans a b c ca cb cc' (inl h) (inl k) = inl (before_trans a.start b.start c.start h k)
  later_trans a b c ca cb cc' (inl h) (inr k) = inl (subst (IsBefore a.start) (sym k.0) h)
  later_trans a b c ca cb cc' (inr h) (inl k) = inl (subst (λ (q : GridPoint). IsBefore q c.start) h.0 k)
  later_trans a b c ca cb cc' (inr h) (inr k) =
      inr (
        k.0 ∙ h.0,
        subst (λ (q : GridPoint). int_lt (pos 0) (turn (at q) (at a.stop) (at c.stop)) ≡ true) (k.0 ∙ h.0)
            (lt_to (pos 0) (from_to a c) (turn_trans S arr a b c ca cb cc' (sym (k.0 ∙ h.0)) (sym k.0)
            (subst (λ (q : GridPoint). pos 0 <ℤ turn (at q) (at a.stop) (at b.stop)) (sym (k.0 ∙ h.0)) (lt_from (pos 0) (turn (at a.start) (at a.stop) (at b.stop)) h.1))
            (subst (λ (q : GridPoint). pos 0 <ℤ turn (at q) (at b.stop) (at c.stop)) (sym k.0) (lt_from (pos 0) (turn (at b.start) (at b.stop) (at c.stop)) k.1)))),
      )

  later_total : (a b : Segment) → Contains S a → Contains S b → (a ≡ b) ⊎ (IsLater a b ⊎ IsLater b a)
  later_total a b ca cb = elim (order_cases a.start b.start) [
    | inl h ↦ inr (inl (inl h))
    | inr r ↦ elim r [
      | inl s ↦ elim (precedes_total S arr a b ca cb s) [
        | inl e ↦ inl e
        | inr r' ↦ elim r' [ inl h ↦ inr (inl (inr (sym s, h))) | inr h ↦ inr (inr (inr (s, h))) ]
      ]
      | inr h ↦ inr (inr (inl h))
    ]
  ]

  pub lowest_exists : (x : Segment) (xs : List Segment) → All (Contains S) (x ∷ xs) → (a : Segment) × Contains (x ∷ xs) a × IsLowest (x ∷ xs) a
  lowest_exists x [] within = (x, Contains-head x [], λ k c. elim (contains_cases x [] k c) [ inl e ↦ inl e | inr n ↦ absurd (Contains-nil k n) ])
  lowest_exists x (y ∷ ys) within =
      let r : (a : Segment) × Contains (y ∷ ys) a × IsLowest (y ∷ ys) a = lowest_exists y ys (All-tail (Contains S) x (y ∷ ys) within) in
      compare r.0 r.1 r.2 (later_total x r.0 cx (All-contains (Contains S) (y ∷ ys) r.0 (All-tail (Contains S) x (y ∷ ys) within) r.1))
    where
      cx : Contains S x
      cx = All-head (Contains S) x (y ∷ ys) within

      compare : (b : Segment) → Contains (y ∷ ys) b → IsLowest (y ∷ ys) b → (x ≡ b) ⊎ (IsLater x b ⊎ IsLater b x) → (a : Segment) × Contains (x ∷ (y ∷ ys)) a × IsLowest (x ∷ (y ∷ ys)) a
      compare b cb low (inl e) = (b, Contains-later x (y ∷ ys) b cb, λ k c. elim (contains_cases x (y ∷ ys) k c) [ inl f ↦ inl (f ∙ e) | inr i ↦ low k i ])
      compare b cb low (inr (inl h)) = (
        x,
        Contains-head x (y ∷ ys),
        λ k c. elim (contains_cases x (y ∷ ys) k c) [
          | inl f ↦ inl f
          | inr i ↦ elim (low k i) [
            | inl f ↦ inr (subst (IsLater x) (sym f) h)
            | inr l ↦ inr (later_trans x b k cx (All-contains (Contains S) (y ∷ ys) b (All-tail (Contains S) x (y ∷ ys) within) cb) (All-contains (Contains S) (y ∷ ys) k (All-tail (Contains S) x (y ∷ ys) within) i) h l)
          ]
        ],
      )
      compare b cb low (inr (inr h)) = (b, Contains-later x (y ∷ ys) b cb, λ k c. elim (contains_cases x (y ∷ ys) k c) [ inl f ↦ inr (subst (IsLater b) (sym f) h) | inr i ↦ low k i ])

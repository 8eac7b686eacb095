-- Rings of one polygon, each begun with its least arc, in order.
use Rattle.std.proofs.Common.{◌≡◌, ◌⊎◌, inl, inr, refl, sym, ap, ◌∙◌, subst, arith, suc, ◌+◌, ◌<◌, ◌≤◌, Bool, true, false, List, [], ◌∷◌, ◌++◌, length, get_or, All, AllPairs, Contains}
use Rattle.std.proofs.lemmas.Bool.{cases_lt}
use Rattle.std.proofs.lemmas.List.Elements.{All-append, All-cons, All-contains, All-head, All-nil, All-tail, All-weaker, Contains-get_or}
use Rattle.std.proofs.lemmas.List.Kept.{AllPairs-cons}
use Rattle.std.proofs.lemmas.List.Sums.{sum_by-cons}
use Rattle.lists.proofs.Members.{Contains-cases, Contains-head, Contains-later, Contains-nil}
use Rattle.plane_model.specs.Points.{GridPoint, Path}
use Rattle.plane_model.specs.Arcs.{SignedArc}
use Rattle.ring_trace.specs.Traced.{BeginsWithLeast, times, times_round}
use Rattle.ring_trace.specs.Turns.{MayStandBefore, first_number, is_left}
use Rattle.ring_trace.specs.Ways.{IsSimpleRing}
use Rattle.ring_trace.proofs.TurnLemmas.{turned_ring}
use Rattle.picture_laws.proofs.Cycles.{AreEven, rings_exist, over}

-- ---- the least arc of a ring

-- no arc of the ring has a lesser number
record LeastAt (ring : List SignedArc) : Type 0 where
  before : List SignedArc
  one : SignedArc
  past : List SignedArc
  are : ring ≡ before ++ one ∷ past
  least : All (λ b. one.arc ≤ b.arc) ring

least_at : (a : SignedArc) (ring : List SignedArc) → LeastAt (a ∷ ring)
least_at a [] = record { before = []; one = a; past = []; are = refl; least = All-cons (λ b. a.arc ≤ b.arc) a [] (omega arith) (All-nil (λ b. a.arc ≤ b.arc)) }
least_at a (b ∷ ring) =
    let h = least_at b ring in
    elim (cases_lt h.one.arc a.arc) [
      | inl less ↦ record {
        before = a ∷ h.before;
        one = h.one;
        past = h.past;
        are = ap (λ (along : List SignedArc). a ∷ along) h.are;
        least = All-cons (λ c. h.one.arc ≤ c.arc) a (b ∷ ring) (omega arith) h.least;
      }
      | inr more ↦ record {
        before = [];
        one = a;
        past = b ∷ ring;
        are = refl;
        least = All-cons (λ c. a.arc ≤ c.arc) a (b ∷ ring) (omega arith) (All-weaker (λ c. h.one.arc ≤ c.arc) (λ c. a.arc ≤ c.arc) (λ c l. omega arith) (b ∷ ring) h.least);
      }
    ]

all_split : {X : Type 0} (P : X → Type 0) (xs ys : List X) → All P (xs ++ ys) → All P xs × All P ys
all_split P [] ys h = (All-nil P, h)
all_split P (x ∷ xs) ys h = let (a, b) = all_split P xs ys (All-tail P x (xs ++ ys) h) in (All-cons P x xs (All-head P x (xs ++ ys) h) a, b)

-- ---- rings begun there

module _ (start stop : SignedArc → GridPoint) where
  -- a ring with the same arcs that begins with the least
  record Begun (ring : List SignedArc) : Type 0 where
    turned : List SignedArc
    simple : IsSimpleRing start stop turned
    least : BeginsWithLeast turned
    same : (a : SignedArc) → times a turned ≡ times a ring

  begun : (ring : List SignedArc) → 0 < length ring → IsSimpleRing start stop ring → Begun ring
  begun [] some simple = absurd (omega arith)
  begun (b ∷ ring) some simple =
      let l = least_at b ring in
      let (low_before, low_rest) = all_split (λ c. l.one.arc ≤ c.arc) l.before (l.one ∷ l.past) (subst (All (λ c. l.one.arc ≤ c.arc)) l.are l.least) in
      record {
        turned = l.one ∷ (l.past ++ l.before);
        simple = turned_ring start stop l.before (l.one ∷ l.past) (subst (IsSimpleRing start stop) l.are simple);
        least = All-append (λ c. l.one.arc ≤ c.arc) l.past l.before (All-tail (λ c. l.one.arc ≤ c.arc) l.one l.past low_rest) low_before;
        same = λ a.
            let s = over a (l.one ∷ l.past) l.before in
            let t = over a l.before (l.one ∷ l.past) in
            let u : times a (b ∷ ring) ≡ times a (l.before ++ l.one ∷ l.past) = ap (times a) l.are in
            omega arith;
      }

  record AllBegun (rings : List (List SignedArc)) : Type 0 where
    turned : List (List SignedArc)
    simple : All (IsSimpleRing start stop) turned
    least : All BeginsWithLeast turned
    same : (a : SignedArc) → times_round a turned ≡ times_round a rings

  all_begun : (rings : List (List SignedArc)) → All (λ ring. 0 < length ring) rings → All (IsSimpleRing start stop) rings → AllBegun rings
  all_begun [] some simple = record { turned = []; simple = All-nil (IsSimpleRing start stop); least = All-nil BeginsWithLeast; same = λ a. refl }
  all_begun (ring ∷ rings) some simple =
      let one = begun ring (All-head (λ r. 0 < length r) ring rings some) (All-head (IsSimpleRing start stop) ring rings simple) in
      let more = all_begun rings (All-tail (λ r. 0 < length r) ring rings some) (All-tail (IsSimpleRing start stop) ring rings simple) in
      record {
        turned = one.turned ∷ more.turned;
        simple = All-cons (IsSimpleRing start stop) one.turned more.turned one.simple more.simple;
        least = All-cons BeginsWithLeast one.turned more.turned one.least more.least;
        same = λ a.
            let m = sum_by-cons (times a) one.turned more.turned in
            let n = sum_by-cons (times a) ring rings in
            let s = one.same a in
            let t = more.same a in
            omega arith;
      }

-- ---- rings in order

module _ (arcs : List Path) where
  abbrev R : List SignedArc → List SignedArc → Type 0
  R g h = MayStandBefore arcs g h

  one_first : (g h : List SignedArc) → R g h ⊎ R h g
  one_first g h = go (is_left arcs g) (is_left arcs h) refl refl
    where
      clash : (b c : Bool) → b ≡ true → c ≡ false → b ≡ c → ⊥
      clash b c e f k = let z : true ≡ false = sym e ∙ k ∙ f in cc

      alike : (b : Bool) → is_left arcs g ≡ b → is_left arcs h ≡ b → R g h ⊎ R h g
      alike b e f = elim (cases_lt (first_number h) (first_number g)) [
        | inl less ↦ inr (record { exteriors_first = λ l. f ∙ sym e ∙ l; in_order = λ l. omega arith })
        | inr more ↦ inl (record { exteriors_first = λ l. e ∙ sym f ∙ l; in_order = λ l. omega arith })
      ]

      go : (b c : Bool) → is_left arcs g ≡ b → is_left arcs h ≡ c → R g h ⊎ R h g
      go true true e f = alike true e f
      go false false e f = alike false e f
      go true false e f = inl (record { exteriors_first = λ l. e; in_order = λ l. absurd (clash (is_left arcs g) (is_left arcs h) e f l) })
      go false true e f = inr (record { exteriors_first = λ l. f; in_order = λ l. absurd (clash (is_left arcs h) (is_left arcs g) f e l) })

  between : (x y z : Bool) → (y ≡ true → x ≡ true) → (z ≡ true → y ≡ true) → x ≡ z → x ≡ y
  between true true z f g e = refl
  between false false z f g e = refl
  between true false z f g e = sym (g (sym e))
  between false true z f g e = f refl

  onward : (g h k : List SignedArc) → R g h → R h k → R g k
  onward g h k a b = record {
    exteriors_first = λ l. a.exteriors_first (b.exteriors_first l);
    in_order = λ l.
        let same : is_left arcs g ≡ is_left arcs h = between (is_left arcs g) (is_left arcs h) (is_left arcs k) a.exteriors_first b.exteriors_first l in
        let first = a.in_order same in
        let second = b.in_order (sym same ∙ l) in
        omega arith;
  }

  -- a ring put among rings in order
  record Put (g : List SignedArc) (hs us : List (List SignedArc)) : Type 0 where
    pairs : AllPairs R us
    from : (r : List SignedArc) → Contains us r → (r ≡ g) ⊎ Contains hs r
    same : (a : SignedArc) → times_round a us ≡ times a g + times_round a hs

  put : (g : List SignedArc) (hs : List (List SignedArc)) → AllPairs R hs → (us : List (List SignedArc)) × Put g hs us
  put g [] pairs = (
    g ∷ [],
    record {
      pairs = λ i j d less below. absurd (omega arith);
      from = λ r c. elim (Contains-cases g [] r c) [ inl e ↦ inl (sym e) | inr n ↦ Contains-nil r n ];
      same = λ a. sum_by-cons (times a) g [];
    },
  )
  put g (h ∷ hs) pairs =
      let head : All (R h) hs = (λ k d l. pairs 0 (suc k) d (omega arith) (omega arith)) in
      let rest : AllPairs R hs = (λ i j d less below. pairs (suc i) (suc j) d (omega arith) (omega arith)) in
      elim (one_first g h) [
        | inl first ↦ (
          g ∷ h ∷ hs,
          record {
            pairs = AllPairs-cons R g (h ∷ hs) (All-cons (R g) h hs first (All-weaker (R h) (R g) (λ k l. onward g h k first l) hs head)) pairs;
            from = λ r c. elim (Contains-cases g (h ∷ hs) r c) [ inl e ↦ inl (sym e) | inr n ↦ inr n ];
            same = λ a. sum_by-cons (times a) g (h ∷ hs);
          },
        )
        | inr later ↦
            (let (us, p) = put g hs rest in (
              h ∷ us,
              record {
                pairs = AllPairs-cons R h us (λ k d l. elim (p.from (get_or us k d) (Contains-get_or us k d l)) [
                  | inl e ↦ subst (R h) (sym e) later
                  | inr c ↦ All-contains (R h) hs (get_or us k d) head c
                ]) p.pairs;
                from = λ r c. elim (Contains-cases h us r c) [
                  | inl e ↦ inr (subst (Contains (h ∷ hs)) e (Contains-head h hs))
                  | inr n ↦ elim (p.from r n) [ inl e ↦ inl e | inr m ↦ inr (Contains-later h hs r m) ]
                ];
                same = λ a.
                    let m = sum_by-cons (times a) h us in
                    let n = sum_by-cons (times a) h hs in
                    let s = p.same a in
                    omega arith;
              },
            ))
      ]

  record Sorted (hs us : List (List SignedArc)) : Type 0 where
    pairs : AllPairs R us
    from : (r : List SignedArc) → Contains us r → Contains hs r
    same : (a : SignedArc) → times_round a us ≡ times_round a hs

  sorted : (hs : List (List SignedArc)) → (us : List (List SignedArc)) × Sorted hs us
  sorted [] = ([], record { pairs = λ i j d less below. absurd (omega arith); from = λ r c. c; same = λ a. refl })
  sorted (h ∷ hs) =
      let (us, s) = sorted hs in
      let (vs, p) = put h us s.pairs in (
        vs,
        record {
          pairs = p.pairs;
          from = λ r c. elim (p.from r c) [ inl e ↦ subst (Contains (h ∷ hs)) (sym e) (Contains-head h hs) | inr n ↦ Contains-later h hs r (s.from r n) ];
          same = λ a.
              let m = p.same a in
              let n = sum_by-cons (times a) h hs in
              let t = s.same a in
              omega arith;
        },
      )

  -- ---- a polygon

  module _ (start stop : SignedArc → GridPoint) where
    -- rings as they stand in a polygon, which go along some arcs
    pub record IsOfArcs (along : List SignedArc) (polygon : List (List SignedArc)) : Type 0 where
      pub simple : All (IsSimpleRing start stop) polygon
      pub least_first : All BeginsWithLeast polygon
      pub in_order : AllPairs (MayStandBefore arcs) polygon
      pub same : (a : SignedArc) → times_round a polygon ≡ times a along

    pub polygon_exists : (along : List SignedArc) → AreEven start stop along → (polygon : List (List SignedArc)) × IsOfArcs along polygon
    polygon_exists along even =
        let (rings, r) = rings_exist start stop along even in
        let b = all_begun start stop rings r.some r.simple in
        let (polygon, s) = sorted b.turned in (
          polygon,
          record {
            simple = λ k d l. All-contains (IsSimpleRing start stop) b.turned (get_or polygon k d) b.simple (s.from (get_or polygon k d) (Contains-get_or polygon k d l));
            least_first = λ k d l. All-contains BeginsWithLeast b.turned (get_or polygon k d) b.least (s.from (get_or polygon k d) (Contains-get_or polygon k d l));
            in_order = s.pairs;
            same = λ a. s.same a ∙ b.same a ∙ r.same a;
          },
        )

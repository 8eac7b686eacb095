-- In a polygon exteriors stand before holes, and either in the order of their least arcs.
use Rattle.std.proofs.Common.{◌≡◌, refl, sym, ap, ◌∙◌, subst, arith, ℕ, suc, ◌+◌, ◌-◌, ◌<◌, ◌≤◌, Bool, true, false, not, List, ◌++◌, length, get_or, take, drop, map, nat_eq, All, Contains}
use Rattle.std.specs.List.{AllPairs}
use Rattle.std.specs.List.Sorted.{IsSorted}
use Rattle.std.specs.Cmp.{IsTotalOrder}
use Rattle.std.specs.Ordering.{MatchOrdering, is_lt, ordering_reverse, ordering_then, bool_cmp, nat_cmp}
use Rattle.std.specs.declared.cmp.Ordering.{Ordering}
use Rattle.std.specs.declared.cmp.Ordering.TheVariants.{Less, Equal, Greater}
use Rattle.std.proofs.lemmas.Cmp.{nat_cmp_total, on_total, then_total, ranked}
use Rattle.std.proofs.lemmas.List.{get_or-map, length-map, drop_more}
use Rattle.std.proofs.lemmas.List.Elements.{All-contains, All-map, Contains-get_or}
use Rattle.std.proofs.lemmas.List.Kept.{AllPairs-filter}
use Rattle.std.proofs.lemmas.List.MinMax.{ranks_by}
use Rattle.std.proofs.lemmas.List.Sorted.{sorted_far}
use Rattle.std.proofs.lemmas.Bool.{not-false}
use Rattle.plane_model.specs.Points.{Path}
use Rattle.plane_model.specs.Arcs.{SignedArc}
use Rattle.ring_trace.specs.declared.pairing.Edge.{Edge}
use Rattle.ring_trace.specs.declared.ring_keys.RingKey.{RingKey}
use Rattle.ring_trace.specs.declared.simple_rings.Rings.{Rings}
use Rattle.ring_trace.specs.Keys.{AreByPart, IsKey, IsHoleBy, IsLeastFirst, arcs_along, key_cmp, keys_of_part, path_along}
use Rattle.ring_trace.specs.Turns.{MayStandBefore, first_number, is_left}
use Rattle.ring_trace.proofs.GatherLemmas.{key_of_some, no_key, within_part}
use Rattle.ring_trace.proofs.PairLemmas.{both_count}

-- ---- sorted keys

three_count : (o p q r : Ordering) → is_lt (ordering_then o (ordering_then p (ordering_then q r))) ≡ false → is_lt (ordering_then o (ordering_then p q)) ≡ false
three_count Less p q r e = e
three_count Equal p q r e = both_count p q r e
three_count Greater p q r e = refl

pub by_key : (keys : List RingKey) → IsSorted (λ (a : RingKey) (b : RingKey). ordering_then (nat_cmp a.part b.part) (within_part a b)) keys → IsSorted key_cmp keys
by_key keys up k d l m =
    let a = get_or keys (k + 1) d in
    let b = get_or keys k d in
    three_count (nat_cmp a.part b.part) (bool_cmp a.is_hole b.is_hole) (nat_cmp a.least b.least) (ordering_then (nat_cmp a.begin b.begin) (ordering_then (nat_cmp a.first b.first) (nat_cmp a.end b.end))) (up k d l m)

hole_back : (s t : Bool) → bool_cmp s t ≡ ordering_reverse (bool_cmp t s)
hole_back false false = refl
hole_back false true = refl
hole_back true false = refl
hole_back true true = refl

hole_on : (s t u : Bool) → bool_cmp s t ≡ Less → bool_cmp t u ≡ Less → bool_cmp s u ≡ Less
hole_on false t true e f = refl
hole_on false false false e f = e
hole_on false true false e f = absurd (let g : false ≡ true = ap is_lt f in cc)
hole_on true false u e f = absurd (let g : false ≡ true = ap is_lt e in cc)
hole_on true true u e f = absurd (let g : false ≡ true = ap is_lt e in cc)

hole_alike : (s t u : Bool) → bool_cmp s t ≡ Equal → bool_cmp s u ≡ bool_cmp t u
hole_alike false false u e = refl
hole_alike true true u e = refl
hole_alike false true u e = absurd (let g : true ≡ false = ap is_lt e in cc)
hole_alike true false u e = absurd (let g : true ≡ false = ap is_lt (ap ordering_reverse e) in cc)

key_total : IsTotalOrder key_cmp
key_total = then_total (on_total (λ (key : RingKey). key.part) nat_cmp_total) (then_total (on_total (λ (key : RingKey). key.is_hole) (record { antisymm = hole_back; trans = hole_on; congr = hole_alike })) (on_total (λ (key : RingKey). key.least) nat_cmp_total))

-- ---- two keys of one part

tied : (x y : ℕ) → x ≡ y → nat_cmp x y ≡ Equal
tied x y e = go (nat_cmp x y) refl (ranked x y (nat_cmp x y) refl)
  where
    go : (o : Ordering) → nat_cmp x y ≡ o → MatchOrdering o (x < y) (x ≡ y) (y < x) → nat_cmp x y ≡ Equal
    go Less f h = absurd (omega arith)
    go Equal f h = f
    go Greater f h = absurd (omega arith)

not_above : (x y : ℕ) → is_lt (nat_cmp y x) ≡ false → x ≤ y
not_above x y e = go (nat_cmp y x) refl (ranked y x (nat_cmp y x) refl)
  where
    go : (o : Ordering) → nat_cmp y x ≡ o → MatchOrdering o (y < x) (y ≡ x) (x < y) → x ≤ y
    go Less f h = absurd (let g : true ≡ false = sym (ap is_lt f) ∙ e in cc)
    go Equal f h = omega arith
    go Greater f h = omega arith

hole_later : (s t : Bool) (o : Ordering) → is_lt (ordering_then (bool_cmp s t) o) ≡ false → s ≡ false → t ≡ false
hole_later true t o e f = absurd (let g : true ≡ false = f in cc)
hole_later false true o e f = absurd (let g : true ≡ false = e in cc)
hole_later false false o e f = refl

least_later : (s t : Bool) (o : Ordering) → is_lt (ordering_then (bool_cmp s t) o) ≡ false → s ≡ t → is_lt o ≡ false
least_later true true o e f = e
least_later true false o e f = absurd (let g : true ≡ false = f in cc)
least_later false true o e f = absurd (let g : true ≡ false = sym f in cc)
least_later false false o e f = e

-- of two keys of one part the first is not a hole before an exterior, and not after a lesser arc
record StandInOrder (a b : RingKey) : Type 0 where
  exteriors : a.part ≡ b.part → b.is_hole ≡ false → a.is_hole ≡ false
  leasts : a.part ≡ b.part → b.is_hole ≡ a.is_hole → a.least ≤ b.least

stand : (a b : RingKey) → is_lt (key_cmp b a) ≡ false → StandInOrder a b
stand a b e = record {
  exteriors = λ f g. hole_later b.is_hole a.is_hole (nat_cmp b.least a.least) (rest f) g;
  leasts = λ f g. not_above a.least b.least (least_later b.is_hole a.is_hole (nat_cmp b.least a.least) (rest f) g);
}
  where
    rest : a.part ≡ b.part → is_lt (ordering_then (bool_cmp b.is_hole a.is_hole) (nat_cmp b.least a.least)) ≡ false
    rest f = subst (λ (o : Ordering). is_lt (ordering_then o (ordering_then (bool_cmp b.is_hole a.is_hole) (nat_cmp b.least a.least))) ≡ false) (tied b.part a.part (sym f)) e

in_order : (keys : List RingKey) → IsSorted key_cmp keys → AllPairs StandInOrder keys
in_order keys up i j d l m =
    stand (get_or keys i d) (get_or keys j d) (sorted_far (λ (a : RingKey) (b : RingKey). is_lt (key_cmp a b)) (ranks_by key_total (λ (key : RingKey). key)) keys up i j d (omega arith) m)

-- ---- their rings

first_is : (edges : List Edge) (rings : Rings) (key : RingKey) → IsKey rings key → IsLeastFirst edges rings key → first_number (path_along edges rings key) ≡ key.least
first_is edges rings key is h =
    let es = rings.edges.items in
    let x = get_or es key.first 0 in
    let some = h.some in
    let within = is.within in
    let count : key.end - key.first ≡ suc (key.end - key.first - 1) = omega arith in
    let front = take (key.first - key.begin) (drop key.begin es) in
    ap (λ (n : ℕ). first_number (arcs_along edges (take n (drop key.first es) ++ front))) count
    ∙ ap (λ (ys : List ℕ). first_number (arcs_along edges (take (suc (key.end - key.first - 1)) ys ++ front))) (drop_more es key.first 0 (omega arith))
    ∙ sym h.least

module _ (arcs : List Path) (edges : List Edge) (rings : Rings) (keys : List RingKey) (are : All (IsKey rings) keys) (first : All (IsLeastFirst edges rings) keys) (holes : All (IsHoleBy arcs edges rings) keys) (up : IsSorted key_cmp keys) where
  may_stand : (a b : RingKey) → Contains keys a → Contains keys b → a.part ≡ b.part → StandInOrder a b → MayStandBefore arcs (path_along edges rings a) (path_along edges rings b)
  may_stand a b c d same h =
      let hole_a = All-contains (IsHoleBy arcs edges rings) keys a holes c in
      let hole_b = All-contains (IsHoleBy arcs edges rings) keys b holes d in
      let first_a = first_is edges rings a (All-contains (IsKey rings) keys a are c) (All-contains (IsLeastFirst edges rings) keys a first c) in
      let first_b = first_is edges rings b (All-contains (IsKey rings) keys b are d) (All-contains (IsLeastFirst edges rings) keys b first d) in
      record {
        exteriors_first = λ e. not-false (is_left arcs (path_along edges rings a)) (sym (sym (h.exteriors same (hole_b ∙ ap not e)) ∙ hole_a));
        in_order = λ e. let l = h.leasts same (hole_b ∙ ap not (sym e) ∙ sym hole_a) in omega arith;
      }

  -- the rings of a part stand in order
  part_in_order : (n : ℕ) → AllPairs (MayStandBefore arcs) (map (path_along edges rings) (keys_of_part keys n))
  part_in_order n i j d l m =
      let some = keys_of_part keys n in
      let size = length-map some (path_along edges rings) in
      let li : i < length some = omega arith in
      let lj : j < length some = omega arith in
      let a = get_or some i no_key in
      let b = get_or some j no_key in
      let (in_a, part_a) = key_of_some keys a n (Contains-get_or some i no_key li) in
      let (in_b, part_b) = key_of_some keys b n (Contains-get_or some j no_key lj) in
      let pairs : AllPairs StandInOrder some = AllPairs-filter StandInOrder (λ (key : RingKey). nat_eq key.part n) keys (in_order keys up) in
      subst (λ (r : List SignedArc). MayStandBefore arcs r (get_or (map (path_along edges rings) some) j d)) (sym (get_or-map (path_along edges rings) some i no_key d li))
      (subst (λ (r : List SignedArc). MayStandBefore arcs (path_along edges rings a) r) (sym (get_or-map (path_along edges rings) some j no_key d lj))
      (may_stand a b in_a in_b (part_a ∙ sym part_b) (pairs i j no_key l lj)))

  pub polygons_in_order : (polygons : List (List (List SignedArc))) → AreByPart edges rings keys polygons → All (AllPairs (MayStandBefore arcs)) polygons
  polygons_in_order polygons g =
      subst (λ (ps : List (List (List SignedArc))). All (AllPairs (MayStandBefore arcs)) ps) (sym g.are)
      (All-map (AllPairs (MayStandBefore arcs)) (λ (n : ℕ). map (path_along edges rings) (keys_of_part keys n)) g.numbers (λ k d l. part_in_order (get_or g.numbers k d)))

-- Rings gathered part by part, of keys that stand in the order of their parts.
use Rattle.std.proofs.Common.{◌≡◌, ◌⊎◌, inl, inr, refl, sym, ap, ◌∙◌, subst, arith, ℕ, ◌+◌, ◌-◌, ◌<◌, ◌≤◌, Bool, false, cond, List, [], ◌∷◌, ◌++◌, length, get_or, take, map, filter, nat_eq, Contains, length-take, append-nil}
use Rattle.std.specs.List.Sorted.{IsStrictlyIncreasing, IsNonDecreasingBy, IsSorted}
use Rattle.std.specs.Ordering.{ordering_then, bool_cmp, nat_cmp}
use Rattle.std.specs.declared.cmp.Ordering.{Ordering}
use Rattle.std.proofs.lemmas.List.Sorted.{IsNonDecreasingBy-from_sort}
use Rattle.std.proofs.lemmas.Bool.{eq-eqb, eqb-true, ne_eqb}
use Rattle.std.proofs.lemmas.List.{map_push, get_or-take, get_or_default}
use Rattle.std.proofs.lemmas.List.Elements.{Contains-get_or, Contains-append_left, Contains-push, Contains-push_cases, filter-append}
use Rattle.lists.proofs.Members.{Contains-nil, Contains-later, Contains-head, Contains-filter, filter-Contains, Contains-map}
use Rattle.known_order.proofs.Orders.{first_counts}
use Rattle.plane_model.specs.Arcs.{SignedArc}
use Rattle.ring_trace.specs.declared.pairing.Edge.{Edge}
use Rattle.ring_trace.specs.declared.ring_keys.RingKey.{RingKey}
use Rattle.ring_trace.specs.declared.simple_rings.Rings.{Rings}
use Rattle.ring_trace.specs.Keys.{AreByPart, BeginsPart, StaysInPart, HasKeyPart, keys_of_part, path_along}
use Rattle.face_sets.proofs.PartLemmas.{rises_more}

pub no_key : RingKey
no_key = record { part = 0; is_hole = false; least = 0; begin = 0; first = 0; end = 0 }

-- keys of one part are ordered by these
abbrev pub within_part : RingKey → RingKey → Ordering
within_part a b = ordering_then (bool_cmp a.is_hole b.is_hole) (ordering_then (nat_cmp a.least b.least) (ordering_then (nat_cmp a.begin b.begin) (ordering_then (nat_cmp a.first b.first) (nat_cmp a.end b.end))))

-- keys that are sorted stand in the order of their parts
pub by_part : (keys : List RingKey) → IsSorted (λ (a : RingKey) (b : RingKey). ordering_then (nat_cmp a.part b.part) (within_part a b)) keys → IsNonDecreasingBy (λ (key : RingKey). key.part) keys
by_part keys up = IsNonDecreasingBy-from_sort (λ (key : RingKey). key.part) keys (λ k d l m. first_counts (nat_cmp (get_or keys (k + 1) d).part (get_or keys k d).part) (within_part (get_or keys (k + 1) d) (get_or keys k d)) (up k d l m))

-- ---- places where a part begins

-- a key before a place is of no greater part than the one just before it
pub not_after : (keys : List RingKey) (i : ℕ) (p d : RingKey) → IsNonDecreasingBy (λ (key : RingKey). key.part) keys → i < length keys → Contains (take i keys) p → (0 < i) × (p.part ≤ (get_or keys (i - 1) d).part)
not_after keys i p d up l (j, below, is) =
    let e = length-take i keys in
    let b : j < i = omega arith in
    let at : get_or keys j p ≡ p = sym (get_or-take i keys j p b) ∙ is in
    let other : get_or keys j d ≡ p = get_or_default keys j d p (omega arith) ∙ at in
    let r : (get_or keys j d).part ≤ (get_or keys (i - 1) d).part = up j (i - 1) d (omega arith) (omega arith) in
    (omega arith, subst (λ (q : RingKey). q.part ≤ (get_or keys (i - 1) d).part) other r)

pub part_begins : (keys : List RingKey) (i before here : ℕ) → IsNonDecreasingBy (λ (key : RingKey). key.part) keys → 0 < i → i < length keys → HasKeyPart keys (i - 1) before → HasKeyPart keys i here → (before ≡ here → ⊥) → BeginsPart keys i
part_begins keys i before here up some l is_before is_here differ = (
  some,
  λ p d c.
      let low = (not_after keys i p d up l c).1 in
      let r = up (i - 1) i d (omega arith) l in
      let e = is_before d in
      let f = is_here d in
      omega arith,
)

pub part_stays : (keys : List RingKey) (i before here : ℕ) → 0 < i → i < length keys → HasKeyPart keys (i - 1) before → HasKeyPart keys i here → before ≡ here → StaysInPart keys i
part_stays keys i before here some l is_before is_here same d =
    let e = length-take i keys in
    let at : get_or (take i keys) (i - 1) d ≡ get_or keys (i - 1) d = get_or-take i keys (i - 1) d (omega arith) in
    inr (get_or keys (i - 1) d, subst (λ (q : RingKey). Contains (take i keys) q) at (Contains-get_or (take i keys) (i - 1) d (omega arith)), is_before d ∙ same ∙ sym (is_here d))

-- ---- the keys of a part

abbrev of_part : ℕ → RingKey → Bool
of_part n key = nat_eq key.part n

one_more : (some : List RingKey) (x : RingKey) (n : ℕ) → x.part ≡ n → keys_of_part (some ++ x ∷ []) n ≡ keys_of_part some n ++ x ∷ []
one_more some x n e = filter-append (of_part n) some (x ∷ []) ∙ ap (λ (b : Bool). filter (of_part n) some ++ cond b (x ∷ []) []) (eq-eqb x.part n e)

as_before : (some : List RingKey) (x : RingKey) (n : ℕ) → (x.part ≡ n → ⊥) → keys_of_part (some ++ x ∷ []) n ≡ keys_of_part some n
as_before some x n e = filter-append (of_part n) some (x ∷ []) ∙ ap (λ (b : Bool). filter (of_part n) some ++ cond b (x ∷ []) []) (ne_eqb x.part n e) ∙ append-nil (filter (of_part n) some)

none_of : (n : ℕ) (keys : List RingKey) → ((key : RingKey) → Contains keys key → key.part ≡ n → ⊥) → keys_of_part keys n ≡ []
none_of n [] h = refl
none_of n (x ∷ xs) h =
    ap (λ (b : Bool). cond b (x ∷ filter (of_part n) xs) (filter (of_part n) xs)) (ne_eqb x.part n (h x (Contains-head x xs)))
    ∙ none_of n xs (λ key c. h key (Contains-later x xs key c))

-- a key that is listed among those of its part
pub some_of : (keys : List RingKey) (key : RingKey) (n : ℕ) → Contains keys key → key.part ≡ n → Contains (keys_of_part keys n) key
some_of keys key n c e = Contains-filter (of_part n) keys key c (eq-eqb key.part n e)

pub key_of_some : (keys : List RingKey) (key : RingKey) (n : ℕ) → Contains (keys_of_part keys n) key → Contains keys key × (key.part ≡ n)
key_of_some keys key n c = let (there, is) = filter-Contains (of_part n) keys key c in (there, eqb-true key.part n is)

-- ---- gathered

module _ (path : RingKey → List SignedArc) where
  abbrev pub group : List RingKey → ℕ → List (List SignedArc)
  group some n = map path (keys_of_part some n)

  groups_kept : (numbers : List ℕ) (some : List RingKey) (x : RingKey) → ((n : ℕ) → Contains numbers n → x.part ≡ n → ⊥) → map (group (some ++ x ∷ [])) numbers ≡ map (group some) numbers
  groups_kept [] some x h = refl
  groups_kept (n ∷ ns) some x h =
      ap (λ (ks : List RingKey). map path ks ∷ map (group (some ++ x ∷ [])) ns) (as_before some x n (h n (Contains-head n ns)))
      ∙ ap (λ (gs : List (List (List SignedArc))). group some n ∷ gs) (groups_kept ns some x (λ m c. h m (Contains-later n ns m c)))

  -- of some keys the polygons of all parts but the last, and the rings of that
  pub record IsGathered (some : List RingKey) (polygons : List (List (List SignedArc))) (polygon : List (List SignedArc)) : Type 0 where
    pub numbers : List ℕ
    pub last : ℕ
    pub rising : IsStrictlyIncreasing numbers
    pub below : (n : ℕ) → Contains numbers n → n < last
    pub used : (n : ℕ) → Contains numbers n → (key : RingKey) × Contains some key × (key.part ≡ n)
    pub reached : (key : RingKey) → Contains some key → Contains numbers key.part ⊎ (key.part ≡ last)
    pub begun : ((some ≡ []) × (numbers ≡ [])) ⊎ ((key : RingKey) × Contains some key × (key.part ≡ last))
    pub are : polygons ≡ map (group some) numbers
    pub is : polygon ≡ group some last

  -- a key of a greater part
  pub gathered_new : (some : List RingKey) (polygons : List (List (List SignedArc))) (polygon : List (List SignedArc)) (x : RingKey) → IsGathered some polygons polygon → 0 < length some → ((key : RingKey) → Contains some key → key.part < x.part) →
      IsGathered (some ++ x ∷ []) (polygons ++ polygon ∷ []) ([] ++ path x ∷ [])
  gathered_new some polygons polygon x g many lower = record {
    numbers = g.numbers ++ g.last ∷ [];
    last = x.part;
    rising = rises_more g.numbers g.last g.rising g.below;
    below = below;
    used = λ n c. elim (Contains-push_cases g.numbers g.last n c) [
      | inl old ↦ (let (key, there, e) = g.used n old in (key, Contains-append_left some (x ∷ []) key there, e))
      | inr new ↦ (let (key, there, e) = last_key in (key, Contains-append_left some (x ∷ []) key there, e ∙ new))
    ];
    reached = λ key c. elim (Contains-push_cases some x key c) [
      | inl old ↦ elim (g.reached key old) [
        | inl low ↦ inl (Contains-append_left g.numbers (g.last ∷ []) key.part low)
        | inr high ↦ inl (subst (λ (n : ℕ). Contains (g.numbers ++ g.last ∷ []) n) (sym high) (Contains-push g.numbers g.last))
      ]
      | inr new ↦ inr (sym (ap (λ (k : RingKey). k.part) new))
    ];
    begun = inr (x, Contains-push some x, refl);
    are = ap (λ (ps : List (List (List SignedArc))). ps ++ polygon ∷ []) g.are
        ∙ ap (λ (p : List (List SignedArc)). map (group some) g.numbers ++ p ∷ []) g.is
        ∙ sym (map_push (group some) g.numbers g.last)
        ∙ sym (groups_kept (g.numbers ++ g.last ∷ []) some x (λ n c e. let b = below n c in absurd (omega arith)));
    is = sym (ap (map path) (one_more some x x.part refl ∙ ap (λ (ks : List RingKey). ks ++ x ∷ []) (none_of x.part some (λ key c e. let b = lower key c in absurd (omega arith)))));
  }
    where
      last_key : (key : RingKey) × Contains some key × (key.part ≡ g.last)
      last_key = elim g.begun [
        | inl none ↦ (let e = ap (λ (ks : List RingKey). length ks) none.0 in absurd (omega arith))
        | inr key ↦ key
      ]

      below : (n : ℕ) → Contains (g.numbers ++ g.last ∷ []) n → n < x.part
      below n c =
          let (key, there, e) = last_key in
          let r = lower key there in
          elim (Contains-push_cases g.numbers g.last n c) [
            | inl old ↦ (let b = g.below n old in omega arith)
            | inr new ↦ omega arith
          ]

  -- a key of the same part
  pub gathered_on : (some : List RingKey) (polygons : List (List (List SignedArc))) (polygon : List (List SignedArc)) (x : RingKey) → IsGathered some polygons polygon → (some ≡ []) ⊎ ((key : RingKey) × Contains some key × (key.part ≡ x.part)) →
      ((key : RingKey) → Contains some key → key.part ≤ x.part) → IsGathered (some ++ x ∷ []) polygons (polygon ++ path x ∷ [])
  gathered_on some polygons polygon x g same lower = record {
    numbers = g.numbers;
    last = x.part;
    rising = g.rising;
    below = below;
    used = λ n c. let (key, there, e) = g.used n c in (key, Contains-append_left some (x ∷ []) key there, e);
    reached = λ key c. elim (Contains-push_cases some x key c) [
      | inl old ↦ elim (g.reached key old) [
        | inl low ↦ inl low
        | inr high ↦ inr (high ∙ is_last key old)
      ]
      | inr new ↦ inr (sym (ap (λ (k : RingKey). k.part) new))
    ];
    begun = inr (x, Contains-push some x, refl);
    are = g.are ∙ sym (groups_kept g.numbers some x (λ n c e. let b = below n c in absurd (omega arith)));
    is = ap (λ (p : List (List SignedArc)). p ++ path x ∷ []) (g.is ∙ same_group)
        ∙ sym (ap (map path) (one_more some x x.part refl) ∙ map_push path (keys_of_part some x.part) x);
  }
    where
      below : (n : ℕ) → Contains g.numbers n → n < x.part
      below n c = elim g.begun [
        | inl none ↦ Contains-nil n (subst (λ (ns : List ℕ). Contains ns n) none.1 c)
        | inr w ↦ (let r = lower w.0 w.1 in let e = w.2 in let b = g.below n c in omega arith)
      ]

      is_last : (key : RingKey) → Contains some key → g.last ≡ x.part
      is_last key there = elim same [
        | inl none ↦ Contains-nil key (subst (λ (ks : List RingKey). Contains ks key) none there)
        | inr v ↦ elim g.begun [
          | inl none ↦ Contains-nil key (subst (λ (ks : List RingKey). Contains ks key) none.0 there)
          | inr w ↦ (let r = lower w.0 w.1 in let e = w.2 in let f = v.2 in elim (g.reached v.0 v.1) [
            | inl low ↦ (let b = g.below v.0.part low in absurd (omega arith))
            | inr high ↦ omega arith
          ])
        ]
      ]

      same_group : group some g.last ≡ group some x.part
      same_group = elim same [
        | inl none ↦ ap (λ (ks : List RingKey). group ks g.last) none ∙ sym (ap (λ (ks : List RingKey). group ks x.part) none)
        | inr v ↦ ap (group some) (is_last v.0 v.1)
      ]

  group_some : (keys : List RingKey) (key : RingKey) (n : ℕ) → Contains keys key → key.part ≡ n → 0 < length (group keys n)
  group_some keys key n c e = let (k, l, is) = Contains-map path (keys_of_part keys n) key (some_of keys key n c e) in omega arith

module _ (edges : List Edge) (rings : Rings) where
  -- the last polygon is done
  pub gathered_done : (keys : List RingKey) (polygons : List (List (List SignedArc))) (polygon : List (List SignedArc)) → IsGathered (path_along edges rings) keys polygons polygon → 0 < length polygon → AreByPart edges rings keys (polygons ++ polygon ∷ [])
  gathered_done keys polygons polygon g more = record {
    numbers = g.numbers ++ g.last ∷ [];
    rising = rises_more g.numbers g.last g.rising g.below;
    used = λ n c. elim (Contains-push_cases g.numbers g.last n c) [
      | inl old ↦ g.used n old
      | inr new ↦ (let (key, there, e) = last_key in (key, there, e ∙ new))
    ];
    reached = λ key c. elim (g.reached key c) [
      | inl low ↦ Contains-append_left g.numbers (g.last ∷ []) key.part low
      | inr high ↦ subst (λ (n : ℕ). Contains (g.numbers ++ g.last ∷ []) n) (sym high) (Contains-push g.numbers g.last)
    ];
    are = ap (λ (ps : List (List (List SignedArc))). ps ++ polygon ∷ []) g.are
        ∙ ap (λ (p : List (List SignedArc)). map (group (path_along edges rings) keys) g.numbers ++ p ∷ []) g.is
        ∙ sym (map_push (group (path_along edges rings) keys) g.numbers g.last);
  }
    where
      last_key : (key : RingKey) × Contains keys key × (key.part ≡ g.last)
      last_key = elim g.begun [
        | inl none ↦ (let e = ap (λ (p : List (List SignedArc)). length p) (g.is ∙ ap (λ (ks : List RingKey). group (path_along edges rings) ks g.last) none.0) in absurd (omega arith))
        | inr key ↦ key
      ]

  -- there are no rings
  pub gathered_empty : (keys : List RingKey) (polygons : List (List (List SignedArc))) (polygon : List (List SignedArc)) → IsGathered (path_along edges rings) keys polygons polygon → (0 < length polygon → ⊥) → AreByPart edges rings keys polygons
  gathered_empty keys polygons polygon g none = record {
    numbers = g.numbers;
    rising = g.rising;
    used = g.used;
    reached = λ key c. elim (g.reached key c) [
      | inl low ↦ low
      | inr high ↦ absurd (none (let l = group_some (path_along edges rings) keys key g.last c high in let e = ap (λ (p : List (List SignedArc)). length p) g.is in omega arith))
    ];
    are = g.are;
  }

-- Each set of faces has parts.
use Rattle.std.proofs.Common.{◌≡◌, inl, inr, refl, sym, ap, subst, ◌∙◌, arith, ℕ, ◌+◌, ◌<◌, Bool, true, false, cond, ◌&&◌, List, [], ◌∷◌, All, Contains, length, filter, get_or, map, nat_eq, nat_lt}
use Rattle.std.specs.Prelude.{◌↔◌}
use Rattle.std.specs.Cmp.{both_ways}
use Rattle.std.specs.List.Sorted.{IsStrictlyIncreasing}
use Rattle.std.proofs.lemmas.Bool.{eq-eqb, eqb-true, lt-ltb, ltb-true, and_from, and_parts}
use Rattle.std.proofs.lemmas.List.{get_or-map, get_or_default, length-map}
use Rattle.std.proofs.lemmas.List.Elements.{All-head, All-tail, Contains-get_or}
use Rattle.std.proofs.lemmas.List.Kept.{AllPairs-from_increasing, IsStrictlyIncreasing-filter}
use Rattle.lists.specs.Lists.{ascending, has}
use Rattle.lists.proofs.Ascending.{Contains-ascending, ascending-Contains, ascending-IsAscending}
use Rattle.lists.proofs.Members.{Contains-cases, Contains-filter, Contains-map, Contains-nil, filter-Contains, map-Contains}
use Rattle.plane_model.specs.Points.{Path}
use Rattle.plane_model.specs.Arcs.{SignedArc}
use Rattle.plane_faces.specs.Labels.{relabel}
use Rattle.arc_table.proofs.SignedArcs.{Contains-signed_below}
use Rattle.face_walk.specs.Places.{FaceTable, HasArc, IsBuiltOf, face_left_of, signed_below}
use Rattle.face_sets.specs.Boundary.{IsLeastArc, IsOnBoundary, boundary, face_right_of, is_outward}
use Rattle.face_sets.specs.Joined.{AreJoined, AreParts, IsChain}
use Rattle.face_sets.specs.Parts.{IsPieceOf}
use Rattle.face_sets.proofs.BoundaryLemmas.{Contains_has, below_arc, has_Contains, one_place, outward_from, outward_if, same_or_other}
use Rattle.face_sets.proofs.JoinedLemmas.{joined_back, joined_itself, joined_on, joined_over}
use Rattle.face_sets.proofs.SetLemmas.{from_ascending, nat_order, filter_same}
use Rattle.region_laws.specs.Answered.{PartsExist}
use Rattle.region_laws.proofs.Least.{lowest, lowest_least, lowest_there}

-- ---- classes of joined faces

module _ (faces : FaceTable) (set : List ℕ) where
  abbrev left : SignedArc → ℕ
  left a = face_left_of faces.places a

  abbrev right : SignedArc → ℕ
  right a = face_right_of faces.places a

  -- faces of one class are joined
  abbrev IsSound : (ℕ → ℕ) → Type 0
  IsSound cls = (f g : ℕ) → Contains set f → Contains set g → cls f ≡ cls g → AreJoined faces set f g

  module _ (cls : ℕ → ℕ) (sound : IsSound cls) (a : SignedArc) (arc : HasArc faces a) (on_left : Contains set (left a)) (on_right : Contains set (right a)) where
    over : AreJoined faces set (left a) (right a)
    over = joined_over faces set (left a) a (record { arc = arc; from = refl; into = on_right })

    merge_sound : IsSound (λ k. relabel (cls (left a)) (cls (right a)) (cls k))
    merge_sound f g cf cg e = go (nat_eq (cls f) (cls (left a))) refl (nat_eq (cls g) (cls (left a))) refl e
      where
        go : (p : Bool) → nat_eq (cls f) (cls (left a)) ≡ p → (q : Bool) → nat_eq (cls g) (cls (left a)) ≡ q → cond p (cls (right a)) (cls f) ≡ cond q (cls (right a)) (cls g) → AreJoined faces set f g
        go true ep true eq h = joined_on faces set f (left a) g (sound f (left a) cf on_left (eqb-true (cls f) (cls (left a)) ep)) (sound (left a) g on_left cg (sym (eqb-true (cls g) (cls (left a)) eq)))
        go true ep false eq h = joined_on faces set f (left a) g (sound f (left a) cf on_left (eqb-true (cls f) (cls (left a)) ep)) (joined_on faces set (left a) (right a) g over (sound (right a) g on_right cg h))
        go false ep true eq h = joined_on faces set f (right a) g (sound f (right a) cf on_right h) (joined_on faces set (right a) (left a) g (joined_back faces set (left a) (right a) on_left over) (sound (left a) g on_left cg (sym (eqb-true (cls g) (cls (left a)) eq))))
        go false ep false eq h = sound f g cf cg h

  -- the classes after one arc more: it makes one of those at its sides, where both are of the set
  abbrev next : Bool → (ℕ → ℕ) → SignedArc → ℕ → ℕ
  next b cls a k = cond b (relabel (cls (left a)) (cls (right a)) (cls k)) (cls k)

  abbrev is_between : SignedArc → Bool
  is_between a = has nat_eq set (left a) && has nat_eq set (right a)

  abbrev class_of : List SignedArc → ℕ → ℕ
  class_of [] k = k
  class_of (a ∷ rest) k = next (is_between a) (class_of rest) a k

  all_sound : (some : List SignedArc) → All (HasArc faces) some → IsSound (class_of some)
  all_sound [] h = λ f g cf cg e. subst (λ (k : ℕ). AreJoined faces set f k) e (joined_itself faces set f)
  all_sound (a ∷ rest) h = go (is_between a) refl (all_sound rest (All-tail (HasArc faces) a rest h))
    where
      go : (b : Bool) → is_between a ≡ b → IsSound (class_of rest) → IsSound (λ k. next b (class_of rest) a k)
      go true e sound =
          let (l, r) = and_parts (has nat_eq set (left a)) (has nat_eq set (right a)) e in
          merge_sound (class_of rest) sound a (All-head (HasArc faces) a rest h) (has_Contains set (left a) l) (has_Contains set (right a) r)
      go false e sound = sound

  made_one : (m n : ℕ) → relabel m n m ≡ relabel m n n
  made_one m n = ap (λ (b : Bool). cond b n m) (eq-eqb m m refl) ∙ go (nat_eq n m)
    where
      go : (b : Bool) → n ≡ cond b n n
      go true = refl
      go false = refl

  all_joined : (some : List SignedArc) (b : SignedArc) → Contains some b → Contains set (left b) → Contains set (right b) → class_of some (left b) ≡ class_of some (right b)
  all_joined [] b c l r = Contains-nil b c
  all_joined (a ∷ rest) b c l r = elim (Contains-cases a rest b c) [
    | inl e ↦ subst (λ (x : SignedArc). class_of (a ∷ rest) (left x) ≡ class_of (a ∷ rest) (right x)) e (here (subst (λ (x : SignedArc). Contains set (left x)) (sym e) l) (subst (λ (x : SignedArc). Contains set (right x)) (sym e) r))
    | inr more ↦ ap (λ (k : ℕ). cond (is_between a) (relabel (class_of rest (left a)) (class_of rest (right a)) k) k) (all_joined rest b more l r)
  ]
    where
      here : Contains set (left a) → Contains set (right a) → class_of (a ∷ rest) (left a) ≡ class_of (a ∷ rest) (right a)
      here on_left on_right =
          let yes : is_between a ≡ true = and_from (has nat_eq set (left a)) (has nat_eq set (right a)) (Contains_has set (left a) on_left) (Contains_has set (right a) on_right) in
          (λ i. cond (yes i) (relabel (class_of rest (left a)) (class_of rest (right a)) (class_of rest (left a))) (class_of rest (left a)))
          ∙ made_one (class_of rest (left a)) (class_of rest (right a))
          ∙ sym (λ i. cond (yes i) (relabel (class_of rest (left a)) (class_of rest (right a)) (class_of rest (right a))) (class_of rest (right a)))

  chain_joins : (some : List SignedArc) → ((a : SignedArc) → HasArc faces a → Contains some a) → (f g : ℕ) (xs : List SignedArc) → Contains set f → IsChain faces set f xs g → class_of some f ≡ class_of some g
  chain_joins some all f g [] cf e = ap (class_of some) e
  chain_joins some all f g (a ∷ xs) cf (over, rest) =
      let from : left a ≡ f = over.from in
      sym (ap (class_of some) from) ∙ all_joined some a (all a over.arc) (subst (Contains set) (sym from) cf) over.into ∙ chain_joins some all (right a) g xs over.into rest

-- ---- the parts, by the least arcs of their boundaries

module _ (arcs : List Path) (faces : FaceTable) (built : IsBuiltOf arcs faces) (set : List ℕ) (rising : IsStrictlyIncreasing set) where
  abbrev all_arcs : List SignedArc
  all_arcs = signed_below (length arcs)

  has_arc : (a : SignedArc) → a.arc < length arcs → HasArc faces a
  has_arc a l = let many = built.places_counted in omega arith

  of_arcs : All (HasArc faces) all_arcs
  of_arcs i e l = has_arc (get_or all_arcs i e) (below_arc (length arcs) (get_or all_arcs i e) (Contains-get_or all_arcs i e l))

  in_arcs : (a : SignedArc) → HasArc faces a → Contains all_arcs a
  in_arcs a h = Contains-signed_below (length arcs) a (let many = built.places_counted in omega arith)

  pub class : ℕ → ℕ
  class k = class_of faces set all_arcs k

  one_class : (f g : ℕ) → Contains set f → Contains set g → (class f ≡ class g) ↔ AreJoined faces set f g
  unfolding class
  one_class f g cf cg = (λ e. all_sound faces set all_arcs of_arcs f g cf cg e, λ (xs, chain). chain_joins faces set all_arcs in_arcs f g xs cf chain)

  -- the faces of a class
  abbrev members : ℕ → List ℕ
  members c = filter (λ (k : ℕ). nat_eq (class k) c) set

  of_class : (c k : ℕ) → Contains (members c) k → Contains set k × (class k ≡ c)
  of_class c k there = let (in_set, e) = filter-Contains (λ (j : ℕ). nat_eq (class j) c) set k there in (in_set, eqb-true (class k) c e)

  -- ---- the number of a class: that of the least arc of its boundary, or one past those of all arcs

  abbrev round : ℕ → List SignedArc
  round c = boundary faces.places (length arcs) (members c)

  on_round : (c : ℕ) (a : SignedArc) → IsOnBoundary faces (members c) a → Contains (round c) a
  on_round c a on =
      Contains-filter (λ (b : SignedArc). has nat_eq (members c) (face_left_of faces.places b) && is_outward faces.places (members c) b) all_arcs a (in_arcs a on.arc)
      (and_from (has nat_eq (members c) (face_left_of faces.places a)) (is_outward faces.places (members c) a) (Contains_has (members c) (face_left_of faces.places a) on.left) (outward_if faces.places (members c) a on.right))

  round_on : (c : ℕ) (a : SignedArc) → Contains (round c) a → IsOnBoundary faces (members c) a
  round_on c a there =
      let (in_all, passes) = filter-Contains (λ (b : SignedArc). has nat_eq (members c) (face_left_of faces.places b) && is_outward faces.places (members c) b) all_arcs a there in
      let (l, r) = and_parts (has nat_eq (members c) (face_left_of faces.places a)) (is_outward faces.places (members c) a) passes in
      record { arc = has_arc a (below_arc (length arcs) a in_all); left = has_Contains (members c) (face_left_of faces.places a) l; right = outward_from faces.places (members c) a r }

  abbrev arcs_round : ℕ → List ℕ
  arcs_round c = map (λ (a : SignedArc). a.arc) (round c)

  abbrev has_round : ℕ → Bool
  has_round c = nat_lt 0 (length (arcs_round c))

  pub number : ℕ → ℕ
  number c = cond (has_round c) (lowest (arcs_round c)) (length arcs + c)

  of_round : (c : ℕ) → has_round c ≡ true → number c ≡ lowest (arcs_round c)
  unfolding number
  of_round c e = λ i. cond (e i) (lowest (arcs_round c)) (length arcs + c)

  of_none : (c : ℕ) → has_round c ≡ false → number c ≡ length arcs + c
  unfolding number
  of_none c e = λ i. cond (e i) (lowest (arcs_round c)) (length arcs + c)

  least : (c : ℕ) → has_round c ≡ true → IsLeastArc faces (members c) (lowest (arcs_round c))
  least c e =
      let some : 0 < length (arcs_round c) = ltb-true 0 (length (arcs_round c)) e in
      let (b, on_b, is) = map-Contains (λ (a : SignedArc). a.arc) (round c) (lowest (arcs_round c)) (lowest_there (arcs_round c) some) in
      record {
        used = (b, round_on c b on_b, is);
        least = λ a on_a. lowest_least (arcs_round c) a.arc (Contains-map (λ (x : SignedArc). x.arc) (round c) a (on_round c a on_a));
      }

  below_all : (c : ℕ) → has_round c ≡ true → lowest (arcs_round c) < length arcs
  below_all c e = let (b, on_b, is) = (least c e).used in let arc = on_b.arc in let many = built.places_counted in omega arith

  bounded_joins : (f g : ℕ) → has_round (class f) ≡ true → has_round (class g) ≡ true → lowest (arcs_round (class f)) ≡ lowest (arcs_round (class g)) → class f ≡ class g
  bounded_joins f g ef eg e =
      let (a, on_a, is_a) = (least (class f) ef).used in
      let (b, on_b, is_b) = (least (class g) eg).used in
      let (a_in, a_of) = of_class (class f) (face_left_of faces.places a) on_a.left in
      let (b_in, b_of) = of_class (class g) (face_left_of faces.places b) on_b.left in
      elim (same_or_other a b (is_a ∙ e ∙ sym is_b)) [
        | inl same ↦ sym a_of ∙ ap (λ (c : SignedArc). class (face_left_of faces.places c)) same ∙ b_of
        | inr other ↦ (
            let across : face_left_of faces.places a ≡ face_right_of faces.places b = ap (face_left_of faces.places) other in
            let into : Contains set (face_right_of faces.places b) = subst (Contains set) across a_in in
            let joined : AreJoined faces set (face_left_of faces.places b) (face_right_of faces.places b) = joined_over faces set (face_left_of faces.places b) b (record { arc = on_b.arc; from = refl; into = into }) in
            let one = (one_class (face_left_of faces.places b) (face_right_of faces.places b) b_in into).1 joined in
            sym a_of ∙ ap class across ∙ sym one ∙ b_of)
      ]

  -- a number is that of one class
  number_joins : (f g : ℕ) → number (class f) ≡ number (class g) → class f ≡ class g
  number_joins f g e = go (has_round (class f)) refl (has_round (class g)) refl
    where
      go : (x : Bool) → has_round (class f) ≡ x → (y : Bool) → has_round (class g) ≡ y → class f ≡ class g
      go true ef true eg = bounded_joins f g ef eg (sym (of_round (class f) ef) ∙ e ∙ of_round (class g) eg)
      go true ef false eg = absurd (let l = below_all (class f) ef in let p = of_round (class f) ef in let q = of_none (class g) eg in omega arith)
      go false ef true eg = absurd (let l = below_all (class g) eg in let p = of_none (class f) ef in let q = of_round (class g) eg in omega arith)
      go false ef false eg = let p = of_none (class f) ef in let q = of_none (class g) eg in omega arith

  -- ---- the parts

  abbrev key : ℕ → ℕ
  key k = number (class k)

  abbrev keys : List ℕ
  keys = ascending nat_lt (map key set)

  abbrev part_with : ℕ → List ℕ
  part_with n = filter (λ (k : ℕ). nat_eq (key k) n) set

  abbrev pub all_parts : List (List ℕ)
  all_parts = map part_with keys

  keys_rise : IsStrictlyIncreasing keys
  keys_rise = from_ascending keys (ascending-IsAscending nat_lt nat_order (map key set))

  apart : (i j : ℕ) → i < length keys → j < length keys → get_or keys i 0 ≡ get_or keys j 0 → i ≡ j
  apart i j li lj e = one_place keys i j keys_rise li lj e

  part_is : (i : ℕ) → i < length all_parts → get_or all_parts i [] ≡ part_with (get_or keys i 0)
  part_is i l = let many = length-map keys part_with in get_or-map part_with keys i 0 [] (omega arith)

  in_part : (i k : ℕ) → i < length all_parts → Contains (get_or all_parts i []) k → Contains set k × (key k ≡ get_or keys i 0)
  in_part i k l c =
      let (in_set, e) = filter-Contains (λ (j : ℕ). nat_eq (key j) (get_or keys i 0)) set k (subst (λ (xs : List ℕ). Contains xs k) (part_is i l) c) in
      (in_set, eqb-true (key k) (get_or keys i 0) e)

  its_part : (k : ℕ) → Contains set k → (i : ℕ) × (i < length all_parts) × Contains (get_or all_parts i []) k
  its_part k c =
      let (i, below, is) = Contains-ascending nat_lt nat_order (map key set) (key k) (Contains-map key set k c) in
      let many = length-map keys part_with in
      let l : i < length all_parts = omega arith in
      let at : key k ≡ get_or keys i 0 = sym is ∙ get_or_default keys i (key k) 0 below in
      (i, l, subst (λ (xs : List ℕ). Contains xs k) (sym (part_is i l)) (Contains-filter (λ (j : ℕ). nat_eq (key j) (get_or keys i 0)) set k c (eq-eqb (key k) (get_or keys i 0) at)))

  some_of : (i : ℕ) → i < length all_parts → (k : ℕ) × Contains (get_or all_parts i []) k
  some_of i l =
      let many = length-map keys part_with in
      let (k, c, is) = map-Contains key set (get_or keys i 0) (ascending-Contains nat_lt nat_order (map key set) (get_or keys i 0) (Contains-get_or keys i 0 (omega arith))) in
      (k, subst (λ (xs : List ℕ). Contains xs k) (sym (part_is i l)) (Contains-filter (λ (j : ℕ). nat_eq (key j) (get_or keys i 0)) set k c (eq-eqb (key k) (get_or keys i 0) is)))

  same_place : (i j f g : ℕ) → i < length all_parts → j < length all_parts → Contains (get_or all_parts i []) f → Contains (get_or all_parts j []) g → (i ≡ j) ↔ AreJoined faces set f g
  same_place i j f g li lj cf cg =
      let (f_in, f_key) = in_part i f li cf in
      let (g_in, g_key) = in_part j g lj cg in
      let many = length-map keys part_with in (
        λ e. (one_class f g f_in g_in).0 (number_joins f g (f_key ∙ ap (λ (n : ℕ). get_or keys n 0) e ∙ sym g_key)),
        λ joined. apart i j (omega arith) (omega arith) (sym f_key ∙ ap number ((one_class f g f_in g_in).1 joined) ∙ g_key),
      )

  -- the part of a face is its class
  part_class : (i k : ℕ) → i < length all_parts → Contains (get_or all_parts i []) k → get_or all_parts i [] ≡ members (class k)
  part_class i k l c =
      let (k_in, k_key) = in_part i k l c in
      part_is i l ∙ filter_same (λ (j : ℕ). nat_eq (key j) (get_or keys i 0)) (λ (j : ℕ). nat_eq (class j) (class k)) set (λ j cj.
      both_ways (nat_eq (key j) (get_or keys i 0)) (nat_eq (class j) (class k))
      (λ e. eq-eqb (class j) (class k) (number_joins j k (eqb-true (key j) (get_or keys i 0) e ∙ sym k_key)))
      (λ e. eq-eqb (key j) (get_or keys i 0) (ap number (eqb-true (class j) (class k) e) ∙ k_key)))

  least_key : (i m : ℕ) → i < length all_parts → IsLeastArc faces (get_or all_parts i []) m → m ≡ get_or keys i 0
  least_key i m l h =
      let (k, c) = some_of i l in
      let (k_in, k_key) = in_part i k l c in
      let own : IsLeastArc faces (members (class k)) m = subst (λ (xs : List ℕ). IsLeastArc faces xs m) (part_class i k l c) h in
      let (a, on_a, is_a) = own.used in
      let there : Contains (arcs_round (class k)) a.arc = Contains-map (λ (x : SignedArc). x.arc) (round (class k)) a (on_round (class k) a on_a) in
      let bound : has_round (class k) ≡ true = lt-ltb 0 (length (arcs_round (class k))) (let l = there.1 in omega arith) in
      let low = least (class k) bound in
      let (b, on_b, is_b) = low.used in
      let up = own.least b on_b in
      let down = low.least a on_a in
      let is_number = of_round (class k) bound in
      let same : m ≡ number (class k) = omega arith in
      same ∙ k_key

  pub are_parts : AreParts faces set all_parts
  are_parts = record {
    divided = record {
      faces = λ i e l. subst (IsPieceOf set) (get_or_default all_parts i [] e l) (record { faces = λ j x m. (in_part i (get_or (get_or all_parts i []) j x) l (Contains-get_or (get_or all_parts i []) j x m)).0 });
      some = λ i l e. (let (k, c) = some_of i l in Contains-nil k (subst (λ (xs : List ℕ). Contains xs k) e c));
      each = its_part;
      once = λ i j k li lj ci cj. (
          let many = length-map keys part_with in
          apart i j (omega arith) (omega arith) (sym (in_part i k li ci).1 ∙ (in_part j k lj cj).1));
    };
    ascending = λ i e l. subst IsStrictlyIncreasing (sym (part_is i l) ∙ get_or_default all_parts i [] e l) (IsStrictlyIncreasing-filter (λ (k : ℕ). nat_eq (key k) (get_or keys i 0)) set rising);
    joined = same_place;
    in_order = λ i j m n less l hm hn. (
        let many = length-map keys part_with in
        let is_m = least_key i m (omega arith) hm in
        let is_n = least_key j n l hn in
        let up : get_or keys i 0 < get_or keys j 0 = AllPairs-from_increasing keys keys_rise i j 0 less (omega arith) in
        omega arith);
  }

pub parts_exist : PartsExist
parts_exist arcs faces built set rising = (all_parts arcs faces built set rising, are_parts arcs faces built set rising)

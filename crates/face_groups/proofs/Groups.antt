-- What holds of the groups that are made of the sets of keys, and of the items of the groups.
use Rattle.std.proofs.Common.{◌≡◌, refl, sym, ap, ◌∙◌, subst, inl, inr, arith, ℕ, zero, suc, ◌+◌, ◌<◌, Bool, true, cond, nat_eq, nat_lt, List, [], ◌∷◌, ◌++◌, length, get_or, take, map, filter, All, AllPairs, Contains, append-nil}
use Rattle.std.specs.List.{flat_map, range_with_len}
use Rattle.std.proofs.lemmas.Bool.{cases_Bool, cases_lt}
use Rattle.std.proofs.lemmas.Simd.{map-map}
use Rattle.std.proofs.lemmas.Grind.{flat_map-append}
use Rattle.std.proofs.lemmas.List.{take_more, get_or_append_left, get_or-map, get_or_push, get_or_default, length-map, length_push, map-append}
use Rattle.std.proofs.lemmas.List.Elements.{All-contains, All-head, All-tail, Contains-get_or}
use Rattle.std.proofs.lemmas.List.Kept.{IsStrictlyIncreasing-filter}
use Rattle.lists.specs.Lists.{has, numbers_from}
use Rattle.lists.proofs.Ascending.{IsStrictOrder, one_ascending}
use Rattle.lists.proofs.Members.{Contains-head, Contains-later, Contains-filter, filter-Contains, flat_map-Contains, map-Contains}
use Rattle.face_walk.specs.Places.{FaceTable}
use Rattle.face_sets.specs.Joined.{AreParts}
use Rattle.face_sets.specs.Sets.{IsInnerFace, IsSetOf}
use Rattle.face_sets.proofs.BoundaryLemmas.{has_Contains}
use Rattle.face_sets.proofs.GapLemmas.{range_rises, in_range, of_range}
use Rattle.face_sets.proofs.SetLemmas.{nat_order, to_ascending}
use Rattle.face_groups.specs.Groups.{AreGroupsOf, AreKeySets, IsGroupOf, IsKeySet, IsKeyed}
use Rattle.face_groups.specs.Pieces.{ArePieces, Group as FirstGroup, pieces_of}
use Rattle.face_groups.specs.declared.pieces.Piece.{Piece}

pub inner_of : (faces : FaceTable) (keyed : ℕ → Bool) (before : ℕ → ℕ → Bool) (set : List ℕ) → IsKeySet (IsKeyed faces keyed) before set → IsSetOf faces set
inner_of faces keyed before set h i d l = (h.of_them (get_or set i d) (Contains-get_or set i d l)).inner

pub key_set_at : (P : ℕ → Type 0) (before : ℕ → ℕ → Bool) (sets listed : List (List ℕ)) (i : ℕ) (set : List ℕ) → AreKeySets P before sets → listed ≡ sets → i < length listed → set ≡ get_or listed i set → IsKeySet P before set
key_set_at P before sets listed i set h same l is = subst (IsKeySet P before) (sym is) (subst (λ (xs : List (List ℕ)). All (IsKeySet P before) xs) (sym same) h.each i set l)

-- a face that some set has is an inner one
pub held_inside : (t : FaceTable) (k n : ℕ) (sets : List (List ℕ)) → All (IsSetOf t) sets → (numbers_from n (λ (set : List ℕ). has nat_eq set k) sets ≡ [] → ⊥) → IsInnerFace t k
held_inside t k n [] h some = absurd (some refl)
held_inside t k n (set ∷ sets) h some = elim (cases_Bool (has nat_eq set k)) [
  | inl found ↦ All-contains (IsInnerFace t) set k (All-head (IsSetOf t) set sets h) (has_Contains set k found)
  | inr missed ↦ held_inside t k (n + 1) sets (All-tail (IsSetOf t) set sets h) (λ e. some
      (ap (λ (b : Bool). cond b (n ∷ numbers_from (n + 1) (λ (s : List ℕ). has nat_eq s k) sets) (numbers_from (n + 1) (λ (s : List ℕ). has nat_eq s k) sets)) missed ∙ e))
]

-- ---- groups made one by one

module _ {Key Group Item : Type 0} (faces : FaceTable) (key_of : ℕ → Key) (key : Group → Key) (parts : Group → List (List ℕ)) (items_of : Group → List Item) where
  pub groups_none : AreGroupsOf faces key_of key parts items_of [] []
  groups_none = record { groups = []; count = refl; each = λ i d e l. absurd (omega arith); listed = refl }

  -- a group more
  pub groups_more : (sets : List (List ℕ)) (n : ℕ) (d set : List ℕ) (g : Group) (old new : List Item) → n < length sets → set ≡ get_or sets n d → IsGroupOf faces key_of key parts set g → new ≡ old ++ items_of g →
      AreGroupsOf faces key_of key parts items_of (take n sets) old → AreGroupsOf faces key_of key parts items_of (take (n + 1) sets) new
  groups_more sets n d set g old new l is of listed h =
      let some = take n sets in
      let Of : List ℕ → Group → Type 0 = IsGroupOf faces key_of key parts in
      subst (λ (xs : List (List ℕ)). AreGroupsOf faces key_of key parts items_of xs new) (ap (λ (s : List ℕ). some ++ s ∷ []) is ∙ sym (take_more sets n d l)) (record {
        groups = h.groups ++ g ∷ [];
        count = length_push h.groups g ∙ ap (λ (m : ℕ). m + 1) h.count ∙ sym (length_push some set);
        each = λ i e f m. (let count = h.count in let longer = length_push some set in elim (cases_lt i (length some)) [
          | inl less ↦ subst (λ (s : List ℕ). Of s (get_or (h.groups ++ g ∷ []) i f)) (sym (get_or_append_left some (set ∷ []) e i less))
              (subst (Of (get_or some i e)) (sym (get_or_append_left h.groups (g ∷ []) f i (omega arith))) (h.each i e f less))
          | inr more ↦
              (let at : length some ≡ i = omega arith in
              subst (λ (s : List ℕ). Of s (get_or (h.groups ++ g ∷ []) i f)) (sym (get_or_push some set e i at))
              (subst (Of set) (sym (get_or_push h.groups g f i (omega arith))) of))
        ]);
        listed = listed ∙ ap (λ (items : List Item). items ++ items_of g) h.listed
            ∙ ap (λ (items : List Item). flat_map items_of h.groups ++ items) (sym (append-nil (items_of g)))
            ∙ sym (flat_map-append items_of h.groups (g ∷ []));
      })

element_at : {A : Type 0} (xs : List A) (i : ℕ) → i < length xs → (x : A) × Contains xs x × ((d : A) → get_or xs i d ≡ x)
element_at [] i l = absurd (omega arith)
element_at (x ∷ xs) zero l = (x, Contains-head x xs, λ d. refl)
element_at (x ∷ xs) (suc i) l = let (y, c, is) = element_at xs i (omega arith) in (y, Contains-later x xs y c, is)

-- groups with any keys, and items with them, of the pieces of sets
module _ {Key Group Item : Type 0} (faces : FaceTable) (key_of : ℕ → Key) (key : Group → Key) (parts : Group → List (List ℕ)) (item : Key → List ℕ → Item) (group : Key → List (List ℕ) → Group)
    (key_is : (k : Key) (ps : List (List ℕ)) → key (group k ps) ≡ k) (parts_are : (k : Key) (ps : List (List ℕ)) → parts (group k ps) ≡ ps) where
  abbrev with_key : FirstGroup → Group
  with_key g = group (key_of g.face) g.parts

  abbrev one_item : Piece → Item
  one_item p = item (key_of p.face) p.set

  abbrev group_items : Group → List Item
  group_items g = map (item (key g)) (parts g)

  items_are : (gs : List FirstGroup) → map one_item (flat_map (λ (g : FirstGroup). pieces_of g.face g.parts) gs) ≡ flat_map group_items (map with_key gs)
  items_are [] = refl
  items_are (g ∷ gs) =
      let pieces = pieces_of g.face g.parts in
      let one : map one_item pieces ≡ group_items (with_key g) =
      map-map one_item (λ (part : List ℕ). record { face = g.face; set = part }) g.parts
      ∙ sym (ap (λ (k : Key). map (item k) (parts (with_key g))) (key_is (key_of g.face) g.parts) ∙ ap (map (item (key_of g.face))) (parts_are (key_of g.face) g.parts)) in
      map-append one_item pieces (flat_map (λ (h : FirstGroup). pieces_of h.face h.parts) gs)
      ∙ ap (λ (xs : List Item). xs ++ map one_item (flat_map (λ (h : FirstGroup). pieces_of h.face h.parts) gs)) one
      ∙ ap (λ (xs : List Item). group_items (with_key g) ++ xs) (items_are gs)

  pub groups_made : (sets : List (List ℕ)) (pieces : List Piece) → ArePieces faces sets pieces → (items : List Item) → items ≡ map one_item pieces → AreGroupsOf faces key_of key parts group_items sets items
  groups_made sets pieces h items listed = record {
    groups = map with_key h.groups;
    count = length-map h.groups with_key ∙ h.count;
    each = λ i d e l.
        (let count = h.count in
        let (first, c, at) = element_at h.groups i (omega arith) in
        let of = h.each i d first l in
        let is : get_or (map with_key h.groups) i e ≡ with_key first = get_or-map with_key h.groups i first e (omega arith) ∙ ap with_key (at first) in
        subst (IsGroupOf faces key_of key parts (get_or sets i d)) (sym is) (record {
          key_is = key_is (key_of first.face) first.parts ∙ ap key_of (sym (ap (λ (g : FirstGroup). g.face) (at first)) ∙ of.key_is);
          are = subst (AreParts faces (get_or sets i d)) (ap (λ (g : FirstGroup). g.parts) (at first) ∙ sym (parts_are (key_of first.face) first.parts)) of.are;
        }));
    listed = listed ∙ ap (map one_item) h.listed ∙ items_are h.groups;
  }

-- ---- the groups of all keys

-- Groups in the order of their keys, one for each key that some face has, with the parts of the faces that have it.
pub record AreKeyGroups {Key Group : Type 0} (faces : FaceTable) (keyed : ℕ → Bool) (key_of : ℕ → Key) (key_before : Key → Key → Bool) (key : Group → Key) (parts : Group → List (List ℕ)) (groups : List Group) : Type 0 where
  pub in_order : AllPairs (λ (g h : Group). key_before (key g) (key h) ≡ true) groups
  pub used : (g : Group) → Contains groups g → (k : ℕ) × IsKeyed faces keyed k × (key_of k ≡ key g)
  pub reached : (k : ℕ) → IsKeyed faces keyed k → (g : Group) × Contains groups g × (key g ≡ key_of k)
  pub parts_are : (g : Group) → Contains groups g → (test : ℕ → Bool) → ((k : ℕ) → k < faces.count → test k ≡ true → IsKeyed faces keyed k × (key_of k ≡ key g)) →
      ((k : ℕ) → IsKeyed faces keyed k → key_of k ≡ key g → test k ≡ true) → AreParts faces (filter test (range_with_len 0 faces.count)) (parts g)

module _ {Key Group Item : Type 0} (faces : FaceTable) (keyed : ℕ → Bool) (key_of : ℕ → Key) (key_before : Key → Key → Bool) (order : IsStrictOrder key_before) (key : Group → Key) (parts : Group → List (List ℕ)) (items_of : Group → List Item)
    (sets : List (List ℕ)) (items : List Item) (h : AreKeySets (IsKeyed faces keyed) (λ (j k : ℕ). key_before (key_of j) (key_of k)) sets) (made : AreGroupsOf faces key_of key parts items_of sets items) where
  abbrev IsOne : List ℕ → Type 0
  IsOne = IsKeySet (IsKeyed faces keyed) (λ (j k : ℕ). key_before (key_of j) (key_of k))

  one_at : (set : List ℕ) → Contains sets set → IsOne set
  one_at set c = All-contains IsOne sets set h.each c

  first_in : (set : List ℕ) → IsOne set → Contains set (get_or set 0 0)
  first_in set one = Contains-get_or set 0 0 one.some

  group_at : (g : Group) → Contains made.groups g → (set : List ℕ) × Contains sets set × IsGroupOf faces key_of key parts set g
  group_at g (i, l, is) =
      let e = made.count in
      let n : i < length sets = omega arith in
      (get_or sets i [], Contains-get_or sets i [] n, subst (IsGroupOf faces key_of key parts (get_or sets i [])) is (made.each i [] g n))

  alike : (set : List ℕ) → IsOne set → (k : ℕ) → Contains set k → key_of k ≡ key_of (get_or set 0 0)
  alike set one k c = order.total (key_of k) (key_of (get_or set 0 0)) (one.tied k (get_or set 0 0) c (first_in set one)) (one.tied (get_or set 0 0) k (first_in set one) c)

  -- a face with the key of a set is in it
  whole : (set : List ℕ) → Contains sets set → (k : ℕ) → IsKeyed faces keyed k → key_of k ≡ key_of (get_or set 0 0) → Contains set k
  whole set (i, l, is) k p same =
      let (other, (j, m, at), d) = h.all k p in
      let first = get_or set 0 0 in
      let set_is : get_or sets i [] ≡ set = get_or_default sets i [] set l ∙ is in
      let other_is : get_or sets j [] ≡ other = get_or_default sets j [] other m ∙ at in
      let here : Contains (get_or sets j []) k = subst (λ (s : List ℕ). Contains s k) (sym other_is) d in
      let there : Contains (get_or sets i []) first = subst (λ (s : List ℕ). Contains s first) (sym set_is) (first_in set (one_at set (i, l, is))) in
      elim (cases_lt j i) [
        | inl less ↦ absurd (order.irreflexive (key_of k) (subst (λ (x : Key). key_before (key_of k) x ≡ true) (sym same) (h.in_order j i [] less l k first here there)))
        | inr far ↦ elim (cases_lt i j) [
          | inl less ↦ absurd (order.irreflexive (key_of k) (subst (λ (x : Key). key_before x (key_of k) ≡ true) (sym same) (h.in_order i j [] less m first k there here)))
          | inr near ↦ (let e : j ≡ i = omega arith in subst (λ (s : List ℕ). Contains s k) (ap (λ (n : ℕ). get_or sets n []) e ∙ set_is) here)
        ]
      ]

  pub key_groups : AreKeyGroups faces keyed key_of key_before key parts made.groups
  key_groups = record {
    in_order = λ i j d less l.
        (let e = made.count in
        let m : i < length sets = omega arith in
        let n : j < length sets = omega arith in
        let a = get_or sets i [] in
        let b = get_or sets j [] in
        let before : key_before (key_of (get_or a 0 0)) (key_of (get_or b 0 0)) ≡ true = h.in_order i j [] less n (get_or a 0 0) (get_or b 0 0) (first_in a (h.each i [] m)) (first_in b (h.each j [] n)) in
        subst (λ (x : Key). key_before x (key (get_or made.groups j d)) ≡ true) (sym (made.each i [] d m).key_is)
        (subst (λ (y : Key). key_before (key_of (get_or a 0 0)) y ≡ true) (sym (made.each j [] d n).key_is) before));
    used = λ g c.
        (let (set, there, of) = group_at g c in
        let one = one_at set there in
        (get_or set 0 0, one.of_them (get_or set 0 0) (first_in set one), sym of.key_is));
    reached = λ k p.
        (let (set, (i, l, is), d) = h.all k p in
        let (g, c, at) = element_at made.groups i (let e = made.count in omega arith) in
        let of = subst (λ (s : List ℕ). IsGroupOf faces key_of key parts s (get_or made.groups i g)) is (made.each i set g l) in
        (g, c, sym (ap key (at g)) ∙ of.key_is ∙ sym (alike set (one_at set (i, l, is)) k d)));
    parts_are = λ g c test inside complete.
        (let (set, there, of) = group_at g c in
        let one = one_at set there in
        let passed = filter test (range_with_len 0 faces.count) in
        let same : set ≡ passed = one_ascending nat_lt nat_order set passed (to_ascending set one.ascending)
        (to_ascending passed (IsStrictlyIncreasing-filter test (range_with_len 0 faces.count) (range_rises faces.count)))
        (λ k d. let p = one.of_them k d in
        Contains-filter test (range_with_len 0 faces.count) k (in_range faces.count k p.inner.there) (complete k p (alike set one k d ∙ sym of.key_is)))
        (λ k d. let e = filter-Contains test (range_with_len 0 faces.count) k d in
        let p = inside k (of_range faces.count k e.0) e.1 in
        whole set there k p.0 (p.1 ∙ of.key_is)) in
        subst (λ (s : List ℕ). AreParts faces s (parts g)) same of.are);
  }

-- ---- items of the parts of groups

-- the faces of a part are some of the set
pub part_inside : (faces : FaceTable) (set : List ℕ) (parts : List (List ℕ)) (part : List ℕ) (k : ℕ) → AreParts faces set parts → Contains parts part → Contains part k → Contains set k
part_inside faces set parts part k h c d =
    All-contains (Contains set) part k (All-contains (λ (p : List ℕ). All (Contains set) p) parts part (λ j e m. (h.divided.faces j e m).faces) c) d

pub each_item : {Group Item : Type 0} (parts : Group → List (List ℕ)) (item : Group → List ℕ → Item) (Q : Item → Type 0) (groups : List Group) →
    ((g : Group) → Contains groups g → (part : List ℕ) → Contains (parts g) part → Q (item g part)) → All Q (flat_map (λ (g : Group). map (item g) (parts g)) groups)
each_item {Group} {Item} parts item Q groups h k d l =
    let items = flat_map (λ (g : Group). map (item g) (parts g)) groups in
    let (g, there, c) = flat_map-Contains (λ (a : Group). map (item a) (parts a)) groups (get_or items k d) (Contains-get_or items k d l) in
    let (part, in_group, is) = map-Contains (item g) (parts g) (get_or items k d) c in
    subst Q is (h g there part in_group)

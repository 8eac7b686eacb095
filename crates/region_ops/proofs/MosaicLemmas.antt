-- The mosaic by the sets themselves, and its pieces one by one.
use Rattle.std.proofs.Common.{◌≡◌, refl, ◌∙◌, sym, ap, subst, true≢false, arith, ℕ, ◌<◌, true, not, nat_eq, List, [], ◌∷◌, All, Contains, length, get_or, map}
use Rattle.std.specs.Prelude.{◌==◌}
use Rattle.std.specs.List.{range_with_len}
use Rattle.std.specs.Ordering.{nat_cmp, is_lt}
use Rattle.std.specs.Cmp.Lexicographic.{slice_cmp}
use Rattle.std.proofs.lemmas.Bool.{ne_eqb}
use Rattle.std.proofs.lemmas.List.Elements.{All-weaker, All-from_get_or, Contains-get_or}
use Rattle.lists.specs.Lists.{same_list}
use Rattle.lists.proofs.Members.{filter-Contains}
use Rattle.face_walk.specs.Holders.{list_at}
use Rattle.face_walk.specs.Places.{FaceTable}
use Rattle.face_sets.specs.Owners.{AreOwners, owners_of}
use Rattle.face_sets.specs.Sets.{IsInnerFace, IsSetOf}
use Rattle.face_sets.proofs.SetLemmas.{same_from_test, test_from_same}
use Rattle.face_groups.specs.Groups.{AreGroupsOf, IsKeyed}
use Rattle.face_groups.specs.Keys.{is_owned, owned_before}
use Rattle.face_groups.specs.Pieces.{AreKeyPieces}
use Rattle.face_groups.specs.declared.pieces.Piece.{Piece}
use Rattle.face_groups.proofs.Groups.{AreKeyGroups, each_item, groups_made, held_inside, key_groups, part_inside}
use Rattle.region_ops.specs.declared.item_lists.MosaicItem.{MosaicItem}
use Rattle.region_ops.specs.Items.{IsPiece}
use Rattle.region_ops.specs.Mosaic.{Group, faces_of, item_of, items_of, IsMosaic, IsShared}
use Rattle.region_ops.proofs.ListOrder.{before_is_less, less_order}

not_empty : (xs : List ℕ) → not (length xs == 0) ≡ true → xs ≡ [] → ⊥
not_empty xs e none = true≢false (sym e ∙ ap (λ (ys : List ℕ). not (length ys == 0)) none)

some_list : (xs : List ℕ) → (xs ≡ [] → ⊥) → not (length xs == 0) ≡ true
some_list [] some = absurd (some refl)
some_list (x ∷ xs) some = ap not (ne_eqb (length (x ∷ xs)) 0 (λ e. omega arith))

module _ (t : FaceTable) (sets owners : List (List ℕ)) (are : AreOwners sets t.count owners) (sets_inner : All (IsSetOf t) sets) (pieces : List Piece) (made : AreKeyPieces t (is_owned owners) (owned_before owners) pieces) (items : List MosaicItem) (listed : items ≡ map (item_of owners) pieces) where
  keyed : (k : ℕ) → k < t.count → (owners_of sets k ≡ [] → ⊥) → IsKeyed t (is_owned owners) k
  keyed k l some = record { inner = held_inside t k 0 sets sets_inner some; has_key = some_list (list_at owners k) (λ e. some (sym (are.exact k l) ∙ e)) }

  all : AreGroupsOf t (list_at owners) (λ (g : Group). g.ids) (λ (g : Group). g.parts) (λ (g : Group). items_of g.ids g.parts) made.sets items
  all =
      let one : List ℕ → List ℕ → MosaicItem = λ (ids : List ℕ) (part : List ℕ). record { ids = ids; set = part } in
      groups_made t (list_at owners) (λ (g : Group). g.ids) (λ (g : Group). g.parts) one (λ (ids : List ℕ) (parts : List (List ℕ)). record { ids = ids; parts = parts })
      (λ ids parts. refl) (λ ids parts. refl) made.sets pieces made.are items listed

  groups : AreKeyGroups t (is_owned owners) (list_at owners) (λ (xs ys : List ℕ). is_lt (slice_cmp nat_cmp xs ys)) (λ (g : Group). g.ids) (λ (g : Group). g.parts) all.groups
  groups = key_groups t (is_owned owners) (list_at owners) (λ (xs ys : List ℕ). is_lt (slice_cmp nat_cmp xs ys)) less_order (λ (g : Group). g.ids) (λ (g : Group). g.parts) (λ (g : Group). items_of g.ids g.parts) made.sets items made.by_key all

  some : (g : Group) → Contains all.groups g → g.ids ≡ [] → ⊥
  some g c e = let (k, p, is) = groups.used g c in not_empty (list_at owners k) p.has_key (is ∙ e)

  pub is_mosaic : IsMosaic t sets items
  is_mosaic = record {
    groups = all.groups;
    in_order = λ i j d less l. sym (before_is_less (get_or all.groups i d).ids (get_or all.groups j d).ids) ∙ groups.in_order i j d less l;
    some = some;
    used = λ g c. let (k, p, is) = groups.used g c in (k, p.inner.there, sym (are.exact k p.inner.there) ∙ is);
    all = λ k l nonempty. let (g, c, is) = groups.reached k (keyed k l nonempty) in (g, c, is ∙ are.exact k l);
    parts = λ g c. groups.parts_are g c (λ (k : ℕ). same_list nat_eq (owners_of sets k) g.ids)
        (λ k l e. let is = same_from_test (owners_of sets k) g.ids e in (keyed k l (λ none. some g c (sym is ∙ none)), are.exact k l ∙ is))
        (λ k p is. test_from_same (owners_of sets k) g.ids (sym (are.exact k p.inner.there) ∙ is));
    listed = all.listed;
  }

-- ---- piece by piece

module _ (t : FaceTable) (sets : List (List ℕ)) (sets_inner : All (IsSetOf t) sets) (items : List MosaicItem) (u : IsMosaic t sets items) where
  alike : (g : Group) → Contains u.groups g → (part : List ℕ) → Contains g.parts part → All (λ k. owners_of sets k ≡ g.ids) part
  alike g c part d = All-from_get_or (λ k. owners_of sets k ≡ g.ids) part 0 (λ j m.
      let k = get_or part j 0 in
      same_from_test (owners_of sets k) g.ids
      (filter-Contains (λ (i : ℕ). same_list nat_eq (owners_of sets i) g.ids) (range_with_len 0 t.count) k
      (part_inside t (faces_of sets t.count g.ids) g.parts part k (u.parts g c) d (Contains-get_or part j 0 m))).1)

  pub each_shared : All (IsShared sets) items
  each_shared = subst (All (IsShared sets)) (sym u.listed)
      (each_item (λ (g : Group). g.parts) (λ (g : Group) (part : List ℕ). record { ids = g.ids; set = part }) (IsShared sets) u.groups (λ g c part d. record { owners = alike g c part d; some = u.some g c }))

  pub each_inner : All (IsPiece t) items
  each_inner = subst (All (IsPiece t)) (sym u.listed)
      (each_item (λ (g : Group). g.parts) (λ (g : Group) (part : List ℕ). record { ids = g.ids; set = part }) (IsPiece t) u.groups
      (λ g c part d. record { inner = All-weaker (λ k. owners_of sets k ≡ g.ids) (IsInnerFace t) (λ k is. held_inside t k 0 sets sets_inner (λ e. u.some g c (sym is ∙ e))) part (alike g c part d) }))

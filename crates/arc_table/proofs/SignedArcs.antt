-- The signed arcs of a table, each once.
use Rattle.std.proofs.Common.{◌≡◌, ◌⊎◌, inl, inr, refl, sym, ap, ◌∙◌, subst, arith, ℕ, zero, suc, ◌<◌, ◌≤◌, Bool, true, false, not, ◌&&◌, List, [], ◌∷◌, ◌++◌, All, AllPairs, Contains, append_assoc}
use Rattle.std.specs.Prelude.{◌≢◌, nat_eq}
use Rattle.std.specs.Bool.{Decides}
use Rattle.std.specs.List.Sorted.{IsPermutation}
use Rattle.std.proofs.lemmas.Bool.{cases_lt, eqb-true, eq-eqb, and_parts, and_from}
use Rattle.std.proofs.lemmas.List.Elements.{All-cons, All-nil, All-append, Contains-append_left, Contains-append_right}
use Rattle.std.proofs.lemmas.List.Quantifiers.{all_pairs_push}
use Rattle.std.proofs.lemmas.Map.Keys.{IsDistinct-IsPermutation}
use Rattle.std.proofs.lemmas.Map.Made.{AllPairs-from_IsDistinct, IsDistinct-from_AllPairs}
use Rattle.plane_model.specs.Arcs.{SignedArc, forward, backward}
use Rattle.arc_table.specs.Around.{signed_below}

pub all_below : (n m : ℕ) → n ≤ m → All (λ (a : SignedArc). a.arc < m) (signed_below n)
all_below zero m l = All-nil (λ (a : SignedArc). a.arc < m)
all_below (suc n) m l =
    let P : SignedArc → Type 0 = λ a. a.arc < m in
    All-append P (signed_below n) (forward n ∷ backward n ∷ []) (all_below n m (omega arith))
    (All-cons P (forward n) (backward n ∷ []) (omega arith) (All-cons P (backward n) [] (omega arith) (All-nil P)))

pub Contains-signed_below : (n : ℕ) (a : SignedArc) → a.arc < n → Contains (signed_below n) a
Contains-signed_below zero a l = absurd (omega arith)
Contains-signed_below (suc n) a l = elim (earlier_or_last a.arc n l) [
  | inl h ↦ Contains-append_left (signed_below n) (forward n ∷ backward n ∷ []) a (Contains-signed_below n a h)
  | inr e ↦ Contains-append_right (signed_below n) (forward n ∷ backward n ∷ []) a (last a.is_reversed refl e)
]
  where
    earlier_or_last : (k n : ℕ) → k < suc n → (k < n) ⊎ (k ≡ n)
    earlier_or_last k n l = elim (cases_lt k n) [ inl h ↦ inl h | inr h ↦ inr (omega arith) ]

    last : (t : Bool) → a.is_reversed ≡ t → a.arc ≡ n → Contains (forward n ∷ backward n ∷ []) a
    last false f e = (0, omega arith, (λ i. record { arc = sym e i; is_reversed = sym f i }))
    last true f e = (1, omega arith, (λ i. record { arc = sym e i; is_reversed = sym f i }))

-- ---- no two are the same

abbrev same_way : Bool → Bool → Bool
same_way true b = b
same_way false b = not b

abbrev same_arc : SignedArc → SignedArc → Bool
same_arc a b = nat_eq a.arc b.arc && same_way a.is_reversed b.is_reversed

same_way_from : (b c : Bool) → same_way b c ≡ true → b ≡ c
same_way_from true true e = refl
same_way_from true false e = absurd (cc)
same_way_from false true e = absurd (cc)
same_way_from false false e = refl

same_way_to : (b c : Bool) → b ≡ c → same_way b c ≡ true
same_way_to true true e = refl
same_way_to true false e = absurd (cc)
same_way_to false true e = absurd (cc)
same_way_to false false e = refl

same_arc-Decides : (a b : SignedArc) → Decides (same_arc a b) (a ≡ b)
same_arc-Decides a b = (
  (λ e.
      let p = and_parts (nat_eq a.arc b.arc) (same_way a.is_reversed b.is_reversed) e in
      let arc = eqb-true a.arc b.arc p.0 in
      let way = same_way_from a.is_reversed b.is_reversed p.1 in
      λ i. record { arc = arc i; is_reversed = way i }),
  (λ e. and_from (nat_eq a.arc b.arc) (same_way a.is_reversed b.is_reversed) (eq-eqb a.arc b.arc (ap (λ (z : SignedArc). z.arc) e)) (same_way_to a.is_reversed b.is_reversed (ap (λ (z : SignedArc). z.is_reversed) e))),
)

same_arc-flips : (a b : SignedArc) → same_arc a b ≡ same_arc b a
same_arc-flips a b = go (same_arc a b) (same_arc b a) refl refl
  where
    go : (s t : Bool) → same_arc a b ≡ s → same_arc b a ≡ t → same_arc a b ≡ same_arc b a
    go true t e f = e ∙ sym ((same_arc-Decides b a).1 (sym ((same_arc-Decides a b).0 e)))
    go false true e f = (same_arc-Decides a b).1 (sym ((same_arc-Decides b a).0 f)) ∙ sym f
    go false false e f = e ∙ sym f

differ : (n : ℕ) (a b : SignedArc) → a.arc < n → b.arc ≡ n → a ≢ b
differ n a b l e f = let g = ap (λ (z : SignedArc). z.arc) f in absurd (omega arith)

other_way : (n : ℕ) → forward n ≢ backward n
other_way n e = let f : false ≡ true = ap (λ (a : SignedArc). a.is_reversed) e in absurd (cc)

once_below : (n : ℕ) → AllPairs (λ (a b : SignedArc). a ≢ b) (signed_below n)
once_below zero = λ i j d l m. absurd (omega arith)
once_below (suc n) =
    let R : SignedArc → SignedArc → Type 0 = λ a b. a ≢ b in
    let below = all_below n n (omega arith) in
    let with_forward : AllPairs R (signed_below n ++ forward n ∷ []) = all_pairs_push R (signed_below n) (forward n) (once_below n) (λ k d l. differ n _ (forward n) (below k d l) refl) in
    let all : All (λ a. a ≢ backward n) (signed_below n ++ forward n ∷ []) = All-append (λ a. a ≢ backward n) (signed_below n) (forward n ∷ []) (λ k d l. differ n _ (backward n) (below k d l) refl)
    (All-cons (λ a. a ≢ backward n) (forward n) [] (other_way n) (All-nil (λ a. a ≢ backward n))) in
    subst (AllPairs R) (append_assoc (signed_below n) (forward n ∷ []) (backward n ∷ [])) (all_pairs_push R (signed_below n ++ forward n ∷ []) (backward n) with_forward all)

pub once_in : (n : ℕ) (outs : List SignedArc) → IsPermutation (signed_below n) outs → AllPairs (λ (a b : SignedArc). a ≢ b) outs
once_in n outs p =
    AllPairs-from_IsDistinct same_arc-Decides outs
    (IsDistinct-IsPermutation same_arc same_arc-flips (signed_below n) outs p (IsDistinct-from_AllPairs same_arc-Decides (signed_below n) (once_below n)))

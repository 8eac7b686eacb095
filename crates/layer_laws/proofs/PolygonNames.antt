-- The names of the columns of a union: there is one way to make them new.
use Rattle.std.proofs.Common.{◌≡◌, refl, sym, ap, ◌∙◌, subst, inl, inr, arith, ℕ, zero, suc, ◌+◌, ◌<◌, ◌≤◌, ◌^◌, Bool, true, false, not, if◌then◌else◌, List, [], ◌∷◌, ◌++◌, append-nil, drop, length, map, filter, get_or, take, codes, decimal}
use Rattle.std.specs.Cmp.{IsEquivalence}
use Rattle.std.specs.List.{IsDistinct, list_any, range_with_len}
use Rattle.std.specs.Str.{bytes_eq}
use Rattle.std.proofs.lemmas.Bool.{cases_eq, cases_lt, false_from_ne_true}
use Rattle.std.proofs.lemmas.Fmt.{decimal_injective}
use Rattle.std.proofs.lemmas.List.{append_assoc, append_cancel_left}
use Rattle.std.proofs.lemmas.List.FromFn.{get_or-map-range_with_len, length-map-range_with_len}
use Rattle.std.proofs.lemmas.Map.Keys.{IsDistinct-from_apart}
use Rattle.std.proofs.lemmas.Map.Made.{length-le_from_is_member}
use Rattle.std.proofs.lemmas.Slice.Eq.{bytes_eq-Decides}
use Rattle.lists.specs.Lists.{first_or}
use Rattle.lists.proofs.Members.{map-Contains}
use Rattle.table_terms.specs.Names.{Text, has_name}
use Rattle.face_sets.proofs.GapLemmas.{of_range}
use Rattle.face_laws.proofs.HolderLemmas.{any_there}
use Rattle.union_ops.specs.ColumnNames.{AreNewNames, IsNewName, IsNumbered, numbered}
use Rattle.chain_model.specs.UnionTable.{free_number, new_name, with_new_names}

-- ---- the first number of a range that passes

first_passing : (p : ℕ → Bool) (d a n m : ℕ) → a ≤ m → m < a + n → p m ≡ true → ((k : ℕ) → a ≤ k → k < m → p k ≡ false) → first_or d (filter p (range_with_len a n)) ≡ m
first_passing p d a zero m from below is none = absurd (omega arith)
first_passing p d a (suc n) m from below is none =
    let rest : List ℕ = filter p (range_with_len (a + 1) n) in
    elim (cases_eq a m) [
      | inl same ↦ ap (λ (b : Bool). first_or d (if b then a ∷ rest else rest)) (ap p same ∙ is) ∙ same
      | inr other ↦ ap (λ (b : Bool). first_or d (if b then a ∷ rest else rest)) (none a (omega arith) (omega (arith, from, other)))
          ∙ first_passing p d (a + 1) n m (omega (arith, from, other)) (omega arith) is (λ k more less. none k (omega arith) less)
    ]

-- ---- names with numbers

numbered_apart : (name : Text) (j k : ℕ) → j < 2 ^ 64 → k < 2 ^ 64 → numbered name j ≡ numbered name k → j ≡ k
numbered_apart name j k few less e = decimal_injective j k few less (ap (drop 1) (append_cancel_left name (codes "_" ++ decimal j) (codes "_" ++ decimal k) e))

texts_equal : IsEquivalence bytes_eq
texts_equal = record {
  refl = λ x. (bytes_eq-Decides x x).1 refl;
  symm = symmetric;
  congr = λ x y z e. ap (λ (t : Text). bytes_eq t z) ((bytes_eq-Decides x y).0 e);
}
  where
    symmetric : (x y : Text) → bytes_eq x y ≡ bytes_eq y x
    symmetric x y = go (bytes_eq x y) refl
      where
        go : (b : Bool) → bytes_eq x y ≡ b → b ≡ bytes_eq y x
        go true e = sym ((bytes_eq-Decides y x).1 (sym ((bytes_eq-Decides x y).0 e)))
        go false e = sym (false_from_ne_true (bytes_eq y x) (λ f. let clash : true ≡ false = sym ((bytes_eq-Decides x y).1 (sym ((bytes_eq-Decides y x).0 f))) ∙ e in absurd (cc)))

-- of one more number than there are names one makes a name new
module _ (earlier : List Text) (name : Text) (few : length earlier < 2 ^ 63) where
  abbrev many : ℕ
  many = length earlier + 1

  abbrev candidate : ℕ → Text
  candidate i = numbered name (2 + i)

  abbrev candidates : List Text
  candidates = map candidate (range_with_len 0 many)

  at : (i : ℕ) (d : Text) → i < many → get_or candidates i d ≡ candidate i
  at i d l = get_or-map-range_with_len candidate 0 many i i d l (omega arith)

  counted : length candidates ≡ many
  counted = length-map-range_with_len candidate 0 many

  all_apart : IsDistinct bytes_eq candidates
  all_apart = IsDistinct-from_apart bytes_eq candidates (λ i j d less below.
      let inside : j < many = omega (arith, below, counted) in
      false_from_ne_true (bytes_eq (get_or candidates i d) (get_or candidates j d)) (λ e.
      let same : candidate i ≡ candidate j = sym (at i d (omega arith)) ∙ (bytes_eq-Decides (get_or candidates i d) (get_or candidates j d)).0 e ∙ at j d inside in
      let one : 2 + i ≡ 2 + j = numbered_apart name (2 + i) (2 + j) (omega (arith, few, inside, less)) (omega (arith, few, inside)) same in
      omega (arith, one, less)))

  not_all_taken : ((k : ℕ) → 2 ≤ k → k < 2 + many → has_name earlier (numbered name k) ≡ true) → ⊥
  not_all_taken taken =
      let fit : length candidates ≤ length earlier = length-le_from_is_member texts_equal candidates earlier all_apart (λ q e.
      let (x, there, same) = any_there (bytes_eq q) candidates e in
      let (i, in_range, is) = map-Contains candidate (range_with_len 0 many) x there in
      let inside = of_range many i in_range in
      let equal : q ≡ candidate i = (bytes_eq-Decides q x).0 same ∙ sym is in
      subst (λ (t : Text). list_any (bytes_eq t) earlier ≡ true) (sym equal) (taken (2 + i) (omega arith) (omega (arith, inside)))) in
      omega (arith, fit, counted)

-- a name is made new by one of these numbers: if there are as many as 2 ^ 63 names, then because it is below 2 ^ 32
module _ (earlier : List Text) (name : Text) where
  within : (out : Text) (is : IsNumbered earlier name out) → is.number < 2 + (length earlier + 1)
  within out is =
      let small = is.below in
      elim (cases_lt (length earlier) (2 ^ 63)) [
        | inl few ↦ elim (cases_lt is.number (2 + (length earlier + 1))) [
          | inl l ↦ l
          | inr past ↦ absurd (not_all_taken earlier name few (λ k two below. is.least k two (omega (arith, past, below))))
        ]
        | inr many ↦ omega (arith, small, many)
      ]

  number_is_free : (out : Text) (is : IsNumbered earlier name out) → is.number ≡ free_number earlier name
  number_is_free out is =
      sym (first_passing (λ (k : ℕ). not (has_name earlier (numbered name k))) 2 2 (length earlier + 1) is.number is.from (within out is) (ap (λ (t : Text). not (has_name earlier t)) (sym is.is) ∙ ap not is.new)
      (λ k two below. ap not (is.least k two below)))

  one_new_name : (out : Text) → IsNewName earlier name out → out ≡ new_name earlier name
  one_new_name out is = go (has_name earlier name) refl
    where
      go : (b : Bool) → has_name earlier name ≡ b → out ≡ (if b then numbered name (free_number earlier name) else name)
      go true e = let told = is.doubled e in told.is ∙ ap (numbered name) (number_is_free out told)
      go false e = is.alone e

-- ---- names, each made new among those before it

new_after : (names outs earlier : List Text) → length outs ≡ length names → ((i : ℕ) → i < length names → IsNewName (earlier ++ take i outs) (get_or names i []) (get_or outs i [])) →
    earlier ++ outs ≡ with_new_names earlier names
new_after [] [] earlier each named = append-nil earlier
new_after [] (out ∷ outs) earlier each named = absurd (omega (arith, each))
new_after (name ∷ names) [] earlier each named = absurd (omega (arith, each))
new_after (name ∷ names) (out ∷ outs) earlier each named =
    let here : out ≡ new_name earlier name = one_new_name earlier name out (subst (λ (before : List Text). IsNewName before name out) (append-nil earlier) (named 0 (omega arith))) in
    let rest : (earlier ++ out ∷ []) ++ outs ≡ with_new_names (earlier ++ out ∷ []) names = new_after names outs (earlier ++ out ∷ []) (omega (arith, each)) (λ i l.
    subst (λ (before : List Text). IsNewName before (get_or names i []) (get_or outs i [])) (sym (append_assoc earlier (out ∷ []) (take i outs))) (named (suc i) (omega arith))) in
    sym (append_assoc earlier (out ∷ []) outs) ∙ rest ∙ ap (λ (t : Text). with_new_names (earlier ++ t ∷ []) names) here

pub names_made_new : (names outs : List Text) → AreNewNames names outs → outs ≡ with_new_names [] names
names_made_new names outs new = new_after names outs [] new.each new.named

-- Names that are made new among earlier ones.
use Rattle.std.proofs.Common.{◌≡◌, refl, sym, ap, ◌∙◌, subst, inl, inr, true≢false, arith, ℕ, ◌+◌, ◌<◌, ◌≤◌, ◌^◌, Bool, true, false, not, ◌||◌, List, [], ◌∷◌, ◌++◌, length, get_or, take, set, length-set}
use Rattle.std.specs.List.{position_or_len}
use Rattle.std.specs.Str.{bytes_eq}
use Rattle.std.specs.Cmp.Lexicographic.{bytes_decides}
use Rattle.std.proofs.lemmas.Bool.{cases_lt, cases_eq, not-true, not-false, or_right}
use Rattle.std.proofs.lemmas.List.{length_push, get_or_append_left, get_or_push, get_or-set_same, get_or-set_other, take-append-le, take_all}
use Rattle.std.proofs.lemmas.List.Elements.{All-from_get_or}
use Rattle.std.proofs.lemmas.List.Folds.{list_any-append, list_any_at, list_any_none}
use Rattle.std.proofs.lemmas.List.Sums.{prefix_len_passes, prefix_len_stops}
use Rattle.table_terms.specs.Names.{Text, has_name}
use Rattle.union_ops.specs.ColumnNames.{numbered, IsNewName, AreNewNames, AreTried, IsFree}

-- ---- one name more

pub kept : (names : List Text) (x name : Text) → has_name names name ≡ true → has_name (names ++ x ∷ []) name ≡ true
kept names x name e = list_any-append (bytes_eq name) names (x ∷ []) ∙ ap (λ (b : Bool). b || has_name (x ∷ []) name) e

there : (names : List Text) (x : Text) → has_name (names ++ x ∷ []) x ≡ true
there names x =
    list_any-append (bytes_eq x) names (x ∷ []) ∙ ap (λ (b : Bool). has_name names x || (b || false)) ((bytes_decides x x).1 refl) ∙ or_right (has_name names x) true refl

-- ---- where a name is found

pub place_of_name : (names : List Text) (name : Text) (place : ℕ) → place ≡ position_or_len (bytes_eq name) names → place < length names → name ≡ get_or names place []
place_of_name names name place is l =
    let within : position_or_len (bytes_eq name) names < length names = subst (λ (n : ℕ). n < length names) is l in
    let at : bytes_eq name (get_or names (position_or_len (bytes_eq name) names) []) ≡ true =
    not-false (bytes_eq name (get_or names (position_or_len (bytes_eq name) names) [])) (prefix_len_stops (λ (y : Text). not (bytes_eq name y)) names [] within) in
    (bytes_decides name (get_or names place [])).0 (subst (λ (n : ℕ). bytes_eq name (get_or names n []) ≡ true) (sym is) at)

pub name_there : (names : List Text) (name : Text) (place : ℕ) → place < length names → name ≡ get_or names place [] → has_name names name ≡ true
name_there names name place l is = list_any_at (bytes_eq name) names place [] l ((bytes_decides name (get_or names place [])).1 is)

pub name_missing : (names : List Text) (name : Text) (place : ℕ) → place ≡ position_or_len (bytes_eq name) names → length names ≤ place → has_name names name ≡ false
name_missing names name place is l = list_any_none (bytes_eq name) names (All-from_get_or (λ (y : Text). bytes_eq name y ≡ false) names [] (λ k m.
    let before : k < position_or_len (bytes_eq name) names = omega arith in
    not-true (bytes_eq name (get_or names k [])) (prefix_len_passes (λ (y : Text). not (bytes_eq name y)) names k [] before)))

-- ---- numbers that were tried

pub tried_new : (names : List Text) (untried : List ℕ) (x : Text) → AreTried names untried → AreTried (names ++ x ∷ []) (untried ++ 2 ∷ [])
tried_new names untried x h =
    let e = h.each in
    let longer = length_push names x in
    record {
      each = length_push untried 2 ∙ ap (λ (n : ℕ). n + 1) e ∙ sym longer;
      from = λ i l. elim (cases_lt i (length names)) [
        | inl less ↦ subst (λ (n : ℕ). 2 ≤ n) (sym (get_or_append_left untried (2 ∷ []) 0 i (omega arith))) (h.from i less)
        | inr more ↦ (let at : get_or (untried ++ 2 ∷ []) i 0 ≡ 2 = get_or_push untried 2 0 i (omega arith) in omega arith)
      ];
      tried = λ i k l two below. elim (cases_lt i (length names)) [
        | inl less ↦
            (let same : get_or (untried ++ 2 ∷ []) i 0 ≡ get_or untried i 0 = get_or_append_left untried (2 ∷ []) 0 i (omega arith) in
            let m : k < get_or untried i 0 = omega arith in
            subst (λ (name : Text). has_name (names ++ x ∷ []) (numbered name k) ≡ true) (sym (get_or_append_left names (x ∷ []) [] i less))
            (kept names x (numbered (get_or names i []) k) (h.tried i k less two m)))
        | inr more ↦ (let at : get_or (untried ++ 2 ∷ []) i 0 ≡ 2 = get_or_push untried 2 0 i (omega arith) in absurd (omega arith))
      ];
    }

tried_set : (names : List Text) (untried : List ℕ) (place next : ℕ) → AreTried names untried → place < length names → 2 ≤ next →
    ((k : ℕ) → 2 ≤ k → k < next → has_name names (numbered (get_or names place []) k) ≡ true) → AreTried names (set untried place next)
tried_set names untried place next h within two new =
    let e = h.each in
    let here : get_or (set untried place next) place 0 ≡ next = get_or-set_same untried place next 0 (omega arith) in
    record {
      each = length-set untried place next ∙ e;
      from = λ i l. elim (cases_eq i place) [
        | inl same ↦ subst (λ (j : ℕ). 2 ≤ get_or (set untried place next) j 0) (sym same) (subst (λ (n : ℕ). 2 ≤ n) (sym here) two)
        | inr other ↦ subst (λ (n : ℕ). 2 ≤ n) (sym (get_or-set_other untried place i next 0 other)) (h.from i l)
      ];
      tried = λ i k l at_least below. elim (cases_eq i place) [
        | inl same ↦
            (let m : k < next = subst (λ (n : ℕ). k < n) here (subst (λ (j : ℕ). k < get_or (set untried place next) j 0) same below) in
            subst (λ (j : ℕ). has_name names (numbered (get_or names j []) k) ≡ true) (sym same) (new k at_least m))
        | inr other ↦ h.tried i k l at_least (subst (λ (n : ℕ). k < n) (get_or-set_other untried place i next 0 other) below)
      ];
    }

-- all numbers from 2 on below a free one are taken
below_free : (names : List Text) (untried : List ℕ) (name : Text) (place number : ℕ) → AreTried names untried → place < length names → name ≡ get_or names place [] → IsFree names name (get_or untried place 0) number →
    (k : ℕ) → 2 ≤ k → k < number → has_name names (numbered name k) ≡ true
below_free names untried name place number h within is free k two below = elim (cases_lt k (get_or untried place 0)) [
  | inl less ↦ subst (λ (n : Text). has_name names (numbered n k) ≡ true) (sym is) (h.tried place k within two less)
  | inr more ↦ free.least k (omega arith) below
]

pub tried_after : (names : List Text) (untried : List ℕ) (name : Text) (place number : ℕ) → AreTried names untried → place < length names → name ≡ get_or names place [] → IsFree names name (get_or untried place 0) number →
    AreTried (names ++ numbered name number ∷ []) (set (untried ++ 2 ∷ []) place (number + 1))
tried_after names untried name place number h within is free =
    let x = numbered name number in
    let longer = length_push names x in
    let same : get_or (names ++ x ∷ []) place [] ≡ name = get_or_append_left names (x ∷ []) [] place within ∙ sym is in
    let least = h.from place within in
    let more = free.from in
    tried_set (names ++ x ∷ []) (untried ++ 2 ∷ []) place (number + 1) (tried_new names untried x h) (omega arith) (omega arith)
    (λ k two below. subst (λ (n : Text). has_name (names ++ x ∷ []) (numbered n k) ≡ true) (sym same) (elim (cases_lt k number) [
      | inl less ↦ kept names x (numbered name k) (below_free names untried name place number h within is free k two less)
      | inr upto ↦ (let e : number ≡ k = omega arith in subst (λ (j : ℕ). has_name (names ++ x ∷ []) (numbered name j) ≡ true) e (there names x))
    ]))

-- ---- new names

pub name_alone : (names : List Text) (name : Text) → has_name names name ≡ false → IsNewName names name name
name_alone names name e = record { alone = λ f. refl; doubled = λ f. absurd (true≢false (sym f ∙ e)) }

pub name_numbered : (names : List Text) (untried : List ℕ) (name : Text) (place number : ℕ) → AreTried names untried → place < length names → name ≡ get_or names place [] → IsFree names name (get_or untried place 0) number → number < 2 ^ 32 →
    IsNewName names name (numbered name number)
name_numbered names untried name place number h within is free below = record {
  alone = λ f. absurd (true≢false (sym (name_there names name place within is) ∙ f));
  doubled = λ f. record {
    number = number;
    from = (let least = h.from place within in let more = free.from in omega arith);
    below = below;
    is = refl;
    new = free.new;
    least = below_free names untried name place number h within is free;
  };
}

pub named_more : (names outs : List Text) (name out : Text) → AreNewNames names outs → IsNewName outs name out → AreNewNames (names ++ name ∷ []) (outs ++ out ∷ [])
named_more names outs name out h one =
    let e = h.each in
    let longer = length_push names name in
    record {
      each = length_push outs out ∙ ap (λ (n : ℕ). n + 1) e ∙ sym longer;
      named = λ i l. elim (cases_lt i (length names)) [
        | inl less ↦
            (let before : take i (outs ++ out ∷ []) ≡ take i outs = take-append-le i outs (out ∷ []) (omega arith) in
            let here : get_or (outs ++ out ∷ []) i [] ≡ get_or outs i [] = get_or_append_left outs (out ∷ []) [] i (omega arith) in
            let given : get_or (names ++ name ∷ []) i [] ≡ get_or names i [] = get_or_append_left names (name ∷ []) [] i less in
            subst (λ (earlier : List Text). IsNewName earlier (get_or (names ++ name ∷ []) i []) (get_or (outs ++ out ∷ []) i [])) (sym before)
            (subst (λ (n : Text). IsNewName (take i outs) n (get_or (outs ++ out ∷ []) i [])) (sym given)
            (subst (λ (o : Text). IsNewName (take i outs) (get_or names i []) o) (sym here) (h.named i less))))
        | inr more ↦
            (let at : length names ≡ i = omega arith in
            let before : take i (outs ++ out ∷ []) ≡ outs = take-append-le i outs (out ∷ []) (omega arith) ∙ take_all i outs (omega arith) in
            let here : get_or (outs ++ out ∷ []) i [] ≡ out = get_or_push outs out [] i (omega arith) in
            let given : get_or (names ++ name ∷ []) i [] ≡ name = get_or_push names name [] i at in
            subst (λ (earlier : List Text). IsNewName earlier (get_or (names ++ name ∷ []) i []) (get_or (outs ++ out ∷ []) i [])) (sym before)
            (subst (λ (n : Text). IsNewName outs n (get_or (outs ++ out ∷ []) i [])) (sym given)
            (subst (λ (o : Text). IsNewName outs name o) (sym here) one)))
      ];
    }

-- What a text of the grammar denotes is proper.
use Rattle.std.proofs.Common.{ℕ, ◌≡◌, List, [], ◌∷◌, Bool, true, false, cond, ◌&&◌, refl, ap, ◌∙◌, sym, subst, arith, Option, Some, None}
use Rattle.std.proofs.lemmas.Bool.Decides.{nat_tests}
use Rattle.std.proofs.Math.Utf8.{scalars, scalar}
use Rattle.std.specs.List.{IsDistinct}
use Rattle.std.specs.Str.{IsUtf8, bytes_eq}
use Rattle.json_values.specs.Json.{JsonValue, ItemList, FieldList, no_items, item, no_fields, field}
use Rattle.json_values.specs.Lists.{items_list, fields_list, put, merged, HaveDistinctNames}
use Rattle.json_values.specs.Grammar.{is_high, is_low, pair, mended, joined, Quoted, quoted, Denotes, is_null, is_true, is_false, is_number, is_string, no_elements, elements, no_members, members, Elements, last_element, element, Members, last_member, member, Padded, padded, JsonText, text}
use Rattle.json_values.specs.Proper.{IsProper, AreProper, AreProperFields}
use Rattle.json_values.proofs.Seen.{Member}
use Rattle.json_values.proofs.Putting.{put_distinct}

-- ## Texts are UTF-8

is_pair : (h l : ℕ) → is_high h ≡ true → is_low l ≡ true → scalar (pair h l) ≡ true
is_pair h l a b = grind (arith, nat_tests)

is_mended : (u : ℕ) → scalar (mended u) ≡ true
is_mended u = go (scalar u) refl
  where
    go : (b : Bool) → scalar u ≡ b → scalar (mended u) ≡ true
    go true e = ap (λ (b : Bool). scalar (cond b u 0xFFFD)) e ∙ e
    go false e = ap (λ (b : Bool). scalar (cond b u 0xFFFD)) e

abbrev IsHalf : Option ℕ → Type 0
IsHalf None = Unit {0}
IsHalf (Some h) = is_high h ≡ true

with_first : (c : ℕ) (cs : List ℕ) → scalar c ≡ true → scalars cs ≡ true → scalars (c ∷ cs) ≡ true
with_first c cs a b = ap (λ (x : Bool). x && scalars cs) a ∙ b

joined_is : (half : Option ℕ) (us : List ℕ) → IsHalf half → scalars (joined half us) ≡ true
joined_is None [] h = refl
joined_is (Some x) [] h = refl
joined_is None (u ∷ us) h = go (is_high u) refl (λ (k : is_high u ≡ true). joined_is (Some u) us k) (joined_is None us tt)
  where
    go : (b : Bool) → is_high u ≡ b → (is_high u ≡ true → scalars (joined (Some u) us) ≡ true) → scalars (joined None us) ≡ true → scalars (joined None (u ∷ us)) ≡ true
    go true e k r = ap (λ (b : Bool). scalars (elim b as (λ _. List ℕ) [ true ↦ joined (Some u) us | false ↦ mended u ∷ joined None us ])) e ∙ k e
    go false e k r = ap (λ (b : Bool). scalars (elim b as (λ _. List ℕ) [ true ↦ joined (Some u) us | false ↦ mended u ∷ joined None us ])) e ∙ with_first (mended u) (joined None us) (is_mended u) r
joined_is (Some x) (u ∷ us) h = go (is_low u) (is_high u) refl refl (λ (k : is_high u ≡ true). joined_is (Some u) us k) (joined_is None us tt)
  where
    go : (a b : Bool) → is_low u ≡ a → is_high u ≡ b → (is_high u ≡ true → scalars (joined (Some u) us) ≡ true) → scalars (joined None us) ≡ true → scalars (joined (Some x) (u ∷ us)) ≡ true
    go true b e f k r = ap (λ (a : Bool). scalars (elim a as (λ _. List ℕ) [ true ↦ pair x u ∷ joined None us | false ↦ 0xFFFD ∷ (elim (is_high u) as (λ _. List ℕ) [ true ↦ joined (Some u) us | false ↦ mended u ∷ joined None us ]) ])) e ∙ with_first (pair x u) (joined None us) (is_pair x u h e) r
    go false true e f k r = ap (λ (a : Bool). scalars (elim a as (λ _. List ℕ) [ true ↦ pair x u ∷ joined None us | false ↦ 0xFFFD ∷ (elim (is_high u) as (λ _. List ℕ) [ true ↦ joined (Some u) us | false ↦ mended u ∷ joined None us ]) ])) e ∙ ap (λ (b : Bool). scalars (0xFFFD ∷ (elim b as (λ _. List ℕ) [ true ↦ joined (Some u) us | false ↦ mended u ∷ joined None us ]))) f ∙ k f
    go false false e f k r = ap (λ (a : Bool). scalars (elim a as (λ _. List ℕ) [ true ↦ pair x u ∷ joined None us | false ↦ 0xFFFD ∷ (elim (is_high u) as (λ _. List ℕ) [ true ↦ joined (Some u) us | false ↦ mended u ∷ joined None us ]) ])) e ∙ ap (λ (b : Bool). scalars (0xFFFD ∷ (elim b as (λ _. List ℕ) [ true ↦ joined (Some u) us | false ↦ mended u ∷ joined None us ]))) f ∙ with_first (mended u) (joined None us) (is_mended u) r

quoted_utf8 : {t bytes : List ℕ} → Quoted t bytes → IsUtf8 bytes
quoted_utf8 (quoted s) = (joined None s.0, (joined_is None s.0 tt, sym s.2))

-- ## Fields

abbrev ArePutProper : ℕ → List Member → Type 0
ArePutProper d [] = Unit {0}
ArePutProper d (f ∷ fs) = IsUtf8 f.0 × IsProper d f.1 × ArePutProper d fs

put_proper : (d : ℕ) (fs : List Member) (name : List ℕ) (v : JsonValue) → ArePutProper d fs → IsUtf8 name → IsProper d v → ArePutProper d (put fs name v)
put_proper d [] name v h u p = (u, p, tt)
put_proper d (f ∷ fs) name v h u p = go (bytes_eq f.0 name) (put_proper d fs name v h.2 u p)
  where
    go : (b : Bool) → ArePutProper d (put fs name v) → ArePutProper d (elim b as (λ _. List Member) [ true ↦ (name, v) ∷ fs | false ↦ f ∷ put fs name v ])
    go true r = (u, p, h.2)
    go false r = (h.0, h.1, r)

merged_proper : (d : ℕ) (fs ms : List Member) → ArePutProper d fs → ArePutProper d ms → ArePutProper d (merged fs ms)
merged_proper d fs [] h k = h
merged_proper d fs (m ∷ ms) h k = merged_proper d (put fs m.0 m.1) ms (put_proper d fs m.0 m.1 h k.0 k.1) k.2

merged_distinct : (fs ms : List Member) → HaveDistinctNames fs → HaveDistinctNames (merged fs ms)
merged_distinct fs [] h = h
merged_distinct fs (m ∷ ms) h = merged_distinct (put fs m.0 m.1) ms (put_distinct fs m.0 m.1 h)

fields_proper : (d : ℕ) (fs : FieldList) → ArePutProper d (fields_list fs) → AreProperFields d fs
fields_proper d no_fields h = tt
fields_proper d (field name v fs) h = (h.0, h.1, fields_proper d fs h.2)

abbrev AreListProper : ℕ → List JsonValue → Type 0
AreListProper d [] = Unit {0}
AreListProper d (v ∷ vs) = IsProper d v × AreListProper d vs

items_proper : (d : ℕ) (js : ItemList) → AreListProper d (items_list js) → AreProper d js
items_proper d no_items h = tt
items_proper d (item v vs) h = (h.0, items_proper d vs h.1)

none_distinct : HaveDistinctNames []
unfolding IsDistinct
none_distinct = tt

-- ## Values

mutual
  denoted : {d : ℕ} {t : List ℕ} {v : JsonValue} → Denotes d t v → IsProper d v
  denoted is_null = tt
  denoted is_true = tt
  denoted is_false = tt
  denoted (is_number n) = n
  denoted (is_string q) = quoted_utf8 q
  denoted (no_elements {d = d} w) = (d, refl, tt)
  denoted (elements {d = d} {js = js} h) = (d, refl, items_proper d js (listed h))
  denoted (no_members {d = d} w) = (d, refl, none_distinct, tt)
  denoted (members {d = d} {ms = ms} {fs = fs} h e) =
      (d, refl, subst (λ (l : List Member). HaveDistinctNames l) (sym e) (merged_distinct [] ms none_distinct), fields_proper d fs (subst (λ (l : List Member). ArePutProper d l) (sym e) (merged_proper d [] ms tt (put_there h))))

  listed : {d : ℕ} {t : List ℕ} {vs : List JsonValue} → Elements d t vs → AreListProper d vs
  listed (last_element h) = (inner h, tt)
  listed (element h r) = (inner h, listed r)

  put_there : {d : ℕ} {t : List ℕ} {ms : List Member} → Members d t ms → ArePutProper d ms
  put_there (last_member w n w' h) = (quoted_utf8 n, inner h, tt)
  put_there (member w n w' h r) = (quoted_utf8 n, inner h, put_there r)

  inner : {d : ℕ} {t : List ℕ} {v : JsonValue} → Padded d t v → IsProper d v
  inner (padded w h w') = denoted h

pub text_proper : {d : ℕ} {t : List ℕ} {v : JsonValue} → JsonText d t v → IsProper d v
text_proper (text m h) = inner h

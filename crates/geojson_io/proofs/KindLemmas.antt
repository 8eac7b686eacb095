-- The kinds of features, found one after another, and a layer for each.
use Rattle.std.proofs.Common.{◌≡◌, ℕ, ◌≤◌, Bool, true, false, not, ◌&&◌, ◌||◌, ◌==◌, cond, List, [], ◌∷◌, ◌++◌, length, map, filter, get_or, refl, sym, ap, ◌∙◌, subst, arith, true≢false, Option, Some, None, append-nil, append_assoc}
use Rattle.std.specs.Prelude.{filter_map}
use Rattle.std.specs.List.{list_any, cons_option}
use Rattle.std.proofs.lemmas.Bool.Decides.{nat_tests, Decides-eqb}
use Rattle.std.proofs.lemmas.List.Folds.{list_any-append}
use Rattle.lists.specs.Lists.{has, each_once}
use Rattle.grid_base.specs.declared.kinds.Kind.{Kind}
use Rattle.geojson_io.specs.LayerContent.{LayerContent}
use Rattle.geojson_io.specs.Layers.{kind_number, same_kind, kind_of, kinds_of, kind_among, is_of_kind, kind_ending, layer_of, layer_among, layers_of_kinds, layers_of}
use Rattle.geojson_io.specs.Layering.{add_kind, kinds_from, is_of_another, split_layers}
use Rattle.geojson_io.specs.declared.reading.features.Feature.{Feature}

-- ## Filters

filter_both : {X : Type 0} (r p q : X → Bool) → ((y : X) → r y ≡ (p y && q y)) → (ys : List X) → filter r ys ≡ filter p (filter q ys)
filter_both r p q h [] = refl
filter_both {X} r p q h (y ∷ ys) = ap (λ (c : Bool). cond c (y ∷ filter r ys) (filter r ys)) (h y) ∙ go (p y) (q y) refl (filter_both r p q h ys)
  where
    go : (a b : Bool) → p y ≡ a → filter r ys ≡ filter p (filter q ys) → cond (a && b) (y ∷ filter r ys) (filter r ys) ≡ filter p (cond b (y ∷ filter q ys) (filter q ys))
    go true true e i = ap (λ (l : List X). y ∷ l) i ∙ sym (ap (λ (c : Bool). cond c (y ∷ filter p (filter q ys)) (filter p (filter q ys))) e)
    go false true e i = i ∙ sym (ap (λ (c : Bool). cond c (y ∷ filter p (filter q ys)) (filter p (filter q ys))) e)
    go true false e i = i
    go false false e i = i

-- a filter that is the weaker one adds nothing
filter_absorbed : {X : Type 0} (p q : X → Bool) → ((y : X) → p y ≡ true → q y ≡ true) → (ys : List X) → filter p (filter q ys) ≡ filter p ys
filter_absorbed {X} p q h ys = sym (filter_both p p q (λ (y : X). both y (p y) refl) ys)
  where
    both : (y : X) (a : Bool) → p y ≡ a → p y ≡ (p y && q y)
    both y true e = e ∙ sym (ap (λ (c : Bool). c && q y) e ∙ h y e)
    both y false e = e ∙ sym (ap (λ (c : Bool). c && q y) e)

filter_none : (ys : List Kind) → filter (λ (y : Kind). true) ys ≡ ys
filter_none [] = refl
filter_none (y ∷ ys) = ap (λ (l : List Kind). y ∷ l) (filter_none ys)

-- ## Kinds

equal_numbers : (j k : Kind) → same_kind j k ≡ true → kind_number j ≡ kind_number k
equal_numbers j k e = (Decides-eqb (kind_number j) (kind_number k)).0 e

swapped : (j k : Kind) → same_kind j k ≡ same_kind k j
swapped j k = eq_swapped (kind_number j) (kind_number k)
  where
    eq_swapped : (a b : ℕ) → (a == b) ≡ (b == a)
    eq_swapped a b = grind (arith, nat_tests)

-- a kind that is not among these
abbrev is_new : List Kind → Kind → Bool
is_new ks y = not (has same_kind ks y)

new_after : (ks : List Kind) (k y : Kind) → is_new (ks ++ k ∷ []) y ≡ (is_new ks y && not (same_kind k y))
new_after ks k y =
    ap not (list_any-append (same_kind y) ks (k ∷ [])) ∙ none_of (list_any (same_kind y) ks) (same_kind y k)
    ∙ ap (λ (b : Bool). is_new ks y && not b) (swapped y k)
  where
    none_of : (a b : Bool) → not (a || (b || false)) ≡ (not a && not b)
    none_of true b = refl
    none_of false true = refl
    none_of false false = refl

other_than : (ks : List Kind) (k y : Kind) → has same_kind ks k ≡ true → is_new ks y ≡ true → not (same_kind k y) ≡ true
other_than ks k y e n = go (same_kind k y) refl
  where
    go : (b : Bool) → same_kind k y ≡ b → not b ≡ true
    go false f = refl
    go true f =
        let there : has same_kind ks y ≡ true = ap (λ (m : ℕ). list_any (λ (z : Kind). m == kind_number z) ks) (sym (equal_numbers k y f)) ∙ e in
        absurd (true≢false (sym n ∙ ap not there))

abbrev found : List Feature → List Kind
found fs = filter_map (λ (f : Feature). kind_of f.shape) fs

kinds_gathered : (ks : List Kind) (fs : List Feature) → kinds_from ks fs ≡ ks ++ filter (is_new ks) (each_once same_kind (found fs))
kinds_gathered ks [] = sym (append-nil ks)
kinds_gathered ks (f ∷ fs) = go (kind_of f.shape) (λ (js : List Kind). kinds_gathered js fs)
  where
    rest : Kind → List Kind
    rest k = filter (λ (y : Kind). not (same_kind k y)) (each_once same_kind (found fs))

    added : (k : Kind) (b : Bool) → has same_kind ks k ≡ b → add_kind ks k ++ filter (is_new (add_kind ks k)) (each_once same_kind (found fs)) ≡ ks ++ filter (is_new ks) (k ∷ rest k)
    added k true e =
        ap (λ (c : Bool). cond c ks (ks ++ k ∷ []) ++ filter (is_new (cond c ks (ks ++ k ∷ []))) (each_once same_kind (found fs))) e
        ∙ ap (λ (l : List Kind). ks ++ l) (sym (filter_absorbed (is_new ks) (λ (y : Kind). not (same_kind k y)) (λ (y : Kind). other_than ks k y e) (each_once same_kind (found fs)))
        ∙ sym (ap (λ (c : Bool). cond (not c) (k ∷ filter (is_new ks) (rest k)) (filter (is_new ks) (rest k))) e))
    added k false e =
        ap (λ (c : Bool). cond c ks (ks ++ k ∷ []) ++ filter (is_new (cond c ks (ks ++ k ∷ []))) (each_once same_kind (found fs))) e
        ∙ ap (λ (l : List Kind). (ks ++ k ∷ []) ++ l) (filter_both (is_new (ks ++ k ∷ [])) (is_new ks) (λ (y : Kind). not (same_kind k y)) (new_after ks k) (each_once same_kind (found fs)))
        ∙ append_assoc ks (k ∷ []) (filter (is_new ks) (rest k))
        ∙ ap (λ (l : List Kind). ks ++ l) (sym (ap (λ (c : Bool). cond (not c) (k ∷ filter (is_new ks) (rest k)) (filter (is_new ks) (rest k))) e))

    go : (o : Option Kind) → ((js : List Kind) → kinds_from js fs ≡ js ++ filter (is_new js) (each_once same_kind (found fs)))
        → kinds_from (elim o as (λ _. List Kind) [ None ↦ ks | Some k ↦ add_kind ks k ]) fs ≡ ks ++ filter (is_new ks) (each_once same_kind (cons_option o (found fs)))
    go None h = h ks
    go (Some k) h = h (add_kind ks k) ∙ added k (has same_kind ks k) refl

pub kinds_found : (fs : List Feature) → kinds_from [] fs ≡ kinds_of fs
kinds_found fs = kinds_gathered [] fs ∙ filter_none (each_once same_kind (found fs))

-- ## Layers

abbrev AreOther : Kind → List Kind → Type 0
AreOther k [] = Unit {0}
AreOther k (j ∷ ks) = (same_kind k j ≡ false) × AreOther k ks

abbrev Differ : List Kind → Type 0
Differ [] = Unit {0}
Differ (k ∷ ks) = AreOther k ks × Differ ks

others_filtered : (k : Kind) (q : Kind → Bool) (ys : List Kind) → AreOther k ys → AreOther k (filter q ys)
others_filtered k q [] h = tt
others_filtered k q (y ∷ ys) h = go (q y) (others_filtered k q ys h.1)
  where
    go : (b : Bool) → AreOther k (filter q ys) → AreOther k (cond b (y ∷ filter q ys) (filter q ys))
    go true r = (h.0, r)
    go false r = r

differ_filtered : (q : Kind → Bool) (ys : List Kind) → Differ ys → Differ (filter q ys)
differ_filtered q [] h = tt
differ_filtered q (y ∷ ys) h = go (q y) (differ_filtered q ys h.1)
  where
    go : (b : Bool) → Differ (filter q ys) → Differ (cond b (y ∷ filter q ys) (filter q ys))
    go true r = (others_filtered y q ys h.0, r)
    go false r = r

others_left : (k : Kind) (ys : List Kind) → AreOther k (filter (λ (y : Kind). not (same_kind k y)) ys)
others_left k [] = tt
others_left k (y ∷ ys) = go (same_kind k y) refl (others_left k ys)
  where
    go : (b : Bool) → same_kind k y ≡ b → AreOther k (filter (λ (z : Kind). not (same_kind k z)) ys) → AreOther k (cond (not b) (y ∷ filter (λ (z : Kind). not (same_kind k z)) ys) (filter (λ (z : Kind). not (same_kind k z)) ys))
    go true e r = r
    go false e r = (e, r)

once_differ : (xs : List Kind) → Differ (each_once same_kind xs)
once_differ [] = tt
once_differ (x ∷ xs) = (others_left x (each_once same_kind xs), differ_filtered (λ (y : Kind). not (same_kind x y)) (each_once same_kind xs) (once_differ xs))

-- of each of these kinds all features are left
abbrev AreLeft : Kind → List Kind → List Feature → List Feature → Type 0
AreLeft first [] left fs = Unit {0}
AreLeft first (k ∷ ks) left fs = (filter (is_of_kind first k) left ≡ filter (is_of_kind first k) fs) × AreLeft first ks left fs

left_after : (first k : Kind) (ks : List Kind) (left fs : List Feature) → AreOther k ks → AreLeft first ks left fs → AreLeft first ks (filter (is_of_another first k) left) fs
left_after first k [] left fs o h = tt
left_after first k (j ∷ ks) left fs o h = (filter_absorbed (is_of_kind first j) (is_of_another first k) other left ∙ h.0, left_after first k ks left fs o.1 h.1)
  where
    other : (f : Feature) → is_of_kind first j f ≡ true → is_of_another first k f ≡ true
    other f e = go (is_of_kind first k f) refl
      where
        go : (b : Bool) → is_of_kind first k f ≡ b → not b ≡ true
        go false g = refl
        go true g =
            let one : kind_number j ≡ kind_number k = equal_numbers j (kind_among first (kind_of f.shape)) e ∙ sym (equal_numbers k (kind_among first (kind_of f.shape)) g) in
            absurd (true≢false (sym ((Decides-eqb (kind_number k) (kind_number j)).1 (sym one)) ∙ o.0))

layers_split : (name : List ℕ) (first : Kind) (ks : List Kind) (left fs : List Feature) → Differ ks → AreLeft first ks left fs → split_layers name first ks left ≡ map (layer_among name first fs) ks
layers_split name first [] left fs d h = refl
layers_split name first (k ∷ ks) left fs d h =
    ap (λ (gs : List Feature). layer_of (name ++ kind_ending k) k gs ∷ split_layers name first ks (filter (is_of_another first k) left)) h.0
    ∙ ap (λ (ls : List LayerContent). layer_among name first fs k ∷ ls) (layers_split name first ks (filter (is_of_another first k) left) fs d.1 (left_after first k ks left fs d.0 h.1))

all_left : (first : Kind) (ks : List Kind) (fs : List Feature) → AreLeft first ks fs fs
all_left first [] fs = tt
all_left first (k ∷ ks) fs = (refl, all_left first ks fs)

-- several kinds, of which this is the first, have a layer each
pub several_layers : (name : List ℕ) (first : Kind) (kinds : List Kind) (fs : List Feature) → kinds ≡ kinds_of fs → 2 ≤ length kinds → first ≡ get_or kinds 0 first → split_layers name first kinds fs ≡ layers_of name fs
several_layers name first kinds fs e l f =
    go kinds l f (subst (λ (ks : List Kind). Differ ks) (sym e) (once_differ (found fs))) ∙ ap (λ (ks : List Kind). layers_of_kinds name ks fs) e
  where
    go : (ks : List Kind) → 2 ≤ length ks → first ≡ get_or ks 0 first → Differ ks → split_layers name first ks fs ≡ layers_of_kinds name ks fs
    go [] l f d = absurd (omega (arith, l))
    go (k ∷ []) l f d = absurd (omega (arith, l))
    go (j ∷ k ∷ ks) l f d =
        ap (λ (i : Kind). split_layers name i (j ∷ k ∷ ks) fs) f ∙ layers_split name j (j ∷ k ∷ ks) fs fs d (all_left j (j ∷ k ∷ ks) fs)

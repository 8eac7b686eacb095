-- Arrays.
use Rattle.std.proofs.Common.{ℕ, suc, Some, ◌≡◌, ◌+◌, ◌++◌, List, [], ◌∷◌, refl, ap, ◌∙◌, sym, subst, length, append_assoc, eqb}
use Rattle.std.proofs.lemmas.Bool.{cond-false, ne_eqb}
use Rattle.numerals.specs.Bytes.{is_white, NextFails, drop_while}
use Rattle.json_values.specs.Grammar.{White, Denotes, Elements, Padded, padded, last_element, element, no_elements, elements}
use Rattle.json_values.specs.Lists.{items_list}
use Rattle.json_values.specs.Seen.{json_value}
use Rattle.json_values.specs.Json.{JsonValue, ItemList, no_items, items_of, array}
use Rattle.json_values.specs.declared.json.Json.{Json}
use Rattle.json_read.specs.declared.reader.Fault.{Fault}
use Rattle.json_read.specs.declared.reader.Fault.TheVariants.{Syntax}
use Rattle.json_read.specs.declared.reader.Stop.{Stop}
use Rattle.json_read.specs.declared.reader.Stop.TheVariants as stop
use Rattle.json_read.specs.Machine.{Place, Open, in_array, run, step, fault, value, first_value, after}
use Rattle.json_read.specs.Reading.{Runs, AtFault, PassesAt, BreaksAt, outside, inside, past, ShowsPadded, ArrayText}
use Rattle.numerals.specs.Bytes.{NextIsNot}
use Rattle.json_read.proofs.Names.{ByteFault}
use Rattle.json_read.proofs.Runs.{moves, stops, moves_alike}
use Rattle.json_read.proofs.Sequences.{Then, then_passes_at, then_breaks_at, first_breaks_at, as_breaks_at, as_passes_at, lifted, white_passes, white_append}
use Rattle.json_read.proofs.Values.{SomePadded}
use Rattle.json_read.proofs.Whiles.{next_fails_after}

-- an array that goes on with text, after items: what follows adds its own
abbrev pub ItemsSoFar : ℕ → ItemList → List ℕ → Type 0
ItemsSoFar d items text = (rest : List ℕ) (vs : List JsonValue) → Elements d rest vs → Elements d (text ++ rest) (items_list items ++ vs)

-- ## White space in front

pub pad_padded : {d : ℕ} {t : List ℕ} {v : JsonValue} (w : List ℕ) → White w → Padded d t v → Padded d (w ++ t) v
pad_padded {d} {v = v} w h (padded {w = x} {t = t} {w' = y} a p b) = subst (λ (z : List ℕ). Padded d z v) (append_assoc w x (t ++ y)) (padded (white_append h a) p b)

pad_elements : {d : ℕ} {t : List ℕ} {vs : List JsonValue} (w : List ℕ) → White w → Elements d t vs → Elements d (w ++ t) vs
pad_elements w h (last_element p) = last_element (pad_padded w h p)
pad_elements {d} w h (element {t = t} {rest = rest} {v = v} {vs = vs} p es) = subst (λ (z : List ℕ). Elements d z (v ∷ vs)) (append_assoc w t (44 ∷ rest)) (element (pad_padded w h p) es)

pub first_as_value : (xs : List ℕ) → NextFails is_white xs → NextIsNot 93 xs → Runs first_value value xs xs
unfolding run
first_as_value [] w n d k = refl
first_as_value (b ∷ bs) w n d k =
    moves_alike d first_value value k b bs (cond-false (is_white b) _ _ w ∙ cond-false (eqb b 93) _ _ (ne_eqb b 93 (λ e. n bs (ap (λ (x : ℕ). x ∷ bs) e))) ∙ sym (cond-false (is_white b) _ _ w)) refl

white_in : (d : ℕ) (old new : List ℕ) → new ≡ drop_while is_white old → PassesAt White (inside in_array d first_value) (inside in_array d first_value) old new
white_in d old new e = lifted (inside in_array d first_value) first_value (λ k. refl) (white_passes first_value old new refl e)

-- a bracket that closes
closes : (d : ℕ) (p : Place) (old new : List ℕ) → ((n : ℕ) (k : List Open) → step n p (in_array ∷ k) 93 ≡ Some (after, k)) → old ≡ 93 ∷ new → PassesAt (λ t. t ≡ 93 ∷ []) (inside in_array d p) (past d) old new
closes d p old new s e = record { reads = (93 ∷ [], e, refl); runs = λ k. ap (run (length (in_array ∷ k) + d) p (in_array ∷ k)) e ∙ moves (length (in_array ∷ k) + d) p (in_array ∷ k) 93 new after k (s (length (in_array ∷ k) + d) k) }

no_elements_text : (d : ℕ) (t : List ℕ) → Then White (λ s. s ≡ 93 ∷ []) t → ArrayText d no_items t
no_elements_text d t h = subst (λ (z : List ℕ). Denotes (suc d) (91 ∷ z) (array no_items)) (sym (h.2 ∙ ap (λ (z : List ℕ). h.0 ++ z) h.4)) (no_elements h.3)

pub array_empty : (d : ℕ) (js : ItemList) (old m1 new : List ℕ) → js ≡ no_items → m1 ≡ drop_while is_white old → m1 ≡ 93 ∷ new → PassesAt (ArrayText d js) (inside in_array d first_value) (past d) old new
array_empty d js old m1 new j w e =
    as_passes_at (ArrayText d js) (then_passes_at (white_in d old m1 w) (closes d first_value m1 new (λ n k. refl) e)) (λ x h. subst (λ (i : ItemList). ArrayText d i x) (sym j) (no_elements_text d x h))

pub array_init : (d : ℕ) (js : ItemList) (old m1 new : List ℕ) → js ≡ no_items → m1 ≡ drop_while is_white old → new ≡ m1 → NextIsNot 93 new → PassesAt (ItemsSoFar d js) (inside in_array d first_value) (inside in_array d value) old new
array_init d js old m1 new j w s n =
    let a : PassesAt White (inside in_array d first_value) (inside in_array d first_value) old new = white_in d old new (s ∙ w) in
    record {
      reads = (a.reads.0, a.reads.1, λ rest vs h. subst (λ (i : ItemList). Elements d (a.reads.0 ++ rest) (items_list i ++ vs)) (sym j) (pad_elements a.reads.0 a.reads.2 h));
      runs = λ k. a.runs k ∙ first_as_value new (next_fails_after is_white old new (s ∙ w)) n (length (in_array ∷ k) + d) (in_array ∷ k);
    }

-- ## One more item

within : {R : List ℕ → Type 0} (d : ℕ) (p q : Place) {old new : List ℕ} → PassesAt R (outside d p) (outside d q) old new → PassesAt R (inside in_array d p) (inside in_array d q) old new
within d p q a = record { reads = a.reads; runs = λ k. a.runs (in_array ∷ k) }

comma_in : (d : ℕ) (old new : List ℕ) → old ≡ 44 ∷ new → PassesAt (λ t. t ≡ 44 ∷ []) (inside in_array d after) (inside in_array d value) old new
comma_in d old new e = record { reads = (44 ∷ [], e, refl); runs = λ k. ap (run (length (in_array ∷ k) + d) after (in_array ∷ k)) e ∙ moves (length (in_array ∷ k) + d) after (in_array ∷ k) 44 new value (in_array ∷ k) refl }

-- the items with one more
abbrev pub IsPushed : ItemList → ItemList → Json → Type 0
IsPushed later items j = items_list later ≡ items_list items ++ json_value j ∷ []

items_more : (d : ℕ) (items later : ItemList) (j : Json) (t : List ℕ) → IsPushed later items j → Then (ItemsSoFar d items) (Then (ShowsPadded d j) (λ s. s ≡ 44 ∷ [])) t → ItemsSoFar d later t
items_more d items later j t e h rest vs g =
    let q = h.4 in
    let whole : t ++ rest ≡ h.0 ++ (q.0 ++ (44 ∷ rest)) =
    ap (λ (z : List ℕ). z ++ rest) (h.2 ∙ ap (λ (z : List ℕ). h.0 ++ z) (q.2 ∙ ap (λ (z : List ℕ). q.0 ++ z) q.4)) ∙ append_assoc h.0 (q.0 ++ 44 ∷ []) rest ∙ ap (λ (z : List ℕ). h.0 ++ z) (append_assoc q.0 (44 ∷ []) rest) in
    let all : items_list later ++ vs ≡ items_list items ++ (json_value j ∷ vs) = ap (λ (z : List JsonValue). z ++ vs) e ∙ append_assoc (items_list items) (json_value j ∷ []) vs in
    subst (λ (z : List ℕ). Elements d z (items_list later ++ vs)) (sym whole) (subst (λ (z : List JsonValue). Elements d (h.0 ++ (q.0 ++ (44 ∷ rest))) z) (sym all) (h.3 (q.0 ++ (44 ∷ rest)) (json_value j ∷ vs) (element q.3 g)))

pub array_more : (d : ℕ) (items later : ItemList) (j : Json) (old m1 m2 m3 new : List ℕ) → PassesAt (ItemsSoFar d items) (inside in_array d first_value) (inside in_array d value) old m1 → PassesAt (ShowsPadded d j) (outside d value) (outside d after) m1 m2 → IsPushed later items j → m3 ≡ m2 → m3 ≡ 44 ∷ new → PassesAt (ItemsSoFar d later) (inside in_array d first_value) (inside in_array d value) old new
array_more d items later j old m1 m2 m3 new a p e s c =
    as_passes_at (ItemsSoFar d later) (then_passes_at a (then_passes_at (within d value after p) (comma_in d m2 new (sym s ∙ c)))) (λ x h. items_more d items later j x e h)

items_end : (d : ℕ) (items later : ItemList) (j : Json) (t : List ℕ) → IsPushed later items j → Then (ItemsSoFar d items) (Then (ShowsPadded d j) (λ s. s ≡ 93 ∷ [])) t → ArrayText d later t
items_end d items later j t e h =
    let q = h.4 in
    let whole : t ≡ (h.0 ++ q.0) ++ 93 ∷ [] = h.2 ∙ ap (λ (z : List ℕ). h.0 ++ z) (q.2 ∙ ap (λ (z : List ℕ). q.0 ++ z) q.4) ∙ sym (append_assoc h.0 q.0 (93 ∷ [])) in
    subst (λ (z : List ℕ). Denotes (suc d) (91 ∷ z) (array later)) (sym whole) (elements (subst (Elements d (h.0 ++ q.0)) (sym e) (h.3 q.0 (json_value j ∷ []) (last_element q.3))))

pub array_ends : (d : ℕ) (items later : ItemList) (j : Json) (old m1 m2 new : List ℕ) → PassesAt (ItemsSoFar d items) (inside in_array d first_value) (inside in_array d value) old m1 → PassesAt (ShowsPadded d j) (outside d value) (outside d after) m1 m2 → IsPushed later items j → m2 ≡ 93 ∷ new → PassesAt (ArrayText d later) (inside in_array d first_value) (past d) old new
array_ends d items later j old m1 m2 new a p e c =
    as_passes_at (ArrayText d later) (then_passes_at a (then_passes_at (within d value after p) (closes d after m2 new (λ n k. refl) c))) (λ x h. items_end d items later j x e h)

-- ## Faults

abbrev pub SomeArray : ℕ → List ℕ → Type 0
SomeArray d t = (js : ItemList) × ArrayText d js t

pub items_list-items_of : (vs : List JsonValue) → items_list (items_of vs) ≡ vs
items_list-items_of [] = refl
items_list-items_of (v ∷ vs) = ap (λ (ws : List JsonValue). v ∷ ws) (items_list-items_of vs)

some_array : (d : ℕ) (items : ItemList) (t : List ℕ) → Then (ItemsSoFar d items) (Then (SomePadded d) (λ s. s ≡ 93 ∷ [])) t → SomeArray d t
some_array d items t h =
    let q = h.4 in
    let later : ItemList = items_of (items_list items ++ json_value q.3.0 ∷ []) in
    (later, items_end d items later q.3.0 t (items_list-items_of (items_list items ++ json_value q.3.0 ∷ [])) (h.0, h.1, h.2, h.3, (q.0, q.1, q.2, q.3.1, q.4)))

pub array_item_breaks : (d : ℕ) (items : ItemList) (e : Stop) (old m1 new : List ℕ) → PassesAt (ItemsSoFar d items) (inside in_array d first_value) (inside in_array d value) old m1 → AtFault (λ f. BreaksAt (SomePadded d) (outside d value) f m1 new) e → AtFault (λ f. BreaksAt (SomeArray d) (inside in_array d first_value) f old new) e
array_item_breaks d items stop.Memory old m1 new a h = tt
array_item_breaks d items (stop.Fault f) old m1 new a h =
    let b : BreaksAt (SomePadded d) (inside in_array d value) f m1 new = record { begins = h.begins; fails = λ k. h.fails (in_array ∷ k) } in
    as_breaks_at (SomeArray d) (then_breaks_at a (first_breaks_at (λ s. s ≡ 93 ∷ []) b (93 ∷ [], refl))) (some_array d items)

no_comma : (k : List Open) (n : ℕ) (xs : List ℕ) → NextFails is_white xs → NextIsNot 93 xs → NextIsNot 44 xs → run n after (in_array ∷ k) xs ≡ fault Syntax xs
unfolding run
no_comma k n [] w c m = refl
no_comma k n (b ∷ bs) w c m =
    stops n after (in_array ∷ k) b bs (cond-false (is_white b) _ _ w ∙ cond-false (eqb b 44) _ _ (ne_eqb b 44 (λ e. m bs (ap (λ (x : ℕ). x ∷ bs) e))) ∙ cond-false (eqb b 93) _ _ (ne_eqb b 93 (λ e. c bs (ap (λ (x : ℕ). x ∷ bs) e))))

pub array_comma_breaks : (d : ℕ) (items : ItemList) (j : Json) (e : Stop) (old m1 m2 m3 new : List ℕ) → PassesAt (ItemsSoFar d items) (inside in_array d first_value) (inside in_array d value) old m1 → PassesAt (ShowsPadded d j) (outside d value) (outside d after) m1 m2 → NextFails is_white m2 → m3 ≡ m2 → NextIsNot 93 m3 → AtFault (ByteFault 44 m3 new) e → AtFault (λ f. BreaksAt (SomeArray d) (inside in_array d first_value) f old new) e
array_comma_breaks d items j stop.Memory old m1 m2 m3 new a p w s c h = tt
array_comma_breaks d items j (stop.Fault f) old m1 m2 m3 new a p w s c h =
    let n93 : NextIsNot 93 m2 = subst (NextIsNot 93) s c in
    let n44 : NextIsNot 44 m2 = subst (NextIsNot 44) s h.2 in
    let here : BreaksAt (λ t. t ≡ 93 ∷ []) (inside in_array d after) f m2 new =
    subst (λ (z : List ℕ). BreaksAt (λ t. t ≡ 93 ∷ []) (inside in_array d after) f m2 z) (sym (h.1 ∙ s)) (subst (λ (g : Fault). BreaksAt (λ t. t ≡ 93 ∷ []) (inside in_array d after) g m2 m2) (sym h.0) (record { begins = ([], 93 ∷ [], refl, refl); fails = λ k. no_comma k (length (in_array ∷ k) + d) m2 w n93 n44 })) in
    as_breaks_at (SomeArray d) (then_breaks_at a (then_breaks_at (within d value after p) here)) (λ x t. let q = t.4 in some_array d items x (t.0, t.1, t.2, t.3, (q.0, q.1, q.2, (j, q.3), q.4)))

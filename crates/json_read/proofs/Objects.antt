-- Objects.
use Rattle.std.proofs.Common.{ℕ, suc, Some, ◌≡◌, ◌+◌, ◌++◌, List, [], ◌∷◌, refl, ap, ◌∙◌, sym, subst, length, append_assoc, eqb, codes}
use Rattle.std.proofs.lemmas.Bool.{cond-false, ne_eqb}
use Rattle.numerals.specs.Bytes.{is_white, NextFails, drop_while}
use Rattle.json_values.specs.Grammar.{White, no_white, Denotes, is_null, Members, padded, last_member, member, no_members, members}
use Rattle.json_values.specs.Lists.{fields_list, merged, put}
use Rattle.json_values.specs.Seen.{json_value}
use Rattle.json_values.specs.Json.{JsonValue, FieldList, no_fields, fields_of, object}
use Rattle.json_values.specs.declared.json.Json.{Json}
use Rattle.json_values.specs.declared.json.Json.TheVariants as json
use Rattle.json_read.specs.declared.reader.Fault.{Fault}
use Rattle.json_read.specs.declared.reader.Fault.TheVariants.{Syntax}
use Rattle.json_read.specs.declared.reader.Stop.{Stop}
use Rattle.json_read.specs.declared.reader.Stop.TheVariants as stop
use Rattle.json_read.specs.Machine.{Place, Open, in_object, run, step, fault, value, first_name, next_name, after}
use Rattle.json_read.specs.Reading.{Runs, Passes, Breaks, AtFault, MembersSoFar, NameText, PassesAt, BreaksAt, outside, inside, past, ShowsPadded, ObjectText}
use Rattle.numerals.specs.Bytes.{NextIsNot}
use Rattle.json_read.proofs.Names.{ByteFault, SomeName}
use Rattle.json_read.proofs.Runs.{moves, stops, moves_alike}
use Rattle.json_read.proofs.Sequences.{Then, then_passes_at, then_breaks_at, first_breaks_at, as_breaks_at, as_passes_at, lifted, lifted_breaks, white_passes, white_append}
use Rattle.json_read.proofs.Values.{SomePadded}
use Rattle.json_read.proofs.Whiles.{next_fails_after}

abbrev pub Member : Type 0
Member = List ℕ × JsonValue

-- ## White space in front

pad_members : {d : ℕ} {t : List ℕ} {ms : List Member} (u : List ℕ) → White u → Members d t ms → Members d (u ++ t) ms
pad_members {d} u h (last_member {w = w} {n = n} {w' = w'} {t = t} {name = name} {v = v} a q b p) =
    subst (λ (z : List ℕ). Members d z ((name, v) ∷ [])) (append_assoc u w (n ++ (w' ++ (58 ∷ t)))) (last_member (white_append h a) q b p)
pad_members {d} u h (member {w = w} {n = n} {w' = w'} {t = t} {name = name} {rest = rest} {v = v} {ms = ms} a q b p more) =
    subst (λ (z : List ℕ). Members d z ((name, v) ∷ ms)) (append_assoc u w (n ++ (w' ++ (58 ∷ (t ++ (44 ∷ rest)))))) (member (white_append h a) q b p more)

pub first_as_name : (xs : List ℕ) → NextFails is_white xs → NextIsNot 125 xs → Runs first_name next_name xs xs
unfolding run
first_as_name [] w n d k = refl
first_as_name (b ∷ bs) w n d k =
    moves_alike d first_name next_name k b bs (cond-false (is_white b) _ _ w ∙ cond-false (eqb b 125) _ _ (ne_eqb b 125 (λ e. n bs (ap (λ (x : ℕ). x ∷ bs) e))) ∙ sym (cond-false (is_white b) _ _ w)) refl

white_in : (d : ℕ) (old new : List ℕ) → new ≡ drop_while is_white old → PassesAt White (inside in_object d first_name) (inside in_object d first_name) old new
white_in d old new e = lifted (inside in_object d first_name) first_name (λ k. refl) (white_passes first_name old new refl e)

-- a brace that closes
closes : (d : ℕ) (p : Place) (old new : List ℕ) → ((n : ℕ) (k : List Open) → step n p (in_object ∷ k) 125 ≡ Some (after, k)) → old ≡ 125 ∷ new → PassesAt (λ t. t ≡ 125 ∷ []) (inside in_object d p) (past d) old new
closes d p old new s e = record { reads = (125 ∷ [], e, refl); runs = λ k. ap (run (length (in_object ∷ k) + d) p (in_object ∷ k)) e ∙ moves (length (in_object ∷ k) + d) p (in_object ∷ k) 125 new after k (s (length (in_object ∷ k) + d) k) }

no_members_text : (d : ℕ) (t : List ℕ) → Then White (λ s. s ≡ 125 ∷ []) t → ObjectText d no_fields t
no_members_text d t h = subst (λ (z : List ℕ). Denotes (suc d) (123 ∷ z) (object no_fields)) (sym (h.2 ∙ ap (λ (z : List ℕ). h.0 ++ z) h.4)) (no_members h.3)

pub object_empty : (d : ℕ) (fs : FieldList) (old m1 new : List ℕ) → fs ≡ no_fields → m1 ≡ drop_while is_white old → m1 ≡ 125 ∷ new → PassesAt (ObjectText d fs) (inside in_object d first_name) (past d) old new
object_empty d fs old m1 new j w e =
    as_passes_at (ObjectText d fs) (then_passes_at (white_in d old m1 w) (closes d first_name m1 new (λ n k. refl) e)) (λ x h. subst (λ (i : FieldList). ObjectText d i x) (sym j) (no_members_text d x h))

pub object_init : (d : ℕ) (fs : FieldList) (old m1 new : List ℕ) → fs ≡ no_fields → m1 ≡ drop_while is_white old → new ≡ m1 → NextIsNot 125 new → PassesAt (MembersSoFar d fs) (inside in_object d first_name) (inside in_object d next_name) old new
object_init d fs old m1 new j w s n =
    let a : PassesAt White (inside in_object d first_name) (inside in_object d first_name) old new = white_in d old new (s ∙ w) in
    record {
      reads = (a.reads.0, a.reads.1, λ rest ms h. (ms, (pad_members a.reads.0 a.reads.2 h, ap (λ (i : FieldList). merged (fields_list i) ms) (sym j))));
      runs = λ k. a.runs k ∙ first_as_name new (next_fails_after is_white old new (s ∙ w)) n (length (in_object ∷ k) + d) (in_object ∷ k);
    }

-- ## One more member

within : {R : List ℕ → Type 0} (d : ℕ) (p q : Place) {old new : List ℕ} → PassesAt R (outside d p) (outside d q) old new → PassesAt R (inside in_object d p) (inside in_object d q) old new
within d p q a = record { reads = a.reads; runs = λ k. a.runs (in_object ∷ k) }

name_in : (d : ℕ) (name old new : List ℕ) → Passes (NameText name) next_name value old new → PassesAt (NameText name) (inside in_object d next_name) (inside in_object d value) old new
name_in d name old new a = lifted (inside in_object d next_name) value (λ k. refl) a

comma_in : (d : ℕ) (old new : List ℕ) → old ≡ 44 ∷ new → PassesAt (λ t. t ≡ 44 ∷ []) (inside in_object d after) (inside in_object d next_name) old new
comma_in d old new e = record { reads = (44 ∷ [], e, refl); runs = λ k. ap (run (length (in_object ∷ k) + d) after (in_object ∷ k)) e ∙ moves (length (in_object ∷ k) + d) after (in_object ∷ k) 44 new next_name (in_object ∷ k) refl }

-- the fields with one more member
abbrev pub IsPut : FieldList → FieldList → List ℕ → Json → Type 0
IsPut later fields name j = fields_list later ≡ put (fields_list fields) name (json_value j)

-- a name with its colon, and what follows
name_joins : (name x z : List ℕ) (h : NameText name x) → x ++ z ≡ h.0 ++ (h.1 ++ (h.2 ++ (58 ∷ z)))
name_joins name x z h = ap (λ (y : List ℕ). y ++ z) h.3 ∙ append_assoc h.0 (h.1 ++ (h.2 ++ 58 ∷ [])) z ∙ ap (λ (y : List ℕ). h.0 ++ y) (append_assoc h.1 (h.2 ++ 58 ∷ []) z ∙ ap (λ (y : List ℕ). h.1 ++ y) (append_assoc h.2 (58 ∷ []) z))

abbrev MemberEnds : ℕ → List ℕ → Json → ℕ → List ℕ → Type 0
MemberEnds d name j b = Then (NameText name) (Then (ShowsPadded d j) (λ s. s ≡ b ∷ []))

members_more : (d : ℕ) (fields later : FieldList) (name : List ℕ) (j : Json) (t : List ℕ) → IsPut later fields name j → Then (MembersSoFar d fields) (MemberEnds d name j 44) t → MembersSoFar d later t
members_more d fields later name j t e h rest ms g =
    let q = h.4 in
    let p = q.4 in
    let n = q.3 in
    let whole : t ++ rest ≡ h.0 ++ (n.0 ++ (n.1 ++ (n.2 ++ (58 ∷ (p.0 ++ (44 ∷ rest)))))) =
    ap (λ (z : List ℕ). z ++ rest) (h.2 ∙ ap (λ (z : List ℕ). h.0 ++ z) (q.2 ∙ ap (λ (z : List ℕ). q.0 ++ z) (p.2 ∙ ap (λ (z : List ℕ). p.0 ++ z) p.4))) ∙ append_assoc h.0 (q.0 ++ (p.0 ++ 44 ∷ [])) rest ∙ ap (λ (z : List ℕ). h.0 ++ z) (append_assoc q.0 (p.0 ++ 44 ∷ []) rest ∙ ap (λ (z : List ℕ). q.0 ++ z) (append_assoc p.0 (44 ∷ []) rest) ∙ name_joins name q.0 (p.0 ++ (44 ∷ rest)) n) in
    let all : (all : List Member) × (Members d (h.0 ++ (n.0 ++ (n.1 ++ (n.2 ++ (58 ∷ (p.0 ++ (44 ∷ rest))))))) all × (merged [] all ≡ merged (fields_list fields) ((name, json_value j) ∷ ms))) = h.3 (n.0 ++ (n.1 ++ (n.2 ++ (58 ∷ (p.0 ++ (44 ∷ rest)))))) ((name, json_value j) ∷ ms) (member n.4 n.5 n.6 p.3 g) in
    (all.0, (subst (λ (z : List ℕ). Members d z all.0) (sym whole) all.1.0, all.1.1 ∙ ap (λ (fs : List Member). merged fs ms) (sym e)))

members_end : (d : ℕ) (fields later : FieldList) (name : List ℕ) (j : Json) (t : List ℕ) → IsPut later fields name j → Then (MembersSoFar d fields) (MemberEnds d name j 125) t → ObjectText d later t
members_end d fields later name j t e h =
    let q = h.4 in
    let p = q.4 in
    let n = q.3 in
    let inner : List ℕ = h.0 ++ (n.0 ++ (n.1 ++ (n.2 ++ (58 ∷ p.0)))) in
    let whole : t ≡ inner ++ 125 ∷ [] =
    h.2 ∙ ap (λ (z : List ℕ). h.0 ++ z) (q.2 ∙ ap (λ (z : List ℕ). q.0 ++ z) (p.2 ∙ ap (λ (z : List ℕ). p.0 ++ z) p.4)) ∙ ap (λ (z : List ℕ). h.0 ++ z) (sym (append_assoc q.0 p.0 (125 ∷ []))) ∙ sym (append_assoc h.0 (q.0 ++ p.0) (125 ∷ [])) ∙ ap (λ (z : List ℕ). (h.0 ++ z) ++ 125 ∷ []) (name_joins name q.0 p.0 n) in
    let all : (all : List Member) × (Members d inner all × (merged [] all ≡ merged (fields_list fields) ((name, json_value j) ∷ []))) = h.3 (n.0 ++ (n.1 ++ (n.2 ++ (58 ∷ p.0)))) ((name, json_value j) ∷ []) (last_member n.4 n.5 n.6 p.3) in
    subst (λ (z : List ℕ). Denotes (suc d) (123 ∷ z) (object later)) (sym whole) (members all.1.0 (e ∙ sym all.1.1))

pub object_more : (d : ℕ) (fields later : FieldList) (name : List ℕ) (j : Json) (old m1 m2 m3 m4 new : List ℕ) → PassesAt (MembersSoFar d fields) (inside in_object d first_name) (inside in_object d next_name) old m1 → Passes (NameText name) next_name value m1 m2 → PassesAt (ShowsPadded d j) (outside d value) (outside d after) m2 m3 → IsPut later fields name j → m4 ≡ m3 → m4 ≡ 44 ∷ new → PassesAt (MembersSoFar d later) (inside in_object d first_name) (inside in_object d next_name) old new
object_more d fields later name j old m1 m2 m3 m4 new a n p e s c =
    as_passes_at (MembersSoFar d later) (then_passes_at a (then_passes_at (name_in d name m1 m2 n) (then_passes_at (within d value after p) (comma_in d m3 new (sym s ∙ c))))) (λ x h. members_more d fields later name j x e h)

pub object_ends : (d : ℕ) (fields later : FieldList) (name : List ℕ) (j : Json) (old m1 m2 m3 new : List ℕ) → PassesAt (MembersSoFar d fields) (inside in_object d first_name) (inside in_object d next_name) old m1 → Passes (NameText name) next_name value m1 m2 → PassesAt (ShowsPadded d j) (outside d value) (outside d after) m2 m3 → IsPut later fields name j → m3 ≡ 125 ∷ new → PassesAt (ObjectText d later) (inside in_object d first_name) (past d) old new
object_ends d fields later name j old m1 m2 m3 new a n p e c =
    as_passes_at (ObjectText d later) (then_passes_at a (then_passes_at (name_in d name m1 m2 n) (then_passes_at (within d value after p) (closes d after m3 new (λ i k. refl) c)))) (λ x h. members_end d fields later name j x e h)

-- ## Faults

abbrev pub SomeObject : ℕ → List ℕ → Type 0
SomeObject d t = (fs : FieldList) × ObjectText d fs t

fields_list-fields_of : (fs : List Member) → fields_list (fields_of fs) ≡ fs
fields_list-fields_of [] = refl
fields_list-fields_of (f ∷ fs) = ap (λ (gs : List Member). f ∷ gs) (fields_list-fields_of fs)

abbrev SomeMemberEnds : ℕ → List ℕ → Type 0
SomeMemberEnds d = Then SomeName (Then (SomePadded d) (λ s. s ≡ 125 ∷ []))

some_object : (d : ℕ) (fields : FieldList) (t : List ℕ) → Then (MembersSoFar d fields) (SomeMemberEnds d) t → SomeObject d t
some_object d fields t h =
    let q = h.4 in
    let p = q.4 in
    let later : FieldList = fields_of (put (fields_list fields) q.3.0 (json_value p.3.0)) in
    (later, members_end d fields later q.3.0 p.3.0 t (fields_list-fields_of (put (fields_list fields) q.3.0 (json_value p.3.0))) (h.0, h.1, h.2, h.3, (q.0, q.1, q.2, q.3.1, (p.0, p.1, p.2, p.3.1, p.4))))

a_brace : (t : List ℕ) × (t ≡ 125 ∷ [])
a_brace = (125 ∷ [], refl)

a_value : (d : ℕ) → (t : List ℕ) × Then (SomePadded d) (λ s. s ≡ 125 ∷ []) t
a_value d = (codes "null" ++ 125 ∷ [], (codes "null", 125 ∷ [], refl, (json.Null, padded no_white is_null no_white), refl))

pub object_name_breaks : (d : ℕ) (fs : FieldList) (e : Stop) (old m1 new : List ℕ) → PassesAt (MembersSoFar d fs) (inside in_object d first_name) (inside in_object d next_name) old m1 → AtFault (λ f. Breaks SomeName next_name f m1 new) e → AtFault (λ f. BreaksAt (SomeObject d) (inside in_object d first_name) f old new) e
object_name_breaks d fs stop.Memory old m1 new a h = tt
object_name_breaks d fs (stop.Fault f) old m1 new a h =
    as_breaks_at (SomeObject d) (then_breaks_at a (first_breaks_at (Then (SomePadded d) (λ s. s ≡ 125 ∷ [])) (lifted_breaks (inside in_object d next_name) (λ k. refl) h) (a_value d))) (some_object d fs)

pub object_item_breaks : (d : ℕ) (fs : FieldList) (name : List ℕ) (e : Stop) (old m1 m2 new : List ℕ) → PassesAt (MembersSoFar d fs) (inside in_object d first_name) (inside in_object d next_name) old m1 → Passes (NameText name) next_name value m1 m2 → AtFault (λ f. BreaksAt (SomePadded d) (outside d value) f m2 new) e → AtFault (λ f. BreaksAt (SomeObject d) (inside in_object d first_name) f old new) e
object_item_breaks d fs name stop.Memory old m1 m2 new a n h = tt
object_item_breaks d fs name (stop.Fault f) old m1 m2 new a n h =
    let b : BreaksAt (SomePadded d) (inside in_object d value) f m2 new = record { begins = h.begins; fails = λ k. h.fails (in_object ∷ k) } in
    as_breaks_at (SomeObject d) (then_breaks_at a (then_breaks_at (name_in d name m1 m2 n) (first_breaks_at (λ s. s ≡ 125 ∷ []) b a_brace))) (λ x t. let q = t.4 in some_object d fs x (t.0, t.1, t.2, t.3, (q.0, q.1, q.2, (name, q.3), q.4)))

no_comma : (k : List Open) (n : ℕ) (xs : List ℕ) → NextFails is_white xs → NextIsNot 125 xs → NextIsNot 44 xs → run n after (in_object ∷ k) xs ≡ fault Syntax xs
unfolding run
no_comma k n [] w c m = refl
no_comma k n (b ∷ bs) w c m =
    stops n after (in_object ∷ k) b bs (cond-false (is_white b) _ _ w ∙ cond-false (eqb b 44) _ _ (ne_eqb b 44 (λ e. m bs (ap (λ (x : ℕ). x ∷ bs) e))) ∙ cond-false (eqb b 125) _ _ (ne_eqb b 125 (λ e. c bs (ap (λ (x : ℕ). x ∷ bs) e))))

pub object_comma_breaks : (d : ℕ) (fs : FieldList) (name : List ℕ) (j : Json) (e : Stop) (old m1 m2 m3 m4 new : List ℕ) → PassesAt (MembersSoFar d fs) (inside in_object d first_name) (inside in_object d next_name) old m1 → Passes (NameText name) next_name value m1 m2 → PassesAt (ShowsPadded d j) (outside d value) (outside d after) m2 m3 → NextFails is_white m3 → m4 ≡ m3 → NextIsNot 125 m4 → AtFault (ByteFault 44 m4 new) e → AtFault (λ f. BreaksAt (SomeObject d) (inside in_object d first_name) f old new) e
object_comma_breaks d fs name j stop.Memory old m1 m2 m3 m4 new a n p w s c h = tt
object_comma_breaks d fs name j (stop.Fault f) old m1 m2 m3 m4 new a n p w s c h =
    let n125 : NextIsNot 125 m3 = subst (NextIsNot 125) s c in
    let n44 : NextIsNot 44 m3 = subst (NextIsNot 44) s h.2 in
    let here : BreaksAt (λ t. t ≡ 125 ∷ []) (inside in_object d after) f m3 new =
    subst (λ (z : List ℕ). BreaksAt (λ t. t ≡ 125 ∷ []) (inside in_object d after) f m3 z) (sym (h.1 ∙ s)) (subst (λ (g : Fault). BreaksAt (λ t. t ≡ 125 ∷ []) (inside in_object d after) g m3 m3) (sym h.0) (record { begins = ([], 125 ∷ [], refl, refl); fails = λ k. no_comma k (length (in_object ∷ k) + d) m3 w n125 n44 })) in
    as_breaks_at (SomeObject d) (then_breaks_at a (then_breaks_at (name_in d name m1 m2 n) (then_breaks_at (within d value after p) here))) (λ x t. let q = t.4 in let r = q.4 in some_object d fs x (t.0, t.1, t.2, t.3, (q.0, q.1, q.2, (name, q.3), (r.0, r.1, r.2, (j, r.3), r.4))))

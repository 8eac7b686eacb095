-- A whole text: the byte order mark, a value, and the end.
use Rattle.std.proofs.Common.{ℕ, Some, ◌≡◌, ◌++◌, List, [], ◌∷◌, refl, ap, ◌∙◌, sym, subst, arith, cond, eqb, codes, append-nil}
use Rattle.std.proofs.lemmas.Bool.{cond-false, ne_eqb}
use Rattle.numerals.specs.Bytes.{is_white, NextFails}
use Rattle.json_values.specs.Grammar.{no_white, is_null, Padded, padded, Mark, no_mark, mark, JsonText, text}
use Rattle.json_values.specs.Seen.{json_value}
use Rattle.json_values.specs.Json.{JsonValue}
use Rattle.json_values.specs.declared.json.Json.{Json}
use Rattle.json_values.specs.declared.json.Json.TheVariants as json
use Rattle.json_read.specs.declared.reader.Fault.{Fault}
use Rattle.json_read.specs.declared.reader.Fault.TheVariants.{Syntax}
use Rattle.json_read.specs.declared.reader.Stop.{Stop}
use Rattle.json_read.specs.declared.reader.Stop.TheVariants as stop
use Rattle.json_read.specs.Machine.{Place, Moves, run, fault, start, in_mark, value, after}
use Rattle.json_read.specs.Reading.{Reads, Runs, Fails, Passes, Breaks, AtFault, PassesAt, BreaksAt, outside, ShowsPadded, FaultsAt}
use Rattle.numerals.specs.Bytes.{NextIsNot}
use Rattle.json_read.proofs.Names.{ByteFault}
use Rattle.json_read.proofs.Parts.{passes_none, passes_one, breaks_here}
use Rattle.json_read.proofs.Runs.{stops, moves_alike}
use Rattle.json_read.proofs.Sequences.{Then, then_passes, then_breaks, first_breaks, as_breaks, reads_then, breaks_second, breaks_first, breaks_as}
use Rattle.json_read.proofs.Values.{SomePadded}

-- ## The byte order mark

pub start_as_value : (xs : List ℕ) → NextIsNot 0xEF xs → Runs start value xs xs
unfolding run
start_as_value [] n d k = refl
start_as_value (b ∷ bs) n d k =
    moves_alike d start value k b bs (ap (λ (m : Moves). cond (is_white b) (Some (value, k)) m) (cond-false (eqb b 0xEF) _ _ (ne_eqb b 0xEF (λ e. n bs (ap (λ (x : ℕ). x ∷ bs) e))))) refl

pub no_mark_passes : (old new : List ℕ) → new ≡ old → NextIsNot 0xEF new → Passes Mark start value old new
no_mark_passes old new e n = passes_none Mark e no_mark (start_as_value old (subst (NextIsNot 0xEF) e n))

abbrev One : ℕ → List ℕ → Type 0
One b t = t ≡ b ∷ []

mark_first : (old new : List ℕ) → old ≡ 0xEF ∷ new → Passes (One 0xEF) start (in_mark (0xBB ∷ 0xBF ∷ [])) old new
mark_first old new e = passes_one (One 0xEF) e refl (λ d k. refl)

mark_second : (old new : List ℕ) → old ≡ 0xBB ∷ new → Passes (One 0xBB) (in_mark (0xBB ∷ 0xBF ∷ [])) (in_mark (0xBF ∷ [])) old new
mark_second old new e = passes_one (One 0xBB) e refl (λ d k. refl)

mark_third : (old new : List ℕ) → old ≡ 0xBF ∷ new → Passes (One 0xBF) (in_mark (0xBF ∷ [])) value old new
mark_third old new e = passes_one (One 0xBF) e refl (λ d k. refl)

no_second : (xs : List ℕ) → NextIsNot 0xBB xs → Fails (in_mark (0xBB ∷ 0xBF ∷ [])) Syntax xs xs
unfolding run
no_second [] n d k = refl
no_second (b ∷ bs) n d k = stops d (in_mark (0xBB ∷ 0xBF ∷ [])) k b bs (cond-false (eqb b 0xBB) _ _ (ne_eqb b 0xBB (λ e. n bs (ap (λ (x : ℕ). x ∷ bs) e))))

no_third : (xs : List ℕ) → NextIsNot 0xBF xs → Fails (in_mark (0xBF ∷ [])) Syntax xs xs
unfolding run
no_third [] n d k = refl
no_third (b ∷ bs) n d k = stops d (in_mark (0xBF ∷ [])) k b bs (cond-false (eqb b 0xBF) _ _ (ne_eqb b 0xBF (λ e. n bs (ap (λ (x : ℕ). x ∷ bs) e))))

mark_text : (t : List ℕ) → Then (One 0xEF) (Then (One 0xBB) (One 0xBF)) t → Mark t
mark_text t h =
    let q = h.4 in
    subst Mark (sym (h.2 ∙ ap (λ (z : List ℕ). z ++ h.1) h.3 ∙ ap (λ (z : List ℕ). 0xEF ∷ z) (q.2 ∙ ap (λ (z : List ℕ). z ++ q.1) q.3 ∙ ap (λ (z : List ℕ). 0xBB ∷ z) q.4))) mark

abbrev SomeMark : List ℕ → Type 0
SomeMark t = (u : Unit {0}) × Mark t

byte_breaks : (b : ℕ) (p : Place) (f : Fault) (old new : List ℕ) → ByteFault b old new f → Fails p Syntax old old → Breaks (One b) p f old new
byte_breaks b p f old new h g = subst (λ (s : Fault). Breaks (One b) p s old new) (sym h.0) (breaks_here (One b) h.1 (b ∷ [], refl) g)

pub mark_second_breaks : (e : Stop) (old m1 new : List ℕ) → old ≡ 0xEF ∷ m1 → AtFault (ByteFault 0xBB m1 new) e → AtFault (λ f. Breaks SomeMark start f old new) e
mark_second_breaks stop.Memory old m1 new a h = tt
mark_second_breaks (stop.Fault f) old m1 new a h =
    as_breaks SomeMark (then_breaks (mark_first old m1 a) (first_breaks (One 0xBF) (byte_breaks 0xBB (in_mark (0xBB ∷ 0xBF ∷ [])) f m1 new h (no_second m1 h.2)) (0xBF ∷ [], refl))) (λ x t. (tt, mark_text x t))

pub mark_third_breaks : (e : Stop) (old m1 m2 new : List ℕ) → old ≡ 0xEF ∷ m1 → m1 ≡ 0xBB ∷ m2 → AtFault (ByteFault 0xBF m2 new) e → AtFault (λ f. Breaks SomeMark start f old new) e
mark_third_breaks stop.Memory old m1 m2 new a b h = tt
mark_third_breaks (stop.Fault f) old m1 m2 new a b h =
    as_breaks SomeMark (then_breaks (mark_first old m1 a) (then_breaks (mark_second m1 m2 b) (byte_breaks 0xBF (in_mark (0xBF ∷ [])) f m2 new h (no_third m2 h.2)))) (λ x t. (tt, mark_text x t))

pub mark_passes : (old m1 m2 new : List ℕ) → old ≡ 0xEF ∷ m1 → m1 ≡ 0xBB ∷ m2 → m2 ≡ 0xBF ∷ new → Passes Mark start value old new
mark_passes old m1 m2 new a b c =
    let p : Passes (Then (One 0xEF) (Then (One 0xBB) (One 0xBF))) start value old new = then_passes (mark_first old m1 a) (then_passes (mark_second m1 m2 b) (mark_third m2 new c)) in
    record { reads = (p.reads.0, p.reads.1, mark_text p.reads.0 p.reads.2); runs = p.runs }

-- ## The whole text

abbrev pub SomeText : ℕ → List ℕ → Type 0
SomeText d t = (v : JsonValue) × JsonText d t v

text_of : (d : ℕ) (v : JsonValue) (t : List ℕ) → Then Mark (λ s. Padded d s v) t → JsonText d t v
text_of d v t h = subst (λ (z : List ℕ). JsonText d z v) (sym h.2) (text h.3 h.4)

some_text : (d : ℕ) (t : List ℕ) → Then Mark (SomePadded d) t → SomeText d t
some_text d t h = (json_value h.4.0, text_of d (json_value h.4.0) t (h.0, h.1, h.2, h.3, h.4.1))

a_padded : (d : ℕ) → (t : List ℕ) × SomePadded d t
a_padded d = (codes "null", (json.Null, padded no_white is_null no_white))

pub text_mark : (d : ℕ) (e : Stop) (old new : List ℕ) → AtFault (λ f. Breaks SomeMark start f old new) e → AtFault (λ f. FaultsAt d f old new) e
text_mark d stop.Memory old new h = tt
text_mark d (stop.Fault f) old new h = record {
  begins = breaks_as (SomeText d) (breaks_first (SomePadded d) (breaks_as {A = SomeMark} Mark h.begins (λ x m. m.1)) (a_padded d)) (some_text d);
  fails = h.fails d [];
}

pub text_value : (d : ℕ) (e : Stop) (old mid new : List ℕ) → Passes Mark start value old mid → AtFault (λ f. BreaksAt (SomePadded d) (outside d value) f mid new) e → AtFault (λ f. FaultsAt d f old new) e
text_value d stop.Memory old mid new m h = tt
text_value d (stop.Fault f) old mid new m h = record {
  begins = breaks_as (SomeText d) (breaks_second m.reads h.begins) (some_text d);
  fails = m.runs d [] ∙ ap (λ (n : ℕ). run n value [] mid) (omega arith) ∙ h.fails [];
}

no_end : (d : ℕ) (xs : List ℕ) → NextFails is_white xs → (xs ≡ [] → ⊥) → run d after [] xs ≡ fault Syntax xs
no_end d [] w n = absurd (n refl)
no_end d (b ∷ bs) w n = stops d after [] b bs (cond-false (is_white b) _ _ w)

pub text_end : (d : ℕ) (j : Json) (old mid new : List ℕ) → Passes Mark start value old mid → PassesAt (ShowsPadded d j) (outside d value) (outside d after) mid new → NextFails is_white new → (new ≡ [] → ⊥) → FaultsAt d Syntax old new
text_end d j old mid new m a w n =
    let r : Reads (SomeText d) old new = (let t : Reads (Then Mark (ShowsPadded d j)) old new = reads_then m.reads a.reads in (t.0, t.1, (json_value j, text_of d (json_value j) t.0 t.2))) in
    record {
      begins = (r.0, [], r.1, subst (SomeText d) (sym (append-nil r.0)) r.2);
      fails = m.runs d [] ∙ ap (λ (i : ℕ). run i value [] mid) (omega arith) ∙ a.runs [] ∙ ap (λ (i : ℕ). run i after [] new) (omega arith) ∙ no_end d new w n;
    }

pub text_whole : (d : ℕ) (j : Json) (old mid new : List ℕ) → Passes Mark start value old mid → PassesAt (ShowsPadded d j) (outside d value) (outside d after) mid new → new ≡ [] → JsonText d old (json_value j)
text_whole d j old mid new m a e =
    let t : Reads (Then Mark (ShowsPadded d j)) old new = reads_then m.reads a.reads in
    subst (λ (z : List ℕ). JsonText d z (json_value j)) (sym (t.1 ∙ ap (λ (z : List ℕ). t.0 ++ z) e ∙ append-nil t.0)) (text_of d (json_value j) t.0 t.2)

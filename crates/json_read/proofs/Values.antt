-- Values and arrays.
use Rattle.std.proofs.Common.{ℕ, suc, None, ◌≡◌, ◌+◌, ◌++◌, ◌<◌, ◌≤◌, List, [], ◌∷◌, true, false, refl, ap, ◌∙◌, sym, subst, length, arith, eqb, ltb, codes, ◌⊎◌}
use Rattle.std.proofs.lemmas.Bool.{cond-true, cond-false, ne_eqb, lt-ltb, le-ltb}
use Rattle.std.proofs.lemmas.Bool.Decides.{nat_tests}
use Rattle.numerals.specs.Bytes.{is_white, is_nonzero_digit, NextFails, drop_while}
use Rattle.json_values.specs.Grammar.{White, no_white, Quoted, quoted, Denotes, is_null, is_number, is_string, Padded, padded}
use Rattle.json_values.specs.Seen.{json_value}
use Rattle.json_values.specs.Json.{JsonValue, number}
use Rattle.json_values.specs.declared.json.Json.{Json}
use Rattle.json_values.specs.declared.json.Json.TheVariants as json
use Rattle.json_read.specs.declared.reader.Fault.{Fault}
use Rattle.json_read.specs.declared.reader.Fault.TheVariants.{Syntax, Depth}
use Rattle.json_read.specs.declared.reader.Stop.{Stop}
use Rattle.json_read.specs.declared.reader.Stop.TheVariants as stop
use Rattle.json_read.specs.Machine.{Place, Open, run, step, fault, opens_deeper, opens, value, after, in_string, is_value, in_word}
use Rattle.json_read.specs.Reading.{Runs, Passes, Breaks, AtFault, ClosesAs, NumeralOf, run_at, PassesAt, BreaksAt, outside, inside, past, Shows, ShowsPadded}
use Rattle.json_read.proofs.Parts.{passes_one}
use Rattle.json_read.proofs.Runs.{moves, stops, moves_alike}
use Rattle.json_read.proofs.Sequences.{Then, then_passes_at, then_breaks_at, first_breaks_at, as_breaks_at, as_passes_at, lifted, lifted_breaks, white_passes}

-- ## White space around a value

pub white_at : (d : ℕ) (old new : List ℕ) → new ≡ drop_while is_white old → PassesAt White (outside d value) (outside d value) old new
white_at d old new e = lifted (outside d value) value (λ k. refl) (white_passes value old new refl e)

white_after : (d : ℕ) (old new : List ℕ) → new ≡ drop_while is_white old → PassesAt White (outside d after) (outside d after) old new
white_after d old new e = lifted (outside d after) after (λ k. refl) (white_passes after old new refl e)

padded_text : (d : ℕ) (v : JsonValue) (t : List ℕ) → Then White (Then (λ s. Denotes d s v) White) t → Padded d t v
padded_text d v t h = let q = h.4 in subst (λ (z : List ℕ). Padded d z v) (sym (h.2 ∙ ap (λ (z : List ℕ). h.0 ++ z) q.2)) (padded h.3 q.3 q.4)

pub padded_passes : (d : ℕ) (j : Json) (old m1 m2 new : List ℕ) → m1 ≡ drop_while is_white old → PassesAt (Shows d j) (outside d value) (outside d after) m1 m2 → new ≡ drop_while is_white m2 → PassesAt (ShowsPadded d j) (outside d value) (outside d after) old new
padded_passes d j old m1 m2 new w a u = as_passes_at (ShowsPadded d j) (then_passes_at (white_at d old m1 w) (then_passes_at a (white_after d m2 new u))) (padded_text d (json_value j))

abbrev pub SomeShown : ℕ → List ℕ → Type 0
SomeShown d t = (j : Json) × Shows d j t

abbrev pub SomePadded : ℕ → List ℕ → Type 0
SomePadded d t = (j : Json) × ShowsPadded d j t

some_padded : (d : ℕ) (t : List ℕ) → Then White (Then (SomeShown d) White) t → SomePadded d t
some_padded d t h = let q = h.4 in (q.3.0, padded_text d (json_value q.3.0) t (h.0, h.1, h.2, h.3, (q.0, q.1, q.2, q.3.1, q.4)))

pub padded_breaks : (d : ℕ) (e : Stop) (old m1 new : List ℕ) → m1 ≡ drop_while is_white old → AtFault (λ f. BreaksAt (SomeShown d) (outside d value) f m1 new) e → AtFault (λ f. BreaksAt (SomePadded d) (outside d value) f old new) e
padded_breaks d stop.Memory old m1 new w h = tt
padded_breaks d (stop.Fault f) old m1 new w h = as_breaks_at (SomePadded d) (then_breaks_at (white_at d old m1 w) (first_breaks_at White h ([], no_white))) (some_padded d)

-- ## Values that hold no others

quote_value : (d : ℕ) (old new : List ℕ) → old ≡ 34 ∷ new → PassesAt (λ t. t ≡ 34 ∷ []) (outside d value) (outside d (in_string is_value)) old new
quote_value d old new e = lifted (outside d value) (in_string is_value) (λ k. refl) (passes_one (λ t. t ≡ 34 ∷ []) e refl (λ n k. refl))

quoted_text : (bytes t : List ℕ) → Then (λ s. s ≡ 34 ∷ []) (ClosesAs bytes) t → Quoted t bytes
quoted_text bytes t h =
    let c = h.4 in
    subst (λ (z : List ℕ). Quoted z bytes) (sym (h.2 ∙ ap (λ (z : List ℕ). z ++ h.1) h.3 ∙ ap (λ (z : List ℕ). 34 ∷ z) c.1)) (quoted c.2)

pub string_value : (d : ℕ) (bytes old m1 new : List ℕ) → old ≡ 34 ∷ m1 → Passes (ClosesAs bytes) (in_string is_value) after m1 new → PassesAt (Shows d (json.Text bytes)) (outside d value) (outside d after) old new
string_value d bytes old m1 new e a = as_passes_at (Shows d (json.Text bytes)) (then_passes_at (quote_value d old m1 e) (lifted (outside d (in_string is_value)) after (λ k. refl) a)) (λ x h. is_string (quoted_text bytes x h))

abbrev SomeClosed : List ℕ → Type 0
SomeClosed t = (bytes : List ℕ) × ClosesAs bytes t

pub string_value_breaks : (d : ℕ) (e : Stop) (old m1 new : List ℕ) → old ≡ 34 ∷ m1 → AtFault (λ f. Breaks SomeClosed (in_string is_value) f m1 new) e → AtFault (λ f. BreaksAt (SomeShown d) (outside d value) f old new) e
string_value_breaks d stop.Memory old m1 new e h = tt
string_value_breaks d (stop.Fault f) old m1 new e h =
    as_breaks_at (SomeShown d) (then_breaks_at (quote_value d old m1 e) (lifted_breaks (outside d (in_string is_value)) (λ k. refl) h)) (λ x t. (json.Text t.4.0, is_string (quoted_text t.4.0 x (t.0, t.1, t.2, t.3, t.4.1))))

number_shown : (d : ℕ) (n t : List ℕ) → NumeralOf n t → Shows d (json.Num n) t
number_shown d n t h = subst (λ (z : List ℕ). Denotes d t (number z)) h.1 (is_number h.0)

pub number_value : (d : ℕ) (n old new : List ℕ) → Passes (NumeralOf n) value after old new → PassesAt (Shows d (json.Num n)) (outside d value) (outside d after) old new
number_value d n old new a = as_passes_at (Shows d (json.Num n)) (lifted (outside d value) after (λ k. refl) a) (number_shown d n)

pub number_value_breaks : (d : ℕ) (e : Stop) (old new : List ℕ) → AtFault (λ f. Breaks (λ t. (n : List ℕ) × NumeralOf n t) value f old new) e → AtFault (λ f. BreaksAt (SomeShown d) (outside d value) f old new) e
number_value_breaks d stop.Memory old new h = tt
number_value_breaks d (stop.Fault f) old new h = as_breaks_at (SomeShown d) (lifted_breaks (outside d value) (λ k. refl) h) (λ x t. (json.Num t.0, number_shown d t.0 x t.1))

-- a word that begins with this byte
word_begins : (c : ℕ) (cs old : List ℕ) → (bs : List ℕ) × (old ≡ c ∷ bs) → ((d : ℕ) (k : List Open) → step d value k c ≡ step d (in_word (c ∷ cs)) k c) → opens_deeper c ≡ Syntax → Runs value (in_word (c ∷ cs)) old old
word_begins c cs old o s f d k = ap (run d value k) o.1 ∙ moves_alike d value (in_word (c ∷ cs)) k c o.0 (s d k) f ∙ ap (run d (in_word (c ∷ cs)) k) (sym o.1)

pub word_value : (d c : ℕ) (cs : List ℕ) (j : Json) (old new : List ℕ) → (bs : List ℕ) × (old ≡ c ∷ bs) → ((n : ℕ) (k : List Open) → step n value k c ≡ step n (in_word (c ∷ cs)) k c) → opens_deeper c ≡ Syntax → Shows d j (c ∷ cs) → Passes (λ t. t ≡ c ∷ cs) (in_word (c ∷ cs)) after old new → PassesAt (Shows d j) (outside d value) (outside d after) old new
word_value d c cs j old new o s f h a = record {
  reads = (a.reads.0, a.reads.1, subst (λ (z : List ℕ). Denotes d z (json_value j)) (sym a.reads.2) h);
  runs = λ k. word_begins c cs old o s f (length k + d) k ∙ a.runs (length k + d) k;
}

pub word_value_breaks : (d c : ℕ) (cs : List ℕ) (j : Json) (e : Stop) (old new : List ℕ) → (bs : List ℕ) × (old ≡ c ∷ bs) → ((n : ℕ) (k : List Open) → step n value k c ≡ step n (in_word (c ∷ cs)) k c) → opens_deeper c ≡ Syntax → Shows d j (c ∷ cs) → AtFault (λ f. Breaks (λ t. (u : Unit {0}) × (t ≡ c ∷ cs)) (in_word (c ∷ cs)) f old new) e → AtFault (λ f. BreaksAt (SomeShown d) (outside d value) f old new) e
word_value_breaks d c cs j stop.Memory old new o s f h a = tt
word_value_breaks d c cs j (stop.Fault g) old new o s f h a = record {
  begins = (a.begins.0, a.begins.1, a.begins.2, (j, subst (λ (z : List ℕ). Denotes d z (json_value j)) (sym a.begins.3.1) h));
  fails = λ k. word_begins c cs old o s f (length k + d) k ∙ a.fails (length k + d) k;
}

some_shown : (d : ℕ) → (t : List ℕ) × SomeShown d t
some_shown d = (codes "null", (json.Null, is_null))

-- nothing stands where a value has to
pub no_value : (d : ℕ) (old : List ℕ) → old ≡ [] → BreaksAt (SomeShown d) (outside d value) Syntax old old
unfolding run
no_value d old e = record {
  begins = ([], (some_shown d).0, refl, (some_shown d).1);
  fails = λ k. ap (run (length k + d) value k) e ∙ ap (λ (z : List ℕ). fault Syntax z) (sym e);
}

-- a bracket that no level is left for
pub too_deep : (o : Open) (p : Place) (c : ℕ) (d : ℕ) (old : List ℕ) → (bs : List ℕ) × (old ≡ c ∷ bs) → ((n : ℕ) (k : List Open) → step n value k c ≡ opens n p o k) → opens_deeper c ≡ Depth → d ≡ 0 → BreaksAt (SomeShown d) (outside d value) Depth old old
too_deep o p c d old s t f z = record {
  begins = ([], (some_shown d).0, refl, (some_shown d).1);
  fails = λ k. ap (run (length k + d) value k) s.1 ∙ stops (length k + d) value k c s.0 (t (length k + d) k ∙ cond-false (ltb (length k) (length k + d)) _ _ (le-ltb (length k) (length k + d) (omega arith))) ∙ ap (λ (g : Fault). fault g (c ∷ s.0)) f ∙ ap (λ (x : List ℕ). fault Depth x) (sym s.1);
}

-- a byte that begins no value
pub not_a_value : (c d : ℕ) (old : List ℕ) → (bs : List ℕ) × (old ≡ c ∷ bs) → ((n : ℕ) (k : List Open) → step n value k c ≡ None) → opens_deeper c ≡ Syntax → BreaksAt (SomeShown d) (outside d value) Syntax old old
not_a_value c d old s t f = record {
  begins = ([], (some_shown d).0, refl, (some_shown d).1);
  fails = λ k. ap (run (length k + d) value k) s.1 ∙ stops (length k + d) value k c s.0 (t (length k + d) k) ∙ ap (λ (g : Fault). fault g (c ∷ s.0)) f ∙ ap (λ (x : List ℕ). fault Syntax x) (sym s.1);
}

-- ## An array or an object as a value

goes_in : (o : Open) (p : Place) (c d inner : ℕ) (k : List Open) (old m1 : List ℕ) → suc inner ≡ d → old ≡ c ∷ m1 → ((n : ℕ) (l : List Open) → step n value l c ≡ opens n p o l) → run (length k + d) value k old ≡ run (length (o ∷ k) + inner) p (o ∷ k) m1
goes_in o p c d inner k old m1 e is t =
    let room : ltb (length k) (length k + d) ≡ true = lt-ltb (length k) (length k + d) (omega arith) in
    let same : length k + d ≡ length (o ∷ k) + inner = omega arith in
    ap (run (length k + d) value k) is ∙ moves (length k + d) value k c m1 p (o ∷ k) (t (length k + d) k ∙ cond-true (ltb (length k) (length k + d)) _ _ room) ∙ ap (λ (n : ℕ). run n p (o ∷ k) m1) same

comes_out : (d inner : ℕ) (k : List Open) (new : List ℕ) → suc inner ≡ d → run_at (past inner k) new ≡ run (length k + d) after k new
comes_out d inner k new e = let same : suc (length k) + inner ≡ length k + d = omega arith in ap (λ (n : ℕ). run n after k new) same

pub held_value : (o : Open) (p : Place) (c d inner : ℕ) (R : List ℕ → Type 0) (j : Json) (old m1 new : List ℕ) → suc inner ≡ d → old ≡ c ∷ m1 → ((n : ℕ) (l : List Open) → step n value l c ≡ opens n p o l) → ((t : List ℕ) → R t → Denotes (suc inner) (c ∷ t) (json_value j)) → PassesAt R (inside o inner p) (past inner) m1 new → PassesAt (Shows d j) (outside d value) (outside d after) old new
held_value o p c d inner R j old m1 new e is t s a = record {
  reads = (c ∷ a.reads.0, is ∙ ap (λ (z : List ℕ). c ∷ z) a.reads.1, subst (λ (n : ℕ). Denotes n (c ∷ a.reads.0) (json_value j)) e (s a.reads.0 a.reads.2));
  runs = λ k. goes_in o p c d inner k old m1 e is t ∙ a.runs k ∙ comes_out d inner k new e;
}

pub held_breaks : (o : Open) (p : Place) (c d inner : ℕ) (R : List ℕ → Type 0) (stopped : Stop) (old m1 new : List ℕ) → suc inner ≡ d → old ≡ c ∷ m1 → ((n : ℕ) (l : List Open) → step n value l c ≡ opens n p o l) → ((t : List ℕ) → R t → (j : Json) × Denotes (suc inner) (c ∷ t) (json_value j)) → AtFault (λ f. BreaksAt R (inside o inner p) f m1 new) stopped → AtFault (λ f. BreaksAt (SomeShown d) (outside d value) f old new) stopped
held_breaks o p c d inner R stop.Memory old m1 new e is t s a = tt
held_breaks o p c d inner R (stop.Fault f) old m1 new e is t s a =
    let whole : (j : Json) × Denotes (suc inner) (c ∷ (a.begins.0 ++ a.begins.1)) (json_value j) = s (a.begins.0 ++ a.begins.1) a.begins.3 in
    record {
      begins = (c ∷ a.begins.0, a.begins.1, is ∙ ap (λ (z : List ℕ). c ∷ z) a.begins.2, (whole.0, subst (λ (n : ℕ). Denotes n (c ∷ (a.begins.0 ++ a.begins.1)) (json_value whole.0)) e whole.1));
      fails = λ k. goes_in o p c d inner k old m1 e is t ∙ a.fails k;
    }

pub nothing_begins : (b d : ℕ) (old : List ℕ) → (bs : List ℕ) × (old ≡ b ∷ bs) → NextFails is_white old → (b ≡ 34 → ⊥) → (b ≡ 91 → ⊥) → (b ≡ 123 → ⊥) → (b ≡ 110 → ⊥) → (b ≡ 116 → ⊥) → (b ≡ 102 → ⊥) → (b ≡ 45 → ⊥) → (b < 48) ⊎ (58 ≤ b) → BreaksAt (SomeShown d) (outside d value) Syntax old old
nothing_begins b d old s w n34 n91 n123 n110 n116 n102 n45 range =
    let white : is_white b ≡ false = subst (NextFails is_white) s.1 w in
    let n48 : b ≡ 48 → ⊥ = λ e. omega arith in
    let digit : is_nonzero_digit b ≡ false = grind (arith, nat_tests) in
    not_a_value b d old s (λ n k. cond-false (is_white b) _ _ white ∙ cond-false (eqb b 34) _ _ (ne_eqb b 34 n34) ∙ cond-false (eqb b 91) _ _ (ne_eqb b 91 n91) ∙ cond-false (eqb b 123) _ _ (ne_eqb b 123 n123) ∙ cond-false (eqb b 110) _ _ (ne_eqb b 110 n110) ∙ cond-false (eqb b 116) _ _ (ne_eqb b 116 n116) ∙ cond-false (eqb b 102) _ _ (ne_eqb b 102 n102) ∙ cond-false (eqb b 45) _ _ (ne_eqb b 45 n45) ∙ cond-false (eqb b 48) _ _ (ne_eqb b 48 n48) ∙ cond-false (is_nonzero_digit b) _ _ digit) (cond-false (eqb b 91) _ _ (ne_eqb b 91 n91) ∙ cond-false (eqb b 123) _ _ (ne_eqb b 123 n123))

-- The records that are read one after the other are all the records of a text.
use Rattle.std.proofs.Common.{ℕ, zero, suc, ◌≡◌, ◌+◌, ◌<◌, ◌≤◌, List, [], ◌∷◌, ◌++◌, Bool, true, false, cond, ◌==◌, ◌&&◌, Option, Some, None, refl, sym, ap, ◌∙◌, subst, length, arith, true≢false, is_some}
use Rattle.csv.specs.Machine.{Read, after_end, carriage_return, ends_at_end, ends_with, field_after, fields_after, in_field, is_byte, is_end, line_feed, next_record, start_field, start_record, step}
use Rattle.csv.specs.Reading.{AreRecords, Reached, default_config, records, records_from, records_next}
use Rattle.csv.specs.declared.parser.Config.{Config}
use Rattle.csv.specs.declared.parser.Terminator.{Terminator}
use Rattle.csv.specs.declared.parser.Terminator.TheVariants as term
use Rattle.csv.specs.declared.parser.State.{State}
use Rattle.csv.specs.declared.parser.State.TheVariants as st
use Rattle.csv.specs.declared.parser.Action.{Action}
use Rattle.csv.specs.declared.parser.Action.TheVariants as act

-- ## After a record no other one has begun

abbrev Fine : State × Action → Type 0
Fine p = is_end p.1 ≡ true → ends_at_end p.0 ≡ false

either : (b : Bool) (x y : State × Action) → Fine x → Fine y → Fine (cond b x y)
either true x y h k = h
either false x y h k = k

goes_on : (s : State) (a : Action) → is_end a ≡ false → Fine (s, a)
goes_on s a e h = absurd (true≢false (sym h ∙ e))

between : (b : Bool) (x y : State) → ends_at_end x ≡ false → ends_at_end y ≡ false → ends_at_end (cond b x y) ≡ false
between true x y h k = h
between false x y h k = k

ended : (t : Terminator) (c : ℕ) → ends_at_end (after_end t c) ≡ false
ended term.CRLF c = between (c == carriage_return) st.AfterCr st.StartRecord refl refl
ended (term.Any t) c = refl

in_field_fine : (cfg : Config) (c : ℕ) → Fine (in_field cfg c)
in_field_fine cfg c =
    either (c == cfg.delimiter) (st.StartField, act.EndField) (cond (ends_with cfg.terminator c) (after_end cfg.terminator c, act.EndRecord) (st.InField, act.Copy))
    (goes_on st.StartField act.EndField refl)
    (either (ends_with cfg.terminator c) (after_end cfg.terminator c, act.EndRecord) (st.InField, act.Copy) (λ h. ended cfg.terminator c) (goes_on st.InField act.Copy refl))

start_field_fine : (cfg : Config) (c : ℕ) → Fine (start_field cfg c)
start_field_fine cfg c = either (cfg.quoting && (c == cfg.quote)) (st.InQuoted, act.Skip) (in_field cfg c) (goes_on st.InQuoted act.Skip refl) (in_field_fine cfg c)

start_record_fine : (cfg : Config) (c : ℕ) → Fine (start_record cfg c)
start_record_fine cfg c =
    either (ends_with cfg.terminator c) (st.StartRecord, act.Skip) (cond (is_byte cfg.comment c) (st.InComment, act.Skip) (start_field cfg c))
    (goes_on st.StartRecord act.Skip refl)
    (either (is_byte cfg.comment c) (st.InComment, act.Skip) (start_field cfg c) (goes_on st.InComment act.Skip refl) (start_field_fine cfg c))

step_fine : (cfg : Config) (s : State) (c : ℕ) → Fine (step cfg s c)
step_fine cfg st.StartRecord c = start_record_fine cfg c
step_fine cfg st.StartField c = start_field_fine cfg c
step_fine cfg st.InField c = in_field_fine cfg c
step_fine cfg st.InQuoted c =
    either (cfg.quoting && (c == cfg.quote)) (st.AfterQuote, act.Skip) (cond (cfg.quoting && is_byte cfg.escape c) (st.InEscape, act.Skip) (st.InQuoted, act.Copy))
    (goes_on st.AfterQuote act.Skip refl)
    (either (cfg.quoting && is_byte cfg.escape c) (st.InEscape, act.Skip) (st.InQuoted, act.Copy) (goes_on st.InEscape act.Skip refl) (goes_on st.InQuoted act.Copy refl))
step_fine cfg st.InEscape c = goes_on st.InQuoted act.Copy refl
step_fine cfg st.AfterQuote c = either (cfg.quoting && cfg.double_quote && (c == cfg.quote)) (st.InQuoted, act.Copy) (in_field cfg c) (goes_on st.InQuoted act.Copy refl) (in_field_fine cfg c)
step_fine cfg st.InComment c = either (c == line_feed) (st.StartRecord, act.Skip) (st.InComment, act.Skip) (goes_on st.StartRecord act.Skip refl) (goes_on st.InComment act.Skip refl)
step_fine cfg st.AfterCr c = either (c == line_feed) (st.StartRecord, act.Skip) (start_record cfg c) (goes_on st.StartRecord act.Skip refl) (start_record_fine cfg c)

-- ## A record takes at least one byte

abbrev Left : List ℕ → Read → Type 0
Left xs p = (length p.2 ≤ length xs) × (ends_at_end p.1 ≡ false)

some_is : {A : Type 0} (x y : A) → Some x ≡ Some y → x ≡ y
some_is {A} x y e = ap (λ (o : Option A). elim o as (λ _. A) [ None ↦ x | Some z ↦ z ]) e

at_end : (b : Bool) (fields : List (List ℕ)) (p : Read) → cond b (Some (fields, st.StartRecord, [])) None ≡ Some p → Left [] p
at_end true fields p e = subst (Left []) (some_is _ p e) (omega arith, refl)
at_end false fields p e = absurd (true≢false (sym (ap is_some e)))

left : (cfg : Config) (s : State) (fields : List (List ℕ)) (field xs : List ℕ) (p : Read) → next_record cfg s fields field xs ≡ Some p → Left xs p
unfolding next_record
left cfg s fields field [] p e = at_end (ends_at_end s) (fields ++ (field ∷ [])) p e
left cfg s fields field (c ∷ rest) p e = go (is_end (step cfg s c).1) refl (left cfg (step cfg s c).0 (fields_after (step cfg s c).1 fields field) (field_after (step cfg s c).1 c field) rest p) e
  where
    done : Read
    done = (fields_after (step cfg s c).1 fields field, (step cfg s c).0, rest)

    more : Option Read
    more = next_record cfg (step cfg s c).0 (fields_after (step cfg s c).1 fields field) (field_after (step cfg s c).1 c field) rest

    go : (b : Bool) → is_end (step cfg s c).1 ≡ b → (more ≡ Some p → Left rest p) → cond b (Some done) more ≡ Some p → Left (c ∷ rest) p
    go true is further f = subst (Left (c ∷ rest)) (some_is done p f) (omega arith, step_fine cfg s c is)
    go false is further f = let k : length p.2 ≤ length rest = (further f).0 in (omega (arith, k), (further f).1)

shorter : (cfg : Config) (s : State) (xs : List ℕ) (p : Read) → ends_at_end s ≡ false → next_record cfg s [] [] xs ≡ Some p → length p.2 < length xs
unfolding next_record
shorter cfg s [] p fresh e = absurd (true≢false (sym (ap is_some (sym (ap (λ (b : Bool). cond b (Some (([] ∷ []), st.StartRecord, [])) None) fresh) ∙ e))))
shorter cfg s (c ∷ rest) p fresh e = go (is_end (step cfg s c).1) refl e
  where
    done : Read
    done = (fields_after (step cfg s c).1 [] [], (step cfg s c).0, rest)

    more : Option Read
    more = next_record cfg (step cfg s c).0 (fields_after (step cfg s c).1 [] []) (field_after (step cfg s c).1 c []) rest

    go : (b : Bool) → is_end (step cfg s c).1 ≡ b → cond b (Some done) more ≡ Some p → length p.2 < length (c ∷ rest)
    go true is f = subst (λ (q : Read). length q.2 < length (c ∷ rest)) (some_is done p f) (omega arith)
    go false is f =
        let l : Left rest p = left cfg (step cfg s c).0 (fields_after (step cfg s c).1 [] []) (field_after (step cfg s c).1 c []) rest p f in
        let k : length p.2 ≤ length rest = l.0 in
        omega (arith, k)

few : (cfg : Config) (s : State) (xs : List ℕ) (rows : List (List (List ℕ))) (s2 : State) (ys : List ℕ) → ends_at_end s ≡ false → Reached cfg s xs rows s2 ys → length rows ≤ length xs
unfolding Reached
few cfg s xs [] s2 ys fresh h = omega arith
few cfg s xs (r ∷ rows) s2 ys fresh h =
    let l : length h.0.2 < length xs = shorter cfg s xs h.0 fresh h.1 in
    let k : length rows ≤ length h.0.2 = few cfg h.0.1 h.0.2 rows s2 ys (left cfg s [] [] xs h.0 h.1).1 h.3 in
    omega (arith, l, k)

counted : (cfg : Config) (n : ℕ) (s : State) (xs : List ℕ) (rows : List (List (List ℕ))) (s2 : State) (ys : List ℕ)
    → Reached cfg s xs rows s2 ys → next_record cfg s2 [] [] ys ≡ None → length rows < n → records_from cfg n s xs ≡ rows
unfolding records_from Reached
counted cfg zero s xs rows s2 ys h end less = absurd (omega (arith, less))
counted cfg (suc n) s xs [] s2 ys h end less =
    ap (records_next (records_from cfg n)) ((λ i. next_record cfg (h.0 i) [] [] (h.1 i)) ∙ end)
counted cfg (suc n) s xs (r ∷ rows) s2 ys h end less =
    ap (records_next (records_from cfg n)) h.1
    ∙ (λ i. sym h.2 i ∷ counted cfg n h.0.1 h.0.2 rows s2 ys h.3 end (omega (arith, less)) i)

pub all_records : (xs : List ℕ) (rows : List (List (List ℕ))) → AreRecords default_config st.StartRecord xs rows → rows ≡ records default_config xs
all_records xs rows h =
    let k : length rows ≤ length xs = few default_config st.StartRecord xs rows h.0 h.1 refl h.2 in
    sym (counted default_config (length xs + 1) st.StartRecord xs rows h.0 h.1 h.2 h.3 (omega (arith, k)))

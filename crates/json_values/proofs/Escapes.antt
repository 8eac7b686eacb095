-- Strings: runs of bytes that stand as they are, and escapes between them.
use Rattle.std.proofs.Common.{ℕ, suc, ◌≡◌, ◌+◌, ◌<◌, List, [], ◌∷◌, ◌++◌, Bool, true, false, cond, refl, ap, ◌∙◌, sym, subst, length, take, drop, get_or, take_while, arith, append_assoc, add-one, append-nil, drop-cons}
use Rattle.std.proofs.lemmas.Bool.Decides.{nat_tests}
use Rattle.std.proofs.Math.Seq.{drop-length}
use Rattle.std.specs.List.{flat_map, prefix_len}
use Rattle.json_values.specs.Text.{escaped, is_plain}
use Rattle.numerals.specs.Bytes.{Begins}

plain_stays : (b : ℕ) → is_plain b ≡ true → escaped b ≡ b ∷ []
plain_stays b e = grind (arith, nat_tests)

-- the run at the front
abbrev run_of : List ℕ → List ℕ
run_of text = take_while is_plain text

run_on : (b : ℕ) (bs : List ℕ) → is_plain b ≡ true → run_of (b ∷ bs) ≡ b ∷ run_of bs
run_on b bs e =
    let k : ℕ = prefix_len is_plain bs in
    let one_more : 1 + k ≡ suc k = omega arith in
    ap (λ (t : Bool). take (cond t (1 + k) 0) (b ∷ bs)) e ∙ ap (λ (m : ℕ). take m (b ∷ bs)) one_more

run_ends : (b : ℕ) (bs : List ℕ) → is_plain b ≡ false → run_of (b ∷ bs) ≡ []
run_ends b bs e = ap (λ (t : Bool). take (cond t (1 + prefix_len is_plain bs) 0) (b ∷ bs)) e

run_split : (text : List ℕ) → flat_map escaped text ≡ take (length (run_of text)) text ++ flat_map escaped (drop (length (run_of text)) text)
run_split [] = refl
run_split (b ∷ bs) = go (is_plain b) refl (run_split bs)
  where
    go : (t : Bool) → is_plain b ≡ t → flat_map escaped bs ≡ take (length (run_of bs)) bs ++ flat_map escaped (drop (length (run_of bs)) bs)
        → flat_map escaped (b ∷ bs) ≡ take (length (run_of (b ∷ bs))) (b ∷ bs) ++ flat_map escaped (drop (length (run_of (b ∷ bs))) (b ∷ bs))
    go true e h = rw (run_on b bs e) (ap (λ (l : List ℕ). l ++ flat_map escaped bs) (plain_stays b e) ∙ ap (λ (l : List ℕ). b ∷ l) h)
    go false e h = rw (run_ends b bs e) refl

run_stops : (text : List ℕ) (d : ℕ) → length (run_of text) < length text → is_plain (get_or text (length (run_of text)) d) ≡ false
run_stops [] d l = absurd (omega arith)
run_stops (b ∷ bs) d l = go (is_plain b) refl (run_stops bs d)
  where
    go : (t : Bool) → is_plain b ≡ t → (length (run_of bs) < length bs → is_plain (get_or bs (length (run_of bs)) d) ≡ false) → is_plain (get_or (b ∷ bs) (length (run_of (b ∷ bs))) d) ≡ false
    go true e h = rw (run_on b bs e) (h (omega (arith, ap length (run_on b bs e))))
    go false e h = rw (run_ends b bs e) e

-- a run, and the byte after it
run_and_byte : (text : List ℕ) (n : ℕ) → n ≡ length (run_of text) → n < length text → flat_map escaped text ≡ take n text ++ (escaped (get_or text n 0) ++ flat_map escaped (drop (n + 1) text))
run_and_byte text n e l =
    run_split text ∙ ap (λ (k : ℕ). take k text ++ flat_map escaped (drop k text)) (sym e)
    ∙ ap (λ (r : List ℕ). take n text ++ flat_map escaped r) (drop-cons text n 0 l)
    ∙ ap (λ (k : ℕ). take n text ++ (escaped (get_or text n 0) ++ flat_map escaped (drop k text))) (sym (add-one n))

-- a step of the loop: a run, an escape, and what is left
pub escaped_step : (o x y text past : List ℕ) (n : ℕ) → n ≡ length (run_of text) → n < length text → x ≡ o ++ take n text → y ≡ x ++ escaped (get_or text n 0) → past ≡ drop (n + 1) text
    → y ++ flat_map escaped past ≡ o ++ flat_map escaped text
escaped_step o x y text past n e l a b c =
    ap (λ (r : List ℕ). y ++ flat_map escaped r) c ∙ ap (λ (z : List ℕ). z ++ flat_map escaped (drop (n + 1) text)) (b ∙ ap (λ (z : List ℕ). z ++ escaped (get_or text n 0)) a)
    ∙ append_assoc (o ++ take n text) (escaped (get_or text n 0)) (flat_map escaped (drop (n + 1) text))
    ∙ append_assoc o (take n text) (escaped (get_or text n 0) ++ flat_map escaped (drop (n + 1) text))
    ∙ ap (λ (z : List ℕ). o ++ z) (sym (run_and_byte text n e l))

-- its end: the rest is one run
pub escaped_end : (o x text : List ℕ) (n : ℕ) → n ≡ length (run_of text) → n ≡ length text → x ≡ o ++ take n text → x ≡ o ++ flat_map escaped text
escaped_end o x text n e l a =
    a ∙ ap (λ (z : List ℕ). o ++ z) (sym (run_split text ∙ ap (λ (k : ℕ). take k text ++ flat_map escaped (drop k text)) (sym e) ∙ ap (λ (r : List ℕ). take n text ++ flat_map escaped r) (ap (λ (k : ℕ). drop k text) l ∙ drop-length text) ∙ append-nil (take n text)))

pub stops_at : (text : List ℕ) (n : ℕ) → n ≡ length (run_of text) → n < length text → is_plain (get_or text n 0) ≡ false
stops_at text n e l = subst (λ (k : ℕ). is_plain (get_or text k 0) ≡ false) (sym e) (run_stops text 0 (omega arith))

pub begins_on : (a b c d : List ℕ) → Begins a b → c ≡ b ++ d → Begins a c
begins_on a b c d h e = (h.0 ++ d, e ∙ ap (λ (z : List ℕ). z ++ d) h.1 ∙ append_assoc a h.0 d)

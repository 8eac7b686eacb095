-- The machine accepts each text.
use Rattle.std.proofs.Common.{ℕ, suc, ◌≡◌, ◌+◌, ◌++◌, ◌<◌, ◌≤◌, List, [], ◌∷◌, true, false, refl, ap, ◌∙◌, sym, subst, length, arith, append_assoc, append-nil, ltb, ◌⊎◌, ⊎_elim, codes}
use Rattle.std.proofs.lemmas.Bool.{cond-true, lt-ltb}
use Rattle.std.proofs.lemmas.Bool.Decides.{nat_tests}
use Rattle.numerals.specs.Bytes.{is_white, is_digit, NextFails}
use Rattle.json_values.specs.Grammar.{White, no_white, white, Quoted, quoted, Denotes, is_null, is_true, is_false, is_number, is_string, no_elements, elements, no_members, members, Elements, last_element, element, Members, last_member, member, Padded, padded, Mark, no_mark, mark, JsonText, text}
use Rattle.json_read.specs.Machine.{Place, Open, in_array, in_object, is_value, is_name, run, step, opens, accepted, start, in_mark, value, first_value, first_name, next_name, colon, after, in_word}
use Rattle.json_read.specs.Reading.{Runs}
use Rattle.numerals.specs.Bytes.{NextIsNot}
use Rattle.json_values.specs.Json.{JsonValue}
use Rattle.json_read.proofs.AcceptsNumbers.{Ends, white_ends, number_runs, number_first}
use Rattle.json_read.proofs.AcceptsStrings.{quoted_runs}
use Rattle.json_read.proofs.Arrays.{first_as_value}
use Rattle.json_read.proofs.Objects.{first_as_name}
use Rattle.json_read.proofs.Parts.{heads_same}
use Rattle.json_read.proofs.Runs.{moves, white_runs}
use Rattle.json_read.proofs.Texts.{start_as_value}

-- the first byte of a value
unfoldable pub FirstByte : List ℕ → Type 0
FirstByte t = (b : ℕ) × (bs : List ℕ) × (t ≡ b ∷ bs) × (is_white b ≡ false) × (b ≡ 93 → ⊥) × (b ≡ 0xEF → ⊥)

pub denotes_first : {d : ℕ} {t : List ℕ} {v : JsonValue} → Denotes d t v → FirstByte t
unfolding FirstByte
denotes_first is_null = (110, codes "ull", refl, refl, λ e. omega arith, λ e. omega arith)
denotes_first is_true = (116, codes "rue", refl, refl, λ e. omega arith, λ e. omega arith)
denotes_first is_false = (102, codes "alse", refl, refl, λ e. omega arith, λ e. omega arith)
denotes_first (is_number {t = t} n) =
    let f : (b : ℕ) × (bs : List ℕ) × (t ≡ b ∷ bs) × ((b ≡ 45) ⊎ (is_digit b ≡ true)) = number_first n in
    (f.0, f.1, f.2, ⊎_elim (λ e. subst (λ (x : ℕ). is_white x ≡ false) (sym e) refl) (λ e. grind (arith, nat_tests)) f.3, λ s. ⊎_elim (λ e. omega arith) (λ e. (let g : is_digit 93 ≡ true = subst (λ (x : ℕ). is_digit x ≡ true) s e in let h : is_digit 93 ≡ false = refl in cc)) f.3, λ s. ⊎_elim (λ e. omega arith) (λ e. (let g : is_digit 0xEF ≡ true = subst (λ (x : ℕ). is_digit x ≡ true) s e in let h : is_digit 0xEF ≡ false = refl in cc)) f.3)
denotes_first (is_string (quoted {inner = inner} h)) = (34, inner ++ 34 ∷ [], refl, refl, λ e. omega arith, λ e. omega arith)
denotes_first (no_elements {w = w} h) = (91, w ++ 93 ∷ [], refl, refl, λ e. omega arith, λ e. omega arith)
denotes_first (elements {t = t} h) = (91, t ++ 93 ∷ [], refl, refl, λ e. omega arith, λ e. omega arith)
denotes_first (no_members {w = w} h) = (123, w ++ 125 ∷ [], refl, refl, λ e. omega arith, λ e. omega arith)
denotes_first (members {t = t} h e) = (123, t ++ 125 ∷ [], refl, refl, λ e. omega arith, λ e. omega arith)

-- after a bracket a value is read as anywhere
first_padded : {d : ℕ} {t : List ℕ} {v : JsonValue} (rest : List ℕ) → Padded d t v → Runs first_value value (t ++ rest) (t ++ rest)
unfolding FirstByte
first_padded rest (padded {w = w} {t = t} {w' = w'} a h b) n k =
    let f : FirstByte t = denotes_first h in
    let tail : List ℕ = (t ++ w') ++ rest in
    let is : tail ≡ f.0 ∷ ((f.1 ++ w') ++ rest) = ap (λ (z : List ℕ). (z ++ w') ++ rest) f.2 in
    let nw : NextFails is_white tail = subst (NextFails is_white) (sym is) f.3 in
    let nb : NextIsNot 93 tail = λ bs e. (let s : f.0 ∷ ((f.1 ++ w') ++ rest) ≡ 93 ∷ bs = sym is ∙ e in f.4 cc) in
    ap (run n first_value k) (append_assoc w (t ++ w') rest) ∙ white_runs n first_value k tail refl a ∙ first_as_value tail nw nb n k ∙ sym (white_runs n value k tail refl a) ∙ ap (run n value k) (sym (append_assoc w (t ++ w') rest))

first_elements : {d : ℕ} {t : List ℕ} {vs : List JsonValue} (rest : List ℕ) → Elements d t vs → Runs first_value value (t ++ rest) (t ++ rest)
first_elements rest (last_element p) n k = first_padded rest p n k
first_elements rest (element {t = t} {rest = more} p es) n k =
    ap (run n first_value k) (append_assoc t (44 ∷ more) rest) ∙ first_padded ((44 ∷ more) ++ rest) p n k ∙ ap (run n value k) (sym (append_assoc t (44 ∷ more) rest))

-- after a brace a name is read as anywhere
first_named : (w n more : List ℕ) (name : List ℕ) → White w → Quoted n name → Runs first_name next_name (w ++ (n ++ more)) (w ++ (n ++ more))
first_named w n more name a (quoted {inner = inner} h) i k =
    let tail : List ℕ = 34 ∷ ((inner ++ 34 ∷ []) ++ more) in
    white_runs i first_name k tail refl a ∙ first_as_name tail refl (λ bs e. (let h : 34 ≡ 125 = heads_same 34 125 ((inner ++ 34 ∷ []) ++ more) bs e in omega arith)) i k ∙ sym (white_runs i next_name k tail refl a)

first_members : {d : ℕ} {t : List ℕ} {ms : List (List ℕ × JsonValue)} (rest : List ℕ) → Members d t ms → Runs first_name next_name (t ++ rest) (t ++ rest)
first_members rest (last_member {w = w} {n = n} {w' = w'} {t = t} {name = name} a q b p) i k =
    let e : (w ++ (n ++ (w' ++ (58 ∷ t)))) ++ rest ≡ w ++ (n ++ ((w' ++ (58 ∷ t)) ++ rest)) = append_assoc w (n ++ (w' ++ (58 ∷ t))) rest ∙ ap (λ (z : List ℕ). w ++ z) (append_assoc n (w' ++ (58 ∷ t)) rest) in
    ap (run i first_name k) e ∙ first_named w n ((w' ++ (58 ∷ t)) ++ rest) name a q i k ∙ ap (run i next_name k) (sym e)
first_members rest (member {w = w} {n = n} {w' = w'} {t = t} {name = name} {rest = more} a q b p ms) i k =
    let e : (w ++ (n ++ (w' ++ (58 ∷ (t ++ (44 ∷ more)))))) ++ rest ≡ w ++ (n ++ ((w' ++ (58 ∷ (t ++ (44 ∷ more)))) ++ rest)) = append_assoc w (n ++ (w' ++ (58 ∷ (t ++ (44 ∷ more))))) rest ∙ ap (λ (z : List ℕ). w ++ z) (append_assoc n (w' ++ (58 ∷ (t ++ (44 ∷ more)))) rest) in
    ap (run i first_name k) e ∙ first_named w n ((w' ++ (58 ∷ (t ++ (44 ∷ more)))) ++ rest) name a q i k ∙ ap (run i next_name k) (sym e)

-- a word
null_runs : (rest : List ℕ) → Runs value after (codes "null" ++ rest) rest
null_runs rest n k = moves n value k 110 (117 ∷ 108 ∷ 108 ∷ rest) (in_word (codes "ull")) k refl ∙ moves n (in_word (codes "ull")) k 117 (108 ∷ 108 ∷ rest) (in_word (codes "ll")) k refl ∙ moves n (in_word (codes "ll")) k 108 (108 ∷ rest) (in_word (codes "l")) k refl ∙ moves n (in_word (codes "l")) k 108 rest after k refl

true_runs : (rest : List ℕ) → Runs value after (codes "true" ++ rest) rest
true_runs rest n k = moves n value k 116 (114 ∷ 117 ∷ 101 ∷ rest) (in_word (codes "rue")) k refl ∙ moves n (in_word (codes "rue")) k 114 (117 ∷ 101 ∷ rest) (in_word (codes "ue")) k refl ∙ moves n (in_word (codes "ue")) k 117 (101 ∷ rest) (in_word (codes "e")) k refl ∙ moves n (in_word (codes "e")) k 101 rest after k refl

false_runs : (rest : List ℕ) → Runs value after (codes "false" ++ rest) rest
false_runs rest n k = moves n value k 102 (97 ∷ 108 ∷ 115 ∷ 101 ∷ rest) (in_word (codes "alse")) k refl ∙ moves n (in_word (codes "alse")) k 97 (108 ∷ 115 ∷ 101 ∷ rest) (in_word (codes "lse")) k refl ∙ moves n (in_word (codes "lse")) k 108 (115 ∷ 101 ∷ rest) (in_word (codes "se")) k refl ∙ moves n (in_word (codes "se")) k 115 (101 ∷ rest) (in_word (codes "e")) k refl ∙ moves n (in_word (codes "e")) k 101 rest after k refl

-- into an array or an object, where a level is left
goes_in : (o : Open) (p : Place) (c n : ℕ) (k : List Open) (rest : List ℕ) → length k < n → ((i : ℕ) (l : List Open) → step i value l c ≡ opens i p o l) → run n value k (c ∷ rest) ≡ run n p (o ∷ k) rest
goes_in o p c n k rest l s = moves n value k c rest p (o ∷ k) (s n k ∙ cond-true (ltb (length k) n) _ _ (lt-ltb (length k) n l))

-- a member up to its value
named_runs : (w n w' name rest : List ℕ) → White w → Quoted n name → White w' → Runs next_name value (w ++ (n ++ (w' ++ (58 ∷ rest)))) rest
named_runs w n w' name rest a q b i k =
    white_runs i next_name k (n ++ (w' ++ (58 ∷ rest))) refl a ∙ quoted_runs is_name next_name (λ d l. refl) (w' ++ (58 ∷ rest)) q i k ∙ white_runs i colon k (58 ∷ rest) refl b ∙ moves i colon k 58 rest value k refl

mutual
  pub denotes_runs : {d : ℕ} {t : List ℕ} {v : JsonValue} → Denotes d t v → (n : ℕ) (k : List Open) (rest : List ℕ) → length k + d ≤ n → Ends rest → run n value k (t ++ rest) ≡ run n after k rest
  denotes_runs is_null n k rest l e = null_runs rest n k
  denotes_runs is_true n k rest l e = true_runs rest n k
  denotes_runs is_false n k rest l e = false_runs rest n k
  denotes_runs (is_number h) n k rest l e = number_runs rest h e n k
  denotes_runs (is_string h) n k rest l e = quoted_runs is_value value (λ d j. refl) rest h n k
  denotes_runs (no_elements {d = d} {w = w} h) n k rest l e =
      ap (λ (z : List ℕ). run n value k (91 ∷ z)) (append_assoc w (93 ∷ []) rest) ∙ goes_in in_array first_value 91 n k (w ++ (93 ∷ rest)) (omega arith) (λ i j. refl) ∙ white_runs n first_value (in_array ∷ k) (93 ∷ rest) refl h ∙ moves n first_value (in_array ∷ k) 93 rest after k refl
  denotes_runs (elements {d = d} {t = t} es) n k rest l e =
      ap (λ (z : List ℕ). run n value k (91 ∷ z)) (append_assoc t (93 ∷ []) rest) ∙ goes_in in_array first_value 91 n k (t ++ (93 ∷ rest)) (omega arith) (λ i j. refl) ∙ first_elements (93 ∷ rest) es n (in_array ∷ k) ∙ elements_run es n k rest (omega arith)
  denotes_runs (no_members {d = d} {w = w} h) n k rest l e =
      ap (λ (z : List ℕ). run n value k (123 ∷ z)) (append_assoc w (125 ∷ []) rest) ∙ goes_in in_object first_name 123 n k (w ++ (125 ∷ rest)) (omega arith) (λ i j. refl) ∙ white_runs n first_name (in_object ∷ k) (125 ∷ rest) refl h ∙ moves n first_name (in_object ∷ k) 125 rest after k refl
  denotes_runs (members {d = d} {t = t} ms m) n k rest l e =
      ap (λ (z : List ℕ). run n value k (123 ∷ z)) (append_assoc t (125 ∷ []) rest) ∙ goes_in in_object first_name 123 n k (t ++ (125 ∷ rest)) (omega arith) (λ i j. refl) ∙ first_members (125 ∷ rest) ms n (in_object ∷ k) ∙ members_run ms n k rest (omega arith)

  elements_run : {d : ℕ} {t : List ℕ} {vs : List JsonValue} → Elements d t vs → (n : ℕ) (k : List Open) (rest : List ℕ) → suc (length k) + d ≤ n → run n value (in_array ∷ k) (t ++ (93 ∷ rest)) ≡ run n after k rest
  elements_run (last_element p) n k rest l = padded_run p n (in_array ∷ k) (93 ∷ rest) (omega arith) refl ∙ moves n after (in_array ∷ k) 93 rest after k refl
  elements_run (element {t = t} {rest = more} p es) n k rest l =
      ap (run n value (in_array ∷ k)) (append_assoc t (44 ∷ more) (93 ∷ rest)) ∙ padded_run p n (in_array ∷ k) (44 ∷ (more ++ (93 ∷ rest))) (omega arith) refl ∙ moves n after (in_array ∷ k) 44 (more ++ (93 ∷ rest)) value (in_array ∷ k) refl ∙ elements_run es n k rest l

  members_run : {d : ℕ} {t : List ℕ} {ms : List (List ℕ × JsonValue)} → Members d t ms → (n : ℕ) (k : List Open) (rest : List ℕ) → suc (length k) + d ≤ n → run n next_name (in_object ∷ k) (t ++ (125 ∷ rest)) ≡ run n after k rest
  members_run (last_member {w = w} {n = m} {w' = w'} {t = t} {name = name} a q b p) n k rest l =
      let e : (w ++ (m ++ (w' ++ (58 ∷ t)))) ++ (125 ∷ rest) ≡ w ++ (m ++ (w' ++ (58 ∷ (t ++ (125 ∷ rest))))) = append_assoc w (m ++ (w' ++ (58 ∷ t))) (125 ∷ rest) ∙ ap (λ (z : List ℕ). w ++ z) (append_assoc m (w' ++ (58 ∷ t)) (125 ∷ rest) ∙ ap (λ (z : List ℕ). m ++ z) (append_assoc w' (58 ∷ t) (125 ∷ rest))) in
      ap (run n next_name (in_object ∷ k)) e ∙ named_runs w m w' name (t ++ (125 ∷ rest)) a q b n (in_object ∷ k) ∙ padded_run p n (in_object ∷ k) (125 ∷ rest) (omega arith) refl ∙ moves n after (in_object ∷ k) 125 rest after k refl
  members_run (member {w = w} {n = m} {w' = w'} {t = t} {name = name} {rest = more} a q b p ms) n k rest l =
      let f : List ℕ = more ++ (125 ∷ rest) in
      let e : (w ++ (m ++ (w' ++ (58 ∷ (t ++ (44 ∷ more)))))) ++ (125 ∷ rest) ≡ w ++ (m ++ (w' ++ (58 ∷ (t ++ (44 ∷ f))))) = append_assoc w (m ++ (w' ++ (58 ∷ (t ++ (44 ∷ more))))) (125 ∷ rest) ∙ ap (λ (z : List ℕ). w ++ z) (append_assoc m (w' ++ (58 ∷ (t ++ (44 ∷ more)))) (125 ∷ rest) ∙ ap (λ (z : List ℕ). m ++ z) (append_assoc w' (58 ∷ (t ++ (44 ∷ more))) (125 ∷ rest) ∙ ap (λ (z : List ℕ). w' ++ (58 ∷ z)) (append_assoc t (44 ∷ more) (125 ∷ rest)))) in
      ap (run n next_name (in_object ∷ k)) e ∙ named_runs w m w' name (t ++ (44 ∷ f)) a q b n (in_object ∷ k) ∙ padded_run p n (in_object ∷ k) (44 ∷ f) (omega arith) refl ∙ moves n after (in_object ∷ k) 44 f next_name (in_object ∷ k) refl ∙ members_run ms n k rest l

  padded_run : {d : ℕ} {t : List ℕ} {v : JsonValue} → Padded d t v → (n : ℕ) (k : List Open) (rest : List ℕ) → length k + d ≤ n → Ends rest → run n value k (t ++ rest) ≡ run n after k rest
  padded_run (padded {w = w} {t = t} {w' = w'} a h b) n k rest l e =
      ap (run n value k) (append_assoc w (t ++ w') rest ∙ ap (λ (z : List ℕ). w ++ z) (append_assoc t w' rest)) ∙ white_runs n value k (t ++ (w' ++ rest)) refl a ∙ denotes_runs h n k (w' ++ rest) l (white_ends rest b e) ∙ white_runs n after k rest refl b

mark_runs : {m : List ℕ} (rest : List ℕ) → Mark m → NextIsNot 0xEF rest → Runs start value (m ++ rest) rest
mark_runs rest no_mark f d k = start_as_value rest f d k
mark_runs rest mark f d k = moves d start k 0xEF (0xBB ∷ 0xBF ∷ rest) (in_mark (0xBB ∷ 0xBF ∷ [])) k refl ∙ moves d (in_mark (0xBB ∷ 0xBF ∷ [])) k 0xBB (0xBF ∷ rest) (in_mark (0xBF ∷ [])) k refl ∙ moves d (in_mark (0xBF ∷ [])) k 0xBF rest value k refl

-- no padded value begins like a byte order mark
pub padded_unmarked : {d : ℕ} {t : List ℕ} {v : JsonValue} → Padded d t v → NextIsNot 0xEF t
unfolding FirstByte
padded_unmarked (padded {w = w} {t = t} {w' = w'} a h b) = go a
  where
    go : {u : List ℕ} → White u → NextIsNot 0xEF (u ++ (t ++ w'))
    go no_white bs e = (let f : FirstByte t = denotes_first h in f.5 (heads_same f.0 0xEF (f.1 ++ w') bs (sym (ap (λ (z : List ℕ). z ++ w') f.2) ∙ e)))
    go (white {b = x} {w = u} i g) bs e = (let same : x ≡ 0xEF = heads_same x 0xEF (u ++ (t ++ w')) bs e in let y : is_white 0xEF ≡ true = subst (λ (z : ℕ). is_white z ≡ true) same i in let n : is_white 0xEF ≡ false = refl in cc)

pub text_accepted : (d : ℕ) (t : List ℕ) (v : JsonValue) → JsonText d t v → run d start [] t ≡ accepted
unfolding run
text_accepted d t v (text {m = m} {t = p} h g) =
    ap (λ (z : List ℕ). run d start [] (m ++ z)) (sym (append-nil p)) ∙ mark_runs (p ++ []) h (subst (NextIsNot 0xEF) (sym (append-nil p)) (padded_unmarked g)) d [] ∙ padded_run g d [] [] (omega arith) tt

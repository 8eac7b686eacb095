-- Items of columns to be calculated: what is read by cuts is what the grammar has.
use Rattle.std.proofs.Common.{◌≡◌, ℕ, suc, ◌+◌, ◌<◌, Bool, true, false, not, ◌&&◌, cond, eqb, ltb, [], ◌∷◌, ◌++◌, length, take, drop, get_or, codes, Option, Some, None, option_map, option_and_then, bytes_eq, refl, ap, ap₂, sym, ◌∙◌, subst, arith, append_assoc, add-one, drop-cons, length-append, ◌↔◌, reverse}
use Rattle.std.specs.List.{list_all, position_or_len}
use Rattle.std.proofs.lemmas.Bool.{eqb-true, and_parts, not-true}
use Rattle.std.proofs.lemmas.Bool.Decides.{nat_tests}
use Rattle.std.proofs.lemmas.List.{append-nil, take-append-drop, take_at, drop_at, reverse-append, reverse-reverse}
use Rattle.std.proofs.lemmas.List.Folds.{list_all-append}
use Rattle.std.proofs.lemmas.List.Sums.{passes_at_first}
use Rattle.numerals.specs.Bytes.{is_white, drop_while}
use Rattle.expr_lang.specs.Tokens.{is_name_start, is_name_byte}
use Rattle.table_terms.specs.Names.{Text}
use Rattle.join_terms.specs.declared.calculations.Calc.{Calc}
use Rattle.join_terms.specs.declared.calculations.Calc.TheVariants as calc
use Rattle.cmd_words.specs.Texts.{split_at, is_empty}
use Rattle.cmd_words.specs.Calculations.{is_name, after_white, trimmed, enclosed, call_of, calculated, calculation_of}
use Rattle.word_laws.specs.Calculations.{Spaced, item, IsCalculation, counts, sums}
use Rattle.word_laws.proofs.Tests.{same_bytes}

-- ## Cuts at a byte

abbrev place : ℕ → Text → ℕ
place k s = position_or_len (λ b. eqb b k) s

abbrev lacks : ℕ → Text → Bool
lacks k s = list_all (λ b. not (eqb b k)) s

place_at : (k : ℕ) (x y : Text) → lacks k x ≡ true → place k (x ++ k ∷ y) ≡ length x
place_at k [] y e =
    let here : eqb k k ≡ true = grind (arith, nat_tests) in
    rw here refl
place_at k (b ∷ x) y e =
    let here : eqb b k ≡ false = not-true (eqb b k) (and_parts (not (eqb b k)) _ e).0 in
    let later : place k (x ++ k ∷ y) ≡ length x = place_at k x y (and_parts (not (eqb b k)) (lacks k x) e).1 in
    rw here (omega (arith, later))

cut_at : (k : ℕ) (x y : Text) → lacks k x ≡ true → split_at k (x ++ k ∷ y) ≡ Some (x, y)
cut_at k x y e =
    let inside : ltb (length x) (length (x ++ k ∷ y)) ≡ true = grind (arith, nat_tests, length-append x (k ∷ y)) in
    let front : take (length x) (x ++ k ∷ y) ≡ x = take_at x (k ∷ y) (length x) refl in
    let last : length (x ++ k ∷ []) ≡ length x + 1 = length-append x (k ∷ []) in
    let back : drop (length x + 1) (x ++ k ∷ y) ≡ y = ap (drop (length x + 1)) (sym (append_assoc x (k ∷ []) y)) ∙ drop_at (x ++ k ∷ []) y (length x + 1) last in
    ap (λ (n : ℕ). cond (ltb n (length (x ++ k ∷ y))) (Some (take n (x ++ k ∷ y), drop (n + 1) (x ++ k ∷ y))) None) (place_at k x y e)
    ∙ ap (λ (t : Bool). cond t (Some (take (length x) (x ++ k ∷ y), drop (length x + 1) (x ++ k ∷ y))) None) inside
    ∙ ap₂ (λ (a b : Text). Some (a, b)) front back

cut_is : (k : ℕ) (s : Text) (p : Text × Text) → split_at k s ≡ Some p → s ≡ p.0 ++ k ∷ p.1
cut_is k s p e = go (ltb (place k s) (length s)) refl e
  where
    parted : (a b : Text) → Some (a, b) ≡ Some p → s ≡ a ++ k ∷ b → s ≡ p.0 ++ k ∷ p.1
    parted a b q h =
        let same : (a, b) ≡ p = cc in
        subst (λ (r : Text × Text). s ≡ r.0 ++ k ∷ r.1) same h

    go : (t : Bool) → ltb (place k s) (length s) ≡ t → cond t (Some (take (place k s) s, drop (place k s + 1) s)) None ≡ Some p → s ≡ p.0 ++ k ∷ p.1
    go false q h = absurd (cc)
    go true q h =
        let inside : place k s < length s = grind (arith, nat_tests) in
        let is : get_or s (place k s) k ≡ k = eqb-true (get_or s (place k s) k) k (passes_at_first (λ b. eqb b k) s k inside) in
        parted (take (place k s) s) (drop (place k s + 1) s) h
        (sym (take-append-drop (place k s) s)
        ∙ ap (λ (r : Text). take (place k s) s ++ r) (rw (add-one (place k s)) (drop-cons s (place k s) k inside ∙ ap (λ (b : ℕ). b ∷ drop (suc (place k s)) s) is)))

-- ## White space round a word

drop_step : (test : ℕ → Bool) (b : ℕ) (bs : Text) (t : Bool) → test b ≡ t → drop_while test (b ∷ bs) ≡ cond t (drop_while test bs) (b ∷ bs)
drop_step test b bs true e = rw (e, drop_while)
drop_step test b bs false e = rw (e, drop_while)

over_white : (a x : Text) → list_all is_white a ≡ true → after_white (a ++ x) ≡ after_white x
over_white [] x e = refl
over_white (b ∷ a) x e = drop_step is_white b (a ++ x) true (and_parts (is_white b) _ e).0 ∙ over_white a x (and_parts (is_white b) (list_all is_white a) e).1

-- no white space
abbrev solid : Text → Bool
solid s = list_all (λ b. not (is_white b)) s

stays : (x y : Text) → solid x ≡ true → (b : ℕ) (z : Text) → x ≡ b ∷ z → after_white (x ++ y) ≡ x ++ y
stays [] y e b z h = absurd (cc)
stays (c ∷ x) y e b z h = drop_step is_white c (x ++ y) false (not-true (is_white c) (and_parts (not (is_white c)) _ e).0)

whole_stays : (x : Text) → solid x ≡ true → after_white x ≡ x
whole_stays [] e = refl
whole_stays (b ∷ x) e = drop_step is_white b x false (not-true (is_white b) (and_parts (not (is_white b)) _ e).0)

all_reversed : (p : ℕ → Bool) (s : Text) → list_all p s ≡ true → list_all p (reverse s) ≡ true
all_reversed p [] e = refl
all_reversed p (b ∷ s) e =
    let here : p b ≡ true = (and_parts _ _ e).0 in
    let later : list_all p (reverse s) ≡ true = all_reversed p s (and_parts _ _ e).1 in
    ap (list_all p) (reverse-append (b ∷ []) s) ∙ list_all-append p (reverse s) (b ∷ []) ∙ rw (later, here) refl

trimmed_is : (word s : Text) → solid word ≡ true → Spaced word s → trimmed s ≡ word
trimmed_is word s e w = ap trimmed w.joined ∙ go word e
  where
    white_end : after_white w.past ≡ []
    white_end = ap after_white (sym (append-nil w.past)) ∙ over_white w.past [] w.white_after

    go : (x : Text) → solid x ≡ true → trimmed (w.before ++ (x ++ w.past)) ≡ x
    go [] e = ap (λ (z : Text). reverse (after_white (reverse z))) (over_white w.before w.past w.white_before ∙ white_end)
    go (b ∷ x) e =
        ap (λ (z : Text). reverse (after_white (reverse z))) (over_white w.before ((b ∷ x) ++ w.past) w.white_before ∙ stays (b ∷ x) w.past e b x refl)
        ∙ ap (λ (z : Text). reverse (after_white z)) (reverse-append (b ∷ x) w.past)
        ∙ ap reverse (over_white (reverse w.past) (reverse (b ∷ x)) (all_reversed is_white w.past w.white_after) ∙ whole_stays (reverse (b ∷ x)) (all_reversed (λ c. not (is_white c)) (b ∷ x) e))
        ∙ reverse-reverse (b ∷ x)

front_white : (s : Text) → (front : Text) × (list_all is_white front ≡ true) × (s ≡ front ++ after_white s)
front_white [] = ([], refl, refl)
front_white (b ∷ s) = go (is_white b) refl (front_white s)
  where
    go : (t : Bool) → is_white b ≡ t → (front : Text) × (list_all is_white front ≡ true) × (s ≡ front ++ after_white s) → (front : Text) × (list_all is_white front ≡ true) × (b ∷ s ≡ front ++ after_white (b ∷ s))
    go true e r = (b ∷ r.0, rw (e, r.1) refl, ap (λ (z : Text). b ∷ z) r.2 ∙ ap (λ (z : Text). (b ∷ r.0) ++ z) (sym (drop_step is_white b s true e)))
    go false e r = ([], refl, sym (drop_step is_white b s false e))

spaced : (s : Text) → Spaced (trimmed s) s
spaced s =
    let f = front_white s in
    let g = front_white (reverse (after_white s)) in
    record {
      before = f.0;
      past = reverse g.0;
      white_before = f.1;
      white_after = all_reversed is_white g.0 g.1;
      joined = f.2 ∙ ap (λ (z : Text). f.0 ++ z) (sym (reverse-reverse (after_white s)) ∙ ap reverse g.2 ∙ reverse-append g.0 (after_white (reverse (after_white s))));
    }

spaced_as : (word s : Text) → trimmed s ≡ word → Spaced word s
spaced_as word s e = subst (λ (w : Text). Spaced w s) e (spaced s)

-- ## Words have neither white space nor marks

all_imply : (p q : ℕ → Bool) → ((b : ℕ) → p b ≡ true → q b ≡ true) → (s : Text) → list_all p s ≡ true → list_all q s ≡ true
all_imply p q f [] e = refl
all_imply p q f (b ∷ s) e =
    let here : q b ≡ true = f b (and_parts _ _ e).0 in
    let later : list_all q s ≡ true = all_imply p q f s (and_parts _ _ e).1 in
    rw (here, later) refl

differs : (p : ℕ → Bool) (k : ℕ) → p k ≡ false → (b : ℕ) → p b ≡ true → eqb b k ≡ false
differs p k out b e = go (eqb b k) refl
  where
    go : (t : Bool) → eqb b k ≡ t → t ≡ false
    go true q =
        let same : b ≡ k = eqb-true b k q in
        let both : true ≡ false = sym e ∙ ap p same ∙ out in
        absurd (cc)
    go false q = refl

all_lack : (p : ℕ → Bool) (k : ℕ) → p k ≡ false → (s : Text) → list_all p s ≡ true → lacks k s ≡ true
all_lack p k out s e = all_imply p (λ b. not (eqb b k)) (λ b h. ap not (differs p k out b h)) s e

no_white : (b : ℕ) → is_name_byte b ≡ true → not (is_white b) ≡ true
no_white b e =
    let space : eqb b 32 ≡ false = differs is_name_byte 32 refl b e in
    let tab : eqb b 9 ≡ false = differs is_name_byte 9 refl b e in
    let feed : eqb b 10 ≡ false = differs is_name_byte 10 refl b e in
    let return : eqb b 13 ≡ false = differs is_name_byte 13 refl b e in
    rw (space, tab, feed, return) refl

name_bytes : (s : Text) → is_name s ≡ true → list_all is_name_byte s ≡ true
name_bytes [] e = absurd (cc)
name_bytes (b ∷ s) e =
    let letters : (is_name_start b && list_all is_name_byte s) ≡ true = (and_parts (is_name_start b && list_all is_name_byte s) _ e).0 in
    let first : is_name_start b ≡ true = (and_parts (is_name_start b) (list_all is_name_byte s) letters).0 in
    let others : list_all is_name_byte s ≡ true = (and_parts (is_name_start b) (list_all is_name_byte s) letters).1 in
    rw (first, others) refl

solid_word : (s : Text) → list_all is_name_byte s ≡ true → solid s ≡ true
solid_word s e = all_imply is_name_byte (λ b. not (is_white b)) no_white s e

spaced_lacks : (k : ℕ) (word s : Text) → is_white k ≡ false → is_name_byte k ≡ false → list_all is_name_byte word ≡ true → Spaced word s → lacks k s ≡ true
spaced_lacks k word s white out e w =
    let before : lacks k w.before ≡ true = all_lack is_white k white w.before w.white_before in
    let within : lacks k word ≡ true = all_lack is_name_byte k out word e in
    let past : lacks k w.past ≡ true = all_lack is_white k white w.past w.white_after in
    ap (lacks k) w.joined ∙ list_all-append (λ b. not (eqb b k)) w.before (word ++ w.past) ∙ ap₂ ◌&&◌ before (list_all-append (λ b. not (eqb b k)) word w.past ∙ ap₂ ◌&&◌ within past)

-- ## From the grammar

enclosed_is : (p e field : Text) → lacks 41 p ≡ true → trimmed p ≡ field → trimmed e ≡ [] → enclosed (p ++ 41 ∷ e) ≡ Some field
enclosed_is p e field l t n =
    ap (option_and_then (λ (q : Text × Text). cond (is_empty (trimmed q.1)) (Some (trimmed q.0)) None)) (cut_at 41 p e l)
    ∙ ap (λ (z : Text). cond (is_empty z) (Some (trimmed p)) None) n ∙ ap (λ (z : Text). Some z) t

call_is : (f p e function field : Text) → lacks 40 f ≡ true → lacks 41 p ≡ true → trimmed f ≡ function → trimmed p ≡ field → trimmed e ≡ [] → call_of (f ++ 40 ∷ (p ++ 41 ∷ e)) ≡ Some (function, field)
call_is f p e function field l m t u n =
    ap (option_and_then (λ (q : Text × Text). option_map (λ (z : Text). (trimmed q.0, z)) (enclosed q.1))) (cut_at 40 f (p ++ 41 ∷ e) l)
    ∙ ap (option_map (λ (z : Text). (trimmed f, z))) (enclosed_is p e field m u n) ∙ ap (λ (z : Text). Some (z, field)) t

read_as : (n f p e name function field : Text) (c : Calc) → list_all is_name_byte name ≡ true → list_all is_name_byte function ≡ true → list_all is_name_byte field ≡ true
    → Spaced name n → Spaced function f → Spaced field p → Spaced [] e → calculated name (function, field) ≡ Some c → calculation_of (item n f p e) ≡ Some c
unfolding calculation_of
read_as n f p e name function field c a b d sn sf sp se made =
    let call : call_of (f ++ 40 ∷ (p ++ 41 ∷ e)) ≡ Some (function, field) =
    call_is f p e function field (spaced_lacks 40 function f refl refl b sf) (spaced_lacks 41 field p refl refl d sp) (trimmed_is function f (solid_word function b) sf) (trimmed_is field p (solid_word field d) sp) (trimmed_is [] e refl se) in
    ap (option_and_then (λ (q : Text × Text). option_and_then (calculated (trimmed q.0)) (call_of q.1))) (cut_at 61 n (f ++ 40 ∷ (p ++ 41 ∷ e)) (spaced_lacks 61 name n refl refl a sn))
    ∙ ap (option_and_then (calculated (trimmed n))) call ∙ ap (λ (z : Text). calculated z (function, field)) (trimmed_is name n (solid_word name a) sn) ∙ made

counted : (name : Text) → is_name name ≡ true → calculated name (codes "count", []) ≡ Some (calc.Count name)
counted name e = rw e refl

summed : (name field : Text) → is_name name ≡ true → is_name field ≡ true → calculated name (codes "sum", field) ≡ Some (calc.Sum name field)
summed name field e f = rw (e, f) refl

from_grammar : (s : Text) (c : Calc) → IsCalculation s c → calculation_of s ≡ Some c
from_grammar _ _ (counts {name} {n} {f} {p} {e} is sn sf sp se) = read_as n f p e name (codes "count") [] (calc.Count name) (name_bytes name is) refl refl sn sf sp se (counted name is)
from_grammar _ _ (sums {name} {field} {n} {f} {p} {e} is it sn sf sp se) = read_as n f p e name (codes "sum") field (calc.Sum name field) (name_bytes name is) refl (name_bytes field it) sn sf sp se (summed name field is it)

-- ## To the grammar

empty_is : (s : Text) → is_empty s ≡ true → s ≡ []
empty_is [] e = refl
empty_is (b ∷ s) e =
    let none : length (b ∷ s) ≡ 0 = eqb-true (length (b ∷ s)) 0 e in
    absurd (omega (arith, none))

-- a call, as it was cut
record Call (t : Text) (q : Text × Text) : Type 0 where
  f : Text
  p : Text
  e : Text
  whole : t ≡ f ++ 40 ∷ (p ++ 41 ∷ e)
  function : Spaced q.0 f
  field : Spaced q.1 p
  end : Spaced [] e

call_from : (t : Text) (q : Text × Text) → call_of t ≡ Some q → Call t q
call_from t q h = go (split_at 40 t) refl h
  where
    made : (a b : Text × Text) (field : Text) → split_at 40 t ≡ Some a → split_at 41 a.1 ≡ Some b → is_empty (trimmed b.1) ≡ true → trimmed b.0 ≡ field → Some (trimmed a.0, field) ≡ Some q → Call t q
    made a b field u v n m k =
        let same : (trimmed a.0, field) ≡ q = cc in
        subst (λ (r : Text × Text). Call t r) same
        (record {
          f = a.0;
          p = b.0;
          e = b.1;
          whole = cut_is 40 t a u ∙ ap (λ (z : Text). a.0 ++ 40 ∷ z) (cut_is 41 a.1 b v);
          function = spaced a.0;
          field = spaced_as field b.0 m;
          end = spaced_as [] b.1 (empty_is (trimmed b.1) n);
        })

    ended : (a b : Text × Text) (w : Bool) → split_at 40 t ≡ Some a → split_at 41 a.1 ≡ Some b → is_empty (trimmed b.1) ≡ w → option_map (λ (z : Text). (trimmed a.0, z)) (cond w (Some (trimmed b.0)) None) ≡ Some q → Call t q
    ended a b true u v n k = made a b (trimmed b.0) u v n refl k
    ended a b false u v n k = absurd (cc)

    closed : (a : Text × Text) (o : Option (Text × Text)) → split_at 40 t ≡ Some a → split_at 41 a.1 ≡ o
        → option_map (λ (z : Text). (trimmed a.0, z)) (option_and_then (λ (b : Text × Text). cond (is_empty (trimmed b.1)) (Some (trimmed b.0)) None) o) ≡ Some q → Call t q
    closed a None u v k = absurd (cc)
    closed a (Some b) u v k = ended a b (is_empty (trimmed b.1)) u v refl k

    go : (o : Option (Text × Text)) → split_at 40 t ≡ o → option_and_then (λ (a : Text × Text). option_map (λ (z : Text). (trimmed a.0, z)) (enclosed a.1)) o ≡ Some q → Call t q
    go None u k = absurd (cc)
    go (Some a) u k = closed a (split_at 41 a.1) u refl k

module _ (s : Text) (c : Calc) where
  counted_from : (a q : Text × Text) → s ≡ a.0 ++ 61 ∷ a.1 → Call a.1 q → is_name (trimmed a.0) ≡ true → q.0 ≡ codes "count" → q.1 ≡ [] → calc.Count (trimmed a.0) ≡ c → IsCalculation s c
  counted_from a q cut call is x y k =
      subst (λ (z : Calc). IsCalculation s z) k (subst (λ (z : Text). IsCalculation z (calc.Count (trimmed a.0))) (sym (cut ∙ ap (λ (z : Text). a.0 ++ 61 ∷ z) call.whole))
      (counts is (spaced a.0) (subst (λ (z : Text). Spaced z call.f) x call.function) (subst (λ (z : Text). Spaced z call.p) y call.field) call.end))

  summed_from : (a q : Text × Text) → s ≡ a.0 ++ 61 ∷ a.1 → Call a.1 q → is_name (trimmed a.0) ≡ true → q.0 ≡ codes "sum" → is_name q.1 ≡ true → calc.Sum (trimmed a.0) q.1 ≡ c → IsCalculation s c
  summed_from a q cut call is x it k =
      subst (λ (z : Calc). IsCalculation s z) k (subst (λ (z : Text). IsCalculation z (calc.Sum (trimmed a.0) q.1)) (sym (cut ∙ ap (λ (z : Text). a.0 ++ 61 ∷ z) call.whole))
      (sums is it (spaced a.0) (subst (λ (z : Text). Spaced z call.f) x call.function) call.field call.end))

  by_function : (a q : Text × Text) → s ≡ a.0 ++ 61 ∷ a.1 → Call a.1 q → (x y z : Bool) → is_name (trimmed a.0) ≡ x → (bytes_eq q.0 (codes "count") && is_empty q.1) ≡ y → (bytes_eq q.0 (codes "sum") && is_name q.1) ≡ z
      → cond (not x) None (cond y (Some (calc.Count (trimmed a.0))) (cond z (Some (calc.Sum (trimmed a.0) q.1)) None)) ≡ Some c → IsCalculation s c
  by_function a q cut call false y z e f g k = absurd (cc)
  by_function a q cut call true true z e f g k =
      let same : calc.Count (trimmed a.0) ≡ c = cc in
      counted_from a q cut call e (same_bytes q.0 (codes "count") (and_parts _ _ f).0) (empty_is q.1 (and_parts _ _ f).1) same
  by_function a q cut call true false true e f g k =
      let same : calc.Sum (trimmed a.0) q.1 ≡ c = cc in
      summed_from a q cut call e (same_bytes q.0 (codes "sum") (and_parts _ _ g).0) (and_parts _ _ g).1 same
  by_function a q cut call true false false e f g k = absurd (cc)

  to_grammar : calculation_of s ≡ Some c → IsCalculation s c
  unfolding calculation_of
  to_grammar h = go (split_at 61 s) refl h
    where
      called : (a : Text × Text) (o : Option (Text × Text)) → split_at 61 s ≡ Some a → call_of a.1 ≡ o → option_and_then (calculated (trimmed a.0)) o ≡ Some c → IsCalculation s c
      called a None u v k = absurd (cc)
      called a (Some q) u v k = by_function a q (cut_is 61 s a u) (call_from a.1 q v) _ _ _ refl refl refl k

      go : (o : Option (Text × Text)) → split_at 61 s ≡ o → option_and_then (λ (a : Text × Text). option_and_then (calculated (trimmed a.0)) (call_of a.1)) o ≡ Some c → IsCalculation s c
      go None u k = absurd (cc)
      go (Some a) u k = called a (call_of a.1) u refl k

pub of_grammar : (s : Text) (c : Calc) → (calculation_of s ≡ Some c) ↔ IsCalculation s c
of_grammar s c = (to_grammar s c, from_grammar s c)

-- Words that are cut into groups from the left.
use Rattle.std.proofs.Common.{◌≡◌, ℕ, suc, ◌+◌, ◌<◌, Bool, true, false, List, [], ◌∷◌, length, get_or, take, drop, refl, ap, sym, ◌∙◌, subst, arith}
use Rattle.std.specs.List.{position_or_len}
use Rattle.cmd_words.specs.declared.word_groups.Word.{Word}
use Rattle.cmd_words.specs.Rows.{Text, import_form}
use Rattle.cmd_words.specs.Texts.{is_command}
use Rattle.cmd_words.specs.Steps.{on_ok}
use Rattle.cmd_words.specs.Expressions.{Refusals}
use Rattle.cmd_words.specs.Groups.{empty_group}
use Rattle.cmd_words.specs.Chains.{SoFar}
use Rattle.cmd_words.specs.Words.{Reading, CommandGroup, words_from, grouped, take_words, take_command, take_commands, after_import, read_groups}
use Rattle.cmd_words.specs.Cuts.{BeginsACommand, commands_of}
use Rattle.cmd_words.proofs.Taking.{from_place}

abbrev plain : List Text → ℕ
plain ws = position_or_len is_command ws

-- the first group is the words before the first command word
first_of_cut : (n : ℕ) (ws : List Text) → (grouped (words_from n ws)).first ≡ words_from n (take (plain ws) ws)
first_of_cut n [] = refl
first_of_cut n (w ∷ ws) = go (is_command w) refl (first_of_cut (n + 1) ws)
  where
    go : (t : Bool) → is_command w ≡ t → (grouped (words_from (n + 1) ws)).first ≡ words_from (n + 1) (take (plain ws) ws) → (grouped (words_from n (w ∷ ws))).first ≡ words_from n (take (plain (w ∷ ws)) (w ∷ ws))
    go true e later =
        let p : plain (w ∷ ws) ≡ 0 = rw e refl in
        let none : (grouped (words_from n (w ∷ ws))).first ≡ [] = rw e refl in
        none ∙ sym (ap (λ (k : ℕ). words_from n (take k (w ∷ ws))) p)
    go false e later =
        let p : plain (w ∷ ws) ≡ suc (plain ws) = rw e (omega arith) in
        let more : (grouped (words_from n (w ∷ ws))).first ≡ record { number = n; text = w } ∷ (grouped (words_from (n + 1) ws)).first = rw e refl in
        more ∙ ap (λ (xs : List Word). record { number = n; text = w } ∷ xs) later ∙ sym (ap (λ (k : ℕ). words_from n (take k (w ∷ ws))) p)

-- the commands are those of the other words
commands_of_cut : (n : ℕ) (ws : List Text) → commands_of n ws ≡ commands_of (n + plain ws) (drop (plain ws) ws)
commands_of_cut n [] = refl
commands_of_cut n (w ∷ ws) = go (is_command w) refl (commands_of_cut (n + 1) ws)
  where
    go : (t : Bool) → is_command w ≡ t → commands_of (n + 1) ws ≡ commands_of ((n + 1) + plain ws) (drop (plain ws) ws) → commands_of n (w ∷ ws) ≡ commands_of (n + plain (w ∷ ws)) (drop (plain (w ∷ ws)) (w ∷ ws))
    go true e later =
        let p : plain (w ∷ ws) ≡ 0 = rw e refl in
        let z : n + 0 ≡ n = omega arith in
        sym (ap (λ (k : ℕ). commands_of (n + k) (drop k (w ∷ ws))) p ∙ ap (λ (m : ℕ). commands_of m (w ∷ ws)) z)
    go false e later =
        let p : plain (w ∷ ws) ≡ suc (plain ws) = rw e (omega arith) in
        let m : n + suc (plain ws) ≡ (n + 1) + plain ws = omega arith in
        let skipped : (grouped (words_from n (w ∷ ws))).commands ≡ (grouped (words_from (n + 1) ws)).commands = rw e refl in
        skipped ∙ later ∙ sym (ap (λ (k : ℕ). commands_of (n + k) (drop k (w ∷ ws))) p ∙ ap (λ (k : ℕ). commands_of k (drop (plain ws) ws)) m)

-- what is left after the first group begins with a command word
pub begins_after_cut : (ws : List Text) → BeginsACommand (drop (plain ws) ws)
begins_after_cut [] = tt
begins_after_cut (w ∷ ws) = go (is_command w) refl (begins_after_cut ws)
  where
    go : (t : Bool) → is_command w ≡ t → BeginsACommand (drop (plain ws) ws) → BeginsACommand (drop (plain (w ∷ ws)) (w ∷ ws))
    go true e later =
        let p : plain (w ∷ ws) ≡ 0 = rw e refl in
        subst (λ (k : ℕ). BeginsACommand (drop k (w ∷ ws))) (sym p) e
    go false e later =
        let p : plain (w ∷ ws) ≡ suc (plain ws) = rw e (omega arith) in
        subst (λ (k : ℕ). BeginsACommand (drop k (w ∷ ws))) (sym p) later

-- a command word begins a command with the words up to the next one
commands_from_word : (n : ℕ) (w : Text) (ws : List Text) → is_command w ≡ true → commands_of n (w ∷ ws) ≡ record { word = record { number = n; text = w }; rest = words_from (n + 1) (take (plain ws) ws) } ∷ commands_of ((n + 1) + plain ws) (drop (plain ws) ws)
commands_from_word n w ws e =
    let cut : (grouped (words_from n (w ∷ ws))).commands ≡ record { word = record { number = n; text = w }; rest = (grouped (words_from (n + 1) ws)).first } ∷ (grouped (words_from (n + 1) ws)).commands = rw e refl in
    cut ∙ ap (λ (r : List Word). record { word = record { number = n; text = w }; rest = r } ∷ commands_of (n + 1) ws) (first_of_cut (n + 1) ws)
    ∙ ap (λ (cs : List CommandGroup). record { word = record { number = n; text = w }; rest = words_from (n + 1) (take (plain ws) ws) } ∷ cs) (commands_of_cut (n + 1) ws)

-- ## One command of many

module _ (refuses : Refusals) (places : ℕ) (s : SoFar) (n m k : ℕ) (w : Text) (ws group next : List Text) where
  abbrev first_command : Reading SoFar
  first_command = take_command refuses places s (record { word = record { number = n; text = w }; rest = words_from (n + 1) group })

  one_command : is_command w ≡ true → k ≡ plain ws → group ≡ take k ws → next ≡ drop k ws → m ≡ (n + 1) + k → take_commands refuses places s (commands_of n (w ∷ ws)) ≡ on_ok first_command (λ (t : SoFar). take_commands refuses places t (commands_of m next))
  one_command e p g r q =
      let cut = ap (λ (cs : List CommandGroup). take_commands refuses places s cs) (commands_from_word n w ws e) in
      rw (q, r, g, p) cut

-- the same, where the words are not taken apart
pub next_command : (refuses : Refusals) (places : ℕ) (s : SoFar) (n m k : ℕ) (w v : Text) (ws rest group next : List Text) → w ≡ v → 0 < length ws → v ≡ get_or ws 0 v → rest ≡ drop 1 ws → BeginsACommand ws
    → k ≡ plain rest → group ≡ take k rest → next ≡ drop k rest → m ≡ (n + 1) + k
    → take_commands refuses places s (commands_of n ws) ≡ on_ok (take_command refuses places s (record { word = record { number = n; text = w }; rest = words_from (n + 1) group })) (λ (t : SoFar). take_commands refuses places t (commands_of m next))
next_command refuses places s n m k w v ws rest group next same h is past begins p g r q =
    let whole : ws ≡ w ∷ rest = from_place ws 0 v h is ∙ ap (λ (x : Text). x ∷ drop 1 ws) (sym same) ∙ ap (λ (xs : List Text). w ∷ xs) (sym past) in
    let e : is_command w ≡ true = subst BeginsACommand whole begins in
    ap (λ (xs : List Text). take_commands refuses places s (commands_of n xs)) whole ∙ one_command refuses places s n m k w rest group next e p g r q

-- the import, and what is read after it
pub read_cut : (refuses : Refusals) (n m k : ℕ) (ws import rest : List Text) → k ≡ plain ws → import ≡ take k ws → rest ≡ drop k ws → m ≡ n + k → read_groups refuses (grouped (words_from n ws)) ≡ on_ok (take_words refuses 6 import_form (empty_group false) (words_from n import)) (after_import refuses (commands_of m rest))
read_cut refuses n m k ws import rest p g r q =
    let first = ap (λ (f : List Word). on_ok (take_words refuses 6 import_form (empty_group false) f) (after_import refuses (commands_of n ws))) (first_of_cut n ws) in
    let commands = ap (λ (cs : List CommandGroup). on_ok (take_words refuses 6 import_form (empty_group false) (words_from n (take (plain ws) ws))) (after_import refuses cs)) (commands_of_cut n ws) in
    rw (q, r, g, p) (first ∙ commands)

-- The words of a group, taken one after the other.
use Rattle.std.proofs.Common.{◌≡◌, ℕ, suc, ◌+◌, ◌<◌, List, ◌∷◌, length, get_or, drop, ap, sym, ◌∙◌, add-one, drop-cons}
use Rattle.cmd_words.specs.Rows.{Text, Form}
use Rattle.cmd_words.specs.Steps.{on_ok}
use Rattle.cmd_words.specs.Expressions.{Refusals}
use Rattle.cmd_words.specs.Groups.{Group}
use Rattle.cmd_words.specs.Options.{take_word}
use Rattle.cmd_words.specs.Words.{at_word, words_from, take_words}

-- the words from place i on are the word there and those after it
pub from_place : (ws : List Text) (i : ℕ) (w : Text) → i < length ws → w ≡ get_or ws i w → drop i ws ≡ w ∷ drop (i + 1) ws
from_place ws i w h is = rw (add-one i) (drop-cons ws i w h ∙ ap (λ (x : Text). x ∷ drop (suc i) ws) (sym is))

pub word_taken : (refuses : Refusals) (places : ℕ) (form : Form) (g : Group) (n i : ℕ) (w v : Text) (ws : List Text) → w ≡ v → i < length ws → v ≡ get_or ws i v
    → take_words refuses places form g (words_from n (drop i ws)) ≡ on_ok (at_word n (take_word refuses places form g (record { number = n; text = w }))) (λ (h : Group). take_words refuses places form h (words_from (n + 1) (drop (i + 1) ws)))
word_taken refuses places form g n i w v ws same h is = ap (λ (xs : List Text). take_words refuses places form g (words_from n xs)) (from_place ws i v h is ∙ ap (λ (x : Text). x ∷ drop (i + 1) ws) (sym same))

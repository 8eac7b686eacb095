-- Commands read one after the other, and the chain that they are.
use Rattle.std.proofs.Common.{◌≡◌, ℕ, ◌<◌, false, not, List, [], ◌∷◌, length, get_or, codes, Option, Some, is_some, Result, Ok, refl, ap, sym, ◌∙◌, subst, arith}
use Rattle.std.specs.Str.{bytes_eq}
use Rattle.cmd_words.specs.declared.fault.WordFault.{WordFault}
use Rattle.cmd_words.specs.declared.word_groups.Word.{Word}
use Rattle.job_terms.specs.declared.job.Chain.{Chain}
use Rattle.cmd_words.specs.Rows.{Text, Row, row_of}
use Rattle.cmd_words.specs.Steps.{on_ok}
use Rattle.cmd_words.specs.Expressions.{Refusals}
use Rattle.cmd_words.specs.Groups.{Group, empty_group, argument_in}
use Rattle.cmd_words.specs.Chains.{SoFar}
use Rattle.cmd_words.specs.Quantities.{number_in}
use Rattle.cmd_words.specs.Words.{Reading, CommandGroup, take_words, finished, take_command, take_commands, places_in, imported, after_import, synth, read_size, read_seed, read_chain_words, read_job}
use Rattle.cmd_words.specs.ActionWords.{FitEach}
use Rattle.cmd_words.specs.Tells.{Turns, Tells, FitsChain}
use Rattle.cmd_words.proofs.Readings.{goes_on}

-- ## One command

-- its words are taken, and then it is
pub group_taken : (refuses : Refusals) (places : ℕ) (s : SoFar) (n : ℕ) (rest : List Word) (row : Row) (h g : Group) (y : SoFar) (r : Result (Unit {0}) WordFault) → take_words refuses places row.form h rest ≡ Ok g
    → Turns (finished s row.keyword n g) y r → Turns (on_ok (take_words refuses places row.form h rest) (finished s row.keyword n)) y r
group_taken refuses places s n rest row h g y r read t = subst (λ (a : Reading SoFar). Turns a y r) (sym (goes_on (take_words refuses places row.form h rest) (finished s row.keyword n) g read)) t

module _ (refuses : Refusals) (places : ℕ) (s : SoFar) (n : ℕ) (w : Text) (rest : List Word) where
  abbrev this_command : Reading SoFar
  this_command = take_command refuses places s (record { word = record { number = n; text = w }; rest = rest })

  command_is_known : (row : Row) → bytes_eq w (codes "-i") ≡ false → Some row ≡ row_of w → this_command ≡ on_ok (take_words refuses places row.form (empty_group s.reads_standard) rest) (finished s row.keyword n)
  command_is_known row e known = rw (e, ← known) refl

  pub command_taken : (row : Row) (h : Group) (y : SoFar) (r : Result (Unit {0}) WordFault) → bytes_eq w (codes "-i") ≡ false → Some row ≡ row_of w → h ≡ empty_group s.reads_standard
      → Turns (on_ok (take_words refuses places row.form h rest) (finished s row.keyword n)) y r → Turns this_command y r
  command_taken row h y r e known empty t =
      subst (λ (a : Reading SoFar). Turns a y r) (sym (command_is_known row e known))
      (subst (λ (f : Group). Turns (on_ok (take_words refuses places row.form f rest) (finished s row.keyword n)) y r) empty t)

-- ## The chain

module _ (refuses : Refusals) (g : Group) (cs : List CommandGroup) where
  past_import : not (is_some (argument_in g)) ≡ false → after_import refuses cs g ≡ on_ok (take_commands refuses (places_in g) (imported g) cs) (λ (s : SoFar). Ok (record { places = places_in g; so_far = s }))
  past_import e = rw e refl

  -- the same, where the import was read
  pub after_read : (places : ℕ) (s : SoFar) → not (is_some (argument_in g)) ≡ false → places ≡ places_in g → s ≡ imported g → after_import refuses cs g ≡ on_ok (take_commands refuses places s cs) (λ (t : SoFar). Ok (record { places = places; so_far = t }))
  after_read places s e p i = rw (p, i) (past_import e)

  pub chain_fits : (places : ℕ) (s t : SoFar) (c : Chain) → not (is_some (argument_in g)) ≡ false → places ≡ places_in g → s ≡ imported g → take_commands refuses places s cs ≡ Ok t
      → c.places ≡ places → c.sources ≡ t.sources → c.boxes ≡ t.boxes → FitEach t.commands c.commands → Tells FitsChain (after_import refuses cs g) (Ok c)
  chain_fits places s t c e p i read a b d f =
      let made : after_import refuses cs g ≡ Ok (record { places = places; so_far = t }) = after_read places s e p i ∙ goes_on (take_commands refuses places s cs) _ t read in
      (record { places = places; so_far = t }, made, record { places = a; sources = b; boxes = d; commands = f })

-- ## The job

pub no_mosaic : (refuses : Refusals) (ws : List Text) (w v : Text) → w ≡ v → 0 < length ws → v ≡ get_or ws 0 v → bytes_eq w (codes "synth") ≡ false → read_job refuses ws ≡ read_chain_words refuses ws
no_mosaic refuses [] w v same h is e = absurd (omega (arith, h))
no_mosaic refuses (x ∷ xs) w v same h is e =
    let f : bytes_eq x (codes "synth") ≡ false = subst (λ (y : Text). bytes_eq y (codes "synth") ≡ false) (same ∙ is) e in
    rw f refl

pub seed_and_size : (seed n : ℕ) (o : Option ℕ) (size : Text) → Some seed ≡ o → Some n ≡ number_in 1 300 size → read_seed o size ≡ Ok (synth seed n)
seed_and_size seed n o size e f = subst (λ (p : Option ℕ). read_seed p size ≡ Ok (synth seed n)) e (ap (read_size seed) (sym f))

-- Steps of a group, case by case.
use Rattle.std.proofs.Common.{◌≡◌, ℕ, Bool, false, not, ◌&&◌, cond, [], ◌∷◌, ◌++◌, Option, Some, None, Result, Ok, Err, is_some, refl, subst}
use Rattle.cmd_words.specs.declared.fault.Refusal.{Refusal}
use Rattle.cmd_words.specs.declared.fault.Refusal.TheVariants as refusal
use Rattle.cmd_words.specs.declared.fault.WordWhy.{WordWhy}
use Rattle.cmd_words.specs.declared.commands.ValueForm.{ValueForm}
use Rattle.cmd_words.specs.declared.commands.ArgumentForm.{ArgumentForm}
use Rattle.cmd_words.specs.declared.option_values.Values.{Values}
use Rattle.cmd_words.specs.declared.word_groups.Word.{Word}
use Rattle.cmd_words.specs.Rows.{Text, Form, form_of}
use Rattle.cmd_words.specs.Steps.{on_ok, Makes}
use Rattle.cmd_words.specs.Expressions.{Refusals}
use Rattle.cmd_words.specs.Groups.{Group, value_in}
use Rattle.cmd_words.specs.OptionValues.{take_value}
use Rattle.cmd_words.specs.Options.{Step, with_value, take_known, take_text, take_argument, take_plain, take_either, lacks_value, is_excluded, is_list, is_read, has_room, with_argument}
use Rattle.cmd_words.specs.Texts.{has_empty_piece, is_standard}

pub makes_else : (b : Bool) (x y : Step) (new : Group) (r : Result (Unit {0}) Refusal) → b ≡ false → Makes y new r → Makes (cond b x y) new r
makes_else b x y new r e h = rw e h

-- the values of a group take one more
pub value_kept : (refuses : Refusals) (places : ℕ) (f : ValueForm) (s : Text) (inside g h : Group) (v : Values) (r : Result (Unit {0}) Refusal)
    → inside ≡ g → h ≡ record inside { values = v } → Makes (take_value refuses places f s inside.values) v r → Makes (with_value refuses places f s g) h r
value_kept refuses places f s inside g h v r e k m = subst (λ (x : Group). Makes (with_value refuses places f s x) h r) e (go (take_value refuses places f s inside.values) r m)
  where
    go : (answer : Result Values WordWhy) (q : Result (Unit {0}) Refusal) → Makes answer v q → Makes (on_ok answer (λ (x : Values). Ok (record inside { values = x }))) h q
    go answer (Ok _) n = rw (n, k) refl
    go answer (Err (refusal.Why why)) n = rw n refl
    go answer (Err refusal.Memory) n = tt

-- an option that passes all tests
pub known_step : (refuses : Refusals) (places : ℕ) (f : Option ValueForm) (v : ValueForm) (o : Text × Text) (g h new : Group) (r : Result (Unit {0}) Refusal)
    → f ≡ Some v → is_some (value_in g o.0) ≡ false → lacks_value v o.1 ≡ false → is_excluded v g ≡ false
    → h ≡ record g { options = g.options ++ record { name = o.0; value = o.1 } ∷ [] }
    → Makes (with_value refuses places v o.1 h) new r → Makes (take_known refuses places f o g) new r
known_step refuses places f v o g h new r known once some alone added m =
    rw known (makes_else _ _ _ new r once (makes_else _ _ _ new r some (makes_else _ _ _ new r alone (subst (λ (k : Group). Makes (with_value refuses places v o.1 k) new r) added m))))

-- an argument that passes all tests
pub argument_step : (refuses : Refusals) (a : ArgumentForm) (w : Word) (g h new : Group) (r : Result (Unit {0}) Refusal)
    → (is_list a && has_empty_piece w.text) ≡ false → not (has_room a g) ≡ false → ((is_read a && is_standard w.text) && g.reads_standard) ≡ false
    → h ≡ with_argument a w g
    → Makes (take_text refuses a w.text h) new r → Makes (take_argument refuses a w g) new r
argument_step refuses a w g h new r full room once added m =
    makes_else _ _ _ new r full (makes_else _ _ _ new r room (makes_else _ _ _ new r once (rw (← added) m)))

pub option_step : (refuses : Refusals) (places : ℕ) (form : Form) (f : Option ValueForm) (o : Text × Text) (option : Option (Text × Text)) (w : Word) (g new : Group) (r : Result (Unit {0}) Refusal)
    → Some o ≡ option → f ≡ form_of form.options o.0 → Makes (take_known refuses places f o g) new r → Makes (take_either refuses places form option w g) new r
option_step refuses places form f o option w g new r e k m = rw (← e) (rw (← k) m)

pub plain_step : (refuses : Refusals) (places : ℕ) (form : Form) (o : Option (Text × Text)) (w : Word) (g new : Group) (r : Result (Unit {0}) Refusal)
    → None ≡ o → Makes (take_plain refuses form w g) new r → Makes (take_either refuses places form o w g) new r
plain_step refuses places form o w g new r e m = rw (← e) m

-- What effects leave, one after another.
use Rattle.std.proofs.Common.{◌≡◌, ◌⊎◌, inl, inr, refl, sym, ap, ◌∙◌, subst, ℕ, Bool, true, false, cond, List, [], ◌∷◌, ◌++◌, take, drop, bytes_eq, length, ◌<◌, Option, Some, None, MatchOption, append-nil, append_assoc}
use Rattle.std.specs.Prelude.{◌≢◌}
use Rattle.std.specs.Io.KnownBytes.{Appends}
use Rattle.std.proofs.lemmas.List.{take-append-drop}
use Rattle.std.proofs.lemmas.Slice.Eq.{bytes_eq-Decides}
use Rattle.io_core.specs.Contents.{Content, FileMap, SameFiles, Puts}
use Rattle.table_terms.specs.Names.{Text}
use Rattle.run_chain.specs.Effects.{OutsideSeen, CutsText, GainsFront, HoldsFront, WroteText}
use Rattle.chain_model.specs.Headline.{EachName, HoldsAfter, held_after, streamed}
use Rattle.chain_model.specs.Running.{Effect}
use Rattle.headline_laws.specs.Refused.{outside_of}
use Rattle.headline_laws.proofs.Unchanged.{no_text}

-- ## Streams

appended_twice : (a b c : Option Content) (s t : Text) → Appends a b s → Appends b c t → Appends a c (s ++ t)
appended_twice None b c s t x y = tt
appended_twice (Some a) None c s t x y = absurd x
appended_twice (Some a) (Some b) None s t x y = absurd y
appended_twice (Some a) (Some b) (Some c) s t x y = y ∙ ap (λ (front : Content). front ++ t) x ∙ append_assoc a s t

streamed_one : (e : Effect) (es : List Effect) → streamed (e ∷ []) ++ streamed es ≡ streamed (e ∷ es)
streamed_one e es = go e.to
  where
    go : (to : Option Text) → (elim to [ None ↦ e.text ++ [] | Some name ↦ [] ]) ++ streamed es ≡ elim to [ None ↦ e.text ++ streamed es | Some name ↦ streamed es ]
    go None = ap (λ (text : Text). text ++ streamed es) (append-nil e.text)
    go (Some name) = refl

-- ## Files

files_twice : (a b c : Option FileMap) (goes on : Text → Option Text → Option Text → Type 0) (both : Text → Option Text → Option Text → Type 0)
    → ((name : Text) (x y z : Option Text) → goes name x y → on name y z → both name x z) → EachName a b goes → EachName b c on → EachName a c both
files_twice None b c goes on both join x y = tt
files_twice (Some a) None c goes on both join x y = absurd x
files_twice (Some a) (Some b) None goes on both join x y = absurd y
files_twice (Some a) (Some b) (Some c) goes on both join x y = λ name. join name (a name) (b name) (c name) (x name) (y name)

-- ## Effects

pub held_on : (before middle after : OutsideSeen) (e : Effect) (es : List Effect) → HoldsAfter (outside_of before) (outside_of middle) (e ∷ []) → HoldsAfter (outside_of middle) (outside_of after) es → HoldsAfter (outside_of before) (outside_of after) (e ∷ es)
held_on before middle after e es one more = record {
  files = files_twice before.files middle.files after.files (λ name was now. now ≡ held_after (e ∷ []) name was) (λ name was now. now ≡ held_after es name was) (λ name was now. now ≡ held_after (e ∷ es) name was)
      (λ name x y z first second. second ∙ ap (held_after es name) first) one.files more.files;
  stream = subst (Appends before.stream after.stream) (streamed_one e es) (appended_twice before.stream middle.stream after.stream (streamed (e ∷ [])) (streamed es) one.stream more.stream);
}

-- where an output goes
abbrev pub place_of : Bool → Text → Option Text
place_of standard to = cond standard None (Some to)

abbrev pub effect : ℕ → Bool → Text → Text → Effect
effect n standard to text = record { command = n; to = place_of standard to; text = text }

put_name : (a b : Option FileMap) (to text : Text) → Puts a b to (λ _. text) → EachName a b (λ name was now. now ≡ (cond (bytes_eq to name) (Some text) was))
put_name None b to text puts = tt
put_name (Some a) None to text puts = absurd puts
put_name (Some a) (Some b) to text puts = λ name. go name (bytes_eq to name) refl
  where
    go : (name : Text) (test : Bool) → bytes_eq to name ≡ test → b name ≡ cond test (Some text) (a name)
    go name true e = ap b (sym ((bytes_eq-Decides to name).0 e)) ∙ puts.there
    go name false e = puts.others name (λ same. absurd (let f : bytes_eq to name ≡ true = (bytes_eq-Decides to name).1 (sym same) in cc))

same_names : (a b : Option FileMap) → SameFiles a b → EachName a b (λ (name : Text) (was now : Option Text). now ≡ was)
same_names None b s = tt
same_names (Some a) None s = absurd s
same_names (Some a) (Some b) s = s

-- a text that was written whole is an effect
pub whole_held : (standard : Bool) (n : ℕ) (to text : Text) (before after : OutsideSeen) → WroteText standard to text before after → HoldsAfter (outside_of before) (outside_of after) (effect n standard to text ∷ [])
whole_held true n to text before after w = record {
  files = same_names before.files after.files w.files;
  stream = subst (Appends before.stream after.stream) (sym (append-nil text)) w.gained;
}
whole_held false n to text before after w = record { files = put_name before.files after.files to text w.held; stream = no_text before.stream after.stream w.stream }

-- ## An effect that is cut off

abbrev pub IsCut : Option Text → Option Text → Text → Type 0
IsCut was now text = (now ≡ was) ⊎ ((part rest : Text) × (now ≡ Some part) × (part ++ rest ≡ text))

abbrev pub GoesCut : Effect → Text → Option Text → Option Text → Type 0
GoesCut last name was now = (Some name ≢ last.to → now ≡ was) × (Some name ≡ last.to → IsCut was now last.text)

-- the stream took a first part of the text, where it goes there
abbrev pub TookPart : Effect → OutsideSeen → OutsideSeen → Type 0
TookPart last before after = (part rest : Text) × MatchOption last.to (part ++ rest ≡ last.text) (λ name. part ≡ []) × Appends before.stream after.stream part

pub record CutOff (last : Effect) (before after : OutsideSeen) : Type 0 where
  pub files : EachName before.files after.files (GoesCut last)
  pub stream : TookPart last before after

each_name : (a b : Option FileMap) (goes on : Text → Option Text → Option Text → Type 0) → ((name : Text) (x y : Option Text) → goes name x y → on name x y) → EachName a b goes → EachName a b on
each_name None b goes on f x = tt
each_name (Some a) None goes on f x = absurd x
each_name (Some a) (Some b) goes on f x = λ name. f name (a name) (b name) (x name)

cut_stream : (n : ℕ) (to text : Text) (before after : OutsideSeen) → GainsFront text before after → CutOff (effect n true to text) before after
cut_stream n to text before after g = record {
  files = each_name before.files after.files (λ name was now. now ≡ was) (GoesCut (effect n true to text)) (λ name x y same. (λ other. same, λ none. absurd (cc))) (same_names before.files after.files g.gained.files);
  stream = (take g.count text, drop g.count text, take-append-drop g.count text, g.gained.gained);
}

put_front : (n : ℕ) (to text : Text) (count : ℕ) (a b : Option FileMap) → Puts a b to (λ _. take count text) → EachName a b (GoesCut (effect n false to text))
put_front n to text count None b puts = tt
put_front n to text count (Some a) None puts = absurd puts
put_front n to text count (Some a) (Some b) puts = λ name. (
  λ other. puts.others name (λ same. other (ap Some same)),
  λ here. inr (take count text, drop count text, ap b (let same : name ≡ to = cc in same) ∙ puts.there, take-append-drop count text),
)

cut_file : (n : ℕ) (to text : Text) (before after : OutsideSeen) → HoldsFront to text before after → CutOff (effect n false to text) before after
cut_file n to text before after h = record { files = go h.files; stream = ([], text, refl, no_text before.stream after.stream h.stream) }
  where
    go : SameFiles before.files after.files ⊎ ((count : ℕ) × (count < length text) × Puts before.files after.files to (λ _. take count text)) → EachName before.files after.files (GoesCut (effect n false to text))
    go (inl same) = each_name before.files after.files (λ name was now. now ≡ was) (GoesCut (effect n false to text)) (λ name x y same. (λ other. same, λ here. inl same)) (same_names before.files after.files same)
    go (inr cut) = put_front n to text cut.0 before.files after.files cut.2

pub cut_off : (standard : Bool) (n : ℕ) (to text : Text) (before after : OutsideSeen) → CutsText standard to text before after → CutOff (effect n standard to text) before after
cut_off true n to text before after g = cut_stream n to text before after g
cut_off false n to text before after h = cut_file n to text before after h

-- after other effects

abbrev pub GoesCutAfter : List Effect → Effect → Text → Option Text → Option Text → Type 0
GoesCutAfter effects last name was now = (Some name ≢ last.to → now ≡ held_after effects name was) × (Some name ≡ last.to → IsCut (held_after effects name was) now last.text)

pub files_cut : (before middle after : OutsideSeen) (effects : List Effect) (last : Effect) → HoldsAfter (outside_of before) (outside_of middle) effects → CutOff last middle after → EachName before.files after.files (GoesCutAfter effects last)
files_cut before middle after effects last held cut =
    files_twice before.files middle.files after.files (λ name was now. now ≡ held_after effects name was) (GoesCut last) (GoesCutAfter effects last)
    (λ name x y z first second. (λ other. second.0 other ∙ first, λ here. subst (λ (was : Option Text). IsCut was z last.text) first (second.1 here))) held.files cut.files

pub stream_cut : (before middle after : OutsideSeen) (effects : List Effect) (last : Effect) → HoldsAfter (outside_of before) (outside_of middle) effects → (cut : CutOff last middle after) →
    (part rest : Text) × MatchOption last.to (part ++ rest ≡ last.text) (λ name. part ≡ []) × Appends before.stream after.stream (streamed effects ++ part)
stream_cut before middle after effects last held cut =
    (cut.stream.0, cut.stream.1, cut.stream.2, appended_twice before.stream middle.stream after.stream (streamed effects) cut.stream.0 held.stream cut.stream.3)

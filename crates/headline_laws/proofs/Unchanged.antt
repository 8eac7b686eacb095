-- No effects came about where files and the standard stream hold what they held.
use Rattle.std.proofs.Common.{◌≡◌, refl, sym, ◌∙◌, subst, [], Option, Some, None, append-nil}
use Rattle.std.specs.Io.KnownBytes.{Appends}
use Rattle.io_core.specs.Contents.{Content, FileMap, SameFiles}
use Rattle.io_core.proofs.FileReading.{SameFiles-refl}
use Rattle.run_chain.specs.Effects.{OutsideSeen}
use Rattle.chain_model.specs.Headline.{EachName, HoldsAfter, held_after}
use Rattle.headline_laws.specs.Refused.{outside_of}

each_name : (a b : Option FileMap) → SameFiles a b → EachName a b (λ (name : Content) (was now : Option Content). now ≡ held_after [] name was)
each_name None b s = tt
each_name (Some a) None s = absurd s
each_name (Some a) (Some b) s = s

pub no_text : (a b : Option Content) → b ≡ a → Appends a b []
no_text None b e = tt
no_text (Some a) None e = absurd (cc)
no_text (Some a) (Some b) e =
    let same : b ≡ a = cc in
    same ∙ sym (append-nil a)

pub keeps : (before after : OutsideSeen) → SameFiles before.files after.files → after.stream ≡ before.stream → HoldsAfter (outside_of before) (outside_of after) []
keeps before after files stream = record { files = each_name before.files after.files files; stream = no_text before.stream after.stream stream }

pub unchanged : (before after : OutsideSeen) → after ≡ before → HoldsAfter (outside_of before) (outside_of after) []
unchanged before after same = subst (λ (s : OutsideSeen). HoldsAfter (outside_of before) (outside_of s) []) (sym same) (keeps before before (SameFiles-refl before.files) refl)

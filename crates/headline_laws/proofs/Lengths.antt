-- More bytes were read than the sources of a run may have.
use Rattle.std.proofs.Common.{◌≡◌, ◌⊎◌, inl, inr, ℕ, ◌+◌, ◌-◌, ◌<◌, ◌≤◌, length, Bool, true, false, List, [], ◌∷◌, MatchBool, refl, sym, ap, subst, arith}
use Rattle.std.specs.Prelude.{nat_lt}
use Rattle.std.proofs.lemmas.Bool.{ltb-false, ltb-true}
use Rattle.geojson_io.specs.LayerContent.{LayerContent}
use Rattle.io_core.specs.Counts.{last, raised}
use Rattle.job_terms.specs.declared.job.SourceWord.{SourceWord}
use Rattle.run_sources.specs.Budget.{whole_budget}
use Rattle.run_sources.specs.Sources.{SourcesSeen, Grew, SourcesGive, ReadsMore}
use Rattle.headline_laws.proofs.Counts.{Budget}

-- what was read of files and of standard input is what is gone of a number of bytes
record AreRead (seen after : SourcesSeen) (whole left : ℕ) : Type 0 where
  of_files : ℕ
  of_input : ℕ
  files : raised of_files seen.file_bytes ≤ after.file_bytes
  input : raised of_input seen.input_bytes ≤ after.input_bytes
  gone : of_files + of_input + left ≡ whole

one_read : (standard : Bool) (n : ℕ) (seen middle after : SourcesSeen) (whole past left : ℕ) → MatchBool standard (middle.input_bytes ≡ raised n seen.input_bytes) (middle.file_bytes ≡ raised n seen.file_bytes) → Grew seen middle → n + past ≡ whole → AreRead middle after past left → AreRead seen after whole left
one_read true n seen middle after whole past left counted grew gone r =
    let below : seen.file_bytes ≤ middle.file_bytes = grew.file_bytes.later in
    let files : raised r.of_files middle.file_bytes ≤ after.file_bytes = r.files in
    let input : raised r.of_input middle.input_bytes ≤ after.input_bytes = r.input in
    let sum : r.of_files + r.of_input + left ≡ past = r.gone in
    record { of_files = r.of_files; of_input = n + r.of_input; files = omega (arith, below, files); input = omega (arith, counted, input); gone = omega (arith, sum, gone) }
one_read false n seen middle after whole past left counted grew gone r =
    let below : seen.input_bytes ≤ middle.input_bytes = grew.input_bytes.later in
    let files : raised r.of_files middle.file_bytes ≤ after.file_bytes = r.files in
    let input : raised r.of_input middle.input_bytes ≤ after.input_bytes = r.input in
    let sum : r.of_files + r.of_input + left ≡ past = r.gone in
    record { of_files = n + r.of_files; of_input = r.of_input; files = omega (arith, counted, files); input = omega (arith, below, input); gone = omega (arith, sum, gone) }

all_read : (places : ℕ) (ss : List SourceWord) (budget left : Budget) (seen after : SourcesSeen) (ls : List (List LayerContent)) → SourcesGive places ss budget seen left after ls → AreRead seen after budget.bytes left.bytes
all_read places [] budget left seen after [] g =
    let here : AreRead seen seen budget.bytes budget.bytes = record { of_files = 0; of_input = 0; files = omega arith; input = omega arith; gone = omega arith } in
    subst (λ (s : SourcesSeen). AreRead seen s budget.bytes left.bytes) (sym g.1) (subst (λ (b : Budget). AreRead seen seen budget.bytes b.bytes) (sym g.0) here)
all_read places [] budget left seen after (l ∷ ls) g = absurd g
all_read places (s ∷ ss) budget left seen after [] g = absurd g
all_read places (s ∷ ss) budget left seen after (l ∷ ls) g =
    let bytes : ℕ = length (g.2).bytes in
    let past : (g.0).bytes ≡ budget.bytes - bytes = ap (λ (b : Budget). b.bytes) (g.2).left_after in
    one_read s.standard bytes seen g.1 after budget.bytes (g.0).bytes left.bytes (g.2).counted g.3 (omega (arith, past, (g.2).within)) (all_read places ss g.0 left g.1 after ls g.4)

-- more was read than the limit, or a number of bytes stands at its last value
abbrev PassesLimit : SourcesSeen → SourcesSeen → Type 0
PassesLimit seen after = (seen.file_bytes + seen.input_bytes + 67108864 < after.file_bytes + after.input_bytes) ⊎ ((last ≤ after.file_bytes) ⊎ (last ≤ after.input_bytes))

-- numbers that rose by these, together more than the limit, pass it, as long as neither stands at its last value
passes : (seen after : SourcesSeen) (of_files of_input : ℕ) → raised of_files seen.file_bytes ≤ after.file_bytes → raised of_input seen.input_bytes ≤ after.input_bytes → 67108865 ≤ of_files + of_input → PassesLimit seen after
passes seen after of_files of_input files input more = go (nat_lt after.file_bytes last) refl (nat_lt after.input_bytes last) refl
  where
    go : (f : Bool) → nat_lt after.file_bytes last ≡ f → (i : Bool) → nat_lt after.input_bytes last ≡ i → PassesLimit seen after
    go false f i e = inr (inl (ltb-false after.file_bytes last f))
    go true f false e = inr (inr (ltb-false after.input_bytes last e))
    go true f true e =
        let below : after.file_bytes < last = ltb-true after.file_bytes last f in
        let lower : after.input_bytes < last = ltb-true after.input_bytes last e in
        inl (omega (arith, files, input, more, below, lower))

-- with what the sources before it left, the last one passes the limit of all
pub too_much : (places : ℕ) (ss : List SourceWord) (s : SourceWord) (left : Budget) (seen middle after : SourcesSeen) (ls : List (List LayerContent)) → SourcesGive places ss whole_budget seen left middle ls → Grew middle after → ReadsMore left.bytes middle after s → PassesLimit seen after
too_much places ss s left seen middle after ls given grew more = go s.standard more
  where
    r : AreRead seen middle 67108864 left.bytes
    r = all_read places ss whole_budget left seen middle ls given

    go : (b : Bool) → MatchBool b (raised (left.bytes + 1) middle.input_bytes ≤ after.input_bytes) (raised (left.bytes + 1) middle.file_bytes ≤ after.file_bytes) → PassesLimit seen after
    go true m = passes seen after r.of_files (r.of_input + (left.bytes + 1)) (omega (arith, r.files, grew.file_bytes.later)) (omega (arith, m, r.input)) (omega (arith, r.gone))
    go false m = passes seen after (r.of_files + (left.bytes + 1)) r.of_input (omega (arith, m, r.files)) (omega (arith, r.input, grew.input_bytes.later)) (omega (arith, r.gone))

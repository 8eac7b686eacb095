-- Sources in order, each with what the ones before it left.
use Rattle.std.proofs.Common.{◌≡◌, ◌⊎◌, inl, inr, ℕ, zero, suc, ◌+◌, ◌-◌, ◌<◌, ◌≤◌, Bool, true, false, not, cond, List, [], ◌∷◌, length, take, slice_get, Option, Some, None, Result, Ok, Err, MatchBool, MatchOption, refl, sym, ap, ◌∙◌, subst, arith}
use Rattle.std.proofs.Math.Path.{fun_ext}
use Rattle.std.specs.Prelude.{⊤, nat_lt, sum_by}
use Rattle.std.specs.List.{list_any}
use Rattle.std.proofs.lemmas.Bool.{lt-ltb, le-ltb, or_parts}
use Rattle.std.proofs.lemmas.Option.{MatchOption-at_some}
use Rattle.io_core.specs.Contents.{Content, FileMap, SameFiles}
use Rattle.io_core.specs.Whole.{AtName, MissesName}
use Rattle.io_core.specs.Counts.{Rose}
use Rattle.geojson_io.specs.LayerContent.{LayerContent}
use Rattle.geojson_io.specs.declared.layer.Room.{Room}
use Rattle.geojson_io.specs.declared.shape.GeoShape.{GeoShape}
use Rattle.geojson_io.specs.declared.shape.GeoShape.TheVariants as shape
use Rattle.table_terms.specs.Refusals.{on_ok}
use Rattle.job_terms.specs.declared.job.SourceWord.{SourceWord}
use Rattle.run_sources.specs.Budget.{whole_budget, budget_after, feature_count, position_count, positions_in}
use Rattle.run_sources.specs.Sources.{SourcesSeen, AtSource, SourceMissing, LeavesInput, SourceGives, SourcesGive, SourceStops, IsRefusedInput}
use Rattle.run_sources.specs.declared.fault.SourceFault.{SourceFault}
use Rattle.run_sources.specs.declared.fault.SourceFault.TheVariants as fault
use Rattle.word_model.specs.Words.{standard_among}
use Rattle.chain_model.specs.Outcome.{Outcome, missing, too_long, bad_input}
use Rattle.chain_model.specs.Sources.{Readings, AreReadings, byte_limit, bytes_of, length_of, or_refused, decoded, room_after, source_layers, imported}
use Rattle.chain_model.specs.Sources as model
use Rattle.headline_laws.specs.ToldSources.{IsReadOnce, IsOfContents, input_as, fault_as}
use Rattle.headline_laws.proofs.Decoded.{accepted_bytes, refused_bytes}

abbrev pub TypeOf : {A : Type 0} → A → Type 0
TypeOf {A} x = A

-- what may still be read, by the value that the sources' crate shows
abbrev pub Budget : Type 0
Budget = TypeOf whole_budget

-- ## Room

positions_same : (g : GeoShape) → positions_in g ≡ model.positions_in g
positions_same shape.Nothing = refl
positions_same (shape.Polygons polygons) = refl
positions_same (shape.Lines lines) = refl
positions_same (shape.Points points) = refl

sums_same : {A : Type 0} (f g : A → ℕ) → ((x : A) → f x ≡ g x) → (xs : List A) → sum_by f xs ≡ sum_by g xs
sums_same {A} f g same xs = ap (λ (h : A → ℕ). sum_by h xs) (fun_ext same)

counts_same : (layers : List LayerContent) → sum_by position_count layers ≡ sum_by (λ (l : LayerContent). sum_by model.positions_in l.shapes) layers
counts_same = sums_same position_count (λ (l : LayerContent). sum_by model.positions_in l.shapes) (λ l. sums_same positions_in model.positions_in positions_same l.shapes)

-- a budget and what the model has left of its limits are the same
pub record Fits (budget : Budget) (before : ℕ) (room : Room) : Type 0 where
  pub of_bytes : budget.bytes + before ≡ byte_limit
  pub of_room : budget.room ≡ room

pub fits_whole : Fits whole_budget 0 model.whole_room
fits_whole = record { of_bytes = refl; of_room = refl }

fits_on : (budget left : Budget) (before count : ℕ) (room : Room) (layers : List LayerContent) → Fits budget before room → count ≤ budget.bytes → left ≡ budget_after budget count layers → Fits left (before + count) (room_after room layers)
fits_on budget left before count room layers fits within past = record {
  of_bytes = let gone : left.bytes ≡ budget.bytes - count = ap (λ (b : Budget). b.bytes) past in let whole : budget.bytes + before ≡ byte_limit = fits.of_bytes in omega arith;
  of_room =
      ap (λ (b : Budget). b.room) past
      ∙ ap (λ (n : ℕ). record { positions = budget.room.positions - n; features = budget.room.features - sum_by feature_count layers }) (counts_same layers)
      ∙ ap (λ (r : Room). room_after r layers) fits.of_room;
}

-- ## Contents

module _ (files : FileMap) (input : Content) where
  -- the files hold what is told, or no source is a file
  abbrev pub FilesFit : List SourceWord → Option FileMap → Type 0
  FilesFit ss told = (list_any (λ (s : SourceWord). not s.standard) ss ≡ false) ⊎ MatchOption told ⊥ (λ (held : FileMap). (name : Content) → held name ≡ files name)

  -- standard input is as told, and is read once; or no source reads it
  abbrev pub InputFits : List SourceWord → Option Content → Type 0
  InputFits ss told = (standard_among ss ≡ false) ⊎ (IsReadOnce ss × (told ≡ Some input))

  files_on : (s : SourceWord) (ss : List SourceWord) (old new : Option FileMap) → FilesFit (s ∷ ss) old → SameFiles old new → FilesFit ss new
  files_on s ss old new (inl none) same = inl (or_parts (not s.standard) (list_any (λ (s : SourceWord). not s.standard) ss) none).1
  files_on s ss None new (inr h) same = absurd h
  files_on s ss (Some held) None (inr h) same = absurd same
  files_on s ss (Some held) (Some now) (inr h) same = inr (λ name. same name ∙ h name)

  input_on : (s : SourceWord) (ss : List SourceWord) (seen after : SourcesSeen) → InputFits (s ∷ ss) seen.input → LeavesInput seen after s → InputFits ss after.input
  input_on s ss seen after (inl none) leaves = inl (or_parts s.standard (standard_among ss) none).1
  input_on s ss seen after (inr h) leaves = go s.standard h.0 leaves
    where
      go : (b : Bool) → MatchBool b (standard_among ss ≡ false) (IsReadOnce ss) → MatchBool b ⊤ (after.input ≡ seen.input) → InputFits ss after.input
      go true none l = inl none
      go false once l = inr (once, l ∙ h.1)

  -- ## The bytes of a source

  record Found (s : SourceWord) (fact : Content → Type 0) : Type 0 where
    bytes : Content
    there : bytes_of files input s ≡ Some bytes
    holds : fact bytes

  in_files : (told : Option FileMap) (name : Content) (fact : Content → Type 0) → MatchOption told ⊥ (λ (held : FileMap). (name : Content) → held name ≡ files name) → AtName told name ⊥ fact → (bytes : Content) × (files name ≡ Some bytes) × fact bytes
  in_files None name fact same h = absurd same
  in_files (Some held) name fact same h = go (held name) refl h
    where
      go : (o : Option Content) → held name ≡ o → MatchOption o ⊥ fact → (bytes : Content) × (files name ≡ Some bytes) × fact bytes
      go None e f = absurd f
      go (Some bytes) e f = (bytes, sym (same name) ∙ e, f)

  lacks_name : (told : Option FileMap) (name : Content) (P : Type 0) → MatchOption told ⊥ (λ (held : FileMap). (name : Content) → held name ≡ files name) → MissesName told name P → files name ≡ None
  lacks_name None name P same h = absurd same
  lacks_name (Some held) name P same h = sym (same name) ∙ h

  input_told : (s : SourceWord) (ss : List SourceWord) (told : Option Content) → s.standard ≡ true → InputFits (s ∷ ss) told → told ≡ Some input
  input_told s ss told e (inl none) = absurd (let n : s.standard ≡ false = (or_parts s.standard (standard_among ss) none).0 in cc)
  input_told s ss told e (inr h) = h.1

  files_told : (s : SourceWord) (ss : List SourceWord) (told : Option FileMap) → s.standard ≡ false → FilesFit (s ∷ ss) told → MatchOption told ⊥ (λ (held : FileMap). (name : Content) → held name ≡ files name)
  files_told s ss told e (inl none) = absurd (let n : not s.standard ≡ false = (or_parts (not s.standard) (list_any (λ (s : SourceWord). not s.standard) ss) none).0 in let m : not s.standard ≡ true = ap not e in cc)
  files_told s ss told e (inr h) = h

  found : (s : SourceWord) (ss : List SourceWord) (seen : SourcesSeen) (fact : Content → Type 0) → FilesFit (s ∷ ss) seen.files → InputFits (s ∷ ss) seen.input → AtSource seen s fact → Found s fact
  found s ss seen fact held given at = go s.standard refl at
    where
      go : (b : Bool) → s.standard ≡ b → MatchBool b (MatchOption seen.input ⊤ fact) (AtName seen.files s.name ⊥ fact) → Found s fact
      go true e h = record { bytes = input; there = ap (λ (b : Bool). cond b (Some input) (files s.name)) e; holds = MatchOption-at_some ⊤ fact input (input_told s ss seen.input e given) h }
      go false e h =
          let f = in_files seen.files s.name fact (files_told s ss seen.files e held) h in
          record { bytes = f.0; there = ap (λ (b : Bool). cond b (Some input) (files s.name)) e ∙ f.1; holds = f.2 }

  not_found : (s : SourceWord) (ss : List SourceWord) (seen after : SourcesSeen) → FilesFit (s ∷ ss) seen.files → SourceMissing seen after s → bytes_of files input s ≡ None
  not_found s ss seen after held miss = go s.standard refl miss
    where
      go : (b : Bool) → s.standard ≡ b → MatchBool b ⊥ (MissesName seen.files s.name (Rose (seen.file_faults s.name) (after.file_faults s.name))) → bytes_of files input s ≡ None
      go true e h = absurd h
      go false e h =
          ap (λ (b : Bool). cond b (Some input) (files s.name)) e
          ∙ lacks_name seen.files s.name (Rose (seen.file_faults s.name) (after.file_faults s.name)) (files_told s ss seen.files e held) h

  -- ## One source

  module _ (read : Readings) (right : AreReadings read) (places : ℕ) where
    -- bytes that are not too many are decoded
    in_time : (budget : Budget) (before : ℕ) (room : Room) (n : ℕ) (s : SourceWord) (bytes : Content) (o : Option Content) → o ≡ Some bytes → Fits budget before room → length bytes ≤ budget.bytes → source_layers read places before room n s o ≡ or_refused n (decoded read places budget.room s bytes)
    in_time budget before room n s bytes o e fits within =
        let whole : budget.bytes + before ≡ byte_limit = fits.of_bytes in
        let small : nat_lt byte_limit (before + length bytes) ≡ false = le-ltb byte_limit (before + length bytes) (omega arith) in
        ap (source_layers read places before room n s) e
        ∙ ap (λ (b : Bool). cond b (Err (too_long n)) (or_refused n (decoded read places room s bytes))) small
        ∙ ap (λ (r : Room). or_refused n (decoded read places r s bytes)) (sym fits.of_room)

    one_accepted : (s : SourceWord) (ss : List SourceWord) (budget left : Budget) (seen after : SourcesSeen) (layers : List LayerContent) (before : ℕ) (room : Room) (n : ℕ) → Fits budget before room → FilesFit (s ∷ ss) seen.files → InputFits (s ∷ ss) seen.input → (g : SourceGives places s budget left seen after layers)
        → (source_layers read places before room n s (bytes_of files input s) ≡ Ok layers) × (length_of (bytes_of files input s) ≡ length g.bytes)
    one_accepted s ss budget left seen after layers before room n fits held given g =
        let f : Found s (λ content. g.bytes ≡ content) = found s ss seen (λ content. g.bytes ≡ content) held given g.there in
        let there : bytes_of files input s ≡ Some g.bytes = f.there ∙ ap Some (sym f.holds) in
        (in_time budget before room n s g.bytes (bytes_of files input s) there fits g.within ∙ ap (or_refused n) (accepted_bytes read right places budget.room s g.bytes layers g.decoded), ap length_of there)

    one_refused : (s : SourceWord) (ss : List SourceWord) (budget : Budget) (seen after : SourcesSeen) (why : SourceFault) (before : ℕ) (room : Room) (n : ℕ) → Fits budget before room → FilesFit (s ∷ ss) seen.files → InputFits (s ∷ ss) seen.input → IsOfContents why → SourceStops places budget n s seen after why
        → source_layers read places before room n s (bytes_of files input s) ≡ Err (fault_as why)
    one_refused s ss budget seen after (fault.ReadFault m) before room n fits held given mine stops = absurd mine
    one_refused s ss budget seen after (fault.Missing m) before room n fits held given mine stops =
        ap (source_layers read places before room n s) (not_found s ss seen after held stops.1) ∙ ap (λ (k : ℕ). Err (missing k)) (sym stops.0)
    one_refused s ss budget seen after (fault.TooLong m) before room n fits held given mine stops =
        let f : Found s (λ there. budget.bytes < length there) = found s ss seen (λ there. budget.bytes < length there) held given stops.1 in
        let whole : budget.bytes + before ≡ byte_limit = fits.of_bytes in
        let more : budget.bytes < length f.bytes = f.holds in
        let large : nat_lt byte_limit (before + length f.bytes) ≡ true = lt-ltb byte_limit (before + length f.bytes) (omega arith) in
        ap (source_layers read places before room n s) f.there
        ∙ ap (λ (b : Bool). cond b (Err (too_long n)) (or_refused n (decoded read places room s f.bytes))) large
        ∙ ap (λ (k : ℕ). Err (too_long k)) (sym stops.0)
    one_refused s ss budget seen after (fault.BadInput m why) before room n fits held given mine stops =
        let r : IsRefusedInput places budget seen after s why = stops.1 in
        let f : Found s (λ content. r.bytes ≡ content) = found s ss seen (λ content. r.bytes ≡ content) held given r.there in
        in_time budget before room n s r.bytes (bytes_of files input s) (f.there ∙ ap Some (sym f.holds)) fits r.within
        ∙ ap (or_refused n) (refused_bytes read right places budget.room s r.bytes why r.refused)
        ∙ ap (λ (k : ℕ). Err (bad_input k (input_as why))) (sym stops.0)
    one_refused s ss budget seen after fault.Memory before room n fits held given mine stops = absurd mine

    -- ## All sources

    abbrev Imported : Type 0
    Imported = Result (List (List LayerContent)) Outcome

    -- the first one gives layers, and the others go on after it
    goes_on : (s : SourceWord) (ss : List SourceWord) (layers : List LayerContent) (before count : ℕ) (room : Room) (n : ℕ) (rest : Imported) → source_layers read places before room n s (bytes_of files input s) ≡ Ok layers → length_of (bytes_of files input s) ≡ count
        → imported read places files input (before + count) (room_after room layers) (n + 1) ss ≡ rest → imported read places files input before room n (s ∷ ss) ≡ on_ok rest (λ (more : List (List LayerContent)). Ok (layers ∷ more))
    goes_on s ss layers before count room n rest first size others =
        ap (λ (r : Result (List LayerContent) Outcome). on_ok r (λ (ls : List LayerContent). on_ok (imported read places files input (before + length_of (bytes_of files input s)) (room_after room ls) (n + 1) ss) (λ (more : List (List LayerContent)). Ok (ls ∷ more)))) first
        ∙ ap (λ (k : ℕ). on_ok (imported read places files input (before + k) (room_after room layers) (n + 1) ss) (λ (more : List (List LayerContent)). Ok (layers ∷ more))) size
        ∙ ap (λ (r : Imported). on_ok r (λ (more : List (List LayerContent)). Ok (layers ∷ more))) others

    -- where the first of the sources gave layers, they are imported
    pub first_accepted : (ss : List SourceWord) (k : ℕ) (budget left : Budget) (seen after : SourcesSeen) (all : List (List LayerContent)) (before : ℕ) (room : Room) (n : ℕ) → Fits budget before room → FilesFit ss seen.files → InputFits ss seen.input → SourcesGive places (take k ss) budget seen left after all
        → imported read places files input before room n (take k ss) ≡ Ok all
    first_accepted [] zero budget left seen after [] before room n fits held given g = refl
    first_accepted [] zero budget left seen after (layers ∷ more) before room n fits held given g = absurd g
    first_accepted [] (suc k) budget left seen after [] before room n fits held given g = refl
    first_accepted [] (suc k) budget left seen after (layers ∷ more) before room n fits held given g = absurd g
    first_accepted (s ∷ ss) zero budget left seen after [] before room n fits held given g = refl
    first_accepted (s ∷ ss) zero budget left seen after (layers ∷ more) before room n fits held given g = absurd g
    first_accepted (s ∷ ss) (suc k) budget left seen after [] before room n fits held given g = absurd g
    first_accepted (s ∷ ss) (suc k) budget left seen after (layers ∷ more) before room n fits held given g =
        let one = one_accepted s ss budget g.0 seen g.1 layers before room n fits held given g.2 in
        goes_on s (take k ss) layers before (length (g.2).bytes) room n (Ok more) one.0 one.1
        (first_accepted ss k g.0 left g.1 after more (before + length (g.2).bytes) (room_after room layers) (n + 1) (fits_on budget g.0 before (length (g.2).bytes) room layers fits (g.2).within (g.2).left_after)
        (files_on s ss seen.files (g.1).files held (g.3).files) (input_on s ss seen g.1 given (g.2).leaves) g.4)

    pub first_refused : (ss : List SourceWord) (place : ℕ) (s : SourceWord) (budget left : Budget) (seen middle after : SourcesSeen) (all : List (List LayerContent)) (why : SourceFault) (before : ℕ) (room : Room) (n number : ℕ) → number ≡ n + place → Fits budget before room → FilesFit ss seen.files → InputFits ss seen.input
        → slice_get ss place ≡ Some s → SourcesGive places (take place ss) budget seen left middle all → IsOfContents why → SourceStops places left number s middle after why → imported read places files input before room n ss ≡ Err (fault_as why)
    first_refused [] place s budget left seen middle after all why before room n number is fits held given there g mine stops = absurd (cc)
    first_refused (t ∷ ss) zero s budget left seen middle after (layers ∷ more) why before room n number is fits held given there g mine stops = absurd g
    first_refused (t ∷ ss) zero s budget left seen middle after [] why before room n number is fits held given there g mine stops =
        let same : s ≡ t = cc in
        let at : number ≡ n = omega arith in
        let stops1 = subst (λ (x : SourceWord). SourceStops places left number x middle after why) same stops in
        let stops2 = subst (λ (b : Budget). SourceStops places b number t middle after why) g.0 stops1 in
        let stops3 = subst (λ (m : SourcesSeen). SourceStops places budget number t m after why) g.1 stops2 in
        let stops4 = subst (λ (k : ℕ). SourceStops places budget k t seen after why) at stops3 in
        ap (λ (r : Result (List LayerContent) Outcome). on_ok r (λ (ls : List LayerContent). on_ok (imported read places files input (before + length_of (bytes_of files input t)) (room_after room ls) (n + 1) ss) (λ (more : List (List LayerContent)). Ok (ls ∷ more))))
        (one_refused t ss budget seen after why before room n fits held given mine stops4)
    first_refused (t ∷ ss) (suc place) s budget left seen middle after [] why before room n number is fits held given there g mine stops = absurd g
    first_refused (t ∷ ss) (suc place) s budget left seen middle after (layers ∷ more) why before room n number is fits held given there g mine stops =
        let one = one_accepted t ss budget g.0 seen g.1 layers before room n fits held given g.2 in
        goes_on t ss layers before (length (g.2).bytes) room n (Err (fault_as why)) one.0 one.1
        (first_refused ss place s g.0 left g.1 middle after more why (before + length (g.2).bytes) (room_after room layers) (n + 1) number (omega arith) (fits_on budget g.0 before (length (g.2).bytes) room layers fits (g.2).within (g.2).left_after)
        (files_on t ss seen.files (g.1).files held (g.3).files) (input_on t ss seen g.1 given (g.2).leaves) there g.4 mine stops)

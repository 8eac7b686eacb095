-- Where the machine has its fault, no text goes on.
use Rattle.std.proofs.Common.{ℕ, suc, Some, None, ◌≡◌, ◌+◌, ◌-◌, ◌++◌, ◌<◌, ◌≤◌, List, [], ◌∷◌, refl, ap, ◌∙◌, sym, subst, length, take, drop, arith, append_assoc, length-append, ⊎_elim}
use Rattle.std.proofs.lemmas.Bool.{cases_lt}
use Rattle.std.proofs.Math.Seq.{take-append_seam, drop-append_seam, take-append-add}
use Rattle.json_read.specs.Faults.{IsFault, FaultFits, fault_of as fault_named}
use Rattle.json_read.specs.declared.reader.Fault.TheVariants as kinds
use Rattle.json_values.specs.Grammar.{JsonText, Viable}
use Rattle.json_read.specs.Machine.{Place, Open, Moves, accepted, fault, run, step, fault_of, at_end, start, after, after_zero, in_whole, in_fraction, after_mantissa, in_exponent}
use Rattle.json_read.specs.Reading.{FaultsAt}
use Rattle.json_read.specs.declared.reader.Fault.{Fault}
use Rattle.json_read.proofs.Accepts.{text_accepted}
use Rattle.json_read.proofs.Runs.{moves, stops}

fault_not_accepted : (f : Fault) (xs : List ℕ) → fault f xs ≡ accepted → ⊥
fault_not_accepted f xs e = cc

-- what a fault leaves is the end of the bytes; with other bytes after the next one the fault stays
abbrev StopsThere : ℕ → Place → List Open → List ℕ → Fault → ℕ → List ℕ → Type 0
StopsThere d p k bytes f b rest = (front : List ℕ) × (bytes ≡ front ++ (b ∷ rest)) × ((z : List ℕ) → run d p k (front ++ (b ∷ z)) ≡ fault f (b ∷ z))

fault_parts : (f g : Fault) (xs ys : List ℕ) → fault f xs ≡ fault g ys → (f ≡ g) × (xs ≡ ys)
fault_parts f g xs ys e = (cc, cc)

ends_are_short : (p : Place) (k : List Open) (f : Fault) (b : ℕ) (rest : List ℕ) → at_end p k ≡ fault f (b ∷ rest) → ⊥
ends_are_short after [] f b rest e = cc
ends_are_short after (o ∷ k) f b rest e = cc
ends_are_short after_zero [] f b rest e = cc
ends_are_short after_zero (o ∷ k) f b rest e = cc
ends_are_short in_whole [] f b rest e = cc
ends_are_short in_whole (o ∷ k) f b rest e = cc
ends_are_short in_fraction [] f b rest e = cc
ends_are_short in_fraction (o ∷ k) f b rest e = cc
ends_are_short after_mantissa [] f b rest e = cc
ends_are_short after_mantissa (o ∷ k) f b rest e = cc
ends_are_short in_exponent [] f b rest e = cc
ends_are_short in_exponent (o ∷ k) f b rest e = cc
ends_are_short _ k f b rest e = cc

stops_there : (d : ℕ) (p : Place) (k : List Open) (bytes : List ℕ) (f : Fault) (b : ℕ) (rest : List ℕ) → run d p k bytes ≡ fault f (b ∷ rest) → StopsThere d p k bytes f b rest
unfolding run
stops_there d p k [] f b rest e = absurd (ends_are_short p k f b rest e)
stops_there d p k (x ∷ xs) f b rest e = go (step d p k x) refl (λ q l h. stops_there d q l xs f b rest h)
  where
    go : (m : Moves) → step d p k x ≡ m → ((q : Place) (l : List Open) → run d q l xs ≡ fault f (b ∷ rest) → StopsThere d q l xs f b rest) → StopsThere d p k (x ∷ xs) f b rest
    go None s later =
        let same : (fault_of p x ≡ f) × (x ∷ xs ≡ b ∷ rest) = fault_parts (fault_of p x) f (x ∷ xs) (b ∷ rest) (sym (stops d p k x xs s) ∙ e) in
        let first : x ≡ b = let t : x ∷ xs ≡ b ∷ rest = same.1 in cc in
        ([], same.1, λ z. subst (λ (y : ℕ). run d p k (y ∷ z) ≡ fault f (y ∷ z)) first (stops d p k x z s ∙ ap (λ (g : Fault). fault g (x ∷ z)) same.0))
    go (Some t) s later =
        let r : StopsThere d t.0 t.1 xs f b rest = later t.0 t.1 (sym (moves d p k x xs t.0 t.1 s) ∙ e) in
        (x ∷ r.0, ap (λ (ys : List ℕ). x ∷ ys) r.1, λ z. moves d p k x (r.0 ++ (b ∷ z)) t.0 t.1 s ∙ r.2 z)

-- no text goes on past the next byte
none_longer : (d : ℕ) (bytes : List ℕ) (f : Fault) (b : ℕ) (rest : List ℕ) (n m : ℕ) → n ≡ length bytes - length (b ∷ rest) → n < m → m ≤ length bytes → run d start [] bytes ≡ fault f (b ∷ rest) → Viable d (take m bytes) → ⊥
none_longer d bytes f b rest n m e l g r v =
    let s : StopsThere d start [] bytes f b rest = stops_there d start [] bytes f b rest r in
    let size : length bytes ≡ length s.0 + suc (length rest) = ap length s.1 ∙ length-append s.0 (b ∷ rest) in
    let j : ℕ = m - suc (length s.0) in
    let m_is : m ≡ length s.0 + suc j = omega arith in
    let front : take m bytes ≡ s.0 ++ (b ∷ take j rest) = ap (take m) s.1 ∙ ap (λ (i : ℕ). take i (s.0 ++ (b ∷ rest))) m_is ∙ take-append-add s.0 (b ∷ rest) (suc j) in
    let whole : take m bytes ++ v.0 ≡ s.0 ++ (b ∷ (take j rest ++ v.0)) = ap (λ (t : List ℕ). t ++ v.0) front ∙ append_assoc s.0 (b ∷ take j rest) v.0 in
    fault_not_accepted f (b ∷ (take j rest ++ v.0)) (sym (ap (run d start []) whole ∙ s.2 (take j rest ++ v.0)) ∙ text_accepted d (take m bytes ++ v.0) v.1 v.2)

left_none : (d : ℕ) (bytes : List ℕ) (f : Fault) (rest : List ℕ) (n m : ℕ) → n ≡ length bytes - length rest → m ≤ length bytes → run d start [] bytes ≡ fault f rest → Viable d (take m bytes) → m ≤ n
left_none d bytes f [] n m e g r v = omega arith
left_none d bytes f (b ∷ rest) n m e g r v = ⊎_elim (λ l. absurd (none_longer d bytes f b rest n m e l g r v)) (λ l. l) (cases_lt n m)

-- what a reader's fault says of the bytes
pub is_fault : (d : ℕ) (f : Fault) (bytes rest : List ℕ) (n : ℕ) → n ≡ length bytes - length rest → FaultsAt d f bytes rest → IsFault d bytes f n
is_fault d f bytes rest n e h =
    let front : List ℕ = h.begins.0 in
    let split : bytes ≡ front ++ rest = h.begins.2 in
    let size : length bytes ≡ length front + length rest = ap length split ∙ length-append front rest in
    let n_is : n ≡ length front = omega arith in
    let first : take n bytes ≡ front = ap (take n) split ∙ ap (λ (i : ℕ). take i (front ++ rest)) n_is ∙ take-append_seam front rest in
    let last : drop n bytes ≡ rest = ap (drop n) split ∙ ap (λ (i : ℕ). drop i (front ++ rest)) n_is ∙ drop-append_seam front rest in
    record {
      refused = λ v t. fault_not_accepted f rest (sym h.fails ∙ text_accepted d bytes v t);
      place = record {
        within = omega arith;
        viable = (h.begins.1, h.begins.3.0, subst (λ (z : List ℕ). JsonText d (z ++ h.begins.1) h.begins.3.0) (sym first) h.begins.3.1);
        longest = λ m g v. left_none d bytes f rest n m e g h.fails v;
      };
      kind_there = h.fails ∙ ap (λ (z : List ℕ). fault f z) (sym last);
    }

pub fault_fits : (d : ℕ) (f : Fault) (bytes : List ℕ) (n : ℕ) → IsFault d bytes f n → FaultFits d bytes (fault_named f n)
fault_fits d kinds.Syntax bytes n h = h
fault_fits d kinds.Depth bytes n h = h
fault_fits d kinds.Utf8 bytes n h = h

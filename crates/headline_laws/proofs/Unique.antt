-- A text has one value or one fault, and stops to be UTF-8 at one place.
use Rattle.std.proofs.Common.{◌≡◌, ◌<◌, ◌≤◌, ℕ, drop, sym, ◌∙◌, arith, ◌⊎◌, inl, inr}
use Rattle.std.proofs.lemmas.Bool.{cases_order}
use Rattle.io_core.specs.Contents.{Content}
use Rattle.json_read.specs.Faults.{IsFault}
use Rattle.json_values.specs.Grammar.{LongestViable}
use Rattle.json_read.specs.Machine as machine
use Rattle.json_read.specs.declared.reader.Fault.{Fault}
use Rattle.csv_io.specs.CsvUtf8.{EndsUtf8At}

place_one : (d : ℕ) (bytes : Content) (n m : ℕ) → LongestViable d bytes n → LongestViable d bytes m → n ≡ m
place_one d bytes n m p q =
    let a : n ≤ m = q.longest n p.within p.viable in
    let b : m ≤ n = p.longest m q.within q.viable in
    omega arith

pub fault_place : (d : ℕ) (bytes : Content) (k l : Fault) (n m : ℕ) → IsFault d bytes k n → IsFault d bytes l m → n ≡ m
fault_place d bytes k l n m p q = place_one d bytes n m p.place q.place

pub fault_kind : (d : ℕ) (bytes : Content) (k l : Fault) (n m : ℕ) → IsFault d bytes k n → IsFault d bytes l m → k ≡ l
fault_kind d bytes k l n m p q =
    let e : machine.fault k (drop n bytes) ≡ machine.fault l (drop m bytes) = sym p.kind_there ∙ q.kind_there in
    cc

pub end_one : (bytes : Content) (n m : ℕ) → EndsUtf8At bytes n → EndsUtf8At bytes m → n ≡ m
end_one bytes n m p q = go (cases_order n m)
  where
    go : (n ≡ m) ⊎ ((n < m) ⊎ (m < n)) → n ≡ m
    go (inl e) = e
    go (inr (inl h)) = absurd (p.3 m h q.1 q.2)
    go (inr (inr h)) = absurd (q.3 n h p.1 p.2)

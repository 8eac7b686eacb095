-- What a reader and a writer have done so far, as a loop keeps it.
use Rattle.std.proofs.Common.{◌≡◌, ℕ, ◌+◌, ◌-◌, ◌<◌, ◌≤◌, [], ◌++◌, length, take, drop, Option, Some, None, IfSome, is_some, refl, subst, sym, ap, ◌∙◌, arith, append-nil, length-append}
use Rattle.std.proofs.KnownBytes.{Consumes-nil, Consumes-trans, Appends-trans}
use Rattle.std.proofs.Math.Seq.{take-add, take-append_seam}
use Rattle.std.specs.Io.KnownBytes.{Consumes, Appends, IsAtEnd}
use Rattle.io_core.specs.Counts.{NeverFell, raised}
use Rattle.io_core.specs.Contents.{Content}
use Rattle.io_core.specs.Whole.{TakesAll}

pub NeverFell-refl : (n : ℕ) → NeverFell n n
NeverFell-refl n = record { later = omega arith; stays = λ h. h }

pub NeverFell-trans : (a b c : ℕ) → NeverFell a b → NeverFell b c → NeverFell a c
NeverFell-trans a b c p q = record { later = omega arith; stays = λ h. q.stays (p.stays h) }

-- what a source's reader has so far
pub record ReadSoFar (left0 left : Option Content) (faults0 faults read0 read limit : ℕ) (all : Content) : Type 0 where
  pub told : is_some left ≡ is_some left0
  pub taken : Consumes left0 left all
  pub within : length all ≤ limit
  pub faults_kept : NeverFell faults0 faults
  pub bytes_kept : NeverFell read0 read
  pub counted : raised (length all) read0 ≡ raised 0 read

pub ReadSoFar-start : (left : Option Content) (faults read limit : ℕ) → ReadSoFar left left faults faults read read limit []
ReadSoFar-start left faults read limit = record {
  told = refl;
  taken = Consumes-nil left;
  within = omega arith;
  faults_kept = NeverFell-refl faults;
  bytes_kept = NeverFell-refl read;
  counted = refl;
}

-- the whole was taken where the source is at its end
pub TakesAll-end : (a b : Option Content) (bytes : Content) → Consumes a b bytes → IsAtEnd b → TakesAll a b bytes
TakesAll-end None b bytes p q = tt
TakesAll-end (Some x) None bytes p q = absurd p
TakesAll-end (Some x) (Some y) bytes p q = (sym (p ∙ ap (λ l. bytes ++ l) q ∙ append-nil bytes), q)

-- the bytes of one more read
pub ReadSoFar-more : (left0 a b : Option Content) (faults0 f f' read0 r r' limit n : ℕ) (all piece : Content) → ReadSoFar left0 a faults0 f read0 r limit all
    → is_some b ≡ is_some a → Consumes a b piece → length piece ≡ n → n ≤ limit - length all → NeverFell f f' → NeverFell r r' → r' ≡ raised n r
    → ReadSoFar left0 b faults0 f' read0 r' limit (all ++ piece)
ReadSoFar-more left0 a b faults0 f f' read0 r r' limit n all piece h told taken count fits faults reads counted =
    let w = h.within in
    let e = h.counted in
    let joined : length (all ++ piece) ≡ length all + n = omega (arith, length-append all piece) in
    record {
      told = told ∙ h.told;
      taken = Consumes-trans left0 a b all piece h.taken taken;
      within = omega arith;
      faults_kept = NeverFell-trans _ _ _ h.faults_kept faults;
      bytes_kept = NeverFell-trans _ _ _ h.bytes_kept reads;
      counted = omega arith;
    }

-- a source that told has more than the limit where more was taken
pub too_long_told : (a b c : Option Content) (all piece : Content) (limit : ℕ) → Consumes a b all → Consumes b c piece → limit < length all + length piece
    → IfSome a (λ xs. limit < length xs)
too_long_told None b c all piece limit p q h = tt
too_long_told (Some x) None c all piece limit p q h = absurd p
too_long_told (Some x) (Some y) None all piece limit p q h = absurd q
too_long_told (Some x) (Some y) (Some z) all piece limit p q h =
    let first = ap length p ∙ length-append all y in
    let second = ap length q ∙ length-append piece z in
    omega arith

-- ---- writing

-- told: a piece taken of what is left to write
pub Appends-piece : (a b c : Option Content) (bytes rest : Content) (done n : ℕ) → rest ≡ drop done bytes → Appends a b (take done bytes) → Appends b c (take n rest)
    → Appends a c (take (done + n) bytes)
Appends-piece a b c bytes rest done n e p q =
    let joined = ap (λ l. take done bytes ++ take n l) e ∙ sym (take-add done n bytes) in
    subst (Appends a c) joined (Appends-trans a b c _ _ p q)

-- ---- a buffer that was lent

-- what stands at the front of a buffer that was read into
pub read_back : (new rest shown : Content) (len n : ℕ) → shown ≡ take len (new ++ rest) → len ≡ length new → take n shown ≡ take n new
read_back new rest shown len n e h = ap (take n) (e ∙ ap (λ m. take m (new ++ rest)) h ∙ take-append_seam new rest)

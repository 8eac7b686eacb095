-- What a reader and a writer of a file have done so far, as a loop keeps it.
use Rattle.std.proofs.Common.{◌≡◌, ◌≢◌, ℕ, ◌+◌, ◌-◌, ◌<◌, ◌≤◌, ◌⊎◌, [], ◌++◌, length, take, drop, Option, Some, None, Result, Ok, Err, IsErrOf, MatchOption, unwrap_or, inl, refl, sym, ap, ◌∙◌, subst, arith, length-append, length-drop}
use Rattle.std.specs.Prelude.{⊤}
use Rattle.std.proofs.Math.Seq.{take-add}
use Rattle.std.proofs.lemmas.List.{take_all}
use Rattle.io_core.specs.declared.outside.FileFault.{FileFault}
use Rattle.io_core.specs.declared.outside.FileFault.TheVariants as fault
use Rattle.io_core.specs.Counts.{NeverFell, NoneFell, Rose, raised}
use Rattle.io_core.specs.Contents.{Content, FileMap, SameFiles, Puts, GivesFrom, ReadsAt}
use Rattle.io_core.specs.Whole.{AtName, MissesName}
use Rattle.io_core.proofs.Reading.{NeverFell-refl, NeverFell-trans}

pub NoneFell-refl : (f : Content → ℕ) → NoneFell f f
NoneFell-refl f = λ name. NeverFell-refl (f name)

pub NoneFell-trans : (f g h : Content → ℕ) → NoneFell f g → NoneFell g h → NoneFell f h
NoneFell-trans f g h p q = λ name. NeverFell-trans _ _ _ (p name) (q name)

pub Rose-earlier : (a b c : ℕ) → NeverFell a b → Rose b c → Rose a c
Rose-earlier a b c p q = let e = p.later in omega (arith, q)

pub SameFiles-refl : (a : Option FileMap) → SameFiles a a
SameFiles-refl None = tt
SameFiles-refl (Some f) = λ name. refl

pub SameFiles-trans : (a b c : Option FileMap) → SameFiles a b → SameFiles b c → SameFiles a c
SameFiles-trans None None None p q = tt
SameFiles-trans None None (Some h) p q = absurd q
SameFiles-trans None (Some g) c p q = absurd p
SameFiles-trans (Some f) None c p q = absurd p
SameFiles-trans (Some f) (Some g) None p q = absurd q
SameFiles-trans (Some f) (Some g) (Some h) p q = λ name. q name ∙ p name

-- ---- reading

-- what a file's reader has so far
pub record FileReadSoFar (held0 held : Option FileMap) (name : Content) (reads0 reads writes0 writes : Content → ℕ) (read0 read limit : ℕ) (all : Content) : Type 0 where
  pub same : SameFiles held0 held
  pub front : AtName held0 name (all ≡ []) (λ there. all ≡ take (length all) there)
  pub within : length all ≤ limit
  pub reads_kept : NoneFell reads0 reads
  pub writes_kept : NoneFell writes0 writes
  pub bytes_kept : NeverFell read0 read
  pub counted : raised (length all) read0 ≡ raised 0 read

start_at : (o : Option Content) (all : Content) → all ≡ [] → MatchOption o (all ≡ []) (λ there. all ≡ take (length all) there)
start_at None all e = e
start_at (Some there) all e = rw e refl

AtName-start : (held : Option FileMap) (name all : Content) → all ≡ [] → AtName held name (all ≡ []) (λ there. all ≡ take (length all) there)
AtName-start None name all e = tt
AtName-start (Some f) name all e = start_at (f name) all e

pub FileReadSoFar-start : (held : Option FileMap) (name : Content) (reads writes : Content → ℕ) (read limit : ℕ) → FileReadSoFar held held name reads reads writes writes read read limit []
FileReadSoFar-start held name reads writes read limit = record {
  same = SameFiles-refl held;
  front = AtName-start held name [] refl;
  within = omega arith;
  reads_kept = NoneFell-refl reads;
  writes_kept = NoneFell-refl writes;
  bytes_kept = NeverFell-refl read;
  counted = refl;
}

-- a read of the files as they are is one of the files as they were
pub ReadsAt-earlier : (a b : Option FileMap) (name : Content) (at : ℕ) (result : Result ℕ FileFault) (buf : Content) → SameFiles a b → ReadsAt b name at result buf → ReadsAt a name at result buf
ReadsAt-earlier None b name at result buf p q = tt
ReadsAt-earlier (Some f) None name at result buf p q = absurd p
ReadsAt-earlier (Some f) (Some g) name at result buf p q = subst (λ o. GivesFrom o at result buf) (p name) q

-- of a name that is there, what was read goes on
more_at : (o : Option Content) (all buf : Content) (n : ℕ) → n ≡ length (take n buf) → MatchOption o (all ≡ []) (λ there. all ≡ take (length all) there) → GivesFrom o (length all) (Ok n) buf
    → MatchOption o (all ++ take n buf ≡ []) (λ there. all ++ take n buf ≡ take (length (all ++ take n buf)) there)
more_at None all buf n count p q = absurd (cc)
more_at (Some there) all buf n count p q =
    let joined : length (all ++ take n buf) ≡ length all + n = omega (arith, length-append all (take n buf)) in
    rw joined (ap (λ l. l ++ take n buf) p ∙ ap (λ l. take (length all) there ++ l) q.1.same ∙ sym (take-add (length all) n there))

front_more : (a : Option FileMap) (name all buf : Content) (n : ℕ) → n ≡ length (take n buf) → AtName a name (all ≡ []) (λ there. all ≡ take (length all) there) → ReadsAt a name (length all) (Ok n) buf
    → AtName a name (all ++ take n buf ≡ []) (λ there. all ++ take n buf ≡ take (length (all ++ take n buf)) there)
front_more None name all buf n count p q = tt
front_more (Some f) name all buf n count p q = more_at (f name) all buf n count p q

-- the bytes of one more read
pub FileReadSoFar-more : (held0 a b : Option FileMap) (name : Content) (reads0 f f' writes0 w w' : Content → ℕ) (read0 r r' limit n : ℕ) (all buf : Content)
    → FileReadSoFar held0 a name reads0 f writes0 w read0 r limit all → SameFiles a b → ReadsAt a name (length all) (Ok n) buf → n ≡ length (take n buf) → n ≤ limit - length all
    → NoneFell f f' → NoneFell w w' → NeverFell r r' → r' ≡ raised n r
    → FileReadSoFar held0 b name reads0 f' writes0 w' read0 r' limit (all ++ take n buf)
FileReadSoFar-more held0 a b name reads0 f f' writes0 w w' read0 r r' limit n all buf h same bytes count fits reads writes kept counted =
    let within = h.within in
    let e = h.counted in
    let joined : length (all ++ take n buf) ≡ length all + n = omega (arith, length-append all (take n buf)) in
    record {
      same = SameFiles-trans held0 a b h.same same;
      front = front_more held0 name all buf n count h.front (ReadsAt-earlier held0 a name _ _ _ h.same bytes);
      within = omega arith;
      reads_kept = NoneFell-trans _ _ _ h.reads_kept reads;
      writes_kept = NoneFell-trans _ _ _ h.writes_kept writes;
      bytes_kept = NeverFell-trans _ _ _ h.bytes_kept kept;
      counted = omega arith;
    }

end_at : (o : Option Content) (all buf : Content) → 0 < length buf → MatchOption o (all ≡ []) (λ there. all ≡ take (length all) there) → GivesFrom o (length all) (Ok 0) buf
    → MatchOption o ⊥ (λ there. all ≡ there)
end_at None all buf room p q = absurd (cc)
end_at (Some there) all buf room p q = p ∙ take_all (length all) there (q.1.end refl room)

-- told: all of the file was read where a read gave no byte
pub all_at_end : (a b : Option FileMap) (name all buf : Content) → SameFiles a b → AtName a name (all ≡ []) (λ there. all ≡ take (length all) there) → ReadsAt b name (length all) (Ok 0) buf → 0 < length buf
    → AtName a name ⊥ (λ there. all ≡ there)
all_at_end None b name all buf s p q room = tt
all_at_end (Some f) b name all buf s p q room = end_at (f name) all buf room p (ReadsAt-earlier (Some f) b name _ _ _ s q)

long_at : (o : Option Content) (all buf : Content) (n limit : ℕ) → limit < length all + n → MatchOption o (all ≡ []) (λ there. all ≡ take (length all) there) → 0 < n → GivesFrom o (length all) (Ok n) buf
    → MatchOption o ⊥ (λ there. limit < length there)
long_at None all buf n limit h p some q = absurd (cc)
long_at (Some there) all buf n limit h p some q =
    let within = q.1.within in
    omega (arith, length-drop (length all) there)

-- told: the file is too long where more than the limit was read
pub too_long_at : (a b : Option FileMap) (name all buf : Content) (n limit : ℕ) → SameFiles a b → AtName a name (all ≡ []) (λ there. all ≡ take (length all) there) → ReadsAt b name (length all) (Ok n) buf
    → 0 < n → limit < length all + n → AtName a name ⊥ (λ there. limit < length there)
too_long_at None b name all buf n limit s p q some h = tt
too_long_at (Some f) b name all buf n limit s p q some h = long_at (f name) all buf n limit h p some (ReadsAt-earlier (Some f) b name _ _ _ s q)

lacks_at : (o : Option Content) (P : Type 0) (at : ℕ) (result : Result ℕ FileFault) (buf : Content) → result ≢ Err fault.Missing → GivesFrom o at result buf → MatchOption o P (λ _. ⊤)
lacks_at None P at result buf h q = absurd (h q)
lacks_at (Some there) P at result buf h q = tt

-- told: a read that does not answer Missing is of a name that is there
pub not_lacking : (a b : Option FileMap) (P : Type 0) (name : Content) (at : ℕ) (result : Result ℕ FileFault) (buf : Content) → SameFiles a b → ReadsAt b name at result buf → result ≢ Err fault.Missing
    → AtName a name P (λ _. ⊤)
not_lacking None b P name at result buf s q h = tt
not_lacking (Some f) b P name at result buf s q h = lacks_at (f name) P at result buf h (ReadsAt-earlier (Some f) b name _ _ _ s q)

misses_at : (o : Option Content) (at : ℕ) (buf : Content) → GivesFrom o at (Err fault.Missing) buf → o ≡ None
misses_at None at buf q = refl
misses_at (Some there) at buf q = absurd (q.0 refl)

-- a read that answers Missing
pub misses_name : (a b : Option FileMap) (P Q X : Type 0) (name : Content) (at : ℕ) (buf : Content) → SameFiles a b → ReadsAt b name at (Err fault.Missing) buf → MatchOption b Q (λ _. X)
    → (Q → P) → MissesName a name P
misses_name None None P Q X name at buf s q h weaker = weaker h
misses_name None (Some g) P Q X name at buf s q h weaker = absurd s
misses_name (Some f) b P Q X name at buf s q h weaker = misses_at (f name) at buf (ReadsAt-earlier (Some f) b name _ _ _ s q)

if_lacking : (o : Option Content) (P : Type 0) → P → MatchOption o P (λ _. ⊤)
if_lacking None P p = p
if_lacking (Some there) P p = tt

pub AtName-if_lacking : (T E : Type 0) (a : Option FileMap) (name : Content) (e : E) (Q : Type 0) → AtName a name (IsErrOf {T = T} {E = E} (Err e) e ⊎ Q) (λ _. ⊤)
AtName-if_lacking T E None name e Q = tt
AtName-if_lacking T E (Some f) name e Q = if_lacking (f name) _ (inl refl)

-- ---- writing

-- what stands under a name grows by a piece of what is left to write
pub Puts-piece : (a b c : Option FileMap) (name bytes rest : Content) (done n : ℕ) → rest ≡ drop done bytes → Puts a b name (λ _. take done bytes)
    → Puts b c name (λ was. unwrap_or was [] ++ take n rest) → Puts a c name (λ _. take (done + n) bytes)
Puts-piece None None None name bytes rest done n e p q = tt
Puts-piece None None (Some h) name bytes rest done n e p q = absurd q
Puts-piece None (Some g) c name bytes rest done n e p q = absurd p
Puts-piece (Some f) None c name bytes rest done n e p q = absurd p
Puts-piece (Some f) (Some g) None name bytes rest done n e p q = absurd q
Puts-piece (Some f) (Some g) (Some h) name bytes rest done n e p q =
    let joined = ap (λ l. take done bytes ++ take n l) e ∙ sym (take-add done n bytes) in
    record {
      there = q.there ∙ ap (λ o. Some (unwrap_or o [] ++ take n rest)) p.there ∙ ap Some joined;
      others = λ other apart. q.others other apart ∙ p.others other apart;
    }

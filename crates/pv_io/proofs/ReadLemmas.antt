-- What several reads, one after the other, say of the text that was there.
use Rattle.std.proofs.Common.{◌≡◌, ◌≤◌, ◌+◌, ℕ, true, false, is_some, List, [], ◌++◌, None, Some, sym, ap, ◌∙◌, arith, length, take, append-nil, length-append}
use Rattle.std.specs.declared.option.Option.{Option}
use Rattle.pv_io.specs.Stream.{TakesAtMost}
use Rattle.std.specs.Io.KnownBytes.{Appends, Consumes, IsAtEnd}
use Rattle.std.proofs.KnownBytes.{Appends-nil, Appends-trans, Consumes-nil, Consumes-trans}

-- Before the first read.
pub Consumes-none : (a : Option (List ℕ)) (bs : List ℕ) → bs ≡ [] → Consumes a a bs
Consumes-none a bs none = rw none (Consumes-nil a)

-- The second read's bytes stand behind the first's.
pub Consumes-grown : (a b c : Option (List ℕ)) (bs cs new : List ℕ)
    → Consumes a b bs → Consumes b c cs → new ≡ bs ++ cs → Consumes a c new
Consumes-grown a b c bs cs new first second grown = rw grown (Consumes-trans a b c bs cs first second)

-- A read of nothing at the end leaves all that came before it as the whole text.
pub whole_text : (a b c : Option (List ℕ)) (bs cs : List ℕ) (n : ℕ)
    → Consumes a b bs → Consumes b c (take n cs) → n ≡ 0 → IsAtEnd c
    → (text : List ℕ) → a ≡ Some text → (bs ≡ text) × (c ≡ Some [])
whole_text None b c bs cs n first second none end text is = cc
whole_text (Some x) None c bs cs n first second none end text is = absurd first
whole_text (Some x) (Some y) None bs cs n first second none end text is = absurd second
whole_text (Some x) (Some y) (Some z) bs cs n first second none end text is =
    let rest : y ≡ [] = second ∙ ap (λ k. take k cs ++ z) none ∙ end in
    let all : x ≡ bs = first ∙ ap (λ l. bs ++ l) rest ∙ append-nil bs in
    (cc, ap Some end)

-- What two reads gave was in the text.
pub long_text : (a b c : Option (List ℕ)) (bs cs : List ℕ)
    → Consumes a b bs → Consumes b c cs → (text : List ℕ) → a ≡ Some text
    → length bs + length cs ≤ length text
long_text None b c bs cs first second text is = absurd (cc)
long_text (Some x) None c bs cs first second text is = absurd first
long_text (Some x) (Some y) None bs cs first second text is = absurd second
long_text (Some x) (Some y) (Some z) bs cs first second text is =
    let same : x ≡ text = cc in
    let parts = ap length (sym same ∙ first ∙ ap (λ l. bs ++ l) second) in
    omega (arith, parts, length-append bs (cs ++ z), length-append cs z)

-- Two reads took what both took.
pub taken_twice : (a b c : Option (List ℕ)) (bs cs : List ℕ) {n : ℕ}
    → Consumes a b bs → Consumes b c cs → length bs + length cs ≤ n → TakesAtMost a c n
taken_twice a b c bs cs first second few =
    (bs ++ cs, Consumes-trans a b c bs cs first second, omega (arith, length-append bs cs, few))

-- The same of what the reads have given.
pub Appends-none : (a : Option (List ℕ)) (bs : List ℕ) → bs ≡ [] → Appends a a bs
Appends-none a bs none = rw none (Appends-nil a)

pub Appends-grown : (a b c : Option (List ℕ)) (bs cs new : List ℕ) → Appends a b bs → Appends b c cs → new ≡ bs ++ cs → Appends a c new
Appends-grown a b c bs cs new first second grown = rw grown (Appends-trans a b c bs cs first second)

pub Appends-end : (a b c : Option (List ℕ)) (bs cs : List ℕ) (n : ℕ) → Appends a b bs → Appends b c (take n cs) → n ≡ 0 → Appends a c bs
Appends-end a b c bs cs n first second none = Appends-grown a b c bs (take n cs) bs first second (sym (append-nil bs) ∙ ap (λ k. bs ++ take k cs) (sym none))

-- What the reads gave is kept from before the first one, where the last one says that it is.
pub kept-first : (left now : Option (List ℕ)) (first before after : Option (List ℕ)) → is_some now ≡ is_some left
    → (is_some left ≡ false → is_some before ≡ true → is_some first ≡ true) → (is_some now ≡ false → (is_some before ≡ true) × (is_some after ≡ true))
    → is_some left ≡ false → (is_some first ≡ true) × (is_some after ≡ true)
kept-first left now first before after known kept read untold =
    let both = read (known ∙ untold) in
    (kept untold both.0, both.1)

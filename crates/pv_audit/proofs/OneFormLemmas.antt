-- What is printed alike is alike.
use Rattle.std.proofs.Common.{◌≡◌, ℕ, ℤ, pos, negsuc, Bool, true, false, List, [], ◌∷◌, ◌++◌, map, cond, refl, sym, ap, subst, ◌∙◌, ⊎_elim, arith}
use Rattle.std.specs.Prelude.{codes}
use Rattle.std.specs.Fmt.{decimal, signed_decimal}
use Rattle.std.specs.List.{All, Contains}
use Rattle.std.proofs.lemmas.Fmt.{decimal_injective, signed_decimal_injective}
use Rattle.std.proofs.lemmas.List.Elements.{All-head, All-tail}
use Rattle.pv_audit.specs.Printed.{IsCase, IsTxn}
use Rattle.pv_audit.specs.Words.{case_words, cases_words, when_words}
use Rattle.pv_audit.proofs.CutLemmas.{cut-has, one-cut, same-head, words-differ}
use Rattle.pv_audit.proofs.NumberLemmas.{decimal-without, mag-fits}
use Rattle.pv_base.specs.Polyvalue.{Case}
use Rattle.pv_base.specs.Txn.{txn_text}
use Rattle.pv_base.specs.declared.literal.Literal.{Literal}
use Rattle.pv_base.specs.declared.txn.TxnId.{TxnId}
use Rattle.pv_base.proofs.ContainsLemmas.{Contains-nil, Contains-cases}
use Rattle.pv_protocol.specs.LineText.{literal_text}

-- ---- transactions

pub one-txn : (txn other : TxnId) → IsTxn txn → IsTxn other → txn_text txn ≡ txn_text other → txn ≡ other
one-txn txn other fits also same =
    let first = one-cut 46 (decimal txn.site.0) (decimal txn.epoch ++ 46 ∷ decimal txn.number) (decimal other.site.0) (decimal other.epoch ++ 46 ∷ decimal other.number)
    (decimal-without txn.site.0 46 refl) (decimal-without other.site.0 46 refl) same in
    let second = one-cut 46 (decimal txn.epoch) (decimal txn.number) (decimal other.epoch) (decimal other.number)
    (decimal-without txn.epoch 46 refl) (decimal-without other.epoch 46 refl) first.1 in
    let site : txn.site.0 ≡ other.site.0 = decimal_injective txn.site.0 other.site.0 (omega (arith, fits.site)) (omega (arith, also.site)) first.0 in
    let epoch : txn.epoch ≡ other.epoch = decimal_injective txn.epoch other.epoch (omega (arith, fits.epoch)) (omega (arith, also.epoch)) second.0 in
    let number : txn.number ≡ other.number = decimal_injective txn.number other.number (omega (arith, fits.number)) (omega (arith, also.number)) second.1 in
    λ i. record { site = record { 0 = site i }; epoch = epoch i; number = number i }

one-literal : (literal other : Literal) → IsTxn literal.txn → IsTxn other.txn → literal_text literal ≡ literal_text other → literal ≡ other
one-literal literal other fits also same = go literal.commits other.commits refl refl same
  where
    both : (a b : Literal) → a.txn ≡ b.txn → a.commits ≡ b.commits → a ≡ b
    both a b txn commits = λ i. record { txn = txn i; commits = commits i }

    go : (b c : Bool) → literal.commits ≡ b → other.commits ≡ c
        → cond b (codes "+") (codes "-") ++ txn_text literal.txn ≡ cond c (codes "+") (codes "-") ++ txn_text other.txn → literal ≡ other
    go true true is so alike = both literal other (one-txn literal.txn other.txn fits also (let e : txn_text literal.txn ≡ txn_text other.txn = cc in e)) (is ∙ sym so)
    go false false is so alike = both literal other (one-txn literal.txn other.txn fits also (let e : txn_text literal.txn ≡ txn_text other.txn = cc in e)) (is ∙ sym so)
    go true false is so alike = absurd (let head : 43 ≡ 45 = same-head alike in omega (arith, head))
    go false true is so alike = absurd (let head : 45 ≡ 43 = same-head alike in omega (arith, head))

one-literals : (literals others : List Literal) → All (λ literal. IsTxn literal.txn) literals → All (λ literal. IsTxn literal.txn) others
    → map literal_text literals ≡ map literal_text others → literals ≡ others
one-literals [] [] fits also same = refl
one-literals [] (o ∷ others) fits also same = absurd (let never : ⊥ = cc in never)
one-literals (l ∷ literals) [] fits also same = absurd (let never : ⊥ = cc in never)
one-literals (l ∷ literals) (o ∷ others) fits also same =
    let head : literal_text l ≡ literal_text o = cc in
    let tail : map literal_text literals ≡ map literal_text others = cc in
    let first : l ≡ o = one-literal l o (All-head (λ (x : Literal). IsTxn x.txn) l literals fits) (All-head (λ (x : Literal). IsTxn x.txn) o others also) head in
    let rest : literals ≡ others =
    one-literals literals others (All-tail (λ (x : Literal). IsTxn x.txn) l literals fits) (All-tail (λ (x : Literal). IsTxn x.txn) o others also) tail in
    λ i. first i ∷ rest i

-- ---- cases

one-when : (when other : List Literal) → All (λ literal. IsTxn literal.txn) when → All (λ literal. IsTxn literal.txn) other → when_words when ≡ when_words other → when ≡ other
one-when [] [] fits also same = refl
one-when [] (o ∷ others) fits also same = absurd (let never : ⊥ = cc in never)
one-when (l ∷ literals) [] fits also same = absurd (let never : ⊥ = cc in never)
one-when (l ∷ literals) (o ∷ others) fits also same =
    one-literals (l ∷ literals) (o ∷ others) fits also (let tail : map literal_text (l ∷ literals) ≡ map literal_text (o ∷ others) = cc in tail)

one-case : (case other : Case ℤ) → IsCase case → IsCase other → case_words case ≡ case_words other → case ≡ other
one-case case other fits also same =
    let head : signed_decimal case.value ≡ signed_decimal other.value = cc in
    let tail : when_words case.when ≡ when_words other.when = cc in
    let value : case.value ≡ other.value = signed_decimal_injective case.value other.value (mag-fits case.value fits.value) (mag-fits other.value also.value) head in
    let when : case.when ≡ other.when = one-when case.when other.when fits.txns also.txns tail in
    λ i. record { when = when i; value = value i }

-- ---- no word of a case is a semicolon

-- a word in which that byte isn't
without : (word : List ℕ) → (Contains word 59 → ⊥) → word ≡ codes ";" → ⊥
without word none is = none (subst (λ (w : List ℕ). Contains w 59) (sym is) (cut-has 59 [] []))

signed-without : (z : ℤ) → signed_decimal z ≡ codes ";" → ⊥
signed-without (pos n) is = without (decimal n) (decimal-without n 59 refl) is
signed-without (negsuc n) is = let head : 45 ≡ 59 = same-head is in omega (arith, head)

literal-without : (literal : Literal) → literal_text literal ≡ codes ";" → ⊥
literal-without literal is = go literal.commits is
  where
    go : (b : Bool) → cond b (codes "+") (codes "-") ++ txn_text literal.txn ≡ codes ";" → ⊥
    go true same = let head : 43 ≡ 59 = same-head same in omega (arith, head)
    go false same = let head : 45 ≡ 59 = same-head same in omega (arith, head)

literals-without : (literals : List Literal) → Contains (map literal_text literals) (codes ";") → ⊥
literals-without [] has = Contains-nil (codes ";") has
literals-without (literal ∷ literals) has =
    ⊎_elim (λ same. literal-without literal same) (λ behind. literals-without literals behind) (Contains-cases (literal_text literal) (map literal_text literals) (codes ";") has)

when-without : (when : List Literal) → Contains (when_words when) (codes ";") → ⊥
when-without [] has = Contains-nil (codes ";") has
when-without (literal ∷ literals) has =
    ⊎_elim (λ same. words-differ (codes "if") (codes ";") refl same) (λ behind. literals-without (literal ∷ literals) behind) (Contains-cases (codes "if") (map literal_text (literal ∷ literals)) (codes ";") has)

pub case-without : (case : Case ℤ) → Contains (case_words case) (codes ";") → ⊥
case-without case has =
    ⊎_elim (λ same. signed-without case.value same) (λ behind. when-without case.when behind) (Contains-cases (signed_decimal case.value) (when_words case.when) (codes ";") has)

-- ---- all cases

pub one-cases : (case : Case ℤ) (cases : List (Case ℤ)) (other : Case ℤ) (others : List (Case ℤ)) → All IsCase (case ∷ cases) → All IsCase (other ∷ others)
    → cases_words (case ∷ cases) ≡ cases_words (other ∷ others) → case ∷ cases ≡ other ∷ others
one-cases case [] other [] fits also same =
    ap (λ (c : Case ℤ). c ∷ []) (one-case case other (All-head IsCase case [] fits) (All-head IsCase other [] also) same)
one-cases case [] other (o ∷ others) fits also same =
    absurd (case-without case (subst (λ (words : List (List ℕ)). Contains words (codes ";")) (sym same) (cut-has (codes ";") (case_words other) (cases_words (o ∷ others)))))
one-cases case (c ∷ cases) other [] fits also same =
    absurd (case-without other (subst (λ (words : List (List ℕ)). Contains words (codes ";")) same (cut-has (codes ";") (case_words case) (cases_words (c ∷ cases)))))
one-cases case (c ∷ cases) other (o ∷ others) fits also same =
    let cut = one-cut (codes ";") (case_words case) (cases_words (c ∷ cases)) (case_words other) (cases_words (o ∷ others)) (case-without case) (case-without other) same in
    let first : case ≡ other = one-case case other (All-head IsCase case (c ∷ cases) fits) (All-head IsCase other (o ∷ others) also) cut.0 in
    let rest : c ∷ cases ≡ o ∷ others = one-cases c cases o others (All-tail IsCase case (c ∷ cases) fits) (All-tail IsCase other (o ∷ others) also) cut.1 in
    λ i. first i ∷ rest i

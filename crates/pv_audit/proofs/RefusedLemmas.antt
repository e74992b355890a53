-- Refusals read by their words.
use Rattle.std.proofs.Common.{◌≡◌, ℕ, ◌<◌, ◌^◌, List, [], ◌∷◌, Option, Some, None, true, false, sym, ap, ap₂, ◌∙◌}
use Rattle.std.specs.Prelude.{codes}
use Rattle.std.specs.Fmt.{decimal}
use Rattle.std.specs.Str.{bytes_eq}
use Rattle.pv_audit.specs.Printed.{IsSite, IsTxn}
use Rattle.pv_audit.specs.Words.{HasCause, IsCauseLineOf, IsRestOf, cause_words}
use Rattle.pv_audit.specs.declared.first.First.TheVariants.{Refuse}
use Rattle.pv_audit.proofs.CutLemmas.{same-head}
use Rattle.pv_audit.proofs.PartsLemmas.{behind}
use Rattle.pv_base.specs.Catalog.{Declared}
use Rattle.pv_base.specs.Txn.{txn_text}
use Rattle.pv_base.specs.declared.txn.TxnId.{TxnId}
use Rattle.pv_protocol.specs.Lines.{Line}
use Rattle.pv_protocol.specs.LineText.{name_of}
use Rattle.pv_protocol.specs.State.{Cause, conflict, outcome_limit, uncertain, expired, grant_lost, journal_full}
use Rattle.pv_report.specs.NamesOnlyItems.{HasItem}

-- A transaction and a cause are a refusal.
pub refuse-rest : (catalog : Declared) (words : List (List ℕ)) (word : List ℕ) (rest : List (List ℕ)) (txn : TxnId) (found : Option Line) → words ≡ word ∷ rest → word ≡ txn_text txn
    → IsTxn txn → IsCauseLineOf catalog txn rest found → IsRestOf catalog Refuse words found
refuse-rest catalog words word rest txn None split is fits none = λ x has.
    let all : word ∷ rest ≡ txn_text x.0 ∷ cause_words catalog x.1 = sym split ∙ has.are in
    none x.1 (record { are = behind all; items = has.items; within = has.within.1 })
refuse-rest catalog words word rest txn (Some line) split is fits (cause, has, same) = (
  (txn, cause),
  record {
    are = split ∙ ap₂ (λ (w : List ℕ) (ws : List (List ℕ)). w ∷ ws) is has.are;
    items = has.items;
    within = (fits, has.within);
  },
  same,
)

-- Words that are neither two nor three nor four are no cause.
pub no-cause-words : (catalog : Declared) (words : List (List ℕ)) → ((a b : List ℕ) → words ≡ a ∷ (b ∷ []) → ⊥) → ((a b d : List ℕ) → words ≡ a ∷ (b ∷ (d ∷ [])) → ⊥)
    → ((a b d e : List ℕ) → words ≡ a ∷ (b ∷ (d ∷ (e ∷ []))) → ⊥) → (cause : Cause) → HasCause catalog words cause → ⊥
no-cause-words catalog words two three four (conflict site item holder) has = four (codes "conflict") (decimal site) (name_of catalog item) (txn_text holder) has.are
no-cause-words catalog words two three four (outcome_limit names) has = two (codes "outcome-limit") (decimal names) has.are
no-cause-words catalog words two three four (uncertain item names) has = three (codes "uncertain") (name_of catalog item) (decimal names) has.are
no-cause-words catalog words two three four (expired site) has = two (codes "expired") (decimal site) has.are
no-cause-words catalog words two three four (grant_lost site) has = two (codes "grant-lost") (decimal site) has.are
no-cause-words catalog words two three four (journal_full site length) has = three (codes "journal-full") (decimal site) (decimal length) has.are

-- Two words are no cause, where they aren't any of the three that two words may be.
pub no-two : (catalog : Declared) (word number : List ℕ) → (word ≡ codes "outcome-limit" → (names : ℕ) → names < 2 ^ 32 → number ≡ decimal names → ⊥)
    → (word ≡ codes "expired" → (site : ℕ) → IsSite site → number ≡ decimal site → ⊥) → (word ≡ codes "grant-lost" → (site : ℕ) → IsSite site → number ≡ decimal site → ⊥)
    → (cause : Cause) → HasCause catalog (word ∷ (number ∷ [])) cause → ⊥
no-two catalog word number limit late lost (conflict site item holder) has = let same = has.are in cc
no-two catalog word number limit late lost (outcome_limit names) has = limit (same-head has.are) names has.within (same-head (behind has.are))
no-two catalog word number limit late lost (uncertain item names) has = let same = has.are in cc
no-two catalog word number limit late lost (expired site) has = late (same-head has.are) site has.within (same-head (behind has.are))
no-two catalog word number limit late lost (grant_lost site) has = lost (same-head has.are) site has.within (same-head (behind has.are))
no-two catalog word number limit late lost (journal_full site length) has = let same = has.are in cc

-- So with three words,
pub no-three : (catalog : Declared) (word first second : List ℕ)
    → (word ≡ codes "uncertain" → (item names : ℕ) → HasItem catalog item → names < 2 ^ 32 → first ≡ name_of catalog item → second ≡ decimal names → ⊥)
    → (word ≡ codes "journal-full" → (site length : ℕ) → IsSite site → length < 2 ^ 64 → first ≡ decimal site → second ≡ decimal length → ⊥)
    → (cause : Cause) → HasCause catalog (word ∷ (first ∷ (second ∷ []))) cause → ⊥
no-three catalog word first second unsure full (conflict site item holder) has = let same = has.are in cc
no-three catalog word first second unsure full (outcome_limit names) has = let same = has.are in cc
no-three catalog word first second unsure full (uncertain item names) has =
    unsure (same-head has.are) item names has.items has.within (same-head (behind has.are)) (same-head (behind (behind has.are)))
no-three catalog word first second unsure full (expired site) has = let same = has.are in cc
no-three catalog word first second unsure full (grant_lost site) has = let same = has.are in cc
no-three catalog word first second unsure full (journal_full site length) has =
    full (same-head has.are) site length has.within.0 has.within.1 (same-head (behind has.are)) (same-head (behind (behind has.are)))

-- and with four.
pub no-four : (catalog : Declared) (word first second third : List ℕ)
    → (word ≡ codes "conflict" → (site item : ℕ) (holder : TxnId) → HasItem catalog item → IsSite site → IsTxn holder → first ≡ decimal site → second ≡ name_of catalog item
    → third ≡ txn_text holder → ⊥)
    → (cause : Cause) → HasCause catalog (word ∷ (first ∷ (second ∷ (third ∷ [])))) cause → ⊥
no-four catalog word first second third met (conflict site item holder) has =
    met (same-head has.are) site item holder has.items has.within.0 has.within.1 (same-head (behind has.are)) (same-head (behind (behind has.are)))
    (same-head (behind (behind (behind has.are))))
no-four catalog word first second third met (outcome_limit names) has = let same = has.are in cc
no-four catalog word first second third met (uncertain item names) has = let same = has.are in cc
no-four catalog word first second third met (expired site) has = let same = has.are in cc
no-four catalog word first second third met (grant_lost site) has = let same = has.are in cc
no-four catalog word first second third met (journal_full site length) has = let same = has.are in cc

-- ---- words that are the same one by one

pub same-two : {a b c d : List ℕ} → a ≡ c → b ≡ d → a ∷ (b ∷ []) ≡ c ∷ (d ∷ [])
same-two p q = λ i. p i ∷ (q i ∷ [])

pub same-three : {a b c d e f : List ℕ} → a ≡ d → b ≡ e → c ≡ f → a ∷ (b ∷ (c ∷ [])) ≡ d ∷ (e ∷ (f ∷ []))
same-three p q r = λ i. p i ∷ (q i ∷ (r i ∷ []))

pub same-four : {a b c d e f g h : List ℕ} → a ≡ e → b ≡ f → c ≡ g → d ≡ h → a ∷ (b ∷ (c ∷ (d ∷ []))) ≡ e ∷ (f ∷ (g ∷ (h ∷ [])))
same-four p q r s = λ i. p i ∷ (q i ∷ (r i ∷ (s i ∷ [])))

-- `uncertain` isn't `journal-full`.
pub other-cause : (word : List ℕ) → word ≡ codes "uncertain" → word ≡ codes "journal-full" → ⊥
other-cause word is also = let never : true ≡ false = ap (λ (w : List ℕ). bytes_eq w (codes "uncertain")) (sym is ∙ also) in cc

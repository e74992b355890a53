-- Printed replies, items and totals read by their words.
use Rattle.std.proofs.Common.{◌≡◌, ℕ, ℤ, ◌<◌, ◌^◌, Bool, true, false, cond, List, [], ◌∷◌, Bor, Some, length, map, refl, sym, ap, ap₂, ◌∙◌}
use Rattle.std.proofs.lemmas.List.{length-map}
use Rattle.std.specs.Prelude.{◌==◌, codes}
use Rattle.std.specs.List.{All}
use Rattle.std.specs.Fmt.{decimal, signed_decimal}
use Rattle.pv_audit.specs.FirstWords.{ItemValue, TotalValue, item_line}
use Rattle.pv_audit.specs.Printed.{AreCases, IsSite, IsSum}
use Rattle.pv_audit.specs.Words.{AreCaseWords, HasRest, IsRestOf, IsUnreadable, answer_words, cases_words, certainty_word, rest_words}
use Rattle.pv_audit.specs.declared.first.First.TheVariants.{Item, Total}
use Rattle.pv_audit.proofs.CutLemmas.{same-head, words-differ}
use Rattle.pv_audit.proofs.FixedLemmas.{same-length}
use Rattle.pv_audit.proofs.PartsLemmas.{behind}
use Rattle.pv_base.specs.Catalog.{Declared}
use Rattle.pv_base.specs.Polyvalue.{Case}
use Rattle.pv_base.specs.Txn.{txn_text}
use Rattle.pv_protocol.specs.Lines.{Line}
use Rattle.pv_protocol.specs.LineText.{name_of}
use Rattle.pv_report.specs.NamesOnlyItems.{HasItem, NamesOnlyItems}
use Rattle.pv_script.specs.LineFaults.{texts}

-- ---- answers

-- There are as many words as answers.
many-answers : {A : Type 0} (text : A → List ℕ) (args : List (Bor (List ℕ))) (things : List A) → texts args ≡ map text things → length args ≡ length things
many-answers text args things are = same-length args (map text things) are ∙ length-map things text

pub not-certain : {A : Type 0} (text : A → List ℕ) (args : List (Bor (List ℕ))) (word : List ℕ) (things : List A) → (word ≡ certainty_word (length args) → ⊥)
    → word ∷ texts args ≡ answer_words text things → ⊥
not-certain text args word things differ are = differ (same-head are ∙ ap certainty_word (sym (many-answers text args things (behind are))))

pub are-answers : {A : Type 0} (text : A → List ℕ) (args : List (Bor (List ℕ))) (word : List ℕ) (things : List A) → word ≡ certainty_word (length args) → texts args ≡ map text things
    → word ∷ texts args ≡ answer_words text things
are-answers text args word things certain are =
    ap₂ (λ (w : List ℕ) (ws : List (List ℕ)). w ∷ ws) (certain ∙ ap certainty_word (many-answers text args things are)) are

-- ---- items

-- what stands behind the name
abbrev pub value_words : ItemValue → List (List ℕ)
value_words (ItemValue.cases values) = cases_words values
value_words (ItemValue.locked t) = codes "locked" ∷ (txn_text t ∷ [])
value_words ItemValue.down = codes "down" ∷ []

pub item-words : (catalog : Declared) (n : ℕ) (value : ItemValue) → rest_words catalog (item_line n value) ≡ name_of catalog n ∷ value_words value
item-words catalog n (ItemValue.cases values) = refl
item-words catalog n (ItemValue.locked t) = refl
item-words catalog n ItemValue.down = refl

pub item-has : (catalog : Declared) (n : ℕ) (value : ItemValue) → NamesOnlyItems catalog (item_line n value) → HasItem catalog n
item-has catalog n (ItemValue.cases values) has = has
item-has catalog n (ItemValue.locked t) has = has
item-has catalog n ItemValue.down has = has

pub unreadable-rest : (catalog : Declared) (words : List (List ℕ)) (name : List ℕ) (value : List (List ℕ)) (n : ℕ) (line : Line) → words ≡ name ∷ value → name ≡ name_of catalog n
    → HasItem catalog n → IsUnreadable n value line → IsRestOf catalog Item words (Some line)
unreadable-rest catalog words name value n (Line.item_down m) split is has (same, are) =
    ((n, ItemValue.down), record { are = split ∙ ap₂ (λ (w : List ℕ) (ws : List (List ℕ)). w ∷ ws) is are; items = has; within = tt }, ap Line.item_down same)
unreadable-rest catalog words name value n (Line.item_locked m t) split is has (same, fits, are) = (
  (n, ItemValue.locked t),
  record { are = split ∙ ap₂ (λ (w : List ℕ) (ws : List (List ℕ)). w ∷ ws) is are; items = has; within = fits },
  ap (λ (k : ℕ). Line.item_locked k t) same,
)
unreadable-rest catalog words name value n line split is has never = absurd never

pub no-item-value : (catalog : Declared) (words : List (List ℕ)) (name : List ℕ) (value : List (List ℕ)) → words ≡ name ∷ value → AreCaseWords value
    → ((cases : List (Case ℤ)) → value ≡ cases_words cases → AreCases cases → ⊥) → (n : ℕ) (v : ItemValue) → HasRest catalog Item words (n, v) → ⊥
no-item-value catalog words name value split other none n (ItemValue.cases values) has = none values (behind (sym split ∙ has.are)) has.within
no-item-value catalog words name value split other none n (ItemValue.locked t) has = other.free t has.within (behind (sym split ∙ has.are))
no-item-value catalog words name value split other none n ItemValue.down has = other.up (behind (sym split ∙ has.are))

-- ---- totals

-- Two words that aren't sums may be a total in three ways.
pub no-total : (catalog : Declared) (cause word : List ℕ) → (cause ≡ codes "certain" → ⊥)
    → (cause ≡ codes "locked" → (item : ℕ) → HasItem catalog item → word ≡ name_of catalog item → ⊥) → (cause ≡ codes "down" → (site : ℕ) → IsSite site → word ≡ decimal site → ⊥)
    → (cause ≡ codes "outcome-limit" → (names : ℕ) → names < 2 ^ 32 → word ≡ decimal names → ⊥) → (x : TotalValue) → HasRest catalog Total (cause ∷ (word ∷ [])) x → ⊥
no-total catalog cause word other held stopped wide (TotalValue.sums []) has = let same = has.are in cc
no-total catalog cause word other held stopped wide (TotalValue.sums (s ∷ [])) has = other (same-head has.are)
no-total catalog cause word other held stopped wide (TotalValue.sums (s ∷ t ∷ sums)) has = let same = has.are in cc
no-total catalog cause word other held stopped wide (TotalValue.sum_locked n) has = held (same-head has.are) n has.items (same-head (behind has.are))
no-total catalog cause word other held stopped wide (TotalValue.sum_down site) has = stopped (same-head has.are) site has.within (same-head (behind has.are))
no-total catalog cause word other held stopped wide (TotalValue.sum_limit names) has = wide (same-head has.are) names has.within (same-head (behind has.are))

-- Words that are no sums are two, where they are a total.
pub no-total-words : (catalog : Declared) (words : List (Bor (List ℕ))) (word : List ℕ) (answers : List (Bor (List ℕ))) → texts words ≡ word ∷ texts answers
    → (word ≡ certainty_word (length answers) → ⊥) → ((answer : List ℕ) → texts answers ≡ answer ∷ [] → ⊥) → (x : TotalValue) → HasRest catalog Total (texts words) x → ⊥
no-total-words catalog words word answers split other none (TotalValue.sums sums) has = not-certain signed_decimal answers word sums other (sym split ∙ has.are)
no-total-words catalog words word answers split other none (TotalValue.sum_locked n) has = none (name_of catalog n) (behind (sym split ∙ has.are))
no-total-words catalog words word answers split other none (TotalValue.sum_down site) has = none (decimal site) (behind (sym split ∙ has.are))
no-total-words catalog words word answers split other none (TotalValue.sum_limit names) has = none (decimal names) (behind (sym split ∙ has.are))

-- whether answers are certain is said by one of two words
uncertain : (n : ℕ) (word : List ℕ) → (codes "certain" ≡ word → ⊥) → (codes "possible" ≡ word → ⊥) → certainty_word n ≡ word → ⊥
uncertain n word first second is = go (n == 1) is
  where
    go : (one : Bool) → cond one (codes "certain") (codes "possible") ≡ word → ⊥
    go true same = first same
    go false same = second same

-- The words are a total of sums only where they are these sums.
pub no-sums : (catalog : Declared) (words : List (Bor (List ℕ))) → ((sums : List ℤ) → All IsSum sums → texts words ≡ map signed_decimal sums → ⊥)
    → (x : TotalValue) → HasRest catalog Total (certainty_word (length words) ∷ texts words) x → ⊥
no-sums catalog words none (TotalValue.sums sums) has = none sums has.within (behind has.are)
no-sums catalog words none (TotalValue.sum_locked n) has = uncertain (length words) (codes "locked") (λ e. words-differ (codes "certain") (codes "locked") refl e) (λ e. words-differ (codes "possible") (codes "locked") refl e) (same-head has.are)
no-sums catalog words none (TotalValue.sum_down site) has = uncertain (length words) (codes "down") (λ e. words-differ (codes "certain") (codes "down") refl e) (λ e. words-differ (codes "possible") (codes "down") refl e) (same-head has.are)
no-sums catalog words none (TotalValue.sum_limit names) has = uncertain (length words) (codes "outcome-limit") (λ e. words-differ (codes "certain") (codes "outcome-limit") refl e) (λ e. words-differ (codes "possible") (codes "outcome-limit") refl e) (same-head has.are)

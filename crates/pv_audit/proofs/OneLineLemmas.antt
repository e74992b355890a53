-- A text is printed for one line at most.
use Rattle.std.proofs.Common.{◌≡◌, ℕ, ℤ, pos, negsuc, suc, ◌<◌, ◌^◌, Bool, true, false, List, [], ◌∷◌, ◌++◌, map, length, cond, refl, sym, ap, ap₂, subst, ◌∙◌, arith}
use Rattle.std.specs.Prelude.{◌==◌, codes}
use Rattle.std.specs.Str.{bytes_eq}
use Rattle.std.specs.Fmt.{decimal, signed_decimal}
use Rattle.std.specs.List.{All, Contains, slice_split}
use Rattle.std.proofs.lemmas.Bool.{both_ways}
use Rattle.std.proofs.lemmas.Slice.Eq.{bytes_eq-Decides}
use Rattle.std.proofs.lemmas.Fmt.{decimal_injective, signed_decimal_injective}
use Rattle.std.proofs.lemmas.List.Elements.{All-head, All-tail}
use Rattle.pv_audit.specs.FirstWords.{Fields, ItemValue, TotalValue, first_of, first_word, item_line, line_with, total_line}
use Rattle.pv_audit.specs.Printed.{AreCases, AreNamed, IsCause, IsPrinted, IsReply, IsSite, IsSum, IsTxn, IsWithin}
use Rattle.pv_audit.specs.Words.{cases_words, cause_words, certainty_word, line_words, rest_words}
use Rattle.pv_audit.specs.declared.first.First.{First}
use Rattle.pv_audit.specs.declared.first.First.TheVariants.{Txn, Commit, Refuse, Full, Spent, Down, Up, Stopped, Fault, Started, No, Sent, Order, Committed, Open, Item, End, Total}
use Rattle.pv_audit.proofs.CutLemmas.{cut-has, one-cut, same-head, words-differ}
use Rattle.pv_audit.proofs.FreeLemmas.{free-line}
use Rattle.pv_audit.proofs.LineWordLemmas.{joined-line}
use Rattle.pv_audit.proofs.NumberLemmas.{decimal-without, mag-fits, one-wide}
use Rattle.pv_audit.proofs.OneFormLemmas.{one-cases, one-txn}
use Rattle.pv_audit.proofs.RestLemmas.{Says, rest-of, same-first, says}
use Rattle.pv_audit.proofs.SpaceLemmas.{is_space, joined, split-joined}
use Rattle.pv_base.specs.Catalog.{Declared}
use Rattle.pv_base.specs.Polyvalue.{Case, IsCanonical, sure, tested, under}
use Rattle.pv_base.specs.Txn.{txn_text}
use Rattle.pv_base.specs.declared.reply.Decline.TheVariants.{Require, Overflow, ZeroDivisor}
use Rattle.pv_base.specs.declared.reply.Reply.{Reply}
use Rattle.pv_base.specs.declared.reply.Reply.TheVariants.{Value, Nothing, Declined}
use Rattle.pv_base.specs.declared.txn.TxnId.{TxnId}
use Rattle.pv_model.specs.ReplyText.{reply_text}
use Rattle.pv_protocol.specs.Lines.{Line, MessageKind}
use Rattle.pv_protocol.specs.LineText.{kind_text, name_of}
use Rattle.pv_protocol.specs.State.{Cause, conflict, outcome_limit, uncertain, expired, grant_lost, journal_full}
use Rattle.pv_report.specs.NamesOnlyItems.{CauseNamesOnlyItems, NamesOnlyItems}

-- ---- lists

one-map : {A : Type 0} (Good : A → Type 0) (text : A → List ℕ) → ((x y : A) → Good x → Good y → text x ≡ text y → x ≡ y) → (xs ys : List A) → All Good xs → All Good ys
    → map text xs ≡ map text ys → xs ≡ ys
one-map Good text one [] [] good also same = refl
one-map Good text one [] (y ∷ ys) good also same = absurd (let never : ⊥ = cc in never)
one-map Good text one (x ∷ xs) [] good also same = absurd (let never : ⊥ = cc in never)
one-map Good text one (x ∷ xs) (y ∷ ys) good also same =
    let head : text x ≡ text y = cc in
    let tail : map text xs ≡ map text ys = cc in
    let first : x ≡ y = one x y (All-head Good x xs good) (All-head Good y ys also) head in
    let rest : xs ≡ ys = one-map Good text one xs ys (All-tail Good x xs good) (All-tail Good y ys also) tail in
    λ i. first i ∷ rest i

-- ---- numbers

one-site : (m n : ℕ) → IsSite m → IsSite n → decimal m ≡ decimal n → m ≡ n
one-site m n fits also same = decimal_injective m n (omega (arith, fits)) (omega (arith, also)) same

one-short : (m n : ℕ) → m < 2 ^ 32 → n < 2 ^ 32 → decimal m ≡ decimal n → m ≡ n
one-short m n fits also same = decimal_injective m n (omega (arith, fits)) (omega (arith, also)) same

-- no number begins with this byte
begins-no : (z : ℤ) (b : ℕ) (bs : List ℕ) → (b ≡ 45 → ⊥) → ((n : ℕ) → Contains (decimal n) b → ⊥) → signed_decimal z ≡ b ∷ bs → ⊥
begins-no (pos n) b bs minus none is = none n (subst (λ (w : List ℕ). Contains w b) (sym is) (cut-has b [] bs))
begins-no (negsuc n) b bs minus none is = minus (let same : b ≡ 45 = cc in same)

-- ---- replies, kinds and causes

one-reply : (reply other : Reply) → IsReply reply → IsReply other → reply_text reply ≡ reply_text other → reply ≡ other
one-reply (Value v) (Value w) fits also same = ap Value (signed_decimal_injective v w (mag-fits v fits) (mag-fits w also) same)
one-reply (Value v) Nothing fits also same = absurd (begins-no v 110 (codes "othing") (λ e. omega (arith, e)) (λ n. decimal-without n 110 refl) same)
one-reply (Value v) (Declined Require) fits also same = absurd (begins-no v 100 (codes "eclined-require") (λ e. omega (arith, e)) (λ n. decimal-without n 100 refl) same)
one-reply (Value v) (Declined Overflow) fits also same = absurd (begins-no v 100 (codes "eclined-overflow") (λ e. omega (arith, e)) (λ n. decimal-without n 100 refl) same)
one-reply (Value v) (Declined ZeroDivisor) fits also same = absurd (begins-no v 100 (codes "eclined-zero-divisor") (λ e. omega (arith, e)) (λ n. decimal-without n 100 refl) same)
one-reply Nothing (Value w) fits also same = absurd (begins-no w 110 (codes "othing") (λ e. omega (arith, e)) (λ n. decimal-without n 110 refl) (sym same))
one-reply (Declined Require) (Value w) fits also same = absurd (begins-no w 100 (codes "eclined-require") (λ e. omega (arith, e)) (λ n. decimal-without n 100 refl) (sym same))
one-reply (Declined Overflow) (Value w) fits also same = absurd (begins-no w 100 (codes "eclined-overflow") (λ e. omega (arith, e)) (λ n. decimal-without n 100 refl) (sym same))
one-reply (Declined ZeroDivisor) (Value w) fits also same = absurd (begins-no w 100 (codes "eclined-zero-divisor") (λ e. omega (arith, e)) (λ n. decimal-without n 100 refl) (sym same))
one-reply Nothing Nothing fits also same = refl
one-reply (Declined Require) (Declined Require) fits also same = refl
one-reply (Declined Overflow) (Declined Overflow) fits also same = refl
one-reply (Declined ZeroDivisor) (Declined ZeroDivisor) fits also same = refl
one-reply Nothing (Declined Require) fits also same = absurd (words-differ (reply_text Nothing) (reply_text (Declined Require)) refl same)
one-reply (Declined Require) Nothing fits also same = absurd (words-differ (reply_text (Declined Require)) (reply_text Nothing) refl same)
one-reply Nothing (Declined Overflow) fits also same = absurd (words-differ (reply_text Nothing) (reply_text (Declined Overflow)) refl same)
one-reply (Declined Overflow) Nothing fits also same = absurd (words-differ (reply_text (Declined Overflow)) (reply_text Nothing) refl same)
one-reply Nothing (Declined ZeroDivisor) fits also same = absurd (words-differ (reply_text Nothing) (reply_text (Declined ZeroDivisor)) refl same)
one-reply (Declined ZeroDivisor) Nothing fits also same = absurd (words-differ (reply_text (Declined ZeroDivisor)) (reply_text Nothing) refl same)
one-reply a b fits also same = absurd (words-differ (reply_text a) (reply_text b) refl same)

one-kind : (kind other : MessageKind) → kind_text kind ≡ kind_text other → kind ≡ other
one-kind MessageKind.lock MessageKind.lock same = refl
one-kind MessageKind.granted MessageKind.granted same = refl
one-kind MessageKind.denied MessageKind.denied same = refl
one-kind MessageKind.prepare MessageKind.prepare same = refl
one-kind MessageKind.yes MessageKind.yes same = refl
one-kind MessageKind.no MessageKind.no same = refl
one-kind MessageKind.outcome MessageKind.outcome same = refl
one-kind MessageKind.ask MessageKind.ask same = refl
one-kind a b same = absurd (words-differ (kind_text a) (kind_text b) refl same)

one-cause : (catalog : Declared) (cause other : Cause) → AreNamed catalog → CauseNamesOnlyItems catalog cause → CauseNamesOnlyItems catalog other → IsCause cause → IsCause other
    → cause_words catalog cause ≡ cause_words catalog other → cause ≡ other
one-cause catalog (conflict site item holder) (conflict site2 item2 holder2) named has there fits also same =
    let sites : decimal site ≡ decimal site2 = cc in
    let names : name_of catalog item ≡ name_of catalog item2 = cc in
    let holders : txn_text holder ≡ txn_text holder2 = cc in
    let a : site ≡ site2 = one-site site site2 fits.0 also.0 sites in
    let b : item ≡ item2 = named.apart item item2 has there names in
    let c : holder ≡ holder2 = one-txn holder holder2 fits.1 also.1 holders in
    λ i. conflict (a i) (b i) (c i)
one-cause catalog (outcome_limit names) (outcome_limit names2) named has there fits also same =
    let texts : decimal names ≡ decimal names2 = cc in ap outcome_limit (one-short names names2 fits also texts)
one-cause catalog (uncertain item names) (uncertain item2 names2) named has there fits also same =
    let called : name_of catalog item ≡ name_of catalog item2 = cc in
    let texts : decimal names ≡ decimal names2 = cc in
    ap₂ uncertain (named.apart item item2 has there called) (one-short names names2 fits also texts)
one-cause catalog (expired site) (expired site2) named has there fits also same =
    let texts : decimal site ≡ decimal site2 = cc in ap expired (one-site site site2 fits also texts)
one-cause catalog (grant_lost site) (grant_lost site2) named has there fits also same =
    let texts : decimal site ≡ decimal site2 = cc in ap grant_lost (one-site site site2 fits also texts)
one-cause catalog (journal_full site length) (journal_full site2 length2) named has there fits also same =
    let sites : decimal site ≡ decimal site2 = cc in
    let lengths : decimal length ≡ decimal length2 = cc in
    ap₂ journal_full (one-site site site2 fits.0 also.0 sites) (decimal_injective length length2 fits.1 also.1 lengths)
one-cause catalog a b named has there fits also same = absurd (words-differ _ _ refl (same-head same))

-- ---- items

-- Canonical cases are some.
unparted : {V : Type 0} (txn : TxnId) (cases rest : List (Case V)) → under txn false cases ++ rest ≡ [] → cases ≡ []
unparted txn [] rest is = refl
unparted txn (case ∷ cases) rest is = absurd (let never : ⊥ = cc in never)

pub some-cases : {V : Type 0} {cases : List (Case V)} → IsCanonical cases → cases ≡ [] → ⊥
some-cases (sure value) is = cc
some-cases (tested txn aborted committed a c first second differ) is = some-cases a (unparted txn aborted (under txn true committed) is)

one-printed : (cases others : List (Case ℤ)) → AreCases cases → AreCases others → cases_words cases ≡ cases_words others → cases ≡ others
one-printed [] others are also same = absurd (some-cases are.polyvalue.canonical refl)
one-printed (c ∷ cases) [] are also same = absurd (some-cases also.polyvalue.canonical refl)
one-printed (c ∷ cases) (o ∷ others) are also same = one-cases c cases o others are.each also.each same

-- Cases don't begin as another word does.
cases-word : (cases : List (Case ℤ)) → AreCases cases → (b : ℕ) (bs : List ℕ) (rest : List (List ℕ)) → (b ≡ 45 → ⊥) → ((n : ℕ) → Contains (decimal n) b → ⊥)
    → cases_words cases ≡ (b ∷ bs) ∷ rest → ⊥
cases-word [] are b bs rest minus none same = some-cases are.polyvalue.canonical refl
cases-word (case ∷ []) are b bs rest minus none same = begins-no case.value b bs minus none (let head : signed_decimal case.value ≡ b ∷ bs = cc in head)
cases-word (case ∷ next ∷ cases) are b bs rest minus none same = begins-no case.value b bs minus none (let head : signed_decimal case.value ≡ b ∷ bs = cc in head)

no-locked : (cases : List (Case ℤ)) (txn : TxnId) → AreCases cases → cases_words cases ≡ codes "locked" ∷ (txn_text txn ∷ []) → ⊥
no-locked cases txn are same = cases-word cases are 108 (codes "ocked") (txn_text txn ∷ []) (λ e. omega (arith, e)) (λ n. decimal-without n 108 refl) same

no-down : (cases : List (Case ℤ)) → AreCases cases → cases_words cases ≡ codes "down" ∷ [] → ⊥
no-down cases are same = cases-word cases are 100 (codes "own") [] (λ e. omega (arith, e)) (λ n. decimal-without n 100 refl) same

one-item : (catalog : Declared) (m n : ℕ) (value other : ItemValue) → AreNamed catalog → NamesOnlyItems catalog (item_line m value) → NamesOnlyItems catalog (item_line n other)
    → IsWithin (item_line m value) → IsWithin (item_line n other) → rest_words catalog (item_line m value) ≡ rest_words catalog (item_line n other) → (m ≡ n) × (value ≡ other)
one-item catalog m n (ItemValue.cases a) (ItemValue.cases b) named has there fits also same =
    let names : name_of catalog m ≡ name_of catalog n = cc in
    let words : cases_words a ≡ cases_words b = cc in
    (named.apart m n has there names, ap ItemValue.cases (one-printed a b fits also words))
one-item catalog m n (ItemValue.locked t) (ItemValue.locked u) named has there fits also same =
    let names : name_of catalog m ≡ name_of catalog n = cc in
    let texts : txn_text t ≡ txn_text u = cc in
    (named.apart m n has there names, ap ItemValue.locked (one-txn t u fits also texts))
one-item catalog m n ItemValue.down ItemValue.down named has there fits also same =
    let names : name_of catalog m ≡ name_of catalog n = cc in
    (named.apart m n has there names, refl)
one-item catalog m n (ItemValue.cases a) (ItemValue.locked u) named has there fits also same =
    absurd (no-locked a u fits (let words : cases_words a ≡ codes "locked" ∷ (txn_text u ∷ []) = cc in words))
one-item catalog m n (ItemValue.locked t) (ItemValue.cases b) named has there fits also same =
    absurd (no-locked b t also (let words : cases_words b ≡ codes "locked" ∷ (txn_text t ∷ []) = cc in words))
one-item catalog m n (ItemValue.cases a) ItemValue.down named has there fits also same = absurd (no-down a fits (let words : cases_words a ≡ codes "down" ∷ [] = cc in words))
one-item catalog m n ItemValue.down (ItemValue.cases b) named has there fits also same = absurd (no-down b also (let words : cases_words b ≡ codes "down" ∷ [] = cc in words))
one-item catalog m n (ItemValue.locked t) ItemValue.down named has there fits also same = absurd (let never : ⊥ = cc in never)
one-item catalog m n ItemValue.down (ItemValue.locked u) named has there fits also same = absurd (let never : ⊥ = cc in never)

-- ---- totals

one-sum : (z w : ℤ) → IsSum z → IsSum w → signed_decimal z ≡ signed_decimal w → z ≡ w
one-sum (pos m) (pos n) fits also same = ap pos (one-wide m n (omega (arith, fits)) (omega (arith, also)) same)
one-sum (pos m) (negsuc n) fits also same = absurd (decimal-without m 45 refl (subst (λ (t : List ℕ). Contains t 45) (sym same) (cut-has 45 [] (decimal (suc n)))))
one-sum (negsuc m) (pos n) fits also same = absurd (decimal-without n 45 refl (subst (λ (t : List ℕ). Contains t 45) same (cut-has 45 [] (decimal (suc m)))))
one-sum (negsuc m) (negsuc n) fits also same =
    let texts : decimal (suc m) ≡ decimal (suc n) = cc in
    let numbers = one-wide (suc m) (suc n) (omega (arith, fits)) (omega (arith, also)) texts in
    ap negsuc (let less : m ≡ n = omega (arith, numbers) in less)

no-certainty : (n : ℕ) (word : List ℕ) → bytes_eq (codes "certain") word ≡ false → bytes_eq (codes "possible") word ≡ false → certainty_word n ≡ word → ⊥
no-certainty n word certain possible = by_one (n == 1)
  where
    by_one : (one : Bool) → cond one (codes "certain") (codes "possible") ≡ word → ⊥
    by_one true same = both_ways (bytes_eq (codes "certain") word) certain ((bytes_eq-Decides (codes "certain") word).1 same)
    by_one false same = both_ways (bytes_eq (codes "possible") word) possible ((bytes_eq-Decides (codes "possible") word).1 same)

one-total : (catalog : Declared) (value other : TotalValue) → AreNamed catalog → NamesOnlyItems catalog (total_line value) → NamesOnlyItems catalog (total_line other)
    → IsWithin (total_line value) → IsWithin (total_line other) → rest_words catalog (total_line value) ≡ rest_words catalog (total_line other) → value ≡ other
one-total catalog (TotalValue.sums a) (TotalValue.sums b) named has there fits also same =
    let texts : map signed_decimal a ≡ map signed_decimal b = cc in ap TotalValue.sums (one-map IsSum signed_decimal one-sum a b fits also texts)
one-total catalog (TotalValue.sum_locked m) (TotalValue.sum_locked n) named has there fits also same =
    let texts : name_of catalog m ≡ name_of catalog n = cc in ap TotalValue.sum_locked (named.apart m n has there texts)
one-total catalog (TotalValue.sum_down m) (TotalValue.sum_down n) named has there fits also same =
    let texts : decimal m ≡ decimal n = cc in ap TotalValue.sum_down (one-site m n fits also texts)
one-total catalog (TotalValue.sum_limit m) (TotalValue.sum_limit n) named has there fits also same =
    let texts : decimal m ≡ decimal n = cc in ap TotalValue.sum_limit (one-short m n fits also texts)
one-total catalog (TotalValue.sums a) (TotalValue.sum_locked n) named has there fits also same =
    absurd (no-certainty (length a) (codes "locked") refl refl (let head : certainty_word (length a) ≡ codes "locked" = cc in head))
one-total catalog (TotalValue.sums a) (TotalValue.sum_down n) named has there fits also same =
    absurd (no-certainty (length a) (codes "down") refl refl (let head : certainty_word (length a) ≡ codes "down" = cc in head))
one-total catalog (TotalValue.sums a) (TotalValue.sum_limit n) named has there fits also same =
    absurd (no-certainty (length a) (codes "outcome-limit") refl refl (let head : certainty_word (length a) ≡ codes "outcome-limit" = cc in head))
one-total catalog (TotalValue.sum_locked m) (TotalValue.sums b) named has there fits also same =
    absurd (no-certainty (length b) (codes "locked") refl refl (let head : certainty_word (length b) ≡ codes "locked" = cc in head))
one-total catalog (TotalValue.sum_down m) (TotalValue.sums b) named has there fits also same =
    absurd (no-certainty (length b) (codes "down") refl refl (let head : certainty_word (length b) ≡ codes "down" = cc in head))
one-total catalog (TotalValue.sum_limit m) (TotalValue.sums b) named has there fits also same =
    absurd (no-certainty (length b) (codes "outcome-limit") refl refl (let head : certainty_word (length b) ≡ codes "outcome-limit" = cc in head))
one-total catalog a b named has there fits also same = absurd (words-differ _ _ refl (same-head same))

-- ---- lines

one-way : (from to from2 to2 : ℕ) → IsSite from → IsSite from2 → IsSite to → IsSite to2 → decimal from ++ (codes ">" ++ decimal to) ≡ decimal from2 ++ (codes ">" ++ decimal to2)
    → (from ≡ from2) × (to ≡ to2)
one-way from to from2 to2 a b c d same =
    let cut = one-cut 62 (decimal from) (decimal to) (decimal from2) (decimal to2) (decimal-without from 62 refl) (decimal-without from2 62 refl) same in
    (one-site from from2 a b cut.0, one-site to to2 c d cut.1)

one-rest : (catalog : Declared) (first : First) (x y : Fields first) → AreNamed catalog → NamesOnlyItems catalog (line_with first x) → NamesOnlyItems catalog (line_with first y)
    → IsWithin (line_with first x) → IsWithin (line_with first y) → rest_words catalog (line_with first x) ≡ rest_words catalog (line_with first y) → x ≡ y
one-rest catalog Txn x y named has there fits also same = let t : txn_text x ≡ txn_text y = cc in one-txn x y fits also t
one-rest catalog Commit x y named has there fits also same =
    let t : txn_text x.0 ≡ txn_text y.0 = cc in
    let r : map reply_text x.1 ≡ map reply_text y.1 = cc in
    let a = one-txn x.0 y.0 fits.0 also.0 t in
    let b = one-map IsReply reply_text one-reply x.1 y.1 fits.1 also.1 r in
    λ i. (a i, b i)
one-rest catalog Refuse x y named has there fits also same =
    let t : txn_text x.0 ≡ txn_text y.0 = cc in
    let w : cause_words catalog x.1 ≡ cause_words catalog y.1 = cc in
    let a = one-txn x.0 y.0 fits.0 also.0 t in
    let b = one-cause catalog x.1 y.1 named has there fits.1 also.1 w in
    λ i. (a i, b i)
one-rest catalog Full x y named has there fits also same =
    let s : decimal x.0 ≡ decimal y.0 = cc in
    let l : decimal x.1 ≡ decimal y.1 = cc in
    let a = one-site x.0 y.0 fits.0 also.0 s in
    let b = decimal_injective x.1 y.1 fits.1 also.1 l in
    λ i. (a i, b i)
one-rest catalog Spent x y named has there fits also same = let s : decimal x ≡ decimal y = cc in one-site x y fits also s
one-rest catalog Down x y named has there fits also same = let s : decimal x ≡ decimal y = cc in one-site x y fits also s
one-rest catalog Up x y named has there fits also same = let s : decimal x ≡ decimal y = cc in one-site x y fits also s
one-rest catalog Stopped x y named has there fits also same = let s : decimal x ≡ decimal y = cc in one-site x y fits also s
one-rest catalog Fault x y named has there fits also same = let s : decimal x ≡ decimal y = cc in one-site x y fits also s
one-rest catalog Started x y named has there fits also same =
    let s : decimal x.0 ≡ decimal y.0 = cc in
    let e : decimal x.1 ≡ decimal y.1 = cc in
    let a = one-site x.0 y.0 fits.0 also.0 s in
    let b = one-short x.1 y.1 fits.1 also.1 e in
    λ i. (a i, b i)
one-rest catalog No x y named has there fits also same = let n : decimal x ≡ decimal y = cc in decimal_injective x y fits also n
one-rest catalog Sent x y named has there fits also same =
    let n : decimal x.0 ≡ decimal y.0 = cc in
    let w : decimal x.1 ++ (codes ">" ++ decimal x.2) ≡ decimal y.1 ++ (codes ">" ++ decimal y.2) = cc in
    let k : kind_text x.3 ≡ kind_text y.3 = cc in
    let t : txn_text x.4 ≡ txn_text y.4 = cc in
    let a = decimal_injective x.0 y.0 fits.0 also.0 n in
    let b = one-way x.1 x.2 y.1 y.2 fits.1 also.1 fits.2 also.2 w in
    let c = one-kind x.3 y.3 k in
    let d = one-txn x.4 y.4 fits.3 also.3 t in
    λ i. (a i, b.0 i, b.1 i, c i, d i)
one-rest catalog Order x y named has there fits also same = one-map IsTxn txn_text one-txn x y fits also same
one-rest catalog Committed x y named has there fits also same = one-map IsTxn txn_text one-txn x y fits also same
one-rest catalog Open x y named has there fits also same = one-map IsTxn txn_text one-txn x y fits also same
one-rest catalog Item x y named has there fits also same =
    let both = one-item catalog x.0 y.0 x.1 y.1 named has there fits also same in
    λ i. (both.0 i, both.1 i)
one-rest catalog End x y named has there fits also same = refl
one-rest catalog Total x y named has there fits also same = one-total catalog x y named has there fits also same

-- A text is printed for one line at most.
pub one-line : (catalog : Declared) (text : List ℕ) (line other : Line) → AreNamed catalog → IsPrinted catalog text line → IsPrinted catalog text other → line ≡ other
one-line catalog text line other named is also =
    let words : line_words catalog line ≡ line_words catalog other =
    sym (cut line is.items) ∙ ap (slice_split is_space) (sym (is.is ∙ joined-line catalog line) ∙ (also.is ∙ joined-line catalog other)) ∙ cut other also.items in
    let head : first_word (first_of line) ≡ first_word (first_of other) = cc in
    let tail : rest_words catalog line ≡ rest_words catalog other = cc in
    let begins : first_of line ≡ first_of other = same-first (first_of line) (first_of other) head in
    let x = rest-of catalog (first_of other) (rest_words catalog line) line (subst (Says line) begins (says line)) refl is.items is.within in
    let y = rest-of catalog (first_of other) (rest_words catalog line) other (says other) tail also.items also.within in
    x.2 ∙ ap (line_with (first_of other)) (one-rest catalog (first_of other) x.0 y.0 named x.1.items y.1.items x.1.within y.1.within (sym x.1.are ∙ y.1.are)) ∙ sym y.2
  where
    cut : (line : Line) → NamesOnlyItems catalog line → slice_split is_space (joined (line_words catalog line)) ≡ line_words catalog line
    cut line has = split-joined (first_word (first_of line)) (rest_words catalog line) (free-line catalog line named has)

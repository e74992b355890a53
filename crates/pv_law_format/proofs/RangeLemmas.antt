-- The values that are in range are those that have a spelling.
use Rattle.std.proofs.Common.{⊎_elim, ℕ, zero, suc, ◌+◌, ◌<◌, ◌≤◌, ◌^◌, Bool, true, false, List, [], ◌∷◌, ◌++◌, length, map, refl, sym, subst, arith}
use Rattle.std.specs.Prelude.{ℤ, nat_lt, nat_le, ◌&&◌, IsTrue, All, if◌then◌else◌}
use Rattle.std.specs.List.{AllPairs}
use Rattle.std.specs.Int.{w64}
use Rattle.std.specs.Int.RustNames.{FitsSigned}
use Rattle.std.proofs.lemmas.Bool.{and_from, and_parts, lt-ltb, ltb-true, le-leb, leb-true}
use Rattle.std.proofs.lemmas.List.{length-map}
use Rattle.std.proofs.lemmas.List.Elements.{All-nil, All-cons, All-head, All-tail, All-append, All-map}
use Rattle.std.proofs.lemmas.List.Kept.{AllPairs-cons}
use Rattle.pv_base.specs.BigEndian.{IsNumber, IsSigned, big_endian, twos_complement}
use Rattle.pv_base.specs.declared.grant.GrantId.{GrantId}
use Rattle.pv_base.specs.declared.limits.TheConstants.{MAX_SITES, MAX_ITEMS, MAX_PROGRAM_ITEMS, HELD_NAMES}
use Rattle.pv_base.specs.declared.literal.Literal.{Literal}
use Rattle.pv_base.specs.declared.txn.TxnId.{TxnId}
use Rattle.pv_base.specs.Polyvalue.{Case, under}
use Rattle.pv_base.specs.Want.{Want}
use Rattle.pv_model.specs.Alternatives.{Read}
use Rattle.pv_format.specs.Message.{Envelope, Message, lock, granted, denied, prepare, vote_yes, vote_no, outcome_reported, ask, NoCause, grant_lost, journal_full, txn_of}
use Rattle.pv_format.specs.MessageSpelling.{SpellsWants, SpellsNoCause, SpellsBody, SpellsEnvelope, kind_number}
use Rattle.pv_format.specs.OldSpelling.{SpellsLiteral, SpellsCase, SpellsInCases}
use Rattle.pv_format.specs.PolyvalueSpelling.{SpellsNode, SpellsPolyvalue}
use Rattle.pv_format.specs.Range.{IsTxnInRange, IsGrantInRange, AreItemsInRange, IsCaseInRange, IsPolyvalueInRange, AreReadsInRange, AreWantsInRange, IsCauseInRange, IsBodyInRange, IsEnvelopeInRange, IsRecordInRange}
use Rattle.pv_format.specs.Record.{Record, epoch_begun, prepared, outcome_known}
use Rattle.pv_format.specs.RecordSpelling.{SpellsReadsBy, SpellsContentBy, SpellsReads, SpellsRecord, SpellsOldRecord, IsReadAs, are_sure}
use Rattle.pv_format.specs.Spelling.{◌followed_by◌, IsAllowed, IsEmpty, IsSite, IsTruth, SpellsTxn, SpellsGrant, SpellsEach, SpellsEntriesFrom, SpellsEntries, is_site, is_item_from, is_count_from}
use Rattle.pv_format.specs.Tree.{Tree, leaf, test, cases_of}
use Rattle.pv_law_format.proofs.Bytes.{within}
use Rattle.pv_law_format.proofs.CaseCount.{polyvalue-few}
use Rattle.pv_law_format.proofs.EnvelopeCode.{is-kind, small}
use Rattle.pv_law_format.proofs.TreeLemmas.{HasFewTests, behind, first-case, polyvalue-tree}

-- Some bytes are this.
abbrev pub HasSpelling : (List ℕ → Type 0) → Type 0
HasSpelling Spelled = (bytes : List ℕ) × Spelled bytes

joined : {A B : List ℕ → Type 0} → HasSpelling A → HasSpelling B → HasSpelling (A followed_by B)
joined a b = (a.0 ++ b.0, record { front = a.0; back = b.0; whole = refl; first = a.1; second = b.1 })

number : (size n : ℕ) → n < 256 ^ size → HasSpelling (IsNumber size n)
number size n fits = (big_endian size n, record { fits = fits; spelled = refl })

allowed : (size : ℕ) (allows : ℕ → Bool) (n : ℕ) → n < 256 ^ size → IsTrue (allows n) → HasSpelling (IsAllowed size allows n)
allowed size allows n fits is = (big_endian size n, record { spelled = record { fits = fits; spelled = refl }; allowed = is })

empty : HasSpelling IsEmpty
empty = ([], refl)

truth : (b : Bool) → HasSpelling (IsTruth b)
truth true = number 1 1 (omega arith)
truth false = number 1 0 (omega arith)

in-range : (least most n : ℕ) → least ≤ n → n ≤ most → IsTrue (nat_le least n && nat_le n most)
in-range least most n more less = and_from (nat_le least n) (nat_le n most) (le-leb least n more) (le-leb n most less)

site : (n : ℕ) → n < MAX_SITES → HasSpelling (IsSite n)
site n few = allowed 1 is_site n (omega (arith, few)) (lt-ltb n MAX_SITES few)

item : (least n : ℕ) → least ≤ n → n < MAX_ITEMS → HasSpelling (IsAllowed 4 (is_item_from least) n)
item least n more less =
    allowed 4 (is_item_from least) n (omega (arith, less)) (and_from (nat_le least n) (nat_lt n MAX_ITEMS) (le-leb least n more) (lt-ltb n MAX_ITEMS less))

txn-spelled : (txn : TxnId) → IsTxnInRange txn → HasSpelling (SpellsTxn txn)
txn-spelled txn is = joined (site txn.site.0 is.site) (joined (number 4 txn.epoch (omega (arith, is.epoch))) (number 4 txn.number (omega (arith, is.number))))

grant-spelled : (grant : GrantId) → IsGrantInRange grant → HasSpelling (SpellsGrant grant)
grant-spelled grant is = joined (number 4 grant.epoch (omega (arith, is.epoch))) (number 4 grant.number (omega (arith, is.number)))

module _ {X : Type 0} (Spells : X → List ℕ → Type 0) (item_of : X → ℕ) (P : X → Type 0) (some : (x : X) → P x → HasSpelling (Spells x)) where
  entries-from : (least : ℕ) (xs : List X) → AllPairs (λ i later. i < later) (map item_of xs) → All (λ i. i < MAX_ITEMS) (map item_of xs)
      → All (λ i. least ≤ i) (map item_of xs) → All P xs → HasSpelling (SpellsEntriesFrom Spells item_of least xs)
  entries-from least [] up below from all = empty
  entries-from least (x ∷ xs) up below from all =
      joined (item least (item_of x) (All-head (λ i. least ≤ i) (item_of x) (map item_of xs) from) (All-head (λ i. i < MAX_ITEMS) (item_of x) (map item_of xs) below))
      (joined (some x (All-head P x xs all))
      (entries-from (item_of x + 1) xs
      (λ i j d before inside. up (suc i) (suc j) d (omega (arith, before)) (omega (arith, inside)))
      (All-tail (λ i. i < MAX_ITEMS) (item_of x) (map item_of xs) below)
      (λ k d inside. let less = up zero (suc k) d (omega arith) (omega (arith, inside)) in omega (arith, less))
      (All-tail P x xs all)))

  entries-spelled : (fewest : ℕ) (xs : List X) → fewest ≤ length xs → length xs ≤ MAX_PROGRAM_ITEMS → AllPairs (λ i later. i < later) (map item_of xs)
      → All (λ i. i < MAX_ITEMS) (map item_of xs) → All P xs → HasSpelling (SpellsEntries Spells item_of fewest xs)
  entries-spelled fewest xs enough few up below all =
      joined (allowed 1 (is_count_from fewest) (length xs) (omega (arith, few)) (in-range fewest MAX_PROGRAM_ITEMS (length xs) enough few))
      (entries-from 0 xs up below (λ k d inside. omega arith) all)

signed : (z : ℤ) → FitsSigned w64 z → HasSpelling (IsSigned z)
signed z fits = (big_endian 8 (twos_complement z), record { fits = fits; spelled = refl })

fewer : {X : Type 0} (item_of : X → ℕ) (xs : List X) → length (map item_of xs) ≤ MAX_PROGRAM_ITEMS → length xs ≤ MAX_PROGRAM_ITEMS
fewer item_of xs few = omega (arith, few, length-map xs item_of)

-- Cases one behind the other, and cases under one more literal.

all-front : {X : Type 0} (P : X → Type 0) (xs ys : List X) → All P (xs ++ ys) → All P xs
all-front P [] ys all = All-nil P
all-front P (x ∷ xs) ys all = All-cons P x xs (All-head P x (xs ++ ys) all) (all-front P xs ys (All-tail P x (xs ++ ys) all))

all-back : {X : Type 0} (P : X → Type 0) (xs ys : List X) → All P (xs ++ ys) → All P ys
all-back P [] ys all = all
all-back P (x ∷ xs) ys all = all-back P xs ys (All-tail P x (xs ++ ys) all)

all-under : (txn : TxnId) (outcome : Bool) (cases : List (Case ℤ)) → All IsCaseInRange (under txn outcome cases) → All IsCaseInRange cases
all-under txn outcome [] all = All-nil IsCaseInRange
all-under txn outcome (case ∷ cases) all =
    let first = All-head IsCaseInRange (behind txn outcome case) (under txn outcome cases) all in
    All-cons IsCaseInRange case cases
    (record {
      literals = All-tail (λ (literal : Literal). IsTxnInRange literal.txn) (record { txn = txn; commits = outcome }) case.when first.literals;
      value = first.value;
    })
    (all-under txn outcome cases (All-tail IsCaseInRange (behind txn outcome case) (under txn outcome cases) all))

under-all : (txn : TxnId) (outcome : Bool) (cases : List (Case ℤ)) → IsTxnInRange txn → All IsCaseInRange cases → All IsCaseInRange (under txn outcome cases)
under-all txn outcome cases is all =
    All-map IsCaseInRange (behind txn outcome) cases (λ k d inside.
    let case = all k d inside in
    record { literals = All-cons (λ (literal : Literal). IsTxnInRange literal.txn) (record { txn = txn; commits = outcome }) _ is case.literals; value = case.value })

-- The transaction of a test whose cases are in range is.
test-txn : (txn : TxnId) (aborted committed : Tree) → All IsCaseInRange (cases_of (test txn aborted committed)) → IsTxnInRange txn
test-txn txn aborted committed all =
    let first = first-case aborted in
    let case = All-head IsCaseInRange (behind txn false first.0) (under txn false first.1)
    (subst (λ (cs : List (Case ℤ)). All IsCaseInRange (under txn false cs)) first.2
    (all-front IsCaseInRange (under txn false (cases_of aborted)) (under txn true (cases_of committed)) all)) in
    All-head (λ (literal : Literal). IsTxnInRange literal.txn) (record { txn = txn; commits = false }) first.0.when case.literals

node-spelled : (tests : ℕ) (tree : Tree) → HasFewTests tests tree → All IsCaseInRange (cases_of tree) → HasSpelling (SpellsNode tests tree)
node-spelled tests (leaf value) few all =
    let case = All-head IsCaseInRange (record { when = []; value = value }) [] all in joined (number 1 0 (omega arith)) (signed value case.value)
node-spelled zero (test txn aborted committed) few all = absurd few
node-spelled (suc tests) (test txn aborted committed) few all =
    joined (number 1 1 (omega arith)) (joined (txn-spelled txn (test-txn txn aborted committed all))
    (joined
    (node-spelled tests aborted few.0
    (all-under txn false (cases_of aborted) (all-front IsCaseInRange (under txn false (cases_of aborted)) (under txn true (cases_of committed)) all)))
    (node-spelled tests committed few.1
    (all-under txn true (cases_of committed) (all-back IsCaseInRange (under txn false (cases_of aborted)) (under txn true (cases_of committed)) all)))))

pub polyvalue-spelled : (cases : List (Case ℤ)) → IsPolyvalueInRange cases → HasSpelling (SpellsPolyvalue cases)
polyvalue-spelled cases is =
    let few = polyvalue-few HELD_NAMES cases is.polyvalue in
    let found = polyvalue-tree HELD_NAMES cases is.polyvalue in
    let spelled = joined (number 2 (length cases) (omega (arith, few.count)))
    (node-spelled HELD_NAMES found.tree found.few (subst (λ (cs : List (Case ℤ)). All IsCaseInRange cs) (sym found.is) is.each)) in
    (spelled.0, record { tree = found.tree; is = found.is; polyvalue = is.polyvalue; spelled = spelled.1 })

reads-spelled : (fewest : ℕ) (reads : List Read) → AreReadsInRange fewest reads → HasSpelling (SpellsReads fewest reads)
reads-spelled fewest reads is =
    entries-spelled (λ (read : Read). SpellsPolyvalue read.cases) (λ read. read.item) (λ read. IsPolyvalueInRange read.cases) (λ read. polyvalue-spelled read.cases)
    fewest reads is.enough (fewer (λ (read : Read). read.item) reads is.items.few) is.items.ascending is.items.each is.values

wants-spelled : (wants : List Want) → AreWantsInRange wants → HasSpelling (SpellsWants 1 wants)
wants-spelled wants is =
    entries-spelled (λ (want : Want). IsTruth want.exclusive) (λ want. want.item) (λ want. Unit {0}) (λ want is. truth want.exclusive)
    1 wants is.enough (fewer (λ (want : Want). want.item) wants is.items.few) is.items.ascending is.items.each (λ k d inside. tt)

kind-of-writes : (sure : Bool) → HasSpelling (IsNumber 1 (if sure then 2 else 4))
kind-of-writes true = number 1 2 (omega arith)
kind-of-writes false = number 1 4 (omega arith)

pub record-spelled : (record_ : Record) → IsRecordInRange record_ → HasSpelling (SpellsRecord record_)
record-spelled (epoch_begun epoch) is = joined (number 1 1 (omega arith)) (allowed 4 (nat_le 1) epoch (omega (arith, is.1)) (le-leb 1 epoch is.0))
record-spelled (prepared txn writes) is = joined (kind-of-writes (are_sure writes)) (joined (txn-spelled txn is.0) (reads-spelled 0 writes is.1))
record-spelled (outcome_known txn commits) is = joined (number 1 3 (omega arith)) (joined (txn-spelled txn is) (truth commits))

cause-spelled : (cause : NoCause) → IsCauseInRange cause → HasSpelling (SpellsNoCause cause)
cause-spelled grant_lost is = number 1 1 (omega arith)
cause-spelled (journal_full size) is = joined (number 1 2 (omega arith)) (number 8 size (omega (arith, is)))

body-spelled : (message : Message) → IsBodyInRange message → HasSpelling (SpellsBody message)
body-spelled (lock txn wants) is = wants-spelled wants is
body-spelled (granted txn grant values) is = joined (grant-spelled grant is.0) (reads-spelled 1 values is.1)
body-spelled (denied txn item_ holder) is = joined (item 0 item_ (omega arith) is.0) (txn-spelled holder is.1)
body-spelled (prepare txn grant writes) is = joined (grant-spelled grant is.0) (reads-spelled 0 writes is.1)
body-spelled (vote_yes txn) is = empty
body-spelled (vote_no txn cause) is = cause-spelled cause is
body-spelled (outcome_reported txn commits) is = truth commits
body-spelled (ask txn) is = empty

kind : (message : Message) → HasSpelling (IsNumber 1 (kind_number message))
kind message = number 1 (kind_number message) (let few = small (kind_number message) (is-kind message) in omega (arith, few))

pub envelope-spelled : (envelope : Envelope) → IsEnvelopeInRange envelope → HasSpelling (SpellsEnvelope envelope)
envelope-spelled envelope is =
    joined (kind envelope.message) (joined (site envelope.from is.from) (joined (site envelope.to is.to)
    (joined (txn-spelled (txn_of envelope.message) is.txn) (body-spelled envelope.message is.body))))

-- What is spelled is in range.

site-from : (n : ℕ) (bytes : List ℕ) → IsSite n bytes → n < MAX_SITES
site-from n bytes s = ltb-true n MAX_SITES s.allowed

txn-from : (txn : TxnId) (bytes : List ℕ) → SpellsTxn txn bytes → IsTxnInRange txn
txn-from txn bytes s = record {
  site = site-from txn.site.0 s.front s.first;
  epoch = omega (arith, s.second.first.fits);
  number = omega (arith, s.second.second.fits);
}

grant-from : (grant : GrantId) (bytes : List ℕ) → SpellsGrant grant bytes → IsGrantInRange grant
grant-from grant bytes s = record { epoch = omega (arith, s.first.fits); number = omega (arith, s.second.fits) }

item-from : (least n : ℕ) (bytes : List ℕ) → IsAllowed 4 (is_item_from least) n bytes → (least ≤ n) × (n < MAX_ITEMS)
item-from least n bytes s =
    let parts = and_parts (nat_le least n) (nat_lt n MAX_ITEMS) s.allowed in
    (leb-true least n parts.0, ltb-true n MAX_ITEMS parts.1)

module _ {X : Type 0} (Spells : X → List ℕ → Type 0) (item_of : X → ℕ) (P : X → Type 0) (of : (x : X) (bytes : List ℕ) → Spells x bytes → P x) where
  record Entries (least : ℕ) (xs : List X) : Type 0 where
    ascending : AllPairs (λ i later. i < later) (map item_of xs)
    below : All (λ i. i < MAX_ITEMS) (map item_of xs)
    above : All (λ i. least ≤ i) (map item_of xs)
    each : All P xs

  entries-in : (least : ℕ) (xs : List X) (bytes : List ℕ) → SpellsEntriesFrom Spells item_of least xs bytes → Entries least xs
  entries-in least [] bytes s = record {
    ascending = λ i j d before inside. absurd (omega (arith, inside));
    below = All-nil (λ i. i < MAX_ITEMS);
    above = All-nil (λ i. least ≤ i);
    each = All-nil P;
  }
  entries-in least (x ∷ xs) bytes s =
      let rest = entries-in (item_of x + 1) xs s.second.back s.second.second in
      let here = item-from least (item_of x) s.front s.first in
      record {
        ascending = AllPairs-cons (λ i later. i < later) (item_of x) (map item_of xs)
            (λ k d inside. let more = rest.above k d inside in omega (arith, more)) rest.ascending;
        below = All-cons (λ i. i < MAX_ITEMS) (item_of x) (map item_of xs) here.1 rest.below;
        above = All-cons (λ i. least ≤ i) (item_of x) (map item_of xs) here.0
            (λ k d inside. let more = rest.above k d inside in omega (arith, more, here.0));
        each = All-cons P x xs (of x s.second.front s.second.first) rest.each;
      }

  items-in : (fewest : ℕ) (xs : List X) (bytes : List ℕ) → SpellsEntries Spells item_of fewest xs bytes
      → (fewest ≤ length xs) × AreItemsInRange (map item_of xs) × All P xs
  items-in fewest xs bytes s =
      let counts = within fewest MAX_PROGRAM_ITEMS (length xs) s.first.allowed in
      let are = entries-in 0 xs s.back s.second in
      (counts.0, record { ascending = are.ascending; each = are.below; few = omega (arith, counts.1, length-map xs item_of) }, are.each)

node-from : (tests : ℕ) (tree : Tree) (bytes : List ℕ) → SpellsNode tests tree bytes → All IsCaseInRange (cases_of tree)
node-from tests (leaf value) bytes s =
    All-cons IsCaseInRange (record { when = []; value = value }) []
    (record { literals = All-nil (λ (literal : Literal). IsTxnInRange literal.txn); value = s.second.fits }) (All-nil IsCaseInRange)
node-from zero (test txn aborted committed) bytes s = absurd s
node-from (suc tests) (test txn aborted committed) bytes s =
    let is = txn-from txn s.second.front s.second.first in
    let sides = s.second.second in
    All-append IsCaseInRange (under txn false (cases_of aborted)) (under txn true (cases_of committed))
    (under-all txn false (cases_of aborted) is (node-from tests aborted sides.front sides.first))
    (under-all txn true (cases_of committed) is (node-from tests committed sides.back sides.second))

pub polyvalue-from : (cases : List (Case ℤ)) (bytes : List ℕ) → SpellsPolyvalue cases bytes → IsPolyvalueInRange cases
polyvalue-from cases bytes s = record {
  polyvalue = s.polyvalue;
  each = subst (λ (cs : List (Case ℤ)). All IsCaseInRange cs) s.is (node-from HELD_NAMES s.tree s.spelled.back s.spelled.second);
}

reads-by-from : (Spells : List (Case ℤ) → List ℕ → Type 0) → ((cases : List (Case ℤ)) (bytes : List ℕ) → Spells cases bytes → IsPolyvalueInRange cases)
    → (fewest : ℕ) (reads : List Read) (bytes : List ℕ) → SpellsReadsBy Spells fewest reads bytes → AreReadsInRange fewest reads
reads-by-from Spells from fewest reads bytes s =
    let parts = items-in (λ (read : Read). Spells read.cases) (λ read. read.item) (λ read. IsPolyvalueInRange read.cases) (λ read. from read.cases) fewest reads bytes s in
    record { enough = parts.0; items = parts.1; values = parts.2 }

reads-from : (fewest : ℕ) (reads : List Read) (bytes : List ℕ) → SpellsReads fewest reads bytes → AreReadsInRange fewest reads
reads-from = reads-by-from SpellsPolyvalue polyvalue-from

wants-from : (wants : List Want) (bytes : List ℕ) → SpellsWants 1 wants bytes → AreWantsInRange wants
wants-from wants bytes s =
    let parts = items-in (λ (want : Want). IsTruth want.exclusive) (λ want. want.item) (λ want. Unit {0}) (λ want b t. tt) 1 wants bytes s in
    record { enough = parts.0; items = parts.1 }

pub record-from : (record_ : Record) (bytes : List ℕ) → SpellsRecord record_ bytes → IsRecordInRange record_
record-from (epoch_begun epoch) bytes s = (leb-true 1 epoch s.second.allowed, omega (arith, s.second.spelled.fits))
record-from (prepared txn writes) bytes s =
    (txn-from txn s.second.front s.second.first, reads-from 0 writes s.second.back s.second.second)
record-from (outcome_known txn commits) bytes s = txn-from txn s.second.front s.second.first

-- What is spelled in cases is in range too.

literals-from : (literals : List Literal) (bytes : List ℕ) → SpellsEach SpellsLiteral literals bytes → All (λ literal. IsTxnInRange literal.txn) literals
literals-from [] bytes s = All-nil (λ (literal : Literal). IsTxnInRange literal.txn)
literals-from (literal ∷ literals) bytes s =
    All-cons (λ (l : Literal). IsTxnInRange l.txn) literal literals (txn-from literal.txn s.first.back s.first.second) (literals-from literals s.back s.second)

each-from : (cases : List (Case ℤ)) (bytes : List ℕ) → SpellsEach SpellsCase cases bytes → All IsCaseInRange cases
each-from [] bytes s = All-nil IsCaseInRange
each-from (case ∷ cases) bytes s =
    All-cons IsCaseInRange case cases
    (record { literals = literals-from case.when s.first.second.front s.first.second.first; value = s.first.second.second.fits })
    (each-from cases s.back s.second)

cases-from : (cases : List (Case ℤ)) (bytes : List ℕ) → SpellsInCases cases bytes → IsPolyvalueInRange cases
cases-from cases bytes s = record { polyvalue = s.polyvalue; each = each-from cases s.spelled.back s.spelled.second }

old-from : (txn : TxnId) (writes : List Read) (bytes : List ℕ) → SpellsContentBy SpellsInCases (prepared txn writes) bytes → IsRecordInRange (prepared txn writes)
old-from txn writes bytes s = (txn-from txn s.front s.first, reads-by-from SpellsInCases cases-from 0 writes s.back s.second)

-- What is read as a record is in range.
pub read-from : (entry : Record) (bytes : List ℕ) → IsReadAs entry bytes → IsRecordInRange entry
read-from entry bytes s =
    ⊎_elim
    (λ (written : SpellsRecord entry bytes). record-from entry bytes written)
    (λ (old : SpellsOldRecord entry bytes).
    subst IsRecordInRange (sym old.is)
    (old-from old.txn old.writes old.spelled.back (subst (λ (e : Record). SpellsContentBy SpellsInCases e old.spelled.back) old.is old.spelled.second)))
    s

cause-from : (cause : NoCause) (bytes : List ℕ) → SpellsNoCause cause bytes → IsCauseInRange cause
cause-from grant_lost bytes s = tt
cause-from (journal_full size) bytes s = omega (arith, s.second.fits)

body-from : (message : Message) (bytes : List ℕ) → SpellsBody message bytes → IsBodyInRange message
body-from (lock txn wants) bytes s = wants-from wants bytes s
body-from (granted txn grant values) bytes s = (grant-from grant s.front s.first, reads-from 1 values s.back s.second)
body-from (denied txn item_ holder) bytes s = let parts = item-from 0 item_ s.front s.first in (parts.1, txn-from holder s.back s.second)
body-from (prepare txn grant writes) bytes s = (grant-from grant s.front s.first, reads-from 0 writes s.back s.second)
body-from (vote_yes txn) bytes s = tt
body-from (vote_no txn cause) bytes s = cause-from cause bytes s
body-from (outcome_reported txn commits) bytes s = tt
body-from (ask txn) bytes s = tt

pub envelope-from : (envelope : Envelope) (bytes : List ℕ) → SpellsEnvelope envelope bytes → IsEnvelopeInRange envelope
envelope-from envelope bytes s = record {
  from = site-from envelope.from s.second.front s.second.first;
  to = site-from envelope.to s.second.second.front s.second.second.first;
  txn = txn-from (txn_of envelope.message) s.second.second.second.front s.second.second.second.first;
  body = body-from envelope.message s.second.second.second.back s.second.second.second.second;
}

-- Kinds of messages with what they have besides are a code. Messages are those of its values that fit their kind.
use Rattle.std.proofs.Common.{◌≡◌, ◌⊎◌, ⊎_elim, ℕ, zero, suc, ◌+◌, ◌<◌, Bool, true, false, List, [], ◌∷◌, ◌++◌, inl, inr, refl, sym, ap, subst, ◌∙◌, arith}
use Rattle.std.specs.Prelude.{◌==◌, ◌&&◌, nat_le, IsTrue, IsFalse, if◌then◌else◌, ⊤}
use Rattle.std.proofs.lemmas.Bool.{true≢false, cases_Bool, or_cases, eqb-true}
use Rattle.std.proofs.lemmas.List.{append-nil}
use Rattle.pv_base.specs.BigEndian.{IsNumber}
use Rattle.pv_base.specs.declared.grant.GrantId.{GrantId}
use Rattle.pv_base.specs.declared.txn.TxnId.{TxnId}
use Rattle.pv_base.specs.Want.{Want}
use Rattle.pv_model.specs.Alternatives.{Read}
use Rattle.pv_format.specs.FirstFault.{PolyvalueFault, is_kind, is_unsure_kind}
use Rattle.pv_format.specs.Form.{Form, in_tree, in_sure_tree, SpellsIn}
use Rattle.pv_format.specs.Layout.{Layout, number_then, polyvalue_then, any, site_layout, txn_layout, grant_layout, counted_layout, truth_layout, cause_layout, body_layout, is_cause}
use Rattle.pv_format.specs.Message.{Envelope, Message, lock, granted, denied, prepare, vote_yes, vote_no, outcome_reported, ask, NoCause, grant_lost, journal_full, txn_of}
use Rattle.pv_format.specs.MessageSpelling.{kind_number, SpellsWants, SpellsNoCause, SpellsBody, SpellsAfterKind, SpellsEnvelope}
use Rattle.pv_format.specs.PolyvalueSpelling.{SpellsPolyvalue, SpellsSure}
use Rattle.pv_format.specs.RecordSpelling.{SpellsReadsBy, are_sure}
use Rattle.pv_format.specs.Spelling.{◌followed_by◌, IsAllowed, IsSite, IsTruth, SpellsTxn, SpellsGrant, is_site, is_item_from}
use Rattle.pv_format.specs.Tree.{is_sure}
use Rattle.pv_law_format.proofs.Bytes.{within, byte-number}
use Rattle.pv_law_format.proofs.Codes.{IsCode, IsReadOnce, IsSpelledOnce, both-code, code-of, empty-code, with-first, with-second}
use Rattle.pv_law_format.proofs.ListCodes.{numbered-code}
use Rattle.pv_law_format.proofs.NumberCodes.{allowed-code, number-code, truth-code}
use Rattle.pv_law_format.proofs.PartCodes.{txn-code, grant-code, wants-code, reads-code}
use Rattle.pv_law_format.proofs.PolyvalueCode.{polyvalue-code}
use Rattle.pv_law_format.proofs.SureLemmas.{reads-other, reads-hold}

abbrev IsFormat : {X : Type 0} → (X → List ℕ → Type 0) → (Layout → Layout) → Type 0
IsFormat Spells layout = IsCode SpellsIn PolyvalueFault Spells layout

txns : IsFormat SpellsTxn txn_layout
txns = txn-code SpellsIn PolyvalueFault

truths : IsFormat IsTruth truth_layout
truths = truth-code SpellsIn PolyvalueFault

sites : IsFormat IsSite site_layout
sites = allowed-code SpellsIn PolyvalueFault 1 is_site

both : {X Y : Type 0} {First : X → List ℕ → Type 0} {Second : Y → List ℕ → Type 0} {layout back_layout : Layout → Layout} → IsFormat First layout
    → IsFormat Second back_layout → IsFormat (λ (p : X × Y). First p.0 followed_by Second p.1) (λ next. layout (back_layout next))
both first second = both-code SpellsIn PolyvalueFault first second

-- why a participant votes no

abbrev Detail : ℕ → Type 0
Detail zero = Unit {0}
Detail (suc zero) = Unit {0}
Detail (suc (suc n)) = ℕ

abbrev SpellsDetail : (n : ℕ) → Detail n → List ℕ → Type 0
SpellsDetail zero detail bytes = bytes ≡ []
SpellsDetail (suc zero) detail bytes = bytes ≡ []
SpellsDetail (suc (suc n)) detail bytes = IsNumber 8 detail bytes

detail-code : (n : ℕ) → IsTrue (is_cause n) → IsFormat (SpellsDetail n) (λ next. if n == 1 then next else number_then 8 any (λ _. next))
detail-code zero allowed = absurd (true≢false (sym allowed))
detail-code (suc zero) allowed = empty-code SpellsIn PolyvalueFault
detail-code (suc (suc zero)) allowed = number-code SpellsIn PolyvalueFault 8
detail-code (suc (suc (suc n))) allowed = let parts = within 1 2 (suc (suc (suc n))) allowed in absurd (omega (arith, parts.1))

abbrev mark_of : NoCause → ℕ
mark_of grant_lost = 1
mark_of (journal_full size) = 2

abbrev detail_of : (cause : NoCause) → Detail (mark_of cause)
detail_of grant_lost = tt
detail_of (journal_full size) = size

abbrev cause_from : (n : ℕ) → Detail n → NoCause
cause_from zero detail = grant_lost
cause_from (suc zero) detail = grant_lost
cause_from (suc (suc n)) detail = journal_full detail

cause-back : (cause : NoCause) → cause_from (mark_of cause) (detail_of cause) ≡ cause
cause-back grant_lost = refl
cause-back (journal_full size) = refl

cause-so : (cause : NoCause) (front : List ℕ) → SpellsNoCause cause front → (IsAllowed 1 is_cause (mark_of cause) followed_by SpellsDetail (mark_of cause) (detail_of cause)) front
cause-so grant_lost front s = record { front = front; back = []; whole = sym (append-nil front); first = record { spelled = s; allowed = refl }; second = refl }
cause-so (journal_full size) front s = with-first (λ f t. record { spelled = t; allowed = refl }) s

cause-too : (n : ℕ) (detail : Detail n) (front : List ℕ) → (IsAllowed 1 is_cause n followed_by SpellsDetail n detail) front → SpellsNoCause (cause_from n detail) front
cause-too zero detail front s = absurd (true≢false (sym s.first.allowed))
cause-too (suc zero) detail front s =
    subst (λ (f : List ℕ). IsNumber 1 1 f) (sym (append-nil s.front) ∙ ap (λ (b : List ℕ). s.front ++ b) (sym s.second) ∙ sym s.whole) s.first.spelled
cause-too (suc (suc zero)) detail front s = with-first (λ f t. t.spelled) s
cause-too (suc (suc (suc n))) detail front s = let parts = within 1 2 (suc (suc (suc n))) s.first.allowed in absurd (omega (arith, parts.1))

causes : IsFormat SpellsNoCause cause_layout
causes =
    code-of SpellsIn PolyvalueFault
    (numbered-code SpellsIn PolyvalueFault 1 is_cause {Y = Detail} SpellsDetail (λ n next. if n == 1 then next else number_then 8 any (λ _. next)) detail-code)
    SpellsNoCause (λ cause. (mark_of cause, detail_of cause)) (λ p. cause_from p.0 p.1) cause-back cause-so (λ p front s. cause-too p.0 p.1 front s)

-- What holds of each number that stands for a kind holds of all.
module _ (P : ℕ → Type 0) (one : P 1) (two : P 2) (three : P 3) (four : P 4) (five : P 5) (six : P 6) (seven : P 7) (eight : P 8) (eighteen : P 18) (twenty : P 20) where
  small-kind : (n : ℕ) → IsTrue (nat_le 1 n && nat_le n 8) → P n
  small-kind zero is = absurd (true≢false (sym is))
  small-kind (suc zero) is = one
  small-kind (suc (suc zero)) is = two
  small-kind (suc (suc (suc zero))) is = three
  small-kind (suc (suc (suc (suc zero)))) is = four
  small-kind (suc (suc (suc (suc (suc zero))))) is = five
  small-kind (suc (suc (suc (suc (suc (suc zero)))))) is = six
  small-kind (suc (suc (suc (suc (suc (suc (suc zero))))))) is = seven
  small-kind (suc (suc (suc (suc (suc (suc (suc (suc zero)))))))) is = eight
  small-kind (suc (suc (suc (suc (suc (suc (suc (suc (suc n))))))))) is =
      let parts = within 1 8 (suc (suc (suc (suc (suc (suc (suc (suc (suc n))))))))) is in absurd (omega (arith, parts.1))

  by-kind : (n : ℕ) → IsTrue (is_kind n) → P n
  by-kind n is =
      ⊎_elim
      (λ small. small-kind n small)
      (λ unsure. ⊎_elim
      (λ same. subst P (sym (eqb-true n 18 same)) eighteen)
      (λ same. subst P (sym (eqb-true n 20 same)) twenty)
      (or_cases (n == 18) (n == 20) unsure))
      (or_cases (nat_le 1 n && nat_le n 8) (is_unsure_kind n) is)

pub small : (n : ℕ) → IsTrue (is_kind n) → n < 256
small =
    by-kind (λ n. n < 256) (omega arith) (omega arith) (omega arith) (omega arith) (omega arith) (omega arith) (omega arith) (omega arith) (omega arith) (omega arith)

-- The sorts of messages. Those with values have them all sure, or not.
pub data Sort : Type 0 where
  locking : Sort
  granting : (sure : Bool) → Sort
  denying : Sort
  preparing : (sure : Bool) → Sort
  agreeing : Sort
  refusing : Sort
  reporting : Sort
  asking : Sort

abbrev pub sort_of : ℕ → Sort
sort_of n =
    if n == 1 then locking else
    (if n == 2 then granting true else
    (if n == 18 then granting false else
    (if n == 3 then denying else
    (if n == 4 then preparing true else
    (if n == 20 then preparing false else
    (if n == 5 then agreeing else
    (if n == 6 then refusing else
    (if n == 7 then reporting else asking))))))))

-- what a message of each sort has after its transaction
abbrev pub Body : Sort → Type 0
Body locking = List Want
Body (granting sure) = GrantId × List Read
Body denying = ℕ × TxnId
Body (preparing sure) = GrantId × List Read
Body agreeing = Unit {0}
Body refusing = NoCause
Body reporting = Bool
Body asking = Unit {0}

abbrev pub message_at : (sort : Sort) → TxnId → Body sort → Message
message_at locking txn body = lock txn body
message_at (granting sure) txn body = granted txn body.0 body.1
message_at denying txn body = denied txn body.0 body.1
message_at (preparing sure) txn body = prepare txn body.0 body.1
message_at agreeing txn body = vote_yes txn
message_at refusing txn body = vote_no txn body
message_at reporting txn body = outcome_reported txn body
message_at asking txn body = ask txn

abbrev pub SpellsAs : (sort : Sort) → Body sort → List ℕ → Type 0
SpellsAs locking body bytes = SpellsWants 1 body bytes
SpellsAs (granting true) body bytes = (SpellsGrant body.0 followed_by SpellsReadsBy SpellsSure 1 body.1) bytes
SpellsAs (granting false) body bytes = (SpellsGrant body.0 followed_by SpellsReadsBy SpellsPolyvalue 1 body.1) bytes
SpellsAs denying body bytes = (IsAllowed 4 (is_item_from 0) body.0 followed_by SpellsTxn body.1) bytes
SpellsAs (preparing true) body bytes = (SpellsGrant body.0 followed_by SpellsReadsBy SpellsSure 0 body.1) bytes
SpellsAs (preparing false) body bytes = (SpellsGrant body.0 followed_by SpellsReadsBy SpellsPolyvalue 0 body.1) bytes
SpellsAs agreeing body bytes = bytes ≡ []
SpellsAs refusing body bytes = SpellsNoCause body bytes
SpellsAs reporting body bytes = IsTruth body bytes
SpellsAs asking body bytes = bytes ≡ []

reads : (form : Form) (fewest : ℕ) → IsFormat (λ (p : GrantId × List Read). SpellsGrant p.0 followed_by SpellsReadsBy (SpellsIn form) fewest p.1)
    (λ next. grant_layout (counted_layout fewest (polyvalue_then form) next))
reads form fewest = both (grant-code SpellsIn PolyvalueFault) (reads-code SpellsIn PolyvalueFault (polyvalue-code form) fewest)

body-code : (n : ℕ) → IsTrue (is_kind n) → IsFormat {X = Body (sort_of n)} (SpellsAs (sort_of n)) (body_layout n)
body-code =
    by-kind (λ n. IsFormat {X = Body (sort_of n)} (SpellsAs (sort_of n)) (body_layout n))
    (wants-code SpellsIn PolyvalueFault 1)
    (reads in_sure_tree 1)
    (both (allowed-code SpellsIn PolyvalueFault 4 (is_item_from 0)) txns)
    (reads in_sure_tree 0)
    (empty-code SpellsIn PolyvalueFault)
    causes
    truths
    (empty-code SpellsIn PolyvalueFault)
    (reads in_tree 1)
    (reads in_tree 0)

-- what comes after the kind
abbrev pub Rest : ℕ → Type 0
Rest n = ℕ × (ℕ × (TxnId × Body (sort_of n)))

abbrev pub SpellsRest : (n : ℕ) → Rest n → List ℕ → Type 0
SpellsRest n rest = IsSite rest.0 followed_by IsSite rest.1.0 followed_by SpellsTxn rest.1.1.0 followed_by SpellsAs (sort_of n) rest.1.1.1

abbrev rest_layout : ℕ → Layout → Layout
rest_layout n next = site_layout (site_layout (txn_layout (body_layout n next)))

rest-code : (n : ℕ) → IsTrue (is_kind n) → IsFormat (SpellsRest n) (rest_layout n)
rest-code n allowed = both sites (both sites (both txns (body-code n allowed)))

-- A kind and what it has.
abbrev pub SpellsKinded : ((n : ℕ) × Rest n) → List ℕ → Type 0
SpellsKinded p = IsAllowed 1 is_kind p.0 followed_by SpellsRest p.0 p.1

pub kinded-code : IsFormat SpellsKinded (λ next. number_then 1 is_kind (λ n. rest_layout n next))
kinded-code = numbered-code SpellsIn PolyvalueFault 1 is_kind {Y = Rest} SpellsRest rest_layout rest-code

-- The message that they are.
abbrev pub envelope_of : ((n : ℕ) × Rest n) → Envelope
envelope_of p = record { from = p.1.0; to = p.1.1.0; message = message_at (sort_of p.0) p.1.1.1.0 p.1.1.1.1 }

-- A kind of values of which one isn't sure has one.
abbrev pub FitsAs : (sort : Sort) → Body sort → Type 0
FitsAs locking body = ⊤
FitsAs (granting true) body = ⊤
FitsAs (granting false) body = IsFalse (are_sure body.1)
FitsAs denying body = ⊤
FitsAs (preparing true) body = ⊤
FitsAs (preparing false) body = IsFalse (are_sure body.1)
FitsAs agreeing body = ⊤
FitsAs refusing body = ⊤
FitsAs reporting body = ⊤
FitsAs asking body = ⊤

abbrev pub Fits : ((n : ℕ) × Rest n) → Type 0
Fits p = FitsAs (sort_of p.0) p.1.1.1.1

-- Sure values.

as-sure : (fewest : ℕ) (values : List Read) (bytes : List ℕ) → IsTrue (are_sure values) → SpellsReadsBy SpellsPolyvalue fewest values bytes
    → SpellsReadsBy SpellsSure fewest values bytes
as-sure fewest values bytes sure s =
    reads-other SpellsPolyvalue SpellsSure is_sure (λ cases b is t. record { polyvalue = t; sure = is }) fewest values bytes sure s

known-sure : (fewest : ℕ) (values : List Read) (bytes : List ℕ) → SpellsReadsBy SpellsSure fewest values bytes → IsTrue (are_sure values)
known-sure fewest values bytes s = reads-hold SpellsSure is_sure (λ cases b t. t.sure) fewest values bytes s

from-sure : (fewest : ℕ) (values : List Read) (bytes : List ℕ) → SpellsReadsBy SpellsSure fewest values bytes → SpellsReadsBy SpellsPolyvalue fewest values bytes
from-sure fewest values bytes s =
    reads-other SpellsSure SpellsPolyvalue is_sure (λ cases b is t. t.polyvalue) fewest values bytes (known-sure fewest values bytes s) s

-- A message is written as this kind with this.

abbrev pub granted_as : Bool → GrantId → List Read → (n : ℕ) × Body (sort_of n)
granted_as true grant values = (2, (grant, values))
granted_as false grant values = (18, (grant, values))

abbrev pub prepare_as : Bool → GrantId → List Read → (n : ℕ) × Body (sort_of n)
prepare_as true grant writes = (4, (grant, writes))
prepare_as false grant writes = (20, (grant, writes))

abbrev pub body_as : Message → (n : ℕ) × Body (sort_of n)
body_as (lock txn wants) = (1, wants)
body_as (granted txn grant values) = granted_as (are_sure values) grant values
body_as (denied txn item holder) = (3, (item, holder))
body_as (prepare txn grant writes) = prepare_as (are_sure writes) grant writes
body_as (vote_yes txn) = (5, tt)
body_as (vote_no txn cause) = (6, cause)
body_as (outcome_reported txn commits) = (7, commits)
body_as (ask txn) = (8, tt)

abbrev pub written_as : Envelope → (n : ℕ) × Rest n
written_as envelope = ((body_as envelope.message).0, (envelope.from, (envelope.to, (txn_of envelope.message, (body_as envelope.message).1))))

-- What holds of a message of a kind, as it is written.
record IsWritten (message : Message) (p : (n : ℕ) × Body (sort_of n)) (kind : ℕ) : Type 0 where
  kinds : p.0 ≡ kind
  allowed : IsTrue (is_kind p.0)
  is : message_at (sort_of p.0) (txn_of message) p.1 ≡ message
  fit : FitsAs (sort_of p.0) p.1
  body : (bytes : List ℕ) → SpellsBody message bytes → SpellsAs (sort_of p.0) p.1 bytes

granted-written : (sure : Bool) (txn : TxnId) (grant : GrantId) (values : List Read) → are_sure values ≡ sure
    → IsWritten (granted txn grant values) (granted_as sure grant values) (if sure then 2 else 18)
granted-written true txn grant values same = record {
  kinds = refl;
  allowed = refl;
  is = refl;
  fit = tt;
  body = λ bytes s. with-second (λ b t. as-sure 1 values b same t) s;
}
granted-written false txn grant values same = record { kinds = refl; allowed = refl; is = refl; fit = same; body = λ bytes s. s }

prepare-written : (sure : Bool) (txn : TxnId) (grant : GrantId) (writes : List Read) → are_sure writes ≡ sure
    → IsWritten (prepare txn grant writes) (prepare_as sure grant writes) (if sure then 4 else 20)
prepare-written true txn grant writes same = record {
  kinds = refl;
  allowed = refl;
  is = refl;
  fit = tt;
  body = λ bytes s. with-second (λ b t. as-sure 0 writes b same t) s;
}
prepare-written false txn grant writes same = record { kinds = refl; allowed = refl; is = refl; fit = same; body = λ bytes s. s }

message-written : (message : Message) → IsWritten message (body_as message) (kind_number message)
message-written (lock txn wants) = record { kinds = refl; allowed = refl; is = refl; fit = tt; body = λ bytes s. s }
message-written (granted txn grant values) = granted-written (are_sure values) txn grant values refl
message-written (denied txn item holder) = record { kinds = refl; allowed = refl; is = refl; fit = tt; body = λ bytes s. s }
message-written (prepare txn grant writes) = prepare-written (are_sure writes) txn grant writes refl
message-written (vote_yes txn) = record { kinds = refl; allowed = refl; is = refl; fit = tt; body = λ bytes s. s }
message-written (vote_no txn cause) = record { kinds = refl; allowed = refl; is = refl; fit = tt; body = λ bytes s. s }
message-written (outcome_reported txn commits) = record { kinds = refl; allowed = refl; is = refl; fit = tt; body = λ bytes s. s }
message-written (ask txn) = record { kinds = refl; allowed = refl; is = refl; fit = tt; body = λ bytes s. s }

pub is-kind : (message : Message) → IsTrue (is_kind (kind_number message))
is-kind message = let written = message-written message in subst (λ (n : ℕ). IsTrue (is_kind n)) written.kinds written.allowed

pub written-kinded : (envelope : Envelope) (bytes : List ℕ) → SpellsEnvelope envelope bytes → SpellsKinded (written_as envelope) bytes
written-kinded envelope bytes s =
    let written = message-written envelope.message in
    with-first (λ f t. record { spelled = subst (λ (n : ℕ). IsNumber 1 n f) (sym written.kinds) t; allowed = written.allowed })
    (with-second (λ b. with-second (λ c. with-second (λ d. with-second (λ e t. written.body e t)))) s)

pub written-is : (envelope : Envelope) → envelope_of (written_as envelope) ≡ envelope
written-is envelope =
    let written = message-written envelope.message in
    ap (λ (message : Message). record { from = envelope.from; to = envelope.to; message = message }) written.is

pub written-fits : (envelope : Envelope) → Fits (written_as envelope)
written-fits envelope = let written = message-written envelope.message in written.fit

-- What has a kind and fits is a message.

txn-at : (sort : Sort) (txn : TxnId) (body : Body sort) → txn_of (message_at sort txn body) ≡ txn
txn-at locking txn body = refl
txn-at (granting sure) txn body = refl
txn-at denying txn body = refl
txn-at (preparing sure) txn body = refl
txn-at agreeing txn body = refl
txn-at refusing txn body = refl
txn-at reporting txn body = refl
txn-at asking txn body = refl

body-at : (sort : Sort) (txn : TxnId) (body : Body sort) (bytes : List ℕ) → SpellsAs sort body bytes → SpellsBody (message_at sort txn body) bytes
body-at locking txn body bytes s = s
body-at (granting true) txn body bytes s = with-second (λ b t. from-sure 1 body.1 b t) s
body-at (granting false) txn body bytes s = s
body-at denying txn body bytes s = s
body-at (preparing true) txn body bytes s = with-second (λ b t. from-sure 0 body.1 b t) s
body-at (preparing false) txn body bytes s = s
body-at agreeing txn body bytes s = s
body-at refusing txn body bytes s = s
body-at reporting txn body bytes s = s
body-at asking txn body bytes s = s

-- What stands after the kind is what the message has there.
pub after-kind : (p : (n : ℕ) × Rest n) (bytes : List ℕ) → SpellsRest p.0 p.1 bytes → SpellsAfterKind (envelope_of p) bytes
after-kind p bytes s =
    let txn = txn-at (sort_of p.0) p.1.1.1.0 p.1.1.1.1 in
    with-second (λ c. with-second (λ d t.
    with-first (λ f u. subst (λ (x : TxnId). SpellsTxn x f) (sym txn) u) (with-second (λ e u. body-at (sort_of p.0) p.1.1.1.0 p.1.1.1.1 e u) t))) s

abbrev KindIs : ℕ → Type 0
KindIs n = (txn : TxnId) (body : Body (sort_of n)) (bytes : List ℕ) → FitsAs (sort_of n) body → SpellsAs (sort_of n) body bytes
    → kind_number (message_at (sort_of n) txn body) ≡ n

kind-is : (n : ℕ) → IsTrue (is_kind n) → KindIs n
kind-is =
    by-kind KindIs
    (λ txn body bytes fit s. refl)
    (λ txn body bytes fit s. ap (λ (sure : Bool). if sure then 2 else 18) (known-sure 1 body.1 s.back s.second))
    (λ txn body bytes fit s. refl)
    (λ txn body bytes fit s. ap (λ (sure : Bool). if sure then 4 else 20) (known-sure 0 body.1 s.back s.second))
    (λ txn body bytes fit s. refl)
    (λ txn body bytes fit s. refl)
    (λ txn body bytes fit s. refl)
    (λ txn body bytes fit s. refl)
    (λ txn body bytes fit s. ap (λ (sure : Bool). if sure then 2 else 18) fit)
    (λ txn body bytes fit s. ap (λ (sure : Bool). if sure then 4 else 20) fit)

pub read-kinded : (p : (n : ℕ) × Rest n) (bytes : List ℕ) → Fits p → SpellsKinded p bytes → SpellsEnvelope (envelope_of p) bytes
read-kinded p bytes fit s =
    let last = s.second.second.second in
    let kind = kind-is p.0 s.first.allowed p.1.1.1.0 p.1.1.1.1 last.back fit last.second in
    with-first (λ f t. subst (λ (n : ℕ). IsNumber 1 n f) (sym kind) t.spelled) (with-second (λ b t. after-kind p b t) s)

-- What doesn't fit is of a kind of values of which one isn't sure, and all are sure.
pub record IsOnlySure (p : (n : ℕ) × Rest n) : Type 0 where
  pub unsure : IsTrue (is_unsure_kind p.0)
  pub kind : p.0 ≡ 16 + kind_number (envelope_of p).message

abbrev pub FitsOrNot : ℕ → Type 0
FitsOrNot n = (rest : Rest n) → Fits (n, rest) ⊎ IsOnlySure (n, rest)

pub fits-or-only-sure : (n : ℕ) → IsTrue (is_kind n) → FitsOrNot n
fits-or-only-sure =
    by-kind FitsOrNot (λ rest. inl tt) (λ rest. inl tt) (λ rest. inl tt) (λ rest. inl tt) (λ rest. inl tt) (λ rest. inl tt) (λ rest. inl tt) (λ rest. inl tt)
    (λ rest. ⊎_elim
    (λ sure. inr (record { unsure = refl; kind = sym (ap (λ (b : Bool). 16 + (if b then 2 else 18)) sure) }))
    (λ unsure. inl unsure)
    (cases_Bool (are_sure rest.1.1.1.1)))
    (λ rest. ⊎_elim
    (λ sure. inr (record { unsure = refl; kind = sym (ap (λ (b : Bool). 16 + (if b then 4 else 20)) sure) }))
    (λ unsure. inl unsure)
    (cases_Bool (are_sure rest.1.1.1.1)))

-- Where all but this is as it should be, the bytes have a kind that doesn't fit.
pub record IsUnfit (bytes : List ℕ) : Type 0 where
  pub value : (n : ℕ) × Rest n
  pub spelled : SpellsKinded value bytes
  pub none : Fits value → ⊥

not-unsure : (kind other : ℕ) → IsTrue (is_unsure_kind kind) → kind ≡ other → IsFalse (is_unsure_kind other) → ⊥
not-unsure kind other is same not = true≢false (sym is ∙ ap is_unsure_kind same ∙ not)

unfit-granted : (from to : ℕ) (txn : TxnId) (grant : GrantId) (values : List Read) (rest : List ℕ) → IsTrue (are_sure values)
    → SpellsAfterKind (record { from = from; to = to; message = granted txn grant values }) rest → IsUnfit (18 ∷ rest)
unfit-granted from to txn grant values rest sure s = record {
  value = (18, (from, (to, (txn, (grant, values)))));
  spelled = record { front = 18 ∷ []; back = rest; whole = refl; first = record { spelled = byte-number 18 (omega arith); allowed = refl }; second = s };
  none = λ fit. true≢false (sym sure ∙ fit);
}

unfit-prepare : (from to : ℕ) (txn : TxnId) (grant : GrantId) (writes : List Read) (rest : List ℕ) → IsTrue (are_sure writes)
    → SpellsAfterKind (record { from = from; to = to; message = prepare txn grant writes }) rest → IsUnfit (20 ∷ rest)
unfit-prepare from to txn grant writes rest sure s = record {
  value = (20, (from, (to, (txn, (grant, writes)))));
  spelled = record { front = 20 ∷ []; back = rest; whole = refl; first = record { spelled = byte-number 20 (omega arith); allowed = refl }; second = s };
  none = λ fit. true≢false (sym sure ∙ fit);
}

unfit-message : (from to : ℕ) (message : Message) (kind : ℕ) (rest : List ℕ) → IsTrue (is_unsure_kind kind) → kind ≡ 16 + kind_number message
    → SpellsAfterKind (record { from = from; to = to; message = message }) rest → IsUnfit (kind ∷ rest)
unfit-message from to (lock txn wants) kind rest is same s = absurd (not-unsure kind 17 is same refl)
unfit-message from to (granted txn grant values) kind rest is same s =
    ⊎_elim
    (λ sure.
    subst (λ (k : ℕ). IsUnfit (k ∷ rest)) (sym (same ∙ ap (λ (b : Bool). 16 + (if b then 2 else 18)) sure)) (unfit-granted from to txn grant values rest sure s))
    (λ unsure. absurd (not-unsure kind 34 is (same ∙ ap (λ (b : Bool). 16 + (if b then 2 else 18)) unsure) refl))
    (cases_Bool (are_sure values))
unfit-message from to (denied txn item holder) kind rest is same s = absurd (not-unsure kind 19 is same refl)
unfit-message from to (prepare txn grant writes) kind rest is same s =
    ⊎_elim
    (λ sure.
    subst (λ (k : ℕ). IsUnfit (k ∷ rest)) (sym (same ∙ ap (λ (b : Bool). 16 + (if b then 4 else 20)) sure)) (unfit-prepare from to txn grant writes rest sure s))
    (λ unsure. absurd (not-unsure kind 36 is (same ∙ ap (λ (b : Bool). 16 + (if b then 4 else 20)) unsure) refl))
    (cases_Bool (are_sure writes))
unfit-message from to (vote_yes txn) kind rest is same s = absurd (not-unsure kind 21 is same refl)
unfit-message from to (vote_no txn cause) kind rest is same s = absurd (not-unsure kind 22 is same refl)
unfit-message from to (outcome_reported txn commits) kind rest is same s = absurd (not-unsure kind 23 is same refl)
unfit-message from to (ask txn) kind rest is same s = absurd (not-unsure kind 24 is same refl)

pub only-sure : (envelope : Envelope) (kind : ℕ) (rest bytes : List ℕ) → bytes ≡ kind ∷ rest → IsTrue (is_unsure_kind kind)
    → kind ≡ 16 + kind_number envelope.message → SpellsAfterKind envelope rest → IsUnfit bytes
only-sure envelope kind rest bytes whole is same s =
    subst (λ (b : List ℕ). IsUnfit b) (sym whole) (unfit-message envelope.from envelope.to envelope.message kind rest is same s)

-- A message has one spelling, and bytes that begin with it begin with no other.

pub envelope-once : IsSpelledOnce SpellsEnvelope
envelope-once envelope bytes others s t = kinded-code.once (written_as envelope) bytes others (written-kinded envelope bytes s) (written-kinded envelope others t)

pub envelope-read : IsReadOnce SpellsEnvelope
envelope-read envelope other front begin rest more s t same =
    let parts = kinded-code.read (written_as envelope) (written_as other) front begin rest more (written-kinded envelope front s) (written-kinded other begin t) same in
    (sym (written-is envelope) ∙ ap envelope_of parts.0 ∙ written-is other, parts.1)

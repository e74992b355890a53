-- The serial run: cut in two, where an item stays as it was, what it depends on, and what it replies.
use Rattle.std.proofs.Common.{◌≡◌, ℕ, ◌+◌, ℤ, zero, suc, Bool, true, false, ◌||◌, Some, None, Option, List, [], ◌∷◌, ◌++◌, refl, ap, ◌∙◌, arith}
use Rattle.std.specs.Prelude.{◌==◌, All, if◌then◌else◌, slice_get}
use Rattle.pv_base.specs.declared.txn.TxnId.{TxnId}
use Rattle.pv_base.specs.Assignment.{is_same_txn, commits, AgreeOn}
use Rattle.pv_base.specs.Catalog.{Item, Declared}
use Rattle.pv_base.specs.declared.reply.Reply.{Reply}
use Rattle.pv_base.proofs.AssignmentLemmas.{same-refl}
use Rattle.pv_law_programs.proofs.ProgramLemmas.{items_stay, unassigned_keeps_value}
use Rattle.pv_law_programs.proofs.RowLemmas.{lacks-same}
use Rattle.pv_law_step.proofs.Lists.{all-head, all-tail}
use Rattle.pv_law_values.specs.Unassigned.{AssignNothing}
use Rattle.pv_model.specs.Items.{lacks}
use Rattle.pv_model.specs.Meaning.{Row, value_in, items_of_rows, exec}
use Rattle.pv_model.specs.ProgramLaws.{assigns}
use Rattle.pv_model.specs.Serial.{Ordered, rows_from, declared_rows, rows_after, serial, serial_reply, txns}
use Rattle.pv_protocol.specs.Shown.{declared_or_zero, declared_value}

-- One stretch of an order runs on what the one before it left.
pub serial-append : (rows : List Row) (front rest : List Ordered) (a : List TxnId) → serial rows (front ++ rest) a ≡ serial (serial rows front a) rest a
serial-append rows [] rest a = refl
serial-append rows (entry ∷ front) rest a = serial-append (rows_after a rows entry) front rest a

-- An item that nobody who commits assigns stays as it was.

stays-after : (a : List TxnId) (rows : List Row) (entry : Ordered) (item : ℕ) (b : Bool) → commits a entry.txn ≡ b → (commits a entry.txn ≡ true → assigns entry.program item ≡ false)
    → value_in (if b then (exec entry.program rows).rows else rows) item ≡ value_in rows item
stays-after a rows entry item true committed unassigned = unassigned_keeps_value entry.program rows item (unassigned committed)
stays-after a rows entry item false out unassigned = refl

pub serial-stays : (rows : List Row) (order : List Ordered) (a : List TxnId) (item : ℕ) → AssignNothing item a order → value_in (serial rows order a) item ≡ value_in rows item
serial-stays rows [] a item none = refl
serial-stays rows (entry ∷ order) a item none =
    serial-stays (rows_after a rows entry) order a item (all-tail (λ (e : Ordered). commits a e.txn ≡ true → assigns e.program item ≡ false) entry order none)
    ∙ stays-after a rows entry item (commits a entry.txn) refl (all-head (λ (e : Ordered). commits a e.txn ≡ true → assigns e.program item ≡ false) entry order none)

-- The run depends on the transactions of the order alone.

first-listed : (entry : Ordered) (order : List Ordered) → commits (txns (entry ∷ order)) entry.txn ≡ true
first-listed entry order = ap (λ b. b || commits (txns order) entry.txn) (same-refl entry.txn)

or-behind : (b c : Bool) → c ≡ true → (b || c) ≡ true
or-behind true c is = refl
or-behind false c is = is

agree-behind : (entry : Ordered) (order : List Ordered) (a b : List TxnId) → AgreeOn (commits (txns (entry ∷ order))) a b → AgreeOn (commits (txns order)) a b
agree-behind entry order a b agree = λ t listed. agree t (or-behind (is_same_txn entry.txn t) (commits (txns order) t) listed)

pub serial-alike : (rows : List Row) (order : List Ordered) (a b : List TxnId) → AgreeOn (commits (txns order)) a b → serial rows order a ≡ serial rows order b
serial-alike rows [] a b agree = refl
serial-alike rows (entry ∷ order) a b agree =
    ap (λ b. serial (if b then (exec entry.program rows).rows else rows) order a) (agree entry.txn (first-listed entry order))
    ∙ serial-alike (rows_after b rows entry) order a b (agree-behind entry order a b agree)

-- The run keeps the items of its rows.

items-after : (a : List TxnId) (rows : List Row) (entry : Ordered) (b : Bool) → items_of_rows (if b then (exec entry.program rows).rows else rows) ≡ items_of_rows rows
items-after a rows entry true = items_stay entry.program rows
items-after a rows entry false = refl

pub serial-items : (rows : List Row) (order : List Ordered) (a : List TxnId) → items_of_rows (serial rows order a) ≡ items_of_rows rows
serial-items rows [] a = refl
serial-items rows (entry ∷ order) a = serial-items (rows_after a rows entry) order a ∙ items-after a rows entry (commits a entry.txn)

pub serial-lacks : (rows : List Row) (order : List Ordered) (a : List TxnId) (n : ℕ) → lacks (serial rows order a) n ≡ lacks rows n
serial-lacks rows order a n = lacks-same (serial rows order a) rows n (serial-items rows order a)

-- What a transaction replies.

reply-behind : (a : List TxnId) (rows : List Row) (entry : Ordered) (order : List Ordered) (t : TxnId) → is_same_txn entry.txn t ≡ false
    → serial_reply rows (entry ∷ order) a t ≡ serial_reply (rows_after a rows entry) order a t
reply-behind a rows entry order t other =
    ap (λ b. if b then (if commits a t then Some (exec entry.program rows).reply else None) else serial_reply (rows_after a rows entry) order a t) other

-- A transaction that commits replies on what those before it left.
pub reply-at : (rows : List Row) (front : List Ordered) (entry : Ordered) (rest : List Ordered) (a : List TxnId) → All (λ (e : Ordered). is_same_txn e.txn entry.txn ≡ false) front
    → commits a entry.txn ≡ true → serial_reply rows (front ++ entry ∷ rest) a entry.txn ≡ Some (exec entry.program (serial rows front a)).reply
reply-at rows [] entry rest a others committed =
    let reply : Option Reply = Some (exec entry.program rows).reply in
    let behind = serial_reply (rows_after a rows entry) rest a entry.txn in
    ap (λ b. if b then (if commits a entry.txn then reply else None) else behind) (same-refl entry.txn) ∙ ap (λ b. if b then reply else None) committed
reply-at rows (first ∷ front) entry rest a others committed =
    reply-behind a rows first (front ++ entry ∷ rest) entry.txn (all-head (λ (e : Ordered). is_same_txn e.txn entry.txn ≡ false) first front others)
    ∙ reply-at (rows_after a rows first) front entry rest a (all-tail (λ (e : Ordered). is_same_txn e.txn entry.txn ≡ false) first front others) committed

-- A transaction that commits leaves what its program makes of what those before it left.
pub serial-through : (rows : List Row) (front : List Ordered) (entry : Ordered) (a : List TxnId) → commits a entry.txn ≡ true
    → serial rows (front ++ entry ∷ []) a ≡ (exec entry.program (serial rows front a)).rows
serial-through rows front entry a committed =
    serial-append rows front (entry ∷ []) a
    ∙ ap (λ b. if b then (exec entry.program (serial rows front a)).rows else serial rows front a) committed

-- The declared rows.

before-it : (k n : ℕ) (z : ℤ) (rest : ℤ) → k ≡ n → (if k == n then z else rest) ≡ z
before-it k n z rest same = grind (arith, same)

value-from : (items : List Item) (first n : ℕ) → value_in (rows_from first items) (first + n) ≡ declared_or_zero (slice_get items n)
value-from [] first n = refl
value-from (item ∷ items) first zero = grind arith
value-from (item ∷ items) first (suc n) =
    let later : (first == first + suc n) ≡ false = grind arith in
    let same : first + suc n ≡ first + 1 + n = omega arith in
    ap (λ b. if b then item.value else value_in (rows_from (first + 1) items) (first + suc n)) later
    ∙ ap (value_in (rows_from (first + 1) items)) same
    ∙ value-from items (first + 1) n

-- Before any transaction each item has its declared value.
pub value-declared : (catalog : Declared) (item : ℕ) → value_in (declared_rows catalog) item ≡ declared_value catalog item
value-declared catalog item = ap (value_in (declared_rows catalog)) (let same : item ≡ 0 + item = omega arith in same) ∙ value-from catalog.items 0 item

has-from : (items : List Item) (first n : ℕ) (item : Item) → slice_get items n ≡ Some item → lacks (rows_from first items) (first + n) ≡ false
has-from [] first n item there = absurd (let wrong : ⊥ = cc in wrong)
has-from (item ∷ items) first zero found there = grind arith
has-from (item ∷ items) first (suc n) found there =
    let later : (first == first + suc n) ≡ false = grind arith in
    let same : first + suc n ≡ first + 1 + n = omega arith in
    ap (λ b. if b then false else lacks (rows_from (first + 1) items) (first + suc n)) later
    ∙ ap (lacks (rows_from (first + 1) items)) same
    ∙ has-from items (first + 1) n found there

-- Each declared item has a row.
pub has-declared : (catalog : Declared) (n : ℕ) (item : Item) → slice_get catalog.items n ≡ Some item → lacks (declared_rows catalog) n ≡ false
has-declared catalog n item there = ap (lacks (declared_rows catalog)) (let same : n ≡ 0 + n = omega arith in same) ∙ has-from catalog.items 0 n item there

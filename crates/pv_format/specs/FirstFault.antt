-- Why bytes spell no message, no record or no polyvalue: the first fault in reading order.
use Rattle.std.specs.Prelude.{◌≡◌, ℕ, ◌+◌, ◌<◌, ◌≢◌, ℤ, Bool, nat_le, ◌==◌, ◌&&◌, ◌||◌, List, [], ◌∷◌, ◌++◌, length, IsTrue, IsFalse}
use Rattle.pv_base.specs.BigEndian.{IsNumber}
use Rattle.pv_base.specs.declared.limits.TheConstants.{HELD_NAMES}
use Rattle.pv_base.specs.declared.txn.TxnId.{TxnId}
use Rattle.pv_base.specs.Polyvalue.{Case, IsPolyvalue}
use Rattle.pv_model.specs.Alternatives.{Read}
use Rattle.pv_format.specs.Form.{Form, in_tree, in_sure_tree, in_cases, SpellsIn}
use Rattle.pv_format.specs.Layout.{Layout, anything, nothing_more, number_then, polyvalue_then, cases_layout, tree_layout, message_layout, record_layout}
use Rattle.pv_format.specs.Message.{Envelope}
use Rattle.pv_format.specs.MessageSpelling.{SpellsAfterKind, kind_number}
use Rattle.pv_format.specs.OldSpelling.{SpellsCases}
use Rattle.pv_format.specs.PolyvalueSpelling.{SpellsPolyvalue, SpellsTree, IsFit}
use Rattle.pv_format.specs.Record.{prepared}
use Rattle.pv_format.specs.RecordSpelling.{SpellsContentBy, are_sure}
use Rattle.pv_format.specs.Spelling.{IsAllowed}
use Rattle.pv_format.specs.Tree.{Tree, is_sure}

-- What is wrong with the bytes, and at which place; places count from 0.
pub data Fault : Type 0 where
  -- the first byte is this one, which is no kind of message
  bad_kind : (byte : ℕ) → Fault
  -- the field at the place isn't whole
  short : (place : ℕ) → Fault
  -- the number at the place isn't one that is allowed there
  bad_field : (place : ℕ) → Fault
  -- the cases at the place are whole, but no polyvalue
  bad_poly : (place : ℕ) → Fault
  -- the byte at the place is after the end
  extra : (place : ℕ) → Fault

-- The first fault where a number comes next, after which bytes have these faults.
pub data NumberFault (size : ℕ) (allows : ℕ → Bool) (Later : ℕ → ℕ → List ℕ → Fault → Type 0) (place : ℕ) (bytes : List ℕ) : Fault → Type 0 where
  is_short : length bytes < size → NumberFault size allows Later place bytes (short place)
  is_refused : (value : ℕ) (front rest : List ℕ) → bytes ≡ front ++ rest → IsNumber size value front → IsFalse (allows value)
      → NumberFault size allows Later place bytes (bad_field place)
  is_later : (value : ℕ) (front rest : List ℕ) (fault : Fault) → bytes ≡ front ++ rest → IsAllowed size allows value front
      → Later value (place + size) rest fault → NumberFault size allows Later place bytes fault

-- The first fault where nothing may come.
pub data EndFault (place : ℕ) (bytes : List ℕ) : Fault → Type 0 where
  is_extra : bytes ≢ [] → EndFault place bytes (extra place)

module _ (Spells : Form → List (Case ℤ) → List ℕ → Type 0) (PolyvalueFault : Form → ℕ → List ℕ → Fault → Type 0) where
  -- The first fault where a polyvalue of this form comes next.
  pub data PartFault (form : Form) (Later : ℕ → List ℕ → Fault → Type 0) (place : ℕ) (bytes : List ℕ) : Fault → Type 0 where
    is_within : (fault : Fault) → PolyvalueFault form place bytes fault → PartFault form Later place bytes fault
    is_after : (cases : List (Case ℤ)) (front rest : List ℕ) (fault : Fault) → bytes ≡ front ++ rest → Spells form cases front
        → Later (place + length front) rest fault → PartFault form Later place bytes fault

  -- From this place on stand these bytes, and this is their first fault by the layout, with polyvalues spelled in this way and
  -- these faults within them.
  abbrev pub HasFaultBy : Layout → ℕ → List ℕ → Fault → Type 0
  HasFaultBy anything place bytes fault = ⊥
  HasFaultBy nothing_more place bytes fault = EndFault place bytes fault
  HasFaultBy (number_then size allows next) place bytes fault = NumberFault size allows (λ value. HasFaultBy (next value)) place bytes fault
  HasFaultBy (polyvalue_then form next) place bytes fault = PartFault form (HasFaultBy next) place bytes fault

-- The first fault by a layout in which there is no polyvalue.
abbrev pub HasFieldFault : Layout → ℕ → List ℕ → Fault → Type 0
HasFieldFault = HasFaultBy (λ form cases bytes. ⊥) (λ form place bytes fault. ⊥)

-- The first fault of the tree of a polyvalue, which is to begin at this place, where these bytes stand. Anything may follow it.
pub data TreeFault (place : ℕ) (bytes : List ℕ) : Fault → Type 0 where
  is_in_fields : (fault : Fault) → HasFieldFault (tree_layout anything) place bytes fault → TreeFault place bytes fault
  is_no_polyvalue : (count : ℕ) (tree : Tree) (front rest : List ℕ) → bytes ≡ front ++ rest → SpellsTree count tree front
      → (IsFit count tree → ⊥) → TreeFault place bytes (bad_poly place)

-- The same where it is to be sure.
pub data SureFault (place : ℕ) (bytes : List ℕ) : Fault → Type 0 where
  is_of_tree : (fault : Fault) → TreeFault place bytes fault → SureFault place bytes fault
  is_not_sure : (cases : List (Case ℤ)) (front rest : List ℕ) → bytes ≡ front ++ rest → SpellsPolyvalue cases front
      → IsFalse (is_sure cases) → SureFault place bytes (bad_poly place)

-- The first fault of the cases of a polyvalue, likewise.
pub data CasesFault (place : ℕ) (bytes : List ℕ) : Fault → Type 0 where
  is_in_case_fields : (fault : Fault) → HasFieldFault (cases_layout anything) place bytes fault → CasesFault place bytes fault
  are_no_polyvalue : (cases : List (Case ℤ)) (front rest : List ℕ) → bytes ≡ front ++ rest → SpellsCases cases front
      → (IsPolyvalue HELD_NAMES cases → ⊥) → CasesFault place bytes (bad_poly place)

-- The first fault of a polyvalue of each form.
abbrev pub PolyvalueFault : Form → ℕ → List ℕ → Fault → Type 0
PolyvalueFault in_tree = TreeFault
PolyvalueFault in_sure_tree = SureFault
PolyvalueFault in_cases = CasesFault

-- The first fault by any layout, with polyvalues spelled in the forms that it asks for.
abbrev pub HasFault : Layout → ℕ → List ℕ → Fault → Type 0
HasFault = HasFaultBy SpellsIn PolyvalueFault

-- The number stands for a kind of message with values of which one isn't sure. It is 16 above that of the same messages with sure values alone.
abbrev pub is_unsure_kind : ℕ → Bool
is_unsure_kind number = number == 18 || number == 20

-- The number stands for a kind of message.
abbrev pub is_kind : ℕ → Bool
is_kind number = (nat_le 1 number && nat_le number 8) || is_unsure_kind number

-- The first fault of bytes that are to spell a message. That no value is one that isn't sure, where the kind says that one is, comes after all others.
pub data EnvelopeFault (bytes : List ℕ) : Fault → Type 0 where
  has_no_kind : bytes ≡ [] → EnvelopeFault bytes (short 0)
  has_bad_kind : (kind : ℕ) (rest : List ℕ) → bytes ≡ kind ∷ rest → IsFalse (is_kind kind) → EnvelopeFault bytes (bad_kind kind)
  is_in_message : (kind : ℕ) (rest : List ℕ) (fault : Fault) → bytes ≡ kind ∷ rest → IsTrue (is_kind kind)
      → HasFault (message_layout kind) 1 rest fault → EnvelopeFault bytes fault
  has_only_sure : (envelope : Envelope) (kind : ℕ) (rest : List ℕ) → bytes ≡ kind ∷ rest → IsTrue (is_unsure_kind kind)
      → kind ≡ 16 + kind_number envelope.message → SpellsAfterKind envelope rest → EnvelopeFault bytes (bad_field 0)

-- The first fault of bytes that are to be read as a record, likewise.
pub data RecordFault (bytes : List ℕ) : Fault → Type 0 where
  is_in_record : (fault : Fault) → HasFault (record_layout nothing_more) 0 bytes fault → RecordFault bytes fault
  is_only_sure : (txn : TxnId) (writes : List Read) (rest : List ℕ) → bytes ≡ 4 ∷ rest → IsTrue (are_sure writes)
      → SpellsContentBy SpellsPolyvalue (prepared txn writes) rest → RecordFault bytes (bad_field 0)

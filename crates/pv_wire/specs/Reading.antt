-- What reading a message comes to.
use Rattle.std.specs.Prelude.{◌≡◌, ◌⊎◌, ℕ, ◌+◌, Bool, true, IsTrue}
use Rattle.pv_base.specs.declared.txn.TxnId.{TxnId}
use Rattle.pv_bytes.specs.Reading.{Rest}
use Rattle.pv_fields.specs.Decoding.{Passes}
use Rattle.pv_format.specs.FirstFault.{is_unsure_kind}
use Rattle.pv_format.specs.Form.{Form}
use Rattle.pv_format.specs.Layout.{Layout, site_layout, txn_layout, grant_layout, counted_layout, polyvalue_then, body_layout}
use Rattle.pv_format.specs.Message.{Envelope, Message, granted, prepare, txn_of}
use Rattle.pv_format.specs.MessageSpelling.{SpellsAfterKind, SpellsBody, kind_number}
use Rattle.pv_format.specs.RecordSpelling.{are_sure}

-- The kind that was read is the message's, or is that of such a message with values of which one isn't sure, though all of these are.
abbrev pub IsKindOf : ℕ → Message → Type 0
IsKindOf kind message = (kind ≡ kind_number message) ⊎ (IsTrue (is_unsure_kind kind) × (kind ≡ 16 + kind_number message))

-- All values in the message are sure.
abbrev pub has_only_sure : Message → Bool
has_only_sure (granted txn grant values) = are_sure values
has_only_sure (prepare txn grant writes) = are_sure writes
has_only_sure message = true

-- a grant and items with their polyvalues of this form, at least so many
abbrev pub reads_layout : Form → ℕ → Layout → Layout
reads_layout form fewest next = grant_layout (counted_layout fewest (polyvalue_then form) next)

-- What a message of this kind has after its transaction was read, and the message is of this transaction.
pub record PassesBody (kind : ℕ) (txn : TxnId) (message : Message) (old new : Rest) : Type 0 where
  pub kind_is : IsKindOf kind message
  pub txn_is : txn_of message ≡ txn
  pub passes : Passes (SpellsBody message) (body_layout kind) old new

-- what comes after the kind
abbrev pub after_kind : ℕ → Layout → Layout
after_kind kind next = site_layout (site_layout (txn_layout (body_layout kind next)))

-- What a message of this kind has after the kind was read.
pub record PassesEnvelope (kind : ℕ) (envelope : Envelope) (old new : Rest) : Type 0 where
  pub kind_is : IsKindOf kind envelope.message
  pub passes : Passes (SpellsAfterKind envelope) (after_kind kind) old new

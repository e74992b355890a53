-- Values behind a grant, in the form of their kind.
use Rattle.std.proofs.Common.{◌≡◌, ◌⊎◌, inl, inr, ◌∙◌, ◌+◌, ◌≤◌, ℕ, Bool, true, false, List, Option, IsTrue, if◌then◌else◌, refl, sym, ap, subst, arith}
use Rattle.std.proofs.lemmas.Bool.{true≢false}
use Rattle.std.proofs.lemmas.Bool.Decides.{nat_tests}
use Rattle.pv_base.specs.declared.grant.GrantId.{GrantId}
use Rattle.pv_base.specs.declared.txn.TxnId.{TxnId}
use Rattle.pv_bytes.specs.Reading.{Rest}
use Rattle.pv_model.specs.Alternatives.{Read}
use Rattle.pv_format.specs.FirstFault.{Fault, is_unsure_kind}
use Rattle.pv_format.specs.Form.{Form, SpellsIn, in_tree, in_sure_tree}
use Rattle.pv_format.specs.Layout.{body_layout}
use Rattle.pv_format.specs.Message.{Message, lock, granted, denied, prepare, vote_yes, vote_no, outcome_reported, ask}
use Rattle.pv_format.specs.MessageSpelling.{kind_number}
use Rattle.pv_format.specs.PolyvalueSpelling.{SpellsPolyvalue, SpellsSure}
use Rattle.pv_format.specs.RecordSpelling.{SpellsReadsBy, are_sure}
use Rattle.pv_format.specs.Spelling.{◌followed_by◌, SpellsGrant}
use Rattle.pv_format.specs.Tree.{is_sure}
use Rattle.pv_fields.specs.Decoding.{Passes, Stops}
use Rattle.pv_fields.proofs.ListLemmas.{passes_none}
use Rattle.pv_fields.proofs.PartLemmas.{passes_as}
use Rattle.pv_law_format.proofs.SureLemmas.{reads-hold, reads-other}
use Rattle.pv_wire.specs.Reading.{IsKindOf, PassesBody, has_only_sure, reads_layout}

-- the form of the values in messages of this kind
abbrev pub form_for : ℕ → Form
form_for kind = if is_unsure_kind kind then in_tree else in_sure_tree

-- Values that are read as sure ones are sure.
are_read_sure : (fewest : ℕ) (reads : List Read) (bytes : List ℕ) → SpellsReadsBy SpellsSure fewest reads bytes → are_sure reads ≡ true
are_read_sure fewest reads bytes s = reads-hold SpellsSure is_sure (λ cases b t. t.sure) fewest reads bytes s

as_sure : (fewest : ℕ) (reads : List Read) (bytes : List ℕ) → SpellsReadsBy SpellsSure fewest reads bytes → SpellsReadsBy SpellsPolyvalue fewest reads bytes
as_sure fewest reads bytes s = reads-other SpellsSure SpellsPolyvalue is_sure (λ cases b _ t. t.polyvalue) fewest reads bytes (are_read_sure fewest reads bytes s) s

module _ (grant : GrantId) (fewest : ℕ) (reads : List Read) (old new : Rest) where
  -- A grant and values of this form were read.
  abbrev pub HasReads : Form → Type 0
  HasReads form = Passes (SpellsGrant grant followed_by SpellsReadsBy (SpellsIn form) fewest reads) (reads_layout form fewest) old new

  -- The values were read as sure ones.
  sure_passes : HasReads in_sure_tree → Passes (SpellsGrant grant followed_by SpellsReadsBy SpellsPolyvalue fewest reads) (reads_layout in_sure_tree fewest) old new
  sure_passes passes =
      passes_as (SpellsGrant grant followed_by SpellsReadsBy SpellsSure fewest reads) (SpellsGrant grant followed_by SpellsReadsBy SpellsPolyvalue fewest reads)
      (reads_layout in_sure_tree fewest) old new
      (λ bytes s. record { front = s.front; back = s.back; whole = s.whole; first = s.first; second = as_sure fewest reads s.back s.second }) passes

  sure_reads : HasReads in_sure_tree → are_sure reads ≡ true
  sure_reads passes = are_read_sure fewest reads passes.taken.is.back passes.taken.is.second

-- The kind is that of values of which one isn't sure, whether or not one is so.
unsure_kind : (sure : Bool) (few many kind number : ℕ) → number ≡ (if sure then few else many) → kind ≡ many → many ≡ 16 + few → IsTrue (is_unsure_kind kind)
    → (kind ≡ number) ⊎ (IsTrue (is_unsure_kind kind) × (kind ≡ 16 + number))
unsure_kind true few many kind number is kind_is more unsure = inr (unsure, kind_is ∙ more ∙ ap (λ n. 16 + n) (sym is))
unsure_kind false few many kind number is kind_is more unsure = inl (kind_is ∙ sym is)

module _ (txn : TxnId) (grant : GrantId) (reads : List Read) (old new : Rest) where
  granted_two : HasReads grant 1 reads old new in_sure_tree → PassesBody 2 txn (granted txn grant reads) old new
  granted_two passes = record {
    kind_is = inl (sym (ap (λ (b : Bool). if b then 2 else 18) (sure_reads grant 1 reads old new passes)));
    txn_is = refl;
    passes = sure_passes grant 1 reads old new passes;
  }

  granted_eighteen : HasReads grant 1 reads old new in_tree → PassesBody 18 txn (granted txn grant reads) old new
  granted_eighteen passes =
      record { kind_is = unsure_kind (are_sure reads) 2 18 18 (kind_number (granted txn grant reads)) refl refl refl refl; txn_is = refl; passes = passes }

  prepare_four : HasReads grant 0 reads old new in_sure_tree → PassesBody 4 txn (prepare txn grant reads) old new
  prepare_four passes = record {
    kind_is = inl (sym (ap (λ (b : Bool). if b then 4 else 20) (sure_reads grant 0 reads old new passes)));
    txn_is = refl;
    passes = sure_passes grant 0 reads old new passes;
  }

  prepare_twenty : HasReads grant 0 reads old new in_tree → PassesBody 20 txn (prepare txn grant reads) old new
  prepare_twenty passes =
      record { kind_is = unsure_kind (are_sure reads) 4 20 20 (kind_number (prepare txn grant reads)) refl refl refl refl; txn_is = refl; passes = passes }

  module _ (kind : ℕ) (form : Form) (is : form ≡ form_for kind) where
    -- What a message of granted values has was read.
    pub granted_passes : (kind ≡ 2) ⊎ (kind ≡ 18) → HasReads grant 1 reads old new form → PassesBody kind txn (granted txn grant reads) old new
    granted_passes (inl two) passes =
        subst (λ (k : ℕ). PassesBody k txn (granted txn grant reads) old new) (sym two)
        (granted_two (subst (HasReads grant 1 reads old new) (is ∙ ap form_for two) passes))
    granted_passes (inr eighteen) passes =
        subst (λ (k : ℕ). PassesBody k txn (granted txn grant reads) old new) (sym eighteen)
        (granted_eighteen (subst (HasReads grant 1 reads old new) (is ∙ ap form_for eighteen) passes))

    -- What a message of new values has was read.
    pub prepare_passes : (kind ≡ 4) ⊎ (kind ≡ 20) → HasReads grant 0 reads old new form → PassesBody kind txn (prepare txn grant reads) old new
    prepare_passes (inl four) passes =
        subst (λ (k : ℕ). PassesBody k txn (prepare txn grant reads) old new) (sym four)
        (prepare_four (subst (HasReads grant 0 reads old new) (is ∙ ap form_for four) passes))
    prepare_passes (inr twenty) passes =
        subst (λ (k : ℕ). PassesBody k txn (prepare txn grant reads) old new) (sym twenty)
        (prepare_twenty (subst (HasReads grant 0 reads old new) (is ∙ ap form_for twenty) passes))

module _ (kind : ℕ) (form : Form) (is : form ≡ form_for kind) (old : Rest) (told : Option Fault) where
  -- It wasn't read.
  pub granted_stops : (kind ≡ 2) ⊎ (kind ≡ 18) → Stops (reads_layout form 1) old told → Stops (body_layout kind) old told
  granted_stops (inl two) stops =
      subst (λ (k : ℕ). Stops (body_layout k) old told) (sym two) (subst (λ (f : Form). Stops (reads_layout f 1) old told) (is ∙ ap form_for two) stops)
  granted_stops (inr eighteen) stops =
      subst (λ (k : ℕ). Stops (body_layout k) old told) (sym eighteen) (subst (λ (f : Form). Stops (reads_layout f 1) old told) (is ∙ ap form_for eighteen) stops)

  pub prepare_stops : (kind ≡ 4) ⊎ (kind ≡ 20) → Stops (reads_layout form 0) old told → Stops (body_layout kind) old told
  prepare_stops (inl four) stops =
      subst (λ (k : ℕ). Stops (body_layout k) old told) (sym four) (subst (λ (f : Form). Stops (reads_layout f 0) old told) (is ∙ ap form_for four) stops)
  prepare_stops (inr twenty) stops =
      subst (λ (k : ℕ). Stops (body_layout k) old told) (sym twenty) (subst (λ (f : Form). Stops (reads_layout f 0) old told) (is ∙ ap form_for twenty) stops)

-- What has nothing after its transaction was read.

pub yes_passes : (kind : ℕ) (txn : TxnId) (now : Rest) → kind ≡ 5 → PassesBody kind txn (vote_yes txn) now now
yes_passes kind txn now is =
    subst (λ (k : ℕ). PassesBody k txn (vote_yes txn) now now) (sym is) (record { kind_is = inl refl; txn_is = refl; passes = passes_none now })

pub ask_passes : (kind : ℕ) (txn : TxnId) (now : Rest) → kind ≡ 8 → PassesBody kind txn (ask txn) now now
ask_passes kind txn now is = subst (λ (k : ℕ). PassesBody k txn (ask txn) now now) (sym is) (record { kind_is = inl refl; txn_is = refl; passes = passes_none now })

-- A message of sure values alone has a small number.
number_sure : (message : Message) → has_only_sure message ≡ true → kind_number message ≤ 8
number_sure (lock txn wants) sure = omega arith
number_sure (granted txn grant values) sure = subst (λ (b : Bool). (if b then 2 else 18) ≤ 8) (sym sure) (omega arith)
number_sure (denied txn item holder) sure = omega arith
number_sure (prepare txn grant writes) sure = subst (λ (b : Bool). (if b then 4 else 20) ≤ 8) (sym sure) (omega arith)
number_sure (vote_yes txn) sure = omega arith
number_sure (vote_no txn cause) sure = omega arith
number_sure (outcome_reported txn commits) sure = omega arith
number_sure (ask txn) sure = omega arith

-- One with a value that isn't sure has a great one.
number_unsure : (message : Message) → has_only_sure message ≡ false → 18 ≤ kind_number message
number_unsure (lock txn wants) unsure = absurd (true≢false unsure)
number_unsure (granted txn grant values) unsure = subst (λ (b : Bool). 18 ≤ (if b then 2 else 18)) (sym unsure) (omega arith)
number_unsure (denied txn item holder) unsure = absurd (true≢false unsure)
number_unsure (prepare txn grant writes) unsure = subst (λ (b : Bool). 18 ≤ (if b then 4 else 20)) (sym unsure) (omega arith)
number_unsure (vote_yes txn) unsure = absurd (true≢false unsure)
number_unsure (vote_no txn cause) unsure = absurd (true≢false unsure)
number_unsure (outcome_reported txn commits) unsure = absurd (true≢false unsure)
number_unsure (ask txn) unsure = absurd (true≢false unsure)

-- A kind of values of which one isn't sure is 18 or 20.
unsure_is : (kind : ℕ) → IsTrue (is_unsure_kind kind) → (18 ≤ kind) × (kind ≤ 20)
unsure_is kind unsure = (grind (arith, nat_tests), grind (arith, nat_tests))

-- Where the kind says that a value isn't sure, and all are, it is 16 above the message's own.
pub only_sure : (kind : ℕ) (message : Message) → IsKindOf kind message → IsTrue (is_unsure_kind kind) → has_only_sure message ≡ true → kind ≡ 16 + kind_number message
only_sure kind message (inl own) unsure sure =
    let few = number_sure message sure in let many = (unsure_is kind unsure).0 in absurd (omega (arith, own, few, many))
only_sure kind message (inr other) unsure sure = other.1

-- Else it is the message's own.
pub own_kind : (kind : ℕ) (message : Message) → IsKindOf kind message → (is_unsure_kind kind ≡ false) ⊎ (has_only_sure message ≡ false) → kind ≡ kind_number message
own_kind kind message (inl own) wrong = own
own_kind kind message (inr other) (inl small) = absurd (true≢false (sym other.0 ∙ small))
own_kind kind message (inr other) (inr unsure) =
    let many = number_unsure message unsure in let most = (unsure_is kind other.0).1 in absurd (omega (arith, other.1, many, most))

-- Which bytes have no work in them: those that are too few for a record, those of an empty log, and those of a log that says only that its site has started.
use Rattle.std.proofs.Common.{◌≡◌, ℕ, zero, suc, ◌+◌, ◌≤◌, List, [], ◌∷◌, ◌++◌, length, Some, arith, inl, refl, sym, ap, ◌∙◌, subst, length-append, length-drop}
use Rattle.std.specs.Prelude.{Contains}
use Rattle.pv_disk_model.specs.Size.{Contents}
use Rattle.pv_format.specs.Journal.{framed, records_of}
use Rattle.pv_format.specs.Record.{Record, epoch_begun, prepared, outcome_known}
use Rattle.pv_format.specs.RecordSpelling.{IsReadAs, SpellsRecord}
use Rattle.pv_law_checkpoints.specs.LogContents.{log_contents_of}
use Rattle.pv_law_checkpoints.specs.Roots.{place_at, size_at}
use Rattle.pv_law_checkpoints.specs.TwoAreas.{IsTwoAreas, block_of, formatted}
use Rattle.pv_law_checkpoints.proofs.CheckpointLemmas.{block_length}
use Rattle.pv_law_checkpoints.proofs.ContentsLemmas.{log_contents_of-is}
use Rattle.pv_law_checkpoints.proofs.WorkedLemmas.{formatted_is}
use Rattle.pv_law_format.proofs.AnswerLemmas.{one-record}
use Rattle.pv_law_journal.proofs.SizeLemmas.{length-framed}
use Rattle.pv_launch.specs.Work.{HasNoWork, IsWork}

no-block : (packed : Contents) → length (block_of packed) ≤ 0 → packed ≡ []
no-block [] none = refl
no-block (content ∷ packed) none = absurd (omega (arith, none, length-append (framed content) (block_of packed), length-framed content))

no-records : (later : Contents) → length (records_of later) ≤ 0 → later ≡ []
no-records [] none = refl
no-records (content ∷ later) none = absurd (omega (arith, none))

-- There is no room for a record, nor for a block.
no-contents : (contents : Contents) (bytes : List ℕ) → length bytes ≤ 59 → IsTwoAreas contents bytes → contents ≡ []
no-contents contents bytes few there =
    let log = there.log in
    let size = block_length bytes there.at there.packed log.block in
    let packed = no-block there.packed (omega (arith, size, few, log.block.behind_roots, log.block.ends)) in
    let behind = ap length log.is in
    let later = no-records there.later
    (omega (arith, behind, few, length-drop (place_at bytes there.at + size_at bytes there.at) bytes, length-append (records_of there.later) (log.gate ∷ log.rest), log.block.behind_roots, log.block.ends)) in
    there.is ∙ (λ i. packed i ++ later i)

-- Nothing is among none, and only one among one.
none-among : (contents : Contents) (content : List ℕ) → contents ≡ [] → Contains contents content → ⊥
none-among [] content is among = omega (arith, among.1)
none-among (first ∷ contents) content is among = let wrong : ⊥ = cc in wrong

one-among : (content one : List ℕ) → Contains (one ∷ []) content → content ≡ one
one-among content one (zero, below, is) = sym is
one-among content one (suc k, below, is) = absurd (omega (arith, below))

same-held : (bytes : List ℕ) (contents held : Contents) → IsTwoAreas contents bytes → log_contents_of bytes ≡ Some held → contents ≡ held
same-held bytes contents held there is = let both : Some contents ≡ Some held = sym (log_contents_of-is contents bytes there) ∙ is in cc

pub few-idle : (bytes : List ℕ) → length bytes ≤ 59 → HasNoWork bytes
few-idle bytes few contents content entry there among spells work = none-among contents content (no-contents contents bytes few there) among

pub formatted-idle : HasNoWork formatted
formatted-idle = few-idle formatted (omega (arith, formatted_is.2))

not-work : (entry : Record) (epoch : ℕ) → entry ≡ epoch_begun epoch → IsWork entry → ⊥
not-work (epoch_begun other) epoch is work = work
not-work (prepared txn writes) epoch is work = let wrong : ⊥ = cc in wrong
not-work (outcome_known txn commits) epoch is work = let wrong : ⊥ = cc in wrong

pub empty-idle : (bytes : List ℕ) → log_contents_of bytes ≡ Some [] → HasNoWork bytes
empty-idle bytes held contents content entry there among spells work = none-among contents content (same-held bytes contents [] there held) among

pub started-idle : (bytes start : List ℕ) (epoch : ℕ) → SpellsRecord (epoch_begun epoch) start → log_contents_of bytes ≡ Some (start ∷ []) → HasNoWork bytes
started-idle bytes start epoch is held contents content entry there among spells work =
    let one = one-among content start (subst (λ (all : Contents). Contains all content) (same-held bytes contents (start ∷ []) there held) among) in
    not-work entry epoch (one-record start entry (epoch_begun epoch) (subst (IsReadAs entry) one spells) (inl is)) work

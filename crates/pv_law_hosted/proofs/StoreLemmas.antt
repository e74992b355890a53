-- What a write of the host stores, and that what a log holds stays as it is written.
use Rattle.std.proofs.Common.{◌≡◌, ◌⊎◌, inl, inr, ℕ, Bool, true, false, Option, List, [], ◌∷◌, ◌++◌, Some, None, append-nil, refl, sym, ap, subst, ◌∙◌}
use Rattle.std.specs.Prelude.{option_to_list}
use Rattle.pv_base.proofs.Basics.{Some_inj}
use Rattle.pv_disk_model.specs.Size.{Contents}
use Rattle.pv_format.specs.Contents.{AreWritten}
use Rattle.pv_format.specs.Record.{Record}
use Rattle.pv_law_format.proofs.ReplayLemmas.{written-more}
use Rattle.pv_site.specs.OnLog.{Logs}
use Rattle.pv_host.specs.HostLaws.{host_model}
use Rattle.pv_host.specs.HostLog.{HostState, HostWrite, IsSameBesideRoom, contents_of, next_write, with_written, write_after, written_to}
use Rattle.pv_embed.specs.Hosted.{HostedState}

-- All of the group is stored that the host was asked to write.
abbrev pub StoresGroup : HostState → HostState → Type 0
StoresGroup old new = (first : List ℕ) × ((later : Contents) × (old.asked ≡ first ∷ later) × (new.stored ≡ old.stored ++ first ∷ later))

written-stores : (log : HostState) (asked : Contents) (behind_gate : Bool) (write : HostWrite) → write_after log.stored asked behind_gate ≡ Some write
    → ((written_to log asked behind_gate).stored ≡ log.stored)
    ⊎ ((first : List ℕ) × ((later : Contents) × (asked ≡ first ∷ later) × ((written_to log asked behind_gate).stored ≡ log.stored ++ first ∷ later)))
written-stores log [] behind_gate write is = inl refl
written-stores log (first ∷ later) false write is = inl refl
written-stores log (first ∷ later) true write is = inr (first, (later, refl, refl))

-- A write stores nothing, or all of the group.
pub write-stores : (old new : HostState) (write : HostWrite) → next_write old ≡ Some write → IsSameBesideRoom (with_written old) new
    → (new.stored ≡ old.stored) ⊎ StoresGroup old new
write-stores old new write is same =
    let stored = ap (λ (log : HostState). log.stored) same in
    elim (written-stores old old.asked old.behind_gate write is) [
      | inl still ↦ inl (stored ∙ still)
      | inr group ↦ inr (group.0, (group.1.0, group.1.1, stored ∙ group.1.2))
    ]

idle-stores : (log : HostState) (asked : Contents) (behind_gate : Bool) → write_after log.stored asked behind_gate ≡ None
    → (written_to log asked behind_gate).stored ≡ log.stored
idle-stores log [] behind_gate is = refl
idle-stores log (first ∷ later) false is = absurd cc
idle-stores log (first ∷ later) true is = absurd cc

pub idle-stored : (old new : HostState) → next_write old ≡ None → IsSameBesideRoom (with_written old) new → new.stored ≡ old.stored
idle-stored old new is same = ap (λ (log : HostState). log.stored) same ∙ idle-stores old old.asked old.behind_gate is

-- ## What the log holds
-- Where a site is the same but for its log, which holds what it held, that is written still.
pub still-written : (site next : HostedState) → next ≡ record site { site = record site.site { log = next.site.log } } → contents_of next.site.log ≡ contents_of site.site.log
    → AreWritten site.site.records (contents_of site.site.log) → AreWritten next.site.records (contents_of next.site.log)
still-written site next is same whole =
    subst (λ (l : List Record). AreWritten l (contents_of next.site.log)) (sym (ap (λ (h : HostedState). h.site.records) is))
    (subst (AreWritten site.site.records) (sym same) whole)

-- What a step appends is written.
pub logged-written : (appended : Option Record) (old new : HostState) (records : List Record) → Logs host_model old new appended → AreWritten records (contents_of old)
    → AreWritten (records ++ option_to_list appended) (contents_of new)
logged-written None old new records same written =
    subst (λ (l : List Record). AreWritten l (contents_of new)) (sym (append-nil records)) (subst (λ (log : HostState). AreWritten records (contents_of log)) (sym same) written)
logged-written (Some more) old new records logs written =
    let content = logs.1.0 in
    subst (AreWritten (records ++ more ∷ [])) (sym (Some_inj (logs.1.2.contents (contents_of old) refl))) (written-more records (contents_of old) more content written logs.1.1)

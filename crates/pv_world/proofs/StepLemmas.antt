-- What an append of a record comes to on a site's disk, where a fault may be armed, and what a step makes of the disk.
use Rattle.std.proofs.Common.{◌≡◌, ◌⊎◌, inl, inr, ℕ, ◌+◌, Bool, true, false, List, [], ◌∷◌, ◌++◌, Option, Some, None, length, refl, sym, subst}
use Rattle.std.specs.Prelude.{nat_lt, option_to_list}
use Rattle.std.specs.Option.{option_map}
use Rattle.std.proofs.lemmas.Bool.{true≢false}
use Rattle.std.proofs.lemmas.List.{append-nil}
use Rattle.pv_format.specs.Checkpoint.{Standing}
use Rattle.pv_disk.specs.MemDisk.{MemState}
use Rattle.pv_disk.specs.MemLaws.{mem_model}
use Rattle.pv_disk.specs.declared.arms.Arm as disk
use Rattle.pv_format.specs.Contents.{AreWritten}
use Rattle.pv_format.specs.Record.{Record}
use Rattle.pv_format.specs.RecordSpelling.{SpellsRecord}
use Rattle.pv_ckpt.specs.Armed.{AppendsArmed, Holds, HoldsUp}
use Rattle.pv_journal.specs.Armed.{contents_left}
use Rattle.pv_ckpt.specs.CkptLog.{IsIntact, LogGoes}
use Rattle.pv_ckpt.specs.CkptModel.{ckpt_model}
use Rattle.pv_ckpt.specs.declared.ckpt_log.CkptLog.{CkptLog}
use Rattle.pv_disk_model.specs.Calls.{Makes, append, reserve}
use Rattle.pv_disk_model.specs.Size.{Contents}
use Rattle.pv_protocol.specs.Arms.{calls_of_append, fires, reached, record_left, waits}
use Rattle.pv_protocol.specs.State.{Arm, Step}
use Rattle.pv_site.specs.OnLog.{Fails, Logs}
use Rattle.pv_world.proofs.RestartArms.{comes-fired, comes-through, fires-within}
use Rattle.pv_law_format.proofs.ReplayLemmas.{written-more}
use Rattle.pv_world.proofs.RestartDisks.{spell-opened}
use Rattle.pv_world.specs.Disks.{Spells, armed_as}

-- An append to a journal that holds these records.
module _ (records : List Record) (contents : Contents) (appended : Record) (content : List ℕ) (spelled : AreWritten records contents) (one : SpellsRecord appended content)
    (standing : Standing) (on : MemState) where
  -- It succeeds: nothing fires in its four calls.
  append-made : (arm : Option Arm) → AppendsArmed contents standing content (option_map armed_as arm) true on
      → (armed : Option Arm) × (reached 4 arm ≡ waits armed) × Spells (records ++ appended ∷ []) standing armed None on
  append-made arm comes =
      let (armed, waiting, holds) = comes-through 3 (contents ++ content ∷ [], standing) (λ fired. (contents_left contents content fired, standing)) on arm comes in
      (armed, waiting, record { contents = contents ++ content ∷ []; spelled = written-more records contents appended content spelled one; holds = holds })

  -- It fails, by a fault that fires.
  append-broken : (arm : Option Arm) → AppendsArmed contents standing content (option_map armed_as arm) false on
      → (fired : Arm) × (reached 4 arm ≡ fires fired) × Spells (records ++ option_to_list (record_left 0 (Some appended) fired)) standing None (Some fired.stops) on
  append-broken arm comes =
      let (fired, is, near, holds) = comes-fired 3 (contents ++ content ∷ [], standing) (λ fired. (contents_left contents content fired, standing)) on arm comes in (
        fired,
        subst (λ (a : Option Arm). reached 4 a ≡ fires fired) (sym is) (fires-within 3 fired near),
        record {
          contents = contents_left contents content (armed_as fired);
          spelled = spell-opened records contents appended content spelled one (nat_lt 2 fired.call) fired.mode;
          holds = holds;
        },
      )

-- The laws of journals on disks in memory.

abbrev pub Rests : Type 0
Rests = (contents : Contents) (standing : Standing) (armed : Option disk.Arm) (journal : CkptLog MemState) → IsIntact mem_model journal → journal.down ≡ false
    → Holds contents standing armed None journal.disk → HoldsUp contents standing armed journal

abbrev pub Appends : Type 0
Appends = (contents : Contents) (standing : Standing) (armed : Option disk.Arm) (old new : CkptLog MemState) (content : List ℕ) (ok : Bool) → HoldsUp contents standing armed old
    → Makes (LogGoes mem_model) old (reserve (length content) ∷ append content ∷ []) ok new
    → AppendsArmed contents standing content armed ok new.disk ⊎ ((ok ≡ false) × Holds contents standing armed None new.disk)

-- A step of a site on a journal with these records, where this is armed. No sync comes before its append.
module _ (rests : Rests) (appends : Appends) (records : List Record) (standing : Standing) (arm : Option Arm) (old new : CkptLog MemState) (intact : IsIntact mem_model old)
    (spells : Spells records standing arm None old.disk) where
  up-holds : old.down ≡ false → HoldsUp spells.contents standing (option_map armed_as arm) old
  up-holds up = rests spells.contents standing (option_map armed_as arm) old intact up spells.holds

  -- It makes all calls of its append, if it has one.
  pub step-made : (appended : Option Record) → Logs (ckpt_model mem_model) old new appended
      → (armed : Option Arm) × (reached (0 + calls_of_append appended) arm ≡ waits armed) × Spells (records ++ option_to_list appended) standing armed None new.disk
  step-made None same = (
    arm,
    refl,
    subst (λ (all : List Record). Spells all standing arm None new.disk) (sym (append-nil records))
        (subst (λ (journal : CkptLog MemState). Spells records standing arm None journal.disk) (sym same) spells),
  )
  step-made (Some appended) (up, (content, one, adds, calls)) =
      by (appends spells.contents standing (option_map armed_as arm) old new content true (up-holds up.was_up) calls)
    where
      by : AppendsArmed spells.contents standing content (option_map armed_as arm) true new.disk
          ⊎ ((true ≡ false) × Holds spells.contents standing (option_map armed_as arm) None new.disk)
          → (armed : Option Arm) × (reached 4 arm ≡ waits armed) × Spells (records ++ appended ∷ []) standing armed None new.disk
      by (inl comes) = append-made records spells.contents appended content spells.spelled one standing new.disk arm comes
      by (inr (failed, holds)) = absurd (true≢false failed)

  -- What the disk holds where the append fails: a fault has fired, or all is as it was.
  abbrev pub Broken : Option Record → Type 0
  Broken appended =
      ((fired : Arm) × (reached (0 + calls_of_append appended) arm ≡ fires fired)
      × Spells (records ++ option_to_list (record_left 0 appended fired)) standing None (Some fired.stops) new.disk)
      ⊎ Spells records standing arm None new.disk

  pub step-broken : (step : Step) → Fails (ckpt_model mem_model) old new step → Broken step.appended
  step-broken step fails =
      by (appends spells.contents standing (option_map armed_as arm) old new fails.content false (up-holds fails.down.was_up)
      (elim fails.calls [ inl (keeps, goes) ↦ inl (refl, goes) | inr (mid, keeps, room, goes) ↦ inr (mid, room, inl (refl, goes)) ]))
    where
      by : AppendsArmed spells.contents standing fails.content (option_map armed_as arm) false new.disk
          ⊎ ((false ≡ false) × Holds spells.contents standing (option_map armed_as arm) None new.disk)
          → Broken step.appended
      by (inl comes) =
          subst (λ (appended : Option Record). Broken appended) (sym fails.is)
          (inl (append-broken records spells.contents fails.appended fails.content spells.spelled fails.spelled standing new.disk arm comes))
      by (inr (failed, holds)) = inr (record { contents = spells.contents; spelled = spells.spelled; holds = holds })

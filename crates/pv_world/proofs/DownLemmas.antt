-- A site that is down over a disk that failed and was mended: nothing was added to its journal, or its records were read.
use Rattle.std.proofs.Common.{◌≡◌, ◌∙◌, ℕ, List, [], ◌∷◌, ◌++◌, Option, Some, None, Ok, refl, sym, ap, arith}
use Rattle.std.specs.Prelude.{option_to_list}
use Rattle.std.proofs.lemmas.List.{append-nil}
use Rattle.pv_disk.specs.MemDisk.{MemState}
use Rattle.pv_disk.specs.MemLaws.{mem_model}
use Rattle.pv_format.specs.Checkpoint.{Standing}
use Rattle.pv_format.specs.Record.{Record}
use Rattle.pv_ckpt.specs.Armed.{Holds}
use Rattle.pv_ckpt.specs.CkptModel.{ckpt_model}
use Rattle.pv_ckpt.specs.Opening as opening
use Rattle.pv_ckpt.specs.declared.ckpt_log.CkptLog.{CkptLog}
use Rattle.pv_law_step.proofs.JournalLemmas.{journal-more}
use Rattle.pv_protocol.specs.Records.{journal_bytes}
use Rattle.pv_site.specs.Recovered.{Remains}
use Rattle.pv_world.proofs.RestartDisks.{holds-contents}
use Rattle.pv_world.proofs.RestartLemmas.{Laws, Sizes}
use Rattle.pv_world.specs.Disks.{Spells}
use Rattle.pv_world.specs.Stands.{StandsForSite}
use Rattle.pv_world.specs.declared.cell.Cell.TheVariants.{Down}

-- A journal that is as long as before has no record more.
pub none-added : (records : List Record) (added : Option Record) → journal_bytes (records ++ option_to_list added) ≡ journal_bytes records → added ≡ None
none-added records None same = refl
none-added records (Some more) same =
    let as_long : journal_bytes (records ++ more ∷ []) ≡ journal_bytes records = same in
    absurd (omega (arith, as_long, journal-more records more))

-- What a disk in memory holds that is mended, once it was opened as a journal.
module _ (laws : Laws) (on : MemState) (journal : CkptLog MemState) (limit : ℕ) (opened : opening.Opens mem_model on limit (Ok journal)) (records : List Record) (standing : Standing)
    (spells : Spells records standing None None on) where
  still-holds : Holds spells.contents standing None None journal.disk
  still-holds = (laws.opens spells.contents standing None on limit journal spells.holds opened).1

  -- It holds what it held.
  pub still-spells : Spells records standing None None journal.disk
  still-spells = record { contents = spells.contents; spelled = spells.spelled; holds = still-holds }

  -- The journal is as long as the records make it.
  pub opened-long : Sizes → journal.length ≡ journal_bytes records
  opened-long sizes =
      (ckpt_model mem_model).size_is journal spells.contents opened.3 opened.4 (holds-contents spells.contents standing None None journal still-holds)
      ∙ sizes records spells.contents spells.spelled

-- Where it is as long as it was, what was left is still so.
pub down-as-left : (laws : Laws) (sizes : Sizes) (on : MemState) (journal : CkptLog MemState) (limit : ℕ) → opening.Opens mem_model on limit (Ok journal)
    → (left : Remains) (length : ℕ) → length ≡ journal_bytes left.records → journal.length ≡ length → left.surplus ≡ 0
    → (added : Option Record) (standing : Standing) → Spells (left.records ++ option_to_list added) standing None None on
    → StandsForSite left.catalog left.me (Down journal.disk left) (record { records = left.records ++ option_to_list added; standing = standing; arm = None; running = None })
down-as-left laws sizes on journal limit opened left length was as_long plain added standing spells =
    let none : added ≡ None = none-added left.records added
    (sym (opened-long laws on journal limit opened (left.records ++ option_to_list added) standing spells sizes) ∙ (as_long ∙ was)) in
    record {
      me = refl;
      catalog = refl;
      records = sym (ap (λ (more : Option Record). left.records ++ option_to_list more) none ∙ append-nil left.records);
      surplus = plain;
      down = refl;
      disk = still-spells laws on journal limit opened (left.records ++ option_to_list added) standing spells;
    }

-- Where the records were read, what is left has them.
pub down-again : (on : MemState) (left now : Remains) (records : List Record) (standing : Standing) → now ≡ record left { records = records } → left.surplus ≡ 0 → Spells records standing None None on
    → StandsForSite left.catalog left.me (Down on now) (record { records = records; standing = standing; arm = None; running = None })
down-again on left now records standing same plain spells = record {
  me = ap (λ (r : Remains). r.me) same;
  catalog = ap (λ (r : Remains). r.catalog) same;
  records = ap (λ (r : Remains). r.records) same;
  surplus = ap (λ (r : Remains). r.surplus) same ∙ plain;
  down = refl;
  disk = spells;
}

-- A site that was opened on a log in which nothing was found.
use Rattle.std.proofs.Common.{◌≡◌, ℕ, ◌+◌, true, List, [], ◌∷◌, ◌++◌, length, Some, refl, sym, ap, ◌∙◌, subst, eqb-true, arith}
use Rattle.std.proofs.lemmas.List.{nil_from_length}
use Rattle.std.specs.Prelude.{⊤}
use Rattle.pv_base.specs.Catalog.{Declared}
use Rattle.pv_base.specs.declared.limits.TheConstants.{HELD_NAMES}
use Rattle.pv_disk_model.specs.LogModel.{LogModel}
use Rattle.pv_disk_model.specs.Size.{Contents, size_of}
use Rattle.pv_format.specs.Contents.{SpellRecords, greatest_epoch}
use Rattle.pv_format.specs.Record.{Record, epoch_begun}
use Rattle.pv_law_step.proofs.StartLemmas.{start-case}
use Rattle.pv_law_step.proofs.JournalLemmas.{no-records-long}
use Rattle.pv_protocol.specs.Records.{journal_bytes}
use Rattle.pv_site.specs.Surplus.{surplus_of}
use Rattle.pv_law_step.proofs.WidthLemmas.{no-empty, other-narrow}
use Rattle.pv_law_step.specs.StartCases.{StartCase, no_epoch_left, no_room, begins}
use Rattle.pv_protocol.specs.Start.{Started, starts, too_long, no_epoch, just_started, site_start}
use Rattle.pv_protocol.specs.State.{Running, Setup}
use Rattle.pv_protocol.specs.Width.{IsNarrow}
use Rattle.pv_protocol.specs.World.{first_site}
use Rattle.pv_site.specs.Opens.{HasOpened}
use Rattle.pv_site.specs.SiteState.{SiteState, setup_of}
use Rattle.pv_cell.specs.Box.{course_site}
use Rattle.pv_cell.specs.Opens.{IsOpened}

abbrev HasBegun : Started → Type 0
HasBegun (starts running new) = ⊤
HasBegun (too_long length) = ⊥
HasBegun no_epoch = ⊥

abbrev running_in : Started → Running
running_in (starts running new) = running
running_in other = just_started 0

abbrev epoch_of : Record → ℕ
epoch_of (epoch_begun epoch) = epoch
epoch_of other = 0

abbrev epoch_in : Started → ℕ
epoch_in (starts running new) = epoch_of new
epoch_in other = 0

starts-are : (setup : Setup) (surplus : ℕ) (records : List Record) (started : Started) → StartCase setup surplus records started → (running : Running) (epoch : ℕ)
    → started ≡ starts running (epoch_begun epoch) → (running ≡ just_started (greatest_epoch records + 1)) × (epoch ≡ greatest_epoch records + 1)
starts-are setup surplus records started (no_epoch_left is) running epoch same = absurd (subst HasBegun (sym same) tt)
starts-are setup surplus records started (no_room is full) running epoch same = absurd (subst HasBegun (sym same) tt)
starts-are setup surplus records started (begins is room) running epoch same = (sym (ap running_in same), sym (ap epoch_in same))

nothing-spelled : (records : List Record) (contents : Contents) → contents ≡ [] → SpellRecords records contents → records ≡ []
nothing-spelled [] contents is spelled = refl
nothing-spelled (first ∷ records) contents is spelled = absurd (subst (λ (all : Contents). SpellRecords (first ∷ records) all) is spelled)

new-narrow : (catalog : Declared) (me epoch : ℕ) (records : List Record) → records ≡ [] → IsNarrow HELD_NAMES catalog me (records ++ epoch_begun epoch ∷ [])
new-narrow catalog me epoch records none =
    other-narrow catalog HELD_NAMES me records
    (subst (IsNarrow HELD_NAMES catalog me) (sym none) record { few = λ before after txn writes item home split. absurd (no-empty before _ after split) })
    (epoch_begun epoch) (λ txn writes same. cc)

module _ {W : Type 0} (M : LogModel W) (log : W) (me : ℕ) (catalog : Declared) (site : SiteState W)
    (first : site.first ≡ true) (opened : HasOpened M log me catalog site) where
  empty : opened.contents ≡ []
  empty = nil_from_length opened.contents (eqb-true (length opened.contents) 0 (sym (ap (λ (s : SiteState W). s.first) opened.site) ∙ first))

  none : opened.records ≡ []
  none = nothing-spelled opened.records opened.contents empty opened.spelled

  begun : (opened.running ≡ just_started 1) × (opened.epoch ≡ 1)
  begun =
      let are = starts-are (setup_of catalog) (surplus_of opened.contents opened.records) opened.records
      (site_start (setup_of catalog) (surplus_of opened.contents opened.records) opened.records)
      (start-case (setup_of catalog) (surplus_of opened.contents opened.records) opened.records) opened.running opened.epoch opened.starts in
      let one : greatest_epoch opened.records + 1 ≡ 1 = ap (λ (records : List Record). greatest_epoch records + 1) none in
      (are.0 ∙ ap just_started one, are.1 ∙ one)

  pub new-opened : IsOpened site
  new-opened =
      subst IsOpened (sym opened.site) record {
        running = opened.running;
        up = refl;
        entries = ap (λ (running : Running). running.entries) begun.0;
        narrow = new-narrow catalog me opened.epoch opened.records none;
        surplus = omega (arith, no-records-long, ap size_of empty, ap journal_bytes none);
      }

  pub new-first : course_site site ≡ first_site
  new-first =
      ap (λ (s : SiteState W). course_site s) opened.site
      ∙ (λ i. record {
        records = none i ++ epoch_begun (begun.1 i) ∷ [];
        standing = first_site.standing;
        arm = first_site.arm;
        running = Some (begun.0 i);
      })

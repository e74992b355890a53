-- What becomes of the sites that were launched, and of their disks.
use Rattle.std.proofs.Common.{◌≡◌, ◌==◌, ℕ, zero, suc, ◌<◌, inl, inr, true, false, List, [], ◌∷◌, ◌++◌, length, get_or, Option, Some, None, refl, sym, ap, ◌∙◌, subst, arith}
use Rattle.std.specs.Prelude.{is_some, if◌then◌else◌, option_and_then}
use Rattle.std.proofs.lemmas.Bool.Decides.{eqb_tells, leb_tells}
use Rattle.std.proofs.lemmas.List.{get_or_append_left, length_push}
use Rattle.std.proofs.Math.Seq.{get_or-append_seam}
use Rattle.pv_base.specs.Catalog.{Declared}
use Rattle.pv_base.specs.Fault.{Rose, risen}
use Rattle.pv_cell.specs.Box.{course_site}
use Rattle.pv_cell.specs.Together.{histories_of}
use Rattle.pv_cell.specs.declared.site_box.SiteBox.{SiteBox}
use Rattle.pv_ckpt.specs.CkptLog.{contents_now}
use Rattle.pv_ckpt.specs.CkptModel.{ckpt_model, log_bytes}
use Rattle.pv_ckpt.specs.declared.ckpt_log.CkptLog.{CkptLog}
use Rattle.pv_closing.specs.Boxes.{IsClosedBox, history_in}
use Rattle.pv_cluster.specs.Endings.{KeptItsLog}
use Rattle.pv_disk.specs.BayAnswers.{TakesBack}
use Rattle.pv_disk.specs.BayModel.{BayModel, Berth}
use Rattle.pv_disk_model.specs.DiskModel.{DiskModel}
use Rattle.pv_disk_model.specs.LogModel.{LogModel}
use Rattle.pv_disk_model.specs.Size.{Contents}
use Rattle.pv_format.specs.Record.{Record}
use Rattle.pv_launch.specs.Disks.{disk_of}
use Rattle.pv_launch.specs.Launching.{AreLaunched, IsBack, IsLaunched}
use Rattle.pv_law_checkpoints.proofs.ContentsLemmas.{log_contents_of-is, log_contents_of-log}
use Rattle.pv_law_checkpoints.proofs.WorkedLemmas.{formatted_is}
use Rattle.pv_law_checkpoints.specs.LogContents.{log_contents_of}
use Rattle.pv_law_checkpoints.specs.TwoAreas.{formatted}
use Rattle.pv_law_histories.specs.Course.{course, left_at, left_by, left_up}
use Rattle.pv_law_histories.specs.Fitting.{history_of}
use Rattle.pv_law_histories.specs.History.{Came, Stamped, done, down, fault}
use Rattle.pv_law_histories.specs.Merge.{Moment, events_of_merge}
use Rattle.pv_model.specs.LiveScript.{LiveScript}
use Rattle.pv_protocol.specs.State.{Running, Setup, Site}
use Rattle.pv_protocol.specs.World.{World, first_site, site_at}
use Rattle.pv_rings.specs.Rings.{Each}
use Rattle.pv_site.specs.OnLog.{HoldsRecords}
use Rattle.pv_site.specs.SiteState.{SiteState, setup_of}
use Rattle.pv_site.specs.Steps.{HoldsWhatRuns}
use Rattle.pv_live.specs.Brought.{AreBroughtBack}
use Rattle.pv_live.specs.Lived.{AreLeftBy, HasMetFault, HasRun, IsElseUnchanged, IsLogOf, IsRunOf, IsServedBy, world_of}
use Rattle.pv_live.proofs.NamingLemmas.{element, history-at}

-- ---- faults
module _ (setup : Setup) (n : ℕ) where
  up-by : (records : List Record) (running : Running) (entry : Stamped) (came : Came) → (came ≡ fault → ⊥)
      → is_some (left_up setup n records running entry came).running ≡ true
  up-by records running entry (done notes) not = refl
  up-by records running entry fault not = absurd (not refl)
  up-by records running entry down not = refl

  up-at : (records : List Record) (running : Option Running) (entry : Stamped) → is_some running ≡ true → (entry.came ≡ fault → ⊥)
      → is_some (left_at setup n records running entry).running ≡ true
  up-at records None entry up not = absurd (let wrong : ⊥ = cc in wrong)
  up-at records (Some running) entry up not = up-by records running entry entry.came not

  -- A site that is up stays so where no step meets a fault.
  pub up-without : (site : Site) (history : List Stamped) → is_some site.running ≡ true → (HasMetFault history → ⊥) → is_some (course setup n site history).running ≡ true
  up-without site [] up none = up
  up-without site (entry ∷ history) up none =
      up-without (left_by setup n site entry) history
      (up-at site.records site.running entry up (λ met. none (entry, (0, omega arith, refl), met)))
      (λ later. none (later.0, (suc later.1.0, (let within = later.1.1 in omega (arith, within)), later.1.2), later.2))

  down-by : (records : List Record) (running : Running) (entry : Stamped) (came : Came) → came ≡ fault → (left_up setup n records running entry came).running ≡ None
  down-by records running entry (done notes) met = absurd (let wrong : ⊥ = cc in wrong)
  down-by records running entry fault met = refl
  down-by records running entry down met = absurd (let wrong : ⊥ = cc in wrong)

  down-at : (records : List Record) (running : Option Running) (entry : Stamped) → entry.came ≡ fault → (left_at setup n records running entry).running ≡ None
  down-at records None entry met = refl
  down-at records (Some running) entry met = down-by records running entry entry.came met

  stays-down : (records : List Record) (running : Option Running) (entry : Stamped) → running ≡ None → (left_at setup n records running entry).running ≡ None
  stays-down records None entry is = refl
  stays-down records (Some running) entry is = absurd (let wrong : ⊥ = cc in wrong)

  down-on : (site : Site) (history : List Stamped) → site.running ≡ None → (course setup n site history).running ≡ None
  down-on site [] is = is
  down-on site (entry ∷ history) is = down-on (left_by setup n site entry) history (stays-down site.records site.running entry is)

  -- It is down once a step has met one.
  pub down-with : (site : Site) (history : List Stamped) → HasMetFault history → (course setup n site history).running ≡ None
  down-with site [] met = absurd (let within = met.1.1 in omega (arith, within))
  down-with site (entry ∷ history) (at, (zero, within, is), met) =
      down-on (left_by setup n site entry) history (down-at site.records site.running entry (ap (λ (e : Stamped). e.came) is ∙ met))
  down-with site (entry ∷ history) (at, (suc k, within, is), met) =
      down-with (left_by setup n site entry) history (at, (k, omega (arith, within), is), met)

-- ---- logs
some-of : {A : Type 0} (content : Option A) → is_some content ≡ true → (held : A) × (content ≡ Some held)
some-of None is = absurd (let wrong : ⊥ = cc in wrong)
some-of (Some held) is = (held, refl)

held-up : {W : Type 0} (M : LogModel W) (log : W) (surplus : ℕ) (records : List Record) (running : Option Running) → is_some running ≡ true
    → HoldsWhatRuns M log surplus records running → HoldsRecords M log surplus records
held-up M log surplus records None up holds = absurd (let wrong : ⊥ = cc in wrong)
held-up M log surplus records (Some running) up holds = holds

-- A count of faults that rose isn't 0, and the count of a site rises by it.
counted-so : (given failed before now : ℕ) → Rose given failed → now ≡ (if failed == 0 then before else risen before) → Rose before now
counted-so given failed before now rose is =
    elim (eqb_tells failed 0) [
      | inl none ↦ absurd (omega (arith, rose, none.1))
      | inr some ↦ let more : now ≡ risen before = is ∙ ap (λ test. if test then before else risen before) some.0 in omega (arith, more)
    ]

module _ {B V : Type 0} (M : BayModel B) (D : DiskModel V) where
  -- ---- handing back
  -- No disk is back so far.
  pub brought-none : (bay : B) → AreBroughtBack M D bay bay []
  brought-none bay = record { back = λ n any below. absurd (omega (arith, below)); beyond = λ n past. refl; faults = refl; tells = refl }

  -- One more disk is back.
  pub brought-more : (old mid new : B) (boxes : List (SiteBox (CkptLog V))) (box : SiteBox (CkptLog V)) (number : ℕ) (disk : V) → AreBroughtBack M D old mid boxes
      → number ≡ length boxes → disk ≡ disk_of box.site → TakesBack M D mid new number disk → AreBroughtBack M D old new (boxes ++ box ∷ [])
  brought-more old mid new boxes box number disk are count is takes =
      let k = length boxes in
      let long = length_push boxes box in
      let now : TakesBack M D mid new k (disk_of box.site) =
      subst (λ n. TakesBack M D mid new n (disk_of box.site)) count (subst (λ d. TakesBack M D mid new number d) is takes) in
      let still : M.berth mid k ≡ M.berth old k = are.beyond k (omega arith) in
      record {
        back = λ n any below.
            elim (leb_tells k n) [
              | inl past ↦
                  let here : k ≡ n = let more = past.1 in omega (arith, below, long, more) in
                  let there : disk_of box.site ≡ disk_of (get_or (boxes ++ box ∷ []) n any).site =
                  sym (ap (λ (one : SiteBox (CkptLog V)). disk_of one.site) (ap (λ m. get_or (boxes ++ box ∷ []) m any) (sym here) ∙ get_or-append_seam boxes box [] any)) in
                  subst (λ d. IsBack M D old new n d) there
                  (subst (λ m. IsBack M D old new m (disk_of box.site)) here (
                    now.is
                        ∙ ap (λ (b : Berth). record b {
                          is_out = false;
                          faults = if D.faults (disk_of box.site) == 0 then b.faults else risen b.faults;
                          holds = (M.berth new k).holds;
                        }) still,
                    λ tells bytes holds. now.holds (are.tells ∙ tells) bytes holds,
                  ))
              | inr before ↦
                  let less : n < k = before.1 in
                  let same : M.berth new n ≡ M.berth mid n = now.stays.others n (λ here. absurd (omega (arith, here, less))) in
                  let there : disk_of (get_or boxes n any).site ≡ disk_of (get_or (boxes ++ box ∷ []) n any).site =
                  ap (λ (one : SiteBox (CkptLog V)). disk_of one.site) (sym (get_or_append_left boxes (box ∷ []) any n less)) in
                  let was = are.back n any less in
                  subst (λ d. IsBack M D old new n d) there (
                    same
                        ∙ (was.0
                        ∙ ap (λ (b : Berth). record (M.berth old n) {
                          is_out = false;
                          faults = if D.faults (disk_of (get_or boxes n any).site) == 0 then (M.berth old n).faults else risen (M.berth old n).faults;
                          holds = b.holds;
                        }) (sym same)),
                    λ tells bytes holds. ap (λ (b : Berth). b.holds) same ∙ was.1 tells bytes holds,
                  )
            ];
        beyond = λ n past. now.stays.others n (λ here. absurd (omega (arith, here, past, long))) ∙ are.beyond n (omega (arith, past, long));
        faults = now.stays.faults ∙ are.faults;
        tells = now.stays.tells ∙ are.tells;
      }

  -- ---- the log of a site that was launched
  known-at-first : (catalog : Declared) (old : B) (n : ℕ) (site : SiteState (CkptLog V)) → IsLaunched M D catalog old n site → M.tells old ≡ true
      → is_some (contents_now D site.log) ≡ true
  known-at-first catalog old n site launched tells =
      let on = launched.begun in
      let held = on.looks.1 ∙ launched.was.holds tells in
      let none = on.empty (M.berth old n).holds held in
      let empty : D.content on.asked ≡ Some [] = held ∙ ap (λ (bytes : List ℕ). Some bytes) none in
      let made = (on.formatted_so.formats.1 [] (on.formatted_so.syncs.observes.content ∙ empty)).0 in
      let opened : contents_now D on.begun.log ≡ Some [] =
      ap (λ (content : Option (List ℕ)). option_and_then log_contents_of content) (on.begun.opens.2 ∙ made)
      ∙ log_contents_of-is [] formatted (record { at = 8; packed = []; later = []; log = formatted_is.0; is = refl }) in
      on.begun.opened.log.known ∙ ap (λ (contents : Option Contents). is_some contents) opened

  module _ (catalog : Declared) (old new : B) (n : ℕ) (site : SiteState (CkptLog V)) (box : SiteBox (CkptLog V))
      (launched : IsLaunched M D catalog old n site) (closed : IsClosedBox (ckpt_model D) catalog n box) (kept : KeptItsLog (ckpt_model D) site box.site)
      (back : IsBack M D old new n (disk_of box.site)) where
    -- Where no step met a fault the disk has the site's records.
    pub holds-so : M.tells old ≡ true → (HasMetFault (history_in box) → ⊥) → IsLogOf box.site.records (M.berth new n).holds
    holds-so tells none =
        let up : is_some box.site.running ≡ true =
        ap (λ (s : Site). is_some s.running) closed.stands ∙ up-without (setup_of catalog) n first_site (history_in box) refl none in
        let holds = held-up (ckpt_model D) box.site.log box.site.surplus box.site.records box.site.running up closed.is_box.ready.holds in
        let contents = some-of (contents_now D box.site.log) (kept.0 ∙ known-at-first catalog old n site launched tells) in
        let bytes = log_bytes (D.content box.site.log.disk) contents.0 contents.1 in
        subst (IsLogOf box.site.records) (sym (back.1 tells bytes.0 bytes.1)) (contents.0, log_contents_of-log contents.0 bytes.0 bytes.2, holds.held contents.0 contents.1)

    -- Where one did, the count of the site rose.
    pub rose-so : HasMetFault (history_in box) → Rose (M.berth old n).faults (M.berth new n).faults
    rose-so met =
        let down : box.site.running ≡ None = ap (λ (s : Site). s.running) closed.stands ∙ down-with (setup_of catalog) n first_site (history_in box) met in
        counted-so (D.faults site.log.disk) (D.faults (disk_of box.site)) (M.berth old n).faults (M.berth new n).faults (kept.2 down) (ap (λ (b : Berth). b.faults) back.0)

  -- ---- all sites
  -- Nobody has handed back anything.
  pub launched-unchanged : (script : LiveScript) (old mid : B) (sites : List (SiteState (CkptLog V))) → AreLaunched M D script.catalog old mid sites
      → IsElseUnchanged M D script old mid
  launched-unchanged script old mid sites launched = record { beyond = launched.beyond; faults = launched.faults; tells = launched.tells }

  module _ (script : LiveScript) (old mid : B) (sites : List (SiteState (CkptLog V))) (boxes : List (SiteBox (CkptLog V)))
      (launched : AreLaunched M D script.catalog old mid sites)
      (by_number : (n : ℕ) (any : SiteState (CkptLog V)) → n < length sites → IsLaunched M D script.catalog old n (get_or sites n any))
      (closed : Each (λ n site box. IsClosedBox (ckpt_model D) script.catalog n box × KeptItsLog (ckpt_model D) site box.site) sites boxes) where
    pub many-boxes : length boxes ≡ script.catalog.sites
    many-boxes = sym closed.0 ∙ launched.new_sites.0

    abbrev site-of : (n : ℕ) (any : SiteBox (CkptLog V)) → SiteState (CkptLog V)
    site-of n any = get_or sites n any.site

    both-at : (n : ℕ) (any : SiteBox (CkptLog V)) → n < length boxes
        → IsClosedBox (ckpt_model D) script.catalog n (get_or boxes n any) × KeptItsLog (ckpt_model D) (site-of n any) (get_or boxes n any).site
    both-at n any below = let many = closed.0 in closed.1 n any.site any (omega (arith, below, many))

    launched-at : (n : ℕ) (any : SiteBox (CkptLog V)) → n < length boxes → IsLaunched M D script.catalog old n (site-of n any)
    launched-at n any below = let many = closed.0 in by_number n any.site (omega (arith, below, many))

    pub closed-at : (n : ℕ) (any : SiteBox (CkptLog V)) → n < length boxes → IsClosedBox (ckpt_model D) script.catalog n (get_or boxes n any)
    closed-at n any below = (both-at n any below).0

    pub numbers-are : (n : ℕ) (any : SiteBox (CkptLog V)) → n < length boxes → (get_or boxes n any).site.me ≡ n
    numbers-are n any below = (both-at n any below).0.number

    pub out-at : (n : ℕ) → n < length boxes → (M.berth mid n).is_out ≡ true
    out-at n below = ap (λ (b : Berth). b.is_out) (launched.out n (omega (arith, below, many-boxes)))

    module _ (new : B) (back : AreBroughtBack M D mid new boxes) where
      back-at : (n : ℕ) (any : SiteBox (CkptLog V)) → n < length boxes → IsBack M D old new n (disk_of (get_or boxes n any).site)
      back-at n any below =
          let disk = disk_of (get_or boxes n any).site in
          let now = back.back n any below in
          let out : M.berth mid n ≡ record (M.berth old n) { is_out = true } = launched.out n (omega (arith, below, many-boxes)) in (
            now.0
                ∙ ap (λ (b : Berth). record b { is_out = false; faults = if D.faults disk == 0 then b.faults else risen b.faults; holds = (M.berth new n).holds }) out,
            λ tells bytes holds. now.1 (launched.tells ∙ tells) bytes holds,
          )

      served-at : (n : ℕ) (any : SiteBox (CkptLog V)) → n < length boxes → IsServedBy M D script old new n (get_or boxes n any)
      served-at n any below = record {
        site = site-of n any;
        launched = launched-at n any below;
        closed = (both-at n any below).0;
        kept = (both-at n any below).1;
        back = back-at n any below;
      }

      pub else-unchanged : IsElseUnchanged M D script old new
      else-unchanged = record {
        beyond = λ n past. back.beyond n (omega (arith, past, many-boxes)) ∙ launched.beyond n past;
        faults = back.faults ∙ launched.faults;
        tells = back.tells ∙ launched.tells;
      }

      module _ (moments : List Moment) (run_so : IsRunOf (setup_of script.catalog) (histories_of boxes) moments)
          (sites_are : (n : ℕ) → n < script.catalog.sites → site_at (world_of (setup_of script.catalog) (events_of_merge moments)) n
          ≡ course (setup_of script.catalog) n first_site (history_of (histories_of boxes) n)) where
        abbrev last : World
        last = world_of (setup_of script.catalog) (events_of_merge moments)

        stands-at : (n : ℕ) (any : SiteBox (CkptLog V)) → n < length boxes → course_site (get_or boxes n any).site ≡ site_at last n
        stands-at n any below =
            (both-at n any below).0.stands
            ∙ ap (λ (history : List Stamped). course (setup_of script.catalog) n first_site history) (sym (history-at boxes n any below))
            ∙ sym (sites_are n (omega (arith, below, many-boxes)))

        left-so : AreLeftBy M D script old new (histories_of boxes) last
        left-so = record {
          holds = λ tells n less none.
              let below : n < length boxes = omega (arith, less, many-boxes) in
              let any = element boxes n below in
              subst (λ (records : List Record). IsLogOf records (M.berth new n).holds) (ap (λ (s : Site). s.records) (stands-at n any below))
              (holds-so script.catalog old new n (site-of n any) (get_or boxes n any) (launched-at n any below) (both-at n any below).0 (both-at n any below).1
              (back-at n any below) tells (λ met. none (subst HasMetFault (sym (history-at boxes n any below)) met)));
          faults = λ n less met.
              let below : n < length boxes = omega (arith, less, many-boxes) in
              let any = element boxes n below in
              rose-so script.catalog old new n (site-of n any) (get_or boxes n any) (launched-at n any below) (both-at n any below).0 (both-at n any below).1
              (back-at n any below) (subst HasMetFault (history-at boxes n any below) met);
        }

        pub has-run : HasRun M D script old new boxes moments
        has-run = record {
          count = many-boxes;
          served = served-at;
          unchanged = else-unchanged;
          is_run = run_so;
          stands = stands-at;
          left = left-so;
        }

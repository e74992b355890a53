-- What is made of disks that are asked for their lengths, and of those on which sites are started.
use Rattle.std.proofs.Common.{◌≡◌, ◌≢◌, inl, inr, ◌⊎◌, true, ℕ, ◌<◌, All, List, [], ◌∷◌, ◌++◌, length, map, reverse, Option, Some, Result, Ok, Err, arith, refl, sym, ap, ◌∙◌, subst}
use Rattle.std.specs.Prelude.{Vec, is_some}
use Rattle.std.specs.declared.alloc.Global.{Global}
use Rattle.std.proofs.lemmas.List.{map-id, nil_from_length}
use Rattle.pv_base.specs.Catalog.{Declared}
use Rattle.pv_base.specs.Fault.{Rose}
use Rattle.pv_base.specs.declared.failure.Failed.{Failed as Fault}
use Rattle.pv_base.specs.declared.txn.SiteId.{SiteId}
use Rattle.pv_ckpt.specs.CkptModel.{log_bytes}
use Rattle.pv_ckpt.specs.declared.ckpt_log.CkptLog.{CkptLog}
use Rattle.pv_disk_model.specs.Calls.{len}
use Rattle.pv_disk_model.specs.Disk.{Observes}
use Rattle.pv_disk_model.specs.DiskModel.{DiskModel}
use Rattle.pv_launch.proofs.OrderedLemmas.{IsUnderWay, paired-all, paired-count, paired-same, paired-through, way-back, way-within}
use Rattle.pv_launch.proofs.StartLemmas.{empty-log, idle-then, some-of}
use Rattle.pv_launch.proofs.WorkLemmas.{few-idle, started-idle}
use Rattle.pv_launch.specs.Disks.{AreEmpty, AreLeft, BeginsAll, IsBegunOn, IsEmpty, IsOfDisks, KeepsFull, Leaves, disk_in, disk_of, why_for}
use Rattle.pv_launch.specs.Ordered.{Paired}
use Rattle.pv_launch.specs.Starting.{HasBegun, Starts, StaysWithout}
use Rattle.pv_launch.specs.Work.{HasNoWork, StaysIdle}
use Rattle.pv_launch.specs.declared.given_up.GivenUp.{GivenUp}
use Rattle.pv_launch.specs.declared.not_launched.NotLaunched.{NotLaunched}
use Rattle.pv_launch.specs.declared.not_launched.NotLaunched.TheVariants.{NotEmpty, BayFault, DiskFault, Misread as LaunchMisread, NoMemory as LaunchNoMemory}
use Rattle.pv_launch.specs.declared.not_started.NotStarted.{NotStarted}
use Rattle.pv_launch.specs.declared.not_started.NotStarted.TheVariants.{Failed, Misread, NoMemory}
use Rattle.pv_law_calls.proofs.LookLemmas.{Looks-call, Looks-none, Looks-trans, still_left}
use Rattle.pv_law_calls.specs.Reading.{LooksOn}
use Rattle.pv_site.specs.SiteState.{SiteState}

of-disks : {D : Type 0} (site : SiteId) (why : NotStarted D) (count : ℕ) → site.0 < count → IsOfDisks (why_for site why) count
of-disks site (Failed disk) count less = less
of-disks site (Misread disk) count less = less
of-disks site (NoMemory disk) count less = tt

module _ {D : Type 0} (M : DiskModel D) where
  -- ---- disks that are only read
  pub looked-same : (disk : D) → LooksOn M disk disk
  looked-same disk = (Looks-none M disk, refl, refl)

  looked-then : (old mid new : D) → LooksOn M old mid → LooksOn M mid new → LooksOn M old new
  looked-then old mid new first second = (Looks-trans M old mid new first.0 second.0, second.1 ∙ first.1, second.2 ∙ first.2)

  pub looked-idle : (old new : D) → LooksOn M old new → StaysIdle M old new
  looked-idle old new looks = record {
    faults = looks.0.faults;
    idle = λ empty. ([], looks.1 ∙ empty, inl (few-idle [] (omega arith)));
  }

  same-idle : (disk : D) → StaysIdle M disk disk
  same-idle disk = looked-idle disk disk (looked-same disk)

  -- ---- disks that aren't empty
  keeps-looked : (old new : D) → LooksOn M old new → KeepsFull M old new
  keeps-looked old new looks = λ held is some. looks

  keeps-empty : (old new : D) → IsEmpty M old → KeepsFull M old new
  keeps-empty old new empty = λ held is some. absurd (some (empty held is))

  keeps-after : (old mid new : D) → LooksOn M old mid → KeepsFull M mid new → KeepsFull M old new
  keeps-after old mid new looks keeps = λ held is some. looked-then old mid new looks (keeps held (looks.1 ∙ is) some)

  keeps-same : (disk : D) → KeepsFull M disk disk
  keeps-same disk = keeps-looked disk disk (looked-same disk)

  pub same-left : (disk : D) → StaysIdle M disk disk × KeepsFull M disk disk
  same-left disk = (same-idle disk, keeps-same disk)

  since-look : (old mid : D) → LooksOn M old mid → (bytes : List ℕ) → HasNoWork bytes ⊎ M.may_leave mid bytes → HasNoWork bytes ⊎ M.may_leave old bytes
  since-look old mid looks bytes (inl idle) = inl idle
  since-look old mid looks bytes (inr may) = inr (still_left M old mid (M.may_leave old) looks.0.any_moment bytes may)

  idle-after : (old mid new : D) → LooksOn M old mid → StaysIdle M mid new → StaysIdle M old new
  idle-after old mid new looks idle = record {
    faults = omega (arith, looks.2, idle.faults);
    idle = λ empty. let now = idle.idle (looks.1 ∙ empty) in (now.0, now.1, since-look old mid looks now.0 now.2);
  }

  module _ (old new : D) (n : ℕ) (goes : M.goes old len true new) (observes : Observes M {X = ℕ} old new (Ok n)) where
    pub asked-so : LooksOn M old new
    asked-so = (Looks-call M {X = ℕ} old new len true (Ok n) tt goes observes, observes.content, observes.uncounted)

    module _ (is : (held : List ℕ) → M.content old ≡ Some held → n ≡ length held) where
      pub empty-so : n ≡ 0 → IsEmpty M new
      empty-so zero held now = nil_from_length held (sym (is held (sym observes.content ∙ now)) ∙ zero)

      pub some-so : n ≢ 0 → M.content old ≢ Some []
      some-so some none = some (is [] none)

  unasked : (old new : D) (e : Fault) → Observes M {X = ℕ} old new (Err e) → StaysIdle M old new × Rose (M.faults old) (M.faults new)
  unasked old new e now = (
    record {
      faults = now.fault.0;
      idle = λ empty.
          let there = some-of (M.content new) (now.known ∙ ap (λ (c : Option (List ℕ)). is_some c) empty) in
          (there.0, there.1, inr (still_left M old new (M.may_leave old) now.any_moment there.0 (M.is_left new there.0 there.1)));
    },
    now.fault.1,
  )

  pub unanswered : (old new : D) (result : Result ℕ Fault) → ((n : ℕ) → result ≡ Ok n → ⊥) → Observes M {X = ℕ} old new result
      → StaysIdle M old new × Rose (M.faults old) (M.faults new)
  unanswered old new (Ok n) not now = absurd (not n refl)
  unanswered old new (Err e) not now = unasked old new e now

  module _ (catalog : Declared) where
    -- ---- disks on which sites run
    begun-without : (n : ℕ) (made : D) (site : SiteState (CkptLog D)) → HasBegun M n catalog made site → StaysWithout M made site.log.disk
    begun-without n made site begun = record {
      faults = omega (arith, begun.opened.up.faults, begun.opens.6);
      idle = λ empty.
          let added = begun.opened.log.contents [] (empty-log M n catalog made begun.log begun.opens empty) in
          let there = log_bytes (M.content site.log.disk) (begun.opened.content ∷ []) added in
          (there.0, there.1, started-idle there.0 begun.opened.content begun.opened.epoch begun.opened.content_is there.2);
    }

    pub begun-idle : (n : ℕ) (taken : D) (site : SiteState (CkptLog D)) → IsBegunOn M catalog n taken site → StaysIdle M taken (disk_of site)
    begun-idle n taken site on =
        idle-after taken on.asked site.log.disk on.looks
        (idle-then M n catalog on.asked on.made on.formatted_so site.log.disk (begun-without n on.made site on.begun))

    begun-keeps : (n : ℕ) (taken : D) (site : SiteState (CkptLog D)) → IsBegunOn M catalog n taken site → KeepsFull M taken (disk_of site)
    begun-keeps n taken site on = keeps-empty taken (disk_of site) (λ held is. on.empty held (on.looks.1 ∙ is))

    looked-begun : (n : ℕ) (old mid : D) (site : SiteState (CkptLog D)) → LooksOn M old mid → IsBegunOn M catalog n mid site → IsBegunOn M catalog n old site
    looked-begun n old mid site looks on = record {
      asked = on.asked;
      looks = looked-then old mid on.asked looks on.looks;
      empty = on.empty;
      made = on.made;
      formatted_so = on.formatted_so;
      begun = on.begun;
    }

    looked-leaves : (why : NotLaunched) (n : ℕ) (old mid new : D) → LooksOn M old mid → Leaves M catalog why n mid new → Leaves M catalog why n old new
    looked-leaves (NotEmpty site) n old mid new looks leaves =
        (looked-then old mid new looks leaves.0, λ is none. leaves.1 is (looks.1 ∙ none))
    looked-leaves BayFault n old mid new looks leaves = looked-then old mid new looks leaves
    looked-leaves (DiskFault site) n old mid new looks leaves =
        (idle-after old mid new looks leaves.0, λ is. subst (λ (k : ℕ). Rose k (M.faults new)) looks.2 (leaves.1 is), λ apart. keeps-after old mid new looks (leaves.2 apart))
    looked-leaves (LaunchMisread site) n old mid new looks leaves = (
      idle-after old mid new looks leaves.0,
      λ is.
          let read = leaves.1 is in
          record {
            asked = read.asked;
            looks = looked-then old mid read.asked looks read.looks;
            made = read.made;
            formatted_so = read.formatted_so;
            reads = read.reads;
            untold = sym looks.1 ∙ read.untold;
          },
      keeps-after old mid new looks leaves.2,
    )
    looked-leaves LaunchNoMemory n old mid new looks leaves = (idle-after old mid new looks leaves.0, keeps-after old mid new looks leaves.1)

    -- Of other disks than the one that it was for.
    idle-leaves : (site : SiteId) (why : NotStarted D) (n : ℕ) (old new : D) → n ≢ site.0 → StaysIdle M old new → KeepsFull M old new
        → Leaves M catalog (why_for site why) n old new
    idle-leaves site (Failed disk) n old new apart idle keeps = (idle, λ is. absurd (apart is), λ other. keeps)
    idle-leaves site (Misread disk) n old new apart idle keeps = (idle, λ is. absurd (apart is), keeps)
    idle-leaves site (NoMemory disk) n old new apart idle keeps = (idle, keeps)

    starts-leaves : (site : SiteId) (why : NotStarted D) (old : D) → IsEmpty M old → Starts M site.0 catalog old (Err why)
        → Leaves M catalog (why_for site why) site.0 old (disk_in why)
    starts-leaves site (Failed disk) old empty starts = (starts.0, λ is. starts.1, λ apart. keeps-empty old disk empty)
    starts-leaves site (Misread disk) old empty starts = (
      starts.0,
      λ is. record { asked = old; looks = looked-same old; made = starts.1.0; formatted_so = starts.1.1; reads = starts.1.2; untold = starts.2 },
      keeps-empty old disk empty,
    )
    starts-leaves site (NoMemory disk) old empty starts = (starts, keeps-empty old disk empty)

    pub starts-begun : (n : ℕ) (old : D) (site : SiteState (CkptLog D)) → IsEmpty M old → Starts M n catalog old (Ok site) → IsBegunOn M catalog n old site
    starts-begun n old site empty starts = record {
      asked = old;
      looks = looked-same old;
      empty = empty;
      made = starts.0;
      formatted_so = starts.1;
      begun = starts.2;
    }

    -- ---- all of them
    -- Each stays as it is, before anything is made of it.
    pub all-same : (why : NotLaunched) (disks : List D) → ((n : ℕ) (disk : D) → Leaves M catalog why n disk disk) → Paired (Leaves M catalog why) 0 disks disks
    all-same why disks each = paired-same (Leaves M catalog why) 0 disks (λ k x below. each k x)

    module _ (all before after : List D) (last : D) (is : before ≡ after ++ last ∷ []) where
      -- Asking stops at one disk.
      module _ (done : List D) (way : IsUnderWay (λ n old new. LooksOn M old new × IsEmpty M new) all before done) (site : SiteId) (here : length after ≡ site.0) (new : D) where
        stop-within : site.0 < length all
        stop-within = subst (λ n. n < length all) here (way-within (λ n old new. LooksOn M old new × IsEmpty M new) all before after last done is way)

        module _ (result : List D) (rejoined : result ≡ after ++ (new ∷ reverse done)) where
          whole : (S : ℕ → D → D → Type 0) → Paired S 0 all (after ++ (new ∷ map (λ (d : D). d) (reverse done))) → Paired S 0 all result
          whole S pairs =
              subst (λ (l : List D). Paired S 0 all l) (sym rejoined) (subst (λ (l : List D). Paired S 0 all (after ++ (new ∷ l))) (map-id (reverse done)) pairs)

          pub stop-failed : StaysIdle M last new × Rose (M.faults last) (M.faults new) → Paired (Leaves M catalog (DiskFault site)) 0 all result × (site.0 < length all)
          stop-failed now = (
            whole (Leaves M catalog (DiskFault site))
                (way-back (λ n old new. LooksOn M old new × IsEmpty M new) all before after last done is way (Leaves M catalog (DiskFault site)) (λ (d : D). d) new
                (λ k x below. (same-idle x, λ same. absurd (omega (arith, below, same, here)), λ apart. keeps-same x))
                (now.0, λ same. now.1, λ apart. absurd (apart here))
                (λ k x y above so. (looked-idle x y so.0, λ same. absurd (omega (arith, above, same, here)), λ apart. keeps-looked x y so.0))),
            stop-within,
          )

          pub stop-not_empty : LooksOn M last new → M.content last ≢ Some [] → Paired (Leaves M catalog (NotEmpty site)) 0 all result × (site.0 < length all)
          stop-not_empty looks some = (
            whole (Leaves M catalog (NotEmpty site))
                (way-back (λ n old new. LooksOn M old new × IsEmpty M new) all before after last done is way (Leaves M catalog (NotEmpty site)) (λ (d : D). d) new
                (λ k x below. (looked-same x, λ same. absurd (omega (arith, below, same, here))))
                (looks, λ same. some)
                (λ k x y above so. (so.0, λ same. absurd (omega (arith, above, same, here))))),
            stop-within,
          )

      -- A site isn't started.
      module _ (done : List (SiteState (CkptLog D))) (way : IsUnderWay (IsBegunOn M catalog) all before done) (site : SiteId) (here : length after ≡ site.0) (why : NotStarted D) where
        fails-within : IsOfDisks (why_for site why) (length all)
        fails-within = of-disks site why (length all) (subst (λ n. n < length all) here (way-within (IsBegunOn M catalog) all before after last done is way))

        fails-so : IsEmpty M last → Starts M site.0 catalog last (Err why) → Paired (Leaves M catalog (why_for site why)) 0 all (after ++ (disk_in why ∷ map disk_of (reverse done)))
        fails-so empty starts =
            let S = Leaves M catalog (why_for site why) in
            way-back (IsBegunOn M catalog) all before after last done is way S disk_of (disk_in why)
            (λ k x below. idle-leaves site why k x x (λ same. absurd (omega (arith, below, same, here))) (same-idle x) (keeps-same x))
            (subst (λ n. S n last (disk_in why)) (sym here) (starts-leaves site why last empty starts))
            (λ k x on above begun.
            idle-leaves site why k x (disk_of on) (λ same. absurd (omega (arith, above, same, here))) (begun-idle k x on begun) (begun-keeps k x on begun))

        pub fails-left : IsEmpty M last → Starts M site.0 catalog last (Err why) → (left : GivenUp D) → left.disks.items ≡ after ++ (disk_in why ∷ map disk_of (reverse done))
            → left.why ≡ why_for site why → AreLeft M catalog all left × IsOfDisks left.why (length all)
        fails-left empty starts left disks_are why_is = (
          subst (λ (w : NotLaunched). Paired (Leaves M catalog w) 0 all left.disks.items) (sym why_is)
              (subst (λ (l : List D). Paired (Leaves M catalog (why_for site why)) 0 all l) (sym disks_are) (fails-so empty starts)),
          subst (λ (w : NotLaunched). IsOfDisks w (length all)) (sym why_is) fails-within,
        )

    -- Where all are empty, what is made of them from then on is made of them as they were taken.
    pub all-empty : (taken asked : List D) → AreEmpty M taken asked → All (IsEmpty M) asked
    all-empty taken asked are = paired-all (λ n old new. LooksOn M old new × IsEmpty M new) (IsEmpty M) 0 taken asked (λ k x y so. so.1) are

    pub as-many : (taken asked : List D) → AreEmpty M taken asked → length asked ≡ length taken
    as-many taken asked are = paired-count (λ n old new. LooksOn M old new × IsEmpty M new) 0 taken asked are

    pub begins-since : (taken asked : List D) → AreEmpty M taken asked → (result : Result (Vec (SiteState (CkptLog D)) Global) (GivenUp D)) → BeginsAll M catalog asked result
        → BeginsAll M catalog taken result
    begins-since taken asked are (Ok sites) begins =
        paired-through (λ n old new. LooksOn M old new × IsEmpty M new) (IsBegunOn M catalog) (IsBegunOn M catalog) 0 taken asked sites.items
        (λ k x y z so on. looked-begun k x y z so.0 on) are begins
    begins-since taken asked are (Err left) begins = (
      paired-through (λ n old new. LooksOn M old new × IsEmpty M new) (Leaves M catalog left.why) (Leaves M catalog left.why) 0 taken asked left.disks.items
          (λ k x y z so leaves. looked-leaves left.why k x y z so.0 leaves) are begins.0,
      subst (IsOfDisks left.why) (as-many taken asked are) begins.1,
    )

-- Which disks of a bay are out, and which are back.
use Rattle.std.proofs.Common.{◌≡◌, inl, inr, ℕ, suc, ◌+◌, ◌<◌, ◌≤◌, ◌==◌, true, false, if◌then◌else◌, List, [], ◌∷◌, ◌++◌, length, get_or, Some, None, Result, Ok, Err, arith, refl, sym, ap, ◌∙◌, subst, append_assoc, length-append}
use Rattle.std.specs.Prelude.{Vec}
use Rattle.std.specs.declared.alloc.Global.{Global}
use Rattle.std.proofs.lemmas.Bool.Decides.{eqb_tells}
use Rattle.std.proofs.lemmas.List.{append-nil, length_push, nil_from_length}
use Rattle.pv_base.specs.Catalog.{Declared}
use Rattle.pv_base.specs.Fault.{Rose, risen}
use Rattle.pv_ckpt.specs.CkptModel.{ckpt_model}
use Rattle.pv_ckpt.specs.declared.ckpt_log.CkptLog.{CkptLog}
use Rattle.pv_disk.specs.BayAnswers.{HandsOut, HandsOutNone, TakesBack}
use Rattle.pv_disk.specs.BayModel.{BayModel, Berth}
use Rattle.pv_disk_model.specs.DiskModel.{DiskModel}
use Rattle.pv_launch.proofs.DiskLemmas.{all-same, looked-same, same-left}
use Rattle.pv_launch.proofs.OrderedLemmas.{numbered-at, numbered-both, numbered-paired, numbered-push, numbered-some, paired-count}
use Rattle.pv_launch.specs.Disks.{BeginsAll, IsBegunOn, IsOfDisks, Leaves}
use Rattle.pv_launch.specs.Launching.{AreBack, AreLaunched, AreTaken, Brings, IsBack, IsCause, IsHandedBack, IsLaunched, IsOfBay, IsRefused, Shows, TakesAll, WasTaken}
use Rattle.pv_opening.specs.Opening.{IsNew}
use Rattle.pv_launch.specs.Ordered.{Numbered}
use Rattle.pv_launch.specs.declared.given_up.GivenUp.{GivenUp}
use Rattle.pv_launch.specs.declared.not_launched.NotLaunched.{NotLaunched}
use Rattle.pv_launch.specs.declared.not_launched.NotLaunched.TheVariants.{NotEmpty, BayFault, DiskFault, Misread, NoMemory}
use Rattle.pv_site.specs.SiteState.{SiteState}

-- The count of a site of which a call has failed.
rises : (failed before now : ℕ) → Rose 0 failed → now ≡ (if failed == 0 then before else risen before) → Rose before now
rises failed before now rose is =
    elim (eqb_tells failed 0) [
      | inl none ↦ absurd (omega (arith, rose, none.1))
      | inr some ↦ let more : now ≡ risen before = is ∙ ap (λ test. if test then before else risen before) some.0 in omega (arith, more)
    ]

module _ {B V : Type 0} (M : BayModel B) (D : DiskModel V) where
  -- ---- taking
  pub taken-none : (bay : B) → AreTaken M D bay bay []
  taken-none bay = record { were = tt; out = λ n less. absurd (omega (arith, less)); beyond = λ n past. refl; tells = refl }

  pub taken-more : (old mid new : B) (disks : List V) (disk : V) → AreTaken M D old mid disks → HandsOut M D mid new (length disks) disk
      → AreTaken M D old new (disks ++ disk ∷ [])
  taken-more old mid new disks disk taken hands =
      let k = length disks in
      let still : M.berth mid k ≡ M.berth old k = taken.beyond k (omega arith) in
      let long = length_push disks disk in
      let here : k ≡ 0 + k = omega arith in
      record {
        were = numbered-push (WasTaken M D old) 0 disks disk taken.were
            (subst (λ n. WasTaken M D old n disk) here
            record { unfailed = hands.unfailed; holds = λ tells. hands.holds (taken.tells ∙ tells) ∙ ap (λ (b : Berth). Some b.holds) still });
        out = λ n less.
            elim (eqb_tells n k) [
              | inl same ↦
                  subst (λ m. M.berth new m ≡ record (M.berth old m) { is_out = true }) (sym same.1)
                  (hands.is ∙ ap (λ (b : Berth). record b { is_out = true }) still)
              | inr apart ↦ hands.stays.others n apart.1 ∙ taken.out n (let other = apart.1 in omega (arith, less, long, other))
            ];
        beyond = λ n past.
            let behind : suc k ≤ n = omega (arith, past, long) in
            hands.stays.others n (λ same. absurd (omega (arith, same, behind))) ∙ taken.beyond n (omega (arith, behind));
        tells = hands.stays.tells ∙ taken.tells;
      }

  pub taken-still : (old mid new : B) (disks : List V) → AreTaken M D old mid disks → HandsOutNone M mid new → AreTaken M D old new disks
  taken-still old mid new disks taken none = record {
    were = taken.were;
    out = λ n less. none.berths n ∙ taken.out n less;
    beyond = λ n past. none.berths n ∙ taken.beyond n past;
    tells = none.tells ∙ taken.tells;
  }

  -- ---- back
  -- The last ones are back, and the first ones, which are left, are out.
  pub record IsReturning (all left : List V) (old new : B) : Type 0 where
    pub behind : List V
    pub split : left ++ behind ≡ all
    pub back : Numbered (IsBack M D old new) (length left) behind
    pub front : (n : ℕ) → n < length left → M.berth new n ≡ M.berth old n
    pub beyond : (n : ℕ) → length all ≤ n → M.berth new n ≡ M.berth old n
    pub faults : M.faults new ≡ M.faults old
    pub tells : M.tells new ≡ M.tells old

  pub back-none : (all : List V) (bay : B) → IsReturning all all bay bay
  back-none all bay = record {
    behind = [];
    split = append-nil all;
    back = tt;
    front = λ n less. refl;
    beyond = λ n past. refl;
    faults = refl;
    tells = refl;
  }

  pub back-more : (all before after : List V) (last : V) (old mid new : B) → before ≡ after ++ last ∷ [] → IsReturning all before old mid
      → TakesBack M D mid new (length after) last → IsReturning all after old new
  back-more all before after last old mid new is way takes =
      let k = length after in
      let one : length before ≡ suc k = let long = length_push after last in omega (arith, long, ap length is) in
      let split : after ++ (last ∷ way.behind) ≡ all =
      sym (append_assoc after (last ∷ []) way.behind) ∙ ap (λ (l : List V). l ++ way.behind) (sym is) ∙ way.split in
      let within : k < length all = let both = simp length-append at (ap length split) in omega (arith, both) in
      let still : M.berth mid k ≡ M.berth old k = way.front k (omega (arith, one)) in
      record {
        behind = last ∷ way.behind;
        split = split;
        back = (
          (
            takes.is
                ∙ ap (λ (b : Berth). record b { is_out = false; faults = if D.faults last == 0 then b.faults else risen b.faults; holds = (M.berth new k).holds }) still,
            λ tells bytes holds. takes.holds (way.tells ∙ tells) bytes holds,
          ),
          subst (λ n. Numbered (IsBack M D old new) n way.behind) one
              (numbered-both (IsBack M D old mid) (IsBack M D old mid) (IsBack M D old new) (length before) way.behind
              (λ n disk from below back also.
              let same : M.berth new n ≡ M.berth mid n = takes.stays.others n (λ here. absurd (omega (arith, here, from, one))) in (
                same
                    ∙ (back.0
                    ∙ ap (λ (b : Berth). record (M.berth old n) { is_out = false; faults = if D.faults disk == 0 then (M.berth old n).faults else risen (M.berth old n).faults; holds = b.holds })
                    (sym same)),
                λ tells bytes holds. ap (λ (b : Berth). b.holds) same ∙ back.1 tells bytes holds,
              )) way.back way.back),
        );
        front = λ n less. takes.stays.others n (λ here. absurd (omega (arith, here, less))) ∙ way.front n (omega (arith, less, one));
        beyond = λ n past. takes.stays.others n (λ here. absurd (omega (arith, here, past, within))) ∙ way.beyond n past;
        faults = takes.stays.faults ∙ way.faults;
        tells = takes.stays.tells ∙ way.tells;
      }

  pub back-end : (all left : List V) (old new : B) → length left ≡ 0 → IsReturning all left old new → AreBack M D old new all
  back-end all left old new end way =
      let none = nil_from_length left end in
      let whole : way.behind ≡ all = ap (λ (l : List V). l ++ way.behind) (sym none) ∙ way.split in
      record {
        back = subst (λ (l : List V). Numbered (IsBack M D old new) 0 l) whole (subst (λ n. Numbered (IsBack M D old new) n way.behind) end way.back);
        beyond = way.beyond;
        faults = way.faults;
        tells = way.tells;
      }

  module _ (catalog : Declared) where
    -- ---- what is out when all sites run, or none does
    cause-of : (why : NotLaunched) (count : ℕ) (old new : B) → IsOfDisks why count → M.faults new ≡ M.faults old → IsCause M D catalog why count old new
    cause-of (NotEmpty site) count old new is same = (is, same)
    cause-of BayFault count old new is same = absurd is
    cause-of (DiskFault site) count old new is same = (is, same)
    cause-of (Misread site) count old new is same = (is, same)
    cause-of NoMemory count old new is same = (is, same)

    cause-since : (why : NotLaunched) (count : ℕ) (old mid new : B) → IsCause M D catalog why count old mid → M.faults new ≡ M.faults mid → IsCause M D catalog why count old new
    cause-since (NotEmpty site) count old mid new is same = (is.0, same ∙ is.1)
    cause-since BayFault count old mid new is same = same ∙ is
    cause-since (DiskFault site) count old mid new is same = (is.0, same ∙ is.1)
    cause-since (Misread site) count old mid new is same = (is.0, same ∙ is.1)
    cause-since NoMemory count old mid new is same = (is.0, same ∙ is.1)

    pub taken-brings : (old new : B) (taken : List V) → AreTaken M D old new taken → length taken ≡ catalog.sites → M.faults new ≡ M.faults old
        → (result : Result (Vec (SiteState (CkptLog V)) Global) (GivenUp V)) → BeginsAll D catalog taken result → Brings M D catalog old new result
    taken-brings old new taken are count same (Ok sites) begins = (taken, are, count, same, begins)
    taken-brings old new taken are count same (Err left) begins =
        (taken, are, omega (arith, count), begins.0, cause-of left.why (length taken) old new begins.1 same)

    of-bay : (why : NotLaunched) (old new : B) → IsOfBay M D why old new
        → ((n : ℕ) (disk : V) → Leaves D catalog why n disk disk) × ((count : ℕ) → IsCause M D catalog why count old new)
    of-bay (NotEmpty site) old new is = absurd is
    of-bay BayFault old new is = (λ n disk. looked-same D disk, λ count. is)
    of-bay (DiskFault site) old new is = absurd is
    of-bay (Misread site) old new is = absurd is
    of-bay NoMemory old new is = (λ n disk. same-left D disk, λ count. (tt, is))

    pub short-brings : (old new : B) (left : GivenUp V) → TakesAll M D catalog.sites old new (Err left) → Brings M D catalog old new (Err left)
    short-brings old new left takes =
        let so = of-bay left.why old new takes.2 in
        (left.disks.items, takes.0, takes.1, all-same D catalog left.why left.disks.items so.0, so.1 (length left.disks.items))

    -- ---- launched, or handed back
    pub launched-so : (old new : B) (sites : Vec (SiteState (CkptLog V)) Global) → Brings M D catalog old new (Ok sites) → AreLaunched M D catalog old new sites.items
    launched-so old new sites brings =
        let taken = brings.0 in
        let are = brings.1 in
        let count = brings.2 in
        let pairs = brings.4 in
        let many : length sites.items ≡ catalog.sites = paired-count (IsBegunOn D catalog) 0 taken sites.items pairs ∙ count in
        let all : Numbered (IsLaunched M D catalog old) 0 sites.items =
        numbered-paired (IsBegunOn D catalog) (WasTaken M D old) (IsLaunched M D catalog old) 0 taken sites.items
        (λ n disk site was on. record { taken = disk; was = was; begun = on }) are.were pairs in
        record {
          new_sites = (
            many,
            λ n any less.
                let here : 0 + n ≡ n = omega arith in
                subst (λ m. IsNew (ckpt_model D) catalog m (get_or sites.items n any)) here
                (let one = numbered-at (IsLaunched M D catalog old) 0 sites.items all n any less in
                let begun = one.begun.begun in
                ((begun.log, begun.opened), begun.first, begun.ready)),
          );
          launched = all;
          out = λ n less. are.out n (omega (arith, less, count));
          beyond = λ n past. are.beyond n (omega (arith, past, count));
          faults = brings.3;
          tells = are.tells;
        }

    shows-so : (why : NotLaunched) (count : ℕ) (old mid new : B) → IsCause M D catalog why count old mid
        → ((n : ℕ) → n < count → IsHandedBack M D catalog why old new n) → Shows M D catalog why old new
    shows-so (NotEmpty site) count old mid new cause each = λ tells none.
        let one = each site.0 cause.0 in
        one.leaves.1 refl (one.was.holds tells ∙ ap (λ (held : List ℕ). Some held) none)
    shows-so BayFault count old mid new cause each = tt
    shows-so (DiskFault site) count old mid new cause each =
        let one = each site.0 cause.0 in
        rises (D.faults one.given) (M.berth old site.0).faults (M.berth new site.0).faults (subst (λ k. Rose k (D.faults one.given)) one.was.unfailed (one.leaves.1 refl))
        (ap (λ (b : Berth). b.faults) one.back.0)
    shows-so (Misread site) count old mid new cause each = λ tells.
        let one = each site.0 cause.0 in
        let both : None ≡ Some (M.berth old site.0).holds = sym (one.leaves.1 refl).untold ∙ one.was.holds tells in
        cc
    shows-so NoMemory count old mid new cause each = tt

    pub refused-so : (old mid new : B) (left : GivenUp V) → Brings M D catalog old mid (Err left) → AreBack M D mid new left.disks.items
        → IsRefused M D catalog old new left.why
    refused-so old mid new left brings back =
        let taken = brings.0 in
        let are = brings.1 in
        let disks = left.disks.items in
        let many : length disks ≡ length taken = paired-count (Leaves D catalog left.why) 0 taken disks brings.3 in
        let P : ℕ → V → Type 0 = λ n given. (disk : V) × WasTaken M D old n disk × Leaves D catalog left.why n disk given in
        let R : ℕ → V → Type 0 = λ n given. IsHandedBack M D catalog left.why old new n in
        let all : Numbered R 0 disks =
        numbered-both P (IsBack M D mid new) R 0 disks
        (λ n given from below was now.
        let out : M.berth mid n ≡ record (M.berth old n) { is_out = true } = are.out n (omega (arith, below, many)) in
        record {
          taken = was.0;
          was = was.1;
          given = given;
          leaves = was.2;
          back = (
            now.0
                ∙ ap (λ (b : Berth). record b { is_out = false; faults = if D.faults given == 0 then b.faults else risen b.faults; holds = (M.berth new n).holds }) out,
            λ tells bytes holds. now.1 (are.tells ∙ tells) bytes holds,
          );
        }) (numbered-paired (Leaves D catalog left.why) (WasTaken M D old) P 0 taken disks (λ n disk given was leaves. (disk, was, leaves)) are.were brings.3) back.back in
        let each : (n : ℕ) → n < length taken → IsHandedBack M D catalog left.why old new n =
        λ n less.
        let here : 0 + n ≡ n = omega arith in
        subst (λ m. IsHandedBack M D catalog left.why old new m) here (numbered-some R 0 disks all n (omega (arith, less, many))).1 in
        record {
          count = length taken;
          few = brings.2;
          each = each;
          beyond = λ n past. back.beyond n (omega (arith, past, many)) ∙ are.beyond n past;
          tells = back.tells ∙ are.tells;
          cause = cause-since left.why (length taken) old mid new brings.4 back.faults;
          shows = shows-so left.why (length taken) old mid new brings.4 each;
        }

    -- Those that are to go back are out.
    pub left-out : (old new : B) (left : GivenUp V) → Brings M D catalog old new (Err left)
        → (length left.disks.items ≤ catalog.sites) × ((n : ℕ) → n < length left.disks.items → (M.berth new n).is_out ≡ true)
    left-out old new left brings =
        let many : length left.disks.items ≡ length brings.0 = paired-count (Leaves D catalog left.why) 0 brings.0 left.disks.items brings.3 in (
          omega (arith, many, brings.2),
          λ n less. ap (λ (b : Berth). b.is_out) (brings.1.out n (omega (arith, less, many))),
        )

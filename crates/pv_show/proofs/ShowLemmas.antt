-- What a look at the disk of a site shows of it.
use Rattle.std.proofs.Common.{◌≡◌, inl, inr, ℕ, ◌+◌, add-one, List, ◌++◌, Some, Result, Ok, Err}
use Rattle.std.specs.Prelude.{Vec}
use Rattle.std.specs.declared.alloc.Global.{Global}
use Rattle.pv_base.specs.Answer.{Answers}
use Rattle.pv_base.specs.Catalog.{Declared}
use Rattle.pv_disk.specs.BayAnswers.{HandsOut, TakesBack}
use Rattle.pv_disk.specs.BayModel.{BayModel}
use Rattle.pv_disk.specs.declared.disk_error.LookError.{LookError}
use Rattle.pv_disk.specs.declared.disk_error.LookError.TheVariants.{Failed, NotOurs, NoMemory}
use Rattle.pv_journal.specs.Opening.{contents_in, place_in}
use Rattle.pv_law_calls.specs.Reading.{LooksBy}
use Rattle.pv_disk_model.specs.Calls.{OnlyReads}
use Rattle.pv_disk_model.specs.DiskModel.{DiskModel}
use Rattle.pv_show.specs.Bays.{ReadsDisk}
use Rattle.pv_show.specs.LookText.{IsToldOfLook}
use Rattle.pv_show.specs.Showing.{ShowsFirst, ShowsSite}
use Rattle.pv_show.specs.SiteText.{IsFoundIn, log, no_log}
use Rattle.pv_show.proofs.ReadLemmas.{failure-counted}

-- What a look answers.
abbrev pub Looked : Type 0
Looked = Result (Vec (Vec ℕ Global) Global) LookError

module _ {B V : Type 0} (M : BayModel B) (D : DiskModel V) where
  -- A look only reads.
  looks-read : (taken given : V) (looked : Looked) → LooksBy D taken given looked → OnlyReads D.goes taken given
  looks-read taken given (Ok contents) looks = looks.0.reads
  looks-read taken given (Err (NotOurs place)) looks = looks.0.reads
  looks-read taken given (Err Failed) looks = looks.0.reads
  looks-read taken given (Err NoMemory) looks = looks.0.reads

  module _ (old out new : B) (site : ℕ) (taken given : V) (looked : Looked) (hands_out : HandsOut M D old out site taken) (looks : LooksBy D taken given looked)
      (takes_back : TakesBack M D out new site given) where
    pub read-by : ReadsDisk M D old new site taken given
    read-by = record { out = out; hands_out = hands_out; uses = looks-read taken given looked looks; takes_back = takes_back }

  -- What is told of a look at the disk is told of the site.
  pub site-shown : (catalog : Declared) (old new : B) (site : ℕ) (taken given : V) (read : ReadsDisk M D old new site taken given) (looked : Looked) (part : List ℕ)
      → LooksBy D taken given looked
      → ((bytes : List ℕ) → D.content taken ≡ Some bytes → Answers (λ contents. IsFoundIn bytes (log contents)) (λ place. IsFoundIn bytes (no_log place)) contents_in place_in looked)
      → IsToldOfLook catalog site looked part → ShowsSite M D catalog old new site part
  site-shown catalog old new site taken given read (Ok contents) part looks answer told =
      record { taken = taken; given = given; disk = read; says = inl (log (contents_in contents), told, (λ bytes is. (answer bytes is).given), looks.1) }
  site-shown catalog old new site taken given read (Err (NotOurs place)) part looks answer told =
      record { taken = taken; given = given; disk = read; says = inl (no_log place, told, (λ bytes is. (answer bytes is).refused), looks.1) }
  site-shown catalog old new site taken given read (Err Failed) part looks answer told =
      record { taken = taken; given = given; disk = read; says = inr (told, failure-counted M D old new site taken given read looks.1) }
  site-shown catalog old new site taken given read (Err NoMemory) part looks answer told = absurd told

  -- One more site is shown.
  pub one-more-site : (catalog : Declared) (site : ℕ) (old mid new : B) (front text : List ℕ) → ShowsFirst M D catalog site old mid front
      → (part : List ℕ) × (text ≡ front ++ part) × ShowsSite M D catalog mid new site part → ShowsFirst M D catalog (site + 1) old new text
  one-more-site catalog site old mid new front text before next = rw add-one (mid, front, next.0, next.1, before, next.2)

-- The contents of a log are told.
use Rattle.std.proofs.Common.{◌≡◌, ◌++◌, ℕ, List, Result, Ok, Err, sym, subst}
use Rattle.std.specs.Prelude.{Vec, OnOk}
use Rattle.std.specs.declared.alloc.Global.{Global}
use Rattle.pv_base.specs.Catalog.{Declared}
use Rattle.pv_replay.specs.Values.{contents_of}
use Rattle.pv_show.specs.LookText.{IsToldOfLook}
use Rattle.pv_show.specs.SiteText.{IsTold, log}
use Rattle.pv_show.proofs.ShowLemmas.{Looked}
use Rattle.pv_show.proofs.site.push_look.Goals as goal

told-of : {X E : Type 0} (catalog : Declared) (site : ℕ) (front text : List ℕ) (read : List (Vec ℕ Global)) (contents : Vec (Vec ℕ Global) Global) (looked : Looked) (result : Result X E)
    → looked ≡ Ok contents → read ≡ contents.items
    → OnOk result ((part : List ℕ) × (text ≡ front ++ part) × IsTold catalog site (log (contents_of read)) part)
    → OnOk result ((part : List ℕ) × (text ≡ front ++ part) × IsToldOfLook catalog site looked part)
told-of catalog site front text read contents looked (Ok x) is same told = (
  told.0,
  told.1,
  subst (λ (l : Looked). IsToldOfLook catalog site l told.0) (sym is)
      (subst (λ (r : List (Vec ℕ Global)). IsTold catalog site (log (contents_of r)) told.0) same told.2),
)
told-of catalog site front text read contents looked (Err e) is same told = told

pub returns-in-Ok : goal.returns-in-Ok
returns-in-Ok c =
    told-of c.args.catalog.now c.args.site.0 c.args.text.now.items c.push_contents.new.text.items c.deref.result.now c.in-Ok.contents c.args.looked c.push_contents.result
    c.in-Ok.is c.deref.ensures.value c.push_contents.ensures

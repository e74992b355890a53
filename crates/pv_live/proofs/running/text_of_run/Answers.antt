-- What is served is brought back and transcribed.
use Rattle.std.proofs.Common.{◌≡◌, ◌<◌, ◌≤◌, ℕ, Vec, List, length, get_or, refl, sym, subst, ap, ◌∙◌, arith}
use Rattle.std.specs.declared.alloc.Global.{Global}
use Rattle.std.proofs.lemmas.Result.{IfOk-weaker}
use Rattle.pv_base.specs.declared.limits.TheConstants.{MAX_REQUESTS}
use Rattle.pv_cell.specs.Together.{histories_of}
use Rattle.pv_ckpt.specs.CkptModel.{ckpt_model}
use Rattle.pv_closing.specs.Clients.{AreServed}
use Rattle.pv_law_histories.specs.Fitting.{CanAllBeDone, FitTogether}
use Rattle.pv_law_histories.specs.History.{Stamped}
use Rattle.pv_law_histories.specs.Merge.{IsMerge, events_of_merge, lines_of_merge, merge}
use Rattle.pv_merge.specs.Moments.{histories_of as merged_of}
use Rattle.pv_script.specs.LiveView.{live_script_of}
use Rattle.pv_script.specs.declared.live.Client.{Client}
use Rattle.pv_site.specs.SiteState.{setup_of}
use Rattle.pv_told.specs.declared.line.ClientLine.{ClientLine}
use Rattle.pv_transcript.specs.Transcript.{transcript}
use Rattle.pv_live.proofs.LivedLemmas.{histories-same, merge-fine, plans-so, sizes-so}
use Rattle.pv_live.proofs.NamingLemmas.{length-histories, told-few, told-fine}
use Rattle.pv_live.proofs.ServedLemmas.{closed-at, else-unchanged, has-run, launched-unchanged, many-boxes, numbers-are, out-at}
use Rattle.pv_live.specs.Lived.{IsRunOf, Lives}
use Rattle.pv_live.specs.Told.{heard_of}
use Rattle.pv_live.proofs.running.text_of_run.Goals as goal

pub run-requires-clause-sites : goal.run-requires-clause-sites
run-requires-clause-sites g c κs lives = c.requires.launched.1.new_sites

pub bring_back-histories-requires-clause-room : goal.bring_back-histories-requires-clause-room
bring_back-histories-requires-clause-room g c =
    let many = many-boxes g.B.Bay.model g.B.D.Disk.model (live_script_of c.args.script.now) c.requires.launched.0 c.args.bay.now c.args.sites.items c.in_ok-boxes.field-0.boxes.items
    c.requires.launched.1 (c.launched_sites_are_numbered.ensures (live_script_of c.args.script.now).catalog c.requires.launched.0 c.args.bay.now c.args.sites.items c.requires.launched.1)
    c.in_ok-boxes.ensures.boxes in
    omega (arith, many, c.requires.room)

pub bring_back-histories-requires-clause-few : goal.bring_back-histories-requires-clause-few
bring_back-histories-requires-clause-few g c =
    let many = many-boxes g.B.Bay.model g.B.D.Disk.model (live_script_of c.args.script.now) c.requires.launched.0 c.args.bay.now c.args.sites.items c.in_ok-boxes.field-0.boxes.items
    c.requires.launched.1 (c.launched_sites_are_numbered.ensures (live_script_of c.args.script.now).catalog c.requires.launched.0 c.args.bay.now c.args.sites.items c.requires.launched.1)
    c.in_ok-boxes.ensures.boxes in
    omega (arith, many, c.sites.ensures.count, c.sites.ensures.bound)

pub bring_back-histories-requires-clause-out : goal.bring_back-histories-requires-clause-out
bring_back-histories-requires-clause-out g c =
    out-at g.B.Bay.model g.B.D.Disk.model (live_script_of c.args.script.now) c.requires.launched.0 c.args.bay.now c.args.sites.items c.in_ok-boxes.field-0.boxes.items
    c.requires.launched.1 (c.launched_sites_are_numbered.ensures (live_script_of c.args.script.now).catalog c.requires.launched.0 c.args.bay.now c.args.sites.items c.requires.launched.1)
    c.in_ok-boxes.ensures.boxes

pub transcribed-requires : goal.transcribed-requires
transcribed-requires g c =
    let M = g.B.Bay.model in
    let D = g.B.D.Disk.model in
    let script = c.args.script.now in
    let clients = script.clients.items in
    let sites = c.args.sites.items in
    let boxes = c.in_ok-boxes.field-0.boxes.items in
    let run = c.in_ok-boxes.ensures in
    let before = c.requires.launched.0 in
    let launched = c.requires.launched.1 in
    let histories = c.deref.result.now in
    let told = c.deref-2.result.now in
    let are = c.deref.ensures.value ∙ c.bring_back-histories.ensures.histories in
    let same = histories-same boxes histories are in
    let closed = closed-at M D (live_script_of script) before c.args.bay.now sites boxes launched (c.launched_sites_are_numbered.ensures script.catalog before c.args.bay.now sites launched) run.boxes in
    let many = many-boxes M D (live_script_of script) before c.args.bay.now sites boxes launched (c.launched_sites_are_numbered.ensures script.catalog before c.args.bay.now sites launched) run.boxes in
    let numbers = numbers-are M D (live_script_of script) before c.args.bay.now sites boxes launched (c.launched_sites_are_numbered.ensures script.catalog before c.args.bay.now sites launched) run.boxes in
    let moments = merge (histories_of boxes) in
    let merged = c.histories_have_one_merge.ensures.there (histories_of boxes) run.fit.rising in
    let prints = c.merged_histories_are_a_run.ensures.lines (setup_of script.catalog) (histories_of boxes) moments run.fit merged in
    let served = subst (AreServed boxes clients) (sym c.deref-2.ensures.value) run.clients in
    let fit : (k : ℕ) (any : Client) → k < length clients → ((get_or clients k any).site.0 < length boxes) × (length (get_or clients k any).requests.items ≤ MAX_REQUESTS) =
    λ k any below. let both = c.live_scripts_are_small.ensures.fit script k any c.requires.script below in (let site = both.0 in omega (arith, site, many), both.1) in
    record {
      fit = subst (FitTogether (setup_of script.catalog)) (sym same) run.fit;
      done = subst (CanAllBeDone script.catalog) (sym same) run.done;
      plans = plans-so (ckpt_model D) script.catalog boxes histories are closed;
      sizes = sizes-so (ckpt_model D) script.catalog boxes histories are closed;
      items = told-fine script.catalog boxes (lines_of_merge moments) (merge-fine script.catalog moments prints)
          (λ n asker line below is.
          c.told_lines_stand_in_histories.ensures.merged (histories_of boxes) moments n asker line merged (omega (arith, below, length-histories boxes)) is)
          numbers clients told served fit;
      few = told-few script.catalog boxes (lines_of_merge moments) (merge-fine script.catalog moments prints)
          (λ n asker line below is.
          c.told_lines_stand_in_histories.ensures.merged (histories_of boxes) moments n asker line merged (omega (arith, below, length-histories boxes)) is)
          numbers clients told served fit (c.live_scripts_are_small.ensures.few script c.requires.script);
    }

-- Where there is no memory no disk is back.
pub returns-in_err-boxes-clause-unchanged : goal.returns-in_err-boxes-clause-unchanged
returns-in_err-boxes-clause-unchanged g c = λ before launched.
    launched-unchanged g.B.Bay.model g.B.D.Disk.model (live_script_of c.args.script.now) before c.args.bay.now c.args.sites.items launched

pub returns-clause-lives : goal.returns-clause-lives
returns-clause-lives g c = λ before launched.
    let M = g.B.Bay.model in
    let D = g.B.D.Disk.model in
    let script = c.args.script.now in
    let boxes = c.in_ok-boxes.field-0.boxes.items in
    let run = c.in_ok-boxes.ensures in
    let setup = setup_of script.catalog in
    let same = histories-same boxes c.deref.result.now (c.deref.ensures.value ∙ c.bring_back-histories.ensures.histories) in
    let moments = merge (histories_of boxes) in
    let merged = c.histories_have_one_merge.ensures.there (histories_of boxes) run.fit.rising in
    let here : IsMerge (merged_of c.deref.result.now) moments = subst (λ (histories : List (List Stamped)). IsMerge histories moments) (sym same) merged in
    let so : IsRunOf setup (histories_of boxes) moments = record {
      fit = run.fit;
      done = run.done;
      merged = merged;
      prints = c.merged_histories_are_a_run.ensures.lines setup (histories_of boxes) moments run.fit merged;
    } in
    let ran = has-run M D (live_script_of script) before c.args.bay.now c.args.sites.items boxes launched
    (c.launched_sites_are_numbered.ensures script.catalog before c.args.bay.now c.args.sites.items launched) run.boxes c.bring_back-histories.new.bay c.bring_back-histories.ensures.back moments so
    (c.merged_histories_are_a_run.ensures.sites setup (histories_of boxes) moments run.fit merged) in
    IfOk-weaker c.transcribed.result
    (λ (text : Vec ℕ Global). text.items ≡ transcript script.catalog setup (events_of_merge moments) (heard_of script.clients.items c.deref-2.result.now))
    (λ (text : Vec ℕ Global). Lives M D (live_script_of script) before c.bring_back-histories.new.bay text.items)
    (λ text is. record {
      boxes = boxes;
      moments = moments;
      has_run = ran;
      clients = script;
      read_so = refl;
      told = c.in_ok-boxes.field-0.clients.items;
      served = run.clients;
      asked = run.asked;
      nobody = run.nobody;
      passed = run.passed;
      plans = run.plans;
      text_is = is ∙ ap (λ (told : List (Vec ClientLine Global)). transcript script.catalog setup (events_of_merge moments) (heard_of script.clients.items told)) c.deref-2.ensures.value;
    }) (c.transcribed.ensures moments here)

pub returns-clause-unchanged : goal.returns-clause-unchanged
returns-clause-unchanged g c = λ before launched.
    else-unchanged g.B.Bay.model g.B.D.Disk.model (live_script_of c.args.script.now) before c.args.bay.now c.args.sites.items c.in_ok-boxes.field-0.boxes.items launched
    (c.launched_sites_are_numbered.ensures c.args.script.now.catalog before c.args.bay.now c.args.sites.items launched) c.in_ok-boxes.ensures.boxes
    c.bring_back-histories.new.bay c.bring_back-histories.ensures.back
